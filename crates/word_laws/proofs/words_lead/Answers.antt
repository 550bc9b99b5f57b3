use Rattle.word_laws.proofs.ShadowSteps.{shadow_words_lead}
use Rattle.word_laws.proofs.ProgramSteps.{program_words_lead}
use Rattle.word_laws.proofs.StubSteps.{stub_words_lead}
use Rattle.word_laws.proofs.words_lead.Goals as goal

pub returns-clause-shadow : goal.returns-clause-shadow
returns-clause-shadow c = shadow_words_lead

pub returns-clause-program : goal.returns-clause-program
returns-clause-program c = program_words_lead

pub returns-clause-stub : goal.returns-clause-stub
returns-clause-stub c = stub_words_lead
