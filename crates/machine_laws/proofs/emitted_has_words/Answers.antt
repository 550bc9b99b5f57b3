use Rattle.machine_laws.proofs.PatchedWords.{patched_decodes}
use Rattle.machine_laws.proofs.Fits.{words_decode}
use Rattle.machine_laws.proofs.Emitted.{stub_has_words, helpers_have_words}
use Rattle.machine_laws.proofs.EmittedBlocks.{blocks_have_words, guard_has_words}
use Rattle.machine_laws.proofs.emitted_has_words.Goals as goal

pub returns-clause-decodes : goal.returns-clause-decodes
returns-clause-decodes c = words_decode

pub returns-clause-stub : goal.returns-clause-stub
returns-clause-stub c = stub_has_words

pub returns-clause-patched : goal.returns-clause-patched
returns-clause-patched c = patched_decodes

pub returns-clause-helpers : goal.returns-clause-helpers
returns-clause-helpers c = helpers_have_words

pub returns-clause-blocks : goal.returns-clause-blocks
returns-clause-blocks c = blocks_have_words

pub returns-clause-guard : goal.returns-clause-guard
returns-clause-guard c = guard_has_words
