use Rattle.trace_text.proofs.WordLaws.{one_word-more}
use Rattle.trace_text.proofs.words.one.Goals as goal

pub returns-in-Some : goal.returns-in-Some
returns-in-Some c = rw (c.in-Some.ensures) (one_word-more _ _)
