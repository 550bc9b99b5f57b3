use Rattle.std.proofs.Common.{refl}
use Rattle.trace_text.proofs.WordLaws.{five_words-cons}
use Rattle.trace_text.proofs.words.five.Goals as goal

pub returns : goal.returns
returns c = rw (c.in_ok-first.ensures, c.in_ok-second.ensures, five_words-cons, c.in_ok-third.ensures) refl
