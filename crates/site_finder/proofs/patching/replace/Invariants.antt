-- The places so far have the word.
use Rattle.std.proofs.Common.{◌≡◌, take}
use Rattle.std.specs.Prelude.{fold, slice_set}
use Rattle.site_finder.proofs.patching.replace.Given as goal

abbrev pub invariant-loop-at : goal.invariant-loop-at
invariant-loop-at l = l.text ≡ fold (λ words at. slice_set words at l.word) l.initial.text (take l.at-index l.places)
