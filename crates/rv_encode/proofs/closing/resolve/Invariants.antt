use Rattle.std.proofs.Common.{◌≡◌, drop, None}
use Rattle.rv_encode.specs.Code.{first_far, resolved}
use Rattle.rv_encode.proofs.closing.resolve.Given as goal

abbrev pub invariant-loop-jump : goal.invariant-loop-jump
invariant-loop-jump l = record {
  near : first_far l.places (drop l.jump-index l.uses) ≡ None;
  rest : resolved l.places (drop l.jump-index l.uses) l.words ≡ resolved l.places l.uses l.initial.words;
}
