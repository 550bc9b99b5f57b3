use Rattle.std.proofs.Common.{◌≡◌, drop}
use Rattle.rv_encode.specs.Code.{first_far}
use Rattle.rv_encode.proofs.closing.far_label.Given as goal

abbrev pub invariant-loop-jump : goal.invariant-loop-jump
invariant-loop-jump l = first_far l.places (drop l.jump-index l.uses) ≡ first_far l.places l.uses
