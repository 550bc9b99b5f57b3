use Rattle.std.proofs.Common.{◌≡◌, drop}
use Rattle.rv_encode.specs.Code.{first_unbound}
use Rattle.rv_encode.proofs.closing.unbound_label.Given as goal

abbrev pub invariant-loop-jump : goal.invariant-loop-jump
invariant-loop-jump l = first_unbound l.places (drop l.jump-index l.uses) ≡ first_unbound l.places l.uses
