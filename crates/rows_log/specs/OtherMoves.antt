-- The moves of the program leave all that the shadow and the stub share (this project's own).
use Rattle.std.specs.Prelude.{◌≡◌}
use Rattle.spec_base.specs.declared.machine.View.TheVariants.{Program}
use Rattle.spec_base.specs.declared.note.Move.TheVariants.{O}
use Rattle.run_model.specs.Run.{World, Run, Answer}
use Rattle.run_model.specs.Moves.{step}

-- an own move in the program
abbrev pub ProgramLeavesShared : Type 0
ProgramLeavesShared = (w : World) (r : Run) (x : Answer) → r.view ≡ Program → (step w r (O, x)).shared ≡ r.shared
