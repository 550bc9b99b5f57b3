-- What is promised of the shadow's numbers, of the words of a running shadow, and of the region table and the region list, in every run (this project's own).
use Rattle.std.specs.Prelude.{◌≡◌}
use Rattle.spec_base.specs.declared.note.ShadowState.TheVariants.{Running}
use Rattle.run_model.specs.Run.{World, Run}
use Rattle.run_model.specs.Moves.{Moves, run}
use Rattle.run_laws.specs.OwnLaws.{Accepted}
use Rattle.run_laws.specs.Completes.{WordCompletes}
use Rattle.run_laws.specs.Numbers.{IsSized}
use Rattle.code_model.specs.Tables.{AreConsistent}

-- the shadow's registers are numbers of 64 bits, all that it loads from has bytes, and the descriptors are lawful
abbrev pub RunsAreSized : Type 0
RunsAreSized = (w : World) → Accepted w → (ms : Moves) → IsSized (run w ms)

-- no word of a running shadow traps: there is one at its pc, and it completes
abbrev pub NoWordTraps : Type 0
NoWordTraps = (w : World) → Accepted w → (ms : Moves) → let r = run w ms in r.shadow.state ≡ Running → WordCompletes w r

-- whatever the shadow is doing, and between any two of its words: the count is at most the layout's regions, the list names an entry for each slot in use, and an entry that isn't 0 is the number of a slot that names it
abbrev pub TablesAreConsistent : Type 0
TablesAreConsistent = (w : World) → Accepted w → (ms : Moves) → AreConsistent w.image.layout (run w ms).shared
