-- What a move does to a runner and to the outside (this project's own).
use Rattle.std.specs.Prelude.{◌≡◌, ◌≤◌, ◌<◌, false, List, Some, None}
use Rattle.spec_base.specs.Files.{Files}
use Rattle.spec_base.specs.declared.note.Move.{Move}
use Rattle.spec_base.specs.declared.note.Move.TheVariants.{O}
use Rattle.code_model.specs.Regions.{slots_in_use}
use Rattle.run_model.specs.Run.{World, Run, Answer}
use Rattle.run_model.specs.Moves.{Moves, step, run}
use Rattle.run_laws.specs.OwnLaws.{Accepted, IsShadowMove, own_part}
use Rattle.hart_mem.specs.Held.{spare_of}
use Rattle.plain_runner.specs.Runs.{Outside}
use Rattle.move_requests.specs.Hears.{Hears}
use Rattle.runner_parts.specs.Heard.{Said, AreTrueOf}
use Rattle.runner_parts.specs.Turns.{turn_of}
use Rattle.runner_parts.specs.declared.turn.Turn.{Turn}
use Rattle.runner.specs.Shows.{Shows}
use Rattle.runner.specs.declared.runner.Runner.{Runner}

-- a move of a run, answered so, leads to the run that the runner then shows: the outside was asked what the move asks, and the turn is that of the move. At most the layout's regions are in use, and a move of the shadow leaves all that is the program's
pub record LeadsTo (m : Move) (x : Answer) (answered : Turn) (u : Runner) (w : World) (r : Run) (old new : Outside) : Type 0 where
  pub hears : Hears w r m x old new
  pub shows : Shows u w (step w r (m, x))
  pub turn : answered ≡ turn_of r m (step w r (m, x))
  pub bounded : slots_in_use (step w r (m, x)).shared ≤ w.image.layout.regions
  pub unseen : IsShadowMove m → own_part (step w r (m, x)) ≡ own_part r

-- a move was made: in each run that the runner showed, of an accepted program over any files of which what the store said is true. Those that the store tells are among them
pub record MakesMove (m : Move) (turn : Turn) (v u : Runner) (old new : Outside) : Type 0 where
  pub answer : Answer
  pub said : List Said
  pub told : (files : Files) → old.store.files ≡ Some files → AreTrueOf files said
  pub leads : (w : World) (ms : Moves) → Accepted w → Shows v w (run w ms) → AreTrueOf w.files said → LeadsTo m answer turn u w (run w ms) old new

-- a move of the own hart, which goes on, wants pages: nothing has changed
pub record WantsPages (m : Move) (v u : Runner) (old new : Outside) : Type 0 where
  pub own : m ≡ O
  pub on : v.end ≡ None
  pub goes : v.stalled ≡ false
  pub few : spare_of v.mem < 17
  pub same : u ≡ v
  pub outside : new ≡ old
