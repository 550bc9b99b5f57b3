-- What the finish of a fetch does to a runner (this project's own).
use Rattle.std.specs.Prelude.{◌≡◌, ℕ, List, Some}
use Rattle.spec_base.specs.Files.{Files}
use Rattle.run_model.specs.Run.{World, Run}
use Rattle.run_model.specs.Moves.{fetch_step}
use Rattle.world_io.specs.Outside.{StoreState}
use Rattle.cache_queue.specs.declared.finish.Finished.{Finished}
use Rattle.runner_parts.specs.Answers.{finish_answer}
use Rattle.runner_parts.specs.Heard.{AreTrueOf, said_by_finish}
use Rattle.runner.specs.Shows.{Shows}
use Rattle.runner.specs.declared.runner.Runner.{Runner}

-- it left these bytes, and led to the run's step over all files of which they are true. Those that the store tells are among them
pub record Finishes (v u : Runner) (old : StoreState) (f : Finished) : Type 0 where
  pub bytes : List ℕ
  pub told : (files : Files) → old.files ≡ Some files → AreTrueOf files (said_by_finish f bytes)
  pub shows : (w : World) (r : Run) → Shows v w r → AreTrueOf w.files (said_by_finish f bytes) → Shows u w (fetch_step w (finish_answer f) r)
