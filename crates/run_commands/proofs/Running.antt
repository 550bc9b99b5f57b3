-- What the parts of the commands `run` and `trace` say together.
use Rattle.std.proofs.Common.{inr, ℕ, List, [], ◌∙◌, Ok}
use Rattle.std.specs.Prelude.{All}
use Rattle.world_io.specs.Outside.{StoreState}
use Rattle.whole_file.specs.Reading.{ReadsWhole}
use Rattle.run_model.specs.Run.{World, opened_run}
use Rattle.run_model.specs.Moves.{run, run_from}
use Rattle.run_laws.specs.OwnLaws.{AllBytes}
use Rattle.plain_runner.specs.Runs.{Outside}
use Rattle.plain_runner.specs.declared.ending.Ending.{Ending}
use Rattle.file_runs.specs.Runs.{run_world}
use Rattle.runner.specs.Causes.{IsLater}
use Rattle.runner.specs.Shows.{Shows}
use Rattle.runner.specs.declared.runner.Runner.{Runner}
use Rattle.program_driver.specs.Causes.{HasCause}
use Rattle.program_driver.specs.Runs.{Drives}
use Rattle.command_words.specs.Limits.{IsWithinLimits}
use Rattle.command_words.specs.declared.request.Request.{Request}
use Rattle.command_status.specs.Common.{EndingStatus, image_name}
use Rattle.run_commands.specs.Opens.{OpensTo}
use Rattle.run_commands.specs.Run.{Going, Ran, ImageTo}
use Rattle.command_status.specs.declared.status.Status.{Status}
use Rattle.command_status.specs.declared.status.Status.TheVariants.{Done, Exited, Trapped, TurnsOver, Usage, Absent, Refused, BadLine, TooMany, StoreFault, SinkFault, NoMemory}

-- a run of no moves stands where it was opened
pub opened-now : (v : Runner) (w : World) → Shows v w (run w []) → Shows v w (opened_run w)
unfolding run_from
opened-now v w h = h

-- an opened file whose moves a runner made
pub driven-Ran : (go : Going) (r : Request) (bytes : List ℕ) (status : Status) (ending : Ending) (first last : Runner) (between : StoreState) (old new : Outside) → IsWithinLimits r
    → AllBytes bytes → All AllBytes r.arguments → ReadsWhole old.store (image_name r) (Ok bytes) between → OpensTo r bytes (Ok first) → EndingStatus ending status
    → Drives (go ending) first last (record old { store = between }) new
    → IsLater (record old { store = between }) new → HasCause ending (record old { store = between }) new → Ran go r status old new
driven-Ran go r bytes status ending first last between old new limits all words read (file, opens, before) gives drives later cause =
    record {
      bytes = bytes;
      file = file;
      between = between;
      read = read;
      opens = opens;
      ending = ending;
      gives = gives;
      moves = drives.moves;
      said = drives.said;
      told = λ files e. drives.told files (read.went.keeps.files ∙ e);
      is_run = λ files are. record {
        are_bytes = all;
        opens = opens;
        some_regions = limits.options.regions.0;
        few_regions = limits.options.regions.1;
        are_words = words;
        are_files = are;
      };
      went = λ files are told. (drives.went (run_world file r.arguments files) (before.stands files are).accepted
          (opened-now first (run_world file r.arguments files) (before.stands files are).shows) told).0;
      later = later;
      cause = cause;
    }

-- moves that were made are an outcome
pub ran-ImageTo : (go : Going) (r : Request) (status : Status) (old new : Outside) → Ran go r status old new → ImageTo go r status old new
ran-ImageTo go r (Exited code) old new h = h
ran-ImageTo go r (Trapped cause pc) old new h = h
ran-ImageTo go r (TurnsOver count) old new h = h
ran-ImageTo go r SinkFault old new h = h
ran-ImageTo go r StoreFault old new h = inr h
ran-ImageTo go r NoMemory old new h = inr h
ran-ImageTo go r Done old new h = absurd h.gives
ran-ImageTo go r Usage old new h = absurd h.gives
ran-ImageTo go r (BadLine number) old new h = absurd h.gives
ran-ImageTo go r TooMany old new h = absurd h.gives
ran-ImageTo go r Absent old new h = absurd h.gives
ran-ImageTo go r (Refused why) old new h = absurd h.gives
