-- What the top call does, status by status (this project's own).
use Rattle.std.specs.Prelude.{◌≡◌, ◌⊎◌, ℕ, List, MatchOption}
use Rattle.world_io.specs.Outside.{SinkState}
use Rattle.plain_runner.specs.Runs.{Outside}
use Rattle.command_words.specs.CommandLine.{command_of}
use Rattle.command_words.specs.declared.command.Command.{Command}
use Rattle.command_words.specs.declared.command.Command.TheVariants.{Plain, Rewrite, Run, Trace, Demo, Replay, Plan}
use Rattle.command_words.specs.declared.request.Request.{Request}
use Rattle.command_status.specs.Common.{image_name, TellsAlone}
use Rattle.run_commands.specs.Run.{RunTo, TraceTo}
use Rattle.run_commands.specs.Demo.{DemoTo}
use Rattle.command_status.specs.declared.status.Status.{Status}
use Rattle.command_status.specs.declared.status.Status.TheVariants.{Usage, NoMemory}
use Rattle.file_commands.specs.Plain.{PlainTo}
use Rattle.file_commands.specs.Rewrite.{RewriteTo}
use Rattle.file_commands.specs.Traces.{ReplayTo, PlanTo}
use Rattle.command_status.specs.Texts.{Tells}

-- what a command does before its status is told
abbrev pub CommandTo : Command → Request → Status → Outside → Outside → Type 0
CommandTo Plain r status old new = PlainTo r status old new
CommandTo Rewrite r status old new = RewriteTo r status old new
CommandTo Run r status old new = RunTo r status old new
CommandTo Trace r status old new = TraceTo r status old new
CommandTo Demo r status old new = DemoTo r status old new
CommandTo Replay r status old new = ReplayTo r status old new
CommandTo Plan r status old new = PlanTo r status old new

-- the top call, for words that are a command line and for others. There may be no memory to read them
abbrev pub TopTo : List (List ℕ) → Status → Outside → Outside → Type 0
TopTo words status old new =
    ((status ≡ NoMemory) × TellsAlone NoMemory old new)
    ⊎ MatchOption (command_of words)
    ((status ≡ Usage) × TellsAlone Usage old new)
    (λ r. (err : SinkState) × CommandTo r.command r status old (record new { err = err }) × Tells status (image_name r) err new.err)

-- the top call's outcome
pub record IsOutcome (words : List (List ℕ)) (status : Status) (old new : Outside) : Type 0 where
  pub by : TopTo words status old new
