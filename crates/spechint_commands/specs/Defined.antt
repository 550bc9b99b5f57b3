-- What the top call does where the store tells its files and no count of faults rises (this project's own).
use Rattle.spec_base.specs.Layout.{file_limit}
use Rattle.std.specs.Prelude.{◌≡◌, ◌⊎◌, ℕ, ◌≤◌, ◌<◌, Bool, true, false, nat_lt, List, [], length, Option, Some, None, Result, Ok, Err}
use Rattle.spec_base.specs.Files.{Files}
use Rattle.world_io.specs.Outside.{SinkState, Steady}
use Rattle.world_io.specs.Logs.{Piece, SinkLog}
use Rattle.world_io.specs.Texts.{PutsText}
use Rattle.elf_image.specs.Profile.{profile}
use Rattle.elf_image.specs.declared.image.Image.{Image}
use Rattle.elf_image.specs.declared.refusal.Refusal.{Refusal}
use Rattle.elf_image.specs.declared.refusal.Refusal.TheVariants.{TooLong}
use Rattle.run_model.specs.Moves.{Moves, run}
use Rattle.run_promises.specs.Schedules.{AreMade}
use Rattle.run_promises.specs.Promises.{IsAsPlain}
use Rattle.file_world.specs.Worlds.{AreFiles}
use Rattle.file_runs.specs.Runs.{run_world, plain_program}
use Rattle.program_driver.specs.Lines.{ArePut}
use Rattle.program_driver.specs.Runs.{report_lines, is_reported}
use Rattle.program_driver.specs.Traces.{over_bottomless, all_lines}
use Rattle.program_model.specs.PlainRun.{State, Image as Program, Taken, plain_state, TrapsAt, end_of}
use Rattle.plain_runner.specs.Runs.{Outside, Agrees, output_of}
use Rattle.plain_runner.specs.declared.ending.Ending.{Ending}
use Rattle.rewriter.specs.Layouts.{rewritten}
use Rattle.command_words.specs.CommandLine.{command_of}
use Rattle.command_words.specs.declared.command.Command.{Command}
use Rattle.command_words.specs.declared.command.Command.TheVariants.{Plain, Rewrite, Run, Trace, Demo, Replay, Plan}
use Rattle.command_words.specs.declared.request.Request.{Request}
use Rattle.spec_base.specs.declared.spot.BlockSpot.{BlockSpot}
use Rattle.trace_text.specs.declared.trace_line.TraceLine.{TraceLine}
use Rattle.trace_text.specs.Lines.{trace_in}
use Rattle.trace_replay.specs.Replays.{replayed}
use Rattle.trace_replay.specs.Totals.{totals_of}
use Rattle.fetch_plan.specs.Needs.{needed_blocks}
use Rattle.fetch_plan.specs.Traces.{HasLeast}
use Rattle.fetch_plan.specs.declared.traces.PlanTotals.{PlanTotals}
use Rattle.command_status.specs.Texts.{text_of}
use Rattle.file_commands.specs.Lines.{replay_line, plan_line}
use Rattle.command_status.specs.Common.{Silent, EndingStatus, PutsLine, image_name}
use Rattle.run_commands.specs.Run.{asked_file}
use Rattle.run_commands.specs.Demo.{IsDemoLine}
use Rattle.file_commands.specs.Plain.{asked_program}
use Rattle.file_commands.specs.Traces.{settings_of}
use Rattle.command_status.specs.declared.status.Status.{Status}
use Rattle.command_status.specs.declared.status.Status.TheVariants.{Done, Exited, Trapped, TurnsOver, Usage, Absent, Refused, BadLine, TooMany, StoreFault, SinkFault, NoMemory}

-- ---- a program's run

-- the status of a plain program that has completed n instructions, of so many that are allowed, and stands in this state
abbrev pub EndsAs : Program → Files → Taken → ℕ → ℕ → State → Status → Type 0
EndsAs p files t turns n s (Exited code) = (n ≤ turns) × (s.exited ≡ Some code)
EndsAs p files t turns n s (Trapped cause pc) = (n < turns) × (s.exited ≡ None) × (end_of p files t s ≡ TrapsAt cause pc)
EndsAs p files t turns n s (TurnsOver count) = (n ≡ turns) × (s.exited ≡ None) × (count ≡ turns)
EndsAs p files t turns n s Done = ⊥
EndsAs p files t turns n s Usage = ⊥
EndsAs p files t turns n s Absent = ⊥
EndsAs p files t turns n s (Refused why) = ⊥
EndsAs p files t turns n s StoreFault = ⊥
EndsAs p files t turns n s SinkFault = ⊥
EndsAs p files t turns n s NoMemory = ⊥
EndsAs p files t turns n s (BadLine number) = ⊥
EndsAs p files t turns n s TooMany = ⊥

-- the plain program runs over the told files, for all counts that agree with what the sinks took; what it put is what they took, and its end is the status
pub record IsPlainRun (p : Program) (files : Files) (turns : ℕ) (status : Status) (old new : Outside) : Type 0 where
  pub n : ℕ
  pub state : State
  pub outs : List Piece
  pub errs : List Piece
  pub reached : (t : Taken) → Agrees t outs errs → plain_state p files t n ≡ Some state
  pub ends : (t : Taken) → Agrees t outs errs → EndsAs p files t turns n state status
  pub out : state.out ≡ output_of outs
  pub err : state.err ≡ output_of errs
  pub out_log : SinkLog old.out outs None new.out
  pub err_log : SinkLog old.err errs None new.err

-- ---- the commands `run` and `trace`

-- an exit, a trap, or the end of the turns
abbrev pub IsEnd : Status → Type 0
IsEnd (Exited code) = Unit {0}
IsEnd (Trapped cause pc) = Unit {0}
IsEnd (TurnsOver count) = Unit {0}
IsEnd other = ⊥

-- the moves of the pattern were made in the file's world and so ended: the program does as by itself, and behind what it put the report's line was put where it was asked for
pub record IsDefinedRun (r : Request) (bytes file : List ℕ) (files : Files) (status : Status) (old new : Outside) : Type 0 where
  pub ending : Ending
  pub gives : EndingStatus ending status
  pub moves : Moves
  pub behind : SinkState
  pub made : AreMade (run_world file r.arguments files) r.options.pattern r.options.turns moves
  pub as_plain : IsAsPlain (plain_program r.options.layout bytes r.arguments) files ending old (record new { err = behind })
  pub reports : ArePut behind (report_lines (is_reported r.options.report ending) (run (run_world file r.arguments files) moves)) new.err

-- and of a trace: the lines of all that the moves tell were put, with those of first uses where they were asked for, and the line of the turns where all were made
pub record IsDefinedTrace (r : Request) (bytes file : List ℕ) (files : Files) (status : Status) (old new : Outside) : Type 0 where
  pub ending : Ending
  pub gives : EndingStatus ending status
  pub moves : Moves
  pub made : AreMade (run_world file r.arguments files) r.options.pattern r.options.turns moves
  pub as_plain : IsAsPlain (plain_program r.options.layout bytes r.arguments) files ending (over_bottomless old.store) (over_bottomless new.store)
  pub lines : ArePut old.out (all_lines r.options.uses (run_world file r.arguments files) moves ending) new.out
  pub err : new.err ≡ old.err

-- what a file comes to: it is refused, or the program of the file that is executed comes to an end
abbrev pub ByOpened : (List ℕ → Type 0) → Result (List ℕ) Refusal → Status → Outside → Outside → Type 0
ByOpened ends (Ok file) status old new = IsEnd status × ends file
ByOpened ends (Err why) status old new = (status ≡ Refused why) × Silent old new

-- ---- commands

-- what a command comes to on an accepted file
abbrev pub ByAccepted : Command → Files → List ℕ → Image → Request → Status → Outside → Outside → Type 0
ByAccepted Plain files bytes image r status old new = IsPlainRun (asked_program r bytes image) files r.options.turns status old new
ByAccepted Rewrite files bytes image r status old new =
    (status ≡ Done) × PutsText old.out (rewritten bytes image r.options.regions r.options.layout) true new.out × (new.err ≡ old.err)
ByAccepted other files bytes image r status old new = ⊥

-- a file that isn't accepted is refused
abbrev pub ByProfile : Command → Result Image Refusal → Files → List ℕ → Request → Status → Outside → Outside → Type 0
ByProfile c (Ok image) files bytes r status old new = ByAccepted c files bytes image r status old new
ByProfile c (Err why) files bytes r status old new = (status ≡ Refused why) × Silent old new

-- a file that was read, by the command
abbrev pub ByBytes : Command → Files → List ℕ → Request → Status → Outside → Outside → Type 0
ByBytes Run files bytes r status old new = ByOpened (λ file. AreFiles files → IsDefinedRun r bytes file files status old new) (asked_file r bytes) status old new
ByBytes Trace files bytes r status old new = ByOpened (λ file. AreFiles files → IsDefinedTrace r bytes file files status old new) (asked_file r bytes) status old new
ByBytes Plain files bytes r status old new = ByProfile Plain (profile bytes r.options.layout) files bytes r status old new
ByBytes Rewrite files bytes r status old new = ByProfile Rewrite (profile bytes r.options.layout) files bytes r status old new
ByBytes other files bytes r status old new = ⊥

-- a file that is too long is refused unread
abbrev pub BySize : Command → Bool → Files → List ℕ → Request → Status → Outside → Outside → Type 0
BySize c true files bytes r status old new = (status ≡ Refused TooLong) × Silent old new
BySize c false files bytes r status old new = ByBytes c files bytes r status old new

-- by whether there is such a file
abbrev pub ByFile : Command → Option (List ℕ) → Files → Request → Status → Outside → Outside → Type 0
ByFile c None files r status old new = (status ≡ Absent) × Silent old new
ByFile c (Some bytes) files r status old new = BySize c (nat_lt file_limit (length bytes)) files bytes r status old new

-- ---- traces

-- a replay, by what the lines say
abbrev pub ByReplayed : Result (List TraceLine) ℕ → Request → Status → Outside → Outside → Type 0
ByReplayed (Err n) r status old new = (status ≡ BadLine n) × Silent old new
ByReplayed (Ok lines) r status old new = (status ≡ Done) × PutsLine (replay_line (totals_of (replayed (settings_of r) lines))) true old new

-- a plan for needs, by whether they are too many
abbrev pub ByNeeds : Bool → List BlockSpot → Request → Status → Outside → Outside → Type 0
ByNeeds true spots r status old new = (status ≡ TooMany) × Silent old new
ByNeeds false spots r status old new =
    (status ≡ Done) × (totals : PlanTotals) × HasLeast r.options.blocks spots totals × PutsLine (plan_line totals r.options.blocks) true old new

-- a plan, by what the lines say
abbrev pub ByPlanned : Result (List TraceLine) ℕ → Request → Status → Outside → Outside → Type 0
ByPlanned (Err n) r status old new = (status ≡ BadLine n) × Silent old new
ByPlanned (Ok lines) r status old new = ByNeeds (nat_lt 4_000_000 (length (needed_blocks lines))) (needed_blocks lines) r status old new

-- a trace, by the command
abbrev pub ByTrace : Command → Result (List TraceLine) ℕ → Request → Status → Outside → Outside → Type 0
ByTrace Replay said r status old new = ByReplayed said r status old new
ByTrace Plan said r status old new = ByPlanned said r status old new
ByTrace other said r status old new = ⊥

-- a trace that is too long is refused unread
abbrev pub ByTraceSize : Command → Bool → List ℕ → Request → Status → Outside → Outside → Type 0
ByTraceSize c true bytes r status old new = (status ≡ Refused TooLong) × Silent old new
ByTraceSize c false bytes r status old new = ByTrace c (trace_in bytes) r status old new

-- by whether there is such a trace
abbrev pub ByTraceFile : Command → Option (List ℕ) → Request → Status → Outside → Outside → Type 0
ByTraceFile c None r status old new = (status ≡ Absent) × Silent old new
ByTraceFile c (Some bytes) r status old new = ByTraceSize c (nat_lt file_limit (length bytes)) bytes r status old new

-- ---- all commands

-- by the command
abbrev pub ByCommand : Command → Files → Request → Status → Outside → Outside → Type 0
ByCommand Plain files r status old new = ByFile Plain (files (image_name r)) files r status old new
ByCommand Rewrite files r status old new = ByFile Rewrite (files (image_name r)) files r status old new
ByCommand Run files r status old new = ByFile Run (files (image_name r)) files r status old new
ByCommand Trace files r status old new = ByFile Trace (files (image_name r)) files r status old new
ByCommand Demo files r status old new = (status ≡ Done) × (line : List ℕ) × IsDemoLine r line × PutsLine line true old new × (new.store ≡ old.store)
ByCommand Replay files r status old new = ByTraceFile Replay (files (image_name r)) r status old new
ByCommand Plan files r status old new = ByTraceFile Plan (files (image_name r)) r status old new

-- by whether the words are a command line
abbrev pub ByRequest : Option Request → Files → Status → Outside → Outside → Type 0
ByRequest None files status old new = (status ≡ Usage) × (new.store ≡ old.store) × (new.out ≡ old.out) × PutsText old.err (text_of Usage []) true new.err
ByRequest (Some r) files status old new =
    (err : SinkState) × ByCommand r.command files r status old (record new { err = err }) × PutsText err (text_of status (image_name r)) true new.err

-- the status and the bytes on both sinks are those of the words, of the file and of its program's run, or memory was wanting
pub record IsDefined (words : List (List ℕ)) (files : Files) (status : Status) (old new : Outside) : Type 0 where
  pub by : (status ≡ NoMemory) ⊎ ByRequest (command_of words) files status old new

-- no count rose
pub record IsSteady (old new : Outside) : Type 0 where
  pub store : Steady old.store.faults new.store.faults
  pub out : Steady old.out.faults new.out.faults
  pub err : Steady old.err.faults new.err.faults
