-- What a trace does: the moves of a pattern over a store, and the lines of what they tell (this project's own).
use Rattle.std.specs.Prelude.{◌≡◌, ◌≢◌, ◌⊎◌, ℕ, Bool, true, false, List, [], ◌∷◌, ◌++◌, map, Option, Some, Result, Ok, Err}
use Rattle.spec_base.specs.declared.note.Move.{Move}
use Rattle.trace_text.specs.Line.{line_of, turns_line_of}
use Rattle.run_model.specs.Run.{World, Run, Answer, opened_run}
use Rattle.run_model.specs.Moves.{Moves, step, run}
use Rattle.run_model.specs.Patterns.{Pattern}
use Rattle.run_model.specs.Trace.{Told, trace}
use Rattle.world_io.specs.Outside.{SinkState, StoreState, Endless, untold_sink}
use Rattle.plain_runner.specs.Runs.{Outside}
use Rattle.plain_runner.specs.declared.ending.Ending.{Ending}
use Rattle.plain_runner.specs.declared.ending.Ending.TheVariants.{Exited, Trapped, TurnsOver, StoreFault, SinkFault, NoMemory}
use Rattle.run_laws.specs.OwnLaws.{Accepted}
use Rattle.use_marks.specs.Along.{numbers_then, numbers_of}
use Rattle.runner.specs.Shows.{Shows}
use Rattle.runner.specs.declared.runner.Runner.{Runner}
use Rattle.program_driver.specs.Advances.{Advances, is_starved}
use Rattle.program_driver.specs.Lines.{Line, ArePut, PutsSome, LinesTo, note_lines, fault_ending}
use Rattle.run_promises.specs.Schedules.{MovesTo}
use Rattle.program_driver.specs.declared.lines.LineFault.{LineFault}
use Rattle.program_driver.specs.declared.uses.UseTrace.{UseTrace}
use Rattle.program_driver.specs.Uses.{use_lines, HasUses}

-- ---- the lines

-- the line of a note
abbrev pub told_line : Told → Line
told_line t = line_of t.own t.shadow t.note t.text

-- the lines of the notes of a run's last move
abbrev pub last_lines : Run → List Line
last_lines r = note_lines r.own_done r.since.shadow r.notes r.text

-- the lines of a move, from one run to the next: that of a use stands before those of the notes
abbrev pub move_lines : (uses : Bool) → World → List ℕ → Run → Run → List Line
move_lines uses w numbers r next = use_lines uses w numbers r next ++ last_lines next

-- those of moves from a run on, behind which reads of these numbers were filled when the own hart completed them
unfoldable pub lines_from : World → List ℕ → Run → Moves → List Line
lines_from w numbers r [] = []
lines_from w numbers r (m ∷ ms) = let next : Run = step w r m in move_lines true w numbers r next ++ lines_from w (numbers_then numbers r next) next ms

-- the lines of all notes of a run, and with uses that of each first use
abbrev pub trace_lines : (uses : Bool) → World → Moves → List Line
trace_lines false w ms = map told_line (trace w ms)
trace_lines true w ms = lines_from w [] (opened_run w) ms

-- the line behind them, where all moves were made
abbrev pub turns_lines : Ending → Run → List Line
turns_lines (TurnsOver count) r = turns_line_of r.own_done r.since.shadow ∷ []
turns_lines (Exited code) r = []
turns_lines (Trapped cause pc) r = []
turns_lines StoreFault r = []
turns_lines SinkFault r = []
turns_lines NoMemory r = []

-- all lines of a run that so stands
abbrev pub all_lines : (uses : Bool) → World → Moves → Ending → List Line
all_lines uses w ms reached = trace_lines uses w ms ++ turns_lines reached (run w ms)

-- what became of them: all were put, and the ending is how the run stands; or it stopped at one of those of the last move, or at the line of the turns; or there was no memory to tell the uses of the last move, of which no line was put
pub data TellsTo (uses : Bool) (w : World) (ms : Moves) (reached ending : Ending) (old new : SinkState) : Type 0 where
  all : ending ≡ reached → ArePut old (all_lines uses w ms reached) new → TellsTo uses w ms reached ending old new
  in_move :
      (fault : LineFault) (front : Moves) (m : Move × Answer) (between : SinkState)
      → ending ≡ fault_ending fault → ms ≡ front ++ m ∷ []
      → ArePut old (trace_lines uses w front) between → PutsSome fault between (move_lines uses w (numbers_of w front) (run w front) (run w ms)) new
      → TellsTo uses w ms reached ending old new
  before_move :
      (front : Moves) (m : Move × Answer)
      → uses ≡ true → ending ≡ NoMemory → ms ≡ front ++ m ∷ []
      → ArePut old (trace_lines uses w front) new
      → TellsTo uses w ms reached ending old new
  at_turns :
      (fault : LineFault) (between : SinkState)
      → ending ≡ fault_ending fault
      → ArePut old (trace_lines uses w ms) between → PutsSome fault between (turns_lines reached (run w ms)) new
      → TellsTo uses w ms reached ending old new

-- ---- the trace

-- a sink that takes each put whole, and keeps nothing
abbrev pub bottomless : SinkState
bottomless = untold_sink Endless 0

-- a store beside two such sinks
abbrev pub over_bottomless : StoreState → Outside
over_bottomless store = record { store = store; out = bottomless; err = bottomless }

-- a store and standard output, beside any standard error
abbrev pub with_err : SinkState → StoreState → SinkState → Outside
with_err err store out = record { store = store; out = out; err = err }

-- at most so many moves of a pattern were made over a store, with each put of the program taken whole, and their lines went to standard output. No put of the program fails
pub record TracesTo (uses : Bool) (pattern : Pattern) (turns : ℕ) (ending : Ending) (w : World) (ms : Moves) (old new : Outside) : Type 0 where
  pub reached : Ending
  pub moves : MovesTo pattern turns reached w ms (over_bottomless old.store) (over_bottomless new.store)
  pub no_fault : reached ≢ SinkFault
  pub out : TellsTo uses w ms reached ending old.out new.out
  pub err : new.err ≡ old.err

-- ---- one move of a trace

-- the ending that a move makes behind which lines were put, or some
abbrev pub move_ending : Option Ending → Result (Unit {0}) LineFault → Option Ending
move_ending reached (Ok done) = reached
move_ending reached (Err fault) = Some (fault_ending fault)

-- there was no memory for the move, and nothing was put
pub record TellsNothing (reached ending : Option Ending) (old new : SinkState) : Type 0 where
  pub starved : is_starved reached ≡ true
  pub ends : ending ≡ reached
  pub untouched : new ≡ old

-- there was no memory to tell the uses of a move that was made, and nothing was put
pub record LacksMarks (uses : Bool) (reached ending : Option Ending) (old new : SinkState) : Type 0 where
  pub made : is_starved reached ≡ false
  pub asked : uses ≡ true
  pub ends : ending ≡ Some NoMemory
  pub untouched : new ≡ old

-- the lines of a move that was made were put, or some, by what was kept of the moves before it. It is kept of this one too
pub record TellsMove (m : Move) (reached ending : Option Ending) (kept now : UseTrace) (before runner : Runner) (old new : SinkState) : Type 0 where
  pub made : is_starved reached ≡ false
  pub answer : Result (Unit {0}) LineFault
  pub lines :
      (w : World) (ms : Moves) (x : Answer) → Accepted w → HasUses w ms kept → Shows before w (run w ms) → let next : Run = step w (run w ms) (m, x) in Shows runner w next
      → LinesTo (move_lines kept.on w (numbers_of w ms) (run w ms) next) answer old new
  pub uses :
      (w : World) (ms : Moves) (x : Answer) → Accepted w → HasUses w ms kept → Shows before w (run w ms) → Shows runner w (step w (run w ms) (m, x))
      → HasUses w (ms ++ (m, x) ∷ []) now
  pub on : now.on ≡ kept.on
  pub ends : ending ≡ move_ending reached answer

-- a runner advances by one move, with each put of the program taken whole, and its lines are put
pub record TracesMove (m : Move) (ending : Option Ending) (kept now : UseTrace) (old new : Runner) (store : StoreState) (out : SinkState) (store_after : StoreState) (out_after : SinkState) : Type 0 where
  pub reached : Option Ending
  pub advances : Advances m reached old new (over_bottomless store) (over_bottomless store_after)
  pub tells : TellsNothing reached ending out out_after ⊎ (LacksMarks kept.on reached ending out out_after ⊎ TellsMove m reached ending kept now old new out out_after)
