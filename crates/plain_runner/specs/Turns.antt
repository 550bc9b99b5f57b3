-- One turn of a plain run (this project's own).
use Rattle.std.specs.Prelude.{◌≡◌, ℕ, ◌<◌, true, false, List, [], ◌∷◌, All, length, replicate, slice_get, Option, Some, None, unwrap_or}
use Rattle.spec_base.specs.Files.{Files}
use Rattle.rv_model.specs.Space.{Space}
use Rattle.program_model.specs.Descriptors.{Descriptors}
use Rattle.program_model.specs.PlainRun.{State, Image as Program, Taken, put, next, next_state, call_step, plan_of, end_of, TrapsAt}
use Rattle.world_io.specs.Outside.{StoreState}
use Rattle.world_io.specs.Logs.{Piece, StoreLog, SinkLog}
use Rattle.hart_step.specs.Core.{Core}
use Rattle.plain_runner.specs.declared.ending.Ending.{Ending}
use Rattle.plain_runner.specs.declared.ending.Ending.TheVariants.{Exited, Trapped, TurnsOver, StoreFault, SinkFault, NoMemory}
use Rattle.plain_runner.specs.StoreCalls.{calls_of, next_calls}
use Rattle.plain_runner.specs.Answers.{Answer, Answers}
use Rattle.plain_runner.specs.Runs.{Outside, Shows, FailedPuts, IsFileCall, output_of}

-- the next instruction performs the call that the registers ask for
pub record IsAtCall (p : Program) (s : State) : Type 0 where
  pub performs : (files : Files) (t : Taken) → next p files t s ≡ call_step files t (plan_of p.layout s) s
  pub calls : next_calls p s ≡ calls_of (plan_of p.layout s)

-- a put of these bytes that took so many
abbrev pub piece : List ℕ → ℕ → Piece
piece offered taken = record { offered = offered; taken = taken }

-- an instruction completes: whatever the files, with an answer of the store, or with a put to standard output or to standard error
pub data Completes (p : Program) (s next : State) : List Answer → List Piece → List Piece → Type 0 where
  alone : ((files : Files) (t : Taken) → next_state p files t s ≡ Some next) → next.out ≡ s.out → next.err ≡ s.err → Completes p s next [] [] []
  asks :
      (answer : Answer)
      → ((files : Files) (t : Taken) → Answers files answer → next_state p files t s ≡ Some next)
      → next.out ≡ s.out → next.err ≡ s.err → Completes p s next (answer ∷ []) [] []
  puts_out :
      (offered : List ℕ) (k : ℕ)
      → ((files : Files) (t : Taken) → unwrap_or (slice_get t.out (length s.out.puts)) (length offered) ≡ k → next_state p files t s ≡ Some next)
      → next.out ≡ put s.out offered k → next.err ≡ s.err → Completes p s next [] (piece offered k ∷ []) []
  puts_err :
      (offered : List ℕ) (k : ℕ)
      → ((files : Files) (t : Taken) → unwrap_or (slice_get t.err (length s.err.puts)) (length offered) ≡ k → next_state p files t s ≡ Some next)
      → next.out ≡ s.out → next.err ≡ put s.err offered k → Completes p s next [] [] (piece offered k ∷ [])

-- a turn goes on to the next instruction
pub record GoesOn (p : Program) (s : State) (old : Outside) (core : Core) (space : Space) (f : Descriptors) (new : Outside) : Type 0 where
  pub next : State
  pub answers : List Answer
  pub outs : List Piece
  pub errs : List Piece
  pub completes : Completes p s next answers outs errs
  pub told : (files : Files) → old.store.files ≡ Some files → All (Answers files) answers
  pub shows : Shows p core space f next
  pub store_log : StoreLog old.store (replicate (next_calls p s) false) new.store
  pub out_log : SinkLog old.out outs None new.out
  pub err_log : SinkLog old.err errs None new.err

-- how a turn ends the run: an exit completes, and nothing else does
abbrev pub EndsIn : Program → State → Ending → Type 0
EndsIn p s (Exited code) = ((files : Files) (t : Taken) → next_state p files t s ≡ Some (record s { exited = Some code })) × (next_calls p s ≡ 0)
EndsIn p s (Trapped cause pc) = (files : Files) (t : Taken) → end_of p files t s ≡ TrapsAt cause pc
EndsIn p s StoreFault = IsFileCall p s
EndsIn p s SinkFault = Unit {0}
EndsIn p s NoMemory = Unit {0}
EndsIn p s (TurnsOver count) = ⊥

-- a turn that ends the run calls the store only up to a call that failed
abbrev pub LastCalls : Program → State → Ending → StoreState → StoreState → Type 0
LastCalls p s StoreFault old new = (more : ℕ) × (more < next_calls p s) × StoreLog old (true ∷ replicate more false) new
LastCalls p s other old new = StoreLog old [] new

-- a turn ends the run, took nothing, and left hart, memory and descriptors
pub record Stops (p : Program) (s : State) (ending : Ending) (old : Outside) (core : Core) (space : Space) (f : Descriptors) (new : Outside) : Type 0 where
  pub ends : EndsIn p s ending
  pub shows : Shows p core space f s
  pub called : LastCalls p s ending old.store new.store
  pub out_fault : Option (List ℕ)
  pub err_fault : Option (List ℕ)
  pub failed : FailedPuts p s ending out_fault err_fault
  pub out_log : SinkLog old.out [] out_fault new.out
  pub err_log : SinkLog old.err [] err_fault new.err

-- one turn, or one call
abbrev pub TurnsTo : Program → State → Outside → Option Ending → Core → Space → Descriptors → Outside → Type 0
TurnsTo p s old None core space f new = GoesOn p s old core space f new
TurnsTo p s old (Some ending) core space f new = Stops p s ending old core space f new

-- hart, memory and descriptors are those of a program's start, and nothing was put
pub record IsStart (p : Program) (core : Core) (space : Space) (f : Descriptors) : Type 0 where
  pub shows : Shows p core space f p.start
  pub out : p.start.out ≡ output_of []
  pub err : p.start.err ≡ output_of []
