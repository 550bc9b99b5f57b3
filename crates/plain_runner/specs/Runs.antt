-- A plain run over a store and two sinks: how far it came, and how it ended (this project's own).
use Rattle.std.specs.Prelude.{◌≡◌, ◌⊎◌, ℕ, ◌+◌, ◌<◌, ◌≤◌, Bool, true, false, List, ◌∷◌, All, length, map, replicate, slice_get, Option, Some, None, unwrap_or}
use Rattle.spec_base.specs.Files.{Files, Name}
use Rattle.spec_base.specs.declared.spot.ReadSpot.{ReadSpot}
use Rattle.spec_base.specs.declared.machine.View.TheVariants.{Plain}
use Rattle.rv_model.specs.Memory.{bytes_at}
use Rattle.rv_model.specs.Space.{Space}
use Rattle.program_model.specs.Descriptors.{Descriptors}
use Rattle.program_model.specs.Calls.{CallPlan, Look, Read, Write}
use Rattle.program_model.specs.PlainRun.{State, Image as Program, Output, Taken, plan_of, plain_state, next, call_step, TrapsAt, end_of}
use Rattle.world_io.specs.Outside.{StoreState, SinkState, Rose}
use Rattle.world_io.specs.Logs.{Piece, StoreLog, SinkLog, bytes_of, sizes}
use Rattle.hart_step.specs.Core.{Core}
use Rattle.plain_runner.specs.StoreCalls.{next_calls, calls_until}
use Rattle.plain_runner.specs.Answers.{Answer, Answers}
use Rattle.plain_runner.specs.declared.ending.Ending.{Ending}
use Rattle.plain_runner.specs.declared.ending.Ending.TheVariants.{Exited, Trapped, TurnsOver, StoreFault, SinkFault, NoMemory}

-- a store, standard output and standard error
pub record Outside : Type 0 where
  pub store : StoreState
  pub out : SinkState
  pub err : SinkState

-- ---- puts

-- what puts make of an output
abbrev pub output_of : List Piece → Output
output_of pieces = record { bytes = bytes_of pieces; puts = map sizes pieces }

-- each of these puts took what a list of counts says; where the list has ended, all
abbrev pub AgreeOn : List ℕ → List Piece → Type 0
AgreeOn counts pieces = (i : ℕ) (piece : Piece) → slice_get pieces i ≡ Some piece → unwrap_or (slice_get counts i) (length piece.offered) ≡ piece.taken

-- these counts are those of the puts that were made, whatever they say of later ones
pub record Agrees (t : Taken) (outs errs : List Piece) : Type 0 where
  pub out : AgreeOn t.out outs
  pub err : AgreeOn t.err errs

-- ---- the machine

-- a hart, a memory and descriptors show a state of a program that goes on
pub record Shows (p : Program) (core : Core) (space : Space) (f : Descriptors) (s : State) : Type 0 where
  pub view : core.view ≡ Plain
  pub registers : s.registers ≡ core.registers
  pub pc : s.pc ≡ core.pc
  pub memory : s.memory ≡ space.program
  pub files : s.files ≡ f
  pub exited : s.exited ≡ None
  pub layout : space.layout ≡ p.layout
  pub words : space.text ≡ p.words

-- ---- the next instruction

-- the next instruction performs a call, which has this plan
pub record IsCall (p : Program) (s : State) (plan : CallPlan) : Type 0 where
  pub performs : (files : Files) (t : Taken) → next p files t s ≡ call_step files t (plan_of p.layout s) s
  pub planned : plan_of p.layout s ≡ plan

-- the next instruction opens or reads a file
abbrev pub IsFileCall : Program → State → Type 0
IsFileCall p s = ((name : Name) × IsCall p s (Look name)) ⊎ ((d : ℕ) × (spot : ReadSpot) × (a : ℕ) × IsCall p s (Read d spot a))

-- the next instruction puts these bytes, to standard output (true) or to standard error (false)
abbrev pub IsPut : Program → State → Bool → List ℕ → Type 0
IsPut p s to_out bytes = (a : ℕ) × (n : ℕ) × IsCall p s (Write to_out a n) × (bytes ≡ bytes_at s.memory a n)

-- ---- ends

-- how a run of at most so many turns ends after n completed instructions, in this state: unless the turns are over, by what the last completed instruction did, or by the next one
abbrev pub EndsBy : Program → ℕ → ℕ → State → Ending → Type 0
EndsBy p turns n s (Exited code) = (n ≤ turns) × (s.exited ≡ Some code)
EndsBy p turns n s (Trapped cause pc) = (n < turns) × (s.exited ≡ None) × ((files : Files) (t : Taken) → end_of p files t s ≡ TrapsAt cause pc)
EndsBy p turns n s (TurnsOver count) = (n ≡ turns) × (s.exited ≡ None) × (count ≡ turns)
EndsBy p turns n s StoreFault = (n < turns) × (s.exited ≡ None) × IsFileCall p s
EndsBy p turns n s SinkFault = (n < turns) × (s.exited ≡ None)
EndsBy p turns n s NoMemory = n ≤ turns

-- the calls on the store, newest first: those of the completed instructions, none of which failed; at a store fault the next instruction made some more, of which the last failed and the count rose
abbrev pub CallsStore : Program → State → Ending → ℕ → StoreState → StoreState → Type 0
CallsStore p s StoreFault calls old new = (more : ℕ) × (more < next_calls p s) × StoreLog old (true ∷ replicate (calls + more) false) new × Rose old.faults new.faults
CallsStore p s other calls old new = StoreLog old (replicate calls false) new

-- the puts that failed, on standard output and on standard error: at a sink fault that of the next instruction, which is the last of all; else none
abbrev pub FailedPuts : Program → State → Ending → Option (List ℕ) → Option (List ℕ) → Type 0
FailedPuts p s SinkFault (Some bytes) None = IsPut p s true bytes
FailedPuts p s SinkFault None (Some bytes) = IsPut p s false bytes
FailedPuts p s SinkFault None None = ⊥
FailedPuts p s SinkFault (Some bytes) (Some others) = ⊥
FailedPuts p s other out err = (out ≡ None) × (err ≡ None)

-- ---- the run

-- after n completed instructions the plain program is in this state, and has made so many calls on the store
pub record Reaches (p : Program) (files : Files) (t : Taken) (n : ℕ) (s : State) (k : ℕ) : Type 0 where
  pub state : plain_state p files t n ≡ Some s
  pub calls : calls_until p files t n ≡ k

-- the run of a program ended so, left hart, memory and descriptors in the last state, and took the outside from old to new. The plain program comes to that state over all files of which the store's answers are true, and over those that the store tells they are; what it put is what the sinks took, and at most one put failed
pub record RunsTo (p : Program) (turns : ℕ) (old : Outside) (ending : Ending) (core : Core) (space : Space) (f : Descriptors) (new : Outside) : Type 0 where
  pub n : ℕ
  pub state : State
  pub calls : ℕ
  pub answers : List Answer
  pub outs : List Piece
  pub errs : List Piece
  pub reached : (files : Files) (t : Taken) → All (Answers files) answers → Agrees t outs errs → Reaches p files t n state calls
  pub told : (files : Files) → old.store.files ≡ Some files → All (Answers files) answers
  pub shows : Shows p core space f (record state { exited = None })
  pub out_is : state.out ≡ output_of outs
  pub err_is : state.err ≡ output_of errs
  pub ends : EndsBy p turns n state ending
  pub called : CallsStore p state ending calls old.store new.store
  pub out_fault : Option (List ℕ)
  pub err_fault : Option (List ℕ)
  pub failed : FailedPuts p state ending out_fault err_fault
  pub out_log : SinkLog old.out outs out_fault new.out
  pub err_log : SinkLog old.err errs err_fault new.err
