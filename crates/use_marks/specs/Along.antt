-- What is told of uses along a run, move by move: which reads were filled when the own hart completed them, its marks, and the first use (this project's own).
use Rattle.std.specs.Prelude.{◌≡◌, ◌<◌, ◌+◌, ℕ, suc, nat_lt, Bool, true, false, not, ◌&&◌, List, [], ◌∷◌, ◌++◌, Option, Some, None, IsTrue}
use Rattle.spec_base.specs.Listed.{is_listed}
use Rattle.spec_base.specs.Layout.{stub_start}
use Rattle.spec_base.specs.declared.machine.View.{View}
use Rattle.spec_base.specs.declared.machine.View.TheVariants.{Plain, Program, Stub, Shadow}
use Rattle.spec_base.specs.declared.note.Note.{Note}
use Rattle.spec_base.specs.declared.note.Note.TheVariants.{Fill}
use Rattle.rv_decode.specs.declared.instr.Instr.{Instr}
use Rattle.rv_decode.specs.declared.instr.Instr.TheVariants.{Ecall, Hcall}
use Rattle.rv_model.specs.Effect.{fetched}
use Rattle.rv_model.specs.Rights.{is_data}
use Rattle.rv_model.specs.Registers.{reg}
use Rattle.program_model.specs.PlainRun.{State}
use Rattle.code_model.specs.Stub.{stub}
use Rattle.run_model.specs.Run.{World, Run, rewritten_text, opened_run}
use Rattle.run_model.specs.Moves.{Moves, step}
use Rattle.run_model.specs.Restarts.{from_restart, instr_at, instr_action}
use Rattle.run_model.specs.Marks.{Marks, before_use_with}
use Rattle.use_marks.specs.Passing.{touches_data}
use Rattle.use_marks.specs.Told.{IsTold, numbers_after}

-- ---- what a move did

-- the own hart completed an instruction in it
abbrev pub has_completed : Run → Run → Bool
has_completed r next = nat_lt r.own_done next.own_done

-- the shadow was restarted in it
abbrev pub has_restarted : Run → Run → Bool
has_restarted r next = nat_lt r.restarts next.restarts

-- ---- the reads that were filled when the own hart completed them

-- their numbers since the restart, after one more move: a restart begins anew, and a completed read is listed where the shadow has filled it by then
abbrev pub numbers_by : (restarted : Bool) → (completed : Bool) → List ℕ → Run → List ℕ
numbers_by true completed numbers r = []
numbers_by false true numbers r = numbers_after numbers r.since.own (is_listed r.since.filled (suc r.since.own))
numbers_by false false numbers r = numbers

abbrev pub numbers_then : List ℕ → Run → Run → List ℕ
numbers_then numbers r next = numbers_by (has_restarted r next) (has_completed r next) numbers r

-- after these moves from a run on
unfoldable pub numbers_from : World → List ℕ → Run → Moves → List ℕ
numbers_from w numbers r [] = numbers
numbers_from w numbers r (m ∷ ms) = let next : Run = step w r m in numbers_from w (numbers_then numbers r next) next ms

-- after the moves of a run
abbrev pub numbers_of : World → Moves → List ℕ
numbers_of w ms = numbers_from w [] (opened_run w) ms

-- ---- the first use

-- instruction i + 1 of the run from the restart is its first use
abbrev pub is_first_use : List ℕ → World → Run → ℕ → Bool
is_first_use numbers w r i = before_use_with numbers w r i && not (before_use_with numbers w r (suc i))

-- a move, from one run to the next, completed the first use, while each put was whole
abbrev pub completes_first_use : World → List ℕ → Run → Run → Bool
completes_first_use w numbers r next = has_completed r next && (nat_lt 0 r.restarts && (r.since.whole && is_first_use numbers w r r.since.own))

-- ---- which instruction the own hart completes

-- HCALL completes the call in the hart's registers, and no other word of the stub completes any
abbrev pub call_at : Option Instr → Option Instr
call_at (Some (Hcall unhinted)) = Some Ecall
call_at _ = None

-- in the program the one at its pc, in the stub the call of the word at its pc
abbrev pub own_instr_in : View → World → Run → Option Instr
own_instr_in Program w r = fetched (rewritten_text w) w.image.layout.text_start r.own.pc
own_instr_in Stub w r = call_at (fetched stub stub_start r.own.pc)
own_instr_in Plain w r = None
own_instr_in Shadow w r = None

abbrev pub own_instr : World → Run → Option Instr
own_instr w r = own_instr_in r.view w r

-- what a move completes is the instruction of this state, the next one of the run from the restart: the own hart shows it
pub record Completes (w : World) (r : Run) (s : State) : Type 0 where
  pub at : from_restart w r r.since.own ≡ Some s
  pub instr : instr_at w.image s ≡ own_instr w r
  pub registers : (k : ℕ) → reg s.registers k ≡ reg r.own.registers k
  pub memory : s.memory ≡ r.own.memory
  pub files : s.files ≡ r.own.files
  pub touches : (i : Instr) → own_instr w r ≡ Some i → IsTrue (touches_data (is_data w.image.layout) r.own.registers i)
  pub action : instr_action w.image.layout s (own_instr w r) ≡ instr_action w.image.layout r.own (own_instr w r)

-- ---- what holds of marks that are so kept

-- since the last restart, while each put was whole, these are the marks, and whether no instruction was a use
pub record AreMarksOf (w : World) (r : Run) (numbers : List ℕ) (m : Marks) (unused : Bool) : Type 0 where
  pub told : 0 < r.restarts → IsTrue r.since.whole → IsTold w r r.since.own numbers m unused

-- ---- which reads the shadow has filled

-- whether a move told a fill
abbrev pub tells_fill : List Note → Bool
tells_fill [] = false
tells_fill (Fill spot ∷ notes) = true
tells_fill (_ ∷ notes) = tells_fill notes

abbrev pub filled_by : (restarted : Bool) → (filled : Bool) → Run → List ℕ
filled_by true filled r = []
filled_by false true r = r.since.filled ++ (r.since.shadow + 1) ∷ []
filled_by false false r = r.since.filled
