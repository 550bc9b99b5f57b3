-- The plain run from a restart, which the shadow is to follow, and the reads in it (this project's own).
use Rattle.spec_base.specs.Listed.{is_listed}
use Rattle.std.specs.Prelude.{ℕ, zero, suc, ◌+◌, ◌%◌, ◌≡◌, IsTrue, Bool, true, false, not, ◌&&◌, ◌||◌, List, [], ◌∷◌, ◌++◌, ◌==◌, Option, Some, None}
use Rattle.std.specs.Option.{option_and_then}
use Rattle.spec_base.specs.Word.{plus_int}
use Rattle.spec_base.specs.declared.layout.Layout.{Layout}
use Rattle.spec_base.specs.declared.spot.ReadSpot.{ReadSpot}
use Rattle.rv_decode.specs.declared.instr.Instr.{Instr}
use Rattle.rv_decode.specs.declared.instr.Instr.TheVariants.{Load, Store, Ecall}
use Rattle.rv_model.specs.Memory.{Memory, is_within, any_from}
use Rattle.rv_model.specs.Rights.{is_data}
use Rattle.rv_model.specs.Registers.{reg}
use Rattle.rv_model.specs.Arithmetic.{load_width, store_width}
use Rattle.rv_model.specs.Effect.{fetched}
use Rattle.program_model.specs.Calls.{CallKind, Open, OpenAt, kind_of, CallPlan, Set, Look, Read, Write, Exit}
use Rattle.program_model.specs.PlainRun.{State, Image, text_of, state_after, plan_of, all_taken}
use Rattle.run_model.specs.Run.{World, Run}

-- ---- the run from the restart

-- the plain state after i instructions from the state just before the restarting read, each put taken whole
abbrev pub from_restart : World → Run → ℕ → Option State
from_restart w r i = option_and_then (λ s. state_after w.image w.files all_taken s i) r.since.origin

-- the instruction at a state's pc
abbrev pub instr_at : Image → State → Option Instr
instr_at p s = fetched (text_of p) p.layout.text_start s.pc

-- ---- what an instruction does to memory and files

-- loads, stores, a read into memory, a name that is read, or none of these
pub data Action : Type 0 where
  Loads : (address width : ℕ) → Action
  Stores : (address width : ℕ) → Action
  Reads : (spot : ReadSpot) (address : ℕ) → Action
  TakesName : (address length : ℕ) → Action
  Other : Action

-- how many bytes a call looks at in reading a name: those up to its zero byte, and 256 of a name that is too long; a byte that isn't data isn't one of them
abbrev pub name_length : (ℕ → Bool) → Memory → ℕ → ℕ → ℕ
name_length data_at m a zero = 0
name_length data_at m a (suc left) =
    elim (data_at a) [ true ↦ elim (m a == 0) [ true ↦ 1 | false ↦ suc (name_length data_at m (a + 1) left) ] | false ↦ 0 ]

-- a call with other flags than those of reading looks at no name
abbrev pub name_action : Bool → Layout → State → ℕ → Action
name_action true l s a = TakesName a (name_length (is_data l) s.memory a 256)
name_action false l s a = Other

-- what a call does
abbrev pub action_by : CallKind → Layout → State → CallPlan → Action
action_by Open l s plan = name_action (reg s.registers 11 % 4 == 0) l s (reg s.registers 10)
action_by OpenAt l s plan = name_action (reg s.registers 12 % 4 == 0) l s (reg s.registers 11)
action_by _ l s (Read d spot a) = Reads spot a
action_by _ l s _ = Other

-- what the call in the registers does
abbrev pub call_action : Layout → State → Action
call_action l s = action_by (kind_of (reg s.registers 17)) l s (plan_of l s)

-- what an instruction does
abbrev pub instr_action : Layout → State → Option Instr → Action
instr_action l s (Some (Load op rd rs1 imm)) = Loads (plus_int (reg s.registers rs1) imm) (load_width op)
instr_action l s (Some (Store op rs1 rs2 imm)) = Stores (plus_int (reg s.registers rs1) imm) (store_width op)
instr_action l s (Some Ecall) = call_action l s
instr_action l s _ = Other

-- what the instruction at a state's pc does
abbrev pub state_action : Image → State → Action
state_action p s = instr_action p.layout s (instr_at p s)

-- what the instruction of a state does, if there is one
abbrev pub some_action : Image → Option State → Action
some_action p None = Other
some_action p (Some s) = state_action p s

-- what instruction i of the run from the restart does, counted from 1
abbrev pub action : World → Run → ℕ → Action
action w r zero = Other
action w r (suc i) = some_action w.image (from_restart w r i)

-- ---- unfilled bytes

-- whether a byte is unfilled behind a read: one of its own bytes (true), or another
abbrev pub read_leaves : Bool → Bool → Bool → Bool
read_leaves true filled before = not filled
read_leaves false filled before = before

-- a read leaves its bytes unfilled, or fills them; a store fills its own
abbrev pub unfilled_by : (ℕ → Bool) → Action → Bool → ℕ → Bool
unfilled_by before (Reads spot a) filled x = read_leaves (is_within a spot.count x) filled (before x)
unfilled_by before (Stores a width) filled x = not (is_within a width x) && before x
unfilled_by before (Loads a width) filled x = before x
unfilled_by before (TakesName a n) filled x = before x
unfilled_by before Other filled x = before x

-- no byte, or no register
abbrev pub nothing : ℕ → Bool
nothing i = false

-- the addresses that are unfilled after the first i instructions, where the reads of these numbers were filled in the copies
unfoldable pub unfilled_with : List ℕ → World → Run → ℕ → ℕ → Bool
unfilled_with numbers w r zero = nothing
unfilled_with numbers w r (suc i) = unfilled_by (unfilled_with numbers w r i) (action w r (suc i)) (is_listed numbers (suc i))

-- the same by the reads that were filled so far
abbrev pub unfilled : World → Run → ℕ → ℕ → Bool
unfilled w r i = unfilled_with r.since.filled w r i

-- ---- the horizon: the first instruction that loads an unfilled byte, or takes one as part of a name

-- whether an action loads one of these bytes, or takes one as part of a name
abbrev pub touches : (ℕ → Bool) → Action → Bool
touches bytes (Loads a width) = any_from bytes a width
touches bytes (TakesName a n) = any_from bytes a n
touches bytes (Stores a width) = false
touches bytes (Reads spot a) = false
touches bytes Other = false

-- none of the first i instructions does: i is before the horizon, or there is none
unfoldable pub before_horizon : World → Run → ℕ → Bool
before_horizon w r zero = true
before_horizon w r (suc i) = before_horizon w r i && not (touches (unfilled w r i) (action w r (suc i)))

-- ---- the next reads

-- the read in an action, if it is one
abbrev pub read_in : Action → List ReadSpot
read_in (Reads spot a) = spot ∷ []
read_in (Loads a width) = []
read_in (Stores a width) = []
read_in (TakesName a n) = []
read_in Other = []

-- the reads among instructions 2 to i, in order
unfoldable pub reads : World → Run → ℕ → List ReadSpot
reads w r zero = []
reads w r (suc zero) = []
reads w r (suc (suc i)) = reads w r (suc i) ++ read_in (action w r (suc (suc i)))

-- the horizon as a number: instruction i + 1 is the first that touches an unfilled byte
pub record IsHorizon (w : World) (r : Run) (i : ℕ) : Type 0 where
  pub before : IsTrue (before_horizon w r i)
  pub next : before_horizon w r (suc i) ≡ false
