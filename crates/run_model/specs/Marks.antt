-- Marks: what may rest on a byte that a skipped read left unfilled, and the first use of such a value (this project's own).
use Rattle.spec_base.specs.Listed.{is_listed}
use Rattle.std.specs.Prelude.{ℕ, zero, suc, ◌≡◌, IsTrue, Bool, true, false, not, ◌&&◌, ◌||◌, List, ◌==◌, Option, Some, None}
use Rattle.spec_base.specs.Word.{plus_int}
use Rattle.spec_base.specs.declared.layout.Layout.{Layout}
use Rattle.rv_decode.specs.declared.instr.Instr.{Instr}
use Rattle.rv_decode.specs.declared.instr.Instr.TheVariants.{Lui, Auipc, Jal, Jalr, Branch, Load, Store, OpImm, OpImmW, Op, OpW, Ecall}
use Rattle.rv_model.specs.Memory.{is_within, any_from}
use Rattle.rv_model.specs.Registers.{reg}
use Rattle.rv_model.specs.Arithmetic.{load_width, store_width}
use Rattle.program_model.specs.PlainRun.{State, Image}
use Rattle.run_model.specs.Run.{World, Run}
use Rattle.run_model.specs.Restarts.{from_restart, instr_at, Action, Reads, TakesName, Loads, Stores, Other, call_action, nothing, read_leaves}

-- which registers and which bytes are marked
pub record Marks : Type 0 where
  pub registers : ℕ → Bool
  pub bytes : ℕ → Bool

-- nothing is marked at a restart
abbrev pub no_marks : Marks
no_marks = record { registers = nothing; bytes = nothing }

-- ---- how an instruction passes marks on

-- rd is marked or cleared; x0 is never marked
abbrev pub with_mark : (ℕ → Bool) → ℕ → Bool → ℕ → Bool
with_mark marks zero marked = marks
with_mark marks (suc n) marked = λ k. elim (k == suc n) [ true ↦ marked | false ↦ marks k ]

-- rd is marked or cleared
abbrev pub mark_register : Marks → ℕ → Bool → Marks
mark_register m rd marked = record m { registers = with_mark m.registers rd marked }

-- n bytes are marked or cleared
abbrev pub mark_bytes : Marks → ℕ → ℕ → Bool → Marks
mark_bytes m a n marked = record m { bytes = λ x. elim (is_within a n x) [ true ↦ marked | false ↦ m.bytes x ] }

-- a read marks its bytes, or clears them where it was filled; a call clears x10
abbrev pub marks_after_call : Bool → Marks → Action → Marks
marks_after_call filled m (Reads spot a) = mark_register (mark_bytes m a spot.count (not filled)) 10 false
marks_after_call filled m _ = mark_register m 10 false

-- a load marks rd where one of its bytes is marked, a store its bytes where rs2 is; what computes marks rd where a source is marked, and what doesn't clears it
abbrev pub marks_after : Layout → Bool → State → Option Instr → Marks → Marks
marks_after l filled s (Some (Load op rd rs1 imm)) m = mark_register m rd (any_from m.bytes (plus_int (reg s.registers rs1) imm) (load_width op))
marks_after l filled s (Some (Store op rs1 rs2 imm)) m = mark_bytes m (plus_int (reg s.registers rs1) imm) (store_width op) (m.registers rs2)
marks_after l filled s (Some (OpImm op rd rs1 imm)) m = mark_register m rd (m.registers rs1)
marks_after l filled s (Some (OpImmW op rd rs1 imm)) m = mark_register m rd (m.registers rs1)
marks_after l filled s (Some (Op op rd rs1 rs2)) m = mark_register m rd (m.registers rs1 || m.registers rs2)
marks_after l filled s (Some (OpW op rd rs1 rs2)) m = mark_register m rd (m.registers rs1 || m.registers rs2)
marks_after l filled s (Some (Lui rd imm)) m = mark_register m rd false
marks_after l filled s (Some (Auipc rd imm)) m = mark_register m rd false
marks_after l filled s (Some (Jal rd imm)) m = mark_register m rd false
marks_after l filled s (Some (Jalr rd rs1 imm)) m = mark_register m rd false
marks_after l filled s (Some Ecall) m = marks_after_call filled m (call_action l s)
marks_after l filled s _ m = m

-- the marks after the instruction of a state, if there is one
abbrev pub marks_after_some : Image → Bool → Option State → Marks → Marks
marks_after_some p filled None m = m
marks_after_some p filled (Some s) m = marks_after p.layout filled s (instr_at p s) m

-- the marks after i instructions of the run from the restart, where the reads of these numbers were filled in the copies
unfoldable pub marks_with : List ℕ → World → Run → ℕ → Marks
marks_with numbers w r zero = no_marks
marks_with numbers w r (suc i) = marks_after_some w.image (is_listed numbers (suc i)) (from_restart w r i) (marks_with numbers w r i)

-- the marks after i instructions, by the reads that were filled so far
abbrev pub marks : World → Run → ℕ → Marks
marks w r i = marks_with r.since.filled w r i

-- ---- uses

-- a marked byte among those of a name
abbrev pub name_is_marked : Marks → Action → Bool
name_is_marked m (TakesName a n) = any_from m.bytes a n
name_is_marked m _ = false

-- a marked base of a load, store or jalr, a marked source of a branch, a marked argument of a call, or a marked byte of a name
abbrev pub is_use : Layout → State → Option Instr → Marks → Bool
is_use l s (Some (Load op rd rs1 imm)) m = m.registers rs1
is_use l s (Some (Store op rs1 rs2 imm)) m = m.registers rs1
is_use l s (Some (Jalr rd rs1 imm)) m = m.registers rs1
is_use l s (Some (Branch op rs1 rs2 imm)) m = m.registers rs1 || m.registers rs2
is_use l s (Some Ecall) m = (m.registers 10 || (m.registers 11 || (m.registers 12 || m.registers 17))) || name_is_marked m (call_action l s)
is_use l s _ m = false

-- whether the instruction of a state is a use
abbrev pub some_use : Image → Option State → Marks → Bool
some_use p None m = false
some_use p (Some s) m = is_use p.layout s (instr_at p s) m

-- none of the first i instructions is a use: i is before the first use, or there is none
unfoldable pub before_use_with : List ℕ → World → Run → ℕ → Bool
before_use_with numbers w r zero = true
before_use_with numbers w r (suc i) = before_use_with numbers w r i && not (some_use w.image (from_restart w r i) (marks_with numbers w r i))

-- the same by the reads that were filled so far
abbrev pub before_use : World → Run → ℕ → Bool
before_use w r i = before_use_with r.since.filled w r i

-- the first use as a number: instruction i + 1 is the first whose arguments are marked
pub record IsFirstUse (numbers : List ℕ) (w : World) (r : Run) (i : ℕ) : Type 0 where
  pub before : IsTrue (before_use_with numbers w r i)
  pub next : before_use_with numbers w r (suc i) ≡ false
