-- What one instruction makes of marks, and whether it uses one, by what hart and memory show of it (this project's own).
use Rattle.std.specs.Prelude.{ℕ, ◌%◌, ◌≡◌, ⊤, IsTrue, Bool, true, false, ◌||◌, ◌==◌, Option, if◌then◌else◌}
use Rattle.spec_base.specs.Word.{plus_int}
use Rattle.spec_base.specs.declared.layout.Layout.{Layout}
use Rattle.rv_decode.specs.declared.instr.Instr.{Instr}
use Rattle.rv_decode.specs.declared.instr.Instr.TheVariants.{Lui, Auipc, Jal, Jalr, Branch, Load, Store, OpImm, OpImmW, Op, OpW, Ecall}
use Rattle.rv_model.specs.Memory.{all_from, any_from}
use Rattle.rv_model.specs.Registers.{Registers, reg}
use Rattle.rv_model.specs.Rights.{is_data}
use Rattle.rv_model.specs.Arithmetic.{load_width, store_width}
use Rattle.rv_model.specs.Data.{data_in, memory_in}
use Rattle.program_model.specs.Calls.{CallKind, Open, OpenAt, kind_of}
use Rattle.program_model.specs.PlainRun.{State}
use Rattle.run_model.specs.Restarts.{Action, Reads, name_length}
use Rattle.run_model.specs.Marks.{Marks, mark_register, mark_bytes}
use Rattle.use_marks.specs.Ranges.{Fits}
use Rattle.use_marks.specs.declared.passage.MarkChange.{MarkChange}
use Rattle.use_marks.specs.declared.passage.MarkChange.TheVariants as to
use Rattle.use_marks.specs.declared.read_mark.ReadMark.{ReadMark}
use Rattle.use_marks.specs.declared.read_mark.ReadMark.TheVariants as reads

-- ---- what hart and memory show

-- whether a kind of call looks at a name
abbrev pub opens : CallKind → Bool
opens Open = true
opens OpenAt = true
opens other = false

-- whether an instruction looks at a name
abbrev pub looks : Registers → Instr → Bool
looks rs Ecall = opens (kind_of (reg rs 17))
looks rs other = false

-- a memory shows that of a state: which bytes are data, and what they are
pub record SeesMemory (byte_at : ℕ → Option ℕ) (l : Layout) (s : State) : Type 0 where
  pub same_data : (a : ℕ) → is_data l a ≡ data_in byte_at a
  pub same_byte : (a : ℕ) → IsTrue (is_data l a) → s.memory a ≡ memory_in byte_at a

-- hart and memory show the state in which an instruction stands: its registers, and its memory where the instruction looks at a name
pub record Sees (byte_at : ℕ → Option ℕ) (registers : Registers) (i : Instr) (l : Layout) (s : State) : Type 0 where
  pub same_register : (k : ℕ) → reg s.registers k ≡ reg registers k
  pub same_memory : IsTrue (looks registers i) → SeesMemory byte_at l s

-- what is told of the read in an action
abbrev pub read_mark : Bool → Action → ReadMark
read_mark true (Reads spot a) = reads.Filled a spot.count
read_mark false (Reads spot a) = reads.Left a spot.count
read_mark filled _ = reads.None

-- what a load or a store touches is data
abbrev pub touches_data : (ℕ → Bool) → Registers → Instr → Bool
touches_data data_at rs (Load op rd rs1 imm) = all_from data_at (plus_int (reg rs rs1) imm) (load_width op)
touches_data data_at rs (Store op rs1 rs2 imm) = all_from data_at (plus_int (reg rs rs1) imm) (store_width op)
touches_data data_at rs other = true

-- the bytes of a read end below 2^64
abbrev pub ReadFits : ReadMark → Type 0
ReadFits reads.None = ⊤
ReadFits (reads.Left a n) = Fits a n
ReadFits (reads.Filled a n) = Fits a n

-- ---- what an instruction changes of marks

abbrev pub change : Registers → Instr → ReadMark → Marks → MarkChange
change rs (Load op rd rs1 imm) read m = to.Register rd (any_from m.bytes (plus_int (reg rs rs1) imm) (load_width op))
change rs (Store op rs1 rs2 imm) read m = to.Bytes (plus_int (reg rs rs1) imm) (store_width op) (m.registers rs2)
change rs (OpImm op rd rs1 imm) read m = to.Register rd (m.registers rs1)
change rs (OpImmW op rd rs1 imm) read m = to.Register rd (m.registers rs1)
change rs (Op op rd rs1 rs2) read m = to.Register rd (m.registers rs1 || m.registers rs2)
change rs (OpW op rd rs1 rs2) read m = to.Register rd (m.registers rs1 || m.registers rs2)
change rs (Lui rd imm) read m = to.Register rd false
change rs (Auipc rd imm) read m = to.Register rd false
change rs (Jal rd imm) read m = to.Register rd false
change rs (Jalr rd rs1 imm) read m = to.Register rd false
change rs Ecall read m = to.Call read
change rs other read m = to.None

-- the bytes of a change end below 2^64
abbrev pub ChangeFits : MarkChange → Type 0
ChangeFits (to.Bytes a n marked) = Fits a n
ChangeFits (to.Call read) = ReadFits read
ChangeFits (to.Register rd marked) = ⊤
ChangeFits to.None = ⊤

-- a call passed, by what is told of its read
abbrev pub past_call : ReadMark → Marks → Marks
past_call reads.None m = mark_register m 10 false
past_call (reads.Left a n) m = mark_register (mark_bytes m a n true) 10 false
past_call (reads.Filled a n) m = mark_register (mark_bytes m a n false) 10 false

-- marks after a change
abbrev pub changed : MarkChange → Marks → Marks
changed to.None m = m
changed (to.Register rd marked) m = mark_register m rd marked
changed (to.Bytes a n marked) m = mark_bytes m a n marked
changed (to.Call read) m = past_call read m

-- ---- uses

-- how many bytes are looked at in reading the name at an address, of so many at most
unfoldable pub name_bytes : (ℕ → Option ℕ) → ℕ → ℕ → ℕ
name_bytes byte_at a left = name_length (data_in byte_at) (memory_in byte_at) a left

-- a marked byte among those of the name at an address
abbrev pub marked_name : (ℕ → Option ℕ) → (ℕ → Bool) → ℕ → Bool
marked_name byte_at marked a = any_from marked a (name_bytes byte_at a 256)

-- the name of a call: a call with other flags than those of reading looks at none
abbrev pub name_used : CallKind → (ℕ → Option ℕ) → Registers → (ℕ → Bool) → Bool
name_used Open byte_at rs marked = if reg rs 11 % 4 == 0 then marked_name byte_at marked (reg rs 10) else false
name_used OpenAt byte_at rs marked = if reg rs 12 % 4 == 0 then marked_name byte_at marked (reg rs 11) else false
name_used other byte_at rs marked = false

abbrev pub uses : (ℕ → Option ℕ) → Registers → Instr → Marks → Bool
uses byte_at rs (Load op rd rs1 imm) m = m.registers rs1
uses byte_at rs (Store op rs1 rs2 imm) m = m.registers rs1
uses byte_at rs (Jalr rd rs1 imm) m = m.registers rs1
uses byte_at rs (Branch op rs1 rs2 imm) m = m.registers rs1 || m.registers rs2
uses byte_at rs Ecall m = (m.registers 10 || (m.registers 11 || (m.registers 12 || m.registers 17))) || name_used (kind_of (reg rs 17)) byte_at rs m.bytes
uses byte_at rs other m = false
