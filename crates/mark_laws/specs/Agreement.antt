-- What one instruction of the plain run, which is no use, is to a second hart that agrees with it outside the marks (this project's own).
use Rattle.std.specs.Prelude.{ℕ, ◌%◌, ◌<◌, ◌≡◌, Bool, true, false, ◌&&◌, ◌==◌, ℤ, pos, length, Some, None, IsTrue}
use Rattle.spec_base.specs.Files.{Files}
use Rattle.spec_base.specs.Word.{word_of_int, plus_int}
use Rattle.spec_base.specs.declared.layout.Layout.{Layout}
use Rattle.spec_base.specs.declared.machine.View.TheVariants.{Plain}
use Rattle.spec_base.specs.declared.spot.ReadSpot.{ReadSpot}
use Rattle.rv_decode.specs.Encoding.{HasRegisters}
use Rattle.rv_decode.specs.declared.instr.Instr.{Instr}
use Rattle.rv_decode.specs.declared.instr.Instr.TheVariants.{Load, Store, Ecall}
use Rattle.rv_decode.specs.declared.instr.LoadOp.{LoadOp}
use Rattle.rv_decode.specs.declared.instr.StoreOp.{StoreOp}
use Rattle.rv_model.specs.Memory.{Memory, stored, written, loaded, all_from, any_from}
use Rattle.rv_model.specs.Rights.{is_data, data_rights}
use Rattle.rv_model.specs.Registers.{Registers, reg, with_reg}
use Rattle.rv_model.specs.Arithmetic.{load_width, extended, store_width}
use Rattle.rv_model.specs.Effect.{Next, effect, after}
use Rattle.program_model.specs.Descriptors.{Descriptors}
use Rattle.program_model.specs.Calls.{CallPlan, Set, Look, Read, Write, Exit, call_plan, opened, after_read, bytes_read}
use Rattle.program_model.specs.PlainRun.{State, Image, size_in, plan_of, performed, taken_by, all_taken, next_state}
use Rattle.run_model.specs.Restarts.{TakesName, call_action, instr_at}
use Rattle.run_model.specs.Marks.{Marks, marks_after, is_use}

-- ---- agreement

-- a hart's registers are those of a state, but for the marked ones
pub record Agrees (m : Marks) (rs : Registers) (q : State) : Type 0 where
  pub registers : (i : ℕ) → 0 < i → i < 32 → m.registers i ≡ false → rs i ≡ q.registers i

-- the memory that a hart sees is that of a state wherever that is data, but for the marked bytes
pub record SeesAlike (l : Layout) (m : Marks) (v : Memory) (q : State) : Type 0 where
  pub bytes : (a : ℕ) → IsTrue (is_data l a) → m.bytes a ≡ false → v a ≡ q.memory a

-- ---- the next state

-- a state that hasn't exited is at this instruction
pub record IsAt (p : Image) (q : State) (i : Instr) : Type 0 where
  pub goes_on : q.exited ≡ None
  pub word : instr_at p q ≡ Some i

-- the instruction completes, where a put is taken whole: the next state has this pc, this memory and these descriptors, and a hart with these registers agrees with it outside the marks behind the instruction
pub record Leads (p : Image) (files : Files) (filled : Bool) (m : Marks) (q : State) (i : Instr) (new : Registers) (target : ℕ) (new_memory : Memory) (new_files : Descriptors) : Type 0 where
  pub state : State
  pub completes : next_state p files all_taken q ≡ Some state
  pub pc : state.pc ≡ target
  pub memory : state.memory ≡ new_memory
  pub descriptors : state.files ≡ new_files
  pub goes_on : state.exited ≡ None
  pub agrees : Agrees (marks_after p.layout filled q (Some i) m) new state

-- ---- instructions that leave the memory

-- whether an instruction loads
abbrev pub is_load : Instr → Bool
is_load (Load op rd rs1 imm) = true
is_load _ = false

-- the state goes on with its memory and its descriptors; the marked bytes stay, and so what a hart sees is still alike outside them
pub record FlowLeads (p : Image) (files : Files) (filled : Bool) (m : Marks) (q : State) (i : Instr) (new : Registers) (target : ℕ) : Type 0 where
  pub leads : Leads p files filled m q i new target q.memory q.files
  pub bytes : (marks_after p.layout filled q (Some i) m).bytes ≡ m.bytes
  pub sees : (v : Memory) → SeesAlike p.layout m v q → SeesAlike p.layout (marks_after p.layout filled q (Some i) m) v leads.state

-- where the hart goes on at a pc by an instruction that loads nothing, the state goes on there too
abbrev pub FlowAgrees : Type 0
FlowAgrees =
    (p : Image) (files : Files) (filled : Bool) (m : Marks) (q : State) (i : Instr) (rs : Registers) (v : Memory) (new : Registers) (target : ℕ) → IsAt p q i → HasRegisters i
    → is_load i ≡ false → is_use p.layout q (Some i) m ≡ false → Agrees m rs q → effect Plain (data_rights p.layout) v rs q.pc i ≡ Next new target
    → FlowLeads p files filled m q i new target

-- ---- loads and stores

-- an access doesn't trap: its address is a multiple of its width, and each of its bytes is data
abbrev pub may_access : Layout → ℕ → ℕ → Bool
may_access l a width = (a % width == 0) && all_from (is_data l) a width

-- where the hart's load doesn't trap, and gives the state's number unless one of its bytes is marked, the state goes on
abbrev pub LoadAgrees : Type 0
LoadAgrees =
    (p : Image) (files : Files) (filled : Bool) (m : Marks) (q : State) (op : LoadOp) (rd rs1 : ℕ) (imm : ℤ) (rs : Registers) (number : ℕ) →
    let i = Load op rd rs1 imm in let at = plus_int (reg rs rs1) imm in IsAt p q i → HasRegisters i
    → is_use p.layout q (Some i) m ≡ false → Agrees m rs q → may_access p.layout at (load_width op) ≡ true
    → (any_from m.bytes at (load_width op) ≡ false → number ≡ loaded q.memory at (load_width op))
    → FlowLeads p files filled m q i (with_reg rs rd (extended op number)) (after q.pc)

-- behind a store at this address the registers are as before, and what a hart sees, once its own number is stored there, is alike outside the marks
pub record StoreLeads (p : Image) (files : Files) (filled : Bool) (m : Marks) (q : State) (op : StoreOp) (rs1 rs2 : ℕ) (imm : ℤ) (rs : Registers) (at : ℕ) : Type 0 where
  pub leads : Leads p files filled m q (Store op rs1 rs2 imm) rs (after q.pc) (stored q.memory at (store_width op) (reg q.registers rs2)) q.files
  pub registers : leads.state.registers ≡ q.registers
  pub sees : (v : Memory) → SeesAlike p.layout m v q
      → SeesAlike p.layout (marks_after p.layout filled q (Some (Store op rs1 rs2 imm)) m) (stored v at (store_width op) (reg rs rs2)) leads.state

-- where the hart's store doesn't trap, the state stores at the same address
abbrev pub StoreAgrees : Type 0
StoreAgrees =
    (p : Image) (files : Files) (filled : Bool) (m : Marks) (q : State) (op : StoreOp) (rs1 rs2 : ℕ) (imm : ℤ) (rs : Registers) →
    let i = Store op rs1 rs2 imm in let at = plus_int (reg rs rs1) imm in IsAt p q i → HasRegisters i
    → is_use p.layout q (Some i) m ≡ false → Agrees m rs q → may_access p.layout at (store_width op) ≡ true
    → StoreLeads p files filled m q op rs1 rs2 imm rs at

-- ---- calls

-- the plan of a call, by the memory that is seen, the descriptors and the registers
abbrev pub planned : Layout → Memory → Descriptors → Registers → CallPlan
planned l v f rs = call_plan (is_data l) v f (reg rs 17) (reg rs 10) (reg rs 11) (reg rs 12)

-- a call that is no use has the state's plan
abbrev pub PlanAgrees : Type 0
PlanAgrees =
    (l : Layout) (m : Marks) (v : Memory) (f : Descriptors) (rs : Registers) (q : State) → SeesAlike l m v q → Agrees m rs q → f ≡ q.files → is_use l q (Some Ecall) m ≡ false
    → planned l v f rs ≡ plan_of l q

-- whether a plan ends the program
abbrev pub is_exit : CallPlan → Bool
is_exit (Exit code) = true
is_exit _ = false

-- the descriptors and the answer that a call gives, whose put is taken whole; an exit gives none, and is left out below
abbrev pub assumed_answer : Files → Descriptors → CallPlan → Descriptors × ℤ
assumed_answer files f (Set g answer) = (g, answer)
assumed_answer files f (Look name) = opened f name (size_in files name)
assumed_answer files f (Read d spot a) = (after_read f d spot.count, pos spot.count)
assumed_answer files f (Write to_out a n) = (f, pos n)
assumed_answer files f (Exit code) = (f, pos 0)

-- the memory that is seen behind a call: a read that is filled writes its bytes, and no other call changes it
abbrev pub assumed_memory : Bool → Files → Memory → CallPlan → Memory
assumed_memory true files v (Read d spot a) = written v a (bytes_read files spot)
assumed_memory filled files v _ = v

-- the file has all bytes of a read
abbrev pub HasAll : Files → CallPlan → Type 0
HasAll files plan = (d : ℕ) (spot : ReadSpot) (a : ℕ) → plan ≡ Read d spot a → length (bytes_read files spot) ≡ spot.count

-- behind a call the hart has the state's descriptors and its answer in x10, and what it sees is alike outside the marks, which a read that isn't filled sets at its bytes
pub record CallLeads (p : Image) (files : Files) (filled : Bool) (m : Marks) (q : State) (rs : Registers) (v : Memory) (plan : CallPlan) : Type 0 where
  pub leads : Leads p files filled m q Ecall (with_reg rs 10 (word_of_int (assumed_answer files q.files plan).1)) (after q.pc) (assumed_memory true files q.memory plan)
      (assumed_answer files q.files plan).0
  pub performs : leads.state ≡ performed files (taken_by all_taken plan q) plan q
  pub sees : SeesAlike p.layout (marks_after p.layout filled q (Some Ecall) m) v leads.state

-- where the call doesn't end the program, it is performed, and the hart sees what it saw before with the bytes of a filled read written
abbrev pub CallAgrees : Type 0
CallAgrees =
    (p : Image) (files : Files) (filled : Bool) (m : Marks) (q : State) (rs : Registers) (v new : Memory) → let plan = plan_of p.layout q in IsAt p q Ecall → is_exit plan ≡ false
    → Agrees m rs q → SeesAlike p.layout m v q → (filled ≡ true → HasAll files plan) → ((a : ℕ) → IsTrue (is_data p.layout a) → new a ≡ assumed_memory filled files v plan a)
    → CallLeads p files filled m q rs new plan

-- ---- a call that takes a name

-- whether a plan is a read
abbrev pub is_read : CallPlan → Bool
is_read (Read d spot a) = true
is_read _ = false

-- a call that takes a name, whose number isn't marked, is a read neither of the state's nor of the hart's, whatever name that sees
abbrev pub NameIsNoRead : Type 0
NameIsNoRead =
    (l : Layout) (m : Marks) (v : Memory) (f : Descriptors) (rs : Registers) (q : State) (a n : ℕ) → Agrees m rs q → m.registers 17 ≡ false → call_action l q ≡ TakesName a n
    → (is_read (plan_of l q) ≡ false) × (is_read (planned l v f rs) ≡ false)
