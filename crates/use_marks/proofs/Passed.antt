-- What hart and memory show says of marks and uses what the state says.
use Rattle.std.proofs.Common.{◌≡◌, ℕ, zero, suc, ◌+◌, ◌%◌, Bool, true, false, ◌||◌, Option, Some, refl, sym, ◌∙◌, ap, ap₂, ◌==◌, if◌then◌else◌}
use Rattle.std.specs.Prelude.{IsTrue}
use Rattle.spec_base.specs.Word.{plus_int}
use Rattle.spec_base.specs.declared.layout.Layout.{Layout}
use Rattle.rv_decode.specs.declared.instr.Instr.{Instr}
use Rattle.rv_decode.specs.declared.instr.Instr.TheVariants.{Lui, Auipc, Jal, Jalr, Branch, Load, Store, OpImm, OpImmW, Op, OpW, Fence, Ecall, Ebreak, Hgate, Hleave, Hsite, Hkey, Hstop, Hrestart, Hcall, Hpark, Illegal}
use Rattle.rv_model.specs.Memory.{Memory, any_from}
use Rattle.rv_model.specs.Registers.{Registers, reg}
use Rattle.rv_model.specs.Rights.{is_data}
use Rattle.rv_model.specs.Arithmetic.{load_width, store_width}
use Rattle.rv_model.specs.Data.{data_in, memory_in}
use Rattle.program_model.specs.Calls.{CallPlan, Set, Look, Read, Write, Exit, CallKind, Open, OpenAt, Close, Seek, ReadFile, WriteFile, ExitProgram, Break, Unknown, kind_of}
use Rattle.program_model.specs.PlainRun.{State, plan_of}
use Rattle.run_model.specs.Restarts.{Action, Loads, Stores, Reads, TakesName, Other, name_length, name_action, action_by, call_action, instr_action}
use Rattle.run_model.specs.Marks.{Marks, mark_register, mark_bytes, marks_after, marks_after_call, is_use, name_is_marked}
use Rattle.use_marks.specs.declared.read_mark.ReadMark.{ReadMark}
use Rattle.use_marks.specs.Passing.{opens, Sees, SeesMemory, read_mark, change, changed, past_call, name_bytes, marked_name, name_used, uses}

-- ---- names

-- names in memories that are the same where there is data
length_same : (d e : ℕ → Bool) (m k : Memory) → ((a : ℕ) → d a ≡ e a) → ((a : ℕ) → d a ≡ true → m a ≡ k a) → (a n : ℕ) → name_length d m a n ≡ name_length e k a n
length_same d e m k same bytes a zero = refl
length_same d e m k same bytes a (suc n) = by_data (length_same d e m k same bytes (a + 1) n) (d a) refl
  where
    by_data : name_length d m (a + 1) n ≡ name_length e k (a + 1) n → (b : Bool) → d a ≡ b → name_length d m a (suc n) ≡ name_length e k a (suc n)
    by_data rest true at = rw (name_length, at, sym (same a) ∙ at, bytes a at) (ap (λ (x : ℕ). elim (k a == 0) [ true ↦ 1 | false ↦ suc x ]) rest)
    by_data rest false at = rw (name_length, at, sym (same a) ∙ at) refl

module _ (f : ℕ → Option ℕ) (rs : Registers) (l : Layout) (s : State) where
  bytes_same : SeesMemory f l s → (a n : ℕ) → name_bytes f a n ≡ name_length (is_data l) s.memory a n
  unfolding name_bytes
  bytes_same sees a n = sym (length_same (is_data l) (data_in f) s.memory (memory_in f) sees.same_data sees.same_byte a n)

  action_same : SeesMemory f l s → (m : Marks) (flags a b : ℕ) → b ≡ a → (if flags % 4 == 0 then marked_name f m.bytes b else false) ≡ name_is_marked m (name_action (flags % 4 == 0) l s a)
  action_same sees m flags a b e = by_test (flags % 4 == 0)
    where
      by_test : (t : Bool) → (if t then marked_name f m.bytes b else false) ≡ name_is_marked m (name_action t l s a)
      by_test true = ap₂ (λ (x n : ℕ). any_from m.bytes x n) e (ap (λ (x : ℕ). name_bytes f x 256) e ∙ bytes_same sees a 256)
      by_test false = refl

  -- what opens no file looks at no name
  no_name : (m : Marks) (k : CallKind) → opens k ≡ false → (p : CallPlan) → false ≡ name_is_marked m (action_by k l s p)
  no_name m Open e p = absurd (let bad : true ≡ false = e in cc)
  no_name m OpenAt e p = absurd (let bad : true ≡ false = e in cc)
  no_name m Close e (Set g answer) = refl
  no_name m Close e (Look name) = refl
  no_name m Close e (Read d spot a) = refl
  no_name m Close e (Write o a n) = refl
  no_name m Close e (Exit code) = refl
  no_name m Seek e (Set g answer) = refl
  no_name m Seek e (Look name) = refl
  no_name m Seek e (Read d spot a) = refl
  no_name m Seek e (Write o a n) = refl
  no_name m Seek e (Exit code) = refl
  no_name m ReadFile e (Set g answer) = refl
  no_name m ReadFile e (Look name) = refl
  no_name m ReadFile e (Read d spot a) = refl
  no_name m ReadFile e (Write o a n) = refl
  no_name m ReadFile e (Exit code) = refl
  no_name m WriteFile e (Set g answer) = refl
  no_name m WriteFile e (Look name) = refl
  no_name m WriteFile e (Read d spot a) = refl
  no_name m WriteFile e (Write o a n) = refl
  no_name m WriteFile e (Exit code) = refl
  no_name m ExitProgram e (Set g answer) = refl
  no_name m ExitProgram e (Look name) = refl
  no_name m ExitProgram e (Read d spot a) = refl
  no_name m ExitProgram e (Write o a n) = refl
  no_name m ExitProgram e (Exit code) = refl
  no_name m Break e (Set g answer) = refl
  no_name m Break e (Look name) = refl
  no_name m Break e (Read d spot a) = refl
  no_name m Break e (Write o a n) = refl
  no_name m Break e (Exit code) = refl
  no_name m Unknown e (Set g answer) = refl
  no_name m Unknown e (Look name) = refl
  no_name m Unknown e (Read d spot a) = refl
  no_name m Unknown e (Write o a n) = refl
  no_name m Unknown e (Exit code) = refl

  module _ (registers : (k : ℕ) → reg s.registers k ≡ reg rs k) where
    kind_same : (m : Marks) (k : CallKind) (plan : CallPlan) → (IsTrue (opens k) → SeesMemory f l s) → name_used k f rs m.bytes ≡ name_is_marked m (action_by k l s plan)
    kind_same m Open plan sees =
        ap (λ (x : ℕ). if x % 4 == 0 then marked_name f m.bytes (reg rs 10) else false) (sym (registers 11))
        ∙ action_same (sees refl) m (reg s.registers 11) (reg s.registers 10) (reg rs 10) (sym (registers 10))
    kind_same m OpenAt plan sees =
        ap (λ (x : ℕ). if x % 4 == 0 then marked_name f m.bytes (reg rs 11) else false) (sym (registers 12))
        ∙ action_same (sees refl) m (reg s.registers 12) (reg s.registers 11) (reg rs 11) (sym (registers 11))
    kind_same m Close plan sees = no_name m Close refl plan
    kind_same m Seek plan sees = no_name m Seek refl plan
    kind_same m ReadFile plan sees = no_name m ReadFile refl plan
    kind_same m WriteFile plan sees = no_name m WriteFile refl plan
    kind_same m ExitProgram plan sees = no_name m ExitProgram refl plan
    kind_same m Break plan sees = no_name m Break refl plan
    kind_same m Unknown plan sees = no_name m Unknown refl plan

  -- ---- uses

  pub uses_same : (i : Instr) → Sees f rs i l s → (m : Marks) → uses f rs i m ≡ is_use l s (Some i) m
  uses_same Ecall sees m =
      ap (λ (b : Bool). (m.registers 10 || (m.registers 11 || (m.registers 12 || m.registers 17))) || b)
      (kind_same sees.same_register m (kind_of (reg rs 17)) (plan_of l s) sees.same_memory
      ∙ ap (λ (x : ℕ). name_is_marked m (action_by (kind_of x) l s (plan_of l s))) (sym (sees.same_register 17)))
  uses_same (Load op rd rs1 imm) sees m = refl
  uses_same (Store op rs1 rs2 imm) sees m = refl
  uses_same (Jalr rd rs1 imm) sees m = refl
  uses_same (Branch op rs1 rs2 imm) sees m = refl
  uses_same (Lui rd imm) sees m = refl
  uses_same (Auipc rd imm) sees m = refl
  uses_same (Jal rd imm) sees m = refl
  uses_same (OpImm op rd rs1 imm) sees m = refl
  uses_same (OpImmW op rd rs1 imm) sees m = refl
  uses_same (Op op rd rs1 rs2) sees m = refl
  uses_same (OpW op rd rs1 rs2) sees m = refl
  uses_same (Fence word) sees m = refl
  uses_same Ebreak sees m = refl
  uses_same Hgate sees m = refl
  uses_same Hleave sees m = refl
  uses_same (Hsite rd) sees m = refl
  uses_same (Hkey rd) sees m = refl
  uses_same Hstop sees m = refl
  uses_same Hrestart sees m = refl
  uses_same (Hcall b) sees m = refl
  uses_same (Hpark c) sees m = refl
  uses_same Illegal sees m = refl

  -- ---- marks after an instruction

  call_same : (filled : Bool) (m : Marks) (a : Action) → past_call (read_mark filled a) m ≡ marks_after_call filled m a
  call_same true m (Reads spot a) = refl
  call_same false m (Reads spot a) = refl
  call_same true m (Loads a n) = refl
  call_same false m (Loads a n) = refl
  call_same true m (Stores a n) = refl
  call_same false m (Stores a n) = refl
  call_same true m (TakesName a n) = refl
  call_same false m (TakesName a n) = refl
  call_same true m Other = refl
  call_same false m Other = refl

  pub change_same : (filled : Bool) (i : Instr) → Sees f rs i l s → (read : ReadMark) → read ≡ read_mark filled (instr_action l s (Some i)) → (m : Marks) → changed (change rs i read m) m ≡ marks_after l filled s (Some i) m
  change_same filled Ecall sees read told m = ap (λ (r : ReadMark). past_call r m) told ∙ call_same filled m (call_action l s)
  change_same filled (Load op rd rs1 imm) sees read told m = ap (λ (x : ℕ). mark_register m rd (any_from m.bytes (plus_int x imm) (load_width op))) (sym (sees.same_register rs1))
  change_same filled (Store op rs1 rs2 imm) sees read told m = ap (λ (x : ℕ). mark_bytes m (plus_int x imm) (store_width op) (m.registers rs2)) (sym (sees.same_register rs1))
  change_same filled (Jalr rd rs1 imm) sees read told m = refl
  change_same filled (Branch op rs1 rs2 imm) sees read told m = refl
  change_same filled (Lui rd imm) sees read told m = refl
  change_same filled (Auipc rd imm) sees read told m = refl
  change_same filled (Jal rd imm) sees read told m = refl
  change_same filled (OpImm op rd rs1 imm) sees read told m = refl
  change_same filled (OpImmW op rd rs1 imm) sees read told m = refl
  change_same filled (Op op rd rs1 rs2) sees read told m = refl
  change_same filled (OpW op rd rs1 rs2) sees read told m = refl
  change_same filled (Fence word) sees read told m = refl
  change_same filled Ebreak sees read told m = refl
  change_same filled Hgate sees read told m = refl
  change_same filled Hleave sees read told m = refl
  change_same filled (Hsite rd) sees read told m = refl
  change_same filled (Hkey rd) sees read told m = refl
  change_same filled Hstop sees read told m = refl
  change_same filled Hrestart sees read told m = refl
  change_same filled (Hcall b) sees read told m = refl
  change_same filled (Hpark c) sees read told m = refl
  change_same filled Illegal sees read told m = refl
