-- In every plain state the registers are below 2^64 and the bytes below 256.
use Rattle.std.proofs.Common.{◌≡◌, ℕ, zero, suc, ◌+◌, ◌-◌, ◌%◌, ◌^◌, ◌≤◌, ◌<◌, ◌⊎◌, inl, inr, Bool, true, false, pos, List, [], length, take, drop, get_or, ◌==◌, Option, Some, None, refl, sym, subst, arith, lit<}
use Rattle.std.specs.Prelude.{⊤, unwrap_or}
use Rattle.std.specs.Option.{option_and_then, option_map}
use Rattle.std.proofs.lemmas.List.{get_or_past}
use Rattle.std.proofs.lemmas.List.Elements.{All-get_or, All-take, All-drop, All-nil}
use Rattle.std.proofs.lemmas.Bool.{cases_lt}
use Rattle.spec_base.specs.Word.{byte_of, word_of_int}
use Rattle.spec_base.specs.Files.{Name, Files}
use Rattle.spec_base.specs.declared.spot.ReadSpot.{ReadSpot}
use Rattle.spec_base.specs.declared.machine.View.TheVariants.{Plain, Program, Stub, Shadow}
use Rattle.rv_decode.specs.declared.instr.Instr.{Instr}
use Rattle.rv_decode.specs.declared.instr.Instr.TheVariants.{Lui, Auipc, Jal, Jalr, Branch, Load, Store, OpImm, OpImmW, Op, OpW, Fence, Ecall, Ebreak, Hgate, Hleave, Hcall, Illegal}
use Rattle.rv_decode.specs.declared.instr.LoadOp.{LoadOp}
use Rattle.rv_model.specs.Memory.{Memory, patched, loaded, is_within}
use Rattle.rv_model.specs.Registers.{Registers, reg, with_reg}
use Rattle.rv_model.specs.Rights.{Rights, data_rights, is_data}
use Rattle.rv_model.specs.Arithmetic.{is_taken, load_width, extended}
use Rattle.rv_model.specs.Effect.{Effect, Next, Stored, Trapped, Called, Gated, effect, call_effect, gate_effect, fetched, jump_if, branch_if, load_if, store_if}
use Rattle.program_model.specs.Calls.{CallPlan, Set, Look, Read, Write, Exit, bytes_read, kind_of}
use Rattle.program_model.specs.PlainRun.{State, Image, Taken, Step, Went, Traps, text_of, plan_of, performed, taken_by, after_effect, at_word, next, completed, next_unless, next_state, state_after, size_in}
use Rattle.run_laws.specs.OwnLaws.{AllBytes}
use Rattle.spec_base.specs.declared.layout.Layout.{Layout}
use Rattle.spec_base.specs.declared.machine.View.{View}
use Rattle.run_laws.specs.Numbers.{Lawful}
use Rattle.own_laws.proofs.Offsets.{PlanFits, plan_by-fits, opened-lawful, after_read-lawful}
use Rattle.rv_model.proofs.Results.{Bytes, load-small, imm_result-small, imm_w_result-small, reg_result-small, reg_w_result-small, wrap-small, word_of_int-small}

-- each register is below 2^64
abbrev pub Words : Registers → Type 0
Words rs = (i : ℕ) → rs i < 2 ^ 64

-- ---- registers

-- what both choices are below, the chosen one is below
pub elim-below : (b : Bool) (x y k : ℕ) → x < k → y < k → elim b [ true ↦ x | false ↦ y ] < k
elim-below true x y k h l = h
elim-below false x y k h l = l

-- a register reads as a number below 2^64
reg-small : (rs : Registers) (n : ℕ) → Words rs → reg rs n < 2 ^ 64
reg-small rs zero h = lit< tt
reg-small rs (suc n) h = h (suc n)

-- a write of a number below 2^64 keeps the registers below it
pub with_reg-words : (rs : Registers) (n v : ℕ) → Words rs → v < 2 ^ 64 → Words (with_reg rs n v)
with_reg-words rs zero v h l = h
with_reg-words rs (suc n) v h l = λ i. elim-below (i == suc n) v (rs i) (2 ^ 64) l (h i)

-- ---- the effect of an instruction

-- an effect leaves registers below 2^64
abbrev pub WordsIn : Effect → Type 0
WordsIn (Next rs pc) = Words rs
WordsIn (Stored a width v) = ⊤
WordsIn (Trapped cause) = ⊤
WordsIn Called = ⊤
WordsIn (Gated i) = ⊤

pub record WordsAfter (e : Effect) : Type 0 where
  pub by : WordsIn e

-- a jump does
jump_if-words : (b : Bool) (rs : Registers) (target : ℕ) → Words rs → WordsAfter (jump_if b rs target)
jump_if-words true rs target h = record { by = h }
jump_if-words false rs target h = record { by = tt }

-- a branch does
branch_if-words : (b : Bool) (rs : Registers) (pc target : ℕ) → Words rs → WordsAfter (branch_if b rs pc target)
branch_if-words true rs pc target h = jump_if-words (target % 4 == 0) rs target h
branch_if-words false rs pc target h = record { by = h }

-- a load does, from bytes
load_if-words : (x y : Bool) (m : Memory) (op : LoadOp) (rs : Registers) (pc rd a : ℕ) → Words rs → Bytes m → WordsAfter (load_if x y m op rs pc rd a)
load_if-words false y m op rs pc rd a h k = record { by = tt }
load_if-words true false m op rs pc rd a h k = record { by = tt }
load_if-words true true m op rs pc rd a h k = record { by = with_reg-words rs rd (extended op (loaded m a (load_width op))) h (load-small op m a k) }

-- a store leaves the registers
store_if-words : (x y : Bool) (a width v : ℕ) → WordsAfter (store_if x y a width v)
store_if-words false y a width v = record { by = tt }
store_if-words true false a width v = record { by = tt }
store_if-words true true a width v = record { by = tt }

-- a call does
call_effect-words : (v : View) → WordsAfter (call_effect v)
call_effect-words Plain = record { by = tt }
call_effect-words Program = record { by = tt }
call_effect-words Stub = record { by = tt }
call_effect-words Shadow = record { by = tt }

-- a gate instruction does
gate_effect-words : (v : View) (i : Instr) → WordsAfter (gate_effect v i)
gate_effect-words Program Hgate = record { by = tt }
gate_effect-words Stub (Hcall false) = record { by = tt }
gate_effect-words Shadow (Hcall unhinted) = record { by = tt }
gate_effect-words Plain i = record { by = tt }
gate_effect-words v Hleave = record { by = tt }
gate_effect-words v i = record { by = tt }

module _ (v : View) (r : Rights) (m : Memory) (rs : Registers) (pc : ℕ) (h : Words rs) (k : Bytes m) where
  -- register rd has a number below 2^64
  puts : (rd v : ℕ) → v < 2 ^ 64 → Words (with_reg rs rd v)
  puts rd v l = with_reg-words rs rd v h l

  -- each instruction leaves registers below 2^64, in each view
  pub effect-words : (i : Instr) → WordsAfter (effect v r m rs pc i)
  effect-words (Lui rd imm) = record { by = puts rd _ (word_of_int-small imm) }
  effect-words (Auipc rd imm) = record { by = puts rd _ (wrap-small (pc + word_of_int imm)) }
  effect-words (Jal rd imm) = jump_if-words _ _ _ (puts rd _ (wrap-small (pc + 4)))
  effect-words (Jalr rd rs1 imm) = jump_if-words _ _ _ (puts rd _ (wrap-small (pc + 4)))
  effect-words (Branch op rs1 rs2 imm) = branch_if-words (is_taken op (reg rs rs1) (reg rs rs2)) rs pc _ h
  effect-words (Load op rd rs1 imm) = load_if-words _ _ m op rs pc rd _ h k
  effect-words (Store op rs1 rs2 imm) = store_if-words _ _ _ _ _
  effect-words (OpImm op rd rs1 imm) = record { by = puts rd _ (imm_result-small op _ imm (reg-small rs rs1 h)) }
  effect-words (OpImmW op rd rs1 imm) = record { by = puts rd _ (imm_w_result-small op _ imm) }
  effect-words (Op op rd rs1 rs2) = record { by = puts rd _ (reg_result-small op _ _ (reg-small rs rs1 h) (reg-small rs rs2 h)) }
  effect-words (OpW op rd rs1 rs2) = record { by = puts rd _ (reg_w_result-small op _ _) }
  effect-words (Fence word) = record { by = h }
  effect-words Ecall = call_effect-words v
  effect-words Ebreak = record { by = tt }
  effect-words Illegal = record { by = tt }
  effect-words i = gate_effect-words v i

-- ---- memory

-- a byte of a number is below 256
pub byte_of-below : (v i : ℕ) → byte_of v i < 256
byte_of-below v i = omega arith

-- bytes patched into bytes are bytes
pub patched-bytes : (m : Memory) (base n : ℕ) (f : Memory) → Bytes m → Bytes f → Bytes (patched m base n f)
unfolding patched
patched-bytes m base n f h k a = elim-below (is_within base n a) (f (a - base)) (m a) 256 (k (a - base)) (h a)

-- an item of a list of bytes is a byte, and so is the 0 past its end
pub get_or-below : (bytes : List ℕ) → AllBytes bytes → (i : ℕ) → get_or bytes i 0 < 256
get_or-below bytes h i = by_case (cases_lt i (length bytes))
  where
    by_case : (i < length bytes) ⊎ (length bytes ≤ i) → get_or bytes i 0 < 256
    by_case (inl l) = All-get_or (λ b. b < 256) bytes i 0 l h
    by_case (inr l) = subst (λ n. n < 256) (sym (get_or_past bytes i 0 l)) (lit< tt)

-- each file has fewer than 2^56 bytes
abbrev pub FileBytes : Files → Type 0
FileBytes files = (name : Name) (bytes : List ℕ) → files name ≡ Some bytes → (length bytes < 2 ^ 56) × AllBytes bytes

-- a read gives bytes
pub bytes_read-below : (files : Files) (spot : ReadSpot) → FileBytes files → AllBytes (bytes_read files spot)
bytes_read-below files spot h = by_content (files spot.name) refl
  where
    by_content : (o : Option (List ℕ)) → files spot.name ≡ o → AllBytes (take spot.count (drop spot.offset (unwrap_or o [])))
    by_content None e = All-take (λ b. b < 256) spot.count _ (All-drop (λ b. b < 256) spot.offset [] (All-nil (λ b. b < 256)))
    by_content (Some bytes) e = All-take (λ b. b < 256) spot.count _ (All-drop (λ b. b < 256) spot.offset bytes (h spot.name bytes e).1)

-- ---- states

-- a state whose registers are below 2^64, whose bytes are below 256, and whose descriptors are lawful
pub record Sized (s : State) : Type 0 where
  pub registers : Words s.registers
  pub memory : Bytes s.memory
  pub files : Lawful s.files

-- a step leads to a sized state, if to any
abbrev SizedIn : Step → Type 0
SizedIn (Went s) = Sized s
SizedIn (Traps cause) = ⊤

-- a sized state, if there is one
abbrev SizedOption : Option State → Type 0
SizedOption None = ⊤
SizedOption (Some s) = Sized s

-- the plan of a call fits lawful descriptors
pub plan-fits : (l : Layout) (s : State) → Lawful s.files → PlanFits s.files (plan_of l s)
plan-fits l s h = plan_by-fits s.files h (is_data l) s.memory (kind_of (reg s.registers 17)) (reg s.registers 10) (reg s.registers 11) (reg s.registers 12)

abbrev SmallOption : Option ℕ → Type 0
SmallOption None = ⊤
SmallOption (Some size) = size < 2 ^ 56

module _ (files : Files) (h : FileBytes files) where
  -- the size of a file is below 2^56
  pub size_in-small : (name : Name) (size : ℕ) → size_in files name ≡ Some size → size < 2 ^ 56
  size_in-small name size e = by_content (files name) refl e
    where
      by_content : (o : Option (List ℕ)) → files name ≡ o → option_map length o ≡ Some size → size < 2 ^ 56
      by_content (Some bytes) g e = subst (λ o. SmallOption o) e (h name bytes g).0
      by_content None g e = absurd (no e)
        where
          no : None ≡ Some size → ⊥
          no e = cc

  -- a call leads from a sized state to a sized one
  performed-sized : (taken : ℕ) (plan : CallPlan) (s : State) → PlanFits s.files plan → Sized s → Sized (performed files taken plan s)
  performed-sized taken (Set f answer) s l z =
      record { registers = with_reg-words s.registers 10 _ z.registers (word_of_int-small answer); memory = z.memory; files = l.by }
  performed-sized taken (Look name) s l z =
      record {
        registers = with_reg-words s.registers 10 _ z.registers (word_of_int-small _);
        memory = z.memory;
        files = opened-lawful s.files z.files name (size_in files name) (size_in-small name);
      }
  performed-sized taken (Read d spot a) s l z =
      record {
        registers = with_reg-words s.registers 10 _ z.registers (word_of_int-small (pos spot.count));
        memory = patched-bytes s.memory a _ _ z.memory (get_or-below (bytes_read files spot) (bytes_read-below files spot h));
        files = after_read-lawful s.files z.files d spot.count (l.by).2;
      }
  performed-sized taken (Write true a n) s l z =
      record { registers = with_reg-words s.registers 10 _ z.registers (word_of_int-small (pos taken)); memory = z.memory; files = z.files }
  performed-sized taken (Write false a n) s l z =
      record { registers = with_reg-words s.registers 10 _ z.registers (word_of_int-small (pos taken)); memory = z.memory; files = z.files }
  performed-sized taken (Exit code) s l z = record { registers = z.registers; memory = z.memory; files = z.files }

  module _ (p : Image) (t : Taken) where
    -- each effect does
    after_effect-sized : (s : State) (e : Effect) → Sized s → WordsAfter e → SizedIn (after_effect p files t s e)
    after_effect-sized s (Next rs pc) z b = record { registers = b.by; memory = z.memory; files = z.files }
    after_effect-sized s (Stored a width v) z b =
        record { registers = z.registers; memory = patched-bytes s.memory a width (byte_of v) z.memory (byte_of-below v); files = z.files }
    after_effect-sized s (Trapped cause) z b = tt
    after_effect-sized s Called z b = performed-sized (taken_by t (plan_of p.layout s) s) (plan_of p.layout s) s (plan-fits p.layout s z.files) z
    after_effect-sized s (Gated i) z b = tt

    -- each instruction does
    at_word-sized : (s : State) (o : Option Instr) → Sized s → SizedIn (at_word p files t s o)
    at_word-sized s None z = tt
    at_word-sized s (Some i) z = after_effect-sized s _ z (effect-words Plain (data_rights p.layout) s.memory s.registers s.pc z.registers z.memory i)

    -- the completed step does
    completed-sized : (step : Step) → SizedIn step → SizedOption (completed step)
    completed-sized (Went s) z = z
    completed-sized (Traps cause) z = tt

    -- so the next state is sized, if there is one
    next_unless-sized : (exited : Option ℕ) (s : State) → Sized s → SizedOption (next_unless exited p files t s)
    next_unless-sized (Some code) s z = tt
    next_unless-sized None s z = completed-sized (next p files t s) (at_word-sized s (fetched (text_of p) p.layout.text_start s.pc) z)

    -- and the one after a state that may be there
    next-sized : (o : Option State) → SizedOption o → SizedOption (option_and_then (next_state p files t) o)
    next-sized None z = tt
    next-sized (Some s) z = next_unless-sized s.exited s z

    -- each state of the run is sized, if it is there
    state_after-sized : (start : State) (n : ℕ) → Sized start → SizedOption (state_after p files t start n)
    unfolding state_after
    state_after-sized start zero z = z
    state_after-sized start (suc n) z = next-sized (state_after p files t start n) (state_after-sized start n z)

    -- every plain state is sized
    pub reached-sized : (start s : State) (n : ℕ) → Sized start → state_after p files t start n ≡ Some s → Sized s
    reached-sized start s n z e = subst (λ o. SizedOption o) e (state_after-sized start n z)
