-- What a shadow sees of the plain state that it stands for: the known bytes, a number that it loads, and the bytes behind its store; and which instructions go on without the memory.
use Rattle.std.proofs.Common.{◌≡◌, ℕ, zero, suc, ◌+◌, ◌-◌, ◌/◌, ◌<◌, ◌≤◌, Bool, true, false, not, ◌&&◌, cond, List, Option, Some, refl, ◌∙◌, ap₂, sym, subst, arith}
use Rattle.std.proofs.lemmas.Bool.{and_parts, or_parts}
use Rattle.std.proofs.lemmas.Bool.Decides.{nat_tests}
use Rattle.spec_base.specs.Word.{byte_of}
use Rattle.spec_base.specs.Layout.{range_start, range_end}
use Rattle.spec_base.specs.declared.layout.Layout.{Layout}
use Rattle.spec_base.specs.declared.machine.View.TheVariants.{Plain}
use Rattle.rv_decode.specs.declared.instr.Instr.{Instr}
use Rattle.rv_decode.specs.declared.instr.Instr.TheVariants.{Lui, Auipc, Jal, Jalr, Branch, Load, Store, OpImm, OpImmW, Op, OpW, Fence, Ecall, Ebreak, Hgate, Hleave, Hsite, Hkey, Hstop, Hrestart, Hcall, Hpark, Illegal}
use Rattle.rv_decode.specs.declared.instr.LoadOp.{LoadOp}
use Rattle.rv_decode.specs.declared.instr.LoadOp.TheVariants.{Lb, Lh, Lw, Ld, Lbu, Lhu, Lwu}
use Rattle.rv_model.specs.Memory.{Memory, is_within, patched, stored, loaded, all_from, any_from}
use Rattle.rv_model.specs.Registers.{Registers, reg}
use Rattle.rv_model.specs.Rights.{Rights, is_data, in_range, in_text}
use Rattle.rv_model.specs.Arithmetic.{load_width}
use Rattle.rv_model.specs.Effect.{Next, effect, load_if}
use Rattle.rv_model.specs.Space.{program_byte, text_byte}
use Rattle.program_model.specs.PlainRun.{State}
use Rattle.code_model.specs.Regions.{shadowed, byte_by_entry}
use Rattle.run_model.specs.Restarts.{Other, instr_action, nothing}
use Rattle.run_model.specs.Marks.{Marks, mark_bytes}
use Rattle.own_laws.proofs.Reached.{false_true}
use Rattle.side_model.specs.Hart.{Regs, get}
use Rattle.side_model.specs.Sees.{HasRegs}
use Rattle.code_model.specs.Tables.{Tabs}
use Rattle.side_model.specs.Tables.{HasTabs}
use Rattle.rows_access.specs.Accesses.{Allows, seen}
use Rattle.rows_access.specs.StoreRows.{with_stored}
use Rattle.rows_access.proofs.AccessPlaces.{seen-shadowed}
use Rattle.mark_laws.specs.Agreement.{Agrees, SeesAlike, is_load}
use Rattle.mark_laws.proofs.OneInstruction.{traps_on, calls_on, stores_on}
use Rattle.hint_laws.proofs.Within.{joined, known_from, AreSeen, does}
use Rattle.hint_laws.proofs.Followed.{known_if, known, registers, is_storing}

-- ---- data

-- data lies in the program range
pub data-range : (l : Layout) (a : ℕ) → is_data l a ≡ true → (range_start ≤ a) × (a < range_end l.version)
data-range l a h =
    let above : range_start ≤ a = grind (arith, nat_tests) in
    let below : a < range_end l.version = grind (arith, nat_tests) in (above, below)

-- what the program range has at a byte of data is the memory's
pub data-program : (l : Layout) (words : List ℕ) (memory : Memory) (a : ℕ) → is_data l a ≡ true → program_byte l words memory a ≡ memory a
data-program l words memory a h = by_tests (in_range l a) (in_text l a) h
  where
    by_tests : (b c : Bool) → (b && not c) ≡ true → elim c [ true ↦ text_byte l words a | false ↦ memory a ] ≡ memory a
    by_tests true true h = false_true h
    by_tests false true h = false_true h
    by_tests b false h = refl

-- where two memories have one byte, so has what is seen in their place
byte-same : (e : ℕ) (shared : Memory) (program memory : Memory) (a : ℕ) → program a ≡ memory a → byte_by_entry e shared program a ≡ byte_by_entry e shared memory a
byte-same zero shared program memory a h = h
byte-same (suc slot) shared program memory a h = refl

-- what a table shows of the program range at a byte of data is what the shadow has in the memory's place
pub data-seen : (l : Layout) (words : List ℕ) (memory shared : Memory) (t : Tabs) → HasTabs l shared t → (a : ℕ) → is_data l a ≡ true → shadowed shared memory a ≡ seen t shared (program_byte l words memory) a
data-seen l words memory shared t has a h =
    seen-shadowed l t shared memory has a (data-range l a h).1 ∙ sym (byte-same (t.entry (a / 256)) shared (program_byte l words memory) memory a (data-program l words memory a h))

-- ---- known bytes

-- a byte of data outside the marks is known
pub known-at : (l : Layout) (m : Marks) (q : State) (a : ℕ) → is_data l a ≡ true → m.bytes a ≡ false → known l m q a ≡ Some (q.memory a)
known-at l m q a h u = ap₂ (λ (b c : Bool). known_if (b && not c) (q.memory a)) h u

-- where a memory is alike, each known byte is what is seen
pub are-seen : (l : Layout) (m : Marks) (words : List ℕ) (memory shared : Memory) (q : State) → SeesAlike l m (shadowed shared memory) q → AreSeen l (known l m q) (program_byte l words memory) shared
are-seen l m words memory shared q h t has a = by_tests (is_data l a) refl (m.bytes a) refl
  where
    by_tests : (b : Bool) → is_data l a ≡ b → (c : Bool) → m.bytes a ≡ c → Allows (known_if (b && not c) (q.memory a)) (seen t shared (program_byte l words memory) a)
    by_tests false e c f = tt
    by_tests true e true f = tt
    by_tests true e false f = sym (data-seen l words memory shared t has a e) ∙ h.bytes a e f

-- ---- a number that is loaded

-- data outside the marks is a known number
known-all : (l : Layout) (m : Marks) (q : State) (a n : ℕ) → all_from (is_data l) a n ≡ true → any_from m.bytes a n ≡ false → known_from (known l m q) a n ≡ Some (loaded q.memory a n)
unfolding known_from loaded all_from any_from
known-all l m q a zero d u = refl
known-all l m q a (suc n) d u =
    let inside : (is_data l a ≡ true) × (all_from (is_data l) (a + 1) n ≡ true) = and_parts (is_data l a) (all_from (is_data l) (a + 1) n) d in
    let free : (m.bytes a ≡ false) × (any_from m.bytes (a + 1) n ≡ false) = or_parts (m.bytes a) (any_from m.bytes (a + 1) n) u in
    ap₂ joined (known-at l m q a inside.0 free.0) (known-all l m q (a + 1) n inside.1 free.1)

-- so what is loaded there is the state's number
pub known-number : (l : Layout) (m : Marks) (q : State) (a n number : ℕ) → all_from (is_data l) a n ≡ true → Allows (known_from (known l m q) a n) number → any_from m.bytes a n ≡ false → number ≡ loaded q.memory a n
known-number l m q a n number d h u = subst (λ (o : Option ℕ). Allows o number) (known-all l m q a n d u) h

-- ---- bytes behind a store

-- where the known bytes are seen behind a store, what the shadow has is alike where the stored bytes in the state's memory are
pub stored-seen : (l : Layout) (m : Marks) (words : List ℕ) (memory new : Memory) (q next : State) (t : Tabs) (at width v : ℕ) (marked : Bool) → HasTabs l new t
    → ((a : ℕ) → range_start ≤ a → a < range_end l.version → Allows (with_stored at width v (known l m q) a) (seen t new (program_byte l words memory) a))
    → SeesAlike l (mark_bytes m at width marked) (stored q.memory at width v) next → SeesAlike l (mark_bytes m at width marked) (shadowed new memory) next
unfolding patched
stored-seen l m words memory new q next t at width v marked has viewed alike = record { bytes = λ a d u. same a d u ∙ alike.bytes a d u }
  where
    same : (a : ℕ) → is_data l a ≡ true → (mark_bytes m at width marked).bytes a ≡ false → shadowed new memory a ≡ patched q.memory at width (byte_of v) a
    same a d u =
        let range : (range_start ≤ a) × (a < range_end l.version) = data-range l a d in
        data-seen l words memory new t has a d ∙ by_test (is_within at width a) u (viewed a range.0 range.1)
      where
        by_test : (b : Bool) → elim b [ true ↦ marked | false ↦ m.bytes a ] ≡ false → Allows (cond b (Some (byte_of v (a - at))) (known l m q a)) (seen t new (program_byte l words memory) a)
            → seen t new (program_byte l words memory) a ≡ elim b [ true ↦ byte_of v (a - at) | false ↦ q.memory a ]
        by_test true u h = h
        by_test false u h = subst (λ (o : Option ℕ). Allows o (seen t new (program_byte l words memory) a)) (known-at l m q a d u) h

-- ---- registers

-- the registers of a row are the row's
pub has-registers : (g : Regs) → HasRegs (registers g) g
has-registers g = record { at = λ n. at n }
  where
    at : (n : ℕ) → reg (registers g) n ≡ get n g
    at zero = refl
    at (suc n) = refl

-- a row's registers agree with a state where the hart's do
pub agrees-as : (m : Marks) (rs : Registers) (g : Regs) (q : State) → HasRegs rs g → Agrees m rs q → Agrees m (registers g) q
agrees-as m rs g q has h = record { registers = λ i above below u. at i above below u }
  where
    at : (i : ℕ) → 0 < i → i < 32 → m.registers i ≡ false → registers g i ≡ q.registers i
    at zero above below u = absurd (omega (arith, above))
    at (suc i) above below u = sym (has.at (suc i)) ∙ h.registers (suc i) above below u

-- and the hart's where the row's do
pub agrees-shown : (m : Marks) (rs : Registers) (g : Regs) (q : State) → HasRegs rs g → Agrees m (registers g) q → Agrees m rs q
agrees-shown m rs g q has agrees = record { registers = λ i some few free. by_number i some few free }
  where
    by_number : (i : ℕ) → 0 < i → i < 32 → m.registers i ≡ false → rs i ≡ q.registers i
    by_number zero some few free = absurd (omega (arith, some))
    by_number (suc i) some few free = has.at (suc i) ∙ agrees.registers (suc i) some few free

-- ---- instructions that go on without the memory

-- no address may be accessed
abbrev pub no_rights : Rights
no_rights = record { load = nothing; store = nothing }

-- such an instruction loads and stores nothing, and is no call
pub record IsFlow (l : Layout) (q : State) (i : Instr) : Type 0 where
  pub other : instr_action l q (Some i) ≡ Other
  pub no_load : is_load i ≡ false
  pub no_store : (p : ℕ) (g : Regs) → is_storing (does p i g) ≡ false

-- a load without rights traps
load-traps : {A : Type 0} (a pc rd : ℕ) (op : LoadOp) (m : Memory) (was new : Registers) (target : ℕ) (b : Bool) → load_if b (all_from nothing a (load_width op)) m op was pc rd a ≡ Next new target → A
unfolding all_from
load-traps a pc rd Lb m was new target false e = traps_on e
load-traps a pc rd Lh m was new target false e = traps_on e
load-traps a pc rd Lw m was new target false e = traps_on e
load-traps a pc rd Ld m was new target false e = traps_on e
load-traps a pc rd Lbu m was new target false e = traps_on e
load-traps a pc rd Lhu m was new target false e = traps_on e
load-traps a pc rd Lwu m was new target false e = traps_on e
load-traps a pc rd Lb m was new target true e = traps_on e
load-traps a pc rd Lh m was new target true e = traps_on e
load-traps a pc rd Lw m was new target true e = traps_on e
load-traps a pc rd Ld m was new target true e = traps_on e
load-traps a pc rd Lbu m was new target true e = traps_on e
load-traps a pc rd Lhu m was new target true e = traps_on e
load-traps a pc rd Lwu m was new target true e = traps_on e

-- what goes on without rights
pub flow-is : (l : Layout) (q : State) (i : Instr) (m : Memory) (was new : Registers) (pc target : ℕ) → effect Plain no_rights m was pc i ≡ Next new target → IsFlow l q i
flow-is l q (Lui rd imm) m was new pc target e = record { other = refl; no_load = refl; no_store = λ p g. refl }
flow-is l q (Auipc rd imm) m was new pc target e = record { other = refl; no_load = refl; no_store = λ p g. refl }
flow-is l q (Jal rd imm) m was new pc target e = record { other = refl; no_load = refl; no_store = λ p g. refl }
flow-is l q (Jalr rd rs1 imm) m was new pc target e = record { other = refl; no_load = refl; no_store = λ p g. refl }
flow-is l q (Branch op rs1 rs2 imm) m was new pc target e = record { other = refl; no_load = refl; no_store = λ p g. refl }
flow-is l q (Load op rd rs1 imm) m was new pc target e = load-traps _ pc rd op m was new target _ e
flow-is l q (Store op rs1 rs2 imm) m was new pc target e = stores_on _ _ _ _ _ e
flow-is l q (OpImm op rd rs1 imm) m was new pc target e = record { other = refl; no_load = refl; no_store = λ p g. refl }
flow-is l q (OpImmW op rd rs1 imm) m was new pc target e = record { other = refl; no_load = refl; no_store = λ p g. refl }
flow-is l q (Op op rd rs1 rs2) m was new pc target e = record { other = refl; no_load = refl; no_store = λ p g. refl }
flow-is l q (OpW op rd rs1 rs2) m was new pc target e = record { other = refl; no_load = refl; no_store = λ p g. refl }
flow-is l q (Fence number) m was new pc target e = record { other = refl; no_load = refl; no_store = λ p g. refl }
flow-is l q Ecall m was new pc target e = calls_on e
flow-is l q Ebreak m was new pc target e = traps_on e
flow-is l q Hgate m was new pc target e = traps_on e
flow-is l q Hleave m was new pc target e = traps_on e
flow-is l q (Hsite rd) m was new pc target e = traps_on e
flow-is l q (Hkey rd) m was new pc target e = traps_on e
flow-is l q Hstop m was new pc target e = traps_on e
flow-is l q Hrestart m was new pc target e = traps_on e
flow-is l q (Hcall unhinted) m was new pc target e = traps_on e
flow-is l q (Hpark cause) m was new pc target e = traps_on e
flow-is l q Illegal m was new pc target e = traps_on e
