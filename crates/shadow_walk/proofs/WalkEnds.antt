-- Why a shadow parks on its way through the block of a plain state: the program traps there, or goes on outside its text; or slots or log are full.
use Rattle.std.proofs.Common.{◌≡◌, ℕ, ◌/◌, ◌%◌, ◌<◌, ◌⊎◌, inl, inr, Bool, true, false, ◌==◌, ℤ, Option, Some, None, refl, ◌∙◌, ap, ap₂, sym, subst, arith}
use Rattle.spec_base.specs.Files.{Files}
use Rattle.spec_base.specs.Word.{plus_int}
use Rattle.spec_base.specs.declared.layout.Layout.{Layout}
use Rattle.spec_base.specs.declared.machine.Trap.{Trap}
use Rattle.spec_base.specs.declared.machine.View.TheVariants.{Plain}
use Rattle.spec_base.specs.declared.park.Park.{Park}
use Rattle.spec_base.specs.declared.park.Park.TheVariants as park
use Rattle.rv_decode.specs.Encoding.{HasRegisters}
use Rattle.rv_decode.specs.declared.instr.Instr.{Instr}
use Rattle.rv_decode.specs.declared.instr.Instr.TheVariants.{Jal, Jalr, Branch, Load, Store, Lui, Auipc, OpImm, OpImmW, Op, OpW, Fence}
use Rattle.rv_decode.specs.declared.instr.LoadOp.{LoadOp}
use Rattle.rv_decode.specs.declared.instr.StoreOp.{StoreOp}
use Rattle.rv_model.specs.Memory.{Memory, all_from}
use Rattle.rv_model.specs.Registers.{Registers, reg, with_reg}
use Rattle.rv_model.specs.Rights.{Rights, data_rights}
use Rattle.rv_model.specs.Arithmetic.{is_taken, load_width, store_width}
use Rattle.rv_model.specs.Effect.{Effect, Next, Stored, Trapped, Called, Gated, effect, after, even, jump_if, jumps_to, branch_if, load_if, load_effect, store_if, store_effect}
use Rattle.program_model.specs.PlainRun.{State, Image, all_taken, next_state, next_unless, at_word, after_effect, completed}
use Rattle.run_model.specs.Run.{World}
use Rattle.run_laws.specs.OwnLaws.{Accepted}
use Rattle.run_model.specs.Restarts.{instr_at}
use Rattle.run_model.specs.Marks.{no_marks}
use Rattle.side_model.specs.Hart.{Regs, get}
use Rattle.code_model.specs.Tables.{Tabs}
use Rattle.rows_access.specs.Accesses.{AccessFaults, may_access, load_size, store_size}
use Rattle.rows_access.specs.StoreRows.{StoreParks, faults, full_up}
use Rattle.rows_access.proofs.Traps.{load_traps, store_traps}
use Rattle.rows_flow.specs.Following as row
use Rattle.rows_flow.specs.Following.{GoesOut, traps, leaves, IsTrap, FlowFaults}
use Rattle.mark_laws.specs.Agreement.{Agrees, IsAt}
use Rattle.mark_laws.proofs.OneInstruction.{unmarked-register, true_false}
use Rattle.hint_laws.proofs.Within.{Doing, does, ends, restarts, goes_to}
use Rattle.hint_laws.proofs.WithinSteps.{flow_faults, load_faults, store_parks, call_parks, leaves_text, last_site, exits}
use Rattle.hint_laws.proofs.WithinSteps as word
use Rattle.hint_laws.proofs.Followed.{registers, regs_of, DoesOf, instruction, text_end, restart, is_restart}
use Rattle.hint_laws.proofs.Views.{has-registers}
use Rattle.hint_laws.proofs.Spots as spot
use Rattle.own_laws.proofs.Reached.{false_true, none_some}
use Rattle.rv_model.specs.Rights.{in_text}
use Rattle.shadow_walk.specs.Walks.{Faults, ParksBy}
use Rattle.shadow_walk.specs.Walks as walk

-- ---- where an effect goes

-- to a pc, to a trap, or to something else
abbrev goal_of : Effect → Option (Option ℕ)
goal_of (Next rs pc) = Some (Some pc)
goal_of (Trapped t) = Some None
goal_of (Stored a width v) = None
goal_of Called = None
goal_of (Gated i) = None

-- what a goal says of its effect
record Goes (e : Effect) (pc : ℕ) : Type 0 where
  rs : Registers
  next : e ≡ Next rs pc

record Fails (e : Effect) : Type 0 where
  t : Trap
  trap : e ≡ Trapped t

goes-on : (e : Effect) (pc : ℕ) → goal_of e ≡ Some (Some pc) → Goes e pc
goes-on (Next rs to) pc h = let same : to ≡ pc = cc in record { rs = rs; next = ap (Next rs) same }
goes-on (Trapped t) pc h = absurd cc
goes-on (Stored a width v) pc h = absurd cc
goes-on Called pc h = absurd cc
goes-on (Gated i) pc h = absurd cc

fails : (e : Effect) → goal_of e ≡ Some None → Fails e
fails (Trapped t) h = record { t = t; trap = refl }
fails (Next rs to) h = absurd cc
fails (Stored a width v) h = absurd cc
fails Called h = absurd cc
fails (Gated i) h = absurd cc

-- ---- by the registers that an instruction takes

-- two jumps to the same target
jump-alike : (b : Bool) (rs qs : Registers) (target : ℕ) → goal_of (jump_if b rs target) ≡ goal_of (jump_if b qs target)
jump-alike true rs qs target = refl
jump-alike false rs qs target = refl

branch-alike : (b : Bool) (rs qs : Registers) (pc target : ℕ) → goal_of (branch_if b rs pc target) ≡ goal_of (branch_if b qs pc target)
branch-alike true rs qs pc target = jump-alike (target % 4 == 0) rs qs target
branch-alike false rs qs pc target = refl

load-alike : (b c : Bool) (m : Memory) (op : LoadOp) (rs qs : Registers) (pc rd a : ℕ) → goal_of (load_if b c m op rs pc rd a) ≡ goal_of (load_if b c m op qs pc rd a)
load-alike false c m op rs qs pc rd a = refl
load-alike true false m op rs qs pc rd a = refl
load-alike true true m op rs qs pc rd a = refl

store-alike : (b c : Bool) (a width v u : ℕ) → goal_of (store_if b c a width v) ≡ goal_of (store_if b c a width u)
store-alike false c a width v u = refl
store-alike true false a width v u = refl
store-alike true true a width v u = refl

-- an instruction goes to the same with registers that are the same
module _ (r : Rights) (m : Memory) (rs qs : Registers) (pc : ℕ) (same : (n : ℕ) → n < 32 → reg rs n ≡ reg qs n) where
  goal-alike : (i : Instr) → HasRegisters i → goal_of (effect Plain r m rs pc i) ≡ goal_of (effect Plain r m qs pc i)
  goal-alike (Jal rd imm) h = jump-alike _ _ _ (plus_int pc imm)
  goal-alike (Jalr rd rs1 imm) h =
      ap (λ (x : ℕ). goal_of (jumps_to (with_reg rs rd (after pc)) (even (plus_int x imm)))) (same rs1 h.1)
      ∙ jump-alike _ (with_reg rs rd (after pc)) (with_reg qs rd (after pc)) (even (plus_int (reg qs rs1) imm))
  goal-alike (Branch op rs1 rs2 imm) h =
      ap₂ (λ (x y : ℕ). goal_of (branch_if (is_taken op x y) rs pc (plus_int pc imm))) (same rs1 h.0) (same rs2 h.1)
      ∙ branch-alike (is_taken op (reg qs rs1) (reg qs rs2)) rs qs pc (plus_int pc imm)
  goal-alike (Load op rd rs1 imm) h =
      ap (λ (x : ℕ). goal_of (load_effect r m op rs pc rd (plus_int x imm))) (same rs1 h.1) ∙ load-alike _ (all_from r.load (plus_int (reg qs rs1) imm) (load_width op)) m op rs qs pc rd (plus_int (reg qs rs1) imm)
  goal-alike (Store op rs1 rs2 imm) h =
      ap (λ (x : ℕ). goal_of (store_effect r (plus_int x imm) (store_width op) (reg rs rs2))) (same rs1 h.0)
      ∙ store-alike _ (all_from r.store (plus_int (reg qs rs1) imm) (store_width op)) (plus_int (reg qs rs1) imm) (store_width op) (reg rs rs2) (reg qs rs2)
  goal-alike (Lui rd imm) h = refl
  goal-alike (Auipc rd imm) h = refl
  goal-alike (OpImm op rd rs1 imm) h = refl
  goal-alike (OpImmW op rd rs1 imm) h = refl
  goal-alike (Op op rd rs1 rs2) h = refl
  goal-alike (OpW op rd rs1 rs2) h = refl
  goal-alike (Fence number) h = refl
  goal-alike _ h = refl

-- ---- the state's next state

-- the step of a state is its instruction's effect
completes-as : (p : Image) (files : Files) (q : State) (i : Instr) → IsAt p q i → (e : Effect) → effect Plain (data_rights p.layout) q.memory q.registers q.pc i ≡ e → next_state p files all_taken q ≡ completed (after_effect p files all_taken q e)
completes-as p files q i at e is =
    ap (λ exited. next_unless exited p files all_taken q) at.goes_on ∙ ap (λ word. completed (at_word p files all_taken q word)) at.word ∙ ap (λ e. completed (after_effect p files all_taken q e)) is

-- what the shadow does is the instruction of a state, or the text's end
abbrev pub OnInstruction : World → State → Doing → Type 0
OnInstruction w q (does p i g) = (p ≡ q.pc) × (instr_at w.image q ≡ Some i) × HasRegisters i × Agrees no_marks (registers g) q
OnInstruction w q (ends g) = q.pc ≡ w.image.layout.text_end
OnInstruction w q (restarts site g) = ⊥
OnInstruction w q (goes_to to g) = ⊥

pub on-instruction : {w : World} {q : State} {d : Doing} → DoesOf w q d → is_restart d ≡ false → Agrees no_marks (registers (regs_of d)) q → OnInstruction w q d
on-instruction (instruction i g word has) plain agrees = (refl, word, has, agrees)
on-instruction (text_end g e) plain agrees = e
on-instruction (restart g e) plain agrees = true_false plain

-- a program that goes on, and in its text where it jumps, doesn't fault
pub no-faults : (w : World) (q : State) {next : State} → next_state w.image w.files all_taken q ≡ Some next → (walk.jumps q.registers (instr_at w.image q) ≡ true → in_text w.image.layout next.pc ≡ true) → Faults w q → ⊥
no-faults w q completes stays (inl none) = none_some (sym none ∙ completes)
no-faults w q {next} completes stays (inr out) =
    let same : out.next ≡ next = let f : Some out.next ≡ Some next = sym out.completes ∙ completes in cc in
    false_true (sym out.outside ∙ ap (λ (s : State). in_text w.image.layout s.pc) same ∙ stays out.by_jump)

-- ---- why it parks

module _ (w : World) (a : Accepted w) (q : State) (going : q.exited ≡ None) (m : Memory) where
  abbrev l : Layout
  l = w.image.layout

  -- a trap
  by-trap : (i : Instr) → instr_at w.image q ≡ Some i → (t : Trap) → effect Plain (data_rights l) q.memory q.registers q.pc i ≡ Trapped t → ParksBy w q m park.Fault
  by-trap i word t e = walk.faults (inl (completes-as w.image w.files q i (record { goes_on = going; word = word }) (Trapped t) e))

  -- the registers of a row that agrees are the state's
  same-registers : (g : Regs) → Agrees no_marks (registers g) q → (n : ℕ) → n < 32 → reg (registers g) n ≡ reg q.registers n
  same-registers g agrees n few = unmarked-register no_marks (registers g) q agrees n few refl

  same-address : (g : Regs) (imm : ℤ) → Agrees no_marks (registers g) q → (n : ℕ) → n < 32 → plus_int (get n g) imm ≡ plus_int (reg q.registers n) imm
  same-address g imm agrees n few = ap (λ (x : ℕ). plus_int x imm) (sym ((has-registers g).at n) ∙ same-registers g agrees n few)

  -- whether an instruction jumps, by the row's registers and by the state's
  pub same-jumps : (g : Regs) (i : Instr) → HasRegisters i → Agrees no_marks (registers g) q → row.jumps g i ≡ walk.jumps q.registers (Some i)
  same-jumps g (Branch op rs1 rs2 imm) few agrees =
      ap₂ (λ (x y : ℕ). is_taken op x y) (sym ((has-registers g).at rs1) ∙ same-registers g agrees rs1 few.0) (sym ((has-registers g).at rs2) ∙ same-registers g agrees rs2 few.1)
  same-jumps g (Jal rd imm) few agrees = refl
  same-jumps g (Jalr rd rs1 imm) few agrees = refl
  same-jumps g _ few agrees = refl

  -- an instruction that goes out of the text, or traps
  by-flow : (p : ℕ) (i : Instr) (g : Regs) (cause : Park) → OnInstruction w q (does p i g) → FlowFaults l p i g cause → ParksBy w q m cause
  by-flow p i g cause is f =
      subst (ParksBy w q m) (sym f.fault)
      (by_end (effect Plain (data_rights l) q.memory (registers g) p i) refl (f.out (data_rights l) q.memory (registers g) (has-registers g)))
    where
      same : goal_of (effect Plain (data_rights l) q.memory (registers g) p i) ≡ goal_of (effect Plain (data_rights l) q.memory q.registers q.pc i)
      same = goal-alike (data_rights l) q.memory (registers g) q.registers p (same-registers g is.3) i is.2 ∙ ap (λ (pc : ℕ). goal_of (effect Plain (data_rights l) q.memory q.registers pc i)) is.0

      by_jump : (rs : Registers) (pc : ℕ) → effect Plain (data_rights l) q.memory (registers g) p i ≡ Next rs pc → in_text l pc ≡ false → (b : Bool) → row.jumps g i ≡ b → ParksBy w q m park.Fault
      by_jump rs pc e out true h =
          let f : Goes (effect Plain (data_rights l) q.memory q.registers q.pc i) pc = goes-on _ pc (sym same ∙ ap goal_of e) in
          walk.faults (inr (record {
            next = record q { registers = f.rs; pc = pc };
            completes = completes-as w.image w.files q i (record { goes_on = going; word = is.1 }) (Next f.rs pc) f.next;
            by_jump = ap (walk.jumps q.registers) is.1 ∙ sym (same-jumps g i is.2 is.3) ∙ h;
            outside = out;
          }))
      by_jump rs pc e out false h =
          let t : IsTrap (effect Plain (data_rights l) q.memory (registers g) p i) = f.other h (data_rights l) q.memory (registers g) in
          absurd (let k : Trapped t.cause ≡ Next rs pc = sym t.trap ∙ e in cc)

      by_end : (e : Effect) → effect Plain (data_rights l) q.memory (registers g) p i ≡ e → GoesOut l e → ParksBy w q m park.Fault
      by_end _ e (traps t) = let f : Fails (effect Plain (data_rights l) q.memory q.registers q.pc i) = fails _ (sym same ∙ ap goal_of e) in by-trap i is.1 f.t f.trap
      by_end _ e (leaves rs pc out) = by_jump rs pc e out (row.jumps g i) refl

  -- a load
  by-load : (p : ℕ) (op : LoadOp) (rd rs1 : ℕ) (imm : ℤ) (g : Regs) (cause : Park) → OnInstruction w q (does p (Load op rd rs1 imm) g) → AccessFaults l (load_size op) (plus_int (get rs1 g) imm) cause → ParksBy w q m cause
  by-load p op rd rs1 imm g cause is f =
      let at : plus_int (get rs1 g) imm ≡ plus_int (reg q.registers rs1) imm = same-address g imm is.3 rs1 (is.2).1 in
      let t = (load_traps l q.memory op q.registers q.pc rd (plus_int (reg q.registers rs1) imm)).0 (subst (λ (x : ℕ). may_access l (load_size op) x ≡ false) at f.trap) in
      subst (ParksBy w q m) (sym f.fault) (by-trap (Load op rd rs1 imm) is.1 t.0 t.1)

  -- a store
  by-store : (p : ℕ) (op : StoreOp) (rs1 rs2 : ℕ) (imm : ℤ) (g : Regs) (cause : Park) (bytes : ℕ → Option ℕ) (t0 : Tabs) → OnInstruction w q (does p (Store op rs1 rs2 imm) g) → StoreParks l p op rs1 rs2 imm g bytes t0 cause
      → (cause ≡ park.Regions → word.IsFullFor l m (plus_int (get rs1 g) imm / 256)) → ParksBy w q m cause
  by-store p op rs1 rs2 imm g _ bytes t0 is (faults none) then =
      let at : plus_int (get rs1 g) imm ≡ plus_int (reg q.registers rs1) imm = same-address g imm is.3 rs1 (is.2).0 in
      let t = (store_traps l op (plus_int (reg q.registers rs1) imm) (reg q.registers rs2)).0 (subst (λ (x : ℕ). may_access l (store_size op) x ≡ false) at none) in
      by-trap (Store op rs1 rs2 imm) is.1 t.0 t.1
  by-store p op rs1 rs2 imm g _ bytes t0 is (full_up may none full) then =
      let at : plus_int (get rs1 g) imm ≡ plus_int (reg q.registers rs1) imm = same-address g imm is.3 rs1 (is.2).0 in
      let to : ℕ = plus_int (reg q.registers rs1) imm in
      let f : word.IsFullFor l m (to / 256) = subst (λ (x : ℕ). word.IsFullFor l m (x / 256)) at (then refl) in
      let stores = (store_traps l op to (reg q.registers rs2)).1 (subst (λ (x : ℕ). may_access l (store_size op) x ≡ true) at may) in
      let completes = completes-as w.image w.files q (Store op rs1 rs2 imm) (record { goes_on = going; word = is.1 }) (Stored to (store_width op) (reg q.registers rs2)) stores in
      walk.full_up op rs1 rs2 imm is.1 (no-faults w q completes (λ j. false_true (sym (ap (walk.jumps q.registers) is.1) ∙ j))) f.uncopied f.slots

  -- behind the text
  by-end : q.pc ≡ l.text_end → ParksBy w q m park.Fault
  by-end end = by_word (instr_at w.image q) refl
    where
      by_word : (o : Option Instr) → instr_at w.image q ≡ o → ParksBy w q m park.Fault
      by_word None e = walk.faults (inl (ap (λ exited. next_unless exited w.image w.files all_taken q) going ∙ ap (λ word. completed (at_word w.image w.files all_taken q word)) e))
      by_word (Some i) e = let s : spot.InstructionStands w q i = spot.instr-stands w a q i e in absurd (omega (arith, s.below, end))

  -- each park; an exit, or a look that fails, is told by another cause
  pub parks-by : (cause : Park) {d : Doing} → OnInstruction w q d → word.Stops l m cause d → ParksBy w q m cause ⊎ ((cause ≡ park.Exit) ⊎ (cause ≡ park.Store))
  parks-by cause is (flow_faults {p} {i} {q = g} f) = inl (by-flow p i g cause is f)
  parks-by cause is (load_faults {p} {op} {rd} {rs1} {imm} {q = g} f) = inl (by-load p op rd rs1 imm g cause is f)
  parks-by cause is (store_parks {p} {op} {rs1} {rs2} {imm} {q = g} bytes t0 why then) = inl (by-store p op rs1 rs2 imm g cause bytes t0 is why then)
  parks-by cause is (call_parks e) = inl (subst (ParksBy w q m) (sym e) (walk.log_full is.1))
  parks-by cause is (leaves_text f) = inl (subst (ParksBy w q m) (sym f.fault) (by-end is))
  parks-by cause is (last_site e to) = absurd is
  parks-by cause is (exits e) = inr e
