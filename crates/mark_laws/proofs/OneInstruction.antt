-- An instruction that is no use and no call leaves a second hart in agreement with the plain run outside the marks.
use Rattle.std.proofs.Common.{◌≡◌, ℕ, zero, suc, ◌-◌, ◌%◌, ◌<◌, Bool, true, false, ◌||◌, ◌==◌, ℤ, Some, refl, ◌∙◌, ap, sym, subst, arith}
use Rattle.std.proofs.lemmas.Bool.{or_parts, and_parts}
use Rattle.spec_base.specs.Files.{Files}
use Rattle.spec_base.specs.Word.{plus_int, byte_of}
use Rattle.spec_base.specs.declared.layout.Layout.{Layout}
use Rattle.spec_base.specs.declared.machine.Trap.{Trap}
use Rattle.spec_base.specs.declared.machine.View.TheVariants.{Plain}
use Rattle.rv_decode.specs.Encoding.{HasRegisters}
use Rattle.rv_decode.specs.declared.instr.Instr.{Instr}
use Rattle.rv_decode.specs.declared.instr.Instr.TheVariants.{Lui, Auipc, Jal, Jalr, Branch, Load, Store, OpImm, OpImmW, Op, OpW, Fence, Ecall, Ebreak, Hgate, Hleave, Hsite, Hkey, Hstop, Hrestart, Hcall, Hpark, Illegal}
use Rattle.rv_decode.specs.declared.instr.LoadOp.{LoadOp}
use Rattle.rv_model.specs.Memory.{Memory, is_within, patched, stored, loaded, all_from, any_from}
use Rattle.rv_model.specs.Registers.{Registers, reg, with_reg}
use Rattle.rv_model.specs.Rights.{is_data, data_rights}
use Rattle.rv_model.specs.Arithmetic.{reg_result, reg_w_result, imm_result, imm_w_result, is_taken, load_width, extended, store_width}
use Rattle.rv_model.specs.Effect.{Effect, Next, Stored, Trapped, Called, after, effect, even, jump_if, jumps_to, branch_if, load_if, load_effect, store_if, store_effect}
use Rattle.program_model.specs.PlainRun.{State, Image, all_taken, next_state, next_unless, at_word, after_effect, completed}
use Rattle.run_model.specs.Marks.{Marks, with_mark, marks_after, is_use}
use Rattle.mark_laws.specs.Agreement.{Agrees, IsAt, Leads, is_load, FlowLeads, FlowAgrees, may_access, LoadAgrees, StoreAgrees}

-- true isn't false
pub true_false : {A : Type 0} → true ≡ false → A
true_false {A} e = absurd (no e)
  where
    no : true ≡ false → ⊥
    no e = cc

-- ---- registers

-- a register that isn't marked
pub unmarked-register : (m : Marks) (rs : Registers) (q : State) → Agrees m rs q → (i : ℕ) → i < 32 → m.registers i ≡ false → reg rs i ≡ reg q.registers i
unmarked-register m rs q h zero below e = refl
unmarked-register m rs q h (suc i) below e = h.registers (suc i) (omega arith) below e

-- registers that are the same but for the marked ones
pub record Alike (marks : ℕ → Bool) (rs qs : Registers) : Type 0 where
  pub at : (i : ℕ) → 0 < i → i < 32 → marks i ≡ false → rs i ≡ qs i

-- so they are behind a write of the same value, or of a marked one
pub written-alike : (m : Marks) (rs : Registers) (q : State) → Agrees m rs q → (rd : ℕ) (marked : Bool) (x y : ℕ) → (marked ≡ false → x ≡ y)
    → Alike (with_mark m.registers rd marked) (with_reg rs rd x) (with_reg q.registers rd y)
written-alike m rs q h zero marked x y e = record { at = h.registers }
written-alike m rs q h (suc n) marked x y e = record { at = λ i above below. by_test i above below (i == suc n) }
  where
    by_test : (i : ℕ) → 0 < i → i < 32 → (b : Bool) → elim b [ true ↦ marked | false ↦ m.registers i ] ≡ false → ◌≡◌ {A = ℕ} (elim b [ true ↦ x | false ↦ rs i ]) (elim b [ true ↦ y | false ↦ q.registers i ])
    by_test i above below true u = e u
    by_test i above below false u = h.registers i above below u

-- ---- steps

-- an instruction's step is its effect
pub completes-as : (p : Image) (files : Files) (q : State) (i : Instr) → IsAt p q i
    → next_state p files all_taken q ≡ completed (after_effect p files all_taken q (effect Plain (data_rights p.layout) q.memory q.registers q.pc i))
completes-as p files q i at = ap (λ exited. next_unless exited p files all_taken q) at.goes_on ∙ ap (λ word. completed (at_word p files all_taken q word)) at.word

-- an effect that goes on at this pc, with registers that are alike
record Beside (marks : ℕ → Bool) (rs : Registers) (pc : ℕ) (e : Effect) : Type 0 where
  registers : Registers
  next : e ≡ Next registers pc
  alike : Alike marks rs registers

-- a state whose effect goes on leads on
beside-leads : (p : Image) (files : Files) (filled : Bool) (m : Marks) (q : State) (i : Instr) (new : Registers) (target : ℕ) → IsAt p q i
    → Beside (marks_after p.layout filled q (Some i) m).registers new target (effect Plain (data_rights p.layout) q.memory q.registers q.pc i)
    → Leads p files filled m q i new target q.memory q.files
beside-leads p files filled m q i new target at b =
    record {
      state = record q { registers = b.registers; pc = target };
      completes = completes-as p files q i at ∙ ap (λ e. completed (after_effect p files all_taken q e)) b.next;
      pc = refl;
      memory = refl;
      descriptors = refl;
      goes_on = at.goes_on;
      agrees = record { registers = b.alike.at };
    }

-- what leaves the memory and the marked bytes leaves what is seen alike
flow-leads : (p : Image) (files : Files) (filled : Bool) (m : Marks) (q : State) (i : Instr) (new : Registers) (target : ℕ) → Leads p files filled m q i new target q.memory q.files
    → (marks_after p.layout filled q (Some i) m).bytes ≡ m.bytes → FlowLeads p files filled m q i new target
flow-leads p files filled m q i new target leads bytes =
    record {
      leads = leads;
      bytes = bytes;
      sees = λ v alike.
          record { bytes = λ a inside u. alike.bytes a inside (ap (λ (marked : ℕ → Bool). marked a) (sym bytes) ∙ u) ∙ ap (λ (w : Memory). w a) (sym leads.memory) };
    }

-- ---- instructions that load and store nothing

-- a trap doesn't go on
pub traps_on : {A : Type 0} {t : Trap} {rs : Registers} {pc : ℕ} → Trapped t ≡ Next rs pc → A
traps_on {A} {t} {rs} {pc} e = absurd (no e)
  where
    no : Trapped t ≡ Next rs pc → ⊥
    no e = cc

-- nor does a call
pub calls_on : {A : Type 0} {rs : Registers} {pc : ℕ} → Called ≡ Next rs pc → A
calls_on {A} {rs} {pc} e = absurd (no e)
  where
    no : Called ≡ Next rs pc → ⊥
    no e = cc

-- nor a store, whatever its tests say
pub stores_on : {A : Type 0} {rs : Registers} {pc : ℕ} (whole inside : Bool) (a width v : ℕ) → store_if whole inside a width v ≡ Next rs pc → A
stores_on {A} {rs} {pc} false inside a width v e = traps_on e
stores_on {A} {rs} {pc} true false a width v e = traps_on e
stores_on {A} {rs} {pc} true true a width v e = absurd (no e)
  where
    no : Stored a width v ≡ Next rs pc → ⊥
    no e = cc

-- two effects that go on at the same pc
steps-beside : (marks : ℕ → Bool) (rs qs new : Registers) (t target : ℕ) → Alike marks rs qs → Next rs t ≡ Next new target → Beside marks new target (Next qs t)
steps-beside marks rs qs new t target h e =
    let same : rs ≡ new = cc in
    let place : t ≡ target = cc in
    record { registers = qs; next = ap (Next qs) place; alike = subst (λ (r : Registers). Alike marks r qs) same h }

-- two jumps to the same target
jumps-beside : (marks : ℕ → Bool) (rs qs new : Registers) (t target : ℕ) → Alike marks rs qs → jumps_to rs t ≡ Next new target → Beside marks new target (jumps_to qs t)
jumps-beside marks rs qs new t target h = by_test (t % 4 == 0)
  where
    by_test : (whole : Bool) → jump_if whole rs t ≡ Next new target → Beside marks new target (jump_if whole qs t)
    by_test true e = steps-beside marks rs qs new t target h e
    by_test false e = traps_on e

-- two branches that are both taken, or both not
branches-beside : (marks : ℕ → Bool) (rs qs new : Registers) (pc t target : ℕ) → Alike marks rs qs → (taken : Bool) → branch_if taken rs pc t ≡ Next new target → Beside marks new target (branch_if taken qs pc t)
branches-beside marks rs qs new pc t target h true e = jumps-beside marks rs qs new t target h e
branches-beside marks rs qs new pc t target h false e = steps-beside marks rs qs new (after pc) target h e

module _ (p : Image) (filled : Bool) (m : Marks) (q : State) (rs : Registers) (v : Memory) (new : Registers) (target : ℕ) (h : Agrees m rs q) where
  -- where the hart goes on behind a write
  computes-beside : (rd : ℕ) (marked : Bool) (x y : ℕ) → (marked ≡ false → x ≡ y) → Next (with_reg rs rd x) (after q.pc) ≡ Next new target
      → Beside (with_mark m.registers rd marked) new target (Next (with_reg q.registers rd y) (after q.pc))
  computes-beside rd marked x y e = steps-beside (with_mark m.registers rd marked) (with_reg rs rd x) (with_reg q.registers rd y) new (after q.pc) target (written-alike m rs q h rd marked x y e)

  -- by the instruction, the state goes on where the hart does
  flow-beside : (i : Instr) → HasRegisters i → is_load i ≡ false → is_use p.layout q (Some i) m ≡ false → effect Plain (data_rights p.layout) v rs q.pc i ≡ Next new target
      → Beside (marks_after p.layout filled q (Some i) m).registers new target (effect Plain (data_rights p.layout) q.memory q.registers q.pc i)
  flow-beside (Lui rd imm) r n u e = computes-beside rd false _ _ (λ unmarked. refl) e
  flow-beside (Auipc rd imm) r n u e = computes-beside rd false _ _ (λ unmarked. refl) e
  flow-beside (Jal rd imm) r n u e =
      jumps-beside (with_mark m.registers rd false) (with_reg rs rd (after q.pc)) (with_reg q.registers rd (after q.pc)) new (plus_int q.pc imm) target
      (written-alike m rs q h rd false (after q.pc) (after q.pc) (λ unmarked. refl)) e
  flow-beside (Jalr rd rs1 imm) r n u e =
      let qs : Registers = with_reg q.registers rd (after q.pc) in
      let marks : ℕ → Bool = with_mark m.registers rd false in
      subst (λ (x : ℕ). Beside marks new target (jumps_to qs (even (plus_int x imm)))) (unmarked-register m rs q h rs1 r.1 u)
      (jumps-beside marks (with_reg rs rd (after q.pc)) qs new (even (plus_int (reg rs rs1) imm)) target (written-alike m rs q h rd false (after q.pc) (after q.pc) (λ unmarked. refl)) e)
  flow-beside (Branch op rs1 rs2 imm) r n u e =
      let both = or_parts (m.registers rs1) (m.registers rs2) u in
      let one = unmarked-register m rs q h rs1 r.0 both.0 in
      let other = unmarked-register m rs q h rs2 r.1 both.1 in
      let same : is_taken op (reg rs rs1) (reg rs rs2) ≡ is_taken op (reg q.registers rs1) (reg q.registers rs2) = (λ j. is_taken op (one j) (other j)) in
      subst (λ (taken : Bool). Beside m.registers new target (branch_if taken q.registers q.pc (plus_int q.pc imm))) same
      (branches-beside m.registers rs q.registers new q.pc (plus_int q.pc imm) target (record { at = h.registers }) (is_taken op (reg rs rs1) (reg rs rs2)) e)
  flow-beside (Load op rd rs1 imm) r n u e = true_false n
  flow-beside (Store op rs1 rs2 imm) r n u e = stores_on _ _ _ _ _ e
  flow-beside (OpImm op rd rs1 imm) r n u e = computes-beside rd (m.registers rs1) _ _ (λ unmarked. ap (λ x. imm_result op x imm) (unmarked-register m rs q h rs1 r.1 unmarked)) e
  flow-beside (OpImmW op rd rs1 imm) r n u e = computes-beside rd (m.registers rs1) _ _ (λ unmarked. ap (λ x. imm_w_result op x imm) (unmarked-register m rs q h rs1 r.1 unmarked)) e
  flow-beside (Op op rd rs1 rs2) r n u e = computes-beside rd (m.registers rs1 || m.registers rs2) _ _ same e
    where
      same : (m.registers rs1 || m.registers rs2) ≡ false → reg_result op (reg rs rs1) (reg rs rs2) ≡ reg_result op (reg q.registers rs1) (reg q.registers rs2)
      same unmarked =
          let both = or_parts (m.registers rs1) (m.registers rs2) unmarked in
          let one = unmarked-register m rs q h rs1 r.1 both.0 in
          let other = unmarked-register m rs q h rs2 r.2 both.1 in (λ j. reg_result op (one j) (other j))
  flow-beside (OpW op rd rs1 rs2) r n u e = computes-beside rd (m.registers rs1 || m.registers rs2) _ _ same e
    where
      same : (m.registers rs1 || m.registers rs2) ≡ false → reg_w_result op (reg rs rs1) (reg rs rs2) ≡ reg_w_result op (reg q.registers rs1) (reg q.registers rs2)
      same unmarked =
          let both = or_parts (m.registers rs1) (m.registers rs2) unmarked in
          let one = unmarked-register m rs q h rs1 r.1 both.0 in
          let other = unmarked-register m rs q h rs2 r.2 both.1 in (λ j. reg_w_result op (one j) (other j))
  flow-beside (Fence word) r n u e = steps-beside m.registers rs q.registers new (after q.pc) target (record { at = h.registers }) e
  flow-beside Ecall r n u e = calls_on e
  flow-beside Ebreak r n u e = traps_on e
  flow-beside Hgate r n u e = traps_on e
  flow-beside Hleave r n u e = traps_on e
  flow-beside (Hsite rd) r n u e = traps_on e
  flow-beside (Hkey rd) r n u e = traps_on e
  flow-beside Hstop r n u e = traps_on e
  flow-beside Hrestart r n u e = traps_on e
  flow-beside (Hcall unhinted) r n u e = traps_on e
  flow-beside (Hpark cause) r n u e = traps_on e
  flow-beside Illegal r n u e = traps_on e

  -- and marks no byte
  flow-bytes : (i : Instr) → effect Plain (data_rights p.layout) v rs q.pc i ≡ Next new target → (marks_after p.layout filled q (Some i) m).bytes ≡ m.bytes
  flow-bytes (Store op rs1 rs2 imm) e = stores_on _ _ _ _ _ e
  flow-bytes Ecall e = calls_on e
  flow-bytes i e = refl

-- so such an instruction keeps agreement
pub flow_agrees : FlowAgrees
flow_agrees p files filled m q i rs v new target at r n u h e =
    flow-leads p files filled m q i new target (beside-leads p files filled m q i new target at (flow-beside p filled m q rs v new target h i r n u e)) (flow-bytes p filled m q rs v new target h i e)

-- ---- loads

-- the address that an unmarked base gives
at-same : (m : Marks) (rs : Registers) (q : State) → Agrees m rs q → (rs1 : ℕ) (imm : ℤ) → rs1 < 32 → m.registers rs1 ≡ false → plus_int (reg rs rs1) imm ≡ plus_int (reg q.registers rs1) imm
at-same m rs q h rs1 imm below u = ap (λ x. plus_int x imm) (unmarked-register m rs q h rs1 below u)

-- a load that may access its bytes
load_effect-is : (l : Layout) (w : Memory) (op : LoadOp) (qs : Registers) (pc rd a : ℕ) → may_access l a (load_width op) ≡ true
    → load_effect (data_rights l) w op qs pc rd a ≡ Next (with_reg qs rd (extended op (loaded w a (load_width op)))) (after pc)
load_effect-is l w op qs pc rd a may =
    let tests = and_parts (a % load_width op == 0) (all_from (is_data l) a (load_width op)) may in
    let whole = tests.0 in
    let inside = tests.1 in (λ j. load_if (whole j) (inside j) w op qs pc rd a)

-- a load keeps agreement: what it loads is marked, or the same
pub load_agrees : LoadAgrees
load_agrees p files filled m q op rd rs1 imm rs number at r u h may known =
    let i : Instr = Load op rd rs1 imm in
    let new : Registers = with_reg rs rd (extended op number) in
    let a : ℕ = plus_int (reg q.registers rs1) imm in
    let same : plus_int (reg rs rs1) imm ≡ a = at-same m rs q h rs1 imm r.1 u in
    let there : may_access p.layout a (load_width op) ≡ true = subst (λ (x : ℕ). may_access p.layout x (load_width op) ≡ true) same may in
    let right : any_from m.bytes a (load_width op) ≡ false → number ≡ loaded q.memory a (load_width op) =
    subst (λ (x : ℕ). any_from m.bytes x (load_width op) ≡ false → number ≡ loaded q.memory x (load_width op)) same known in
    let beside : Beside (with_mark m.registers rd (any_from m.bytes a (load_width op))) new (after q.pc) (load_effect (data_rights p.layout) q.memory op q.registers q.pc rd a) =
    record {
      registers = with_reg q.registers rd (extended op (loaded q.memory a (load_width op)));
      next = load_effect-is p.layout q.memory op q.registers q.pc rd a there;
      alike = written-alike m rs q h rd (any_from m.bytes a (load_width op)) _ _ (λ unmarked. ap (extended op) (right unmarked));
    } in
    flow-leads p files filled m q i new (after q.pc) (beside-leads p files filled m q i new (after q.pc) at beside) refl

-- ---- stores

-- a store that may access its bytes
store_effect-is : (l : Layout) (a width v : ℕ) → may_access l a width ≡ true → store_effect (data_rights l) a width v ≡ Stored a width v
store_effect-is l a width v may =
    let tests = and_parts (a % width == 0) (all_from (is_data l) a width) may in
    let whole = tests.0 in
    let inside = tests.1 in (λ j. store_if (whole j) (inside j) a width v)

-- a byte behind a patch, where what is patched in is the same unless the patch is marked, and the other bytes are unless they are
pub patched-alike : (v w : Memory) (base n : ℕ) (f g : ℕ → ℕ) (marked : Bool) (marks : ℕ → Bool) (x : ℕ) → (marked ≡ false → f (x - base) ≡ g (x - base)) → (marks x ≡ false → v x ≡ w x)
    → elim (is_within base n x) [ true ↦ marked | false ↦ marks x ] ≡ false → patched v base n f x ≡ patched w base n g x
unfolding patched
patched-alike v w base n f g marked marks x inside outside = by_test (is_within base n x)
  where
    by_test : (b : Bool) → elim b [ true ↦ marked | false ↦ marks x ] ≡ false → ◌≡◌ {A = ℕ} (elim b [ true ↦ f (x - base) | false ↦ v x ]) (elim b [ true ↦ g (x - base) | false ↦ w x ])
    by_test true u = inside u
    by_test false u = outside u

-- a store keeps agreement: so are the bytes that it stores
pub store_agrees : StoreAgrees
store_agrees p files filled m q op rs1 rs2 imm rs at r u h may =
    let a : ℕ = plus_int (reg q.registers rs1) imm in
    let x : ℕ = reg q.registers rs2 in
    let same : plus_int (reg rs rs1) imm ≡ a = at-same m rs q h rs1 imm r.0 u in
    let there : may_access p.layout a (store_width op) ≡ true = subst (λ (x : ℕ). may_access p.layout x (store_width op) ≡ true) same may in
    let behind : State = record q { memory = stored q.memory a (store_width op) x; pc = after q.pc } in
    record {
      leads =
          record {
            state = behind;
            completes = completes-as p files q (Store op rs1 rs2 imm) at ∙ ap (λ e. completed (after_effect p files all_taken q e)) (store_effect-is p.layout a (store_width op) x there);
            pc = refl;
            memory = ap (λ (y : ℕ). stored q.memory y (store_width op) x) (sym same);
            descriptors = refl;
            goes_on = at.goes_on;
            agrees = record { registers = h.registers };
          };
      registers = refl;
      sees = λ v alike.
          record {
            bytes = λ y inside u.
                subst (λ (b : ℕ). stored v b (store_width op) (reg rs rs2) y ≡ behind.memory y) (sym same)
                (patched-alike v q.memory a (store_width op) (byte_of (reg rs rs2)) (byte_of x) (m.registers rs2) m.bytes y
                (λ unmarked. ap (λ (z : ℕ). byte_of z (y - a)) (unmarked-register m rs q h rs2 r.1 unmarked)) (alike.bytes y inside) u);
          };
    }
