-- At the word that leaves the stub the own hart has done the call that it met at its gate, and nothing else.
use Rattle.std.proofs.Common.{◌≡◌, ◌≢◌, ℕ, ◌+◌, ◌*◌, ◌≤◌, Bool, true, false, ◌==◌, refl, ◌∙◌, ap, sym, subst, arith, eqb→eq}
use Rattle.spec_base.specs.declared.machine.View.TheVariants.{Program, Stub}
use Rattle.spec_base.specs.Files.{Files}
use Rattle.rv_model.specs.Registers.{Registers, with_reg}
use Rattle.program_model.specs.Calls.{CallPlan, Set, Look, Read, Write, Exit}
use Rattle.program_model.specs.PlainRun.{State, performed}
use Rattle.run_model.specs.Run.{World, Run}
use Rattle.run_model.specs.Moves.{run}
use Rattle.run_laws.specs.StubLaws.{IsLeaving, leave_word, IsOneCall, StubIsOneCall}
use Rattle.own_laws.proofs.OwnLaws.{own_side}
use Rattle.own_laws.proofs.OwnSide.{OwnSide, in_program, in_stub, at_call, waits, called, over, plan}
use Rattle.own_laws.proofs.Reached.{none_some}
use Rattle.own_laws.proofs.Side.{side_of}
use Rattle.own_laws.proofs.StubRows.{left}

-- the program's view isn't the stub's
pub program_stub : {A : Type 0} → Program ≡ Stub → A
program_stub {A} e = absurd (no e)
  where
    no : Program ≡ Stub → ⊥
    no e = cc

-- a call writes x10 alone
with_reg-other : (rs : Registers) (v i : ℕ) → i ≢ 10 → with_reg rs 10 v i ≡ rs i
with_reg-other rs v i h = by_test (i == 10) refl
  where
    by_test : (b : Bool) → (i == 10) ≡ b → elim b [ true ↦ v | false ↦ rs i ] ≡ rs i
    by_test true e = absurd (h (eqb→eq i 10 (rw e tt)))
    by_test false e = refl

-- a performed call leaves all registers but x10
performed-registers : (files : Files) (taken : ℕ) (c : CallPlan) (q : State) (i : ℕ) → i ≢ 10 → (performed files taken c q).registers i ≡ q.registers i
performed-registers files taken (Set f answer) q i h = with_reg-other q.registers _ i h
performed-registers files taken (Look name) q i h = with_reg-other q.registers _ i h
performed-registers files taken (Read d spot a) q i h = with_reg-other q.registers _ i h
performed-registers files taken (Write true a n) q i h = with_reg-other q.registers _ i h
performed-registers files taken (Write false a n) q i h = with_reg-other q.registers _ i h
performed-registers files taken (Exit code) q i h = refl

-- word k isn't the word that leaves the stub
not_leaving : {A : Type 0} (k : ℕ) → 0x417F_FFFC + 4 * k ≡ leave_word → left k ≤ 64 → A
not_leaving {A} k e h =
    let last : k ≡ 27 = omega (arith, e) in
    absurd (omega (arith, subst (λ n. left n ≤ 64) last h))

-- by stages: only behind the call can the own hart be about to leave
leaves-one_call : (w : World) (r : Run) → OwnSide w (side_of r) → IsLeaving r → IsOneCall w r
leaves-one_call w r (in_program t site gate s page h f is) l = program_stub (sym (ap (λ p. p.view) is) ∙ l.view)
leaves-one_call w r (in_stub t q k a b c page g row most is) l = not_leaving k (sym (ap (λ p. p.own.pc) is) ∙ l.word) most
leaves-one_call w r (at_call t q page g is) l = not_leaving 26 (sym (ap (λ p. p.own.pc) is) ∙ l.word) (omega arith)
leaves-one_call w r (waits t q page g is) l = not_leaving 26 (sym (ap (λ p. p.own.pc) is) ∙ l.word) (omega arith)
leaves-one_call w r (over s e h o) l = none_some (sym l.goes_on ∙ o.ended)
leaves-one_call w r (called t q s taken page h f z n is) l =
    let gate : r.at_gate ≡ q = ap (λ p. p.gate) is in
    let own : r.own ≡ record s { pc = leave_word } = ap (λ p. p.own) is in
    let done : s ≡ performed w.files taken (plan w r.at_gate) r.at_gate = z ∙ ap (λ q. performed w.files taken (plan w q) q) (sym gate) in
    record {
      taken = taken;
      own = own ∙ ap (λ (s : State). record s { pc = leave_word }) done;
      registers = λ i h. ap (λ (s : State). s.registers i) (own ∙ ap (λ (s : State). record s { pc = leave_word }) done) ∙ performed-registers w.files taken (plan w r.at_gate) r.at_gate i h;
    }

-- so it is in each run
pub leaves_with_one_call : StubIsOneCall
leaves_with_one_call w a ms l = leaves-one_call w (run w ms) (own_side w a ms) l
