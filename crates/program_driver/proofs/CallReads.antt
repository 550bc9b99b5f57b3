-- What read a call in the own hart's registers is, by its plan.
use Rattle.std.proofs.Common.{◌≡◌, ℕ, ◌%◌, ◌==◌, Bool, true, false, Some, refl, ap₂, sym, ◌∙◌}
use Rattle.std.specs.Prelude.{◌≢◌}
use Rattle.spec_base.specs.declared.layout.Layout.{Layout}
use Rattle.spec_base.specs.declared.spot.ReadSpot.{ReadSpot}
use Rattle.rv_model.specs.Registers.{reg}
use Rattle.rv_model.specs.Space.{Space}
use Rattle.program_model.specs.Descriptors.{Descriptors}
use Rattle.program_model.specs.Calls as calls
use Rattle.rv_model.specs.Rights.{is_data}
use Rattle.program_model.specs.Calls.{CallKind, Open, OpenAt, kind_of, CallPlan, Set, Look, Read, Write, Exit, plan_by}
use Rattle.program_model.specs.PlainRun.{State, plan_of}
use Rattle.rv_decode.specs.declared.instr.Instr.{Instr}
use Rattle.rv_decode.specs.declared.instr.Instr.TheVariants.{Ecall}
use Rattle.run_model.specs.Restarts.{action_by, name_action, call_action, instr_action}
use Rattle.run_model.specs.Run.{World, Run}
use Rattle.machine_laws.specs.OneMachine.{space_of_run}
use Rattle.word_laws.specs.Shown.{own_core}
use Rattle.hart_step.specs.Core.{Core}
use Rattle.runner_parts.specs.Plans.{plan_in_data}
use Rattle.file_calls.specs.Plans.{plan_shown, made}
use Rattle.file_calls.specs.declared.plan.PlannedCall.{PlannedCall}
use Rattle.file_calls.specs.declared.plan.PlannedCall.TheVariants as planned
use Rattle.use_marks.specs.Passing.{opens, read_mark}
use Rattle.use_marks.specs.declared.read_mark.ReadMark.{ReadMark}
use Rattle.use_marks.specs.declared.read_mark.ReadMark.TheVariants as reads
use Rattle.mark_laws.specs.Agreement.{is_read}
use Rattle.mark_laws.proofs.OneCall.{is_open, plan_by-is_read}

-- what is told of the read that a plan makes
abbrev pub plan_mark : Bool → CallPlan → ReadMark
plan_mark true (Read d spot a) = reads.Filled a spot.count
plan_mark false (Read d spot a) = reads.Left a spot.count
plan_mark filled _ = reads.None

no-read : (filled : Bool) (p : CallPlan) → is_read p ≡ false → plan_mark filled p ≡ reads.None
no-read true (Read d spot a) e = absurd (let g : true ≡ false = e in cc)
no-read false (Read d spot a) e = absurd (let g : true ≡ false = e in cc)
no-read true _ e = refl
no-read false _ e = refl

same-kinds : (k : CallKind) → opens k ≡ is_open k
same-kinds Open = refl
same-kinds OpenAt = refl
same-kinds _ = refl

no-name : (filled b : Bool) (l : Layout) (s : State) (a : ℕ) → read_mark filled (name_action b l s a) ≡ reads.None
no-name true true l s a = refl
no-name true false l s a = refl
no-name false true l s a = refl
no-name false false l s a = refl

-- a call that looks at no name reads as its plan does
other-mark : (filled : Bool) (k : CallKind) (l : Layout) (s : State) (p : CallPlan) → opens k ≡ false → read_mark filled (action_by k l s p) ≡ plan_mark filled p
other-mark filled Open l s p e = absurd (let g : true ≡ false = e in cc)
other-mark filled OpenAt l s p e = absurd (let g : true ≡ false = e in cc)
other-mark true _ l s (Read d spot a) e = refl
other-mark false _ l s (Read d spot a) e = refl
other-mark true _ l s _ e = refl
other-mark false _ l s _ e = refl

name-mark : (filled : Bool) (k : CallKind) (l : Layout) (s : State) (p : CallPlan) → opens k ≡ true → read_mark filled (action_by k l s p) ≡ reads.None
name-mark filled Open l s p e = no-name filled (reg s.registers 11 % 4 == 0) l s (reg s.registers 10)
name-mark filled OpenAt l s p e = no-name filled (reg s.registers 12 % 4 == 0) l s (reg s.registers 11)
name-mark filled _ l s p e = absurd (let g : false ≡ true = e in cc)

pub call-mark : (filled : Bool) (l : Layout) (s : State) → read_mark filled (call_action l s) ≡ plan_mark filled (plan_of l s)
call-mark filled l s = by (opens (kind_of (reg s.registers 17))) refl
  where
    by : (b : Bool) → opens (kind_of (reg s.registers 17)) ≡ b → read_mark filled (call_action l s) ≡ plan_mark filled (plan_of l s)
    by true e =
        name-mark filled (kind_of (reg s.registers 17)) l s (plan_of l s) e
        ∙ sym (no-read filled (plan_of l s) (plan_by-is_read (kind_of (reg s.registers 17)) (sym (same-kinds (kind_of (reg s.registers 17))) ∙ e) (is_data l) s.memory s.files (reg s.registers 10) (reg s.registers 11) (reg s.registers 12)))
    by false e = other-mark filled (kind_of (reg s.registers 17)) l s (plan_of l s) e

-- ---- the plan of the own hart's call

-- it is the run's
pub own-plan : (w : World) (r : Run) (s : Space) (f : Descriptors) (c : Core) → s ≡ space_of_run w r → f ≡ r.own.files → c ≡ own_core r → plan_in_data s f c.registers ≡ plan_of w.image.layout r.own
unfolding space_of_run
own-plan w r s f c a b d = λ i. plan_in_data (a i) (b i) (d i).registers

-- a plan of the code that is no read
pub planned-none : (filled : Bool) (d : ℕ) (f : Descriptors) (p : PlannedCall) → ((spot : ReadSpot) (a : ℕ) → p ≢ planned.Read spot a) → reads.None ≡ plan_mark filled (plan_shown d (made f p))
planned-none filled d f (planned.Read spot a) not = absurd (not spot a refl)
planned-none true d f (planned.Set change answer) not = refl
planned-none false d f (planned.Set change answer) not = refl
planned-none true d f (planned.Open name) not = refl
planned-none false d f (planned.Open name) not = refl
planned-none true d f (planned.Write to_out a n) not = refl
planned-none false d f (planned.Write to_out a n) not = refl
planned-none true d f (planned.Exit code) not = refl
planned-none false d f (planned.Exit code) not = refl

-- and one that is
pub planned-read : (filled b : Bool) (d : ℕ) (f : Descriptors) (p : PlannedCall) (spot : ReadSpot) (a : ℕ) → p ≡ planned.Read spot a → b ≡ filled → plan_mark b (calls.Read d spot a) ≡ plan_mark filled (plan_shown d (made f p))
planned-read filled b d f p spot a is same = ap₂ (λ x q. plan_mark x (plan_shown d (made f q))) same (sym is)

-- ---- an instruction that is no call reads nothing

pub no-call : (filled : Bool) (l : Layout) (s : State) (i : Instr) → i ≢ Ecall → reads.None ≡ read_mark filled (instr_action l s (Some i))
no-call filled l s Ecall not = absurd (not refl)
no-call true l s _ not = refl
no-call false l s _ not = refl
