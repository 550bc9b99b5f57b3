-- Before the horizon no register is marked, the marked bytes are the unfilled ones, and no instruction is a use.
use Rattle.std.proofs.Common.{◌≡◌, ℕ, zero, suc, Bool, true, false, not, ◌&&◌, Option, Some, None, refl, ◌∙◌, ap, ◌==◌}
use Rattle.std.specs.Prelude.{IsTrue}
use Rattle.std.proofs.Math.Path.{fun_ext}
use Rattle.std.proofs.lemmas.Bool.{and_parts}
use Rattle.spec_base.specs.Listed.{is_listed}
use Rattle.spec_base.specs.Word.{plus_int}
use Rattle.spec_base.specs.declared.layout.Layout.{Layout}
use Rattle.spec_base.specs.declared.spot.ReadSpot.{ReadSpot}
use Rattle.rv_decode.specs.declared.instr.Instr.{Instr}
use Rattle.rv_decode.specs.declared.instr.Instr.TheVariants.{Lui, Auipc, Jal, Jalr, Branch, Load, Store, OpImm, OpImmW, Op, OpW, Ecall}
use Rattle.rv_model.specs.Memory.{is_within}
use Rattle.rv_model.specs.Registers.{reg}
use Rattle.rv_model.specs.Arithmetic.{store_width}
use Rattle.program_model.specs.Calls.{CallKind, Open, OpenAt, kind_of, CallPlan, Read}
use Rattle.program_model.specs.PlainRun.{State, Image, plan_of}
use Rattle.run_model.specs.Run.{World, Run}
use Rattle.run_model.specs.Moves.{run}
use Rattle.run_model.specs.Restarts.{Action, Loads, Stores, Reads, TakesName, Other, name_action, action_by, call_action, instr_action, instr_at, some_action, action, from_restart, nothing, read_leaves, unfilled_by, unfilled_with, unfilled, touches, before_horizon}
use Rattle.run_model.specs.Marks.{Marks, with_mark, mark_register, marks_after_call, marks_after, marks_after_some, marks_with, marks, name_is_marked, is_use, some_use, before_use_with, before_use}
use Rattle.run_laws.specs.HintLaws.{UseIsAfterHorizon}
use Rattle.own_laws.proofs.Reached.{false_true}
use Rattle.mark_laws.proofs.OneInstruction.{true_false}

-- ---- parts of what holds at once

-- of two tests that both pass, each passes
pub and_left : (a b : Bool) → IsTrue (a && b) → IsTrue a
and_left a b h = (and_parts a b h).0

pub and_right : (a b : Bool) → IsTrue (a && b) → IsTrue b
and_right a b h = (and_parts a b h).1

-- a test whose opposite passes fails
pub not_true : (a : Bool) → IsTrue (not a) → a ≡ false
not_true true h = false_true h
not_true false h = refl

-- ---- one instruction, where no register is marked

-- no register is marked, and these bytes are
abbrev pub bytes_alone : (ℕ → Bool) → Marks
bytes_alone u = record { registers = nothing; bytes = u }

-- to clear a register leaves none marked
clear_none : (rd : ℕ) → with_mark nothing rd false ≡ nothing
clear_none zero = refl
clear_none (suc n) = fun_ext (λ k. same (k == suc n))
  where
    same : (b : Bool) → elim b [ true ↦ false | false ↦ false ] ≡ false
    same true = refl
    same false = refl

-- a register that isn't marked is cleared
mark_none : (u : ℕ → Bool) (rd : ℕ) (marked : Bool) → marked ≡ false → mark_register (bytes_alone u) rd marked ≡ bytes_alone u
mark_none u rd true h = true_false h
mark_none u rd false h = ap (λ (f : ℕ → Bool). record { registers = f; bytes = u }) (clear_none rd)

-- a call is a read, takes a name, or does neither
data CallDoes : Action → Type 0 where
  reads_file : {spot : ReadSpot} {a : ℕ} → CallDoes (Reads spot a)
  takes_name : {a n : ℕ} → CallDoes (TakesName a n)
  does_other : CallDoes Other

module _ (l : Layout) (s : State) where
  name_does : (b : Bool) (a : ℕ) → CallDoes (name_action b l s a)
  name_does true a = takes_name
  name_does false a = does_other

  action_does : (k : CallKind) (c : CallPlan) → CallDoes (action_by k l s c)
  action_does Open c = name_does _ _
  action_does OpenAt c = name_does _ _
  action_does _ (Read d spot a) = reads_file
  action_does _ _ = does_other

  -- the marked bytes are the unfilled ones behind a call
  call_marks : (u : ℕ → Bool) (filled : Bool) (act : Action) → CallDoes act → marks_after_call filled (bytes_alone u) act ≡ bytes_alone (unfilled_by u act filled)
  call_marks u filled (Reads spot a) d =
      mark_none _ 10 false refl ∙ ap bytes_alone (fun_ext (λ x. same (is_within a spot.count x) (u x)))
    where
      same : (b before : Bool) → elim b [ true ↦ not filled | false ↦ before ] ≡ read_leaves b filled before
      same true before = refl
      same false before = refl
  call_marks u filled (TakesName a n) d = mark_none u 10 false refl
  call_marks u filled Other d = mark_none u 10 false refl
  call_marks u filled (Stores a width) d = elim d [ ]
  call_marks u filled (Loads a width) d = elim d [ ]

  -- and behind each instruction that touches none
  instr_marks :
      (u : ℕ → Bool) (filled : Bool) (o : Option Instr) → touches u (instr_action l s o) ≡ false →
      marks_after l filled s o (bytes_alone u) ≡ bytes_alone (unfilled_by u (instr_action l s o) filled)
  instr_marks u filled (Some (Load op rd rs1 imm)) h = mark_none u rd _ h
  instr_marks u filled (Some (Store op rs1 rs2 imm)) h =
      ap bytes_alone (fun_ext (λ x. same (is_within (plus_int (reg s.registers rs1) imm) (store_width op) x) (u x)))
    where
      same : (b before : Bool) → elim b [ true ↦ false | false ↦ before ] ≡ (not b && before)
      same true before = refl
      same false before = refl
  instr_marks u filled (Some (OpImm op rd rs1 imm)) h = mark_none u rd false refl
  instr_marks u filled (Some (OpImmW op rd rs1 imm)) h = mark_none u rd false refl
  instr_marks u filled (Some (Op op rd rs1 rs2)) h = mark_none u rd false refl
  instr_marks u filled (Some (OpW op rd rs1 rs2)) h = mark_none u rd false refl
  instr_marks u filled (Some (Lui rd imm)) h = mark_none u rd false refl
  instr_marks u filled (Some (Auipc rd imm)) h = mark_none u rd false refl
  instr_marks u filled (Some (Jal rd imm)) h = mark_none u rd false refl
  instr_marks u filled (Some (Jalr rd rs1 imm)) h = mark_none u rd false refl
  instr_marks u filled (Some Ecall) h = call_marks u filled (call_action l s) (action_does (kind_of (reg s.registers 17)) (plan_of l s))
  instr_marks u filled _ h = refl

  -- a name of which no byte is touched has none marked
  name_free : (u : ℕ → Bool) (act : Action) → touches u act ≡ false → name_is_marked (bytes_alone u) act ≡ false
  name_free u (TakesName a n) h = h
  name_free u _ h = refl

  -- an instruction that touches none is no use
  instr_free : (u : ℕ → Bool) (o : Option Instr) → touches u (instr_action l s o) ≡ false → is_use l s o (bytes_alone u) ≡ false
  instr_free u (Some Ecall) h = name_free u (call_action l s) h
  instr_free u (Some (Load op rd rs1 imm)) h = refl
  instr_free u (Some (Store op rs1 rs2 imm)) h = refl
  instr_free u (Some (Jalr rd rs1 imm)) h = refl
  instr_free u (Some (Branch op rs1 rs2 imm)) h = refl
  instr_free u _ h = refl

module _ (p : Image) (u : ℕ → Bool) where
  -- the same of the instruction of a state, if there is one
  some_marks :
      (filled : Bool) (o : Option State) → touches u (some_action p o) ≡ false →
      marks_after_some p filled o (bytes_alone u) ≡ bytes_alone (unfilled_by u (some_action p o) filled)
  some_marks filled None h = refl
  some_marks filled (Some s) h = instr_marks p.layout s u filled (instr_at p s) h

  some_free : (o : Option State) → touches u (some_action p o) ≡ false → some_use p o (bytes_alone u) ≡ false
  some_free None h = refl
  some_free (Some s) h = instr_free p.layout s u (instr_at p s) h

-- ---- the run from the restart

module _ (w : World) (r : Run) where
  -- what is before the horizon was so before
  pub before_horizon-down : (i : ℕ) → IsTrue (before_horizon w r (suc i)) → IsTrue (before_horizon w r i)
  unfolding before_horizon
  before_horizon-down i h = and_left _ _ h

  -- the next instruction touches no unfilled byte
  pub touches_none : (i : ℕ) → IsTrue (before_horizon w r (suc i)) → touches (unfilled w r i) (action w r (suc i)) ≡ false
  unfolding before_horizon
  touches_none i h = not_true _ (and_right _ _ h)

  -- before the horizon no register is marked, and the marked bytes are the unfilled ones
  pub marks-unfilled : (i : ℕ) → IsTrue (before_horizon w r i) → marks w r i ≡ bytes_alone (unfilled w r i)
  unfolding marks_with unfilled_with
  marks-unfilled zero h = refl
  marks-unfilled (suc i) h =
      ap (λ (m : Marks). marks_after_some w.image (is_listed r.since.filled (suc i)) (from_restart w r i) m) (marks-unfilled i (before_horizon-down i h))
      ∙ some_marks w.image (unfilled w r i) (is_listed r.since.filled (suc i)) (from_restart w r i) (touches_none i h)

  -- before the horizon no register is marked
  pub no_register-marked : (i : ℕ) → IsTrue (before_horizon w r i) → (k : ℕ) → (marks w r i).registers k ≡ false
  no_register-marked i h k = ap (λ (m : Marks). m.registers k) (marks-unfilled i h)

  -- before the horizon the marked bytes are the unfilled ones
  pub marked-unfilled : (i : ℕ) → IsTrue (before_horizon w r i) → (a : ℕ) → (marks w r i).bytes a ≡ unfilled w r i a
  marked-unfilled i h a = ap (λ (m : Marks). m.bytes a) (marks-unfilled i h)

  -- before the horizon there is no use
  pub before_use-horizon : (i : ℕ) → IsTrue (before_horizon w r i) → IsTrue (before_use w r i)
  unfolding before_use_with
  before_use-horizon zero h = refl
  before_use-horizon (suc i) h =
      both (before_use w r i) _ (before_use-horizon i (before_horizon-down i h))
      (ap (λ (m : Marks). some_use w.image (from_restart w r i) m) (marks-unfilled i (before_horizon-down i h)) ∙ some_free w.image (unfilled w r i) (from_restart w r i) (touches_none i h))
    where
      both : (a b : Bool) → IsTrue a → b ≡ false → IsTrue (a && not b)
      both a b h k = cc

-- the first use is never before the horizon
pub use_is_after_horizon : UseIsAfterHorizon
use_is_after_horizon w a ms i h = before_use-horizon w (run w ms) i h
