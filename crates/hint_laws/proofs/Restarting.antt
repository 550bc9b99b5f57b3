-- A restart makes the shadow follow anew: it stands at the first word of RESTART, for the state at the gate, with nothing marked.
use Rattle.std.proofs.Common.{◌≡◌, ℕ, ◌+◌, ◌*◌, ◌%◌, ◌⊎◌, inl, inr, Bool, true, false, ◌==◌, List, [], ◌∷◌, ◌++◌, length, length-append, Option, Some, None, refl, ◌∙◌, ap, sym, subst, arith}
use Rattle.std.specs.Prelude.{⊤, ◌≢◌}
use Rattle.spec_base.specs.Files.{Files}
use Rattle.spec_base.specs.declared.layout.Layout.{Layout}
use Rattle.spec_base.specs.declared.machine.Trap.{Trap}
use Rattle.spec_base.specs.declared.machine.View.TheVariants.{Plain, Stub}
use Rattle.spec_base.specs.declared.note.Move.TheVariants.{O}
use Rattle.rv_decode.specs.declared.instr.Instr.{Instr}
use Rattle.rv_decode.specs.declared.instr.Instr.TheVariants.{Jal, Jalr, Branch, Load, Store, Ecall}
use Rattle.rv_decode.specs.declared.instr.LoadOp.{LoadOp}
use Rattle.rv_model.specs.Memory.{Memory}
use Rattle.rv_model.specs.Registers.{Registers, reg}
use Rattle.rv_model.specs.Rights.{data_rights}
use Rattle.rv_model.specs.Arithmetic.{is_taken}
use Rattle.rv_model.specs.Effect.{Effect, Next, Stored, Trapped, Called, Gated, effect, jump_if, branch_if, load_if, store_if}
use Rattle.program_model.specs.Calls.{CallPlan, Set, Look, Read, Write, Exit}
use Rattle.program_model.specs.PlainRun.{State, Call, Step, Went, Traps, performed, at_word, after_effect, taken_by, all_taken, state_after}
use Rattle.run_model.specs.Run.{World, Run, Answer}
use Rattle.run_model.specs.OwnMoves.{own_step, restarted}
use Rattle.run_model.specs.Moves.{Moves, begun, silent, step, run}
use Rattle.run_laws.specs.OwnLaws.{Accepted}
use Rattle.run_model.specs.Restarts.{instr_at, reads}
use Rattle.run_model.specs.Marks.{no_marks, marks_with}
use Rattle.run_laws.specs.StubLaws.{RestartsFromBox, IsBoxed}
use Rattle.own_laws.proofs.HeldRuns.{restart_has_box}
use Rattle.own_laws.proofs.OneCall.{program_stub}
use Rattle.own_laws.proofs.OwnLaws.{own_side}
use Rattle.own_laws.proofs.OwnSide.{OwnSide, in_program, in_stub, at_call, waits, called, over, AtCall, plan, placed}
use Rattle.own_laws.proofs.Reached.{none_some, false_true}
use Rattle.own_laws.proofs.Side.{side_of, Side, Tally}
use Rattle.side_model.specs.Hart.{Regs}
use Rattle.code_model.specs.Tables.{Tabs, TableOk}
use Rattle.side_model.specs.Tables.{HasTabs}
use Rattle.side_model.specs.Sees.{shade_of}
use Rattle.side_model.specs.Places.{IsInstruction}
use Rattle.side_model.proofs.Registers.{regs_of, HasRegs-of}
use Rattle.shadow_laws.proofs.OwnShades.{watched_of}
use Rattle.shadow_laws.proofs.ShadowRuns.{HasTables, has-tables, run-keeps, gate-site, restart-target, restart-at, has-box}
use Rattle.shadow_laws.proofs.Sound.{Target}
use Rattle.mark_laws.specs.Settled.{settled_with}
use Rattle.hint_laws.proofs.Within.{restarts, Within, restarting}
use Rattle.hint_laws.proofs.WithinSteps.{in_helper}
use Rattle.hint_laws.proofs.Followed.{program_in, known, restart, inner, Works, Followed, works}
use Rattle.hint_laws.proofs.OwnSince.{OwnSince, rests, counts, anew, own-since}
use Rattle.hint_laws.proofs.Views.{agrees-as}

-- ---- the instruction at a gate is a call

-- an effect other than a call's
abbrev OtherIn : Effect → Type 0
OtherIn Called = ⊥
OtherIn (Next rs pc) = ⊤
OtherIn (Stored a width v) = ⊤
OtherIn (Trapped cause) = ⊤
OtherIn (Gated i) = ⊤

-- the same as a record, from which the effect is found
record Other (e : Effect) : Type 0 where
  by : OtherIn e

-- a jump has one
jump_if-other : (b : Bool) (rs : Registers) (target : ℕ) → Other (jump_if b rs target)
jump_if-other true rs target = record { by = tt }
jump_if-other false rs target = record { by = tt }

-- so has a branch
branch_if-other : (b : Bool) (rs : Registers) (pc target : ℕ) → Other (branch_if b rs pc target)
branch_if-other true rs pc target = jump_if-other (target % 4 == 0) rs target
branch_if-other false rs pc target = record { by = tt }

-- so has a load
load_if-other : (x y : Bool) (m : Memory) (op : LoadOp) (rs : Registers) (pc rd a : ℕ) → Other (load_if x y m op rs pc rd a)
load_if-other false y m op rs pc rd a = record { by = tt }
load_if-other true false m op rs pc rd a = record { by = tt }
load_if-other true true m op rs pc rd a = record { by = tt }

-- and a store
store_if-other : (x y : Bool) (a width v : ℕ) → Other (store_if x y a width v)
store_if-other false y a width v = record { by = tt }
store_if-other true false a width v = record { by = tt }
store_if-other true true a width v = record { by = tt }

-- each instruction but the call has another effect
effect-other : (l : Layout) (m : Memory) (rs : Registers) (pc : ℕ) (i : Instr) → (i ≡ Ecall) ⊎ Other (effect Plain (data_rights l) m rs pc i)
effect-other l m rs pc Ecall = inl refl
effect-other l m rs pc (Jal rd imm) = inr (jump_if-other _ _ _)
effect-other l m rs pc (Jalr rd rs1 imm) = inr (jump_if-other _ _ _)
effect-other l m rs pc (Branch op rs1 rs2 imm) = inr (branch_if-other (is_taken op (reg rs rs1) (reg rs rs2)) rs pc _)
effect-other l m rs pc (Load op rd rs1 imm) = inr (load_if-other _ _ m op rs pc rd _)
effect-other l m rs pc (Store op rs1 rs2 imm) = inr (store_if-other _ _ _ _ _)
effect-other l m rs pc _ = inr (record { by = tt })

-- how many calls a state has completed, an exit included
abbrev exits : Option ℕ → ℕ
exits None = 0
exits (Some code) = 1

-- those of a state
abbrev calls_of : State → ℕ
calls_of s = length s.calls + exits s.exited

-- those of the state that a step leads to
abbrev calls_in : Step → ℕ
calls_in (Went s) = calls_of s
calls_in (Traps cause) = 0

-- a call is one more
one-more : (calls : List Call) (c : Call) (n : ℕ) → length (calls ++ c ∷ []) + n ≡ length calls + n + 1
one-more calls c n = let e : length (calls ++ c ∷ []) ≡ length calls + 1 = length-append calls (c ∷ []) in omega (arith, e)

-- so is each planned call
performed-calls : (files : Files) (taken : ℕ) (c : CallPlan) (s : State) → s.exited ≡ None → calls_of (performed files taken c s) ≡ calls_of s + 1
performed-calls files taken (Set f answer) s e = one-more s.calls _ (exits s.exited)
performed-calls files taken (Look name) s e = one-more s.calls _ (exits s.exited)
performed-calls files taken (Read d spot a) s e = one-more s.calls _ (exits s.exited)
performed-calls files taken (Write true a n) s e = one-more s.calls _ (exits s.exited)
performed-calls files taken (Write false a n) s e = one-more s.calls _ (exits s.exited)
performed-calls files taken (Exit code) s e = let none : exits s.exited ≡ 0 = ap exits e in omega (arith, none)

module _ (w : World) where
  -- another effect makes none
  other-calls : (s : State) (e : Effect) → Other e → (t : State) → after_effect w.image w.files all_taken s e ≡ Went t → calls_of t ≡ calls_of s
  other-calls s (Next rs pc) o t e = sym (ap calls_in e)
  other-calls s (Stored a width v) o t e = sym (ap calls_in e)
  other-calls s (Trapped cause) o t e = absurd (no e)
    where
      no : Traps cause ≡ Went t → ⊥
      no e = cc
  other-calls s Called o t e = absurd o.by
  other-calls s (Gated i) o t e = absurd (no e)
    where
      no : {cause : Trap} → Traps cause ≡ Went t → ⊥
      no e = cc

  -- a state that is about to call is at a call
  at-ecall : (t : Tally) (q : State) → AtCall w t q → instr_at w.image q ≡ Some Ecall
  at-ecall t q g = by_word (instr_at w.image q) refl
    where
      behind : State
      behind = performed w.files (taken_by all_taken (plan w q) q) (plan w q) q

      by_word : (o : Option Instr) → instr_at w.image q ≡ o → instr_at w.image q ≡ Some Ecall
      by_word None e = absurd (no (sym (ap (at_word w.image w.files all_taken q) e) ∙ g.calls all_taken))
        where
          no : {cause : Trap} → Traps cause ≡ Went behind → ⊥
          no e = cc
      by_word (Some i) e = by_kind (effect-other w.image.layout q.memory q.registers q.pc i)
        where
          by_kind : (i ≡ Ecall) ⊎ Other (effect Plain (data_rights w.image.layout) q.memory q.registers q.pc i) → instr_at w.image q ≡ Some Ecall
          by_kind (inl is) = e ∙ ap Some is
          by_kind (inr other) =
              let same : calls_of behind ≡ calls_of q =
              other-calls q (effect Plain (data_rights w.image.layout) q.memory q.registers q.pc i) other behind (sym (ap (at_word w.image w.files all_taken q) e) ∙ g.calls all_taken) in
              let more : calls_of behind ≡ calls_of q + 1 = performed-calls w.files (taken_by all_taken (plan w q) q) (plan w q) q g.going in
              absurd (omega (arith, same, more))

-- ---- what is so at a restart

-- the state at the gate is at a call of the text, and the own hart still has its memory and its descriptors
pub record IsAsking (w : World) (r : Run) : Type 0 where
  pub site : IsInstruction w.image.layout r.at_gate.pc
  pub call : instr_at w.image r.at_gate ≡ Some Ecall
  pub goes_on : r.at_gate.exited ≡ None
  pub memory : r.own.memory ≡ r.at_gate.memory
  pub files : r.own.files ≡ r.at_gate.files

module _ (w : World) (a : Accepted w) where
  -- in the stub, up to its call
  is-asking : (r : Run) (t : Tally) (q : State) → IsInstruction w.image.layout r.at_gate.pc → AtCall w t q → r.at_gate ≡ q → r.own.memory ≡ q.memory → r.own.files ≡ q.files → IsAsking w r
  is-asking r t q site g gate memory files =
      record {
        site = site;
        call = ap (instr_at w.image) gate ∙ at-ecall w t q g;
        goes_on = ap (λ (s : State). s.exited) gate ∙ g.going;
        memory = memory ∙ ap (λ (s : State). s.memory) (sym gate);
        files = files ∙ ap (λ (s : State). s.files) (sym gate);
      }

  -- by the stage of the own side
  asks-at : (x : Answer) (r : Run) → r.end ≡ None → IsInstruction w.image.layout r.at_gate.pc → OwnSide w (side_of r) → r.view ≡ Stub → (own_step w x r).restarts ≢ r.restarts → IsAsking w r
  asks-at x r z site (in_program t place gate s page h f is) v n = program_stub (sym (ap (λ (p : Side). p.view) is) ∙ v)
  asks-at x r z site (in_stub t q k b c d page g row most is) v n =
      is-asking r t q site g (ap (λ (p : Side). p.gate) is) (ap (λ (p : Side). p.own.memory) is) (ap (λ (p : Side). p.own.files) is)
  asks-at x r z site (at_call t q page g is) v n =
      is-asking r t q site g (ap (λ (p : Side). p.gate) is) (ap (λ (p : Side). p.own.memory) is) (ap (λ (p : Side). p.own.files) is)
  asks-at x r z site (waits t q page g is) v n =
      is-asking r t q site g (ap (λ (p : Side). p.gate) is) (ap (λ (p : Side). p.own.memory) is) (ap (λ (p : Side). p.own.files) is)
  asks-at x r z site (called t q s k page h f y e is) v n = absurd (placed w (λ r. (own_step w x r).restarts ≢ r.restarts → ⊥) r _ is (λ n. n refl) n)
  asks-at x r z site (over s e h o) v n = none_some (sym z ∙ o.ended)

  -- where an own move restarts the shadow, the own hart asks for it
  pub asks : (ms : Moves) (x : Answer) → let r = run w ms in r.end ≡ None → r.view ≡ Stub → (own_step w x (begun r)).restarts ≢ r.restarts → IsAsking w (begun r)
  asks ms x z v n =
      let side : OwnSide w (side_of (run w ms)) = own_side w a ms in
      asks-at x (begun (run w ms)) z (gate-site w a x (begun (run w ms)) z side v n) side v n

  -- ---- the shadow follows from there

  module _ (r : Run) (t : Tabs) (has : HasTabs w.image.layout r.shared t) (ok : TableOk w.image.layout t) (k : IsAsking w r) (boxed : IsBoxed r.shared r.at_gate) where
    abbrev l : Layout
    l = w.image.layout

    -- the state at the gate
    abbrev q : State
    q = r.at_gate

    -- its registers
    abbrev g : Regs
    g = regs_of q.registers

    -- the run with the shadow begun anew
    abbrev anew-run : Run
    anew-run = restarted w r

    -- it stands at the first word of RESTART
    begins-within : (bytes : ℕ → Option ℕ) (program : Memory) → Within w bytes program (restarts q.pc g) (shade_of anew-run) (63 + 5 * t.count)
    begins-within bytes program =
        let target : Target w (q.pc + 4) g = restart-target w a r k.site in
        restarting q.pc g target.base target.words k.site target.fits (restart-at w a r t has ok (has-box w a r.shared q boxed) target)

    -- and follows the state at the gate
    begun-works : Works w anew-run 0 no_marks q (program_in w anew-run) (restarts q.pc g) (63 + 5 * t.count)
    unfolding marks_with state_after settled_with reads
    begun-works =
        record {
          count = refl;
          marked = refl;
          program_is = refl;
          state = refl;
          goes_on = k.goes_on;
          inside = k.site.above;
          doing = restart g k.call;
          within = begins-within (known l no_marks q) (program_in w anew-run);
          spot = inner (in_helper refl);
          agrees = agrees-as no_marks q.registers g q (HasRegs-of q.registers) (record { registers = λ i h few none. refl });
          files = k.files;
          sees = λ e. false_true (sym e);
          later = λ e. false_true (sym e);
          anew = λ e. (refl, k.memory);
          copied = λ x e. false_true e;
          filled = λ n h. refl;
          hints = refl;
        }

  -- ---- the law

  -- an own move that makes a restart makes the shadow follow anew
  pub begins-anew : (ms : Moves) (x : Answer) → let r = run w ms in let next = step w r (O, x) in next.restarts ≢ r.restarts → Followed w next
  begins-anew ms x other = by_move (own-since w x r)
    where
      r : Run
      r = run w ms

      next : Run
      next = step w r (O, x)

      box : RestartsFromBox r next
      box = restart_has_box w a ms x other

      by_since : r.end ≡ None → next ≡ own_step w x (begun r) → OwnSince w (begun r) next → Followed w next
      by_since z is (rests s n) = absurd (other n)
      by_since z is (counts whole f s n) = absurd (other n)
      by_since z is (anew v e) =
          let y : HasTables w (watched_of r) = has-tables w (watched_of r) (run-keeps w a ms) in
          let asking : IsAsking w (begun r) = asks ms x z v (subst (λ (y : Run). y.restarts ≢ r.restarts) is other) in
          let boxed : IsBoxed r.shared r.at_gate = subst (λ (m : Memory). IsBoxed m r.at_gate) box.left box.boxed in
          subst (λ (y : Run). Followed w y) (sym e) (works _ _ _ _ _ _ (begun-works (begun r) y.tables y.has y.ok asking boxed))

      by_move : (next ≡ silent r) ⊎ ((r.end ≡ None) × (next ≡ own_step w x (begun r)) × OwnSince w (begun r) next) → Followed w next
      by_move (inl e) = absurd (other (ap (λ (y : Run). y.restarts) e))
      by_move (inr (z, is, s)) = by_since z is s
