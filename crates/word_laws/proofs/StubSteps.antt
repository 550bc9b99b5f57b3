-- The run after a word of the stub is that with the hart and the memory after the step.
use Rattle.std.proofs.Common.{◌≡◌, ℕ, Bool, true, false, Option, refl, sym, ap, subst, ◌∙◌}
use Rattle.std.specs.Option.{option_map}
use Rattle.spec_base.specs.Layout.{stub_start}
use Rattle.spec_base.specs.declared.machine.View.{View}
use Rattle.spec_base.specs.declared.machine.View.TheVariants.{Stub}
use Rattle.rv_decode.specs.Instruction.{instr_of}
use Rattle.rv_decode.specs.declared.instr.Instr.{Instr}
use Rattle.rv_decode.specs.declared.instr.Instr.TheVariants.{Hleave, Hsite, Hkey, Hstop, Hrestart, Hcall}
use Rattle.rv_model.specs.Rights.{in_private}
use Rattle.rv_model.specs.Effect.{Effect, Next, Stored, Trapped, Called, Gated, gate_effect, fetched}
use Rattle.rv_model.specs.Space.{Space, stub_stored, word_at}
use Rattle.code_model.specs.Stub.{stub}
use Rattle.run_model.specs.Run.{World, Run, Answer}
use Rattle.run_model.specs.OwnMoves.{own_in, stub_after, stub_stores}
use Rattle.run_laws.specs.OwnLaws.{Accepted}
use Rattle.machine_laws.specs.OneMachine.{space_of_run, own_effect, IsOfView}
use Rattle.machine_laws.proofs.Fetches.{fetches_same}
use Rattle.machine_laws.proofs.Steps.{steps_same}
use Rattle.machine_laws.proofs.Gates.{effects_of_view}
use Rattle.hart_mem.specs.Held.{Held, lacks_frame}
use Rattle.hart_step.specs.Core.{Core}
use Rattle.hart_step.specs.Step.{Outcome, stepped, gate_outcome, gone_on, effect_here}
use Rattle.word_laws.specs.Shown.{own_core, with_own, is_performed}
use Rattle.word_laws.specs.OwnWords.{StubGoes, StubWordsLead}
use Rattle.word_laws.proofs.Gates.{MetAt, calls_with, stub_met, stub_calls}
use Rattle.word_laws.proofs.ProgramSteps.{in_view}

-- the own hart of a run, in the stub
abbrev in_stub : Run → Core
in_stub r = record (own_core r) { view = Stub }

module _ (w : World) (r : Run) (a : Accepted w) (is : r.view ≡ Stub) where
  abbrev space : Space
  space = space_of_run w r

  moved-by : (x : Answer) (e : Effect) → own_effect Stub w r ≡ e → own_in Stub w x r ≡ stub_after w x r e
  moved-by x e q = (steps_same w a r x).stub ∙ ap (λ (e : Effect). stub_after w x r e) q

  -- the same from the run whose view is the stub's
  moved-in : (x : Answer) (e : Effect) → own_effect Stub w r ≡ e → own_in Stub w x r ≡ stub_after w x (record r { view = Stub }) e
  moved-in x e q = moved-by x e q ∙ ap (λ (r : Run). stub_after w x r e) (in_view r Stub is)

  -- what stands at the pc
  met : (e : Effect) → own_effect Stub w r ≡ e → MetAt false (fetched stub stub_start r.own.pc) e
  met e q =
      subst (λ (i : Option Instr). MetAt false i e) (sym (fetches_same w a r r.own.pc).stub)
      (subst (λ (e : Effect). MetAt false (option_map instr_of (word_at Stub space r.own.pc)) e) q (stub_met space r.own.registers r.own.pc))

  -- no call stands there
  no-call : calls_with false (fetched stub stub_start r.own.pc) ≡ false → is_performed (fetched stub stub_start r.own.pc) ≡ false
  no-call none = stub_calls (fetched stub stub_start r.own.pc) ∙ none

  gate-goes : (gate : Instr) → own_effect Stub w r ≡ Gated gate → gate_effect Stub gate ≡ Gated gate → let o : Outcome = gate_outcome gate (in_stub r) space in StubGoes o.event w r o.core o.space
  unfolding space_of_run
  gate-goes Hleave q v = record { leads = λ x. moved-by x (Gated Hleave) q; side = refl; space = refl; calls = ap is_performed (met (Gated Hleave) q) }
  gate-goes (Hsite rd) q v = record { leads = λ x. moved-in x (Gated (Hsite rd)) q; side = refl; space = refl; calls = ap is_performed (met (Gated (Hsite rd)) q) }
  gate-goes (Hkey rd) q v =
      let word = met (Gated (Hkey rd)) q in
      record { leads = record { word = word; same = sym (in_view r Stub is); moves = λ x. moved-by x (Gated (Hkey rd)) q }; side = refl; space = refl; calls = ap is_performed word }
  gate-goes Hstop q v = record { leads = λ x. moved-in x (Gated Hstop) q; side = refl; space = refl; calls = ap is_performed (met (Gated Hstop) q) }
  gate-goes Hrestart q v = record { leads = λ x. moved-in x (Gated Hrestart) q; side = refl; space = refl; calls = ap is_performed (met (Gated Hrestart) q) }
  gate-goes (Hcall false) q v =
      let word = met (Gated (Hcall false)) q in
      record { leads = record { word = word; same = sym (in_view r Stub is); moves = λ x. moved-by x (Gated (Hcall false)) q }; side = refl; space = refl; calls = ap is_performed word }
  gate-goes (Hcall true) q v = absurd cc
  gate-goes _ q v = absurd cc

  stores : (b : Bool) (p width v : ℕ) → stub_stores b (record r { view = Stub }) p width v ≡ with_own r (gone_on (in_stub r)) (stub_stored b space p width v)
  unfolding space_of_run
  stores true p width v = refl
  stores false p width v = refl

  store-shows : (b : Bool) (p width v : ℕ) → let t : Space = stub_stored b space p width v in t ≡ space_of_run w (with_own r (gone_on (in_stub r)) t)
  unfolding space_of_run
  store-shows true p width v = refl
  store-shows false p width v = refl

  effect-goes : (h : Held) (e : Effect) → own_effect Stub w r ≡ e → IsOfView Stub e → let o : Outcome = stepped (lacks_frame Stub h) e (in_stub r) space in StubGoes o.event w r o.core o.space
  unfolding space_of_run lacks_frame
  effect-goes h (Next rs pc) q v = record { leads = λ x. moved-in x (Next rs pc) q; side = refl; space = refl; calls = no-call (met (Next rs pc) q) }
  effect-goes h (Stored p width value) q v =
      record {
        leads = λ x. moved-in x (Stored p width value) q ∙ stores (in_private p) p width value;
        side = refl;
        space = store-shows (in_private p) p width value;
        calls = no-call (met (Stored p width value) q);
      }
  effect-goes h (Trapped cause) q v = record { leads = λ x. moved-in x (Trapped cause) q; side = refl; space = refl; calls = no-call (met (Trapped cause) q) }
  effect-goes h Called q v = absurd cc
  effect-goes h (Gated gate) q v = gate-goes gate q v

-- ---- a step of a hart that shows a run's own hart in the stub

abbrev Goes : World → Run → Held → Core → Space → Type 0
Goes w r h c s = let o : Outcome = stepped (lacks_frame c.view h) (effect_here c s) c s in StubGoes o.event w r o.core o.space

-- by what the step tells
pub stub_words_lead : StubWordsLead
stub_words_lead w r a h e c s d t shows q =
    let run : Goes w r h (in_stub r) (space_of_run w r) = effect-goes w r a shows.view h (own_effect Stub w r) refl (effects_of_view Stub (space_of_run w r) r.own.registers r.own.pc) in
    let hart : c ≡ in_stub r = shows.hart ∙ ap (λ (v : View). record (own_core r) { view = v }) shows.view in
    let here : Goes w r h c s = subst (λ (s : Space). Goes w r h c s) (sym shows.space) (subst (λ (c : Core). Goes w r h c (space_of_run w r)) (sym hart) run) in
    subst (λ (o : Outcome). StubGoes o.event w r o.core o.space) (sym q) here
