-- The run after a word of the program is that with the hart and the memory after the step.
use Rattle.std.proofs.Common.{◌≡◌, ℕ, Bool, true, false, refl, sym, ap, subst, ◌∙◌}
use Rattle.spec_base.specs.declared.machine.View.{View}
use Rattle.spec_base.specs.declared.machine.View.TheVariants.{Program}
use Rattle.rv_decode.specs.declared.instr.Instr.{Instr}
use Rattle.rv_decode.specs.declared.instr.Instr.TheVariants.{Hgate}
use Rattle.rv_model.specs.Effect.{Effect, Next, Stored, Trapped, Called, Gated, gate_effect}
use Rattle.rv_model.specs.Space.{Space}
use Rattle.run_model.specs.Run.{World, Run, Answer}
use Rattle.run_model.specs.OwnMoves.{own_in, program_after}
use Rattle.run_laws.specs.OwnLaws.{Accepted}
use Rattle.machine_laws.specs.OneMachine.{space_of_run, own_effect, IsOfView}
use Rattle.machine_laws.proofs.Steps.{steps_same}
use Rattle.machine_laws.proofs.Gates.{effects_of_view}
use Rattle.hart_mem.specs.Held.{Held, lacks_frame}
use Rattle.hart_step.specs.Core.{Core}
use Rattle.hart_step.specs.Step.{Outcome, stepped, gate_outcome, store_outcome, effect_here}
use Rattle.word_laws.specs.Shown.{own_core}
use Rattle.word_laws.specs.OwnWords.{ProgramGoes, ProgramWordsLead}

-- a run in a view
pub in_view : (x : Run) (v : View) → x.view ≡ v → x ≡ record x { view = v }
in_view x v e = λ i. record x { view = e i }

-- the own hart of a run, in the program
abbrev in_program : Run → Core
in_program r = record (own_core r) { view = Program }

module _ (w : World) (r : Run) (a : Accepted w) (is : r.view ≡ Program) where
  abbrev space : Space
  space = space_of_run w r

  moved-by : (x : Answer) (e : Effect) → own_effect Program w r ≡ e → own_in Program w x r ≡ program_after r e
  moved-by x e q = (steps_same w a r x).program ∙ ap (λ (e : Effect). program_after r e) q

  gate-goes : (gate : Instr) → own_effect Program w r ≡ Gated gate → gate_effect Program gate ≡ Gated gate → let o : Outcome = gate_outcome gate (in_program r) space in ProgramGoes o.event w r o.core o.space
  unfolding space_of_run
  gate-goes Hgate q v = record { leads = λ x. moved-by x (Gated Hgate) q; side = refl; space = refl }
  gate-goes _ q v = absurd cc

  store-goes :
      (lacks : Bool) (p width v : ℕ) → own_effect Program w r ≡ Stored p width v → let o : Outcome = store_outcome lacks (in_program r) space p width v in ProgramGoes o.event w r o.core o.space
  unfolding space_of_run
  store-goes true p width v q = record { leads = sym (in_view r Program is); side = refl; space = refl }
  store-goes false p width v q = record { leads = λ x. moved-by x (Stored p width v) q ∙ in_view (program_after r (Stored p width v)) Program is; side = refl; space = refl }

  effect-goes : (lacks : ℕ → Bool) (e : Effect) → own_effect Program w r ≡ e → IsOfView Program e → let o : Outcome = stepped lacks e (in_program r) space in ProgramGoes o.event w r o.core o.space
  unfolding space_of_run
  effect-goes lacks (Next rs pc) q v = record { leads = λ x. moved-by x (Next rs pc) q ∙ in_view (program_after r (Next rs pc)) Program is; side = refl; space = refl }
  effect-goes lacks (Stored p width value) q v = store-goes (lacks p) p width value q
  effect-goes lacks (Trapped cause) q v = record { leads = λ x. moved-by x (Trapped cause) q ∙ in_view (program_after r (Trapped cause)) Program is; side = refl; space = refl }
  effect-goes lacks Called q v = absurd cc
  effect-goes lacks (Gated gate) q v = gate-goes gate q v

-- ---- a step of a hart that shows a run's own hart in the program

abbrev Goes : World → Run → Held → Core → Space → Type 0
Goes w r h c s = let o : Outcome = stepped (lacks_frame c.view h) (effect_here c s) c s in ProgramGoes o.event w r o.core o.space

-- by what the step tells
pub program_words_lead : ProgramWordsLead
program_words_lead w r a h e c s d t shows q =
    let run : Goes w r h (in_program r) (space_of_run w r) =
    effect-goes w r a shows.view (lacks_frame Program h) (own_effect Program w r) refl (effects_of_view Program (space_of_run w r) r.own.registers r.own.pc) in
    let hart : c ≡ in_program r = shows.hart ∙ ap (λ (v : View). record (own_core r) { view = v }) shows.view in
    let here : Goes w r h c s = subst (λ (s : Space). Goes w r h c s) (sym shows.space) (subst (λ (c : Core). Goes w r h c (space_of_run w r)) (sym hart) run) in
    subst (λ (o : Outcome). ProgramGoes o.event w r o.core o.space) (sym q) here
