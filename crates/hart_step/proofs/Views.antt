-- A completed instruction keeps the view.
use Rattle.std.proofs.Common.{◌≡◌, ℕ, Bool, true, false, ap}
use Rattle.rv_decode.specs.declared.instr.Instr.{Instr}
use Rattle.rv_decode.specs.declared.instr.Instr.TheVariants.{Hgate, Hleave}
use Rattle.rv_model.specs.Effect.{Effect, Next, Stored, Trapped, Called, Gated}
use Rattle.rv_model.specs.Space.{Space}
use Rattle.hart_step.specs.Core.{Core}
use Rattle.hart_step.specs.Step.{Outcome, outcome, stepped, store_outcome, gate_outcome}
use Rattle.hart_step.specs.declared.event.Event.TheVariants as event

module _ (c : Core) (s : Space) where
  store-kept : (lacks : Bool) (a width v : ℕ) (next : Core) (there : Space) → outcome event.Done next there ≡ store_outcome lacks c s a width v → next.view ≡ c.view
  store-kept true a width v next there h = ap (λ (o : Outcome). o.core.view) h
  store-kept false a width v next there h = ap (λ (o : Outcome). o.core.view) h

  gate-kept : (i : Instr) (next : Core) (there : Space) → outcome event.Done next there ≡ gate_outcome i c s → next.view ≡ c.view
  gate-kept Hgate next there h = absurd (let told : event.Done ≡ event.Gate = ap (λ (o : Outcome). o.event) h in cc)
  gate-kept Hleave next there h = absurd (let told : event.Done ≡ event.Leave = ap (λ (o : Outcome). o.event) h in cc)
  gate-kept other next there h = ap (λ (o : Outcome). o.core.view) h

  pub view-kept : (lacks : ℕ → Bool) (e : Effect) (next : Core) (there : Space) → outcome event.Done next there ≡ stepped lacks e c s → next.view ≡ c.view
  view-kept lacks (Next rs pc) next there h = ap (λ (o : Outcome). o.core.view) h
  view-kept lacks (Stored a width v) next there h = store-kept (lacks a) a width v next there h
  view-kept lacks (Trapped t) next there h = ap (λ (o : Outcome). o.core.view) h
  view-kept lacks Called next there h = ap (λ (o : Outcome). o.core.view) h
  view-kept lacks (Gated gate) next there h = gate-kept gate next there h
