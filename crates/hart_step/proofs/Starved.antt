-- When a step wants a frame: where it stores, and none is spare.
use Rattle.std.proofs.Common.{◌≡◌, ℕ, Bool, true, false, refl}
use Rattle.spec_base.specs.declared.machine.View.{View}
use Rattle.rv_decode.specs.declared.instr.Instr.{Instr}
use Rattle.rv_decode.specs.declared.instr.Instr.TheVariants.{Hgate}
use Rattle.rv_model.specs.Effect.{Effect, Next, Stored, Trapped, Called, Gated}
use Rattle.rv_model.specs.Space.{Space}
use Rattle.hart_mem.specs.Held.{Held, lacks_frame, pages_stored, spare_of}
use Rattle.hart_step.specs.Core.{Core}
use Rattle.hart_step.specs.Step.{stepped, store_outcome, gate_outcome}
use Rattle.hart_step.specs.declared.event.Event.TheVariants as event
use Rattle.hart_step.proofs.Stores.{none_spare, none_lacks}

module _ (c : Core) (s : Space) where
  at_store : (lacks : Bool) (a width v : ℕ) → event.NoMemory ≡ (store_outcome lacks c s a width v).event → lacks ≡ true
  at_store true a width v q = refl
  at_store false a width v q = cc

  at_gate : (i : Instr) → event.NoMemory ≡ (gate_outcome i c s).event → ⊥
  at_gate Hgate q = cc
  at_gate other q = cc

  pub starved : (v : View) (h : Held) (e : Effect) → event.NoMemory ≡ (stepped (lacks_frame v h) e c s).event → spare_of h ≡ 0
  starved v h (Next rs pc) q = cc
  starved v h (Stored a width value) q = none_spare v h a (at_store (lacks_frame v h a) a width value q)
  starved v h (Trapped t) q = cc
  starved v h Called q = cc
  starved v h (Gated gate) q = absurd (at_gate gate q)

  pub never_starved : (v : View) (h : Held) (e : Effect) → pages_stored v ≡ 0 → event.NoMemory ≡ (stepped (lacks_frame v h) e c s).event → ⊥
  never_starved v h (Next rs pc) none q = cc
  never_starved v h (Stored a width value) none q = none_lacks v h a none (at_store (lacks_frame v h a) a width value q)
  never_starved v h (Trapped t) none q = cc
  never_starved v h Called none q = cc
  never_starved v h (Gated gate) none q = at_gate gate q
