-- What a memory answers to a store, and the effect of the store.
use Rattle.std.proofs.Common.{◌≡◌, ℕ, Bool, true, false, arith, refl, Ok, Err}
use Rattle.std.proofs.lemmas.Bool.Decides.{nat_tests}
use Rattle.spec_base.specs.declared.machine.View.{View}
use Rattle.spec_base.specs.declared.machine.View.TheVariants.{Plain, Program, Stub, Shadow}
use Rattle.spec_base.specs.declared.machine.Trap.TheVariants as trap
use Rattle.rv_model.specs.Effect.{Stored, Trapped, store_if}
use Rattle.hart_mem.specs.declared.access.StoreFault.{StoreFault}
use Rattle.hart_mem.specs.declared.access.StoreFault.TheVariants as fault
use Rattle.hart_mem.specs.Held.{Held, lacks_frame, pages_stored, spare_of, store_answer_if as answer_if}

-- the memory is willing
pub store_made : (aligned inside lacks : Bool) (a width v : ℕ) → answer_if aligned inside lacks ≡ Ok tt → (store_if aligned inside a width v ≡ Stored a width v) × (lacks ≡ false)
store_made true true true a width v q = cc
store_made true true false a width v q = (refl, refl)
store_made true false lacks a width v q = cc
store_made false inside lacks a width v q = cc

-- a byte isn't the view's
pub store_out : (aligned inside lacks : Bool) (a width v : ℕ) (f : StoreFault) → answer_if aligned inside lacks ≡ Err f → f ≡ fault.Out → store_if aligned inside a width v ≡ Trapped trap.StoreOut
store_out true true true a width v f q e = cc
store_out true true false a width v f q e = cc
store_out true false lacks a width v f q e = refl
store_out false inside lacks a width v f q e = cc

-- a frame is wanting
pub store_starved : (aligned inside lacks : Bool) (a width v : ℕ) (f : StoreFault) → answer_if aligned inside lacks ≡ Err f → f ≡ fault.NoMemory → (store_if aligned inside a width v ≡ Stored a width v) × (lacks ≡ true)
store_starved true true true a width v f q e = (refl, refl)
store_starved true true false a width v f q e = cc
store_starved true false lacks a width v f q e = cc
store_starved false inside lacks a width v f q e = cc

-- then none is spare
pub none_spare : (v : View) (h : Held) (a : ℕ) → lacks_frame v h a ≡ true → spare_of h ≡ 0
unfolding lacks_frame spare_of
none_spare Plain h a q = grind (arith, nat_tests)
none_spare Program h a q = grind (arith, nat_tests)
none_spare Stub h a q = cc
none_spare Shadow h a q = cc

-- in the stub's and in the shadow's view no store wants a frame
pub none_lacks : (v : View) (h : Held) (a : ℕ) → pages_stored v ≡ 0 → lacks_frame v h a ≡ true → ⊥
unfolding lacks_frame
none_lacks Plain h a none q = omega arith
none_lacks Program h a none q = omega arith
none_lacks Stub h a none q = cc
none_lacks Shadow h a none q = cc
