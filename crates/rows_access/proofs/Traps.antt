-- A load or a store of the program traps just where it may not access its address.
use Rattle.std.proofs.Common.{◌≡◌, ℕ, ◌%◌, Bool, true, false, ◌&&◌, ◌==◌, refl, sym, subst}
use Rattle.spec_base.specs.declared.layout.Layout.{Layout}
use Rattle.spec_base.specs.declared.machine.Trap.{Trap}
use Rattle.spec_base.specs.declared.machine.Trap.TheVariants as trap
use Rattle.rv_model.specs.Memory.{loaded, all_from}
use Rattle.rv_model.specs.Registers.{with_reg}
use Rattle.rv_model.specs.Rights.{is_data}
use Rattle.rv_model.specs.Arithmetic.{load_width, store_width, extended}
use Rattle.rv_model.specs.Effect.{Trapped, Stored, load_if, store_if, steps_on}
use Rattle.rows_access.specs.LoadRows.{LoadTraps}
use Rattle.rows_access.specs.StoreRows.{StoreTraps}
use Rattle.rows_access.proofs.AccessPlaces.{load-width, store-width}

-- the two tests of an access, at a width
abbrev tests : Layout → ℕ → ℕ → Bool
tests l n a = (a % n == 0) && all_from (is_data l) a n

pub load_traps : LoadTraps
load_traps l m op rs pc rd a =
    subst (λ (n : ℕ). (tests l n a ≡ false → (t : Trap) × (load_if (a % load_width op == 0) (all_from (is_data l) a (load_width op)) m op rs pc rd a ≡ Trapped t))
    × (tests l n a ≡ true → load_if (a % load_width op == 0) (all_from (is_data l) a (load_width op)) m op rs pc rd a ≡ steps_on (with_reg rs rd (extended op (loaded m a (load_width op)))) pc)) (sym (load-width op))
    (by_tests (a % load_width op == 0) (all_from (is_data l) a (load_width op)))
  where
    by_tests : (b c : Bool) → ((b && c) ≡ false → (t : Trap) × (load_if b c m op rs pc rd a ≡ Trapped t)) × ((b && c) ≡ true → load_if b c m op rs pc rd a ≡ steps_on (with_reg rs rd (extended op (loaded m a (load_width op)))) pc)
    by_tests false c = ((λ e. (trap.Misaligned, refl)), λ e. absurd (cc e))
    by_tests true false = ((λ e. (trap.LoadOut, refl)), λ e. absurd (cc e))
    by_tests true true = ((λ e. absurd (cc e)), λ e. refl)

pub store_traps : StoreTraps
store_traps l op a v =
    subst (λ (n : ℕ). (tests l n a ≡ false → (t : Trap) × (store_if (a % store_width op == 0) (all_from (is_data l) a (store_width op)) a (store_width op) v ≡ Trapped t))
    × (tests l n a ≡ true → store_if (a % store_width op == 0) (all_from (is_data l) a (store_width op)) a (store_width op) v ≡ Stored a (store_width op) v)) (sym (store-width op))
    (by_tests (a % store_width op == 0) (all_from (is_data l) a (store_width op)))
  where
    by_tests : (b c : Bool) → ((b && c) ≡ false → (t : Trap) × (store_if b c a (store_width op) v ≡ Trapped t)) × ((b && c) ≡ true → store_if b c a (store_width op) v ≡ Stored a (store_width op) v)
    by_tests false c = ((λ e. (trap.Misaligned, refl)), λ e. absurd (cc e))
    by_tests true false = ((λ e. (trap.StoreOut, refl)), λ e. absurd (cc e))
    by_tests true true = ((λ e. absurd (cc e)), λ e. refl)
