-- What tests on numbers and lists show.
use Rattle.std.proofs.Common.{◌≡◌, ℕ, zero, suc, ◌<◌, ◌&&◌, ◌||◌, Bool, true, false, not, cond, List, [], ◌∷◌, length, find, slice_index_or, Option, Some, None, refl, arith}
use Rattle.std.specs.List.{list_any}
use Rattle.elf_image.specs.declared.refusal.Refusal.{Refusal}
use Rattle.elf_image.specs.Profile.{otherwise}

-- where a chain of tests gives no reason, its first test fails and the rest gives none
pub past : (b : Bool) (e : Refusal) (rest : Option Refusal) → cond b (Some e) rest ≡ None → (b ≡ false) × (rest ≡ None)
past true e rest h = absurd (cc)
past false e rest h = (refl, h)

pub otherwise-none : (a b : Option Refusal) → otherwise a b ≡ None → (a ≡ None) × (b ≡ None)
otherwise-none (Some e) b h = absurd (cc)
otherwise-none None b h = (refl, h)

pub not-false : (b : Bool) → not b ≡ false → b ≡ true
not-false true h = refl
not-false false h = absurd (cc)

pub and-true : (a b : Bool) → (a && b) ≡ true → (a ≡ true) × (b ≡ true)
and-true true b h = (refl, h)
and-true false b h = absurd (cc)

pub or-false-both : (a b : Bool) → (a || b) ≡ false → (a ≡ false) × (b ≡ false)
or-false-both true b h = absurd (cc)
or-false-both false b h = (refl, h)

module _ {X : Type 0} where
  -- no element passes a test that `list_any` denies
  pub none-at : (p : X → Bool) (xs : List X) → list_any p xs ≡ false
      → (k : ℕ) (d : X) → k < length xs → p (slice_index_or xs k d) ≡ false
  none-at p [] h k d below = absurd (omega arith)
  none-at p (x ∷ xs) h zero d below = (or-false-both (p x) (list_any p xs) h).0
  none-at p (x ∷ xs) h (suc k) d below = none-at p xs (or-false-both (p x) (list_any p xs) h).1 k d (omega arith)

  found-passes : (p : X → Bool) (b : Bool) (x y : X) (rest : Option X) → p x ≡ b
      → (rest ≡ Some y → p y ≡ true) → cond b (Some x) rest ≡ Some y → p y ≡ true
  found-passes p true x y rest is later h = let same : x ≡ y = cc in rw (← same) is
  found-passes p false x y rest is later h = later h

  -- an element that is found passes
  pub find-passes : (p : X → Bool) (xs : List X) (y : X) → find p xs ≡ Some y → p y ≡ true
  find-passes p [] y h = absurd (cc)
  find-passes p (x ∷ xs) y h = found-passes p (p x) x y (find p xs) refl (find-passes p xs y) h

  found-fails : (q : X → Bool) (b : Bool) (x y : X) (rest : Option X) → q x ≡ false
      → (rest ≡ Some y → q y ≡ false) → cond b (Some x) rest ≡ Some y → q y ≡ false
  found-fails q true x y rest is later h = let same : x ≡ y = cc in rw (← same) is
  found-fails q false x y rest is later h = later h

  -- an element that is found fails each test that all fail
  pub find-fails : (p q : X → Bool) (xs : List X) (y : X) → list_any q xs ≡ false → find p xs ≡ Some y → q y ≡ false
  find-fails p q [] y none h = absurd (cc)
  find-fails p q (x ∷ xs) y none h =
      let both = or-false-both (q x) (list_any q xs) none in
      found-fails q (p x) x y (find p xs) both.0 (find-fails p q xs y both.1) h
