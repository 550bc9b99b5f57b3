-- Lemmas on caches whose blocks have the bytes of files.
use Rattle.std.proofs.Common.{◌≡◌, ℕ, zero, suc, ◌-◌, Bool, List, [], ◌∷◌, take, Option, Some, None, IfSome, refl, sym, ◌∙◌, ap, subst, inl, inr}
use Rattle.std.specs.Map.{lookup}
use Rattle.std.proofs.lemmas.Bool.{cases_Bool}
use Rattle.spec_base.specs.declared.spot.BlockSpot.{BlockSpot}
use Rattle.spec_base.specs.Files.{Files}
use Rattle.program_model.specs.Cache.{same_block}
use Rattle.cache_queue.specs.State.{CachedBlocks, CacheState, with_block, SameBytes}
use Rattle.cache_queue.specs.Finishes.{padded_block, TrueTo, IsKept}
use Rattle.cache_queue.specs.declared.finish.Finished.{Finished}
use Rattle.cache_queue.specs.declared.finish.Finished.TheVariants.{Nothing, Put, Lost, Dropped, Fault}
use Rattle.cache_queue.proofs.Spots.{same_from_same_block}

-- blocks with the same bytes are as true
pub TrueTo-same : (files : Files) (old new : CachedBlocks) → SameBytes old new → TrueTo files old → TrueTo files new
TrueTo-same files old new same true_to spot = subst (λ o. IfSome o (λ bytes. bytes ≡ padded_block (files spot.name) spot.block)) (sym (same spot)) (true_to spot)

pub at_some : {A : Type 0} (o : Option A) (P : A → Type 0) (x : A) → o ≡ Some x → IfSome o P → P x
at_some None P x e h = cc
at_some (Some y) P x e h = subst P (some_same y x e) h
  where
    some_same : {B : Type 0} (a b : B) → Some a ≡ Some b → a ≡ b
    some_same a b q = cc

if_some : (o : Option (List ℕ)) (P : List ℕ → Type 0) → ((x : List ℕ) → o ≡ Some x → P x) → IfSome o P
if_some None P h = tt
if_some (Some x) P h = h x refl

-- what is found among the first n is found among all
found_among : (test : BlockSpot → Bool) (n : ℕ) (es : List (BlockSpot × List ℕ)) (x : List ℕ) → lookup test (take n es) ≡ Some x → lookup test es ≡ Some x
found_among test zero es x found = cc
found_among test (suc n) [] x found = found
found_among test (suc n) (e ∷ es) x found =
    elim (cases_Bool (test e.0)) [
      | inl same ↦ rw same (rw same at found)
      | inr apart ↦ rw apart (found_among test n es x (rw apart at found))
    ]

pub TrueTo-with_block : (files : Files) (c : CachedBlocks) (spot : BlockSpot) (bytes : List ℕ) → bytes ≡ padded_block (files spot.name) spot.block → TrueTo files c → TrueTo files (with_block c spot bytes)
TrueTo-with_block files c spot bytes is true_to other =
    let P : List ℕ → Type 0 = λ found. found ≡ padded_block (files other.name) other.block in
    elim (cases_Bool (same_block spot other)) [
      | inl same ↦ rw same (is ∙ ap (λ s. padded_block (files s.name) s.block) (same_from_same_block spot other same))
      | inr apart ↦ rw apart
          (if_some (lookup (λ x. same_block x other) (take (c.most - 1) c.entries)) P
          (λ x found. at_some (lookup (λ x. same_block x other) c.entries) P x (found_among (λ x. same_block x other) (c.most - 1) c.entries x found) (true_to other)))
    ]

-- a block that was fetched leaves the blocks true
pub TrueTo-kept : (files : Files) (old : CacheState) (spot : BlockSpot) (bytes : List ℕ) (answer : Finished) (new : CacheState) → bytes ≡ padded_block (files spot.name) spot.block → IsKept old spot bytes answer new → TrueTo files old.blocks → TrueTo files new.blocks
TrueTo-kept files old spot bytes (Put x) new is k h = subst (TrueTo files) (sym k.2) (TrueTo-with_block files old.blocks spot bytes is h)
TrueTo-kept files old spot bytes (Lost x) new is k h = subst (λ (c : CacheState). TrueTo files c.blocks) (sym k.1) h
TrueTo-kept files old spot bytes Nothing new is k h = absurd k
TrueTo-kept files old spot bytes (Dropped x) new is k h = absurd k
TrueTo-kept files old spot bytes (Fault x) new is k h = absurd k
