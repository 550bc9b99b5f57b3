-- Hints that are given twice.
use Rattle.std.proofs.Common.{◌≡◌, ℕ, Bool, true, false, ◌||◌, ◌∷◌, [], ◌++◌, refl, inl, inr}
use Rattle.std.proofs.lemmas.Bool.{cases_Bool}
use Rattle.spec_base.specs.declared.spot.BlockSpot.{BlockSpot}
use Rattle.program_model.specs.Cache.{Cache, holds, is_idle_hint, hint_if, hinted}
use Rattle.cache_queue.proofs.Spots.{holds-append, same_block-self}

or_true : (b : Bool) → (b || true) ≡ true
or_true true = refl
or_true false = refl

-- a queue that a block has joined holds it
joined_holds : (c : Cache) (spot : BlockSpot) → holds (c.queue ++ spot ∷ []) spot ≡ true
joined_holds c spot = rw (holds-append c.queue spot spot, same_block-self spot) (or_true (holds c.queue spot))

-- a hint of a queued block has no use
queued_is_idle : (depth : ℕ) (c : Cache) (spot : BlockSpot) → holds c.queue spot ≡ true → is_idle_hint depth c spot ≡ true
queued_is_idle depth c spot queued = rw queued (or_true (holds c.cached spot))

pub hinted-twice : (depth : ℕ) (c : Cache) (spot : BlockSpot) → hinted depth (hinted depth c spot) spot ≡ hinted depth c spot
hinted-twice depth c spot =
    elim (cases_Bool (is_idle_hint depth c spot)) [
      | inl idle ↦ rw (idle, idle) refl
      | inr joins ↦ rw (joins, queued_is_idle depth (hint_if false c spot) spot (joined_holds c spot)) refl
    ]
