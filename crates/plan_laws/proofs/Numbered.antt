-- The number of a need is its block's place in the list of all blocks.
use Rattle.std.proofs.Common.{◌≡◌, ◌+◌, true, List, [], ◌∷◌, ◌++◌, map, refl, sym, ◌∙◌, ap, inl, inr, append_assoc, append-nil}
use Rattle.std.proofs.lemmas.Bool.{cases_Bool, or_cases, or_left, or_right}
use Rattle.spec_base.specs.declared.spot.BlockSpot.{BlockSpot}
use Rattle.program_model.specs.Cache.{same_block, holds}
use Rattle.cache_queue.proofs.Spots.{same_from_same_block, same_block-self, holds-append}
use Rattle.fetch_plan.specs.Needs.{Numbers, place_of, with_seen, noted, all_noted, numbered}

-- a list with more behind it
abbrev pub Extends : List BlockSpot → List BlockSpot → Type 0
Extends short long = (more : List BlockSpot) × (long ≡ short ++ more)

holds-more : (xs more : List BlockSpot) (s : BlockSpot) → holds xs s ≡ true → holds (xs ++ more) s ≡ true
holds-more [] more s h = cc
holds-more (x ∷ xs) more s h =
    elim (or_cases (same_block x s) (holds xs s) h) [
      | inl here ↦ or_left (same_block x s) (holds (xs ++ more) s) here
      | inr on ↦ or_right (same_block x s) (holds (xs ++ more) s) (holds-more xs more s on)
    ]

place-more : (xs more : List BlockSpot) (s : BlockSpot) → holds xs s ≡ true → place_of (xs ++ more) s ≡ place_of xs s
place-more [] more s h = cc
place-more (x ∷ xs) more s h =
    elim (cases_Bool (same_block x s)) [
      | inl here ↦ rw here refl
      | inr apart ↦ rw apart (ap (λ n. 1 + n) (place-more xs more s (rw apart at h)))
    ]

seen-extends : (seen : List BlockSpot) (s : BlockSpot) → Extends seen (with_seen seen s)
seen-extends seen s =
    elim (cases_Bool (holds seen s)) [
      | inl here ↦ ([], rw here (sym (append-nil seen)))
      | inr absent ↦ (s ∷ [], rw absent refl)
    ]

seen-holds : (seen : List BlockSpot) (s : BlockSpot) → holds (with_seen seen s) s ≡ true
seen-holds seen s =
    elim (cases_Bool (holds seen s)) [
      | inl here ↦ rw (here, here) refl
      | inr absent ↦ rw absent (holds-append seen s s ∙ or_right (holds seen s) (same_block s s) (same_block-self s))
    ]

pub all_seen-extends : (n : Numbers) (spots : List BlockSpot) → Extends n.seen (all_noted n spots).seen
all_seen-extends n [] = ([], sym (append-nil n.seen))
all_seen-extends n (s ∷ spots) =
    let first = seen-extends n.seen s in
    let rest = all_seen-extends (noted n s) spots in
    (first.0 ++ rest.0, rest.1 ∙ ap (λ l. l ++ rest.0) first.1 ∙ append_assoc n.seen first.0 rest.0)

pub all_seen-holds : (n : Numbers) (spots : List BlockSpot) (s : BlockSpot) → holds spots s ≡ true → holds (all_noted n spots).seen s ≡ true
all_seen-holds n [] s h = cc
all_seen-holds n (x ∷ spots) s h =
    elim (or_cases (same_block x s) (holds spots s) h) [
      | inl here ↦
          let rest = all_seen-extends (noted n x) spots in
          let on = holds-more (with_seen n.seen x) rest.0 x (seen-holds n.seen x) in
          ap (holds (all_noted n (x ∷ spots)).seen) (sym (same_from_same_block x s here)) ∙ ap (λ l. holds l x) rest.1 ∙ on
      | inr later ↦ all_seen-holds (noted n x) spots s later
    ]

numbers-is : (n : Numbers) (spots : List BlockSpot) → (all_noted n spots).numbers ≡ n.numbers ++ map (place_of (all_noted n spots).seen) spots
numbers-is n [] = sym (append-nil n.numbers)
numbers-is n (s ∷ spots) =
    let rest = all_seen-extends (noted n s) spots in
    let here : place_of (all_noted n (s ∷ spots)).seen s ≡ place_of (with_seen n.seen s) s =
    ap (λ l. place_of l s) rest.1 ∙ place-more (with_seen n.seen s) rest.0 s (seen-holds n.seen s) in
    numbers-is (noted n s) spots
    ∙ append_assoc n.numbers (place_of (with_seen n.seen s) s ∷ []) (map (place_of (all_noted n (s ∷ spots)).seen) spots)
    ∙ ap (λ k. n.numbers ++ k ∷ map (place_of (all_noted n (s ∷ spots)).seen) spots) (sym here)

-- all blocks, by first appearance
abbrev pub table : List BlockSpot → List BlockSpot
table spots = (all_noted (record { seen = []; numbers = [] }) spots).seen

pub numbered-is : (spots : List BlockSpot) → numbered spots ≡ map (place_of (table spots)) spots
numbered-is spots = numbers-is (record { seen = []; numbers = [] }) spots

pub table-holds : (spots : List BlockSpot) (s : BlockSpot) → holds spots s ≡ true → holds (table spots) s ≡ true
table-holds spots s h = all_seen-holds (record { seen = []; numbers = [] }) spots s h
