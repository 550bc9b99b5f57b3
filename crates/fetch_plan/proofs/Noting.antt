-- Blocks noted by first appearance.
use Rattle.std.proofs.Common.{◌≡◌, ℕ, ◌+◌, ◌-◌, ◌≤◌, ◌<◌, Bool, true, false, ◌&&◌, ◌||◌, List, [], ◌∷◌, ◌++◌, length, refl, sym, ◌∙◌, ap, subst, inl, inr, arith, eqb, cond, length-append, append_assoc, append-nil}
use Rattle.std.specs.Str.{bytes_eq}
use Rattle.std.specs.List.{list_any, position_or_len}
use Rattle.std.proofs.lemmas.Bool.{cases_Bool, or_parts}
use Rattle.spec_base.specs.declared.spot.BlockSpot.{BlockSpot}
use Rattle.spec_base.specs.declared.spot.ReadSpot.{ReadSpot}
use Rattle.program_model.specs.Cache.{same_block, holds, blocks_up, blocks_of}
use Rattle.cache_queue.proofs.Spots.{same_block-self, test_is}
use Rattle.cache_queue.proofs.ReadBlocks.{blocks_up-next, blocks_up-end}
use Rattle.trace_text.specs.declared.trace_line.TraceLine.{TraceLine}
use Rattle.fetch_plan.specs.Needs.{Numbers, no_numbers, place_of, with_seen, noted, all_noted, numbered, needed_blocks, read_in, blocks_in}
use Rattle.fetch_plan.specs.Numbering.{Noted, HasIf, Has}

-- the test by which the table of blocks looks a block up
abbrev pub is_of : BlockSpot → BlockSpot → Bool
is_of x y = bytes_eq x.name y.name && eqb x.block y.block

pub any_is : (spot : BlockSpot) (ks : List BlockSpot) → list_any (is_of spot) ks ≡ holds ks spot
any_is spot [] = refl
any_is spot (x ∷ xs) = rw (test_is spot x) (ap (λ h. same_block x spot || h) (any_is spot xs))

pub position_is : (spot : BlockSpot) (ks : List BlockSpot) → position_or_len (is_of spot) ks ≡ place_of ks spot
position_is spot [] = refl
position_is spot (x ∷ xs) =
    elim (cases_Bool (same_block x spot)) [
      | inl same ↦ rw (test_is spot x, same) refl
      | inr apart ↦ rw (test_is spot x, apart) (ap (λ n. 1 + n) (position_is spot xs))
    ]

place_of-absent : (spot : BlockSpot) (ks : List BlockSpot) → holds ks spot ≡ false → place_of ks spot ≡ place_of (ks ++ spot ∷ []) spot
place_of-absent spot [] h = rw (same_block-self spot) refl
place_of-absent spot (x ∷ xs) h =
    let parts = or_parts (same_block x spot) (holds xs spot) h in
    rw parts.0 (ap (λ n. 1 + n) (place_of-absent spot xs parts.1))

pub place_of-with_seen : (spot : BlockSpot) (ks : List BlockSpot) → place_of ks spot ≡ place_of (with_seen ks spot) spot
place_of-with_seen spot ks =
    elim (cases_Bool (holds ks spot)) [
      | inl here ↦ rw here refl
      | inr absent ↦ rw absent (place_of-absent spot ks absent)
    ]

pub noted_is : (old : Numbers) (spot : BlockSpot) (number : ℕ) (seen : List BlockSpot) (numbers : List ℕ) → seen ≡ cond (list_any (is_of spot) old.seen) old.seen (old.seen ++ spot ∷ []) → number ≡ position_or_len (is_of spot) old.seen → numbers ≡ old.numbers ++ number ∷ [] → record { seen = seen; numbers = numbers } ≡ noted old spot
noted_is old spot number seen numbers s n ns =
    let seen_is : seen ≡ with_seen old.seen spot = s ∙ ap (λ b. cond b old.seen (old.seen ++ spot ∷ [])) (any_is spot old.seen) in
    let number_is : number ≡ place_of (with_seen old.seen spot) spot = n ∙ position_is spot old.seen ∙ place_of-with_seen spot old.seen in
    let numbers_is : numbers ≡ old.numbers ++ place_of (with_seen old.seen spot) spot ∷ [] = ns ∙ ap (λ k. old.numbers ++ k ∷ []) number_is in
    λ i. record { seen = seen_is i; numbers = numbers_is i }

-- ---- one need after the other

pub all_noted-append : (n : Numbers) (xs ys : List BlockSpot) → all_noted n (xs ++ ys) ≡ all_noted (all_noted n xs) ys
all_noted-append n [] ys = refl
all_noted-append n (x ∷ xs) ys = all_noted-append (noted n x) xs ys

length-all_noted : (n : Numbers) (xs : List BlockSpot) → length (all_noted n xs).numbers ≡ length n.numbers + length xs
length-all_noted n [] = omega arith
length-all_noted n (x ∷ xs) =
    omega (arith, length-all_noted (noted n x) xs, length-append n.numbers (place_of (with_seen n.seen x) x ∷ []))

-- there are as many numbers as needs
length-numbers : (n : Numbers) (spots : List BlockSpot) → n ≡ all_noted no_numbers spots → length n.numbers ≡ length spots
length-numbers n spots e = omega (arith, ap (λ m. length m.numbers) e, length-all_noted no_numbers spots)

pub length-numbered : (spots : List BlockSpot) → length (numbered spots) ≡ length spots
length-numbered spots = length-numbers (all_noted no_numbers spots) spots refl

-- one more than may be
pub Has-full : (n : Noted) (spots : List BlockSpot) (spot : BlockSpot) → n.full ≡ false → 4_000_000 ≤ length n.numbers.numbers → Has n spots → Has (record n { full = true }) (spots ++ spot ∷ [])
Has-full n spots spot free most has =
    let is : (n.numbers ≡ all_noted no_numbers spots) × (length spots ≤ 4_000_000) = subst (λ b. HasIf b n.numbers spots) free has in
    omega (arith, most, length-numbers n.numbers spots is.0, length-append spots (spot ∷ []))

-- one more of those that may be
pub Has-noted : (n : Noted) (spots : List BlockSpot) (spot : BlockSpot) (new : Noted) → n.full ≡ false → length n.numbers.numbers < 4_000_000 → new.full ≡ false → new.numbers ≡ noted n.numbers spot → Has n spots → Has new (spots ++ spot ∷ [])
Has-noted n spots spot new free room still is has =
    let was : (n.numbers ≡ all_noted no_numbers spots) × (length spots ≤ 4_000_000) = subst (λ b. HasIf b n.numbers spots) free has in
    subst (λ b. HasIf b new.numbers (spots ++ spot ∷ [])) (sym still) (
      is ∙ ap (λ m. noted m spot) was.0 ∙ sym (all_noted-append no_numbers spots (spot ∷ [])),
      omega (arith, room, length-numbers n.numbers spots was.0, length-append spots (spot ∷ [])),
    )

-- ---- the blocks of a read, one after the other

-- from one on the blocks of the read are to be noted
pub record InRead (initial now : Noted) (spot : ReadSpot) (block end : ℕ) : Type 0 where
  pub so_far : (spots : List BlockSpot) → Has initial spots → (done : List BlockSpot) × Has now (spots ++ done) × (done ++ blocks_up spot.name block (end - block) ≡ blocks_of spot)

pub read_starts : (n : Noted) (spot : ReadSpot) (first end : ℕ) → blocks_up spot.name first (end - first) ≡ blocks_of spot → InRead n n spot first end
read_starts n spot first end is = record { so_far = λ spots has. ([], subst (Has n) (sym (append-nil spots)) has, is) }

pub read_goes_on : (initial now new : Noted) (spot : ReadSpot) (block end : ℕ) → block < end → ((spots : List BlockSpot) → Has now spots → Has new (spots ++ record { name = spot.name; block = block } ∷ [])) → InRead initial now spot block end → InRead initial new spot (block + 1) end
read_goes_on initial now new spot block end lt step p =
    let one : BlockSpot = record { name = spot.name; block = block } in
    record {
      so_far = λ spots has.
          let before = p.so_far spots has in
          let left = blocks_up spot.name (block + 1) (end - (block + 1)) in (
            before.0 ++ one ∷ [],
            subst (Has new) (append_assoc spots before.0 (one ∷ [])) (step (spots ++ before.0) before.1),
            append_assoc before.0 (one ∷ []) left ∙ ap (λ l. before.0 ++ l) (sym (blocks_up-next spot.name block end lt)) ∙ before.2,
          );
    }

pub read_ends : (initial now : Noted) (spot : ReadSpot) (block end : ℕ) → end ≤ block → InRead initial now spot block end → (spots : List BlockSpot) → Has initial spots → Has now (spots ++ blocks_of spot)
read_ends initial now spot block end ge p spots has =
    let before = p.so_far spots has in
    let all : before.0 ≡ blocks_of spot = sym (append-nil before.0) ∙ ap (λ l. before.0 ++ l) (sym (blocks_up-end spot.name block end ge)) ∙ before.2 in
    subst (λ l. Has now (spots ++ l)) all before.1

-- ---- the lines, one after the other

-- the lines left are to be noted
pub record InLines (lines left : List TraceLine) (now : Noted) : Type 0 where
  pub done : List BlockSpot
  pub has : Has now done
  pub rest : done ++ needed_blocks left ≡ needed_blocks lines

pub line_goes_on : (lines rest : List TraceLine) (line : TraceLine) (now new : Noted) → ((spots : List BlockSpot) → Has now spots → Has new (spots ++ blocks_in (read_in line.body))) → InLines lines (line ∷ rest) now → InLines lines rest new
line_goes_on lines rest line now new step p = record {
  done = p.done ++ blocks_in (read_in line.body);
  has = step p.done p.has;
  rest = append_assoc p.done (blocks_in (read_in line.body)) (needed_blocks rest) ∙ p.rest;
}

pub lines_end : (lines : List TraceLine) (now : Noted) → InLines lines [] now → Has now (needed_blocks lines)
lines_end lines now p = subst (Has now) (sym (append-nil p.done) ∙ p.rest) p.has
