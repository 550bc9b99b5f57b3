-- What one more entry of the program header table changes.
use Rattle.std.proofs.Common.{◌≡◌, ℕ, ◌+◌, ◌&&◌, ◌||◌, Bool, true, false, nat_lt, max, cond, List, [], ◌∷◌, ◌++◌, map, filter, find, count_by, Option, Some, None, refl, arith, ◌∙◌}
use Rattle.std.proofs.Math.Bool.{or-false}
use Rattle.std.specs.List.{list_any}
use Rattle.std.specs.Option.{option_or}
use Rattle.std.proofs.lemmas.List.{append-nil, map-append}
use Rattle.std.proofs.lemmas.List.Elements.{filter-append}
use Rattle.std.proofs.lemmas.List.Folds.{find-append, list_any-append}
use Rattle.std.proofs.lemmas.List.Sums.{sum_by-append}
use Rattle.std.proofs.lemmas.Bool.Decides.{nat_tests}
use Rattle.elf_image.specs.declared.segments.ProgramHeader.{ProgramHeader}
use Rattle.elf_image.specs.declared.segments.Segment.{Segment}
use Rattle.elf_image.specs.Segments.{is_loaded, segment_of, segments_in, piece, end_of, highest_end, is_misplaced, starts_early, are_misplaced, is_code}

piece-is : (e : ProgramHeader) (b : Bool) → is_loaded e ≡ b → map segment_of (filter is_loaded (e ∷ [])) ≡ piece b (segment_of e)
piece-is e true h = rw h refl
piece-is e false h = rw h refl

pub segments_in-more : (es : List ProgramHeader) (e : ProgramHeader) → segments_in (es ++ e ∷ []) ≡ segments_in es ++ piece (is_loaded e) (segment_of e)
segments_in-more es e =
    rw (filter-append is_loaded es (e ∷ []), map-append segment_of (filter is_loaded es) (filter is_loaded (e ∷ [])), piece-is e (is_loaded e) refl) refl

highest_end-append : (ss : List Segment) (s : Segment) → highest_end (ss ++ s ∷ []) ≡ max (highest_end ss) (end_of s)
highest_end-append [] s = omega arith
highest_end-append (t ∷ ts) s = rw (highest_end-append ts s) (omega arith)

below-max : (a m n : ℕ) → nat_lt a (max m n) ≡ (nat_lt a m || nat_lt a n)
below-max a m n = grind (arith, nat_tests)

or-swap : (a b c d : Bool) → ((a || b) || (c || d)) ≡ ((a || c) || (b || d))
or-swap true b c d = refl
or-swap false true true d = refl
or-swap false true false d = refl
or-swap false false c d = refl

starts_early-append : (ss : List Segment) (s : Segment) → starts_early (ss ++ s ∷ []) ≡ (starts_early ss || nat_lt s.address (highest_end ss))
starts_early-append [] s = grind (arith, nat_tests)
starts_early-append (t ∷ ts) s =
    rw (
      starts_early-append ts s,
      list_any-append (λ u. nat_lt u.address (end_of t)) ts (s ∷ []),
      below-max s.address (end_of t) (highest_end ts),
      or-false (nat_lt s.address (end_of t)),
    )
    (or-swap (list_any (λ u. nat_lt u.address (end_of t)) ts) (nat_lt s.address (end_of t)) (starts_early ts) (nat_lt s.address (highest_end ts)))

pub are_misplaced-more : (limit n : ℕ) (ss : List Segment) (s : Segment) (b : Bool)
    → are_misplaced limit n (ss ++ piece b s) ≡ (are_misplaced limit n ss || (b && (is_misplaced limit n s || nat_lt s.address (highest_end ss))))
are_misplaced-more limit n ss s true =
    rw (starts_early-append ss s, list_any-append (is_misplaced limit n) ss (s ∷ []), or-false (is_misplaced limit n s))
    (or-swap (list_any (is_misplaced limit n) ss) (is_misplaced limit n s) (starts_early ss) (nat_lt s.address (highest_end ss)))
are_misplaced-more limit n ss s false = rw (append-nil ss, or-false (are_misplaced limit n ss)) refl

pub highest_end-more : (ss : List Segment) (s : Segment) (b : Bool)
    → highest_end (ss ++ piece b s) ≡ cond b (max (highest_end ss) (end_of s)) (highest_end ss)
highest_end-more ss s true = highest_end-append ss s
highest_end-more ss s false = rw (append-nil ss) refl

counted : (b : Bool) (n : ℕ) → n + (0 + cond b 1 0) ≡ cond b (n + 1) n
counted true n = omega arith
counted false n = omega arith

pub count-more : (ss : List Segment) (s : Segment) (b : Bool)
    → count_by is_code (ss ++ piece b s) ≡ cond (b && is_code s) (count_by is_code ss + 1) (count_by is_code ss)
count-more ss s true = rw (sum_by-append (λ x. cond (is_code x) 1 0) ss (s ∷ [])) (counted (is_code s) (count_by is_code ss))
count-more ss s false = rw (append-nil ss) refl

or-none : (o : Option Segment) (s : Segment) (b : Bool) → option_or o (cond b (Some s) None) ≡ cond b (option_or o (Some s)) o
or-none o s true = refl
or-none None s false = refl
or-none (Some t) s false = refl

pub find-more : (ss : List Segment) (s : Segment) (b : Bool)
    → find is_code (ss ++ piece b s) ≡ cond (b && is_code s) (option_or (find is_code ss) (Some s)) (find is_code ss)
find-more ss s true = rw (find-append is_code ss (s ∷ [])) (or-none (find is_code ss) s (is_code s))
find-more ss s false = rw (append-nil ss) refl

absent : (b : Bool) (s : Segment) (rest : Option Segment) (n : ℕ) → (rest ≡ None → n ≡ 0) → cond b (Some s) rest ≡ None → 0 + cond b 1 0 + n ≡ 0
absent true s rest n later h = absurd (cc)
absent false s rest n later h = rw (later h) refl

-- where no segment is executable, none is counted
pub count-none : (ss : List Segment) → find is_code ss ≡ None → count_by is_code ss ≡ 0
count-none [] h = refl
count-none (s ∷ ss) h =
    sum_by-append (λ x. cond (is_code x) 1 0) (s ∷ []) ss ∙ absent (is_code s) s (find is_code ss) (count_by is_code ss) (count-none ss) h
