-- Segments that were moved to other offsets: what of them stays, and how far they reach.
use Rattle.std.proofs.Common.{◌≡◌, ℕ, suc, ◌+◌, ◌*◌, ◌==◌, ◌<◌, ◌≤◌, ◌&&◌, ◌||◌, Bool, true, false, not, nat_lt, max, cond, List, [], ◌∷◌, length, map, count_by, Option, Some, refl, sym, ap, arith, ◌∙◌}
use Rattle.std.specs.Prelude.{All}
use Rattle.std.specs.List.{list_any}
use Rattle.std.proofs.lemmas.Bool.Decides.{nat_tests}
use Rattle.std.proofs.lemmas.List.Elements.{All-head, All-tail}
use Rattle.std.proofs.lemmas.List.Sums.{sum_by-append}
use Rattle.elf_image.specs.declared.segments.Segment.{Segment}
use Rattle.elf_image.specs.Segments.{is_passed_over, segments_in, end_of, highest_end, is_misplaced, starts_early, are_misplaced, is_code}
use Rattle.elf_image.specs.Sections.{TextSpan, is_text_of}
use Rattle.elf_image.specs.Profile.{code_of}
use Rattle.elf_image.specs.Image.{IsPlaced}
use Rattle.elf_image.proofs.Passed.{IsNamed}
use Rattle.elf_image.proofs.TestLemmas.{or-false-both}
use Rattle.elf_writer.specs.FileParts.{segment_part, end_of_part, end_of_parts, file_offset}
use Rattle.elf_writer.proofs.FileLemmas.{file_offset-near}
use Rattle.recovery_laws.specs.Moved.{moved_segments}
use Rattle.recovery_laws.proofs.Entries.{read_entries}

-- ---- the table names them

segment-loaded : (s : Segment) → IsNamed s → not ((s.length == 0) && (s.size == 0)) ≡ true
segment-loaded s h = ap not h.some

pub segments-back : (ss : List Segment) (cursor : ℕ) → All IsNamed ss → segments_in (read_entries cursor (map segment_part ss)) ≡ moved_segments cursor ss
segments-back [] cursor h = refl
segments-back (s ∷ ss) cursor h =
    rw (segment-loaded s (All-head IsNamed s ss h))
    (ap (λ ts. record { address = s.address; size = s.size; flags = s.flags; offset = file_offset cursor s.address; length = s.length } ∷ ts)
    (segments-back ss (end_of_part cursor (segment_part s)) (All-tail IsNamed s ss h)))

pub none-passed_over : (ss : List Segment) (cursor : ℕ) → All IsNamed ss → list_any is_passed_over (read_entries cursor (map segment_part ss)) ≡ false
none-passed_over [] cursor h = refl
none-passed_over (s ∷ ss) cursor h =
    rw (segment-loaded s (All-head IsNamed s ss h)) (none-passed_over ss (end_of_part cursor (segment_part s)) (All-tail IsNamed s ss h))

-- ---- what stays

pub moved-length : (ss : List Segment) (cursor : ℕ) → length (moved_segments cursor ss) ≡ length ss
moved-length [] cursor = refl
moved-length (s ∷ ss) cursor = ap suc (moved-length ss (end_of_part cursor (segment_part s)))

pub moved-parts : (ss : List Segment) (cursor : ℕ) → map segment_part (moved_segments cursor ss) ≡ map segment_part ss
moved-parts [] cursor = refl
moved-parts (s ∷ ss) cursor = ap (λ ps. segment_part s ∷ ps) (moved-parts ss (end_of_part cursor (segment_part s)))

pub moved-reach : (ss : List Segment) (cursor : ℕ) → highest_end (moved_segments cursor ss) ≡ highest_end ss
moved-reach [] cursor = refl
moved-reach (s ∷ ss) cursor = ap (max (end_of s)) (moved-reach ss (end_of_part cursor (segment_part s)))

pub moved-count : (ss : List Segment) (cursor : ℕ) → count_by is_code (moved_segments cursor ss) ≡ count_by is_code ss
moved-count [] cursor = refl
moved-count (s ∷ ss) cursor =
    let c = end_of_part cursor (segment_part s) in
    let r : Segment = record { address = s.address; size = s.size; flags = s.flags; offset = file_offset cursor s.address; length = s.length } in
    sum_by-append (λ x. cond (is_code x) 1 0) (r ∷ []) (moved_segments c ss)
    ∙ ap (λ n. 0 + cond (is_code s) 1 0 + n) (moved-count ss c) ∙ sym (sum_by-append (λ x. cond (is_code x) 1 0) (s ∷ []) ss)

moved-any : (n : ℕ) (ss : List Segment) (cursor : ℕ) → list_any (λ t. nat_lt t.address n) (moved_segments cursor ss) ≡ list_any (λ t. nat_lt t.address n) ss
moved-any n [] cursor = refl
moved-any n (s ∷ ss) cursor = ap (λ b. nat_lt s.address n || b) (moved-any n ss (end_of_part cursor (segment_part s)))

moved-order : (ss : List Segment) (cursor : ℕ) → starts_early (moved_segments cursor ss) ≡ starts_early ss
moved-order [] cursor = refl
moved-order (s ∷ ss) cursor =
    let c = end_of_part cursor (segment_part s) in
    ap (λ b. b || starts_early (moved_segments c ss)) (moved-any (end_of s) ss c) ∙ ap (λ b. list_any (λ t. nat_lt t.address (end_of s)) ss || b) (moved-order ss c)

-- the executable one, whose text may stand anywhere in it
text-by : (b : Bool) (s r : Segment) (os or : Option Segment) (t : TextSpan) → is_text_of (Some r) t ≡ is_text_of (Some s) t
    → is_text_of or t ≡ is_text_of os t → is_text_of (cond b (Some r) or) t ≡ is_text_of (cond b (Some s) os) t
text-by true s r os or t here later = here
text-by false s r os or t here later = later

pub moved-text : (ss : List Segment) (cursor : ℕ) (t : TextSpan) → is_text_of (code_of (moved_segments cursor ss)) t ≡ is_text_of (code_of ss) t
moved-text [] cursor t = refl
moved-text (s ∷ ss) cursor t =
    let c = end_of_part cursor (segment_part s) in
    let r : Segment = record { address = s.address; size = s.size; flags = s.flags; offset = file_offset cursor s.address; length = s.length } in
    text-by (is_code s) s r (code_of ss) (code_of (moved_segments c ss)) t refl (moved-text ss c t)

-- ---- how far they reach

end-of-part-near : (cursor : ℕ) (s : Segment) → end_of_part cursor (segment_part s) ≤ cursor + 4095 + s.length
end-of-part-near cursor s = (let offset = file_offset-near cursor s.address in grind (arith, nat_tests))

cursor-before : (cursor : ℕ) (s : Segment) → cursor ≤ end_of_part cursor (segment_part s)
cursor-before cursor s = grind (arith, nat_tests)

offset-inside : (cursor : ℕ) (s : Segment) → 0 < s.length → file_offset cursor s.address + s.length ≤ end_of_part cursor (segment_part s)
offset-inside cursor s some = grind (arith, nat_tests)

pub cursor-grows : (ss : List Segment) (cursor : ℕ) → cursor ≤ end_of_parts cursor (map segment_part ss)
cursor-grows [] cursor = omega arith
cursor-grows (s ∷ ss) cursor =
    (let here = cursor-before cursor s in let later = cursor-grows ss (end_of_part cursor (segment_part s)) in omega (arith, here, later))

-- from the first address that they may have to the limit
pub segments-reach : (ss : List Segment) (cursor low limit : ℕ) (bytes : List ℕ) → All (IsPlaced limit bytes) ss → starts_early ss ≡ false
    → low ≤ limit → list_any (λ t. nat_lt t.address low) ss ≡ false
    → end_of_parts cursor (map segment_part ss) + low ≤ cursor + 4095 * length ss + limit
segments-reach [] cursor low limit bytes placed order below after = omega (arith, below)
segments-reach (s ∷ ss) cursor low limit bytes placed order below after =
    let here : IsPlaced limit bytes s = All-head (IsPlaced limit bytes) s ss placed in
    let apart = or-false-both (list_any (λ t. nat_lt t.address (end_of s)) ss) (starts_early ss) order in
    let above : low ≤ s.address = grind (arith, nat_tests, (or-false-both (nat_lt s.address low) _ after).0) in
    let near = end-of-part-near cursor s in
    let later = segments-reach ss (end_of_part cursor (segment_part s)) (end_of s) limit bytes (All-tail (IsPlaced limit bytes) s ss placed) apart.1 here.below apart.0 in
    omega (arith, here.fits, here.below, above, near, later)

-- no moved segment is misplaced in a file that ends behind them
moved-placed_one : (limit cursor n : ℕ) (bytes : List ℕ) (s : Segment) → IsPlaced limit bytes s → end_of_part cursor (segment_part s) ≤ n
    → is_misplaced limit n (record { address = s.address; size = s.size; flags = s.flags; offset = file_offset cursor s.address; length = s.length }) ≡ false
moved-placed_one limit cursor n bytes s h inside =
    let ends : 0 < s.length → file_offset cursor s.address + s.length ≤ n = λ some. omega (arith, offset-inside cursor s some, inside) in
    is-placed s.length s.size (file_offset cursor s.address) s.address limit n h.fits ends h.above h.below
  where
    is-placed : (length size offset address limit n : ℕ) → length ≤ size → (0 < length → offset + length ≤ n) → 0x1000 ≤ address → address + size ≤ limit
        → (nat_lt size length || (not (length == 0) && nat_lt n (offset + length)) || nat_lt address 0x1000 || nat_lt limit (address + size)) ≡ false
    is-placed length size offset address limit n fits ends above below = grind (arith, nat_tests, ends)

none-misplaced : (ss : List Segment) (limit cursor n : ℕ) (bytes : List ℕ) → All (IsPlaced limit bytes) ss → end_of_parts cursor (map segment_part ss) ≤ n
    → list_any (is_misplaced limit n) (moved_segments cursor ss) ≡ false
none-misplaced [] limit cursor n bytes placed inside = refl
none-misplaced (s ∷ ss) limit cursor n bytes placed inside =
    let c = end_of_part cursor (segment_part s) in
    let grows = cursor-grows ss c in
    rw (moved-placed_one limit cursor n bytes s (All-head (IsPlaced limit bytes) s ss placed) (omega (arith, inside, grows)))
    (none-misplaced ss limit c n bytes (All-tail (IsPlaced limit bytes) s ss placed) inside)

pub moved-apart : (ss : List Segment) (limit cursor n : ℕ) (bytes : List ℕ) → All (IsPlaced limit bytes) ss → starts_early ss ≡ false
    → end_of_parts cursor (map segment_part ss) ≤ n → are_misplaced limit n (moved_segments cursor ss) ≡ false
moved-apart ss limit cursor n bytes placed order inside =
    ap (λ b. b || starts_early (moved_segments cursor ss)) (none-misplaced ss limit cursor n bytes placed inside) ∙ moved-order ss cursor ∙ order
