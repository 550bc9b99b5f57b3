-- What follows where no reason to refuse a file holds.
use Rattle.std.proofs.Common.{◌≡◌, ℕ, zero, suc, ◌+◌, ◌*◌, ◌-◌, ◌%◌, ◌^◌, ◌==◌, ◌<◌, ◌≤◌, ◌&&◌, Bool, true, false, not, nat_lt, nat_le, cond, List, [], ◌∷◌, length, count_by, All, AllPairs, IsTrue, slice_index_or, Option, Some, None, Ok, Err, refl, sym, ap, subst, arith, ◌∙◌, length-append}
use Rattle.std.specs.List.{list_any}
use Rattle.std.proofs.lemmas.Bool.Decides.{nat_tests}
use Rattle.spec_base.specs.declared.layout.Version.{Version}
use Rattle.spec_base.specs.declared.layout.Version.TheVariants.{One, Two}
use Rattle.spec_base.specs.Layout.{range_start, image_limit, is_lawful, file_limit, text_limit}
use Rattle.elf_image.specs.declared.header.FileHeader.{FileHeader}
use Rattle.elf_image.specs.declared.segments.Segment.{Segment}
use Rattle.elf_image.specs.declared.scan.Scan.{Scan}
use Rattle.elf_image.specs.declared.sections.Span.{Span}
use Rattle.elf_image.specs.declared.refusal.Refusal.{Refusal}
use Rattle.elf_image.specs.declared.refusal.Refusal.TheVariants.{TooLong, Short, Magic, Class, ByteOrder, Version as OtherVersion, Kind, Machine, Flags, HeaderTable, Dynamic, Already, Segment as Misplaced, NoText, Sections, Text, Entry}
use Rattle.elf_image.specs.declared.image.Image.{Image}
use Rattle.elf_image.specs.declared.image.Outline.{Outline}
use Rattle.elf_image.specs.Header.{file_header, holds_table, header_refusal, HasTable}
use Rattle.elf_image.specs.Segments.{entry_at, first_entries, is_loaded, segment_of, segments_in, piece, end_of, highest_end, is_misplaced, starts_early, is_code, are_misplaced, entries_refusal}
use Rattle.elf_image.specs.Sections.{holds_sections, text_span, is_text_of, is_entry_of, text_refusal}
use Rattle.elf_image.specs.Scan.{IsScan, only, scan_answer, answered}
use Rattle.elf_image.specs.Profile.{segments_of, code_of, first_refusal, rounded_up, image_of, judged, profile}
use Rattle.elf_image.specs.Image.{IsPlaced, IsImage, IsOutline, opened_limit}
use Rattle.elf_image.proofs.SegmentLemmas.{segments_in-more, count-none}
use Rattle.elf_image.proofs.TestLemmas.{past, otherwise-none, not-false, and-true, or-false-both, none-at, find-passes, find-fails}

one-is : (b : Bool) (s : Segment) → cond b (Ok s) (Err NoText) ≡ answered (cond (not b) (Some NoText) None) (Some s)
one-is true s = refl
one-is false s = refl

chain-is : (a b c : Bool) (code : Option Segment) (n : ℕ) → (code ≡ None → n ≡ 0)
    → cond a (Err Dynamic) (cond b (Err Already) (cond c (Err Misplaced) (only code n)))
    ≡ answered (cond a (Some Dynamic) (cond b (Some Already) (cond c (Some Misplaced) (cond (not (n == 1)) (Some NoText) None)))) code
chain-is true b c code n h = refl
chain-is false true c code n h = refl
chain-is false false true code n h = refl
chain-is false false false (Some s) n h = one-is (n == 1) s
chain-is false false false None n h = rw (h refl) refl

-- the scan of the whole table shows what its entries show
pub scan_answer-is : (bytes : List ℕ) (version : Version) (scan : Scan)
    → IsScan (image_limit version) bytes (file_header bytes).e_phoff (file_header bytes).e_phnum scan
    → scan_answer scan ≡ answered (entries_refusal bytes version) (code_of (segments_of bytes))
scan_answer-is bytes version scan h =
    rw (h.dynamic, h.rewritten, h.misplaced, h.code_segments, h.code)
    (chain-is _ _ _ (code_of (segments_of bytes)) (count_by is_code (segments_of bytes)) (count-none (segments_of bytes)))

-- a test of an order, read as the order
at-most : (a b : ℕ) → nat_lt a b ≡ false → b ≤ a
at-most a b h = grind (arith, nat_tests)

le-true : (a b : ℕ) → nat_le a b ≡ true → a ≤ b
le-true a b h = grind (arith, nat_tests)

lt-true : (a b : ℕ) → nat_lt a b ≡ true → a < b
lt-true a b h = grind (arith, nat_tests)

eq-true : (a b : ℕ) → (a == b) ≡ true → a ≡ b
eq-true a b h = grind (arith, nat_tests)

table-holds : (bytes : List ℕ) → nat_lt file_limit (length bytes) ≡ false → nat_lt (length bytes) 64 ≡ false
    → holds_table (file_header bytes) (length bytes) ≡ true → HasTable bytes
table-holds bytes long short h =
    let last = and-true _ _ h in
    let third = and-true _ _ last.0 in
    let second = and-true _ _ third.0 in
    record {
      few_bytes = at-most file_limit (length bytes) long;
      has_header = at-most (length bytes) 64 short;
      some = le-true _ _ second.1;
      few = le-true _ _ third.1;
      inside = le-true _ _ last.1;
    }

pub HasTable-from : (bytes : List ℕ) → header_refusal bytes ≡ None → HasTable bytes
HasTable-from bytes h =
    let h1 = past _ TooLong _ h in
    let h2 = past _ Short _ h1.1 in
    let h3 = past _ Magic _ h2.1 in
    let h4 = past _ Class _ h3.1 in
    let h5 = past _ ByteOrder _ h4.1 in
    let h6 = past _ OtherVersion _ h5.1 in
    let h7 = past _ Kind _ h6.1 in
    let h8 = past _ Machine _ h7.1 in
    let h9 = past _ Flags _ h8.1 in
    let h10 = past _ HeaderTable _ h9.1 in
    table-holds bytes h1.0 h2.0 (not-false (holds_table (file_header bytes) (length bytes)) h10.0)

-- ## The segments

few-pieces : (b : Bool) (s : Segment) → length (piece b s) ≤ 1
few-pieces true s = omega arith
few-pieces false s = omega arith

pub few-segments : (start n : ℕ) (bytes : List ℕ) → length (segments_in (first_entries start n bytes)) ≤ n
few-segments start zero bytes = omega arith
few-segments start (suc n) bytes =
    let es = first_entries start n bytes in
    let e = entry_at start n bytes in
    rw (segments_in-more es e, length-append (segments_in es) (piece (is_loaded e) (segment_of e)))
    (omega (arith, few-segments start n bytes, few-pieces (is_loaded e) (segment_of e)))

is-positive : (n m k : ℕ) → (not (n == 0) && nat_lt m k) ≡ false → 0 < n → k ≤ m
is-positive n m k h some = grind (arith, nat_tests)

placed : (limit : ℕ) (bytes : List ℕ) (s : Segment) → is_misplaced limit (length bytes) s ≡ false → IsPlaced limit bytes s
placed limit bytes s h =
    let last = or-false-both _ _ h in
    let third = or-false-both _ _ last.0 in
    let second = or-false-both _ _ third.0 in
    record {
      fits = at-most s.size s.length second.0;
      in_file = is-positive s.length (length bytes) (s.offset + s.length) second.1;
      above = at-most s.address range_start third.1;
      below = at-most limit (end_of s) last.1;
    }

all-placed : (limit : ℕ) (bytes : List ℕ) (ss : List Segment) → list_any (is_misplaced limit (length bytes)) ss ≡ false → All (IsPlaced limit bytes) ss
all-placed limit bytes ss h = λ k d below. placed limit bytes (slice_index_or ss k d) (none-at (is_misplaced limit (length bytes)) ss h k d below)

ascending : (ss : List Segment) → starts_early ss ≡ false → AllPairs (λ s t. end_of s ≤ t.address) ss
ascending [] h i j d before below = absurd (omega arith)
ascending (s ∷ ss) h zero zero d before below = absurd (omega arith)
ascending (s ∷ ss) h zero (suc j) d before below =
    let both = or-false-both (list_any (λ t. nat_lt t.address (end_of s)) ss) (starts_early ss) h in
    at-most (slice_index_or ss j d).address (end_of s) (none-at (λ t. nat_lt t.address (end_of s)) ss both.0 j d (omega arith))
ascending (s ∷ ss) h (suc i) zero d before below = absurd (omega arith)
ascending (s ∷ ss) h (suc i) (suc j) d before below =
    let both = or-false-both (list_any (λ t. nat_lt t.address (end_of s)) ss) (starts_early ss) h in
    ascending ss both.1 i j d (omega arith) (omega arith)

highest : (limit : ℕ) (bytes : List ℕ) (ss : List Segment) → list_any (is_misplaced limit (length bytes)) ss ≡ false → highest_end ss ≤ limit
highest limit bytes [] h = omega arith
highest limit bytes (s ∷ ss) h =
    let both = or-false-both (is_misplaced limit (length bytes) s) (list_any (is_misplaced limit (length bytes)) ss) h in
    let this : end_of s ≤ limit = (placed limit bytes s both.0).below in
    omega (arith, this, highest limit bytes ss both.1)

rounded : (version : Version) (n : ℕ) → n ≤ image_limit version → rounded_up n ≤ image_limit version
rounded One n h = omega arith
rounded Two n h = omega arith

-- ## The text

-- a span that is the text of an executable segment
pub record IsTextSpan (code : Option Segment) (t : Span) : Type 0 where
  pub segment : Segment
  pub segment_is : code ≡ Some segment
  pub some : t.start < t.end
  pub start_aligned : t.start % 4 ≡ 0
  pub end_aligned : t.end % 4 ≡ 0
  pub after : segment.address ≤ t.start
  pub before : t.end ≤ segment.address + segment.length
  pub few : t.end - t.start ≤ text_limit

pub text-span : (code : Option Segment) (t : Span) → is_text_of code t ≡ true → IsTextSpan code t
text-span None t h = absurd (cc)
text-span (Some s) t h =
    let h5 = and-true _ _ h in
    let h4 = and-true _ _ h5.0 in
    let h3 = and-true _ _ h4.0 in
    let h2 = and-true _ _ h3.0 in
    let h1 = and-true _ _ h2.0 in
    record {
      segment = s;
      segment_is = refl;
      some = lt-true _ _ h1.0;
      start_aligned = eq-true _ _ h1.1;
      end_aligned = eq-true _ _ h2.1;
      after = le-true _ _ h3.1;
      before = le-true _ _ h4.1;
      few = le-true _ _ h5.1;
    }

positive : (s : Segment) → is_code s ≡ true → 0 < s.length
positive s h = lt-true 0 s.length (and-true _ _ h).1

both : (a b : Bool) → a ≡ true → b ≡ true → (a && b) ≡ true
both true b one two = two
both false b one two = absurd (cc)

true-le : (a b : ℕ) → a ≤ b → nat_le a b ≡ true
true-le a b h = grind (arith, nat_tests)

true-lt : (a b : ℕ) → a < b → nat_lt a b ≡ true
true-lt a b h = grind (arith, nat_tests)

true-eq : (a b : ℕ) → a ≡ b → (a == b) ≡ true
true-eq a b h = grind (arith, nat_tests)

lawful : (version : Version) (start end k : ℕ) → start % 4 ≡ 0 → end % 4 ≡ 0 → range_start ≤ start → start < end → end ≤ image_limit version
    → end - start ≤ text_limit → 1 ≤ k → k ≤ 65_536
    → IsTrue (is_lawful (record { text_start = start; text_end = end; regions = k; version = version }))
lawful version start end k a b c d e f g h =
    both _ _ (both _ _ (both _ _ (both _ _ (both _ _ (both _ _ (both _ _ (true-eq _ _ a) (true-eq _ _ b)) (true-le _ _ c)) (true-lt _ _ d)) (true-le _ _ e))
    (true-le _ _ f)) (true-le _ _ g)) (true-le _ _ h)

-- an aligned address of a span
pub record IsEntry (t : Span) (entry : ℕ) : Type 0 where
  pub after : t.start ≤ entry
  pub before : entry < t.end
  pub aligned : entry % 4 ≡ 0

pub entry-of : (t : Span) (entry : ℕ) → is_entry_of t entry ≡ true → IsEntry t entry
entry-of t entry h =
    let h2 = and-true _ _ h in
    let h1 = and-true _ _ h2.0 in
    record { after = le-true _ _ h1.0; before = lt-true _ _ h1.1; aligned = eq-true _ _ h2.1 }

text-facts : (bytes : List ℕ) (code : Option Segment) → text_refusal bytes code ≡ None
    → IsTextSpan code (text_span bytes code) × IsEntry (text_span bytes code) (file_header bytes).e_entry
text-facts bytes code none =
    let h = file_header bytes in
    let t = text_span bytes code in
    let later = cond (not (is_text_of code t)) (Some Text) (cond (not (is_entry_of t h.e_entry)) (Some Entry) None) in
    let t1 = past (not (holds_sections h (length bytes))) Sections later none in
    let t2 = past (not (is_text_of code t)) Text (cond (not (is_entry_of t h.e_entry)) (Some Entry) None) t1.1 in
    let t3 = past (not (is_entry_of t h.e_entry)) Entry None t2.1 in
    (text-span code t (not-false (is_text_of code t) t2.0), entry-of t h.e_entry (not-false (is_entry_of t h.e_entry) t3.0))

-- ## The image

segments-apart : (bytes : List ℕ) (version : Version) → entries_refusal bytes version ≡ None
    → are_misplaced (image_limit version) (length bytes) (segments_of bytes) ≡ false
segments-apart bytes version none =
    let e1 = past _ Dynamic _ none in
    let e2 = past _ Already _ e1.1 in
    (past _ Misplaced _ e2.1).0

-- an image of these parts is one
pub built : (bytes : List ℕ) (version : Version) (image : Image) (t : Span) → length bytes ≤ opened_limit
    → length image.segments ≤ 64
    → list_any (is_misplaced (image_limit version) (length bytes)) image.segments ≡ false → starts_early image.segments ≡ false
    → IsTextSpan (code_of image.segments) t → IsEntry t image.entry
    → t.start ≡ image.text_start → t.end ≡ image.text_end → image.break_start ≡ rounded_up (highest_end image.segments)
    → IsImage bytes version image
built bytes version image t few_bytes few apart ordered text entry start end break =
    let code = text.segment in
    let code_placed : IsPlaced (image_limit version) bytes code =
    placed (image_limit version) bytes code
    (find-fails is_code (is_misplaced (image_limit version) (length bytes)) image.segments code apart text.segment_is) in
    let some_code : 0 < code.length = positive code (find-passes is_code image.segments code text.segment_is) in
    let in_file : code.offset + code.length ≤ length bytes = code_placed.in_file some_code in
    let fits : code.length ≤ code.size = code_placed.fits in
    let above : range_start ≤ code.address = code_placed.above in
    let below : code.address + code.size ≤ image_limit version = code_placed.below in
    let after : code.address ≤ image.text_start = rw (← start) text.after in
    let before : image.text_end ≤ code.address + code.length = rw (← end) text.before in
    let some : image.text_start < image.text_end = rw (← start, ← end) text.some in
    let few_words : image.text_end - image.text_start ≤ text_limit = rw (← start, ← end) text.few in
    let start_aligned : image.text_start % 4 ≡ 0 = rw (← start) text.start_aligned in
    let end_aligned : image.text_end % 4 ≡ 0 = rw (← end) text.end_aligned in
    let text_above : range_start ≤ image.text_start = omega (arith, above, after) in
    let text_below : image.text_end ≤ image_limit version = omega (arith, before, fits, below) in
    record {
      few_bytes = few_bytes;
      few_segments = few;
      placed = all-placed (image_limit version) bytes image.segments apart;
      ascending = ascending image.segments ordered;
      text = record {
        code = code;
        code_is = text.segment_is;
        in_file = in_file;
        after = after;
        before = before;
        some = some;
        few = few_words;
        start_aligned = start_aligned;
        end_aligned = end_aligned;
      };
      text_above = text_above;
      text_below = text_below;
      lawful = λ k g h. lawful version image.text_start image.text_end k start_aligned end_aligned text_above some text_below few_words g h;
      entry_after = rw (← start) entry.after;
      entry_before = rw (← end) entry.before;
      entry_aligned = entry.aligned;
      break_is = break;
      break_below = rw break (rounded version (highest_end image.segments) (highest (image_limit version) bytes image.segments apart));
    }

-- a file that no reason speaks against has its image
pub IsImage-from_none : (bytes : List ℕ) (version : Version) → first_refusal bytes version ≡ None → IsImage bytes version (image_of bytes)
unfolding first_refusal image_of
IsImage-from_none bytes version none =
    let groups = otherwise-none (header_refusal bytes) _ none in
    let later = otherwise-none (entries_refusal bytes version) (text_refusal bytes (code_of (segments_of bytes))) groups.1 in
    let table = HasTable-from bytes groups.0 in
    let few = table.few in
    let apart = or-false-both (list_any (is_misplaced (image_limit version) (length bytes)) (segments_of bytes)) (starts_early (segments_of bytes))
    (segments-apart bytes version later.0) in
    let text = text-facts bytes (code_of (segments_of bytes)) later.1 in
    built bytes version (image_of bytes) (text_span bytes (code_of (segments_of bytes))) (omega (arith, table.few_bytes))
    (omega (arith, few-segments (file_header bytes).e_phoff (file_header bytes).e_phnum bytes, few)) apart.0 apart.1 text.0 text.1 refl refl refl

pub judged-ok : (r : Option Refusal) (image other : Image) → judged r image ≡ Ok other → (r ≡ None) × (image ≡ other)
judged-ok None image other h = (refl, cc)
judged-ok (Some e) image other h = absurd (cc)

-- what the profile gives is an image
pub IsImage-from_profile : (bytes : List ℕ) (version : Version) (image : Image) → profile bytes version ≡ Ok image → IsImage bytes version image
IsImage-from_profile bytes version image given =
    let same = judged-ok (first_refusal bytes version) (image_of bytes) image given in
    subst (λ (i : Image). IsImage bytes version i) same.1 (IsImage-from_none bytes version same.0)

-- ## The order of the groups

pub refused-by_header : (bytes : List ℕ) (version : Version) (e : Refusal) → header_refusal bytes ≡ Some e → first_refusal bytes version ≡ Some e
unfolding first_refusal
refused-by_header bytes version e h = rw h refl

pub refused-by_entries : (bytes : List ℕ) (version : Version) (e : Refusal) → header_refusal bytes ≡ None → entries_refusal bytes version ≡ Some e
    → first_refusal bytes version ≡ Some e
unfolding first_refusal
refused-by_entries bytes version e none h = rw (none, h) refl

pub refused-by_text : (bytes : List ℕ) (version : Version) (answer : Option Refusal) → header_refusal bytes ≡ None → entries_refusal bytes version ≡ None
    → text_refusal bytes (code_of (segments_of bytes)) ≡ answer → first_refusal bytes version ≡ answer
unfolding first_refusal
refused-by_text bytes version answer none later h = rw (none, later, h) refl

one-of-none : (n : ℕ) → n ≡ 0 → cond (not (n == 1)) (Some NoText) None ≡ None → ⊥
one-of-none n is h = absurd (let some : Some NoText ≡ None = rw is at h in cc)

-- where the entries give no reason, there is an executable segment
has-code : (bytes : List ℕ) (version : Version) → entries_refusal bytes version ≡ None → code_of (segments_of bytes) ≡ None → ⊥
has-code bytes version none missing =
    let e1 = past _ Dynamic _ none in
    let e2 = past _ Already _ e1.1 in
    one-of-none (count_by is_code (segments_of bytes)) (count-none (segments_of bytes) missing) (past _ Misplaced _ e2.1).1

answered-err : (r : Option Refusal) (code : Option Segment) (e : Refusal) → (r ≡ None → code ≡ None → ⊥) → answered r code ≡ Err e → r ≡ Some e
answered-err (Some f) code e some h = cc
answered-err None (Some s) e some h = absurd (cc)
answered-err None None e some h = absurd (some refl refl)

answered-ok : (r : Option Refusal) (code : Option Segment) (s : Segment) → answered r code ≡ Ok s → (r ≡ None) × (code ≡ Some s)
answered-ok (Some f) code s h = absurd (cc)
answered-ok None (Some t) s h = (refl, cc)
answered-ok None None s h = absurd (cc)

pub scan-refuses : (bytes : List ℕ) (version : Version) (scan : Scan) (e : Refusal)
    → IsScan (image_limit version) bytes (file_header bytes).e_phoff (file_header bytes).e_phnum scan → Err e ≡ scan_answer scan → entries_refusal bytes version ≡ Some e
scan-refuses bytes version scan e h is =
    answered-err (entries_refusal bytes version) (code_of (segments_of bytes)) e (has-code bytes version)
    (sym (scan_answer-is bytes version scan h) ∙ sym is)

pub scan-finds : (bytes : List ℕ) (version : Version) (scan : Scan) (s : Segment)
    → IsScan (image_limit version) bytes (file_header bytes).e_phoff (file_header bytes).e_phnum scan → Ok s ≡ scan_answer scan
    → (entries_refusal bytes version ≡ None) × (code_of (segments_of bytes) ≡ Some s)
scan-finds bytes version scan s h is =
    answered-ok (entries_refusal bytes version) (code_of (segments_of bytes)) s (sym (scan_answer-is bytes version scan h) ∙ sym is)

-- where neither the header nor the entries give a reason, the text decides
pub text-decides : (bytes : List ℕ) (version : Version) (scan : Scan) (s : Segment) (r : Option Refusal)
    → header_refusal bytes ≡ None → IsScan (image_limit version) bytes (file_header bytes).e_phoff (file_header bytes).e_phnum scan → Ok s ≡ scan_answer scan
    → text_refusal bytes (Some s) ≡ r → first_refusal bytes version ≡ r
text-decides bytes version scan s r none h is given =
    let found = scan-finds bytes version scan s h is in
    refused-by_text bytes version r none found.0 (ap (text_refusal bytes) found.1 ∙ given)

pub highest-fits : (version : Version) (n : ℕ) → rounded_up n ≤ image_limit version → n < 2 ^ 32
highest-fits One n h = omega arith
highest-fits Two n h = omega arith

pub limit-fits : (version : Version) (n : ℕ) → n ≤ image_limit version → n < 2 ^ 32
limit-fits One n h = omega arith
limit-fits Two n h = omega arith

-- the numbers of an accepted file are small
pub Fits-from_none : (bytes : List ℕ) (version : Version) → first_refusal bytes version ≡ None
    → ((text_span bytes (code_of (segments_of bytes))).end < 2 ^ 32) × (highest_end (segments_of bytes) < 2 ^ 32)
unfolding image_of
Fits-from_none bytes version none =
    let h = IsImage-from_none bytes version none in (
      limit-fits version (text_span bytes (code_of (segments_of bytes))).end h.text_below,
      highest-fits version (highest_end (segments_of bytes)) h.break_below,
    )

-- a scan by the numbers that the code has
pub IsScan-at : (limit : ℕ) (bytes : List ℕ) (version : Version) (header : FileHeader) (scan : Scan) → limit ≡ image_limit version
    → header ≡ file_header bytes → IsScan limit bytes header.e_phoff header.e_phnum scan → IsScan (image_limit version) bytes (file_header bytes).e_phoff (file_header bytes).e_phnum scan
IsScan-at limit bytes version header scan same same_header h =
    subst (λ (k : FileHeader). IsScan (image_limit version) bytes k.e_phoff k.e_phnum scan) same_header
    (subst (λ (l : ℕ). IsScan l bytes header.e_phoff header.e_phnum scan) same h)

-- the same by what a scan and the text showed
pub Fits-from_scan : (bytes : List ℕ) (version : Version) (scan : Scan) (s : Segment) (t : Span)
    → header_refusal bytes ≡ None → IsScan (image_limit version) bytes (file_header bytes).e_phoff (file_header bytes).e_phnum scan → Ok s ≡ scan_answer scan
    → text_refusal bytes (Some s) ≡ None → t ≡ text_span bytes (Some s) → (t.end < 2 ^ 32) × (scan.reached < 2 ^ 32)
Fits-from_scan bytes version scan s t none h is given span =
    let found = scan-finds bytes version scan s h is in
    let fits = Fits-from_none bytes version (text-decides bytes version scan s None none h is given) in
    (rw (span, ← found.1) fits.0, rw h.reached fits.1)

pub IsOutline-from_scan : (bytes : List ℕ) (version : Version) (scan : Scan) (s : Segment) (t : Span) (outline : Outline)
    → HasTable bytes → header_refusal bytes ≡ None → IsScan (image_limit version) bytes (file_header bytes).e_phoff (file_header bytes).e_phnum scan → Ok s ≡ scan_answer scan
    → text_refusal bytes (Some s) ≡ None → t ≡ text_span bytes (Some s)
    → outline.header ≡ file_header bytes → outline.text_start ≡ t.start → outline.text_end ≡ t.end → outline.break_start ≡ rounded_up scan.reached
    → IsOutline bytes version outline
IsOutline-from_scan bytes version scan s t outline table none h is given span header start end break =
    let found = scan-finds bytes version scan s h is in
    let same : t ≡ text_span bytes (code_of (segments_of bytes)) = span ∙ ap (text_span bytes) (sym found.1) in
    record {
      table = table;
      accepted = text-decides bytes version scan s None none h is given;
      header = header;
      text_start = start ∙ ap (λ u. u.start) same;
      text_end = end ∙ ap (λ u. u.end) same;
      break_start = break ∙ ap rounded_up h.reached;
    }

-- the image that is made of an outline and the segments
image-is : (bytes : List ℕ) (version : Version) (outline : Outline) (image : Image) → IsOutline bytes version outline
    → image.entry ≡ outline.header.e_entry → image.flags ≡ outline.header.e_flags → image.segments ≡ segments_of bytes
    → image.text_start ≡ outline.text_start → image.text_end ≡ outline.text_end → image.break_start ≡ outline.break_start
    → image ≡ image_of bytes
unfolding image_of
image-is bytes version outline image h entry flags segments start end break = λ i. record {
  entry = (entry ∙ ap (λ x. x.e_entry) h.header) i;
  flags = (flags ∙ ap (λ x. x.e_flags) h.header) i;
  segments = segments i;
  text_start = (start ∙ h.text_start) i;
  text_end = (end ∙ h.text_end) i;
  break_start = (break ∙ h.break_start) i;
}

pub profile-is : (bytes : List ℕ) (version : Version) (outline : Outline) (image : Image) → IsOutline bytes version outline
    → image.entry ≡ outline.header.e_entry → image.flags ≡ outline.header.e_flags → image.segments ≡ segments_of bytes
    → image.text_start ≡ outline.text_start → image.text_end ≡ outline.text_end → image.break_start ≡ outline.break_start
    → profile bytes version ≡ Ok image
profile-is bytes version outline image h entry flags segments start end break =
    rw (image-is bytes version outline image h entry flags segments start end break, h.accepted) refl

-- the segments by the header that an outline keeps
pub segments_of-header : (bytes : List ℕ) (header : FileHeader) (ss : List Segment) → header ≡ file_header bytes
    → ss ≡ segments_in (first_entries header.e_phoff header.e_phnum bytes) → ss ≡ segments_of bytes
segments_of-header bytes header ss same is = is ∙ ap (λ (h : FileHeader). segments_in (first_entries h.e_phoff h.e_phnum bytes)) same

-- where its table ends
pub inside-header : (bytes : List ℕ) (header : FileHeader) → header ≡ file_header bytes → HasTable bytes → header.e_phoff + 56 * header.e_phnum ≤ length bytes
inside-header bytes header same h = rw same h.inside
