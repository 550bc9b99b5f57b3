-- What the table of a rewritten file loads: the segments, and the parts of the shadow.
use Rattle.std.proofs.Common.{◌≡◌, ℕ, suc, ◌+◌, ◌*◌, ◌-◌, ◌/◌, ◌^◌, ◌==◌, ◌<◌, ◌≤◌, ◌&&◌, Bool, true, false, not, nat_lt, nat_le, cond, List, [], ◌∷◌, ◌++◌, length, map, find, filter, Option, Some, None, refl, sym, ap, subst, arith, ◌∙◌}
use Rattle.std.specs.Prelude.{All}
use Rattle.std.specs.List.{list_any}
use Rattle.std.proofs.lemmas.Bool.Decides.{nat_tests}
use Rattle.std.proofs.lemmas.List.{map-append}
use Rattle.std.proofs.lemmas.List.Elements.{All-from_recursion, All-append, All-head, All-tail, filter-append}
use Rattle.std.proofs.lemmas.List.Folds.{find-append}
use Rattle.spec_base.specs.Layout.{shadow_start, helpers_start, helper_words, stub_start, stub_words, range_end, image_limit}
use Rattle.spec_base.specs.declared.layout.Layout.{Layout}
use Rattle.spec_base.specs.declared.layout.Version.{Version}
use Rattle.spec_base.specs.declared.layout.Version.TheVariants.{One, Two}
use Rattle.elf_image.specs.declared.segments.Segment.{Segment}
use Rattle.elf_image.specs.declared.image.Image.{Image}
use Rattle.elf_image.specs.Fields.{half_at}
use Rattle.elf_image.specs.Segments.{Entry, first_entries, entries, is_loaded, segment_of, segments_in, end_of, is_code, starts_early}
use Rattle.elf_image.specs.Profile.{code_of}
use Rattle.elf_image.specs.Image.{IsPlaced, words_at}
use Rattle.elf_image.proofs.TestLemmas.{or-false-both, find-fails}
use Rattle.elf_writer.specs.FileParts.{FilePart, part_entry, shadow_part, helpers_part, stub_part, shadow_parts, file_parts, segment_part, end_of_part, end_of_parts, file_offset, body_start, text_count, record_entry}
use Rattle.elf_writer.specs.RewrittenFile.{Code, word_bytes, segment_bytes, shadow_contents, contents}
use Rattle.elf_writer.specs.Places.{StandsAt, PartsStand}
use Rattle.elf_writer.proofs.FileLemmas.{image_limit-few, file_parts-length}
use Rattle.recovery_laws.specs.Moved.{moved_segments}
use Rattle.recovery_laws.specs.OnDisk.{holds_address, words_from, loaded_words, LoadsCode}
use Rattle.recovery_laws.proofs.Standing.{words-back}
use Rattle.recovery_laws.proofs.Entries.{as_read, read_entries, FitsEntry, entries-back, first-cons}
use Rattle.recovery_laws.proofs.MovedSegments.{segments-back}
use Rattle.recovery_laws.proofs.Front.{HasFront, few, order, phoff, phnum, record-is, cursor-first, text-few, all-fit, entries-stand}
use Rattle.recovery_laws.proofs.Body.{at_offset, code-stands}
use Rattle.recovery_laws.specs.Moved.{moved_image}
use Rattle.elf_writer.specs.RewrittenFile.{IsCodeOf}
use Rattle.elf_image.specs.Image.{text_words, words_in}
use Rattle.std.specs.Option.{option_or}

-- ---- the whole table

-- the entries of parts and then of others, as they are read
read_entries-append : (ps qs : List FilePart) (cursor : ℕ) → read_entries cursor (ps ++ qs) ≡ read_entries cursor ps ++ read_entries (end_of_parts cursor ps) qs
read_entries-append [] qs cursor = refl
read_entries-append (p ∷ ps) qs cursor = ap (λ es. as_read (part_entry cursor p) ∷ es) (read_entries-append ps qs (end_of_part cursor p))

segments_in-append : (es fs : List Entry) → segments_in (es ++ fs) ≡ segments_in es ++ segments_in fs
segments_in-append es fs = ap (map segment_of) (filter-append is_loaded es fs) ∙ map-append segment_of (filter is_loaded es) (filter is_loaded fs)

range-few : (v : Version) → range_end v ≤ 0x4000_0000
range-few One = omega arith
range-few Two = omega arith

shadow-fits : (l : Layout) → l.text_end - l.text_start ≤ 1_048_576 → l.regions ≤ 65_536 → All FitsEntry (shadow_parts l)
shadow-fits l few regions =
    let blocks : 64 * (text_count l + 1) ≤ 0x4000_0000 = omega (arith, few) in
    let range = range-few l.version in
    All-from_recursion FitsEntry (shadow_parts l) (
      record { flags = omega arith; address = omega arith; short = blocks; size = omega (arith, blocks) },
      (
        record { flags = omega arith; address = omega arith; short = omega arith; size = omega arith },
        (
          record { flags = omega arith; address = omega arith; short = omega arith; size = omega arith },
          (
            record { flags = omega arith; address = omega arith; short = omega arith; size = omega arith },
            (
              record { flags = omega arith; address = omega arith; short = omega arith; size = omega (arith, range) },
              (
                record { flags = omega arith; address = omega arith; short = omega arith; size = omega (arith, regions) },
                (record { flags = omega arith; address = omega arith; short = omega arith; size = omega (arith, regions) }, tt),
              ),
            ),
          ),
        ),
      ),
    )

-- ---- the segment that an address lies in

-- it isn't in segments that lie elsewhere
none-holds : (ss : List Segment) (a limit cursor : ℕ) (bytes : List ℕ) → All (IsPlaced limit bytes) ss → limit ≤ a → find (holds_address a) (moved_segments cursor ss) ≡ None
none-holds [] a limit cursor bytes placed above = refl
none-holds (s ∷ ss) a limit cursor bytes placed above =
    let p : IsPlaced limit bytes s = All-head (IsPlaced limit bytes) s ss placed in
    rw (outside s.address s.length s.size a limit p.fits p.below above) (none-holds ss a limit (end_of_part cursor (segment_part s)) bytes (All-tail (IsPlaced limit bytes) s ss placed) above)
  where
    outside : (address length size a limit : ℕ) → length ≤ size → address + size ≤ limit → limit ≤ a → (nat_le address a && nat_lt a (address + length)) ≡ false
    outside address length size a limit fits below above = grind (arith, nat_tests)

-- where the segment with the text holds it, no other does
found-by : (b : Bool) (t s : Segment) (ss : List Segment) (a cursor : ℕ) → is_code t ≡ b → t.length ≤ t.size
    → list_any (λ u. nat_lt u.address (end_of t)) ss ≡ false → s.address ≤ a → a < s.address + s.length
    → (code_of ss ≡ Some s → find (holds_address a) (moved_segments (end_of_part cursor (segment_part t)) ss) ≡ code_of (moved_segments (end_of_part cursor (segment_part t)) ss))
    → cond b (Some t) (code_of ss) ≡ Some s
    → find (holds_address a) (moved_segments cursor (t ∷ ss)) ≡ cond b (Some (at_offset t (file_offset cursor t.address))) (code_of (moved_segments (end_of_part cursor (segment_part t)) ss))
found-by true t s ss a cursor is fits apart low high later e =
    let same : t ≡ s = cc in
    let here : (nat_le t.address a && nat_lt a (t.address + t.length)) ≡ true =
    subst (λ (u : Segment). (nat_le u.address a && nat_lt a (u.address + u.length)) ≡ true) (sym same) (inside s.address s.length a low high) in
    rw here refl
  where
    inside : (address length a : ℕ) → address ≤ a → a < address + length → (nat_le address a && nat_lt a (address + length)) ≡ true
    inside address length a low high = grind (arith, nat_tests)
found-by false t s ss a cursor is fits apart low high later e =
    let before : nat_lt s.address (end_of t) ≡ false = find-fails is_code (λ u. nat_lt u.address (end_of t)) ss s apart e in
    rw (outside t.address t.length t.size s.address a fits before low) (later e)
  where
    outside : (address length size next a : ℕ) → length ≤ size → nat_lt next (address + size) ≡ false → next ≤ a → (nat_le address a && nat_lt a (address + length)) ≡ false
    outside address length size next a fits before low = grind (arith, nat_tests)

found-code : (ss : List Segment) (s : Segment) (a cursor limit : ℕ) (bytes : List ℕ) → All (IsPlaced limit bytes) ss → starts_early ss ≡ false
    → code_of ss ≡ Some s → s.address ≤ a → a < s.address + s.length
    → find (holds_address a) (moved_segments cursor ss) ≡ code_of (moved_segments cursor ss)
found-code [] s a cursor limit bytes placed sorted e low high = refl
found-code (t ∷ ss) s a cursor limit bytes placed sorted e low high =
    let apart = or-false-both (list_any (λ u. nat_lt u.address (end_of t)) ss) (starts_early ss) sorted in
    found-by (is_code t) t s ss a cursor refl (All-head (IsPlaced limit bytes) t ss placed).fits apart.0 low high
    (λ k. found-code ss s a (end_of_part cursor (segment_part t)) limit bytes (All-tail (IsPlaced limit bytes) t ss placed) apart.1 k low high) e

-- ---- the parts of the shadow

-- the segment of a part that stands behind a cursor
abbrev segment_at : ℕ → FilePart → Segment
segment_at cursor p = record { address = p.p_vaddr; size = p.p_memsz; flags = p.p_flags; offset = file_offset cursor p.p_vaddr; length = p.p_filesz }

not-empty : (n : ℕ) → not ((64 * (n + 1) == 0) && (64 * (n + 1) == 0)) ≡ true
not-empty n = grind (arith, nat_tests)

module _ (l : Layout) (cursor : ℕ) (few : text_count l ≤ 262_144) where
  abbrev shadow_segments : List Segment
  shadow_segments = segments_in (read_entries cursor (shadow_parts l))

  find-shadow : find (holds_address shadow_start) shadow_segments ≡ Some (segment_at cursor (shadow_part l))
  find-shadow = rw (not-empty (text_count l), holds (text_count l)) refl
    where
      holds : (n : ℕ) → (nat_le shadow_start shadow_start && nat_lt shadow_start (shadow_start + 64 * (n + 1))) ≡ true
      holds n = grind (arith, nat_tests)

  find-helpers : find (holds_address helpers_start) shadow_segments ≡ Some (segment_at (end_of_part cursor (shadow_part l)) helpers_part)
  find-helpers = rw (not-empty (text_count l), before (text_count l) few) refl
    where
      before : (n : ℕ) → n ≤ 262_144 → (nat_le shadow_start helpers_start && nat_lt helpers_start (shadow_start + 64 * (n + 1))) ≡ false
      before n h = grind (arith, nat_tests)

  find-stub : find (holds_address stub_start) shadow_segments ≡ Some (segment_at (end_of_part (end_of_part cursor (shadow_part l)) helpers_part) stub_part)
  find-stub = rw (not-empty (text_count l), before (text_count l) few) refl
    where
      before : (n : ℕ) → n ≤ 262_144 → (nat_le shadow_start stub_start && nat_lt stub_start (shadow_start + 64 * (n + 1))) ≡ false
      before n h = grind (arith, nat_tests)

-- the parts behind the segments stand behind these
parts-behind : (bytes : List ℕ) (image : Image) (words file : List ℕ) (ss : List Segment) (cursor : ℕ) (ps : List FilePart) (cs : List (List ℕ))
    → PartsStand cursor (map segment_part ss ++ ps) (map (segment_bytes bytes image words) ss ++ cs) file
    → PartsStand (end_of_parts cursor (map segment_part ss)) ps cs file
parts-behind bytes image words file [] cursor ps cs h = h
parts-behind bytes image words file (s ∷ ss) cursor ps cs h = parts-behind bytes image words file ss (end_of_part cursor (segment_part s)) ps cs h.2

-- words of 32 bits in each part
pub record HasBits (code : Code) : Type 0 where
  pub shadow : All (λ w. w < 2 ^ 32) code.shadow
  pub helpers : All (λ w. w < 2 ^ 32) code.helpers
  pub stub : All (λ w. w < 2 ^ 32) code.stub

-- words that are loaded from a segment's first address on
loaded-first : (o : Option Segment) (s : Segment) (file words : List ℕ) (n : ℕ) → o ≡ Some s → length words ≡ n → All (λ w. w < 2 ^ 32) words
    → StandsAt s.offset (word_bytes words) file → words_from o file s.address n ≡ words
loaded-first o s file words n is long small h =
    let place : s.offset + (s.address - s.address) ≡ s.offset = omega arith in
    ap (λ k. words_from k file s.address n) is ∙ ap (λ k. words_at k n file) place ∙ ap (λ k. words_at s.offset k file) (sym long)
    ∙ words-back words s.offset file small h

some-of : (a b : Option Segment) (s : Segment) → a ≡ Some s → option_or a b ≡ Some s
some-of a b s e = ap (λ k. option_or k b) e

none-of : (a b : Option Segment) → a ≡ None → option_or a b ≡ b
none-of a b e = ap (λ k. option_or k b) e

words_from-in : (o : Option Segment) (file : List ℕ) (image : Image) → words_from o file image.text_start ((image.text_end - image.text_start) / 4) ≡ words_in o file image
words_from-in None file image = refl
words_from-in (Some s) file image = refl

module _ (bytes : List ℕ) (image : Image) (l : Layout) (code : Code) (file : List ℕ) (h : HasFront bytes image l file)
    (stands : PartsStand (body_start image) (file_parts image l) (contents bytes image code) file) (is : IsCodeOf l code) (bits : HasBits code)
    (text_words-are : text_words file (moved_image image) ≡ code.text) where
  abbrev behind : ℕ
  behind = end_of_parts (body_start image) (map segment_part image.segments)

  abbrev shadow_of : List Segment
  shadow_of = segments_in (read_entries behind (shadow_parts l))

  fits : All FitsEntry (file_parts image l)
  fits =
      All-append FitsEntry (map segment_part image.segments) (shadow_parts l)
      (all-fit image.segments (image_limit l.version) bytes (image_limit-few l.version) h.is_image.placed h.named)
      (shadow-fits l (text-few bytes image l file h) h.few_regions)

  table-is : entries file ≡ as_read (record_entry image) ∷ read_entries (body_start image) (file_parts image l)
  table-is =
      let count : half_at 56 file ≡ suc (length (file_parts image l)) = phnum bytes image l file h ∙ omega (arith, file_parts-length image l) in
      ap (λ n. first_entries n (half_at 56 file) file) (phoff bytes image l file h) ∙ ap (λ n. first_entries 64 n file) count
      ∙ first-cons (length (file_parts image l)) 64 file
      ∙ ap (λ e. e ∷ first_entries 120 (length (file_parts image l)) file) (record-is bytes image l file h)
      ∙ ap (λ es. as_read (record_entry image) ∷ es)
      (entries-back (file_parts image l) (body_start image) 0 120 file fits (omega (arith, cursor-first bytes image l file h))
      (omega (arith, few bytes image l file h, file_parts-length image l)) (entries-stand bytes image l file h))

  segments-loaded : segments_in (entries file) ≡ moved_segments (body_start image) image.segments ++ shadow_of
  segments-loaded =
      ap segments_in table-is
      ∙ ap segments_in (read_entries-append (map segment_part image.segments) (shadow_parts l) (body_start image))
      ∙ segments_in-append (read_entries (body_start image) (map segment_part image.segments)) (read_entries behind (shadow_parts l))
      ∙ ap (λ ss. ss ++ shadow_of) (segments-back image.segments (body_start image) h.named)

  find-is : (a : ℕ) → find (holds_address a) (segments_in (entries file))
      ≡ option_or (find (holds_address a) (moved_segments (body_start image) image.segments)) (find (holds_address a) shadow_of)
  find-is a = ap (find (holds_address a)) segments-loaded ∙ find-append (holds_address a) (moved_segments (body_start image) image.segments) shadow_of

  -- an address above the image is in a part of the shadow
  find-above : (a : ℕ) (s : Segment) → 0x4000_0000 ≤ a → find (holds_address a) shadow_of ≡ Some s → find (holds_address a) (segments_in (entries file)) ≡ Some s
  find-above a s above e =
      find-is a
      ∙ none-of (find (holds_address a) (moved_segments (body_start image) image.segments)) (find (holds_address a) shadow_of)
      (none-holds image.segments a (image_limit l.version) (body_start image) bytes h.is_image.placed (omega (arith, above, image_limit-few l.version))) ∙ e

  few-words : text_count l ≤ 262_144
  few-words = omega (arith, text-few bytes image l file h)

  shadow-stands : PartsStand behind (shadow_parts l) (shadow_contents code) file
  shadow-stands = parts-behind bytes image code.text file image.segments (body_start image) (shadow_parts l) (shadow_contents code) stands

  text-loaded : loaded_words file l.text_start (text_count l) ≡ code.text
  unfolding text_words
  text-loaded =
      let s : Segment = h.is_image.text.code in
      let inside : image.text_start < s.address + s.length = omega (arith, h.is_image.text.some, h.is_image.text.before) in
      let moved = moved_segments (body_start image) image.segments in
      let there = code-stands bytes image code.text file image.segments (body_start image) (shadow_parts l) (shadow_contents code) s stands h.is_image.text.code_is in
      let found : find (holds_address image.text_start) moved ≡ code_of moved =
      found-code image.segments s image.text_start (body_start image) (image_limit l.version) bytes h.is_image.placed (order bytes image l file h)
      h.is_image.text.code_is h.is_image.text.after inside in
      let all : find (holds_address image.text_start) (segments_in (entries file)) ≡ code_of moved =
      find-is image.text_start
      ∙ some-of (find (holds_address image.text_start) moved) (find (holds_address image.text_start) shadow_of) (at_offset s there.offset) (found ∙ there.moved) ∙ sym there.moved in
      ap (λ k. loaded_words file k (text_count l)) h.text_start
      ∙ ap (λ k. loaded_words file image.text_start ((k - l.text_start) / 4)) h.text_end
      ∙ ap (λ k. loaded_words file image.text_start ((image.text_end - k) / 4)) h.text_start
      ∙ ap (λ o. words_from o file image.text_start ((image.text_end - image.text_start) / 4)) all
      ∙ words_from-in (code_of moved) file (moved_image image) ∙ text_words-are

  pub loads-code : LoadsCode file l code
  loads-code = record {
    text = text-loaded;
    shadow =
        loaded-first (find (holds_address shadow_start) (segments_in (entries file))) (segment_at behind (shadow_part l)) file code.shadow (16 * (text_count l + 1))
        (find-above shadow_start (segment_at behind (shadow_part l)) (omega arith) (find-shadow l behind few-words)) is.shadow bits.shadow
        (shadow-stands.1 (omega arith));
    helpers =
        loaded-first (find (holds_address helpers_start) (segments_in (entries file))) (segment_at (end_of_part behind (shadow_part l)) helpers_part) file code.helpers helper_words
        (find-above helpers_start (segment_at (end_of_part behind (shadow_part l)) helpers_part) (omega arith) (find-helpers l behind few-words)) is.helpers bits.helpers
        (shadow-stands.2.1 (omega arith));
    stub =
        loaded-first (find (holds_address stub_start) (segments_in (entries file))) (segment_at (end_of_part (end_of_part behind (shadow_part l)) helpers_part) stub_part) file code.stub stub_words
        (find-above stub_start (segment_at (end_of_part (end_of_part behind (shadow_part l)) helpers_part) stub_part) (omega arith) (find-stub l behind few-words)) is.stub bits.stub
        (shadow-stands.2.2.1 (omega arith));
  }
