-- The front of a rewritten file and the image that it carries, read back.
use Rattle.std.proofs.Common.{◌≡◌, ℕ, ◌+◌, ◌*◌, ◌-◌, ◌%◌, ◌^◌, ◌==◌, ◌<◌, ◌≤◌, ◌&&◌, ◌||◌, Bool, true, false, not, nat_lt, nat_le, List, [], ◌∷◌, length, map, count_by, Some, None, refl, sym, ap, subst, arith, ◌∙◌, le-leb, lt-ltb, eq-eqb}
use Rattle.std.specs.Prelude.{All}
use Rattle.std.specs.List.{list_any}
use Rattle.std.proofs.lemmas.Bool.Decides.{nat_tests}
use Rattle.std.proofs.lemmas.List.{length-map}
use Rattle.std.proofs.lemmas.List.Elements.{All-nil, All-cons, All-head, All-tail}
use Rattle.spec_base.specs.Layout.{range_start, image_limit, shadow_start}
use Rattle.spec_base.specs.declared.layout.Layout.{Layout}
use Rattle.spec_base.specs.declared.layout.Version.{Version}
use Rattle.spec_base.specs.declared.layout.Version.TheVariants.{One, Two}
use Rattle.elf_image.specs.declared.segments.Segment.{Segment}
use Rattle.elf_image.specs.declared.image.Image.{Image}
use Rattle.elf_image.specs.Fields.{half_at, word_at, xword_at}
use Rattle.elf_image.specs.Header.{file_header, has_plain_flags}
use Rattle.elf_image.specs.Segments.{Entry, first_entries, is_record, is_passed_over, segments_in, starts_early, are_misplaced, is_misplaced, is_code, highest_end}
use Rattle.elf_image.specs.Sections.{is_text_of, is_entry_of}
use Rattle.elf_image.specs.Profile.{code_of, rounded_up}
use Rattle.elf_image.specs.Image.{IsImage, IsPlaced, opened_limit}
use Rattle.elf_image.specs.Recovery.{holds_entries, holds_record, holds_front, holds_image, record_entry, record_field, recorded_layout, recorded_version, carried_entries, carried_segments, carried_image, recorded_text, carried, front_damage}
use Rattle.elf_image.proofs.Passed.{HasPassed, IsNamed}
use Rattle.elf_image.proofs.TestLemmas.{or-false-both}
use Rattle.elf_image.proofs.RecoveryLemmas.{none-damaged}
use Rattle.elf_writer.specs.Headers.{header_bytes, entry_bytes}
use Rattle.elf_writer.specs.FileParts.{FilePart, file_header as put_header, record_entry as put_record_entry, record_start, record_bytes, version_number, table_bytes, entries_from, body_start, segment_part, shadow_parts, file_parts, end_of_part, end_of_parts, file_length, text_count, code_part, helpers_part, stub_part}
use Rattle.elf_writer.specs.Places.{StandsAt}
use Rattle.elf_writer.proofs.FileLemmas.{image_limit-few, file_offset-near, end_of_parts-append}
use Rattle.recovery_laws.specs.Moved.{moved_segments, moved_image}
use Rattle.recovery_laws.proofs.Standing.{StandsAt-front, StandsAt-back, StandsAt-inside, reads-at, back2, back4, back8}
use Rattle.recovery_laws.proofs.Entries.{as_read, FitsFields, FitsEntry, entry-back, read_entries, entries-back, entries_from-append}
use Rattle.recovery_laws.proofs.MovedSegments.{segments-back, none-passed_over, moved-reach, moved-count, moved-text, moved-apart, segments-reach}

-- header, table and record of the rewritten file of an image stand in a file, which has the length that they tell
pub record HasFront (bytes : List ℕ) (image : Image) (l : Layout) (file : List ℕ) : Type 0 where
  pub is_image : IsImage bytes l.version image
  pub passed : HasPassed bytes l.version image
  pub named : All IsNamed image.segments
  pub flags : image.flags < 2 ^ 32
  pub text_start : l.text_start ≡ image.text_start
  pub text_end : l.text_end ≡ image.text_end
  pub some_regions : 1 ≤ l.regions
  pub few_regions : l.regions ≤ 65_536
  pub header : StandsAt 0 (header_bytes (put_header image)) file
  pub table : StandsAt 64 (table_bytes image l) file
  pub record_part : StandsAt (record_start image) (record_bytes l) file
  pub long : length file ≡ file_length image l

both : (a b : Bool) → a ≡ true → b ≡ true → (a && b) ≡ true
both true true h k = refl
both true false h k = k
both false b h k = h

limit-few : (v : Version) → image_limit v ≤ 0x3FF0_0000
limit-few One = omega arith
limit-few Two = omega arith

low-limit : (v : Version) → range_start ≤ image_limit v
low-limit One = omega arith
low-limit Two = omega arith

none-lower : (ss : List Segment) (limit : ℕ) (bytes : List ℕ) → All (IsPlaced limit bytes) ss → list_any (λ t. nat_lt t.address range_start) ss ≡ false
none-lower [] limit bytes placed = refl
none-lower (s ∷ ss) limit bytes placed =
    let above : range_start ≤ s.address = (All-head (IsPlaced limit bytes) s ss placed).above in
    let here : nat_lt s.address range_start ≡ false = grind (arith, nat_tests) in
    rw here (none-lower ss limit bytes (All-tail (IsPlaced limit bytes) s ss placed))

version-back : (v : Version) → recorded_version (version_number v) ≡ v
version-back One = refl
version-back Two = refl

version-small : (v : Version) → version_number v < 2 ^ 64
version-small One = omega arith
version-small Two = omega arith

version-known : (v : Version) → ((version_number v == 1) || (version_number v == 2)) ≡ true
version-known One = refl
version-known Two = refl

part-grows : (cursor : ℕ) (p : FilePart) → cursor ≤ end_of_part cursor p
part-grows cursor p = grind (arith, nat_tests)

part-near : (cursor : ℕ) (p : FilePart) → end_of_part cursor p ≤ cursor + 4095 + p.p_filesz
part-near cursor p = (let offset = file_offset-near cursor p.p_vaddr in grind (arith, nat_tests))

placed-fits : (limit : ℕ) (bytes : List ℕ) (s : Segment) → limit ≤ 0x4000_0000 → IsPlaced limit bytes s → IsNamed s → FitsEntry (segment_part s)
placed-fits limit bytes s few h named = record {
  flags = named.flags;
  address = omega (arith, few, h.below);
  short = omega (arith, few, h.below, h.fits);
  size = omega (arith, few, h.below);
}

pub all-fit : (ss : List Segment) (limit : ℕ) (bytes : List ℕ) → limit ≤ 0x4000_0000 → All (IsPlaced limit bytes) ss → All IsNamed ss → All FitsEntry (map segment_part ss)
all-fit [] limit bytes few placed named = All-nil FitsEntry
all-fit (s ∷ ss) limit bytes few placed named =
    All-cons FitsEntry (segment_part s) (map segment_part ss)
    (placed-fits limit bytes s few (All-head (IsPlaced limit bytes) s ss placed) (All-head IsNamed s ss named))
    (all-fit ss limit bytes few (All-tail (IsPlaced limit bytes) s ss placed) (All-tail IsNamed s ss named))

parts-grow : (ps : List FilePart) (cursor : ℕ) → cursor ≤ end_of_parts cursor ps
parts-grow [] cursor = omega arith
parts-grow (p ∷ ps) cursor = (let here = part-grows cursor p in let later = parts-grow ps (end_of_part cursor p) in omega (arith, here, later))

shadow-end_of : (cursor n : ℕ)
    → end_of_part (end_of_part (end_of_part cursor (code_part shadow_start n)) helpers_part) stub_part ≤ cursor + 3 * 4095 + n + 4 * 282 + 4 * 71
shadow-end_of cursor n =
    let one = part-near cursor (code_part shadow_start n) in
    let two = part-near (end_of_part cursor (code_part shadow_start n)) helpers_part in
    let three = part-near (end_of_part (end_of_part cursor (code_part shadow_start n)) helpers_part) stub_part in
    omega (arith, one, two, three)

some-segment : (ss : List Segment) (s : Segment) → code_of ss ≡ Some s → 0 < length ss
some-segment [] s h = absurd (cc)
some-segment (t ∷ ss) s h = omega arith

module _ (bytes : List ℕ) (image : Image) (l : Layout) (file : List ℕ) (h : HasFront bytes image l file) where
  some : 0 < length image.segments
  some = some-segment image.segments h.is_image.text.code h.is_image.text.code_is

  pub few : length image.segments ≤ 64
  few = h.is_image.few_segments

  pub order : starts_early image.segments ≡ false
  order = (or-false-both (list_any (is_misplaced (image_limit l.version) (length bytes)) image.segments) (starts_early image.segments) h.passed.apart).1

  -- ---- header

  pub phoff : xword_at 32 file ≡ 64
  phoff = reads-at 8 0 32 32 (header_bytes (put_header image)) file refl h.header (omega arith)

  phentsize : half_at 54 file ≡ 56
  phentsize = reads-at 2 0 54 54 (header_bytes (put_header image)) file refl h.header (omega arith)

  pub phnum : half_at 56 file ≡ length image.segments + 8
  phnum = reads-at 2 0 56 56 (header_bytes (put_header image)) file refl h.header (omega arith) ∙ back2 (length image.segments + 8) (omega (arith, few))

  entry-small : image.entry < 2 ^ 64
  entry-small = omega (arith, h.is_image.entry_before, h.is_image.text_below, limit-few l.version)

  pub entry-is : xword_at 24 file ≡ image.entry
  entry-is = reads-at 8 0 24 24 (header_bytes (put_header image)) file refl h.header (omega arith) ∙ back8 image.entry entry-small

  pub flags-is : word_at 48 file ≡ image.flags
  flags-is = reads-at 4 0 48 48 (header_bytes (put_header image)) file refl h.header (omega arith) ∙ back4 image.flags h.flags

  -- ---- the record

  record-fits : FitsFields (put_record_entry image)
  record-fits = record {
    p_type = omega arith;
    p_flags = omega arith;
    p_offset = omega (arith, few);
    p_vaddr = omega arith;
    p_filesz = omega arith;
    p_memsz = omega arith;
  }

  pub record-is : record_entry file ≡ as_read (put_record_entry image)
  record-is =
      entry-back 64 (put_record_entry image) file record-fits
      (StandsAt-front 64 (entry_bytes (put_record_entry image)) (entries_from (body_start image) (file_parts image l)) file h.table)

  -- field n of the record is what stands there
  field-is : (n v : ℕ) → xword_at (8 * n) (record_bytes l) ≡ v → 8 * n + 8 ≤ 40 → record_field file n ≡ v
  field-is n v e inside =
      ap (λ (p : Entry). xword_at (p.p_offset + 8 * n) file) record-is
      ∙ reads-at 8 (record_start image) (8 * n) (record_start image + 8 * n) (record_bytes l) file refl h.record_part inside ∙ e

  magic-is : xword_at (record_entry file).p_offset file ≡ 0x544E494843455053
  magic-is =
      ap (λ (p : Entry). xword_at p.p_offset file) record-is
      ∙ reads-at 8 (record_start image) 0 (record_start image) (record_bytes l) file (omega arith) h.record_part (omega arith)

  start-small : l.text_start < 2 ^ 64
  start-small = omega (arith, h.text_start, h.is_image.text.some, h.is_image.text_below, limit-few l.version)

  end-small : l.text_end < 2 ^ 64
  end-small = omega (arith, h.text_end, h.is_image.text_below, limit-few l.version)

  version-is : record_field file 1 ≡ version_number l.version
  version-is = field-is 1 (version_number l.version) (back8 (version_number l.version) (version-small l.version)) (omega arith)

  regions-is : record_field file 4 ≡ l.regions
  regions-is = field-is 4 l.regions (back8 l.regions (omega (arith, h.few_regions))) (omega arith)

  pub layout-is : recorded_layout file ≡ l
  layout-is =
      let start : record_field file 2 ≡ l.text_start = field-is 2 l.text_start (back8 l.text_start start-small) (omega arith) in
      let end : record_field file 3 ≡ l.text_end = field-is 3 l.text_end (back8 l.text_end end-small) (omega arith) in
      let version : recorded_version (record_field file 1) ≡ l.version = ap recorded_version version-is ∙ version-back l.version in
      λ i. record { text_start = start i; text_end = end i; regions = regions-is i; version = version i }

  -- ---- its length

  pub cursor-first : body_start image ≤ 4136
  cursor-first = omega (arith, few)

  segments-end : end_of_parts (body_start image) (map segment_part image.segments) ≤ 4136 + 4095 * 64 + 0x3FF0_0000
  segments-end =
      let reach = segments-reach image.segments (body_start image) range_start (image_limit l.version) bytes h.is_image.placed order (low-limit l.version)
      (none-lower image.segments (image_limit l.version) bytes h.is_image.placed) in
      omega (arith, reach, few, cursor-first, limit-few l.version)

  pub text-few : l.text_end - l.text_start ≤ 1_048_576
  text-few = omega (arith, h.text_start, h.text_end, h.is_image.text.few)

  length-is : length file ≡ end_of_parts (end_of_parts (body_start image) (map segment_part image.segments)) (shadow_parts l)
  length-is = h.long ∙ end_of_parts-append (body_start image) (map segment_part image.segments) (shadow_parts l)

  shadow-end : (cursor : ℕ) → end_of_parts cursor (shadow_parts l) ≤ cursor + 3 * 4095 + 64 * (text_count l + 1) + 4 * 282 + 4 * 71
  shadow-end cursor = shadow-end_of cursor (64 * (text_count l + 1))

  shadow-grows : (cursor : ℕ) → cursor ≤ end_of_parts cursor (shadow_parts l)
  shadow-grows cursor = parts-grow (shadow_parts l) cursor

  pub few-bytes : length file ≤ opened_limit
  few-bytes = omega (arith, length-is, segments-end, shadow-end (end_of_parts (body_start image) (map segment_part image.segments)), text-few)

  inside : end_of_parts (body_start image) (map segment_part image.segments) ≤ length file
  inside = omega (arith, length-is, shadow-grows (end_of_parts (body_start image) (map segment_part image.segments)))

  record-inside : record_start image + 40 ≤ length file
  record-inside = StandsAt-inside (record_start image) (record_bytes l) file (omega arith) h.record_part

  -- ---- the front holds

  entries-hold : holds_entries (file_header file) (length file) ≡ true
  entries-hold =
      both _ _ (both _ _ (both _ _ (both _ _ (eq-eqb _ _ phoff) (eq-eqb _ _ phentsize)) (lt-ltb 8 _ (omega (arith, phnum, some))))
      (le-leb _ 72 (omega (arith, phnum, few))))
      (le-leb _ _ (omega (arith, phnum, record-inside)))

  record-holds : holds_record file (record_entry file) ≡ true
  record-holds =
      let type : is_record (record_entry file) ≡ true = ap is_record record-is in
      let forty : ((record_entry file).p_filesz == 40) ≡ true = ap (λ (p : Entry). p.p_filesz == 40) record-is in
      let ends : nat_le ((record_entry file).p_offset + 40) (length file) ≡ true =
      ap (λ (p : Entry). nat_le (p.p_offset + 40) (length file)) record-is ∙ le-leb _ _ record-inside in
      let known : ((record_field file 1 == 1) || (record_field file 1 == 2)) ≡ true =
      ap (λ n. (n == 1) || (n == 2)) version-is ∙ version-known l.version in
      let one : nat_le 1 (record_field file 4) ≡ true = le-leb _ _ (omega (arith, regions-is, h.some_regions)) in
      let most : nat_le (record_field file 4) 65_536 ≡ true = le-leb _ _ (omega (arith, regions-is, h.few_regions)) in
      both _ _ (both _ _ (both _ _ (both _ _ (both _ _ (both _ _ type forty) ends) (eq-eqb _ _ magic-is)) known) one) most

  pub front-holds : holds_front file ≡ true
  front-holds =
      both _ _ (both _ _ (both _ _ (le-leb _ _ few-bytes) (le-leb _ _ (omega (arith, record-inside)))) entries-hold) record-holds

  -- ---- the image

  pub entries-stand : StandsAt 120 (entries_from (body_start image) (file_parts image l)) file
  entries-stand = StandsAt-back 64 56 (entry_bytes (put_record_entry image)) (entries_from (body_start image) (file_parts image l)) file refl h.table

  table-stands : StandsAt 120 (entries_from (body_start image) (map segment_part image.segments)) file
  table-stands =
      StandsAt-front 120 (entries_from (body_start image) (map segment_part image.segments))
      (entries_from (end_of_parts (body_start image) (map segment_part image.segments)) (shadow_parts l)) file
      (subst (λ w. StandsAt 120 w file) (entries_from-append (map segment_part image.segments) (shadow_parts l) (body_start image)) entries-stand)

  pub entries-are : carried_entries file ≡ read_entries (body_start image) (map segment_part image.segments)
  entries-are =
      let count : half_at 56 file - 8 ≡ length (map segment_part image.segments) = omega (arith, phnum, length-map image.segments segment_part) in
      ap (λ n. first_entries 120 n file) count
      ∙ entries-back (map segment_part image.segments) (body_start image) 0 120 file
      (all-fit image.segments (image_limit l.version) bytes (image_limit-few l.version) h.is_image.placed h.named)
      (omega (arith, cursor-first)) (omega (arith, few, length-map image.segments segment_part)) table-stands

  pub segments-are : carried_segments file ≡ moved_segments (body_start image) image.segments
  segments-are = ap segments_in entries-are ∙ segments-back image.segments (body_start image) h.named

  text-is : recorded_text file ≡ record { start = image.text_start; end = image.text_end }
  text-is =
      ap (λ (k : Layout). record { start = k.text_start; end = k.text_end }) layout-is
      ∙ (λ i. record { start = h.text_start i; end = h.text_end i })

  pub image-holds : holds_image file ≡ true
  unfolding holds_image
  image-holds =
      let moved = moved_segments (body_start image) image.segments in
      let none : list_any is_passed_over (carried_entries file) ≡ false =
      ap (list_any is_passed_over) entries-are ∙ none-passed_over image.segments (body_start image) h.named in
      let plain : has_plain_flags (file_header file) ≡ true = ap (λ n. n % 16 == 0) flags-is ∙ h.passed.plain_flags in
      let apart : are_misplaced (image_limit (recorded_layout file).version) (length file) (carried_segments file) ≡ false =
      ap (λ (k : Layout). are_misplaced (image_limit k.version) (length file) (carried_segments file)) layout-is
      ∙ ap (are_misplaced (image_limit l.version) (length file)) segments-are
      ∙ moved-apart image.segments (image_limit l.version) (body_start image) (length file) bytes h.is_image.placed order inside in
      let one : (count_by is_code (carried_segments file) == 1) ≡ true =
      ap (λ ss. count_by is_code ss == 1) segments-are ∙ ap (λ n. n == 1) (moved-count image.segments (body_start image)) ∙ h.passed.one in
      let text : is_text_of (code_of (carried_segments file)) (recorded_text file) ≡ true =
      ap (λ ss. is_text_of (code_of ss) (recorded_text file)) segments-are ∙ ap (is_text_of (code_of moved)) text-is
      ∙ moved-text image.segments (body_start image) (record { start = image.text_start; end = image.text_end }) ∙ h.passed.text in
      let entry : is_entry_of (recorded_text file) (file_header file).e_entry ≡ true =
      ap (λ t. is_entry_of t (file_header file).e_entry) text-is
      ∙ ap (is_entry_of (record { start = image.text_start; end = image.text_end })) entry-is ∙ h.passed.entry in
      both _ _ (both _ _ (both _ _ (both _ _ (both _ _ (ap not none) plain) (ap not apart)) one) text) entry

  pub undamaged : front_damage file ≡ None
  undamaged = none-damaged file front-holds image-holds

  break-is : rounded_up (highest_end (carried_segments file)) ≡ image.break_start
  break-is =
      ap (λ ss. rounded_up (highest_end ss)) segments-are
      ∙ ap rounded_up (moved-reach image.segments (body_start image)) ∙ sym h.is_image.break_is

  image-is : carried_image file ≡ moved_image image
  image-is =
      let start : (recorded_layout file).text_start ≡ image.text_start = ap (λ (k : Layout). k.text_start) layout-is ∙ h.text_start in
      let end : (recorded_layout file).text_end ≡ image.text_end = ap (λ (k : Layout). k.text_end) layout-is ∙ h.text_end in
      λ i. record {
        entry = entry-is i;
        flags = flags-is i;
        segments = segments-are i;
        text_start = start i;
        text_end = end i;
        break_start = break-is i;
      }

  -- the file carries the image, at its offsets there, and the layout
  pub carried-are : carried file ≡ record { image = moved_image image; layout = l }
  unfolding carried
  carried-are = λ i. record { image = image-is i; layout = layout-is i }
