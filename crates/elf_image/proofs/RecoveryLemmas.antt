-- What follows where neither the record nor the image of a rewritten file is damaged.
use Rattle.std.proofs.Common.{◌≡◌, ℕ, ◌+◌, ◌-◌, ◌*◌, ◌^◌, ◌==◌, ◌<◌, ◌≤◌, ◌&&◌, ◌||◌, Bool, true, false, not, nat_lt, nat_le, if◌then◌else◌, List, length, count_by, Option, Some, None, Ok, refl, sym, ap, subst, arith, ◌∙◌}
use Rattle.std.specs.List.{list_any}
use Rattle.std.proofs.lemmas.Bool.Decides.{nat_tests}
use Rattle.spec_base.specs.declared.layout.Layout.{Layout}
use Rattle.spec_base.specs.declared.layout.Version.{Version}
use Rattle.spec_base.specs.Layout.{image_limit}
use Rattle.elf_image.specs.Fields.{xword_at}
use Rattle.elf_image.specs.Header.{file_header, has_plain_flags}
use Rattle.elf_image.specs.declared.segments.Segment.{Segment}
use Rattle.elf_image.specs.declared.image.Image.{Image}
use Rattle.elf_image.specs.declared.recovery.Part.TheVariants as part
use Rattle.elf_image.specs.declared.recovery.Recovered.{Recovered}
use Rattle.elf_image.specs.Segments.{first_entries, segments_in, is_passed_over, is_misplaced, starts_early, are_misplaced, is_record, is_code, highest_end}
use Rattle.elf_image.specs.Sections.{is_text_of, is_entry_of}
use Rattle.elf_image.specs.Profile.{code_of, rounded_up}
use Rattle.elf_image.specs.Scan.{IsScan}
use Rattle.elf_image.specs.Image.{IsImage, opened_limit}
use Rattle.elf_image.specs.Recovery.{IsFront, IsRecovered, RecoversAs, holds_entries, holds_record, holds_front, holds_image, shows_image, record_entry, recorded_layout, carried_entries, carried_segments, carried_reach, recorded_text, carried_image, carried, front_damage}
use Rattle.elf_image.specs.declared.header.FileHeader.{FileHeader}
use Rattle.elf_image.specs.declared.scan.Scan.{Scan}
use Rattle.elf_image.specs.declared.sections.Span.{Span}
use Rattle.elf_image.specs.declared.segments.ProgramHeader.{ProgramHeader}
use Rattle.elf_image.proofs.TestLemmas.{and-true, not-false, or-false-both}
use Rattle.elf_image.proofs.Accepted.{built, text-span, entry-of, few-segments, limit-fits, highest-fits}

not-true : (b : Bool) → not b ≡ true → b ≡ false
not-true false h = refl
not-true true h = absurd (cc)

le-true : (a b : ℕ) → nat_le a b ≡ true → a ≤ b
le-true a b h = grind (arith, nat_tests)

lt-true : (a b : ℕ) → nat_lt a b ≡ true → a < b
lt-true a b h = grind (arith, nat_tests)

pub IsFront-from : (bytes : List ℕ) → holds_front bytes ≡ true → IsFront bytes
IsFront-from bytes h =
    let h3 = and-true _ _ h in
    let h2 = and-true _ _ h3.0 in
    let h1 = and-true _ _ h2.0 in
    let entries = h2.1 in
    let e4 = and-true _ _ entries in
    let e3 = and-true _ _ e4.0 in
    let e2 = and-true _ _ e3.0 in
    let r6 = and-true _ _ h3.1 in
    let r5 = and-true _ _ r6.0 in
    let r4 = and-true _ _ r5.0 in
    let r3 = and-true _ _ r4.0 in
    let r2 = and-true _ _ r3.0 in
    let some : 8 < (file_header bytes).e_phnum = lt-true 8 _ e2.1 in
    record {
      few_bytes = le-true _ _ h1.0;
      has_header = le-true _ _ h1.1;
      some = omega (arith, some);
      few = le-true _ _ e3.1;
      inside = le-true _ _ e4.1;
      record_inside = le-true _ _ r2.1;
      some_regions = le-true _ _ r5.1;
      few_regions = le-true _ _ r6.1;
    }

-- a scan of the image's entries shows the image
pub shows-holds : (bytes : List ℕ) (scan : Scan) → IsScan (image_limit (recorded_layout bytes).version) bytes 120 ((file_header bytes).e_phnum - 8) scan
    → shows_image scan (file_header bytes) (recorded_text bytes) ≡ holds_image bytes
unfolding holds_image
shows-holds bytes scan h = rw (h.skipped, h.misplaced, h.code_segments, h.code) refl

-- the same by the numbers that the code has
pub shows-at : (limit count stop : ℕ) (bytes : List ℕ) (header : FileHeader) (layout : Layout) (scan : Scan) (shown : Bool)
    → limit ≡ image_limit layout.version → count ≡ header.e_phnum - 8 → stop ≡ layout.text_end
    → header ≡ file_header bytes → layout ≡ recorded_layout bytes
    → IsScan limit bytes 120 count scan
    → shown ≡ shows_image scan header (record { start = layout.text_start; end = stop })
    → (shown ≡ holds_image bytes) × (scan.reached ≡ carried_reach bytes)
shows-at limit count stop bytes header layout scan shown is_limit is_count is_stop is_header is_layout h is =
    let n : count ≡ (file_header bytes).e_phnum - 8 = is_count ∙ ap (λ (k : FileHeader). k.e_phnum - 8) is_header in
    let l : limit ≡ image_limit (recorded_layout bytes).version = is_limit ∙ ap (λ (k : Layout). image_limit k.version) is_layout in
    let there : IsScan (image_limit (recorded_layout bytes).version) bytes 120 ((file_header bytes).e_phnum - 8) scan =
    subst (λ (k : ℕ). IsScan k bytes 120 ((file_header bytes).e_phnum - 8) scan) l (subst (λ (k : ℕ). IsScan limit bytes 120 k scan) n h) in (
      is ∙ ap (λ (e : ℕ). shows_image scan header (record { start = layout.text_start; end = e })) is_stop
          ∙ ap (λ (k : FileHeader). shows_image scan k (record { start = layout.text_start; end = layout.text_end })) is_header
          ∙ ap (λ (k : Layout). shows_image scan (file_header bytes) (record { start = k.text_start; end = k.text_end })) is_layout
          ∙ shows-holds bytes scan there,
      there.reached,
    )

pub IsImage-carried : (bytes : List ℕ) → IsFront bytes → holds_image bytes ≡ true → IsImage bytes (recorded_layout bytes).version (carried_image bytes)
unfolding holds_image
IsImage-carried bytes front h =
    let h5 = and-true _ _ h in
    let h4 = and-true _ _ h5.0 in
    let h3 = and-true _ _ h4.0 in
    let h2 = and-true _ _ h3.0 in
    let version : Version = (recorded_layout bytes).version in
    let apart = or-false-both (list_any (is_misplaced (image_limit version) (length bytes)) (carried_segments bytes)) (starts_early (carried_segments bytes))
    (not-true _ h2.1) in
    built bytes version (carried_image bytes) (recorded_text bytes) front.few_bytes
    (omega (arith, few-segments 120 ((file_header bytes).e_phnum - 8) bytes, front.few)) apart.0 apart.1
    (text-span (code_of (carried_segments bytes)) (recorded_text bytes) h4.1) (entry-of (recorded_text bytes) (file_header bytes).e_entry h5.1)
    refl refl refl

-- its numbers are small
pub reach-fits : (bytes : List ℕ) → IsFront bytes → holds_image bytes ≡ true → carried_reach bytes < 2 ^ 32
reach-fits bytes front h = highest-fits (recorded_layout bytes).version (carried_reach bytes) (IsImage-carried bytes front h).break_below

-- ---- what recovering answers

pub record-damaged : (bytes : List ℕ) → holds_front bytes ≡ false → front_damage bytes ≡ Some part.Record
unfolding front_damage
record-damaged bytes h = rw h refl

pub image-damaged : (bytes : List ℕ) → holds_front bytes ≡ true → holds_image bytes ≡ false → front_damage bytes ≡ Some part.Image
unfolding front_damage
image-damaged bytes one two = rw (one, two) refl

pub none-damaged : (bytes : List ℕ) → holds_front bytes ≡ true → holds_image bytes ≡ true → front_damage bytes ≡ None
unfolding front_damage
none-damaged bytes one two = rw (one, two) refl

-- the image that is made of the parts that were read
pub image-is : (bytes : List ℕ) (header : FileHeader) (layout : Layout) (reached : ℕ) (segments : List Segment)
    → header ≡ file_header bytes → layout ≡ recorded_layout bytes → reached ≡ carried_reach bytes
    → segments ≡ segments_in (first_entries 120 (header.e_phnum - 8) bytes)
    → record { entry = header.e_entry; flags = header.e_flags; segments = segments; text_start = layout.text_start; text_end = layout.text_end; break_start = rounded_up reached }
    ≡ carried_image bytes
image-is bytes header layout reached segments is_header is_layout is_reach is_segments =
    let there : segments ≡ carried_segments bytes = is_segments ∙ ap (λ (h : FileHeader). segments_in (first_entries 120 (h.e_phnum - 8) bytes)) is_header in λ i. record {
      entry = (is_header i).e_entry;
      flags = (is_header i).e_flags;
      segments = there i;
      text_start = (is_layout i).text_start;
      text_end = (is_layout i).text_end;
      break_start = rounded_up (is_reach i);
    }

pub carried-is : (bytes : List ℕ) (image : Image) (layout : Layout) → image ≡ carried_image bytes → layout ≡ recorded_layout bytes
    → record { image = image; layout = layout } ≡ carried bytes
unfolding carried
carried-is bytes image layout one two = λ i. record { image = one i; layout = two i }

pub IsImage-is : (bytes : List ℕ) (image : Image) (layout : Layout) → IsFront bytes → holds_image bytes ≡ true
    → image ≡ carried_image bytes → layout ≡ recorded_layout bytes → IsImage bytes layout.version image
IsImage-is bytes image layout front h one two =
    subst (λ (k : Layout). IsImage bytes k.version image) (sym two)
    (subst (λ (k : Image). IsImage bytes (recorded_layout bytes).version k) (sym one) (IsImage-carried bytes front h))

pub IsRecovered-is : (bytes : List ℕ) (image : Image) (layout : Layout) → IsFront bytes → holds_image bytes ≡ true
    → image ≡ carried_image bytes → layout ≡ recorded_layout bytes → IsRecovered bytes (record { image = image; layout = layout })
IsRecovered-is bytes image layout front h one two = record {
  image = IsImage-is bytes image layout front h one two;
  text_start = ap (λ (l : Layout). l.text_start) two ∙ sym (ap (λ (i : Image). i.text_start) one);
  text_end = ap (λ (l : Layout). l.text_end) two ∙ sym (ap (λ (i : Image). i.text_end) one);
  some_regions = subst (λ (l : Layout). 1 ≤ l.regions) (sym two) front.some_regions;
  few_regions = subst (λ (l : Layout). l.regions ≤ 65_536) (sym two) front.few_regions;
}

-- ---- what is recovered

none-front : (front image : Bool) → (if not front then Some part.Record else if not image then Some part.Image else None) ≡ None → (front ≡ true) × (image ≡ true)
none-front true true h = (refl, refl)
none-front true false h = absurd (cc)
none-front false image h = absurd (cc)

both-hold : (bytes : List ℕ) → front_damage bytes ≡ None → (holds_front bytes ≡ true) × (holds_image bytes ≡ true)
unfolding front_damage
both-hold bytes h = none-front (holds_front bytes) (holds_image bytes) h

-- of what a call recovers
pub IsRecovered-from : (bytes : List ℕ) (r : Recovered) → RecoversAs bytes (Ok r) → IsRecovered bytes r
unfolding carried
IsRecovered-from bytes r h =
    let both = both-hold bytes h.0 in
    subst (λ (k : Recovered). IsRecovered bytes k) (sym h.1)
    (IsRecovered-is bytes (carried_image bytes) (recorded_layout bytes) (IsFront-from bytes both.0) both.1 refl refl)
