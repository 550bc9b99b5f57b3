-- What a rewritten file says of itself, and the first damage of its record or its image (this project's own).
use Rattle.std.specs.Prelude.{◌≡◌, ℕ, ◌+◌, ◌-◌, ◌*◌, ◌==◌, ◌≤◌, ◌&&◌, ◌||◌, Bool, true, false, not, nat_le, nat_lt, if◌then◌else◌, List, length, map, count_by, Option, Some, None, Result, Ok, Err}
use Rattle.std.specs.List.{list_any}
use Rattle.spec_base.specs.Layout.{image_limit}
use Rattle.spec_base.specs.declared.layout.Layout.{Layout}
use Rattle.spec_base.specs.declared.layout.Version.{Version}
use Rattle.spec_base.specs.declared.layout.Version.TheVariants.{One, Two}
use Rattle.elf_image.specs.Fields.{xword_at}
use Rattle.elf_image.specs.Header.{file_header, has_plain_flags}
use Rattle.elf_image.specs.Segments.{program_header, first_entries, is_record, is_passed_over, segments_in, is_code, are_misplaced, highest_end}
use Rattle.elf_image.specs.Sections.{is_text_of, is_entry_of}
use Rattle.elf_image.specs.Profile.{code_of, rounded_up}
use Rattle.elf_image.specs.Image.{IsImage, opened_limit}
use Rattle.elf_image.specs.declared.header.FileHeader.{FileHeader}
use Rattle.elf_image.specs.declared.segments.ProgramHeader.{ProgramHeader}
use Rattle.elf_image.specs.declared.segments.Segment.{Segment}
use Rattle.elf_image.specs.declared.sections.Span.{Span}
use Rattle.elf_image.specs.declared.scan.Scan.{Scan}
use Rattle.elf_image.specs.declared.image.Image.{Image}
use Rattle.elf_image.specs.declared.recovery.Part.{Part}
use Rattle.elf_image.specs.declared.recovery.Part.TheVariants as part
use Rattle.elf_image.specs.declared.recovery.Recovered.{Recovered}
use Rattle.elf_image.specs.declared.recovery.RecoverFault.{RecoverFault}
use Rattle.elf_image.specs.declared.recovery.RecoverFault.TheVariants.{Damaged, NoMemory}

-- ---- the record

-- the table stands behind the header, has 9 to 72 entries of 56 bytes, and ends inside the file
abbrev pub holds_entries : FileHeader → ℕ → Bool
holds_entries h file_length =
    (h.e_phoff == 64) && (h.e_phentsize == 56) && nat_lt 8 h.e_phnum && nat_le h.e_phnum 72 && nat_le (64 + 56 * h.e_phnum) file_length

-- an entry of the record's type, of 40 bytes in the file: SPECHINT, a version, and 1 to 65,536 regions
abbrev pub holds_record : List ℕ → ProgramHeader → Bool
holds_record bytes e =
    is_record e && (e.p_filesz == 40) && nat_le (e.p_offset + 40) (length bytes)
    && (xword_at e.p_offset bytes == 0x544E494843455053)
    && ((xword_at (e.p_offset + 8) bytes == 1) || (xword_at (e.p_offset + 8) bytes == 2))
    && nat_le 1 (xword_at (e.p_offset + 32) bytes) && nat_le (xword_at (e.p_offset + 32) bytes) 65_536

-- the first entry
abbrev pub record_entry : List ℕ → ProgramHeader
record_entry bytes = program_header 64 bytes

-- field n of the record, of 8 bytes, and field 0 is the magic
abbrev pub record_field : List ℕ → ℕ → ℕ
record_field bytes n = xword_at ((record_entry bytes).p_offset + 8 * n) bytes

-- a file of at most 2 GiB with a header, such a table, and a record that the first entry names
abbrev pub holds_front : List ℕ → Bool
holds_front bytes =
    nat_le (length bytes) opened_limit && nat_le 64 (length bytes)
    && holds_entries (file_header bytes) (length bytes) && holds_record bytes (record_entry bytes)

-- what follows
pub record IsFront (bytes : List ℕ) : Type 0 where
  pub few_bytes : length bytes ≤ opened_limit
  pub has_header : 64 ≤ length bytes
  pub some : 9 ≤ (file_header bytes).e_phnum
  pub few : (file_header bytes).e_phnum ≤ 72
  pub inside : 64 + 56 * (file_header bytes).e_phnum ≤ length bytes
  pub record_inside : (record_entry bytes).p_offset + 40 ≤ length bytes
  pub some_regions : 1 ≤ record_field bytes 4
  pub few_regions : record_field bytes 4 ≤ 65_536

-- ---- the image

-- the version with this number, which is 1 or 2
abbrev pub recorded_version : ℕ → Version
recorded_version number = if number == 1 then One else Two

-- the layout, by fields 1 to 4 of the record
abbrev pub recorded_layout : List ℕ → Layout
recorded_layout bytes = record {
  text_start = record_field bytes 2;
  text_end = record_field bytes 3;
  regions = record_field bytes 4;
  version = recorded_version (record_field bytes 1);
}

-- the entries behind the record's, and before the seven of the shadow
abbrev pub carried_entries : List ℕ → List ProgramHeader
carried_entries bytes = first_entries 120 ((file_header bytes).e_phnum - 8) bytes

-- their segments
abbrev pub carried_segments : List ℕ → List Segment
carried_segments bytes = segments_in (carried_entries bytes)

-- the greatest end of one
abbrev pub carried_reach : List ℕ → ℕ
carried_reach bytes = highest_end (carried_segments bytes)

-- where the text stands
abbrev pub recorded_text : List ℕ → Span
recorded_text bytes = record { start = (recorded_layout bytes).text_start; end = (recorded_layout bytes).text_end }

-- these entries are segments of an image that the profile would accept
unfoldable pub holds_image : List ℕ → Bool
holds_image bytes =
    not (list_any is_passed_over (carried_entries bytes))
    && has_plain_flags (file_header bytes)
    && not (are_misplaced (image_limit (recorded_layout bytes).version) (length bytes) (carried_segments bytes))
    && (count_by is_code (carried_segments bytes) == 1)
    && is_text_of (code_of (carried_segments bytes)) (recorded_text bytes)
    && is_entry_of (recorded_text bytes) (file_header bytes).e_entry

-- the same, as a scan shows it
abbrev pub shows_image : Scan → FileHeader → Span → Bool
shows_image scan h t =
    not scan.skipped && has_plain_flags h && not scan.misplaced && (scan.code_segments == 1)
    && is_text_of scan.code t && is_entry_of t h.e_entry

-- the image of these segments
abbrev pub carried_image : List ℕ → Image
carried_image bytes = record {
  entry = (file_header bytes).e_entry;
  flags = (file_header bytes).e_flags;
  segments = carried_segments bytes;
  text_start = (recorded_layout bytes).text_start;
  text_end = (recorded_layout bytes).text_end;
  break_start = rounded_up (carried_reach bytes);
}

-- image and layout
unfoldable pub carried : List ℕ → Recovered
carried bytes = record { image = carried_image bytes; layout = recorded_layout bytes }

-- what holds of a recovered image and its layout
pub record IsRecovered (bytes : List ℕ) (r : Recovered) : Type 0 where
  pub image : IsImage bytes r.layout.version r.image
  pub text_start : r.layout.text_start ≡ r.image.text_start
  pub text_end : r.layout.text_end ≡ r.image.text_end
  pub some_regions : 1 ≤ r.layout.regions
  pub few_regions : r.layout.regions ≤ 65_536

-- ---- damage

-- the record, or else the image, or none of the two
unfoldable pub front_damage : List ℕ → Option Part
front_damage bytes = if not (holds_front bytes) then Some part.Record else if not (holds_image bytes) then Some part.Image else None

-- what a call may answer
abbrev pub RecoversAs : List ℕ → Result Recovered RecoverFault → Type 0
RecoversAs bytes (Ok recovered) = (front_damage bytes ≡ None) × (recovered ≡ carried bytes)
RecoversAs bytes (Err (Damaged p)) = front_damage bytes ≡ Some p
RecoversAs bytes (Err NoMemory) = front_damage bytes ≡ None
