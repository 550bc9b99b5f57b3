-- The program header table (gABI chapter 5, "Program Header"), the segments of a file, and the reasons to refuse that they give.
use Rattle.std.specs.Prelude.{ℕ, zero, suc, ◌+◌, ◌*◌, ◌==◌, ◌&&◌, ◌||◌, Bool, true, false, not, nat_lt, max, if◌then◌else◌, List, [], ◌∷◌, ◌++◌, length, map, filter, count_by, Option, Some, None}
use Rattle.std.specs.List.{list_any}
use Rattle.spec_base.specs.declared.layout.Version.{Version}
use Rattle.spec_base.specs.Layout.{range_start, image_limit}
use Rattle.elf_image.specs.Fields.{word_at, xword_at, has_bit}
use Rattle.elf_image.specs.Header.{file_header}
use Rattle.elf_image.specs.declared.segments.ProgramHeader.{ProgramHeader}
use Rattle.elf_image.specs.declared.segments.Segment.{Segment}
use Rattle.elf_image.specs.declared.refusal.Refusal.{Refusal}
use Rattle.elf_image.specs.declared.refusal.Refusal.TheVariants.{Dynamic, Already, Segment as Misplaced, NoText}

-- an entry of the table, as it is read
abbrev pub Entry : Type 0
Entry = ProgramHeader

-- the fields of the entry at an offset
abbrev pub program_header : ℕ → List ℕ → ProgramHeader
program_header at bytes = record {
  p_type = word_at at bytes;
  p_flags = word_at (at + 4) bytes;
  p_offset = xword_at (at + 8) bytes;
  p_vaddr = xword_at (at + 16) bytes;
  p_filesz = xword_at (at + 32) bytes;
  p_memsz = xword_at (at + 40) bytes;
}

-- entry n of a table at an offset
abbrev pub entry_at : ℕ → ℕ → List ℕ → ProgramHeader
entry_at start n bytes = program_header (start + 56 * n) bytes

-- its first n entries, in order
abbrev pub first_entries : ℕ → ℕ → List ℕ → List ProgramHeader
first_entries start zero bytes = []
first_entries start (suc n) bytes = first_entries start n bytes ++ entry_at start n bytes ∷ []

-- the entries of a file
abbrev pub entries : List ℕ → List ProgramHeader
entries bytes = first_entries (file_header bytes).e_phoff (file_header bytes).e_phnum bytes

-- PT_DYNAMIC or PT_INTERP: the file is linked dynamically
abbrev pub is_dynamic : ProgramHeader → Bool
is_dynamic e = (e.p_type == 2) || (e.p_type == 3)

-- this project's own type: the record of a rewritten file
abbrev pub is_record : ProgramHeader → Bool
is_record e = e.p_type == 0x6053_4831

-- PT_LOAD, and not empty; all other entries are passed over
abbrev pub is_loaded : ProgramHeader → Bool
is_loaded e = (e.p_type == 1) && not ((e.p_filesz == 0) && (e.p_memsz == 0))

abbrev pub is_passed_over : ProgramHeader → Bool
is_passed_over e = not (is_loaded e)

abbrev pub segment_of : ProgramHeader → Segment
segment_of e = record { address = e.p_vaddr; size = e.p_memsz; flags = e.p_flags; offset = e.p_offset; length = e.p_filesz }

-- the segments that entries name, in order
abbrev pub segments_in : List ProgramHeader → List Segment
segments_in es = map segment_of (filter is_loaded es)

-- the segment of an entry, where it has one
abbrev pub piece : Bool → Segment → List Segment
piece true s = s ∷ []
piece false s = []

-- the first address after a segment
abbrev pub end_of : Segment → ℕ
end_of s = s.address + s.size

-- the greatest end of a segment, or 0 where there is none
abbrev pub highest_end : List Segment → ℕ
highest_end [] = 0
highest_end (s ∷ ss) = max (end_of s) (highest_end ss)

-- its file part is longer than it is or isn't in the file, or it doesn't lie in [range_start, limit)
abbrev pub is_misplaced : ℕ → ℕ → Segment → Bool
is_misplaced limit file_length s =
    nat_lt s.size s.length
    || (not (s.length == 0) && nat_lt file_length (s.offset + s.length))
    || nat_lt s.address range_start
    || nat_lt limit (end_of s)

-- some segment starts before the end of one that precedes it
abbrev pub starts_early : List Segment → Bool
starts_early [] = false
starts_early (s ∷ ss) = list_any (λ t. nat_lt t.address (end_of s)) ss || starts_early ss

-- PF_X, and a file part
abbrev pub is_code : Segment → Bool
is_code s = has_bit 0 s.flags && nat_lt 0 s.length

abbrev pub are_misplaced : ℕ → ℕ → List Segment → Bool
are_misplaced limit file_length ss = list_any (is_misplaced limit file_length) ss || starts_early ss

-- the first of the reasons 11 to 14 that holds
abbrev pub entries_refusal : List ℕ → Version → Option Refusal
entries_refusal bytes version =
    let es = entries bytes in
    let ss = segments_in es in
    if list_any is_dynamic es then Some Dynamic
    else if list_any is_record es then Some Already
    else if are_misplaced (image_limit version) (length bytes) ss then Some Misplaced
    else if not (count_by is_code ss == 1) then Some NoText
    else None
