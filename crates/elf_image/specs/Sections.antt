-- The section header table (gABI chapter 4, "Sections"), the text of a file, and the reasons to refuse that they give.
use Rattle.spec_base.specs.Layout.{text_limit}
use Rattle.std.specs.Prelude.{ℕ, zero, suc, ◌+◌, ◌-◌, ◌*◌, ◌%◌, ◌==◌, ◌&&◌, Bool, true, false, not, nat_lt, nat_le, min, max, cond, if◌then◌else◌, List, length, Option, Some, None}
use Rattle.elf_image.specs.Fields.{xword_at, has_bit}
use Rattle.elf_image.specs.Header.{file_header}
use Rattle.elf_image.specs.declared.header.FileHeader.{FileHeader}
use Rattle.elf_image.specs.declared.segments.Segment.{Segment}
use Rattle.elf_image.specs.declared.sections.SectionHeader.{SectionHeader}
use Rattle.elf_image.specs.declared.sections.Span.{Span}
use Rattle.elf_image.specs.declared.refusal.Refusal.{Refusal}
use Rattle.elf_image.specs.declared.refusal.Refusal.TheVariants.{Sections, Text, Entry}

-- where a text may stand
abbrev pub TextSpan : Type 0
TextSpan = Span

-- the fields of the entry at an offset
abbrev pub section_header : ℕ → List ℕ → SectionHeader
section_header at bytes = record { sh_flags = xword_at (at + 8) bytes; sh_addr = xword_at (at + 16) bytes; sh_size = xword_at (at + 32) bytes }

-- entry n of the table
abbrev pub section_at : ℕ → List ℕ → SectionHeader
section_at n bytes = section_header ((file_header bytes).e_shoff + 64 * n) bytes

-- there is no section header table, or it has entries of 64 bytes and ends inside the file
abbrev pub holds_sections : FileHeader → ℕ → Bool
holds_sections h file_length =
    if h.e_shnum == 0 then true
    else ((h.e_shentsize == 64) && nat_le (h.e_shoff + 64 * h.e_shnum) file_length)

-- SHF_ALLOC and SHF_EXECINSTR, and not empty
abbrev pub is_text : SectionHeader → Bool
is_text s = has_bit 1 s.sh_flags && has_bit 2 s.sh_flags && nat_lt 0 s.sh_size

-- the least span that has a section's addresses, and those of a span before it
abbrev pub widened : Option Span → SectionHeader → Span
widened None s = record { start = s.sh_addr; end = s.sh_addr + s.sh_size }
widened (Some t) s = record { start = min t.start s.sh_addr; end = max t.end (s.sh_addr + s.sh_size) }

-- the span after one more section, which counts where it is text
abbrev pub joined : Option Span → SectionHeader → Option Span
joined span s = cond (is_text s) (Some (widened span s)) span

-- from the least sh_addr to the greatest sh_addr + sh_size of those of the first n sections that are text
abbrev pub sections_span : ℕ → List ℕ → Option Span
sections_span zero bytes = None
sections_span (suc n) bytes = joined (sections_span n bytes) (section_at n bytes)

-- the span that the sections give, else that of the file part of the executable segment
abbrev pub chosen : Option Span → Option Segment → Span
chosen (Some t) code = t
chosen None (Some s) = record { start = s.address; end = s.address + s.length }
chosen None None = record { start = 0; end = 0 }

abbrev pub text_span : List ℕ → Option Segment → Span
text_span bytes code = chosen (sections_span (file_header bytes).e_shnum bytes) code

-- not empty, made of aligned words, inside the file part of the executable segment, and at most 1 MiB
abbrev pub is_text_of : Option Segment → Span → Bool
is_text_of None t = false
is_text_of (Some s) t =
    nat_lt t.start t.end && (t.start % 4 == 0) && (t.end % 4 == 0)
    && nat_le s.address t.start && nat_le t.end (s.address + s.length)
    && nat_le (t.end - t.start) text_limit

-- an aligned address of the text
abbrev pub is_entry_of : Span → ℕ → Bool
is_entry_of t entry = nat_le t.start entry && nat_lt entry t.end && (entry % 4 == 0)

-- the first of the reasons 15 to 17 that holds
abbrev pub text_refusal : List ℕ → Option Segment → Option Refusal
text_refusal bytes code =
    let h = file_header bytes in
    let t = text_span bytes code in
    if not (holds_sections h (length bytes)) then Some Sections
    else if not (is_text_of code t) then Some Text
    else if not (is_entry_of t h.e_entry) then Some Entry
    else None
