-- The parts of the rewritten file: its header, the entries of its table, and where each part's bytes stand (this project's own; fields and constants by gABI chapters 4 and 5).
use Rattle.std.specs.Prelude.{ℕ, ◌+◌, ◌-◌, ◌*◌, ◌/◌, ◌%◌, ◌==◌, if◌then◌else◌, List, [], ◌∷◌, ◌++◌, length, map, replicate, codes}
use Rattle.spec_base.specs.Layout.{range_end, shadow_start, helpers_start, helper_words, stub_start, stub_words, link_start, link_bytes, table_start, list_start, copies_start}
use Rattle.spec_base.specs.declared.layout.Layout.{Layout}
use Rattle.spec_base.specs.declared.layout.Version.{Version}
use Rattle.spec_base.specs.declared.layout.Version.TheVariants.{One, Two}
use Rattle.elf_image.specs.declared.segments.Segment.{Segment}
use Rattle.elf_image.specs.declared.image.Image.{Image}
use Rattle.elf_writer.specs.declared.header.FileHeader.{FileHeader}
use Rattle.elf_writer.specs.declared.header.ProgramHeader.{ProgramHeader}
use Rattle.elf_writer.specs.declared.part.Part.{Part}
use Rattle.elf_writer.specs.Headers.{xword, entry_bytes}

-- a part of the file, and an entry of its table
abbrev pub FilePart : Type 0
FilePart = Part

abbrev pub FileEntry : Type 0
FileEntry = ProgramHeader

-- ---- constants of the gABI

abbrev pub PT_LOAD : ℕ
PT_LOAD = 1

abbrev pub PF_X : ℕ
PF_X = 1

abbrev pub PF_W : ℕ
PF_W = 2

abbrev pub PF_R : ℕ
PF_R = 4

-- ---- header

-- the record, the image's segments, and seven parts of the shadow
abbrev pub entry_count : Image → ℕ
entry_count image = length image.segments + 8

-- ET_EXEC, EM_RISCV, EV_CURRENT; no section header table
abbrev pub file_header : Image → FileHeader
file_header image = record {
  e_type = 2;
  e_machine = 243;
  e_version = 1;
  e_entry = image.entry;
  e_phoff = 64;
  e_shoff = 0;
  e_flags = image.flags;
  e_ehsize = 64;
  e_phentsize = 56;
  e_phnum = entry_count image;
  e_shentsize = 0;
  e_shnum = 0;
  e_shstrndx = 0;
}

-- ---- the record, behind the table

abbrev pub record_start : Image → ℕ
record_start image = 64 + 56 * entry_count image

abbrev pub version_number : Version → ℕ
version_number One = 1
version_number Two = 2

-- its 40 bytes
abbrev pub record_bytes : Layout → List ℕ
record_bytes l = codes "SPECHINT" ++ xword (version_number l.version) ++ xword l.text_start ++ xword l.text_end ++ xword l.regions

-- its entry, the first one: it is read, and not loaded
abbrev pub record_entry : Image → ProgramHeader
record_entry image = record {
  p_type = 0x60534831;
  p_flags = PF_R;
  p_offset = record_start image;
  p_vaddr = 0;
  p_paddr = 0;
  p_filesz = 40;
  p_memsz = 40;
  p_align = 8;
}

-- ---- the parts, in the order of their entries

-- a segment of the image keeps its flags, place and sizes
abbrev pub segment_part : Segment → Part
segment_part s = record { p_flags = s.flags; p_vaddr = s.address; p_filesz = s.length; p_memsz = s.size }

-- code stands whole in the file
abbrev pub code_part : ℕ → ℕ → Part
code_part address bytes = record { p_flags = PF_X; p_vaddr = address; p_filesz = bytes; p_memsz = bytes }

-- memory that begins as zeros has no bytes in the file
abbrev pub zero_part : ℕ → ℕ → Part
zero_part address bytes = record { p_flags = PF_R + PF_W; p_vaddr = address; p_filesz = 0; p_memsz = bytes }

-- how many words the text has
abbrev pub text_count : Layout → ℕ
text_count l = (l.text_end - l.text_start) / 4

abbrev pub rounded_to_8 : ℕ → ℕ
rounded_to_8 n = (n + 7) / 8 * 8

-- the shadow text: a block of 64 bytes for each word of the text, and one behind them
abbrev pub shadow_part : Layout → Part
shadow_part l = code_part shadow_start (64 * (text_count l + 1))

-- the helpers
abbrev pub helpers_part : Part
helpers_part = code_part helpers_start (4 * helper_words)

-- the stub
abbrev pub stub_part : Part
stub_part = code_part stub_start (4 * stub_words)

-- shadow text, helpers, stub, link, table, list and copies
abbrev pub shadow_parts : Layout → List Part
shadow_parts l =
    shadow_part l
    ∷ helpers_part
    ∷ stub_part
    ∷ zero_part link_start link_bytes
    ∷ zero_part table_start (range_end l.version / 64)
    ∷ zero_part list_start (rounded_to_8 (8 + 4 * l.regions))
    ∷ zero_part copies_start (256 * l.regions) ∷ []

abbrev pub file_parts : Image → Layout → List Part
file_parts image l = map segment_part image.segments ++ shadow_parts l

-- ---- where they stand: a cursor goes through the file

-- behind the record
abbrev pub body_start : Image → ℕ
body_start image = record_start image + 40

-- the least number that isn't below the cursor and has the address's remainder by 4,096
abbrev pub file_offset : ℕ → ℕ → ℕ
file_offset cursor address = cursor + (address % 4096 + 4096 - cursor % 4096) % 4096

-- the cursor after a part
abbrev pub end_of_part : ℕ → Part → ℕ
end_of_part cursor p = if p.p_filesz == 0 then cursor else file_offset cursor p.p_vaddr + p.p_filesz

-- and after some parts
abbrev pub end_of_parts : ℕ → List Part → ℕ
end_of_parts cursor [] = cursor
end_of_parts cursor (p ∷ ps) = end_of_parts (end_of_part cursor p) ps

-- where the file ends
abbrev pub file_length : Image → Layout → ℕ
file_length image l = end_of_parts (body_start image) (file_parts image l)

-- ---- table

abbrev pub part_entry : ℕ → Part → ProgramHeader
part_entry cursor p = record {
  p_type = PT_LOAD;
  p_flags = p.p_flags;
  p_offset = file_offset cursor p.p_vaddr;
  p_vaddr = p.p_vaddr;
  p_paddr = p.p_vaddr;
  p_filesz = p.p_filesz;
  p_memsz = p.p_memsz;
  p_align = 4096;
}

abbrev pub entries_from : ℕ → List Part → List ℕ
entries_from cursor [] = []
entries_from cursor (p ∷ ps) = entry_bytes (part_entry cursor p) ++ entries_from (end_of_part cursor p) ps

abbrev pub table_bytes : Image → Layout → List ℕ
table_bytes image l = entry_bytes (record_entry image) ++ entries_from (body_start image) (file_parts image l)

-- ---- body: each part's content at its place, with zeros before it

abbrev pub placed : ℕ → Part → List ℕ → List ℕ
placed cursor p content = if p.p_filesz == 0 then [] else replicate (file_offset cursor p.p_vaddr - cursor) 0 ++ content

abbrev pub body_from : ℕ → List Part → List (List ℕ) → List ℕ
body_from cursor [] contents = []
body_from cursor (p ∷ ps) [] = []
body_from cursor (p ∷ ps) (content ∷ contents) = placed cursor p content ++ body_from (end_of_part cursor p) ps contents
