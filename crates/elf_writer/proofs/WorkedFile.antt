-- A worked file: that of a text of three words at 0x10078, addi x10,x0,7, addi x17,x0,93 and ecall, computed part by part.
use Rattle.std.proofs.Common.{◌≡◌, ℕ, ◌+◌, true, false, List, [], ◌∷◌, ◌++◌, length, map, replicate, slice_get, Some, refl}
use Rattle.std.specs.Prelude.{◌==◌}
use Rattle.spec_base.specs.declared.layout.Layout.{Layout}
use Rattle.spec_base.specs.declared.layout.Version.{Version}
use Rattle.spec_base.specs.declared.layout.Version.TheVariants.{One, Two}
use Rattle.rv_decode.specs.Instruction.{instr_of}
use Rattle.rv_decode.specs.Encoding.{word_of}
use Rattle.code_model.specs.Helpers.{helpers}
use Rattle.elf_image.specs.declared.image.Image.{Image}
use Rattle.elf_image.specs.declared.segments.Segment.{Segment}
use Rattle.elf_writer.specs.declared.part.Part.{Part}
use Rattle.elf_writer.specs.Headers.{header_bytes, entry_bytes}
use Rattle.elf_writer.specs.FileParts.{file_header, record_entry, record_bytes, record_start, body_start, part_entry, file_parts, file_offset, end_of_part, file_length, table_bytes, segment_part}
use Rattle.elf_writer.specs.RewrittenFile.{segment_bytes}
use Rattle.elf_writer.specs.ProgramCode.{shadow_words, code_of_text}

abbrev segment : Segment
segment = record { address = 0x10078; size = 12; flags = 5; offset = 120; length = 12 }

abbrev image : Image
image = record { entry = 0x10078; flags = 0; segments = segment ∷ []; text_start = 0x10078; text_end = 0x10084; break_start = 0x10090 }

abbrev layout : Version → Layout
layout version = record { text_start = 0x10078; text_end = 0x10084; regions = 4096; version = version }

-- ---- header, table and record

header-is :
    header_bytes (file_header image) ≡
    0x7F ∷ 0x45 ∷ 0x4C ∷ 0x46 ∷ 2 ∷ 1 ∷ 1 ∷ 0 ∷ 0 ∷ 0 ∷ 0 ∷ 0 ∷ 0 ∷ 0 ∷ 0 ∷ 0
    ∷ 2 ∷ 0 ∷ 0xF3 ∷ 0 ∷ 1 ∷ 0 ∷ 0 ∷ 0 ∷ 0x78 ∷ 0 ∷ 1 ∷ 0 ∷ 0 ∷ 0 ∷ 0 ∷ 0
    ∷ 0x40 ∷ 0 ∷ 0 ∷ 0 ∷ 0 ∷ 0 ∷ 0 ∷ 0 ∷ 0 ∷ 0 ∷ 0 ∷ 0 ∷ 0 ∷ 0 ∷ 0 ∷ 0
    ∷ 0 ∷ 0 ∷ 0 ∷ 0 ∷ 0x40 ∷ 0 ∷ 0x38 ∷ 0 ∷ 9 ∷ 0 ∷ 0 ∷ 0 ∷ 0 ∷ 0 ∷ 0 ∷ 0 ∷ []
header-is = refl

record_entry-is :
    entry_bytes (record_entry image) ≡
    0x31 ∷ 0x48 ∷ 0x53 ∷ 0x60 ∷ 4 ∷ 0 ∷ 0 ∷ 0 ∷ 0x38 ∷ 2 ∷ 0 ∷ 0 ∷ 0 ∷ 0 ∷ 0 ∷ 0 ∷ 0 ∷ 0 ∷ 0 ∷ 0 ∷ 0 ∷ 0 ∷ 0 ∷ 0 ∷ 0 ∷ 0 ∷ 0 ∷ 0
    ∷ 0 ∷ 0 ∷ 0 ∷ 0 ∷ 0x28 ∷ 0 ∷ 0 ∷ 0 ∷ 0 ∷ 0 ∷ 0 ∷ 0 ∷ 0x28 ∷ 0 ∷ 0 ∷ 0 ∷ 0 ∷ 0 ∷ 0 ∷ 0 ∷ 8 ∷ 0 ∷ 0 ∷ 0 ∷ 0 ∷ 0 ∷ 0 ∷ 0 ∷ []
record_entry-is = refl

-- the entry of the segment, which stands at 4,216
segment_entry-is :
    entry_bytes (part_entry (body_start image) (segment_part segment)) ≡
    1 ∷ 0 ∷ 0 ∷ 0 ∷ 5 ∷ 0 ∷ 0 ∷ 0 ∷ 0x78 ∷ 0x10 ∷ 0 ∷ 0 ∷ 0 ∷ 0 ∷ 0 ∷ 0 ∷ 0x78 ∷ 0 ∷ 1 ∷ 0 ∷ 0 ∷ 0 ∷ 0 ∷ 0 ∷ 0x78 ∷ 0 ∷ 1 ∷ 0
    ∷ 0 ∷ 0 ∷ 0 ∷ 0 ∷ 0x0C ∷ 0 ∷ 0 ∷ 0 ∷ 0 ∷ 0 ∷ 0 ∷ 0 ∷ 0x0C ∷ 0 ∷ 0 ∷ 0 ∷ 0 ∷ 0 ∷ 0 ∷ 0 ∷ 0 ∷ 0x10 ∷ 0 ∷ 0 ∷ 0 ∷ 0 ∷ 0 ∷ 0 ∷ []
segment_entry-is = refl

record-is :
    record_bytes (layout Two) ≡
    0x53 ∷ 0x50 ∷ 0x45 ∷ 0x43 ∷ 0x48 ∷ 0x49 ∷ 0x4E ∷ 0x54 ∷ 2 ∷ 0 ∷ 0 ∷ 0 ∷ 0 ∷ 0 ∷ 0 ∷ 0 ∷ 0x78 ∷ 0 ∷ 1 ∷ 0 ∷ 0 ∷ 0 ∷ 0 ∷ 0
    ∷ 0x84 ∷ 0 ∷ 1 ∷ 0 ∷ 0 ∷ 0 ∷ 0 ∷ 0 ∷ 0 ∷ 0x10 ∷ 0 ∷ 0 ∷ 0 ∷ 0 ∷ 0 ∷ 0 ∷ []
record-is = refl

-- ---- places

-- offset, size in the file and size in memory of each part
abbrev places : ℕ → List Part → List (ℕ × ℕ × ℕ)
places cursor [] = []
places cursor (p ∷ ps) = (file_offset cursor p.p_vaddr, p.p_filesz, p.p_memsz) ∷ places (end_of_part cursor p) ps

places-are :
    places (body_start image) (file_parts image (layout Two)) ≡
    (4216, 12, 12) ∷ (8192, 256, 256) ∷ (12288, 1128, 1128) ∷ (16384, 284, 284)
    ∷ (20480, 0, 0x2000) ∷ (20480, 0, 0x1000000) ∷ (20480, 0, 16392) ∷ (20480, 0, 0x100000) ∷ []
places-are = refl

record_stands : record_start image ≡ 568
record_stands = refl

length-is : (version : Version) → file_length image (layout version) ≡ 16668
length-is One = refl
length-is Two = refl

-- ---- contents

-- the three words, of which the call is a gate
segment-is :
    segment_bytes (replicate 120 0 ++ 0x13 ∷ 0x05 ∷ 0x70 ∷ 0 ∷ 0x93 ∷ 0x08 ∷ 0xD0 ∷ 0x05 ∷ 0x73 ∷ 0 ∷ 0 ∷ 0 ∷ []) image
    ((code_of_text (layout Two) (0x00700513 ∷ 0x05D00893 ∷ 0x00000073 ∷ [])).text) segment ≡
    0x13 ∷ 0x05 ∷ 0x70 ∷ 0 ∷ 0x93 ∷ 0x08 ∷ 0xD0 ∷ 0x05 ∷ 0x0B ∷ 0 ∷ 0 ∷ 0 ∷ []
unfolding instr_of code_of_text
segment-is = refl

-- three blocks and the guard block
shadow-is :
    shadow_words (layout Two) (0x00700513 ∷ 0x05D00893 ∷ 0x00000073 ∷ []) ≡
    (0xFF803F83 ∷ 0x00700513 ∷ 0x03C0006F ∷ replicate 13 0)
    ++ (0xFF803F83 ∷ 0x05D00893 ∷ 0x03C0006F ∷ replicate 13 0)
    ++ (0xFF803F83 ∷ 0xFFF03C23 ∷ 0x41100FB7 ∷ 0x334F8FE7 ∷ 0xFF003F03 ∷ 0xFF803F83 ∷ 0x0000600B ∷ 0x0280006F ∷ replicate 8 0)
    ++ (0xFF803F83 ∷ 0x0000710B ∷ replicate 14 0)
unfolding instr_of shadow_words
shadow-is = refl

-- ---- the two versions

-- the places at which two lists differ
abbrev differences_from : ℕ → List ℕ → List ℕ → List ℕ
differences_from i (x ∷ xs) (y ∷ ys) = elim (x == y) [ true ↦ differences_from (i + 1) xs ys | false ↦ i ∷ differences_from (i + 1) xs ys ]
differences_from i _ _ = []

abbrev front : Version → List ℕ
front version = header_bytes (file_header image) ++ table_bytes image (layout version) ++ record_bytes (layout version)

front-long : length (front Two) ≡ 608
front-long = refl

-- the size of the region table, and the number of the version
front-differs : differences_from 0 (front One) (front Two) ≡ 442 ∷ 443 ∷ 576 ∷ []
front-differs = refl

-- word 8 of each access helper: its end of the program range
helpers-differ : differences_from 1 (map word_of (helpers (layout One))) (map word_of (helpers (layout Two))) ≡ 8 ∷ 24 ∷ 40 ∷ 56 ∷ 72 ∷ 88 ∷ 104 ∷ 120 ∷ []
helpers-differ = refl

helper_word-One : slice_get (map word_of (helpers (layout One))) 7 ≡ Some 0x10000F37
helper_word-One = refl

helper_word-Two : slice_get (map word_of (helpers (layout Two))) 7 ≡ Some 0x40000F37
helper_word-Two = refl
