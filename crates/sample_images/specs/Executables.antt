-- Executables of one and of two segments, as bytes in order ELFDATA2LSB (gABI chapter 4, "ELF Header"; chapter 5, "Program Header").
use Rattle.std.specs.Prelude.{ℕ, ◌+◌, ◌*◌, List, [], ◌∷◌, ◌++◌, length, codes}
use Rattle.std.specs.List.{flat_map}
use Rattle.elf_writer.specs.Headers.{half, word, xword, e_ident}

-- the header: ET_EXEC, EM_RISCV, EV_CURRENT, no section, and so many entries behind it
abbrev pub header : ℕ → ℕ → List ℕ
header entry entries =
    e_ident ++ half 2 ++ half 243 ++ word 1 ++ xword entry ++ xword 64 ++ xword 0 ++ word 0
    ++ half 64 ++ half 56 ++ half entries ++ half 0 ++ half 0 ++ half 0

-- the entry of a segment (PT_LOAD), whose physical address is its virtual one
abbrev pub entry : ℕ → ℕ → ℕ → ℕ → ℕ → ℕ → List ℕ
entry flags offset address filesz memsz align =
    word 1 ++ word flags ++ xword offset ++ xword address ++ xword address ++ xword filesz ++ xword memsz ++ xword align

-- the bytes of a text
abbrev pub text_bytes : List ℕ → List ℕ
text_bytes words = flat_map word words

-- the executable of a text, which stands at 0x10078
abbrev pub one_segment : List ℕ → List ℕ
one_segment words = header 0x10078 1 ++ entry 5 120 0x10078 (length words * 4) (length words * 4) 0x1000 ++ text_bytes words

-- the 16 bytes that the data of the second segment begin with: a name, and a line to put
abbrev pub strings : List ℕ
strings = codes "data" ++ 0 ∷ 0 ∷ 0 ∷ 0 ∷ (codes "done" ++ 10 ∷ 0 ∷ 0 ∷ 0 ∷ [])

-- the executable of a text, which stands at 0x100B0, with 0x3000 bytes of data at 0x200000
abbrev pub two_segments : List ℕ → List ℕ
two_segments words =
    header 0x100B0 2
    ++ entry 5 176 0x100B0 (length words * 4) (length words * 4) 0x1000
    ++ entry 6 (176 + length words * 4) 0x200000 16 0x3000 4
    ++ text_bytes words ++ strings
