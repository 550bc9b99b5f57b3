-- The ELF header and an entry of the program header table, as bytes in order ELFDATA2LSB (gABI chapter 4, "ELF Header" and "Data Representation"; chapter 5, "Program Header").
use Rattle.std.specs.Prelude.{ℕ, List, [], ◌∷◌, ◌++◌}
use Rattle.std.specs.Int.{w16, w32, w64, to_le_bytes}
use Rattle.elf_writer.specs.declared.header.FileHeader.{FileHeader}
use Rattle.elf_writer.specs.declared.header.ProgramHeader.{ProgramHeader}

-- a number of 2 bytes (Elf64_Half), of 4 (Elf64_Word) and of 8 (Elf64_Addr, Elf64_Off, Elf64_Xword)
abbrev pub half : ℕ → List ℕ
half v = to_le_bytes w16 v

abbrev pub word : ℕ → List ℕ
word v = to_le_bytes w32 v

abbrev pub xword : ℕ → List ℕ
xword v = to_le_bytes w64 v

-- 0x7F, "ELF", ELFCLASS64, ELFDATA2LSB, EV_CURRENT; ELFOSABI_NONE, and zeros
abbrev pub e_ident : List ℕ
e_ident = 0x7F ∷ 0x45 ∷ 0x4C ∷ 0x46 ∷ 2 ∷ 1 ∷ 1 ∷ 0 ∷ 0 ∷ 0 ∷ 0 ∷ 0 ∷ 0 ∷ 0 ∷ 0 ∷ 0 ∷ []

-- the 64 bytes of the header
abbrev pub header_bytes : FileHeader → List ℕ
header_bytes h =
    e_ident ++ half h.e_type ++ half h.e_machine ++ word h.e_version
    ++ xword h.e_entry ++ xword h.e_phoff ++ xword h.e_shoff ++ word h.e_flags
    ++ half h.e_ehsize ++ half h.e_phentsize ++ half h.e_phnum
    ++ half h.e_shentsize ++ half h.e_shnum ++ half h.e_shstrndx

-- the 56 bytes of an entry
abbrev pub entry_bytes : ProgramHeader → List ℕ
entry_bytes e =
    word e.p_type ++ word e.p_flags ++ xword e.p_offset ++ xword e.p_vaddr ++ xword e.p_paddr
    ++ xword e.p_filesz ++ xword e.p_memsz ++ xword e.p_align
