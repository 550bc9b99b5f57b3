-- Numbers in an ELF64 file of byte order ELFDATA2LSB (gABI chapter 4, "Data Representation" and "Data Encoding").
use Rattle.std.specs.Prelude.{ℕ, ◌/◌, ◌%◌, ◌^◌, ◌==◌, Bool, List}
use Rattle.byteorder.specs.Endian.{little_from}

-- the number of 2 bytes at an offset (Elf64_Half)
abbrev pub half_at : ℕ → List ℕ → ℕ
half_at offset bytes = little_from offset 2 bytes

-- the number of 4 bytes at an offset (Elf64_Word)
abbrev pub word_at : ℕ → List ℕ → ℕ
word_at offset bytes = little_from offset 4 bytes

-- the number of 8 bytes at an offset (Elf64_Addr, Elf64_Off, Elf64_Xword)
abbrev pub xword_at : ℕ → List ℕ → ℕ
xword_at offset bytes = little_from offset 8 bytes

-- whether the bit with this number is set
abbrev pub has_bit : ℕ → ℕ → Bool
has_bit bit flags = flags / 2 ^ bit % 2 == 1
