-- The ELF header (gABI chapter 4, "ELF Header"; RISC-V psABI, "File Header"), and the reasons to refuse that it gives.
use Rattle.spec_base.specs.Layout.{file_limit}
use Rattle.std.specs.Prelude.{ℕ, ◌+◌, ◌*◌, ◌%◌, ◌==◌, ◌≤◌, ◌&&◌, Bool, not, nat_lt, nat_le, if◌then◌else◌, List, length, slice_index, Option, Some, None}
use Rattle.elf_image.specs.Fields.{half_at, word_at, xword_at}
use Rattle.elf_image.specs.declared.header.FileHeader.{FileHeader}
use Rattle.elf_image.specs.declared.refusal.Refusal.{Refusal}
use Rattle.elf_image.specs.declared.refusal.Refusal.TheVariants.{TooLong, Short, Magic, Class, ByteOrder, Version, Kind, Machine, Flags, HeaderTable}

-- the fields at their offsets
abbrev pub file_header : List ℕ → FileHeader
file_header bytes = record {
  e_type = half_at 16 bytes;
  e_machine = half_at 18 bytes;
  e_version = word_at 20 bytes;
  e_entry = xword_at 24 bytes;
  e_phoff = xword_at 32 bytes;
  e_shoff = xword_at 40 bytes;
  e_flags = word_at 48 bytes;
  e_phentsize = half_at 54 bytes;
  e_phnum = half_at 56 bytes;
  e_shentsize = half_at 58 bytes;
  e_shnum = half_at 60 bytes;
}

-- bytes EI_MAG0 to EI_MAG3 of e_ident are 0x7F and "ELF"
abbrev pub has_magic : List ℕ → Bool
has_magic bytes =
    (slice_index bytes 0 == 0x7F) && (slice_index bytes 1 == 0x45) && (slice_index bytes 2 == 0x4C) && (slice_index bytes 3 == 0x46)

-- bytes EI_CLASS, EI_DATA and EI_VERSION of e_ident
abbrev pub ei_class : List ℕ → ℕ
ei_class bytes = slice_index bytes 4

abbrev pub ei_data : List ℕ → ℕ
ei_data bytes = slice_index bytes 5

abbrev pub ei_version : List ℕ → ℕ
ei_version bytes = slice_index bytes 6

-- none of EF_RISCV_RVC (1), EF_RISCV_FLOAT_ABI (2 and 4) and EF_RISCV_RVE (8) is set
abbrev pub has_plain_flags : FileHeader → Bool
has_plain_flags h = h.e_flags % 16 == 0

-- the program header table has 1 to 64 entries of 56 bytes, and ends inside the file
abbrev pub holds_table : FileHeader → ℕ → Bool
holds_table h file_length =
    (h.e_phentsize == 56) && nat_le 1 h.e_phnum && nat_le h.e_phnum 64 && nat_le (h.e_phoff + 56 * h.e_phnum) file_length

-- the first of the reasons 1 to 10 that holds
abbrev pub header_refusal : List ℕ → Option Refusal
header_refusal bytes =
    let h = file_header bytes in
    if nat_lt file_limit (length bytes) then Some TooLong
    else if nat_lt (length bytes) 64 then Some Short
    else if not (has_magic bytes) then Some Magic
    else if not (ei_class bytes == 2) then Some Class
    else if not (ei_data bytes == 1) then Some ByteOrder
    else if not ((ei_version bytes == 1) && (h.e_version == 1)) then Some Version
    else if not (h.e_type == 2) then Some Kind
    else if not (h.e_machine == 243) then Some Machine
    else if not (has_plain_flags h) then Some Flags
    else if not (holds_table h (length bytes)) then Some HeaderTable
    else None

-- what follows where none holds
pub record HasTable (bytes : List ℕ) : Type 0 where
  pub few_bytes : length bytes ≤ file_limit
  pub has_header : 64 ≤ length bytes
  pub some : 1 ≤ (file_header bytes).e_phnum
  pub few : (file_header bytes).e_phnum ≤ 64
  pub inside : (file_header bytes).e_phoff + 56 * (file_header bytes).e_phnum ≤ length bytes
