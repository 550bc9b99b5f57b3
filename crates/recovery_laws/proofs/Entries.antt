-- The entries of a rewritten file's table, read back.
use Rattle.std.proofs.Common.{◌≡◌, ℕ, zero, suc, ◌+◌, ◌*◌, ◌^◌, ◌<◌, ◌≤◌, List, [], ◌∷◌, ◌++◌, length, refl, sym, ap, arith, ◌∙◌, append_assoc}
use Rattle.std.specs.Prelude.{All}
use Rattle.std.proofs.lemmas.List.Elements.{All-head, All-tail}
use Rattle.elf_image.specs.Fields.{word_at, xword_at}
use Rattle.elf_image.specs.Segments.{Entry, program_header, entry_at, first_entries}
use Rattle.elf_writer.specs.Headers.{entry_bytes}
use Rattle.elf_writer.specs.FileParts.{FilePart, FileEntry, part_entry, end_of_part, entries_from, end_of_parts, file_offset}
use Rattle.elf_writer.specs.Places.{StandsAt}
use Rattle.elf_writer.proofs.FileLemmas.{end-near, file_offset-near}
use Rattle.recovery_laws.proofs.Standing.{StandsAt-front, StandsAt-back, reads-at, back4, back8}

-- ---- one entry

-- what is read of an entry
abbrev pub as_read : FileEntry → Entry
as_read e = record { p_type = e.p_type; p_flags = e.p_flags; p_offset = e.p_offset; p_vaddr = e.p_vaddr; p_filesz = e.p_filesz; p_memsz = e.p_memsz }

-- its numbers fit their fields
pub record FitsFields (e : FileEntry) : Type 0 where
  pub p_type : e.p_type < 2 ^ 32
  pub p_flags : e.p_flags < 2 ^ 32
  pub p_offset : e.p_offset < 2 ^ 64
  pub p_vaddr : e.p_vaddr < 2 ^ 64
  pub p_filesz : e.p_filesz < 2 ^ 64
  pub p_memsz : e.p_memsz < 2 ^ 64

pub entry-back : (o : ℕ) (e : FileEntry) (file : List ℕ) → FitsFields e → StandsAt o (entry_bytes e) file → program_header o file ≡ as_read e
entry-back o e file fits h =
    let p_type : word_at o file ≡ e.p_type = reads-at 4 o 0 o (entry_bytes e) file (omega arith) h (omega arith) ∙ back4 e.p_type fits.p_type in
    let p_flags : word_at (o + 4) file ≡ e.p_flags = reads-at 4 o 4 (o + 4) (entry_bytes e) file refl h (omega arith) ∙ back4 e.p_flags fits.p_flags in
    let p_offset : xword_at (o + 8) file ≡ e.p_offset = reads-at 8 o 8 (o + 8) (entry_bytes e) file refl h (omega arith) ∙ back8 e.p_offset fits.p_offset in
    let p_vaddr : xword_at (o + 16) file ≡ e.p_vaddr = reads-at 8 o 16 (o + 16) (entry_bytes e) file refl h (omega arith) ∙ back8 e.p_vaddr fits.p_vaddr in
    let p_filesz : xword_at (o + 32) file ≡ e.p_filesz = reads-at 8 o 32 (o + 32) (entry_bytes e) file refl h (omega arith) ∙ back8 e.p_filesz fits.p_filesz in
    let p_memsz : xword_at (o + 40) file ≡ e.p_memsz = reads-at 8 o 40 (o + 40) (entry_bytes e) file refl h (omega arith) ∙ back8 e.p_memsz fits.p_memsz in
    λ i. record { p_type = p_type i; p_flags = p_flags i; p_offset = p_offset i; p_vaddr = p_vaddr i; p_filesz = p_filesz i; p_memsz = p_memsz i }

-- ---- the entries of parts

abbrev pub read_entries : ℕ → List FilePart → List Entry
read_entries cursor [] = []
read_entries cursor (p ∷ ps) = as_read (part_entry cursor p) ∷ read_entries (end_of_part cursor p) ps

-- a part whose numbers fit
pub record FitsEntry (p : FilePart) : Type 0 where
  pub flags : p.p_flags < 2 ^ 32
  pub address : p.p_vaddr < 2 ^ 64
  pub short : p.p_filesz ≤ 0x4000_0000
  pub size : p.p_memsz < 2 ^ 64

part-fits : (cursor n : ℕ) (p : FilePart) → FitsEntry p → cursor ≤ 4136 + 0x4000_1000 * n → n ≤ 100 → FitsFields (part_entry cursor p)
part-fits cursor n p h near few =
    let offset : file_offset cursor p.p_vaddr ≤ cursor + 4095 = file_offset-near cursor p.p_vaddr in
    record {
      p_type = omega arith;
      p_flags = h.flags;
      p_offset = omega (arith, offset, near, few);
      p_vaddr = h.address;
      p_filesz = omega (arith, h.short);
      p_memsz = h.size;
    }

-- the first of some entries, and the others
pub first-cons : (n start : ℕ) (bytes : List ℕ) → first_entries start (suc n) bytes ≡ program_header start bytes ∷ first_entries (start + 56) n bytes
first-cons zero start bytes =
    let same : start + 56 * 0 ≡ start = omega arith in
    ap (λ k. program_header k bytes ∷ []) same
first-cons (suc n) start bytes =
    let same : start + 56 * suc n ≡ start + 56 + 56 * n = omega arith in
    ap (λ es. es ++ entry_at start (suc n) bytes ∷ []) (first-cons n start bytes)
    ∙ ap (λ k. program_header start bytes ∷ (first_entries (start + 56) n bytes ++ program_header k bytes ∷ [])) same

pub entries-back : (ps : List FilePart) (cursor n start : ℕ) (file : List ℕ) → All FitsEntry ps → cursor ≤ 4136 + 0x4000_1000 * n → n + length ps ≤ 100
    → StandsAt start (entries_from cursor ps) file → first_entries start (length ps) file ≡ read_entries cursor ps
entries-back [] cursor n start file fits near few h = refl
entries-back (p ∷ ps) cursor n start file fits near few h =
    let fit : FitsEntry p = All-head FitsEntry p ps fits in
    let one = entry_bytes (part_entry cursor p) in
    let more = entries_from (end_of_part cursor p) ps in
    let here : program_header start file ≡ as_read (part_entry cursor p) =
    entry-back start (part_entry cursor p) file (part-fits cursor n p fit near (omega (arith, few))) (StandsAt-front start one more file h) in
    let rest : first_entries (start + 56) (length ps) file ≡ read_entries (end_of_part cursor p) ps =
    entries-back ps (end_of_part cursor p) (n + 1) (start + 56) file (All-tail FitsEntry p ps fits) (end-near cursor n p fit.short near) (omega (arith, few))
    (StandsAt-back start 56 one more file refl h) in
    first-cons (length ps) start file
    ∙ ap (λ e. e ∷ first_entries (start + 56) (length ps) file) here ∙ ap (λ es. as_read (part_entry cursor p) ∷ es) rest

-- the entries of parts and then of others
pub entries_from-append : (ps qs : List FilePart) (cursor : ℕ) → entries_from cursor (ps ++ qs) ≡ entries_from cursor ps ++ entries_from (end_of_parts cursor ps) qs
entries_from-append [] qs cursor = refl
entries_from-append (p ∷ ps) qs cursor =
    ap (λ w. entry_bytes (part_entry cursor p) ++ w) (entries_from-append ps qs (end_of_part cursor p))
    ∙ sym (append_assoc (entry_bytes (part_entry cursor p)) (entries_from (end_of_part cursor p) ps) (entries_from (end_of_parts (end_of_part cursor p) ps) qs))
