-- The tests that an accepted file has passed, one by one.
use Rattle.std.proofs.Common.{◌≡◌, ℕ, zero, suc, ◌+◌, ◌-◌, ◌*◌, ◌/◌, ◌%◌, ◌^◌, ◌==◌, ◌<◌, ◌≤◌, ◌&&◌, Bool, true, false, not, cond, List, [], ◌∷◌, ◌++◌, length, count_by, All, get_or, Option, Some, None, Ok, inl, inr, ◌⊎◌, refl, sym, subst, arith, lit<}
use Rattle.std.proofs.lemmas.Bool.{cases_lt}
use Rattle.std.proofs.lemmas.List.{get_or_past}
use Rattle.std.proofs.lemmas.List.Elements.{All-nil, All-cons, All-append, All-get_or}
use Rattle.spec_base.specs.declared.layout.Version.{Version}
use Rattle.spec_base.specs.Layout.{image_limit}
use Rattle.elf_image.specs.declared.refusal.Refusal.{Refusal}
use Rattle.elf_image.specs.declared.refusal.Refusal.TheVariants.{TooLong, Short, Magic, Class, ByteOrder, Version as OtherVersion, Kind, Machine, Flags, HeaderTable, Dynamic, Already, Segment as Misplaced, NoText, Sections, Text, Entry}
use Rattle.elf_image.specs.declared.segments.ProgramHeader.{ProgramHeader}
use Rattle.elf_image.specs.declared.segments.Segment.{Segment}
use Rattle.elf_image.specs.declared.image.Image.{Image}
use Rattle.elf_image.specs.Fields.{word_at}
use Rattle.elf_image.specs.Header.{file_header, header_refusal, has_plain_flags}
use Rattle.elf_image.specs.Segments.{entry_at, first_entries, entries_refusal, is_loaded, segment_of, segments_in, piece, is_code, are_misplaced}
use Rattle.elf_image.specs.Sections.{text_span, text_refusal, is_text_of, is_entry_of}
use Rattle.elf_image.specs.Image.{words_at, words_in, text_words}
use Rattle.elf_image.specs.Profile.{segments_of, code_of, first_refusal, image_of, profile}
use Rattle.elf_image.proofs.TestLemmas.{past, otherwise-none, not-false}
use Rattle.elf_image.proofs.SegmentLemmas.{segments_in-more}
use Rattle.elf_image.proofs.Accepted.{judged-ok}

-- what each number of the image has passed
pub record HasPassed (bytes : List ℕ) (version : Version) (image : Image) : Type 0 where
  pub flags : image.flags ≡ word_at 48 bytes
  pub plain_flags : (image.flags % 16 == 0) ≡ true
  pub segments : image.segments ≡ segments_of bytes
  pub apart : are_misplaced (image_limit version) (length bytes) image.segments ≡ false
  pub one : (count_by is_code image.segments == 1) ≡ true
  pub text : is_text_of (code_of image.segments) (record { start = image.text_start; end = image.text_end }) ≡ true
  pub entry : is_entry_of (record { start = image.text_start; end = image.text_end }) image.entry ≡ true

header-flags : (bytes : List ℕ) → header_refusal bytes ≡ None → has_plain_flags (file_header bytes) ≡ true
header-flags bytes none =
    let h1 = past _ TooLong _ none in
    let h2 = past _ Short _ h1.1 in
    let h3 = past _ Magic _ h2.1 in
    let h4 = past _ Class _ h3.1 in
    let h5 = past _ ByteOrder _ h4.1 in
    let h6 = past _ OtherVersion _ h5.1 in
    let h7 = past _ Kind _ h6.1 in
    let h8 = past _ Machine _ h7.1 in
    let h9 = past _ Flags _ h8.1 in
    not-false _ h9.0

passed-none : (bytes : List ℕ) (version : Version) → first_refusal bytes version ≡ None → HasPassed bytes version (image_of bytes)
unfolding first_refusal image_of
passed-none bytes version none =
    let groups = otherwise-none (header_refusal bytes) _ none in
    let later = otherwise-none (entries_refusal bytes version) (text_refusal bytes (code_of (segments_of bytes))) groups.1 in
    let e1 = past _ Dynamic _ later.0 in
    let e2 = past _ Already _ e1.1 in
    let e3 = past _ Misplaced _ e2.1 in
    let e4 = past _ NoText _ e3.1 in
    let t1 = past _ Sections _ later.1 in
    let t2 = past _ Text _ t1.1 in
    let t3 = past _ Entry _ t2.1 in
    record {
      flags = refl;
      plain_flags = header-flags bytes groups.0;
      segments = refl;
      apart = e3.0;
      one = not-false _ e4.0;
      text = not-false _ t2.0;
      entry = not-false _ t3.0;
    }

pub passed : (bytes : List ℕ) (version : Version) (image : Image) → profile bytes version ≡ Ok image → HasPassed bytes version image
passed bytes version image given =
    let same = judged-ok (first_refusal bytes version) (image_of bytes) image given in
    subst (λ (i : Image). HasPassed bytes version i) same.1 (passed-none bytes version same.0)

-- ---- numbers of a file whose numbers are bytes

pub byte-below : (bytes : List ℕ) → All (λ b. b < 256) bytes → (i : ℕ) → get_or bytes i 0 < 256
byte-below bytes h i = by_case (cases_lt i (length bytes))
  where
    by_case : (i < length bytes) ⊎ (length bytes ≤ i) → get_or bytes i 0 < 256
    by_case (inl l) = All-get_or (λ b. b < 256) bytes i 0 l h
    by_case (inr l) = subst (λ n. n < 256) (sym (get_or_past bytes i 0 l)) (lit< tt)

pub word-below : (offset : ℕ) (bytes : List ℕ) → All (λ b. b < 256) bytes → word_at offset bytes < 2 ^ 32
word-below offset bytes h =
    let b = byte-below bytes h in
    omega (arith, b offset, b (suc offset), b (suc (suc offset)), b (suc (suc (suc offset))))

words-below : (n offset : ℕ) (bytes : List ℕ) → All (λ b. b < 256) bytes → All (λ word. word < 2 ^ 32) (words_at offset n bytes)
words-below zero offset bytes h = All-nil (λ word. word < 2 ^ 32)
words-below (suc n) offset bytes h =
    All-cons (λ word. word < 2 ^ 32) (word_at offset bytes) (words_at (offset + 4) n bytes) (word-below offset bytes h) (words-below n (offset + 4) bytes h)

-- the words of a text have 32 bits
pub text-below : (bytes : List ℕ) (image : Image) → All (λ b. b < 256) bytes → All (λ word. word < 2 ^ 32) (text_words bytes image)
unfolding text_words
text-below bytes image h = by_code (code_of image.segments)
  where
    by_code : (code : Option Segment) → All (λ word. word < 2 ^ 32) (words_in code bytes image)
    by_code None = All-nil (λ word. word < 2 ^ 32)
    by_code (Some s) = words-below ((image.text_end - image.text_start) / 4) _ bytes h

-- a segment that isn't empty, and whose flags have 32 bits
pub record IsNamed (s : Segment) : Type 0 where
  pub flags : s.flags < 2 ^ 32
  pub some : ((s.length == 0) && (s.size == 0)) ≡ false

and-both : (a b : Bool) → (a && not b) ≡ true → b ≡ false
and-both true true h = absurd (cc)
and-both true false h = refl
and-both false b h = absurd (cc)

piece-named : (e : ProgramHeader) (b : Bool) → is_loaded e ≡ b → e.p_flags < 2 ^ 32 → All IsNamed (piece b (segment_of e))
piece-named e true h below =
    All-cons IsNamed (segment_of e) [] (record { flags = below; some = and-both (e.p_type == 1) ((e.p_filesz == 0) && (e.p_memsz == 0)) h }) (All-nil IsNamed)
piece-named e false h below = All-nil IsNamed

first-named : (start n : ℕ) (bytes : List ℕ) → All (λ b. b < 256) bytes → All IsNamed (segments_in (first_entries start n bytes))
first-named start zero bytes h = All-nil IsNamed
first-named start (suc n) bytes h =
    let e : ProgramHeader = entry_at start n bytes in
    subst (All IsNamed) (sym (segments_in-more (first_entries start n bytes) e))
    (All-append IsNamed (segments_in (first_entries start n bytes)) (piece (is_loaded e) (segment_of e)) (first-named start n bytes h)
    (piece-named e (is_loaded e) refl (word-below (start + 56 * n + 4) bytes h)))

pub segments-named : (bytes : List ℕ) → All (λ b. b < 256) bytes → All IsNamed (segments_of bytes)
segments-named bytes h = first-named (file_header bytes).e_phoff (file_header bytes).e_phnum bytes h
