-- What `rewrite` puts is recovered as what it was made from.
use Rattle.std.proofs.Common.{◌≡◌, ℕ, ◌+◌, ◌*◌, ◌^◌, ◌<◌, ◌≤◌, List, [], ◌∷◌, ◌++◌, length, map, Ok, refl, sym, ap, subst, arith, ◌∙◌}
use Rattle.std.specs.Prelude.{All}
use Rattle.std.proofs.lemmas.Bool.Decides.{nat_tests}
use Rattle.std.proofs.lemmas.List.Elements.{All-cons, All-head, All-tail}
use Rattle.spec_base.specs.Layout.{image_limit}
use Rattle.spec_base.specs.declared.layout.Layout.{Layout}
use Rattle.spec_base.specs.declared.layout.Version.{Version}
use Rattle.code_model.specs.Patch.{patched_word}
use Rattle.elf_image.specs.declared.image.Image.{Image}
use Rattle.elf_image.specs.Profile.{profile}
use Rattle.elf_image.specs.Image.{IsImage, text_words}
use Rattle.elf_image.proofs.Accepted.{IsImage-from_profile}
use Rattle.elf_image.proofs.Passed.{HasPassed, IsNamed, passed, segments-named, word-below, text-below}
use Rattle.elf_writer.specs.FileParts.{FilePart, body_start, text_count, segment_part, shadow_parts, record_bytes, entries_from, body_from}
use Rattle.elf_writer.specs.Headers.{header_bytes, entry_bytes}
use Rattle.elf_writer.specs.RewrittenFile.{Code, HasWords, IsRewritable, IsCodeOf, rewritten_file, segment_bytes, shadow_contents, original_bytes}
use Rattle.elf_writer.specs.ProgramCode.{code_of_text, ungated_word, rewritten_again}
use Rattle.elf_writer.specs.Places.{StandsWhole}
use Rattle.elf_writer.proofs.FileLemmas.{InFile, IsPlaced-InFile, rewritten-HasWords, rewritten_file-length}
use Rattle.elf_writer.proofs.PlaceLemmas.{each_stands}
use Rattle.elf_writer.proofs.Rewritable.{code_of_text-IsCodeOf, text_words-length}
use Rattle.rewriter.specs.Layouts.{layout_of, rewritten}
use Rattle.machine_laws.proofs.PatchedWords.{patched-bits}
use Rattle.rewritten_reader.specs.Damage.{recovered}
use Rattle.rewritten_reader.proofs.ReadingLemmas.{same-read}
use Rattle.recovery_laws.specs.Texts.{harmless_word}
use Rattle.recovery_laws.specs.Moved.{moved_segments, moved_image}
use Rattle.recovery_laws.specs.ReadBack.{IsReadBack, carried_of, RewrittenIsRecovered}
use Rattle.recovery_laws.proofs.TextLaws.{text-back, code-stays}
use Rattle.recovery_laws.proofs.MovedSegments.{moved-length, moved-parts}
use Rattle.recovery_laws.proofs.Front.{HasFront, undamaged, carried-are}
use Rattle.recovery_laws.specs.OnDisk.{LoadsCode}
use Rattle.recovery_laws.proofs.OnDisk.{HasBits, loads-code}
use Rattle.recovery_laws.proofs.Body.{originals-are, words-are, segments-again}

-- ---- words of 32 bits

patched-below : (words : List ℕ) → All (λ w. w < 2 ^ 32) words → All (λ w. w < 2 ^ 32) (map patched_word words)
patched-below [] h = h
patched-below (w ∷ words) h =
    All-cons (λ x. x < 2 ^ 32) (patched_word w) (map patched_word words) (patched-bits w (All-head (λ x. x < 2 ^ 32) w words h))
    (patched-below words (All-tail (λ x. x < 2 ^ 32) w words h))

harmless-one : (w : ℕ) → w < 2 ^ 32 → harmless_word w < 2 ^ 32
harmless-one w h = grind (arith, nat_tests)

pub harmless-below : (words : List ℕ) → All (λ w. w < 2 ^ 32) words → All (λ w. w < 2 ^ 32) (map harmless_word words)
harmless-below [] h = h
harmless-below (w ∷ words) h =
    All-cons (λ x. x < 2 ^ 32) (harmless_word w) (map harmless_word words) (harmless-one w (All-head (λ x. x < 2 ^ 32) w words h))
    (harmless-below words (All-tail (λ x. x < 2 ^ 32) w words h))

-- the rewritten file of an image, by the number of its segments, their parts, and their bytes
abbrev made : Image → Layout → Code → ℕ → List FilePart → List (List ℕ) → List ℕ
made image l code n ps cs =
    header_bytes (record {
      e_type = 2;
      e_machine = 243;
      e_version = 1;
      e_entry = image.entry;
      e_phoff = 64;
      e_shoff = 0;
      e_flags = image.flags;
      e_ehsize = 64;
      e_phentsize = 56;
      e_phnum = n + 8;
      e_shentsize = 0;
      e_shnum = 0;
      e_shstrndx = 0;
    })
    ++ (entry_bytes (record {
      p_type = 0x60534831;
      p_flags = 4;
      p_offset = 64 + 56 * (n + 8);
      p_vaddr = 0;
      p_paddr = 0;
      p_filesz = 40;
      p_memsz = 40;
      p_align = 8;
    }) ++ entries_from (64 + 56 * (n + 8) + 40) (ps ++ shadow_parts l))
    ++ record_bytes l ++ body_from (64 + 56 * (n + 8) + 40) (ps ++ shadow_parts l) (cs ++ shadow_contents code)

-- the segments' bytes in the rewritten file are those of the original, with these words for the text
pub record IsPutBack (bytes : List ℕ) (image : Image) (regions : ℕ) (version : Version) : Type 0 where
  pub words : List ℕ
  pub has_words : HasWords image words
  pub placed : All (InFile bytes) image.segments
  pub segments :
      map (original_bytes (rewritten bytes image regions version)) (moved_segments (body_start image) image.segments)
      ≡ map (segment_bytes bytes image words) image.segments

module _ (bytes : List ℕ) (image : Image) (regions : ℕ) (version : Version)
    (all : All (λ b. b < 256) bytes) (accepted : profile bytes version ≡ Ok image) (some_regions : 1 ≤ regions) (few_regions : regions ≤ 65_536) where
  abbrev l : Layout
  l = layout_of image regions version

  abbrev words : List ℕ
  words = text_words bytes image

  abbrev code : Code
  code = code_of_text l words

  is : IsImage bytes version image
  is = IsImage-from_profile bytes version image accepted

  has : HasPassed bytes version image
  has = passed bytes version image accepted

  count : length words ≡ text_count l
  count = text_words-length bytes image l is refl refl

  rewritable : IsRewritable bytes image l
  rewritable = record {
    few_segments = is.few_segments;
    placed = is.placed;
    text_start = refl;
    text_end = refl;
    lawful = is.lawful regions some_regions few_regions;
  }

  is-code : IsCodeOf l code
  is-code = code_of_text-IsCodeOf l words count

  whole : StandsWhole bytes image l code
  whole = each_stands bytes image l code rewritable is-code

  has-words : HasWords image code.text
  has-words = rewritten-HasWords bytes image l code rewritable is-code

  front : HasFront bytes image l (rewritten bytes image regions version)
  front = record {
    is_image = is;
    passed = has;
    named = subst (All IsNamed) (sym has.segments) (segments-named bytes all);
    flags = subst (λ n. n < 2 ^ 32) (sym has.flags) (word-below 48 bytes all);
    text_start = refl;
    text_end = refl;
    some_regions = some_regions;
    few_regions = few_regions;
    header = whole.header;
    table = whole.table;
    record_part = whole.record_part;
    long = rewritten_file-length bytes image l code rewritable is-code;
  }

  text-of : code.text ≡ map patched_word words
  unfolding code_of_text
  text-of = refl

  segments-are : map (original_bytes (rewritten bytes image regions version)) (moved_segments (body_start image) image.segments)
      ≡ map (segment_bytes bytes image code.text) image.segments
  segments-are =
      originals-are bytes image code.text (rewritten bytes image regions version) image.segments (body_start image) (shadow_parts l) (shadow_contents code) whole.parts

  text-words : text_words (rewritten bytes image regions version) (moved_image image) ≡ code.text
  text-words =
      words-are bytes image l code.text (rewritten bytes image regions version) (body_start image) (shadow_parts l) (shadow_contents code) is
      (subst (All (λ w. w < 2 ^ 32)) (sym text-of) (patched-below words (text-below bytes image all))) is-code.text refl whole.parts

  words-back : map ungated_word (text_words (rewritten bytes image regions version) (moved_image image)) ≡ map harmless_word words
  words-back = ap (map ungated_word) (text-words ∙ text-of) ∙ text-back words

  -- the code is made of these words too
  code-again : code_of_text l (map ungated_word (text_words (rewritten bytes image regions version) (moved_image image))) ≡ code
  code-again = ap (code_of_text l) words-back ∙ code-stays l words

  inside : All (InFile bytes) image.segments
  inside = IsPlaced-InFile (image_limit version) bytes image.segments is.placed

  again : rewritten_again (rewritten bytes image regions version) (moved_image image) l ≡ rewritten bytes image regions version
  unfolding rewritten_file
  again =
      let file : List ℕ = rewritten bytes image regions version in
      let number : length (moved_segments (body_start image) image.segments) ≡ length image.segments = moved-length image.segments (body_start image) in
      let parts : map segment_part (moved_segments (body_start image) image.segments) ≡ map segment_part image.segments = moved-parts image.segments (body_start image) in
      let segments : map (segment_bytes file (moved_image image) code.text) (moved_segments (body_start image) image.segments) ≡ map (segment_bytes bytes image code.text) image.segments =
      segments-again bytes image code.text file image.segments (body_start image) has-words inside segments-are in
      ap (rewritten_file file (moved_image image) l) code-again ∙ (λ i. made image l code (number i) (parts i) (segments i))

  carries : recovered (rewritten bytes image regions version) ≡ Ok (carried_of image regions version)
  carries =
      same-read (rewritten bytes image regions version) (carried_of image regions version)
      (undamaged bytes image l (rewritten bytes image regions version) front, sym (carried-are bytes image l (rewritten bytes image regions version) front)) again

  pub is-read_back : IsReadBack bytes image regions version
  is-read_back = record { carries = carries; words = words-back; again = again }

  -- the table of the file loads this code
  pub loads : HasBits code → LoadsCode (rewritten bytes image regions version) l code
  loads bits =
      loads-code bytes image l code (rewritten bytes image regions version) front whole.parts is-code bits text-words

  pub as-many : length words ≡ text_count l
  as-many = count

  -- what of the file's bytes a start needs
  pub is-put_back : IsPutBack bytes image regions version
  is-put_back = record {
    words = code.text;
    has_words = has-words;
    placed = inside;
    segments = segments-are;
  }

pub rewritten_is_recovered : RewrittenIsRecovered
rewritten_is_recovered bytes image regions version all accepted some few = is-read_back bytes image regions version all accepted some few
