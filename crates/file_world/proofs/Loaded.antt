-- The world of each file that can be opened is accepted.
use Rattle.std.proofs.Common.{◌≡◌, ℕ, zero, suc, ◌+◌, ◌-◌, ◌*◌, ◌/◌, ◌%◌, ◌^◌, ◌<◌, ◌≤◌, Bool, true, false, List, [], ◌∷◌, length, map, drop, Some, All, refl, sym, ap, subst, ◌∙◌, arith, lit<, ◌==◌}
use Rattle.std.proofs.lemmas.List.Elements.{All-cons, All-head, All-tail, All-take, All-drop}
use Rattle.spec_base.specs.declared.layout.Layout.{Layout}
use Rattle.spec_base.specs.declared.layout.Version.{Version}
use Rattle.elf_image.specs.Profile.{code_of}
use Rattle.elf_image.specs.Image.{words_at, words_in, text_words}
use Rattle.elf_image.specs.declared.image.Image.{Image}
use Rattle.elf_image.specs.declared.segments.Segment.{Segment}
use Rattle.program_loader.specs.Programs.{part_of, executable_of}
use Rattle.run_laws.specs.OwnLaws.{AllBytes}
use Rattle.run_laws.specs.OwnLaws.{Accepted}
use Rattle.elf_image.specs.declared.recovery.Recovered.{Recovered}
use Rattle.elf_image.specs.Recovery.{IsRecovered, RecoversAs}
use Rattle.elf_image.specs.Image.{IsImage}
use Rattle.elf_image.proofs.Accepted.{IsImage-from_profile}
use Rattle.elf_image.proofs.Passed.{text-below}
use Rattle.elf_image.proofs.RecoveryLemmas.{IsRecovered-from}
use Rattle.elf_writer.specs.ProgramCode.{ungated_word}
use Rattle.spec_base.specs.Files.{Files}
use Rattle.spec_base.specs.Layout.{is_lawful}
use Rattle.std.specs.Prelude.{IsTrue, Ok, if◌then◌else◌}
use Rattle.std.proofs.lemmas.List.{length-map}
use Rattle.file_world.specs.Worlds.{Opened, opened, opened_again, world_of, AreFiles}
use Rattle.file_world.specs.Promises.{IsRunnable, FilesAreAccepted, RecoveredAreAccepted}
use Rattle.run_laws.proofs.Loaded.{AllParts, loaded-accepted}

-- ---- the words of the text

words_at-length : (offset n : ℕ) (bytes : List ℕ) → length (words_at offset n bytes) ≡ n
words_at-length offset zero bytes = refl
words_at-length offset (suc n) bytes = ap suc (words_at-length (offset + 4) n bytes)

text-length : (bytes : List ℕ) (image : Image) (s : Segment) → code_of image.segments ≡ Some s → length (text_words bytes image) ≡ (image.text_end - image.text_start) / 4
unfolding text_words
text-length bytes image s e = ap (λ o. length (words_in o bytes image)) e ∙ words_at-length _ ((image.text_end - image.text_start) / 4) bytes

whole : (start end : ℕ) → start < end → start % 4 ≡ 0 → end % 4 ≡ 0 → end ≡ start + 4 * ((end - start) / 4)
whole start end l a b = omega arith

-- ---- the bytes of its parts

parts-bytes : (bytes : List ℕ) → AllBytes bytes → (segments : List Segment) → AllParts (map (part_of bytes) segments)
parts-bytes bytes h [] = tt
parts-bytes bytes h (s ∷ segments) =
    (All-take (λ b. b < 256) s.length (drop s.offset bytes) (All-drop (λ b. b < 256) s.offset bytes h), parts-bytes bytes h segments)

-- ---- the laws

-- what is asked of a file that is opened
pub record IsOpened (bytes : List ℕ) (o : Opened) : Type 0 where
  pub are_bytes : AllBytes bytes
  pub is_image : IsImage bytes o.layout.version o.image
  pub text_start : o.layout.text_start ≡ o.image.text_start
  pub text_end : o.layout.text_end ≡ o.image.text_end
  pub some_regions : 1 ≤ o.layout.regions
  pub few_regions : o.layout.regions ≤ 65_536
  pub count : length o.words ≡ length (text_words bytes o.image)
  pub words : All (λ word. word < 2 ^ 32) o.words

lawful-same : (a b : Layout) → a ≡ b → IsTrue (is_lawful a) → IsTrue (is_lawful b)
lawful-same a b e h = subst (λ (l : Layout). IsTrue (is_lawful l)) e h

pub opened-accepted : (bytes : List ℕ) (o : Opened) (arguments : List (List ℕ)) (files : Files) → IsOpened bytes o → All AllBytes arguments → AreFiles files
    → Accepted (world_of bytes o arguments files)
opened-accepted bytes o arguments files h words f =
    let l : Layout = o.layout in
    loaded-accepted (record (executable_of l.version bytes o.image) { layout = l; words = o.words }) arguments files
    (lawful-same (record { text_start = o.image.text_start; text_end = o.image.text_end; regions = l.regions; version = l.version }) l
    (λ i. record { text_start = sym h.text_start i; text_end = sym h.text_end i; regions = l.regions; version = l.version })
    (h.is_image.lawful l.regions h.some_regions h.few_regions))
    (h.text_end ∙ whole o.image.text_start o.image.text_end h.is_image.text.some h.is_image.text.start_aligned h.is_image.text.end_aligned
    ∙ ap (λ n. o.image.text_start + 4 * n) (sym (text-length bytes o.image h.is_image.text.code h.is_image.text.code_is) ∙ sym h.count)
    ∙ ap (λ n. n + 4 * length o.words) (sym h.text_start))
    h.words (parts-bytes bytes h.are_bytes o.image.segments) words f

pub runnable-opened : (bytes : List ℕ) (image : Image) (regions : ℕ) (version : Version) (arguments : List (List ℕ)) (files : Files)
    → IsRunnable bytes image regions version arguments files → IsOpened bytes (opened bytes image regions version)
runnable-opened bytes image regions version arguments files h = record {
  are_bytes = h.are_bytes;
  is_image = IsImage-from_profile bytes version image h.accepted;
  text_start = refl;
  text_end = refl;
  some_regions = h.some_regions;
  few_regions = h.few_regions;
  count = refl;
  words = text-below bytes image h.are_bytes;
}

pub files_are_accepted : FilesAreAccepted
files_are_accepted bytes image regions version arguments files h =
    opened-accepted bytes (opened bytes image regions version) arguments files (runnable-opened bytes image regions version arguments files h) h.are_words h.are_files

-- a word of a patched text stands for one of 32 bits
ungated-below : (words : List ℕ) → All (λ word. word < 2 ^ 32) words → All (λ word. word < 2 ^ 32) (map ungated_word words)
ungated-below [] h = h
ungated-below (w ∷ words) h =
    All-cons (λ word. word < 2 ^ 32) (ungated_word w) (map ungated_word words) (by_test (w == 0x0000000B) (All-head (λ word. word < 2 ^ 32) w words h))
    (ungated-below words (All-tail (λ word. word < 2 ^ 32) w words h))
  where
    by_test : (t : Bool) → w < 2 ^ 32 → (if t then 0x00000073 else w) < 2 ^ 32
    by_test true k = lit< tt
    by_test false k = k

pub again-opened : (bytes : List ℕ) (r : Recovered) → AllBytes bytes → RecoversAs bytes (Ok r) → IsOpened bytes (opened_again bytes r)
again-opened bytes r all h =
    let is : IsRecovered bytes r = IsRecovered-from bytes r h in
    record {
      are_bytes = all;
      is_image = is.image;
      text_start = is.text_start;
      text_end = is.text_end;
      some_regions = is.some_regions;
      few_regions = is.few_regions;
      count = length-map (text_words bytes r.image) ungated_word;
      words = ungated-below (text_words bytes r.image) (text-below bytes r.image all);
    }

pub recovered_are_accepted : RecoveredAreAccepted
recovered_are_accepted bytes r arguments files all h words f =
    opened-accepted bytes (opened_again bytes r) arguments files (again-opened bytes r all h) words f
