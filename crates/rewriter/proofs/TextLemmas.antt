-- The words of a text, one by one.
use Rattle.std.proofs.Common.{◌≡◌, ℕ, zero, suc, ◌+◌, ◌-◌, ◌*◌, ◌/◌, ◌<◌, Bool, true, false, List, length, get_or, slice_index, arith, ap, refl, sym, ◌∙◌}
use Rattle.spec_base.specs.declared.layout.Layout.{Layout}
use Rattle.spec_base.specs.declared.layout.Version.{Version}
use Rattle.elf_image.specs.declared.image.Image.{Image}
use Rattle.elf_image.specs.Fields.{word_at}
use Rattle.elf_image.specs.Image.{IsImage, words_at, text_words}
use Rattle.elf_writer.specs.FileParts.{text_count}
use Rattle.elf_writer.proofs.Rewritable.{text_words-length}
use Rattle.rewriter.specs.Layouts.{layout_of}
use Rattle.rewriter.specs.Sources.{Source, original_word, originals}
use Rattle.elf_writer.specs.ProgramCode.{ungated_word}
use Rattle.std.proofs.lemmas.List.{get_or-map, length-map}

words_at-length : (offset n : ℕ) (bytes : List ℕ) → length (words_at offset n bytes) ≡ n
words_at-length offset zero bytes = refl
words_at-length offset (suc n) bytes = ap suc (words_at-length (offset + 4) n bytes)

words_at-index : (offset n i : ℕ) (bytes : List ℕ) → i < n → get_or (words_at offset n bytes) i 0 ≡ word_at (offset + 4 * i) bytes
words_at-index offset zero i bytes below = absurd (omega arith)
words_at-index offset (suc n) zero bytes below =
    let same : offset ≡ offset + 4 * 0 = omega arith in
    ap (λ k. word_at k bytes) same
words_at-index offset (suc n) (suc i) bytes below =
    let same : offset + 4 + 4 * i ≡ offset + 4 * suc i = omega arith in
    words_at-index (offset + 4) n i bytes (omega arith) ∙ ap (λ k. word_at k bytes) same

-- a source, as the bytes of a file show it
originals-length : (gated : Bool) (words : List ℕ) → length (originals gated words) ≡ length words
originals-length false words = refl
originals-length true words = length-map words ungated_word

originals-index : (gated : Bool) (words : List ℕ) (i : ℕ) → i < length words → get_or (originals gated words) i 0 ≡ original_word gated (get_or words i 0)
originals-index false words i below = refl
originals-index true words i below = get_or-map ungated_word words i 0 0 below

module _ (source : Source) (offset : ℕ) (l : Layout) (gated : Bool) (bytes : List ℕ) (seen : record { layout = l; words = originals gated (words_at offset (text_count l) bytes) } ≡ source) where
  pub seen-layout : l ≡ source.layout
  seen-layout = ap (λ (s : Source). s.layout) seen

  pub seen-length : length source.words ≡ text_count l
  seen-length = sym (ap (λ (s : Source). length s.words) seen) ∙ originals-length gated (words_at offset (text_count l) bytes) ∙ words_at-length offset (text_count l) bytes

  pub seen-word : (i : ℕ) → i < length source.words → original_word gated (word_at (offset + 4 * i) bytes) ≡ slice_index source.words i
  seen-word i below =
      let within : i < text_count l = omega (arith, seen-length) in
      let there : i < length (words_at offset (text_count l) bytes) = omega (arith, within, words_at-length offset (text_count l) bytes) in
      sym (ap (original_word gated) (words_at-index offset (text_count l) i bytes within)) ∙ sym (originals-index gated (words_at offset (text_count l) bytes) i there) ∙ ap (λ (s : Source). slice_index s.words i) seen

-- an image's text is made of words
pub text_words-whole : (bytes : List ℕ) (version : Version) (image : Image) → IsImage bytes version image → 4 * length (text_words bytes image) ≡ image.text_end - image.text_start
text_words-whole bytes version image h =
    let count : length (text_words bytes image) ≡ (image.text_end - image.text_start) / 4 = text_words-length bytes image (layout_of image 1 version) h refl refl in
    omega (arith, count, h.text.start_aligned, h.text.end_aligned, h.text.some)
