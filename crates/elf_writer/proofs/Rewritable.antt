-- An accepted file can be rewritten, with the code that belongs to its text.
use Rattle.std.proofs.Common.{◌≡◌, ℕ, zero, suc, ◌+◌, ◌-◌, ◌*◌, ◌/◌, ◌≤◌, List, [], ◌∷◌, ◌++◌, length, map, take, drop, replicate, arith, sym, ap, subst, refl, ◌∙◌, Option, Some, None, slice_get, IsTrue, length-append}
use Rattle.std.specs.List.{flat_map}
use Rattle.std.proofs.lemmas.List.{length-take, length-map, take_at, drop_at, drop-drop}
use Rattle.spec_base.specs.Layout.{is_lawful}
use Rattle.spec_base.specs.declared.layout.Layout.{Layout}
use Rattle.rv_decode.specs.Instruction.{instr_of}
use Rattle.rv_decode.specs.Encoding.{word_of}
use Rattle.rv_decode.specs.declared.instr.Instr.{Instr}
use Rattle.rv_decode.specs.declared.instr.Instr.TheVariants.{Illegal}
use Rattle.code_model.specs.Patch.{patched_word}
use Rattle.elf_image.specs.Profile.{code_of}
use Rattle.code_model.specs.Blocks.{blocks_from, with_pad, words_of, park_words}
use Rattle.code_model.specs.Helpers.{helpers}
use Rattle.code_model.specs.Stub.{stub}
use Rattle.elf_image.specs.declared.image.Image.{Image}
use Rattle.elf_image.specs.declared.segments.Segment.{Segment}
use Rattle.elf_image.specs.Image.{IsImage, words_at, words_in, text_words}
use Rattle.elf_writer.specs.FileParts.{text_count}
use Rattle.elf_writer.specs.RewrittenFile.{IsRewritable, IsCodeOf}
use Rattle.elf_writer.specs.ProgramCode.{shadow_words, code_of_text}

-- the layout of an accepted image's text is lawful
lawful_layout : (bytes : List ℕ) (image : Image) (l : Layout) → IsImage bytes l.version image → l.text_start ≡ image.text_start → l.text_end ≡ image.text_end
    → 1 ≤ l.regions → l.regions ≤ 65_536 → IsTrue (is_lawful l)
lawful_layout bytes image l h start end some few =
    subst (λ s. IsTrue (is_lawful (record { text_start = s; text_end = l.text_end; regions = l.regions; version = l.version }))) (sym start)
    (subst (λ e. IsTrue (is_lawful (record { text_start = image.text_start; text_end = e; regions = l.regions; version = l.version }))) (sym end)
    (h.lawful l.regions some few))

-- an accepted image can be rewritten
pub IsRewritable-image : (bytes : List ℕ) (image : Image) (l : Layout) → IsImage bytes l.version image → l.text_start ≡ image.text_start → l.text_end ≡ image.text_end
    → 1 ≤ l.regions → l.regions ≤ 65_536 → IsRewritable bytes image l
IsRewritable-image bytes image l h start end some few = record {
  few_segments = h.few_segments;
  placed = h.placed;
  text_start = start;
  text_end = end;
  lawful = lawful_layout bytes image l h start end some few;
}

-- ---- the code of a text has the lengths of its layout

words_at-length : (offset n : ℕ) (bytes : List ℕ) → length (words_at offset n bytes) ≡ n
words_at-length offset zero bytes = refl
words_at-length offset (suc n) bytes = ap suc (words_at-length (offset + 4) n bytes)

words_in-length : (code : Option Segment) (s : Segment) (bytes : List ℕ) (image : Image) → code ≡ Some s
    → length (words_in code bytes image) ≡ (image.text_end - image.text_start) / 4
words_in-length (Some t) s bytes image e = words_at-length _ ((image.text_end - image.text_start) / 4) bytes
words_in-length None s bytes image e = absurd cc

-- the text of an accepted image has a word for each 4 bytes
pub text_words-length : (bytes : List ℕ) (image : Image) (l : Layout) → IsImage bytes l.version image → l.text_start ≡ image.text_start → l.text_end ≡ image.text_end
    → length (text_words bytes image) ≡ text_count l
unfolding text_words
text_words-length bytes image l h start end =
    words_in-length (code_of image.segments) h.text.code bytes image h.text.code_is
    ∙ ap (λ s. (image.text_end - s) / 4) (sym start) ∙ ap (λ e. (e - l.text_start) / 4) (sym end)

-- each block has so many words
abbrev AreOf : ℕ → List (List Instr) → Type 0
AreOf n [] = Unit {0}
AreOf n (b ∷ bs) = (length b ≡ n) × AreOf n bs

with_pad-length : (words : List Instr) → length (with_pad words) ≡ 16
with_pad-length words =
    let pad : length (words ++ replicate 15 Illegal) ≡ length words + 15 = length-append words (replicate 15 Illegal) in
    let front : length (take 15 (words ++ replicate 15 Illegal)) ≡ 15 = omega (arith, pad, length-take 15 (words ++ replicate 15 Illegal)) in
    ap suc front

blocks_from-AreOf : (l : Layout) (p : ℕ) (text : List Instr) → AreOf 16 (blocks_from l p text)
blocks_from-AreOf l p [] = (with_pad-length park_words, tt)
blocks_from-AreOf l p (i ∷ text) = (with_pad-length (words_of l p i), blocks_from-AreOf l (p + 4) text)

blocks_from-length : (l : Layout) (p : ℕ) (text : List Instr) → length (blocks_from l p text) ≡ length text + 1
blocks_from-length l p [] = refl
blocks_from-length l p (i ∷ text) = ap suc (blocks_from-length l (p + 4) text) ∙ omega arith

joined-length : (n : ℕ) (bs : List (List Instr)) → AreOf n bs → length (flat_map (map word_of) bs) ≡ n * length bs
joined-length n [] h = omega arith
joined-length n (b ∷ bs) h =
    length-append (map word_of b) (flat_map (map word_of) bs) ∙ ap (λ k. k + length (flat_map (map word_of) bs)) (length-map b word_of ∙ h.0)
    ∙ ap (λ k. n + k) (joined-length n bs h.1) ∙ next_multiple n (length bs)
  where
    next_multiple : (n m : ℕ) → n + n * m ≡ n * suc m
    next_multiple n m = grind arith

-- a block among those that are joined
joined-block : (n : ℕ) (bs : List (List Instr)) (i : ℕ) (b : List Instr) → AreOf n bs → slice_get bs i ≡ Some b
    → take n (drop (n * i) (flat_map (map word_of) bs)) ≡ map word_of b
joined-block n [] i b h found = absurd cc
joined-block n (a ∷ bs) zero b h found =
    let same : a ≡ b = cc in
    let start : n * 0 ≡ 0 = omega arith in
    ap (λ k. take n (drop k (map word_of a ++ flat_map (map word_of) bs))) start
    ∙ take_at (map word_of a) (flat_map (map word_of) bs) n (length-map a word_of ∙ h.0) ∙ ap (map word_of) same
joined-block n (a ∷ bs) (suc i) b h found =
    let long : length (map word_of a) ≡ n = length-map a word_of ∙ h.0 in
    let place : n * suc i ≡ n + n * i = grind arith in
    ap (λ k. take n (drop k (map word_of a ++ flat_map (map word_of) bs))) place
    ∙ ap (take n) (sym (drop-drop (n * i) n (map word_of a ++ flat_map (map word_of) bs)) ∙ ap (drop (n * i)) (drop_at (map word_of a) (flat_map (map word_of) bs) n long))
    ∙ joined-block n bs i b h.1 found

-- block i of the shadow text, as a source has to give it
pub shadow_words-block : (l : Layout) (words : List ℕ) (i : ℕ) (b : List Instr) → slice_get (blocks_from l l.text_start (map instr_of words)) i ≡ Some b
    → take 16 (drop (16 * i) (shadow_words l words)) ≡ map word_of b
unfolding shadow_words
shadow_words-block l words i b found =
    joined-block 16 (blocks_from l l.text_start (map instr_of words)) i b (blocks_from-AreOf l l.text_start (map instr_of words)) found

-- the code of a text has a word of each list where its layout asks for one
pub code_of_text-IsCodeOf : (l : Layout) (words : List ℕ) → length words ≡ text_count l → IsCodeOf l (code_of_text l words)
unfolding code_of_text shadow_words
code_of_text-IsCodeOf l words long = record {
  text = length-map words patched_word ∙ long;
  shadow = joined-length 16 (blocks_from l l.text_start (map instr_of words)) (blocks_from-AreOf l l.text_start (map instr_of words))
      ∙ ap (λ n. 16 * n) (blocks_from-length l l.text_start (map instr_of words) ∙ ap (λ n. n + 1) (length-map words instr_of ∙ long));
  helpers = length-map (helpers l) word_of;
  stub = length-map stub word_of;
}
