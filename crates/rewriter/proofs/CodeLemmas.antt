-- The lists of a program's code, one word and one block at a time.
use Rattle.std.proofs.Common.{◌≡◌, ℕ, zero, suc, ◌+◌, ◌*◌, ◌<◌, List, [], ◌∷◌, length, map, get_or, slice_index, slice_get, take, drop, Some, arith, ap, refl, sym, subst, ◌∙◌}
use Rattle.std.specs.List.{flat_map}
use Rattle.std.proofs.lemmas.List.{get_or-map, length-map}
use Rattle.spec_base.specs.declared.layout.Layout.{Layout}
use Rattle.spec_base.specs.declared.layout.Version.{Version}
use Rattle.rv_decode.specs.Instruction.{instr_of}
use Rattle.rv_decode.specs.Encoding.{word_of}
use Rattle.rv_decode.specs.declared.instr.Instr.{Instr}
use Rattle.rv_decode.specs.declared.instr.Instr.TheVariants.{Illegal}
use Rattle.code_model.specs.Patch.{patched_word}
use Rattle.code_model.specs.Blocks.{block, blocks_from, guard_block}
use Rattle.code_model.specs.Helpers.{helpers}
use Rattle.code_model.specs.Stub.{stub}
use Rattle.elf_image.specs.declared.image.Image.{Image}
use Rattle.elf_image.specs.Image.{IsImage, text_words}
use Rattle.elf_writer.specs.FileParts.{text_count}
use Rattle.elf_writer.specs.RewrittenFile.{Code, IsCodeOf}
use Rattle.elf_writer.specs.ProgramCode.{shadow_words, code_of_text}
use Rattle.elf_writer.proofs.Rewritable.{shadow_words-block, code_of_text-IsCodeOf, text_words-length}
use Rattle.rewriter.specs.Layouts.{layout_of}
use Rattle.rewriter.specs.Sources.{Source, code_from}

-- ---- patched text

pub code-text-length : (l : Layout) (words : List ℕ) → length (code_of_text l words).text ≡ length words
unfolding code_of_text
code-text-length l words = length-map words patched_word

pub code-text-index : (l : Layout) (words : List ℕ) (i : ℕ) → i < length words → slice_index (code_of_text l words).text i ≡ patched_word (slice_index words i)
unfolding code_of_text
code-text-index l words i below = get_or-map patched_word words i 0 0 below

-- ---- shadow text

blocks_from-index : (l : Layout) (p : ℕ) (text : List Instr) (i : ℕ) → i < length text → slice_get (blocks_from l p text) i ≡ Some (block l (p + 4 * i) (get_or text i Illegal))
blocks_from-index l p [] i below = absurd (omega arith)
blocks_from-index l p (instr ∷ text) zero below =
    let same : p ≡ p + 4 * 0 = omega arith in
    ap (λ k. Some (block l k instr)) same
blocks_from-index l p (instr ∷ text) (suc i) below =
    let same : p + 4 + 4 * i ≡ p + 4 * suc i = omega arith in
    blocks_from-index l (p + 4) text i (omega arith) ∙ ap (λ k. Some (block l k (get_or text i Illegal))) same

blocks_from-last : (l : Layout) (p : ℕ) (text : List Instr) → slice_get (blocks_from l p text) (length text) ≡ Some guard_block
blocks_from-last l p [] = refl
blocks_from-last l p (instr ∷ text) = blocks_from-last l (p + 4) text

pub code-shadow-block : (l : Layout) (words : List ℕ) (i : ℕ) → i < length words
    → take 16 (drop (16 * i) (code_of_text l words).shadow) ≡ map word_of (block l (l.text_start + 4 * i) (instr_of (slice_index words i)))
unfolding code_of_text
code-shadow-block l words i below =
    let within : i < length (map instr_of words) = omega (arith, length-map words instr_of) in
    shadow_words-block l words i (block l (l.text_start + 4 * i) (instr_of (slice_index words i)))
    (blocks_from-index l l.text_start (map instr_of words) i within
    ∙ ap (λ instr. Some (block l (l.text_start + 4 * i) instr)) (get_or-map instr_of words i 0 Illegal below))

pub code-shadow-last : (l : Layout) (words : List ℕ) (i : ℕ) → i ≡ length words → take 16 (drop (16 * i) (code_of_text l words).shadow) ≡ map word_of guard_block
unfolding code_of_text
code-shadow-last l words i last =
    let same : i ≡ length (map instr_of words) = last ∙ sym (length-map words instr_of) in
    shadow_words-block l words i guard_block
    (ap (slice_get (blocks_from l l.text_start (map instr_of words))) same ∙ blocks_from-last l l.text_start (map instr_of words))

-- a list that has this block is as long as all blocks before the last
pub code-shadow-length : (l : Layout) (words : List ℕ) → length words ≡ text_count l → length (code_of_text l words).shadow ≡ 16 * (length words + 1)
code-shadow-length l words long = (code_of_text-IsCodeOf l words long).shadow ∙ ap (λ n. 16 * (n + 1)) (sym long)

-- ---- helpers and stub

pub code-helpers : (source : Source) (l : Layout) (held : List ℕ) → l ≡ source.layout → held ≡ map word_of (helpers l) → held ≡ (code_from source).helpers
unfolding code_of_text
code-helpers source l held same is = is ∙ ap (λ (k : Layout). map word_of (helpers k)) same

pub code-stub : (source : Source) (held : List ℕ) → held ≡ map word_of stub → held ≡ (code_from source).stub
unfolding code_of_text
code-stub source held is = is

-- ---- all of it

code-parts : (k : Layout) (seen text shadow helping performing : List ℕ)
    → text ≡ map patched_word seen → shadow ≡ flat_map (map word_of) (blocks_from k k.text_start (map instr_of seen))
    → helping ≡ map word_of (helpers k) → performing ≡ map word_of stub
    → record { text = text; shadow = shadow; helpers = helping; stub = performing } ≡ code_of_text k seen
unfolding code_of_text shadow_words
code-parts k seen text shadow helping performing is_text is_shadow is_helping is_performing =
    ap (λ (ws : List ℕ). record { text = ws; shadow = shadow; helpers = helping; stub = performing }) is_text
    ∙ ap (λ (ws : List ℕ). record { text = map patched_word seen; shadow = ws; helpers = helping; stub = performing }) is_shadow
    ∙ ap (λ (ws : List ℕ). record { text = map patched_word seen; shadow = shadow_words k seen; helpers = ws; stub = performing }) is_helping
    ∙ ap (λ (ws : List ℕ). record { text = map patched_word seen; shadow = shadow_words k seen; helpers = map word_of (helpers k); stub = ws }) is_performing

pub code-listed : (l k : Layout) (words seen text shadow helping performing : List ℕ) → k ≡ l → seen ≡ words
    → text ≡ map patched_word seen → shadow ≡ flat_map (map word_of) (blocks_from k k.text_start (map instr_of seen))
    → helping ≡ map word_of (helpers k) → performing ≡ map word_of stub
    → record { text = text; shadow = shadow; helpers = helping; stub = performing } ≡ code_of_text l words
code-listed l k words seen text shadow helping performing same read is_text is_shadow is_helping is_performing =
    subst (λ (m : Layout). record { text = text; shadow = shadow; helpers = helping; stub = performing } ≡ code_of_text m words) same
    (subst (λ (ws : List ℕ). record { text = text; shadow = shadow; helpers = helping; stub = performing } ≡ code_of_text k ws) read
    (code-parts k seen text shadow helping performing is_text is_shadow is_helping is_performing))

-- the code of an accepted file has the lengths of its layout
pub IsCodeOf-image : (bytes : List ℕ) (image : Image) (regions : ℕ) (version : Version) (l : Layout) (code : Code) → IsImage bytes version image
    → l ≡ layout_of image regions version → code ≡ code_of_text (layout_of image regions version) (text_words bytes image) → IsCodeOf l code
IsCodeOf-image bytes image regions version l code h same is =
    subst (λ (k : Layout). IsCodeOf k code) (sym same)
    (subst (IsCodeOf (layout_of image regions version)) (sym is)
    (code_of_text-IsCodeOf (layout_of image regions version) (text_words bytes image)
    (text_words-length bytes image (layout_of image regions version) h refl refl)))
