-- The loops that make an image and its text go on by one.
use Rattle.std.proofs.Common.{◌≡◌, ℕ, zero, suc, ◌+◌, ◌-◌, ◌*◌, ◌/◌, Some, List, [], ◌∷◌, ◌++◌, refl, sym, ap, arith, add-one, ◌∙◌}
use Rattle.elf_image.specs.declared.segments.ProgramHeader.{ProgramHeader}
use Rattle.elf_image.specs.declared.segments.Segment.{Segment}
use Rattle.elf_image.specs.Fields.{word_at}
use Rattle.elf_image.specs.Segments.{entry_at, first_entries, is_loaded, segment_of, segments_in, piece}
use Rattle.elf_image.specs.declared.image.Image.{Image}
use Rattle.elf_image.specs.Profile.{code_of}
use Rattle.elf_image.specs.Image.{words_at, text_words}
use Rattle.elf_image.proofs.SegmentLemmas.{segments_in-more}

pub segments-next : (start n : ℕ) (bytes : List ℕ) (ss next : List Segment) (e : ProgramHeader)
    → ss ≡ segments_in (first_entries start n bytes) → e ≡ entry_at start n bytes → next ≡ ss ++ piece (is_loaded e) (segment_of e)
    → next ≡ segments_in (first_entries start (n + 1) bytes)
segments-next start n bytes ss next e so_far here is =
    rw (add-one, segments_in-more (first_entries start n bytes) (entry_at start n bytes), is, so_far, here) refl

words-more : (offset n : ℕ) (bytes : List ℕ) → words_at offset (suc n) bytes ≡ words_at offset n bytes ++ word_at (offset + 4 * n) bytes ∷ []
words-more offset zero bytes = let same : offset + 4 * 0 ≡ offset = omega arith in rw same refl
words-more offset (suc n) bytes =
    let same : offset + 4 + 4 * n ≡ offset + 4 * suc n = omega arith in
    ap (λ ws. word_at offset bytes ∷ ws) (words-more (offset + 4) n bytes ∙ ap (λ k. words_at (offset + 4) n bytes ++ word_at k bytes ∷ []) same)

pub words-next : (offset n : ℕ) (bytes ws next : List ℕ) (w : ℕ) → ws ≡ words_at offset n bytes → w ≡ word_at (offset + 4 * n) bytes
    → next ≡ ws ++ w ∷ [] → next ≡ words_at offset (n + 1) bytes
words-next offset n bytes ws next w so_far here is = rw (add-one, words-more offset n bytes, is, so_far, here) refl

-- the words of a text by the executable segment that was found
pub text_words-is : (bytes : List ℕ) (viewed image : Image) (s : Segment) → viewed ≡ image → code_of viewed.segments ≡ Some s
    → words_at (s.offset + (viewed.text_start - s.address)) ((viewed.text_end - viewed.text_start) / 4) bytes ≡ text_words bytes image
unfolding text_words
text_words-is bytes viewed image s same found =
    let here : text_words bytes viewed ≡ words_at (s.offset + (viewed.text_start - s.address)) ((viewed.text_end - viewed.text_start) / 4) bytes =
    rw found refl in
    sym here ∙ ap (text_words bytes) same
