-- The bodies of a rewritten file: the words of its text, and the bytes of its segments, put again.
use Rattle.std.proofs.Common.{◌≡◌, ℕ, ◌+◌, ◌-◌, ◌/◌, ◌^◌, ◌<◌, ◌≤◌, Bool, true, false, cond, List, [], ◌∷◌, ◌++◌, length, map, take, drop, Some, refl, sym, ap, subst, arith, ◌∙◌, length-append, append_assoc}
use Rattle.std.specs.Prelude.{All}
use Rattle.std.proofs.lemmas.Bool.Decides.{nat_tests}
use Rattle.std.proofs.lemmas.List.{length-take, take_at, drop_at}
use Rattle.std.proofs.lemmas.List.Elements.{All-head, All-tail}
use Rattle.spec_base.specs.declared.layout.Layout.{Layout}
use Rattle.elf_image.specs.declared.segments.Segment.{Segment}
use Rattle.elf_image.specs.declared.image.Image.{Image}
use Rattle.elf_image.specs.Segments.{is_code}
use Rattle.elf_image.specs.Profile.{code_of}
use Rattle.elf_image.specs.Image.{IsImage, words_at, words_in, text_words}
use Rattle.elf_writer.specs.FileParts.{FilePart, segment_part, end_of_part, file_offset, body_start}
use Rattle.elf_writer.specs.RewrittenFile.{HasWords, word_bytes, original_bytes, holds_text, patched_if, segment_bytes}
use Rattle.elf_writer.specs.Places.{StandsAt, PartsStand}
use Rattle.elf_writer.proofs.FileLemmas.{InFile, word_bytes-length, original-length}
use Rattle.recovery_laws.specs.Moved.{moved_segments, moved_image}
use Rattle.recovery_laws.proofs.Standing.{StandsAt-front, StandsAt-back, takes-standing, words-back}

-- a segment at another offset
abbrev pub at_offset : Segment → ℕ → Segment
at_offset s offset = record { address = s.address; size = s.size; flags = s.flags; offset = offset; length = s.length }

-- ---- the bytes of the segments

module _ (bytes : List ℕ) (image : Image) (words : List ℕ) (file : List ℕ) where
  -- the moved segments' bytes in the file are those that were put
  pub originals-are : (ss : List Segment) (cursor : ℕ) (ps : List FilePart) (cs : List (List ℕ))
      → PartsStand cursor (map segment_part ss ++ ps) (map (segment_bytes bytes image words) ss ++ cs) file
      → map (original_bytes file) (moved_segments cursor ss) ≡ map (segment_bytes bytes image words) ss
  originals-are [] cursor ps cs h = refl
  originals-are (s ∷ ss) cursor ps cs h =
      let here : original_bytes file (at_offset s (file_offset cursor s.address)) ≡ segment_bytes bytes image words s =
      takes-standing s.length (file_offset cursor s.address) (segment_bytes bytes image words s) file h.0 h.1 in
      λ i. here i ∷ originals-are ss (end_of_part cursor (segment_part s)) ps cs h.2 i

  -- what stands of the segment with the text
  pub record HasCode (cursor : ℕ) (ss : List Segment) (s : Segment) : Type 0 where
    pub offset : ℕ
    pub moved : code_of (moved_segments cursor ss) ≡ Some (at_offset s offset)
    pub long : length (segment_bytes bytes image words s) ≡ s.length
    pub stands : 0 < s.length → StandsAt offset (segment_bytes bytes image words s) file

  code-by : (b : Bool) (t s : Segment) (cursor : ℕ) (ss : List Segment) (ps : List FilePart) (cs : List (List ℕ)) → is_code t ≡ b
      → (code_of ss ≡ Some s → HasCode (end_of_part cursor (segment_part t)) ss s)
      → (length (segment_bytes bytes image words t) ≡ t.length) × (0 < t.length → StandsAt (file_offset cursor t.address) (segment_bytes bytes image words t) file)
      → cond b (Some t) (code_of ss) ≡ Some s → HasCode cursor (t ∷ ss) s
  code-by true t s cursor ss ps cs is later here e =
      let same : t ≡ s = cc in
      subst (HasCode cursor (t ∷ ss)) same (record {
        offset = file_offset cursor t.address;
        moved = ap (λ b. cond b (Some (at_offset t (file_offset cursor t.address))) (code_of (moved_segments (end_of_part cursor (segment_part t)) ss))) is;
        long = here.0;
        stands = here.1;
      })
  code-by false t s cursor ss ps cs is later here e =
      let rest = later e in
      record {
        offset = rest.offset;
        moved =
            ap (λ b. cond b (Some (at_offset t (file_offset cursor t.address))) (code_of (moved_segments (end_of_part cursor (segment_part t)) ss))) is
            ∙ rest.moved;
        long = rest.long;
        stands = rest.stands;
      }

  pub code-stands : (ss : List Segment) (cursor : ℕ) (ps : List FilePart) (cs : List (List ℕ)) (s : Segment)
      → PartsStand cursor (map segment_part ss ++ ps) (map (segment_bytes bytes image words) ss ++ cs) file
      → code_of ss ≡ Some s → HasCode cursor ss s
  code-stands [] cursor ps cs s h e = absurd (cc)
  code-stands (t ∷ ss) cursor ps cs s h e =
      code-by (is_code t) t s cursor ss ps cs refl (code-stands ss (end_of_part cursor (segment_part t)) ps cs s h.2) (h.0, h.1) e

-- ---- the words of the text

holds-it : (bytes : List ℕ) (image : Image) (s : Segment) → s.address ≤ image.text_start → image.text_end ≤ s.address + s.length → holds_text image s ≡ true
holds-it bytes image s after before = grind (arith, nat_tests)

-- the words stand behind the bytes before the text
words-stand : (bytes : List ℕ) (image : Image) (words : List ℕ) (file : List ℕ) (s : Segment) (o : ℕ) → s.address ≤ image.text_start → image.text_start ≤ s.address + s.length
    → length (original_bytes bytes s) ≡ s.length → holds_text image s ≡ true → StandsAt o (segment_bytes bytes image words s) file
    → StandsAt (o + (image.text_start - s.address)) (word_bytes words) file
words-stand bytes image words file s o after before long holds h =
    let original : List ℕ = original_bytes bytes s in
    let k : ℕ = image.text_start - s.address in
    let front : length (take k original) ≡ k = omega (arith, length-take k original, long, after, before) in
    let all : StandsAt o (take k original ++ word_bytes words ++ drop (image.text_end - s.address) original) file =
    subst (λ b. StandsAt o (patched_if b image words s original) file) holds h in
    StandsAt-back o k (take k original) (word_bytes words) file front
    (StandsAt-front o (take k original ++ word_bytes words) (drop (image.text_end - s.address) original) file all)

pub words-are : (bytes : List ℕ) (image : Image) (l : Layout) (words : List ℕ) (file : List ℕ) (cursor : ℕ) (ps : List FilePart) (cs : List (List ℕ))
    → IsImage bytes l.version image → All (λ w. w < 2 ^ 32) words → length words ≡ (image.text_end - image.text_start) / 4
    → cursor ≡ body_start image
    → PartsStand cursor (map segment_part image.segments ++ ps) (map (segment_bytes bytes image words) image.segments ++ cs) file
    → text_words file (moved_image image) ≡ words
unfolding text_words
words-are bytes image l words file cursor ps cs h small count at stands =
    let s : Segment = h.text.code in
    let code = code-stands bytes image words file image.segments cursor ps cs s stands h.text.code_is in
    let long : length (original_bytes bytes s) ≡ s.length = original-length bytes s (λ some. h.text.in_file) in
    let some : 0 < s.length = omega (arith, h.text.after, h.text.before, h.text.some) in
    let place : StandsAt (code.offset + (image.text_start - s.address)) (word_bytes words) file =
    words-stand bytes image words file s code.offset h.text.after (omega (arith, h.text.some, h.text.before)) long
    (holds-it bytes image s h.text.after h.text.before) (code.stands some) in
    let moved : code_of (moved_segments (body_start image) image.segments) ≡ Some (at_offset s code.offset) =
    subst (λ k. code_of (moved_segments k image.segments) ≡ Some (at_offset s code.offset)) at code.moved in
    ap (λ o. words_in o file (moved_image image)) moved
    ∙ ap (λ n. words_at (code.offset + (image.text_start - s.address)) n file) (sym count)
    ∙ words-back words (code.offset + (image.text_start - s.address)) file small place

-- ---- segments, patched again

-- the same words in the same place
patched-again : (b : Bool) (image : Image) (words : List ℕ) (s : Segment) (original : List ℕ) → HasWords image words → length original ≡ s.length
    → b ≡ holds_text image s → patched_if b image words s (patched_if b image words s original) ≡ patched_if b image words s original
patched-again false image words s original text long holds = refl
patched-again true image words s original text long holds =
    let after : s.address ≤ image.text_start = grind (arith, nat_tests) in
    let before : image.text_end ≤ s.address + s.length = grind (arith, nat_tests) in
    let k : ℕ = image.text_start - s.address in
    let e : ℕ = image.text_end - s.address in
    let front : length (take k original) ≡ k = omega (arith, length-take k original, long, after, before, text.ordered) in
    let both : length (take k original ++ word_bytes words) ≡ e =
    length-append (take k original) (word_bytes words) ∙ omega (arith, front, word_bytes-length words, text.counted, text.ordered, after) in
    let one : take k (take k original ++ word_bytes words ++ drop e original) ≡ take k original =
    ap (take k) (append_assoc (take k original) (word_bytes words) (drop e original)) ∙ take_at (take k original) (word_bytes words ++ drop e original) k front in
    let two : drop e (take k original ++ word_bytes words ++ drop e original) ≡ drop e original =
    drop_at (take k original ++ word_bytes words) (drop e original) e both in
    λ i. one i ++ word_bytes words ++ two i

-- moving changes nothing of what is patched
moved-patched : (b : Bool) (image : Image) (words : List ℕ) (s : Segment) (offset : ℕ) (original : List ℕ)
    → patched_if b (moved_image image) words (at_offset s offset) original ≡ patched_if b image words s original
moved-patched false image words s offset original = refl
moved-patched true image words s offset original = refl

-- the segments of the moved image have the same bytes
pub segments-again : (bytes : List ℕ) (image : Image) (words : List ℕ) (file : List ℕ) (ss : List Segment) (cursor : ℕ) → HasWords image words → All (InFile bytes) ss
    → map (original_bytes file) (moved_segments cursor ss) ≡ map (segment_bytes bytes image words) ss
    → map (segment_bytes file (moved_image image) words) (moved_segments cursor ss) ≡ map (segment_bytes bytes image words) ss
segments-again bytes image words file [] cursor text placed h = refl
segments-again bytes image words file (s ∷ ss) cursor text placed h =
    let c = end_of_part cursor (segment_part s) in
    let here : original_bytes file (at_offset s (file_offset cursor s.address)) ≡ segment_bytes bytes image words s = cc in
    let later : map (original_bytes file) (moved_segments c ss) ≡ map (segment_bytes bytes image words) ss = cc in
    let one : segment_bytes file (moved_image image) words (at_offset s (file_offset cursor s.address)) ≡ segment_bytes bytes image words s =
    moved-patched (holds_text image s) image words s (file_offset cursor s.address) (original_bytes file (at_offset s (file_offset cursor s.address)))
    ∙ ap (patched_if (holds_text image s) image words s) here
    ∙ patched-again (holds_text image s) image words s (original_bytes bytes s) text (original-length bytes s (All-head (InFile bytes) s ss placed)) refl in
    λ i. one i ∷ segments-again bytes image words file ss c text (All-tail (InFile bytes) s ss placed) later i
