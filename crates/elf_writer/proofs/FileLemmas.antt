-- The rewritten file's parts: their sizes and their bytes.
use Rattle.std.proofs.Common.{◌≡◌, ℕ, ◌+◌, ◌-◌, ◌*◌, ◌%◌, ◌<◌, ◌≤◌, Bool, true, false, List, [], ◌∷◌, ◌++◌, length, map, take, drop, replicate, get_or, arith, sym, ap, subst, refl, ◌∙◌, append_assoc, length-append, add-one}
use Rattle.std.specs.Prelude.{All, IsTrue, ◌==◌, if◌then◌else◌}
use Rattle.std.proofs.Math.Seq.{drop-cons}
use Rattle.std.proofs.lemmas.Bool.Decides.{nat_tests}
use Rattle.std.proofs.lemmas.List.{append-nil, length-take, length-drop, length-map, length-replicate, take_all}
use Rattle.std.proofs.lemmas.List.Elements.{All-from_recursion, All-append, All-map, All-weaker, All-head, All-tail}
use Rattle.spec_base.specs.Layout.{image_limit, is_lawful}
use Rattle.spec_base.specs.declared.layout.Version.{Version}
use Rattle.spec_base.specs.declared.layout.Version.TheVariants.{One, Two}
use Rattle.spec_base.specs.declared.layout.Layout.{Layout}
use Rattle.elf_image.specs.declared.segments.Segment.{Segment}
use Rattle.elf_image.specs.declared.image.Image.{Image}
use Rattle.elf_image.specs.Image.{IsPlaced}
use Rattle.elf_writer.specs.declared.part.Part.{Part}
use Rattle.elf_writer.specs.FileParts.{segment_part, shadow_part, helpers_part, stub_part, shadow_parts, file_parts, file_offset, end_of_part, end_of_parts, entries_from, part_entry, placed, body_from, text_count, body_start, record_entry, file_header, table_bytes, record_bytes, file_length}
use Rattle.elf_writer.specs.Headers.{word, entry_bytes, header_bytes}
use Rattle.elf_writer.specs.RewrittenFile.{Code, HasWords, segments_body, IsShort, IsWritable, IsRewritable, IsCodeOf, word_bytes, original_bytes, holds_text, patched_if, segment_bytes, shadow_contents, contents, rewritten_file}
use Rattle.elf_writer.specs.Streams.{Gives}
use Rattle.elf_writer.proofs.StreamLemmas.{Toward, step-Toward, stop-Toward}
use Rattle.world_io.specs.Outside.{SinkState}

-- ---- lawful layouts

-- what a lawful layout's numbers are
pub record HasText (l : Layout) : Type 0 where
  pub start_aligned : l.text_start % 4 ≡ 0
  pub end_aligned : l.text_end % 4 ≡ 0
  pub ordered : l.text_start ≤ l.text_end
  pub below : l.text_end ≤ 0x4000_0000
  pub few : l.text_end - l.text_start ≤ 1_048_576

pub image_limit-few : (v : Version) → image_limit v ≤ 0x4000_0000
image_limit-few One = omega arith
image_limit-few Two = omega arith

pub lawful-HasText : (l : Layout) → IsTrue (is_lawful l) → HasText l
lawful-HasText l h = (let limit = image_limit-few l.version in record {
  start_aligned = grind (arith, nat_tests);
  end_aligned = grind (arith, nat_tests);
  ordered = grind (arith, nat_tests);
  below = grind (arith, nat_tests);
  few = grind (arith, nat_tests);
})

-- ---- short parts

pub shadow-short : (l : Layout) → HasText l → All IsShort (shadow_parts l)
shadow-short l text =
    let blocks : 64 * (text_count l + 1) ≤ 0x4000_0000 = omega (arith, text.few) in
    All-from_recursion IsShort (shadow_parts l) (blocks, (omega arith, (omega arith, (omega arith, (omega arith, (omega arith, (omega arith, tt)))))))

-- all parts of what can be written are short
pub all-short : (image : Image) (l : Layout) → IsWritable image l → All IsShort (file_parts image l)
all-short image l h =
    All-append IsShort (map segment_part image.segments) (shadow_parts l) (All-map IsShort segment_part image.segments h.short)
    (shadow-short l (lawful-HasText l h.lawful))

-- the same of lists that are known to be these
pub all_short-same : (image : Image) (l : Layout) (ss : List Segment) (shadow : List Part) → IsWritable image l → ss ≡ image.segments → shadow ≡ shadow_parts l
    → All IsShort (map segment_part ss ++ shadow)
all_short-same image l ss shadow h e f =
    subst (λ ps. All IsShort (map segment_part ss ++ ps)) (sym f) (subst (λ k. All IsShort (map segment_part k ++ shadow_parts l)) (sym e) (all-short image l h))

-- the first of short parts is short
pub short-first : (ps rest : List Part) (p : Part) → All IsShort ps → ps ≡ p ∷ rest → IsShort p
short-first ps rest p h e = All-head IsShort p rest (subst (λ qs. All IsShort qs) e h)

-- what can be rewritten can be written
pub IsWritable-rewritable : (bytes : List ℕ) (image : Image) (l : Layout) → IsRewritable bytes image l → IsWritable image l
IsWritable-rewritable bytes image l h = record {
  few_segments = h.few_segments;
  short = All-weaker (IsPlaced (image_limit l.version) bytes) (λ s. s.length ≤ 0x4000_0000)
      (λ s p. (let limit = image_limit-few l.version in omega (arith, p.fits, p.below))) image.segments h.placed;
  lawful = h.lawful;
}

-- ---- the cursor

pub file_offset-near : (cursor address : ℕ) → file_offset cursor address ≤ cursor + 4095
file_offset-near cursor address = omega arith

-- the cursor goes on by at most the part and a page
pub end-near : (cursor n : ℕ) (p : Part) → IsShort p → cursor ≤ 4136 + 0x4000_1000 * n → end_of_part cursor p ≤ 4136 + 0x4000_1000 * (n + 1)
end-near cursor n p short near = (let offset = file_offset-near cursor p.p_vaddr in grind (arith, nat_tests))

-- ---- entries

-- the entry of the next part comes first
pub entries_from-next : (cursor : ℕ) (ps rest : List Part) (p : Part) → ps ≡ p ∷ rest
    → entries_from cursor ps ≡ entry_bytes (part_entry cursor p) ++ entries_from (end_of_part cursor p) rest
entries_from-next cursor ps rest p e = ap (entries_from cursor) e

pub entries_from-length : (cursor : ℕ) (ps : List Part) → length (entries_from cursor ps) ≡ 56 * length ps
entries_from-length cursor [] = refl
entries_from-length cursor (p ∷ ps) =
    length-append (entry_bytes (part_entry cursor p)) (entries_from (end_of_part cursor p) ps)
    ∙ ap (λ n. 56 + n) (entries_from-length (end_of_part cursor p) ps) ∙ omega arith

-- ---- bodies

pub end_of_parts-append : (cursor : ℕ) (ps qs : List Part) → end_of_parts cursor (ps ++ qs) ≡ end_of_parts (end_of_parts cursor ps) qs
end_of_parts-append cursor [] qs = refl
end_of_parts-append cursor (p ∷ ps) qs = end_of_parts-append (end_of_part cursor p) ps qs

-- the contents are as long as their parts say
abbrev pub HaveContents : List Part → List (List ℕ) → Type 0
HaveContents [] [] = Unit {0}
HaveContents (p ∷ ps) (content ∷ contents) = (p.p_filesz ≡ length content) × HaveContents ps contents
HaveContents _ _ = ⊥

HaveContents-append : (ps qs : List Part) (cs ds : List (List ℕ)) → HaveContents ps cs → HaveContents qs ds → HaveContents (ps ++ qs) (cs ++ ds)
HaveContents-append [] qs [] ds h g = g
HaveContents-append [] qs (c ∷ cs) ds h g = absurd h
HaveContents-append (p ∷ ps) qs [] ds h g = absurd h
HaveContents-append (p ∷ ps) qs (c ∷ cs) ds h g = (h.0, HaveContents-append ps qs cs ds h.1 g)

-- the bodies of some parts and then of others
body_from-append : (cursor : ℕ) (ps qs : List Part) (cs ds : List (List ℕ)) → HaveContents ps cs
    → body_from cursor (ps ++ qs) (cs ++ ds) ≡ body_from cursor ps cs ++ body_from (end_of_parts cursor ps) qs ds
body_from-append cursor [] qs [] ds h = refl
body_from-append cursor [] qs (c ∷ cs) ds h = absurd h
body_from-append cursor (p ∷ ps) qs [] ds h = absurd h
body_from-append cursor (p ∷ ps) qs (c ∷ cs) ds h =
    ap (λ w. placed cursor p c ++ w) (body_from-append (end_of_part cursor p) ps qs cs ds h.1)
    ∙ sym (append_assoc (placed cursor p c) (body_from (end_of_part cursor p) ps cs) (body_from (end_of_parts (end_of_part cursor p) ps) qs ds))

pub placed-length : (cursor : ℕ) (p : Part) (content : List ℕ) → p.p_filesz ≡ length content → cursor + length (placed cursor p content) ≡ end_of_part cursor p
placed-length cursor p content e =
    (let gap : length (replicate {A = ℕ} (file_offset cursor p.p_vaddr - cursor) 0 ++ content) ≡ file_offset cursor p.p_vaddr - cursor + length content =
    length-append (replicate (file_offset cursor p.p_vaddr - cursor) 0) content ∙ ap (λ n. n + length content) (length-replicate (file_offset cursor p.p_vaddr - cursor) 0) in
    placed-length_by (p.p_filesz == 0) cursor (file_offset cursor p.p_vaddr) p.p_filesz _ (omega (arith, gap, e)))
  where
    placed-length_by : (b : Bool) (cursor offset size : ℕ) (bytes : List ℕ) → cursor + length bytes ≡ offset + size
        → cursor + length (if b then [] else bytes) ≡ (if b then cursor else offset + size)
    placed-length_by true cursor offset size bytes e = omega arith
    placed-length_by false cursor offset size bytes e = e

-- the file goes on behind the bodies of some parts
body_from-length : (cursor : ℕ) (ps : List Part) (cs : List (List ℕ)) → HaveContents ps cs → cursor + length (body_from cursor ps cs) ≡ end_of_parts cursor ps
body_from-length cursor [] [] h = omega arith
body_from-length cursor [] (c ∷ cs) h = absurd h
body_from-length cursor (p ∷ ps) [] h = absurd h
body_from-length cursor (p ∷ ps) (c ∷ cs) h =
    let here = placed-length cursor p c h.0 in
    let all = length-append (placed cursor p c) (body_from (end_of_part cursor p) ps cs) in
    let later = body_from-length (end_of_part cursor p) ps cs h.1 in
    omega (arith, here, all, later)

-- ---- segments

pub word_bytes-length : (words : List ℕ) → length (word_bytes words) ≡ 4 * length words
word_bytes-length [] = refl
word_bytes-length (w ∷ words) = (let rest = word_bytes-length words in let all = length-append (word w) (word_bytes words) in omega (arith, rest, all))

-- the file part of a segment stands in the file
abbrev pub InFile : List ℕ → Segment → Type 0
InFile bytes s = 0 < s.length → s.offset + s.length ≤ length bytes

pub original-length : (bytes : List ℕ) (s : Segment) → InFile bytes s → length (original_bytes bytes s) ≡ s.length
original-length bytes s h = grind (arith, length-take s.length (drop s.offset bytes), length-drop s.offset bytes, h)

pub patched-length : (b : Bool) (image : Image) (words : List ℕ) (s : Segment) (original : List ℕ) → HasWords image words → length original ≡ s.length
    → b ≡ holds_text image s → length (patched_if b image words s original) ≡ length original
patched-length false image words s original text long holds = refl
patched-length true image words s original text long holds =
    let inside : (s.address ≤ image.text_start) × (image.text_end ≤ s.address + s.length) = (grind (arith, nat_tests), grind (arith, nat_tests)) in
    let front = length-take (image.text_start - s.address) original in
    let middle = word_bytes-length words in
    let back = length-drop (image.text_end - s.address) original in
    let one = length-append (take (image.text_start - s.address) original) (word_bytes words) in
    let two = length-append (take (image.text_start - s.address) original ++ word_bytes words) (drop (image.text_end - s.address) original) in
    omega (arith, inside.0, inside.1, front, middle, back, one, two, long, text.ordered, text.counted)

pub segment-length : (bytes : List ℕ) (image : Image) (words : List ℕ) (s : Segment) → HasWords image words → InFile bytes s
    → s.length ≡ length (segment_bytes bytes image words s)
segment-length bytes image words s text h =
    sym (original-length bytes s h) ∙ sym (patched-length (holds_text image s) image words s (original_bytes bytes s) text (original-length bytes s h) refl)

segments-HaveContents : (bytes : List ℕ) (image : Image) (words : List ℕ) (ss : List Segment) → HasWords image words → All (InFile bytes) ss
    → HaveContents (map segment_part ss) (map (segment_bytes bytes image words) ss)
segments-HaveContents bytes image words [] text h = tt
segments-HaveContents bytes image words (s ∷ ss) text h =
    (segment-length bytes image words s text (All-head (InFile bytes) s ss h), segments-HaveContents bytes image words ss text (All-tail (InFile bytes) s ss h))

-- the bytes of a segment that holds the text: those before the text, the words, and those behind it
pub segment-is : (bytes : List ℕ) (image : Image) (words : List ℕ) (s : Segment) (front back : List ℕ) → true ≡ holds_text image s
    → front ≡ take (image.text_start - s.address) (original_bytes bytes s) → back ≡ drop (image.text_end - s.address) (original_bytes bytes s)
    → front ++ word_bytes words ++ back ≡ segment_bytes bytes image words s
segment-is bytes image words s front back holds f b =
    ap (λ w. w ++ word_bytes words ++ back) f ∙ ap (λ w. take (image.text_start - s.address) (original_bytes bytes s) ++ word_bytes words ++ w) b
    ∙ ap (λ h. patched_if h image words s (original_bytes bytes s)) holds

-- a part without bytes in the file puts none
pub placed-none : (cursor : ℕ) (p : Part) (content : List ℕ) → p.p_filesz ≡ 0 → [] ≡ placed cursor p content
placed-none cursor p content e = ap (λ n. if n == 0 then [] else replicate (file_offset cursor p.p_vaddr - cursor) 0 ++ content) (sym e)

-- a part with bytes puts them behind a gap
pub placed-some : (cursor : ℕ) (p : Part) (content : List ℕ) → 0 < p.p_filesz → replicate (file_offset cursor p.p_vaddr - cursor) 0 ++ content ≡ placed cursor p content
placed-some cursor p content some =
    let test : (p.p_filesz == 0) ≡ false = grind (arith, nat_tests) in
    ap (λ b. if b then [] else replicate (file_offset cursor p.p_vaddr - cursor) 0 ++ content) (sym test)

-- ---- the next part

-- the entry of the next part was given
pub entry-Toward : (size n : ℕ) (held : List ℕ) (a b c : SinkState) (text bytes middle last : List ℕ) (cursor next : ℕ) (ps rest : List Part) (p : Part)
    → Toward size held a text (entries_from cursor ps) middle b → n ≡ size → ps ≡ p ∷ rest → bytes ≡ entry_bytes (part_entry cursor p)
    → next ≡ end_of_part cursor p → Gives n middle b bytes true last c → Toward size held a text (entries_from next rest) last c
entry-Toward size n held a b c text bytes middle last cursor next ps rest p toward e parts is goes gives =
    step-Toward size n held a b c text bytes (entries_from next rest) middle last
    (subst (λ r. Toward size held a text r middle b) (ap (entries_from cursor) parts
    ∙ ap (λ w. w ++ entries_from (end_of_part cursor p) rest) (sym is) ∙ ap (λ k. bytes ++ entries_from k rest) (sym goes)) toward) e gives

-- a put failed in the entry of the next part
pub stop_entry-Toward : (size n : ℕ) (held : List ℕ) (a b c : SinkState) (text bytes middle last : List ℕ) (cursor : ℕ) (ps rest : List Part) (p : Part)
    → Toward size held a text (entries_from cursor ps) middle b → n ≡ size → ps ≡ p ∷ rest → bytes ≡ entry_bytes (part_entry cursor p)
    → Gives n middle b bytes false last c → (whole : Bool) → whole ≡ false → Gives size held a text whole last c
stop_entry-Toward size n held a b c text bytes middle last cursor ps rest p toward e parts is gives =
    stop-Toward size n held a b c text bytes (entries_from (end_of_part cursor p) rest) middle last
    (subst (λ r. Toward size held a text r middle b) (ap (entries_from cursor) parts
    ∙ ap (λ w. w ++ entries_from (end_of_part cursor p) rest) (sym is)) toward) e gives

-- the cursor behind segments
abbrev pub segments_end : ℕ → List Segment → ℕ
segments_end cursor ss = end_of_parts cursor (map segment_part ss)

segments_body-next : (bytes : List ℕ) (image : Image) (words : List ℕ) (cursor next i : ℕ) (ss : List Segment) (d : Segment) → i < length ss
    → next ≡ end_of_part cursor (segment_part (get_or ss i d))
    → segments_body bytes image words cursor (drop i ss) ≡
    placed cursor (segment_part (get_or ss i d)) (segment_bytes bytes image words (get_or ss i d)) ++ segments_body bytes image words next (drop (i + 1) ss)
segments_body-next bytes image words cursor next i ss d few goes =
    ap (segments_body bytes image words cursor) (drop-cons ss i d few ∙ ap (λ k. get_or ss i d ∷ drop k ss) (sym (add-one i)))
    ∙ ap (λ k. placed cursor (segment_part (get_or ss i d)) (segment_bytes bytes image words (get_or ss i d)) ++ segments_body bytes image words k (drop (i + 1) ss)) (sym goes)

-- the cursor behind the segments from one on
pub segments_end-next : (cursor next i : ℕ) (ss : List Segment) (d : Segment) → i < length ss → next ≡ end_of_part cursor (segment_part (get_or ss i d))
    → segments_end next (drop (i + 1) ss) ≡ segments_end cursor (drop i ss)
segments_end-next cursor next i ss d few goes =
    ap (λ k. segments_end k (drop (i + 1) ss)) goes
    ∙ sym (ap (segments_end cursor) (drop-cons ss i d few ∙ ap (λ k. get_or ss i d ∷ drop k ss) (sym (add-one i))))

-- the next segment was given
pub segment-Toward : (size n : ℕ) (held : List ℕ) (a b c : SinkState) (text middle last : List ℕ) (bytes : List ℕ) (image : Image) (words : List ℕ)
    (cursor next i : ℕ) (ss : List Segment) (d : Segment)
    → Toward size held a text (segments_body bytes image words cursor (drop i ss)) middle b → n ≡ size → i < length ss
    → next ≡ end_of_part cursor (segment_part (get_or ss i d))
    → Gives n middle b (placed cursor (segment_part (get_or ss i d)) (segment_bytes bytes image words (get_or ss i d))) true last c
    → Toward size held a text (segments_body bytes image words next (drop (i + 1) ss)) last c
segment-Toward size n held a b c text middle last bytes image words cursor next i ss d toward e few goes gives =
    step-Toward size n held a b c text (placed cursor (segment_part (get_or ss i d)) (segment_bytes bytes image words (get_or ss i d)))
    (segments_body bytes image words next (drop (i + 1) ss)) middle last
    (subst (λ r. Toward size held a text r middle b) (segments_body-next bytes image words cursor next i ss d few goes) toward) e gives

-- a put failed in the next segment
pub stop_segment-Toward : (size n : ℕ) (held : List ℕ) (a b c : SinkState) (text middle last : List ℕ) (bytes : List ℕ) (image : Image) (words : List ℕ)
    (cursor i : ℕ) (ss : List Segment) (d : Segment)
    → Toward size held a text (segments_body bytes image words cursor (drop i ss)) middle b → n ≡ size → i < length ss
    → Gives n middle b (placed cursor (segment_part (get_or ss i d)) (segment_bytes bytes image words (get_or ss i d))) false last c
    → (whole : Bool) → whole ≡ false → Gives size held a text whole last c
stop_segment-Toward size n held a b c text middle last bytes image words cursor i ss d toward e few gives =
    stop-Toward size n held a b c text (placed cursor (segment_part (get_or ss i d)) (segment_bytes bytes image words (get_or ss i d)))
    (segments_body bytes image words (end_of_part cursor (segment_part (get_or ss i d))) (drop (i + 1) ss)) middle last
    (subst (λ r. Toward size held a text r middle b) (segments_body-next bytes image words cursor _ i ss d few refl) toward) e gives

-- ---- the whole file

-- the bodies of the segments, then those of the shadow's parts
pub body_from-split : (bytes : List ℕ) (image : Image) (l : Layout) (code : Code) (start : ℕ) → HasWords image code.text → All (InFile bytes) image.segments
    → body_from start (file_parts image l) (contents bytes image code) ≡
    segments_body bytes image code.text start image.segments ++ body_from (segments_end start image.segments) (shadow_parts l) (shadow_contents code)
body_from-split bytes image l code start text inside =
    body_from-append start (map segment_part image.segments) (shadow_parts l) (map (segment_bytes bytes image code.text) image.segments) (shadow_contents code)
    (segments-HaveContents bytes image code.text image.segments text inside)

pub IsPlaced-InFile : (limit : ℕ) (bytes : List ℕ) (ss : List Segment) → All (IsPlaced limit bytes) ss → All (InFile bytes) ss
IsPlaced-InFile limit bytes ss h = All-weaker (IsPlaced limit bytes) (InFile bytes) (λ s p. p.in_file) ss h

pub rewritten-HasWords : (bytes : List ℕ) (image : Image) (l : Layout) (code : Code) → IsRewritable bytes image l → IsCodeOf l code → HasWords image code.text
rewritten-HasWords bytes image l code h lists =
    (let t = lawful-HasText l h.lawful in record {
      ordered = omega (arith, h.text_start, h.text_end, t.ordered);
      counted = omega (arith, h.text_start, h.text_end, t.ordered, t.start_aligned, t.end_aligned, lists.text);
    })

shadow-HaveContents : (l : Layout) (code : Code) → IsCodeOf l code → HaveContents (shadow_parts l) (shadow_contents code)
shadow-HaveContents l code h =
    let shadow : 64 * (text_count l + 1) ≡ length (word_bytes code.shadow) = (let long = word_bytes-length code.shadow in omega (arith, long, h.shadow)) in
    let helpers : 1128 ≡ length (word_bytes code.helpers) = (let long = word_bytes-length code.helpers in omega (arith, long, h.helpers)) in
    let stub : 284 ≡ length (word_bytes code.stub) = (let long = word_bytes-length code.stub in omega (arith, long, h.stub)) in
    (shadow, (helpers, (stub, (refl, (refl, (refl, (refl, tt)))))))

-- each part of the file has its content
pub file_contents : (bytes : List ℕ) (image : Image) (l : Layout) (code : Code) → IsRewritable bytes image l → IsCodeOf l code
    → HaveContents (file_parts image l) (contents bytes image code)
file_contents bytes image l code h lists =
    let text = rewritten-HasWords bytes image l code h lists in
    let inside = IsPlaced-InFile (image_limit l.version) bytes image.segments h.placed in
    HaveContents-append (map segment_part image.segments) (shadow_parts l) (map (segment_bytes bytes image code.text) image.segments) (shadow_contents code)
    (segments-HaveContents bytes image code.text image.segments text inside) (shadow-HaveContents l code lists)

-- seven parts follow the segments
pub file_parts-length : (image : Image) (l : Layout) → length (file_parts image l) ≡ length image.segments + 7
file_parts-length image l =
    length-append (map segment_part image.segments) (shadow_parts l) ∙ ap (λ n. n + 7) (length-map image.segments segment_part)

-- the file's length
pub rewritten_file-length : (bytes : List ℕ) (image : Image) (l : Layout) (code : Code) → IsRewritable bytes image l → IsCodeOf l code
    → length (rewritten_file bytes image l code) ≡ file_length image l
unfolding rewritten_file
rewritten_file-length bytes image l code h lists =
    let body = body_from-length (body_start image) (file_parts image l) (contents bytes image code) (file_contents bytes image l code h lists) in
    let entries = entries_from-length (body_start image) (file_parts image l) in
    let parts = file_parts-length image l in
    let table = length-append (entry_bytes (record_entry image)) (entries_from (body_start image) (file_parts image l)) in
    let one = length-append (header_bytes (file_header image)) (table_bytes image l) in
    let two = length-append (header_bytes (file_header image) ++ table_bytes image l) (record_bytes l) in
    let three = length-append (header_bytes (file_header image) ++ table_bytes image l ++ record_bytes l) (body_from (body_start image) (file_parts image l) (contents bytes image code)) in
    omega (arith, body, entries, parts, table, one, two, three)

-- the table: the record's entry, then those of the parts
pub table_is : (image : Image) (l : Layout) (first second : List ℕ) → first ≡ entry_bytes (record_entry image)
    → second ≡ entries_from (body_start image) (file_parts image l) → first ++ second ≡ table_bytes image l
table_is image l first second e f = ap (λ w. w ++ second) e ∙ ap (λ w. entry_bytes (record_entry image) ++ w) f

-- a slice from a segment's place on is its bytes
pub slice_is : (bytes : List ℕ) (s : Segment) → take (s.offset + s.length - s.offset) (drop s.offset bytes) ≡ original_bytes bytes s
slice_is bytes s = ap (λ n. take n (drop s.offset bytes)) (let long : s.offset + s.length - s.offset ≡ s.length = omega arith in long)

-- what stands in that slice from a place on
pub slice_back : (bytes : List ℕ) (s : Segment) (k : ℕ)
    → take (length (take (s.offset + s.length - s.offset) (drop s.offset bytes)) - k) (drop k (take (s.offset + s.length - s.offset) (drop s.offset bytes)))
    ≡ drop k (original_bytes bytes s)
slice_back bytes s k =
    let slice : List ℕ = take (s.offset + s.length - s.offset) (drop s.offset bytes) in
    take_all (length slice - k) (drop k slice) (omega (arith, length-drop k slice)) ∙ ap (drop k) (slice_is bytes s)

-- a gap and a part behind it
pub gap_is : (cursor : ℕ) (p : Part) (q : Part) (content : List ℕ) → q ≡ p → 0 < p.p_filesz
    → replicate (file_offset cursor q.p_vaddr - cursor) 0 ++ content ≡ placed cursor p content
gap_is cursor p q content e some =
    ap (λ r. replicate {A = ℕ} (file_offset cursor r.p_vaddr - cursor) 0 ++ content) e ∙ placed-some cursor p content some

-- the front: header, table and record
pub front_is : (image : Image) (l : Layout) (first last : List ℕ) → first ≡ header_bytes (file_header image) → last ≡ record_bytes l
    → first ++ table_bytes image l ++ last ≡ header_bytes (file_header image) ++ table_bytes image l ++ record_bytes l
front_is image l first last e f = ap (λ w. w ++ table_bytes image l ++ last) e ∙ ap (λ w. header_bytes (file_header image) ++ table_bytes image l ++ w) f

-- the bodies of the shadow's parts
pub shadow_body_is : (l : Layout) (code : Code) (start helpers stub : ℕ) → helpers ≡ end_of_part start (shadow_part l) → stub ≡ end_of_part helpers helpers_part
    → placed start (shadow_part l) (word_bytes code.shadow) ++ placed helpers helpers_part (word_bytes code.helpers) ++ placed stub stub_part (word_bytes code.stub)
    ≡ body_from start (shadow_parts l) (shadow_contents code)
shadow_body_is l code start helpers stub e f =
    let x : List ℕ = placed start (shadow_part l) (word_bytes code.shadow) in
    let y : List ℕ = placed helpers helpers_part (word_bytes code.helpers) in
    let z : List ℕ = placed stub stub_part (word_bytes code.stub) in
    append_assoc x y z ∙ ap (λ w. x ++ (y ++ w)) (sym (append-nil z))
    ∙ ap (λ k. x ++ (placed k helpers_part (word_bytes code.helpers) ++ (placed stub stub_part (word_bytes code.stub) ++ []))) e
    ∙ ap (λ k. x ++ (placed (end_of_part start (shadow_part l)) helpers_part (word_bytes code.helpers) ++ (placed k stub_part (word_bytes code.stub) ++ [])))
    (f ∙ ap (λ k. end_of_part k helpers_part) e)

-- and where they end
pub shadow_end_is : (l : Layout) (start helpers stub end : ℕ) → helpers ≡ end_of_part start (shadow_part l) → stub ≡ end_of_part helpers helpers_part
    → end ≡ end_of_part stub stub_part → end ≡ end_of_parts start (shadow_parts l)
shadow_end_is l start helpers stub end e f g =
    g ∙ ap (λ k. end_of_part k stub_part) (f ∙ ap (λ k. end_of_part k helpers_part) e)

-- the front, the segments and the shadow's parts are the file
pub file_is : (bytes : List ℕ) (image : Image) (l : Layout) (code : Code) (start middle : ℕ) (ss : List Segment) → IsRewritable bytes image l → IsCodeOf l code
    → ss ≡ image.segments → start ≡ body_start image → middle ≡ end_of_parts start (map segment_part ss)
    → (header_bytes (file_header image) ++ table_bytes image l ++ record_bytes l) ++ segments_body bytes image code.text start ss
    ++ body_from middle (shadow_parts l) (shadow_contents code) ≡ rewritten_file bytes image l code
unfolding rewritten_file
file_is bytes image l code start middle ss h lists e f m =
    let front : List ℕ = header_bytes (file_header image) ++ table_bytes image l ++ record_bytes l in
    let text = rewritten-HasWords bytes image l code h lists in
    let inside = IsPlaced-InFile (image_limit l.version) bytes image.segments h.placed in
    let end : middle ≡ segments_end (body_start image) image.segments = m ∙ ap (λ k. segments_end k ss) f ∙ ap (segments_end (body_start image)) e in
    let segments : segments_body bytes image code.text start ss ≡ segments_body bytes image code.text (body_start image) image.segments =
    ap (λ k. segments_body bytes image code.text k ss) f ∙ ap (segments_body bytes image code.text (body_start image)) e in
    append_assoc front (segments_body bytes image code.text start ss) (body_from middle (shadow_parts l) (shadow_contents code))
    ∙ ap (λ w. front ++ (w ++ body_from middle (shadow_parts l) (shadow_contents code))) segments
    ∙ ap (λ k. front ++ (segments_body bytes image code.text (body_start image) image.segments ++ body_from k (shadow_parts l) (shadow_contents code))) end
    ∙ ap (λ w. front ++ w) (sym (body_from-split bytes image l code (body_start image) text inside))

-- and end where the file ends
pub file_end_is : (image : Image) (l : Layout) (start middle end : ℕ) (ss : List Segment) → ss ≡ image.segments → start ≡ body_start image
    → middle ≡ end_of_parts start (map segment_part ss) → end ≡ end_of_parts middle (shadow_parts l) → end ≡ file_length image l
file_end_is image l start middle end ss e f m g =
    g ∙ ap (λ k. end_of_parts k (shadow_parts l)) (m ∙ ap (λ k. segments_end k ss) f ∙ ap (segments_end (body_start image)) e)
    ∙ sym (end_of_parts-append (body_start image) (map segment_part image.segments) (shadow_parts l))

-- a segment that ends in the range is short
pub placed-short : (bytes : List ℕ) (s : Segment) → IsPlaced 0x4000_0000 bytes s → IsShort (segment_part s)
placed-short bytes s h = omega (arith, h.fits, h.below)

-- the segments of what can be rewritten end in the range
pub all_placed-same : (bytes : List ℕ) (image : Image) (l : Layout) (ss : List Segment) → IsRewritable bytes image l → ss ≡ image.segments
    → All (IsPlaced 0x4000_0000 bytes) ss
all_placed-same bytes image l ss h e =
    subst (λ k. All (IsPlaced 0x4000_0000 bytes) k) (sym e)
    (All-weaker (IsPlaced (image_limit l.version) bytes) (IsPlaced 0x4000_0000 bytes)
    (λ s p. (let limit = image_limit-few l.version in record { fits = p.fits; in_file = p.in_file; above = p.above; below = omega (arith, p.below) })) image.segments h.placed)

-- the bodies of parts that are known to be the shadow's
pub shadow_body_of : (l : Layout) (code : Code) (start helpers stub : ℕ) (p q r : Part) → p ≡ shadow_part l → q ≡ helpers_part → r ≡ stub_part
    → helpers ≡ end_of_part start p → stub ≡ end_of_part helpers q
    → placed start p (word_bytes code.shadow) ++ placed helpers q (word_bytes code.helpers) ++ placed stub r (word_bytes code.stub)
    ≡ body_from start (shadow_parts l) (shadow_contents code)
shadow_body_of l code start helpers stub p q r pe qe re e f =
    ap (λ k. placed start k (word_bytes code.shadow) ++ placed helpers q (word_bytes code.helpers) ++ placed stub r (word_bytes code.stub)) pe
    ∙ ap (λ k. placed start (shadow_part l) (word_bytes code.shadow) ++ placed helpers k (word_bytes code.helpers) ++ placed stub r (word_bytes code.stub)) qe
    ∙ ap (λ k. placed start (shadow_part l) (word_bytes code.shadow) ++ placed helpers helpers_part (word_bytes code.helpers) ++ placed stub k (word_bytes code.stub)) re
    ∙ shadow_body_is l code start helpers stub (e ∙ ap (end_of_part start) pe) (f ∙ ap (end_of_part helpers) qe)
