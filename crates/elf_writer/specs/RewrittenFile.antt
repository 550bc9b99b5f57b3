-- The rewritten file (this project's own): an ELF file with the original's segments, in which the text is patched, and the code of the shadow beside them.
use Rattle.std.specs.Prelude.{◌≡◌, ℕ, ◌+◌, ◌-◌, ◌*◌, ◌≤◌, Bool, true, false, ◌&&◌, nat_le, List, [], ◌∷◌, ◌++◌, length, map, take, drop, All, IsTrue}
use Rattle.std.specs.List.{flat_map}
use Rattle.spec_base.specs.Layout.{image_limit, is_lawful, helper_words, stub_words}
use Rattle.spec_base.specs.declared.layout.Layout.{Layout}
use Rattle.elf_image.specs.declared.segments.Segment.{Segment}
use Rattle.elf_image.specs.declared.image.Image.{Image}
use Rattle.elf_image.specs.Image.{IsPlaced}
use Rattle.elf_writer.specs.declared.part.Part.{Part}
use Rattle.elf_writer.specs.Headers.{word, header_bytes}
use Rattle.elf_writer.specs.FileParts.{file_header, segment_part, table_bytes, record_bytes, text_count, body_start, file_parts, body_from}

-- the words of a rewritten program: its patched text, the blocks of its shadow text, helpers and stub
pub record Code : Type 0 where
  pub text : List ℕ
  pub shadow : List ℕ
  pub helpers : List ℕ
  pub stub : List ℕ

abbrev pub word_bytes : List ℕ → List ℕ
word_bytes words = flat_map word words

-- ---- contents of the parts

-- the bytes of a segment in the original file
abbrev pub original_bytes : List ℕ → Segment → List ℕ
original_bytes bytes s = take s.length (drop s.offset bytes)

-- the text stands in the file part of this segment
abbrev pub holds_text : Image → Segment → Bool
holds_text image s = nat_le s.address image.text_start && nat_le image.text_end (s.address + s.length)

-- the words in place of those of the text
abbrev pub patched_if : Bool → Image → List ℕ → Segment → List ℕ → List ℕ
patched_if false image words s original = original
patched_if true image words s original =
    take (image.text_start - s.address) original ++ word_bytes words ++ drop (image.text_end - s.address) original

abbrev pub segment_bytes : List ℕ → Image → List ℕ → Segment → List ℕ
segment_bytes bytes image words s = patched_if (holds_text image s) image words s (original_bytes bytes s)

-- the bytes of the shadow's parts, of which four have none
abbrev pub shadow_contents : Code → List (List ℕ)
shadow_contents code = word_bytes code.shadow ∷ word_bytes code.helpers ∷ word_bytes code.stub ∷ [] ∷ [] ∷ [] ∷ [] ∷ []

abbrev pub contents : List ℕ → Image → Code → List (List ℕ)
contents bytes image code = map (segment_bytes bytes image code.text) image.segments ++ shadow_contents code

-- the bodies of some segments
abbrev pub segments_body : List ℕ → Image → List ℕ → ℕ → List Segment → List ℕ
segments_body bytes image words cursor ss = body_from cursor (map segment_part ss) (map (segment_bytes bytes image words) ss)

-- ---- the file of an image whose own file has these bytes

unfoldable pub rewritten_file : List ℕ → Image → Layout → Code → List ℕ
rewritten_file bytes image l code =
    header_bytes (file_header image) ++ table_bytes image l ++ record_bytes l
    ++ body_from (body_start image) (file_parts image l) (contents bytes image code)

-- ---- what can be rewritten

-- a list has a word for each 4 bytes of the image's text
pub record HasWords (image : Image) (words : List ℕ) : Type 0 where
  pub ordered : image.text_start ≤ image.text_end
  pub counted : image.text_start + 4 * length words ≡ image.text_end

-- a part has at most 1 GiB in the file
abbrev pub IsShort : Part → Type 0
IsShort p = p.p_filesz ≤ 0x4000_0000

-- few segments, each at most 1 GiB long
pub record IsWritable (image : Image) (l : Layout) : Type 0 where
  pub few_segments : length image.segments ≤ 64
  pub short : All (λ s. s.length ≤ 0x4000_0000) image.segments
  pub lawful : IsTrue (is_lawful l)

-- the segments stand in the file, and the layout is that of the image's text
pub record IsRewritable (bytes : List ℕ) (image : Image) (l : Layout) : Type 0 where
  pub few_segments : length image.segments ≤ 64
  pub placed : All (IsPlaced (image_limit l.version) bytes) image.segments
  pub text_start : l.text_start ≡ image.text_start
  pub text_end : l.text_end ≡ image.text_end
  pub lawful : IsTrue (is_lawful l)

-- a word of the text for each 4 bytes, a block of 16 words for each of these and one behind them
pub record IsCodeOf (l : Layout) (code : Code) : Type 0 where
  pub text : length code.text ≡ text_count l
  pub shadow : length code.shadow ≡ 16 * (text_count l + 1)
  pub helpers : length code.helpers ≡ helper_words
  pub stub : length code.stub ≡ stub_words
