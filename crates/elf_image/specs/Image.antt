-- What holds of an accepted file's image (this project's own). All of it follows from the profile.
use Rattle.std.specs.Prelude.{◌≡◌, ℕ, ◌+◌, ◌-◌, ◌/◌, ◌%◌, ◌<◌, ◌≤◌, List, [], ◌∷◌, zero, suc, length, All, AllPairs, IsTrue, Option, Some, None, Ok}
use Rattle.spec_base.specs.declared.layout.Version.{Version}
use Rattle.spec_base.specs.Layout.{range_start, image_limit, is_lawful, file_limit, text_limit}
use Rattle.elf_image.specs.Fields.{word_at}
use Rattle.elf_image.specs.Segments.{end_of, highest_end}
use Rattle.elf_image.specs.Header.{file_header, HasTable}
use Rattle.elf_image.specs.Sections.{text_span}
use Rattle.elf_image.specs.Profile.{first_refusal, profile, segments_of, code_of, rounded_up}
use Rattle.elf_image.specs.declared.segments.Segment.{Segment}
use Rattle.elf_image.specs.declared.image.Image.{Image}
use Rattle.elf_image.specs.declared.image.Outline.{Outline}

-- its file part isn't longer than it is and stands in the file, and it lies in [range_start, limit)
pub record IsPlaced (limit : ℕ) (bytes : List ℕ) (s : Segment) : Type 0 where
  pub fits : s.length ≤ s.size
  pub in_file : 0 < s.length → s.offset + s.length ≤ length bytes
  pub above : range_start ≤ s.address
  pub below : end_of s ≤ limit

-- the text is a nonempty list of at most 262,144 aligned words in the file part of the executable segment, which stands in the file
pub record IsTextOf (bytes : List ℕ) (image : Image) : Type 0 where
  pub code : Segment
  pub code_is : code_of image.segments ≡ Some code
  pub in_file : code.offset + code.length ≤ length bytes
  pub after : code.address ≤ image.text_start
  pub before : image.text_end ≤ code.address + code.length
  pub some : image.text_start < image.text_end
  pub few : image.text_end - image.text_start ≤ text_limit
  pub start_aligned : image.text_start % 4 ≡ 0
  pub end_aligned : image.text_end % 4 ≡ 0

-- the most bytes of a file that is opened: 2 GiB, of a rewritten one
abbrev pub opened_limit : ℕ
opened_limit = 2_147_483_648

-- what holds of the image of an accepted file, and of one that a rewritten file carries
pub record IsImage (bytes : List ℕ) (version : Version) (image : Image) : Type 0 where
  pub few_bytes : length bytes ≤ opened_limit
  pub few_segments : length image.segments ≤ 64
  pub placed : All (IsPlaced (image_limit version) bytes) image.segments
  pub ascending : AllPairs (λ s t. end_of s ≤ t.address) image.segments
  pub text : IsTextOf bytes image
  pub text_above : range_start ≤ image.text_start
  pub text_below : image.text_end ≤ image_limit version
  pub lawful : (k : ℕ) → 1 ≤ k → k ≤ 65_536
      → IsTrue (is_lawful (record { text_start = image.text_start; text_end = image.text_end; regions = k; version = version }))
  pub entry_after : image.text_start ≤ image.entry
  pub entry_before : image.entry < image.text_end
  pub entry_aligned : image.entry % 4 ≡ 0
  pub break_is : image.break_start ≡ rounded_up (highest_end image.segments)
  pub break_below : image.break_start ≤ image_limit version

-- what an accepted file shows besides its segments
pub record IsOutline (bytes : List ℕ) (version : Version) (outline : Outline) : Type 0 where
  pub table : HasTable bytes
  pub accepted : first_refusal bytes version ≡ None
  pub header : outline.header ≡ file_header bytes
  pub text_start : outline.text_start ≡ (text_span bytes (code_of (segments_of bytes))).start
  pub text_end : outline.text_end ≡ (text_span bytes (code_of (segments_of bytes))).end
  pub break_start : outline.break_start ≡ rounded_up (highest_end (segments_of bytes))

-- n words from an offset on
abbrev pub words_at : ℕ → ℕ → List ℕ → List ℕ
words_at offset zero bytes = []
words_at offset (suc n) bytes = word_at offset bytes ∷ words_at (offset + 4) n bytes

-- where an address of a segment's file part stands in the file
abbrev pub file_place : Segment → ℕ → ℕ
file_place s address = s.offset + (address - s.address)

-- the words of a text in the file part of a segment
abbrev pub words_in : Option Segment → List ℕ → Image → List ℕ
words_in None bytes image = []
words_in (Some s) bytes image = words_at (file_place s image.text_start) ((image.text_end - image.text_start) / 4) bytes

-- the words of an image's text, as they stand in its file
unfoldable pub text_words : List ℕ → Image → List ℕ
text_words bytes image = words_in (code_of image.segments) bytes image
