-- The profile of accepted executables (this project's own): a file has an image, or the first of seventeen reasons to refuse it.
use Rattle.std.specs.Prelude.{◌≡◌, ℕ, ◌+◌, ◌*◌, ◌/◌, List, find, Option, Some, None, Result, Ok, Err}
use Rattle.spec_base.specs.declared.layout.Version.{Version}
use Rattle.elf_image.specs.Header.{file_header, header_refusal}
use Rattle.elf_image.specs.Segments.{entries, segments_in, highest_end, is_code, entries_refusal}
use Rattle.elf_image.specs.Sections.{text_span, text_refusal}
use Rattle.elf_image.specs.declared.segments.Segment.{Segment}
use Rattle.elf_image.specs.declared.image.Image.{Image}
use Rattle.elf_image.specs.declared.image.ReadFault.{ReadFault}
use Rattle.elf_image.specs.declared.image.ReadFault.TheVariants.{Refused, NoMemory}
use Rattle.elf_image.specs.declared.refusal.Refusal.{Refusal}

-- the segments of a file
abbrev pub segments_of : List ℕ → List Segment
segments_of bytes = segments_in (entries bytes)

-- the executable segment among some: the first one with PF_X and a file part
abbrev pub code_of : List Segment → Option Segment
code_of ss = find is_code ss

-- the first reason that there is
abbrev pub otherwise : Option Refusal → Option Refusal → Option Refusal
otherwise (Some e) later = Some e
otherwise None later = later

-- the first of the seventeen reasons that holds
unfoldable pub first_refusal : List ℕ → Version → Option Refusal
first_refusal bytes version =
    otherwise (header_refusal bytes) (otherwise (entries_refusal bytes version) (text_refusal bytes (code_of (segments_of bytes))))

-- a number rounded up to a multiple of 16
abbrev pub rounded_up : ℕ → ℕ
rounded_up n = (n + 15) / 16 * 16

-- the image of a file that no reason speaks against
unfoldable pub image_of : List ℕ → Image
image_of bytes =
    let t = text_span bytes (code_of (segments_of bytes)) in
    record {
      entry = (file_header bytes).e_entry;
      flags = (file_header bytes).e_flags;
      segments = segments_of bytes;
      text_start = t.start;
      text_end = t.end;
      break_start = rounded_up (highest_end (segments_of bytes));
    }

abbrev pub judged : Option Refusal → Image → Result Image Refusal
judged None image = Ok image
judged (Some e) image = Err e

-- the image of a file, or the first reason to refuse it
abbrev pub profile : List ℕ → Version → Result Image Refusal
profile bytes version = judged (first_refusal bytes version) (image_of bytes)

-- what a call may answer: what the profile gives, or want of memory for an accepted file
abbrev pub Answers : Result Image Refusal → Result Image ReadFault → Type 0
Answers given (Ok image) = given ≡ Ok image
Answers given (Err (Refused e)) = given ≡ Err e
Answers (Ok _) (Err NoMemory) = Unit {0}
Answers (Err _) (Err NoMemory) = ⊥
