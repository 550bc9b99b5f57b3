-- What the table of a rewritten file says is so: a law (gABI chapter 5, "Program Header"; the record is this project's own).
use Rattle.std.specs.Prelude.{◌≡◌, ℕ, ◌<◌, List, [], ◌∷◌, length, take, drop}
use Rattle.spec_base.specs.declared.layout.Layout.{Layout}
use Rattle.elf_image.specs.declared.image.Image.{Image}
use Rattle.elf_writer.specs.declared.part.Part.{Part}
use Rattle.elf_writer.specs.Headers.{header_bytes}
use Rattle.elf_writer.specs.FileParts.{file_header, table_bytes, record_start, record_bytes, body_start, file_parts, file_offset, end_of_part}
use Rattle.elf_writer.specs.RewrittenFile.{Code, IsRewritable, IsCodeOf, contents, rewritten_file}

-- these bytes stand in the file at an offset
abbrev pub StandsAt : ℕ → List ℕ → List ℕ → Type 0
StandsAt offset content file = take (length content) (drop offset file) ≡ content

-- each part has its content at its p_offset, p_filesz bytes long
abbrev pub PartsStand : ℕ → List Part → List (List ℕ) → List ℕ → Type 0
PartsStand cursor [] contents file = Unit {0}
PartsStand cursor (p ∷ ps) [] file = Unit {0}
PartsStand cursor (p ∷ ps) (content ∷ contents) file =
    (length content ≡ p.p_filesz) × (0 < p.p_filesz → StandsAt (file_offset cursor p.p_vaddr) content file) × PartsStand (end_of_part cursor p) ps contents file

-- header, table, record and parts of the file
pub record StandsWhole (bytes : List ℕ) (image : Image) (l : Layout) (code : Code) : Type 0 where
  pub header : StandsAt 0 (header_bytes (file_header image)) (rewritten_file bytes image l code)
  pub table : StandsAt 64 (table_bytes image l) (rewritten_file bytes image l code)
  pub record_part : StandsAt (record_start image) (record_bytes l) (rewritten_file bytes image l code)
  pub parts : PartsStand (body_start image) (file_parts image l) (contents bytes image code) (rewritten_file bytes image l code)

-- the law
abbrev pub EachStands : Type 0
EachStands = (bytes : List ℕ) (image : Image) (l : Layout) (code : Code) → IsRewritable bytes image l → IsCodeOf l code → StandsWhole bytes image l code
