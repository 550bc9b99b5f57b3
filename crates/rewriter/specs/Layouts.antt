-- The layout of a rewritten program (this project's own).
use Rattle.std.specs.Prelude.{ℕ, List}
use Rattle.spec_base.specs.declared.layout.Layout.{Layout}
use Rattle.spec_base.specs.declared.layout.Version.{Version}
use Rattle.elf_image.specs.declared.image.Image.{Image}
use Rattle.elf_writer.specs.ProgramCode.{rewritten_file_of}

-- that of an image's text, for so many regions
abbrev pub layout_of : Image → ℕ → Version → Layout
layout_of image regions version = record { text_start = image.text_start; text_end = image.text_end; regions = regions; version = version }

-- the rewritten file of an image whose own file has these bytes
abbrev pub rewritten : List ℕ → Image → ℕ → Version → List ℕ
rewritten bytes image regions version = rewritten_file_of bytes image (layout_of image regions version)
