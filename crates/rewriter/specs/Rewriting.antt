-- What rewriting a file comes to (this project's own).
use Rattle.std.specs.Prelude.{◌≡◌, ℕ, true, false, List, length, Result, Ok, Err}
use Rattle.spec_base.specs.declared.layout.Version.{Version}
use Rattle.world_io.specs.Outside.{SinkState}
use Rattle.world_io.specs.Puts.{Fits}
use Rattle.world_io.specs.Texts.{PutsText}
use Rattle.elf_image.specs.declared.image.Image.{Image}
use Rattle.elf_image.specs.declared.image.ReadFault.{ReadFault}
use Rattle.elf_image.specs.declared.image.ReadFault.TheVariants as read
use Rattle.elf_image.specs.Image.{text_words}
use Rattle.elf_image.specs.Profile.{profile}
use Rattle.elf_writer.specs.declared.source.Parts.{Parts}
use Rattle.elf_writer.specs.declared.writing.Written.{Written}
use Rattle.elf_writer.specs.declared.writing.Written.TheVariants as written
use Rattle.elf_writer.specs.ProgramCode.{code_of_text}
use Rattle.elf_writer.specs.Writing.{listed}
use Rattle.rewriter.specs.declared.writing.Rewritten.{Rewritten}
use Rattle.rewriter.specs.declared.writing.Rewritten.TheVariants.{Done, Refused, SinkFault, NoMemory}
use Rattle.rewriter.specs.Layouts.{layout_of, rewritten}

-- the profile of a version accepts a file
abbrev pub IsAccepted : List ℕ → Version → Type 0
IsAccepted bytes version = (image : Image) × (profile bytes version ≡ Ok image)

-- ---- to parts

-- the parts of an accepted file: its image, the layout of its text, and the code of that text
pub record ArePartsOf (bytes : List ℕ) (regions : ℕ) (version : Version) (parts : Parts) : Type 0 where
  pub accepted : profile bytes version ≡ Ok parts.image
  pub layout : parts.layout ≡ layout_of parts.image regions version
  pub code : listed parts ≡ code_of_text parts.layout (text_words bytes parts.image)

-- what a call may answer: the parts, the first reason to refuse the file, or want of memory for an accepted file
abbrev pub RewritesAs : List ℕ → ℕ → Version → Result Parts ReadFault → Type 0
RewritesAs bytes regions version (Ok parts) = ArePartsOf bytes regions version parts
RewritesAs bytes regions version (Err (read.Refused refusal)) = profile bytes version ≡ Err refusal
RewritesAs bytes regions version (Err read.NoMemory) = IsAccepted bytes version

-- ---- to a sink

-- a file of n bytes was put whole
pub record PutsWhole (old : SinkState) (file : List ℕ) (n : ℕ) (new : SinkState) : Type 0 where
  pub puts : PutsText old file true new
  pub count : n ≡ length file

-- a put failed before the file's end, and was the last; that isn't so within the sure room
pub record PutsPart (old : SinkState) (file : List ℕ) (new : SinkState) : Type 0 where
  pub puts : PutsText old file false new
  pub unsure : ¬ Fits old.room (length file)

-- by what writing the file came to
abbrev pub Puts : SinkState → List ℕ → Written → SinkState → Type 0
Puts old file (written.Done n) new = PutsWhole old file n new
Puts old file written.SinkFault new = PutsPart old file new

-- a sink after the file of an accepted image was put, or after a refusal, or want of memory for an accepted file, which leave it
abbrev pub RewritesTo : List ℕ → ℕ → Version → Rewritten → SinkState → SinkState → Type 0
RewritesTo bytes regions version (Done n) old new =
    (image : Image) × (profile bytes version ≡ Ok image) × PutsWhole old (rewritten bytes image regions version) n new
RewritesTo bytes regions version SinkFault old new =
    (image : Image) × (profile bytes version ≡ Ok image) × PutsPart old (rewritten bytes image regions version) new
RewritesTo bytes regions version (Refused refusal) old new = (profile bytes version ≡ Err refusal) × (new ≡ old)
RewritesTo bytes regions version NoMemory old new = IsAccepted bytes version × (new ≡ old)
