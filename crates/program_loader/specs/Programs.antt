-- The program of an accepted image (this project's own).
use Rattle.std.specs.Prelude.{◌≡◌, ℕ, List, map, take, drop}
use Rattle.spec_base.specs.declared.layout.Layout.{Layout}
use Rattle.spec_base.specs.declared.layout.Version.{Version}
use Rattle.spec_base.specs.declared.machine.View.{View}
use Rattle.rv_model.specs.Space.{Space}
use Rattle.program_model.specs.Descriptors.{Descriptors}
use Rattle.program_model.specs.PlainRun.{Image as Program}
use Rattle.rv_model.specs.Memory.{written, zeros}
use Rattle.program_model.specs.Loading.{Executable, loaded_image, start_state, data_of, with_parts, arguments_start, argument_bytes, stack_start, stack_words, bytes_of_words}
use Rattle.hart_mem.specs.Held.{empty_space}
use Rattle.elf_image.specs.declared.image.Image.{Image}
use Rattle.elf_image.specs.declared.segments.Segment.{Segment}
use Rattle.elf_image.specs.Image.{text_words}
use Rattle.hart_step.specs.Core.{Core}

-- the layout in which a program runs by itself
abbrev pub plain_layout : Version → Image → Layout
plain_layout version image = record { text_start = image.text_start; text_end = image.text_end; regions = 1; version = version }

-- the address and the bytes of a segment's file part
abbrev pub part_of : List ℕ → Segment → ℕ × List ℕ
part_of bytes s = (s.address, take s.length (drop s.offset bytes))

-- what loading takes of an image, for a program of a layout whose text has these words
abbrev pub executable_in : Layout → List ℕ → List ℕ → Image → Executable
executable_in layout words bytes image =
    record {
      layout = layout;
      words = words;
      parts = map (part_of bytes) image.segments;
      entry = image.entry;
      break_start = image.break_start;
    }

-- the same for a program that runs by itself
abbrev pub executable_of : Version → List ℕ → Image → Executable
executable_of version bytes image = executable_in (plain_layout version image) (text_words bytes image) bytes image

-- the program of an image with its arguments
abbrev pub program_of : Version → List ℕ → Image → List (List ℕ) → Program
program_of version bytes image arguments = loaded_image (executable_of version bytes image) arguments

-- a memory of the text with the file parts
abbrev pub parts_space : Executable → Space
parts_space e = record (empty_space e.layout e.words) { program = data_of e.layout (with_parts zeros e.parts) }

-- a memory with the arguments and the stack
abbrev pub start_space : Space → List (List ℕ) → Space
start_space s arguments =
    record s {
      program = written (written s.program (arguments_start s.layout arguments) (argument_bytes arguments))
          (stack_start s.layout arguments) (bytes_of_words (stack_words s.layout arguments));
    }

-- hart in a view, memory and descriptors of an executable at its first instruction
pub record IsLoaded (e : Executable) (arguments : List (List ℕ)) (view : View) (core : Core) (space : Space) (files : Descriptors) : Type 0 where
  pub core_is : core ≡ record { registers = (start_state e arguments).registers; pc = e.entry; view = view; site = 0 }
  pub space_is : space ≡ start_space (parts_space e) arguments
  pub files_are : files ≡ (start_state e arguments).files
