-- Loading: the state in which a program starts (this project's own).
use Rattle.std.specs.Prelude.{ℕ, zero, suc, ◌+◌, ◌-◌, ◌*◌, ◌/◌, true, false, List, [], ◌∷◌, ◌++◌, length, flat_map, Option, None}
use Rattle.spec_base.specs.Word.{bytes_of}
use Rattle.spec_base.specs.Layout.{range_end, image_limit}
use Rattle.spec_base.specs.declared.layout.Layout.{Layout}
use Rattle.rv_model.specs.Memory.{Memory, zeros, written}
use Rattle.rv_model.specs.Rights.{in_text}
use Rattle.rv_model.specs.Registers.{Registers, with_reg, all_zero}
use Rattle.program_model.specs.Descriptors.{start_of}
use Rattle.program_model.specs.PlainRun.{State, Image, Output}

-- what loading takes of an executable: the bytes of each segment's file part with their address, the words of the text, the entry, and the lowest break
pub record Executable : Type 0 where
  pub layout : Layout
  pub words : List ℕ
  pub parts : List (ℕ × List ℕ)
  pub entry : ℕ
  pub break_start : ℕ

-- ---- the loaded bytes

-- the parts of a file, written in order
abbrev pub with_parts : Memory → List (ℕ × List ℕ) → Memory
with_parts m [] = m
with_parts m (part ∷ parts) = with_parts (written m part.0 part.1) parts

-- the text is a list of words beside the memory, which is 0 there
abbrev pub data_of : Layout → Memory → Memory
data_of l m a = elim (in_text l a) [ true ↦ 0 | false ↦ m a ]

-- ---- the arguments

-- each argument is followed by a zero byte
abbrev pub argument_bytes : List (List ℕ) → List ℕ
argument_bytes [] = []
argument_bytes (argument ∷ arguments) = argument ++ 0 ∷ argument_bytes arguments

-- the address of each argument, the first standing at an address
abbrev pub argument_addresses : ℕ → List (List ℕ) → List ℕ
argument_addresses at [] = []
argument_addresses at (argument ∷ arguments) = at ∷ argument_addresses (at + length argument + 1) arguments

-- the last zero byte is the last byte of the program range
abbrev pub arguments_start : Layout → List (List ℕ) → ℕ
arguments_start l arguments = range_end l.version - length (argument_bytes arguments)

-- ---- the stack: the count of the arguments, their addresses, and four words of 0

-- the words that stand from x2 on
abbrev pub stack_words : Layout → List (List ℕ) → List ℕ
stack_words l arguments = length arguments ∷ (argument_addresses (arguments_start l arguments) arguments ++ 0 ∷ 0 ∷ 0 ∷ 0 ∷ [])

-- words of 64 bits as bytes
abbrev pub bytes_of_words : List ℕ → List ℕ
bytes_of_words [] = []
bytes_of_words (word ∷ words) = bytes_of 8 word ++ bytes_of_words words

-- x2 is a multiple of 16
abbrev pub stack_start : Layout → List (List ℕ) → ℕ
stack_start l arguments = (arguments_start l arguments - 8 * (length arguments + 5)) / 16 * 16

-- ---- the start

-- the memory in which a program starts
abbrev pub start_memory : Executable → List (List ℕ) → Memory
start_memory e arguments =
    written (written (data_of e.layout (with_parts zeros e.parts)) (arguments_start e.layout arguments) (argument_bytes arguments))
    (stack_start e.layout arguments) (bytes_of_words (stack_words e.layout arguments))

-- an output before its first put
abbrev pub nothing_put : Output
nothing_put = record { bytes = []; puts = [] }

-- the state in which a program starts
abbrev pub start_state : Executable → List (List ℕ) → State
start_state e arguments =
    record {
      registers = with_reg all_zero 2 (stack_start e.layout arguments);
      pc = e.entry;
      memory = start_memory e arguments;
      files = start_of e.break_start (image_limit e.layout.version);
      out = nothing_put;
      err = nothing_put;
      calls = [];
      exited = None;
    }

-- a loaded program
abbrev pub loaded_image : Executable → List (List ℕ) → Image
loaded_image e arguments = record { layout = e.layout; words = e.words; start = start_state e arguments }
