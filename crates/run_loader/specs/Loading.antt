-- What loading the parts of a rewritten program comes to (this project's own).
use Rattle.std.specs.Prelude.{◌≡◌, ℕ, List}
use Rattle.spec_base.specs.declared.machine.View.TheVariants.{Program}
use Rattle.rv_model.specs.Space.{Space}
use Rattle.program_model.specs.Loading.{Executable, start_state}
use Rattle.elf_image.specs.declared.recovery.Recovered.{Recovered}
use Rattle.elf_writer.specs.declared.source.Parts.{Parts}
use Rattle.hart_mem.specs.Held.{space_of}
use Rattle.hart_step.specs.Core.{core_of}
use Rattle.program_loader.specs.Programs.{executable_in, parts_space, start_space}
use Rattle.run_loader.specs.declared.opening.Opened.{Opened}

-- the image and the layout of parts
abbrev pub carried_in : Parts → Recovered
carried_in parts = record { image = parts.image; layout = parts.layout }

-- what is loaded of parts, whose image stands in these bytes
abbrev pub executable_from : List ℕ → Parts → Executable
executable_from bytes parts = executable_in parts.layout parts.text.items bytes parts.image

-- the memory with the program, its arguments, and the code of the other views
abbrev pub loaded_space : List ℕ → Parts → List (List ℕ) → Space
loaded_space bytes parts arguments =
    record (start_space (parts_space (executable_from bytes parts)) arguments) {
      shadow = parts.shadow.items;
      helpers = parts.helpers.items;
      stub = parts.stub.items;
    }

-- the own hart is at the program's first instruction
pub record Loads (bytes : List ℕ) (parts : Parts) (arguments : List (List ℕ)) (opened : Opened) : Type 0 where
  pub space : space_of opened.mem ≡ loaded_space bytes parts arguments
  pub hart :
      core_of opened.hart ≡
      record { registers = (start_state (executable_from bytes parts) arguments).registers; pc = parts.image.entry; view = Program; site = 0 }
  pub files : opened.files ≡ (start_state (executable_from bytes parts) arguments).files
  pub layout : opened.layout ≡ parts.layout
