-- What a hart holds (RISC-V Unprivileged ISA 20191213, section 2.1; the view and the site are this project's own).
use Rattle.std.specs.Prelude.{ℕ, List, slice_index}
use Rattle.spec_base.specs.declared.machine.View.{View}
use Rattle.rv_model.specs.Registers.{Registers}

-- the registers x0 to x31 in order, the address of the next instruction, the view, and where the program last entered the stub
pub record HeldCore : Type 0 where
  pub registers : List ℕ
  pub pc : ℕ
  pub view : View
  pub site : ℕ

-- the same with the registers by number
pub record Core : Type 0 where
  pub registers : Registers
  pub pc : ℕ
  pub view : View
  pub site : ℕ

-- the register of each number
unfoldable pub registers_of : List ℕ → Registers
registers_of registers n = slice_index registers n

-- a hart as the instructions see it
unfoldable pub core_of : HeldCore → Core
core_of h = record { registers = registers_of h.registers; pc = h.pc; view = h.view; site = h.site }
