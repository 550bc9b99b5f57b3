-- The integer registers by number, of which x0 is always 0 (RISC-V Unprivileged ISA 20191213, section 2.1).
use Rattle.std.specs.Prelude.{ℕ, zero, suc, true, false, ◌==◌}

-- a value for each number; that of 0 is never read
abbrev pub Registers : Type 0
Registers = ℕ → ℕ

-- what a register reads as
abbrev pub reg : Registers → ℕ → ℕ
reg rs zero = 0
reg rs (suc n) = rs (suc n)

-- the registers after a write; a write to x0 leaves them
abbrev pub with_reg : Registers → ℕ → ℕ → Registers
with_reg rs zero v = rs
with_reg rs (suc n) v = λ k. elim (k == suc n) [ true ↦ v | false ↦ rs k ]

-- each register is 0
abbrev pub all_zero : Registers
all_zero n = 0
