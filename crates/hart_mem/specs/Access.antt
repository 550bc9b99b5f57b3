-- Widths of loads and stores (RISC-V Unprivileged ISA 20191213, section 2.6).
use Rattle.std.specs.Prelude.{ℕ}
use Rattle.hart_mem.specs.declared.access.Width.{Width}
use Rattle.hart_mem.specs.declared.access.Width.TheVariants.{One, Two, Four, Eight}

-- a width in bytes
abbrev pub width_bytes : Width → ℕ
width_bytes One = 1
width_bytes Two = 2
width_bytes Four = 4
width_bytes Eight = 8

-- a number of bytes that a load or a store can take
pub data IsWidth : ℕ → Type 0 where
  one : IsWidth 1
  two : IsWidth 2
  four : IsWidth 4
  eight : IsWidth 8
