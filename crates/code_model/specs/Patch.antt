-- The patched text: each call is a gate into the stub, and each gate instruction of the original is the word 0, which is illegal as it was (this project's own).
use Rattle.std.specs.Prelude.{ℕ, true, false, ◌==◌}
use Rattle.rv_decode.specs.Fields.{opcode}
use Rattle.rv_decode.specs.declared.instr.Instr.{Instr}
use Rattle.rv_decode.specs.declared.instr.Instr.TheVariants.{Ecall, Hgate, Hleave, Hsite, Hkey, Hstop, Hrestart, Hcall, Hpark, Illegal}

-- a word of the patched text
abbrev pub patched_word : ℕ → ℕ
patched_word word =
    elim (word == 0x00000073) [
      | true ↦ 0x0000000B
      | false ↦ elim (opcode word == 0b0001011) [ true ↦ 0 | false ↦ word ]
    ]

-- and its instruction
abbrev pub patched_instr : Instr → Instr
patched_instr Ecall = Hgate
patched_instr Hgate = Illegal
patched_instr Hleave = Illegal
patched_instr (Hsite rd) = Illegal
patched_instr (Hkey rd) = Illegal
patched_instr Hstop = Illegal
patched_instr Hrestart = Illegal
patched_instr (Hcall unhinted) = Illegal
patched_instr (Hpark cause) = Illegal
patched_instr other = other
