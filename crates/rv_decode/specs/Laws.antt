-- How decoding and encoding go together (this project's own).
use Rattle.std.specs.Prelude.{◌≡◌, ◌≢◌, ℕ, ◌^◌, ◌<◌}
use Rattle.rv_decode.specs.Instruction.{instr_of}
use Rattle.rv_decode.specs.Encoding.{word_of, IsEncodable, HasRegisters}
use Rattle.rv_decode.specs.declared.instr.Instr.{Instr}
use Rattle.rv_decode.specs.declared.instr.Instr.TheVariants.{Illegal}

-- decoding undoes encoding
abbrev pub DecodesEncoded : Type 0
DecodesEncoded = (i : Instr) → IsEncodable i → HasRegisters i → instr_of (word_of i) ≡ i

-- the word of an instruction has 32 bits
abbrev pub EncodedIsWord : Type 0
EncodedIsWord = (i : Instr) → IsEncodable i → HasRegisters i → word_of i < 2 ^ 32

-- encoding undoes decoding
abbrev pub EncodesDecoded : Type 0
EncodesDecoded = (w : ℕ) → w < 2 ^ 32 → instr_of w ≢ Illegal → word_of (instr_of w) ≡ w

-- what is decoded can be encoded
abbrev pub DecodedIsEncodable : Type 0
DecodedIsEncodable = (w : ℕ) → w < 2 ^ 32 → instr_of w ≢ Illegal → IsEncodable (instr_of w)

-- what is decoded names registers alone
abbrev pub DecodedHasRegisters : Type 0
DecodedHasRegisters = (w : ℕ) → HasRegisters (instr_of w)
