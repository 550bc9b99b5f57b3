-- Each instruction of a rewritten program stands for a word, which decodes to it (this project's own).
use Rattle.std.specs.Prelude.{◌≡◌, ℕ, ◌^◌, ◌<◌, All, IsTrue}
use Rattle.spec_base.specs.Layout.{is_lawful}
use Rattle.spec_base.specs.declared.layout.Layout.{Layout}
use Rattle.rv_decode.specs.Instruction.{instr_of}
use Rattle.rv_decode.specs.Encoding.{word_of, IsEncodable, HasRegisters}
use Rattle.rv_decode.specs.declared.instr.Instr.{Instr}
use Rattle.rv_decode.specs.declared.instr.Instr.TheVariants.{Illegal}
use Rattle.code_model.specs.Patch.{patched_word, patched_instr}
use Rattle.code_model.specs.Blocks.{block, guard_block, is_target}
use Rattle.code_model.specs.Helpers.{helpers}
use Rattle.code_model.specs.Stub.{stub}

-- an instruction of the emitted code: one that can be encoded, or the padding, whose word is 0
pub data HasWord : Instr → Type 0 where
  padding : HasWord Illegal
  encodable : {i : Instr} → IsEncodable i → HasRegisters i → HasWord i

-- its word has 32 bits, and decodes to it
pub record IsWrittenAs (i : Instr) (word : ℕ) : Type 0 where
  pub bits : word < 2 ^ 32
  pub decodes : instr_of word ≡ i

-- so it is for each of them
abbrev pub WordsDecode : Type 0
WordsDecode = (i : Instr) → HasWord i → IsWrittenAs i (word_of i)

-- ---- the emitted code

-- of the stub
abbrev pub StubHasWords : Type 0
StubHasWords = All HasWord stub

-- of the helpers, for each layout
abbrev pub HelpersHaveWords : Type 0
HelpersHaveWords = (l : Layout) → All HasWord (helpers l)

-- of the block of each word of the text
abbrev pub BlocksHaveWords : Type 0
BlocksHaveWords = (l : Layout) → IsTrue (is_lawful l) → (p word : ℕ) → IsTrue (is_target l p) → word < 2 ^ 32 → All HasWord (block l p (instr_of word))

-- of the block behind the text
abbrev pub GuardHasWords : Type 0
GuardHasWords = All HasWord guard_block

-- ---- the rewritten text

-- the word that a patched text has decodes to the patched instruction
abbrev pub PatchedDecodes : Type 0
PatchedDecodes = (word : ℕ) → instr_of (patched_word word) ≡ patched_instr (instr_of word)
