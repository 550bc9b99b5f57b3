use Rattle.std.proofs.Common.{◌≡◌, ◌++◌, ◌+◌, ◌*◌, length, map, drop}
use Rattle.std.specs.List.{flat_map}
use Rattle.rv_decode.specs.Instruction.{instr_of}
use Rattle.rv_decode.specs.Encoding.{word_of}
use Rattle.code_model.specs.Blocks as spec
use Rattle.shadow_text.proofs.shadow.blocks.Given as goal

-- the blocks so far, and those of the rest, are all of them
abbrev pub invariant-loop-word : goal.invariant-loop-word
invariant-loop-word l = record {
  at : l.pc ≡ l.layout.text_start + 4 * l.word-index;
  count : length l.words.items ≡ 16 * l.word-index;
  all : l.words.items ++ flat_map (map word_of) (spec.blocks_from l.layout l.pc (map instr_of (drop l.word-index l.text))) ≡ flat_map (map word_of) (spec.blocks_from l.layout l.layout.text_start (map instr_of l.text));
}
