-- Worked blocks of jumps: to targets outside the text, off a multiple of 4, and far away in a long text.
use Rattle.std.proofs.Common.{◌≡◌, ℕ, List, ◌∷◌, map, replicate, pos, negsuc, refl}
use Rattle.spec_base.specs.declared.layout.Layout.{Layout}
use Rattle.spec_base.specs.declared.layout.Version.TheVariants.{Two}
use Rattle.rv_decode.specs.declared.instr.Instr.{Instr}
use Rattle.rv_decode.specs.declared.instr.Instr.TheVariants.{Jal, Branch}
use Rattle.rv_decode.specs.declared.instr.BranchOp.TheVariants.{Beq}
use Rattle.rv_decode.specs.Instruction.{instr_of}
use Rattle.rv_decode.specs.Encoding.{word_of}
use Rattle.code_model.specs.Blocks.{block, guard_block}

-- a text of three words at 0x10078
abbrev three_words : Layout
three_words = record { text_start = 0x10078; text_end = 0x10084; regions = 4096; version = Two }

-- the longest text, at 0x10078
abbrev long_text : Layout
long_text = record { text_start = 0x10078; text_end = 0x11_0078; regions = 4096; version = Two }

abbrev words_in : Layout → ℕ → Instr → List ℕ
words_in l p i = map word_of (block l p i)

-- the landing pad, and a park for a fault
abbrev parks : List ℕ
parks = 0xFF803F83 ∷ 0x0000710B ∷ replicate 14 0

-- ---- a jump out of the text parks, and so does one to a target off a multiple of 4

-- jal x1,4096
jal-outside : words_in three_words 0x10078 (instr_of 0x000010EF) ≡ parks
unfolding instr_of
jal-outside = refl

-- the first address behind the text, and the last word before it
jal-just_behind : words_in three_words 0x10078 (Jal 1 (pos 12)) ≡ parks
jal-just_behind = refl

jal-just_before : words_in three_words 0x10078 (Jal 1 (negsuc 3)) ≡ parks
jal-just_before = refl

-- jal x0,4096
jal-without_link : words_in three_words 0x10078 (Jal 0 (pos 4096)) ≡ parks
jal-without_link = refl

-- into the text, but to a target that is 2 modulo 4
jal-off_4 : words_in three_words 0x10078 (Jal 1 (pos 6)) ≡ parks
jal-off_4 = refl

-- the block behind the text is the same
guard : map word_of guard_block ≡ parks
guard = refl

-- ---- a branch out of the text: the branch over the next word, on to the next block, and a park where it is taken

abbrev parks_taken : List ℕ
parks_taken = 0xFF803F83 ∷ 0x00628463 ∷ 0x03C0006F ∷ 0x0000710B ∷ replicate 12 0

-- beq x5,x6,2048
beq-outside : words_in three_words 0x10078 (instr_of 0x006280E3) ≡ parks_taken
unfolding instr_of
beq-outside = refl

-- the first address behind the text, and the last word before it
beq-just_behind : words_in three_words 0x10080 (Branch Beq 5 6 (pos 4)) ≡ parks_taken
beq-just_behind = refl

beq-just_before : words_in three_words 0x10078 (Branch Beq 5 6 (negsuc 3)) ≡ parks_taken
beq-just_before = refl

-- into the text, but to a target that is 2 modulo 4
beq-off_4 : words_in three_words 0x10078 (Branch Beq 5 6 (pos 6)) ≡ parks_taken
beq-off_4 = refl

-- ---- a jump in the text goes by x31, since its block can be too far for a jump

-- jal x1,8
jal-inside : words_in three_words 0x10078 (instr_of 0x008000EF) ≡ 0xFF803F83 ∷ 0x000100B7 ∷ 0x07C08093 ∷ 0xFFF03C23 ∷ 0x40000FB7 ∷ 0x080F8067 ∷ replicate 10 0
unfolding instr_of
jal-inside = refl

-- half a text away, jal x1,524288
jal-half_a_text : words_in long_text 0x10078 (instr_of 0x000800EF) ≡ 0xFF803F83 ∷ 0x000100B7 ∷ 0x07C08093 ∷ 0xFFF03C23 ∷ 0x40800FB7 ∷ 0x000F8067 ∷ replicate 10 0
unfolding instr_of
jal-half_a_text = refl

-- the lower parts of the link and of the block's address are negative
jal-negative_parts : words_in long_text 0x107FC (Jal 1 (negsuc 1795)) ≡ 0xFF803F83 ∷ 0x000110B7 ∷ 0x80008093 ∷ 0xFFF03C23 ∷ 0x40001FB7 ∷ 0x800F8067 ∷ replicate 10 0
jal-negative_parts = refl

-- the farthest branch forward, by 4,092 bytes: its block is 65,472 bytes away
beq-farthest : words_in long_text 0x10078 (Branch Beq 5 6 (pos 4092)) ≡ 0xFF803F83 ∷ 0x00628463 ∷ 0x03C0006F ∷ 0x7B90F06F ∷ replicate 12 0
beq-farthest = refl
