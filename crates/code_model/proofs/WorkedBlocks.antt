-- Worked blocks: their words, computed from the shapes.
use Rattle.std.proofs.Common.{◌≡◌, ℕ, ◌+◌, List, [], ◌∷◌, ◌++◌, map, replicate, pos, negsuc, refl}
use Rattle.spec_base.specs.declared.layout.Layout.{Layout}
use Rattle.spec_base.specs.declared.layout.Version.TheVariants.{Two}
use Rattle.rv_decode.specs.Instruction.{instr_of}
use Rattle.rv_decode.specs.Encoding.{word_of}
use Rattle.code_model.specs.Blocks.{block}
use Rattle.code_model.specs.Patch.{patched_word}

-- a text of three words at 0x10078
abbrev three_words : Layout
three_words = record { text_start = 0x10078; text_end = 0x10084; regions = 4096; version = Two }

abbrev block_words : ℕ → ℕ → List ℕ
block_words p word = map word_of (block three_words p (instr_of word))

-- addi x10,x0,7
block-addi : block_words 0x10078 0x00700513 ≡ 0xFF803F83 ∷ 0x00700513 ∷ 0x03C0006F ∷ replicate 13 0
unfolding instr_of
block-addi = refl

-- ecall
block-ecall :
    block_words 0x10080 0x00000073 ≡
    0xFF803F83 ∷ 0xFFF03C23 ∷ 0x41100FB7 ∷ 0x334F8FE7 ∷ 0xFF003F03 ∷ 0xFF803F83 ∷ 0x0000600B ∷ 0x0280006F ∷ replicate 8 0
unfolding instr_of
block-ecall = refl

-- ld x31,0(x30)
block-ld_x31 :
    block_words 0x10078 0x000F3F83 ≡
    0xFF803F83 ∷ 0xFFF03C23 ∷ 0x000F0F93 ∷ 0xFDF03C23 ∷ 0x41100FB7 ∷ 0x0C0F8FE7 ∷ 0xFF003F03 ∷ 0x000FBF83 ∷ 0x00000013 ∷ 0x0200006F ∷ replicate 6 0
unfolding instr_of
block-ld_x31 = refl

-- auipc x5,1
block-auipc : block_words 0x10078 0x00001297 ≡ 0xFF803F83 ∷ 0x000042B7 ∷ 0x41E28293 ∷ 0x00229293 ∷ 0x0340006F ∷ replicate 11 0
unfolding instr_of
block-auipc = refl

-- beq x5,x6,-4
block-beq : block_words 0x1007C 0xFE628EE3 ≡ 0xFF803F83 ∷ 0x00628463 ∷ 0x03C0006F ∷ 0xFB9FF06F ∷ replicate 12 0
unfolding instr_of
block-beq = refl

-- auipc x5,0x80000, whose result is below 0: a quarter of it modulo 2^20 pages
block-auipc_below_0 : block_words 0x10078 0x80000297 ≡ 0xFF803F83 ∷ 0xE00042B7 ∷ 0x01E28293 ∷ 0x00229293 ∷ 0x0340006F ∷ replicate 11 0
unfolding instr_of
block-auipc_below_0 = refl

-- ecall is a gate, a gate instruction of the original is 0, and each other word stays
patched-ecall : patched_word 0x00000073 ≡ 0x0000000B
patched-ecall = refl

patched-hleave : patched_word 0x0000100B ≡ 0
patched-hleave = refl

patched-addi : patched_word 0x00700513 ≡ 0x00700513
patched-addi = refl
