-- The program of the command `demo`, and the file that it reads (this project's own).
use Rattle.std.specs.Prelude.{ℕ, zero, suc, ◌+◌, ◌*◌, ◌/◌, ◌%◌, pos, negsuc, ℤ, List, [], ◌∷◌, ◌++◌, map, replicate}
use Rattle.rv_decode.specs.declared.instr.Instr.{Instr}
use Rattle.rv_decode.specs.declared.instr.Instr.TheVariants.{Lui, Branch, Store, OpImm, Op, Ecall}
use Rattle.rv_decode.specs.declared.instr.ImmOp.TheVariants.{Addi}
use Rattle.rv_decode.specs.declared.instr.BranchOp.TheVariants.{Bne}
use Rattle.rv_decode.specs.declared.instr.StoreOp.TheVariants.{Sw}
use Rattle.rv_decode.specs.declared.instr.RegOp.TheVariants.{Add}
use Rattle.rv_decode.specs.Encoding.{word_of}
use Rattle.sample_images.specs.Executables.{two_segments}

abbrev pub addi : ℕ → ℕ → ℤ → Instr
addi rd rs1 imm = OpImm Addi rd rs1 imm

-- it opens `data`, and for each of r records seeks to it, reads 64 bytes and stores how many are left
abbrev pub reading : ℕ → List Instr
reading r =
    Lui 8 (pos 0x200000) ∷ addi 11 8 (pos 0) ∷ addi 12 0 (pos 0) ∷ addi 17 0 (pos 56) ∷ Ecall
    ∷ addi 9 10 (pos 0) ∷ addi 18 0 (pos 0) ∷ addi 19 0 (pos r) ∷ Lui 20 (pos 0x1000)
    ∷ addi 10 9 (pos 0) ∷ addi 11 18 (pos 0) ∷ addi 12 0 (pos 0) ∷ addi 17 0 (pos 62) ∷ Ecall
    ∷ addi 10 9 (pos 0) ∷ Lui 11 (pos 0x201000) ∷ addi 12 0 (pos 64) ∷ addi 17 0 (pos 63) ∷ Ecall
    ∷ Store Sw 8 19 (pos 256) ∷ Op Add 18 18 20 ∷ addi 19 19 (negsuc 0) ∷ Branch Bne 19 0 (negsuc 51) ∷ []

-- it puts `done` and a newline, and exits
abbrev pub ending : List Instr
ending =
    addi 10 0 (pos 1) ∷ addi 11 8 (pos 8) ∷ addi 12 0 (pos 5) ∷ addi 17 0 (pos 64) ∷ Ecall
    ∷ addi 10 0 (pos 0) ∷ addi 17 0 (pos 93) ∷ Ecall ∷ []

-- its words, with n instructions between that only count
abbrev pub demo_words : ℕ → ℕ → List ℕ
demo_words n r = map word_of (reading r) ++ replicate n (word_of (addi 5 5 (pos 1))) ++ map word_of ending

-- its executable, which reads 40 records
abbrev pub demo_image : ℕ → List ℕ
demo_image n = two_segments (demo_words n 40)

-- byte i of its file is 31 for each block before it, and i, modulo 256
abbrev pub data_byte : ℕ → ℕ
data_byte i = (31 * (i / 4096) + i) % 256

-- n bytes of its file from byte i on
abbrev pub data_bytes : ℕ → ℕ → List ℕ
data_bytes i zero = []
data_bytes i (suc n) = data_byte i ∷ data_bytes (i + 1) n
