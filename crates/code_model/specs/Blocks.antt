-- The shadow text: a block of 16 words for each instruction, in one of nine shapes (this project's own). A place that isn't listed is the word 0, which is illegal.
use Rattle.std.specs.Prelude.{ℕ, ◌+◌, ◌-◌, ◌*◌, ◌/◌, ◌%◌, Bool, true, false, ◌&&◌, ℤ, pos, List, [], ◌∷◌, ◌++◌, take, replicate, ◌==◌}
use Rattle.spec_base.specs.Word.{plus_int}
use Rattle.spec_base.specs.declared.layout.Layout.{Layout}
use Rattle.spec_base.specs.declared.park.Park.TheVariants as park
use Rattle.rv_decode.specs.declared.instr.Instr.{Instr}
use Rattle.rv_decode.specs.declared.instr.Instr.TheVariants.{Lui, Auipc, Jal, Jalr, Branch, Load, Store, OpImm, OpImmW, Op, OpW, Fence, Ecall, Ebreak, Hgate, Hleave, Hsite, Hkey, Hstop, Hrestart, Hcall, Hpark, Illegal}
use Rattle.rv_decode.specs.declared.instr.BranchOp.{BranchOp}
use Rattle.rv_decode.specs.declared.instr.LoadOp.{LoadOp}
use Rattle.rv_decode.specs.declared.instr.LoadOp.TheVariants.{Lb, Lh, Lw, Ld, Lbu, Lhu, Lwu}
use Rattle.rv_decode.specs.declared.instr.StoreOp.{StoreOp}
use Rattle.rv_decode.specs.declared.instr.StoreOp.TheVariants.{Sb, Sh, Sw, Sd}
use Rattle.rv_model.specs.Rights.{in_text}
use Rattle.code_model.specs.Assembly.{diff, hi, lo, lui, addi, slli, ld, sd, jalr, nop, X31, X30, ADR}
use Rattle.spec_base.specs.Layout.{helpers_start}
use Rattle.code_model.specs.Places.{block_at, LOAD1, LOAD2, LOAD4, LOAD8, STORE1, STORE2, STORE4, STORE8, JUMP, APPEND}

-- ---- parts of blocks

-- NEXT: from word k of a block to word 1 of the following block
abbrev pub next_block : ℕ → Instr
next_block k = Jal 0 (pos (68 - 4 * k))

-- a jump or branch goes to the text, and to a multiple of 4
abbrev pub is_target : Layout → ℕ → Bool
is_target l t = in_text l t && (t % 4 == 0)

-- from word k of the block of p to word 1 of the block of t
abbrev pub to_block : Layout → ℕ → ℕ → ℕ → Instr
to_block l p k t = Jal 0 (diff (block_at l t + 4) (block_at l p + 4 * k))

-- leaves in x31 the place that a helper finds for an access at rs1 + imm
abbrev pub access_words : ℕ → ℕ → ℤ → List Instr
access_words helper rs1 imm =
    sd 31 X31 0 ∷ addi 31 rs1 imm ∷ sd 31 ADR 0
    ∷ lui 31 (hi (helpers_start + helper)) ∷ jalr 31 (lo (helpers_start + helper)) 31 ∷ []

-- the helper that finds the place of a load
abbrev pub load_helper : LoadOp → ℕ
load_helper Lb = LOAD1
load_helper Lbu = LOAD1
load_helper Lh = LOAD2
load_helper Lhu = LOAD2
load_helper Lw = LOAD4
load_helper Lwu = LOAD4
load_helper Ld = LOAD8

-- the helper that finds the place of a store
abbrev pub store_helper : StoreOp → ℕ
store_helper Sb = STORE1
store_helper Sh = STORE2
store_helper Sw = STORE4
store_helper Sd = STORE8

-- ---- the nine shapes, from word 1 on

-- an instruction that only computes stands in its block as it is
abbrev pub plain_words : Instr → List Instr
plain_words i = i ∷ next_block 2 ∷ []

-- auipc, whose result is v: a multiple of 4, of which a quarter is built and shifted, since it may need more than 32 bits
abbrev pub auipc_words : ℕ → ℕ → List Instr
auipc_words rd v = lui rd (hi (v / 4)) ∷ addi rd rd (lo (v / 4)) ∷ slli rd rd 2 ∷ next_block 4 ∷ []

-- the program would trap there
abbrev pub park_words : List Instr
park_words = Hpark park.Fault ∷ []

-- by whether t is a target
abbrev pub jal_if : Bool → Layout → ℕ → ℕ → ℕ → List Instr
jal_if true l p rd t = lui rd (hi (p + 4)) ∷ addi rd rd (lo (p + 4)) ∷ sd 31 X31 0 ∷ lui 31 (hi (block_at l t)) ∷ jalr 0 (lo (block_at l t)) 31 ∷ []
jal_if false l p rd t = park_words

-- jal to t
abbrev pub jal_words : Layout → ℕ → ℕ → ℕ → List Instr
jal_words l p rd t = jal_if (is_target l t) l p rd t

-- the target is taken before rd is written; x31 is spilled again where it is rd
abbrev pub link_spill : Bool → Instr
link_spill true = sd 31 X31 0
link_spill false = nop

-- jalr: the target goes to ADR, and JUMP takes it up
abbrev pub jalr_words : ℕ → ℕ → ℕ → ℤ → List Instr
jalr_words p rd rs1 imm =
    sd 31 X31 0 ∷ addi 31 rs1 imm ∷ sd 31 ADR 0
    ∷ lui rd (hi (p + 4)) ∷ addi rd rd (lo (p + 4)) ∷ link_spill (rd == 31)
    ∷ lui 31 (hi (helpers_start + JUMP)) ∷ jalr 0 (lo (helpers_start + JUMP)) 31 ∷ []

-- where a taken branch goes: to the block of t (true), or to a park
abbrev pub taken_word : Bool → Layout → ℕ → ℕ → Instr
taken_word true l p t = to_block l p 3 t
taken_word false l p t = Hpark park.Fault

-- a branch to t
abbrev pub branch_words : Layout → ℕ → BranchOp → ℕ → ℕ → ℕ → List Instr
branch_words l p op rs1 rs2 t = Branch op rs1 rs2 (pos 8) ∷ next_block 2 ∷ taken_word (is_target l t) l p t ∷ []

-- x31 is restored unless it is what was loaded
abbrev pub load_restore : Bool → Instr
load_restore true = nop
load_restore false = ld 31 X31 0

-- a load through the place in x31
abbrev pub load_words : LoadOp → ℕ → ℕ → ℤ → List Instr
load_words op rd rs1 imm =
    access_words (load_helper op) rs1 imm
    ++ ld 30 X30 0 ∷ Load op rd 31 (pos 0) ∷ load_restore (rd == 31) ∷ next_block 9 ∷ []

-- x31 itself is stored through x30
abbrev pub store_end : Bool → StoreOp → ℕ → List Instr
store_end true op rs2 = ld 30 X31 0 ∷ Store op 31 30 (pos 0) ∷ ld 30 X30 0 ∷ ld 31 X31 0 ∷ next_block 10 ∷ []
store_end false op rs2 = ld 30 X30 0 ∷ Store op 31 rs2 (pos 0) ∷ ld 31 X31 0 ∷ next_block 9 ∷ []

-- a store through the place in x31
abbrev pub store_words : StoreOp → ℕ → ℕ → ℤ → List Instr
store_words op rs1 rs2 imm = access_words (store_helper op) rs1 imm ++ store_end (rs2 == 31) op rs2

-- a call appends to the hint log, and is assumed
abbrev pub call_words : List Instr
call_words =
    sd 31 X31 0 ∷ lui 31 (hi (helpers_start + APPEND)) ∷ jalr 31 (lo (helpers_start + APPEND)) 31
    ∷ ld 30 X30 0 ∷ ld 31 X31 0 ∷ Hcall false ∷ next_block 7 ∷ []

-- ---- blocks

-- the words from word 1 on of the block of an instruction at p
abbrev pub words_of : Layout → ℕ → Instr → List Instr
words_of l p (Lui rd imm) = plain_words (Lui rd imm)
words_of l p (OpImm op rd rs1 imm) = plain_words (OpImm op rd rs1 imm)
words_of l p (OpImmW op rd rs1 imm) = plain_words (OpImmW op rd rs1 imm)
words_of l p (Op op rd rs1 rs2) = plain_words (Op op rd rs1 rs2)
words_of l p (OpW op rd rs1 rs2) = plain_words (OpW op rd rs1 rs2)
words_of l p (Fence word) = plain_words (Fence word)
words_of l p (Auipc rd imm) = auipc_words rd (plus_int p imm)
words_of l p (Jal rd imm) = jal_words l p rd (plus_int p imm)
words_of l p (Jalr rd rs1 imm) = jalr_words p rd rs1 imm
words_of l p (Branch op rs1 rs2 imm) = branch_words l p op rs1 rs2 (plus_int p imm)
words_of l p (Load op rd rs1 imm) = load_words op rd rs1 imm
words_of l p (Store op rs1 rs2 imm) = store_words op rs1 rs2 imm
words_of l p Ecall = call_words
words_of l p Ebreak = park_words
words_of l p Hgate = park_words
words_of l p Hleave = park_words
words_of l p (Hsite rd) = park_words
words_of l p (Hkey rd) = park_words
words_of l p Hstop = park_words
words_of l p Hrestart = park_words
words_of l p (Hcall unhinted) = park_words
words_of l p (Hpark cause) = park_words
words_of l p Illegal = park_words

-- word 0 is the landing pad of jumps by register, behind which all registers are the program's
abbrev pub with_pad : List Instr → List Instr
with_pad words = take 16 (ld 31 X31 0 ∷ (words ++ replicate 15 Illegal))

-- the 16 words of the block of an instruction at p
abbrev pub block : Layout → ℕ → Instr → List Instr
block l p i = with_pad (words_of l p i)

-- the block behind the text
abbrev pub guard_block : List Instr
guard_block = with_pad park_words

-- the blocks of a text that starts at p, and the guard block
abbrev pub blocks_from : Layout → ℕ → List Instr → List (List Instr)
blocks_from l p [] = guard_block ∷ []
blocks_from l p (i ∷ text) = block l p i ∷ blocks_from l (p + 4) text
