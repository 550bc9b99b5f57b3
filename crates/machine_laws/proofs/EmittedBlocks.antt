-- Each instruction of the shadow text has a word.
use Rattle.std.proofs.Common.{◌≡◌, ◌≢◌, ℕ, zero, suc, ◌+◌, ◌*◌, ◌/◌, ◌^◌, ◌≤◌, ◌<◌, Bool, true, false, ℤ, pos, negsuc, List, take, replicate, ◌==◌, refl, arith}
use Rattle.std.specs.Prelude.{IsTrue}
use Rattle.std.proofs.lemmas.Int.{ints}
use Rattle.std.proofs.lemmas.Bool.Decides.{nat_tests}
use Rattle.spec_base.specs.Word.{plus_int}
use Rattle.spec_base.specs.Layout.{helpers_start, image_limit, is_lawful}
use Rattle.spec_base.specs.declared.layout.Layout.{Layout}
use Rattle.spec_base.specs.declared.layout.Version.{Version}
use Rattle.spec_base.specs.declared.layout.Version.TheVariants.{One, Two}
use Rattle.rv_decode.specs.Formats.{FitsIn, IsMultipleOf, IsBelow}
use Rattle.rv_decode.specs.Instruction.{instr_of}
use Rattle.rv_decode.specs.Encoding.{IsEncodable, HasRegisters}
use Rattle.rv_decode.specs.declared.instr.Instr.{Instr}
use Rattle.rv_decode.specs.declared.instr.Instr.TheVariants.{Lui, Auipc, Jal, Jalr, Branch, Load, Store, OpImm, OpImmW, Op, OpW, Fence, Ecall, Illegal}
use Rattle.rv_decode.specs.declared.instr.BranchOp.{BranchOp}
use Rattle.rv_decode.specs.declared.instr.LoadOp.{LoadOp}
use Rattle.rv_decode.specs.declared.instr.StoreOp.{StoreOp}
use Rattle.rv_decode.proofs.Encodable.{decoded_is_encodable, decoded_has_registers}
use Rattle.code_model.specs.Assembly.{slli, ld, X31}
use Rattle.code_model.specs.Places.{block_at}
use Rattle.code_model.specs.Blocks.{is_target, to_block, access_words, load_helper, store_helper, plain_words, auipc_words, park_words, jal_if, link_spill, jalr_words, taken_word, branch_words, load_restore, load_words, store_end, store_words, call_words, words_of, with_pad, block, guard_block}
use Rattle.machine_laws.specs.Words.{HasWord, padding, encodable, BlocksHaveWords, GuardHasWords}
use Rattle.machine_laws.proofs.Fits.{lui-has, addi-has, jalr-has, has, jump-fits, Each, none, one, front, joined, each_is_all}

-- ---- how far a branch goes

-- a text is below 2^30
limit-below : (v : Version) → image_limit v < 2 ^ 30
limit-below One = omega arith
limit-below Two = omega arith

-- a word of the text stands from its start on, below 2^30
record IsIn (l : Layout) (p : ℕ) : Type 0 where
  start : l.text_start ≤ p
  below : p < 2 ^ 30

in-text : (l : Layout) (p : ℕ) → IsTrue (is_lawful l) → IsTrue (is_target l p) → IsIn l p
in-text l p lawful at =
    let s : l.text_start ≤ p = grind (arith, nat_tests) in
    let e : p < l.text_end = grind (arith, nat_tests) in
    let k : l.text_end ≤ image_limit l.version = grind (arith, nat_tests) in
    record { start = s; below = omega (arith, limit-below l.version) }

-- a branch of 13 bits that stays below 2^30 goes 4 KiB at most
near-target : (p t : ℕ) (z : ℤ) → p < 2 ^ 30 → t < 2 ^ 30 → t ≡ plus_int p z → FitsIn 13 z → (t ≤ p + 4096) × (p ≤ t + 4096)
near-target p t (pos n) hp ht e f =
    let b : n < 4096 = grind (arith, ints) in
    (omega arith, omega arith)
near-target p t (negsuc n) hp ht e f =
    let b : n < 4096 = grind (arith, ints) in
    (omega arith, omega arith)

-- a jump from a block to another, of a word that isn't far
to_block-has : (l : Layout) (p t : ℕ) → IsIn l p → IsIn l t → t ≤ p + 4096 → p ≤ t + 4096 → HasWord (to_block l p 3 t)
to_block-has l p t hp ht a b =
    let s : l.text_start ≤ p = hp.start in
    let r : l.text_start ≤ t = ht.start in
    encodable (jump-fits (block_at l t + 4) (block_at l p + 4 * 3) (omega arith) (omega arith) (omega arith) (omega arith)) (omega arith)

-- where a taken branch goes
taken-has : (l : Layout) (p : ℕ) (z : ℤ) → IsTrue (is_lawful l) → IsIn l p → FitsIn 13 z → (b : Bool) → is_target l (plus_int p z) ≡ b → HasWord (taken_word b l p (plus_int p z))
taken-has l p z lawful hp f true e =
    let ht : IsIn l (plus_int p z) = in-text l (plus_int p z) lawful e in
    let near : (plus_int p z ≤ p + 4096) × (p ≤ plus_int p z + 4096) = near-target p (plus_int p z) z hp.below ht.below refl f in
    to_block-has l p (plus_int p z) hp ht near.0 near.1
taken-has l p z lawful hp f false e = encodable tt tt

-- ---- the nine shapes

parks-have : Each park_words
parks-have = front 1 refl none

plain-has : {i : Instr} → HasWord i → Each (plain_words i)
plain-has h = one h (front 1 refl none)

-- a shift by 2
shift-has : (rd : ℕ) → rd < 32 → HasWord (slli rd rd 2)
shift-has rd r = encodable two (r, r)
  where
    two : IsBelow 64 (pos 2)
    two = grind (arith, ints)

auipc-has : (rd v : ℕ) → rd < 32 → Each (auipc_words rd v)
auipc-has rd v r = one (lui-has rd (v / 4) r) (one (addi-has rd rd (v / 4) r r) (one (shift-has rd r) (front 1 refl none)))

jal-has : (b : Bool) (l : Layout) (p rd t : ℕ) → rd < 32 → Each (jal_if b l p rd t)
jal-has true l p rd t r =
    one (lui-has rd (p + 4) r) (one (addi-has rd rd (p + 4) r r)
    (front 1 refl (one (lui-has 31 (block_at l t) (omega arith)) (one (jalr-has 0 31 (block_at l t) (omega arith) (omega arith)) none))))
jal-has false l p rd t r = parks-have

-- x31 is spilled again, or not
spill-has : (b : Bool) → HasWord (link_spill b)
spill-has true = has (link_spill true) refl
spill-has false = has (link_spill false) refl

jalr-words-have : (p rd rs1 : ℕ) (z : ℤ) → FitsIn 12 z → rd < 32 → rs1 < 32 → Each (jalr_words p rd rs1 z)
jalr-words-have p rd rs1 z f r s =
    front 1 refl (one (encodable f (omega arith, s)) (front 1 refl
    (one (lui-has rd (p + 4) r) (one (addi-has rd rd (p + 4) r r) (one (spill-has (rd == 31)) (front 2 refl none))))))

branch-has :
    (l : Layout) (p : ℕ) (op : BranchOp) (rs1 rs2 : ℕ) (z : ℤ) → IsTrue (is_lawful l) → IsIn l p → FitsIn 13 z → rs1 < 32 → rs2 < 32 →
    Each (branch_words l p op rs1 rs2 (plus_int p z))
branch-has l p op rs1 rs2 z lawful hp f r s =
    one (encodable two_words (r, s)) (front 1 refl (one (taken-has l p z lawful hp f (is_target l (plus_int p z)) refl) none))
  where
    two_words : FitsIn 13 (pos 8) × IsMultipleOf 2 (pos 8)
    two_words = (grind (arith, ints), refl)

-- the place of an access is found
access-words-have : (helper rs1 : ℕ) (z : ℤ) → FitsIn 12 z → rs1 < 32 → Each (access_words helper rs1 z)
access-words-have helper rs1 z f s =
    front 1 refl (one (encodable f (omega arith, s)) (front 1 refl
    (one (lui-has 31 (helpers_start + helper) (omega arith)) (one (jalr-has 31 31 (helpers_start + helper) (omega arith) (omega arith)) none))))

restore-has : (b : Bool) → HasWord (load_restore b)
restore-has true = has (load_restore true) refl
restore-has false = has (load_restore false) refl

zero-fits : FitsIn 12 (pos 0)
zero-fits = grind (arith, ints)

load-has : (op : LoadOp) (rd rs1 : ℕ) (z : ℤ) → FitsIn 12 z → rd < 32 → rs1 < 32 → Each (load_words op rd rs1 z)
load-has op rd rs1 z f r s =
    joined (access-words-have (load_helper op) rs1 z f s)
    (front 1 refl (one (encodable zero-fits (r, omega arith)) (one (restore-has (rd == 31)) (front 1 refl none))))

store-end-has : (b : Bool) (op : StoreOp) (rs2 : ℕ) → rs2 < 32 → Each (store_end b op rs2)
store-end-has true op rs2 s = front 1 refl (one (encodable zero-fits (omega arith, omega arith)) (front 3 refl none))
store-end-has false op rs2 s = front 1 refl (one (encodable zero-fits (omega arith, s)) (front 2 refl none))

store-has : (op : StoreOp) (rs1 rs2 : ℕ) (z : ℤ) → FitsIn 12 z → rs1 < 32 → rs2 < 32 → Each (store_words op rs1 rs2 z)
store-has op rs1 rs2 z f r s = joined (access-words-have (store_helper op) rs1 z f r) (store-end-has (rs2 == 31) op rs2 s)

calls-have : Each call_words
calls-have = front 7 refl none

-- ---- blocks

module _ (l : Layout) (p : ℕ) (lawful : IsTrue (is_lawful l)) (at : IsIn l p) where
  -- the words of the block of each instruction that is decoded
  words-have : (i : Instr) → (i ≢ Illegal → IsEncodable i) → HasRegisters i → Each (words_of l p i)
  words-have (Lui rd z) e r = plain-has (encodable (e (λ n. cc)) r)
  words-have (OpImm op rd rs1 z) e r = plain-has (encodable (e (λ n. cc)) r)
  words-have (OpImmW op rd rs1 z) e r = plain-has (encodable (e (λ n. cc)) r)
  words-have (Op op rd rs1 rs2) e r = plain-has (encodable tt r)
  words-have (OpW op rd rs1 rs2) e r = plain-has (encodable tt r)
  words-have (Fence word) e r = plain-has (encodable (e (λ n. cc)) tt)
  words-have (Auipc rd z) e r = auipc-has rd (plus_int p z) r
  words-have (Jal rd z) e r = jal-has (is_target l (plus_int p z)) l p rd (plus_int p z) r
  words-have (Jalr rd rs1 z) e r = jalr-words-have p rd rs1 z (e (λ n. cc)) r.0 r.1
  words-have (Branch op rs1 rs2 z) e r =
      let f : FitsIn 13 z × IsMultipleOf 2 z = e (λ n. cc) in
      branch-has l p op rs1 rs2 z lawful at f.0 r.0 r.1
  words-have (Load op rd rs1 z) e r = load-has op rd rs1 z (e (λ n. cc)) r.0 r.1
  words-have (Store op rs1 rs2 z) e r = store-has op rs1 rs2 z (e (λ n. cc)) r.0 r.1
  words-have Ecall e r = calls-have
  words-have other e r = parks-have

-- the padding
padding-has : (n : ℕ) → Each (replicate n Illegal)
padding-has zero = none
padding-has (suc n) = one padding (padding-has n)

-- the first of them
taken-each : (n : ℕ) {code : List Instr} → Each code → Each (take n code)
taken-each zero h = none
taken-each (suc n) none = none
taken-each (suc n) (one p h) = one p (taken-each n h)

-- with the landing pad
padded-has : {words : List Instr} → Each words → Each (with_pad words)
padded-has h = taken-each 16 (one (has (ld 31 X31 0) refl) (joined h (padding-has 15)))

pub block-has : (l : Layout) → IsTrue (is_lawful l) → (p word : ℕ) → IsTrue (is_target l p) → word < 2 ^ 32 → Each (block l p (instr_of word))
block-has l lawful p word target w = padded-has (words-have l p lawful (in-text l p lawful target) (instr_of word) (decoded_is_encodable word w) (decoded_has_registers word))

pub guard-has : Each guard_block
guard-has = padded-has parks-have

pub blocks_have_words : BlocksHaveWords
blocks_have_words l lawful p word target w = each_is_all (block-has l lawful p word target w)

pub guard_has_words : GuardHasWords
guard_has_words = each_is_all guard-has
