-- Which instructions of the emitted code have a word: immediates that fit, and a test of an instruction whose fields are numerals.
use Rattle.std.proofs.Common.{◌≡◌, ℕ, zero, suc, ◌+◌, ◌*◌, ◌%◌, ◌^◌, ◌≤◌, ◌<◌, Bool, true, false, ◌&&◌, ℤ, pos, negsuc, List, [], ◌∷◌, ◌++◌, map, take, drop, nat_lt, ◌==◌, refl, arith, ltb-true}
use Rattle.std.specs.Prelude.{unsigned_abs, All}
use Rattle.std.proofs.lemmas.List.Elements.{All-nil, All-cons}
use Rattle.std.proofs.lemmas.Int.{ints}
use Rattle.std.proofs.lemmas.Bool.Decides.{nat_tests}
use Rattle.rv_decode.specs.Fields.{sign_extended}
use Rattle.rv_decode.specs.Formats.{FitsIn, IsMultipleOf, IsBelow}
use Rattle.rv_decode.specs.Encoding.{word_of}
use Rattle.rv_decode.specs.declared.instr.Instr.{Instr}
use Rattle.rv_decode.specs.declared.instr.Instr.TheVariants.{Lui, Auipc, Jal, Jalr, Branch, Load, Store, OpImm, OpImmW, Op, OpW, Fence, Ecall, Ebreak, Hgate, Hleave, Hsite, Hkey, Hstop, Hrestart, Hcall, Hpark, Illegal}
use Rattle.rv_decode.specs.declared.instr.ImmOp.{ImmOp}
use Rattle.rv_decode.specs.declared.instr.ImmOp.TheVariants.{Addi, Slti, Sltiu, Xori, Ori, Andi, Slli, Srli, Srai}
use Rattle.rv_decode.proofs.Decodes.{decodes_encoded}
use Rattle.rv_decode.proofs.Below.{encoded_is_word}
use Rattle.code_model.specs.Assembly.{diff, hi, lo, lui, addi, jalr}
use Rattle.machine_laws.specs.Words.{HasWord, padding, encodable, WordsDecode}
use Rattle.machine_laws.proofs.PatchedWords.{illegal-0}

-- ---- the word of an instruction that has one

pub words_decode : WordsDecode
words_decode Illegal padding = record { bits = omega arith; decodes = illegal-0 }
words_decode i (encodable e r) = record { bits = encoded_is_word i e r; decodes = decodes_encoded i e r }

-- ---- immediates that fit

-- the upper field of a number
hi-below : (v : ℕ) → hi v < 2 ^ 20
hi-below v = omega arith

upper-fits : (n : ℕ) → n < 2 ^ 32 → n % 4096 ≡ 0 → FitsIn 32 (sign_extended 32 n) × IsMultipleOf 4096 (sign_extended 32 n)
upper-fits n h e = grind (arith, ints)

lower-fits : (n : ℕ) → n < 2 ^ 12 → FitsIn 12 (sign_extended 12 n)
lower-fits n h = grind (arith, ints)

pub lo-fits : (v : ℕ) → FitsIn 12 (lo v)
lo-fits v = lower-fits (v % 4096) (omega arith)

-- the distance of a branch, and of a jump
pub branch-fits : (a b : ℕ) → a < b + 4096 → b ≤ a + 4096 → a % 2 ≡ 0 → b % 2 ≡ 0 → FitsIn 13 (diff a b) × IsMultipleOf 2 (diff a b)
branch-fits a b h k e f = grind (arith, ints, nat_tests)

pub jump-fits : (a b : ℕ) → a < b + 2 ^ 20 → b ≤ a + 2 ^ 20 → a % 2 ≡ 0 → b % 2 ≡ 0 → FitsIn 21 (diff a b) × IsMultipleOf 2 (diff a b)
jump-fits a b h k e f = grind (arith, ints, nat_tests)

-- ---- instructions with a part of an address

pub lui-has : (rd v : ℕ) → rd < 32 → HasWord (lui rd (hi v))
lui-has rd v r = encodable (upper-fits (4096 * hi v) (omega (arith, hi-below v)) (omega arith)) r

pub addi-has : (rd rs1 v : ℕ) → rd < 32 → rs1 < 32 → HasWord (addi rd rs1 (lo v))
addi-has rd rs1 v r s = encodable (lo-fits v) (r, s)

pub jalr-has : (rd rs1 v : ℕ) → rd < 32 → rs1 < 32 → HasWord (jalr rd (lo v) rs1)
jalr-has rd rs1 v r s = encodable (lo-fits v) (r, s)

-- ---- instructions whose fields are numerals

-- an immediate from -n to n - 1
abbrev is_near : ℕ → ℤ → Bool
is_near n (pos m) = nat_lt m n
is_near n (negsuc m) = nat_lt m n

-- a shift amount
abbrev is_amount : ℕ → ℤ → Bool
is_amount n (pos m) = nat_lt m n
is_amount n (negsuc m) = false

-- the immediate of an operation
abbrev imm_passes : ImmOp → ℤ → Bool
imm_passes Slli imm = is_amount 64 imm
imm_passes Srli imm = is_amount 64 imm
imm_passes Srai imm = is_amount 64 imm
imm_passes _ imm = is_near 2048 imm

-- an instruction of the emitted code has a word; the kinds that it has none of don't pass
abbrev pub passes : Instr → Bool
passes (Lui rd imm) = nat_lt rd 32 && (is_near 2147483648 imm && (unsigned_abs imm % 4096 == 0))
passes (Jal rd imm) = nat_lt rd 32 && (is_near 1048576 imm && (unsigned_abs imm % 2 == 0))
passes (Jalr rd rs1 imm) = nat_lt rd 32 && (nat_lt rs1 32 && is_near 2048 imm)
passes (Branch op rs1 rs2 imm) = nat_lt rs1 32 && (nat_lt rs2 32 && (is_near 4096 imm && (unsigned_abs imm % 2 == 0)))
passes (Load op rd rs1 imm) = nat_lt rd 32 && (nat_lt rs1 32 && is_near 2048 imm)
passes (Store op rs1 rs2 imm) = nat_lt rs1 32 && (nat_lt rs2 32 && is_near 2048 imm)
passes (OpImm op rd rs1 imm) = nat_lt rd 32 && (nat_lt rs1 32 && imm_passes op imm)
passes (Op op rd rs1 rs2) = nat_lt rd 32 && (nat_lt rs1 32 && nat_lt rs2 32)
passes (Hsite rd) = nat_lt rd 32
passes (Hkey rd) = nat_lt rd 32
passes Hleave = true
passes Hstop = true
passes Hrestart = true
passes (Hcall unhinted) = true
passes (Hpark cause) = true
passes Illegal = true
passes other = false

-- ---- what passes has a word

-- both tests say yes
both : (a b : Bool) → (a && b) ≡ true → (a ≡ true) × (b ≡ true)
both true b e = (refl, e)
both false b e = absurd cc

near-12 : (z : ℤ) → is_near 2048 z ≡ true → FitsIn 12 z
near-12 (pos n) e = grind (arith, ints, nat_tests)
near-12 (negsuc n) e = grind (arith, ints, nat_tests)

near-13 : (z : ℤ) → is_near 4096 z ≡ true → FitsIn 13 z
near-13 (pos n) e = grind (arith, ints, nat_tests)
near-13 (negsuc n) e = grind (arith, ints, nat_tests)

near-21 : (z : ℤ) → is_near 1048576 z ≡ true → FitsIn 21 z
near-21 (pos n) e = grind (arith, ints, nat_tests)
near-21 (negsuc n) e = grind (arith, ints, nat_tests)

near-32 : (z : ℤ) → is_near 2147483648 z ≡ true → FitsIn 32 z
near-32 (pos n) e = grind (arith, ints, nat_tests)
near-32 (negsuc n) e = grind (arith, ints, nat_tests)

amount-64 : (z : ℤ) → is_amount 64 z ≡ true → IsBelow 64 z
amount-64 (pos n) e = grind (arith, ints, nat_tests)
amount-64 (negsuc n) e = absurd cc

whole : (n : ℕ) (z : ℤ) → (unsigned_abs z % n == 0) ≡ true → IsMultipleOf n z
whole n z e = grind (arith, nat_tests)

-- its registers and its immediate
imm-has : (op : ImmOp) (rd rs1 : ℕ) (z : ℤ) → rd < 32 → rs1 < 32 → imm_passes op z ≡ true → HasWord (OpImm op rd rs1 z)
imm-has Slli rd rs1 z r s e = encodable (amount-64 z e) (r, s)
imm-has Srli rd rs1 z r s e = encodable (amount-64 z e) (r, s)
imm-has Srai rd rs1 z r s e = encodable (amount-64 z e) (r, s)
imm-has Addi rd rs1 z r s e = encodable (near-12 z e) (r, s)
imm-has Slti rd rs1 z r s e = encodable (near-12 z e) (r, s)
imm-has Sltiu rd rs1 z r s e = encodable (near-12 z e) (r, s)
imm-has Xori rd rs1 z r s e = encodable (near-12 z e) (r, s)
imm-has Ori rd rs1 z r s e = encodable (near-12 z e) (r, s)
imm-has Andi rd rs1 z r s e = encodable (near-12 z e) (r, s)

pub has : (i : Instr) → passes i ≡ true → HasWord i
has (Lui rd z) e =
    let (r, f) = both _ _ e in
    let (n, m) = both _ _ f in
    encodable (near-32 z n, whole 4096 z m) (ltb-true rd 32 r)
has (Jal rd z) e =
    let (r, f) = both _ _ e in
    let (n, m) = both _ _ f in
    encodable (near-21 z n, whole 2 z m) (ltb-true rd 32 r)
has (Jalr rd rs1 z) e =
    let (r, f) = both _ _ e in
    let (s, n) = both _ _ f in
    encodable (near-12 z n) (ltb-true rd 32 r, ltb-true rs1 32 s)
has (Branch op rs1 rs2 z) e =
    let (r, f) = both _ _ e in
    let (s, g) = both _ _ f in
    let (n, m) = both _ _ g in
    encodable (near-13 z n, whole 2 z m) (ltb-true rs1 32 r, ltb-true rs2 32 s)
has (Load op rd rs1 z) e =
    let (r, f) = both _ _ e in
    let (s, n) = both _ _ f in
    encodable (near-12 z n) (ltb-true rd 32 r, ltb-true rs1 32 s)
has (Store op rs1 rs2 z) e =
    let (r, f) = both _ _ e in
    let (s, n) = both _ _ f in
    encodable (near-12 z n) (ltb-true rs1 32 r, ltb-true rs2 32 s)
has (OpImm op rd rs1 z) e =
    let (r, f) = both _ _ e in
    let (s, n) = both _ _ f in
    imm-has op rd rs1 z (ltb-true rd 32 r) (ltb-true rs1 32 s) n
has (Op op rd rs1 rs2) e =
    let (r, f) = both _ _ e in
    let (s, t) = both _ _ f in
    encodable tt (ltb-true rd 32 r, ltb-true rs1 32 s, ltb-true rs2 32 t)
has (Hsite rd) e = encodable tt (ltb-true rd 32 e)
has (Hkey rd) e = encodable tt (ltb-true rd 32 e)
has Hleave e = encodable tt tt
has Hstop e = encodable tt tt
has Hrestart e = encodable tt tt
has (Hcall unhinted) e = encodable tt tt
has (Hpark cause) e = encodable tt tt
has Illegal e = padding
has (Auipc rd z) e = absurd cc
has (OpImmW op rd rs1 z) e = absurd cc
has (OpW op rd rs1 rs2) e = absurd cc
has (Fence word) e = absurd cc
has Ecall e = absurd cc
has Ebreak e = absurd cc
has Hgate e = absurd cc

-- ---- lists of them

-- all pass
abbrev pub all_pass : List Instr → Bool
all_pass [] = true
all_pass (i ∷ code) = passes i && all_pass code

-- each instruction of some code has a word
pub data Each : List Instr → Type 0 where
  none : Each []
  one : {i : Instr} {code : List Instr} → HasWord i → Each code → Each (i ∷ code)

-- the first n instructions pass, and each of the others has a word
pub front : (n : ℕ) {code : List Instr} → all_pass (take n code) ≡ true → Each (drop n code) → Each code
front zero e h = h
front (suc n) {code = []} e h = none
front (suc n) {code = i ∷ code} e h =
    let (p, q) = both _ _ e in
    one (has i p) (front n q h)

-- two parts
pub joined : {first second : List Instr} → Each first → Each second → Each (first ++ second)
joined none k = k
joined (one p h) k = one p (joined h k)

pub each_is_all : {code : List Instr} → Each code → All HasWord code
each_is_all none = All-nil HasWord
each_is_all (one p h) = All-cons HasWord _ _ p (each_is_all h)

-- the words of such code have 32 bits
pub word-bits : {code : List Instr} → Each code → All (λ word. word < 2 ^ 32) (map word_of code)
word-bits none = All-nil (λ word. word < 2 ^ 32)
word-bits (one {i} h rest) = All-cons (λ word. word < 2 ^ 32) (word_of i) _ (words_decode i h).bits (word-bits rest)
