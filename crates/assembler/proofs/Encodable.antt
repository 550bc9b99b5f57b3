-- The instructions of listings can be encoded.
use Rattle.std.proofs.Common.{◌≡◌, ℕ, suc, ◌%◌, ◌^◌, ◌<◌, ◌≤◌, Bool, true, false, ◌&&◌, nat_lt, ◌==◌, ℤ, pos, negsuc, List, [], ◌∷◌, arith}
use Rattle.std.specs.List.{All}
use Rattle.std.proofs.lemmas.Int.{ints}
use Rattle.std.proofs.lemmas.Bool.Decides.{nat_tests}
use Rattle.std.proofs.lemmas.List.Elements.{All-nil, All-cons}
use Rattle.rv_decode.specs.Formats.{FitsIn, IsMultipleOf}
use Rattle.rv_decode.specs.Encoding.{IsEncodable}
use Rattle.rv_decode.specs.declared.instr.Instr.{Instr}
use Rattle.rv_decode.specs.declared.instr.Instr.TheVariants.{Lui, Jal, Jalr, Branch, Load, Store, OpImm, Op, Hleave, Hsite, Hkey, Hstop, Hrestart, Hcall, Hpark}
use Rattle.rv_decode.specs.declared.instr.ImmOp.{ImmOp}
use Rattle.rv_decode.specs.declared.instr.ImmOp.TheVariants.{Slli, Srli, Srai}
use Rattle.code_model.specs.Assembly.{diff, hi, lo, lui}

-- ---- what depends on numbers

-- hi gives lui a field of 20 bits
pub lui-encodable : (rd field : ℕ) → field < 2 ^ 20 → IsEncodable (lui rd field)
lui-encodable rd field h = grind (arith, ints)

pub lui_hi-encodable : (rd v : ℕ) → IsEncodable (lui rd (hi v))
lui_hi-encodable rd v = lui-encodable rd (hi v) (omega arith)

-- lo gives addi and jalr a number of 12 bits
pub lo-fits : (v : ℕ) → FitsIn 12 (lo v)
lo-fits v = grind (arith, ints)

-- between words of the first 4 KiB a branch reaches, and so does a jump
pub diff-fits-branch : (to from : ℕ) → to < 4096 → from ≤ 4096 → to % 4 ≡ 0 → from % 4 ≡ 0 → FitsIn 13 (diff to from) × IsMultipleOf 2 (diff to from)
diff-fits-branch to from h k a b = grind (arith, ints, nat_tests)

pub diff-fits-jump : (to from : ℕ) → to < 2 ^ 20 → from ≤ 2 ^ 20 → to % 4 ≡ 0 → from % 4 ≡ 0 → FitsIn 21 (diff to from) × IsMultipleOf 2 (diff to from)
diff-fits-jump to from h k a b = grind (arith, ints, nat_tests)

-- ---- what computes

-- whether a number has so many bits in two's complement, the first of which says its sign
abbrev fits : ℕ → ℤ → Bool
fits sign (pos n) = nat_lt n (2 ^ sign)
fits sign (negsuc n) = nat_lt n (2 ^ sign)

-- whether a distance is a multiple of 2
abbrev even : ℤ → Bool
even (pos n) = n % 2 == 0
even (negsuc n) = suc n % 2 == 0

-- whether it is a shift amount
abbrev amount : ℤ → Bool
amount (pos n) = nat_lt n 64
amount (negsuc n) = false

abbrev immediate_fits : ImmOp → ℤ → Bool
immediate_fits Slli imm = amount imm
immediate_fits Srli imm = amount imm
immediate_fits Srai imm = amount imm
immediate_fits op imm = fits 11 imm

-- whether an instruction of the listings can be encoded
abbrev encodes : Instr → Bool
encodes (Jal rd imm) = fits 20 imm && even imm
encodes (Jalr rd rs1 imm) = fits 11 imm
encodes (Branch op rs1 rs2 imm) = fits 12 imm && even imm
encodes (Load op rd rs1 imm) = fits 11 imm
encodes (Store op rs1 rs2 imm) = fits 11 imm
encodes (OpImm op rd rs1 imm) = immediate_fits op imm
encodes (Lui rd (pos n)) = nat_lt n (2 ^ 31) && (n % 4096 == 0)
encodes (Op op rd rs1 rs2) = true
encodes (Hsite rd) = true
encodes (Hkey rd) = true
encodes Hleave = true
encodes Hstop = true
encodes Hrestart = true
encodes (Hcall unhinted) = true
encodes (Hpark cause) = true
encodes i = false

fits-11 : (imm : ℤ) → fits 11 imm ≡ true → FitsIn 12 imm
fits-11 (pos n) e = grind (arith, ints, nat_tests)
fits-11 (negsuc n) e = grind (arith, ints, nat_tests)

immediate-fits : (op : ImmOp) (rd rs1 : ℕ) (imm : ℤ) → immediate_fits op imm ≡ true → IsEncodable (OpImm op rd rs1 imm)
immediate-fits op rd rs1 imm e = grind (arith, ints, nat_tests)

branch-fits : (imm : ℤ) → (fits 12 imm && even imm) ≡ true → FitsIn 13 imm × IsMultipleOf 2 imm
branch-fits (pos n) e = grind (arith, ints, nat_tests)
branch-fits (negsuc n) e = grind (arith, ints, nat_tests)

jump-fits : (imm : ℤ) → (fits 20 imm && even imm) ≡ true → FitsIn 21 imm × IsMultipleOf 2 imm
jump-fits (pos n) e = grind (arith, ints, nat_tests)
jump-fits (negsuc n) e = grind (arith, ints, nat_tests)

encodable : (i : Instr) → encodes i ≡ true → IsEncodable i
encodable (Jal rd imm) e = jump-fits imm e
encodable (Jalr rd rs1 imm) e = fits-11 imm e
encodable (Branch op rs1 rs2 imm) e = branch-fits imm e
encodable (Load op rd rs1 imm) e = fits-11 imm e
encodable (Store op rs1 rs2 imm) e = fits-11 imm e
encodable (OpImm op rd rs1 imm) e = immediate-fits op rd rs1 imm e
encodable (Lui rd (pos n)) e = grind (arith, ints, nat_tests)
encodable (Op op rd rs1 rs2) e = tt
encodable (Hsite rd) e = tt
encodable (Hkey rd) e = tt
encodable Hleave e = tt
encodable Hstop e = tt
encodable Hrestart e = tt
encodable (Hcall unhinted) e = tt
encodable (Hpark cause) e = tt
encodable i e = absurd (grind arith)

-- whether all of a list can
abbrev pub all_encode : List Instr → Bool
all_encode [] = true
all_encode (i ∷ is) = encodes i && all_encode is

pub all-encodable : (is : List Instr) → all_encode is ≡ true → All IsEncodable is
all-encodable [] e = All-nil IsEncodable
all-encodable (i ∷ is) e = All-cons IsEncodable i is (encodable i (grind arith)) (all-encodable is (grind arith))
