-- Words of known instructions compute, and so do instructions of known words.
use Rattle.std.proofs.Common.{◌≡◌, refl, pos, negsuc}
use Rattle.spec_base.specs.declared.park.Park.TheVariants.{Regions}
use Rattle.rv_decode.specs.declared.instr.Instr.TheVariants.{Lui, Load, Store, Jal, Hpark}
use Rattle.rv_decode.specs.declared.instr.LoadOp.TheVariants.{Ld}
use Rattle.rv_decode.specs.declared.instr.StoreOp.TheVariants.{Sd}
use Rattle.rv_decode.specs.Instruction.{instr_of}
use Rattle.rv_decode.specs.Encoding.{word_of}

-- ld x31, -8(x0)
ld : word_of (Load Ld 31 0 (negsuc 7)) ≡ 0xFF803F83
ld = refl

-- sd x31, -8(x0)
sd : word_of (Store Sd 0 31 (negsuc 7)) ≡ 0xFFF03C23
sd = refl

-- lui x31, 0x41100
lui : word_of (Lui 31 (pos 0x41100000)) ≡ 0x41100FB7
lui = refl

-- jal x0, -72
back : word_of (Jal 0 (negsuc 71)) ≡ 0xFB9FF06F
back = refl

park : word_of (Hpark Regions) ≡ 0x0000718B
park = refl

decoded : instr_of 0xFF803F83 ≡ Load Ld 31 0 (negsuc 7)
unfolding instr_of
decoded = refl
