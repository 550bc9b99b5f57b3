-- Numbers of 64 bits, and the bytes of numbers, of which the lowest comes first (RISC-V Unprivileged ISA 20191213, section 2.6).
use Rattle.std.specs.Prelude.{ℕ, zero, suc, ◌+◌, ◌-◌, ◌*◌, ◌/◌, ◌%◌, ◌^◌, ℤ, pos, negsuc, List, [], ◌∷◌}

-- a number modulo 2^64
abbrev pub wrap : ℕ → ℕ
wrap n = n % 2 ^ 64

-- the 64 bits of a signed number, in two's complement
abbrev pub word_of_int : ℤ → ℕ
word_of_int (pos n) = n % 2 ^ 64
word_of_int (negsuc n) = 2 ^ 64 - 1 - n % 2 ^ 64

-- a word plus a signed number
abbrev pub plus_int : ℕ → ℤ → ℕ
plus_int x z = wrap (x + word_of_int z)

-- byte i of a number
abbrev pub byte_of : ℕ → ℕ → ℕ
byte_of v i = v / 2 ^ (8 * i) % 256

-- the lowest n bytes of a number
abbrev pub bytes_of : ℕ → ℕ → List ℕ
bytes_of zero v = []
bytes_of (suc n) v = v % 256 ∷ bytes_of n (v / 256)

-- the number that bytes write
abbrev pub number_of : List ℕ → ℕ
number_of [] = 0
number_of (b ∷ bs) = b + 256 * number_of bs
