-- The bytes of the program's file.
use Rattle.std.proofs.Common.{◌≡◌, ℕ, zero, suc, ◌+◌, ◌*◌, ◌/◌, ◌<◌, List, [], ◌∷◌, length, refl, ap, arith}
use Rattle.std.specs.Prelude.{All}
use Rattle.sample_images.specs.Demos.{data_byte, data_bytes}

-- how many there are
pub data_bytes-length : (i n : ℕ) → length (data_bytes i n) ≡ n
data_bytes-length i zero = refl
data_bytes-length i (suc n) = let rest = data_bytes-length (i + 1) n in grind arith

-- each is a byte
pub data_bytes-small : (i n : ℕ) → All (λ b. b < 256) (data_bytes i n)
data_bytes-small i zero = grind arith
data_bytes-small i (suc n) = let rest = data_bytes-small (i + 1) n in let small : data_byte i < 256 = omega arith in grind arith
