-- Which addresses are data, and the bytes there, of what holds a program's data (this project's own).
use Rattle.std.specs.Prelude.{ℕ, ◌^◌, Bool, true, false, nat_lt, Option, None, is_some, unwrap_or}
use Rattle.rv_model.specs.Memory.{Memory}

-- the byte at an address, where the test holds
abbrev pub byte_if : Bool → Option ℕ → Option ℕ
byte_if true byte = byte
byte_if false byte = None

-- the byte at an address, if it is data: an address of 2^64 or more never is
abbrev pub byte_in : (ℕ → Option ℕ) → ℕ → Option ℕ
byte_in byte_at a = byte_if (nat_lt a (2 ^ 64)) (byte_at a)

-- an address is data
abbrev pub data_in : (ℕ → Option ℕ) → ℕ → Bool
data_in byte_at a = is_some (byte_in byte_at a)

-- the bytes of the data
abbrev pub memory_in : (ℕ → Option ℕ) → Memory
memory_in byte_at a = unwrap_or (byte_in byte_at a) 0
