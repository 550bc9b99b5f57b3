-- A memory is a byte at each address. A number stands with its lowest byte first (RISC-V Unprivileged ISA 20191213, section 2.6).
use Rattle.std.specs.Prelude.{ℕ, zero, suc, ◌+◌, ◌-◌, ◌*◌, Bool, true, false, ◌&&◌, ◌||◌, List, [], ◌∷◌, length, get_or, nat_lt, nat_le}
use Rattle.spec_base.specs.Word.{byte_of}

-- a byte at each address
abbrev pub Memory : Type 0
Memory = ℕ → ℕ

-- a memory of zeros
abbrev pub zeros : Memory
zeros a = 0

-- an address is one of n from base on
abbrev pub is_within : ℕ → ℕ → ℕ → Bool
is_within base n a = nat_le base a && nat_lt a (base + n)

-- the one form of every change: n bytes from base on are those of f, and each other byte is as before
unfoldable pub patched : Memory → ℕ → ℕ → (ℕ → ℕ) → Memory
patched m base n f a = elim (is_within base n a) [ true ↦ f (a - base) | false ↦ m a ]

-- the lowest n bytes of a number are stored from base on
abbrev pub stored : Memory → ℕ → ℕ → ℕ → Memory
stored m base n v = patched m base n (byte_of v)

-- bytes are written from base on
abbrev pub written : Memory → ℕ → List ℕ → Memory
written m base bytes = patched m base (length bytes) (λ i. get_or bytes i 0)

-- the number of the n bytes from a on
unfoldable pub loaded : Memory → ℕ → ℕ → ℕ
loaded m a zero = 0
loaded m a (suc n) = m a + 256 * loaded m (a + 1) n

-- the n bytes from a on
unfoldable pub bytes_at : Memory → ℕ → ℕ → List ℕ
bytes_at m a zero = []
bytes_at m a (suc n) = m a ∷ bytes_at m (a + 1) n

-- a test holds at each of the n addresses from a on
unfoldable pub all_from : (ℕ → Bool) → ℕ → ℕ → Bool
all_from test a zero = true
all_from test a (suc n) = test a && all_from test (a + 1) n

-- a test holds at one of the n addresses from a on
unfoldable pub any_from : (ℕ → Bool) → ℕ → ℕ → Bool
any_from test a zero = false
any_from test a (suc n) = test a || any_from test (a + 1) n
