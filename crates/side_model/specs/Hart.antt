-- The shadow hart as its words are followed: the four registers that helpers change stand apart, and the private page is its eight places (this project's own).
use Rattle.std.specs.Prelude.{ℕ, ◌-◌, ◌^◌, Bool, ◌&&◌, ◌||◌, cond, nat_le, ◌==◌, Option, Some, None}

-- ---- registers

-- x28 to x31, and all others by number
pub record Regs : Type 0 where
  pub low : ℕ → ℕ
  pub x28 : ℕ
  pub x29 : ℕ
  pub x30 : ℕ
  pub x31 : ℕ

-- what a register reads as
abbrev pub get : ℕ → Regs → ℕ
get n q =
    cond (n == 0) 0 (cond (n == 28) q.x28 (cond (n == 29) q.x29 (cond (n == 30) q.x30 (cond (n == 31) q.x31 (q.low n)))))

-- x0, or one of the four
abbrev pub is_apart : ℕ → Bool
is_apart n = (n == 0) || (nat_le 28 n && nat_le n 31)

-- the registers after a write; a write to x0 leaves them
abbrev pub put : ℕ → ℕ → Regs → Regs
put n v q =
    record {
      low = cond (is_apart n) q.low (λ k. cond (k == n) v (q.low k));
      x28 = cond (n == 28) v q.x28;
      x29 = cond (n == 29) v q.x29;
      x30 = cond (n == 30) v q.x30;
      x31 = cond (n == 31) v q.x31;
    }

-- ---- private places

-- the eight numbers of the private page
pub record Priv : Type 0 where
  pub x31 : ℕ
  pub x30 : ℕ
  pub x29 : ℕ
  pub x28 : ℕ
  pub adr : ℕ
  pub ret : ℕ
  pub ent : ℕ
  pub val : ℕ

-- the number at an address of the page, if it is one of the eight
abbrev pub get_private : ℕ → Priv → Option ℕ
get_private a p =
    cond (a == 2 ^ 64 - 8) (Some p.x31) (cond (a == 2 ^ 64 - 16) (Some p.x30) (cond (a == 2 ^ 64 - 24) (Some p.x29) (cond (a == 2 ^ 64 - 32) (Some p.x28)
    (cond (a == 2 ^ 64 - 40) (Some p.adr) (cond (a == 2 ^ 64 - 48) (Some p.ret) (cond (a == 2 ^ 64 - 56) (Some p.ent) (cond (a == 2 ^ 64 - 64) (Some p.val) None)))))))

-- whether an address is one of the eight
abbrev pub is_place : ℕ → Bool
is_place a = (a == 2 ^ 64 - 8) || ((a == 2 ^ 64 - 16) || ((a == 2 ^ 64 - 24) || ((a == 2 ^ 64 - 32) || ((a == 2 ^ 64 - 40) || ((a == 2 ^ 64 - 48) || ((a == 2 ^ 64 - 56) || (a == 2 ^ 64 - 64)))))))

-- the places after a store to one of them
abbrev pub put_private : ℕ → ℕ → Priv → Priv
put_private a v p =
    record {
      x31 = cond (a == 2 ^ 64 - 8) v p.x31;
      x30 = cond (a == 2 ^ 64 - 16) v p.x30;
      x29 = cond (a == 2 ^ 64 - 24) v p.x29;
      x28 = cond (a == 2 ^ 64 - 32) v p.x28;
      adr = cond (a == 2 ^ 64 - 40) v p.adr;
      ret = cond (a == 2 ^ 64 - 48) v p.ret;
      ent = cond (a == 2 ^ 64 - 56) v p.ent;
      val = cond (a == 2 ^ 64 - 64) v p.val;
    }
