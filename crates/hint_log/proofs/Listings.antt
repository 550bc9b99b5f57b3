-- The listings of log and box: they can be encoded, and the registers of the box come one after the other.
use Rattle.std.proofs.Common.{◌≡◌, ℕ, zero, suc, ◌+◌, ◌-◌, ◌*◌, ◌≤◌, pos, [], ◌∷◌, ◌++◌, refl, ap, ◌∙◌, arith}
use Rattle.std.specs.List.{All}
use Rattle.rv_decode.specs.Encoding.{IsEncodable}
use Rattle.code_model.specs.Assembly.{ld, sd}
use Rattle.code_model.specs.Helpers.{box_loads}
use Rattle.code_model.specs.Stub.{check_words, box_stores}
use Rattle.assembler.proofs.Encodable.{all-encodable}

pub check-encodable : All IsEncodable check_words
check-encodable = all-encodable check_words refl

-- the stores of some registers, and then those of the next
pub box_stores-split : (i n m k j : ℕ) → n + m ≡ k → i + n ≡ j → box_stores i k ≡ box_stores i n ++ box_stores j m
box_stores-split i zero m k j e f =
    let same : k ≡ m = omega arith in
    let next : i ≡ j = omega arith in
    ap (λ x. box_stores i x) same ∙ ap (λ x. box_stores x m) next
box_stores-split i (suc n) m zero j e f = absurd (omega arith)
box_stores-split i (suc n) m (suc k) j e f =
    ap (λ rest. sd i (pos (8 * i)) 31 ∷ rest) (box_stores-split (i + 1) n m k j (omega arith) (omega arith))

-- the same of the loads
pub box_loads-split : (i n m k j : ℕ) → n + m ≡ k → i + n ≡ j → box_loads i k ≡ box_loads i n ++ box_loads j m
box_loads-split i zero m k j e f =
    let same : k ≡ m = omega arith in
    let next : i ≡ j = omega arith in
    ap (λ x. box_loads i x) same ∙ ap (λ x. box_loads x m) next
box_loads-split i (suc n) m zero j e f = absurd (omega arith)
box_loads-split i (suc n) m (suc k) j e f =
    ap (λ rest. ld i (pos (8 * i)) 31 ∷ rest) (box_loads-split (i + 1) n m k j (omega arith) (omega arith))

-- the stores up to a register's are those before it and its own
pub box_stores-next : (n : ℕ) → 1 ≤ n → box_stores 1 n ≡ box_stores 1 (n - 1) ++ sd n (pos (8 * n)) 31 ∷ []
box_stores-next n h = box_stores-split 1 (n - 1) 1 n n (omega arith) (omega arith)

-- and then come the others
pub box_stores-rest : (n : ℕ) → n ≤ 30 → box_stores 1 30 ≡ box_stores 1 n ++ box_stores (n + 1) (30 - n)
box_stores-rest n h = box_stores-split 1 n (30 - n) 30 (n + 1) (omega arith) (omega arith)

-- the same of the loads
pub box_loads-next : (n : ℕ) → 1 ≤ n → box_loads 1 n ≡ box_loads 1 (n - 1) ++ ld n (pos (8 * n)) 31 ∷ []
box_loads-next n h = box_loads-split 1 (n - 1) 1 n n (omega arith) (omega arith)

pub box_loads-rest : (n : ℕ) → n ≤ 30 → box_loads 1 30 ≡ box_loads 1 n ++ box_loads (n + 1) (30 - n)
box_loads-rest n h = box_loads-split 1 n (30 - n) 30 (n + 1) (omega arith) (omega arith)
