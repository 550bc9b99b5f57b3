-- The blocks of a read.
use Rattle.std.proofs.Common.{◌≡◌, ◌≢◌, ℕ, zero, suc, ◌+◌, ◌-◌, ◌/◌, ◌<◌, ◌≤◌, ◌∙◌, Bool, true, false, nat_lt, is_some, List, [], ◌∷◌, ◌++◌, length, take, drop, slice_get, Option, Some, ap, sym, refl, arith}
use Rattle.std.proofs.lemmas.Bool.Decides.{nat_tests}
use Rattle.spec_base.specs.declared.spot.BlockSpot.{BlockSpot}
use Rattle.runner_parts.specs.Parts.{demand_if}
use Rattle.spec_base.specs.Files.{Name}
use Rattle.spec_base.specs.declared.spot.ReadSpot.{ReadSpot}
use Rattle.program_model.specs.Cache.{Cache, blocks_up, blocks_touched, blocks_of, all_hinted, hinted}
use Rattle.own_laws.proofs.Demand.{length-blocks_up}

-- ---- how many blocks

less_one : (n : ℕ) → suc n - 1 ≡ n
less_one n = omega arith

-- how many blocks hold a byte of a read of some bytes
pub block_count-is : (spot : ReadSpot) → spot.count ≢ 0 → (spot.offset + (spot.count - 1)) / 4096 - spot.offset / 4096 + 1 ≡ length (blocks_of spot)
block_count-is spot some = by spot.count some
  where
    by : (n : ℕ) → n ≢ 0 → (spot.offset + (n - 1)) / 4096 - spot.offset / 4096 + 1 ≡ length (blocks_touched spot n)
    by zero h = absurd (h refl)
    by (suc n) h = rw (less_one n) (sym (length-blocks_up spot.name (spot.offset / 4096) ((spot.offset + n) / 4096 - spot.offset / 4096 + 1)))

-- a read's blocks are so many from its first on
pub blocks-are : (spot : ReadSpot) → blocks_of spot ≡ blocks_up spot.name (spot.offset / 4096) (length (blocks_of spot))
blocks-are spot = by spot.count
  where
    by : (n : ℕ) → blocks_touched spot n ≡ blocks_up spot.name (spot.offset / 4096) (length (blocks_touched spot n))
    by zero = refl
    by (suc n) = ap (blocks_up spot.name (spot.offset / 4096)) (sym (length-blocks_up spot.name (spot.offset / 4096) ((spot.offset + n) / 4096 - spot.offset / 4096 + 1)))

-- one block is hinted, of those that are left
pub hint-next : (depth : ℕ) (c : Cache) (name : Name) (first i n : ℕ) → i < n
    → all_hinted depth c (blocks_up name (first + i) (n - i)) ≡ all_hinted depth (hinted depth c (record { name = name; block = first + i })) (blocks_up name (first + (i + 1)) (n - (i + 1)))
hint-next depth c name first i n low =
    let left : n - i ≡ suc (n - (i + 1)) = omega (arith, low) in
    let next : first + i + 1 ≡ first + (i + 1) = omega arith in
    ap (λ (k : ℕ). all_hinted depth c (blocks_up name (first + i) k)) left
    ∙ ap (λ (k : ℕ). all_hinted depth (hinted depth c (record { name = name; block = first + i })) (blocks_up name k (n - (i + 1)))) next

-- no block is left
pub hint-none : (depth : ℕ) (c : Cache) (name : Name) (first i n : ℕ) → n ≤ i → all_hinted depth c (blocks_up name (first + i) (n - i)) ≡ c
hint-none depth c name first i n low = (let none : n - i ≡ 0 = omega (arith, low) in ap (λ (k : ℕ). all_hinted depth c (blocks_up name (first + i) k)) none)

-- ---- some of the blocks

take-blocks : (name : Name) (n i first : ℕ) → i ≤ n → take i (blocks_up name first n) ≡ blocks_up name first i
take-blocks name n zero first low = refl
take-blocks name zero (suc i) first low = absurd (omega (arith, low))
take-blocks name (suc n) (suc i) first low = ap (λ (k : List BlockSpot). record { name = name; block = first } ∷ k) (take-blocks name n i (first + 1) (omega (arith, low)))

drop-blocks : (name : Name) (n i first : ℕ) → i ≤ n → drop i (blocks_up name first n) ≡ blocks_up name (first + i) (n - i)
drop-blocks name n zero first low = (let place : first ≡ first + 0 = omega arith in let all : n ≡ n - 0 = omega arith in (λ j. blocks_up name (place j) (all j)))
drop-blocks name zero (suc i) first low = absurd (omega (arith, low))
drop-blocks name (suc n) (suc i) first low =
    (let place : first + 1 + i ≡ first + suc i = omega arith in
    let rest : n - i ≡ suc n - suc i = omega arith in
    drop-blocks name n i (first + 1) (omega (arith, low)) ∙ (λ j. blocks_up name (place j) (rest j)))

get-blocks : (name : Name) (n i first : ℕ) → i < n → slice_get (blocks_up name first n) i ≡ Some (record { name = name; block = first + i })
get-blocks name zero i first low = absurd (omega (arith, low))
get-blocks name (suc n) zero first low = (let place : first ≡ first + 0 = omega arith in ap (λ (k : ℕ). Some (record { name = name; block = k })) place)
get-blocks name (suc n) (suc i) first low =
    (let place : first + 1 + i ≡ first + suc i = omega arith in get-blocks name n i (first + 1) (omega (arith, low)) ∙ ap (λ (k : ℕ). Some (record { name = name; block = k })) place)

module _ (spot : ReadSpot) where
  abbrev first : ℕ
  first = spot.offset / 4096

  abbrev count : ℕ
  count = length (blocks_of spot)

  -- the first so many blocks of a read
  pub front-of : (i : ℕ) → i ≤ count → take i (blocks_of spot) ≡ blocks_up spot.name first i
  front-of i low = ap (λ (k : List BlockSpot). take i k) (blocks-are spot) ∙ take-blocks spot.name count i first low

  -- the others
  pub rest-of : (i : ℕ) → i ≤ count → drop i (blocks_of spot) ≡ blocks_up spot.name (first + i) (count - i)
  rest-of i low = ap (λ (k : List BlockSpot). drop i k) (blocks-are spot) ∙ drop-blocks spot.name count i first low

  -- one of them
  pub one-of : (i : ℕ) → i < count → slice_get (blocks_of spot) i ≡ Some (record { name = spot.name; block = first + i })
  one-of i low = ap (λ (k : List BlockSpot). slice_get k i) (blocks-are spot) ∙ get-blocks spot.name count i first low

  -- the one that is waited for
  pub waited-for : (i : ℕ) (b : Bool) → nat_lt i count ≡ b → demand_if b (Some (record { name = spot.name; block = first + i })) ≡ demand_if b (slice_get (blocks_of spot) i)
  waited-for i true e = sym (one-of i (grind (arith, nat_tests, e)))
  waited-for i false e = refl

  pub behind : (i : ℕ) → i < count → Some (record { name = spot.name; block = first + i }) ≡ demand_if (nat_lt i count) (slice_get (blocks_of spot) i)
  behind i low = (let test : nat_lt i count ≡ true = grind (arith, nat_tests, low) in sym (ap (λ (b : Bool). demand_if b (slice_get (blocks_of spot) i)) test ∙ one-of i low))

  some-by : (i : ℕ) (b : Bool) → nat_lt i count ≡ b → is_some (demand_if b (slice_get (blocks_of spot) i)) ≡ b
  some-by i true e = ap (λ (o : Option BlockSpot). is_some o) (one-of i (grind (arith, nat_tests, e)))
  some-by i false e = refl

  -- there is one where not all are had
  pub some-behind : (i : ℕ) → is_some (demand_if (nat_lt i count) (slice_get (blocks_of spot) i)) ≡ nat_lt i count
  some-behind i = some-by i (nat_lt i count) refl

-- one block more from the front
pub take-snoc : (xs : List BlockSpot) (i : ℕ) (x : BlockSpot) → slice_get xs i ≡ Some x → take (i + 1) xs ≡ take i xs ++ x ∷ []
take-snoc xs i x is = (let next : i + 1 ≡ suc i = omega arith in ap (λ (k : ℕ). take k xs) next ∙ by xs i is)
  where
    by : (xs : List BlockSpot) (i : ℕ) → slice_get xs i ≡ Some x → take (suc i) xs ≡ take i xs ++ x ∷ []
    by [] i e = absurd cc
    by (y ∷ ys) zero e = (let same : y ≡ x = cc in ap (λ (k : BlockSpot). k ∷ []) same)
    by (y ∷ ys) (suc i) e = ap (λ (k : List BlockSpot). y ∷ k) (by ys i e)
