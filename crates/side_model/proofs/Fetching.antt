-- The words that the shadow fetches at a place are those of its block or helper.
use Rattle.std.proofs.Common.{◌≡◌, ℕ, zero, suc, ◌+◌, ◌-◌, ◌*◌, ◌/◌, ◌%◌, ◌^◌, ◌<◌, ◌≤◌, Bool, true, false, ◌&&◌, ◌==◌, List, [], ◌∷◌, ◌++◌, length, take, drop, slice_get, Some, None, refl, ◌∙◌, ap, ap₂, sym, arith, nat_le, le-leb, eq-eqb, lit<}
use Rattle.std.specs.Option.{option_and_then}
use Rattle.std.proofs.lemmas.Option.{slice_get_within}
use Rattle.std.proofs.lemmas.Bool.{and_from}
use Rattle.std.proofs.lemmas.Bool.Decides.{nat_tests}
use Rattle.spec_base.specs.Layout.{helpers_start, shadow_start}
use Rattle.spec_base.specs.declared.layout.Layout.{Layout}
use Rattle.rv_decode.specs.declared.instr.Instr.{Instr}
use Rattle.program_model.specs.PlainRun.{text_of}
use Rattle.code_model.specs.Blocks.{block, guard_block, blocks_from}
use Rattle.code_model.specs.Helpers.{helpers}
use Rattle.code_model.specs.Places.{block_at}
use Rattle.run_model.specs.Run.{World}
use Rattle.run_model.specs.ShadowMoves.{fetch_shadow, fetch_by}
use Rattle.own_laws.proofs.StubWords.{slice_get-append}
use Rattle.side_model.specs.Places.{W1, W2, W4, W8, Helper, Loading, Storing, Jumping, LoadTail, StoreTail, Appending, Restarting, Faulting, FullUp, LogFullUp, offset_of, helper_words, Place, InBlock, InHelper, Away, address, code, IsBase}

-- ---- helpers

-- a helper's words stand at its offset among the helpers
record HelperIs (l : Layout) (h : Helper) : Type 0 where
  whole : offset_of h ≡ 4 * (offset_of h / 4)
  before : length (take (offset_of h / 4) (helpers l)) ≡ offset_of h / 4
  parts : helpers l ≡ take (offset_of h / 4) (helpers l) ++ (helper_words l h ++ drop (offset_of h / 4 + length (helper_words l h)) (helpers l))
  most : offset_of h + 4 * length (helper_words l h) < 1129

-- each helper's do
helper_is : (l : Layout) (h : Helper) → HelperIs l h
helper_is l (Loading W1) = record { whole = refl; before = refl; parts = refl; most = lit< tt }
helper_is l (Loading W2) = record { whole = refl; before = refl; parts = refl; most = lit< tt }
helper_is l (Loading W4) = record { whole = refl; before = refl; parts = refl; most = lit< tt }
helper_is l (Loading W8) = record { whole = refl; before = refl; parts = refl; most = lit< tt }
helper_is l (Storing W1) = record { whole = refl; before = refl; parts = refl; most = lit< tt }
helper_is l (Storing W2) = record { whole = refl; before = refl; parts = refl; most = lit< tt }
helper_is l (Storing W4) = record { whole = refl; before = refl; parts = refl; most = lit< tt }
helper_is l (Storing W8) = record { whole = refl; before = refl; parts = refl; most = lit< tt }
helper_is l Jumping = record { whole = refl; before = refl; parts = refl; most = lit< tt }
helper_is l LoadTail = record { whole = refl; before = refl; parts = refl; most = lit< tt }
helper_is l StoreTail = record { whole = refl; before = refl; parts = refl; most = lit< tt }
helper_is l Appending = record { whole = refl; before = refl; parts = refl; most = lit< tt }
helper_is l Restarting = record { whole = refl; before = refl; parts = refl; most = lit< tt }
helper_is l Faulting = record { whole = refl; before = refl; parts = refl; most = lit< tt }
helper_is l FullUp = record { whole = refl; before = refl; parts = refl; most = lit< tt }
helper_is l LogFullUp = record { whole = refl; before = refl; parts = refl; most = lit< tt }

-- what stands in a list stands in a longer one
slice_get-ahead : {X : Type 0} (xs ys : List X) (n : ℕ) (x : X) → slice_get xs n ≡ Some x → slice_get (xs ++ ys) n ≡ Some x
slice_get-ahead [] ys n x e = absurd (no e)
  where
    no : None ≡ Some x → ⊥
    no e = cc
slice_get-ahead (y ∷ xs) ys zero x e = e
slice_get-ahead (y ∷ xs) ys (suc n) x e = slice_get-ahead xs ys n x e

-- a word of a helper stands among the helpers
helper_word : (l : Layout) (h : Helper) (n : ℕ) (i : Instr) → slice_get (helper_words l h) n ≡ Some i → slice_get (helpers l) (offset_of h / 4 + n) ≡ Some i
helper_word l h n i e =
    let is : HelperIs l h = helper_is l h in
    let k : ℕ = offset_of h / 4 in
    ap₂ (λ (words : List Instr) (j : ℕ). slice_get words (j + n)) is.parts (sym is.before)
    ∙ slice_get-append (take k (helpers l)) (helper_words l h ++ drop (k + length (helper_words l h)) (helpers l)) n
    ∙ slice_get-ahead (helper_words l h) _ n i e

-- ---- blocks

-- the block of an instruction stands at the instruction's number
pub block_of : (l : Layout) (p : ℕ) (text : List Instr) (j : ℕ) (i : Instr) → slice_get text j ≡ Some i → slice_get (blocks_from l p text) j ≡ Some (block l (p + 4 * j) i)
block_of l p [] j i e = absurd (no e)
  where
    no : None ≡ Some i → ⊥
    no e = cc
block_of l p (x ∷ text) zero i e = let is : x ≡ i = cc in ap (λ (y : Instr). Some (block l p y)) is ∙ ap (λ (n : ℕ). Some (block l n i)) (omega arith)
block_of l p (x ∷ text) (suc j) i e = block_of l (p + 4) text j i e ∙ ap (λ (n : ℕ). Some (block l n i)) (omega arith)

-- the guard block stands behind the last
pub guard_of : (l : Layout) (p : ℕ) (text : List Instr) → slice_get (blocks_from l p text) (length text) ≡ Some guard_block
guard_of l p [] = refl
guard_of l p (x ∷ text) = guard_of l (p + 4) text

-- ---- what is fetched

-- the words of the block at base
pub record CodeAt (w : World) (base : ℕ) (words : List Instr) : Type 0 where
  pub lawful : IsBase base
  pub fetches : (n : ℕ) (i : Instr) → slice_get words n ≡ Some i → (n < 16) × (fetch_shadow w (base + 4 * n) ≡ Some i)

-- where no block is at hand
pub no_code : (w : World) → CodeAt w 0x4000_0000 []
no_code w = record { lawful = record { whole = refl; above = omega arith; below = omega arith }; fetches = λ n i e. absurd (no i e) }
  where
    no : (i : Instr) → None ≡ Some i → ⊥
    no i e = cc

-- the block of an address
pub block_code : (w : World) (p : ℕ) (words : List Instr) → IsBase (block_at w.image.layout p) → (p - w.image.layout.text_start) % 4 ≡ 0
    → slice_get (blocks_from w.image.layout w.image.layout.text_start (text_of w.image)) ((p - w.image.layout.text_start) / 4) ≡ Some words → length words ≤ 16 → CodeAt w (block_at w.image.layout p) words
block_code w p words is whole e most = record { lawful = is; fetches = at }
  where
    l : Layout
    l = w.image.layout

    blocks : List (List Instr)
    blocks = blocks_from l l.text_start (text_of w.image)

    at : (n : ℕ) (i : Instr) → slice_get words n ≡ Some i → (n < 16) × (fetch_shadow w (block_at l p + 4 * n) ≡ Some i)
    at n i f =
        let pc : ℕ = block_at l p + 4 * n in
        let few : n < 16 = omega (arith, slice_get_within words n i f) in
        let below : nat_le helpers_start pc ≡ false = grind (arith, nat_tests, is.below) in
        let above : nat_le shadow_start pc ≡ true = le-leb shadow_start pc (omega (arith, is.above)) in
        let aligned : (pc % 4 == 0) ≡ true = eq-eqb (pc % 4) 0 (omega (arith, is.whole)) in
        let number : (pc - shadow_start) / 64 ≡ (p - l.text_start) / 4 = omega (arith, whole) in
        let word : pc % 64 / 4 ≡ n = omega (arith, is.whole) in (
          few,
          ap₂ (λ (a b : Bool). fetch_by a b w pc) below (and_from _ _ above aligned)
              ∙ ap₂ (λ (j k : ℕ). option_and_then (λ (words : List Instr). slice_get words k) (slice_get blocks j)) number word
              ∙ ap (option_and_then (λ (words : List Instr). slice_get words n)) e
              ∙ f,
        )

-- at a place with code the word is fetched, far below the end of the address space
pub record Fetches (w : World) (pc : ℕ) (i : Instr) : Type 0 where
  pub word : fetch_shadow w pc ≡ Some i
  pub near : pc < 2 ^ 63

pub code-fetches : (w : World) (base : ℕ) (words : List Instr) (place : Place) (i : Instr) → CodeAt w base words → code w.image.layout words place ≡ Some i → Fetches w (address base place) i
code-fetches w base words (InBlock n) i c e = let f : (n < 16) × (fetch_shadow w (base + 4 * n) ≡ Some i) = c.fetches n i e in record { word = f.1; near = omega (arith, f.0, c.lawful.below) }
code-fetches w base words (InHelper h n) i c e =
    let l : Layout = w.image.layout in
    let is : HelperIs l h = helper_is l h in
    let pc : ℕ = helpers_start + offset_of h + 4 * n in
    let few : n < length (helper_words l h) = slice_get_within (helper_words l h) n i e in
    let above : nat_le helpers_start pc ≡ true = le-leb helpers_start pc (omega arith) in
    let aligned : (pc % 4 == 0) ≡ true = eq-eqb (pc % 4) 0 (omega (arith, is.whole)) in
    let number : (pc - helpers_start) / 4 ≡ offset_of h / 4 + n = omega (arith, is.whole) in
    record {
      word = ap (λ (a : Bool). fetch_by a (nat_le shadow_start pc && (pc % 4 == 0)) w pc) above
          ∙ ap (λ (a : Bool). elim a [ true ↦ slice_get (helpers l) ((pc - helpers_start) / 4) | false ↦ None ]) (and_from _ _ above aligned)
          ∙ ap (slice_get (helpers l)) number
          ∙ helper_word l h n i e;
      near = omega (arith, is.most, few);
    }
code-fetches w base words (Away a) i c e = absurd (no e)
  where
    no : None ≡ Some i → ⊥
    no e = cc

-- a helper's offset is a multiple of 4
pub offset-whole : (h : Helper) → offset_of h % 4 ≡ 0
offset-whole (Loading W1) = refl
offset-whole (Loading W2) = refl
offset-whole (Loading W4) = refl
offset-whole (Loading W8) = refl
offset-whole (Storing W1) = refl
offset-whole (Storing W2) = refl
offset-whole (Storing W4) = refl
offset-whole (Storing W8) = refl
offset-whole Jumping = refl
offset-whole LoadTail = refl
offset-whole StoreTail = refl
offset-whole Appending = refl
offset-whole Restarting = refl
offset-whole Faulting = refl
offset-whole FullUp = refl
offset-whole LogFullUp = refl
