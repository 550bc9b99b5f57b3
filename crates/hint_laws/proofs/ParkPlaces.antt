-- Where an HPARK stands in the shadow text: among the helpers, or at word 1 or word 3 of a block, so that the shadow is left at no arrival and behind no call.
use Rattle.std.proofs.Common.{◌≡◌, ℕ, zero, suc, ◌+◌, ◌-◌, ◌/◌, ◌%◌, ◌^◌, ◌≤◌, ◌<◌, Bool, true, false, not, ◌&&◌, ◌||◌, ◌==◌, ℤ, List, [], ◌∷◌, ◌++◌, length, slice_get, nat_le, nat_lt, Option, Some, None, refl, ◌∙◌, ap, subst, arith, zero-add}
use Rattle.std.specs.Prelude.{◌≢◌}
use Rattle.std.specs.Option.{option_and_then}
use Rattle.std.proofs.lemmas.Option.{slice_get_within}
use Rattle.std.proofs.lemmas.Bool.{and_parts}
use Rattle.std.proofs.lemmas.Bool.Decides.{nat_tests}
use Rattle.std.proofs.lemmas.Bool.{and_left, and_right}
use Rattle.spec_base.specs.Word.{plus_int}
use Rattle.spec_base.specs.Layout.{shadow_start, helpers_start}
use Rattle.spec_base.specs.declared.layout.Layout.{Layout}
use Rattle.spec_base.specs.declared.park.Park.{Park}
use Rattle.spec_base.specs.declared.park.Park.TheVariants as park
use Rattle.rv_decode.specs.declared.instr.Instr.{Instr}
use Rattle.rv_decode.specs.declared.instr.Instr.TheVariants.{Lui, Auipc, Jal, Jalr, Branch, Load, Store, OpImm, OpImmW, Op, OpW, Fence, Ecall, Ebreak, Hgate, Hleave, Hsite, Hkey, Hstop, Hrestart, Hcall, Hpark, Illegal}
use Rattle.rv_decode.specs.declared.instr.StoreOp.{StoreOp}
use Rattle.rv_model.specs.Effect.{after, fetched}
use Rattle.program_model.specs.PlainRun.{text_of}
use Rattle.code_model.specs.Helpers.{helpers}
use Rattle.code_model.specs.Blocks.{block, guard_block, blocks_from, with_pad, jal_if, is_target, load_restore, link_spill, taken_word, access_words, store_helper, store_end}
use Rattle.run_model.specs.Run.{World}
use Rattle.run_model.specs.ShadowMoves.{fetch_shadow, fetch_by, block_word, is_arrival}
use Rattle.run_laws.specs.HintLaws.{is_behind_call}
use Rattle.own_laws.proofs.Reached.{none_some, false_true}

-- ---- words

-- an HPARK
abbrev is_park : Instr → Bool
is_park (Hpark cause) = true
is_park _ = false

-- the words at which one may stand
abbrev may_park : ℕ → Bool
may_park n = (n == 1) || (n == 3)

-- the words from word n on, of which no other is one
abbrev parks_well : ℕ → List Instr → Bool
parks_well n [] = true
parks_well n (i ∷ words) = (may_park n || not (is_park i)) && parks_well (suc n) words

-- so an HPARK stands at such a word
well-each : (n : ℕ) (words : List Instr) → parks_well n words ≡ true → (k : ℕ) (cause : Park) → slice_get words k ≡ Some (Hpark cause) → may_park (n + k) ≡ true
well-each n [] h k cause e = none_some e
well-each n (i ∷ words) h zero cause e =
    let is : i ≡ Hpark cause = cc in let same : n + 0 ≡ n = omega arith in
    ap may_park same ∙ first (may_park n) (parks_well (suc n) words) (subst (λ (j : Instr). ((may_park n || not (is_park j)) && parks_well (suc n) words) ≡ true) is h)
  where
    first : (b c : Bool) → ((b || false) && c) ≡ true → b ≡ true
    first true c h = refl
    first false c h = h
well-each n (i ∷ words) h (suc k) cause e =
    let same : n + suc k ≡ suc n + k = omega arith in
    ap may_park same ∙ well-each (suc n) words (rest (may_park n || not (is_park i)) (parks_well (suc n) words) h) k cause e
  where
    rest : (b c : Bool) → (b && c) ≡ true → c ≡ true
    rest true c h = h
    rest false c h = false_true h

-- ---- blocks with a choice

-- jal's block parks at word 1 where its target isn't in the text
jal-well : (b : Bool) (l : Layout) (p rd t : ℕ) → parks_well 0 (with_pad (jal_if b l p rd t)) ≡ true
jal-well true l p rd t = refl
jal-well false l p rd t = refl

-- the spill of jalr is none
spill-well : (b : Bool) → is_park (link_spill b) ≡ false
spill-well true = refl
spill-well false = refl

-- nor is the restore of a load
restore-well : (b : Bool) → is_park (load_restore b) ≡ false
restore-well true = refl
restore-well false = refl

-- a store's block has none
store-well : (b : Bool) (op : StoreOp) (rs1 rs2 : ℕ) (imm : ℤ) → parks_well 0 (with_pad (access_words (store_helper op) rs1 imm ++ store_end b op rs2)) ≡ true
store-well true op rs1 rs2 imm = refl
store-well false op rs1 rs2 imm = refl

-- ---- blocks

-- each block
block-well : (l : Layout) (p : ℕ) (i : Instr) → parks_well 0 (block l p i) ≡ true
block-well l p (Lui rd imm) = refl
block-well l p (Auipc rd imm) = refl
block-well l p (Jal rd imm) = jal-well (is_target l (plus_int p imm)) l p rd (plus_int p imm)
block-well l p (Jalr rd rs1 imm) = ap (λ (b : Bool). not b && true) (spill-well (rd == 31))
block-well l p (Branch op rs1 rs2 imm) = refl
block-well l p (Load op rd rs1 imm) = ap (λ (b : Bool). not b && true) (restore-well (rd == 31))
block-well l p (Store op rs1 rs2 imm) = store-well (rs2 == 31) op rs1 rs2 imm
block-well l p (OpImm op rd rs1 imm) = refl
block-well l p (OpImmW op rd rs1 imm) = refl
block-well l p (Op op rd rs1 rs2) = refl
block-well l p (OpW op rd rs1 rs2) = refl
block-well l p (Fence word) = refl
block-well l p Ecall = refl
block-well l p Ebreak = refl
block-well l p Hgate = refl
block-well l p Hleave = refl
block-well l p (Hsite rd) = refl
block-well l p (Hkey rd) = refl
block-well l p Hstop = refl
block-well l p Hrestart = refl
block-well l p (Hcall unhinted) = refl
block-well l p (Hpark cause) = refl
block-well l p Illegal = refl

-- each block of a text, and the guard block behind it
blocks-well : (l : Layout) (p : ℕ) (text : List Instr) (j : ℕ) (words : List Instr) → slice_get (blocks_from l p text) j ≡ Some words → parks_well 0 words ≡ true
blocks-well l p [] zero words e = let is : guard_block ≡ words = cc in subst (λ (ws : List Instr). parks_well 0 ws ≡ true) is refl
blocks-well l p [] (suc j) words e = none_some e
blocks-well l p (i ∷ text) zero words e = let is : block l p i ≡ words = cc in subst (λ (ws : List Instr). parks_well 0 ws ≡ true) is (block-well l p i)
blocks-well l p (i ∷ text) (suc j) words e = blocks-well l (p + 4) text j words e

-- ---- the shadow text

-- where an HPARK stands: among the helpers, at word 1 of a block, or at word 3 of one, where a branch to no target goes
pub data ParkPlace (pc : ℕ) : Type 0 where
  among_helpers : helpers_start ≤ pc → ParkPlace pc
  at_first : pc % 64 ≡ 4 → ParkPlace pc
  at_third : pc % 64 ≡ 12 → ParkPlace pc

module _ (w : World) (pc : ℕ) (cause : Park) where
  -- in a block
  in-block : pc % 4 ≡ 0 → block_word w pc ≡ Some (Hpark cause) → ParkPlace pc
  in-block whole e = by_block (slice_get (blocks_from w.image.layout w.image.layout.text_start (text_of w.image)) ((pc - shadow_start) / 64)) refl e
    where
      by_word : (n : ℕ) → n ≡ (pc % 64) / 4 → may_park n ≡ true → ParkPlace pc
      by_word n is h = by_test (n == 1) refl h
        where
          by_test : (b : Bool) → (n == 1) ≡ b → (b || (n == 3)) ≡ true → ParkPlace pc
          by_test true f h = let one : n ≡ 1 = grind (arith, nat_tests, f) in at_first (omega (arith, one, is, whole))
          by_test false f h = let three : n ≡ 3 = grind (arith, nat_tests, h) in at_third (omega (arith, three, is, whole))

      by_block : (o : Option (List Instr)) → slice_get (blocks_from w.image.layout w.image.layout.text_start (text_of w.image)) ((pc - shadow_start) / 64) ≡ o
          → option_and_then (λ words. slice_get words ((pc % 64) / 4)) o ≡ Some (Hpark cause) → ParkPlace pc
      by_block None f e = none_some e
      by_block (Some words) f e =
          by_word (0 + (pc % 64) / 4) (zero-add _) (well-each 0 words (blocks-well w.image.layout w.image.layout.text_start (text_of w.image) ((pc - shadow_start) / 64) words f) ((pc % 64) / 4) cause e)

  -- an HPARK that the shadow fetches stands there
  pub park-place : fetch_shadow w pc ≡ Some (Hpark cause) → ParkPlace pc
  park-place e = by_tests (nat_le helpers_start pc) (nat_le shadow_start pc && (pc % 4 == 0)) refl refl e
    where
      by_tests : (b c : Bool) → nat_le helpers_start pc ≡ b → (nat_le shadow_start pc && (pc % 4 == 0)) ≡ c → fetch_by b c w pc ≡ Some (Hpark cause) → ParkPlace pc
      by_tests true c f g e = among_helpers (grind (arith, nat_tests, f))
      by_tests false true f g e = let whole : pc % 4 ≡ 0 = grind (arith, nat_tests, g) in in-block whole e
      by_tests false false f g e = none_some e

-- ---- tests of places

-- what isn't at word 1 of a block is no arrival
pub off-arrival : (l : Layout) (pc : ℕ) → (pc % 64 == 4) ≡ false → is_arrival l pc ≡ false
off-arrival l pc h = and_right (nat_lt pc helpers_start) _ (and_right (nat_le shadow_start pc) _ (and_right _ _ h))

-- what isn't at word 7 is behind no call
pub off-call : (w : World) (pc : ℕ) → (pc % 64 == 28) ≡ false → is_behind_call w pc ≡ false
off-call w pc h = and_right (nat_le shadow_start pc) _ (and_right (nat_lt pc helpers_start) _ (and_left _ _ h))

-- nor is a word of the helpers
pub helper-arrival : (l : Layout) (pc : ℕ) → nat_le helpers_start pc ≡ true → is_arrival l pc ≡ false
helper-arrival l pc h = let beyond : nat_lt pc helpers_start ≡ false = grind (arith, nat_tests, h) in and_left _ _ beyond

-- and it is behind no call
pub helper-call : (w : World) (pc : ℕ) → nat_le helpers_start pc ≡ true → is_behind_call w pc ≡ false
helper-call w pc h = let beyond : nat_lt pc helpers_start ≡ false = grind (arith, nat_tests, h) in and_right (nat_le shadow_start pc) _ (and_left _ _ beyond)

-- ---- why it parks

-- whether an instruction is no HPARK of a cause that only a call has
abbrev pub is_named : Instr → Bool
is_named (Hpark park.Exit) = false
is_named (Hpark park.Store) = false
is_named _ = true

-- each of these is none
abbrev all_named : List Instr → Bool
all_named [] = true
all_named (i ∷ words) = is_named i && all_named words

-- so the one at a number is none
named-each : (words : List Instr) → all_named words ≡ true → (k : ℕ) (i : Instr) → slice_get words k ≡ Some i → is_named i ≡ true
named-each [] h k i e = none_some e
named-each (j ∷ words) h zero i e = let is : j ≡ i = cc in subst (λ (x : Instr). is_named x ≡ true) is (and_parts (is_named j) (all_named words) h).0
named-each (j ∷ words) h (suc k) i e = named-each words (and_parts (is_named j) (all_named words) h).1 k i e

-- the blocks with a choice
jal-named : (b : Bool) (l : Layout) (p rd t : ℕ) → all_named (with_pad (jal_if b l p rd t)) ≡ true
jal-named true l p rd t = refl
jal-named false l p rd t = refl

spill-named : (b : Bool) → is_named (link_spill b) ≡ true
spill-named true = refl
spill-named false = refl

taken-named : (b : Bool) (l : Layout) (p t : ℕ) → is_named (taken_word b l p t) ≡ true
taken-named true l p t = refl
taken-named false l p t = refl

restore-named : (b : Bool) → is_named (load_restore b) ≡ true
restore-named true = refl
restore-named false = refl

store-named : (b : Bool) (op : StoreOp) (rs1 rs2 : ℕ) (imm : ℤ) → all_named (with_pad (access_words (store_helper op) rs1 imm ++ store_end b op rs2)) ≡ true
store-named true op rs1 rs2 imm = refl
store-named false op rs1 rs2 imm = refl

-- each block
block-named : (l : Layout) (p : ℕ) (i : Instr) → all_named (block l p i) ≡ true
block-named l p (Jal rd imm) = jal-named (is_target l (plus_int p imm)) l p rd (plus_int p imm)
block-named l p (Jalr rd rs1 imm) = ap (λ (b : Bool). b && true) (spill-named (rd == 31))
block-named l p (Branch op rs1 rs2 imm) = ap (λ (b : Bool). b && true) (taken-named (is_target l (plus_int p imm)) l p (plus_int p imm))
block-named l p (Load op rd rs1 imm) = ap (λ (b : Bool). b && true) (restore-named (rd == 31))
block-named l p (Store op rs1 rs2 imm) = store-named (rs2 == 31) op rs1 rs2 imm
block-named l p _ = refl

-- each block of a text, and the guard block
blocks-named : (l : Layout) (p : ℕ) (text : List Instr) (j : ℕ) (words : List Instr) → slice_get (blocks_from l p text) j ≡ Some words → all_named words ≡ true
blocks-named l p [] zero words e = let is : guard_block ≡ words = cc in subst (λ (ws : List Instr). all_named ws ≡ true) is refl
blocks-named l p [] (suc j) words e = none_some e
blocks-named l p (i ∷ text) zero words e = let is : block l p i ≡ words = cc in subst (λ (ws : List Instr). all_named ws ≡ true) is (block-named l p i)
blocks-named l p (i ∷ text) (suc j) words e = blocks-named l (p + 4) text j words e

-- the helpers
helpers-named : (l : Layout) → all_named (helpers l) ≡ true
helpers-named l = refl

-- an HPARK that the shadow fetches is none
pub park-named : (w : World) (pc : ℕ) (i : Instr) → fetch_shadow w pc ≡ Some i → is_named i ≡ true
park-named w pc i e = by_tests (nat_le helpers_start pc) (nat_le shadow_start pc && (pc % 4 == 0)) e
  where
    by_block : (o : Option (List Instr)) → slice_get (blocks_from w.image.layout w.image.layout.text_start (text_of w.image)) ((pc - shadow_start) / 64) ≡ o
        → option_and_then (λ words. slice_get words ((pc % 64) / 4)) o ≡ Some i → is_named i ≡ true
    by_block None f e = none_some e
    by_block (Some words) f e = named-each words (blocks-named w.image.layout w.image.layout.text_start (text_of w.image) ((pc - shadow_start) / 64) words f) ((pc % 64) / 4) i e

    by_helper : (b : Bool) → elim b [ true ↦ slice_get (helpers w.image.layout) ((pc - helpers_start) / 4) | false ↦ None ] ≡ Some i → is_named i ≡ true
    by_helper true e = named-each (helpers w.image.layout) (helpers-named w.image.layout) ((pc - helpers_start) / 4) i e
    by_helper false e = none_some e

    by_tests : (b c : Bool) → fetch_by b c w pc ≡ Some i → is_named i ≡ true
    by_tests true c e = by_helper (nat_le helpers_start pc && (pc % 4 == 0)) e
    by_tests false true e = by_block (slice_get (blocks_from w.image.layout w.image.layout.text_start (text_of w.image)) ((pc - shadow_start) / 64)) refl e
    by_tests false false e = none_some e

-- ---- behind it

-- the next word is neither word 1 of a block nor behind a call
pub record IsBehindPark (w : World) (pc : ℕ) : Type 0 where
  pub no_arrival : is_arrival w.image.layout (after pc) ≡ false
  pub no_call : is_behind_call w (after pc) ≡ false

module _ (w : World) (pc : ℕ) where
  -- behind the helpers' words
  behind-helper : helpers_start ≤ pc → pc + 4 < 2 ^ 64 → IsBehindPark w pc
  behind-helper above few =
      let beyond : nat_le helpers_start (after pc) ≡ true = grind (arith, nat_tests, above, few) in
      record { no_arrival = helper-arrival w.image.layout (after pc) beyond; no_call = helper-call w (after pc) beyond }

  -- at a word that is neither 1 nor 7
  behind-word : after pc % 64 ≢ 4 → after pc % 64 ≢ 28 → IsBehindPark w pc
  behind-word n m =
      let one : (after pc % 64 == 4) ≡ false = grind (arith, nat_tests, n) in
      let seven : (after pc % 64 == 28) ≡ false = grind (arith, nat_tests, m) in
      record { no_arrival = off-arrival w.image.layout (after pc) one; no_call = off-call w (after pc) seven }

  -- what is fetched among the helpers stands before their end
  helper-few : (i : Instr) → nat_le helpers_start pc ≡ true → fetched (helpers w.image.layout) helpers_start pc ≡ Some i → pc + 4 < 2 ^ 64
  helper-few i above e = by_test (nat_le helpers_start pc && (pc % 4 == 0)) e
    where
      by_test : (b : Bool) → elim b [ true ↦ slice_get (helpers w.image.layout) ((pc - helpers_start) / 4) | false ↦ None ] ≡ Some i → pc + 4 < 2 ^ 64
      by_test true e =
          let count : length (helpers w.image.layout) ≡ 282 = refl in
          omega (arith, count, slice_get_within (helpers w.image.layout) ((pc - helpers_start) / 4) i e)
      by_test false e = none_some e

  -- so it is behind each HPARK that the shadow fetches
  pub behind-park : (cause : Park) → fetch_shadow w pc ≡ Some (Hpark cause) → IsBehindPark w pc
  behind-park cause e = by_place (park-place w pc cause e)
    where
      in_helpers : helpers_start ≤ pc → (b : Bool) → nat_le helpers_start pc ≡ b → fetch_by b (nat_le shadow_start pc && (pc % 4 == 0)) w pc ≡ Some (Hpark cause) → IsBehindPark w pc
      in_helpers above true f e = behind-helper above (helper-few (Hpark cause) f e)
      in_helpers above false f e = let below : pc < helpers_start = grind (arith, nat_tests, f) in absurd (omega (arith, above, below))

      by_place : ParkPlace pc → IsBehindPark w pc
      by_place (among_helpers above) = in_helpers above (nat_le helpers_start pc) refl e
      by_place (at_first first) = behind-word (omega (arith, first)) (omega (arith, first))
      by_place (at_third third) = behind-word (omega (arith, third)) (omega (arith, third))
