-- The block of each instruction of the text, and the guard block behind them, are what the shadow fetches there.
use Rattle.std.proofs.Common.{◌≡◌, ℕ, ◌+◌, ◌-◌, ◌*◌, ◌/◌, ◌%◌, ◌^◌, ◌≤◌, ◌<◌, ◌⊎◌, inl, inr, List, length, get_or, slice_get, Some, ◌∙◌, ap, arith, replicate}
use Rattle.std.specs.Prelude.{◌≢◌, ◌∷◌, ◌++◌}
use Rattle.std.proofs.lemmas.List.{length-take, length-map}
use Rattle.std.proofs.lemmas.List.Elements.{All-get_or}
use Rattle.std.proofs.lemmas.Option.{slice_get-get_or, slice_get-map}
use Rattle.std.proofs.Math.Nat.{eq-or-lt_of_le}
use Rattle.std.specs.Option.{option_map}
use Rattle.spec_base.specs.declared.layout.Layout.{Layout}
use Rattle.rv_decode.specs.Encoding.{IsEncodable, HasRegisters}
use Rattle.rv_decode.specs.Instruction.{instr_of}
use Rattle.rv_decode.specs.declared.instr.Instr.{Instr}
use Rattle.rv_decode.specs.declared.instr.Instr.TheVariants.{Illegal}
use Rattle.rv_decode.proofs.Encodable.{decoded_is_encodable, decoded_has_registers}
use Rattle.program_model.specs.PlainRun.{text_of}
use Rattle.code_model.specs.Assembly.{X31, ld}
use Rattle.code_model.specs.Blocks.{block, guard_block, blocks_from, with_pad, park_words}
use Rattle.code_model.specs.Places.{block_at}
use Rattle.run_model.specs.Run.{World}
use Rattle.run_laws.specs.OwnLaws.{Accepted}
use Rattle.side_model.specs.Places.{IsBase, HasBlock}
use Rattle.side_model.proofs.Fetching.{CodeAt, block_code, block_of, guard_of}
use Rattle.side_model.proofs.Numbers.{TextFits, text-fits}

-- an instruction stands in the text, and its block in the shadow text
pub record InText (w : World) (p : ℕ) (i : Instr) : Type 0 where
  pub above : w.image.layout.text_start ≤ p
  pub below : p < w.image.layout.text_end
  pub whole : p % 4 ≡ 0
  pub code : CodeAt w (block_at w.image.layout p) (block w.image.layout p i)
  pub encodable : i ≢ Illegal → IsEncodable i
  pub word : slice_get (text_of w.image) ((p - w.image.layout.text_start) / 4) ≡ Some i
  pub registers : HasRegisters i

-- ---- blocks of a text

-- 16 words at most
pad-most : (words : List Instr) → length (with_pad words) ≤ 16
pad-most words = omega (arith, length-take 16 (ld 31 X31 0 ∷ (words ++ replicate 15 Illegal)))

module _ (w : World) (a : Accepted w) where
  abbrev l : Layout
  l = w.image.layout

  pub text : TextFits l
  text = text-fits l a.lawful

  -- a block may begin there
  base-lawful : (p : ℕ) → HasBlock l p → IsBase (block_at l p)
  base-lawful p h =
      record {
        whole = omega (arith, h.whole);
        above = omega arith;
        below = omega (arith, h.above, h.below, text.few);
      }

  -- the instruction at an address of the text
  pub at-address : (p : ℕ) → HasBlock l p → p < l.text_end → (i : Instr) × InText w p i
  at-address p h below =
      let k : ℕ = (p - l.text_start) / 4 in
      let few : k < length w.image.words = omega (arith, a.text, h.above, h.whole, below) in
      let i : Instr = instr_of (get_or w.image.words k 0) in
      let word : get_or w.image.words k 0 < 2 ^ 32 = All-get_or (λ v. v < 2 ^ 32) w.image.words k 0 few a.words in
      let e : slice_get (text_of w.image) k ≡ Some i = slice_get-map instr_of w.image.words k ∙ ap (option_map instr_of) (slice_get-get_or w.image.words k 0 few) in
      let back : l.text_start + 4 * k ≡ p = omega (arith, h.above, h.whole) in
      let block_is : slice_get (blocks_from l l.text_start (text_of w.image)) k ≡ Some (block l p i) =
      block_of l l.text_start (text_of w.image) k i e ∙ ap (λ (n : ℕ). Some (block l n i)) back in (
        i,
        record {
          above = h.above;
          below = below;
          whole = omega (arith, h.above, h.whole, text.start);
          code = block_code w p (block l p i) (base-lawful p h) h.whole block_is (pad-most _);
          encodable = decoded_is_encodable (get_or w.image.words k 0) word;
          word = e;
          registers = decoded_has_registers (get_or w.image.words k 0);
        },
      )

  -- the guard block
  at-end : CodeAt w (block_at l l.text_end) guard_block
  at-end =
      let end : HasBlock l l.text_end = record { above = omega (arith, text.some); below = omega arith; whole = omega (arith, text.start, text.end, text.some) } in
      let count : (l.text_end - l.text_start) / 4 ≡ length (text_of w.image) = omega (arith, a.text, length-map w.image.words instr_of) in
      block_code w l.text_end guard_block (base-lawful l.text_end end) end.whole
      (ap (slice_get (blocks_from l l.text_start (text_of w.image))) count ∙ guard_of l l.text_start (text_of w.image)) (pad-most park_words)

  -- each address that has a block is an instruction's, or the text's end
  pub at-block : (p : ℕ) → HasBlock l p → ((i : Instr) × InText w p i) ⊎ ((p ≡ l.text_end) × CodeAt w (block_at l l.text_end) guard_block)
  at-block p h = by_order (eq-or-lt_of_le h.below)
    where
      by_order : (p ≡ l.text_end) ⊎ (p < l.text_end) → ((i : Instr) × InText w p i) ⊎ ((p ≡ l.text_end) × CodeAt w (block_at l l.text_end) guard_block)
      by_order (inl e) = inr (e, at-end)
      by_order (inr below) = inl (at-address p h below)
