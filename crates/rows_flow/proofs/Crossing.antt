-- One word of the shadow in a run: where it jumps by register to the pad of another block, the run shows that place of that block.
use Rattle.std.proofs.Common.{◌≡◌, ℕ, ◌%◌, ◌^◌, ◌<◌, ◌≤◌, ◌⊎◌, inl, inr, Bool, ℤ, List, Some, refl, ◌∙◌, ap, sym, subst, arith, eq-eqb}
use Rattle.std.proofs.lemmas.Bool.Decides.{nat_tests}
use Rattle.spec_base.specs.Word.{plus_int}
use Rattle.spec_base.specs.declared.layout.Layout.{Layout}
use Rattle.spec_base.specs.declared.spot.ReadSpot.{ReadSpot}
use Rattle.rv_decode.specs.declared.instr.Instr.{Instr}
use Rattle.rv_decode.specs.declared.instr.Instr.TheVariants.{Jalr}
use Rattle.rv_model.specs.Registers.{reg}
use Rattle.rv_model.specs.Effect.{even, jump_if, jumps_to}
use Rattle.rv_model.specs.Space.{program_byte}
use Rattle.program_model.specs.Calls.{Read, key_of}
use Rattle.code_model.specs.Places.{block_at}
use Rattle.run_model.specs.Run.{World, Run, Answer, rewritten_words}
use Rattle.run_model.specs.ShadowMoves.{shadow_step, shadow_after, fetch_shadow, shadow_plan, fill, hint_given}
use Rattle.side_model.specs.Hart.{Regs, get, Priv}
use Rattle.code_model.specs.Tables.{Tabs, TableOk}
use Rattle.side_model.specs.Tables.{HasTabs, IsUnchanged}
use Rattle.side_model.specs.Places.{Place, InBlock, code, address}
use Rattle.side_model.specs.Words.{Point}
use Rattle.side_model.specs.Sees.{Shade, shade_of, Sees, Landed, goes_on}
use Rattle.side_model.proofs.Fetching.{CodeAt, Fetches, code-fetches}
use Rattle.side_model.proofs.Stepping.{step-lands, shade-step}
use Rattle.rows_flow.specs.Following.{FlowArrives, FlowFaults}
use Rattle.rows_flow.specs.JalRows.{Crosses, stays, crosses}
use Rattle.rows_flow.proofs.Building.{same}

module _ (w : World) (x : Answer) (base other : ℕ) (words : List Instr) (whole : other % 4 ≡ 0) (at : CodeAt w base words) (r : Run) (s : Point)
    (here : Sees w.image.layout base (shade_of r) s r.shared) (register : ℕ) (offset : ℤ)
    (word : code w.image.layout words s.place ≡ Some (Jalr 0 register offset)) (to : even (plus_int (get register s.regs) offset) ≡ other) where
  abbrev shown : Shade → Type 0
  shown h = Sees w.image.layout other h (record s { place = InBlock 0 }) r.shared

  -- the jump itself
  jumped : (target : ℕ) → target ≡ other → shown (shade_of (shadow_after w x r (jumps_to r.shadow.registers target)))
  jumped target e =
      subst (λ (a : ℕ). shown (shade_of (shadow_after w x r (jumps_to r.shadow.registers a)))) (sym e)
      (subst (λ (b : Bool). shown (shade_of (shadow_after w x r (jump_if b r.shadow.registers other)))) (sym (eq-eqb (other % 4) 0 whole))
      (record { pc = omega arith; regs = here.regs; priv = here.priv; tabs = here.tabs; shared = refl; running = here.running }))

  -- one word later the shadow is at word 0 of the other block
  pub crossing-shows : shown (shade_of (shadow_step w x r))
  crossing-shows =
      let f : Fetches w (address base s.place) (Jalr 0 register offset) = code-fetches w base words s.place (Jalr 0 register offset) at word in
      subst shown (sym (shade-step w x r (Jalr 0 register offset) here.running (ap (fetch_shadow w) here.pc ∙ f.word)))
      (jumped (even (plus_int (reg r.shadow.registers register) offset)) (ap (λ (v : ℕ). even (plus_int v offset)) (here.regs.at register) ∙ to))

-- ---- a word of a block that may go on in another one

module _ (w : World) (x : Answer) (p : ℕ) (i : Instr) (q : Regs) (base target : ℕ) (words : List Instr) (Row Pad : Place → Regs → Priv → Tabs → ℕ → Type 0) (n : ℕ)
    (few : w.image.layout.regions ≤ 65536) (at : CodeAt w base words) (r : Run) (s : Point) (small : (k : ℕ) → r.shadow.registers k < 2 ^ 64)
    (here : Sees w.image.layout base (shade_of r) s r.shared) (key_small : key_of (shadow_plan w r) < 2 ^ 64)
    (filled : (d : ℕ) (spot : ReadSpot) (a : ℕ) (unhinted : Bool) → shadow_plan w r ≡ Read d spot a → TableOk w.image.layout s.tabs
    → (t : Tabs) × HasTabs w.image.layout (fill w spot a (hint_given unhinted spot r)).shared t × TableOk w.image.layout t) where
  abbrev l : Layout
  l = w.image.layout

  -- where the run lands, by the rows of the block at a base
  abbrev lands : ℕ → (Place → Regs → Priv → Tabs → ℕ → Type 0) → Shade → Type 0
  lands at rows h =
      Landed l at (λ place rs s' t' m' k. rows place rs s' t' k × IsUnchanged s.tabs r.shared t' m') (λ to rs t' m'. FlowArrives l p i q to rs × IsUnchanged s.tabs r.shared t' m')
      (λ cause t' m'. FlowFaults l p i q cause × IsUnchanged s.tabs r.shared t' m') n h

  -- in this block, or at the pad of the target's
  pub crossing-lands : TableOk l s.tabs
      → Crosses l (program_byte l (rewritten_words w) r.own.memory) p i q base (block_at l target) Row Pad (code l words s.place) s.place s.regs s.priv s.tabs r.shared n
      → lands base Row (shade_of (shadow_step w x r)) ⊎ lands (block_at l target) Pad (shade_of (shadow_step w x r))
  crossing-lands ok (stays d) = inl (step-lands w x base words _ _ _ n few at r s small here key_small filled d)
  crossing-lands ok (crosses k register offset word to row less) =
      inr (goes_on k (record s { place = InBlock 0 }) r.shared (row, same) ok (grind (arith, nat_tests, less)) refl
      (crossing-shows w x base (block_at l target) words (omega arith) at r s here register offset word to))
