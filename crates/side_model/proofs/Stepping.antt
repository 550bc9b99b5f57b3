-- One word of the shadow in a run: where it is led by its row, the run lands.
use Rattle.std.proofs.Common.{◌≡◌, ℕ, ◌^◌, ◌<◌, ◌≤◌, Bool, true, false, ◌&&◌, List, refl, ◌∙◌, ap, sym, subst, Option, Some, None}
use Rattle.spec_base.specs.declared.park.Park.{Park}
use Rattle.spec_base.specs.declared.spot.ReadSpot.{ReadSpot}
use Rattle.rv_decode.specs.declared.instr.Instr.{Instr}
use Rattle.rv_model.specs.Memory.{Memory}
use Rattle.rv_model.specs.Space.{program_byte}
use Rattle.program_model.specs.Calls.{Read, key_of}
use Rattle.run_model.specs.Run.{World, Run, Answer, rewritten_words}
use Rattle.run_model.specs.ShadowMoves.{shadow_step, shadow_in, shadow_after, shadow_at_word, shadow_plan, arrived_if, word_counted, is_running, is_arrival, fetch_shadow, fill, hint_given}
use Rattle.side_model.specs.Hart.{Regs, Priv}
use Rattle.code_model.specs.Tables.{Tabs, TableOk}
use Rattle.side_model.specs.Tables.{HasTabs}
use Rattle.side_model.specs.Places.{Place, code, address}
use Rattle.side_model.specs.Words.{Point, exec_some}
use Rattle.side_model.specs.Rows.{Led}
use Rattle.side_model.specs.Sees.{Shade, shade_of, Sees, Landed}
use Rattle.side_model.proofs.Fetching.{CodeAt, Fetches, code-fetches}
use Rattle.side_model.proofs.Bridge.{word-lands}
use Rattle.spec_base.specs.declared.note.ShadowState.{ShadowState}
use Rattle.spec_base.specs.declared.note.ShadowState.TheVariants.{Running}
use Rattle.own_laws.proofs.InvisibleShadow.{shadow_effect}

-- an arrival counts, and so does a word, but the shadow's part is left
shade-counted : (b : Bool) (r : Run) → shade_of (word_counted (arrived_if b r)) ≡ shade_of r
shade-counted true r = refl
shade-counted false r = refl

-- where the shadow runs, its part becomes what the word that it fetches does
pub shade-step : (w : World) (x : Answer) (r : Run) (i : Instr) → r.shadow.state ≡ Running → fetch_shadow w r.shadow.pc ≡ Some i
    → shade_of (shadow_step w x r) ≡ shade_of (shadow_after w x r (shadow_effect w r i))
shade-step w x r i running f =
    let next : Run = shadow_after w x r (shadow_effect w r i) in
    ap (λ (s : ShadowState). shade_of (shadow_in s w x r)) running
    ∙ ap (λ (o : Option Instr). shade_of (word_counted (shadow_at_word w x r o))) f
    ∙ shade-counted (is_running next.shadow.state && is_arrival w.image.layout next.shadow.pc) next

module _ (w : World) (x : Answer) (base : ℕ) (words : List Instr) (Row : Place → Regs → Priv → Tabs → Memory → ℕ → Type 0)
    (Arrives : ℕ → Regs → Tabs → Memory → Type 0) (Why : Park → Tabs → Memory → Type 0) (n : ℕ)
    (few : w.image.layout.regions ≤ 65536) (at : CodeAt w base words) (r : Run) (s : Point)
    (small : (k : ℕ) → r.shadow.registers k < 2 ^ 64)
    (here : Sees w.image.layout base (shade_of r) s r.shared)
    (key_small : key_of (shadow_plan w r) < 2 ^ 64)
    (filled : (d : ℕ) (spot : ReadSpot) (a : ℕ) (unhinted : Bool) → shadow_plan w r ≡ Read d spot a → TableOk w.image.layout s.tabs
    → (t : Tabs) × HasTabs w.image.layout (fill w spot a (hint_given unhinted spot r)).shared t × TableOk w.image.layout t) where
  abbrev lands : Shade → Type 0
  lands h = Landed w.image.layout base Row Arrives Why n h

  abbrev leads : Option Instr → Type 0
  leads o = Led w.image.layout (program_byte w.image.layout (rewritten_words w) r.own.memory) base Row Arrives Why n (exec_some base o s r.shared)

  -- the word at hand
  by-word : (i : Instr) → code w.image.layout words s.place ≡ Some i → leads (Some i) → lands (shade_of (shadow_step w x r))
  by-word i e d =
      let f : Fetches w (address base s.place) i = code-fetches w base words s.place i at e in
      subst lands (sym (shade-step w x r i here.running (ap (fetch_shadow w) here.pc ∙ f.word)))
      (word-lands w x base Row Arrives Why n few at.lawful r s f.near small here key_small filled i d)

  -- where the word at the shadow's place is led, the run lands
  pub step-lands : leads (code w.image.layout words s.place) → lands (shade_of (shadow_step w x r))
  step-lands d = by_code (code w.image.layout words s.place) refl d
    where
      by_code : (o : Option Instr) → code w.image.layout words s.place ≡ o → leads o → lands (shade_of (shadow_step w x r))
      by_code (Some i) e d = by-word i e d
      by_code None e d = elim d [ ]
