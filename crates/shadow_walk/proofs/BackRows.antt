-- The words of RESTART behind its HCALL, and of JUMP: they lead to the block behind the site, where that isn't the text's end.
use Rattle.std.proofs.Common.{◌≡◌, ℕ, ◌+◌, ◌<◌, ◌⊎◌, inl, inr, true, false, nat_le, List, refl, ◌∙◌, ap, sym, subst, arith}
use Rattle.std.proofs.lemmas.Bool.Decides.{nat_tests}
use Rattle.spec_base.specs.Layout.{helpers_start}
use Rattle.spec_base.specs.declared.layout.Layout.{Layout}
use Rattle.spec_base.specs.declared.note.ShadowState.TheVariants.{Running}
use Rattle.rv_decode.specs.declared.instr.Instr.{Instr}
use Rattle.rv_model.specs.Space.{program_byte}
use Rattle.run_model.specs.Run.{World, Run, Answer, rewritten_words}
use Rattle.run_model.specs.ShadowMoves.{is_arrival, shadow_step}
use Rattle.run_laws.specs.OwnLaws.{Accepted}
use Rattle.own_laws.proofs.Reached.{false_true}
use Rattle.side_model.specs.Hart.{Regs}
use Rattle.side_model.specs.Places.{Place, InBlock, InHelper, Away, address, IsInstruction}
use Rattle.side_model.specs.Words.{Point}
use Rattle.side_model.specs.Sees.{Shade, shade_of, Sees, Landed}
use Rattle.side_model.specs.Sees as landing
use Rattle.side_model.specs.JumpRows.{JumpFits}
use Rattle.side_model.specs.Tables.{IsUnchanged}
use Rattle.rows_log.specs.RestartRows.{RestartedRow, RestartArrives, RestartFaults}
use Rattle.rows_log.proofs.RestartWords.{restarted_leads}
use Rattle.shadow_laws.proofs.ShadowNumbers.{Sized, stock_of}
use Rattle.shadow_laws.proofs.ShadowRuns.{block-arrives}
use Rattle.shadow_laws.proofs.Sound.{At, bare, is_helper, parked_running}
use Rattle.shadow_laws.proofs.SoundSteps.{landed}
use Rattle.hint_laws.proofs.Within.{ends}
use Rattle.hint_laws.proofs.WithinSteps.{Inner, in_helper, at_pad, restarted-place}
use Rattle.hint_laws.proofs.Spots.{inner-arrival}

-- the shadow is at such a word, with the program's registers behind the site
pub record OnReturn (w : World) (site : ℕ) (g : Regs) (y : Run) : Type 0 where
  pub base : ℕ
  pub words : List Instr
  pub is_site : IsInstruction w.image.layout site
  pub fits : JumpFits w.image.layout (site + 4) g base words
  pub left : ℕ
  pub at : At w base words (bare (RestartedRow w.image.layout site g)) (shade_of y) left

-- where it runs behind the word, it is at one still, or at the block behind the site
pub data Returned (w : World) (site : ℕ) (g : Regs) (next : Run) : Type 0 where
  still : is_arrival w.image.layout next.shadow.pc ≡ false → OnReturn w site g next → Returned w site g next
  lands : is_arrival w.image.layout next.shadow.pc ≡ true → site + 4 < w.image.layout.text_end → Returned w site g next

module _ (w : World) (a : Accepted w) (x : Answer) (y : Run) (z : Sized (stock_of y)) (site : ℕ) (g : Regs) (on : OnReturn w site g y) (runs : (shadow_step w x y).shadow.state ≡ Running) where
  abbrev l : Layout
  l = w.image.layout

  abbrev next : Run
  next = shadow_step w x y

  -- between two words it is in a helper, or at word 0 of a block
  off-block : (s : Point) → (is_helper s.place ≡ true) ⊎ (s.place ≡ InBlock 0) → next.shadow.pc ≡ address on.base s.place → is_arrival l next.shadow.pc ≡ false
  off-block s (inl h) pc = inner-arrival w a {d = ends g} {pc = next.shadow.pc} tt (by_place s.place h pc)
    where
      by_place : (place : Place) → is_helper place ≡ true → next.shadow.pc ≡ address on.base place → Inner l next.shadow.pc (ends g)
      by_place (InBlock n) e f = false_true e
      by_place (InHelper k n) e f = in_helper (subst (λ (b : ℕ). nat_le helpers_start b ≡ true) (sym f) (grind (arith, nat_tests)))
      by_place (Away b) e f = false_true e
  off-block s (inr e) pc = inner-arrival w a {d = ends g} {pc = next.shadow.pc} tt (at_pad (omega (arith, pc, ap (address on.base) e, on.at.code.lawful.whole)))

  pub returned : Returned w site g next
  returned =
      by_landed (landed w a x y z on.at
      (restarted_leads l site g on.base on.words (program_byte l (rewritten_words w) y.own.memory) on.is_site on.fits on.left on.at.point.place on.at.point.regs on.at.point.priv on.at.point.tabs y.shared on.at.ok on.at.row))
    where
      by_landed : Landed l on.base (λ place rs s t m k. RestartedRow l site g place rs s t k × IsUnchanged on.at.point.tabs y.shared t m) (RestartArrives l site g on.at.point.tabs y.shared) (RestartFaults l site on.at.point.tabs y.shared) on.left (shade_of next)
          → Returned w site g next
      by_landed (landing.goes_on k s m row ok less inner v) =
          still (off-block s (restarted-place row.0) v.pc)
          (record {
            base = on.base;
            words = on.words;
            is_site = on.is_site;
            fits = on.fits;
            left = k;
            at = record { code = on.at.code; point = s; shown = record { pc = v.pc; regs = v.regs; priv = v.priv; tabs = v.tabs; shared = refl; running = v.running }; ok = ok; row = row.0 };
          })
      by_landed (landing.arrived p s m arrives ok block place v) = lands (ap (is_arrival l) (v.pc ∙ place) ∙ block-arrives w a p block) (omega (arith, arrives.behind, arrives.inside))
      by_landed (landing.parked cause t m why ok has state) = parked_running (sym state ∙ runs)
