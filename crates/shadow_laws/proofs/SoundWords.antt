-- No word of a running shadow traps: each row is led, and a word that is led completes.
use Rattle.std.proofs.Common.{ℕ, ℤ, List, None, refl, arith}
use Rattle.spec_base.specs.Word.{plus_int}
use Rattle.spec_base.specs.declared.layout.Layout.{Layout}
use Rattle.spec_base.specs.declared.park.Park.{Park}
use Rattle.rv_decode.specs.declared.instr.Instr.{Instr}
use Rattle.rv_decode.specs.declared.instr.Instr.TheVariants.{Jal}
use Rattle.rv_model.specs.Memory.{Memory, zeros}
use Rattle.rv_model.specs.Space.{program_byte}
use Rattle.code_model.specs.Blocks.{block}
use Rattle.code_model.specs.Places.{block_at}
use Rattle.run_model.specs.Run.{World, Run, Usual, rewritten_words}
use Rattle.run_model.specs.Moves.{run}
use Rattle.run_laws.specs.OwnLaws.{Accepted}
use Rattle.own_laws.proofs.Reached.{none_some}
use Rattle.side_model.specs.Hart.{Regs, Priv}
use Rattle.code_model.specs.Tables.{Tabs}
use Rattle.side_model.specs.Places.{Place, code, HasBlock}
use Rattle.side_model.specs.Words.{exec_some}
use Rattle.side_model.specs.Rows.{Led}
use Rattle.side_model.specs.Sees.{shade_of}
use Rattle.run_laws.specs.Completes.{WordCompletes}
use Rattle.side_model.proofs.JumpWords.{jump_leads}
use Rattle.side_model.proofs.NoTraps.{word-no_trap, jump-no_trap}
use Rattle.rows_access.proofs.LoadWords.{load_leads}
use Rattle.rows_access.proofs.StoreWords.{store_leads}
use Rattle.rows_access.proofs.StoreChanges.{store_keeps}
use Rattle.rows_flow.specs.JalRows.{JalRow, PadRow, Crosses, stays, crosses}
use Rattle.rows_flow.proofs.PlainWords.{plain_leads, auipc_leads, park_leads, guard_leads}
use Rattle.rows_flow.proofs.BranchWords.{branch_leads}
use Rattle.rows_flow.proofs.JalWords.{jal_leads}
use Rattle.rows_flow.proofs.JalrWords.{jalr_leads}
use Rattle.rows_log.proofs.RestartWords.{restart_leads, restarted_leads}
use Rattle.run_laws.specs.SoundLaws.{NoWordTraps}
use Rattle.shadow_laws.proofs.AnyCalls.{any_call-leads}
use Rattle.shadow_laws.proofs.ShadowNumbers.{Sized, stock_of, run-sized}
use Rattle.shadow_laws.proofs.Sound.{bare, At, Sound, computing, quartering, branching, linking, going, jumping, padded, parking, guarded, loading, storing, calling, restarting, unboxing, unknown, pad-target, target-block}
use Rattle.shadow_laws.proofs.SoundSteps.{pad-leads}
use Rattle.shadow_laws.proofs.ShadowRuns.{any_calls, Kept, runs, rests, run-keeps}
use Rattle.shadow_laws.proofs.OwnShades.{watched_of}
use Rattle.shadow_laws.proofs.TextBlocks.{text}

module _ (w : World) (a : Accepted w) (r : Run) where
  abbrev l : Layout
  l = w.image.layout

  abbrev program : Memory
  program = program_byte l (rewritten_words w) r.own.memory

  -- a word that is led, completes
  pub led-completes : {base : ℕ} {words : List Instr} {Row Row' : Place → Regs → Priv → Tabs → Memory → ℕ → Type 0} {Arrives : ℕ → Regs → Tabs → Memory → Type 0} {Why : Park → Tabs → Memory → Type 0} {n : ℕ}
      (at : At w base words Row (shade_of r) n) → Led l program base Row' Arrives Why n (exec_some base (code l words at.point.place) at.point r.shared) → WordCompletes w r
  led-completes {base} {words} {Row} {Row'} {Arrives} {Why} {n} at d = word-no_trap w base words at.code r at.point at.shown Row' Arrives Why n (text w a).regions_few d

  -- word 5 of jal jumps to the pad of its target's block, which is a multiple of 4
  pub crossed-completes : (p rd : ℕ) (imm : ℤ) (q : Regs) (n : ℕ) → (at : At w (block_at l p) (block l p (Jal rd imm)) (bare (JalRow l p rd (plus_int p imm) q)) (shade_of r) n)
      → Crosses l program p (Jal rd imm) q (block_at l p) (block_at l (plus_int p imm)) (JalRow l p rd (plus_int p imm) q) (PadRow l p rd (plus_int p imm) q)
      (code l (block l p (Jal rd imm)) at.point.place) at.point.place at.point.regs at.point.priv at.point.tabs r.shared n
      → WordCompletes w r
  crossed-completes p rd imm q n at (stays d) = led-completes at d
  crossed-completes p rd imm q n at (crosses k register offset e to row less) =
      let b : HasBlock l (plus_int p imm) = target-block w a (plus_int p imm) (pad-target row) in
      jump-no_trap w (block_at l p) (block l p (Jal rd imm)) at.code r at.point at.shown register offset (block_at l (plus_int p imm)) e to (omega (arith, b.whole))

  module _ (z : Sized (stock_of r)) where
    -- each word of a shadow that stands at a row completes
    sound-completes : {n : ℕ} → Sound w (any_calls w) (shade_of r) n → WordCompletes w r
    sound-completes {n} (computing p i q is c at) = led-completes at (plain_leads l p i q program is c n at.point.place at.point.regs at.point.priv at.point.tabs r.shared at.ok at.row)
    sound-completes {n} (quartering p rd imm q is f at) = led-completes at (auipc_leads l p rd imm q program is f n at.point.place at.point.regs at.point.priv at.point.tabs r.shared at.ok at.row)
    sound-completes {n} (branching p op rs1 rs2 imm q is at) = led-completes at (branch_leads l p op rs1 rs2 imm q program is n at.point.place at.point.regs at.point.priv at.point.tabs r.shared at.ok at.row)
    sound-completes {n} (linking p rd imm q is at) = crossed-completes p rd imm q n at (jal_leads l p rd imm q program is n at.point.place at.point.regs at.point.priv at.point.tabs r.shared at.ok at.row)
    sound-completes {n} (going p rd rs1 imm q is at) = led-completes at (jalr_leads l p rd rs1 imm q program is n at.point.place at.point.regs at.point.priv at.point.tabs r.shared at.ok at.row)
    sound-completes {n} (jumping to q base words fits at) = led-completes at (jump_leads l to q base words program fits n at.point.place at.point.regs at.point.priv at.point.tabs r.shared at.ok at.row)
    sound-completes {n} (padded p words b f at) = led-completes at (pad-leads w a Usual r z p n words b f r.shared at.ok at.row)
    sound-completes {n} (parking p i q is c at) = led-completes at (park_leads l p i q program is c n at.point.place at.point.regs at.point.priv at.point.tabs r.shared at.ok at.row)
    sound-completes {n} (guarded q at) = led-completes at (guard_leads l q program n at.point.place at.point.regs at.point.priv at.point.tabs r.shared at.ok at.row)
    sound-completes {n} (loading p op rd rs1 imm q is at) =
        led-completes at (load_leads l p op rd rs1 imm q None program is n at.point.place at.point.regs at.point.priv at.point.tabs r.shared at.ok (λ e. tt) at.row)
    sound-completes {n} (storing p op rs1 rs2 imm q t0 is at) =
        led-completes at
        (store_leads l p op rs1 rs2 imm q unknown program t0 is (λ b v e. none_some e) n at.point.place at.point.regs at.point.priv at.point.tabs r.shared at.ok
        (store_keeps l p op rs1 rs2 imm q unknown zeros program t0 n at.point.place at.point.regs at.point.priv at.point.tabs r.shared r.shared (λ b u g h none e. none_some e) (λ b g. refl) at.row))
    sound-completes {n} (calling p q is at) = led-completes at (any_call-leads l p q program is r.shared at.ok at.row)
    sound-completes {n} (restarting site q base words is fits at) =
        led-completes at (restart_leads l site q base words program is n at.point.place at.point.regs at.point.priv at.point.tabs r.shared at.ok at.row.1 at.row.0)
    sound-completes {n} (unboxing site q base words is fits at) =
        led-completes at (restarted_leads l site q base words program is fits n at.point.place at.point.regs at.point.priv at.point.tabs r.shared at.ok at.row)

-- no word of a running shadow traps
pub no_word_traps : NoWordTraps
no_word_traps w a ms running = by_kept (run-keeps w a ms)
  where
    by_kept : Kept w (watched_of (run w ms)) → WordCompletes w (run w ms)
    by_kept (runs n h few) = sound-completes w a (run w ms) (run-sized w a ms) h
    by_kept (rests t has ok still few) = absurd (still running)
