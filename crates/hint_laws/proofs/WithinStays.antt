-- A shadow that follows the program goes on following it while the own hart changes bytes that it doesn't take from the program's memory, and the head of the hint log.
use Rattle.std.proofs.Common.{◌≡◌, ℕ, ◌/◌, ◌<◌, ◌≤◌, true, ◌==◌, Option, Some, refl, ◌∙◌, arith}
use Rattle.std.proofs.lemmas.Bool.Decides.{nat_tests}
use Rattle.spec_base.specs.Layout.{range_start, range_end}
use Rattle.spec_base.specs.declared.layout.Layout.{Layout}
use Rattle.rv_model.specs.Memory.{Memory}
use Rattle.code_model.specs.Regions.{entry_of}
use Rattle.run_model.specs.Run.{World}
use Rattle.side_model.specs.Sees.{Shade}
use Rattle.rows_access.proofs.Reach.{region-of}
use Rattle.rows_access.proofs.StoreChanges.{store_keeps}
use Rattle.rows_log.proofs.RestartWords.{box_stays}
use Rattle.shadow_laws.proofs.SoundSteps.{LeavesBehindHead, stays-at}
use Rattle.hint_laws.proofs.Within.{Doing, Within, computing, quartering, branching, linking, padding, going, jumping, parking, guarded, loading, storing, calling, answered, restarting, unboxing}
use Rattle.hint_laws.proofs.Followed.{is_storing}

-- known bytes whose regions have no copy are left in the program's memory
abbrev pub LeavesKnown : Layout → Memory → (ℕ → Option ℕ) → Memory → Memory → Type 0
LeavesKnown l shared bytes program program' = (b v : ℕ) → range_start ≤ b → b < range_end l.version → entry_of shared (b / 256) ≡ 0 → bytes b ≡ Some v → program' b ≡ program b

module _ (w : World) (bytes : ℕ → Option ℕ) (program program' : Memory) (h : Shade) (m : Memory) (leaves : LeavesBehindHead h.shared m) where
  abbrev l : Layout
  l = w.image.layout

  -- the shadow with other bytes shared
  abbrev changed : Shade
  changed = record h { shared = m }

  -- at each row; of the program's memory a store alone speaks
  pub within-stays : {d : Doing} {n : ℕ} → (is_storing d ≡ true → LeavesKnown l h.shared bytes program program') → Within w bytes program d h n → Within w bytes program' d changed n
  unfolding stays-at
  within-stays same (computing p i q is c at) = computing p i q is c (stays-at leaves at at.row)
  within-stays same (quartering p rd imm q is f at) = quartering p rd imm q is f (stays-at leaves at at.row)
  within-stays same (branching p op rs1 rs2 imm q is at) = branching p op rs1 rs2 imm q is (stays-at leaves at at.row)
  within-stays same (linking p rd imm q is at) = linking p rd imm q is (stays-at leaves at at.row)
  within-stays same (padding p rd imm q words is f at) = padding p rd imm q words is f (stays-at leaves at at.row)
  within-stays same (going p rd rs1 imm q is at) = going p rd rs1 imm q is (stays-at leaves at at.row)
  within-stays same (jumping p rd rs1 imm q base words is fits at) = jumping p rd rs1 imm q base words is fits (stays-at leaves at at.row)
  within-stays same (parking p i q is c at) = parking p i q is c (stays-at leaves at at.row)
  within-stays same (guarded q at) = guarded q (stays-at leaves at at.row)
  within-stays same (loading p op rd rs1 imm q is at) = loading p op rd rs1 imm q is (stays-at leaves at at.row)
  within-stays {n = n} same (storing p op rs1 rs2 imm q t0 is at) =
      storing p op rs1 rs2 imm q t0 is
      (stays-at leaves at
      (store_keeps l p op rs1 rs2 imm q bytes program program' t0 n at.point.place at.point.regs at.point.priv at.point.tabs h.shared m
      (λ b v low high none e. same refl b v low high (at.shown.tabs.entry (b / 256) (region-of l b high) ∙ zero-of (at.point.tabs.entry (b / 256)) none) e) (λ b g. leaves b (omega arith)) at.row))
    where
      zero-of : (n : ℕ) → (n == 0) ≡ true → n ≡ 0
      zero-of n e = grind (arith, nat_tests)
  within-stays same (calling p q is at before) = calling p q is (stays-at leaves at at.row) before
  within-stays same (answered p answer q is at) = answered p answer q is (stays-at leaves at at.row)
  within-stays same (restarting site q base words is fits at) =
      restarting site q base words is fits (stays-at leaves at (at.row.0, box_stays h.shared m site q (λ b g i. leaves b (omega arith)) at.row.1))
  within-stays same (unboxing site q base words is fits at) = unboxing site q base words is fits (stays-at leaves at at.row)
