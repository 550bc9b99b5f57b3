-- Where a jump goes: to a block where its target is in the text, and else out of the text.
use Rattle.std.proofs.Common.{◌≡◌, ℕ, ◌%◌, ◌≤◌, Bool, true, false, ◌==◌, refl, ap, arith, eq-eqb}
use Rattle.std.proofs.lemmas.Bool.{and_parts}
use Rattle.std.proofs.lemmas.Bool.Decides.{nat_tests}
use Rattle.spec_base.specs.declared.layout.Layout.{Layout}
use Rattle.spec_base.specs.declared.machine.Trap.TheVariants as trap
use Rattle.rv_model.specs.Registers.{Registers}
use Rattle.rv_model.specs.Rights.{in_text}
use Rattle.rv_model.specs.Effect.{jump_if, jumps_to}
use Rattle.code_model.specs.Blocks.{is_target}
use Rattle.code_model.specs.Places.{block_at}
use Rattle.side_model.specs.Hart.{Regs}
use Rattle.side_model.specs.Places.{HasBlock, IsInstruction}
use Rattle.side_model.specs.Sees.{HasRegs}
use Rattle.side_model.proofs.Numbers.{TextFits, text-fits, IsInText, target-inside}
use Rattle.rows_flow.specs.Following.{GoesOn, GoesOut, traps, leaves}

-- the program jumps to a multiple of 4
pub jumps_whole : (target : ℕ) (rs : Registers) (q : Regs) → HasRegs rs q → target % 4 ≡ 0 → GoesOn (jumps_to rs target) target q
jumps_whole target rs q h whole = record { registers = rs; next = ap (λ (b : Bool). jump_if b rs target) (eq-eqb (target % 4) 0 whole); shown = h }

-- elsewhere it traps, or leaves the text
pub jumps_out : (l : Layout) (target : ℕ) (rs : Registers) → is_target l target ≡ false → GoesOut l (jumps_to rs target)
jumps_out l target rs e = by_test (target % 4 == 0) refl
  where
    by_test : (b : Bool) → (target % 4 == 0) ≡ b → GoesOut l (jump_if b rs target)
    by_test true z = leaves rs target (grind (arith, nat_tests))
    by_test false z = traps trap.Misaligned

-- a target is in the text
pub target-in_text : (l : Layout) (target : ℕ) → is_target l target ≡ true → in_text l target ≡ true
target-in_text l target e = (and_parts (in_text l target) (target % 4 == 0) e).0

-- ---- blocks

module _ (l : Layout) (p : ℕ) (is : IsInstruction l p) where
  text : TextFits l
  text = text-fits l is.lawful

  -- a target has a block
  pub target_block : (target : ℕ) → is_target l target ≡ true → HasBlock l target
  target_block target h = let i : IsInText l target = target-inside l target h in record { above = i.above; below = omega (arith, i.below); whole = omega (arith, i.whole, i.above, text.start) }

  -- at an address that two words build
  pub block_most : (target : ℕ) → target ≤ l.text_end → block_at l target ≤ 0x4110_0000
  block_most target h = omega (arith, h, text.few)

  -- an address with a block is a multiple of 4
  pub block_whole : (target : ℕ) → HasBlock l target → target % 4 ≡ 0
  block_whole target b = omega (arith, b.above, b.whole, text.start)
