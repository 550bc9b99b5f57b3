-- Each word of a branch's block leads to its next row, to a block, or to a park.
use Rattle.std.proofs.Common.{◌≡◌, ℕ, ◌+◌, ◌*◌, Bool, true, false, ℤ, pos, refl, ◌∙◌, ap, sym, arith}
use Rattle.spec_base.specs.Word.{plus_int}
use Rattle.spec_base.specs.declared.layout.Layout.{Layout}
use Rattle.spec_base.specs.declared.machine.View.TheVariants.{Plain}
use Rattle.rv_decode.specs.declared.instr.Instr.TheVariants.{Branch}
use Rattle.rv_decode.specs.declared.instr.BranchOp.{BranchOp}
use Rattle.rv_model.specs.Memory.{Memory}
use Rattle.rv_model.specs.Registers.{Registers}
use Rattle.rv_model.specs.Rights.{Rights}
use Rattle.own_laws.proofs.Reached.{false_true}
use Rattle.rv_model.specs.Effect.{Next, effect}
use Rattle.code_model.specs.Blocks.{block, is_target, taken_word}
use Rattle.code_model.specs.Places.{block_at}
use Rattle.side_model.specs.Hart.{Regs, Priv}
use Rattle.code_model.specs.Tables.{Tabs, TableOk}
use Rattle.side_model.specs.Places.{Place, InBlock, code, HasBlock, IsInstruction}
use Rattle.side_model.specs.Words.{Out, exec, exec_some}
use Rattle.side_model.specs.Rows.{on, leaps, arrives, parks}
use Rattle.side_model.specs.Sees.{HasRegs}
use Rattle.side_model.proofs.JumpWords.{forks}
use Rattle.rows_flow.specs.Following.{GoesOn, GoesOut, Follows}
use Rattle.rows_flow.specs.BranchRows.{taken, BranchRow, b1, b2, b3, BranchLeads, BranchStarts}
use Rattle.rows_flow.proofs.Building.{same, onto_next, next_block, next_pc, by_diff}
use Rattle.rows_flow.proofs.Targets.{target-in_text, jumps_whole, jumps_out, target_block, block_most, block_whole}

module _ (l : Layout) (p : ℕ) (op : BranchOp) (rs1 rs2 : ℕ) (imm : ℤ) (q : Regs) (program : Memory) (is : IsInstruction l p) where
  abbrev target : ℕ
  target = plus_int p imm

  abbrev led : Tabs → Memory → ℕ → Out → Type 0
  led t m n o = Follows l program p (Branch op rs1 rs2 imm) q (block_at l p) (BranchRow op rs1 rs2 q) t m n o

  abbrev leads : ℕ → Place → Regs → Priv → Tabs → Memory → Type 0
  leads n place rs s t m = led t m n (exec_some (block_at l p) (code l (block l p (Branch op rs1 rs2 imm)) place) (record { place = place; regs = rs; priv = s; tabs = t }) m)

  -- the program's branch isn't taken
  not-taken : taken op rs1 rs2 q ≡ false → (rights : Rights) (memory : Memory) (was : Registers) → HasRegs was q → GoesOn (effect Plain rights memory was p (Branch op rs1 rs2 imm)) (p + 4) q
  not-taken e rights memory was h = rw (h.at rs1, h.at rs2, e) (record { registers = was; next = ap (Next was) (next_pc l p is); shown = h })

  -- it is taken to the text
  taken-in : taken op rs1 rs2 q ≡ true → is_target l target ≡ true → (rights : Rights) (memory : Memory) (was : Registers) → HasRegs was q → GoesOn (effect Plain rights memory was p (Branch op rs1 rs2 imm)) target q
  taken-in e f rights memory was h = rw (h.at rs1, h.at rs2, e) (jumps_whole target was q h (block_whole l p is target (target_block l p is target f)))

  -- or elsewhere
  taken-out : taken op rs1 rs2 q ≡ true → is_target l target ≡ false → (rights : Rights) (memory : Memory) (was : Registers) → HasRegs was q → GoesOut l (effect Plain rights memory was p (Branch op rs1 rs2 imm))
  taken-out e f rights memory was h = rw (h.at rs1, h.at rs2, e) (jumps_out l target was f)

  -- word 3, where the target is in the text and where it isn't
  takes : (s : Priv) (t : Tabs) (m : Memory) → TableOk l t → taken op rs1 rs2 q ≡ true → (b : Bool) → is_target l target ≡ b
      → led t m 1 (exec (block_at l p) (taken_word b l p target) (record { place = InBlock 3; regs = q; priv = s; tabs = t }) m)
  takes s t m ok e true f =
      let b : HasBlock l target = target_block l p is target f in
      arrives target (by_diff (block_at l target + 4) (block_at l p + 4 * 3) (omega (arith, block_most l p is target b.below)) (omega (arith, block_most l p is p (omega (arith, is.below))))) b (record { goes = taken-in e f; inside = λ j. target-in_text l target f }, same) ok
  takes s t m ok e false f = parks (record { fault = refl; out = taken-out e f; other = λ j. false_true (sym j ∙ e) }, same) ok

  branch-words : {n : ℕ} {place : Place} {rs : Regs} {s : Priv} {t : Tabs} (m : Memory) → TableOk l t → BranchRow op rs1 rs2 q place rs s t n → leads n place rs s t m
  branch-words m ok (b1 s) = forks (taken op rs1 rs2 q) (λ e. leaps (InBlock 3) over (on (b3 s e, same) ok refl refl)) (λ e. on (b2 s e, same) ok refl refl)
    where
      over : plus_int (block_at l p + 4 * 1) (pos 8) ≡ block_at l p + 4 * 3
      over = omega (arith, block_most l p is p (omega (arith, is.below)))
  branch-words m ok (b2 s e) = arrives (p + 4) (onto_next l p is 2 (omega arith)) (next_block l p is) (record { goes = not-taken e; inside = λ j. false_true (sym e ∙ j) }, same) ok
  branch-words m ok (b3 s {t} e) = takes s t m ok e (is_target l target) refl

pub branch_leads : BranchLeads
branch_leads l p op rs1 rs2 imm q program is n place rs s t m ok row = branch-words l p op rs1 rs2 imm q program is m ok row

pub branch_starts : BranchStarts
branch_starts op rs1 rs2 q s t = b1 s
