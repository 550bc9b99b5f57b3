-- Each word of jal's block leads to its next row, to its target's block, or to a park.
use Rattle.std.proofs.Common.{◌≡◌, ℕ, ◌+◌, Bool, true, false, ℤ, List, slice_get, Some, refl, ◌∙◌, ap, sym, subst, arith}
use Rattle.spec_base.specs.Word.{word_of_int, plus_int}
use Rattle.spec_base.specs.declared.layout.Layout.{Layout}
use Rattle.spec_base.specs.declared.machine.View.TheVariants.{Plain}
use Rattle.rv_decode.specs.declared.instr.Instr.{Instr}
use Rattle.rv_decode.specs.declared.instr.Instr.TheVariants.{Jal}
use Rattle.rv_model.specs.Memory.{Memory}
use Rattle.rv_model.specs.Registers.{Registers, with_reg}
use Rattle.rv_model.specs.Rights.{Rights}
use Rattle.own_laws.proofs.Reached.{false_true}
use Rattle.rv_model.specs.Effect.{after, effect, even, jumps_to}
use Rattle.code_model.specs.Assembly.{ld, lo, X31}
use Rattle.code_model.specs.Blocks.{is_target, jal_if, with_pad}
use Rattle.code_model.specs.Places.{block_at}
use Rattle.side_model.specs.Hart.{Regs, Priv}
use Rattle.code_model.specs.Tables.{Tabs, TableOk}
use Rattle.side_model.specs.Places.{Place, InBlock, code, HasBlock, IsInstruction}
use Rattle.side_model.specs.Words.{exec_some}
use Rattle.side_model.specs.Rows.{on, arrives, parks}
use Rattle.side_model.specs.JumpRows.{high_part}
use Rattle.side_model.specs.Sees.{HasRegs}
use Rattle.side_model.proofs.Numbers.{TextFits, text-fits, hi_lo}
use Rattle.side_model.proofs.Registers.{HasRegs-put}
use Rattle.rows_flow.specs.Following.{GoesOn, GoesOut, Follows}
use Rattle.rows_flow.specs.JalRows.{linked, JalRow, k1, k2, k3, k4, k5, PadRow, pad, Crosses, stays, crosses, JalLeads, PadLeads, JalStarts}
use Rattle.rows_flow.proofs.Building.{same, next_pc, built}
use Rattle.rows_flow.proofs.Targets.{target-in_text, jumps_whole, jumps_out, target_block, block_most, block_whole}

module _ (l : Layout) (p rd : ℕ) (imm : ℤ) (q : Regs) (program : Memory) (is : IsInstruction l p) where
  abbrev target : ℕ
  target = plus_int p imm

  text : TextFits l
  text = text-fits l is.lawful

  -- the link
  link : plus_int (high_part (p + 4)) (lo (p + 4)) ≡ p + 4
  link = hi_lo (p + 4) (omega (arith, is.below, text.below))

  -- the program jumps to the text
  goes-in : is_target l target ≡ true → (rights : Rights) (memory : Memory) (was : Registers) → HasRegs was q → GoesOn (effect Plain rights memory was p (Jal rd imm)) target (linked l p rd target q)
  goes-in e rights memory was h =
      subst (λ (v : ℕ). GoesOn (jumps_to (with_reg was rd v) target) target (linked l p rd target q)) (sym (next_pc l p is))
      (jumps_whole target (with_reg was rd (p + 4)) (linked l p rd target q) (HasRegs-put was q rd (p + 4) h) (block_whole l p is target (target_block l p is target e)))

  -- or elsewhere
  goes-out : is_target l target ≡ false → (rights : Rights) (memory : Memory) (was : Registers) → HasRegs was q → GoesOut l (effect Plain rights memory was p (Jal rd imm))
  goes-out e rights memory was h = jumps_out l target (with_reg was rd (after p)) e

  -- the words, by whether the target is in the text
  abbrev leads : Bool → ℕ → Place → Regs → Priv → Tabs → Memory → Type 0
  leads b n place rs s t m =
      Crosses l program p (Jal rd imm) q (block_at l p) (block_at l target) (JalRow l p rd target q) (PadRow l p rd target q) (code l (with_pad (jal_if b l p rd target)) place) place rs s t m n

  -- word 1
  first : (s : Priv) (t : Tabs) (m : Memory) → TableOk l t → (b : Bool) → is_target l target ≡ b → leads b 6 (InBlock 1) q s t m
  first s t m ok true e = stays (on (k2 s e, same) ok refl refl)
  first s t m ok false e = stays (parks (record { fault = refl; out = goes-out e; other = λ j. false_true (sym j) }, same) ok)

  -- word 5 jumps to the target's block
  onto : is_target l target ≡ true → even (plus_int (high_part (block_at l target)) (lo (block_at l target))) ≡ block_at l target
  onto e =
      let b : HasBlock l target = target_block l p is target e in
      let f : plus_int (high_part (block_at l target)) (lo (block_at l target)) ≡ block_at l target = hi_lo (block_at l target) (omega (arith, block_most l p is target b.below)) in
      ap even f ∙ omega arith

  -- where the target is in the text, the words are those of the jump
  in_text : {n : ℕ} {place : Place} {rs : Regs} {s : Priv} {t : Tabs} {m : Memory} → is_target l target ≡ true → leads true n place rs s t m → leads (is_target l target) n place rs s t m
  in_text {n} {place} {rs} {s} {t} {m} e d = subst (λ (b : Bool). leads b n place rs s t m) (sym e) d

  -- each word of the block
  jal-words : {n : ℕ} {place : Place} {rs : Regs} {s : Priv} {t : Tabs} (m : Memory) → TableOk l t → JalRow l p rd target q place rs s t n → leads (is_target l target) n place rs s t m
  jal-words m ok (k1 s) = first s _ m ok (is_target l target) refl
  jal-words m ok (k2 s e) = in_text e (stays (rw (built rd (high_part (p + 4)) (word_of_int (lo (p + 4))) (p + 4) q link) (on (k3 s e, same) ok refl refl)))
  jal-words m ok (k3 s e) = in_text e (stays (on (k4 s e, same) ok refl refl))
  jal-words m ok (k4 s e) = in_text e (stays (on (k5 s e, same) ok refl refl))
  jal-words m ok (k5 s e) = in_text e (crosses 1 31 (lo (block_at l target)) refl (onto e) (pad s e) refl)

  -- the pad of the target's block
  pad-words : (words : List Instr) → slice_get words 0 ≡ Some (ld 31 X31 0) → {n : ℕ} {place : Place} {rs : Regs} {s : Priv} {t : Tabs} (m : Memory) → TableOk l t → PadRow l p rd target q place rs s t n
      → Follows l program p (Jal rd imm) q (block_at l target) (PadRow l p rd target q) t m n (exec_some (block_at l target) (code l words place) (record { place = place; regs = rs; priv = s; tabs = t }) m)
  pad-words words w m ok (pad s e) = rw w (arrives target refl (target_block l p is target e) (record { goes = goes-in e; inside = λ j. target-in_text l target e }, same) ok)

pub jal_leads : JalLeads
jal_leads l p rd imm q program is n place rs s t m ok row = jal-words l p rd imm q program is m ok row

pub pad_leads : PadLeads
pad_leads l p rd imm q words program is w n place rs s t m ok row = pad-words l p rd imm q program is words w m ok row

pub jal_starts : JalStarts
jal_starts l p rd a q s t = k1 s
