-- Each word of jalr's block, and of JUMP, leads to its next row, to its target's block, or to a park.
use Rattle.std.proofs.Common.{◌≡◌, ℕ, ◌+◌, inl, inr, Bool, true, false, ◌==◌, cond, ℤ, List, refl, ap, sym, subst, arith}
use Rattle.spec_base.specs.Word.{word_of_int, plus_int}
use Rattle.spec_base.specs.declared.layout.Layout.{Layout}
use Rattle.spec_base.specs.declared.park.Park.{Park}
use Rattle.spec_base.specs.declared.machine.View.TheVariants.{Plain}
use Rattle.rv_decode.specs.declared.instr.Instr.{Instr}
use Rattle.rv_decode.specs.declared.instr.Instr.TheVariants.{Jalr}
use Rattle.rv_model.specs.Memory.{Memory}
use Rattle.rv_model.specs.Registers.{Registers, with_reg}
use Rattle.rv_model.specs.Rights.{Rights}
use Rattle.own_laws.proofs.Reached.{false_true}
use Rattle.rv_model.specs.Effect.{after, effect, jumps_to}
use Rattle.code_model.specs.Assembly.{lo}
use Rattle.code_model.specs.Blocks.{block, link_spill}
use Rattle.code_model.specs.Places.{block_at}
use Rattle.side_model.specs.Hart.{Regs, get, put, Priv}
use Rattle.code_model.specs.Tables.{Tabs, TableOk}
use Rattle.side_model.specs.Places.{Jumping, Place, InBlock, InHelper, code, HasBlock, IsInstruction}
use Rattle.side_model.specs.Words.{Point, Out, Goes, Parks, exec, exec_some}
use Rattle.side_model.specs.Rows.{Led, on, leaps, arrives, parks}
use Rattle.side_model.specs.JumpRows.{goal, high_part, with_31, JumpRow, j1, j2, j3, j4, j5, j6, j7, j8, j9, j10, j11, j12, j13, j14, j15, j16, lands, faults, JumpArrives, JumpFaults, JumpFits}
use Rattle.side_model.specs.Sees.{HasRegs}
use Rattle.side_model.proofs.JumpWords.{jump_leads}
use Rattle.side_model.proofs.Numbers.{TextFits, text-fits, hi_lo}
use Rattle.side_model.proofs.Registers.{HasRegs-put}
use Rattle.rows_flow.specs.Following.{GoesOn, FlowArrives, FlowFaults, Follows}
use Rattle.rows_flow.specs.JalrRows.{asked, JalrRow, r1, r2, r3, r4, r5, r6, r7, r8, JalrsRow, JalrLeads, JumpFollows, JalrStarts}
use Rattle.rows_flow.proofs.Building.{same, next_pc, built}
use Rattle.rows_flow.proofs.Targets.{target-in_text, jumps_whole, jumps_out, block_whole}

-- ---- JUMP leaves the tables and the memory

-- a word goes on, or parks, with these tables and this memory
data Steady (t : Tabs) (m : Memory) : Out → Type 0 where
  going : (s : Point) → s.tabs ≡ t → Steady t m (Goes s m)
  parking : (cause : Park) (s : Point) → s.tabs ≡ t → Steady t m (Parks cause s m)

-- each word of JUMP does
steady : (l : Layout) (at : ℕ) (q : Regs) (base : ℕ) (words : List Instr) → JumpFits l at q base words → {n : ℕ} {place : Place} {rs : Regs} {s : Priv} {t : Tabs} (m : Memory) → JumpRow l at q place rs s t n
    → Steady t m (exec_some base (code l words place) (record { place = place; regs = rs; priv = s; tabs = t }) m)
steady l at q base words fits m (j1 s) = going _ refl
steady l at q base words fits m (j2 s) = going _ refl
steady l at q base words fits m (j3 s) = going _ refl
steady l at q base words fits m (j4 s) = going _ refl
steady l at q base words fits m (j5 s) = going _ refl
steady l at q base words fits m (j6 s e) = going _ refl
steady l at q base words fits m (j7 s e) = going _ refl
steady l at q base words fits m (j8 s e) = going _ refl
steady l at q base words fits m (j9 s e) = going _ refl
steady l at q base words fits m (j10 s e) = going _ refl
steady l at q base words fits m (j11 s e) = going _ refl
steady l at q base words fits m (j12 s e) = going _ refl
steady l at q base words fits m (j13 s e) = going _ refl
steady l at q base words fits m (j14 s e) = going _ refl
steady l at q base words fits m (j15 s e) = going _ refl
steady l at q base words fits m (j16 s e) = going _ refl
steady l at q base words fits m (lands s e) = rw (fits.pad e) (going _ refl)
steady l at q base words fits m (faults s e) = parking _ _ refl

module _ (l : Layout) (p rd rs1 : ℕ) (imm : ℤ) (q : Regs) (program : Memory) (is : IsInstruction l p) where
  -- where the program goes
  abbrev at : ℕ
  at = plus_int (get rs1 q) imm

  abbrev linked : Regs
  linked = put rd (p + 4) q

  text : TextFits l
  text = text-fits l is.lawful

  -- the link
  link : plus_int (high_part (p + 4)) (lo (p + 4)) ≡ p + 4
  link = hi_lo (p + 4) (omega (arith, is.below, text.below))

  abbrev led : ℕ → Tabs → Memory → ℕ → Out → Type 0
  led base t m n o = Follows l program p (Jalr rd rs1 imm) q base (JalrsRow l p rd rs1 imm q) t m n o

  abbrev leads : ℕ → Place → Regs → Priv → Tabs → Memory → Type 0
  leads n place rs s t m = led (block_at l p) t m n (exec_some (block_at l p) (code l (block l p (Jalr rd rs1 imm)) place) (record { place = place; regs = rs; priv = s; tabs = t }) m)

  -- ---- the block

  -- word 6, where the link is in x31 and where it isn't
  spills : (s : Priv) (t : Tabs) (m : Memory) → TableOk l t → (b : Bool) → (rd == 31) ≡ b
      → led (block_at l p) t m 20 (exec (block_at l p) (link_spill b) (record { place = InBlock 6; regs = put rd (p + 4) (with_31 q at); priv = asked l p rd rs1 imm q s; tabs = t }) m)
  spills s t m ok true e =
      subst (λ (v : ℕ). led (block_at l p) t m 20 (Goes (record { place = InBlock 7; regs = put rd (p + 4) (with_31 q at); priv = record s { x31 = v; adr = at }; tabs = t }) m))
      (rw e refl) (on (inl (r7 s), same) ok refl refl)
  spills s t m ok false e =
      subst (λ (v : ℕ). led (block_at l p) t m 20 (Goes (record { place = InBlock 7; regs = put rd (p + 4) (with_31 q at); priv = record s { x31 = v; adr = at }; tabs = t }) m))
      (ap (λ (b : Bool). cond b (p + 4) q.x31) e) (on (inl (r7 s), same) ok refl refl)

  jalr-words : {n : ℕ} {place : Place} {rs : Regs} {s : Priv} {t : Tabs} (m : Memory) → TableOk l t → JalrRow l p rd rs1 imm q place rs s t n → leads n place rs s t m
  jalr-words m ok (r1 s) = on (inl (r2 s), same) ok refl refl
  jalr-words m ok (r2 s) = on (inl (r3 s), same) ok refl refl
  jalr-words m ok (r3 s) = on (inl (r4 s), same) ok refl refl
  jalr-words m ok (r4 s) = on (inl (r5 s), same) ok refl refl
  jalr-words m ok (r5 s) = rw (built rd (high_part (p + 4)) (word_of_int (lo (p + 4))) (p + 4) (with_31 q at) link) (on (inl (r6 s), same) ok refl refl)
  jalr-words m ok (r6 s {t}) = spills s t m ok (rd == 31) refl
  jalr-words m ok (r7 s) = on (inl (r8 s), same) ok refl refl
  jalr-words m ok (r8 s) = leaps (InHelper Jumping 0) refl (on (inr (refl, j1 s), same) ok refl refl)

  -- ---- JUMP

  -- the program goes to an address that has a block
  goes-in : HasBlock l (goal l at linked) → (rights : Rights) (memory : Memory) (was : Registers) → HasRegs was q → GoesOn (effect Plain rights memory was p (Jalr rd rs1 imm)) (goal l at linked) linked
  goes-in b rights memory was h =
      rw (h.at rs1)
      (subst (λ (v : ℕ). GoesOn (jumps_to (with_reg was rd v) (goal l at linked)) (goal l at linked) linked) (sym (next_pc l p is))
      (jumps_whole (goal l at linked) (with_reg was rd (p + 4)) linked (HasRegs-put was q rd (p + 4) h) (block_whole l p is (goal l at linked) b)))

  arrived : (target : ℕ) (rs : Regs) (t : Tabs) (m : Memory) → HasBlock l target → JumpArrives l at linked target rs t m → FlowArrives l p (Jalr rd rs1 imm) q target rs
  arrived target rs t m b a =
      subst (λ (r : Regs). FlowArrives l p (Jalr rd rs1 imm) q target r) (sym a.registers)
      (subst (λ (g : ℕ). FlowArrives l p (Jalr rd rs1 imm) q g linked) (sym a.target) (record { goes = goes-in (subst (HasBlock l) a.target b); inside = λ j. target-in_text l (goal l at linked) a.inside }))

  -- or to one that isn't in the text
  faulted : (cause : Park) (t : Tabs) (m : Memory) → JumpFaults l at linked cause t m → FlowFaults l p (Jalr rd rs1 imm) q cause
  faulted cause t m f = record { fault = f.fault; out = λ rights memory was h. rw (h.at rs1) (jumps_out l (goal l at linked) (with_reg was rd (after p)) f.trap); other = λ j. false_true (sym j) }

  abbrev jump_led : ℕ → ℕ → Out → Type 0
  jump_led base n o = Led l program base (λ place rs s t m k. JumpRow l at linked place rs s t k) (JumpArrives l at linked) (JumpFaults l at linked) n o

  abbrev follows : ℕ → Tabs → Memory → ℕ → Out → Type 0
  follows base t m n o = Follows l program p (Jalr rd rs1 imm) q base (JumpRow l at linked) t m n o

  -- what JUMP does follows the program
  follow-on : (base n : ℕ) (t : Tabs) (m : Memory) (s : Point) → s.tabs ≡ t → jump_led base n (Goes s m) → follows base t m n (Goes s m)
  follow-on base n t m s e (on row ok less inner) = on (row, record { tables = e; memory = refl }) ok less inner
  follow-on base n t m s e (leaps place a d) = leaps place a (follow-on base n t m (record s { place = place }) e d)
  follow-on base n t m s e (arrives target a b c ok) = arrives target a b (arrived target s.regs s.tabs m b c, record { tables = e; memory = refl }) ok

  follow-park : (base n : ℕ) (t : Tabs) (m : Memory) (cause : Park) (s : Point) → s.tabs ≡ t → jump_led base n (Parks cause s m) → follows base t m n (Parks cause s m)
  follow-park base n t m cause s e (parks why ok) = parks (faulted cause s.tabs m why, record { tables = e; memory = refl }) ok

  follow : (base n : ℕ) (t : Tabs) (m : Memory) (o : Out) → Steady t m o → jump_led base n o → follows base t m n o
  follow base n t m _ (going s e) d = follow-on base n t m s e d
  follow base n t m _ (parking cause s e) d = follow-park base n t m cause s e d

pub jalr_leads : JalrLeads
jalr_leads l p rd rs1 imm q program is n place rs s t m ok row = jalr-words l p rd rs1 imm q program is m ok row

pub jump_follows : JumpFollows
jump_follows l p rd rs1 imm q base words program is fits n place rs s t m ok row =
    follow l p rd rs1 imm q program is base n t m _ (steady l _ _ base words fits m row) (jump_leads l _ _ base words program fits n place rs s t m ok row)

pub jalr_starts : JalrStarts
jalr_starts l p rd rs1 imm q s t = r1 s
