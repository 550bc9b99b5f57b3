-- Each word of blocks that only compute, of auipc, and of those that park, leads to its next row, to the next block, or to a park.
use Rattle.std.proofs.Common.{◌≡◌, ℕ, ◌+◌, ◌/◌, true, ℤ, refl, ap, arith}
use Rattle.std.proofs.lemmas.Bool.Decides.{nat_tests}
use Rattle.spec_base.specs.Word.{word_of_int, plus_int}
use Rattle.spec_base.specs.declared.layout.Layout.{Layout}
use Rattle.spec_base.specs.declared.machine.Trap.TheVariants as trap
use Rattle.spec_base.specs.declared.machine.View.TheVariants.{Plain}
use Rattle.rv_decode.specs.Encoding.{IsEncodable}
use Rattle.rv_decode.specs.declared.instr.Instr.{Instr}
use Rattle.rv_decode.specs.declared.instr.Instr.TheVariants.{Auipc}
use Rattle.rv_model.specs.Memory.{Memory}
use Rattle.rv_model.specs.Registers.{Registers}
use Rattle.rv_model.specs.Rights.{Rights, in_text}
use Rattle.own_laws.proofs.Reached.{false_true}
use Rattle.rv_model.specs.Arithmetic.{imm_result, imm_w_result, reg_result, reg_w_result}
use Rattle.rv_model.specs.Effect.{Next, effect}
use Rattle.code_model.specs.Assembly.{lo}
use Rattle.code_model.specs.Blocks.{block}
use Rattle.code_model.specs.Places.{block_at}
use Rattle.side_model.specs.Hart.{Regs, get, Priv}
use Rattle.code_model.specs.Tables.{Tabs, TableOk}
use Rattle.side_model.specs.Places.{Place, code, IsInstruction}
use Rattle.side_model.specs.Words.{exec_some}
use Rattle.side_model.specs.Rows.{on, arrives, parks}
use Rattle.side_model.specs.Sees.{HasRegs}
use Rattle.rows_flow.specs.Following.{GoesOn, GoesOut, traps, IsTrap, jumps, FlowArrives, Follows}
use Rattle.rows_flow.specs.PlainRows.{Computes, a_lui, an_imm, an_imm_w, an_op, an_op_w, a_fence, computed, quarter_of, PlainRow, w1, w2, PlainLeads, PlainStarts, AuipcRow, u1, u2, u3, u4, AuipcLeads, AuipcStarts, Stops, at_ebreak, at_gate, at_leave, at_site, at_key, at_stop, at_restart, at_call, at_halt, at_illegal, h1, ParkLeads, ParkStarts, GuardLeads}
use Rattle.rows_flow.proofs.Building.{same, onto_next, next_block, next_pc, steps, built, shifted, quarter}

-- ---- instructions that only compute

module _ (l : Layout) (p : ℕ) (q : Regs) (program : Memory) (is : IsInstruction l p) where
  -- the program goes on at the next instruction with the same registers
  goes-computed : (i : Instr) → Computes i → (rights : Rights) (memory : Memory) (was : Registers) → HasRegs was q → GoesOn (effect Plain rights memory was p i) (p + 4) (computed i q)
  goes-computed _ (a_lui rd imm) rights memory was h = steps l p is was q rd (word_of_int imm) h
  goes-computed _ (an_imm o rd rs1 imm) rights memory was h = rw (h.at rs1) (steps l p is was q rd (imm_result o (get rs1 q) imm) h)
  goes-computed _ (an_imm_w o rd rs1 imm) rights memory was h = rw (h.at rs1) (steps l p is was q rd (imm_w_result o (get rs1 q) imm) h)
  goes-computed _ (an_op o rd rs1 rs2) rights memory was h = rw (h.at rs1, h.at rs2) (steps l p is was q rd (reg_result o (get rs1 q) (get rs2 q)) h)
  goes-computed _ (an_op_w o rd rs1 rs2) rights memory was h = rw (h.at rs1, h.at rs2) (steps l p is was q rd (reg_w_result o (get rs1 q) (get rs2 q)) h)
  goes-computed _ (a_fence word) rights memory was h = record { registers = was; next = ap (Next was) (next_pc l p is); shown = h }

  -- it is no jump
  computed-stays : {i : Instr} → Computes i → jumps q i ≡ true → in_text l (p + 4) ≡ true
  computed-stays (a_lui rd imm) e = false_true e
  computed-stays (an_imm o rd rs1 imm) e = false_true e
  computed-stays (an_imm_w o rd rs1 imm) e = false_true e
  computed-stays (an_op o rd rs1 rs2) e = false_true e
  computed-stays (an_op_w o rd rs1 rs2) e = false_true e
  computed-stays (a_fence word) e = false_true e

  abbrev leads : Instr → ℕ → Place → Regs → Priv → Tabs → Memory → Type 0
  leads i n place rs s t m =
      Follows l program p i q (block_at l p) (PlainRow i q) t m n (exec_some (block_at l p) (code l (block l p i) place) (record { place = place; regs = rs; priv = s; tabs = t }) m)

  arrived : {i : Instr} → Computes i → FlowArrives l p i q (p + 4) (computed i q)
  arrived {i} c = record { goes = goes-computed i c; inside = computed-stays c }

  plain-words : {i : Instr} {n : ℕ} {place : Place} {rs : Regs} {s : Priv} {t : Tabs} (m : Memory) → TableOk l t → Computes i → PlainRow i q place rs s t n → leads i n place rs s t m
  plain-words m ok (a_lui rd imm) (w1 s) = on (w2 s, same) ok refl refl
  plain-words m ok (an_imm o rd rs1 imm) (w1 s) = on (w2 s, same) ok refl refl
  plain-words m ok (an_imm_w o rd rs1 imm) (w1 s) = on (w2 s, same) ok refl refl
  plain-words m ok (an_op o rd rs1 rs2) (w1 s) = on (w2 s, same) ok refl refl
  plain-words m ok (an_op_w o rd rs1 rs2) (w1 s) = on (w2 s, same) ok refl refl
  plain-words m ok (a_fence word) (w1 s) = on (w2 s, same) ok refl refl
  plain-words m ok (a_lui rd imm) (w2 s) = arrives (p + 4) (onto_next l p is 2 (omega arith)) (next_block l p is) (arrived (a_lui rd imm), same) ok
  plain-words m ok (an_imm o rd rs1 imm) (w2 s) = arrives (p + 4) (onto_next l p is 2 (omega arith)) (next_block l p is) (arrived (an_imm o rd rs1 imm), same) ok
  plain-words m ok (an_imm_w o rd rs1 imm) (w2 s) = arrives (p + 4) (onto_next l p is 2 (omega arith)) (next_block l p is) (arrived (an_imm_w o rd rs1 imm), same) ok
  plain-words m ok (an_op o rd rs1 rs2) (w2 s) = arrives (p + 4) (onto_next l p is 2 (omega arith)) (next_block l p is) (arrived (an_op o rd rs1 rs2), same) ok
  plain-words m ok (an_op_w o rd rs1 rs2) (w2 s) = arrives (p + 4) (onto_next l p is 2 (omega arith)) (next_block l p is) (arrived (an_op_w o rd rs1 rs2), same) ok
  plain-words m ok (a_fence word) (w2 s) = arrives (p + 4) (onto_next l p is 2 (omega arith)) (next_block l p is) (arrived (a_fence word), same) ok

pub plain_leads : PlainLeads
plain_leads l p i q program is c n place rs s t m ok row = plain-words l p q program is m ok c row

pub plain_starts : PlainStarts
plain_starts i q s t = w1 s

-- ---- auipc

module _ (l : Layout) (p rd : ℕ) (imm : ℤ) (q : Regs) (program : Memory) (is : IsInstruction l p) (fits : IsEncodable (Auipc rd imm)) where
  -- the result
  abbrev v : ℕ
  v = plus_int p imm

  abbrev auipc_led : ℕ → Place → Regs → Priv → Tabs → Memory → Type 0
  auipc_led n place rs s t m =
      Follows l program p (Auipc rd imm) q (block_at l p) (AuipcRow rd v q) t m n (exec_some (block_at l p) (code l (block l p (Auipc rd imm)) place) (record { place = place; regs = rs; priv = s; tabs = t }) m)

  auipc-words : {n : ℕ} {place : Place} {rs : Regs} {s : Priv} {t : Tabs} (m : Memory) → TableOk l t → AuipcRow rd v q place rs s t n → auipc_led n place rs s t m
  auipc-words m ok (u1 s) = on (u2 s, same) ok refl refl
  auipc-words m ok (u2 s) = rw (built rd _ (word_of_int (lo (v / 4))) (quarter_of v) q refl) (on (u3 s, same) ok refl refl)
  auipc-words m ok (u3 s) = rw (shifted rd (quarter_of v) v q (quarter l p imm is fits.0 fits.1)) (on (u4 s, same) ok refl refl)
  auipc-words m ok (u4 s) =
      arrives (p + 4) (onto_next l p is 4 (omega arith)) (next_block l p is) (record { goes = λ rights memory was h. steps l p is was q rd v h; inside = false_true }, same) ok

pub auipc_leads : AuipcLeads
auipc_leads l p rd imm q program is fits n place rs s t m ok row = auipc-words l p rd imm q program is fits m ok row

pub auipc_starts : AuipcStarts
auipc_starts rd v q s t = u1 s

-- ---- parks

-- the program traps
stopped : (l : Layout) (p : ℕ) (i : Instr) (q : Regs) → Stops i → (rights : Rights) (memory : Memory) (was : Registers) → HasRegs was q → GoesOut l (effect Plain rights memory was p i)
stopped l p _ q at_ebreak rights memory was h = traps trap.Break
stopped l p _ q at_gate rights memory was h = traps trap.Illegal
stopped l p _ q at_leave rights memory was h = traps trap.Illegal
stopped l p _ q (at_site rd) rights memory was h = traps trap.Illegal
stopped l p _ q (at_key rd) rights memory was h = traps trap.Illegal
stopped l p _ q at_stop rights memory was h = traps trap.Illegal
stopped l p _ q at_restart rights memory was h = traps trap.Illegal
stopped l p _ q (at_call unhinted) rights memory was h = traps trap.Illegal
stopped l p _ q (at_halt cause) rights memory was h = traps trap.Illegal
stopped l p _ q at_illegal rights memory was h = traps trap.Illegal

stopped-traps : (p : ℕ) {i : Instr} → Stops i → (rights : Rights) (memory : Memory) (was : Registers) → IsTrap (effect Plain rights memory was p i)
stopped-traps p at_ebreak rights memory was = record { cause = trap.Break; trap = refl }
stopped-traps p at_gate rights memory was = record { cause = trap.Illegal; trap = refl }
stopped-traps p at_leave rights memory was = record { cause = trap.Illegal; trap = refl }
stopped-traps p (at_site rd) rights memory was = record { cause = trap.Illegal; trap = refl }
stopped-traps p (at_key rd) rights memory was = record { cause = trap.Illegal; trap = refl }
stopped-traps p at_stop rights memory was = record { cause = trap.Illegal; trap = refl }
stopped-traps p at_restart rights memory was = record { cause = trap.Illegal; trap = refl }
stopped-traps p (at_call unhinted) rights memory was = record { cause = trap.Illegal; trap = refl }
stopped-traps p (at_halt cause) rights memory was = record { cause = trap.Illegal; trap = refl }
stopped-traps p at_illegal rights memory was = record { cause = trap.Illegal; trap = refl }

pub park_leads : ParkLeads
park_leads l p _ q program is at_ebreak n _ _ _ _ m ok (h1 s) = parks (record { fault = refl; out = stopped l p _ q at_ebreak; other = λ j. stopped-traps p at_ebreak }, same) ok
park_leads l p _ q program is at_gate n _ _ _ _ m ok (h1 s) = parks (record { fault = refl; out = stopped l p _ q at_gate; other = λ j. stopped-traps p at_gate }, same) ok
park_leads l p _ q program is at_leave n _ _ _ _ m ok (h1 s) = parks (record { fault = refl; out = stopped l p _ q at_leave; other = λ j. stopped-traps p at_leave }, same) ok
park_leads l p _ q program is (at_site rd) n _ _ _ _ m ok (h1 s) = parks (record { fault = refl; out = stopped l p _ q (at_site rd); other = λ j. stopped-traps p (at_site rd) }, same) ok
park_leads l p _ q program is (at_key rd) n _ _ _ _ m ok (h1 s) = parks (record { fault = refl; out = stopped l p _ q (at_key rd); other = λ j. stopped-traps p (at_key rd) }, same) ok
park_leads l p _ q program is at_stop n _ _ _ _ m ok (h1 s) = parks (record { fault = refl; out = stopped l p _ q at_stop; other = λ j. stopped-traps p at_stop }, same) ok
park_leads l p _ q program is at_restart n _ _ _ _ m ok (h1 s) = parks (record { fault = refl; out = stopped l p _ q at_restart; other = λ j. stopped-traps p at_restart }, same) ok
park_leads l p _ q program is (at_call unhinted) n _ _ _ _ m ok (h1 s) = parks (record { fault = refl; out = stopped l p _ q (at_call unhinted); other = λ j. stopped-traps p (at_call unhinted) }, same) ok
park_leads l p _ q program is (at_halt cause) n _ _ _ _ m ok (h1 s) = parks (record { fault = refl; out = stopped l p _ q (at_halt cause); other = λ j. stopped-traps p (at_halt cause) }, same) ok
park_leads l p _ q program is at_illegal n _ _ _ _ m ok (h1 s) = parks (record { fault = refl; out = stopped l p _ q at_illegal; other = λ j. stopped-traps p at_illegal }, same) ok

pub park_starts : ParkStarts
park_starts q s t = h1 s

-- ---- the guard block

pub guard_leads : GuardLeads
guard_leads l q program n _ _ _ _ m ok (h1 s) = parks (record { fault = refl; outside = grind (arith, nat_tests) }, same) ok
