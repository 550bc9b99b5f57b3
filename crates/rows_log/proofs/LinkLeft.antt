-- A word of the shadow that is no store through a register leaves the link, and most words are none.
use Rattle.std.proofs.Common.{◌≡◌, ℕ, zero, suc, ◌%◌, Bool, true, false, not, ◌&&◌, ◌==◌, List, [], ◌∷◌, Some, None, refl, subst, sym}
use Rattle.spec_base.specs.Word.{plus_int}
use Rattle.spec_base.specs.declared.layout.Layout.{Layout}
use Rattle.spec_base.specs.declared.machine.View.TheVariants.{Shadow}
use Rattle.spec_base.specs.declared.note.ShadowState.{ShadowState}
use Rattle.spec_base.specs.declared.note.ShadowState.TheVariants.{Never, Running, Stopped, Parked}
use Rattle.rv_decode.specs.declared.instr.Instr.{Instr}
use Rattle.rv_decode.specs.declared.instr.Instr.TheVariants.{Lui, Auipc, Jal, Jalr, Branch, Load, Store, OpImm, OpImmW, Op, OpW, Fence, Ecall, Ebreak, Hgate, Hleave, Hsite, Hkey, Hstop, Hrestart, Hcall, Hpark, Illegal}
use Rattle.rv_decode.specs.declared.instr.LoadOp.{LoadOp}
use Rattle.rv_model.specs.Memory.{Memory}
use Rattle.rv_model.specs.Registers.{Registers, reg}
use Rattle.rv_model.specs.Rights.{in_private, shadow_rights}
use Rattle.rv_model.specs.Arithmetic.{store_width, is_taken}
use Rattle.rv_model.specs.Effect.{Effect, effect, jump_if, branch_if, load_if, store_if}
use Rattle.run_model.specs.Run.{World, Run, Answer}
use Rattle.run_model.specs.ShadowMoves.{shadow_in, shadow_after, shadow_stores, shadow_plan, fetch_shadow}
use Rattle.side_model.specs.Places.{Helper, Loading, Storing, Jumping, LoadTail, StoreTail, Appending, Restarting, Faulting, FullUp, LogFullUp, W1, W2, W4, W8, helper_words}
use Rattle.side_model.specs.Sees.{Shade}
use Rattle.rows_log.specs.Queue.{LeavesLink}
use Rattle.rows_log.specs.LinkWords.{stores_out, NoneStores, has_stores, HelpersStoreNot, WordsLeaveLink}
use Rattle.rows_log.proofs.CallsLeave.{calls-leave_link}
use Rattle.side_model.proofs.Stepping.{shade-step}

-- ---- words

-- none of these words stores
abbrev none_stores : List Instr → Bool
none_stores [] = true
none_stores (i ∷ is) = not (stores_out i) && none_stores is

-- so each of them doesn't
none-each : (words : List Instr) → none_stores words ≡ true → NoneStores words
none-each [] h n i e = absurd (no e)
  where
    no : None ≡ Some i → ⊥
    no e = cc
none-each (x ∷ words) h zero i e = let is : x ≡ i = cc in subst (λ (j : Instr). stores_out j ≡ false) is (first (stores_out x) (none_stores words) h)
  where
    first : (b c : Bool) → (not b && c) ≡ true → b ≡ false
    first false c h = refl
    first true c h = absurd (no h)
      where
        no : false ≡ true → ⊥
        no e = cc
none-each (x ∷ words) h (suc n) i e = none-each words (rest (stores_out x) (none_stores words) h) n i e
  where
    rest : (b c : Bool) → (not b && c) ≡ true → c ≡ true
    rest false c h = h
    rest true c h = absurd (no h)
      where
        no : false ≡ true → ⊥
        no e = cc

-- ---- blocks with a choice

-- ---- statements on words

helper-none : (l : Layout) (h : Helper) → has_stores h ≡ false → none_stores (helper_words l h) ≡ true
helper-none l (Loading W1) e = refl
helper-none l (Loading W2) e = refl
helper-none l (Loading W4) e = refl
helper-none l (Loading W8) e = refl
helper-none l (Storing W1) e = refl
helper-none l (Storing W2) e = refl
helper-none l (Storing W4) e = refl
helper-none l (Storing W8) e = refl
helper-none l Jumping e = refl
helper-none l LoadTail e = refl
helper-none l StoreTail e = absurd (no e)
  where
    no : true ≡ false → ⊥
    no e = cc
helper-none l Appending e = absurd (no e)
  where
    no : true ≡ false → ⊥
    no e = cc
helper-none l Restarting e = absurd (no e)
  where
    no : true ≡ false → ⊥
    no e = cc
helper-none l Faulting e = refl
helper-none l FullUp e = refl
helper-none l LogFullUp e = refl

pub helpers-store_not : HelpersStoreNot
helpers-store_not l h e = none-each (helper_words l h) (helper-none l h e)

-- ---- runs

module _ (w : World) (x : Answer) (r : Run) where
  abbrev Leaves : Effect → Type 0
  Leaves e = LeavesLink r.shared (shadow_after w x r e).shared

  same : LeavesLink r.shared r.shared
  same a h = refl

  jump-leaves : (b : Bool) (rs : Registers) (target : ℕ) → Leaves (jump_if b rs target)
  jump-leaves true rs target = same
  jump-leaves false rs target = same

  branch-leaves : (b : Bool) (rs : Registers) (pc target : ℕ) → Leaves (branch_if b rs pc target)
  branch-leaves true rs pc target = jump-leaves (target % 4 == 0) rs target
  branch-leaves false rs pc target = same

  load-leaves : (b c : Bool) (m : Memory) (op : LoadOp) (rs : Registers) (pc rd a : ℕ) → Leaves (load_if b c m op rs pc rd a)
  load-leaves false c m op rs pc rd a = same
  load-leaves true false m op rs pc rd a = same
  load-leaves true true m op rs pc rd a = same

  -- a store to the private page
  store-leaves : (b c : Bool) (a width v : ℕ) → not (in_private a) ≡ false → Leaves (store_if b c a width v)
  store-leaves false c a width v h = same
  store-leaves true false a width v h = same
  store-leaves true true a width v h = by_test (in_private a) h
    where
      by_test : (b : Bool) → not b ≡ false → LeavesLink r.shared (shadow_stores b r a width v).shared
      by_test true h = same
      by_test false h = absurd (no h)
        where
          no : true ≡ false → ⊥
          no e = cc

  module _ (m : Memory) (rs : Registers) (pc : ℕ) where
    -- each instruction
    instr-leaves : (i : Instr) → stores_out i ≡ false → Leaves (effect Shadow (shadow_rights w.image.layout) m rs pc i)
    instr-leaves (Lui rd imm) h = same
    instr-leaves (Auipc rd imm) h = same
    instr-leaves (Jal rd imm) h = jump-leaves _ _ _
    instr-leaves (Jalr rd rs1 imm) h = jump-leaves _ _ _
    instr-leaves (Branch op rs1 rs2 imm) h = branch-leaves (is_taken op (reg rs rs1) (reg rs rs2)) rs pc (plus_int pc imm)
    instr-leaves (Load op rd rs1 imm) h = load-leaves _ _ _ _ _ _ _ _
    instr-leaves (Store op zero rs2 imm) h = store-leaves _ _ (plus_int 0 imm) (store_width op) (reg rs rs2) h
    instr-leaves (Store op (suc n) rs2 imm) h = absurd (no h)
      where
        no : true ≡ false → ⊥
        no e = cc
    instr-leaves (OpImm op rd rs1 imm) h = same
    instr-leaves (OpImmW op rd rs1 imm) h = same
    instr-leaves (Op op rd rs1 rs2) h = same
    instr-leaves (OpW op rd rs1 rs2) h = same
    instr-leaves (Fence word) h = same
    instr-leaves Ecall h = same
    instr-leaves Ebreak h = same
    instr-leaves Hgate h = same
    instr-leaves Hleave h = same
    instr-leaves (Hsite rd) h = same
    instr-leaves (Hkey rd) h = same
    instr-leaves Hstop h = same
    instr-leaves Hrestart h = same
    instr-leaves (Hcall unhinted) h = calls-leave_link w x r unhinted (shadow_plan w r)
    instr-leaves (Hpark cause) h = same
    instr-leaves Illegal h = same

  -- in each state
  state-leaves : (s : ShadowState) → r.shadow.state ≡ s → (i : Instr) → fetch_shadow w r.shadow.pc ≡ Some i → stores_out i ≡ false → LeavesLink r.shared (shadow_in s w x r).shared
  state-leaves Running z i e h =
      subst (λ (s : ShadowState). LeavesLink r.shared (shadow_in s w x r).shared) z
      (subst (λ (y : Shade). LeavesLink r.shared y.shared) (sym (shade-step w x r i z e)) (instr-leaves _ _ _ i h))
  state-leaves Never z i e h = same
  state-leaves Stopped z i e h = same
  state-leaves (Parked cause) z i e h = same

pub words-leave_link : WordsLeaveLink
words-leave_link w x r i e h = state-leaves w x r r.shadow.state refl i e h
