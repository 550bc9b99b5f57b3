-- Words that may store to what the shadow shares: of the helpers those of STAIL, APPEND and RESTART (this project's own).
use Rattle.std.specs.Prelude.{ℕ, zero, suc, ◌≡◌, Bool, true, false, not, List, slice_get, Some}
use Rattle.spec_base.specs.Word.{plus_int}
use Rattle.spec_base.specs.declared.layout.Layout.{Layout}
use Rattle.rv_decode.specs.declared.instr.Instr.{Instr}
use Rattle.rv_decode.specs.declared.instr.Instr.TheVariants.{Store}
use Rattle.rv_model.specs.Rights.{in_private}
use Rattle.run_model.specs.Run.{World, Run, Answer}
use Rattle.run_model.specs.ShadowMoves.{fetch_shadow, shadow_step}
use Rattle.side_model.specs.Places.{Helper, StoreTail, Appending, Restarting, helper_words}
use Rattle.rows_log.specs.Queue.{LeavesLink}

-- a store through a register may go there; one through x0 goes to the private page, where its offset is one of that
abbrev pub stores_out : Instr → Bool
stores_out (Store op zero rs2 imm) = not (in_private (plus_int 0 imm))
stores_out (Store op (suc rs1) rs2 imm) = true
stores_out _ = false

-- none of these words is such a store
abbrev pub NoneStores : List Instr → Type 0
NoneStores words = (n : ℕ) (i : Instr) → slice_get words n ≡ Some i → stores_out i ≡ false

-- a helper that stores to what the shadow shares
abbrev pub has_stores : Helper → Bool
has_stores StoreTail = true
has_stores Appending = true
has_stores Restarting = true
has_stores _ = false

-- ---- statements

-- no helper has one but STAIL, APPEND and RESTART
abbrev pub HelpersStoreNot : Type 0
HelpersStoreNot = (l : Layout) (h : Helper) → has_stores h ≡ false → NoneStores (helper_words l h)

-- in each run every other word leaves the link
abbrev pub WordsLeaveLink : Type 0
WordsLeaveLink =
    (w : World) (x : Answer) (r : Run) (i : Instr) → fetch_shadow w r.shadow.pc ≡ Some i → stores_out i ≡ false → LeavesLink r.shared (shadow_step w x r).shared
