-- What the row of a shadow says of its word: some words are left, it doesn't trap, it asks for a key in a call alone, with the program's registers, and it makes a call there or at the end of a restart.
use Rattle.std.proofs.Common.{◌≡◌, ℕ, zero, suc, ◌+◌, ◌-◌, ◌^◌, ◌<◌, ◌≤◌, inl, inr, Bool, true, false, ◌&&◌, ◌==◌, lit<, ℤ, List, [], ◌∷◌, ◌++◌, slice_get, Option, Some, None, refl, ◌∙◌, ap, sym, subst, arith}
use Rattle.std.proofs.lemmas.Bool.{and_parts}
use Rattle.spec_base.specs.Word.{plus_int}
use Rattle.spec_base.specs.declared.layout.Layout.{Layout}
use Rattle.rv_decode.specs.declared.instr.Instr.{Instr}
use Rattle.rv_decode.specs.declared.instr.Instr.TheVariants.{Auipc, Jal, Jalr, Branch, Load, Store, Ecall, Hkey, Hcall}
use Rattle.rv_decode.specs.declared.instr.BranchOp.{BranchOp}
use Rattle.rv_decode.specs.declared.instr.LoadOp.{LoadOp}
use Rattle.rv_decode.specs.declared.instr.StoreOp.{StoreOp}
use Rattle.rv_model.specs.Memory.{Memory, loaded}
use Rattle.rv_model.specs.Registers.{Registers, reg}
use Rattle.rv_model.specs.Arithmetic.{load_width}
use Rattle.rv_model.specs.Space.{program_byte}
use Rattle.code_model.specs.Blocks.{block, guard_block, with_pad, jal_if, is_target, taken_word, link_spill, load_restore, access_words, store_helper, store_end}
use Rattle.code_model.specs.Assembly.{X31, ld}
use Rattle.code_model.specs.Places.{block_at}
use Rattle.own_laws.proofs.Reached.{false_true}
use Rattle.mark_laws.proofs.OneInstruction.{true_false}
use Rattle.run_model.specs.Run.{World, Run, rewritten_words}
use Rattle.run_laws.specs.OwnLaws.{Accepted}
use Rattle.run_model.specs.ShadowMoves.{fetch_shadow}
use Rattle.side_model.specs.Hart.{Regs, get, put, Priv}
use Rattle.code_model.specs.Tables.{Tabs}
use Rattle.side_model.specs.Tables.{HasTabs}
use Rattle.side_model.specs.Places.{Place, InBlock, address, Helper, Restarting, helper_words, Loading, Storing, Width, code}
use Rattle.side_model.specs.Sees.{Shade, shade_of, HasRegs}
use Rattle.run_laws.specs.Completes.{WordCompletes}
use Rattle.side_model.specs.JumpRows.{JumpRow, JumpFits, lands}
use Rattle.side_model.proofs.Fetching.{code-fetches}
use Rattle.rows_access.specs.CheckRows as check
use Rattle.rows_access.specs.CheckRows.{CheckRow}
use Rattle.rows_access.specs.LoadRows as load
use Rattle.rows_access.specs.LoadRows.{LoadRow, LoadsRow}
use Rattle.rows_access.specs.StoreRows as store
use Rattle.rows_access.specs.StoreRows.{StoreRow, StoresRow, Stage}
use Rattle.rows_access.specs.Accesses.{seen}
use Rattle.rows_access.proofs.LoadWords.{load_leads}
use Rattle.rows_access.proofs.StoreWords.{store_leads}
use Rattle.rows_flow.specs.PlainRows as plain
use Rattle.rows_flow.specs.PlainRows.{Computes, a_lui, an_imm, an_imm_w, an_op, an_op_w, a_fence, PlainRow, AuipcRow, Stops, at_ebreak, at_gate, at_leave, at_site, at_stop, at_restart, at_halt, at_illegal, ParkRow}
use Rattle.rows_flow.specs.BranchRows.{BranchRow}
use Rattle.rows_flow.specs.BranchRows as branch
use Rattle.rows_flow.specs.JalRows.{JalRow, PadRow, pad, Crosses, stays, crosses}
use Rattle.rows_flow.specs.JalRows as jal
use Rattle.rows_flow.specs.JalrRows.{JalrRow}
use Rattle.rows_flow.specs.JalrRows as jalr
use Rattle.rows_flow.proofs.PlainWords.{plain_leads, auipc_leads, park_leads, guard_leads}
use Rattle.rows_flow.proofs.BranchWords.{branch_leads}
use Rattle.rows_flow.proofs.JalWords.{jal_leads, pad_leads}
use Rattle.rows_flow.proofs.JalrWords.{jalr_leads, jump_follows}
use Rattle.rows_log.specs.RestartRows as restart
use Rattle.rows_log.specs.RestartRows.{HasBox, AreLoaded, IsFresh, RestartRow, UnboxedRow, RestartedRow}
use Rattle.rows_log.proofs.RestartWords.{restart_leads, restarted_leads}
use Rattle.shadow_laws.proofs.AnyCalls as calls
use Rattle.shadow_laws.proofs.AnyCalls.{AnyCallRow, any_call-leads, a3, b6}
use Rattle.shadow_laws.proofs.ShadowNumbers.{Sized, stock_of, program-bytes}
use Rattle.shadow_laws.proofs.Sound.{At, bare}
use Rattle.shadow_laws.proofs.SoundWords.{led-completes, crossed-completes}
use Rattle.hint_laws.proofs.Within.{Doing, does, ends, restarts, goes_to, AreSeen, known_from, BehindRow, behind, Within, computing, quartering, branching, linking, padding, going, jumping, parking, guarded, loading, storing, calling, answered, restarting, unboxing}
use Rattle.hint_laws.proofs.WithinSteps.{known-loaded, behind-leads}
use Rattle.hint_laws.proofs.Spots.{jump-some, restarted-some}

-- ---- words that are left

-- in each family of rows some are left
plain-some : {i : Instr} {q : Regs} {place : Place} {rs : Regs} {s : Priv} {t : Tabs} {n : ℕ} → PlainRow i q place rs s t n → 0 < n
plain-some (plain.w1 s) = lit< tt
plain-some _ = lit< tt

auipc-some : {rd v : ℕ} {q : Regs} {place : Place} {rs : Regs} {s : Priv} {t : Tabs} {n : ℕ} → AuipcRow rd v q place rs s t n → 0 < n
auipc-some (plain.u1 s) = lit< tt
auipc-some _ = lit< tt

branch-some : {op : BranchOp} {rs1 rs2 : ℕ} {q : Regs} {place : Place} {rs : Regs} {s : Priv} {t : Tabs} {n : ℕ} → BranchRow op rs1 rs2 q place rs s t n → 0 < n
branch-some (branch.b1 s) = lit< tt
branch-some _ = lit< tt

jal-some : {l : Layout} {p rd target : ℕ} {q : Regs} {place : Place} {rs : Regs} {s : Priv} {t : Tabs} {n : ℕ} → JalRow l p rd target q place rs s t n → 0 < n
jal-some (jal.k1 s) = lit< tt
jal-some _ = lit< tt

pad-some : {l : Layout} {p rd target : ℕ} {q : Regs} {place : Place} {rs : Regs} {s : Priv} {t : Tabs} {n : ℕ} → PadRow l p rd target q place rs s t n → 0 < n
pad-some (pad s e) = lit< tt

jalr-some : {l : Layout} {p rd rs1 : ℕ} {imm : ℤ} {q : Regs} {place : Place} {rs : Regs} {s : Priv} {t : Tabs} {n : ℕ} → JalrRow l p rd rs1 imm q place rs s t n → 0 < n
jalr-some (jalr.r1 s) = lit< tt
jalr-some _ = lit< tt

park-some : {q : Regs} {place : Place} {rs : Regs} {s : Priv} {t : Tabs} {n : ℕ} → ParkRow q place rs s t n → 0 < n
park-some (plain.h1 s) = lit< tt

check-some : {l : Layout} {h : Helper} {w : Width} {at back : ℕ} {q : Regs} {place : Place} {rs : Regs} {s : Priv} {t : Tabs} {n : ℕ} → CheckRow l h w at back q place rs s t n → 0 < n
check-some (check.c1 s) = lit< tt
check-some _ = lit< tt

load-some : {l : Layout} {p : ℕ} {op : LoadOp} {rd rs1 : ℕ} {imm : ℤ} {q : Regs} {given : Option ℕ} {place : Place} {rs : Regs} {s : Priv} {t : Tabs} {n : ℕ} → LoadRow l p op rd rs1 imm q given place rs s t n → 0 < n
load-some (load.b1 s) = lit< tt
load-some _ = lit< tt

store-some : {l : Layout} {p : ℕ} {op : StoreOp} {rs1 rs2 : ℕ} {imm : ℤ} {q : Regs} {bytes : ℕ → Option ℕ} {place : Place} {rs : Regs} {s : Priv} {t : Tabs} {stage : Stage} {n : ℕ} → StoreRow l p op rs1 rs2 imm q bytes place rs s t stage n → 0 < n
store-some (store.t21 k s may free is) = omega arith
store-some (store.t22 k s may free is bytes) = omega arith
store-some (store.t23 k s may free is) = omega arith
store-some (store.t24 k s may free is) = omega arith
store-some (store.t25 k s may free is) = omega arith
store-some _ = lit< tt

call-some : {l : Layout} {p : ℕ} {q : Regs} {place : Place} {rs : Regs} {s : Priv} {t : Tabs} {n : ℕ} → AnyCallRow l p q place rs s t n → 0 < n
call-some (calls.b1 s) = lit< tt
call-some _ = lit< tt

restart-some : {l : Layout} {site : ℕ} {q : Regs} {place : Place} {rs : Regs} {s : Priv} {t : Tabs} {n : ℕ} → RestartRow l site q place rs s t n → 0 < n
restart-some (restart.r1 s) = omega arith
restart-some (restart.r2 s) = omega arith
restart-some (restart.r3 s) = omega arith
restart-some (restart.r4 s) = omega arith
restart-some (restart.r5 s) = omega arith
restart-some (restart.r6 j s h c) = omega arith
restart-some (restart.r7 j s h c) = omega arith
restart-some (restart.r8 j s h c) = omega arith
restart-some (restart.r9 j s h c) = omega arith
restart-some (restart.r10 j s h c) = omega arith
restart-some (restart.r18-47 k s less fresh x31 loaded) = omega (arith, less)
restart-some _ = lit< tt

behind-some : {q : Regs} {place : Place} {rs : Regs} {s : Priv} {t : Tabs} {n : ℕ} → BehindRow q place rs s t n → 0 < n
behind-some (behind s) = lit< tt

-- so there are in each row
pub within-some : {w : World} {bytes : ℕ → Option ℕ} {program : Memory} {d : Doing} {h : Shade} {n : ℕ} → Within w bytes program d h n → 0 < n
within-some (computing p i q is c at) = plain-some at.row
within-some (quartering p rd imm q is f at) = auipc-some at.row
within-some (branching p op rs1 rs2 imm q is at) = branch-some at.row
within-some (linking p rd imm q is at) = jal-some at.row
within-some (padding p rd imm q words is f at) = pad-some at.row
within-some (going p rd rs1 imm q is at) = jalr-some at.row
within-some (jumping p rd rs1 imm q base words is fits at) = jump-some at.row
within-some (parking p i q is c at) = park-some at.row
within-some (guarded q at) = park-some at.row
within-some (loading p op rd rs1 imm q is at) = by_row at.row
  where
    by_row : {l : Layout} {given : Option ℕ} {place : Place} {rs : Regs} {s : Priv} {t : Tabs} {n : ℕ} → LoadsRow l p op rd rs1 imm q given place rs s t n → 0 < n
    by_row (inl row) = check-some row
    by_row (inr row) = load-some row
within-some {program = program} (storing p op rs1 rs2 imm q t0 is at) = by_row program at.row
  where
    by_row : {l : Layout} {bytes : ℕ → Option ℕ} (program : Memory) {place : Place} {rs : Regs} {s : Priv} {t : Tabs} {m : Memory} {n : ℕ} → StoresRow l p op rs1 rs2 imm q bytes program t0 place rs s t m n → 0 < n
    by_row program (inl (row, at)) = check-some row
    by_row program (inr (stage, row, at)) = store-some row
within-some (calling p q is at before) = call-some at.row
within-some (answered p answer q is at) = behind-some at.row
within-some (restarting site q base words is fits at) = restart-some at.row.0
within-some (unboxing site q base words is fits at) = restarted-some at.row

-- ---- keys and calls

-- a word that asks for no key, and makes no call
abbrev pub is_other : Option Instr → Bool
is_other None = false
is_other (Some (Hkey rd)) = false
is_other (Some (Hcall unhinted)) = false
is_other (Some i) = true

-- a row of neither a call nor RESTART is at such a word
plain-other : (l : Layout) (p : ℕ) {i : Instr} {q : Regs} {place : Place} {rs : Regs} {s : Priv} {t : Tabs} {n : ℕ} → Computes i → PlainRow i q place rs s t n → is_other (code l (block l p i) place) ≡ true
plain-other l p (a_lui rd imm) (plain.w1 s) = refl
plain-other l p (a_lui rd imm) (plain.w2 s) = refl
plain-other l p (an_imm op rd rs1 imm) (plain.w1 s) = refl
plain-other l p (an_imm op rd rs1 imm) (plain.w2 s) = refl
plain-other l p (an_imm_w op rd rs1 imm) (plain.w1 s) = refl
plain-other l p (an_imm_w op rd rs1 imm) (plain.w2 s) = refl
plain-other l p (an_op op rd rs1 rs2) (plain.w1 s) = refl
plain-other l p (an_op op rd rs1 rs2) (plain.w2 s) = refl
plain-other l p (an_op_w op rd rs1 rs2) (plain.w1 s) = refl
plain-other l p (an_op_w op rd rs1 rs2) (plain.w2 s) = refl
plain-other l p (a_fence number) (plain.w1 s) = refl
plain-other l p (a_fence number) (plain.w2 s) = refl

auipc-other : (l : Layout) (p rd : ℕ) (imm : ℤ) {v : ℕ} {q : Regs} {place : Place} {rs : Regs} {s : Priv} {t : Tabs} {n : ℕ} → AuipcRow rd v q place rs s t n → is_other (code l (block l p (Auipc rd imm)) place) ≡ true
auipc-other l p rd imm (plain.u1 s) = refl
auipc-other l p rd imm _ = refl

taken-other : (b : Bool) (l : Layout) (p t : ℕ) → is_other (Some (taken_word b l p t)) ≡ true
taken-other true l p t = refl
taken-other false l p t = refl

branch-other : (l : Layout) (p : ℕ) {op : BranchOp} {rs1 rs2 : ℕ} (imm : ℤ) {q : Regs} {place : Place} {rs : Regs} {s : Priv} {t : Tabs} {n : ℕ} → BranchRow op rs1 rs2 q place rs s t n → is_other (code l (block l p (Branch op rs1 rs2 imm)) place) ≡ true
branch-other l p imm (branch.b1 s) = refl
branch-other l p imm (branch.b2 s e) = refl
branch-other l p imm (branch.b3 s e) = taken-other (is_target l (plus_int p imm)) l p (plus_int p imm)

-- words 1 to 5 of the block of jal
jal-words-other : (b : Bool) (l : Layout) (p rd t : ℕ) → let words : List Instr = with_pad (jal_if b l p rd t) in
    (is_other (slice_get words 1) ≡ true) × (is_other (slice_get words 2) ≡ true) × (is_other (slice_get words 3) ≡ true) × (is_other (slice_get words 4) ≡ true) × (is_other (slice_get words 5) ≡ true)
jal-words-other true l p rd t = (refl, refl, refl, refl, refl)
jal-words-other false l p rd t = (refl, refl, refl, refl, refl)

jal-other : (l : Layout) (p rd : ℕ) (imm : ℤ) {q : Regs} {place : Place} {rs : Regs} {s : Priv} {t : Tabs} {n : ℕ} → JalRow l p rd (plus_int p imm) q place rs s t n → is_other (code l (block l p (Jal rd imm)) place) ≡ true
jal-other l p rd imm (jal.k1 s) = (jal-words-other (is_target l (plus_int p imm)) l p rd (plus_int p imm)).0
jal-other l p rd imm (jal.k2 s e) = (jal-words-other (is_target l (plus_int p imm)) l p rd (plus_int p imm)).1
jal-other l p rd imm (jal.k3 s e) = (jal-words-other (is_target l (plus_int p imm)) l p rd (plus_int p imm)).2
jal-other l p rd imm (jal.k4 s e) = (jal-words-other (is_target l (plus_int p imm)) l p rd (plus_int p imm)).3
jal-other l p rd imm (jal.k5 s e) = (jal-words-other (is_target l (plus_int p imm)) l p rd (plus_int p imm)).4

pad-other : {l : Layout} {p rd target : ℕ} {q : Regs} {place : Place} {rs : Regs} {s : Priv} {t : Tabs} {n : ℕ} (words : List Instr) → slice_get words 0 ≡ Some (ld 31 X31 0) → PadRow l p rd target q place rs s t n → is_other (code l words place) ≡ true
pad-other words f (pad s e) = ap is_other f

spill-other : (b : Bool) → is_other (Some (link_spill b)) ≡ true
spill-other true = refl
spill-other false = refl

jalr-other : (l : Layout) (p rd rs1 : ℕ) (imm : ℤ) {q : Regs} {place : Place} {rs : Regs} {s : Priv} {t : Tabs} {n : ℕ} → JalrRow l p rd rs1 imm q place rs s t n → is_other (code l (block l p (Jalr rd rs1 imm)) place) ≡ true
jalr-other l p rd rs1 imm (jalr.r6 s) = spill-other (rd == 31)
jalr-other l p rd rs1 imm _ = refl

jump-other : (l : Layout) (at : ℕ) (q : Regs) (base : ℕ) (words : List Instr) {place : Place} {rs : Regs} {s : Priv} {t : Tabs} {n : ℕ} → JumpFits l at q base words → JumpRow l at q place rs s t n → is_other (code l words place) ≡ true
jump-other l at q base words fits (lands s e) = ap is_other (fits.pad e)
jump-other l at q base words fits _ = refl

park-other : (l : Layout) (p : ℕ) {i : Instr} {q : Regs} {place : Place} {rs : Regs} {s : Priv} {t : Tabs} {n : ℕ} → Stops i → ParkRow q place rs s t n → is_other (code l (block l p i) place) ≡ true
park-other l p at_ebreak (plain.h1 s) = refl
park-other l p at_gate (plain.h1 s) = refl
park-other l p at_leave (plain.h1 s) = refl
park-other l p (at_site rd) (plain.h1 s) = refl
park-other l p (plain.at_key rd) (plain.h1 s) = refl
park-other l p at_stop (plain.h1 s) = refl
park-other l p at_restart (plain.h1 s) = refl
park-other l p (plain.at_call unhinted) (plain.h1 s) = refl
park-other l p (at_halt cause) (plain.h1 s) = refl
park-other l p at_illegal (plain.h1 s) = refl

guard-other : (l : Layout) {q : Regs} {place : Place} {rs : Regs} {s : Priv} {t : Tabs} {n : ℕ} → ParkRow q place rs s t n → is_other (code l guard_block place) ≡ true
guard-other l (plain.h1 s) = refl

-- the helpers that check an address
check_load-other : (l : Layout) (w v : Width) (at back : ℕ) (q : Regs) (words : List Instr) {place : Place} {rs : Regs} {s : Priv} {t : Tabs} {n : ℕ} → CheckRow l (Loading w) v at back q place rs s t n → is_other (code l words place) ≡ true
check_load-other l w v at back q words (check.c1 s) = refl
check_load-other l w v at back q words _ = refl

check_store-other : (l : Layout) (w v : Width) (at back : ℕ) (q : Regs) (words : List Instr) {place : Place} {rs : Regs} {s : Priv} {t : Tabs} {n : ℕ} → CheckRow l (Storing w) v at back q place rs s t n → is_other (code l words place) ≡ true
check_store-other l w v at back q words (check.c1 s) = refl
check_store-other l w v at back q words _ = refl

restore-other : (b : Bool) → is_other (Some (load_restore b)) ≡ true
restore-other true = refl
restore-other false = refl

load-other : (l : Layout) (p : ℕ) (op : LoadOp) (rd rs1 : ℕ) (imm : ℤ) {q : Regs} {given : Option ℕ} {place : Place} {rs : Regs} {s : Priv} {t : Tabs} {n : ℕ} → LoadsRow l p op rd rs1 imm q given place rs s t n
    → is_other (code l (block l p (Load op rd rs1 imm)) place) ≡ true
load-other l p op rd rs1 imm (inl row) = check_load-other l _ _ _ _ _ (block l p (Load op rd rs1 imm)) row
load-other l p op rd rs1 imm (inr row) = by_row row
  where
    by_row : {q : Regs} {given : Option ℕ} {place : Place} {rs : Regs} {s : Priv} {t : Tabs} {n : ℕ} → LoadRow l p op rd rs1 imm q given place rs s t n → is_other (code l (block l p (Load op rd rs1 imm)) place) ≡ true
    by_row (load.b8 v s may known) = restore-other (rd == 31)
    by_row _ = refl

-- words 6 to 10 of the block of a store
end-other : (b : Bool) (op : StoreOp) (rs1 rs2 : ℕ) (imm : ℤ) → let words : List Instr = with_pad (access_words (store_helper op) rs1 imm ++ store_end b op rs2) in
    (is_other (slice_get words 6) ≡ true) × (is_other (slice_get words 7) ≡ true) × (is_other (slice_get words 8) ≡ true) × (is_other (slice_get words 9) ≡ true) × (is_other (slice_get words 10) ≡ true)
end-other true op rs1 rs2 imm = (refl, refl, refl, refl, refl)
end-other false op rs1 rs2 imm = (refl, refl, refl, refl, refl)

store-other : (l : Layout) (p : ℕ) (op : StoreOp) (rs1 rs2 : ℕ) (imm : ℤ) (program : Memory) (t0 : Tabs) {q : Regs} {bytes : ℕ → Option ℕ} {place : Place} {rs : Regs} {s : Priv} {t : Tabs} {m : Memory} {n : ℕ}
    → StoresRow l p op rs1 rs2 imm q bytes program t0 place rs s t m n → is_other (code l (block l p (Store op rs1 rs2 imm)) place) ≡ true
store-other l p op rs1 rs2 imm program t0 (inl (row, stage)) = check_store-other l _ _ _ _ _ (block l p (Store op rs1 rs2 imm)) row
store-other l p op rs1 rs2 imm program t0 (inr (stage, row, at)) = by_row row
  where
    by_row : {q : Regs} {bytes : ℕ → Option ℕ} {place : Place} {rs : Regs} {s : Priv} {t : Tabs} {stage : Stage} {n : ℕ} → StoreRow l p op rs1 rs2 imm q bytes place rs s t stage n → is_other (code l (block l p (Store op rs1 rs2 imm)) place) ≡ true
    by_row (store.b6 s may some) = (end-other (rs2 == 31) op rs1 rs2 imm).0
    by_row (store.b7 s may some e) = (end-other (rs2 == 31) op rs1 rs2 imm).1
    by_row (store.b8 s may some e) = (end-other (rs2 == 31) op rs1 rs2 imm).2
    by_row (store.b9 s may some e) = (end-other (rs2 == 31) op rs1 rs2 imm).3
    by_row (store.x7 s may some e) = (end-other (rs2 == 31) op rs1 rs2 imm).1
    by_row (store.x8 s may some e) = (end-other (rs2 == 31) op rs1 rs2 imm).2
    by_row (store.x9 s may some e) = (end-other (rs2 == 31) op rs1 rs2 imm).3
    by_row (store.x10 s may some e) = (end-other (rs2 == 31) op rs1 rs2 imm).4
    by_row _ = refl

-- the arguments of a call
abbrev SameArguments : Regs → Regs → Type 0
SameArguments rs q = (get 10 rs ≡ get 10 q) × (get 11 rs ≡ get 11 q) × (get 12 rs ≡ get 12 q) × (get 17 rs ≡ get 17 q)

-- what a row of a call says there: HKEY has the program's arguments, and HCALL, which is word 6, all its registers
data CallGate (word : Option Instr) (place : Place) (rs q : Regs) : Type 0 where
  at_key : (rd : ℕ) → word ≡ Some (Hkey rd) → SameArguments rs q → CallGate word place rs q
  at_call : word ≡ Some (Hcall false) → place ≡ InBlock 6 → rs ≡ q → CallGate word place rs q

call-gates : (l : Layout) (p : ℕ) {q : Regs} {place : Place} {rs : Regs} {s : Priv} {t : Tabs} {n : ℕ} → AnyCallRow l p q place rs s t n → is_other (code l (block l p Ecall) place) ≡ false → CallGate (code l (block l p Ecall) place) place rs q
call-gates l p (a3 s) e = at_key 31 refl (refl, refl, refl, refl)
call-gates l p (b6 s) e = at_call refl refl refl
call-gates l p _ e = true_false e

-- what is so at such a word, in the block at base, of the hart's registers, for those at word 1, and of its pc
pub data Asks (gate : Instr) (base pc : ℕ) (rs : Registers) (q : Regs) : Type 0 where
  key : (rd : ℕ) → gate ≡ Hkey rd → reg rs 10 ≡ get 10 q → reg rs 11 ≡ get 11 q → reg rs 12 ≡ get 12 q → reg rs 17 ≡ get 17 q → Asks gate base pc rs q
  call : gate ≡ Hcall false → pc ≡ base + 24 → HasRegs rs q → Asks gate base pc rs q

-- the words of a list up to a number are others
abbrev first-others : ℕ → List Instr → Bool
first-others zero words = true
first-others (suc n) [] = false
first-others (suc n) (i ∷ words) = is_other (Some i) && first-others n words

-- so each of them is
other-each : (n : ℕ) (words : List Instr) → first-others n words ≡ true → (k : ℕ) → k < n → is_other (slice_get words k) ≡ true
other-each zero words h k less = absurd (omega (arith, less))
other-each (suc n) [] h k less = false_true h
other-each (suc n) (i ∷ words) h zero less = (and_parts (is_other (Some i)) (first-others n words) h).0
other-each (suc n) (i ∷ words) h (suc k) less = other-each n words (and_parts (is_other (Some i)) (first-others n words) h).1 k (omega (arith, less))

-- what a row of RESTART says at its HCALL: what comes from the box is loaded, and no region has a copy
data RestartGate (l : Layout) (site : ℕ) (q : Regs) (word : Option Instr) (rs : Regs) (s : Priv) (t : Tabs) : Type 0 where
  at_end : word ≡ Some (Hcall true) → AreLoaded 30 q rs → IsFresh l t → s.x31 ≡ q.x31 → s.adr ≡ site + 4 → RestartGate l site q word rs s t

restart-gates : (l : Layout) (site : ℕ) (words : List Instr) {q : Regs} {place : Place} {rs : Regs} {s : Priv} {t : Tabs} {n : ℕ} → RestartRow l site q place rs s t n → is_other (code l words place) ≡ false
    → RestartGate l site q (code l words place) rs s t
restart-gates l site words (restart.r48 s fresh loaded) e = at_end refl loaded fresh refl refl
restart-gates l site words (restart.r18-47 k s less fresh x31 loaded) e = true_false (sym (other-each 47 (helper_words l Restarting) refl (17 + k) (omega (arith, less))) ∙ e)
restart-gates l site words _ e = true_false e

-- the words behind an HCALL are others
behind-other : (l : Layout) (p : ℕ) {q : Regs} {place : Place} {rs : Regs} {s : Priv} {t : Tabs} {n : ℕ} → BehindRow q place rs s t n → is_other (code l (block l p Ecall) place) ≡ true
behind-other l p (behind s) = refl

restarted-other : (l : Layout) (site : ℕ) (q : Regs) (base : ℕ) (words : List Instr) {place : Place} {rs : Regs} {s : Priv} {t : Tabs} {n : ℕ} → JumpFits l (site + 4) q base words → RestartedRow l site q place rs s t n → is_other (code l words place) ≡ true
restarted-other l site q base words fits (inl row) = by_row row
  where
    by_row : {place : Place} {rs : Regs} {s : Priv} {t : Tabs} {n : ℕ} → UnboxedRow l site q place rs s t n → is_other (code l words place) ≡ true
    by_row (restart.r49 s) = refl
    by_row (restart.r50 s) = refl
restarted-other l site q base words fits (inr row) = jump-other l (site + 4) q base words fits row

-- what is so of a run whose shadow is at the HCALL of RESTART, with this site and these registers in the box
pub record Unboxes (l : Layout) (site : ℕ) (q : Regs) (gate : Instr) (r : Run) : Type 0 where
  pub unhinted : gate ≡ Hcall true
  pub registers : (i : ℕ) → i ≤ 30 → reg r.shadow.registers i ≡ get i q
  pub x31 : loaded r.shadow_page (2 ^ 64 - 8) 8 ≡ q.x31
  pub adr : loaded r.shadow_page (2 ^ 64 - 40) 8 ≡ site + 4
  pub tables : Tabs
  pub has : HasTabs l r.shared tables
  pub fresh : IsFresh l tables

-- such a word is one of a call, or the HCALL of RESTART
abbrev pub AsksIn : Layout → Instr → Run → Doing → Type 0
AsksIn l word r (does p i q) = (i ≡ Ecall) × Asks word (block_at l p) r.shadow.pc r.shadow.registers q
AsksIn l word r (ends q) = ⊥
AsksIn l word r (restarts site q) = Unboxes l site q word r
AsksIn l word r (goes_to to q) = ⊥

module _ (w : World) (r : Run) (gate : Instr) (word : fetch_shadow w r.shadow.pc ≡ Some gate) (is_gate : is_other (Some gate) ≡ false) where
  -- the word at a row is the row's
  same-word : {base : ℕ} {words : List Instr} {Row : Place → Regs → Priv → Tabs → Memory → ℕ → Type 0} {n : ℕ} (at : At w base words Row (shade_of r) n) (i : Instr) → code w.image.layout words at.point.place ≡ Some i → gate ≡ i
  same-word {base} {words} at i e =
      let f : fetch_shadow w r.shadow.pc ≡ Some i = ap (fetch_shadow w) at.shown.pc ∙ (code-fetches w base words at.point.place i at.code e).word in
      let same : Some gate ≡ Some i = sym word ∙ f in cc

  gated : {base : ℕ} {words : List Instr} {Row : Place → Regs → Priv → Tabs → Memory → ℕ → Type 0} {n : ℕ} (at : At w base words Row (shade_of r) n) (o : Option Instr) → code w.image.layout words at.point.place ≡ o → is_other o ≡ true → ⊥
  gated at None e h = false_true h
  gated at (Some i) e h = false_true (sym is_gate ∙ ap (λ (x : Instr). is_other (Some x)) (same-word at i e) ∙ h)

  -- so it can't be another
  other : {A : Type 0} {base : ℕ} {words : List Instr} {Row : Place → Regs → Priv → Tabs → Memory → ℕ → Type 0} {n : ℕ} (at : At w base words Row (shade_of r) n) → is_other (code w.image.layout words at.point.place) ≡ true → A
  other {words = words} at h = absurd (gated at (code w.image.layout words at.point.place) refl h)

  -- in a call
  called : {p : ℕ} {q : Regs} {n : ℕ} → At w (block_at w.image.layout p) (block w.image.layout p Ecall) (bare (AnyCallRow w.image.layout p q)) (shade_of r) n → Asks gate (block_at w.image.layout p) r.shadow.pc r.shadow.registers q
  called {p} {q} at = by_test (is_other (code w.image.layout (block w.image.layout p Ecall) at.point.place)) refl
    where
      by_gate : CallGate (code w.image.layout (block w.image.layout p Ecall) at.point.place) at.point.place at.point.regs q → Asks gate (block_at w.image.layout p) r.shadow.pc r.shadow.registers q
      by_gate (at_key rd e same) = key rd (same-word at (Hkey rd) e) (at.shown.regs.at 10 ∙ same.0) (at.shown.regs.at 11 ∙ same.1) (at.shown.regs.at 12 ∙ same.2) (at.shown.regs.at 17 ∙ same.3)
      by_gate (at_call e sixth same) = call (same-word at (Hcall false) e) (at.shown.pc ∙ ap (address (block_at w.image.layout p)) sixth) (subst (λ (rs : Regs). HasRegs r.shadow.registers rs) same at.shown.regs)

      by_test : (b : Bool) → is_other (code w.image.layout (block w.image.layout p Ecall) at.point.place) ≡ b → Asks gate (block_at w.image.layout p) r.shadow.pc r.shadow.registers q
      by_test true e = other at e
      by_test false e = by_gate (call-gates w.image.layout p at.row e)

  -- in RESTART
  unboxes : {site : ℕ} {q : Regs} {base : ℕ} {words : List Instr} {n : ℕ} → At w base words (λ place rs s t m k. RestartRow w.image.layout site q place rs s t k × HasBox m site q) (shade_of r) n → Unboxes w.image.layout site q gate r
  unboxes {site} {q} {base} {words} at = by_test (is_other (code w.image.layout words at.point.place)) refl
    where
      by_gate : RestartGate w.image.layout site q (code w.image.layout words at.point.place) at.point.regs at.point.priv at.point.tabs → Unboxes w.image.layout site q gate r
      by_gate (at_end e loaded fresh x31 adr) =
          record {
            unhinted = same-word at (Hcall true) e;
            registers = λ i few. at.shown.regs.at i ∙ loaded i few;
            x31 = at.shown.priv.x31 ∙ x31;
            adr = at.shown.priv.adr ∙ adr;
            tables = at.point.tabs;
            has = at.shown.tabs;
            fresh = fresh;
          }

      by_test : (b : Bool) → is_other (code w.image.layout words at.point.place) ≡ b → Unboxes w.image.layout site q gate r
      by_test true e = other at e
      by_test false e = by_gate (restart-gates w.image.layout site words at.row.0 e)

  -- a key is asked for in a call alone, and a call made there or in RESTART
  pub within-asks : {bytes : ℕ → Option ℕ} {program : Memory} {d : Doing} {n : ℕ} → Within w bytes program d (shade_of r) n → AsksIn w.image.layout gate r d
  within-asks (computing p i q is c at) = other at (plain-other w.image.layout p c at.row)
  within-asks (quartering p rd imm q is f at) = other at (auipc-other w.image.layout p rd imm at.row)
  within-asks (branching p op rs1 rs2 imm q is at) = other at (branch-other w.image.layout p imm at.row)
  within-asks (linking p rd imm q is at) = other at (jal-other w.image.layout p rd imm at.row)
  within-asks (padding p rd imm q words is f at) = other at (pad-other words f at.row)
  within-asks (going p rd rs1 imm q is at) = other at (jalr-other w.image.layout p rd rs1 imm at.row)
  within-asks (jumping p rd rs1 imm q base words is fits at) = other at (jump-other w.image.layout (plus_int (get rs1 q) imm) (put rd (p + 4) q) base words fits at.row)
  within-asks (parking p i q is c at) = other at (park-other w.image.layout p c at.row)
  within-asks (guarded q at) = other at (guard-other w.image.layout at.row)
  within-asks (loading p op rd rs1 imm q is at) = other at (load-other w.image.layout p op rd rs1 imm at.row)
  within-asks {program = program} (storing p op rs1 rs2 imm q t0 is at) = other at (store-other w.image.layout p op rs1 rs2 imm program t0 at.row)
  within-asks (calling p q is at before) = (refl, called at)
  within-asks (answered p answer q is at) = other at (behind-other w.image.layout p at.row)
  within-asks (restarting site q base words is fits at) = unboxes at
  within-asks (unboxing site q base words is fits at) = other at (restarted-other w.image.layout site q base words (record { lawful = fits.lawful; small = fits.small; place = fits.place; pad = fits.pad }) at.row)

-- ---- traps

module _ (w : World) (a : Accepted w) (r : Run) (z : Sized (stock_of r)) (bytes : ℕ → Option ℕ) where
  abbrev l : Layout
  l = w.image.layout

  abbrev program : Memory
  program = program_byte l (rewritten_words w) r.own.memory

  -- each word completes; a load wants that the known bytes are seen
  pub within-completes : {d : Doing} {n : ℕ} → ((p rd rs1 : ℕ) (op : LoadOp) (imm : ℤ) (q : Regs) → d ≡ does p (Load op rd rs1 imm) q → AreSeen l bytes program r.shared) → Within w bytes program d (shade_of r) n → WordCompletes w r
  within-completes {n = n} sees (computing p i q is c at) = led-completes w a r at (plain_leads l p i q program is c n at.point.place at.point.regs at.point.priv at.point.tabs r.shared at.ok at.row)
  within-completes {n = n} sees (quartering p rd imm q is f at) = led-completes w a r at (auipc_leads l p rd imm q program is f n at.point.place at.point.regs at.point.priv at.point.tabs r.shared at.ok at.row)
  within-completes {n = n} sees (branching p op rs1 rs2 imm q is at) = led-completes w a r at (branch_leads l p op rs1 rs2 imm q program is n at.point.place at.point.regs at.point.priv at.point.tabs r.shared at.ok at.row)
  within-completes {n = n} sees (linking p rd imm q is at) = crossed-completes w a r p rd imm q n at (jal_leads l p rd imm q program is n at.point.place at.point.regs at.point.priv at.point.tabs r.shared at.ok at.row)
  within-completes {n = n} sees (padding p rd imm q words is f at) = led-completes w a r at (pad_leads l p rd imm q words program is f n at.point.place at.point.regs at.point.priv at.point.tabs r.shared at.ok at.row)
  within-completes {n = n} sees (going p rd rs1 imm q is at) = led-completes w a r at (jalr_leads l p rd rs1 imm q program is n at.point.place at.point.regs at.point.priv at.point.tabs r.shared at.ok at.row)
  within-completes {n = n} sees (jumping p rd rs1 imm q base words is fits at) = led-completes w a r at (jump_follows l p rd rs1 imm q base words program is fits n at.point.place at.point.regs at.point.priv at.point.tabs r.shared at.ok at.row)
  within-completes {n = n} sees (parking p i q is c at) = led-completes w a r at (park_leads l p i q program is c n at.point.place at.point.regs at.point.priv at.point.tabs r.shared at.ok at.row)
  within-completes {n = n} sees (guarded q at) = led-completes w a r at (guard_leads l q program n at.point.place at.point.regs at.point.priv at.point.tabs r.shared at.ok at.row)
  within-completes {n = n} sees (loading p op rd rs1 imm q is at) =
      let given : Option ℕ = known_from bytes (plus_int (get rs1 q) imm) (load_width op) in
      led-completes w a r at
      (load_leads l p op rd rs1 imm q given program is n at.point.place at.point.regs at.point.priv at.point.tabs r.shared at.ok
      (λ e. known-loaded bytes (seen at.point.tabs r.shared program) (sees p rd rs1 op imm q refl at.point.tabs at.shown.tabs) (plus_int (get rs1 q) imm) (load_width op)) at.row)
  within-completes {n = n} sees (storing p op rs1 rs2 imm q t0 is at) =
      led-completes w a r at (store_leads l p op rs1 rs2 imm q bytes program t0 is (λ b v e c g h. program-bytes l (rewritten_words w) r.own.memory z.own_memory c) n at.point.place at.point.regs at.point.priv at.point.tabs r.shared at.ok at.row)
  within-completes {n = n} sees (calling p q is at before) = led-completes w a r at (any_call-leads l p q program is r.shared at.ok at.row)
  within-completes {n = n} sees (answered p answer q is at) = led-completes w a r at (behind-leads w r p answer q is at)
  within-completes {n = n} sees (restarting site q base words is fits at) =
      led-completes w a r at (restart_leads l site q base words program is n at.point.place at.point.regs at.point.priv at.point.tabs r.shared at.ok at.row.1 at.row.0)
  within-completes {n = n} sees (unboxing site q base words is fits at) =
      led-completes w a r at (restarted_leads l site q base words program is fits n at.point.place at.point.regs at.point.priv at.point.tabs r.shared at.ok at.row)
