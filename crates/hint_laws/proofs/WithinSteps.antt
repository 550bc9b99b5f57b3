-- Each word of a shadow that follows the program leads to a row of what it is doing, to the next block, or to a park, and what it leaves of what is shared.
use Rattle.std.proofs.Common.{◌≡◌, ℕ, zero, suc, ◌+◌, ◌*◌, ◌/◌, ◌%◌, ◌<◌, ◌⊎◌, inl, inr, Bool, true, false, ◌&&◌, ◌==◌, nat_lt, nat_le, lit<, ℤ, List, Option, Some, None, refl, ◌∙◌, ap, sym, subst, arith}
use Rattle.std.proofs.lemmas.Bool.Decides.{nat_tests}
use Rattle.spec_base.specs.Word.{plus_int, word_of_int}
use Rattle.spec_base.specs.Layout.{table_start, helpers_start}
use Rattle.spec_base.specs.declared.layout.Layout.{Layout}
use Rattle.spec_base.specs.declared.note.ShadowState.TheVariants.{Parked}
use Rattle.spec_base.specs.declared.park.Park.{Park}
use Rattle.spec_base.specs.declared.park.Park.TheVariants as park
use Rattle.rv_decode.specs.declared.instr.Instr.{Instr}
use Rattle.rv_decode.specs.declared.instr.Instr.TheVariants.{Lui, Auipc, Jal, Jalr, Branch, Load, Store, OpImm, OpImmW, Op, OpW, Fence, Ecall, Ebreak, Hgate, Hleave, Hsite, Hkey, Hstop, Hrestart, Hcall, Hpark, Illegal}
use Rattle.rv_decode.specs.declared.instr.LoadOp.{LoadOp}
use Rattle.rv_decode.specs.declared.instr.StoreOp.{StoreOp}
use Rattle.rv_model.specs.Memory.{Memory, loaded}
use Rattle.rv_model.specs.Arithmetic.{load_width}
use Rattle.rv_model.specs.Rights.{in_text}
use Rattle.rv_model.specs.Space.{program_byte, text_byte}
use Rattle.rv_model.proofs.Results.{Bytes, wrap-small}
use Rattle.code_model.specs.Blocks.{block}
use Rattle.code_model.specs.Places.{block_at}
use Rattle.code_model.specs.Regions.{entry_of, slots_in_use}
use Rattle.run_model.specs.Run.{World, Run, Answer, rewritten_words}
use Rattle.run_model.specs.ShadowMoves.{shadow_step, fetch_shadow, is_call_word}
use Rattle.run_laws.specs.HintLaws.{is_ecall}
use Rattle.run_laws.specs.OwnLaws.{Accepted}
use Rattle.own_laws.proofs.Reached.{false_true}
use Rattle.side_model.specs.Hart.{Regs, get, put, Priv}
use Rattle.code_model.specs.Tables.{Tabs, TableOk, all_regions}
use Rattle.side_model.specs.Tables.{HasTabs}
use Rattle.side_model.specs.Places.{Place, InBlock, InHelper, Away, Jumping, address, is_inner, code, IsBase, HasBlock, IsInstruction}
use Rattle.side_model.specs.Words.{Point, Out, Goes, Loads, Stores, Keys, Calls, Parks, Fails, exec, exec_some}
use Rattle.side_model.specs.Rows as led
use Rattle.side_model.specs.Rows.{Led, on, leaps, calls}
use Rattle.side_model.specs.Sees.{Shade, shade_of, Sees, HasRegs, Landed, goes_on, arrived, parked}
use Rattle.side_model.specs.JumpRows.{JumpRow}
use Rattle.side_model.proofs.Fetching.{Fetches, code-fetches}
use Rattle.rows_access.specs.Accesses.{Allows, seen, AccessFaults, load_size, store_size}
use Rattle.rows_access.specs.LoadRows.{LoadArrives}
use Rattle.rows_access.specs.StoreRows.{Stage, Before, Copying, Listed, Counting, Found, After, AtStage, StoresRow, StoreArrives, StoreParks, faults, full_up}
use Rattle.rows_access.proofs.Reach.{reached}
use Rattle.rows_access.proofs.LoadWords.{load_leads}
use Rattle.rows_access.proofs.StoreWords.{store_leads}
use Rattle.rows_flow.specs.Following.{FlowArrives, FlowFaults, Follows}
use Rattle.rows_flow.specs.PlainRows as plain
use Rattle.rows_flow.specs.PlainRows.{GuardFaults, Computes, a_lui, an_imm, an_imm_w, an_op, an_op_w, a_fence, at_ebreak, at_gate, at_leave, at_site, at_key, at_stop, at_restart, at_call, at_halt, at_illegal, ParkRow, h1}
use Rattle.rows_flow.specs.JalRows.{JalRow, PadRow, pad, Crosses, stays, crosses}
use Rattle.rows_flow.specs.JalrRows.{JalrsRow}
use Rattle.rows_flow.proofs.PlainWords.{plain_leads, auipc_leads, park_leads, guard_leads}
use Rattle.rows_flow.proofs.BranchWords.{branch_leads}
use Rattle.rows_flow.proofs.JalWords.{jal_leads, pad_leads}
use Rattle.rows_flow.proofs.JalrWords.{jalr_leads, jump_follows}
use Rattle.rows_log.specs.CallRows.{CallArrives}
use Rattle.rows_log.specs.RestartRows.{is_hcall, RestartRow, r1, r2, r3, r4, r5, r6, r7, r8, r9, r10, r11, r12, r13, r14, r15, r16, r17, r18-47, r48, AreLoaded, IsFresh, IsAnswered, RestartNext, word, call, RestartedRow, UnboxedRow, r49, r50}
use Rattle.rows_log.proofs.CallWords.{called_arrives}
use Rattle.rows_log.proofs.RestartWords.{restart_leads, restarted_leads, box_stays}
use Rattle.shadow_laws.proofs.AnyCalls as any
use Rattle.shadow_laws.proofs.AnyCalls.{AnyCallRow, AnyCallNext, LeavesTables, is_sixth, is_seventh, at-call, any_call-leads}
use Rattle.shadow_laws.proofs.ShadowNumbers.{Sized, stock_of}
use Rattle.shadow_laws.proofs.Sound.{At, bare, is_helper, jump-place, Target, target-of, pad-target}
use Rattle.shadow_laws.proofs.SoundSteps.{landed, next as step-to, HasCrossed, crossed-at, crossed-to}
use Rattle.mark_laws.proofs.OneInstruction.{true_false}
use Rattle.hint_laws.proofs.Within.{known_from, AreSeen, Doing, does, ends, restarts, goes_to, joined, BehindRow, behind, Within, computing, quartering, branching, linking, padding, going, jumping, parking, guarded, loading, storing, calling, answered, restarting, unboxing}

-- ---- what a word leaves

-- a region that has a copy keeps it
abbrev pub KeepsCopies : Layout → Memory → Memory → Type 0
KeepsCopies l old new = (region : ℕ) → region < all_regions l → 0 < entry_of old region → entry_of new region ≡ entry_of old region

-- what a word leaves of what is shared: all; in a call the table, the list and the copies; in a store each copy; in RESTART nothing is said
pub data Leaves (l : Layout) (old new : Memory) : Doing → Type 0 where
  all : {d : Doing} → new ≡ old → Leaves l old new d
  tables : {p : ℕ} {q : Regs} → LeavesTables old new → Leaves l old new (does p Ecall q)
  copies : {p : ℕ} {op : StoreOp} {rs1 rs2 : ℕ} {imm : ℤ} {q : Regs} → KeepsCopies l old new → Leaves l old new (does p (Store op rs1 rs2 imm) q)
  clears : {site : ℕ} {q : Regs} → Leaves l old new (restarts site q)

-- ---- where it is then

-- a place of what the shadow is doing that is no arrival: in the block at hand, but neither its word 1 nor the word behind an HCALL; in a helper, or at word 0 of a block; or behind the HCALL of a call's block
pub data Inner (l : Layout) (pc : ℕ) : Doing → Type 0 where
  in_block : {p : ℕ} {i : Instr} {q : Regs} (n : ℕ) → nat_lt n 16 ≡ true → (n == 1) ≡ false → (is_ecall (Some i) && (n == 7)) ≡ false → pc ≡ block_at l p + 4 * n → Inner l pc (does p i q)
  in_helper : {d : Doing} → nat_le helpers_start pc ≡ true → Inner l pc d
  at_pad : {d : Doing} → pc % 64 ≡ 0 → Inner l pc d
  behind_call : {to : ℕ} {q : Regs} (p : ℕ) → to ≡ p + 4 → pc ≡ block_at l p + 28 → Inner l pc (goes_to to q)

-- ---- what it leads to

-- the next block is reached: by an instruction that touches no memory, by a load, by a store, or behind a call
pub data Comes (l : Layout) (bytes : ℕ → Option ℕ) (program old : Memory) (target : ℕ) (rs : Regs) (t : Tabs) (m : Memory) : Doing → Type 0 where
  flows : {p : ℕ} {i : Instr} {q : Regs} → FlowArrives l p i q target rs → m ≡ old → Comes l bytes program old target rs t m (does p i q)
  loads : {p : ℕ} {op : LoadOp} {rd rs1 : ℕ} {imm : ℤ} {q : Regs} → LoadArrives l p op rd rs1 imm q (known_from bytes (plus_int (get rs1 q) imm) (load_width op)) target rs → m ≡ old
      → Comes l bytes program old target rs t m (does p (Load op rd rs1 imm) q)
  stores : {p : ℕ} {op : StoreOp} {rs1 rs2 : ℕ} {imm : ℤ} {q : Regs} (t0 : Tabs) → StoreArrives l p op rs1 rs2 imm q bytes program t0 target rs t m → KeepsCopies l old m
      → Comes l bytes program old target rs t m (does p (Store op rs1 rs2 imm) q)
  returns : {to : ℕ} {q : Regs} → target ≡ to → rs ≡ q → m ≡ old → Comes l bytes program old target rs t m (goes_to to q)

-- an HCALL is performed, by which the rest of the way is known: of a call's block, with the registers q; or of RESTART, with those of the box but x31, and no copies
pub data Turns (w : World) (r : Run) (to : ℕ) (new : Regs) : Doing → Type 0 where
  asks : {p : ℕ} {q : Regs} (answer : ℕ) → fetch_shadow w r.shadow.pc ≡ Some (Hcall false) → r.shadow.pc ≡ block_at w.image.layout p + 24 → HasRegs r.shadow.registers q → to ≡ p + 4 → new ≡ put 10 answer q
      → Turns w r to new (does p Ecall q)
  asks_again : {site : ℕ} {q : Regs} (answer : ℕ) (rs : Regs) (t : Tabs) → fetch_shadow w r.shadow.pc ≡ Some (Hcall true) → HasRegs r.shadow.registers rs → AreLoaded 30 q rs → HasTabs w.image.layout r.shared t → IsFresh w.image.layout t
      → to ≡ site + 4 → IsAnswered q answer new → Turns w r to new (restarts site q)

-- a region has no copy, and all slots are in use
pub record IsFullFor (l : Layout) (m : Memory) (region : ℕ) : Type 0 where
  pub uncopied : entry_of m region ≡ 0
  pub slots : slots_in_use m ≡ l.regions

-- why it parks, with this shared memory
pub data Stops (l : Layout) (m : Memory) (cause : Park) : Doing → Type 0 where
  flow_faults : {p : ℕ} {i : Instr} {q : Regs} → FlowFaults l p i q cause → Stops l m cause (does p i q)
  load_faults : {p : ℕ} {op : LoadOp} {rd rs1 : ℕ} {imm : ℤ} {q : Regs} → AccessFaults l (load_size op) (plus_int (get rs1 q) imm) cause → Stops l m cause (does p (Load op rd rs1 imm) q)
  store_parks : {p : ℕ} {op : StoreOp} {rs1 rs2 : ℕ} {imm : ℤ} {q : Regs} (bytes : ℕ → Option ℕ) (t0 : Tabs) → StoreParks l p op rs1 rs2 imm q bytes t0 cause
      → (cause ≡ park.Regions → IsFullFor l m (plus_int (get rs1 q) imm / 256)) → Stops l m cause (does p (Store op rs1 rs2 imm) q)
  call_parks : {p : ℕ} {q : Regs} → cause ≡ park.LogFull → Stops l m cause (does p Ecall q)
  leaves_text : {q : Regs} → GuardFaults l cause → Stops l m cause (ends q)
  last_site : {to : ℕ} {q : Regs} → cause ≡ park.Fault → to ≡ l.text_end → Stops l m cause (goes_to to q)
  exits : {d : Doing} → (cause ≡ park.Exit) ⊎ (cause ≡ park.Store) → Stops l m cause d

-- the word at hand is no HCALL
abbrev pub IsQuiet : World → Run → Type 0
IsQuiet w r = is_call_word (fetch_shadow w r.shadow.pc) ≡ false

-- from a row with n words left: to a row with fewer of the same doing; by an HCALL to what is left behind it; to word 1 of a block; or to a park
pub data Leads (w : World) (bytes : ℕ → Option ℕ) (program : Memory) (d : Doing) (n : ℕ) (r : Run) (h : Shade) : Type 0 where
  goes : (k : ℕ) → k < n → Within w bytes program d h k → Leaves w.image.layout r.shared h.shared d → Inner w.image.layout h.hart.pc d → IsQuiet w r → Leads w bytes program d n r h
  turns : (k : ℕ) → k < n → (to : ℕ) (new : Regs) → Turns w r to new d → Within w bytes program (goes_to to new) h k → Inner w.image.layout h.hart.pc (goes_to to new) → Leads w bytes program d n r h
  reaches : (p base : ℕ) (s : Point) → HasBlock w.image.layout p → address base s.place ≡ block_at w.image.layout p + 4 → TableOk w.image.layout s.tabs → Sees w.image.layout base h s h.shared
      → Comes w.image.layout bytes program r.shared p s.regs s.tabs h.shared d → IsQuiet w r → Leads w bytes program d n r h
  halts : (cause : Park) → h.hart.state ≡ Parked cause → (t : Tabs) → HasTabs w.image.layout h.shared t → TableOk w.image.layout t → Stops w.image.layout r.shared cause d → Leads w bytes program d n r h

-- ---- numbers and rows

-- a number whose bytes are known
pub known-loaded : (bytes : ℕ → Option ℕ) (m : Memory) → ((a : ℕ) → Allows (bytes a) (m a)) → (a n : ℕ) → Allows (known_from bytes a n) (loaded m a n)
unfolding known_from loaded
known-loaded bytes m seen a zero = refl
known-loaded bytes m seen a (suc n) = join (bytes a) (known_from bytes (a + 1) n) (m a) (loaded m (a + 1) n) (seen a) (known-loaded bytes m seen (a + 1) n)
  where
    join : (b v : Option ℕ) (x y : ℕ) → Allows b x → Allows v y → Allows (joined b v) (x + 256 * y)
    join (Some b) (Some v) x y e f = omega (arith, e, f)
    join (Some b) None x y e f = tt
    join None v x y e f = tt

-- bytes are below 256, in the text and elsewhere
program_byte-small : (l : Layout) (words : List ℕ) (m : Memory) → Bytes m → (b : ℕ) → program_byte l words m b < 256
program_byte-small l words m h b = by_test (in_text l b)
  where
    by_test : (t : Bool) → elim t [ true ↦ text_byte l words b | false ↦ m b ] < 256
    by_test true = omega arith
    by_test false = h b

-- a word of a call leads to a row of it, or is the HCALL
split : {l : Layout} {p : ℕ} {q : Regs} {from place : Place} {rs : Regs} {s : Priv} {t t' : Tabs} {m m' : Memory} {k : ℕ} → AnyCallNext l p q from t m place rs s t' m' k
    → (AnyCallRow l p q place rs s t' k × (is_sixth from ≡ false) × (is_seventh place ≡ false) × LeavesTables m m') ⊎ ((answer : ℕ) × (from ≡ InBlock 6) × (place ≡ InBlock 7) × (rs ≡ put 10 answer q) × (k ≡ 1))
split (any.word row before other leaves) = inl (row, before, other, leaves)
split (any.call answer from) = inr (answer, from, refl, refl, refl)

-- where the row behind the HCALL is
pub behind-is : {q : Regs} {place : Place} {rs : Regs} {s : Priv} {t : Tabs} {n : ℕ} → BehindRow q place rs s t n → (place ≡ InBlock 7) × (rs ≡ q) × (n ≡ 1)
behind-is (behind s) = (refl, refl, refl)

-- what is so of RESTART's row there
record AtHcall (l : Layout) (q rs : Regs) (t : Tabs) : Type 0 where
  loaded : AreLoaded 30 q rs
  fresh : IsFresh l t

-- at the HCALL the registers of the box are loaded, and the table is fresh
at-hcall : {l : Layout} {site : ℕ} {q : Regs} {place : Place} {rs : Regs} {s : Priv} {t : Tabs} {n : ℕ} → RestartRow l site q place rs s t n → is_hcall place ≡ true → AtHcall l q rs t
at-hcall (r48 s fresh loaded) e = record { loaded = loaded; fresh = fresh }
at-hcall (r18-47 k s less fresh x31 loaded) e = absurd (grind (arith, nat_tests, less, e))
at-hcall (r1 s) e = false_true e
at-hcall (r2 s) e = false_true e
at-hcall (r3 s) e = false_true e
at-hcall (r4 s) e = false_true e
at-hcall (r5 s) e = false_true e
at-hcall (r6 j s h c) e = false_true e
at-hcall (r7 j s h c) e = false_true e
at-hcall (r8 j s h c) e = false_true e
at-hcall (r9 j s h c) e = false_true e
at-hcall (r10 j s h c) e = false_true e
at-hcall (r11 s c) e = false_true e
at-hcall (r12 s f) e = false_true e
at-hcall (r13 s f) e = false_true e
at-hcall (r14 s f) e = false_true e
at-hcall (r15 s f) e = false_true e
at-hcall (r16 s f) e = false_true e
at-hcall (r17 s f) e = false_true e

-- ---- places of rows

-- an instruction that only computes is no call
computes-no_call : {i : Instr} → Computes i → is_ecall (Some i) ≡ false
computes-no_call (a_lui rd imm) = refl
computes-no_call (an_imm op rd rs1 imm) = refl
computes-no_call (an_imm_w op rd rs1 imm) = refl
computes-no_call (an_op op rd rs1 rs2) = refl
computes-no_call (an_op_w op rd rs1 rs2) = refl
computes-no_call (a_fence number) = refl

-- nor is one that parks
stops-no_call : {i : Instr} → plain.Stops i → is_ecall (Some i) ≡ false
stops-no_call at_ebreak = refl
stops-no_call at_gate = refl
stops-no_call at_leave = refl
stops-no_call (at_site rd) = refl
stops-no_call (at_key rd) = refl
stops-no_call at_stop = refl
stops-no_call at_restart = refl
stops-no_call (at_call unhinted) = refl
stops-no_call (at_halt cause) = refl
stops-no_call at_illegal = refl

-- HPARK stands at word 1
park-first : {q : Regs} {place : Place} {rs : Regs} {s : Priv} {t : Tabs} {n : ℕ} → ParkRow q place rs s t n → is_inner place ≡ false
park-first (h1 s) = refl

-- the pad is word 0
pad-place : {l : Layout} {p rd target : ℕ} {q : Regs} {place : Place} {rs : Regs} {s : Priv} {t : Tabs} {n : ℕ} → PadRow l p rd target q place rs s t n → place ≡ InBlock 0
pad-place (pad s e) = refl

-- behind RESTART's HCALL the shadow is in a helper, or at a pad
pub restarted-place : {l : Layout} {site : ℕ} {q : Regs} {place : Place} {rs : Regs} {s : Priv} {t : Tabs} {n : ℕ} → RestartedRow l site q place rs s t n → (is_helper place ≡ true) ⊎ (place ≡ InBlock 0)
restarted-place (inl row) = inl (unboxed-place row)
  where
    unboxed-place : {l : Layout} {site : ℕ} {q : Regs} {place : Place} {rs : Regs} {s : Priv} {t : Tabs} {n : ℕ} → UnboxedRow l site q place rs s t n → is_helper place ≡ true
    unboxed-place (r49 s) = refl
    unboxed-place (r50 s) = refl
restarted-place (inr row) = jump-place row

-- up to it it is in a helper
restart-place : {l : Layout} {site : ℕ} {q : Regs} {place : Place} {rs : Regs} {s : Priv} {t : Tabs} {n : ℕ} → RestartRow l site q place rs s t n → is_helper place ≡ true
restart-place (r1 s) = refl
restart-place (r2 s) = refl
restart-place (r3 s) = refl
restart-place (r4 s) = refl
restart-place (r5 s) = refl
restart-place (r6 j s h c) = refl
restart-place (r7 j s h c) = refl
restart-place (r8 j s h c) = refl
restart-place (r9 j s h c) = refl
restart-place (r10 j s h c) = refl
restart-place (r11 s c) = refl
restart-place (r12 s f) = refl
restart-place (r13 s f) = refl
restart-place (r14 s f) = refl
restart-place (r15 s f) = refl
restart-place (r16 s f) = refl
restart-place (r17 s f) = refl
restart-place (r18-47 k s less fresh x31 loaded) = refl
restart-place (r48 s fresh loaded) = refl

-- ---- parks of a store

-- where a store parks since all slots are in use, they are so then, and its region has no copy
full-when : {l : Layout} {p : ℕ} {op : StoreOp} {rs1 rs2 : ℕ} {imm : ℤ} {q : Regs} {bytes : ℕ → Option ℕ} {t0 t : Tabs} {m : Memory} {cause : Park} (program : Memory) (place : Place) (rs : Regs) (s : Priv) (n : ℕ) → cause ≡ park.Regions
    → StoresRow l p op rs1 rs2 imm q bytes program t0 place rs s t m n → HasTabs l m t → StoreParks l p op rs1 rs2 imm q bytes t0 cause → IsFullFor l m (plus_int (get rs1 q) imm / 256)
full-when program place rs s n e row has (faults none) = absurd (no e)
  where
    no : park.Fault ≡ park.Regions → ⊥
    no e = cc
full-when {l} {p} {op} {rs1} {rs2} {imm} {q} {bytes} {t0} {t} {m} program place rs s n e row has (full_up may none full) = by_row row
  where
    region : ℕ
    region = plus_int (get rs1 q) imm / 256

    at-park : t ≡ t0 → IsFullFor l m region
    at-park same =
        let zero : t0.entry region ≡ 0 = grind (arith, nat_tests, none) in
        record {
          uncopied = has.entry region (reached l (store_size op) (plus_int (get rs1 q) imm) may).region ∙ ap (λ (t : Tabs). t.entry region) same ∙ zero;
          slots = has.count ∙ ap (λ (t : Tabs). t.count) same ∙ full;
        }

    by_stage : (stage : Stage) → AtStage l p op rs1 rs2 imm q bytes program t0 stage t m → t ≡ t0
    by_stage Before h = h.1
    by_stage (Copying n) h = h.2
    by_stage Listed h = let room : t0.count < l.regions = h.2.room in absurd (omega (arith, room, full))
    by_stage Counting h = let room : t0.count < l.regions = h.2.room in absurd (omega (arith, room, full))
    by_stage Found h = let room : t0.count < l.regions = h.1.room none in absurd (omega (arith, room, full))
    by_stage After h = let room : t0.count < l.regions = h.1.room none in absurd (omega (arith, room, full))

    by_row : StoresRow l p op rs1 rs2 imm q bytes program t0 place rs s t m n → IsFullFor l m region
    by_row (inl row) = at-park (by_stage Before row.1)
    by_row (inr row) = at-park (by_stage row.0 row.2)

-- ---- no HCALL

-- an HCALL
abbrev is_calls : Out → Bool
is_calls (Calls unhinted s m) = true
is_calls (Goes s m) = false
is_calls (Loads op rd a s m) = false
is_calls (Stores op a v s m) = false
is_calls (Keys rd s m) = false
is_calls (Parks cause s m) = false
is_calls Fails = false

-- where all that a word leads to says something of the memory that isn't so of each, it is no HCALL, behind which it may be any
module _ (l : Layout) (program : Memory) (base : ℕ) (Row : Place → Regs → Priv → Tabs → Memory → ℕ → Type 0) (Arrives : ℕ → Regs → Tabs → Memory → Type 0) (Why : Park → Tabs → Memory → Type 0) (n : ℕ)
    (P : Memory → Type 0) (other : Memory) (never : P other → ⊥) (rows : (s : Point) (m : Memory) (k : ℕ) → Row s.place s.regs s.priv s.tabs m k → P m)
    (arrivals : (p : ℕ) (s : Point) (m : Memory) → Arrives p s.regs s.tabs m → P m) where
  -- a word that goes on leads to a row or to an arrival, so P is so of what it leaves
  goes-so : (s : Point) (m : Memory) → Led l program base Row Arrives Why n (Goes s m) → P m
  goes-so s m (on {k} row ok less inner) = rows s m k row
  goes-so s m (leaps place e d) = goes-so (record s { place = place }) m d
  goes-so s m (led.arrives p e b y ok) = arrivals p s m y

  -- so no word of these rows is an HCALL
  no-calls : (o : Out) → Led l program base Row Arrives Why n o → is_calls o ≡ false
  no-calls (Calls unhinted s m) (calls f ok) = absurd (never (goes-so _ other (f 0 s.tabs other (lit< tt) ok)))
  no-calls (Goes s m) d = refl
  no-calls (Loads op rd a s m) d = refl
  no-calls (Stores op a v s m) d = refl
  no-calls (Keys rd s m) d = refl
  no-calls (Parks cause s m) d = refl
  no-calls Fails d = refl

-- an instruction that is no HCALL there is no HCALL
no-call-word : (base : ℕ) (i : Instr) (s : Point) (m : Memory) → is_calls (exec base i s m) ≡ false → is_call_word (Some i) ≡ false
no-call-word base (Hcall unhinted) s m e = true_false e
no-call-word base (Lui rd imm) s m e = refl
no-call-word base (Auipc rd imm) s m e = refl
no-call-word base (Jal rd imm) s m e = refl
no-call-word base (Jalr rd rs1 imm) s m e = refl
no-call-word base (Branch op rs1 rs2 imm) s m e = refl
no-call-word base (Load op rd rs1 imm) s m e = refl
no-call-word base (Store op rs1 rs2 imm) s m e = refl
no-call-word base (OpImm op rd rs1 imm) s m e = refl
no-call-word base (OpImmW op rd rs1 imm) s m e = refl
no-call-word base (Op op rd rs1 rs2) s m e = refl
no-call-word base (OpW op rd rs1 rs2) s m e = refl
no-call-word base (Fence number) s m e = refl
no-call-word base Ecall s m e = refl
no-call-word base Ebreak s m e = refl
no-call-word base Hgate s m e = refl
no-call-word base Hleave s m e = refl
no-call-word base (Hsite rd) s m e = refl
no-call-word base (Hkey rd) s m e = refl
no-call-word base Hstop s m e = refl
no-call-word base Hrestart s m e = refl
no-call-word base (Hpark cause) s m e = refl
no-call-word base Illegal s m e = refl

-- a memory that differs at each address
abbrev raised : Memory → Memory
raised m b = m b + 1

-- so none is left as it was
not-raised : (m : Memory) (b : ℕ) → raised m b ≡ m b → ⊥
not-raised m b e = omega (arith, e)

-- ---- one word

-- the word behind the HCALL arrives behind the call
pub behind-leads : (w : World) (r : Run) {n : ℕ} (p answer : ℕ) (q : Regs) → IsInstruction w.image.layout p
    → (at : At w (block_at w.image.layout p) (block w.image.layout p Ecall) (bare (BehindRow (put 10 answer q))) (shade_of r) n)
    → Led w.image.layout (program_byte w.image.layout (rewritten_words w) r.own.memory) (block_at w.image.layout p) (λ place rs s t m k. ⊥) (CallArrives p q answer at.point.tabs r.shared) (λ cause t m. ⊥) n
    (exec_some (block_at w.image.layout p) (code w.image.layout (block w.image.layout p Ecall) at.point.place) at.point r.shared)
behind-leads w r {n} p answer q is at =
    let l : Layout = w.image.layout in
    let program : Memory = program_byte l (rewritten_words w) r.own.memory in
    let row : (at.point.place ≡ InBlock 7) × (at.point.regs ≡ put 10 answer q) × (n ≡ 1) = behind-is at.row in
    let leads : Place → Regs → ℕ → Type 0 =
    λ place rs k.
    Led l program (block_at l p) (λ place rs s t m k. ⊥) (CallArrives p q answer at.point.tabs r.shared) (λ cause t m. ⊥) k
    (exec_some (block_at l p) (code l (block l p Ecall) place) (record { place = place; regs = rs; priv = at.point.priv; tabs = at.point.tabs }) r.shared) in
    subst (λ k. leads at.point.place at.point.regs k) (sym row.2)
    (subst (λ place. leads place at.point.regs 1) (sym row.0)
    (subst (λ rs. leads (InBlock 7) rs 1) (sym row.1) (called_arrives l p q answer program is at.point.priv at.point.tabs r.shared at.ok)))

module _ (w : World) (a : Accepted w) (x : Answer) (r : Run) (z : Sized (stock_of r)) (bytes : ℕ → Option ℕ) where
  abbrev l : Layout
  l = w.image.layout

  abbrev after : Shade
  after = shade_of (shadow_step w x r)

  abbrev program : Memory
  program = program_byte l (rewritten_words w) r.own.memory

  -- to what a word leads
  abbrev LeadsOn : Doing → ℕ → Type 0
  LeadsOn d n = Leads w bytes program d n r after

  -- what a landed word leads to, by what is so of its rows, its arrivals and its parks
  settles : {d : Doing} {base : ℕ} {Row' : Place → Regs → Priv → Tabs → Memory → ℕ → Type 0} {Arrives : ℕ → Regs → Tabs → Memory → Type 0} {Why : Park → Tabs → Memory → Type 0} {n : ℕ}
      → ((s : Point) (k : ℕ) → k < n → is_inner s.place ≡ true → Row' s.place s.regs s.priv s.tabs after.shared k → Sees l base after s after.shared → TableOk l s.tabs → LeadsOn d n)
      → ((p : ℕ) (s : Point) → Arrives p s.regs s.tabs after.shared → HasTabs l after.shared s.tabs → Comes l bytes program r.shared p s.regs s.tabs after.shared d × IsQuiet w r)
      → ((cause : Park) (t : Tabs) (m : Memory) → Why cause t m → Stops l r.shared cause d)
      → Landed l base Row' Arrives Why n after → LeadsOn d n
  settles {base = base} {Row'} rows arrives stops (goes_on k s m row ok less inner v) =
      rows s k less inner (subst (λ m. Row' s.place s.regs s.priv s.tabs m k) (sym v.shared) row) (record { pc = v.pc; regs = v.regs; priv = v.priv; tabs = v.tabs; shared = refl; running = v.running }) ok
  settles {base = base} {Arrives = Arrives} rows arrives stops (arrived p s m at ok b e v) =
      let came = arrives p s (subst (λ m. Arrives p s.regs s.tabs m) (sym v.shared) at) v.tabs in
      reaches p base s b e ok (record { pc = v.pc; regs = v.regs; priv = v.priv; tabs = v.tabs; shared = refl; running = v.running }) came.0 came.1
  settles {d} rows arrives stops (parked cause t m (inl why) ok has state) = halts cause state t has ok (stops cause t m why)
  settles {d} rows arrives stops (parked cause t m (inr e) ok has state) = halts cause state t has ok (exits e)

  -- what the program range has are bytes
  program-small : (b : ℕ) → program b < 256
  program-small b = program_byte-small l (rewritten_words w) r.own.memory z.own_memory b

  -- the word that the run fetches at a row
  fetched : {base : ℕ} {words : List Instr} {Row : Place → Regs → Priv → Tabs → Memory → ℕ → Type 0} {n : ℕ} (at : At w base words Row (shade_of r) n) (i : Instr) → code l words at.point.place ≡ Some i → fetch_shadow w r.shadow.pc ≡ Some i
  fetched {base} {words} at i e = let f : Fetches w (address base at.point.place) i = code-fetches w base words at.point.place i at.code e in ap (fetch_shadow w) at.shown.pc ∙ f.word

  -- the word at a row is no HCALL
  quiet-by : {base : ℕ} {words : List Instr} {Row Row' : Place → Regs → Priv → Tabs → Memory → ℕ → Type 0} {Arrives : ℕ → Regs → Tabs → Memory → Type 0} {Why : Park → Tabs → Memory → Type 0} {n : ℕ}
      (at : At w base words Row (shade_of r) n) (P : Memory → Type 0) → (P (raised r.shared) → ⊥) → ((s : Point) (m : Memory) (k : ℕ) → Row' s.place s.regs s.priv s.tabs m k → P m)
      → ((p : ℕ) (s : Point) (m : Memory) → Arrives p s.regs s.tabs m → P m) → Led l program base Row' Arrives Why n (exec_some base (code l words at.point.place) at.point r.shared) → IsQuiet w r
  quiet-by {base} {words} {Row} {Row'} {Arrives} {Why} {n} at P never rows arrivals d = by_code (code l words at.point.place) refl d
    where
      by_code : (o : Option Instr) → code l words at.point.place ≡ o → Led l program base Row' Arrives Why n (exec_some base o at.point r.shared) → IsQuiet w r
      by_code None e d = elim d [ ]
      by_code (Some i) e d =
          let f : Fetches w (address base at.point.place) i = code-fetches w base words at.point.place i at.code e in
          ap is_call_word (ap (fetch_shadow w) at.shown.pc ∙ f.word) ∙ no-call-word base i at.point r.shared (no-calls l program base Row' Arrives Why n P (raised r.shared) never rows arrivals _ d)

  -- the memory is left
  abbrev IsLeft : Memory → Type 0
  IsLeft m = (b : ℕ) → m b ≡ r.shared b

  -- the raised memory isn't left
  not-left : IsLeft (raised r.shared) → ⊥
  not-left f = not-raised r.shared 0 (f 0)

  -- one that is the same is
  same-left : {m : Memory} → m ≡ r.shared → IsLeft m
  same-left e b = ap (λ (m : Memory). m b) e

  -- a place in the block of an instruction, or in a helper
  inner-at : {p : ℕ} {i : Instr} {q : Regs} (s : Point) → is_inner s.place ≡ true → is_ecall (Some i) ≡ false ⊎ (is_seventh s.place ≡ false) → Sees l (block_at l p) after s after.shared → Inner l after.hart.pc (does p i q)
  inner-at {p} {i} {q} s inner seventh v = by_place s.place inner seventh v.pc
    where
      seventh-no : (b c : Bool) → (b ≡ false) ⊎ (c ≡ false) → (b && c) ≡ false
      seventh-no false c h = refl
      seventh-no true false h = refl
      seventh-no true true (inl e) = e
      seventh-no true true (inr e) = e

      by_place : (place : Place) → is_inner place ≡ true → (is_ecall (Some i) ≡ false) ⊎ (is_seventh place ≡ false) → after.hart.pc ≡ address (block_at l p) place → Inner l after.hart.pc (does p i q)
      by_place (InBlock n) e h f = in_block n (grind (arith, nat_tests, e)) (grind (arith, nat_tests, e)) (seventh-no (is_ecall (Some i)) (n == 7) h) f
      by_place (InHelper k n) e h f = in_helper (subst (λ a. nat_le helpers_start a ≡ true) (sym f) (grind (arith, nat_tests)))
      by_place (Away b) e h f = false_true e

  -- a place in a helper, or at word 0 of a block
  inner-pad : {d : Doing} (base : ℕ) (s : Point) → IsBase base → (is_helper s.place ≡ true) ⊎ (s.place ≡ InBlock 0) → Sees l base after s after.shared → Inner l after.hart.pc d
  inner-pad {d} base s b (inl h) v = by_place s.place h v.pc
    where
      by_place : (place : Place) → is_helper place ≡ true → after.hart.pc ≡ address base place → Inner l after.hart.pc d
      by_place (InBlock n) e f = false_true e
      by_place (InHelper k n) e f = in_helper (subst (λ a. nat_le helpers_start a ≡ true) (sym f) (grind (arith, nat_tests)))
      by_place (Away b) e f = false_true e
  inner-pad {d} base s b (inr e) v = at_pad (omega (arith, v.pc, ap (address base) e, b.whole))

  -- a flow's word
  flow : {p base : ℕ} {i : Instr} {q : Regs} {words : List Instr} {Row : Place → Regs → Priv → Tabs → Memory → ℕ → Type 0} {Row' : Place → Regs → Priv → Tabs → ℕ → Type 0} {n : ℕ}
      → (at : At w base words Row (shade_of r) n)
      → ((s : Point) (k : ℕ) → is_inner s.place ≡ true → Row' s.place s.regs s.priv s.tabs k → Sees l base after s after.shared → TableOk l s.tabs → Within w bytes program (does p i q) after k × Inner l after.hart.pc (does p i q))
      → Follows l program p i q base Row' at.point.tabs r.shared n (exec_some base (code l words at.point.place) at.point r.shared) → LeadsOn (does p i q) n
  flow at f d =
      let quiet : IsQuiet w r = quiet-by at IsLeft not-left (λ s m k row. same-left row.1.memory) (λ p s m y. same-left y.1.memory) d in
      settles (λ s k less inner row v ok. let g = f s k inner row.0 v ok in goes k less g.0 (all row.1.memory) g.1 quiet) (λ p s y has. (flows y.0 y.1.memory, quiet)) (λ cause t m why. flow_faults why.0)
      (landed w a x r z at d)

  -- word 5 of jal may lead to the pad of its target's block
  crossed : (p rd : ℕ) (imm : ℤ) (q : Regs) (n : ℕ) → IsInstruction l p → (at : At w (block_at l p) (block l p (Jal rd imm)) (bare (JalRow l p rd (plus_int p imm) q)) (shade_of r) n)
      → Crosses l program p (Jal rd imm) q (block_at l p) (block_at l (plus_int p imm)) (JalRow l p rd (plus_int p imm) q) (PadRow l p rd (plus_int p imm) q)
      (code l (block l p (Jal rd imm)) at.point.place) at.point.place at.point.regs at.point.priv at.point.tabs r.shared n
      → LeadsOn (does p (Jal rd imm) q) n
  crossed p rd imm q n is at (stays d) = flow at (λ s k inner row v ok. (linking p rd imm q is (step-to w a x r z at s v ok row), inner-at s inner (inl refl) v)) d
  crossed p rd imm q n is at (crosses k register offset e to row less) =
      let c : HasCrossed w (plus_int p imm) at.point r.shared after = crossed-to w a x r p rd imm at register offset e to (pad-target row) in
      goes k (grind (arith, nat_tests, less))
      (padding p rd imm q (block l (plus_int p imm) c.word) is refl
      (crossed-at at.ok c (bare (PadRow l p rd (plus_int p imm) q)) row))
      (all c.shown.shared)
      (at_pad (omega (arith, c.shown.pc, c.is.code.lawful.whole)))
      (ap is_call_word (fetched at (Jalr 0 register offset) e))

  -- a copy stays where the tables keep its entry
  copies-kept : (t t' : Tabs) (m m' : Memory) → HasTabs l m t → HasTabs l m' t' → ((region : ℕ) → 0 < t.entry region → t'.entry region ≡ t.entry region) → KeepsCopies l m m'
  copies-kept t t' m m' has has' f region g some =
      has'.entry region g ∙ f region (subst (λ n. 0 < n) (has.entry region g) some) ∙ sym (has.entry region g)

  -- a word of a call's block, or of APPEND
  called : {n : ℕ} (p : ℕ) (q : Regs) → IsInstruction l p → (at : At w (block_at l p) (block l p Ecall) (bare (AnyCallRow l p q)) (shade_of r) n) → is_seventh at.point.place ≡ false
      → (is_sixth at.point.place ≡ false → IsQuiet w r) → (s : Point) (k : ℕ) → k < n → is_inner s.place ≡ true
      → AnyCallNext l p q at.point.place at.point.tabs r.shared s.place s.regs s.priv s.tabs after.shared k → Sees l (block_at l p) after s after.shared → TableOk l s.tabs → LeadsOn (does p Ecall q) n
  unfolding step-to
  called {n} p q is at before quiet s k less inner row v ok = by_next (split row)
    where
      by_next : (AnyCallRow l p q s.place s.regs s.priv s.tabs k × (is_sixth at.point.place ≡ false) × (is_seventh s.place ≡ false) × LeavesTables r.shared after.shared)
          ⊎ ((answer : ℕ) × (at.point.place ≡ InBlock 6) × (s.place ≡ InBlock 7) × (s.regs ≡ put 10 answer q) × (k ≡ 1)) → LeadsOn (does p Ecall q) n
      by_next (inl (row, first, other, leaves)) = goes k less (calling p q is (step-to w a x r z at s v ok row) other) (tables leaves) (inner-at s inner (inr other) v) (quiet first)
      by_next (inr (answer, from, place, regs, one)) =
          let q' : Regs = put 10 answer q in
          let behind-row : BehindRow q' s.place s.regs s.priv s.tabs k =
          subst (λ j. BehindRow q' s.place s.regs s.priv s.tabs j) (sym one)
          (subst (λ b. BehindRow q' b s.regs s.priv s.tabs 1) (sym place) (subst (λ rs. BehindRow q' (InBlock 7) rs s.priv s.tabs 1) (sym regs) (behind s.priv))) in
          let is_q : at.point.regs ≡ q = at-call l p q at.row (ap is_sixth from) in
          turns k less (p + 4) q'
          (asks answer (fetched at (Hcall false) (ap (code l (block l p Ecall)) from)) (at.shown.pc ∙ ap (address (block_at l p)) from) (subst (λ rs. HasRegs r.shadow.registers rs) is_q at.shown.regs) refl refl)
          (answered p answer q is (step-to w a x r z at s v ok behind-row)) (behind_call p refl (v.pc ∙ ap (address (block_at l p)) place))

  -- the word behind the HCALL
  behind-call : {n : ℕ} (p answer : ℕ) (q : Regs) → IsInstruction l p → At w (block_at l p) (block l p Ecall) (bare (BehindRow (put 10 answer q))) (shade_of r) n → LeadsOn (goes_to (p + 4) (put 10 answer q)) n
  behind-call {n} p answer q is at =
      let d = behind-leads w r p answer q is at in
      let quiet : IsQuiet w r = quiet-by at IsLeft not-left (λ s m k row. absurd row) (λ p s m y. same-left y.memory) d in
      settles (λ s k less inner row v ok. absurd row) (λ p s y has. (returns y.next y.registers y.memory, quiet)) (λ cause t m why. absurd why) (landed w a x r z at d)

  -- each word leads on; a load wants that the known bytes are seen
  pub within-leads : {d : Doing} {n : ℕ} → ((p rd rs1 : ℕ) (op : LoadOp) (imm : ℤ) (q : Regs) → d ≡ does p (Load op rd rs1 imm) q → AreSeen l bytes program r.shared) → Within w bytes program d (shade_of r) n → LeadsOn d n
  within-leads {n = n} sees (computing p i q is c at) =
      flow at (λ s k inner row v ok. (computing p i q is c (step-to w a x r z at s v ok row), inner-at s inner (inl (computes-no_call c)) v)) (plain_leads l p i q program is c n at.point.place at.point.regs at.point.priv at.point.tabs r.shared at.ok at.row)
  within-leads {n = n} sees (quartering p rd imm q is f at) =
      flow at (λ s k inner row v ok. (quartering p rd imm q is f (step-to w a x r z at s v ok row), inner-at s inner (inl refl) v)) (auipc_leads l p rd imm q program is f n at.point.place at.point.regs at.point.priv at.point.tabs r.shared at.ok at.row)
  within-leads {n = n} sees (branching p op rs1 rs2 imm q is at) =
      flow at (λ s k inner row v ok. (branching p op rs1 rs2 imm q is (step-to w a x r z at s v ok row), inner-at s inner (inl refl) v)) (branch_leads l p op rs1 rs2 imm q program is n at.point.place at.point.regs at.point.priv at.point.tabs r.shared at.ok at.row)
  within-leads {n = n} sees (linking p rd imm q is at) =
      crossed p rd imm q n is at (jal_leads l p rd imm q program is n at.point.place at.point.regs at.point.priv at.point.tabs r.shared at.ok at.row)
  within-leads {n = n} sees (padding p rd imm q words is f at) =
      flow at (λ s k inner row v ok. (padding p rd imm q words is f (step-to w a x r z at s v ok row), inner-pad (block_at l (plus_int p imm)) s at.code.lawful (inr (pad-place row)) v)) (pad_leads l p rd imm q words program is f n at.point.place at.point.regs at.point.priv at.point.tabs r.shared at.ok at.row)
  within-leads {n = n} sees (going p rd rs1 imm q is at) =
      flow at by_row (jalr_leads l p rd rs1 imm q program is n at.point.place at.point.regs at.point.priv at.point.tabs r.shared at.ok at.row)
    where
      jumps : (s : Point) (k : ℕ) → s.place ≡ InHelper Jumping 0 → JumpRow l (plus_int (get rs1 q) imm) (put rd (p + 4) q) s.place s.regs s.priv s.tabs k → Sees l (block_at l p) after s after.shared → TableOk l s.tabs → Within w bytes program (does p (Jalr rd rs1 imm) q) after k
      jumps s k enters row v ok =
          let t : Target w (plus_int (get rs1 q) imm) (put rd (p + 4) q) = target-of w a (plus_int (get rs1 q) imm) (put rd (p + 4) q) (wrap-small (get rs1 q + word_of_int imm)) in
          jumping p rd rs1 imm q t.base t.words is t.fits
          (record {
            code = t.code;
            point = s;
            shown = record {
              pc = v.pc ∙ ap (address (block_at l p)) enters ∙ sym (ap (address t.base) enters);
              regs = v.regs;
              priv = v.priv;
              tabs = v.tabs;
              shared = refl;
              running = v.running;
            };
            ok = ok;
            row = row;
          })

      by_row : (s : Point) (k : ℕ) → is_inner s.place ≡ true → JalrsRow l p rd rs1 imm q s.place s.regs s.priv s.tabs k → Sees l (block_at l p) after s after.shared → TableOk l s.tabs
          → Within w bytes program (does p (Jalr rd rs1 imm) q) after k × Inner l after.hart.pc (does p (Jalr rd rs1 imm) q)
      by_row s k inner (inl row) v ok = (going p rd rs1 imm q is (step-to w a x r z at s v ok row), inner-at s inner (inl refl) v)
      by_row s k inner (inr (enters, row)) v ok = (jumps s k enters row v ok, inner-at s inner (inl refl) v)
  within-leads {n = n} sees (jumping p rd rs1 imm q base words is fits at) =
      flow at (λ s k inner row v ok. (jumping p rd rs1 imm q base words is fits (step-to w a x r z at s v ok row), inner-pad base s at.code.lawful (jump-place row) v))
      (jump_follows l p rd rs1 imm q base words program is fits n at.point.place at.point.regs at.point.priv at.point.tabs r.shared at.ok at.row)
  within-leads {n = n} sees (parking p i q is c at) =
      flow at (λ s k inner row v ok. (parking p i q is c (step-to w a x r z at s v ok row), inner-at s inner (inl (stops-no_call c)) v)) (park_leads l p i q program is c n at.point.place at.point.regs at.point.priv at.point.tabs r.shared at.ok at.row)
  within-leads {n = n} sees (guarded q at) =
      settles (λ s k less inner row v ok. false_true (sym (park-first row.0) ∙ inner)) (λ p s y has. absurd y) (λ cause t m why. leaves_text why.0)
      (landed w a x r z at (guard_leads l q program n at.point.place at.point.regs at.point.priv at.point.tabs r.shared at.ok at.row))
  within-leads {n = n} sees (loading p op rd rs1 imm q is at) =
      let given : Option ℕ = known_from bytes (plus_int (get rs1 q) imm) (load_width op) in
      let d =
      load_leads l p op rd rs1 imm q given program is n at.point.place at.point.regs at.point.priv at.point.tabs r.shared at.ok
      (λ e. known-loaded bytes (seen at.point.tabs r.shared program) (sees p rd rs1 op imm q refl at.point.tabs at.shown.tabs) (plus_int (get rs1 q) imm) (load_width op)) at.row in
      let quiet : IsQuiet w r = quiet-by at IsLeft not-left (λ s m k row. same-left row.1.memory) (λ p s m y. same-left y.1.memory) d in
      settles (λ s k less inner row v ok. goes k less (loading p op rd rs1 imm q is (step-to w a x r z at s v ok row.0)) (all row.1.memory) (inner-at s inner (inl refl) v) quiet)
      (λ p s y has. (loads y.0 y.1.memory, quiet)) (λ cause t m why. load_faults why.0) (landed w a x r z at d)
  within-leads {n = n} sees (storing p op rs1 rs2 imm q t0 is at) =
      let d = store_leads l p op rs1 rs2 imm q bytes program t0 is (λ b v e c g h. program-small c) n at.point.place at.point.regs at.point.priv at.point.tabs r.shared at.ok at.row in
      let quiet : IsQuiet w r =
      quiet-by at (λ m. (b : ℕ) → b < table_start → m b ≡ r.shared b) (λ f. not-raised r.shared 0 (f 0 (lit< tt))) (λ s m k row. row.1.below) (λ p s m y. y.1.below) d in
      settles
      (λ s k less inner row v ok.
      goes k less (storing p op rs1 rs2 imm q t0 is (step-to w a x r z at s v ok row.0)) (copies (copies-kept at.point.tabs s.tabs r.shared after.shared at.shown.tabs v.tabs row.1.copies)) (inner-at s inner (inl refl) v) quiet)
      (λ p s y has. (stores t0 y.0 (copies-kept at.point.tabs s.tabs r.shared after.shared at.shown.tabs has y.1.copies), quiet)) (λ cause t m why. store_parks bytes t0 why.0 (λ e. full-when program at.point.place at.point.regs at.point.priv n e at.row at.shown.tabs why.0)) (landed w a x r z at d)
  within-leads {n = n} sees (calling p q is at before) =
      let d = any_call-leads l p q program is r.shared at.ok at.row in
      settles (λ s k less inner row v ok. called p q is at before (quiet d) s k less inner row v ok) (λ p s y has. false_true (sym before ∙ y)) (λ cause t m why. call_parks why) (landed w a x r z at d)
    where
      stays-so : {rs : Regs} {place : Place} {s : Priv} {t : Tabs} {m : Memory} {k : ℕ} → is_sixth at.point.place ≡ false → AnyCallNext l p q at.point.place at.point.tabs r.shared place rs s t m k → LeavesTables r.shared m
      stays-so e (any.word row first other leaves) = leaves
      stays-so e (any.call answer from) = false_true (sym e ∙ ap is_sixth from)

      quiet : Led l program (block_at l p) (AnyCallNext l p q at.point.place at.point.tabs r.shared) (λ target rs t m. is_seventh at.point.place ≡ true) (λ cause t m. cause ≡ park.LogFull) n (exec_some (block_at l p) (code l (block l p Ecall) at.point.place) at.point r.shared)
          → is_sixth at.point.place ≡ false → IsQuiet w r
      quiet d e = quiet-by at (LeavesTables r.shared) (λ f. not-raised r.shared table_start (f table_start (omega arith))) (λ s m k row. stays-so e row) (λ p s m y. false_true (sym before ∙ y)) d
  within-leads {n = n} sees (answered p answer q is at) = behind-call p answer q is at
  within-leads {n = n} sees (restarting site q base words is fits at) =
      let d = restart_leads l site q base words program is n at.point.place at.point.regs at.point.priv at.point.tabs r.shared at.ok at.row.1 at.row.0 in
      settles (λ s k less inner row v ok. by_row (quiet d) s k less inner row v ok) (λ p s y has. absurd y) (λ cause t m why. absurd why) (landed w a x r z at d)
    where
      stays-so : {rs : Regs} {place : Place} {s : Priv} {t : Tabs} {m : Memory} {k : ℕ} → is_hcall at.point.place ≡ false → RestartNext l site q at.point.place r.shared place rs s t m k → (b : ℕ) → b < table_start → m b ≡ r.shared b
      stays-so e (word row first leaves) = leaves
      stays-so e (call answer new from small is_answered row) = false_true (sym e ∙ ap is_hcall from)

      quiet : Led l program base (RestartNext l site q at.point.place r.shared) (λ target rs t m. ⊥) (λ cause t m. ⊥) n (exec_some base (code l words at.point.place) at.point r.shared) → is_hcall at.point.place ≡ false → IsQuiet w r
      quiet d e = quiet-by at (λ m. (b : ℕ) → b < table_start → m b ≡ r.shared b) (λ f. not-raised r.shared 0 (f 0 (lit< tt))) (λ s m k row. stays-so e row) (λ p s m y. absurd y) d

      by_row : (is_hcall at.point.place ≡ false → IsQuiet w r) → (s : Point) (k : ℕ) → k < n → is_inner s.place ≡ true → RestartNext l site q at.point.place r.shared s.place s.regs s.priv s.tabs after.shared k → Sees l base after s after.shared → TableOk l s.tabs
          → LeadsOn (restarts site q) n
      by_row quiet s k less inner (word row first leaves) v ok =
          goes k less (restarting site q base words is fits (step-to w a x r z at s v ok (row, box_stays r.shared after.shared site q (λ b g h. leaves b (omega arith)) at.row.1))) clears
          (inner-pad base s at.code.lawful (inl (restart-place row)) v) (quiet first)
      by_row quiet s k less inner (call answer new from small is_answered row) v ok =
          let f : AtHcall l q at.point.regs at.point.tabs = at-hcall at.row.0 (ap is_hcall from) in
          turns k less (site + 4) new
          (asks_again answer at.point.regs at.point.tabs (fetched at (Hcall true) (ap (code l words) from)) at.shown.regs f.loaded at.shown.tabs f.fresh refl is_answered)
          (unboxing site new base words is (record { lawful = fits.lawful; small = fits.small; place = fits.place; pad = fits.pad }) (step-to w a x r z at s v ok row))
          (inner-pad base s at.code.lawful (restarted-place row) v)
  within-leads {n = n} sees (unboxing site q base words is fits at) =
      let d = restarted_leads l site q base words program is fits n at.point.place at.point.regs at.point.priv at.point.tabs r.shared at.ok at.row in
      let quiet : IsQuiet w r = quiet-by at IsLeft not-left (λ s m k row. same-left row.1.memory) (λ p s m y. same-left y.same.memory) d in
      settles (λ s k less inner row v ok. goes k less (unboxing site q base words is fits (step-to w a x r z at s v ok row.0)) (all row.1.memory) (inner-pad base s at.code.lawful (restarted-place row.0) v) quiet)
      (λ p s y has. (returns y.behind y.registers y.same.memory, quiet)) (λ cause t m why. last_site why.fault why.last) (landed w a x r z at d)
