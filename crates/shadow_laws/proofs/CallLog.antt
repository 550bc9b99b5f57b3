-- In a call's block the hint log gets the pair of the planned call, once.
use Rattle.std.proofs.Common.{◌≡◌, ℕ, ◌+◌, ◌-◌, ◌/◌, ◌%◌, ◌^◌, ◌≤◌, ◌<◌, ◌⊎◌, inl, inr, Bool, true, false, ◌&&◌, not, ◌==◌, nat_le, List, [], ◌∷◌, ◌++◌, length, slice_get, Option, Some, None, refl, ◌∙◌, ap, ap₂, sym, subst, arith, eqb→eq, lit<, lit≤}
use Rattle.std.proofs.lemmas.Bool.Decides.{nat_tests}
use Rattle.std.proofs.lemmas.List.{length-append, append-nil, append_assoc}
use Rattle.spec_base.specs.Layout.{link_start}
use Rattle.spec_base.specs.declared.layout.Layout.{Layout}
use Rattle.spec_base.specs.declared.machine.View.TheVariants.{Shadow}
use Rattle.spec_base.specs.declared.note.Move.{Move}
use Rattle.spec_base.specs.declared.note.Move.TheVariants.{O, S, T, D}
use Rattle.spec_base.specs.declared.note.ShadowState.{ShadowState}
use Rattle.spec_base.specs.declared.note.ShadowState.TheVariants.{Never, Running, Stopped, Parked}
use Rattle.spec_base.specs.declared.park.Park.{Park}
use Rattle.rv_decode.specs.declared.instr.Instr.{Instr}
use Rattle.rv_decode.specs.declared.instr.Instr.TheVariants.{Ecall, Hkey, Hcall, Hpark}
use Rattle.spec_base.specs.Word.{byte_of}
use Rattle.rv_model.specs.Memory.{Memory, stored, zeros}
use Rattle.rv_model.proofs.Laws.{patched_outside}
use Rattle.rv_model.specs.Effect.{Effect, Next, Stored, Trapped, Called, Gated, effect, fetched}
use Rattle.rv_model.specs.Registers.{Registers, reg}
use Rattle.rv_model.specs.Rights.{is_data, in_private, shadow_rights}
use Rattle.rv_model.specs.Space.{program_byte}
use Rattle.program_model.specs.Cache.{in_flight}
use Rattle.program_model.specs.Calls.{Set, CallKind, Open, OpenAt, Close, Seek, ReadFile, WriteFile, ExitProgram, Break, Unknown, kind_of, plan_by, Named, Refused, Whole, name_at, look_if_free, open_named, open_plan, call_plan, key_of}
use Rattle.program_model.specs.Descriptors.{Descriptors, lowest_free, EINVAL}
use Rattle.program_model.specs.PlainRun.{text_of}
use Rattle.spec_base.specs.Files.{Name}
use Rattle.code_model.specs.Blocks.{block}
use Rattle.code_model.specs.Log.{log_head, log_tail, logged, IsQueue}
use Rattle.code_model.specs.Places.{block_at}
use Rattle.code_model.specs.Regions.{shadowed}
use Rattle.code_model.specs.Tables.{TableOk}
use Rattle.run_model.specs.Run.{World, Run, RunEnd, Answer, opened_run, rewritten_words}
use Rattle.run_model.specs.ShadowMoves.{fetch_shadow, is_call_word, is_running, is_arrival, arrived_if, word_counted, shadow_plan, shadow_gate, shadow_stores, shadow_after, shadow_at_word, shadow_in, shadow_step}
use Rattle.run_model.specs.Moves.{Moves, step, step_unless, begun, run, run_from, shadow_while}
use Rattle.run_model.specs.OwnMoves.{own_step}
use Rattle.run_laws.specs.OwnLaws.{Accepted, IsShadowMove}
use Rattle.run_laws.specs.StubLaws.{TakesOldest, leaves, takes_pair, is_halted}
use Rattle.run_laws.specs.LogLaws.{IsInCallBlock, AppendsCall, CallAppends}
use Rattle.run_laws.specs.LogLaws as law
use Rattle.own_laws.proofs.InvisibleShadow.{effect-no_call, NoCall, shadow_move-keeps, shadow_view}
use Rattle.own_laws.proofs.Reached.{none_some, false_true}
use Rattle.own_laws.proofs.Side.{Kept}
use Rattle.own_laws.proofs.MoveLists.{run_from-snoc, run_from-append}
use Rattle.side_model.specs.Hart.{Regs, get, put, Priv}
use Rattle.code_model.specs.Tables.{Tabs}
use Rattle.side_model.specs.Places.{Place, InBlock, InHelper, Away, Appending, address, code, HasBlock, IsInstruction}
use Rattle.side_model.specs.Rows.{Led}
use Rattle.side_model.specs.Sees.{Shade, shade_of, HasRegs, Sees, Landed, goes_on, arrived, parked}
use Rattle.side_model.specs.Words.{Point, exec_some}
use Rattle.side_model.proofs.Fetching.{Fetches, code-fetches}
use Rattle.side_model.proofs.Numbers.{TextFits}
use Rattle.side_model.proofs.Private.{priv_of, HasPriv-of}
use Rattle.side_model.proofs.Registers.{regs_of, HasRegs-of}
use Rattle.rows_log.specs.CallRows.{Stage, Before, AtStage, Settled, keyless, keyed, CallRow, b1, b2, b3, b4, b5, b6, a1, a2, a3, a4, a5, a6, a7, a8, a9, a10, a11, a12, a13, a14, a15, a16, a17, a18, a19, a20, a21, a22, a23, a24, full, before_key, KeyStep, keeps_key, finds_key, CallNext, word, call, CallArrives, LogIsFull}
use Rattle.rows_log.specs.Queue.{Takes}
use Rattle.rows_log.proofs.CallWords.{call_leads, call_starts, called_arrives, stages-stay}
use Rattle.rows_log.proofs.QueueLaws.{head-takes}
use Rattle.shadow_laws.proofs.LogMoves.{tail-small}
use Rattle.shadow_laws.proofs.LogRuns.{run-inv, took-at}
use Rattle.shadow_laws.proofs.LoggedSteps.{key-small}
use Rattle.shadow_laws.proofs.OwnShades.{Watched, watched_of, OwnShade, same, links, halts, begins, own-shade, fetch-shade}
use Rattle.shadow_laws.proofs.ShadowNumbers.{Sized, stock_of, run-sized}
use Rattle.shadow_laws.proofs.ShadowRuns.{HasTables, has-tables, run-keeps, call-site, block-arrives, running-counted, resting-stays}
use Rattle.shadow_laws.proofs.Sound.{At, stopped_running, never_running, parked_running}
use Rattle.shadow_laws.proofs.SoundSteps.{landed, next, stays-at}
use Rattle.shadow_laws.proofs.TextBlocks.{InText, at-address, text}

-- ---- the key of a call

free-keyless : (f : Descriptors) (name : Name) (o : Option ℕ) → key_of (look_if_free f name o) ≡ 0
free-keyless f name None = refl
free-keyless f name (Some d) = refl

named-keyless : (f : Descriptors) (n : Named) → key_of (open_named f n) ≡ 0
named-keyless f (Refused answer) = refl
named-keyless f (Whole name) = free-keyless f name (lowest_free f.slots 0)

open-keyless : (d : ℕ → Bool) (m : Memory) (f : Descriptors) (name flags : ℕ) → key_of (open_plan d m f name flags) ≡ 0
open-keyless d m f name flags = by_flags (flags % 4 == 0)
  where
    by_flags : (b : Bool) → key_of (elim b [ true ↦ open_named f (name_at d m name) | false ↦ Set f EINVAL ]) ≡ 0
    by_flags true = named-keyless f (name_at d m name)
    by_flags false = refl

-- it rests on no memory
same-key : (d : ℕ → Bool) (m m' : Memory) (f : Descriptors) (number x10 x11 x12 : ℕ) → key_of (call_plan d m f number x10 x11 x12) ≡ key_of (call_plan d m' f number x10 x11 x12)
same-key d m m' f number x10 x11 x12 = by_kind (kind_of number)
  where
    by_kind : (k : CallKind) → key_of (plan_by d m f k x10 x11 x12) ≡ key_of (plan_by d m' f k x10 x11 x12)
    by_kind Open = open-keyless d m f x10 x11 ∙ sym (open-keyless d m' f x10 x11)
    by_kind OpenAt = open-keyless d m f x11 x12 ∙ sym (open-keyless d m' f x11 x12)
    by_kind Close = refl
    by_kind Seek = refl
    by_kind ReadFile = refl
    by_kind WriteFile = refl
    by_kind ExitProgram = refl
    by_kind Break = refl
    by_kind Unknown = refl

-- ---- rows

-- a row has words left, and before the HCALL its word is no call
row-facts : {l : Layout} {p : ℕ} {q : Regs} {tail key : ℕ} {place : Place} {rs : Regs} {s : Priv} {stage : Stage} {n : ℕ} → CallRow l p q tail key place rs s stage n
    → (1 ≤ n) × ((place ≡ InBlock 6) ⊎ (is_call_word (code l (block l p Ecall) place) ≡ false))
row-facts (b1 s) = (lit≤ tt, inr refl)
row-facts (b2 s) = (lit≤ tt, inr refl)
row-facts (b3 s) = (lit≤ tt, inr refl)
row-facts (a1 s) = (lit≤ tt, inr refl)
row-facts (a2 s) = (lit≤ tt, inr refl)
row-facts (a3 s) = (lit≤ tt, inr refl)
row-facts (a4 s) = (lit≤ tt, inr refl)
row-facts (a5 s e) = (lit≤ tt, inr refl)
row-facts (a6 s e) = (lit≤ tt, inr refl)
row-facts (a7 s e) = (lit≤ tt, inr refl)
row-facts (a8 s e) = (lit≤ tt, inr refl)
row-facts (a9 s e) = (lit≤ tt, inr refl)
row-facts (a10 head s e) = (lit≤ tt, inr refl)
row-facts (a11 head s e) = (lit≤ tt, inr refl)
row-facts (a12 head s e) = (lit≤ tt, inr refl)
row-facts (a13 s e) = (lit≤ tt, inr refl)
row-facts (a14 s e) = (lit≤ tt, inr refl)
row-facts (a15 s e) = (lit≤ tt, inr refl)
row-facts (a16 s e) = (lit≤ tt, inr refl)
row-facts (a17 s e) = (lit≤ tt, inr refl)
row-facts (a18 s e) = (lit≤ tt, inr refl)
row-facts (a19 s e) = (lit≤ tt, inr refl)
row-facts (a20 s e) = (lit≤ tt, inr refl)
row-facts (a21 s e) = (lit≤ tt, inr refl)
row-facts (a22 s e) = (lit≤ tt, inr refl)
row-facts (a23 s z) = (lit≤ tt, inr refl)
row-facts (a24 s z) = (lit≤ tt, inr refl)
row-facts (b4 s z) = (lit≤ tt, inr refl)
row-facts (b5 s z) = (lit≤ tt, inr refl)
row-facts (b6 s z) = (lit≤ tt, inl refl)
row-facts (full head s e f) = (lit≤ tt, inr refl)

-- two words are left at the HCALL, where all registers are the program's, and the call is done with the log
at-six : {l : Layout} {p : ℕ} {q : Regs} {tail key : ℕ} {rs : Regs} {s : Priv} {stage : Stage} {n : ℕ} → CallRow l p q tail key (InBlock 6) rs s stage n → (n ≡ 2) × (rs ≡ q) × Settled key stage
at-six (b6 s z) = (refl, refl, z)

-- behind HKEY x31 has the key
key-there : {l : Layout} {p : ℕ} {q : Regs} {tail key : ℕ} {rs : Regs} {s : Priv} {stage : Stage} {n : ℕ} → CallRow l p q tail key (InHelper Appending 3) rs s stage n → get 31 rs ≡ key
key-there (a4 s) = refl

-- before it the registers of the call are the program's
record AreArguments (rs q : Regs) : Type 0 where
  x17 : get 17 rs ≡ get 17 q
  x10 : get 10 rs ≡ get 10 q
  x11 : get 11 rs ≡ get 11 q
  x12 : get 12 rs ≡ get 12 q

before-key : {l : Layout} {p : ℕ} {q : Regs} {tail key : ℕ} {rs : Regs} {s : Priv} {stage : Stage} {n : ℕ} → CallRow l p q tail key (InHelper Appending 2) rs s stage n → AreArguments rs q
before-key (a3 s) = record { x17 = refl; x10 = refl; x11 = refl; x12 = refl }

no-away : {l : Layout} {p : ℕ} {q : Regs} {tail key a : ℕ} {rs : Regs} {s : Priv} {stage : Stage} {n : ℕ} → CallRow l p q tail key (Away a) rs s stage n → ⊥
no-away h = elim h [ ]

-- ---- a word of the shadow

-- an arrival leaves the registers and the descriptors
arrived-registers : (b : Bool) (r : Run) → (word_counted (arrived_if b r)).shadow.registers ≡ r.shadow.registers
arrived-registers true r = refl
arrived-registers false r = refl

arrived-files : (b : Bool) (r : Run) → (word_counted (arrived_if b r)).shadow.files ≡ r.shadow.files
arrived-files true r = refl
arrived-files false r = refl

module _ (w : World) (x : Answer) (r : Run) where
  stores-files : (b : Bool) (a width v : ℕ) → (shadow_stores b r a width v).shadow.files ≡ r.shadow.files
  stores-files true a width v = refl
  stores-files false a width v = refl

  gate-files : (i : Instr) → NoCall (Gated i) → (shadow_gate w x r i).shadow.files ≡ r.shadow.files
  gate-files (Hcall unhinted) n = absurd n.by
  gate-files (Hkey rd) n = refl
  gate-files (Hpark cause) n = refl
  gate-files _ n = refl

  after-files : (e : Effect) → NoCall e → (shadow_after w x r e).shadow.files ≡ r.shadow.files
  after-files (Next rs pc) n = refl
  after-files (Stored a width v) n = stores-files (in_private a) a width v
  after-files (Trapped cause) n = refl
  after-files Called n = refl
  after-files (Gated i) n = gate-files i n

  -- a word that is no call leaves the descriptors
  step-files : (i : Instr) → r.shadow.state ≡ Running → fetch_shadow w r.shadow.pc ≡ Some i → is_call_word (Some i) ≡ false → (shadow_step w x r).shadow.files ≡ r.shadow.files
  step-files i running f e =
      let m : Memory = shadow_view w r in
      let y : Run = shadow_after w x r (effect Shadow (shadow_rights w.image.layout) m r.shadow.registers r.shadow.pc i) in
      subst (λ z. (shadow_in z w x r).shadow.files ≡ r.shadow.files) (sym running)
      (subst (λ o. (word_counted (shadow_at_word w x r o)).shadow.files ≡ r.shadow.files) (sym f)
      (arrived-files (is_running y.shadow.state && is_arrival w.image.layout y.shadow.pc) y
      ∙ after-files _ (effect-no_call (shadow_rights w.image.layout) m r.shadow.registers r.shadow.pc i e)))

  -- HKEY x31 gives the key of the planned call
  step-key : r.shadow.state ≡ Running → fetch_shadow w r.shadow.pc ≡ Some (Hkey 31) → reg (shadow_step w x r).shadow.registers 31 ≡ key_of (shadow_plan w r)
  step-key running f =
      let m : Memory = shadow_view w r in
      let y : Run = shadow_after w x r (effect Shadow (shadow_rights w.image.layout) m r.shadow.registers r.shadow.pc (Hkey 31)) in
      subst (λ z. reg (shadow_in z w x r).shadow.registers 31 ≡ key_of (shadow_plan w r)) (sym running)
      (subst (λ o. reg (word_counted (shadow_at_word w x r o)).shadow.registers 31 ≡ key_of (shadow_plan w r)) (sym f)
      (ap (λ (rs : Registers). rs 31) (arrived-registers (is_running y.shadow.state && is_arrival w.image.layout y.shadow.pc) y)))

-- ---- in the call's block

module _ (w : World) (a : Accepted w) (p : ℕ) (is : IsInstruction w.image.layout p) (q : Regs) (count_small : get 12 q < 2 ^ 64) (tail : ℕ) (files : Descriptors) where
  abbrev l : Layout
  l = w.image.layout

  abbrev base : ℕ
  base = block_at l p

  abbrev words : List Instr
  words = block l p Ecall

  abbrev the_key : ℕ
  the_key = key_of (call_plan (is_data l) zeros files (get 17 q) (get 10 q) (get 11 q) (get 12 q))

  -- a run whose shadow has these descriptors and these arguments plans a call with that key
  planned : (r : Run) → r.shadow.files ≡ files → (rs : Regs) → AreArguments rs q → ((n : ℕ) → reg r.shadow.registers n ≡ get n rs) → key_of (shadow_plan w r) ≡ the_key
  planned r e rs args shown =
      let k : Descriptors → ℕ → ℕ → ℕ → ℕ → ℕ = λ f x17 x10 x11 x12. key_of (call_plan (is_data l) zeros f x17 x10 x11 x12) in
      same-key (is_data l) (shadowed r.shared r.own.memory) zeros r.shadow.files (reg r.shadow.registers 17) (reg r.shadow.registers 10) (reg r.shadow.registers 11) (reg r.shadow.registers 12)
      ∙ ap (λ f. k f (reg r.shadow.registers 17) (reg r.shadow.registers 10) (reg r.shadow.registers 11) (reg r.shadow.registers 12)) e
      ∙ ap (λ x. k files x (reg r.shadow.registers 10) (reg r.shadow.registers 11) (reg r.shadow.registers 12)) (shown 17 ∙ args.x17)
      ∙ ap (λ x. k files (get 17 q) x (reg r.shadow.registers 11) (reg r.shadow.registers 12)) (shown 10 ∙ args.x10)
      ∙ ap (λ x. k files (get 17 q) (get 10 q) x (reg r.shadow.registers 12)) (shown 11 ∙ args.x11)
      ∙ ap (λ x. k files (get 17 q) (get 10 q) (get 11 q) x) (shown 12 ∙ args.x12)

  -- the key isn't known yet, or it is the planned call's
  data KeyAt (key : ℕ) (place : Place) : Type 0 where
    unknown : before_key place ≡ true → KeyAt key place
    known : key ≡ the_key → KeyAt key place

  -- a row of the call
  record Tracked (place : Place) (rs : Regs) (s : Priv) (t : Tabs) (m : Memory) (n : ℕ) : Type 0 where
    key : ℕ
    stage : Stage
    row : CallRow l p q tail key place rs s stage n
    log : AtStage tail (get 12 q) stage m
    small : key < 2 ^ 64
    found : KeyAt key place

  -- the word behind the HCALL
  record Behind (place : Place) (rs : Regs) (s : Priv) (t : Tabs) (m : Memory) (n : ℕ) : Type 0 where
    answer : ℕ
    here : place ≡ InBlock 7
    registers : rs ≡ put 10 answer q
    one : n ≡ 1

  -- where the shadow is: up to the HCALL, at LOGFULL, or behind the HCALL
  data Tracks (h : Shade) : Type 0 where
    in_call : (n : ℕ) → At w base words Tracked h n → h.hart.files ≡ files → Tracks h
    at_park : (n : ℕ) → At w base words Tracked h n → n ≤ 1 → Tracks h
    behind : (n : ℕ) → At w base words Behind h n → Tracks h

  runs-on : (h : Shade) → Tracks h → h.hart.state ≡ Running
  runs-on h (in_call n at f) = at.shown.running
  runs-on h (at_park n at f) = at.shown.running
  runs-on h (behind n at) = at.shown.running

  -- ---- a word

  -- what the key is behind a word
  key-next : {key found : ℕ} {from place : Place} → KeyStep key from place found → KeyAt key from → (from ≡ InHelper Appending 2 → place ≡ InHelper Appending 3 → found ≡ the_key) → KeyAt found place
  key-next (keeps_key stays_known) (known e) tie = known e
  key-next {key = key} {from = from} {place = place} (keeps_key stays_known) (unknown u) tie = by_place (before_key place) refl
    where
      no : (b c : Bool) → b ≡ true → c ≡ false → (b && not c) ≡ false → ⊥
      no true false e f g = true_false g
        where
          true_false : true ≡ false → ⊥
          true_false e = cc
      no true true e f g = true_false f
        where
          true_false : true ≡ false → ⊥
          true_false e = cc
      no false c e f g = false_true e

      by_place : (b : Bool) → before_key place ≡ b → KeyAt key place
      by_place true e = unknown e
      by_place false e = absurd (no (before_key from) (before_key place) u e stays_known)
  key-next (finds_key found small) k tie = known (tie refl refl)

  -- where a word leads
  data Led_to (y after : Run) : Type 0 where
    tracks : Tracks (shade_of after) → Led_to y after
    parks : {cause : Park} → after.shadow.state ≡ Parked cause → Led_to y after
    arrives : after.since.shadow ≡ y.since.shadow + 1 → Led_to y after

  module _ (x : Answer) (y : Run) (z : Sized (stock_of y)) (small : log_tail y.shared < 2 ^ 64 - 1) where
    abbrev after : Run
    after = shadow_step w x y

    abbrev program : Memory
    program = program_byte l (rewritten_words w) y.own.memory

    -- at a row of the call
    call-tracks : (n : ℕ) (at : At w base words Tracked (shade_of y) n) → (y.shadow.files ≡ files) ⊎ (n ≤ 1) → Led_to y after
    call-tracks n at known_files = by_code (code l words from) refl led
      where
        from : Place
        from = at.point.place

        led : Led l program base (CallNext l p q tail at.row.key from at.row.stage at.point.tabs y.shared) (λ target rs t m. ⊥) (LogIsFull at.row.key from at.row.stage at.point.tabs y.shared) n (exec_some base (code l words from) at.point y.shared)
        led = call_leads l p q tail at.row.key program is at.row.small count_small n from at.point.regs at.point.priv at.row.stage at.point.tabs y.shared at.ok small at.row.row at.row.log

        -- HKEY finds the planned call's key
        tie : (s : Point) (found : ℕ) (stage : Stage) (k : ℕ) → CallRow l p q tail found s.place s.regs s.priv stage k → HasRegs after.shadow.registers s.regs → y.shadow.files ≡ files
            → from ≡ InHelper Appending 2 → s.place ≡ InHelper Appending 3 → found ≡ the_key
        tie s found stage k row shown alike here there =
            let x31 : get 31 s.regs ≡ found = key-there (subst (λ place. CallRow l p q tail found place s.regs s.priv stage k) there row) in
            let args : AreArguments at.point.regs q = before-key (subst (λ place. CallRow l p q tail at.row.key place at.point.regs at.point.priv at.row.stage n) here at.row.row) in
            let word : code l words from ≡ Some (Hkey 31) = ap (code l words) here in
            let fetch : Fetches w (address base from) (Hkey 31) = code-fetches w base words from (Hkey 31) at.code word in
            sym (shown.at 31 ∙ x31) ∙ step-key w x y at.shown.running (ap (fetch_shadow w) at.shown.pc ∙ fetch.word) ∙ planned y alike at.point.regs args at.shown.regs.at

        leads-on : (i : Instr) → code l words from ≡ Some i → (s : Point) (k : ℕ) → k < n → CallNext l p q tail at.row.key from at.row.stage at.point.tabs y.shared s.place s.regs s.priv s.tabs after.shared k
            → Sees l base (shade_of after) s after.shared → TableOk l s.tabs → (y.shadow.files ≡ files) ⊎ (n ≤ 1) → Led_to y after
        leads-on i e s k less (word found stage row log by head change) v ok (inr few) = absurd (omega (arith, less, few, (row-facts row).0))
        leads-on i e s k less (call answer six small_answer) v ok f = tracks (behind 1 (next w a x y z at s v ok (record { answer = answer; here = refl; registers = refl; one = refl })))
        leads-on i e s k less (word found stage row log by head change) v ok (inl alike) = by_call (row-facts at.row.row).1
          where
            here : At w base words Tracked (shade_of after) k
            here =
                next w a x y z at s v ok
                (record { key = found; stage = stage; row = row; log = log; small = key-small at.row.small by; found = key-next by at.row.found (tie s found stage k row v.regs alike) })

            fetch : Fetches w (address base from) i
            fetch = code-fetches w base words from i at.code e

            by_call : (from ≡ InBlock 6) ⊎ (is_call_word (code l words from) ≡ false) → Led_to y after
            by_call (inl six) =
                let two = at-six (subst (λ place. CallRow l p q tail at.row.key place at.point.regs at.point.priv at.row.stage n) six at.row.row) in
                tracks (at_park k here (omega (arith, less, two.0)))
            by_call (inr other) =
                tracks (in_call k here (step-files w x y i at.shown.running (ap (fetch_shadow w) at.shown.pc ∙ fetch.word) (ap is_call_word (sym e) ∙ other) ∙ alike))

        by_landing : (i : Instr) → code l words from ≡ Some i → Landed l base (CallNext l p q tail at.row.key from at.row.stage at.point.tabs y.shared) (λ target rs t m. ⊥) (LogIsFull at.row.key from at.row.stage at.point.tabs y.shared) n (shade_of after) → Led_to y after
        by_landing i e (goes_on k s m row ok less inner v) =
            leads-on i e s k less (subst (λ m. CallNext l p q tail at.row.key from at.row.stage at.point.tabs y.shared s.place s.regs s.priv s.tabs m k) (sym v.shared) row)
            (record { pc = v.pc; regs = v.regs; priv = v.priv; tabs = v.tabs; shared = refl; running = v.running }) ok known_files
        by_landing i e (arrived to s m none ok b f v) = absurd none
        by_landing i e (parked cause t m why ok has state) = parks state

        by_code : (o : Option Instr) → code l words from ≡ o
            → Led l program base (CallNext l p q tail at.row.key from at.row.stage at.point.tabs y.shared) (λ target rs t m. ⊥) (LogIsFull at.row.key from at.row.stage at.point.tabs y.shared) n (exec_some base o at.point y.shared) → Led_to y after
        by_code None e d = elim d [ ]
        by_code (Some i) e d = by_landing i e (landed w a x y z at led)

    -- behind the HCALL
    abbrev BehindLeads : ℕ → Priv → Tabs → Place → Regs → ℕ → Type 0
    BehindLeads answer priv tabs place rs k =
        Led l program base (λ place rs s t m k. ⊥) (CallArrives p q answer tabs y.shared) (λ cause t m. ⊥) k
        (exec_some base (code l words place) (record { place = place; regs = rs; priv = priv; tabs = tabs }) y.shared)

    behind-tracks : (n : ℕ) → At w base words Behind (shade_of y) n → Led_to y after
    behind-tracks n at = by_landing (landed w a x y z at led)
      where
        led : BehindLeads at.row.answer at.point.priv at.point.tabs at.point.place at.point.regs n
        led =
            subst (λ k. BehindLeads at.row.answer at.point.priv at.point.tabs at.point.place at.point.regs k) (sym at.row.one)
            (subst (λ place. BehindLeads at.row.answer at.point.priv at.point.tabs place at.point.regs 1) (sym at.row.here)
            (subst (λ rs. BehindLeads at.row.answer at.point.priv at.point.tabs (InBlock 7) rs 1) (sym at.row.registers)
            (called_arrives l p q at.row.answer program is at.point.priv at.point.tabs y.shared at.ok)))

        by_landing : Landed l base (λ place rs s t m k. ⊥) (CallArrives p q at.row.answer at.point.tabs y.shared) (λ cause t m. ⊥) n (shade_of after) → Led_to y after
        by_landing (goes_on k s m row ok less inner v) = absurd row
        by_landing (arrived to s m there ok b e v) =
            arrives ((running-counted w x y at.shown.running).arrives v.running (ap (is_arrival l) (v.pc ∙ e) ∙ block-arrives w a to b))
        by_landing (parked cause t m why ok has state) = parks state

    word-tracks : Tracks (shade_of y) → Led_to y after
    word-tracks (in_call n at f) = call-tracks n at (inl f)
    word-tracks (at_park n at few) = call-tracks n at (inr few)
    word-tracks (behind n at) = behind-tracks n at

  -- ---- the own hart takes a pair

  head-left : (m : Memory) (v b : ℕ) → link_start + 8 ≤ b → stored m link_start 8 v b ≡ m b
  head-left m v b h = patched_outside m link_start 8 (byte_of v) b (λ e f. omega (arith, e, f, h))

  row-stays : (h : Shade) (v : ℕ) → Takes h.shared (stored h.shared link_start 8 v) → {place : Place} {rs : Regs} {s : Priv} {t : Tabs} {n : ℕ} → Tracked place rs s t h.shared n → Tracked place rs s t (stored h.shared link_start 8 v) n
  row-stays h v takes row =
      record {
        key = row.key;
        stage = row.stage;
        row = row.row;
        log = stages-stay tail (get 12 q) row.stage h.shared (stored h.shared link_start 8 v) row.log takes;
        small = row.small;
        found = row.found;
      }

  takes-tracks : (h : Shade) (v : ℕ) → Takes h.shared (stored h.shared link_start 8 v) → Tracks h → Tracks (record h { shared = stored h.shared link_start 8 v })
  takes-tracks h v takes (in_call n at f) = in_call n (stays-at (head-left h.shared v) at (row-stays h v takes at.row)) f
  takes-tracks h v takes (at_park n at f) = at_park n (stays-at (head-left h.shared v) at (row-stays h v takes at.row)) f
  takes-tracks h v takes (behind n at) = behind n (stays-at (head-left h.shared v) at (record { answer = at.row.answer; here = at.row.here; registers = at.row.registers; one = at.row.one }))

  -- ---- along a run

  -- the shadow is still in the call, has arrived elsewhere, doesn't run, or was restarted
  data Since (restarts arrivals : ℕ) (s : Watched) : Type 0 where
    here : Tracks s.shade → s.restarts ≡ restarts → arrivals ≤ s.arrivals → Since restarts arrivals s
    passed : s.restarts ≡ restarts → arrivals < s.arrivals → Since restarts arrivals s
    rests : s.restarts ≡ restarts → (s.shade.hart.state ≡ Running → ⊥) → Since restarts arrivals s
    anew : restarts < s.restarts → Since restarts arrivals s

  module _ (restarts arrivals : ℕ) where
    -- a word of the shadow
    word-since : (x : Answer) (y : Run) → Sized (stock_of y) → (y.shadow.state ≡ Running → log_tail y.shared < 2 ^ 64 - 1) → (shadow_step w x y).restarts ≡ y.restarts → Since restarts arrivals (watched_of y) → Since restarts arrivals (watched_of (shadow_step w x y))
    word-since x y z small same_restarts (here t r m) = by_word (word-tracks x y z (small (runs-on (shade_of y) t)) t)
      where
        most : y.since.shadow ≤ (shadow_step w x y).since.shadow
        most = (running-counted w x y (runs-on (shade_of y) t)).most

        by_word : Led_to y (shadow_step w x y) → Since restarts arrivals (watched_of (shadow_step w x y))
        by_word (tracks t') = here t' (same_restarts ∙ r) (omega (arith, m, most))
        by_word (parks state) = rests (same_restarts ∙ r) (λ f. parked_running (sym state ∙ f))
        by_word (arrives one) = passed (same_restarts ∙ r) (omega (arith, m, one))
    word-since x y z small same_restarts (passed r less) = passed (same_restarts ∙ r) (omega (arith, less, most y.shadow.state refl))
      where
        most : (s : ShadowState) → y.shadow.state ≡ s → y.since.shadow ≤ (shadow_step w x y).since.shadow
        most Running e = (running-counted w x y e).most
        most Never e = omega (arith, ap (λ (r : Run). r.since.shadow) (resting-stays w a x y y.shadow.state refl (λ f. never_running (sym e ∙ f))))
        most Stopped e = omega (arith, ap (λ (r : Run). r.since.shadow) (resting-stays w a x y y.shadow.state refl (λ f. stopped_running (sym e ∙ f))))
        most (Parked cause) e = omega (arith, ap (λ (r : Run). r.since.shadow) (resting-stays w a x y y.shadow.state refl (λ f. parked_running (sym e ∙ f))))
    word-since x y z small same_restarts (rests r n) = subst (λ (r : Run). Since restarts arrivals (watched_of r)) (sym (resting-stays w a x y y.shadow.state refl n)) (rests r n)
    word-since x y z small same_restarts (anew less) = anew (omega (arith, less, same_restarts))

    -- an own move
    own-since : (y next : Run) → OwnShade y next → TakesOldest y next → log_tail y.shared < 2 ^ 64 → Since restarts arrivals (watched_of y) → Since restarts arrivals (watched_of next)
    own-since y next (same e) took small f = subst (λ s. Since restarts arrivals s) (sym e) f
    own-since y next (begins v e) took small f = anew (more f)
      where
        one : next.restarts ≡ y.restarts + 1
        one = ap (λ (s : Watched). s.restarts) e

        more : Since restarts arrivals (watched_of y) → restarts < next.restarts
        more (here t r m) = omega (arith, one, r)
        more (passed r less) = omega (arith, one, r)
        more (rests r n) = omega (arith, one, r)
        more (anew less) = omega (arith, one, less)
    own-since y next (halts e) took small f = by_since f
      where
        kept : next.restarts ≡ y.restarts
        kept = ap (λ (s : Watched). s.restarts) e

        still : next.shadow.state ≡ Running → ⊥
        still g = stopped_running (sym (ap (λ (s : Watched). s.shade.hart.state) e) ∙ g)

        by_since : Since restarts arrivals (watched_of y) → Since restarts arrivals (watched_of next)
        by_since (here t r m) = rests (kept ∙ r) still
        by_since (passed r less) = rests (kept ∙ r) still
        by_since (rests r n) = rests (kept ∙ r) still
        by_since (anew less) = anew (omega (arith, less, kept))
    own-since y next (links b width v low e) took small f = by_since f
      where
        kept : next.restarts ≡ y.restarts
        kept = ap (λ (s : Watched). s.restarts) e

        arrived_same : next.since.shadow ≡ y.since.shadow
        arrived_same = ap (λ (s : Watched). s.arrivals) e

        shade : shade_of next ≡ record (shade_of y) { shared = next.shared }
        shade = ap (λ (s : Watched). s.shade) e ∙ ap (λ (m : Memory). record (shade_of y) { shared = m }) (sym (ap (λ (s : Watched). s.shade.shared) e))

        stays_here : Tracks (shade_of y) → TakesOldest y next → Tracks (shade_of next)
        stays_here t (leaves g) = subst (λ h. Tracks h) (sym (shade ∙ ap (λ (m : Memory). record (shade_of y) { shared = m }) g)) t
        stays_here t (takes_pair some g) =
            subst (λ h. Tracks h) (sym (shade ∙ ap (λ (m : Memory). record (shade_of y) { shared = m }) g))
            (takes-tracks (shade_of y) (log_head y.shared + 1) (head-takes y.shared (log_head y.shared + 1) (omega arith) (omega (arith, some)) (omega (arith, some, small))) t)
        stays_here t (is_halted s) = stopped_running (sym s ∙ runs-on (shade_of y) t)

        by_since : Since restarts arrivals (watched_of y) → Since restarts arrivals (watched_of next)
        by_since (here t r m) = here (stays_here t took) (kept ∙ r) (omega (arith, m, arrived_same))
        by_since (passed r less) = passed (kept ∙ r) (omega (arith, less, arrived_same))
        by_since (rests r n) = rests (kept ∙ r) (λ g. n (sym (ap (λ (s : Watched). s.shade.hart.state) e) ∙ g))
        by_since (anew less) = anew (omega (arith, less, kept))

    -- a move
    move-since : (before : Moves) (m : Move) (x : Answer) → length before < 2 ^ 64 - 1 → Since restarts arrivals (watched_of (run w before)) → Since restarts arrivals (watched_of (step w (run w before) (m, x)))
    move-since before m x few f = by_end y.end refl m
      where
        y : Run
        y = run w before

        small : y.shadow.state ≡ Running → log_tail y.shared < 2 ^ 64 - 1
        small e = omega (arith, few, ((run-inv w a before few).0.queue (λ s. stopped_running (sym s ∙ e))).1)

        of_word : (m : Move) → IsShadowMove m → y.end ≡ None → step w y (m, x) ≡ shadow_step w x (begun y) → Since restarts arrivals (watched_of (shadow_step w x (begun y)))
        of_word m s g e =
            word-since x (begun y) (run-sized w a before) small
            (sym (ap (λ (r : Run). r.restarts) e) ∙ ap (λ (k : Kept). k.side.tally.restarts) (shadow_move-keeps w y m x s)) f

        of_own : y.end ≡ None → Since restarts arrivals (watched_of (own_step w x (begun y)))
        of_own g =
            let e : step w y (O, x) ≡ own_step w x (begun y) = ap (λ (e : Option RunEnd). step_unless e w y (O, x)) g in
            own-since y (own_step w x (begun y)) (from-begun (own-shade w x (begun y))) (subst (λ (n : Run). TakesOldest y n) e (took-at w a before x few)) (tail-small w a y (run-sized w a before)) f
          where
            from-begun : {n : Run} → OwnShade (begun y) n → OwnShade y n
            from-begun (same e) = same e
            from-begun (links b width v low e) = links b width v low e
            from-begun (halts e) = halts e
            from-begun (begins v e) = begins v e

        of_stall : (b : Bool) → y.stalled ≡ b → y.end ≡ None → Since restarts arrivals (watched_of (shadow_while b w x (begun y)))
        of_stall true e g = of_word T tt g (ap (λ (e : Option RunEnd). step_unless e w y (T, x)) g ∙ ap (λ (b : Bool). shadow_while b w x (begun y)) e)
        of_stall false e g = f

        by_end : (e : Option RunEnd) → y.end ≡ e → (m : Move) → Since restarts arrivals (watched_of (step_unless e w y (m, x)))
        by_end (Some e) g m = f
        by_end None g S = of_word S tt g (ap (λ (e : Option RunEnd). step_unless e w y (S, x)) g)
        by_end None g T = of_stall y.stalled refl g
        by_end None g O = of_own g
        by_end None g D = subst (λ s. Since restarts arrivals s) (sym (fetch-shade w (in_flight y.cache) x (begun y))) f

    -- any moves
    all-since : (on before : Moves) → length before + length on < 2 ^ 64 - 1 → Since restarts arrivals (watched_of (run w before)) → Since restarts arrivals (watched_of (run w (before ++ on)))
    all-since [] before few f = subst (λ ms. Since restarts arrivals (watched_of (run w ms))) (sym (append-nil before)) f
    all-since (m ∷ on) before few f =
        let one : Since restarts arrivals (watched_of (run w (before ++ m ∷ []))) =
        subst (λ (r : Run). Since restarts arrivals (watched_of r)) (sym (run_from-snoc w (opened_run w) before m)) (move-since before m.0 m.1 (omega (arith, few)) f) in
        subst (λ ms. Since restarts arrivals (watched_of (run w ms))) (append_assoc before (m ∷ []) on) (all-since on (before ++ m ∷ []) (omega (arith, few, length-append before (m ∷ []))) one)

  -- ---- at the HCALL

  -- a row there is the last
  place-six : {key : ℕ} {rs : Regs} {s : Priv} {stage : Stage} {n : ℕ} (place : Place) → CallRow l p q tail key place rs s stage n → address base place ≡ base + 24 → place ≡ InBlock 6
  place-six (InBlock n) row e = ap InBlock (omega (arith, e))
  place-six (InHelper h n) row e = let f : TextFits l = text w a in absurd (omega (arith, e, is.above, is.below, f.few))
  place-six (Away b) row e = absurd (no-away row)

  -- what the log has got
  settled-log : {key : ℕ} {stage : Stage} (m : Memory) → Settled key stage → AtStage tail (get 12 q) stage m → ((key ≡ 0) × (log_tail m ≡ tail)) ⊎ ((0 < key) × (log_tail m ≡ tail + 1) × (logged m tail ≡ (key, get 12 q)))
  settled-log {key} m (keyless e) (u, t) = inl (eqb→eq key 0 (rw e tt), t)
  settled-log {key} m (keyed e) (u, t, pair) = inr (grind (arith, nat_tests, e), t, pair)

  -- so it is at the call
  at-call : (old : Memory) (last : Run) → log_tail old ≡ tail → Tracks (shade_of last) → last.shadow.pc ≡ base + 24 → AppendsCall (key_of (shadow_plan w last)) (reg last.shadow.registers 12) old last.shared
  at-call old last old_tail (behind n at) e = absurd (omega (arith, e, at.shown.pc ∙ ap (address base) at.row.here))
  at-call old last old_tail (at_park n at few) e =
      let six : at.point.place ≡ InBlock 6 = place-six at.point.place at.row.row (sym at.shown.pc ∙ e) in
      let two = at-six (subst (λ place. CallRow l p q tail at.row.key place at.point.regs at.point.priv at.row.stage n) six at.row.row) in
      absurd (omega (arith, two.0, few))
  at-call old last old_tail (in_call n at f) e = by_log (settled-log last.shared two.2 at.row.log)
    where
      six : at.point.place ≡ InBlock 6
      six = place-six at.point.place at.row.row (sym at.shown.pc ∙ e)

      two : (n ≡ 2) × (at.point.regs ≡ q) × Settled at.row.key at.row.stage
      two = at-six (subst (λ place. CallRow l p q tail at.row.key place at.point.regs at.point.priv at.row.stage n) six at.row.row)

      args : AreArguments at.point.regs q
      args = record { x17 = ap (get 17) two.1; x10 = ap (get 10) two.1; x11 = ap (get 11) two.1; x12 = ap (get 12) two.1 }

      known_key : KeyAt at.row.key at.point.place → at.row.key ≡ the_key
      known_key (known g) = g
      known_key (unknown u) = false_true (sym (ap before_key six) ∙ u)

      key_is : key_of (shadow_plan w last) ≡ at.row.key
      key_is = planned last f at.point.regs args at.shown.regs.at ∙ sym (known_key at.row.found)

      count_is : reg last.shadow.registers 12 ≡ get 12 q
      count_is = at.shown.regs.at 12 ∙ args.x12

      by_log : ((at.row.key ≡ 0) × (log_tail last.shared ≡ tail)) ⊎ ((0 < at.row.key) × (log_tail last.shared ≡ tail + 1) × (logged last.shared tail ≡ (at.row.key, get 12 q)))
          → AppendsCall (key_of (shadow_plan w last)) (reg last.shadow.registers 12) old last.shared
      by_log (inl (none, same_tail)) = law.keyless (key_is ∙ none) (same_tail ∙ sym old_tail)
      by_log (inr (some, up, pair)) =
          law.keyed (subst (λ k. 0 < k) (sym key_is) some) (up ∙ ap (λ n. n + 1) (sym old_tail))
          (subst (λ n. logged last.shared n ≡ (key_of (shadow_plan w last), reg last.shadow.registers 12)) (sym old_tail)
          (pair ∙ ap₂ (λ (x y : ℕ). (x, y)) (sym key_is) (sym count_is)))

-- ---- where the block begins

module _ (w : World) (a : Accepted w) (p : ℕ) (call_there : fetched (text_of w.image) w.image.layout.text_start p ≡ Some Ecall) where
  site : IsInstruction w.image.layout p
  site = call-site w a (record w.image.start { pc = p }) Ecall call_there

  in-text : InText w p Ecall
  in-text = by_instr (at-address w a p here site.below)
    where
      here : HasBlock w.image.layout p
      here = let f : TextFits w.image.layout = text w a in record { above = site.above; below = omega (arith, site.below); whole = omega (arith, site.whole, site.above, f.start) }

      word : slice_get (text_of w.image) ((p - w.image.layout.text_start) / 4) ≡ Some Ecall
      word = by_test (nat_le w.image.layout.text_start p && (p % 4 == 0)) call_there
        where
          by_test : (b : Bool) → elim b [ true ↦ slice_get (text_of w.image) ((p - w.image.layout.text_start) / 4) | false ↦ None ] ≡ Some Ecall → slice_get (text_of w.image) ((p - w.image.layout.text_start) / 4) ≡ Some Ecall
          by_test true e = e
          by_test false e = none_some e

      by_instr : (i : Instr) × InText w p i → InText w p Ecall
      by_instr (i, is) = subst (λ i. InText w p i) (same_instr (sym is.word ∙ word)) is
        where
          same_instr : Some i ≡ Some Ecall → i ≡ Ecall
          same_instr e = cc

  -- the shadow is at the call's first row
  starts : (first : Run) → HasTables w (watched_of first) → IsQueue first.shared → (small : get 12 (regs_of first.shadow.registers) < 2 ^ 64) → first.shadow.state ≡ Running → first.shadow.pc ≡ block_at w.image.layout p + 4
      → Tracks w a p site (regs_of first.shadow.registers) small (log_tail first.shared) first.shadow.files (shade_of first)
  starts first y queue small running place =
      let q : Regs = regs_of first.shadow.registers in
      let c = call_starts w.image.layout p q 0 (priv_of first.shadow_page) first.shared queue in
      in_call 31
      (record {
        code = in-text.code;
        point = record { place = InBlock 1; regs = q; priv = priv_of first.shadow_page; tabs = y.tables };
        shown = record { pc = place; regs = HasRegs-of first.shadow.registers; priv = HasPriv-of first.shadow_page; tabs = y.has; shared = refl; running = running };
        ok = y.ok;
        row = record { key = 0; stage = Before; row = c.0; log = c.1; small = lit< tt; found = unknown refl };
      }) refl

-- ---- the law

-- where a run has come from its first word in a call's block
abbrev From : (w : World) → Accepted w → (p : ℕ) → IsInstruction w.image.layout p → (first : Run) → get 12 (regs_of first.shadow.registers) < 2 ^ 64 → Watched → Type 0
From w a p is first small s = Since w a p is (regs_of first.shadow.registers) small (log_tail first.shared) first.shadow.files first.restarts first.since.shadow s

-- a call's block appends the call's pair
pub call_appends : CallAppends
call_appends w a ms on p few at_first at_last same_arrivals same_restarts = by_since (subst (λ (r : Run). From w a p is first small (watched_of r)) at_end (all-since w a p is q small (log_tail first.shared) first.shadow.files first.restarts first.since.shadow on ms few start))
  where
    first : Run
    first = run w ms

    last : Run
    last = run_from w first on

    at_end : run w (ms ++ on) ≡ last
    at_end = run_from-append w (opened_run w) ms on

    q : Regs
    q = regs_of first.shadow.registers

    is : IsInstruction w.image.layout p
    is = site w a p at_first.call

    small : get 12 q < 2 ^ 64
    small = (run-sized w a ms).registers 12

    queue : IsQueue first.shared
    queue = ((run-inv w a ms (omega (arith, few))).0.queue (λ s. stopped_running (sym s ∙ at_first.runs))).0

    start : From w a p is first small (watched_of first)
    start = here (starts w a p at_first.call first (has-tables w (watched_of first) (run-keeps w a ms)) queue small at_first.runs at_first.place) refl (omega arith)

    by_since : From w a p is first small (watched_of last) → AppendsCall (key_of (shadow_plan w last)) (reg last.shadow.registers 12) first.shared last.shared
    by_since (here t r m) = at-call w a p is q small (log_tail first.shared) first.shadow.files first.shared last refl t at_last.place
    by_since (passed r less) = absurd (omega (arith, less, same_arrivals))
    by_since (rests r n) = absurd (n at_last.runs)
    by_since (anew less) = absurd (omega (arith, less, same_restarts))
