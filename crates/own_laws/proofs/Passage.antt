-- From the gate to the word that leaves the stub: each move keeps what the rows say of the hint log.
use Rattle.std.proofs.Common.{◌≡◌, ℕ, ◌+◌, ◌^◌, ◌≤◌, ◌<◌, Bool, true, false, List, [], ◌∷◌, ◌++◌, Option, Some, None, refl, ◌∙◌, ap, sym, subst, ◌==◌, arith, is_some, drop, ap₂}
use Rattle.std.proofs.lemmas.List.{append-nil, append_assoc}
use Rattle.std.specs.Option.{option_map}
use Rattle.spec_base.specs.declared.machine.View.TheVariants.{Plain, Program, Stub}
use Rattle.spec_base.specs.declared.note.ShadowState.{ShadowState}
use Rattle.spec_base.specs.declared.note.ShadowState.TheVariants.{Stopped}
use Rattle.spec_base.specs.declared.note.Note.{Note}
use Rattle.spec_base.specs.declared.note.Note.TheVariants as note
use Rattle.spec_base.specs.declared.note.Move.{Move}
use Rattle.spec_base.specs.declared.note.Move.TheVariants.{O, S, T, D}
use Rattle.spec_base.specs.declared.spot.BlockSpot.{BlockSpot}
use Rattle.spec_base.specs.declared.spot.ReadSpot.{ReadSpot}
use Rattle.rv_decode.specs.declared.instr.Instr.{Instr}
use Rattle.rv_model.specs.Memory.{Memory, stored}
use Rattle.rv_model.specs.Rights.{data_rights}
use Rattle.rv_model.specs.Registers.{reg}
use Rattle.rv_model.specs.Effect.{Effect, Next, Stored, Trapped, Called, Gated, effect, fetched}
use Rattle.program_model.specs.Calls.{CallPlan, Set, Look, Read, Write, Exit, key_of}
use Rattle.program_model.specs.Cache.{Gathered, gather, blocks_of, in_flight}
use Rattle.program_model.specs.PlainRun.{State, text_of, performed, plan_of}
use Rattle.code_model.specs.Log.{log_head, log_tail}
use Rattle.code_model.specs.Patch.{patched_instr}
use Rattle.run_model.specs.Run.{World, Run, RunEnd, Answer, Usual, Took, Failed, Lost}
use Rattle.run_model.specs.OwnMoves.{program_after, program_at, program_step, own_call_step, read_on, look_done, write_step, write_done, taken_in, own_step}
use Rattle.run_model.specs.ShadowMoves.{shadow_in, shadow_step}
use Rattle.run_model.specs.Moves.{Moves, step, step_unless, begun, run, run_from, fetch_of, fetch_ends, fetch_failed, landed_with, shadow_while}
use Rattle.run_laws.specs.OwnLaws.{Accepted, IsShadowMove}
use Rattle.run_laws.specs.StubLaws.{IsLeaving, IsLog, Appends, Outcome, keyless, takes, empties, without_oldest, Passing, restarts_after, IsJudged, IsRestarted, judging_word, restart_word, IsPassage, TakesOldest, leaves, takes_pair, is_halted, StubKeepsLog, StubTakesOldest}
use Rattle.code_model.proofs.Alike.{gated, effect-patched, fetched-map}
use Rattle.own_laws.proofs.InvisibleShadow.{shadow_move-keeps}
use Rattle.own_laws.proofs.LogChanges.{Appends-again, Appends-same}
use Rattle.own_laws.proofs.LogRows.{Phase, fresh, keyed, headed, judging, found, matching, oldest, settled, missed, halted, headless, emptied, boxing, is_asked, Judged, Missed, Fact, LogRow, r1, r2, r3, r4, r5, r6, r7, r8, r9, r10, r11, r12, r13, r14, r15, r16, r17, r18, r19, r20, r21, r22, r23, r24, r25, r28, r29, r30, r31, r32, r33, r34, r35, r36, r37-66, r67, r68, r69, r70, r71, Onward, to_row, to_restarted, to_call, log_word_goes}
use Rattle.own_laws.proofs.OneCall.{program_stub}
use Rattle.own_laws.proofs.OwnLaws.{own_side}
use Rattle.own_laws.proofs.OwnSide.{OwnSide, in_program, in_stub, at_call, waits, called, over, plan, program_side, called_side, placed}
use Rattle.own_laws.proofs.Reached.{Reached, reached-fits, none_some, false_true, reached-key}
use Rattle.own_laws.proofs.Side.{Side, side_of, with_side, Tally, Kept}
use Rattle.own_laws.proofs.Text.{place-small}
use Rattle.own_laws.proofs.StubWords.{three, three-own, stub_side, restarted_tally, after_word, word_1, word_2, word_3, word_4, word_5, word_6, word_7, word_8, word_9, word_10, word_11, word_12, word_13, word_14, word_15, word_16, word_17, word_18, word_19, word_20, word_21, word_22, word_23, word_24, word_25, word_28, word_71}
use Rattle.own_laws.proofs.OwnSteps.{own_call-by}
use Rattle.own_laws.proofs.MoveLists.{run_from-nil, run_from-snoc}

-- ---- the gate

-- the own hart has met a gate in a plain state that was reached
pub record Entered (w : World) (program gate : Run) : Type 0 where
  pub tally : Tally
  pub page : Memory
  pub side : side_of gate ≡ stub_side program.own tally 1 program.own.registers page
  shared : gate.shared ≡ program.shared
  fits : (i : ℕ) → program.own.registers i < 2 ^ 64
  place : program.own.pc < 2 ^ 64
  key : key_of (plan w program.own) < 2 ^ 64
  asked : tally.asked ≡ false

module _ (w : World) (accepted : Accepted w) where
  module _ (base : Run) (t : Tally) (site : ℕ) (gate s : State) (page : Memory) (h : Reached w t s) where
    abbrev here : Run
    here = with_side base (program_side s site gate page t)

    -- an instruction that leads to the stub is a call
    after_effect-enters : (e : Effect) → s.pc < 2 ^ 64 → (program_after here (gated e)).view ≡ Stub → Entered w here (program_after here (gated e))
    after_effect-enters (Next rs pc) p v = program_stub v
    after_effect-enters (Stored a width n) p v = program_stub v
    after_effect-enters (Trapped cause) p v = program_stub v
    after_effect-enters Called p v = record { tally = record t { asked = false }; page = page; side = refl; shared = refl; fits = reached-fits w accepted t s h; place = p; key = reached-key w accepted t s h; asked = refl }
    after_effect-enters (Gated i) p v = record { tally = record t { asked = false }; page = page; side = refl; shared = refl; fits = reached-fits w accepted t s h; place = p; key = reached-key w accepted t s h; asked = refl }

    -- so is a word of the program
    word-enters : (o : Option Instr) → fetched (text_of w.image) w.image.layout.text_start s.pc ≡ o → (program_at w here (option_map patched_instr o)).view ≡ Stub
        → Entered w here (program_at w here (option_map patched_instr o))
    word-enters None e v = program_stub v
    word-enters (Some i) e v =
        subst (λ e. (program_after here e).view ≡ Stub → Entered w here (program_after here e)) (sym (effect-patched (data_rights w.image.layout) s.memory s.registers s.pc i))
        (after_effect-enters (effect Plain (data_rights w.image.layout) s.memory s.registers s.pc i) (place-small w accepted s.pc i e)) v

    -- so is an own move in the program
    program-enters : (program_step w here).view ≡ Stub → Entered w here (program_step w here)
    program-enters v =
        subst (λ o. (program_at w here o).view ≡ Stub → Entered w here (program_at w here o)) (sym (fetched-map patched_instr (text_of w.image) w.image.layout.text_start s.pc))
        (word-enters (fetched (text_of w.image) w.image.layout.text_start s.pc) refl) v

  -- an own move that leads from the program to the stub has met a gate
  pub own-enters : (x : Answer) (r : Run) → OwnSide w (side_of r) → r.view ≡ Program → r.end ≡ None → (own_step w x r).view ≡ Stub → Entered w r (own_step w x r)
  own-enters x r (in_program t site gate s page h f is) p z v =
      placed w (λ r. (own_step w x r).view ≡ Stub → Entered w r (own_step w x r)) r _ is (program-enters r t site gate s page h) v
  own-enters x r (in_stub t q k a b c page g row most is) p z v = program_stub (sym p ∙ ap (λ p. p.view) is)
  own-enters x r (at_call t q page g is) p z v = program_stub (sym p ∙ ap (λ p. p.view) is)
  own-enters x r (waits t q page g is) p z v = program_stub (sym p ∙ ap (λ p. p.view) is)
  own-enters x r (called t q s k page h f y n is) p z v = program_stub (sym p ∙ ap (λ p. p.view) is)
  own-enters x r (over s e h o) p z v = none_some (sym z ∙ o.ended)

  -- so has a step
  step-enters : (x : Answer) (r : Run) (e : Option RunEnd) → r.end ≡ e → OwnSide w (side_of r) → r.view ≡ Program
      → (step_unless e w r (O, x)).view ≡ Stub → Entered w r (step_unless e w r (O, x))
  step-enters x r (Some e) z h p v = program_stub (sym p ∙ v)
  step-enters x r None z h p v =
      let y = own-enters x (begun r) h p z v in
      record { tally = y.tally; page = y.page; side = y.side; shared = y.shared; fits = y.fits; place = y.place; key = y.key; asked = y.asked }

-- ---- what a move of the shadow leaves of what is known

-- what becomes of the log is the same where pairs are appended
Outcome-grows : (J : Memory → Type 0) (R : Type 0) (q : State) (key count : ℕ) (before : Memory) (asked : Bool) (m m' : Memory) → Outcome J R q key count before asked m → Appends m m' → Outcome J R q key count before asked m'
Outcome-grows J R q key count before _ m m' (keyless k f) g = keyless k (Appends-again before m m' f g)
Outcome-grows J R q key count before _ m m' (takes log t k j o f) g = takes log t k j o (Appends-again (without_oldest log) m m' f g)
Outcome-grows J R q key count before _ m m' (empties log boxed t z k j n e b f) g = empties log boxed t z k j n e b (Appends-again boxed m m' f g)

-- the same outcome, judged and restarted by other words
Outcome-map : {J J' : Memory → Type 0} {R R' : Type 0} {q : State} {key count : ℕ} {before : Memory} {asked : Bool} {m : Memory} → ((m : Memory) → J m → J' m) → (R → R') → Outcome J R q key count before asked m → Outcome J' R' q key count before asked m
Outcome-map jm rm (keyless k f) = keyless k f
Outcome-map jm rm (takes log t k j o f) = takes log (jm log t) k j o f
Outcome-map jm rm (empties log boxed t z k j n e b f) = empties log boxed (jm log t) (rm z) k j n e b f

Judged-map : {J J' : Memory → Type 0} {key : ℕ} {before log : Memory} → ((m : Memory) → J m → J' m) → Judged J key before log → Judged J' key before log
Judged-map {log = log} jm j = record { now = jm log j.now; keyed = j.keyed; grown = j.grown }

Missed-map : {J J' : Memory → Type 0} {key count : ℕ} {before log : Memory} → ((m : Memory) → J m → J' m) → Missed J key count before log → Missed J' key count before log
Missed-map jm j = record { judged = Judged-map jm j.judged; other = j.other }

-- and the same fact
Fact-map : {J J' : Memory → Type 0} {R R' : Type 0} (q : State) (key count : ℕ) (before : Memory) (p : Phase) (m : Memory) (s : ShadowState) → ((m : Memory) → J m → J' m) → (R → R') → Fact J R q key count before p m s → Fact J' R' q key count before p m s
Fact-map q key count before fresh m s jm rm f = f
Fact-map q key count before keyed m s jm rm f = f
Fact-map q key count before (headed head) m s jm rm f = f
Fact-map q key count before (judging log) m s jm rm (j, f) = (Judged-map jm j, f)
Fact-map q key count before (found log) m s jm rm (j, f, l) = (Judged-map jm j, f, l)
Fact-map q key count before (matching log) m s jm rm (j, f, l, k) = (Judged-map jm j, f, l, k)
Fact-map q key count before (oldest log) m s jm rm (j, f, o) = (Judged-map jm j, f, o)
Fact-map q key count before (settled asked) m s jm rm f = Outcome-map jm rm f
Fact-map q key count before (missed log) m s jm rm f = Missed-map jm f
Fact-map q key count before (halted log) m s jm rm (f, e) = (Missed-map jm f, e)
Fact-map q key count before (headless log) m s jm rm (f, e, z) = (Missed-map jm f, e, z)
Fact-map q key count before (emptied log) m s jm rm (f, e, z) = (Missed-map jm f, e, z)
Fact-map q key count before (boxing log j) m s jm rm (f, e, z, b) = (Missed-map jm f, e, z, b)

-- a stopped shadow leaves all, and another one appends
Fact-grows : (J : Memory → Type 0) (R : Type 0) (q : State) (key count : ℕ) (before : Memory) (p : Phase) (m m' : Memory) (s s' : ShadowState) → Fact J R q key count before p m s → Appends m m'
    → (s ≡ Stopped → (m' ≡ m) × (s' ≡ Stopped)) → Fact J R q key count before p m' s'
Fact-grows J R q key count before fresh m m' s s' f g h = Appends-again before m m' f g
Fact-grows J R q key count before keyed m m' s s' (k, f) g h = (k, Appends-again before m m' f g)
Fact-grows J R q key count before (headed head) m m' s s' (k, f, e) g h = (k, Appends-again before m m' f g, e ∙ sym g.head)
Fact-grows J R q key count before (judging log) m m' s s' (j, f) g h = (j, Appends-again log m m' f g)
Fact-grows J R q key count before (found log) m m' s s' (j, f, l) g h = (j, Appends-again log m m' f g, l)
Fact-grows J R q key count before (matching log) m m' s s' (j, f, l, k) g h = (j, Appends-again log m m' f g, l, k)
Fact-grows J R q key count before (oldest log) m m' s s' (j, f, o) g h = (j, Appends-again log m m' f g, o)
Fact-grows J R q key count before (settled asked) m m' s s' f g h = Outcome-grows J R q key count before asked m m' f g
Fact-grows J R q key count before (missed log) m m' s s' f g h = f
Fact-grows J R q key count before (halted log) m m' s s' (f, e) g h = (f, (h e).1)
Fact-grows J R q key count before (headless log) m m' s s' (f, e, z) g h = subst (λ n. Fact J R q key count before (headless log) n s') (sym (h e).0) (f, (h e).1, z)
Fact-grows J R q key count before (emptied log) m m' s s' (f, e, z) g h = subst (λ n. Fact J R q key count before (emptied log) n s') (sym (h e).0) (f, (h e).1, z)
Fact-grows J R q key count before (boxing log j) m m' s s' (f, e, z, b) g h = subst (λ n. Fact J R q key count before (boxing log j) n s') (sym (h e).0) (f, (h e).1, z, b)

-- a move of a stopped shadow does nothing
abbrev Stays : Run → Run → Type 0
Stays r r' = (r'.shared ≡ r.shared) × (r'.shadow.state ≡ Stopped)

-- each of its moves
pub stopped-stays : (w : World) (r : Run) (m : Move) (x : Answer) → IsShadowMove m → r.shadow.state ≡ Stopped → Stays r (step w r (m, x))
stopped-stays w r m x h e = by_end r.end m h
  where
    shadow-stays : Stays r (shadow_step w x (begun r))
    shadow-stays = subst (λ s. Stays r (shadow_in s w x (begun r))) (sym e) (refl, e)

    by_stall : (b : Bool) → Stays r (shadow_while b w x (begun r))
    by_stall true = shadow-stays
    by_stall false = (refl, e)

    by_end : (end : Option RunEnd) (m : Move) → IsShadowMove m → Stays r (step_unless end w r (m, x))
    by_end (Some y) m h = (refl, e)
    by_end None S h = shadow-stays
    by_end None T h = by_stall r.stalled
    by_end None O h = absurd h
    by_end None D h = absurd h

-- ---- the passage

-- in a passage the own hart is in the stub
passing-view : (w : World) (ms : Moves) (r : Run) → Passing w r ms → r.view ≡ Stub
passing-view w [] r h = h
passing-view w (m ∷ ms) r h = h.0

-- the counts since the gate: so many instructions are done, and so many restarts were made
record Counts (d n : ℕ) (b : Bool) (t : Tally) : Type 0 where
  done : t.done ≡ d
  restarts : t.restarts ≡ restarts_after b n
  asked : t.asked ≡ b

-- the call that the program makes in the state q is at a word of the stub, at its call, behind it, or the run is over
data Passage (w : World) (J : Memory → Type 0) (R : Type 0) (q : State) (key count : ℕ) (before : Memory) (done restarts : ℕ) (r : Run) : Type 0 where
  at_word : (t : Tally) (p : Phase) (k a b c : ℕ) (page : Memory) → LogRow q key p k a b c page → Fact J R q key count before p r.shared r.shadow.state → (k == 27) ≡ false
      → Counts done restarts (is_asked p) t → side_of r ≡ stub_side q t k (three q.registers a b c) page → Passage w J R q key count before done restarts r
  on_call : (t : Tally) (asked stalled : Bool) (page : Memory) → Outcome J R q key count before asked r.shared → Counts done restarts asked t
      → side_of r ≡ record (stub_side q t 26 q.registers page) { stalled = stalled } → Passage w J R q key count before done restarts r
  behind : (t : Tally) (asked : Bool) (s : State) (page : Memory) → Outcome J R q key count before asked r.shared → Counts (done + 1) restarts asked t
      → side_of r ≡ called_side q s t page → Passage w J R q key count before done restarts r
  ended : is_some r.end ≡ true → Passage w J R q key count before done restarts r

module _ (w : World) (J : Memory → Type 0) (R : Type 0) (q : State) (fits : (i : ℕ) → q.registers i < 2 ^ 64) (place : q.pc < 2 ^ 64) (small_key : key_of (plan w q) < 2 ^ 64)
    (before : Memory) (order : log_head before ≤ log_tail before) (done restarts : ℕ) where
  abbrev key : ℕ
  key = key_of (plan w q)

  abbrev count : ℕ
  count = q.registers 12

  abbrev Passes : Run → Type 0
  Passes r = Passage w J R q key count before done restarts r

  -- ---- the call

  module _ (base : Run) (t : Tally) (asked : Bool) (page : Memory) (o : Outcome J R q key count before asked base.shared) (n : Counts done restarts asked t) where
    abbrev the_call : Run
    the_call = with_side base (stub_side q t 26 q.registers page)

    -- one more instruction is done
    one_more : (whole : Bool) → Counts (done + 1) restarts asked (record t { done = t.done + 1; own = t.own + 1; whole = whole; gathered = 0 })
    one_more whole = record { done = ap (λ d. d + 1) n.done; restarts = n.restarts; asked = n.asked }

    -- a call that is completed, whose put took k bytes
    completed : (whole : Bool) (k : ℕ) (c : CallPlan) (next : Run) → next.shared ≡ base.shared
        → side_of next ≡ called_side q (performed w.files k c q) (record t { done = t.done + 1; own = t.own + 1; whole = whole; gathered = 0 }) page → Passes next
    completed whole k c next m is = behind _ asked (performed w.files k c q) page (subst (λ m. Outcome J R q key count before asked m) (sym m) o) (one_more whole) is

    -- a look ends the run or leads behind the call
    look-passes : (x : Answer) (name : List ℕ) → Passes (look_done w x the_call name)
    look-passes Failed name = ended refl
    look-passes Usual name = completed t.whole 0 (Look name) _ refl refl
    look-passes (Took k) name = completed t.whole 0 (Look name) _ refl refl
    look-passes Lost name = completed t.whole 0 (Look name) _ refl refl

    -- a read waits for a block or leads behind the call
    read-passes : (b : Bool) (d : ℕ) (spot : ReadSpot) (a : ℕ) (had : Gathered) → Passes (read_on b w d spot a had the_call)
    read-passes true d spot a had = on_call (record t { gathered = had.had }) asked true page o (record { done = n.done; restarts = n.restarts; asked = n.asked }) refl
    read-passes false d spot a had = completed t.whole 0 (Read d spot a) _ refl refl

    -- a put leads behind the call
    put-passes : (to_out : Bool) (a n k : ℕ) → Passes (write_done w k to_out a n the_call)
    put-passes true a n k = completed _ k (Write true a n) _ refl refl
    put-passes false a n k = completed _ k (Write false a n) _ refl refl

    -- a write ends the run or leads behind the call
    write-passes : (x : Answer) (to_out : Bool) (a n : ℕ) → Passes (write_step w x the_call to_out a n)
    write-passes Failed to_out a n = ended refl
    write-passes Usual to_out a n = put-passes to_out a n (taken_in Usual n)
    write-passes (Took k) to_out a n = put-passes to_out a n (taken_in (Took k) n)
    write-passes Lost to_out a n = put-passes to_out a n (taken_in Lost n)

    -- each call waits, ends the run or leads behind the call
    call-passes : (x : Answer) (c : CallPlan) → Passes (own_call_step w x the_call c)
    call-passes x (Set files answer) = completed t.whole 0 (Set files answer) _ refl refl
    call-passes x (Look name) = look-passes x name
    call-passes x (Read d spot a) = let had : Gathered = gather base.cache t.gathered (drop t.gathered (blocks_of spot)) in read-passes had.waits d spot a had
    call-passes x (Write to_out a n) = write-passes x to_out a n
    call-passes x (Exit code) = ended refl

  -- ---- an own move

  -- each word of the stub leads on
  onward-passes : (t : Tally) (p : Phase) (next : Run) → Counts done restarts (is_asked p) t → Onward J R q key count before t p next → Passes next
  onward-passes t p next n (to_row p' l a b c page row f same u is) = at_word t p' l a b c page row f u (subst (λ asked. Counts done restarts asked t) (sym same) n) is
  onward-passes t p next n (to_restarted c page s o first is) =
      let same : t.restarts ≡ restarts = n.restarts ∙ ap (λ asked. restarts_after asked restarts) first in
      at_word (restarted_tally q t) (settled true) 71 _ _ c page (r71 s) o refl (record { done = n.done; restarts = ap (λ m. m + 1) same; asked = refl }) is
  onward-passes t p next n (to_call asked page o same is) = on_call t asked false page o (subst (λ asked. Counts done restarts asked t) (sym same) n) is

  -- each own move that stays in the stub leads on
  own-passes : (x : Answer) (r : Run) → r.end ≡ None → (r.own.pc ≡ judging_word → J r.shared) → (r.own.pc ≡ restart_word → r.own_done ≡ done → R) → Passes r → (own_step w x r).view ≡ Stub
      → Passes (own_step w x r)
  own-passes x r z now restart (at_word t p k a b c page row f u n is) v =
      placed w (λ (r : Run). Fact J R q key count before p r.shared r.shadow.state → Passes (own_step w x r)) r _ is
      (λ f.
      onward-passes t p _ n
      (log_word_goes J R w x q t fits place small_key before order r p k a b c page row f
      (λ e. now (omega (arith, ap (λ p. p.own.pc) is, e))) (λ e. restart (omega (arith, ap (λ p. p.own.pc) is, e)) (ap (λ p. p.tally.done) is ∙ n.done)))) f
  own-passes x r z now restart (on_call t asked true page o n is) v = placed w (λ (r : Run). Outcome J R q key count before asked r.shared → Passes (own_step w x r)) r _ is (λ o. on_call t asked true page o n refl) o
  own-passes x r z now restart (on_call t asked false page o n is) v =
      placed w (λ (r : Run). Outcome J R q key count before asked r.shared → Passes (own_step w x r)) r _ is (λ o. call-passes r t asked page o n x (plan w q)) o
  own-passes x r z now restart (behind t asked s page o n is) v =
      placed w (λ (r : Run). (own_step w x r).view ≡ Stub → Passes (own_step w x r)) r _ is (λ v. program_stub v) v
  own-passes x r z now restart (ended e) v = false_true (ap is_some (sym z) ∙ e)

  -- ---- a fetch

  abbrev more : Tally → Tally
  more t = record t { gathered = t.gathered + 1 }

  abbrev awake : Side → Side
  awake p = record p { stalled = false; tally = more p.tally }

  -- one block more changes no other count
  more-counts : (d : ℕ) (asked : Bool) (t : Tally) → Counts d restarts asked t → Counts d restarts asked (more t)
  more-counts d asked t n = record { done = n.done; restarts = n.restarts; asked = n.asked }

  -- the end of a stall leaves the passage
  wakes-passes : (r : Run) (notes : List Note) (spot : BlockSpot) → Passes r → Passes (landed_with (Some spot) r notes)
  wakes-passes r notes spot (at_word t p k a b c page row f u n is) = at_word (more t) p k a b c page row f u (more-counts done (is_asked p) t n) (ap awake is)
  wakes-passes r notes spot (on_call t asked stalled page o n is) = on_call (more t) asked false page o (more-counts done asked t n) (ap awake is)
  wakes-passes r notes spot (behind t asked s page o n is) = behind (more t) asked s page o (more-counts (done + 1) asked t n) (ap awake is)
  wakes-passes r notes spot (ended e) = ended e

  -- a run with the same own side, link and state of the shadow
  same-passes : (r r' : Run) → side_of r' ≡ side_of r → r'.shared ≡ r.shared → r'.shadow.state ≡ r.shadow.state → Passes r → Passes r'
  same-passes r r' h m s (at_word t p k a b c page row f u n is) =
      at_word t p k a b c page row (subst (λ x. Fact J R q key count before p x r'.shadow.state) (sym m) (subst (λ x. Fact J R q key count before p r.shared x) (sym s) f)) u n (h ∙ is)
  same-passes r r' h m s (on_call t asked stalled page o n is) = on_call t asked stalled page (subst (λ x. Outcome J R q key count before asked x) (sym m) o) n (h ∙ is)
  same-passes r r' h m s (behind t asked s' page o n is) = behind t asked s' page (subst (λ x. Outcome J R q key count before asked x) (sym m) o) n (h ∙ is)
  same-passes r r' h m s (ended e) = ended (ap (λ p. is_some p.end) h ∙ e)

  -- so does the landing of a block
  landed-passes : (o : Option BlockSpot) (r : Run) (notes : List Note) → Passes r → Passes (landed_with o r notes)
  landed-passes (Some spot) r notes h = wakes-passes r notes spot h
  landed-passes None r notes h = same-passes r _ refl refl refl h

  -- a failed fetch may end the run
  failed-passes : (o : Option BlockSpot) (r : Run) (spot : BlockSpot) → Passes r → Passes (fetch_failed o r spot)
  failed-passes (Some demanded) r spot h = ended refl
  failed-passes None r spot h = same-passes r _ refl refl refl h

  -- each end of a fetch leaves the passage, or ends the run
  ends-passes : (x : Answer) (r : Run) (spot : BlockSpot) → Passes r → Passes (fetch_ends w x r spot)
  ends-passes Failed r spot h = failed-passes r.cache.demanded r spot h
  ends-passes Lost r spot h = landed-passes r.cache.demanded r (note.Lost spot ∷ []) h
  ends-passes Usual r spot h = same-passes (landed_with r.cache.demanded r (note.Fetch spot ∷ [])) _ refl refl refl (landed-passes r.cache.demanded r (note.Fetch spot ∷ []) h)
  ends-passes (Took k) r spot h = same-passes (landed_with r.cache.demanded r (note.Fetch spot ∷ [])) _ refl refl refl (landed-passes r.cache.demanded r (note.Fetch spot ∷ []) h)

  -- so does each fetch
  fetch-passes : (o : Option BlockSpot) (x : Answer) (r : Run) → Passes r → Passes (fetch_of o w x r)
  fetch-passes None x r h = h
  fetch-passes (Some spot) x r h = ends-passes x r spot h

  -- ---- a move of the shadow

  -- a move of the shadow that appends leaves the passage
  shadow-passes : (m : Move) (x : Answer) (r : Run) → IsShadowMove m → Appends r.shared (step w r (m, x)).shared → Passes r → Passes (step w r (m, x))
  shadow-passes m x r s g h = by_stage h
    where
      next : Run
      next = step w r (m, x)

      same : side_of next ≡ side_of r
      same = ap (λ (k : Kept). k.side) (shadow_move-keeps w r m x s)

      by_stage : Passes r → Passes next
      by_stage (at_word t p k a b c page row f u n is) =
          at_word t p k a b c page row (Fact-grows J R q key count before p r.shared next.shared r.shadow.state next.shadow.state f g (stopped-stays w r m x s)) u n (same ∙ is)
      by_stage (on_call t asked stalled page o n is) = on_call t asked stalled page (Outcome-grows J R q key count before asked r.shared next.shared o g) n (same ∙ is)
      by_stage (behind t asked s' page o n is) = behind t asked s' page (Outcome-grows J R q key count before asked r.shared next.shared o g) n (same ∙ is)
      by_stage (ended e) = ended (ap (λ p. is_some p.end) same ∙ e)

  -- ---- each move

  -- each move that stays in the stub leads on
  move-passes : (m : Move) (x : Answer) (r : Run) (e : Option RunEnd) → r.end ≡ e → (m ≡ O → r.own.pc ≡ judging_word → J r.shared) → (m ≡ O → r.own.pc ≡ restart_word → r.own_done ≡ done → R) → Passes r → (step_unless e w r (m, x)).view ≡ Stub
      → (IsShadowMove m → Appends r.shared (step w r (m, x)).shared) → Passes (step_unless e w r (m, x))
  move-passes m x r (Some e) z now restart h v g = same-passes r _ refl refl refl h
  move-passes O x r None z now restart h v g = own-passes x (begun r) z (now refl) (restart refl) (same-passes r (begun r) refl refl refl h) v
  move-passes D x r None z now restart h v g = fetch-passes (in_flight r.cache) x (begun r) (same-passes r (begun r) refl refl refl h)
  move-passes S x r None z now restart h v g = subst (λ e. Passes (step_unless e w r (S, x))) z (shadow-passes S x r tt (g tt) h)
  move-passes T x r None z now restart h v g = subst (λ e. Passes (step_unless e w r (T, x))) z (shadow-passes T x r tt (g tt) h)

  -- ---- the word that leaves the stub

  -- at the word that leaves the stub the call is behind the own hart
  passage-ends : (gate leave : Run) (on : Moves) → gate.at_gate ≡ q → gate.shared ≡ before → gate.own_done ≡ done → gate.restarts ≡ restarts → ((m : Memory) → J m → IsJudged w gate on m) → (R → IsRestarted w gate on) → Passes leave → IsLeaving leave → IsPassage w gate on leave
  passage-ends gate leave on g m d n jm rm (at_word t p k a b c page row f u count is) l =
      let last : k ≡ 27 = omega (arith, ap (λ p. p.own.pc) is, l.word) in
      false_true (sym u ∙ ap (λ k. k == 27) last)
  passage-ends gate leave on g m d n jm rm (on_call t asked stalled page o count is) l =
      absurd (omega (arith, ap (λ p. p.own.pc) is, l.word))
  passage-ends gate leave on g m d n jm rm (ended e) l = false_true (ap is_some (sym l.goes_on) ∙ e)
  passage-ends gate leave on g m d n jm rm (behind t asked s page o c is) l =
      let met : leave.at_gate ≡ q = ap (λ p. p.gate) is in
      let was_asked : leave.asked ≡ asked = ap (λ p. p.tally.asked) is ∙ c.asked in
      record {
        same_call = met ∙ sym g;
        one_done = ap (λ p. p.tally.done) is ∙ c.done ∙ ap (λ d. d + 1) (sym d);
        restarts = ap (λ p. p.tally.restarts) is ∙ c.restarts ∙ ap₂ (λ asked n. restarts_after asked n) (sym was_asked) (sym n);
        log = subst (λ q. Outcome (IsJudged w gate on) (IsRestarted w gate on) q (key_of (plan w q)) (reg q.registers 12) gate.shared leave.asked leave.shared) (sym g)
            (subst (λ m. Outcome (IsJudged w gate on) (IsRestarted w gate on) q key count m leave.asked leave.shared) (sym m)
            (subst (λ asked. Outcome (IsJudged w gate on) (IsRestarted w gate on) q key count before asked leave.shared) (sym was_asked) (Outcome-map jm rm o)));
      }

-- ---- what an own move takes

-- a call leaves what is shared
call-shares : (w : World) (x : Answer) (r : Run) (c : CallPlan) → (own_call_step w x r c).shared ≡ r.shared
call-shares w x r c = own_call-by w r (λ next. next.shared ≡ r.shared) x c (λ b. refl) (λ taken whole b h. refl)

module _ (J : Memory → Type 0) (R : Type 0) (w : World) (x : Answer) (q : State) (t : Tally) (before : Memory) where
  abbrev the_key : ℕ
  the_key = key_of (plan_of w.image.layout q)

  -- a word that leads to a run with the same memory
  shares : {r next new : Run} → next ≡ new → new.shared ≡ r.shared → TakesOldest r next
  shares e f = leaves (ap (λ (r : Run). r.shared) e ∙ f)

  -- each word of the stub: word 22 takes the pair that was judged, which is still the oldest
  word-takes : (r : Run) (p : Phase) (k a b c : ℕ) (page : Memory) → LogRow q the_key p k a b c page → Fact J R q the_key (q.registers 12) before p r.shared r.shadow.state → TakesOldest r (after_word w x q t r k a b c page)
  word-takes r _ _ a b c page r1 f = shares (word_1 w x q t r _ _ _ page) refl
  word-takes r _ _ a b c page (r2 s) f = shares (word_2 w x q t r _ _ _ page) refl
  word-takes r _ _ a b c page (r3 s) f = shares (word_3 w x q t r _ _ the_key page) refl
  word-takes r _ _ a b c page (r4 s) f = shares (word_4 w x q t r _ _ the_key page) refl
  word-takes r _ _ a b c page (r5 s) f = shares (word_5 w x q t r _ _ the_key page) refl
  word-takes r _ _ a b c page (r6 s) f = shares (word_6 w x q t r a b the_key page) refl
  word-takes r _ _ a b c page (r7 s v) f = shares (word_7 w x q t r a b c page) refl
  word-takes r _ _ a b c page (r8 s v) f = shares (word_8 w x q t r a 0 c page) refl
  word-takes r _ _ a b c page (r9 s v) f = shares (word_9 w x q t r a 0 c page) refl
  word-takes r (judging log) _ a b c page (r10 s v) f = shares (word_10 w x q t r _ _ _ page) refl
  word-takes r (found log) _ a b c page (r11 s v) f = shares (word_11 w x q t r _ _ c page) refl
  word-takes r (found log) _ a b c page (r12 s v) f = shares (word_12 w x q t r _ _ _ page) refl
  word-takes r (found log) _ a b c page (r13 s v) f = shares (word_13 w x q t r _ _ _ page) refl
  word-takes r (found log) _ a b c page (r14 s v l) f = shares (word_14 w x q t r a b c page l.in_log) refl
  word-takes r (found log) _ a b c page (r15 s v l) f = shares (word_15 w x q t r _ b c page) refl
  word-takes r (found log) _ a b c page (r16 s l) f = shares (word_16 w x q t r _ the_key c page) refl
  word-takes r (matching log) _ a b c page (r17 s l) f = shares (word_17 w x q t r a b c page l.in_log) refl
  word-takes r (matching log) _ a b c page (r18 s) f = shares (word_18 w x q t r _ b c page) refl
  word-takes r (oldest log) _ a b c page (r19 s) f = shares (word_19 w x q t r a b c page) refl
  word-takes r (oldest log) _ a b c page (r20 s) f = shares (word_20 w x q t r a 0 c page) refl
  word-takes r (oldest log) _ a b c page (r21 s) f = shares (word_21 w x q t r _ _ c page) refl
  word-takes r (oldest log) _ a b c page (r22 s) (j, f, o) =
      takes_pair (omega (arith, o.some, f.head, f.tail))
      (ap (λ (r : Run). r.shared) (word_22 w x q t r (log_head log + 1) 0 c page) ∙ ap (λ (n : ℕ). stored r.shared 0x4200_0000 8 (n + 1)) (sym f.head))
  word-takes r _ _ a b c page (r23 s) f = shares (word_23 w x q t r a b c page) refl
  word-takes r _ _ a b c page (r24 s) f = shares (word_24 w x q t r _ b c page) refl
  word-takes r (settled asked) _ a b c page (r25 s) f = shares (word_25 w x q t r _ _ c page) refl
  word-takes r (missed log) _ a b c page (r28 s) f = shares (word_28 w x q t r a b c page) refl
  word-takes r (halted log) _ a b c page (r29 s) (f, h) = is_halted h
  word-takes r (halted log) _ a b c page (r30 s) (f, h) = is_halted h
  word-takes r (headless log) _ a b c page (r31 s) (f, h, e) = is_halted h
  word-takes r (emptied log) _ a b c page (r32 s) (f, h, e) = is_halted h
  word-takes r (emptied log) _ a b c page (r33 s) (f, h, e) = is_halted h
  word-takes r (emptied log) _ a b c page (r34 s) (f, h, e) = is_halted h
  word-takes r (boxing log _) _ a b c page (r35 s) (f, h, e, b') = is_halted h
  word-takes r (boxing log _) _ a b c page (r36 s) (f, h, e, b') = is_halted h
  word-takes r (boxing log _) _ a b c page (r37-66 j i s) (f, h, e, b') = is_halted h
  word-takes r (boxing log _) _ a b c page (r67 s) (f, h, e, b') = is_halted h
  word-takes r (boxing log _) _ a b c page (r68 s) (f, h, e, b') = is_halted h
  word-takes r (boxing log _) _ a b c page (r69 s) (f, h, e, b') = is_halted h
  word-takes r (boxing log _) _ a b c page (r70 s) (f, h, e, b') = is_halted h
  word-takes r _ _ a b c page (r71 s) f = shares (word_71 w x q t r _ _ c page) refl

-- what is said of a run speaks of no more than the memory and the shadow's state
beside-takes : (r : Run) (side : Side) (next : Run) → TakesOldest r next → TakesOldest (with_side r side) next
beside-takes r side next (leaves e) = leaves e
beside-takes r side next (takes_pair l e) = takes_pair l e
beside-takes r side next (is_halted e) = is_halted e

module _ (J : Memory → Type 0) (R : Type 0) (w : World) (q : State) (before : Memory) (done restarts : ℕ) where
  abbrev Passed : Run → Type 0
  Passed r = Passage w J R q (key_of (plan w q)) (q.registers 12) before done restarts r

  -- each own move
  own-takes : (x : Answer) (r : Run) → r.end ≡ None → Passed r → TakesOldest r (own_step w x r)
  own-takes x r z (at_word t p k a b c page row f u n is) =
      placed w (λ (r : Run). Fact J R q (key_of (plan w q)) (q.registers 12) before p r.shared r.shadow.state → TakesOldest r (own_step w x r)) r _ is
      (λ f. beside-takes r (stub_side q t k (three q.registers a b c) page) _ (word-takes J R w x q t before r p k a b c page row f)) f
  own-takes x r z (on_call t asked true page o n is) = placed w (λ (r : Run). TakesOldest r (own_step w x r)) r _ is (leaves refl)
  own-takes x r z (on_call t asked false page o n is) =
      placed w (λ (r : Run). TakesOldest r (own_step w x r)) r _ is (leaves (call-shares w x (with_side r (stub_side q t 26 q.registers page)) (plan w q)))
  own-takes x r z (behind t asked s page o n is) = placed w (λ (r : Run). TakesOldest r (own_step w x r)) r _ is (leaves refl)
  own-takes x r z (ended e) = false_true (ap is_some (sym z) ∙ e)

  -- so does a step
  step-takes : (x : Answer) (r : Run) (e : Option RunEnd) → r.end ≡ e → Passed r → TakesOldest r (step_unless e w r (O, x))
  step-takes x r (Some e) z h = leaves refl
  step-takes x r None z h = from_begun (own-takes x (begun r) z (begun-passes h))
    where
      from_begun : TakesOldest (begun r) (own_step w x (begun r)) → TakesOldest r (own_step w x (begun r))
      from_begun (leaves e) = leaves e
      from_begun (takes_pair l e) = takes_pair l e
      from_begun (is_halted e) = is_halted e

      begun-passes : Passed r → Passed (begun r)
      begun-passes (at_word t p k a b c page row f u n is) = at_word t p k a b c page row f u n is
      begun-passes (on_call t asked stalled page o n is) = on_call t asked stalled page o n is
      begun-passes (behind t asked s page o n is) = behind t asked s page o n is
      begun-passes (ended e) = ended e

-- ---- the moves behind a gate

module _ (w : World) (gate : Run) where
  -- a move at one place of a list is at it in a longer one
  moves-more : (before rest on : Moves) (n m : Move × Answer) → on ≡ before ++ n ∷ rest → on ++ m ∷ [] ≡ before ++ n ∷ (rest ++ m ∷ [])
  moves-more before rest on n m e = ap (λ ms. ms ++ m ∷ []) e ∙ append_assoc before (n ∷ rest) (m ∷ [])

  judged-more : (on : Moves) (m : Move × Answer) (log : Memory) → IsJudged w gate on log → IsJudged w gate (on ++ m ∷ []) log
  judged-more on m log j =
      let longer = moves-more j.before j.behind on (O, j.answer) m j.moves in
      record { before = j.before; answer = j.answer; behind = j.behind ++ m ∷ []; moves = longer; word = j.word; found = j.found }

  restarted-more : (on : Moves) (m : Move × Answer) → IsRestarted w gate on → IsRestarted w gate (on ++ m ∷ [])
  restarted-more on m j =
      let longer = moves-more j.before j.behind on (O, j.answer) m j.moves in
      record { before = j.before; answer = j.answer; behind = j.behind ++ m ∷ []; moves = longer; word = j.word; undone = j.undone }

  module _ (q : State) (fits : (i : ℕ) → q.registers i < 2 ^ 64) (place : q.pc < 2 ^ 64) (small_key : key_of (plan w q) < 2 ^ 64) (before : Memory) (order : log_head before ≤ log_tail before) (restarts : ℕ) where
    abbrev At : Moves → Run → Type 0
    At on r = Passage w (IsJudged w gate on) (IsRestarted w gate on) q (key_of (plan w q)) (q.registers 12) before gate.own_done restarts r

    -- the same run, behind one move more
    one-behind : (on : Moves) (m : Move × Answer) (r : Run) → At on r → At (on ++ m ∷ []) r
    one-behind on m r (at_word t p k a b c page row f u n is) = at_word t p k a b c page row (Fact-map q (key_of (plan w q)) (q.registers 12) before p r.shared r.shadow.state (λ log. judged-more on m log) (restarted-more on m) f) u n is
    one-behind on m r (on_call t asked stalled page o n is) = on_call t asked stalled page (Outcome-map (λ log. judged-more on m log) (restarted-more on m) o) n is
    one-behind on m r (behind t asked s page o n is) = behind t asked s page (Outcome-map (λ log. judged-more on m log) (restarted-more on m) o) n is
    one-behind on m r (ended e) = ended e

    -- a list of moves leads on
    run-passes : (on ms : Moves) (r : Run) → run_from w gate on ≡ r → At on r → Passing w r ms → At (on ++ ms) (run_from w r ms)
    unfolding run_from
    run-passes on [] r e h p = subst (λ ms. At ms r) (sym (append-nil on)) h
    run-passes on (m ∷ ms) r e h p =
        let then : Moves = on ++ m ∷ [] in
        let one : At then (step w r m) =
        move-passes w (IsJudged w gate then) (IsRestarted w gate then) q fits place small_key before order gate.own_done restarts m.0 m.1 r r.end refl (judge m) (restart m) (one-behind on m r h)
        (passing-view w ms (step w r m) p.2) p.1 in
        subst (λ all. At all (run_from w (step w r m) ms)) (append_assoc on (m ∷ []) ms)
        (run-passes then ms (step w r m) (run_from-snoc w gate on m ∙ ap (λ (r : Run). step w r m) e) one p.2)
      where
        last : (m : Move × Answer) → m.0 ≡ O → on ++ m ∷ [] ≡ on ++ (O, m.1) ∷ []
        last m is = ap (λ (n : Move). on ++ (n, m.1) ∷ []) is

        judge : (m : Move × Answer) → m.0 ≡ O → r.own.pc ≡ judging_word → IsJudged w gate (on ++ m ∷ []) r.shared
        judge m is at =
            record { before = on; answer = m.1; behind = []; moves = last m is; word = ap (λ (r : Run). r.own.pc) e ∙ at; found = ap (λ (r : Run). r.shared) e }

        restart : (m : Move × Answer) → m.0 ≡ O → r.own.pc ≡ restart_word → r.own_done ≡ gate.own_done → IsRestarted w gate (on ++ m ∷ [])
        restart m is at undone =
            record { before = on; answer = m.1; behind = []; moves = last m is; word = ap (λ (r : Run). r.own.pc) e ∙ at; undone = ap (λ (r : Run). r.own_done) e ∙ undone }

-- behind a gate the call is in passage
passes_on : (w : World) → Accepted w → (ms : Moves) (x : Answer) (on : Moves) → let program = run w ms in let gate = step w program (O, x) in
    program.view ≡ Program → IsLog program.shared → Passing w gate on
    → Passage w (IsJudged w gate on) (IsRestarted w gate on) program.own (key_of (plan w program.own)) (program.own.registers 12) gate.shared gate.own_done gate.restarts (run_from w gate on)
passes_on w a ms x on p log passing =
    let program : Run = run w ms in
    let gate : Run = step w program (O, x) in
    let y : Entered w program gate = step-enters w a x program program.end refl (own_side w a ms) p (passing-view w on gate passing) in
    let q : State = program.own in
    let order' : log_head gate.shared ≤ log_tail gate.shared = subst (λ m. log_head m ≤ log_tail m) (sym y.shared) log.order in
    let below' : log_tail gate.shared < 2 ^ 64 = subst (λ m. log_tail m < 2 ^ 64) (sym y.shared) log.below in
    let start : Passage w (IsJudged w gate []) (IsRestarted w gate []) q (key_of (plan w q)) (q.registers 12) gate.shared gate.own_done gate.restarts gate =
    at_word y.tally fresh 1 _ _ _ y.page r1 (Appends-same gate.shared below') refl
    (record { done = sym (ap (λ p. p.tally.done) y.side); restarts = sym (ap (λ p. p.tally.restarts) y.side); asked = y.asked })
    (y.side ∙ ap (λ rs. stub_side q y.tally 1 rs y.page) (sym (three-own q.registers))) in
    run-passes w gate q y.fits y.place y.key gate.shared order' gate.restarts [] on gate (run_from-nil w gate) start passing

-- each own move behind it leaves what is shared, takes the oldest pair, or finds the shadow stopped
pub stub_takes_oldest : StubTakesOldest
stub_takes_oldest w a ms x on y p log passing =
    let program : Run = run w ms in
    let gate : Run = step w program (O, x) in
    let r : Run = run_from w gate on in step-takes (IsJudged w gate on) (IsRestarted w gate on) w program.own gate.shared gate.own_done gate.restarts y r r.end refl (passes_on w a ms x on p log passing)

-- what a passage does to the log
pub stub_keeps_log : StubKeepsLog
stub_keeps_log w a ms x on p log passing leaving =
    let program : Run = run w ms in
    let gate : Run = step w program (O, x) in
    let y : Entered w program gate = step-enters w a x program program.end refl (own_side w a ms) p (passing-view w on gate passing) in
    let q : State = program.own in
    let order' : log_head gate.shared ≤ log_tail gate.shared = subst (λ m. log_head m ≤ log_tail m) (sym y.shared) log.order in
    passage-ends w (IsJudged w gate on) (IsRestarted w gate on) q y.fits y.place y.key gate.shared order' gate.own_done gate.restarts gate (run_from w gate on) on (ap (λ p. p.gate) y.side) refl refl refl
    (λ log j. j) (λ z. z)
    (passes_on w a ms x on p log passing) leaving
