-- The own side of a run, by stages: in the program, at a word of the stub, at its call, waiting there for a block, behind the call, or ended. Each move keeps it.
use Rattle.std.proofs.Common.{◌≡◌, ℕ, ◌+◌, ◌*◌, ◌≤◌, Bool, true, false, not, ◌&&◌, ◌||◌, List, [], ◌∷◌, length, drop, Option, Some, None, refl, ◌∙◌, ap, sym, subst, ◌==◌, is_some, arith, ◌<◌, ◌^◌}
use Rattle.std.proofs.lemmas.Bool.Decides.{nat_tests}
use Rattle.std.specs.Prelude.{slice_get, unwrap_or}
use Rattle.std.specs.Option.{option_map}
use Rattle.spec_base.specs.Word.{wrap}
use Rattle.spec_base.specs.declared.machine.Trap.TheVariants as trap
use Rattle.spec_base.specs.declared.machine.View.TheVariants.{Plain, Program, Stub}
use Rattle.spec_base.specs.declared.note.Note.{Note}
use Rattle.spec_base.specs.declared.note.Note.TheVariants as note
use Rattle.spec_base.specs.declared.note.Move.{Move}
use Rattle.spec_base.specs.declared.note.Move.TheVariants.{O, S, T, D}
use Rattle.spec_base.specs.declared.spot.BlockSpot.{BlockSpot}
use Rattle.spec_base.specs.declared.spot.ReadSpot.{ReadSpot}
use Rattle.rv_decode.specs.declared.instr.Instr.{Instr}
use Rattle.rv_model.specs.Memory.{Memory, bytes_at}
use Rattle.rv_model.specs.Rights.{data_rights}
use Rattle.rv_model.specs.Effect.{Effect, Next, Stored, Trapped, Called, Gated, effect, fetched}
use Rattle.program_model.specs.Calls.{CallPlan, Set, Look, Read, Write, Exit}
use Rattle.program_model.specs.Cache.{Gathered, gather, blocks_of, in_flight}
use Rattle.program_model.specs.PlainRun.{State, Taken, Went, next, state_after, at_word, after_effect, performed, taken_by, text_of, plan_of, all_taken, end_of, Traps as step_traps}
use Rattle.code_model.specs.Patch.{patched_instr}
use Rattle.run_model.specs.Run.{World, Run, RunEnd, Exits, Traps, StoreFailed, SinkFailed, Answer, Usual, Took, Failed, Lost}
use Rattle.run_model.specs.OwnMoves.{program_after, program_at, program_step, own_call_step, read_on, look_done, write_step, write_done, taken_in, own_step}
use Rattle.run_model.specs.Moves.{Moves, step, step_unless, begun, run_from, fetch_of, fetch_ends, fetch_failed, landed_with}
use Rattle.run_laws.specs.OwnLaws.{SameEnd, Accepted}
use Rattle.code_model.proofs.Alike.{gated, effect-patched, effect-no_gate, fetched-map, NoGate}
use Rattle.own_laws.proofs.InvisibleShadow.{shadow_move-keeps}
use Rattle.own_laws.proofs.Reached.{Reached, Agrees, Fixes-last, length-bytes_at, reached-more, reached-with, reached-fits, completed_tally, end_of-step, whole_put, none_some}
use Rattle.own_laws.proofs.Side.{Side, side_of, with_side, Tally, Kept}
use Rattle.own_laws.proofs.StubWords.{three, three-own, stub_side, restarted_tally}
use Rattle.own_laws.proofs.StubRows.{Row, w1, w71, left, WordGoes, to_row, to_restarted, to_call, word_goes}
use Rattle.own_laws.proofs.Text.{place-small}

-- ---- stages

-- the plan of the call that a state asks for
abbrev pub plan : World → State → CallPlan
plan w q = plan_of w.image.layout q

-- the next instruction of the plain program is a call with this plan
abbrev pub Calls : World → State → CallPlan → Type 0
Calls w q plan = (taken : Taken) → next w.image w.files taken q ≡ Went (performed w.files (taken_by taken plan q) plan q)

-- the plain program is about to make a call
pub record AtCall (w : World) (t : Tally) (q : State) : Type 0 where
  pub reached : Reached w t q
  pub going : q.exited ≡ None
  pub calls : Calls w q (plan w q)

-- the pc of a call is below 2^64
pub call-place : (w : World) → Accepted w → (t : Tally) (q : State) → AtCall w t q → q.pc < 2 ^ 64
call-place w a t q g = by_word (fetched (text_of w.image) w.image.layout.text_start q.pc) refl
  where
    by_word : (o : Option Instr) → fetched (text_of w.image) w.image.layout.text_start q.pc ≡ o → q.pc < 2 ^ 64
    by_word (Some i) e = place-small w a q.pc i e
    by_word None e = absurd (no (sym (ap (at_word w.image w.files all_taken q) e) ∙ g.calls all_taken))
      where
        no : {s : State} → step_traps trap.FetchOut ≡ Went s → ⊥
        no e = cc

-- the own side in the program, waiting at the call, and behind it
abbrev pub program_side : State → ℕ → State → Memory → Tally → Side
program_side s site gate page t = record { own = s; site = site; gate = gate; view = Program; page = page; stalled = false; tally = t; end = None }

abbrev pub waiting_side : State → Tally → Memory → Side
waiting_side q t page = record (stub_side q t 26 q.registers page) { stalled = true }

abbrev pub called_side : State → State → Tally → Memory → Side
called_side q s t page = record (stub_side q t 27 s.registers page) { own = record s { pc = 0x417F_FFFC + 4 * 27 } }

-- a run has ended in a state of the plain program
pub record Over (w : World) (s : State) (p : Side) (e : RunEnd) : Type 0 where
  pub ended : p.end ≡ Some e
  pub own : p.own ≡ record s { registers = p.own.registers; pc = p.own.pc }
  pub place : p.view ≡ Program → p.own ≡ s
  pub same : (taken : Taken) → SameEnd (Some e) (end_of w.image w.files taken s)

pub data OwnSide (w : World) (p : Side) : Type 0 where
  in_program : (t : Tally) (site : ℕ) (gate s : State) (page : Memory) → Reached w t s → s.exited ≡ None → p ≡ program_side s site gate page t → OwnSide w p
  in_stub : (t : Tally) (q : State) (k a b c : ℕ) (page : Memory) → AtCall w t q → Row q k a b c page → left k ≤ 64 → p ≡ stub_side q t k (three q.registers a b c) page → OwnSide w p
  at_call : (t : Tally) (q : State) (page : Memory) → AtCall w t q → p ≡ stub_side q t 26 q.registers page → OwnSide w p
  waits : (t : Tally) (q : State) (page : Memory) → AtCall w t q → p ≡ waiting_side q t page → OwnSide w p
  called : (t : Tally) (q s : State) (taken : ℕ) (page : Memory) → Reached w t s → s.exited ≡ None
      → s ≡ performed w.files taken (plan w q) q → wrap (q.pc + 4) ≡ s.pc → p ≡ called_side q s t page → OwnSide w p
  over : (s : State) (e : RunEnd) → Reached w p.tally s → Over w s p e → OwnSide w p

-- ---- what all stages have: a plain state that was reached, and that the own side has but for its registers and pc in the stub

pub record Follows (w : World) (p : Side) : Type 0 where
  pub state : State
  pub reached : Reached w p.tally state
  pub own : p.own ≡ record state { registers = p.own.registers; pc = p.own.pc }
  pub place : p.view ≡ Program → p.own ≡ state
  pub end : (taken : Taken) → SameEnd p.end (end_of w.image w.files taken state)
  pub goes_on : p.end ≡ None → state.exited ≡ None

-- the stub's view isn't the program's
stub_program : {A : Type 0} → Stub ≡ Program → A
stub_program {A} e = absurd (no e)
  where
    no : Stub ≡ Program → ⊥
    no e = cc

-- an end isn't none
some_none : {X A : Type 0} {x : X} → Some x ≡ None → A
some_none e = none_some (sym e)

-- an own side that is this one, whose run goes on
stays-follows : (w : World) (p p' : Side) (s : State) → p ≡ p' → Reached w p'.tally s → s.exited ≡ None → p'.end ≡ None
    → p'.own ≡ record s { registers = p'.own.registers; pc = p'.own.pc } → (p'.view ≡ Program → p'.own ≡ s) → Follows w p
stays-follows w p p' s is h f e own place =
    subst (λ p. Follows w p) (sym is)
    (record { state = s; reached = h; own = own; place = place; end = λ taken. subst (λ end. SameEnd end (end_of w.image w.files taken s)) (sym e) tt; goes_on = λ e. f })

-- each stage has such a state
pub follows : (w : World) (p : Side) → OwnSide w p → Follows w p
follows w p (in_program t site gate s page h f is) = stays-follows w p _ s is h f refl refl (λ e. refl)
follows w p (in_stub t q k a b c page g row most is) = stays-follows w p _ q is g.reached g.going refl refl (λ e. stub_program e)
follows w p (at_call t q page g is) = stays-follows w p _ q is g.reached g.going refl refl (λ e. stub_program e)
follows w p (waits t q page g is) = stays-follows w p _ q is g.reached g.going refl refl (λ e. stub_program e)
follows w p (called t q s k page h f z n is) = stays-follows w p _ s is h f refl refl (λ e. stub_program e)
follows w p (over s e h o) =
    record {
      state = s;
      reached = h;
      own = o.own;
      place = o.place;
      end = λ taken. subst (λ end. SameEnd end (end_of w.image w.files taken s)) (sym o.ended) (o.same taken);
      goes_on = λ z. some_none (sym o.ended ∙ z);
    }

module _ (w : World) where
  -- ---- a word of the program

  module _ (base : Run) (t : Tally) (site : ℕ) (gate s : State) (page : Memory) (h : Reached w t s) (f : s.exited ≡ None) where
    abbrev here : Run
    here = with_side base (program_side s site gate page t)

    -- an instruction that makes no call
    goes : (s' : State) → s'.exited ≡ None → ((taken : Taken) → next w.image w.files taken s ≡ Went s') → ((taken : Taken) → Agrees taken s' → Agrees taken s)
        → OwnSide w (program_side s' site gate page (completed_tally t.whole t.gathered t))
    goes s' f' k same =
        in_program (completed_tally t.whole t.gathered t) site gate s' page
        (reached-more w t t.whole t.gathered s s' h f (record { plain = λ taken a. (same taken a, k taken); since = λ o e whole. (whole, k all_taken) })) f' refl

    -- each effect of an instruction leads to a stage
    after_effect-goes : (e : Effect) → NoGate e → ((taken : Taken) → next w.image w.files taken s ≡ after_effect w.image w.files taken s e) → OwnSide w (side_of (program_after here (gated e)))
    after_effect-goes (Next rs pc) n k = goes _ f k (λ taken a. a)
    after_effect-goes (Stored a width v) n k = goes _ f k (λ taken a. a)
    after_effect-goes (Trapped cause) n k =
        over s (Traps cause s.pc) h (record { ended = refl; own = refl; place = λ e. refl; same = λ taken. end_of-step w taken s _ f (k taken) })
    after_effect-goes Called n k =
        in_stub (record t { asked = false }) s 1 _ _ _ page
        (record { reached = reached-with w t t.gathered false s h; going = f; calls = k }) w1 (omega arith)
        (ap (λ rs. stub_side s (record t { asked = false }) 1 rs page) (sym (three-own s.registers)))
    after_effect-goes (Gated i) n k = absurd n.by

    -- so does each word of the program
    word-goes : (o : Option Instr) → fetched (text_of w.image) w.image.layout.text_start s.pc ≡ o → OwnSide w (side_of (program_at w here (option_map patched_instr o)))
    word-goes None e =
        over s (Traps trap.FetchOut s.pc) h (record { ended = refl; own = refl; place = λ e. refl; same = λ taken. end_of-step w taken s _ f (ap (at_word w.image w.files taken s) e) })
    word-goes (Some i) e =
        subst (λ e. OwnSide w (side_of (program_after here e))) (sym (effect-patched (data_rights w.image.layout) s.memory s.registers s.pc i))
        (after_effect-goes (effect Plain (data_rights w.image.layout) s.memory s.registers s.pc i)
        (effect-no_gate (data_rights w.image.layout) s.memory s.registers s.pc i) (λ taken. ap (at_word w.image w.files taken s) e))

    -- so does each own move in the program
    program-goes : OwnSide w (side_of (program_step w here))
    program-goes =
        subst (λ o. OwnSide w (side_of (program_at w here o))) (sym (fetched-map patched_instr (text_of w.image) w.image.layout.text_start s.pc))
        (word-goes (fetched (text_of w.image) w.image.layout.text_start s.pc) refl)

  -- ---- the call

  module _ (base : Run) (t : Tally) (q : State) (page : Memory) (g : AtCall w t q) where
    abbrev the_call : Run
    the_call = with_side base (stub_side q t 26 q.registers page)

    -- a call that is completed, whose put took k bytes
    done : (whole : Bool) (k : ℕ) (c : CallPlan) (s : State) → plan w q ≡ c → s ≡ performed w.files k c q → s.exited ≡ None → wrap (q.pc + 4) ≡ s.pc
        → ((taken : Taken) → Agrees taken s → Agrees taken q × (taken_by taken c q ≡ k))
        → ((o : State) → t.origin ≡ Some o → whole ≡ true → (t.whole ≡ true) × (taken_by all_taken c q ≡ k))
        → OwnSide w (called_side q s (completed_tally whole 0 t) page)
    done whole k c s p z f n plain since =
        called (completed_tally whole 0 t) q s k page
        (reached-more w t whole 0 q s g.reached g.going (record {
          plain = λ taken a. let y = plain taken a in (y.0, leads taken y.1);
          since = λ o e h. let y = since o e h in (y.0, leads all_taken y.1);
        })) f (z ∙ ap (λ c. performed w.files k c q) (sym p)) n refl
      where
        leads : (taken : Taken) → taken_by taken c q ≡ k → next w.image w.files taken q ≡ Went s
        leads taken e =
            g.calls taken ∙ ap (λ c. Went (performed w.files (taken_by taken c q) c q)) p
            ∙ ap (λ m. Went (performed w.files m c q)) e ∙ ap Went (sym z)

    -- a put: its count is fixed by its state's puts, and it took all where that is said
    fixed_out : (taken : Taken) (a n k : ℕ) → Agrees taken (performed w.files k (Write true a n) q) → Agrees taken q × (taken_by taken (Write true a n) q ≡ k)
    fixed_out taken a n k h =
        let z = Fixes-last taken.out q.out.puts (length (bytes_at q.memory a n), k) h.0 in
        ((z.0, h.1), ap (λ m. unwrap_or (slice_get taken.out (length q.out.puts)) m) (sym (length-bytes_at q.memory a n)) ∙ z.1)

    -- the same of standard error
    fixed_err : (taken : Taken) (a n k : ℕ) → Agrees taken (performed w.files k (Write false a n) q) → Agrees taken q × (taken_by taken (Write false a n) q ≡ k)
    fixed_err taken a n k h =
        let z = Fixes-last taken.err q.err.puts (length (bytes_at q.memory a n), k) h.1 in
        ((h.0, z.0), ap (λ m. unwrap_or (slice_get taken.err (length q.err.puts)) m) (sym (length-bytes_at q.memory a n)) ∙ z.1)

    -- after a restart a put that counts as whole took all
    taken_whole : (k n : ℕ) (o : State) → t.origin ≡ Some o → (t.whole && ((k == n) || (t.restarts == 0))) ≡ true → (t.whole ≡ true) × (n ≡ k)
    taken_whole k n o e h =
        let started : (t.restarts == 0) ≡ false = not_true (t.restarts == 0) (sym g.reached.began ∙ ap is_some e) in
        let y = whole_put t.whole (t.restarts == 0) k n h started in
        (y.0, sym y.1)
      where
        not_true : (b : Bool) → not b ≡ true → b ≡ false
        not_true true e = sym e
        not_true false e = refl

    -- a put leads behind the call
    put-goes : (to_out : Bool) (a n k : ℕ) (notes : List Note) → plan w q ≡ Write to_out a n → OwnSide w (side_of (write_done w k to_out a n the_call))
    put-goes true a n k notes p =
        done (t.whole && ((k == n) || (t.restarts == 0))) k (Write true a n) _ p refl g.going refl (λ taken h. fixed_out taken a n k h) (λ o e h. taken_whole k n o e h)
    put-goes false a n k notes p =
        done (t.whole && ((k == n) || (t.restarts == 0))) k (Write false a n) _ p refl g.going refl (λ taken h. fixed_err taken a n k h) (λ o e h. taken_whole k n o e h)

    -- a failed call ends the run before it
    fails : (e : RunEnd) → ((taken : Taken) → SameEnd (Some e) (end_of w.image w.files taken q)) → OwnSide w (record (stub_side q t 26 q.registers page) { end = Some e })
    fails e same = over q e g.reached (record { ended = refl; own = refl; place = λ e. stub_program e; same = same })

    -- a look ends the run or leads behind the call
    look-goes : (x : Answer) (name : List ℕ) → plan w q ≡ Look name → OwnSide w (side_of (look_done w x the_call name))
    look-goes Failed name p = fails StoreFailed (λ taken. tt)
    look-goes Usual name p = done t.whole 0 (Look name) _ p refl g.going refl (λ taken h. (h, refl)) (λ o e h. (h, refl))
    look-goes (Took k) name p = done t.whole 0 (Look name) _ p refl g.going refl (λ taken h. (h, refl)) (λ o e h. (h, refl))
    look-goes Lost name p = done t.whole 0 (Look name) _ p refl g.going refl (λ taken h. (h, refl)) (λ o e h. (h, refl))

    -- a read waits for a block or leads behind the call
    read-goes : (b : Bool) (d : ℕ) (spot : ReadSpot) (a : ℕ) (had : Gathered) → plan w q ≡ Read d spot a → OwnSide w (side_of (read_on b w d spot a had the_call))
    read-goes true d spot a had p =
        waits (record t { gathered = had.had }) q page (record { reached = reached-with w t had.had t.asked q g.reached; going = g.going; calls = g.calls }) refl
    read-goes false d spot a had p = done t.whole 0 (Read d spot a) _ p refl g.going refl (λ taken h. (h, refl)) (λ o e h. (h, refl))

    -- a write ends the run or leads behind the call
    write-goes : (x : Answer) (to_out : Bool) (a n : ℕ) → plan w q ≡ Write to_out a n → OwnSide w (side_of (write_step w x the_call to_out a n))
    write-goes Failed to_out a n p = fails SinkFailed (λ taken. tt)
    write-goes Usual to_out a n p = put-goes to_out a n (taken_in Usual n) [] p
    write-goes (Took k) to_out a n p = put-goes to_out a n (taken_in (Took k) n) [] p
    write-goes Lost to_out a n p = put-goes to_out a n (taken_in Lost n) [] p

    -- an exit ends the run as the plain program does
    exit-goes : (code : ℕ) → plan w q ≡ Exit code → OwnSide w (side_of (own_call_step w Usual the_call (Exit code)))
    exit-goes code p =
        over (performed w.files 0 (Exit code) q) (Exits code)
        (reached-more w t t.whole 0 q _ g.reached g.going (record { plain = λ taken a. (a, exits taken); since = λ o e h. (h, exits all_taken) }))
        (record { ended = refl; own = refl; place = λ e. stub_program e; same = λ taken. refl })
      where
        exits : (taken : Taken) → next w.image w.files taken q ≡ Went (performed w.files 0 (Exit code) q)
        exits taken = g.calls taken ∙ ap (λ c. Went (performed w.files (taken_by taken c q) c q)) p

    -- each call leads to a stage
    call-goes : (x : Answer) (c : CallPlan) → plan w q ≡ c → OwnSide w (side_of (own_call_step w x the_call c))
    call-goes x (Set files answer) p = done t.whole 0 (Set files answer) _ p refl g.going refl (λ taken h. (h, refl)) (λ o e h. (h, refl))
    call-goes x (Look name) p = look-goes x name p
    call-goes x (Read d spot a) p =
        let had : Gathered = gather base.cache t.gathered (drop t.gathered (blocks_of spot)) in
        read-goes had.waits d spot a had p
    call-goes x (Write to_out a n) p = write-goes x to_out a n p
    call-goes x (Exit code) p = exit-goes code p

  -- ---- an own move

  -- what holds of a run with a known own side put into it holds of a run that has this side
  pub placed : (P : Run → Type 0) (r : Run) (p : Side) → side_of r ≡ p → P (with_side r p) → P r
  placed P r p e h = subst (λ (p : Side). P (with_side r p)) (sym e) h

  -- the counts after a restart for a call
  after_restart : (t : Tally) (q : State) → AtCall w t q → AtCall w (restarted_tally q t) q
  unfolding state_after
  after_restart t q g =
      record { reached = record { plain = g.reached.plain; since = λ o e h. from o e; began = restarted t.restarts }; going = g.going; calls = g.calls }
    where
      from : (o : State) → Some q ≡ Some o → state_after w.image w.files all_taken o 0 ≡ Some q
      from o e = sym e

      restarted : (n : ℕ) → true ≡ not (n + 1 == 0)
      restarted n = grind (arith, nat_tests)

  -- each word of the stub leads to a stage
  stub-goes : (t : Tally) (q : State) (k : ℕ) (r r' : Run) → AtCall w t q → left k ≤ 64 → WordGoes q t k r.cache r.shared r.shadow.state r' → OwnSide w (side_of r')
  stub-goes t q k r r' g most (to_row l x29 x30 x31 page row is less same held) = in_stub t q l x29 x30 x31 page g row (omega (arith, less, most)) is
  stub-goes t q k r r' g most (to_restarted c page s is less same full left runs) =
      in_stub (restarted_tally q t) q 71 _ _ c page (after_restart t q g) (w71 s) (omega (arith, less, most)) is
  stub-goes t q k r r' g most (to_call page is less same left f goes) = at_call t q page g is

  module _ (accepted : Accepted w) where
    -- each own move leads from a stage to a stage
    own-goes : (x : Answer) (r : Run) → r.end ≡ None → OwnSide w (side_of r) → OwnSide w (side_of (own_step w x r))
    own-goes x r z (in_program t site gate s page h f is) = placed (λ r. OwnSide w (side_of (own_step w x r))) r _ is (program-goes r t site gate s page h f)
    own-goes x r z (in_stub t q k a b c page g row most is) =
        placed (λ r. OwnSide w (side_of (own_step w x r))) r _ is (stub-goes t q k r _ g most (word_goes w x q t (reached-fits w accepted t q g.reached) (call-place w accepted t q g) r k a b c page row))
    own-goes x r z (at_call t q page g is) = placed (λ r. OwnSide w (side_of (own_step w x r))) r _ is (call-goes r t q page g x (plan w q) refl)
    own-goes x r z (waits t q page g is) = placed (λ r. OwnSide w (side_of (own_step w x r))) r _ is (waits t q page g refl)
    own-goes x r z (called t q s k page h f y n is) =
        placed (λ r. OwnSide w (side_of (own_step w x r))) r _ is (in_program t q.pc q s page h f (ap (λ pc. program_side (record s { pc = pc }) q.pc q page t) n))
    own-goes x r z (over s e h o) = none_some (sym z ∙ o.ended)

    -- ---- a fetch

    -- a failed fetch of the demanded block ends the run in a state of the plain program
    stops : (p : Side) → Follows w p → OwnSide w (record p { end = Some StoreFailed })
    stops p f = over f.state StoreFailed f.reached (record { ended = refl; own = f.own; place = f.place; same = λ taken. tt })

    -- the stall ends
    abbrev awake : Side → Side
    awake p = record p { stalled = false; tally = record p.tally { gathered = p.tally.gathered + 1 } }

    abbrev more : Tally → Tally
    more t = record t { gathered = t.gathered + 1 }

    -- one block more is had
    had_more : (t : Tally) (q : State) → AtCall w t q → AtCall w (more t) q
    had_more t q g = record { reached = reached-with w t (t.gathered + 1) t.asked q g.reached; going = g.going; calls = g.calls }

    -- each stage is one where a stall ends
    wakes : (p : Side) → p.end ≡ None → OwnSide w p → OwnSide w (awake p)
    wakes p z (in_program t site gate s page h f is) = in_program (more t) site gate s page (reached-with w t (t.gathered + 1) t.asked s h) f (ap awake is)
    wakes p z (in_stub t q k a b c page g row most is) = in_stub (more t) q k a b c page (had_more t q g) row most (ap awake is)
    wakes p z (at_call t q page g is) = at_call (more t) q page (had_more t q g) (ap awake is)
    wakes p z (waits t q page g is) = at_call (more t) q page (had_more t q g) (ap awake is)
    wakes p z (called t q s k page h f y n is) = called (more t) q s k page (reached-with w t (t.gathered + 1) t.asked s h) f y n (ap awake is)
    wakes p z (over s e h o) = none_some (sym z ∙ o.ended)

    -- the landing of a block leads to a stage
    landed-goes : (o : Option BlockSpot) (r : Run) (notes : List Note) → r.end ≡ None → OwnSide w (side_of r) → OwnSide w (side_of (landed_with o r notes))
    landed-goes (Some spot) r notes z h = wakes (side_of r) z h
    landed-goes None r notes z h = h

    -- so does a failed fetch
    failed-goes : (o : Option BlockSpot) (r : Run) (spot : BlockSpot) → OwnSide w (side_of r) → OwnSide w (side_of (fetch_failed o r spot))
    failed-goes (Some demanded) r spot h = stops (side_of r) (follows w (side_of r) h)
    failed-goes None r spot h = h

    -- so does each end of a fetch
    ends-goes : (x : Answer) (r : Run) (spot : BlockSpot) → r.end ≡ None → OwnSide w (side_of r) → OwnSide w (side_of (fetch_ends w x r spot))
    ends-goes Failed r spot z h = failed-goes r.cache.demanded r spot h
    ends-goes Lost r spot z h = landed-goes r.cache.demanded r (note.Lost spot ∷ []) z h
    ends-goes Usual r spot z h = landed-goes r.cache.demanded r (note.Fetch spot ∷ []) z h
    ends-goes (Took k) r spot z h = landed-goes r.cache.demanded r (note.Fetch spot ∷ []) z h

    -- so does each fetch
    fetch-goes : (o : Option BlockSpot) (x : Answer) (r : Run) → r.end ≡ None → OwnSide w (side_of r) → OwnSide w (side_of (fetch_of o w x r))
    fetch-goes None x r z h = h
    fetch-goes (Some spot) x r z h = ends-goes x r spot z h

    -- ---- each move

    -- so does each move
    moved-goes : (m : Move) (x : Answer) (r : Run) (e : Option RunEnd) → r.end ≡ e → OwnSide w (side_of r) → OwnSide w (side_of (step_unless e w r (m, x)))
    moved-goes m x r (Some e) z h = h
    moved-goes O x r None z h = own-goes x (begun r) z h
    moved-goes D x r None z h = fetch-goes (in_flight r.cache) x (begun r) z h
    moved-goes S x r None z h = subst (λ e. OwnSide w (side_of (step_unless e w r (S, x)))) z (subst (λ p. OwnSide w p) (sym (ap (λ (k : Kept). k.side) (shadow_move-keeps w r S x tt))) h)
    moved-goes T x r None z h = subst (λ e. OwnSide w (side_of (step_unless e w r (T, x)))) z (subst (λ p. OwnSide w p) (sym (ap (λ (k : Kept). k.side) (shadow_move-keeps w r T x tt))) h)

    -- so does each step
    pub step-goes : (r : Run) (m : Move) (x : Answer) → OwnSide w (side_of r) → OwnSide w (side_of (step w r (m, x)))
    step-goes r m x h = moved-goes m x r r.end refl h

    -- so does each list of moves
    pub run-goes : (ms : Moves) (r : Run) → OwnSide w (side_of r) → OwnSide w (side_of (run_from w r ms))
    unfolding run_from
    run-goes [] r h = h
    run-goes (m ∷ ms) r h = run-goes ms (step w r m) (step-goes r m.0 m.1 h)
