-- What the own hart completes after a restart, while each put is whole, is the next instruction of the run from there: in the program the one at its pc, in the stub the call that it met at its gate.
use Rattle.std.proofs.Common.{◌≡◌, ℕ, ◌+◌, ◌*◌, ◌%◌, ◌<◌, ◌⊎◌, inl, inr, Bool, true, false, not, ◌==◌, List, [], ◌∷◌, ◌++◌, length, nat_lt, Option, Some, None, is_some, unwrap_or, refl, sym, ◌∙◌, ap, subst, length-append, arith}
use Rattle.std.specs.Prelude.{IsTrue}
use Rattle.std.specs.Option.{option_map, option_and_then}
use Rattle.std.proofs.lemmas.Bool.Decides.{nat_tests}
use Rattle.spec_base.specs.Files.{Files}
use Rattle.spec_base.specs.declared.layout.Layout.{Layout}
use Rattle.spec_base.specs.declared.machine.View.{View}
use Rattle.spec_base.specs.declared.machine.View.TheVariants.{Plain, Program, Stub, Shadow}
use Rattle.spec_base.specs.declared.note.Move.{Move}
use Rattle.spec_base.specs.declared.note.Move.TheVariants.{O}
use Rattle.rv_decode.specs.declared.instr.Instr.{Instr}
use Rattle.rv_decode.specs.declared.instr.Instr.TheVariants.{Jal, Jalr, Branch, Load, Store, Ecall, Hgate, Hleave, Hsite, Hkey, Hstop, Hrestart, Hcall, Hpark}
use Rattle.rv_decode.specs.declared.instr.LoadOp.{LoadOp}
use Rattle.rv_model.specs.Memory.{Memory}
use Rattle.rv_model.specs.Registers.{Registers, reg}
use Rattle.rv_model.specs.Rights.{is_data, data_rights, Rights}
use Rattle.rv_model.specs.Arithmetic.{is_taken}
use Rattle.rv_model.specs.Effect.{Effect, Next, Stored, Trapped, Called, Gated, effect, fetched, jump_if, branch_if, load_if, store_if}
use Rattle.program_model.specs.Calls.{CallKind, Open, OpenAt, kind_of, CallPlan, Set, Look, Read, Write, Exit}
use Rattle.program_model.specs.PlainRun.{State, Step, Went, Call, at_word, after_effect, completed, performed, taken_by, text_of, plan_of, state_after, all_taken}
use Rattle.code_model.specs.Patch.{patched_instr}
use Rattle.code_model.proofs.Alike.{fetched-map}
use Rattle.run_model.specs.Run.{World, Run, RunEnd, Answer}
use Rattle.run_model.specs.OwnMoves.{program_after, program_at, own_step}
use Rattle.run_model.specs.Moves.{Moves, begun, step, step_unless, run}
use Rattle.run_model.specs.Restarts.{instr_at, action_by, name_action, call_action, instr_action}
use Rattle.run_laws.specs.OwnLaws.{Accepted}
use Rattle.own_laws.proofs.Reached.{Reached, none_some, false_true, reached-fits}
use Rattle.own_laws.proofs.Side.{Side, side_of, with_side, Tally}
use Rattle.own_laws.proofs.StubWords.{stub_side}
use Rattle.own_laws.proofs.StubRows.{WordGoes, to_row, to_restarted, to_call, word_goes}
use Rattle.own_laws.proofs.OwnSide.{OwnSide, in_program, in_stub, at_call, waits, called, over, plan, AtCall, call-place, program_side, placed}
use Rattle.own_laws.proofs.OwnLaws.{own_side}
use Rattle.use_marks.specs.Passing.{touches_data}
use Rattle.use_marks.specs.Along.{has_completed, own_instr_in, own_instr, Completes}
use Rattle.use_marks.proofs.Moved.{same-count, others-complete-nothing}

-- a count that is the same
none-more : {A : Type 0} (n m : ℕ) → m ≡ n → nat_lt n m ≡ true → A
none-more n m e more = false_true (sym (same-count n m e) ∙ more)

-- ---- a state that is about to call is at an ECALL

-- whether an effect is a call
abbrev is_called : Effect → Bool
is_called Called = true
is_called (Next rs pc) = false
is_called (Stored a width v) = false
is_called (Trapped cause) = false
is_called (Gated i) = false

-- a jump isn't
jump_if-uncalled : (b : Bool) (rs : Registers) (target : ℕ) → is_called (jump_if b rs target) ≡ false
jump_if-uncalled true rs target = refl
jump_if-uncalled false rs target = refl

-- nor a branch
branch_if-uncalled : (b : Bool) (rs : Registers) (pc target : ℕ) → is_called (branch_if b rs pc target) ≡ false
branch_if-uncalled true rs pc target = jump_if-uncalled (target % 4 == 0) rs target
branch_if-uncalled false rs pc target = refl

-- nor a load
load_if-uncalled : (x y : Bool) (m : Memory) (op : LoadOp) (rs : Registers) (pc rd a : ℕ) → is_called (load_if x y m op rs pc rd a) ≡ false
load_if-uncalled false y m op rs pc rd a = refl
load_if-uncalled true false m op rs pc rd a = refl
load_if-uncalled true true m op rs pc rd a = refl

-- nor a store
store_if-uncalled : (x y : Bool) (a width v : ℕ) → is_called (store_if x y a width v) ≡ false
store_if-uncalled false y a width v = refl
store_if-uncalled true false a width v = refl
store_if-uncalled true true a width v = refl

-- no other instruction calls
others-uncalled : (r : Rights) (m : Memory) (rs : Registers) (pc : ℕ) (i : Instr) → (i ≡ Ecall) ⊎ (is_called (effect Plain r m rs pc i) ≡ false)
others-uncalled r m rs pc Ecall = inl refl
others-uncalled r m rs pc (Jal rd imm) = inr (jump_if-uncalled _ _ _)
others-uncalled r m rs pc (Jalr rd rs1 imm) = inr (jump_if-uncalled _ _ _)
others-uncalled r m rs pc (Branch op rs1 rs2 imm) = inr (branch_if-uncalled (is_taken op (reg rs rs1) (reg rs rs2)) rs pc _)
others-uncalled r m rs pc (Load op rd rs1 imm) = inr (load_if-uncalled _ _ m op rs pc rd _)
others-uncalled r m rs pc (Store op rs1 rs2 imm) = inr (store_if-uncalled _ _ _ _ _)
others-uncalled r m rs pc _ = inr refl

-- one call more isn't as many
one-longer : (calls : List Call) (c : Call) → calls ++ c ∷ [] ≡ calls → ⊥
one-longer calls c e =
    let more : length (calls ++ c ∷ []) ≡ length calls + 1 = length-append calls (c ∷ []) in
    let same : length (calls ++ c ∷ []) ≡ length calls = ap (λ (cs : List Call). length cs) e in
    absurd (omega (arith, more, same))

-- a performed call is one more, or an exit
performed-changes : (files : Files) (taken : ℕ) (c : CallPlan) (q : State) → q.exited ≡ None → (performed files taken c q).calls ≡ q.calls → (performed files taken c q).exited ≡ q.exited → ⊥
performed-changes files taken (Exit code) q going calls exited = none_some (sym (exited ∙ going))
performed-changes files taken (Write true a n) q going calls exited = one-longer q.calls _ calls
performed-changes files taken (Write false a n) q going calls exited = one-longer q.calls _ calls
performed-changes files taken (Set f answer) q going calls exited = one-longer q.calls _ calls
performed-changes files taken (Look name) q going calls exited = one-longer q.calls _ calls
performed-changes files taken (Read d spot a) q going calls exited = one-longer q.calls _ calls

module _ (w : World) where
  -- an effect that is no call changes neither
  uncalled-leaves : (s : State) (e : Effect) → is_called e ≡ false → (t : State) → after_effect w.image w.files all_taken s e ≡ Went t → (t.calls ≡ s.calls) × (t.exited ≡ s.exited)
  uncalled-leaves s (Next rs pc) u t e = (sym (ap (λ (z : Step). (unwrap_or (completed z) s).calls) e), sym (ap (λ (z : Step). (unwrap_or (completed z) s).exited) e))
  uncalled-leaves s (Stored a width v) u t e = (sym (ap (λ (z : Step). (unwrap_or (completed z) s).calls) e), sym (ap (λ (z : Step). (unwrap_or (completed z) s).exited) e))
  uncalled-leaves s (Trapped cause) u t e = none_some (ap completed e)
  uncalled-leaves s Called u t e = false_true (sym u)
  uncalled-leaves s (Gated i) u t e = none_some (ap completed e)

  at-ecall : (t : Tally) (q : State) → AtCall w t q → instr_at w.image q ≡ Some Ecall
  at-ecall t q g = by_word (instr_at w.image q) refl
    where
      behind : State
      behind = performed w.files (taken_by all_taken (plan w q) q) (plan w q) q

      goes : (o : Option Instr) → instr_at w.image q ≡ o → at_word w.image w.files all_taken q o ≡ Went behind
      goes o e = sym (ap (at_word w.image w.files all_taken q) e) ∙ g.calls all_taken

      by_kind : (i : Instr) → instr_at w.image q ≡ Some i → (i ≡ Ecall) ⊎ (is_called (effect Plain (data_rights w.image.layout) q.memory q.registers q.pc i) ≡ false) → instr_at w.image q ≡ Some Ecall
      by_kind i e (inl is) = e ∙ ap Some is
      by_kind i e (inr other) =
          let left : (behind.calls ≡ q.calls) × (behind.exited ≡ q.exited) =
          uncalled-leaves q (effect Plain (data_rights w.image.layout) q.memory q.registers q.pc i) other behind (goes (Some i) e) in
          absurd (performed-changes w.files (taken_by all_taken (plan w q) q) (plan w q) q g.going left.0 left.1)

      by_word : (o : Option Instr) → instr_at w.image q ≡ o → instr_at w.image q ≡ Some Ecall
      by_word None e = none_some (ap completed (goes None e))
      by_word (Some i) e = by_kind i e (others-uncalled (data_rights w.image.layout) q.memory q.registers q.pc i)

-- ---- an instruction of the program that completes

module _ (w : World) (r : Run) where
  -- a load or a store that completes touches data
  load-completes : (y z : Bool) (op : LoadOp) (rd a : ℕ) → has_completed r (program_after r (load_if y z r.own.memory op r.own.registers r.own.pc rd a)) ≡ true → z ≡ true
  load-completes y true op rd a h = refl
  load-completes true false op rd a h = none-more _ _ refl h
  load-completes false false op rd a h = none-more _ _ refl h

  store-completes : (y z : Bool) (a width v : ℕ) → has_completed r (program_after r (store_if y z a width v)) ≡ true → z ≡ true
  store-completes y true a width v h = refl
  store-completes true false a width v h = none-more _ _ refl h
  store-completes false false a width v h = none-more _ _ refl h

  -- what completes isn't patched, and touches data
  instr-completes : (i : Instr) → has_completed r (program_after r (effect Program (data_rights w.image.layout) r.own.memory r.own.registers r.own.pc (patched_instr i))) ≡ true
      → (patched_instr i ≡ i) × IsTrue (touches_data (is_data w.image.layout) r.own.registers i)
  instr-completes (Load op rd rs1 imm) h = (refl, load-completes _ _ op rd _ h)
  instr-completes (Store op rs1 rs2 imm) h = (refl, store-completes _ _ _ _ _ h)
  instr-completes Ecall h = none-more _ _ refl h
  instr-completes Hgate h = none-more _ _ refl h
  instr-completes Hleave h = none-more _ _ refl h
  instr-completes (Hsite rd) h = none-more _ _ refl h
  instr-completes (Hkey rd) h = none-more _ _ refl h
  instr-completes Hstop h = none-more _ _ refl h
  instr-completes Hrestart h = none-more _ _ refl h
  instr-completes (Hcall unhinted) h = none-more _ _ refl h
  instr-completes (Hpark cause) h = none-more _ _ refl h
  instr-completes _ h = (refl, refl)

  -- so it is of the word at pc
  word-completes : (o : Option Instr) → has_completed r (program_at w r (option_map patched_instr o)) ≡ true
      → (option_map patched_instr o ≡ o) × ((i : Instr) → o ≡ Some i → IsTrue (touches_data (is_data w.image.layout) r.own.registers i))
  word-completes None h = (refl, λ i e. none_some e)
  word-completes (Some i) h =
      let c : (patched_instr i ≡ i) × IsTrue (touches_data (is_data w.image.layout) r.own.registers i) = instr-completes i h in
      (ap Some c.0, λ j e. subst (λ (k : Instr). IsTrue (touches_data (is_data w.image.layout) r.own.registers k)) (ap (λ (o : Option Instr). unwrap_or o i) e) c.1)

-- ---- a call

-- the action of a call doesn't rest on the pc
flags-alike : (b : Bool) (l : Layout) (q : State) (pc a : ℕ) → name_action b l q a ≡ name_action b l (record q { pc = pc }) a
flags-alike true l q pc a = refl
flags-alike false l q pc a = refl

kinds-alike : (k : CallKind) (l : Layout) (q : State) (pc : ℕ) (c : CallPlan) → action_by k l q c ≡ action_by k l (record q { pc = pc }) c
kinds-alike Open l q pc c = flags-alike (reg q.registers 11 % 4 == 0) l q pc (reg q.registers 10)
kinds-alike OpenAt l q pc c = flags-alike (reg q.registers 12 % 4 == 0) l q pc (reg q.registers 11)
kinds-alike _ l q pc (Read d spot a) = refl
kinds-alike _ l q pc _ = refl

call-alike : (l : Layout) (q : State) (pc : ℕ) → call_action l q ≡ call_action l (record q { pc = pc })
call-alike l q pc = kinds-alike (kind_of (reg q.registers 17)) l q pc (plan_of l q)

-- ---- each stage of the own side

module _ (w : World) (x : Answer) where
  -- what an own move completes is the next instruction
  abbrev CompletesIn : Run → Type 0
  CompletesIn r = has_completed r (own_step w x r) ≡ true → 0 < r.restarts → IsTrue r.since.whole → (s : State) × Completes w r s

  -- the reached state is that of the run from the restart
  reached-at : (t : Tally) (s : State) → Reached w t s → 0 < t.restarts → t.whole ≡ true → option_and_then (λ (o : State). state_after w.image w.files all_taken o t.own) t.origin ≡ Some s
  reached-at t s h some whole = by_origin t.origin refl
    where
      started : not (t.restarts == 0) ≡ true
      started = grind (arith, nat_tests, some)

      by_origin : (o : Option State) → t.origin ≡ o → option_and_then (λ (o : State). state_after w.image w.files all_taken o t.own) t.origin ≡ Some s
      by_origin None e = false_true (ap is_some (sym e) ∙ (h.began ∙ started))
      by_origin (Some o) e = ap (option_and_then (λ (o : State). state_after w.image w.files all_taken o t.own)) e ∙ h.since o e whole

  -- in the program
  program-completes : (base : Run) (t : Tally) (site : ℕ) (gate s : State) (page : Memory) → Reached w t s → CompletesIn (with_side base (program_side s site gate page t))
  program-completes base t site gate s page h more some whole =
      let here : Run = with_side base (program_side s site gate page t) in
      let word : Option Instr = fetched (text_of w.image) w.image.layout.text_start s.pc in
      let patched : own_instr w here ≡ option_map patched_instr word = fetched-map patched_instr (text_of w.image) w.image.layout.text_start s.pc in
      let c : (option_map patched_instr word ≡ word) × ((i : Instr) → word ≡ Some i → IsTrue (touches_data (is_data w.image.layout) s.registers i)) =
      word-completes w here word (subst (λ (o : Option Instr). has_completed here (program_at w here o) ≡ true) patched more) in (
        s,
        record {
          at = reached-at t s h some whole;
          instr = sym (patched ∙ c.0);
          registers = λ k. refl;
          memory = refl;
          files = refl;
          touches = λ i e. c.1 i (sym (patched ∙ c.0) ∙ e);
          action = refl;
        },
      )

  -- at the call
  call-completes : (base : Run) (t : Tally) (q : State) (page : Memory) → AtCall w t q → CompletesIn (with_side base (stub_side q t 26 q.registers page))
  call-completes base t q page g more some whole = (
    q,
    record {
      at = reached-at t q g.reached some whole;
      instr = at-ecall w t q g;
      registers = λ k. refl;
      memory = refl;
      files = refl;
      touches = λ i e. subst (λ (k : Instr). IsTrue (touches_data (is_data w.image.layout) q.registers k)) (ap (λ (o : Option Instr). unwrap_or o Ecall) e) refl;
      action = call-alike w.image.layout q (0x417F_FFFC + 4 * 26);
    },
  )

  -- another word of the stub completes nothing
  row-done : (q : State) (t : Tally) (k : ℕ) (r y : Run) → WordGoes q t k r.cache r.shared r.shadow.state y → y.own_done ≡ t.done
  row-done q t k r y (to_row l a b c page row is less same held) = ap (λ (p : Side). p.tally.done) is
  row-done q t k r y (to_restarted c page s is less same full left runs) = ap (λ (p : Side). p.tally.done) is
  row-done q t k r y (to_call page is less same left f goes) = ap (λ (p : Side). p.tally.done) is

  own-completes : Accepted w → (r : Run) → r.end ≡ None → OwnSide w (side_of r) → CompletesIn r
  own-completes accepted r z (in_program t site gate s page h f is) = placed w CompletesIn r _ is (program-completes r t site gate s page h)
  own-completes accepted r z (in_stub t q k a b c page g row most is) =
      placed w CompletesIn r _ is
      (λ more some whole. none-more _ _ (row-done q t k r _ (word_goes w x q t (reached-fits w accepted t q g.reached) (call-place w accepted t q g) r k a b c page row)) more)
  own-completes accepted r z (at_call t q page g is) = placed w CompletesIn r _ is (call-completes r t q page g)
  own-completes accepted r z (waits t q page g is) = placed w CompletesIn r _ is (λ more some whole. none-more _ _ refl more)
  own-completes accepted r z (called t q s k page h f y n is) = placed w CompletesIn r _ is (λ more some whole. none-more _ _ refl more)
  own-completes accepted r z (over s e h o) = none_some (sym z ∙ o.ended)

  -- what isn't shown isn't completed
  abbrev OnlyShown : Run → Type 0
  OnlyShown r = own_instr w r ≡ None → (own_step w x r).own_done ≡ r.own_done

  own-shows : Accepted w → (r : Run) → r.end ≡ None → OwnSide w (side_of r) → OnlyShown r
  own-shows accepted r z (in_program t site gate s page h f is) =
      placed w OnlyShown r _ is
      (λ none. let here : Run = with_side r (program_side s site gate page t) in ap (λ (o : Option Instr). (program_at w here o).own_done) none)
  own-shows accepted r z (in_stub t q k a b c page g row most is) =
      placed w OnlyShown r _ is
      (λ none. row-done q t k r _ (word_goes w x q t (reached-fits w accepted t q g.reached) (call-place w accepted t q g) r k a b c page row))
  own-shows accepted r z (at_call t q page g is) = placed w OnlyShown r _ is (λ none. none_some (sym none))
  own-shows accepted r z (waits t q page g is) = placed w OnlyShown r _ is (λ none. refl)
  own-shows accepted r z (called t q s k page h f y n is) = placed w OnlyShown r _ is (λ none. refl)
  own-shows accepted r z (over s e h o) = none_some (sym z ∙ o.ended)

-- a move that has begun completes what the run would
instr-begun : (v : View) (w : World) (r : Run) → own_instr_in v w (begun r) ≡ own_instr_in v w r
instr-begun Program w r = refl
instr-begun Stub w r = refl
instr-begun Plain w r = refl
instr-begun Shadow w r = refl

completes-begun : (w : World) (r : Run) (s : State) → Completes w (begun r) s → Completes w r s
completes-begun w r s c =
    let same : own_instr w (begun r) ≡ own_instr w r = instr-begun r.view w r in
    record {
      at = c.at;
      instr = c.instr ∙ same;
      registers = c.registers;
      memory = c.memory;
      files = c.files;
      touches = λ i e. c.touches i (same ∙ e);
      action = subst (λ (o : Option Instr). instr_action w.image.layout s o ≡ instr_action w.image.layout r.own o) same c.action;
    }

-- an instruction that is completed since a restart, while each put was whole, is the next one from there
pub completes-next :
    (w : World) → Accepted w → (ms : Moves) (m : Move × Answer) → let r = run w ms in let next : Run = step w r m in
    has_completed r next ≡ true → 0 < r.restarts → IsTrue r.since.whole → (s : State) × Completes w r s
completes-next w a ms m = by_move (others-complete-nothing w r m.0 m.1)
  where
    r : Run
    r = run w ms

    by_end : (e : Option RunEnd) → r.end ≡ e → let y : Run = step_unless e w r (O, m.1) in has_completed r y ≡ true → 0 < r.restarts → IsTrue r.since.whole → (s : State) × Completes w r s
    by_end (Some e) f more some whole = none-more _ _ refl more
    by_end None f more some whole =
        let c : (s : State) × Completes w (begun r) s = own-completes w m.1 a (begun r) f (own_side w a ms) more some whole in
        (c.0, completes-begun w r c.0 c.1)

    by_move : (m.0 ≡ O) ⊎ ((step w r m).own_done ≡ r.own_done) → has_completed r (step w r m) ≡ true → 0 < r.restarts → IsTrue r.since.whole → (s : State) × Completes w r s
    by_move (inl own) more some whole = subst (λ (k : Move). has_completed r (step w r (k, m.1)) ≡ true → 0 < r.restarts → IsTrue r.since.whole → (s : State) × Completes w r s) (sym own) (by_end r.end refl) more some whole
    by_move (inr same) more some whole = none-more _ _ same more

-- where the own hart shows no instruction, none is completed
pub completes-only-shown : (w : World) → Accepted w → (ms : Moves) (m : Move × Answer) → let r = run w ms in own_instr w r ≡ None → has_completed r (step w r m) ≡ false
completes-only-shown w a ms m none = by_move (others-complete-nothing w r m.0 m.1)
  where
    r : Run
    r = run w ms

    by_end : (e : Option RunEnd) → r.end ≡ e → (step_unless e w r (O, m.1)).own_done ≡ r.own_done
    by_end (Some e) f = refl
    by_end None f = own-shows w m.1 a (begun r) f (own_side w a ms) (instr-begun r.view w r ∙ none)

    by_move : (m.0 ≡ O) ⊎ ((step w r m).own_done ≡ r.own_done) → has_completed r (step w r m) ≡ false
    by_move (inl own) = same-count _ _ (subst (λ (k : Move). (step w r (k, m.1)).own_done ≡ r.own_done) (sym own) (by_end r.end refl))
    by_move (inr same) = same-count _ _ same
