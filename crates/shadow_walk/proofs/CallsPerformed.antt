-- The HCALL in the block of a call: the shadow goes on with the state's next state, but for the bytes of a read that isn't filled.
use Rattle.std.proofs.Common.{◌≡◌, ℕ, ◌-◌, Bool, true, false, List, length, get_or, refl, ◌∙◌, ap, sym, subst, arith}
use Rattle.spec_base.specs.Files.{Files}
use Rattle.spec_base.specs.Word.{word_of_int}
use Rattle.spec_base.specs.declared.layout.Layout.{Layout}
use Rattle.spec_base.specs.declared.note.ShadowState.{ShadowState}
use Rattle.spec_base.specs.declared.note.ShadowState.TheVariants.{Running, Parked}
use Rattle.spec_base.specs.declared.park.Park.TheVariants as park
use Rattle.rv_decode.specs.declared.instr.Instr.TheVariants.{Ecall}
use Rattle.rv_model.specs.Memory.{Memory, patched, written, is_within}
use Rattle.rv_model.specs.Registers.{Registers, with_reg}
use Rattle.rv_model.specs.Effect.{after}
use Rattle.rv_model.specs.Space.{program_byte}
use Rattle.program_model.specs.Descriptors.{Descriptors}
use Rattle.program_model.specs.Calls.{CallPlan, Set, Look, Read, Write, Exit, bytes_read}
use Rattle.program_model.specs.PlainRun.{State, plan_of}
use Rattle.run_model.specs.Run.{World, Run, Answer, Usual, Took, Failed, Lost, rewritten_words}
use Rattle.run_model.specs.ShadowMoves.{arrived, arrived_if, assumed, fill, hint_given, is_filled, shadow_at_word, shadow_in, shadow_plan, shadow_step, word_counted}
use Rattle.run_laws.specs.OwnLaws.{Accepted}
use Rattle.run_model.specs.Restarts.{call_action}
use Rattle.run_model.specs.Marks.{no_marks}
use Rattle.code_model.specs.Tables.{Tabs, TableOk}
use Rattle.own_laws.proofs.Stops.{fill-state}
use Rattle.side_model.specs.Tables.{HasTabs}
use Rattle.rows_log.specs.Fills.{IsFilled}
use Rattle.rows_log.proofs.FilledReads.{fills-keep_tables}
use Rattle.rows_log.proofs.FillViews.{written-alike}
use Rattle.mark_laws.specs.Agreement.{Agrees, SeesAlike, HasAll, CallLeads, assumed_answer, assumed_memory, is_read}
use Rattle.mark_laws.specs.Sizes.{TrueSizes}
use Rattle.mark_laws.proofs.OneCall.{plan_agrees, call_agrees}
use Rattle.mark_laws.proofs.Sizes.{states_find_all}
use Rattle.shadow_laws.proofs.ShadowNumbers.{in-keeps, sized-of, of-sized}
use Rattle.hint_laws.proofs.Followed.{view_in}
use Rattle.hint_laws.proofs.FilledViews as seen
use Rattle.hint_laws.proofs.FilledViews.{SharedBehind, shared-behind}
use Rattle.hint_laws.proofs.WordFacts.{PlanDoes, word-calls, word-leaves}
use Rattle.shadow_walk.specs.Walks.{StandsAtCall}
use Rattle.shadow_walk.specs.Restarts.{StandsAnswered}
use Rattle.shadow_walk.specs.Performed.{fills, is_left, HasStateBut, Performs, goes_on, exits, fails, CallsArePerformed}
use Rattle.shadow_walk.proofs.LogWords.{call-there}
use Rattle.shadow_walk.proofs.OnTheWay.{call-unmarked, use-none}

-- ---- states

-- an arrival, and the count of words, leave the state
counted-state : (b : Bool) (r : Run) → (word_counted (arrived_if b r)).shadow.state ≡ r.shadow.state
counted-state true r = refl
counted-state false r = refl

-- ---- bytes

-- no byte is written elsewhere
written-out : (m : Memory) (a : ℕ) (bytes : List ℕ) (n x : ℕ) → length bytes ≡ n → is_within a n x ≡ false → written m a bytes x ≡ m x
unfolding patched
written-out m a bytes n x e out = ap (λ (b : Bool). elim b [ true ↦ get_or bytes (x - a) 0 | false ↦ m x ]) (ap (λ (k : ℕ). is_within a k x) e ∙ out)

-- what is seen behind a call is the next state's, but for the bytes of a read that isn't filled
seen-behind : (filled : Bool) (files : Files) (v m : Memory) (plan : CallPlan) (x : ℕ) → v x ≡ m x → HasAll files plan → is_left filled plan x ≡ false → assumed_memory filled files v plan x ≡ assumed_memory true files m plan x
seen-behind true files v m (Read d spot a) x e all left = written-alike v m a (bytes_read files spot) x e
seen-behind false files v m (Read d spot a) x e all left = e ∙ sym (written-out m a (bytes_read files spot) spot.count x (all d spot a refl) left)
seen-behind true files v m (Set f answer) x e all left = e
seen-behind false files v m (Set f answer) x e all left = e
seen-behind true files v m (Look name) x e all left = e
seen-behind false files v m (Look name) x e all left = e
seen-behind true files v m (Write to_out a n) x e all left = e
seen-behind false files v m (Write to_out a n) x e all left = e
seen-behind true files v m (Exit code) x e all left = e
seen-behind false files v m (Exit code) x e all left = e

-- whether a read is filled, as the laws of hints say it
fills-same : (w : World) (r : Run) (plan : CallPlan) → seen.fills w false r plan ≡ fills w r plan
fills-same w r (Set f answer) = refl
fills-same w r (Look name) = refl
fills-same w r (Read d spot a) = refl
fills-same w r (Write to_out a n) = refl
fills-same w r (Exit code) = refl

-- ---- the call

module _ (w : World) (a : Accepted w) (x : Answer) (r : Run) (q : State) (sizes : TrueSizes w.files q.files) (runs : r.shadow.state ≡ Running) (at : StandsAtCall w r q) where
  abbrev l : Layout
  l = w.image.layout

  abbrev next : Run
  next = shadow_step w x r

  abbrev plan : CallPlan
  plan = plan_of l q

  -- no register and no byte is marked
  agrees : Agrees no_marks r.shadow.registers q
  agrees = record { registers = λ i above below free. at.state.registers i above below }

  alike : SeesAlike l no_marks (view_in r) q
  alike = record { bytes = λ b inside free. at.state.bytes b inside }

  -- the plan is the state's
  planned : shadow_plan w r ≡ plan
  planned = plan_agrees l no_marks (view_in r) r.shadow.files r.shadow.registers q alike agrees at.state.files (use-none l q Ecall)

  -- the next run
  made : next ≡ word_counted (arrived l (assumed w x r false plan))
  made =
      ap (λ (s : ShadowState). shadow_in s w x r) runs ∙ ap (λ o. word_counted (shadow_at_word w x r o)) at.word
      ∙ ap (λ (p : CallPlan). word_counted (arrived l (assumed w x r false p))) planned

  -- its state
  state : next.shadow.state ≡ (assumed w x r false plan).shadow.state
  state = ap (λ (y : Run). y.shadow.state) made ∙ counted-state _ (assumed w x r false plan)

  module _ (runs_on : next.shadow.state ≡ Running) where
    does : PlanDoes w false r next plan
    does = subst (λ (p : CallPlan). PlanDoes w false r next p) planned (word-calls w x r false runs at.word runs_on)

    shared : SharedBehind w r next (seen.fills w false r plan) plan
    shared = shared-behind w a false r next at.state.tables at.state.has at.state.ok (word-leaves w x r runs).own plan planned does

    leads : CallLeads w.image w.files (seen.fills w false r plan) no_marks q r.shadow.registers (view_in next) plan
    leads =
        call_agrees w.image w.files (seen.fills w false r plan) no_marks q r.shadow.registers (view_in r) (view_in next) (record { goes_on = at.goes_on; word = at.call }) does.goes_on agrees alike
        (λ e. states_find_all w.files l q sizes) shared.view

    -- table and list
    record Tabled : Type 0 where
      tables : Tabs
      has : HasTabs l next.shared tables
      ok : TableOk l tables

    unread : is_read plan ≡ false → Tabled
    unread quiet = record { tables = at.state.tables; has = subst (λ (m : Memory). HasTabs l m at.state.tables) (sym (does.others quiet).shared) at.state.has; ok = at.state.ok }

    tabled : (p : CallPlan) → plan ≡ p → Tabled
    tabled (Read d spot b) e =
        let f : IsFilled l (program_byte l (rewritten_words w) r.own.memory) at.state.tables r.shared b _ (fill w spot b (hint_given false spot r)).shared =
        fills-keep_tables w r at.state.tables d spot b false a.lawful (planned ∙ e) at.state.has at.state.ok in
        record { tables = f.tables; has = subst (λ (m : Memory). HasTabs l m f.tables) (sym (does.reads d spot b e).shared) f.has; ok = f.ok }
    tabled (Set f answer) e = unread (ap is_read e)
    tabled (Look name) e = unread (ap is_read e)
    tabled (Write to_out b n) e = unread (ap is_read e)
    tabled (Exit code) e = unread (ap is_read e)

    -- where it stands
    stands : StandsAnswered w next q
    stands =
        let t : Tabled = tabled plan refl in
        record {
          call = at.call;
          place = does.pc ∙ ap after at.place ∙ omega (arith, (call-there w a q at.call).code.lawful.below);
          tables = t.tables;
          has = t.has;
          ok = t.ok;
          sized = of-sized next (in-keeps w a.files r.shadow.state x r (sized-of r at.state.sized));
        }

    -- and with what
    has : HasStateBut w next leads.leads.state (is_left (fills w r plan) plan)
    has =
        record {
          registers = λ i above below.
              ap (λ (rs : Registers). rs i) does.registers
              ∙ ap (λ (f : Descriptors). with_reg r.shadow.registers 10 (word_of_int (assumed_answer w.files f plan).1) i) at.state.files
              ∙ leads.leads.agrees.registers i above below (call-unmarked (seen.fills w false r plan) (call_action l q) i);
          files = does.files ∙ ap (λ (f : Descriptors). (assumed_answer w.files f plan).0) at.state.files ∙ sym leads.leads.descriptors;
          bytes = λ b inside free.
              shared.view b inside
              ∙ seen-behind (seen.fills w false r plan) w.files (view_in r) q.memory plan b (at.state.bytes b inside) (states_find_all w.files l q sizes) (ap (λ (t : Bool). is_left t plan b) (fills-same w r plan) ∙ free)
              ∙ ap (λ (m : Memory). m b) (sym leads.leads.memory);
        }

    went : Performs w x q r next
    went = goes_on runs_on stands leads.leads.state leads.leads.completes has

  -- by the plan
  by-state : (p : CallPlan) → plan ≡ p → (s : ShadowState) → (assumed w x r false p).shadow.state ≡ s → next.shadow.state ≡ s
  by-state p e s f = state ∙ ap (λ (p : CallPlan). (assumed w x r false p).shadow.state) e ∙ f

  looked : (y : Answer) → x ≡ y → (name : List ℕ) → plan ≡ Look name → (assumed w y r false (Look name)).shadow.state ≡ (assumed w x r false (Look name)).shadow.state → Performs w x q r next
  looked Failed e name f same = fails name f e (by-state (Look name) f (Parked park.Store) (sym same))
  looked Usual e name f same = went (by-state (Look name) f Running (sym same ∙ runs))
  looked (Took k) e name f same = went (by-state (Look name) f Running (sym same ∙ runs))
  looked Lost e name f same = went (by-state (Look name) f Running (sym same ∙ runs))

  by-plan : (p : CallPlan) → plan ≡ p → Performs w x q r next
  by-plan (Exit code) e = exits code e (by-state (Exit code) e (Parked park.Exit) refl)
  by-plan (Look name) e = looked x refl name e refl
  by-plan (Set f answer) e = went (by-state (Set f answer) e Running runs)
  by-plan (Write to_out b n) e = went (by-state (Write to_out b n) e Running runs)
  by-plan (Read d spot b) e = went (by-state (Read d spot b) e Running (fill-state (is_filled w (hint_given false spot r) spot b spot.count) w spot b (hint_given false spot r) ∙ runs))

pub calls_performed : CallsArePerformed
calls_performed w x r q a sizes runs at = by-plan w a x r q sizes runs at (plan_of w.image.layout q) refl
