-- A call of the run from a restart that the shadow assumes: what it leaves, whatever is planned, and that the shadow agrees with the plain run behind it where it is no use.
use Rattle.std.proofs.Common.{◌≡◌, ℕ, zero, suc, ◌/◌, ◌%◌, ◌<◌, ◌≤◌, Bool, true, false, not, ◌&&◌, ◌||◌, ◌==◌, List, [], ◌++◌, Option, Some, None, refl, ◌∙◌, ap, sym, subst, arith, append-nil}
use Rattle.std.specs.Prelude.{IsTrue, ◌≢◌}
use Rattle.std.specs.Option.{option_and_then}
use Rattle.std.proofs.lemmas.Bool.Decides.{nat_tests}
use Rattle.std.proofs.lemmas.Bool.{and_parts}
use Rattle.spec_base.specs.Listed.{is_listed}
use Rattle.spec_base.specs.Word.{word_of_int}
use Rattle.spec_base.specs.declared.layout.Layout.{Layout}
use Rattle.spec_base.specs.declared.note.ShadowState.TheVariants.{Running}
use Rattle.spec_base.specs.declared.spot.ReadSpot.{ReadSpot}
use Rattle.rv_decode.specs.declared.instr.Instr.{Instr}
use Rattle.rv_decode.specs.declared.instr.Instr.TheVariants.{Ecall, Hcall}
use Rattle.rv_model.specs.Memory.{is_within}
use Rattle.rv_model.specs.Registers.{Registers, reg}
use Rattle.rv_model.specs.Rights.{is_data}
use Rattle.program_model.specs.Calls.{CallKind, Open, OpenAt, Close, Seek, ReadFile, WriteFile, ExitProgram, Break, Unknown, kind_of, CallPlan, Read, call_plan}
use Rattle.program_model.specs.PlainRun.{State, plan_of, next_state, all_taken}
use Rattle.code_model.specs.Regions.{entry_of}
use Rattle.run_model.specs.Run.{World, Run, Answer}
use Rattle.run_model.specs.ShadowMoves.{shadow_step, fetch_shadow, shadow_plan}
use Rattle.run_laws.specs.OwnLaws.{Accepted}
use Rattle.run_model.specs.Restarts.{Action, Reads, TakesName, from_restart, instr_at, action, some_action, call_action, action_by, name_action, instr_action, read_in, reads, before_horizon}
use Rattle.run_model.specs.Marks.{Marks, marks, marks_with, marks_after, marks_after_some, is_use, some_use, before_use_with, before_use, name_is_marked}
use Rattle.own_laws.proofs.Reached.{false_true}
use Rattle.side_model.specs.Hart.{Regs, get}
use Rattle.code_model.specs.Tables.{all_regions}
use Rattle.side_model.specs.Sees.{shade_of}
use Rattle.shadow_laws.proofs.Sound.{Standing}
use Rattle.mark_laws.specs.Agreement.{Agrees, SeesAlike, planned, is_read, assumed_answer, HasAll, CallLeads}
use Rattle.mark_laws.specs.Settled.{settles, settled_with, Alike}
use Rattle.mark_laws.specs.Sizes.{TrueSizes}
use Rattle.mark_laws.proofs.OneInstruction.{true_false}
use Rattle.mark_laws.proofs.OneCall.{is_open, plan_by-is_read, plan_agrees, call_agrees, name_is_no_read}
use Rattle.mark_laws.proofs.Numbers.{from_restart-origin, reads-origin, marks_with-alike, settled_with-alike, before_use_with-alike, before_horizon-so_far}
use Rattle.mark_laws.proofs.Changes.{from_restart-next}
use Rattle.mark_laws.proofs.Horizons.{and_right, not_true, no_register-marked, before_use-horizon}
use Rattle.mark_laws.proofs.Sizes.{states_find_all}
use Rattle.hint_laws.proofs.Followed.{registers, view_in, AreCopied, FilledUpTo}
use Rattle.hint_laws.proofs.WordFacts.{WordLeaves, word-leaves, word-calls, hints_behind, PlanDoes, ReadDoes, OtherLeaves}
use Rattle.hint_laws.proofs.FilledViews.{NextNumbers, next-numbers, fills, SharedBehind, shared-behind}
use Rattle.hint_laws.proofs.Transport.{no-reads}
use Rattle.hint_laws.proofs.FilledNumbers.{fills-alike}

-- ---- plans and actions

-- what a call does by its plan: a read, or nothing that reads or settles bytes
pub data CallIs : CallPlan → Action → Type 0 where
  a_read : (d : ℕ) (spot : ReadSpot) (a : ℕ) → CallIs (Read d spot a) (Reads spot a)
  no_read : {plan : CallPlan} {act : Action} → is_read plan ≡ false → read_in act ≡ [] → ((filled : Bool) (x : ℕ) → settles act filled x ≡ false) → CallIs plan act

module _ (l : Layout) (q : State) where
  -- a name is no read
  name-is : (plan : CallPlan) → is_read plan ≡ false → (b : Bool) (a : ℕ) → CallIs plan (name_action b l q a)
  name-is plan e true a = no_read e refl (λ filled x. refl)
  name-is plan e false a = no_read e refl (λ filled x. refl)

  -- a call that opens nothing
  other-is : (kind : CallKind) → is_open kind ≡ false → (plan : CallPlan) → CallIs plan (action_by kind l q plan)
  other-is Open o plan = true_false o
  other-is OpenAt o plan = true_false o
  other-is kind o (Read d spot a) = a_read d spot a
  other-is kind o plan = no_read refl refl (λ filled x. refl)

  -- the call that a state makes
  pub call-is : CallIs (plan_of l q) (call_action l q)
  call-is = by_kind (kind_of (reg q.registers 17)) refl
    where
      opens : is_read (plan_of l q) ≡ false → (b : Bool) (a : ℕ) → CallIs (plan_of l q) (name_action b l q a)
      opens = name-is (plan_of l q)

      no-read : is_open (kind_of (reg q.registers 17)) ≡ true → is_read (plan_of l q) ≡ false
      no-read o = plan_by-is_read (kind_of (reg q.registers 17)) o (is_data l) q.memory q.files (reg q.registers 10) (reg q.registers 11) (reg q.registers 12)

      by_kind : (kind : CallKind) → kind_of (reg q.registers 17) ≡ kind → CallIs (plan_of l q) (action_by kind l q (plan_of l q))
      by_kind Open e = opens (no-read (ap is_open e)) (reg q.registers 11 % 4 == 0) (reg q.registers 10)
      by_kind OpenAt e = opens (no-read (ap is_open e)) (reg q.registers 12 % 4 == 0) (reg q.registers 11)
      by_kind Close e = other-is Close refl (plan_of l q)
      by_kind Seek e = other-is Seek refl (plan_of l q)
      by_kind ReadFile e = other-is ReadFile refl (plan_of l q)
      by_kind WriteFile e = other-is WriteFile refl (plan_of l q)
      by_kind ExitProgram e = other-is ExitProgram refl (plan_of l q)
      by_kind Break e = other-is Break refl (plan_of l q)
      by_kind Unknown e = other-is Unknown refl (plan_of l q)

-- what a call settles is in a read that is filled
pub record SettledRead (plan : CallPlan) (filled : Bool) (x : ℕ) : Type 0 where
  pub d : ℕ
  pub spot : ReadSpot
  pub a : ℕ
  pub is : plan ≡ Read d spot a
  pub set : filled ≡ true
  pub within : is_within a spot.count x ≡ true

-- so it is by each plan
settled-read : {plan : CallPlan} {act : Action} → CallIs plan act → (filled : Bool) (x : ℕ) → settles act filled x ≡ true → SettledRead plan filled x
settled-read (a_read d spot a) filled x h = let both : (is_within a spot.count x ≡ true) × (filled ≡ true) = and_parts (is_within a spot.count x) filled h in record { d = d; spot = spot; a = a; is = refl; set = both.1; within = both.0 }
settled-read (no_read e f g) filled x h = false_true (sym (g filled x) ∙ h)

-- ---- at an HCALL

-- the shadow performs an HCALL for instruction s + 1, which is the call of the state q, with the marks m. Its registers up to x30 are g's, which agree with the state's
pub record AtCall (w : World) (r : Run) (s : ℕ) (m : Marks) (q : State) (g : Regs) (unhinted : Bool) : Type 0 where
  pub count : r.since.shadow ≡ s
  pub marked : marks w r s ≡ m
  pub state : from_restart w r s ≡ Some q
  pub goes_on : q.exited ≡ None
  pub word : instr_at w.image q ≡ Some Ecall
  pub agrees : Agrees m (registers g) q
  pub has : (i : ℕ) → i ≤ 30 → reg r.shadow.registers i ≡ get i g
  pub files : r.shadow.files ≡ q.files
  pub sees : SeesAlike w.image.layout m (view_in r) q
  pub copied : AreCopied w r s
  pub filled : FilledUpTo r s
  pub fetches : fetch_shadow w r.shadow.pc ≡ Some (Hcall unhinted)
  pub stands : Standing w (shade_of r)

-- ---- what is so behind it, whatever is planned

-- the hints behind HCALL 0, by what its call does
hints-plain : {plan : CallPlan} {act : Action} (w : World) (r next : Run) (u : Bool) → u ≡ false → PlanDoes w u r next plan → CallIs plan act → next.since.hints ≡ r.since.hints ++ read_in act
hints-plain w r next u plain does (a_read d spot a) = let is : ReadDoes w u r next spot a = does.reads d spot a refl in is.hints ∙ ap (λ (b : Bool). hints_behind b spot r) plain
hints-plain w r next u plain does (no_read e f g) = let is : OtherLeaves r next = does.others e in is.hints ∙ (sym (append-nil r.since.hints) ∙ ap (λ (more : List ReadSpot). r.since.hints ++ more) (sym f))

-- HCALL 1 gives none
hints-again : {plan : CallPlan} {act : Action} (w : World) (r next : Run) (u : Bool) → u ≡ true → PlanDoes w u r next plan → CallIs plan act → next.since.hints ≡ r.since.hints
hints-again w r next u again does (a_read d spot a) = let is : ReadDoes w u r next spot a = does.reads d spot a refl in is.hints ∙ ap (λ (b : Bool). hints_behind b spot r) again
hints-again w r next u again does (no_read e f g) = let is : OtherLeaves r next = does.others e in is.hints

-- the reads up to the next instruction, which isn't the first
pub reads-next : (w : World) (r : Run) (s : ℕ) → 0 < s → reads w r (suc s) ≡ reads w r s ++ read_in (action w r (suc s))
unfolding reads
reads-next w r zero h = absurd (omega (arith, h))
reads-next w r (suc s) h = refl

module _ (w : World) (accepted : Accepted w) (x : Answer) (r : Run) (s : ℕ) (m : Marks) (q : State) (g : Regs) (u : Bool) (c : AtCall w r s m q g u) (runs : (shadow_step w x r).shadow.state ≡ Running) where
  abbrev l : Layout
  l = w.image.layout

  abbrev next : Run
  next = shadow_step w x r

  -- what each word leaves
  pub call-leaves : WordLeaves w r next
  call-leaves = word-leaves w x r c.stands.running

  -- the plan rests on four of the registers
  pub call-plan : shadow_plan w r ≡ planned l (view_in r) r.shadow.files (registers g)
  call-plan =
      let x10 = c.has 10 (omega arith) in
      let x11 = c.has 11 (omega arith) in
      let x12 = c.has 12 (omega arith) in
      let x17 = c.has 17 (omega arith) in
      λ i. call_plan (is_data l) (view_in r) r.shadow.files (x17 i) (x10 i) (x11 i) (x12 i)

  module _ (plan : CallPlan) (e : shadow_plan w r ≡ plan) where
    -- what the call does
    pub call-does : PlanDoes w u r next plan
    call-does = subst (λ (p : CallPlan). PlanDoes w u r next p) e (word-calls w x r u c.stands.running c.fetches runs)

    -- what it leaves of what is shared
    pub call-shared : SharedBehind w r next (fills w u r plan) plan
    call-shared = shared-behind w accepted u r next c.stands.tables c.stands.has c.stands.ok call-leaves.own plan e call-does

    -- the numbers of the filled reads
    pub call-numbers : NextNumbers next s (fills w u r plan)
    call-numbers = next-numbers r next s (fills w u r plan) c.count c.filled call-shared.numbers

    -- those up to s are as before
    pub call-alike : Alike s r next r.since.filled next.since.filled
    call-alike = fills-alike (fills w u r plan) r next s (omega (arith, c.count)) call-leaves.origin call-shared.numbers

    -- whether it is a use
    pub call-use : before_use w next (suc s) ≡ before_use w r (suc s)
    call-use = before_use_with-alike w r next r.since.filled next.since.filled s call-alike

    -- the state before it
    pub state-before : from_restart w next s ≡ Some q
    state-before = from_restart-origin w r next call-leaves.origin s ∙ c.state

    -- what it does to memory
    pub action-is : action w next (suc s) ≡ call_action l q
    action-is = ap (some_action w.image) state-before ∙ ap (instr_action l q) c.word

    -- the marks behind it
    pub marks-behind : marks w next (suc s) ≡ marks_after l (fills w u r plan) q (Some Ecall) m
    unfolding marks_with
    marks-behind =
        let before : marks w next s ≡ m = marks_with-alike w r next r.since.filled next.since.filled s call-alike ∙ c.marked in
        (λ i. marks_after_some w.image (call-numbers.at i) (state-before i) (before i)) ∙ ap (λ (o : Option Instr). marks_after l (fills w u r plan) q o m) c.word

  -- whether the call itself is a use
  pub call-is_use : some_use w.image (from_restart w r s) (marks w r s) ≡ is_use l q (Some Ecall) m
  call-is_use = (λ i. some_use w.image (c.state i) (c.marked i)) ∙ ap (λ (o : Option Instr). is_use l q o m) c.word

  -- ---- where it is no use

  module _ (unused : IsTrue (before_use w r (suc s))) (true_sizes : TrueSizes w.files q.files) where
    -- it isn't
    no_use : is_use l q (Some Ecall) m ≡ false
    unfolding before_use_with
    no_use = sym call-is_use ∙ not_true (some_use w.image (from_restart w r s) (marks w r s)) (and_right (before_use w r s) _ unused)

    -- it is planned as the state's
    pub call-planned : shadow_plan w r ≡ plan_of l q
    call-planned = call-plan ∙ plan_agrees l m (view_in r) r.shadow.files (registers g) q c.sees c.agrees c.files no_use

    -- whether its read is filled
    abbrev filled : Bool
    filled = fills w u r (plan_of l q)

    -- what it does, by that plan
    does : PlanDoes w u r next (plan_of l q)
    does = call-does (plan_of l q) call-planned

    -- what it leaves of what is shared
    shared : SharedBehind w r next filled (plan_of l q)
    shared = call-shared (plan_of l q) call-planned

    -- the numbers of the filled reads behind it
    numbers : NextNumbers next s filled
    numbers = call-numbers (plan_of l q) call-planned

    -- those up to s are as before
    alike : Alike s r next r.since.filled next.since.filled
    alike = call-alike (plan_of l q) call-planned

    -- a read finds all its bytes
    all : HasAll w.files (plan_of l q)
    all = states_find_all w.files l q true_sizes

    -- the plain run performs it
    pub call-agrees : CallLeads w.image w.files filled m q (registers g) (view_in next) (plan_of l q)
    call-agrees =
        call_agrees w.image w.files filled m q (registers g) (view_in r) (view_in next) (record { goes_on = c.goes_on; word = c.word }) does.goes_on c.agrees c.sees (λ e. all) shared.view

    -- the state behind it
    pub call-state : from_restart w next (suc s) ≡ Some call-agrees.leads.state
    call-state =
        from_restart-next w next s
        ∙ (ap (option_and_then (next_state w.image w.files all_taken)) (state-before (plan_of l q) call-planned) ∙ call-agrees.leads.completes)

    -- with the shadow's descriptors
    pub call-files : next.shadow.files ≡ call-agrees.leads.state.files
    call-files = does.files ∙ (ap (λ f. (assumed_answer w.files f (plan_of l q)).0) c.files ∙ sym call-agrees.leads.descriptors)

    -- the marks behind it
    marks-are : marks w next (suc s) ≡ marks_after l filled q (Some Ecall) m
    marks-are = marks-behind (plan_of l q) call-planned

    -- what the shadow sees is alike outside them
    pub call-sees : SeesAlike l (marks w next (suc s)) (view_in next) call-agrees.leads.state
    call-sees = subst (λ (n : Marks). SeesAlike l n (view_in next) call-agrees.leads.state) (sym marks-are) call-agrees.sees

    -- so are its registers, with the answer in x10
    pub call-registers : (new : Regs) → get 10 new ≡ reg next.shadow.registers 10 → ((i : ℕ) → i ≤ 31 → i ≢ 10 → get i new ≡ get i g) → Agrees (marks w next (suc s)) (registers new) call-agrees.leads.state
    call-registers new given others =
        record {
          registers = λ i above below free.
              by_test i below (i == 10) refl
              ∙ call-agrees.leads.agrees.registers i above below (sym (ap (λ (n : Marks). n.registers i) marks-are) ∙ free);
        }
      where
        answer : ℕ
        answer = word_of_int (assumed_answer w.files q.files (plan_of l q)).1

        answer-is : get 10 new ≡ answer
        answer-is = given ∙ (ap (λ (rs : Registers). reg rs 10) does.registers ∙ ap (λ f. word_of_int (assumed_answer w.files f (plan_of l q)).1) c.files)

        by_test : (i : ℕ) → i < 32 → (b : Bool) → (i == 10) ≡ b → get i new ≡ elim b [ true ↦ answer | false ↦ get i g ]
        by_test i below true e = let is : 10 ≡ i = grind (arith, nat_tests) in subst (λ (j : ℕ). get j new ≡ answer) is answer-is
        by_test i below false e = others i (omega arith) (grind (arith, nat_tests))

    -- each byte that is settled has a copy
    pub call-copied : AreCopied w next (suc s)
    unfolding settled_with
    call-copied y h = by_before (settled_with next.since.filled w next s y) refl h
      where
        by_before : (b : Bool) → settled_with next.since.filled w next s y ≡ b → (b || settles (action w next (suc s)) (is_listed next.since.filled (suc s)) y) ≡ true
            → (y / 256 < all_regions l) × (0 < entry_of next.shared (y / 256))
        by_before true e h =
            let old : (y / 256 < all_regions l) × (0 < entry_of r.shared (y / 256)) = c.copied y (sym (settled_with-alike w r next r.since.filled next.since.filled s alike y) ∙ e) in
            (old.0, shared.kept (y / 256) old.0 old.1)
        by_before false e h =
            let same : settles (action w next (suc s)) (is_listed next.since.filled (suc s)) y ≡ settles (call_action l q) filled y = (λ i. settles (action-is (plan_of l q) call-planned i) (numbers.at i) y) in
            let read : SettledRead (plan_of l q) filled y = settled-read (call-is l q) filled y (sym same ∙ h) in shared.copied read.d read.spot read.a read.is all read.set y read.within

    -- no later read is filled
    pub call-filled : FilledUpTo next (suc s)
    call-filled = numbers.above

    -- it is before the first use
    pub call-unused : IsTrue (before_use w next (suc s))
    call-unused = call-use (plan_of l q) call-planned ∙ unused

    -- HCALL 0 has given its read as a hint, which is the next of the run's
    pub call-hinted : u ≡ false → 0 < s → r.since.hints ≡ reads w r s → next.since.hints ≡ reads w next (suc s)
    call-hinted plain later hints =
        hints-plain w r next u plain does (call-is l q)
        ∙ ((λ i. (hints ∙ sym (reads-origin w r next call-leaves.origin s)) i ++ read_in (sym (action-is (plan_of l q) call-planned) i)) ∙ sym (reads-next w next s later))

    -- HCALL 1 makes the call of the first instruction, whose read is none of them
    pub call-unhinted : u ≡ true → s ≡ 0 → r.since.hints ≡ reads w r s → next.since.hints ≡ reads w next (suc s)
    call-unhinted again first hints = hints-again w r next u again does (call-is l q) ∙ (hints ∙ no-reads w r next s first)

  -- ---- where it is a use

  module _ (used : before_use w r (suc s) ≡ false) (before : IsTrue (before_horizon w next s)) where
    -- the numbers up to s are as before
    stray-alike : Alike s r next r.since.filled next.since.filled
    stray-alike = call-alike (shadow_plan w r) refl

    -- so the horizon is later before it too
    horizon : IsTrue (before_horizon w r s)
    horizon = sym (before_horizon-so_far w r next s stray-alike) ∙ before

    -- no register is marked
    unmarked : (k : ℕ) → m.registers k ≡ false
    unmarked k = sym (ap (λ (n : Marks). n.registers k) c.marked) ∙ no_register-marked w r s horizon k

    -- but the call is a use
    is-use : is_use l q (Some Ecall) m ≡ true
    unfolding before_use_with
    is-use = sym call-is_use ∙ second (before_use w r s) (some_use w.image (from_restart w r s) (marks w r s)) (before_use-horizon w r s horizon) used
      where
        second : (b d : Bool) → b ≡ true → (b && not d) ≡ false → d ≡ true
        second true true e h = refl
        second true false e h = true_false h
        second false d e h = false_true e

    -- so it takes a marked name
    takes-name : name_is_marked m (call_action l q) ≡ true
    takes-name =
        let n10 = unmarked 10 in
        let n11 = unmarked 11 in
        let n12 = unmarked 12 in
        let n17 = unmarked 17 in
        sym (λ i. (n10 i || (n11 i || (n12 i || n17 i))) || name_is_marked m (call_action l q)) ∙ is-use

    -- and is no read
    no-read : (act : Action) → call_action l q ≡ act → name_is_marked m act ≡ true → (is_read (shadow_plan w r) ≡ false) × (read_in act ≡ [])
    no-read (TakesName a n) e h = (ap is_read call-plan ∙ (name_is_no_read l m (view_in r) r.shadow.files (registers g) q a n c.agrees (unmarked 17) e).1, refl)
    no-read _ e h = false_true h

    -- the hints are the run's next reads still
    pub stray-hints : 0 < s → r.since.hints ≡ reads w r s → next.since.hints ≡ reads w next (suc s)
    stray-hints later hints =
        let quiet : (is_read (shadow_plan w r) ≡ false) × (read_in (call_action l q) ≡ []) = no-read (call_action l q) refl takes-name in
        let leaves : OtherLeaves r next = (call-does (shadow_plan w r) refl).others quiet.0 in
        let same : reads w next s ≡ reads w r s = reads-origin w r next call-leaves.origin s in
        let none : read_in (action w next (suc s)) ≡ [] = ap read_in (action-is (shadow_plan w r) refl) ∙ quiet.1 in
        leaves.hints ∙ (hints ∙ (sym same ∙ (sym (append-nil (reads w next s)) ∙ ((λ i. reads w next s ++ sym none i) ∙ sym (reads-next w next s later)))))
