-- A shadow that follows the program goes on following it where it performs an HCALL, of a call's block or of RESTART.
use Rattle.std.proofs.Common.{◌≡◌, ℕ, zero, suc, ◌+◌, ◌-◌, ◌*◌, ◌/◌, ◌%◌, ◌<◌, ◌≤◌, ◌⊎◌, inl, inr, Bool, true, false, not, ◌==◌, nat_le, nat_lt, slice_get, Option, Some, refl, ◌∙◌, ap, sym, subst, arith}
use Rattle.std.specs.Prelude.{◌≢◌, IsTrue}
use Rattle.std.proofs.lemmas.Bool.Decides.{nat_tests}
use Rattle.std.proofs.lemmas.Bool.{and_from}
use Rattle.spec_base.specs.Layout.{shadow_start, helpers_start}
use Rattle.spec_base.specs.declared.layout.Layout.{Layout}
use Rattle.spec_base.specs.declared.note.ShadowState.TheVariants.{Running}
use Rattle.rv_decode.specs.declared.instr.Instr.{Instr}
use Rattle.rv_decode.specs.declared.instr.Instr.TheVariants.{Ecall, Hcall}
use Rattle.rv_decode.specs.Encoding.{HasRegisters}
use Rattle.rv_model.specs.Memory.{Memory, any_from}
use Rattle.rv_model.specs.Registers.{reg}
use Rattle.rv_model.specs.Effect.{after}
use Rattle.program_model.specs.PlainRun.{State, text_of}
use Rattle.code_model.specs.Places.{block_at, FAULT}
use Rattle.code_model.specs.Regions.{shadowed, byte_by_entry, entry_of}
use Rattle.run_model.specs.Run.{World, Run, Answer}
use Rattle.run_model.specs.ShadowMoves.{shadow_step, is_arrival, shadow_plan, fetch_shadow}
use Rattle.run_laws.specs.OwnLaws.{Accepted}
use Rattle.run_model.specs.Restarts.{Action, TakesName, from_restart, instr_at, call_action, nothing, reads}
use Rattle.run_model.specs.Marks.{Marks, no_marks, marks, marks_with, name_is_marked, is_use, some_use, before_use, before_use_with}
use Rattle.run_laws.specs.HintLaws.{is_ecall, is_behind_call}
use Rattle.side_model.specs.Hart.{Regs, get, put}
use Rattle.side_model.specs.Sees.{shade_of}
use Rattle.code_model.specs.Tables.{Tabs, all_regions}
use Rattle.side_model.specs.Tables.{HasTabs}
use Rattle.rows_log.specs.RestartRows.{IsFresh}
use Rattle.rows_log.proofs.PlannedReads.{data-region}
use Rattle.shadow_laws.proofs.TextBlocks.{text}
use Rattle.mark_laws.specs.Agreement.{SeesAlike}
use Rattle.mark_laws.specs.Sizes.{TrueSizes}
use Rattle.hint_laws.proofs.Within.{Doing, goes_to, Within, within-stands, within-running}
use Rattle.hint_laws.proofs.WithinSteps.{Inner, Turns, asks, asks_again}
use Rattle.hint_laws.proofs.WithinFacts.{recast, within-answer, IsEarly, within-early}
use Rattle.hint_laws.proofs.Followed.{known, view_in, program_in, Works, Followed, behind, strays, regs_of}
use Rattle.hint_laws.proofs.CallTurns.{AtCall, call-leaves, call-use, call-agrees, call-state, call-files, call-sees, call-registers, call-copied, call-filled, call-unused, call-hinted, call-unhinted, call-does, stray-hints}
use Rattle.hint_laws.proofs.Spots.{InstructionStands, instr-stands, instruction-of}
use Rattle.hint_laws.proofs.ParkPlaces.{off-arrival, helper-arrival, helper-call}

-- ---- the call's place

module _ (w : World) (accepted : Accepted w) where
  abbrev l : Layout
  l = w.image.layout

  -- what is so of the word behind the HCALL of a call's block
  record BehindSite (pc : ℕ) : Type 0 where
    call : is_behind_call w pc ≡ true
    no_arrival : is_arrival l pc ≡ false
    away : pc ≡ helpers_start + FAULT → ⊥

  -- it is word 7 of the block
  behind-site : (q : State) → InstructionStands w q Ecall → (pc : ℕ) → pc ≡ block_at l q.pc + 24 → BehindSite (after pc)
  behind-site q c pc e =
      let k : ℕ = q.pc - l.text_start in
      let whole : k % 4 ≡ 0 = omega (arith, c.whole, c.above, (text w accepted).start) in
      let few : k < 1_048_576 = omega (arith, c.above, c.below, (text w accepted).few) in
      let is : after pc ≡ shadow_start + 16 * k + 28 = omega (arith, e, few) in
      let low : nat_le shadow_start (after pc) ≡ true = grind (arith, nat_tests, is) in
      let high : nat_lt (after pc) helpers_start ≡ true = grind (arith, nat_tests, is, few) in
      let seventh : after pc % 64 ≡ 28 = omega (arith, is, whole) in
      let test : (after pc % 64 == 28) ≡ true = grind (arith, nat_tests, seventh) in
      let first : (after pc % 64 == 4) ≡ false = grind (arith, nat_tests, seventh) in
      let index : (after pc - shadow_start) / 64 ≡ k / 4 = omega (arith, is, whole) in
      let word : is_ecall (slice_get (text_of w.image) ((after pc - shadow_start) / 64)) ≡ true = ap (λ (n : ℕ). is_ecall (slice_get (text_of w.image) n)) index ∙ ap is_ecall c.word in
      record {
        call = and_from _ _ low (and_from _ _ high (and_from _ _ test word));
        no_arrival = off-arrival l (after pc) first;
        away = λ f. absurd (omega (arith, f, is, few));
      }

  -- what is so of the word behind RESTART's
  record BehindRestart (pc : ℕ) : Type 0 where
    no_call : is_behind_call w pc ≡ false
    no_arrival : is_arrival l pc ≡ false
    away : pc ≡ helpers_start + FAULT → ⊥

  -- it is among the helpers
  behind-restart : (pc : ℕ) → IsEarly pc → BehindRestart (after pc)
  behind-restart pc c =
      let is : after pc ≡ pc + 4 = omega (arith, c.below) in
      let high : nat_le helpers_start (after pc) ≡ true = grind (arith, nat_tests, is, c.above) in
      record { no_call = helper-call w (after pc) high; no_arrival = helper-arrival l (after pc) high; away = λ f. absurd (omega (arith, f, is, c.below)) }

  -- the next instruction
  next-address : (q : State) → InstructionStands w q Ecall → after q.pc ≡ q.pc + 4
  next-address q c = omega (arith, c.below, (text w accepted).below)

-- ---- what is done there

-- another register behind a write to x10
put-others : (answer : ℕ) (g : Regs) (i : ℕ) → i ≢ 10 → get i (put 10 answer g) ≡ get i g
put-others answer g i d = let no : (i == 10) ≡ false = grind (arith, nat_tests, d) in rw no refl

-- without copies the shadow sees the program's memory
fresh-sees : (w : World) (r : Run) (m : Marks) (q : State) (t : Tabs) → HasTabs w.image.layout r.shared t → IsFresh w.image.layout t → r.own.memory ≡ q.memory → SeesAlike w.image.layout m (view_in r) q
unfolding shadowed
fresh-sees w r m q t has fresh same =
    record {
      bytes = λ b inside unmarked.
          let region : b / 256 < all_regions w.image.layout = data-region w.image.layout b inside in
          let none : entry_of r.shared (b / 256) ≡ 0 = has.entry (b / 256) region ∙ fresh.entries (b / 256) region in
          ap (λ (entry : ℕ). byte_by_entry entry r.shared r.own.memory b) none ∙ ap (λ f. f b) same;
    }

-- no byte of a name is among none
any_from-nothing : (a n : ℕ) → any_from nothing a n ≡ false
unfolding any_from
any_from-nothing a zero = refl
any_from-nothing a (suc n) = any_from-nothing (a + 1) n

-- so a call without marks is no use
unmarked-call : (l : Layout) (q : State) → is_use l q (Some Ecall) no_marks ≡ false
unmarked-call l q = by_action (call_action l q)
  where
    by_action : (act : Action) → name_is_marked no_marks act ≡ false
    by_action (TakesName a n) = any_from-nothing a n
    by_action _ = refl

-- nor is the first instruction, where it is a call
first-unused : (w : World) (r : Run) (s : ℕ) (q : State) → s ≡ 0 → from_restart w r s ≡ Some q → instr_at w.image q ≡ Some Ecall → IsTrue (before_use w r (suc s))
unfolding before_use_with marks_with
first-unused w r zero q e state word =
    let unused : some_use w.image (from_restart w r 0) no_marks ≡ false = ap (λ (o : Option State). some_use w.image o no_marks) state ∙ (ap (λ (o : Option Instr). is_use w.image.layout q o no_marks) word ∙ unmarked-call w.image.layout q) in
    ap not unused
first-unused w r (suc s) q e state word = absurd (omega (arith, e))

-- by whether it passes a test
by-test : {A : Type 0} (b : Bool) → (b ≡ true → A) → (b ≡ false → A) → A
by-test true f g = f refl
by-test false f g = g refl

-- ---- the HCALL

module _ (w : World) (accepted : Accepted w) (x : Answer) (r : Run) (sizes : (q : State) → from_restart w r r.since.shadow ≡ Some q → TrueSizes w.files q.files) where
  abbrev next : Run
  next = shadow_step w x r

  module _ {s : ℕ} {m : Marks} {q : State} {g : Regs} {u : Bool} (c : AtCall w r s m q g u) (runs : next.shadow.state ≡ Running) (to : ℕ) (new : Regs) (is_next : to ≡ q.pc + 4)
      {bytes : ℕ → Option ℕ} {k : ℕ} (within : Within w bytes (program_in w r) (goes_to to new) (shade_of next) k) (place : Inner w.image.layout next.shadow.pc (goes_to to new))
      (no_arrival : is_arrival w.image.layout next.shadow.pc ≡ false) where
    -- no arrival is counted
    count : next.since.shadow ≡ s
    count = let leaves = call-leaves w accepted x r s m q g u c runs in leaves.between runs no_arrival ∙ c.count

    -- the program range stays
    program-is : program_in w next ≡ program_in w r
    program-is = let leaves = call-leaves w accepted x r s m q g u c runs in ap (λ own. program_in w (record r { own = own })) leaves.own

    -- the sizes of the state's descriptors
    true-sizes : TrueSizes w.files q.files
    true-sizes = sizes q (ap (from_restart w r) c.count ∙ c.state)

    -- a call that is no use
    goes-on : (turn : (is_behind_call w next.shadow.pc ≡ true) ⊎ ((is_behind_call w next.shadow.pc ≡ false) × (s ≡ 0))) (answered : get 10 new ≡ reg next.shadow.registers 10) (others : (i : ℕ) → i ≤ 31 → i ≢ 10 → get i new ≡ get i g)
        → (hints : next.since.hints ≡ reads w next (suc s)) → IsTrue (before_use w r (suc s)) → Followed w next
    goes-on turn answered others hints unused =
        let agrees = call-agrees w accepted x r s m q g u c runs unused true-sizes in
        behind s (marks w next (suc s)) agrees.leads.state to new (program_in w r) k
        (record {
          count = count;
          marked = refl;
          program_is = program-is;
          state = call-state w accepted x r s m q g u c runs unused true-sizes;
          goes_on = agrees.leads.goes_on;
          target = agrees.leads.pc ∙ (next-address w accepted q (instr-stands w accepted q Ecall c.word) ∙ sym is_next);
          within = recast w bytes (known w.image.layout (marks w next (suc s)) agrees.leads.state) (program_in w r) within;
          place = place;
          turn = turn;
          agrees = call-registers w accepted x r s m q g u c runs unused true-sizes new answered others;
          files = call-files w accepted x r s m q g u c runs unused true-sizes;
          sees = call-sees w accepted x r s m q g u c runs unused true-sizes;
          copied = call-copied w accepted x r s m q g u c runs unused true-sizes;
          filled = call-filled w accepted x r s m q g u c runs unused true-sizes;
          hints = hints;
          unused = call-unused w accepted x r s m q g u c runs unused true-sizes;
        })

    -- a call in its block that is a use
    goes-astray : is_behind_call w next.shadow.pc ≡ true → u ≡ false → 0 < s → r.since.hints ≡ reads w r s → before_use w r (suc s) ≡ false → Followed w next
    goes-astray turn plain later hints used =
        strays s bytes (program_in w r) to new k
        (record {
          count = count;
          used = call-use w accepted x r s m q g u c runs (shadow_plan w r) refl ∙ used;
          program_is = program-is;
          within = within;
          place = place;
          behind = turn;
          hints = λ before. stray-hints w accepted x r s m q g u c runs used before later hints;
        })

  -- a shadow that works on a call, at its HCALL
  at-call : {s : ℕ} {m : Marks} {q : State} {program : Memory} {d : Doing} {n : ℕ} {u : Bool} → Works w r s m q program d n → instr_at w.image q ≡ Some Ecall → ((i : ℕ) → i ≤ 30 → reg r.shadow.registers i ≡ get i (regs_of d))
      → SeesAlike w.image.layout m (view_in r) q → fetch_shadow w r.shadow.pc ≡ Some (Hcall u) → AtCall w r s m q (regs_of d) u
  at-call works word has sees fetches =
      record {
        count = works.count;
        marked = works.marked;
        state = works.state;
        goes_on = works.goes_on;
        word = word;
        agrees = works.agrees;
        has = has;
        files = works.files;
        sees = sees;
        copied = works.copied;
        filled = works.filled;
        fetches = fetches;
        stands = within-stands works.within;
      }

  -- an HCALL keeps a shadow that follows the program following it
  pub turned : {s : ℕ} {m : Marks} {q : State} {program : Memory} {d : Doing} {n : ℕ} → Works w r s m q program d n → (to : ℕ) (new : Regs) → Turns w r to new d
      → {bytes : ℕ → Option ℕ} {k : ℕ} → Within w bytes (program_in w r) (goes_to to new) (shade_of next) k → Inner w.image.layout next.shadow.pc (goes_to to new) → Followed w next
  turned {s} {m} {q} works to new (asks {p = p} {q = g} answer fetches at has is_next is_new) {bytes} {k} within place =
      let runs : next.shadow.state ≡ Running = within-running within in
      let is : (p ≡ q.pc) × (instr_at w.image q ≡ Some Ecall) × HasRegisters Ecall = instruction-of works.doing in
      let c : AtCall w r s m q g false = at-call works is.1 (λ i below. has.at i) (works.sees refl (inl refl)) fetches in
      let does = call-does w accepted x r s m q g false c runs (shadow_plan w r) refl in
      let site : BehindSite w accepted next.shadow.pc =
      subst (BehindSite w accepted) (sym does.pc) (behind-site w accepted q (instr-stands w accepted q Ecall is.1) r.shadow.pc (at ∙ ap (λ (b : ℕ). block_at w.image.layout b + 24) is.0)) in
      let target : to ≡ q.pc + 4 = is_next ∙ ap (λ (b : ℕ). b + 4) is.0 in
      let answered : get 10 new ≡ reg next.shadow.registers 10 = within-answer w bytes (program_in w r) site.away within in
      let others : (i : ℕ) → i ≤ 31 → i ≢ 10 → get i new ≡ get i g = λ i below d. ap (get i) is_new ∙ put-others answer g i d in
      let true_sizes : TrueSizes w.files q.files = sizes q (ap (from_restart w r) works.count ∙ works.state) in
      by-test (before_use w r (suc s))
      (λ unused.
      let hints : next.since.hints ≡ reads w next (suc s) = call-hinted w accepted x r s m q g false c runs unused true_sizes refl (works.later refl) works.hints in
      goes-on c runs to new target within place site.no_arrival (inl site.call) answered others hints unused)
      (λ used. goes-astray c runs to new target within place site.no_arrival site.call refl (works.later refl) works.hints used)
  turned {s} {m} {q} works to new (asks_again {site = site} {q = g} answer rs t fetches has loaded tabs fresh is_next is_answered) {bytes} {k} within place =
      let runs : next.shadow.state ≡ Running = within-running within in
      let is : (site ≡ q.pc) × (instr_at w.image q ≡ Some Ecall) = instruction-of works.doing in
      let anew : (s ≡ 0) × (r.own.memory ≡ q.memory) = works.anew refl in
      let c : AtCall w r s m q g true = at-call works is.1 (λ i below. has.at i ∙ loaded i below) (fresh-sees w r m q t tabs fresh anew.1) fetches in
      let does = call-does w accepted x r s m q g true c runs (shadow_plan w r) refl in
      let from : IsEarly r.shadow.pc = within-early w (known w.image.layout m q) _ works.within in
      let behind : BehindRestart w accepted next.shadow.pc = subst (BehindRestart w accepted) (sym does.pc) (behind-restart w accepted r.shadow.pc from) in
      let target : to ≡ q.pc + 4 = is_next ∙ ap (λ (b : ℕ). b + 4) is.0 in
      let answered : get 10 new ≡ reg next.shadow.registers 10 = within-answer w bytes (program_in w r) behind.away within in
      let unused : IsTrue (before_use w r (suc s)) = first-unused w r s q anew.0 works.state is.1 in
      let true_sizes : TrueSizes w.files q.files = sizes q (ap (from_restart w r) works.count ∙ works.state) in
      let hints : next.since.hints ≡ reads w next (suc s) = call-unhinted w accepted x r s m q g true c runs unused true_sizes refl anew.0 works.hints in
      goes-on c runs to new target within place behind.no_arrival (inr (behind.no_call, anew.0)) answered is_answered.others hints unused
