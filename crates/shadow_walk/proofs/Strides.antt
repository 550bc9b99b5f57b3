-- Each turn of the walk: a hart and a memory that show a run on its way through a block, and what the event of a step makes of them.
use Rattle.std.proofs.Common.{◌≡◌, ℕ, suc, ◌+◌, ◌-◌, ◌^◌, ◌<◌, ◌≤◌, ◌⊎◌, inl, inr, Bool, true, false, Some, refl, ◌∙◌, ap, sym, subst, arith}
use Rattle.std.specs.Prelude.{⊤, ◌≢◌}
use Rattle.spec_base.specs.declared.layout.Layout.{Layout}
use Rattle.spec_base.specs.declared.note.ShadowState.TheVariants.{Parked}
use Rattle.spec_base.specs.declared.park.Park.{Park}
use Rattle.spec_base.specs.declared.park.Park.TheVariants as park
use Rattle.rv_decode.specs.declared.instr.Instr.{Instr}
use Rattle.rv_decode.specs.declared.instr.Instr.TheVariants.{Ecall, Hkey, Hcall, Hpark}
use Rattle.rv_model.specs.Memory.{Memory}
use Rattle.rv_model.specs.Registers.{reg, with_reg}
use Rattle.rv_model.specs.Rights.{is_data}
use Rattle.rv_model.specs.Effect.{after}
use Rattle.rv_model.specs.Space.{Space}
use Rattle.program_model.specs.Calls.{key_of, call_plan}
use Rattle.program_model.specs.PlainRun.{State, plan_of}
use Rattle.run_model.specs.Run.{World, Run, Answer}
use Rattle.run_model.specs.ShadowMoves.{is_arrival, is_call_word, shadow_step, shadow_plan, fetch_shadow}
use Rattle.run_laws.specs.OwnLaws.{Accepted}
use Rattle.run_model.specs.Restarts.{instr_at}
use Rattle.run_model.specs.Marks.{no_marks}
use Rattle.side_model.specs.Hart.{Regs, get}
use Rattle.side_model.specs.Sees.{shade_of, HasRegs}
use Rattle.run_laws.specs.Completes.{WordCompletes}
use Rattle.own_laws.proofs.Reached.{false_true}
use borrow.Author.Count.{below_more}
use Rattle.shadow_laws.proofs.Sound.{Standing}
use Rattle.mark_laws.specs.Agreement.{Agrees, SeesAlike, planned}
use Rattle.mark_laws.proofs.OneCall.{plan_agrees}
use Rattle.hint_laws.proofs.Within.{Doing, does, ends}
use Rattle.hint_laws.proofs.Within.{within-stands, within-running}
use Rattle.hint_laws.proofs.WithinSteps.{IsQuiet}
use Rattle.hint_laws.proofs.Followed.{known, registers, view_in, is_storing}
use Rattle.hint_laws.proofs.Views.{has-registers}
use Rattle.shadow_laws.proofs.Sound.{parked_running}
use Rattle.hint_laws.proofs.ParkPlaces.{is_named, park-named}
use Rattle.code_model.specs.Places.{block_at}
use Rattle.hart_mem.specs.Held.{Held, lacks_frame}
use Rattle.hart_step.specs.Core.{Core}
use Rattle.hart_step.specs.Step.{Outcome, outcome, stepped, effect_here}
use Rattle.hart_step.specs.declared.event.Event.{Event}
use Rattle.hart_step.specs.declared.event.Event.TheVariants as event
use Rattle.word_laws.specs.Shown.{ShowsIn, ShowsShadow}
use Rattle.shadow_walk.specs.Shows.{AtKey, AtCall, MovesBy}
use Rattle.shadow_walk.specs.Walks as walk
use Rattle.shadow_walk.specs.Walks.{words_on, HasState, StandsAt, StandsAtCall, ParksBy, HasLog, Logs, NoneArrives, Walks, arrives, parks, calls}
use Rattle.shadow_walk.specs.declared.walking.Walked.TheVariants as walked
use Rattle.shadow_walk.proofs.Told.{Tells, tells}
use Rattle.shadow_laws.proofs.ShadowNumbers.{of-sized}
use Rattle.shadow_walk.proofs.OnTheWay.{use-none, Walking, walking-sees, Started, starts}
use Rattle.shadow_walk.proofs.WalkEnds.{OnInstruction, on-instruction}
use Rattle.shadow_walk.proofs.LogWords.{OnCall, log-starts, log-next, log-parks, log-calls}
use Rattle.shadow_walk.proofs.WalkRows as asks
use Rattle.shadow_walk.proofs.WalkRows.{within-some, is_other, Asks, AsksIn, within-asks, within-completes}
use Rattle.hint_laws.proofs.WordFacts.{word-parks}
use Rattle.shadow_walk.proofs.WalkWords as word
use Rattle.shadow_walk.proofs.WalkWords.{Went, went, shown-register}

-- ---- on the way

-- hart and memory show a run on its way through the block of the state q, so many words behind the run r, and the next word is that of this number, counted from 1, of 227 at most
pub record Striding (w : World) (x : ℕ → Answer) (r : Run) (q : State) (words : ℕ) (c : Core) (s : Space) : Type 0 where
  pub run : Run
  pub before : ℕ
  pub number : words ≡ suc before
  pub made : run ≡ words_on w x r before
  pub doing : Doing
  pub left : ℕ
  pub shows : ShowsShadow w run c s
  pub walking : Walking w q run doing left
  pub few : words + left ≤ 228
  pub none : NoneArrives w x r words
  pub bound : (i : ℕ) → r.shadow.registers i < 2 ^ 64
  pub log : HasLog r → instr_at w.image q ≡ Some Ecall → OnCall w r q run

-- before the first word none arrives
pub none-yet : (w : World) (x : ℕ → Answer) (r : Run) → NoneArrives w x r 1
none-yet w x r k few some = absurd (omega arith)

-- nor does one that leads to no block
pub none-more : (w : World) (x : ℕ → Answer) (r : Run) (n : ℕ) → NoneArrives w x r n → (0 < n → is_arrival w.image.layout (words_on w x r n).shadow.pc ≡ false) → NoneArrives w x r (n + 1)
none-more w x r n = below_more (λ (k : ℕ). 0 < k → is_arrival w.image.layout (words_on w x r k).shadow.pc ≡ false) n

-- a park by LogFull is a call's
full-call : {w : World} {q : State} {m : Memory} {cause : Park} → ParksBy w q m cause → cause ≡ park.LogFull → instr_at w.image q ≡ Some Ecall
full-call (walk.faults why) e = absurd cc
full-call (walk.full_up op rs1 rs2 imm at runs none full) e = absurd cc
full-call (walk.log_full call) e = call

-- so it is in each run that they showed at word 1 of a block
abbrev pub OnWay : Layout → ℕ → Core → Space → ℕ → Core → Space → Type 0
OnWay l key c s words d t =
    (w : World) (x : ℕ → Answer) (r : Run) (q : State) → Accepted w → l ≡ w.image.layout → ShowsShadow w r c s → StandsAt w r q → key ≡ key_of (plan_of l q) → Striding w x r q words d t

-- at word 1
pub sets_out : (l : Layout) (key : ℕ) (c : Core) (s : Space) → OnWay l key c s 1 c s
unfolding words_on
sets_out l key c s w x r q a same shows at is_key =
    let f : Started w q r = starts w a r q shows.state at in record { run = r; before = 0; number = refl; made = refl; doing = f.d; left = f.n; shows = shows; walking = f.walking; few = omega (arith, f.few); none = none-yet w x r; bound = at.state.sized.registers; log = λ h call. log-starts w a r q call at.place shows.state at.state.tables at.state.has at.state.ok h.queue }

-- ---- a step

-- the step of a hart and a memory, as the walk knows it
pub record Stepped (h : Held) (c : Core) (s : Space) (e : Event) (d : Core) (t : Space) : Type 0 where
  pub outcome : outcome e d t ≡ stepped (lacks_frame c.view h) (effect_here c s) c s
  pub moves : (w : World) (r : Run) → Accepted w → ShowsShadow w r c s → MovesBy e w r c s d t

-- behind a word the shadow is on its way still, or at the block of the next state
pub data Turned (w : World) (x : ℕ → Answer) (r : Run) (q : State) (words : ℕ) (d : Core) (t : Space) : Type 0 where
  goes_on : is_arrival w.image.layout d.pc ≡ false → Striding w x r q (words + 1) d t → Turned w x r q words d t
  comes : is_arrival w.image.layout d.pc ≡ true → Walks w x r q d t (Some (walked.Arrived words)) → Turned w x r q words d t

-- which of both, the test of the pc tells
pub comes_there : {w : World} {x : ℕ → Answer} {r : Run} {q : State} {words : ℕ} {d : Core} {t : Space} → Turned w x r q words d t → is_arrival w.image.layout d.pc ≡ true → Walks w x r q d t (Some (walked.Arrived words))
comes_there (comes there walks) e = walks
comes_there (goes_on between k) e = false_true (sym between ∙ e)

pub goes_between : {w : World} {x : ℕ → Answer} {r : Run} {q : State} {words : ℕ} {d : Core} {t : Space} → Turned w x r q words d t → is_arrival w.image.layout d.pc ≡ false → Striding w x r q (words + 1) d t
goes_between (goes_on between k) e = k
goes_between (comes there walks) e = false_true (sym e ∙ there)

-- another event than those that a walk takes up
abbrev pub IsStray : Event → Type 0
IsStray event.Done = ⊥
IsStray (event.Key rd) = ⊥
IsStray (event.Park cause) = ⊥
IsStray (event.Call unhinted) = ⊥
IsStray _ = ⊤

pub is-stray : (e : Event) → e ≢ event.Done → ((rd : ℕ) → e ≢ event.Key rd) → ((cause : Park) → e ≢ event.Park cause) → ((unhinted : Bool) → e ≢ event.Call unhinted) → IsStray e
is-stray event.Done d k p c = d refl
is-stray (event.Key rd) d k p c = k rd refl
is-stray (event.Park cause) d k p c = p cause refl
is-stray (event.Call unhinted) d k p c = c unhinted refl
is-stray _ d k p c = tt

-- a word behind some makes one more
pub made-on : (w : World) (x : ℕ → Answer) (r : Run) {y : Run} (before : ℕ) → y ≡ words_on w x r before → shadow_step w (x before) y ≡ words_on w x r (suc before)
unfolding words_on
made-on w x r before made = ap (shadow_step w (x before)) made

-- what the event of a step tells
pub step-tells : (w : World) → Accepted w → (y : Run) {h : Held} {c : Core} {s : Space} {e : Event} {d : Core} {t : Space} → Stepped h c s e d t → ShowsShadow w y c s → Tells e w y
step-tells w a y {h} {c} {s} step shows = subst (λ (e : Event). Tells e w y) (sym (ap (λ (o : Outcome). o.event) step.outcome)) (tells w a y h c s shows)

module _ (w : World) (a : Accepted w) {x : ℕ → Answer} {r : Run} {q : State} {words : ℕ} {h : Held} {c : Core} {s : Space} {e : Event} {d : Core} {t : Space} (step : Stepped h c s e d t) (k : Striding w x r q words c s) where
  abbrev l : Layout
  l = w.image.layout

  abbrev y : Run
  y = k.run

  abbrev next : Run
  next = shadow_step w (x k.before) y

  -- the word makes the next run
  made-next : next ≡ words_on w x r (suc k.before)
  made-next = made-on w x r k.before k.made

  made-words : next ≡ words_on w x r words
  made-words = made-next ∙ ap (words_on w x r) (sym k.number)

  -- what the event tells
  told : Tells e w y
  told = step-tells w a y step k.shows

  moved : MovesBy e w y c s d t
  moved = step.moves w y a k.shows

  few : words ≤ 227
  few = omega (arith, k.few, within-some k.walking.within)

  some : 0 < words
  some = omega (arith, k.number)

  -- what an HKEY or an HCALL is asked with
  asked : (gate : Instr) → fetch_shadow w y.shadow.pc ≡ Some gate → is_other (Some gate) ≡ false → AsksIn l gate y k.doing
  asked gate f g = within-asks w y gate f g k.walking.within

  -- the plan in the registers of a call is the state's
  same-plan : (g : Regs) → SeesAlike l no_marks (view_in y) q → Agrees no_marks (registers g) q → reg y.shadow.registers 10 ≡ get 10 g → reg y.shadow.registers 11 ≡ get 11 g → reg y.shadow.registers 12 ≡ get 12 g
      → reg y.shadow.registers 17 ≡ get 17 g → shadow_plan w y ≡ plan_of l q
  same-plan g sees agrees e10 e11 e12 e17 =
      let same : shadow_plan w y ≡ planned l (view_in y) y.shadow.files (registers g) = (λ i. call_plan (is_data l) (view_in y) y.shadow.files (e17 i) (e10 i) (e11 i) (e12 i)) in
      same ∙ plan_agrees l no_marks (view_in y) y.shadow.files (registers g) q sees agrees k.walking.files (use-none l q Ecall)

  -- an HKEY is asked with it
  plans : fetch_shadow w y.shadow.pc ≡ Some (Hkey 31) → shadow_plan w y ≡ plan_of l q
  plans f = by_doing k.doing (on-instruction k.walking.doing k.walking.plain k.walking.agrees) refl (asked (Hkey 31) f refl)
    where
      by_asks : (p : ℕ) (i : Instr) (g : Regs) → OnInstruction w q (does p i g) → does p i g ≡ k.doing → i ≡ Ecall → Asks (Hkey 31) (block_at l p) y.shadow.pc y.shadow.registers g → shadow_plan w y ≡ plan_of l q
      by_asks p i g on same call (asks.key rd e e10 e11 e12 e17) =
          let quiet : is_storing k.doing ≡ false = ap is_storing (sym same) ∙ ap (λ (i : Instr). is_storing (does p i g)) call in same-plan g (k.walking.sees quiet) on.3 e10 e11 e12 e17
      by_asks p i g on same call (asks.call e place has) = absurd cc

      by_doing : (d : Doing) → OnInstruction w q d → d ≡ k.doing → AsksIn l (Hkey 31) y d → shadow_plan w y ≡ plan_of l q
      by_doing (does p i g) on same z = by_asks p i g on same z.0 z.1
      by_doing (ends g) on same z = absurd z
      by_doing _ on same z = absurd on

  -- a word that isn't an HCALL, and behind which the shadow runs
  behind : (m : Core) (u : Space) → is_call_word (fetch_shadow w y.shadow.pc) ≡ false → ShowsShadow w next m u → Turned w x r q words m u
  behind m u quiet shows = by_word (went w a (x k.before) k.walking)
    where
      by_word : Went w q y next k.left → Turned w x r q words m u
      by_word (word.still f j less between walking) =
          goes_on (ap (is_arrival l) shows.pc ∙ between) (record { bound = k.bound; log = λ h call. log-next w a (x k.before) r q call h.short k.bound y k.walking.sized (k.log h call) plans quiet shows.state; none = none-more w x r words k.none (λ some. ap (λ (r : Run). is_arrival l r.shadow.pc) (sym made-words) ∙ between); run = next; before = suc k.before; number = ap (λ (n : ℕ). n + 1) k.number ∙ omega arith; made = made-next; doing = f; left = j; shows = shows; walking = walking; few = omega (arith, k.few, less) })
      by_word (word.came to completes goes there at runs) = comes (ap (is_arrival l) shows.pc ∙ there) (arrives words some few k.none (subst (λ (r : Run). ShowsShadow w r m u) made-words shows) goes to completes (subst (λ (r : Run). StandsAt w r to) made-words at))
      by_word (word.calls f) = false_true (sym quiet ∙ ap is_call_word f)
      by_word (word.halted cause state why) = parked_running (sym state ∙ shows.state)

  -- ---- each event

  pub done : e ≡ event.Done → Turned w x r q words d t
  done is =
      let quiet : IsQuiet w y = subst (λ (e : Event). Tells e w y) is told in
      let move : (z : Answer) → ShowsShadow w (shadow_step w z y) d t = subst (λ (e : Event). MovesBy e w y c s d t) is moved in
      behind d t quiet (move (x k.before))

  -- an HPARK
  pub parked : (cause : Park) → e ≡ event.Park cause → Walks w x r q d t (Some (walked.Parked cause words))
  parked cause is = by_word (went w a (x k.before) k.walking)
    where
      hpark : fetch_shadow w y.shadow.pc ≡ Some (Hpark cause)
      hpark = subst (λ (e : Event). Tells e w y) is told

      shows : ShowsIn (Parked cause) w next d t
      shows = (subst (λ (e : Event). MovesBy e w y c s d t) is moved) (x k.before)

      named : is_named (Hpark cause) ≡ true
      named = park-named w y.shadow.pc (Hpark cause) hpark

      by_why : ParksBy w q y.shared cause ⊎ ((cause ≡ park.Exit) ⊎ (cause ≡ park.Store)) → Walks w x r q d t (Some (walked.Parked cause words))
      by_why (inl why) =
          let still : y.shared ≡ (words_on w x r words).shared = sym (word-parks w (x k.before) y cause (within-running k.walking.within) shows.state).shared ∙ ap (λ (r : Run). r.shared) made-words in
          parks words some few k.none cause (subst (λ (r : Run). ShowsIn (Parked cause) w r d t) made-words shows) (subst (λ (m : Memory). ParksBy w q m cause) still why)
          (λ full h. let call : instr_at w.image q ≡ Some Ecall = full-call why full in log-parks w a (x k.before) r q call h.short k.bound y k.walking.sized (k.log h call) plans (shows.state ∙ ap Parked full))
      by_why (inr (inl f)) = false_true (ap (λ (cause : Park). is_named (Hpark cause)) (sym f) ∙ named)
      by_why (inr (inr f)) = false_true (ap (λ (cause : Park). is_named (Hpark cause)) (sym f) ∙ named)

      by_word : Went w q y next k.left → Walks w x r q d t (Some (walked.Parked cause words))
      by_word (word.still f j less between walking) = parked_running (sym shows.state ∙ within-running walking.within)
      by_word (word.came to completes goes there at runs) = parked_running (sym shows.state ∙ runs)
      by_word (word.calls f) = false_true (ap is_call_word (sym hpark ∙ f))
      by_word (word.halted other state why) =
          let same : other ≡ cause = let f : Parked other ≡ Parked cause = sym state ∙ shows.state in cc in
          by_why (subst (λ (cause : Park). ParksBy w q y.shared cause ⊎ ((cause ≡ park.Exit) ⊎ (cause ≡ park.Store))) same why)

  -- an HKEY, to which the key of the state's call is given
  pub keyed : (rd key : ℕ) → e ≡ event.Key rd → (m : Layout) → m ≡ l → key ≡ key_of (plan_of m q) → Turned w x r q words (record d { registers = with_reg d.registers rd key; pc = after d.pc }) t
  keyed rd number is m same_layout is_key = by_doing k.doing (on-instruction k.walking.doing k.walking.plain k.walking.agrees) refl (asked (Hkey rd) at.word refl)
    where
      at : AtKey rd w y c s d t
      at = subst (λ (e : Event). MovesBy e w y c s d t) is moved

      by_key : key_of (shadow_plan w y) ≡ number → Turned w x r q words (record d { registers = with_reg d.registers rd number; pc = after d.pc }) t
      by_key f =
          behind (record d { registers = with_reg d.registers rd number; pc = after d.pc }) t (ap is_call_word at.word)
          (subst (λ (c : Core). ShowsShadow w next (record c { registers = with_reg c.registers rd number; pc = after c.pc }) t) (sym at.hart)
          (subst (λ (s : Space). ShowsShadow w next (record c { registers = with_reg c.registers rd number; pc = after c.pc }) s) (sym at.memory)
          (subst (λ (v : ℕ). ShowsShadow w next (record c { registers = with_reg c.registers rd v; pc = after c.pc }) s) f (at.answered (x k.before)))))

      by_asks : (p : ℕ) (i : Instr) (g : Regs) → OnInstruction w q (does p i g) → does p i g ≡ k.doing → i ≡ Ecall → Asks (Hkey rd) (block_at l p) y.shadow.pc y.shadow.registers g → Turned w x r q words (record d { registers = with_reg d.registers rd number; pc = after d.pc }) t
      by_asks p i g on same call (asks.key rd' f e10 e11 e12 e17) =
          let quiet : is_storing k.doing ≡ false = ap is_storing (sym same) ∙ ap (λ (i : Instr). is_storing (does p i g)) call in
          by_key (ap key_of (same-plan g (k.walking.sees quiet) on.3 e10 e11 e12 e17) ∙ ap (λ (l : Layout). key_of (plan_of l q)) (sym same_layout) ∙ sym is_key)
      by_asks p i g on same call (asks.call f place has) = absurd cc

      by_doing : (f : Doing) → OnInstruction w q f → f ≡ k.doing → AsksIn l (Hkey rd) y f → Turned w x r q words (record d { registers = with_reg d.registers rd number; pc = after d.pc }) t
      by_doing (does p i g) on same f = by_asks p i g on same f.0 f.1
      by_doing (ends g) on same f = absurd f
      by_doing _ on same f = absurd on

  -- an HCALL
  pub called : (unhinted : Bool) → e ≡ event.Call unhinted → Walks w x r q d t (Some (walked.Call unhinted (words - 1)))
  called unhinted is = by_doing k.doing (on-instruction k.walking.doing k.walking.plain k.walking.agrees) refl (asked (Hcall unhinted) at.word refl)
    where
      at : AtCall unhinted w y c s d t
      at = subst (λ (e : Event). MovesBy e w y c s d t) is moved

      made-before : y ≡ words_on w x r (words - 1)
      made-before = k.made ∙ ap (words_on w x r) (omega (arith, k.number))

      shows : ShowsShadow w y d t
      shows = subst (λ (c : Core). ShowsShadow w y c t) (sym at.hart) (subst (λ (s : Space). ShowsShadow w y c s) (sym at.memory) k.shows)

      state : (g : Regs) → SeesAlike l no_marks (view_in y) q → Agrees no_marks (registers g) q → HasRegs y.shadow.registers g → HasState w y q
      state g sees agrees has =
          let stands : Standing w (shade_of y) = within-stands k.walking.within in
          record {
            registers = λ i above below. shown-register y.shadow.registers (registers g) g has (has-registers g) i above ∙ agrees.registers i above below refl;
            files = k.walking.files;
            bytes = λ b inside. sees.bytes b inside refl;
            tables = stands.tables;
            has = stands.has;
            ok = stands.ok;
            sized = of-sized y k.walking.sized;
          }

      by_asks : (p : ℕ) (i : Instr) (g : Regs) → OnInstruction w q (does p i g) → does p i g ≡ k.doing → i ≡ Ecall → Asks (Hcall unhinted) (block_at l p) y.shadow.pc y.shadow.registers g → Walks w x r q d t (Some (walked.Call unhinted (words - 1)))
      by_asks p i g on same call (asks.key rd f e10 e11 e12 e17) = absurd cc
      by_asks p i g on same call (asks.call f place has) =
          let hinted : false ≡ unhinted = cc in
          let quiet : is_storing k.doing ≡ false = ap is_storing (sym same) ∙ ap (λ (i : Instr). is_storing (does p i g)) call in
          subst (λ (b : Bool). Walks w x r q d t (Some (walked.Call b (words - 1)))) hinted
          (calls (words - 1) (omega (arith, few)) (subst (NoneArrives w x r) (omega (arith, some)) k.none) (subst (λ (r : Run). ShowsShadow w r d t) made-before shows)
          (subst (λ (r : Run). StandsAtCall w r q) made-before
          (record {
            state = state g (k.walking.sees quiet) on.3 has;
            call = on.1 ∙ ap (λ (i : Instr). Some i) call;
            place = place ∙ ap (λ (p : ℕ). block_at l p + 24) on.0;
            word = at.word ∙ ap (λ (b : Bool). Some (Hcall b)) (sym hinted);
            goes_on = k.walking.goes_on;
          }))
          (λ h.
          let there : instr_at w.image q ≡ Some Ecall = on.1 ∙ ap (λ (i : Instr). Some i) call in
          subst (λ (z : Run). Logs (key_of (plan_of l q)) (r.shadow.registers 12) r.shared z.shared) made-before
          (log-calls w a (x k.before) r q there h.short k.bound y k.walking.sized (k.log h there) plans (at.word ∙ ap (λ (b : Bool). Some (Hcall b)) (sym hinted)))))

      by_doing : (f : Doing) → OnInstruction w q f → f ≡ k.doing → AsksIn l (Hcall unhinted) y f → Walks w x r q d t (Some (walked.Call unhinted (words - 1)))
      by_doing (does p i g) on same f = by_asks p i g on same f.0 f.1
      by_doing (ends g) on same f = absurd f
      by_doing _ on same f = absurd on

  -- no other event comes
  pub strayed : (f : Event) → e ≡ f → IsStray f → ⊥
  strayed (event.Trap trap) is stray =
      let never : WordCompletes w y → ⊥ = subst (λ (e : Event). Tells e w y) is told in
      never (within-completes w a y k.walking.sized (known l no_marks q) (λ p rd rs1 op imm g f. walking-sees k.walking (ap is_storing f)) k.walking.within)
  strayed event.Done is stray = stray
  strayed (event.Key rd) is stray = stray
  strayed (event.Park cause) is stray = stray
  strayed (event.Call unhinted) is stray = stray
  strayed f is stray = subst (λ (e : Event). MovesBy e w y c s d t) is moved
