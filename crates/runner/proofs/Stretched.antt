-- The run after words of the program that steps of the own hart completed.
use Rattle.std.proofs.Common.{◌≡◌, ◌≢◌, ℕ, zero, suc, ◌+◌, ◌≤◌, ◌<◌, ◌⊎◌, Bool, true, false, ◌&&◌, ◌||◌, ◌==◌, nat_le, IsTrue, [], Some, None, inl, inr, refl, sym, ap, subst, ◌∙◌, arith}
use Rattle.std.specs.Prelude.{replicate}
use Rattle.std.proofs.lemmas.Bool.Decides.{nat_tests}
use Rattle.spec_base.specs.declared.machine.Trap.{Trap}
use Rattle.spec_base.specs.declared.machine.View.{View}
use Rattle.spec_base.specs.declared.machine.View.TheVariants.{Program, Stub}
use Rattle.spec_base.specs.declared.note.Move.{Move}
use Rattle.spec_base.specs.declared.note.Move.TheVariants.{O}
use Rattle.rv_decode.specs.declared.instr.Instr.{Instr}
use Rattle.rv_decode.specs.declared.instr.Instr.TheVariants.{Hgate}
use Rattle.rv_model.specs.Effect.{Effect, Next, Stored, Trapped, Called, Gated, gate_effect}
use Rattle.rv_model.specs.Space.{Space}
use Rattle.program_model.specs.PlainRun.{State}
use Rattle.run_model.specs.Run.{World, Run, Traps, Answer, Usual}
use Rattle.run_model.specs.OwnMoves.{stays_behind, own_in}
use Rattle.run_model.specs.Moves.{begun, step, run_from}
use Rattle.run_laws.specs.OwnLaws.{Accepted}
use Rattle.machine_laws.specs.OneMachine.{space_of_run, IsOfView}
use Rattle.machine_laws.proofs.Gates.{effects_of_view}
use Rattle.hart_mem.specs.Held.{Held, lacks_frame}
use Rattle.hart_step.specs.Core.{Core, HeldCore}
use Rattle.hart_step.specs.Step.{Outcome, outcome, stepped, store_outcome, gate_outcome, effect_here}
use Rattle.hart_step.specs.Steps as steps
use Rattle.hart_step.specs.declared.event.Event.{Event}
use Rattle.hart_step.specs.declared.event.Event.TheVariants as event
use Rattle.word_laws.specs.Shown.{ShowsOwn, with_own, is_own_view}
use Rattle.word_laws.specs.OwnWords.{completed, gate_met, trapped, ProgramGoes}
use Rattle.word_laws.proofs.ProgramSteps.{program_words_lead}
use Rattle.runner_parts.specs.Parts.{IsAtRest, own_side}
use Rattle.runner.specs.Stretches.{IsInProgram, AreOwnWords, WantsPage, own_moves, words_done}
use Rattle.runner.proofs.OwnMoves.{word-step}
use Rattle.runner.proofs.Words.{and-false}

-- ---- a step that wants no frame, whichever are wanting

-- a memory with a spare frame
abbrev with_spare : Held → Held
with_spare h = record h { pages = record h.pages { pool = record h.pages.pool { spare = 1 } } }

lacks-none : (h : Held) (a : ℕ) → lacks_frame Program (with_spare h) a ≡ false
unfolding lacks_frame
lacks-none h a = and-false _ false refl

store-anyway : (l f : Bool) (told : Event) (c d : Core) (s t : Space) (a width v : ℕ) → told ≢ event.NoMemory → f ≡ false → outcome told d t ≡ store_outcome l c s a width v → outcome told d t ≡ store_outcome f c s a width v
store-anyway true f told c d s t a width v some none e = absurd (some (ap (λ (o : Outcome). o.event) e))
store-anyway false f told c d s t a width v some none e = e ∙ ap (λ (b : Bool). store_outcome b c s a width v) (sym none)

step-anyway : (lacks free : ℕ → Bool) → ((a : ℕ) → free a ≡ false) → (told : Event) → told ≢ event.NoMemory → (e : Effect) (c d : Core) (s t : Space) → outcome told d t ≡ stepped lacks e c s → outcome told d t ≡ stepped free e c s
step-anyway lacks free none told some (Next rs pc) c d s t e = e
step-anyway lacks free none told some (Stored a width v) c d s t e = store-anyway (lacks a) (free a) told c d s t a width v some (none a) e
step-anyway lacks free none told some (Trapped cause) c d s t e = e
step-anyway lacks free none told some Called c d s t e = e
step-anyway lacks free none told some (Gated g) c d s t e = e

-- so it leads where words of the program lead
word-goes : (w : World) (q : Run) → Accepted w → (h : Held) (lacks : ℕ → Bool) (told : Event) → told ≢ event.NoMemory → (c d : Core) (s t : Space) → ShowsOwn Program w q c s
    → outcome told d t ≡ stepped lacks (effect_here c s) c s → ProgramGoes told w q d t
word-goes w q a h lacks told some c d s t shows so =
    let view : c.view ≡ Program = ap (λ (k : Core). k.view) shows.hart ∙ shows.view in
    let none : (x : ℕ) → lacks_frame c.view (with_spare h) x ≡ false = λ x. ap (λ (v : View). lacks_frame v (with_spare h) x) view ∙ lacks-none h x in
    program_words_lead w q a (with_spare h) told c s d t shows (step-anyway lacks (lacks_frame c.view (with_spare h)) none told some (effect_here c s) c d s t so)

-- ---- what stops the hart in the program, but a gate, leaves it as it was

record Stays (c d : Core) (s t : Space) : Type 0 where
  hart : d ≡ c
  memory : t ≡ s

still-store : (l : Bool) (c : Core) (s : Space) (a width v : ℕ) → let o : Outcome = store_outcome l c s a width v in o.event ≢ event.Done → Stays c o.core s o.space
still-store true c s a width v nd = record { hart = refl; memory = refl }
still-store false c s a width v nd = absurd (nd refl)

still-gate : (gate : Instr) (c : Core) (s : Space) → gate_effect Program gate ≡ Gated gate → let o : Outcome = gate_outcome gate c s in o.event ≢ event.Gate → Stays c o.core s o.space
still-gate Hgate c s v ng = absurd (ng refl)
still-gate _ c s v ng = absurd cc

still-by : (lacks : ℕ → Bool) (e : Effect) (c : Core) (s : Space) → IsOfView Program e → let o : Outcome = stepped lacks e c s in o.event ≢ event.Done → o.event ≢ event.Gate → Stays c o.core s o.space
still-by lacks (Next rs pc) c s v nd ng = absurd (nd refl)
still-by lacks (Stored a width x) c s v nd ng = still-store (lacks a) c s a width x nd
still-by lacks (Trapped cause) c s v nd ng = record { hart = refl; memory = refl }
still-by lacks Called c s v nd ng = record { hart = refl; memory = refl }
still-by lacks (Gated g) c s v nd ng = still-gate g c s v ng

of-program : (c : Core) (s : Space) → c.view ≡ Program → IsOfView Program (effect_here c s)
of-program c s view = subst (λ (v : View). IsOfView v (effect_here c s)) view (effects_of_view c.view s c.registers c.pc)

still : (lacks : ℕ → Bool) (told : Event) (c d : Core) (s t : Space) → c.view ≡ Program → told ≢ event.Done → told ≢ event.Gate → outcome told d t ≡ stepped lacks (effect_here c s) c s → Stays c d s t
still lacks told c d s t view nd ng so =
    let nd' : (stepped lacks (effect_here c s) c s).event ≢ event.Done = subst (λ (o : Outcome). o.event ≢ event.Done) so nd in
    let ng' : (stepped lacks (effect_here c s) c s).event ≢ event.Gate = subst (λ (o : Outcome). o.event ≢ event.Gate) so ng in
    subst (λ (o : Outcome). Stays c o.core s o.space) (sym so) (still-by lacks (effect_here c s) c s (of-program c s view) nd' ng')

-- ---- a word that completes leaves it in the program

done-store : (l : Bool) (c : Core) (s : Space) (a width v : ℕ) → (store_outcome l c s a width v).core.view ≡ c.view
done-store true c s a width v = refl
done-store false c s a width v = refl

done-gate : (gate : Instr) (c : Core) (s : Space) → gate_effect Program gate ≡ Gated gate → (gate_outcome gate c s).event ≡ event.Done → (gate_outcome gate c s).core.view ≡ c.view
done-gate Hgate c s v e = absurd (let told : event.Gate ≡ event.Done = e in cc)
done-gate _ c s v e = absurd cc

done-by : (lacks : ℕ → Bool) (e : Effect) (c : Core) (s : Space) → IsOfView Program e → (stepped lacks e c s).event ≡ event.Done → (stepped lacks e c s).core.view ≡ c.view
done-by lacks (Next rs pc) c s v e = refl
done-by lacks (Stored a width x) c s v e = done-store (lacks a) c s a width x
done-by lacks (Trapped cause) c s v e = refl
done-by lacks Called c s v e = refl
done-by lacks (Gated g) c s v e = done-gate g c s v e

done-view : (lacks : ℕ → Bool) (c d : Core) (s t : Space) → c.view ≡ Program → outcome event.Done d t ≡ stepped lacks (effect_here c s) c s → d.view ≡ Program
done-view lacks c d s t view so =
    ap (λ (o : Outcome). o.core.view) so ∙ done-by lacks (effect_here c s) c s (of-program c s view) (sym (ap (λ (o : Outcome). o.event) so)) ∙ view

-- ---- a gate leaves it in the stub

stub-store : (l : Bool) (c : Core) (s : Space) (a width v : ℕ) → (store_outcome l c s a width v).event ≡ event.Gate → ⊥
stub-store true c s a width v e = (let told : event.NoMemory ≡ event.Gate = e in cc)
stub-store false c s a width v e = (let told : event.Done ≡ event.Gate = e in cc)

stub-gate : (gate : Instr) (c : Core) (s : Space) → gate_effect Program gate ≡ Gated gate → (gate_outcome gate c s).event ≡ event.Gate → (gate_outcome gate c s).core.view ≡ Stub
stub-gate Hgate c s v e = refl
stub-gate _ c s v e = absurd cc

stub-by : (lacks : ℕ → Bool) (e : Effect) (c : Core) (s : Space) → IsOfView Program e → (stepped lacks e c s).event ≡ event.Gate → (stepped lacks e c s).core.view ≡ Stub
stub-by lacks (Next rs pc) c s v e = absurd (let told : event.Done ≡ event.Gate = e in cc)
stub-by lacks (Stored a width x) c s v e = absurd (stub-store (lacks a) c s a width x e)
stub-by lacks (Trapped cause) c s v e = absurd (let told : event.Trap cause ≡ event.Gate = e in cc)
stub-by lacks Called c s v e = absurd (let told : event.Ecall ≡ event.Gate = e in cc)
stub-by lacks (Gated g) c s v e = stub-gate g c s v e

stub-view : (lacks : ℕ → Bool) (c d : Core) (s t : Space) → c.view ≡ Program → outcome event.Gate d t ≡ stepped lacks (effect_here c s) c s → d.view ≡ Stub
stub-view lacks c d s t view so =
    ap (λ (o : Outcome). o.core.view) so ∙ stub-by lacks (effect_here c s) c s (of-program c s view) (sym (ap (λ (o : Outcome). o.event) so))

-- a run that traps has ended
trapped-ends : (q : Run) (cause : Trap) (d : Core) (t : Space) → (trapped (with_own q d t) cause d.pc).end ≢ None
trapped-ends q cause d t e = (let over : Some (Traps cause d.pc) ≡ None = e in cc)

-- of an equal hart and memory
pub wants-as : (own : HeldCore) (mem : Held) (o : HeldCore) (m : Held) → o ≡ own → m ≡ mem → WantsPage own mem → WantsPage o m
wants-as own mem o m e f h = subst (λ (x : HeldCore). WantsPage x m) (sym e) (subst (λ (x : Held). WantsPage own x) (sym f) h)

-- ---- equal moves, one by one

pub equal-snoc : (n : ℕ) (w : World) (r : Run) (m : Move × Answer) → run_from w r (replicate (suc n) m) ≡ step w (run_from w r (replicate n m)) m
unfolding run_from
equal-snoc zero w r m = refl
equal-snoc (suc n) w r m = equal-snoc n w (step w r m) m

words-snoc : (n : ℕ) (w : World) (r : Run) → AreOwnWords w n r → IsInProgram (run_from w r (own_moves n)) → (step w (run_from w r (own_moves n)) (O, Usual)).end ≡ None → AreOwnWords w (suc n) r
unfolding run_from
words-snoc zero w r words in_program on = (in_program, on, tt)
words-snoc (suc n) w r words in_program on = (words.0, words.1, words-snoc n w (step w r (O, Usual)) words.2 in_program on)

-- ---- what is counted

both-behind : (a z l m : Bool) → (m ≡ true → l ≡ true) → ((a && (z || l)) && (z || m)) ≡ (a && (z || m))
both-behind false z l m h = refl
both-behind true true l m h = refl
both-behind true false true m h = refl
both-behind true false false false h = refl
both-behind true false false true h = absurd (let e : false ≡ true = h refl in cc)

le-behind : (n m k : ℕ) → n ≤ m → nat_le m k ≡ true → nat_le n k ≡ true
le-behind n m k few h = grind (arith, nat_tests)

-- a hart that stays behind the shadow was behind it
ahead-again : (a : Bool) (restarts n m shadow : ℕ) → n ≤ m → ((a && stays_behind restarts n shadow) && stays_behind restarts m shadow) ≡ (a && stays_behind restarts m shadow)
ahead-again a restarts n m shadow few = both-behind a (restarts == 0) (nat_le n shadow) (nat_le m shadow) (le-behind n m shadow few)

-- one word more
one-word : (n : ℕ) (r : Run) (c d : Core) (s t : Space) → completed (begun (words_done n (with_own r c s))) d t ≡ words_done (suc n) (with_own r d t)
one-word zero r c d s t = refl
one-word (suc n) r c d s t =
    let done : r.own_done + suc n + 1 ≡ r.own_done + suc (suc n) = omega arith in
    let since : r.since.own + suc n + 1 ≡ r.since.own + suc (suc n) = omega arith in
    let moves : r.moves + suc n + 1 ≡ r.moves + suc (suc n) = omega arith in
    let ahead : ((r.since.ahead && stays_behind r.restarts (r.since.own + suc n) r.since.shadow) && stays_behind r.restarts (r.since.own + suc n + 1) r.since.shadow) ≡ (r.since.ahead && stays_behind r.restarts (r.since.own + suc (suc n)) r.since.shadow) =
    ahead-again r.since.ahead r.restarts (r.since.own + suc n) (r.since.own + suc n + 1) r.since.shadow (omega arith)
    ∙ ap (λ (k : ℕ). r.since.ahead && stays_behind r.restarts k r.since.shadow) since in
    λ i. record (with_own r d t) { own_done = done i; since = record r.since { own = since i; ahead = ahead i }; moves = moves i; notes = []; text = [] }

done-end : (n : ℕ) (r : Run) → (words_done n r).end ≡ r.end
done-end zero r = refl
done-end (suc n) r = refl

done-stalled : (n : ℕ) (r : Run) → (words_done n r).stalled ≡ r.stalled
done-stalled zero r = refl
done-stalled (suc n) r = refl

done-space : (n : ℕ) (w : World) (r : Run) → space_of_run w (words_done n r) ≡ space_of_run w r
unfolding space_of_run
done-space zero w r = refl
done-space (suc n) w r = refl

-- where the hart and the memory are is told by those that come last
done-with : (n : ℕ) (w : World) (r : Run) (c d : Core) (s t : Space) → space_of_run w (with_own (begun (words_done n (with_own r c s))) d t) ≡ space_of_run w (with_own r d t)
unfolding space_of_run
done-with zero w r c d s t = refl
done-with (suc n) w r c d s t = refl

-- so is where it has entered the stub
pub gate-with : (n : ℕ) (r : Run) (c d : Core) (s t : Space) (gate : State) → record (with_own (begun (words_done n (with_own r c s))) d t) { at_gate = gate; asked = false } ≡ record (begun (words_done n (with_own r d t))) { at_gate = gate; asked = false }
gate-with zero r c d s t gate = refl
gate-with (suc n) r c d s t gate = refl

pub done-rests : (n : ℕ) (r : Run) (d : Core) (t : Space) → IsAtRest (own_side r) r.cache → IsAtRest (own_side (words_done n (with_own r d t))) (words_done n (with_own r d t)).cache
done-rests zero r d t rest = record { none = rest.none; goes = rest.goes; undemanded = rest.undemanded }
done-rests (suc n) r d t rest = record { none = rest.none; goes = rest.goes; undemanded = rest.undemanded }

-- ---- words that completed

module _ (w : World) (r : Run) (a : Accepted w) (in_program : IsInProgram r) (h : Held) where
  -- the hart and the memory show the run behind so many words
  pub record Stands (n : ℕ) (c : Core) (s : Space) : Type 0 where
    pub words : AreOwnWords w n r
    pub is : run_from w r (own_moves n) ≡ words_done n (with_own r c s)
    pub shows : ShowsOwn Program w (run_from w r (own_moves n)) c s

  first-Stands : (c : Core) (s : Space) → ShowsOwn Program w r c s → Stands 0 c s
  unfolding run_from space_of_run
  first-Stands c s shows = record { words = tt; is = λ i. with_own r (sym shows.hart i) (sym shows.space i); shows = shows }

  module _ (n : ℕ) (c : Core) (s : Space) (stands : Stands n c s) where
    abbrev q : Run
    q = run_from w r (own_moves n)

    pub stands-IsInProgram : IsInProgram q
    stands-IsInProgram =
        record {
          on = ap (λ (x : Run). x.end) stands.is ∙ done-end n (with_own r c s) ∙ in_program.on;
          goes = ap (λ (x : Run). x.stalled) stands.is ∙ done-stalled n (with_own r c s) ∙ in_program.goes;
          view = stands.shows.view;
        }

    pub stands-view : c.view ≡ Program
    stands-view = ap (λ (k : Core). k.view) stands.shows.hart ∙ stands.shows.view

    pub stands-side : IsTrue (is_own_view c.view)
    stands-side = subst (λ (v : View). IsTrue (is_own_view v)) (sym stands-view) refl

    pub stands-space : s ≡ space_of_run w (with_own r c s)
    stands-space = stands.shows.space ∙ ap (λ (x : Run). space_of_run w x) stands.is ∙ done-space n w (with_own r c s)

    begun-shows : ShowsOwn Program w (begun q) c s
    unfolding space_of_run
    begun-shows = record { view = stands.shows.view; hart = stands.shows.hart; space = stands.shows.space }

    pub next-goes : (lacks : ℕ → Bool) (told : Event) → told ≢ event.NoMemory → (d : Core) (t : Space) → outcome told d t ≡ stepped lacks (effect_here c s) c s → ProgramGoes told w (begun q) d t
    next-goes lacks told some d t so = word-goes w (begun q) a h lacks told some c d s t begun-shows so

    pub next-step : step w q (O, Usual) ≡ own_in Program w Usual (begun q)
    next-step =
        word-step w q stands-IsInProgram.on Usual stands-IsInProgram.goes ∙ ap (λ (v : View). own_in v w Usual (begun q)) stands-IsInProgram.view

    -- one more
    done-Stands : (lacks : ℕ → Bool) (d : Core) (t : Space) → outcome event.Done d t ≡ stepped lacks (effect_here c s) c s → Stands (suc n) d t
    unfolding space_of_run
    done-Stands lacks d t so =
        let goes : ProgramGoes event.Done w (begun q) d t = next-goes lacks event.Done (λ e. cc) d t so in
        let moved : step w q (O, Usual) ≡ completed (begun q) d t = next-step ∙ goes.leads Usual in
        let next : run_from w r (own_moves (suc n)) ≡ completed (begun q) d t = equal-snoc n w r (O, Usual) ∙ moved in
        let end : (step w q (O, Usual)).end ≡ None = ap (λ (x : Run). x.end) moved ∙ stands-IsInProgram.on in
        record {
          words = words-snoc n w r stands.words stands-IsInProgram end;
          is = next ∙ ap (λ (x : Run). completed (begun x) d t) stands.is ∙ one-word n r c d s t;
          shows = subst (λ (x : Run). ShowsOwn Program w x d t) (sym next) (record { view = done-view lacks c d s t stands-view so; hart = refl; space = goes.space });
        }

  completes-Stands : (c : Core) (s : Space) → ShowsOwn Program w r c s → (n : ℕ) (d : Core) (t : Space) → steps.Completes c s n d t → Stands n d t
  completes-Stands c s shows _ _ _ steps.none = first-Stands c s shows
  completes-Stands c s shows _ _ _ (steps.more n at next here there lacks before so) =
      done-Stands n at here (completes-Stands c s shows n at here before) lacks next there so

  -- ---- and what stopped them

  -- the next word ends the run, or wants a page
  abbrev pub EndsOrWants : ℕ → (ℕ → Bool) → Core → Space → Type 0
  EndsOrWants n lacks d t = ((step w (run_from w r (own_moves n)) (O, Usual)).end ≢ None) ⊎ ((stepped lacks (effect_here d t) d t).event ≡ event.NoMemory)

  ends-or-wants : (n : ℕ) (c : Core) (s : Space) → Stands n c s → (lacks : ℕ → Bool) (told : Event) → told ≢ event.Done → told ≢ event.Gate → (d : Core) (t : Space)
      → outcome told d t ≡ stepped lacks (effect_here c s) c s → EndsOrWants n lacks d t
  ends-or-wants n c s stands lacks event.Done nd ng d t so = absurd (nd refl)
  ends-or-wants n c s stands lacks event.Gate nd ng d t so = absurd (ng refl)
  ends-or-wants n c s stands lacks event.NoMemory nd ng d t so =
      let stays = still lacks event.NoMemory c d s t (stands-view n c s stands) nd ng so in
      inr
      (subst (λ (k : Core). (stepped lacks (effect_here k t) k t).event ≡ event.NoMemory) (sym stays.hart)
      (subst (λ (x : Space). (stepped lacks (effect_here c x) c x).event ≡ event.NoMemory) (sym stays.memory) (sym (ap (λ (o : Outcome). o.event) so))))
  ends-or-wants n c s stands lacks (event.Trap cause) nd ng d t so =
      let goes : ProgramGoes (event.Trap cause) w (begun (q n c s stands)) d t = next-goes n c s stands lacks (event.Trap cause) (λ e. cc) d t so in
      inl (subst (λ (x : Run). x.end ≢ None) (sym (next-step n c s stands ∙ goes.leads Usual)) (trapped-ends (begun (q n c s stands)) cause d t))
  ends-or-wants n c s stands lacks event.Ecall nd ng d t so = absurd ((next-goes n c s stands lacks event.Ecall (λ e. cc) d t so).leads)
  ends-or-wants n c s stands lacks event.Leave nd ng d t so = absurd ((next-goes n c s stands lacks event.Leave (λ e. cc) d t so).leads)
  ends-or-wants n c s stands lacks (event.Call u) nd ng d t so = absurd ((next-goes n c s stands lacks (event.Call u) (λ e. cc) d t so).leads)
  ends-or-wants n c s stands lacks (event.Key rd) nd ng d t so = absurd ((next-goes n c s stands lacks (event.Key rd) (λ e. cc) d t so).leads)
  ends-or-wants n c s stands lacks event.Stop nd ng d t so = absurd ((next-goes n c s stands lacks event.Stop (λ e. cc) d t so).leads)
  ends-or-wants n c s stands lacks event.Restart nd ng d t so = absurd ((next-goes n c s stands lacks event.Restart (λ e. cc) d t so).leads)
  ends-or-wants n c s stands lacks (event.Park k) nd ng d t so = absurd ((next-goes n c s stands lacks (event.Park k) (λ e. cc) d t so).leads)

  -- a gate: one word more
  pub record Enters (n : ℕ) (d : Core) (t : Space) : Type 0 where
    pub words : AreOwnWords w (suc n) r
    pub at : Core
    pub here : Space
    pub is : run_from w r (own_moves (suc n)) ≡ gate_met (begun (words_done n (with_own r at here))) d t
    pub side : IsTrue (is_own_view d.view)
    pub stub : d.view ≡ Stub
    pub space : t ≡ space_of_run w (with_own r d t)

  module _ (c : Core) (s : Space) (shows : ShowsOwn Program w r c s) (most n : ℕ) (told : Event) (lacks : ℕ → Bool) (d : Core) (t : Space) (to : steps.StepsTo most n told lacks c s d t) where
    came : Stands n to.at to.here
    came = completes-Stands c s shows n to.at to.here to.completes

    -- none: hart and memory show the run
    pub stopped-Stands : told ≢ event.Gate → Stands n d t
    stopped-Stands ng =
        elim to.ends [
          | inl all ↦ subst (λ (x : Space). Stands n d x) (sym all.3) (subst (λ (k : Core). Stands n k to.here) (sym all.2) came)
          | inr some ↦ (
              let stays = still lacks told to.at d to.here t (stands-view n to.at to.here came) some.1 ng some.2 in
              subst (λ (x : Space). Stands n d x) (sym stays.memory) (subst (λ (k : Core). Stands n k to.here) (sym stays.hart) came))
        ]

    -- where they didn't all complete
    pub stopped-EndsOrWants : told ≢ event.Gate → n < most → EndsOrWants n lacks d t
    stopped-EndsOrWants ng few =
        elim to.ends [
          | inl all ↦ absurd (omega (arith, few, all.0))
          | inr some ↦ ends-or-wants n to.at to.here came lacks told some.1 ng d t some.2
        ]

    pub gate-Enters : told ≡ event.Gate → Enters n d t
    unfolding space_of_run
    gate-Enters is =
        elim to.ends [
          | inl all ↦ absurd (let e : event.Done ≡ event.Gate = sym all.1 ∙ is in cc)
          | inr some ↦ (
              let so : outcome event.Gate d t ≡ stepped lacks (effect_here to.at to.here) to.at to.here = subst (λ (e : Event). outcome e d t ≡ stepped lacks (effect_here to.at to.here) to.at to.here) is some.2 in
              let goes : ProgramGoes event.Gate w (begun (q n to.at to.here came)) d t = next-goes n to.at to.here came lacks event.Gate (λ e. cc) d t so in
              let in_q = stands-IsInProgram n to.at to.here came in
              let moved = next-step n to.at to.here came ∙ goes.leads Usual in
              record {
                words = words-snoc n w r came.words in_q (ap (λ (x : Run). x.end) moved ∙ in_q.on);
                at = to.at;
                here = to.here;
                is = equal-snoc n w r (O, Usual) ∙ moved ∙ ap (λ (x : Run). gate_met (begun x) d t) came.is;
                side = goes.side;
                stub = stub-view lacks to.at d to.here t (stands-view n to.at to.here came) so;
                space = goes.space ∙ ap (λ (x : Run). space_of_run w (with_own (begun x) d t)) came.is ∙ done-with n w r to.at d to.here t;
              })
        ]
