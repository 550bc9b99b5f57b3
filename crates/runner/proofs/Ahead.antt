-- The run after words of the shadow of which nothing is counted but their number, and what follows them.
use Rattle.std.proofs.Common.{◌≡◌, ◌≢◌, ◌≤◌, ◌<◌, ◌+◌, inl, inr, ℕ, zero, suc, Bool, true, false, ◌&&◌, max, Option, Some, None}
use Rattle.std.proofs.Common.{refl, sym, ap, subst, ◌∙◌, arith}
use Rattle.std.specs.Prelude.{◌%◌, ◌==◌, ◌-◌, ◌*◌, nat_lt, nat_le, is_some, vec_len}
use Rattle.std.specs.Option.{option_map}
use Rattle.spec_base.specs.Layout.{shadow_start, helpers_start}
use Rattle.spec_base.specs.declared.machine.Trap.{Trap}
use Rattle.spec_base.specs.declared.machine.View.{View}
use Rattle.spec_base.specs.declared.machine.View.TheVariants.{Shadow}
use Rattle.spec_base.specs.declared.note.Move.TheVariants.{S}
use Rattle.spec_base.specs.declared.note.ShadowState.TheVariants.{Running}
use Rattle.spec_base.specs.declared.park.Park.{Park}
use Rattle.spec_base.specs.declared.park.Park.TheVariants as park
use Rattle.spec_base.specs.declared.layout.Layout.{Layout}
use Rattle.rv_decode.specs.Instruction.{instr_of}
use Rattle.rv_decode.specs.declared.instr.Instr.{Instr}
use Rattle.rv_decode.specs.declared.instr.Instr.TheVariants.{Hkey, Hcall}
use Rattle.rv_model.specs.Rights.{rights_of}
use Rattle.rv_model.specs.Effect.{Effect, Stored, effect}
use Rattle.rv_model.specs.Space.{Space, sees, word_at, word_effect, effect_at}
use Rattle.code_model.specs.Regions.{slots_in_use}
use Rattle.run_model.specs.Run.{World, Run, RunEnd, Answer, Usual}
use Rattle.run_model.specs.Moves.{begun, step, run_from}
use Rattle.run_model.specs.ShadowMoves.{fetch_shadow, is_call_word, is_running, is_arrival, arrived, arrived_if, parked, shadow_step, word_counted}
use Rattle.run_laws.specs.OwnLaws.{Accepted}
use Rattle.machine_laws.specs.OneMachine.{space_of_run}
use Rattle.machine_laws.proofs.Fetches.{fetches_same}
use Rattle.hart_mem.specs.Held.{Held, space_of}
use Rattle.hart_step.specs.Core.{Core, HeldCore, core_of}
use Rattle.hart_step.specs.Step.{Outcome, stepped, effect_here}
use Rattle.hart_step.specs.ShadowSteps as steps
use Rattle.hart_step.specs.declared.event.Event.{Event}
use Rattle.hart_step.specs.declared.event.Event.TheVariants as event
use Rattle.word_laws.specs.Shown.{IsStep, tells_call, ShowsShadow, with_shadow}
use Rattle.word_laws.specs.ShadowWords.{WordLeads, ShadowGoes}
use Rattle.word_laws.proofs.ShadowSteps.{shadow_words_lead}
use Rattle.runner_parts.specs.Counts.{Counted}
use Rattle.runner_parts.specs.Idle.{idle_for}
use Rattle.runner_parts.specs.Parts.{end_of_run}
use Rattle.runner.specs.ShadowGoes.{AreCounted}
use Rattle.runner.specs.Shows.{Shows}
use Rattle.runner.specs.Stretches.{IsShadowWord, AreShadowWords, shadow_moves, MakesShadowWords, StopsShadow, is_key_or_call}
use Rattle.runner.specs.declared.runner.Runner.{Runner}
use Rattle.runner.proofs.Words.{and-false}
use Rattle.runner.proofs.Moved.{shows-as, still-none}
use Rattle.runner.proofs.Arrivals.{shown-by}
use Rattle.runner.proofs.ShadowSteps.{step-is}
use Rattle.runner.proofs.Stretched.{equal-snoc}

-- ---- which word it was

-- an HKEY tells its own event
key-effect :
    (lacks : ℕ → Bool) (c : Core) (s : Space) (o : Option ℕ) (rd : ℕ) → option_map instr_of o ≡ Some (Hkey rd)
    → (stepped lacks (word_effect Shadow s c.registers c.pc o) c s).event ≡ event.Key rd
key-effect lacks c s None rd e = absurd cc
key-effect lacks c s (Some word) rd e =
    let is : instr_of word ≡ Hkey rd = cc in
    ap (λ (i : Instr). (stepped lacks (effect Shadow (rights_of Shadow s.layout) (sees Shadow s) c.registers c.pc i) c s).event) is

key-here :
    (lacks : ℕ → Bool) (c : Core) (s : Space) (rd : ℕ) → c.view ≡ Shadow → option_map instr_of (word_at Shadow s c.pc) ≡ Some (Hkey rd)
    → (stepped lacks (effect_here c s) c s).event ≡ event.Key rd
unfolding effect_at
key-here lacks c s rd view e =
    subst (λ (v : View). (stepped lacks (word_effect v s c.registers c.pc (word_at v s c.pc)) c s).event ≡ event.Key rd) (sym view)
    (key-effect lacks c s (word_at Shadow s c.pc) rd e)

neither : (i : Option Instr) → is_call_word i ≡ false → ((rd : ℕ) → i ≡ Some (Hkey rd) → ⊥) → is_key_or_call i ≡ false
neither (Some (Hkey rd)) none no_key = absurd (no_key rd refl)
neither (Some (Hcall unhinted)) none no_key = absurd (let e : true ≡ false = none in cc)
neither _ none no_key = refl

-- ---- what is counted of words

-- no runner keeps the number of the shadow's words
abbrev pub with_words : ℕ → Run → Run
with_words k r = record r { since = record r.since { words = k } }

pub unseen-words : (k : ℕ) (v : Runner) (w : World) (r : Run) → Shows v w r → Shows v w (with_words k r)
unfolding space_of_run
unseen-words k v w r h =
    record {
      space = h.space;
      own = h.own;
      shadow = record { view = h.shadow.view; registers = h.shadow.registers; pc = h.shadow.pc; files_are = h.shadow.files_are; state_is = h.shadow.state_is };
      sizes = h.sizes;
      cache = h.cache;
      counts = h.counts;
      ahead = h.ahead;
      whole = h.whole;
      end = h.end;
      notes = h.notes;
      text = h.text;
    }

-- the run in which so many words more are made, each in a move, and nothing else has changed
abbrev words_ahead : ℕ → Run → Run
words_ahead zero r = r
words_ahead (suc n) r = with_words (r.since.words + suc n) (idle_for (suc n) r)

-- but for their number it is as after moves that do nothing
ahead-idle : (n : ℕ) (r : Run) → words_ahead n r ≡ with_words (words_ahead n r).since.words (idle_for n r)
ahead-idle zero r = refl
ahead-idle (suc n) r = refl

-- where no look is due there is no arrival
quiet-pc : (e : Effect) (d : Core) → steps.is_look_due e d ≡ false → (d.pc % 64 == 4) ≡ false
quiet-pc (Stored a width v) d quiet = absurd (let e : true ≡ false = quiet in cc)
quiet-pc _ d quiet = quiet

no-arrival : (runs : Bool) (l : Layout) (pc : ℕ) → (pc % 64 == 4) ≡ false → (runs && is_arrival l pc) ≡ false
no-arrival runs l pc quiet =
    let above : Bool = nat_le shadow_start pc in
    let inside : Bool = nat_le pc (shadow_start + 16 * (l.text_end - l.text_start) + 4) in
    and-false runs (is_arrival l pc)
    (and-false (nat_lt pc helpers_start) (above && (inside && (pc % 64 == 4)))
    (and-false above (inside && (pc % 64 == 4)) (and-false inside (pc % 64 == 4) quiet)))

max-same : (a b : ℕ) → b ≤ a → max a b ≡ a
max-same a b h = omega (arith, h)

-- one word more
one-word :
    (n : ℕ) (r : Run) (c d : Core) (s : Space) → slots_in_use s.shared ≤ r.regions_most
    → word_counted (with_shadow (begun (words_ahead n (with_shadow r c s))) d s) ≡ words_ahead (suc n) (with_shadow r d s)
one-word zero r c d s few = λ i. record (words_ahead 1 (with_shadow r d s)) { regions_most = max-same r.regions_most (slots_in_use s.shared) few i }
one-word (suc n) r c d s few =
    let words : r.since.words + suc n + 1 ≡ r.since.words + suc (suc n) = omega arith in
    let moves : r.moves + suc n + 1 ≡ r.moves + suc (suc n) = omega arith in
    λ i. record (words_ahead (suc (suc n)) (with_shadow r d s)) {
      since = record r.since { words = words i };
      moves = moves i;
      regions_most = max-same r.regions_most (slots_in_use s.shared) few i;
    }

ahead-end : (n : ℕ) (r : Run) → (words_ahead n r).end ≡ r.end
ahead-end zero r = refl
ahead-end (suc n) r = refl

-- where hart and memory are is told by those that come last
ahead-with : (n : ℕ) (r : Run) (c d : Core) (s t : Space) → with_shadow (words_ahead n (with_shadow r c s)) d t ≡ words_ahead n (with_shadow r d t)
ahead-with zero r c d s t = refl
ahead-with (suc n) r c d s t = refl

ahead-space : (n : ℕ) (w : World) (r : Run) → space_of_run w (words_ahead n r) ≡ space_of_run w r
unfolding space_of_run
ahead-space zero w r = refl
ahead-space (suc n) w r = refl

-- ---- how a stretch ends, seen without the number of words

counted-words : (k : ℕ) (b : Bool) (r : Run) → word_counted (arrived_if b (with_words k r)) ≡ with_words (k + 1) (word_counted (arrived_if b r))
counted-words k true r = refl
counted-words k false r = refl

arrived-words : (k : ℕ) (l : Layout) (r : Run) → word_counted (arrived l (with_words k r)) ≡ with_words (k + 1) (word_counted (arrived l r))
arrived-words k l r = counted-words k (is_running r.shadow.state && is_arrival l r.shadow.pc) r

-- ---- many words

shadow-snoc : (n : ℕ) (w : World) (r : Run) → AreShadowWords w n r → IsShadowWord w (run_from w r (shadow_moves n)) → AreShadowWords w (suc n) r
unfolding run_from
shadow-snoc zero w r words word = (word, tt)
shadow-snoc (suc n) w r words word = (words.0, shadow-snoc n w (step w r (S, Usual)) words.1 word)

-- none
pub none-MakesShadowWords : (u : Runner) (w : World) (r : Run) → Shows u w r → MakesShadowWords 0 u w r
unfolding run_from
none-MakesShadowWords u w r h = record { words = tt; shows = h }

-- and more
run-more : (n m : ℕ) (w : World) (r : Run) → run_from w r (shadow_moves (n + m)) ≡ run_from w (run_from w r (shadow_moves n)) (shadow_moves m)
unfolding run_from
run-more zero m w r = let e : 0 + m ≡ m = omega arith in ap (λ (k : ℕ). run_from w r (shadow_moves k)) e
run-more (suc n) m w r =
    let e : suc n + m ≡ suc (n + m) = omega arith in
    ap (λ (k : ℕ). run_from w r (shadow_moves k)) e ∙ run-more n m w (step w r (S, Usual))

words-more : (n m : ℕ) (w : World) (r : Run) → AreShadowWords w n r → AreShadowWords w m (run_from w r (shadow_moves n)) → AreShadowWords w (n + m) r
unfolding run_from
words-more zero m w r words more = let e : m ≡ 0 + m = omega arith in subst (λ (k : ℕ). AreShadowWords w k r) e more
words-more (suc n) m w r words more =
    let e : suc (n + m) ≡ suc n + m = omega arith in
    subst (λ (k : ℕ). AreShadowWords w k r) e (words.0, words-more n m w (step w r (S, Usual)) words.1 more)

pub more-MakesShadowWords :
    (n m : ℕ) (v u : Runner) (w : World) (r : Run) → MakesShadowWords n v w r → MakesShadowWords m u w (run_from w r (shadow_moves n))
    → MakesShadowWords (n + m) u w r
more-MakesShadowWords n m v u w r makes more =
    record { words = words-more n m w r makes.words more.words; shows = subst (λ (q : Run). Shows u w q) (sym (run-more n m w r)) more.shows }

-- so many words are made; but for their number the run is then this, whose hart and memory are these
pub record Leads (w : World) (r : Run) (n : ℕ) (q : Run) (d : Core) (t : Space) : Type 0 where
  pub words : AreShadowWords w n r
  pub number : ℕ
  pub is : run_from w r (shadow_moves n) ≡ with_words number q
  pub view : d.view ≡ Shadow
  pub space : t ≡ space_of_run w (with_shadow r d t)

-- a runner that shows it made them
pub leads-Makes : (n : ℕ) (u : Runner) (w : World) (r q : Run) (d : Core) (t : Space) → Leads w r n q d t → Shows u w q → MakesShadowWords n u w r
leads-Makes n u w r q d t leads h =
    let shows = shows-as u w (run_from w r (shadow_moves n)) (with_words leads.number q) leads.is (unseen-words leads.number u w q h) in
    record { words = leads.words; shows = shows }

-- a runner with the hart and the memory after steps of its shadow
pub shows-with :
    (v : Runner) (d : HeldCore) (t : Held) (view : (core_of d).view ≡ Shadow) (room : vec_len v.staging ≡ 69632)
    (idle : v.stalled ≡ false → v.cache.demanded ≡ None) (filling : vec_len v.filling ≡ 69632) (w : World) (r : Run)
    → Shows v w r → space_of t ≡ space_of_run w (with_shadow r (core_of d) (space_of t))
    → Shows (record v { shadow = d; mem = t; shadow_view = view; staging_room = room; idle = idle; filling_room = filling }) w
    (with_shadow r (core_of d) (space_of t))
shows-with v d t view room idle filling w r h space =
    record {
      space = space;
      own = h.own;
      shadow = record { view = view; registers = refl; pc = refl; files_are = h.shadow.files_are; state_is = h.shadow.state_is };
      sizes = h.sizes;
      cache = h.cache;
      counts = h.counts;
      ahead = h.ahead;
      whole = h.whole;
      end = h.end;
      notes = h.notes;
      text = h.text;
    }

-- ---- words that pass

module _ (w : World) (r : Run) (a : Accepted w) (on : r.end ≡ None) where
  -- hart and memory show the run behind so many words
  record Stands (n : ℕ) (c : Core) (s : Space) : Type 0 where
    words : AreShadowWords w n r
    is : run_from w r (shadow_moves n) ≡ words_ahead n (with_shadow r c s)
    shows : ShowsShadow w (run_from w r (shadow_moves n)) c s

  first-Stands : (c : Core) (s : Space) → ShowsShadow w r c s → Stands 0 c s
  unfolding run_from space_of_run
  first-Stands c s shows =
      record {
        words = tt;
        is = λ i. record r {
          shadow = record r.shadow { registers = sym shows.registers i; pc = sym shows.pc i };
          shared = (sym shows.space i).shared;
          shadow_page = (sym shows.space i).shadow_page;
        };
        shows = shows;
      }

  module _ (n : ℕ) (c : Core) (s : Space) (stands : Stands n c s) where
    abbrev q : Run
    q = run_from w r (shadow_moves n)

    stands-on : q.end ≡ None
    stands-on = ap (λ (x : Run). x.end) stands.is ∙ ahead-end n (with_shadow r c s) ∙ on

    begun-shows : ShowsShadow w (begun q) c s
    unfolding space_of_run
    begun-shows =
        let h = stands.shows in
        record { view = h.view; registers = h.registers; pc = h.pc; space = h.space; state = h.state }

    fetched-here : fetch_shadow w q.shadow.pc ≡ option_map instr_of (word_at Shadow s c.pc)
    fetched-here = (fetches_same w a q q.shadow.pc).shadow ∙ (λ i. option_map instr_of (word_at Shadow (sym stands.shows.space i) (sym stands.shows.pc i)))

    -- the run with another hart and memory
    with-ahead : (d : Core) (t : Space) → with_shadow q d t ≡ words_ahead n (with_shadow r d t)
    with-ahead d t = ap (λ (x : Run). with_shadow x d t) stands.is ∙ ahead-with n r c d s t

    with-idle : (d : Core) (t : Space) → with_shadow q d t ≡ with_words (words_ahead n (with_shadow r d t)).since.words (idle_for n (with_shadow r d t))
    with-idle d t = with-ahead d t ∙ ahead-idle n (with_shadow r d t)

    space-with : (d : Core) (t : Space) → space_of_run w (with_shadow q d t) ≡ space_of_run w (with_shadow r d t)
    space-with d t = ap (λ (x : Run). space_of_run w x) (with-ahead d t) ∙ ahead-space n w (with_shadow r d t)

    module _ (h : Held) (told : Event) (d : Core) (t : Space) (so : IsStep h told c s d t) where
      goes : ShadowGoes told w (begun q) d t
      goes = shadow_words_lead w (begun q) a h told c s d t begun-shows so

      here : t ≡ space_of_run w (with_shadow r d t)
      unfolding space_of_run
      here = goes.space ∙ space-with d t

      -- the next move is a word that is no call
      next-word : ((rd : ℕ) → told ≢ event.Key rd) → tells_call told ≡ false → IsShadowWord w q
      next-word no_key no_call =
          record {
            on = stands-on;
            runs = stands.shows.state;
            no_call = neither (fetch_shadow w q.shadow.pc) (goes.calls ∙ no_call)
                (λ rd e. no_key rd (ap (λ (o : Outcome). o.event) so ∙ key-here _ c s rd stands.shows.view (sym fetched-here ∙ e)));
          }

    module _ (h : Held) (d : Core) (t : Space) (so : IsStep h event.Done c s d t) where
      done-run : run_from w r (shadow_moves (suc n)) ≡ word_counted (arrived w.image.layout (with_shadow (begun q) d t))
      done-run = equal-snoc n w r (S, Usual) ∙ step-is w q stands-on Usual ∙ (goes h event.Done d t so).leads Usual

      done-words : AreShadowWords w (suc n) r
      done-words = shadow-snoc n w r stands.words (next-word h event.Done d t so (λ rd e. cc) refl)

      -- a last one, which leaves the shadow running
      done-Leads : Leads w r (suc n) (word_counted (arrived w.image.layout (begun (idle_for n (with_shadow r d t))))) d t
      done-Leads =
          let k : ℕ = (words_ahead n (with_shadow r d t)).since.words in
          record {
            words = done-words;
            number = k + 1;
            is =
                done-run ∙ ap (λ (x : Run). word_counted (arrived w.image.layout (begun x))) (with-idle d t)
                ∙ arrived-words k w.image.layout (begun (idle_for n (with_shadow r d t)));
            view = (goes h event.Done d t so).view;
            space = here h event.Done d t so;
          }

    -- one that passes
    done-Stands :
        slots_in_use s.shared ≤ r.regions_most → (h : Held) (d : Core) → IsStep h event.Done c s d s → steps.is_look_due (effect_here c s) d ≡ false
        → Stands (suc n) d s
    unfolding space_of_run
    done-Stands few h d so quiet =
        let calm = no-arrival (is_running q.shadow.state) w.image.layout d.pc (quiet-pc (effect_here c s) d quiet) in
        let next : run_from w r (shadow_moves (suc n)) ≡ word_counted (with_shadow (begun q) d s) =
        done-run h d s so ∙ ap (λ (b : Bool). word_counted (arrived_if b (with_shadow (begun q) d s))) calm in
        let after = goes h event.Done d s so in
        record {
          words = done-words h d s so;
          is = next ∙ ap (λ (x : Run). word_counted (with_shadow (begun x) d s)) stands.is ∙ one-word n r c d s few;
          shows = subst (λ (x : Run). ShowsShadow w x d s) (sym next)
              (record { view = after.view; registers = refl; pc = refl; space = after.space; state = stands.shows.state });
        }

    -- a last one, which parks it
    module _ (h : Held) (told : Event) (d : Core) (t : Space) (so : IsStep h told c s d t) where
      park-Leads :
          (cause : Park) → ((rd : ℕ) → told ≢ event.Key rd) → tells_call told ≡ false
          → ((x : Answer) → shadow_step w x (begun q) ≡ word_counted (parked (with_shadow (begun q) d t) cause))
          → Leads w r (suc n) (word_counted (parked (begun (idle_for n (with_shadow r d t))) cause)) d t
      park-Leads cause no_key no_call leads =
          record {
            words = shadow-snoc n w r stands.words (next-word h told d t so no_key no_call);
            number = (words_ahead n (with_shadow r d t)).since.words + 1;
            is =
                equal-snoc n w r (S, Usual) ∙ step-is w q stands-on Usual ∙ leads Usual
                ∙ ap (λ (x : Run). word_counted (parked (begun x) cause)) (with-idle d t);
            view = (goes h told d t so).view;
            space = here h told d t so;
          }

      -- at an HKEY or an HCALL nothing has changed
      left-Leads : with_shadow (begun q) d t ≡ begun q → Leads w r n (idle_for n (with_shadow r d t)) d t
      left-Leads same =
          record {
            words = stands.words;
            number = (words_ahead n (with_shadow r d t)).since.words;
            is = sym (ap (λ (x : Run). record q { shadow = x.shadow; shared = x.shared; shadow_page = x.shadow_page }) same) ∙ with-idle d t;
            view = (goes h told d t so).view;
            space = here h told d t so;
          }

  passes-Stands :
      (c : Core) (s : Space) → ShowsShadow w r c s → (n : ℕ) (d : Core) → (0 < n → slots_in_use s.shared ≤ r.regions_most) → steps.Passes c s n d
      → Stands n d s
  passes-Stands c s shows _ _ few steps.none = first-Stands c s shows
  passes-Stands c s shows _ _ few (steps.more n at next h before so quiet) =
      let some : slots_in_use s.shared ≤ r.regions_most = few (omega arith) in
      done-Stands n at s (passes-Stands c s shows n at (λ _. some) before) some h next so quiet

-- ---- a word that isn't made

-- at an HKEY or an HCALL nothing has changed, and one of these is next
left :
    (w : World) (r : Run) (d : Core) (t : Space) (e : Event) → e ≢ event.Done → ((k : Park) → e ≢ event.Park k) → ((x : Trap) → e ≢ event.Trap x)
    → WordLeads e w r d t
    → (with_shadow r d t ≡ r) × (is_key_or_call (fetch_shadow w r.shadow.pc) ≡ true)
left w r d t (event.Key rd) nd np nt h = (h.same, ap is_key_or_call h.word)
left w r d t (event.Call u) nd np nt h = (h.same, ap is_key_or_call h.word)
left w r d t event.Done nd np nt h = absurd (nd refl)
left w r d t (event.Park k) nd np nt h = absurd (np k refl)
left w r d t (event.Trap x) nd np nt h = absurd (nt x refl)
left w r d t event.Leave nd np nt h = absurd h
left w r d t event.Gate nd np nt h = absurd h
left w r d t event.Stop nd np nt h = absurd h
left w r d t event.Restart nd np nt h = absurd h
left w r d t event.NoMemory nd np nt h = absurd h
left w r d t event.Ecall nd np nt h = absurd h

-- a run that has ended has no word
pub ended-stops : (v : Runner) (w : World) (r : Run) → Shows v w r → is_some v.end ≡ true → StopsShadow w r
ended-stops v w r h over = inl (λ e. let f : false ≡ true = sym (ap is_some (h.end ∙ ap (λ (o : Option RunEnd). option_map end_of_run o) e)) ∙ over in cc)

-- ---- the steps of a runner's shadow

-- the last of some words, behind others that passed
record LastWord (n : ℕ) (c : Core) (s : Space) (d : Core) (t : Space) : Type 0 where
  before : ℕ
  one : n ≡ suc before
  at : Core
  passes : steps.Passes c s before at
  spare : Held
  step : IsStep spare event.Done at s d t

passes-last : (n : ℕ) (c : Core) (s : Space) (d : Core) → 0 < n → steps.Passes c s n d → LastWord n c s d s
passes-last _ c s _ some steps.none = absurd (omega (arith, some))
passes-last _ c s _ some (steps.more n at next h before so quiet) = record { before = n; one = refl; at = at; passes = before; spare = h; step = so }

-- what tells something else was not all
pub stopped-less : (most n : ℕ) (told : Event) (c d : Core) (s t : Space) → steps.ShadowStepsTo most n told c s d t → told ≢ event.Done → n < most
stopped-less most n told c d s t to other =
    elim to.ends [
      | inl all ↦ absurd (other all.2)
      | inr (inl one) ↦ absurd (other one.2)
      | inr (inr stop) ↦ stop.0
    ]

-- an equal memory, with the same count
pub counted-as : (v u : Runner) → space_of u.mem ≡ space_of v.mem → u.counts.regions_most ≡ v.counts.regions_most → AreCounted v → AreCounted u
counted-as v u space most h =
    subst (λ (k : ℕ). slots_in_use (space_of u.mem).shared ≤ k) (sym most)
    (subst (λ (x : Space). slots_in_use x.shared ≤ v.counts.regions_most) (sym space) h)

-- the regions that a runner has counted are those of the run
counted-run : (v : Runner) (w : World) (r : Run) → Shows v w r → AreCounted v → slots_in_use (space_of v.mem).shared ≤ r.regions_most
counted-run v w r h counted = subst (λ (k : Counted). slots_in_use (space_of v.mem).shared ≤ k.regions_most) h.counts counted

module _ (v : Runner) (w : World) (r : Run) (a : Accepted w) (h : Shows v w r) (over : v.end ≡ None) (runs : v.state ≡ Running) where
  abbrev c : Core
  c = core_of v.shadow

  abbrev s : Space
  s = space_of v.mem

  on : r.end ≡ None
  on = still-none r.end (sym h.end ∙ over)

  module _ (most : ℕ) (counted : 1 < most → AreCounted v) where
    few : (n : ℕ) → n < most → 0 < n → slots_in_use s.shared ≤ r.regions_most
    few n less some = counted-run v w r h (counted (omega arith))

    passed : (n : ℕ) (d : Core) → n < most → steps.Passes c s n d → Stands w r a on n d s
    passed n d less passes = passes-Stands w r a on c s (shown-by v w r h (sym h.shadow.state_is ∙ runs)) n d (few n less) passes

    module _ (n : ℕ) (told : Event) (d : Core) (t : Space) (to : steps.ShadowStepsTo most n told c s d t) where
      last-word : 0 < most → told ≡ event.Done → LastWord n c s d t
      last-word some is =
          elim to.ends [
            | inl all ↦ (
                let it = passes-last to.passed c s to.at (omega (arith, all.0, all.1)) to.passes in
                subst (λ (k : ℕ). LastWord k c s d t) (sym all.1)
                (subst (λ (x : Space). LastWord to.passed c s d x) (sym all.4)
                (subst (λ (x : Core). LastWord to.passed c s x s) (sym all.3) it)))
            | inr (inl one) ↦ record { before = to.passed; one = one.1; at = to.at; passes = to.passes; spare = one.3.spare; step = one.3.step }
            | inr (inr other) ↦ absurd (other.2.other is)
          ]

      -- each of them completed
      pub done-leads :
          0 < most → n ≤ most → told ≡ event.Done
          → Leads w r n (word_counted (arrived w.image.layout (begun (idle_for (n - 1) (with_shadow r d t))))) d t
      done-leads some within is =
          let it = last-word some is in
          let e : it.before ≡ n - 1 = omega (arith, it.one) in
          let less : it.before < most = omega (arith, it.one, within) in
          subst (λ (k : ℕ). Leads w r n (word_counted (arrived w.image.layout (begun (idle_for k (with_shadow r d t))))) d t) e
          (subst (λ (k : ℕ). Leads w r k (word_counted (arrived w.image.layout (begun (idle_for it.before (with_shadow r d t))))) d t) (sym it.one)
          (done-Leads w r a on it.before it.at s (passed it.before it.at less it.passes) it.spare d t it.step))

      -- one told something else
      record Stopped : Type 0 where
        at : Core
        stands : Stands w r a on n at s
        spare : Held
        step : IsStep spare told at s d t

      stopped : told ≢ event.Done → Stopped
      stopped other =
          elim to.ends [
            | inl all ↦ absurd (other all.2)
            | inr (inl one) ↦ absurd (other one.2)
            | inr (inr stop) ↦ record {
              at = to.at;
              stands = subst (λ (k : ℕ). Stands w r a on k to.at s) (sym stop.1) (passed to.passed to.at (omega (arith, stop.0, stop.1)) to.passes);
              spare = stop.2.spare;
              step = stop.2.step;
            }
          ]

      abbrev parked_behind : Park → Run
      parked_behind cause = word_counted (parked (begun (idle_for n (with_shadow r d t))) cause)

      one-more : (q : Run) → Leads w r (suc n) q d t → Leads w r (n + 1) q d t
      one-more q leads = let e : suc n ≡ n + 1 = omega arith in subst (λ (k : ℕ). Leads w r k q d t) e leads

      pub park-leads : (cause : Park) → told ≡ event.Park cause → Leads w r (n + 1) (parked_behind cause) d t
      park-leads cause is =
          let it = stopped (λ e. cc) in
          let so : IsStep it.spare (event.Park cause) it.at s d t = subst (λ (e : Event). IsStep it.spare e it.at s d t) is it.step in
          one-more (parked_behind cause)
          (park-Leads w r a on n it.at s it.stands it.spare (event.Park cause) d t so cause (λ rd e. cc) refl
          (goes w r a on n it.at s it.stands it.spare (event.Park cause) d t so).leads)

      pub trap-leads : (trap : Trap) → told ≡ event.Trap trap → Leads w r (n + 1) (parked_behind park.Fault) d t
      trap-leads trap is =
          let it = stopped (λ e. cc) in
          let so : IsStep it.spare (event.Trap trap) it.at s d t = subst (λ (e : Event). IsStep it.spare e it.at s d t) is it.step in
          one-more (parked_behind park.Fault)
          (park-Leads w r a on n it.at s it.stands it.spare (event.Trap trap) d t so park.Fault (λ rd e. cc) refl
          (goes w r a on n it.at s it.stands it.spare (event.Trap trap) d t so).leads)

      module _ (nd : told ≢ event.Done) (np : (k : Park) → told ≢ event.Park k) (nt : (x : Trap) → told ≢ event.Trap x) where
        abbrev behind : Run
        behind = begun (run_from w r (shadow_moves n))

        left-by : (with_shadow behind d t ≡ behind) × (is_key_or_call (fetch_shadow w behind.shadow.pc) ≡ true)
        left-by = let it = stopped nd in left w behind d t told nd np nt (goes w r a on n it.at s it.stands it.spare told d t it.step).leads

        pub left-leads : Leads w r n (idle_for n (with_shadow r d t)) d t
        left-leads = let it = stopped nd in left-Leads w r a on n it.at s it.stands it.spare told d t it.step left-by.0

        pub left-stops : StopsShadow w (run_from w r (shadow_moves n))
        left-stops = inr (inr left-by.1)
