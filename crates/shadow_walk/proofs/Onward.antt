-- Each turn of a walk in RESTART, or behind an HCALL: a hart and a memory that show a run on its way there, and what the event of a step makes of them.
use Rattle.std.specs.Prelude.{⊤}
use Rattle.std.proofs.Common.{◌≡◌, ℕ, zero, suc, ◌+◌, ◌*◌, ◌-◌, ◌<◌, ◌≤◌, ◌⊎◌, inl, inr, Bool, true, false, Option, Some, None, refl, ◌∙◌, ap, sym, subst, arith}
use Rattle.spec_base.specs.declared.layout.Layout.{Layout}
use Rattle.spec_base.specs.declared.note.ShadowState.TheVariants.{Running, Parked}
use Rattle.spec_base.specs.declared.park.Park.{Park}
use Rattle.spec_base.specs.declared.park.Park.TheVariants as park
use Rattle.rv_decode.specs.declared.instr.Instr.{Instr}
use Rattle.rv_decode.specs.declared.instr.Instr.TheVariants.{Hkey, Hcall, Hpark}
use Rattle.rv_model.specs.Memory.{Memory}
use Rattle.rv_model.specs.Registers.{Registers, reg}
use Rattle.rv_model.specs.Space.{Space}
use Rattle.code_model.specs.Log.{boxed_site, boxed}
use Rattle.code_model.specs.Places.{block_at}
use Rattle.code_model.specs.Regions.{slots_in_use}
use Rattle.run_model.specs.Run.{World, Run, Answer}
use Rattle.run_model.specs.ShadowMoves.{is_arrival, is_call_word, shadow_step, fetch_shadow}
use Rattle.run_laws.specs.OwnLaws.{Accepted}
use Rattle.own_laws.proofs.Reached.{false_true}
use Rattle.side_model.specs.Hart.{Regs, get}
use Rattle.code_model.specs.Tables.{Tabs, TableOk}
use Rattle.side_model.specs.Tables.{HasTabs}
use Rattle.side_model.specs.Places.{Restarting, InHelper, address, HasBlock}
use Rattle.side_model.specs.Words.{Point}
use Rattle.side_model.specs.Sees.{shade_of, Sees, HasRegs}
use Rattle.run_laws.specs.Completes.{WordCompletes}
use Rattle.side_model.proofs.Private.{priv_of, HasPriv-of}
use Rattle.side_model.proofs.Registers as low
use Rattle.side_model.proofs.Registers.{HasRegs-of}
use Rattle.rows_log.specs.RestartRows.{HasBox}
use Rattle.rows_log.proofs.RestartWords.{restart_starts}
use Rattle.shadow_laws.proofs.ShadowNumbers.{Sized, stock_of, in-keeps, sized-of, of-sized}
use Rattle.shadow_laws.proofs.ShadowRuns.{block-arrives}
use Rattle.shadow_laws.proofs.Sound.{Target, target-of, parked_running}
use Rattle.shadow_laws.proofs.TextBlocks.{text}
use Rattle.hint_laws.proofs.Within.{Doing, does, ends, restarts, goes_to, Within, restarting, within-running}
use Rattle.hint_laws.proofs.WithinSteps as word
use Rattle.hint_laws.proofs.WithinSteps.{IsQuiet, Leaves, all, tables, copies, clears, Comes, flows, loads, stores, returns, Turns, asks, asks_again, Leads, goes, turns, reaches, halts, within-leads, flow_faults, load_faults, store_parks, call_parks, leaves_text, last_site, exits}
use Rattle.hint_laws.proofs.Followed.{program_in}
use Rattle.hint_laws.proofs.Spots.{inner-arrival, within-whole}
use Rattle.hint_laws.proofs.WordFacts.{word-leaves, word-hints_stay}
use Rattle.hint_laws.proofs.Going.{program-left}
use Rattle.hint_laws.proofs.ParkPlaces.{is_named, park-named}
use Rattle.hart_mem.specs.Held.{Held}
use Rattle.hart_step.specs.Core.{Core}
use Rattle.hart_step.specs.declared.event.Event.{Event}
use Rattle.hart_step.specs.declared.event.Event.TheVariants as event
use Rattle.word_laws.specs.Shown.{ShowsIn, ShowsShadow}
use Rattle.shadow_walk.specs.Shows.{AtKey, AtCall, MovesBy}
use Rattle.shadow_walk.specs.Walks.{NoneArrives, words_on}
use Rattle.shadow_walk.specs.Restarts as again
use Rattle.shadow_walk.specs.Restarts.{StandsAnew, IsUnboxed, LeavesOwn, Restarts}
use Rattle.shadow_walk.specs.declared.walking.Walked.TheVariants as walked
use Rattle.shadow_walk.proofs.Told.{Tells}
use Rattle.shadow_walk.proofs.WalkRows.{within-some, AsksIn, Unboxes, within-asks, within-completes}
use Rattle.shadow_walk.proofs.Strides.{none-yet, none-more, Stepped, IsStray, made-on, step-tells}

-- ---- on the way

-- no byte is known
abbrev pub unknown : ℕ → Option ℕ
unknown a = None

-- whether the shadow is in RESTART, or behind an HCALL
abbrev pub IsBeyond : Doing → Type 0
IsBeyond (does p i g) = ⊥
IsBeyond (ends g) = ⊥
IsBeyond (restarts site g) = ⊤
IsBeyond (goes_to to g) = ⊤

-- behind an HCALL what is shared stays
abbrev pub SharedAs : Doing → Memory → Memory → Type 0
SharedAs (does p i g) new old = ⊤
SharedAs (ends g) new old = ⊤
SharedAs (restarts site g) new old = ⊤
SharedAs (goes_to to g) new old = new ≡ old

shared-next : (f : Doing) (new mid old : Memory) → SharedAs f new mid → SharedAs f mid old → SharedAs f new old
shared-next (does p i g) new mid old a b = tt
shared-next (ends g) new mid old a b = tt
shared-next (restarts site g) new mid old a b = tt
shared-next (goes_to to g) new mid old a b = a ∙ b

-- as each word leaves it
shared-left : {l : Layout} {old new : Memory} {f : Doing} → Leaves l old new f → SharedAs f new old
shared-left {l} {old} {new} {f} (all same) = by_doing f
  where
    by_doing : (g : Doing) → SharedAs g new old
    by_doing (does p i g) = tt
    by_doing (ends g) = tt
    by_doing (restarts site g) = tt
    by_doing (goes_to to g) = same
shared-left (tables h) = tt
shared-left (copies h) = tt
shared-left clears = tt

-- hart and memory show a run on its way there, so many words behind the run r, and the next word is that of this number, counted from 1, of so many at most
pub record Passing (w : World) (x : ℕ → Answer) (r : Run) (f : Doing) (most words : ℕ) (c : Core) (s : Space) : Type 0 where
  pub run : Run
  pub before : ℕ
  pub number : words ≡ suc before
  pub made : run ≡ words_on w x r before
  pub left : ℕ
  pub shows : ShowsShadow w run c s
  pub within : Within w unknown (program_in w run) f (shade_of run) left
  pub sized : Sized (stock_of run)
  pub kept : LeavesOwn r run
  pub shared : SharedAs f run.shared r.shared
  pub few : words + left ≤ suc most
  pub none : NoneArrives w x r words

-- the words are counted from 1, and those that are left come to no more than all
pub words-some : {w : World} {x : ℕ → Answer} {r : Run} {f : Doing} {most words : ℕ} {c : Core} {s : Space} → Passing w x r f most words c s → 0 < words
words-some k = omega (arith, k.number)

pub few-words : {w : World} {x : ℕ → Answer} {r : Run} {f : Doing} {most words : ℕ} {c : Core} {s : Space} → Passing w x r f most words c s → words ≤ most
few-words k = omega (arith, k.few, within-some k.within)

-- ---- what a word leads to

-- the shadow stands at the block of an address, with these registers
pub record StandsBehind (w : World) (r : Run) (to : ℕ) (g : Regs) : Type 0 where
  pub block : HasBlock w.image.layout to
  pub place : r.shadow.pc ≡ block_at w.image.layout to + 4
  pub registers : HasRegs r.shadow.registers g
  pub tables : Tabs
  pub has : HasTabs w.image.layout r.shared tables
  pub ok : TableOk w.image.layout tables
  pub sized : Sized (stock_of r)

-- it comes to a block behind an HCALL alone
abbrev pub ComesTo : World → Run → Doing → Type 0
ComesTo w r (does p i g) = ⊤
ComesTo w r (ends g) = ⊤
ComesTo w r (restarts site g) = ⊥
ComesTo w r (goes_to to g) = StandsBehind w r to g

-- why it parks
abbrev pub HaltsBy : Layout → Park → Doing → Type 0
HaltsBy l cause (does p i g) = ⊤
HaltsBy l cause (ends g) = ⊤
HaltsBy l cause (restarts site g) = (cause ≡ park.Exit) ⊎ (cause ≡ park.Store)
HaltsBy l cause (goes_to to g) = ((cause ≡ park.Fault) × (to ≡ l.text_end)) ⊎ ((cause ≡ park.Exit) ⊎ (cause ≡ park.Store))

halts-by : {l : Layout} {m : Memory} {cause : Park} {f : Doing} → word.Stops l m cause f → HaltsBy l cause f
halts-by (flow_faults e) = tt
halts-by (load_faults e) = tt
halts-by (store_parks bytes t0 why then) = tt
halts-by (call_parks e) = tt
halts-by (leaves_text e) = tt
halts-by (last_site e to) = inl (e, to)
halts-by {l} {cause} {f} (exits e) = by_doing f
  where
    by_doing : (g : Doing) → HaltsBy l cause g
    by_doing (does p i g) = tt
    by_doing (ends g) = tt
    by_doing (restarts site g) = e
    by_doing (goes_to to g) = inr e

-- an HCALL is one
turns-call : {w : World} {r : Run} {to : ℕ} {new : Regs} {f : Doing} → Turns w r to new f → is_call_word (fetch_shadow w r.shadow.pc) ≡ true
turns-call (asks answer word place has to new) = ap is_call_word word
turns-call (asks_again answer rs t word has loaded tabs fresh to answers) = ap is_call_word word

-- ---- a step

-- behind a word the shadow is on its way still, or at a block
pub data Passed (w : World) (x : ℕ → Answer) (r : Run) (f : Doing) (most words : ℕ) (d : Core) (t : Space) : Type 0 where
  goes_on : is_arrival w.image.layout d.pc ≡ false → Passing w x r f most (words + 1) d t → Passed w x r f most words d t
  comes : is_arrival w.image.layout d.pc ≡ true → words ≤ most → NoneArrives w x r words → ShowsShadow w (words_on w x r words) d t → ComesTo w (words_on w x r words) f → LeavesOwn r (words_on w x r words) → SharedAs f (words_on w x r words).shared r.shared
      → Passed w x r f most words d t

-- on the way it is where the test of the pc says so
pub passes_on : {w : World} {x : ℕ → Answer} {r : Run} {f : Doing} {most words : ℕ} {d : Core} {t : Space} → Passed w x r f most words d t → is_arrival w.image.layout d.pc ≡ false → Passing w x r f most (words + 1) d t
passes_on (goes_on between k) e = k
passes_on (comes there most none shows at kept shared) e = false_true (sym e ∙ there)

module _ (w : World) (a : Accepted w) {x : ℕ → Answer} {r : Run} {f : Doing} {most words : ℕ} {h : Held} {c : Core} {s : Space} {e : Event} {d : Core} {t : Space} (step : Stepped h c s e d t) (k : Passing w x r f most words c s) where
  abbrev l : Layout
  l = w.image.layout

  abbrev y : Run
  y = k.run

  abbrev next : Run
  next = shadow_step w (x k.before) y

  runs : y.shadow.state ≡ Running
  runs = within-running k.within

  -- the word makes the next run
  made-next : next ≡ words_on w x r (suc k.before)
  made-next = made-on w x r k.before k.made

  made-words : next ≡ words_on w x r words
  made-words = made-next ∙ ap (words_on w x r) (sym k.number)

  -- what the event tells
  pub told : Tells e w y
  told = step-tells w a y step k.shows

  moved : MovesBy e w y c s d t
  moved = step.moves w y a k.shows

  -- the numbers stay in their bounds
  sized-next : Sized (stock_of next)
  sized-next = in-keeps w a.files y.shadow.state (x k.before) y k.sized

  leads : Leads w unknown (program_in w y) f k.left y (shade_of next)
  leads = within-leads w a (x k.before) y k.sized unknown (λ p rd rs1 op imm g same t has b. tt) k.within

  -- own side and descriptors stay
  kept-next : IsQuiet w y → LeavesOwn r next
  kept-next quiet = record { own = (word-leaves w (x k.before) y runs).own ∙ k.kept.own; files = (word-hints_stay w (x k.before) y runs quiet).files ∙ k.kept.files }

  -- what is shared at a block
  shared-there : {p : ℕ} {rs : Regs} {tabs : Tabs} {g : Doing} → Comes l unknown (program_in w y) y.shared p rs tabs next.shared g → SharedAs g next.shared y.shared
  shared-there (flows arrives same) = tt
  shared-there (loads arrives same) = tt
  shared-there (stores t0 arrives keeps) = tt
  shared-there (returns target regs same) = same

  -- a block that it comes to
  at-block : (p base : ℕ) (pt : Point) → HasBlock l p → address base pt.place ≡ block_at l p + 4 → TableOk l pt.tabs → Sees l base (shade_of next) pt next.shared → {g : Doing} → Comes l unknown (program_in w y) y.shared p pt.regs pt.tabs next.shared g → ComesTo w next g
  at-block p base pt block place ok shown (flows arrives same) = tt
  at-block p base pt block place ok shown (loads arrives same) = tt
  at-block p base pt block place ok shown (stores t0 arrives keeps) = tt
  at-block p base pt block place ok shown (returns {to} {q} target regs same) =
      record {
        block = subst (HasBlock l) target block;
        place = shown.pc ∙ place ∙ ap (λ (z : ℕ). block_at l z + 4) target;
        registers = subst (λ (g : Regs). HasRegs next.shadow.registers g) regs shown.regs;
        tables = pt.tabs;
        has = shown.tabs;
        ok = ok;
        sized = sized-next;
      }

  -- a word that isn't an HCALL, and behind which the shadow runs
  pub onward : e ≡ event.Done → Passed w x r f most words d t
  onward is = by_leads leads
    where
      quiet : IsQuiet w y
      quiet = subst (λ (e : Event). Tells e w y) is told

      shows : ShowsShadow w next d t
      shows = (subst (λ (e : Event). MovesBy e w y c s d t) is moved) (x k.before)

      by_leads : Leads w unknown (program_in w y) f k.left y (shade_of next) → Passed w x r f most words d t
      by_leads (goes j less within leaves place is) =
          goes_on (ap (is_arrival l) shows.pc ∙ inner-arrival w a (within-whole within) place)
          (record {
            run = next;
            before = suc k.before;
            number = ap (λ (n : ℕ). n + 1) k.number ∙ omega arith;
            made = made-next;
            left = j;
            shows = shows;
            within = subst (λ (m : Memory). Within w unknown m f (shade_of next) j) (sym (program-left w a (x k.before) y (word-leaves w (x k.before) y runs))) within;
            sized = sized-next;
            kept = kept-next quiet;
            shared = shared-next f next.shared y.shared r.shared (shared-left leaves) k.shared;
            few = omega (arith, k.few, less);
            none = none-more w x r words k.none (λ some. ap (λ (r : Run). is_arrival l r.shadow.pc) (sym made-words) ∙ inner-arrival w a (within-whole within) place);
          })
      by_leads (turns j less to new turn within place) = false_true (sym quiet ∙ turns-call turn)
      by_leads (reaches p base pt block place ok shown arrival is) =
          comes (ap (is_arrival l) (shows.pc ∙ shown.pc ∙ place) ∙ block-arrives w a p block) (few-words k) k.none (subst (λ (r : Run). ShowsShadow w r d t) made-words shows)
          (subst (λ (r : Run). ComesTo w r f) made-words (at-block p base pt block place ok shown arrival)) (subst (λ (z : Run). LeavesOwn r z) made-words (kept-next quiet))
          (subst (λ (z : Run). SharedAs f z.shared r.shared) made-words (shared-next f next.shared y.shared r.shared (shared-there arrival) k.shared))
      by_leads (halts cause state t has ok stops) = parked_running (sym state ∙ shows.state)

  -- an HPARK
  pub halted : (cause : Park) → e ≡ event.Park cause → ShowsIn (Parked cause) w (words_on w x r words) d t × HaltsBy l cause f
  halted cause is = (subst (λ (r : Run). ShowsIn (Parked cause) w r d t) made-words shows, by_leads leads)
    where
      hpark : fetch_shadow w y.shadow.pc ≡ Some (Hpark cause)
      hpark = subst (λ (e : Event). Tells e w y) is told

      shows : ShowsIn (Parked cause) w next d t
      shows = (subst (λ (e : Event). MovesBy e w y c s d t) is moved) (x k.before)

      by_leads : Leads w unknown (program_in w y) f k.left y (shade_of next) → HaltsBy l cause f
      by_leads (goes j less within leaves place quiet) = parked_running (sym shows.state ∙ within-running within)
      by_leads (turns j less to new turn within place) = parked_running (sym shows.state ∙ within-running within)
      by_leads (reaches p base pt block place ok shown arrival quiet) = parked_running (sym shows.state ∙ shown.running)
      by_leads (halts other state t has ok stops) = let same : other ≡ cause = let f : Parked other ≡ Parked cause = sym state ∙ shows.state in cc in subst (λ (cause : Park). HaltsBy l cause f) same (halts-by stops)

  -- a park of one of these causes is none
  pub never-named : (cause : Park) → e ≡ event.Park cause → (cause ≡ park.Exit) ⊎ (cause ≡ park.Store) → ⊥
  never-named cause is why = by_why why
    where
      named : is_named (Hpark cause) ≡ true
      named = park-named w y.shadow.pc (Hpark cause) (subst (λ (e : Event). Tells e w y) is told)

      by_why : (cause ≡ park.Exit) ⊎ (cause ≡ park.Store) → ⊥
      by_why (inl f) = false_true (ap (λ (cause : Park). is_named (Hpark cause)) (sym f) ∙ named)
      by_why (inr f) = false_true (ap (λ (cause : Park). is_named (Hpark cause)) (sym f) ∙ named)

  -- no key is asked for
  pub keyless : (rd : ℕ) → e ≡ event.Key rd → IsBeyond f → ⊥
  keyless rd is beyond = by_doing f beyond (within-asks w y (Hkey rd) at.word refl k.within)
    where
      at : AtKey rd w y c s d t
      at = subst (λ (e : Event). MovesBy e w y c s d t) is moved

      by_doing : (g : Doing) → IsBeyond g → AsksIn l (Hkey rd) y g → ⊥
      by_doing (does p i g) b z = b
      by_doing (ends g) b z = b
      by_doing (restarts site g) b z = let f : Hkey rd ≡ Hcall true = z.unhinted in absurd cc
      by_doing (goes_to to g) b z = z

  -- what an HCALL is made with, and the run that is shown then
  pub record Called (unhinted : Bool) : Type 0 where
    pub number : words - 1 ≡ k.before
    pub shows : ShowsShadow w (words_on w x r (words - 1)) d t
    pub word : fetch_shadow w (words_on w x r (words - 1)).shadow.pc ≡ Some (Hcall unhinted)
    pub asks : AsksIn l (Hcall unhinted) (words_on w x r (words - 1)) f
    pub sized : Sized (stock_of (words_on w x r (words - 1)))
    pub kept : LeavesOwn r (words_on w x r (words - 1))
    pub none : NoneArrives w x r (words - 1 + 1)

  pub called : (unhinted : Bool) → e ≡ event.Call unhinted → Called unhinted
  called unhinted is =
      record {
        number = same;
        shows = subst (λ (r : Run). ShowsShadow w r d t) made-before shown;
        word = subst (λ (r : Run). fetch_shadow w r.shadow.pc ≡ Some (Hcall unhinted)) made-before at.word;
        asks = subst (λ (r : Run). AsksIn l (Hcall unhinted) r f) made-before (within-asks w y (Hcall unhinted) at.word refl k.within);
        sized = subst (λ (r : Run). Sized (stock_of r)) made-before k.sized;
        kept = subst (λ (z : Run). LeavesOwn r z) made-before k.kept;
        none = subst (NoneArrives w x r) (omega (arith, k.number)) k.none;
      }
    where
      at : AtCall unhinted w y c s d t
      at = subst (λ (e : Event). MovesBy e w y c s d t) is moved

      same : words - 1 ≡ k.before
      same = omega (arith, k.number)

      made-before : y ≡ words_on w x r (words - 1)
      made-before = k.made ∙ ap (words_on w x r) (sym same)

      shown : ShowsShadow w y d t
      shown = subst (λ (c : Core). ShowsShadow w y c t) (sym at.hart) (subst (λ (s : Space). ShowsShadow w y c s) (sym at.memory) k.shows)

  -- no other event comes
  pub strays : (f : Event) → e ≡ f → IsStray f → ⊥
  strays (event.Trap trap) is stray =
      let never : WordCompletes w y → ⊥ = subst (λ (e : Event). Tells e w y) is told in
      never (within-completes w a y k.sized unknown (λ p rd rs1 op imm g same t has b. tt) k.within)
  strays event.Done is stray = stray
  strays (event.Key rd) is stray = stray
  strays (event.Park cause) is stray = stray
  strays (event.Call unhinted) is stray = stray
  strays f is stray = subst (λ (e : Event). MovesBy e w y c s d t) is moved

-- ---- a restart

-- the registers of the box
abbrev boxed_in : Run → Regs
boxed_in r = low.regs_of (boxed r.shared)

-- a walk in RESTART, with the box of the run r
abbrev pub Anew : World → (ℕ → Answer) → Run → ℕ → Core → Space → Type 0
Anew w x r words c s = Passing w x r (restarts (boxed_site r.shared) (boxed_in r)) (63 + 5 * slots_in_use r.shared) words c s

-- so it is in each run that they showed at RESTART's first word
abbrev pub OnAnew : Layout → Core → Space → ℕ → Core → Space → Type 0
OnAnew l c s words d t = (w : World) (x : ℕ → Answer) (r : Run) → Accepted w → l ≡ w.image.layout → ShowsShadow w r c s → StandsAnew w r → Anew w x r words d t

-- a register of the box
boxed-register : (link : Memory) (i : ℕ) → boxed link i ≡ get i (low.regs_of (boxed link))
boxed-register link i = by_number i ∙ (HasRegs-of (boxed link)).at i
  where
    by_number : (i : ℕ) → boxed link i ≡ reg (boxed link) i
    by_number zero = refl
    by_number (suc i) = refl

-- at the first word
pub begins_anew : (l : Layout) (c : Core) (s : Space) → OnAnew l c s 1 c s
unfolding words_on
begins_anew l c s w x r a same shows at =
    record {
      run = r;
      before = 0;
      number = refl;
      made = refl;
      left = 63 + 5 * slots_in_use r.shared;
      shows = shows;
      within = subst (λ (n : ℕ). Within w unknown (program_in w r) (restarts site g) (shade_of r) (63 + 5 * n)) (sym at.has.count) within;
      sized = sized-of r at.sized;
      kept = record { own = refl; files = refl };
      shared = tt;
      few = omega arith;
      none = none-yet w x r;
    }
  where
    site : ℕ
    site = boxed_site r.shared

    g : Regs
    g = boxed_in r

    target : Target w (site + 4) g
    target = target-of w a (site + 4) g (omega (arith, at.site.below, (text w a).below))

    box : HasBox r.shared site g
    box = record { holds = refl; registers = λ i few. boxed-register r.shared i }

    within : Within w unknown (program_in w r) (restarts site g) (shade_of r) (63 + 5 * at.tables.count)
    within =
        restarting site g target.base target.words at.site target.fits
        (record {
          code = target.code;
          point = record { place = InHelper Restarting 0; regs = low.regs_of r.shadow.registers; priv = priv_of r.shadow_page; tabs = at.tables };
          shown = record { pc = at.place; regs = HasRegs-of r.shadow.registers; priv = HasPriv-of r.shadow_page; tabs = at.has; shared = refl; running = shows.state };
          ok = at.ok;
          row = (restart_starts w.image.layout site g (low.regs_of r.shadow.registers) (priv_of r.shadow_page) at.tables, box);
        })

-- a register above 0 reads as it is
pub read-register : (rs : Registers) (i : ℕ) → 0 < i → rs i ≡ reg rs i
read-register rs zero above = absurd (omega (arith, above))
read-register rs (suc i) above = refl

-- what the HCALL finds
unboxed : (w : World) (link : Memory) (y : Run) (word : Instr) → Sized (stock_of y) → Unboxes w.image.layout (boxed_site link) (low.regs_of (boxed link)) word y → IsUnboxed w link y
unboxed w link y word z u =
    record {
      registers = λ i above few. read-register y.shadow.registers i above ∙ u.registers i (omega (arith, few)) ∙ sym (boxed-register link i);
      last = u.x31;
      site = u.adr;
      slots = u.has.count ∙ u.fresh.count;
      entries = λ region inside. u.has.entry region inside ∙ u.fresh.entries region inside;
      sized = of-sized y z;
    }

module _ (w : World) (a : Accepted w) {x : ℕ → Answer} {r : Run} {words : ℕ} {h : Held} {c : Core} {s : Space} {e : Event} {d : Core} {t : Space} (step : Stepped h c s e d t) (k : Anew w x r words c s) where
  -- it isn't parked
  pub never-parks : (cause : Park) → e ≡ event.Park cause → ⊥
  never-parks cause is = never-named w a step k cause is (halted w a step k cause is).1

  -- nor does it come to a block
  pub never-comes : Passed w x r (restarts (boxed_site r.shared) (boxed_in r)) (63 + 5 * slots_in_use r.shared) words d t → is_arrival w.image.layout d.pc ≡ true → ⊥
  never-comes (goes_on between k) e = false_true (sym between ∙ e)
  never-comes (comes there most none shows at kept shared) e = at

  -- it makes its call
  pub calls-anew : (unhinted : Bool) → e ≡ event.Call unhinted → Restarts w x r d t (Some (walked.Call unhinted (words - 1)))
  calls-anew unhinted is =
      let f : Called w a step k unhinted = called w a step k unhinted is in
      let true_is : true ≡ unhinted = let g : Hcall unhinted ≡ Hcall true = f.asks.unhinted in cc in
      subst (λ (b : Bool). Restarts w x r d t (Some (walked.Call b (words - 1)))) true_is
      (again.calls (words - 1) (omega (arith, few-words k)) f.none f.shows (f.word ∙ ap (λ (b : Bool). Some (Hcall b)) (sym true_is)) (unboxed w r.shared _ (Hcall unhinted) f.sized f.asks) f.kept)

-- there are never more words than a walk has
pub anew-few : (w : World) (a : Accepted w) {x : ℕ → Answer} {r : Run} {words : ℕ} {c : Core} {s : Space} → StandsAnew w r → Anew w x r words c s → words ≤ 63 + 5 * 65_536
anew-few w a at k = omega (arith, few-words k, at.has.count, at.ok.count, (text w a).regions_few)
