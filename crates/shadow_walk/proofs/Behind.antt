-- A walk behind an HCALL: where it begins, in the block of a call or in RESTART, and that it comes to the block behind the call.
use Rattle.std.proofs.Common.{◌≡◌, ℕ, zero, suc, ◌+◌, ◌-◌, ◌<◌, ◌⊎◌, inl, inr, Bool, true, false, ◌==◌, Some, refl, ◌∙◌, ap, sym, subst, arith}
use Rattle.std.proofs.lemmas.Bool.Decides.{nat_tests}
use Rattle.spec_base.specs.declared.layout.Layout.{Layout}
use Rattle.spec_base.specs.declared.note.ShadowState.TheVariants.{Running, Parked}
use Rattle.spec_base.specs.declared.park.Park.{Park}
use Rattle.spec_base.specs.declared.park.Park.TheVariants as park
use Rattle.rv_decode.specs.declared.instr.Instr.TheVariants.{Ecall, Hpark}
use Rattle.rv_model.specs.Registers.{Registers, reg, with_reg}
use Rattle.rv_model.specs.Space.{Space}
use Rattle.program_model.specs.PlainRun.{State}
use Rattle.code_model.specs.Blocks.{block, next_block}
use Rattle.code_model.specs.Places.{block_at}
use Rattle.run_model.specs.Run.{World, Run, Answer}
use Rattle.run_model.specs.ShadowMoves.{is_arrival, shadow_step, fetch_shadow}
use Rattle.run_laws.specs.OwnLaws.{Accepted}
use Rattle.own_laws.proofs.Reached.{false_true}
use Rattle.side_model.specs.Hart.{Regs, put}
use Rattle.side_model.specs.Places.{Restarting, InBlock, InHelper, address}
use Rattle.side_model.specs.Sees.{shade_of, HasRegs}
use Rattle.side_model.proofs.Fetching.{code-fetches}
use Rattle.side_model.proofs.Private.{priv_of, HasPriv-of}
use Rattle.side_model.proofs.Registers as low
use Rattle.side_model.proofs.Registers.{HasRegs-of, HasRegs-put}
use Rattle.rows_log.specs.RestartRows.{saved, RestartedRow, r49}
use Rattle.shadow_laws.proofs.ShadowNumbers.{Sized, stock_of, sized-of, of-sized}
use Rattle.shadow_laws.proofs.Sound.{At, bare, Target, target-of, instruction-is}
use Rattle.shadow_laws.proofs.TextBlocks.{InText, text}
use Rattle.hint_laws.proofs.Within.{goes_to, behind, answered, unboxing}
use Rattle.hart_mem.specs.Held.{Held}
use Rattle.hart_step.specs.Core.{Core}
use Rattle.hart_step.specs.declared.event.Event.{Event}
use Rattle.hart_step.specs.declared.event.Event.TheVariants as event
use Rattle.word_laws.specs.Shown.{ShowsIn, ShowsShadow}
use Rattle.shadow_walk.specs.Walks.{words_on}
use Rattle.shadow_walk.specs.Restarts as again
use Rattle.shadow_walk.specs.Restarts.{StandsAnswered, StandsRestarted, StandsOn, kept_x31, LeavesOwn, Returns, ReturnsAtOnce}
use Rattle.shadow_walk.specs.declared.walking.Walked.TheVariants as walked
use Rattle.shadow_walk.proofs.Told.{Tells}
use Rattle.shadow_walk.proofs.LogWords.{call-there}
use Rattle.shadow_walk.proofs.WalkRows.{within-some}
use Rattle.shadow_walk.proofs.WalkWords.{shown-register}
use Rattle.shadow_walk.proofs.Strides.{none-yet, Stepped}
use Rattle.shadow_walk.proofs.Onward.{Passing, StandsBehind, Passed, goes_on, comes, words-some, few-words, passes_on, onward, told, HaltsBy, halted, never-named, called}
use Rattle.shadow_walk.proofs.BackRows.{OnReturn, Returned, still, lands, returned}

-- ---- behind any call

-- where the shadow stands, with the registers that the row has
stands-on : (w : World) (y : Run) (to : ℕ) (g : Regs) (old : Registers) → HasRegs old g → StandsBehind w y to g → StandsOn w y to old
stands-on w y to g old has at =
    record {
      block = at.block;
      place = at.place;
      registers = λ i above few. shown-register y.shadow.registers old g at.registers has i above;
      tables = at.tables;
      has = at.has;
      ok = at.ok;
      sized = of-sized y at.sized;
    }

-- there is no call on the way
pub never-calls : (w : World) (a : Accepted w) {x : ℕ → Answer} {r : Run} {to : ℕ} {g : Regs} {most words : ℕ} {h : Held} {c : Core} {s : Space} {e : Event} {d : Core} {t : Space} (step : Stepped h c s e d t) (k : Passing w x r (goes_to to g) most words c s)
    → (unhinted : Bool) → e ≡ event.Call unhinted → ⊥
never-calls w a step k unhinted is = (called w a step k unhinted is).asks

-- ---- in the block of a call

-- the registers at the word behind the HCALL, of which x10 has the answer
abbrev answered_regs : Run → Regs
answered_regs r = put 10 (r.shadow.registers 10) (low.regs_of r.shadow.registers)

-- they are those of the run
has-answered : (r : Run) → HasRegs r.shadow.registers (answered_regs r)
has-answered r = record { at = λ n. same n (n == 10) refl ∙ (HasRegs-put rs (low.regs_of rs) 10 (rs 10) (HasRegs-of rs)).at n }
  where
    rs : Registers
    rs = r.shadow.registers

    by_test : (n : ℕ) (b : Bool) → (n == 10) ≡ b → rs n ≡ elim b [ true ↦ rs 10 | false ↦ rs n ]
    by_test n true e = let k : n ≡ 10 = grind (arith, nat_tests, e) in ap rs k
    by_test n false e = refl

    same : (n : ℕ) (b : Bool) → (n == 10) ≡ b → reg rs n ≡ reg (with_reg rs 10 (rs 10)) n
    same zero b e = refl
    same (suc n) b e = by_test (suc n) (suc n == 10) refl

-- a walk from there
abbrev pub Answered : World → (ℕ → Answer) → Run → ℕ → ℕ → Core → Space → Type 0
Answered w x r p words c s = Passing w x r (goes_to (p + 4) (answered_regs r)) 1 words c s

abbrev pub OnAnswered : Layout → Core → Space → ℕ → Core → Space → Type 0
OnAnswered l c s words d t = (w : World) (x : ℕ → Answer) (r : Run) (q : State) → Accepted w → l ≡ w.image.layout → ShowsShadow w r c s → StandsAnswered w r q → Answered w x r q.pc words d t

-- at the word behind the HCALL
pub begins_onward : (l : Layout) (c : Core) (s : Space) → OnAnswered l c s 1 c s
unfolding words_on
begins_onward l c s w x r q a same shows at =
    record {
      run = r;
      before = 0;
      number = refl;
      made = refl;
      left = 1;
      shows = shows;
      within =
          answered q.pc (r.shadow.registers 10) (low.regs_of r.shadow.registers) (instruction-is w a is)
          (record {
            code = is.code;
            point = record { place = InBlock 7; regs = answered_regs r; priv = priv_of r.shadow_page; tabs = at.tables };
            shown = record { pc = at.place; regs = has-answered r; priv = HasPriv-of r.shadow_page; tabs = at.has; shared = refl; running = shows.state };
            ok = at.ok;
            row = behind (priv_of r.shadow_page);
          });
      sized = sized-of r at.sized;
      kept = record { own = refl; files = refl };
      shared = refl;
      few = omega arith;
      none = none-yet w x r;
    }
  where
    is : InText w q.pc Ecall
    is = call-there w a q at.call

-- the word is no HPARK
no-park : {cause : Park} → Some (next_block 7) ≡ Some (Hpark cause) → ⊥
no-park e = cc

module _ (w : World) (a : Accepted w) {x : ℕ → Answer} {r : Run} {q : State} {words : ℕ} {h : Held} {c : Core} {s : Space} {e : Event} {d : Core} {t : Space} (step : Stepped h c s e d t) (at : StandsAnswered w r q) (k : Answered w x r q.pc words c s) where
  -- it is the first word
  is-first : k.run ≡ r
  unfolding words_on
  is-first =
      let none : k.before ≡ 0 = omega (arith, k.number, k.few, within-some k.within) in
      k.made ∙ ap (words_on w x r) none

  pub never-parked : (cause : Park) → e ≡ event.Park cause → ⊥
  never-parked cause is =
      let hpark : fetch_shadow w k.run.shadow.pc ≡ Some (Hpark cause) = subst (λ (e : Event). Tells e w k.run) is (told w a step k) in
      let there : fetch_shadow w (address (block_at w.image.layout q.pc) (InBlock 7)) ≡ Some (next_block 7) =
      (code-fetches w (block_at w.image.layout q.pc) (block w.image.layout q.pc Ecall) (InBlock 7) (next_block 7) (call-there w a q at.call).code refl).word in
      no-park (sym there ∙ ap (fetch_shadow w) (sym at.place) ∙ ap (λ (z : Run). fetch_shadow w z.shadow.pc) (sym is-first) ∙ hpark)

-- it comes to the block behind the call
pub arrives-at-once : {w : World} {x : ℕ → Answer} {r : Run} {to words : ℕ} {d : Core} {t : Space} → 0 < words → Passed w x r (goes_to to (answered_regs r)) 1 words d t → is_arrival w.image.layout d.pc ≡ true → ReturnsAtOnce w x r to d t (Some (walked.Arrived words))
arrives-at-once some (goes_on between k) e = false_true (sym between ∙ e)
arrives-at-once {w} {x} {r} {to} {words} {d} {t} some (comes there most none shows at kept shared) e =
    let one : words ≡ 1 = omega (arith, some, most) in
    record {
      arrives = ap (λ (n : ℕ). Some (walked.Arrived n)) one;
      shows = subst (λ (n : ℕ). ShowsShadow w (words_on w x r n) d t) one shows;
      stands = subst (λ (n : ℕ). StandsOn w (words_on w x r n) to r.shadow.registers) one (stands-on w (words_on w x r words) to (answered_regs r) r.shadow.registers (has-answered r) at);
      left = subst (λ (n : ℕ). LeavesOwn r (words_on w x r n)) one kept;
      shared = subst (λ (n : ℕ). (words_on w x r n).shared ≡ r.shared) one shared;
    }

-- ---- in RESTART

-- the registers there, of which x31 is in the private page
abbrev kept_regs : Run → Regs
kept_regs r = put 31 (kept_x31 r.shadow_page) (low.regs_of r.shadow.registers)

-- a walk from there
pub record Back (w : World) (x : ℕ → Answer) (r : Run) (site words : ℕ) (c : Core) (s : Space) : Type 0 where
  pub passing : Passing w x r (goes_to (site + 4) (kept_regs r)) 19 words c s
  pub returns : OnReturn w site (kept_regs r) (words_on w x r (words - 1))

abbrev pub OnBack : Layout → Core → Space → ℕ → Core → Space → Type 0
OnBack l c s words d t = (w : World) (x : ℕ → Answer) (r : Run) (site : ℕ) → Accepted w → l ≡ w.image.layout → ShowsShadow w r c s → StandsRestarted w r site → Back w x r site words d t

-- at the word behind the HCALL
pub begins_back : (l : Layout) (c : Core) (s : Space) → OnBack l c s 1 c s
unfolding words_on
begins_back l c s w x r site a same shows at =
    record {
      passing = record {
        run = r;
        before = 0;
        number = refl;
        made = refl;
        left = 19;
        shows = shows;
        within = unboxing site g target.base target.words at.is_site target.fits row;
        sized = sized-of r at.sized;
        kept = record { own = refl; files = refl };
        shared = refl;
        few = omega arith;
        none = none-yet w x r;
      };
      returns = record { base = target.base; words = target.words; is_site = at.is_site; fits = target.fits; left = 19; at = row };
    }
  where
    g : Regs
    g = kept_regs r

    target : Target w (site + 4) g
    target = target-of w a (site + 4) g (omega (arith, at.is_site.below, (text w a).below))

    row : At w target.base target.words (bare (RestartedRow w.image.layout site g)) (shade_of r) 19
    row = record {
      code = target.code;
      point = record { place = InHelper Restarting 48; regs = low.regs_of r.shadow.registers; priv = saved w.image.layout site g (priv_of r.shadow_page); tabs = at.tables };
      shown = record {
        pc = at.place;
        regs = HasRegs-of r.shadow.registers;
        priv = record { x31 = refl; x30 = refl; x29 = refl; x28 = refl; adr = at.behind; ret = refl; ent = refl; val = refl };
        tabs = at.has;
        shared = refl;
        running = shows.state;
      };
      ok = at.ok;
      row = inl (r49 (priv_of r.shadow_page));
    }

-- ---- each of its words

module _ (w : World) (a : Accepted w) {x : ℕ → Answer} {r : Run} {site words : ℕ} {h : Held} {c : Core} {s : Space} {e : Event} {d : Core} {t : Space} (step : Stepped h c s e d t) (k : Back w x r site words c s) where
  number : words ≡ suc (words - 1)
  number = omega (arith, k.passing.number)

  -- the run before the word
  abbrev before : Run
  before = words_on w x r (words - 1)

  made : shadow_step w (x (words - 1)) before ≡ words_on w x r words
  unfolding words_on
  made = ap (words_on w x r) (sym number)

  sized : Sized (stock_of before)
  sized = subst (λ (y : Run). Sized (stock_of y)) (k.passing.made ∙ ap (words_on w x r) (omega (arith, k.passing.number))) k.passing.sized

  next : (words_on w x r words).shadow.state ≡ Running → Returned w site (kept_regs r) (words_on w x r words)
  next runs =
      subst (λ (y : Run). Returned w site (kept_regs r) y) made
      (returned w a (x (words - 1)) before sized site (kept_regs r) k.returns (ap (λ (y : Run). y.shadow.state) made ∙ runs))

  -- it goes on
  pub goes-back : e ≡ event.Done → is_arrival w.image.layout d.pc ≡ false → Back w x r site (words + 1) d t
  goes-back is off = by_next (next running)
    where
      on : Passing w x r (goes_to (site + 4) (kept_regs r)) 19 (words + 1) d t
      on = passes_on (onward w a step k.passing is) off

      same : on.run ≡ words_on w x r words
      same = on.made ∙ ap (words_on w x r) (omega (arith, on.number))

      running : (words_on w x r words).shadow.state ≡ Running
      running = ap (λ (y : Run). y.shadow.state) (sym same) ∙ on.shows.state

      by_next : Returned w site (kept_regs r) (words_on w x r words) → Back w x r site (words + 1) d t
      by_next (still between returns) = record { passing = on; returns = subst (λ (n : ℕ). OnReturn w site (kept_regs r) (words_on w x r n)) (omega arith) returns }
      by_next (lands at inside) = false_true (sym off ∙ ap (is_arrival w.image.layout) (on.shows.pc ∙ ap (λ (y : Run). y.shadow.pc) same) ∙ at)

-- it comes to the block behind the site
pub arrives-back : (w : World) (a : Accepted w) {x : ℕ → Answer} {r : Run} {site words : ℕ} {h : Held} {c : Core} {s : Space} {e : Event} {d : Core} {t : Space} (step : Stepped h c s e d t) (k : Back w x r site words c s) → e ≡ event.Done
    → is_arrival w.image.layout d.pc ≡ true → Returns w x r (site + 4) (with_reg r.shadow.registers 31 (kept_x31 r.shadow_page)) 19 d t (Some (walked.Arrived words))
arrives-back w a {x} {r} {site} {words} {d = d} {t} step k is at_block = by_passed (onward w a step k.passing is)
  where
    rs : Registers
    rs = with_reg r.shadow.registers 31 (kept_x31 r.shadow_page)

    has : HasRegs rs (kept_regs r)
    has = HasRegs-put r.shadow.registers (low.regs_of r.shadow.registers) 31 (kept_x31 r.shadow_page) (HasRegs-of r.shadow.registers)

    inside : ShowsShadow w (words_on w x r words) d t → Returned w site (kept_regs r) (words_on w x r words) → site + 4 < w.image.layout.text_end
    inside shows (lands at less) = less
    inside shows (still between returns) = false_true (sym between ∙ ap (is_arrival w.image.layout) (sym shows.pc) ∙ at_block)

    by_passed : Passed w x r (goes_to (site + 4) (kept_regs r)) 19 words d t → Returns w x r (site + 4) rs 19 d t (Some (walked.Arrived words))
    by_passed (goes_on between k) = false_true (sym between ∙ at_block)
    by_passed (comes there most none shows at kept shared) =
        again.arrives words (words-some k.passing) most none shows (inside shows (next w a step k shows.state)) (stands-on w (words_on w x r words) (site + 4) (kept_regs r) rs has at) kept shared

-- or it is parked where that is the text's end
pub parks-back : (w : World) (a : Accepted w) {x : ℕ → Answer} {r : Run} {to words : ℕ} {h : Held} {c : Core} {s : Space} {e : Event} {d : Core} {t : Space} (step : Stepped h c s e d t) (k : Passing w x r (goes_to to (kept_regs r)) 19 words c s) (cause : Park) → e ≡ event.Park cause
    → Returns w x r to (with_reg r.shadow.registers 31 (kept_x31 r.shadow_page)) 19 d t (Some (walked.Parked cause words))
parks-back w a {x} {r} {to} {words} {d = d} {t} step k cause is = by_why f.1
  where
    rs : Registers
    rs = with_reg r.shadow.registers 31 (kept_x31 r.shadow_page)

    f : ShowsIn (Parked cause) w (words_on w x r words) d t × HaltsBy w.image.layout cause (goes_to to (kept_regs r))
    f = halted w a step k cause is

    by_why : ((cause ≡ park.Fault) × (to ≡ w.image.layout.text_end)) ⊎ ((cause ≡ park.Exit) ⊎ (cause ≡ park.Store)) → Returns w x r to rs 19 d t (Some (walked.Parked cause words))
    by_why (inl (fault, last)) =
        subst (λ (cause : Park). Returns w x r to rs 19 d t (Some (walked.Parked cause words))) (sym fault)
        (again.parks words (words-some k) (few-words k) k.none (subst (λ (cause : Park). ShowsIn (Parked cause) w (words_on w x r words) d t) fault f.0) last)
    by_why (inr other) = absurd (never-named w a step k cause is other)
