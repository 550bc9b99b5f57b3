-- In every run a running shadow stands at a row, the table and the list are consistent, and the words of the shadow are few.
use Rattle.std.proofs.Common.{◌≡◌, ℕ, zero, suc, ◌+◌, ◌-◌, ◌*◌, ◌/◌, ◌%◌, ◌≤◌, ◌<◌, inr, Bool, true, false, ◌&&◌, List, [], ◌∷◌, ◌++◌, slice_get, Option, Some, None, refl, ◌∙◌, ap, sym, subst, arith, ◌==◌, nat_le, nat_lt, length}
use Rattle.std.specs.Prelude.{◌≢◌}
use Rattle.std.proofs.lemmas.List.{length-map}
use Rattle.std.proofs.lemmas.Option.{slice_get_within}
use Rattle.std.proofs.lemmas.Bool.Decides.{nat_tests}
use Rattle.spec_base.specs.Word.{byte_of}
use Rattle.spec_base.specs.Layout.{list_start, shadow_start, helpers_start}
use Rattle.spec_base.specs.declared.layout.Layout.{Layout}
use Rattle.spec_base.specs.declared.machine.View.TheVariants.{Stub}
use Rattle.spec_base.specs.declared.note.ShadowState.{ShadowState}
use Rattle.spec_base.specs.declared.note.ShadowState.TheVariants.{Never, Running, Stopped, Parked}
use Rattle.spec_base.specs.declared.note.Move.{Move}
use Rattle.spec_base.specs.declared.note.Move.TheVariants.{O, S, T, D}
use Rattle.spec_base.specs.declared.spot.ReadSpot.{ReadSpot}
use Rattle.spec_base.specs.declared.machine.Trap.{Trap}
use Rattle.rv_decode.specs.declared.instr.Instr.{Instr}
use Rattle.rv_decode.specs.declared.instr.Instr.TheVariants.{Hkey, Hcall, Hpark}
use Rattle.rv_decode.specs.declared.instr.Instr.TheVariants.{Ecall}
use Rattle.rv_decode.specs.Instruction.{instr_of}
use Rattle.rv_model.specs.Memory.{Memory, zeros, loaded}
use Rattle.rv_model.specs.Rights.{in_private}
use Rattle.rv_model.specs.Effect.{Effect, Next, Stored, Trapped, Called, Gated, fetched}
use Rattle.rv_model.specs.Space.{program_byte}
use Rattle.program_model.specs.Cache.{in_flight}
use Rattle.program_model.specs.Calls.{CallPlan, Set, Look, Read, Write, Exit}
use Rattle.program_model.specs.PlainRun.{State, text_of, all_taken, at_word}
use Rattle.program_model.specs.PlainRun as plain
use Rattle.code_model.specs.Places.{block_at}
use Rattle.code_model.specs.Regions.{entry_address}
use Rattle.code_model.specs.Blocks.{block}
use Rattle.run_model.specs.Run.{World, Run, RunEnd, Answer, Usual, Took, Failed, Lost, opened_run, rewritten_words}
use Rattle.run_model.specs.OwnMoves.{own_step}
use Rattle.run_model.specs.ShadowMoves.{fetch_shadow, is_running, is_arrival, arrived_if, word_counted, shadow_plan, assumed, look_assumed, hint_given, fill_if, is_filled, shadow_gate, shadow_stores, shadow_after, shadow_at_word, shadow_in, shadow_step}
use Rattle.run_model.specs.Moves.{Moves, step, step_unless, begun, run, run_from, shadow_while}
use Rattle.run_laws.specs.OwnLaws.{Accepted, RegionsBounded}
use Rattle.run_laws.specs.HintLaws.{WordsBounded}
use Rattle.run_laws.specs.StubLaws.{LeavesLink, left, takes_head, is_stopped, RestartsFromBox, IsBoxed}
use Rattle.own_laws.proofs.HeldRuns.{stub_stops_first, restart_has_box}
use Rattle.own_laws.proofs.OneCall.{program_stub}
use Rattle.own_laws.proofs.OwnLaws.{own_side}
use Rattle.own_laws.proofs.OwnSide.{OwnSide, in_program, in_stub, at_call, waits, called, over, AtCall, placed}
use Rattle.own_laws.proofs.Reached.{none_some, false_true}
use Rattle.own_laws.proofs.Side.{side_of, Tally}
use Rattle.side_model.specs.Places.{InHelper, Restarting, HasBlock, IsInstruction}
use Rattle.side_model.specs.Sees.{shade_of}
use Rattle.code_model.specs.Tables.{Tabs, tabs_of, TableOk}
use Rattle.side_model.specs.Tables.{HasTabs}
use Rattle.side_model.proofs.Numbers.{TextFits}
use Rattle.side_model.proofs.Private.{priv_of, HasPriv-of}
use Rattle.side_model.proofs.Registers.{regs_of, HasRegs-of}
use Rattle.side_model.proofs.Tabling.{HasTabs-below, HasTabs-of, are-consistent}
use Rattle.side_model.specs.Hart.{Regs}
use Rattle.rows_log.specs.RestartRows.{HasBox, RestartRow}
use Rattle.rows_log.proofs.RestartWords.{restart_starts}
use Rattle.shadow_laws.proofs.OwnShades.{Watched, watched_of, with_shared, begun_anew, OwnShade, same, links, halts, begins, own-shade, fetch-shade}
use Rattle.shadow_laws.proofs.ShadowNumbers.{Sized, stock_of, run-sized}
use Rattle.shadow_laws.proofs.Sound.{CallRows, Starts, At, calling, Sound, restarting, Standing, stands, Target, target-of, Lands, goes, reaches, stopped_running, never_running, parked_running}
use Rattle.shadow_laws.proofs.Sound as landing
use Rattle.shadow_laws.proofs.SoundSteps.{sound-steps, sound-stays, landed, settles}
use Rattle.shadow_laws.proofs.SoundSteps.{next as step-to}
use Rattle.shadow_laws.proofs.AnyCalls.{AnyCallRow, b1, next-row, any_call-leads}
use Rattle.run_laws.specs.SoundLaws.{TablesAreConsistent}
use Rattle.shadow_laws.proofs.TextBlocks.{text}
use Rattle.own_laws.proofs.MoveLists.{run_from-snoc}
use Rattle.own_laws.proofs.InvisibleShadow.{shadow_effect}

-- ---- what a word counts

-- the counts of words, regions and arrivals
record Counts : Type 0 where
  words : ℕ
  regions : ℕ
  arrivals : ℕ

abbrev counts_of : Run → Counts
counts_of r = record { words = r.since.words; regions = r.since.regions; arrivals = r.since.shadow }

hint-counts : (unhinted : Bool) (spot : ReadSpot) (r : Run) → counts_of (hint_given unhinted spot r) ≡ counts_of r
hint-counts true spot r = refl
hint-counts false spot r = refl

fill_if-counts : (b : Bool) (w : World) (spot : ReadSpot) (a : ℕ) (r : Run) → counts_of (fill_if b w spot a r) ≡ counts_of r
fill_if-counts true w spot a r = refl
fill_if-counts false w spot a r = refl

look-counts : (w : World) (x : Answer) (r : Run) (name : List ℕ) → counts_of (look_assumed w x r name) ≡ counts_of r
look-counts w Failed r name = refl
look-counts w Usual r name = refl
look-counts w (Took k) r name = refl
look-counts w Lost r name = refl

assumed-counts : (w : World) (x : Answer) (r : Run) (unhinted : Bool) (c : CallPlan) → counts_of (assumed w x r unhinted c) ≡ counts_of r
assumed-counts w x r unhinted (Set f answer) = refl
assumed-counts w x r unhinted (Look name) = look-counts w x r name
assumed-counts w x r unhinted (Read d spot a) =
    let hint : Run = hint_given unhinted spot r in fill_if-counts (is_filled w hint spot a spot.count) w spot a hint ∙ hint-counts unhinted spot r
assumed-counts w x r unhinted (Write to_out a n) = refl
assumed-counts w x r unhinted (Exit code) = refl

gate-counts : (w : World) (x : Answer) (r : Run) (i : Instr) → counts_of (shadow_gate w x r i) ≡ counts_of r
gate-counts w x r (Hkey rd) = refl
gate-counts w x r (Hcall unhinted) = assumed-counts w x r unhinted (shadow_plan w r)
gate-counts w x r (Hpark cause) = refl
gate-counts w x r _ = refl

stores-counts : (b : Bool) (r : Run) (a width v : ℕ) → counts_of (shadow_stores b r a width v) ≡ counts_of r
stores-counts true r a width v = refl
stores-counts false r a width v = refl

after-counts : (w : World) (x : Answer) (r : Run) (e : Effect) → counts_of (shadow_after w x r e) ≡ counts_of r
after-counts w x r (Next rs pc) = refl
after-counts w x r (Stored a width v) = stores-counts (in_private a) r a width v
after-counts w x r (Trapped cause) = refl
after-counts w x r (Gated i) = gate-counts w x r i
after-counts w x r Called = refl

-- one word more is counted, and an arrival where the shadow runs at word 1 of a block
pub record Counted (w : World) (r next : Run) : Type 0 where
  pub words : next.since.words ≡ r.since.words + 1
  pub regions : next.since.regions ≡ r.since.regions
  pub most : r.since.shadow ≤ next.since.shadow
  pub arrives : next.shadow.state ≡ Running → is_arrival w.image.layout next.shadow.pc ≡ true → next.since.shadow ≡ r.since.shadow + 1

arrived-counted : (w : World) (r y : Run) (b : Bool) → counts_of y ≡ counts_of r → (is_running y.shadow.state && is_arrival w.image.layout y.shadow.pc) ≡ b → Counted w r (word_counted (arrived_if b y))
arrived-counted w r y true e f =
    record {
      words = ap (λ (c : Counts). c.words + 1) e;
      regions = ap (λ (c : Counts). c.regions) e;
      most = omega (arith, ap (λ (c : Counts). c.arrivals) e);
      arrives = λ s h. ap (λ (c : Counts). c.arrivals + 1) e;
    }
arrived-counted w r y false e f =
    record {
      words = ap (λ (c : Counts). c.words + 1) e;
      regions = ap (λ (c : Counts). c.regions) e;
      most = omega (arith, ap (λ (c : Counts). c.arrivals) e);
      arrives = λ s h. false_true (sym f ∙ both (is_arrival w.image.layout y.shadow.pc) s h);
    }
  where
    both : (b : Bool) → y.shadow.state ≡ Running → b ≡ true → (is_running y.shadow.state && b) ≡ true
    both b s h = ap (λ (z : ShadowState). is_running z && b) s ∙ h

word-counted : (w : World) (x : Answer) (r : Run) (o : Option Instr) → Counted w r (word_counted (shadow_at_word w x r o))
word-counted w x r None = record { words = refl; regions = refl; most = omega arith; arrives = λ s h. parked_running s }
word-counted w x r (Some i) =
    let e : Effect = shadow_effect w r i in
    arrived-counted w r (shadow_after w x r e) _ (after-counts w x r e) refl

pub running-counted : (w : World) (x : Answer) (r : Run) → r.shadow.state ≡ Running → Counted w r (shadow_step w x r)
running-counted w x r e = subst (λ s. Counted w r (shadow_in s w x r)) (sym e) (word-counted w x r (fetch_shadow w r.shadow.pc))

-- ---- what is so of the shadow

-- the rows of calls, whatever the hint log has
abbrev pub any_calls : World → CallRows
any_calls w p q place rs s t m n = AnyCallRow w.image.layout p q place rs s t n

-- it runs and stands at a row, or it doesn't run, and the table and the list are consistent. Its words are as few as its arrivals and the regions at the restart say
pub data Kept (w : World) (s : Watched) : Type 0 where
  runs : (n : ℕ) → Sound w (any_calls w) s.shade n → s.words + n ≤ 63 + 5 * s.regions + 228 * s.arrivals → Kept w s
  rests : (t : Tabs) → HasTabs w.image.layout s.shade.shared t → TableOk w.image.layout t → s.shade.hart.state ≢ Running → s.words ≤ 64 + 5 * s.regions + 228 * s.arrivals → Kept w s

-- consistent tables are all that a stopped shadow needs
pub record HasTables (w : World) (s : Watched) : Type 0 where
  pub tables : Tabs
  pub has : HasTabs w.image.layout s.shade.shared tables
  pub ok : TableOk w.image.layout tables
  pub few : s.words ≤ 64 + 5 * s.regions + 228 * s.arrivals

pub has-tables : (w : World) (s : Watched) → Kept w s → HasTables w s
has-tables w s (runs n h few) = let y : Standing w s.shade = stands w h in record { tables = y.tables; has = y.has; ok = y.ok; few = omega (arith, few) }
has-tables w s (rests t has ok still few) = record { tables = t; has = has; ok = ok; few = few }

-- what is loaded of no bytes is 0
pub zeros-loaded : (b n : ℕ) → loaded zeros b n ≡ 0
unfolding loaded
zeros-loaded b zero = refl
zeros-loaded b (suc n) = omega (arith, zeros-loaded (b + 1) n)

module _ (w : World) (a : Accepted w) where
  abbrev l : Layout
  l = w.image.layout

  -- ---- a word of the shadow

  -- word 1 of a block is an arrival
  pub block-arrives : (p : ℕ) → HasBlock l p → is_arrival l (block_at l p + 4) ≡ true
  block-arrives p b =
      let f : TextFits l = text w a in
      let lower : nat_lt (block_at l p + 4) helpers_start ≡ true = grind (arith, nat_tests, b.above, b.below, f.few) in
      let upper : nat_le shadow_start (block_at l p + 4) ≡ true = grind (arith, nat_tests) in
      let last : nat_le (block_at l p + 4) (shadow_start + 16 * (l.text_end - l.text_start) + 4) ≡ true = grind (arith, nat_tests, b.above, b.below) in
      let whole : (block_at l p + 4) % 64 ≡ 4 = omega (arith, b.whole) in
      let word : ((block_at l p + 4) % 64 == 4) ≡ true = grind (arith, nat_tests, whole) in
      rw (lower, upper, last, word) refl

  running-keeps : (x : Answer) (r : Run) → Sized (stock_of r) → (n : ℕ) → Sound w (any_calls w) (shade_of r) n → r.since.words + n ≤ 63 + 5 * r.since.regions + 228 * r.since.shadow → Kept w (watched_of (shadow_step w x r))
  running-keeps x r z n h few = by_landing (running-counted w x r (stands w h).running) (sound-steps w a x r z (any_calls w) any-start calls h)
    where
      next : Run
      next = shadow_step w x r

      any-start : Starts (any_calls w) (shade_of next)
      any-start p q s t e = b1 s

      calls : (p : ℕ) (q : Regs) → IsInstruction l p → At w (block_at l p) (block l p Ecall) (any_calls w p q) (shade_of r) n → Lands w (any_calls w) n (shade_of next)
      calls p q is at =
          settles w a x r z (any_calls w) any-start (λ s k row v ok. calling p q is (step-to w a x r z at s v ok (next-row l p q row)))
          (landed w a x r z at (any_call-leads l p q (program_byte l (rewritten_words w) r.own.memory) is r.shared at.ok at.row))

      by_landing : Counted w r next → Lands w (any_calls w) n (shade_of next) → Kept w (watched_of next)
      by_landing c (goes k less s) = runs k s (omega (arith, c.words, c.regions, c.most, less, few))
      by_landing c (reaches p b e k most s) =
          let one : next.since.shadow ≡ r.since.shadow + 1 = c.arrives (stands w s).running (ap (is_arrival l) e ∙ block-arrives p b) in
          runs k s (omega (arith, c.words, c.regions, one, most, few))
      by_landing c (landing.halts cause state t has ok) = rests t has ok (λ e. parked_running (sym state ∙ e)) (omega (arith, c.words, c.regions, c.most, few))

  -- a shadow that doesn't run does nothing
  pub resting-stays : (x : Answer) (r : Run) (s : ShadowState) → r.shadow.state ≡ s → r.shadow.state ≢ Running → shadow_in s w x r ≡ r
  resting-stays x r Running e n = absurd (n e)
  resting-stays x r Never e n = refl
  resting-stays x r Stopped e n = refl
  resting-stays x r (Parked cause) e n = refl

  shadow-keeps : (x : Answer) (r : Run) → Sized (stock_of r) → Kept w (watched_of r) → Kept w (watched_of (shadow_step w x r))
  shadow-keeps x r z (runs n h few) = running-keeps x r z n h few
  shadow-keeps x r z (rests t has ok still few) = subst (λ r. Kept w (watched_of r)) (sym (resting-stays x r r.shadow.state refl still)) (rests t has ok still few)

  while-keeps : (b : Bool) (x : Answer) (r : Run) → Sized (stock_of r) → Kept w (watched_of r) → Kept w (watched_of (shadow_while b w x r))
  while-keeps true x r z k = shadow-keeps x r z k
  while-keeps false x r z k = k

  -- ---- an own move

  -- a state that is about to call stands at an instruction of the text
  pub call-site : (q : State) → ((i : Instr) → fetched (text_of w.image) l.text_start q.pc ≡ Some i → IsInstruction l q.pc)
  call-site q i e = by_test (nat_le l.text_start q.pc && (q.pc % 4 == 0)) refl e
    where
      by_test : (b : Bool) → (nat_le l.text_start q.pc && (q.pc % 4 == 0)) ≡ b → elim b [ true ↦ slice_get (text_of w.image) ((q.pc - l.text_start) / 4) | false ↦ None ] ≡ Some i → IsInstruction l q.pc
      by_test true f e =
          let above : l.text_start ≤ q.pc = grind (arith, nat_tests, f) in
          let whole : q.pc % 4 ≡ 0 = grind (arith, nat_tests, f) in
          let f : TextFits l = text w a in
          let inside : (q.pc - l.text_start) / 4 < length (text_of w.image) = slice_get_within (text_of w.image) ((q.pc - l.text_start) / 4) i e in
          record { lawful = a.lawful; above = above; below = omega (arith, inside, length-map w.image.words instr_of, a.text, above, whole, f.start); whole = whole }
      by_test false f e = none_some e

  at-call : (t : Tally) (q : State) → AtCall w t q → IsInstruction l q.pc
  at-call t q g = by_word (fetched (text_of w.image) l.text_start q.pc) refl
    where
      by_word : (o : Option Instr) → fetched (text_of w.image) l.text_start q.pc ≡ o → IsInstruction l q.pc
      by_word (Some i) e = call-site q i e
      by_word None e = absurd (no (sym (ap (at_word w.image w.files all_taken q) e) ∙ g.calls all_taken))
        where
          no : {s : State} {cause : Trap} → plain.Traps cause ≡ plain.Went s → ⊥
          no e = cc

  -- a restart is made for a call
  pub gate-site : (x : Answer) (r : Run) → r.end ≡ None → OwnSide w (side_of r) → r.view ≡ Stub → (own_step w x r).restarts ≢ r.restarts → IsInstruction l r.at_gate.pc
  gate-site x r z (in_program t site gate s page h f is) v n = program_stub (sym (ap (λ p. p.view) is) ∙ v)
  gate-site x r z (in_stub t q k b c d page g row most is) v n = subst (λ (s : State). IsInstruction l s.pc) (sym (ap (λ p. p.gate) is)) (at-call t q g)
  gate-site x r z (at_call t q page g is) v n = subst (λ (s : State). IsInstruction l s.pc) (sym (ap (λ p. p.gate) is)) (at-call t q g)
  gate-site x r z (waits t q page g is) v n = subst (λ (s : State). IsInstruction l s.pc) (sym (ap (λ p. p.gate) is)) (at-call t q g)
  gate-site x r z (called t q s k page h f y e is) v n = absurd (placed w (λ r. (own_step w x r).restarts ≢ r.restarts → ⊥) r _ is (λ n. n refl) n)
  gate-site x r z (over s e h o) v n = none_some (sym z ∙ o.ended)

  -- the block behind the call of a restart
  pub restart-target : (r : Run) → IsInstruction l r.at_gate.pc → Target w (r.at_gate.pc + 4) (regs_of r.at_gate.registers)
  restart-target r is = target-of w a (r.at_gate.pc + 4) (regs_of r.at_gate.registers) (let f : TextFits l = text w a in omega (arith, is.below, f.below))

  -- the box that a state's call has filled
  pub has-box : (m : Memory) (s : State) → IsBoxed m s → HasBox m s.pc (regs_of s.registers)
  has-box m s boxed = record { holds = boxed.site; registers = λ i h. boxed.registers i h ∙ (HasRegs-of s.registers).at i }

  -- a shadow that is restarted stands at the first word of RESTART
  pub restart-at : (r : Run) (t : Tabs) → HasTabs l r.shared t → TableOk l t → HasBox r.shared r.at_gate.pc (regs_of r.at_gate.registers) → (target : Target w (r.at_gate.pc + 4) (regs_of r.at_gate.registers))
      → At w target.base target.words (λ place rs s t m k. RestartRow l r.at_gate.pc (regs_of r.at_gate.registers) place rs s t k × HasBox m r.at_gate.pc (regs_of r.at_gate.registers)) (begun_anew r).shade (63 + 5 * t.count)
  restart-at r t has ok box target =
      record {
        code = target.code;
        point = record { place = InHelper Restarting 0; regs = regs_of r.shadow.registers; priv = priv_of r.shadow_page; tabs = t };
        shown = record { pc = refl; regs = HasRegs-of r.shadow.registers; priv = HasPriv-of r.shadow_page; tabs = has; shared = refl; running = refl };
        ok = ok;
        row = (restart_starts l r.at_gate.pc (regs_of r.at_gate.registers) (regs_of r.shadow.registers) (priv_of r.shadow_page) t, box);
      }

  -- that is a row of a shadow
  pub restart-sound : (C : CallRows) (r next : Run) (t : Tabs) → HasTabs l r.shared t → TableOk l t → IsInstruction l r.at_gate.pc → RestartsFromBox r next → Sound w C (begun_anew r).shade (63 + 5 * t.count)
  restart-sound C r next t has ok is box =
      let q = regs_of r.at_gate.registers in
      let target : Target w (r.at_gate.pc + 4) q = restart-target r is in
      let filled : HasBox r.shared r.at_gate.pc q = subst (λ m. HasBox m r.at_gate.pc q) box.left (has-box next.shared r.at_gate box.boxed) in
      restarting r.at_gate.pc q target.base target.words is target.fits (restart-at r t has ok filled target)

  restarted-stands : (r next : Run) → HasTables w (watched_of r) → IsInstruction l r.at_gate.pc → RestartsFromBox r next → watched_of next ≡ begun_anew r → Kept w (watched_of next)
  restarted-stands r next y is box e =
      subst (λ s. Kept w s) (sym e) (runs (63 + 5 * y.tables.count) (restart-sound (any_calls w) r next y.tables y.has y.ok is box) (omega (arith, y.has.count)))

  -- the shadow runs on while the own hart takes pairs
  runs-on : (r next : Run) (n : ℕ) → Sound w (any_calls w) (shade_of r) n → r.since.words + n ≤ 63 + 5 * r.since.regions + 228 * r.since.shadow → LeavesLink r next → (m : Memory) → watched_of next ≡ with_shared r m → Kept w (watched_of next)
  runs-on r next n h few (left e) m is =
      subst (λ s. Kept w s) (sym is) (runs n (subst (λ m. Sound w (any_calls w) (record (shade_of r) { shared = m }) n) (sym e ∙ ap (λ (s : Watched). s.shade.shared) is) h) few)
  runs-on r next n h few (takes_head v e) m is =
      subst (λ s. Kept w s) (sym is) (runs n (subst (λ m. Sound w (any_calls w) (record (shade_of r) { shared = m }) n) (sym e ∙ ap (λ (s : Watched). s.shade.shared) is) (sound-stays w a (any_calls w) (shade_of r) n v (λ p q at. at.row) h)) few)
  runs-on r next n h few (is_stopped e) m is = stopped_running (sym e ∙ (stands w h).running)

  own-keeps : (r next : Run) → OwnShade r next → LeavesLink r next → (r.view ≡ Stub → next.restarts ≢ r.restarts → IsInstruction l r.at_gate.pc) → (next.restarts ≢ r.restarts → RestartsFromBox r next)
      → Kept w (watched_of r) → Kept w (watched_of next)
  own-keeps r next (same e) link site box k = subst (λ s. Kept w s) (sym e) k
  own-keeps r next (links b width v low e) link site box (runs n h few) = runs-on r next n h few link _ e
  own-keeps r next (links b width v low e) link site box (rests t has ok still few) =
      subst (λ s. Kept w s) (sym e) (rests t (HasTabs-below l (text w a).regions_few r.shared t has b width (byte_of v) low) ok still few)
  own-keeps r next (halts e) link site box k = let y : HasTables w (watched_of r) = has-tables w (watched_of r) k in subst (λ s. Kept w s) (sym e) (rests y.tables y.has y.ok (λ e. stopped_running e) y.few)
  own-keeps r next (begins v e) link site box k =
      let more : next.restarts ≡ r.restarts + 1 = ap (λ (s : Watched). s.restarts) e in
      let other : next.restarts ≢ r.restarts = λ f. absurd (omega (arith, more, f)) in
      restarted-stands r next (has-tables w (watched_of r) k) (site v other) (box other) e

  -- ---- each move

  move-keeps : (before : Moves) (m : Move × Answer) → Kept w (watched_of (run w before)) → Kept w (watched_of (step w (run w before) m))
  move-keeps before m k = by_end r.end refl m.0 refl
    where
      r : Run
      r = run w before

      x : Answer
      x = m.1

      own-moves : r.end ≡ None → Kept w (watched_of (step_unless None w r (O, x)))
      own-moves z =
          let next : Run = own_step w x (begun r) in
          let is : step w r (O, x) ≡ next = ap (λ e. step_unless e w r (O, x)) z in
          own-keeps r next (from-begun (own-shade w x (begun r))) (subst (λ y. LeavesLink r y) is (stub_stops_first w a before x)) (gate-site x (begun r) z (own_side w a before))
          (λ n. subst (λ y. RestartsFromBox r y) is (restart_has_box w a before x (λ e. n (sym (ap (λ (y : Run). y.restarts) is) ∙ e)))) k
        where
          from-begun : {y : Run} → OwnShade (begun r) y → OwnShade r y
          from-begun (same e) = same e
          from-begun (links b width v low e) = links b width v low e
          from-begun (halts e) = halts e
          from-begun (begins v e) = begins v e

      by_end : (e : Option RunEnd) → r.end ≡ e → (n : Move) → m.0 ≡ n → Kept w (watched_of (step_unless e w r (n, x)))
      by_end (Some y) z n f = k
      by_end None z O f = own-moves z
      by_end None z S f = shadow-keeps x (begun r) (run-sized w a before) k
      by_end None z T f = while-keeps r.stalled x (begun r) (run-sized w a before) k
      by_end None z D f = subst (λ s. Kept w s) (sym (fetch-shade w (in_flight r.cache) x (begun r))) k

  run_from-keeps : (ms before : Moves) (r : Run) → run w before ≡ r → Kept w (watched_of r) → Kept w (watched_of (run_from w r ms))
  unfolding run_from
  run_from-keeps [] before r e k = k
  run_from-keeps (m ∷ ms) before r e k =
      let one : run w (before ++ m ∷ []) ≡ step w r m = run_from-snoc w (opened_run w) before m ∙ ap (λ r. step w r m) e in
      run_from-keeps ms (before ++ m ∷ []) (step w r m) one
      (subst (λ r. Kept w (watched_of (step w r m))) e (move-keeps before m (subst (λ r. Kept w (watched_of r)) (sym e) k)))

  -- ---- the start

  pub none-used : TableOk l (tabs_of zeros)
  none-used =
      let none : loaded zeros list_start 8 ≡ 0 = zeros-loaded list_start 8 in
      record {
        count = omega (arith, none);
        listed = λ slot h. absurd (omega (arith, none, h));
        entry = λ x h some. absurd (omega (arith, zeros-loaded (entry_address x) 4, some));
      }

  start-kept : Kept w (watched_of (opened_run w))
  start-kept = rests (tabs_of zeros) (HasTabs-of l zeros) none-used (λ e. never_running e) (omega arith)

  -- in every run
  pub run-keeps : (ms : Moves) → Kept w (watched_of (run w ms))
  unfolding run_from
  run-keeps ms = run_from-keeps ms [] (opened_run w) refl start-kept

-- ---- the laws

-- the regions in use are at most the layout's
pub regions_bounded : RegionsBounded
regions_bounded w a ms = let y : HasTables w (watched_of (run w ms)) = has-tables w (watched_of (run w ms)) (run-keeps w a ms) in subst (λ n. n ≤ w.image.layout.regions) (sym y.has.count) y.ok.count

-- the table and the list are consistent
pub tables_consistent : TablesAreConsistent
tables_consistent w a ms = let y : HasTables w (watched_of (run w ms)) = has-tables w (watched_of (run w ms)) (run-keeps w a ms) in are-consistent y.has y.ok

-- the words of the shadow are few
pub words_bounded : WordsBounded
words_bounded w a ms some = let y : HasTables w (watched_of (run w ms)) = has-tables w (watched_of (run w ms)) (run-keeps w a ms) in inr (omega (arith, y.few))
