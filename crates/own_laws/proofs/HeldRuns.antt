-- In every run: what the stub has stored to the link stays there while it counts, and a restart finds it.
use Rattle.std.proofs.Common.{◌≡◌, ℕ, ◌+◌, ◌*◌, ◌⊎◌, inl, inr, true, false, [], ◌∷◌, Option, Some, None, refl, ◌∙◌, ap, sym, subst, arith}
use Rattle.spec_base.specs.declared.machine.View.{View}
use Rattle.spec_base.specs.declared.machine.View.TheVariants.{Program, Stub}
use Rattle.spec_base.specs.declared.note.ShadowState.{ShadowState}
use Rattle.spec_base.specs.declared.note.ShadowState.TheVariants.{Never, Running, Stopped}
use Rattle.spec_base.specs.declared.note.Move.{Move}
use Rattle.spec_base.specs.declared.note.Move.TheVariants.{O, S, T, D}
use Rattle.spec_base.specs.declared.spot.BlockSpot.{BlockSpot}
use Rattle.spec_base.specs.Files.{Files}
use Rattle.rv_decode.specs.declared.instr.Instr.{Instr}
use Rattle.rv_model.specs.Memory.{Memory}
use Rattle.rv_model.specs.Registers.{Registers}
use Rattle.rv_model.specs.Effect.{fetched, after}
use Rattle.program_model.specs.Calls.{CallPlan, Set, Look, Read, Write, Exit}
use Rattle.program_model.specs.Cache.{in_flight}
use Rattle.program_model.specs.PlainRun.{State, performed}
use Rattle.run_model.specs.Run.{World, Run, RunEnd, Answer, opened_run, rewritten_text}
use Rattle.run_model.specs.OwnMoves.{program_at, own_call_step, own_step}
use Rattle.run_model.specs.Moves.{Moves, step, step_unless, begun, silent, run, run_from, fetch_of}
use Rattle.run_laws.specs.OwnLaws.{Accepted, IsShadowMove}
use Rattle.run_laws.specs.StubLaws.{IsEmpty, IsBoxed, LeavesLink, left, takes_head, is_stopped, StubStopsFirst, RestartsFromBox, RestartHasBox}
use Rattle.own_laws.proofs.Held.{Level, free, halted, headless, emptied, boxing, level, Held, IsFree, free-held, LinkChange, same, head, stopped_first, HeldOn}
use Rattle.own_laws.proofs.InvisibleShadow.{shadow_move-keeps}
use Rattle.own_laws.proofs.OneCall.{program_stub}
use Rattle.own_laws.proofs.OwnLaws.{own_side}
use Rattle.own_laws.proofs.OwnSide.{OwnSide, call-place, in_program, in_stub, at_call, waits, called, over, plan, placed, step-goes}
use Rattle.own_laws.proofs.Passage.{Entered, own-enters, stopped-stays}
use Rattle.own_laws.proofs.Reached.{reached-fits, none_some}
use Rattle.own_laws.proofs.Stops.{stopped-before}
use Rattle.own_laws.proofs.Side.{Side, side_of, with_side, Tally, Kept}
use Rattle.own_laws.proofs.StubRows.{WordGoes, to_row, to_restarted, to_call, word_goes}
use Rattle.own_laws.proofs.StubWords.{stub_side}
use Rattle.own_laws.proofs.OwnSteps.{own_call-by, fetch_of-by, program_at-by}

-- ---- what is held in a run

-- what the stub needs of a run: where the own hart is, the link, and the shadow's state
pub record Place : Type 0 where
  pub gate : State
  pub view : View
  pub pc : ℕ
  pub shared : Memory
  pub state : ShadowState

abbrev pub place_of : Run → Place
place_of r = record { gate = r.at_gate; view = r.view; pc = r.own.pc; shared = r.shared; state = r.shadow.state }

-- the own hart is before a word of the stub
abbrev pub spot : ℕ → ℕ
spot k = 0x417F_FFFC + 4 * k

-- a place at which something is held
pub record IsHolding (p : Place) : Type 0 where
  pub word : ℕ
  pub view : p.view ≡ Stub
  pub pc : p.pc ≡ spot word
  pub held : IsFree (level word) → ⊥

-- at each word of the stub what the rows say is held, and a shadow is stopped at such a word alone
pub record HeldAt (p : Place) : Type 0 where
  pub by : (k : ℕ) → p.view ≡ Stub → p.pc ≡ spot k → Held p.gate (level k) p.shared p.state
  pub stopped : p.state ≡ Stopped → IsHolding p

-- a place at which nothing is held
pub record IsFreeAt (p : Place) : Type 0 where
  pub by : (k : ℕ) → p.view ≡ Stub → p.pc ≡ spot k → IsFree (level k)

-- the link, the shadow's state, and the restarts
record Link : Type 0 where
  shared : Memory
  state : ShadowState
  restarts : ℕ
  origin : Option State

abbrev link_of : Run → Link
link_of r = record { shared = r.shared; state = r.shadow.state; restarts = r.restarts; origin = r.since.origin }

-- ---- places

-- one place is one word
pub one-word : (k l : ℕ) → spot k ≡ spot l → k ≡ l
one-word k l e = omega (arith, e)

-- a word at which nothing is held
free_word : (p : Place) (l : ℕ) → IsFree (level l) → p.pc ≡ spot l → IsFreeAt p
free_word p l f at = record { by = λ k v e. subst (λ k. IsFree (level k)) (one-word l k (sym at ∙ e)) f }

-- in the program nothing is held
free_view : (p : Place) → p.view ≡ Program → IsFreeAt p
free_view p e = record { by = λ k v n. program_stub (sym e ∙ v) }

-- where nothing is held, the shadow isn't stopped
pub free-runs : (p : Place) → HeldAt p → IsFreeAt p → p.state ≡ Stopped → ⊥
free-runs p held f e = let y : IsHolding p = held.stopped e in y.held (f.by y.word y.view y.pc)

-- nor before such a word
pub word-runs : (p : Place) (k : ℕ) → HeldAt p → p.pc ≡ spot k → p.state ≡ Stopped → IsFree (level k) → ⊥
word-runs p k held at e f = let y : IsHolding p = held.stopped e in y.held (subst (λ k. IsFree (level k)) (one-word k y.word (sym at ∙ y.pc)) f)

-- nothing is held where it needn't be
free_held : (p : Place) → IsFreeAt p → (p.state ≡ Stopped → ⊥) → HeldAt p
free_held p f n = record { by = λ k v e. free-held p.gate (level k) p.shared p.state (f.by k v e); stopped = λ e. absurd (n e) }

-- the own hart is at word l
at_word : (r : Run) (q : State) (t : Tally) (l : ℕ) (rs : Registers) (page : Memory) → side_of r ≡ stub_side q t l rs page → Held q (level l) r.shared r.shadow.state
    → (r.shadow.state ≡ Stopped → IsFree (level l) → ⊥) → HeldAt (place_of r)
at_word r q t l rs page is h f =
    record {
      by = λ k v e.
          subst (λ k. Held r.at_gate (level k) r.shared r.shadow.state) (one-word l k (sym (ap (λ p. p.own.pc) is) ∙ e))
          (subst (λ g. Held g (level l) r.shared r.shadow.state) (sym (ap (λ p. p.gate) is)) h);
      stopped = λ e. record { word = l; view = ap (λ p. p.view) is; pc = ap (λ p. p.own.pc) is; held = f e };
    }

-- ---- an own move

-- it stays at its place, leads from where nothing is held to where nothing is, is a word of the stub, or restarts the shadow
pub data OwnWord (r next : Run) : Type 0 where
  at_place : place_of next ≡ place_of r → next.since.origin ≡ r.since.origin → OwnWord r next
  at_free : IsFreeAt (place_of r) → IsFreeAt (place_of next) → next.shared ≡ r.shared → next.since.origin ≡ r.since.origin → OwnWord r next
  at_words : (k l : ℕ) → r.own.pc ≡ spot k → next.own.pc ≡ spot l → next.view ≡ Stub → HeldOn r.at_gate k l r.shared next.shared r.shadow.state next.shadow.state
      → next.since.origin ≡ r.since.origin → OwnWord r next
  at_restart : Held r.at_gate (boxing 31) r.shared r.shadow.state → next.shared ≡ r.shared → next.since.origin ≡ Some r.at_gate → next.shadow.state ≡ Running → OwnWord r next

-- it keeps what is held, leaves the link but for its head or finds the shadow stopped, and restarts from a full box alone
record OwnHeld (r next : Run) : Type 0 where
  held : HeldAt (place_of next)
  change : LeavesLink r next
  restarts : (next.restarts ≡ r.restarts) ⊎ (Held r.at_gate (boxing 31) r.shared r.shadow.state × (next.shared ≡ r.shared))
  word : OwnWord r next

leaves : (r next : Run) → LinkChange r.shared next.shared r.shadow.state → LeavesLink r next
leaves r next (same e) = left e
leaves r next (head v e) = takes_head v e
leaves r next (stopped_first e) = is_stopped e

-- the link is left
link_left : (r next : Run) → link_of next ≡ link_of r → HeldAt (place_of next) → OwnWord r next → OwnHeld r next
link_left r next e h word = record { held = h; change = left (ap (λ l. l.shared) e); restarts = inl (ap (λ l. l.restarts) e); word = word }

-- from where nothing is held to where nothing is
free_left : (r next : Run) → link_of next ≡ link_of r → HeldAt (place_of r) → IsFreeAt (place_of r) → IsFreeAt (place_of next) → OwnHeld r next
free_left r next e h f g =
    link_left r next e (free_held (place_of next) g (λ s. free-runs (place_of r) h f (sym (ap (λ l. l.state) e) ∙ s)))
    (at_free f g (ap (λ l. l.shared) e) (ap (λ l. l.origin) e))

program_at-link : (w : World) (r : Run) (o : Option Instr) → link_of (program_at w r o) ≡ link_of r
program_at-link w r o = program_at-by w r (λ next. link_of next ≡ link_of r) (λ b. refl) (λ rs pc. refl) (λ a width v. refl) refl o

-- a call leaves the link, and its word or the next is the own hart's
record CallLeaves (r next : Run) : Type 0 where
  link : link_of next ≡ link_of r
  pc : (next.own.pc ≡ r.own.pc) ⊎ (next.own.pc ≡ after r.own.pc)

-- a performed call leads to the next word, or to none where it is an exit
performed-pc : (files : Files) (taken : ℕ) (c : CallPlan) (s : State) → ((performed files taken c s).pc ≡ s.pc) ⊎ ((performed files taken c s).pc ≡ after s.pc)
performed-pc files taken (Set f answer) s = inr refl
performed-pc files taken (Look name) s = inr refl
performed-pc files taken (Read d spot a) s = inr refl
performed-pc files taken (Write true a n) s = inr refl
performed-pc files taken (Write false a n) s = inr refl
performed-pc files taken (Exit code) s = inl refl

own_call_step-leaves : (w : World) (x : Answer) (r : Run) (c : CallPlan) → CallLeaves r (own_call_step w x r c)
own_call_step-leaves w x r c =
    own_call-by w r (CallLeaves r) x c (λ b. record { link = refl; pc = inl refl }) (λ taken whole b h. record { link = refl; pc = performed-pc w.files taken c r.own })

-- at the call
call-held : (r next : Run) → r.own.pc ≡ spot 26 → HeldAt (place_of r) → CallLeaves r next → OwnHeld r next
call-held r next at h l = free_left r next l.link h (free_word (place_of r) 26 tt at) (by_place l.pc)
  where
    by_place : (next.own.pc ≡ r.own.pc) ⊎ (next.own.pc ≡ after r.own.pc) → IsFreeAt (place_of next)
    by_place (inl e) = free_word (place_of next) 26 tt (e ∙ at)
    by_place (inr e) = free_word (place_of next) 27 tt (e ∙ ap after at)

-- at a word of the stub
word-held : (r next : Run) (q : State) (t : Tally) (k : ℕ) → r.at_gate ≡ q → r.restarts ≡ t.restarts → r.since.origin ≡ t.origin → r.own.pc ≡ spot k → HeldAt (place_of r)
    → Held q (level k) r.shared r.shadow.state → WordGoes q t k r.cache r.shared r.shadow.state next → OwnHeld r next
word-held r next q t k g n o at held h (to_row l x29 x30 x31 page row is less cache on) =
    record {
      held = at_word next q t l _ page is (on.held h) (λ e f. let y = on.lets_go f in word-runs (place_of r) k held at (sym y.1 ∙ e) y.0);
      change = leaves r next (on.change h);
      restarts = inl (ap (λ p. p.tally.restarts) is ∙ sym n);
      word = at_words k l at (ap (λ p. p.own.pc) is) (ap (λ p. p.view) is) (subst (λ g. HeldOn g k l r.shared next.shared r.shadow.state next.shadow.state) (sym g) on) (ap (λ p. p.tally.origin) is ∙ sym o);
    }
word-held r next q t k g n o at held h (to_restarted c page s is less cache full e runs) =
    record {
      held = free_held (place_of next) (free_word (place_of next) 71 tt (ap (λ p. p.own.pc) is)) (λ s. running_stopped (sym runs ∙ s));
      change = left e;
      restarts = inr (boxed, e);
      word = at_restart boxed e (ap (λ p. p.tally.origin) is ∙ ap Some (sym g)) runs;
    }
  where
    boxed : Held r.at_gate (boxing 31) r.shared r.shadow.state
    boxed = subst (λ g. Held g (boxing 31) r.shared r.shadow.state) (sym g) (full h)

    running_stopped : Running ≡ Stopped → ⊥
    running_stopped e = cc
word-held r next q t k g n o at held h (to_call page is less cache e f goes) =
    free_left r next
    (link_is e goes (ap (λ p. p.tally.restarts) is ∙ sym n) (ap (λ p. p.tally.origin) is ∙ sym o))
    held (free_word (place_of r) k f at) (free_word (place_of next) 26 tt (ap (λ p. p.own.pc) is))
  where
    link_is : next.shared ≡ r.shared → next.shadow.state ≡ r.shadow.state → next.restarts ≡ r.restarts → next.since.origin ≡ r.since.origin → link_of next ≡ link_of r
    link_is a b c d =
        ap (λ m. record (link_of next) { shared = m }) a
        ∙ ap (λ s. record (link_of next) { shared = r.shared; state = s }) b
        ∙ ap (λ n. record (link_of next) { shared = r.shared; state = r.shadow.state; restarts = n }) c
        ∙ ap (λ o. record (link_of r) { origin = o }) d

module _ (w : World) (accepted : Accepted w) where
  own-held : (x : Answer) (r : Run) → r.end ≡ None → OwnSide w (side_of r) → HeldAt (place_of r) → OwnHeld r (own_step w x r)
  own-held x r z (in_program t site gate s page h f is) held =
      free_left r (own_step w x r) link held (free_view (place_of r) (ap (λ p. p.view) is))
      (record {
        by = λ k v e.
            let y : Entered w r (own_step w x r) = own-enters w accepted x r (in_program t site gate s page h f is) (ap (λ p. p.view) is) z v in
            subst (λ k. IsFree (level k)) (one-word 1 k (sym (ap (λ p. p.own.pc) y.side) ∙ e)) tt;
      })
    where
      link : link_of (own_step w x r) ≡ link_of r
      link = placed w (λ r. link_of (own_step w x r) ≡ link_of r) r _ is (program_at-link w _ (fetched (rewritten_text w) w.image.layout.text_start s.pc))
  own-held x r z (in_stub t q k a b c page g row most is) held =
      placed w (λ r. HeldAt (place_of r) → OwnHeld r (own_step w x r)) r _ is
      (λ held. word-held _ _ q t k refl refl refl refl held (held.by k refl refl) (word_goes w x q t (reached-fits w accepted t q g.reached) (call-place w accepted t q g) r k a b c page row)) held
  own-held x r z (at_call t q page g is) held =
      placed w (λ r. HeldAt (place_of r) → OwnHeld r (own_step w x r)) r _ is (λ held. call-held _ _ refl held (own_call_step-leaves w x (with_side r (stub_side q t 26 q.registers page)) (plan w q))) held
  own-held x r z (waits t q page g is) held =
      placed w (λ r. HeldAt (place_of r) → OwnHeld r (own_step w x r)) r _ is (λ held. link_left _ _ refl held (at_place refl refl)) held
  own-held x r z (called t q s k page h f y n is) held =
      placed w (λ r. HeldAt (place_of r) → OwnHeld r (own_step w x r)) r _ is (λ held. free_left _ _ refl held (free_word _ 27 tt refl) (free_view _ refl)) held
  own-held x r z (over s e h o) held = none_some (sym z ∙ o.ended)

  -- ---- the other moves

  -- a fetch leaves it all
  fetch-place : (o : Option BlockSpot) (x : Answer) (r : Run) → place_of (fetch_of o w x r) ≡ place_of r
  fetch-place o x r = fetch_of-by w x r (λ next. place_of next ≡ place_of r) (λ b. refl) o

  -- a stopped shadow leaves what is held
  Held-stays : (q : State) (v : Level) (m m' : Memory) (s s' : ShadowState) → Held q v m s → (s ≡ Stopped → (m' ≡ m) × (s' ≡ Stopped)) → Held q v m' s'
  Held-stays q free m m' s s' h f = tt
  Held-stays q halted m m' s s' h f = (f h).1
  Held-stays q headless m m' s s' (h, e) f = subst (λ n. Held q headless n s') (sym (f h).0) ((f h).1, e)
  Held-stays q emptied m m' s s' (h, e) f = subst (λ n. Held q emptied n s') (sym (f h).0) ((f h).1, e)
  Held-stays q (boxing j) m m' s s' (h, e, b) f = subst (λ n. Held q (boxing j) n s') (sym (f h).0) ((f h).1, e, b)

  shadow-held : (m : Move) (x : Answer) (r : Run) → IsShadowMove m → HeldAt (place_of r) → HeldAt (place_of (step w r (m, x)))
  shadow-held m x r s held =
      record {
        by = λ k v e.
            subst (λ g. Held g (level k) next.shared next.shadow.state) (sym (ap (λ p. p.gate) is))
            (Held-stays r.at_gate (level k) r.shared next.shared r.shadow.state next.shadow.state
            (held.by k (sym (ap (λ p. p.view) is) ∙ v) (sym (ap (λ p. p.own.pc) is) ∙ e)) (stopped-stays w r m x s));
        stopped = λ e.
            let y : IsHolding (place_of r) = held.stopped (stopped-before w r m x s e) in
            record { word = y.word; view = ap (λ p. p.view) is ∙ y.view; pc = ap (λ p. p.own.pc) is ∙ y.pc; held = y.held };
      }
    where
      next : Run
      next = step w r (m, x)

      is : side_of next ≡ side_of r
      is = ap (λ (k : Kept). k.side) (shadow_move-keeps w r m x s)

  move-held : (m : Move) (x : Answer) (r : Run) (e : Option RunEnd) → r.end ≡ e → OwnSide w (side_of r) → HeldAt (place_of r) → HeldAt (place_of (step_unless e w r (m, x)))
  move-held m x r (Some e) z h held = held
  move-held O x r None z h held = (own-held x (begun r) z h held).held
  move-held D x r None z h held = subst (λ p. HeldAt p) (sym (fetch-place (in_flight r.cache) x (begun r))) held
  move-held S x r None z h held = subst (λ e. HeldAt (place_of (step_unless e w r (S, x)))) z (shadow-held S x r tt held)
  move-held T x r None z h held = subst (λ e. HeldAt (place_of (step_unless e w r (T, x)))) z (shadow-held T x r tt held)

  run_from-held : (ms : Moves) (r : Run) → OwnSide w (side_of r) → HeldAt (place_of r) → HeldAt (place_of (run_from w r ms))
  unfolding run_from
  run_from-held [] r h held = held
  run_from-held (m ∷ ms) r h held = run_from-held ms (step w r m) (step-goes w accepted r m.0 m.1 h) (move-held m.0 m.1 r r.end refl h held)

  -- in every run what the rows say is held
  pub run-held : (ms : Moves) → HeldAt (place_of (run w ms))
  unfolding run_from
  run-held ms = run_from-held ms (opened_run w) (own_side w accepted []) (free_held (place_of (opened_run w)) (free_view _ refl) never_stopped)
    where
      never_stopped : Never ≡ Stopped → ⊥
      never_stopped e = cc

  step-held : (x : Answer) (r : Run) (e : Option RunEnd) → r.end ≡ e → OwnSide w (side_of r) → HeldAt (place_of r) → OwnHeld r (step_unless e w r (O, x))
  step-held x r (Some e) z h held = link_left r (silent r) refl held (at_place refl refl)
  step-held x r None z h held =
      let y = own-held x (begun r) z h held in
      record { held = y.held; change = from_begun y.change; restarts = y.restarts; word = word_begun y.word }
    where
      from_begun : LeavesLink (begun r) (own_step w x (begun r)) → LeavesLink r (own_step w x (begun r))
      from_begun (left e) = left e
      from_begun (takes_head v e) = takes_head v e
      from_begun (is_stopped e) = is_stopped e

      word_begun : OwnWord (begun r) (own_step w x (begun r)) → OwnWord r (own_step w x (begun r))
      word_begun (at_place e o) = at_place e o
      word_begun (at_free f g e o) = at_free f g e o
      word_begun (at_words k l at to v on o) = at_words k l at to v on o
      word_begun (at_restart b e o runs) = at_restart b e o runs

  -- in every run an own move is so
  pub own-words : (ms : Moves) (x : Answer) → OwnWord (run w ms) (step w (run w ms) (O, x))
  own-words ms x = (step-held x (run w ms) (run w ms).end refl (own_side w accepted ms) (run-held ms)).word

  -- and a fetch leaves where all is
  pub fetch-places : (x : Answer) (r : Run) → place_of (step w r (D, x)) ≡ place_of r
  fetch-places x r = by_end r.end
    where
      by_end : (e : Option RunEnd) → place_of (step_unless e w r (D, x)) ≡ place_of r
      by_end (Some e) = refl
      by_end None = fetch-place (in_flight r.cache) x (begun r)

  -- ---- the other moves, of a shadow that is stopped

  abbrev placed_in : Side → Memory → ShadowState → Place
  placed_in p m s = record { gate = p.gate; view = p.view; pc = p.own.pc; shared = m; state = s }

  -- a move of the shadow that leaves it stopped leaves where all is
  pub stopped-place : (m : Move) (x : Answer) (r : Run) → IsShadowMove m → (step w r (m, x)).shadow.state ≡ Stopped → place_of (step w r (m, x)) ≡ place_of r
  stopped-place m x r s e =
      let next : Run = step w r (m, x) in
      let before : r.shadow.state ≡ Stopped = stopped-before w r m x s e in
      let stay : (next.shared ≡ r.shared) × (next.shadow.state ≡ Stopped) = stopped-stays w r m x s before in
      ap (λ p. placed_in p next.shared next.shadow.state) (ap (λ (k : Kept). k.side) (shadow_move-keeps w r m x s))
      ∙ ap (λ m. placed_in (side_of r) m next.shadow.state) stay.0
      ∙ ap (λ s. placed_in (side_of r) r.shared s) (stay.1 ∙ sym before)

-- ---- the laws

pub stub_stops_first : StubStopsFirst
stub_stops_first w a ms x = (step-held w a x (run w ms) (run w ms).end refl (own_side w a ms) (run-held w a ms)).change

pub restart_has_box : RestartHasBox
restart_has_box w a ms x changed = by_restart (step-held w a x r r.end refl (own_side w a ms) (run-held w a ms)).restarts
  where
    r : Run
    r = run w ms

    next : Run
    next = step w r (O, x)

    by_restart : (next.restarts ≡ r.restarts) ⊎ (Held r.at_gate (boxing 31) r.shared r.shadow.state × (next.shared ≡ r.shared)) → RestartsFromBox r next
    by_restart (inl e) = absurd (changed e)
    by_restart (inr ((s, e, b), m)) =
        record {
          stopped = s;
          left = m;
          empty = subst (λ m. IsEmpty m) (sym m) e;
          boxed = subst (λ m. IsBoxed m r.at_gate) (sym m) (record { site = b.site; registers = b.registers });
        }
