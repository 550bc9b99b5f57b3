-- A shadow that follows its run goes on following it at each own move and at each fetch, and follows anew from a restart on.
use Rattle.std.proofs.Common.{◌≡◌, ℕ, ◌+◌, ◌<◌, ◌≤◌, ◌⊎◌, inl, inr, Bool, ◌&&◌, [], ◌∷◌, ◌++◌, Option, Some, None, refl, ◌∙◌, ap, sym, subst, arith}
use Rattle.std.specs.Prelude.{IsTrue}
use Rattle.std.specs.Option.{option_and_then}
use Rattle.std.proofs.lemmas.Bool.Decides.{nat_tests}
use Rattle.spec_base.specs.Word.{byte_of}
use Rattle.spec_base.specs.Layout.{link_start}
use Rattle.spec_base.specs.declared.note.Move.TheVariants.{O, D}
use Rattle.spec_base.specs.declared.note.ShadowState.TheVariants.{Running, Stopped}
use Rattle.spec_base.specs.declared.spot.BlockSpot.{BlockSpot}
use Rattle.rv_model.specs.Memory.{Memory}
use Rattle.program_model.specs.Cache.{in_flight}
use Rattle.program_model.specs.PlainRun.{State, state_after, all_taken}
use Rattle.run_model.specs.Run.{World, Run, RunEnd, Since, Answer, opened_run}
use Rattle.run_model.specs.OwnMoves.{stays_behind, counted, own_step}
use Rattle.run_model.specs.Moves.{Moves, begun, silent, step, step_unless, run, fetch_of}
use Rattle.run_laws.specs.OwnLaws.{Accepted, OwnIs}
use Rattle.run_model.specs.Restarts.{from_restart}
use Rattle.run_model.specs.Marks.{before_use}
use Rattle.run_laws.specs.HintLaws.{IsFollowing}
use Rattle.run_laws.specs.StubLaws.{LeavesLink, left, takes_head, is_stopped}
use Rattle.own_laws.proofs.HeldRuns.{stub_stops_first}
use Rattle.own_laws.proofs.OwnLaws.{own_follows}
use Rattle.own_laws.proofs.Reached.{none_some}
use Rattle.side_model.specs.Sees.{Shade, shade_of}
use Rattle.rows_access.proofs.Copies.{patch-outside}
use Rattle.shadow_laws.proofs.AnyCalls.{LeavesTables}
use Rattle.shadow_laws.proofs.OwnShades.{Watched, watched_of, OwnShade, same, links, halts, begins, own-shade, fetch-shade}
use Rattle.shadow_laws.proofs.Sound.{stopped_running}
use Rattle.shadow_laws.proofs.SoundSteps.{LeavesBehindHead}
use Rattle.mark_laws.specs.Settled.{IsCovered}
use Rattle.mark_laws.proofs.Horizons.{and_left, and_right}
use Rattle.mark_laws.proofs.OwnChanges.{own_changes_are_covered}
use Rattle.hint_laws.proofs.Followed.{Followed}
use Rattle.hint_laws.proofs.OwnFollowed.{Carries, covered}
use Rattle.hint_laws.proofs.OwnSince.{OwnSince, rests, counts, anew, own-since}
use Rattle.hint_laws.proofs.Restarting.{begins-anew}
use Rattle.hint_laws.proofs.Transport.{same-use}
use Rattle.hint_laws.proofs.Halts.{stopped}
use Rattle.hint_laws.proofs.Followed as followed
use Rattle.own_laws.proofs.MoveLists.{run_from-snoc}
use Rattle.own_laws.proofs.OwnSteps.{fetch_of-by}

-- the shadow follows its run, while it is to: there was a restart, the own hart hasn't been past the shadow since, each put was whole, and no use has come by the shadow's last instruction
abbrev pub IsFollowed : World → Run → Type 0
IsFollowed w r = IsFollowing r → IsTrue (before_use w r r.since.shadow) → Followed w r

-- what is counted since the restart of the shadow, the restart itself, and the filled reads
record SameSince (r y : Run) : Type 0 where
  origin : y.since.origin ≡ r.since.origin
  filled : y.since.filled ≡ r.since.filled
  count : y.since.shadow ≡ r.since.shadow
  hints : y.since.hints ≡ r.since.hints

-- one state at most
one-state : (o : Option State) (p q : State) → o ≡ Some p → o ≡ Some q → p ≡ q
one-state (Some s) p q e f = cc
one-state None p q e f = none_some e

-- a count that stays behind
behind-count : (n own shadow : ℕ) → 0 < n → IsTrue (stays_behind n own shadow) → own ≤ shadow
behind-count n own shadow some h = grind (arith, nat_tests)

-- the own hart's memory, the counts since the restart, and the restarts
pub record Counted : Type 0 where
  pub memory : Memory
  pub since : Since
  pub restarts : ℕ

-- those of a run
abbrev pub counted_of : Run → Counted
counted_of r = record { memory = r.own.memory; since = r.since; restarts = r.restarts }

module _ (w : World) (r y : Run) where
  -- a use that hasn't come had not come before
  unused-before : SameSince r y → IsTrue (before_use w y y.since.shadow) → IsTrue (before_use w r r.since.shadow)
  unused-before s unused =
      subst (λ b. IsTrue b) (same-use w r y s.origin s.filled r.since.shadow)
      (subst (λ n. IsTrue (before_use w y n)) s.count unused)

  -- a run with the same counts and the same shadow is followed as well
  pub counted-followed : counted_of y ≡ counted_of r → shade_of y ≡ shade_of r → IsFollowed w r → IsFollowed w y
  counted-followed e shade k is unused =
      covered w r y
      (record {
        origin = s.origin;
        filled = s.filled;
        count = s.count;
        hints = s.hints;
        shadow = ap (λ (h : Shade). h.hart) shade;
        page = ap (λ (h : Shade). h.page) shade;
        memory = λ i h b. inl (ap (λ (c : Counted). c.memory b) e);
        link = λ running b h. ap (λ (h : Shade). h.shared b) shade;
        tables = λ b h. ap (λ (h : Shade). h.shared b) shade;
      })
      (k
      (record {
        restarted = subst (λ (c : Counted). 0 < c.restarts) e is.restarted;
        ahead = subst (λ (c : Counted). IsTrue c.since.ahead) e is.ahead;
        whole = subst (λ (c : Counted). IsTrue c.since.whole) e is.whole;
      }) (unused-before s unused))
    where
      s : SameSince r y
      s = record {
        origin = ap (λ (c : Counted). c.since.origin) e;
        filled = ap (λ (c : Counted). c.since.filled) e;
        count = ap (λ (c : Counted). c.since.shadow) e;
        hints = ap (λ (c : Counted). c.since.hints) e;
      }

-- ---- own moves

module _ (w : World) (a : Accepted w) (ms : Moves) (x : Answer) where
  abbrev r : Run
  r = run w ms

  abbrev next : Run
  next = step w r (O, x)

  -- where the own hart is in the run from the restart, by an equation for the run
  follows-as : (before : Moves) (y : Run) → run w before ≡ y → 0 < y.restarts → IsTrue y.since.whole → (q : State) × (from_restart w y y.since.own ≡ Some q) × OwnIs y q
  follows-as before y e = subst (λ (y : Run). 0 < y.restarts → IsTrue y.since.whole → (q : State) × (from_restart w y y.since.own ≡ Some q) × OwnIs y q) e (own_follows w a before)

  -- a move that completes no instruction leaves the program's memory
  rests-memory : 0 < r.restarts → next.restarts ≡ r.restarts → IsTrue next.since.whole → next.since ≡ r.since → next.own.memory ≡ r.own.memory
  rests-memory some n whole e =
      let here : Since → Option State = λ s. option_and_then (λ (o : State). state_after w.image w.files all_taken o s.own) s.origin in
      let p : (q : State) × (from_restart w next next.since.own ≡ Some q) × OwnIs next q =
      follows-as (ms ++ (O, x) ∷ []) next (run_from-snoc w (opened_run w) ms (O, x)) (subst (λ n. 0 < n) (sym n) some) whole in
      let q : (q : State) × (from_restart w r r.since.own ≡ Some q) × OwnIs r q = follows-as ms r refl some (subst (λ (s : Since). IsTrue s.whole) e whole) in
      p.2.memory ∙ ap (λ (s : State). s.memory) (one-state (from_restart w r r.since.own) p.0 q.0 (sym (ap here e) ∙ p.1) q.1) ∙ sym q.2.memory

  -- the bytes that aren't covered stay
  abbrev LeavesUncovered : Type 0
  LeavesUncovered = (i : ℕ) → r.since.shadow ≤ i → (b : ℕ) → (next.own.memory b ≡ r.own.memory b) ⊎ IsCovered r.since.filled w r i b

  -- a move that completes one stays behind the shadow, and leaves them
  counts-memory : IsFollowing next → next.restarts ≡ r.restarts → (whole : Bool) → next.since ≡ record (counted r.restarts r.since) { whole = whole } → LeavesUncovered
  counts-memory is n whole e i h b =
      let some : 0 < r.restarts = subst (λ n. 0 < n) n is.restarted in
      let ahead : IsTrue (r.since.ahead && stays_behind r.restarts (r.since.own + 1) r.since.shadow) = subst (λ (s : Since). IsTrue s.ahead) e is.ahead in
      let few : r.since.own + 1 ≤ r.since.shadow = behind-count r.restarts (r.since.own + 1) r.since.shadow some (and_right r.since.ahead _ ahead) in
      let one : next.since.own ≡ r.since.own + 1 = ap (λ (s : Since). s.own) e in
      own_changes_are_covered w a ms x r.since.filled i some n is.whole (omega (arith, one, few, h)) b

  -- what is shared stays behind the log's head while the shadow runs
  leaves-link : LeavesLink r next → r.shadow.state ≡ Running → LeavesBehindHead r.shared next.shared
  leaves-link (left e) running b h = ap (λ (m : Memory). m b) e
  leaves-link (takes_head head e) running b h = ap (λ (m : Memory). m b) e ∙ patch-outside r.shared link_start 8 (byte_of head) b (inr h)
  leaves-link (is_stopped e) running b h = stopped_running (sym e ∙ running)

  module _ (k : IsFollowed w r) (is : IsFollowing next) (unused : IsTrue (before_use w next next.since.shadow)) where
    -- a move that makes no restart, by what it does to the shadow
    module _ (n : next.restarts ≡ r.restarts) (s : SameSince r next) (back : IsFollowing r) (memory : LeavesUncovered) where
      -- the run was followed
      followed-before : Followed w r
      followed-before = k back (unused-before w r next s unused)

      -- a run that leaves the shadow's hart and its page keeps what is spoken of
      carries : next.shadow ≡ r.shadow → next.shadow_page ≡ r.shadow_page → LeavesTables r.shared next.shared → Carries w r next
      carries shadow page tables =
          record {
            origin = s.origin;
            filled = s.filled;
            count = s.count;
            hints = s.hints;
            shadow = shadow;
            page = page;
            memory = memory;
            link = leaves-link (stub_stops_first w a ms x);
            tables = tables;
          }

      -- so does one that stops the shadow, but for its state
      carries-hart : (e : watched_of next ≡ record (watched_of r) { shade = record (shade_of r) { hart = record r.shadow { state = Stopped } } }) → Carries w r (record next { shadow = r.shadow })
      carries-hart e =
          record {
            origin = s.origin;
            filled = s.filled;
            count = s.count;
            hints = s.hints;
            shadow = refl;
            page = ap (λ (v : Watched). v.shade.page) e;
            memory = memory;
            link = λ running b h. ap (λ (v : Watched). v.shade.shared b) e;
            tables = λ b h. ap (λ (v : Watched). v.shade.shared b) e;
          }

      -- by what the move leaves of the shadow
      by_shade : OwnShade (begun r) next → Followed w next
      by_shade (same e) =
          covered w r next (carries (ap (λ (v : Watched). v.shade.hart) e) (ap (λ (v : Watched). v.shade.page) e) (λ b h. ap (λ (v : Watched). v.shade.shared b) e)) followed-before
      by_shade (links b width v low e) =
          covered w r next
          (carries (ap (λ (v : Watched). v.shade.hart) e) (ap (λ (v : Watched). v.shade.page) e)
          (λ c h. ap (λ (v : Watched). v.shade.shared c) e ∙ patch-outside r.shared b width (byte_of v) c (inr (omega (arith, low, h))))) followed-before
      by_shade (halts e) =
          followed.rests
          (stopped w a (record next { shadow = r.shadow }) next
          (record {
            origin = refl;
            filled = refl;
            count = refl;
            hints = refl;
            registers = ap (λ (v : Watched). v.shade.hart.registers) e;
            files = ap (λ (v : Watched). v.shade.hart.files) e;
            shared = refl;
            memory = refl;
          }) (ap (λ (v : Watched). v.shade.hart.pc) e) (λ s. stopped_running (sym (ap (λ (v : Watched). v.shade.hart.state) e) ∙ s))
          (covered w r (record next { shadow = r.shadow }) (carries-hart e) followed-before))
      by_shade (begins v e) = let more : next.restarts ≡ r.restarts + 1 = ap (λ (v : Watched). v.restarts) e in absurd (omega (arith, more, n))

    -- by what the move counts
    by_since : next ≡ own_step w x (begun r) → OwnSince w (begun r) next → Followed w next
    by_since step-is (rests e n) =
        let some : 0 < r.restarts = subst (λ n. 0 < n) n is.restarted in
        by_shade n
        (record { origin = ap (λ (s : Since). s.origin) e; filled = ap (λ (s : Since). s.filled) e; count = ap (λ (s : Since). s.shadow) e; hints = ap (λ (s : Since). s.hints) e })
        (record { restarted = some; ahead = subst (λ (s : Since). IsTrue s.ahead) e is.ahead; whole = subst (λ (s : Since). IsTrue s.whole) e is.whole })
        (λ i h b. inl (ap (λ (m : Memory). m b) (rests-memory some n is.whole e))) (subst (λ y. OwnShade (begun r) y) (sym step-is) (own-shade w x (begun r)))
    by_since step-is (counts whole f e n) =
        by_shade n
        (record { origin = ap (λ (s : Since). s.origin) e; filled = ap (λ (s : Since). s.filled) e; count = ap (λ (s : Since). s.shadow) e; hints = ap (λ (s : Since). s.hints) e })
        (record {
          restarted = subst (λ n. 0 < n) n is.restarted;
          ahead = and_left r.since.ahead _ (subst (λ (s : Since). IsTrue s.ahead) e is.ahead);
          whole = f (subst (λ (s : Since). IsTrue s.whole) e is.whole);
        }) (counts-memory is n whole e) (subst (λ y. OwnShade (begun r) y) (sym step-is) (own-shade w x (begun r)))
    by_since step-is (anew v e) =
        begins-anew w a ms x
        (λ n. let more : next.restarts ≡ r.restarts + 1 = ap (λ (y : Run). y.restarts) e in absurd (omega (arith, more, n)))

    -- a run that has ended stays
    by_move : (next ≡ silent r) ⊎ ((r.end ≡ None) × (next ≡ own_step w x (begun r)) × OwnSince w (begun r) next) → Followed w next
    by_move (inl e) = subst (λ y. IsFollowed w y) (sym e) (counted-followed w r (silent r) refl refl k) is unused
    by_move (inr (z, step-is, s)) = by_since step-is s

  -- at each own move
  pub own-followed : IsFollowed w r → IsFollowed w next
  own-followed k is unused = by_move k is unused (own-since w x r)

-- ---- fetches

-- a fetch leaves the own hart's memory and the counts
fetch-counted : (w : World) (o : Option BlockSpot) (x : Answer) (r : Run) → counted_of (fetch_of o w x r) ≡ counted_of r
fetch-counted w o x r = fetch_of-by w x r (λ next. counted_of next ≡ counted_of r) (λ b. refl) o

-- at each fetch
pub fetch-followed : (w : World) (r : Run) (x : Answer) → IsFollowed w r → IsFollowed w (step w r (D, x))
fetch-followed w r x k = by_end r.end
  where
    by_end : (e : Option RunEnd) → IsFollowed w (step_unless e w r (D, x))
    by_end (Some e) = counted-followed w r (silent r) refl refl k
    by_end None =
        counted-followed w r (fetch_of (in_flight r.cache) w x (begun r)) (fetch-counted w (in_flight r.cache) x (begun r))
        (ap (λ (v : Watched). v.shade) (fetch-shade w (in_flight r.cache) x (begun r))) k
