-- Each move keeps the hint log a queue while the shadow isn't stopped, and the shadow only appends to it.
use Rattle.std.proofs.Common.{◌≡◌, ℕ, ◌+◌, ◌-◌, ◌*◌, ◌^◌, ◌≤◌, ◌<◌, refl, ◌∙◌, ap, sym, subst, arith}
use Rattle.std.specs.Prelude.{◌≢◌}
use Rattle.spec_base.specs.Layout.{link_start}
use Rattle.spec_base.specs.declared.note.ShadowState.{ShadowState}
use Rattle.spec_base.specs.declared.note.ShadowState.TheVariants.{Never, Running, Stopped, Parked}
use Rattle.rv_decode.specs.declared.instr.LoadOp.TheVariants.{Ld}
use Rattle.rv_model.specs.Memory.{Memory, stored}
use Rattle.rv_model.proofs.Results.{load-small}
use Rattle.code_model.specs.Log.{log_head, log_tail, IsQueue}
use Rattle.run_model.specs.Run.{World, Run, Answer}
use Rattle.run_model.specs.ShadowMoves.{shadow_step}
use Rattle.run_laws.specs.OwnLaws.{Accepted}
use Rattle.run_laws.specs.StubLaws.{Appends, IsEmpty, RestartsFromBox, TakesOldest, leaves, takes_pair, is_halted}
use Rattle.own_laws.proofs.Bounds.{Words}
use Rattle.own_laws.proofs.LogChanges.{Appends-same}
use Rattle.side_model.specs.Sees.{Shade, shade_of}
use Rattle.side_model.specs.Places.{IsInstruction}
use Rattle.rows_log.specs.Queue.{Takes}
use Rattle.rows_log.proofs.QueueLaws.{head-takes, taking-keeps}
use Rattle.shadow_laws.proofs.LoggedSteps.{logged_calls, LeavesBox, Appending, logged-appends, logged-steps, logged-stays}
use Rattle.shadow_laws.proofs.OwnShades.{Watched, watched_of, OwnShade, same, links, halts, begins}
use Rattle.shadow_laws.proofs.ShadowNumbers.{Sized, stock_of}
use Rattle.shadow_laws.proofs.ShadowRuns.{HasTables, restart-sound, resting-stays}
use Rattle.shadow_laws.proofs.Sound.{Sound, Lands, goes, reaches, stopped_running, never_running, parked_running}
use Rattle.shadow_laws.proofs.Sound as landing

-- a running shadow stands at a row, its calls with their keys, and the log is a queue unless the shadow is stopped; k moves are made
pub record Logged (w : World) (h : Shade) (k : ℕ) : Type 0 where
  pub place : h.hart.state ≡ Running → (n : ℕ) × Sound w (logged_calls w) h n
  pub queue : h.hart.state ≢ Stopped → IsQueue h.shared × (log_tail h.shared ≤ k)

-- a move of the shadow only appends, and leaves the box
pub record Grows (m m' : Memory) : Type 0 where
  pub appends : Appends m m'
  pub box : LeavesBox m m'

-- it keeps the rest
pub record ShadowMoved (w : World) (r next : Run) (k : ℕ) : Type 0 where
  pub logged : Logged w (shade_of next) (k + 1)
  pub grows : Grows r.shared next.shared

-- nothing is appended
pub Grows-same : (m : Memory) → log_tail m < 2 ^ 64 → Grows m m
Grows-same m h = record { appends = Appends-same m h; box = record { at = λ a g u. refl } }

module _ (w : World) (a : Accepted w) where
  -- the tail is a number of 64 bits
  pub tail-small : (r : Run) → Sized (stock_of r) → log_tail r.shared < 2 ^ 64
  tail-small r z = load-small Ld r.shared (link_start + 8) z.shared

  -- one move more is made
  pub one-more : (h : Shade) (k : ℕ) → Logged w h k → Logged w h (k + 1)
  one-more h k g = record { place = g.place; queue = λ n. let q = g.queue n in (q.0, omega (arith, q.1)) }

  -- ---- a word of the shadow

  module _ (x : Answer) (r : Run) (k : ℕ) (z : Sized (stock_of r)) (words : Words (shade_of (shadow_step w x r)).hart.registers) (few : k < 2 ^ 64 - 1) (g : Logged w (shade_of r) k) where
    abbrev moved : Run
    moved = shadow_step w x r

    running-moves : r.shadow.state ≡ Running → ShadowMoved w r moved k
    running-moves e =
        let q : IsQueue r.shared × (log_tail r.shared ≤ k) = g.queue (λ s. stopped_running (sym s ∙ e)) in
        let small : log_tail r.shared < 2 ^ 64 - 1 = omega (arith, q.1, few) in
        let h = g.place e in
        by_landing q (logged-appends w a x r z q.0 small h.1) (logged-steps w a x r z q.0 small words h.1)
      where
        by_landing : {n : ℕ} → IsQueue r.shared × (log_tail r.shared ≤ k) → Appending r.shared moved.shared → Lands w (logged_calls w) n (shade_of moved) → ShadowMoved w r moved k
        by_landing q y (goes j less s) =
            record { logged = record { place = λ e. (j, s); queue = λ n. (y.keeps.queue, omega (arith, y.one, q.1)) }; grows = record { appends = y.keeps.appends; box = y.box } }
        by_landing q y (reaches p b e j most s) =
            record { logged = record { place = λ e. (j, s); queue = λ n. (y.keeps.queue, omega (arith, y.one, q.1)) }; grows = record { appends = y.keeps.appends; box = y.box } }
        by_landing q y (landing.halts cause state t has ok) =
            record { logged = record { place = λ e. parked_running (sym state ∙ e); queue = λ n. (y.keeps.queue, omega (arith, y.one, q.1)) }; grows = record { appends = y.keeps.appends; box = y.box } }

    resting-moves : r.shadow.state ≢ Running → ShadowMoved w r moved k
    resting-moves n =
        subst (λ (y : Run). ShadowMoved w r y k) (sym (resting-stays w a x r r.shadow.state refl n))
        (record { logged = one-more (shade_of r) k g; grows = Grows-same r.shared (tail-small r z) })

    -- a word of the shadow, if it runs
    pub shadow-moves : ShadowMoved w r moved k
    shadow-moves = by_state r.shadow.state refl
      where
        by_state : (s : ShadowState) → r.shadow.state ≡ s → ShadowMoved w r moved k
        by_state Running e = running-moves e
        by_state Never e = resting-moves (λ f. never_running (sym e ∙ f))
        by_state Stopped e = resting-moves (λ f. stopped_running (sym e ∙ f))
        by_state (Parked cause) e = resting-moves (λ f. parked_running (sym e ∙ f))

  -- ---- an own move

  -- the same shadow
  pub same-logged : (r next : Run) (k : ℕ) → Logged w (shade_of r) k → shade_of next ≡ shade_of r → Logged w (shade_of next) (k + 1)
  same-logged r next k g e = subst (λ h. Logged w h (k + 1)) (sym e) (one-more (shade_of r) k g)

  -- the shadow stays, and the link may lose its oldest pair
  linked-logged : (r next : Run) (k : ℕ) (m : Memory) → Logged w (shade_of r) k → Sized (stock_of r) → TakesOldest r next → shade_of next ≡ record (shade_of r) { shared = m } → Logged w (shade_of next) (k + 1)
  linked-logged r next k m g z (leaves e) is =
      same-logged r next k g (is ∙ ap (λ (m : Memory). record (shade_of r) { shared = m }) (sym (ap (λ (h : Shade). h.shared) is) ∙ e))
  linked-logged r next k m g z (takes_pair some e) is =
      let head : Memory = stored r.shared link_start 8 (log_head r.shared + 1) in
      let at : shade_of next ≡ record (shade_of r) { shared = head } = is ∙ ap (λ (m : Memory). record (shade_of r) { shared = m }) (sym (ap (λ (h : Shade). h.shared) is) ∙ e) in
      let takes : Takes r.shared head = head-takes r.shared (log_head r.shared + 1) (omega arith) (omega (arith, some)) (omega (arith, some, tail-small r z)) in
      subst (λ h. Logged w h (k + 1)) (sym at)
      (record {
        place = λ f. let s = g.place f in (s.0, logged-stays w a (shade_of r) s.0 (log_head r.shared + 1) takes s.1);
        queue = λ n. let q = g.queue n in (taking-keeps r.shared head q.0 takes, omega (arith, takes.tail, q.1));
      })
  linked-logged r next k m g z (is_halted s) is =
      let state : next.shadow.state ≡ Stopped = ap (λ (h : Shade). h.hart.state) is ∙ s in
      record { place = λ f. stopped_running (sym state ∙ f); queue = λ n. absurd (n state) }

  -- each own move in the stub keeps what is so of the log
  pub own-logged : (r next : Run) (k : ℕ) → OwnShade r next → TakesOldest r next → HasTables w (watched_of r) → Sized (stock_of r) → (next.restarts ≢ r.restarts → IsInstruction w.image.layout r.at_gate.pc × RestartsFromBox r next)
      → Logged w (shade_of r) k → Logged w (shade_of next) (k + 1)
  own-logged r next k (same e) takes y z box g = same-logged r next k g (ap (λ (s : Watched). s.shade) e)
  own-logged r next k (links b width v low e) takes y z box g = linked-logged r next k _ g z takes (ap (λ (s : Watched). s.shade) e)
  own-logged r next k (halts e) takes y z box g =
      let state : next.shadow.state ≡ Stopped = ap (λ (s : Watched). s.shade.hart.state) e in
      record { place = λ f. stopped_running (sym state ∙ f); queue = λ n. absurd (n state) }
  own-logged r next k (begins v e) takes y z box g =
      let more : next.restarts ≡ r.restarts + 1 = ap (λ (s : Watched). s.restarts) e in
      let b : IsInstruction w.image.layout r.at_gate.pc × RestartsFromBox r next = box (λ f. absurd (omega (arith, more, f))) in
      let empty : IsEmpty next.shared = b.1.empty in
      record {
        place = λ f. (63 + 5 * y.tables.count, subst (λ h. Sound w (logged_calls w) h (63 + 5 * y.tables.count)) (sym (ap (λ (s : Watched). s.shade) e)) (restart-sound w a (logged_calls w) r next y.tables y.has y.ok b.0 b.1));
        queue = λ n. (record { order = omega (arith, empty.head, empty.tail); most = omega (arith, empty.tail) }, omega (arith, empty.tail));
      }
