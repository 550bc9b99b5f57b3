-- In every run of fewer than 2^64 - 1 moves the hint log is a queue while the shadow isn't stopped, and the shadow only appends to it.
use Rattle.std.proofs.Common.{◌≡◌, ℕ, ◌+◌, ◌-◌, ◌^◌, ◌<◌, ◌⊎◌, inl, inr, Bool, true, false, [], ◌∷◌, ◌++◌, length, Option, Some, None, refl, ◌∙◌, ap, sym, subst, arith}
use Rattle.std.specs.Prelude.{◌≢◌}
use Rattle.std.proofs.lemmas.List.{length-append, append-nil, append_assoc}
use Rattle.spec_base.specs.declared.machine.View.TheVariants.{Program, Stub}
use Rattle.spec_base.specs.declared.note.Move.{Move}
use Rattle.spec_base.specs.declared.note.Move.TheVariants.{O, S, T, D}
use Rattle.spec_base.specs.declared.spot.BlockSpot.{BlockSpot}
use Rattle.rv_model.specs.Memory.{Memory, zeros}
use Rattle.rv_model.specs.Effect.{fetched}
use Rattle.rv_model.proofs.Loads.{loaded-stored}
use Rattle.program_model.specs.Cache.{in_flight}
use Rattle.program_model.specs.Calls.{CallPlan}
use Rattle.program_model.specs.PlainRun.{State}
use Rattle.code_model.specs.Log.{log_head, log_tail}
use Rattle.run_model.specs.Run.{World, Run, RunEnd, Answer, opened_run, rewritten_text}
use Rattle.run_model.specs.OwnMoves.{own_step, own_unless, own_in, own_call_step}
use Rattle.run_model.specs.Moves.{Moves, step, step_unless, begun, silent, run, run_from, fetch_of, shadow_while}
use Rattle.run_laws.specs.OwnLaws.{Accepted, IsShadowMove}
use Rattle.run_model.specs.ShadowMoves.{shadow_step}
use Rattle.run_laws.specs.StubLaws.{Appends, IsLog, IsLeaving, Passing, TakesOldest, RestartsFromBox, IsPassage, Outcome, keyless, takes, empties, without_oldest, leaves}
use Rattle.own_laws.proofs.HeldRuns.{restart_has_box}
use Rattle.own_laws.proofs.InvisibleShadow.{shadow_move-keeps}
use Rattle.own_laws.proofs.LogChanges.{Appends-same, tail-head_stored}
use Rattle.own_laws.proofs.OneCall.{program_stub}
use Rattle.own_laws.proofs.OwnLaws.{own_side}
use Rattle.own_laws.proofs.OwnSide.{OwnSide, in_program, in_stub, at_call, waits, called, over, call-place, placed, plan}
use Rattle.own_laws.proofs.Passage.{stub_takes_oldest, stub_keeps_log}
use Rattle.own_laws.proofs.Reached.{none_some, reached-fits}
use Rattle.own_laws.proofs.Side.{side_of, with_side, Kept}
use Rattle.own_laws.proofs.StubWords.{stub_side}
use Rattle.own_laws.proofs.StubRows.{WordGoes, to_row, to_restarted, to_call, word_goes}
use Rattle.own_laws.proofs.Bounds.{Words}
use Rattle.side_model.specs.Sees.{Shade, shade_of}
use Rattle.side_model.specs.Places.{IsInstruction}
use Rattle.run_laws.specs.LogLaws.{ShadowAppends, StaysInStub, LogIsKept}
use Rattle.shadow_laws.proofs.LogMoves.{Grows, Grows-same, Logged, ShadowMoved, one-more, shadow-moves, same-logged, own-logged, tail-small}
use Rattle.shadow_laws.proofs.OwnShades.{Watched, watched_of, OwnShade, same, links, halts, begins, own-shade, fetch-shade, program_at-shade}
use Rattle.shadow_laws.proofs.ShadowNumbers.{Sized, stock_of, run-sized}
use Rattle.shadow_laws.proofs.ShadowRuns.{has-tables, run-keeps, gate-site, zeros-loaded}
use Rattle.shadow_laws.proofs.Sound.{never_running}
use Rattle.own_laws.proofs.OwnSteps.{own_call-by, fetch_of-by}
use Rattle.own_laws.proofs.MoveLists.{run_from-snoc}

-- ---- where the own hart is

-- in the program, with a log in order; or in the stub, since a gate, where moves of the shadow only appended; or it has ended
pub data OwnAt (w : World) (before : Moves) : Type 0 where
  in_view : (run w before).view ≡ Program → IsLog (run w before).shared → OwnAt w before
  passes : (ms : Moves) (x : Answer) (on : Moves) → run_from w (step w (run w ms) (O, x)) on ≡ run w before → (run w ms).view ≡ Program → IsLog (run w ms).shared → Passing w (step w (run w ms) (O, x)) on
      → OwnAt w before
  is_over : (e : RunEnd) → (run w before).end ≡ Some e → OwnAt w before

-- one move more stays in the stub
passing-snoc : (w : World) (r : Run) (on : Moves) (m : Move × Answer) → Passing w r on → (step w (run_from w r on) m).view ≡ Stub
    → (IsShadowMove m.0 → Appends (run_from w r on).shared (step w (run_from w r on) m).shared) → Passing w r (on ++ m ∷ [])
unfolding run_from
passing-snoc w r [] m h v f = (h, f, v)
passing-snoc w r (n ∷ on) m h v f = (h.0, h.1, passing-snoc w (step w r n) on m h.2 v f)

-- what becomes of a log in a passage is in order
outcome-log : {J : Memory → Type 0} {R : Type 0} {q : State} {key count : ℕ} {before after : Memory} {asked : Bool} → IsLog before → Outcome J R q key count before asked after → IsLog after
outcome-log g (keyless k f) = record { order = omega (arith, f.head, f.tail, g.order); below = f.below }
outcome-log g (takes judged t k j o f) =
    let head : log_head (without_oldest judged) ≡ log_head judged + 1 = loaded-stored judged 0x4200_0000 (log_head judged + 1) (omega (arith, j.below, o.some)) in
    record { order = omega (arith, f.head, head, f.tail, tail-head_stored judged (log_head judged + 1), o.some); below = f.below }
outcome-log g (empties judged emptied t z k j n e b f) = record { order = omega (arith, f.head, e.head); below = f.below }

-- ---- views

own_call-view : (w : World) (x : Answer) (r : Run) (c : CallPlan) → (own_call_step w x r c).view ≡ r.view
own_call-view w x r c = own_call-by w r (λ next. next.view ≡ r.view) x c (λ b. refl) (λ taken whole b h. refl)

fetch-view : (w : World) (o : Option BlockSpot) (x : Answer) (r : Run) → (fetch_of o w x r).view ≡ r.view
fetch-view w o x r = fetch_of-by w x r (λ next. next.view ≡ r.view) (λ b. refl) o

module _ (w : World) (a : Accepted w) where
  -- an own move out of the stub is its last word
  leaves-stub : (x : Answer) (r : Run) → r.end ≡ None → OwnSide w (side_of r) → r.view ≡ Stub → (own_step w x r).view ≡ Program → IsLeaving r × ((own_step w x r).shared ≡ r.shared)
  leaves-stub x r z (in_program t site gate s page h f is) v p = program_stub (sym (ap (λ p. p.view) is) ∙ v)
  leaves-stub x r z (in_stub t q k b c d page g row most is) v p =
      placed w (λ r. (own_step w x r).view ≡ Program → IsLeaving r × ((own_step w x r).shared ≡ r.shared)) r _ is
      (λ p. goes p (word_goes w x q t (reached-fits w a t q g.reached) (call-place w a t q g) r k b c d page row)) p
    where
      goes : {A : Type 0} {next : Run} → next.view ≡ Program → WordGoes q t k r.cache r.shared r.shadow.state next → A
      goes p (to_row l b c d page row is less cache on) = program_stub (sym p ∙ ap (λ p. p.view) is)
      goes p (to_restarted c page s is less cache full e running) = program_stub (sym p ∙ ap (λ p. p.view) is)
      goes p (to_call page is less cache e f still) = program_stub (sym p ∙ ap (λ p. p.view) is)
  leaves-stub x r z (at_call t q page g is) v p =
      placed w (λ r. (own_step w x r).view ≡ Program → IsLeaving r × ((own_step w x r).shared ≡ r.shared)) r _ is (λ p. program_stub (sym p ∙ own_call-view w x (with_side r (stub_side q t 26 q.registers page)) (plan w q))) p
  leaves-stub x r z (waits t q page g is) v p = placed w (λ r. (own_step w x r).view ≡ Program → IsLeaving r × ((own_step w x r).shared ≡ r.shared)) r _ is (λ p. program_stub (sym p)) p
  leaves-stub x r z (called t q s k page h f y e is) v p = (record { view = v; word = ap (λ p. p.own.pc) is; goes_on = z }, placed w (λ r. (own_step w x r).shared ≡ r.shared) r _ is refl)
  leaves-stub x r z (over s e h o) v p = none_some (sym z ∙ o.ended)

  -- in the program an own move leaves the shadow
  program-same : (x : Answer) (r : Run) → r.view ≡ Program → watched_of (own_step w x r) ≡ watched_of r
  program-same x r v = by_stall r.stalled
    where
      by_stall : (b : Bool) → watched_of (own_unless b w x r) ≡ watched_of r
      by_stall true = refl
      by_stall false = subst (λ v. watched_of (own_in v w x r) ≡ watched_of r) (sym v) (program_at-shade w r (fetched (rewritten_text w) w.image.layout.text_start r.own.pc))

  -- the view of a run that goes on
  view-of : (r : Run) → OwnSide w (side_of r) → ((e : RunEnd) × (r.end ≡ Some e)) ⊎ ((r.view ≡ Program) ⊎ (r.view ≡ Stub))
  view-of r (in_program t site gate s page h f is) = inr (inl (ap (λ p. p.view) is))
  view-of r (in_stub t q k b c d page g row most is) = inr (inr (ap (λ p. p.view) is))
  view-of r (at_call t q page g is) = inr (inr (ap (λ p. p.view) is))
  view-of r (waits t q page g is) = inr (inr (ap (λ p. p.view) is))
  view-of r (called t q s k page h f y e is) = inr (inr (ap (λ p. p.view) is))
  view-of r (over s e h o) = inl (e, o.ended)

  -- ---- one move

  -- what is kept in a run
  abbrev Inv : Moves → Type 0
  Inv before = Logged w (shade_of (run w before)) (length before) × OwnAt w before

  module _ (before : Moves) (m : Move × Answer) (few : length before < 2 ^ 64 - 1) (inv : Inv before) where
    abbrev r : Run
    r = run w before

    abbrev next : Run
    next = step w r m

    abbrev more : Moves
    more = before ++ m ∷ []

    -- the run behind it
    run-is : run w more ≡ next
    run-is = run_from-snoc w (opened_run w) before m

    sized : Sized (stock_of r)
    sized = run-sized w a before

    -- the log is in order where the shadow only appends
    grows : Appends r.shared next.shared → IsLog r.shared → IsLog next.shared
    grows f g = record { order = omega (arith, f.head, f.tail, g.order); below = f.below }

    -- the same bytes are appended to nothing
    nothing-new : next.shared ≡ r.shared → Appends r.shared next.shared
    nothing-new e = subst (λ (n : Memory). Appends r.shared n) (sym e) (Appends-same r.shared (tail-small w a r sized))

    -- the passage goes on
    extends : (ms : Moves) (x : Answer) (on : Moves) → run_from w (step w (run w ms) (O, x)) on ≡ r → (run w ms).view ≡ Program → IsLog (run w ms).shared → Passing w (step w (run w ms) (O, x)) on
        → next.view ≡ Stub → (IsShadowMove m.0 → Appends r.shared next.shared) → OwnAt w more
    extends ms x on e p g h v f =
        let gate : Run = step w (run w ms) (O, x) in
        passes ms x (on ++ m ∷ []) (run_from-snoc w gate on m ∙ ap (λ (y : Run). step w y m) e ∙ sym run-is) p g
        (passing-snoc w gate on m h (ap (λ (y : Run). (step w y m).view) e ∙ v) (λ s. subst (λ (y : Run). Appends y.shared (step w y m).shared) (sym e) (f s)))

    -- a run that is over stays so
    over-stays : (e : RunEnd) → r.end ≡ Some e → Inv more
    over-stays e z =
        let is : next ≡ silent r = ap (λ (o : Option RunEnd). step_unless o w r m) z in
        let end : run w more ≡ silent r = run-is ∙ is in (
          subst (λ (y : Run). Logged w (shade_of y) (length more)) (sym end) (subst (λ k. Logged w (shade_of r) k) (sym (length-append before (m ∷ []))) (one-more w a (shade_of r) (length before) inv.0)),
          is_over e (ap (λ (y : Run). y.end) end ∙ z),
        )

    -- what is so of the next run
    with-logged : Logged w (shade_of next) (length before + 1) → OwnAt w more → Inv more
    with-logged g o = (subst (λ (y : Run). Logged w (shade_of y) (length more)) (sym run-is) (subst (λ k. Logged w (shade_of next) k) (sym (length-append before (m ∷ []))) g), o)

  -- the view in a passage
  passing-view : (y : Run) (on : Moves) → Passing w y on → (run_from w y on).view ≡ Stub
  unfolding run_from
  passing-view y [] h = h
  passing-view y (n ∷ on) h = passing-view (step w y n) on h.2

  -- no move
  no-moves : (y : Run) → run_from w y [] ≡ y
  unfolding run_from
  no-moves y = refl

  nothing-passes : (y : Run) → y.view ≡ Stub → Passing w y []
  nothing-passes y v = v

  -- a gate leaves what is shared
  gate-shared : (x : Answer) (y : Run) → y.view ≡ Program → (step w y (O, x)).shared ≡ y.shared
  gate-shared x y v = by_end y.end
    where
      by_end : (e : Option RunEnd) → (step_unless e w y (O, x)).shared ≡ y.shared
      by_end (Some e) = refl
      by_end None = ap (λ (s : Watched). s.shade.shared) (program-same x (begun y) v)

  -- ---- a move of the shadow, or a fetch

  -- that leaves the view
  module _ (before : Moves) (n : Move) (x : Answer) (few : length before < 2 ^ 64 - 1) (inv : Inv before) (z : (run w before).end ≡ None) where
    abbrev here : Run
    here = run w before

    abbrev there : Run
    there = step w here (n, x)

    abbrev then : Moves
    then = before ++ (n, x) ∷ []

    stays-at : there.view ≡ here.view → Appends here.shared there.shared → OwnAt w before → OwnAt w then
    stays-at v f (in_view p g) =
        let is : run w then ≡ there = run-is before (n, x) few inv in in_view (ap (λ (y : Run). y.view) is ∙ v ∙ p) (subst (λ (y : Run). IsLog y.shared) (sym is) (grows before (n, x) few inv f g))
    stays-at v f (passes ms y on e p g h) =
        extends before (n, x) few inv ms y on e p g h (v ∙ ap (λ (y : Run). y.view) (sym e) ∙ passing-view (step w (run w ms) (O, y)) on h) (λ s. f)
    stays-at v f (is_over e y) = none_some (sym z ∙ y)

    -- a word of the shadow
    word-inv : there ≡ shadow_step w x (begun here) → there.view ≡ here.view → Inv then
    word-inv is v =
        let words : Words (shade_of (shadow_step w x (begun here))).hart.registers =
        subst (λ (y : Run). Words y.shadow.registers) (run-is before (n, x) few inv ∙ is) (run-sized w a then).registers in
        let y : ShadowMoved w (begun here) (shadow_step w x (begun here)) (length before) = shadow-moves w a x (begun here) (length before) (run-sized w a before) words few inv.0 in
        with-logged before (n, x) few inv (subst (λ (y : Run). Logged w (shade_of y) (length before + 1)) (sym is) y.logged)
        (stays-at v (subst (λ (y : Run). Appends here.shared y.shared) (sym is) y.grows.appends) inv.1)

    -- a move that leaves the shadow
    still-inv : shade_of there ≡ shade_of here → there.view ≡ here.view → Inv then
    still-inv e v =
        with-logged before (n, x) few inv (same-logged w a here there (length before) inv.0 e)
        (stays-at v (nothing-new before (n, x) few inv (ap (λ (h : Shade). h.shared) e)) inv.1)

  -- ---- an own move

  module _ (before : Moves) (x : Answer) (few : length before < 2 ^ 64 - 1) (inv : Inv before) (z : (run w before).end ≡ None) where
    abbrev gone : Run
    gone = step w (run w before) (O, x)

    abbrev behind : Moves
    behind = before ++ (O, x) ∷ []

    is-own : gone ≡ own_step w x (begun (run w before))
    is-own = ap (λ (e : Option RunEnd). step_unless e w (run w before) (O, x)) z

    is-run : run w behind ≡ gone
    is-run = run-is before (O, x) few inv

    own-side-then : OwnSide w (side_of gone)
    own-side-then = subst (λ (y : Run). OwnSide w (side_of y)) is-run (own_side w a behind)

    over-then : (e : RunEnd) → gone.end ≡ Some e → OwnAt w behind
    over-then e y = is_over e (ap (λ (y : Run). y.end) is-run ∙ y)

    -- in the program
    program-inv : (run w before).view ≡ Program → IsLog (run w before).shared → Inv behind
    program-inv p g =
        let same : watched_of gone ≡ watched_of (run w before) = ap watched_of is-own ∙ program-same x (begun (run w before)) p in
        with-logged before (O, x) few inv (same-logged w a (run w before) gone (length before) inv.0 (ap (λ (s : Watched). s.shade) same))
        (by_view (ap (λ (s : Watched). s.shade.shared) same) (view-of gone own-side-then))
      where
        by_view : gone.shared ≡ (run w before).shared → ((e : RunEnd) × (gone.end ≡ Some e)) ⊎ ((gone.view ≡ Program) ⊎ (gone.view ≡ Stub)) → OwnAt w behind
        by_view e (inl (end, y)) = over-then end y
        by_view e (inr (inl v)) = in_view (ap (λ (y : Run). y.view) is-run ∙ v) (subst (λ (m : Memory). IsLog m) (sym (ap (λ (y : Run). y.shared) is-run ∙ e)) g)
        by_view e (inr (inr v)) = passes before x [] (nil-run ∙ sym is-run) p g v
          where
            nil-run : run_from w gone [] ≡ gone
            nil-run = no-moves gone

    -- in the stub
    passage-inv : (ms : Moves) (y : Answer) (on : Moves) → run_from w (step w (run w ms) (O, y)) on ≡ run w before → (run w ms).view ≡ Program → IsLog (run w ms).shared → Passing w (step w (run w ms) (O, y)) on → Inv behind
    passage-inv ms y on e p g h =
        with-logged before (O, x) few inv
        (own-logged w a (run w before) gone (length before) shade took (has-tables w (watched_of (run w before)) (run-keeps w a before)) (run-sized w a before) box inv.0)
        (by_view (view-of gone own-side-then))
      where
        gate : Run
        gate = step w (run w ms) (O, y)

        in-stub : (run w before).view ≡ Stub
        in-stub = ap (λ (y : Run). y.view) (sym e) ∙ passing-view gate on h

        took : TakesOldest (run w before) gone
        took = subst (λ (y : Run). TakesOldest y (step w y (O, x))) e (stub_takes_oldest w a ms y on x p g h)

        from-begun : {n : Run} → OwnShade (begun (run w before)) n → OwnShade (run w before) n
        from-begun (same e) = same e
        from-begun (links b width v low e) = links b width v low e
        from-begun (halts e) = halts e
        from-begun (begins v e) = begins v e

        shade : OwnShade (run w before) gone
        shade = from-begun (subst (λ (y : Run). OwnShade (begun (run w before)) y) (sym is-own) (own-shade w x (begun (run w before))))

        box : gone.restarts ≢ (run w before).restarts → IsInstruction w.image.layout (run w before).at_gate.pc × RestartsFromBox (run w before) gone
        box n = (gate-site w a x (begun (run w before)) z (own_side w a before) in-stub (λ f. n (ap (λ (y : Run). y.restarts) is-own ∙ f)), restart_has_box w a before x n)

        left-log : gone.view ≡ Program → IsLog gone.shared
        left-log v =
            let l = leaves-stub x (begun (run w before)) z (own_side w a before) in-stub (ap (λ (y : Run). y.view) (sym is-own) ∙ v) in
            let leaving : IsLeaving (run w before) = record { view = l.0.view; word = l.0.word; goes_on = z } in
            let passage : IsPassage w gate on (run_from w gate on) = stub_keeps_log w a ms y on p g h (subst (λ (y : Run). IsLeaving y) (sym e) leaving) in
            let gate-log : IsLog gate.shared = subst (λ (m : Memory). IsLog m) (sym (gate-shared y (run w ms) p)) g in
            let leave-log : IsLog (run_from w gate on).shared = outcome-log gate-log passage.log in
            subst (λ (m : Memory). IsLog m) (ap (λ (y : Run). y.shared) e ∙ sym (ap (λ (y : Run). y.shared) is-own ∙ l.1)) leave-log

        by_view : ((e : RunEnd) × (gone.end ≡ Some e)) ⊎ ((gone.view ≡ Program) ⊎ (gone.view ≡ Stub)) → OwnAt w behind
        by_view (inl (end, f)) = over-then end f
        by_view (inr (inl v)) = in_view (ap (λ (y : Run). y.view) is-run ∙ v) (subst (λ (y : Run). IsLog y.shared) (sym is-run) (left-log v))
        by_view (inr (inr v)) = extends before (O, x) few inv ms y on e p g h v (λ s. absurd s)

    own-inv : Inv behind
    own-inv = by_place inv.1
      where
        by_place : OwnAt w before → Inv behind
        by_place (in_view p g) = program-inv p g
        by_place (passes ms y on e p g h) = passage-inv ms y on e p g h
        by_place (is_over e y) = none_some (sym z ∙ y)

  -- ---- each move

  move-inv : (before : Moves) (n : Move) (x : Answer) → length before < 2 ^ 64 - 1 → Inv before → Inv (before ++ (n, x) ∷ [])
  move-inv before n x few inv = by_end (run w before).end refl
    where
      r : Run
      r = run w before

      going : (n : Move) → r.end ≡ None → Inv (before ++ (n, x) ∷ [])
      going O z = own-inv before x few inv z
      going S z =
          word-inv before S x few inv z (ap (λ (e : Option RunEnd). step_unless e w r (S, x)) z) (ap (λ (k : Kept). k.side.view) (shadow_move-keeps w r S x tt))
      going T z = by_stall r.stalled refl
        where
          is : step w r (T, x) ≡ shadow_while r.stalled w x (begun r)
          is = ap (λ (e : Option RunEnd). step_unless e w r (T, x)) z

          by_stall : (b : Bool) → r.stalled ≡ b → Inv (before ++ (T, x) ∷ [])
          by_stall true e = word-inv before T x few inv z (is ∙ ap (λ (b : Bool). shadow_while b w x (begun r)) e) (ap (λ (k : Kept). k.side.view) (shadow_move-keeps w r T x tt))
          by_stall false e =
              let still : step w r (T, x) ≡ begun r = is ∙ ap (λ (b : Bool). shadow_while b w x (begun r)) e in
              still-inv before T x few inv z (ap (λ (y : Run). shade_of y) still) (ap (λ (y : Run). y.view) still)
      going D z =
          let is : step w r (D, x) ≡ fetch_of (in_flight r.cache) w x (begun r) = ap (λ (e : Option RunEnd). step_unless e w r (D, x)) z in
          still-inv before D x few inv z (ap (λ (y : Run). shade_of y) is ∙ ap (λ (s : Watched). s.shade) (fetch-shade w (in_flight r.cache) x (begun r)))
          (ap (λ (y : Run). y.view) is ∙ fetch-view w (in_flight r.cache) x (begun r))

      by_end : (e : Option RunEnd) → r.end ≡ e → Inv (before ++ (n, x) ∷ [])
      by_end (Some e) z = over-stays before (n, x) few inv e z
      by_end None z = going n z

  -- ---- each run

  start-inv : Logged w (shade_of (opened_run w)) 0 × IsLog (opened_run w).shared
  start-inv =
      let head : log_head zeros ≡ 0 = zeros-loaded 0x4200_0000 8 in
      let tail : log_tail zeros ≡ 0 = zeros-loaded 0x4200_0008 8 in (
        record { place = λ e. never_running e; queue = λ n. (record { order = omega (arith, head, tail); most = omega (arith, tail) }, omega (arith, tail)) },
        record { order = omega (arith, head, tail); below = omega (arith, tail) },
      )

  runs-inv : (ms before : Moves) → length before + length ms < 2 ^ 64 - 1 → Inv before → Inv (before ++ ms)
  runs-inv [] before few inv = subst Inv (sym (append-nil before)) inv
  runs-inv (m ∷ ms) before few inv =
      let one : Inv (before ++ m ∷ []) = move-inv before m.0 m.1 (omega (arith, few)) inv in
      subst Inv (append_assoc before (m ∷ []) ms) (runs-inv ms (before ++ m ∷ []) (omega (arith, few, length-append before (m ∷ []))) one)

  pub run-inv : (ms : Moves) → length ms < 2 ^ 64 - 1 → Logged w (shade_of (run w ms)) (length ms) × OwnAt w ms
  run-inv ms few =
      let start = start-inv in
      let is : run w [] ≡ opened_run w = no-moves (opened_run w) in
      runs-inv ms [] (omega (arith, few))
      (subst (λ (y : Run). Logged w (shade_of y) 0) (sym is) start.0, in_view (ap (λ (y : Run). y.view) is) (subst (λ (y : Run). IsLog y.shared) (sym is) start.1))

  -- ---- the moves of the shadow

  pub grows-at : (ms : Moves) (n : Move) (x : Answer) → IsShadowMove n → length ms < 2 ^ 64 - 1 → Grows (run w ms).shared (step w (run w ms) (n, x)).shared
  grows-at ms n x s few = by_end (run w ms).end refl n s
    where
      r : Run
      r = run w ms

      none : (y : Run) → y.shared ≡ r.shared → Grows r.shared y.shared
      none y e = subst (λ (m : Memory). Grows r.shared m) (sym e) (Grows-same r.shared (tail-small w a r (run-sized w a ms)))

      moves : (n : Move) → step w r (n, x) ≡ shadow_step w x (begun r) → Grows r.shared (step w r (n, x)).shared
      moves n is =
          let words : Words (shade_of (shadow_step w x (begun r))).hart.registers =
          subst (λ (y : Run). Words y.shadow.registers) (run_from-snoc w (opened_run w) ms (n, x) ∙ is) (run-sized w a (ms ++ (n, x) ∷ [])).registers in
          subst (λ (y : Run). Grows r.shared y.shared) (sym is) (shadow-moves w a x (begun r) (length ms) (run-sized w a ms) words few (run-inv ms few).0).grows

      by_stall : (b : Bool) → r.stalled ≡ b → r.end ≡ None → Grows r.shared (step w r (T, x)).shared
      by_stall true e z = moves T (ap (λ (e : Option RunEnd). step_unless e w r (T, x)) z ∙ ap (λ (b : Bool). shadow_while b w x (begun r)) e)
      by_stall false e z = none (step w r (T, x)) (ap (λ (y : Run). y.shared) (ap (λ (e : Option RunEnd). step_unless e w r (T, x)) z ∙ ap (λ (b : Bool). shadow_while b w x (begun r)) e))

      by_end : (e : Option RunEnd) → r.end ≡ e → (n : Move) → IsShadowMove n → Grows r.shared (step w r (n, x)).shared
      by_end (Some e) z n s = none (step w r (n, x)) (ap (λ (o : Option RunEnd). (step_unless o w r (n, x)).shared) z)
      by_end None z S s = moves S (ap (λ (e : Option RunEnd). step_unless e w r (S, x)) z)
      by_end None z T s = by_stall r.stalled refl z
      by_end None z O s = absurd s
      by_end None z D s = absurd s

  -- ---- the own moves

  -- each leaves what is shared, takes the oldest pair, or finds the shadow stopped
  pub took-at : (before : Moves) (x : Answer) → length before < 2 ^ 64 - 1 → TakesOldest (run w before) (step w (run w before) (O, x))
  took-at before x few = by_place (run-inv before few).1
    where
      by_place : OwnAt w before → TakesOldest (run w before) (step w (run w before) (O, x))
      by_place (in_view p g) = leaves (gate-shared x (run w before) p)
      by_place (passes ms y on e p g h) = subst (λ (y : Run). TakesOldest y (step w y (O, x))) e (stub_takes_oldest w a ms y on x p g h)
      by_place (is_over e z) = leaves (ap (λ (o : Option RunEnd). (step_unless o w (run w before) (O, x)).shared) z)

  -- where a gate is met, the log is in order
  log-at : (ms : Moves) (x : Answer) → OwnAt w ms → (run w ms).view ≡ Program → (step w (run w ms) (O, x)).view ≡ Stub → IsLog (run w ms).shared
  log-at ms x (in_view v g) p q = g
  log-at ms x (passes before y on e v g h) p q = program_stub (sym p ∙ ap (λ (y : Run). y.view) (sym e) ∙ passing-view (step w (run w before) (O, y)) on h)
  log-at ms x (is_over e z) p q = program_stub (sym p ∙ sym (ap (λ (o : Option RunEnd). (step_unless o w (run w ms) (O, x)).view) z) ∙ q)

  -- moves that stay in the stub begin there
  begins-in : (r : Run) (on : Moves) → StaysInStub w r on → r.view ≡ Stub
  begins-in r [] h = h
  begins-in r (m ∷ on) h = h.0

  -- in the stub they do so
  stays-passing : (before on : Moves) (r : Run) → run w before ≡ r → length before + length on < 2 ^ 64 - 1 → StaysInStub w r on → Passing w r on
  stays-passing before [] r e few h = h
  stays-passing before (m ∷ on) r e few h = (
    h.0,
    λ s. subst (λ (y : Run). Appends y.shared (step w y m).shared) e (grows-at before m.0 m.1 s (omega (arith, few))).appends,
    stays-passing (before ++ m ∷ []) on (step w r m) (run_from-snoc w (opened_run w) before m ∙ ap (λ (y : Run). step w y m) e) (omega (arith, few, length-append before (m ∷ []))) h.1,
  )

-- ---- the laws

-- the shadow appends to it
pub shadow_appends : ShadowAppends
shadow_appends w a ms m x s few = (grows-at w a ms m x s few).appends

-- a passage through the stub keeps it
pub log_is_kept : LogIsKept
log_is_kept w a ms x on few p stays leaving =
    let r : Run = run w ms in
    let gate : Run = step w r (O, x) in
    let at : run w (ms ++ (O, x) ∷ []) ≡ gate = run_from-snoc w (opened_run w) ms (O, x) in
    let short : length ms < 2 ^ 64 - 1 = omega (arith, few) in
    stub_keeps_log w a ms x on p (log-at w a ms x (run-inv w a ms short).1 p (begins-in w a gate on stays)) (stays-passing w a (ms ++ (O, x) ∷ []) on gate at (omega (arith, few, length-append ms ((O, x) ∷ []))) stays) leaving
