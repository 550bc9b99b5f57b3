-- Moves over the outside: what they have put, how they end, and how far they come.
use Rattle.std.proofs.Common.{◌≡◌, ◌⊎◌, inl, inr, ℕ, zero, suc, ◌*◌, ◌≤◌, true, false, List, [], ◌∷◌, length, map, slice_get, Option, Some, None, refl, ap, sym, ◌∙◌, subst, arith}
use Rattle.std.specs.Prelude.{IsSome, unwrap_or}
use Rattle.program_model.specs.PlainRun.{State, Output, End, end_of}
use Rattle.run_model.specs.Run.{World, Run, RunEnd, Exits, Traps, StoreFailed, SinkFailed}
use Rattle.run_model.specs.Moves.{Moves, run}
use Rattle.run_model.specs.Patterns.{one_round}
use Rattle.run_laws.specs.OwnLaws.{SameEnd}
use Rattle.own_laws.proofs.OwnLaws.{own_side}
use Rattle.own_laws.proofs.OwnSide.{Follows, follows}
use Rattle.own_laws.proofs.Reached.{Fixes, none_some}
use Rattle.own_laws.proofs.Side.{side_of}
use Rattle.own_laws.proofs.Rounds.{rounds_progress}
use Rattle.world_io.specs.Logs.{Piece, AreOffered, sizes}
use Rattle.plain_runner.specs.Runs.{output_of, AgreeOn}
use Rattle.plain_runner.specs.declared.ending.Ending.{Ending}
use Rattle.plain_runner.specs.declared.ending.Ending.TheVariants.{Exited, Trapped, TurnsOver, StoreFault, SinkFault, NoMemory}
use Rattle.run_promises.specs.Schedules.{StandsAs}
use Rattle.run_promises.specs.Promises.{EndsAs, FailedPuts}
use Rattle.run_promises.specs.Laws.{FaultsAt, MovesAreAsPlain, MovesGetOn}
use Rattle.run_promises.proofs.Puts.{puts_are_outputs}

-- ---- counts

-- the piece of a put
piece-at : (ps : List Piece) (i : ℕ) (p : ℕ × ℕ) → slice_get (map sizes ps) i ≡ Some p → (q : Piece) × (slice_get ps i ≡ Some q) × (sizes q ≡ p)
piece-at [] i p e = none_some e
piece-at (q ∷ ps) zero p e = (q, refl, cc)
piece-at (q ∷ ps) (suc i) p e = piece-at ps i p e

-- counts that agree with pieces fix their puts
fixes-pieces : (counts : List ℕ) (ps : List Piece) (o : Output) → o ≡ output_of ps → AgreeOn counts ps → Fixes counts o.puts
fixes-pieces counts ps o same h = subst (λ (o : Output). Fixes counts o.puts) (sym same) (record {
  by = λ i p e.
      let q = piece-at ps i p e in
      subst (λ (p : ℕ × ℕ). unwrap_or (slice_get counts i) p.0 ≡ p.1) q.2 (h i q.0 q.1);
})

-- ---- ends

ends-as : (turns : ℕ) (ms : Moves) (r : Run) (ending : Ending) (end : End) (s : State) → StandsAs turns ms r ending → SameEnd r.end end → (r.end ≡ None → s.exited ≡ None)
    → EndsAs end r.own_done s ending
ends-as turns ms r (Exited code) end s stands same goes = subst (λ o. SameEnd o end) stands same
ends-as turns ms r (Trapped cause pc) end s stands same goes = subst (λ o. SameEnd o end) stands same
ends-as turns ms r (TurnsOver count) end s stands same goes = (goes stands.0, stands.2)
ends-as turns ms r NoMemory end s stands same goes = goes stands
ends-as turns ms r StoreFault end s stands same goes = tt
ends-as turns ms r SinkFault end s stands same goes = tt

-- one put failed where a sink did
sink-puts : (out err : Option (List ℕ)) → FaultsAt (Some SinkFailed) out err → FailedPuts SinkFault out err
sink-puts (Some bytes) None h = tt
sink-puts None (Some bytes) h = tt
sink-puts None None h = h
sink-puts (Some bytes) (Some others) h = h

failed-puts : (turns : ℕ) (ms : Moves) (r : Run) (ending : Ending) (out err : Option (List ℕ)) → StandsAs turns ms r ending → FaultsAt r.end out err → FailedPuts ending out err
failed-puts turns ms r (Exited code) out err stands h = subst (λ o. FaultsAt o out err) stands h
failed-puts turns ms r (Trapped cause pc) out err stands h = subst (λ o. FaultsAt o out err) stands h
failed-puts turns ms r (TurnsOver count) out err stands h = subst (λ o. FaultsAt o out err) stands.0 h
failed-puts turns ms r NoMemory out err stands h = subst (λ o. FaultsAt o out err) stands h
failed-puts turns ms r StoreFault out err stands h = subst (λ o. FaultsAt o out err) stands h
failed-puts turns ms r SinkFault out err stands h = sink-puts out err (subst (λ o. FaultsAt o out err) stands h)

-- ---- whole runs

pub moves_are_as_plain : MovesAreAsPlain
moves_are_as_plain pattern turns ending w ms old new acc to =
    let r : Run = run w ms in
    let p = puts_are_outputs w pattern turns ms acc to.made in
    let f : Follows w (side_of r) = follows w (side_of r) (own_side w acc ms) in
    let out : f.state.out ≡ output_of p.outs = sym (ap (λ (s : State). s.out) f.own) ∙ p.out_is in
    let err : f.state.err ≡ output_of p.errs = sym (ap (λ (s : State). s.err) f.own) ∙ p.err_is in
    record {
      n = r.own_done;
      state = f.state;
      outs = p.outs;
      errs = p.errs;
      reached = λ t a. f.reached.plain t (fixes-pieces t.out p.outs f.state.out out a.out, fixes-pieces t.err p.errs f.state.err err a.err);
      out_is = out;
      err_is = err;
      ends = λ t. ends-as turns ms r ending (end_of w.image w.files t f.state) f.state to.stands (f.end t) f.goes_on;
      out_fault = p.out_fault;
      err_fault = p.err_fault;
      failed = failed-puts turns ms r ending p.out_fault p.err_fault to.stands p.faults;
      out_log = subst (λ puts. AreOffered old.out puts new.out) p.out to.heard.out;
      err_log = subst (λ puts. AreOffered old.err puts new.err) p.err to.heard.err;
    }

false_true : {A : Type 0} → false ≡ true → A
false_true e = cc

pub moves_get_on : MovesGetOn
moves_get_on pattern turns ending w ms old new acc to count q e enough = by_stand (subst (λ z. StandsAs turns ms (run w ms) z) e to.stands)
  where
    by_stand : ((run w ms).end ≡ None) × (length ms ≡ turns) × (count ≡ (run w ms).own_done) → q ≤ count
    by_stand h = by_case (rounds_progress w acc pattern enough.own enough.fetch q ms to.made.schedule (omega (arith, enough.rounds, h.1)))
      where
        by_case : IsSome (run w ms).end ⊎ (q ≤ (run w ms).own_done) → q ≤ count
        by_case (inl o) = false_true (subst (λ z. IsSome z) h.0 o)
        by_case (inr l) = omega (arith, l, h.2)
