-- The laws of the own side: preservation, and that it follows the run from the restart.
use Rattle.std.proofs.Common.{◌≡◌, ℕ, ◌<◌, true, not, ◌==◌, Option, Some, None, refl, ◌∙◌, ap, sym, subst, is_some, arith}
use Rattle.std.proofs.lemmas.Bool.Decides.{nat_tests}
use Rattle.std.specs.Option.{option_and_then}
use Rattle.program_model.specs.PlainRun.{State, Output, state_after, all_taken}
use Rattle.run_model.specs.Run.{World, Run, opened_run}
use Rattle.run_model.specs.Moves.{Moves, run}
use Rattle.run_model.specs.Restarts.{from_restart}
use Rattle.run_laws.specs.OwnLaws.{Accepted, Preserved, puts_of, OwnIs, OwnFollows}
use Rattle.own_laws.proofs.OwnSide.{OwnSide, in_program, Follows, follows, run-goes}
use Rattle.own_laws.proofs.Reached.{Fixes, Fixes-counts_of, none_some, false_true}
use Rattle.own_laws.proofs.Side.{side_of, tally_of}

-- the own side of a run of an accepted program is at one of its stages
pub own_side : (w : World) → Accepted w → (ms : Moves) → OwnSide w (side_of (run w ms))
unfolding state_after
own_side w a ms =
    run-goes w a ms (opened_run w)
    (in_program (tally_of (opened_run w)) 0 w.image.start w.image.start _ (record { plain = λ taken h. refl; since = λ o e. none_some e; began = refl }) a.fresh refl)

-- ---- preservation

-- the rewritten program does what the plain one does
pub preserves : Preserved
preserves w a ms =
    let r : Run = run w ms in
    let f : Follows w (side_of r) = follows w (side_of r) (own_side w a ms) in
    let out : r.own.out ≡ f.state.out = ap (λ (s : State). s.out) f.own in
    let err : r.own.err ≡ f.state.err = ap (λ (s : State). s.err) f.own in
    record {
      state = f.state;
      reached =
          f.reached.plain (puts_of r) (
            subst (λ (o : Output). Fixes (puts_of r).out o.puts) out (Fixes-counts_of r.own.out.puts),
            subst (λ (o : Output). Fixes (puts_of r).err o.puts) err (Fixes-counts_of r.own.err.puts),
          );
      calls = ap (λ (s : State). s.calls) f.own;
      out = out;
      err = err;
      end = f.end (puts_of r);
      goes_on = f.goes_on;
    }

-- ---- the run from the restart

-- while puts are whole, the own side follows it
pub own_follows : OwnFollows
own_follows w a ms restarted whole =
    by_origin r.since.origin refl
  where
    r : Run
    r = run w ms

    f : Follows w (side_of r)
    f = follows w (side_of r) (own_side w a ms)

    by_origin : (origin : Option State) → r.since.origin ≡ origin → (q : State) × (from_restart w r r.since.own ≡ Some q) × OwnIs r q
    by_origin None e = false_true (ap is_some (sym e) ∙ f.reached.began ∙ started r.restarts restarted)
      where
        started : (n : ℕ) → 0 < n → not (n == 0) ≡ true
        started n h = grind (arith, nat_tests)
    by_origin (Some o) e = (
      f.state,
      ap (λ origin. option_and_then (λ s. state_after w.image w.files all_taken s r.since.own) origin) e ∙ f.reached.since o e whole,
      record {
        memory = ap (λ (s : State). s.memory) f.own;
        files = ap (λ (s : State). s.files) f.own;
        calls = ap (λ (s : State). s.calls) f.own;
        out = ap (λ (s : State). s.out) f.own;
        err = ap (λ (s : State). s.err) f.own;
        exited = ap (λ (s : State). s.exited) f.own;
        place = λ v. (ap (λ (s : State). s.registers) (f.place v), ap (λ (s : State). s.pc) (f.place v));
      },
    )
