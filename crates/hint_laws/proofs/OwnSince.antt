-- What an own move does to the counts since the restart: it leaves them, counts one instruction, or begins them anew.
use Rattle.std.proofs.Common.{◌≡◌, Bool, ◌⊎◌, inl, inr, Option, Some, None, refl}
use Rattle.std.specs.Prelude.{IsTrue}
use Rattle.spec_base.specs.declared.machine.View.TheVariants.{Stub}
use Rattle.spec_base.specs.declared.note.Move.TheVariants.{O}
use Rattle.run_model.specs.Run.{World, Run, RunEnd, Answer}
use Rattle.run_model.specs.OwnMoves.{counted, restarted, own_step}
use Rattle.run_model.specs.Moves.{begun, silent, step, step_unless}
use Rattle.own_laws.proofs.OwnSteps.{own_step-by}

-- the counts are left; one instruction more is counted, after which puts were whole only if they were so before; or a restart is made
pub data OwnSince (w : World) (r next : Run) : Type 0 where
  rests : next.since ≡ r.since → next.restarts ≡ r.restarts → OwnSince w r next
  counts : (whole : Bool) → (IsTrue whole → IsTrue r.since.whole) → next.since ≡ record (counted r.restarts r.since) { whole = whole } → next.restarts ≡ r.restarts → OwnSince w r next
  anew : r.view ≡ Stub → next ≡ restarted w r → OwnSince w r next

module _ (w : World) where
  -- an own move
  own_step-since : (x : Answer) (r : Run) → OwnSince w r (own_step w x r)
  own_step-since x r =
      own_step-by w x r (OwnSince w r)
      (record {
        stays = λ b. rests refl refl;
        goes = λ rs pc. counts r.since.whole (λ h. h) refl refl;
        stores = λ a width v. counts r.since.whole (λ h. h) refl refl;
        enters = rests refl refl;
        computes = λ rs pc page. rests refl refl;
        links = λ i a width v e f. rests refl refl;
        leaves = λ v. rests refl refl;
        stops = rests refl refl;
        restarts = λ v. anew v refl;
        performs_call = λ taken whole b h. counts whole h refl refl;
      })

  -- an own move, of a run that has ended or of one that goes on
  pub own-since : (x : Answer) (r : Run) → (step w r (O, x) ≡ silent r) ⊎ ((r.end ≡ None) × (step w r (O, x) ≡ own_step w x (begun r)) × OwnSince w (begun r) (step w r (O, x)))
  own-since x r = by_end r.end refl
    where
      by_end : (e : Option RunEnd) → r.end ≡ e → (step_unless e w r (O, x) ≡ silent r) ⊎ ((r.end ≡ None) × (step_unless e w r (O, x) ≡ own_step w x (begun r)) × OwnSince w (begun r) (step_unless e w r (O, x)))
      by_end (Some e) f = inl refl
      by_end None f = inr (f, refl, own_step-since x (begun r))
