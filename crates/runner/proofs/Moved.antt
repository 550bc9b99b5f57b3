-- What a runner shows after a word of the own hart.
use Rattle.std.proofs.Common.{◌≡◌, ℕ, List, Option, Some, None, refl, inl, inr, sym, ap, subst, ◌∙◌}
use Rattle.spec_base.specs.declared.machine.View.{View}
use Rattle.spec_base.specs.declared.machine.View.TheVariants.{Program, Stub}
use Rattle.run_model.specs.Run.{World, Run, RunEnd, StoreFailed}
use Rattle.std.specs.Option.{option_map}
use Rattle.hart_step.specs.Core.{Core}
use Rattle.cache_queue.specs.State.{CacheState}
use Rattle.program_model.specs.Cache.{Cache}
use Rattle.runner_parts.specs.Parts.{OwnSide, own_side, side_core, ShowsCache, IsAtRest, Gathers, end_of_run}
use Rattle.runner_parts.proofs.Finishes.{gathers-with}
use Rattle.runner.specs.Shows.{Shows}
use Rattle.runner.specs.declared.runner.Runner.{Runner}

-- an equal run
pub shows-as : (v : Runner) (w : World) (r q : Run) → r ≡ q → Shows v w q → Shows v w r
shows-as v w r q e h = subst (λ (r : Run). Shows v w r) (sym e) h

-- the view of a shown hart
pub view-is : (c : Core) (r : Run) (v : View) → c ≡ side_core (own_side r) → c.view ≡ v → r.view ≡ v
view-is c r v e is = sym (ap (λ (c : Core). c.view) e) ∙ is

-- nothing is gathered in the program
pub at-rest : (w : World) (o : OwnSide) (cache : Cache) (staged : List ℕ) → o.view ≡ Program → Gathers w o cache staged → IsAtRest o cache
at-rest w o cache staged is (inl rest) = rest
at-rest w o cache staged is (inr (inl g)) = absurd (let e : Program ≡ Stub = sym is ∙ g.in_stub in cc)
at-rest w o cache staged is (inr (inr x)) = absurd (let e : Program ≡ Stub = sym is ∙ x.in_stub in cc)

-- the cache as it was, where nothing is gathered
pub cache-at_rest :
    (w : World) (o q : OwnSide) (cache : Cache) (held : CacheState) (staged : List ℕ) → ShowsCache w o cache held staged → IsAtRest o cache → q.gathered ≡ o.gathered → q.stalled ≡ o.stalled
    → ShowsCache w q cache held staged
cache-at_rest w o q cache held staged h rest e f =
    record {
      lists_are = h.lists_are;
      most = h.most;
      depth = h.depth;
      contents = h.contents;
      gathers = inl (record { none = e ∙ rest.none; goes = f ∙ rest.goes; undemanded = rest.undemanded });
    }

-- what it has, once the run has ended in a move in which it waits for nothing, or before
pub gathers-ended : (w : World) (r q : Run) (cache : Cache) (staged : List ℕ) → r.end ≡ None → own_side q ≡ record (own_side r) { end = q.end } → Gathers w (own_side r) cache staged → Gathers w (own_side q) cache staged
gathers-ended w r q cache staged goes same g =
    subst (λ (o : OwnSide). Gathers w o cache staged) (sym same)
    (gathers-with w (own_side r) q.end cache cache staged refl (λ over. absurd (let e : None ≡ Some StoreFailed = sym goes ∙ over in cc)) g)

-- no end is none
pub still-none : (o : Option RunEnd) → option_map end_of_run o ≡ None → o ≡ None
still-none None e = refl
still-none (Some x) e = absurd cc
