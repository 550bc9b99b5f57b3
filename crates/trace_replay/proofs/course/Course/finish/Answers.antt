use Rattle.std.proofs.Common.{◌≡◌, ◌+◌, ◌-◌, refl, sym, ◌∙◌, ap, arith, is_some, true, false}
use Rattle.program_model.specs.Cache.{in_flight}
use Rattle.trace_replay.specs.Lists.{BoundedCache, after_finish}
use Rattle.trace_replay.specs.Replays.{finishes, with_cache}
use Rattle.trace_replay.specs.Courses.{settings, shown}
use Rattle.trace_replay.proofs.Finishing.{none_from, finishes-none, finishes-zero, put, put-goes_on, put-fits}
use Rattle.trace_replay.proofs.course.Course.finish.Goals as goal

pub returns-then-not-any-clause-shown : goal.returns-then-not-any-clause-shown
returns-then-not-any-clause-shown c =
    let now = shown c.loop.self in
    let s = settings c.args.self.now in
    let none = none_from (in_flight now.cache) (sym c.in_ok-any.ensures.any ∙ c.if-not-any.true) in
    ap (λ (b : BoundedCache). with_cache now b.cache) c.in_ok-any.ensures.lists
    ∙ ap (λ o. with_cache now (after_finish o c.loop.self.lists.blocks now.cache)) none
    ∙ sym (finishes-none s (c.args.most - c.loop.counter) now none)
    ∙ c.loop.invariant.rest

pub overflow_add-self : goal.overflow_add-self
overflow_add-self c =
    let now = shown c.loop.self in
    let s = settings c.args.self.now in
    let some : is_some (in_flight now.cache) ≡ true = sym c.in_ok-any.ensures.any ∙ c.if-not-any.false in
    let more = put-fits s (c.args.most - c.loop.counter) now (in_flight now.cache) (omega (arith, c.loop-test.true)) refl some in
    omega (arith, more, ap (λ r. r.fetches) c.loop.invariant.rest, c.requires)

pub loop-preserved : goal.loop-preserved
loop-preserved c =
    let now = shown c.loop.self in
    let s = settings c.args.self.now in
    let lists = c.in_ok-any.ensures.lists in
    let some : is_some (in_flight now.cache) ≡ true = sym c.in_ok-any.ensures.any ∙ c.if-not-any.false in
    let blocks : c.loop.self.lists.blocks ≡ s.blocks = ap (λ t. t.blocks) c.loop.invariant.same in
    let left = c.args.most - (c.loop.counter + 1) in
    record {
      same = ap (λ (b : BoundedCache). record (settings c.loop.self) { blocks = b.blocks; depth = b.depth }) lists ∙ c.loop.invariant.same;
      rest =
          ap (λ (b : BoundedCache). finishes s left (record now { cache = b.cache; fetches = now.fetches + 1 })) lists
          ∙ ap (λ n. finishes s left (record now { cache = after_finish (in_flight now.cache) n now.cache; fetches = now.fetches + 1 })) blocks
          ∙ put-goes_on s (c.args.most - c.loop.counter) left now (in_flight now.cache) (omega (arith, c.loop-test.true)) refl some
          ∙ c.loop.invariant.rest;
    }

pub returns-clause-shown : goal.returns-clause-shown
returns-clause-shown c =
    let s = settings c.args.self.now in
    let none : c.args.most - c.loop.counter ≡ 0 = omega (arith, c.loop-test.false) in
    sym (finishes-zero s (shown c.loop.self)) ∙ sym (ap (λ n. finishes s n (shown c.loop.self)) none) ∙ c.loop.invariant.rest
