use Rattle.std.proofs.Common.{◌≡◌, None, refl, sym, subst}
use Rattle.spec_base.specs.Files.{Files}
use Rattle.cache_queue.specs.State.{CacheState}
use Rattle.cache_queue.specs.Flights.{state_of}
use Rattle.cache_queue.specs.Finishes.{TrueTo, padded_block}
use Rattle.cache_queue.proofs.Truth.{at_some, TrueTo-kept}
use Rattle.cache_queue.proofs.cache.Cache.finish.Goals as goal

pub returns-then-fetch_block-clause-true_to : goal.returns-then-fetch_block-clause-true_to
returns-then-fetch_block-clause-true_to g c =
    λ files told h.
    TrueTo-kept
    files
    (state_of (record { blocks = c.self.inside.blocks; queue = c.self.inside.queue; demanded = None }))
    c.in-Some.spot
    c.fetch_block.new.into
    c.keep.result
    c.keep.new.self
    (at_some
    (g.D.Store.state c.args.store.now).files
    (λ (all : Files). c.fetch_block.new.into ≡ padded_block (all c.in-Some.spot.name) c.in-Some.spot.block)
    files
    told
    (c.if-fetch_block.ensures.told refl))
    c.keep.ensures
    (subst (λ (s : CacheState). TrueTo files s.blocks) (sym c.self.view_is) h)

pub returns-in-Some-clause-true_to : goal.returns-in-Some-clause-true_to
returns-in-Some-clause-true_to g c = λ files told h. subst (λ (s : CacheState). TrueTo files s.blocks) (sym c.self.view_is) h

pub returns-then-fetch_block-2-clause-true_to : goal.returns-then-fetch_block-2-clause-true_to
returns-then-fetch_block-2-clause-true_to g c =
    λ files told h.
    TrueTo-kept
    files
    (state_of (record { blocks = c.self.inside.blocks; queue = c.pop_front.new.self; demanded = c.self.inside.demanded }))
    c.in-Some-pop_front.spot
    c.fetch_block-in-Some-pop_front.new.into
    c.keep-then-fetch_block-2.result
    c.keep-then-fetch_block-2.new.self
    (at_some
    (g.D.Store.state c.args.store.now).files
    (λ (all : Files). c.fetch_block-in-Some-pop_front.new.into ≡ padded_block (all c.in-Some-pop_front.spot.name) c.in-Some-pop_front.spot.block)
    files
    told
    (c.if-fetch_block-2.ensures.told refl))
    c.keep-then-fetch_block-2.ensures
    (subst (λ (s : CacheState). TrueTo files s.blocks) (sym c.self.view_is) h)

pub returns-else-fetch_block-2-clause-true_to : goal.returns-else-fetch_block-2-clause-true_to
returns-else-fetch_block-2-clause-true_to g c = λ files told h. subst (λ (s : CacheState). TrueTo files s.blocks) (sym c.self.view_is) h

pub returns-in-None-clause-true_to : goal.returns-in-None-clause-true_to
returns-in-None-clause-true_to g c = λ files told h. subst (λ (s : CacheState). TrueTo files s.blocks) (sym c.self.view_is) h
