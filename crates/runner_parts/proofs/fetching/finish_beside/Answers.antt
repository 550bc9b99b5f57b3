use Rattle.std.proofs.Common.{◌≡◌, ℕ, ◌-◌, List, length, drop, take, ap, ◌∙◌, arith}
use Rattle.std.proofs.lemmas.List.{length-take-le}
use borrow.Rule.Slice.PartMut.{post_of}
use Rattle.cache_queue.specs.State.{CachedBlocks}
use Rattle.runner_parts.proofs.Finishes.{most-stays}
use Rattle.runner_parts.proofs.Saying.{front-back, told-said, said-true}
use Rattle.runner_parts.proofs.fetching.finish_beside.Goals as goal

pub returns-clause-most : goal.returns-clause-most
returns-clause-most g c = ap (λ (b : CachedBlocks). b.most) c.finish.ensures.blocks ∙ most-stays c.args.cache.now.blocks c.finish.result _

pub returns-clause-told : goal.returns-clause-told
returns-clause-told g c =
    let block : length c.finish.new.into ≡ 4096 = c.finish.auto.into ∙ length-take-le 4096 c.args.into.now c.requires in
    told-said _ c.finish.result c.finish.new.into _ (front-back c.finish.new.into (post_of 0 4096 c.args.into.now) block) c.finish.ensures.told

pub returns-clause-true_to : goal.returns-clause-true_to
returns-clause-true_to g c files said true_to =
    let block : length c.finish.new.into ≡ 4096 = c.finish.auto.into ∙ length-take-le 4096 c.args.into.now c.requires in
    said-true files c.args.cache.now.blocks _ c.finish.result c.finish.new.into _ (front-back c.finish.new.into (post_of 0 4096 c.args.into.now) block) c.finish.ensures.blocks said true_to
