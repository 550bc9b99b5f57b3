use Rattle.std.proofs.Common.{◌≡◌, ◌≤◌, ℕ, ◌+◌, ◌-◌, ◌*◌, List, length, take, drop, Option, IfSome, subst, ap, ◌∙◌, arith}
use Rattle.std.proofs.lemmas.List.{length-take-le, length-drop}
use borrow.Rule.Slice.PartMut.{post_of}
use Rattle.spec_base.specs.Files.{Files}
use Rattle.cache_queue.specs.State.{CachedBlocks}
use Rattle.runner_parts.specs.Heard.{AreTrueOf, said_by_finish}
use Rattle.runner_parts.proofs.Finishes.{most-stays}
use Rattle.runner_parts.proofs.Staged.{stands-behind, mid-length}
use Rattle.runner_parts.proofs.Saying.{part-back, told-said, said-true, said-tells}
use Rattle.runner_parts.proofs.fetching.finish_at.Goals as goal

pub returns-clause-most : goal.returns-clause-most
returns-clause-most g c = ap (λ (b : CachedBlocks). b.most) c.finish.ensures.blocks ∙ most-stays c.args.cache.now.blocks c.finish.result _

pub returns-clause-told : goal.returns-clause-told
returns-clause-told g c =
    let place : ℕ = c.args.place in
    let room : 4096 * place + 4096 ≤ length c.args.into.now = omega (arith, c.requires.few, c.requires.room) in
    let block : length c.finish.new.into ≡ 4096 = c.finish.auto.into ∙ mid-length (4096 * place) 4096 c.args.into.now room in
    told-said _ c.finish.result c.finish.new.into _ (part-back place c.args.into.now c.finish.new.into (post_of (4096 * place) (4096 * place + 4096 - 4096 * place) c.args.into.now) (omega (arith, room)) block) c.finish.ensures.told

pub returns-clause-true_to : goal.returns-clause-true_to
returns-clause-true_to g c files said true_to =
    let place : ℕ = c.args.place in
    let room : 4096 * place + 4096 ≤ length c.args.into.now = omega (arith, c.requires.few, c.requires.room) in
    let block : length c.finish.new.into ≡ 4096 = c.finish.auto.into ∙ mid-length (4096 * place) 4096 c.args.into.now room in
    said-true files c.args.cache.now.blocks _ c.finish.result c.finish.new.into _
    (part-back place c.args.into.now c.finish.new.into (post_of (4096 * place) (4096 * place + 4096 - 4096 * place) c.args.into.now) (omega (arith, room)) block) c.finish.ensures.blocks said true_to

pub returns-clause-staged : goal.returns-clause-staged
returns-clause-staged g c files blocks said before =
    let place : ℕ = c.args.place in
    let room : 4096 * place + 4096 ≤ length c.args.into.now = omega (arith, c.requires.few, c.requires.room) in
    let block : length c.finish.new.into ≡ 4096 = c.finish.auto.into ∙ mid-length (4096 * place) 4096 c.args.into.now room in
    let back = part-back place c.args.into.now c.finish.new.into (post_of (4096 * place) (4096 * place + 4096 - 4096 * place) c.args.into.now) (omega (arith, room)) block in
    stands-behind files blocks place c.args.into.now c.finish.new.into (post_of (4096 * place) (4096 * place + 4096 - 4096 * place) c.args.into.now) c.finish.result (omega (arith, room)) before
    (said-tells files c.finish.result c.finish.new.into (subst (λ (k : List ℕ). AreTrueOf files (said_by_finish c.finish.result k)) back said))
