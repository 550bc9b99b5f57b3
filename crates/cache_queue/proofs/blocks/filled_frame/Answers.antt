use Rattle.std.proofs.Common.{subst}
use Rattle.std.specs.Option.{IfSome}
use Rattle.page_pool.specs.Frames.{IsTaken}
use Rattle.cache_queue.proofs.Kept.{filled_from}
use Rattle.cache_queue.proofs.blocks.filled_frame.Goals as goal

pub returns-in-Ok-clause-ok : goal.returns-in-Ok-clause-ok
returns-in-Ok-clause-ok c =
    filled_from
    c.args.pool.now
    c.reserve.new.self
    c.take.new.self
    c.write.new.self
    c.unwrap-frame.result
    c.args.bytes.now
    c.in-Ok.ensures.ok
    (subst (λ o. IfSome o (λ frame. IsTaken c.reserve.new.self c.take.new.self frame)) c.unwrap-frame.ensures c.take.ensures.taken)
    c.write.ensures
    c.requires.size
