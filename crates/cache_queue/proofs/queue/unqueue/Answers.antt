use Rattle.std.proofs.Common.{sym, ap}
use Rattle.circular_buffer.specs.Buffer.{buffer}
use Rattle.cache_queue.proofs.Spots.{without-absent}
use Rattle.cache_queue.proofs.queue.unqueue.Goals as goal

pub returns-else-is_queued : goal.returns-else-is_queued
returns-else-is_queued c =
    ap (λ items. buffer items c.args.queue.now.capacity)
    (sym (without-absent c.args.queue.now.items c.args.spot.now (sym c.if-is_queued.ensures)))
