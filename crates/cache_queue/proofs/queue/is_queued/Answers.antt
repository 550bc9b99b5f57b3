use Rattle.std.proofs.Common.{◌∙◌}
use Rattle.cache_queue.proofs.Order.{list_any-holds}
use Rattle.cache_queue.proofs.queue.is_queued.Goals as goal

pub returns : goal.returns
returns c = c.scan.ensures ∙ list_any-holds c.args.queue.now.items c.args.spot.now
