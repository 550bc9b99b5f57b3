-- What holds of the fields of a cache.
use Rattle.cache_queue.specs.Orders.{IsOrderly}
use Rattle.cache_queue.specs.State.{CacheState, lists}
use Rattle.cache_queue.specs.declared.cache.Cache.TheInside.{Inside}

abbrev pub state_of : Inside → CacheState
state_of c = record { blocks = c.blocks; queue = c.queue.items; demanded = c.demanded; depth = c.queue.capacity }

-- no block stands twice in the lists
abbrev pub HasOrder : Inside → Type 0
HasOrder c = IsOrderly (lists (state_of c))
