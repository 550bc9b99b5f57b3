use Rattle.std.proofs.Common.{◌≡◌, ◌++◌, take, drop}
use Rattle.program_model.specs.Cache.{without}
use Rattle.cache_queue.proofs.queue.pass_round.Given as goal

abbrev pub invariant-loop : goal.invariant-loop
invariant-loop l = record {
  items : l.queue.items ≡ drop l.counter l.initial.queue.items ++ without (take l.counter l.initial.queue.items) l.spot;
  capacity : l.queue.capacity ≡ l.initial.queue.capacity;
}
