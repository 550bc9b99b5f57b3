-- What holds of the fields of the lists.
use Rattle.trace_replay.specs.Lists.{BoundedCache}
use Rattle.trace_replay.specs.Keyed.{lists_by, AreKeyed}
use Rattle.trace_replay.specs.declared.block_lists.BlockLists.TheInside.{Inside}

abbrev pub lists_of : Inside → BoundedCache
lists_of l = lists_by l.names l.keyed

abbrev pub AreFit : Inside → Type 0
AreFit l = AreKeyed l.names l.keyed
