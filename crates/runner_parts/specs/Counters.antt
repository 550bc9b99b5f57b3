-- What the fields of the counts are seen as.
use Rattle.runner_parts.specs.Counts.{Counted, AreFew}
use Rattle.runner_parts.specs.declared.counts.Counts.TheInside.{Inside}

abbrev pub counted_of : Inside → Counted
counted_of c =
    record {
      moves = c.moves;
      own_done = c.own_done;
      stalls = c.stalls;
      restarts = c.restarts;
      matched = c.matched;
      hints = c.hints;
      regions_most = c.regions_most;
      own_since = c.own_since;
      shadow_since = c.shadow_since;
    }

-- none of those that one move raises by one is above the moves
abbrev pub AreSound : Inside → Type 0
AreSound c = AreFew (counted_of c)
