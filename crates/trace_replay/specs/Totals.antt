-- The totals of a replay.
use Rattle.trace_replay.specs.Replays.{Replayed}
use Rattle.trace_replay.specs.declared.totals.Totals.{Totals}

abbrev pub totals_of : Replayed → Totals
totals_of r = record { reads = r.reads; needs = r.needs; stalls = r.stalls; fetches = r.fetches }
