use Rattle.std.proofs.Common.{◌≡◌, ◌+◌, ◌≤◌, false, length}
use Rattle.trace_replay.specs.Replays.{Settings}
use Rattle.trace_replay.specs.Traces.{trace_totals}
use Rattle.trace_replay.proofs.Feeding.{Leads}
use Rattle.trace_replay.proofs.traces.replay_trace.Given as goal

abbrev pub invariant-loop-bytes : goal.invariant-loop-bytes
invariant-loop-bytes l =
    let s : Settings = record { blocks = l.blocks; depth = l.depth; every = l.every } in
    record {
      settings : l.replay.settings ≡ s;
      alive : l.replay.failed ≡ false;
      lines : l.replay.lines ≡ l.number;
      few : l.number + length l.rest ≤ length l.trace;
      leads : Leads s (trace_totals s l.trace) l.replay.now l.number l.rest;
    }

abbrev pub decreases-loop-bytes : goal.decreases-loop-bytes
decreases-loop-bytes l = length l.rest
