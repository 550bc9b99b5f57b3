use Rattle.std.proofs.Common.{◌+◌, ◌∙◌, sym, ap, arith}
use Rattle.trace_replay.proofs.Feeding.{Leads, goes_on, stops, ends}
use Rattle.trace_replay.proofs.traces.replay_trace.Goals as goal
