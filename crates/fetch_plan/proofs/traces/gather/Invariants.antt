use Rattle.std.proofs.Common.{◌+◌, ◌≤◌, length}
use Rattle.fetch_plan.specs.Traces.{trace_needs}
use Rattle.fetch_plan.proofs.Gathering.{Leads}
use Rattle.fetch_plan.proofs.traces.gather.Given as goal

abbrev pub invariant-loop-bytes : goal.invariant-loop-bytes
invariant-loop-bytes l = record {
  few : l.number + length l.rest ≤ length l.trace;
  leads : Leads (trace_needs l.trace) l.numbering l.number l.rest;
}

abbrev pub decreases-loop-bytes : goal.decreases-loop-bytes
decreases-loop-bytes l = length l.rest
