use Rattle.std.proofs.Common.{arith}
use Rattle.fetch_plan.specs.Traces.{trace_needs}
use Rattle.fetch_plan.proofs.Gathering.{goes_on}
use Rattle.fetch_plan.proofs.traces.gather.Goals as goal

pub loop-bytes-preserved : goal.loop-bytes-preserved
loop-bytes-preserved c = record {
  few = omega (arith, c.loop-bytes.invariant.few, c.in-Some.ensures.shorter);
  leads =
      goes_on (trace_needs c.args.trace.now) c.loop-bytes.numbering c.loop-bytes.number c.loop-bytes.rest.now c.loop-bytes.invariant.leads
      c.in-Some.bytes.now c.in-Some.more.now c.in-Some-parse_line.line c.add_line.new.self c.in-Some.ensures.lines c.in-Some-parse_line.ensures.value c.in-Ok.ensures;
}
