use Rattle.spechint_commands.proofs.Causes.{usage-none, store_fault-Rose, sink_fault-Rose, absent-told}
use Rattle.spechint_commands.proofs.Defined.{outcome-IsDefined}
use Rattle.spechint_commands.proofs.Promised.{outcome-Promises}
use Rattle.spechint_commands.proofs.top.spechint.Goals as goal

pub returns-clause-usage : goal.returns-clause-usage
returns-clause-usage g c = usage-none _ _ _ _ c.outcome.ensures.outcome

pub returns-clause-store_fault : goal.returns-clause-store_fault
returns-clause-store_fault g c = store_fault-Rose _ _ _ _ c.outcome.ensures.outcome

pub returns-clause-sink_fault : goal.returns-clause-sink_fault
returns-clause-sink_fault g c = sink_fault-Rose _ _ _ _ c.outcome.ensures.outcome

pub returns-clause-absent : goal.returns-clause-absent
returns-clause-absent g c = absent-told _ _ _ _ c.outcome.ensures.outcome

pub returns-clause-promised : goal.returns-clause-promised
returns-clause-promised g c =
    outcome-Promises (record {
      worlds = c.runs_are_as_plain.ensures.worlds;
      plain = c.runs_are_as_plain.ensures.plain;
      finish = c.runs_are_as_plain.ensures.finish;
      rounds = c.runs_are_as_plain.ensures.rounds;
      keep = c.runs_keep.ensures;
    })
    _ _ _ _ c.outcome.ensures.outcome

pub returns-clause-defined : goal.returns-clause-defined
returns-clause-defined g c = outcome-IsDefined c.runs_are_as_plain.ensures.plain _ _ _ _ c.outcome.ensures.outcome
