use Rattle.std.proofs.Common.{◌≡◌, pos, ◌∙◌}
use Rattle.spec_base.specs.declared.note.Note.TheVariants as note
use Rattle.rv_model.specs.Registers.{reg}
use Rattle.run_model.specs.OwnMoves.{call_note}
use Rattle.machine_laws.specs.OneMachine.{space_of_run}
use Rattle.runner_parts.specs.Counts.{one_read}
use Rattle.runner_parts.specs.OwnCalls.{told_read}
use Rattle.runner_parts.proofs.ReadFronts.{told-is}
use Rattle.runner.proofs.runner.Runner.count_read.Goals as goal

pub returns-clause-shows : goal.returns-clause-shows
unfolding space_of_run
returns-clause-shows c w r h =
    let call : c.count_note-call.result ≡ call_note r.own (pos c.args.spot.now.count) =
    c.count_note-call.ensures ∙ (λ i. note.Call (reg (h.own.hart i).registers 17) (reg (h.own.hart i).registers 10) (reg (h.own.hart i).registers 11) (reg (h.own.hart i).registers 12) (pos c.args.spot.now.count)) in
    record {
      space = h.space;
      own = h.own;
      shadow = h.shadow;
      sizes = h.sizes;
      cache = h.cache;
      counts = c.read.ensures ∙ (λ i. one_read (h.own.asked_is i) (h.counts i));
      ahead = h.ahead;
      whole = h.whole;
      end = h.end;
      notes = c.tell_read.ensures ∙ (λ i. told_read (h.own.asked_is i) c.args.spot.now (call i)) ∙ told-is r.asked r.own c.args.spot.now;
      text = h.text;
    }
