use Rattle.std.proofs.Common.{◌≡◌, ℕ, pos, List, [], ◌∷◌, ◌&&◌, ◌||◌, ◌==◌, take, ap, sym, ◌∙◌}
use Rattle.std.proofs.lemmas.List.{take-take}
use Rattle.spec_base.specs.declared.note.Note.{Note}
use Rattle.spec_base.specs.declared.note.Note.TheVariants as note
use Rattle.rv_model.specs.Registers.{reg}
use Rattle.run_model.specs.OwnMoves.{call_note, sink_number}
use Rattle.machine_laws.specs.OneMachine.{space_of_run}
use Rattle.runner_parts.specs.Counts.{Counted}
use Rattle.runner.proofs.runner.Runner.tell_write.Goals as goal

pub returns-clause-shows : goal.returns-clause-shows
unfolding space_of_run
returns-clause-shows c w r address h bytes =
    let call : c.count_note-call.result ≡ call_note r.own (pos c.args.taken) =
    c.count_note-call.ensures ∙ (λ i. note.Call (reg (h.own.hart i).registers 17) (reg (h.own.hart i).registers 10) (reg (h.own.hart i).registers 11) (reg (h.own.hart i).registers 12) (pos c.args.taken)) in
    let never : c.never_restarted.result ≡ (r.restarts == 0) = c.never_restarted.ensures ∙ ap (λ (k : Counted). k.restarts == 0) h.counts in
    record {
      space = h.space;
      own = record { hart = h.own.hart; side = h.own.side; files_are = h.own.files_are; asked_is = h.own.asked_is; stalled_is = h.own.stalled_is; gathered_is = h.own.gathered_is };
      shadow = h.shadow;
      sizes = h.sizes;
      cache = h.cache;
      counts = h.counts;
      ahead = h.ahead;
      whole = c.still_whole-self.ensures ∙ (λ i. h.whole i && ((c.args.taken == c.args.count) || never i));
      end = h.end;
      notes = c.tell_put.ensures ∙ ap (λ (n : Note). note.Text (sink_number c.args.to_out) c.args.taken ∷ n ∷ []) call;
      text = sym (take-take c.args.taken c.args.count c.args.self.now.staging.items c.requires.within) ∙ ap (λ (k : List ℕ). take c.args.taken k) bytes;
    }
