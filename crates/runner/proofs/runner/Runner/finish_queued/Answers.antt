use Rattle.std.proofs.Common.{◌≡◌, List, None, take, sym, ap, subst, ◌∙◌}
use Rattle.spec_base.specs.declared.note.Note.{Note}
use Rattle.program_model.specs.Cache.{Cache}
use Rattle.machine_laws.specs.OneMachine.{space_of_run}
use Rattle.cache_queue.specs.State.{lists}
use Rattle.cache_queue.specs.Finishes.{IsOf, finished}
use Rattle.runner_parts.specs.Answers.{finish_notes}
use Rattle.runner_parts.specs.Parts.{own_side}
use Rattle.runner_parts.proofs.Finishes.{queued-finish, gathers-same}
use Rattle.runner.proofs.Causes.{queued-end}
use Rattle.runner.proofs.Moved.{shows-as}
use Rattle.runner.proofs.runner.Runner.finish_queued.Goals as goal

pub returns-clause-finishes : goal.returns-clause-finishes
unfolding space_of_run
returns-clause-finishes g c =
    let f = c.finish_beside-finished.result in
    record {
      bytes = take 4096 c.finish_beside-finished.new.into;
      told = c.finish_beside-finished.ensures.told;
      shows = λ w r h told.
          let was : lists c.args.self.now.cache ≡ r.cache = h.cache.lists_are in
          let none : r.cache.demanded ≡ None = sym (ap (λ (k : Cache). k.demanded) was) ∙ c.requires.idle in
          let of : IsOf r.cache f = subst (λ (k : Cache). IsOf k f) was c.finish_beside-finished.ensures.block in
          let now : lists c.finish_beside-finished.new.cache ≡ finished 256 r.cache f = c.finish_beside-finished.ensures.lists ∙ (λ i. finished (h.cache.most i) (was i) f) in
          shows-as _ w _ (record r { cache = finished 256 r.cache f; notes = finish_notes r.notes f }) (queued-finish w r f none of)
          (record {
            space = h.space;
            own = h.own;
            shadow = h.shadow;
            sizes = h.sizes;
            cache = record {
              lists_are = now;
              most = c.finish_beside-finished.ensures.most ∙ h.cache.most;
              depth = c.finish_beside-finished.ensures.depth ∙ h.cache.depth;
              contents = c.finish_beside-finished.ensures.true_to w.files told h.cache.contents;
              gathers = gathers-same w (own_side r) r.cache (finished 256 r.cache f) c.args.self.now.staging.items
                  (sym (ap (λ (k : Cache). k.demanded) now) ∙ c.finish_beside-finished.ensures.idle ∙ sym none) h.cache.gathers;
            };
            counts = h.counts;
            ahead = h.ahead;
            whole = h.whole;
            end = h.end;
            notes = c.tell_finish.ensures ∙ ap (λ (n : List Note). finish_notes n f) h.notes;
            text = h.text;
          });
    }

pub returns-clause-end : goal.returns-clause-end
returns-clause-end g c = c.requires.on ∙ queued-end (lists c.args.self.now.cache) c.finish_beside-finished.result c.requires.idle c.finish_beside-finished.ensures.block
