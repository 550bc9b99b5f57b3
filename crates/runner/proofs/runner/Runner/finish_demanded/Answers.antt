use Rattle.std.proofs.Common.{◌≡◌, ℕ, ◌*◌, ◌<◌, true, List, length, take, drop, None, sym, ap, subst, ◌∙◌, arith}
use Rattle.std.specs.Vec.{with_items}
use Rattle.std.proofs.lemmas.List.{with_items_is}
use Rattle.spec_base.specs.declared.note.Note.{Note}
use Rattle.program_model.specs.Cache.{Cache, blocks_of}
use Rattle.machine_laws.specs.OneMachine.{space_of_run}
use Rattle.cache_queue.specs.State.{lists}
use Rattle.cache_queue.specs.Finishes.{IsOf, finished}
use Rattle.runner_parts.specs.Answers.{finish_notes, had_after, demanded_after}
use Rattle.runner_parts.specs.Parts.{own_side, IsGathering}
use Rattle.runner_parts.specs.Staged.{joined, StandsBehind}
use Rattle.runner_parts.proofs.Finishes.{is-gathering, demanded-finish, gathers-after}
use Rattle.runner_parts.proofs.ReadFronts.{silent-text}
use Rattle.runner.proofs.Moved.{shows-as, still-none}
use Rattle.runner.proofs.runner.Runner.finish_demanded.Goals as goal

pub returns-clause-finishes : goal.returns-clause-finishes
unfolding space_of_run
returns-clause-finishes g c =
    record {
      bytes = take 4096 (drop (4096 * c.min-place.result) c.finish_at-finished.new.into);
      told = c.finish_at-finished.ensures.told;
      shows = λ w r h said.
          let f = c.finish_at-finished.result in
          let waits : r.stalled ≡ true = sym h.own.stalled_is ∙ c.requires.waits in
          let goes : r.end ≡ None = still-none r.end (sym h.end ∙ c.requires.goes) in
          let gathering : IsGathering w (own_side r) r.cache c.args.self.now.staging.items = is-gathering w (own_side r) r.cache c.args.self.now.staging.items waits goes h.cache.gathers in
          let low : r.gathered < length (blocks_of gathering.spot) = gathering.more waits in
          let place : c.min-place.result ≡ r.gathered = omega (arith, c.min-place.ensures, h.own.gathered_is, low, gathering.few) in
          let was : lists c.args.self.now.cache ≡ r.cache = h.cache.lists_are in
          let of : IsOf r.cache f = subst (λ (k : Cache). IsOf k f) was c.finish_at-finished.ensures.block in
          let now : lists c.finish_at-finished.new.cache ≡ finished 256 r.cache f = c.finish_at-finished.ensures.lists ∙ (λ i. finished (h.cache.most i) (was i) f) in
          let before : take (4096 * c.min-place.result) c.deref_mut.result.now ≡ joined w.files (take r.gathered (blocks_of gathering.spot)) =
          (λ i. take (4096 * place i) (c.deref_mut.ensures.value i)) ∙ gathering.staged_are in
          let is : (with_items c.args.self.now.staging c.finish_at-finished.new.into).items ≡ c.finish_at-finished.new.into =
          with_items_is c.args.self.now.staging c.finish_at-finished.new.into (omega (arith, c.finish_at-finished.auto.into, c.deref_mut.ensures.len)) in
          let stands : StandsBehind w.files (take r.gathered (blocks_of gathering.spot)) r.gathered (with_items c.args.self.now.staging c.finish_at-finished.new.into).items f =
          subst (λ (k : List ℕ). StandsBehind w.files (take r.gathered (blocks_of gathering.spot)) r.gathered k f) (sym is)
          (subst (λ (k : ℕ). StandsBehind w.files (take r.gathered (blocks_of gathering.spot)) k c.finish_at-finished.new.into f) place
          (c.finish_at-finished.ensures.staged w.files (take r.gathered (blocks_of gathering.spot)) said before)) in
          shows-as _ w _ (demanded_after r f) (demanded-finish w r c.args.self.now.staging.items waits goes gathering f of)
          (record {
            space = h.space;
            own = record {
              hart = h.own.hart;
              side = h.own.side;
              files_are = h.own.files_are;
              asked_is = h.own.asked_is;
              stalled_is = c.still_waits-self.ensures;
              gathered_is = c.blocks_had-self.ensures ∙ ap (λ (n : ℕ). had_after n f) place;
            };
            shadow = h.shadow;
            sizes = h.sizes;
            cache = record {
              lists_are = now;
              most = c.finish_at-finished.ensures.most ∙ h.cache.most;
              depth = c.finish_at-finished.ensures.depth ∙ h.cache.depth;
              contents = c.finish_at-finished.ensures.true_to w.files said h.cache.contents;
              gathers = gathers-after w r c.args.self.now.staging.items waits goes gathering f (finished 256 r.cache f)
                  (with_items c.args.self.now.staging c.finish_at-finished.new.into).items of (sym (ap (λ (k : Cache). k.demanded) now) ∙ c.finish_at-finished.ensures.idle) stands;
            };
            counts = h.counts;
            ahead = h.ahead;
            whole = h.whole;
            end = c.end_of_finish-self.ensures;
            notes = c.tell_finish.ensures ∙ ap (λ (n : List Note). finish_notes n f) h.notes;
            text = silent-text c.args.self.now.text (with_items c.args.self.now.staging c.finish_at-finished.new.into).items c.args.self.now.staging.items r.text c.requires.quiet h.text;
          });
    }
