use Rattle.std.proofs.Common.{◌≡◌, Bool, None, sym, ap, subst, ◌∙◌}
use Rattle.program_model.specs.Cache.{Cache, in_flight}
use Rattle.run_model.specs.Moves.{begun}
use Rattle.cache_queue.specs.State.{CacheState, lists}
use Rattle.cache_queue.specs.Finishes.{IsOf}
use Rattle.move_requests.specs.Asked.{fetching_asks}
use Rattle.runner_parts.specs.Answers.{finish_answer}
use Rattle.runner_parts.specs.Heard.{said_by_finish}
use Rattle.runner_parts.specs.Turns.{turn_if, turn_after}
use Rattle.runner.proofs.FetchSteps.{idle-finish, asks-fetch, step-fetch}
use Rattle.runner.proofs.Hearing.{store-finished}
use Rattle.runner.proofs.Moved.{shows-as, still-none}
use Rattle.runner.proofs.ShadowSteps.{answers-as}
use Rattle.runner.proofs.Causes.{finish-caused, finish-tells}
use Rattle.runner.proofs.runner.Runner.fetch_move.Goals as goal

pub returns-clause-turn : goal.returns-clause-turn
returns-clause-turn g c =
    let f = c.finish_any-finished.result in
    let of : IsOf (lists c.args.self.now.cache) f = subst (λ (k : CacheState). IsOf (lists k) f) c.begin.ensures.cache c.finish_any-finished.ensures.block in
    c.turn_of_finish.ensures ∙ ap (λ (b : Bool). turn_if b (turn_after c.finish_any-finished.new.self.end)) (sym (idle-finish (lists c.args.self.now.cache) f of))

pub returns-clause-makes : goal.returns-clause-makes
returns-clause-makes g c =
    let f = c.finish_any-finished.result in
    let m = c.finish_any-finished.ensures.finishes in
    let of : IsOf (lists c.args.self.now.cache) f = subst (λ (k : CacheState). IsOf (lists k) f) c.begin.ensures.cache c.finish_any-finished.ensures.block in
    record {
      files = c.finish_any-finished.ensures.keeps.files;
      answer = finish_answer f;
      said = said_by_finish f m.bytes;
      told = m.told;
      hears = λ w r a h.
          let goes : r.end ≡ None = still-none r.end (sym h.end ∙ c.requires.on) in
          answers-as _ _ (finish_answer f) _ _ (asks-fetch w r goes ∙ ap (λ (k : Cache). fetching_asks (in_flight k)) (sym h.cache.lists_are))
          (store-finished (lists c.args.self.now.cache) f _ _ of c.finish_any-finished.ensures.keeps c.finish_any-finished.ensures.failed c.finish_any-finished.ensures.number);
      shows = λ w r a h ok said.
          let goes : r.end ≡ None = still-none r.end (sym h.end ∙ c.requires.on) in
          shows-as _ w _ _ (step-fetch w r goes (finish_answer f)) (m.shows w (begun r) (c.begin.ensures.shows w r h) said);
    }

pub returns-clause-caused : goal.returns-clause-caused
returns-clause-caused g c out err =
    finish-caused c.finish_any-finished.result _ _ _ out err c.finish_any-finished.ensures.end c.finish_any-finished.ensures.keeps.later c.finish_any-finished.ensures.failed

pub returns-clause-tells : goal.returns-clause-tells
returns-clause-tells g c = finish-tells c.finish_any-finished.result c.turn_of_finish.result c.finish_any-finished.new.self.end c.turn_of_finish.ensures c.finish_any-finished.ensures.end
