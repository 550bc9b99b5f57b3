use Rattle.std.proofs.Common.{◌≡◌, ◌≢◌, ◌≤◌, ◌+◌, ◌⊎◌, not, ◌||◌, inl, inr, sym, ap, ◌∙◌, arith}
use Rattle.std.specs.Prelude.{is_none}
use Rattle.spec_base.specs.declared.note.Move.TheVariants.{O, S, T, D}
use Rattle.spec_base.specs.declared.note.ShadowState.{ShadowState}
use Rattle.program_model.specs.Cache.{Cache, in_flight}
use Rattle.run_model.specs.ShadowMoves.{is_running}
use Rattle.cache_queue.specs.State.{lists}
use Rattle.runner.proofs.MovesMade.{made-as, made-of, made-own, never-starved, starved-or}
use Rattle.plain_runner.specs.Runs.{Outside}
use Rattle.runner_parts.specs.declared.turn.Turn.TheVariants.{NoMemory}
use Rattle.runner.specs.declared.runner.Runner.{Runner}
use Rattle.runner.proofs.Causes.{going-caused, beside-later, tells-as}
use Rattle.runner.proofs.runner.Runner.go_on.Goals as goal

pub returns-in-O-clause-makes : goal.returns-in-O-clause-makes
returns-in-O-clause-makes g c made =
    made-as c.args.step O c.own_move.result _ _ _ _ c.in-O.is (made-own c.own_move.result _ _ _ _ c.requires.on (c.own_move.ensures.turn made) (c.own_move.ensures.makes made))

pub returns-in-O-clause-moves : goal.returns-in-O-clause-moves
returns-in-O-clause-moves g c = by (starved-or c.own_move.result)
  where
    by : (c.own_move.result ≡ NoMemory) ⊎ (c.own_move.result ≢ NoMemory) → c.own_move.new.self.counts.moves ≤ c.args.self.now.counts.moves + 1
    by (inl none) = (let same = ap (λ (v : Runner). v.counts.moves) (c.own_move.ensures.wants none).same in omega (arith, same))
    by (inr made) = (let more = c.own_move.ensures.moves made in omega (arith, more))

pub returns-in-O-clause-files : goal.returns-in-O-clause-files
returns-in-O-clause-files g c = by (starved-or c.own_move.result)
  where
    by : (c.own_move.result ≡ NoMemory) ⊎ (c.own_move.result ≢ NoMemory) → (g.D.Store.state c.own_move.new.store).files ≡ (g.D.Store.state c.args.store.now).files
    by (inl none) = ap (λ (o : Outside). o.store.files) (c.own_move.ensures.wants none).outside
    by (inr made) = (c.own_move.ensures.makes made).files

pub returns-in-S-clause-makes : goal.returns-in-S-clause-makes
returns-in-S-clause-makes g c made =
    made-as c.args.step S c.shadow_move.result _ _ _ _ c.in-S.is
    (made-of S c.shadow_move.result _ _ _ _ _ _ (not (is_running c.args.self.now.state)) c.requires.on c.shadow_move.ensures.turn (λ w r h. ap (λ (s : ShadowState). not (is_running s)) h.shadow.state_is) c.shadow_move.ensures.makes)

pub returns-in-S-clause-wants : goal.returns-in-S-clause-wants
returns-in-S-clause-wants g c none = absurd (never-starved _ _ (sym c.shadow_move.ensures.turn ∙ none))

pub returns-in-T-clause-makes : goal.returns-in-T-clause-makes
returns-in-T-clause-makes g c made =
    made-as c.args.step T c.stalled_move.result _ _ _ _ c.in-T.is
    (made-of T c.stalled_move.result _ _ _ _ _ _ (not c.args.self.now.stalled || not (is_running c.args.self.now.state)) c.requires.on c.stalled_move.ensures.turn
    (λ w r h. λ i. not (h.own.stalled_is i) || not (is_running (h.shadow.state_is i))) c.stalled_move.ensures.makes)

pub returns-in-T-clause-wants : goal.returns-in-T-clause-wants
returns-in-T-clause-wants g c none = absurd (never-starved _ _ (sym c.stalled_move.ensures.turn ∙ none))

pub returns-in-D-clause-makes : goal.returns-in-D-clause-makes
returns-in-D-clause-makes g c made =
    made-as c.args.step D c.fetch_move.result _ _ _ _ c.in-D.is
    (made-of D c.fetch_move.result _ _ _ _ _ _ (is_none (in_flight (lists c.args.self.now.cache))) c.requires.on c.fetch_move.ensures.turn (λ w r h. ap (λ (k : Cache). is_none (in_flight k)) h.cache.lists_are) c.fetch_move.ensures.makes)

pub returns-in-D-clause-wants : goal.returns-in-D-clause-wants
returns-in-D-clause-wants g c none = absurd (never-starved _ _ (sym c.fetch_move.ensures.turn ∙ none))

pub returns-in-S-clause-files : goal.returns-in-S-clause-files
returns-in-S-clause-files g c = c.shadow_move.ensures.makes.files

pub returns-in-T-clause-files : goal.returns-in-T-clause-files
returns-in-T-clause-files g c = c.stalled_move.ensures.makes.files

pub returns-in-D-clause-files : goal.returns-in-D-clause-files
returns-in-D-clause-files g c = c.fetch_move.ensures.makes.files

pub returns-in-S-clause-caused : goal.returns-in-S-clause-caused
returns-in-S-clause-caused g c = going-caused _ _ _ (c.shadow_move.ensures.end ∙ c.requires.on) (beside-later _ _ _ _ c.shadow_move.ensures.later)

pub returns-in-S-clause-end : goal.returns-in-S-clause-end
returns-in-S-clause-end g c = tells-as c.shadow_move.result (not (is_running c.args.self.now.state)) c.shadow_move.new.self.end c.shadow_move.ensures.turn (λ idle. c.shadow_move.ensures.end ∙ c.requires.on)

pub returns-in-T-clause-caused : goal.returns-in-T-clause-caused
returns-in-T-clause-caused g c = going-caused _ _ _ (c.stalled_move.ensures.end ∙ c.requires.on) (beside-later _ _ _ _ c.stalled_move.ensures.later)

pub returns-in-T-clause-end : goal.returns-in-T-clause-end
returns-in-T-clause-end g c = tells-as c.stalled_move.result (not c.args.self.now.stalled || not (is_running c.args.self.now.state)) c.stalled_move.new.self.end c.stalled_move.ensures.turn (λ idle. c.stalled_move.ensures.end ∙ c.requires.on)

pub returns-in-D-clause-caused : goal.returns-in-D-clause-caused
returns-in-D-clause-caused g c = c.fetch_move.ensures.caused (g.O.Sink.state c.args.out.now) (g.E.Sink.state c.args.err.now)
