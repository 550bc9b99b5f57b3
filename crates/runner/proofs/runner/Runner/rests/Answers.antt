use Rattle.std.proofs.Common.{not, ◌||◌, sym, ap, ◌∙◌}
use Rattle.std.specs.Prelude.{is_none}
use Rattle.spec_base.specs.declared.note.Move.{Move}
use Rattle.spec_base.specs.declared.note.ShadowState.{ShadowState}
use Rattle.program_model.specs.Cache.{Cache, in_flight}
use Rattle.run_model.specs.ShadowMoves.{is_running}
use Rattle.run_model.specs.Moves.{is_idle}
use Rattle.runner.proofs.runner.Runner.rests.Goals as goal

pub returns-in-O : goal.returns-in-O
returns-in-O c w r h = h.own.stalled_is ∙ ap (λ (m : Move). is_idle m r) (sym c.in-O.is)

pub returns-in-S : goal.returns-in-S
returns-in-S c w r h = ap not c.runs.ensures ∙ ap (λ (s : ShadowState). not (is_running s)) h.shadow.state_is ∙ ap (λ (m : Move). is_idle m r) (sym c.in-S.is)

pub returns-in-T : goal.returns-in-T
returns-in-T c w r h =
    c.stays.ensures ∙ (λ i. not (h.own.stalled_is i) || not ((c.runs-in-T.ensures ∙ ap (λ (s : ShadowState). is_running s) h.shadow.state_is) i)) ∙ ap (λ (m : Move). is_idle m r) (sym c.in-T.is)

pub returns-in-D : goal.returns-in-D
returns-in-D c w r h = c.is_resting.ensures ∙ ap (λ (k : Cache). is_none (in_flight k)) h.cache.lists_are ∙ ap (λ (m : Move). is_idle m r) (sym c.in-D.is)
