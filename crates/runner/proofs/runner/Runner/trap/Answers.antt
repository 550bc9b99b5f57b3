use Rattle.std.proofs.Common.{◌≡◌, ℕ, sym, ap, ◌∙◌}
use Rattle.hart_step.specs.Core.{Core}
use Rattle.word_laws.specs.OwnWords.{trapped}
use Rattle.runner.proofs.Moved.{shows-as}
use Rattle.runner.proofs.runner.Runner.trap.Goals as goal

pub returns-clause-shows : goal.returns-clause-shows
returns-clause-shows c w r h =
    let pc : r.own.pc ≡ c.pc-pc.result = sym (c.pc-pc.ensures ∙ ap (λ (k : Core). k.pc) h.own.hart) in
    shows-as _ w _ (trapped r c.args.cause c.pc-pc.result) (ap (λ (p : ℕ). trapped r c.args.cause p) pc) (c.stop.ensures.shows w r h)
