use Rattle.std.proofs.Common.{◌≡◌, ℤ, Some, sym, subst, ◌∙◌}
use Rattle.program_model.specs.Descriptors.{Descriptors}
use Rattle.program_model.specs.Calls.{opened}
use Rattle.mark_laws.specs.Sizes.{TrueSizes}
use Rattle.file_calls.specs.Plans.{changed}
use Rattle.runner.proofs.Arrivals.{assumed-as}
use Rattle.runner.proofs.runner.Runner.assume_found.Goals as goal

pub returns-clause-shows : goal.returns-clause-shows
returns-clause-shows c w r h sizes =
    let after : Descriptors × ℤ = (changed c.args.self.now.shadow_files c.found-after.result.0, c.found-after.result.1) in
    let is : after ≡ opened r.shadow.files c.args.name.now (Some c.args.size) = sym c.found-after.ensures.plan ∙ (λ i. opened (h.shadow.files_are i) c.args.name.now (Some c.args.size)) in
    assumed-as _ w r after (opened r.shadow.files c.args.name.now (Some c.args.size)) is
    (c.assume_change.ensures.shows w r h (subst (λ (o : Descriptors × ℤ). TrueSizes w.files o.0) (sym is) sizes))
