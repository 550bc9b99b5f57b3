use Rattle.std.proofs.Common.{List, ℕ, [], ◌∷◌, subst}
use Rattle.std.specs.Prelude.{Ok}
use Rattle.runner.specs.Opens.{OpensAs}
use Rattle.run_commands.proofs.demo.open.Goals as goal

pub returns-in-Ok : goal.returns-in-Ok
returns-in-Ok c =
    let opens = subst (λ (name : List ℕ). OpensAs c.args.file.now (name ∷ []) (Ok c.in-Ok.runner)) c.in_ok-name.ensures.ok c.in-Ok.ensures.answer in
    record { stands = opens.1; counts = c.in-Ok.ensures.counts; goes_on = c.in-Ok.ensures.goes_on }
