use Rattle.std.proofs.Common.{List, ℕ, subst}
use Rattle.runner.specs.Opens.{OpensAs}
use Rattle.std.specs.Prelude.{Ok}
use Rattle.run_commands.proofs.opening.open.Goals as goal

pub returns-in-Ok : goal.returns-in-Ok
returns-in-Ok c =
    let opens = subst (λ (words : List (List ℕ)). OpensAs c.args.file.now words (Ok c.in-Ok.runner)) c.as_slice.ensures c.in-Ok.ensures.answer in
    (opens.0, record { stands = opens.1; counts = c.in-Ok.ensures.counts; goes_on = c.in-Ok.ensures.goes_on })
