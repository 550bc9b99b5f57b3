use Rattle.std.proofs.Common.{◌≤◌, length, map, string_bytes, ap, ◌∙◌, arith}
use Rattle.std.proofs.lemmas.Bool.Decides.{nat_tests}
use Rattle.program_loader.proofs.ArgumentLemmas.{sum-count}
use Rattle.program_loader.proofs.tests.fit.Goals as goal

pub returns : goal.returns
returns c =
    let count = c.len.ensures ∙ (c.in_ok-bytes.bytes.ok.0 ∙ ap length c.in_ok-bytes.ensures) in
    let sum = sum-count (map string_bytes c.args.arguments.now) in
    λ fits. let short : c.len.result ≤ 65_536 = grind (arith, nat_tests) in omega (arith, short, count, sum)
