use Rattle.std.proofs.Common.{◌≡◌, map, string_bytes, IfSome}
use Rattle.std.proofs.lemmas.Result.{IfOk-weaker}
use Rattle.command_words.specs.CommandLine.{command_of}
use Rattle.command_words.specs.Limits.{IsWithinLimits}
use Rattle.command_words.proofs.LimitLaws.{command_of-within}
use Rattle.command_words.proofs.request.read_words.Goals as goal

pub returns-clause-limits : goal.returns-clause-limits
returns-clause-limits c =
    let words = map string_bytes c.args.words.now in
    IfOk-weaker c.request_of_words.result (λ request. request ≡ command_of words) (λ request. IfSome request IsWithinLimits)
    (command_of-within words) c.request_of_words.ensures
