use Rattle.std.proofs.Common.{sym, ◌∙◌}
use Rattle.command_words.proofs.ValueLaws.{parses}
use Rattle.command_words.proofs.number.number.Goals as goal

pub returns-in_default-3-clause-value : goal.returns-in_default-3-clause-value
returns-in_default-3-clause-value c =
    let parsed = parses c.args.word.now c.parse.result c.parse.ensures.value.0 (sym c.is_number.ensures ∙ c.if-not-is_number.false) in
    absurd cc
