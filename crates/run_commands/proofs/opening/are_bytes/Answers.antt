use Rattle.std.proofs.Common.{◌<◌, arith}
use Rattle.std.proofs.lemmas.List.Elements.{All-from_get_or}
use Rattle.run_loader.proofs.Texts.{arguments-bytes}
use Rattle.run_commands.proofs.opening.are_bytes.Goals as goal

pub returns-clause-file : goal.returns-clause-file
returns-clause-file c = All-from_get_or (λ b. b < 256) c.args._file.now 0 (λ i below. omega (arith, c.type_inv._file i))

pub returns-clause-words : goal.returns-clause-words
returns-clause-words c = arguments-bytes c.args._words.now
