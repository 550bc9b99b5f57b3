use Rattle.std.proofs.Common.{rules}
use Rattle.std.proofs.lemmas.List.Edits.{map_over_more}
use Rattle.elf_writer.specs.ProgramCode.{ungated_word}
use Rattle.run_loader.proofs.parts.ungate.Goals as goal

pub loop-word-preserved : goal.loop-word-preserved
loop-word-preserved c = search (rules, map_over_more ungated_word)
