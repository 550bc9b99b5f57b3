use Rattle.std.proofs.Common.{rules}
use Rattle.std.proofs.lemmas.List.Edits.{map_over_more}
use Rattle.code_model.specs.Patch.{patched_word}
use Rattle.run_loader.proofs.parts.patch.Goals as goal

pub loop-word-preserved : goal.loop-word-preserved
loop-word-preserved c = search (rules, map_over_more patched_word)
