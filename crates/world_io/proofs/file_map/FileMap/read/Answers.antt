use Rattle.std.proofs.Common.{ap, Some, ◌∙◌, sym}
use Rattle.std.specs.Option.{option_map}
use Rattle.world_io.specs.FileMaps.{told}
use Rattle.world_io.proofs.Blocks.{copied-HasBlock}
use Rattle.world_io.proofs.file_map.FileMap.read.Goals as goal

pub returns-clause-told : goal.returns-clause-told
unfolding told
returns-clause-told c =
    copied-HasBlock _ c.as_slice-bytes.result.now c.args.into.now c.copy_from_slice.new.self c.args.block c.min-count.result
    (ap (option_map (λ content. content.bytes.items)) (sym c.in-Some.ensures.value) ∙ ap Some (sym c.as_slice-bytes.ensures.value))
    c.min-count.ensures
    c.copy_from_slice.ensures.after
