use Rattle.std.proofs.Common.{rules}
use Rattle.std.proofs.Math.Path.{fun_ext}
use Rattle.world_io.specs.FileMaps.{told}
use Rattle.world_io.proofs.file_map.FileMap.new.Goals as goal

pub returns : goal.returns
unfolding told
returns c = fun_ext (λ name. search rules)
