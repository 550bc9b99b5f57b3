-- The files that a map in memory holds (this project's own).
use Rattle.std.specs.Prelude.{◌==◌}
use Rattle.std.specs.Option.{option_map}
use Rattle.std.specs.Cmp.Lexicographic.{pointwise}
use Rattle.indexmap.specs.IndexMap.{get}
use Rattle.spec_base.specs.Files.{Files}
use Rattle.world_io.specs.declared.file_map.FileMap.{FileMap}

-- the bytes under each name
unfoldable pub told : FileMap → Files
told map = λ name. option_map (λ content. content.bytes.items) (get (pointwise ◌==◌) map.files name)
