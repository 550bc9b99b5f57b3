use Rattle.std.proofs.Common.{rules}
use Rattle.std.proofs.Math.Path.{fun_ext}
use Rattle.std.specs.Prelude.{OnErr, Result, Ok, Err}
use Rattle.world_io.specs.FileMaps.{told}
use Rattle.world_io.proofs.file_map.FileMap.add.Goals as goal

OnErr-of : {V E P : Type 0} (r : Result V E) → P → OnErr r P
OnErr-of (Ok v) p = tt
OnErr-of (Err e) p = p

pub returns-in_err-insert-clause-err : goal.returns-in_err-insert-clause-err
unfolding told
returns-in_err-insert-clause-err c = OnErr-of _ (fun_ext (λ name. search rules))

pub returns-clause-added : goal.returns-clause-added
unfolding told
returns-clause-added c = fun_ext (λ name. search rules)
