use Rattle.std.specs.Prelude.{slice_index}
use Rattle.file_calls.proofs.files.Files.planned.Goals as goal

pub returns-in-Open-clause-bounds : goal.returns-in-Open-clause-bounds
returns-in-Open-clause-bounds g c = c.open_plan.ensures.bounds (slice_index c.args.a 0)

pub returns-in-OpenAt-clause-bounds : goal.returns-in-OpenAt-clause-bounds
returns-in-OpenAt-clause-bounds g c = c.open_plan-in-OpenAt.ensures.bounds (slice_index c.args.a 0)
