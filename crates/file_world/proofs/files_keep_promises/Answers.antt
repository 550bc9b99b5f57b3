use Rattle.file_world.proofs.Kept.{files_keep_promises}
use Rattle.file_world.proofs.files_keep_promises.Goals as goal

pub returns : goal.returns
returns c = files_keep_promises
