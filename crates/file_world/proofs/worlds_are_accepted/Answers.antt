use Rattle.file_world.proofs.Loaded.{files_are_accepted, recovered_are_accepted}
use Rattle.file_world.proofs.worlds_are_accepted.Goals as goal

pub returns-clause-files : goal.returns-clause-files
returns-clause-files c = files_are_accepted

pub returns-clause-recovered : goal.returns-clause-recovered
returns-clause-recovered c = recovered_are_accepted
