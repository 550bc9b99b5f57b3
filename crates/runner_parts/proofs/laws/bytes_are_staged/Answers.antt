use Rattle.runner_parts.proofs.Staged.{bytes_are_staged}
use Rattle.runner_parts.proofs.laws.bytes_are_staged.Goals as goal

pub returns : goal.returns
returns c = bytes_are_staged
