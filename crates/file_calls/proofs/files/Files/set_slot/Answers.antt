use Rattle.std.proofs.lemmas.List.{map-set}
use Rattle.file_calls.proofs.files.Files.set_slot.Goals as goal

pub returns-then-number-lt32 : goal.returns-then-number-lt32
returns-then-number-lt32 c = rw (← c.self.view_is, map-set)
