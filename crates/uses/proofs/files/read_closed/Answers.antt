use Rattle.std.proofs.Common.{◌≡◌, ◌∙◌}
use Rattle.program_model.specs.Descriptors.{EBADF}
use Rattle.program_model.specs.Calls.{Set, Read}
use Rattle.uses.proofs.Slots.{closed-read}
use Rattle.uses.proofs.files.read_closed.Goals as goal

pub returns-in-Read : goal.returns-in-Read
returns-in-Read g c =
    absurd (let no : Read c.args.descriptor c.in-Read.field-0 c.in-Read.field-1 ≡ Set c.in-Set.closed EBADF =
    c.in-Read.ensures.plan ∙ closed-read _ c.args.files.now c.in-Set.closed c.args.descriptor _ _ _ c.in-Set.ensures.plan in cc)
