use Rattle.std.proofs.Common.{◌∙◌, ap}
use Rattle.program_model.specs.Descriptors.{Descriptors, lowest_free}
use Rattle.file_calls.proofs.SlotLemmas.{position_from-is_free}
use Rattle.file_calls.proofs.files.Files.lowest_free.Goals as goal

pub returns-clause-same : goal.returns-clause-same
returns-clause-same c =
    c.first_free.ensures.same ∙ position_from-is_free c.self.inside.slots 0
    ∙ ap (λ (f : Descriptors). lowest_free f.slots 0) c.self.view_is
