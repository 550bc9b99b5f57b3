use Rattle.std.proofs.Common.{◌≡◌, ◌++◌, List, ℕ, length, take, drop, arith, subst, Ok}
use Rattle.std.proofs.lemmas.Grind.{common_steps}
use Rattle.rv_encode.specs.Code.{Code, closed_of}
use Rattle.rv_encode.specs.Resolved.{LabelsResolved}
use Rattle.rv_encode.specs.Buffer.{code_in}
use Rattle.rv_encode.proofs.Resolved.{labels_resolved}
use Rattle.rv_encode.proofs.buffer.CodeBuf.close.Goals as goal

pub returns-clause-resolved : goal.returns-clause-resolved
returns-clause-resolved c =
    let words : List ℕ = take c.self.inside.words.len (c.resolve.new.words ++ drop (length c.resolve.new.words) c.self.inside.words.items) in
    let closed : closed_of (code_in c.self.inside) ≡ Ok words = grind (arith, common_steps, c.resolve.ensures, c.unbound_label.ensures, c.far_label.ensures, c.in_default.is, c.in_default.ensures, c.in_default-far_label.is, c.in_default-far_label.ensures) in
    subst (λ (v : Code). LabelsResolved v words) c.self.view_is
    (labels_resolved (code_in c.self.inside) words c.self.invariant.ascend c.self.invariant.within closed)
