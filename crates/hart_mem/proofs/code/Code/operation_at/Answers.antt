use Rattle.std.proofs.Common.{ℕ, List, ap, ◌∙◌, slice_get, option_map}
use Rattle.rv_decode.specs.Instruction.{instr_of}
use Rattle.rv_model.specs.Effect.{fetched}
use Rattle.hart_mem.specs.Operation.{instr_of_operation}
use Rattle.hart_mem.specs.declared.operation.Operation.{Operation}
use Rattle.hart_mem.proofs.CodeLemmas.{operation-at}
use Rattle.hart_mem.proofs.code.Code.operation_at.Goals as goal

pub returns : goal.returns
returns c =
    ap (option_map instr_of_operation) (c.operation_by_index.ensures ∙ ap (λ (operations : List Operation). slice_get operations c.index_at.result) c.deref.ensures.value)
    ∙ operation-at c.self.inside.operations.items c.self.inside.words.items c.index_at.result c.self.invariant.0
    ∙ ap (option_map instr_of) (c.index_at.ensures c.self.inside.words.items c.self.invariant.1 ∙ ap (λ (words : List ℕ). fetched words c.args.start c.args.pc) c.self.view_is)
