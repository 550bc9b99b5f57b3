use Rattle.std.proofs.Common.{◌≡◌, ◌≤◌, ℕ, List, length, ap, ◌∙◌, arith, option_map}
use Rattle.std.proofs.lemmas.Bool.Decides.{nat_tests}
use Rattle.rv_decode.specs.Instruction.{instr_of}
use Rattle.rv_model.specs.Effect.{fetched}
use Rattle.hart_mem.proofs.CodeLemmas.{code_given, code_missing}
use Rattle.hart_mem.proofs.code.Code.operation_or_zero_at.Goals as goal

pub returns-then-not-is_empty : goal.returns-then-not-is_empty
returns-then-not-is_empty c =
    let some : 1 ≤ length c.args.self.now = grind (arith, nat_tests) in
    (c.operation_at.ensures ∙ ap (λ (xs : List ℕ). option_map instr_of (fetched xs c.args.start c.args.pc)) (code_given c.args.self.now c.args.count some))

pub returns : goal.returns
returns c =
    let none : length c.args.self.now ≡ 0 = grind (arith, nat_tests) in
    (c.zero_operation_at.ensures ∙ ap (λ (xs : List ℕ). option_map instr_of (fetched xs c.args.start c.args.pc)) (code_missing c.args.self.now c.args.count none))
