use Rattle.std.proofs.Common.{◌≡◌, ◌<◌, List, ℕ, length, slice_index, arith, ap, subst, ◌∙◌}
use Rattle.std.proofs.lemmas.List.{get_or_default}
use Rattle.rewriter.specs.Sources.{code_from}
use Rattle.rewriter.proofs.CodeLemmas.{code-stub}
use Rattle.rewriter.proofs.code.ProgramCodeCodeSource.stub.Goals as goal

pub index-requires : goal.index-requires
index-requires c =
    let held : c.self.inside.stub.items ≡ (code_from c.args.self.now).stub = code-stub c.args.self.now c.self.inside.stub.items c.self.invariant.stub_words in
    omega (arith, c.requires, ap length held, c.self.inside.stub.ok)

pub returns : goal.returns
returns c =
    let held : c.self.inside.stub.items ≡ (code_from c.args.self.now).stub = code-stub c.args.self.now c.self.inside.stub.items c.self.invariant.stub_words in
    let below : c.args.index < length c.self.inside.stub.items = omega (arith, c.requires, ap length held) in
    let read : c.index.result.now ≡ slice_index c.self.inside.stub.items c.args.index =
    c.index.ensures ∙ get_or_default c.self.inside.stub.items c.args.index c.index.result.now 0 below in
    subst (λ (words : List ℕ). c.index.result.now ≡ slice_index words c.args.index) held read
