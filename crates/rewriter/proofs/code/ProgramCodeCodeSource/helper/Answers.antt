use Rattle.std.proofs.Common.{◌≡◌, ◌<◌, List, ℕ, length, slice_index, arith, ap, subst, ◌∙◌}
use Rattle.std.proofs.lemmas.List.{get_or_default}
use Rattle.rewriter.specs.Sources.{code_from}
use Rattle.rewriter.proofs.TextLemmas.{seen-layout}
use Rattle.rewriter.proofs.CodeLemmas.{code-helpers}
use Rattle.rewriter.proofs.code.ProgramCodeCodeSource.helper.Goals as goal

pub index-requires : goal.index-requires
index-requires c =
    let held : c.self.inside.helpers.items ≡ (code_from c.args.self.now).helpers = code-helpers c.args.self.now c.self.inside.layout c.self.inside.helpers.items (seen-layout c.args.self.now c.self.inside.offset c.self.inside.layout c.self.inside.gated c.self.inside.bytes.now c.self.view_is) c.self.invariant.helper_words in
    omega (arith, c.requires, ap length held, c.self.inside.helpers.ok)

pub returns : goal.returns
returns c =
    let held : c.self.inside.helpers.items ≡ (code_from c.args.self.now).helpers = code-helpers c.args.self.now c.self.inside.layout c.self.inside.helpers.items (seen-layout c.args.self.now c.self.inside.offset c.self.inside.layout c.self.inside.gated c.self.inside.bytes.now c.self.view_is) c.self.invariant.helper_words in
    let below : c.args.index < length c.self.inside.helpers.items = omega (arith, c.requires, ap length held) in
    let read : c.index.result.now ≡ slice_index c.self.inside.helpers.items c.args.index =
    c.index.ensures ∙ get_or_default c.self.inside.helpers.items c.args.index c.index.result.now 0 below in
    subst (λ (words : List ℕ). c.index.result.now ≡ slice_index words c.args.index) held read
