use Rattle.std.proofs.Common.{◌<◌, length, arith, sym, ap, ◌∙◌}
use Rattle.code_model.specs.Patch.{patched_word}
use Rattle.rewriter.proofs.CodeLemmas.{code-text-length, code-text-index}
use Rattle.rewriter.proofs.code.ProgramCodeCodeSource.text.Goals as goal

pub word-requires : goal.word-requires
word-requires c = omega (arith, c.requires, code-text-length c.args.self.now.layout c.args.self.now.words)

pub returns : goal.returns
returns c =
    let below : c.args.index < length c.args.self.now.words = omega (arith, c.requires, code-text-length c.args.self.now.layout c.args.self.now.words) in
    c.patch_word.ensures ∙ ap patched_word c.word.ensures ∙ sym (code-text-index c.args.self.now.layout c.args.self.now.words c.args.index below)
