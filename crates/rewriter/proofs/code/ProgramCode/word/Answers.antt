use Rattle.std.proofs.Common.{◌<◌, arith, ap, ◌∙◌}
use Rattle.rewriter.specs.Sources.{original_word}
use Rattle.elf_writer.specs.FileParts.{text_count}
use Rattle.rewriter.proofs.TextLemmas.{seen-length, seen-word}
use Rattle.rewriter.proofs.code.ProgramCode.word.Goals as goal

pub overflow_mul-index : goal.overflow_mul-index
overflow_mul-index c =
    let held = c.self.invariant in
    let within : c.args.index < text_count c.self.inside.layout = omega (arith, seen-length c.args.self.now c.self.inside.offset c.self.inside.layout c.self.inside.gated c.self.inside.bytes.now c.self.view_is, c.requires) in
    omega (arith, within, held.inside, held.few_bytes)

pub overflow_add-self-inside : goal.overflow_add-self-inside
overflow_add-self-inside c =
    let held = c.self.invariant in
    let within : c.args.index < text_count c.self.inside.layout = omega (arith, seen-length c.args.self.now c.self.inside.offset c.self.inside.layout c.self.inside.gated c.self.inside.bytes.now c.self.view_is, c.requires) in
    omega (arith, within, held.inside, held.few_bytes)

pub word_at-requires : goal.word_at-requires
word_at-requires c =
    let held = c.self.invariant in
    let within : c.args.index < text_count c.self.inside.layout = omega (arith, seen-length c.args.self.now c.self.inside.offset c.self.inside.layout c.self.inside.gated c.self.inside.bytes.now c.self.view_is, c.requires) in
    omega (arith, within, held.inside)

pub returns : goal.returns
returns c =
    c.original_word.ensures ∙ ap (original_word c.self.inside.gated) c.word_at.ensures ∙ seen-word c.args.self.now c.self.inside.offset c.self.inside.layout c.self.inside.gated c.self.inside.bytes.now c.self.view_is c.args.index c.requires
