use Rattle.std.proofs.Common.{◌≡◌, ◌+◌, ◌*◌, ◌<◌, length, map, arith, sym, ap, ◌∙◌}
use Rattle.spec_base.specs.declared.layout.Layout.{Layout}
use Rattle.rv_decode.specs.Encoding.{word_of}
use Rattle.rv_decode.specs.declared.instr.Instr.{Instr}
use Rattle.rv_decode.specs.Instruction.{instr_of}
use Rattle.code_model.specs.Blocks.{block}
use Rattle.elf_writer.specs.FileParts.{text_count}
use Rattle.rewriter.proofs.TextLemmas.{seen-layout, seen-length}
use Rattle.rewriter.proofs.CodeLemmas.{code-shadow-block, code-shadow-last, code-shadow-length}
use Rattle.rewriter.proofs.code.ProgramCodeCodeSource.shadow.Goals as goal

pub word-word-requires : goal.word-word-requires
word-word-requires c =
    omega (arith, seen-length c.args.self.now c.self.inside.offset c.self.inside.layout c.self.inside.gated c.self.inside.bytes.now c.self.view_is, c.text_count.ensures, c.if-block-text_count.true)

pub returns-then-block-text_count : goal.returns-then-block-text_count
returns-then-block-text_count c =
    let now = c.args.self.now in
    let below : c.args.block < length now.words =
    omega (arith, seen-length now c.self.inside.offset c.self.inside.layout c.self.inside.gated c.self.inside.bytes.now c.self.view_is, c.text_count.ensures, c.if-block-text_count.true) in
    let same : c.self.inside.layout ≡ now.layout = seen-layout now c.self.inside.offset c.self.inside.layout c.self.inside.gated c.self.inside.bytes.now c.self.view_is in
    c.block.ensures
    ∙ ap (λ (l : Layout). map word_of (block l (l.text_start + 4 * c.args.block) c.decode.result)) same
    ∙ ap (λ (instr : Instr). map word_of (block now.layout (now.layout.text_start + 4 * c.args.block) instr)) (c.decode.ensures.instruction ∙ ap instr_of c.word-word.ensures)
    ∙ sym (code-shadow-block now.layout now.words c.args.block below)

pub returns-else-block-text_count : goal.returns-else-block-text_count
returns-else-block-text_count c =
    let now = c.args.self.now in
    let long = seen-length now c.self.inside.offset c.self.inside.layout c.self.inside.gated c.self.inside.bytes.now c.self.view_is in
    let same : c.self.inside.layout ≡ now.layout = seen-layout now c.self.inside.offset c.self.inside.layout c.self.inside.gated c.self.inside.bytes.now c.self.view_is in
    let longer : length now.words ≡ text_count now.layout = long ∙ ap text_count same in
    let last : c.args.block ≡ length now.words =
    omega (arith, long, c.text_count.ensures, c.if-block-text_count.false, c.requires, code-shadow-length now.layout now.words longer) in
    c.guard_block.ensures ∙ sym (code-shadow-last now.layout now.words c.args.block last)
