use Rattle.std.proofs.Common.{◌≡◌, length, map, vec_len, sym, ap, ◌∙◌}
use Rattle.std.specs.Vec.{with_items}
use Rattle.std.proofs.lemmas.List.{length-map, with_items_is}
use Rattle.code_model.specs.Patch.{patched_word}
use Rattle.elf_image.specs.Image.{text_words}
use Rattle.rewriter.specs.Layouts.{layout_of}
use Rattle.rewriter.proofs.TextLemmas.{text_words-whole}
use Rattle.rewriter.proofs.CodeLemmas.{code-listed}
use Rattle.rewriter.proofs.parts.parts_of.Goals as goal

pub blocks-requires-clause-whole : goal.blocks-requires-clause-whole
blocks-requires-clause-whole c =
    rw (c.deref.ensures.value, c.in_ok-words.ensures, c.layout_of-layout.ensures) (text_words-whole c.args.bytes.now c.args.version c.args.image c.requires.image)

pub returns-clause-code : goal.returns-clause-code
returns-clause-code c =
    let made : c.patch.new.text ≡ map patched_word c.in_ok-words.words.items = c.patch.ensures ∙ ap (map patched_word) c.deref_mut.ensures.value in
    let long : length c.patch.new.text ≡ vec_len c.in_ok-words.words =
    ap length c.patch.ensures ∙ length-map c.deref_mut.result.now patched_word ∙ c.deref_mut.ensures.len in
    code-listed (layout_of c.args.image c.args.regions c.args.version) c.layout_of-layout.result (text_words c.args.bytes.now c.args.image) c.deref.result.now
    (with_items c.in_ok-words.words c.patch.new.text).items c.in_ok-shadow.shadow.items c.in_ok-helpers.helpers.items c.in_ok-stub.stub.items
    c.layout_of-layout.ensures (c.deref.ensures.value ∙ c.in_ok-words.ensures)
    (with_items_is c.in_ok-words.words c.patch.new.text long ∙ made ∙ ap (map patched_word) (sym c.deref.ensures.value))
    c.in_ok-shadow.ensures.words c.in_ok-helpers.ensures.words c.in_ok-stub.ensures
