use Rattle.std.proofs.Common.{◌≡◌, ℕ, ◌*◌, List, length, map, refl, sym, ap, ◌∙◌}
use Rattle.std.specs.Vec.{with_items}
use Rattle.std.proofs.lemmas.List.{length-map, with_items_is}
use Rattle.code_model.specs.Patch.{patched_word}
use Rattle.elf_image.specs.Image.{text_words}
use Rattle.elf_writer.specs.ProgramCode.{ungated_word}
use Rattle.rewriter.proofs.CodeLemmas.{code-listed}
use Rattle.run_loader.proofs.FirstStates.{words-whole}
use Rattle.run_loader.proofs.parts.parts_again.Goals as goal

pub blocks-requires-clause-whole : goal.blocks-requires-clause-whole
blocks-requires-clause-whole c =
    let seen : c.ungate.new.words ≡ map ungated_word (text_words c.args.bytes.now c.args.recovered.image) =
    c.ungate.ensures ∙ ap (map ungated_word) (c.deref_mut.ensures.value ∙ c.in_ok-words.ensures) in
    let long = ap length c.ungate.ensures ∙ length-map c.deref_mut.result.now ungated_word ∙ c.deref_mut.ensures.len in
    let read : c.deref.result.now ≡ map ungated_word (text_words c.args.bytes.now c.args.recovered.image) =
    c.deref.ensures.value ∙ with_items_is c.in_ok-words.words c.ungate.new.words long ∙ seen in
    ap (λ (ws : List ℕ). 4 * length ws) read ∙ words-whole c.args.bytes.now c.args.recovered c.requires

pub returns-clause-code : goal.returns-clause-code
returns-clause-code c =
    let words = c.in_ok-words.words in
    let text = with_items words c.ungate.new.words in
    let seen : c.ungate.new.words ≡ map ungated_word (text_words c.args.bytes.now c.args.recovered.image) =
    c.ungate.ensures ∙ ap (map ungated_word) (c.deref_mut.ensures.value ∙ c.in_ok-words.ensures) in
    let long = ap length c.ungate.ensures ∙ length-map c.deref_mut.result.now ungated_word ∙ c.deref_mut.ensures.len in
    let read : c.deref.result.now ≡ map ungated_word (text_words c.args.bytes.now c.args.recovered.image) =
    c.deref.ensures.value ∙ with_items_is words c.ungate.new.words long ∙ seen in
    let again = ap length c.patch.ensures ∙ length-map c.deref_mut-2.result.now patched_word ∙ c.deref_mut-2.ensures.len in
    let made : c.patch.new.words ≡ map patched_word c.deref.result.now =
    c.patch.ensures ∙ ap (map patched_word) (c.deref_mut-2.ensures.value ∙ sym c.deref.ensures.value) in
    code-listed c.args.recovered.layout c.args.recovered.layout (map ungated_word (text_words c.args.bytes.now c.args.recovered.image)) c.deref.result.now
    (with_items text c.patch.new.words).items c.in_ok-shadow.shadow.items c.in_ok-helpers.helpers.items c.in_ok-stub.stub.items
    refl read (with_items_is text c.patch.new.words again ∙ made) c.in_ok-shadow.ensures.words c.in_ok-helpers.ensures.words c.in_ok-stub.ensures
