use Rattle.std.proofs.Common.{◌≡◌, ◌+◌, ◌-◌, ◌/◌, ℕ, Some, refl, sym, ap, ◌∙◌}
use Rattle.std.specs.Option.{option_copied}
use Rattle.elf_image.specs.declared.image.Image.{Image}
use Rattle.elf_image.specs.Profile.{code_of}
use Rattle.elf_image.specs.Image.{words_at}
use Rattle.elf_image.proofs.ImageLemmas.{text_words-is}
use Rattle.rewriter.proofs.code.text_offset.Goals as goal

pub returns-clause-words : goal.returns-clause-words
returns-clause-words c =
    let now = c.args.image.now in
    let bytes = c.args.bytes.now in
    let code = c.unwrap-code.result.now in
    let found : code_of c.deref.result.now ≡ Some code = sym c.first_code.ensures ∙ ap option_copied c.unwrap-code.ensures in
    let here = ap (λ (i : Image). code_of i.segments) (sym c.image.view_is) ∙ ap code_of (sym c.deref.ensures.value) ∙ found in
    ap (λ (s : ℕ). words_at (code.offset + (s - code.address)) ((now.text_end - now.text_start) / 4) bytes) (ap (λ (i : Image). i.text_start) c.image.view_is)
    ∙ text_words-is bytes now now code refl here
