use Rattle.std.proofs.Common.{◌≡◌, ◌∙◌, ℕ, List, Some, IfOk, sym, ap, subst}
use Rattle.std.specs.Option.{option_copied}
use Rattle.elf_image.specs.Profile.{code_of}
use Rattle.elf_image.proofs.ImageLemmas.{text_words-is}
use Rattle.elf_image.proofs.image.text.Goals as goal

pub returns : goal.returns
returns c =
    let code = c.unwrap-code.result.now in
    let found : code_of c.deref.result.now ≡ Some code = sym c.first_code.ensures ∙ ap option_copied c.unwrap-code.ensures in
    let here = ap code_of (sym c.deref.ensures.value) ∙ found in
    subst (λ (ws : List ℕ). IfOk c.words_at.result (λ words. words.items ≡ ws))
    (text_words-is c.args.bytes.now _ _ code c.image.view_is here) c.words_at.ensures
