use Rattle.std.proofs.Common.{sym, ◌∙◌, string_bytes, rules, tests}
use Rattle.std.proofs.lemmas.Iterator.{YieldsList-from_slice}
use Rattle.std.proofs.lemmas.Iterator.Search.{all_from_yields_List}
use Rattle.command_words.specs.CommandLine.{has_no_zero}
use Rattle.command_words.proofs.Steps.{list_all-map}
use Rattle.command_words.proofs.request.have_no_zero.Goals as goal

pub returns : goal.returns
returns c =
    all_from_yields_List (λ s. has_no_zero (string_bytes s)) _ _ c.all.result c.all.ensures.ran (YieldsList-from_slice c.args.words.now cc) (λ x b q k. search (rules, tests))
    ∙ sym (list_all-map has_no_zero string_bytes c.args.words.now)
