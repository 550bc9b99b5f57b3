use Rattle.std.proofs.Common.{◌≡◌, ℕ, List, Bor, arith}
use Rattle.std.specs.Prelude.{Option, Some, None, MatchOption, true, false}
use Rattle.std.specs.List.{list_any, before_first, after_first}
use Rattle.std.proofs.lemmas.Str.Pattern.{IsSplitOnceResult, split_once_first}
use Rattle.command_words.specs.CommandLine.{is_equals}
use Rattle.command_words.proofs.WordLaws.{list_any-none, list_any-some}
use Rattle.command_words.proofs.reading.split_at_equals.Goals as goal

parts : (word : List ℕ) (result : Option (Bor (List ℕ) × Bor (List ℕ))) → IsSplitOnceResult 61 word result
    → MatchOption result (list_any is_equals word ≡ false) (λ parts. (list_any is_equals word ≡ true) × (parts.0.now ≡ before_first is_equals word) × (parts.1.now ≡ after_first is_equals word))
parts word None h = list_any-none is_equals word (split_once_first 61 word None h (omega arith))
parts word (Some x) h =
    let first = split_once_first 61 word (Some x) h (omega arith) in
    (list_any-some is_equals word first.0, first.1, first.2)

pub returns : goal.returns
returns c = parts c.args.word.now _ c.split_once.ensures.cases
