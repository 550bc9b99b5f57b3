-- The lines of a trace, fed one after the other.
use Rattle.std.proofs.Common.{◌≡◌, ℕ, ◌+◌, List, [], ◌∷◌, Some, None, Result, Ok, Err, refl, sym, ◌∙◌, ap}
use Rattle.trace_text.specs.declared.trace_line.TraceLine.{TraceLine}
use Rattle.trace_text.specs.Grammar.{line_at}
use Rattle.trace_text.specs.Lines.{lines_of, said_with, said_from}
use Rattle.trace_replay.specs.Replays.{Settings, Replayed, line_again}
use Rattle.trace_replay.specs.Totals.{totals_of}
use Rattle.trace_replay.specs.Traces.{totals_by}
use Rattle.trace_replay.specs.declared.totals.Totals.{Totals}

module _ (s : Settings) where
  fed-first : (r : Replayed) (n : ℕ) (line : TraceLine) (said : Result (List TraceLine) ℕ) → totals_by s r (said_with n (Some line) said) ≡ totals_by s (line_again s r line) said
  fed-first r n line (Ok lines) = refl
  fed-first r n line (Err bad) = refl

  -- totals aren't had exactly where a line is bad
  pub said-bad : (r : Replayed) (said : Result (List TraceLine) ℕ) (n : ℕ) → totals_by s r said ≡ Err n → said ≡ Err n
  said-bad r (Ok lines) n e = cc
  said-bad r (Err bad) n e = let same : bad ≡ n = cc in ap Err same

  -- the rest of the bytes leads to these totals, or this bad line
  pub record Leads (target : Result Totals ℕ) (now : Replayed) (number : ℕ) (text : List ℕ) : Type 0 where
    pub rest : totals_by s now (said_from (number + 1) (lines_of text)) ≡ target

  module _ (target : Result Totals ℕ) (now : Replayed) (number : ℕ) (text : List ℕ) (p : Leads target now number text) where
    cut : (bytes more : List ℕ) → lines_of text ≡ bytes ∷ lines_of more → totals_by s now (said_with (number + 1) (line_at bytes) (said_from (number + 1 + 1) (lines_of more))) ≡ target
    cut bytes more is = sym (ap (λ ls. totals_by s now (said_from (number + 1) ls)) is) ∙ p.rest

    pub goes_on : (bytes more : List ℕ) (line : TraceLine) → lines_of text ≡ bytes ∷ lines_of more → Some line ≡ line_at bytes → Leads target (line_again s now line) (number + 1) more
    goes_on bytes more line is said = record {
      rest =
          sym (fed-first now (number + 1) line (said_from (number + 1 + 1) (lines_of more)))
          ∙ ap (λ o. totals_by s now (said_with (number + 1) o (said_from (number + 1 + 1) (lines_of more)))) said
          ∙ cut bytes more is;
    }

    pub stops : (bytes more : List ℕ) → lines_of text ≡ bytes ∷ lines_of more → None ≡ line_at bytes → target ≡ Err (number + 1)
    stops bytes more is said =
        sym (ap (λ o. totals_by s now (said_with (number + 1) o (said_from (number + 1 + 1) (lines_of more)))) said ∙ cut bytes more is)

    pub ends : lines_of text ≡ [] → target ≡ Ok (totals_of now)
    ends is = sym (sym (ap (λ ls. totals_by s now (said_from (number + 1) ls)) is) ∙ p.rest)
