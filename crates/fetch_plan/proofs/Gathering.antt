-- The needs of the lines of a trace, noted one after the other.
use Rattle.std.proofs.Common.{◌≡◌, ℕ, ◌+◌, List, [], ◌∷◌, ◌++◌, Some, None, Result, Ok, Err, refl, sym, ◌∙◌, ap, append_assoc, append-nil}
use Rattle.spec_base.specs.declared.spot.BlockSpot.{BlockSpot}
use Rattle.trace_text.specs.declared.trace_line.TraceLine.{TraceLine}
use Rattle.trace_text.specs.Grammar.{line_at}
use Rattle.trace_text.specs.Lines.{lines_of, said_with, said_from}
use Rattle.fetch_plan.specs.Needs.{needed_blocks, read_in, blocks_in}
use Rattle.fetch_plan.specs.Numbering.{Noted, Has}
use Rattle.fetch_plan.specs.Traces.{needs_by}

noted-first : (done : List BlockSpot) (n : ℕ) (line : TraceLine) (said : Result (List TraceLine) ℕ) → needs_by (done ++ blocks_in (read_in line.body)) said ≡ needs_by done (said_with n (Some line) said)
noted-first done n line (Ok lines) = ap Ok (append_assoc done (blocks_in (read_in line.body)) (needed_blocks lines))
noted-first done n line (Err bad) = refl

-- needs aren't had exactly where a line is bad
pub said-bad : (done : List BlockSpot) (said : Result (List TraceLine) ℕ) (n : ℕ) → needs_by done said ≡ Err n → said ≡ Err n
said-bad done (Ok lines) n e = cc
said-bad done (Err bad) n e = let same : bad ≡ n = cc in ap Err same

-- so many blocks were noted, and the rest of the bytes leads to these needs, or this bad line
pub record Leads (target : Result (List BlockSpot) ℕ) (now : Noted) (number : ℕ) (text : List ℕ) : Type 0 where
  pub done : List BlockSpot
  pub has : Has now done
  pub rest : needs_by done (said_from (number + 1) (lines_of text)) ≡ target

pub starts : (now : Noted) (text : List ℕ) → Has now [] → Leads (needs_by [] (said_from 1 (lines_of text))) now 0 text
starts now text has = record { done = []; has = has; rest = refl }

module _ (target : Result (List BlockSpot) ℕ) (now : Noted) (number : ℕ) (text : List ℕ) (p : Leads target now number text) where
  cut : (bytes more : List ℕ) → lines_of text ≡ bytes ∷ lines_of more → needs_by p.done (said_with (number + 1) (line_at bytes) (said_from (number + 1 + 1) (lines_of more))) ≡ target
  cut bytes more is = sym (ap (λ ls. needs_by p.done (said_from (number + 1) ls)) is) ∙ p.rest

  pub goes_on : (bytes more : List ℕ) (line : TraceLine) (new : Noted) → lines_of text ≡ bytes ∷ lines_of more → Some line ≡ line_at bytes → ((spots : List BlockSpot) → Has now spots → Has new (spots ++ blocks_in (read_in line.body))) → Leads target new (number + 1) more
  goes_on bytes more line new is said step = record {
    done = p.done ++ blocks_in (read_in line.body);
    has = step p.done p.has;
    rest =
        noted-first p.done (number + 1) line (said_from (number + 1 + 1) (lines_of more))
        ∙ ap (λ o. needs_by p.done (said_with (number + 1) o (said_from (number + 1 + 1) (lines_of more)))) said
        ∙ cut bytes more is;
  }

  pub stops : (bytes more : List ℕ) → lines_of text ≡ bytes ∷ lines_of more → None ≡ line_at bytes → target ≡ Err (number + 1)
  stops bytes more is said =
      sym (ap (λ o. needs_by p.done (said_with (number + 1) o (said_from (number + 1 + 1) (lines_of more)))) said ∙ cut bytes more is)

  pub ends : lines_of text ≡ [] → target ≡ Ok p.done
  ends is =
      sym (sym (ap (λ ls. needs_by p.done (said_from (number + 1) ls)) is) ∙ p.rest) ∙ ap Ok (append-nil p.done)
