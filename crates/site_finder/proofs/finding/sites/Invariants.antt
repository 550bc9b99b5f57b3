-- Each list has the indices so far.
use Rattle.std.proofs.Common.{◌≡◌, ℕ, List}
use Rattle.std.specs.Prelude.{slice_index}
use Rattle.std.specs.List.{filter, range_with_len}
use Rattle.site_finder.specs.Sites.{is_call, is_special}
use Rattle.site_finder.proofs.finding.sites.Given as goal

pub record Found (text calls specials : List ℕ) (n : ℕ) : Type 0 where
  pub calls_so_far : calls ≡ filter (λ i. is_call (slice_index text i)) (range_with_len 0 n)
  pub specials_so_far : specials ≡ filter (λ i. is_special (slice_index text i)) (range_with_len 0 n)

abbrev pub invariant-loop-at : goal.invariant-loop-at
invariant-loop-at l = Found l.text l.calls.items l.specials.items l.at
