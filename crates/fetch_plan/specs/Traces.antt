-- The needs of a trace's bytes, and the least number of fetches that meets them (this project's own).
use Rattle.std.specs.Prelude.{◌≡◌, ℕ, ◌≤◌, true, List, [], ◌++◌, length, Result, Ok, Err}
use Rattle.spec_base.specs.declared.spot.BlockSpot.{BlockSpot}
use Rattle.trace_text.specs.declared.trace_line.TraceLine.{TraceLine}
use Rattle.trace_text.specs.Lines.{trace_in}
use Rattle.fetch_plan.specs.Plans.{is_plan, cost}
use Rattle.fetch_plan.specs.Needs.{needed_blocks, numbered}
use Rattle.fetch_plan.specs.declared.traces.PlanTotals.{PlanTotals}

-- the blocks needed so far with those that the lines need, or the number of the first bad line
abbrev pub needs_by : List BlockSpot → Result (List TraceLine) ℕ → Result (List BlockSpot) ℕ
needs_by done (Ok lines) = Ok (done ++ needed_blocks lines)
needs_by done (Err bad) = Err bad

-- the blocks that all lines of a trace need, or the number of the first bad line
abbrev pub trace_needs : List ℕ → Result (List BlockSpot) ℕ
trace_needs bytes = needs_by [] (trace_in bytes)

-- how many needs there are, 4,000,000 at most; some plan of so many blocks costs so many fetches, and every other plan at least as many
pub record HasLeast (blocks : ℕ) (spots : List BlockSpot) (totals : PlanTotals) : Type 0 where
  pub needs : totals.needs ≡ length spots
  pub few : length spots ≤ 4_000_000
  pub plan : List (List ℕ)
  pub planned : is_plan blocks (numbered spots) plan ≡ true
  pub costs : cost plan ≡ totals.fetches
  pub no_less : (other : List (List ℕ)) → is_plan blocks (numbered spots) other ≡ true → totals.fetches ≤ cost other
