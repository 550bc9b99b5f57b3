-- The least number of fetches against the cache run again (this project's own).
use Rattle.std.specs.Prelude.{◌≡◌, ℕ, ◌≤◌, List, Ok}
use Rattle.spec_base.specs.declared.spot.BlockSpot.{BlockSpot}
use Rattle.trace_text.specs.declared.trace_line.TraceLine.{TraceLine}
use Rattle.fetch_plan.specs.Plans.{cost, plan_of, leaves}
use Rattle.fetch_plan.specs.Needs.{needed_blocks, numbered}
use Rattle.fetch_plan.specs.Traces.{trace_needs, HasLeast}
use Rattle.fetch_plan.specs.declared.traces.PlanTotals.{PlanTotals}
use Rattle.trace_replay.specs.Replays.{Settings, replayed}
use Rattle.trace_replay.specs.Traces.{trace_totals}
use Rattle.trace_replay.specs.declared.totals.Totals.{Totals}

-- no cache run again from the lines fetches less than the plan of as many blocks, however deep its queue and slow its fetches
abbrev pub NoReplayFetchesLess : Type 0
NoReplayFetchesLess = (s : Settings) (lines : List TraceLine) → 1 ≤ s.blocks
    → cost (plan_of (numbered (needed_blocks lines)) (leaves s.blocks (numbered (needed_blocks lines)))) ≤ (replayed s lines).fetches

-- the same of a trace's bytes, and the numbers that are told of them
abbrev pub NoTraceFetchesLess : Type 0
NoTraceFetchesLess = (s : Settings) (bytes : List ℕ) (spots : List BlockSpot) (least : PlanTotals) (totals : Totals) → 1 ≤ s.blocks
    → trace_needs bytes ≡ Ok spots → HasLeast s.blocks spots least → trace_totals s bytes ≡ Ok totals → least.fetches ≤ totals.fetches
