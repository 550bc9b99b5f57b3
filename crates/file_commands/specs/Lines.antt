-- The lines that `replay` and `plan` put (this project's own).
use Rattle.std.specs.Prelude.{ℕ, List, ◌++◌, codes, decimal}
use Rattle.trace_replay.specs.declared.totals.Totals.{Totals}
use Rattle.fetch_plan.specs.declared.traces.PlanTotals.{PlanTotals}

-- how many reads, needs, stalls and fetches
abbrev pub replay_line : Totals → List ℕ
replay_line t =
    codes "replay reads " ++ decimal t.reads
    ++ codes " needs " ++ decimal t.needs
    ++ codes " stalls " ++ decimal t.stalls
    ++ codes " fetches " ++ decimal t.fetches
    ++ codes "\n"

-- how many needs, the least number of fetches, and of how many blocks
abbrev pub plan_line : PlanTotals → ℕ → List ℕ
plan_line t blocks =
    codes "plan needs " ++ decimal t.needs
    ++ codes " fetches " ++ decimal t.fetches
    ++ codes " blocks " ++ decimal blocks
    ++ codes "\n"
