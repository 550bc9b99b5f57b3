-- What the commands `replay` and `plan` do, status by status (this project's own).
use Rattle.std.specs.Prelude.{◌≡◌, ◌⊎◌, ℕ, ◌<◌, Bool, true, false, List, length, Ok, Err}
use Rattle.whole_file.specs.declared.reading.ReadFault.TheVariants as read
use Rattle.elf_image.specs.declared.refusal.Refusal.TheVariants.{TooLong}
use Rattle.plain_runner.specs.Runs.{Outside}
use Rattle.command_words.specs.declared.request.Request.{Request}
use Rattle.spec_base.specs.declared.spot.BlockSpot.{BlockSpot}
use Rattle.trace_text.specs.Lines.{trace_in}
use Rattle.trace_replay.specs.Replays.{Settings}
use Rattle.trace_replay.specs.Traces.{trace_totals}
use Rattle.trace_replay.specs.declared.totals.Totals.{Totals}
use Rattle.fetch_plan.specs.Traces.{trace_needs, HasLeast}
use Rattle.fetch_plan.specs.declared.traces.PlanTotals.{PlanTotals}
use Rattle.file_commands.specs.Lines.{replay_line, plan_line}
use Rattle.command_status.specs.Common.{Silent, Stopped, ReadsFile, PutsLine}
use Rattle.command_status.specs.declared.status.Status.{Status}
use Rattle.command_status.specs.declared.status.Status.TheVariants.{Done, Exited, Trapped, TurnsOver, Usage, Absent, Refused, BadLine, TooMany, StoreFault, SinkFault, NoMemory}

-- this line of the trace is its first bad one
abbrev pub HasBadLine : Request → ℕ → Outside → Outside → Type 0
HasBadLine r n old new = (bytes : List ℕ) × ReadsFile r bytes old new × (trace_in bytes ≡ Err n) × Silent old new

-- the trace was read whole, and there was no memory for what follows
abbrev pub IsTraceStarved : Request → Outside → Outside → Type 0
IsTraceStarved r old new = (bytes : List ℕ) × ReadsFile r bytes old new × Silent old new

-- the settings of a replay
abbrev pub settings_of : Request → Settings
settings_of r = record { blocks = r.options.blocks; depth = r.options.depth; every = r.options.every }

-- the line with the totals of all lines of the trace was put
abbrev pub Replays : Request → Bool → Outside → Outside → Type 0
Replays r whole old new =
    (bytes : List ℕ) × (totals : Totals) × ReadsFile r bytes old new
    × (trace_totals (settings_of r) bytes ≡ Ok totals) × PutsLine (replay_line totals) whole old new

-- what a status says of the command `replay`
abbrev pub ReplayTo : Request → Status → Outside → Outside → Type 0
ReplayTo r Done old new = Replays r true old new
ReplayTo r SinkFault old new = Replays r false old new
ReplayTo r (BadLine n) old new = HasBadLine r n old new
ReplayTo r Absent old new = Stopped r read.Absent old new
ReplayTo r (Refused why) old new = Stopped r read.TooLong old new × (why ≡ TooLong)
ReplayTo r StoreFault old new = Stopped r read.Failed old new
ReplayTo r NoMemory old new = Stopped r read.NoMemory old new ⊎ IsTraceStarved r old new
ReplayTo r TooMany old new = ⊥
ReplayTo r (Exited code) old new = ⊥
ReplayTo r (Trapped cause pc) old new = ⊥
ReplayTo r (TurnsOver count) old new = ⊥
ReplayTo r Usage old new = ⊥

-- the line with the least number of fetches for all needs of the trace was put: some plan costs it, and every other at least as much
abbrev pub Plans : Request → Bool → Outside → Outside → Type 0
Plans r whole old new =
    (bytes : List ℕ) × (spots : List BlockSpot) × (totals : PlanTotals) × ReadsFile r bytes old new
    × (trace_needs bytes ≡ Ok spots) × HasLeast r.options.blocks spots totals × PutsLine (plan_line totals r.options.blocks) whole old new

-- all lines of the trace are good, and need more than 4,000,000 blocks
abbrev pub HasTooMany : Request → Outside → Outside → Type 0
HasTooMany r old new =
    (bytes : List ℕ) × (spots : List BlockSpot) × ReadsFile r bytes old new
    × (trace_needs bytes ≡ Ok spots) × (4_000_000 < length spots) × Silent old new

-- what a status says of the command `plan`
abbrev pub PlanTo : Request → Status → Outside → Outside → Type 0
PlanTo r Done old new = Plans r true old new
PlanTo r SinkFault old new = Plans r false old new
PlanTo r (BadLine n) old new = HasBadLine r n old new
PlanTo r TooMany old new = HasTooMany r old new
PlanTo r Absent old new = Stopped r read.Absent old new
PlanTo r (Refused why) old new = Stopped r read.TooLong old new × (why ≡ TooLong)
PlanTo r StoreFault old new = Stopped r read.Failed old new
PlanTo r NoMemory old new = Stopped r read.NoMemory old new ⊎ IsTraceStarved r old new
PlanTo r (Exited code) old new = ⊥
PlanTo r (Trapped cause pc) old new = ⊥
PlanTo r (TurnsOver count) old new = ⊥
PlanTo r Usage old new = ⊥
