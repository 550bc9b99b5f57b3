use Rattle.std.proofs.Common.{◌≡◌, ◌*◌, ◌≤◌, sym, subst}
use Rattle.trace_replay.specs.Replays.{Settings, Replayed}
use Rattle.trace_replay.specs.Bounds.{IsBounded}
use Rattle.trace_replay.proofs.BoundLaws.{fresh-bounded}
use Rattle.trace_replay.proofs.replay.Replay.new.Goals as goal
