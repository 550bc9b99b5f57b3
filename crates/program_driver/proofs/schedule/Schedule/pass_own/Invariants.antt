use Rattle.std.proofs.Common.{◌≡◌, ◌-◌, ◌≤◌, length}
use Rattle.program_driver.specs.Rounds.{owns, Passes}
use Rattle.program_driver.proofs.schedule.Schedule.pass_own.Given as goal

abbrev pub invariant-loop-left : goal.invariant-loop-left
invariant-loop-left l = record {
  before : l.before ≡ length l.fn.self;
  few : l.left ≤ l.own;
  still : l.left ≤ owns l.self;
  passes : Passes (l.own - l.left) l.fn.self l.self;
}

abbrev pub decreases-loop-left : goal.decreases-loop-left
decreases-loop-left l = length l.self
