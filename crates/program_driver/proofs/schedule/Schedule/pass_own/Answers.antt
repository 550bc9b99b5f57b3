use Rattle.std.proofs.Common.{◌≡◌, ◌+◌, ◌-◌, arith, subst}
use Rattle.program_driver.specs.Rounds.{Passes}
use Rattle.program_driver.proofs.Passing.{more-Passes, passes-owns}
use Rattle.program_driver.proofs.schedule.Schedule.pass_own.Goals as goal

pub loop-left-preserved : goal.loop-left-preserved
loop-left-preserved c =
    let made = c.pass_some-left.result in
    let owns = passes-owns made c.loop-left.self c.pass_some-left.new.self c.pass_some-left.ensures.passes in
    let e : c.args.own - c.loop-left.left + made ≡ c.args.own - (c.loop-left.left - made) = omega (arith, c.loop-left.invariant.few, c.pass_some-left.ensures.within) in
    record {
      before = c.loop-left.invariant.before;
      few = omega (arith, c.loop-left.invariant.few);
      still = omega (arith, c.loop-left.invariant.still, owns);
      passes =
          subst (λ n. Passes n c.args.self.now c.pass_some-left.new.self) e
          (more-Passes (c.args.own - c.loop-left.left) made c.args.self.now c.loop-left.self c.pass_some-left.new.self c.loop-left.invariant.passes c.pass_some-left.ensures.passes);
    }
