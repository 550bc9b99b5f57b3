use Rattle.std.proofs.Common.{◌-◌, ◌/◌, ap, arith}
use Rattle.trace_replay.specs.Replays.{caught_up}
use Rattle.trace_replay.specs.Courses.{settings, shown}
use Rattle.trace_replay.proofs.Finishing.{finishes-reads, body-grows}
use Rattle.trace_replay.proofs.course.Course.follow.Goals as goal

pub catch_up-requires-clause-fits : goal.catch_up-requires-clause-fits
catch_up-requires-clause-fits c =
    let s = settings c.args.self.now in
    let g = body-grows s (caught_up s (shown c.args.self.now) c.args.line.now.own) c.args.line.now.body in
    omega (arith, g.fetches, c.requires.fetches)

pub read-requires-clause-reads : goal.read-requires-clause-reads
read-requires-clause-reads c =
    let s = settings c.args.self.now in
    let n = c.args.line.now.own / c.args.self.now.every - c.args.self.now.clock in
    omega (arith, ap (λ t. t.reads) c.in_ok-catch_up.ensures.shown, finishes-reads s n (shown c.args.self.now), c.requires.reads)

pub read-requires-in-Note-Restart-clause-reads : goal.read-requires-in-Note-Restart-clause-reads
read-requires-in-Note-Restart-clause-reads c =
    let s = settings c.args.self.now in
    let n = c.args.line.now.own / c.args.self.now.every - c.args.self.now.clock in
    omega (arith, ap (λ t. t.reads) c.in_ok-catch_up.ensures.shown, finishes-reads s n (shown c.args.self.now), c.requires.reads)
