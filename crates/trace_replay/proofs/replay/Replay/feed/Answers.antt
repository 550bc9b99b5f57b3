use Rattle.std.proofs.Common.{◌≡◌, ◌+◌, ◌*◌, ◌^◌, ◌<◌, ◌≤◌, false, sym, ◌∙◌, ap, subst}
use Rattle.trace_text.specs.declared.trace_line.TraceLine.{TraceLine}
use Rattle.trace_text.specs.Ranges.{IsInRange}
use Rattle.trace_replay.specs.Replays.{Settings, Replayed, line_again}
use Rattle.trace_replay.specs.Courses.{settings, shown}
use Rattle.trace_replay.specs.Fed.{Fed}
use Rattle.trace_replay.specs.Bounds.{IsBounded, IsBoundedCourse, fed_of}
use Rattle.trace_replay.specs.declared.replay.Replay.TheInside.{Inside}
use Rattle.trace_replay.proofs.BoundLaws.{lines-bounded, Fit64, lines-fit}
use Rattle.trace_replay.proofs.replay.Replay.feed.Goals as goal

-- before the line
bounded : (i : Inside) (f : Fed) → fed_of i ≡ f → f.failed ≡ false → IsBoundedCourse i → (1 ≤ i.course.every) × IsBounded (17 * i.lines) i.lines (shown i.course)
bounded i f is alive h = h (ap (λ (g : Fed). g.failed) is ∙ alive)

fits : (i : Inside) (f : Fed) (line : TraceLine) → fed_of i ≡ f → f.failed ≡ false → f.lines < 2 ^ 59 → IsInRange line.body → IsBoundedCourse i → Fit64 (settings i.course) (shown i.course) line
fits i f line is alive few range h =
    lines-fit (settings i.course) i.lines (shown i.course) line (subst (λ n. n < 2 ^ 59) (sym (ap (λ (g : Fed). g.lines) is)) few) range (bounded i f is alive h).1

pub follow-requires-clause-every : goal.follow-requires-clause-every
follow-requires-clause-every c = (bounded c.self.inside c.args.self.now c.self.view_is c.requires.alive c.self.invariant).0

pub follow-requires-clause-needs : goal.follow-requires-clause-needs
follow-requires-clause-needs c = (fits c.self.inside c.args.self.now c.args.line.now c.self.view_is c.requires.alive c.requires.few c.requires.range c.self.invariant).needs

pub follow-requires-clause-stalls : goal.follow-requires-clause-stalls
follow-requires-clause-stalls c = (fits c.self.inside c.args.self.now c.args.line.now c.self.view_is c.requires.alive c.requires.few c.requires.range c.self.invariant).stalls

pub follow-requires-clause-fetches : goal.follow-requires-clause-fetches
follow-requires-clause-fetches c = (fits c.self.inside c.args.self.now c.args.line.now c.self.view_is c.requires.alive c.requires.few c.requires.range c.self.invariant).fetches

pub follow-requires-clause-reads : goal.follow-requires-clause-reads
follow-requires-clause-reads c = (fits c.self.inside c.args.self.now c.args.line.now c.self.view_is c.requires.alive c.requires.few c.requires.range c.self.invariant).reads

-- after it
pub invariant_of-self : goal.invariant_of-self
invariant_of-self c =
    λ _.
    let i = c.self.inside in
    let before = bounded i c.args.self.now c.self.view_is c.requires.alive c.self.invariant in (
      subst (λ (s : Settings). 1 ≤ s.every) (sym c.in-Ok.ensures.settings) before.0,
      subst (λ (r : Replayed). IsBounded (17 * (i.lines + 1)) (i.lines + 1) r) (sym c.in-Ok.ensures.shown) (lines-bounded (settings i.course) i.lines (shown i.course) c.args.line.now c.requires.range before.1),
    )

pub returns-in-Ok-clause-fed : goal.returns-in-Ok-clause-fed
returns-in-Ok-clause-fed c =
    let i = c.self.inside in
    (λ k. record { settings = c.in-Ok.ensures.settings k; now = c.in-Ok.ensures.shown k; lines = i.lines + 1; failed = i.failed })
    ∙ ap (λ (f : Fed). record f { now = line_again f.settings f.now c.args.line.now; lines = f.lines + 1 }) c.self.view_is
