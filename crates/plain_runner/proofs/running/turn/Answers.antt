use Rattle.std.proofs.Common.{sym, subst}
use Rattle.hart_mem.specs.Held.{space_of}
use Rattle.hart_step.specs.Core.{core_of}
use Rattle.hart_step.specs.declared.event.Event.TheVariants as event
use Rattle.plain_runner.specs.Runs.{Outside, Shows}
use Rattle.plain_runner.proofs.Steps.{steps-to, done-GoesOn, trap-Stops, starved-Stops, other-Shows, call-Shows}
use Rattle.plain_runner.proofs.running.turn.Goals as goal

pub returns-in-Done : goal.returns-in-Done
returns-in-Done g c p s shows =
    let here : Shows p (core_of c.args.hart.now) (space_of c.keep_spare.new.mem) c.args.files.now s = subst (λ m. Shows p (core_of c.args.hart.now) m c.args.files.now s) (sym c.keep_spare.ensures.space) shows in
    let o : Outside = record { store = g.S.Store.state c.args.store.now; out = g.O.Sink.state c.args.out.now; err = g.E.Sink.state c.args.err.now } in
    done-GoesOn p s (core_of c.args.hart.now) (space_of c.keep_spare.new.mem) c.args.files.now (core_of c.step.new.hart) (space_of c.step.new.mem) o
    (steps-to p s (core_of c.args.hart.now) (space_of c.keep_spare.new.mem) c.args.files.now here _ event.Done (core_of c.step.new.hart) (space_of c.step.new.mem) c.in-Done.ensures.outcome)

pub returns-in-Ecall : goal.returns-in-Ecall
returns-in-Ecall g c p s shows =
    let here : Shows p (core_of c.args.hart.now) (space_of c.keep_spare.new.mem) c.args.files.now s = subst (λ m. Shows p (core_of c.args.hart.now) m c.args.files.now s) (sym c.keep_spare.ensures.space) shows in
    let came = steps-to p s (core_of c.args.hart.now) (space_of c.keep_spare.new.mem) c.args.files.now here _ event.Ecall (core_of c.step.new.hart) (space_of c.step.new.mem) c.in-Ecall.ensures.outcome in
    c.perform.ensures p s (call-Shows p s (core_of c.args.hart.now) (space_of c.keep_spare.new.mem) c.args.files.now here (core_of c.step.new.hart) (space_of c.step.new.mem) came) came.0

pub returns-in-Trap : goal.returns-in-Trap
returns-in-Trap g c p s shows =
    let here : Shows p (core_of c.args.hart.now) (space_of c.keep_spare.new.mem) c.args.files.now s = subst (λ m. Shows p (core_of c.args.hart.now) m c.args.files.now s) (sym c.keep_spare.ensures.space) shows in
    let o : Outside = record { store = g.S.Store.state c.args.store.now; out = g.O.Sink.state c.args.out.now; err = g.E.Sink.state c.args.err.now } in
    trap-Stops p s (core_of c.args.hart.now) (space_of c.keep_spare.new.mem) c.args.files.now here c.in-Trap.cause c.pc.result (core_of c.step.new.hart) (space_of c.step.new.mem) o
    (steps-to p s (core_of c.args.hart.now) (space_of c.keep_spare.new.mem) c.args.files.now here _ (event.Trap c.in-Trap.cause) (core_of c.step.new.hart) (space_of c.step.new.mem) c.in-Trap.ensures.outcome) c.pc.ensures

pub returns-in_default : goal.returns-in_default
returns-in_default g c p s shows =
    let here : Shows p (core_of c.args.hart.now) (space_of c.keep_spare.new.mem) c.args.files.now s = subst (λ m. Shows p (core_of c.args.hart.now) m c.args.files.now s) (sym c.keep_spare.ensures.space) shows in
    let o : Outside = record { store = g.S.Store.state c.args.store.now; out = g.O.Sink.state c.args.out.now; err = g.E.Sink.state c.args.err.now } in
    starved-Stops p s (core_of c.step.new.hart) (space_of c.step.new.mem) c.args.files.now o
    (other-Shows p s (core_of c.args.hart.now) (space_of c.keep_spare.new.mem) c.args.files.now here (core_of c.step.new.hart) (space_of c.step.new.mem) c.step.result c.in_default.not-Done c.in_default.not-Ecall c.in_default.not-Trap
    (steps-to p s (core_of c.args.hart.now) (space_of c.keep_spare.new.mem) c.args.files.now here _ c.step.result (core_of c.step.new.hart) (space_of c.step.new.mem) c.step.ensures.outcome))
