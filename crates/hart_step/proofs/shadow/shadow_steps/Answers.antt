use Rattle.std.proofs.Common.{◌≡◌, ◌+◌, ◌<◌, ℕ, suc, subst, sym, ◌∙◌, refl, arith}
use Rattle.hart_mem.specs.Held.{space_of}
use Rattle.hart_step.specs.Core.{Core, core_of}
use Rattle.hart_step.specs.Flows.{core_at}
use Rattle.hart_step.specs.ShadowSteps.{Passes, none, ShadowStepsTo}
use Rattle.hart_step.specs.declared.event.Event.TheVariants as event
use Rattle.hart_step.proofs.Strides.{passed-still, next-Passes, looked-StepsTo, stopped-StepsTo, all-StepsTo}
use Rattle.hart_step.proofs.shadow.shadow_steps.Goals as goal

pub loop-done-init : goal.loop-done-init
loop-done-init c =
    record {
      view = c.requires.shadow;
      still = refl;
      passes = subst (λ (k : ℕ). Passes (core_of c.args.hart.now) (space_of c.args.mem.now) 0 (core_at (core_of c.args.hart.now) k)) (sym c.pc-pc.ensures) none;
      spare = refl;
    }

pub loop-done-preserved : goal.loop-done-preserved
loop-done-preserved c =
    let old = core_of c.args.hart.now in
    let s = space_of c.args.mem.now in
    let at = core_at (core_of c.loop-done.hart) c.loop-done.pc in
    let next = core_at (core_of c.step_shadow.new.hart) c.in-Pass.next in
    let n : suc c.loop-done.done ≡ c.loop-done.done + 1 = omega arith in
    record {
      view = c.in-Pass.ensures.view;
      still = passed-still old s c.loop-done.done at (space_of c.loop-done.mem) c.loop-done.invariant.still c.loop-done.invariant.passes c.loop-done.mem next (space_of c.step_shadow.new.mem) c.in-Pass.ensures.comes;
      passes = next-Passes old s c.loop-done.done at (space_of c.loop-done.mem) c.loop-done.invariant.still c.loop-done.invariant.passes c.loop-done.mem next (space_of c.step_shadow.new.mem) (c.loop-done.done + 1) n c.in-Pass.ensures.comes;
      spare = c.in-Pass.ensures.spare ∙ c.loop-done.invariant.spare;
    }

pub returns-in-Look-clause-steps : goal.returns-in-Look-clause-steps
returns-in-Look-clause-steps c =
    let old = core_of c.args.hart.now in
    let s = space_of c.args.mem.now in
    let at = core_at (core_of c.loop-done.hart) c.loop-done.pc in
    let next = core_at (core_of c.step_shadow.new.hart) c.in-Look.next in
    let n : suc c.loop-done.done ≡ c.loop-done.done + 1 = omega arith in
    let below : c.loop-done.done < c.args.most = c.loop-done-test.true in
    subst (λ (d : Core). ShadowStepsTo c.args.most (c.loop-done.done + 1) event.Done old s d (space_of c.step_shadow.new.mem)) (sym c.set_pc.ensures)
    (looked-StepsTo old s c.loop-done.done at (space_of c.loop-done.mem) c.loop-done.invariant.still c.loop-done.invariant.passes c.loop-done.mem next (space_of c.step_shadow.new.mem) c.args.most (c.loop-done.done + 1) n below c.in-Look.ensures.comes)

pub returns-in-Stop-clause-steps : goal.returns-in-Stop-clause-steps
returns-in-Stop-clause-steps c =
    let below : c.loop-done.done < c.args.most = c.loop-done-test.true in
    stopped-StepsTo (core_of c.args.hart.now) (space_of c.args.mem.now) c.loop-done.done (core_at (core_of c.loop-done.hart) c.loop-done.pc) (space_of c.loop-done.mem) c.loop-done.invariant.still
    c.loop-done.invariant.passes c.loop-done.mem (core_of c.step_shadow.new.hart) (space_of c.step_shadow.new.mem) c.args.most c.in-Stop.told below c.in-Stop.ensures.comes

pub returns-in-Stop-clause-never : goal.returns-in-Stop-clause-never
returns-in-Stop-clause-never c = c.in-Stop.ensures.comes.never

pub returns-in-Stop-clause-memory : goal.returns-in-Stop-clause-memory
returns-in-Stop-clause-memory c other = c.in-Stop.ensures.comes.still ∙ c.loop-done.invariant.still

pub returns-clause-steps : goal.returns-clause-steps
returns-clause-steps c =
    let over : c.loop-done.done ≡ c.args.most = omega (arith, c.loop-done-test.false, c.loop-done.auto.done-end) in
    all-StepsTo (core_of c.args.hart.now) (space_of c.args.mem.now) c.loop-done.done c.args.most (core_at (core_of c.loop-done.hart) c.loop-done.pc) (core_of c.set_pc-2.new.self)
    (space_of c.loop-done.mem) over c.loop-done.invariant.still c.set_pc-2.ensures c.loop-done.invariant.passes
