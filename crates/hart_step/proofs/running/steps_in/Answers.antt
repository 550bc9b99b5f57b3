use Rattle.std.proofs.Common.{◌≡◌, ◌+◌, ℕ, suc, subst, sym, ◌∙◌, inl, refl, arith}
use Rattle.hart_mem.specs.Held.{space_of, lacks_frame}
use Rattle.hart_step.specs.Core.{core_of}
use Rattle.hart_step.specs.Step.{effect_here}
use Rattle.hart_step.specs.Flows.{core_at}
use Rattle.hart_step.specs.Steps.{Completes, none, more}
use Rattle.hart_mem.proofs.MemLemmas.{UsesSpare-then}
use Rattle.hart_step.proofs.Spares.{unused}
use Rattle.hart_step.proofs.Views.{view-kept}
use Rattle.hart_step.proofs.running.steps_in.Goals as goal

pub loop-done-init : goal.loop-done-init
loop-done-init g c =
    record {
      same_view = c.requires;
      completes = subst (λ (k : ℕ). Completes (core_of c.args.hart.now) (space_of c.args.mem.now) 0 (core_at (core_of c.args.hart.now) k) (space_of c.args.mem.now)) (sym c.pc-pc.ensures) none;
      uses = unused c.args.mem.now;
      kept = λ none. refl;
    }

pub loop-done-preserved : goal.loop-done-preserved
loop-done-preserved g c =
    let at = core_at (core_of c.loop-done.hart) c.loop-done.pc in
    let next = core_at (core_of c.step_at.new.hart) c.in-Next.next in
    let lacks = lacks_frame (core_of c.loop-done.hart).view c.loop-done.mem in
    let n : suc c.loop-done.done ≡ c.loop-done.done + 1 = omega arith in
    record {
      same_view =
          c.loop-done.invariant.same_view
          ∙ sym (view-kept at (space_of c.loop-done.mem) lacks (effect_here at (space_of c.loop-done.mem)) next (space_of c.step_at.new.mem) c.in-Next.ensures.outcome);
      completes = subst (λ k. Completes (core_of c.args.hart.now) (space_of c.args.mem.now) k next (space_of c.step_at.new.mem)) n
          (more c.loop-done.done at next (space_of c.loop-done.mem) (space_of c.step_at.new.mem) lacks c.loop-done.invariant.completes c.in-Next.ensures.outcome);
      uses = UsesSpare-then c.args.mem.now c.loop-done.mem c.step_at.new.mem c.loop-done.invariant.uses c.in-Next.ensures.uses;
      kept = λ none. c.in-Next.ensures.kept (rw (← c.loop-done.invariant.same_view) none) ∙ c.loop-done.invariant.kept none;
    }

pub returns-clause-steps : goal.returns-clause-steps
returns-clause-steps g c =
    let at = core_at (core_of c.loop-done.hart) c.loop-done.pc in
    let over : c.loop-done.done ≡ c.args.most = omega (arith, c.loop-done-test.false, c.loop-done.auto.done-end) in
    record {
      at = at;
      here = space_of c.loop-done.mem;
      completes = subst (λ k. Completes (core_of c.args.hart.now) (space_of c.args.mem.now) k at (space_of c.loop-done.mem)) over c.loop-done.invariant.completes;
      ends = inl (refl, refl, c.set_pc.ensures, refl);
    }

pub returns-in-Stop-clause-uses : goal.returns-in-Stop-clause-uses
returns-in-Stop-clause-uses g c = UsesSpare-then c.args.mem.now c.loop-done.mem c.step_at.new.mem c.loop-done.invariant.uses c.in-Stop.ensures.uses
