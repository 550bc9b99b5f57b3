use Rattle.std.proofs.Common.{refl, arith, ◌∙◌}
use Rattle.rv_model.specs.Space.{Space}
use Rattle.machine_laws.specs.OneMachine.{space_of_run}
use Rattle.hart_mem.specs.Held.{space_of}
use Rattle.hart_step.specs.Core.{Core, core_of}
use Rattle.hart_step.specs.declared.event.Event.TheVariants as event
use Rattle.word_laws.specs.Shown.{with_own}
use Rattle.word_laws.specs.OwnWords.{completed, gate_met, trapped, ProgramGoes}
use Rattle.runner_parts.specs.Parts.{IsAtRest, own_side}
use Rattle.runner.specs.declared.runner.Runner.{Runner}
use Rattle.runner.proofs.Moved.{shows-as, cache-at_rest}
use Rattle.runner.proofs.Words.{program-goes, program-rests, own-after, cache-after, no_other}
use Rattle.runner.proofs.Causes.{still-caused, trap-caused}
use Rattle.runner.proofs.runner.Runner.program_word.Goals as goal

pub returns-in-Done-clause-shows : goal.returns-in-Done-clause-shows
unfolding space_of_run
returns-in-Done-clause-shows c w r x a h =
    let v : Runner = c.args.self.now in
    let new : Core = core_of c.step.new.hart in
    let t : Space = space_of c.step.new.mem in
    let goes : ProgramGoes event.Done w r new t = program-goes v w r a h c.requires.program event.Done new t c.in-Done.ensures.outcome in
    let rest : IsAtRest (own_side r) r.cache = program-rests v w r a h c.requires.program in
    shows-as c.complete.new.self w _ (completed r new t) (goes.leads x) (c.complete.ensures.shows w (with_own r new t) (record {
      space = goes.space;
      own = own-after v w r new t h goes.side;
      shadow = h.shadow;
      sizes = h.sizes;
      cache = cache-after v w r new t h rest;
      counts = h.counts;
      ahead = h.ahead;
      whole = h.whole;
      end = h.end;
      notes = h.notes;
      text = h.text;
    }))

pub returns-in-Gate-clause-shows : goal.returns-in-Gate-clause-shows
unfolding space_of_run
returns-in-Gate-clause-shows c w r x a h =
    let v : Runner = c.args.self.now in
    let new : Core = core_of c.step.new.hart in
    let t : Space = space_of c.step.new.mem in
    let goes : ProgramGoes event.Gate w r new t = program-goes v w r a h c.requires.program event.Gate new t c.in-Gate.ensures.outcome in
    let rest : IsAtRest (own_side r) r.cache = program-rests v w r a h c.requires.program in
    shows-as _ w _ (gate_met r new t) (goes.leads x) (record {
      space = goes.space;
      own = record { hart = refl; side = goes.side; files_are = h.own.files_are; asked_is = refl; stalled_is = h.own.stalled_is; gathered_is = h.own.gathered_is };
      shadow = h.shadow;
      sizes = h.sizes;
      cache = cache-at_rest w (own_side r) (own_side (gate_met r new t)) r.cache v.cache v.staging.items h.cache rest refl refl;
      counts = h.counts;
      ahead = h.ahead;
      whole = h.whole;
      end = h.end;
      notes = h.notes;
      text = h.text;
    })

pub returns-in-Trap-clause-shows : goal.returns-in-Trap-clause-shows
unfolding space_of_run
returns-in-Trap-clause-shows c w r x a h =
    let v : Runner = c.args.self.now in
    let new : Core = core_of c.step.new.hart in
    let t : Space = space_of c.step.new.mem in
    let goes : ProgramGoes (event.Trap c.in-Trap.cause) w r new t = program-goes v w r a h c.requires.program (event.Trap c.in-Trap.cause) new t c.in-Trap.ensures.outcome in
    let rest : IsAtRest (own_side r) r.cache = program-rests v w r a h c.requires.program in
    shows-as c.trap.new.self w _ (trapped (with_own r new t) c.in-Trap.cause new.pc) (goes.leads x) (c.trap.ensures.shows w (with_own r new t) (record {
      space = goes.space;
      own = own-after v w r new t h goes.side;
      shadow = h.shadow;
      sizes = h.sizes;
      cache = cache-after v w r new t h rest;
      counts = h.counts;
      ahead = h.ahead;
      whole = h.whole;
      end = h.end;
      notes = h.notes;
      text = h.text;
    }))

pub returns-in_default-clause-shows : goal.returns-in_default-clause-shows
returns-in_default-clause-shows c w r x a h =
    let v : Runner = c.args.self.now in
    let new : Core = core_of c.step.new.hart in
    let t : Space = space_of c.step.new.mem in
    let goes : ProgramGoes c.step.result w r new t = program-goes v w r a h c.requires.program c.step.result new t c.step.ensures.outcome in
    absurd (no_other w r new t c.step.result c.in_default.not-Done c.in_default.not-Gate c.in_default.not-Trap (λ e. absurd (omega (arith, c.step.ensures.starved e, c.requires.spare))) goes.leads)

pub returns-in-Done-clause-caused : goal.returns-in-Done-clause-caused
returns-in-Done-clause-caused c now = still-caused _ now (c.complete.ensures.end ∙ c.requires.on)

pub returns-in-Gate-clause-caused : goal.returns-in-Gate-clause-caused
returns-in-Gate-clause-caused c now = still-caused _ now c.requires.on

pub returns-in-Trap-clause-caused : goal.returns-in-Trap-clause-caused
returns-in-Trap-clause-caused c now = trap-caused _ c.in-Trap.cause _ now c.trap.ensures.end

pub returns-in_default-clause-caused : goal.returns-in_default-clause-caused
returns-in_default-clause-caused c now = still-caused _ now c.requires.on
