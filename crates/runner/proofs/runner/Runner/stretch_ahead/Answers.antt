use Rattle.std.proofs.Common.{ℕ, ◌+◌, ap, subst, ◌∙◌, arith}
use Rattle.rv_model.specs.Space.{Space}
use Rattle.hart_mem.specs.Held.{Held, space_of}
use Rattle.hart_step.specs.Core.{Core, core_of}
use Rattle.run_model.specs.Moves.{run_from}
use Rattle.word_laws.specs.Shown.{with_shadow}
use Rattle.runner.specs.Stretches.{StopsShadow, shadow_moves}
use Rattle.runner.proofs.Ahead.{done-leads, park-leads, trap-leads, left-leads, left-stops, leads-Makes, shows-with, stopped-less, counted-as}
use Rattle.runner.proofs.runner.Runner.stretch_ahead.Goals as goal

pub returns-in-Done-clause-makes : goal.returns-in-Done-clause-makes
returns-in-Done-clause-makes c w r a h =
    let d : Core = core_of c.shadow_steps-words.new.hart in
    let t : Space = space_of c.shadow_steps-words.new.mem in
    let n : ℕ = c.shadow_steps-words.result.0 in
    let leads = done-leads c.args.self.now w r a h c.requires.on c.requires.runs c.args.most c.requires.counted n
    c.shadow_steps-words.result.1 d t c.shadow_steps-words.ensures.steps c.requires.some c.shadow_steps-words.ensures.most c.in-Done.is in
    leads-Makes n c.end_ahead.new.self w r _ d t leads (c.end_ahead.ensures.shows w (with_shadow r d t)
    (shows-with c.args.self.now c.shadow_steps-words.new.hart c.shadow_steps-words.new.mem _ _ _ _ w r h leads.space))

pub returns-in-Park-clause-makes : goal.returns-in-Park-clause-makes
returns-in-Park-clause-makes c w r a h =
    let d : Core = core_of c.shadow_steps-words.new.hart in
    let t : Space = space_of c.shadow_steps-words.new.mem in
    let n : ℕ = c.shadow_steps-words.result.0 in
    let leads = park-leads c.args.self.now w r a h c.requires.on c.requires.runs c.args.most c.requires.counted n
    c.shadow_steps-words.result.1 d t c.shadow_steps-words.ensures.steps c.in-Park.cause c.in-Park.is in
    leads-Makes (n + 1) c.park_ahead.new.self w r _ d t leads (c.park_ahead.ensures.shows w (with_shadow r d t)
    (shows-with c.args.self.now c.shadow_steps-words.new.hart c.shadow_steps-words.new.mem _ _ _ _ w r h leads.space))

pub returns-in-Trap-clause-makes : goal.returns-in-Trap-clause-makes
returns-in-Trap-clause-makes c w r a h =
    let d : Core = core_of c.shadow_steps-words.new.hart in
    let t : Space = space_of c.shadow_steps-words.new.mem in
    let n : ℕ = c.shadow_steps-words.result.0 in
    let leads = trap-leads c.args.self.now w r a h c.requires.on c.requires.runs c.args.most c.requires.counted n
    c.shadow_steps-words.result.1 d t c.shadow_steps-words.ensures.steps c.in-Trap.field-0 c.in-Trap.is in
    leads-Makes (n + 1) c.park_ahead-in-Trap.new.self w r _ d t leads (c.park_ahead-in-Trap.ensures.shows w (with_shadow r d t)
    (shows-with c.args.self.now c.shadow_steps-words.new.hart c.shadow_steps-words.new.mem _ _ _ _ w r h leads.space))

pub returns-in_default-clause-makes : goal.returns-in_default-clause-makes
returns-in_default-clause-makes c w r a h =
    let d : Core = core_of c.shadow_steps-words.new.hart in
    let t : Space = space_of c.shadow_steps-words.new.mem in
    let n : ℕ = c.shadow_steps-words.result.0 in
    let leads = left-leads c.args.self.now w r a h c.requires.on c.requires.runs c.args.most c.requires.counted n
    c.shadow_steps-words.result.1 d t c.shadow_steps-words.ensures.steps
    c.in_default.not-Done c.in_default.not-Park c.in_default.not-Trap in
    leads-Makes n c.pass.new.self w r _ d t leads (c.pass.ensures.shows w (with_shadow r d t)
    (shows-with c.args.self.now c.shadow_steps-words.new.hart c.shadow_steps-words.new.mem _ _ _ _ w r h leads.space))

pub returns-in_default-clause-stops : goal.returns-in_default-clause-stops
unfolding run_from
returns-in_default-clause-stops c none w r a h =
    let d : Core = core_of c.shadow_steps-words.new.hart in
    let t : Space = space_of c.shadow_steps-words.new.mem in
    let n : ℕ = c.shadow_steps-words.result.0 in
    subst (λ (k : ℕ). StopsShadow w (run_from w r (shadow_moves k))) none
    (left-stops c.args.self.now w r a h c.requires.on c.requires.runs c.args.most c.requires.counted n
    c.shadow_steps-words.result.1 d t c.shadow_steps-words.ensures.steps
    c.in_default.not-Done c.in_default.not-Park c.in_default.not-Trap)

pub returns-in_default-clause-counted : goal.returns-in_default-clause-counted
returns-in_default-clause-counted c some =
    let less = stopped-less c.args.most c.shadow_steps-words.result.0 c.shadow_steps-words.result.1 _ _ _ _
    c.shadow_steps-words.ensures.steps c.in_default.not-Done in
    counted-as c.args.self.now c.pass.new.self
    (ap (λ (m : Held). space_of m) c.pass.ensures.kept.0 ∙ c.shadow_steps-words.ensures.memory c.in_default.not-Done)
    c.pass.ensures.kept.1 (c.requires.counted (omega (arith, less, some)))
