use Rattle.std.proofs.Common.{sym, ap, ◌∙◌, arith}
use Rattle.spec_base.specs.declared.note.Move.{Move}
use Rattle.spec_base.specs.declared.note.Move.TheVariants.{O, S, T}
use Rattle.run_model.specs.Moves.{is_idle}
use Rattle.program_driver.proofs.Silent.{silent-front, front-as, stops-as, own-Makes, shadow-Makes, waiting-Makes, idle-stops, waiting-stops}
use Rattle.program_driver.proofs.driving.make_at_once.Goals.{then-most-eq0-via-then-most-eq0, then-most-eq0-via-else-most-eq0+then-rests}
use Rattle.program_driver.proofs.driving.make_at_once.Goals as goal

pub returns-then-most-eq0-clause-stops : goal.returns-then-most-eq0-clause-stops
returns-then-most-eq0-clause-stops c few w r a h =
    elim c.then-most-eq0.branch [
      | then-most-eq0-via-then-most-eq0 z ↦ absurd (omega (arith, few, z.if-most-eq0.true))
      | then-most-eq0-via-else-most-eq0+then-rests z ↦ idle-stops c.args.step c.args.runner.now w r (sym (z.rests.ensures w r h) ∙ z.if-rests.true)
    ]

pub returns-in-O-clause-goes : goal.returns-in-O-clause-goes
returns-in-O-clause-goes c =
    front-as c.args.runner.now c.go_own.new.self c.args.step O c.args.most c.go_own.result c.in-O.is
    (silent-front c.args.runner.now c.go_own.new.self O c.args.most c.go_own.result c.go_own.ensures.most (own-Makes c.args.runner.now c.go_own.new.self c.go_own.result c.go_own.ensures.makes))

pub returns-in-S-clause-goes : goal.returns-in-S-clause-goes
returns-in-S-clause-goes c =
    front-as c.args.runner.now c.go_shadow.new.self c.args.step S c.args.most c.go_shadow.result c.in-S.is
    (silent-front c.args.runner.now c.go_shadow.new.self S c.args.most c.go_shadow.result c.go_shadow.ensures.most (shadow-Makes c.args.runner.now c.go_shadow.new.self c.go_shadow.result c.go_shadow.ensures.makes))

pub returns-in-T-clause-goes : goal.returns-in-T-clause-goes
returns-in-T-clause-goes c =
    front-as c.args.runner.now c.go_shadow-in-T.new.self c.args.step T c.args.most c.go_shadow-in-T.result c.in-T.is
    (silent-front c.args.runner.now c.go_shadow-in-T.new.self T c.args.most c.go_shadow-in-T.result c.go_shadow-in-T.ensures.most
    (waiting-Makes c.args.runner.now c.go_shadow-in-T.new.self c.go_shadow-in-T.result
    (λ w r h. ap (λ (m : Move). is_idle m r) (sym c.in-T.is) ∙ sym (c.rests.ensures w r h) ∙ c.if-rests.false) c.go_shadow-in-T.ensures.makes))

pub returns-in-O-clause-stops : goal.returns-in-O-clause-stops
returns-in-O-clause-stops c = stops-as c.args.runner.now c.go_own.new.self c.args.step O c.args.most c.go_own.result c.in-O.is c.go_own.ensures.stops

pub returns-in-S-clause-stops : goal.returns-in-S-clause-stops
returns-in-S-clause-stops c = stops-as c.args.runner.now c.go_shadow.new.self c.args.step S c.args.most c.go_shadow.result c.in-S.is c.go_shadow.ensures.stops

pub returns-in-T-clause-stops : goal.returns-in-T-clause-stops
returns-in-T-clause-stops c =
    stops-as c.args.runner.now c.go_shadow-in-T.new.self c.args.step T c.args.most c.go_shadow-in-T.result c.in-T.is
    (waiting-stops c.args.runner.now c.go_shadow-in-T.new.self c.args.most c.go_shadow-in-T.result
    (λ w r h. ap (λ (m : Move). is_idle m r) (sym c.in-T.is) ∙ sym (c.rests.ensures w r h) ∙ c.if-rests.false) c.go_shadow-in-T.ensures.makes c.go_shadow-in-T.ensures.stops)
