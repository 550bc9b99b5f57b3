use Rattle.std.proofs.Common.{rules, ◌≡◌, ℕ, ◌+◌, ◌-◌, true, length, ◌∙◌, arith}
use Rattle.program_driver.proofs.Passing.{owns-length, passes-length}
use Rattle.program_driver.proofs.AtOnce.{front-Progress}
use Rattle.program_driver.proofs.driving.drive_at_once.Goals as goal

pub go_own-words-requires : goal.go_own-words-requires
go_own-words-requires c = omega (arith, c.own_left.ensures, owns-length c.args.schedule.now, c.requires)

pub overflow_sub-moves : goal.overflow_sub-moves
overflow_sub-moves c =
    omega (arith, passes-length c.go_own-words.result c.args.schedule.now c.pass_own-moves.new.self c.pass_own-moves.ensures.passes, c.pass_own-moves.ensures.count)

pub rest-requires : goal.rest-requires
rest-requires c =
    omega
    (arith, passes-length c.go_own-words.result c.args.schedule.now c.pass_own-moves.new.self c.pass_own-moves.ensures.passes, c.pass_own-moves.ensures.count, c.go_own-words.ensures.moves, c.requires)

pub returns-clause-few : goal.returns-clause-few
returns-clause-few c =
    omega
    (arith, passes-length c.go_own-words.result c.args.schedule.now c.pass_own-moves.new.self c.pass_own-moves.ensures.passes, c.pass_own-moves.ensures.count, c.go_own-words.ensures.moves, c.rest.ensures.moves, c.requires)

pub returns-clause-goes : goal.returns-clause-goes
returns-clause-goes c here pattern turns old before log =
    let n : ℕ = c.go_own-words.result in
    let shadow : true ≡ c.rests.result = search rules in
    let fetches : true ≡ c.rests-else-not-rests.result = search rules in
    let few = passes-length n c.args.schedule.now c.pass_own-moves.new.self c.pass_own-moves.ensures.passes in
    let count : length c.args.schedule.now ≡ n + (c.pass_own-moves.result - n) + length c.pass_own-moves.new.self = omega (arith, few, c.pass_own-moves.ensures.count) in
    front-Progress c.args.runner.now c.go_own-words.new.self c.rest.new.self n (c.pass_own-moves.result - n) c.args.schedule.now c.pass_own-moves.new.self c.pass_own-moves.ensures.passes count
    (λ w r h. shadow ∙ c.rests.ensures w r h) (λ w r h. fetches ∙ c.rests-else-not-rests.ensures w r h) c.go_own-words.ensures.makes c.rest.ensures.shows pattern turns old before here log
