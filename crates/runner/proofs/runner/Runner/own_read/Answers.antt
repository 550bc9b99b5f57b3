use Rattle.std.proofs.Common.{◌≡◌, ℕ, true, false, Some, None, refl, sym, ap, ◌∙◌}
use Rattle.spec_base.specs.declared.spot.ReadSpot.{ReadSpot}
use Rattle.rv_model.specs.Registers.{reg}
use Rattle.program_model.specs.Cache.{Cache}
use Rattle.run_model.specs.Run.{Run}
use Rattle.run_model.specs.OwnMoves.{read_on}
use Rattle.runner.specs.Shows.{Shows}
use Rattle.runner_parts.specs.OwnCalls.{gathered_on, gone_on, stall_told, read_told, read_filled, read_answered}
use Rattle.runner.proofs.Moved.{shows-as}
use Rattle.runner.proofs.runner.Runner.own_read.Goals as goal

pub returns-in-Some-clause-shows : goal.returns-in-Some-clause-shows
returns-in-Some-clause-shows c w r x h plan long =
    let spot : ReadSpot = c.args.spot.now in
    let d : ℕ = reg r.own.registers 10 in
    let next : Run = gone_on (Some c.in-Some.block) spot r in
    let shown : Shows c.gather.new.self w next = c.in-Some.ensures.shows w r d c.args.address h plan in
    let waits : (gathered_on r spot).waits ≡ true = c.in-Some.ensures.waits w r d c.args.address h plan in
    let demanded : next.cache.demanded ≡ Some c.in-Some.block = sym (ap (λ (k : Cache). k.demanded) shown.cache.lists_are) ∙ sym c.in-Some.ensures.demanded in
    shows-as _ w _ (stall_told next) (λ i. read_on (waits i) w d spot c.args.address (gathered_on r spot) r) (c.stall.ensures.shows w next shown demanded)

pub returns-in-None-clause-shows : goal.returns-in-None-clause-shows
returns-in-None-clause-shows c w r x h plan long =
    let spot : ReadSpot = c.args.spot.now in
    let d : ℕ = reg r.own.registers 10 in
    let next : Run = gone_on None spot r in
    let shown : Shows c.gather.new.self w next = c.in-None.ensures.shows w r d c.args.address h plan in
    let waits : (gathered_on r spot).waits ≡ false = c.in-None.ensures.waits w r d c.args.address h plan in
    let told : Run = read_told spot next in
    let filled : Run = read_filled w spot c.args.address told in
    shows-as _ w _ (read_answered spot filled) (λ i. read_on (waits i) w d spot c.args.address (gathered_on r spot) (record r { stalled = plan.goes i }))
    (c.answer_read.ensures.shows w filled
    (c.fill_read.ensures.shows w told d (c.count_read.ensures.shows w next shown) (record { in_stub = plan.in_stub; at_call = plan.at_call; planned = plan.planned; goes = refl }) long))
