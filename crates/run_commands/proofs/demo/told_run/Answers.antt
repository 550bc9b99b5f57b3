use Rattle.std.proofs.Common.{◌≡◌, ℕ, List, true, length, ◌∙◌, ap, refl, arith}
use Rattle.world_io.specs.Buffers.{told_of_buf}
use Rattle.run_commands.specs.Demo.{demo_line, has_ended}
use Rattle.run_commands.proofs.Demonstrating.{driven-IsDemoLine, outside-same}
use Rattle.run_commands.proofs.demo.told_run.Goals as goal

pub returns : goal.returns
returns c =
    let r = c.args.request.now in
    let file = c.args.file.now in
    let ended : has_ended c.drive-ending.result ≡ true = (let is = c.has_ended.ensures in let kept = c.if-not-has_ended.false in grind arith) in
    let line = c.in_ok-line.ensures
    ∙ ap (λ (bytes : List ℕ). demo_line r.number (length file) (length bytes) c.counts-counts.result) c.bytes.ensures in
    driven-IsDemoLine r file c.drive-ending.new.out c.args.runner.now c.drive-ending.new.runner c.drive-ending.result c.counts-counts.result _ _ c.in_ok-line.line.items
    c.requires.opens c.requires.stands ended (outside-same _ _ _ _ _ _ c.in_ok-store.ensures (ap told_of_buf c.in_ok-out.ensures) c.new-err.ensures) c.drive-ending.ensures.drives c.counts-counts.ensures refl line
