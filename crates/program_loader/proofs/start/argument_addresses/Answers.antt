use Rattle.std.proofs.Common.{◌+◌, length, map, string_bytes, ◌∙◌, arith}
use Rattle.program_model.specs.Loading.{argument_addresses, argument_bytes}
use Rattle.program_loader.proofs.ArgumentLemmas.{bytes_at, within, addresses-more, at-more}
use Rattle.program_loader.proofs.start.argument_addresses.Goals as goal

pub overflow_add-at-in-loop-argument : goal.overflow_add-at-in-loop-argument
overflow_add-at-in-loop-argument c =
    let words = c.args.arguments.now in
    let i = c.loop-argument.argument-index in
    let argument = c.as_bytes.ensures.value ∙ bytes_at words i c.argument-item.result c.loop-argument-test.true c.argument-item.is in
    let more = at-more (map string_bytes words) i c.loop-argument.at (c.args.start + length (argument_bytes (map string_bytes words))) c.as_bytes.result.now (within words i c.loop-argument-test.true) argument c.loop-argument.invariant.1 in
    omega (arith, more, c.requires)

pub loop-argument-preserved : goal.loop-argument-preserved
loop-argument-preserved c =
    let words = c.args.arguments.now in
    let i = c.loop-argument.argument-index in
    let argument = c.as_bytes.ensures.value ∙ bytes_at words i c.argument-item.result c.loop-argument-test.true c.argument-item.is in
    let more = addresses-more (map string_bytes words) i c.loop-argument.at c.as_bytes.result.now c.loop-argument.addresses.items (argument_addresses c.args.start (map string_bytes words)) (within words i c.loop-argument-test.true) argument c.loop-argument.invariant.0 in (
      rw c.in_ok-push.ensures.items more,
      at-more (map string_bytes words) i c.loop-argument.at (c.args.start + length (argument_bytes (map string_bytes words))) c.as_bytes.result.now (within words i c.loop-argument-test.true) argument c.loop-argument.invariant.1,
    )
