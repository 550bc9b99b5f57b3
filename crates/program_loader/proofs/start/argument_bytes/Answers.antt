use Rattle.std.proofs.Common.{[], ◌∷◌, ◌++◌, map, string_bytes, ap, ◌∙◌}
use Rattle.program_model.specs.Loading.{argument_bytes}
use Rattle.program_loader.proofs.ArgumentLemmas.{bytes_at, within, bytes-more}
use Rattle.program_loader.proofs.start.argument_bytes.Goals as goal

pub loop-argument-preserved : goal.loop-argument-preserved
loop-argument-preserved c =
    let words = c.args.arguments.now in
    let i = c.loop-argument.argument-index in
    let argument = c.as_bytes.ensures.value ∙ bytes_at words i c.argument-item.result c.loop-argument-test.true c.argument-item.is in
    let items = c.in_ok-push.ensures.items ∙ ap (λ xs. xs ++ 0 ∷ []) c.in_ok-extend_from_slice.ensures.items in
    let more = bytes-more (map string_bytes words) i c.as_bytes.result.now c.loop-argument.bytes.items (argument_bytes (map string_bytes words)) (within words i c.loop-argument-test.true) argument c.loop-argument.invariant in
    rw items more
