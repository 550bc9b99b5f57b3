use Rattle.std.proofs.Common.{◌≡◌, ◌++◌, drop, map, string_bytes}
use Rattle.program_model.specs.Loading.{argument_bytes}
use Rattle.program_loader.proofs.start.argument_bytes.Given as goal

abbrev pub invariant-loop-argument : goal.invariant-loop-argument
invariant-loop-argument l =
    l.bytes.items ++ argument_bytes (drop l.argument-index (map string_bytes l.arguments)) ≡ argument_bytes (map string_bytes l.arguments)
