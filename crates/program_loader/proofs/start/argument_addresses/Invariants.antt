use Rattle.std.proofs.Common.{◌≡◌, ◌+◌, ◌++◌, length, drop, map, string_bytes}
use Rattle.program_model.specs.Loading.{argument_addresses, argument_bytes}
use Rattle.program_loader.proofs.start.argument_addresses.Given as goal

abbrev pub invariant-loop-argument : goal.invariant-loop-argument
invariant-loop-argument l =
    (l.addresses.items ++ argument_addresses l.at (drop l.argument-index (map string_bytes l.arguments)) ≡ argument_addresses l.start (map string_bytes l.arguments))
    × (l.at + length (argument_bytes (drop l.argument-index (map string_bytes l.arguments))) ≡ l.start + length (argument_bytes (map string_bytes l.arguments)))
