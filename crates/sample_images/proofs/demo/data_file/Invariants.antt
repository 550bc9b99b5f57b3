-- The bytes so far with those to come are all.
use Rattle.std.proofs.Common.{◌≡◌, ◌++◌, ◌-◌}
use Rattle.sample_images.specs.Demos.{data_bytes}
use Rattle.sample_images.proofs.demo.data_file.Given as goal

abbrev pub invariant-loop-i : goal.invariant-loop-i
invariant-loop-i l = l.bytes.items ++ data_bytes l.i (l.count - l.i) ≡ data_bytes 0 l.count
