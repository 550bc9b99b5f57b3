use Rattle.rv_model.specs.Memory.{zeros}
use Rattle.std.proofs.Common.{◌≡◌, map, take}
use Rattle.program_model.specs.Loading.{data_of, with_parts}
use Rattle.hart_mem.specs.Held.{space_of}
use Rattle.program_loader.specs.Programs.{part_of}
use Rattle.program_loader.proofs.parts.load_parts.Given as goal

abbrev pub invariant-loop-segment : goal.invariant-loop-segment
invariant-loop-segment l =
    space_of l.mem ≡ record (space_of l.fn.mem) { program = data_of (space_of l.fn.mem).layout (with_parts zeros (map (part_of l.bytes) (take l.segment-index l.segments))) }
