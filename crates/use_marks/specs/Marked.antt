-- What marks are, of the value that keeps them.
use Rattle.std.specs.Prelude.{false, slice_index_or}
use Rattle.run_model.specs.Marks as run
use Rattle.use_marks.specs.declared.marks.Marks.{Marks}
use Rattle.use_marks.specs.Ranges.{in_ranges}

-- the marked registers and bytes
unfoldable pub marks_of : Marks → run.Marks
marks_of m = record { registers = λ n. slice_index_or m.registers n false; bytes = in_ranges m.bytes.last_by_first.entries }
