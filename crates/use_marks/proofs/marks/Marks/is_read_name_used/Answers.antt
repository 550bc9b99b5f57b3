use Rattle.std.proofs.Common.{arith, ◌≡◌, ◌==◌, ◌%◌, true, ap, ◌∙◌}
use Rattle.std.proofs.lemmas.Bool.Decides.{nat_tests}
use Rattle.rv_model.specs.Memory.{any_from}
use Rattle.use_marks.specs.Ranges.{in_ranges}
use Rattle.use_marks.specs.Marked.{marks_of}
use Rattle.use_marks.proofs.marks.Marks.is_read_name_used.Goals as goal

pub returns-then-flags-eq0 : goal.returns-then-flags-eq0
unfolding marks_of
returns-then-flags-eq0 g c =
    let t : (c.args.flags % 4 == 0) ≡ true = grind (arith, nat_tests) in
    rw t (c.contains_any.ensures ∙ ap (any_from (in_ranges c.args.self.now.bytes.last_by_first.entries) c.args.address) c.name_length.ensures)
