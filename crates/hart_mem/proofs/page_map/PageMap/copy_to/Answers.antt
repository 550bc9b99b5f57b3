use Rattle.std.proofs.Common.{◌≤◌, length, ◌∙◌, refl, sym, arith}
use Rattle.rv_model.proofs.DataLemmas.{bytes_at-none}
use Rattle.hart_mem.specs.Paged.{flat}
use Rattle.hart_mem.proofs.DataBytes.{copied_length, copied_more}
use Rattle.hart_mem.proofs.page_map.PageMap.copy_to.Goals as goal

pub loop-done-init : goal.loop-done-init
loop-done-init c = record { bytes = sym (bytes_at-none (flat c.args.self.now) c.args.place); inside = omega arith; length = refl }

pub loop-done-preserved : goal.loop-done-preserved
loop-done-preserved c =
    let order : c.loop-done.done ≤ c.min-end.result = omega arith in
    let ends : c.min-end.result ≤ length c.loop-done.into = omega arith in
    let more = copied_more (flat c.args.self.now) c.args.place c.loop-done.done c.min-end.result c.loop-done.into c.copy_piece.new.into order ends c.copy_piece.ensures c.loop-done.invariant.bytes in
    let long = copied_length (flat c.args.self.now) c.args.place c.loop-done.done c.min-end.result c.loop-done.into c.copy_piece.new.into order ends c.copy_piece.ensures in
    record { bytes = more; inside = rw long ends; length = long ∙ c.loop-done.invariant.length }
