use Rattle.std.proofs.Common.{◌+◌, ◌∙◌, refl, ap, arith, slice_range}
use Rattle.rv_model.specs.Memory.{Memory, written}
use Rattle.hart_mem.proofs.Pieces.{patched_none, patched_more, patched_all}
use Rattle.hart_mem.proofs.page_map.PageMap.write_all.Goals as goal

pub loop-done-init : goal.loop-done-init
loop-done-init c = record { bytes = patched_none _ _ _; table = refl; spare = refl; inside = omega arith }

pub loop-done-preserved : goal.loop-done-preserved
loop-done-preserved c =
    record {
      bytes = c.write.ensures.bytes ∙ ap (λ (m : Memory). written m (c.args.place + c.loop-done.done) (slice_range c.args.bytes.now c.loop-done.done c.min-end.result)) c.loop-done.invariant.bytes ∙ patched_more _ c.args.place c.loop-done.done c.min-end.result c.args.bytes.now (omega arith) (omega arith);
      table = c.write.ensures.table ∙ c.loop-done.invariant.table;
      spare = c.write.ensures.spare ∙ c.loop-done.invariant.spare;
      inside = omega arith;
    }

pub returns-clause-bytes : goal.returns-clause-bytes
returns-clause-bytes c = c.loop-done.invariant.bytes ∙ patched_all _ c.args.place c.loop-done.done c.args.bytes.now (omega arith)
