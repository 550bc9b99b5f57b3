use Rattle.std.proofs.Common.{◌+◌, ◌<◌, ◌^◌, length, sym, arith, rules}
use Rattle.std.proofs.lemmas.List.{take_more_set}
use Rattle.rv_model.specs.Data.{data_in, memory_in}
use Rattle.rv_model.proofs.DataLemmas.{all_from-at, bytes_at-more, bytes_at-none, data_in-low, memory_in-low}
use Rattle.rv_model.proofs.bytes.Bytes.copy_to.Goals as goal

pub loop-i-init : goal.loop-i-init
loop-i-init g c = sym (bytes_at-none (memory_in (g.Self.Bytes.byte_at c.args.self.now)) c.args.address)

pub overflow_add-address : goal.overflow_add-address
overflow_add-address g c =
    let byte_at = g.Self.Bytes.byte_at c.args.self.now in
    let low : c.args.address + c.loop-i.i < 2 ^ 64 = data_in-low byte_at (c.args.address + c.loop-i.i) (all_from-at (data_in byte_at) (length c.args.into.now) c.args.address c.loop-i.i c.requires c.loop-i-test.true) in
    search rules

pub loop-i-preserved : goal.loop-i-preserved
loop-i-preserved g c =
    let byte_at = g.Self.Bytes.byte_at c.args.self.now in
    let inside : c.loop-i.i < length c.loop-i.into = omega (arith, c.loop-i-test.true, c.loop-i.auto.into) in
    let low : c.args.address + c.loop-i.i < 2 ^ 64 = data_in-low byte_at (c.args.address + c.loop-i.i) (all_from-at (data_in byte_at) (length c.args.into.now) c.args.address c.loop-i.i c.requires c.loop-i-test.true) in
    let more = bytes_at-more (memory_in byte_at) c.args.address c.loop-i.i in
    let here = memory_in-low byte_at (c.args.address + c.loop-i.i) low in
    let longer = take_more_set c.loop-i.into c.loop-i.i c.unwrap_or.result inside in
    grind (arith, more, here, longer, c.loop-i.invariant, c.unwrap_or.ensures, c.byte.ensures)
