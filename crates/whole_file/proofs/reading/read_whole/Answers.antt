use Rattle.std.proofs.Common.{refl, rules, arith, take, ◌≡◌, ◌+◌, ◌++◌, vec_len}
use Rattle.whole_file.proofs.Steps.{failed_look-ReadsWhole, starved-ReadsWhole, found-ReadLog, got-ReadLog, failed_fetch-ReadsWhole, whole-ReadsWhole}
use Rattle.whole_file.proofs.reading.read_whole.Goals as goal

pub returns-in-Failed-clause-calls : goal.returns-in-Failed-clause-calls
returns-in-Failed-clause-calls g c =
    failed_look-ReadsWhole _ _ _ c.in-Failed.ensures.keeps (c.in-Failed.ensures.failed refl) c.in-Failed.ensures.number

pub returns-in_default-clause-calls : goal.returns-in_default-clause-calls
returns-in_default-clause-calls g c =
    starved-ReadsWhole _ _ c.args.name.now c.in-Found.size (found-ReadLog _ _ c.args.name.now c.in-Found.size c.in-Found.ensures.keeps c.in-Found.ensures.number c.in-Found.ensures.told) (search rules)

pub returns-in-Failed-fetch-clause-calls : goal.returns-in-Failed-fetch-clause-calls
returns-in-Failed-fetch-clause-calls g c =
    failed_fetch-ReadsWhole _ _ _ c.args.name.now c.in-Found.size c.loop-block.block _ c.loop-block.invariant.log
    c.in-Failed-fetch.ensures.keeps (c.in-Failed-fetch.ensures.failed refl) c.in-Failed-fetch.ensures.number (search rules) (search rules)

pub loop-block-preserved : goal.loop-block-preserved
loop-block-preserved g c =
    let now = got-ReadLog _ _ _ c.args.name.now c.in-Found.size c.loop-block.block _ c.fetch.new.into c.in-Got.count c.loop-block.invariant.log c.in-Got.ensures.keeps c.in-Got.ensures.number c.in-Got.ensures.told in
    let items : c.extend_from_slice.new.self.items ≡ c.loop-block.bytes.items ++ take c.in-Got.count c.fetch.new.into = search rules in
    let long : vec_len c.extend_from_slice.new.self ≡ vec_len c.loop-block.bytes + c.in-Got.count = search rules in
    record {
      log = rw items now;
      room = omega (arith, long, c.loop-block.invariant.room, c.in-Got.ensures.size);
      capacity = omega (arith, c.loop-block.invariant.capacity, c.extend_from_slice.ensures.capacity);
    }
