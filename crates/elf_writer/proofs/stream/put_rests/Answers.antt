use Rattle.std.proofs.Common.{rules}
use Rattle.elf_writer.proofs.StreamLemmas.{put-RestsLog, whole-PutsRests, failed-PutsRests}
use Rattle.elf_writer.proofs.stream.put_rests.Goals as goal

pub loop-rest-preserved : goal.loop-rest-preserved
loop-rest-preserved g c =
    put-RestsLog _ _ _ _ c.loop-rest.rest.now c.in-Took.count c.loop-rest.invariant (c.in-Took.ensures.some (search rules)) c.in-Took.ensures.sure

pub returns-in-Failed : goal.returns-in-Failed
returns-in-Failed g c =
    failed-PutsRests _ _ _ c.args.bytes.now c.loop-rest.rest.now c.loop-rest.invariant (search rules) (c.in-Failed.ensures.some (search rules)) c.in-Failed.ensures.sure

pub returns : goal.returns
returns g c = whole-PutsRests _ _ _ c.loop-rest.rest.now c.loop-rest.invariant (search rules)
