use Rattle.elf_image.proofs.ImageLemmas.{words-next}
use Rattle.elf_image.proofs.image.words_at.Goals as goal

pub loop-i-preserved : goal.loop-i-preserved
loop-i-preserved c =
    words-next c.args.offset c.loop-i.i c.args.bytes.now c.loop-i.words.items c.push.new.self.items c.word_at.result
    c.loop-i.invariant c.word_at.ensures c.in_ok-push.ensures.items
