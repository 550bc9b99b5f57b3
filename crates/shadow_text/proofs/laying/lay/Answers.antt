-- The next word joins those that are laid.
use Rattle.std.proofs.Common.{ap, ◌∙◌, ◌+◌, ◌++◌, slice_set, map, take, drop}
use Rattle.rv_decode.specs.Encoding.{word_of}
use Rattle.shadow_text.proofs.Listed.{laid-next}
use Rattle.shadow_text.proofs.laying.lay.Goals as goal

pub loop-i-preserved : goal.loop-i-preserved
loop-i-preserved c =
    ap (λ words. slice_set words (c.args.at + c.loop-i.i) c.encode.result) c.loop-i.invariant
    ∙ ap (λ word. slice_set (take c.args.at c.args.words.now ++ (map word_of (take c.loop-i.i c.args.instrs.now) ++ drop (c.args.at + c.loop-i.i) c.args.words.now)) (c.args.at + c.loop-i.i) word)
    (c.encode.ensures.word ∙ ap word_of c.index-instrs-i.is)
    ∙ laid-next word_of c.args.instrs.now c.args.words.now c.args.at c.loop-i.i c.index-instrs-i.result c.loop-i-test.true c.requires.room
