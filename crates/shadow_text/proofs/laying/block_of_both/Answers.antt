-- Two lists are laid behind the landing pad, and the word 0 stays to the end.
use Rattle.std.proofs.Common.{ap, ◌∙◌, ◌∷◌, ◌++◌, map, take, replicate}
use Rattle.rv_decode.specs.declared.instr.Instr.TheVariants.{Illegal}
use Rattle.rv_decode.specs.Encoding.{word_of}
use Rattle.shadow_text.proofs.Listed.{laid-both}
use Rattle.shadow_text.proofs.laying.block_of_both.Goals as goal

pub returns : goal.returns
returns c =
    laid-both word_of c.args.first.now c.args.rest.now c.landing_pad.result Illegal 15 c.lay.new.words c.lay-2.new.words c.requires.room c.lay.ensures c.lay-2.ensures
    ∙ ap (λ pad. pad ∷ map word_of (take 15 ((c.args.first.now ++ c.args.rest.now) ++ replicate 15 Illegal))) c.landing_pad.ensures
