use Rattle.std.proofs.Common.{◌∙◌, ap, sym, subst}
use Rattle.rv_decode.specs.Instruction.{instr_of}
use Rattle.rv_decode.specs.Encoding.{word_of, IsEncodable}
use Rattle.rv_decode.proofs.Decodes.{decodes_encoded}
use Rattle.rv_decode.proofs.Encodes.{encodes_decoded}
use Rattle.rv_encode.proofs.encoding.encode.Goals as goal

pub returns-clause-decodes : goal.returns-clause-decodes
returns-clause-decodes c = ap instr_of c.encode_by_format.ensures.word ∙ decodes_encoded _ c.requires c.encode_by_format.ensures.registers

pub returns-clause-again : goal.returns-clause-again
returns-clause-again c = λ word below same.
    c.encode_by_format.ensures.word
    ∙ ap word_of (sym same)
    ∙ encodes_decoded word below (λ none. subst IsEncodable (sym same ∙ none) c.requires)
