use Rattle.rv_decode.proofs.Decodes.{decodes_encoded}
use Rattle.rv_decode.proofs.Below.{encoded_is_word}
use Rattle.rv_decode.proofs.laws.decodes_encoded.Goals as goal

pub returns-clause-decodes : goal.returns-clause-decodes
returns-clause-decodes c = decodes_encoded

pub returns-clause-word : goal.returns-clause-word
returns-clause-word c = encoded_is_word
