use Rattle.rv_decode.proofs.Encodes.{encodes_decoded}
use Rattle.rv_decode.proofs.Encodable.{decoded_is_encodable, decoded_has_registers}
use Rattle.rv_decode.proofs.laws.encodes_decoded.Goals as goal

pub returns-clause-encodes : goal.returns-clause-encodes
returns-clause-encodes c = encodes_decoded

pub returns-clause-encodable : goal.returns-clause-encodable
returns-clause-encodable c = decoded_is_encodable

pub returns-clause-registers : goal.returns-clause-registers
returns-clause-registers c = decoded_has_registers
