use Rattle.std.proofs.Common.{◌∙◌}
use Rattle.rv_decode.proofs.ByTable.{instr_of-table}
use Rattle.rv_decode.proofs.decoding.decode.Goals as goal

pub returns-clause-table : goal.returns-clause-table
returns-clause-table c = c.decode_by_opcode.ensures ∙ instr_of-table c.args.word c.ranges.word.fits
