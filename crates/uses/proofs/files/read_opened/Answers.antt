use Rattle.uses.proofs.Slots.{opened-read}
use Rattle.uses.proofs.files.read_opened.Goals as goal

pub returns-in-Read-clause-name : goal.returns-in-Read-clause-name
returns-in-Read-clause-name g c given =
    (opened-read _ c.args.files.now c.opened-opened.result.0 c.opened-opened.result.1 c.args.name c.args.size c.args.descriptor _ _ _ _ c.in-Read.spot c.opened-opened.ensures given c.in-Read.ensures.plan).0

pub returns-in-Read-clause-start : goal.returns-in-Read-clause-start
returns-in-Read-clause-start g c given =
    (opened-read _ c.args.files.now c.opened-opened.result.0 c.opened-opened.result.1 c.args.name c.args.size c.args.descriptor _ _ _ _ c.in-Read.spot c.opened-opened.ensures given c.in-Read.ensures.plan).1
