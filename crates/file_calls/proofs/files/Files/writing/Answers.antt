use Rattle.file_calls.proofs.files.Files.writing.Goals as goal

pub returns-in-Out-clause-bounds : goal.returns-in-Out-clause-bounds
returns-in-Out-clause-bounds g c = c.putting.ensures.bounds c.args.descriptor

pub returns-in-Err-clause-bounds : goal.returns-in-Err-clause-bounds
returns-in-Err-clause-bounds g c = c.putting-in-Err.ensures.bounds c.args.descriptor
