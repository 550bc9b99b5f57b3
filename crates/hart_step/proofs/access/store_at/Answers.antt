use Rattle.std.proofs.Common.{sym}
use Rattle.hart_mem.specs.Access.{width_bytes}
use Rattle.hart_step.proofs.Stores.{store_made, store_out, store_starved}
use Rattle.hart_step.proofs.access.store_at.Goals as goal

pub returns-in-Ok-clause-outcome : goal.returns-in-Ok-clause-outcome
returns-in-Ok-clause-outcome c =
    let made = store_made _ _ _ c.args.address (width_bytes c.store_width.result) c.args.value (sym c.in-Ok.ensures.answer) in
    rw (c.next.ensures, ← c.store_width.ensures, ← c.requires, made.0, made.1) (cc (c.in-Ok.ensures.ok))

pub returns-in-Err-Out-clause-outcome : goal.returns-in-Err-Out-clause-outcome
returns-in-Err-Out-clause-outcome c =
    let out = store_out _ _ _ c.args.address (width_bytes c.store_width.result) c.args.value _ (sym c.in-Err-Out.ensures.answer) c.in-Err-Out.field-0-is in
    rw (c.stop-in-Err-Out.ensures.flow, c.stop-in-Err-Out.ensures.hart, ← c.store_width.ensures, ← c.requires, out) (cc (c.in-Err-Out.ensures.err))

pub returns-in-Err-NoMemory-clause-outcome : goal.returns-in-Err-NoMemory-clause-outcome
returns-in-Err-NoMemory-clause-outcome c =
    let starved = store_starved _ _ _ c.args.address (width_bytes c.store_width.result) c.args.value _ (sym c.in-Err-NoMemory.ensures.answer) c.in-Err-NoMemory.field-0-is in
    rw (c.stop-in-Err-NoMemory.ensures.flow, c.stop-in-Err-NoMemory.ensures.hart, ← c.store_width.ensures, ← c.requires, starved.0, starved.1) (cc (c.in-Err-NoMemory.ensures.err))
