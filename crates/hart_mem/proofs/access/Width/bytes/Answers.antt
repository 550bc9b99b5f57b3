use Rattle.hart_mem.specs.Access.{one, two, four, eight}
use Rattle.hart_mem.proofs.access.Width.bytes.Goals as goal

pub returns-in-One-clause-width : goal.returns-in-One-clause-width
returns-in-One-clause-width c = one

pub returns-in-Two-clause-width : goal.returns-in-Two-clause-width
returns-in-Two-clause-width c = two

pub returns-in-Four-clause-width : goal.returns-in-Four-clause-width
returns-in-Four-clause-width c = four

pub returns-in-Eight-clause-width : goal.returns-in-Eight-clause-width
returns-in-Eight-clause-width c = eight
