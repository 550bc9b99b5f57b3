use Rattle.std.proofs.Common.{◌∙◌, ap, sym, Some}
use Rattle.page_pool.proofs.PoolLemmas.{looked_up, bytes_looked_up}
use Rattle.page_pool.proofs.pool.Pool.bytes.Goals as goal

pub returns-clause-lookup : goal.returns-clause-lookup
returns-clause-lookup c =
    looked_up c.self.inside c.frame.inside.number c.args.self.now c.args.frame.now c.self.view_is c.frame.view_is c.requires
    ∙ ap Some (sym c.bytes.ensures.value)

pub returns-clause-value : goal.returns-clause-value
returns-clause-value c = sym (bytes_looked_up c.args.self.now c.args.frame.now c.bytes.result.now (returns-clause-lookup c))
