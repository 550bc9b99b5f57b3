use Rattle.std.proofs.Common.{◌∙◌, ap, sym, is_some}
use Rattle.std.specs.List.{count_by}
use Rattle.page_pool.proofs.StorageLemmas.{frames_from-count}
use Rattle.page_pool.proofs.pool.Pool.in_use.Goals as goal

pub returns-clause-counted : goal.returns-clause-counted
returns-clause-counted c =
    c.self.invariant.counted ∙ sym (frames_from-count c.self.inside.pages.pages 0 c.self.inside.used.items) ∙ ap (λ p. count_by is_some p.frames) c.self.view_is
