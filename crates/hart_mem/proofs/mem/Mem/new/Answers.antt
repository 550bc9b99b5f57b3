use Rattle.std.proofs.Common.{◌≡◌, ap, arith}
use Rattle.page_pool.specs.Frames.{Frames}
use Rattle.hart_mem.specs.Held.{Held, spare_of}
use Rattle.hart_mem.proofs.MemLemmas.{empty_spaced, flat_new}
use Rattle.hart_mem.proofs.mem.Mem.new.Goals as goal

pub returns-clause-space : goal.returns-clause-space
returns-clause-space c =
    let made : Held = record { layout = c.args.layout; text = c.in_ok-text.text; shadow = c.none.result; helpers = c.none-2.result; stub = c.none-3.result; pages = c.obtain_all.new.self } in
    rw (← c.in_ok-text.ensures) (empty_spaced made c.none.ensures c.none-2.ensures c.none-3.ensures (flat_new c.in_ok-pages.pages c.obtain_all.new.self _ _ c.in_ok-pages.ensures c.obtain_all.ensures.bytes))

pub returns-clause-spare : goal.returns-clause-spare
unfolding spare_of
returns-clause-spare c =
    let none : c.in_ok-pages.pages.pool.spare ≡ 0 = ap (λ (p : Frames). p.spare) c.in_ok-pages.ensures.pool in
    let e : c.obtain_all.new.self.pool.spare ≡ 0 = omega (arith, none, c.in_ok-obtain_all.ensures.pages.spare) in
    e
