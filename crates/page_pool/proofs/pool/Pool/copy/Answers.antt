use Rattle.std.proofs.Common.{◌∙◌, sym}
use Rattle.page_pool.specs.Pages.{page_in}
use Rattle.page_pool.specs.Frames.{bytes_at}
use Rattle.page_pool.specs.contracts.pool.Pool.{the_view}
use Rattle.page_pool.proofs.PoolLemmas.{is_used_by, is_placed, looked_up, bytes_looked_up, with_pages, with_pages-sound, with_pages-written, moved}
use Rattle.page_pool.proofs.pool.Pool.copy.Goals as goal

pub set-requires : goal.set-requires
set-requires c = is_placed c.self.inside c.self.invariant c.to.inside.number (is_used_by c.self.inside c.to.inside.number c.args.self.now c.args.to.now c.self.view_is c.to.view_is c.requires.to)

pub invariant_of-self : goal.invariant_of-self
invariant_of-self c =
    let k = c.to.inside.number in
    with_pages-sound c.self.inside c.self.invariant k (is_used_by c.self.inside k c.args.self.now c.args.to.now c.self.view_is c.to.view_is c.requires.to)
    c.copied-page.result c.set.new.self c.set.ensures

pub returns : goal.returns
returns c =
    let k = c.to.inside.number in
    let used = is_used_by c.self.inside k c.args.self.now c.args.to.now c.self.view_is c.to.view_is c.requires.to in
    let source = page_in c.self.inside.pages.pages c.from.inside.number in
    let was = bytes_looked_up c.args.self.now c.args.from.now source (looked_up c.self.inside c.from.inside.number c.args.self.now c.args.from.now c.self.view_is c.from.view_is c.requires.from) in
    moved (the_view c.self.inside) (the_view (with_pages c.self.inside c.set.new.self)) k c.copied-page.result c.args.self.now c.args.to.now (bytes_at c.args.self.now c.args.from.now)
    c.self.view_is c.to.view_is (c.copied-page.ensures ∙ sym was)
    (with_pages-written c.self.inside c.self.invariant k used c.copied-page.result c.set.new.self c.set.ensures)
