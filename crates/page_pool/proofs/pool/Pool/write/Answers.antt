use Rattle.std.proofs.Common.{ap, sym}
use Rattle.page_pool.specs.Pages.{page_in, overwritten}
use Rattle.page_pool.specs.Frames.{bytes_at}
use Rattle.page_pool.specs.contracts.pool.Pool.{the_view}
use Rattle.page_pool.proofs.PoolLemmas.{is_used_by, is_placed, looked_up, bytes_looked_up, with_pages, with_pages-sound, with_pages-written, moved}
use Rattle.page_pool.proofs.pool.Pool.write.Goals as goal

pub write-requires-clause-place : goal.write-requires-clause-place
write-requires-clause-place c = is_placed c.self.inside c.self.invariant c.frame.inside.number (is_used_by c.self.inside c.frame.inside.number c.args.self.now c.args.frame.now c.self.view_is c.frame.view_is c.requires.in_use)

pub invariant_of-self : goal.invariant_of-self
invariant_of-self c =
    let k = c.frame.inside.number in
    with_pages-sound c.self.inside c.self.invariant k (is_used_by c.self.inside k c.args.self.now c.args.frame.now c.self.view_is c.frame.view_is c.requires.in_use)
    (overwritten (page_in c.self.inside.pages.pages k) c.args.at c.args.bytes.now) c.write.new.self c.write.ensures

pub returns : goal.returns
returns c =
    let k = c.frame.inside.number in
    let old = page_in c.self.inside.pages.pages k in
    let page = overwritten old c.args.at c.args.bytes.now in
    let used = is_used_by c.self.inside k c.args.self.now c.args.frame.now c.self.view_is c.frame.view_is c.requires.in_use in
    let was = bytes_looked_up c.args.self.now c.args.frame.now old (looked_up c.self.inside k c.args.self.now c.args.frame.now c.self.view_is c.frame.view_is c.requires.in_use) in
    moved (the_view c.self.inside) (the_view (with_pages c.self.inside c.write.new.self)) k page c.args.self.now c.args.frame.now (overwritten (bytes_at c.args.self.now c.args.frame.now) c.args.at c.args.bytes.now)
    c.self.view_is c.frame.view_is (ap (λ b. overwritten b c.args.at c.args.bytes.now) (sym was))
    (with_pages-written c.self.inside c.self.invariant k used page c.write.new.self c.write.ensures)
