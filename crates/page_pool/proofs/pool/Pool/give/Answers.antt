use Rattle.std.proofs.Common.{refl, arith}
use Rattle.page_pool.specs.Pages.{blank_page}
use Rattle.page_pool.specs.contracts.pool.Pool.{the_view}
use Rattle.page_pool.proofs.PoolLemmas.{is_used_by, is_numbered, is_placed, some_in_use, without, without-sound, without-given, given_by}
use Rattle.page_pool.proofs.pool.Pool.give.Goals as goal

pub clear-requires : goal.clear-requires
clear-requires c = is_placed c.self.inside c.self.invariant c.frame.inside.number (is_used_by c.self.inside c.frame.inside.number c.args.self.now c.args.frame c.self.view_is c.frame.view_is c.requires)

pub index_mut-requires : goal.index_mut-requires
index_mut-requires c =
    let numbered = is_numbered c.self.inside c.frame.inside.number (is_used_by c.self.inside c.frame.inside.number c.args.self.now c.args.frame c.self.view_is c.frame.view_is c.requires) in
    omega (arith, numbered, c.self.inside.used.ok.0)

pub overflow_sub-self : goal.overflow_sub-self
overflow_sub-self c =
    let k = c.frame.inside.number in
    some_in_use c.self.inside c.self.invariant k (is_used_by c.self.inside k c.args.self.now c.args.frame c.self.view_is c.frame.view_is c.requires) blank_page c.clear.new.self c.clear.ensures

pub invariant_of-self : goal.invariant_of-self
invariant_of-self c =
    let k = c.frame.inside.number in
    without-sound c.self.inside c.self.invariant k (is_used_by c.self.inside k c.args.self.now c.args.frame c.self.view_is c.frame.view_is c.requires) blank_page c.clear.new.self c.clear.ensures refl

pub returns : goal.returns
returns c =
    let k = c.frame.inside.number in
    let used = is_used_by c.self.inside k c.args.self.now c.args.frame c.self.view_is c.frame.view_is c.requires in
    given_by (the_view c.self.inside) (the_view (without c.self.inside c.self.invariant k used blank_page c.clear.new.self c.clear.ensures)) k c.args.self.now c.args.frame c.self.view_is c.frame.view_is
    (without-given c.self.inside c.self.invariant k used blank_page c.clear.new.self c.clear.ensures)
