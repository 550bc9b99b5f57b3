use Rattle.std.proofs.Common.{◌≡◌, ◌<◌, ◌+◌, length, arith, ap}
use Rattle.std.proofs.lemmas.Bool.Decides.{nat_tests}
use Rattle.hart_mem.specs.Paged.{Paged}
use Rattle.hart_mem.specs.Held.{Held, space_of, spare_of}
use Rattle.hart_mem.specs.contracts.mem.Mem.{the_view}
use Rattle.hart_mem.proofs.MemLemmas.{loaded_space, nothing_loaded, on_err, on_ok, range_pages}
use Rattle.hart_mem.proofs.mem.Mem.load_part.Goals as goal

pub fill-requires-clause-inside : goal.fill-requires-clause-inside
unfolding space_of
fill-requires-clause-inside c =
    let below = rw (← c.self.view_is) at c.requires.below in
    range_pages (the_view c.self.inside) c.self.invariant.0 (c.args.address + length c.args.bytes.now) below

pub returns-clause-ok : goal.returns-clause-ok
unfolding space_of
returns-clause-ok c =
    let below = rw (← c.self.view_is) at c.requires.below in
    on_ok c.fill.result (λ e. rw (← c.self.view_is) (loaded_space (the_view c.self.inside) c.self.invariant.0 c.fill.new.self c.args.address c.args.bytes.now c.requires.above below e)) c.fill.ensures.ok

pub fill-requires-clause-some : goal.fill-requires-clause-some
fill-requires-clause-some c = grind (arith, nat_tests)

pub returns-then-is_empty-clause-ok : goal.returns-then-is_empty-clause-ok
returns-then-is_empty-clause-ok c =
    let none : length c.args.bytes.now ≡ 0 = grind (arith, nat_tests) in
    nothing_loaded c.args.self.now c.args.address c.args.bytes.now none

pub returns-then-is_empty-clause-pages : goal.returns-then-is_empty-clause-pages
returns-then-is_empty-clause-pages c = λ some. absurd (let none : length c.args.bytes.now ≡ 0 = grind (arith, nat_tests) in omega arith)

pub returns-clause-none : goal.returns-clause-none
returns-clause-none c = λ none. absurd (let some : 0 < length c.args.bytes.now = grind (arith, nat_tests) in omega arith)

pub returns-clause-err : goal.returns-clause-err
returns-clause-err c = on_err c.fill.result (λ e. rw (← c.self.view_is) (ap (λ (pages : Paged). let h : Held = record (the_view c.self.inside) { pages = pages } in h) e)) c.fill.ensures.refused

pub returns-clause-pages : goal.returns-clause-pages
returns-clause-pages c = λ some. rw (← c.self.view_is) c.fill.ensures.pages

pub returns-clause-short : goal.returns-clause-short
unfolding spare_of
returns-clause-short c = rw (← c.self.view_is) c.fill.ensures.short
