use Rattle.std.proofs.Common.{◌≡◌, ◌≤◌, ◌<◌, ◌+◌, length, arith, ap, refl}
use Rattle.std.proofs.lemmas.Bool.Decides.{nat_tests}
use Rattle.spec_base.specs.Layout.{range_end}
use Rattle.hart_mem.specs.Paged.{Paged}
use Rattle.hart_mem.specs.Held.{Held, space_of, spare_of}
use Rattle.hart_mem.specs.contracts.mem.Mem.{the_view}
use Rattle.hart_mem.proofs.Grains.{range_end-below}
use Rattle.hart_mem.proofs.MemLemmas.{data_ends, filled_space, UsesSpare-same, fill_uses, nothing_written, ok_unless, on_err, on_ok, range_pages, spare_enough}
use Rattle.hart_mem.proofs.mem.Mem.fill.Goals as goal

pub returns-then-is_empty-clause-ok : goal.returns-then-is_empty-clause-ok
returns-then-is_empty-clause-ok c =
    let none : length c.args.bytes.now ≡ 0 = grind (arith, nat_tests) in
    nothing_written (space_of c.args.self.now) c.args.address c.args.bytes.now none

pub fill-requires-clause-inside : goal.fill-requires-clause-inside
unfolding space_of
fill-requires-clause-inside c =
    let some : 1 ≤ length c.args.bytes.now = grind (arith, nat_tests) in
    let all = rw (← c.self.view_is) at c.requires in
    range_pages (the_view c.self.inside) c.self.invariant.0 (c.args.address + length c.args.bytes.now) (data_ends (the_view c.self.inside) c.self.invariant.0 c.args.address (length c.args.bytes.now) some all)

pub fill-requires-clause-fits : goal.fill-requires-clause-fits
unfolding space_of
fill-requires-clause-fits c =
    let some : 1 ≤ length c.args.bytes.now = grind (arith, nat_tests) in
    let all = rw (← c.self.view_is) at c.requires in
    let ends : c.args.address + length c.args.bytes.now ≤ range_end c.self.inside.layout.version = data_ends (the_view c.self.inside) c.self.invariant.0 c.args.address (length c.args.bytes.now) some all in
    omega (arith, range_end-below c.self.inside.layout.version)

pub returns-clause-ok : goal.returns-clause-ok
unfolding space_of
returns-clause-ok c =
    let all = rw (← c.self.view_is) at c.requires in
    on_ok c.fill.result (λ e. rw (← c.self.view_is) (filled_space (the_view c.self.inside) c.fill.new.self c.self.invariant.0 c.args.address c.args.bytes.now all e)) c.fill.ensures.ok

pub fill-requires-clause-some : goal.fill-requires-clause-some
fill-requires-clause-some c = grind (arith, nat_tests)

pub returns-clause-none : goal.returns-clause-none
returns-clause-none c = λ none. absurd (let some : 0 < length c.args.bytes.now = grind (arith, nat_tests) in omega arith)

pub returns-clause-err : goal.returns-clause-err
returns-clause-err c = on_err c.fill.result (λ e. rw (← c.self.view_is) (ap (λ (pages : Paged). let h : Held = record (the_view c.self.inside) { pages = pages } in h) e)) c.fill.ensures.refused

pub returns-clause-pages : goal.returns-clause-pages
returns-clause-pages c = λ some. rw (← c.self.view_is) c.fill.ensures.pages

pub returns-clause-uses : goal.returns-clause-uses
unfolding spare_of
returns-clause-uses c = rw (← c.self.view_is) (λ enough. fill_uses (the_view c.self.inside) c.fill.new.self c.args.address (length c.args.bytes.now) c.fill.result c.fill.ensures.pages c.fill.ensures.refused enough)

pub returns-then-is_empty-clause-uses : goal.returns-then-is_empty-clause-uses
returns-then-is_empty-clause-uses c = λ enough. UsesSpare-same c.args.self.now c.args.self.now refl

pub returns-then-is_empty-clause-pages : goal.returns-then-is_empty-clause-pages
returns-then-is_empty-clause-pages c = λ some. absurd (let none : length c.args.bytes.now ≡ 0 = grind (arith, nat_tests) in omega arith)

pub returns-clause-short : goal.returns-clause-short
unfolding spare_of
returns-clause-short c = rw (← c.self.view_is) c.fill.ensures.short

pub returns-clause-enough : goal.returns-clause-enough
unfolding spare_of
returns-clause-enough c = rw (← c.self.view_is) (λ enough few. ok_unless c.fill.result c.fill.ensures.short (spare_enough c.self.inside.pages c.args.address (length c.args.bytes.now) c.self.inside.pages.pool.spare few enough))
