use Rattle.std.proofs.Common.{◌∙◌, ap, arith}
use Rattle.hart_mem.specs.Paged.{Paged}
use Rattle.page_pool.specs.Frames.{reserved}
use Rattle.hart_mem.proofs.PageLemmas.{TakesUpTo-all, TakesUpTo-can, TakesUpTo-enough, TakesUpTo-next, TakesUpTo-reserved, lacking-room}
use Rattle.hart_mem.proofs.page_map.PageMap.obtain_all.Goals as goal
use Rattle.hart_mem.proofs.page_map.PageMap.obtain_all.Goals.{then-spare-lacking+in_ok-reserve, else-spare-lacking}

pub loop-page-init : goal.loop-page-init
loop-page-init c =
    elim c.if-spare-lacking.branch [
      | then-spare-lacking+in_ok-reserve w ↦
          TakesUpTo-reserved c.args.self.now c.if-spare-lacking.self c.args.first c.args.end
          (w.self-is ∙ w.in_ok-reserve.ensures.ok ∙ ap (λ n. let q : Paged = record c.args.self.now { pool = reserved c.args.self.now.pool n } in q) c.lacking-lacking.ensures)
      | else-spare-lacking w ↦
          TakesUpTo-enough c.args.self.now c.if-spare-lacking.self c.args.first c.args.end w.self-is (omega (arith, c.lacking-lacking.ensures, c.spare.ensures))
    ]

pub reserve-requires : goal.reserve-requires
reserve-requires c = omega (arith, c.lacking-lacking.ensures, lacking-room c.args.self.now c.args.first c.args.end)

pub loop-page-preserved : goal.loop-page-preserved
loop-page-preserved c =
    let can = TakesUpTo-can c.args.self.now c.loop-page.self c.args.first c.loop-page.page c.args.end (omega arith) c.loop-page-test.true c.requires.inside c.loop-page.invariant in
    TakesUpTo-next c.args.self.now c.loop-page.self c.args.first c.loop-page.page c.args.end (omega arith) c.loop-page-test.true c.requires.inside c.loop-page.invariant c.hold.new.self c.hold.ensures.bytes (c.hold.ensures.pages (c.hold.ensures.answer ∙ can))

pub returns-clause-pages : goal.returns-clause-pages
returns-clause-pages c = TakesUpTo-all c.args.self.now c.loop-page.self c.args.first c.loop-page.page c.args.end (omega arith) c.loop-page.invariant
