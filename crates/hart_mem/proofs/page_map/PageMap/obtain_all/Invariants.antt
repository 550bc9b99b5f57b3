use Rattle.hart_mem.proofs.PageLemmas.{TakesUpTo}
use Rattle.hart_mem.proofs.page_map.PageMap.obtain_all.Given as goal

-- the pages before this one have taken their frames
abbrev pub invariant-loop-page : goal.invariant-loop-page
invariant-loop-page l = TakesUpTo l.fn.self l.self l.first l.page l.end
