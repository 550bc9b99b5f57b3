use Rattle.std.proofs.Common.{◌/◌, length}
use Rattle.hart_mem.specs.Paged.{end_page}
use Rattle.hart_mem.proofs.PageLemmas.{TakesPages-holds, TakesPages-same}
use Rattle.hart_mem.proofs.page_map.PageMap.fill.Goals as goal

pub write_all-requires-clause-held : goal.write_all-requires-clause-held
write_all-requires-clause-held c = TakesPages-holds c.args.self.now c.obtain_all.new.self (c.args.place / 4096) (end_page c.args.place (length c.args.bytes.now)) c.in_ok-obtain_all.ensures.pages

pub returns-clause-pages : goal.returns-clause-pages
returns-clause-pages c = TakesPages-same c.args.self.now c.obtain_all.new.self c.write_all.new.self (c.args.place / 4096) (end_page c.args.place (length c.args.bytes.now)) c.write_all.ensures.table c.write_all.ensures.spare c.in_ok-obtain_all.ensures.pages
