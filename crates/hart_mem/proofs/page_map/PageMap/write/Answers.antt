use Rattle.std.proofs.Common.{◌≡◌, ◌∙◌, ◌/◌, sym, Some, None}
use Rattle.std.proofs.lemmas.List.{get_or_read}
use Rattle.hart_mem.specs.Paged.{frame_of}
use Rattle.hart_mem.specs.contracts.page_map.PageMap.{the_view}
use Rattle.hart_mem.proofs.PageLemmas.{flat-written, is_held-inside}
use Rattle.hart_mem.proofs.page_map.PageMap.write.Goals as goal

frame_is : (c : goal.After-write) → frame_of (the_view c.self.inside) (c.args.place / 4096) ≡ Some c.in-Some.frame
frame_is c =
    let held = rw (← c.self.view_is) at c.requires.held in
    sym (get_or_read c.self.inside.table.items _ _ (is_held-inside (the_view c.self.inside) _ held) c.index.ensures None) ∙ c.in-Some.is

pub returns-in-Some-clause-bytes : goal.returns-in-Some-clause-bytes
returns-in-Some-clause-bytes c =
    rw (← c.self.view_is) (flat-written (the_view c.self.inside) c.self.invariant c.write.new.self c.args.place c.in-Some.frame c.args.bytes.now c.requires.fits (frame_is c) c.write.ensures)
