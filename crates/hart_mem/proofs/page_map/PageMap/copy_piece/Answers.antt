use Rattle.std.proofs.Common.{◌≡◌, ◌∙◌, sym, rules, arith, ◌/◌, length, Some, None}
use Rattle.std.proofs.lemmas.Grind.{common_steps}
use Rattle.std.proofs.lemmas.List.{get_or_read}
use Rattle.hart_mem.specs.Paged.{frame_of}
use Rattle.hart_mem.specs.contracts.page_map.PageMap.{the_view}
use Rattle.hart_mem.proofs.PageLemmas.{bytes_held, bytes_not_held}
use Rattle.hart_mem.proofs.page_map.PageMap.copy_piece.Goals as goal

pub returns-in-Some : goal.returns-in-Some
returns-in-Some c =
    let frame_is : frame_of (the_view c.self.inside) (c.args.place / 4096) ≡ Some c.in-Some.frame =
    sym (get_or_read c.self.inside.table.items _ _ (rw (← c.self.view_is) at c.requires.inside) c.index.ensures None) ∙ c.in-Some.is in
    rw (← c.self.view_is) (grind (arith, common_steps, bytes_held (the_view c.self.inside) c.self.invariant c.args.place (length c.args.into.now) c.in-Some.frame c.requires.fits frame_is))

pub returns-in-None : goal.returns-in-None
returns-in-None c = grind (arith, common_steps, bytes_not_held c.args.self.now c.args.place (length c.args.into.now) c.requires.fits (search rules))
