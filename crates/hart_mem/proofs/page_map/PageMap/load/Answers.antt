use Rattle.std.proofs.Common.{◌≡◌, ◌∙◌, sym, rules, ◌/◌, Some, None}
use Rattle.std.proofs.lemmas.List.{get_or_read}
use Rattle.hart_mem.specs.Paged.{frame_of}
use Rattle.hart_mem.specs.contracts.page_map.PageMap.{the_view}
use Rattle.hart_mem.proofs.PageLemmas.{loaded_held, loaded_not_held, small_held, small_not_held}
use Rattle.hart_mem.proofs.page_map.PageMap.load.Goals as goal

frame_is : (c : goal.After-number) → frame_of (the_view c.self.inside) (c.args.place / 4096) ≡ Some c.in-Some.frame
frame_is c = sym (get_or_read c.self.inside.table.items _ _ (rw (← c.self.view_is) at c.requires.inside) c.index.ensures None) ∙ c.in-Some.is

pub returns-in-Some-clause-value : goal.returns-in-Some-clause-value
returns-in-Some-clause-value c =
    let value = rw c.bytes.ensures.value at c.number.ensures.value in
    rw (← c.self.view_is) (value ∙ loaded_held (the_view c.self.inside) c.args.place c.args.size c.in-Some.frame c.requires.fits (frame_is c))

pub returns-in-None-clause-value : goal.returns-in-None-clause-value
returns-in-None-clause-value c = loaded_not_held c.args.self.now c.args.place c.args.size c.requires.fits (search rules)

pub returns-in-Some-clause-bytes : goal.returns-in-Some-clause-bytes
returns-in-Some-clause-bytes c =
    let bytes = rw c.bytes.ensures.value at c.number.ensures.bytes in
    rw (← c.self.view_is) (small_held (the_view c.self.inside) c.args.place c.args.size c.in-Some.frame c.requires.fits (frame_is c) bytes)

pub returns-in-None-clause-bytes : goal.returns-in-None-clause-bytes
returns-in-None-clause-bytes c = small_not_held c.args.self.now c.args.place c.args.size c.requires.fits (search rules)
