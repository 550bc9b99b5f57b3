use Rattle.std.proofs.Common.{◌≡◌, ◌<◌, ◌∙◌, length, false, sym, ap, None, is_some}
use Rattle.std.proofs.lemmas.List.{get_or_read}
use Rattle.page_pool.specs.Frames.{IsTaken}
use Rattle.hart_mem.specs.Paged.{is_held}
use Rattle.hart_mem.specs.contracts.page_map.PageMap.{the_view}
use Rattle.hart_mem.proofs.PageLemmas.{flat-held, IsSound-held, TakesPages-held}
use Rattle.hart_mem.proofs.page_map.PageMap.hold.Goals as goal

inside : (c : goal.After-self-1) → c.args.page < length c.self.inside.table.items
inside c = rw (← c.self.view_is) at c.requires

free : (c : goal.After-self-1) → is_held (the_view c.self.inside) c.args.page ≡ false
free c = ap is_some (sym (get_or_read c.self.inside.table.items _ _ (inside c) c.index.ensures None)) ∙ sym c.if-is_some.ensures

taken : (c : goal.After-self-1) → IsTaken c.self.inside.pool c.take.new.self c.in-Some.frame
taken c = c.in-Some.ensures.taken

pub invariant_of-self-2 : goal.invariant_of-self-2
invariant_of-self-2 c = IsSound-held (the_view c.self.inside) c.self.invariant c.take.new.self c.args.page c.in-Some.frame (inside c) (free c) (taken c)

pub returns-clause-pages : goal.returns-clause-pages
returns-clause-pages c = λ _. rw (← c.self.view_is) (TakesPages-held (the_view c.self.inside) c.self.invariant c.take.new.self c.args.page c.in-Some.frame (inside c) (free c) (taken c))

pub returns-clause-bytes : goal.returns-clause-bytes
returns-clause-bytes c = rw (← c.self.view_is) (flat-held (the_view c.self.inside) c.self.invariant c.take.new.self c.args.page c.in-Some.frame (inside c) (free c) (taken c))
