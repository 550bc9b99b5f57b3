use Rattle.std.proofs.Common.{◌∙◌, ℕ, IsTrue, ap}
use Rattle.rv_model.specs.Memory.{loaded}
use Rattle.rv_model.specs.Rights.{rights_of}
use Rattle.hart_mem.specs.Paged.{flat}
use Rattle.hart_mem.specs.contracts.mem.Mem.{the_view}
use Rattle.hart_mem.proofs.MemLemmas.{byte_seen, first_right, in_page, inside_pages, number_seen}
use Rattle.hart_mem.proofs.mem.Mem.page_number.Goals as goal

pub load-requires-clause-size : goal.load-requires-clause-size
load-requires-clause-size c = c.requires.size

pub load-requires-clause-inside : goal.load-requires-clause-inside
load-requires-clause-inside c =
    let all = rw (← c.self.view_is) at c.requires.allowed in
    let first : IsTrue ((rights_of c.args.view c.self.inside.layout).load c.args.address) = first_right (the_view c.self.inside) c.self.invariant.0 (rights_of c.args.view c.self.inside.layout).load c.args.address c.args.size c.requires.size all in
    let place = rw (← c.self.view_is) at c.requires.place in
    rw place (inside_pages (the_view c.self.inside) c.self.invariant.0 c.args.view c.args.address first)

pub load-requires-clause-fits : goal.load-requires-clause-fits
load-requires-clause-fits c =
    let all = rw (← c.self.view_is) at c.requires.allowed in
    let first : IsTrue ((rights_of c.args.view c.self.inside.layout).load c.args.address) = first_right (the_view c.self.inside) c.self.invariant.0 (rights_of c.args.view c.self.inside.layout).load c.args.address c.args.size c.requires.size all in
    let place = rw (← c.self.view_is) at c.requires.place in
    rw place (in_page (the_view c.self.inside) c.self.invariant.0 c.args.view c.args.address first c.args.size c.requires.size c.requires.aligned)

pub returns-clause-value : goal.returns-clause-value
returns-clause-value c =
    let all = rw (← c.self.view_is) at c.requires.allowed in
    let off = rw (← c.self.view_is) at c.requires.off in
    let place = rw (← c.self.view_is) at c.requires.place in
    rw (← c.self.view_is) (c.load.ensures.value ∙ ap (λ (p : ℕ). loaded (flat c.self.inside.pages) p c.args.size) place ∙ number_seen (the_view c.self.inside) c.self.invariant.0 c.args.view c.args.address c.args.size c.requires.size c.requires.aligned all off)

pub returns-clause-bytes : goal.returns-clause-bytes
returns-clause-bytes c = λ i h.
    let all = rw (← c.self.view_is) at c.requires.allowed in
    let off = rw (← c.self.view_is) at c.requires.off in
    let place = rw (← c.self.view_is) at c.requires.place in
    let small = rw place at c.load.ensures.bytes in
    rw (← c.self.view_is, byte_seen (the_view c.self.inside) c.self.invariant.0 c.args.view c.args.address c.args.size c.requires.size c.requires.aligned all off i h) (small i h)
