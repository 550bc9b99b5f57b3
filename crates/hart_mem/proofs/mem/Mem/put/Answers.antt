use Rattle.std.proofs.Common.{◌/◌, ◌∙◌, ℕ, List, take, ap, sym}
use Rattle.rv_model.specs.Memory.{Memory, stored, written}
use Rattle.hart_mem.specs.Held.{spare_of}
use Rattle.hart_mem.specs.Paged.{flat, is_held}
use Rattle.hart_mem.specs.contracts.mem.Mem.{the_view}
use Rattle.hart_mem.proofs.PlaceLemmas.{width_few}
use Rattle.hart_mem.proofs.MemLemmas.{no_spare, piece_stored, put_fits, put_found, put_inside, put_kept, put_takes, put_uses, stored_space}
use Rattle.hart_mem.proofs.mem.Mem.put.Goals as goal

pub hold-requires : goal.hold-requires
hold-requires c =
    let all = rw (← c.self.view_is) at c.requires.allowed in
    let place = rw (← c.self.view_is) at c.requires.place in
    rw place (put_inside (the_view c.self.inside) c.self.invariant.0 c.args.view c.args.address c.args.size c.requires.size all)

pub returns-then-not-hold-clause-answer : goal.returns-then-not-hold-clause-answer
returns-then-not-hold-clause-answer c =
    let all = rw (← c.self.view_is) at c.requires.allowed in
    let place = rw (← c.self.view_is) at c.requires.place in
    let asked = rw place at c.hold.ensures.answer in
    rw (← c.self.view_is) (sym c.if-not-hold.true ∙ asked ∙ put_found (the_view c.self.inside) c.self.invariant.0 c.args.view c.args.address c.args.size c.requires.size all)

pub returns-then-not-hold-clause-short : goal.returns-then-not-hold-clause-short
unfolding spare_of
returns-then-not-hold-clause-short c = λ _. rw (← c.self.view_is) (no_spare (is_held c.self.inside.pages (c.args.place / 4096)) c.self.inside.pages.pool.spare (sym c.hold.ensures.answer ∙ c.if-not-hold.true))

pub write_first-requires-clause-fits : goal.write_first-requires-clause-fits
write_first-requires-clause-fits c =
    let all = rw (← c.self.view_is) at c.requires.allowed in
    let place = rw (← c.self.view_is) at c.requires.place in
    rw place (put_fits (the_view c.self.inside) c.self.invariant.0 c.args.view c.args.address c.args.size c.requires.size all c.requires.aligned)

pub returns-clause-answer : goal.returns-clause-answer
returns-clause-answer c =
    let all = rw (← c.self.view_is) at c.requires.allowed in
    let place = rw (← c.self.view_is) at c.requires.place in
    let asked = rw place at c.hold.ensures.answer in
    rw (← c.self.view_is) (sym c.if-not-hold.false ∙ asked ∙ put_found (the_view c.self.inside) c.self.invariant.0 c.args.view c.args.address c.args.size c.requires.size all)

pub returns-clause-ok : goal.returns-clause-ok
returns-clause-ok c = λ _.
    let all = rw (← c.self.view_is) at c.requires.allowed in
    let place = rw (← c.self.view_is) at c.requires.place in
    let piece : List ℕ = take c.args.size c.to_le_bytes-bytes.result in
    let bytes = c.write_first.ensures.bytes ∙ ap (λ (m : Memory). written m c.args.place piece) c.hold.ensures.bytes ∙ piece_stored (flat c.self.inside.pages) c.args.place c.args.size c.args.value c.to_le_bytes-bytes.result (width_few c.args.size c.requires.size) c.to_le_bytes-bytes.ensures ∙ ap (λ (p : ℕ). stored (flat c.self.inside.pages) p c.args.size c.args.value) place in
    rw (← c.self.view_is) (stored_space (the_view c.self.inside) c.write_first.new.self c.self.invariant.0 c.args.view c.args.address c.args.size c.args.value c.requires.size c.requires.aligned all bytes)

pub returns-clause-pages : goal.returns-clause-pages
returns-clause-pages c = λ _.
    let all = rw (← c.self.view_is) at c.requires.allowed in
    let place = rw (← c.self.view_is) at c.requires.place in
    let had = rw place at c.hold.ensures.had in
    let takes = rw place at c.hold.ensures.pages c.if-not-hold.false in
    let enough = rw place at c.hold.ensures.enough c.if-not-hold.false in
    rw (← c.self.view_is) (put_takes (the_view c.self.inside) c.self.invariant.0 c.args.view c.args.address c.args.size c.requires.size all c.hold.new.self c.write_first.new.self had takes enough c.write_first.ensures.table c.write_first.ensures.spare)

pub returns-clause-uses : goal.returns-clause-uses
returns-clause-uses c = λ _.
    let all = rw (← c.self.view_is) at c.requires.allowed in
    let place = rw (← c.self.view_is) at c.requires.place in
    let had = rw place at c.hold.ensures.had in
    let takes = rw place at c.hold.ensures.pages c.if-not-hold.false in
    let enough = rw place at c.hold.ensures.enough c.if-not-hold.false in
    rw (← c.self.view_is) (put_uses (the_view c.self.inside) c.self.invariant.0 c.args.view c.args.address c.args.size c.requires.size all c.hold.new.self c.write_first.new.self had takes enough c.write_first.ensures.table c.write_first.ensures.spare)

pub returns-clause-kept : goal.returns-clause-kept
unfolding spare_of
returns-clause-kept c = λ none.
    let all = rw (← c.self.view_is) at c.requires.allowed in
    let place = rw (← c.self.view_is) at c.requires.place in
    let had = rw place at c.hold.ensures.had in
    let takes = rw place at c.hold.ensures.pages c.if-not-hold.false in
    let enough = rw place at c.hold.ensures.enough c.if-not-hold.false in
    rw (← c.self.view_is) (put_kept (the_view c.self.inside) c.self.invariant.0 c.args.view c.args.address c.args.size c.requires.size all c.hold.new.self c.write_first.new.self had takes enough c.write_first.ensures.table c.write_first.ensures.spare none)
