use Rattle.std.proofs.Common.{◌≡◌, ◌+◌, ◌-◌, ◌/◌, ◌<◌, ◌≤◌, ℕ, length, ap, subst, sym, arith}
use Rattle.spec_base.specs.declared.layout.Layout.{Layout}
use Rattle.rv_model.specs.Space.{Space}
use Rattle.code_model.specs.Regions.{entry_of}
use Rattle.hart_mem.specs.Held.{space_of}
use Rattle.hart_mem.proofs.Grains.{lawful_is}
use Rattle.code_model.specs.Tables.{AreConsistent, all_regions}
use Rattle.cow_regions.proofs.RangeBytes.{AreRegions, data-regions}
use Rattle.cow_regions.proofs.FilledViews.{view-filled}
use Rattle.cow_regions.proofs.filling.fill_copies.Goals as goal

pub overflow_cast-first : goal.overflow_cast-first
overflow_cast-first c =
    let are : AreRegions (space_of c.args.mem.now).layout c.args.address (length c.args.bytes.now) = data-regions (space_of c.args.mem.now).layout c.args.address (length c.args.bytes.now) c.requires.some c.requires.inside in
    omega (arith, are.below, are.most)

pub overflow_add-end : goal.overflow_add-end
overflow_add-end c =
    let are : AreRegions (space_of c.args.mem.now).layout c.args.address (length c.args.bytes.now) = data-regions (space_of c.args.mem.now).layout c.args.address (length c.args.bytes.now) c.requires.some c.requires.inside in
    omega (arith, are.below, are.most)

pub overflow_cast-end : goal.overflow_cast-end
overflow_cast-end c =
    let are : AreRegions (space_of c.args.mem.now).layout c.args.address (length c.args.bytes.now) = data-regions (space_of c.args.mem.now).layout c.args.address (length c.args.bytes.now) c.requires.some c.requires.inside in
    omega (arith, are.below, are.most)

pub count_new-requires-clause-inside : goal.count_new-requires-clause-inside
count_new-requires-clause-inside c = (data-regions (space_of c.args.mem.now).layout c.args.address (length c.args.bytes.now) c.requires.some c.requires.inside).below

pub make_copies-requires-clause-above : goal.make_copies-requires-clause-above
make_copies-requires-clause-above c = (data-regions (space_of c.args.mem.now).layout c.args.address (length c.args.bytes.now) c.requires.some c.requires.inside).above

pub make_copies-requires-clause-inside : goal.make_copies-requires-clause-inside
make_copies-requires-clause-inside c = (data-regions (space_of c.args.mem.now).layout c.args.address (length c.args.bytes.now) c.requires.some c.requires.inside).below

pub set_bytes-requires-clause-inside : goal.set_bytes-requires-clause-inside
set_bytes-requires-clause-inside c =
    let are : AreRegions (space_of c.args.mem.now).layout c.args.address (length c.args.bytes.now) = data-regions (space_of c.args.mem.now).layout c.args.address (length c.args.bytes.now) c.requires.some c.requires.inside in
    rw (ap (λ (s : Space). s.layout) c.make_copies.ensures.space) (omega (arith, are.below, c.requires.some))

pub returns-clause-shadowed : goal.returns-clause-shadowed
returns-clause-shadowed c is_done ok =
    let s : Space = space_of c.args.mem.now in
    let t : Space = space_of c.make_copies.new.mem in
    let a : ℕ = c.args.address in
    let count : ℕ = length c.args.bytes.now in
    let are : AreRegions s.layout a count = data-regions s.layout a count c.requires.some c.requires.inside in
    let first : ℕ = a / 256 in
    let end : ℕ = (a + (count - 1)) / 256 + 1 in
    let few : s.layout.regions ≤ 65536 = (lawful_is s.layout c.layout.ensures.lawful).few in
    let layout : t.layout ≡ s.layout = ap (λ (w : Space). w.layout) c.make_copies.ensures.space in
    let ok_made : AreConsistent s.layout t.shared = c.make_copies.ensures.consistent ok in
    let each : (y : ℕ) → a ≤ y → y < a + count → (y / 256 < all_regions s.layout) × (0 < entry_of t.shared (y / 256)) =
    λ y low high. (omega (arith, are.below), c.make_copies.ensures.copied (y / 256) (omega arith) (omega arith)) in
    let set = c.set_bytes.ensures.set (subst (λ (l : Layout). AreConsistent l t.shared) (sym layout) ok_made) (λ y low high. (each y low high).1) in
    view-filled s t (space_of c.set_bytes.new.mem) a c.args.bytes.now first (end - first) few ok (omega (arith, are.below)) (omega (arith, few, c.count_new.ensures.value, ap (λ (l : Layout). l.regions) c.layout.ensures.value)) c.make_copies.ensures.space ok_made each set.space
