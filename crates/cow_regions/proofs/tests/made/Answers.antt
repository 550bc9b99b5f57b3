use Rattle.std.proofs.Common.{◌≡◌, ℕ, ◌≤◌, IsTrue, ap, sym, ◌∙◌, subst, arith}
use Rattle.std.proofs.lemmas.Bool.Decides.{nat_tests}
use Rattle.spec_base.specs.Layout.{is_lawful}
use Rattle.spec_base.specs.declared.layout.Layout.{Layout}
use Rattle.spec_base.specs.declared.layout.Version.TheVariants.{Two}
use Rattle.rv_model.specs.Memory.{all_from}
use Rattle.rv_model.specs.Rights.{is_data}
use Rattle.rv_model.specs.Space.{Space}
use Rattle.hart_mem.specs.Held.{space_of}
use Rattle.cow_regions.proofs.RangeBytes.{data-past}
use Rattle.cow_regions.proofs.tests.made.Goals as goal

lawful : (regions : ℕ) → 1 ≤ regions → regions ≤ 2 → IsTrue (is_lawful (record { text_start = 0x1_0000; text_end = 0x1_0010; regions = regions; version = Two }))
lawful regions some few = grind (arith, nat_tests)

pub new-requires-clause-lawful : goal.new-requires-clause-lawful
new-requires-clause-lawful c = subst (λ (l : Layout). IsTrue (is_lawful l)) (sym c.small.ensures) (lawful c.args.regions c.requires.0 c.requires.1)

pub fill-requires : goal.fill-requires
fill-requires c =
    let layout : (space_of c.in_ok-mem.mem).layout ≡ c.small.result = ap (λ (s : Space). s.layout) c.in_ok-mem.ensures.space in
    let is_lawful : IsTrue (is_lawful c.small.result) = subst (λ (l : Layout). IsTrue (is_lawful l)) (sym c.small.ensures) (lawful c.args.regions c.requires.0 c.requires.1) in
    subst (λ (l : Layout). IsTrue (all_from (is_data l) 0x20_0FFF 260)) (sym layout)
    (data-past c.small.result 0x20_0FFF 260 is_lawful (ap (λ (l : Layout). l.version) c.small.ensures) (omega (arith, ap (λ (l : Layout). l.text_end) c.small.ensures)) (omega arith))

pub returns : goal.returns
returns c = ap (λ (s : Space). s.layout) c.in_ok-fill.ensures.ok ∙ ap (λ (s : Space). s.layout) c.in_ok-mem.ensures.space ∙ c.small.ensures
