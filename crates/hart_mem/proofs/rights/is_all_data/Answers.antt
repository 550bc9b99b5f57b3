use Rattle.std.proofs.Common.{◌≡◌, ◌∙◌, ◌+◌, ◌≤◌, ◌||◌, nat_le, sym, arith}
use Rattle.std.proofs.lemmas.Bool.Decides.{nat_tests}
use Rattle.rv_model.specs.Rights.{is_data}
use Rattle.rv_model.proofs.DataLemmas.{all_from-zero}
use Rattle.hart_mem.proofs.DataBytes.{all_data-inside, all_data-outside, all_data-past}
use Rattle.hart_mem.proofs.rights.is_all_data.Goals as goal
use Rattle.hart_mem.proofs.rights.is_all_data.Goals.{then-not-is_in_range-via-then-not-is_in_range, then-not-is_in_range-via-else-not-is_in_range+then-range_end-address}

pub returns-then-count-eq0 : goal.returns-then-count-eq0
returns-then-count-eq0 c = sym (all_from-zero (is_data c.args.layout.now) c.args.address c.args.count c.if-count-eq0.true)

pub returns-then-not-is_in_range : goal.returns-then-not-is_in_range
returns-then-not-is_in_range c =
    let some : 1 ≤ c.args.count = omega arith in
    elim c.then-not-is_in_range.branch [
      | then-not-is_in_range-via-then-not-is_in_range w ↦
          all_data-outside c.args.layout.now c.requires.lawful c.args.address c.args.count some (sym w.if-not-is_in_range.ensures)
      | then-not-is_in_range-via-else-not-is_in_range+then-range_end-address w ↦
          all_data-past c.args.layout.now c.requires.lawful c.args.address c.args.count some (omega arith) (grind (arith, nat_tests))
    ]

pub returns-then-address-count : goal.returns-then-address-count
returns-then-address-count c =
    let some : 1 ≤ c.args.count = omega arith in
    let apart : nat_le (c.args.address + c.args.count) c.args.layout.now.text_start ≡ (nat_le (c.args.address + c.args.count) c.args.layout.now.text_start || nat_le c.args.layout.now.text_end c.args.address) = grind (arith, nat_tests) in
    apart ∙ all_data-inside c.args.layout.now c.requires.lawful c.args.address c.args.count some (sym c.if-not-is_in_range.ensures) (omega arith)

pub returns-else-address-count : goal.returns-else-address-count
returns-else-address-count c =
    let some : 1 ≤ c.args.count = omega arith in
    let apart : nat_le c.args.layout.now.text_end c.args.address ≡ (nat_le (c.args.address + c.args.count) c.args.layout.now.text_start || nat_le c.args.layout.now.text_end c.args.address) = grind (arith, nat_tests) in
    apart ∙ all_data-inside c.args.layout.now c.requires.lawful c.args.address c.args.count some (sym c.if-not-is_in_range.ensures) (omega arith)
