use Rattle.std.proofs.Common.{◌≡◌, ◌∙◌, ◌+◌, ◌-◌, ◌||◌, nat_lt, nat_le, sym, arith}
use Rattle.std.proofs.lemmas.Bool.Decides.{nat_tests}
use Rattle.hart_mem.proofs.Grains.{data_outside, data_inside}
use Rattle.hart_mem.proofs.rights.is_data_all.Goals as goal

pub returns-then-not-is_in_range_to : goal.returns-then-not-is_in_range_to
returns-then-not-is_in_range_to c = sym (data_outside c.args.layout.now c.requires.lawful c.args.address c.args.size c.requires.size c.requires.aligned (sym c.if-not-is_in_range_to.ensures))

pub returns-then-address-size : goal.returns-then-address-size
returns-then-address-size c =
    let apart : nat_lt (c.args.address + (c.args.size - 1)) c.args.layout.now.text_start ≡ (nat_lt (c.args.address + (c.args.size - 1)) c.args.layout.now.text_start || nat_le c.args.layout.now.text_end c.args.address) = grind (arith, nat_tests) in
    apart ∙ data_inside c.args.layout.now c.requires.lawful c.args.address c.args.size c.requires.size c.requires.aligned (sym c.if-not-is_in_range_to.ensures)

pub returns-else-address-size : goal.returns-else-address-size
returns-else-address-size c =
    let apart : (nat_le c.args.layout.now.text_end c.args.address) ≡ (nat_lt (c.args.address + (c.args.size - 1)) c.args.layout.now.text_start || nat_le c.args.layout.now.text_end c.args.address) = grind (arith, nat_tests) in
    apart ∙ data_inside c.args.layout.now c.requires.lawful c.args.address c.args.size c.requires.size c.requires.aligned (sym c.if-not-is_in_range_to.ensures)
