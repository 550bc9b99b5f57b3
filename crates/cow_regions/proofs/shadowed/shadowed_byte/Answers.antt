use Rattle.std.proofs.Common.{◌<◌, ◌/◌, sym, ◌∙◌}
use Rattle.rv_model.specs.Space.{Space}
use Rattle.hart_mem.specs.Held.{space_of}
use Rattle.code_model.specs.Tables.{all_regions}
use Rattle.cow_regions.proofs.CopiedBytes.{copied-shown, own-shown, own-data}
use Rattle.cow_regions.proofs.FilledViews.{of_data}
use Rattle.cow_regions.proofs.shadowed.shadowed_byte.Goals as goal

pub returns-in-Some : goal.returns-in-Some
returns-in-Some c =
    let s : Space = space_of c.args.mem.now in
    let there = sym c.in_ok-own.was ∙ c.byte.ensures in
    let inside : c.args.address / 256 < all_regions s.layout = (of_data s.layout c.args.address (own-data s c.args.address c.in_ok-own.own there)).inside in
    copied-shown s c.args.address c.in_ok-own.own there c.in-Some.slot c.copied_byte.result (sym c.in-Some.is ∙ c.slot_of.ensures.inside inside) c.copied_byte.ensures

pub returns-in-None : goal.returns-in-None
returns-in-None c =
    let s : Space = space_of c.args.mem.now in
    let there = sym c.in_ok-own.was ∙ c.byte.ensures in
    let inside : c.args.address / 256 < all_regions s.layout = (of_data s.layout c.args.address (own-data s c.args.address c.in_ok-own.own there)).inside in
    own-shown s c.args.address c.in_ok-own.own there (sym c.in-None.is ∙ c.slot_of.ensures.inside inside)
