use Rattle.std.proofs.Common.{◌≡◌, ℕ, ◌-◌, ◌%◌, Bool, true, false, ◌&&◌, List, length, take, drop, refl, sym, ap, ◌∙◌}
use Rattle.rv_model.specs.Space.{Space}
use Rattle.hart_mem.specs.Held.{space_of}
use Rattle.program_model.specs.Calls.{bytes_read}
use Rattle.cow_regions.specs.Fills.{regions_fit}
use Rattle.runner_parts.specs.Fillings.{filled_if, fill_notes}
use Rattle.runner_parts.proofs.FilledReads.{bytes-there}
use Rattle.runner_parts.proofs.filling.fill_held.Goals as goal

pub returns-then-peek_all-clause-filled : goal.returns-then-peek_all-clause-filled
returns-then-peek_all-clause-filled c files t long ok =
    let s : Space = space_of c.args.mem.now in
    let fit : Bool = regions_fit s c.args.address (c.args.spot.now.count - 1) in
    c.fill_told.ensures.filled ok
    ∙ ap (λ (b : List ℕ). filled_if fit s c.args.address b) (bytes-there files c.args.spot.now c.peek_all.new.into (c.if-peek_all.ensures.staged files t refl) long)
    ∙ ap (λ (h : Bool). filled_if (h && fit) s c.args.address (bytes_read files c.args.spot.now)) c.if-peek_all.ensures.held

pub returns-then-peek_all-clause-tells : goal.returns-then-peek_all-clause-tells
returns-then-peek_all-clause-tells c =
    let s : Space = space_of c.args.mem.now in
    let fit : Bool = regions_fit s c.args.address (c.args.spot.now.count - 1) in
    c.fill_told.ensures.tells ∙ ap (λ (h : Bool). fill_notes (h && fit) c.args.spot.now c.args.notes.now) c.if-peek_all.ensures.held

pub returns-else-peek_all-clause-filled : goal.returns-else-peek_all-clause-filled
returns-else-peek_all-clause-filled c files t long ok =
    let s : Space = space_of c.args.mem.now in
    let fit : Bool = regions_fit s c.args.address (c.args.spot.now.count - 1) in
    ap (λ (h : Bool). filled_if (h && fit) s c.args.address (bytes_read files c.args.spot.now)) (sym c.if-peek_all.false ∙ c.peek_all.ensures.held)

pub returns-else-peek_all-clause-tells : goal.returns-else-peek_all-clause-tells
returns-else-peek_all-clause-tells c =
    let s : Space = space_of c.args.mem.now in
    let fit : Bool = regions_fit s c.args.address (c.args.spot.now.count - 1) in
    ap (λ (h : Bool). fill_notes (h && fit) c.args.spot.now c.args.notes.now) (sym c.if-peek_all.false ∙ c.peek_all.ensures.held)
