use Rattle.std.proofs.Common.{◌≡◌, ◌+◌, ◌∙◌, ℕ, List, drop, length, slice_range, refl, ap, arith}
use Rattle.std.proofs.lemmas.List.{length-drop, take_rest}
use Rattle.rv_model.specs.Space.{Space}
use Rattle.code_model.specs.Regions.{slot_address}
use Rattle.hart_mem.specs.Held.{space_of}
use Rattle.cow_regions.proofs.SetBytes.{put_part, put_part-none, put_part-more}
use Rattle.cow_regions.proofs.filling.put_bytes.Goals as goal

pub loop-done-init : goal.loop-done-init
loop-done-init c = record { space = put_part-none (space_of c.args.mem.now) (slot_address c.args.slot + c.args.offset) c.args.bytes.now; inside = omega arith; spare = refl }

pub loop-done-preserved : goal.loop-done-preserved
loop-done-preserved c =
    let s : Space = space_of c.args.mem.now in
    let t : Space = space_of c.loop-done.mem in
    let base : ℕ = slot_address c.args.slot + c.args.offset in
    let bytes : List ℕ = c.args.bytes.now in
    let at : slot_address c.args.slot + (c.args.offset + c.loop-done.done) ≡ base + c.loop-done.done = omega arith in
    let rest : slice_range bytes c.loop-done.done (length bytes) ≡ drop c.loop-done.done bytes = take_rest bytes c.loop-done.done in
    let after : space_of c.put_next-done.new.mem ≡ put_part t (base + c.loop-done.done) c.put_next-done.result (drop c.loop-done.done bytes) =
    c.put_next-done.ensures.space ∙ ap (λ (p : ℕ). put_part t p c.put_next-done.result (slice_range bytes c.loop-done.done (length bytes))) at ∙ ap (put_part t (base + c.loop-done.done) c.put_next-done.result) rest in
    record {
      space = put_part-more s t (space_of c.put_next-done.new.mem) base c.loop-done.done c.put_next-done.result bytes c.loop-done.invariant.space after;
      inside = omega (arith, c.loop-done.invariant.inside, length-drop c.loop-done.done c.args.bytes.now, c.put_next-done.ensures.count.1);
      spare = c.put_next-done.ensures.spare ∙ c.loop-done.invariant.spare;
    }

pub returns-clause-space : goal.returns-clause-space
returns-clause-space c = c.loop-done.invariant.space ∙ ap (λ (n : ℕ). put_part (space_of c.args.mem.now) (slot_address c.args.slot + c.args.offset) n c.args.bytes.now) (omega (arith, c.loop-done.invariant.inside))
