use Rattle.rv_model.specs.Memory.{zeros}
use Rattle.std.proofs.Common.{◌≡◌, suc, ◌+◌, ◌≤◌, length, map, take, slice_index_or, ap, sym, ◌∙◌, subst, arith}
use Rattle.spec_base.specs.Layout.{image_limit}
use Rattle.program_model.specs.Loading.{data_of, with_parts}
use Rattle.elf_image.specs.Image.{IsPlaced}
use Rattle.hart_mem.specs.Held.{space_of}
use Rattle.program_loader.specs.Programs.{part_of}
use Rattle.program_loader.proofs.PartLemmas.{first-part, next-part, map-more, take-whole}
use Rattle.program_loader.proofs.parts.load_parts.Goals as goal

pub loop-segment-init : goal.loop-segment-init
loop-segment-init c = first-part (space_of c.args.mem.now) c.requires.clean

pub load_segment-requires : goal.load_segment-requires
load_segment-requires c =
    subst (λ v. IsPlaced (image_limit v) c.args.bytes.now (slice_index_or c.args.segments.now c.loop-segment.segment-index (record { address = 0; size = 0; flags = 0; offset = 0; length = 0 }))) (sym (ap (λ s. s.layout.version) c.loop-segment.invariant))
    (c.requires.placed c.loop-segment.segment-index (record { address = 0; size = 0; flags = 0; offset = 0; length = 0 }) c.loop-segment-test.true)

pub loop-segment-preserved : goal.loop-segment-preserved
loop-segment-preserved c =
    let place : suc c.loop-segment.segment-index ≡ c.loop-segment.segment-index + 1 = omega arith in
    next-part (space_of c.args.mem.now) (space_of c.loop-segment.mem) (space_of c.load_segment.new.mem) (map (part_of c.args.bytes.now) (take c.loop-segment.segment-index c.args.segments.now)) _
    c.loop-segment.invariant c.in_ok-load_segment.ensures
    ∙ ap (λ ps. record (space_of c.args.mem.now) { program = data_of (space_of c.args.mem.now).layout (with_parts zeros ps) })
    (map-more (part_of c.args.bytes.now) c.args.segments.now c.loop-segment.segment-index _ c.loop-segment-test.true
    ∙ ap (λ n. map (part_of c.args.bytes.now) (take n c.args.segments.now)) place)

pub returns : goal.returns
returns c =
    let over : length c.args.segments.now ≤ c.loop-segment.segment-index = omega (arith, c.loop-segment-test.false) in
    c.loop-segment.invariant
    ∙ ap (λ xs. record (space_of c.args.mem.now) { program = data_of (space_of c.args.mem.now).layout (with_parts zeros (map (part_of c.args.bytes.now) xs)) })
    (take-whole c.args.segments.now c.loop-segment.segment-index over)
