use Rattle.std.proofs.Common.{◌+◌, ◌*◌, ◌∙◌, ap}
use Rattle.elf_image.specs.Sections.{section_header}
use Rattle.elf_image.proofs.SectionLemmas.{sections_span-next}
use Rattle.elf_image.proofs.sections.sections_span.Goals as goal

pub loop-i-preserved : goal.loop-i-preserved
loop-i-preserved c =
    let bytes = c.args.bytes.now in
    sections_span-next c.loop-i.i bytes c.loop-i.span c.join-span.result c.read-section.result c.loop-i.invariant
    (c.read-section.ensures ∙ ap (λ h. section_header (h.e_shoff + 64 * c.loop-i.i) bytes) c.requires.header)
    c.join-span.ensures
