use Rattle.std.proofs.Common.{refl}
use Rattle.elf_image.proofs.Accepted.{profile-is, IsImage-from_profile, segments_of-header, inside-header}
use Rattle.elf_image.proofs.image.read_as.Goals as goal

pub collect_segments-requires : goal.collect_segments-requires
collect_segments-requires c =
    let h = c.in-Ok.ensures.accepted in
    inside-header c.args.bytes.now c.in-Ok.outline.header h.header h.table

pub returns-in-Ok-collect_segments-clause-answer : goal.returns-in-Ok-collect_segments-clause-answer
returns-in-Ok-collect_segments-clause-answer c =
    let h = c.in-Ok.ensures.accepted in
    profile-is c.args.bytes.now c.args.version c.in-Ok.outline _ h refl refl
    (segments_of-header c.args.bytes.now c.in-Ok.outline.header _ h.header c.in-Ok-collect_segments.ensures) refl refl refl

pub returns-in-Ok-collect_segments-clause-image : goal.returns-in-Ok-collect_segments-clause-image
returns-in-Ok-collect_segments-clause-image c =
    let h = c.in-Ok.ensures.accepted in
    IsImage-from_profile c.args.bytes.now c.args.version _
    (profile-is c.args.bytes.now c.args.version c.in-Ok.outline _ h refl refl
    (segments_of-header c.args.bytes.now c.in-Ok.outline.header _ h.header c.in-Ok-collect_segments.ensures) refl refl refl)
