use Rattle.std.proofs.Common.{refl}
use Rattle.sample_images.proofs.executable.two_segments.Goals as goal

pub returns : goal.returns
returns c =
    rw (
      c.in_ok-extend_from_slice-3.ensures.items,
      c.in_ok-push_words.ensures,
      c.in_ok-extend_from_slice-2.ensures.items,
      c.deref-2.ensures.value,
      c.in_ok-entry-2.ensures,
      c.in_ok-extend_from_slice.ensures.items,
      c.deref.ensures.value,
      c.in_ok-bytes.ensures,
      c.in_ok-entry.ensures,
    )
    refl
