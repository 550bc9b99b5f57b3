use Rattle.std.proofs.Common.{refl}
use Rattle.sample_images.proofs.executable.one_segment.Goals as goal

pub returns : goal.returns
returns c = rw (c.in_ok-push_words.ensures, c.in_ok-extend_from_slice.ensures.items, c.deref.ensures.value, c.in_ok-bytes.ensures, c.in_ok-entry.ensures) refl
