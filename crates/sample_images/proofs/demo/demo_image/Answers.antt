use Rattle.std.proofs.Common.{◌≡◌, IfOk, subst, ◌∙◌}
use Rattle.sample_images.specs.Executables.{two_segments}
use Rattle.sample_images.proofs.demo.demo_image.Goals as goal

pub returns : goal.returns
returns c = subst (λ (words : _). IfOk c.two_segments.result (λ v. v.items ≡ two_segments words)) (c.deref.ensures.value ∙ c.in_ok-demo_words.ensures) c.two_segments.ensures
