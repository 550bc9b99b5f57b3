use Rattle.std.proofs.Common.{◌≡◌, ℕ, List, ◌∙◌, ap, None, codes}
use Rattle.world_io.specs.Outside.{with_added, new_store}
use Rattle.sample_images.specs.Demos.{data_bytes}
use Rattle.run_commands.proofs.demo.demo_store.Goals as goal

pub returns : goal.returns
returns c =
    let added = c.in_ok-add.ensures.added in
    let bytes : c.deref.result.now ≡ data_bytes 0 163_840 = c.deref.ensures.value ∙ c.in_ok-bytes.ensures in
    added
    ∙ ap (λ s. with_added s c.in-Some.name c.deref.result.now) c.new-store.ensures
    ∙ ap (λ (name : List ℕ). with_added (new_store None) name c.deref.result.now) c.in-Some.ensures.same
    ∙ ap (λ bytes. with_added (new_store None) (codes "data") bytes) bytes
