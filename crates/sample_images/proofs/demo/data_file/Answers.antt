use Rattle.std.proofs.Common.{◌≡◌, ◌+◌, ◌-◌, ◌++◌, [], ◌∷◌, ap, ◌∙◌}
use Rattle.std.proofs.lemmas.List.{append_assoc}
use Rattle.sample_images.specs.Demos.{data_byte, data_bytes}
use Rattle.sample_images.proofs.Filled.{next-data}
use Rattle.sample_images.proofs.demo.data_file.Goals as goal

pub loop-i-preserved : goal.loop-i-preserved
loop-i-preserved c =
    let i = c.loop-i.i in
    let n = c.args.count in
    ap (λ xs. xs ++ data_bytes (i + 1) (n - (i + 1))) c.in_ok-push.ensures.items
    ∙ append_assoc c.loop-i.bytes.items (data_byte i ∷ []) (data_bytes (i + 1) (n - (i + 1)))
    ∙ ap (λ xs. c.loop-i.bytes.items ++ xs) (next-data i n c.loop-i-test.true)
    ∙ c.loop-i.invariant
