-- Parts of the rewritten file, one after another.
use Rattle.std.proofs.Common.{◌≡◌, ℕ, suc, ◌+◌, ◌-◌, ◌<◌, ◌≤◌, List, ◌∷◌, ◌++◌, length, map, drop, get_or, arith, sym, ap, ◌∙◌, add-one}
use Rattle.std.proofs.Math.Seq.{drop-cons, get_or-append_right}
use Rattle.std.proofs.Math.ListN.{get_or-append, get_or-map}
use Rattle.std.proofs.lemmas.List.{length-map, length-append}
use Rattle.elf_image.specs.declared.segments.Segment.{Segment}
use Rattle.elf_writer.specs.declared.part.Part.{Part}
use Rattle.elf_writer.specs.FileParts.{segment_part}

-- the part of a segment
pub part-front : (ss : List Segment) (ps : List Part) (i : ℕ) (s : Segment) (p : Part) → i < length ss → s ≡ get_or ss i s → p ≡ segment_part s
    → drop i (map segment_part ss ++ ps) ≡ p ∷ drop (i + 1) (map segment_part ss ++ ps)
part-front ss ps i s p h at is =
    let few : i < length (map segment_part ss) = omega (arith, length-map ss segment_part) in
    let many : i < length (map segment_part ss ++ ps) = omega (arith, length-append (map segment_part ss) ps) in
    let here : get_or (map segment_part ss ++ ps) i (segment_part s) ≡ p =
    get_or-append (map segment_part ss) ps (segment_part s) i few ∙ get_or-map segment_part ss i s ∙ ap segment_part (sym at) ∙ sym is in
    drop-cons (map segment_part ss ++ ps) i (segment_part s) many
    ∙ ap (λ q. q ∷ drop (suc i) (map segment_part ss ++ ps)) here ∙ ap (λ k. p ∷ drop k (map segment_part ss ++ ps)) (sym (add-one i))

-- a part behind the segments
pub part-back : (ss : List Segment) (ps : List Part) (i : ℕ) (d : Part) → length ss ≤ i → i < length ss + length ps
    → drop i (map segment_part ss ++ ps) ≡ get_or ps (i - length ss) d ∷ drop (i + 1) (map segment_part ss ++ ps)
part-back ss ps i d h few =
    let long : length (map segment_part ss) ≡ length ss = length-map ss segment_part in
    let many : i < length (map segment_part ss ++ ps) = omega (arith, length-append (map segment_part ss) ps) in
    let here : get_or (map segment_part ss ++ ps) i d ≡ get_or ps (i - length ss) d =
    get_or-append_right (map segment_part ss) ps i d (omega arith) ∙ ap (λ n. get_or ps (i - n) d) long in
    drop-cons (map segment_part ss ++ ps) i d many
    ∙ ap (λ q. q ∷ drop (suc i) (map segment_part ss ++ ps)) here ∙ ap (λ k. get_or ps (i - length ss) d ∷ drop k (map segment_part ss ++ ps)) (sym (add-one i))
