-- What was said in the finish of a fetch, and what is true of the cached blocks then.
use Rattle.std.proofs.Common.{◌≡◌, ℕ, ◌*◌, ◌≤◌, List, [], ◌∷◌, ◌++◌, length, take, drop, refl, sym, ap, subst, ◌∙◌, arith, Option, Some, IfSome}
use Rattle.std.proofs.lemmas.List.{length-take-le, take-append-le, take_all}
use Rattle.std.proofs.lemmas.List.Elements.{All-nil, All-cons, All-head}
use Rattle.std.proofs.Math.Seq.{drop-append_seam}
use Rattle.spec_base.specs.Files.{Files}
use Rattle.cache_queue.specs.State.{CachedBlocks}
use Rattle.cache_queue.specs.Finishes.{with_finished, FinishTells, TrueTo}
use Rattle.cache_queue.specs.declared.finish.Finished.{Finished}
use Rattle.cache_queue.specs.declared.finish.Finished.TheVariants.{Nothing, Put, Lost, Dropped, Fault}
use Rattle.cache_queue.proofs.Truth.{TrueTo-with_block}
use Rattle.runner_parts.specs.Heard.{Gave, IsTrueOf, AreTrueOf, said_by_finish}

-- a part of a buffer that was lent is there
pub part-back : (place : ℕ) (into part rest : List ℕ) → 4096 * place ≤ length into → length part ≡ 4096 → take 4096 (drop (4096 * place) (take (4096 * place) into ++ (part ++ rest))) ≡ part
part-back place into part rest room block =
    let long : length (take (4096 * place) into) ≡ 4096 * place = length-take-le (4096 * place) into room in
    ap (λ (k : ℕ). take 4096 (drop k (take (4096 * place) into ++ (part ++ rest)))) (sym long)
    ∙ (ap (λ (k : List ℕ). take 4096 k) (drop-append_seam (take (4096 * place) into) (part ++ rest))
    ∙ (take-append-le 4096 part rest (omega (arith, block)) ∙ take_all 4096 part (omega (arith, block))))

-- a part at the front
pub front-back : (part rest : List ℕ) → length part ≡ 4096 → take 4096 (part ++ rest) ≡ part
front-back part rest block = take-append-le 4096 part rest (omega (arith, block)) ∙ take_all 4096 part (omega (arith, block))

-- what a finish tells of files is what was said
pub tells-said : (files : Files) (f : Finished) (bytes : List ℕ) → FinishTells files f bytes → AreTrueOf files (said_by_finish f bytes)
tells-said files (Put spot) bytes h = All-cons (IsTrueOf files) (Gave spot bytes) [] (sym h) (All-nil (IsTrueOf files))
tells-said files (Lost spot) bytes h = All-cons (IsTrueOf files) (Gave spot bytes) [] (sym h) (All-nil (IsTrueOf files))
tells-said files Nothing bytes h = All-nil (IsTrueOf files)
tells-said files (Dropped spot) bytes h = All-nil (IsTrueOf files)
tells-said files (Fault spot) bytes h = All-nil (IsTrueOf files)

-- and back
pub said-tells : (files : Files) (f : Finished) (bytes : List ℕ) → AreTrueOf files (said_by_finish f bytes) → FinishTells files f bytes
said-tells files (Put spot) bytes h = sym (All-head (IsTrueOf files) (Gave spot bytes) [] h)
said-tells files (Lost spot) bytes h = sym (All-head (IsTrueOf files) (Gave spot bytes) [] h)
said-tells files Nothing bytes h = tt
said-tells files (Dropped spot) bytes h = tt
said-tells files (Fault spot) bytes h = tt

-- what a store that tells its files said
pub told-said : (o : Option Files) (f : Finished) (bytes part : List ℕ) → part ≡ bytes → IfSome o (λ files. FinishTells files f bytes) → (files : Files) → o ≡ Some files → AreTrueOf files (said_by_finish f part)
told-said o f bytes part same told files e =
    subst (λ (k : List ℕ). AreTrueOf files (said_by_finish f k)) (sym same) (tells-said files f bytes (subst (λ (o : Option Files). IfSome o (λ files. FinishTells files f bytes)) e told))

-- the cached blocks stay true
true-after : (files : Files) (c : CachedBlocks) (f : Finished) (bytes : List ℕ) → FinishTells files f bytes → TrueTo files c → TrueTo files (with_finished c f bytes)
true-after files c (Put spot) bytes h t = TrueTo-with_block files c spot bytes h t
true-after files c (Lost spot) bytes h t = t
true-after files c Nothing bytes h t = t
true-after files c (Dropped spot) bytes h t = t
true-after files c (Fault spot) bytes h t = t

pub said-true : (files : Files) (c d : CachedBlocks) (f : Finished) (bytes part : List ℕ) → part ≡ bytes → d ≡ with_finished c f bytes → AreTrueOf files (said_by_finish f part) → TrueTo files c → TrueTo files d
said-true files c d f bytes part same is said t =
    subst (λ (d : CachedBlocks). TrueTo files d) (sym is) (true-after files c f bytes (said-tells files f bytes (subst (λ (k : List ℕ). AreTrueOf files (said_by_finish f k)) same said)) t)
