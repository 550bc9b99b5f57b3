-- Lists of instructions, laid into a block.
use Rattle.std.proofs.Common.{◌≡◌, ℕ, zero, suc, ◌+◌, ◌-◌, ◌<◌, ◌≤◌, List, [], ◌∷◌, ◌++◌, length, get_or, set, take, drop, map, replicate, arith, refl, sym, ap, ◌∙◌, subst, append_assoc, add-one, length-append}
use Rattle.std.proofs.Math.Seq.{take-append-add, take-append_seam, drop-append-add, drop-cons}
use Rattle.std.proofs.lemmas.List.{map-append, map_more, take-map, take-replicate, drop-replicate, length-map, set-append_right}
use Rattle.std.proofs.lemmas.Grind.{common_steps}

-- a number in front of a list is put in the place of another
set-first : (zs : List ℕ) (i : ℕ) (w : ℕ) → i < length zs → set (drop i zs) 0 w ≡ w ∷ drop (i + 1) zs
set-first zs i w below = rw (add-one, drop-cons zs i 0)

module _ {X : Type 0} (f : X → ℕ) where
  -- one more of them is laid
  pub laid-next : (xs : List X) (zs : List ℕ) (at i : ℕ) (d : X) → i < length xs → at + length xs ≤ length zs →
      set (take at zs ++ (map f (take i xs) ++ drop (at + i) zs)) (at + i) (f (get_or xs i d)) ≡ take at zs ++ (map f (take (i + 1) xs) ++ drop (at + (i + 1)) zs)
  laid-next xs zs at i d below room =
      let w : ℕ = f (get_or xs i d) in
      let done : List ℕ = map f (take i xs) in
      let before : length (take at zs) ≡ at = grind (arith, common_steps) in
      let laid : length done ≡ i = grind (arith, common_steps) in
      let reached : at + i < length zs = omega arith in
      let outer : set (take at zs ++ (done ++ drop (at + i) zs)) (at + i) w ≡ take at zs ++ set (done ++ drop (at + i) zs) ((at + i) - at) w = set-append_right (take at zs) (done ++ drop (at + i) zs) at (at + i) w before (omega arith) in
      let place : (at + i) - at ≡ i = omega arith in
      let inner : set (done ++ drop (at + i) zs) i w ≡ done ++ set (drop (at + i) zs) (i - i) w = set-append_right done (drop (at + i) zs) i i w laid (omega arith) in
      let none : i - i ≡ 0 = omega arith in
      let after : set (drop (at + i) zs) 0 w ≡ w ∷ drop (at + i + 1) zs = set-first zs (at + i) w reached in
      let more : map f (take (i + 1) xs) ≡ done ++ w ∷ [] = map_more f xs i d below in
      let far : at + i + 1 ≡ at + (i + 1) = omega arith in
      grind (arith, common_steps, outer, place, inner, none, after, more, far)

  -- what is behind them is the same to the end
  pub filled : (xs : List X) (y : X) (k : ℕ) → length xs ≤ k → take k (map f xs ++ replicate k (f y)) ≡ map f xs ++ drop (length xs) (replicate k (f y))
  filled xs y k room =
      let rest : ℕ = k - length xs in
      let whole : k ≡ length (map f xs) + rest = grind (arith, common_steps) in
      let cut : take (length (map f xs) + rest) (map f xs ++ replicate k (f y)) ≡ map f xs ++ take rest (replicate k (f y)) = take-append-add (map f xs) (replicate k (f y)) rest in
      let some : take rest (replicate k (f y)) ≡ replicate rest (f y) = take-replicate rest k (f y) (omega arith) in
      let last : drop (length xs) (replicate k (f y)) ≡ replicate rest (f y) = drop-replicate (length xs) k (f y) in
      grind (arith, common_steps, whole, cut, some, last)

  map-replicate : (n : ℕ) (y : X) → map f (replicate n y) ≡ replicate n (f y)
  map-replicate zero y = refl
  map-replicate (suc n) y = ap (λ zs. f y ∷ zs) (map-replicate n y)

  -- a block: a word, two lists and what is behind them
  pub laid-both : (xs ys : List X) (p : ℕ) (y : X) (k : ℕ) (first second : List ℕ) → length xs + length ys ≤ k →
      first ≡ take 1 (p ∷ replicate k (f y)) ++ (map f xs ++ drop (1 + length xs) (p ∷ replicate k (f y))) →
      second ≡ take (1 + length xs) first ++ (map f ys ++ drop (1 + length xs + length ys) first) →
      second ≡ p ∷ map f (take k ((xs ++ ys) ++ replicate k y))
  laid-both xs ys p y k first second room is_first is_second =
      let zs : List ℕ = replicate k (f y) in
      let behind : List ℕ = drop (length xs) zs in
      let one : 1 + length xs ≡ suc (length xs) = omega arith in
      let two : 1 + length xs + length ys ≡ suc (length xs + length ys) = omega arith in
      let begun : first ≡ p ∷ (map f xs ++ behind) = is_first ∙ ap (λ n. p ∷ (map f xs ++ drop n (p ∷ zs))) one in
      let kept : take (length xs) (map f xs ++ behind) ≡ map f xs = subst (λ n. take n (map f xs ++ behind) ≡ map f xs) (length-map xs f) (take-append_seam (map f xs) behind) in
      let passed : drop (length xs + length ys) (map f xs ++ behind) ≡ drop (length ys) behind = subst (λ n. drop (n + length ys) (map f xs ++ behind) ≡ drop (length ys) behind) (length-map xs f) (drop-append-add (map f xs) behind (length ys)) in
      let both : length (xs ++ ys) ≡ length xs + length ys = length-append xs ys in
      let farther : drop (length ys) behind ≡ drop (length (xs ++ ys)) zs = grind (arith, common_steps) in
      let made : second ≡ p ∷ (map f xs ++ (map f ys ++ drop (length (xs ++ ys)) zs)) =
      is_second ∙ ap (λ ws. take (1 + length xs) ws ++ (map f ys ++ drop (1 + length xs + length ys) ws)) begun
      ∙ ap (λ n. take n (p ∷ (map f xs ++ behind)) ++ (map f ys ++ drop (1 + length xs + length ys) (p ∷ (map f xs ++ behind)))) one
      ∙ ap (λ n. (p ∷ take (length xs) (map f xs ++ behind)) ++ (map f ys ++ drop n (p ∷ (map f xs ++ behind)))) two
      ∙ ap (λ ws. (p ∷ ws) ++ (map f ys ++ drop (length xs + length ys) (map f xs ++ behind))) kept
      ∙ ap (λ ws. (p ∷ map f xs) ++ (map f ys ++ ws)) (passed ∙ farther) in
      let listed : map f (take k ((xs ++ ys) ++ replicate k y)) ≡ map f (xs ++ ys) ++ drop (length (xs ++ ys)) zs =
      sym (take-map f k ((xs ++ ys) ++ replicate k y))
      ∙ ap (take k) (map-append f (xs ++ ys) (replicate k y) ∙ ap (λ ws. map f (xs ++ ys) ++ ws) (map-replicate k y))
      ∙ filled (xs ++ ys) y k (omega arith) in
      made ∙ ap (λ ws. p ∷ ws) (sym (listed ∙ ap (λ ws. ws ++ drop (length (xs ++ ys)) zs) (map-append f xs ys) ∙ append_assoc (map f xs) (map f ys) (drop (length (xs ++ ys)) zs)))
