-- The bytes of a text are below 256.
use Rattle.std.proofs.Common.{◌≡◌, ℕ, ◌+◌, ◌/◌, ◌<◌, Bool, true, false, ltb, cond, ◌&&◌, List, [], ◌∷◌, map, String, Global, string_bytes, ◌⊎◌, inl, inr, ◌≤◌, All, refl, subst, arith}
use Rattle.std.proofs.lemmas.List.Elements.{All-nil, All-cons, All-append}
use Rattle.std.proofs.lemmas.Bool.Decides.{nat_tests}
use Rattle.std.proofs.lemmas.Str.{IsUtf8-string_bytes}
use Rattle.run_laws.specs.OwnLaws.{AllBytes}
use lib.Utf8.{scalar, scalars, scalar_cases, next, encode, encodes}

below : (n : ℕ) → n < 256 → (rest : List ℕ) → AllBytes rest → AllBytes (n ∷ rest)
below n h rest k = All-cons (λ b. b < 256) n rest h k

none : AllBytes []
none = All-nil (λ b. b < 256)

next-below : (n : ℕ) → next n < 256
next-below n = omega arith

chosen : (t : Bool) (xs ys : List ℕ) → (t ≡ true → AllBytes xs) → (t ≡ false → AllBytes ys) → AllBytes (cond t xs ys)
chosen true xs ys h k = h refl
chosen false xs ys h k = k refl

scalar-below : (c : ℕ) → scalar c ≡ true → c < 1_114_112
scalar-below c e = by_range (scalar_cases c e)
  where
    by_range : (c < 55_296) ⊎ ((57_344 ≤ c) × (c < 1_114_112)) → c < 1_114_112
    by_range (inl h) = omega arith
    by_range (inr h) = h.1

-- those of a character
encode-bytes : (c : ℕ) → c < 1_114_112 → AllBytes (encode c)
unfolding encode
encode-bytes c few =
    let two = below (next (c / 64)) (next-below (c / 64)) (next c ∷ []) (below (next c) (next-below c) [] none) in
    chosen (ltb c 128) _ _ (λ h. below c (one c h) [] none)
    (λ _. chosen (ltb c 2048) _ _ (λ h. below (192 + c / 64) (first c h) (next c ∷ []) (below (next c) (next-below c) [] none))
    (λ _. chosen (ltb c 65_536) _ _ (λ h. below (224 + c / 4096) (second c h) (next (c / 64) ∷ next c ∷ []) two)
    (λ _. below (240 + c / 262_144) (omega (arith, few)) (next (c / 4096) ∷ next (c / 64) ∷ next c ∷ [])
    (below (next (c / 4096)) (next-below (c / 4096)) (next (c / 64) ∷ next c ∷ []) two))))
  where
    one : (c : ℕ) → ltb c 128 ≡ true → c < 256
    one c h = let small : c < 128 = grind (arith, nat_tests) in omega (arith, small)

    first : (c : ℕ) → ltb c 2048 ≡ true → 192 + c / 64 < 256
    first c h = let small : c < 2048 = grind (arith, nat_tests) in omega (arith, small)

    second : (c : ℕ) → ltb c 65_536 ≡ true → 224 + c / 4096 < 256
    second c h = let small : c < 65_536 = grind (arith, nat_tests) in omega (arith, small)

encodes-bytes : (cs : List ℕ) → scalars cs ≡ true → AllBytes (encodes cs)
encodes-bytes [] e = none
encodes-bytes (c ∷ cs) e =
    let both = each (scalar c) (scalars cs) e in
    All-append (λ b. b < 256) (encode c) (encodes cs) (encode-bytes c (scalar-below c both.0)) (encodes-bytes cs both.1)
  where
    each : (s t : Bool) → (s && t) ≡ true → (s ≡ true) × (t ≡ true)
    each true t e = (refl, e)
    each false t e = absurd cc

-- and so those of arguments
pub arguments-bytes : (words : List (String Global)) → All AllBytes (map string_bytes words)
arguments-bytes [] = All-nil AllBytes
arguments-bytes (word ∷ words) =
    let text = IsUtf8-string_bytes word in
    All-cons AllBytes (string_bytes word) (map string_bytes words) (subst AllBytes text.1.1 (encodes-bytes text.0 text.1.0)) (arguments-bytes words)
