-- What the words of a line say, where one part of them is known.
use Rattle.std.proofs.Common.{◌≡◌, ℕ, List, [], ◌∷◌, refl}
use Rattle.std.specs.Prelude.{Option, Some, None, option_and_then}
use Rattle.trace_text.specs.Grammar.{words_of, decimal_in, keyword_in, fields_in, body_in, line_in}
use Rattle.trace_text.proofs.WordLaws.{words_of-some}

pub body_in-cons : (keyword : List ℕ) (words : List (List ℕ)) (w : List ℕ) (ws : List (List ℕ)) → words ≡ w ∷ ws
    → body_in (keyword ∷ words) ≡ option_and_then (λ k. fields_in k words) (keyword_in keyword)
unfolding body_in
body_in-cons keyword words w ws e = rw e refl

pub body_in-more : (keyword text : List ℕ) → body_in (keyword ∷ words_of text) ≡ option_and_then (λ k. fields_in k (words_of text)) (keyword_in keyword)
body_in-more keyword text = let some = words_of-some text in body_in-cons keyword (words_of text) some.0 some.1 some.2

nothing : {A B C : Type 0} (o s : Option A) (f : A → A → B → Option C) → option_and_then (λ x. option_and_then (λ y. option_and_then (f x y) None) s) o ≡ None
nothing None s f = refl
nothing (Some x) None f = refl
nothing (Some x) (Some y) f = refl

-- two words are no line
pub line_in-short : (own shadow : List ℕ) → line_in (own ∷ shadow ∷ []) ≡ None
unfolding line_in body_in
line_in-short own shadow = nothing (decimal_in own) (decimal_in shadow) (λ o s body. Some (record { own = o; shadow = s; body = body }))
