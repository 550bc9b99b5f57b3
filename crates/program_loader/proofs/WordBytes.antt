-- Words as bytes, the lowest first.
use Rattle.std.proofs.Common.{◌≡◌, ℕ, zero, suc, ◌-◌, ◌/◌, ◌%◌, ◌<◌, List, [], ◌∷◌, ◌++◌, ap, sym, ◌∙◌, arith, subst}
use Rattle.std.proofs.lemmas.List.{append-nil, append_assoc}
use Rattle.spec_base.specs.Word.{bytes_of}
use Rattle.program_model.specs.Loading.{bytes_of_words}

-- one byte more is written
pub byte-more : (k n : ℕ) (items whole : List ℕ) → 0 < k → items ++ bytes_of k n ≡ whole → (items ++ n % 256 ∷ []) ++ bytes_of (k - 1) (n / 256) ≡ whole
byte-more zero n items whole some e = absurd (omega (arith, some))
byte-more (suc k) n items whole some e =
    let left : suc k - 1 ≡ k = omega arith in
    rw left (append_assoc items (n % 256 ∷ []) (bytes_of k (n / 256)) ∙ e)

words-more : (words : List ℕ) (w : ℕ) → bytes_of_words (words ++ w ∷ []) ≡ bytes_of_words words ++ bytes_of 8 w
words-more [] w = append-nil (bytes_of 8 w)
words-more (x ∷ words) w = ap (λ bs. bytes_of 8 x ++ bs) (words-more words w) ∙ sym (append_assoc (bytes_of 8 x) (bytes_of_words words) (bytes_of 8 w))

-- all eight bytes of a word are written
pub word-more : (items old : List ℕ) (k rest w : ℕ) → k ≡ 0 → items ++ bytes_of k rest ≡ old ++ bytes_of 8 w
    → (words : List ℕ) → old ≡ bytes_of_words words → items ≡ bytes_of_words (words ++ w ∷ [])
word-more items old k rest w none e words before =
    let here : items ++ [] ≡ old ++ bytes_of 8 w = subst (λ n. items ++ bytes_of n rest ≡ old ++ bytes_of 8 w) none e in
    sym (append-nil items) ∙ (here ∙ (ap (λ o. o ++ bytes_of 8 w) before ∙ sym (words-more words w)))
