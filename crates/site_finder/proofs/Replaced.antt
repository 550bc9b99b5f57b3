-- A word that is put at the places which a test picks.
use Rattle.std.proofs.Common.{◌≡◌, ℕ, zero, suc, ◌+◌, ◌<◌, ◌≤◌, Bool, true, false, cond, List, [], ◌∷◌, map, length, get_or, refl, sym, ap, ◌∙◌, subst, ◌++◌, ◌⊎◌, inl, inr, arith}
use Rattle.std.specs.Prelude.{fold, slice_set, slice_index}
use Rattle.std.specs.List.{All, filter, range_with_len}
use Rattle.std.proofs.lemmas.Bool.{cases_eq}
use Rattle.std.proofs.lemmas.Bool.Decides.{nat_tests}
use Rattle.std.proofs.lemmas.List.{length-set, length-map, get_or-set_same, get_or-set_other, get_or-map, append-nil}
use Rattle.std.proofs.lemmas.Grind.{same_number_lists}
use Rattle.std.proofs.lemmas.List.Elements.{All-nil, All-cons}
use Rattle.code_model.specs.Patch.{patched_word}
use Rattle.site_finder.specs.Sites.{is_call, is_special, indices_of}

-- true and false differ
true_not_false : true ≡ false → ⊥
true_not_false e = (cc)

-- the words, with one word put at each of some places
abbrev pub put_at : List ℕ → List ℕ → ℕ → List ℕ
put_at words places word = fold (λ words at. slice_set words at word) words places

pub length-put_at : (places words : List ℕ) (v : ℕ) → length (put_at words places v) ≡ length words
length-put_at [] words v = refl
length-put_at (at ∷ places) words v = length-put_at places (slice_set words at v) v ∙ length-set words at v

module _ (p : ℕ → Bool) where
  -- the indices that pass, of n from a on
  abbrev picked : ℕ → ℕ → List ℕ
  picked a n = filter p (range_with_len a n)

  -- they are below the last
  picked-below : (a n top : ℕ) → a + n ≤ top → All (λ i. i < top) (picked a n)
  picked-below a zero top h = All-nil (λ i. i < top)
  picked-below a (suc n) top h = by (picked-below (a + 1) n top (omega arith)) (p a)
    where
      by : All (λ i. i < top) (picked (a + 1) n) → (b : Bool) → All (λ i. i < top) (cond b (a ∷ picked (a + 1) n) (picked (a + 1) n))
      by rest true = All-cons (λ i. i < top) a (picked (a + 1) n) (omega arith) rest
      by rest false = rest

  -- one index more
  picked-more : (a n k : ℕ) → a + n ≡ k → picked a (suc n) ≡ picked a n ++ cond (p k) (k ∷ []) []
  picked-more a zero k e = let same : a ≡ k = omega arith in subst (λ j. picked a 1 ≡ cond (p j) (j ∷ []) []) same refl
  picked-more a (suc n) k e = by (picked-more (a + 1) n k (omega arith)) (p a)
    where
      by : picked (a + 1) (suc n) ≡ picked (a + 1) n ++ cond (p k) (k ∷ []) []
          → (b : Bool) → cond b (a ∷ picked (a + 1) (suc n)) (picked (a + 1) (suc n)) ≡ cond b (a ∷ picked (a + 1) n) (picked (a + 1) n) ++ cond (p k) (k ∷ []) []
      by more true = ap (λ is. a ∷ is) more
      by more false = more

  module _ (v d k : ℕ) where
    -- an index before them keeps its word
    put-before : (a n : ℕ) (words : List ℕ) → k < a → get_or (put_at words (picked a n) v) k d ≡ get_or words k d
    put-before a zero words h = refl
    put-before a (suc n) words h = by (λ ws. put-before (a + 1) n ws (omega arith)) (p a)
      where
        by : ((ws : List ℕ) → get_or (put_at ws (picked (a + 1) n) v) k d ≡ get_or ws k d)
            → (b : Bool) → get_or (put_at words (cond b (a ∷ picked (a + 1) n) (picked (a + 1) n)) v) k d ≡ get_or words k d
        by rest true = rest (slice_set words a v) ∙ get_or-set_other words a k v d (omega arith)
        by rest false = rest words

    -- so does one that doesn't pass
    put-other : (a n : ℕ) (words : List ℕ) → p k ≡ false → get_or (put_at words (picked a n) v) k d ≡ get_or words k d
    put-other a zero words h = refl
    put-other a (suc n) words h = by (λ ws. put-other (a + 1) n ws h) (p a) refl
      where
        by : ((ws : List ℕ) → get_or (put_at ws (picked (a + 1) n) v) k d ≡ get_or ws k d)
            → (b : Bool) → p a ≡ b → get_or (put_at words (cond b (a ∷ picked (a + 1) n) (picked (a + 1) n)) v) k d ≡ get_or words k d
        by rest true e = rest (slice_set words a v) ∙ get_or-set_other words a k v d (λ same. true_not_false (sym e ∙ ap p (sym same) ∙ h))
        by rest false e = rest words

    -- one that passes gets the word
    put-picked : (a n : ℕ) (words : List ℕ) → p k ≡ true → a ≤ k → k < a + n → k < length words → get_or (put_at words (picked a n) v) k d ≡ v
    put-picked a zero words h low high within = absurd (omega arith)
    put-picked a (suc n) words h low high within = by (λ ws l w. put-picked (a + 1) n ws h l (omega arith) w) (p a) refl (cases_eq a k)
      where
        by : ((ws : List ℕ) → a + 1 ≤ k → k < length ws → get_or (put_at ws (picked (a + 1) n) v) k d ≡ v)
            → (b : Bool) → p a ≡ b → (a ≡ k) ⊎ (a ≡ k → ⊥) → get_or (put_at words (cond b (a ∷ picked (a + 1) n) (picked (a + 1) n)) v) k d ≡ v
        by rest true e (inl same) =
            put-before (a + 1) n (slice_set words a v) (omega arith)
            ∙ subst (λ j. get_or (slice_set words a v) j d ≡ v) same (get_or-set_same words a v d (omega arith))
        by rest false e (inl same) = absurd (true_not_false (sym h ∙ ap p (sym same) ∙ e))
        by rest true e (inr other) = rest (slice_set words a v) (omega arith) (omega (arith, length-set words a v))
        by rest false e (inr other) = rest words (omega arith) within

-- ---- the sites of a text

pub sites-below : (test : ℕ → Bool) (text : List ℕ) → All (λ i. i < length text) (indices_of test text)
sites-below test text = picked-below (λ i. test (slice_index text i)) 0 (length text) (length text) (omega arith)

-- the indices of the words so far, and of one more, by whether it passes
sites-more : (test : ℕ → Bool) (text : List ℕ) (n : ℕ) (b : Bool) → test (slice_index text n) ≡ b →
    filter (λ i. test (slice_index text i)) (range_with_len 0 (n + 1)) ≡ filter (λ i. test (slice_index text i)) (range_with_len 0 n) ++ cond b (n ∷ []) []
sites-more test text n b e =
    let same : suc n ≡ n + 1 = omega arith in
    let more : picked passes 0 (suc n) ≡ picked passes 0 n ++ cond (passes n) (n ∷ []) [] = picked-more passes 0 n n (omega arith) in
    subst (λ c. picked passes 0 (n + 1) ≡ picked passes 0 n ++ cond c (n ∷ []) []) e (subst (λ m. picked passes 0 m ≡ picked passes 0 n ++ cond (passes n) (n ∷ []) []) same more)
  where
    passes : ℕ → Bool
    passes i = test (slice_index text i)

-- with a word that passes
pub sites-with : (test : ℕ → Bool) (text : List ℕ) (n : ℕ) → test (slice_index text n) ≡ true →
    filter (λ i. test (slice_index text i)) (range_with_len 0 (n + 1)) ≡ filter (λ i. test (slice_index text i)) (range_with_len 0 n) ++ n ∷ []
sites-with test text n e = sites-more test text n true e

-- with one that doesn't
pub sites-without : (test : ℕ → Bool) (text : List ℕ) (n : ℕ) → test (slice_index text n) ≡ false →
    filter (λ i. test (slice_index text i)) (range_with_len 0 (n + 1)) ≡ filter (λ i. test (slice_index text i)) (range_with_len 0 n)
sites-without test text n e = sites-more test text n false e ∙ append-nil _

-- a word of the text in which the calls have one word, and then the specials another
put-word : (text : List ℕ) (k : ℕ) → k < length text →
    get_or (put_at (put_at text (indices_of is_call text) 0x0B) (indices_of is_special text) 0) k 0 ≡ patched_word (get_or text k 0)
put-word text k h = by (is_special (get_or text k 0)) refl (is_call (get_or text k 0)) refl
  where
    called : ℕ → Bool
    called i = is_call (slice_index text i)

    special : ℕ → Bool
    special i = is_special (slice_index text i)

    with_gates : List ℕ
    with_gates = put_at text (indices_of is_call text) 0x0B

    by : (s : Bool) → is_special (get_or text k 0) ≡ s → (c : Bool) → is_call (get_or text k 0) ≡ c →
        get_or (put_at with_gates (indices_of is_special text) 0) k 0 ≡ patched_word (get_or text k 0)
    by true e c f =
        put-picked special 0 0 k 0 (length text) with_gates e (omega arith) (omega arith) (omega (arith, length-put_at (indices_of is_call text) text 0x0B))
        ∙ grind (arith, nat_tests)
    by false e true f =
        put-other special 0 0 k 0 (length text) with_gates e
        ∙ put-picked called 0x0B 0 k 0 (length text) text f (omega arith) (omega arith) h
        ∙ grind (arith, nat_tests)
    by false e false f =
        put-other special 0 0 k 0 (length text) with_gates e
        ∙ put-other called 0x0B 0 k 0 (length text) text f
        ∙ grind (arith, nat_tests)

pub put-patched : (text : List ℕ) → put_at (put_at text (indices_of is_call text) 0x0B) (indices_of is_special text) 0 ≡ map patched_word text
put-patched text =
    let long : length (put_at (put_at text (indices_of is_call text) 0x0B) (indices_of is_special text) 0) ≡ length text =
    length-put_at (indices_of is_special text) (put_at text (indices_of is_call text) 0x0B) 0 ∙ length-put_at (indices_of is_call text) text 0x0B in
    let length-map' : length (map patched_word text) ≡ length text = simp length-map in
    same_number_lists _ _ (long ∙ sym length-map')
    (λ k h. let within : k < length text = omega (arith, long) in put-word text k within ∙ sym (get_or-map patched_word text k 0 0 within))
