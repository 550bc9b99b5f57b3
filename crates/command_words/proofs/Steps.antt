-- Lists that are read step by step.
use Rattle.std.proofs.Common.{◌≡◌, ℕ, ◌+◌, ◌<◌, ◌≤◌, Bool, true, List, [], ◌∷◌, length, get_or, drop, map, refl, sym, ap, ◌∙◌}
use Rattle.std.specs.Prelude.{Option, Some, None, option_and_then, ◌&&◌}
use Rattle.std.specs.List.{list_all}
use Rattle.std.proofs.lemmas.List.{drop_more, drop_all}
use Rattle.command_words.specs.Values.{read_all, taken_if}

-- what is made of a state once the items that are left are read
abbrev pub outcome : {S A B : Type 0} → (S → A → Option S) → (S → Option B) → S → List A → Option B
outcome step finish state items = option_and_then finish (read_all step state items)

-- a step takes the next item
pub read_all-step : {S A : Type 0} (step : S → A → Option S) (state next : S) (items : List A) (i : ℕ) (d : A) → i < length items
    → taken_if true next ≡ step state (get_or items i d) → read_all step state (drop i items) ≡ read_all step next (drop (i + 1) items)
read_all-step step state next items i d lt taken =
    ap (read_all step state) (drop_more items i d lt) ∙ ap (option_and_then (λ s. read_all step s (drop (i + 1) items))) (sym taken)

-- a step refuses it
pub read_all-refused : {S A : Type 0} (step : S → A → Option S) (state : S) (items : List A) (i : ℕ) (d : A) → i < length items
    → None ≡ step state (get_or items i d) → read_all step state (drop i items) ≡ None
read_all-refused step state items i d lt refused =
    ap (read_all step state) (drop_more items i d lt) ∙ ap (option_and_then (λ s. read_all step s (drop (i + 1) items))) (sym refused)

-- all items are read
pub read_all-end : {S A : Type 0} (step : S → A → Option S) (state : S) (items : List A) (i : ℕ) → length items ≤ i
    → read_all step state (drop i items) ≡ Some state
read_all-end step state items i all = ap (read_all step state) (drop_all i items all)

pub list_all-map : {A B : Type 0} (test : B → Bool) (f : A → B) (items : List A) → list_all test (map f items) ≡ list_all (λ item. test (f item)) items
list_all-map test f [] = refl
list_all-map test f (item ∷ items) = ap (λ (b : Bool). test (f item) && b) (list_all-map test f items)
