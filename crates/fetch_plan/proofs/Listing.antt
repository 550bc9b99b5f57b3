-- The tables of the held blocks after one change: the heap has the place of each block that is needed again.
use Rattle.std.proofs.Common.{◌≡◌, ◌≢◌, ℕ, ◌+◌, ◌≤◌, Bool, true, false, List, [], ◌∷◌, length, Option, Some, None, is_some, MatchOption, refl, sym, ◌∙◌, ap, subst, inl, inr, arith}
use Rattle.std.specs.BTreeSet as sorted
use Rattle.std.specs.List.Sorted.{IsPermutation}
use Rattle.std.specs.BinaryHeap.{IsHeap, IsUpperBound, heap_items}
use Rattle.std.specs.Ordering.{nat_cmp}
use Rattle.std.proofs.lemmas.Bool.{cases_eq}
use Rattle.std.proofs.lemmas.List.Elements.{All-contains, Contains-append_right}
use Rattle.std.proofs.lemmas.List.Sorted.{Contains-permutation, le_from_greatest}
use Rattle.std.proofs.lemmas.Map.Made.{Contains-tail}
use Rattle.fetch_plan.specs.declared.held.Held.{Held}
use Rattle.fetch_plan.specs.Kept.{IsKept, GoesFirst, except}
use Rattle.fetch_plan.specs.Coming.{at_place, IsEmptied, IsTakenAt}
use Rattle.fetch_plan.specs.Tables.{AreListed, Keeps, AreComing}
use Rattle.fetch_plan.proofs.Keeping.{IsKept-needed, coming_first, IsKept-coming}

-- ---- the heap

-- a place has no block any more
pub AreListed-emptied : (old new : List (Option ℕ)) (places : List ℕ) (k : ℕ) → AreListed old places → at_place new k ≡ None → ((q : ℕ) → q ≢ k → at_place new q ≡ at_place old q) → AreListed new places
AreListed-emptied old new places k lists gone others = record {
  listed = λ q v e.
      let ne : q ≢ k = λ same. let at : at_place new q ≡ at_place new k = ap (at_place new) same in cc in
      lists.listed q v (sym (others q ne) ∙ e);
  heap = lists.heap;
}

-- a place without a block has left the heap
pub AreListed-popped : (coming : List (Option ℕ)) (places rest : List ℕ) (k : ℕ) → AreListed coming places → at_place coming k ≡ None → IsPermutation places (k ∷ rest) → IsHeap nat_cmp rest → AreListed coming rest
AreListed-popped coming places rest k lists none moved heap = record {
  listed = λ q v e.
      let ne : k ≡ q → ⊥ = λ same. let at : at_place coming k ≡ at_place coming q = ap (at_place coming) same in cc in
      Contains-tail k rest q ne (Contains-permutation places (k ∷ rest) q moved (lists.listed q v e));
  heap = heap;
}

-- a place has a block, and is in the heap
pub AreListed-put : (old new : List (Option ℕ)) (places more : List ℕ) (k : ℕ) → AreListed old places → ((q : ℕ) → q ≢ k → at_place new q ≡ at_place old q) → IsPermutation (k ∷ places) more → IsHeap nat_cmp more → AreListed new more
AreListed-put old new places more k lists others moved heap = record {
  listed = λ q v e.
      Contains-permutation (k ∷ places) more q moved
      (elim (cases_eq q k) [
        | inl same ↦ (0, omega arith, sym same)
        | inr ne ↦ Contains-append_right (k ∷ []) places q (lists.listed q v (sym (others q ne) ∙ e))
      ]);
  heap = heap;
}

-- the greatest place of the heap is no earlier than that of any block
pub latest_place : (coming : List (Option ℕ)) (places : List ℕ) (k : ℕ) → AreListed coming places → IsUpperBound nat_cmp k places → (q b : ℕ) → at_place coming q ≡ Some b → q ≤ k
latest_place coming places k lists bound q b e = All-contains (λ y. y ≤ k) places q (le_from_greatest k places bound) (lists.listed q b e)

-- where the heap is empty there is no block
pub none_listed : (coming : List (Option ℕ)) (places : List ℕ) → AreListed coming places → length places ≡ 0 → (q : ℕ) → at_place coming q ≡ None
none_listed coming places lists empty q = go (at_place coming q) refl
  where
    go : (o : Option ℕ) → at_place coming q ≡ o → at_place coming q ≡ None
    go None e = e
    go (Some b) e = absurd (let in_it = lists.listed q b e in omega (arith, in_it.1))

-- ---- what was taken at a place

pub taken_is : (old new : List (Option ℕ)) (k : ℕ) (o : Option ℕ) → IsTakenAt old new k o → o ≡ at_place old k
taken_is old new k None taken = sym taken.0
taken_is old new k (Some b) taken = sym taken.had

pub none_taken : (old new : List (Option ℕ)) (k : ℕ) (o : Option ℕ) → is_some o ≡ false → IsTakenAt old new k o → (at_place old k ≡ None) × (new ≡ old)
none_taken old new k None off taken = taken
none_taken old new k (Some b) off taken = cc

-- afterwards the place has no block, and nothing else was changed
pub taken_leaves : (old new : List (Option ℕ)) (k : ℕ) (o : Option ℕ) → IsTakenAt old new k o → (at_place new k ≡ None) × ((q : ℕ) → q ≢ k → at_place new q ≡ at_place old q) × (length new ≡ length old)
taken_leaves old new k None taken = (
  ap (λ l. at_place l k) taken.1 ∙ taken.0,
  λ q ne. ap (λ l. at_place l q) taken.1,
  ap length taken.1,
)
taken_leaves old new k (Some b) taken = (taken.gone, taken.others, taken.size)

-- ---- the tables

-- the needed block was taken out
pub Keeps-needed : (old new : Held) (place x : ℕ) (needs : List ℕ) (held : ℕ → Bool) (o : Option ℕ) → Keeps old place (x ∷ needs) held → IsTakenAt old.coming.items new.coming.items place o → new.places ≡ old.places → new.never ≡ old.never → Keeps new (place + 1) needs (except held x)
Keeps-needed old new place x needs held o keeps taken places never =
    let leaves = taken_leaves old.coming.items new.coming.items place o taken in
    record {
      kept =
          subst (λ s. IsKept (at_place new.coming.items) (sorted.contains nat_cmp s) (place + 1) needs (except held x)) (sym never)
          (IsKept-needed (at_place old.coming.items) (sorted.contains nat_cmp old.never) place x needs held keeps.kept (at_place new.coming.items) leaves.0 leaves.1);
      lists =
          subst (λ s. AreListed new.coming.items (heap_items s)) (sym places)
          (AreListed-emptied old.coming.items new.coming.items (heap_items old.places) place keeps.lists leaves.0 leaves.1);
      whole = let size = leaves.2 in omega (arith, keeps.whole);
    }

-- the block at the greatest place was taken out
pub Keeps-latest : (old new : Held) (middle : List (Option ℕ)) (places rest : List ℕ) (k place : ℕ) (needs : List ℕ) (held : ℕ → Bool) (o : Option ℕ) → Keeps old place needs held → AreComing old → middle ≡ old.coming.items → AreListed old.coming.items places → IsUpperBound nat_cmp k places → IsPermutation places (k ∷ rest) → IsHeap nat_cmp rest → IsTakenAt middle new.coming.items k o → heap_items new.places ≡ rest → new.never ≡ old.never → is_some o ≡ true → MatchOption o ((b : ℕ) → held b ≡ false) (λ f. GoesFirst needs held f × Keeps new place needs (except held f))
Keeps-latest old new middle places rest k place needs held None keeps coming same lists bound moved heap taken is never some = cc
Keeps-latest old new middle places rest k place needs held (Some v) keeps coming same lists bound moved heap taken' is never some =
    let f = at_place old.coming.items in
    let n = sorted.contains nat_cmp old.never in
    let taken : IsEmptied old.coming.items new.coming.items k v = subst (λ l. IsEmptied l new.coming.items k v) same taken' in
    let greatest = latest_place old.coming.items places k lists bound in
    let emptied = AreListed-emptied old.coming.items new.coming.items places k lists taken.gone taken.others in (
      coming_first f n place needs held keeps.kept coming k v taken.had greatest,
      record {
        kept =
            subst (λ s. IsKept (at_place new.coming.items) (sorted.contains nat_cmp s) place needs (except held v)) (sym never)
            (IsKept-coming f n place needs held keeps.kept coming k v taken.had greatest (at_place new.coming.items) taken.gone taken.others);
        lists =
            subst (λ l. AreListed new.coming.items l) (sym is)
            (AreListed-popped new.coming.items places rest k emptied taken.gone moved heap);
        whole = taken.size ∙ keeps.whole;
      },
    )
