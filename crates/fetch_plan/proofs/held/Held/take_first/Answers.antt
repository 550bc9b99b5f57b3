use Rattle.std.proofs.Common.{◌≡◌, ℕ, ◌<◌, length, [], ◌∷◌, refl, subst, true, false, List, ap, sym, ◌∙◌, arith}
use Rattle.std.specs.BTreeSet as sorted
use Rattle.std.specs.Ordering.{nat_cmp}
use Rattle.std.specs.List.{list_any}
use Rattle.std.specs.BTreeMap.{is_at}
use Rattle.std.proofs.lemmas.Map.Keys.{le_from_not_gt}
use Rattle.fetch_plan.specs.Kept.{IsKept}
use Rattle.fetch_plan.specs.Coming.{at_place}
use Rattle.fetch_plan.proofs.Keeping.{keys_apart, never_first, IsKept-never}
use Rattle.fetch_plan.proofs.held.Held.take_first.Goals as goal

pub returns-in-Some : goal.returns-in-Some
returns-in-Some c = λ place needs held keeps.
    let f = at_place c.args.self.now.coming.items in
    let n = sorted.contains nat_cmp c.args.self.now.never in
    let m = sorted.contains nat_cmp c.pop_first.new.self in
    let k = c.in-Some.block in
    let e = c.in-Some.ensures in
    let least = λ (q : ℕ) (on : n q ≡ true). le_from_not_gt k q (e.least q on) in (
      never_first f n place needs held keeps.kept k e.member least,
      record {
        kept = IsKept-never f n place needs held keeps.kept k e.member least m e.updates.1 (λ q ne. e.updates.2 q (keys_apart k q ne));
        lists = keeps.lists;
        whole = keeps.whole;
      },
    )

empty_list : {A : Type 0} (xs : List A) → (0 < length xs → false ≡ true) → xs ≡ []
empty_list [] h = refl
empty_list (x ∷ xs) h = let bad : false ≡ true = h (omega arith) in cc

-- with no keys
has_none : (ks : List ℕ) (b : ℕ) → ks ≡ [] → list_any (is_at (nat_cmp b)) ks ≡ false
has_none ks b e = ap (list_any (is_at (nat_cmp b))) e

pub returns-in-None : goal.returns-in-None
returns-in-None c = λ place needs held keeps.
    let f = at_place c.args.self.now.coming.items in
    let e = c.in-None.ensures in
    let none = empty_list c.args.self.now.never.keys e.variant.1 in
    let kept = subst (λ ks. IsKept f (λ b. list_any (is_at (nat_cmp b)) ks) place needs held) (sym e.unchanged) keeps.kept in
    c.take_latest.ensures place needs held (record { kept = kept; lists = keeps.lists; whole = keeps.whole })
    (λ b. has_none c.pop_first.new.self.keys b (e.unchanged ∙ none))
