-- One need met by the tables.
use Rattle.std.proofs.Common.{◌≡◌, ℕ, ◌≤◌, Bool, true, false, not, ◌&&◌, ◌||◌, List, [], ◌∷◌, length, Option, Some, refl, sym, ◌∙◌, ap, subst, inl, inr, arith, eqb}
use Rattle.std.proofs.lemmas.Bool.{cases_eq, eqb-true, eq-eqb, ne_eqb, or_left, and_parts, and_from, not_from_false, le-ltb}
use Rattle.fetch_plan.specs.Plans.{has, all_differ, without, leaving, after, farthest, first_to_go}
use Rattle.fetch_plan.specs.Kept.{IsKept, GoesFirst, except, also}
use Rattle.fetch_plan.proofs.Least.{IsFarthest, IsFarthest-same, first_to_go-farthest}
use Rattle.fetch_plan.proofs.Bound.{length-without}
use Rattle.fetch_plan.proofs.Keeping.{IsKept-same}

pub has-without-is : (xs : List ℕ) (f b : ℕ) → has (without xs f) b ≡ (has xs b && not (eqb f b))
has-without-is [] f b = refl
has-without-is (x ∷ xs) f b =
    elim (cases_eq x f) [
      | inl e ↦
          rw (eq-eqb x f e)
          (has-without-is xs f b ∙ same (eqb x b) (has xs b) (eqb f b) (ap (λ n. eqb n b) e))
      | inr ne ↦ rw (ne_eqb x f ne) (ap (λ h. eqb x b || h) (has-without-is xs f b) ∙ other (eqb x b) (has xs b) (eqb f b) (λ t. apart x f b ne t))
    ]
  where
    same : (p h q : Bool) → p ≡ q → (h && not q) ≡ ((p || h) && not q)
    same true h true e = false_and h
      where
        false_and : (h : Bool) → (h && false) ≡ false
        false_and true = refl
        false_and false = refl
    same true h false e = cc
    same false h q e = refl

    other : (p h q : Bool) → (p ≡ true → q ≡ false) → (p || (h && not q)) ≡ ((p || h) && not q)
    other true h q e = rw (e refl) refl
    other false h q e = refl

    apart : (x f b : ℕ) → (x ≡ f → ⊥) → eqb x b ≡ true → eqb f b ≡ false
    apart x f b ne t = ne_eqb f b (λ e. ne (eqb-true x b t ∙ sym e))

-- the farthest block is the one that goes first
pub farthest-is : (needs S : List ℕ) (f : ℕ) → IsFarthest needs S f → farthest needs S ≡ Some f
farthest-is needs [] f far = let none = far.held in cc
farthest-is needs (s ∷ T) f far = ap Some (IsFarthest-same needs (s ∷ T) (first_to_go needs s T) f (first_to_go-farthest needs s T) far)

module _ (blocks x : ℕ) (needs S : List ℕ) (absent : has S x ≡ false) (full : blocks ≤ length S) where
  except_absent : (b : ℕ) → has S b ≡ true → x ≡ b → ⊥
  except_absent b on e = let same : has S x ≡ has S b = ap (has S) e in cc

  pub someone : 1 ≤ blocks → ((b : ℕ) → except (has S) x b ≡ false) → ⊥
  someone some none = go S refl
    where
      go : (T : List ℕ) → S ≡ T → ⊥
      go [] e = let n : length S ≡ 0 = ap length e in omega arith
      go (s ∷ T) e =
          let on : has S s ≡ true = ap (λ l. has l s) e ∙ or_left (eqb s s) (has T s) (eq-eqb s s refl) in
          let yes = and_from (has S s) (not (eqb x s)) on (not_from_false (eqb x s) (ne_eqb x s (except_absent s on))) in
          let no_s = none s in
          cc

  module _ (f : ℕ) (goes : GoesFirst needs (except (has S) x) f) where
    is_farthest : IsFarthest needs S f
    is_farthest = record {
      held = (and_parts (has S f) (not (eqb x f)) goes.is_held).0;
      latest = λ c on. goes.latest c (and_from (has S c) (not (eqb x c)) on (not_from_false (eqb x c) (ne_eqb x c (except_absent c on))));
      lowest = λ c on. goes.lowest c (and_from (has S c) (not (eqb x c)) on (not_from_false (eqb x c) (ne_eqb x c (except_absent c on))));
    }

    pub leaving-full : leaving blocks S x needs ≡ Some f
    leaving-full = rw (absent, le-ltb (length S) blocks full) (farthest-is needs S f is_farthest)

    pub after-full : after S x (leaving blocks S x needs) ≡ x ∷ without S f
    after-full =
        ap (after S x) leaving-full ∙ rw (absent, ne_eqb x f (except_absent f is_farthest.held)) refl

    pub length-full : all_differ S ≡ true → length (after S x (leaving blocks S x needs)) ≡ length S
    length-full d = omega (arith, ap length after-full, length-without S f d is_farthest.held)

    pub kept-full : (g : ℕ → Option ℕ) (m : ℕ → Bool) (place : ℕ) → IsKept g m place needs (except (except (has S) x) f) → IsKept g m place needs (except (has (after S x (leaving blocks S x needs))) x)
    kept-full g m place kept =
        subst (λ l. IsKept g m place needs (except (has l) x)) (sym after-full)
        (IsKept-same g m place needs (except (except (has S) x) f) (except (has (x ∷ without S f)) x) same kept)
      where
        three : (p h q : Bool) → ((h && not p) && not q) ≡ ((p || (h && not q)) && not p)
        three true true q = refl
        three true false q = refl
        three false true true = refl
        three false true false = refl
        three false false q = refl

        same : (b : ℕ) → except (except (has S) x) f b ≡ except (has (x ∷ without S f)) x b
        same b = three (eqb x b) (has S b) (eqb f b) ∙ ap (λ h. (eqb x b || h) && not (eqb x b)) (sym (has-without-is S f b))

-- the block is put beside the others
pub kept-put : (f : ℕ → Option ℕ) (n : ℕ → Bool) (place x : ℕ) (needs S : List ℕ) → has S x ≡ true → IsKept f n place needs (also (except (has S) x) x) → IsKept f n place needs (has S)
kept-put f n place x needs S on kept = IsKept-same f n place needs (also (except (has S) x) x) (has S) same kept
  where
    same : (b : ℕ) → also (except (has S) x) x b ≡ has S b
    same b =
        elim (cases_eq x b) [
          | inl e ↦ rw (eq-eqb x b e) (sym (sym (ap (has S) e) ∙ on))
          | inr ne ↦ rw (ne_eqb x b ne) (and_true (has S b))
        ]
      where
        and_true : (h : Bool) → (h && true) ≡ h
        and_true true = refl
        and_true false = refl

pub except-self : (h : ℕ → Bool) (x : ℕ) → except h x x ≡ false
except-self h x = rw (eq-eqb x x refl) (and_false (h x))
  where
    and_false : (h : Bool) → (h && false) ≡ false
    and_false true = refl
    and_false false = refl
