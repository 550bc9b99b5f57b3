-- A buffer that gains a jump is still code.
use Rattle.std.proofs.Common.{◌≡◌, ℕ, ◌<◌, List, [], ◌∷◌, ◌++◌, arith, sym, subst}
use Rattle.std.specs.List.{All}
use Rattle.std.proofs.lemmas.List.Elements.{All-nil, All-head, All-tail, All-push, All-weaker, All-same}
use Rattle.rv_encode.specs.Code.{IsJump}
use Rattle.rv_encode.specs.Resolved.{Ascend}
use Rattle.rv_encode.specs.declared.closing.Use.{Use}

-- the uses us with one more, over words that are one more
pub jumps-push : (us vs : List Use) (u : Use) → vs ≡ us ++ u ∷ [] → All (λ u. IsJump u.instr) us → IsJump u.instr → All (λ u. IsJump u.instr) vs
jumps-push us vs u e h p = All-same (λ u. IsJump u.instr) vs _ e (All-push (λ u. IsJump u.instr) us u h p)

pub within-push : (us vs : List Use) (u : Use) (n m : ℕ) → vs ≡ us ++ u ∷ [] → All (λ u. u.at < n) us → n < m → u.at < m → All (λ u. u.at < m) vs
within-push us vs u n m e h l p = All-same (λ u. u.at < m) vs _ e (All-push (λ u. u.at < m) us u (All-weaker (λ u. u.at < n) (λ u. u.at < m) (λ x q. omega arith) us h) p)

pub labels-push : (us vs : List Use) (u : Use) (n : ℕ) → vs ≡ us ++ u ∷ [] → All (λ u. u.to < n) us → u.to < n → All (λ u. u.to < n) vs
labels-push us vs u n e h p = All-same (λ u. u.to < n) vs _ e (All-push (λ u. u.to < n) us u h p)

pub ascend-append : (us : List Use) (u : Use) → Ascend us → All (λ v. v.at < u.at) us → Ascend (us ++ u ∷ [])
ascend-append [] u a h = (All-nil (λ v. u.at < v.at), tt)
ascend-append (v ∷ us) u a h =
    (All-push (λ w. v.at < w.at) us u a.0 (All-head (λ v. v.at < u.at) v us h), ascend-append us u a.1 (All-tail (λ v. v.at < u.at) v us h))

pub ascend-push : (us vs : List Use) (u : Use) (n : ℕ) → vs ≡ us ++ u ∷ [] → Ascend us → All (λ u. u.at < n) us → n ≡ u.at → Ascend vs
ascend-push us vs u n e a h same = subst Ascend (sym e) (ascend-append us u a (subst (λ m. All (λ v. v.at < m) us) same h))
