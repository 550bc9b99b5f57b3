use Rattle.std.proofs.Common.{◌≡◌, ◌∙◌, ap, sym, subst, true, false, [], ◌∷◌, ◌++◌, length, get_or, ◌+◌, arith}
use Rattle.std.proofs.lemmas.List.{get_or_past, get_or-set_same, get_or-set_other}
use Rattle.page_pool.specs.Frames.{IsTaken}
use Rattle.page_pool.specs.declared.pool.Pool.TheInside.{Inside}
use Rattle.page_pool.specs.contracts.pool.Pool.{the_view}
use Rattle.page_pool.proofs.PoolLemmas.{is_taken, is_free, pushed-at, pushed-other, few_in_use}
use Rattle.page_pool.proofs.pool.Pool.take.Goals.{then-self-len, else-self-len+in_ok-number}
use Rattle.page_pool.proofs.pool.Pool.take.Goals as goal

pub returns-clause-taken : goal.returns-clause-taken
returns-clause-taken c =
    let p = c.self.inside in
    let s = c.if-self-len.self-inside in
    let k = c.if-self-len.number in
    let q : Inside = record { most = s.most; used = s.used; in_use = s.in_use + 1; total = s.total; next = k + 1; pages = s.pages } in
    let less = few_in_use p c.self.invariant c.if-self.false in
    subst (λ view. IsTaken view (the_view q) k) c.self.view_is (elim c.if-self-len.branch [
      | then-self-len w ↦
          let items : s.used.items ≡ p.used.items ++ true ∷ [] = ap (λ t. t.used.items) w.self-inside-is ∙ w.push_reserved.ensures.items in
          let last : k ≡ length p.used.items = omega (arith, w.number-is, w.if-self-len.true, c.len.ensures, p.used.ok.0) in
          is_taken p q k c.self.invariant (get_or_past p.used.items k false (omega (arith, last)))
          (ap (λ used. get_or used k false) items ∙ pushed-at p.used.items k last)
          (λ i apart. ap (λ used. get_or used i false) items ∙ pushed-other p.used.items k i last apart)
          (ap (λ t. t.pages.pages) w.self-inside-is) (ap (λ t. t.in_use + 1) w.self-inside-is) (ap (λ t. t.total) w.self-inside-is) (ap (λ t. t.most) w.self-inside-is) less
      | else-self-len+in_ok-number w ↦
          let n = w.in_ok-number.number in
          let free = is_free p.used.items n (subst (λ used. get_or used n true ≡ false) w.deref.ensures.value w.in_ok-number.ensures.some) in
          let items = ap (λ t. t.used.items) w.self-inside-is in
          subst (λ m. IsTaken (the_view p) (the_view q) m) (sym w.number-is) (is_taken p q n c.self.invariant free.1
          (ap (λ used. get_or used n false) items ∙ get_or-set_same p.used.items n true false free.0)
          (λ i apart. ap (λ used. get_or used i false) items ∙ get_or-set_other p.used.items n i true false apart)
          (ap (λ t. t.pages.pages) w.self-inside-is) (ap (λ t. t.in_use + 1) w.self-inside-is) (ap (λ t. t.total) w.self-inside-is) (ap (λ t. t.most) w.self-inside-is) less)
    ])
