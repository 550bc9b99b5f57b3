-- Ranges by their first addresses, through each change of the map.
use Rattle.std.proofs.Common.{◌≡◌, ◌≢◌, ℕ, ◌+◌, ◌-◌, ◌^◌, ◌≤◌, ◌<◌, ◌⊎◌, inl, inr, max, Less, Equal, Option, Some, None, refl, sym, ◌∙◌, ap, arith}
use Rattle.std.proofs.lemmas.Bool.{cases_eq, cases_lt, false_from_ne_true}
use Rattle.std.proofs.lemmas.Map.Lookups.{exact_unsigned}
use Rattle.std.specs.Ordering.{is_eq, is_gt, nat_cmp}
use Rattle.std.specs.Cmp.{Equal-is, nat_cmp_is}
use Rattle.std.specs.Prelude.{false}
use Rattle.use_marks.specs.Ranges.{Covers, AreAddresses, IsForward, IsApart, IsBefore, SameCover, IsAbsorbing, Adds, Takes, IsReady, IsKept, IsSplit, IsRid, IsCut}

-- two keys that differ
pub keys_apart : (k q : ℕ) → (q ≡ k → ⊥) → is_eq (nat_cmp k q) ≡ false
keys_apart k q ne = false_from_ne_true (is_eq (nat_cmp k q)) (λ t. ne (sym (exact_unsigned k q ((Equal-is (nat_cmp k q)).0 t))))

-- one key has one range
pub one_last : (g : ℕ → Option ℕ) (k x y : ℕ) → g k ≡ Some x → g k ≡ Some y → x ≡ y
one_last g k x y e f = cc

-- what begins nowhere
pub nowhere : {A : Type 0} (g : ℕ → Option ℕ) (k x : ℕ) → g k ≡ Some x → g k ≡ None → A
nowhere g k x e f = let bad : Some x ≡ None = sym e ∙ f in cc

-- ---- one range takes in others

pub absorbing-start : (g : ℕ → Option ℕ) (first last : ℕ) → IsReady g first last → IsAbsorbing g g first last last
absorbing-start g first last r = record {
  here = r.here;
  addresses = r.addresses;
  forward = r.forward;
  apart = r.apart;
  grown = omega arith;
  kept = λ a c. inl c;
  back = λ a c. c;
  filled = λ a f t. record { first = first; last = last; found = r.here; from = f; to = t };
}

-- a key that was taken out
module _ (m n : ℕ → Option ℕ) (key : ℕ) (gone : n key ≡ None) (others : (q : ℕ) → q ≢ key → n q ≡ m q) where
  pub was : (q l : ℕ) → n q ≡ Some l → (m q ≡ Some l) × (q ≢ key)
  was q l e =
      let ne : q ≢ key = λ same. nowhere n key l (ap n (sym same) ∙ e) gone in
      (sym (others q ne) ∙ e, ne)

  pub absorbing-next : (g : ℕ → Option ℕ) (first last end to : ℕ) → IsAbsorbing g m first last end → m key ≡ Some to → first < key → key ≤ end + 1 → IsAbsorbing g n first last (max end to)
  absorbing-next g first last end to h at later touches = record {
    here = others first (λ e. omega arith) ∙ h.here;
    addresses = λ q l e. h.addresses q l (was q l e).0;
    forward = λ q l e. h.forward q l (was q l e).0;
    apart = λ q l next k ne e f. h.apart q l next k ne (was q l e).0 (was next k f).0;
    grown = omega (arith, h.grown);
    kept = λ a c. after a (h.kept a c);
    back = λ a c. h.back a (record { first = c.first; last = c.last; found = (was c.first c.last c.found).0; from = c.from; to = c.to });
    filled = λ a f t.
        elim (cases_lt end a) [
          | inl past ↦ h.back a (record { first = key; last = to; found = at; from = omega arith; to = omega arith })
          | inr within ↦ h.filled a f within
        ];
  }
    where
      after : (a : ℕ) → Covers m a ⊎ ((first ≤ a) × (a ≤ end)) → Covers n a ⊎ ((first ≤ a) × (a ≤ max end to))
      after a (inr p) = inr (p.0, omega (arith, p.1))
      after a (inl c) =
          elim (cases_eq c.first key) [
            | inl same ↦
                let f : m key ≡ Some c.last = ap m (sym same) ∙ c.found in
                inr (omega (arith, c.from), omega (arith, c.to, one_last m key c.last to f at))
            | inr ne ↦ inl (record { first = c.first; last = c.last; found = others c.first ne ∙ c.found; from = c.from; to = c.to })
          ]

-- the range gets its end
module _ (g m h : ℕ → Option ℕ) (first last end : ℕ) (at : IsAbsorbing g m first last end) (below : end < 2 ^ 64) (none : (q l : ℕ) → m q ≡ Some l → first < q → end + 1 < q) (here : h first ≡ Some end) (others : (q : ℕ) → q ≢ first → h q ≡ m q) where
  had : (q l : ℕ) → q ≢ first → h q ≡ Some l → m q ≡ Some l
  had q l ne e = sym (others q ne) ∙ e

  pub absorbed-addresses : AreAddresses h
  absorbed-addresses q l e =
      elim (cases_eq q first) [
        | inl same ↦
            let f : h first ≡ Some l = ap h (sym same) ∙ e in
            omega (arith, one_last h first l end f here)
        | inr ne ↦ at.addresses q l (had q l ne e)
      ]

  pub absorbed-forward : IsForward h
  absorbed-forward q l e =
      elim (cases_eq q first) [
        | inl same ↦
            let f : h first ≡ Some l = ap h (sym same) ∙ e in
            omega (arith, one_last h first l end f here, at.forward first last at.here, at.grown)
        | inr ne ↦ at.forward q l (had q l ne e)
      ]

  pub absorbed-apart : IsApart h
  absorbed-apart q l next k e f less =
      elim (cases_eq q first) [
        | inl same ↦
            let f' : h first ≡ Some l = ap h (sym same) ∙ e in
            let ne : next ≢ first = λ s. omega arith in
            omega (arith, one_last h first l end f' here, none next k (had next k ne f) (omega arith))
        | inr ne ↦
            elim (cases_eq next first) [
              | inl same ↦ let p = at.apart q l first last ne (had q l ne e) at.here (omega arith) in omega (arith, p)
              | inr apart ↦ at.apart q l next k ne (had q l ne e) (had next k apart f) less
            ]
      ]

  pub absorbed-same : SameCover g h
  absorbed-same = record { forth = λ a c. forth a (at.kept a c); back = back }
    where
      forth : (a : ℕ) → Covers m a ⊎ ((first ≤ a) × (a ≤ end)) → Covers h a
      forth a (inr p) = record { first = first; last = end; found = here; from = p.0; to = p.1 }
      forth a (inl c) =
          elim (cases_eq c.first first) [
            | inl same ↦
                let f : m first ≡ Some c.last = ap m (sym same) ∙ c.found in
                record { first = first; last = end; found = here; from = omega (arith, c.from); to = omega (arith, c.to, one_last m first c.last last f at.here, at.grown) }
            | inr ne ↦ record { first = c.first; last = c.last; found = others c.first ne ∙ c.found; from = c.from; to = c.to }
          ]

      back : (a : ℕ) → Covers h a → Covers g a
      back a c =
          elim (cases_eq c.first first) [
            | inl same ↦
                let f : h first ≡ Some c.last = ap h (sym same) ∙ c.found in
                at.filled a (omega (arith, c.from)) (omega (arith, c.to, one_last h first c.last end f here))
            | inr ne ↦ at.back a (record { first = c.first; last = c.last; found = had c.first c.last ne c.found; from = c.from; to = c.to })
          ]

-- a number up to another, as an order says it
pub up_to : (q here : ℕ) → q ≤ here → is_gt (nat_cmp q here) ≡ false
up_to q here le =
    elim (cases_eq q here) [
      | inl same ↦ sym (ap is_gt (nat_cmp_is q here Equal same))
      | inr ne ↦ sym (ap is_gt (nat_cmp_is q here Less (omega (arith, ne))))
    ]

-- ---- a range is added

module _ (g h : ℕ → Option ℕ) (first last from to : ℕ) (kept : IsKept g) (b : IsBefore g first from to) (reaches : first - 1 ≤ to) (forward : first ≤ last) (below : last < 2 ^ 64) (here : h from ≡ Some (max to last)) (others : (q : ℕ) → q ≢ from → h q ≡ g q) where
  joined-was : (q l : ℕ) → q ≢ from → h q ≡ Some l → g q ≡ Some l
  joined-was q l ne e = sym (others q ne) ∙ e

  pub joined-ready : IsReady h from (max to last)
  joined-ready = record {
    here = here;
    addresses = λ q l e.
        elim (cases_eq q from) [
          | inl same ↦
              let f : h from ≡ Some l = ap h (sym same) ∙ e in
              omega (arith, one_last h from l (max to last) f here, kept.addresses from to b.found)
          | inr ne ↦ kept.addresses q l (joined-was q l ne e)
        ];
    forward = λ q l e.
        elim (cases_eq q from) [
          | inl same ↦
              let f : h from ≡ Some l = ap h (sym same) ∙ e in
              omega (arith, one_last h from l (max to last) f here, kept.forward from to b.found)
          | inr ne ↦ kept.forward q l (joined-was q l ne e)
        ];
    apart = λ q l next k ne e f less.
        elim (cases_eq next from) [
          | inl same ↦ let p = kept.apart q l from to (joined-was q l ne e) b.found (omega arith) in omega (arith, p)
          | inr other ↦ kept.apart q l next k (joined-was q l ne e) (joined-was next k other f) less
        ];
  }

  joined-forth : (a : ℕ) → Covers g a → Covers h a
  joined-forth a c =
      elim (cases_eq c.first from) [
        | inl same ↦
            let f : g from ≡ Some c.last = ap g (sym same) ∙ c.found in
            record { first = from; last = max to last; found = here; from = omega (arith, c.from); to = omega (arith, c.to, one_last g from c.last to f b.found) }
        | inr ne ↦ record { first = c.first; last = c.last; found = others c.first ne ∙ c.found; from = c.from; to = c.to }
      ]

  joined-back : (a : ℕ) → Covers h a → Covers g a ⊎ ((first ≤ a) × (a ≤ last))
  joined-back a c =
      elim (cases_eq c.first from) [
        | inl same ↦
            let f : h from ≡ Some c.last = ap h (sym same) ∙ c.found in
            let end : c.last ≡ max to last = one_last h from c.last (max to last) f here in
            elim (cases_lt to a) [
              | inl past ↦ inr (omega (arith, reaches), omega (arith, c.to, end))
              | inr within ↦ inl (record { first = from; last = to; found = b.found; from = omega (arith, c.from); to = within })
            ]
        | inr ne ↦ inl (record { first = c.first; last = c.last; found = joined-was c.first c.last ne c.found; from = c.from; to = c.to })
      ]

  pub joined-adds : (n : ℕ → Option ℕ) → SameCover h n → Adds g first last n
  joined-adds n same = record {
    kept = λ a c. same.forth a (joined-forth a c);
    added = λ a f t. same.forth a (record { first = from; last = max to last; found = here; from = omega (arith, b.up_to); to = omega arith });
    back = λ a c. joined-back a (same.back a c);
  }

module _ (g h : ℕ → Option ℕ) (first last : ℕ) (kept : IsKept g) (none : (q l : ℕ) → g q ≡ Some l → q ≤ first → l < first - 1) (forward : first ≤ last) (below : last < 2 ^ 64) (here : h first ≡ Some last) (others : (q : ℕ) → q ≢ first → h q ≡ g q) where
  begun-was : (q l : ℕ) → q ≢ first → h q ≡ Some l → g q ≡ Some l
  begun-was q l ne e = sym (others q ne) ∙ e

  pub begun-ready : IsReady h first last
  begun-ready = record {
    here = here;
    addresses = λ q l e.
        elim (cases_eq q first) [
          | inl same ↦ let f : h first ≡ Some l = ap h (sym same) ∙ e in omega (arith, one_last h first l last f here)
          | inr ne ↦ kept.addresses q l (begun-was q l ne e)
        ];
    forward = λ q l e.
        elim (cases_eq q first) [
          | inl same ↦ let f : h first ≡ Some l = ap h (sym same) ∙ e in omega (arith, one_last h first l last f here)
          | inr ne ↦ kept.forward q l (begun-was q l ne e)
        ];
    apart = λ q l next k ne e f less.
        elim (cases_eq next first) [
          | inl same ↦ let p = none q l (begun-was q l ne e) (omega arith) in omega (arith, p)
          | inr other ↦ kept.apart q l next k (begun-was q l ne e) (begun-was next k other f) less
        ];
  }

  begun-forth : (a : ℕ) → Covers g a → Covers h a
  begun-forth a c =
      elim (cases_eq c.first first) [
        | inl same ↦ let p = none c.first c.last c.found (omega arith) in let q = kept.forward c.first c.last c.found in absurd (omega (arith, p, q))
        | inr ne ↦ record { first = c.first; last = c.last; found = others c.first ne ∙ c.found; from = c.from; to = c.to }
      ]

  begun-back : (a : ℕ) → Covers h a → Covers g a ⊎ ((first ≤ a) × (a ≤ last))
  begun-back a c =
      elim (cases_eq c.first first) [
        | inl same ↦
            let f : h first ≡ Some c.last = ap h (sym same) ∙ c.found in
            inr (omega (arith, c.from), omega (arith, c.to, one_last h first c.last last f here))
        | inr ne ↦ inl (record { first = c.first; last = c.last; found = begun-was c.first c.last ne c.found; from = c.from; to = c.to })
      ]

  pub begun-adds : (n : ℕ → Option ℕ) → SameCover h n → Adds g first last n
  begun-adds n same = record {
    kept = λ a c. same.forth a (begun-forth a c);
    added = λ a f t. same.forth a (record { first = first; last = last; found = here; from = f; to = t });
    back = λ a c. begun-back a (same.back a c);
  }

-- ---- a range is taken away

-- no range there
pub none_there : (m : ℕ → Option ℕ) (q : ℕ) → ((l : ℕ) → m q ≡ Some l → ⊥) → m q ≡ None
none_there m q never = by_value (m q) refl
  where
    by_value : (o : Option ℕ) → m q ≡ o → m q ≡ None
    by_value (Some l) e = absurd (never l e)
    by_value None e = e

-- from which range what is left comes
data Source (g : ℕ → Option ℕ) (first last q l : ℕ) : Type 0 where
  Low : (to : ℕ) → q < first → l < first → q ≤ l → l ≤ to → g q ≡ Some to → Source g first last q l
  High : last < q → g q ≡ Some l → Source g first last q l
  Tail : (p : ℕ) → q ≡ last + 1 → g p ≡ Some l → p ≤ last → last < l → Source g first last q l

module _ (g s r h : ℕ → Option ℕ) (first last : ℕ) (forward : first ≤ last) (kept : IsKept g) (split : IsSplit g s last) (rid : IsRid s r first last) (cut : IsCut r h first) where
  low_same : (q : ℕ) → q < first → r q ≡ g q
  low_same q less = rid.below q less ∙ split.same q (λ e. omega arith)

  high_same : (q : ℕ) → last < q → h q ≡ s q
  high_same q more = cut.above q (omega arith) ∙ rid.above q more

  source : (q l : ℕ) → h q ≡ Some l → Source g first last q l
  source q l e =
      elim (cases_lt q first) [
        | inl less ↦ low less (cut.back q l less e)
        | inr some ↦
            elim (cases_lt last q) [
              | inl more ↦ high more (sym (high_same q more) ∙ e)
              | inr within ↦ nowhere r q l (sym (cut.above q some) ∙ e) (rid.gone q some within)
            ]
      ]
    where
      low : q < first → (l < first) × ((to : ℕ) × (r q ≡ Some to) × (l ≤ to) × ((l ≡ to) ⊎ (l + 1 ≡ first))) → Source g first last q l
      low less (short, (to, at, le, inl same)) =
          let was : g q ≡ Some to = sym (low_same q less) ∙ at in
          Low to less short (omega (arith, kept.forward q to was)) le was
      low less (short, (to, at, le, inr end)) =
          let was : g q ≡ Some to = sym (low_same q less) ∙ at in
          Low to less short (omega arith) le was

      tail : q ≡ last + 1 → (g (last + 1) ≡ Some l) ⊎ ((p : ℕ) × (g p ≡ Some l) × (p ≤ last) × (last < l)) → Source g first last q l
      tail same (inl at) = High (omega arith) (ap g same ∙ at)
      tail same (inr (p, at, le, more)) = Tail p same at le more

      high : last < q → s q ≡ Some l → Source g first last q l
      high more at =
          elim (cases_eq q (last + 1)) [
            | inl same ↦ tail same (split.back l (ap s (sym same) ∙ at))
            | inr ne ↦ High more (sym (split.same q ne) ∙ at)
          ]

  taken-addresses : AreAddresses h
  taken-addresses q l e = by_source (source q l e)
    where
      by_source : Source g first last q l → l < 2 ^ 64
      by_source (Low to less short le more at) = omega (arith, kept.addresses q to at)
      by_source (High more at) = kept.addresses q l at
      by_source (Tail p same at le more) = kept.addresses p l at

  taken-forward : IsForward h
  taken-forward q l e = by_source (source q l e)
    where
      by_source : Source g first last q l → q ≤ l
      by_source (Low to less short le more at) = le
      by_source (High more at) = kept.forward q l at
      by_source (Tail p same at le more) = omega arith

  taken-apart : IsApart h
  taken-apart q l next k e f less = by_sources (source q l e) (source next k f)
    where
      by_sources : Source g first last q l → Source g first last next k → l + 1 < next
      by_sources (Low to a b c d at) (Low to' a' b' c' d' at') = let p = kept.apart q to next to' at at' less in omega arith
      by_sources (Low to a b c d at) (High a' at') = omega arith
      by_sources (Low to a b c d at) (Tail p same at' le more) = omega arith
      by_sources (High a at) (Low to' a' b' c' d' at') = absurd (omega arith)
      by_sources (High a at) (High a' at') = kept.apart q l next k at at' less
      by_sources (High a at) (Tail p same at' le more) = absurd (omega arith)
      by_sources (Tail p same at le more) (Low to' a' b' c' d' at') = absurd (omega arith)
      by_sources (Tail p same at le more) (High a' at') = kept.apart p l next k at at' (omega arith)
      by_sources (Tail p same at le more) (Tail p' same' at' le' more') = absurd (omega arith)

  pub taken-kept : IsKept h
  taken-kept = record { addresses = taken-addresses; forward = taken-forward; apart = taken-apart }

  pub taken-takes : Takes g first last h
  taken-takes = record { kept = λ a c out. stays a c out; taken = λ a c. out a c (source c.first c.last c.found); back = λ a c. back a c (source c.first c.last c.found) }
    where
      out : (a : ℕ) (c : Covers h a) → Source g first last c.first c.last → (a < first) ⊎ (last < a)
      out a c (Low to x y z u at) = let t = c.to in inl (omega arith)
      out a c (High x at) = let f = c.from in inr (omega arith)
      out a c (Tail p same at le more) = let f = c.from in inr (omega arith)

      back : (a : ℕ) (c : Covers h a) → Source g first last c.first c.last → Covers g a
      back a c (Low to x y z u at) = let t = c.to in record { first = c.first; last = to; found = at; from = c.from; to = omega arith }
      back a c (High x at) = record { first = c.first; last = c.last; found = at; from = c.from; to = c.to }
      back a c (Tail p same at le more) = let f = c.from in record { first = p; last = c.last; found = at; from = omega arith; to = c.to }

      stays : (a : ℕ) → Covers g a → (a < first) ⊎ (last < a) → Covers h a
      stays a c (inl less) =
          let f = c.from in
          let at : r c.first ≡ Some c.last = low_same c.first (omega arith) ∙ c.found in
          elim (cases_lt c.last first) [
            | inl short ↦ record { first = c.first; last = c.last; found = cut.short c.first c.last at short; from = c.from; to = c.to }
            | inr far ↦ record { first = c.first; last = first - 1; found = cut.cut c.first c.last (omega arith) at far; from = c.from; to = omega arith }
          ]
      stays a c (inr more) =
          let t = c.to in
          elim (cases_lt last c.first) [
            | inl past ↦
                elim (cases_eq c.first (last + 1)) [
                  | inl same ↦
                      let at : g (last + 1) ≡ Some c.last = ap g (sym same) ∙ c.found in
                      record { first = last + 1; last = c.last; found = high_same (last + 1) (omega arith) ∙ split.kept c.last at; from = omega arith; to = c.to }
                  | inr ne ↦ record { first = c.first; last = c.last; found = high_same c.first past ∙ (split.same c.first ne ∙ c.found); from = c.from; to = c.to }
                ]
            | inr within ↦
                record { first = last + 1; last = c.last; found = high_same (last + 1) (omega arith) ∙ split.split c.first c.last c.found within (omega arith); from = omega arith; to = c.to }
          ]
