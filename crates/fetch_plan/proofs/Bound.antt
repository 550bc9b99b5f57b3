-- The plan of the leaving blocks is a plan, and no plan costs less.
use Rattle.std.proofs.Common.{◌≡◌, ℕ, ◌+◌, ◌≤◌, ◌<◌, Bool, true, false, not, ◌&&◌, List, [], ◌∷◌, length, Some, refl, sym, ◌∙◌, ap, subst, inl, inr, ◌⊎◌, arith, eqb, ltb, leb}
use Rattle.std.proofs.lemmas.Bool.{cases_Bool, eq-eqb, ne_eqb, or_cases, or_left, or_right, and_parts, and_from, not_from_true, not_from_false, ltb-true, ltb-false, leb-true, le-leb, false_from_ne_true}
use Rattle.fetch_plan.specs.Plans.{has, all_differ, without, one, count, new_count, after, first_to_go, farthest, leaving, leaves_from, leaves, is_plan, cost_from, cost, plan_from, plan_of}
use Rattle.fetch_plan.proofs.Counts.{one-false, differ_parts, count-none, count-all, count-without}
use Rattle.fetch_plan.proofs.Least.{IsFarthest, first_to_go-farthest, Leads, Leads-held, Leads-enters, Leads-leaves}

-- ---- the list without a block

pub has-without : (xs : List ℕ) (f b : ℕ) → has (without xs f) b ≡ true → has xs b ≡ true
has-without [] f b h = cc
has-without (x ∷ xs) f b h =
    elim (cases_Bool (eqb x f)) [
      | inl e ↦ or_right (eqb x b) (has xs b) (has-without xs f b (rw e at h))
      | inr ne ↦
          elim (or_cases (eqb x b) (has (without xs f) b) (rw ne at h)) [
            | inl here ↦ or_left (eqb x b) (has xs b) here
            | inr later ↦ or_right (eqb x b) (has xs b) (has-without xs f b later)
          ]
    ]

pub has-without-not : (xs : List ℕ) (f b : ℕ) → has xs b ≡ false → has (without xs f) b ≡ false
has-without-not xs f b h = false_from_ne_true (has (without xs f) b) (λ on. let e = has-without xs f b on in cc)

pub differ-without : (xs : List ℕ) (f : ℕ) → all_differ xs ≡ true → all_differ (without xs f) ≡ true
differ-without [] f d = refl
differ-without (x ∷ xs) f d =
    let parts = differ_parts x xs d in
    elim (cases_Bool (eqb x f)) [
      | inl e ↦ rw e (differ-without xs f parts.1)
      | inr ne ↦
          rw ne
          (and_from (not (has (without xs f) x)) (all_differ (without xs f)) (not_from_false (has (without xs f) x) (has-without-not xs f x parts.0)) (differ-without xs f parts.1))
    ]

length-count : (xs : List ℕ) → count (λ b. true) xs ≡ length xs
length-count xs = count-all (λ b. true) xs (λ b h. refl)

pub length-without : (xs : List ℕ) (f : ℕ) → all_differ xs ≡ true → has xs f ≡ true → length (without xs f) + 1 ≡ length xs
length-without xs f d h = omega (arith, count-without (λ b. true) xs f d h, length-count xs, length-count (without xs f))

count-zero : (p : ℕ → Bool) (xs : List ℕ) → ((b : ℕ) → has xs b ≡ true → p b ≡ false) → count p xs ≡ 0
count-zero p [] h = refl
count-zero p (x ∷ xs) h =
    let here : p x ≡ false = h x (or_left (eqb x x) (has xs x) (eq-eqb x x refl)) in
    let rest = count-zero p xs (λ b on. h b (or_right (eqb x b) (has xs b) on)) in
    omega (arith, one-false (p x) here, rest)

new_count-part : (xs ys : List ℕ) → ((b : ℕ) → has ys b ≡ true → has xs b ≡ true) → new_count xs ys ≡ 0
new_count-part xs ys h = count-zero (λ b. not (has xs b)) ys (λ b on. not_from_true (has xs b) (h b on))

-- ---- one need

module _ (blocks : ℕ) (needs S : List ℕ) (x : ℕ) where
  -- the blocks held after a need
  abbrev pub next : List ℕ
  next = after S x (leaving blocks S x needs)

  -- the block was held
  pub record IsHeld : Type 0 where
    pub held : has S x ≡ true
    pub same : next ≡ S

  -- it enters
  pub record Enters : Type 0 where
    pub absent : has S x ≡ false
    pub room : length S < blocks
    pub more : next ≡ x ∷ S

  -- it enters, and a block leaves
  pub record Replaces (f : ℕ) : Type 0 where
    pub absent : has S x ≡ false
    pub full : blocks ≤ length S
    pub far : IsFarthest needs S f
    pub more : next ≡ x ∷ without S f

  pub step_of : 1 ≤ blocks → IsHeld ⊎ (Enters ⊎ ((f : ℕ) × Replaces f))
  step_of some =
      elim (cases_Bool (has S x)) [
        | inl held ↦ inl (record { held = held; same = rw (held, held) refl })
        | inr absent ↦
            elim (cases_Bool (ltb (length S) blocks)) [
              | inl room ↦ inr (inl (record { absent = absent; room = ltb-true (length S) blocks room; more = rw (absent, room, absent) refl }))
              | inr full ↦ inr (inr (replaces S absent full refl))
            ]
      ]
    where
      replaces : (T : List ℕ) → has S x ≡ false → ltb (length S) blocks ≡ false → T ≡ S → (f : ℕ) × Replaces f
      replaces [] absent full e = absurd (let none : 0 ≡ length S = ap length e in omega (arith, ltb-false (length S) blocks full))
      replaces (s ∷ T) absent full e =
          let f = first_to_go needs s T in
          let far : IsFarthest needs S f = subst (λ l. IsFarthest needs l f) e (first_to_go-farthest needs s T) in
          let apart : x ≡ f → ⊥ = λ same. let on : has S x ≡ true = ap (has S) same ∙ far.held in cc in
          let choice : farthest needs S ≡ Some f = sym (ap (farthest needs) e) in (
            f,
            record {
              absent = absent;
              full = ltb-false (length S) blocks full;
              far = far;
              more = rw (absent, full, choice, absent, ne_eqb x f apart) refl;
            },
          )

  module _ (some : 1 ≤ blocks) (d : all_differ S ≡ true) where
    pub next-differ : all_differ next ≡ true
    next-differ =
        elim (step_of some) [
          | inl h ↦ ap all_differ h.same ∙ d
          | inr (inl e) ↦ ap all_differ e.more ∙ and_from (not (has S x)) (all_differ S) (not_from_false (has S x) e.absent) d
          | inr (inr r) ↦
              ap all_differ r.1.more
              ∙ and_from (not (has (without S r.0) x)) (all_differ (without S r.0)) (not_from_false (has (without S r.0) x) (has-without-not S r.0 x r.1.absent)) (differ-without S r.0 d)
        ]

    pub next-has : has next x ≡ true
    next-has =
        elim (step_of some) [
          | inl h ↦ ap (λ l. has l x) h.same ∙ h.held
          | inr (inl e) ↦ ap (λ l. has l x) e.more ∙ or_left (eqb x x) (has S x) (eq-eqb x x refl)
          | inr (inr r) ↦ ap (λ l. has l x) r.1.more ∙ or_left (eqb x x) (has (without S r.0) x) (eq-eqb x x refl)
        ]

    pub next-length : length S ≤ blocks → length next ≤ blocks
    next-length few =
        elim (step_of some) [
          | inl h ↦ omega (arith, ap length h.same)
          | inr (inl e) ↦ omega (arith, ap length e.more, e.room)
          | inr (inr r) ↦ omega (arith, ap length r.1.more, length-without S r.0 d r.1.far.held)
        ]

    -- a need costs one where it isn't held
    pub next-cost : new_count S next ≡ one (not (has S x))
    next-cost =
        elim (step_of some) [
          | inl h ↦ ap (new_count S) h.same ∙ new_count-part S S (λ b on. on) ∙ sym (ap (λ b. one (not b)) h.held)
          | inr (inl e) ↦ omega (arith, ap (new_count S) e.more, new_count-part S S (λ b on. on))
          | inr (inr r) ↦ omega (arith, ap (new_count S) r.1.more, new_count-part S (without S r.0) (has-without S r.0))
        ]

-- ---- all needs

-- the plan has at most so many different blocks at each need, and the need
pub is_plan-leaves : (blocks : ℕ) (xs S : List ℕ) → 1 ≤ blocks → all_differ S ≡ true → length S ≤ blocks → is_plan blocks xs (plan_from S xs (leaves_from blocks S xs)) ≡ true
is_plan-leaves blocks [] S some d few = refl
is_plan-leaves blocks (x ∷ xs) S some d few =
    let n = next blocks xs S x in
    let here =
    and_from (has n x) (all_differ n && leb (length n) blocks) (next-has blocks xs S x some d)
    (and_from (all_differ n) (leb (length n) blocks) (next-differ blocks xs S x some d) (le-leb (length n) blocks (next-length blocks xs S x some d few))) in
    and_from (has n x && (all_differ n && leb (length n) blocks)) (is_plan blocks xs (plan_from n xs (leaves_from blocks n xs))) here
    (is_plan-leaves blocks xs n some (next-differ blocks xs S x some d) (next-length blocks xs S x some d few))

pub least_from : (blocks : ℕ) (xs S D : List ℕ) (plan : List (List ℕ)) (m k : ℕ) → 1 ≤ blocks → all_differ S ≡ true → Leads xs S D m k → is_plan blocks xs plan ≡ true → cost_from S (plan_from S xs (leaves_from blocks S xs)) + m ≤ cost_from D plan + k
least_from blocks [] S D [] m k some d leads is = omega (arith, leads 0, count-none S, count-none D)
least_from blocks [] S D (c ∷ cs) m k some d leads is = cc
least_from blocks (x ∷ xs) S D [] m k some d leads is = cc
least_from blocks (x ∷ xs) S D (c ∷ cs) m k some d leads is =
    let n = next blocks xs S x in
    let parts = and_parts (has c x && (all_differ c && leb (length c) blocks)) (is_plan blocks xs cs) is in
    let has_it = and_parts (has c x) (all_differ c && leb (length c) blocks) parts.0 in
    let rest = and_parts (all_differ c) (leb (length c) blocks) has_it.1 in
    let few = leb-true (length c) blocks rest.1 in
    let dn = next-differ blocks xs S x some d in
    let paid = next-cost blocks xs S x some d in
    elim (step_of blocks xs S x some) [
      | inl h ↦
          let on : Leads xs n c m (k + new_count D c) = subst (λ l. Leads xs l c m (k + new_count D c)) (sym h.same) (Leads-held x xs S D c m k leads has_it.0 rest.0 d h.held) in
          let free : one (not (has S x)) ≡ 0 = ap (λ b. one (not b)) h.held in
          omega (arith, least_from blocks xs n c cs m (k + new_count D c) some dn on parts.1, paid, free)
      | inr (inl e) ↦
          let on : Leads xs n c (m + 1) (k + new_count D c) = subst (λ l. Leads xs l c (m + 1) (k + new_count D c)) (sym e.more) (Leads-enters x xs S D c m k leads has_it.0 rest.0 e.absent) in
          let dear : one (not (has S x)) ≡ 1 = ap (λ b. one (not b)) e.absent in
          omega (arith, least_from blocks xs n c cs (m + 1) (k + new_count D c) some dn on parts.1, paid, dear)
      | inr (inr r) ↦
          let on : Leads xs n c (m + 1) (k + new_count D c) = subst (λ l. Leads xs l c (m + 1) (k + new_count D c)) (sym r.1.more) (Leads-leaves x xs S D c m k leads has_it.0 rest.0 blocks r.0 d r.1.absent r.1.far r.1.full few) in
          let dear : one (not (has S x)) ≡ 1 = ap (λ b. one (not b)) r.1.absent in
          omega (arith, least_from blocks xs n c cs (m + 1) (k + new_count D c) some dn on parts.1, paid, dear)
    ]

-- no plan costs less
pub least : (blocks : ℕ) (needs : List ℕ) (plan : List (List ℕ)) → 1 ≤ blocks → is_plan blocks needs plan ≡ true → cost (plan_of needs (leaves blocks needs)) ≤ cost plan
least blocks needs plan some is = omega (arith, least_from blocks needs [] [] plan 0 0 some refl (λ t. omega arith) is)

pub is_plan-least : (blocks : ℕ) (needs : List ℕ) → 1 ≤ blocks → is_plan blocks needs (plan_of needs (leaves blocks needs)) ≡ true
is_plan-least blocks needs some = is_plan-leaves blocks needs [] some refl (omega arith)
