-- Regions get copies in order: after some of them the copies that are left to make come to the same.
use Rattle.std.proofs.Common.{◌≡◌, ◌≢◌, ℕ, zero, suc, ◌+◌, ◌-◌, ◌<◌, ◌≤◌, Bool, true, false, ◌==◌, List, [], ◌∷◌, length, eq-eqb, refl, ap, sym, ◌∙◌, arith}
use Rattle.std.proofs.lemmas.Bool.Decides.{nat_tests}
use Rattle.spec_base.specs.declared.layout.Layout.{Layout}
use Rattle.rv_model.specs.Memory.{Memory}
use Rattle.rv_model.specs.Space.{Space}
use Rattle.code_model.specs.Regions.{entry_of, slots_in_use, with_copy, with_copies, uncopied}
use Rattle.code_model.specs.Tables.{AreConsistent, all_regions}
use Rattle.cow_regions.specs.Tables.{KeepsSlots}
use Rattle.cow_regions.proofs.Copies.{consistent-next, count-next, entry-new, entry-other}

-- ---- regions without a copy

pub nonzero : (e : ℕ) → (e == 0) ≡ false → 0 < e
nonzero e h = grind (arith, nat_tests)

pub iszero : (e : ℕ) → (e == 0) ≡ true → e ≡ 0
iszero e h = grind (arith, nat_tests)

module _ (s : Memory) (region n k : ℕ) (more : k ≡ suc n) where
  abbrev by_test : Bool → List ℕ
  by_test b = elim b [ true ↦ region ∷ uncopied s (region + 1) n | false ↦ uncopied s (region + 1) n ]

  pub uncopied-new : (entry_of s region == 0) ≡ true → uncopied s region k ≡ region ∷ uncopied s (region + 1) n
  unfolding uncopied
  uncopied-new e = rw more (ap by_test e)

  pub uncopied-old : (entry_of s region == 0) ≡ false → uncopied s region k ≡ uncopied s (region + 1) n
  unfolding uncopied
  uncopied-old e = rw more (ap by_test e)

pub uncopied-none : (s : Memory) (region n : ℕ) → n ≡ 0 → uncopied s region n ≡ []
unfolding uncopied
uncopied-none s region n e = rw e refl

-- at most all of them
pub uncopied-most : (s : Memory) (region n : ℕ) → length (uncopied s region n) ≤ n
uncopied-most s region zero = omega (arith, ap length (uncopied-none s region zero refl))
uncopied-most s region (suc n) = by_case (entry_of s region == 0) refl (uncopied-most s (region + 1) n)
  where
    by_case : (b : Bool) → (entry_of s region == 0) ≡ b → length (uncopied s (region + 1) n) ≤ n → length (uncopied s region (suc n)) ≤ suc n
    by_case true e most = omega (arith, ap length (uncopied-new s region n (suc n) refl e), most)
    by_case false e most = omega (arith, ap length (uncopied-old s region n (suc n) refl e), most)

-- they depend on their own entries alone
pub uncopied-same : (s t : Memory) (region n : ℕ) → ((x : ℕ) → region ≤ x → x < region + n → entry_of t x ≡ entry_of s x) → uncopied t region n ≡ uncopied s region n
uncopied-same s t region zero same = uncopied-none t region zero refl ∙ sym (uncopied-none s region zero refl)
uncopied-same s t region (suc n) same = by_case (entry_of s region == 0) refl (uncopied-same s t (region + 1) n (λ x low high. same x (omega arith) (omega arith)))
  where
    test : (entry_of t region == 0) ≡ (entry_of s region == 0)
    test = ap (λ (e : ℕ). e == 0) (same region (omega arith) (omega arith))

    by_case : (b : Bool) → (entry_of s region == 0) ≡ b → uncopied t (region + 1) n ≡ uncopied s (region + 1) n → uncopied t region (suc n) ≡ uncopied s region (suc n)
    by_case true e rest = uncopied-new t region n (suc n) refl (test ∙ e) ∙ ap (λ (xs : List ℕ). region ∷ xs) rest ∙ sym (uncopied-new s region n (suc n) refl e)
    by_case false e rest = uncopied-old t region n (suc n) refl (test ∙ e) ∙ rest ∙ sym (uncopied-old s region n (suc n) refl e)

-- ---- they are counted

module _ (s : Memory) (region end : ℕ) (inside : region < end) where
  pub counted-new : (entry_of s region == 0) ≡ true → length (uncopied s region (end - region)) ≡ suc (length (uncopied s (region + 1) (end - (region + 1))))
  counted-new e = (let more : end - region ≡ suc (end - (region + 1)) = omega arith in ap length (uncopied-new s region (end - (region + 1)) (end - region) more e))

  pub counted-old : (entry_of s region == 0) ≡ false → length (uncopied s region (end - region)) ≡ length (uncopied s (region + 1) (end - (region + 1)))
  counted-old e = (let more : end - region ≡ suc (end - (region + 1)) = omega arith in ap length (uncopied-old s region (end - (region + 1)) (end - region) more e))

-- ---- one region

module _ (l : Layout) (words : List ℕ) (program s : Memory) (region : ℕ) where
  pub lone-new : (entry_of s region == 0) ≡ true → with_copies l words program s (uncopied s region 1) ≡ with_copy l words program s region
  unfolding with_copies
  lone-new e = rw (uncopied-new s region 0 1 refl e, uncopied-none s (region + 1) 0 refl) refl

  pub lone-old : (entry_of s region == 0) ≡ false → with_copies l words program s (uncopied s region 1) ≡ s
  unfolding with_copies
  lone-old e = rw (uncopied-old s region 0 1 refl e, uncopied-none s (region + 1) 0 refl) refl

-- ---- the regions from first up to one have copies

pub record AreMade (l : Layout) (words : List ℕ) (program old now : Memory) (first region end : ℕ) : Type 0 where
  pub rest : with_copies l words program now (uncopied now region (end - region)) ≡ with_copies l words program old (uncopied old first (end - first))
  pub room : slots_in_use now + length (uncopied now region (end - region)) ≤ l.regions
  pub consistent : AreConsistent l old → AreConsistent l now
  pub kept : KeepsSlots l old now
  pub copied : (x : ℕ) → first ≤ x → x < region → 0 < entry_of now x

module _ (l : Layout) (few : l.regions ≤ 65536) (words : List ℕ) (program old now : Memory) (first region end : ℕ) (before : AreMade l words program old now first region end) (inside : region < end) (last : end ≤ all_regions l) where
  left : end - region ≡ suc (end - (region + 1))
  left = omega arith

  -- there is a slot for a region without a copy
  pub made-room : entry_of now region ≡ 0 → slots_in_use now < l.regions
  made-room e = omega (arith, before.room, ap length (uncopied-new now region (end - (region + 1)) (end - region) left (eq-eqb (entry_of now region) 0 e)))

  here : region < all_regions l
  here = omega (arith, inside, last)

  before-region : (x : ℕ) → x < region + 1 → (x == region) ≡ false → x < region
  before-region x h e = grind (arith, nat_tests)

  at-region : (x : ℕ) → (x == region) ≡ true → x ≡ region
  at-region x e = grind (arith, nat_tests)

  off-region : (x : ℕ) → (x == region) ≡ false → x ≢ region
  off-region x e = grind (arith, nat_tests)

  -- the region has a copy already
  made-old : (entry_of now region == 0) ≡ false → AreMade l words program old now first (region + 1) end
  made-old e =
      let front : uncopied now region (end - region) ≡ uncopied now (region + 1) (end - (region + 1)) = uncopied-old now region (end - (region + 1)) (end - region) left e in
      let some : 0 < entry_of now region = nonzero (entry_of now region) e in
      record {
        rest = ap (with_copies l words program now) (sym front) ∙ before.rest;
        room = omega (arith, before.room, ap length front);
        consistent = before.consistent;
        kept = before.kept;
        copied = λ x low high. each x low high (x == region) refl some;
      }
    where
      each : (x : ℕ) → first ≤ x → x < region + 1 → (b : Bool) → (x == region) ≡ b → 0 < entry_of now region → 0 < entry_of now x
      each x low high true f some = omega (arith, ap (entry_of now) (at-region x f), some)
      each x low high false f some = before.copied x low (before-region x high f)

  -- it gets one
  abbrev new : Memory
  new = with_copy l words program now region

  module _ (none : entry_of now region ≡ 0) (room : slots_in_use now < l.regions) where
    entry-of_new : entry_of new region ≡ slots_in_use now + 1
    entry-of_new = entry-new l few words program now region here room

    same-rest : uncopied new (region + 1) (end - (region + 1)) ≡ uncopied now (region + 1) (end - (region + 1))
    same-rest = uncopied-same now new (region + 1) (end - (region + 1)) (λ x low high. entry-other l few words program now region here room x (omega (arith, last)) (omega arith))

    rest-new : with_copies l words program new (uncopied new (region + 1) (end - (region + 1))) ≡ with_copies l words program old (uncopied old first (end - first))
    unfolding with_copies
    rest-new =
        let front : uncopied now region (end - region) ≡ region ∷ uncopied now (region + 1) (end - (region + 1)) = uncopied-new now region (end - (region + 1)) (end - region) left (eq-eqb (entry_of now region) 0 none) in
        ap (with_copies l words program new) same-rest ∙ ap (with_copies l words program now) (sym front) ∙ before.rest

    room-new : slots_in_use new + length (uncopied new (region + 1) (end - (region + 1))) ≤ l.regions
    room-new =
        let front : uncopied now region (end - region) ≡ region ∷ uncopied now (region + 1) (end - (region + 1)) = uncopied-new now region (end - (region + 1)) (end - region) left (eq-eqb (entry_of now region) 0 none) in
        omega (arith, before.room, ap length front, ap length same-rest, count-next l few words program now region here room)

    made-new : AreMade l words program old new first (region + 1) end
    made-new =
        record {
          rest = rest-new;
          room = room-new;
          consistent = λ ok. consistent-next l few words program now region here room (before.consistent ok);
          kept = λ x h some. keeps x h some (x == region) refl;
          copied = λ x low high. each x low high (x == region) refl;
        }
      where
        each : (x : ℕ) → first ≤ x → x < region + 1 → (b : Bool) → (x == region) ≡ b → 0 < entry_of new x
        each x low high true f = omega (arith, ap (entry_of new) (at-region x f), entry-of_new)
        each x low high false f = omega (arith, entry-other l few words program now region here room x (omega (arith, here)) (off-region x f), before.copied x low (before-region x high f))

        keeps : (x : ℕ) → x < all_regions l → 0 < entry_of old x → (b : Bool) → (x == region) ≡ b → entry_of new x ≡ entry_of old x
        keeps x h some true f = absurd (omega (arith, ap (entry_of now) (at-region x f), none, before.kept x h some, some))
        keeps x h some false f = entry-other l few words program now region here room x h (off-region x f) ∙ before.kept x h some

  pub made-more : (next : Memory) → next ≡ with_copies l words program now (uncopied now region 1) → AreMade l words program old next first (region + 1) end
  made-more next is = by_case (entry_of now region == 0) refl
    where
      by_case : (b : Bool) → (entry_of now region == 0) ≡ b → AreMade l words program old next first (region + 1) end
      by_case false e = (let same : next ≡ now = is ∙ lone-old l words program now region e in rw same (made-old e))
      by_case true e =
          let none : entry_of now region ≡ 0 = iszero (entry_of now region) e in
          let made : next ≡ with_copy l words program now region = is ∙ lone-new l words program now region e in
          rw made (made-new none (made-room none))

-- ---- in a memory of all parts

-- as many regions have copies in a memory that else is as before
pub record IsMade (s t : Space) (first region end : ℕ) : Type 0 where
  pub frame : t ≡ record s { shared = t.shared }
  pub made : AreMade s.layout s.text s.program s.shared t.shared first region end

pub IsMade-start : (s : Space) (first end : ℕ) → slots_in_use s.shared + length (uncopied s.shared first (end - first)) ≤ s.layout.regions → IsMade s s first first end
IsMade-start s first end room = record { frame = refl; made = record { rest = refl; room = room; consistent = λ ok. ok; kept = λ x h some. refl; copied = λ x low high. absurd (omega arith) } }

pub IsMade-more : (s t u : Space) (first region end : ℕ) → s.layout.regions ≤ 65536 → IsMade s t first region end → region < end → end ≤ all_regions s.layout
    → u ≡ record t { shared = with_copies t.layout t.text t.program t.shared (uncopied t.shared region 1) } → IsMade s u first (region + 1) end
IsMade-more s t u first region end few before inside last e =
    let next : Memory = with_copies s.layout s.text s.program t.shared (uncopied t.shared region 1) in
    let of_old : u ≡ record s { shared = next } = e ∙ ap (λ (w : Space). record w { shared = with_copies w.layout w.text w.program t.shared (uncopied t.shared region 1) }) before.frame in
    let after : u.shared ≡ next = ap (λ (w : Space). w.shared) of_old in
    record {
      frame = of_old ∙ ap (λ (m : Memory). record s { shared = m }) (sym after);
      made = made-more s.layout few s.text s.program s.shared t.shared first region end before.made inside last u.shared after;
    }

-- there is a slot for the next region, if it has no copy
pub IsMade-room : (s t : Space) (first region end : ℕ) → s.layout.regions ≤ 65536 → IsMade s t first region end → region < end → end ≤ all_regions s.layout → entry_of t.shared region ≡ 0 → slots_in_use t.shared < t.layout.regions
IsMade-room s t first region end few before inside last none =
    omega (arith, made-room s.layout few s.text s.program s.shared t.shared first region end before.made inside last none, ap (λ (w : Space). w.layout.regions) before.frame)

pub IsMade-end : (s t : Space) (first region end : ℕ) → region ≡ end → IsMade s t first region end → t ≡ record s { shared = with_copies s.layout s.text s.program s.shared (uncopied s.shared first (end - first)) }
unfolding with_copies
IsMade-end s t first region end e made =
    let none : uncopied t.shared region (end - region) ≡ [] = uncopied-none t.shared region (end - region) (omega (arith, e)) in
    let all : t.shared ≡ with_copies s.layout s.text s.program s.shared (uncopied s.shared first (end - first)) = sym (ap (with_copies s.layout s.text s.program t.shared) none) ∙ made.made.rest in
    made.frame ∙ ap (λ (m : Memory). record s { shared = m }) all
