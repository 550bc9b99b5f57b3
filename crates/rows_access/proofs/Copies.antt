-- What the words that write to the shared memory do to the bytes that the shadow has in place of the program's.
use Rattle.std.proofs.Common.{pow-add, ◌≡◌, ℕ, zero, suc, ◌+◌, ◌-◌, ◌*◌, ◌/◌, ◌%◌, ◌^◌, ◌<◌, ◌≤◌, ◌⊎◌, inl, inr, Bool, true, false, ◌==◌, cond, Option, refl, ◌∙◌, ap, sym, subst, arith, Some, None, nat_lt}
use Rattle.std.proofs.lemmas.Bool.Decides.{nat_tests}
use Rattle.std.proofs.Math.Nat.{div-div-eq-div-mul}
use Rattle.spec_base.specs.Word.{byte_of}
use Rattle.spec_base.specs.Layout.{range_start, range_end, copies_start}
use Rattle.spec_base.specs.declared.layout.Layout.{Layout}
use Rattle.rv_model.specs.Memory.{Memory, patched, loaded, stored, is_within}
use Rattle.code_model.specs.Regions.{slot_address, byte_by_entry, copy_place}
use Rattle.code_model.specs.Tables.{Tabs, TableOk}
use Rattle.side_model.specs.Tables.{with_value}
use Rattle.side_model.specs.Places.{Width, width_of}
use Rattle.rows_access.specs.Accesses.{seen, Allows}
use Rattle.rows_access.specs.StoreRows.{with_stored}
use Rattle.rows_access.proofs.Reach.{Reached, region-of}
use Rattle.rows_access.proofs.AccessPlaces.{seen-program, same-region, same-rest, rest-room}
use Rattle.rows_access.proofs.Lists.{one-region}

-- ---- patches

module _ (m : Memory) (base n : ℕ) (f : Memory) where
  -- a byte outside a patch is as before
  pub patch-outside : (a : ℕ) → (a < base) ⊎ (base + n ≤ a) → patched m base n f a ≡ m a
  unfolding patched
  patch-outside a (inl h) = grind (arith, nat_tests)
  patch-outside a (inr h) = grind (arith, nat_tests)

  -- a byte in a patch is the patch's
  pub patch-inside : (a i : ℕ) → a ≡ base + i → i < n → patched m base n f a ≡ f i
  unfolding patched
  patch-inside a i e h = grind (arith, nat_tests)

-- ---- the bytes of a number

first-byte : (x y : ℕ) → x < 256 → byte_of (x + 256 * y) 0 ≡ x
first-byte x y h = omega arith

next-byte : (x y i : ℕ) → x < 256 → byte_of (x + 256 * y) (suc i) ≡ byte_of y i
next-byte x y i h =
    ap (λ (p : ℕ). (x + 256 * y) / p % 256) power ∙ ap (λ (v : ℕ). v % 256) (sym (div-div-eq-div-mul (x + 256 * y) 256 (2 ^ (8 * i)))) ∙ ap (λ (v : ℕ). v / 2 ^ (8 * i) % 256) rest
  where
    split : 8 * suc i ≡ 8 + 8 * i
    split = omega arith

    power : 2 ^ (8 * suc i) ≡ 256 * 2 ^ (8 * i)
    power = ap (λ (n : ℕ). 2 ^ n) split ∙ pow-add 2 8 (8 * i)

    rest : (x + 256 * y) / 256 ≡ y
    rest = omega arith

-- the bytes of a number that was loaded are those from which it was
pub loaded-byte : (f : Memory) (n a i : ℕ) → ((x : ℕ) → a ≤ x → x < a + n → f x < 256) → i < n → byte_of (loaded f a n) i ≡ f (a + i)
unfolding loaded
loaded-byte f zero a i small h = absurd (omega arith)
loaded-byte f (suc n) a zero small h = first-byte (f a) (loaded f (a + 1) n) (small a (omega arith) (omega arith)) ∙ ap f (omega arith)
loaded-byte f (suc n) a (suc i) small h =
    next-byte (f a) (loaded f (a + 1) n) i (small a (omega arith) (omega arith))
    ∙ (loaded-byte f n (a + 1) i (λ x l k. small x (omega arith) (omega arith)) (omega arith) ∙ ap f (omega arith))

-- ---- a byte by its entry

-- as before where its place in the copy is
pub byte-kept : (e : ℕ) (m m' program : Memory) (a : ℕ) → (0 < e → m' (copy_place e a) ≡ m (copy_place e a)) → byte_by_entry e m' program a ≡ byte_by_entry e m program a
byte-kept zero m m' program a h = refl
byte-kept (suc slot) m m' program a h =
    let k : suc slot - 1 ≡ slot = omega arith in subst (λ (n : ℕ). m' (slot_address n + a % 256) ≡ m (slot_address n + a % 256)) k (h (omega arith))

-- a copy's
pub byte-copied : (e : ℕ) (m program : Memory) (a : ℕ) → 0 < e → byte_by_entry e m program a ≡ m (copy_place e a)
byte-copied zero m program a h = absurd (omega arith)
byte-copied (suc slot) m program a h = let k : slot ≡ suc slot - 1 = omega arith in ap (λ (n : ℕ). m (slot_address n + a % 256)) k

-- ---- bytes that are known

module _ (l : Layout) (program : Memory) (bytes : ℕ → Option ℕ) where
  -- each byte that is known is what the shadow has in its place
  abbrev viewed : Tabs → Memory → Type 0
  viewed t m = (a : ℕ) → range_start ≤ a → a < range_end l.version → Allows (bytes a) (seen t m program a)

  -- a change outside the copies
  pub viewed-outside : (t t' : Tabs) (m m' : Memory) → ((x : ℕ) → t'.entry x ≡ t.entry x) → ((x : ℕ) → copies_start ≤ x → m' x ≡ m x) → viewed t m → viewed t' m'
  viewed-outside t t' m m' same keeps v a h k =
      subst (Allows (bytes a))
      (sym (ap (λ (e : ℕ). byte_by_entry e m' program a) (same (a / 256)) ∙ byte-kept (t.entry (a / 256)) m m' program a (λ some. keeps (copy_place (t.entry (a / 256)) a) (omega arith)))) (v a h k)

  -- a change in a slot that isn't in use
  pub viewed-new : (t : Tabs) (m m' : Memory) → TableOk l t → ((x : ℕ) → x < slot_address t.count → m' x ≡ m x) → viewed t m → viewed t m'
  viewed-new t m m' ok keeps v a h k =
      subst (Allows (bytes a))
      (sym (byte-kept (t.entry (a / 256)) m m' program a
      (λ some. let w : t.entry (a / 256) ≤ t.count = (ok.entry (a / 256) (region-of l a k) some).0 in keeps (copy_place (t.entry (a / 256)) a) (omega (arith, w, some))))) (v a h k)

  -- a region's entry becomes the last slot, which has its bytes
  pub viewed-entry : (t : Tabs) (m m' : Memory) (region : ℕ) → 0 < t.count → ((x : ℕ) → copies_start ≤ x → m' x ≡ m x)
      → ((o : ℕ) → o < 256 → Allows (bytes (256 * region + o)) (m (slot_address (t.count - 1) + o))) → viewed t m → viewed (record t { entry = with_value region t.count t.entry }) m'
  viewed-entry t m m' region some keeps has v a h k = by_test (a / 256 == region) refl
    where
      by_test : (b : Bool) → (a / 256 == region) ≡ b → Allows (bytes a) (byte_by_entry (cond (a / 256 == region) t.count (t.entry (a / 256))) m' program a)
      by_test true e =
          let at : 256 * region + a % 256 ≡ a = grind (arith, nat_tests) in
          let is : m (slot_address (t.count - 1) + a % 256) ≡ byte_by_entry (cond (a / 256 == region) t.count (t.entry (a / 256))) m' program a =
          sym (ap (λ (b : Bool). byte_by_entry (cond b t.count (t.entry (a / 256))) m' program a) e ∙ byte-copied t.count m' program a some ∙ keeps (copy_place t.count a) (omega arith)) in
          subst (Allows (bytes a)) is (subst (λ (x : ℕ). Allows (bytes x) (m (slot_address (t.count - 1) + a % 256))) at (has (a % 256) (omega arith)))
      by_test false e =
          subst (Allows (bytes a))
          (sym (ap (λ (b : Bool). byte_by_entry (cond b t.count (t.entry (a / 256))) m' program a) e ∙ byte-kept (t.entry (a / 256)) m m' program a (λ more. keeps (copy_place (t.entry (a / 256)) a) (omega arith))))
          (v a h k)

-- ---- a new copy

-- where a known number is another, it is known, too
pub allows-same : (o : Option ℕ) (x y : ℕ) → ((v : ℕ) → o ≡ Some v → x ≡ y) → Allows o x → Allows o y
allows-same None x y f h = tt
allows-same (Some v) x y f h = sym (f v refl) ∙ h

-- the bytes that a round takes from the program are the region's
pub taken : (l : Layout) (program : Memory) (bytes : ℕ → Option ℕ) → ((a v : ℕ) → bytes a ≡ Some v → (x : ℕ) → range_start ≤ x → x < range_end l.version → program x < 256) → (t : Tabs) (m : Memory) (region k from : ℕ) → k < 32 → from ≡ 256 * region + 8 * k
    → range_start ≤ 256 * region → 256 * region + 256 ≤ range_end l.version → (t.entry region == 0) ≡ true
    → ((a : ℕ) → range_start ≤ a → a < range_end l.version → Allows (bytes a) (seen t m program a)) → (i : ℕ) → i < 8 → Allows (bytes (256 * region + (8 * k + i))) (byte_of (loaded program from 8) i)
taken l program bytes small t m region k from low source above below none v i h =
    allows-same (bytes a) (seen t m program a) (byte_of (loaded program from 8) i) (λ w e. is w e) (v a (omega (arith, above)) (omega (arith, low, h, below)))
  where
    a : ℕ
    a = 256 * region + (8 * k + i)

    same : a / 256 ≡ region
    same = omega (arith, low, h)

    zero_entry : t.entry (a / 256) ≡ 0
    zero_entry = ap t.entry same ∙ (let k : t.entry region ≡ 0 = grind (arith, nat_tests, none) in k)

    at : from + i ≡ a
    at = omega (arith, source)

    is : (w : ℕ) → bytes a ≡ Some w → seen t m program a ≡ byte_of (loaded program from 8) i
    is w e = ap (λ (n : ℕ). byte_by_entry n m program a) zero_entry ∙ (ap program (sym at) ∙ sym (loaded-byte program 8 from i (λ x g k. small a w e x (omega (arith, source, above, g)) (omega (arith, source, low, below, k))) h))

-- a round puts 8 more
pub has-more : (bytes : ℕ → Option ℕ) (m : Memory) (region slot k to v : ℕ) → to ≡ slot_address slot + 8 * k → ((i : ℕ) → i < 8 → Allows (bytes (256 * region + (8 * k + i))) (byte_of v i))
    → ((o : ℕ) → o < 8 * k → Allows (bytes (256 * region + o)) (m (slot_address slot + o))) → (o : ℕ) → o < 8 * (k + 1) → Allows (bytes (256 * region + o)) (stored m to 8 v (slot_address slot + o))
has-more bytes m region slot k to v target new old o h = by_test (nat_lt o (8 * k)) refl
  where
    by_test : (b : Bool) → nat_lt o (8 * k) ≡ b → Allows (bytes (256 * region + o)) (stored m to 8 v (slot_address slot + o))
    by_test true e =
        let d : o < 8 * k = grind (arith, nat_tests) in
        subst (Allows (bytes (256 * region + o))) (sym (patch-outside m to 8 (byte_of v) (slot_address slot + o) (inl (omega (arith, target, d))))) (old o d)
    by_test false e =
        let d : 8 * k ≤ o = grind (arith, nat_tests) in
        let split : 8 * k + (o - 8 * k) ≡ o = omega (arith, d) in
        subst (Allows (bytes (256 * region + o))) (sym (patch-inside m to 8 (byte_of v) (slot_address slot + o) (o - 8 * k) (omega (arith, target, d)) (omega (arith, d, h))))
        (subst (λ (x : ℕ). Allows (bytes (256 * region + x)) (byte_of v (o - 8 * k))) split (new (o - 8 * k) (omega (arith, d, h))))

-- ---- the store

-- two places in copies: of one region in their order, else a slot apart
apart : (e e' a b n : ℕ) → 0 < e → 0 < e' → b % 256 + n ≤ 256 → (e' ≡ e → (a % 256 < b % 256) ⊎ (b % 256 + n ≤ a % 256)) → (copy_place e' a < copy_place e b) ⊎ (copy_place e b + n ≤ copy_place e' a)
apart e e' a b n some some' room one = by_tests (nat_lt e' e) refl (nat_lt e e') refl
  where
    in_one : e' ≡ e → (a % 256 < b % 256) ⊎ (b % 256 + n ≤ a % 256) → (copy_place e' a < copy_place e b) ⊎ (copy_place e b + n ≤ copy_place e' a)
    in_one k (inl h) = inl (omega (arith, k, h))
    in_one k (inr h) = inr (omega (arith, k, h))

    by_tests : (x : Bool) → nat_lt e' e ≡ x → (y : Bool) → nat_lt e e' ≡ y → (copy_place e' a < copy_place e b) ⊎ (copy_place e b + n ≤ copy_place e' a)
    by_tests true d y f = let k : e' < e = grind (arith, nat_tests) in inl (omega (arith, k, some'))
    by_tests false d true f = let k : e < e' = grind (arith, nat_tests) in inr (omega (arith, k, some, room))
    by_tests false d false f = let k : e' ≡ e = grind (arith, nat_tests) in in_one k (one k)

-- the bytes of the store are in its region's copy, and all others as before
pub viewed-stored : (l : Layout) (program : Memory) (bytes : ℕ → Option ℕ) (t : Tabs) (m : Memory) (w : Width) (at v : ℕ) → TableOk l t → Reached l w at → (t.entry (at / 256) == 0) ≡ false
    → ((a : ℕ) → range_start ≤ a → a < range_end l.version → Allows (bytes a) (seen t m program a))
    → (a : ℕ) → range_start ≤ a → a < range_end l.version → Allows (with_stored at (width_of w) v bytes a) (seen t (stored m (copy_place (t.entry (at / 256)) at) (width_of w) v) program a)
viewed-stored l program bytes t m w at v ok reach some viewed a above below = by_test (is_within at (width_of w) a) refl
  where
    e : ℕ
    e = t.entry (at / 256)

    place : ℕ
    place = copy_place e at

    one : 0 < e
    one = grind (arith, nat_tests, some)

    after : Memory
    after = stored m place (width_of w) v

    room : at % 256 + width_of w ≤ 256
    room = rest-room w at reach.whole

    inside : at ≤ a → a < at + width_of w → seen t after program a ≡ byte_of v (a - at)
    inside h k =
        let split : at + (a - at) ≡ a = omega (arith, h) in
        let region : a / 256 ≡ at / 256 = ap (λ (x : ℕ). x / 256) (sym split) ∙ same-region w at (a - at) reach.whole (omega (arith, h, k)) in
        let rest : a % 256 ≡ at % 256 + (a - at) = ap (λ (x : ℕ). x % 256) (sym split) ∙ same-rest w at (a - at) reach.whole (omega (arith, h, k)) in
        ap (λ (x : ℕ). byte_by_entry (t.entry x) after program a) region
        ∙ (byte-copied e after program a one ∙ patch-inside m place (width_of w) (byte_of v) (copy_place e a) (a - at) (omega (arith, rest)) (omega (arith, h, k)))

    outside : (a < at) ⊎ (at + width_of w ≤ a) → seen t m program a ≡ seen t after program a
    outside h =
        sym
        (byte-kept (t.entry (a / 256)) m after program a
        (λ more.
        patch-outside m place (width_of w) (byte_of v) (copy_place (t.entry (a / 256)) a)
        (apart e (t.entry (a / 256)) a at (width_of w) one more room
        (λ same.
        let is : a / 256 ≡ at / 256 = one-region l t ok (a / 256) (at / 256) (region-of l a below) reach.region more same in
        order is h))))
      where
        order : a / 256 ≡ at / 256 → (a < at) ⊎ (at + width_of w ≤ a) → (a % 256 < at % 256) ⊎ (at % 256 + width_of w ≤ a % 256)
        order is (inl h) = inl (omega (arith, is, h))
        order is (inr h) = inr (omega (arith, is, h))

    by_test : (b : Bool) → is_within at (width_of w) a ≡ b → Allows (with_stored at (width_of w) v bytes a) (seen t after program a)
    by_test true d =
        let h : at ≤ a = grind (arith, nat_tests) in
        let k : a < at + width_of w = grind (arith, nat_tests) in
        subst (λ (b : Bool). Allows (cond b (Some (byte_of v (a - at))) (bytes a)) (seen t after program a)) (sym d) (inside h k)
    by_test false d =
        let h : (a < at) ⊎ (at + width_of w ≤ a) = side (nat_lt a at) refl d in
        subst (λ (b : Bool). Allows (cond b (Some (byte_of v (a - at))) (bytes a)) (seen t after program a)) (sym d) (subst (Allows (bytes a)) (outside h) (viewed a above below))
      where
        side : (b : Bool) → nat_lt a at ≡ b → is_within at (width_of w) a ≡ false → (a < at) ⊎ (at + width_of w ≤ a)
        side true f d = inl (grind (arith, nat_tests))
        side false f d = inr (grind (arith, nat_tests))

-- ---- changes from elsewhere

-- a change of the program's bytes that aren't known or whose region has a copy, and of what is shared below the copies
pub viewed-kept : (l : Layout) (bytes : ℕ → Option ℕ) (program program' : Memory) (t : Tabs) (m m' : Memory)
    → ((a v : ℕ) → range_start ≤ a → a < range_end l.version → (t.entry (a / 256) == 0) ≡ true → bytes a ≡ Some v → program' a ≡ program a) → ((a : ℕ) → copies_start ≤ a → m' a ≡ m a)
    → ((a : ℕ) → range_start ≤ a → a < range_end l.version → Allows (bytes a) (seen t m program a)) → (a : ℕ) → range_start ≤ a → a < range_end l.version → Allows (bytes a) (seen t m' program' a)
viewed-kept l bytes program program' t m m' same keeps view a above below = by_test (t.entry (a / 256) == 0) refl
  where
    by_test : (b : Bool) → (t.entry (a / 256) == 0) ≡ b → Allows (bytes a) (seen t m' program' a)
    by_test true e =
        allows-same (bytes a) (seen t m program a) (seen t m' program' a)
        (λ v k. seen-program m program a (t.entry (a / 256)) e ∙ (sym (same a v above below e k) ∙ sym (seen-program m' program' a (t.entry (a / 256)) e))) (view a above below)
    by_test false e =
        let some : 0 < t.entry (a / 256) = grind (arith, nat_tests) in
        subst (Allows (bytes a))
        (byte-copied (t.entry (a / 256)) m program a some ∙ (sym (keeps (copy_place (t.entry (a / 256)) a) (omega arith)) ∙ sym (byte-copied (t.entry (a / 256)) m' program' a some)))
        (view a above below)
