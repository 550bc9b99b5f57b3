-- What the stub's stores to the link, and what others append, leave of the hint log and of the box.
use Rattle.std.proofs.Common.{◌≡◌, ℕ, zero, suc, ◌+◌, ◌*◌, ◌^◌, ◌≤◌, ◌<◌, ◌⊎◌, inl, inr, refl, ap₂, sym, subst, ◌∙◌, arith}
use Rattle.std.proofs.Math.Nat.{eq-or-lt_of_le}
use Rattle.spec_base.specs.Word.{byte_of}
use Rattle.rv_model.specs.Memory.{Memory, stored}
use Rattle.rv_model.specs.Registers.{Registers, reg}
use Rattle.code_model.specs.Log.{log_head, log_tail, log_place, logged, boxed_site, boxed}
use Rattle.run_laws.specs.StubLaws.{Appends, IsOldest, IsEmpty, without_oldest}
use Rattle.rv_model.proofs.Loads.{loaded-below_patch, loaded-above_patch, loaded-stored}

-- ---- appending

-- nothing is appended
pub Appends-same : (m : Memory) → log_tail m < 2 ^ 64 → Appends m m
Appends-same m h = record { head = refl; tail = omega arith; below = h; pairs = λ i l u. refl }

-- what is appended twice is appended
pub Appends-again : (a b c : Memory) → Appends a b → Appends b c → Appends a c
Appends-again a b c f g =
    record {
      head = g.head ∙ f.head;
      tail = omega (arith, f.tail, g.tail);
      below = g.below;
      pairs = λ i l u. g.pairs i (omega (arith, f.head, l)) (omega (arith, f.tail, u)) ∙ f.pairs i l u;
    }

-- ---- a store of the head

module _ (m : Memory) (v : ℕ) where
  -- the tail is left
  pub tail-head_stored : log_tail (stored m 0x4200_0000 8 v) ≡ log_tail m
  tail-head_stored = loaded-above_patch m 0x4200_0000 8 (byte_of v) 0x4200_0008 8 (omega arith)

  -- the pairs are left
  logged-head_stored : (i : ℕ) → logged (stored m 0x4200_0000 8 v) i ≡ logged m i
  logged-head_stored i =
      ap₂ (λ (x y : ℕ). (x, y)) (loaded-above_patch m 0x4200_0000 8 (byte_of v) (log_place i) 8 (omega arith))
      (loaded-above_patch m 0x4200_0000 8 (byte_of v) (log_place i + 8) 8 (omega arith))

-- the oldest pair is taken
pub takes-oldest : (log m : Memory) (key count : ℕ) → log_tail log < 2 ^ 64 → IsOldest log key count → Appends log m
    → Appends (without_oldest log) (stored m 0x4200_0000 8 (log_head log + 1))
takes-oldest log m key count below o f =
    let v : ℕ = log_head log + 1 in
    let small : v < 2 ^ 64 = omega (arith, below, o.some) in
    let head : log_head (without_oldest log) ≡ v = loaded-stored log 0x4200_0000 v small in
    let new_tail : log_tail (stored m 0x4200_0000 8 v) ≡ log_tail m = tail-head_stored m v in
    let old_tail : log_tail (without_oldest log) ≡ log_tail log = tail-head_stored log v in
    record {
      head = loaded-stored m 0x4200_0000 v small ∙ sym head;
      tail = omega (arith, new_tail, old_tail, f.tail);
      below = omega (arith, new_tail, f.below);
      pairs = λ i l u. logged-head_stored m v i ∙ f.pairs i (omega (arith, head, l)) (omega (arith, old_tail, u)) ∙ sym (logged-head_stored log v i);
    }

-- ---- the log is emptied

-- a store of 0 to the head
pub head-emptied : (m : Memory) → log_head (stored m 0x4200_0000 8 0) ≡ 0
head-emptied m = loaded-stored m 0x4200_0000 0 (omega arith)

-- a store of 0 to the tail empties a log whose head is 0
pub tail-emptied : (m : Memory) → log_head m ≡ 0 → IsEmpty (stored m 0x4200_0008 8 0)
tail-emptied m h =
    record {
      head = loaded-below_patch m 0x4200_0008 8 (byte_of 0) 0x4200_0000 8 (omega arith) ∙ h;
      tail = loaded-stored m 0x4200_0008 0 (omega arith);
    }

-- ---- the box

-- a store to the box leaves the log empty
pub empty-box_stored : (m : Memory) (place v : ℕ) → 0x4200_0010 ≤ place → IsEmpty m → IsEmpty (stored m place 8 v)
empty-box_stored m place v h e =
    record {
      head = loaded-below_patch m place 8 (byte_of v) 0x4200_0000 8 (omega arith) ∙ e.head;
      tail = loaded-below_patch m place 8 (byte_of v) 0x4200_0008 8 (omega arith) ∙ e.tail;
    }

-- what the box holds once registers 0 to j have gone into it
pub record BoxedTo (link : Memory) (pc : ℕ) (rs : Registers) (j : ℕ) : Type 0 where
  pub site : boxed_site link ≡ pc
  pub registers : (i : ℕ) → i ≤ j → boxed link i ≡ reg rs i

-- a store of the site
pub site_boxed : (m : Memory) (pc : ℕ) (rs : Registers) → pc < 2 ^ 64 → BoxedTo (stored m 0x4200_1000 8 pc) pc rs 0
site_boxed m pc rs h = record { site = loaded-stored m 0x4200_1000 pc h; registers = λ i l. at i l }
  where
    at : (i : ℕ) → i ≤ 0 → boxed (stored m 0x4200_1000 8 pc) i ≡ reg rs i
    at zero l = refl
    at (suc i) l = absurd (omega arith)

-- a store of the next register
pub register_boxed : (m : Memory) (pc : ℕ) (rs : Registers) (j : ℕ) → rs (suc j) < 2 ^ 64 → BoxedTo m pc rs j → BoxedTo (stored m (0x4200_1000 + 8 * suc j) 8 (rs (suc j))) pc rs (suc j)
register_boxed m pc rs j h b =
    record {
      site = loaded-below_patch m place 8 (byte_of (rs (suc j))) 0x4200_1000 8 (omega arith) ∙ b.site;
      registers = λ i l. by_order i (eq-or-lt_of_le l);
    }
  where
    place : ℕ
    place = 0x4200_1000 + 8 * suc j

    earlier : (i : ℕ) → i ≤ j → boxed (stored m place 8 (rs (suc j))) i ≡ reg rs i
    earlier zero l = refl
    earlier (suc i) l = loaded-below_patch m place 8 (byte_of (rs (suc j))) (0x4200_1000 + 8 * suc i) 8 (omega arith) ∙ b.registers (suc i) l

    by_order : (i : ℕ) → (i ≡ suc j) ⊎ (i < suc j) → boxed (stored m place 8 (rs (suc j))) i ≡ reg rs i
    by_order i (inl e) = subst (λ i. boxed (stored m place 8 (rs (suc j))) i ≡ reg rs i) (sym e) (loaded-stored m place (rs (suc j)) h)
    by_order i (inr l) = earlier i (omega arith)
