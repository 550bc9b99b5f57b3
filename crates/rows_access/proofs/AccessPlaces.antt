-- The place of an address: numbers that the tails compute, and what a load finds there.
use Rattle.rows_access.proofs.Reach.{region-of}
use Rattle.std.proofs.Common.{◌≡◌, ℕ, zero, suc, ◌+◌, ◌-◌, ◌*◌, ◌/◌, ◌%◌, ◌^◌, ◌<◌, ◌≤◌, Bool, true, false, ◌==◌, cond, refl, ◌∙◌, ap, ap₂, sym, subst, arith, bit_and, pos, negsuc}
use Rattle.std.proofs.lemmas.Bool.Decides.{nat_tests}
use Rattle.std.proofs.lemmas.Nat.{and_mask}
use Rattle.spec_base.specs.Word.{wrap, plus_int}
use Rattle.spec_base.specs.Layout.{range_end, table_start, copies_start}
use Rattle.spec_base.specs.declared.layout.Layout.{Layout}
use Rattle.rv_decode.specs.declared.instr.LoadOp.{LoadOp}
use Rattle.rv_decode.specs.declared.instr.LoadOp.TheVariants.{Lb, Lh, Lw, Ld, Lbu, Lhu, Lwu}
use Rattle.rv_decode.specs.declared.instr.StoreOp.{StoreOp}
use Rattle.rv_decode.specs.declared.instr.StoreOp.TheVariants.{Sb, Sh, Sw, Sd}
use Rattle.rv_model.specs.Memory.{Memory, loaded}
use Rattle.rv_model.specs.Arithmetic.{load_width, store_width}
use Rattle.code_model.specs.Regions.{shadowed, entry_address, slot_address, byte_by_entry, copy_place}
use Rattle.code_model.specs.Tables.{Tabs, TableOk, all_regions}
use Rattle.side_model.specs.Tables.{HasTabs}
use Rattle.side_model.specs.Places.{Width, W1, W2, W4, W8, width_of}
use Rattle.rows_access.specs.Accesses.{load_size, store_size, place_of, seen}

-- ---- numbers

-- the lowest 8 bits
pub and_255 : (n : ℕ) → bit_and n 255 ≡ n % 256
and_255 n = and_mask n 8

-- the offset of an entry
pub entry-offset : (a : ℕ) → a < 0x4000_0000 → wrap (a / 256 * 4) ≡ 4 * (a / 256)
entry-offset a h = omega arith

-- its address
pub entry-at : (a : ℕ) → a < 0x4000_0000 → wrap (4 * (a / 256) + table_start) ≡ entry_address (a / 256)
entry-at a h = omega arith

-- what lwu takes it from
pub entry-from : (a : ℕ) → a < 0x4000_0000 → plus_int (entry_address (a / 256)) (pos 0) ≡ entry_address (a / 256)
entry-from a h = omega arith

-- a slot's number, counted from 1, times its bytes
pub slot-bytes : (e : ℕ) → e ≤ 65536 → wrap (e * 256) ≡ 256 * e
slot-bytes e h = omega arith

-- an address without a slot is its own place
pub no-slot : (a e : ℕ) → (e == 0) ≡ true → a ≡ place_of e a
no-slot a e h = rw h refl

-- the place in a copy, from its sum
pub copied-place : (a e : ℕ) → (e == 0) ≡ false → e ≤ 65536 → plus_int (copies_start + 256 * e + a % 256) (negsuc 255) ≡ copy_place e a
copied-place a e h k = let some : 0 < e = grind (arith, nat_tests) in omega arith

-- the end of the place's sum
pub slot-place : (a e : ℕ) → (e == 0) ≡ false → e ≤ 65536 → plus_int (copies_start + 256 * e + a % 256) (negsuc 255) ≡ place_of e a
slot-place a e h k = copied-place a e h k ∙ sym (ap (λ (b : Bool). cond b a (copy_place e a)) h)

-- ---- what a load finds

-- two stretches with the same bytes are the same number
pub loaded-same : (n : ℕ) (f g : Memory) (a b : ℕ) → ((k : ℕ) → k < n → f (a + k) ≡ g (b + k)) → loaded f a n ≡ loaded g b n
unfolding loaded
loaded-same zero f g a b h = refl
loaded-same (suc n) f g a b h =
    ap₂ (λ (x y : ℕ). x + 256 * y) (subst (λ (x : ℕ). f x ≡ g b) (omega arith) (subst (λ (y : ℕ). f (a + 0) ≡ g y) (omega arith) (h 0 (omega arith))))
    (loaded-same n f g (a + 1) (b + 1) (λ k l. subst (λ (x : ℕ). f x ≡ g (b + 1 + k)) (omega arith) (subst (λ (y : ℕ). f (a + suc k) ≡ g y) (omega arith) (h (suc k) (omega arith)))))

-- the bytes of an access are in one region
pub same-region : (w : Width) (a k : ℕ) → a % width_of w ≡ 0 → k < width_of w → (a + k) / 256 ≡ a / 256
same-region W1 a k h l = omega arith
same-region W2 a k h l = omega arith
same-region W4 a k h l = omega arith
same-region W8 a k h l = omega arith

pub same-rest : (w : Width) (a k : ℕ) → a % width_of w ≡ 0 → k < width_of w → (a + k) % 256 ≡ a % 256 + k
same-rest W1 a k h l = omega arith
same-rest W2 a k h l = omega arith
same-rest W4 a k h l = omega arith
same-rest W8 a k h l = omega arith

-- and of one copy
pub rest-room : (w : Width) (a : ℕ) → a % width_of w ≡ 0 → a % 256 + width_of w ≤ 256
rest-room W1 a h = omega arith
rest-room W2 a h = omega arith
rest-room W4 a h = omega arith
rest-room W8 a h = omega arith

-- a load's width is that of its operation
pub load-width : (op : LoadOp) → width_of (load_size op) ≡ load_width op
load-width Lb = refl
load-width Lh = refl
load-width Lw = refl
load-width Ld = refl
load-width Lbu = refl
load-width Lhu = refl
load-width Lwu = refl

-- a store's width is that of its operation
pub store-width : (op : StoreOp) → width_of (store_size op) ≡ store_width op
store-width Sb = refl
store-width Sh = refl
store-width Sw = refl
store-width Sd = refl

-- ---- places in a table

-- an entry's slot is one of the layout's
pub entry-most : (l : Layout) (t : Tabs) (region : ℕ) → TableOk l t → region < all_regions l → t.entry region ≤ l.regions
entry-most l t region ok h = by_test (t.entry region == 0) refl
  where
    by_test : (b : Bool) → (t.entry region == 0) ≡ b → t.entry region ≤ l.regions
    by_test true e = grind (arith, nat_tests)
    by_test false e =
        let some : 0 < t.entry region = grind (arith, nat_tests) in
        let is : t.entry region ≤ t.count = (ok.entry region h some).0 in omega (arith, is, ok.count)

-- the place in a copy
pub record InCopies (l : Layout) (w : Width) (place : ℕ) : Type 0 where
  pub whole : place % width_of w ≡ 0
  pub above : copies_start ≤ place
  pub below : place + width_of w ≤ copies_start + 256 * l.regions

pub in-copies : (l : Layout) (w : Width) (a e : ℕ) → a % width_of w ≡ 0 → e ≤ l.regions → (e == 0) ≡ false → InCopies l w (copy_place e a)
in-copies l w a e whole most some = by_width w whole
  where
    one : 0 < e
    one = grind (arith, nat_tests)

    by_width : (w : Width) → a % width_of w ≡ 0 → InCopies l w (copy_place e a)
    by_width W1 h = record { whole = omega arith; above = omega arith; below = omega (arith, one) }
    by_width W2 h = record { whole = omega arith; above = omega arith; below = omega (arith, one) }
    by_width W4 h = record { whole = omega arith; above = omega arith; below = omega (arith, one) }
    by_width W8 h = record { whole = omega arith; above = omega arith; below = omega (arith, one) }

-- where a load or store takes its place from
pub place-from : (place : ℕ) → place < 2 ^ 64 → plus_int place (pos 0) ≡ place
place-from place h = omega arith

-- a byte by an entry
module _ (m program : Memory) (a : ℕ) where
  pub seen-program : (e : ℕ) → (e == 0) ≡ true → byte_by_entry e m program a ≡ program a
  seen-program e h = let k : 0 ≡ e = grind (arith, nat_tests) in subst (λ (x : ℕ). byte_by_entry x m program a ≡ program a) k refl

  pub seen-copy : (e : ℕ) → (e == 0) ≡ false → byte_by_entry e m program a ≡ m (slot_address (e - 1) + a % 256)
  seen-copy e h = let k : suc (e - 1) ≡ e = grind (arith, nat_tests) in subst (λ (x : ℕ). byte_by_entry x m program a ≡ m (slot_address (e - 1) + a % 256)) k refl

-- what a load finds at the place of an address is what the shadow has there
module _ (w : Width) (t : Tabs) (m program : Memory) (a : ℕ) (whole : a % width_of w ≡ 0) where
  pub loads-program : (t.entry (a / 256) == 0) ≡ true → loaded (seen t m program) a (width_of w) ≡ loaded program a (width_of w)
  loads-program h =
      loaded-same (width_of w) (seen t m program) program a a
      (λ k l. ap (λ (r : ℕ). byte_by_entry (t.entry r) m program (a + k)) (same-region w a k whole l) ∙ seen-program m program (a + k) (t.entry (a / 256)) h)

  pub loads-copy : (t.entry (a / 256) == 0) ≡ false → loaded (seen t m program) a (width_of w) ≡ loaded m (copy_place (t.entry (a / 256)) a) (width_of w)
  loads-copy h =
      loaded-same (width_of w) (seen t m program) m a (copy_place (t.entry (a / 256)) a)
      (λ k l. ap (λ (r : ℕ). byte_by_entry (t.entry r) m program (a + k)) (same-region w a k whole l) ∙ seen-copy m program (a + k) (t.entry (a / 256)) h ∙ ap m (at k l))
    where
      at : (k : ℕ) → k < width_of w → slot_address (t.entry (a / 256) - 1) + (a + k) % 256 ≡ copy_place (t.entry (a / 256)) a + k
      at k l = omega (arith, same-rest w a k whole l)

-- with these tables in the memory, these bytes are those that the shadow has
pub seen-shadowed : (l : Layout) (t : Tabs) (m program : Memory) → HasTabs l m t → (a : ℕ) → a < range_end l.version → shadowed m program a ≡ seen t m program a
unfolding shadowed
seen-shadowed l t m program h a below = ap (λ (e : ℕ). byte_by_entry e m program a) (h.entry (a / 256) (region-of l a below))
