-- Between two words of a store other moves may change the program's memory, and what is shared below the copies.
use Rattle.std.proofs.Common.{◌≡◌, ℕ, ◌+◌, ◌-◌, ◌*◌, ◌/◌, ◌<◌, ◌≤◌, inl, inr, Bool, true, false, ◌==◌, ℤ, refl, ◌∙◌, ap, sym, subst, arith, cond, Option, Some}
use Rattle.std.proofs.lemmas.Bool.Decides.{nat_tests}
use Rattle.spec_base.specs.Word.{plus_int, byte_of}
use Rattle.spec_base.specs.Layout.{range_start, range_end, copies_start}
use Rattle.spec_base.specs.declared.layout.Layout.{Layout}
use Rattle.rv_decode.specs.declared.instr.StoreOp.{StoreOp}
use Rattle.rv_model.specs.Memory.{Memory, is_within}
use Rattle.rv_model.specs.Arithmetic.{store_width}
use Rattle.code_model.specs.Regions.{slot_address}
use Rattle.side_model.specs.Hart.{Regs, get, Priv}
use Rattle.code_model.specs.Tables.{Tabs}
use Rattle.side_model.specs.Places.{Place, width_of}
use Rattle.rows_access.specs.Accesses.{store_size, may_access, Allows}
use Rattle.rows_access.specs.StoreRows.{with_stored, Stage, Before, Copying, Listed, Counting, Found, After, StoreRow, b8, b9, x8, x9, x10, HasBytes, AtStage, StoreKeeps}
use Rattle.rows_access.proofs.Reach.{Reached, reached}
use Rattle.rows_access.proofs.AccessPlaces.{same-region, store-width}
use Rattle.rows_access.proofs.Copies.{viewed-kept}

module _ (l : Layout) (p : ℕ) (op : StoreOp) (rs1 rs2 : ℕ) (imm : ℤ) (q : Regs) (bytes : ℕ → Option ℕ) (program program' : Memory) (t0 t : Tabs) (m m' : Memory)
    (same : (a v : ℕ) → range_start ≤ a → a < range_end l.version → (t.entry (a / 256) == 0) ≡ true → bytes a ≡ Some v → program' a ≡ program a)
    (keeps : (a : ℕ) → copies_start ≤ a → m' a ≡ m a) where
  abbrev at : ℕ
  at = plus_int (get rs1 q) imm

  abbrev region : ℕ
  region = at / 256

  -- the address may be accessed, and its region has a copy
  record IsStored : Type 0 where
    may : may_access l (store_size op) at ≡ true
    copied : (t.entry region == 0) ≡ false

  -- behind the store it is so
  is_stored : {place : Place} {rs : Regs} {s : Priv} {stage : Stage} {n : ℕ} → StoreRow l p op rs1 rs2 imm q bytes place rs s t stage n → stage ≡ After → IsStored
  is_stored (b8 s f e h) k = record { may = f; copied = e }
  is_stored (b9 s f e h) k = record { may = f; copied = e }
  is_stored (x8 s f e h) k = record { may = f; copied = e }
  is_stored (x9 s f e h) k = record { may = f; copied = e }
  is_stored (x10 s f e h) k = record { may = f; copied = e }
  is_stored r k = absurd (cc k)

  -- then a byte whose region has no copy isn't stored
  not-stored : IsStored → (a v : ℕ) → (t.entry (a / 256) == 0) ≡ true → with_stored at (store_width op) (get rs2 q) bytes a ≡ Some v → bytes a ≡ Some v
  not-stored is a v none e = by_test (is_within at (store_width op) a) refl
    where
      by_test : (b : Bool) → is_within at (store_width op) a ≡ b → bytes a ≡ Some v
      by_test false d = sym (ap (λ (b : Bool). cond b (Some (byte_of (get rs2 q) (a - at))) (bytes a)) d) ∙ e
      by_test true d =
          let w : width_of (store_size op) ≡ store_width op = store-width op in
          let r : Reached l (store_size op) at = reached l (store_size op) at is.may in
          let low : at ≤ a = grind (arith, nat_tests) in
          let high : a < at + store_width op = grind (arith, nat_tests) in
          let split : at + (a - at) ≡ a = omega (arith, low) in
          let one : a / 256 ≡ region = ap (λ (x : ℕ). x / 256) (sym split) ∙ same-region (store_size op) at (a - at) r.whole (omega (arith, low, high, w)) in
          absurd (no (sym (subst (λ (x : ℕ). (t.entry x == 0) ≡ true) one none) ∙ is.copied))
        where
          no : true ≡ false → ⊥
          no e = cc

  -- bytes of a slot stay
  has-kept : (n slot : ℕ) → HasBytes l p op rs1 rs2 imm q bytes n slot m → HasBytes l p op rs1 rs2 imm q bytes n slot m'
  has-kept n slot h o d = subst (Allows (bytes (256 * region + o))) (sym (keeps (slot_address slot + o) (omega arith))) (h o d)

  -- and what is so at each stage
  at-kept : {place : Place} {rs : Regs} {s : Priv} {n : ℕ} (stage : Stage) → StoreRow l p op rs1 rs2 imm q bytes place rs s t stage n → AtStage l p op rs1 rs2 imm q bytes program t0 stage t m
      → AtStage l p op rs1 rs2 imm q bytes program' t0 stage t m'
  at-kept Before r v = (viewed-kept l bytes program program' t m m' same keeps v.0, v.1)
  at-kept (Copying n) r v = (viewed-kept l bytes program program' t m m' same keeps v.0, has-kept n t.count v.1, v.2)
  at-kept Listed r v = (viewed-kept l bytes program program' t m m' same keeps v.0, has-kept 256 t.count v.1, v.2, v.3)
  at-kept Counting r v = (viewed-kept l bytes program program' t m m' same keeps v.0, has-kept 256 (t.count - 1) v.1, v.2, v.3)
  at-kept Found r v = (viewed-kept l bytes program program' t m m' same keeps v.0, v.1)
  at-kept After r v =
      let is : IsStored = is_stored r refl in
      (viewed-kept l (with_stored at (store_width op) (get rs2 q) bytes) program program' t m m' (λ a v h k none e. same a v h k none (not-stored is a v none e)) keeps v.0, v.1)

pub store_keeps : StoreKeeps
store_keeps l p op rs1 rs2 imm q bytes program program' t0 n place rs s t m m' same keeps (inl (r, v)) = inl (r, (viewed-kept l bytes program program' t m m' same keeps v.0, v.1))
store_keeps l p op rs1 rs2 imm q bytes program program' t0 n place rs s t m m' same keeps (inr (stage, r, v)) =
    inr (stage, r, at-kept l p op rs1 rs2 imm q bytes program program' t0 t m m' same keeps stage r v)
