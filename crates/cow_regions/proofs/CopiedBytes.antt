-- The byte of a copy, and the program's where its region has none.
use Rattle.std.proofs.Common.{◌≡◌, ℕ, zero, suc, ◌+◌, ◌-◌, ◌/◌, ◌%◌, ◌≤◌, Bool, true, false, Some, None, refl, ap, sym, ◌∙◌, arith}
use Rattle.rv_model.specs.Rights.{is_data}
use Rattle.rv_model.specs.Space.{Space}
use Rattle.code_model.specs.Regions.{entry_of, slot_address, byte_by_entry, shadowed}
use Rattle.hart_mem.specs.Held.{data_byte}
use Rattle.cow_regions.specs.Tables.{slot_by_entry, slot_in}
use Rattle.cow_regions.specs.Views.{shadowed_byte}

-- ---- entries and slots

pub slot-entry : (e slot : ℕ) → Some slot ≡ slot_by_entry e → e ≡ suc (slot - 1)
slot-entry zero slot h = cc
slot-entry (suc e) slot h = (let same : slot ≡ suc e = cc in omega arith)

pub none-entry : (e : ℕ) → None ≡ slot_by_entry e → e ≡ 0
none-entry zero h = refl
none-entry (suc e) h = cc

-- ---- bytes

-- the data's byte is there, and another in its place
in-place : (t : Bool) (p q own : ℕ) → Some own ≡ elim t [ true ↦ Some p | false ↦ None ] → Some q ≡ elim t [ true ↦ Some q | false ↦ None ]
in-place true p q own h = refl
in-place false p q own h = cc

own-byte : (t : Bool) (p own : ℕ) → Some own ≡ elim t [ true ↦ Some p | false ↦ None ] → own ≡ p
own-byte true p own h = cc
own-byte false p own h = cc

-- where there is a byte of the data, it is data
is-there : (t : Bool) (p own : ℕ) → Some own ≡ elim t [ true ↦ Some p | false ↦ None ] → t ≡ true
is-there true p own h = refl
is-there false p own h = cc

module _ (s : Space) (a own : ℕ) (there : Some own ≡ data_byte s a) where
  shown : (byte : ℕ) → byte ≡ shadowed s.shared s.program a → Some byte ≡ shadowed_byte s a
  shown byte e = ap Some e ∙ in-place (is_data s.layout a) (s.program a) (shadowed s.shared s.program a) own there

  pub own-data : is_data s.layout a ≡ true
  own-data = is-there (is_data s.layout a) (s.program a) own there

  pub copied-shown : (slot byte : ℕ) → Some slot ≡ slot_in s.shared (a / 256) → byte ≡ s.shared (slot_address (slot - 1) + a % 256) → Some byte ≡ shadowed_byte s a
  unfolding shadowed
  copied-shown slot byte at e = shown byte (e ∙ sym (ap (λ (n : ℕ). byte_by_entry n s.shared s.program a) (slot-entry (entry_of s.shared (a / 256)) slot at)))

  pub own-shown : None ≡ slot_in s.shared (a / 256) → Some own ≡ shadowed_byte s a
  unfolding shadowed
  own-shown at =
      shown own (own-byte (is_data s.layout a) (s.program a) own there ∙ sym (ap (λ (n : ℕ). byte_by_entry n s.shared s.program a) (none-entry (entry_of s.shared (a / 256)) at)))
