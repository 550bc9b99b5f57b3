-- The rows of the eight helpers that check the address of an access, LOAD1 to STORE8. They lead to the tail that finds its place, or to a park (this project's own).
use Rattle.std.specs.Prelude.{ℕ, ◌-◌, ◌≡◌, true, false, nat_lt, nat_le, ◌==◌, bit_and, pos}
use Rattle.spec_base.specs.Word.{word_of_int}
use Rattle.spec_base.specs.Layout.{range_start, range_end}
use Rattle.spec_base.specs.declared.layout.Layout.{Layout}
use Rattle.side_model.specs.Hart.{Regs, Priv}
use Rattle.code_model.specs.Tables.{Tabs}
use Rattle.side_model.specs.Places.{Width, width_of, Helper, Faulting, reaching, Place, InHelper}
use Rattle.side_model.specs.JumpRows.{high_part, with_31, with_30_31}
use Rattle.rows_access.specs.Accesses.{may_access, asked, linked, saved}

-- the helper h checks an access of width w to the address `at`, for the block whose word 6 is at back, with the program's registers q
module _ (l : Layout) (h : Helper) (w : Width) (at back : ℕ) (q : Regs) where
  -- the lower bits of the address, which aren't 0 where it is no multiple of the width
  abbrev pub odd : ℕ
  odd = bit_and at (word_of_int (pos (width_of w - 1)))

  -- the address is a multiple of the width, in the program range
  pub record InRange : Type 0 where
    pub whole : (odd == 0) ≡ true
    pub above : nat_lt at range_start ≡ false
    pub below : nat_le (range_end l.version) at ≡ false

  pub data CheckRow : Place → Regs → Priv → Tabs → ℕ → Type 0 where
    c1 : (p : Priv) {t : Tabs} → CheckRow (InHelper h 0) (with_31 q back) (asked at back q p) t 222
    c2 : (p : Priv) {t : Tabs} → CheckRow (InHelper h 1) (with_31 q back) (linked at back q p) t 221
    c3 : (p : Priv) {t : Tabs} → CheckRow (InHelper h 2) (with_31 q back) (saved at back q p) t 220
    c4 : (p : Priv) {t : Tabs} → CheckRow (InHelper h 3) (with_31 q at) (saved at back q p) t 219
    c5 : (p : Priv) {t : Tabs} → CheckRow (InHelper h 4) (with_30_31 q odd at) (saved at back q p) t 218
    c6 : {u : ℕ} (p : Priv) {t : Tabs} → (odd == 0) ≡ true → CheckRow (InHelper h 5) (with_30_31 q u at) (saved at back q p) t 217
    c7 : (p : Priv) {t : Tabs} → (odd == 0) ≡ true → CheckRow (InHelper h 6) (with_30_31 q range_start at) (saved at back q p) t 216
    c8 : {u : ℕ} (p : Priv) {t : Tabs} → (odd == 0) ≡ true → nat_lt at range_start ≡ false → CheckRow (InHelper h 7) (with_30_31 q u at) (saved at back q p) t 215
    c9 : (p : Priv) {t : Tabs} → (odd == 0) ≡ true → nat_lt at range_start ≡ false → CheckRow (InHelper h 8) (with_30_31 q (range_end l.version) at) (saved at back q p) t 214
    c10 : {u : ℕ} (p : Priv) {t : Tabs} → InRange → CheckRow (InHelper h 9) (with_30_31 q u at) (saved at back q p) t 213
    c11 : (p : Priv) {t : Tabs} → InRange → CheckRow (InHelper h 10) (with_30_31 q (high_part (reaching l w)) at) (saved at back q p) t 212
    c12 : (p : Priv) {t : Tabs} → InRange → CheckRow (InHelper h 11) (with_30_31 q (reaching l w) at) (saved at back q p) t 211
    c13 : {u : ℕ} (p : Priv) {t : Tabs} → InRange → nat_lt at (reaching l w) ≡ false → CheckRow (InHelper h 12) (with_30_31 q u at) (saved at back q p) t 210
    c14 : (p : Priv) {t : Tabs} → InRange → nat_lt at (reaching l w) ≡ false → CheckRow (InHelper h 13) (with_30_31 q (high_part l.text_end) at) (saved at back q p) t 209
    c15 : (p : Priv) {t : Tabs} → InRange → nat_lt at (reaching l w) ≡ false → CheckRow (InHelper h 14) (with_30_31 q l.text_end at) (saved at back q p) t 208
    c16 : {u : ℕ} (p : Priv) {t : Tabs} → may_access l w at ≡ true → CheckRow (InHelper h 15) (with_30_31 q u at) (saved at back q p) t 207
    -- the program would trap
    faults : {rs : Regs} (p : Priv) {t : Tabs} → may_access l w at ≡ false → CheckRow (InHelper Faulting 0) rs p t 1
