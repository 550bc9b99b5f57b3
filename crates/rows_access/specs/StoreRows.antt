-- The rows of the block of a store, and of the helper STAIL, which finds the place to store to and makes a copy of the region where there is none (this project's own).
use Rattle.rv_model.specs.Effect.{Trapped, Stored, store_effect}
use Rattle.rv_model.specs.Rights.{data_rights}
use Rattle.spec_base.specs.declared.machine.Trap.{Trap}
use Rattle.std.specs.Prelude.{ℕ, ◌+◌, ◌-◌, ◌*◌, ◌/◌, ◌%◌, ◌≡◌, ◌≤◌, ◌<◌, ◌⊎◌, true, false, cond, ◌==◌, ℤ, Option, Some}
use Rattle.spec_base.specs.Word.{plus_int, byte_of}
use Rattle.spec_base.specs.Layout.{helpers_start, range_start, range_end, table_start, list_start, copies_start}
use Rattle.spec_base.specs.declared.layout.Layout.{Layout}
use Rattle.spec_base.specs.declared.park.Park.{Park}
use Rattle.spec_base.specs.declared.park.Park.TheVariants as park
use Rattle.rv_decode.specs.declared.instr.Instr.TheVariants.{Store}
use Rattle.rv_decode.specs.declared.instr.StoreOp.{StoreOp}
use Rattle.rv_model.specs.Memory.{Memory, is_within}
use Rattle.rv_model.specs.Arithmetic.{store_width}
use Rattle.code_model.specs.Blocks.{block, store_helper}
use Rattle.code_model.specs.Places.{block_at}
use Rattle.code_model.specs.Regions.{entry_address, slot_address, copy_place}
use Rattle.side_model.specs.Hart.{Regs, get, Priv}
use Rattle.code_model.specs.Tables.{Tabs, TableOk}
use Rattle.side_model.specs.Tables.{with_value}
use Rattle.side_model.specs.Places.{Width, Storing, StoreTail, FullUp, Place, InBlock, InHelper, code, IsInstruction}
use Rattle.side_model.specs.Words.{exec_some}
use Rattle.side_model.specs.Rows.{Led}
use Rattle.side_model.specs.JumpRows.{high_part, with_31, with_30_31}
use Rattle.rows_access.specs.Accesses.{store_size, may_access, seen, Allows, spilled, asked, saved, Leaves}
use Rattle.rows_access.specs.CheckRows.{CheckRow}

-- registers with another x28 to x31
abbrev pub with_28_31 : Regs → ℕ → ℕ → ℕ → ℕ → Regs
with_28_31 q a b u v = record q { x28 = a; x29 = b; x30 = u; x31 = v }

-- how far a store is. Before: nothing is changed; Copying: so many bytes of the free slot are the region's; Listed: all are, and the list names the region at that slot; Counting: the slot counts; Found: the region has a copy; After: the bytes are stored in it
pub data Stage : Type 0 where
  Before : Stage
  Copying : (n : ℕ) → Stage
  Listed : Stage
  Counting : Stage
  Found : Stage
  After : Stage

-- ---- tables while a region gets the next slot

-- first the slot's word of the list names it
abbrev pub with_named : Tabs → ℕ → Tabs
with_named t region = record t { listed = with_value t.count (entry_address region) t.listed }

-- then the slot counts
abbrev pub with_counted : Tabs → ℕ → Tabs
with_counted t region = record (with_named t region) { count = t.count + 1 }

-- last it is the region's entry
abbrev pub with_slot : Tabs → ℕ → Tabs
with_slot t region = record (with_counted t region) { entry = with_value region (t.count + 1) t.entry }

-- the tables behind a store: the region gets the next slot where it has none
abbrev pub slotted : Tabs → ℕ → Tabs
slotted t region = cond (t.entry region == 0) (with_slot t region) t

-- bytes behind a store
abbrev pub with_stored : ℕ → ℕ → ℕ → (ℕ → Option ℕ) → ℕ → Option ℕ
with_stored base n v bytes a = cond (is_within base n a) (Some (byte_of v (a - base))) (bytes a)

-- the store at p of the program, with the program's registers q; `bytes` are those that its memory has before the store, where they are known
module _ (l : Layout) (p : ℕ) (op : StoreOp) (rs1 rs2 : ℕ) (imm : ℤ) (q : Regs) (bytes : ℕ → Option ℕ) where
  -- the address that it stores to
  abbrev pub at : ℕ
  at = plus_int (get rs1 q) imm

  -- how many bytes it stores
  abbrev pub size : Width
  size = store_size op

  -- the region that has them
  abbrev pub region : ℕ
  region = at / 256

  -- where the region's entry is
  abbrev pub spot : ℕ
  spot = entry_address region

  -- where its block goes on behind the helper
  abbrev pub back : ℕ
  back = block_at l p + 24

  -- the private places then
  abbrev pub kept : Priv → Priv
  kept s = saved at back q s

  -- behind word 7 of STAIL
  abbrev pub entered : Priv → Priv
  entered s = record (saved at back q s) { ent = spot }

  -- behind word 8
  abbrev pub entered_29 : Priv → Priv
  entered_29 s = record (saved at back q s) { x29 = q.x29; ent = spot }

  -- behind word 9
  abbrev pub entered_28 : Priv → Priv
  entered_28 s = record (saved at back q s) { x29 = q.x29; x28 = q.x28; ent = spot }

  -- the region has no copy, and a slot is free
  pub record Free (t : Tabs) : Type 0 where
    pub none : (t.entry region == 0) ≡ true
    pub room : t.count < l.regions

  -- in round k, counted from 0, x30 and x31 point behind so many times 8 bytes of the region and of the slot
  pub record IsRound (t : Tabs) (k taken put from to : ℕ) : Type 0 where
    pub low : k < 32
    pub source : from ≡ 256 * region + 8 * taken
    pub target : to ≡ slot_address t.count + 8 * put

  -- v is the number of the 8 bytes of round k
  abbrev pub AreBytes : ℕ → ℕ → Type 0
  AreBytes v k = (i : ℕ) → i < 8 → Allows (bytes (256 * region + (8 * k + i))) (byte_of v i)

  -- the new slot is counted, and named by the list
  pub record Counted (t : Tabs) : Type 0 where
    pub none : (t.entry region == 0) ≡ true
    pub some : 0 < t.count
    pub listed : t.listed (t.count - 1) ≡ spot

  -- the region's entry
  pub record IsEntry (t : Tabs) (e : ℕ) : Type 0 where
    pub some : (e == 0) ≡ false
    pub same : t.entry region ≡ e

  pub data StoreRow : Place → Regs → Priv → Tabs → Stage → ℕ → Type 0 where
    -- the block
    b1 : (s : Priv) {t : Tabs} → StoreRow (InBlock 1) q s t Before 227
    b2 : (s : Priv) {t : Tabs} → StoreRow (InBlock 2) q (spilled at back q s) t Before 226
    b3 : (s : Priv) {t : Tabs} → StoreRow (InBlock 3) (with_31 q at) (spilled at back q s) t Before 225
    b4 : (s : Priv) {t : Tabs} → StoreRow (InBlock 4) (with_31 q at) (asked at back q s) t Before 224
    b5 : (s : Priv) {t : Tabs} → StoreRow (InBlock 5) (with_31 q (high_part (helpers_start + store_helper op))) (asked at back q s) t Before 223
    -- STAIL: the entry of the region
    t1 : {u : ℕ} (s : Priv) {t : Tabs} → may_access l size at ≡ true → StoreRow (InHelper StoreTail 0) (with_30_31 q u at) (kept s) t Before 206
    t2 : (s : Priv) {t : Tabs} → may_access l size at ≡ true → StoreRow (InHelper StoreTail 1) (with_30_31 q region at) (kept s) t Before 205
    t3 : (s : Priv) {t : Tabs} → may_access l size at ≡ true → StoreRow (InHelper StoreTail 2) (with_30_31 q (4 * region) at) (kept s) t Before 204
    t4 : (s : Priv) {t : Tabs} → may_access l size at ≡ true → StoreRow (InHelper StoreTail 3) (with_30_31 q (4 * region) table_start) (kept s) t Before 203
    t5 : {v : ℕ} (s : Priv) {t : Tabs} → may_access l size at ≡ true → StoreRow (InHelper StoreTail 4) (with_30_31 q spot v) (kept s) t Before 202
    t6 : (s : Priv) {t : Tabs} → may_access l size at ≡ true → StoreRow (InHelper StoreTail 5) (with_30_31 q spot (t.entry region)) (kept s) t Before 201
    -- it has no copy: is a slot free?
    t7 : {v : ℕ} (s : Priv) {t : Tabs} → may_access l size at ≡ true → (t.entry region == 0) ≡ true → StoreRow (InHelper StoreTail 6) (with_30_31 q spot v) (kept s) t Before 200
    t8 : {v : ℕ} (s : Priv) {t : Tabs} → may_access l size at ≡ true → (t.entry region == 0) ≡ true → StoreRow (InHelper StoreTail 7) (with_30_31 q spot v) (entered s) t Before 199
    t9 : {v : ℕ} (s : Priv) {t : Tabs} → may_access l size at ≡ true → (t.entry region == 0) ≡ true → StoreRow (InHelper StoreTail 8) (with_30_31 q spot v) (entered_29 s) t Before 198
    t10 : {v : ℕ} (s : Priv) {t : Tabs} → may_access l size at ≡ true → (t.entry region == 0) ≡ true → StoreRow (InHelper StoreTail 9) (with_30_31 q spot v) (entered_28 s) t Before 197
    t11 : {v : ℕ} (s : Priv) {t : Tabs} → may_access l size at ≡ true → (t.entry region == 0) ≡ true → StoreRow (InHelper StoreTail 10) (with_28_31 q list_start q.x29 spot v) (entered_28 s) t Before 196
    t12 : {v : ℕ} (s : Priv) {t : Tabs} → may_access l size at ≡ true → (t.entry region == 0) ≡ true → StoreRow (InHelper StoreTail 11) (with_28_31 q list_start t.count spot v) (entered_28 s) t Before 195
    t13 : (s : Priv) {t : Tabs} → may_access l size at ≡ true → (t.entry region == 0) ≡ true → StoreRow (InHelper StoreTail 12) (with_28_31 q list_start t.count spot (high_part l.regions)) (entered_28 s) t Before 194
    t14 : (s : Priv) {t : Tabs} → may_access l size at ≡ true → (t.entry region == 0) ≡ true → StoreRow (InHelper StoreTail 13) (with_28_31 q list_start t.count spot l.regions) (entered_28 s) t Before 193
    -- the region's bytes are copied to the slot, 8 in a round
    t15 : {a u v : ℕ} (s : Priv) {t : Tabs} → may_access l size at ≡ true → Free t → StoreRow (InHelper StoreTail 14) (with_28_31 q a t.count u v) (entered_28 s) t Before 192
    t16 : {a c u : ℕ} (s : Priv) {t : Tabs} → may_access l size at ≡ true → Free t → StoreRow (InHelper StoreTail 15) (with_28_31 q a c u (256 * t.count)) (entered_28 s) t Before 191
    t17 : {a c : ℕ} (s : Priv) {t : Tabs} → may_access l size at ≡ true → Free t → StoreRow (InHelper StoreTail 16) (with_28_31 q a c copies_start (256 * t.count)) (entered_28 s) t Before 190
    t18 : {a c u : ℕ} (s : Priv) {t : Tabs} → may_access l size at ≡ true → Free t → StoreRow (InHelper StoreTail 17) (with_28_31 q a c u (slot_address t.count)) (entered_28 s) t Before 189
    t19 : {a c : ℕ} (s : Priv) {t : Tabs} → may_access l size at ≡ true → Free t → StoreRow (InHelper StoreTail 18) (with_28_31 q a c at (slot_address t.count)) (entered_28 s) t Before 188
    t20 : {a c : ℕ} (s : Priv) {t : Tabs} → may_access l size at ≡ true → Free t → StoreRow (InHelper StoreTail 19) (with_28_31 q a c (256 * region) (slot_address t.count)) (entered_28 s) t Before 187
    t21 : {a from to : ℕ} (k : ℕ) (s : Priv) {t : Tabs} → may_access l size at ≡ true → Free t → IsRound t k k k from to → StoreRow (InHelper StoreTail 20) (with_28_31 q a (slot_address t.count + 256) from to) (entered_28 s) t (Copying (8 * k)) (26 + 5 * (32 - k))
    t22 : {a from to : ℕ} (k : ℕ) (s : Priv) {t : Tabs} → may_access l size at ≡ true → Free t → IsRound t k k k from to → AreBytes a k → StoreRow (InHelper StoreTail 21) (with_28_31 q a (slot_address t.count + 256) from to) (entered_28 s) t (Copying (8 * k)) (25 + 5 * (32 - k))
    t23 : {a from to : ℕ} (k : ℕ) (s : Priv) {t : Tabs} → may_access l size at ≡ true → Free t → IsRound t k k k from to → StoreRow (InHelper StoreTail 22) (with_28_31 q a (slot_address t.count + 256) from to) (entered_28 s) t (Copying (8 * (k + 1))) (24 + 5 * (32 - k))
    t24 : {a from to : ℕ} (k : ℕ) (s : Priv) {t : Tabs} → may_access l size at ≡ true → Free t → IsRound t k (k + 1) k from to → StoreRow (InHelper StoreTail 23) (with_28_31 q a (slot_address t.count + 256) from to) (entered_28 s) t (Copying (8 * (k + 1))) (23 + 5 * (32 - k))
    t25 : {a from to : ℕ} (k : ℕ) (s : Priv) {t : Tabs} → may_access l size at ≡ true → Free t → IsRound t k (k + 1) (k + 1) from to → StoreRow (InHelper StoreTail 24) (with_28_31 q a (slot_address t.count + 256) from to) (entered_28 s) t (Copying (8 * (k + 1))) (22 + 5 * (32 - k))
    -- the slot's word of the list, the count, and the entry
    t26 : {a c u v : ℕ} (s : Priv) {t : Tabs} → may_access l size at ≡ true → Free t → StoreRow (InHelper StoreTail 25) (with_28_31 q a c u v) (entered_28 s) t (Copying 256) 26
    t27 : {c u v : ℕ} (s : Priv) {t : Tabs} → may_access l size at ≡ true → Free t → StoreRow (InHelper StoreTail 26) (with_28_31 q list_start c u v) (entered_28 s) t (Copying 256) 25
    t28 : {u v : ℕ} (s : Priv) {t : Tabs} → may_access l size at ≡ true → Free t → StoreRow (InHelper StoreTail 27) (with_28_31 q list_start t.count u v) (entered_28 s) t (Copying 256) 24
    t29 : {v : ℕ} (s : Priv) {t : Tabs} → may_access l size at ≡ true → Free t → StoreRow (InHelper StoreTail 28) (with_28_31 q list_start t.count (4 * t.count) v) (entered_28 s) t (Copying 256) 23
    t30 : {v : ℕ} (s : Priv) {t : Tabs} → may_access l size at ≡ true → Free t → StoreRow (InHelper StoreTail 29) (with_28_31 q list_start t.count (list_start + 4 * t.count) v) (entered_28 s) t (Copying 256) 22
    t31 : (s : Priv) {t : Tabs} → may_access l size at ≡ true → Free t → StoreRow (InHelper StoreTail 30) (with_28_31 q list_start t.count (list_start + 4 * t.count) spot) (entered_28 s) t (Copying 256) 21
    t32 : {u : ℕ} (s : Priv) {t : Tabs} → may_access l size at ≡ true → Free t → t.listed t.count ≡ spot → StoreRow (InHelper StoreTail 31) (with_28_31 q list_start t.count u spot) (entered_28 s) t Listed 20
    t33 : {u : ℕ} (s : Priv) {t : Tabs} → may_access l size at ≡ true → Free t → t.listed t.count ≡ spot → StoreRow (InHelper StoreTail 32) (with_28_31 q list_start (t.count + 1) u spot) (entered_28 s) t Listed 19
    t34 : {a u : ℕ} (s : Priv) {t : Tabs} → may_access l size at ≡ true → Counted t → StoreRow (InHelper StoreTail 33) (with_28_31 q a t.count u spot) (entered_28 s) t Counting 18
    t35 : {a e u v : ℕ} (s : Priv) {t : Tabs} → may_access l size at ≡ true → IsEntry t e → StoreRow (InHelper StoreTail 34) (with_28_31 q a e u v) (entered_28 s) t Found 17
    t36 : {a c e u : ℕ} (s : Priv) {t : Tabs} → may_access l size at ≡ true → IsEntry t e → StoreRow (InHelper StoreTail 35) (with_28_31 q a c u e) (entered_28 s) t Found 16
    t37 : {a e u : ℕ} (s : Priv) {t : Tabs} → may_access l size at ≡ true → IsEntry t e → StoreRow (InHelper StoreTail 36) (with_28_31 q a q.x29 u e) (entered_28 s) t Found 15
    -- it has a copy: the place in it
    t38 : {u : ℕ} (s : Priv) {t : Tabs} → may_access l size at ≡ true → (t.entry region == 0) ≡ false → StoreRow (InHelper StoreTail 37) (with_30_31 q u (t.entry region)) (kept s) t Found 14
    t39 : {v : ℕ} (s : Priv) {t : Tabs} → may_access l size at ≡ true → (t.entry region == 0) ≡ false → StoreRow (InHelper StoreTail 38) (with_30_31 q (256 * t.entry region) v) (kept s) t Found 13
    t40 : (s : Priv) {t : Tabs} → may_access l size at ≡ true → (t.entry region == 0) ≡ false → StoreRow (InHelper StoreTail 39) (with_30_31 q (256 * t.entry region) copies_start) (kept s) t Found 12
    t41 : {v : ℕ} (s : Priv) {t : Tabs} → may_access l size at ≡ true → (t.entry region == 0) ≡ false → StoreRow (InHelper StoreTail 40) (with_30_31 q (copies_start + 256 * t.entry region) v) (kept s) t Found 11
    t42 : (s : Priv) {t : Tabs} → may_access l size at ≡ true → (t.entry region == 0) ≡ false → StoreRow (InHelper StoreTail 41) (with_30_31 q (copies_start + 256 * t.entry region) at) (kept s) t Found 10
    t43 : (s : Priv) {t : Tabs} → may_access l size at ≡ true → (t.entry region == 0) ≡ false → StoreRow (InHelper StoreTail 42) (with_30_31 q (copies_start + 256 * t.entry region) (at % 256)) (kept s) t Found 9
    t44 : {u : ℕ} (s : Priv) {t : Tabs} → may_access l size at ≡ true → (t.entry region == 0) ≡ false → StoreRow (InHelper StoreTail 43) (with_30_31 q u (copies_start + 256 * t.entry region + at % 256)) (kept s) t Found 8
    t45 : {u : ℕ} (s : Priv) {t : Tabs} → may_access l size at ≡ true → (t.entry region == 0) ≡ false → StoreRow (InHelper StoreTail 44) (with_30_31 q u (copy_place (t.entry region) at)) (kept s) t Found 7
    t46 : (s : Priv) {t : Tabs} → may_access l size at ≡ true → (t.entry region == 0) ≡ false → StoreRow (InHelper StoreTail 45) (with_30_31 q back (copy_place (t.entry region) at)) (kept s) t Found 6
    -- the block: the number is stored, of x31 by x30 where that is stored, and both are the program's again
    b6 : {u : ℕ} (s : Priv) {t : Tabs} → may_access l size at ≡ true → (t.entry region == 0) ≡ false → StoreRow (InBlock 6) (with_30_31 q u (copy_place (t.entry region) at)) (kept s) t Found 5
    b7 : (s : Priv) {t : Tabs} → may_access l size at ≡ true → (t.entry region == 0) ≡ false → (rs2 == 31) ≡ false → StoreRow (InBlock 7) (with_31 q (copy_place (t.entry region) at)) (kept s) t Found 4
    b8 : {place : ℕ} (s : Priv) {t : Tabs} → may_access l size at ≡ true → (t.entry region == 0) ≡ false → (rs2 == 31) ≡ false → StoreRow (InBlock 8) (with_31 q place) (kept s) t After 2
    b9 : (s : Priv) {t : Tabs} → may_access l size at ≡ true → (t.entry region == 0) ≡ false → (rs2 == 31) ≡ false → StoreRow (InBlock 9) q (kept s) t After 1
    x7 : (s : Priv) {t : Tabs} → may_access l size at ≡ true → (t.entry region == 0) ≡ false → (rs2 == 31) ≡ true → StoreRow (InBlock 7) (with_30_31 q q.x31 (copy_place (t.entry region) at)) (kept s) t Found 4
    x8 : {value place : ℕ} (s : Priv) {t : Tabs} → may_access l size at ≡ true → (t.entry region == 0) ≡ false → (rs2 == 31) ≡ true → StoreRow (InBlock 8) (with_30_31 q value place) (kept s) t After 3
    x9 : {place : ℕ} (s : Priv) {t : Tabs} → may_access l size at ≡ true → (t.entry region == 0) ≡ false → (rs2 == 31) ≡ true → StoreRow (InBlock 9) (with_31 q place) (kept s) t After 2
    x10 : (s : Priv) {t : Tabs} → may_access l size at ≡ true → (t.entry region == 0) ≡ false → (rs2 == 31) ≡ true → StoreRow (InBlock 10) q (kept s) t After 1
    -- all slots are in use
    full : {rs : Regs} (s : Priv) {t : Tabs} → may_access l size at ≡ true → (t.entry region == 0) ≡ true → t.count ≡ l.regions → StoreRow (InHelper FullUp 0) rs s t Before 1

  -- ---- tables and bytes

  -- each byte of the program's memory that is known is what the shadow has in its place
  abbrev pub Viewed : (ℕ → Option ℕ) → Memory → Tabs → Memory → Type 0
  Viewed bytes program t m = (a : ℕ) → range_start ≤ a → a < range_end l.version → Allows (bytes a) (seen t m program a)

  -- the first n bytes of a slot are the region's
  abbrev pub HasBytes : ℕ → ℕ → Memory → Type 0
  HasBytes n slot m = (o : ℕ) → o < n → Allows (bytes (256 * region + o)) (m (slot_address slot + o))

  -- the tables behind the store, for those at word 1
  pub record Settled (t0 t : Tabs) : Type 0 where
    pub tables : t ≡ slotted t0 region
    pub room : (t0.entry region == 0) ≡ true → t0.count < l.regions

  -- tables and bytes at a stage, for the tables at word 1
  abbrev pub AtStage : Memory → Tabs → Stage → Tabs → Memory → Type 0
  AtStage program t0 Before t m = Viewed bytes program t m × (t ≡ t0)
  AtStage program t0 (Copying n) t m = Viewed bytes program t m × HasBytes n t.count m × (t ≡ t0)
  AtStage program t0 Listed t m = Viewed bytes program t m × HasBytes 256 t.count m × Free t0 × (t ≡ with_named t0 region)
  AtStage program t0 Counting t m = Viewed bytes program t m × HasBytes 256 (t.count - 1) m × Free t0 × (t ≡ with_counted t0 region)
  AtStage program t0 Found t m = Viewed bytes program t m × Settled t0 t
  AtStage program t0 After t m = Viewed (with_stored at (store_width op) (get rs2 q) bytes) program t m × Settled t0 t

  -- the rows of the block and of both helpers, each with its tables and bytes
  abbrev pub StoresRow : Memory → Tabs → Place → Regs → Priv → Tabs → Memory → ℕ → Type 0
  StoresRow program t0 place rs s t m n =
      (CheckRow l (Storing size) size at back q place rs s t n × AtStage program t0 Before t m) ⊎ ((stage : Stage) × StoreRow place rs s t stage n × AtStage program t0 stage t m)

  -- at the next instruction all registers are the program's, the bytes are stored, and their region has a copy: the one that it had at word 1, or else one in the next slot
  pub record StoreArrives (program : Memory) (t0 : Tabs) (target : ℕ) (rs : Regs) (t : Tabs) (m : Memory) : Type 0 where
    pub next : target ≡ p + 4
    pub may : may_access l size at ≡ true
    pub registers : rs ≡ q
    pub copied : (t.entry region == 0) ≡ false
    pub settled : Settled t0 t
    pub viewed : Viewed (with_stored at (store_width op) (get rs2 q) bytes) program t m

  -- it parks where the program would trap, or where its region had no copy at word 1 and all slots were in use
  pub data StoreParks (t0 : Tabs) : Park → Type 0 where
    faults : may_access l size at ≡ false → StoreParks t0 park.Fault
    full_up : may_access l size at ≡ true → (t0.entry region == 0) ≡ true → t0.count ≡ l.regions → StoreParks t0 park.Regions

-- each word of a store leads to its next row, to the next block, or to a park; t0 are the tables at word 1. Where bytes are known, all that the program range has are below 256
abbrev pub StoreLeads : Type 0
StoreLeads =
    (l : Layout) (p : ℕ) (op : StoreOp) (rs1 rs2 : ℕ) (imm : ℤ) (q : Regs) (bytes : ℕ → Option ℕ) (program : Memory) (t0 : Tabs) → IsInstruction l p
    → ((a v : ℕ) → bytes a ≡ Some v → (x : ℕ) → range_start ≤ x → x < range_end l.version → program x < 256)
    → (n : ℕ) (place : Place) (rs : Regs) (s : Priv) (t : Tabs) (m : Memory) → TableOk l t
    → StoresRow l p op rs1 rs2 imm q bytes program t0 place rs s t m n
    → Led l program (block_at l p) (λ place rs s t' m' k. StoresRow l p op rs1 rs2 imm q bytes program t0 place rs s t' m' k × Leaves t m t' m')
    (λ target rs t' m'. StoreArrives l p op rs1 rs2 imm q bytes program t0 target rs t' m' × Leaves t m t' m') (λ cause t' m'. StoreParks l p op rs1 rs2 imm q bytes t0 cause × Leaves t m t' m') n
    (exec_some (block_at l p) (code l (block l p (Store op rs1 rs2 imm)) place) (record { place = place; regs = rs; priv = s; tabs = t }) m)

-- the program may access the address just where its store doesn't trap
abbrev pub StoreTraps : Type 0
StoreTraps =
    (l : Layout) (op : StoreOp) (a v : ℕ)
    → (may_access l (store_size op) a ≡ false → (t : Trap) × (store_effect (data_rights l) a (store_width op) v ≡ Trapped t))
    × (may_access l (store_size op) a ≡ true → store_effect (data_rights l) a (store_width op) v ≡ Stored a (store_width op) v)

-- Each word of a store's block, and of the helpers that it calls, goes on to the next one with fewer
-- words left, at most 227 from word 1 on, to the block of the next instruction, or parks. It parks
-- only where the program's store would trap, or where the region had no copy at word 1 and all slots
-- were in use. At the next block each register is as it was at word 1, the region has a copy, in the
-- next slot if it had none, and the bytes that are known of what the shadow has in place of the
-- program's memory are those before the store, but for those that it stored. Table and list are
-- consistent behind each word, and each copy stays. Other moves may come between two words, where
-- they change bytes that aren't known or whose region has a copy, and nothing of the copies.

-- at word 1 of its block there are 227 words left at most
abbrev pub StoreStarts : Type 0
StoreStarts =
    (l : Layout) (p : ℕ) (op : StoreOp) (rs1 rs2 : ℕ) (imm : ℤ) (q : Regs) (bytes : ℕ → Option ℕ) (program : Memory) (s : Priv) (t : Tabs) (m : Memory)
    → Viewed l p op rs1 rs2 imm q bytes bytes program t m → StoresRow l p op rs1 rs2 imm q bytes program t (InBlock 1) q s t m 227

-- between two words the program's memory may change in bytes that aren't known or whose region has a copy, and what is shared below the copies may change while the tables stay
abbrev pub StoreKeeps : Type 0
StoreKeeps =
    (l : Layout) (p : ℕ) (op : StoreOp) (rs1 rs2 : ℕ) (imm : ℤ) (q : Regs) (bytes : ℕ → Option ℕ) (program program' : Memory) (t0 : Tabs)
    → (n : ℕ) (place : Place) (rs : Regs) (s : Priv) (t : Tabs) (m m' : Memory)
    → ((a v : ℕ) → range_start ≤ a → a < range_end l.version → (t.entry (a / 256) == 0) ≡ true → bytes a ≡ Some v → program' a ≡ program a)
    → ((a : ℕ) → copies_start ≤ a → m' a ≡ m a)
    → StoresRow l p op rs1 rs2 imm q bytes program t0 place rs s t m n → StoresRow l p op rs1 rs2 imm q bytes program' t0 place rs s t m' n
