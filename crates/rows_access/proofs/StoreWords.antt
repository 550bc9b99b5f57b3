-- Each word of a store's block, and of the helpers that it calls, leads to its next row, to the next block, or to a park.
use Rattle.std.proofs.Common.{◌≡◌, ℕ, ◌+◌, ◌-◌, ◌*◌, ◌/◌, ◌%◌, ◌^◌, ◌<◌, ◌≤◌, inl, inr, Bool, true, false, not, ◌==◌, ℤ, pos, negsuc, List, ◌++◌, refl, ◌∙◌, ap, sym, subst, arith, cond, nat_lt, nat_le, bit_and, Option, Some}
use Rattle.std.proofs.lemmas.Bool.Decides.{nat_tests}
use Rattle.std.proofs.lemmas.Nat.Bits.{and_high_mask}
use Rattle.std.proofs.lemmas.Bool.{lt-ltb}
use Rattle.spec_base.specs.Word.{wrap, plus_int, byte_of}
use Rattle.spec_base.specs.Layout.{helpers_start, list_start, copies_start, range_start, range_end}
use Rattle.spec_base.specs.declared.layout.Layout.{Layout}
use Rattle.rv_decode.specs.declared.instr.Instr.{Instr}
use Rattle.rv_decode.specs.declared.instr.Instr.TheVariants.{Store}
use Rattle.rv_decode.specs.declared.instr.LoadOp.TheVariants.{Ld}
use Rattle.rv_decode.specs.declared.instr.StoreOp.{StoreOp}
use Rattle.rv_decode.specs.declared.instr.StoreOp.TheVariants.{Sb, Sh, Sw, Sd}
use Rattle.rv_model.specs.Memory.{Memory, stored}
use Rattle.rv_model.specs.Arithmetic.{store_width}
use Rattle.rv_model.specs.Effect.{even}
use Rattle.code_model.specs.Assembly.{lo}
use Rattle.code_model.specs.Blocks.{block, with_pad, access_words, store_helper, store_end}
use Rattle.code_model.specs.Places.{block_at}
use Rattle.code_model.specs.Regions.{entry_address, listed_address, slot_address, copy_place}
use Rattle.side_model.specs.Hart.{Regs, get, Priv}
use Rattle.code_model.specs.Tables.{Tabs, TableOk, all_regions}
use Rattle.side_model.specs.Tables.{with_value}
use Rattle.side_model.specs.Places.{Width, W1, W2, W4, W8, width_of, Storing, StoreTail, FullUp, offset_of, Place, InBlock, InHelper, Away, code, is_inner, HasBlock, IsInstruction}
use Rattle.side_model.specs.Words.{Out, Goes, Loads, Stores, exec_some}
use Rattle.side_model.specs.Rows.{Led, on, leaps, arrives, takes_entry, takes_count, takes_program, puts_entry, puts_count, puts_listed, puts_copy, parks}
use Rattle.side_model.specs.JumpRows.{high_part, with_31, with_30_31}
use Rattle.side_model.proofs.Numbers.{hi_lo, TextFits, text-fits}
use Rattle.side_model.proofs.JumpWords.{forks}
use Rattle.rows_access.specs.Accesses.{store_size, may_access, Allows, saved, Leaves}
use Rattle.rows_access.specs.CheckRows.{c1}
use Rattle.rows_access.specs.StoreRows.{with_28_31, Stage, Before, After, Free, IsRound, AreBytes, Counted, IsEntry, StoreRow, b1, b2, b3, b4, b5, b6, b7, b8, b9, x7, x8, x9, x10, full, t1, t2, t3, t4, t5, t6, t7, t8, t9, t10, t11, t12, t13, t14, t15, t16, t17, t18, t19, t20, t21, t22, t23, t24, t25, t26, t27, t28, t29, t30, t31, t32, t33, t34, t35, t36, t37, t38, t39, t40, t41, t42, t43, t44, t45, t46, Viewed, HasBytes, AtStage, StoresRow, StoreArrives, StoreParks, faults, full_up, StoreLeads, StoreStarts, with_stored, with_named, with_counted, with_slot, Settled}
use Rattle.rows_access.proofs.Reach.{Reached, reached, some-width, RegionIn, region-in}
use Rattle.rows_access.proofs.CheckWords.{Checks, check-words, turned, turned_back}
use Rattle.rows_access.proofs.AccessPlaces.{store-width, and_255, entry-offset, entry-at, entry-from, slot-bytes, copied-place, entry-most, InCopies, in-copies, place-from}
use Rattle.rows_access.proofs.Lists.{elsewhere, there, ok-listed, ok-count, ok-entry}
use Rattle.rows_access.proofs.Copies.{patch-outside, viewed-outside, viewed-new, viewed-entry, taken, has-more, viewed-stored}

-- the jump from a store's block to its helper
to_helper : (op : StoreOp) → even (plus_int (high_part (helpers_start + store_helper op)) (lo (helpers_start + store_helper op))) ≡ helpers_start + offset_of (Storing (store_size op)) + 4 * 0
to_helper Sb = refl
to_helper Sh = refl
to_helper Sw = refl
to_helper Sd = refl

-- each helper of stores checks
checks : (l : Layout) (w : Width) → Checks l w (Storing w) StoreTail
checks l w = record { words = refl; before = by_width w; behind = omega arith; near = omega arith }
  where
    by_width : (w : Width) → offset_of (Storing w) ≤ 0x1C0
    by_width W1 = omega arith
    by_width W2 = omega arith
    by_width W4 = omega arith
    by_width W8 = omega arith

-- all bits but the lowest 8
and_high : (n : ℕ) → n < 2 ^ 64 → bit_and n (2 ^ 64 - 256) ≡ 256 * (n / 256)
and_high n h = let e : bit_and n (2 ^ 64 - 256) ≡ n / 256 * 256 = and_high_mask 64 8 (omega arith) n h in omega (arith, e)

module _ (l : Layout) (p : ℕ) (op : StoreOp) (rs1 rs2 : ℕ) (imm : ℤ) (q : Regs) (bytes : ℕ → Option ℕ) (program : Memory) (t0 : Tabs) (is : IsInstruction l p)
    (small : (a v : ℕ) → bytes a ≡ Some v → (x : ℕ) → range_start ≤ x → x < range_end l.version → program x < 256) where
  abbrev at : ℕ
  at = plus_int (get rs1 q) imm

  abbrev size : Width
  size = store_size op

  abbrev region : ℕ
  region = at / 256

  abbrev spot : ℕ
  spot = entry_address region

  abbrev base : ℕ
  base = block_at l p

  abbrev back : ℕ
  back = base + 24

  abbrev free : Tabs → Type 0
  free t = Free l p op rs1 rs2 imm q bytes t

  abbrev round : Tabs → ℕ → ℕ → ℕ → ℕ → ℕ → Type 0
  round t k taken put from to = IsRound l p op rs1 rs2 imm q bytes t k taken put from to

  abbrev viewed : Tabs → Memory → Type 0
  viewed t m = Viewed l p op rs1 rs2 imm q bytes bytes program t m

  abbrev has_bytes : ℕ → ℕ → Memory → Type 0
  has_bytes n slot m = HasBytes l p op rs1 rs2 imm q bytes n slot m

  abbrev settled : Tabs → Type 0
  settled t = Settled l p op rs1 rs2 imm q bytes t0 t

  -- a word with n words left, from these tables and this memory
  abbrev led : Tabs → Memory → ℕ → Out → Type 0
  led t m n o = Led l program base (λ place rs s t' m' k. StoresRow l p op rs1 rs2 imm q bytes program t0 place rs s t' m' k × Leaves t m t' m')
      (λ target rs t' m'. StoreArrives l p op rs1 rs2 imm q bytes program t0 target rs t' m' × Leaves t m t' m') (λ cause t' m'. StoreParks l p op rs1 rs2 imm q bytes t0 cause × Leaves t m t' m') n o

  -- the words of the block, by whether x31 is stored
  abbrev words : Bool → List Instr
  words b = with_pad (access_words (store_helper op) rs1 imm ++ store_end b op rs2)

  abbrev leads_by : Bool → ℕ → Place → Regs → Priv → Tabs → Memory → Type 0
  leads_by b n place rs s t m = led t m n (exec_some base (code l (words b) place) (record { place = place; regs = rs; priv = s; tabs = t }) m)

  abbrev leads : ℕ → Place → Regs → Priv → Tabs → Memory → Type 0
  leads n place rs s t m = leads_by (rs2 == 31) n place rs s t m

  left : {t : Tabs} {m : Memory} → Leaves t m t m
  left = record { below = λ a h. refl; copies = λ x h. refl }

  text : TextFits l
  text = text-fits l is.lawful

  -- ---- numbers

  -- the block returns to its word 6
  returns : even (plus_int back (pos 0)) ≡ base + 4 * 6
  returns = omega (arith, is.above, is.below, text.few)

  -- and goes on at word 1 of the next block
  onto_next_9 : plus_int (base + 4 * 9) (pos 32) ≡ block_at l (p + 4) + 4
  onto_next_9 = omega (arith, is.above, is.below, text.few)

  onto_next_10 : plus_int (base + 4 * 10) (pos 28) ≡ block_at l (p + 4) + 4
  onto_next_10 = omega (arith, is.above, is.below, text.few)

  next_block : HasBlock l (p + 4)
  next_block = record { above = omega (arith, is.above); below = omega (arith, is.below, is.whole, text.end); whole = omega (arith, is.above, is.whole, text.start) }

  -- what is so of an address that may be accessed
  inside : may_access l size at ≡ true → Reached l size at
  inside f = reached l size at f

  below : may_access l size at ≡ true → at < 0x4000_0000
  below f = let r : Reached l size at = inside f in let some : 0 < width_of size = some-width size in omega (arith, r.below, r.most)

  region-inside : may_access l size at ≡ true → region < all_regions l
  region-inside f = let r : Reached l size at = inside f in r.region

  entry : (t : Tabs) → TableOk l t → may_access l size at ≡ true → t.entry region ≤ 65536
  entry t ok f = omega (arith, entry-most l t region ok (region-inside f), text.regions_few)

  -- a slot that is free
  under : (t : Tabs) → free t → t.count < 65536
  under t f = omega (arith, f.room, text.regions_few)

  -- a word of the list, the count and an entry are above what is below the table, and below the copies
  listed-most : (t : Tabs) → free t → listed_address t.count + 4 ≤ copies_start
  listed-most t f = omega (arith, under t f)

  spot-most : may_access l size at ≡ true → spot + 4 ≤ copies_start
  spot-most f = omega (arith, below f)

  -- ---- tables

  -- those at word 1 had no copy and a free slot, where those at hand do
  free-before : (t : Tabs) → t ≡ t0 → free t → free t0
  free-before t o g = subst free o g

  -- the region had a copy
  had : (t : Tabs) → t ≡ t0 → (t.entry region == 0) ≡ false → settled t
  had t o e =
      let e0 : (t0.entry region == 0) ≡ false = subst (λ (t : Tabs). (t.entry region == 0) ≡ false) o e in
      record { tables = o ∙ sym (ap (λ (b : Bool). cond b (with_slot t0 region) t0) e0); room = λ none. absurd (no (sym e0 ∙ none)) }
    where
      no : false ≡ true → ⊥
      no e = cc

  -- it has got one
  got : (t : Tabs) → t ≡ with_counted t0 region → free t0 → settled (record t { entry = with_value region t.count t.entry })
  got t o g =
      record {
        tables = ap (λ (t : Tabs). record t { entry = with_value region t.count t.entry }) o ∙ sym (ap (λ (b : Bool). cond b (with_slot t0 region) t0) g.none);
        room = λ none. g.room;
      }

  -- ---- a branch to a new copy, or to the place in an old one

  t6-goes : (s : Priv) (t : Tabs) (m : Memory) → TableOk l t → may_access l size at ≡ true → viewed t m → t ≡ t0
      → led t m 201 (Goes (record { place = cond (not (t.entry region == 0)) (Away (plus_int (helpers_start + 0x27C + 4 * 5) (pos 128))) (InHelper StoreTail 6); regs = with_30_31 q spot (t.entry region); priv = saved at back q s; tabs = t }) m)
  t6-goes s t m ok f v o =
      forks (not (t.entry region == 0))
      (λ e. leaps (InHelper StoreTail 37) refl (on (inr (_, t38 s f (turned e), (v, had t o (turned e))), left) ok refl refl))
      (λ e. on (inr (_, t7 s f (turned_back e), (v, o)), left) ok refl refl)

  -- ---- the rounds

  -- word 21: 8 bytes of the region
  t21-loads : (a from to k : ℕ) (s : Priv) (t : Tabs) (m : Memory) → TableOk l t → may_access l size at ≡ true → free t → round t k k k from to → viewed t m → has_bytes (8 * k) t.count m → t ≡ t0
      → led t m (26 + 5 * (32 - k))
      (Loads Ld 28 (plus_int from (pos 0)) (record { place = InHelper StoreTail 21; regs = with_28_31 q a (slot_address t.count + 256) from to; priv = record (saved at back q s) { x29 = q.x29; x28 = q.x28; ent = spot }; tabs = t }) m)
  t21-loads a from to k s t m ok f g r v h o =
      let i : RegionIn l region = region-in l size at (inside f) in
      let e : from ≡ plus_int from (pos 0) = omega (arith, r.source, r.low, below f) in
      subst (λ (x : ℕ). led t m (26 + 5 * (32 - k))
      (Loads Ld 28 x (record { place = InHelper StoreTail 21; regs = with_28_31 q a (slot_address t.count + 256) from to; priv = record (saved at back q s) { x29 = q.x29; x28 = q.x28; ent = spot }; tabs = t }) m)) e
      (takes_program (omega (arith, r.source)) (omega (arith, r.source, i.above)) (omega (arith, r.source, r.low, i.below))
      (on (inr (_, t22 k s f g r (taken l program bytes small t m region k from r.low r.source i.above i.below g.none v), (v, h, o)), left) ok (lt-ltb _ _ (omega arith)) refl))

  -- word 22: they are put into the slot
  t22-stores : (a from to k : ℕ) (s : Priv) (t : Tabs) (m : Memory) → TableOk l t → may_access l size at ≡ true → free t → round t k k k from to → AreBytes l p op rs1 rs2 imm q bytes a k → viewed t m → has_bytes (8 * k) t.count m → t ≡ t0
      → led t m (25 + 5 * (32 - k))
      (Stores Sd (plus_int to (pos 0)) a (record { place = InHelper StoreTail 22; regs = with_28_31 q a (slot_address t.count + 256) from to; priv = record (saved at back q s) { x29 = q.x29; x28 = q.x28; ent = spot }; tabs = t }) m)
  t22-stores a from to k s t m ok f g r new v h o =
      let e : to ≡ plus_int to (pos 0) = omega (arith, r.target, r.low, under t g) in
      subst (λ (x : ℕ). led t m (25 + 5 * (32 - k))
      (Stores Sd x a (record { place = InHelper StoreTail 22; regs = with_28_31 q a (slot_address t.count + 256) from to; priv = record (saved at back q s) { x29 = q.x29; x28 = q.x28; ent = spot }; tabs = t }) m)) e
      (puts_copy (omega (arith, r.target)) (omega (arith, r.target)) (omega (arith, r.target, r.low, g.room))
      (on (
        inr (
          _,
          t23 k s f g r,
          (
            viewed-new l program bytes t m (stored m to 8 a) ok (λ x d. patch-outside m to 8 (byte_of a) x (inl (omega (arith, r.target, d)))) v,
            has-more bytes m region t.count k to a r.target new h,
            o,
          ),
        ),
        record { below = λ x d. patch-outside m to 8 (byte_of a) x (inl (omega (arith, r.target, d))); copies = λ x d. refl },
      ) ok (lt-ltb _ _ (omega arith)) refl))

  -- word 25: the next round, or the list
  t25-goes : (a from to k : ℕ) (s : Priv) (t : Tabs) (m : Memory) → TableOk l t → may_access l size at ≡ true → free t → round t k (k + 1) (k + 1) from to → viewed t m → has_bytes (8 * (k + 1)) t.count m → t ≡ t0
      → led t m (22 + 5 * (32 - k))
      (Goes (record { place = cond (nat_lt to (slot_address t.count + 256)) (Away (plus_int (helpers_start + 0x27C + 4 * 24) (negsuc 15))) (InHelper StoreTail 25); regs = with_28_31 q a (slot_address t.count + 256) from to; priv = record (saved at back q s) { x29 = q.x29; x28 = q.x28; ent = spot }; tabs = t }) m)
  t25-goes a from to k s t m ok f g r v h o =
      forks (nat_lt to (slot_address t.count + 256))
      (λ e.
      let more : k + 1 < 32 = let d : to < slot_address t.count + 256 = grind (arith, nat_tests) in omega (arith, r.target, d) in
      leaps (InHelper StoreTail 20) refl (on (inr (_, t21 (k + 1) s f g (record { low = more; source = r.source; target = r.target }), (v, h, o)), left) ok (lt-ltb _ _ (omega (arith, more))) refl))
      (λ e.
      let all : 8 * (k + 1) ≡ 256 = let d : slot_address t.count + 256 ≤ to = grind (arith, nat_tests) in omega (arith, r.target, r.low, d) in
      on (inr (_, t26 s f g, (v, subst (λ (n : ℕ). has_bytes n t.count m) all h, o)), left) ok (lt-ltb _ _ (omega (arith, r.low))) refl)

  -- ---- list, count and entry

  -- word 31
  t31-stores : (s : Priv) (t : Tabs) (m : Memory) → TableOk l t → may_access l size at ≡ true → free t → viewed t m → has_bytes 256 t.count m → t ≡ t0
      → led t m 21
      (Stores Sw (plus_int (list_start + 4 * t.count) (pos 8)) spot (record { place = InHelper StoreTail 31; regs = with_28_31 q list_start t.count (list_start + 4 * t.count) spot; priv = record (saved at back q s) { x29 = q.x29; x28 = q.x28; ent = spot }; tabs = t }) m)
  t31-stores s t m ok f g v h o =
      let e : listed_address t.count ≡ plus_int (list_start + 4 * t.count) (pos 8) = omega (arith, under t g) in
      subst (λ (x : ℕ). led t m 21
      (Stores Sw x spot (record { place = InHelper StoreTail 31; regs = with_28_31 q list_start t.count (list_start + 4 * t.count) spot; priv = record (saved at back q s) { x29 = q.x29; x28 = q.x28; ent = spot }; tabs = t }) m)) e
      (puts_listed t.count refl g.room (omega (arith, below f))
      (on (
        inr (
          _,
          t32 s f (record { none = g.none; room = g.room }) (there t.count t.count spot t.listed (grind (arith, nat_tests))),
          (
            viewed-outside l program bytes t (record t { listed = with_value t.count spot t.listed }) m m' (λ x. refl) above v,
            λ o d. subst (Allows (bytes (256 * region + o))) (sym (above (slot_address t.count + o) (omega arith))) (h o d),
            free-before t o g,
            ap (λ (t : Tabs). with_named t region) o,
          ),
        ),
        record { below = λ x d. patch-outside m (listed_address t.count) 4 (byte_of spot) x (inl (omega (arith, d))); copies = λ x d. refl },
      ) (ok-listed l t ok spot) refl refl))
    where
      m' : Memory
      m' = stored m (listed_address t.count) 4 spot

      above : (x : ℕ) → copies_start ≤ x → m' x ≡ m x
      above x d = patch-outside m (listed_address t.count) 4 (byte_of spot) x (inr (omega (arith, d, listed-most t g)))

  -- word 33
  t33-stores : (u : ℕ) (s : Priv) (t : Tabs) (m : Memory) → TableOk l t → may_access l size at ≡ true → free t → t.listed t.count ≡ spot → viewed t m → has_bytes 256 t.count m → free t0 → t ≡ with_named t0 region
      → led t m 19
      (Stores Sd list_start (t.count + 1) (record { place = InHelper StoreTail 33; regs = with_28_31 q list_start (t.count + 1) u spot; priv = record (saved at back q s) { x29 = q.x29; x28 = q.x28; ent = spot }; tabs = t }) m)
  t33-stores u s t m ok f g named v h g0 o =
      puts_count refl (omega (arith, under t g))
      (on (
        inr (
          _,
          t34 s f (record { none = g.none; some = omega arith; listed = ap t.listed (sym slot) ∙ named }),
          (
            viewed-outside l program bytes t (record t { count = t.count + 1 }) m m' (λ x. refl) above v,
            subst (λ (n : ℕ). has_bytes 256 n m') slot (λ o d. subst (Allows (bytes (256 * region + o))) (sym (above (slot_address t.count + o) (omega arith))) (h o d)),
            g0,
            ap (λ (t : Tabs). record t { count = t.count + 1 }) o,
          ),
        ),
        record { below = λ x d. patch-outside m list_start 8 (byte_of (t.count + 1)) x (inl (omega (arith, d))); copies = λ x d. refl },
      ) (ok-count l t ok region (region-inside f) g.room named) refl refl)
    where
      m' : Memory
      m' = stored m list_start 8 (t.count + 1)

      above : (x : ℕ) → copies_start ≤ x → m' x ≡ m x
      above x d = patch-outside m list_start 8 (byte_of (t.count + 1)) x (inr (omega (arith, d)))

      slot : t.count ≡ t.count + 1 - 1
      slot = omega arith

  -- word 34
  t34-stores : (a u : ℕ) (s : Priv) (t : Tabs) (m : Memory) → TableOk l t → may_access l size at ≡ true → Counted l p op rs1 rs2 imm q bytes t → viewed t m → has_bytes 256 (t.count - 1) m → free t0 → t ≡ with_counted t0 region
      → led t m 18
      (Stores Sw (plus_int spot (pos 0)) t.count (record { place = InHelper StoreTail 34; regs = with_28_31 q a t.count u spot; priv = record (saved at back q s) { x29 = q.x29; x28 = q.x28; ent = spot }; tabs = t }) m)
  t34-stores a u s t m ok f g v h g0 o =
      subst (λ (x : ℕ). led t m 18
      (Stores Sw x t.count (record { place = InHelper StoreTail 34; regs = with_28_31 q a t.count u spot; priv = record (saved at back q s) { x29 = q.x29; x28 = q.x28; ent = spot }; tabs = t }) m)) (sym (entry-from at (below f)))
      (puts_entry region refl (region-inside f) (omega (arith, ok.count, text.regions_few))
      (on (
        inr (
          _,
          t35 s f (record { some = grind (arith, nat_tests, g.some); same = there region region t.count t.entry (grind (arith, nat_tests)) }),
          (viewed-entry l program bytes t m m' region g.some above h v, got t o g0),
        ),
        record { below = λ x d. patch-outside m spot 4 (byte_of t.count) x (inl (omega (arith, d))); copies = others },
      ) (ok-entry l t ok region g.some g.listed) refl refl))
    where
      m' : Memory
      m' = stored m spot 4 t.count

      above : (x : ℕ) → copies_start ≤ x → m' x ≡ m x
      above x d = patch-outside m spot 4 (byte_of t.count) x (inr (omega (arith, d, spot-most f)))

      others : (x : ℕ) → 0 < t.entry x → with_value region t.count t.entry x ≡ t.entry x
      others x some = by_test (x == region) refl
        where
          by_test : (b : Bool) → (x == region) ≡ b → with_value region t.count t.entry x ≡ t.entry x
          by_test true e =
              let is : x ≡ region = grind (arith, nat_tests) in
              let none : t.entry region ≡ 0 = grind (arith, nat_tests, g.none) in
              absurd (omega (arith, ap t.entry is, none, some))
          by_test false e = elsewhere region x t.count t.entry e

  -- word 37: the entry is the region's
  t37-goes : (e u : ℕ) (s : Priv) (t : Tabs) (m : Memory) → TableOk l t → may_access l size at ≡ true → IsEntry l p op rs1 rs2 imm q bytes t e → viewed t m × settled t
      → led t m 15 (Goes (record { place = InHelper StoreTail 37; regs = with_30_31 q u e; priv = record (saved at back q s) { x29 = q.x29; x28 = q.x28; ent = spot }; tabs = t }) m)
  t37-goes e u s t m ok f g v =
      subst (λ (x : ℕ). led t m 15 (Goes (record { place = InHelper StoreTail 37; regs = with_30_31 q u x; priv = record (saved at back q s) { x29 = q.x29; x28 = q.x28; ent = spot }; tabs = t }) m)) g.same
      (on (inr (_, t38 (record s { x29 = q.x29; x28 = q.x28; ent = spot }) f (subst (λ (x : ℕ). (x == 0) ≡ false) (sym g.same) g.some), v), left) ok refl refl)

  -- ---- the store

  -- the bytes go to the place in the copy
  stores : (n k : ℕ) (place : Place) (rs : Regs) (v : ℕ) (s : Priv) (t : Tabs) (m : Memory) → TableOk l t → may_access l size at ≡ true → (t.entry region == 0) ≡ false → viewed t m × settled t → v ≡ get rs2 q
      → StoreRow l p op rs1 rs2 imm q bytes place rs s t After k → nat_lt k n ≡ true → is_inner place ≡ true
      → led t m n (Stores op (plus_int (copy_place (t.entry region) at) (pos 0)) v (record { place = place; regs = rs; priv = s; tabs = t }) m)
  stores n k place rs v s t m ok f some view same row less inner =
      subst (λ (x : ℕ). led t m n (Stores op x v (record { place = place; regs = rs; priv = s; tabs = t }) m)) (sym (place-from to (omega (arith, entry t ok f))))
      (puts_copy (subst (λ (n : ℕ). to % n ≡ 0) w c.whole) c.above (subst (λ (n : ℕ). to + n ≤ copies_start + 256 * l.regions) w c.below)
      (on (
        inr (
          _,
          row,
          (
            subst (λ (n : ℕ). Viewed l p op rs1 rs2 imm q bytes (with_stored at n (get rs2 q) bytes) program t (stored m to n v)) w
                (subst (λ (x : ℕ). Viewed l p op rs1 rs2 imm q bytes (with_stored at (width_of size) x bytes) program t (stored m to (width_of size) v)) same
                (viewed-stored l program bytes t m size at v ok (inside f) some view.0)),
            view.1,
          ),
        ),
        record { below = λ x d. patch-outside m to (store_width op) (byte_of v) x (inl (omega (arith, d))); copies = λ x d. refl },
      ) ok less inner))
    where
      to : ℕ
      to = copy_place (t.entry region) at

      w : width_of size ≡ store_width op
      w = store-width op

      c : InCopies l size to
      c = let r : Reached l size at = inside f in in-copies l size at (t.entry region) r.whole (entry-most l t region ok r.region) some

  -- word 7, where the register isn't x31
  value : (place : ℕ) → (rs2 == 31) ≡ false → get rs2 (with_31 q place) ≡ get rs2 q
  value place e =
      ap (λ (b : Bool). cond (rs2 == 0) 0 (cond (rs2 == 28) q.x28 (cond (rs2 == 29) q.x29 (cond (rs2 == 30) q.x30 (cond b place (q.low rs2)))))) e
      ∙ sym (ap (λ (b : Bool). cond (rs2 == 0) 0 (cond (rs2 == 28) q.x28 (cond (rs2 == 29) q.x29 (cond (rs2 == 30) q.x30 (cond b q.x31 (q.low rs2)))))) e)

  -- where it is x31
  value-31 : (rs2 == 31) ≡ true → q.x31 ≡ get rs2 q
  value-31 e = let is : 31 ≡ rs2 = grind (arith, nat_tests) in ap (λ (r : ℕ). get r q) is

  -- word 6: x30 is the program's, or gets what is stored
  b6-goes : (u : ℕ) (s : Priv) (t : Tabs) (m : Memory) → TableOk l t → may_access l size at ≡ true → (t.entry region == 0) ≡ false → viewed t m × settled t → (b : Bool) → (rs2 == 31) ≡ b
      → leads_by b 5 (InBlock 6) (with_30_31 q u (copy_place (t.entry region) at)) (saved at back q s) t m
  b6-goes u s t m ok f e v true h = on (inr (_, x7 s f e h, v), left) ok refl refl
  b6-goes u s t m ok f e v false h = on (inr (_, b7 s f e h, v), left) ok refl refl

  -- a word of the block, where it is known whether x31 is stored
  by : (b : Bool) (n : ℕ) (place : Place) (rs : Regs) (s : Priv) (t : Tabs) (m : Memory) → (rs2 == 31) ≡ b → leads_by b n place rs s t m → leads n place rs s t m
  by b n place rs s t m e d = subst (λ (b : Bool). leads_by b n place rs s t m) (sym e) d

  -- each word of the block, and of STAIL
  store-words : {n : ℕ} {place : Place} {rs : Regs} {s : Priv} {t : Tabs} {stage : Stage} (m : Memory) → TableOk l t
      → StoreRow l p op rs1 rs2 imm q bytes place rs s t stage n → AtStage l p op rs1 rs2 imm q bytes program t0 stage t m → leads n place rs s t m
  store-words m ok (b1 s) v = on (inr (_, b2 s, v), left) ok refl refl
  store-words m ok (b2 s) v = on (inr (_, b3 s, v), left) ok refl refl
  store-words m ok (b3 s) v = on (inr (_, b4 s, v), left) ok refl refl
  store-words m ok (b4 s) v = on (inr (_, b5 s, v), left) ok refl refl
  store-words m ok (b5 s) v = leaps (InHelper (Storing size) 0) (to_helper op) (on (inl (c1 s, v), left) ok refl refl)
  store-words m ok (t1 s f) v = on (inr (_, t2 s f, v), left) ok refl refl
  store-words m ok (t2 s f) v = rw (entry-offset at (below f)) (on (inr (_, t3 s f, v), left) ok refl refl)
  store-words m ok (t3 s f) v = on (inr (_, t4 s f, v), left) ok refl refl
  store-words m ok (t4 s f) v = rw (entry-at at (below f)) (on (inr (_, t5 s f, v), left) ok refl refl)
  store-words m ok (t5 s f) v = takes_entry region (entry-from at (below f)) (region-inside f) (on (inr (_, t6 s f, v), left) ok refl refl)
  store-words m ok (t6 s {t} f) v = t6-goes s t m ok f v.0 v.1
  store-words m ok (t7 s f e) v = on (inr (_, t8 s f e, v), left) ok refl refl
  store-words m ok (t8 s f e) v = on (inr (_, t9 s f e, v), left) ok refl refl
  store-words m ok (t9 s f e) v = on (inr (_, t10 s f e, v), left) ok refl refl
  store-words m ok (t10 s f e) v = on (inr (_, t11 s f e, v), left) ok refl refl
  store-words m ok (t11 s f e) v = takes_count refl (on (inr (_, t12 s f e, v), left) ok refl refl)
  store-words m ok (t12 s f e) v = on (inr (_, t13 s f e, v), left) ok refl refl
  store-words m ok (t13 s f e) v = rw (hi_lo l.regions (omega (arith, text.regions_few))) (on (inr (_, t14 s f e, v), left) ok refl refl)
  store-words m ok (t14 s {t} f e) v =
      forks (nat_le l.regions t.count)
      (λ h. leaps (InHelper FullUp 0) refl (on (inr (_, full _ f e (grind (arith, nat_tests, ok.count)), v), left) ok refl refl))
      (λ h. on (inr (_, t15 s f (record { none = e; room = grind (arith, nat_tests) }), v), left) ok refl refl)
  store-words m ok (t15 s {t} f g) v =
      let k : wrap (t.count * 256) ≡ 256 * t.count = omega (arith, under t g) in rw k (on (inr (_, t16 s f g, v), left) ok refl refl)
  store-words m ok (t16 s f g) v = on (inr (_, t17 s f g, v), left) ok refl refl
  store-words m ok (t17 s {t} f g) v =
      let k : wrap (256 * t.count + copies_start) ≡ slot_address t.count = omega (arith, under t g) in rw k (on (inr (_, t18 s f g, v), left) ok refl refl)
  store-words m ok (t18 s f g) v = on (inr (_, t19 s f g, v), left) ok refl refl
  store-words m ok (t19 s f g) v = rw (and_high at (omega (arith, below f))) (on (inr (_, t20 s f g, v), left) ok refl refl)
  store-words m ok (t20 s {t} f g) v =
      let k : wrap (slot_address t.count + 256) ≡ slot_address t.count + 256 = omega (arith, under t g) in
      rw k (on (inr (_, t21 {from = 256 * region} {to = slot_address t.count} 0 s f g (record { low = omega arith; source = omega arith; target = omega arith }), (v.0, (λ o h. absurd (omega (arith, h))), v.1)), left) ok refl refl)
  store-words m ok (t21 k s {t} f g r) v = t21-loads _ _ _ k s t m ok f g r v.0 v.1 v.2
  store-words m ok (t22 k s {t} f g r new) v = t22-stores _ _ _ k s t m ok f g r new v.0 v.1 v.2
  store-words m ok (t23 k s f g r) v =
      on (inr (_, t24 k s f g (record { low = r.low; source = omega (arith, r.source, r.low, below f); target = r.target }), v), left) ok (lt-ltb _ _ (omega arith)) refl
  store-words m ok (t24 k s {t} f g r) v =
      on (inr (_, t25 k s f g (record { low = r.low; source = r.source; target = omega (arith, r.target, r.low, under t g) }), v), left) ok (lt-ltb _ _ (omega arith)) refl
  store-words m ok (t25 k s {t} f g r) v = t25-goes _ _ _ k s t m ok f g r v.0 v.1 v.2
  store-words m ok (t26 s f g) v = on (inr (_, t27 s f g, v), left) ok refl refl
  store-words m ok (t27 s f g) v = takes_count refl (on (inr (_, t28 s f g, v), left) ok refl refl)
  store-words m ok (t28 s {t} f g) v = let k : wrap (t.count * 4) ≡ 4 * t.count = omega (arith, under t g) in rw k (on (inr (_, t29 s f g, v), left) ok refl refl)
  store-words m ok (t29 s {t} f g) v =
      let k : wrap (4 * t.count + list_start) ≡ list_start + 4 * t.count = omega (arith, under t g) in rw k (on (inr (_, t30 s f g, v), left) ok refl refl)
  store-words m ok (t30 s f g) v = on (inr (_, t31 s f g, v), left) ok refl refl
  store-words m ok (t31 s {t} f g) v = t31-stores s t m ok f g v.0 v.1 v.2
  store-words m ok (t32 s {t} f g h) v = let k : wrap (t.count + 1) ≡ t.count + 1 = omega (arith, under t g) in rw k (on (inr (_, t33 s f g h, v), left) ok refl refl)
  store-words m ok (t33 s {t} f g h) v = t33-stores _ s t m ok f g h v.0 v.1 v.2 v.3
  store-words m ok (t34 s {t} f g) v = t34-stores _ _ s t m ok f g v.0 v.1 v.2 v.3
  store-words m ok (t35 {a} {e} s {t} f g) v =
      let k : wrap (e + 0) ≡ e = omega (arith, entry t ok f, g.same) in rw k (on (inr (_, t36 s f g, v), left) ok refl refl)
  store-words m ok (t36 s f g) v = on (inr (_, t37 s f g, v), left) ok refl refl
  store-words m ok (t37 s {t} f g) v = t37-goes _ _ s t m ok f g v
  store-words m ok (t38 s {t} f e) v = rw (slot-bytes (t.entry region) (entry t ok f)) (on (inr (_, t39 s f e, v), left) ok refl refl)
  store-words m ok (t39 s f e) v = on (inr (_, t40 s f e, v), left) ok refl refl
  store-words m ok (t40 s {t} f e) v =
      let k : wrap (256 * t.entry region + copies_start) ≡ copies_start + 256 * t.entry region = omega (arith, entry t ok f) in rw k (on (inr (_, t41 s f e, v), left) ok refl refl)
  store-words m ok (t41 s f e) v = on (inr (_, t42 s f e, v), left) ok refl refl
  store-words m ok (t42 s f e) v = rw (and_255 at) (on (inr (_, t43 s f e, v), left) ok refl refl)
  store-words m ok (t43 s {t} f e) v =
      let k : wrap (at % 256 + (copies_start + 256 * t.entry region)) ≡ copies_start + 256 * t.entry region + at % 256 = omega (arith, entry t ok f) in rw k (on (inr (_, t44 s f e, v), left) ok refl refl)
  store-words m ok (t44 s {t} f e) v = rw (copied-place at (t.entry region) e (entry t ok f)) (on (inr (_, t45 s f e, v), left) ok refl refl)
  store-words m ok (t45 s f e) v = on (inr (_, t46 s f e, v), left) ok refl refl
  store-words m ok (t46 s f e) v = leaps (InBlock 6) returns (on (inr (_, b6 s f e, v), left) ok refl refl)
  store-words m ok (b6 s {t} f e) v = b6-goes _ s t m ok f e v (rs2 == 31) refl
  store-words m ok (b7 s {t} f e h) v =
      by false 4 (InBlock 7) (with_31 q (copy_place (t.entry region) at)) (saved at back q s) t m h (stores 4 2 (InBlock 8) (with_31 q (copy_place (t.entry region) at)) _ (saved at back q s) t m ok f e v (value (copy_place (t.entry region) at) h) (b8 s f e h) refl refl)
  store-words m ok (b8 {place} s {t} f e h) v = by false 2 (InBlock 8) (with_31 q place) (saved at back q s) t m h (on (inr (_, b9 s f e h, v), left) ok refl refl)
  store-words m ok (b9 s {t} f e h) v =
      by false 1 (InBlock 9) q (saved at back q s) t m h (arrives (p + 4) onto_next_9 next_block (record { next = refl; may = f; registers = refl; copied = e; settled = v.1; viewed = v.0 }, left) ok)
  store-words m ok (x7 s {t} f e h) v =
      by true 4 (InBlock 7) (with_30_31 q q.x31 (copy_place (t.entry region) at)) (saved at back q s) t m h (stores 4 3 (InBlock 8) (with_30_31 q q.x31 (copy_place (t.entry region) at)) _ (saved at back q s) t m ok f e v (value-31 h) (x8 s f e h) refl refl)
  store-words m ok (x8 {value} {place} s {t} f e h) v = by true 3 (InBlock 8) (with_30_31 q value place) (saved at back q s) t m h (on (inr (_, x9 s f e h, v), left) ok refl refl)
  store-words m ok (x9 {place} s {t} f e h) v = by true 2 (InBlock 9) (with_31 q place) (saved at back q s) t m h (on (inr (_, x10 s f e h, v), left) ok refl refl)
  store-words m ok (x10 s {t} f e h) v =
      by true 1 (InBlock 10) q (saved at back q s) t m h (arrives (p + 4) onto_next_10 next_block (record { next = refl; may = f; registers = refl; copied = e; settled = v.1; viewed = v.0 }, left) ok)
  store-words m ok (full s f e c) v =
      parks (full_up f (subst (λ (t : Tabs). (t.entry region == 0) ≡ true) v.1 e) (subst (λ (t : Tabs). t.count ≡ l.regions) v.1 c), left) ok

  -- and of the helper that checks
  all-words : {n : ℕ} {place : Place} {rs : Regs} {s : Priv} {t : Tabs} (m : Memory) → TableOk l t → StoresRow l p op rs1 rs2 imm q bytes program t0 place rs s t m n → leads n place rs s t m
  all-words {t} m ok (inl (r, v)) =
      check-words l size (Storing size) StoreTail at back q base (block l p (Store op rs1 rs2 imm)) program text (checks l size)
      (λ place rs s t' m' k. StoresRow l p op rs1 rs2 imm q bytes program t0 place rs s t' m' k × Leaves t m t' m')
      (λ target rs t' m'. StoreArrives l p op rs1 rs2 imm q bytes program t0 target rs t' m' × Leaves t m t' m') (λ cause t' m'. StoreParks l p op rs1 rs2 imm q bytes t0 cause × Leaves t m t' m')
      (λ t' m'. AtStage l p op rs1 rs2 imm q bytes program t0 Before t' m' × Leaves t m t' m') (λ place rs s t' m' k r v. (inl (r, v.0), v.1)) 206 refl (λ u s t' m' f v. (inr (Before, t1 s f, v.0), v.1)) (λ t' m' f v. (faults f, v.1)) m ok (v, left) r
  all-words m ok (inr (stage, r, v)) = store-words m ok r v

pub store_leads : StoreLeads
store_leads l p op rs1 rs2 imm q bytes program t0 is small n place rs s t m ok row = all-words l p op rs1 rs2 imm q bytes program t0 is small m ok row

pub store_starts : StoreStarts
store_starts l p op rs1 rs2 imm q bytes program s t m v = inr (Before, b1 s, (v, refl))
