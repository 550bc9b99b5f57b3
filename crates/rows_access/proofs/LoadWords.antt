-- Each word of a load's block, and of the helpers that it calls, leads to its next row, to the next block, or to a park.
use Rattle.std.proofs.Common.{◌≡◌, ℕ, ◌+◌, ◌*◌, ◌/◌, ◌%◌, ◌<◌, ◌≤◌, inl, inr, Bool, true, false, ◌==◌, ℤ, pos, refl, ◌∙◌, ap, sym, subst, arith, cond, nat_lt, Option}
use Rattle.std.proofs.lemmas.Bool.Decides.{nat_tests}
use Rattle.spec_base.specs.Word.{wrap, plus_int}
use Rattle.spec_base.specs.Layout.{helpers_start, range_end, copies_start}
use Rattle.spec_base.specs.declared.layout.Layout.{Layout}
use Rattle.rv_decode.specs.declared.instr.Instr.TheVariants.{Load}
use Rattle.rv_decode.specs.declared.instr.LoadOp.{LoadOp}
use Rattle.rv_decode.specs.declared.instr.LoadOp.TheVariants.{Lb, Lh, Lw, Ld, Lbu, Lhu, Lwu}
use Rattle.rv_model.specs.Memory.{Memory, loaded}
use Rattle.rv_model.specs.Arithmetic.{load_width, extended}
use Rattle.rv_model.specs.Effect.{even}
use Rattle.code_model.specs.Assembly.{lo}
use Rattle.code_model.specs.Blocks.{block, load_helper, load_restore}
use Rattle.code_model.specs.Places.{block_at}
use Rattle.code_model.specs.Regions.{copy_place}
use Rattle.side_model.specs.Hart.{Regs, get, put, Priv}
use Rattle.code_model.specs.Tables.{Tabs, TableOk}
use Rattle.side_model.specs.Places.{Width, W1, W2, W4, W8, width_of, Loading, LoadTail, offset_of, Place, InBlock, InHelper, code, HasBlock, IsInstruction}
use Rattle.side_model.specs.Words.{Out, Goes, Loads, exec, exec_some}
use Rattle.side_model.specs.Rows.{Led, on, leaps, arrives, takes_entry, takes_program, takes_copy}
use Rattle.side_model.specs.JumpRows.{high_part, with_31, with_30_31}
use Rattle.side_model.specs.Tables.{IsUnchanged}
use Rattle.side_model.proofs.Numbers.{TextFits, text-fits}
use Rattle.side_model.proofs.JumpWords.{forks}
use Rattle.rows_access.specs.Accesses.{load_size, may_access, place_of, seen, Allows, saved, AccessFaults}
use Rattle.rows_access.specs.CheckRows.{c1}
use Rattle.rows_access.specs.LoadRows.{LoadRow, b1, b2, b3, b4, b5, b6, b7, b8, b9, t1, t2, t3, t4, t5, t6, t7, t8, t9, t10, t11, t12, t13, t14, t15, LoadsRow, LoadArrives, LoadLeads, LoadStarts}
use Rattle.rows_access.proofs.Reach.{Reached, reached, some-width}
use Rattle.rows_access.proofs.CheckWords.{Checks, check-words}
use Rattle.rows_access.proofs.AccessPlaces.{and_255, entry-offset, entry-at, entry-from, slot-bytes, no-slot, slot-place, load-width, entry-most, InCopies, in-copies, place-from, loads-program, loads-copy}

-- the jump from a load's block to its helper
to_helper : (op : LoadOp) → even (plus_int (high_part (helpers_start + load_helper op)) (lo (helpers_start + load_helper op))) ≡ helpers_start + offset_of (Loading (load_size op)) + 4 * 0
to_helper Lb = refl
to_helper Lh = refl
to_helper Lw = refl
to_helper Ld = refl
to_helper Lbu = refl
to_helper Lhu = refl
to_helper Lwu = refl

-- each helper of loads checks
checks : (l : Layout) (w : Width) → Checks l w (Loading w) LoadTail
checks l w = record { words = refl; before = by_width w; behind = omega arith; near = omega arith }
  where
    by_width : (w : Width) → offset_of (Loading w) ≤ 0x1C0
    by_width W1 = omega arith
    by_width W2 = omega arith
    by_width W4 = omega arith
    by_width W8 = omega arith

module _ (l : Layout) (p : ℕ) (op : LoadOp) (rd rs1 : ℕ) (imm : ℤ) (q : Regs) (given : Option ℕ) (program : Memory) (is : IsInstruction l p) where
  abbrev at : ℕ
  at = plus_int (get rs1 q) imm

  abbrev size : Width
  size = load_size op

  abbrev base : ℕ
  base = block_at l p

  abbrev back : ℕ
  back = base + 24

  abbrev row : Place → Regs → Priv → Tabs → ℕ → Type 0
  row = LoadsRow l p op rd rs1 imm q given

  -- a word with n words left, from these tables and this memory
  abbrev led : Tabs → Memory → ℕ → Out → Type 0
  led t m n o = Led l program base (λ place rs s t' m' k. row place rs s t' k × IsUnchanged t m t' m')
      (λ target rs t' m'. LoadArrives l p op rd rs1 imm q given target rs × IsUnchanged t m t' m') (λ cause t' m'. AccessFaults l size at cause × IsUnchanged t m t' m') n o

  abbrev leads : ℕ → Place → Regs → Priv → Tabs → Memory → Type 0
  leads n place rs s t m = led t m n (exec_some base (code l (block l p (Load op rd rs1 imm)) place) (record { place = place; regs = rs; priv = s; tabs = t }) m)

  same : {t : Tabs} {m : Memory} → IsUnchanged t m t m
  same = record { tables = refl; memory = refl }

  text : TextFits l
  text = text-fits l is.lawful

  -- the block returns to its word 6
  returns : even (plus_int back (pos 0)) ≡ base + 4 * 6
  returns = omega (arith, is.above, is.below, text.few)

  -- and goes on at word 1 of the next block
  onto_next : plus_int (base + 4 * 9) (pos 32) ≡ block_at l (p + 4) + 4
  onto_next = omega (arith, is.above, is.below, text.few)

  next_block : HasBlock l (p + 4)
  next_block = record { above = omega (arith, is.above); below = omega (arith, is.below, is.whole, text.end); whole = omega (arith, is.above, is.whole, text.start) }

  -- what is so of an address that may be accessed
  below : may_access l size at ≡ true → at < 0x4000_0000
  below f = let r : Reached l size at = reached l size at f in let some : 0 < width_of size = some-width size in omega (arith, r.below, r.most)

  entry : (t : Tabs) → TableOk l t → may_access l size at ≡ true → t.entry (at / 256) ≤ 65536
  entry t ok f = let r : Reached l size at = reached l size at f in omega (arith, entry-most l t (at / 256) ok r.region, text.regions_few)

  -- the end of LTAIL where the region has no copy
  without : {n : ℕ} (s : Priv) (t : Tabs) (m : Memory) → TableOk l t → may_access l size at ≡ true → (t.entry (at / 256) == 0) ≡ true → nat_lt 6 n ≡ true
      → led t m n (Goes (record { place = InHelper LoadTail 13; regs = with_30_31 q (t.entry (at / 256)) at; priv = saved at back q s; tabs = t }) m)
  without {n} s t m ok f e less =
      subst (λ (place : ℕ). led t m n (Goes (record { place = InHelper LoadTail 13; regs = with_30_31 q (t.entry (at / 256)) place; priv = saved at back q s; tabs = t }) m))
      (sym (no-slot at (t.entry (at / 256)) e)) (on (inr (t14 s f), same) ok less refl)

  -- word 7 of the block: from the program's memory, or from the copy
  loads : (s : Priv) (t : Tabs) (m : Memory) → TableOk l t → may_access l size at ≡ true → Allows given (loaded (seen t m program) at (load_width op)) → (b : Bool) → (t.entry (at / 256) == 0) ≡ b
      → led t m 3 (Loads op rd (plus_int (place_of (t.entry (at / 256)) at) (pos 0)) (record { place = InBlock 8; regs = with_31 q (place_of (t.entry (at / 256)) at); priv = saved at back q s; tabs = t }) m)
  loads s t m ok f g true e =
      let r : Reached l size at = reached l size at f in
      let w : width_of size ≡ load_width op = load-width op in
      let is : plus_int (place_of (t.entry (at / 256)) at) (pos 0) ≡ at = ap (λ (b : Bool). plus_int (cond b at (copy_place (t.entry (at / 256)) at)) (pos 0)) e ∙ place-from at (omega (arith, below f)) in
      let found : Allows given (loaded program at (load_width op)) =
      subst (λ (n : ℕ). Allows given (loaded program at n)) w
      (subst (Allows given) (loads-program size t m program at r.whole e) (subst (λ (n : ℕ). Allows given (loaded (seen t m program) at n)) (sym w) g)) in
      subst (λ (a : ℕ). led t m 3 (Loads op rd a (record { place = InBlock 8; regs = with_31 q (place_of (t.entry (at / 256)) at); priv = saved at back q s; tabs = t }) m)) (sym is)
      (takes_program (subst (λ (n : ℕ). at % n ≡ 0) w r.whole) r.above (subst (λ (n : ℕ). at + n ≤ range_end l.version) w r.below) (on (inr (b8 _ s f found), same) ok refl refl))
  loads s t m ok f g false e =
      let r : Reached l size at = reached l size at f in
      let w : width_of size ≡ load_width op = load-width op in
      let c : InCopies l size (copy_place (t.entry (at / 256)) at) = in-copies l size at (t.entry (at / 256)) r.whole (entry-most l t (at / 256) ok r.region) e in
      let is : plus_int (place_of (t.entry (at / 256)) at) (pos 0) ≡ copy_place (t.entry (at / 256)) at =
      ap (λ (b : Bool). plus_int (cond b at (copy_place (t.entry (at / 256)) at)) (pos 0)) e ∙ place-from (copy_place (t.entry (at / 256)) at) (omega (arith, entry t ok f)) in
      let found : Allows given (loaded m (copy_place (t.entry (at / 256)) at) (load_width op)) =
      subst (λ (n : ℕ). Allows given (loaded m (copy_place (t.entry (at / 256)) at) n)) w
      (subst (Allows given) (loads-copy size t m program at r.whole e) (subst (λ (n : ℕ). Allows given (loaded (seen t m program) at n)) (sym w) g)) in
      subst (λ (a : ℕ). led t m 3 (Loads op rd a (record { place = InBlock 8; regs = with_31 q (place_of (t.entry (at / 256)) at); priv = saved at back q s; tabs = t }) m)) (sym is)
      (takes_copy (subst (λ (n : ℕ). copy_place (t.entry (at / 256)) at % n ≡ 0) w c.whole) c.above (subst (λ (n : ℕ). copy_place (t.entry (at / 256)) at + n ≤ copies_start + 256 * l.regions) w c.below)
      (on (inr (b8 _ s f found), same) ok refl refl))

  -- word 8 of the block, where rd is x31 and where it isn't
  restores : (place v : ℕ) (s : Priv) (t : Tabs) (m : Memory) → TableOk l t → may_access l size at ≡ true → Allows given v → (b : Bool) → (rd == 31) ≡ b
      → led t m 2 (exec base (load_restore b) (record { place = InBlock 8; regs = put rd (extended op v) (with_31 q place); priv = saved at back q s; tabs = t }) m)
  restores place v s t m ok f g true e =
      let is : rd ≡ 31 = grind (arith, nat_tests) in
      subst (λ (r : ℕ). Led l program base (λ place rs s t' m' k. LoadsRow l p op r rs1 imm q given place rs s t' k × IsUnchanged t m t' m') (λ target rs t' m'. LoadArrives l p op r rs1 imm q given target rs × IsUnchanged t m t' m') (λ cause t' m'. AccessFaults l size at cause × IsUnchanged t m t' m') 2
      (Goes (record { place = InBlock 9; regs = put r (extended op v) (with_31 q place); priv = saved at back q s; tabs = t }) m)) (sym is) (on (inr (b9 v s f g), same) ok refl refl)
  restores place v s t m ok f g false e =
      subst (λ (b : Bool). led t m 2 (Goes (record { place = InBlock 9; regs = record (put rd (extended op v) q) { x31 = cond b (extended op v) q.x31 }; priv = saved at back q s; tabs = t }) m)) e (on (inr (b9 v s f g), same) ok refl refl)

  -- each word of the block, and of LTAIL
  load-words : {n : ℕ} {place : Place} {rs : Regs} {s : Priv} {t : Tabs} (m : Memory) → TableOk l t → (place ≡ InBlock 7 → Allows given (loaded (seen t m program) at (load_width op)))
      → LoadRow l p op rd rs1 imm q given place rs s t n → leads n place rs s t m
  load-words m ok g (b1 s) = on (inr (b2 s), same) ok refl refl
  load-words m ok g (b2 s) = on (inr (b3 s), same) ok refl refl
  load-words m ok g (b3 s) = on (inr (b4 s), same) ok refl refl
  load-words m ok g (b4 s) = on (inr (b5 s), same) ok refl refl
  load-words m ok g (b5 s) = leaps (InHelper (Loading size) 0) (to_helper op) (on (inl (c1 s), same) ok refl refl)
  load-words m ok g (t1 s f) = on (inr (t2 s f), same) ok refl refl
  load-words m ok g (t2 s f) = rw (entry-offset at (below f)) (on (inr (t3 s f), same) ok refl refl)
  load-words m ok g (t3 s f) = on (inr (t4 s f), same) ok refl refl
  load-words m ok g (t4 s f) = rw (entry-at at (below f)) (on (inr (t5 s f), same) ok refl refl)
  load-words m ok g (t5 s f) = takes_entry (at / 256) (entry-from at (below f)) (let r : Reached l size at = reached l size at f in r.region) (on (inr (t6 s f), same) ok refl refl)
  load-words m ok g (t6 s f) = on (inr (t7 s f), same) ok refl refl
  load-words m ok g (t7 s {t} f) =
      forks (t.entry (at / 256) == 0) (λ e. leaps (InHelper LoadTail 13) refl (without s t m ok f e refl)) (λ e. on (inr (t8 s f e), same) ok refl refl)
  load-words m ok g (t8 s {t} f e) = rw (slot-bytes (t.entry (at / 256)) (entry t ok f)) (on (inr (t9 s f e), same) ok refl refl)
  load-words m ok g (t9 s f e) = rw (and_255 at) (on (inr (t10 s f e), same) ok refl refl)
  load-words m ok g (t10 s {t} f e) =
      let k : wrap (at % 256 + 256 * t.entry (at / 256)) ≡ 256 * t.entry (at / 256) + at % 256 = omega (arith, entry t ok f) in rw k (on (inr (t11 s f e), same) ok refl refl)
  load-words m ok g (t11 s f e) = on (inr (t12 s f e), same) ok refl refl
  load-words m ok g (t12 s {t} f e) =
      let k : wrap (256 * t.entry (at / 256) + at % 256 + copies_start) ≡ copies_start + 256 * t.entry (at / 256) + at % 256 = omega (arith, entry t ok f) in rw k (on (inr (t13 s f e), same) ok refl refl)
  load-words m ok g (t13 s {t} f e) = rw (slot-place at (t.entry (at / 256)) e (entry t ok f)) (on (inr (t14 s f), same) ok refl refl)
  load-words m ok g (t14 s f) = on (inr (t15 s f), same) ok refl refl
  load-words m ok g (t15 s f) = leaps (InBlock 6) returns (on (inr (b6 s f), same) ok refl refl)
  load-words m ok g (b6 s f) = on (inr (b7 s f), same) ok refl refl
  load-words m ok g (b7 s {t} f) = loads s t m ok f (g refl) (t.entry (at / 256) == 0) refl
  load-words m ok g (b8 v s f h) = restores _ v s _ m ok f h (rd == 31) refl
  load-words m ok g (b9 v s f h) = arrives (p + 4) onto_next next_block (record { next = refl; may = f; number = v; known = h; registers = refl }, same) ok

  -- and of the helper that checks
  all-words : {n : ℕ} {place : Place} {rs : Regs} {s : Priv} {t : Tabs} (m : Memory) → TableOk l t → (place ≡ InBlock 7 → Allows given (loaded (seen t m program) at (load_width op)))
      → row place rs s t n → leads n place rs s t m
  all-words {t} m ok g (inl r) =
      check-words l size (Loading size) LoadTail at back q base (block l p (Load op rd rs1 imm)) program text (checks l size)
      (λ place rs s t' m' k. row place rs s t' k × IsUnchanged t m t' m') (λ target rs t' m'. LoadArrives l p op rd rs1 imm q given target rs × IsUnchanged t m t' m') (λ cause t' m'. AccessFaults l size at cause × IsUnchanged t m t' m')
      (λ t' m'. IsUnchanged t m t' m') (λ place rs s t' m' k r u. (inl r, u)) 19 refl (λ u s t' m' f v. (inr (t1 s f), v)) (λ t' m' f u. (record { fault = refl; trap = f }, u)) m ok same r
  all-words m ok g (inr r) = load-words m ok g r

pub load_leads : LoadLeads
load_leads l p op rd rs1 imm q given program is n place rs s t m ok g row = all-words l p op rd rs1 imm q given program is m ok g row

pub load_starts : LoadStarts
load_starts l p op rd rs1 imm q given s t = inr (b1 s)
