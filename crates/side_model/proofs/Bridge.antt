-- What a word does in a run is what the rows say: from `Led` to `Landed`, once for all instructions.
use Rattle.std.proofs.Common.{◌≡◌, ℕ, zero, suc, ◌+◌, ◌%◌, ◌^◌, ◌<◌, ◌≤◌, ◌⊎◌, inl, inr, Bool, true, false, ◌==◌, ℤ, pos, List, refl, ◌∙◌, ap, sym, subst, arith, eq-eqb, lit<, cond, Option, Some, None}
use Rattle.std.proofs.lemmas.Bool.Decides.{nat_tests}
use Rattle.spec_base.specs.Word.{word_of_int, plus_int, byte_of}
use Rattle.spec_base.specs.Layout.{list_start, private_start}
use Rattle.spec_base.specs.declared.layout.Layout.{Layout}
use Rattle.spec_base.specs.declared.machine.View.TheVariants.{Shadow}
use Rattle.spec_base.specs.declared.note.ShadowState.TheVariants.{Parked}
use Rattle.spec_base.specs.declared.park.Park.{Park}
use Rattle.spec_base.specs.declared.park.Park.TheVariants as park
use Rattle.spec_base.specs.declared.spot.ReadSpot.{ReadSpot}
use Rattle.rv_decode.specs.declared.instr.Instr.{Instr}
use Rattle.rv_decode.specs.declared.instr.Instr.TheVariants.{Lui, Auipc, Jal, Jalr, Branch, Load, Store, OpImm, OpImmW, Op, OpW, Fence, Ecall, Ebreak, Hgate, Hleave, Hsite, Hkey, Hstop, Hrestart, Hcall, Hpark, Illegal}
use Rattle.rv_decode.specs.declared.instr.LoadOp.{LoadOp}
use Rattle.rv_decode.specs.declared.instr.LoadOp.TheVariants.{Lb, Lh, Lw, Ld, Lbu, Lhu, Lwu}
use Rattle.rv_decode.specs.declared.instr.StoreOp.{StoreOp}
use Rattle.rv_decode.specs.declared.instr.StoreOp.TheVariants.{Sb, Sh, Sw, Sd}
use Rattle.rv_model.specs.Memory.{Memory, stored}
use Rattle.rv_model.specs.Registers.{Registers, reg, with_reg}
use Rattle.rv_model.specs.Rights.{in_private, shadow_rights}
use Rattle.rv_model.specs.Arithmetic.{store_width, is_taken, imm_result, imm_w_result, reg_result, reg_w_result}
use Rattle.rv_model.specs.Effect.{Stored, effect, after, steps_on, jump_if, branch_if, load_effect, store_effect, even}
use Rattle.rv_model.specs.Space.{program_byte}
use Rattle.program_model.specs.Calls.{CallPlan, Set, Look, Read, Write, Exit, key_of}
use Rattle.code_model.specs.Places.{block_at}
use Rattle.code_model.specs.Regions.{entry_address, listed_address}
use Rattle.run_model.specs.Run.{World, Run, ShadowHart, Answer, Usual, Took, Failed, Lost, rewritten_words}
use Rattle.run_model.specs.ShadowMoves.{shadow_after, shadow_at, shadow_stores, shadow_plan, assumed, look_assumed, fill, fill_if, hint_given}
use Rattle.rv_model.proofs.Results.{word_of_int-small}
use Rattle.side_model.specs.Hart.{Regs, get, put, Priv, get_private, put_private, is_place}
use Rattle.code_model.specs.Tables.{Tabs, TableOk, all_regions}
use Rattle.own_laws.proofs.InvisibleShadow.{shadow_view}
use Rattle.side_model.specs.Tables.{HasTabs, with_value}
use Rattle.side_model.specs.Places.{Place, InBlock, InHelper, Away, address, next, is_inner, IsBase}
use Rattle.side_model.specs.Words.{Point, Out, Goes, Loads, Stores, Keys, Calls, Parks, Fails, onward, wrote, jumped, branched, private_load, private_store, exec}
use Rattle.side_model.specs.Rows.{Led, on, leaps, arrives, takes_entry, takes_count, takes_listed, takes_link, takes_program, takes_copy, puts_entry, puts_count, puts_listed, puts_link, puts_copy, keys, calls, parks}
use Rattle.side_model.specs.Sees.{Shade, shade_of, HasRegs, HasPriv, Sees, Landed, goes_on, arrived, parked}
use Rattle.side_model.proofs.Registers.{HasRegs-put}
use Rattle.side_model.proofs.Private.{get_private-place, private-loads, HasPriv-stored, by_place}
use Rattle.side_model.proofs.Fetching.{offset-whole}
use Rattle.side_model.proofs.Tabling.{HasTabs-below, HasTabs-above, HasTabs-entry, HasTabs-count, HasTabs-listed, all_regions-most}
use Rattle.side_model.proofs.Views.{loads-private, loads-program, loads-shared, stores-private, stores-shared, entry_bytes, count_bytes, listed_bytes, link_byte, copy_byte, no_private_byte}

-- ---- places

-- the word behind a place
next-address : (base : ℕ) (place : Place) → address base place < 2 ^ 63 → after (address base place) ≡ address base (next place)
next-address base (InBlock n) h = omega arith
next-address base (InHelper h n) l = omega arith
next-address base (Away a) h = omega arith

-- a place that is known has a multiple of 4 as its address
inner-whole : (base : ℕ) (place : Place) → IsBase base → is_inner place ≡ true → address base place % 4 ≡ 0
inner-whole base (InBlock n) b h = omega (arith, b.whole)
inner-whole base (InHelper h n) b e = omega (arith, offset-whole h)
inner-whole base (Away a) b h = absurd (no h)
  where
    no : false ≡ true → ⊥
    no e = cc

-- word 1 of a block has one, too
block-whole : (l : Layout) (p : ℕ) → (block_at l p + 4) % 4 ≡ 0
block-whole l p = omega arith

-- a place of the private page is a multiple of 8 in it
pub record IsPrivate (a : ℕ) : Type 0 where
  pub whole : a % 8 ≡ 0
  pub above : private_start ≤ a
  pub below : a + 8 ≤ 2 ^ 64
  pub inside : in_private a ≡ true

pub place-private : (a : ℕ) → is_place a ≡ true → IsPrivate a
place-private a h =
    by_place IsPrivate
    (record { whole = refl; above = omega arith; below = omega arith; inside = refl }) (record { whole = refl; above = omega arith; below = omega arith; inside = refl })
    (record { whole = refl; above = omega arith; below = omega arith; inside = refl }) (record { whole = refl; above = omega arith; below = omega arith; inside = refl })
    (record { whole = refl; above = omega arith; below = omega arith; inside = refl }) (record { whole = refl; above = omega arith; below = omega arith; inside = refl })
    (record { whole = refl; above = omega arith; below = omega arith; inside = refl }) (record { whole = refl; above = omega arith; below = omega arith; inside = refl })
    a h

-- a point that is led stands at a multiple of 4
module _ (l : Layout) (program : Memory) (base : ℕ) (Row : Place → Regs → Priv → Tabs → Memory → ℕ → Type 0)
    (Arrives : ℕ → Regs → Tabs → Memory → Type 0) (Why : Park → Tabs → Memory → Type 0) (n : ℕ) (lawful : IsBase base) where
  pub aligned : (s : Point) (m : Memory) → Led l program base Row Arrives Why n (Goes s m) → address base s.place % 4 ≡ 0
  aligned s m (on row ok less inner) = inner-whole base s.place lawful inner
  aligned s m (leaps place e d) = subst (λ a. a % 4 ≡ 0) (sym e) (aligned (record s { place = place }) m d)
  aligned s m (arrives p e block a ok) = subst (λ a. a % 4 ≡ 0) (sym e) (block-whole l p)

module _ (w : World) (x : Answer) (base : ℕ) (Row : Place → Regs → Priv → Tabs → Memory → ℕ → Type 0)
    (Arrives : ℕ → Regs → Tabs → Memory → Type 0) (Why : Park → Tabs → Memory → Type 0) (n : ℕ)
    (few : w.image.layout.regions ≤ 65536) (lawful : IsBase base) (r : Run) (s : Point) (near : address base s.place < 2 ^ 63)
    (small : (k : ℕ) → r.shadow.registers k < 2 ^ 64)
    (here : Sees w.image.layout base (shade_of r) s r.shared)
    (key_small : key_of (shadow_plan w r) < 2 ^ 64)
    (filled : (d : ℕ) (spot : ReadSpot) (a : ℕ) (unhinted : Bool) → shadow_plan w r ≡ Read d spot a → TableOk w.image.layout s.tabs
    → (t : Tabs) × HasTabs w.image.layout (fill w spot a (hint_given unhinted spot r)).shared t × TableOk w.image.layout t) where
  abbrev l : Layout
  l = w.image.layout

  abbrev program : Memory
  program = program_byte l (rewritten_words w) r.own.memory

  abbrev leads : Out → Type 0
  leads o = Led l program base Row Arrives Why n o

  abbrev lands : Shade → Type 0
  lands h = Landed l base Row Arrives Why n h

  abbrev view : Memory
  view = shadow_view w r

  abbrev rs : Registers
  rs = r.shadow.registers

  -- the address of the word
  abbrev pc : ℕ
  pc = address base s.place

  -- ---- where a point that is shown leads

  -- to a row, or to word 1 of a block
  goes : (h : Shade) (s' : Point) (m : Memory) → leads (Goes s' m) → Sees l base h s' m → lands h
  goes h s' m (on {k} row ok less inner) v = goes_on k s' m row ok (grind (arith, nat_tests, less)) inner v
  goes h s' m (leaps place e d) v =
      goes h (record s' { place = place }) m d (record { pc = v.pc ∙ e; regs = v.regs; priv = v.priv; tabs = v.tabs; shared = v.shared; running = v.running })
  goes h s' m (arrives p e block a ok) v = arrived p s' m a ok block e v

  -- ---- computing

  -- a register as the row has it
  reg-is : (k : ℕ) → reg rs k ≡ get k s.regs
  reg-is k = here.regs.at k

  -- a register of the row is below 2^64
  get-small : (k : ℕ) → get k s.regs < 2 ^ 64
  get-small k = subst (λ v. v < 2 ^ 64) (reg-is k) (reg-small k)
    where
      reg-small : (k : ℕ) → reg rs k < 2 ^ 64
      reg-small zero = lit< tt
      reg-small (suc k) = small (suc k)

  -- a register is written, and the next word follows
  computed : (rd v : ℕ) → leads (Goes (wrote rd v (onward s)) r.shared) → lands (shade_of (shadow_at r (with_reg rs rd v) (after pc)))
  computed rd v d =
      goes _ _ _ d
      (record { pc = next-address base s.place near; regs = HasRegs-put rs s.regs rd v here.regs; priv = here.priv; tabs = here.tabs; shared = refl; running = here.running })

  -- a jump whose target is a multiple of 4
  leapt : (rd target : ℕ) → leads (Goes (jumped base rd target s) r.shared) → lands (shade_of (shadow_after w x r (jump_if (target % 4 == 0) (with_reg rs rd (after pc)) target)))
  leapt rd target d =
      subst (λ b. lands (shade_of (shadow_after w x r (jump_if b (with_reg rs rd (after pc)) target)))) (sym (eq-eqb (target % 4) 0 (aligned l program base Row Arrives Why n lawful _ _ d)))
      (subst (λ v. lands (shade_of (shadow_at r (with_reg rs rd v) target))) (sym (next-address base s.place near))
      (goes _ _ _ d (record { pc = refl; regs = HasRegs-put rs s.regs rd (address base (next s.place)) here.regs; priv = here.priv; tabs = here.tabs; shared = refl; running = here.running })))

  -- a branch
  forked : (b : Bool) (target : ℕ) → leads (Goes (branched b target s) r.shared) → lands (shade_of (shadow_after w x r (branch_if b rs pc target)))
  forked true target d =
      subst (λ b. lands (shade_of (shadow_after w x r (jump_if b rs target)))) (sym (eq-eqb (target % 4) 0 (aligned l program base Row Arrives Why n lawful _ _ d)))
      (goes _ _ _ d (record { pc = refl; regs = here.regs; priv = here.priv; tabs = here.tabs; shared = refl; running = here.running }))
  forked false target d =
      goes _ _ _ d (record { pc = next-address base s.place near; regs = here.regs; priv = here.priv; tabs = here.tabs; shared = refl; running = here.running })

  -- ---- loads

  abbrev lands_load : LoadOp → ℕ → ℕ → Type 0
  lands_load op rd a = lands (shade_of (shadow_after w x r (load_effect (shadow_rights l) view op rs pc rd a)))

  -- a load whose effect is known
  loaded-as : (op : LoadOp) (rd a v u : ℕ) → load_effect (shadow_rights l) view op rs pc rd a ≡ steps_on (with_reg rs rd v) pc → v ≡ u → leads (Goes (wrote rd u (onward s)) r.shared) → lands_load op rd a
  loaded-as op rd a v u e f d =
      subst (λ e. lands (shade_of (shadow_after w x r e))) (sym e) (subst (λ v. lands (shade_of (shadow_at r (with_reg rs rd v) (after pc)))) (sym f) (computed rd u d))

  -- a load from elsewhere than the private page
  loads-lands : (op : LoadOp) (rd a : ℕ) → leads (Loads op rd a (onward s) r.shared) → lands_load op rd a
  loads-lands _ rd a (takes_entry region e h d) =
      subst (λ a. lands_load Lwu rd a) (sym e)
      (loaded-as Lwu rd (entry_address region) _ _
      (loads-shared l (rewritten_words w) r.own.memory r.shared r.shadow_page rs pc Lwu rd (entry_address region) (omega arith) (omega arith) (omega (arith, all_regions-most l)) (λ x i j. entry_bytes l region x h i j))
      (here.tabs.entry region h) d)
  loads-lands _ rd a (takes_count e d) =
      subst (λ a. lands_load Ld rd a) (sym e)
      (loaded-as Ld rd list_start _ _
      (loads-shared l (rewritten_words w) r.own.memory r.shared r.shadow_page rs pc Ld rd list_start refl (omega arith) (omega arith) (λ x i j. count_bytes l x i j))
      here.tabs.count d)
  loads-lands _ rd a (takes_listed slot e h d) =
      subst (λ a. lands_load Lwu rd a) (sym e)
      (loaded-as Lwu rd (listed_address slot) _ _
      (loads-shared l (rewritten_words w) r.own.memory r.shared r.shadow_page rs pc Lwu rd (listed_address slot) (omega arith) (omega arith) (omega arith) (λ x i j. listed_bytes l slot x h i j))
      (here.tabs.listed slot h) d)
  loads-lands _ rd a (takes_link even h k d) =
      loaded-as Ld rd a _ _
      (loads-shared l (rewritten_words w) r.own.memory r.shared r.shadow_page rs pc Ld rd a even (omega arith) (omega arith) (λ x i j. link_byte l x (omega arith) (omega arith))) refl d
  loads-lands op rd a (takes_program even h k d) =
      loaded-as op rd a _ _ (loads-program l (rewritten_words w) r.own.memory r.shared r.shadow_page rs pc op rd a even h k) refl d
  loads-lands op rd a (takes_copy even h k d) =
      loaded-as op rd a _ _
      (loads-shared l (rewritten_words w) r.own.memory r.shared r.shadow_page rs pc op rd a even (omega arith) (omega arith) (λ x i j. copy_byte l x (omega arith) (omega arith))) refl d

  -- a load from the private page
  private-loaded : (rd a : ℕ) (o : Option ℕ) → get_private a s.priv ≡ o → leads (private_load Ld rd o (onward s) r.shared) → lands_load Ld rd a
  private-loaded rd a (Some v) e d =
      let p : IsPrivate a = place-private a (get_private-place a v s.priv e) in
      loaded-as Ld rd a _ v (loads-private l (rewritten_words w) r.own.memory r.shared r.shadow_page rs pc Ld rd a p.whole p.above p.below) (private-loads r.shadow_page s.priv a v here.priv e) d
  private-loaded rd a None e d = elim d [ ]

  private-load-lands : (op : LoadOp) (rd a : ℕ) → leads (private_load op rd (get_private a s.priv) (onward s) r.shared) → lands_load op rd a
  private-load-lands Ld rd a d = private-loaded rd a (get_private a s.priv) refl d
  private-load-lands Lb rd a d = elim d [ ]
  private-load-lands Lh rd a d = elim d [ ]
  private-load-lands Lw rd a d = elim d [ ]
  private-load-lands Lbu rd a d = elim d [ ]
  private-load-lands Lhu rd a d = elim d [ ]
  private-load-lands Lwu rd a d = elim d [ ]

  -- ---- stores

  abbrev lands_store : ℕ → ℕ → ℕ → Type 0
  lands_store a width v = lands (shade_of (shadow_after w x r (store_effect (shadow_rights l) a width v)))

  -- the pc behind a store is the next word's
  next-pc : after r.shadow.pc ≡ address base (next s.place)
  next-pc = ap after here.pc ∙ next-address base s.place near

  -- a store whose effect is known, to what is shared
  stored-as : (a width v : ℕ) (s' : Point) → store_effect (shadow_rights l) a width v ≡ Stored a width v → a + width ≤ private_start → s'.place ≡ next s.place → HasRegs rs s'.regs → HasPriv r.shadow_page s'.priv
      → HasTabs l (stored r.shared a width v) s'.tabs → leads (Goes s' (stored r.shared a width v)) → 0 < width → lands_store a width v
  stored-as a width v s' e below place regs priv tabs d some =
      subst (λ e. lands (shade_of (shadow_after w x r e))) (sym e)
      (subst (λ b. lands (shade_of (shadow_stores b r a width v))) (sym (no_private_byte l a (omega arith)))
      (goes _ _ _ d (record { pc = next-pc ∙ ap (address base) (sym place); regs = regs; priv = priv; tabs = tabs; shared = refl; running = here.running })))

  -- a store of some bytes has some
  some_width : (op : StoreOp) → 0 < store_width op
  some_width Sb = lit< tt
  some_width Sh = lit< tt
  some_width Sw = lit< tt
  some_width Sd = lit< tt

  -- a store elsewhere than to the private page
  stores-lands : (op : StoreOp) (a v : ℕ) → leads (Stores op a v (onward s) r.shared) → lands_store a (store_width op) v
  stores-lands _ a v (puts_entry region e h k d) =
      let below : all_regions l ≤ 0x40_0000 = all_regions-most l in
      let at : leads (Goes (record (onward s) { tabs = record s.tabs { entry = with_value region v s.tabs.entry } }) (stored r.shared (entry_address region) 4 v)) =
      subst (λ a. leads (Goes (record (onward s) { tabs = record s.tabs { entry = with_value region v s.tabs.entry } }) (stored r.shared a 4 v))) e d in
      subst (λ a. lands_store a 4 v) (sym e)
      (stored-as (entry_address region) 4 v (record (onward s) { tabs = record s.tabs { entry = with_value region v s.tabs.entry } })
      (stores-shared l (entry_address region) 4 v (omega arith) (λ x i j. entry_bytes l region x h i j)) (omega arith) refl here.regs here.priv
      (HasTabs-entry l few r.shared s.tabs here.tabs region v h k) at (lit< tt))
  stores-lands _ a v (puts_count e k d) =
      let at : leads (Goes (record (onward s) { tabs = record s.tabs { count = v } }) (stored r.shared list_start 8 v)) =
      subst (λ a. leads (Goes (record (onward s) { tabs = record s.tabs { count = v } }) (stored r.shared a 8 v))) e d in
      subst (λ a. lands_store a 8 v) (sym e)
      (stored-as list_start 8 v (record (onward s) { tabs = record s.tabs { count = v } })
      (stores-shared l list_start 8 v refl (λ x i j. count_bytes l x i j)) (omega arith) refl here.regs here.priv
      (HasTabs-count l few r.shared s.tabs here.tabs v k) at (lit< tt))
  stores-lands _ a v (puts_listed slot e h k d) =
      let at : leads (Goes (record (onward s) { tabs = record s.tabs { listed = with_value slot v s.tabs.listed } }) (stored r.shared (listed_address slot) 4 v)) =
      subst (λ a. leads (Goes (record (onward s) { tabs = record s.tabs { listed = with_value slot v s.tabs.listed } }) (stored r.shared a 4 v))) e d in
      subst (λ a. lands_store a 4 v) (sym e)
      (stored-as (listed_address slot) 4 v (record (onward s) { tabs = record s.tabs { listed = with_value slot v s.tabs.listed } })
      (stores-shared l (listed_address slot) 4 v (omega arith) (λ x i j. listed_bytes l slot x h i j)) (omega arith) refl here.regs here.priv
      (HasTabs-listed l few r.shared s.tabs here.tabs slot v h k) at (lit< tt))
  stores-lands _ a v (puts_link even h k d) =
      stored-as a 8 v (onward s) (stores-shared l a 8 v even (λ x i j. link_byte l x (omega arith) (omega arith))) (omega arith) refl here.regs here.priv
      (HasTabs-below l few r.shared s.tabs here.tabs a 8 (byte_of v) (omega arith)) d (lit< tt)
  stores-lands op a v (puts_copy even h k d) =
      stored-as a (store_width op) v (onward s) (stores-shared l a (store_width op) v even (λ x i j. copy_byte l x (omega arith) (omega arith))) (omega arith) refl here.regs here.priv
      (HasTabs-above l few r.shared s.tabs here.tabs a (store_width op) (byte_of v) h) d (some_width op)

  -- a store to the private page
  private-stored : (a v : ℕ) (b : Bool) → is_place a ≡ b → v < 2 ^ 64 → leads (cond b (Goes (record (onward s) { priv = put_private a v s.priv }) r.shared) Fails) → lands_store a 8 v
  private-stored a v false e k d = elim d [ ]
  private-stored a v true e k d =
      let p : IsPrivate a = place-private a e in
      subst (λ e. lands (shade_of (shadow_after w x r e))) (sym (stores-private l a 8 v p.whole p.above p.below))
      (subst (λ b. lands (shade_of (shadow_stores b r a 8 v))) (sym p.inside)
      (goes _ _ _ d
      (record { pc = next-pc; regs = here.regs; priv = HasPriv-stored r.shadow_page s.priv a v k here.priv e; tabs = here.tabs; shared = refl; running = here.running })))

  private-store-lands : (op : StoreOp) (a v : ℕ) → v < 2 ^ 64 → leads (private_store op a v (onward s) r.shared) → lands_store a (store_width op) v
  private-store-lands Sd a v k d = private-stored a v (is_place a) refl k d
  private-store-lands Sb a v k d = elim d [ ]
  private-store-lands Sh a v k d = elim d [ ]
  private-store-lands Sw a v k d = elim d [ ]

  -- ---- keys, calls and parks

  -- the key of a call
  key-lands : (rd : ℕ) → leads (Keys rd (onward s) r.shared) → lands (shade_of (shadow_at r (with_reg rs rd (key_of (shadow_plan w r))) (after r.shadow.pc)))
  key-lands rd (keys f) =
      let key : ℕ = key_of (shadow_plan w r) in
      goes _ _ _ (f key key_small)
      (record { pc = next-pc; regs = HasRegs-put rs s.regs rd key here.regs; priv = here.priv; tabs = here.tabs; shared = refl; running = here.running })

  -- a call that is assumed, with its answer and with the tables that it leaves
  assumed-lands : {unhinted : Bool} (h : Shade) (answer : ℤ) (t : Tabs) → leads (Calls unhinted (onward s) r.shared) → TableOk l t → HasTabs l h.shared t
      → h.hart.registers ≡ with_reg rs 10 (word_of_int answer) → h.hart.pc ≡ after r.shadow.pc → h.hart.state ≡ r.shadow.state → h.page ≡ r.shadow_page → lands h
  assumed-lands h answer t (calls f old) ok tabs regs place state page =
      goes h _ _ (f (word_of_int answer) t h.shared (word_of_int-small answer) ok)
      (record {
        pc = place ∙ next-pc;
        regs = subst (λ g. HasRegs g (put 10 (word_of_int answer) s.regs)) (sym regs) (HasRegs-put rs s.regs 10 (word_of_int answer) here.regs);
        priv = subst (λ p. HasPriv p s.priv) (sym page) here.priv;
        tabs = tabs;
        shared = refl;
        running = state ∙ here.running;
      })

  -- the tables are consistent at a call
  call-ok : {unhinted : Bool} → leads (Calls unhinted (onward s) r.shared) → TableOk l s.tabs
  call-ok (calls f ok) = ok

  -- a call that parks
  call-parks : (cause : Park) → (cause ≡ park.Exit) ⊎ (cause ≡ park.Store) → TableOk l s.tabs → lands (shade_of (record r { shadow = record r.shadow { state = Parked cause } }))
  call-parks cause c ok = parked cause s.tabs r.shared (inr c) ok here.tabs refl

  -- a look
  look-lands : {unhinted : Bool} (y : Answer) (name : List ℕ) → leads (Calls unhinted (onward s) r.shared) → lands (shade_of (look_assumed w y r name))
  look-lands Failed name d = call-parks park.Store (inr refl) (call-ok d)
  look-lands Usual name d = assumed-lands _ _ s.tabs d (call-ok d) here.tabs refl refl refl refl
  look-lands (Took k) name d = assumed-lands _ _ s.tabs d (call-ok d) here.tabs refl refl refl refl
  look-lands Lost name d = assumed-lands _ _ s.tabs d (call-ok d) here.tabs refl refl refl refl

  -- what a fill leaves
  fill-hart : (spot : ReadSpot) (a : ℕ) (unhinted : Bool) → ((fill w spot a (hint_given unhinted spot r)).shadow ≡ r.shadow) × ((fill w spot a (hint_given unhinted spot r)).shadow_page ≡ r.shadow_page)
  fill-hart spot a true = by_test _
    where
      by_test : (b : Bool) → ((fill_if b w spot a r).shadow ≡ r.shadow) × ((fill_if b w spot a r).shadow_page ≡ r.shadow_page)
      by_test true = (refl, refl)
      by_test false = (refl, refl)
  fill-hart spot a false = by_test _
    where
      by_test : (b : Bool) → ((fill_if b w spot a (hint_given false spot r)).shadow ≡ r.shadow) × ((fill_if b w spot a (hint_given false spot r)).shadow_page ≡ r.shadow_page)
      by_test true = (refl, refl)
      by_test false = (refl, refl)

  -- each call
  call-lands : (unhinted : Bool) (c : CallPlan) → shadow_plan w r ≡ c → leads (Calls unhinted (onward s) r.shared) → lands (shade_of (assumed w x r unhinted c))
  call-lands unhinted (Set f answer) e d = assumed-lands _ answer s.tabs d (call-ok d) here.tabs refl refl refl refl
  call-lands unhinted (Look name) e d = look-lands x name d
  call-lands unhinted (Read k spot a) e d =
      let t = filled k spot a unhinted e (call-ok d) in
      let same = fill-hart spot a unhinted in
      assumed-lands _ (pos spot.count) t.0 d t.2 t.1 (ap (λ (h : ShadowHart). with_reg h.registers 10 (word_of_int (pos spot.count))) same.0) (ap (λ (h : ShadowHart). after h.pc) same.0) (ap (λ (h : ShadowHart). h.state) same.0) same.1
  call-lands unhinted (Write to_out a k) e d = assumed-lands _ (pos k) s.tabs d (call-ok d) here.tabs refl refl refl refl
  call-lands unhinted (Exit code) e d = call-parks park.Exit (inl refl) (call-ok d)

  -- a park
  park-lands : (cause : Park) → leads (Parks cause s r.shared) → lands (shade_of (record r { shadow = record r.shadow { registers = rs; pc = after r.shadow.pc; state = Parked cause } }))
  park-lands cause (parks why ok) = parked cause s.tabs r.shared (inl why) ok here.tabs refl

  -- ---- each instruction

  abbrev lands_by : ℕ → Instr → Type 0
  lands_by at i = lands (shade_of (shadow_after w x r (effect Shadow (shadow_rights l) view rs at i)))

  -- a number that is computed from registers
  by_one : (rd rs1 : ℕ) (f : ℕ → ℕ) → leads (Goes (wrote rd (f (get rs1 s.regs)) (onward s)) r.shared) → lands (shade_of (shadow_at r (with_reg rs rd (f (reg rs rs1))) (after pc)))
  by_one rd rs1 f d = subst (λ v. lands (shade_of (shadow_at r (with_reg rs rd (f v)) (after pc)))) (sym (reg-is rs1)) (computed rd (f (get rs1 s.regs)) d)

  by_two : (rd rs1 rs2 : ℕ) (f : ℕ → ℕ → ℕ) → leads (Goes (wrote rd (f (get rs1 s.regs) (get rs2 s.regs)) (onward s)) r.shared) → lands (shade_of (shadow_at r (with_reg rs rd (f (reg rs rs1) (reg rs rs2))) (after pc)))
  by_two rd rs1 rs2 f d =
      subst (λ v. lands (shade_of (shadow_at r (with_reg rs rd (f v (reg rs rs2))) (after pc)))) (sym (reg-is rs1))
      (subst (λ v. lands (shade_of (shadow_at r (with_reg rs rd (f (get rs1 s.regs) v)) (after pc)))) (sym (reg-is rs2)) (computed rd (f (get rs1 s.regs) (get rs2 s.regs)) d))

  by-instr : (i : Instr) → leads (exec base i s r.shared) → lands_by pc i
  by-instr (Lui rd imm) d = computed rd (word_of_int imm) d
  by-instr (Jal rd imm) d = leapt rd (plus_int pc imm) d
  by-instr (Jalr rd rs1 imm) d =
      subst (λ v. lands (shade_of (shadow_after w x r (jump_if (even (plus_int v imm) % 4 == 0) (with_reg rs rd (after pc)) (even (plus_int v imm)))))) (sym (reg-is rs1))
      (leapt rd (even (plus_int (get rs1 s.regs) imm)) d)
  by-instr (Branch op rs1 rs2 imm) d =
      subst (λ v. lands (shade_of (shadow_after w x r (branch_if (is_taken op v (reg rs rs2)) rs pc (plus_int pc imm))))) (sym (reg-is rs1))
      (subst (λ v. lands (shade_of (shadow_after w x r (branch_if (is_taken op (get rs1 s.regs) v) rs pc (plus_int pc imm))))) (sym (reg-is rs2))
      (forked (is_taken op (get rs1 s.regs) (get rs2 s.regs)) (plus_int pc imm) d))
  by-instr (Load op rd zero imm) d = private-load-lands op rd (plus_int 0 imm) d
  by-instr (Load op rd (suc k) imm) d = subst (λ v. lands_load op rd (plus_int v imm)) (sym (reg-is (suc k))) (loads-lands op rd (plus_int (get (suc k) s.regs) imm) d)
  by-instr (Store op zero rs2 imm) d =
      subst (λ v. lands_store (plus_int 0 imm) (store_width op) v) (sym (reg-is rs2)) (private-store-lands op (plus_int 0 imm) (get rs2 s.regs) (get-small rs2) d)
  by-instr (Store op (suc k) rs2 imm) d =
      subst (λ v. lands_store (plus_int v imm) (store_width op) (reg rs rs2)) (sym (reg-is (suc k)))
      (subst (λ v. lands_store (plus_int (get (suc k) s.regs) imm) (store_width op) v) (sym (reg-is rs2)) (stores-lands op (plus_int (get (suc k) s.regs) imm) (get rs2 s.regs) d))
  by-instr (OpImm op rd rs1 imm) d = by_one rd rs1 (λ v. imm_result op v imm) d
  by-instr (OpImmW op rd rs1 imm) d = by_one rd rs1 (λ v. imm_w_result op v imm) d
  by-instr (Op op rd rs1 rs2) d = by_two rd rs1 rs2 (reg_result op) d
  by-instr (OpW op rd rs1 rs2) d = by_two rd rs1 rs2 (reg_w_result op) d
  by-instr (Fence word) d =
      goes _ _ _ d (record { pc = next-address base s.place near; regs = here.regs; priv = here.priv; tabs = here.tabs; shared = refl; running = here.running })
  by-instr (Hkey rd) d = key-lands rd d
  by-instr (Hcall unhinted) d = call-lands unhinted (shadow_plan w r) refl d
  by-instr (Hpark cause) d = park-lands cause d
  by-instr (Auipc rd imm) d = elim d [ ]
  by-instr Ecall d = elim d [ ]
  by-instr Ebreak d = elim d [ ]
  by-instr Hgate d = elim d [ ]
  by-instr Hleave d = elim d [ ]
  by-instr (Hsite rd) d = elim d [ ]
  by-instr Hstop d = elim d [ ]
  by-instr Hrestart d = elim d [ ]
  by-instr Illegal d = elim d [ ]

  -- what a word leads to is where the run lands
  pub word-lands : (i : Instr) → leads (exec base i s r.shared) → lands_by r.shadow.pc i
  word-lands i d = subst (λ at. lands_by at i) (sym here.pc) (by-instr i d)
