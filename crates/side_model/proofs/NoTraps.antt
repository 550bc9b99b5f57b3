-- A word that is led completes: the rows lead no word that traps.
use Rattle.std.proofs.Common.{◌≡◌, ℤ, ℕ, zero, suc, ◌%◌, ◌≤◌, Bool, true, false, List, refl, ◌∙◌, ap, sym, subst, arith, eq-eqb, cond, Option, Some, None}
use Rattle.spec_base.specs.Word.{plus_int}
use Rattle.spec_base.specs.Layout.{list_start}
use Rattle.spec_base.specs.declared.layout.Layout.{Layout}
use Rattle.spec_base.specs.declared.machine.View.TheVariants.{Shadow}
use Rattle.spec_base.specs.declared.park.Park.{Park}
use Rattle.rv_decode.specs.declared.instr.Instr.{Instr}
use Rattle.rv_decode.specs.declared.instr.Instr.TheVariants.{Lui, Auipc, Jal, Jalr, Branch, Load, Store, OpImm, OpImmW, Op, OpW, Fence, Ecall, Ebreak, Hgate, Hleave, Hsite, Hkey, Hstop, Hrestart, Hcall, Hpark, Illegal}
use Rattle.rv_decode.specs.declared.instr.LoadOp.{LoadOp}
use Rattle.rv_decode.specs.declared.instr.LoadOp.TheVariants.{Lb, Lh, Lw, Ld, Lbu, Lhu, Lwu}
use Rattle.rv_decode.specs.declared.instr.StoreOp.{StoreOp}
use Rattle.rv_decode.specs.declared.instr.StoreOp.TheVariants.{Sb, Sh, Sw, Sd}
use Rattle.rv_model.specs.Memory.{Memory}
use Rattle.rv_model.specs.Registers.{Registers, reg, with_reg}
use Rattle.rv_model.specs.Rights.{shadow_rights}
use Rattle.rv_model.specs.Arithmetic.{store_width, is_taken}
use Rattle.rv_model.specs.Effect.{Effect, Stored, effect, steps_on, after, jump_if, jumps_to, branch_if, load_effect, store_effect, even}
use Rattle.rv_model.specs.Space.{program_byte}
use Rattle.code_model.specs.Regions.{entry_address, listed_address}
use Rattle.run_model.specs.Run.{World, Run, rewritten_words}
use Rattle.run_model.specs.ShadowMoves.{fetch_shadow}
use Rattle.side_model.specs.Hart.{Regs, get, Priv, get_private, put_private, is_place}
use Rattle.code_model.specs.Tables.{Tabs}
use Rattle.side_model.specs.Places.{Place, code, address, IsBase}
use Rattle.side_model.specs.Words.{Point, Out, Goes, Loads, Stores, Fails, onward, jumped, branched, private_load, private_store, exec, exec_some}
use Rattle.side_model.specs.Rows.{Led, takes_entry, takes_count, takes_listed, takes_link, takes_program, takes_copy, puts_entry, puts_count, puts_listed, puts_link, puts_copy}
use Rattle.side_model.specs.Sees.{shade_of, Sees}
use Rattle.run_laws.specs.Completes.{Completes, goes_on, stores, asks_key, asks_call, asks_park, WordCompletes}
use Rattle.own_laws.proofs.InvisibleShadow.{shadow_view}
use Rattle.side_model.proofs.Private.{get_private-place}
use Rattle.side_model.proofs.Fetching.{CodeAt, code-fetches}
use Rattle.side_model.proofs.Tabling.{all_regions-most}
use Rattle.side_model.proofs.Views.{loads-private, loads-program, loads-shared, stores-private, stores-shared, entry_bytes, count_bytes, listed_bytes, link_byte, copy_byte}
use Rattle.side_model.proofs.Bridge.{IsPrivate, place-private, aligned}

-- a jump to a multiple of 4 completes
jump-completes : (rs : Registers) (target : ℕ) → target % 4 ≡ 0 → Completes (jumps_to rs target)
jump-completes rs target whole = subst (λ (b : Bool). Completes (jump_if b rs target)) (sym (eq-eqb (target % 4) 0 whole)) (goes_on rs target)

module _ (w : World) (base : ℕ) (Row : Place → Regs → Priv → Tabs → Memory → ℕ → Type 0)
    (Arrives : ℕ → Regs → Tabs → Memory → Type 0) (Why : Park → Tabs → Memory → Type 0) (n : ℕ)
    (few : w.image.layout.regions ≤ 65536) (lawful : IsBase base) (r : Run) (s : Point) (here : Sees w.image.layout base (shade_of r) s r.shared) where
  abbrev l : Layout
  l = w.image.layout

  abbrev program : Memory
  program = program_byte l (rewritten_words w) r.own.memory

  abbrev leads : Out → Type 0
  leads o = Led l program base Row Arrives Why n o

  abbrev view : Memory
  view = shadow_view w r

  abbrev rs : Registers
  rs = r.shadow.registers

  -- the address of the word
  abbrev pc : ℕ
  pc = address base s.place

  -- ---- jumps

  leapt : (rd target : ℕ) → leads (Goes (jumped base rd target s) r.shared) → Completes (jumps_to (with_reg rs rd (after pc)) target)
  leapt rd target d = jump-completes (with_reg rs rd (after pc)) target (aligned l program base Row Arrives Why n lawful _ _ d)

  -- a branch
  forked : (b : Bool) (target : ℕ) → leads (Goes (branched b target s) r.shared) → Completes (branch_if b rs pc target)
  forked true target d = jump-completes rs target (aligned l program base Row Arrives Why n lawful _ _ d)
  forked false target d = goes_on rs (after pc)

  -- ---- loads

  abbrev completes_load : LoadOp → ℕ → ℕ → Type 0
  completes_load op rd a = Completes (load_effect (shadow_rights l) view op rs pc rd a)

  -- a load whose effect is known
  loaded-as : (op : LoadOp) (rd a v : ℕ) → load_effect (shadow_rights l) view op rs pc rd a ≡ steps_on (with_reg rs rd v) pc → completes_load op rd a
  loaded-as op rd a v e = subst (λ (e : Effect). Completes e) (sym e) (goes_on (with_reg rs rd v) (after pc))

  -- a load from elsewhere than the private page
  loads-complete : (op : LoadOp) (rd a : ℕ) → leads (Loads op rd a (onward s) r.shared) → completes_load op rd a
  loads-complete _ rd a (takes_entry region e h d) =
      subst (λ (a : ℕ). completes_load Lwu rd a) (sym e)
      (loaded-as Lwu rd (entry_address region) _
      (loads-shared l (rewritten_words w) r.own.memory r.shared r.shadow_page rs pc Lwu rd (entry_address region) (omega arith) (omega arith) (omega (arith, all_regions-most l)) (λ x i j. entry_bytes l region x h i j)))
  loads-complete _ rd a (takes_count e d) =
      subst (λ (a : ℕ). completes_load Ld rd a) (sym e)
      (loaded-as Ld rd list_start _ (loads-shared l (rewritten_words w) r.own.memory r.shared r.shadow_page rs pc Ld rd list_start refl (omega arith) (omega arith) (λ x i j. count_bytes l x i j)))
  loads-complete _ rd a (takes_listed slot e h d) =
      subst (λ (a : ℕ). completes_load Lwu rd a) (sym e)
      (loaded-as Lwu rd (listed_address slot) _
      (loads-shared l (rewritten_words w) r.own.memory r.shared r.shadow_page rs pc Lwu rd (listed_address slot) (omega arith) (omega arith) (omega arith) (λ x i j. listed_bytes l slot x h i j)))
  loads-complete _ rd a (takes_link whole h k d) =
      loaded-as Ld rd a _ (loads-shared l (rewritten_words w) r.own.memory r.shared r.shadow_page rs pc Ld rd a whole (omega arith) (omega arith) (λ x i j. link_byte l x (omega arith) (omega arith)))
  loads-complete op rd a (takes_program whole h k d) = loaded-as op rd a _ (loads-program l (rewritten_words w) r.own.memory r.shared r.shadow_page rs pc op rd a whole h k)
  loads-complete op rd a (takes_copy whole h k d) =
      loaded-as op rd a _ (loads-shared l (rewritten_words w) r.own.memory r.shared r.shadow_page rs pc op rd a whole (omega arith) (omega arith) (λ x i j. copy_byte l x (omega arith) (omega arith)))

  -- a load from the private page
  private-loaded : (rd a : ℕ) (o : Option ℕ) → get_private a s.priv ≡ o → leads (private_load Ld rd o (onward s) r.shared) → completes_load Ld rd a
  private-loaded rd a (Some v) e d =
      let p : IsPrivate a = place-private a (get_private-place a v s.priv e) in
      loaded-as Ld rd a _ (loads-private l (rewritten_words w) r.own.memory r.shared r.shadow_page rs pc Ld rd a p.whole p.above p.below)
  private-loaded rd a None e d = elim d [ ]

  private-load-completes : (op : LoadOp) (rd a : ℕ) → leads (private_load op rd (get_private a s.priv) (onward s) r.shared) → completes_load op rd a
  private-load-completes Ld rd a d = private-loaded rd a (get_private a s.priv) refl d
  private-load-completes Lb rd a d = elim d [ ]
  private-load-completes Lh rd a d = elim d [ ]
  private-load-completes Lw rd a d = elim d [ ]
  private-load-completes Lbu rd a d = elim d [ ]
  private-load-completes Lhu rd a d = elim d [ ]
  private-load-completes Lwu rd a d = elim d [ ]

  -- ---- stores

  abbrev completes_store : ℕ → ℕ → ℕ → Type 0
  completes_store a width v = Completes (store_effect (shadow_rights l) a width v)

  -- a store whose effect is known
  stored-as : (a width v : ℕ) → store_effect (shadow_rights l) a width v ≡ Stored a width v → completes_store a width v
  stored-as a width v e = subst (λ (e : Effect). Completes e) (sym e) (stores a width v)

  -- a store elsewhere than to the private page
  stores-complete : (op : StoreOp) (a v : ℕ) → leads (Stores op a v (onward s) r.shared) → completes_store a (store_width op) v
  stores-complete _ a v (puts_entry region e h k d) =
      subst (λ (a : ℕ). completes_store a 4 v) (sym e) (stored-as (entry_address region) 4 v (stores-shared l (entry_address region) 4 v (omega arith) (λ x i j. entry_bytes l region x h i j)))
  stores-complete _ a v (puts_count e k d) = subst (λ (a : ℕ). completes_store a 8 v) (sym e) (stored-as list_start 8 v (stores-shared l list_start 8 v refl (λ x i j. count_bytes l x i j)))
  stores-complete _ a v (puts_listed slot e h k d) =
      subst (λ (a : ℕ). completes_store a 4 v) (sym e) (stored-as (listed_address slot) 4 v (stores-shared l (listed_address slot) 4 v (omega arith) (λ x i j. listed_bytes l slot x h i j)))
  stores-complete _ a v (puts_link whole h k d) = stored-as a 8 v (stores-shared l a 8 v whole (λ x i j. link_byte l x (omega arith) (omega arith)))
  stores-complete op a v (puts_copy whole h k d) = stored-as a (store_width op) v (stores-shared l a (store_width op) v whole (λ x i j. copy_byte l x (omega arith) (omega arith)))

  -- a store to the private page
  private-stored : (a v : ℕ) (b : Bool) → is_place a ≡ b → leads (cond b (Goes (record (onward s) { priv = put_private a v s.priv }) r.shared) Fails) → completes_store a 8 v
  private-stored a v false e d = elim d [ ]
  private-stored a v true e d = let p : IsPrivate a = place-private a e in stored-as a 8 v (stores-private l a 8 v p.whole p.above p.below)

  private-store-completes : (op : StoreOp) (a v : ℕ) → leads (private_store op a v (onward s) r.shared) → completes_store a (store_width op) v
  private-store-completes Sd a v d = private-stored a v (is_place a) refl d
  private-store-completes Sb a v d = elim d [ ]
  private-store-completes Sh a v d = elim d [ ]
  private-store-completes Sw a v d = elim d [ ]

  -- ---- each instruction

  -- a register as the row has it
  reg-is : (k : ℕ) → reg rs k ≡ get k s.regs
  reg-is k = here.regs.at k

  abbrev completes_by : ℕ → Instr → Type 0
  completes_by at i = Completes (effect Shadow (shadow_rights l) view rs at i)

  by-instr : (i : Instr) → leads (exec base i s r.shared) → completes_by pc i
  by-instr (Lui rd imm) d = goes_on _ _
  by-instr (Jal rd imm) d = leapt rd (plus_int pc imm) d
  by-instr (Jalr rd rs1 imm) d =
      subst (λ (v : ℕ). Completes (jumps_to (with_reg rs rd (after pc)) (even (plus_int v imm)))) (sym (reg-is rs1)) (leapt rd (even (plus_int (get rs1 s.regs) imm)) d)
  by-instr (Branch op rs1 rs2 imm) d =
      subst (λ (v : ℕ). Completes (branch_if (is_taken op v (reg rs rs2)) rs pc (plus_int pc imm))) (sym (reg-is rs1))
      (subst (λ (v : ℕ). Completes (branch_if (is_taken op (get rs1 s.regs) v) rs pc (plus_int pc imm))) (sym (reg-is rs2))
      (forked (is_taken op (get rs1 s.regs) (get rs2 s.regs)) (plus_int pc imm) d))
  by-instr (Load op rd zero imm) d = private-load-completes op rd (plus_int 0 imm) d
  by-instr (Load op rd (suc k) imm) d = subst (λ (v : ℕ). completes_load op rd (plus_int v imm)) (sym (reg-is (suc k))) (loads-complete op rd (plus_int (get (suc k) s.regs) imm) d)
  by-instr (Store op zero rs2 imm) d =
      subst (λ (v : ℕ). completes_store (plus_int 0 imm) (store_width op) v) (sym (reg-is rs2)) (private-store-completes op (plus_int 0 imm) (get rs2 s.regs) d)
  by-instr (Store op (suc k) rs2 imm) d =
      subst (λ (v : ℕ). completes_store (plus_int v imm) (store_width op) (reg rs rs2)) (sym (reg-is (suc k)))
      (subst (λ (v : ℕ). completes_store (plus_int (get (suc k) s.regs) imm) (store_width op) v) (sym (reg-is rs2)) (stores-complete op (plus_int (get (suc k) s.regs) imm) (get rs2 s.regs) d))
  by-instr (OpImm op rd rs1 imm) d = goes_on _ _
  by-instr (OpImmW op rd rs1 imm) d = goes_on _ _
  by-instr (Op op rd rs1 rs2) d = goes_on _ _
  by-instr (OpW op rd rs1 rs2) d = goes_on _ _
  by-instr (Fence word) d = goes_on _ _
  by-instr (Hkey rd) d = asks_key rd
  by-instr (Hcall unhinted) d = asks_call unhinted
  by-instr (Hpark cause) d = asks_park cause
  by-instr (Auipc rd imm) d = elim d [ ]
  by-instr Ecall d = elim d [ ]
  by-instr Ebreak d = elim d [ ]
  by-instr Hgate d = elim d [ ]
  by-instr Hleave d = elim d [ ]
  by-instr (Hsite rd) d = elim d [ ]
  by-instr Hstop d = elim d [ ]
  by-instr Hrestart d = elim d [ ]
  by-instr Illegal d = elim d [ ]

-- ---- the word at the shadow's place

module _ (w : World) (base : ℕ) (words : List Instr) (at : CodeAt w base words) (r : Run) (s : Point) (here : Sees w.image.layout base (shade_of r) s r.shared) where
  -- a word of the block at hand or of a helper is fetched; what it does at the address of its place, it does at the pc
  at-place : (i : Instr) → code w.image.layout words s.place ≡ Some i
      → Completes (effect Shadow (shadow_rights w.image.layout) (shadow_view w r) r.shadow.registers (address base s.place) i)
      → WordCompletes w r
  at-place i e c =
      record {
        word = i;
        fetched = ap (fetch_shadow w) here.pc ∙ (code-fetches w base words s.place i at e).word;
        completes = subst (λ (pc : ℕ). Completes (effect Shadow (shadow_rights w.image.layout) (shadow_view w r) r.shadow.registers pc i)) (sym here.pc) c;
      }

  -- where it is led, it completes
  pub word-no_trap : (Row : Place → Regs → Priv → Tabs → Memory → ℕ → Type 0) (Arrives : ℕ → Regs → Tabs → Memory → Type 0) (Why : Park → Tabs → Memory → Type 0) (n : ℕ) → w.image.layout.regions ≤ 65536
      → Led w.image.layout (program_byte w.image.layout (rewritten_words w) r.own.memory) base Row Arrives Why n (exec_some base (code w.image.layout words s.place) s r.shared) → WordCompletes w r
  word-no_trap Row Arrives Why n few d = by_code (code w.image.layout words s.place) refl d
    where
      by_code : (o : Option Instr) → code w.image.layout words s.place ≡ o
          → Led w.image.layout (program_byte w.image.layout (rewritten_words w) r.own.memory) base Row Arrives Why n (exec_some base o s r.shared) → WordCompletes w r
      by_code (Some i) e d = at-place i e (by-instr w base Row Arrives Why n few at.lawful r s here i d)
      by_code None e d = elim d [ ]

  -- a word that jumps by a register to a multiple of 4 completes
  pub jump-no_trap : (register : ℕ) (offset : ℤ) (target : ℕ) → code w.image.layout words s.place ≡ Some (Jalr 0 register offset)
      → even (plus_int (get register s.regs) offset) ≡ target → target % 4 ≡ 0 → WordCompletes w r
  jump-no_trap register offset target word to whole =
      let reached : even (plus_int (reg r.shadow.registers register) offset) ≡ target = ap (λ (v : ℕ). even (plus_int v offset)) (here.regs.at register) ∙ to in
      at-place (Jalr 0 register offset) word (jump-completes r.shadow.registers _ (ap (λ (a : ℕ). a % 4) reached ∙ whole))
