-- Where a running shadow stands: at a word of a block or a helper, with what its row says. Each of its words leads to such a place again, or parks.
use Rattle.std.proofs.Common.{◌≡◌, ℕ, ◌+◌, ◌^◌, ◌≤◌, ◌<◌, ◌⊎◌, inl, inr, Bool, true, false, ℤ, List, [], slice_get, Option, Some, None, refl, ◌∙◌, sym, arith, ◌≢◌}
use Rattle.spec_base.specs.Word.{plus_int}
use Rattle.spec_base.specs.declared.layout.Layout.{Layout}
use Rattle.spec_base.specs.declared.note.ShadowState.TheVariants.{Never, Running, Stopped, Parked}
use Rattle.spec_base.specs.declared.park.Park.{Park}
use Rattle.rv_decode.specs.Encoding.{IsEncodable}
use Rattle.rv_decode.specs.declared.instr.Instr.{Instr}
use Rattle.rv_decode.specs.declared.instr.Instr.TheVariants.{Lui, Auipc, Jal, Jalr, Branch, Load, Store, OpImm, OpImmW, Op, OpW, Fence, Ecall, Ebreak, Hgate, Hleave, Hsite, Hkey, Hstop, Hrestart, Hcall, Hpark, Illegal}
use Rattle.rv_decode.specs.declared.instr.BranchOp.{BranchOp}
use Rattle.rv_decode.specs.declared.instr.LoadOp.{LoadOp}
use Rattle.rv_decode.specs.declared.instr.StoreOp.{StoreOp}
use Rattle.rv_model.specs.Memory.{Memory, zeros}
use Rattle.rv_model.specs.Effect.{even}
use Rattle.code_model.specs.Assembly.{X31, ld}
use Rattle.code_model.specs.Blocks.{block, guard_block, is_target}
use Rattle.code_model.specs.Places.{block_at}
use Rattle.run_model.specs.Run.{World}
use Rattle.run_laws.specs.OwnLaws.{Accepted}
use Rattle.own_laws.proofs.Reached.{false_true}
use Rattle.side_model.specs.Hart.{Regs, Priv}
use Rattle.code_model.specs.Tables.{Tabs, TableOk}
use Rattle.side_model.specs.Tables.{HasTabs}
use Rattle.side_model.specs.Places.{Place, InBlock, InHelper, Away, address, code, HasBlock, IsInstruction}
use Rattle.side_model.specs.Words.{Point}
use Rattle.side_model.specs.Sees.{Shade, Sees, HasRegs}
use Rattle.side_model.specs.JumpRows.{JumpRow, j1, lands, JumpFits}
use Rattle.side_model.proofs.Fetching.{CodeAt, no_code}
use Rattle.side_model.proofs.Numbers.{TextFits, IsInText, target-inside}
use Rattle.rows_access.specs.LoadRows.{LoadsRow}
use Rattle.rows_access.specs.StoreRows.{StoresRow}
use Rattle.rows_access.proofs.LoadWords.{load_starts}
use Rattle.rows_access.proofs.StoreWords.{store_starts}
use Rattle.rows_flow.specs.PlainRows.{Computes, a_lui, an_imm, an_imm_w, an_op, an_op_w, a_fence, PlainRow, AuipcRow, Stops, at_ebreak, at_gate, at_leave, at_site, at_key, at_stop, at_restart, at_call, at_halt, at_illegal, ParkRow}
use Rattle.rows_flow.specs.BranchRows.{BranchRow}
use Rattle.rows_flow.specs.JalRows.{JalRow, PadRow, pad}
use Rattle.rows_flow.specs.JalrRows.{JalrRow}
use Rattle.rows_flow.proofs.PlainWords.{plain_starts, auipc_starts, park_starts}
use Rattle.rows_flow.proofs.BranchWords.{branch_starts}
use Rattle.rows_flow.proofs.JalWords.{jal_starts}
use Rattle.rows_flow.proofs.JalrWords.{jalr_starts}
use Rattle.rows_log.specs.RestartRows.{HasBox, RestartRow, RestartedRow}
use Rattle.shadow_laws.proofs.TextBlocks.{InText, at-address, at-block, text}

-- ---- rows

-- rows that don't mention the memory
abbrev pub bare : (Place → Regs → Priv → Tabs → ℕ → Type 0) → Place → Regs → Priv → Tabs → Memory → ℕ → Type 0
bare Row place rs s t m n = Row place rs s t n

-- word 0 of a block, whatever the registers
pub data PadAt : Place → Regs → Priv → Tabs → ℕ → Type 0 where
  at_pad : (rs : Regs) (s : Priv) {t : Tabs} {n : ℕ} → PadAt (InBlock 0) rs s t n

-- a stopped shadow doesn't run
pub stopped_running : {A : Type 0} → Stopped ≡ Running → A
stopped_running {A} e = absurd (no e)
  where
    no : Stopped ≡ Running → ⊥
    no e = cc

-- nor does one that was never started
pub never_running : {A : Type 0} → Never ≡ Running → A
never_running {A} e = absurd (no e)
  where
    no : Never ≡ Running → ⊥
    no e = cc

-- nor a parked one
pub parked_running : {A : Type 0} {cause : Park} → Parked cause ≡ Running → A
parked_running {A} e = absurd (no e)
  where
    no : {cause : Park} → Parked cause ≡ Running → ⊥
    no e = cc

-- no byte of the program's memory is known
abbrev pub unknown : ℕ → Option ℕ
unknown a = None

-- the shadow is at a row, in the block at base or in a helper
pub record At (w : World) (base : ℕ) (words : List Instr) (Row : Place → Regs → Priv → Tabs → Memory → ℕ → Type 0) (h : Shade) (n : ℕ) : Type 0 where
  pub code : CodeAt w base words
  pub point : Point
  pub shown : Sees w.image.layout base h point h.shared
  pub ok : TableOk w.image.layout point.tabs
  pub row : Row point.place point.regs point.priv point.tabs h.shared n

-- rows of a call's block, and of APPEND: for the call at an address, with these registers of the program
abbrev pub CallRows : Type 1
CallRows = ℕ → Regs → Place → Regs → Priv → Tabs → Memory → ℕ → Type 0

-- such rows begin with any registers that are the hart's
abbrev pub Starts : CallRows → Shade → Type 0
Starts C h = (p : ℕ) (q : Regs) (s : Priv) (t : Tabs) → HasRegs h.hart.registers q → C p q (InBlock 1) q s t h.shared 31

-- the shadow runs, and is at a row of one of the blocks or helpers, with n words left at most, calls by these rows
pub data Sound (w : World) (Calling : CallRows) (h : Shade) (n : ℕ) : Type 0 where
  computing : (p : ℕ) (i : Instr) (q : Regs) → IsInstruction w.image.layout p → Computes i
      → At w (block_at w.image.layout p) (block w.image.layout p i) (bare (PlainRow i q)) h n → Sound w Calling h n
  quartering : (p rd : ℕ) (imm : ℤ) (q : Regs) → IsInstruction w.image.layout p → IsEncodable (Auipc rd imm)
      → At w (block_at w.image.layout p) (block w.image.layout p (Auipc rd imm)) (bare (AuipcRow rd (plus_int p imm) q)) h n → Sound w Calling h n
  branching : (p : ℕ) (op : BranchOp) (rs1 rs2 : ℕ) (imm : ℤ) (q : Regs) → IsInstruction w.image.layout p
      → At w (block_at w.image.layout p) (block w.image.layout p (Branch op rs1 rs2 imm)) (bare (BranchRow op rs1 rs2 q)) h n → Sound w Calling h n
  linking : (p rd : ℕ) (imm : ℤ) (q : Regs) → IsInstruction w.image.layout p
      → At w (block_at w.image.layout p) (block w.image.layout p (Jal rd imm)) (bare (JalRow w.image.layout p rd (plus_int p imm) q)) h n → Sound w Calling h n
  going : (p rd rs1 : ℕ) (imm : ℤ) (q : Regs) → IsInstruction w.image.layout p
      → At w (block_at w.image.layout p) (block w.image.layout p (Jalr rd rs1 imm)) (bare (JalrRow w.image.layout p rd rs1 imm q)) h n → Sound w Calling h n
  jumping : (at : ℕ) (q : Regs) (base : ℕ) (words : List Instr) → JumpFits w.image.layout at q base words
      → At w base words (bare (JumpRow w.image.layout at q)) h n → Sound w Calling h n
  padded : (p : ℕ) (words : List Instr) → HasBlock w.image.layout p → slice_get words 0 ≡ Some (ld 31 X31 0)
      → At w (block_at w.image.layout p) words (bare PadAt) h n → Sound w Calling h n
  parking : (p : ℕ) (i : Instr) (q : Regs) → IsInstruction w.image.layout p → Stops i
      → At w (block_at w.image.layout p) (block w.image.layout p i) (bare (ParkRow q)) h n → Sound w Calling h n
  guarded : (q : Regs) → At w (block_at w.image.layout w.image.layout.text_end) guard_block (bare (ParkRow q)) h n → Sound w Calling h n
  loading : (p : ℕ) (op : LoadOp) (rd rs1 : ℕ) (imm : ℤ) (q : Regs) → IsInstruction w.image.layout p
      → At w (block_at w.image.layout p) (block w.image.layout p (Load op rd rs1 imm)) (bare (LoadsRow w.image.layout p op rd rs1 imm q None)) h n → Sound w Calling h n
  storing : (p : ℕ) (op : StoreOp) (rs1 rs2 : ℕ) (imm : ℤ) (q : Regs) (t0 : Tabs) → IsInstruction w.image.layout p
      → At w (block_at w.image.layout p) (block w.image.layout p (Store op rs1 rs2 imm)) (StoresRow w.image.layout p op rs1 rs2 imm q unknown zeros t0) h n → Sound w Calling h n
  calling : (p : ℕ) (q : Regs) → IsInstruction w.image.layout p → At w (block_at w.image.layout p) (block w.image.layout p Ecall) (Calling p q) h n → Sound w Calling h n
  restarting : (site : ℕ) (q : Regs) (base : ℕ) (words : List Instr) → IsInstruction w.image.layout site → JumpFits w.image.layout (site + 4) q base words
      → At w base words (λ place rs s t m k. RestartRow w.image.layout site q place rs s t k × HasBox m site q) h n → Sound w Calling h n
  unboxing : (site : ℕ) (q : Regs) (base : ℕ) (words : List Instr) → IsInstruction w.image.layout site → JumpFits w.image.layout (site + 4) q base words
      → At w base words (bare (RestartedRow w.image.layout site q)) h n → Sound w Calling h n

-- what is so at each row
pub record Standing (w : World) (h : Shade) : Type 0 where
  pub tables : Tabs
  pub has : HasTabs w.image.layout h.shared tables
  pub ok : TableOk w.image.layout tables
  pub running : h.hart.state ≡ Running

module _ (w : World) where
  -- at a row of its own
  pub stands-at : {base : ℕ} {words : List Instr} {Row : Place → Regs → Priv → Tabs → Memory → ℕ → Type 0} {h : Shade} {n : ℕ} → At w base words Row h n → Standing w h
  stands-at at = record { tables = at.point.tabs; has = at.shown.tabs; ok = at.ok; running = at.shown.running }

  -- and at each
  pub stands : {C : CallRows} {h : Shade} {n : ℕ} → Sound w C h n → Standing w h
  stands (computing p i q is c at) = stands-at at
  stands (quartering p rd imm q is f at) = stands-at at
  stands (branching p op rs1 rs2 imm q is at) = stands-at at
  stands (linking p rd imm q is at) = stands-at at
  stands (going p rd rs1 imm q is at) = stands-at at
  stands (jumping to q base words fits at) = stands-at at
  stands (padded p words b f at) = stands-at at
  stands (parking p i q is s at) = stands-at at
  stands (guarded q at) = stands-at at
  stands (loading p op rd rs1 imm q is at) = stands-at at
  stands (storing p op rs1 rs2 imm q t0 is at) = stands-at at
  stands (calling p q is at) = stands-at at
  stands (restarting site q base words is fits at) = stands-at at
  stands (unboxing site q base words is fits at) = stands-at at

-- ---- kinds of blocks

-- the instructions by the rows of their blocks
pub data Kind : Instr → Type 0 where
  is_computing : {i : Instr} → Computes i → Kind i
  is_stopping : {i : Instr} → Stops i → Kind i
  is_auipc : (rd : ℕ) (imm : ℤ) → Kind (Auipc rd imm)
  is_jal : (rd : ℕ) (imm : ℤ) → Kind (Jal rd imm)
  is_jalr : (rd rs1 : ℕ) (imm : ℤ) → Kind (Jalr rd rs1 imm)
  is_branch : (op : BranchOp) (rs1 rs2 : ℕ) (imm : ℤ) → Kind (Branch op rs1 rs2 imm)
  is_load : (op : LoadOp) (rd rs1 : ℕ) (imm : ℤ) → Kind (Load op rd rs1 imm)
  is_store : (op : StoreOp) (rs1 rs2 : ℕ) (imm : ℤ) → Kind (Store op rs1 rs2 imm)
  is_ecall : Kind Ecall

-- each instruction has one
pub kind-of : (i : Instr) → Kind i
kind-of (Lui rd imm) = is_computing (a_lui rd imm)
kind-of (OpImm op rd rs1 imm) = is_computing (an_imm op rd rs1 imm)
kind-of (OpImmW op rd rs1 imm) = is_computing (an_imm_w op rd rs1 imm)
kind-of (Op op rd rs1 rs2) = is_computing (an_op op rd rs1 rs2)
kind-of (OpW op rd rs1 rs2) = is_computing (an_op_w op rd rs1 rs2)
kind-of (Fence number) = is_computing (a_fence number)
kind-of (Auipc rd imm) = is_auipc rd imm
kind-of (Jal rd imm) = is_jal rd imm
kind-of (Jalr rd rs1 imm) = is_jalr rd rs1 imm
kind-of (Branch op rs1 rs2 imm) = is_branch op rs1 rs2 imm
kind-of (Load op rd rs1 imm) = is_load op rd rs1 imm
kind-of (Store op rs1 rs2 imm) = is_store op rs1 rs2 imm
kind-of Ecall = is_ecall
kind-of Ebreak = is_stopping at_ebreak
kind-of Hgate = is_stopping at_gate
kind-of Hleave = is_stopping at_leave
kind-of (Hsite rd) = is_stopping (at_site rd)
kind-of (Hkey rd) = is_stopping (at_key rd)
kind-of Hstop = is_stopping at_stop
kind-of Hrestart = is_stopping at_restart
kind-of (Hcall unhinted) = is_stopping (at_call unhinted)
kind-of (Hpark cause) = is_stopping (at_halt cause)
kind-of Illegal = is_stopping at_illegal

-- AUIPC is another instruction than ILLEGAL
pub auipc-legal : (rd : ℕ) (imm : ℤ) → Auipc rd imm ≢ Illegal
auipc-legal rd imm e = cc

-- ---- targets of JUMP

-- the block that a jump leads to, if it may
pub record Target (w : World) (at : ℕ) (q : Regs) : Type 0 where
  pub base : ℕ
  pub words : List Instr
  pub fits : JumpFits w.image.layout at q base words
  pub code : CodeAt w base words

module _ (w : World) (a : Accepted w) where
  abbrev l : Layout
  l = w.image.layout

  -- a target has a block
  pub target-block : (p : ℕ) → is_target l p ≡ true → HasBlock l p
  target-block p h =
      let i : IsInText l p = target-inside l p h in
      record { above = i.above; below = omega (arith, i.below); whole = let f : TextFits l = text w a in omega (arith, i.whole, f.start) }

  pub target-of : (at : ℕ) (q : Regs) → at < 2 ^ 64 → Target w at q
  target-of at q small = by_test (is_target l (even at)) refl
    where
      by_test : (b : Bool) → is_target l (even at) ≡ b → Target w at q
      by_test true e =
          let i : (i : Instr) × InText w (even at) i = at-address w a (even at) (target-block (even at) e) (target-inside l (even at) e).below in
          record {
            base = block_at l (even at);
            words = block l (even at) i.0;
            fits = record { lawful = a.lawful; small = small; place = λ m. refl; pad = λ m. refl };
            code = i.1.code;
          }
      by_test false e =
          record {
            base = 0x4000_0000;
            words = [];
            fits = record { lawful = a.lawful; small = small; place = λ m. false_true (sym e ∙ m); pad = λ m. false_true (sym e ∙ m) };
            code = no_code w;
          }

  -- ---- a block begins

  -- an instruction of the text stands there, as the rows say it
  pub instruction-is : {p : ℕ} {i : Instr} → InText w p i → IsInstruction l p
  instruction-is is = record { lawful = a.lawful; above = is.above; below = is.below; whole = is.whole }

  -- at word 1 of its block
  unfoldable pub at-first : {p : ℕ} {h : Shade} (s : Point) → TableOk l s.tabs → (i : Instr) (Row : Place → Regs → Priv → Tabs → Memory → ℕ → Type 0) (n : ℕ) → InText w p i
      → Sees l (block_at l p) h (record s { place = InBlock 1 }) h.shared → Row (InBlock 1) s.regs s.priv s.tabs h.shared n → At w (block_at l p) (block l p i) Row h n
  at-first s ok i Row n is v row = record { code = is.code; point = record s { place = InBlock 1 }; shown = v; ok = ok; row = row }

  module _ (C : CallRows) (p : ℕ) (h : Shade) (s : Point) (ok : TableOk l s.tabs) (start : Starts C h) where
    abbrev Begun : Type 0
    Begun = (n : ℕ) × (n ≤ 227) × Sound w C h n

    abbrev v1 : Type 0
    v1 = Sees l (block_at l p) h (record s { place = InBlock 1 }) h.shared

    by-kind : {i : Instr} → Kind i → InText w p i → v1 → Begun
    by-kind {i} (is_computing c) is v =
        (2, omega arith, computing p i s.regs (instruction-is is) c (at-first s ok i (bare (PlainRow i s.regs)) 2 is v (plain_starts i s.regs s.priv s.tabs)))
    by-kind {i} (is_stopping c) is v = (1, omega arith, parking p i s.regs (instruction-is is) c (at-first s ok i (bare (ParkRow s.regs)) 1 is v (park_starts s.regs s.priv s.tabs)))
    by-kind (is_auipc rd imm) is v = (
      4,
      omega arith,
      quartering p rd imm s.regs (instruction-is is) (is.encodable (auipc-legal rd imm))
          (at-first s ok (Auipc rd imm) (bare (AuipcRow rd (plus_int p imm) s.regs)) 4 is v (auipc_starts rd (plus_int p imm) s.regs s.priv s.tabs)),
    )
    by-kind (is_jal rd imm) is v =
        (6, omega arith, linking p rd imm s.regs (instruction-is is) (at-first s ok (Jal rd imm) (bare (JalRow l p rd (plus_int p imm) s.regs)) 6 is v (jal_starts l p rd (plus_int p imm) s.regs s.priv s.tabs)))
    by-kind (is_jalr rd rs1 imm) is v =
        (25, omega arith, going p rd rs1 imm s.regs (instruction-is is) (at-first s ok (Jalr rd rs1 imm) (bare (JalrRow l p rd rs1 imm s.regs)) 25 is v (jalr_starts l p rd rs1 imm s.regs s.priv s.tabs)))
    by-kind (is_branch op rs1 rs2 imm) is v = (
      2,
      omega arith,
      branching p op rs1 rs2 imm s.regs (instruction-is is) (at-first s ok (Branch op rs1 rs2 imm) (bare (BranchRow op rs1 rs2 s.regs)) 2 is v (branch_starts op rs1 rs2 s.regs s.priv s.tabs)),
    )
    by-kind (is_load op rd rs1 imm) is v = (
      227,
      omega arith,
      loading p op rd rs1 imm s.regs (instruction-is is)
          (at-first s ok (Load op rd rs1 imm) (bare (LoadsRow l p op rd rs1 imm s.regs None)) 227 is v (load_starts l p op rd rs1 imm s.regs None s.priv s.tabs)),
    )
    by-kind (is_store op rs1 rs2 imm) is v = (
      227,
      omega arith,
      storing p op rs1 rs2 imm s.regs s.tabs (instruction-is is)
          (at-first s ok (Store op rs1 rs2 imm) (StoresRow l p op rs1 rs2 imm s.regs unknown zeros s.tabs) 227 is v (store_starts l p op rs1 rs2 imm s.regs unknown zeros s.priv s.tabs h.shared (λ x i j. tt))),
    )
    by-kind is_ecall is v = (31, omega arith, calling p s.regs (instruction-is is) (at-first s ok Ecall (C p s.regs) 31 is v (start p s.regs s.priv s.tabs v.regs)))

  -- at word 1 of a block the shadow is at its first row
  pub begins : (C : CallRows) (p base : ℕ) (h : Shade) (s : Point) (m : Memory) → Starts C h → HasBlock l p → address base s.place ≡ block_at l p + 4 → TableOk l s.tabs → Sees l base h s m → (n : ℕ) × (n ≤ 227) × Sound w C h n
  begins C p base h s m start b e ok v = by_place (at-block w a p b)
    where
      shown : (x : ℕ) → x ≡ p → Sees l (block_at l x) h (record s { place = InBlock 1 }) h.shared
      shown x is = record { pc = v.pc ∙ e ∙ omega (arith, is); regs = v.regs; priv = v.priv; tabs = v.tabs; shared = refl; running = v.running }

      by_place : ((i : Instr) × InText w p i) ⊎ ((p ≡ l.text_end) × CodeAt w (block_at l l.text_end) guard_block) → (n : ℕ) × (n ≤ 227) × Sound w C h n
      by_place (inl (i, is)) = by-kind C p h s ok start (kind-of i) is (shown p refl)
      by_place (inr (end, code)) =
          (1, omega arith, guarded s.regs (record { code = code; point = record s { place = InBlock 1 }; shown = shown l.text_end (sym end); ok = ok; row = park_starts s.regs s.priv s.tabs }))

-- ---- what a word leads to

-- from a row with n words left: to a row with fewer, to word 1 of a block, or to a park
pub data Lands (w : World) (C : CallRows) (n : ℕ) (h : Shade) : Type 0 where
  goes : (k : ℕ) → k < n → Sound w C h k → Lands w C n h
  reaches : (p : ℕ) → HasBlock w.image.layout p → h.hart.pc ≡ block_at w.image.layout p + 4 → (k : ℕ) → k ≤ 227 → Sound w C h k → Lands w C n h
  halts : (cause : Park) → h.hart.state ≡ Parked cause → (t : Tabs) → HasTabs w.image.layout h.shared t → TableOk w.image.layout t → Lands w C n h

-- the places of JUMP are in a helper, or word 0 of a block
abbrev pub is_helper : Place → Bool
is_helper (InHelper h n) = true
is_helper (InBlock n) = false
is_helper (Away a) = false

pub jump-place : {l : Layout} {at : ℕ} {q : Regs} {place : Place} {rs : Regs} {p : Priv} {t : Tabs} {n : ℕ} → JumpRow l at q place rs p t n → (is_helper place ≡ true) ⊎ (place ≡ InBlock 0)
jump-place (j1 p) = inl refl
jump-place (lands p e) = inr refl
jump-place _ = inl refl

-- a place in a helper is the same whatever block is at hand
pub helper-address : (base other : ℕ) (place : Place) → is_helper place ≡ true → address base place ≡ address other place
helper-address base other (InHelper h n) e = refl
helper-address base other (InBlock n) e = false_true e
helper-address base other (Away a) e = refl

-- the target of jal, where its pad is reached
pub pad-target : {l : Layout} {p rd target : ℕ} {q : Regs} {place : Place} {rs : Regs} {s : Priv} {t : Tabs} {n : ℕ} → PadRow l p rd target q place rs s t n → is_target l target ≡ true
pad-target (pad s e) = e
