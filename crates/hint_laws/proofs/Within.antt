-- Where a shadow is that follows the program: at a word of the block of an instruction or of a helper, with what its row says of the registers at word 1 and of the bytes that are known.
use Rattle.std.proofs.Common.{◌≡◌, ℕ, zero, suc, ◌+◌, ◌*◌, ◌≤◌, ◌⊎◌, inl, inr, false, ℤ, List, slice_get, Option, Some, None, refl, ◌∙◌, sym, arith}
use Rattle.spec_base.specs.Word.{plus_int}
use Rattle.spec_base.specs.declared.layout.Layout.{Layout}
use Rattle.spec_base.specs.declared.note.ShadowState.TheVariants.{Running}
use Rattle.rv_decode.specs.Encoding.{IsEncodable}
use Rattle.rv_decode.specs.declared.instr.Instr.{Instr}
use Rattle.rv_decode.specs.declared.instr.Instr.TheVariants.{Auipc, Jal, Jalr, Branch, Load, Store, Ecall}
use Rattle.rv_decode.specs.declared.instr.BranchOp.{BranchOp}
use Rattle.rv_decode.specs.declared.instr.LoadOp.{LoadOp}
use Rattle.rv_decode.specs.declared.instr.StoreOp.{StoreOp}
use Rattle.rv_model.specs.Memory.{Memory}
use Rattle.rv_model.specs.Arithmetic.{load_width}
use Rattle.code_model.specs.Assembly.{X31, ld}
use Rattle.code_model.specs.Blocks.{block, guard_block}
use Rattle.code_model.specs.Places.{block_at}
use Rattle.run_model.specs.Run.{World}
use Rattle.run_laws.specs.OwnLaws.{Accepted}
use Rattle.side_model.specs.Hart.{Regs, get, put, Priv}
use Rattle.code_model.specs.Tables.{Tabs, TableOk}
use Rattle.side_model.specs.Tables.{HasTabs}
use Rattle.side_model.specs.Places.{Place, InBlock, address, HasBlock, IsInstruction}
use Rattle.side_model.specs.Words.{Point}
use Rattle.side_model.specs.Sees.{Shade, Sees}
use Rattle.side_model.specs.JumpRows.{JumpRow, JumpFits}
use Rattle.side_model.proofs.Fetching.{CodeAt}
use Rattle.rows_access.specs.Accesses.{Allows, seen}
use Rattle.rows_access.specs.LoadRows.{LoadsRow}
use Rattle.rows_access.specs.StoreRows.{StoresRow}
use Rattle.rows_access.proofs.LoadWords.{load_starts}
use Rattle.rows_access.proofs.StoreWords.{store_starts}
use Rattle.rows_flow.specs.PlainRows.{Computes, PlainRow, AuipcRow, Stops, ParkRow}
use Rattle.rows_flow.specs.BranchRows.{BranchRow}
use Rattle.rows_flow.specs.JalRows.{JalRow, PadRow}
use Rattle.rows_flow.specs.JalrRows.{JalrRow}
use Rattle.rows_flow.proofs.PlainWords.{plain_starts, auipc_starts, park_starts}
use Rattle.rows_flow.proofs.BranchWords.{branch_starts}
use Rattle.rows_flow.proofs.JalWords.{jal_starts}
use Rattle.rows_flow.proofs.JalrWords.{jalr_starts}
use Rattle.rows_log.specs.RestartRows.{HasBox, RestartRow, RestartedRow}
use Rattle.shadow_laws.proofs.AnyCalls.{AnyCallRow, b1, is_seventh}
use Rattle.shadow_laws.proofs.Sound.{At, bare, Standing, stands-at, at-first, instruction-is, Kind, kind-of, is_computing, is_stopping, is_auipc, is_jal, is_jalr, is_branch, is_load, is_store, is_ecall, auipc-legal}
use Rattle.shadow_laws.proofs.TextBlocks.{InText, at-block}

-- ---- what is known

-- a byte and the number above it, where both are known
abbrev pub joined : Option ℕ → Option ℕ → Option ℕ
joined (Some b) (Some v) = Some (b + 256 * v)
joined (Some b) None = None
joined None v = None

-- the number of the n bytes from an address on, where all of them are known
unfoldable pub known_from : (ℕ → Option ℕ) → ℕ → ℕ → Option ℕ
known_from bytes a zero = Some 0
known_from bytes a (suc n) = joined (bytes a) (known_from bytes (a + 1) n)

-- each known byte is what the shadow has in place of the program's memory
abbrev pub AreSeen : Layout → (ℕ → Option ℕ) → Memory → Memory → Type 0
AreSeen l bytes program shared = (t : Tabs) → HasTabs l shared t → (a : ℕ) → Allows (bytes a) (seen t shared program a)

-- ---- what the shadow is doing

-- the instruction at an address of the text, with these registers at word 1; the guard block; RESTART up to its HCALL, with a box; or what is left behind an HCALL on the way to the block of a target, with the registers there
pub data Doing : Type 0 where
  does : (p : ℕ) (i : Instr) (q : Regs) → Doing
  ends : (q : Regs) → Doing
  restarts : (site : ℕ) (q : Regs) → Doing
  goes_to : (target : ℕ) (q : Regs) → Doing

-- ---- where it is

-- the word behind the HCALL, with these registers
pub data BehindRow (q : Regs) : Place → Regs → Priv → Tabs → ℕ → Type 0 where
  behind : (s : Priv) {t : Tabs} → BehindRow q (InBlock 7) q s t 1

-- the shadow runs, and is at a row of what it is doing, with n words left at most. The bytes are those of the plain state that are known, and program is what the program range has
pub data Within (w : World) (bytes : ℕ → Option ℕ) (program : Memory) : Doing → Shade → ℕ → Type 0 where
  computing : {h : Shade} {n : ℕ} (p : ℕ) (i : Instr) (q : Regs) → IsInstruction w.image.layout p → Computes i
      → At w (block_at w.image.layout p) (block w.image.layout p i) (bare (PlainRow i q)) h n → Within w bytes program (does p i q) h n
  quartering : {h : Shade} {n : ℕ} (p rd : ℕ) (imm : ℤ) (q : Regs) → IsInstruction w.image.layout p → IsEncodable (Auipc rd imm)
      → At w (block_at w.image.layout p) (block w.image.layout p (Auipc rd imm)) (bare (AuipcRow rd (plus_int p imm) q)) h n → Within w bytes program (does p (Auipc rd imm) q) h n
  branching : {h : Shade} {n : ℕ} (p : ℕ) (op : BranchOp) (rs1 rs2 : ℕ) (imm : ℤ) (q : Regs) → IsInstruction w.image.layout p
      → At w (block_at w.image.layout p) (block w.image.layout p (Branch op rs1 rs2 imm)) (bare (BranchRow op rs1 rs2 q)) h n → Within w bytes program (does p (Branch op rs1 rs2 imm) q) h n
  linking : {h : Shade} {n : ℕ} (p rd : ℕ) (imm : ℤ) (q : Regs) → IsInstruction w.image.layout p
      → At w (block_at w.image.layout p) (block w.image.layout p (Jal rd imm)) (bare (JalRow w.image.layout p rd (plus_int p imm) q)) h n → Within w bytes program (does p (Jal rd imm) q) h n
  padding : {h : Shade} {n : ℕ} (p rd : ℕ) (imm : ℤ) (q : Regs) (words : List Instr) → IsInstruction w.image.layout p → slice_get words 0 ≡ Some (ld 31 X31 0)
      → At w (block_at w.image.layout (plus_int p imm)) words (bare (PadRow w.image.layout p rd (plus_int p imm) q)) h n → Within w bytes program (does p (Jal rd imm) q) h n
  going : {h : Shade} {n : ℕ} (p rd rs1 : ℕ) (imm : ℤ) (q : Regs) → IsInstruction w.image.layout p
      → At w (block_at w.image.layout p) (block w.image.layout p (Jalr rd rs1 imm)) (bare (JalrRow w.image.layout p rd rs1 imm q)) h n → Within w bytes program (does p (Jalr rd rs1 imm) q) h n
  jumping : {h : Shade} {n : ℕ} (p rd rs1 : ℕ) (imm : ℤ) (q : Regs) (base : ℕ) (words : List Instr) → IsInstruction w.image.layout p
      → JumpFits w.image.layout (plus_int (get rs1 q) imm) (put rd (p + 4) q) base words
      → At w base words (bare (JumpRow w.image.layout (plus_int (get rs1 q) imm) (put rd (p + 4) q))) h n → Within w bytes program (does p (Jalr rd rs1 imm) q) h n
  parking : {h : Shade} {n : ℕ} (p : ℕ) (i : Instr) (q : Regs) → IsInstruction w.image.layout p → Stops i
      → At w (block_at w.image.layout p) (block w.image.layout p i) (bare (ParkRow q)) h n → Within w bytes program (does p i q) h n
  guarded : {h : Shade} {n : ℕ} (q : Regs) → At w (block_at w.image.layout w.image.layout.text_end) guard_block (bare (ParkRow q)) h n → Within w bytes program (ends q) h n
  loading : {h : Shade} {n : ℕ} (p : ℕ) (op : LoadOp) (rd rs1 : ℕ) (imm : ℤ) (q : Regs) → IsInstruction w.image.layout p
      → At w (block_at w.image.layout p) (block w.image.layout p (Load op rd rs1 imm))
      (bare (LoadsRow w.image.layout p op rd rs1 imm q (known_from bytes (plus_int (get rs1 q) imm) (load_width op)))) h n → Within w bytes program (does p (Load op rd rs1 imm) q) h n
  storing : {h : Shade} {n : ℕ} (p : ℕ) (op : StoreOp) (rs1 rs2 : ℕ) (imm : ℤ) (q : Regs) (t0 : Tabs) → IsInstruction w.image.layout p
      → At w (block_at w.image.layout p) (block w.image.layout p (Store op rs1 rs2 imm)) (StoresRow w.image.layout p op rs1 rs2 imm q bytes program t0) h n
      → Within w bytes program (does p (Store op rs1 rs2 imm) q) h n
  calling : {h : Shade} {n : ℕ} (p : ℕ) (q : Regs) → IsInstruction w.image.layout p → (at : At w (block_at w.image.layout p) (block w.image.layout p Ecall) (bare (AnyCallRow w.image.layout p q)) h n)
      → is_seventh at.point.place ≡ false → Within w bytes program (does p Ecall q) h n
  answered : {h : Shade} {n : ℕ} (p answer : ℕ) (q : Regs) → IsInstruction w.image.layout p
      → At w (block_at w.image.layout p) (block w.image.layout p Ecall) (bare (BehindRow (put 10 answer q))) h n → Within w bytes program (goes_to (p + 4) (put 10 answer q)) h n
  restarting : {h : Shade} {n : ℕ} (site : ℕ) (q : Regs) (base : ℕ) (words : List Instr) → IsInstruction w.image.layout site → JumpFits w.image.layout (site + 4) q base words
      → At w base words (λ place rs s t m k. RestartRow w.image.layout site q place rs s t k × HasBox m site q) h n → Within w bytes program (restarts site q) h n
  unboxing : {h : Shade} {n : ℕ} (site : ℕ) (q : Regs) (base : ℕ) (words : List Instr) → IsInstruction w.image.layout site → JumpFits w.image.layout (site + 4) q base words
      → At w base words (bare (RestartedRow w.image.layout site q)) h n → Within w bytes program (goes_to (site + 4) q) h n

-- in each row the shadow runs, and the tables are consistent
pub within-stands : {w : World} {bytes : ℕ → Option ℕ} {program : Memory} {d : Doing} {h : Shade} {n : ℕ} → Within w bytes program d h n → Standing w h
within-stands {w} (computing p i q is c at) = stands-at w at
within-stands {w} (quartering p rd imm q is f at) = stands-at w at
within-stands {w} (branching p op rs1 rs2 imm q is at) = stands-at w at
within-stands {w} (linking p rd imm q is at) = stands-at w at
within-stands {w} (padding p rd imm q words is f at) = stands-at w at
within-stands {w} (going p rd rs1 imm q is at) = stands-at w at
within-stands {w} (jumping p rd rs1 imm q base words is fits at) = stands-at w at
within-stands {w} (parking p i q is c at) = stands-at w at
within-stands {w} (guarded q at) = stands-at w at
within-stands {w} (loading p op rd rs1 imm q is at) = stands-at w at
within-stands {w} (storing p op rs1 rs2 imm q t0 is at) = stands-at w at
within-stands {w} (calling p q is at before) = stands-at w at
within-stands {w} (answered p answer q is at) = stands-at w at
within-stands {w} (restarting site q base words is fits at) = stands-at w at
within-stands {w} (unboxing site q base words is fits at) = stands-at w at

-- it runs
pub within-running : {w : World} {bytes : ℕ → Option ℕ} {program : Memory} {d : Doing} {h : Shade} {n : ℕ} → Within w bytes program d h n → h.hart.state ≡ Running
within-running within = (within-stands within).running

-- ---- a block begins

-- at word 1 of a block the shadow begins the instruction, or is at the text's end
pub data Begun (w : World) (bytes : ℕ → Option ℕ) (program : Memory) (p : ℕ) (q : Regs) (h : Shade) : Type 0 where
  begun : (i : Instr) → InText w p i → (n : ℕ) → n ≤ 227 → Within w bytes program (does p i q) h n → Begun w bytes program p q h
  at_end : p ≡ w.image.layout.text_end → (n : ℕ) → n ≤ 227 → Within w bytes program (ends q) h n → Begun w bytes program p q h

module _ (w : World) (a : Accepted w) (bytes : ℕ → Option ℕ) (program : Memory) where
  abbrev l : Layout
  l = w.image.layout

  module _ (p : ℕ) (h : Shade) (s : Point) (ok : TableOk l s.tabs) (sees : AreSeen l bytes program h.shared) where
    -- what is claimed
    abbrev Begins : Type 0
    Begins = Begun w bytes program p s.regs h

    -- at word 1
    abbrev v1 : Type 0
    v1 = Sees l (block_at l p) h (record s { place = InBlock 1 }) h.shared

    -- by the rows of its block
    by-kind : {i : Instr} → Kind i → InText w p i → v1 → Begins
    unfolding at-first
    by-kind {i} (is_computing c) is v = begun i is 2 (omega arith) (computing p i s.regs (instruction-is w a is) c (at-first w a s ok i (bare (PlainRow i s.regs)) 2 is v (plain_starts i s.regs s.priv s.tabs)))
    by-kind {i} (is_stopping c) is v = begun i is 1 (omega arith) (parking p i s.regs (instruction-is w a is) c (at-first w a s ok i (bare (ParkRow s.regs)) 1 is v (park_starts s.regs s.priv s.tabs)))
    by-kind (is_auipc rd imm) is v =
        begun (Auipc rd imm) is 4 (omega arith)
        (quartering p rd imm s.regs (instruction-is w a is) (is.encodable (auipc-legal rd imm))
        (at-first w a s ok (Auipc rd imm) (bare (AuipcRow rd (plus_int p imm) s.regs)) 4 is v (auipc_starts rd (plus_int p imm) s.regs s.priv s.tabs)))
    by-kind (is_jal rd imm) is v =
        begun (Jal rd imm) is 6 (omega arith)
        (linking p rd imm s.regs (instruction-is w a is) (at-first w a s ok (Jal rd imm) (bare (JalRow l p rd (plus_int p imm) s.regs)) 6 is v (jal_starts l p rd (plus_int p imm) s.regs s.priv s.tabs)))
    by-kind (is_jalr rd rs1 imm) is v =
        begun (Jalr rd rs1 imm) is 25 (omega arith)
        (going p rd rs1 imm s.regs (instruction-is w a is) (at-first w a s ok (Jalr rd rs1 imm) (bare (JalrRow l p rd rs1 imm s.regs)) 25 is v (jalr_starts l p rd rs1 imm s.regs s.priv s.tabs)))
    by-kind (is_branch op rs1 rs2 imm) is v =
        begun (Branch op rs1 rs2 imm) is 2 (omega arith)
        (branching p op rs1 rs2 imm s.regs (instruction-is w a is) (at-first w a s ok (Branch op rs1 rs2 imm) (bare (BranchRow op rs1 rs2 s.regs)) 2 is v (branch_starts op rs1 rs2 s.regs s.priv s.tabs)))
    by-kind (is_load op rd rs1 imm) is v =
        let given : Option ℕ = known_from bytes (plus_int (get rs1 s.regs) imm) (load_width op) in
        begun (Load op rd rs1 imm) is 227 (omega arith)
        (loading p op rd rs1 imm s.regs (instruction-is w a is)
        (at-first w a s ok (Load op rd rs1 imm) (bare (LoadsRow l p op rd rs1 imm s.regs given)) 227 is v (load_starts l p op rd rs1 imm s.regs given s.priv s.tabs)))
    by-kind (is_store op rs1 rs2 imm) is v =
        begun (Store op rs1 rs2 imm) is 227 (omega arith)
        (storing p op rs1 rs2 imm s.regs s.tabs (instruction-is w a is)
        (at-first w a s ok (Store op rs1 rs2 imm) (StoresRow l p op rs1 rs2 imm s.regs bytes program s.tabs) 227 is v
        (store_starts l p op rs1 rs2 imm s.regs bytes program s.priv s.tabs h.shared (λ x i j. sees s.tabs v.tabs x))))
    by-kind is_ecall is v =
        begun Ecall is 31 (omega arith) (calling p s.regs (instruction-is w a is) (at-first w a s ok Ecall (bare (AnyCallRow l p s.regs)) 31 is v (b1 s.priv)) refl)

  -- at word 1 of a block, where the known bytes are what the shadow sees, it begins
  pub begins : (p base : ℕ) (h : Shade) (s : Point) (m : Memory) → HasBlock l p → address base s.place ≡ block_at l p + 4 → TableOk l s.tabs → Sees l base h s m → AreSeen l bytes program h.shared → Begun w bytes program p s.regs h
  begins p base h s m b e ok v sees = by_place (at-block w a p b)
    where
      shown : (x : ℕ) → x ≡ p → Sees l (block_at l x) h (record s { place = InBlock 1 }) h.shared
      shown x is = record { pc = v.pc ∙ e ∙ omega (arith, is); regs = v.regs; priv = v.priv; tabs = v.tabs; shared = refl; running = v.running }

      by_place : ((i : Instr) × InText w p i) ⊎ ((p ≡ l.text_end) × CodeAt w (block_at l l.text_end) guard_block) → Begun w bytes program p s.regs h
      by_place (inl (i, is)) = by-kind p h s ok sees (kind-of i) is (shown p refl)
      by_place (inr (end, code)) =
          at_end end 1 (omega arith)
          (guarded s.regs (record { code = code; point = record s { place = InBlock 1 }; shown = shown l.text_end (sym end); ok = ok; row = park_starts s.regs s.priv s.tabs }))
