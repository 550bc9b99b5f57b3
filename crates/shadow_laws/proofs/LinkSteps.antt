-- What a word of the shadow leaves of the link: all, unless it is one of a call's.
use Rattle.std.proofs.Common.{◌≡◌, ℕ, ◌%◌, ◌⊎◌, inl, inr, Bool, true, false, ℤ, List, slice_get, Option, Some, None, refl, ◌∙◌, ap, sym, subst, ◌==◌}
use Rattle.spec_base.specs.Word.{plus_int}
use Rattle.spec_base.specs.declared.layout.Layout.{Layout}
use Rattle.spec_base.specs.declared.note.ShadowState.TheVariants.{Running, Parked}
use Rattle.spec_base.specs.declared.park.Park.{Park}
use Rattle.rv_decode.specs.declared.instr.Instr.{Instr}
use Rattle.rv_decode.specs.declared.instr.Instr.TheVariants.{Lui, Auipc, Jal, Jalr, Branch, Load, Store, OpImm, OpImmW, Op, OpW, Fence, Ecall, Ebreak, Hgate, Hleave, Hsite, Hkey, Hstop, Hrestart, Hcall, Hpark, Illegal}
use Rattle.rv_model.specs.Memory.{Memory, zeros, all_from}
use Rattle.rv_model.specs.Registers.{reg}
use Rattle.rv_model.specs.Arithmetic.{store_width}
use Rattle.rv_model.specs.Rights.{in_private, shadow_rights}
use Rattle.rv_model.specs.Effect.{store_if}
use Rattle.rv_model.specs.Space.{program_byte}
use Rattle.code_model.specs.Assembly.{X31, ld}
use Rattle.code_model.specs.Blocks.{block}
use Rattle.code_model.specs.Places.{block_at}
use Rattle.run_model.specs.Run.{World, Run, Answer, rewritten_words}
use Rattle.run_model.specs.ShadowMoves.{shadow_step, shadow_after, shadow_stores, fetch_shadow}
use Rattle.run_laws.specs.OwnLaws.{Accepted}
use Rattle.own_laws.proofs.Reached.{false_true, none_some}
use Rattle.own_laws.proofs.InvisibleShadow.{shadow_effect}
use Rattle.side_model.specs.Hart.{Regs, Priv}
use Rattle.code_model.specs.Tables.{Tabs}
use Rattle.side_model.specs.Places.{Place, Jumping, Faulting, address, code, IsInstruction}
use Rattle.side_model.specs.Words.{Point, exec_some}
use Rattle.side_model.specs.Rows.{Led}
use Rattle.side_model.specs.Sees.{Shade, shade_of, Landed, goes_on, arrived, parked}
use Rattle.side_model.specs.JumpRows.{JumpRow, j1, j2, j3, j4, j5, j6, j7, j8, j9, j10, j11, j12, j13, j14, j15, j16, lands, faults, JumpFits}
use Rattle.side_model.proofs.Fetching.{Fetches, code-fetches}
use Rattle.side_model.proofs.JumpWords.{jump_leads}
use Rattle.side_model.proofs.Stepping.{shade-step}
use Rattle.rows_access.proofs.LoadWords.{load_leads}
use Rattle.rows_access.proofs.StoreWords.{store_leads}
use Rattle.rows_access.proofs.StoreChanges.{store_keeps}
use Rattle.rows_flow.specs.JalRows.{JalRow, PadRow, Crosses, stays, crosses}
use Rattle.rows_flow.proofs.PlainWords.{plain_leads, auipc_leads, park_leads, guard_leads}
use Rattle.rows_flow.proofs.BranchWords.{branch_leads}
use Rattle.rows_flow.proofs.JalWords.{jal_leads}
use Rattle.rows_flow.proofs.JalrWords.{jalr_leads}
use Rattle.rows_log.specs.LinkWords.{stores_out}
use Rattle.rows_log.specs.Queue.{LeavesLink}
use Rattle.rows_log.specs.RestartRows.{RestartNext, word, call}
use Rattle.rows_log.proofs.LinkLeft.{helpers-store_not, words-leave_link}
use Rattle.rows_log.proofs.RestartWords.{restart_leads, restarted_leads}
use Rattle.shadow_laws.proofs.ShadowNumbers.{Sized, stock_of}
use Rattle.shadow_laws.proofs.Sound.{CallRows, bare, PadAt, at_pad, unknown, At, Sound, computing, quartering, branching, linking, going, jumping, padded, parking, guarded, loading, storing, calling, restarting, unboxing, parked_running}
use Rattle.shadow_laws.proofs.SoundSteps.{landed, pad-leads}

-- ---- words that aren't stores

-- the words of JUMP, and of the pad behind it
jump-quiet : {l : Layout} {at : ℕ} {q : Regs} {base : ℕ} {words : List Instr} {place : Place} {rs : Regs} {p : Priv} {t : Tabs} {n : ℕ} → JumpFits l at q base words → JumpRow l at q place rs p t n
    → (i : Instr) → code l words place ≡ Some i → stores_out i ≡ false
jump-quiet {l = l} fits (j1 p) i e = helpers-store_not l Jumping refl 0 i e
jump-quiet {l = l} fits (j2 p) i e = helpers-store_not l Jumping refl 1 i e
jump-quiet {l = l} fits (j3 p) i e = helpers-store_not l Jumping refl 2 i e
jump-quiet {l = l} fits (j4 p) i e = helpers-store_not l Jumping refl 3 i e
jump-quiet {l = l} fits (j5 p) i e = helpers-store_not l Jumping refl 4 i e
jump-quiet {l = l} fits (j6 p h) i e = helpers-store_not l Jumping refl 5 i e
jump-quiet {l = l} fits (j7 p h) i e = helpers-store_not l Jumping refl 6 i e
jump-quiet {l = l} fits (j8 p h) i e = helpers-store_not l Jumping refl 7 i e
jump-quiet {l = l} fits (j9 p h) i e = helpers-store_not l Jumping refl 8 i e
jump-quiet {l = l} fits (j10 p h) i e = helpers-store_not l Jumping refl 9 i e
jump-quiet {l = l} fits (j11 p h) i e = helpers-store_not l Jumping refl 10 i e
jump-quiet {l = l} fits (j12 p h) i e = helpers-store_not l Jumping refl 11 i e
jump-quiet {l = l} fits (j13 p h) i e = helpers-store_not l Jumping refl 12 i e
jump-quiet {l = l} fits (j14 p h) i e = helpers-store_not l Jumping refl 13 i e
jump-quiet {l = l} fits (j15 p h) i e = helpers-store_not l Jumping refl 14 i e
jump-quiet {l = l} fits (j16 p h) i e = helpers-store_not l Jumping refl 15 i e
jump-quiet {l = l} fits (lands p h) i e = let is : Some (ld 31 X31 0) ≡ Some i = sym (fits.pad h) ∙ e in let same : ld 31 X31 0 ≡ i = cc in subst (λ (j : Instr). stores_out j ≡ false) same refl
jump-quiet {l = l} fits (faults p h) i e = helpers-store_not l Faulting refl 0 i e

-- word 0 of a block
pad-quiet : (l : Layout) (words : List Instr) {place : Place} {rs : Regs} {s : Priv} {t : Tabs} {n : ℕ} → slice_get words 0 ≡ Some (ld 31 X31 0) → PadAt place rs s t n
    → (i : Instr) → code l words place ≡ Some i → stores_out i ≡ false
pad-quiet l words f (at_pad rs s) i e = let is : Some (ld 31 X31 0) ≡ Some i = sym f ∙ e in let same : ld 31 X31 0 ≡ i = cc in subst (λ (j : Instr). stores_out j ≡ false) same refl

-- ---- a store that parks has stored nothing

-- a store leaves the state
pub stores-go_on : (b : Bool) (r : Run) (a width v : ℕ) → (shade_of (shadow_stores b r a width v)).hart.state ≡ r.shadow.state
stores-go_on true r a width v = refl
stores-go_on false r a width v = refl

module _ (w : World) (x : Answer) (r : Run) where
  -- the link is left, or the shadow runs on
  abbrev Stores : Shade → Type 0
  Stores h = (h.shared ≡ r.shared) ⊎ (h.hart.state ≡ r.shadow.state)

  store_if-stores : (b c : Bool) (a width v : ℕ) → Stores (shade_of (shadow_after w x r (store_if b c a width v)))
  store_if-stores false c a width v = inl refl
  store_if-stores true false a width v = inl refl
  store_if-stores true true a width v = inr (stores-go_on (in_private a) r a width v)

  store-stores : (i : Instr) → stores_out i ≡ true
      → Stores (shade_of (shadow_after w x r (shadow_effect w r i)))
  store-stores (Store op rs1 rs2 imm) e =
      let a : ℕ = plus_int (reg r.shadow.registers rs1) imm in
      store_if-stores (a % store_width op == 0) (all_from (shadow_rights w.image.layout).store a (store_width op)) a (store_width op) (reg r.shadow.registers rs2)
  store-stores (Lui rd imm) e = false_true e
  store-stores (Auipc rd imm) e = false_true e
  store-stores (Jal rd imm) e = false_true e
  store-stores (Jalr rd rs1 imm) e = false_true e
  store-stores (Branch op rs1 rs2 imm) e = false_true e
  store-stores (Load op rd rs1 imm) e = false_true e
  store-stores (OpImm op rd rs1 imm) e = false_true e
  store-stores (OpImmW op rd rs1 imm) e = false_true e
  store-stores (Op op rd rs1 rs2) e = false_true e
  store-stores (OpW op rd rs1 rs2) e = false_true e
  store-stores (Fence number) e = false_true e
  store-stores Ecall e = false_true e
  store-stores Ebreak e = false_true e
  store-stores Hgate e = false_true e
  store-stores Hleave e = false_true e
  store-stores (Hsite rd) e = false_true e
  store-stores (Hkey rd) e = false_true e
  store-stores Hstop e = false_true e
  store-stores Hrestart e = false_true e
  store-stores (Hcall unhinted) e = false_true e
  store-stores (Hpark cause) e = false_true e
  store-stores Illegal e = false_true e

  -- where a store leads
  step-stores : (i : Instr) → r.shadow.state ≡ Running → fetch_shadow w r.shadow.pc ≡ Some i → stores_out i ≡ true → Stores (shade_of (shadow_step w x r))
  step-stores i running f e =
      subst Stores (sym (shade-step w x r i running f)) (store-stores i e)

module _ (w : World) (a : Accepted w) (x : Answer) (r : Run) (z : Sized (stock_of r)) where
  abbrev l : Layout
  l = w.image.layout

  abbrev after : Shade
  after = shade_of (shadow_step w x r)

  abbrev program : Memory
  program = program_byte l (rewritten_words w) r.own.memory

  -- ---- one word

  -- a word that is no store
  pub quiet : {X : Type 0} {base : ℕ} {words : List Instr} {Row Row' : Place → Regs → Priv → Tabs → Memory → ℕ → Type 0} {Arrives : ℕ → Regs → Tabs → Memory → Type 0} {Why : Park → Tabs → Memory → Type 0} {n : ℕ}
      → (LeavesLink r.shared after.shared → X) → (at : At w base words Row (shade_of r) n) → Led l program base Row' Arrives Why n (exec_some base (code l words at.point.place) at.point r.shared)
      → ((i : Instr) → code l words at.point.place ≡ Some i → stores_out i ≡ false) → X
  quiet {X} {base} {words} {Row} {Row'} {Arrives} {Why} {n} keeps at d q = by_code (code l words at.point.place) refl d
    where
      by_code : (o : Option Instr) → code l words at.point.place ≡ o → Led l program base Row' Arrives Why n (exec_some base o at.point r.shared) → X
      by_code None e d = elim d [ ]
      by_code (Some i) e d =
          let f : Fetches w (address base at.point.place) i = code-fetches w base words at.point.place i at.code e in
          keeps (words-leave_link w x r i (ap (fetch_shadow w) at.shown.pc ∙ f.word) (q i e))

  -- any word: a store leads to a row, or arrives, and says what it leaves there
  pub stored-by : {X : Type 0} {base : ℕ} {words : List Instr} {Row Row' : Place → Regs → Priv → Tabs → Memory → ℕ → Type 0} {Arrives : ℕ → Regs → Tabs → Memory → Type 0} {Why : Park → Tabs → Memory → Type 0} {n : ℕ}
      → (LeavesLink r.shared after.shared → X) → (at : At w base words Row (shade_of r) n) → Led l program base Row' Arrives Why n (exec_some base (code l words at.point.place) at.point r.shared)
      → ((i : Instr) → code l words at.point.place ≡ Some i → stores_out i ≡ true → (s : Point) (k : ℕ) → Row' s.place s.regs s.priv s.tabs after.shared k → X)
      → ((p : ℕ) (s : Point) → Arrives p s.regs s.tabs after.shared → X) → X
  stored-by {X} {base} {words} {Row} {Row'} {Arrives} {Why} {n} keeps at d rows arrives = by_code (code l words at.point.place) refl d
    where
      parks : {cause : Park} (i : Instr) → code l words at.point.place ≡ Some i → stores_out i ≡ true → after.hart.state ≡ Parked cause → X
      parks {cause} i e b state =
          let f : Fetches w (address base at.point.place) i = code-fetches w base words at.point.place i at.code e in by_store (step-stores w x r i at.shown.running (ap (fetch_shadow w) at.shown.pc ∙ f.word) b)
        where
          by_store : (after.shared ≡ r.shared) ⊎ (after.hart.state ≡ r.shadow.state) → X
          by_store (inl e) = keeps (λ b g. ap (λ (m : Memory). m b) e)
          by_store (inr e) = parked_running (sym state ∙ e ∙ at.shown.running)

      by_landing : (i : Instr) → code l words at.point.place ≡ Some i → stores_out i ≡ true → Landed l base Row' Arrives Why n after → X
      by_landing i e b (goes_on k s m row ok less inner v) = rows i e b s k (subst (λ m. Row' s.place s.regs s.priv s.tabs m k) (sym v.shared) row)
      by_landing i e b (arrived p s m y ok h g v) = arrives p s (subst (λ m. Arrives p s.regs s.tabs m) (sym v.shared) y)
      by_landing i e b (parked cause t m why ok has state) = parks i e b state

      by_test : (i : Instr) → code l words at.point.place ≡ Some i → (b : Bool) → stores_out i ≡ b → X
      by_test i e false b =
          let f : Fetches w (address base at.point.place) i = code-fetches w base words at.point.place i at.code e in keeps (words-leave_link w x r i (ap (fetch_shadow w) at.shown.pc ∙ f.word) b)
      by_test i e true b = by_landing i e b (landed w a x r z at d)

      by_code : (o : Option Instr) → code l words at.point.place ≡ o → Led l program base Row' Arrives Why n (exec_some base o at.point r.shared) → X
      by_code None e d = elim d [ ]
      by_code (Some i) e d = by_test i e (stores_out i) refl

  -- the same memory leaves the link
  kept : after.shared ≡ r.shared → LeavesLink r.shared after.shared
  kept e b g = ap (λ (m : Memory). m b) e

  -- ---- each row

  crossed : {X : Type 0} → (LeavesLink r.shared after.shared → X) → (p rd : ℕ) (imm : ℤ) (q : Regs) (n : ℕ)
      → (at : At w (block_at l p) (block l p (Jal rd imm)) (bare (JalRow l p rd (plus_int p imm) q)) (shade_of r) n)
      → Crosses l program p (Jal rd imm) q (block_at l p) (block_at l (plus_int p imm)) (JalRow l p rd (plus_int p imm) q) (PadRow l p rd (plus_int p imm) q)
      (code l (block l p (Jal rd imm)) at.point.place) at.point.place at.point.regs at.point.priv at.point.tabs r.shared n → X
  crossed keeps p rd imm q n at (stays d) = stored-by keeps at d (λ i e b s k row. keeps (kept row.1.memory)) (λ to s y. keeps (kept y.1.memory))
  crossed keeps p rd imm q n at (crosses k register offset e to row less) =
      let f : Fetches w (address (block_at l p) at.point.place) (Jalr 0 register offset) = code-fetches w (block_at l p) (block l p (Jal rd imm)) at.point.place (Jalr 0 register offset) at.code e in
      keeps (words-leave_link w x r (Jalr 0 register offset) (ap (fetch_shadow w) at.shown.pc ∙ f.word) refl)

  -- each word leaves the link, or is one of a call's
  pub link-steps : {X : Type 0} {C : CallRows} {n : ℕ} → (LeavesLink r.shared after.shared → X)
      → ((p : ℕ) (q : Regs) → IsInstruction l p → At w (block_at l p) (block l p Ecall) (C p q) (shade_of r) n → X) → Sound w C (shade_of r) n → X
  link-steps {n = n} keeps calls (computing p i q is c at) =
      stored-by keeps at (plain_leads l p i q program is c n at.point.place at.point.regs at.point.priv at.point.tabs r.shared at.ok at.row) (λ i e b s k row. keeps (kept row.1.memory)) (λ to s y. keeps (kept y.1.memory))
  link-steps {n = n} keeps calls (quartering p rd imm q is f at) =
      stored-by keeps at (auipc_leads l p rd imm q program is f n at.point.place at.point.regs at.point.priv at.point.tabs r.shared at.ok at.row) (λ i e b s k row. keeps (kept row.1.memory)) (λ to s y. keeps (kept y.1.memory))
  link-steps {n = n} keeps calls (branching p op rs1 rs2 imm q is at) =
      stored-by keeps at (branch_leads l p op rs1 rs2 imm q program is n at.point.place at.point.regs at.point.priv at.point.tabs r.shared at.ok at.row) (λ i e b s k row. keeps (kept row.1.memory)) (λ to s y. keeps (kept y.1.memory))
  link-steps {n = n} keeps calls (linking p rd imm q is at) =
      crossed keeps p rd imm q n at (jal_leads l p rd imm q program is n at.point.place at.point.regs at.point.priv at.point.tabs r.shared at.ok at.row)
  link-steps {n = n} keeps calls (going p rd rs1 imm q is at) =
      stored-by keeps at (jalr_leads l p rd rs1 imm q program is n at.point.place at.point.regs at.point.priv at.point.tabs r.shared at.ok at.row) (λ i e b s k row. keeps (kept row.1.memory)) (λ to s y. keeps (kept y.1.memory))
  link-steps {n = n} keeps calls (jumping to q base words fits at) =
      quiet keeps at (jump_leads l to q base words program fits n at.point.place at.point.regs at.point.priv at.point.tabs r.shared at.ok at.row) (jump-quiet fits at.row)
  link-steps {n = n} keeps calls (padded p words b f at) = quiet keeps at (pad-leads w a x r z p n words b f r.shared at.ok at.row) (pad-quiet l words f at.row)
  link-steps {n = n} keeps calls (parking p i q is c at) =
      stored-by keeps at (park_leads l p i q program is c n at.point.place at.point.regs at.point.priv at.point.tabs r.shared at.ok at.row) (λ i e b s k row. keeps (kept row.1.memory)) (λ to s y. keeps (kept y.1.memory))
  link-steps {n = n} keeps calls (guarded q at) =
      stored-by keeps at (guard_leads l q program n at.point.place at.point.regs at.point.priv at.point.tabs r.shared at.ok at.row) (λ i e b s k row. keeps (kept row.1.memory)) (λ to s y. absurd y)
  link-steps {n = n} keeps calls (loading p op rd rs1 imm q is at) =
      stored-by keeps at (load_leads l p op rd rs1 imm q None program is n at.point.place at.point.regs at.point.priv at.point.tabs r.shared at.ok (λ e. tt) at.row)
      (λ i e b s k row. keeps (kept row.1.memory)) (λ to s y. keeps (kept y.1.memory))
  link-steps {n = n} keeps calls (storing p op rs1 rs2 imm q t0 is at) =
      stored-by keeps at
      (store_leads l p op rs1 rs2 imm q unknown program t0 is (λ b v e. none_some e) n at.point.place at.point.regs at.point.priv at.point.tabs r.shared at.ok
      (store_keeps l p op rs1 rs2 imm q unknown zeros program t0 n at.point.place at.point.regs at.point.priv at.point.tabs r.shared r.shared (λ b u g h none e. none_some e) (λ b g. refl) at.row))
      (λ i e b s k row. keeps row.1.below) (λ to s y. keeps y.1.below)
  link-steps {n = n} keeps calls (calling p q is at) = calls p q is at
  link-steps {X} {n = n} keeps calls (restarting site q base words is fits at) =
      stored-by keeps at (restart_leads l site q base words program is n at.point.place at.point.regs at.point.priv at.point.tabs r.shared at.ok at.row.1 at.row.0) (λ i e b s k row. by_row i e b s k row) (λ to s y. absurd y)
    where
      by_row : (i : Instr) → code l words at.point.place ≡ Some i → stores_out i ≡ true → (s : Point) (k : ℕ) → RestartNext l site q at.point.place r.shared s.place s.regs s.priv s.tabs after.shared k → X
      by_row i e b s k (word row other leaves) = keeps leaves
      by_row i e b s k (call answer answered from small is_answered row) =
          let is : Some (Hcall true) ≡ Some i = ap (code l words) (sym from) ∙ e in
          let same : Hcall true ≡ i = cc in false_true (subst (λ (j : Instr). stores_out j ≡ true) (sym same) b)
  link-steps {n = n} keeps calls (unboxing site q base words is fits at) =
      stored-by keeps at (restarted_leads l site q base words program is fits n at.point.place at.point.regs at.point.priv at.point.tabs r.shared at.ok at.row)
      (λ i e b s k row. keeps (kept row.1.memory)) (λ to s y. keeps (kept (y.same).memory))
