-- Each word of a running shadow leads from its row to a row, to word 1 of a block, or to a park; and the own hart's store of the log's head leaves its row.
use Rattle.std.proofs.Common.{◌≡◌, ℕ, ◌+◌, ◌^◌, ◌≤◌, ◌<◌, ◌⊎◌, inl, inr, true, ℤ, List, slice_get, Some, None, refl, ◌∙◌, ap, sym, subst, arith}
use Rattle.std.specs.Prelude.{⊤}
use Rattle.std.proofs.lemmas.Bool.Decides.{nat_tests}
use Rattle.spec_base.specs.Word.{plus_int, word_of_int}
use Rattle.spec_base.specs.Layout.{link_start, table_start, list_start}
use Rattle.spec_base.specs.declared.layout.Layout.{Layout}
use Rattle.spec_base.specs.declared.park.Park.{Park}
use Rattle.rv_decode.specs.declared.instr.Instr.{Instr}
use Rattle.rv_decode.specs.declared.instr.Instr.TheVariants.{Jal, Jalr}
use Rattle.rv_decode.specs.declared.instr.Instr.TheVariants.{Ecall}
use Rattle.rv_model.specs.Memory.{Memory, zeros, stored, patched, loaded}
use Rattle.rv_model.specs.Space.{program_byte}
use Rattle.rv_model.specs.Effect.{even}
use Rattle.rv_model.proofs.Results.{wrap-small}
use Rattle.code_model.specs.Assembly.{X31, ld}
use Rattle.code_model.specs.Blocks.{block, is_target}
use Rattle.code_model.specs.Places.{block_at}
use Rattle.code_model.specs.Regions.{entry_address, entry_of, listed_address}
use Rattle.run_model.specs.Run.{World, Run, Answer, rewritten_words}
use Rattle.run_model.specs.ShadowMoves.{shadow_step}
use Rattle.run_laws.specs.OwnLaws.{Accepted}
use Rattle.own_laws.proofs.Reached.{none_some}
use Rattle.side_model.specs.Hart.{Regs, get, put, Priv}
use Rattle.code_model.specs.Tables.{Tabs, TableOk}
use Rattle.side_model.specs.Tables.{HasTabs}
use Rattle.side_model.specs.Places.{Place, InBlock, address, code, HasBlock, IsInstruction}
use Rattle.side_model.specs.Words.{Point, exec_some}
use Rattle.side_model.specs.Rows.{Led, arrives}
use Rattle.side_model.specs.Sees.{Shade, shade_of, Sees, Landed, goes_on, arrived, parked}
use Rattle.side_model.specs.JumpRows.{JumpRow}
use Rattle.side_model.proofs.Fetching.{CodeAt}
use Rattle.side_model.proofs.JumpWords.{jump_leads}
use Rattle.side_model.proofs.Numbers.{TextFits, target-inside}
use Rattle.side_model.proofs.Stepping.{step-lands}
use Rattle.rows_access.proofs.LoadWords.{load_leads}
use Rattle.rows_access.proofs.StoreWords.{store_leads}
use Rattle.rows_access.proofs.StoreChanges.{store_keeps}
use Rattle.rows_access.proofs.AccessPlaces.{loaded-same}
use Rattle.rows_flow.specs.JalRows.{JalRow, PadRow, Crosses, stays, crosses}
use Rattle.rows_flow.specs.JalrRows.{JalrsRow}
use Rattle.rows_flow.proofs.PlainWords.{plain_leads, auipc_leads, park_leads, guard_leads}
use Rattle.rows_flow.proofs.BranchWords.{branch_leads}
use Rattle.rows_flow.proofs.JalWords.{jal_leads}
use Rattle.rows_flow.proofs.JalrWords.{jalr_leads}
use Rattle.rows_flow.proofs.Crossing.{crossing-shows}
use Rattle.rows_log.specs.RestartRows.{RestartNext, word, call}
use Rattle.rows_log.proofs.FilledReads.{fills-keep_tables}
use Rattle.rows_log.proofs.RestartWords.{restart_leads, restarted_leads, box_stays}
use Rattle.shadow_laws.proofs.ShadowNumbers.{Sized, stock_of, shadow_key-small}
use Rattle.shadow_laws.proofs.Sound.{CallRows, Starts, bare, PadAt, at_pad, unknown, At, Sound, computing, quartering, branching, linking, going, jumping, padded, parking, guarded, loading, storing, calling, restarting, unboxing, Lands, goes, reaches, halts, is_helper, jump-place, helper-address, pad-target, Target, target-of, target-block, begins}
use Rattle.shadow_laws.proofs.TextBlocks.{InText, at-address, text}

-- ---- other bytes are shared

-- all that is shared behind the log's head is left
abbrev pub LeavesBehindHead : Memory → Memory → Type 0
LeavesBehindHead m m' = (b : ℕ) → link_start + 8 ≤ b → m' b ≡ m b

-- a number behind a place stays
number-kept : (m m' : Memory) (from : ℕ) → ((b : ℕ) → from ≤ b → m' b ≡ m b) → (a n : ℕ) → from ≤ a → loaded m' a n ≡ loaded m a n
number-kept m m' from same a n h = loaded-same n m' m a a (λ k less. same (a + k) (omega arith))

-- an entry of the table stays where the table does
pub entry-kept : (m m' : Memory) → ((b : ℕ) → table_start ≤ b → m' b ≡ m b) → (region : ℕ) → entry_of m' region ≡ entry_of m region
entry-kept m m' same region = number-kept m m' table_start same (entry_address region) 4 (omega arith)

-- table and list stay
pub tabs-kept : (l : Layout) (m m' : Memory) (t : Tabs) → ((b : ℕ) → table_start ≤ b → m' b ≡ m b) → HasTabs l m t → HasTabs l m' t
tabs-kept l m m' t same has =
    record {
      entry = λ region h. entry-kept m m' same region ∙ has.entry region h;
      count = number-kept m m' table_start same list_start 8 (omega arith) ∙ has.count;
      listed = λ slot h. number-kept m m' table_start same (listed_address slot) 4 (omega arith) ∙ has.listed slot h;
    }

-- a shadow at a row is there with other bytes, where those behind the log's head are left
unfoldable pub stays-at : {w : World} {base : ℕ} {words : List Instr} {Row Row' : Place → Regs → Priv → Tabs → Memory → ℕ → Type 0} {h : Shade} {m : Memory} {n : ℕ} → LeavesBehindHead h.shared m
    → (at : At w base words Row h n) → Row' at.point.place at.point.regs at.point.priv at.point.tabs m n → At w base words Row' (record h { shared = m }) n
stays-at {w} {h = h} {m} leaves at row =
    record {
      code = at.code;
      point = at.point;
      shown = record {
        pc = at.shown.pc;
        regs = at.shown.regs;
        priv = at.shown.priv;
        tabs = tabs-kept w.image.layout h.shared m at.point.tabs (λ b k. leaves b (omega arith)) at.shown.tabs;
        shared = refl;
        running = at.shown.running;
      };
      ok = at.ok;
      row = row;
    }

-- ---- a word that leads to another block

-- the shadow stands at word 0 of the block of an address
pub record HasCrossed (w : World) (target : ℕ) (s : Point) (m : Memory) (h : Shade) : Type 0 where
  pub has_block : HasBlock w.image.layout target
  pub word : Instr
  pub is : InText w target word
  pub shown : Sees w.image.layout (block_at w.image.layout target) h (record s { place = InBlock 0 }) m

-- where a row says so, it is at that row
pub crossed-at : {w : World} {target : ℕ} {s : Point} {m : Memory} {h : Shade} {k : ℕ} → TableOk w.image.layout s.tabs → (c : HasCrossed w target s m h)
    → (Row : Place → Regs → Priv → Tabs → Memory → ℕ → Type 0) → Row (InBlock 0) s.regs s.priv s.tabs h.shared k → At w (block_at w.image.layout target) (block w.image.layout target c.word) Row h k
crossed-at {s = s} ok c Row row =
    record {
      code = c.is.code;
      point = record s { place = InBlock 0 };
      shown = record { pc = c.shown.pc; regs = c.shown.regs; priv = c.shown.priv; tabs = c.shown.tabs; shared = refl; running = c.shown.running };
      ok = ok;
      row = row;
    }

module _ (w : World) (a : Accepted w) where
  abbrev l : Layout
  l = w.image.layout

  -- word 5 of jal leads to the pad of its target's block
  pub crossed-to : (x : Answer) (r : Run) (p rd : ℕ) (imm : ℤ) {n : ℕ} {Row : Place → Regs → Priv → Tabs → Memory → ℕ → Type 0} (at : At w (block_at l p) (block l p (Jal rd imm)) Row (shade_of r) n) (register : ℕ) (offset : ℤ)
      → code l (block l p (Jal rd imm)) at.point.place ≡ Some (Jalr 0 register offset) → even (plus_int (get register at.point.regs) offset) ≡ block_at l (plus_int p imm) → is_target l (plus_int p imm) ≡ true
      → HasCrossed w (plus_int p imm) at.point r.shared (shade_of (shadow_step w x r))
  crossed-to x r p rd imm at register offset e to inside =
      let target : ℕ = plus_int p imm in
      let b : HasBlock l target = target-block w a target inside in
      let i : (i : Instr) × InText w target i = at-address w a target b (target-inside l target inside).below in
      let v = crossing-shows w x (block_at l p) (block_at l target) (block l p (Jal rd imm)) (omega (arith, b.whole)) at.code r at.point at.shown register offset e to in
      record { has_block = b; word = i.0; is = i.1; shown = v }

  -- ---- one word

  module _ (x : Answer) (r : Run) (z : Sized (stock_of r)) where
    abbrev after : Shade
    after = shade_of (shadow_step w x r)

    abbrev program : Memory
    program = program_byte l (rewritten_words w) r.own.memory

    -- a word that is led, lands
    pub landed : {base : ℕ} {words : List Instr} {Row Row' : Place → Regs → Priv → Tabs → Memory → ℕ → Type 0} {Arrives : ℕ → Regs → Tabs → Memory → Type 0} {Why : Park → Tabs → Memory → Type 0} {n : ℕ}
        (at : At w base words Row (shade_of r) n) → Led l program base Row' Arrives Why n (exec_some base (code l words at.point.place) at.point r.shared)
        → Landed l base Row' Arrives Why n after
    landed {base} {words} {Row} {Row'} {Arrives} {Why} {n} at d =
        step-lands w x base words Row' Arrives Why n (text w a).regions_few at.code r at.point z.registers at.shown (shadow_key-small w r z)
        (λ d spot b unhinted e ok. let f = fills-keep_tables w r at.point.tabs d spot b unhinted a.lawful e at.shown.tabs ok in (f.tables, f.has, f.ok)) d

    -- at a row that a word has led to, in the same block
    unfoldable pub next : {base : ℕ} {words : List Instr} {Row Row' : Place → Regs → Priv → Tabs → Memory → ℕ → Type 0} {n k : ℕ} → At w base words Row (shade_of r) n
        → (s : Point) → Sees l base after s after.shared → TableOk l s.tabs → Row' s.place s.regs s.priv s.tabs after.shared k → At w base words Row' after k
    next at s v ok row = record { code = at.code; point = s; shown = v; ok = ok; row = row }

    -- word 0 of a block arrives at its word 1
    pub pad-leads : (p n : ℕ) (words : List Instr) → HasBlock l p → slice_get words 0 ≡ Some (ld 31 X31 0) → {place : Place} {rs : Regs} {s : Priv} {t : Tabs} (m : Memory) → TableOk l t → PadAt place rs s t n
        → Led l program (block_at l p) (bare PadAt) (λ target rs t m. ⊤) (λ cause t m. ⊤) n (exec_some (block_at l p) (code l words place) (record { place = place; regs = rs; priv = s; tabs = t }) m)
    pad-leads p n words b f m ok (at_pad rs s) = rw f (arrives p refl b tt ok)

    module _ (C : CallRows) (start : Starts C after) where
      -- and where its rows are places of a shadow, it is at one of them
      pub settles : {base : ℕ} {Row' : Place → Regs → Priv → Tabs → Memory → ℕ → Type 0} {Arrives : ℕ → Regs → Tabs → Memory → Type 0} {Why : Park → Tabs → Memory → Type 0} {n : ℕ}
          → ((s : Point) (k : ℕ) → Row' s.place s.regs s.priv s.tabs after.shared k → Sees l base after s after.shared → TableOk l s.tabs → Sound w C after k)
          → Landed l base Row' Arrives Why n after → Lands w C n after
      settles {base} {Row'} f (goes_on k s m row ok less inner v) =
          goes k less (f s k (subst (λ m. Row' s.place s.regs s.priv s.tabs m k) (sym v.shared) row)
          (record { pc = v.pc; regs = v.regs; priv = v.priv; tabs = v.tabs; shared = refl; running = v.running }) ok)
      settles {base} f (arrived p s m at ok b e v) = let g : (k : ℕ) × (k ≤ 227) × Sound w C after k = begins w a C p base after s m start b e ok v in reaches p b (v.pc ∙ e) g.0 g.1 g.2
      settles f (parked cause t m why ok has state) = halts cause state t has ok

      -- JUMP is reached from a block: its target's block is at hand from then on
      jumps : (to : ℕ) (q : Regs) (p : ℕ) (words : List Instr) (s : Point) (k : ℕ) → to < 2 ^ 64 → HasBlock l p → slice_get words 0 ≡ Some (ld 31 X31 0) → CodeAt w (block_at l p) words
          → JumpRow l to q s.place s.regs s.priv s.tabs k → Sees l (block_at l p) after s after.shared → TableOk l s.tabs → Sound w C after k
      jumps to q p words s k small b f c row v ok = by_place (jump-place row)
        where
          by_place : (is_helper s.place ≡ true) ⊎ (s.place ≡ InBlock 0) → Sound w C after k
          by_place (inl e) =
              let t : Target w to q = target-of w a to q small in
              jumping to q t.base t.words t.fits
              (record {
                code = t.code;
                point = s;
                shown = record { pc = v.pc ∙ helper-address (block_at l p) t.base s.place e; regs = v.regs; priv = v.priv; tabs = v.tabs; shared = refl; running = v.running };
                ok = ok;
                row = row;
              })
          by_place (inr e) =
              padded p words b f
              (record {
                code = c;
                point = record s { place = InBlock 0 };
                shown = record { pc = v.pc ∙ ap (address (block_at l p)) e; regs = v.regs; priv = v.priv; tabs = v.tabs; shared = refl; running = v.running };
                ok = ok;
                row = at_pad s.regs s.priv;
              })

      -- word 5 of jal may lead to the pad of its target's block
      crossed : (p rd : ℕ) (imm : ℤ) (q : Regs) (n : ℕ) → IsInstruction l p → (at : At w (block_at l p) (block l p (Jal rd imm)) (bare (JalRow l p rd (plus_int p imm) q)) (shade_of r) n)
          → Crosses l program p (Jal rd imm) q (block_at l p) (block_at l (plus_int p imm)) (JalRow l p rd (plus_int p imm) q) (PadRow l p rd (plus_int p imm) q)
          (code l (block l p (Jal rd imm)) at.point.place) at.point.place at.point.regs at.point.priv at.point.tabs r.shared n
          → Lands w C n after
      crossed p rd imm q n is at (stays d) = settles (λ s k row v ok. linking p rd imm q is (next at s v ok row.0)) (landed at d)
      crossed p rd imm q n is at (crosses k register offset e to row less) =
          let c : HasCrossed w (plus_int p imm) at.point r.shared after = crossed-to x r p rd imm at register offset e to (pad-target row) in
          goes k (grind (arith, nat_tests, less)) (padded (plus_int p imm) (block l (plus_int p imm) c.word) c.has_block refl (crossed-at at.ok c (bare PadAt) (at_pad at.point.regs at.point.priv)))

      -- each word leads on
      pub sound-steps : {n : ℕ} → ((p : ℕ) (q : Regs) → IsInstruction l p → At w (block_at l p) (block l p Ecall) (C p q) (shade_of r) n → Lands w C n after)
          → Sound w C (shade_of r) n → Lands w C n after
      sound-steps {n} calls (computing p i q is c at) =
          settles (λ s k row v ok. computing p i q is c (next at s v ok row.0)) (landed at (plain_leads l p i q program is c n at.point.place at.point.regs at.point.priv at.point.tabs r.shared at.ok at.row))
      sound-steps {n} calls (quartering p rd imm q is f at) =
          settles (λ s k row v ok. quartering p rd imm q is f (next at s v ok row.0)) (landed at (auipc_leads l p rd imm q program is f n at.point.place at.point.regs at.point.priv at.point.tabs r.shared at.ok at.row))
      sound-steps {n} calls (branching p op rs1 rs2 imm q is at) =
          settles (λ s k row v ok. branching p op rs1 rs2 imm q is (next at s v ok row.0)) (landed at (branch_leads l p op rs1 rs2 imm q program is n at.point.place at.point.regs at.point.priv at.point.tabs r.shared at.ok at.row))
      sound-steps {n} calls (linking p rd imm q is at) = crossed p rd imm q n is at (jal_leads l p rd imm q program is n at.point.place at.point.regs at.point.priv at.point.tabs r.shared at.ok at.row)
      sound-steps {n} calls (going p rd rs1 imm q is at) =
          let lands-at = landed at (jalr_leads l p rd rs1 imm q program is n at.point.place at.point.regs at.point.priv at.point.tabs r.shared at.ok at.row) in
          settles (λ s k row v ok. by_row s k row.0 v ok) lands-at
        where
          here : HasBlock l p
          here = let f : TextFits l = text w a in record { above = is.above; below = omega (arith, is.below); whole = omega (arith, is.whole, is.above, f.start) }

          by_row : (s : Point) (k : ℕ) → JalrsRow l p rd rs1 imm q s.place s.regs s.priv s.tabs k → Sees l (block_at l p) after s after.shared → TableOk l s.tabs → Sound w C after k
          by_row s k (inl row) v ok = going p rd rs1 imm q is (next at s v ok row)
          by_row s k (inr (enters, row)) v ok = jumps (plus_int (get rs1 q) imm) (put rd (p + 4) q) p (block l p (Jalr rd rs1 imm)) s k (wrap-small (get rs1 q + word_of_int imm)) here refl at.code row v ok
      sound-steps {n} calls (jumping to q base words fits at) =
          settles (λ s k row v ok. jumping to q base words fits (next at s v ok row)) (landed at (jump_leads l to q base words program fits n at.point.place at.point.regs at.point.priv at.point.tabs r.shared at.ok at.row))
      sound-steps {n} calls (padded p words b f at) = settles (λ s k row v ok. padded p words b f (next at s v ok row)) (landed at (pad-leads p n words b f r.shared at.ok at.row))
      sound-steps {n} calls (parking p i q is c at) =
          settles (λ s k row v ok. parking p i q is c (next at s v ok row.0)) (landed at (park_leads l p i q program is c n at.point.place at.point.regs at.point.priv at.point.tabs r.shared at.ok at.row))
      sound-steps {n} calls (guarded q at) = settles (λ s k row v ok. guarded q (next at s v ok row.0)) (landed at (guard_leads l q program n at.point.place at.point.regs at.point.priv at.point.tabs r.shared at.ok at.row))
      sound-steps {n} calls (loading p op rd rs1 imm q is at) =
          settles (λ s k row v ok. loading p op rd rs1 imm q is (next at s v ok row.0))
          (landed at (load_leads l p op rd rs1 imm q None program is n at.point.place at.point.regs at.point.priv at.point.tabs r.shared at.ok (λ e. tt) at.row))
      sound-steps {n} calls (storing p op rs1 rs2 imm q t0 is at) =
          settles
          (λ s k row v ok.
          storing p op rs1 rs2 imm q t0 is
          (next at s v ok (store_keeps l p op rs1 rs2 imm q unknown program zeros t0 k s.place s.regs s.priv s.tabs after.shared after.shared (λ b u g h none e. none_some e) (λ b g. refl) row.0)))
          (landed at
          (store_leads l p op rs1 rs2 imm q unknown program t0 is (λ b v e. none_some e) n at.point.place at.point.regs at.point.priv at.point.tabs r.shared at.ok
          (store_keeps l p op rs1 rs2 imm q unknown zeros program t0 n at.point.place at.point.regs at.point.priv at.point.tabs r.shared r.shared (λ b u g h none e. none_some e) (λ b g. refl) at.row)))
      sound-steps {n} calls (calling p q is at) = calls p q is at
      sound-steps {n} calls (restarting site q base words is fits at) =
          settles (λ s k row v ok. by_row s k row v ok)
          (landed at (restart_leads l site q base words program is n at.point.place at.point.regs at.point.priv at.point.tabs r.shared at.ok at.row.1 at.row.0))
        where
          by_row : (s : Point) (k : ℕ) → RestartNext l site q at.point.place r.shared s.place s.regs s.priv s.tabs after.shared k → Sees l base after s after.shared → TableOk l s.tabs → Sound w C after k
          by_row s k (word row other leaves) v ok =
              restarting site q base words is fits (next at s v ok (row, box_stays r.shared after.shared site q (λ b g h. leaves b (omega arith)) at.row.1))
          by_row s k (call answer answered from small is_answered row) v ok =
              unboxing site answered base words is (record { lawful = fits.lawful; small = fits.small; place = fits.place; pad = fits.pad }) (next at s v ok row)
      sound-steps {n} calls (unboxing site q base words is fits at) =
          settles (λ s k row v ok. unboxing site q base words is fits (next at s v ok row.0))
          (landed at (restarted_leads l site q base words program is fits n at.point.place at.point.regs at.point.priv at.point.tabs r.shared at.ok at.row))

  -- ---- the own hart stores the log's head

  module _ (C : CallRows) (h : Shade) (n v : ℕ) where
    abbrev changed : Shade
    changed = record h { shared = stored h.shared link_start 8 v }

    -- other bytes are left
    other-bytes : (b : ℕ) → link_start + 8 ≤ b → changed.shared b ≡ h.shared b
    unfolding patched
    other-bytes b g = grind (arith, nat_tests)

    pub sound-stays : ((p : ℕ) (q : Regs) → (at : At w (block_at l p) (block l p Ecall) (C p q) h n) → C p q at.point.place at.point.regs at.point.priv at.point.tabs changed.shared n)
        → Sound w C h n → Sound w C changed n
    sound-stays calls (computing p i q is c at) = computing p i q is c (stays-at other-bytes at at.row)
    sound-stays calls (quartering p rd imm q is f at) = quartering p rd imm q is f (stays-at other-bytes at at.row)
    sound-stays calls (branching p op rs1 rs2 imm q is at) = branching p op rs1 rs2 imm q is (stays-at other-bytes at at.row)
    sound-stays calls (linking p rd imm q is at) = linking p rd imm q is (stays-at other-bytes at at.row)
    sound-stays calls (going p rd rs1 imm q is at) = going p rd rs1 imm q is (stays-at other-bytes at at.row)
    sound-stays calls (jumping to q base words fits at) = jumping to q base words fits (stays-at other-bytes at at.row)
    sound-stays calls (padded p words b f at) = padded p words b f (stays-at other-bytes at at.row)
    sound-stays calls (parking p i q is c at) = parking p i q is c (stays-at other-bytes at at.row)
    sound-stays calls (guarded q at) = guarded q (stays-at other-bytes at at.row)
    sound-stays calls (loading p op rd rs1 imm q is at) = loading p op rd rs1 imm q is (stays-at other-bytes at at.row)
    sound-stays calls (storing p op rs1 rs2 imm q t0 is at) =
        storing p op rs1 rs2 imm q t0 is
        (stays-at other-bytes at
        (store_keeps l p op rs1 rs2 imm q unknown zeros zeros t0 n at.point.place at.point.regs at.point.priv at.point.tabs h.shared changed.shared (λ b u g i none e. refl) (λ b g. other-bytes b (omega arith)) at.row))
    sound-stays calls (calling p q is at) = calling p q is (stays-at other-bytes at (calls p q at))
    sound-stays calls (restarting site q base words is fits at) =
        restarting site q base words is fits (stays-at other-bytes at (at.row.0, box_stays h.shared changed.shared site q (λ b g i. other-bytes b (omega arith)) at.row.1))
    sound-stays calls (unboxing site q base words is fits at) = unboxing site q base words is fits (stays-at other-bytes at at.row)
