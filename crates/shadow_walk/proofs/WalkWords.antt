-- What each word of a shadow on its way through the block of a plain state leads to: a further word of the way, the block of the next state, or a park; or it is an HCALL.
use Rattle.std.proofs.Common.{◌≡◌, ℕ, zero, suc, ◌+◌, ◌%◌, ◌<◌, ◌≤◌, ◌⊎◌, Bool, true, false, ◌==◌, ℤ, Some, None, refl, ◌∙◌, ap, ap₂, sym, subst, arith}
use Rattle.std.proofs.lemmas.Bool.{and_parts}
use Rattle.spec_base.specs.Word.{plus_int}
use Rattle.spec_base.specs.declared.layout.Layout.{Layout}
use Rattle.spec_base.specs.declared.machine.View.TheVariants.{Plain}
use Rattle.spec_base.specs.declared.note.ShadowState.TheVariants.{Running, Parked}
use Rattle.spec_base.specs.declared.park.Park.{Park}
use Rattle.spec_base.specs.declared.park.Park.TheVariants as park
use Rattle.rv_decode.specs.declared.instr.Instr.{Instr}
use Rattle.rv_decode.specs.declared.instr.Instr.TheVariants.{Load, Store, Hcall}
use Rattle.rv_decode.specs.declared.instr.LoadOp.{LoadOp}
use Rattle.rv_decode.specs.declared.instr.StoreOp.{StoreOp}
use Rattle.rv_model.specs.Memory.{Memory, stored, all_from}
use Rattle.rv_model.specs.Registers.{Registers, reg, with_reg}
use Rattle.rv_model.specs.Rights.{is_data, data_rights}
use Rattle.rv_model.specs.Arithmetic.{load_width, store_width, extended}
use Rattle.rv_model.specs.Effect.{Next, effect, after}
use Rattle.program_model.specs.PlainRun.{State, all_taken, next_state}
use Rattle.code_model.specs.Places.{block_at}
use Rattle.code_model.specs.Regions.{shadowed}
use Rattle.run_model.specs.Run.{World, Run, Answer, rewritten_words}
use Rattle.run_model.specs.ShadowMoves.{is_arrival, shadow_step, fetch_shadow}
use Rattle.run_laws.specs.OwnLaws.{Accepted}
use Rattle.run_model.specs.Restarts.{instr_at}
use Rattle.run_model.specs.Marks.{no_marks, mark_bytes, marks_after}
use Rattle.side_model.specs.Hart.{Regs, get}
use Rattle.code_model.specs.Tables.{Tabs, TableOk}
use Rattle.side_model.specs.Places.{address, HasBlock}
use Rattle.side_model.specs.Words.{Point}
use Rattle.side_model.specs.Sees.{shade_of, Sees, HasRegs}
use Rattle.side_model.proofs.Registers.{HasRegs-put}
use Rattle.rows_access.specs.Accesses as access
use Rattle.rows_access.specs.LoadRows.{LoadArrives}
use Rattle.rows_access.specs.StoreRows.{StoreArrives}
use Rattle.rows_access.proofs.AccessPlaces.{load-width, store-width}
use Rattle.rows_flow.specs.Following.{GoesOn, FlowArrives}
use Rattle.shadow_laws.proofs.ShadowNumbers.{Sized, stock_of, in-keeps, of-sized}
use Rattle.shadow_laws.proofs.ShadowRuns.{block-arrives}
use Rattle.shadow_laws.proofs.TextBlocks.{text}
use Rattle.mark_laws.specs.Agreement.{Agrees, IsAt, SeesAlike, may_access, FlowLeads, StoreLeads}
use Rattle.mark_laws.proofs.OneInstruction.{unmarked-register, flow_agrees, load_agrees, store_agrees}
use Rattle.hint_laws.proofs.Within.{Doing, does, known_from, Within}
use Rattle.hint_laws.proofs.WithinSteps.{IsQuiet, Comes, flows, loads, stores, returns, Turns, asks, asks_again, Leads, goes, turns, reaches, halts, within-leads}
use Rattle.hint_laws.proofs.Within.{within-running}
use Rattle.hint_laws.proofs.Followed.{known, registers, program_in, view_in, is_storing}
use Rattle.hint_laws.proofs.Views.{known-number, stored-seen, has-registers, no_rights, IsFlow, flow-is}
use Rattle.hint_laws.proofs.WordFacts.{WordLeaves, word-leaves, word-hints_stay}
use Rattle.hint_laws.proofs.Spots.{inner-arrival, within-whole}
use Rattle.hint_laws.proofs.Going.{program-left, alike-left}
use Rattle.rv_model.specs.Rights.{in_text}
use Rattle.own_laws.proofs.Reached.{false_true}
use Rattle.shadow_walk.specs.Walks.{jumps, Faults, StandsAt, ParksBy}
use Rattle.shadow_walk.proofs.OnTheWay.{marks-none, store-none, use-none, Walking, walking-sees}
use Rattle.shadow_walk.proofs.WalkEnds.{OnInstruction, on-instruction, same-jumps, no-faults, parks-by}

-- what a word has led to
pub data Went (w : World) (q : State) (y next : Run) (n : ℕ) : Type 0 where
  still : (d : Doing) (k : ℕ) → k < n → is_arrival w.image.layout next.shadow.pc ≡ false → Walking w q next d k → Went w q y next n
  came : (to : State) → next_state w.image w.files all_taken q ≡ Some to → ¬ Faults w q → is_arrival w.image.layout next.shadow.pc ≡ true → StandsAt w next to → next.shadow.state ≡ Running → Went w q y next n
  calls : fetch_shadow w y.shadow.pc ≡ Some (Hcall false) → Went w q y next n
  halted : (cause : Park) → next.shadow.state ≡ Parked cause → ParksBy w q y.shared cause ⊎ ((cause ≡ park.Exit) ⊎ (cause ≡ park.Store)) → Went w q y next n

-- a register that is written in two ways
pub shown-register : (rs new : Registers) (g : Regs) → HasRegs rs g → HasRegs new g → (i : ℕ) → 0 < i → rs i ≡ new i
shown-register rs new g h k zero above = absurd (omega (arith, above))
shown-register rs new g h k (suc i) above = h.at (suc i) ∙ sym (k.at (suc i))

module _ (w : World) (a : Accepted w) (x : Answer) {q : State} {y : Run} {d : Doing} {n : ℕ} (k : Walking w q y d n) where
  abbrev l : Layout
  l = w.image.layout

  abbrev next : Run
  next = shadow_step w x y

  runs : y.shadow.state ≡ Running
  runs = within-running k.within

  -- the numbers stay in their bounds
  sized-next : Sized (stock_of next)
  sized-next = in-keeps w a.files y.shadow.state x y k.sized

  is-at : (i : Instr) → instr_at w.image q ≡ Some i → IsAt w.image q i
  is-at i word = record { goes_on = k.goes_on; word = word }

  -- what the shadow has in place of the program's memory stays where nothing that is shared has changed
  view-stays : next.shared ≡ y.shared → view_in next ≡ view_in y
  view-stays e = ap₂ (λ (shared memory : Memory). shadowed shared memory) e (ap (λ (own : State). own.memory) (word-leaves w x y runs).own)

  -- ---- the next block

  -- the shadow has been led to word 1 of the block of p
  record Arrives (p base : ℕ) (pt : Point) : Type 0 where
    block : HasBlock l p
    place : address base pt.place ≡ block_at l p + 4
    ok : TableOk l pt.tabs
    shown : Sees l base (shade_of next) pt next.shared

  -- there it stands for a state with these registers, and the descriptors of the last
  stands : {p base : ℕ} {pt : Point} {new : Registers} → Arrives p base pt → IsQuiet w y → HasRegs new pt.regs → (to : State) → next_state w.image w.files all_taken q ≡ Some to
      → to.pc ≡ p → (jumps q.registers (instr_at w.image q) ≡ true → in_text l p ≡ true) → to.files ≡ q.files → to.exited ≡ None → Agrees no_marks new to → SeesAlike l no_marks (view_in next) to → Went w q y next n
  stands {p} {base} {pt} {new} at quiet has to completes pc inside files going agrees alike =
      came to completes (no-faults w q completes (λ j. ap (in_text l) pc ∙ inside j)) (ap (is_arrival l) (at.shown.pc ∙ at.place) ∙ block-arrives w a p at.block)
      (record {
        state =
            record {
              registers = λ i above below. shown-register next.shadow.registers new pt.regs at.shown.regs has i above ∙ agrees.registers i above below refl;
              files = (word-hints_stay w x y runs quiet).files ∙ k.files ∙ sym files;
              bytes = λ b inside. alike.bytes b inside refl;
              tables = pt.tabs;
              has = at.shown.tabs;
              ok = at.ok;
              sized = of-sized next sized-next;
            };
        block = subst (HasBlock l) (sym pc) at.block;
        place = at.shown.pc ∙ at.place ∙ ap (λ (x : ℕ). block_at l x + 4) (sym pc);
        goes_on = going;
      })
      at.shown.running

  -- no register is marked
  clean : (i : Instr) {new : Registers} {to : State} → Agrees (marks_after l false q (Some i) no_marks) new to → Agrees no_marks new to
  clean i h = record { registers = λ j above below u. h.registers j above below (marks-none l q i j) }

  -- the state goes on with its memory and its descriptors
  flow-stands : {p base target : ℕ} {pt : Point} {new : Registers} {i : Instr} → Arrives p base pt → IsQuiet w y → HasRegs new pt.regs → FlowLeads w.image w.files false no_marks q i new target → target ≡ p
      → (jumps q.registers (instr_at w.image q) ≡ true → in_text l p ≡ true) → next.shared ≡ y.shared → is_storing d ≡ false → Went w q y next n
  flow-stands {i = i} at quiet has f pc inside same other =
      let alike : SeesAlike l (marks_after l false q (Some i) no_marks) (view_in y) f.leads.state = f.sees (view_in y) (k.sees other) in
      stands at quiet has f.leads.state f.leads.completes (f.leads.pc ∙ pc) inside f.leads.descriptors f.leads.goes_on (clean i f.leads.agrees)
      (record { bytes = λ b inside u. ap (λ (m : Memory). m b) (view-stays same) ∙ alike.bytes b inside (ap (λ (marks : ℕ → Bool). marks b) f.bytes) })

  -- the next word of the text
  next-word : {p target : ℕ} → p ≡ q.pc → target ≡ p + 4 → target ≤ l.text_end → after q.pc ≡ target
  next-word pc e most = omega (arith, pc, e, most, (text w a).below)

  -- an instruction that is no jump
  no-jump : {A : Type 0} {i : Instr} → instr_at w.image q ≡ Some i → jumps q.registers (Some i) ≡ false → jumps q.registers (instr_at w.image q) ≡ true → A
  no-jump word e j = false_true (sym e ∙ sym (ap (jumps q.registers) word) ∙ j)

  -- behind an instruction that touches no memory
  flowed : {p target base : ℕ} {i : Instr} {g : Regs} {pt : Point} → OnInstruction w q (does p i g) → is_storing d ≡ false → FlowArrives l p i g target pt.regs → next.shared ≡ y.shared → Arrives target base pt → IsQuiet w y → Went w q y next n
  flowed {p} {target} {i = i} {g} {pt} is other arrives same at quiet =
      let seen : Memory = view_in y in
      let went : GoesOn (effect Plain no_rights seen (registers g) p i) target pt.regs = arrives.goes no_rights seen (registers g) (has-registers g) in
      let flow : IsFlow l q i = flow-is l q i seen (registers g) went.registers p target went.next in
      let gone : GoesOn (effect Plain (data_rights l) seen (registers g) p i) target pt.regs = arrives.goes (data_rights l) seen (registers g) (has-registers g) in
      flow-stands at quiet gone.shown
      (flow_agrees w.image w.files false no_marks q i (registers g) seen gone.registers target (is-at i is.1) is.2 flow.no_load (use-none l q i) is.3
      (subst (λ (z : ℕ). effect Plain (data_rights l) seen (registers g) z i ≡ Next gone.registers target) is.0 gone.next))
      refl (λ j. arrives.inside (same-jumps w a q k.goes_on y.shared g i is.2 is.3 ∙ sym (ap (jumps q.registers) is.1) ∙ j)) same other

  -- behind a load
  loaded_there : {p rd rs1 target base : ℕ} {op : LoadOp} {imm : ℤ} {g : Regs} {pt : Point} → OnInstruction w q (does p (Load op rd rs1 imm) g) → is_storing d ≡ false
      → LoadArrives l p op rd rs1 imm g (known_from (known l no_marks q) (plus_int (get rs1 g) imm) (load_width op)) target pt.regs → next.shared ≡ y.shared → Arrives target base pt → IsQuiet w y → Went w q y next n
  loaded_there {p} {rd} {rs1} {target} {op = op} {imm} {g} {pt} is other arrives shared at quiet =
      let from : ℕ = plus_int (reg (registers g) rs1) imm in
      let same : plus_int (get rs1 g) imm ≡ from = ap (λ (b : ℕ). plus_int b imm) (sym ((has-registers g).at rs1)) in
      let may : may_access l from (load_width op) ≡ true =
      subst (λ (z : ℕ). may_access l z (load_width op) ≡ true) same (subst (λ (v : ℕ). may_access l (plus_int (get rs1 g) imm) v ≡ true) (load-width op) arrives.may) in
      let inside : all_from (is_data l) from (load_width op) ≡ true = (and_parts (from % load_width op == 0) (all_from (is_data l) from (load_width op)) may).1 in
      let given : access.Allows (known_from (known l no_marks q) from (load_width op)) arrives.number = subst (λ (z : ℕ). access.Allows (known_from (known l no_marks q) z (load_width op)) arrives.number) same arrives.known in
      flow-stands at quiet (subst (λ (z : Regs). HasRegs (with_reg (registers g) rd (extended op arrives.number)) z) (sym arrives.registers) (HasRegs-put (registers g) g rd (extended op arrives.number) (has-registers g)))
      (load_agrees w.image w.files false no_marks q op rd rs1 imm (registers g) arrives.number (is-at (Load op rd rs1 imm) is.1) is.2 refl is.3 may
      (known-number l no_marks q from (load_width op) arrives.number inside given))
      (next-word is.0 arrives.next at.block.below) (λ j. no-jump is.1 refl j) shared other

  -- behind a store
  stored_there : {p rs1 rs2 target base : ℕ} {op : StoreOp} {imm : ℤ} {g : Regs} {pt : Point} {t0 : Tabs} → OnInstruction w q (does p (Store op rs1 rs2 imm) g)
      → StoreArrives l p op rs1 rs2 imm g (known l no_marks q) (program_in w y) t0 target pt.regs pt.tabs next.shared → Arrives target base pt → IsQuiet w y → Went w q y next n
  stored_there {p} {rs1} {rs2} {target} {op = op} {imm} {g} {pt} is arrives at quiet =
      stands at quiet (subst (λ (z : Regs). HasRegs (registers g) z) (sym arrives.registers) (has-registers g)) f.leads.state f.leads.completes (f.leads.pc ∙ next-word is.0 arrives.next at.block.below) (λ j. no-jump is.1 refl j) f.leads.descriptors f.leads.goes_on
      (clean (Store op rs1 rs2 imm) f.leads.agrees) (record { bytes = λ b inside u. seen.bytes b inside (store-none to width b) })
    where
      -- the address, by the row's, the hart's and the state's registers
      to : ℕ
      to = plus_int (get rs1 g) imm

      width : ℕ
      width = store_width op

      in_hart : to ≡ plus_int (reg (registers g) rs1) imm
      in_hart = ap (λ (b : ℕ). plus_int b imm) (sym ((has-registers g).at rs1))

      in_state : to ≡ plus_int (reg q.registers rs1) imm
      in_state = in_hart ∙ ap (λ (b : ℕ). plus_int b imm) (unmarked-register no_marks (registers g) q is.3 rs1 (is.2).0 refl)

      f : StoreLeads w.image w.files false no_marks q op rs1 rs2 imm (registers g) (plus_int (reg (registers g) rs1) imm)
      f =
          store_agrees w.image w.files false no_marks q op rs1 rs2 imm (registers g) (is-at (Store op rs1 rs2 imm) is.1) is.2 refl is.3
          (subst (λ (z : ℕ). may_access l z width ≡ true) in_hart (subst (λ (v : ℕ). may_access l to v ≡ true) (store-width op) arrives.may))

      -- the state's own memory with the shadow's number in it is alike
      alike_there : SeesAlike l (mark_bytes no_marks to width false) (stored q.memory to width (get rs2 g)) f.leads.state
      alike_there =
          subst (λ (z : ℕ). SeesAlike l (mark_bytes no_marks z width false) (stored q.memory to width (get rs2 g)) f.leads.state) (sym in_state)
          (subst (λ (z : ℕ). SeesAlike l (marks_after l false q (Some (Store op rs1 rs2 imm)) no_marks) (stored q.memory z width (get rs2 g)) f.leads.state) (sym in_hart)
          (subst (λ (z : ℕ). SeesAlike l (marks_after l false q (Some (Store op rs1 rs2 imm)) no_marks) (stored q.memory (plus_int (reg (registers g) rs1) imm) width z) f.leads.state) ((has-registers g).at rs2)
          (f.sees q.memory (record { bytes = λ b h u. refl }))))

      seen : SeesAlike l (mark_bytes no_marks to width false) (view_in next) f.leads.state
      seen =
          subst (λ (memory : Memory). SeesAlike l (mark_bytes no_marks to width false) (shadowed next.shared memory) f.leads.state) (sym (ap (λ (own : State). own.memory) (word-leaves w x y runs).own))
          (stored-seen l no_marks (rewritten_words w) y.own.memory next.shared q f.leads.state pt.tabs to width (get rs2 g) false at.shown.tabs arrives.viewed alike_there)

  -- each arrival
  arrived : {p base : ℕ} {pt : Point} → Arrives p base pt → Comes l (known l no_marks q) (program_in w y) y.shared p pt.regs pt.tabs next.shared d → IsQuiet w y → Went w q y next n
  arrived {p} {base} {pt} at comes quiet = by_coming (on-instruction k.doing k.plain k.agrees) refl comes
    where
      by_coming : {e : Doing} → OnInstruction w q e → e ≡ d → Comes l (known l no_marks q) (program_in w y) y.shared p pt.regs pt.tabs next.shared e → Went w q y next n
      by_coming is same (flows {p = from} {i} {q = g} arrives e) =
          let went : GoesOn (effect Plain no_rights (view_in y) (registers g) from i) p pt.regs = arrives.goes no_rights (view_in y) (registers g) (has-registers g) in
          let flow : IsFlow l q i = flow-is l q i (view_in y) (registers g) went.registers from p went.next in
          flowed is (sym (ap is_storing same) ∙ flow.no_store from g) arrives e at quiet
      by_coming is same (loads arrives e) = loaded_there is (sym (ap is_storing same)) arrives e at quiet
      by_coming is same (stores t0 arrives keeps) = stored_there is arrives at quiet
      by_coming is same (returns to rs e) = absurd is

  -- ---- an HCALL

  turned : {to : ℕ} {new : Regs} {e : Doing} → Turns w y to new e → OnInstruction w q e → Went w q y next n
  turned (asks answer word place has to new) is = calls word
  turned (asks_again answer rs t word has loaded tabs fresh to answers) is = absurd is

  -- ---- each word

  pub went : Went w q y next n
  went = by_leads (within-leads w a x y k.sized (known l no_marks q) (λ p rd rs1 op imm g e. walking-sees k (ap is_storing e)) k.within)
    where
      by_leads : Leads w (known l no_marks q) (program_in w y) d n y (shade_of next) → Went w q y next n
      by_leads (goes j less within leaves place quiet) =
          let f : WordLeaves w y next = word-leaves w x y runs in
          still d j less (inner-arrival w a (within-whole within) place)
          (record {
            doing = k.doing;
            plain = k.plain;
            within = subst (λ (m : Memory). Within w (known l no_marks q) m d (shade_of next) j) (sym (program-left w a x y f)) within;
            agrees = k.agrees;
            files = (word-hints_stay w x y runs quiet).files ∙ k.files;
            sees = λ other. alike-left w a x y f leaves k.plain other (k.sees other);
            sized = sized-next;
            goes_on = k.goes_on;
          })
      by_leads (turns j less to new turn within place) = turned turn (on-instruction k.doing k.plain k.agrees)
      by_leads (reaches p base pt block place ok shown comes quiet) = arrived {p = p} {base = base} {pt = pt} (record { block = block; place = place; ok = ok; shown = shown }) comes quiet
      by_leads (halts cause state t has ok stops) = halted cause state (parks-by w a q k.goes_on y.shared cause (on-instruction k.doing k.plain k.agrees) stops)
