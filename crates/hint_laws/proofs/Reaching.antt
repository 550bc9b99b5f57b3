-- A shadow that follows the program goes on following it where it arrives behind an instruction that is no use.
use Rattle.std.proofs.Common.{◌≡◌, ℕ, zero, suc, ◌+◌, ◌-◌, ◌/◌, ◌%◌, ◌<◌, ◌≤◌, ◌⊎◌, inl, inr, Bool, true, false, ◌==◌, ℤ, [], ◌++◌, append-nil, Option, Some, refl, ◌∙◌, ap, ap₂, sym, subst, arith}
use Rattle.std.specs.Prelude.{IsTrue}
use Rattle.std.specs.Option.{option_and_then}
use Rattle.std.proofs.lemmas.Bool.{and_parts, or_cases}
use Rattle.std.proofs.lemmas.Bool.Decides.{nat_tests}
use Rattle.spec_base.specs.Listed.{is_listed}
use Rattle.spec_base.specs.Word.{plus_int}
use Rattle.spec_base.specs.declared.layout.Layout.{Layout}
use Rattle.spec_base.specs.declared.machine.View.TheVariants.{Plain}
use Rattle.spec_base.specs.declared.note.ShadowState.TheVariants.{Running}
use Rattle.rv_decode.specs.Encoding.{HasRegisters}
use Rattle.rv_decode.specs.declared.instr.Instr.{Instr}
use Rattle.rv_decode.specs.declared.instr.Instr.TheVariants.{Load, Store}
use Rattle.rv_decode.specs.declared.instr.LoadOp.{LoadOp}
use Rattle.rv_decode.specs.declared.instr.StoreOp.{StoreOp}
use Rattle.rv_model.specs.Memory.{Memory, is_within, stored, all_from}
use Rattle.rv_model.specs.Registers.{Registers, reg, with_reg}
use Rattle.rv_model.specs.Rights.{is_data, data_rights}
use Rattle.rv_model.specs.Arithmetic.{load_width, store_width, extended}
use Rattle.rv_model.specs.Effect.{Next, effect, after}
use Rattle.program_model.specs.PlainRun.{State, all_taken, next_state}
use Rattle.code_model.specs.Regions.{entry_of, shadowed}
use Rattle.run_model.specs.Run.{World, Run, Answer, rewritten_words}
use Rattle.run_model.specs.ShadowMoves.{shadow_step}
use Rattle.run_model.specs.Restarts.{Action, from_restart, instr_at, instr_action, some_action, action, read_in, reads}
use Rattle.run_model.specs.Marks.{Marks, mark_bytes, marks_after, marks_after_some, marks_with, marks, is_use, some_use, before_use_with, before_use}
use Rattle.run_laws.specs.OwnLaws.{Accepted}
use Rattle.own_laws.proofs.Reached.{false_true}
use Rattle.side_model.specs.Hart.{Regs, get}
use Rattle.code_model.specs.Tables.{Tabs, all_regions}
use Rattle.side_model.specs.Places.{width_of}
use Rattle.side_model.specs.Words.{Point}
use Rattle.side_model.specs.Sees.{HasRegs}
use Rattle.side_model.proofs.Registers.{HasRegs-put}
use Rattle.rows_access.specs.Accesses as access
use Rattle.rows_access.specs.Accesses.{store_size}
use Rattle.rows_access.specs.LoadRows.{LoadArrives}
use Rattle.rows_access.specs.StoreRows.{StoreArrives}
use Rattle.rows_access.proofs.AccessPlaces.{same-region, load-width, store-width}
use Rattle.rows_access.proofs.Reach.{Reached, reached as reaches_data}
use Rattle.rows_flow.specs.Following.{GoesOn, FlowArrives}
use Rattle.shadow_laws.proofs.TextBlocks.{text}
use Rattle.mark_laws.specs.Agreement.{IsAt, SeesAlike, may_access, Leads, FlowLeads, StoreLeads}
use Rattle.mark_laws.specs.Settled.{settles, settled_with}
use Rattle.mark_laws.proofs.Changes.{from_restart-next}
use Rattle.mark_laws.proofs.Horizons.{and_right, not_true}
use Rattle.mark_laws.proofs.Numbers.{from_restart-origin, reads-origin}
use Rattle.mark_laws.proofs.OneInstruction.{unmarked-register, flow_agrees, load_agrees, store_agrees}
use Rattle.hint_laws.proofs.Within.{Doing, does, known_from, within-running}
use Rattle.hint_laws.proofs.WithinSteps.{KeepsCopies, IsQuiet, Comes, flows, loads, stores, returns}
use Rattle.hint_laws.proofs.Followed.{known, registers, program_in, view_in, AreCopied, Works, Followed}
use Rattle.hint_laws.proofs.Views.{known-number, stored-seen, has-registers, agrees-as, no_rights, IsFlow, flow-is}
use Rattle.hint_laws.proofs.Arriving.{Arrives, StandsAt, follows-there, leaves, stays, counted, view-stays, keeps-all}
use Rattle.hint_laws.proofs.Spots.{InstructionOf, instruction-of}
use Rattle.hint_laws.proofs.Transport.{same-marks, same-use, same-settled, filled-same}
use Rattle.hint_laws.proofs.WordFacts.{WordLeaves, HintsStay}

module _ (w : World) (a : Accepted w) (x : Answer) (r : Run) where
  abbrev l : Layout
  l = w.image.layout

  abbrev next : Run
  next = shadow_step w x r

  -- ---- the instruction at hand

  -- an instruction that is no read leaves the reads
  reads-stay : (s : ℕ) → read_in (action w r (suc s)) ≡ [] → reads w r (suc s) ≡ reads w r s
  unfolding reads
  reads-stay zero e = refl
  reads-stay (suc s) e = ap (λ more. reads w r (suc s) ++ more) e ∙ append-nil (reads w r (suc s))

  module _ {s : ℕ} {m : Marks} {q : State} {program : Memory} {d : Doing} {n : ℕ} (v : Works w r s m q program d n) (quiet : IsQuiet w r) (i : Instr) (word : instr_at w.image q ≡ Some i) where
    -- the shadow runs
    runs : r.shadow.state ≡ Running
    runs = within-running v.within

    -- what the word leaves
    left : WordLeaves w r next
    left = leaves w a x r runs quiet

    -- the hints, the filled reads and the descriptors stay
    stayed : HintsStay r next
    stayed = stays w a x r runs quiet

    -- whether its read is filled, if it is one
    abbrev filled : Bool
    filled = is_listed r.since.filled (suc s)

    -- the marks behind it
    abbrev behind_marks : Marks
    behind_marks = marks_after l filled q (Some i) m

    -- it is where the state is
    is-at : IsAt w.image q i
    is-at = record { goes_on = v.goes_on; word = word }

    -- what it does
    acts : action w r (suc s) ≡ instr_action l q (Some i)
    acts = ap (some_action w.image) v.state ∙ ap (instr_action l q) word

    -- it is no use
    no-use : {p base : ℕ} {pt : Point} → Arrives w a x r p base pt → IsTrue (before_use w next next.since.shadow) → is_use l q (Some i) m ≡ false
    unfolding before_use_with
    no-use at before =
        let count : next.since.shadow ≡ suc s = counted w a x r runs quiet at ∙ ap suc v.count in
        let unused : IsTrue (before_use w r (suc s)) = sym (same-use w r next left.origin stayed.filled (suc s)) ∙ sym (ap (before_use w next) count) ∙ before in
        sym (ap₂ (λ (o : Option State) (marks : Marks). some_use w.image o marks) v.state v.marked ∙ ap (λ (o : Option Instr). is_use l q o m) word)
        ∙ not_true (some_use w.image (from_restart w r s) (marks w r s)) (and_right (before_use w r s) _ unused)

    -- the marks then
    marked-behind : marks w next (suc s) ≡ behind_marks
    unfolding marks_with
    marked-behind =
        same-marks w r next left.origin stayed.filled (suc s)
        ∙ ap₂ (λ (o : Option State) (marks : Marks). marks_after_some w.image filled o marks) v.state v.marked ∙ ap (λ (o : Option Instr). marks_after l filled q o m) word

    -- settled bytes have copies, where those have that it settles
    copied-behind : KeepsCopies l r.shared next.shared → ((y : ℕ) → settles (instr_action l q (Some i)) filled y ≡ true → (y / 256 < all_regions l) × (0 < entry_of next.shared (y / 256))) → AreCopied w next (suc s)
    unfolding settled_with
    copied-behind keeps own y e =
        by_case (or_cases (settled_with r.since.filled w r s y) _ (sym (same-settled w r next left.origin stayed.filled (suc s) y) ∙ e))
      where
        by_case : (settled_with r.since.filled w r s y ≡ true) ⊎ (settles (action w r (suc s)) filled y ≡ true) → (y / 256 < all_regions l) × (0 < entry_of next.shared (y / 256))
        by_case (inl h) = let was = v.copied y h in (was.0, subst (λ n. 0 < n) (sym (keeps (y / 256) was.0 was.1)) was.1)
        by_case (inr h) = own y (sym (ap (λ (act : Action). settles act filled y) acts) ∙ h)

    -- the shadow stands for the next state
    stands : {p base : ℕ} {pt : Point} {new : Registers} {target : ℕ} {memory : Memory} → Arrives w a x r p base pt → (y : Leads w.image w.files filled m q i new target memory q.files)
        → HasRegs new pt.regs → SeesAlike l behind_marks (view_in next) y.state → AreCopied w next (suc s) → read_in (instr_action l q (Some i)) ≡ [] → StandsAt w a x r (suc s) behind_marks y.state pt
    stands {pt = pt} {new} at y has sees copied none =
        record {
          some = omega arith;
          count = counted w a x r runs quiet at ∙ ap suc v.count;
          marked = marked-behind;
          state = from_restart-origin w r next left.origin (suc s) ∙ from_restart-next w r s ∙ ap (option_and_then (next_state w.image w.files all_taken)) v.state ∙ y.completes;
          goes_on = y.goes_on;
          agrees = agrees-as behind_marks new pt.regs y.state has y.agrees;
          files = stayed.files ∙ v.files ∙ sym y.descriptors;
          sees = sees;
          copied = copied;
          filled = λ k less. filled-same r next stayed.filled s v.filled k (omega (arith, less));
          hints = stayed.hints ∙ v.hints ∙ sym (reads-stay s (ap read_in acts ∙ none)) ∙ sym (reads-origin w r next left.origin (suc s));
        }

  -- ---- behind each kind of instruction

  -- the next word of the text
  next-word : {p target : ℕ} (q : State) → p ≡ q.pc → target ≡ p + 4 → target ≤ l.text_end → after q.pc ≡ target
  next-word q pc e most = omega (arith, pc, e, most, (text w a).below)

  -- one that touches no memory
  flowed : {s : ℕ} {m : Marks} {q : State} {program : Memory} {p : ℕ} {i : Instr} {g : Regs} {n target base : ℕ} {pt : Point} → Works w r s m q program (does p i g) n → IsQuiet w r → p ≡ q.pc → instr_at w.image q ≡ Some i → HasRegisters i
      → FlowArrives l p i g target pt.regs → next.shared ≡ r.shared → Arrives w a x r target base pt → IsTrue (before_use w next next.since.shadow) → Followed w next
  flowed {s} {m} {q} {program} {p} {i} {g} {n} {target} {base} {pt} v quiet pc word has arrives same at before =
      let seen : Memory = view_in r in
      let went : GoesOn (effect Plain no_rights seen (registers g) p i) target pt.regs = arrives.goes no_rights seen (registers g) (has-registers g) in
      let flow : IsFlow l q i = flow-is l q i seen (registers g) went.registers p target went.next in
      let gone : GoesOn (effect Plain (data_rights l) seen (registers g) p i) target pt.regs = arrives.goes (data_rights l) seen (registers g) (has-registers g) in
      let y : FlowLeads w.image w.files (filled v quiet i word) m q i gone.registers target =
      flow_agrees w.image w.files (filled v quiet i word) m q i (registers g) seen gone.registers target (is-at v quiet i word) has flow.no_load (no-use v quiet i word at before) v.agrees
      (subst (λ (z : ℕ). effect Plain (data_rights l) seen (registers g) z i ≡ Next gone.registers target) pc gone.next) in
      follows-there w a x r
      (stands v quiet i word at y.leads gone.shown
      (subst (λ (z : Memory). SeesAlike l (behind_marks v quiet i word) z y.leads.state) (sym (view-stays w a x r (within-running v.within) quiet same)) (y.sees seen (v.sees refl (inl (flow.no_store p g)))))
      (copied-behind v quiet i word (keeps-all w a x r same) (λ b e. false_true (sym (ap (λ (act : Action). settles act (filled v quiet i word) b) flow.other) ∙ e)))
      (ap read_in flow.other))
      y.leads.pc at

  -- a load
  loaded_there : {s : ℕ} {m : Marks} {q : State} {program : Memory} {p : ℕ} {op : LoadOp} {rd rs1 : ℕ} {imm : ℤ} {g : Regs} {n target base : ℕ} {pt : Point} → Works w r s m q program (does p (Load op rd rs1 imm) g) n → IsQuiet w r → p ≡ q.pc
      → instr_at w.image q ≡ Some (Load op rd rs1 imm) → HasRegisters (Load op rd rs1 imm) → LoadArrives l p op rd rs1 imm g (known_from (known l m q) (plus_int (get rs1 g) imm) (load_width op)) target pt.regs → next.shared ≡ r.shared
      → Arrives w a x r target base pt → IsTrue (before_use w next next.since.shadow) → Followed w next
  loaded_there {s} {m} {q} {program} {p} {op} {rd} {rs1} {imm} {g} {n} {target} {base} {pt} v quiet pc word has arrives shared at before =
      let i : Instr = Load op rd rs1 imm in
      let from : ℕ = plus_int (reg (registers g) rs1) imm in
      let same : plus_int (get rs1 g) imm ≡ from = ap (λ (b : ℕ). plus_int b imm) (sym ((has-registers g).at rs1)) in
      let may : may_access l from (load_width op) ≡ true =
      subst (λ (z : ℕ). may_access l z (load_width op) ≡ true) same (subst (λ (k : ℕ). may_access l (plus_int (get rs1 g) imm) k ≡ true) (load-width op) arrives.may) in
      let inside : all_from (is_data l) from (load_width op) ≡ true = (and_parts (from % load_width op == 0) (all_from (is_data l) from (load_width op)) may).1 in
      let given : access.Allows (known_from (known l m q) from (load_width op)) arrives.number = subst (λ (z : ℕ). access.Allows (known_from (known l m q) z (load_width op)) arrives.number) same arrives.known in
      let new : Registers = with_reg (registers g) rd (extended op arrives.number) in
      let y : FlowLeads w.image w.files (filled v quiet i word) m q i new (after q.pc) =
      load_agrees w.image w.files (filled v quiet i word) m q op rd rs1 imm (registers g) arrives.number (is-at v quiet i word) has (no-use v quiet i word at before) v.agrees may
      (known-number l m q from (load_width op) arrives.number inside given) in
      follows-there w a x r
      (stands v quiet i word at y.leads (subst (λ (z : Regs). HasRegs new z) (sym arrives.registers) (HasRegs-put (registers g) g rd (extended op arrives.number) (has-registers g)))
      (subst (λ (z : Memory). SeesAlike l (behind_marks v quiet i word) z y.leads.state) (sym (view-stays w a x r (within-running v.within) quiet shared)) (y.sees (view_in r) (v.sees refl (inl refl))))
      (copied-behind v quiet i word (keeps-all w a x r shared) (λ b e. false_true e)) refl)
      (y.leads.pc ∙ next-word q pc arrives.next at.block.below) at

  -- a store
  stored_there : {s : ℕ} {m : Marks} {q : State} {program : Memory} {p : ℕ} {op : StoreOp} {rs1 rs2 : ℕ} {imm : ℤ} {g : Regs} {n target base : ℕ} {pt : Point} {t0 : Tabs} → Works w r s m q program (does p (Store op rs1 rs2 imm) g) n → IsQuiet w r → p ≡ q.pc
      → instr_at w.image q ≡ Some (Store op rs1 rs2 imm) → HasRegisters (Store op rs1 rs2 imm) → StoreArrives l p op rs1 rs2 imm g (known l m q) (program_in w r) t0 target pt.regs pt.tabs next.shared → KeepsCopies l r.shared next.shared
      → Arrives w a x r target base pt → IsTrue (before_use w next next.since.shadow) → Followed w next
  stored_there {s} {m} {q} {program} {p} {op} {rs1} {rs2} {imm} {g} {n} {target} {base} {pt} v quiet pc word has arrives keeps at before =
      follows-there w a x r (stands v quiet i word at y.leads (subst (λ (z : Regs). HasRegs (registers g) z) (sym arrives.registers) (has-registers g)) seen (copied-behind v quiet i word keeps own) refl)
      (y.leads.pc ∙ next-word q pc arrives.next at.block.below) at
    where
      i : Instr
      i = Store op rs1 rs2 imm

      -- the address, by the row's, the hart's and the state's registers
      to : ℕ
      to = plus_int (get rs1 g) imm

      width : ℕ
      width = store_width op

      in_hart : to ≡ plus_int (reg (registers g) rs1) imm
      in_hart = ap (λ (b : ℕ). plus_int b imm) (sym ((has-registers g).at rs1))

      unused : m.registers rs1 ≡ false
      unused = no-use v quiet i word at before

      in_state : to ≡ plus_int (reg q.registers rs1) imm
      in_state = in_hart ∙ ap (λ (b : ℕ). plus_int b imm) (unmarked-register m (registers g) q v.agrees rs1 has.0 unused)

      y : StoreLeads w.image w.files (filled v quiet i word) m q op rs1 rs2 imm (registers g) (plus_int (reg (registers g) rs1) imm)
      y =
          store_agrees w.image w.files (filled v quiet i word) m q op rs1 rs2 imm (registers g) (is-at v quiet i word) has unused v.agrees
          (subst (λ (z : ℕ). may_access l z width ≡ true) in_hart (subst (λ (k : ℕ). may_access l to k ≡ true) (store-width op) arrives.may))

      -- the state's own memory with the shadow's number in it is alike
      alike_there : SeesAlike l (mark_bytes m to width (m.registers rs2)) (stored q.memory to width (get rs2 g)) y.leads.state
      alike_there =
          subst (λ (z : ℕ). SeesAlike l (mark_bytes m z width (m.registers rs2)) (stored q.memory to width (get rs2 g)) y.leads.state) (sym in_state)
          (subst (λ (z : ℕ). SeesAlike l (behind_marks v quiet i word) (stored q.memory z width (get rs2 g)) y.leads.state) (sym in_hart)
          (subst (λ (z : ℕ). SeesAlike l (behind_marks v quiet i word) (stored q.memory (plus_int (reg (registers g) rs1) imm) width z) y.leads.state) ((has-registers g).at rs2)
          (y.sees q.memory (record { bytes = λ b h u. refl }))))

      seen : SeesAlike l (behind_marks v quiet i word) (view_in next) y.leads.state
      seen =
          subst (λ (memory : Memory). SeesAlike l (behind_marks v quiet i word) (shadowed next.shared memory) y.leads.state) (sym (ap (λ o. o.memory) (leaves w a x r (within-running v.within) quiet).own))
          (subst (λ (z : ℕ). SeesAlike l (mark_bytes m z width (m.registers rs2)) (shadowed next.shared r.own.memory) y.leads.state) in_state
          (stored-seen l m (rewritten_words w) r.own.memory next.shared q y.leads.state pt.tabs to width (get rs2 g) (m.registers rs2) at.shown.tabs arrives.viewed alike_there))

      -- the bytes that it stores lie in one region, which has a copy
      one : Reached l (store_size op) to
      one = reaches_data l (store_size op) to arrives.may

      own : (b : ℕ) → is_within (plus_int (reg q.registers rs1) imm) width b ≡ true → (b / 256 < all_regions l) × (0 < entry_of next.shared (b / 256))
      own b e = subst (λ (region : ℕ). (region < all_regions l) × (0 < entry_of next.shared region)) (sym region) (one.region, some)
        where
          inside : is_within to (width_of (store_size op)) b ≡ true
          inside = subst (λ (k : ℕ). is_within to k b ≡ true) (sym (store-width op)) (subst (λ (z : ℕ). is_within z width b ≡ true) (sym in_state) e)

          above : to ≤ b
          above = grind (arith, nat_tests, inside)

          below : b - to < width_of (store_size op)
          below = let k : b < to + width_of (store_size op) = grind (arith, nat_tests, inside) in omega (arith, k, above)

          region : b / 256 ≡ to / 256
          region = ap (λ (z : ℕ). z / 256) (omega (arith, above)) ∙ same-region (store_size op) to (b - to) one.whole below

          some : 0 < entry_of next.shared (to / 256)
          some = let k : 0 < pt.tabs.entry (to / 256) = grind (arith, nat_tests, arrives.copied) in subst (λ (z : ℕ). 0 < z) (sym (at.shown.tabs.entry (to / 256) one.region)) k

  -- ---- each arrival

  -- behind its instruction the shadow works on the next
  pub reached : {s : ℕ} {m : Marks} {q : State} {program : Memory} {d : Doing} {n target base : ℕ} {pt : Point} → Works w r s m q program d n → Arrives w a x r target base pt
      → Comes l (known l m q) (program_in w r) r.shared target pt.regs pt.tabs next.shared d → IsQuiet w r → IsTrue (before_use w next next.since.shadow) → Followed w next
  reached {s} {m} {q} {program} {d} {n} {target} {base} {pt} v at comes quiet before = by_coming v (instruction-of v.doing) comes
    where
      by_coming : {d : Doing} → Works w r s m q program d n → InstructionOf w q d → Comes l (known l m q) (program_in w r) r.shared target pt.regs pt.tabs next.shared d → Followed w next
      by_coming v is (flows arrives same) = flowed v quiet is.0 is.1 is.2 arrives same at before
      by_coming v is (loads arrives same) = loaded_there v quiet is.0 is.1 is.2 arrives same at before
      by_coming v is (stores t0 arrives keeps) = stored_there v quiet is.0 is.1 is.2 arrives keeps at before
      by_coming v is (returns to rs same) = absurd is
