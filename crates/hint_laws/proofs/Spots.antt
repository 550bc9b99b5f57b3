-- Where a shadow that follows the program stands: between two arrivals it is at none, and it is behind a call only at the word behind the HCALL of a call's block.
use Rattle.std.proofs.Common.{◌≡◌, ℕ, ◌+◌, ◌-◌, ◌*◌, ◌/◌, ◌%◌, ◌≤◌, ◌<◌, ◌⊎◌, inl, inr, Bool, true, false, ◌&&◌, ◌==◌, nat_le, nat_lt, length, slice_get, Option, Some, None, refl, ◌∙◌, ap, sym, arith, lit<, subst}
use Rattle.std.specs.Prelude.{⊤}
use Rattle.std.proofs.lemmas.Bool.{and_right}
use Rattle.std.proofs.lemmas.Bool.Decides.{nat_tests}
use Rattle.std.proofs.lemmas.List.{length-map}
use Rattle.std.proofs.lemmas.Option.{slice_get_within}
use Rattle.spec_base.specs.Layout.{shadow_start, helpers_start}
use Rattle.spec_base.specs.declared.layout.Layout.{Layout}
use Rattle.rv_decode.specs.Instruction.{instr_of}
use Rattle.rv_decode.specs.declared.instr.Instr.{Instr}
use Rattle.rv_decode.specs.declared.instr.Instr.TheVariants.{Ecall}
use Rattle.rv_decode.specs.Encoding.{HasRegisters}
use Rattle.rv_model.specs.Memory.{Memory}
use Rattle.program_model.specs.PlainRun.{State, text_of}
use Rattle.code_model.specs.Places.{block_at}
use Rattle.run_model.specs.Run.{World, Run}
use Rattle.run_model.specs.ShadowMoves.{is_arrival}
use Rattle.run_model.specs.Restarts.{instr_at, from_restart}
use Rattle.run_model.specs.Marks.{Marks, marks}
use Rattle.run_laws.specs.HintLaws.{is_ecall, is_behind_call}
use Rattle.run_laws.specs.OwnLaws.{Accepted}
use Rattle.own_laws.proofs.Reached.{none_some, false_true}
use Rattle.side_model.specs.Hart.{Regs, Priv}
use Rattle.code_model.specs.Tables.{Tabs}
use Rattle.side_model.specs.Places.{Place, InBlock, InHelper, Away, address, HasBlock}
use Rattle.side_model.specs.Sees.{Shade}
use Rattle.side_model.specs.JumpRows.{JumpRow, j1}
use Rattle.side_model.proofs.Numbers.{TextFits}
use Rattle.rows_log.specs.RestartRows.{RestartedRow, UnboxedRow, r49, r50}
use Rattle.shadow_laws.proofs.Sound.{is_helper}
use Rattle.shadow_laws.proofs.TextBlocks.{text}
use Rattle.mark_laws.specs.Agreement.{Agrees, SeesAlike}
use Rattle.hint_laws.proofs.Within.{Doing, does, ends, restarts, goes_to, Within, computing, quartering, branching, linking, padding, going, jumping, parking, guarded, loading, storing, calling, answered, restarting, unboxing}
use Rattle.hint_laws.proofs.WithinSteps.{Inner, in_block, in_helper, at_pad, behind_call, behind-is, restarted-place}
use Rattle.hint_laws.proofs.Followed.{DoesOf, instruction, text_end, restart, regs_of, Spot, first, inner, Works, Stands, AreCopied, view_in}
use Rattle.hint_laws.proofs.ParkPlaces.{ParkPlace, among_helpers, at_first, at_third, off-arrival, off-call, helper-arrival, helper-call}
use Rattle.hint_laws.proofs.Views.{agrees-shown}

-- ---- what the shadow is doing

-- the addresses of what the shadow is doing are multiples of 4
abbrev pub WholeAt : Doing → Type 0
WholeAt (does p i q) = p % 4 ≡ 0
WholeAt (goes_to to q) = to % 4 ≡ 0
WholeAt (ends q) = ⊤
WholeAt (restarts site q) = ⊤

-- they are wherever it is
pub within-whole : {w : World} {bytes : ℕ → Option ℕ} {program : Memory} {d : Doing} {h : Shade} {n : ℕ} → Within w bytes program d h n → WholeAt d
within-whole (computing p i q is c at) = is.whole
within-whole (quartering p rd imm q is f at) = is.whole
within-whole (branching p op rs1 rs2 imm q is at) = is.whole
within-whole (linking p rd imm q is at) = is.whole
within-whole (padding p rd imm q words is f at) = is.whole
within-whole (going p rd rs1 imm q is at) = is.whole
within-whole (jumping p rd rs1 imm q base words is fits at) = is.whole
within-whole (parking p i q is c at) = is.whole
within-whole (guarded q at) = tt
within-whole (loading p op rd rs1 imm q is at) = is.whole
within-whole (storing p op rs1 rs2 imm q t0 is at) = is.whole
within-whole (calling p q is at before) = is.whole
within-whole (answered p answer q is at) = omega (arith, is.whole)
within-whole (restarting site q base words is fits at) = tt
within-whole (unboxing site q base words is fits at) = omega (arith, is.whole)

-- whether it is on its way to a block, behind a call
abbrev pub is_going : Doing → Bool
is_going (goes_to to q) = true
is_going (does p i q) = false
is_going (ends q) = false
is_going (restarts site q) = false

-- ---- tests of places

-- in a helper, or at word 0 of a block
abbrev pub IsAside : ℕ → Type 0
IsAside pc = (nat_le helpers_start pc ≡ true) ⊎ (pc % 64 ≡ 0)

-- what is aside is behind no call
pub aside-call : (w : World) (pc : ℕ) → IsAside pc → is_behind_call w pc ≡ false
aside-call w pc (inl h) = helper-call w pc h
aside-call w pc (inr e) = off-call w pc (grind (arith, nat_tests, e))

-- nor does an HPARK stand behind a call
pub park-call : (w : World) (pc : ℕ) → ParkPlace pc → is_behind_call w pc ≡ false
park-call w pc (among_helpers above) = helper-call w pc (grind (arith, nat_tests, above))
park-call w pc (at_first e) = off-call w pc (grind (arith, nat_tests, e))
park-call w pc (at_third e) = off-call w pc (grind (arith, nat_tests, e))

-- ---- rows behind a call

-- at a row of JUMP there are words left
pub jump-some : {l : Layout} {at : ℕ} {q : Regs} {place : Place} {rs : Regs} {p : Priv} {t : Tabs} {n : ℕ} → JumpRow l at q place rs p t n → 0 < n
jump-some (j1 p) = lit< tt
jump-some _ = lit< tt

-- and behind RESTART's HCALL
pub restarted-some : {l : Layout} {site : ℕ} {q : Regs} {place : Place} {rs : Regs} {s : Priv} {t : Tabs} {n : ℕ} → RestartedRow l site q place rs s t n → 0 < n
restarted-some (inl row) = unboxed-some row
  where
    unboxed-some : {l : Layout} {site : ℕ} {q : Regs} {place : Place} {rs : Regs} {s : Priv} {t : Tabs} {n : ℕ} → UnboxedRow l site q place rs s t n → 0 < n
    unboxed-some (r49 s) = lit< tt
    unboxed-some (r50 s) = lit< tt
restarted-some (inr row) = jump-some row

-- on the way to a block there are words left
pub going-some : {w : World} {bytes : ℕ → Option ℕ} {program : Memory} {d : Doing} {h : Shade} {n : ℕ} → Within w bytes program d h n → is_going d ≡ true → 0 < n
going-some (answered p answer q is at) e = omega (arith, (behind-is at.row).2)
going-some (unboxing site q base words is fits at) e = restarted-some at.row
going-some (computing p i q is c at) e = false_true e
going-some (quartering p rd imm q is f at) e = false_true e
going-some (branching p op rs1 rs2 imm q is at) e = false_true e
going-some (linking p rd imm q is at) e = false_true e
going-some (padding p rd imm q words is f at) e = false_true e
going-some (going p rd rs1 imm q is at) e = false_true e
going-some (jumping p rd rs1 imm q base words is fits at) e = false_true e
going-some (parking p i q is c at) e = false_true e
going-some (guarded q at) e = false_true e
going-some (loading p op rd rs1 imm q is at) e = false_true e
going-some (storing p op rs1 rs2 imm q t0 is at) e = false_true e
going-some (calling p q is at before) e = false_true e
going-some (restarting site q base words is fits at) e = false_true e

-- a place in a helper, or at word 0 of a block
place-aside : (base : ℕ) (place : Place) → base % 64 ≡ 0 → (is_helper place ≡ true) ⊎ (place ≡ InBlock 0) → IsAside (address base place)
place-aside base (InHelper h n) whole is = inl (grind (arith, nat_tests))
place-aside base (InBlock n) whole (inl e) = false_true e
place-aside base (InBlock n) whole (inr e) = inr (ap (λ (place : Place). address base place % 64) e ∙ omega (arith, whole))
place-aside base (Away b) whole (inl e) = false_true e
place-aside base (Away b) whole (inr e) = absurd (no e)
  where
    no : Away b ≡ InBlock 0 → ⊥
    no e = cc

-- one word is left behind a call's HCALL, and only there the shadow is behind a call
pub going-last : {w : World} {bytes : ℕ → Option ℕ} {program : Memory} {d : Doing} {h : Shade} {n : ℕ} → Within w bytes program d h n → is_going d ≡ true → is_behind_call w h.hart.pc ≡ true → n ≡ 1
going-last (answered p answer q is at) e f = (behind-is at.row).2
going-last {w} (unboxing site q base words is fits at) e f =
    false_true (sym (ap (is_behind_call w) at.shown.pc ∙ aside-call w (address base at.point.place) (place-aside base at.point.place at.code.lawful.whole (restarted-place at.row))) ∙ f)
going-last (computing p i q is c at) e f = false_true e
going-last (quartering p rd imm q is c at) e f = false_true e
going-last (branching p op rs1 rs2 imm q is at) e f = false_true e
going-last (linking p rd imm q is at) e f = false_true e
going-last (padding p rd imm q words is c at) e f = false_true e
going-last (going p rd rs1 imm q is at) e f = false_true e
going-last (jumping p rd rs1 imm q base words is fits at) e f = false_true e
going-last (parking p i q is c at) e f = false_true e
going-last (guarded q at) e f = false_true e
going-last (loading p op rd rs1 imm q is at) e f = false_true e
going-last (storing p op rs1 rs2 imm q t0 is at) e f = false_true e
going-last (calling p q is at before) e f = false_true e
going-last (restarting site q base words is fits at) e f = false_true e

-- ---- the instruction of a state

-- where an instruction of the text stands
pub record InstructionStands (w : World) (q : State) (i : Instr) : Type 0 where
  pub above : w.image.layout.text_start ≤ q.pc
  pub below : q.pc < w.image.layout.text_end
  pub whole : q.pc % 4 ≡ 0
  pub word : slice_get (text_of w.image) ((q.pc - w.image.layout.text_start) / 4) ≡ Some i

-- what is so of the instruction that is done for a state; behind a call none is
abbrev pub InstructionOf : World → State → Doing → Type 0
InstructionOf w q (does p i g) = (p ≡ q.pc) × (instr_at w.image q ≡ Some i) × HasRegisters i
InstructionOf w q (ends g) = ⊤
InstructionOf w q (restarts site g) = (site ≡ q.pc) × (instr_at w.image q ≡ Some Ecall)
InstructionOf w q (goes_to to g) = ⊥

-- it is so
pub instruction-of : {w : World} {q : State} {d : Doing} → DoesOf w q d → InstructionOf w q d
instruction-of (instruction i g word has) = (refl, word, has)
instruction-of (text_end g e) = tt
instruction-of (restart g word) = (refl, word)

module _ (w : World) (a : Accepted w) where
  abbrev l : Layout
  l = w.image.layout

  -- the instruction of a state stands in the text
  pub instr-stands : (q : State) (i : Instr) → instr_at w.image q ≡ Some i → InstructionStands w q i
  instr-stands q i e = by_test (nat_le l.text_start q.pc && (q.pc % 4 == 0)) refl e
    where
      by_test : (b : Bool) → (nat_le l.text_start q.pc && (q.pc % 4 == 0)) ≡ b → elim b [ true ↦ slice_get (text_of w.image) ((q.pc - l.text_start) / 4) | false ↦ None ] ≡ Some i → InstructionStands w q i
      by_test true f e =
          let above : l.text_start ≤ q.pc = grind (arith, nat_tests, f) in
          let whole : q.pc % 4 ≡ 0 = grind (arith, nat_tests, f) in
          let inside : (q.pc - l.text_start) / 4 < length (text_of w.image) = slice_get_within (text_of w.image) ((q.pc - l.text_start) / 4) i e in
          record { above = above; below = omega (arith, inside, length-map w.image.words instr_of, a.text, above, whole, (text w a).start); whole = whole; word = e }
      by_test false f e = none_some e

  -- the block of an address begins at a multiple of 64
  pub block-whole : (p : ℕ) → p % 4 ≡ 0 → block_at l p % 64 ≡ 0
  block-whole p h = omega (arith, h, (text w a).start)

  -- ---- no arrival

  -- between two arrivals the shadow is at none
  pub inner-arrival : {d : Doing} {pc : ℕ} → WholeAt d → Inner l pc d → is_arrival l pc ≡ false
  inner-arrival {pc = pc} whole (in_block {p} n few other seventh is) =
      let base : block_at l p % 64 ≡ 0 = block-whole p whole in off-arrival l pc (grind (arith, nat_tests, base, few, other, is))
  inner-arrival {pc = pc} whole (in_helper h) = helper-arrival l pc h
  inner-arrival {pc = pc} whole (at_pad e) = off-arrival l pc (grind (arith, nat_tests, e))
  inner-arrival {pc = pc} whole (behind_call p to is) =
      let base : block_at l p % 64 ≡ 0 = block-whole p (omega (arith, whole, to)) in off-arrival l pc (grind (arith, nat_tests, base, is))

  -- the state whose instruction is done has a block
  pub doing-block : (q : State) (d : Doing) → DoesOf w q d → HasBlock l q.pc
  doing-block q d is = by_doing is
    where
      f : TextFits l
      f = text w a

      at_instr : (i : Instr) → instr_at w.image q ≡ Some i → HasBlock l q.pc
      at_instr i e = let s : InstructionStands w q i = instr-stands q i e in record { above = s.above; below = omega (arith, s.below); whole = omega (arith, s.whole, f.start) }

      by_doing : {d : Doing} → DoesOf w q d → HasBlock l q.pc
      by_doing (instruction i g e has) = at_instr i e
      by_doing (text_end g e) = record { above = omega (arith, e, f.some); below = omega (arith, e); whole = omega (arith, e, f.start, f.end) }
      by_doing (restart g e) = at_instr Ecall e

  -- ---- behind no call

  -- word 1 is behind no call
  pub first-call : (p : ℕ) → HasBlock l p → is_behind_call w (block_at l p + 4) ≡ false
  first-call p b = let whole : (block_at l p + 4) % 64 ≡ 4 = omega (arith, b.whole) in off-call w (block_at l p + 4) (grind (arith, nat_tests, whole))

  -- nor is a word of an instruction's block, but the one behind a call's HCALL
  block-call : (q : State) (i : Instr) (n : ℕ) → InstructionStands w q i → nat_lt n 16 ≡ true → (is_ecall (Some i) && (n == 7)) ≡ false → is_behind_call w (block_at l q.pc + 4 * n) ≡ false
  block-call q i n s few seventh = by_test (n == 7) refl seventh
    where
      pc : ℕ
      pc = block_at l q.pc + 4 * n

      base : block_at l q.pc % 64 ≡ 0
      base = block-whole q.pc s.whole

      by_test : (b : Bool) → (n == 7) ≡ b → (is_ecall (Some i) && b) ≡ false → is_behind_call w pc ≡ false
      by_test false f h = off-call w pc (grind (arith, nat_tests, base, few, f))
      by_test true f h =
          let number : (pc - shadow_start) / 64 ≡ (q.pc - l.text_start) / 4 = grind (arith, nat_tests, few, s.whole, (text w a).start) in
          let other : is_ecall (slice_get (text_of w.image) ((pc - shadow_start) / 64)) ≡ false =
          ap (λ (k : ℕ). is_ecall (slice_get (text_of w.image) k)) number ∙ ap is_ecall s.word ∙ no_ecall (is_ecall (Some i)) h in
          and_right (nat_le shadow_start pc) _ (and_right (nat_lt pc helpers_start) _ (and_right (pc % 64 == 28) _ other))
        where
          no_ecall : (b : Bool) → (b && true) ≡ false → b ≡ false
          no_ecall false h = refl
          no_ecall true h = h

  -- on the instruction of a state it is behind none
  pub inner-call : (q : State) (d : Doing) (pc : ℕ) → DoesOf w q d → Inner l pc d → is_behind_call w pc ≡ false
  inner-call q d pc is here = by_place here (instruction-of is)
    where
      by_place : {d : Doing} → Inner l pc d → InstructionOf w q d → is_behind_call w pc ≡ false
      by_place (in_block {p} {i} n few other seventh e) (same, word, has) =
          ap (is_behind_call w) (e ∙ ap (λ (p : ℕ). block_at l p + 4 * n) same) ∙ block-call q i n (instr-stands q i word) few seventh
      by_place (in_helper h) on = helper-call w pc h
      by_place (at_pad e) on = aside-call w pc (inr e)
      by_place (behind_call p to e) on = absurd on

-- ---- a shadow that works on an instruction

module _ (w : World) (a : Accepted w) {r : Run} {s : ℕ} {m : Marks} {q : State} {program : Memory} {d : Doing} {n : ℕ} (works : Works w r s m q program d n) where
  -- it is behind no call
  pub works-call : is_behind_call w r.shadow.pc ≡ false
  works-call = by_spot works.spot
    where
      by_spot : Spot w r q d → is_behind_call w r.shadow.pc ≡ false
      by_spot (first e regs other) = ap (is_behind_call w) e ∙ first-call w a q.pc (doing-block w a q d works.doing)
      by_spot (inner here) = inner-call w a q d r.shadow.pc works.doing here

  -- where it is at an arrival, it stands for the state
  pub works-stands : is_arrival w.image.layout r.shadow.pc ≡ true → Stands w r q
  works-stands h = by_spot works.spot
    where
      marked : m ≡ marks w r r.since.shadow
      marked = sym (ap (marks w r) works.count ∙ works.marked)

      by_spot : Spot w r q d → Stands w r q
      by_spot (first at has running) =
          record {
            state = ap (from_restart w r) works.count ∙ works.state;
            inside = works.inside;
            place = at;
            agrees = subst (λ (m : Marks). Agrees m r.shadow.registers q) marked (agrees-shown m r.shadow.registers (regs_of d) q has works.agrees);
            files = works.files;
            sees = subst (λ (m : Marks). SeesAlike w.image.layout m (view_in r) q) marked (works.sees running (inr h));
            copied = subst (AreCopied w r) (sym works.count) works.copied;
          }
      by_spot (inner here) = false_true (sym (inner-arrival w a (within-whole works.within) here) ∙ h)
