-- A shadow that follows the program goes on following it where it arrives behind a call, and doesn't arrive there before the first use where the call is one.
use Rattle.std.proofs.Common.{◌≡◌, ℕ, suc, ◌+◌, ◌-◌, ◌/◌, ◌%◌, ◌<◌, Bool, true, false, ◌&&◌, ◌==◌, nat_le, eq-eqb, Option, Some, None, slice_get, refl, ◌∙◌, ap, ap₂, sym, subst, arith}
use Rattle.std.specs.Prelude.{⊤, IsTrue}
use Rattle.std.proofs.lemmas.Bool.Decides.{nat_tests}
use Rattle.spec_base.specs.declared.layout.Layout.{Layout}
use Rattle.spec_base.specs.declared.note.ShadowState.TheVariants.{Running}
use Rattle.rv_decode.specs.declared.instr.Instr.{Instr}
use Rattle.rv_model.specs.Memory.{Memory}
use Rattle.program_model.specs.PlainRun.{State, text_of}
use Rattle.code_model.specs.Places.{block_at}
use Rattle.code_model.specs.Regions.{entry_of, shadowed}
use Rattle.run_model.specs.Run.{World, Run, Answer, rewritten_words}
use Rattle.run_model.specs.ShadowMoves.{is_arrival, shadow_step}
use Rattle.run_model.specs.Restarts.{from_restart, instr_at, reads}
use Rattle.run_model.specs.Marks.{Marks, marks, before_use}
use Rattle.run_laws.specs.OwnLaws.{Accepted}
use Rattle.own_laws.proofs.Reached.{false_true}
use Rattle.side_model.specs.Hart.{Regs}
use Rattle.code_model.specs.Tables.{Tabs, TableOk}
use Rattle.side_model.specs.Places.{address, HasBlock}
use Rattle.side_model.specs.Words.{Point}
use Rattle.side_model.specs.Sees.{shade_of, Sees, HasRegs}
use Rattle.shadow_laws.proofs.ShadowRuns.{block-arrives}
use Rattle.shadow_laws.proofs.TextBlocks.{InText}
use Rattle.mark_laws.specs.Agreement.{Agrees, SeesAlike}
use Rattle.mark_laws.proofs.Numbers.{from_restart-origin, reads-origin}
use Rattle.hint_laws.proofs.Within.{Doing, does, ends, goes_to, Within, Begun, begun, at_end, begins, within-running}
use Rattle.hint_laws.proofs.WithinSteps.{KeepsCopies, IsQuiet, Comes, flows, loads, stores, returns}
use Rattle.hint_laws.proofs.Followed.{known, registers, regs_of, program_in, view_in, AreCopied, FilledUpTo, DoesOf, instruction, text_end, is_restart, first, Behind, Strays, Followed, works}
use Rattle.hint_laws.proofs.WordFacts.{WordLeaves, HintsStay, word-leaves, word-hints_stay}
use Rattle.hint_laws.proofs.Views.{are-seen}
use Rattle.hint_laws.proofs.Transport.{copied-kept, same-marks, filled-same, same-use}

-- ---- the instruction there

-- the instruction of a block is that at its address
pub instr-there : (w : World) (q : State) (i : Instr) → InText w q.pc i → instr_at w.image q ≡ Some i
instr-there w q i is =
    let lower : nat_le w.image.layout.text_start q.pc ≡ true = grind (arith, nat_tests, is.above) in
    let whole : (q.pc % 4 == 0) ≡ true = eq-eqb (q.pc % 4) 0 is.whole in
    by_tests (nat_le w.image.layout.text_start q.pc) (q.pc % 4 == 0) lower whole
  where
    by_tests : (b c : Bool) → b ≡ true → c ≡ true → elim (b && c) [ true ↦ slice_get (text_of w.image) ((q.pc - w.image.layout.text_start) / 4) | false ↦ None ] ≡ Some i
    by_tests true true e f = is.word
    by_tests true false e f = false_true f
    by_tests false c e f = false_true e

module _ (w : World) (a : Accepted w) (x : Answer) (r : Run) where
  abbrev l : Layout
  l = w.image.layout

  abbrev next : Run
  next = shadow_step w x r

  -- ---- word 1 of the next block

  -- the shadow has been led to word 1 of the block of p
  pub record Arrives (p base : ℕ) (pt : Point) : Type 0 where
    pub block : HasBlock l p
    pub place : address base pt.place ≡ block_at l p + 4
    pub ok : TableOk l pt.tabs
    pub shown : Sees l base (shade_of next) pt next.shared

  -- there it stands for the state q after c instructions, with the marks m then
  pub record StandsAt (c : ℕ) (m : Marks) (q : State) (pt : Point) : Type 0 where
    pub some : 0 < c
    pub count : next.since.shadow ≡ c
    pub marked : marks w next c ≡ m
    pub state : from_restart w next c ≡ Some q
    pub goes_on : q.exited ≡ None
    pub agrees : Agrees m (registers pt.regs) q
    pub files : next.shadow.files ≡ q.files
    pub sees : SeesAlike l m (view_in next) q
    pub copied : AreCopied w next c
    pub filled : FilledUpTo next c
    pub hints : next.since.hints ≡ reads w next c

  -- then it follows the program still
  pub follows-there : {c : ℕ} {m : Marks} {q : State} {p base : ℕ} {pt : Point} → StandsAt c m q pt → q.pc ≡ p → Arrives p base pt → Followed w next
  follows-there {c} {m} {q} {p} {base} {pt} v target at =
      by_begun (begins w a (known l m q) (program_in w next) q.pc base (shade_of next) pt next.shared block place at.ok at.shown (are-seen l m (rewritten_words w) next.own.memory next.shared q v.sees))
    where
      block : HasBlock l q.pc
      block = subst (λ y. HasBlock l y) (sym target) at.block

      place : address base pt.place ≡ block_at l q.pc + 4
      place = at.place ∙ ap (λ y. block_at l y + 4) (sym target)

      working : (d : Doing) (n : ℕ) → regs_of d ≡ pt.regs → is_restart d ≡ false → DoesOf w q d → Within w (known l m q) (program_in w next) d (shade_of next) n → Followed w next
      working d n g plain is within =
          works c m q (program_in w next) d n
          (record {
            count = v.count;
            marked = v.marked;
            program_is = refl;
            state = v.state;
            goes_on = v.goes_on;
            inside = block.above;
            doing = is;
            within = within;
            spot = first (at.shown.pc ∙ place) (subst (λ (y : Regs). HasRegs next.shadow.registers y) (sym g) at.shown.regs) plain;
            agrees = subst (λ (y : Regs). Agrees m (registers y) q) (sym g) v.agrees;
            files = v.files;
            sees = λ e f. v.sees;
            later = λ e. v.some;
            anew = λ e. false_true (sym plain ∙ e);
            copied = v.copied;
            filled = v.filled;
            hints = v.hints;
          })

      by_begun : Begun w (known l m q) (program_in w next) q.pc pt.regs (shade_of next) → Followed w next
      by_begun (begun i is n few within) = working (does q.pc i pt.regs) n refl refl (instruction i pt.regs (instr-there w q i is) is.registers) within
      by_begun (at_end end n few within) = working (ends pt.regs) n refl refl (text_end pt.regs end) within

  -- ---- a word that is no HCALL

  module _ (runs : r.shadow.state ≡ Running) (quiet : IsQuiet w r) where
    -- what it leaves
    pub leaves : WordLeaves w r next
    leaves = word-leaves w x r runs

    -- the hints, the filled reads and the descriptors stay
    pub stays : HintsStay r next
    stays = word-hints_stay w x r runs quiet

    -- an arrival is counted
    pub counted : {p base : ℕ} {pt : Point} → Arrives p base pt → next.since.shadow ≡ suc r.since.shadow
    counted {p} at = leaves.arrives at.shown.running (ap (is_arrival l) (at.shown.pc ∙ at.place) ∙ block-arrives w a p at.block) ∙ omega arith

    -- what the shadow sees, where nothing that is shared has changed
    pub view-stays : next.shared ≡ r.shared → view_in next ≡ view_in r
    view-stays e = ap₂ (λ (shared memory : Memory). shadowed shared memory) e (ap (λ own. own.memory) leaves.own)

    -- settled bytes still have copies
    pub copied-stays : (c : ℕ) → KeepsCopies l r.shared next.shared → AreCopied w r c → AreCopied w next c
    copied-stays c keeps = copied-kept w r next leaves.origin stays.filled c (λ region few some. subst (λ n. 0 < n) (sym (keeps region few some)) some)

  -- each copy is kept where nothing that is shared has changed
  pub keeps-all : next.shared ≡ r.shared → KeepsCopies l r.shared next.shared
  keeps-all e region less some = ap (λ (shared : Memory). entry_of shared region) e

  -- ---- behind a call

  -- what an arrival behind a call comes from
  abbrev HasReturned : (old m : Memory) (target : ℕ) (rs : Regs) → Doing → Type 0
  HasReturned old m target rs (goes_to to g) = (target ≡ to) × (rs ≡ g) × (m ≡ old)
  HasReturned old m target rs _ = ⊤

  -- so it is
  has-returned : {bytes : ℕ → Option ℕ} {program old m : Memory} {target : ℕ} {rs : Regs} {t : Tabs} {d : Doing} → Comes l bytes program old target rs t m d → HasReturned old m target rs d
  has-returned (flows arrives e) = tt
  has-returned (loads arrives e) = tt
  has-returned (stores t0 arrives keeps) = tt
  has-returned (returns target rs e) = (target, rs, e)

  -- it stands for the state behind the call
  pub returned : {s : ℕ} {m : Marks} {q : State} {to : ℕ} {g : Regs} {program : Memory} {n : ℕ} {bytes : ℕ → Option ℕ} {p base : ℕ} {pt : Point} → Behind w r s m q to g program n → Arrives p base pt
      → Comes l bytes (program_in w r) r.shared p pt.regs pt.tabs next.shared (goes_to to g) → IsQuiet w r → Followed w next
  returned {s} {m} {q} {to} {g} {p = p} {pt = pt} v at comes quiet = follows-there stands (v.target ∙ sym came.0) at
    where
      came : (p ≡ to) × (pt.regs ≡ g) × (next.shared ≡ r.shared)
      came = has-returned comes

      runs : r.shadow.state ≡ Running
      runs = within-running v.within

      stands : StandsAt (suc s) m q pt
      stands =
          record {
            some = omega arith;
            count = counted runs quiet at ∙ ap suc v.count;
            marked = same-marks w r next (leaves runs quiet).origin (stays runs quiet).filled (suc s) ∙ v.marked;
            state = from_restart-origin w r next (leaves runs quiet).origin (suc s) ∙ v.state;
            goes_on = v.goes_on;
            agrees = subst (λ (y : Regs). Agrees m (registers y) q) (sym came.1) v.agrees;
            files = (stays runs quiet).files ∙ v.files;
            sees = subst (λ (y : Memory). SeesAlike l m y q) (sym (view-stays runs quiet came.2)) v.sees;
            copied = copied-stays runs quiet (suc s) (keeps-all came.2) v.copied;
            filled = filled-same r next (stays runs quiet).filled (suc s) v.filled;
            hints = (stays runs quiet).hints ∙ v.hints ∙ sym (reads-origin w r next (leaves runs quiet).origin (suc s));
          }

  -- ---- behind a call that is a use

  -- an arrival there isn't before the first use
  pub strayed : {s : ℕ} {bytes : ℕ → Option ℕ} {program : Memory} {to : ℕ} {g : Regs} {n : ℕ} {p base : ℕ} {pt : Point} → Strays w r s bytes program to g n → Arrives p base pt → IsQuiet w r
      → IsTrue (before_use w next next.since.shadow) → Followed w next
  strayed {s} v at quiet before =
      let runs : r.shadow.state ≡ Running = within-running v.within in
      let count : next.since.shadow ≡ suc s = counted runs quiet at ∙ ap suc v.count in
      false_true (sym v.used ∙ sym (same-use w r next (leaves runs quiet).origin (stays runs quiet).filled (suc s)) ∙ sym (ap (before_use w next) count) ∙ before)
