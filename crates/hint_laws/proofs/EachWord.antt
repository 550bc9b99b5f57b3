-- Each word of a shadow that follows keeps it following.
use Rattle.std.proofs.Common.{◌≡◌, ℕ, inl, ℤ, Option, Some, ap, sym, subst}
use Rattle.std.specs.Prelude.{IsTrue}
use Rattle.spec_base.specs.declared.layout.Layout.{Layout}
use Rattle.rv_decode.specs.declared.instr.Instr.TheVariants.{Load}
use Rattle.rv_decode.specs.declared.instr.LoadOp.{LoadOp}
use Rattle.rv_model.specs.Memory.{Memory}
use Rattle.program_model.specs.PlainRun.{State}
use Rattle.run_model.specs.Run.{World, Run, Answer, rewritten_words}
use Rattle.run_model.specs.ShadowMoves.{shadow_step}
use Rattle.run_model.specs.Restarts.{from_restart}
use Rattle.run_model.specs.Marks.{Marks, before_use}
use Rattle.run_laws.specs.OwnLaws.{Accepted}
use Rattle.side_model.specs.Hart.{Regs}
use Rattle.side_model.specs.Sees.{shade_of}
use Rattle.shadow_laws.proofs.ShadowNumbers.{Sized, stock_of}
use Rattle.mark_laws.specs.Sizes.{TrueSizes}
use Rattle.hint_laws.proofs.Within.{AreSeen, Doing, does, goes_to, Within}
use Rattle.hint_laws.proofs.WithinSteps.{Leads, goes, turns, reaches, halts, within-leads}
use Rattle.hint_laws.proofs.Followed.{known, program_in, is_storing, is_restart, Works, Behind, Strays, Followed, works, behind, strays, rests}
use Rattle.hint_laws.proofs.Views.{are-seen}
use Rattle.hint_laws.proofs.Arriving.{returned, strayed}
use Rattle.hint_laws.proofs.Reaching.{reached}
use Rattle.hint_laws.proofs.Going.{gone, gone-behind, gone-strays, halted, resting}
use Rattle.hint_laws.proofs.Turning.{turned}

module _ (w : World) (a : Accepted w) (x : Answer) (r : Run) (z : Sized (stock_of r)) (sizes : (q : State) → from_restart w r r.since.shadow ≡ Some q → TrueSizes w.files q.files) where
  abbrev l : Layout
  l = w.image.layout

  abbrev next : Run
  next = shadow_step w x r

  -- in a world with one program in memory
  here : {bytes : ℕ → Option ℕ} {program : Memory} {d : Doing} {n : ℕ} → program_in w r ≡ program → Within w bytes program d (shade_of r) n → Within w bytes (program_in w r) d (shade_of r) n
  here {bytes} {program} {d} {n} e within = subst (λ (p : Memory). Within w bytes p d (shade_of r) n) (sym e) within

  -- on an instruction
  works-word : (s : ℕ) (m : Marks) (q : State) (program : Memory) (d : Doing) (n : ℕ) → Works w r s m q program d n → IsTrue (before_use w next next.since.shadow) → Followed w next
  works-word s m q program d n k free = by_lead (within-leads w a x r z (known l m q) sees (here k.program_is k.within))
    where
      sees : (p rd rs1 : ℕ) (op : LoadOp) (imm : ℤ) (g : Regs) → d ≡ does p (Load op rd rs1 imm) g → AreSeen l (known l m q) (program_in w r) r.shared
      sees p rd rs1 op imm g e = are-seen l m (rewritten_words w) r.own.memory r.shared q (k.sees (ap is_restart e) (inl (ap is_storing e)))

      by_lead : Leads w (known l m q) (program_in w r) d n r (shade_of next) → Followed w next
      by_lead (goes j less within leaves inner quiet) = works s m q (program_in w r) d j (gone w a x r k within leaves inner quiet)
      by_lead (turns j less to new turn within inner) = turned w a x r sizes k to new turn within inner
      by_lead (reaches p base pt b e ok shown comes quiet) = reached w a x r k (record { block = b; place = e; ok = ok; shown = shown }) comes quiet free
      by_lead (halts cause state t has ok why) = halted w a x r cause state (works s m q program d n k)

  -- no load is at hand behind a call
  not-load : (bytes : ℕ → Option ℕ) (to : ℕ) (new : Regs) (p rd rs1 : ℕ) (op : LoadOp) (imm : ℤ) (g : Regs) → goes_to to new ≡ does p (Load op rd rs1 imm) g → AreSeen l bytes (program_in w r) r.shared
  not-load bytes to new p rd rs1 op imm g e = absurd (no e)
    where
      no : goes_to to new ≡ does p (Load op rd rs1 imm) g → ⊥
      no e = cc

  -- behind a call
  behind-word : (s : ℕ) (m : Marks) (q : State) (to : ℕ) (g : Regs) (program : Memory) (n : ℕ) → Behind w r s m q to g program n → Followed w next
  behind-word s m q to g program n k = by_lead (within-leads w a x r z (known l m q) (not-load (known l m q) to g) (here k.program_is k.within))
    where
      by_lead : Leads w (known l m q) (program_in w r) (goes_to to g) n r (shade_of next) → Followed w next
      by_lead (goes j less within leaves inner quiet) = behind s m q to g (program_in w r) j (gone-behind w a x r k less within leaves inner quiet)
      by_lead (turns j less there new turn within inner) = elim turn [ ]
      by_lead (reaches p base pt b e ok shown comes quiet) = returned w a x r k (record { block = b; place = e; ok = ok; shown = shown }) comes quiet
      by_lead (halts cause state t has ok why) = halted w a x r cause state (behind s m q to g program n k)

  -- behind a call that is a use
  strays-word : (s : ℕ) (bytes : ℕ → Option ℕ) (program : Memory) (to : ℕ) (g : Regs) (n : ℕ) → Strays w r s bytes program to g n → IsTrue (before_use w next next.since.shadow) → Followed w next
  strays-word s bytes program to g n k free = by_lead (within-leads w a x r z bytes (not-load bytes to g) (here k.program_is k.within))
    where
      by_lead : Leads w bytes (program_in w r) (goes_to to g) n r (shade_of next) → Followed w next
      by_lead (goes j less within leaves inner quiet) = gone-strays w a x r k less within
      by_lead (turns j less there new turn within inner) = elim turn [ ]
      by_lead (reaches p base pt b e ok shown comes quiet) = strayed w a x r k (record { block = b; place = e; ok = ok; shown = shown }) quiet free
      by_lead (halts cause state t has ok why) = halted w a x r cause state (strays s bytes program to g n k)

  -- in each way
  pub word-followed : Followed w r → IsTrue (before_use w next next.since.shadow) → Followed w next
  word-followed (works s m q program d n k) free = works-word s m q program d n k free
  word-followed (behind s m q to g program n k) free = behind-word s m q to g program n k
  word-followed (strays s bytes program to g n k) free = strays-word s bytes program to g n k free
  word-followed (rests k) free = resting w a x r k
