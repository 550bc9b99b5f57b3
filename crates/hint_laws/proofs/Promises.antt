-- What is promised of hints and of the shadow at word 1 of a block, of each run whose shadow follows.
use Rattle.std.proofs.Common.{◌≡◌, ℕ, suc, ◌⊎◌, inl, inr, true, false, Some, ◌∙◌, ap, sym, subst}
use Rattle.std.specs.Prelude.{IsTrue}
use Rattle.spec_base.specs.declared.layout.Layout.{Layout}
use Rattle.program_model.specs.PlainRun.{State}
use Rattle.run_model.specs.Run.{World, Run}
use Rattle.run_model.specs.ShadowMoves.{is_arrival}
use Rattle.run_model.specs.Restarts.{from_restart, nothing, reads, unfilled, before_horizon}
use Rattle.run_model.specs.Marks.{Marks, marks, before_use}
use Rattle.run_laws.specs.HintLaws.{is_behind_call, hinted_up_to, StandsFor, FollowsUntilUse}
use Rattle.run_laws.specs.OwnLaws.{Accepted}
use Rattle.own_laws.proofs.Reached.{false_true}
use Rattle.side_model.specs.Hart.{Regs}
use Rattle.mark_laws.proofs.Horizons.{no_register-marked, marked-unfilled}
use Rattle.hint_laws.proofs.Within.{Doing}
use Rattle.hint_laws.proofs.Spots.{within-whole, inner-arrival, works-call, works-stands}
use Rattle.hint_laws.proofs.Followed.{Works, Behind, Stands, Followed, works, behind, strays, rests}
use Rattle.hint_laws.proofs.Transport.{hinted-off, hinted-on, no-reads}

module _ (w : World) (a : Accepted w) (r : Run) where
  abbrev l : Layout
  l = w.image.layout

  abbrev pc : ℕ
  pc = r.shadow.pc

  -- ---- hints

  -- the hints are the reads up to an instruction
  abbrev HintsReach : ℕ → Type 0
  HintsReach i = r.since.hints ≡ reads w r i

  -- those of a shadow on an instruction
  works-hints : (s : ℕ) (m : Marks) (q : State) (program : ℕ → ℕ) (d : Doing) (n : ℕ) → Works w r s m q program d n → HintsReach (hinted_up_to w r)
  works-hints s m q program d n k = subst HintsReach (sym (hinted-off w r (works-call w a k) ∙ k.count)) k.hints

  -- those of a shadow behind a call; behind RESTART's there is none yet
  behind-hints : (s : ℕ) (m : Marks) (q : State) (to : ℕ) (g : Regs) (program : ℕ → ℕ) (n : ℕ) → Behind w r s m q to g program n → HintsReach (hinted_up_to w r)
  behind-hints s m q to g program n k = by_turn k.turn
    where
      by_turn : (is_behind_call w pc ≡ true) ⊎ ((is_behind_call w pc ≡ false) × (s ≡ 0)) → HintsReach (hinted_up_to w r)
      by_turn (inl e) = subst HintsReach (sym (hinted-on w r e ∙ ap suc k.count)) k.hints
      by_turn (inr (e, none)) = subst HintsReach (sym (hinted-off w r e ∙ k.count)) (k.hints ∙ sym (no-reads w r r s none))

  -- as long as no use comes before
  pub until-use : Followed w r → IsTrue (before_use w r (hinted_up_to w r)) → HintsReach (hinted_up_to w r)
  until-use (works s m q program d n k) free = works-hints s m q program d n k
  until-use (behind s m q to g program n k) free = behind-hints s m q to g program n k
  until-use (strays s bytes program to g n k) free =
      let at : hinted_up_to w r ≡ suc s = hinted-on w r k.behind ∙ ap suc k.count in false_true (sym k.used ∙ ap (before_use w r) (sym at) ∙ free)
  until-use (rests k) free = k.hints free

  -- and before the horizon
  pub before-horizon : Followed w r → IsTrue (before_horizon w r r.since.shadow) → HintsReach (hinted_up_to w r)
  before-horizon (works s m q program d n k) free = works-hints s m q program d n k
  before-horizon (behind s m q to g program n k) free = behind-hints s m q to g program n k
  before-horizon (strays s bytes program to g n k) free =
      subst HintsReach (sym (hinted-on w r k.behind ∙ ap suc k.count)) (k.hints (subst (λ (i : ℕ). IsTrue (before_horizon w r i)) k.count free))
  before-horizon (rests k) free = k.horizon free

  -- ---- word 1 of a block

  -- where the shadow stands for a state
  pub stands : Followed w r → is_arrival l pc ≡ true → (q : State) × Stands w r q
  stands (works s m q program d n k) e = (q, works-stands w a k e)
  stands (behind s m q to g program n k) e = false_true (sym (inner-arrival w a (within-whole k.within) k.place) ∙ e)
  stands (strays s bytes program to g n k) e = false_true (sym (inner-arrival w a (within-whole k.within) k.place) ∙ e)
  stands (rests k) e = k.stands e

  -- the same in the words of the promise
  stands-for : (q : State) → Stands w r q → StandsFor w r (marks w r r.since.shadow).registers (marks w r r.since.shadow).bytes q
  stands-for q s = record { inside = s.inside; place = s.place; registers = s.agrees.registers; files = s.files; bytes = s.sees.bytes }

  -- until the first use
  pub follows_until_use : Followed w r → FollowsUntilUse w r
  follows_until_use f = record { hints = until-use f; follows = λ e. let s = stands f e in (s.0, s.1.state, stands-for s.0 s.1) }

  -- before the horizon no register is marked, and the marked bytes are the unfilled ones
  pub follows : Followed w r → IsTrue (before_horizon w r r.since.shadow) → IsTrue (is_arrival l pc) → (q : State) × (from_restart w r r.since.shadow ≡ Some q) × StandsFor w r nothing (unfilled w r r.since.shadow) q
  follows f free e =
      let s = stands f e in
      let i : ℕ = r.since.shadow in (
        s.0,
        s.1.state,
        record {
          inside = s.1.inside;
          place = s.1.place;
          registers = λ k some few apart. s.1.agrees.registers k some few (no_register-marked w r i free k);
          files = s.1.files;
          bytes = λ b is_in apart. s.1.sees.bytes b is_in (marked-unfilled w r i free b ∙ apart);
        },
      )
