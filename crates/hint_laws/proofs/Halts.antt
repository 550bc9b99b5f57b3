-- A shadow that follows the run is at rest where it ceases to run: at the word at hand, or behind an HPARK.
use Rattle.std.proofs.Common.{◌≡◌, ℕ, suc, ◌⊎◌, inl, inr, true, false, Option, ◌∙◌, ap, sym}
use Rattle.std.specs.Prelude.{◌≢◌}
use Rattle.spec_base.specs.declared.note.ShadowState.TheVariants.{Running}
use Rattle.rv_model.specs.Memory.{Memory}
use Rattle.program_model.specs.PlainRun.{State}
use Rattle.run_model.specs.Run.{World, Run}
use Rattle.run_model.specs.ShadowMoves.{is_arrival}
use Rattle.run_model.specs.Restarts.{reads, before_horizon}
use Rattle.run_model.specs.Marks.{Marks, before_use}
use Rattle.run_laws.specs.HintLaws.{is_behind_call, hinted_up_to}
use Rattle.run_laws.specs.OwnLaws.{Accepted}
use Rattle.own_laws.proofs.Reached.{false_true}
use Rattle.side_model.specs.Hart.{Regs}
use Rattle.hint_laws.proofs.Within.{Doing}
use Rattle.hint_laws.proofs.Followed.{Works, Behind, Strays, Stands, Rests, Followed, works, behind, strays, rests}
use Rattle.hint_laws.proofs.Spots.{inner-arrival, within-whole, works-call, works-stands}
use Rattle.hint_laws.proofs.Transport.{SameBut, same-hints, same-use, same-horizon, rests-same, hinted-off, hinted-on, no-reads, stands-same}

-- ---- where it is left

-- at the word at hand; or at no arrival and behind no call, where the word at hand is behind no call
pub data LeftAt (w : World) (r y : Run) : Type 0 where
  here : y.shadow.pc ≡ r.shadow.pc → LeftAt w r y
  off : is_arrival w.image.layout y.shadow.pc ≡ false → is_behind_call w y.shadow.pc ≡ false → is_behind_call w r.shadow.pc ≡ false → LeftAt w r y

module _ (w : World) (a : Accepted w) (r y : Run) (e : SameBut r y) (left : LeftAt w r y) (still : y.shadow.state ≢ Running) where
  -- a shadow whose hints are the reads rests
  truly : y.since.hints ≡ reads w y (hinted_up_to w y) → (is_arrival w.image.layout y.shadow.pc ≡ true → (q : State) × Stands w y q) → Rests w y
  truly h stands = record { still = still; hints = λ before. h; horizon = λ before. h; stands = stands }

  -- one that works on an instruction
  pub works-rests : {s : ℕ} {m : Marks} {q : State} {program : Memory} {d : Doing} {n : ℕ} → Works w r s m q program d n → Rests w y
  works-rests {s} {m} {q} {program} {d} {n} x = truly (same-hints w r y e s (hinted_up_to w y) (hinted-off w y (no_call left) ∙ e.count ∙ x.count) x.hints) (λ h. by_left left h)
    where
      no_call : LeftAt w r y → is_behind_call w y.shadow.pc ≡ false
      no_call (here pc) = ap (is_behind_call w) pc ∙ works-call w a x
      no_call (off arrives call before) = call

      by_left : LeftAt w r y → is_arrival w.image.layout y.shadow.pc ≡ true → (q : State) × Stands w y q
      by_left (here pc) h = let was : is_arrival w.image.layout r.shadow.pc ≡ true = ap (is_arrival w.image.layout) (sym pc) ∙ h in (q, stands-same w r y e pc q (works-stands w a x was))
      by_left (off arrives call before) h = false_true (sym arrives ∙ h)

  -- one behind a call
  pub behind-rests : {s : ℕ} {m : Marks} {q : State} {to : ℕ} {g : Regs} {program : Memory} {n : ℕ} → Behind w r s m q to g program n → Rests w y
  behind-rests {s} {m} {q} {to} {g} {program} {n} x = truly (by_turn left x.turn) (λ h. false_true (sym (no_arrival left) ∙ h))
    where
      no_arrival : LeftAt w r y → is_arrival w.image.layout y.shadow.pc ≡ false
      no_arrival (here pc) = ap (is_arrival w.image.layout) pc ∙ inner-arrival w a (within-whole x.within) x.place
      no_arrival (off arrives call before) = arrives

      count : y.since.shadow ≡ s
      count = e.count ∙ x.count

      by_turn : LeftAt w r y → (is_behind_call w r.shadow.pc ≡ true) ⊎ ((is_behind_call w r.shadow.pc ≡ false) × (s ≡ 0)) → y.since.hints ≡ reads w y (hinted_up_to w y)
      by_turn (here pc) (inl on) = same-hints w r y e (suc s) (hinted_up_to w y) (hinted-on w y (ap (is_behind_call w) pc ∙ on) ∙ ap suc count) x.hints
      by_turn (here pc) (inr (call, none)) = same-hints w r y e s (hinted_up_to w y) (hinted-off w y (ap (is_behind_call w) pc ∙ call) ∙ count) (x.hints ∙ sym (no-reads w r r s none))
      by_turn (off arrives call before) (inl on) = false_true (sym before ∙ on)
      by_turn (off arrives call before) (inr (same, none)) = same-hints w r y e s (hinted_up_to w y) (hinted-off w y call ∙ count) (x.hints ∙ sym (no-reads w r r s none))

  -- one behind a call that is a use
  pub strays-rests : {s : ℕ} {bytes : ℕ → Option ℕ} {program : Memory} {to : ℕ} {g : Regs} {n : ℕ} → Strays w r s bytes program to g n → Rests w y
  strays-rests {s} {bytes} {program} {to} {g} {n} x = by_left left
    where
      by_left : LeftAt w r y → Rests w y
      by_left (off arrives call before) = false_true (sym before ∙ x.behind)
      by_left (here pc) =
          let up_to : hinted_up_to w y ≡ suc s = hinted-on w y (ap (is_behind_call w) pc ∙ x.behind) ∙ ap suc (e.count ∙ x.count) in
          record {
            still = still;
            hints = λ h. false_true (sym (ap (before_use w y) up_to ∙ same-use w r y e.origin e.filled (suc s) ∙ x.used) ∙ h);
            horizon = λ h. same-hints w r y e (suc s) (hinted_up_to w y) up_to (x.hints (sym (same-horizon w r y e.origin e.filled s) ∙ ap (before_horizon w y) (sym (e.count ∙ x.count)) ∙ h));
            stands = λ h. false_true (sym (ap (is_arrival w.image.layout) pc ∙ inner-arrival w a (within-whole x.within) x.place) ∙ h);
          }

-- ---- a shadow that is stopped

-- a shadow that is stopped where it is rests
pub stopped : (w : World) → Accepted w → (r y : Run) → SameBut r y → y.shadow.pc ≡ r.shadow.pc → y.shadow.state ≢ Running → Followed w r → Rests w y
stopped w a r y e pc still (works s m q program d n x) = works-rests w a r y e (here pc) still x
stopped w a r y e pc still (behind s m q to g program n x) = behind-rests w a r y e (here pc) still x
stopped w a r y e pc still (strays s bytes program to g n x) = strays-rests w a r y e (here pc) still x
stopped w a r y e pc still (rests x) = rests-same w r y e pc still x
