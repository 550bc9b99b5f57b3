-- What is said of a run whose shadow follows rests on the restart, the filled reads, the counts and hints, the shadow, and what is shared: it is so of each run that has the same.
use Rattle.std.proofs.Common.{◌≡◌, ℕ, suc, ◌+◌, ◌/◌, ◌<◌, true, false, List, refl, ◌∙◌, ap, ap₂, sym, subst, zero, Bool, arith}
use Rattle.std.specs.Prelude.{◌≢◌, if◌then◌else◌}
use Rattle.spec_base.specs.Listed.{is_listed}
use Rattle.spec_base.specs.declared.note.ShadowState.TheVariants.{Running}
use Rattle.rv_model.specs.Memory.{Memory}
use Rattle.program_model.specs.PlainRun.{State}
use Rattle.code_model.specs.Regions.{entry_of, shadowed}
use Rattle.run_model.specs.Run.{World, Run}
use Rattle.run_model.specs.ShadowMoves.{is_arrival}
use Rattle.run_model.specs.Restarts.{from_restart, reads, before_horizon}
use Rattle.run_model.specs.Marks.{Marks, marks, before_use}
use Rattle.run_laws.specs.HintLaws.{is_behind_call, hinted_up_to}
use Rattle.code_model.specs.Tables.{all_regions}
use Rattle.side_model.specs.Sees.{HasRegs}
use Rattle.mark_laws.specs.Agreement.{Agrees, SeesAlike}
use Rattle.mark_laws.specs.Settled.{settled_with}
use Rattle.mark_laws.proofs.Numbers.{alike-same, from_restart-origin, reads-origin, marks_with-alike, settled_with-alike, before_use_with-so_far, before_horizon-so_far}
use Rattle.hint_laws.proofs.Within.{Doing}
use Rattle.hint_laws.proofs.WithinSteps.{Inner}
use Rattle.hint_laws.proofs.Followed.{regs_of, view_in, AreCopied, FilledUpTo, Spot, first, inner, Stands, Rests}

-- ---- runs of which the same is said

-- two runs have the same restart, filled reads, counts and hints, the same registers, descriptors and copies of the shadow, and the same memory of the own hart: all that is said of a run, but where its shadow is, and whether it runs
pub record SameBut (r y : Run) : Type 0 where
  pub origin : y.since.origin ≡ r.since.origin
  pub filled : y.since.filled ≡ r.since.filled
  pub count : y.since.shadow ≡ r.since.shadow
  pub hints : y.since.hints ≡ r.since.hints
  pub registers : y.shadow.registers ≡ r.shadow.registers
  pub files : y.shadow.files ≡ r.shadow.files
  pub shared : y.shared ≡ r.shared
  pub memory : y.own.memory ≡ r.own.memory

-- ---- the run from the restart

module _ (w : World) (r y : Run) (origin : y.since.origin ≡ r.since.origin) (filled : y.since.filled ≡ r.since.filled) (i : ℕ) where
  -- the same marks, by the filled reads
  pub same-marks : marks w y i ≡ marks w r i
  same-marks = marks_with-alike w r y r.since.filled y.since.filled i (alike-same i r y origin filled)

  -- the same settled bytes
  pub same-settled : (x : ℕ) → settled_with y.since.filled w y i x ≡ settled_with r.since.filled w r i x
  same-settled = settled_with-alike w r y r.since.filled y.since.filled i (alike-same i r y origin filled)

  -- the same uses
  pub same-use : before_use w y i ≡ before_use w r i
  same-use = before_use_with-so_far w r y r.since.filled y.since.filled i (alike-same i r y origin filled)

  -- the same horizon
  pub same-horizon : before_horizon w y i ≡ before_horizon w r i
  same-horizon = before_horizon-so_far w r y i (alike-same i r y origin filled)

-- a shadow at the same place with the same registers is at the same spot
pub spot-same : {w : World} {r y : Run} {q : State} {d : Doing} → y.shadow.pc ≡ r.shadow.pc → y.shadow.registers ≡ r.shadow.registers → Spot w r q d → Spot w y q d
spot-same {w} {d = d} pc registers (first at regs other) = first (pc ∙ at) (subst (λ rs. HasRegs rs (regs_of d)) (sym registers) regs) other
spot-same {w} {d = d} pc registers (inner here) = inner (subst (λ (pc : ℕ). Inner w.image.layout pc d) (sym pc) here)

-- the settled bytes are copied where each copy stays
pub copied-kept : (w : World) (r y : Run) → y.since.origin ≡ r.since.origin → y.since.filled ≡ r.since.filled → (i : ℕ)
    → ((region : ℕ) → region < all_regions w.image.layout → 0 < entry_of r.shared region → 0 < entry_of y.shared region) → AreCopied w r i → AreCopied w y i
copied-kept w r y origin filled i kept copied x h =
    let c : (x / 256 < all_regions w.image.layout) × (0 < entry_of r.shared (x / 256)) = copied x (sym (same-settled w r y origin filled i x) ∙ h) in
    (c.0, kept (x / 256) c.0 c.1)

-- no read more is filled
pub filled-same : (r y : Run) → y.since.filled ≡ r.since.filled → (i : ℕ) → FilledUpTo r i → FilledUpTo y i
filled-same r y e i f k above = ap (λ (numbers : List ℕ). is_listed numbers k) e ∙ f k above

-- up to where the hints reach
pub hinted-by : (w : World) (r y : Run) → y.shadow.pc ≡ r.shadow.pc → y.since.shadow ≡ r.since.shadow → hinted_up_to w y ≡ hinted_up_to w r
hinted-by w r y pc count = ap₂ (λ (pc n : ℕ). if is_behind_call w pc then n + 1 else n) pc count

-- they reach to the shadow's arrivals where it is behind no call
pub hinted-off : (w : World) (r : Run) → is_behind_call w r.shadow.pc ≡ false → hinted_up_to w r ≡ r.since.shadow
hinted-off w r h = ap (λ (b : Bool). if b then r.since.shadow + 1 else r.since.shadow) h

-- and one further behind a call
pub hinted-on : (w : World) (r : Run) → is_behind_call w r.shadow.pc ≡ true → hinted_up_to w r ≡ suc r.since.shadow
hinted-on w r h = ap (λ (b : Bool). if b then r.since.shadow + 1 else r.since.shadow) h ∙ omega arith

-- the first instruction gives no hint
pub no-reads : (w : World) (r y : Run) (i : ℕ) → i ≡ 0 → reads w r i ≡ reads w y (suc i)
unfolding reads
no-reads w r y zero e = refl
no-reads w r y (suc i) e = absurd (omega (arith, e))

-- ---- each way

module _ (w : World) (r y : Run) (e : SameBut r y) where
  -- what the shadow has in place of the program's memory
  pub same-view : view_in y ≡ view_in r
  same-view = ap₂ shadowed e.shared e.memory

  -- the settled bytes are copied
  pub same-copied : (i : ℕ) → AreCopied w r i → AreCopied w y i
  same-copied i = copied-kept w r y e.origin e.filled i (λ region few some. subst (λ (m : Memory). 0 < entry_of m region) (sym e.shared) some)

  -- the hints are the reads of the run from the restart up to the same instruction
  pub same-hints : (i j : ℕ) → j ≡ i → r.since.hints ≡ reads w r i → y.since.hints ≡ reads w y j
  same-hints i j is h = e.hints ∙ h ∙ sym (reads-origin w r y e.origin i) ∙ ap (reads w y) (sym is)

  -- the marks after the shadow's arrivals
  pub same-marked : marks w y y.since.shadow ≡ marks w r r.since.shadow
  same-marked = ap (marks w y) e.count ∙ same-marks w r y e.origin e.filled r.since.shadow

  -- and the state
  pub same-state : from_restart w y y.since.shadow ≡ from_restart w r r.since.shadow
  same-state = ap (from_restart w y) e.count ∙ from_restart-origin w r y e.origin r.since.shadow

  module _ (pc : y.shadow.pc ≡ r.shadow.pc) where
    -- a shadow at the same place stands for the same state
    pub stands-same : (q : State) → Stands w r q → Stands w y q
    stands-same q s =
        record {
          state = same-state ∙ s.state;
          inside = s.inside;
          place = pc ∙ s.place;
          agrees = subst (λ (m : Marks). Agrees m y.shadow.registers q) (sym same-marked) (subst (λ rs. Agrees (marks w r r.since.shadow) rs q) (sym e.registers) s.agrees);
          files = e.files ∙ s.files;
          sees = subst (λ (m : Marks). SeesAlike w.image.layout m (view_in y) q) (sym same-marked)
              (subst (λ (v : Memory). SeesAlike w.image.layout (marks w r r.since.shadow) v q) (sym same-view) s.sees);
          copied = subst (AreCopied w y) (sym e.count) (same-copied r.since.shadow s.copied);
        }

    -- and rests in the same way, where it doesn't run
    pub rests-same : y.shadow.state ≢ Running → Rests w r → Rests w y
    rests-same still s =
        let is : hinted_up_to w y ≡ hinted_up_to w r = hinted-by w r y pc e.count in
        record {
          still = still;
          hints = λ h. same-hints (hinted_up_to w r) (hinted_up_to w y) is (s.hints (sym (same-use w r y e.origin e.filled (hinted_up_to w r)) ∙ ap (before_use w y) (sym is) ∙ h));
          horizon = λ h. same-hints (hinted_up_to w r) (hinted_up_to w y) is (s.horizon (sym (same-horizon w r y e.origin e.filled r.since.shadow) ∙ ap (before_horizon w y) (sym e.count) ∙ h));
          stands = λ h. let f : (q : State) × Stands w r q = s.stands (ap (is_arrival w.image.layout) (sym pc) ∙ h) in (f.0, stands-same f.0 f.1);
        }
