-- A shadow that follows the run goes on following it by each word between two arrivals that is no HCALL, and where it parks.
use Rattle.std.proofs.Common.{◌≡◌, ℕ, zero, suc, ◌+◌, ◌/◌, ◌%◌, ◌<◌, ◌⊎◌, inl, inr, Bool, true, false, Option, refl, ◌∙◌, ap, sym, subst, arith}
use Rattle.std.specs.Prelude.{◌≢◌}
use Rattle.spec_base.specs.declared.layout.Layout.{Layout}
use Rattle.spec_base.specs.declared.note.ShadowState.TheVariants.{Running, Parked}
use Rattle.spec_base.specs.declared.park.Park.{Park}
use Rattle.rv_model.specs.Memory.{Memory}
use Rattle.rv_model.specs.Space.{program_byte}
use Rattle.program_model.specs.PlainRun.{State}
use Rattle.code_model.specs.Regions.{entry_of, slot_address, byte_by_entry, shadowed}
use Rattle.run_model.specs.Run.{World, Run, Answer, rewritten_words}
use Rattle.run_model.specs.ShadowMoves.{is_arrival, shadow_step}
use Rattle.run_model.specs.Marks.{Marks}
use Rattle.run_laws.specs.HintLaws.{is_behind_call}
use Rattle.run_laws.specs.OwnLaws.{Accepted}
use Rattle.own_laws.proofs.Reached.{false_true}
use Rattle.side_model.specs.Hart.{Regs}
use Rattle.side_model.specs.Sees.{shade_of}
use Rattle.code_model.specs.Tables.{all_regions}
use Rattle.shadow_laws.proofs.AnyCalls.{LeavesTables}
use Rattle.shadow_laws.proofs.ShadowRuns.{resting-stays}
use Rattle.shadow_laws.proofs.Sound.{parked_running}
use Rattle.shadow_laws.proofs.SoundSteps.{entry-kept}
use Rattle.mark_laws.specs.Agreement.{SeesAlike}
use Rattle.mark_laws.specs.Settled.{settled_with}
use Rattle.mark_laws.proofs.Numbers.{from_restart-origin, reads-origin}
use Rattle.mark_laws.proofs.OneInstruction.{true_false}
use Rattle.hint_laws.proofs.Within.{Doing, goes_to, Within, within-running}
use Rattle.hint_laws.proofs.WithinSteps.{Leaves, all, tables, copies, clears, Inner, IsQuiet}
use Rattle.hint_laws.proofs.Followed.{known, program_in, view_in, AreCopied, is_storing, is_restart, inner, Works, Behind, Strays, Rests, Followed, works, behind, strays, rests}
use Rattle.hint_laws.proofs.WordFacts.{WordLeaves, HintsStay, Parks, ParkedAt, word-leaves, word-hints_stay, word-parks}
use Rattle.hint_laws.proofs.WordFacts as park_at
use Rattle.hint_laws.proofs.ParkPlaces.{IsBehindPark, behind-park, park-place}
use Rattle.hint_laws.proofs.Spots.{inner-arrival, within-whole, park-call, going-some, going-last}
use Rattle.hint_laws.proofs.Transport.{SameBut, copied-kept, filled-same, same-marks, same-use}
use Rattle.hint_laws.proofs.Halts.{LeftAt, here, off, works-rests, behind-rests, strays-rests}

-- ---- what the shadow has in place of the program's memory

-- what is seen of a byte stays where the copies do
tables-byte : (old new : Memory) → LeavesTables old new → (program : Memory) (a entry : ℕ) → byte_by_entry entry new program a ≡ byte_by_entry entry old program a
tables-byte old new same program a zero = refl
tables-byte old new same program a (suc slot) = same (slot_address slot + a % 256) (omega arith)

-- a word between two arrivals, but in a store and before RESTART's HCALL, leaves what the shadow has in place of a byte
view-kept : {l : Layout} {old new : Memory} {d : Doing} → Leaves l old new d → is_restart d ≡ false → is_storing d ≡ false → (program : Memory) (a : ℕ) → shadowed new program a ≡ shadowed old program a
unfolding shadowed
view-kept (all e) other quiet program a = ap (λ (m : Memory). shadowed m program a) e
view-kept {old = old} {new = new} (tables same) other quiet program a =
    ap (λ (entry : ℕ). byte_by_entry entry new program a) (entry-kept old new same (a / 256)) ∙ tables-byte old new same program a (entry_of old (a / 256))
view-kept (copies kept) other quiet program a = true_false quiet
view-kept clears other quiet program a = true_false other

-- and each copy, but before RESTART's HCALL
copy-kept : {l : Layout} {old new : Memory} {d : Doing} → Leaves l old new d → is_restart d ≡ false → (region : ℕ) → region < all_regions l → 0 < entry_of old region → 0 < entry_of new region
copy-kept (all e) other region few some = subst (λ (m : Memory). 0 < entry_of m region) (sym e) some
copy-kept {old = old} {new = new} (tables same) other region few some = subst (λ (entry : ℕ). 0 < entry) (sym (entry-kept old new same region)) some
copy-kept (copies kept) other region few some = subst (λ (entry : ℕ). 0 < entry) (sym (kept region few some)) some
copy-kept clears other region few some = true_false other

-- no instruction has settled a byte
none-copied : (w : World) (r : Run) (i : ℕ) → i ≡ 0 → AreCopied w r i
unfolding settled_with
none-copied w r zero e x h = false_true h
none-copied w r (suc i) e x h = absurd (omega (arith, e))

-- ---- a word between two arrivals

module _ (w : World) (a : Accepted w) (x : Answer) (r : Run) where
  abbrev l : Layout
  l = w.image.layout

  abbrev next : Run
  next = shadow_step w x r

  -- the memory of the own hart is left
  own-memory : WordLeaves w r next → next.own.memory ≡ r.own.memory
  own-memory f = ap (λ (q : State). q.memory) f.own

  -- what the program range has is left
  pub program-left : WordLeaves w r next → program_in w next ≡ program_in w r
  program-left f = ap (λ (q : State). program_byte l (rewritten_words w) q.memory) f.own

  -- what the shadow sees is alike still
  pub alike-left : {m : Marks} {q : State} {d : Doing} → WordLeaves w r next → Leaves l r.shared next.shared d → is_restart d ≡ false → is_storing d ≡ false → SeesAlike l m (view_in r) q → SeesAlike l m (view_in next) q
  alike-left f leaves other quiet alike =
      record { bytes = λ b is_data unmarked. ap (λ (m : Memory). shadowed next.shared m b) (own-memory f) ∙ view-kept leaves other quiet r.own.memory b ∙ alike.bytes b is_data unmarked }

  -- on an instruction
  pub gone : {s : ℕ} {m : Marks} {q : State} {program : Memory} {d : Doing} {n k : ℕ} → Works w r s m q program d n → Within w (known l m q) (program_in w r) d (shade_of next) k
      → Leaves l r.shared next.shared d → Inner l next.shadow.pc d → IsQuiet w r → Works w next s m q (program_in w r) d k
  gone {s} {m} {q} {program} {d} {n} {k} y within leaves place quiet =
      let f : WordLeaves w r next = word-leaves w x r (within-running y.within) in
      let h : HintsStay r next = word-hints_stay w x r (within-running y.within) quiet in
      let none : is_arrival l next.shadow.pc ≡ false = inner-arrival w a (within-whole within) place in
      record {
        count = f.between (within-running within) none ∙ y.count;
        marked = same-marks w r next f.origin h.filled s ∙ y.marked;
        program_is = program-left f;
        state = from_restart-origin w r next f.origin s ∙ y.state;
        goes_on = y.goes_on;
        inside = y.inside;
        doing = y.doing;
        within = within;
        spot = inner place;
        agrees = y.agrees;
        files = h.files ∙ y.files;
        sees = λ other safe. alike-left f leaves other (no_store none safe) (y.sees other (inl (no_store none safe)));
        later = y.later;
        anew = λ is. let g : (s ≡ 0) × (r.own.memory ≡ q.memory) = y.anew is in (g.0, own-memory f ∙ g.1);
        copied = by_test f h (is_restart d) refl;
        filled = filled-same r next h.filled s y.filled;
        hints = h.hints ∙ y.hints ∙ sym (reads-origin w r next f.origin s);
      }
    where
      no_store : is_arrival l next.shadow.pc ≡ false → (is_storing d ≡ false) ⊎ (is_arrival l next.shadow.pc ≡ true) → is_storing d ≡ false
      no_store none (inl e) = e
      no_store none (inr e) = false_true (sym none ∙ e)

      by_test : WordLeaves w r next → HintsStay r next → (b : Bool) → is_restart d ≡ b → AreCopied w next s
      by_test f h true e = none-copied w next s (y.anew e).0
      by_test f h false e = copied-kept w r next f.origin h.filled s (copy-kept leaves e) y.copied

  -- behind a call
  pub gone-behind : {s : ℕ} {m : Marks} {q : State} {to : ℕ} {g : Regs} {program : Memory} {n k : ℕ} → Behind w r s m q to g program n → k < n → Within w (known l m q) (program_in w r) (goes_to to g) (shade_of next) k
      → Leaves l r.shared next.shared (goes_to to g) → Inner l next.shadow.pc (goes_to to g) → IsQuiet w r → Behind w next s m q to g (program_in w r) k
  gone-behind {s} {m} {q} {to} {g} {program} {n} {k} y less within leaves place quiet =
      let f : WordLeaves w r next = word-leaves w x r (within-running y.within) in
      let h : HintsStay r next = word-hints_stay w x r (within-running y.within) quiet in
      record {
        count = f.between (within-running within) (inner-arrival w a (within-whole within) place) ∙ y.count;
        marked = same-marks w r next f.origin h.filled (suc s) ∙ y.marked;
        program_is = program-left f;
        state = from_restart-origin w r next f.origin (suc s) ∙ y.state;
        goes_on = y.goes_on;
        target = y.target;
        within = within;
        place = place;
        turn = by_turn y.turn;
        agrees = y.agrees;
        files = h.files ∙ y.files;
        sees = alike-left f leaves refl refl y.sees;
        copied = copied-kept w r next f.origin h.filled (suc s) (copy-kept leaves refl) y.copied;
        filled = filled-same r next h.filled (suc s) y.filled;
        hints = h.hints ∙ y.hints ∙ sym (reads-origin w r next f.origin (suc s));
        unused = same-use w r next f.origin h.filled (suc s) ∙ y.unused;
      }
    where
      by_test : s ≡ 0 → (b : Bool) → is_behind_call w next.shadow.pc ≡ b → (is_behind_call w next.shadow.pc ≡ true) ⊎ ((is_behind_call w next.shadow.pc ≡ false) × (s ≡ 0))
      by_test none true e = inl e
      by_test none false e = inr (e, none)

      by_turn : (is_behind_call w r.shadow.pc ≡ true) ⊎ ((is_behind_call w r.shadow.pc ≡ false) × (s ≡ 0)) → (is_behind_call w next.shadow.pc ≡ true) ⊎ ((is_behind_call w next.shadow.pc ≡ false) × (s ≡ 0))
      by_turn (inl on) = absurd (omega (arith, going-last y.within refl on, going-some within refl, less))
      by_turn (inr (call, none)) = by_test none (is_behind_call w next.shadow.pc) refl

  -- behind a call that is a use the next word arrives
  pub gone-strays : {A : Type 0} {s : ℕ} {bytes : ℕ → Option ℕ} {program program' : Memory} {to : ℕ} {g : Regs} {n k : ℕ} → Strays w r s bytes program to g n → k < n → Within w bytes program' (goes_to to g) (shade_of next) k → A
  gone-strays y less within = absurd (omega (arith, going-last y.within refl y.behind, going-some within refl, less))

  -- ---- where it rests

  -- a shadow that doesn't run does nothing
  pub resting : Rests w r → Followed w next
  resting y = subst (Followed w) (sym (resting-stays w a x r r.shadow.state refl y.still)) (rests y)

  -- ---- where it parks

  -- a park leaves what is said, and the shadow at the word or behind an HPARK
  left-parked : (cause : Park) → r.shadow.state ≡ Running → next.shadow.state ≡ Parked cause → SameBut r next × LeftAt w r next
  left-parked cause e s = (same (word-leaves w x r e) (word-parks w x r cause e s), by_place (word-parks w x r cause e s).place)
    where
      still : next.shadow.state ≢ Running
      still f = parked_running (sym s ∙ f)

      same : WordLeaves w r next → Parks w r next → SameBut r next
      same f p =
          record { origin = f.origin; filled = p.filled; count = f.halts still; hints = p.hints; registers = p.registers; files = p.files; shared = p.shared; memory = own-memory f }

      by_place : ParkedAt w r next → LeftAt w r next
      by_place (park_at.here pc) = here pc
      by_place (park_at.behind why f pc) =
          let b : IsBehindPark w r.shadow.pc = behind-park w r.shadow.pc why f in
          off (ap (is_arrival l) pc ∙ b.no_arrival) (ap (is_behind_call w) pc ∙ b.no_call) (park-call w r.shadow.pc (park-place w r.shadow.pc why f))

  module _ (cause : Park) (parks : next.shadow.state ≡ Parked cause) where
    -- a parked shadow doesn't run
    still : next.shadow.state ≢ Running
    still f = parked_running (sym parks ∙ f)

    -- on an instruction
    pub works-parks : {s : ℕ} {m : Marks} {q : State} {program : Memory} {d : Doing} {n : ℕ} → Works w r s m q program d n → Rests w next
    works-parks y = let f : SameBut r next × LeftAt w r next = left-parked cause (within-running y.within) parks in works-rests w a r next f.0 f.1 still y

    -- behind a call
    pub behind-parks : {s : ℕ} {m : Marks} {q : State} {to : ℕ} {g : Regs} {program : Memory} {n : ℕ} → Behind w r s m q to g program n → Rests w next
    behind-parks y = let f : SameBut r next × LeftAt w r next = left-parked cause (within-running y.within) parks in behind-rests w a r next f.0 f.1 still y

    -- behind a call that is a use
    pub strays-parks : {s : ℕ} {bytes : ℕ → Option ℕ} {program : Memory} {to : ℕ} {g : Regs} {n : ℕ} → Strays w r s bytes program to g n → Rests w next
    strays-parks y = let f : SameBut r next × LeftAt w r next = left-parked cause (within-running y.within) parks in strays-rests w a r next f.0 f.1 still y

    -- in each of these ways; at rest it does nothing
    pub halted : Followed w r → Followed w next
    halted (works s m q program d n y) = rests (works-parks y)
    halted (behind s m q to g program n y) = rests (behind-parks y)
    halted (strays s bytes program to g n y) = rests (strays-parks y)
    halted (rests y) = resting y
