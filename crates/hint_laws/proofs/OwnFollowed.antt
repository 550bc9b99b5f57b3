-- A run whose shadow follows it is so still where only covered bytes of the program's memory have changed, and of what is shared the link.
use Rattle.std.proofs.Common.{◌≡◌, ℕ, zero, suc, ◌+◌, ◌/◌, ◌%◌, ◌<◌, ◌≤◌, ◌⊎◌, inl, inr, Bool, true, false, not, ◌&&◌, Option, Some, refl, ◌∙◌, ap, ap₂, sym, subst, arith}
use Rattle.std.specs.Prelude.{IsTrue, ◌≢◌}
use Rattle.std.proofs.Math.Path.{fun_ext}
use Rattle.std.proofs.lemmas.Bool.{and_parts}
use Rattle.spec_base.specs.declared.layout.Layout.{Layout}
use Rattle.spec_base.specs.declared.note.ShadowState.TheVariants.{Running}
use Rattle.rv_model.specs.Memory.{Memory}
use Rattle.rv_model.specs.Rights.{is_data}
use Rattle.program_model.specs.PlainRun.{State}
use Rattle.code_model.specs.Regions.{entry_of, slot_address, byte_by_entry, shadowed}
use Rattle.run_model.specs.Run.{World, Run, ShadowHart, rewritten_words}
use Rattle.run_model.specs.ShadowMoves.{is_arrival}
use Rattle.run_model.specs.Restarts.{from_restart, reads, before_horizon}
use Rattle.run_model.specs.Marks.{Marks, marks, marks_with, before_use}
use Rattle.run_laws.specs.HintLaws.{is_behind_call, hinted_up_to}
use Rattle.own_laws.proofs.Reached.{none_some, false_true}
use Rattle.side_model.specs.Hart.{Regs}
use Rattle.side_model.specs.Sees.{shade_of}
use Rattle.shadow_laws.proofs.AnyCalls.{LeavesTables}
use Rattle.shadow_laws.proofs.SoundSteps.{LeavesBehindHead, entry-kept}
use Rattle.mark_laws.specs.Agreement.{Agrees, SeesAlike}
use Rattle.mark_laws.specs.Settled.{settled_with, IsCovered}
use Rattle.mark_laws.proofs.Numbers.{from_restart-origin, reads-origin}
use Rattle.mark_laws.proofs.Horizons.{not_true}
use Rattle.hint_laws.proofs.Within.{Doing, goes_to, Within, within-running}
use Rattle.hint_laws.proofs.WithinSteps.{Inner}
use Rattle.hint_laws.proofs.WithinStays.{LeavesKnown, within-stays}
use Rattle.hint_laws.proofs.Followed.{known_if, known, program_in, view_in, AreCopied, is_storing, Works, Behind, Strays, Stands, Rests, Followed, works, behind, strays, rests}
use Rattle.hint_laws.proofs.Transport.{same-marks, same-use, same-horizon, copied-kept, filled-same, spot-same, hinted-by}
use Rattle.hint_laws.proofs.Views.{data-program}

-- what a run keeps of another: all that the shadow has, and what is counted since the restart; each byte of the program's memory that isn't covered from the shadow's instruction on; and table, list and copies, and while the shadow runs all behind the log's head
pub record Carries (w : World) (r y : Run) : Type 0 where
  pub origin : y.since.origin ≡ r.since.origin
  pub filled : y.since.filled ≡ r.since.filled
  pub count : y.since.shadow ≡ r.since.shadow
  pub hints : y.since.hints ≡ r.since.hints
  pub shadow : y.shadow ≡ r.shadow
  pub page : y.shadow_page ≡ r.shadow_page
  pub memory : (i : ℕ) → r.since.shadow ≤ i → (b : ℕ) → (y.own.memory b ≡ r.own.memory b) ⊎ IsCovered r.since.filled w r i b
  pub link : r.shadow.state ≡ Running → LeavesBehindHead r.shared y.shared
  pub tables : LeavesTables r.shared y.shared

-- a known byte is data that isn't marked
known-data : (b : Bool) (v n : ℕ) → known_if b v ≡ Some n → b ≡ true
known-data true v n e = refl
known-data false v n e = none_some e

module _ (w : World) (r y : Run) (c : Carries w r y) where
  abbrev l : Layout
  l = w.image.layout

  -- an entry stays
  same-entry : (region : ℕ) → entry_of y.shared region ≡ entry_of r.shared region
  same-entry = entry-kept r.shared y.shared c.tables

  -- copies stay
  copied : (i : ℕ) → AreCopied w r i → AreCopied w y i
  copied i k = copied-kept w r y c.origin c.filled i (λ region few some. subst (λ n. 0 < n) (sym (same-entry region)) some) k

  -- a byte that isn't marked stays in the program's memory, unless its region has a copy
  byte : (i : ℕ) → r.since.shadow ≤ i → AreCopied w r i → (b : ℕ) → (marks w r i).bytes b ≡ false → entry_of r.shared (b / 256) ≡ 0 → y.own.memory b ≡ r.own.memory b
  byte i h k b unmarked none = by_case (c.memory i h b)
    where
      by_case : (y.own.memory b ≡ r.own.memory b) ⊎ IsCovered r.since.filled w r i b → y.own.memory b ≡ r.own.memory b
      by_case (inl e) = e
      by_case (inr (inl marked)) = false_true (sym unmarked ∙ marked)
      by_case (inr (inr settled)) = let some : 0 < entry_of r.shared (b / 256) = (k b settled).1 in absurd (omega (arith, some, none))

  -- what the shadow has in its place stays
  view : (i : ℕ) → r.since.shadow ≤ i → AreCopied w r i → (b : ℕ) → (marks w r i).bytes b ≡ false → view_in y b ≡ view_in r b
  unfolding shadowed
  view i h k b unmarked =
      ap (λ (n : ℕ). byte_by_entry n y.shared y.own.memory b) (same-entry (b / 256)) ∙ by_entry (entry_of r.shared (b / 256)) refl
    where
      by_entry : (n : ℕ) → entry_of r.shared (b / 256) ≡ n → byte_by_entry n y.shared y.own.memory b ≡ byte_by_entry n r.shared r.own.memory b
      by_entry zero e = byte i h k b unmarked e
      by_entry (suc slot) e = c.tables (slot_address slot + b % 256) (omega arith)

  -- so it is alike still
  sees : (i : ℕ) → r.since.shadow ≤ i → AreCopied w r i → (q : State) → SeesAlike l (marks w r i) (view_in r) q → SeesAlike l (marks w r i) (view_in y) q
  sees i h k q s = record { bytes = λ b inside unmarked. view i h k b unmarked ∙ s.bytes b inside unmarked }

  -- the same for marks that are these
  sees-with : (i : ℕ) (m : Marks) → marks w r i ≡ m → r.since.shadow ≤ i → AreCopied w r i → (q : State) → SeesAlike l m (view_in r) q → SeesAlike l m (view_in y) q
  sees-with i m e h k q s = subst (λ m. SeesAlike l m (view_in y) q) e (sees i h k q (subst (λ m. SeesAlike l m (view_in r) q) (sym e) s))

  -- the shadow is at its row
  at-row : (bytes : ℕ → Option ℕ) (program : Memory) {d : Doing} {n : ℕ} → (is_storing d ≡ true → LeavesKnown l r.shared bytes program (program_in w y))
      → Within w bytes program d (shade_of r) n → Within w bytes (program_in w y) d (shade_of y) n
  at-row bytes program {d} {n} same within =
      let is : shade_of y ≡ record (shade_of r) { shared = y.shared } = ap₂ (λ (hart : ShadowHart) (page : Memory). record { hart = hart; page = page; shared = y.shared }) c.shadow c.page in
      subst (λ h. Within w bytes (program_in w y) d h n) (sym is) (within-stays w bytes program (program_in w y) (shade_of r) y.shared (c.link (within-running within)) same within)

  -- known bytes of a state are left in the program's memory
  leaves-known : (i : ℕ) (m : Marks) (q : State) → marks w r i ≡ m → r.since.shadow ≤ i → AreCopied w r i → LeavesKnown l r.shared (known l m q) (program_in w r) (program_in w y)
  leaves-known i m q e h k b v low high none known-is =
      let f : (is_data l b ≡ true) × (not (m.bytes b) ≡ true) = and_parts (is_data l b) (not (m.bytes b)) (known-data (is_data l b && not (m.bytes b)) (q.memory b) v known-is) in
      data-program l (rewritten_words w) y.own.memory b f.0
      ∙ (byte i h k b (ap (λ (m : Marks). m.bytes b) e ∙ not_true (m.bytes b) f.1) none ∙ sym (data-program l (rewritten_words w) r.own.memory b f.0))

  -- at the restart nothing is covered
  uncovered : r.since.shadow ≡ 0 → (b : ℕ) → y.own.memory b ≡ r.own.memory b
  unfolding marks_with settled_with
  uncovered none b = by_case (c.memory 0 (omega (arith, none)) b)
    where
      by_case : (y.own.memory b ≡ r.own.memory b) ⊎ IsCovered r.since.filled w r 0 b → y.own.memory b ≡ r.own.memory b
      by_case (inl e) = e
      by_case (inr (inl e)) = false_true e
      by_case (inr (inr e)) = false_true e

  -- ---- in each way

  -- on an instruction
  on-works : (s : ℕ) (m : Marks) (q : State) (program : Memory) (d : Doing) (n : ℕ) → Works w r s m q program d n → Works w y s m q (program_in w y) d n
  on-works s m q program d n k =
      let h : r.since.shadow ≤ s = omega (arith, k.count) in
      record {
        count = c.count ∙ k.count;
        marked = same-marks w r y c.origin c.filled s ∙ k.marked;
        program_is = refl;
        state = from_restart-origin w r y c.origin s ∙ k.state;
        goes_on = k.goes_on;
        inside = k.inside;
        doing = k.doing;
        within = at-row (known l m q) program (λ e. subst (λ p. LeavesKnown l r.shared (known l m q) p (program_in w y)) k.program_is (leaves-known s m q k.marked h k.copied)) k.within;
        spot = spot-same (ap (λ (h : ShadowHart). h.pc) c.shadow) (ap (λ (h : ShadowHart). h.registers) c.shadow) k.spot;
        agrees = k.agrees;
        files = ap (λ (h : ShadowHart). h.files) c.shadow ∙ k.files;
        sees = λ e f. sees-with s m k.marked h k.copied q (k.sees e (earlier f));
        later = k.later;
        anew = λ e. by_anew (k.anew e);
        copied = copied s k.copied;
        filled = filled-same r y c.filled s k.filled;
        hints = c.hints ∙ k.hints ∙ sym (reads-origin w r y c.origin s);
      }
    where
      earlier : (is_storing d ≡ false) ⊎ (is_arrival l y.shadow.pc ≡ true) → (is_storing d ≡ false) ⊎ (is_arrival l r.shadow.pc ≡ true)
      earlier (inl e) = inl e
      earlier (inr e) = inr (subst (λ (h : ShadowHart). is_arrival l h.pc ≡ true) c.shadow e)

      by_anew : (s ≡ 0) × (r.own.memory ≡ q.memory) → (s ≡ 0) × (y.own.memory ≡ q.memory)
      by_anew (none, e) = (none, fun_ext (uncovered (k.count ∙ none)) ∙ e)

  -- behind a call
  on-behind : (s : ℕ) (m : Marks) (q : State) (to : ℕ) (g : Regs) (program : Memory) (n : ℕ) → Behind w r s m q to g program n → Behind w y s m q to g (program_in w y) n
  on-behind s m q to g program n k =
      let h : r.since.shadow ≤ suc s = omega (arith, k.count) in
      record {
        count = c.count ∙ k.count;
        marked = same-marks w r y c.origin c.filled (suc s) ∙ k.marked;
        program_is = refl;
        state = from_restart-origin w r y c.origin (suc s) ∙ k.state;
        goes_on = k.goes_on;
        target = k.target;
        within = at-row (known l m q) program (λ e. false_true e) k.within;
        place = subst (λ (h : ShadowHart). Inner l h.pc (goes_to to g)) (sym c.shadow) k.place;
        turn = subst (λ (h : ShadowHart). (is_behind_call w h.pc ≡ true) ⊎ ((is_behind_call w h.pc ≡ false) × (s ≡ 0))) (sym c.shadow) k.turn;
        agrees = k.agrees;
        files = ap (λ (h : ShadowHart). h.files) c.shadow ∙ k.files;
        sees = sees-with (suc s) m k.marked h k.copied q k.sees;
        copied = copied (suc s) k.copied;
        filled = filled-same r y c.filled (suc s) k.filled;
        hints = c.hints ∙ k.hints ∙ sym (reads-origin w r y c.origin (suc s));
        unused = subst (λ b. IsTrue b) (sym (same-use w r y c.origin c.filled (suc s))) k.unused;
      }

  -- behind a call that is a use
  on-strays : (s : ℕ) (bytes : ℕ → Option ℕ) (program : Memory) (to : ℕ) (g : Regs) (n : ℕ) → Strays w r s bytes program to g n → Strays w y s bytes (program_in w y) to g n
  on-strays s bytes program to g n k =
      record {
        count = c.count ∙ k.count;
        used = same-use w r y c.origin c.filled (suc s) ∙ k.used;
        program_is = refl;
        within = at-row bytes program (λ e. false_true e) k.within;
        place = subst (λ (h : ShadowHart). Inner l h.pc (goes_to to g)) (sym c.shadow) k.place;
        behind = ap (λ (h : ShadowHart). is_behind_call w h.pc) c.shadow ∙ k.behind;
        hints = λ before. c.hints ∙ k.hints (subst (λ b. IsTrue b) (same-horizon w r y c.origin c.filled s) before) ∙ sym (reads-origin w r y c.origin (suc s));
      }

  -- at word 1 of a block
  on-stands : (q : State) → Stands w r q → Stands w y q
  on-stands q k =
      record {
        state = ap (from_restart w y) c.count ∙ from_restart-origin w r y c.origin r.since.shadow ∙ k.state;
        inside = k.inside;
        place = ap (λ (h : ShadowHart). h.pc) c.shadow ∙ k.place;
        agrees = subst (λ m. Agrees m y.shadow.registers q) marked (subst (λ (h : ShadowHart). Agrees (marks w r r.since.shadow) h.registers q) (sym c.shadow) k.agrees);
        files = ap (λ (h : ShadowHart). h.files) c.shadow ∙ k.files;
        sees = subst (λ m. SeesAlike l m (view_in y) q) marked (sees r.since.shadow (omega arith) k.copied q k.sees);
        copied = subst (λ i. AreCopied w y i) (sym c.count) (copied r.since.shadow k.copied);
      }
    where
      marked : marks w r r.since.shadow ≡ marks w y y.since.shadow
      marked = sym (ap (marks w y) c.count ∙ same-marks w r y c.origin c.filled r.since.shadow)

  -- at rest
  on-rests : Rests w r → Rests w y
  on-rests k =
      record {
        still = subst (λ (h : ShadowHart). h.state ≢ Running) (sym c.shadow) k.still;
        hints = λ before. hints-reach (k.hints (subst (λ b. IsTrue b) (ap (before_use w y) reach ∙ same-use w r y c.origin c.filled (hinted_up_to w r)) before));
        horizon = λ before. hints-reach (k.horizon (subst (λ b. IsTrue b) (ap (before_horizon w y) c.count ∙ same-horizon w r y c.origin c.filled r.since.shadow) before));
        stands = λ e. let q : (q : State) × Stands w r q = k.stands (subst (λ (h : ShadowHart). is_arrival l h.pc ≡ true) c.shadow e) in (q.0, on-stands q.0 q.1);
      }
    where
      reach : hinted_up_to w y ≡ hinted_up_to w r
      reach = hinted-by w r y (ap (λ (h : ShadowHart). h.pc) c.shadow) c.count

      hints-reach : r.since.hints ≡ reads w r (hinted_up_to w r) → y.since.hints ≡ reads w y (hinted_up_to w y)
      hints-reach e = c.hints ∙ e ∙ sym (ap (reads w y) reach ∙ reads-origin w r y c.origin (hinted_up_to w r))

  -- so the shadow follows still
  pub covered : Followed w r → Followed w y
  covered (works s m q program d n k) = works s m q (program_in w y) d n (on-works s m q program d n k)
  covered (behind s m q to g program n k) = behind s m q to g (program_in w y) n (on-behind s m q to g program n k)
  covered (strays s bytes program to g n k) = strays s bytes (program_in w y) to g n (on-strays s bytes program to g n k)
  covered (rests k) = rests (on-rests k)
