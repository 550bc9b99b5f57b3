-- What an assumed call of the shadow leaves: the numbers of the filled reads, what the shadow sees, and which regions have copies.
use Rattle.std.proofs.Common.{◌≡◌, ℕ, zero, suc, ◌+◌, ◌/◌, ◌<◌, ◌≤◌, Bool, true, false, ◌||◌, ◌==◌, List, length, refl, ◌∙◌, ap, sym, subst, arith}
use Rattle.std.specs.Prelude.{IsTrue}
use Rattle.std.proofs.lemmas.Bool.Decides.{nat_tests}
use Rattle.std.proofs.lemmas.Bool.{or_right, or_from}
use Rattle.spec_base.specs.Listed.{is_listed}
use Rattle.spec_base.specs.declared.layout.Layout.{Layout}
use Rattle.spec_base.specs.declared.spot.ReadSpot.{ReadSpot}
use Rattle.rv_model.specs.Memory.{Memory, is_within, written, all_from}
use Rattle.rv_model.specs.Rights.{is_data}
use Rattle.rv_model.specs.Space.{program_byte}
use Rattle.program_model.specs.Calls.{CallPlan, Set, Look, Read, Write, Exit, bytes_read}
use Rattle.code_model.specs.Regions.{entry_of, shadowed}
use Rattle.run_model.specs.Run.{World, Run, rewritten_words}
use Rattle.run_model.specs.ShadowMoves.{shadow_plan, fill, is_filled, hint_given}
use Rattle.run_laws.specs.OwnLaws.{Accepted}
use Rattle.own_laws.proofs.Reached.{false_true}
use Rattle.code_model.specs.Tables.{Tabs, TableOk, all_regions}
use Rattle.side_model.specs.Tables.{HasTabs}
use Rattle.rows_access.specs.Accesses.{seen}
use Rattle.rows_log.specs.Fills.{bytes_set, IsFilled}
use Rattle.rows_log.proofs.FilledReads.{fills-keep_tables}
use Rattle.rows_log.proofs.FillViews.{written-none, written-alike}
use Rattle.rows_log.proofs.PlannedReads.{read-planned, all_from-last, data-region}
use Rattle.mark_laws.specs.Agreement.{is_read, assumed_memory, HasAll}
use Rattle.mark_laws.proofs.Numbers.{is_listed-append}
use Rattle.hint_laws.proofs.Followed.{view_in, program_in, FilledUpTo}
use Rattle.hint_laws.proofs.WordFacts.{filled_behind, ReadDoes, OtherLeaves, PlanDoes}
use Rattle.hint_laws.proofs.Views.{data-seen}

-- ---- the numbers of the filled reads

-- the next number is listed where its read was filled, and none above it
pub record NextNumbers (next : Run) (s : ℕ) (filled : Bool) : Type 0 where
  pub at : is_listed next.since.filled (suc s) ≡ filled
  pub above : FilledUpTo next (suc s)

-- so it is behind each assumed call
pub next-numbers : (r next : Run) (s : ℕ) (filled : Bool) → r.since.shadow ≡ s → FilledUpTo r s → next.since.filled ≡ filled_behind filled r → NextNumbers next s filled
next-numbers r next s false count up e =
    record {
      at = ap (λ (numbers : List ℕ). is_listed numbers (suc s)) e ∙ up (suc s) (omega arith);
      above = λ k h. ap (λ (numbers : List ℕ). is_listed numbers k) e ∙ up k (omega arith);
    }
next-numbers r next s true count up e =
    record {
      at = listed (suc s) ∙ or_right (is_listed r.since.filled (suc s)) (r.since.shadow + 1 == suc s) (grind (arith, nat_tests, count));
      above = λ k h. listed k ∙ or_from (is_listed r.since.filled k) (r.since.shadow + 1 == k) (up k (omega arith)) (grind (arith, nat_tests, count));
    }
  where
    listed : (n : ℕ) → is_listed next.since.filled n ≡ (is_listed r.since.filled n || (r.since.shadow + 1 == n))
    listed n = ap (λ (numbers : List ℕ). is_listed numbers n) e ∙ is_listed-append r.since.filled (r.since.shadow + 1) n

-- ---- what the shadow sees

-- what a run sees of its data is what its tables say
view-seen : (w : World) (r : Run) (t : Tabs) → HasTabs w.image.layout r.shared t → (y : ℕ) → is_data w.image.layout y ≡ true → view_in r y ≡ seen t r.shared (program_in w r) y
view-seen w r t has y h = data-seen w.image.layout (rewritten_words w) r.own.memory r.shared t has y h

-- an address of a stretch
within-parts : (a n y : ℕ) → is_within a n y ≡ true → (a ≤ y) × (y < a + n)
within-parts a n y h = (grind (arith, nat_tests), grind (arith, nat_tests))

-- whether the read of a plan is filled
abbrev pub fills : World → Bool → Run → CallPlan → Bool
fills w u r (Read d spot a) = is_filled w (hint_given u spot r) spot a spot.count
fills w u r _ = false

-- behind an assumed call the shadow sees its data as before, with the bytes of a filled read; each region that has a copy keeps one, and those of the bytes have one
pub record SharedBehind (w : World) (r next : Run) (filled : Bool) (plan : CallPlan) : Type 0 where
  pub numbers : next.since.filled ≡ filled_behind filled r
  pub view : (y : ℕ) → IsTrue (is_data w.image.layout y) → view_in next y ≡ assumed_memory filled w.files (view_in r) plan y
  pub kept : (region : ℕ) → region < all_regions w.image.layout → 0 < entry_of r.shared region → 0 < entry_of next.shared region
  pub copied : (d : ℕ) (spot : ReadSpot) (a : ℕ) → plan ≡ Read d spot a → HasAll w.files plan → filled ≡ true → (y : ℕ) → is_within a spot.count y ≡ true
      → (y / 256 < all_regions w.image.layout) × (0 < entry_of next.shared (y / 256))

module _ (w : World) (accepted : Accepted w) (u : Bool) (r next : Run) (t : Tabs) (has : HasTabs w.image.layout r.shared t) (ok : TableOk w.image.layout t) (own : next.own ≡ r.own) where
  abbrev l : Layout
  l = w.image.layout

  -- a call that is no read leaves what is shared
  leaves-shared : (plan : CallPlan) → is_read plan ≡ false → assumed_memory false w.files (view_in r) plan ≡ view_in r → OtherLeaves r next → SharedBehind w r next false plan
  leaves-shared plan quiet same o =
      record {
        numbers = o.filled;
        view = λ y h. (λ i. shadowed (o.shared i) (own i).memory y) ∙ sym (ap (λ (v : Memory). v y) same);
        kept = λ region below some. subst (λ (m : Memory). 0 < entry_of m region) (sym o.shared) some;
        copied = λ d spot a e all filled. false_true (sym quiet ∙ ap is_read e);
      }

  -- the bytes of a read, filled or not
  set-bytes : (filled : Bool) (v : Memory) (d : ℕ) (spot : ReadSpot) (a y : ℕ) → written v a (bytes_set filled (bytes_read w.files spot)) y ≡ assumed_memory filled w.files v (Read d spot a) y
  set-bytes true v d spot a y = refl
  set-bytes false v d spot a y = written-none v a y

  -- a byte of a stretch of data lies in a region
  stretch-region : (a n y : ℕ) → all_from (is_data l) a n ≡ true → is_within a n y ≡ true → y / 256 < all_regions l
  stretch-region a zero y h i = absurd (grind (arith, nat_tests))
  stretch-region a (suc n) y h i =
      let last : (a + n) / 256 < all_regions l = data-region l (a + n) (all_from-last (is_data l) a n h) in
      let most : y ≤ a + n = grind (arith, nat_tests) in omega (arith, last, most)

  -- a read
  reads-shared : (d : ℕ) (spot : ReadSpot) (a : ℕ) → shadow_plan w r ≡ Read d spot a → ReadDoes w u r next spot a → SharedBehind w r next (fills w u r (Read d spot a)) (Read d spot a)
  reads-shared d spot a e does =
      let filled : Bool = fills w u r (Read d spot a) in
      let bytes : List ℕ = bytes_set filled (bytes_read w.files spot) in
      let f : IsFilled l (program_in w r) t r.shared a bytes (fill w spot a (hint_given u spot r)).shared = fills-keep_tables w r t d spot a u accepted.lawful e has ok in
      let has_next : HasTabs l next.shared f.tables = subst (λ (m : Memory). HasTabs l m f.tables) (sym does.shared) f.has in
      let program : program_in w next ≡ program_in w r = (λ i. program_byte l (rewritten_words w) (own i).memory) in
      let seen-next : (y : ℕ) → is_data l y ≡ true → view_in next y ≡ seen f.tables (fill w spot a (hint_given u spot r)).shared (program_in w r) y =
      λ y h. view-seen w next f.tables has_next y h ∙ (λ i. seen f.tables (does.shared i) (program i) y) in
      record {
        numbers = does.filled;
        view = λ y h.
            seen-next y h
            ∙ (f.view y (data-region l y h)
            ∙ (written-alike (seen t r.shared (program_in w r)) (view_in r) a bytes y (sym (view-seen w r t has y h)) ∙ set-bytes filled (view_in r) d spot a y));
        kept = λ region below some.
            let old : 0 < t.entry region = subst (λ (n : ℕ). 0 < n) (has.entry region below) some in
            subst (λ (n : ℕ). 0 < n) (sym (has_next.entry region below ∙ f.copies region old)) old;
        copied = λ d' spot' a' same all set y h.
            let is_spot : spot ≡ spot' = cc in
            let is_place : a ≡ a' = cc in
            let within : is_within a spot.count y ≡ true = (λ i. is_within (is_place i) (is_spot i).count y) ∙ h in
            let count : length (bytes_read w.files spot) ≡ spot.count = all d spot a refl in
            let region : y / 256 < all_regions l = stretch-region a spot.count y (read-planned w r d spot a e) within in
            let among : (a ≤ y) × (y < a + spot.count) = within-parts a spot.count y within in
            let some : length bytes ≡ spot.count = ap (λ (b : Bool). length (bytes_set b (bytes_read w.files spot))) set ∙ count in
            (region, subst (λ (n : ℕ). 0 < n) (sym (has_next.entry (y / 256) region)) (f.copied y among.0 (subst (λ (n : ℕ). y < a + n) (sym some) among.1)));
      }

  -- each planned call
  pub shared-behind : (plan : CallPlan) → shadow_plan w r ≡ plan → PlanDoes w u r next plan → SharedBehind w r next (fills w u r plan) plan
  shared-behind (Set f answer) e does = leaves-shared (Set f answer) refl refl (does.others refl)
  shared-behind (Look name) e does = leaves-shared (Look name) refl refl (does.others refl)
  shared-behind (Read d spot a) e does = reads-shared d spot a e (does.reads d spot a refl)
  shared-behind (Write to_out a n) e does = leaves-shared (Write to_out a n) refl refl (does.others refl)
  shared-behind (Exit code) e does = leaves-shared (Exit code) refl refl (does.others refl)
