-- The rows of the helper RESTART, which clears the regions and goes on from the box (this project's own).
use Rattle.std.specs.Prelude.{ℕ, ◌+◌, ◌-◌, ◌*◌, ◌^◌, ◌≡◌, ◌≢◌, ◌≤◌, ◌<◌, ◌⊎◌, Bool, false, ◌==◌, List}
use Rattle.spec_base.specs.Layout.{helpers_start, list_start}
use Rattle.spec_base.specs.declared.layout.Layout.{Layout}
use Rattle.spec_base.specs.declared.park.Park.{Park}
use Rattle.spec_base.specs.declared.park.Park.TheVariants as park
use Rattle.rv_decode.specs.declared.instr.Instr.{Instr}
use Rattle.rv_model.specs.Memory.{Memory}
use Rattle.code_model.specs.Log.{box_start, boxed_site, boxed}
use Rattle.code_model.specs.Places.{JUMP}
use Rattle.code_model.specs.Regions.{listed_address}
use Rattle.side_model.specs.Hart.{Regs, get, Priv}
use Rattle.code_model.specs.Tables.{Tabs, TableOk, all_regions}
use Rattle.side_model.specs.Places.{Restarting, Place, InHelper, code, IsInstruction}
use Rattle.side_model.specs.Words.{exec_some}
use Rattle.side_model.specs.Rows.{Led}
use Rattle.side_model.specs.JumpRows.{high_part, with_31, JumpRow, JumpFits}
use Rattle.side_model.specs.Tables.{IsUnchanged}
use Rattle.rows_log.specs.Queue.{LeavesLink}

-- ---- the box, and the registers that come from it

-- the box holds a site and registers
pub record HasBox (link : Memory) (site : ℕ) (q : Regs) : Type 0 where
  pub holds : boxed_site link ≡ site
  pub registers : (i : ℕ) → i ≤ 31 → boxed link i ≡ get i q

-- registers x1 to xk are those of q
abbrev pub AreLoaded : ℕ → Regs → Regs → Type 0
AreLoaded k q rs = (i : ℕ) → i ≤ k → get i rs ≡ get i q

-- all registers are those of q, but x10, which has an answer
pub record IsAnswered (q : Regs) (answer : ℕ) (rs : Regs) : Type 0 where
  pub given : get 10 rs ≡ answer
  pub others : (i : ℕ) → i ≤ 31 → i ≢ 10 → get i rs ≡ get i q

-- the four registers that the clearing uses, beside all others
abbrev pub with_four : (ℕ → ℕ) → ℕ → ℕ → ℕ → ℕ → Regs
with_four low a b c d = record { low = low; x28 = a; x29 = b; x30 = c; x31 = d }

-- ---- the clearing

-- the entries of the first j slots are cleared: each entry that isn't 0 is a later slot's
abbrev pub Cleared : Layout → ℕ → Tabs → Type 0
Cleared l j t = (region : ℕ) → region < all_regions l → 0 < t.entry region → j < t.entry region

-- all are
abbrev pub AllCleared : Layout → Tabs → Type 0
AllCleared l t = (region : ℕ) → region < all_regions l → t.entry region ≡ 0

-- no region has a copy, and no slot is in use
pub record IsFresh (l : Layout) (t : Tabs) : Type 0 where
  pub count : t.count ≡ 0
  pub entries : AllCleared l t

-- ---- rows

-- up to the HCALL, with the site and the registers q in the box
module _ (l : Layout) (site : ℕ) (q : Regs) where
  -- private places behind word 15
  abbrev pub asked : Priv → Priv
  asked s = record s { adr = site + 4 }

  -- behind word 17
  abbrev pub saved : Priv → Priv
  saved s = record s { x31 = q.x31; adr = site + 4 }

  pub data RestartRow : Place → Regs → Priv → Tabs → ℕ → Type 0 where
    r1 : {low : ℕ → ℕ} {a b c d : ℕ} (s : Priv) {t : Tabs} → RestartRow (InHelper Restarting 0) (with_four low a b c d) s t (63 + 5 * t.count)
    r2 : {low : ℕ → ℕ} {b c d : ℕ} (s : Priv) {t : Tabs} → RestartRow (InHelper Restarting 1) (with_four low list_start b c d) s t (62 + 5 * t.count)
    r3 : {low : ℕ → ℕ} {c d : ℕ} (s : Priv) {t : Tabs} → RestartRow (InHelper Restarting 2) (with_four low list_start t.count c d) s t (61 + 5 * t.count)
    r4 : {low : ℕ → ℕ} {d : ℕ} (s : Priv) {t : Tabs} → RestartRow (InHelper Restarting 3) (with_four low list_start t.count (listed_address 0) d) s t (60 + 5 * t.count)
    r5 : {low : ℕ → ℕ} {d : ℕ} (s : Priv) {t : Tabs} → RestartRow (InHelper Restarting 4) (with_four low list_start (4 * t.count) (listed_address 0) d) s t (59 + 5 * t.count)
    -- the loop: each listed entry becomes 0
    r6 : {low : ℕ → ℕ} {d : ℕ} (j : ℕ) (s : Priv) {t : Tabs} → j ≤ t.count → Cleared l j t
        → RestartRow (InHelper Restarting 5) (with_four low list_start (listed_address t.count) (listed_address j) d) s t (58 + 5 * (t.count - j))
    r7 : {low : ℕ → ℕ} {d : ℕ} (j : ℕ) (s : Priv) {t : Tabs} → j < t.count → Cleared l j t
        → RestartRow (InHelper Restarting 6) (with_four low list_start (listed_address t.count) (listed_address j) d) s t (57 + 5 * (t.count - j))
    r8 : {low : ℕ → ℕ} (j : ℕ) (s : Priv) {t : Tabs} → j < t.count → Cleared l j t
        → RestartRow (InHelper Restarting 7) (with_four low list_start (listed_address t.count) (listed_address j) (t.listed j)) s t (56 + 5 * (t.count - j))
    r9 : {low : ℕ → ℕ} {d : ℕ} (j : ℕ) (s : Priv) {t : Tabs} → j < t.count → Cleared l (j + 1) t
        → RestartRow (InHelper Restarting 8) (with_four low list_start (listed_address t.count) (listed_address j) d) s t (55 + 5 * (t.count - j))
    r10 : {low : ℕ → ℕ} {d : ℕ} (j : ℕ) (s : Priv) {t : Tabs} → j < t.count → Cleared l (j + 1) t
        → RestartRow (InHelper Restarting 9) (with_four low list_start (listed_address t.count) (listed_address (j + 1)) d) s t (54 + 5 * (t.count - j))
    -- then the count
    r11 : {low : ℕ → ℕ} {b c d : ℕ} (s : Priv) {t : Tabs} → AllCleared l t → RestartRow (InHelper Restarting 10) (with_four low list_start b c d) s t 57
    -- the site and x31 go from the box to ADR and X31
    r12 : {low : ℕ → ℕ} {a b c d : ℕ} (s : Priv) {t : Tabs} → IsFresh l t → RestartRow (InHelper Restarting 11) (with_four low a b c d) s t 56
    r13 : {low : ℕ → ℕ} {a b c : ℕ} (s : Priv) {t : Tabs} → IsFresh l t → RestartRow (InHelper Restarting 12) (with_four low a b c box_start) s t 55
    r14 : {low : ℕ → ℕ} {a b : ℕ} (s : Priv) {t : Tabs} → IsFresh l t → RestartRow (InHelper Restarting 13) (with_four low a b site box_start) s t 54
    r15 : {low : ℕ → ℕ} {a b : ℕ} (s : Priv) {t : Tabs} → IsFresh l t → RestartRow (InHelper Restarting 14) (with_four low a b (site + 4) box_start) s t 53
    r16 : {low : ℕ → ℕ} {a b c : ℕ} (s : Priv) {t : Tabs} → IsFresh l t → RestartRow (InHelper Restarting 15) (with_four low a b c box_start) (asked s) t 52
    r17 : {low : ℕ → ℕ} {a b : ℕ} (s : Priv) {t : Tabs} → IsFresh l t → RestartRow (InHelper Restarting 16) (with_four low a b q.x31 box_start) (asked s) t 51
    -- words 18 to 47: registers x1 to xk are loaded
    r18-47 : {rs : Regs} (k : ℕ) (s : Priv) {t : Tabs} → k < 30 → IsFresh l t → rs.x31 ≡ box_start → AreLoaded k q rs → RestartRow (InHelper Restarting (17 + k)) rs (saved s) t (50 - k)
    -- the HCALL, with all registers from the box but x31, which stands in X31
    r48 : {rs : Regs} (s : Priv) {t : Tabs} → IsFresh l t → AreLoaded 30 q rs → RestartRow (InHelper Restarting 47) rs (saved s) t 20

-- behind the HCALL, with the registers q, the answer in x10: the rest of RESTART, and JUMP
module _ (l : Layout) (site : ℕ) (q : Regs) where
  -- words 49 and 50
  pub data UnboxedRow : Place → Regs → Priv → Tabs → ℕ → Type 0 where
    r49 : {d : ℕ} (s : Priv) {t : Tabs} → UnboxedRow (InHelper Restarting 48) (with_31 q d) (saved l site q s) t 19
    r50 : (s : Priv) {t : Tabs} → UnboxedRow (InHelper Restarting 49) (with_31 q (high_part (helpers_start + JUMP))) (saved l site q s) t 18

  -- and those of JUMP
  abbrev pub RestartedRow : Place → Regs → Priv → Tabs → ℕ → Type 0
  RestartedRow place rs s t n = UnboxedRow place rs s t n ⊎ JumpRow l (site + 4) q place rs s t n

-- ---- what a word leads to

-- whether a place is the HCALL's
abbrev pub is_hcall : Place → Bool
is_hcall (InHelper Restarting n) = n == 47
is_hcall _ = false

-- from a word at this place, with this memory: to the next row, with all below the table as it is; or, by the HCALL, to the words behind it, with an answer in x10 and whatever the call leaves
pub data RestartNext (l : Layout) (site : ℕ) (q : Regs) (from : Place) (m : Memory) : Place → Regs → Priv → Tabs → Memory → ℕ → Type 0 where
  word : {place : Place} {rs : Regs} {s : Priv} {t' : Tabs} {m' : Memory} {k : ℕ} → RestartRow l site q place rs s t' k → is_hcall from ≡ false → LeavesLink m m' → RestartNext l site q from m place rs s t' m' k
  call : {place : Place} {rs : Regs} {s : Priv} {t' : Tabs} {m' : Memory} {k : ℕ} (answer : ℕ) (answered : Regs) → from ≡ InHelper Restarting 47 → answer < 2 ^ 64 → IsAnswered q answer answered
      → RestartedRow l site answered place rs s t' k → RestartNext l site q from m place rs s t' m' k

-- the shadow arrives behind the site, with the registers from the box and the answer
pub record RestartArrives (l : Layout) (site : ℕ) (q : Regs) (t : Tabs) (m : Memory) (target : ℕ) (rs : Regs) (t' : Tabs) (m' : Memory) : Type 0 where
  pub behind : target ≡ site + 4
  pub inside : target < l.text_end
  pub registers : rs ≡ q
  pub same : IsUnchanged t m t' m'

-- it parks where the site is the last instruction of the text
pub record RestartFaults (l : Layout) (site : ℕ) (t : Tabs) (m : Memory) (cause : Park) (t' : Tabs) (m' : Memory) : Type 0 where
  pub fault : cause ≡ park.Fault
  pub last : site + 4 ≡ l.text_end
  pub same : IsUnchanged t m t' m'

-- ---- statements

-- Each word of RESTART goes on to the next one with fewer words left, at most 63 from the first on
-- and 5 for each region in use, up to the block behind the boxed site, or parks there, where the
-- site is the text's last word. The table and the list are consistent behind each word; before the
-- HCALL no region has a copy, and the registers are those of the box, to which the HCALL adds its
-- answer. What the link holds is left.

-- at the first word there are 63 + 5 u words left at most, u being the regions in use
abbrev pub RestartStarts : Type 0
RestartStarts = (l : Layout) (site : ℕ) (q rs : Regs) (s : Priv) (t : Tabs) → RestartRow l site q (InHelper Restarting 0) rs s t (63 + 5 * t.count)

-- each word up to the HCALL leads to its next row; none arrives, and none parks
abbrev pub RestartLeads : Type 0
RestartLeads =
    (l : Layout) (site : ℕ) (q : Regs) (base : ℕ) (words : List Instr) (program : Memory) → IsInstruction l site
    → (n : ℕ) (place : Place) (rs : Regs) (s : Priv) (t : Tabs) (m : Memory) → TableOk l t → HasBox m site q → RestartRow l site q place rs s t n
    → Led l program base (RestartNext l site q place m) (λ target rs t' m'. ⊥) (λ cause t' m'. ⊥) n
    (exec_some base (code l words place) (record { place = place; regs = rs; priv = s; tabs = t }) m)

-- the box stays where its bytes do
abbrev pub BoxStays : Type 0
BoxStays = (m m' : Memory) (site : ℕ) (q : Regs) → ((a : ℕ) → box_start ≤ a → a < box_start + 256 → m' a ≡ m a) → HasBox m site q → HasBox m' site q

-- each word behind the HCALL leads to its next row, to the block behind the site, or to a park
abbrev pub RestartedLeads : Type 0
RestartedLeads =
    (l : Layout) (site : ℕ) (q : Regs) (base : ℕ) (words : List Instr) (program : Memory) → IsInstruction l site → JumpFits l (site + 4) q base words
    → (n : ℕ) (place : Place) (rs : Regs) (s : Priv) (t : Tabs) (m : Memory) → TableOk l t → RestartedRow l site q place rs s t n
    → Led l program base (λ place rs s t' m' k. RestartedRow l site q place rs s t' k × IsUnchanged t m t' m') (RestartArrives l site q t m) (RestartFaults l site t m) n
    (exec_some base (code l words place) (record { place = place; regs = rs; priv = s; tabs = t }) m)
