-- What a walk of the shadow comes to that begins in RESTART or behind an HCALL (this project's own).
use Rattle.std.specs.Prelude.{ℕ, ◌+◌, ◌-◌, ◌*◌, ◌^◌, ◌≡◌, ◌<◌, ◌≤◌, true, Option, Some}
use Rattle.spec_base.specs.Layout.{helpers_start}
use Rattle.spec_base.specs.declared.layout.Layout.{Layout}
use Rattle.spec_base.specs.declared.note.ShadowState.TheVariants.{Parked}
use Rattle.spec_base.specs.declared.park.Park.TheVariants.{Fault}
use Rattle.rv_decode.specs.declared.instr.Instr.TheVariants.{Ecall, Hcall}
use Rattle.rv_model.specs.Memory.{Memory, loaded}
use Rattle.rv_model.specs.Registers.{Registers, with_reg}
use Rattle.rv_model.specs.Space.{Space}
use Rattle.program_model.specs.PlainRun.{State}
use Rattle.code_model.specs.Log.{boxed_site, boxed}
use Rattle.code_model.specs.Places.{RESTART, block_at}
use Rattle.code_model.specs.Regions.{entry_of, slots_in_use}
use Rattle.run_model.specs.Run.{World, Run, Answer}
use Rattle.run_model.specs.ShadowMoves.{fetch_shadow}
use Rattle.run_laws.specs.OwnLaws.{Accepted}
use Rattle.run_model.specs.Restarts.{instr_at}
use Rattle.side_model.specs.Places.{HasBlock, IsInstruction}
use Rattle.code_model.specs.Tables.{Tabs, TableOk, all_regions}
use Rattle.side_model.specs.Tables.{HasTabs}
use Rattle.hart_step.specs.Core.{Core}
use Rattle.word_laws.specs.Shown.{ShowsIn, ShowsShadow}
use Rattle.run_laws.specs.Numbers.{IsSized}
use Rattle.shadow_walk.specs.Walks.{NoneArrives, words_on}
use Rattle.shadow_walk.specs.declared.walking.Walked.{Walked}
use Rattle.shadow_walk.specs.declared.walking.Walked.TheVariants as walked

-- ---- states

-- the shadow stands at the first word of RESTART, the box has the site of an instruction, and its table and list are consistent
pub record StandsAnew (w : World) (r : Run) : Type 0 where
  pub site : IsInstruction w.image.layout (boxed_site r.shared)
  pub place : r.shadow.pc ≡ helpers_start + RESTART
  pub tables : Tabs
  pub has : HasTabs w.image.layout r.shared tables
  pub ok : TableOk w.image.layout tables
  pub sized : IsSized r

-- where the address behind the site, and x31, stand in the private page
abbrev pub behind_site : Memory → ℕ
behind_site page = loaded page (2 ^ 64 - 40) 8

abbrev pub kept_x31 : Memory → ℕ
kept_x31 page = loaded page (2 ^ 64 - 8) 8

-- the shadow has what the box of this memory has: registers x1 to x30, and in the private page x31 and the address behind the site. No region has a copy
pub record IsUnboxed (w : World) (link : Memory) (r : Run) : Type 0 where
  pub registers : (i : ℕ) → 0 < i → i < 31 → r.shadow.registers i ≡ boxed link i
  pub last : kept_x31 r.shadow_page ≡ boxed link 31
  pub site : behind_site r.shadow_page ≡ boxed_site link + 4
  pub slots : slots_in_use r.shared ≡ 0
  pub entries : (region : ℕ) → region < all_regions w.image.layout → entry_of r.shared region ≡ 0
  pub sized : IsSized r

-- it stands at word 7 of the block of the call of a plain state, the one behind its HCALL
pub record StandsAnswered (w : World) (r : Run) (q : State) : Type 0 where
  pub call : instr_at w.image q ≡ Some Ecall
  pub place : r.shadow.pc ≡ block_at w.image.layout q.pc + 28
  pub tables : Tabs
  pub has : HasTabs w.image.layout r.shared tables
  pub ok : TableOk w.image.layout tables
  pub sized : IsSized r

-- it stands at word 49 of RESTART, the one behind its HCALL, with the address behind a site in the private page
pub record StandsRestarted (w : World) (r : Run) (site : ℕ) : Type 0 where
  pub is_site : IsInstruction w.image.layout site
  pub place : r.shadow.pc ≡ helpers_start + RESTART + 4 * 48
  pub behind : behind_site r.shadow_page ≡ site + 4
  pub tables : Tabs
  pub has : HasTabs w.image.layout r.shared tables
  pub ok : TableOk w.image.layout tables
  pub sized : IsSized r

-- it stands at word 1 of the block of an address, with x1 to x31 as in these registers
pub record StandsOn (w : World) (r : Run) (to : ℕ) (rs : Registers) : Type 0 where
  pub block : HasBlock w.image.layout to
  pub place : r.shadow.pc ≡ block_at w.image.layout to + 4
  pub registers : (i : ℕ) → 0 < i → i < 32 → r.shadow.registers i ≡ rs i
  pub tables : Tabs
  pub has : HasTabs w.image.layout r.shared tables
  pub ok : TableOk w.image.layout tables
  pub sized : IsSized r

-- the program's own side and the shadow's descriptors are as in an earlier run
pub record LeavesOwn (old new : Run) : Type 0 where
  pub own : new.own ≡ old.own
  pub files : new.shadow.files ≡ old.shadow.files

-- ---- a walk

-- from the first word of RESTART: after so many words, 5 for each region in use and 63 more at most, the shadow is at the HCALL of RESTART, with what the box had. Hart and memory show the run then
pub data Restarts (w : World) (x : ℕ → Answer) (r : Run) (core : Core) (space : Space) : Option Walked → Type 0 where
  calls : (n : ℕ) → n ≤ 63 + 5 * slots_in_use r.shared → NoneArrives w x r (n + 1) → ShowsShadow w (words_on w x r n) core space → fetch_shadow w (words_on w x r n).shadow.pc ≡ Some (Hcall true)
      → IsUnboxed w r.shared (words_on w x r n) → LeavesOwn r (words_on w x r n) → Restarts w x r core space (Some (walked.Call true n))

-- a walk in each run that hart and memory show at the first word of RESTART, whatever the outside answers. The second hart and memory are those after it
abbrev pub GoesAnew : Layout → Option Walked → Core → Space → Core → Space → Type 0
GoesAnew l result c s d t = (w : World) (x : ℕ → Answer) (r : Run) → Accepted w → l ≡ w.image.layout → ShowsShadow w r c s → StandsAnew w r → Restarts w x r d t result

-- behind an HCALL, up to the first arrival or park: after so many words, most at most, the shadow stands at the block of the address behind the call, with these registers and all that is shared as it was; or, exactly where that address is the text's end, it is parked by Fault
pub data Returns (w : World) (x : ℕ → Answer) (r : Run) (to : ℕ) (rs : Registers) (most : ℕ) (core : Core) (space : Space) : Option Walked → Type 0 where
  arrives : (n : ℕ) → 0 < n → n ≤ most → NoneArrives w x r n → ShowsShadow w (words_on w x r n) core space → to < w.image.layout.text_end → StandsOn w (words_on w x r n) to rs → LeavesOwn r (words_on w x r n) → (words_on w x r n).shared ≡ r.shared
      → Returns w x r to rs most core space (Some (walked.Arrived n))
  parks : (n : ℕ) → 0 < n → n ≤ most → NoneArrives w x r n → ShowsIn (Parked Fault) w (words_on w x r n) core space → to ≡ w.image.layout.text_end → Returns w x r to rs most core space (Some (walked.Parked Fault n))

-- in the block of a call it stands there after one word, even at the text's end
pub record ReturnsAtOnce (w : World) (x : ℕ → Answer) (r : Run) (to : ℕ) (core : Core) (space : Space) (result : Option Walked) : Type 0 where
  pub arrives : result ≡ Some (walked.Arrived 1)
  pub shows : ShowsShadow w (words_on w x r 1) core space
  pub stands : StandsOn w (words_on w x r 1) to r.shadow.registers
  pub left : LeavesOwn r (words_on w x r 1)
  pub shared : (words_on w x r 1).shared ≡ r.shared

-- a walk from word 7 of the block of a call, in each run that hart and memory show there
abbrev pub GoesOnward : Layout → Option Walked → Core → Space → Core → Space → Type 0
GoesOnward l result c s d t = (w : World) (x : ℕ → Answer) (r : Run) (q : State) → Accepted w → l ≡ w.image.layout → ShowsShadow w r c s → StandsAnswered w r q → ReturnsAtOnce w x r (q.pc + 4) d t result

-- a walk from word 49 of RESTART, which has 19 words at most. Register x31 comes from the private page
abbrev pub GoesBack : Layout → Option Walked → Core → Space → Core → Space → Type 0
GoesBack l result c s d t =
    (w : World) (x : ℕ → Answer) (r : Run) (site : ℕ) → Accepted w → l ≡ w.image.layout → ShowsShadow w r c s → StandsRestarted w r site
    → Returns w x r (site + 4) (with_reg r.shadow.registers 31 (kept_x31 r.shadow_page)) 19 d t result
