-- How a run shows where its shadow is, and where a word has led it (this project's own).
use Rattle.std.specs.Prelude.{ℕ, ◌+◌, ◌-◌, ◌^◌, ◌≡◌, ◌<◌, ◌⊎◌, true}
use Rattle.spec_base.specs.declared.layout.Layout.{Layout}
use Rattle.spec_base.specs.declared.note.ShadowState.TheVariants.{Running, Parked}
use Rattle.spec_base.specs.declared.park.Park.{Park}
use Rattle.spec_base.specs.declared.park.Park.TheVariants as park
use Rattle.rv_model.specs.Memory.{Memory, loaded}
use Rattle.rv_model.specs.Registers.{Registers, reg}
use Rattle.code_model.specs.Places.{block_at}
use Rattle.run_model.specs.Run.{Run, ShadowHart}
use Rattle.side_model.specs.Hart.{Regs, get, Priv}
use Rattle.code_model.specs.Tables.{Tabs, TableOk}
use Rattle.side_model.specs.Tables.{HasTabs}
use Rattle.side_model.specs.Places.{Place, address, is_inner, HasBlock}
use Rattle.side_model.specs.Words.{Point}

-- the shadow's part of a run
pub record Shade : Type 0 where
  pub hart : ShadowHart
  pub page : Memory
  pub shared : Memory

abbrev pub shade_of : Run → Shade
shade_of r = record { hart = r.shadow; page = r.shadow_page; shared = r.shared }

-- the registers of a hart are these
pub record HasRegs (rs : Registers) (q : Regs) : Type 0 where
  pub at : (n : ℕ) → reg rs n ≡ get n q

-- a private page has these numbers
pub record HasPriv (page : Memory) (p : Priv) : Type 0 where
  pub x31 : loaded page (2 ^ 64 - 8) 8 ≡ p.x31
  pub x30 : loaded page (2 ^ 64 - 16) 8 ≡ p.x30
  pub x29 : loaded page (2 ^ 64 - 24) 8 ≡ p.x29
  pub x28 : loaded page (2 ^ 64 - 32) 8 ≡ p.x28
  pub adr : loaded page (2 ^ 64 - 40) 8 ≡ p.adr
  pub ret : loaded page (2 ^ 64 - 48) 8 ≡ p.ret
  pub ent : loaded page (2 ^ 64 - 56) 8 ≡ p.ent
  pub val : loaded page (2 ^ 64 - 64) 8 ≡ p.val

-- the shadow runs, and is at this point with this shared memory
pub record Sees (l : Layout) (base : ℕ) (h : Shade) (s : Point) (m : Memory) : Type 0 where
  pub pc : h.hart.pc ≡ address base s.place
  pub regs : HasRegs h.hart.registers s.regs
  pub priv : HasPriv h.page s.priv
  pub tabs : HasTabs l h.shared s.tabs
  pub shared : h.shared ≡ m
  pub running : h.hart.state ≡ Running

-- a word with n words left at most has led to a row, to word 1 of a block, or to a park. An exit parks, and so does a look that fails
pub data Landed (l : Layout) (base : ℕ) (Row : Place → Regs → Priv → Tabs → Memory → ℕ → Type 0)
    (Arrives : ℕ → Regs → Tabs → Memory → Type 0) (Why : Park → Tabs → Memory → Type 0) (n : ℕ) (h : Shade) : Type 0 where
  goes_on : (k : ℕ) (s : Point) (m : Memory) → Row s.place s.regs s.priv s.tabs m k → TableOk l s.tabs → k < n → is_inner s.place ≡ true → Sees l base h s m
      → Landed l base Row Arrives Why n h
  arrived : (p : ℕ) (s : Point) (m : Memory) → Arrives p s.regs s.tabs m → TableOk l s.tabs → HasBlock l p → address base s.place ≡ block_at l p + 4 → Sees l base h s m
      → Landed l base Row Arrives Why n h
  parked : (cause : Park) (t : Tabs) (m : Memory) → Why cause t m ⊎ ((cause ≡ park.Exit) ⊎ (cause ≡ park.Store)) → TableOk l t → HasTabs l h.shared t → h.hart.state ≡ Parked cause
      → Landed l base Row Arrives Why n h
