-- What the words of loads and stores have in common: the address, whether the program may access it, and its place in the shadow's memory (this project's own).
use Rattle.std.specs.Prelude.{ℕ, ◌/◌, ◌%◌, ◌≡◌, ◌<◌, Bool, false, ◌&&◌, cond, ◌==◌, Option, Some, None}
use Rattle.spec_base.specs.Layout.{table_start}
use Rattle.spec_base.specs.declared.layout.Layout.{Layout}
use Rattle.spec_base.specs.declared.park.Park.{Park}
use Rattle.spec_base.specs.declared.park.Park.TheVariants as park
use Rattle.rv_decode.specs.declared.instr.LoadOp.{LoadOp}
use Rattle.rv_decode.specs.declared.instr.LoadOp.TheVariants.{Lb, Lh, Lw, Ld, Lbu, Lhu, Lwu}
use Rattle.rv_decode.specs.declared.instr.StoreOp.{StoreOp}
use Rattle.rv_decode.specs.declared.instr.StoreOp.TheVariants.{Sb, Sh, Sw, Sd}
use Rattle.rv_model.specs.Memory.{Memory, all_from}
use Rattle.rv_model.specs.Rights.{is_data}
use Rattle.code_model.specs.Regions.{byte_by_entry, copy_place}
use Rattle.side_model.specs.Hart.{Regs, Priv}
use Rattle.code_model.specs.Tables.{Tabs}
use Rattle.side_model.specs.Places.{Width, W1, W2, W4, W8, width_of}

-- ---- widths

-- how many bytes a load takes
abbrev pub load_size : LoadOp → Width
load_size Lb = W1
load_size Lh = W2
load_size Lw = W4
load_size Ld = W8
load_size Lbu = W1
load_size Lhu = W2
load_size Lwu = W4

-- how many bytes a store puts
abbrev pub store_size : StoreOp → Width
store_size Sb = W1
store_size Sh = W2
store_size Sw = W4
store_size Sd = W8

-- ---- addresses

-- an access to the program's memory doesn't trap: its address is a multiple of its width, and each of its bytes is data
abbrev pub may_access : Layout → Width → ℕ → Bool
may_access l w a = (a % width_of w == 0) && all_from (is_data l) a (width_of w)

-- where the shadow has the byte of an address, by the entry of its region: in the copy where there is one, else in the program's memory
abbrev pub place_of : ℕ → ℕ → ℕ
place_of entry a = cond (entry == 0) a (copy_place entry a)

-- the bytes that the shadow has in place of the program's memory, by the table
abbrev pub seen : Tabs → Memory → Memory → Memory
seen t shared program a = byte_by_entry (t.entry (a / 256)) shared program a

-- ---- numbers that are known

-- a number that is known, or any
abbrev pub Allows : Option ℕ → ℕ → Type 0
Allows None v = Unit {0}
Allows (Some u) v = v ≡ u

-- ---- private places

-- an access to the address `at`, with the program's registers q, for the block whose word 6 is at back
module _ (at back : ℕ) (q : Regs) where
  -- behind word 1 of the block
  abbrev pub spilled : Priv → Priv
  spilled p = record p { x31 = q.x31 }

  -- behind word 3 of the block
  abbrev pub asked : Priv → Priv
  asked p = record p { x31 = q.x31; adr = at }

  -- behind word 1 of the helper
  abbrev pub linked : Priv → Priv
  linked p = record p { x31 = q.x31; adr = at; ret = back }

  -- behind word 2 of the helper
  abbrev pub saved : Priv → Priv
  saved p = record p { x31 = q.x31; x30 = q.x30; adr = at; ret = back }

-- ---- what words leave

-- a word that leaves all below the table, and the entry of each region that has a copy
pub record Leaves (t : Tabs) (m : Memory) (t' : Tabs) (m' : Memory) : Type 0 where
  pub below : (a : ℕ) → a < table_start → m' a ≡ m a
  pub copies : (region : ℕ) → 0 < t.entry region → t'.entry region ≡ t.entry region

-- ---- parks

-- an access parks at FAULT where the program would trap
pub record AccessFaults (l : Layout) (w : Width) (at : ℕ) (cause : Park) : Type 0 where
  pub fault : cause ≡ park.Fault
  pub trap : may_access l w at ≡ false
