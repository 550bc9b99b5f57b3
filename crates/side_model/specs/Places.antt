-- The places of the shadow's words: in the block at hand, or in a helper (this project's own).
use Rattle.std.specs.Prelude.{ℕ, suc, ◌+◌, ◌-◌, ◌*◌, ◌%◌, ◌≡◌, ◌≤◌, Bool, true, false, not, ◌&&◌, ◌==◌, nat_lt, List, [], ◌∷◌, ◌++◌, slice_get, Option, None, ◌<◌, IsTrue}
use Rattle.spec_base.specs.Layout.{helpers_start, shadow_start, is_lawful}
use Rattle.spec_base.specs.declared.layout.Layout.{Layout}
use Rattle.spec_base.specs.declared.park.Park.TheVariants as park
use Rattle.rv_decode.specs.declared.instr.Instr.{Instr}
use Rattle.rv_decode.specs.declared.instr.Instr.TheVariants.{Hpark}
use Rattle.code_model.specs.Helpers.{access_helper, jump_words, load_tail, store_tail, append_words, clear_words, unbox_words}
use Rattle.code_model.specs.Places.{LOAD1, LOAD2, LOAD4, LOAD8, STORE1, STORE2, STORE4, STORE8, JUMP, LTAIL, STAIL, APPEND, RESTART, FAULT, FULL, LOGFULL}

-- ---- helpers

-- how many bytes an access has
pub data Width : Type 0 where
  W1 : Width
  W2 : Width
  W4 : Width
  W8 : Width

abbrev pub width_of : Width → ℕ
width_of W1 = 1
width_of W2 = 2
width_of W4 = 4
width_of W8 = 8

-- the helpers by name
pub data Helper : Type 0 where
  Loading : Width → Helper
  Storing : Width → Helper
  Jumping : Helper
  LoadTail : Helper
  StoreTail : Helper
  Appending : Helper
  Restarting : Helper
  Faulting : Helper
  FullUp : Helper
  LogFullUp : Helper

-- where a helper begins, as an offset from the first
abbrev pub offset_of : Helper → ℕ
offset_of (Loading W1) = LOAD1
offset_of (Loading W2) = LOAD2
offset_of (Loading W4) = LOAD4
offset_of (Loading W8) = LOAD8
offset_of (Storing W1) = STORE1
offset_of (Storing W2) = STORE2
offset_of (Storing W4) = STORE4
offset_of (Storing W8) = STORE8
offset_of Jumping = JUMP
offset_of LoadTail = LTAIL
offset_of StoreTail = STAIL
offset_of Appending = APPEND
offset_of Restarting = RESTART
offset_of Faulting = FAULT
offset_of FullUp = FULL
offset_of LogFullUp = LOGFULL

-- the least address from which an access may reach into the text
abbrev pub reaching : Layout → Width → ℕ
reaching l W1 = l.text_start
reaching l W2 = l.text_start
reaching l W4 = l.text_start
reaching l W8 = l.text_start - 4

-- its words
abbrev pub helper_words : Layout → Helper → List Instr
helper_words l (Loading w) = access_helper l (width_of w) (reaching l w) (offset_of (Loading w)) LTAIL
helper_words l (Storing w) = access_helper l (width_of w) (reaching l w) (offset_of (Storing w)) STAIL
helper_words l Jumping = jump_words l
helper_words l LoadTail = load_tail
helper_words l StoreTail = store_tail l
helper_words l Appending = append_words
helper_words l Restarting = clear_words ++ unbox_words
helper_words l Faulting = Hpark park.Fault ∷ []
helper_words l FullUp = Hpark park.Regions ∷ []
helper_words l LogFullUp = Hpark park.LogFull ∷ []

-- ---- places

-- word n of the block at hand, word n of a helper, both counted from 0, or an address
pub data Place : Type 0 where
  InBlock : (n : ℕ) → Place
  InHelper : (h : Helper) (n : ℕ) → Place
  Away : (address : ℕ) → Place

-- the pc of a place, where the block at hand begins at base
abbrev pub address : ℕ → Place → ℕ
address base (InBlock n) = base + 4 * n
address base (InHelper h n) = helpers_start + offset_of h + 4 * n
address base (Away a) = a

-- the place of the next word
abbrev pub next : Place → Place
next (InBlock n) = InBlock (suc n)
next (InHelper h n) = InHelper h (suc n)
next (Away a) = Away (a + 4)

-- the instruction at a place, where the block at hand has these words
abbrev pub code : Layout → List Instr → Place → Option Instr
code l block (InBlock n) = slice_get block n
code l block (InHelper h n) = slice_get (helper_words l h) n
code l block (Away a) = None

-- a place that is known, and isn't word 1 of a block
abbrev pub is_inner : Place → Bool
is_inner (InBlock n) = nat_lt n 16 && not (n == 1)
is_inner (InHelper h n) = true
is_inner (Away a) = false

-- where a block may begin
pub record IsBase (base : ℕ) : Type 0 where
  pub whole : base % 64 ≡ 0
  pub above : shadow_start ≤ base
  pub below : base + 64 ≤ helpers_start

-- an address that has a block: an instruction's, or the text's end
pub record HasBlock (l : Layout) (p : ℕ) : Type 0 where
  pub above : l.text_start ≤ p
  pub below : p ≤ l.text_end
  pub whole : (p - l.text_start) % 4 ≡ 0

-- an instruction of the program stands at p
pub record IsInstruction (l : Layout) (p : ℕ) : Type 0 where
  pub lawful : IsTrue (is_lawful l)
  pub above : l.text_start ≤ p
  pub below : p < l.text_end
  pub whole : p % 4 ≡ 0
