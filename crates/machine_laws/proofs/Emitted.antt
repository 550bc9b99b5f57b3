-- Each instruction of stub and helpers has a word.
use Rattle.std.proofs.Common.{◌≡◌, ℕ, ◌+◌, ◌-◌, ◌*◌, ◌%◌, ◌≤◌, ◌<◌, pos, [], ◌∷◌, ◌++◌, refl, arith}
use Rattle.std.proofs.lemmas.Int.{ints}
use Rattle.spec_base.specs.Layout.{range_start, range_end}
use Rattle.spec_base.specs.declared.layout.Layout.{Layout}
use Rattle.rv_decode.specs.Formats.{FitsIn}
use Rattle.spec_base.specs.declared.park.Park.TheVariants as park
use Rattle.rv_decode.specs.declared.instr.Instr.TheVariants.{Hpark}
use Rattle.rv_decode.specs.declared.instr.BranchOp.{BranchOp}
use Rattle.code_model.specs.Places.{LOAD1, LOAD2, LOAD4, LOAD8, STORE1, STORE2, STORE4, STORE8, LTAIL, STAIL, FAULT}
use Rattle.code_model.specs.Helpers.{access_helper, access_helpers, jump_words, load_tail, store_tail, append_words, clear_words, unbox_words, helpers, branch_out}
use Rattle.code_model.specs.Stub.{stub}
use Rattle.machine_laws.specs.Words.{HasWord, encodable, StubHasWords, HelpersHaveWords}
use Rattle.machine_laws.proofs.Fits.{lui-has, addi-has, branch-fits, jump-fits, Each, none, one, front, joined, each_is_all}

-- ---- the stub

pub stub-has : Each stub
stub-has = front 71 refl none

pub stub_has_words : StubHasWords
stub_has_words = each_is_all {code = stub} stub-has

-- ---- the helpers of accesses

-- a mask of the low bits of an address
mask-fits : (width : ℕ) → width ≤ 8 → FitsIn 12 (pos (width - 1))
mask-fits width h = grind (arith, ints)

module _ (helper : ℕ) (whole : helper % 4 ≡ 0) (low : helper ≤ 1024) where
  -- a branch out of a helper
  out-has : (op : BranchOp) (rs1 rs2 k : ℕ) → rs1 < 32 → rs2 < 32 → k ≤ 64 → HasWord (branch_out op rs1 rs2 helper k FAULT)
  out-has op rs1 rs2 k r s b = encodable (branch-fits FAULT (helper + 4 * (k - 1)) (omega arith) (omega arith) refl (omega arith)) (r, s)

  -- a helper for an access of at most 8 bytes
  access-has : (l : Layout) (width reaching tail : ℕ) → width ≤ 8 → tail % 4 ≡ 0 → tail ≤ 2048 → Each (access_helper l width reaching helper tail)
  access-has l width reaching tail w t c =
      front 3 refl
      (one (encodable (mask-fits width w) (omega arith, omega arith))
      (one (out-has _ 30 0 5 (omega arith) (omega arith) (omega arith))
      (one (lui-has 30 range_start (omega arith))
      (one (out-has _ 31 30 7 (omega arith) (omega arith) (omega arith))
      (one (lui-has 30 (range_end l.version) (omega arith))
      (one (out-has _ 31 30 9 (omega arith) (omega arith) (omega arith))
      (one (lui-has 30 reaching (omega arith))
      (one (addi-has 30 30 reaching (omega arith) (omega arith))
      (front 1 refl
      (one (lui-has 30 l.text_end (omega arith))
      (one (addi-has 30 30 l.text_end (omega arith) (omega arith))
      (one (out-has _ 31 30 15 (omega arith) (omega arith) (omega arith))
      (one (encodable (jump-fits tail (helper + 60) (omega arith) (omega arith) (omega arith) (omega arith)) (omega arith))
      none)))))))))))))

-- the eight of them
access-helpers-have : (l : Layout) → Each (access_helpers l)
access-helpers-have l =
    joined (access-has LOAD1 refl (omega arith) l 1 l.text_start LTAIL (omega arith) refl (omega arith))
    (joined (access-has LOAD2 refl (omega arith) l 2 l.text_start LTAIL (omega arith) refl (omega arith))
    (joined (access-has LOAD4 refl (omega arith) l 4 l.text_start LTAIL (omega arith) refl (omega arith))
    (joined (access-has LOAD8 refl (omega arith) l 8 (l.text_start - 4) LTAIL (omega arith) refl (omega arith))
    (joined (access-has STORE1 refl (omega arith) l 1 l.text_start STAIL (omega arith) refl (omega arith))
    (joined (access-has STORE2 refl (omega arith) l 2 l.text_start STAIL (omega arith) refl (omega arith))
    (joined (access-has STORE4 refl (omega arith) l 4 l.text_start STAIL (omega arith) refl (omega arith))
    (access-has STORE8 refl (omega arith) l 8 (l.text_start - 4) STAIL (omega arith) refl (omega arith))))))))

-- ---- the other helpers: what hangs on the layout is an address or a bound, in a lui and an addi

jump-has : (l : Layout) → Each (jump_words l)
jump-has l =
    front 5 refl
    (one (lui-has 30 l.text_start (omega arith))
    (one (addi-has 30 30 l.text_start (omega arith) (omega arith))
    (front 1 refl
    (one (lui-has 30 (l.text_end - l.text_start) (omega arith))
    (one (addi-has 30 30 (l.text_end - l.text_start) (omega arith) (omega arith))
    (front 6 refl none))))))

store_tail-has : (l : Layout) → Each (store_tail l)
store_tail-has l =
    front 11 refl (one (lui-has 31 l.regions (omega arith)) (one (addi-has 31 31 l.regions (omega arith) (omega arith)) (front 33 refl none)))

-- the helpers that are the same for each layout
load_tail-has : Each load_tail
load_tail-has = front 15 refl none

-- APPEND, and all that comes after it
rest-has : Each (append_words ++ (clear_words ++ (unbox_words ++ (Hpark park.Fault ∷ Hpark park.Regions ∷ Hpark park.LogFull ∷ []))))
rest-has = front 77 refl none

-- the 282 words
pub helpers-have : (l : Layout) → Each (helpers l)
helpers-have l = joined (access-helpers-have l) (joined (jump-has l) (joined load_tail-has (joined (store_tail-has l) rest-has)))

pub helpers_have_words : HelpersHaveWords
helpers_have_words l = each_is_all {code = helpers l} (helpers-have l)
