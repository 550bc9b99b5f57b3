-- What the blocks have in common: NEXT, numbers that two words build, and that the program does the same.
use Rattle.std.proofs.Common.{◌≡◌, ℕ, ◌+◌, ◌-◌, ◌*◌, ◌/◌, ◌%◌, ◌^◌, ◌<◌, ◌≤◌, Bool, true, false, ◌==◌, ℤ, pos, negsuc, refl, ◌∙◌, ap, sym, subst, arith, nat_le}
use Rattle.std.proofs.lemmas.Bool.Decides.{nat_tests}
use Rattle.std.proofs.lemmas.Int.{ints}
use Rattle.spec_base.specs.Word.{wrap, word_of_int, plus_int}
use Rattle.spec_base.specs.declared.layout.Layout.{Layout}
use Rattle.rv_decode.specs.Formats.{FitsIn, IsMultipleOf}
use Rattle.rv_model.specs.Memory.{Memory}
use Rattle.rv_model.specs.Registers.{Registers, with_reg}
use Rattle.rv_model.specs.Effect.{Next, steps_on, after}
use Rattle.code_model.specs.Assembly.{diff, lo}
use Rattle.code_model.specs.Places.{block_at}
use Rattle.side_model.specs.Hart.{Regs, get, put}
use Rattle.code_model.specs.Tables.{Tabs}
use Rattle.side_model.specs.Places.{HasBlock, IsInstruction}
use Rattle.side_model.specs.JumpRows.{high_part}
use Rattle.side_model.specs.Sees.{HasRegs}
use Rattle.side_model.specs.Tables.{IsUnchanged}
use Rattle.side_model.proofs.Registers.{put_put, get_put, put_zero, HasRegs-put}
use Rattle.side_model.proofs.Numbers.{TextFits, text-fits, hi_lo}
use Rattle.rows_flow.specs.Following.{GoesOn}
use Rattle.rows_flow.specs.PlainRows.{quarter_of}

-- a word that changes nothing
pub same : {t : Tabs} {m : Memory} → IsUnchanged t m t m
same = record { tables = refl; memory = refl }

-- ---- the next instruction

module _ (l : Layout) (p : ℕ) (is : IsInstruction l p) where
  text : TextFits l
  text = text-fits l is.lawful

  -- NEXT, in word k of the block, leads to word 1 of the next one
  pub onto_next : (k : ℕ) → k ≤ 15 → plus_int (block_at l p + 4 * k) (pos (68 - 4 * k)) ≡ block_at l (p + 4) + 4
  onto_next k few = omega (arith, few, is.above, is.below, text.few)

  -- which there is
  pub next_block : HasBlock l (p + 4)
  next_block = record { above = omega (arith, is.above); below = omega (arith, is.below, is.whole, text.end); whole = omega (arith, is.above, is.whole, text.start) }

  -- where the program goes on, too
  pub next_pc : after p ≡ p + 4
  next_pc = omega (arith, is.below, text.below)

  -- with a register written
  pub steps : (was : Registers) (q : Regs) (rd v : ℕ) → HasRegs was q → GoesOn (steps_on (with_reg was rd v) p) (p + 4) (put rd v q)
  steps was q rd v h = record { registers = with_reg was rd v; next = ap (Next (with_reg was rd v)) next_pc; shown = HasRegs-put was q rd v h }

-- ---- numbers that two words build

-- the second word adds to what the first has left in the register
pub built : (rd high low v : ℕ) (q : Regs) → wrap (high + low) ≡ v → put rd (wrap (get rd (put rd high q) + low)) (put rd high q) ≡ put rd v q
built rd high low v q e = put_put rd (wrap (get rd (put rd high q) + low)) high q ∙ by_test (rd == 0) refl
  where
    by_test : (b : Bool) → (rd == 0) ≡ b → put rd (wrap (get rd (put rd high q) + low)) q ≡ put rd v q
    by_test true z = put_zero rd (wrap (get rd (put rd high q) + low)) v q z
    by_test false z = ap (λ (x : ℕ). put rd (wrap (x + low)) q) (get_put rd high q z) ∙ ap (λ (x : ℕ). put rd x q) e

-- the third word multiplies it
pub shifted : (rd quarter v : ℕ) (q : Regs) → wrap (quarter * 4) ≡ v → put rd (wrap (get rd (put rd quarter q) * 4)) (put rd quarter q) ≡ put rd v q
shifted rd quarter v q e = put_put rd (wrap (get rd (put rd quarter q) * 4)) quarter q ∙ by_test (rd == 0) refl
  where
    by_test : (b : Bool) → (rd == 0) ≡ b → put rd (wrap (get rd (put rd quarter q) * 4)) q ≡ put rd v q
    by_test true z = put_zero rd (wrap (get rd (put rd quarter q) * 4)) v q z
    by_test false z = ap (λ (x : ℕ). put rd (wrap (x * 4)) q) (get_put rd quarter q z) ∙ ap (λ (x : ℕ). put rd x q) e

-- ---- auipc

-- of a number a little below 2^62 they make one as much below 2^64
hi_lo-top : (x : ℕ) → 1 ≤ x → x ≤ 0x2000_0000 → wrap (high_part (2 ^ 62 - x) + word_of_int (lo (2 ^ 62 - x))) ≡ 2 ^ 64 - x
hi_lo-top x some most = grind (arith, nat_tests, ints)

-- a quarter of a small number
quarter-low : (v : ℕ) → v < 0xC000_0000 → v % 4 ≡ 0 → wrap (quarter_of v * 4) ≡ v
quarter-low v small whole = let e : quarter_of v ≡ v / 4 = hi_lo (v / 4) (omega arith) in ap (λ (x : ℕ). wrap (x * 4)) e ∙ omega arith

-- and of one just below 2^64
quarter-top : (v : ℕ) → v < 2 ^ 64 → 2 ^ 64 - 0x8000_0000 ≤ v → v % 4 ≡ 0 → wrap (quarter_of v * 4) ≡ v
quarter-top v small high whole =
    let x : ℕ = (2 ^ 64 - v) / 4 in
    let is : v / 4 ≡ 2 ^ 62 - x = omega arith in
    let e : quarter_of v ≡ 2 ^ 64 - x = ap (λ (w : ℕ). wrap (high_part w + word_of_int (lo w))) is ∙ hi_lo-top x (omega arith) (omega arith) in
    ap (λ (w : ℕ). wrap (w * 4)) e ∙ omega arith

-- the result of an auipc is four times what is built of its quarter
pub quarter : (l : Layout) (p : ℕ) (imm : ℤ) → IsInstruction l p → FitsIn 32 imm → IsMultipleOf 4096 imm → wrap (quarter_of (plus_int p imm) * 4) ≡ plus_int p imm
quarter l p (pos n) is fits whole =
    let most : p < 0x3FF0_0000 = let t : TextFits l = text-fits l is.lawful in omega (arith, is.below, t.below) in
    let few : n < 0x8000_0000 = grind (arith, nat_tests, ints, fits.1) in
    let four : n % 4096 ≡ 0 = whole in
    let sum : plus_int p (pos n) ≡ p + n = omega arith in
    subst (λ (v : ℕ). wrap (quarter_of v * 4) ≡ v) (sym sum) (quarter-low (p + n) (omega arith) (omega (arith, is.whole)))
quarter l p (negsuc n) is fits whole =
    let most : p < 0x3FF0_0000 = let t : TextFits l = text-fits l is.lawful in omega (arith, is.below, t.below) in
    let few : n < 0x8000_0000 = grind (arith, nat_tests, ints, fits.0) in
    let four : (n + 1) % 4096 ≡ 0 = grind (arith, nat_tests, ints, whole) in
    by_order (nat_le (n + 1) p) refl most few four
  where
    by_order : (b : Bool) → nat_le (n + 1) p ≡ b → p < 0x3FF0_0000 → n < 0x8000_0000 → (n + 1) % 4096 ≡ 0 → wrap (quarter_of (plus_int p (negsuc n)) * 4) ≡ plus_int p (negsuc n)
    by_order true e most few four =
        let above : n + 1 ≤ p = grind (arith, nat_tests) in
        let sum : plus_int p (negsuc n) ≡ p - (n + 1) = omega arith in
        subst (λ (v : ℕ). wrap (quarter_of v * 4) ≡ v) (sym sum) (quarter-low (p - (n + 1)) (omega arith) (omega (arith, is.whole)))
    by_order false e most few four =
        let under : p < n + 1 = grind (arith, nat_tests) in
        let sum : plus_int p (negsuc n) ≡ 2 ^ 64 - (n + 1 - p) = omega arith in
        subst (λ (v : ℕ). wrap (quarter_of v * 4) ≡ v) (sym sum) (quarter-top (2 ^ 64 - (n + 1 - p)) (omega arith) (omega arith) (omega (arith, is.whole)))

-- ---- jumps

-- a jump by a difference leads to the number that it was taken from
pub by_diff : (a b : ℕ) → a < 2 ^ 63 → b < 2 ^ 63 → plus_int b (diff a b) ≡ a
by_diff a b h k = grind (arith, nat_tests, ints)
