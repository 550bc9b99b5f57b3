-- Numbers that the words of blocks and helpers compute.
use Rattle.std.proofs.Common.{◌≡◌, ℕ, ◌+◌, ◌-◌, ◌*◌, ◌/◌, ◌%◌, ◌^◌, ◌<◌, ◌≤◌, true, false, ◌==◌, arith, nat_le, bit_and, IsTrue}
use Rattle.std.proofs.lemmas.Bool.Decides.{nat_tests}
use Rattle.std.proofs.lemmas.Int.{ints}
use Rattle.std.proofs.lemmas.Nat.Bits.{and_high_mask, and_pow}
use Rattle.spec_base.specs.Word.{wrap, word_of_int}
use Rattle.spec_base.specs.Layout.{is_lawful, image_limit, range_start, text_limit}
use Rattle.spec_base.specs.declared.layout.Version.{Version}
use Rattle.spec_base.specs.declared.layout.Version.TheVariants.{One, Two}
use Rattle.spec_base.specs.declared.layout.Layout.{Layout}
use Rattle.rv_model.specs.Arithmetic.{minus}
use Rattle.rv_model.specs.Effect.{even}
use Rattle.code_model.specs.Assembly.{lo}
use Rattle.code_model.specs.Blocks.{is_target}
use Rattle.side_model.specs.JumpRows.{high_part}

-- the high and the low part of a number below 2^31 − 2^11 make it
pub hi_lo : (v : ℕ) → v < 0x7FFF_F800 → wrap (high_part v + word_of_int (lo v)) ≡ v
hi_lo v h = grind (arith, nat_tests, ints)

-- ---- layouts

-- the text of a lawful layout
pub record TextFits (l : Layout) : Type 0 where
  pub start : l.text_start % 4 ≡ 0
  pub end : l.text_end % 4 ≡ 0
  pub above : range_start ≤ l.text_start
  pub some : l.text_start < l.text_end
  pub below : l.text_end ≤ 0x3FF0_0000
  pub few : l.text_end - l.text_start ≤ text_limit
  pub regions : 1 ≤ l.regions
  pub regions_few : l.regions ≤ 65_536

limit-most : (v : Version) → image_limit v ≤ 0x3FF0_0000
limit-most One = omega arith
limit-most Two = omega arith

-- what is so of a lawful layout
pub text-fits : (l : Layout) → IsTrue (is_lawful l) → TextFits l
text-fits l h =
    let most : image_limit l.version ≤ 0x3FF0_0000 = limit-most l.version in
    record {
      start = grind (arith, nat_tests, h);
      end = grind (arith, nat_tests, h);
      above = grind (arith, nat_tests, h);
      some = grind (arith, nat_tests, h);
      below = let e : l.text_end ≤ image_limit l.version = grind (arith, nat_tests, h) in omega arith;
      few = grind (arith, nat_tests, h);
      regions = grind (arith, nat_tests, h);
      regions_few = grind (arith, nat_tests, h);
    }

-- ---- JUMP

-- the lowest bit is cleared
pub and-even : (n : ℕ) → n < 2 ^ 64 → bit_and n (2 ^ 64 - 2) ≡ even n
and-even n h = let e : bit_and n (2 ^ 64 - 2) ≡ n / 2 * 2 = and_high_mask 64 1 (omega arith) n h in omega (arith, e)

-- bit 1 of an even number says whether it is a multiple of 4
bit_one : (n : ℕ) → bit_and n 2 ≡ n / 2 % 2 * 2
bit_one n = and_pow n 1

-- where it isn't, the target isn't one
pub not-whole : (l : Layout) (at : ℕ) → (bit_and (even at) 2 == 0) ≡ false → is_target l (even at) ≡ false
not-whole l at h = let e : bit_and (even at) 2 ≡ even at / 2 % 2 * 2 = bit_one (even at) in grind (arith, nat_tests)

-- where it is, and the distance from the text's start is below its length, the target is one
pub is-inside : (l : Layout) (at : ℕ) → TextFits l → at < 2 ^ 64 → (bit_and (even at) 2 == 0) ≡ true → nat_le (l.text_end - l.text_start) (minus (even at) l.text_start) ≡ false → is_target l (even at) ≡ true
is-inside l at f small h k =
    let e : bit_and (even at) 2 ≡ even at / 2 % 2 * 2 = bit_one (even at) in
    let some : l.text_start < l.text_end = f.some in
    let below : l.text_end ≤ 0x3FF0_0000 = f.below in
    grind (arith, nat_tests)

-- where it isn't below, it isn't
pub is-outside : (l : Layout) (at : ℕ) → TextFits l → at < 2 ^ 64 → nat_le (l.text_end - l.text_start) (minus (even at) l.text_start) ≡ true → is_target l (even at) ≡ false
is-outside l at f small k =
    let some : l.text_start < l.text_end = f.some in
    let below : l.text_end ≤ 0x3FF0_0000 = f.below in
    grind (arith, nat_tests)

-- a target is in the text
pub record IsInText (l : Layout) (p : ℕ) : Type 0 where
  pub above : l.text_start ≤ p
  pub below : p < l.text_end
  pub whole : p % 4 ≡ 0

pub target-inside : (l : Layout) (p : ℕ) → is_target l p ≡ true → IsInText l p
target-inside l p h = record { above = grind (arith, nat_tests); below = grind (arith, nat_tests); whole = grind (arith, nat_tests) }
