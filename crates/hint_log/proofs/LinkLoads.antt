-- The shadow loads each number of the link, and the number that it loads is that of the shared parts.
use Rattle.std.proofs.Common.{◌≡◌, ℕ, zero, suc, ◌+◌, ◌%◌, ◌≤◌, ◌<◌, true, false, Ok, refl, arith, ◌==◌, eq-eqb}
use Rattle.std.proofs.lemmas.Bool.Decides.{nat_tests}
use Rattle.spec_base.specs.Layout.{link_start, link_bytes}
use Rattle.spec_base.specs.declared.layout.Layout.{Layout}
use Rattle.spec_base.specs.declared.machine.View.TheVariants.{Shadow}
use Rattle.rv_model.specs.Memory.{loaded, all_from}
use Rattle.rv_model.specs.Rights.{in_link, in_private, in_range, rights_of}
use Rattle.rv_model.specs.Space.{Space, sees}
use Rattle.hart_mem.specs.Held.{load_answer}
use Rattle.hart_mem.proofs.Grains.{range_end-below}
use Rattle.hart_mem.proofs.Numbers.{loaded_same}

-- an address is one of the link's
record InLink (a : ℕ) : Type 0 where
  low : link_start ≤ a
  high : a < link_start + link_bytes

module _ (l : Layout) (a : ℕ) (link : InLink a) where
  -- it isn't of the private page
  not_private : in_private a ≡ false
  not_private = grind (arith, nat_tests, link.low, link.high)

  -- nor of the program range
  not_range : in_range l a ≡ false
  not_range = grind (arith, nat_tests, link.low, link.high, range_end-below l.version)

  -- it is of the link, by the test
  is_link : in_link a ≡ true
  is_link = grind (arith, nat_tests, link.low, link.high)

  -- the shadow may load it
  may_load : (rights_of Shadow l).load a ≡ true
  may_load = rw (not_private, is_link) refl

-- so it may load n bytes of the link
may_load_all : (l : Layout) (a n : ℕ) → link_start ≤ a → a + n ≤ link_start + link_bytes → all_from (rights_of Shadow l).load a n ≡ true
unfolding all_from
may_load_all l a zero low high = refl
may_load_all l a (suc n) low high =
    rw (may_load l a (record { low = low; high = omega arith })) (may_load_all l (a + 1) n (omega arith) (omega arith))

-- a byte of the link is one of the shared parts
byte_seen : (s : Space) (a : ℕ) → InLink a → sees Shadow s a ≡ s.shared a
byte_seen s a link =
    let private : in_private a ≡ false = not_private s.layout a link in
    let range : in_range s.layout a ≡ false = not_range s.layout a link in
    grind (arith, private, range)

-- a number of the link is loaded from the shared parts
pub link_answer : (s : Space) (a : ℕ) → a % 8 ≡ 0 → link_start ≤ a → a + 8 ≤ link_start + link_bytes → load_answer Shadow s a 8 ≡ Ok (loaded s.shared a 8)
link_answer s a aligned low high =
    let even : (a % 8 == 0) ≡ true = eq-eqb _ _ aligned in
    let inside : all_from (rights_of Shadow s.layout).load a 8 ≡ true = may_load_all s.layout a 8 low high in
    let same : loaded (sees Shadow s) a 8 ≡ loaded s.shared a 8 =
    loaded_same (sees Shadow s) s.shared 8 a a (λ i h. byte_seen s (a + i) (record { low = omega arith; high = omega arith })) in
    rw (even, inside, same) refl
