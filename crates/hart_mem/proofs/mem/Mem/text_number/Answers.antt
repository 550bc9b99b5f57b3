use Rattle.std.proofs.Common.{◌≡◌, ◌+◌, ◌-◌, ◌*◌, ◌<◌, ◌≤◌, ◌⊎◌, inl, inr, ℕ, ◌∙◌, ap, subst, arith}
use Rattle.std.proofs.lemmas.Bool.Decides.{nat_tests}
use Rattle.spec_base.specs.declared.machine.View.TheVariants.{Shadow}
use Rattle.rv_model.specs.Memory.{Memory, loaded}
use Rattle.rv_model.specs.Space.{sees}
use Rattle.hart_mem.specs.Held.{space_of}
use Rattle.hart_mem.proofs.Numbers.{byte_more, loaded_none, loaded_step, room_for_byte}
use Rattle.hart_mem.proofs.mem.Mem.text_number.Goals as goal

-- one byte more is small
one_more : (m : Memory) (a i k : ℕ) → m (a + (i - 1)) < 256 → i - 1 ≤ k → (i ≤ k → m (a + k) < 256) → m (a + k) < 256
one_more m a i k first low rest = by_order (cases (i - 1) k low)
  where
    cases : (n k : ℕ) → n ≤ k → (n ≡ k) ⊎ (n + 1 ≤ k)
    cases n k h = grind (arith, nat_tests)

    by_order : (i - 1 ≡ k) ⊎ (i - 1 + 1 ≤ k) → m (a + k) < 256
    by_order (inl e) = subst (λ n. m (a + n) < 256) e first
    by_order (inr h) = rest (omega arith)

pub loop-i-init : goal.loop-i-init
loop-i-init c =
    let none : c.args.size - c.args.size ≡ 0 = omega arith in
    record { value = loaded_none _ (c.args.size - c.args.size) _ none; bound = rw none (omega arith); bytes = λ k low high. absurd (omega arith) }

pub overflow_mul-value : goal.overflow_mul-value
overflow_mul-value c = omega (arith, room_for_byte (c.args.size - c.loop-i.i), c.loop-i.invariant.bound, c.requires.size)

pub overflow_add-value : goal.overflow_add-value
overflow_add-value c = omega (arith, room_for_byte (c.args.size - c.loop-i.i), c.loop-i.invariant.bound, c.requires.size, c.range_byte.type_inv)

pub loop-i-preserved : goal.loop-i-preserved
loop-i-preserved c =
    let m : Memory = sees Shadow (space_of c.args.self.now) in
    record {
      value = ap (λ (v : ℕ). v * 256 + c.range_byte.result) c.loop-i.invariant.value ∙ ap (λ (b : ℕ). loaded m (c.args.address + c.loop-i.i) (c.args.size - c.loop-i.i) * 256 + b) c.range_byte.ensures ∙ loaded_step m (c.args.size - c.loop-i.i) (c.args.size - (c.loop-i.i - 1)) (c.args.address + (c.loop-i.i - 1)) (c.args.address + c.loop-i.i) (omega arith) (omega arith);
      bound = byte_more (c.args.size - c.loop-i.i) (c.args.size - (c.loop-i.i - 1)) c.loop-i.value c.range_byte.result (omega arith) c.loop-i.invariant.bound c.range_byte.type_inv;
      bytes = λ k low high. one_more m c.args.address c.loop-i.i k (omega (arith, c.range_byte.ensures, c.range_byte.type_inv)) low (λ above. c.loop-i.invariant.bytes k above high);
    }
