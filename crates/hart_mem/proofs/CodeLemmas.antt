-- Code that is given, and code that isn't given yet; and where a word of it stands.
use Rattle.std.proofs.Common.{◌≡◌, ℕ, ◌+◌, ◌-◌, ◌*◌, ◌/◌, ◌%◌, ◌^◌, ◌<◌, ◌≤◌, ◌==◌, ◌&&◌, Bool, true, false, nat_le, List, [], ◌∷◌, length, replicate, map, None, slice_get, option_map, refl, sym, ap, ◌∙◌, arith}
use Rattle.std.proofs.lemmas.Bool.Decides.{nat_tests}
use Rattle.std.proofs.lemmas.Option.{slice_get_past, slice_get-map}
use Rattle.rv_model.specs.Effect.{fetched}
use Rattle.rv_decode.specs.Instruction.{instr_of}
use Rattle.hart_mem.specs.Held.{code_or_zeros}
use Rattle.hart_mem.specs.Operation.{instr_of_operation}
use Rattle.hart_mem.specs.declared.operation.Operation.{Operation}

pub code_given : (code : List ℕ) (count : ℕ) → 1 ≤ length code → code ≡ code_or_zeros code count
unfolding code_or_zeros
code_given [] count h = absurd (omega arith)
code_given (word ∷ words) count h = refl

pub code_missing : (code : List ℕ) (count : ℕ) → length code ≡ 0 → replicate count 0 ≡ code_or_zeros code count
unfolding code_or_zeros
code_missing [] count h = refl
code_missing (word ∷ words) count h = absurd (omega arith)

-- ---- the number of the word at pc, by one subtraction and one rotation

abbrev offset_of : ℕ → ℕ → ℕ
offset_of start pc = (pc + (2 ^ 64 - start)) % 2 ^ 64

abbrev index_of : ℕ → ℕ
index_of offset = offset / 4 + offset % 4 * 2 ^ 62

module _ (start pc : ℕ) (aligned : start % 4 ≡ 0) (low : start < 2 ^ 62) (word : pc < 2 ^ 64) where
  index-inside : start ≤ pc → pc % 4 ≡ 0 → index_of (offset_of start pc) ≡ (pc - start) / 4
  index-inside above e = let o : offset_of start pc ≡ pc - start = omega arith in rw o (omega arith)

  index-below : pc < start → pc % 4 ≡ 0 → 2 ^ 40 ≤ index_of (offset_of start pc)
  index-below below e = let o : offset_of start pc ≡ pc + (2 ^ 64 - start) = omega arith in rw o (omega arith)

  index-between : 1 ≤ pc % 4 → 2 ^ 40 ≤ index_of (offset_of start pc)
  index-between some = omega arith

  index-outside : (b : Bool) → b ≡ (pc % 4 == 0) → (nat_le start pc && b) ≡ false → 2 ^ 40 ≤ index_of (offset_of start pc)
  index-outside true e out = index-below (grind (arith, nat_tests)) (grind (arith, nat_tests))
  index-outside false e out = index-between (grind (arith, nat_tests))

  by_test : (b : Bool) (words : List ℕ) (k index : ℕ) → (b ≡ true → index ≡ k) → (b ≡ false → length words ≤ index) → slice_get words index ≡ (elim b [ true ↦ slice_get words k | false ↦ None ])
  by_test true words k index inside outside = ap (slice_get words) (inside refl)
  by_test false words k index inside outside = slice_get_past words index (outside refl)

  pub fetched_by : (words : List ℕ) → length words < 2 ^ 40 → slice_get words (index_of (offset_of start pc)) ≡ fetched words start pc
  fetched_by words few =
      by_test (nat_le start pc && (pc % 4 == 0)) words ((pc - start) / 4) (index_of (offset_of start pc))
      (λ inside. index-inside (grind (arith, nat_tests)) (grind (arith, nat_tests)))
      (λ out. let past = index-outside (pc % 4 == 0) refl out in omega (arith, few, past))

-- ---- the operation of a word

pub operation-at : (operations : List Operation) (words : List ℕ) (index : ℕ) → map instr_of_operation operations ≡ map instr_of words → option_map instr_of_operation (slice_get operations index) ≡ option_map instr_of (slice_get words index)
operation-at operations words index same = sym (slice_get-map instr_of_operation operations index) ∙ ap (λ is. slice_get is index) same ∙ slice_get-map instr_of words index
