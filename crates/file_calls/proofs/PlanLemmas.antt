-- A call's plan depends on memory only where it is data.
use Rattle.std.proofs.Common.{◌≡◌, ℕ, zero, suc, ◌+◌, ◌∙◌, Bool, true, false, List, [], ◌∷◌, ◌++◌, refl, ap, sym}
use Rattle.std.specs.Prelude.{◌%◌, ◌==◌}
use Rattle.rv_model.specs.Memory.{Memory}
use Rattle.program_model.specs.Descriptors.{Descriptors, EINVAL}
use Rattle.program_model.specs.Calls.{Named, name_from, not_empty, open_named, open_plan, CallKind, Open, OpenAt, Close, Seek, ReadFile, WriteFile, ExitProgram, Break, Unknown, Set, plan_by}
use Rattle.file_calls.proofs.DataLemmas.{after_byte, name_from-suc, name_from-fault}

module _ (d : ℕ → Bool) (m m' : Memory) (same : (a : ℕ) → d a ≡ true → m a ≡ m' a) where
  after_byte-agrees : (a n b : ℕ) (bytes : List ℕ) (is_end : Bool)
      → ((bytes : List ℕ) → name_from d m (a + 1) n bytes ≡ name_from d m' (a + 1) n bytes)
      → after_byte d m a n b bytes is_end ≡ after_byte d m' a n b bytes is_end
  after_byte-agrees a n b bytes true rest = refl
  after_byte-agrees a n b bytes false rest = rest (bytes ++ b ∷ [])

  name_from-one : (n a : ℕ) (bytes : List ℕ) (is_data : Bool) → d a ≡ is_data
      → ((bytes : List ℕ) → name_from d m (a + 1) n bytes ≡ name_from d m' (a + 1) n bytes)
      → name_from d m a (suc n) bytes ≡ name_from d m' a (suc n) bytes
  name_from-one n a bytes true e rest =
      name_from-suc d m a n (m' a) bytes e (same a e)
      ∙ (after_byte-agrees a n (m' a) bytes (m' a == 0) rest ∙ sym (name_from-suc d m' a n (m' a) bytes e refl))
  name_from-one n a bytes false e rest = name_from-fault d m a n bytes e ∙ sym (name_from-fault d m' a n bytes e)

  name_from-agrees : (n a : ℕ) (bytes : List ℕ) → name_from d m a n bytes ≡ name_from d m' a n bytes
  unfolding name_from
  name_from-agrees zero a bytes = refl
  name_from-agrees (suc n) a bytes = name_from-one n a bytes (d a) refl (name_from-agrees n (a + 1))

  open_plan-agrees : (f : Descriptors) (name flags : ℕ) → open_plan d m f name flags ≡ open_plan d m' f name flags
  open_plan-agrees f name flags =
      ap (λ (named : Named). elim (flags % 4 == 0) [ true ↦ open_named f (not_empty named) | false ↦ Set f EINVAL ]) (name_from-agrees 256 name [])

  plan_by-agrees : (f : Descriptors) (kind : CallKind) (x10 x11 x12 : ℕ) → plan_by d m f kind x10 x11 x12 ≡ plan_by d m' f kind x10 x11 x12
  plan_by-agrees f Open x10 x11 x12 = open_plan-agrees f x10 x11
  plan_by-agrees f OpenAt x10 x11 x12 = open_plan-agrees f x11 x12
  plan_by-agrees f Close x10 x11 x12 = refl
  plan_by-agrees f Seek x10 x11 x12 = refl
  plan_by-agrees f ReadFile x10 x11 x12 = refl
  plan_by-agrees f WriteFile x10 x11 x12 = refl
  plan_by-agrees f ExitProgram x10 x11 x12 = refl
  plan_by-agrees f Break x10 x11 x12 = refl
  plan_by-agrees f Unknown x10 x11 x12 = refl
