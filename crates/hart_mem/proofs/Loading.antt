-- Parts of a program that are loaded one after another.
use Rattle.std.proofs.Common.{◌≡◌, ℕ, Bool, true, false, List, [], ◌∷◌, ◌++◌, length, get_or, refl}
use Rattle.std.proofs.Math.Path.{fun_ext}
use Rattle.spec_base.specs.declared.layout.Layout.{Layout}
use Rattle.rv_model.specs.Memory.{Memory, written}
use Rattle.rv_model.specs.Rights.{in_text}
use Rattle.program_model.specs.Loading.{data_of, with_parts}
use Rattle.hart_mem.proofs.PartLemmas.{patch_over}

abbrev data_if : Bool → ℕ → ℕ
data_if t n = elim t [ true ↦ 0 | false ↦ n ]

data_outside : (t : Bool) (n : ℕ) → t ≡ false → data_if t n ≡ n
data_outside t n e = rw e refl

module _ (l : Layout) (m : Memory) (a : ℕ) (bytes : List ℕ) where
  -- outside the text they are the same byte
  same_outside : (b : ℕ) → in_text l b ≡ false → written (data_of l m) a bytes b ≡ written m a bytes b
  same_outside b e = patch_over (data_of l m) m a (length bytes) (λ i. get_or bytes i 0) b (data_outside (in_text l b) (m b) e)

  data_byte_of : (b : ℕ) (t : Bool) → in_text l b ≡ t → data_if t (written (data_of l m) a bytes b) ≡ data_if t (written m a bytes b)
  data_byte_of b true e = refl
  data_byte_of b false e = same_outside b e

  -- the text is left off once
  pub data_of-written : data_of l (written (data_of l m) a bytes) ≡ data_of l (written m a bytes)
  data_of-written = fun_ext (λ b. data_byte_of b (in_text l b) refl)

-- one part more
pub with_parts-more : (m : Memory) (parts : List (ℕ × List ℕ)) (part : ℕ × List ℕ) → with_parts m (parts ++ part ∷ []) ≡ written (with_parts m parts) part.0 part.1
with_parts-more m [] part = refl
with_parts-more m (first ∷ parts) part = with_parts-more (written m first.0 first.1) parts part
