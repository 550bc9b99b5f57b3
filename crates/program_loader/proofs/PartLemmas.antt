-- The file parts of the segments, one after the other.
use Rattle.std.proofs.Common.{◌≡◌, ℕ, zero, suc, ◌<◌, ◌≤◌, Bool, true, false, List, [], ◌∷◌, ◌++◌, length, map, take, slice_index_or, refl, ap, sym, ◌∙◌, arith}
use Rattle.std.proofs.Math.Path.{fun_ext}
use Rattle.spec_base.specs.declared.layout.Layout.{Layout}
use Rattle.rv_model.specs.Memory.{Memory, written, zeros}
use Rattle.rv_model.specs.Rights.{in_text}
use Rattle.rv_model.specs.Space.{Space}
use Rattle.program_model.specs.Loading.{data_of, with_parts}
use Rattle.hart_mem.proofs.Loading.{data_of-written, with_parts-more}

none-of : (b : Bool) → ◌≡◌ {A = ℕ} (elim b [ true ↦ 0 | false ↦ 0 ]) 0
none-of true = refl
none-of false = refl

-- nothing is data yet
pub no-data : (l : Layout) → data_of l zeros ≡ zeros
no-data l = fun_ext (λ a. none-of (in_text l a))

pub first-part : (s : Space) → s.program ≡ zeros → s ≡ record s { program = data_of s.layout (with_parts zeros []) }
first-part s clean = ap (λ m. record s { program = m }) (clean ∙ sym (no-data s.layout))

-- one part more
pub next-part : (old now new : Space) (parts : List (ℕ × List ℕ)) (part : ℕ × List ℕ) → now ≡ record old { program = data_of old.layout (with_parts zeros parts) }
    → new ≡ record now { program = data_of now.layout (written now.program part.0 part.1) }
    → new ≡ record old { program = data_of old.layout (with_parts zeros (parts ++ part ∷ [])) }
next-part old now new parts part e f =
    f ∙ (ap (λ (s : Space). record s { program = data_of s.layout (written s.program part.0 part.1) }) e
    ∙ ap (λ (m : Memory). record old { program = m })
    (data_of-written old.layout (with_parts zeros parts) part.0 part.1 ∙ ap (λ (m : Memory). data_of old.layout m) (sym (with_parts-more zeros parts part))))

-- ---- the parts so far

pub map-more : {A B : Type 0} (f : A → B) (xs : List A) (i : ℕ) (d : A) → i < length xs → map f (take i xs) ++ f (slice_index_or xs i d) ∷ [] ≡ map f (take (suc i) xs)
map-more f [] i d h = absurd (omega (arith, h))
map-more f (x ∷ xs) zero d h = refl
map-more f (x ∷ xs) (suc i) d h = ap (λ ys. f x ∷ ys) (map-more f xs i d (omega (arith, h)))

pub take-whole : {A : Type 0} (xs : List A) (n : ℕ) → length xs ≤ n → take n xs ≡ xs
take-whole [] zero h = refl
take-whole [] (suc n) h = refl
take-whole (x ∷ xs) zero h = absurd (omega (arith, h))
take-whole (x ∷ xs) (suc n) h = ap (λ ys. x ∷ ys) (take-whole xs n (omega (arith, h)))
