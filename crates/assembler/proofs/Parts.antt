-- Code that is appended in parts.
use Rattle.std.proofs.Common.{◌≡◌, ℕ, ◌+◌, List, ◌++◌, take, length, min, sym, ap, ◌∙◌, arith, append_assoc}
use Rattle.std.proofs.lemmas.List.{map-append, take-append-le, take_min}
use Rattle.std.proofs.Math.Seq.{take-append-add}
use Rattle.std.specs.Prelude.{Result, Ok, Err, OnOk, OnErr}
use Rattle.spec_base.specs.declared.memory_fault.NoMemory.{NoMemory}
use Rattle.rv_decode.specs.declared.instr.Instr.{Instr}
use Rattle.rv_encode.specs.Code.{Code}
use Rattle.assembler.specs.Emitted.{with_code, HasPart}

-- two lists, one after the other, are their concatenation
pub with_code-append : (code : Code) (a b : List Instr) → with_code (with_code code a) b ≡ with_code code (a ++ b)
with_code-append code a b = simp (map-append, append_assoc)

-- the first few of a list are the first few of a longer one
take-longer : (n : ℕ) (a b : List Instr) → take (min n (length a)) (a ++ b) ≡ take n a
take-longer n a b = take-append-le (min n (length a)) a b (omega arith) ∙ take_min n a

pub part-first : (old new : Code) (a b : List Instr) → HasPart old new a → HasPart old new (a ++ b)
part-first old new a b h = record {
  count = min h.count (length a);
  words = h.words ∙ ap (with_code old) (sym (take-longer h.count a b));
}

-- a list, and the first few of the next
pub part-then : (old mid new : Code) (a b : List Instr) → mid ≡ with_code old a → HasPart mid new b → HasPart old new (a ++ b)
part-then old mid new a b e h = record {
  count = length a + h.count;
  words =
      h.words ∙ ap (λ c. with_code c (take h.count b)) e ∙ with_code-append old a (take h.count b)
      ∙ ap (with_code old) (sym (take-append-add a b h.count));
}

-- a list, and the whole of the next
pub whole-then : (old mid new : Code) (a b : List Instr) → mid ≡ with_code old a → new ≡ with_code mid b → new ≡ with_code old (a ++ b)
whole-then old mid new a b e f = f ∙ ap (λ c. with_code c b) e ∙ with_code-append old a b

-- ---- the same, where the last of the calls has an answer

-- a first list failed within
pub failed-first : (r : Result (Unit {0}) NoMemory) (old new : Code) (a b : List Instr) → HasPart old new a → OnErr r (HasPart old new (a ++ b))
failed-first (Ok done) old new a b h = tt
failed-first (Err fault) old new a b h = part-first old new a b h

-- a next list fails within, if it fails
pub failed-then : (r : Result (Unit {0}) NoMemory) (old mid new : Code) (a b : List Instr) → mid ≡ with_code old a → OnErr r (HasPart mid new b) → OnErr r (HasPart old new (a ++ b))
failed-then (Ok done) old mid new a b e h = tt
failed-then (Err fault) old mid new a b e h = part-then old mid new a b e h

-- a next list is whole, if it doesn't fail
pub done-then : (r : Result (Unit {0}) NoMemory) (old mid new : Code) (a b : List Instr) → mid ≡ with_code old a → OnOk r (new ≡ with_code mid b) → OnOk r (new ≡ with_code old (a ++ b))
done-then (Ok done) old mid new a b e f = whole-then old mid new a b e f
done-then (Err fault) old mid new a b e f = tt
