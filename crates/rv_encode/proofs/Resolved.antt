-- Closing resolves each label.
use Rattle.std.proofs.Common.{◌≡◌, ◌≢◌, ℕ, ◌<◌, List, [], ◌∷◌, length, get_or, Option, Some, None, Ok, IsTrue, is_some, unwrap_or, arith, refl, sym, ◌∙◌, subst}
use Rattle.std.specs.Prelude.{slice_index, slice_set}
use Rattle.std.specs.List.{All}
use Rattle.std.proofs.lemmas.List.{length-set, get_or-set_same, get_or-set_other}
use Rattle.std.proofs.lemmas.List.Elements.{All-nil, All-cons, All-head, All-tail, All-weaker}
use Rattle.rv_decode.specs.Encoding.{word_of}
use Rattle.rv_encode.specs.Code.{Code, reaches, distance, with_distance, place_of, target_of, first_unbound, first_far, resolved, closing, closed_of}
use Rattle.rv_encode.specs.Resolved.{LabelsResolved, Ascend}
use Rattle.rv_encode.specs.declared.closing.Use.{Use}

module _ (places : List (Option ℕ)) where
  -- the word of a jump to its label
  abbrev jump_to : Use → ℕ
  jump_to u = word_of (with_distance u.instr (distance u.at (target_of places u)))

  length-resolved : (us : List Use) (words : List ℕ) → length (resolved places us words) ≡ length words
  length-resolved [] words = refl
  length-resolved (u ∷ us) words = length-resolved us (slice_set words u.at (jump_to u)) ∙ length-set words u.at (jump_to u)

  -- a word at which no jump stands stays
  resolved-other : (us : List Use) (words : List ℕ) (k : ℕ) → All (λ u. u.at ≢ k) us → slice_index (resolved places us words) k ≡ slice_index words k
  resolved-other [] words k h = refl
  resolved-other (u ∷ us) words k h =
      resolved-other us (slice_set words u.at (jump_to u)) k (All-tail (λ u. u.at ≢ k) u us h)
      ∙ get_or-set_other words u.at k (jump_to u) 0 (λ e. All-head (λ u. u.at ≢ k) u us h (sym e))

  after-other : (k : ℕ) (us : List Use) → All (λ v. k < v.at) us → All (λ v. v.at ≢ k) us
  after-other k us h = All-weaker (λ v. k < v.at) (λ v. v.at ≢ k) (λ v lt e. omega (arith, lt, e)) us h

  -- a jump's word stands where the jump stands
  resolved-jumps : (us : List Use) (words : List ℕ) → Ascend us → All (λ u. u.at < length words) us → All (λ u. slice_index (resolved places us words) u.at ≡ jump_to u) us
  resolved-jumps [] words a h = All-nil (λ u. slice_index words u.at ≡ jump_to u)
  resolved-jumps (u ∷ us) words a h =
      let after : List ℕ = slice_set words u.at (jump_to u) in
      let inside : All (λ u. u.at < length words) us = All-tail (λ u. u.at < length words) u us h in
      let inside_after : All (λ u. u.at < length after) us =
      All-weaker (λ u. u.at < length words) (λ u. u.at < length after) (λ v lt. omega (arith, lt, length-set words u.at (jump_to u))) us inside in
      All-cons (λ u. slice_index (resolved places us after) u.at ≡ jump_to u) u us
      (resolved-other us after u.at (after-other u.at us a.0)
      ∙ get_or-set_same words u.at (jump_to u) 0 (All-head (λ u. u.at < length words) u us h))
      (resolved-jumps us after a.1 inside_after)

  -- where no label lacks a place, each jump has its target
  has_place : (o : Option ℕ) → IsTrue (is_some o) → o ≡ Some (unwrap_or o 0)
  has_place (Some p) h = refl
  has_place None h = grind arith

  bound-each : (us : List Use) → first_unbound places us ≡ None → All (λ u. place_of places u.to ≡ Some (target_of places u)) us
  bound-each [] e = All-nil (λ u. place_of places u.to ≡ Some (target_of places u))
  bound-each (u ∷ us) e =
      All-cons (λ u. place_of places u.to ≡ Some (target_of places u)) u us
      (has_place (place_of places u.to) (grind arith)) (bound-each us (grind arith))

  near-each : (us : List Use) → first_far places us ≡ None → All (λ u. IsTrue (reaches u.instr u.at (target_of places u))) us
  near-each [] e = All-nil (λ u. IsTrue (reaches u.instr u.at (target_of places u)))
  near-each (u ∷ us) e =
      All-cons (λ u. IsTrue (reaches u.instr u.at (target_of places u))) u us (grind arith) (near-each us (grind arith))

-- what an Ok of a closing says
closing-ok : (a b : Option ℕ) (made words : List ℕ) → closing a b made ≡ Ok words → (a ≡ None) × (b ≡ None) × (made ≡ words)
closing-ok a b made words e = grind arith

pub labels_resolved : (code : Code) (words : List ℕ) → Ascend code.uses → All (λ u. u.at < length code.words) code.uses → closed_of code ≡ Ok words → LabelsResolved code words
labels_resolved code words ascend within closed =
    let ok : (first_unbound code.places code.uses ≡ None) × (first_far code.places code.uses ≡ None) × (resolved code.places code.uses code.words ≡ words) =
    closing-ok (first_unbound code.places code.uses) (first_far code.places code.uses) (resolved code.places code.uses code.words) words closed in
    subst (λ ws. LabelsResolved code ws) ok.2 (record {
      as_many = length-resolved code.places code.uses code.words;
      jumps = λ k d lt. record {
        place = target_of code.places (get_or code.uses k d);
        bound = bound-each code.places code.uses ok.0 k d lt;
        near = near-each code.places code.uses ok.1 k d lt;
        word = resolved-jumps code.places code.uses code.words ascend within k d lt;
      };
      others = λ k h. resolved-other code.places code.uses code.words k h;
    })
