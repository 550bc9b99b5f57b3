use Rattle.std.proofs.Common.{◌≡◌, ◌∙◌, ℕ, List, Some, sym, ap, arith}
use Rattle.program_model.specs.Calls.{Whole, not_empty}
use Rattle.file_calls.proofs.DataLemmas.{IsInName-next, name_at-ends, name_at-stops, name_at-long}
use Rattle.file_calls.proofs.memory.name_at.Goals as goal

pub returns-in-None : goal.returns-in-None
returns-in-None g c = sym (name_at-stops _ _ _ _ c.loop-distance.invariant (omega arith) (sym c.byte_past.ensures ∙ c.in-None.is))

pub returns-in-Some-eq0 : goal.returns-in-Some-eq0
returns-in-Some-eq0 g c =
    let e : c.byte_past.result ≡ Some 0 = cc c.in-Some-eq0.is in
    c.name_of.ensures ∙ ap (λ (xs : List ℕ). not_empty (Whole xs)) c.as_slice.ensures.value
    ∙ sym (name_at-ends _ _ _ _ c.loop-distance.invariant (omega arith) (sym c.byte_past.ensures ∙ e))

pub loop-distance-preserved : goal.loop-distance-preserved
loop-distance-preserved g c =
    IsInName-next _ _ _ _ _ _ c.loop-distance.invariant (omega arith) (sym c.byte_past.ensures ∙ c.in-Some.is) c.in-Some.byte-test.1 c.push.ensures.items

pub returns : goal.returns
returns g c = sym (name_at-long _ _ _ _ c.loop-distance.invariant (omega arith))
