-- A word of the shadow leaves the numbers of the reads that were filled, or appends that of the instruction at hand: so what rests on those up to the arrivals so far stays.
use Rattle.std.proofs.Common.{◌≡◌, ℕ, zero, suc, ◌+◌, ◌≤◌, Bool, true, false, arith}
use Rattle.run_model.specs.Run.{World, Run}
use Rattle.run_model.specs.Marks.{before_use}
use Rattle.mark_laws.specs.Settled.{Alike}
use Rattle.mark_laws.proofs.Numbers.{alike-same, alike-filled, before_use_with-so_far, before_use_with-alike}
use Rattle.hint_laws.proofs.WordFacts.{filled_behind}

-- the numbers up to the arrivals so far are alike
pub fills-alike : (filled : Bool) (r y : Run) (i : ℕ) → i ≤ r.since.shadow → y.since.origin ≡ r.since.origin → y.since.filled ≡ filled_behind filled r → Alike i r y r.since.filled y.since.filled
fills-alike true r y i few e f = alike-filled i (r.since.shadow + 1) r y e f (omega (arith, few))
fills-alike false r y i few e f = alike-same i r y e f

-- and so whether a use comes before
pub fills-use : (w : World) (filled : Bool) (r y : Run) (i : ℕ) → i ≤ suc r.since.shadow → y.since.origin ≡ r.since.origin → y.since.filled ≡ filled_behind filled r → before_use w y i ≡ before_use w r i
fills-use w filled r y zero few e f = before_use_with-so_far w r y r.since.filled y.since.filled 0 (fills-alike filled r y 0 (omega arith) e f)
fills-use w filled r y (suc i) few e f = before_use_with-alike w r y r.since.filled y.since.filled i (fills-alike filled r y i (omega (arith, few)) e f)
