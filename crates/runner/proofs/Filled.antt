-- The run whose shadow's read is filled, or isn't.
use Rattle.std.proofs.Common.{◌≡◌, ℕ, zero, suc, ◌-◌, ◌<◌, Bool, true, false, refl, ap, ◌∙◌, arith}
use Rattle.spec_base.specs.declared.spot.ReadSpot.{ReadSpot}
use Rattle.program_model.specs.Calls.{bytes_read}
use Rattle.run_model.specs.Run.{World, Run}
use Rattle.run_model.specs.ShadowMoves.{fill, fill_if, is_filled}
use Rattle.machine_laws.specs.OneMachine.{space_of_run}
use Rattle.runner_parts.specs.Fillings.{can_fill, filled_if, fill_notes}

-- of a read of some bytes
pub filled-where : (w : World) (r : Run) (spot : ReadSpot) (a n : ℕ) → 0 < n → is_filled w r spot a n ≡ can_fill r.cache (space_of_run w r) spot a (n - 1)
unfolding space_of_run
filled-where w r spot a zero some = absurd (omega (arith, some))
filled-where w r spot a (suc n) some = (let one : n ≡ suc n - 1 = omega arith in ap (λ (k : ℕ). can_fill r.cache (space_of_run w r) spot a k) one)

-- the run in its parts
abbrev pub filled_run : Bool → World → ReadSpot → ℕ → Run → Run
filled_run b w spot a r =
    record r {
      shared = (filled_if b (space_of_run w r) a (bytes_read w.files spot)).shared;
      since = record r.since { filled = (fill_if b w spot a r).since.filled };
      notes = fill_notes b spot r.notes;
    }

fill-parts : (b : Bool) (w : World) (spot : ReadSpot) (a : ℕ) (r : Run) → fill_if b w spot a r ≡ filled_run b w spot a r
unfolding space_of_run
fill-parts true w spot a r = refl
fill-parts false w spot a r = refl

pub fill-is : (w : World) (spot : ReadSpot) (a : ℕ) (r : Run) → 0 < spot.count → fill w spot a r ≡ filled_run (can_fill r.cache (space_of_run w r) spot a (spot.count - 1)) w spot a r
fill-is w spot a r some = ap (λ (b : Bool). fill_if b w spot a r) (filled-where w r spot a spot.count some) ∙ fill-parts (can_fill r.cache (space_of_run w r) spot a (spot.count - 1)) w spot a r

-- its memory
pub filled-space : (b : Bool) (w : World) (spot : ReadSpot) (a : ℕ) (r : Run) → filled_if b (space_of_run w r) a (bytes_read w.files spot) ≡ space_of_run w (filled_run b w spot a r)
unfolding space_of_run
filled-space true w spot a r = refl
filled-space false w spot a r = refl

-- a read of no bytes isn't filled
pub unfilled : (w : World) (spot : ReadSpot) (a : ℕ) (r : Run) → spot.count ≡ 0 → fill w spot a r ≡ r
unfilled w spot a r none = ap (λ (n : ℕ). fill_if (is_filled w r spot a n) w spot a r) none
