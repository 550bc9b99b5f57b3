-- Idle moves.
use Rattle.std.proofs.Common.{◌≡◌, ℕ, zero, suc, ◌+◌, Bool, true, false, not, ◌||◌, [], ◌∷◌, length, Option, Some, None, refl, ap, ◌∙◌, arith}
use Rattle.std.specs.Prelude.{is_none}
use Rattle.spec_base.specs.declared.note.ShadowState.{ShadowState}
use Rattle.spec_base.specs.declared.note.ShadowState.TheVariants.{Never, Running, Stopped, Parked}
use Rattle.spec_base.specs.declared.note.Move.{Move}
use Rattle.spec_base.specs.declared.note.Move.TheVariants.{O, S, T, D}
use Rattle.spec_base.specs.declared.spot.BlockSpot.{BlockSpot}
use Rattle.program_model.specs.Cache.{in_flight}
use Rattle.run_model.specs.Run.{World, Run, RunEnd, Answer}
use Rattle.run_model.specs.OwnMoves.{own_unless}
use Rattle.run_model.specs.ShadowMoves.{is_running, shadow_in}
use Rattle.run_model.specs.Moves.{Moves, is_idle, begun, moved, shadow_while, fetch_of, step, step_unless, run_from}
use Rattle.runner_parts.specs.Idle.{AreIdle, idle_for}

own-idle : (b : Bool) (w : World) (x : Answer) (r : Run) → b ≡ true → own_unless b w x r ≡ r
own-idle true w x r e = refl
own-idle false w x r e = absurd cc

shadow-idle : (s : ShadowState) (w : World) (x : Answer) (r : Run) → not (is_running s) ≡ true → shadow_in s w x r ≡ r
shadow-idle Running w x r e = absurd (let f : false ≡ true = e in cc)
shadow-idle Never w x r e = refl
shadow-idle Stopped w x r e = refl
shadow-idle (Parked cause) w x r e = refl

while-idle : (b : Bool) (w : World) (x : Answer) (r : Run) → (not b || not (is_running r.shadow.state)) ≡ true → shadow_while b w x r ≡ r
while-idle true w x r e = shadow-idle r.shadow.state w x r e
while-idle false w x r e = refl

fetch-idle : (o : Option BlockSpot) (w : World) (x : Answer) (r : Run) → is_none o ≡ true → fetch_of o w x r ≡ r
fetch-idle None w x r e = refl
fetch-idle (Some spot) w x r e = absurd (let f : false ≡ true = e in cc)

moved-idle : (m : Move) (w : World) (x : Answer) (r : Run) → is_idle m r ≡ true → moved w x (begun r) m ≡ begun r
moved-idle O w x r e = own-idle r.stalled w x (begun r) e
moved-idle S w x r e = shadow-idle r.shadow.state w x (begun r) e
moved-idle T w x r e = while-idle r.stalled w x (begun r) e
moved-idle D w x r e = fetch-idle (in_flight r.cache) w x (begun r) e

pub step-idle : (w : World) (r : Run) (m : Move × Answer) → r.end ≡ None → is_idle m.0 r ≡ true → step w r m ≡ begun r
step-idle w r m going e = ap (λ (o : Option RunEnd). step_unless o w r m) going ∙ moved-idle m.0 w m.1 r e

-- idle moves stay idle
pub idle-again : (m : Move) (r : Run) → is_idle m (begun r) ≡ is_idle m r
idle-again O r = refl
idle-again S r = refl
idle-again T r = refl
idle-again D r = refl

still : (r : Run) (ms : Moves) → AreIdle r ms → AreIdle (begun r) ms
still r [] h = tt
still r (m ∷ ms) h = (idle-again m.0 r ∙ h.0, still r ms h.1)

one-more : (n : ℕ) (r : Run) → idle_for n (begun r) ≡ idle_for (suc n) r
one-more zero r = λ i. record r { notes = []; text = []; moves = r.moves + 1 }
one-more (suc n) r = (let e : r.moves + 1 + suc n ≡ r.moves + suc (suc n) = omega arith in λ i. record r { notes = []; text = []; moves = e i })

-- so many idle moves are one count
pub run-idle : (w : World) (ms : Moves) (r : Run) → r.end ≡ None → AreIdle r ms → run_from w r ms ≡ idle_for (length ms) r
unfolding run_from
run-idle w [] r going h = refl
run-idle w (m ∷ ms) r going h =
    ap (λ (q : Run). run_from w q ms) (step-idle w r m going h.0) ∙ run-idle w ms (begun r) going (still r ms h.1) ∙ one-more (length ms) r
