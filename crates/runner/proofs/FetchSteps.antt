-- A move that finishes a fetch.
use Rattle.std.proofs.Common.{◌≡◌, Option, None, ap}
use Rattle.std.specs.Prelude.{is_none}
use Rattle.spec_base.specs.declared.note.Move.TheVariants.{D}
use Rattle.spec_base.specs.declared.spot.BlockSpot.{BlockSpot}
use Rattle.program_model.specs.Cache.{Cache, in_flight, flight_of}
use Rattle.run_model.specs.Run.{World, Run, RunEnd, Answer}
use Rattle.run_model.specs.Moves.{begun, step, step_unless, fetch_step}
use Rattle.cache_queue.specs.Finishes.{IsOf}
use Rattle.cache_queue.specs.declared.finish.Finished.{Finished}
use Rattle.cache_queue.specs.declared.finish.Finished.TheVariants as finish
use Rattle.move_requests.specs.Asked.{asks, asks_unless, fetching_asks}
use Rattle.runner_parts.specs.Answers.{is_nothing}

-- it is idle where nothing was in flight
pub idle-finish : (c : Cache) (f : Finished) → IsOf c f → is_none (in_flight c) ≡ is_nothing f
idle-finish c finish.Nothing is = ap (λ (o : Option BlockSpot). is_none o) is
idle-finish c (finish.Put spot) is = ap (λ (o : Option BlockSpot). is_none o) is
idle-finish c (finish.Lost spot) is = ap (λ (o : Option BlockSpot). is_none o) is
idle-finish c (finish.Dropped spot) is = ap (λ (o : Option BlockSpot). is_none o) is.1
idle-finish c (finish.Fault spot) is = ap (λ (d : Option BlockSpot). is_none (flight_of d c.queue)) is

module _ (w : World) (r : Run) (goes : r.end ≡ None) where
  pub asks-fetch : asks w r D ≡ fetching_asks (in_flight r.cache)
  asks-fetch = ap (λ (o : Option RunEnd). asks_unless o w r D) goes

  pub step-fetch : (x : Answer) → step w r (D, x) ≡ fetch_step w x (begun r)
  step-fetch x = ap (λ (o : Option RunEnd). step_unless o w r (D, x)) goes
