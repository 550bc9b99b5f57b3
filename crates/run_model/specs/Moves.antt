-- One move of a run, and the run after a list of moves (this project's own).
use Rattle.std.specs.Prelude.{ℕ, ◌+◌, Bool, true, false, not, ◌||◌, List, [], ◌∷◌, Option, Some, None, is_none}
use Rattle.spec_base.specs.declared.note.Move.{Move}
use Rattle.spec_base.specs.declared.note.Move.TheVariants.{O, S, T, D}
use Rattle.spec_base.specs.declared.note.Note.{Note}
use Rattle.spec_base.specs.declared.note.Note.TheVariants as note
use Rattle.spec_base.specs.declared.spot.BlockSpot.{BlockSpot}
use Rattle.program_model.specs.Cache.{Cache, in_flight, landed, kept}
use Rattle.run_model.specs.Run.{World, Run, RunEnd, StoreFailed, Answer, Usual, Took, Failed, Lost, opened_run}
use Rattle.run_model.specs.OwnMoves.{own_step, ended}
use Rattle.run_model.specs.ShadowMoves.{is_running, shadow_step}

-- ---- a fetch finishes

-- the block in flight leaves; where it was demanded, the own hart has it and goes on with the next
abbrev pub landed_with : Option BlockSpot → Run → List Note → Run
landed_with (Some demanded) r notes = record r { cache = landed r.cache; stalled = false; gathered = r.gathered + 1; notes = notes }
landed_with None r notes = record r { cache = landed r.cache; notes = notes }

-- a demanded fetch that fails ends the run, and a queued one is dropped
abbrev pub fetch_failed : Option BlockSpot → Run → BlockSpot → Run
fetch_failed (Some demanded) r spot = ended (record r { cache = landed r.cache }) StoreFailed (note.Fault ∷ [])
fetch_failed None r spot = record r { cache = landed r.cache; notes = note.Drop spot ∷ [] }

-- a block that landed is cached
abbrev pub cached_too : Run → BlockSpot → Run
cached_too r spot = record r { cache = kept 256 r.cache spot }

-- how a fetch ends, by what the outside answered
abbrev pub fetch_ends : World → Answer → Run → BlockSpot → Run
fetch_ends w Failed r spot = fetch_failed r.cache.demanded r spot
fetch_ends w Lost r spot = landed_with r.cache.demanded r (note.Lost spot ∷ [])
fetch_ends w Usual r spot = cached_too (landed_with r.cache.demanded r (note.Fetch spot ∷ [])) spot
fetch_ends w (Took count) r spot = cached_too (landed_with r.cache.demanded r (note.Fetch spot ∷ [])) spot

-- nothing happens where nothing is in flight
abbrev pub fetch_of : Option BlockSpot → World → Answer → Run → Run
fetch_of None w x r = r
fetch_of (Some spot) w x r = fetch_ends w x r spot

-- the fetch in flight ends
abbrev pub fetch_step : World → Answer → Run → Run
fetch_step w x r = fetch_of (in_flight r.cache) w x r

-- ---- one move

-- the shadow moves only while the own hart waits
abbrev pub shadow_while : Bool → World → Answer → Run → Run
shadow_while true w x r = shadow_step w x r
shadow_while false w x r = r

-- what each move does
abbrev pub moved : World → Answer → Run → Move → Run
moved w x r O = own_step w x r
moved w x r S = shadow_step w x r
moved w x r T = shadow_while r.stalled w x r
moved w x r D = fetch_step w x r

-- a move is idle where the own hart is stalled, the shadow isn't running, or nothing is in flight
abbrev pub is_idle : Move → Run → Bool
is_idle O r = r.stalled
is_idle S r = not (is_running r.shadow.state)
is_idle T r = not r.stalled || not (is_running r.shadow.state)
is_idle D r = is_none (in_flight r.cache)

-- nothing is told yet of a move
abbrev pub silent : Run → Run
silent r = record r { notes = []; text = [] }

-- a move is counted, and nothing is told yet
abbrev pub begun : Run → Run
begun r = record r { notes = []; text = []; moves = r.moves + 1 }

-- a move of a run that has not ended
abbrev pub step_unless : Option RunEnd → World → Run → Move × Answer → Run
step_unless (Some e) w r m = silent r
step_unless None w r m = moved w m.1 (begun r) m.0

-- an ended run has no further step
abbrev pub step : World → Run → Move × Answer → Run
step w r m = step_unless r.end w r m

-- ---- a list of moves, with what the outside answers in each

-- a list of moves, each with what the outside answers in it
abbrev pub Moves : Type 0
Moves = List (Move × Answer)

-- the run after a list of moves
unfoldable pub run_from : World → Run → Moves → Run
run_from w r [] = r
run_from w r (m ∷ ms) = run_from w (step w r m) ms

-- the run of a rewritten program
abbrev pub run : World → Moves → Run
run w ms = run_from w (opened_run w) ms
