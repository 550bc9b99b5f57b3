-- The calls on the store and the puts on the sinks that moves make (this project's own).
use Rattle.std.specs.Prelude.{ℕ, Bool, true, false, not, List, [], ◌∷◌, ◌++◌, length}
use Rattle.run_model.specs.Run.{World, Run, Answer, Failed, opened_run}
use Rattle.run_model.specs.OwnMoves.{taken_in}
use Rattle.run_model.specs.Moves.{Moves, step}
use Rattle.run_laws.specs.OwnLaws.{has_failed}
use Rattle.world_io.specs.Logs.{Offer}
use Rattle.world_io.specs.declared.sink.Put.{Put}
use Rattle.world_io.specs.declared.sink.Put.TheVariants as put
use Rattle.move_requests.specs.Asked.{Asked, Nothing, Looks, Fetches, Puts, asks}

-- ---- calls on the store: for each, whether it failed

-- the call of a move, if it makes one
abbrev pub store_call : Asked → Answer → List Bool
store_call (Looks name) x = has_failed x ∷ []
store_call (Fetches spot) x = has_failed x ∷ []
store_call (Puts to_out bytes) x = []
store_call Nothing x = []

-- those of moves from a run on, newest first
unfoldable pub store_calls_from : World → Run → Moves → List Bool
store_calls_from w r [] = []
store_calls_from w r (m ∷ ms) = store_calls_from w (step w r m) ms ++ store_call (asks w r m.0) m.1

-- those of a run
abbrev pub store_calls : World → Moves → List Bool
store_calls w ms = store_calls_from w (opened_run w) ms

-- ---- puts on one of the sinks: what was offered, and the sink's answer

-- the sink's answer to a put of n bytes
abbrev pub put_answer : ℕ → Answer → Put
put_answer n Failed = put.Failed
put_answer n x = put.Took (taken_in x n)

abbrev pub is_same : Bool → Bool → Bool
is_same true b = b
is_same false b = not b

abbrev pub offer_if : Bool → Offer → List Offer
offer_if true offer = offer ∷ []
offer_if false offer = []

-- the put of a move on standard output (true) or on standard error (false), if it makes one
abbrev pub offers_in : Bool → Asked → Answer → List Offer
offers_in to_out (Puts to bytes) x = offer_if (is_same to_out to) (bytes, put_answer (length bytes) x)
offers_in to_out (Looks name) x = []
offers_in to_out (Fetches spot) x = []
offers_in to_out Nothing x = []

-- those of moves from a run on, oldest first
unfoldable pub offers_from : Bool → World → Run → Moves → List Offer
offers_from to_out w r [] = []
offers_from to_out w r (m ∷ ms) = offers_in to_out (asks w r m.0) m.1 ++ offers_from to_out w (step w r m) ms

-- those of a run
abbrev pub offers : Bool → World → Moves → List Offer
offers to_out w ms = offers_from to_out w (opened_run w) ms
