-- The laws of what moves ask (this project's own).
use Rattle.std.specs.Prelude.{◌≡◌, ◌⊎◌, Bool, [], ◌∷◌, ◌++◌}
use Rattle.spec_base.specs.Files.{Name}
use Rattle.spec_base.specs.declared.note.Move.{Move}
use Rattle.run_model.specs.Run.{World, Run, Answer}
use Rattle.run_model.specs.Moves.{Moves, step, run}
use Rattle.run_laws.specs.OwnLaws.{IsShadowMove}
use Rattle.move_requests.specs.Asked.{Asked, Nothing, Looks, asks}
use Rattle.plain_runner.specs.Runs.{Outside}
use Rattle.move_requests.specs.Hears.{Hears, AreHeard}
use Rattle.move_requests.specs.Offers.{store_call, store_calls, offers_in, offers}

-- ---- what a move may hear

-- a move that asks nothing does the same whatever is answered
abbrev pub HearsWhatItAsks : Type 0
HearsWhatItAsks = (w : World) (r : Run) (m : Move) (x y : Answer) → asks w r m ≡ Nothing → step w r (m, x) ≡ step w r (m, y)

abbrev pub IsLookOrNothing : Asked → Type 0
IsLookOrNothing asked = (asked ≡ Nothing) ⊎ ((name : Name) × (asked ≡ Looks name))

-- a move of the shadow asks for no more than a look
abbrev pub ShadowLooksAlone : Type 0
ShadowLooksAlone = (w : World) (r : Run) (m : Move) → IsShadowMove m → IsLookOrNothing (asks w r m)

-- ---- calls and puts, move by move

-- one move more adds its call on the store and its put to those of a run
pub record AddsMove (w : World) (ms : Moves) (m : Move × Answer) : Type 0 where
  pub next : run w (ms ++ m ∷ []) ≡ step w (run w ms) m
  pub store : store_calls w (ms ++ m ∷ []) ≡ store_call (asks w (run w ms) m.0) m.1 ++ store_calls w ms
  pub puts : (to_out : Bool) → offers to_out w (ms ++ m ∷ []) ≡ offers to_out w ms ++ offers_in to_out (asks w (run w ms) m.0) m.1

-- so it is behind all moves
abbrev pub MovesAddUp : Type 0
MovesAddUp = (w : World) (ms : Moves) (m : Move × Answer) → AddsMove w ms m

-- ---- a run over the outside, move by move

-- before the first move nothing has been asked
abbrev pub NothingIsHeard : Type 0
NothingIsHeard = (w : World) (o : Outside) → AreHeard w [] o o

-- a move more that the outside answered
abbrev pub NextIsHeard : Type 0
NextIsHeard =
    (w : World) (ms : Moves) (m : Move) (x : Answer) (old between new : Outside) → AreHeard w ms old between → Hears w (run w ms) m x between new →
    AreHeard w (ms ++ (m, x) ∷ []) old new
