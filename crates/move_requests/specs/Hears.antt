-- Moves of a run over a store and two sinks: one of them, and those of a whole run (this project's own).
use Rattle.std.specs.Prelude.{true, false, [], ◌∷◌}
use Rattle.spec_base.specs.declared.note.Move.{Move}
use Rattle.run_model.specs.Run.{World, Run, Answer, opened_run}
use Rattle.run_model.specs.Moves.{Moves, step}
use Rattle.world_io.specs.Logs.{StoreLog, AreOffered}
use Rattle.plain_runner.specs.Runs.{Outside}
use Rattle.move_requests.specs.Asked.{MayAnswer, asks}
use Rattle.move_requests.specs.Offers.{store_call, store_calls, offers_in, offers}

-- ---- one move

-- the outside answered a move of a run so, by the calls that the move asks for and by no others
pub record Hears (w : World) (r : Run) (m : Move) (x : Answer) (old new : Outside) : Type 0 where
  pub may : MayAnswer (asks w r m) x
  pub store : StoreLog old.store (store_call (asks w r m) x) new.store
  pub out : AreOffered old.out (offers_in true (asks w r m) x) new.out
  pub err : AreOffered old.err (offers_in false (asks w r m) x) new.err

-- a runner that showed a run shows the next one. What it must show is the runner's own matter
pub record GoesTo (Shows : World → Run → Type 0) (w : World) (r : Run) (m : Move) (old new : Outside) : Type 0 where
  pub answer : Answer
  pub hears : Hears w r m answer old new
  pub shows : Shows w (step w r (m, answer))

-- ---- all moves of a run

-- each answer of these moves, from a run on, is one that may come
abbrev pub MayAnswerAll : World → Run → Moves → Type 0
MayAnswerAll w r [] = Unit {0}
MayAnswerAll w r (m ∷ ms) = MayAnswer (asks w r m.0) m.1 × MayAnswerAll w (step w r m) ms

-- the outside answered the moves of a run so, by the calls that they ask for and by no others
pub record AreHeard (w : World) (ms : Moves) (old new : Outside) : Type 0 where
  pub may : MayAnswerAll w (opened_run w) ms
  pub store : StoreLog old.store (store_calls w ms) new.store
  pub out : AreOffered old.out (offers true w ms) new.out
  pub err : AreOffered old.err (offers false w ms) new.err
