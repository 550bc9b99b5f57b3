-- A run over moves, and over moves behind them.
use Rattle.std.proofs.Common.{◌≡◌, [], ◌∷◌, ◌++◌, refl}
use Rattle.spec_base.specs.declared.note.Move.{Move}
use Rattle.run_model.specs.Run.{World, Run, Answer}
use Rattle.run_model.specs.Moves.{Moves, step, run_from}

-- no move
pub run_from-nil : (w : World) (r : Run) → run_from w r [] ≡ r
unfolding run_from
run_from-nil w r = refl

-- one move more
pub run_from-snoc : (w : World) (r : Run) (ms : Moves) (m : Move × Answer) → run_from w r (ms ++ m ∷ []) ≡ step w (run_from w r ms) m
unfolding run_from
run_from-snoc w r [] m = refl
run_from-snoc w r (n ∷ ms) m = run_from-snoc w (step w r n) ms m

-- two lists of moves one after the other
pub run_from-append : (w : World) (r : Run) (ms on : Moves) → run_from w r (ms ++ on) ≡ run_from w (run_from w r ms) on
unfolding run_from
run_from-append w r [] on = refl
run_from-append w r (m ∷ ms) on = run_from-append w (step w r m) ms on
