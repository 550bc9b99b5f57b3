-- The run, its calls and its puts, with one move more.
use Rattle.std.proofs.Common.{◌≡◌, Bool, [], ◌∷◌, ◌++◌, refl, sym, ap, ◌∙◌}
use Rattle.std.proofs.lemmas.List.{append_assoc, append-nil}
use Rattle.spec_base.specs.declared.note.Move.{Move}
use Rattle.run_model.specs.Run.{World, Run, Answer, opened_run}
use Rattle.run_model.specs.Moves.{Moves, step, run_from}
use Rattle.move_requests.specs.Asked.{asks}
use Rattle.move_requests.specs.Offers.{store_call, store_calls_from, offers_from, offers_in}
use Rattle.move_requests.specs.Laws.{MovesAddUp}

module _ (w : World) (m : Move × Answer) where
  run-snoc : (r : Run) (ms : Moves) → run_from w r (ms ++ m ∷ []) ≡ step w (run_from w r ms) m
  unfolding run_from
  run-snoc r [] = refl
  run-snoc r (n ∷ ms) = run-snoc (step w r n) ms

  calls-snoc : (r : Run) (ms : Moves) → store_calls_from w r (ms ++ m ∷ []) ≡ store_call (asks w (run_from w r ms) m.0) m.1 ++ store_calls_from w r ms
  unfolding run_from store_calls_from
  calls-snoc r [] = sym (append-nil (store_call (asks w r m.0) m.1))
  calls-snoc r (n ∷ ms) =
      ap (λ l. l ++ store_call (asks w r n.0) n.1) (calls-snoc (step w r n) ms)
      ∙ append_assoc (store_call (asks w (run_from w (step w r n) ms) m.0) m.1) (store_calls_from w (step w r n) ms) (store_call (asks w r n.0) n.1)

  offers-snoc : (to_out : Bool) (r : Run) (ms : Moves)
      → offers_from to_out w r (ms ++ m ∷ []) ≡ offers_from to_out w r ms ++ offers_in to_out (asks w (run_from w r ms) m.0) m.1
  unfolding run_from offers_from
  offers-snoc to_out r [] = append-nil (offers_in to_out (asks w r m.0) m.1)
  offers-snoc to_out r (n ∷ ms) =
      ap (λ l. offers_in to_out (asks w r n.0) n.1 ++ l) (offers-snoc to_out (step w r n) ms)
      ∙ sym (append_assoc (offers_in to_out (asks w r n.0) n.1) (offers_from to_out w (step w r n) ms) (offers_in to_out (asks w (run_from w (step w r n) ms) m.0) m.1))

pub moves_add_up : MovesAddUp
moves_add_up w ms m =
    record { next = run-snoc w m (opened_run w) ms; store = calls-snoc w m (opened_run w) ms; puts = λ to_out. offers-snoc w m to_out (opened_run w) ms }
