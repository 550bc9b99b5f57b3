-- What the outside answered to the moves of a run, with one move more.
use Rattle.std.proofs.Common.{true, false, List, [], ◌∷◌, ◌++◌, refl, sym, subst}
use Rattle.spec_base.specs.declared.note.Move.{Move}
use Rattle.world_io.specs.Outside.{SinkState}
use Rattle.world_io.specs.Logs.{Offer, StoreLog, AreOffered}
use Rattle.world_io.proofs.Stores.{none-StoreLog, append-StoreLog}
use Rattle.run_model.specs.Run.{World, Run, Answer, opened_run}
use Rattle.run_model.specs.Moves.{Moves, step, run, run_from}
use Rattle.move_requests.specs.Asked.{MayAnswer, asks}
use Rattle.move_requests.specs.Offers.{store_calls_from, offers_from, store_call, store_calls, offers_in, offers}
use Rattle.move_requests.specs.Hears.{MayAnswerAll}
use Rattle.move_requests.specs.Laws.{NothingIsHeard, NextIsHeard}
use Rattle.move_requests.proofs.Snoc.{moves_add_up}

-- puts after puts
pub append-AreOffered : (a b c : SinkState) (xs ys : List Offer) → AreOffered a xs b → AreOffered b ys c → AreOffered a (xs ++ ys) c
append-AreOffered a b c [] ys one two = subst (λ s. AreOffered s ys c) one two
append-AreOffered a b c (x ∷ xs) ys one two = (one.0, one.1, append-AreOffered one.0 b c xs ys one.2 two)

-- one answer more
may-snoc : (w : World) (r : Run) (ms : Moves) (m : Move × Answer) → MayAnswerAll w r ms → MayAnswer (asks w (run_from w r ms) m.0) m.1 → MayAnswerAll w r (ms ++ m ∷ [])
unfolding run_from
may-snoc w r [] m all one = (one, tt)
may-snoc w r (n ∷ ms) m all one = (all.0, may-snoc w (step w r n) ms m all.1 one)

pub nothing_is_heard : NothingIsHeard
unfolding store_calls_from offers_from
nothing_is_heard w o = record { may = tt; store = none-StoreLog o.store; out = refl; err = refl }

pub next_is_heard : NextIsHeard
next_is_heard w ms m x old between new all one =
    let added = moves_add_up w ms (m, x) in
    let asked = asks w (run w ms) m in
    record {
      may = may-snoc w (opened_run w) ms (m, x) all.may one.may;
      store = subst (λ log. StoreLog old.store log new.store) (sym added.store) (append-StoreLog old.store between.store new.store (store_calls w ms) (store_call asked x) all.store one.store);
      out = subst (λ puts. AreOffered old.out puts new.out) (sym (added.puts true)) (append-AreOffered old.out between.out new.out (offers true w ms) (offers_in true asked x) all.out one.out);
      err = subst (λ puts. AreOffered old.err puts new.err) (sym (added.puts false)) (append-AreOffered old.err between.err new.err (offers false w ms) (offers_in false asked x) all.err one.err);
    }
