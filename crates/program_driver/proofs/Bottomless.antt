-- No put of a program fails where the sinks take all.
use Rattle.std.proofs.Common.{◌≡◌, ◌≢◌, ℕ, true, false, List, [], ◌∷◌, length, Option, Some, None, refl, ap, sym, ◌∙◌, subst}
use Rattle.run_model.specs.Run.{World, SinkFailed}
use Rattle.run_model.specs.Moves.{Moves, run}
use Rattle.run_model.specs.Patterns.{Pattern}
use Rattle.run_laws.specs.OwnLaws.{Accepted}
use Rattle.world_io.specs.Outside.{SinkState, StoreState, Endless}
use Rattle.world_io.specs.Puts.{Fits, room_left}
use Rattle.world_io.specs.Logs.{Piece, AreOffered, offers_of}
use Rattle.world_io.specs.declared.sink.Put.TheVariants as put
use Rattle.plain_runner.specs.declared.ending.Ending.{Ending}
use Rattle.plain_runner.specs.declared.ending.Ending.TheVariants.{SinkFault}
use Rattle.move_requests.specs.Offers.{offers}
use Rattle.run_promises.specs.Schedules.{StandsAs, MovesTo}
use Rattle.run_promises.specs.Laws.{FaultsAt, HasPut}
use Rattle.run_promises.proofs.Puts.{puts_are_outputs}
use Rattle.program_driver.specs.Traces.{bottomless, over_bottomless}

-- a sink of endless room takes each put
all-taken : (a b : SinkState) (pieces : List Piece) (bytes : List ℕ) → a.room ≡ Endless → AreOffered a (offers_of pieces (Some bytes)) b → ⊥
all-taken a b [] bytes room h =
    let sure : put.Failed ≡ put.Took (length bytes) = h.1.sure (subst (λ r. Fits r (length bytes)) (sym room) tt) in
    cc
all-taken a b (piece ∷ pieces) bytes room h =
    all-taken h.0 b pieces bytes (ap (λ s. s.room) h.1.says.3 ∙ ap (λ r. room_left r piece.taken) room) h.2

pub no-sink-fault : (w : World) → Accepted w → (pattern : Pattern) (turns : ℕ) (reached : Ending) (ms : Moves) (a b : StoreState)
    → MovesTo pattern turns reached w ms (over_bottomless a) (over_bottomless b) → reached ≢ SinkFault
no-sink-fault w acc pattern turns reached ms a b moves is =
    by_faults made.out_fault made.err_fault made.out made.err (subst (λ e. FaultsAt e made.out_fault made.err_fault) end made.faults)
  where
    made : HasPut w ms
    made = puts_are_outputs w pattern turns ms acc moves.made

    end : (run w ms).end ≡ Some SinkFailed
    end = subst (StandsAs turns ms (run w ms)) is moves.stands

    by_faults : (o e : Option (List ℕ)) → offers true w ms ≡ offers_of made.outs o → offers false w ms ≡ offers_of made.errs e → FaultsAt (Some SinkFailed) o e → ⊥
    by_faults (Some bytes) None out err f = all-taken bottomless bottomless made.outs bytes refl (subst (λ l. AreOffered bottomless l bottomless) out moves.heard.out)
    by_faults None (Some bytes) out err f = all-taken bottomless bottomless made.errs bytes refl (subst (λ l. AreOffered bottomless l bottomless) err moves.heard.err)
    by_faults None None out err f = f
    by_faults (Some bytes) (Some others) out err f = f
