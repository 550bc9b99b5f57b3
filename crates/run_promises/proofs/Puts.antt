-- The puts of a run are what its program has put; a put that failed is the last, and so is a call on the store that ended the run.
use Rattle.std.proofs.Common.{◌≡◌, ℕ, Bool, true, false, List, [], ◌∷◌, ◌++◌, length, map, take, Option, Some, None, refl, ap, ap₂, sym, ◌∙◌, subst, append_assoc}
use Rattle.std.proofs.lemmas.List.{append-nil}
use Rattle.program_model.specs.PlainRun.{Output, put}
use Rattle.run_model.specs.Run.{World, Run, RunEnd, Exits, Traps, StoreFailed, SinkFailed, Answer, Usual, Took, Failed, Lost, opened_run}
use Rattle.run_model.specs.OwnMoves.{taken_in}
use Rattle.run_model.specs.Moves.{Moves, step, run_from, run}
use Rattle.spec_base.specs.declared.note.Move.{Move}
use Rattle.world_io.specs.Logs.{Piece, Offer, offers_of, bytes_of, sizes}
use Rattle.world_io.specs.declared.sink.Put.TheVariants as answer
use Rattle.world_io.proofs.Sinks.{bytes_of-more}
use Rattle.plain_runner.specs.Runs.{output_of}
use Rattle.move_requests.specs.Asked.{Asked, Nothing, Looks, Fetches, Puts, asks}
use Rattle.move_requests.specs.Offers.{store_call, store_calls_from, offers_from, offers_in, is_same}
use Rattle.run_promises.specs.Schedules.{GoesOn}
use Rattle.run_promises.specs.Laws.{FaultsAt, HasPut, PutsAreOutputs, StoreFaultIsLast}
use Rattle.run_promises.proofs.Steps.{IsTold, with_offers, has_sink_fault, has_store_fault, is_failed_put, step-told}

no : {A : Type 0} → true ≡ false → A
no e = cc

-- ---- moves up to an end

-- behind an end no move is made
nothing_behind : (w : World) (r : Run) (ms : Moves) (end : RunEnd) → r.end ≡ Some end → GoesOn w r ms → ms ≡ []
nothing_behind w r [] end e goes = refl
nothing_behind w r (m ∷ ms) end e goes = absurd (let bad : None ≡ Some end = sym goes.0 ∙ e in cc)

-- ---- outputs

with_offers-append : (o : Output) (xs ys : List Offer) → with_offers o (xs ++ ys) ≡ with_offers (with_offers o xs) ys
with_offers-append o [] ys = refl
with_offers-append o ((bytes, answer.Took k) ∷ xs) ys = with_offers-append (put o bytes k) xs ys
with_offers-append o ((bytes, answer.Failed) ∷ xs) ys = with_offers-append o xs ys

outs-from : (w : World) (r : Run) (ms : Moves) → GoesOn w r ms → (run_from w r ms).own.out ≡ with_offers r.own.out (offers_from true w r ms)
unfolding run_from offers_from
outs-from w r [] goes = refl
outs-from w r ((m, x) ∷ ms) goes =
    outs-from w (step w r (m, x)) ms goes.1
    ∙ ap (λ o. with_offers o (offers_from true w (step w r (m, x)) ms)) (step-told w x r m goes.0).out
    ∙ sym (with_offers-append r.own.out (offers_in true (asks w r m) x) (offers_from true w (step w r (m, x)) ms))

errs-from : (w : World) (r : Run) (ms : Moves) → GoesOn w r ms → (run_from w r ms).own.err ≡ with_offers r.own.err (offers_from false w r ms)
unfolding run_from offers_from
errs-from w r [] goes = refl
errs-from w r ((m, x) ∷ ms) goes =
    errs-from w (step w r (m, x)) ms goes.1
    ∙ ap (λ o. with_offers o (offers_from false w (step w r (m, x)) ms)) (step-told w x r m goes.0).err
    ∙ sym (with_offers-append r.own.err (offers_in false (asks w r m) x) (offers_from false w (step w r (m, x)) ms))

sizes-more : (ps : List Piece) (p : Piece) → map sizes (ps ++ p ∷ []) ≡ map sizes ps ++ sizes p ∷ []
sizes-more [] p = refl
sizes-more (q ∷ ps) p = ap (λ l. sizes q ∷ l) (sizes-more ps p)

put-output : (ps : List Piece) (p : Piece) → put (output_of ps) p.offered p.taken ≡ output_of (ps ++ p ∷ [])
put-output ps p = ap₂ (λ (x : List ℕ) (y : List (ℕ × ℕ)). let o : Output = record { bytes = x; puts = y } in o) (sym (bytes_of-more ps p)) (sym (sizes-more ps p))

-- what these puts made of an output
with_offers-pieces : (before ps : List Piece) (fault : Option (List ℕ)) → with_offers (output_of before) (offers_of ps fault) ≡ output_of (before ++ ps)
with_offers-pieces before [] None = ap output_of (sym (append-nil before))
with_offers-pieces before [] (Some bytes) = ap output_of (sym (append-nil before))
with_offers-pieces before (p ∷ ps) fault =
    ap (λ o. with_offers o (offers_of ps fault)) (put-output before p)
    ∙ with_offers-pieces (before ++ p ∷ []) ps fault ∙ ap output_of (append_assoc before (p ∷ []) ps)

-- ---- pieces

-- the piece of a put that didn't fail
abbrev piece_if : Bool → List ℕ → ℕ → List Piece
piece_if true bytes k = record { offered = bytes; taken = k } ∷ []
piece_if false bytes k = []

abbrev pieces_in : Bool → Asked → Answer → List Piece
pieces_in b (Puts to bytes) x = piece_if (is_same b to) bytes (taken_in x (length bytes))
pieces_in b (Looks name) x = []
pieces_in b (Fetches spot) x = []
pieces_in b Nothing x = []

offers_in-pieces : (b : Bool) (asked : Asked) (x : Answer) → is_failed_put asked x ≡ false → offers_in b asked x ≡ offers_of (pieces_in b asked x) None
offers_in-pieces b (Looks name) x h = refl
offers_in-pieces b (Fetches spot) x h = refl
offers_in-pieces b Nothing x h = refl
offers_in-pieces b (Puts to bytes) Failed h = no h
offers_in-pieces true (Puts true bytes) Usual h = refl
offers_in-pieces true (Puts false bytes) Usual h = refl
offers_in-pieces false (Puts true bytes) Usual h = refl
offers_in-pieces false (Puts false bytes) Usual h = refl
offers_in-pieces true (Puts true bytes) (Took k) h = refl
offers_in-pieces true (Puts false bytes) (Took k) h = refl
offers_in-pieces false (Puts true bytes) (Took k) h = refl
offers_in-pieces false (Puts false bytes) (Took k) h = refl
offers_in-pieces true (Puts true bytes) Lost h = refl
offers_in-pieces true (Puts false bytes) Lost h = refl
offers_in-pieces false (Puts true bytes) Lost h = refl
offers_in-pieces false (Puts false bytes) Lost h = refl

offers_of-append : (ps qs : List Piece) (fault : Option (List ℕ)) → offers_of (ps ++ qs) fault ≡ offers_of ps None ++ offers_of qs fault
offers_of-append [] qs fault = refl
offers_of-append (p ∷ ps) qs fault = ap (λ l. (p.offered, answer.Took p.taken) ∷ l) (offers_of-append ps qs fault)

-- ---- whole runs

-- the puts of moves from a run on, as pieces
record Pieces (w : World) (r : Run) (ms : Moves) : Type 0 where
  outs : List Piece
  errs : List Piece
  out_fault : Option (List ℕ)
  err_fault : Option (List ℕ)
  out : offers_from true w r ms ≡ offers_of outs out_fault
  err : offers_from false w r ms ≡ offers_of errs err_fault
  faults : FaultsAt (run_from w r ms).end out_fault err_fault

-- where no put failed
no_faults : (end : Option RunEnd) → has_sink_fault end ≡ false → FaultsAt end None None
no_faults None h = (refl, refl)
no_faults (Some SinkFailed) h = no h
no_faults (Some StoreFailed) h = (refl, refl)
no_faults (Some (Exits code)) h = (refl, refl)
no_faults (Some (Traps cause pc)) h = (refl, refl)

sink_failed : (end : Option RunEnd) → has_sink_fault end ≡ true → end ≡ Some SinkFailed
sink_failed None h = no (sym h)
sink_failed (Some SinkFailed) h = refl
sink_failed (Some StoreFailed) h = no (sym h)
sink_failed (Some (Exits code)) h = no (sym h)
sink_failed (Some (Traps cause pc)) h = no (sym h)

-- a put that failed is the last
last-Pieces : (w : World) (r : Run) (m : Move) (x : Answer) (ms : Moves) (asked : Asked) → asks w r m ≡ asked → is_failed_put asked x ≡ true
    → (step w r (m, x)).end ≡ Some SinkFailed → ms ≡ [] → Pieces w r ((m, x) ∷ ms)
unfolding run_from offers_from
last-Pieces w r m x ms (Looks name) same h e none = no (sym h)
last-Pieces w r m x ms (Fetches spot) same h e none = no (sym h)
last-Pieces w r m x ms Nothing same h e none = no (sym h)
last-Pieces w r m Usual ms (Puts to bytes) same h e none = no (sym h)
last-Pieces w r m (Took k) ms (Puts to bytes) same h e none = no (sym h)
last-Pieces w r m Lost ms (Puts to bytes) same h e none = no (sym h)
last-Pieces w r m Failed [] (Puts true bytes) same h e none = record {
  outs = [];
  errs = [];
  out_fault = Some bytes;
  err_fault = None;
  out = ap (λ a. offers_in true a Failed ++ []) same;
  err = ap (λ a. offers_in false a Failed ++ []) same;
  faults = subst (λ o. FaultsAt o (Some bytes) None) (sym e) tt;
}
last-Pieces w r m Failed [] (Puts false bytes) same h e none = record {
  outs = [];
  errs = [];
  out_fault = None;
  err_fault = Some bytes;
  out = ap (λ a. offers_in true a Failed ++ []) same;
  err = ap (λ a. offers_in false a Failed ++ []) same;
  faults = subst (λ o. FaultsAt o None (Some bytes)) (sym e) tt;
}
last-Pieces w r m Failed (n ∷ ms) (Puts to bytes) same h e none = absurd (let bad = none in cc)

more-Pieces : (w : World) (r : Run) (m : Move) (x : Answer) (ms : Moves) → is_failed_put (asks w r m) x ≡ false → Pieces w (step w r (m, x)) ms → Pieces w r ((m, x) ∷ ms)
unfolding run_from offers_from
more-Pieces w r m x ms h later =
    let asked = asks w r m in
    record {
      outs = pieces_in true asked x ++ later.outs;
      errs = pieces_in false asked x ++ later.errs;
      out_fault = later.out_fault;
      err_fault = later.err_fault;
      out = ap₂ (λ (a b : List Offer). a ++ b) (offers_in-pieces true asked x h) later.out ∙ sym (offers_of-append (pieces_in true asked x) later.outs later.out_fault);
      err = ap₂ (λ (a b : List Offer). a ++ b) (offers_in-pieces false asked x h) later.err ∙ sym (offers_of-append (pieces_in false asked x) later.errs later.err_fault);
      faults = later.faults;
    }

all-Pieces : (w : World) (r : Run) (ms : Moves) → has_sink_fault r.end ≡ false → GoesOn w r ms → Pieces w r ms
unfolding run_from offers_from
all-Pieces w r [] h goes = record { outs = []; errs = []; out_fault = None; err_fault = None; out = refl; err = refl; faults = no_faults r.end h }
all-Pieces w r ((m, x) ∷ ms) h goes = by_put (λ goes_on. all-Pieces w (step w r (m, x)) ms goes_on goes.1) (is_failed_put (asks w r m) x) refl
  where
    told : IsTold x r (step w r (m, x)) (asks w r m)
    told = step-told w x r m goes.0

    by_put : (has_sink_fault (step w r (m, x)).end ≡ false → Pieces w (step w r (m, x)) ms) → (b : Bool) → is_failed_put (asks w r m) x ≡ b → Pieces w r ((m, x) ∷ ms)
    by_put later true e =
        let end : (step w r (m, x)).end ≡ Some SinkFailed = sink_failed (step w r (m, x)).end (told.sink ∙ e) in
        last-Pieces w r m x ms (asks w r m) refl e end (nothing_behind w (step w r (m, x)) ms SinkFailed end goes.1)
    by_put later false e = more-Pieces w r m x ms e (later (told.sink ∙ e))

pub puts_are_outputs : PutsAreOutputs
puts_are_outputs w pattern turns ms acc made =
    let goes : GoesOn w (opened_run w) ms = made.goes_on in
    let p : Pieces w (opened_run w) ms = all-Pieces w (opened_run w) ms refl goes in
    record {
      outs = p.outs;
      errs = p.errs;
      out_fault = p.out_fault;
      err_fault = p.err_fault;
      out = p.out;
      err = p.err;
      out_is =
          outs-from w (opened_run w) ms goes ∙ ap (λ o. with_offers o (offers_from true w (opened_run w) ms)) acc.silent.0
          ∙ ap (with_offers (output_of [])) p.out ∙ with_offers-pieces [] p.outs p.out_fault;
      err_is =
          errs-from w (opened_run w) ms goes ∙ ap (λ o. with_offers o (offers_from false w (opened_run w) ms)) acc.silent.1
          ∙ ap (with_offers (output_of [])) p.err ∙ with_offers-pieces [] p.errs p.err_fault;
      faults = p.faults;
    }

-- ---- the store

last-call : (w : World) (r : Run) (ms : Moves) → r.end ≡ None → GoesOn w r ms → (run_from w r ms).end ≡ Some StoreFailed → (before : List Bool) × (store_calls_from w r ms ≡ true ∷ before)
unfolding run_from store_calls_from
last-call w r [] none goes e = absurd (let bad : None ≡ Some StoreFailed = sym none ∙ e in cc)
last-call w r ((m, x) ∷ []) none goes e = ([], (step-told w x r m none).store (ap has_store_fault e))
last-call w r ((m, x) ∷ (n ∷ ms)) none goes e =
    let later = last-call w (step w r (m, x)) (n ∷ ms) goes.1.0 goes.1 e in
    (later.0 ++ store_call (asks w r m) x, ap (λ l. l ++ store_call (asks w r m) x) later.1)

pub store_fault_is_last : StoreFaultIsLast
store_fault_is_last w pattern turns ms made e = last-call w (opened_run w) ms refl (made.goes_on) e
