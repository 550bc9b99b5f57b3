-- What one move puts, and how it ends a run, by what it asks and hears.
use Rattle.std.proofs.Common.{◌≡◌, ℕ, Bool, true, false, not, ◌&&◌, List, [], ◌∷◌, length, Option, Some, None, refl, ap, sym, ◌∙◌, subst}
use Rattle.spec_base.specs.Layout.{stub_start}
use Rattle.spec_base.specs.declared.machine.View.{View}
use Rattle.spec_base.specs.declared.machine.View.TheVariants.{Plain, Program, Stub, Shadow}
use Rattle.spec_base.specs.declared.note.Move.{Move}
use Rattle.spec_base.specs.declared.note.Move.TheVariants.{O, S, T, D}
use Rattle.spec_base.specs.declared.spot.BlockSpot.{BlockSpot}
use Rattle.spec_base.specs.declared.spot.ReadSpot.{ReadSpot}
use Rattle.spec_base.specs.declared.note.Note.{Note}
use Rattle.rv_decode.specs.declared.instr.Instr.{Instr}
use Rattle.rv_decode.specs.declared.instr.Instr.TheVariants.{Hkey, Hcall, Hleave, Hsite, Hstop, Hrestart}
use Rattle.rv_model.specs.Memory.{bytes_at}
use Rattle.rv_model.specs.Rights.{in_private, data_rights, stub_rights}
use Rattle.rv_model.specs.Effect.{Effect, Next, Stored, Trapped, Called, Gated, effect, fetched}
use Rattle.rv_model.specs.Space.{stub_sees}
use Rattle.rv_model.proofs.DataLemmas.{bytes_at-length}
use Rattle.program_model.specs.Calls.{CallPlan, Set, Look, Read, Write, Exit}
use Rattle.program_model.specs.PlainRun.{Output, put, plan_of}
use Rattle.program_model.specs.Cache.{Gathered, gather, in_flight}
use Rattle.code_model.specs.Stub.{stub}
use Rattle.run_model.specs.Run.{World, Run, RunEnd, Exits, Traps, StoreFailed, SinkFailed, Answer, Usual, Took, Failed, Lost, rewritten_text}
use Rattle.run_model.specs.OwnMoves.{own_unless, own_in, program_at, program_after, stub_at, stub_after, stub_stores, gate_step, own_call_step, look_done, read_on, write_step}
use Rattle.run_model.specs.ShadowMoves.{shadow_plan}
use Rattle.run_model.specs.Moves.{step, step_unless, begun, fetch_of, fetch_ends, fetch_failed, landed_with}
use Rattle.run_laws.specs.OwnLaws.{IsShadowMove, OwnPart, has_failed}
use Rattle.own_laws.proofs.InvisibleShadow.{shadow_is_invisible}
use Rattle.world_io.specs.Logs.{Offer}
use Rattle.world_io.specs.declared.sink.Put.TheVariants as answer
use Rattle.word_laws.specs.Shown.{is_performed}
use Rattle.move_requests.specs.Asked.{Asked, Nothing, Looks, Fetches, Puts, asks, asks_if, asks_unless, performing_asks, assuming_asks, fetching_asks, is_stub, is_assuming}
use Rattle.move_requests.specs.Offers.{store_call, offers_in, offer_if, is_same, put_answer}
use Rattle.move_requests.proofs.Deaf.{Quiet, stub-quiet}

-- an output with what these puts took
abbrev pub with_offers : Output → List Offer → Output
with_offers o [] = o
with_offers o ((bytes, answer.Took k) ∷ offers) = with_offers (put o bytes k) offers
with_offers o ((bytes, answer.Failed) ∷ offers) = with_offers o offers

-- a run has ended by a fault of a sink, or of the store
abbrev pub has_sink_fault : Option RunEnd → Bool
has_sink_fault (Some SinkFailed) = true
has_sink_fault (Some StoreFailed) = false
has_sink_fault (Some (Exits code)) = false
has_sink_fault (Some (Traps cause pc)) = false
has_sink_fault None = false

abbrev pub has_store_fault : Option RunEnd → Bool
has_store_fault (Some StoreFailed) = true
has_store_fault (Some SinkFailed) = false
has_store_fault (Some (Exits code)) = false
has_store_fault (Some (Traps cause pc)) = false
has_store_fault None = false

-- a put was asked for, and failed
abbrev pub is_failed_put : Asked → Answer → Bool
is_failed_put (Puts to bytes) x = has_failed x
is_failed_put (Looks name) x = false
is_failed_put (Fetches spot) x = false
is_failed_put Nothing x = false

-- from one run to the next the outputs grow by the puts that are asked for; the run ends by a fault of a sink exactly where such a put failed, and by one of the store only where such a call did
pub record IsTold (x : Answer) (r next : Run) (asked : Asked) : Type 0 where
  pub out : next.own.out ≡ with_offers r.own.out (offers_in true asked x)
  pub err : next.own.err ≡ with_offers r.own.err (offers_in false asked x)
  pub sink : has_sink_fault next.end ≡ is_failed_put asked x
  pub store : has_store_fault next.end ≡ true → store_call asked x ≡ true ∷ []

no : {A : Type 0} → true ≡ false → A
no e = cc

-- a run that goes on, whatever was asked for but puts
goes_on : (x : Answer) (r next : Run) → r.end ≡ None → next.own.out ≡ r.own.out → next.own.err ≡ r.own.err → next.end ≡ r.end → IsTold x r next Nothing
goes_on x r next e out err end =
    record {
      out = out;
      err = err;
      sink = ap has_sink_fault (end ∙ e);
      store = λ h. no (sym h ∙ ap has_store_fault (end ∙ e));
    }

module _ (w : World) (x : Answer) where
  -- ---- calls

  write-told : (r : Run) (to : Bool) (a n : ℕ) → r.end ≡ None → IsTold x r (write_step w x r to a n) (Puts to (bytes_at r.own.memory a n))
  write-told r to a n e = record {
    out = by_length to (length (bytes_at r.own.memory a n)) (bytes_at-length r.own.memory a n) x;
    err = by_length_err to (length (bytes_at r.own.memory a n)) (bytes_at-length r.own.memory a n) x;
    sink = by_sink to x;
    store = by_store to x;
  }
    where
      by_out : (to : Bool) (x : Answer) → (write_step w x r to a n).own.out ≡ with_offers r.own.out (offer_if (is_same true to) (bytes_at r.own.memory a n, put_answer n x))
      by_out true Failed = refl
      by_out false Failed = refl
      by_out true Usual = refl
      by_out false Usual = refl
      by_out true (Took k) = refl
      by_out false (Took k) = refl
      by_out true Lost = refl
      by_out false Lost = refl

      by_length : (to : Bool) (l : ℕ) → l ≡ n → (x : Answer) → (write_step w x r to a n).own.out ≡ with_offers r.own.out (offer_if (is_same true to) (bytes_at r.own.memory a n, put_answer l x))
      by_length to l same x = subst (λ z. (write_step w x r to a n).own.out ≡ with_offers r.own.out (offer_if (is_same true to) (bytes_at r.own.memory a n, put_answer z x))) (sym same) (by_out to x)

      by_err : (to : Bool) (x : Answer) → (write_step w x r to a n).own.err ≡ with_offers r.own.err (offer_if (is_same false to) (bytes_at r.own.memory a n, put_answer n x))
      by_err true Failed = refl
      by_err false Failed = refl
      by_err true Usual = refl
      by_err false Usual = refl
      by_err true (Took k) = refl
      by_err false (Took k) = refl
      by_err true Lost = refl
      by_err false Lost = refl

      by_length_err : (to : Bool) (l : ℕ) → l ≡ n → (x : Answer) → (write_step w x r to a n).own.err ≡ with_offers r.own.err (offer_if (is_same false to) (bytes_at r.own.memory a n, put_answer l x))
      by_length_err to l same x = subst (λ z. (write_step w x r to a n).own.err ≡ with_offers r.own.err (offer_if (is_same false to) (bytes_at r.own.memory a n, put_answer z x))) (sym same) (by_err to x)

      by_sink : (to : Bool) (x : Answer) → has_sink_fault (write_step w x r to a n).end ≡ has_failed x
      by_sink to Failed = refl
      by_sink to Usual = ap has_sink_fault e
      by_sink to (Took k) = ap has_sink_fault e
      by_sink to Lost = ap has_sink_fault e

      by_store : (to : Bool) (x : Answer) → has_store_fault (write_step w x r to a n).end ≡ true → [] ≡ true ∷ []
      by_store to Failed h = no (sym h)
      by_store to Usual h = no (sym h ∙ ap has_store_fault e)
      by_store to (Took k) h = no (sym h ∙ ap has_store_fault e)
      by_store to Lost h = no (sym h ∙ ap has_store_fault e)

  look-told : (r : Run) (name : List ℕ) → r.end ≡ None → IsTold x r (look_done w x r name) (Looks name)
  look-told r name e = by_answer x
    where
      by_answer : (x : Answer) → IsTold x r (look_done w x r name) (Looks name)
      by_answer Failed = record { out = refl; err = refl; sink = refl; store = λ h. refl }
      by_answer Usual = record { out = refl; err = refl; sink = ap has_sink_fault e; store = λ h. no (sym h ∙ ap has_store_fault e) }
      by_answer (Took k) = record { out = refl; err = refl; sink = ap has_sink_fault e; store = λ h. no (sym h ∙ ap has_store_fault e) }
      by_answer Lost = record { out = refl; err = refl; sink = ap has_sink_fault e; store = λ h. no (sym h ∙ ap has_store_fault e) }

  read-told : (d : ℕ) (spot : ReadSpot) (a : ℕ) (g : Gathered) (r : Run) (waits : Bool) → r.end ≡ None → IsTold x r (read_on waits w d spot a g r) Nothing
  read-told d spot a g r true e = goes_on x r (read_on true w d spot a g r) e refl refl refl
  read-told d spot a g r false e = goes_on x r (read_on false w d spot a g r) e refl refl refl

  call-told : (r : Run) (plan : CallPlan) → r.end ≡ None → IsTold x r (own_call_step w x r plan) (performing_asks r.own.memory plan)
  call-told r (Set f z) e = goes_on x r (own_call_step w x r (Set f z)) e refl refl refl
  call-told r (Look name) e = look-told r name e
  call-told r (Read d spot a) e = read-told d spot a (gather r.cache r.gathered _) r _ e
  call-told r (Write to a n) e = write-told r to a n e
  call-told r (Exit code) e = record { out = refl; err = refl; sink = refl; store = λ h. no (sym h) }

  -- ---- words of the stub

  gate-told : (r : Run) (i : Instr) → Quiet (Gated i) → r.end ≡ None → IsTold x r (gate_step w x r i) Nothing
  gate-told r Hleave q e = goes_on x r (gate_step w x r Hleave) e refl refl refl
  gate-told r (Hsite rd) q e = goes_on x r (gate_step w x r (Hsite rd)) e refl refl refl
  gate-told r (Hkey rd) q e = goes_on x r (gate_step w x r (Hkey rd)) e refl refl refl
  gate-told r Hstop q e = goes_on x r (gate_step w x r Hstop) e refl refl refl
  gate-told r Hrestart q e = goes_on x r (gate_step w x r Hrestart) e refl refl refl
  gate-told r _ q e = absurd q.by

  stores-told : (inside : Bool) (r : Run) (a width v : ℕ) → r.end ≡ None → IsTold x r (stub_stores inside r a width v) Nothing
  stores-told true r a width v e = goes_on x r (stub_stores true r a width v) e refl refl refl
  stores-told false r a width v e = goes_on x r (stub_stores false r a width v) e refl refl refl

  after-told : (r : Run) (f : Effect) → Quiet f → r.end ≡ None → IsTold x r (stub_after w x r f) Nothing
  after-told r (Gated i) q e = gate-told r i q e
  after-told r (Next rs pc) q e = goes_on x r (stub_after w x r (Next rs pc)) e refl refl refl
  after-told r (Stored a width v) q e = stores-told (in_private a) r a width v e
  after-told r (Trapped cause) q e = record { out = refl; err = refl; sink = refl; store = λ h. no (sym h) }
  after-told r Called q e = goes_on x r r e refl refl refl

  instr-told : (r : Run) (i : Instr) (c : Bool) → is_performed (Some i) ≡ c → r.end ≡ None
      → IsTold x r (stub_at w x r (Some i)) (asks_if c (performing_asks r.own.memory (plan_of w.image.layout r.own)))
  instr-told r i false p e = after-told r _ (stub-quiet stub_rights (stub_sees r.shared r.own_page) r.own.registers r.own.pc i p) e
  instr-told r (Hcall false) true p e = call-told r (plan_of w.image.layout r.own) e
  instr-told r _ true p e = no (sym p)

  stub-told : (r : Run) (o : Option Instr) → r.end ≡ None → IsTold x r (stub_at w x r o) (asks_if (is_performed o) (performing_asks r.own.memory (plan_of w.image.layout r.own)))
  stub-told r None e = record { out = refl; err = refl; sink = refl; store = λ h. no (sym h) }
  stub-told r (Some i) e = instr-told r i (is_performed (Some i)) refl e

  -- ---- words of the program

  program-told : (r : Run) (f : Effect) → r.end ≡ None → IsTold x r (program_after r f) Nothing
  program-told r (Next rs pc) e = goes_on x r (program_after r (Next rs pc)) e refl refl refl
  program-told r (Stored a width v) e = goes_on x r (program_after r (Stored a width v)) e refl refl refl
  program-told r (Trapped cause) e = record { out = refl; err = refl; sink = refl; store = λ h. no (sym h) }
  program-told r (Gated i) e = goes_on x r (program_after r (Gated i)) e refl refl refl
  program-told r Called e = goes_on x r r e refl refl refl

  word-told : (r : Run) (o : Option Instr) → r.end ≡ None → IsTold x r (program_at w r o) Nothing
  word-told r None e = record { out = refl; err = refl; sink = refl; store = λ h. no (sym h) }
  word-told r (Some i) e = program-told r (effect Program (data_rights w.image.layout) r.own.memory r.own.registers r.own.pc i) e

  -- ---- moves

  view-told : (r : Run) (v : View) → r.end ≡ None
      → IsTold x r (own_in v w x r) (asks_if (is_stub v && is_performed (fetched stub stub_start r.own.pc)) (performing_asks r.own.memory (plan_of w.image.layout r.own)))
  view-told r Stub e = stub-told r (fetched stub stub_start r.own.pc) e
  view-told r Program e = word-told r (fetched (rewritten_text w) w.image.layout.text_start r.own.pc) e
  view-told r Plain e = goes_on x r r e refl refl refl
  view-told r Shadow e = goes_on x r r e refl refl refl

  own-told : (r : Run) (s : Bool) → r.end ≡ None
      → IsTold x r (own_unless s w x r) (asks_if (not s && (is_stub r.view && is_performed (fetched stub stub_start r.own.pc))) (performing_asks r.own.memory (plan_of w.image.layout r.own)))
  own-told r true e = goes_on x r r e refl refl refl
  own-told r false e = view-told r r.view e

  fetch-failed : (d : Option BlockSpot) (r : Run) (spot : BlockSpot) → r.end ≡ None → IsTold Failed r (fetch_failed d r spot) (Fetches spot)
  fetch-failed (Some d) r spot e = record { out = refl; err = refl; sink = refl; store = λ h. refl }
  fetch-failed None r spot e = record { out = refl; err = refl; sink = ap has_sink_fault e; store = λ h. no (sym h ∙ ap has_store_fault e) }

  landed-told : (x : Answer) (d : Option BlockSpot) (r : Run) (notes : List Note) (spot : BlockSpot) → r.end ≡ None → IsTold x r (landed_with d r notes) (Fetches spot)
  landed-told x (Some d) r notes spot e = record { out = refl; err = refl; sink = ap has_sink_fault e; store = λ h. no (sym h ∙ ap has_store_fault e) }
  landed-told x None r notes spot e = record { out = refl; err = refl; sink = ap has_sink_fault e; store = λ h. no (sym h ∙ ap has_store_fault e) }

  -- caching a block changes none of these
  cached-told : (x : Answer) (r next : Run) (spot : BlockSpot) (cached : Run) → IsTold x r next (Fetches spot) → cached.own ≡ next.own → cached.end ≡ next.end → IsTold x r cached (Fetches spot)
  cached-told x r next spot cached t own end = record {
    out = ap (λ s. s.out) own ∙ t.out;
    err = ap (λ s. s.err) own ∙ t.err;
    sink = ap has_sink_fault end ∙ t.sink;
    store = λ h. t.store (sym (ap has_store_fault end) ∙ h);
  }

  ends-told : (x : Answer) (r : Run) (spot : BlockSpot) → r.end ≡ None → IsTold x r (fetch_ends w x r spot) (Fetches spot)
  ends-told Failed r spot e = fetch-failed r.cache.demanded r spot e
  ends-told Lost r spot e = landed-told Lost r.cache.demanded r _ spot e
  ends-told Usual r spot e = cached-told Usual r (landed_with r.cache.demanded r _) spot (fetch_ends w Usual r spot) (landed-told Usual r.cache.demanded r _ spot e) refl refl
  ends-told (Took k) r spot e = cached-told (Took k) r (landed_with r.cache.demanded r _) spot (fetch_ends w (Took k) r spot) (landed-told (Took k) r.cache.demanded r _ spot e) refl refl

  fetch-told : (r : Run) (o : Option BlockSpot) → r.end ≡ None → IsTold x r (fetch_of o w x r) (fetching_asks o)
  fetch-told r None e = goes_on x r r e refl refl refl
  fetch-told r (Some spot) e = ends-told x r spot e

  -- a move of the shadow leaves the own part, and puts nothing
  assumed-told : (r next : Run) (c : Bool) (plan : CallPlan) → IsTold x r next Nothing → has_store_fault next.end ≡ false → IsTold x r next (asks_if c (assuming_asks plan))
  assumed-told r next false plan t s = t
  assumed-told r next true (Look name) t s = record { out = t.out; err = t.err; sink = t.sink; store = λ h. no (sym h ∙ s) }
  assumed-told r next true (Set f z) t s = t
  assumed-told r next true (Read d spot a) t s = t
  assumed-told r next true (Write to a n) t s = t
  assumed-told r next true (Exit code) t s = t

  shadow-leaves : (r : Run) (m : Move) → IsShadowMove m → r.end ≡ None → IsTold x r (step w r (m, x)) Nothing
  shadow-leaves r m h e =
      let own = (shadow_is_invisible w r m x h).leaves in
      goes_on x r (step w r (m, x)) e (ap (λ (p : OwnPart). p.own.out) own) (ap (λ (p : OwnPart). p.own.err) own) (ap (λ (p : OwnPart). p.end) own)

  shadow-goes : (r : Run) (m : Move) → IsShadowMove m → r.end ≡ None → has_store_fault (step w r (m, x)).end ≡ false
  shadow-goes r m h e = ap has_store_fault (ap (λ (p : OwnPart). p.end) (shadow_is_invisible w r m x h).leaves ∙ e)

  -- what a move asks of a run that goes on
  asks-told : (r next : Run) (m : Move) → r.end ≡ None → IsTold x r next (asks_unless None w r m) → IsTold x r next (asks w r m)
  asks-told r next m e t = subst (λ o. IsTold x r next (asks_unless o w r m)) (sym e) t

  step-of : (r : Run) (m : Move) → r.end ≡ None → step_unless None w r (m, x) ≡ step w r (m, x)
  step-of r m e = ap (λ o. step_unless o w r (m, x)) (sym e)

  -- the count of moves is no part of it
  begun-told : (r next : Run) (asked : Asked) → IsTold x (begun r) next asked → IsTold x r next asked
  begun-told r next asked t = record { out = t.out; err = t.err; sink = t.sink; store = t.store }

  pub step-told : (r : Run) (m : Move) → r.end ≡ None → IsTold x r (step w r (m, x)) (asks w r m)
  step-told r O e =
      asks-told r (step w r (O, x)) O e
      (subst (λ next. IsTold x r next (asks_unless None w r O)) (step-of r O e) (begun-told r _ _ (own-told (begun r) r.stalled e)))
  step-told r D e =
      asks-told r (step w r (D, x)) D e
      (subst (λ next. IsTold x r next (asks_unless None w r D)) (step-of r D e) (begun-told r _ _ (fetch-told (begun r) (in_flight r.cache) e)))
  step-told r S e = asks-told r (step w r (S, x)) S e (assumed-told r (step w r (S, x)) (is_assuming w r) (shadow_plan w r) (shadow-leaves r S tt e) (shadow-goes r S tt e))
  step-told r T e = asks-told r (step w r (T, x)) T e (assumed-told r (step w r (T, x)) (r.stalled && is_assuming w r) (shadow_plan w r) (shadow-leaves r T tt e) (shadow-goes r T tt e))
