-- What a move changes of the counts: it completes no instruction, or one, or restarts the shadow; and it fills a read where its notes tell a fill.
use Rattle.std.proofs.Common.{◌≡◌, ◌⊎◌, inl, inr, ℕ, ◌+◌, ◌≤◌, nat_lt, Bool, true, false, ◌&&◌, List, [], ◌∷◌, drop, Option, Some, None, refl, sym, ◌∙◌, ap, arith}
use Rattle.std.specs.Prelude.{IsTrue}
use Rattle.std.proofs.lemmas.Bool.{and_parts}
use Rattle.std.proofs.lemmas.Bool.Decides.{nat_tests}
use Rattle.spec_base.specs.Layout.{stub_start}
use Rattle.spec_base.specs.declared.machine.View.{View}
use Rattle.spec_base.specs.declared.machine.View.TheVariants.{Plain, Program, Stub, Shadow}
use Rattle.spec_base.specs.declared.note.Move.{Move}
use Rattle.spec_base.specs.declared.note.Move.TheVariants.{O, S, T, D}
use Rattle.spec_base.specs.declared.note.Note.TheVariants as note
use Rattle.spec_base.specs.declared.note.ShadowState.{ShadowState}
use Rattle.spec_base.specs.declared.note.ShadowState.TheVariants.{Never, Running, Stopped, Parked}
use Rattle.spec_base.specs.declared.spot.ReadSpot.{ReadSpot}
use Rattle.spec_base.specs.declared.spot.BlockSpot.{BlockSpot}
use Rattle.rv_decode.specs.declared.instr.Instr.{Instr}
use Rattle.rv_decode.specs.declared.instr.Instr.TheVariants.{Hleave, Hsite, Hkey, Hstop, Hrestart, Hcall}
use Rattle.rv_model.specs.Rights.{data_rights, stub_rights, shadow_rights, in_private}
use Rattle.rv_model.specs.Effect.{Effect, Next, Stored, Trapped, Called, Gated, effect, fetched}
use Rattle.rv_model.specs.Space.{stub_sees, shadow_sees}
use Rattle.program_model.specs.Calls.{CallPlan, Set, Look, Read, Write, Exit}
use Rattle.program_model.specs.Cache.{Gathered, gather, blocks_of, in_flight}
use Rattle.program_model.specs.PlainRun.{plan_of}
use Rattle.code_model.specs.Stub.{stub}
use Rattle.run_model.specs.Run.{World, Run, RunEnd, Since, Answer, Usual, Took, Failed, Lost, rewritten_text, rewritten_words}
use Rattle.run_model.specs.OwnMoves.{stays_behind, counted, since_restart, stall_notes, read_notes, match_count, call_done, program_after, program_at, stub_after, stub_at, stub_stores, gate_step, own_call_step, read_on, look_done, write_step, own_in, own_unless}
use Rattle.run_model.specs.ShadowMoves.{shadow_in, shadow_at_word, shadow_after, shadow_gate, shadow_stores, shadow_plan, assumed, look_assumed, hint_given, fill, fill_if, is_filled, arrived_if, word_counted, fetch_shadow, is_running, is_arrival}
use Rattle.run_model.specs.Moves.{begun, step, step_unless, fetch_of, fetch_ends, fetch_failed, landed_with, cached_too, shadow_while}
use Rattle.own_laws.proofs.Side.{Kept, kept_of}
use Rattle.own_laws.proofs.InvisibleShadow.{kept_begun, shadow_move-keeps}
use Rattle.use_marks.specs.Along.{tells_fill, filled_by}

-- ---- tests

-- a count that is the same, and one that is one more
pub same-count : (n m : ℕ) → m ≡ n → nat_lt n m ≡ false
same-count n m e = grind (arith, nat_tests)

pub more-count : (n m : ℕ) → m ≡ n + 1 → nat_lt n m ≡ true
more-count n m e = grind (arith, nat_tests)

-- ---- what a move changes

-- fills: the reads that were filled before, and one more where the move tells a fill
pub record Fills (r y : Run) : Type 0 where
  pub filled : y.since.filled ≡ filled_by false (tells_fill y.notes) r
  pub ahead : y.since.ahead ≡ r.since.ahead
  pub shadow : r.since.shadow ≤ y.since.shadow

-- no instruction is completed
pub record Rests (r y : Run) : Type 0 where
  pub done : y.own_done ≡ r.own_done
  pub restarts : y.restarts ≡ r.restarts
  pub own : y.since.own ≡ r.since.own
  pub whole : y.since.whole ≡ r.since.whole
  pub origin : y.since.origin ≡ r.since.origin
  pub fills : Fills r y

-- one is, and nothing is filled
pub record Counts (r y : Run) : Type 0 where
  pub done : y.own_done ≡ r.own_done + 1
  pub restarts : y.restarts ≡ r.restarts
  pub own : y.since.own ≡ r.since.own + 1
  pub whole : IsTrue y.since.whole → IsTrue r.since.whole
  pub origin : y.since.origin ≡ r.since.origin
  pub filled : y.since.filled ≡ r.since.filled
  pub shadow : y.since.shadow ≡ r.since.shadow
  pub ahead : y.since.ahead ≡ (r.since.ahead && stays_behind r.restarts (r.since.own + 1) r.since.shadow)
  pub silent : tells_fill y.notes ≡ false

-- the shadow is restarted
pub record Begins (r y : Run) : Type 0 where
  pub done : y.own_done ≡ r.own_done
  pub restarts : y.restarts ≡ r.restarts + 1
  pub own : y.since.own ≡ 0
  pub filled : y.since.filled ≡ []

pub data Moved (r y : Run) : Type 0 where
  rests : Rests r y → Moved r y
  counts : Counts r y → Moved r y
  begins : Begins r y → Moved r y

-- ---- own moves

-- what is watched of a run
record Watched : Type 0 where
  done : ℕ
  restarts : ℕ
  since : Since
  fills : Bool

abbrev watched_of : Run → Watched
watched_of r = record { done = r.own_done; restarts = r.restarts; since = r.since; fills = tells_fill r.notes }

-- an own move or a fetch that changes nothing of it
abbrev Idles : Run → Run → Type 0
Idles r y = watched_of y ≡ record { done = r.own_done; restarts = r.restarts; since = r.since; fills = false }

-- an own move, by that
data Own (r y : Run) : Type 0 where
  idles : Idles r y → Own r y
  completes : (whole : Bool) → (IsTrue whole → IsTrue r.since.whole)
      → watched_of y ≡ record { done = r.own_done + 1; restarts = r.restarts; since = counted r.restarts (record r.since { whole = whole }); fills = false } → Own r y
  anew : (fills : Bool) → watched_of y ≡ record { done = r.own_done; restarts = r.restarts + 1; since = since_restart r; fills = fills } → Own r y

own-moved : (r y : Run) → Own r y → Moved r y
own-moved r y (idles e) =
    rests
    (record {
      done = ap (λ (k : Watched). k.done) e;
      restarts = ap (λ (k : Watched). k.restarts) e;
      own = ap (λ (k : Watched). k.since.own) e;
      whole = ap (λ (k : Watched). k.since.whole) e;
      origin = ap (λ (k : Watched). k.since.origin) e;
      fills =
          record {
            filled = ap (λ (k : Watched). k.since.filled) e ∙ sym (ap (λ (k : Watched). filled_by false k.fills r) e);
            ahead = ap (λ (k : Watched). k.since.ahead) e;
            shadow = let same : y.since.shadow ≡ r.since.shadow = ap (λ (k : Watched). k.since.shadow) e in omega (arith, same);
          };
    })
own-moved r y (completes whole some e) =
    counts
    (record {
      done = ap (λ (k : Watched). k.done) e;
      restarts = ap (λ (k : Watched). k.restarts) e;
      own = ap (λ (k : Watched). k.since.own) e;
      whole = λ h. some (sym (ap (λ (k : Watched). k.since.whole) e) ∙ h);
      origin = ap (λ (k : Watched). k.since.origin) e;
      filled = ap (λ (k : Watched). k.since.filled) e;
      shadow = ap (λ (k : Watched). k.since.shadow) e;
      ahead = ap (λ (k : Watched). k.since.ahead) e;
      silent = ap (λ (k : Watched). k.fills) e;
    })
own-moved r y (anew fills e) =
    begins
    (record {
      done = ap (λ (k : Watched). k.done) e;
      restarts = ap (λ (k : Watched). k.restarts) e;
      own = ap (λ (k : Watched). k.since.own) e;
      filled = ap (λ (k : Watched). k.since.filled) e;
    })

module _ (w : World) where
  -- a look
  look-done : (x : Answer) (r : Run) (name : List ℕ) → Own r (look_done w x (begun r) name)
  look-done Failed r name = idles refl
  look-done Usual r name = completes r.since.whole (λ h. h) refl
  look-done (Took k) r name = completes r.since.whole (λ h. h) refl
  look-done Lost r name = completes r.since.whole (λ h. h) refl

  -- a read that goes on
  read-on : (b : Bool) (d : ℕ) (spot : ReadSpot) (a : ℕ) (g : Gathered) (r : Run) → Own r (read_on b w d spot a g (begun r))
  read-on true d spot a g r = idles (ap (λ (b : Bool). record { done = r.own_done; restarts = r.restarts; since = r.since; fills = b }) (stalls g.cache.demanded))
    where
      stalls : (o : Option BlockSpot) → tells_fill (stall_notes o) ≡ false
      stalls (Some spot) = refl
      stalls None = refl
  read-on false d spot a g r = by_asked r.asked
    where
      by_asked : (b : Bool) → Own r (call_done w 0 (Read d spot a) (read_notes b r.own spot) (record (begun r) { cache = g.cache; matched = match_count r.asked r.matched }))
      by_asked true = completes r.since.whole (λ h. h) refl
      by_asked false = completes r.since.whole (λ h. h) refl

  -- a put
  write-step : (x : Answer) (r : Run) (to_out : Bool) (a n : ℕ) → Own r (write_step w x (begun r) to_out a n)
  write-step Failed r to_out a n = idles refl
  write-step Usual r to_out a n = completes _ (λ h. (and_parts r.since.whole _ h).0) refl
  write-step (Took k) r to_out a n = completes _ (λ h. (and_parts r.since.whole _ h).0) refl
  write-step Lost r to_out a n = completes _ (λ h. (and_parts r.since.whole _ h).0) refl

  -- a planned call
  own-call : (x : Answer) (r : Run) (c : CallPlan) → Own r (own_call_step w x (begun r) c)
  own-call x r (Set f answer) = completes r.since.whole (λ h. h) refl
  own-call x r (Look name) = look-done x r name
  own-call x r (Read d spot a) = let g : Gathered = gather r.cache r.gathered (drop r.gathered (blocks_of spot)) in read-on g.waits d spot a g r
  own-call x r (Write to_out a n) = write-step x r to_out a n
  own-call x r (Exit code) = completes r.since.whole (λ h. h) refl

  -- a gate instruction of the stub
  gate-step : (x : Answer) (r : Run) (i : Instr) → Own r (gate_step w x (begun r) i)
  gate-step x r Hleave = idles refl
  gate-step x r (Hsite rd) = idles refl
  gate-step x r (Hkey rd) = idles refl
  gate-step x r Hstop = idles refl
  gate-step x r Hrestart = anew _ refl
  gate-step x r _ = own-call x r (plan_of w.image.layout r.own)

  -- a store of the stub
  stub-stores : (b : Bool) (r : Run) (a width n : ℕ) → Own r (stub_stores b (begun r) a width n)
  stub-stores true r a width n = idles refl
  stub-stores false r a width n = idles refl

  -- a word of the stub, by its effect
  stub-after : (x : Answer) (r : Run) (e : Effect) → Own r (stub_after w x (begun r) e)
  stub-after x r (Next rs pc) = idles refl
  stub-after x r (Stored a width n) = stub-stores (in_private a) r a width n
  stub-after x r (Trapped cause) = idles refl
  stub-after x r (Gated i) = gate-step x r i
  stub-after x r Called = idles refl

  -- and by its instruction
  stub-at : (x : Answer) (r : Run) (o : Option Instr) → Own r (stub_at w x (begun r) o)
  stub-at x r None = idles refl
  stub-at x r (Some i) = stub-after x r (effect Stub stub_rights (stub_sees r.shared r.own_page) r.own.registers r.own.pc i)

  -- a word of the program, by its effect
  program-after : (r : Run) (e : Effect) → Own r (program_after (begun r) e)
  program-after r (Next rs pc) = completes r.since.whole (λ h. h) refl
  program-after r (Stored a width v) = completes r.since.whole (λ h. h) refl
  program-after r (Trapped cause) = idles refl
  program-after r Called = idles refl
  program-after r (Gated i) = idles refl

  -- and by its instruction
  program-at : (r : Run) (o : Option Instr) → Own r (program_at w (begun r) o)
  program-at r None = idles refl
  program-at r (Some i) = program-after r (effect Program (data_rights w.image.layout) r.own.memory r.own.registers r.own.pc i)

  -- a word of either
  own-in : (v : View) (x : Answer) (r : Run) → Own r (own_in v w x (begun r))
  own-in Program x r = program-at r (fetched (rewritten_text w) w.image.layout.text_start r.own.pc)
  own-in Stub x r = stub-at x r (fetched stub stub_start r.own.pc)
  own-in Plain x r = idles refl
  own-in Shadow x r = idles refl

  -- a hart that may wait
  own-unless : (b : Bool) (x : Answer) (r : Run) → Own r (own_unless b w x (begun r))
  own-unless true x r = idles refl
  own-unless false x r = own-in r.view x r

  -- ---- fetches

  -- a block that landed, and is cached or lost
  cached : (o : Option BlockSpot) (r : Run) (spot : BlockSpot) → Idles r (cached_too (landed_with o (begun r) (note.Fetch spot ∷ [])) spot)
  cached (Some demanded) r spot = refl
  cached None r spot = refl

  lost : (o : Option BlockSpot) (r : Run) (spot : BlockSpot) → Idles r (landed_with o (begun r) (note.Lost spot ∷ []))
  lost (Some demanded) r spot = refl
  lost None r spot = refl

  -- a fetch that failed
  failed : (o : Option BlockSpot) (r : Run) (spot : BlockSpot) → Idles r (fetch_failed o (begun r) spot)
  failed (Some demanded) r spot = refl
  failed None r spot = refl

  -- each end of a fetch
  fetch-ends : (x : Answer) (r : Run) (spot : BlockSpot) → Idles r (fetch_ends w x (begun r) spot)
  fetch-ends Failed r spot = failed r.cache.demanded r spot
  fetch-ends Lost r spot = lost r.cache.demanded r spot
  fetch-ends Usual r spot = cached r.cache.demanded r spot
  fetch-ends (Took k) r spot = cached r.cache.demanded r spot

  fetch-of : (o : Option BlockSpot) (x : Answer) (r : Run) → Idles r (fetch_of o w x (begun r))
  fetch-of None x r = refl
  fetch-of (Some spot) x r = fetch-ends x r spot

  -- ---- moves of the shadow

  -- a run that is as before in this
  as-before : (r : Run) → Fills r (begun r)
  as-before r = record { filled = refl; ahead = refl; shadow = omega arith }

  -- a look
  look-fills : (x : Answer) (r : Run) (name : List ℕ) → Fills r (look_assumed w x (begun r) name)
  look-fills Failed r name = record { filled = refl; ahead = refl; shadow = omega arith }
  look-fills Usual r name = record { filled = refl; ahead = refl; shadow = omega arith }
  look-fills (Took k) r name = record { filled = refl; ahead = refl; shadow = omega arith }
  look-fills Lost r name = record { filled = refl; ahead = refl; shadow = omega arith }

  -- a read that is filled, or left unfilled
  fill-fills : (unhinted b : Bool) (r : Run) (spot : ReadSpot) (a : ℕ) → Fills r (fill_if b w spot a (hint_given unhinted spot (begun r)))
  fill-fills true true r spot a = record { filled = refl; ahead = refl; shadow = omega arith }
  fill-fills true false r spot a = record { filled = refl; ahead = refl; shadow = omega arith }
  fill-fills false true r spot a = record { filled = refl; ahead = refl; shadow = omega arith }
  fill-fills false false r spot a = record { filled = refl; ahead = refl; shadow = omega arith }

  -- a planned call is assumed
  assumed-fills : (x : Answer) (r : Run) (unhinted : Bool) (plan : CallPlan) → Fills r (assumed w x (begun r) unhinted plan)
  assumed-fills x r unhinted (Set f answer) = record { filled = refl; ahead = refl; shadow = omega arith }
  assumed-fills x r unhinted (Look name) = look-fills x r name
  assumed-fills x r unhinted (Read d spot a) =
      let f : Fills r (fill w spot a (hint_given unhinted spot (begun r))) = fill-fills unhinted (is_filled w (hint_given unhinted spot (begun r)) spot a spot.count) r spot a in
      record { filled = f.filled; ahead = f.ahead; shadow = f.shadow }
  assumed-fills x r unhinted (Write to_out a n) = record { filled = refl; ahead = refl; shadow = omega arith }
  assumed-fills x r unhinted (Exit code) = record { filled = refl; ahead = refl; shadow = omega arith }

  -- a gate instruction of the shadow
  gate-fills : (x : Answer) (r : Run) (i : Instr) → Fills r (shadow_gate w x (begun r) i)
  gate-fills x r (Hcall unhinted) = assumed-fills x r unhinted (shadow_plan w r)
  gate-fills x r _ = record { filled = refl; ahead = refl; shadow = omega arith }

  -- a store of the shadow
  stores-fill : (b : Bool) (r : Run) (a width v : ℕ) → Fills r (shadow_stores b (begun r) a width v)
  stores-fill true r a width v = record { filled = refl; ahead = refl; shadow = omega arith }
  stores-fill false r a width v = record { filled = refl; ahead = refl; shadow = omega arith }

  -- a word of the shadow, by its effect
  after-fills : (x : Answer) (r : Run) (e : Effect) → Fills r (shadow_after w x (begun r) e)
  after-fills x r (Next rs pc) = record { filled = refl; ahead = refl; shadow = omega arith }
  after-fills x r (Stored a width v) = stores-fill (in_private a) r a width v
  after-fills x r (Trapped cause) = record { filled = refl; ahead = refl; shadow = omega arith }
  after-fills x r (Gated i) = gate-fills x r i
  after-fills x r Called = record { filled = refl; ahead = refl; shadow = omega arith }

  -- an arrival, and the count of the word
  arrives : (b : Bool) (r y : Run) → Fills r y → Fills r (word_counted (arrived_if b y))
  arrives true r y f = record { filled = f.filled; ahead = f.ahead; shadow = omega (arith, f.shadow) }
  arrives false r y f = record { filled = f.filled; ahead = f.ahead; shadow = f.shadow }

  -- a word of the shadow, or none to fetch
  word-fills : (x : Answer) (r : Run) (o : Option Instr) → Fills r (word_counted (shadow_at_word w x (begun r) o))
  word-fills x r None = record { filled = refl; ahead = refl; shadow = omega arith }
  word-fills x r (Some i) =
      let e : Effect = effect Shadow (shadow_rights w.image.layout) (shadow_sees w.image.layout (rewritten_words w) r.own.memory r.shared r.shadow_page) r.shadow.registers r.shadow.pc i in
      let y : Run = shadow_after w x (begun r) e in
      arrives (is_running y.shadow.state && is_arrival w.image.layout y.shadow.pc) r y (after-fills x r e)

  -- a shadow that may run, and one that may have to wait for a stall
  in-fills : (s : ShadowState) (x : Answer) (r : Run) → Fills r (shadow_in s w x (begun r))
  in-fills Running x r = word-fills x r (fetch_shadow w r.shadow.pc)
  in-fills Never x r = as-before r
  in-fills Stopped x r = as-before r
  in-fills (Parked cause) x r = as-before r

  while-fills : (b : Bool) (x : Answer) (r : Run) → Fills r (shadow_while b w x (begun r))
  while-fills true x r = in-fills r.shadow.state x r
  while-fills false x r = as-before r

  -- a move that keeps the own side
  kept-rests : (r y : Run) → kept_of y ≡ kept_begun r → Fills r y → Moved r y
  kept-rests r y e fills =
      rests
      (record {
        done = ap (λ (k : Kept). k.side.tally.done) e;
        restarts = ap (λ (k : Kept). k.side.tally.restarts) e;
        own = ap (λ (k : Kept). k.side.tally.own) e;
        whole = ap (λ (k : Kept). k.side.tally.whole) e;
        origin = ap (λ (k : Kept). k.side.tally.origin) e;
        fills = fills;
      })

  -- ---- each move

  -- a run that has ended, or goes on
  shadow-fills : (r : Run) (x : Answer) → Fills r (step w r (S, x))
  shadow-fills r x = by_end r.end
    where
      by_end : (e : Option RunEnd) → Fills r (step_unless e w r (S, x))
      by_end (Some e) = record { filled = refl; ahead = refl; shadow = omega arith }
      by_end None = in-fills r.shadow.state x r

  waiting-fills : (r : Run) (x : Answer) → Fills r (step w r (T, x))
  waiting-fills r x = by_end r.end
    where
      by_end : (e : Option RunEnd) → Fills r (step_unless e w r (T, x))
      by_end (Some e) = record { filled = refl; ahead = refl; shadow = omega arith }
      by_end None = while-fills r.stalled x r

  own-step : (r : Run) (x : Answer) → Own r (step w r (O, x))
  own-step r x = by_end r.end
    where
      by_end : (e : Option RunEnd) → Own r (step_unless e w r (O, x))
      by_end (Some e) = idles refl
      by_end None = own-unless r.stalled x r

  fetch-idles : (r : Run) (x : Answer) → Idles r (step w r (D, x))
  fetch-idles r x = by_end r.end
    where
      by_end : (e : Option RunEnd) → Idles r (step_unless e w r (D, x))
      by_end (Some e) = refl
      by_end None = fetch-of (in_flight r.cache) x r

  move : (r : Run) (m : Move) (x : Answer) → Moved r (step w r (m, x))
  move r O x = own-moved r _ (own-step r x)
  move r S x = kept-rests r _ (shadow_move-keeps w r S x tt) (shadow-fills r x)
  move r T x = kept-rests r _ (shadow_move-keeps w r T x tt) (waiting-fills r x)
  move r D x = own-moved r _ (idles (fetch-idles r x))

  -- a move that isn't an own move completes nothing
  pub others-complete-nothing : (r : Run) (m : Move) (x : Answer) → (m ≡ O) ⊎ ((step w r (m, x)).own_done ≡ r.own_done)
  others-complete-nothing r O x = inl refl
  others-complete-nothing r S x = inr (ap (λ (k : Kept). k.side.tally.done) (shadow_move-keeps w r S x tt))
  others-complete-nothing r T x = inr (ap (λ (k : Kept). k.side.tally.done) (shadow_move-keeps w r T x tt))
  others-complete-nothing r D x = inr (ap (λ (k : Watched). k.done) (fetch-idles r x))

-- each move
pub step-moved : (w : World) (r : Run) (m : Move × Answer) → Moved r (step w r m)
step-moved w r m = move w r m.0 m.1
