-- How far a run has come.
use Rattle.std.proofs.Common.{◌≡◌, ℕ, zero, suc, ◌+◌, ◌<◌, true, false, List, [], ◌∷◌, ◌++◌, length, map, slice_get, Option, Some, None, refl, ap, sym, ◌∙◌, subst, arith}
use Rattle.std.specs.Prelude.{unwrap_or, All}
use Rattle.std.proofs.Math.ListN.{replicate}
use Rattle.std.proofs.lemmas.List.{append-nil, map-append, replicate-append-replicate, take_at, drop_at}
use Rattle.std.proofs.lemmas.List.Elements.{All-nil, All-head, All-append, All-take, All-drop}
use Rattle.spec_base.specs.Files.{Files}
use Rattle.rv_model.specs.Space.{Space}
use Rattle.program_model.specs.Descriptors.{Descriptors}
use Rattle.program_model.specs.PlainRun.{State, Image as Program, Taken, Output, put, plain_state, state_after, next_state}
use Rattle.world_io.specs.Outside.{StoreState, SinkState}
use Rattle.world_io.specs.Logs.{Piece, StoreLog, SinkLog, sizes}
use Rattle.world_io.proofs.Sinks.{append-SinkLog, none-SinkLog, bytes_of-more}
use Rattle.world_io.proofs.Stores.{append-StoreLog, none-StoreLog, failed-Rose}
use Rattle.hart_step.specs.Core.{Core}
use Rattle.plain_runner.specs.declared.ending.Ending.{Ending}
use Rattle.plain_runner.specs.declared.ending.Ending.TheVariants.{Exited, Trapped, TurnsOver, StoreFault, SinkFault, NoMemory}
use Rattle.plain_runner.specs.StoreCalls.{next_calls, state_calls, calls_until}
use Rattle.plain_runner.specs.Answers.{Answer, Answers}
use Rattle.plain_runner.specs.Runs.{Outside, Shows, output_of, AgreeOn, Agrees, EndsBy, CallsStore, FailedPuts, Reaches, RunsTo}
use Rattle.plain_runner.specs.Turns.{IsStart, Completes, alone, asks, puts_out, puts_err, piece, GoesOn, Stops, LastCalls}

-- a state was reached by completed instructions, and what it put is what the sinks took
pub record RunLog (p : Program) (old : Outside) (n : ℕ) (core : Core) (space : Space) (f : Descriptors) (now : Outside) : Type 0 where
  pub state : State
  pub calls : ℕ
  pub answers : List Answer
  pub outs : List Piece
  pub errs : List Piece
  pub reached : (files : Files) (t : Taken) → All (Answers files) answers → Agrees t outs errs → Reaches p files t n state calls
  pub told : (files : Files) → old.store.files ≡ Some files → All (Answers files) answers
  pub shows : Shows p core space f state
  pub out_is : state.out ≡ output_of outs
  pub err_is : state.err ≡ output_of errs
  pub store_log : StoreLog old.store (replicate calls false) now.store
  pub out_log : SinkLog old.out outs None now.out
  pub err_log : SinkLog old.err errs None now.err

pub first-RunLog : (p : Program) (core : Core) (space : Space) (f : Descriptors) (o : Outside) → IsStart p core space f → RunLog p o 0 core space f o
unfolding state_after calls_until
first-RunLog p core space f o start =
    record {
      state = p.start;
      calls = 0;
      answers = [];
      outs = [];
      errs = [];
      reached = λ files t answers agrees. record { state = refl; calls = refl };
      told = λ files e. All-nil (Answers files);
      shows = start.shows;
      out_is = start.out;
      err_is = start.err;
      store_log = none-StoreLog o.store;
      out_log = none-SinkLog o.out;
      err_log = none-SinkLog o.err;
    }

-- ---- answers

-- what is true of all answers is true of the earlier ones, and of the last
earlier : (files : Files) (xs ys : List Answer) → All (Answers files) (xs ++ ys) → All (Answers files) xs
earlier files xs ys h = subst (All (Answers files)) (take_at xs ys (length xs) refl) (All-take (Answers files) (length xs) (xs ++ ys) h)

later : (files : Files) (xs ys : List Answer) → All (Answers files) (xs ++ ys) → All (Answers files) ys
later files xs ys h = subst (All (Answers files)) (drop_at xs ys (length xs) refl) (All-drop (Answers files) (length xs) (xs ++ ys) h)

-- ---- counts of puts

-- counts that agree with one put more agree with those before it
agree-earlier : (counts : List ℕ) (pieces more : List Piece) → AgreeOn counts (pieces ++ more) → AgreeOn counts pieces
agree-earlier counts pieces more h i q e = h i q (still pieces i e)
  where
    still : (qs : List Piece) (i : ℕ) → slice_get qs i ≡ Some q → slice_get (qs ++ more) i ≡ Some q
    still [] i e = absurd (let f : None ≡ Some q = e in cc)
    still (x ∷ qs) zero e = e
    still (x ∷ qs) (suc i) e = still qs i e

agree-last : (counts : List ℕ) (pieces : List Piece) (offered : List ℕ) (k : ℕ) → AgreeOn counts (pieces ++ piece offered k ∷ [])
    → unwrap_or (slice_get counts (length pieces)) (length offered) ≡ k
agree-last counts pieces offered k h = h (length pieces) (piece offered k) (last pieces)
  where
    last : (qs : List Piece) → slice_get (qs ++ piece offered k ∷ []) (length qs) ≡ Some (piece offered k)
    last [] = refl
    last (x ∷ qs) = last qs

puts-count : (pieces : List Piece) → length (map sizes pieces) ≡ length pieces
puts-count [] = refl
puts-count (p ∷ ps) = ap suc (puts-count ps)

-- what one put more makes of an output
put-output : (o : Output) (pieces : List Piece) (offered : List ℕ) (k : ℕ) → o ≡ output_of pieces → put o offered k ≡ output_of (pieces ++ piece offered k ∷ [])
put-output o pieces offered k e =
    rw e (λ i. record {
      bytes = (sym (bytes_of-more pieces (piece offered k))) i;
      puts = (sym (map-append sizes pieces (piece offered k ∷ []))) i;
    })

no-more : (o : Output) (pieces : List Piece) → o ≡ output_of pieces → o ≡ output_of (pieces ++ [])
no-more o pieces e = e ∙ ap output_of (sym (append-nil pieces))

-- ---- a turn that goes on

module _ (p : Program) (old : Outside) (n : ℕ) (core : Core) (space : Space) (f : Descriptors) (now : Outside) (log : RunLog p old n core space f now) where
  -- the place of the next put among the counts
  out-place : length log.state.out.puts ≡ length log.outs
  out-place = ap (λ o. length o.puts) log.out_is ∙ puts-count log.outs

  err-place : length log.state.err.puts ≡ length log.errs
  err-place = ap (λ o. length o.puts) log.err_is ∙ puts-count log.errs

  -- one instruction more
  one-more : (next : State) (files : Files) (t : Taken) → Reaches p files t n log.state log.calls → next_state p files t log.state ≡ Some next
      → Reaches p files t (suc n) next (log.calls + next_calls p log.state)
  unfolding state_after calls_until
  one-more next files t was step =
      record {
        state = rw was.state step;
        calls = ap (λ k. k + state_calls p (plain_state p files t n)) was.calls ∙ ap (λ s. log.calls + state_calls p s) was.state;
      }

  -- what a completed instruction makes of the log
  pub record Longer (next : State) (answers : List Answer) (outs errs : List Piece) : Type 0 where
    pub reached : (files : Files) (t : Taken) → All (Answers files) (log.answers ++ answers) → Agrees t (log.outs ++ outs) (log.errs ++ errs)
        → Reaches p files t (suc n) next (log.calls + next_calls p log.state)
    pub out_is : next.out ≡ output_of (log.outs ++ outs)
    pub err_is : next.err ≡ output_of (log.errs ++ errs)

  -- what was reached before
  before : (answers : List Answer) (outs errs : List Piece) (files : Files) (t : Taken) → All (Answers files) (log.answers ++ answers) → Agrees t (log.outs ++ outs) (log.errs ++ errs)
      → Reaches p files t n log.state log.calls
  before answers outs errs files t true_of agrees =
      log.reached files t (earlier files log.answers answers true_of) (record { out = agree-earlier t.out log.outs outs agrees.out; err = agree-earlier t.err log.errs errs agrees.err })

  longer : (next : State) (answers : List Answer) (outs errs : List Piece) → Completes p log.state next answers outs errs → Longer next answers outs errs
  longer next answers outs errs (alone steps o e) =
      record {
        reached = λ files t true_of agrees. one-more next files t (before [] [] [] files t true_of agrees) (steps files t);
        out_is = no-more next.out log.outs (o ∙ log.out_is);
        err_is = no-more next.err log.errs (e ∙ log.err_is);
      }
  longer next answers outs errs (asks answer steps o e) =
      record {
        reached = λ files t true_of agrees.
            one-more next files t (before (answer ∷ []) [] [] files t true_of agrees) (steps files t (All-head (Answers files) answer [] (later files log.answers (answer ∷ []) true_of)));
        out_is = no-more next.out log.outs (o ∙ log.out_is);
        err_is = no-more next.err log.errs (e ∙ log.err_is);
      }
  longer next answers outs errs (puts_out offered k steps o e) =
      record {
        reached = λ files t true_of agrees.
            one-more next files t (before [] (piece offered k ∷ []) [] files t true_of agrees)
            (steps files t (ap (λ i. unwrap_or (slice_get t.out i) (length offered)) out-place ∙ agree-last t.out log.outs offered k agrees.out));
        out_is = o ∙ put-output log.state.out log.outs offered k log.out_is;
        err_is = no-more next.err log.errs (e ∙ log.err_is);
      }
  longer next answers outs errs (puts_err offered k steps o e) =
      record {
        reached = λ files t true_of agrees.
            one-more next files t (before [] [] (piece offered k ∷ []) files t true_of agrees)
            (steps files t (ap (λ i. unwrap_or (slice_get t.err i) (length offered)) err-place ∙ agree-last t.err log.errs offered k agrees.err));
        out_is = no-more next.out log.outs (o ∙ log.out_is);
        err_is = e ∙ put-output log.state.err log.errs offered k log.err_is;
      }

  -- calls after those of the log, none of which failed
  after_calls : (more : ℕ) → replicate more false ++ replicate log.calls false ≡ replicate (log.calls + more) false
  after_calls more = let count : more + log.calls ≡ log.calls + more = omega arith in replicate-append-replicate more log.calls false ∙ ap (λ k. replicate k false) count

  pub turn-RunLog : (core_new : Core) (space_new : Space) (f_new : Descriptors) (new : Outside)
      → GoesOn p log.state now core_new space_new f_new new → RunLog p old (suc n) core_new space_new f_new new
  turn-RunLog core_new space_new f_new new turn =
      let more = longer turn.next turn.answers turn.outs turn.errs turn.completes in
      record {
        state = turn.next;
        calls = log.calls + next_calls p log.state;
        answers = log.answers ++ turn.answers;
        outs = log.outs ++ turn.outs;
        errs = log.errs ++ turn.errs;
        reached = more.reached;
        told = λ files e. All-append (Answers files) log.answers turn.answers (log.told files e) (turn.told files (log.store_log.keeps.files ∙ e));
        shows = turn.shows;
        out_is = more.out_is;
        err_is = more.err_is;
        store_log = subst (λ l. StoreLog old.store l new.store) (after_calls (next_calls p log.state))
            (append-StoreLog old.store now.store new.store (replicate log.calls false) (replicate (next_calls p log.state) false) log.store_log turn.store_log);
        out_log = append-SinkLog old.out now.out new.out log.outs turn.outs None log.out_log turn.out_log;
        err_log = append-SinkLog old.err now.err new.err log.errs turn.errs None log.err_log turn.err_log;
      }

  -- ---- a turn that ends the run

  -- no put more, but one that failed
  last-log : (a b c : SinkState) (ps : List Piece) (fault : Option (List ℕ)) → SinkLog a ps None b → SinkLog b [] fault c → SinkLog a ps fault c
  last-log a b c ps fault one two = subst (λ qs. SinkLog a qs fault c) (append-nil ps) (append-SinkLog a b c ps [] fault one two)

  no-more-calls : (new : StoreState) → StoreLog now.store [] new → StoreLog old.store (replicate log.calls false) new
  no-more-calls new last = append-StoreLog old.store now.store new (replicate log.calls false) [] log.store_log last

  called-along : (new : StoreState) (e : Ending) → LastCalls p log.state e now.store new → CallsStore p log.state e log.calls old.store new
  called-along new StoreFault h =
      let all : StoreLog old.store (true ∷ replicate (log.calls + h.0) false) new =
      subst (λ l. StoreLog old.store (true ∷ l) new) (after_calls h.0) (append-StoreLog old.store now.store new (replicate log.calls false) (true ∷ replicate h.0 false) log.store_log h.2) in
      (h.0, h.1, all, failed-Rose old.store new (replicate (log.calls + h.0) false) all)
  called-along new (Exited code) h = no-more-calls new h
  called-along new (Trapped cause pc) h = no-more-calls new h
  called-along new (TurnsOver count) h = no-more-calls new h
  called-along new SinkFault h = no-more-calls new h
  called-along new NoMemory h = no-more-calls new h

  -- a state that is shown but for its exit code
  left-Shows : (core_new : Core) (space_new : Space) (f_new : Descriptors) (s : State) → Shows p core_new space_new f_new s → Shows p core_new space_new f_new (record s { exited = None })
  left-Shows core_new space_new f_new s shows =
      record {
        view = shows.view;
        registers = shows.registers;
        pc = shows.pc;
        memory = shows.memory;
        files = shows.files;
        exited = refl;
        layout = shows.layout;
        words = shows.words;
      }

  -- the run ended after so many instructions, in a state that has put what the log says
  concluded : (turns count : ℕ) (e : Ending) (core_new : Core) (space_new : Space) (f_new : Descriptors) (new : Outside) (s : State) (out_fault err_fault : Option (List ℕ))
      → ((files : Files) (t : Taken) → All (Answers files) log.answers → Agrees t log.outs log.errs → Reaches p files t count s log.calls)
      → Shows p core_new space_new f_new (record s { exited = None }) → s.out ≡ log.state.out → s.err ≡ log.state.err → EndsBy p turns count s e
      → CallsStore p s e log.calls old.store new.store → FailedPuts p s e out_fault err_fault → SinkLog now.out [] out_fault new.out → SinkLog now.err [] err_fault new.err
      → RunsTo p turns old e core_new space_new f_new new
  concluded turns count e core_new space_new f_new new s out_fault err_fault reached shows out err ends called failed out_log err_log =
      record {
        n = count;
        state = s;
        calls = log.calls;
        answers = log.answers;
        outs = log.outs;
        errs = log.errs;
        reached = reached;
        told = log.told;
        shows = shows;
        out_is = out ∙ log.out_is;
        err_is = err ∙ log.err_is;
        ends = ends;
        called = called;
        out_fault = out_fault;
        err_fault = err_fault;
        failed = failed;
        out_log = last-log old.out now.out new.out log.outs out_fault log.out_log out_log;
        err_log = last-log old.err now.err new.err log.errs err_fault log.err_log err_log;
      }

  -- the run ends in the state that it is in
  pub ends-here : (turns : ℕ) (e : Ending) (core_new : Core) (space_new : Space) (f_new : Descriptors) (new : Outside) → EndsBy p turns n log.state e
      → Stops p log.state e now core_new space_new f_new new → RunsTo p turns old e core_new space_new f_new new
  ends-here turns e core_new space_new f_new new ends stop =
      concluded turns n e core_new space_new f_new new log.state stop.out_fault stop.err_fault log.reached (left-Shows core_new space_new f_new log.state stop.shows) refl refl
      ends (called-along new.store e stop.called) stop.failed stop.out_log stop.err_log

  pub ended-RunsTo : (turns : ℕ) (e : Ending) (core_new : Core) (space_new : Space) (f_new : Descriptors) (new : Outside)
      → n < turns → Stops p log.state e now core_new space_new f_new new → RunsTo p turns old e core_new space_new f_new new
  ended-RunsTo turns (Exited code) core_new space_new f_new new left stop =
      let none : log.calls + next_calls p log.state ≡ log.calls = omega (arith, stop.ends.1) in
      let left_in : State = record log.state { exited = Some code } in
      concluded turns (suc n) (Exited code) core_new space_new f_new new left_in stop.out_fault stop.err_fault
      (λ files t true_of agrees. subst (λ k. Reaches p files t (suc n) left_in k) none (one-more left_in files t (log.reached files t true_of agrees) (stop.ends.0 files t)))
      (left-Shows core_new space_new f_new log.state stop.shows) refl refl (omega (arith, left), refl) (no-more-calls new.store stop.called) stop.failed stop.out_log stop.err_log
  ended-RunsTo turns (Trapped cause pc) core_new space_new f_new new left stop = ends-here turns (Trapped cause pc) core_new space_new f_new new (left, log.shows.exited, stop.ends) stop
  ended-RunsTo turns StoreFault core_new space_new f_new new left stop = ends-here turns StoreFault core_new space_new f_new new (left, log.shows.exited, stop.ends) stop
  ended-RunsTo turns SinkFault core_new space_new f_new new left stop = ends-here turns SinkFault core_new space_new f_new new (left, log.shows.exited) stop
  ended-RunsTo turns NoMemory core_new space_new f_new new left stop = ends-here turns NoMemory core_new space_new f_new new (omega (arith, left)) stop
  ended-RunsTo turns (TurnsOver count) core_new space_new f_new new left stop = absurd stop.ends

  -- all turns are over
  pub over-RunsTo : (turns : ℕ) → n ≡ turns → RunsTo p turns old (TurnsOver turns) core space f now
  over-RunsTo turns e =
      concluded turns n (TurnsOver turns) core space f now log.state None None log.reached (left-Shows core space f log.state log.shows) refl refl
      (e, log.shows.exited, refl) log.store_log (refl, refl) (none-SinkLog now.out) (none-SinkLog now.err)
