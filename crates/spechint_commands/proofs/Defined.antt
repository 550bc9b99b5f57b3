-- The outcome where the store tells its files and no count rises.
use Rattle.std.proofs.Common.{◌≡◌, ◌⊎◌, inl, inr, ℕ, ◌≤◌, ◌<◌, Bool, true, false, nat_lt, List, [], length, arith, sym, ◌∙◌, ap, subst, refl, Some, None, Option, IfSome, Result, Ok, Err}
use Rattle.std.proofs.lemmas.Bool.Decides.{nat_tests}
use Rattle.spec_base.specs.Files.{Files}
use Rattle.spec_base.specs.Layout.{file_limit}
use Rattle.world_io.specs.Outside.{StoreState, SinkState, Rose, Steady}
use Rattle.world_io.specs.Logs.{SinkLog}
use Rattle.world_io.specs.Texts.{PutsText}
use Rattle.world_io.proofs.Sinks.{log-later, rose-PutsText}
use Rattle.whole_file.specs.Reading.{ReadsWhole, SaysOf}
use Rattle.whole_file.specs.declared.reading.ReadFault.{ReadFault}
use Rattle.whole_file.specs.declared.reading.ReadFault.TheVariants as read
use Rattle.elf_image.specs.Profile.{profile}
use Rattle.elf_image.specs.declared.image.Image.{Image}
use Rattle.elf_image.specs.declared.refusal.Refusal.{Refusal}
use Rattle.elf_image.specs.declared.refusal.Refusal.TheVariants.{TooLong}
use Rattle.rewriter.specs.declared.writing.Rewritten.TheVariants as rewritten
use Rattle.program_model.specs.PlainRun.{Image as Program, Taken}
use Rattle.command_words.specs.CommandLine.{command_of}
use Rattle.command_words.specs.declared.command.Command.{Command}
use Rattle.command_words.specs.declared.command.Command.TheVariants.{Plain, Rewrite, Run, Trace, Demo, Replay, Plan}
use Rattle.command_words.specs.declared.request.Request.{Request}
use Rattle.plain_runner.specs.Runs.{Outside, EndsBy, FailedPuts}
use Rattle.plain_runner.specs.declared.ending.Ending.{Ending}
use Rattle.plain_runner.specs.declared.ending.Ending.TheVariants as ending
use Rattle.run_model.specs.Run.{World}
use Rattle.run_model.specs.Moves.{Moves, run}
use Rattle.file_world.specs.Worlds.{AreFiles}
use Rattle.file_runs.specs.Runs.{run_world, plain_program, RunsAreAsPlain}
use Rattle.program_driver.specs.Lines.{ArePut, LinesTo, ending_with, fault_ending}
use Rattle.program_driver.specs.Runs.{report_lines, is_reported}
use Rattle.program_driver.specs.Traces.{TellsTo, all, in_move, before_move, at_turns, all_lines, over_bottomless}
use Rattle.program_driver.specs.declared.lines.LineFault.{LineFault}
use Rattle.program_driver.specs.declared.lines.LineFault.TheVariants.{Sink}
use Rattle.program_driver.specs.declared.lines.LineFault.TheVariants as line
use Rattle.spec_base.specs.declared.spot.BlockSpot.{BlockSpot}
use Rattle.trace_text.specs.declared.trace_line.TraceLine.{TraceLine}
use Rattle.trace_text.specs.Lines.{trace_in}
use Rattle.trace_replay.specs.Replays.{fresh, replayed}
use Rattle.trace_replay.specs.Totals.{totals_of}
use Rattle.trace_replay.specs.Traces.{totals_by}
use Rattle.trace_replay.specs.declared.totals.Totals.{Totals}
use Rattle.fetch_plan.specs.Needs.{needed_blocks}
use Rattle.fetch_plan.specs.Traces.{needs_by, HasLeast}
use Rattle.fetch_plan.specs.declared.traces.PlanTotals.{PlanTotals}
use Rattle.command_status.specs.Texts.{text_of}
use Rattle.file_commands.specs.Lines.{replay_line, plan_line}
use Rattle.run_commands.specs.Run.{asked_file, Going, Ran, ImageTo, RunGoes, TraceGoes, RunTo, TraceTo}
use Rattle.command_status.specs.Common.{Silent, Stopped, EndingStatus, ReadsFile, image_name, PutsLine}
use Rattle.run_commands.specs.Demo.{DemoTo}
use Rattle.file_commands.specs.Plain.{Runs, Accepted, PlainTo}
use Rattle.file_commands.specs.Rewrite.{Rewrites, RewriteTo}
use Rattle.file_commands.specs.Traces.{settings_of, ReplayTo, PlanTo}
use Rattle.spechint_commands.specs.Top.{CommandTo, IsOutcome}
use Rattle.spechint_commands.specs.Defined.{EndsAs, IsPlainRun, IsEnd, IsDefinedRun, IsDefinedTrace, ByOpened, ByBytes, ByProfile, BySize, ByFile, ByReplayed, ByNeeds, ByPlanned, ByTrace, ByTraceSize, ByTraceFile, ByCommand, ByRequest, IsDefined, IsSteady}
use Rattle.command_status.specs.declared.status.Status.{Status}
use Rattle.command_status.specs.declared.status.Status.TheVariants.{Done, Exited, Trapped, TurnsOver, Usage, Absent, Refused, BadLine, TooMany, StoreFault, SinkFault, NoMemory}
use Rattle.runner.specs.Causes.{SinkRose}
use Rattle.spechint_commands.proofs.AsPlain.{as_plain-store}
use Rattle.spechint_commands.proofs.Causes.{ByMemory, failed_read, failed_run, put_failed, image_store_fault, ran-SinkRose}

-- ---- runs

-- a run that told its files is the plain run over these
run-IsPlainRun : (p : Program) (files : Files) (turns : ℕ) (status : Status) (old new : Outside) → old.store.files ≡ Some files → IsEnd status
    → Runs p turns status old new → IsPlainRun p files turns status old new
run-IsPlainRun p files turns status old new e end h =
    let r = h.runs in
    record {
      n = r.n;
      state = r.state;
      outs = r.outs;
      errs = r.errs;
      reached = λ t a. (r.reached files t (r.told files e) a).state;
      ends = λ t a. ends_as status end h.gives t;
      out = r.out_is;
      err = r.err_is;
      out_log = subst (λ o. SinkLog old.out r.outs o new.out) (no_faults status end h.gives).0 r.out_log;
      err_log = subst (λ o. SinkLog old.err r.errs o new.err) (no_faults status end h.gives).1 r.err_log;
    }
  where
    no_faults : (s : Status) → IsEnd s → EndingStatus h.end s → (h.runs.out_fault ≡ None) × (h.runs.err_fault ≡ None)
    no_faults (Exited code) is gives = subst (λ e. FailedPuts p h.runs.state e h.runs.out_fault h.runs.err_fault) gives h.runs.failed
    no_faults (Trapped cause pc) is gives = subst (λ e. FailedPuts p h.runs.state e h.runs.out_fault h.runs.err_fault) gives h.runs.failed
    no_faults (TurnsOver count) is gives = subst (λ e. FailedPuts p h.runs.state e h.runs.out_fault h.runs.err_fault) gives h.runs.failed
    no_faults Done is gives = absurd is
    no_faults Usage is gives = absurd is
    no_faults (BadLine number) is gives = absurd is
    no_faults TooMany is gives = absurd is
    no_faults Absent is gives = absurd is
    no_faults (Refused why) is gives = absurd is
    no_faults StoreFault is gives = absurd is
    no_faults SinkFault is gives = absurd is
    no_faults NoMemory is gives = absurd is

    ends_as : (s : Status) → IsEnd s → EndingStatus h.end s → (t : Taken) → EndsAs p files t turns h.runs.n h.runs.state s
    ends_as (Exited code) is gives t = subst (λ d. EndsBy p turns h.runs.n h.runs.state d) gives h.runs.ends
    ends_as (Trapped cause pc) is gives t = (let by = subst (λ d. EndsBy p turns h.runs.n h.runs.state d) gives h.runs.ends in (by.0, by.1, by.2 files t))
    ends_as (TurnsOver count) is gives t = subst (λ d. EndsBy p turns h.runs.n h.runs.state d) gives h.runs.ends
    ends_as Done is gives t = absurd is
    ends_as Usage is gives t = absurd is
    ends_as (BadLine number) is gives t = absurd is
    ends_as TooMany is gives t = absurd is
    ends_as Absent is gives t = absurd is
    ends_as (Refused why) is gives t = absurd is
    ends_as StoreFault is gives t = absurd is
    ends_as SinkFault is gives t = absurd is
    ends_as NoMemory is gives t = absurd is

-- ---- files

-- what a reading says of a file that is told
told_of : (a b : StoreState) (name : List ℕ) (answer : Result (List ℕ) ReadFault) (files : Files) → a.files ≡ Some files
    → (r : ReadsWhole a name answer b) → SaysOf (files name) answer r.log
told_of a b name answer files e r = subst (λ o. IfSome o (λ f. SaysOf (f name) answer r.log)) e r.told

-- a file that was read, by what the profile says of it
judged : (c : Command) (r : Request) (files : Files) (bytes : List ℕ) (status : Status) (old new : Outside) → files (image_name r) ≡ Some bytes → length bytes ≤ file_limit
    → ByBytes c files bytes r status old new → ByFile c (files (image_name r)) files r status old new
judged c r files bytes status old new file few by =
    let small : nat_lt file_limit (length bytes) ≡ false = grind (arith, nat_tests) in
    subst (λ f. ByFile c f files r status old new) (sym file) (subst (λ b. BySize c b files bytes r status old new) (sym small) by)

-- a file that was read and refused, of which each file of these bytes is judged so
judged_refused : (c : Command) (r : Request) (files : Files) (why : Refusal) (bytes : List ℕ) (old new : Outside) → old.store.files ≡ Some files
    → ReadsFile r bytes old new → ByBytes c files bytes r (Refused why) old new → ByFile c (files (image_name r)) files r (Refused why) old new
judged_refused c r files why bytes old new e whole by =
    let told = told_of old.store new.store (image_name r) (Ok bytes) files e whole in
    judged c r files bytes (Refused why) old new told.0 told.1 by

-- by the profile
refused_by : (c : Command) (v : Result Image Refusal) (r : Request) (files : Files) (why : Refusal) (bytes : List ℕ) (old new : Outside) → v ≡ Err why → Silent old new
    → ByProfile c v files bytes r (Refused why) old new
refused_by c v r files why bytes old new verdict silent = subst (λ v. ByProfile c v files bytes r (Refused why) old new) (sym verdict) (refl, silent)

-- a file that is too long
refused_unread : (c : Command) (r : Request) (files : Files) (why : Refusal) (old new : Outside) → old.store.files ≡ Some files → Stopped r read.TooLong old new → why ≡ TooLong
    → ByFile c (files (image_name r)) files r (Refused why) old new
refused_unread c r files why old new e stopped long =
    let told = told_of old.store new.store (image_name r) (Err read.TooLong) files e stopped.0 in
    let large : nat_lt file_limit (length told.0) ≡ true = (let more = told.2 in grind (arith, nat_tests)) in
    subst (λ f. ByFile c f files r (Refused why) old new) (sym told.1)
    (subst (λ b. BySize c b files told.0 r (Refused why) old new) (sym large) (ap (λ w. Refused w) long, stopped.1))

-- a file that isn't there
absent : (c : Command) (r : Request) (files : Files) (old new : Outside) → old.store.files ≡ Some files → Stopped r read.Absent old new
    → ByFile c (files (image_name r)) files r Absent old new
absent c r files old new e stopped =
    let file = told_of old.store new.store (image_name r) (Err read.Absent) files e stopped.0 in
    subst (λ f. ByFile c f files r Absent old new) (sym file) (refl, stopped.1)

-- an accepted file's program came to its end
ran : (r : Request) (files : Files) (status : Status) (old new : Outside) → old.store.files ≡ Some files → IsEnd status → Accepted r status old new
    → ByFile Plain (files (image_name r)) files r status old new
ran r files status old new e end a =
    let told = told_of old.store a.between (image_name r) (Ok a.bytes) files e a.read in
    let run = run-IsPlainRun _ files r.options.turns status (record old { store = a.between }) new (a.read.went.keeps.files ∙ e) end a.ran in
    judged Plain r files a.bytes status old new told.0 told.1
    (subst (λ v. ByProfile Plain v files a.bytes r status old new) (sym a.accepted)
    (record { n = run.n; state = run.state; outs = run.outs; errs = run.errs; reached = run.reached; ends = run.ends; out = run.out; err = run.err; out_log = run.out_log; err_log = run.err_log }))

-- a count that rose didn't stay
clash : (a b : ℕ) → Rose a b → Steady a b → ⊥
clash a b r s = omega arith

no_sink_fault : (old new : Outside) → SinkRose old new → Steady old.out.faults new.out.faults → Steady old.err.faults new.err.faults → ⊥
no_sink_fault old new (inl up) o r = clash old.out.faults new.out.faults up o
no_sink_fault old new (inr up) o r = clash old.err.faults new.err.faults up r

-- `plain`, status by status
by_status : (r : Request) (files : Files) (status : Status) (old new : Outside) → old.store.files ≡ Some files → PlainTo r status old new
    → Steady old.store.faults new.store.faults → Steady old.out.faults new.out.faults → Steady old.err.faults new.err.faults
    → (status ≡ NoMemory) ⊎ ByFile Plain (files (image_name r)) files r status old new
by_status r files (Exited c) old new e h s o w = inr (ran r files (Exited c) old new e tt h)
by_status r files (Trapped t pc) old new e h s o w = inr (ran r files (Trapped t pc) old new e tt h)
by_status r files (TurnsOver count) old new e h s o w = inr (ran r files (TurnsOver count) old new e tt h)
by_status r files Absent old new e h s o w = inr (absent Plain r files old new e h)
by_status r files (Refused why) old new e (inl (stopped, long)) s o w = inr (refused_unread Plain r files why old new e stopped long)
by_status r files (Refused why) old new e (inr (bytes, whole, verdict, silent)) s o w = inr (judged_refused Plain r files why bytes old new e whole (refused_by Plain (profile bytes r.options.layout) r files why bytes old new verdict silent))
by_status r files StoreFault old new e (inl stopped) s o w = absurd (clash old.store.faults new.store.faults (failed_read old.store new.store (image_name r) stopped.0) s)
by_status r files StoreFault old new e (inr a) s o w = absurd (clash old.store.faults new.store.faults (failed_run r old new a) s)
by_status r files SinkFault old new e a s o w = absurd (no_sink_fault old new (put_failed r old new a) o w)
by_status r files NoMemory old new e h s o w = inl refl
by_status r files Done old new e h s o w = absurd h
by_status r files Usage old new e h s o w = absurd h
by_status r files (BadLine number) old new e h s o w = absurd h
by_status r files TooMany old new e h s o w = absurd h

-- a rewritten file that was put whole
put_whole : (r : Request) (files : Files) (n : ℕ) (old new : Outside) → old.store.files ≡ Some files → Rewrites r (rewritten.Done n) old new
    → ByFile Rewrite (files (image_name r)) files r Done old new
put_whole r files n old new e (bytes, whole, (image, verdict, puts), err) =
    let told = told_of old.store new.store (image_name r) (Ok bytes) files e whole in
    judged Rewrite r files bytes Done old new told.0 told.1 (subst (λ v. ByProfile Rewrite v files bytes r Done old new) (sym verdict) (refl, puts.puts, err))

-- `rewrite`, status by status
by_rewrite : (r : Request) (files : Files) (status : Status) (old new : Outside) → old.store.files ≡ Some files → RewriteTo r status old new
    → Steady old.store.faults new.store.faults → Steady old.out.faults new.out.faults
    → (status ≡ NoMemory) ⊎ ByFile Rewrite (files (image_name r)) files r status old new
by_rewrite r files Done old new e h s o = inr (put_whole r files h.0 old new e h.1)
by_rewrite r files Absent old new e h s o = inr (absent Rewrite r files old new e h)
by_rewrite r files (Refused why) old new e (inl (stopped, long)) s o = inr (refused_unread Rewrite r files why old new e stopped long)
by_rewrite r files (Refused why) old new e (inr (bytes, whole, (verdict, out), err)) s o =
    inr (judged_refused Rewrite r files why bytes old new e whole (refused_by Rewrite (profile bytes r.options.layout) r files why bytes old new verdict (out, err)))
by_rewrite r files StoreFault old new e h s o = absurd (clash old.store.faults new.store.faults (failed_read old.store new.store (image_name r) h.0) s)
by_rewrite r files SinkFault old new e h s o = absurd (clash old.out.faults new.out.faults (rose-PutsText old.out new.out _ h.2.2.puts) o)
by_rewrite r files NoMemory old new e h s o = inl refl
by_rewrite r files (Exited c) old new e h s o = absurd h
by_rewrite r files (Trapped t pc) old new e h s o = absurd h
by_rewrite r files (TurnsOver count) old new e h s o = absurd h
by_rewrite r files Usage old new e h s o = absurd h
by_rewrite r files (BadLine number) old new e h s o = absurd h
by_rewrite r files TooMany old new e h s o = absurd h

-- ---- `run`

-- a program that came to its end met no fault of a line
never_fault : (fault : LineFault) (end : Ending) (status : Status) → IsEnd status → EndingStatus end status → end ≡ fault_ending fault → ⊥
never_fault Sink end status is gives same = by_end status is (subst (λ e. EndingStatus e status) same gives)
  where
    by_end : (s : Status) → IsEnd s → EndingStatus ending.SinkFault s → ⊥
    by_end (Exited code) is gives = (let bad = gives in cc)
    by_end (Trapped cause pc) is gives = (let bad = gives in cc)
    by_end (TurnsOver count) is gives = (let bad = gives in cc)
    by_end _ is gives = is
never_fault line.NoMemory end status is gives same = by_end status is (subst (λ e. EndingStatus e status) same gives)
  where
    by_end : (s : Status) → IsEnd s → EndingStatus ending.NoMemory s → ⊥
    by_end (Exited code) is gives = (let bad = gives in cc)
    by_end (Trapped cause pc) is gives = (let bad = gives in cc)
    by_end (TurnsOver count) is gives = (let bad = gives in cc)
    by_end _ is gives = is

-- so the lines behind it were put whole
whole_lines : (reached end : Ending) (answer : Result (Unit {0}) LineFault) (status : Status) → IsEnd status → EndingStatus end status → end ≡ ending_with reached answer
    → (done : Unit {0}) × (answer ≡ Ok done)
whole_lines reached end (Ok done) status is gives same = (done, refl)
whole_lines reached end (Err fault) status is gives same = absurd (never_fault fault end status is gives same)

-- a run over files that are told, which came to its end
defined_run : RunsAreAsPlain → (r : Request) (files : Files) (status : Status) (old new : Outside) → old.store.files ≡ Some files → IsEnd status → (a : Ran (RunGoes r) r status old new)
    → AreFiles files → IsDefinedRun r a.bytes a.file files status old new
defined_run law r files status old new e end a are =
    let to = a.went files are (a.told files e) in
    let whole = whole_lines to.reached a.ending to.answer status end a.gives to.ends in
    let same : a.ending ≡ to.reached = to.ends ∙ ap (ending_with to.reached) whole.1 in
    record {
      ending = to.reached;
      gives = subst (λ e. EndingStatus e status) same a.gives;
      moves = a.moves;
      behind = to.between;
      made = to.moves.made;
      as_plain = as_plain-store (plain_program r.options.layout a.bytes r.arguments) files to.reached a.between old (record new { err = to.between })
          (law r.options.regions r.options.layout a.bytes a.file r.arguments files (a.is_run files are) r.options.pattern r.options.turns to.reached a.moves
          (record old { store = a.between }) (record new { err = to.between }) to.moves);
      reports = subst (λ l. LinesTo (report_lines (is_reported r.options.report to.reached) (run (run_world a.file r.arguments files) a.moves)) l to.between new.err) whole.1 to.reports;
    }

-- all lines of a trace were put
whole_trace : (uses : Bool) (w : World) (ms : Moves) (reached end : Ending) (old new : SinkState) (status : Status) → IsEnd status → EndingStatus end status → TellsTo uses w ms reached end old new
    → (end ≡ reached) × ArePut old (all_lines uses w ms reached) new
whole_trace uses w ms reached end old new status is gives (all same puts) = (same, puts)
whole_trace uses w ms reached end old new status is gives (in_move fault front m between same made puts some) = absurd (never_fault fault end status is gives same)
whole_trace uses w ms reached end old new status is gives (before_move front m asked same made puts) = absurd (never_fault line.NoMemory end status is gives same)
whole_trace uses w ms reached end old new status is gives (at_turns fault between same puts some) = absurd (never_fault fault end status is gives same)

-- a trace over files that are told, whose run came to its end
defined_trace : RunsAreAsPlain → (r : Request) (files : Files) (status : Status) (old new : Outside) → old.store.files ≡ Some files → IsEnd status → (a : Ran (TraceGoes r) r status old new)
    → AreFiles files → IsDefinedTrace r a.bytes a.file files status old new
defined_trace law r files status old new e end a are =
    let to = a.went files are (a.told files e) in
    let lines = whole_trace r.options.uses (run_world a.file r.arguments files) a.moves to.reached a.ending old.out new.out status end a.gives to.out in
    record {
      ending = to.reached;
      gives = subst (λ e. EndingStatus e status) lines.0 a.gives;
      moves = a.moves;
      made = to.moves.made;
      as_plain = as_plain-store (plain_program r.options.layout a.bytes r.arguments) files to.reached a.between (over_bottomless old.store) (over_bottomless new.store)
          (law r.options.regions r.options.layout a.bytes a.file r.arguments files (a.is_run files are) r.options.pattern r.options.turns to.reached a.moves
          (over_bottomless a.between) (over_bottomless new.store) to.moves);
      lines = lines.1;
      err = to.err;
    }

-- a file that is executed, by what the command says of its bytes
module _ (c : Command) (go : Going) (r : Request) (files : Files) (ends : Status → Outside → Outside → List ℕ → List ℕ → Type 0)
    (says : (status : Status) (old new : Outside) (bytes : List ℕ) → ByOpened (ends status old new bytes) (asked_file r bytes) status old new → ByBytes c files bytes r status old new) where
  -- its program came to its end
  ran_to_end : (status : Status) (old new : Outside) → old.store.files ≡ Some files → IsEnd status → (a : Ran go r status old new) → ends status old new a.bytes a.file
      → ByFile c (files (image_name r)) files r status old new
  ran_to_end status old new e end a is =
      let told = told_of old.store a.between (image_name r) (Ok a.bytes) files e a.read in
      judged c r files a.bytes status old new told.0 told.1
      (says status old new a.bytes (subst (λ v. ByOpened (ends status old new a.bytes) v status old new) (sym a.opens) (end, is)))

  -- status by status
  by_image : (status : Status) (old new : Outside) → old.store.files ≡ Some files → (IsEnd status → (a : Ran go r status old new) → ends status old new a.bytes a.file)
      → ImageTo go r status old new → Steady old.store.faults new.store.faults → Steady old.out.faults new.out.faults → Steady old.err.faults new.err.faults
      → (status ≡ NoMemory) ⊎ ByFile c (files (image_name r)) files r status old new
  by_image (Exited code) old new e is a s o w = inr (ran_to_end (Exited code) old new e tt a (is tt a))
  by_image (Trapped cause pc) old new e is a s o w = inr (ran_to_end (Trapped cause pc) old new e tt a (is tt a))
  by_image (TurnsOver count) old new e is a s o w = inr (ran_to_end (TurnsOver count) old new e tt a (is tt a))
  by_image Absent old new e is h s o w = inr (absent c r files old new e h)
  by_image (Refused why) old new e is (inl (stopped, long)) s o w = inr (refused_unread c r files why old new e stopped long)
  by_image (Refused why) old new e is (inr (bytes, whole, verdict, silent)) s o w =
      inr (judged_refused c r files why bytes old new e whole
      (says (Refused why) old new bytes (subst (λ v. ByOpened (ends (Refused why) old new bytes) v (Refused why) old new) (sym verdict) (refl, silent))))
  by_image StoreFault old new e is h s o w = absurd (clash old.store.faults new.store.faults (image_store_fault go r old new h) s)
  by_image SinkFault old new e is a s o w = absurd (no_sink_fault old new (ran-SinkRose go r old new a) o w)
  by_image NoMemory old new e is h s o w = inl refl
  by_image Done old new e is h s o w = absurd h
  by_image Usage old new e is h s o w = absurd h
  by_image (BadLine number) old new e is h s o w = absurd h
  by_image TooMany old new e is h s o w = absurd h

by_run : RunsAreAsPlain → (r : Request) (files : Files) (status : Status) (old new : Outside) → old.store.files ≡ Some files → RunTo r status old new
    → Steady old.store.faults new.store.faults → Steady old.out.faults new.out.faults → Steady old.err.faults new.err.faults
    → (status ≡ NoMemory) ⊎ ByFile Run (files (image_name r)) files r status old new
by_run law r files status old new e h s o w =
    by_image Run (RunGoes r) r files (λ status old new bytes file. AreFiles files → IsDefinedRun r bytes file files status old new) (λ status old new bytes by. by)
    status old new e (λ end a. defined_run law r files status old new e end a) h s o w

by_trace_moves : RunsAreAsPlain → (r : Request) (files : Files) (status : Status) (old new : Outside) → old.store.files ≡ Some files → TraceTo r status old new
    → Steady old.store.faults new.store.faults → Steady old.out.faults new.out.faults → Steady old.err.faults new.err.faults
    → (status ≡ NoMemory) ⊎ ByFile Trace (files (image_name r)) files r status old new
by_trace_moves law r files status old new e h s o w =
    by_image Trace (TraceGoes r) r files (λ status old new bytes file. AreFiles files → IsDefinedTrace r bytes file files status old new) (λ status old new bytes by. by)
    status old new e (λ end a. defined_trace law r files status old new e end a) h s o w

-- ---- traces

-- a trace that was read, by what its lines say
read_trace : (c : Command) (r : Request) (files : Files) (bytes : List ℕ) (status : Status) (old new : Outside) → old.store.files ≡ Some files → ReadsFile r bytes old new
    → ByTrace c (trace_in bytes) r status old new → ByTraceFile c (files (image_name r)) r status old new
read_trace c r files bytes status old new e whole by =
    let told = told_of old.store new.store (image_name r) (Ok bytes) files e whole in
    let few = told.1 in
    let small : nat_lt file_limit (length bytes) ≡ false = grind (arith, nat_tests) in
    subst (λ f. ByTraceFile c f r status old new) (sym told.0) (subst (λ b. ByTraceSize c b bytes r status old new) (sym small) by)

-- a trace that is too long
long_trace : (c : Command) (r : Request) (files : Files) (why : Refusal) (old new : Outside) → old.store.files ≡ Some files → Stopped r read.TooLong old new → why ≡ TooLong
    → ByTraceFile c (files (image_name r)) r (Refused why) old new
long_trace c r files why old new e stopped long =
    let told = told_of old.store new.store (image_name r) (Err read.TooLong) files e stopped.0 in
    let large : nat_lt file_limit (length told.0) ≡ true = (let more = told.2 in grind (arith, nat_tests)) in
    subst (λ f. ByTraceFile c f r (Refused why) old new) (sym told.1)
    (subst (λ b. ByTraceSize c b told.0 r (Refused why) old new) (sym large) (ap (λ w. Refused w) long, stopped.1))

-- a trace that isn't there
absent_trace : (c : Command) (r : Request) (files : Files) (old new : Outside) → old.store.files ≡ Some files → Stopped r read.Absent old new
    → ByTraceFile c (files (image_name r)) r Absent old new
absent_trace c r files old new e stopped =
    let file = told_of old.store new.store (image_name r) (Err read.Absent) files e stopped.0 in
    subst (λ f. ByTraceFile c f r Absent old new) (sym file) (refl, stopped.1)

-- totals that were put are those of what the lines say
replayed_lines : (r : Request) (said : Result (List TraceLine) ℕ) (totals : Totals) (old new : Outside) → totals_by (settings_of r) fresh said ≡ Ok totals
    → PutsLine (replay_line totals) true old new → ByReplayed said r Done old new
replayed_lines r (Err bad) totals old new same puts = cc
replayed_lines r (Ok lines) totals old new same puts =
    let is : totals ≡ totals_of (replayed (settings_of r) lines) = cc in
    (refl, subst (λ t. PutsLine (replay_line t) true old new) is puts)

-- `replay`, status by status
by_replay : (r : Request) (files : Files) (status : Status) (old new : Outside) → old.store.files ≡ Some files → ReplayTo r status old new
    → Steady old.store.faults new.store.faults → Steady old.out.faults new.out.faults
    → (status ≡ NoMemory) ⊎ ByTraceFile Replay (files (image_name r)) r status old new
by_replay r files Done old new e (bytes, totals, whole, same, puts) s o =
    inr (read_trace Replay r files bytes Done old new e whole (replayed_lines r (trace_in bytes) totals old new same puts))
by_replay r files (BadLine n) old new e (bytes, whole, bad, silent) s o =
    inr (read_trace Replay r files bytes (BadLine n) old new e whole (subst (λ said. ByReplayed said r (BadLine n) old new) (sym bad) (refl, silent)))
by_replay r files Absent old new e h s o = inr (absent_trace Replay r files old new e h)
by_replay r files (Refused why) old new e h s o = inr (long_trace Replay r files why old new e h.0 h.1)
by_replay r files StoreFault old new e h s o = absurd (clash old.store.faults new.store.faults (failed_read old.store new.store (image_name r) h.0) s)
by_replay r files SinkFault old new e h s o = absurd (clash old.out.faults new.out.faults (rose-PutsText old.out new.out (replay_line h.1) h.4.0) o)
by_replay r files NoMemory old new e h s o = inl refl
by_replay r files TooMany old new e h s o = absurd h
by_replay r files (Exited c) old new e h s o = absurd h
by_replay r files (Trapped t pc) old new e h s o = absurd h
by_replay r files (TurnsOver count) old new e h s o = absurd h
by_replay r files Usage old new e h s o = absurd h

-- the least number of fetches that was put is that of what the lines need
planned_lines : (r : Request) (said : Result (List TraceLine) ℕ) (spots : List BlockSpot) (totals : PlanTotals) (old new : Outside) → needs_by [] said ≡ Ok spots
    → HasLeast r.options.blocks spots totals → PutsLine (plan_line totals r.options.blocks) true old new → ByPlanned said r Done old new
planned_lines r (Err bad) spots totals old new same least puts = cc
planned_lines r (Ok lines) spots totals old new same least puts =
    let is : spots ≡ needed_blocks lines = cc in
    let few = least.few in
    let small : nat_lt 4_000_000 (length spots) ≡ false = grind (arith, nat_tests) in
    subst (λ k. ByNeeds (nat_lt 4_000_000 (length k)) k r Done old new) is
    (subst (λ b. ByNeeds b spots r Done old new) (sym small) (refl, totals, least, puts))

-- there are too many
crowded_lines : (r : Request) (said : Result (List TraceLine) ℕ) (spots : List BlockSpot) (old new : Outside) → needs_by [] said ≡ Ok spots
    → 4_000_000 < length spots → Silent old new → ByPlanned said r TooMany old new
crowded_lines r (Err bad) spots old new same many silent = cc
crowded_lines r (Ok lines) spots old new same many silent =
    let is : spots ≡ needed_blocks lines = cc in
    let large : nat_lt 4_000_000 (length spots) ≡ true = grind (arith, nat_tests) in
    subst (λ k. ByNeeds (nat_lt 4_000_000 (length k)) k r TooMany old new) is
    (subst (λ b. ByNeeds b spots r TooMany old new) (sym large) (refl, silent))

-- `plan`, status by status
by_plan : (r : Request) (files : Files) (status : Status) (old new : Outside) → old.store.files ≡ Some files → PlanTo r status old new
    → Steady old.store.faults new.store.faults → Steady old.out.faults new.out.faults
    → (status ≡ NoMemory) ⊎ ByTraceFile Plan (files (image_name r)) r status old new
by_plan r files Done old new e (bytes, spots, totals, whole, same, least, puts) s o =
    inr (read_trace Plan r files bytes Done old new e whole (planned_lines r (trace_in bytes) spots totals old new same least puts))
by_plan r files (BadLine n) old new e (bytes, whole, bad, silent) s o =
    inr (read_trace Plan r files bytes (BadLine n) old new e whole (subst (λ said. ByPlanned said r (BadLine n) old new) (sym bad) (refl, silent)))
by_plan r files TooMany old new e (bytes, spots, whole, same, many, silent) s o =
    inr (read_trace Plan r files bytes TooMany old new e whole (crowded_lines r (trace_in bytes) spots old new same many silent))
by_plan r files Absent old new e h s o = inr (absent_trace Plan r files old new e h)
by_plan r files (Refused why) old new e h s o = inr (long_trace Plan r files why old new e h.0 h.1)
by_plan r files StoreFault old new e h s o = absurd (clash old.store.faults new.store.faults (failed_read old.store new.store (image_name r) h.0) s)
by_plan r files SinkFault old new e h s o = absurd (clash old.out.faults new.out.faults (rose-PutsText old.out new.out (plan_line h.2 r.options.blocks) h.6.0) o)
by_plan r files NoMemory old new e h s o = inl refl
by_plan r files (Exited c) old new e h s o = absurd h
by_plan r files (Trapped t pc) old new e h s o = absurd h
by_plan r files (TurnsOver count) old new e h s o = absurd h
by_plan r files Usage old new e h s o = absurd h

-- `demo`, status by status
by_demo : (r : Request) (files : Files) (status : Status) (old new : Outside) → DemoTo r status old new → Steady old.out.faults new.out.faults
    → (status ≡ NoMemory) ⊎ ByCommand Demo files r status old new
by_demo r files Done old new (line, is, puts, asked) o = inr (refl, line, is, puts, asked)
by_demo r files SinkFault old new h o = absurd (clash old.out.faults new.out.faults (rose-PutsText old.out new.out h.0 h.2.0) o)
by_demo r files NoMemory old new h o = inl refl
by_demo r files Absent old new h o = absurd h
by_demo r files (Refused why) old new h o = absurd h
by_demo r files StoreFault old new h o = absurd h
by_demo r files TooMany old new h o = absurd h
by_demo r files (BadLine number) old new h o = absurd h
by_demo r files (Exited c) old new h o = absurd h
by_demo r files (Trapped t pc) old new h o = absurd h
by_demo r files (TurnsOver count) old new h o = absurd h
by_demo r files Usage old new h o = absurd h

-- ---- commands

by_command : RunsAreAsPlain → (c : Command) (r : Request) (files : Files) (status : Status) (old new : Outside) → old.store.files ≡ Some files → CommandTo c r status old new
    → Steady old.store.faults new.store.faults → Steady old.out.faults new.out.faults → Steady old.err.faults new.err.faults
    → (status ≡ NoMemory) ⊎ ByCommand c files r status old new
by_command law Plain r files status old new e h s o w = by_status r files status old new e h s o w
by_command law Rewrite r files status old new e h s o w = by_rewrite r files status old new e h s o
by_command law Run r files status old new e h s o w = by_run law r files status old new e h s o w
by_command law Trace r files status old new e h s o w = by_trace_moves law r files status old new e h s o w
by_command law Demo r files status old new e h s o w = by_demo r files status old new h o
by_command law Replay r files status old new e h s o w = by_replay r files status old new e h s o
by_command law Plan r files status old new e h s o w = by_plan r files status old new e h s o

-- ---- the text is whole

silent_err : (old new : Outside) → Silent old new → old.err.faults ≤ new.err.faults
silent_err old new h = (let same = ap (λ s. s.faults) h.1 in omega arith)

run_later_err : (r : Request) (status : Status) (old new : Outside) → Accepted r status old new → old.err.faults ≤ new.err.faults
run_later_err r status old new a = log-later old.err new.err a.ran.runs.errs a.ran.runs.err_fault a.ran.runs.err_log

-- a run and a reading never lower the count of standard error
later_err : (r : Request) (status : Status) (old new : Outside) → PlainTo r status old new → old.err.faults ≤ new.err.faults
later_err r (Exited c) old new a = run_later_err r _ old new a
later_err r (Trapped t pc) old new a = run_later_err r _ old new a
later_err r (TurnsOver count) old new a = run_later_err r _ old new a
later_err r SinkFault old new a = run_later_err r _ old new a
later_err r Absent old new h = silent_err old new h.1
later_err r StoreFault old new (inl stopped) = silent_err old new stopped.1
later_err r StoreFault old new (inr a) = run_later_err r _ old new a
later_err r (Refused why) old new (inl (stopped, long)) = silent_err old new stopped.1
later_err r (Refused why) old new (inr (bytes, whole, verdict, silent)) = silent_err old new silent
later_err r NoMemory old new (inl (inl stopped)) = silent_err old new stopped.1
later_err r NoMemory old new (inl (inr (bytes, image, whole, verdict, silent))) = silent_err old new silent
later_err r NoMemory old new (inr a) = run_later_err r _ old new a
later_err r Done old new h = absurd h
later_err r Usage old new h = absurd h
later_err r (BadLine number) old new h = absurd h
later_err r TooMany old new h = absurd h

-- nor does a run of a rewritten program
image_err : (go : Going) (r : Request) (status : Status) (old new : Outside) → ImageTo go r status old new → old.err.faults ≤ new.err.faults
image_err go r (Exited c) old new a = a.later.err
image_err go r (Trapped t pc) old new a = a.later.err
image_err go r (TurnsOver count) old new a = a.later.err
image_err go r SinkFault old new a = a.later.err
image_err go r Absent old new h = silent_err old new h.1
image_err go r StoreFault old new (inl stopped) = silent_err old new stopped.1
image_err go r StoreFault old new (inr a) = a.later.err
image_err go r (Refused why) old new (inl (stopped, long)) = silent_err old new stopped.1
image_err go r (Refused why) old new (inr (bytes, whole, verdict, silent)) = silent_err old new silent
image_err go r NoMemory old new (inl (inl stopped)) = silent_err old new stopped.1
image_err go r NoMemory old new (inl (inr (bytes, whole, may, silent))) = silent_err old new silent
image_err go r NoMemory old new (inr a) = a.later.err
image_err go r Done old new h = absurd h
image_err go r Usage old new h = absurd h
image_err go r (BadLine number) old new h = absurd h
image_err go r TooMany old new h = absurd h

-- rewriting puts nothing on standard error
rewrite_err : (r : Request) (status : Status) (old new : Outside) → RewriteTo r status old new → new.err ≡ old.err
rewrite_err r Done old new h = h.1.3
rewrite_err r SinkFault old new h = h.3
rewrite_err r Absent old new h = h.1.1
rewrite_err r (Refused why) old new (inl (stopped, long)) = stopped.1.1
rewrite_err r (Refused why) old new (inr h) = h.3
rewrite_err r StoreFault old new h = h.1.1
rewrite_err r NoMemory old new (inl stopped) = stopped.1.1
rewrite_err r NoMemory old new (inr h) = h.3
rewrite_err r (Exited c) old new h = absurd h
rewrite_err r (Trapped t pc) old new h = absurd h
rewrite_err r (TurnsOver count) old new h = absurd h
rewrite_err r Usage old new h = absurd h
rewrite_err r (BadLine number) old new h = absurd h
rewrite_err r TooMany old new h = absurd h

-- nor does replaying a trace
replay_err : (r : Request) (status : Status) (old new : Outside) → ReplayTo r status old new → new.err ≡ old.err
replay_err r Done old new h = h.4.1
replay_err r SinkFault old new h = h.4.1
replay_err r (BadLine number) old new h = h.3.1
replay_err r Absent old new h = h.1.1
replay_err r (Refused why) old new h = h.0.1.1
replay_err r StoreFault old new h = h.1.1
replay_err r NoMemory old new (inl stopped) = stopped.1.1
replay_err r NoMemory old new (inr h) = h.2.1
replay_err r TooMany old new h = absurd h
replay_err r (Exited c) old new h = absurd h
replay_err r (Trapped t pc) old new h = absurd h
replay_err r (TurnsOver count) old new h = absurd h
replay_err r Usage old new h = absurd h

-- nor planning for one
plan_err : (r : Request) (status : Status) (old new : Outside) → PlanTo r status old new → new.err ≡ old.err
plan_err r Done old new h = h.6.1
plan_err r SinkFault old new h = h.6.1
plan_err r (BadLine number) old new h = h.3.1
plan_err r TooMany old new h = h.5.1
plan_err r Absent old new h = h.1.1
plan_err r (Refused why) old new h = h.0.1.1
plan_err r StoreFault old new h = h.1.1
plan_err r NoMemory old new (inl stopped) = stopped.1.1
plan_err r NoMemory old new (inr h) = h.2.1
plan_err r (Exited c) old new h = absurd h
plan_err r (Trapped t pc) old new h = absurd h
plan_err r (TurnsOver count) old new h = absurd h
plan_err r Usage old new h = absurd h

-- nor does `demo`
demo_err : (r : Request) (status : Status) (old new : Outside) → DemoTo r status old new → new.err ≡ old.err
demo_err r Done old new h = h.2.1
demo_err r SinkFault old new h = h.2.1
demo_err r NoMemory old new h = h.1.1
demo_err r Absent old new h = absurd h
demo_err r (Refused why) old new h = absurd h
demo_err r StoreFault old new h = absurd h
demo_err r TooMany old new h = absurd h
demo_err r (BadLine number) old new h = absurd h
demo_err r (Exited c) old new h = absurd h
demo_err r (Trapped t pc) old new h = absurd h
demo_err r (TurnsOver count) old new h = absurd h
demo_err r Usage old new h = absurd h

later_in : (c : Command) (r : Request) (status : Status) (old new : Outside) → CommandTo c r status old new → old.err.faults ≤ new.err.faults
later_in Plain r status old new h = later_err r status old new h
later_in Rewrite r status old new h = (let same = ap (λ s. s.faults) (rewrite_err r status old new h) in omega arith)
later_in Run r status old new h = image_err (RunGoes r) r status old new h
later_in Trace r status old new h = image_err (TraceGoes r) r status old new h
later_in Demo r status old new h = (let same = ap (λ s. s.faults) (demo_err r status old new h) in omega arith)
later_in Replay r status old new h = (let same = ap (λ s. s.faults) (replay_err r status old new h) in omega arith)
later_in Plan r status old new h = (let same = ap (λ s. s.faults) (plan_err r status old new h) in omega arith)

-- a text that was put while the count stood is whole
whole_text : (a b c : SinkState) (text : List ℕ) (whole : Bool) → a.faults ≤ b.faults → PutsText b text whole c → Steady a.faults c.faults
    → PutsText b text true c × (b.faults ≤ c.faults)
whole_text a b c text true l h s = (h, log-later b c h.pieces h.fault h.log)
whole_text a b c text false l h s = absurd (let up : Rose b.faults c.faults = rose-PutsText b c text h in omega arith)

-- what a command does, with its text
with_text : (r : Request) (files : Files) (status : Status) (old new : Outside) (err : SinkState)
    → PutsText err (text_of status (image_name r)) true new.err
    → (status ≡ NoMemory) ⊎ ByCommand r.command files r status old (record new { err = err }) → (status ≡ NoMemory) ⊎ ByRequest (Some r) files status old new
with_text r files status old new err puts (inl e) = inl e
with_text r files status old new err puts (inr by) = inr (err, by, puts)

by_request : RunsAreAsPlain → (o : Option Request) (files : Files) (status : Status) (old new : Outside) → old.store.files ≡ Some files → ByMemory o status old new
    → IsSteady old new → (status ≡ NoMemory) ⊎ ByRequest o files status old new
by_request law o files status old new e (inl h) s = inl h.0
by_request law None files status old new e (inr h) s =
    let told = h.1 in
    inr (h.0, told.0, told.1, (whole_text old.err old.err new.err (text_of Usage []) told.2.0 (omega arith) told.2.1 s.err).0)
by_request law (Some r) files status old new e (inr h) s =
    let mid : Outside = record new { err = h.0 } in
    let later = later_in r.command r status old mid h.1 in
    let whole = whole_text old.err h.0 new.err (text_of status (image_name r)) h.2.0 later h.2.1 s.err in
    let steady : Steady old.err.faults h.0.faults = (let up = whole.1 in let now = s.err in omega arith) in
    with_text r files status old new h.0 whole.0 (by_command law r.command r files status old mid e h.1 s.store s.out steady)

-- the outcome is the defined one
pub outcome-IsDefined : RunsAreAsPlain → (words : List (List ℕ)) (status : Status) (old new : Outside) → IsOutcome words status old new
    → IfSome old.store.files (λ files. IsSteady old new → IsDefined words files status old new)
outcome-IsDefined law words status old new h = by old.store.files refl
  where
    by : (o : Option Files) → old.store.files ≡ o → IfSome o (λ files. IsSteady old new → IsDefined words files status old new)
    by None e = tt
    by (Some files) e = λ s. record { by = by_request law (command_of words) files status old new e h.by s }
