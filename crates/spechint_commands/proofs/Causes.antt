-- What an outcome says of the causes of an answer.
use Rattle.std.proofs.Common.{◌≡◌, ◌⊎◌, inl, inr, ℕ, ◌≤◌, Bool, List, arith, refl, subst, Some, None, Option, IfSome, Err}
use Rattle.std.specs.Prelude.{MatchOption}
use Rattle.world_io.specs.Outside.{StoreState, SinkState, Rose}
use Rattle.world_io.specs.Logs.{StoreLog, SinkLog, Piece}
use Rattle.world_io.specs.Texts.{PutsText}
use Rattle.world_io.proofs.Sinks.{log-rose, log-later, rose-PutsText}
use Rattle.world_io.proofs.Stores.{failed-Rose}
use Rattle.program_model.specs.PlainRun.{State, Image as Program}
use Rattle.whole_file.specs.Reading.{ReadsWhole}
use Rattle.whole_file.specs.declared.reading.ReadFault.TheVariants as read
use Rattle.command_words.specs.CommandLine.{command_of}
use Rattle.command_words.specs.declared.command.Command.{Command}
use Rattle.command_words.specs.declared.command.Command.TheVariants.{Plain, Rewrite, Run, Trace, Demo, Replay, Plan}
use Rattle.command_words.specs.declared.request.Request.{Request}
use Rattle.plain_runner.specs.Runs.{Outside, CallsStore, FailedPuts}
use Rattle.plain_runner.specs.declared.ending.Ending.TheVariants as ending
use Rattle.command_status.specs.Texts.{text_of, Tells}
use Rattle.file_commands.specs.Lines.{replay_line, plan_line}
use Rattle.runner.specs.Causes.{SinkRose}
use Rattle.program_driver.specs.Causes.{HasCause}
use Rattle.command_status.specs.Common.{image_name, TellsAlone}
use Rattle.run_commands.specs.Run.{Going, Ran, ImageTo, RunGoes, TraceGoes}
use Rattle.file_commands.specs.Plain.{Accepted, asked_program}
use Rattle.spechint_commands.specs.Top.{IsOutcome, CommandTo}
use Rattle.command_status.specs.declared.status.Status.{Status}
use Rattle.command_status.specs.declared.status.Status.TheVariants.{Usage, Absent, StoreFault, SinkFault, NoMemory}

-- ---- outcomes, by the request that the words make

-- the outcome where there was memory to read the words
abbrev pub ByRequest : Option Request → Status → Outside → Outside → Type 0
ByRequest o status old new =
    MatchOption o
    ((status ≡ Usage) × TellsAlone Usage old new)
    (λ r. (err : SinkState) × CommandTo r.command r status old (record new { err = err }) × Tells status (image_name r) err new.err)

-- the outcome with or without memory
abbrev pub ByMemory : Option Request → Status → Outside → Outside → Type 0
ByMemory o status old new = ((status ≡ NoMemory) × TellsAlone NoMemory old new) ⊎ ByRequest o status old new

-- the outcome of a status that the answer is
pub outcome_by : (words : List (List ℕ)) (status given : Status) (old new : Outside) → IsOutcome words status old new → status ≡ given → ByMemory (command_of words) given old new
outcome_by words status given old new h e = subst (λ s. ByMemory (command_of words) s old new) e h.by

-- ---- faults of the store

-- a reading that failed
pub failed_read : (a b : StoreState) (name : List ℕ) → ReadsWhole a name (Err read.Failed) b → Rose a.faults b.faults
failed_read a b name r = failed-Rose a b _ (subst (λ l. StoreLog a l b) r.calls.1 r.went)

-- a count that rose from a later value
earlier_Rose : (a b c : ℕ) → a ≤ b → Rose b c → Rose a c
earlier_Rose a b c l r = omega arith

-- a run that a fault of the store has ended
pub failed_run : (r : Request) (old new : Outside) → Accepted r StoreFault old new → Rose old.store.faults new.store.faults
failed_run r old new a =
    let run = a.ran.runs in
    let called = subst (λ e. CallsStore (asked_program r a.bytes a.image) run.state e run.calls a.between new.store) a.ran.gives run.called in
    earlier_Rose old.store.faults a.between.faults new.store.faults a.read.went.keeps.later called.3

-- and one of a rewritten program
pub ran-Rose : (go : Going) (r : Request) (old new : Outside) → Ran go r StoreFault old new → Rose old.store.faults new.store.faults
ran-Rose go r old new a =
    let cause = subst (λ e. HasCause e (record old { store = a.between }) new) a.gives a.cause in
    earlier_Rose old.store.faults a.between.faults new.store.faults a.read.went.keeps.later cause

pub image_store_fault : (go : Going) (r : Request) (old new : Outside) → ImageTo go r StoreFault old new → Rose old.store.faults new.store.faults
image_store_fault go r old new (inl stopped) = failed_read old.store new.store (image_name r) stopped.0
image_store_fault go r old new (inr a) = ran-Rose go r old new a

store_fault_in : (c : Command) (r : Request) (old new : Outside) → CommandTo c r StoreFault old new → Rose old.store.faults new.store.faults
store_fault_in Plain r old new (inl stopped) = failed_read old.store new.store (image_name r) stopped.0
store_fault_in Plain r old new (inr a) = failed_run r old new a
store_fault_in Rewrite r old new stopped = failed_read old.store new.store (image_name r) stopped.0
store_fault_in Run r old new h = image_store_fault (RunGoes r) r old new h
store_fault_in Trace r old new h = image_store_fault (TraceGoes r) r old new h
store_fault_in Demo r old new h = absurd h
store_fault_in Replay r old new stopped = failed_read old.store new.store (image_name r) stopped.0
store_fault_in Plan r old new stopped = failed_read old.store new.store (image_name r) stopped.0

store_fault_by : (o : Option Request) (old new : Outside) → ByMemory o StoreFault old new → Rose old.store.faults new.store.faults
store_fault_by o old new (inl h) = absurd (let e : StoreFault ≡ NoMemory = h.0 in cc)
store_fault_by None old new (inr h) = absurd (let e : StoreFault ≡ Usage = h.0 in cc)
store_fault_by (Some r) old new (inr h) = store_fault_in r.command r old (record new { err = h.0 }) h.1

-- a fault of the store has its cause
pub store_fault-Rose : (words : List (List ℕ)) (status : Status) (old new : Outside) → IsOutcome words status old new → status ≡ StoreFault
    → Rose old.store.faults new.store.faults
store_fault-Rose words status old new h e = store_fault_by (command_of words) old new (outcome_by words status StoreFault old new h e)

-- ---- faults of a sink

-- the puts of a text never lower a count
later_text : (a b : SinkState) (text : List ℕ) (whole : Bool) → PutsText a text whole b → a.faults ≤ b.faults
later_text a b text whole h = log-later a b h.pieces h.fault h.log

later_Rose : (a b c : ℕ) → Rose a b → b ≤ c → Rose a c
later_Rose a b c h l = omega arith

-- the count of the sink whose put failed rose
failed-SinkRose : (p : Program) (s : State) (old new : Outside) (outs errs : List Piece) (out err : Option (List ℕ)) → FailedPuts p s ending.SinkFault out err
    → SinkLog old.out outs out new.out → SinkLog old.err errs err new.err → SinkRose old new
failed-SinkRose p s old new outs errs (Some bytes) None failed one two = inl (log-rose old.out new.out outs bytes one)
failed-SinkRose p s old new outs errs None (Some bytes) failed one two = inr (log-rose old.err new.err errs bytes two)
failed-SinkRose p s old new outs errs None None failed one two = absurd failed
failed-SinkRose p s old new outs errs (Some bytes) (Some others) failed one two = absurd failed

-- a run that a fault of a sink has ended
pub put_failed : (r : Request) (old new : Outside) → Accepted r SinkFault old new → SinkRose old new
put_failed r old new a =
    let run = a.ran.runs in
    let failed = subst (λ e. FailedPuts (asked_program r a.bytes a.image) run.state e run.out_fault run.err_fault) a.ran.gives run.failed in
    failed-SinkRose (asked_program r a.bytes a.image) run.state old new run.outs run.errs run.out_fault run.err_fault failed run.out_log run.err_log

-- and one of a rewritten program
pub ran-SinkRose : (go : Going) (r : Request) (old new : Outside) → Ran go r SinkFault old new → SinkRose old new
ran-SinkRose go r old new a = subst (λ e. HasCause e (record old { store = a.between }) new) a.gives a.cause

sink_fault_in : (c : Command) (r : Request) (old new : Outside) → CommandTo c r SinkFault old new → SinkRose old new
sink_fault_in Plain r old new a = put_failed r old new a
sink_fault_in Rewrite r old new h = inl (rose-PutsText old.out new.out _ h.2.2.puts)
sink_fault_in Run r old new a = ran-SinkRose (RunGoes r) r old new a
sink_fault_in Trace r old new h = ran-SinkRose (TraceGoes r) r old new h
sink_fault_in Demo r old new h = inl (rose-PutsText old.out new.out h.0 h.2.0)
sink_fault_in Replay r old new h = inl (rose-PutsText old.out new.out (replay_line h.1) h.4.0)
sink_fault_in Plan r old new h = inl (rose-PutsText old.out new.out (plan_line h.2 r.options.blocks) h.6.0)

-- what rose before the text was told has risen after it
told_after : (old new : Outside) (err : SinkState) → SinkRose old (record new { err = err }) → err.faults ≤ new.err.faults → SinkRose old new
told_after old new err (inl r) l = inl r
told_after old new err (inr r) l = inr (later_Rose old.err.faults err.faults new.err.faults r l)

sink_fault_by : (o : Option Request) (old new : Outside) → ByMemory o SinkFault old new → SinkRose old new
sink_fault_by o old new (inl h) = absurd (let e : SinkFault ≡ NoMemory = h.0 in cc)
sink_fault_by None old new (inr h) = absurd (let e : SinkFault ≡ Usage = h.0 in cc)
sink_fault_by (Some r) old new (inr h) =
    told_after old new h.0 (sink_fault_in r.command r old (record new { err = h.0 }) h.1)
    (later_text h.0 new.err (text_of SinkFault (image_name r)) h.2.0 h.2.1)

-- a fault of a sink has its cause
pub sink_fault-Rose : (words : List (List ℕ)) (status : Status) (old new : Outside) → IsOutcome words status old new → status ≡ SinkFault → SinkRose old new
sink_fault-Rose words status old new h e = sink_fault_by (command_of words) old new (outcome_by words status SinkFault old new h e)

-- ---- absent files

-- the store's files lack the image
abbrev pub Lacks : Request → StoreState → Type 0
Lacks r store = IfSome store.files (λ files. files (image_name r) ≡ None)

absent_in : (c : Command) (r : Request) (old new : Outside) → CommandTo c r Absent old new → Lacks r old.store
absent_in Plain r old new h = h.0.told
absent_in Rewrite r old new h = h.0.told
absent_in Run r old new h = h.0.told
absent_in Trace r old new h = h.0.told
absent_in Demo r old new h = absurd h
absent_in Replay r old new h = h.0.told
absent_in Plan r old new h = h.0.told

absent_by : (o : Option Request) (old new : Outside) → ByMemory o Absent old new → IfSome o (λ r. Lacks r old.store)
absent_by o old new (inl h) = absurd (let e : Absent ≡ NoMemory = h.0 in cc)
absent_by None old new (inr h) = tt
absent_by (Some r) old new (inr h) = absent_in r.command r old (record new { err = h.0 }) h.1

-- an absent file is one that the store's files lack
pub absent-told : (words : List (List ℕ)) (status : Status) (old new : Outside) → IsOutcome words status old new → status ≡ Absent
    → IfSome (command_of words) (λ r. Lacks r old.store)
absent-told words status old new h e = absent_by (command_of words) old new (outcome_by words status Absent old new h e)

-- ---- usage

not_usage : (c : Command) (r : Request) (old new : Outside) → CommandTo c r Usage old new → ⊥
not_usage Plain r old new h = h
not_usage Rewrite r old new h = h
not_usage Run r old new h = h
not_usage Trace r old new h = h
not_usage Demo r old new h = absurd h
not_usage Replay r old new h = h
not_usage Plan r old new h = h

usage_by : (o : Option Request) (old new : Outside) → ByMemory o Usage old new → o ≡ None
usage_by o old new (inl h) = absurd (let e : Usage ≡ NoMemory = h.0 in cc)
usage_by None old new (inr h) = refl
usage_by (Some r) old new (inr h) = absurd (not_usage r.command r old (record new { err = h.0 }) h.1)

-- words that are refused are no command line
pub usage-none : (words : List (List ℕ)) (status : Status) (old new : Outside) → IsOutcome words status old new → status ≡ Usage → command_of words ≡ None
usage-none words status old new h e = usage_by (command_of words) old new (outcome_by words status Usage old new h e)
