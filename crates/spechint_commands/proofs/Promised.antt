-- What a user of `run` and `trace` may rely on, from the laws of runs.
use Rattle.std.proofs.Common.{inl, inr, ℕ, List, Option, Some, None, IfSome, refl, sym, subst}
use Rattle.spec_base.specs.Files.{Files}
use Rattle.world_io.specs.Outside.{SinkState}
use Rattle.plain_runner.specs.Runs.{Outside}
use Rattle.run_promises.specs.Laws.{RunsKeep}
use Rattle.file_world.specs.Worlds.{AreFiles}
use Rattle.file_runs.specs.Runs.{run_world, plain_program, RunWorldsAreAccepted, RunsAreAsPlain, RunsFinish, RunsGetOn}
use Rattle.runner_parts.specs.Heard.{AreTrueOf}
use Rattle.program_driver.proofs.FirstUses.{uses-are-first}
use Rattle.program_driver.specs.Traces.{over_bottomless}
use Rattle.command_words.specs.CommandLine.{command_of}
use Rattle.command_words.specs.declared.command.Command.{Command}
use Rattle.command_words.specs.declared.command.Command.TheVariants.{Plain, Rewrite, Run, Trace, Demo, Replay, Plan}
use Rattle.command_words.specs.declared.request.Request.{Request}
use Rattle.command_status.specs.Common.{EndingStatus, Silent, image_name}
use Rattle.run_commands.specs.Run.{Going, Ran, ImageTo, RunGoes, TraceGoes}
use Rattle.command_status.specs.Texts.{Tells}
use Rattle.spechint_commands.specs.Top.{CommandTo, IsOutcome}
use Rattle.spechint_commands.specs.Promised.{IsKept, IsTraceKept, Promise, KeepsPromise, PutsTextAlone, ImagePromises, CommandPromises, Promises}
use Rattle.command_status.specs.declared.status.Status.{Status}
use Rattle.command_status.specs.declared.status.Status.TheVariants.{Done, Exited, Trapped, TurnsOver, Usage, Absent, Refused, BadLine, TooMany, StoreFault, SinkFault, NoMemory}
use Rattle.spechint_commands.proofs.AsPlain.{as_plain-store}
use Rattle.spechint_commands.proofs.Causes.{ByMemory}

-- the laws of files that are run
pub record Laws : Type 0 where
  pub worlds : RunWorldsAreAccepted
  pub plain : RunsAreAsPlain
  pub finish : RunsFinish
  pub rounds : RunsGetOn
  pub keep : RunsKeep

module _ (law : Laws) (r : Request) where
  -- a run, behind which the text of its status was put, over files of which what the store said is true
  is_kept : (status : Status) (old new : Outside) (err : SinkState) (a : Ran (RunGoes r) r status old (record new { err = err })) → Tells status (image_name r) err new.err
      → (files : Files) → AreFiles files → AreTrueOf files a.said → IsKept r a.bytes a.file a.moves files status old new
  is_kept status old new err a tells files are told =
      let to = a.went files are told in
      let world = run_world a.file r.arguments files in
      let program = plain_program r.options.layout a.bytes r.arguments in
      let given = a.is_run files are in
      let before : Outside = record old { store = a.between } in
      let after : Outside = record new { err = to.between } in
      record {
        reached = to.reached;
        behind = to.between;
        answer = to.answer;
        between = err;
        made = to.moves.made;
        as_plain = as_plain-store program files to.reached a.between old after
            (law.plain r.options.regions r.options.layout a.bytes a.file r.arguments files given r.options.pattern r.options.turns to.reached a.moves before after to.moves);
        reports = to.reports;
        tells = tells;
        gives = subst (λ e. EndingStatus e status) to.ends a.gives;
        keeps = law.keep world (law.worlds r.options.regions r.options.layout a.bytes a.file r.arguments files given) a.moves;
        gets_on = law.rounds r.options.regions r.options.layout a.bytes a.file r.arguments files given r.options.pattern r.options.turns to.reached a.moves before after to.moves;
        finishes = law.finish r.options.regions r.options.layout a.bytes a.file r.arguments files given r.options.pattern r.options.turns to.reached a.moves before after to.moves;
      }

  -- the same of a trace
  is_trace_kept : (status : Status) (old new : Outside) (err : SinkState) (a : Ran (TraceGoes r) r status old (record new { err = err })) → Tells status (image_name r) err new.err
      → (files : Files) → AreFiles files → AreTrueOf files a.said → IsTraceKept r a.bytes a.file a.moves files status old new
  is_trace_kept status old new err a tells files are told =
      let to = a.went files are told in
      let world = run_world a.file r.arguments files in
      let program = plain_program r.options.layout a.bytes r.arguments in
      let given = a.is_run files are in
      let before = over_bottomless a.between in
      let after = over_bottomless new.store in
      record {
        reached = to.reached;
        ending = a.ending;
        made = to.moves.made;
        as_plain = as_plain-store program files to.reached a.between (over_bottomless old.store) after
            (law.plain r.options.regions r.options.layout a.bytes a.file r.arguments files given r.options.pattern r.options.turns to.reached a.moves before after to.moves);
        lines = to.out;
        uses = uses-are-first world a.moves;
        tells = subst (λ s. Tells status (image_name r) s new.err) to.err tells;
        gives = a.gives;
        keeps = law.keep world (law.worlds r.options.regions r.options.layout a.bytes a.file r.arguments files given) a.moves;
        gets_on = law.rounds r.options.regions r.options.layout a.bytes a.file r.arguments files given r.options.pattern r.options.turns to.reached a.moves before after to.moves;
        finishes = law.finish r.options.regions r.options.layout a.bytes a.file r.arguments files given r.options.pattern r.options.turns to.reached a.moves before after to.moves refl refl;
      }

  -- where nothing ran
  text-alone : (status : Status) (old new : Outside) (err : SinkState) → Silent old (record new { err = err }) → Tells status (image_name r) err new.err → PutsTextAlone r status old new
  text-alone status old new err silent tells = (silent.0, subst (λ s. Tells status (image_name r) s new.err) silent.1 tells)

  -- a promise that is kept wherever moves were made, status by status
  module _ (go : Going) (promise : Status → Promise) (old new : Outside) (err : SinkState)
      (kept : (status : Status) (a : Ran go r status old (record new { err = err })) → Tells status (image_name r) err new.err
      → (files : Files) → AreFiles files → AreTrueOf files a.said → promise status a.bytes a.file a.moves files) where
    ran-keeps : (status : Status) → Ran go r status old (record new { err = err }) → Tells status (image_name r) err new.err → KeepsPromise (promise status) r old
    ran-keeps status a tells =
        record {
          bytes = a.bytes;
          file = a.file;
          between = a.between;
          moves = a.moves;
          said = a.said;
          read = a.read;
          opens = a.opens;
          told = a.told;
          kept = kept status a tells;
        }

    by_status : (status : Status) → ImageTo go r status old (record new { err = err }) → Tells status (image_name r) err new.err → ImagePromises promise r status old new
    by_status (Exited code) a tells = ran-keeps (Exited code) a tells
    by_status (Trapped cause pc) a tells = ran-keeps (Trapped cause pc) a tells
    by_status (TurnsOver count) a tells = ran-keeps (TurnsOver count) a tells
    by_status SinkFault a tells = ran-keeps SinkFault a tells
    by_status StoreFault (inl h) tells = inl (text-alone StoreFault old new err h.1 tells)
    by_status StoreFault (inr a) tells = inr (ran-keeps StoreFault a tells)
    by_status NoMemory (inl (inl h)) tells = inl (text-alone NoMemory old new err h.1 tells)
    by_status NoMemory (inl (inr (bytes, read, may, silent))) tells = inl (text-alone NoMemory old new err silent tells)
    by_status NoMemory (inr a) tells = inr (ran-keeps NoMemory a tells)
    by_status Absent h tells = text-alone Absent old new err h.1 tells
    by_status (Refused why) (inl (h, long)) tells = text-alone (Refused why) old new err h.1 tells
    by_status (Refused why) (inr (bytes, read, opens, silent)) tells = text-alone (Refused why) old new err silent tells
    by_status Done h tells = h
    by_status Usage h tells = h
    by_status (BadLine n) h tells = h
    by_status TooMany h tells = h

  by_command : (c : Command) (status : Status) (old new : Outside) (err : SinkState) → CommandTo c r status old (record new { err = err }) → Tells status (image_name r) err new.err
      → CommandPromises c r status old new
  by_command Run status old new err h tells =
      by_status (RunGoes r) (λ status bytes file moves files. IsKept r bytes file moves files status old new) old new err (λ status a tells. is_kept status old new err a tells) status h tells
  by_command Trace status old new err h tells =
      by_status (TraceGoes r) (λ status bytes file moves files. IsTraceKept r bytes file moves files status old new) old new err (λ status a tells. is_trace_kept status old new err a tells) status h tells
  by_command Plain status old new err h tells = tt
  by_command Rewrite status old new err h tells = tt
  by_command Demo status old new err h tells = tt
  by_command Replay status old new err h tells = tt
  by_command Plan status old new err h tells = tt

-- where there was no memory to read the words
starved : (c : Command) (r : Request) (old new : Outside) → PutsTextAlone r NoMemory old new → CommandPromises c r NoMemory old new
starved Run r old new h = inl h
starved Trace r old new h = inl h
starved Plain r old new h = tt
starved Rewrite r old new h = tt
starved Demo r old new h = tt
starved Replay r old new h = tt
starved Plan r old new h = tt

by_memory : Laws → (o : Option Request) (status : Status) (old new : Outside) → ByMemory o status old new → IfSome o (λ r. CommandPromises r.command r status old new)
by_memory law None status old new h = tt
by_memory law (Some r) status old new (inl (is, (store, out, tells))) = subst (λ s. CommandPromises r.command r s old new) (sym is) (starved r.command r old new (out, tells))
by_memory law (Some r) status old new (inr (err, to, tells)) = by_command law r r.command status old new err to tells

-- an outcome keeps what is promised
pub outcome-Promises : Laws → (words : List (List ℕ)) (status : Status) (old new : Outside) → IsOutcome words status old new → Promises words status old new
outcome-Promises law words status old new h = by_memory law (command_of words) status old new h.by
