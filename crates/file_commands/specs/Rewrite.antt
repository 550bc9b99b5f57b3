-- What the command `rewrite` does, status by status (this project's own).
use Rattle.std.specs.Prelude.{◌≡◌, ◌⊎◌, ℕ, List}
use Rattle.whole_file.specs.declared.reading.ReadFault.TheVariants as read
use Rattle.elf_image.specs.declared.refusal.Refusal.TheVariants.{TooLong}
use Rattle.plain_runner.specs.Runs.{Outside}
use Rattle.rewriter.specs.Rewriting.{RewritesTo}
use Rattle.rewriter.specs.declared.writing.Rewritten.{Rewritten}
use Rattle.rewriter.specs.declared.writing.Rewritten.TheVariants as rewritten
use Rattle.command_words.specs.declared.request.Request.{Request}
use Rattle.command_status.specs.Common.{Stopped, ReadsFile}
use Rattle.command_status.specs.declared.status.Status.{Status}
use Rattle.command_status.specs.declared.status.Status.TheVariants.{Done, Exited, Trapped, TurnsOver, Usage, Absent, Refused, BadLine, TooMany, StoreFault, SinkFault, NoMemory}

-- the rewritten file of an accepted image was put on standard output, whole or up to a put that failed
abbrev pub Rewrites : Request → Rewritten → Outside → Outside → Type 0
Rewrites r answer old new =
    (bytes : List ℕ) × ReadsFile r bytes old new
    × RewritesTo bytes r.options.regions r.options.layout answer old.out new.out × (new.err ≡ old.err)

-- the status of an answer
abbrev pub RewrittenStatus : Rewritten → Status → Type 0
RewrittenStatus (rewritten.Done n) status = status ≡ Done
RewrittenStatus (rewritten.Refused why) status = status ≡ Refused why
RewrittenStatus rewritten.SinkFault status = status ≡ SinkFault
RewrittenStatus rewritten.NoMemory status = status ≡ NoMemory

-- what a status says of the command `rewrite`
abbrev pub RewriteTo : Request → Status → Outside → Outside → Type 0
RewriteTo r Done old new = (n : ℕ) × Rewrites r (rewritten.Done n) old new
RewriteTo r SinkFault old new = Rewrites r rewritten.SinkFault old new
RewriteTo r Absent old new = Stopped r read.Absent old new
RewriteTo r (Refused why) old new = (Stopped r read.TooLong old new × (why ≡ TooLong)) ⊎ Rewrites r (rewritten.Refused why) old new
RewriteTo r StoreFault old new = Stopped r read.Failed old new
RewriteTo r NoMemory old new = Stopped r read.NoMemory old new ⊎ Rewrites r rewritten.NoMemory old new
RewriteTo r (Exited code) old new = ⊥
RewriteTo r (Trapped cause pc) old new = ⊥
RewriteTo r (TurnsOver count) old new = ⊥
RewriteTo r Usage old new = ⊥
RewriteTo r (BadLine n) old new = ⊥
RewriteTo r TooMany old new = ⊥
