-- What a run and a status say together, and what a command line's request has.
use Rattle.std.proofs.Common.{◌≡◌, inl, inr, ℕ, List, sym, subst, Ok}
use Rattle.world_io.specs.Outside.{StoreState}
use Rattle.whole_file.specs.Reading.{ReadsWhole}
use Rattle.elf_image.specs.declared.image.Image.{Image}
use Rattle.elf_image.specs.Profile.{profile}
use Rattle.rewriter.specs.declared.writing.Rewritten.TheVariants as rewritten
use Rattle.command_words.specs.declared.request.Request.{Request}
use Rattle.plain_runner.specs.Runs.{Outside}
use Rattle.command_status.specs.Common.{image_name}
use Rattle.file_commands.specs.Plain.{Accepted, PlainTo, RunsImage}
use Rattle.command_status.specs.declared.status.Status.{Status}
use Rattle.command_status.specs.declared.status.Status.TheVariants.{Done, Exited, Trapped, TurnsOver, Usage, Absent, Refused, BadLine, TooMany, StoreFault, SinkFault, NoMemory}

-- a run of the image's program is an outcome of `plain`
pub accepted-PlainTo : (r : Request) (status : Status) (old new : Outside) → Accepted r status old new → PlainTo r status old new
accepted-PlainTo r (Exited code) old new a = a
accepted-PlainTo r (Trapped cause pc) old new a = a
accepted-PlainTo r (TurnsOver count) old new a = a
accepted-PlainTo r SinkFault old new a = a
accepted-PlainTo r StoreFault old new a = inr a
accepted-PlainTo r NoMemory old new a = inr a
accepted-PlainTo r Done old new a = absurd a.ran.gives
accepted-PlainTo r Usage old new a = absurd a.ran.gives
accepted-PlainTo r (BadLine number) old new a = absurd a.ran.gives
accepted-PlainTo r TooMany old new a = absurd a.ran.gives
accepted-PlainTo r Absent old new a = absurd a.ran.gives
accepted-PlainTo r (Refused why) old new a = absurd a.ran.gives

-- a file that was read and accepted, and whose program ran or could not be loaded
pub ran-PlainTo : (r : Request) (bytes : List ℕ) (image : Image) (status : Status) (old new : Outside) (between : StoreState)
    → ReadsWhole old.store (image_name r) (Ok bytes) between → profile bytes r.options.layout ≡ Ok image
    → RunsImage r bytes image status (record old { store = between }) new → PlainTo r status old new
ran-PlainTo r bytes image status old new between read accepted (inl (starved, untouched)) =
    subst (λ s. PlainTo r s old new) (sym starved)
    (inl (inr (bytes, image, subst (λ s. ReadsWhole old.store (image_name r) (Ok bytes) s) (sym untouched.0) read, accepted, untouched.1)))
ran-PlainTo r bytes image status old new between read accepted (inr run) =
    accepted-PlainTo r status old new (record { bytes = bytes; image = image; between = between; read = read; accepted = accepted; ran = run })
