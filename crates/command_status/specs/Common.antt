-- What commands have in common: the reading of the image or the trace, a line that is put, the status of a run's ending, and the telling of a status (this project's own).
use Rattle.std.specs.Prelude.{◌≡◌, ℕ, Bool, List, [], slice_index_or, Result, Ok, Err}
use Rattle.world_io.specs.Outside.{StoreState}
use Rattle.world_io.specs.Texts.{PutsText}
use Rattle.whole_file.specs.Reading.{ReadsWhole}
use Rattle.whole_file.specs.declared.reading.ReadFault.{ReadFault}
use Rattle.whole_file.specs.declared.reading.ReadFault.TheVariants as read
use Rattle.elf_image.specs.declared.refusal.Refusal.TheVariants.{TooLong}
use Rattle.plain_runner.specs.Runs.{Outside}
use Rattle.plain_runner.specs.declared.ending.Ending.{Ending}
use Rattle.plain_runner.specs.declared.ending.Ending.TheVariants as ending
use Rattle.command_words.specs.declared.request.Request.{Request}
use Rattle.command_status.specs.Texts.{Tells}
use Rattle.command_status.specs.declared.status.Status.{Status}
use Rattle.command_status.specs.declared.status.Status.TheVariants.{Done, Exited, Trapped, TurnsOver, Usage, Absent, Refused, BadLine, TooMany, StoreFault, SinkFault, NoMemory}

-- ---- reading the image or the trace

-- nothing was put
abbrev pub Silent : Outside → Outside → Type 0
Silent old new = (new.out ≡ old.out) × (new.err ≡ old.err)

-- nothing was asked of the store, and nothing put
abbrev pub Untouched : Outside → Outside → Type 0
Untouched old new = (new.store ≡ old.store) × Silent old new

-- the name of the image or the trace: the first word that a command acts on
abbrev pub image_name : Request → List ℕ
image_name r = slice_index_or r.arguments 0 []

-- the reading of the file: its bytes, or the status that the command ends with
abbrev pub FileRead : Request → Result (List ℕ) Status → StoreState → StoreState → Type 0
FileRead r (Ok bytes) old new = ReadsWhole old (image_name r) (Ok bytes) new
FileRead r (Err Absent) old new = ReadsWhole old (image_name r) (Err read.Absent) new
FileRead r (Err (Refused why)) old new = ReadsWhole old (image_name r) (Err read.TooLong) new × (why ≡ TooLong)
FileRead r (Err StoreFault) old new = ReadsWhole old (image_name r) (Err read.Failed) new
FileRead r (Err NoMemory) old new = ReadsWhole old (image_name r) (Err read.NoMemory) new
FileRead r (Err other) old new = ⊥

-- the reading of the file came to a fault
abbrev pub Stopped : Request → ReadFault → Outside → Outside → Type 0
Stopped r fault old new = ReadsWhole old.store (image_name r) (Err fault) new.store × Silent old new

-- the file was read whole
abbrev pub ReadsFile : Request → List ℕ → Outside → Outside → Type 0
ReadsFile r bytes old new = ReadsWhole old.store (image_name r) (Ok bytes) new.store

-- ---- a line

-- a line was put on standard output, whole or up to a put that failed
abbrev pub PutsLine : List ℕ → Bool → Outside → Outside → Type 0
PutsLine line whole old new = PutsText old.out line whole new.out × (new.err ≡ old.err)

-- ---- how a run ends

-- a run's ending gives a status
abbrev pub EndingStatus : Ending → Status → Type 0
EndingStatus end (Exited code) = end ≡ ending.Exited code
EndingStatus end (Trapped cause pc) = end ≡ ending.Trapped cause pc
EndingStatus end (TurnsOver count) = end ≡ ending.TurnsOver count
EndingStatus end StoreFault = end ≡ ending.StoreFault
EndingStatus end SinkFault = end ≡ ending.SinkFault
EndingStatus end NoMemory = end ≡ ending.NoMemory
EndingStatus end Done = ⊥
EndingStatus end Usage = ⊥
EndingStatus end Absent = ⊥
EndingStatus end (Refused why) = ⊥
EndingStatus end (BadLine n) = ⊥
EndingStatus end TooMany = ⊥

-- ---- telling a status

-- nothing was done but to tell a status
abbrev pub TellsAlone : Status → Outside → Outside → Type 0
TellsAlone status old new = (new.store ≡ old.store) × (new.out ≡ old.out) × Tells status [] old.err new.err
