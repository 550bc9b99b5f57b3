-- What the parts of a call come to (this project's own).
use Rattle.std.specs.Prelude.{◌≡◌, ℕ, ◌≤◌, ◌<◌, ◌%◌, Bool, true, false, List, [], ◌∷◌, length, take, drop, replicate, Option, Some, None}
use Rattle.spec_base.specs.Word.{word_of_int}
use Rattle.spec_base.specs.Files.{Name, Files}
use Rattle.spec_base.specs.declared.spot.ReadSpot.{ReadSpot}
use Rattle.rv_model.specs.Memory.{written}
use Rattle.rv_model.specs.Registers.{with_reg}
use Rattle.rv_model.specs.Effect.{after}
use Rattle.rv_model.specs.Space.{Space}
use Rattle.program_model.specs.Descriptors.{Descriptors}
use Rattle.program_model.specs.Cache.{blocks_of}
use Rattle.program_model.specs.Calls.{opened, after_read, bytes_read}
use Rattle.program_model.specs.PlainRun.{size_in}
use Rattle.world_io.specs.Outside.{StoreState, SinkState}
use Rattle.world_io.specs.Logs.{StoreLog, SinkLog}
use Rattle.hart_step.specs.Core.{Core}
use Rattle.plain_runner.specs.Turns.{piece}
use Rattle.plain_runner.specs.declared.ending.Ending.{Ending}
use Rattle.plain_runner.specs.declared.ending.Ending.TheVariants.{StoreFault, SinkFault}

-- a hart that was answered
abbrev pub answered_core : Core → ℕ → Core
answered_core core v = record core { registers = with_reg core.registers 10 v; pc = after core.pc }

-- the outcome of an open: the store was looked in once, and the hart is answered, or the look failed and nothing changed
abbrev pub OpenComesTo : Name → StoreState → Core → Descriptors → Option Ending → StoreState → Core → Descriptors → Type 0
OpenComesTo name old core f None new core_new f_new =
    (size : Option ℕ) × (f_new ≡ (opened f name size).0) × (core_new ≡ answered_core core (word_of_int (opened f name size).1))
    × StoreLog old (false ∷ []) new × ((files : Files) → old.files ≡ Some files → size_in files name ≡ size)
OpenComesTo name old core f (Some StoreFault) new core_new f_new = StoreLog old (true ∷ []) new × (core_new ≡ core) × (f_new ≡ f)
OpenComesTo name old core f (Some other) new core_new f_new = ⊥

-- the outcome of fetching a read's blocks: all were fetched, and the read's bytes stand among the first of the buffer, so many of which came; or one failed, and it was the last
abbrev pub FetchesTo : ReadSpot → StoreState → Option ℕ → List ℕ → StoreState → Type 0
FetchesTo spot old (Some had) into new =
    (had ≤ length into) × StoreLog old (replicate (length (blocks_of spot)) false) new
    × ((files : Files) → old.files ≡ Some files → bytes_read files spot ≡ take spot.count (drop (spot.offset % 4096) (take had into)))
FetchesTo spot old None into new = (more : ℕ) × (more < length (blocks_of spot)) × StoreLog old (true ∷ replicate more false) new

-- the outcome of a read: each block was fetched, bytes were filled, the offset has grown and the hart is answered; or a fetch failed, and nothing changed
abbrev pub ReadComesTo : ℕ → ReadSpot → ℕ → StoreState → Core → Space → Descriptors → Option Ending → StoreState → Core → Space → Descriptors → Type 0
ReadComesTo d spot a old core space f None new core_new space_new f_new =
    (bytes : List ℕ) × (space_new ≡ record space { program = written space.program a bytes }) × (f_new ≡ after_read f d spot.count) × (core_new ≡ answered_core core spot.count)
    × StoreLog old (replicate (length (blocks_of spot)) false) new × ((files : Files) → old.files ≡ Some files → bytes_read files spot ≡ bytes)
ReadComesTo d spot a old core space f (Some StoreFault) new core_new space_new f_new =
    (more : ℕ) × (more < length (blocks_of spot)) × StoreLog old (true ∷ replicate more false) new × (core_new ≡ core) × (space_new ≡ space) × (f_new ≡ f)
ReadComesTo d spot a old core space f (Some other) new core_new space_new f_new = ⊥

-- the outcome of a put of these bytes, the only one: the hart is answered with the count that was taken, or the put failed and the hart is as before
abbrev pub PutComesTo : List ℕ → SinkState → Core → Option Ending → Core → SinkState → Type 0
PutComesTo bytes old core None core_new new =
    (k : ℕ) × (k ≤ length bytes) × (core_new ≡ answered_core core k) × SinkLog old (piece bytes k ∷ []) None new
PutComesTo bytes old core (Some SinkFault) core_new new = SinkLog old [] (Some bytes) new × (core_new ≡ core)
PutComesTo bytes old core (Some other) core_new new = ⊥

-- the outcome of an offer, to standard output (true) or to standard error (false)
abbrev pub OfferComesTo : Bool → List ℕ → SinkState → SinkState → Core → Option Ending → Core → SinkState → SinkState → Type 0
OfferComesTo true bytes out err core told core_new out_new err_new = PutComesTo bytes out core told core_new out_new × (err_new ≡ err)
OfferComesTo false bytes out err core told core_new out_new err_new = PutComesTo bytes err core told core_new err_new × (out_new ≡ out)
