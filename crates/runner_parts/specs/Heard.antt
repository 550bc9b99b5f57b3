-- What a store said in a move: sizes of files and bytes of blocks (this project's own).
use Rattle.std.specs.Prelude.{◌≡◌, ℕ, List, [], ◌∷◌, All, Option, Some, None}
use Rattle.spec_base.specs.Files.{Name, Files}
use Rattle.spec_base.specs.declared.spot.BlockSpot.{BlockSpot}
use Rattle.program_model.specs.PlainRun.{size_in}
use Rattle.world_io.specs.declared.store.Look.{Look}
use Rattle.world_io.specs.declared.store.Look.TheVariants as look
use Rattle.cache_queue.specs.Finishes.{padded_block}
use Rattle.cache_queue.specs.declared.finish.Finished.{Finished}
use Rattle.cache_queue.specs.declared.finish.Finished.TheVariants as finish

-- the size of a file that was looked for, none where it is absent; or a block, with zeros behind the end of its file
pub data Said : Type 0 where
  Sized : (name : Name) (size : Option ℕ) → Said
  Gave : (spot : BlockSpot) (bytes : List ℕ) → Said

-- files of which this is true
abbrev pub IsTrueOf : Files → Said → Type 0
IsTrueOf files (Sized name size) = size_in files name ≡ size
IsTrueOf files (Gave spot bytes) = padded_block (files spot.name) spot.block ≡ bytes

abbrev pub AreTrueOf : Files → List Said → Type 0
AreTrueOf files said = All (IsTrueOf files) said

-- in a look
abbrev pub said_by_look : Name → Look → List Said
said_by_look name (look.Found size) = Sized name (Some size) ∷ []
said_by_look name look.Absent = Sized name None ∷ []
said_by_look name look.Failed = []

-- in the finish of a fetch, which left these bytes
abbrev pub said_by_finish : Finished → List ℕ → List Said
said_by_finish (finish.Put spot) bytes = Gave spot bytes ∷ []
said_by_finish (finish.Lost spot) bytes = Gave spot bytes ∷ []
said_by_finish finish.Nothing bytes = []
said_by_finish (finish.Dropped spot) bytes = []
said_by_finish (finish.Fault spot) bytes = []
