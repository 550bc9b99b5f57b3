-- The calls on the store by which a whole file is read, in their order (this project's own).
use Rattle.std.specs.Prelude.{◌≡◌, ◌⊎◌, ℕ, ◌+◌, ◌/◌, ◌≤◌, ◌<◌, Bool, true, false, List, [], ◌∷◌, length, replicate, Option, Some, None, IfSome, Result, Ok, Err}
use Rattle.spec_base.specs.Layout.{file_limit}
use Rattle.world_io.specs.Outside.{StoreState}
use Rattle.world_io.specs.Logs.{StoreLog}
use Rattle.whole_file.specs.declared.reading.ReadFault.{ReadFault}
use Rattle.whole_file.specs.declared.reading.ReadFault.TheVariants.{Absent, TooLong, Failed, NoMemory}

-- what is in an answer, seen another way
abbrev pub mapped : {V W E : Type 0} → (V → W) → Result V E → Result W E
mapped f (Ok v) = Ok (f v)
mapped f (Err e) = Err e

-- how many blocks of 4,096 bytes a file of n bytes has
abbrev pub block_count : ℕ → ℕ
block_count n = (n + 4095) / 4096

-- the calls that were made, newest first: a look, and then a fetch for each block, up to one that failed. There is none behind a want of memory
abbrev pub Calls : Result (List ℕ) ReadFault → List Bool → Type 0
Calls (Ok bytes) log = (k : ℕ) × (log ≡ replicate (k + 1) false)
Calls (Err Absent) log = log ≡ false ∷ []
Calls (Err TooLong) log = log ≡ false ∷ []
Calls (Err Failed) log = (k : ℕ) × (log ≡ true ∷ replicate k false)
Calls (Err NoMemory) log = log ≡ false ∷ []

-- what an answer says of a file that is told
abbrev pub SaysOf : Option (List ℕ) → Result (List ℕ) ReadFault → List Bool → Type 0
SaysOf file (Ok bytes) log = (file ≡ Some bytes) × (length bytes ≤ file_limit) × (log ≡ replicate (block_count (length bytes) + 1) false)
SaysOf file (Err Absent) log = file ≡ None
SaysOf file (Err TooLong) log = (bytes : List ℕ) × (file ≡ Some bytes) × (file_limit < length bytes)
SaysOf file (Err Failed) log = (log ≡ true ∷ []) ⊎ ((bytes : List ℕ) × (file ≡ Some bytes) × (length bytes ≤ file_limit) × (length log ≤ block_count (length bytes) + 1))
SaysOf file (Err NoMemory) log = (bytes : List ℕ) × (file ≡ Some bytes) × (length bytes ≤ file_limit)

-- the reading of a file took the store from old to new
pub record ReadsWhole (old : StoreState) (name : List ℕ) (answer : Result (List ℕ) ReadFault) (new : StoreState) : Type 0 where
  pub log : List Bool
  pub went : StoreLog old log new
  pub calls : Calls answer log
  pub told : IfSome old.files (λ files. SaysOf (files name) answer log)
