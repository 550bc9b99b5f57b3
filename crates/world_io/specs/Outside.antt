-- What contracts see of a store and of a sink (this project's own).
use Rattle.spec_base.specs.Listed.{is_listed}
use Rattle.std.specs.Prelude.{◌≡◌, ℕ, ◌+◌, ◌-◌, ◌^◌, ◌≤◌, ◌<◌, ◌==◌, Bool, List, [], min, Option, Some, None, IfSome, if◌then◌else◌}
use Rattle.std.specs.Option.{option_map}
use Rattle.std.specs.Cmp.Lexicographic.{pointwise}
use Rattle.spec_base.specs.Files.{Files}

-- ---- numbers

-- how many calls were made, and the numbers, from 1, of those that fail. The calls of a store are looks and fetches, those of a sink are puts of at least one byte
pub record Numbers : Type 0 where
  pub calls : ℕ
  pub fails : List ℕ

-- ---- stores

-- a store: its files and its numbers where it tells them, and its count of faults
pub record StoreState : Type 0 where
  pub files : Option Files
  pub numbers : Option Numbers
  pub faults : ℕ

-- no file at all
abbrev pub no_files : Files
no_files = λ name. None

-- the files after one was added, in place of one of that name
abbrev pub with_file : Files → List ℕ → List ℕ → Files
with_file files name bytes = λ other. if pointwise ◌==◌ name other then Some bytes else files other

-- a store that tells its files, of which there are none yet
abbrev pub new_store : Option Numbers → StoreState
new_store numbers = record { files = Some no_files; numbers = numbers; faults = 0 }

-- a store that tells nothing
abbrev pub untold_store : ℕ → StoreState
untold_store faults = record { files = None; numbers = None; faults = faults }

-- a store after a file was added; that is no call
abbrev pub with_added : StoreState → List ℕ → List ℕ → StoreState
with_added old name bytes = record {
  files = option_map (λ files. with_file files name bytes) old.files;
  numbers = old.numbers;
  faults = old.faults;
}

-- ---- sinks

-- how many bytes a sink surely takes
pub data Room : Type 0 where
  Sure : ℕ → Room
  Endless : Room

-- a sink: its bytes, its puts (offered length, taken count) and its numbers where it tells them, its sure room, its count of faults, and what it was made with, which no put changes
pub record SinkState : Type 0 where
  pub bytes : Option (List ℕ)
  pub puts : Option (List (ℕ × ℕ))
  pub numbers : Option Numbers
  pub room : Room
  pub faults : ℕ
  pub fixed : List ℕ

-- a sink that tells nothing
abbrev pub untold_sink : Room → ℕ → SinkState
untold_sink room faults = record { bytes = None; puts = None; numbers = None; room = room; faults = faults; fixed = [] }

-- ---- counts

-- the number after this one; the last value of u64 stays
abbrev pub next_number : ℕ → ℕ
next_number n = min (n + 1) (2 ^ 64 - 1)

-- a count rose, or stands at its last value
abbrev pub Rose : ℕ → ℕ → Type 0
Rose before now = next_number before ≤ now

-- a count didn't rise in this sense
abbrev pub Steady : ℕ → ℕ → Type 0
Steady before now = now < next_number before

-- a count of failures after a call
abbrev pub faults_after : ℕ → Bool → ℕ
faults_after faults failed = if failed then next_number faults else faults

-- a call leaves the files, and the count of faults never falls
pub record KeepsFiles (old new : StoreState) : Type 0 where
  pub files : new.files ≡ old.files
  pub later : old.faults ≤ new.faults

-- where the numbers are told, the call has the next number, and fails exactly where that is listed
abbrev pub Counts : StoreState → Bool → StoreState → Type 0
Counts old failed new = IfSome old.numbers (λ n. n.calls < 2 ^ 64 - 1
    → (new.numbers ≡ Some (record { calls = n.calls + 1; fails = n.fails })) × (failed ≡ is_listed n.fails (n.calls + 1)))
