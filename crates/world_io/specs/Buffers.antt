-- What the sinks in memory hold, and what a put does to them (this project's own).
use Rattle.spec_base.specs.Listed.{is_listed}
use Rattle.std.specs.Prelude.{◌≡◌, ℕ, ◌-◌, ◌<◌, ◌==◌, ◌||◌, Bool, true, false, List, [], ◌∷◌, ◌++◌, length, take, min, max, slice_get, Option, Some, None}
use Rattle.world_io.specs.Outside.{SinkState, Sure, next_number}
use Rattle.world_io.specs.declared.sink.Put.{Put}
use Rattle.world_io.specs.declared.sink.Put.TheVariants.{Took, Failed}

-- ---- a sink that takes whole pieces

-- its bytes, the room left, and its count of faults
pub record BufSinkState : Type 0 where
  pub bytes : List ℕ
  pub left : ℕ
  pub faults : ℕ

-- it tells its bytes and no puts, and its sure room is the room left
abbrev pub told_of_buf : BufSinkState → SinkState
told_of_buf sink = record { bytes = Some sink.bytes; puts = None; numbers = None; room = Sure sink.left; faults = sink.faults; fixed = [] }

-- a piece that fits in the room left is taken whole, and a longer one fails
abbrev pub PutsWhole : BufSinkState → List ℕ → Put → BufSinkState → Type 0
PutsWhole old bytes (Took k) new = (k ≡ length bytes)
    × (new ≡ record { bytes = old.bytes ++ bytes; left = old.left - length bytes; faults = old.faults })
PutsWhole old bytes Failed new = (old.left < length bytes)
    × (new ≡ record { bytes = old.bytes; left = old.left; faults = next_number old.faults })

-- ---- a sink that fails and falls short by lists

-- its bytes and puts (offered length, taken count), the room left, how many puts were made, the numbers, from 1, of
-- those that fail, how many bytes each put takes at most, and its count of faults
pub record MemSinkState : Type 0 where
  pub bytes : List ℕ
  pub puts : List (ℕ × ℕ)
  pub left : ℕ
  pub number : ℕ
  pub fails : List ℕ
  pub most : List ℕ
  pub faults : ℕ

-- the room that is sure: what is left, where no put is listed as failing or as short
abbrev pub sure_room : List ℕ → List ℕ → ℕ → ℕ
sure_room [] [] left = left
sure_room (n ∷ fails) most left = 0
sure_room [] (n ∷ most) left = 0

-- it tells its bytes, its puts and its numbers
abbrev pub told_of_mem : MemSinkState → SinkState
told_of_mem sink = record {
  bytes = Some sink.bytes;
  puts = Some sink.puts;
  numbers = Some (record { calls = sink.number; fails = sink.fails });
  room = Sure (sure_room sink.fails sink.most sink.left);
  faults = sink.faults;
  fixed = [];
}

-- the next put fails: no room is left, or its number is listed
abbrev pub put_fails : MemSinkState → Bool
put_fails sink = sink.left == 0 || is_listed sink.fails (next_number sink.number)

-- a count under the limit of a put, where it has one; each put may take one byte
abbrev pub limited : Option ℕ → ℕ → ℕ
limited None count = count
limited (Some most) count = min count (max most 1)

-- how many bytes a put with this number takes
abbrev pub taken_count : List ℕ → ℕ → ℕ → ℕ → ℕ
taken_count most number offered left = limited (slice_get most (number - 1)) (min offered left)

-- a put of at least one byte has the next number, and fails or takes what the lists say
abbrev pub PutsListed : MemSinkState → List ℕ → Put → MemSinkState → Type 0
PutsListed old bytes (Took k) new = (put_fails old ≡ false)
    × (k ≡ taken_count old.most (next_number old.number) (length bytes) old.left)
    × (new ≡ record {
      bytes = old.bytes ++ take k bytes;
      puts = old.puts ++ (length bytes, k) ∷ [];
      left = old.left - k;
      number = next_number old.number;
      fails = old.fails;
      most = old.most;
      faults = old.faults;
    })
PutsListed old bytes Failed new = (put_fails old ≡ true)
    × (new ≡ record {
      bytes = old.bytes;
      puts = old.puts;
      left = old.left;
      number = next_number old.number;
      fails = old.fails;
      most = old.most;
      faults = next_number old.faults;
    })
