-- What an answer to a put says (this project's own).
use Rattle.spec_base.specs.Listed.{is_listed}
use Rattle.std.specs.Prelude.{◌≡◌, ℕ, ◌-◌, ◌≤◌, ◌<◌, Bool, false, List, [], ◌∷◌, ◌++◌, length, take, Option, Some, None}
use Rattle.std.specs.Option.{option_map}
use Rattle.std.specs.Io.KnownBytes.{Appends, Keeps}
use Rattle.world_io.specs.Outside.{SinkState, Numbers, Room, Sure, Endless, Rose, next_number}
use Rattle.world_io.specs.declared.sink.Put.{Put}
use Rattle.world_io.specs.declared.sink.Put.TheVariants.{Took, Failed}

-- the numbers after one put more
abbrev pub counted : Option Numbers → Option Numbers
counted numbers = option_map (λ n. record { calls = next_number n.calls; fails = n.fails }) numbers

-- the next put is listed as one that fails
abbrev pub next_fails : Option Numbers → Bool
next_fails None = false
next_fails (Some n) = is_listed n.fails (next_number n.calls)

-- n bytes are within the sure room
abbrev pub Fits : Room → ℕ → Type 0
Fits (Sure room) n = n ≤ room
Fits Endless n = Unit {0}

-- the room that is left after n bytes
abbrev pub room_left : Room → ℕ → Room
room_left (Sure room) n = Sure (room - n)
room_left Endless n = Endless

-- a sink that took the first k of these bytes
abbrev pub took : SinkState → List ℕ → ℕ → SinkState
took old bytes k = record {
  bytes = option_map (λ all. all ++ take k bytes) old.bytes;
  puts = option_map (λ all. all ++ (length bytes, k) ∷ []) old.puts;
  numbers = counted old.numbers;
  room = room_left old.room k;
  faults = old.faults;
  fixed = old.fixed;
}

-- a sink whose put failed, with its count of faults then
abbrev pub refused : SinkState → ℕ → SinkState
refused old faults = record {
  bytes = old.bytes;
  puts = old.puts;
  numbers = counted old.numbers;
  room = old.room;
  faults = faults;
  fixed = old.fixed;
}

-- a put of at least one byte: some are taken, where it isn't listed as one that fails, or the count of faults rose
abbrev pub PutSays : SinkState → List ℕ → Put → SinkState → Type 0
PutSays old bytes (Took k) new = (0 < k) × (k ≤ length bytes) × (next_fails old.numbers ≡ false) × (new ≡ took old bytes k)
PutSays old bytes Failed new = (old.faults ≤ new.faults) × Rose old.faults new.faults × (new ≡ refused old new.faults)

-- what a writer holds, where that is known, grew by the bytes that were taken
abbrev pub WritesTaken : Option (List ℕ) → List ℕ → Put → Option (List ℕ) → Type 0
WritesTaken old bytes (Took k) new = Appends old new (take k bytes)
WritesTaken old bytes Failed new = Keeps old new
