-- The place of each block's next need.
use Rattle.std.specs.Prelude.{ℕ, Bool, true, false, nat_lt, nat_eq, length, Option}
use Rattle.std.specs.HashMap as hash
use Rattle.fetch_plan.specs.declared.places.NextNeeds.{NextNeeds}
use Rattle.fetch_plan.specs.Coming.{at_place}

-- in the table (true) or in the map
abbrev pub next_in : Bool → NextNeeds → ℕ → Option ℕ
next_in true n block = at_place n.low.items block
next_in false n block = hash.get nat_eq n.others block

abbrev pub next_of : NextNeeds → ℕ → Option ℕ
next_of n block = next_in (nat_lt block (length n.low.items)) n block
