-- The hint log as a queue of at most 64 pairs: what a word of the shadow, and what the own hart, may change in it (this project's own).
use Rattle.std.specs.Prelude.{ℕ, ◌+◌, ◌-◌, ◌^◌, ◌≡◌, ◌≤◌, ◌<◌, Bool}
use Rattle.spec_base.specs.Layout.{link_start, table_start}
use Rattle.rv_model.specs.Memory.{Memory, stored}
use Rattle.program_model.specs.Calls.{CallPlan}
use Rattle.code_model.specs.Log.{log_head, log_tail, log_place, logged, IsQueue, box_start}
use Rattle.run_model.specs.Run.{World, Run, Answer}
use Rattle.run_model.specs.ShadowMoves.{assumed}
use Rattle.run_laws.specs.StubLaws.{Appends}
use Rattle.side_model.specs.Places.{Place, InHelper, Appending}

-- ---- the queue

-- one more pair fits
pub record HasRoom (link : Memory) : Type 0 where
  pub order : log_head link ≤ log_tail link
  pub room : log_tail link < log_head link + 64

-- ---- changes

-- each byte below the table is left, and so is each of the link
abbrev pub LeavesLink : Memory → Memory → Type 0
LeavesLink m m' = (a : ℕ) → a < table_start → m' a ≡ m a

-- a word at a place, of a call with this asked count. Words 17 and 18 of APPEND write at the place of the pair that comes next, which no pair of the log has, and word 21 raises the tail
pub data LogStep (count : ℕ) (place : Place) (m m' : Memory) : Type 0 where
  leaves : m' ≡ m → LogStep count place m m'
  puts_key : (key : ℕ) → place ≡ InHelper Appending 16 → HasRoom m → m' ≡ stored m (log_place (log_tail m)) 8 key → LogStep count place m m'
  puts_count : place ≡ InHelper Appending 17 → HasRoom m → m' ≡ stored m (log_place (log_tail m) + 8) 8 count → LogStep count place m m'
  raises_tail : (key : ℕ) → place ≡ InHelper Appending 20 → HasRoom m → logged m (log_tail m) ≡ (key, count) → m' ≡ stored m (link_start + 8) 8 (log_tail m + 1)
      → LogStep count place m m'

-- pairs are taken, and nothing else of the log changes
pub record Takes (m m' : Memory) : Type 0 where
  pub rises : log_head m ≤ log_head m'
  pub most : log_head m' ≤ log_tail m
  pub tail : log_tail m' ≡ log_tail m
  pub pairs : (i : ℕ) → logged m' i ≡ logged m i

-- ---- statements

-- a word keeps the queue, and only appends, a pair at most
pub record KeepsQueue (m m' : Memory) : Type 0 where
  pub queue : IsQueue m'
  pub appends : Appends m m'
  pub one : log_tail m' ≤ log_tail m + 1

-- The hint log is a queue of at most 64 pairs between any two words: a word of a call only appends
-- to it, one pair at most, where its tail is below 2^64 - 1; a word that leaves the link and a call
-- that is assumed leave it; and the own hart takes pairs from it where it raises the head up to the
-- tail. A word of a call leaves the box.
abbrev pub StepsKeepQueue : Type 0
StepsKeepQueue = (count : ℕ) (place : Place) (m m' : Memory) → IsQueue m → log_tail m < 2 ^ 64 - 1 → LogStep count place m m' → KeepsQueue m m'

-- it leaves the box, and all behind it
abbrev pub StepsLeaveBox : Type 0
StepsLeaveBox = (count : ℕ) (place : Place) (m m' : Memory) → LogStep count place m m' → (a : ℕ) → box_start ≤ a → m' a ≡ m a

-- a word that leaves the link keeps the queue, too
abbrev pub LeavingKeepsQueue : Type 0
LeavingKeepsQueue = (m m' : Memory) → IsQueue m → log_tail m < 2 ^ 64 → LeavesLink m m' → KeepsQueue m m'

-- pairs that are taken leave a queue
abbrev pub TakingKeepsQueue : Type 0
TakingKeepsQueue = (m m' : Memory) → IsQueue m → Takes m m' → IsQueue m'

-- it takes pairs, where it is no lower and not past the tail
abbrev pub HeadTakes : Type 0
HeadTakes = (m : Memory) (head : ℕ) → log_head m ≤ head → head ≤ log_tail m → head < 2 ^ 64 → Takes m (stored m link_start 8 head)

-- a call that the shadow assumes leaves the link, also where it fills a read
abbrev pub CallsLeaveLink : Type 0
CallsLeaveLink = (w : World) (x : Answer) (r : Run) (unhinted : Bool) (c : CallPlan) → LeavesLink r.shared (assumed w x r unhinted c).shared
