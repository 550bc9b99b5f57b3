-- What a move of a run asks of the outside, and what may be answered (this project's own).
use Rattle.std.specs.Prelude.{◌≡◌, ◌⊎◌, ℕ, ◌≤◌, ◌<◌, Bool, true, false, not, ◌&&◌, List, length, Option, Some, None}
use Rattle.spec_base.specs.Files.{Name}
use Rattle.spec_base.specs.Layout.{stub_start}
use Rattle.spec_base.specs.declared.machine.View.{View}
use Rattle.spec_base.specs.declared.machine.View.TheVariants.{Plain, Program, Stub, Shadow}
use Rattle.spec_base.specs.declared.note.Move.{Move}
use Rattle.spec_base.specs.declared.note.Move.TheVariants.{O, S, T, D}
use Rattle.spec_base.specs.declared.spot.BlockSpot.{BlockSpot}
use Rattle.rv_model.specs.Memory.{Memory, bytes_at}
use Rattle.rv_model.specs.Effect.{fetched}
use Rattle.program_model.specs.Calls.{CallPlan, Set, Look, Read, Write, Exit}
use Rattle.program_model.specs.PlainRun.{plan_of}
use Rattle.program_model.specs.Cache.{in_flight}
use Rattle.code_model.specs.Stub.{stub}
use Rattle.run_model.specs.Run.{World, Run, RunEnd, Answer, Usual, Took, Failed, Lost}
use Rattle.run_model.specs.ShadowMoves.{is_running, is_call_word, fetch_shadow, shadow_plan}
use Rattle.word_laws.specs.Shown.{is_performed}

-- ---- what a move asks

-- nothing, a look in the store, a fetch from it, or a put on standard output (true) or on standard error (false)
pub data Asked : Type 0 where
  Nothing : Asked
  Looks : (name : Name) → Asked
  Fetches : (spot : BlockSpot) → Asked
  Puts : (to_out : Bool) (bytes : List ℕ) → Asked

-- a performed call: an open looks, and a write puts its bytes
abbrev pub performing_asks : Memory → CallPlan → Asked
performing_asks m (Look name) = Looks name
performing_asks m (Write to_out a n) = Puts to_out (bytes_at m a n)
performing_asks m (Set f answer) = Nothing
performing_asks m (Read d spot a) = Nothing
performing_asks m (Exit code) = Nothing

-- an assumed call: an open looks
abbrev pub assuming_asks : CallPlan → Asked
assuming_asks (Look name) = Looks name
assuming_asks (Set f answer) = Nothing
assuming_asks (Read d spot a) = Nothing
assuming_asks (Write to_out a n) = Nothing
assuming_asks (Exit code) = Nothing

-- a fetch: the block in flight
abbrev pub fetching_asks : Option BlockSpot → Asked
fetching_asks (Some spot) = Fetches spot
fetching_asks None = Nothing

abbrev pub asks_if : Bool → Asked → Asked
asks_if true asked = asked
asks_if false asked = Nothing

abbrev pub is_stub : View → Bool
is_stub Stub = true
is_stub Plain = false
is_stub Program = false
is_stub Shadow = false

-- the own hart isn't stalled, and its next word is HCALL 0 of the stub
abbrev pub is_performing : Run → Bool
is_performing r = not r.stalled && (is_stub r.view && is_performed (fetched stub stub_start r.own.pc))

-- the shadow is running, and its next word is an HCALL
abbrev pub is_assuming : World → Run → Bool
is_assuming w r = is_running r.shadow.state && is_call_word (fetch_shadow w r.shadow.pc)

-- each move of a run that goes on
abbrev pub move_asks : World → Run → Move → Asked
move_asks w r O = asks_if (is_performing r) (performing_asks r.own.memory (plan_of w.image.layout r.own))
move_asks w r S = asks_if (is_assuming w r) (assuming_asks (shadow_plan w r))
move_asks w r T = asks_if (r.stalled && is_assuming w r) (assuming_asks (shadow_plan w r))
move_asks w r D = fetching_asks (in_flight r.cache)

-- an ended run asks nothing
abbrev pub asks_unless : Option RunEnd → World → Run → Move → Asked
asks_unless (Some end) w r m = Nothing
asks_unless None w r m = move_asks w r m

-- what a move asks
abbrev pub asks : World → Run → Move → Asked
asks w r m = asks_unless r.end w r m

-- ---- what may be answered

-- what asks nothing hears nothing; a look is answered, or fails; a block comes, is lost for want of memory, or its fetch fails; of a put at least one byte is taken, or it fails
abbrev pub MayAnswer : Asked → Answer → Type 0
MayAnswer Nothing x = x ≡ Usual
MayAnswer (Looks name) x = (x ≡ Usual) ⊎ (x ≡ Failed)
MayAnswer (Fetches spot) x = (x ≡ Usual) ⊎ ((x ≡ Lost) ⊎ (x ≡ Failed))
MayAnswer (Puts to_out bytes) x = (x ≡ Failed) ⊎ ((k : ℕ) × (x ≡ Took k) × (0 < k) × (k ≤ length bytes))
