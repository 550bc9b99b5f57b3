-- What is promised of the program itself: preservation, invisible shadow, bounded regions, progress, and that the own side follows the run from the restart.
use Rattle.std.specs.Prelude.{ℕ, zero, suc, ◌+◌, ◌*◌, ◌%◌, ◌^◌, ◌≡◌, ◌≤◌, ◌<◌, ◌⊎◌, ⊤, Bool, true, false, ◌&&◌, not, List, [], ◌∷◌, ◌++◌, length, map, Option, Some, None, is_none, IsSome, IsTrue, All, Contains}
use Rattle.spec_base.specs.Files.{Name}
use Rattle.spec_base.specs.Layout.{is_lawful, image_limit}
use Rattle.spec_base.specs.declared.machine.View.{View}
use Rattle.spec_base.specs.declared.machine.View.TheVariants.{Program}
use Rattle.spec_base.specs.declared.note.Move.{Move}
use Rattle.spec_base.specs.declared.note.Move.TheVariants.{O, S, T, D}
use Rattle.rv_model.specs.Memory.{Memory}
use Rattle.program_model.specs.Descriptors.{start_of}
use Rattle.program_model.specs.Calls.{CallPlan, Set, Look, Read, Write, Exit}
use Rattle.program_model.specs.Loading.{nothing_put}
use Rattle.program_model.specs.PlainRun.{State, Image, Taken, plain_state, End, Exited, TrapsAt, GoesOn, end_of}
use Rattle.code_model.specs.Regions.{slots_in_use}
use Rattle.run_model.specs.Run.{World, Run, RunEnd, Exits, Traps, StoreFailed, SinkFailed, Answer, Usual, Took, Failed, Lost}
use Rattle.run_model.specs.Moves.{Moves, is_idle, step, run}
use Rattle.run_model.specs.Patterns.{Pattern, one_round, pattern_moves}
use Rattle.run_model.specs.ShadowMoves.{fetch_shadow, shadow_plan, is_call_word}
use Rattle.run_model.specs.Restarts.{from_restart}

-- ---- worlds

-- each number is a byte
abbrev pub AllBytes : List ℕ → Type 0
AllBytes bytes = All (λ b. b < 256) bytes

-- a program that was loaded from an accepted file, and files. What is asked of its start is true of each loaded program
pub record Accepted (w : World) : Type 0 where
  pub lawful : IsTrue (is_lawful w.image.layout)
  pub text : w.image.layout.text_end ≡ w.image.layout.text_start + 4 * length w.image.words
  pub words : All (λ word. word < 2 ^ 32) w.image.words
  pub registers : (i : ℕ) → w.image.start.registers i < 2 ^ 64
  pub memory : (a : ℕ) → w.image.start.memory a < 256
  pub files : (name : Name) (bytes : List ℕ) → w.files name ≡ Some bytes → (length bytes < 2 ^ 56) × AllBytes bytes
  pub descriptors : (break_start : ℕ) × (w.image.start.files ≡ start_of break_start (image_limit w.image.layout.version))
  pub fresh : w.image.start.exited ≡ None
  pub silent : (w.image.start.out ≡ nothing_put) × (w.image.start.err ≡ nothing_put)

-- ---- preservation

-- how many bytes each put took
abbrev pub counts_of : List (ℕ × ℕ) → List ℕ
counts_of [] = []
counts_of (p ∷ ps) = p.1 ∷ counts_of ps

-- what the puts of this run took
abbrev pub puts_of : Run → Taken
puts_of r = record { out = counts_of r.own.out.puts; err = counts_of r.own.err.puts }

-- an end by exit or trap is that of the plain program; a fault of the store or of a sink is none of its ends
abbrev pub SameEnd : Option RunEnd → End → Type 0
SameEnd (Some (Exits code)) e = e ≡ Exited code
SameEnd (Some (Traps cause pc)) e = e ≡ TrapsAt cause pc
SameEnd (Some StoreFailed) e = ⊤
SameEnd (Some SinkFailed) e = ⊤
SameEnd None e = ⊤

-- the run has done what the plain program does in as many instructions, which complete
pub record DoesAsPlain (w : World) (r : Run) : Type 0 where
  pub state : State
  pub reached : plain_state w.image w.files (puts_of r) r.own_done ≡ Some state
  pub calls : r.own.calls ≡ state.calls
  pub out : r.own.out ≡ state.out
  pub err : r.own.err ≡ state.err
  pub end : SameEnd r.end (end_of w.image w.files (puts_of r) state)
  pub goes_on : r.end ≡ None → state.exited ≡ None

-- every run of a rewritten program does as the plain program
abbrev pub Preserved : Type 0
Preserved = (w : World) → Accepted w → (ms : Moves) → DoesAsPlain w (run w ms)

-- ---- invisible shadow

-- a move that only the shadow makes
abbrev pub IsShadowMove : Move → Type 0
IsShadowMove S = ⊤
IsShadowMove T = ⊤
IsShadowMove O = ⊥
IsShadowMove D = ⊥

-- all that is the program's: the own hart with its memory, files and outputs, where it stands, and its counts
pub record OwnPart : Type 0 where
  pub own : State
  pub site : ℕ
  pub view : View
  pub page : Memory
  pub asked : Bool
  pub stalled : Bool
  pub gathered : ℕ
  pub done : ℕ
  pub end : Option RunEnd

-- the program's part of a run
abbrev pub own_part : Run → OwnPart
own_part r =
    record { own = r.own; site = r.site; view = r.view; page = r.own_page; asked = r.asked; stalled = r.stalled; gathered = r.gathered; done = r.own_done; end = r.end }

-- whether the outside failed
abbrev pub has_failed : Answer → Bool
has_failed Failed = true
has_failed Usual = false
has_failed (Took count) = false
has_failed Lost = false

-- whether a call looks in the store
abbrev pub is_look : CallPlan → Bool
is_look (Look name) = true
is_look (Set f answer) = false
is_look (Read d spot a) = false
is_look (Write to_out a n) = false
is_look (Exit code) = false

-- the shadow's next word assumes a call that looks in the store
abbrev pub next_looks : World → Run → Bool
next_looks w r = is_call_word (fetch_shadow w r.shadow.pc) && is_look (shadow_plan w r)

-- a move makes that word: the run goes on, and the move isn't idle
abbrev pub asks_for_look : World → Run → Move → Bool
asks_for_look w r m = is_none r.end && (not (is_idle m r) && next_looks w r)

-- at every run, a move of the shadow leaves all that is the program's, puts nothing, and hears nothing from the outside but whether a look that it asks for has failed
pub record IsInvisible (w : World) (r : Run) (m : Move) (x : Answer) : Type 0 where
  pub leaves : own_part (step w r (m, x)) ≡ own_part r
  pub puts_nothing : (step w r (m, x)).text ≡ []
  pub hears_failure_alone : (y : Answer) → has_failed x ≡ has_failed y → step w r (m, x) ≡ step w r (m, y)
  pub hears_looks_alone : (y : Answer) → asks_for_look w r m ≡ false → step w r (m, x) ≡ step w r (m, y)

-- every move of the shadow is invisible
abbrev pub ShadowIsInvisible : Type 0
ShadowIsInvisible = (w : World) (r : Run) (m : Move) (x : Answer) → IsShadowMove m → IsInvisible w r m x

-- ---- bounded regions

-- no run has more regions in use than its layout says
abbrev pub RegionsBounded : Type 0
RegionsBounded = (w : World) → Accepted w → (ms : Moves) → slots_in_use (run w ms).shared ≤ w.image.layout.regions

-- ---- progress

-- an own move is among them
abbrev pub HasOwn : Moves → Type 0
HasOwn [] = ⊥
HasOwn ((O, x) ∷ ms) = ⊤
HasOwn ((S, x) ∷ ms) = HasOwn ms
HasOwn ((T, x) ∷ ms) = HasOwn ms
HasOwn ((D, x) ∷ ms) = HasOwn ms

-- a fetch is among them
abbrev pub HasFetch : Moves → Type 0
HasFetch [] = ⊥
HasFetch ((D, x) ∷ ms) = ⊤
HasFetch ((O, x) ∷ ms) = HasFetch ms
HasFetch ((S, x) ∷ ms) = HasFetch ms
HasFetch ((T, x) ∷ ms) = HasFetch ms

-- the moves begin with n stretches, each with an own move and a fetch
abbrev pub Stretches : ℕ → Moves → Type 0
Stretches zero ms = ⊤
Stretches (suc n) ms = (first : Moves) × (rest : Moves) × (ms ≡ first ++ rest) × HasOwn first × HasFetch first × Stretches n rest

-- 200 stretches an instruction are enough
abbrev pub Progress : Type 0
Progress = (w : World) → Accepted w → (q : ℕ) (ms : Moves) → Stretches (200 * q) ms → IsSome (run w ms).end ⊎ (q ≤ (run w ms).own_done)

-- a pattern that has an own move and a fetch: 200 rounds an instruction are enough
abbrev pub RoundsProgress : Type 0
RoundsProgress =
    (w : World) → Accepted w → (pattern : Pattern) → let round = one_round pattern in Contains round O → Contains round D →
    (q : ℕ) (ms : Moves) → map (λ m. m.0) ms ≡ pattern_moves pattern (length ms) → 200 * q * length round ≤ length ms →
    IsSome (run w ms).end ⊎ (q ≤ (run w ms).own_done)

-- ---- the own side follows the run from the restart

-- what the own hart has done is what a plain state has; its registers and its pc are that state's while it is in the program
pub record OwnIs (r : Run) (q : State) : Type 0 where
  pub memory : r.own.memory ≡ q.memory
  pub files : r.own.files ≡ q.files
  pub calls : r.own.calls ≡ q.calls
  pub out : r.own.out ≡ q.out
  pub err : r.own.err ≡ q.err
  pub exited : r.own.exited ≡ q.exited
  pub place : r.view ≡ Program → (r.own.registers ≡ q.registers) × (r.own.pc ≡ q.pc)

-- while each put is whole, the own hart does as the run from the restart
abbrev pub OwnFollows : Type 0
OwnFollows =
    (w : World) → Accepted w → (ms : Moves) → let r = run w ms in 0 < r.restarts → IsTrue r.since.whole →
    (q : State) × (from_restart w r r.since.own ≡ Some q) × OwnIs r q
