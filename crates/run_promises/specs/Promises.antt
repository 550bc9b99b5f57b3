-- What may be relied on where a rewritten program is run: it does as by itself, its shadow is bounded and its hints are true at each moment, and it gets on (this project's own).
use Rattle.std.specs.Prelude.{◌≡◌, ◌⊎◌, ℕ, ◌+◌, ◌*◌, ◌≤◌, ◌<◌, List, ◌++◌, length, Option, Some, None, Contains, IsTrue}
use Rattle.spec_base.specs.Files.{Files}
use Rattle.spec_base.specs.declared.note.Move.TheVariants.{O, D}
use Rattle.program_model.specs.PlainRun.{State, Image as Program, Taken, plain_state, all_taken, End, Exited as ExitedWith, TrapsAt, GoesOn, end_of}
use Rattle.code_model.specs.Regions.{slots_in_use}
use Rattle.run_model.specs.Run.{World, Run}
use Rattle.run_model.specs.Moves.{Moves, run}
use Rattle.run_model.specs.Patterns.{Pattern, one_round}
use Rattle.run_model.specs.ShadowMoves.{is_arrival}
use Rattle.run_model.specs.Restarts.{from_restart, nothing, unfilled, before_horizon, reads}
use Rattle.run_model.specs.Marks.{before_use}
use Rattle.run_laws.specs.OwnLaws.{DoesAsPlain}
use Rattle.run_laws.specs.HintLaws.{IsFollowing, hinted_up_to, is_parked, StandsFor, FollowsUntilUse}
use Rattle.world_io.specs.Logs.{Piece, SinkLog}
use Rattle.plain_runner.specs.Runs.{Outside, output_of, Agrees}
use Rattle.plain_runner.specs.declared.ending.Ending.{Ending}
use Rattle.plain_runner.specs.declared.ending.Ending.TheVariants.{Exited, Trapped, TurnsOver, StoreFault, SinkFault, NoMemory}

-- ---- the program does as by itself

-- how the plain program stands after n instructions, by the ending that is told: it has exited, its next step traps, or it hasn't exited. A fault of the store or of a sink is none of its ends
abbrev pub EndsAs : End → ℕ → State → Ending → Type 0
EndsAs end n s (Exited code) = end ≡ ExitedWith code
EndsAs end n s (Trapped cause pc) = end ≡ TrapsAt cause pc
EndsAs end n s (TurnsOver count) = (s.exited ≡ None) × (count ≡ n)
EndsAs end n s NoMemory = s.exited ≡ None
EndsAs end n s StoreFault = Unit {0}
EndsAs end n s SinkFault = Unit {0}

-- the puts that failed, on standard output and on standard error: one at a sink fault, else none
abbrev pub FailedPuts : Ending → Option (List ℕ) → Option (List ℕ) → Type 0
FailedPuts SinkFault (Some bytes) None = Unit {0}
FailedPuts SinkFault None (Some bytes) = Unit {0}
FailedPuts SinkFault None None = ⊥
FailedPuts SinkFault (Some bytes) (Some others) = ⊥
FailedPuts ending out err = (out ≡ None) × (err ≡ None)

-- after n of its instructions the plain program, whose puts are taken so, has put what the sinks took, in the same puts, and its end is the one that is told. A put that failed is the last
pub record IsAsPlain (p : Program) (files : Files) (ending : Ending) (old new : Outside) : Type 0 where
  pub n : ℕ
  pub state : State
  pub outs : List Piece
  pub errs : List Piece
  pub reached : (t : Taken) → Agrees t outs errs → plain_state p files t n ≡ Some state
  pub out_is : state.out ≡ output_of outs
  pub err_is : state.err ≡ output_of errs
  pub ends : (t : Taken) → EndsAs (end_of p files t state) n state ending
  pub out_fault : Option (List ℕ)
  pub err_fault : Option (List ℕ)
  pub failed : FailedPuts ending out_fault err_fault
  pub out_log : SinkLog old.out outs out_fault new.out
  pub err_log : SinkLog old.err errs err_fault new.err

-- ---- the shadow, at each moment

-- a run holds a fact at each moment: after each front of its moves
abbrev pub AtEachMoment : World → Moves → (Run → Type 0) → Type 0
AtEachMoment w ms P = (front rest : Moves) → ms ≡ front ++ rest → P (run w front)

-- the regions in use are at most the layout's
abbrev pub FewRegions : World → Run → Type 0
FewRegions w r = slots_in_use r.shared ≤ w.image.layout.regions

-- before the horizon the hints since the restart are the next reads, while the own hart is behind the shadow and each put was whole
abbrev pub HasTrueHints : World → Run → Type 0
HasTrueHints w r = IsFollowing r → IsTrue (before_horizon w r r.since.shadow) → r.since.hints ≡ reads w r (hinted_up_to w r)

-- a shadow that isn't parked has executed a bounded number of words for each of its instructions
abbrev pub HasFewWords : World → Run → Type 0
HasFewWords w r = 0 < r.restarts → IsTrue (is_parked r.shadow.state) ⊎ (r.since.words ≤ 128 + 8 * r.since.regions + 512 * r.since.shadow)

-- before the horizon the shadow at word 1 of a block stands for the plain state, outside the unfilled bytes
abbrev pub IsFollowed : World → Run → Type 0
IsFollowed w r =
    IsFollowing r → IsTrue (before_horizon w r r.since.shadow) → IsTrue (is_arrival w.image.layout r.shadow.pc) →
    (q : State) × (from_restart w r r.since.shadow ≡ Some q) × StandsFor w r nothing (unfilled w r r.since.shadow) q

-- and so, outside the marks, up to the first use
abbrev pub IsFollowedUntilUse : World → Run → Type 0
IsFollowedUntilUse w r = IsFollowing r → IsTrue (before_use w r r.since.shadow) → FollowsUntilUse w r

-- what holds at each moment of a run
pub record Keeps (w : World) (ms : Moves) : Type 0 where
  pub as_plain : AtEachMoment w ms (DoesAsPlain w)
  pub regions : AtEachMoment w ms (FewRegions w)
  pub hints : AtEachMoment w ms (HasTrueHints w)
  pub words : AtEachMoment w ms (HasFewWords w)
  pub follows : AtEachMoment w ms (IsFollowed w)
  pub until_use : AtEachMoment w ms (IsFollowedUntilUse w)

-- ---- the program gets on

-- a round of the pattern has an own move and a fetch, and the turns have q times 200 rounds
pub record AreEnough (pattern : Pattern) (turns q : ℕ) : Type 0 where
  pub own : Contains (one_round pattern) O
  pub fetch : Contains (one_round pattern) D
  pub rounds : 200 * q * length (one_round pattern) ≤ turns

-- where the turns are over, at least so many instructions are completed
abbrev pub GetsOn : Pattern → ℕ → Ending → Type 0
GetsOn pattern turns ending = (count q : ℕ) → ending ≡ TurnsOver count → AreEnough pattern turns q → q ≤ count

-- an end of a program, as it is told
abbrev pub IsEnd : End → Ending → Type 0
IsEnd (ExitedWith code) ending = ending ≡ Exited code
IsEnd (TrapsAt cause pc) ending = ending ≡ Trapped cause pc
IsEnd GoesOn ending = ⊥

-- the plain program comes to this end after n instructions, each put taken whole
pub record ComesTo (p : Program) (files : Files) (n : ℕ) (ending : Ending) : Type 0 where
  pub state : State
  pub reached : plain_state p files all_taken n ≡ Some state
  pub ends : IsEnd (end_of p files all_taken state) ending

-- a call on the store failed, or memory was wanting
abbrev pub IsCutShort : Ending → Type 0
IsCutShort StoreFault = Unit {0}
IsCutShort NoMemory = Unit {0}
IsCutShort (Exited code) = ⊥
IsCutShort (Trapped cause pc) = ⊥
IsCutShort (TurnsOver count) = ⊥
IsCutShort SinkFault = ⊥

-- where the plain program comes to an end, and the turns are enough for one instruction more, the run comes to it too, unless it is cut short
abbrev pub Finishes : Program → Files → Pattern → ℕ → Ending → Type 0
Finishes p files pattern turns ending = (n : ℕ) (end : Ending) → ComesTo p files n end → AreEnough pattern turns (n + 1) → (ending ≡ end) ⊎ IsCutShort ending
