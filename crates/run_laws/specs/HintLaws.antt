-- What is promised of the shadow: its hints are the next reads, its words are bounded, and it follows the run from the restart.
use Rattle.std.specs.Prelude.{ℕ, ◌+◌, ◌-◌, ◌*◌, ◌/◌, ◌%◌, nat_le, slice_get, ◌≡◌, ◌≢◌, ◌≤◌, ◌<◌, ◌⊎◌, Bool, true, false, ◌&&◌, not, List, [], nat_lt, ◌==◌, if◌then◌else◌, Option, Some, None, IsTrue}
use Rattle.spec_base.specs.declared.note.ShadowState.{ShadowState}
use Rattle.spec_base.specs.declared.note.ShadowState.TheVariants.{Never, Running, Stopped, Parked}
use Rattle.rv_model.specs.Rights.{is_data}
use Rattle.program_model.specs.PlainRun.{State, text_of}
use Rattle.rv_decode.specs.declared.instr.Instr.{Instr}
use Rattle.rv_decode.specs.declared.instr.Instr.TheVariants.{Ecall}
use Rattle.spec_base.specs.Layout.{shadow_start, helpers_start}
use Rattle.code_model.specs.Places.{block_at}
use Rattle.code_model.specs.Regions.{shadowed}
use Rattle.run_model.specs.Run.{World, Run}
use Rattle.run_model.specs.Moves.{Moves, run}
use Rattle.run_model.specs.ShadowMoves.{is_arrival}
use Rattle.run_model.specs.Restarts.{from_restart, nothing, unfilled, before_horizon, reads}
use Rattle.run_model.specs.Marks.{Marks, marks, before_use}
use Rattle.run_laws.specs.OwnLaws.{Accepted}

-- ---- the moments of the promise

-- there was a restart, the own hart has not been past the shadow since, and each put was taken whole
pub record IsFollowing (r : Run) : Type 0 where
  pub restarted : 0 < r.restarts
  pub ahead : IsTrue r.since.ahead
  pub whole : IsTrue r.since.whole

-- whether an instruction is a call
abbrev pub is_ecall : Option Instr → Bool
is_ecall (Some Ecall) = true
is_ecall _ = false

-- the shadow stands behind the HCALL of a call's block: at word 7
abbrev pub is_behind_call : World → ℕ → Bool
is_behind_call w pc = nat_le shadow_start pc && (nat_lt pc helpers_start && ((pc % 64 == 28) && is_ecall (slice_get (text_of w.image) ((pc - shadow_start) / 64))))

-- up to which instruction the hints reach: the shadow's last, or the call that it has made in its block
abbrev pub hinted_up_to : World → Run → ℕ
hinted_up_to w r = if is_behind_call w r.shadow.pc then r.since.shadow + 1 else r.since.shadow

-- ---- the hints are the next reads

-- before the horizon the hints are the next reads, up to where the shadow has come
abbrev pub HintsAreReads : Type 0
HintsAreReads =
    (w : World) → Accepted w → (ms : Moves) → let r = run w ms in IsFollowing r → IsTrue (before_horizon w r r.since.shadow) →
    r.since.hints ≡ reads w r (hinted_up_to w r)

-- ---- the shadow's words are bounded

-- whether the shadow is parked
abbrev pub is_parked : ShadowState → Bool
is_parked (Parked cause) = true
is_parked Never = false
is_parked Running = false
is_parked Stopped = false

-- a shadow that is not parked executes a bounded number of words for each region and instruction
abbrev pub WordsBounded : Type 0
WordsBounded =
    (w : World) → Accepted w → (ms : Moves) → let r = run w ms in 0 < r.restarts →
    IsTrue (is_parked r.shadow.state) ⊎ (r.since.words ≤ 128 + 8 * r.since.regions + 512 * r.since.shadow)

-- ---- the shadow follows the run from the restart

-- the shadow at word 1 of a block stands for a plain state, outside the registers and bytes of which nothing is said
pub record StandsFor (w : World) (r : Run) (open_register open_byte : ℕ → Bool) (q : State) : Type 0 where
  pub inside : w.image.layout.text_start ≤ q.pc
  pub place : r.shadow.pc ≡ block_at w.image.layout q.pc + 4
  pub registers : (i : ℕ) → 0 < i → i < 32 → open_register i ≡ false → r.shadow.registers i ≡ q.registers i
  pub files : r.shadow.files ≡ q.files
  pub bytes : (a : ℕ) → IsTrue (is_data w.image.layout a) → open_byte a ≡ false → shadowed r.shared r.own.memory a ≡ q.memory a

-- before the horizon the shadow at word 1 of a block stands for the plain state, outside the unfilled bytes
abbrev pub ShadowFollows : Type 0
ShadowFollows =
    (w : World) → Accepted w → (ms : Moves) → let r = run w ms in IsFollowing r → IsTrue (before_horizon w r r.since.shadow) →
    IsTrue (is_arrival w.image.layout r.shadow.pc) →
    (q : State) × (from_restart w r r.since.shadow ≡ Some q) × StandsFor w r nothing (unfilled w r r.since.shadow) q

-- ---- hints until the first use

-- as long as the shadow's instructions are before the first use, hints and registers are right outside the marks; nothing is said of the hint that the first use itself may give
pub record FollowsUntilUse (w : World) (r : Run) : Type 0 where
  pub hints : IsTrue (before_use w r (hinted_up_to w r)) → r.since.hints ≡ reads w r (hinted_up_to w r)
  pub follows :
      IsTrue (is_arrival w.image.layout r.shadow.pc) →
      (q : State) × (from_restart w r r.since.shadow ≡ Some q) × StandsFor w r (marks w r r.since.shadow).registers (marks w r r.since.shadow).bytes q

-- before the first use the hints are the next reads, and the shadow stands for the plain state outside the marks
abbrev pub HintsUntilUse : Type 0
HintsUntilUse =
    (w : World) → Accepted w → (ms : Moves) → let r = run w ms in IsFollowing r → IsTrue (before_use w r r.since.shadow) → FollowsUntilUse w r

-- the first use is never before the horizon
abbrev pub UseIsAfterHorizon : Type 0
UseIsAfterHorizon = (w : World) → Accepted w → (ms : Moves) (i : ℕ) → let r = run w ms in IsTrue (before_horizon w r i) → IsTrue (before_use w r i)

-- ---- the premises are met

-- the laws speak of something: of an accepted program, one of whose runs follows its restart before the horizon and has given hints
abbrev pub HintsAreMet : Type 0
HintsAreMet =
    (w : World) × (ms : Moves) × Accepted w × IsFollowing (run w ms) × IsTrue (before_horizon w (run w ms) (run w ms).since.shadow) × ((run w ms).since.hints ≢ [])
