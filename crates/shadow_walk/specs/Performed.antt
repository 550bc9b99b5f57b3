-- What the HCALL in the block of a call comes to: the shadow goes on with the state's next state, but for the bytes of a read that isn't filled (this project's own).
use Rattle.std.specs.Prelude.{ℕ, ◌≡◌, ◌<◌, Bool, false, List, Some, IsTrue}
use Rattle.spec_base.specs.declared.note.ShadowState.TheVariants.{Running, Parked}
use Rattle.spec_base.specs.declared.park.Park.TheVariants as park
use Rattle.rv_model.specs.Memory.{is_within}
use Rattle.rv_model.specs.Rights.{is_data}
use Rattle.program_model.specs.Calls.{CallPlan, Look, Read, Exit}
use Rattle.program_model.specs.PlainRun.{State, all_taken, next_state, plan_of}
use Rattle.code_model.specs.Regions.{shadowed}
use Rattle.run_model.specs.Run.{World, Run, Answer, Failed}
use Rattle.run_model.specs.ShadowMoves.{hint_given, is_filled, shadow_step}
use Rattle.run_laws.specs.OwnLaws.{Accepted}
use Rattle.mark_laws.specs.Sizes.{TrueSizes}
use Rattle.shadow_walk.specs.Walks.{StandsAtCall}
use Rattle.shadow_walk.specs.Restarts.{StandsAnswered}

-- whether the read of a plan is filled, at an HCALL that gives it as a hint
abbrev pub fills : World → Run → CallPlan → Bool
fills w r (Read d spot a) = is_filled w (hint_given false spot r) spot a spot.count
fills w r _ = false

-- the bytes of a read that isn't filled
abbrev pub is_left : Bool → CallPlan → ℕ → Bool
is_left false (Read d spot a) x = is_within a spot.count x
is_left _ plan x = false

-- the shadow has the registers, the descriptors and the data of a plain state, but for some bytes
pub record HasStateBut (w : World) (r : Run) (q : State) (left : ℕ → Bool) : Type 0 where
  pub registers : (i : ℕ) → 0 < i → i < 32 → r.shadow.registers i ≡ q.registers i
  pub files : r.shadow.files ≡ q.files
  pub bytes : (a : ℕ) → IsTrue (is_data w.image.layout a) → left a ≡ false → shadowed r.shared r.own.memory a ≡ q.memory a

-- the HCALL of the call of the state q, between these runs: the shadow stands at the word behind it, with the next state but for the bytes of a read that isn't filled; or it is parked, where the program exits, or where the store has failed at a look
pub data Performs (w : World) (x : Answer) (q : State) (r next : Run) : Type 0 where
  goes_on : next.shadow.state ≡ Running → StandsAnswered w next q → (to : State) → next_state w.image w.files all_taken q ≡ Some to → HasStateBut w next to (is_left (fills w r (plan_of w.image.layout q)) (plan_of w.image.layout q))
      → Performs w x q r next
  exits : (code : ℕ) → plan_of w.image.layout q ≡ Exit code → next.shadow.state ≡ Parked park.Exit → Performs w x q r next
  fails : (name : List ℕ) → plan_of w.image.layout q ≡ Look name → x ≡ Failed → next.shadow.state ≡ Parked park.Store → Performs w x q r next

-- so it is in each run whose shadow stands there, where the state's descriptors have the sizes of their files
abbrev pub CallsArePerformed : Type 0
CallsArePerformed = (w : World) (x : Answer) (r : Run) (q : State) → Accepted w → TrueSizes w.files q.files → r.shadow.state ≡ Running → StandsAtCall w r q → Performs w x q r (shadow_step w x r)
