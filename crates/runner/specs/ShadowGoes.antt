-- What a word of the shadow, or a part of one, does to a runner (this project's own).
use Rattle.std.specs.Prelude.{◌≡◌, ◌≤◌, Bool, false, Option, Some, None, List}
use Rattle.spec_base.specs.Files.{Files}
use Rattle.spec_base.specs.declared.note.Move.{Move}
use Rattle.spec_base.specs.declared.note.ShadowState.TheVariants.{Running}
use Rattle.rv_decode.specs.declared.instr.Instr.TheVariants.{Hcall}
use Rattle.program_model.specs.Calls.{CallPlan}
use Rattle.code_model.specs.Regions.{slots_in_use}
use Rattle.code_model.specs.Tables.{AreConsistent}
use Rattle.run_model.specs.Run.{World, Run, Answer}
use Rattle.run_model.specs.Moves.{step}
use Rattle.run_model.specs.ShadowMoves.{fetch_shadow, is_call_word, shadow_plan, shadow_step, assumed}
use Rattle.run_laws.specs.OwnLaws.{Accepted}
use Rattle.mark_laws.specs.Agreement.{HasAll, assumed_answer}
use Rattle.mark_laws.specs.Sizes.{TrueSizes}
use Rattle.hart_mem.specs.Held.{space_of}
use Rattle.hart_step.specs.Core.{core_of}
use Rattle.hart_step.specs.declared.event.Event.{Event}
use Rattle.word_laws.specs.Shown.{with_shadow}
use Rattle.word_laws.specs.ShadowWords.{ShadowGoes, MeetsGate}
use Rattle.world_io.specs.Outside.{StoreState, SinkState}
use Rattle.plain_runner.specs.Runs.{Outside}
use Rattle.move_requests.specs.Asked.{Asked, assuming_asks, asks_if, asks}
use Rattle.runner_parts.specs.Heard.{Said, AreTrueOf}
use Rattle.runner_parts.specs.Requests.{IsAnswered}
use Rattle.runner.specs.Shows.{Shows}
use Rattle.runner.specs.declared.runner.Runner.{Runner}

-- ---- the step of the hart

-- the runner shows the run with what hart and memory have after a step, and the run's next step is told by the event
pub record StepsTo (e : Event) (u : Runner) (w : World) (r : Run) : Type 0 where
  pub goes : ShadowGoes e w r (core_of u.shadow) (space_of u.mem)
  pub shows : Shows u w (with_shadow r (core_of u.shadow) (space_of u.mem))

-- at most as many regions are in use as were counted
abbrev pub AreCounted : Runner → Type 0
AreCounted v = slots_in_use (space_of v.mem).shared ≤ v.counts.regions_most

-- a word that is no call: the move is made, whatever the outside answers
pub record IsMade (u : Runner) (w : World) (r : Run) : Type 0 where
  pub no_call : is_call_word (fetch_shadow w r.shadow.pc) ≡ false
  pub shows : (x : Answer) → Shows u w (shadow_step w x r)

-- a call, which is left to be assumed: nothing has changed
pub record IsLeft (unhinted : Bool) (u : Runner) (w : World) (r : Run) : Type 0 where
  pub meets : MeetsGate (Hcall unhinted) w r (core_of u.shadow) (space_of u.mem)
  pub shows : Shows u w r

abbrev pub WordTold : Option Bool → Runner → World → Run → Type 0
WordTold None u w r = IsMade u w r
WordTold (Some unhinted) u w r = IsLeft unhinted u w r

-- ---- the store

-- the outside with this store
abbrev pub beside : StoreState → SinkState → SinkState → Outside
beside store out err = record { store = store; out = out; err = err }

-- this was asked of a store, and of no sink
abbrev pub StoreAnswers : Asked → Answer → StoreState → StoreState → Type 0
StoreAnswers asked x old new = (out err : SinkState) → IsAnswered asked x (beside old out err) (beside new out err)

-- a planned call is assumed
pub record Assumes (v u : Runner) (unhinted : Bool) (plan : CallPlan) (old new : StoreState) : Type 0 where
  pub files : new.files ≡ old.files
  pub answer : Answer
  pub said : List Said
  pub told : (files : Files) → old.files ≡ Some files → AreTrueOf files said
  pub hears : StoreAnswers (assuming_asks plan) answer old new
  pub shows :
      (w : World) (r : Run) → Shows v w r → HasAll w.files plan → TrueSizes w.files (assumed_answer w.files r.shadow.files plan).0 → AreConsistent w.image.layout r.shared
      → AreTrueOf w.files said → Shows u w (assumed w answer r unhinted plan)

-- a word of a running shadow is made
pub record MakesWord (v u : Runner) (old new : StoreState) : Type 0 where
  pub files : new.files ≡ old.files
  pub answer : Answer
  pub said : List Said
  pub told : (files : Files) → old.files ≡ Some files → AreTrueOf files said
  pub hears : (w : World) (r : Run) → Accepted w → Shows v w r → r.shadow.state ≡ Running → StoreAnswers (asks_if (is_call_word (fetch_shadow w r.shadow.pc)) (assuming_asks (shadow_plan w r))) answer old new
  pub shows : (w : World) (r : Run) → Accepted w → Shows v w r → r.shadow.state ≡ Running → AreConsistent w.image.layout r.shared → AreTrueOf w.files said → Shows u w (shadow_step w answer r)

-- a move of a run that goes on, which asks nothing of the sinks
pub record MakesStep (m : Move) (v u : Runner) (old new : StoreState) : Type 0 where
  pub files : new.files ≡ old.files
  pub answer : Answer
  pub said : List Said
  pub told : (files : Files) → old.files ≡ Some files → AreTrueOf files said
  pub hears : (w : World) (r : Run) → Accepted w → Shows v w r → StoreAnswers (asks w r m) answer old new
  pub shows : (w : World) (r : Run) → Accepted w → Shows v w r → AreConsistent w.image.layout r.shared → AreTrueOf w.files said → Shows u w (step w r (m, answer))
