-- What a move of the own hart, or a part of one, does to a runner and to the outside (this project's own).
use Rattle.std.specs.Prelude.{◌≡◌, ◌&&◌, List, Some}
use Rattle.spec_base.specs.Files.{Files}
use Rattle.spec_base.specs.Layout.{stub_start}
use Rattle.spec_base.specs.declared.note.Move.TheVariants.{O}
use Rattle.rv_model.specs.Effect.{fetched}
use Rattle.program_model.specs.Calls.{CallPlan}
use Rattle.program_model.specs.PlainRun.{plan_of}
use Rattle.code_model.specs.Stub.{stub}
use Rattle.run_model.specs.Run.{World, Run, Answer}
use Rattle.run_model.specs.OwnMoves.{own_in, own_call_step}
use Rattle.run_model.specs.Moves.{step}
use Rattle.run_laws.specs.OwnLaws.{Accepted}
use Rattle.mark_laws.specs.Agreement.{HasAll}
use Rattle.mark_laws.specs.Sizes.{TrueSizes}
use Rattle.word_laws.specs.Shown.{is_performed}
use Rattle.plain_runner.specs.Runs.{Outside}
use Rattle.move_requests.specs.Asked.{Asked, asks_if, is_stub, performing_asks}
use Rattle.move_requests.specs.Hears.{Hears}
use Rattle.runner_parts.specs.Requests.{IsAnswered}
use Rattle.runner_parts.specs.Heard.{Said, AreTrueOf}
use Rattle.runner_parts.specs.OwnCalls.{IsAtPlan}
use Rattle.runner.specs.Shows.{Shows}
use Rattle.runner.specs.declared.runner.Runner.{Runner}

-- in each of these the answer is that of the outside, and the step is the run's over all files of which what the store said is true: those that the store tells are among them

-- a planned call is performed, or waits
pub record Performs (v u : Runner) (plan : CallPlan) (old new : Outside) : Type 0 where
  pub answer : Answer
  pub said : List Said
  pub told : (files : Files) → old.store.files ≡ Some files → AreTrueOf files said
  pub files : new.store.files ≡ old.store.files
  pub hears : (w : World) (r : Run) → Shows v w r → IsAnswered (performing_asks r.own.memory plan) answer old new
  pub shows : (w : World) (r : Run) → Shows v w r → IsAtPlan w r plan → HasAll w.files plan → AreTrueOf w.files said → Shows u w (own_call_step w answer r plan)

-- what the own hart's next word asks
abbrev pub word_asks : World → Run → Asked
word_asks w r = asks_if (is_stub r.view && is_performed (fetched stub stub_start r.own.pc)) (performing_asks r.own.memory (plan_of w.image.layout r.own))

-- a word of the own hart, which waits for nothing
pub record MakesOwnWord (v u : Runner) (old new : Outside) : Type 0 where
  pub answer : Answer
  pub said : List Said
  pub told : (files : Files) → old.store.files ≡ Some files → AreTrueOf files said
  pub files : new.store.files ≡ old.store.files
  pub hears : (w : World) (r : Run) → Accepted w → Shows v w r → IsAnswered (word_asks w r) answer old new
  pub shows : (w : World) (r : Run) → Accepted w → Shows v w r → TrueSizes w.files r.own.files → AreTrueOf w.files said → Shows u w (own_in r.view w answer r)

-- a move of a run that goes on
pub record MakesOwnMove (v u : Runner) (old new : Outside) : Type 0 where
  pub answer : Answer
  pub said : List Said
  pub told : (files : Files) → old.store.files ≡ Some files → AreTrueOf files said
  pub files : new.store.files ≡ old.store.files
  pub hears : (w : World) (r : Run) → Accepted w → Shows v w r → Hears w r O answer old new
  pub shows : (w : World) (r : Run) → Accepted w → Shows v w r → TrueSizes w.files r.own.files → AreTrueOf w.files said → Shows u w (step w r (O, answer))
