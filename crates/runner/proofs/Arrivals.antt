-- A runner shows the run whose shadow has arrived, or not.
use Rattle.std.proofs.Common.{◌≡◌, ℤ, Bool, true, false, ◌&&◌, sym, ap, subst}
use Rattle.program_model.specs.Descriptors.{Descriptors}
use Rattle.spec_base.specs.declared.note.ShadowState.TheVariants.{Running}
use Rattle.word_laws.specs.Shown.{ShowsShadow}
use Rattle.run_model.specs.Run.{World, Run}
use Rattle.run_model.specs.ShadowMoves.{arrived, arrived_if, is_arrival, is_running, assumed_with}
use Rattle.machine_laws.specs.OneMachine.{space_of_run}
use Rattle.spec_base.specs.declared.layout.Layout.{Layout}
use Rattle.rv_model.specs.Space.{Space}
use Rattle.hart_mem.specs.Held.{space_of}
use Rattle.hart_step.specs.Core.{core_of}
use Rattle.runner.specs.Shows.{Shows}
use Rattle.runner.specs.declared.runner.Runner.{Runner}

-- by whether it has
pub stays : (v : Runner) (w : World) (r : Run) → (is_running r.shadow.state && is_arrival w.image.layout r.shadow.pc) ≡ false → Shows v w r → Shows v w (arrived w.image.layout r)
stays v w r e h = subst (λ (b : Bool). Shows v w (arrived_if b r)) (sym e) h

pub has_arrived : (v : Runner) (w : World) (r : Run) → (is_running r.shadow.state && is_arrival w.image.layout r.shadow.pc) ≡ true → Shows v w (arrived_if true r) → Shows v w (arrived w.image.layout r)
has_arrived v w r e h = subst (λ (b : Bool). Shows v w (arrived_if b r)) (sym e) h

-- the test of the code is that of the run
pub arrival-test :
    (v : Runner) (w : World) (r : Run) → Shows v w r
    → (is_running r.shadow.state && is_arrival w.image.layout r.shadow.pc) ≡ (is_running v.state && is_arrival (space_of v.mem).layout (core_of v.shadow).pc)
unfolding space_of_run
arrival-test v w r h =
    let l : Layout = (space_of v.mem).layout in
    let same : l ≡ w.image.layout = ap (λ (s : Space). s.layout) h.space in
    λ i. is_running (sym h.shadow.state_is i) && is_arrival (sym same i) (sym h.shadow.pc i)

-- an assumed call with the same answer
pub assumed-as : (v : Runner) (w : World) (r : Run) (o p : Descriptors × ℤ) → o ≡ p → Shows v w (assumed_with r o) → Shows v w (assumed_with r p)
assumed-as v w r o p e h = subst (λ (o : Descriptors × ℤ). Shows v w (assumed_with r o)) e h

-- hart and memory show a running shadow
pub shown-by : (v : Runner) (w : World) (r : Run) → Shows v w r → r.shadow.state ≡ Running → ShowsShadow w r (core_of v.shadow) (space_of v.mem)
shown-by v w r h running = record { view = h.shadow.view; registers = h.shadow.registers; pc = h.shadow.pc; space = h.space; state = running }
