use Rattle.std.proofs.Common.{◌≡◌, ℕ, [], ap, subst, refl}
use Rattle.rv_model.specs.Registers.{reg}
use Rattle.program_model.specs.Descriptors.{Descriptors}
use Rattle.program_model.specs.Calls.{Set, Look, Read, Write, Exit, after_read}
use Rattle.run_model.specs.Run.{Usual}
use Rattle.run_model.specs.ShadowMoves.{assumed}
use Rattle.mark_laws.specs.Sizes.{TrueSizes}
use Rattle.hart_step.specs.Core.{core_of}
use Rattle.file_calls.specs.Plans.{plan_shown, made, changed}
use Rattle.file_calls.specs.declared.plan.PlannedCall.{PlannedCall}
use Rattle.runner.proofs.Hearing.{store-silent, nothing-told}
use Rattle.runner.proofs.Moved.{shows-as}
use Rattle.runner.proofs.ShadowSteps.{assumes-as}
use Rattle.runner.proofs.runner.Runner.assume.Goals as goal

pub returns-in-Set-clause-assumes : goal.returns-in-Set-clause-assumes
returns-in-Set-clause-assumes g c =
    let f : Descriptors = c.args.self.now.shadow_files in
    let d : ℕ = reg (core_of c.args.self.now.shadow).registers 10 in
    assumes-as _ _ c.args.unhinted _ (Set (changed f c.in-Set.change) c.in-Set.value) _ _ (ap (λ (p : PlannedCall). plan_shown d (made f p)) c.in-Set.is)
    (record {
      files = refl;
      answer = Usual;
      said = [];
      told = nothing-told _;
      hears = store-silent _;
      shows = λ w r h all sizes ok said. c.assume_change.ensures.shows w r h sizes;
    })

pub returns-in-Open-clause-assumes : goal.returns-in-Open-clause-assumes
returns-in-Open-clause-assumes g c =
    let f : Descriptors = c.args.self.now.shadow_files in
    let d : ℕ = reg (core_of c.args.self.now.shadow).registers 10 in
    assumes-as _ _ c.args.unhinted _ (Look c.in-Open.name) _ _ (ap (λ (p : PlannedCall). plan_shown d (made f p)) c.in-Open.is) (c.assume_look.ensures.looks c.args.unhinted)

pub returns-in-Read-clause-assumes : goal.returns-in-Read-clause-assumes
returns-in-Read-clause-assumes g c =
    let f : Descriptors = c.args.self.now.shadow_files in
    let d : ℕ = reg (core_of c.args.self.now.shadow).registers 10 in
    assumes-as _ _ c.args.unhinted _ (Read d c.in-Read.spot c.in-Read.address) _ _ (ap (λ (p : PlannedCall). plan_shown d (made f p)) c.in-Read.is)
    (record {
      files = refl;
      answer = Usual;
      said = [];
      told = nothing-told _;
      hears = store-silent _;
      shows = λ w r h all sizes ok said.
          let same : d ≡ reg r.shadow.registers 10 = (λ i. reg (h.shadow.registers i) 10) in
          shows-as _ w _ _ (λ i. assumed w Usual r c.args.unhinted (Read (same i) c.in-Read.spot c.in-Read.address))
          (c.assume_read.ensures.shows w r h (all d c.in-Read.spot c.in-Read.address refl) ok (subst (λ (k : ℕ). TrueSizes w.files (after_read r.shadow.files k c.in-Read.spot.count)) same sizes));
    })

pub returns-in-Write-clause-assumes : goal.returns-in-Write-clause-assumes
returns-in-Write-clause-assumes g c =
    let f : Descriptors = c.args.self.now.shadow_files in
    let d : ℕ = reg (core_of c.args.self.now.shadow).registers 10 in
    assumes-as _ _ c.args.unhinted _ (Write c.in-Write.field-0 c.in-Write.field-1 c.in-Write.count) _ _ (ap (λ (p : PlannedCall). plan_shown d (made f p)) c.in-Write.is)
    (record {
      files = refl;
      answer = Usual;
      said = [];
      told = nothing-told _;
      hears = store-silent _;
      shows = λ w r h all sizes ok said. c.assume_count.ensures.shows w r h;
    })

pub returns-in-Exit-clause-assumes : goal.returns-in-Exit-clause-assumes
returns-in-Exit-clause-assumes g c =
    let f : Descriptors = c.args.self.now.shadow_files in
    let d : ℕ = reg (core_of c.args.self.now.shadow).registers 10 in
    assumes-as _ _ c.args.unhinted _ (Exit c.in-Exit.field-0) _ _ (ap (λ (p : PlannedCall). plan_shown d (made f p)) c.in-Exit.is)
    (record {
      files = refl;
      answer = Usual;
      said = [];
      told = nothing-told _;
      hears = store-silent _;
      shows = λ w r h all sizes ok said. c.park.ensures.shows w r h;
    })
