use Rattle.std.proofs.Common.{◌≡◌, List, length, ℕ, ℤ, Option, Some, None, IfSome, refl, ap, sym, ◌∙◌, subst}
use Rattle.std.specs.Option.{option_map}
use Rattle.world_io.specs.Looks.{LookSays}
use Rattle.world_io.specs.declared.store.Look.TheVariants.{Found, Absent}
use Rattle.world_io.proofs.Stores.{look-StoreLog}
use Rattle.spec_base.specs.Word.{word_of_int}
use Rattle.hart_step.specs.Core.{core_of}
use Rattle.program_model.specs.Descriptors.{Descriptors}
use Rattle.plain_runner.specs.Outcomes.{answered_core}
use Rattle.plain_runner.proofs.opening.open.Goals as goal

found : (o : Option (List ℕ)) (size : ℕ) → LookSays o (Found size) → option_map length o ≡ Some size
found None size h = absurd h
found (Some bytes) size h = ap Some (sym h)

absent : (o : Option (List ℕ)) → LookSays o Absent → option_map length o ≡ None
absent None h = refl
absent (Some bytes) h = absurd h

pub returns-in-Found : goal.returns-in-Found
returns-in-Found g c = (
  Some c.in-Found.size,
  c.settle.ensures.files ∙ ap (λ (r : Descriptors × ℤ). r.0) (sym c.found-after.ensures.plan),
  c.settle.ensures.hart ∙ ap (λ (r : Descriptors × ℤ). answered_core (core_of c.args.hart.now) (word_of_int r.1)) (sym c.found-after.ensures.plan),
  look-StoreLog _ _ (Found c.in-Found.size) c.in-Found.ensures.keeps c.in-Found.ensures.failed c.in-Found.ensures.number,
  (λ files e. found (files c.args.name.now) c.in-Found.size (subst (λ o. IfSome o (λ fs. LookSays (fs c.args.name.now) (Found c.in-Found.size))) e c.in-Found.ensures.told)),
)
