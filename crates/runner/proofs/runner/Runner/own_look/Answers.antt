use Rattle.std.proofs.Common.{◌≡◌, ℕ, ℤ, Option, Some, None, sym, ap, ◌∙◌, refl}
use Rattle.program_model.specs.Descriptors.{Descriptors}
use Rattle.program_model.specs.Calls.{Set, opened}
use Rattle.program_model.specs.PlainRun.{size_in}
use Rattle.run_model.specs.Run.{Usual}
use Rattle.run_model.specs.OwnMoves.{own_call_step}
use Rattle.world_io.specs.declared.store.Look.TheVariants.{Found, Absent, Failed}
use Rattle.world_io.proofs.Stores.{look-StoreLog}
use Rattle.file_calls.specs.Plans.{changed}
use Rattle.runner.proofs.Hearing.{look-told, said-size}
use Rattle.runner.proofs.Moved.{shows-as}
use Rattle.runner.proofs.Causes.{going-caused, beside-later, store-caused}
use Rattle.runner.proofs.runner.Runner.own_look.Goals as goal

pub returns-in-Found-clause-told : goal.returns-in-Found-clause-told
returns-in-Found-clause-told g c = look-told _ c.args.name.now (Found c.in-Found.size) c.in-Found.ensures.told

pub returns-in-Absent-clause-told : goal.returns-in-Absent-clause-told
returns-in-Absent-clause-told g c = look-told _ c.args.name.now Absent c.in-Absent.ensures.told

pub returns-in-Failed-clause-told : goal.returns-in-Failed-clause-told
returns-in-Failed-clause-told g c = look-told _ c.args.name.now Failed c.in-Failed.ensures.told

pub returns-in-Found-clause-log : goal.returns-in-Found-clause-log
returns-in-Found-clause-log g c = look-StoreLog _ _ (Found c.in-Found.size) c.in-Found.ensures.keeps c.in-Found.ensures.failed c.in-Found.ensures.number

pub returns-in-Absent-clause-log : goal.returns-in-Absent-clause-log
returns-in-Absent-clause-log g c = look-StoreLog _ _ Absent c.in-Absent.ensures.keeps c.in-Absent.ensures.failed c.in-Absent.ensures.number

pub returns-in-Failed-clause-log : goal.returns-in-Failed-clause-log
returns-in-Failed-clause-log g c = look-StoreLog _ _ Failed c.in-Failed.ensures.keeps c.in-Failed.ensures.failed c.in-Failed.ensures.number

pub returns-in-Found-clause-shows : goal.returns-in-Found-clause-shows
returns-in-Found-clause-shows g c w r h said =
    let size : size_in w.files c.args.name.now ≡ Some c.in-Found.size = said-size w.files c.args.name.now (Some c.in-Found.size) said in
    let before : (changed r.own.files c.found-after.result.0, c.found-after.result.1) ≡ opened c.args.self.now.own_files c.args.name.now (Some c.in-Found.size) =
    (λ i. (changed (sym h.own.files_are i) c.found-after.result.0, c.found-after.result.1)) ∙ sym c.found-after.ensures.plan in
    let is : (changed r.own.files c.found-after.result.0, c.found-after.result.1) ≡ opened r.own.files c.args.name.now (size_in w.files c.args.name.now) =
    before ∙ (λ i. opened (h.own.files_are i) c.args.name.now (sym size i)) in
    shows-as _ w _ (own_call_step w Usual r (Set (changed r.own.files c.found-after.result.0) c.found-after.result.1))
    (ap (λ (p : Descriptors × ℤ). own_call_step w Usual r (Set p.0 p.1)) (sym is)) (c.own_set.ensures.shows w r Usual h)

pub returns-in-Absent-clause-shows : goal.returns-in-Absent-clause-shows
returns-in-Absent-clause-shows g c w r h said =
    let none : size_in w.files c.args.name.now ≡ None = said-size w.files c.args.name.now None said in
    let plain : Descriptors × ℤ = opened r.own.files c.args.name.now None in
    shows-as _ w _ (own_call_step w Usual r (Set plain.0 plain.1))
    (ap (λ (o : Option ℕ). own_call_step w Usual r (Set (opened r.own.files c.args.name.now o).0 (opened r.own.files c.args.name.now o).1)) none) (c.own_set-in-Absent.ensures.shows w r Usual h)

pub returns-in-Found-clause-caused : goal.returns-in-Found-clause-caused
returns-in-Found-clause-caused g c out err = going-caused _ _ _ (c.own_set.ensures.end ∙ c.requires.on) (beside-later _ _ out err c.in-Found.ensures.keeps.later)

pub returns-in-Absent-clause-caused : goal.returns-in-Absent-clause-caused
returns-in-Absent-clause-caused g c out err = going-caused _ _ _ (c.own_set-in-Absent.ensures.end ∙ c.requires.on) (beside-later _ _ out err c.in-Absent.ensures.keeps.later)

pub returns-in-Failed-clause-caused : goal.returns-in-Failed-clause-caused
returns-in-Failed-clause-caused g c out err = store-caused _ _ _ out err c.stop.ensures.end c.in-Failed.ensures.keeps.later (c.in-Failed.ensures.failed refl)
