use Rattle.std.proofs.Common.{◌≡◌, ℕ, [], ◌∷◌, Option, Some, None, sym, subst}
use Rattle.program_model.specs.Calls.{opened}
use Rattle.program_model.specs.PlainRun.{size_in}
use Rattle.run_model.specs.Run.{Usual, Failed}
use Rattle.mark_laws.specs.Sizes.{TrueSizes}
use Rattle.world_io.specs.declared.store.Look.TheVariants as look
use Rattle.runner_parts.specs.Heard.{Sized}
use Rattle.runner.proofs.Arrivals.{assumed-as}
use Rattle.runner.proofs.Hearing.{store-looked, look-told, said-size}
use Rattle.runner.proofs.runner.Runner.assume_look.Goals as goal

pub returns-in-Found-clause-looks : goal.returns-in-Found-clause-looks
returns-in-Found-clause-looks g c unhinted =
    record {
      files = c.in-Found.ensures.keeps.files;
      answer = Usual;
      said = Sized c.args.name.now (Some c.in-Found.size) ∷ [];
      told = look-told _ c.args.name.now (look.Found c.in-Found.size) c.in-Found.ensures.told;
      hears = store-looked c.args.name.now (look.Found c.in-Found.size) _ _ c.in-Found.ensures.keeps c.in-Found.ensures.failed c.in-Found.ensures.number;
      shows = λ w r h all sizes ok said.
          let is : size_in w.files c.args.name.now ≡ Some c.in-Found.size = said-size w.files c.args.name.now (Some c.in-Found.size) said in
          assumed-as _ w r (opened r.shadow.files c.args.name.now (Some c.in-Found.size)) (opened r.shadow.files c.args.name.now (size_in w.files c.args.name.now)) (λ i. opened r.shadow.files c.args.name.now (sym is i))
          (c.assume_found.ensures.shows w r h (subst (λ (o : Option ℕ). TrueSizes w.files (opened r.shadow.files c.args.name.now o).0) is sizes));
    }

pub returns-in-Absent-clause-looks : goal.returns-in-Absent-clause-looks
returns-in-Absent-clause-looks g c unhinted =
    record {
      files = c.in-Absent.ensures.keeps.files;
      answer = Usual;
      said = Sized c.args.name.now None ∷ [];
      told = look-told _ c.args.name.now look.Absent c.in-Absent.ensures.told;
      hears = store-looked c.args.name.now look.Absent _ _ c.in-Absent.ensures.keeps c.in-Absent.ensures.failed c.in-Absent.ensures.number;
      shows = λ w r h all sizes ok said.
          let is : size_in w.files c.args.name.now ≡ None = said-size w.files c.args.name.now None said in
          assumed-as _ w r (opened r.shadow.files c.args.name.now None) (opened r.shadow.files c.args.name.now (size_in w.files c.args.name.now)) (λ i. opened r.shadow.files c.args.name.now (sym is i))
          (c.assume_answer.ensures.shows w r h);
    }

pub returns-in-Failed-clause-looks : goal.returns-in-Failed-clause-looks
returns-in-Failed-clause-looks g c unhinted =
    record {
      files = c.in-Failed.ensures.keeps.files;
      answer = Failed;
      said = [];
      told = look-told _ c.args.name.now look.Failed c.in-Failed.ensures.told;
      hears = store-looked c.args.name.now look.Failed _ _ c.in-Failed.ensures.keeps c.in-Failed.ensures.failed c.in-Failed.ensures.number;
      shows = λ w r h all sizes ok said. c.park.ensures.shows w r h;
    }

pub returns-in-Found-clause-later : goal.returns-in-Found-clause-later
returns-in-Found-clause-later g c = c.in-Found.ensures.keeps.later

pub returns-in-Absent-clause-later : goal.returns-in-Absent-clause-later
returns-in-Absent-clause-later g c = c.in-Absent.ensures.keeps.later

pub returns-in-Failed-clause-later : goal.returns-in-Failed-clause-later
returns-in-Failed-clause-later g c = c.in-Failed.ensures.keeps.later
