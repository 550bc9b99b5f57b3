use Rattle.std.proofs.Common.{List, ℕ, Ok, subst}
use Rattle.std.specs.Prelude.{All}
use Rattle.run_laws.specs.OwnLaws.{AllBytes}
use Rattle.plain_runner.specs.Runs.{Outside}
use Rattle.run_commands.specs.Opens.{OpensTo}
use Rattle.run_commands.specs.Run.{RunGoes}
use Rattle.run_commands.proofs.Running.{driven-Ran, ran-ImageTo}
use Rattle.run_commands.proofs.run.run.Goals as goal

pub returns : goal.returns
returns g c =
    let r = c.args.request.now in
    let runner = c.in-Ok-open_image.runner in
    let old : Outside = record { store = g.D.Store.state c.args.store.now; out = g.O.Sink.state c.args.out.now; err = g.E.Sink.state c.args.err.now } in
    let new : Outside = record {
      store = g.D.Store.state c.run-ending.new.store;
      out = g.O.Sink.state c.run-ending.new.out;
      err = g.E.Sink.state c.run-ending.new.err;
    } in
    let opens = subst (λ (items : List ℕ). OpensTo r items (Ok runner)) c.deref.ensures.value c.in-Ok-open_image.ensures in
    let file = subst AllBytes c.deref-2.ensures.value c.are_bytes.ensures.file in
    let words = subst (λ (words : List (List ℕ)). All AllBytes words) c.as_slice.ensures c.are_bytes.ensures.words in
    ran-ImageTo (RunGoes r) r c.status_of.result old new
    (driven-Ran (RunGoes r) r c.in-Ok.bytes.items c.status_of.result c.run-ending.result runner c.run-ending.new.runner (g.D.Store.state c.read_file.new.store) old new
    c.requires file words c.in-Ok.ensures.read opens c.status_of.ensures c.run-ending.ensures.drives c.run-ending.ensures.later
    (c.run-ending.ensures.cause opens.2.goes_on))
