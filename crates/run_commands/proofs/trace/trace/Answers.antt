use Rattle.std.proofs.Common.{List, ℕ, Ok, subst}
use Rattle.std.specs.Prelude.{All}
use Rattle.run_laws.specs.OwnLaws.{AllBytes}
use Rattle.plain_runner.specs.Runs.{Outside}
use Rattle.run_commands.specs.Opens.{OpensTo}
use Rattle.run_commands.specs.Run.{TraceGoes}
use Rattle.run_commands.proofs.Running.{driven-Ran, ran-ImageTo}
use Rattle.run_commands.proofs.trace.trace.Goals as goal

pub returns : goal.returns
returns g c err =
    let r = c.args.request.now in
    let runner = c.in-Ok-open_image.runner in
    let old : Outside = record { store = g.D.Store.state c.args.store.now; out = g.O.Sink.state c.args.out.now; err = err } in
    let new : Outside = record {
      store = g.D.Store.state c.trace-ending.new.store;
      out = g.O.Sink.state c.trace-ending.new.out;
      err = err;
    } in
    let opens = subst (λ (items : List ℕ). OpensTo r items (Ok runner)) c.deref.ensures.value c.in-Ok-open_image.ensures in
    let file = subst AllBytes c.deref-2.ensures.value c.are_bytes.ensures.file in
    let words = subst (λ (words : List (List ℕ)). All AllBytes words) c.as_slice.ensures c.are_bytes.ensures.words in
    ran-ImageTo (TraceGoes r) r c.status_of.result old new
    (driven-Ran (TraceGoes r) r c.in-Ok.bytes.items c.status_of.result c.trace-ending.result runner c.trace-ending.new.runner (g.D.Store.state c.read_file.new.store) old new
    c.requires file words c.in-Ok.ensures.read opens c.status_of.ensures (c.trace-ending.ensures.drives err) (c.trace-ending.ensures.later err)
    (c.trace-ending.ensures.cause opens.2.goes_on err))
