use Rattle.std.proofs.Common.{◌≡◌, ◌∙◌, refl, subst}
use Rattle.std.specs.Prelude.{IfOk, false}
use Rattle.program_driver.specs.Lines.{PutsLine}
use Rattle.program_driver.specs.declared.lines.LineFault.TheVariants.{Sink, NoMemory}
use Rattle.program_driver.proofs.Lining.{stops-one}
use Rattle.program_driver.proofs.lines.put_made.Goals as goal

pub returns-in_default : goal.returns-in_default
returns-in_default g c line made = stops-one NoMemory (g.K.Sink.state c.args.sink.now) (g.K.Sink.state c.args.sink.now) line refl

pub returns : goal.returns
returns g c line made =
    let same : c.deref.result.now ≡ line = c.deref.ensures.value ∙ subst (λ r. IfOk r (λ bytes. bytes.items ≡ line)) c.in-Ok.is made in
    stops-one Sink (g.K.Sink.state c.args.sink.now) (g.K.Sink.state c.put_line.new.sink) line
    (subst (λ l. PutsLine (g.K.Sink.state c.args.sink.now) l false (g.K.Sink.state c.put_line.new.sink)) same
    (subst (λ whole. PutsLine (g.K.Sink.state c.args.sink.now) c.deref.result.now whole (g.K.Sink.state c.put_line.new.sink)) c.if-put_line.false c.put_line.ensures))
