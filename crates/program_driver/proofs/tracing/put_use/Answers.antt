use Rattle.std.proofs.Common.{◌≡◌, [], ◌∷◌, refl, sym, subst}
use Rattle.trace_text.specs.Line.{use_line_of}
use Rattle.program_driver.specs.Lines.{ArePut, LinesTo}
use Rattle.program_driver.specs.Uses.{use_line_if}
use Rattle.program_driver.proofs.Causes.{counts-lines, no-lines-counted}
use Rattle.program_driver.proofs.tracing.put_use.Goals as goal

pub returns-then-not-used-clause-line : goal.returns-then-not-used-clause-line
returns-then-not-used-clause-line g c w r shows = subst (λ b. ArePut (g.O.Sink.state c.args.out.now) (use_line_if b r) (g.O.Sink.state c.args.out.now)) (sym c.if-not-used.true) refl

pub returns-then-not-used-clause-counts : goal.returns-then-not-used-clause-counts
returns-then-not-used-clause-counts g c = no-lines-counted (g.O.Sink.state c.args.out.now)

pub returns-clause-line : goal.returns-clause-line
returns-clause-line g c w r shows =
    let own = c.own_done-own.ensures w r shows in
    let shadow = c.shadow_done-shadow.ensures w r shows in
    let since = c.own_since.ensures w r shows in
    let same : use_line_of c.own_done-own.result c.shadow_done-shadow.result c.own_since.result ≡ use_line_of r.own_done r.since.shadow r.since.own = λ i. use_line_of (own i) (shadow i) (since i) in
    subst (λ b. LinesTo (use_line_if b r) c.put_made.result (g.O.Sink.state c.args.out.now) (g.O.Sink.state c.put_made.new.sink)) (sym c.if-not-used.false)
    (subst (λ l. LinesTo (l ∷ []) c.put_made.result (g.O.Sink.state c.args.out.now) (g.O.Sink.state c.put_made.new.sink)) same
    (c.put_made.ensures (use_line_of c.own_done-own.result c.shadow_done-shadow.result c.own_since.result) c.use_line.ensures))

pub returns-clause-counts : goal.returns-clause-counts
returns-clause-counts g c =
    counts-lines (use_line_of c.own_done-own.result c.shadow_done-shadow.result c.own_since.result ∷ []) c.put_made.result (g.O.Sink.state c.args.out.now) (g.O.Sink.state c.put_made.new.sink)
    (c.put_made.ensures (use_line_of c.own_done-own.result c.shadow_done-shadow.result c.own_since.result) c.use_line.ensures)
