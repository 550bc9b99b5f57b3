use Rattle.std.proofs.Common.{◌≡◌, ℕ, ◌+◌, ◌-◌, Some, ap, sym, ◌∙◌, arith}
use Rattle.use_marks.specs.Passing.{name_bytes}
use Rattle.use_marks.proofs.Names.{name_bytes-none, name_bytes-last, name_bytes-next, name_bytes-over}
use Rattle.use_marks.proofs.access.name_length.Goals as goal

pub loop-distance-init : goal.loop-distance-init
loop-distance-init g c =
    let e = ap (λ (a : ℕ). name_bytes (g.B.Bytes.byte_at c.args.mem.now) a 256) {x = c.args.address} {y = c.args.address + 0} (omega arith) in
    omega (arith, e)

pub returns-in-None : goal.returns-in-None
returns-in-None g c =
    let f = g.B.Bytes.byte_at c.args.mem.now in
    let d = c.loop-distance.distance in
    let p = name_bytes-none f (c.args.address + d) (256 - d) (sym c.byte_past.ensures ∙ c.in-None.is) in
    omega (arith, p, c.loop-distance.invariant)

pub returns-in-Some-eq0 : goal.returns-in-Some-eq0
returns-in-Some-eq0 g c =
    let f = g.B.Bytes.byte_at c.args.mem.now in
    let d = c.loop-distance.distance in
    let e : c.byte_past.result ≡ Some 0 = cc c.in-Some-eq0.is in
    let p = name_bytes-last f (c.args.address + d) (256 - d) (omega arith) (sym c.byte_past.ensures ∙ e) in
    omega (arith, p, c.loop-distance.invariant)

pub loop-distance-preserved : goal.loop-distance-preserved
loop-distance-preserved g c =
    let f = g.B.Bytes.byte_at c.args.mem.now in
    let d = c.loop-distance.distance in
    let p = name_bytes-next f c.args.address d c.in-Some.field-0 (omega arith) (sym c.byte_past.ensures ∙ c.in-Some.is) c.in-Some.field-0-test.1 in
    omega (arith, p, c.loop-distance.invariant)

pub returns : goal.returns
returns g c =
    let f = g.B.Bytes.byte_at c.args.mem.now in
    let d = c.loop-distance.distance in
    let p = name_bytes-over f (c.args.address + d) (256 - d) (omega arith) in
    omega (arith, p, c.loop-distance.invariant)
