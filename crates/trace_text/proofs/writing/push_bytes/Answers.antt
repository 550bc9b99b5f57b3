use Rattle.std.proofs.lemmas.List.{append-nil}
use Rattle.trace_text.proofs.HexText.{hex_text-next, hex_text-ends}
use Rattle.trace_text.proofs.writing.push_bytes.Goals as goal

pub loop-byte-preserved : goal.loop-byte-preserved
loop-byte-preserved c =
    rw (c.in_ok-push-3.ensures.items, c.in_ok-push-2.ensures.items, c.hex_digit.ensures, c.hex_digit-in-loop-byte.ensures)
    (hex_text-next c.loop-byte.line.items c.args.bytes.now _ c.loop-byte.byte-index c.loop-byte-test.true c.loop-byte.invariant)

pub returns : goal.returns
returns c = rw append-nil (hex_text-ends _ _ _ _ c.loop-byte-test.false c.loop-byte.invariant)
