use Rattle.std.proofs.Common.{◌≡◌, ◌+◌, ◌-◌, ◌*◌, ◌/◌, ◌%◌, ◌^◌, ◌<◌, false, length, drop, slice_set, sym, ◌∙◌, subst, arith}
use Rattle.std.specs.Fmt.{digits, digit_glyph}
use Rattle.std.proofs.lemmas.List.{length-set}
use Rattle.command_status.proofs.Digits.{Writes, first-Writes, next-Writes, last-Writes}
use Rattle.command_status.proofs.status.write_hexadecimal.Goals.{then-loop-rest-test+else-at-gt0, else-loop-rest-test}
use Rattle.command_status.proofs.status.write_hexadecimal.Goals as goal

pub loop-rest-preserved : goal.loop-rest-preserved
loop-rest-preserved c =
    let place : c.loop-rest.at - 1 + 1 ≡ c.loop-rest.at = omega (arith, c.if-at-gt0.true) in
    let within : c.loop-rest.at < length c.loop-rest.buffer = omega (arith, c.loop-rest.invariant.low, c.loop-rest.invariant.size) in
    let before : Writes c.args.number c.loop-rest.rest (c.loop-rest.at - 1 + 1) c.loop-rest.buffer = subst (λ n. Writes c.args.number c.loop-rest.rest n c.loop-rest.buffer) (sym place) c.loop-rest.invariant.writes in
    let next = next-Writes c.args.number c.loop-rest.rest (c.loop-rest.at - 1) c.loop-rest.buffer before c.loop-rest-test.true (subst (λ n. n < length c.loop-rest.buffer) (sym place) within) in
    record {
      writes = subst (λ d. Writes c.args.number (c.loop-rest.rest / 16) (c.loop-rest.at - 1) (slice_set c.loop-rest.buffer c.loop-rest.at d)) (sym c.digit.ensures)
          (subst (λ n. Writes c.args.number (c.loop-rest.rest / 16) (c.loop-rest.at - 1) (slice_set c.loop-rest.buffer n (digit_glyph false (c.loop-rest.rest % 16)))) place next);
      low = omega (arith, c.loop-rest.invariant.low);
      size = length-set c.loop-rest.buffer c.loop-rest.at c.digit.result ∙ c.loop-rest.invariant.size;
    }

pub returns-clause-digits : goal.returns-clause-digits
returns-clause-digits c =
    let within : c.loop-rest.at < length c.loop-rest.buffer = omega (arith, c.loop-rest.invariant.low, c.loop-rest.invariant.size) in
    let few : c.loop-rest.rest < 16 =
    elim c.loop-rest-test.branch [
      | then-loop-rest-test+else-at-gt0 w ↦
          (let first : c.loop-rest.at ≡ 0 = omega (arith, w.if-at-gt0) in
          let fits : c.loop-rest.rest < 16 * 16 ^ 0 = subst (λ n. c.loop-rest.rest < 16 * 16 ^ n) first c.loop-rest.invariant.writes.fits in
          fits)
      | else-loop-rest-test w ↦ omega (arith, w.loop-rest-test)
    ] in
    subst (λ d. drop c.loop-rest.at (slice_set c.loop-rest.buffer c.loop-rest.at d) ≡ digits 16 false c.args.number) (sym c.digit-2.ensures)
    (last-Writes c.args.number c.loop-rest.rest c.loop-rest.at c.loop-rest.buffer c.loop-rest.invariant.writes few within)

pub loop-rest-init : goal.loop-rest-init
loop-rest-init c =
    let last : length c.args.buffer.now - 1 ≡ 15 = omega (arith, c.requires) in
    record {
      writes = subst (λ at. Writes c.args.number c.args.number at c.args.buffer.now) (sym last) (first-Writes c.args.number c.args.buffer.now c.ranges.number.fits c.requires);
      low = omega (arith, last);
      size = c.requires;
    }
