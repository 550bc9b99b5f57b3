use Rattle.std.proofs.Common.{◌<◌, ◌⊎◌, arith, inl, inr}
use Rattle.use_marks.specs.Ranges.{in_ranges}
use Rattle.use_marks.proofs.InRanges.{any_some, any_none, any_outside, any_from-zero}
use Rattle.use_marks.proofs.ranges.Ranges.contains_any.Goals as goal
use Rattle.use_marks.proofs.ranges.Ranges.contains_any.Goals.{then-end-self-via-then-end-self, then-end-self-via-else-end-self+then-self-address}

pub returns-then-count-eq0 : goal.returns-then-count-eq0
returns-then-count-eq0 c = any_from-zero (in_ranges c.args.self.now.last_by_first.entries) c.args.address c.args.count c.if-count-eq0.true

pub returns-then-end-self : goal.returns-then-end-self
returns-then-end-self c =
    any_outside c.args.self.now.last_by_first.entries c.args.self.now.least c.args.self.now.most c.args.self.now.bounded c.args.address c.args.count c.saturating_add-end.result
    (λ x h l. omega (arith, h, l, c.saturating_add-end.ensures)) out
  where
    out : (c.saturating_add-end.result < c.args.self.now.least) ⊎ (c.args.self.now.most < c.args.address)
    out = elim c.then-end-self.branch [ then-end-self-via-then-end-self w ↦ inl w.if-end-self.true | then-end-self-via-else-end-self+then-self-address w ↦ inr w.if-self-address.true ]

pub returns-in-Some : goal.returns-in-Some
returns-in-Some c = any_some c.args.self.now.last_by_first c.in-Some.ensures.ordered c.args.self.now.kept c.args.address c.args.count c.saturating_add-end.result (omega (arith, c.if-count-eq0.false)) (omega (arith, c.saturating_add-end.ensures)) (λ x h l. omega (arith, h, l, c.saturating_add-end.ensures)) c.in-Some.field-0-0 c.in-Some.last c.in-Some.ensures.some

pub returns-in-None : goal.returns-in-None
returns-in-None c = any_none c.args.self.now.last_by_first c.in-None.ensures.ordered c.args.self.now.kept c.args.address c.args.count c.saturating_add-end.result (omega (arith, c.if-count-eq0.false)) (omega (arith, c.saturating_add-end.ensures)) (λ x h l. omega (arith, h, l, c.saturating_add-end.ensures)) c.in-None.ensures.none
