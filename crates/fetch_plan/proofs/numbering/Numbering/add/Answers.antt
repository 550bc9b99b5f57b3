use Rattle.std.proofs.Common.{sym, subst, arith}
use Rattle.std.specs.List.{AllByRecursion}
use Rattle.small_spots.specs.SmallSpots.{IsKnown}
use Rattle.small_spots.proofs.Numbers.{known-stay}
use Rattle.fetch_plan.specs.Numbering.{Has}
use Rattle.fetch_plan.specs.Fields.{noted_of}
use Rattle.fetch_plan.specs.declared.numbering.Numbering.TheInside.{Inside}
use Rattle.fetch_plan.proofs.Noting.{Has-full, Has-noted}
use Rattle.fetch_plan.proofs.KeyedNoting.{known-noted, noted_by_key}
use Rattle.fetch_plan.proofs.numbering.Numbering.add.Goals as goal

-- ---- there are too many

pub invariant_of-self : goal.invariant_of-self
invariant_of-self c = record { few = c.self.invariant.few; known = c.self.invariant.known }

pub returns-then-len-ge-MOST : goal.returns-then-len-ge-MOST
returns-then-len-ge-MOST c = λ spots has.
    Has-full (noted_of c.self.inside) spots c.args.spot c.if-self.false (omega (arith, c.len.ensures, c.if-len-ge-MOST.true))
    (subst (λ n. Has n spots) (sym c.self.view_is) has)

-- ---- an allocation was refused

pub invariant_of-self-in_err-key : goal.invariant_of-self-in_err-key
invariant_of-self-in_err-key c = record {
  few = c.self.invariant.few;
  known = known-stay c.self.inside.names c.key.new.self c.key.ensures.stays c.self.inside.seen.keys c.self.invariant.known;
}

pub invariant_of-self-in_default : goal.invariant_of-self-in_default
invariant_of-self-in_default c = record {
  few = c.self.invariant.few;
  known = subst (AllByRecursion (IsKnown c.key.new.self)) (sym c.in_default.ensures.err)
      (known-stay c.self.inside.names c.key.new.self c.key.ensures.stays c.self.inside.seen.keys c.self.invariant.known);
}

pub invariant_of-self-in_err-push : goal.invariant_of-self-in_err-push
invariant_of-self-in_err-push c = record {
  few = omega (arith, c.in_err-push.ensures.len, c.self.invariant.few);
  known = known-noted c.self.inside.names c.key.new.self c.key.ensures.stays c.key.ensures.apart c.in_ok-key.key c.in_ok-key.ensures.known c.self.inside.seen.keys c.insert_full.new.self.keys c.self.invariant.known c.in-Ok.ensures.keys;
}

-- ---- the need is noted

pub invariant_of-self-2 : goal.invariant_of-self-2
invariant_of-self-2 c = record {
  few = omega (arith, c.len.ensures, c.if-len-ge-MOST.false, c.in_ok-push.ensures.len);
  known = known-noted c.self.inside.names c.key.new.self c.key.ensures.stays c.key.ensures.apart c.in_ok-key.key c.in_ok-key.ensures.known c.self.inside.seen.keys c.insert_full.new.self.keys c.self.invariant.known c.in-Ok.ensures.keys;
}

pub returns : goal.returns
returns c = λ spots has.
    let new : Inside = record { names = c.key.new.self; seen = c.insert_full.new.self; numbers = c.push.new.self; full = c.self.inside.full } in
    let is = noted_by_key c.self.inside.names c.key.new.self c.key.ensures.stays c.key.ensures.apart c.in_ok-key.key c.in_ok-key.ensures.known c.self.inside.seen.keys c.insert_full.new.self.keys c.self.invariant.known c.in-Ok.ensures.keys
    c.args.spot c.in-Ok.number c.push.new.self.items c.self.inside.numbers.items c.in_ok-key.ensures.spot c.in-Ok.ensures.index c.in_ok-push.ensures.items in
    Has-noted (noted_of c.self.inside) spots c.args.spot (noted_of new)
    c.if-self.false
    (omega (arith, c.len.ensures, c.if-len-ge-MOST.false))
    c.if-self.false
    is
    (subst (λ n. Has n spots) (sym c.self.view_is) has)
