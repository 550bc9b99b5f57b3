use Rattle.std.proofs.Common.{sym, ◌∙◌, ap, subst}
use Rattle.trace_replay.specs.Keyed.{named}
use Rattle.trace_replay.proofs.Keyed.{holds-named, promoted-is, removed-is, put-is, known-promoted, known-removed, known-put}
use Rattle.trace_replay.proofs.Tables.{lists-used, IsFitted-used, lists-fetched, IsFitted-fetched, IsFitted-landed}
use Rattle.small_spots.specs.SmallSpots.{spot_of}
use Rattle.trace_replay.proofs.keyed_lists.KeyedLists.need.Goals as goal

-- ---- the block is cached

pub returns-then-promote-clause-cached : goal.returns-then-promote-clause-cached
returns-then-promote-clause-cached c = λ names k known.
    let l = c.args.self.now in
    sym (sym (holds-named names k.apart c.args.key known l.cached.entries k.cached) ∙ sym c.promote.ensures.value ∙ c.if-promote.true)

pub returns-then-promote-clause-lists : goal.returns-then-promote-clause-lists
returns-then-promote-clause-lists c = λ names k known.
    let l = c.args.self.now in
    let here = sym (holds-named names k.apart c.args.key known l.cached.entries k.cached) ∙ sym c.promote.ensures.value ∙ c.if-promote.true in
    let new = promoted-is names k.apart c.args.key known l.cached c.promote.new.self k.cached c.promote.ensures.entries in
    lists-used (named names l.cached) (named names l.queue) (spot_of names c.args.key) k.fit (named names c.promote.new.self) new here

pub returns-then-promote-clause-keyed : goal.returns-then-promote-clause-keyed
returns-then-promote-clause-keyed c = λ names k known.
    let l = c.args.self.now in
    let here = sym (holds-named names k.apart c.args.key known l.cached.entries k.cached) ∙ sym c.promote.ensures.value ∙ c.if-promote.true in
    let new = promoted-is names k.apart c.args.key known l.cached c.promote.new.self k.cached c.promote.ensures.entries in
    record {
      fit = IsFitted-used (named names l.cached) (named names l.queue) (spot_of names c.args.key) k.fit (named names c.promote.new.self) new here;
      apart = k.apart;
      cached = known-promoted names k.apart c.args.key known l.cached c.promote.new.self k.cached c.promote.ensures.entries;
      queue = k.queue;
    }

-- ---- it isn't

pub returns-in_err-put-clause-keyed : goal.returns-in_err-put-clause-keyed
returns-in_err-put-clause-keyed c = λ names k known.
    let l = c.args.self.now in
    let key = c.args.key in
    let absent = sym (holds-named names k.apart key known l.cached.entries k.cached) ∙ sym c.promote.ensures.value ∙ c.if-promote.false in
    let mid = promoted-is names k.apart key known l.cached c.promote.new.self k.cached c.promote.ensures.entries in
    let left = removed-is names k.apart key known l.queue c.pop.new.self k.queue c.pop.ensures.entries in
    let known_mid = known-promoted names k.apart key known l.cached c.promote.new.self k.cached c.promote.ensures.entries in
    record {
      fit = IsFitted-landed (named names l.cached) (named names l.queue) (spot_of names key) k.fit (named names c.promote.new.self) (named names c.pop.new.self) mid left absent (named names c.put.new.self) (ap (named names) c.in_err-put.ensures.err);
      apart = k.apart;
      cached = rw c.in_err-put.ensures.err known_mid;
      queue = known-removed names k.apart key known l.queue c.pop.new.self k.queue c.pop.ensures.entries;
    }

pub returns-clause-cached : goal.returns-clause-cached
returns-clause-cached c = λ names k known.
    let l = c.args.self.now in
    sym (sym (holds-named names k.apart c.args.key known l.cached.entries k.cached) ∙ sym c.promote.ensures.value ∙ c.if-promote.false)

pub returns-clause-lists : goal.returns-clause-lists
returns-clause-lists c = λ names k known.
    let l = c.args.self.now in
    let key = c.args.key in
    let absent = sym (holds-named names k.apart key known l.cached.entries k.cached) ∙ sym c.promote.ensures.value ∙ c.if-promote.false in
    let mid = promoted-is names k.apart key known l.cached c.promote.new.self k.cached c.promote.ensures.entries in
    let left = removed-is names k.apart key known l.queue c.pop.new.self k.queue c.pop.ensures.entries in
    let known_mid = known-promoted names k.apart key known l.cached c.promote.new.self k.cached c.promote.ensures.entries in
    let new = put-is names k.apart key known c.promote.new.self c.put.new.self tt known_mid c.in_ok-put.ensures.entries in
    lists-fetched (named names l.cached) (named names l.queue) (spot_of names key) k.fit (named names c.promote.new.self) (named names c.pop.new.self) mid left absent (named names c.put.new.self) tt new

pub returns-clause-keyed : goal.returns-clause-keyed
returns-clause-keyed c = λ names k known.
    let l = c.args.self.now in
    let key = c.args.key in
    let absent = sym (holds-named names k.apart key known l.cached.entries k.cached) ∙ sym c.promote.ensures.value ∙ c.if-promote.false in
    let mid = promoted-is names k.apart key known l.cached c.promote.new.self k.cached c.promote.ensures.entries in
    let left = removed-is names k.apart key known l.queue c.pop.new.self k.queue c.pop.ensures.entries in
    let known_mid = known-promoted names k.apart key known l.cached c.promote.new.self k.cached c.promote.ensures.entries in
    let new = put-is names k.apart key known c.promote.new.self c.put.new.self tt known_mid c.in_ok-put.ensures.entries in
    record {
      fit = IsFitted-fetched (named names l.cached) (named names l.queue) (spot_of names key) k.fit (named names c.promote.new.self) (named names c.pop.new.self) mid left absent (named names c.put.new.self) tt new;
      apart = k.apart;
      cached = known-put names k.apart key known c.promote.new.self c.put.new.self tt known_mid c.in_ok-put.ensures.entries;
      queue = known-removed names k.apart key known l.queue c.pop.new.self k.queue c.pop.ensures.entries;
    }
