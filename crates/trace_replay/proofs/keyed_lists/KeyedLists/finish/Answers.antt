use Rattle.std.proofs.Common.{◌≡◌, sym, ◌∙◌, ap, is_some, None, Some}
use Rattle.small_spots.specs.SmallSpots.{spot_of}
use Rattle.trace_replay.specs.Lists.{BoundedCache, after_finish}
use Rattle.trace_replay.specs.Keyed.{named, lists_by, lists_with}
use Rattle.trace_replay.proofs.Entries.{keys-first}
use Rattle.trace_replay.proofs.Keyed.{put-is, known-put, first-named, first-known, rest-is, known-left, none-left}
use Rattle.trace_replay.proofs.Tables.{lists-finished, IsFitted-finished, IsFitted-popped, first-is}
use Rattle.trace_replay.proofs.keyed_lists.KeyedLists.finish.Goals as goal

-- ---- a block is queued

pub returns-in_err-put-in-Some-clause-keyed : goal.returns-in_err-put-in-Some-clause-keyed
returns-in_err-put-in-Some-clause-keyed c = λ names k.
    let l = c.args.self.now in
    let key = c.in-Some.key in
    let is = sym c.in-Some.ensures.value in
    let first = first-named names l.queue.entries (Some (key, tt)) is in
    let left = rest-is names l.queue c.pop_mru.new.self c.in-Some.ensures.entries in
    record {
      fit = IsFitted-popped (named names l.cached) (named names l.queue) (spot_of names key) k.fit (named names c.pop_mru.new.self) tt first left (named names c.put.new.self) (ap (named names) c.in_err-put-in-Some.ensures.err);
      apart = k.apart;
      cached = rw c.in_err-put-in-Some.ensures.err k.cached;
      queue = known-left names l.queue c.pop_mru.new.self k.queue c.in-Some.ensures.entries;
    }

pub returns-in_ok-put-in-Some-clause-any : goal.returns-in_ok-put-in-Some-clause-any
returns-in_ok-put-in-Some-clause-any c = λ names k.
    let l = c.args.self.now in
    let key = c.in-Some.key in
    let first = first-named names l.queue.entries (Some (key, tt)) (sym c.in-Some.ensures.value) in
    let left = rest-is names l.queue c.pop_mru.new.self c.in-Some.ensures.entries in
    sym (ap is_some (first-is (named names l.cached) (named names l.queue) (spot_of names key) k.fit (named names c.pop_mru.new.self) tt first left))

pub returns-in_ok-put-in-Some-clause-lists : goal.returns-in_ok-put-in-Some-clause-lists
returns-in_ok-put-in-Some-clause-lists c = λ names k.
    let l = c.args.self.now in
    let key = c.in-Some.key in
    let is = sym c.in-Some.ensures.value in
    let known = first-known names l.queue.entries key tt k.queue is in
    let first = first-named names l.queue.entries (Some (key, tt)) is in
    let left = rest-is names l.queue c.pop_mru.new.self c.in-Some.ensures.entries in
    let new = put-is names k.apart key known l.cached c.put.new.self tt k.cached c.in_ok-put-in-Some.ensures.entries in
    lists-finished (named names l.cached) (named names l.queue) (spot_of names key) k.fit (named names c.pop_mru.new.self) tt first left (named names c.put.new.self) tt new

pub returns-in_ok-put-in-Some-clause-keyed : goal.returns-in_ok-put-in-Some-clause-keyed
returns-in_ok-put-in-Some-clause-keyed c = λ names k.
    let l = c.args.self.now in
    let key = c.in-Some.key in
    let is = sym c.in-Some.ensures.value in
    let known = first-known names l.queue.entries key tt k.queue is in
    let first = first-named names l.queue.entries (Some (key, tt)) is in
    let left = rest-is names l.queue c.pop_mru.new.self c.in-Some.ensures.entries in
    let new = put-is names k.apart key known l.cached c.put.new.self tt k.cached c.in_ok-put-in-Some.ensures.entries in
    record {
      fit = IsFitted-finished (named names l.cached) (named names l.queue) (spot_of names key) k.fit (named names c.pop_mru.new.self) tt first left (named names c.put.new.self) tt new;
      apart = k.apart;
      cached = known-put names k.apart key known l.cached c.put.new.self tt k.cached c.in_ok-put-in-Some.ensures.entries;
      queue = known-left names l.queue c.pop_mru.new.self k.queue c.in-Some.ensures.entries;
    }

-- ---- none is

pub returns-in-None-clause-any : goal.returns-in-None-clause-any
returns-in-None-clause-any c = λ names k.
    let l = c.args.self.now in
    sym (ap is_some (keys-first (named names l.queue).entries None (first-named names l.queue.entries None (sym c.in-None.ensures.value))))

pub returns-in-None-clause-lists : goal.returns-in-None-clause-lists
returns-in-None-clause-lists c = λ names k.
    let l = c.args.self.now in
    let b : BoundedCache = lists_by names l in
    let none = keys-first (named names l.queue).entries None (first-named names l.queue.entries None (sym c.in-None.ensures.value)) in
    ap (λ q. lists_with (named names l.cached) (named names q)) (none-left l.queue c.pop_mru.new.self (sym c.in-None.ensures.value) c.in-None.ensures.entries)
    ∙ ap (λ o. record b { cache = after_finish o b.blocks b.cache }) (sym none)

pub returns-in-None-clause-keyed : goal.returns-in-None-clause-keyed
returns-in-None-clause-keyed c = λ names k. rw (none-left c.args.self.now.queue c.pop_mru.new.self (sym c.in-None.ensures.value) c.in-None.ensures.entries) k
