use Rattle.std.proofs.Common.{◌≡◌, sym, ◌∙◌, ap}
use Rattle.program_model.specs.Cache.{hint_if}
use Rattle.small_spots.specs.SmallSpots.{spot_of}
use Rattle.trace_replay.specs.Lists.{BoundedCache}
use Rattle.trace_replay.specs.Keyed.{named, lists_by}
use Rattle.trace_replay.proofs.Keyed.{put-is, demoted-is, known-put, known-demoted}
use Rattle.trace_replay.proofs.Named.{idle-named}
use Rattle.trace_replay.proofs.Tables.{lists-hinted, IsFitted-hinted}
use Rattle.trace_replay.proofs.keyed_lists.KeyedLists.hint.Goals as goal

pub returns-then-is_idle-clause-lists : goal.returns-then-is_idle-clause-lists
returns-then-is_idle-clause-lists c = λ names k known.
    let b : BoundedCache = lists_by names c.args.self.now in
    ap (λ h. record b { cache = hint_if h b.cache (spot_of names c.args.key) }) (sym c.if-is_idle.true ∙ c.is_idle.ensures ∙ idle-named names c.args.self.now c.args.key k known)

pub returns-in_err-put-clause-keyed : goal.returns-in_err-put-clause-keyed
returns-in_err-put-clause-keyed c = λ names k known. rw c.in_err-put.ensures.err k

pub returns-clause-lists : goal.returns-clause-lists
returns-clause-lists c = λ names k known.
    let l = c.args.self.now in
    let key = c.args.key in
    let new = put-is names k.apart key known l.queue c.put.new.self tt k.queue c.in_ok-put.ensures.entries in
    let known_new = known-put names k.apart key known l.queue c.put.new.self tt k.queue c.in_ok-put.ensures.entries in
    let last = demoted-is names k.apart key known c.put.new.self c.demote.new.self known_new c.demote.ensures.entries in
    lists-hinted (named names l.cached) (named names l.queue) (spot_of names key) k.fit c.is_idle.result (c.is_idle.ensures ∙ idle-named names c.args.self.now c.args.key k known) c.if-is_idle.false (named names c.put.new.self) (named names c.demote.new.self) tt new last

pub returns-clause-keyed : goal.returns-clause-keyed
returns-clause-keyed c = λ names k known.
    let l = c.args.self.now in
    let key = c.args.key in
    let new = put-is names k.apart key known l.queue c.put.new.self tt k.queue c.in_ok-put.ensures.entries in
    let known_new = known-put names k.apart key known l.queue c.put.new.self tt k.queue c.in_ok-put.ensures.entries in
    let last = demoted-is names k.apart key known c.put.new.self c.demote.new.self known_new c.demote.ensures.entries in
    record {
      fit = IsFitted-hinted (named names l.cached) (named names l.queue) (spot_of names key) k.fit c.is_idle.result (c.is_idle.ensures ∙ idle-named names c.args.self.now c.args.key k known) c.if-is_idle.false (named names c.put.new.self) (named names c.demote.new.self) tt new last;
      apart = k.apart;
      cached = k.cached;
      queue = known-demoted names k.apart key known c.put.new.self c.demote.new.self known_new c.demote.ensures.entries;
    }
