use Rattle.std.proofs.Common.{◌≡◌, ℕ, ◌≤◌, ◌<◌, ◌*◌, false, nat_lt, List, length, take, drop, slice_get, Option, inl, inr, sym, ap, subst, ◌∙◌, arith}
use Rattle.std.specs.Prelude.{is_some}
use Rattle.std.specs.Vec.{with_items}
use Rattle.std.proofs.lemmas.List.{with_items_is}
use Rattle.std.proofs.lemmas.Bool.Decides.{nat_tests}
use Rattle.spec_base.specs.declared.spot.BlockSpot.{BlockSpot}
use Rattle.program_model.specs.Cache.{Gathered, gather, blocks_of}
use Rattle.own_laws.proofs.Demand.{few_blocks}
use Rattle.machine_laws.specs.OneMachine.{space_of_run}
use Rattle.cache_queue.specs.State.{lists}
use Rattle.runner_parts.specs.Gathers.{gathered}
use Rattle.runner_parts.specs.OwnCalls.{gathered_on}
use Rattle.runner_parts.specs.Parts.{demand_if}
use Rattle.runner_parts.specs.Staged.{joined}
use Rattle.runner_parts.proofs.Blocks.{some-behind}
use Rattle.runner_parts.proofs.ReadFronts.{HasFront, has-front, silent-text}
use Rattle.runner.proofs.runner.Runner.gather.Goals as goal

pub returns-clause-waits : goal.returns-clause-waits
returns-clause-waits c w r d a h plan =
    let blocks : List BlockSpot = blocks_of c.args.spot.now in
    let front : HasFront w c.args.spot.now r.gathered c.args.self.now.staging.items = has-front w r d c.args.spot.now a r.cache c.args.self.now.staging.items plan h.cache.gathers in
    let low : c.args.self.now.gathered ≤ length blocks = omega (arith, h.own.gathered_is, front.some) in
    let on : gathered (lists c.need_rest-had.new.cache) c.need_rest-had.result (length blocks) ≡ gathered_on r c.args.spot.now =
    c.need_rest-had.ensures.lists low ∙ (λ i. gather (h.cache.lists_are i) (h.own.gathered_is i) (drop (h.own.gathered_is i) blocks)) in
    sym (ap (λ (g : Gathered). g.waits) on) ∙ sym (ap (λ (o : Option BlockSpot). is_some o) c.block_behind-block.ensures ∙ some-behind c.args.spot.now c.need_rest-had.result)

pub returns-clause-all : goal.returns-clause-all
returns-clause-all c none =
    let blocks : List BlockSpot = blocks_of c.args.spot.now in
    let test : nat_lt c.need_rest-had.result (length blocks) ≡ false =
    sym (some-behind c.args.spot.now c.need_rest-had.result) ∙ ap (λ (o : Option BlockSpot). is_some o) (sym c.block_behind-block.ensures ∙ none) in
    let low : c.need_rest-had.result ≤ length blocks = c.need_rest-had.ensures.within in
    grind (arith, nat_tests)

pub returns-clause-shows : goal.returns-clause-shows
unfolding space_of_run
returns-clause-shows c w r d a h plan =
    let blocks : List BlockSpot = blocks_of c.args.spot.now in
    let n : ℕ = c.need_rest-had.result in
    let front : HasFront w c.args.spot.now r.gathered c.args.self.now.staging.items = has-front w r d c.args.spot.now a r.cache c.args.self.now.staging.items plan h.cache.gathers in
    let low : c.args.self.now.gathered ≤ length blocks = omega (arith, h.own.gathered_is, front.some) in
    let on : gathered (lists c.need_rest-had.new.cache) n (length blocks) ≡ gathered_on r c.args.spot.now =
    c.need_rest-had.ensures.lists low ∙ (λ i. gather (h.cache.lists_are i) (h.own.gathered_is i) (drop (h.own.gathered_is i) blocks)) in
    let had : n ≡ (gathered_on r c.args.spot.now).had = ap (λ (g : Gathered). g.had) on in
    let before : take (4096 * c.args.self.now.gathered) c.deref_mut.result.now ≡ joined w.files (take c.args.self.now.gathered blocks) =
    ap (λ (k : List ℕ). take (4096 * c.args.self.now.gathered) k) c.deref_mut.ensures.value ∙ ap (λ (k : ℕ). take (4096 * k) c.args.self.now.staging.items) h.own.gathered_is ∙ front.staged_are ∙ ap (λ (k : ℕ). joined w.files (take k blocks)) (sym h.own.gathered_is) in
    let is : (with_items c.args.self.now.staging c.need_rest-had.new.into).items ≡ c.need_rest-had.new.into =
    with_items_is c.args.self.now.staging c.need_rest-had.new.into (omega (arith, c.need_rest-had.auto.into, c.deref_mut.ensures.len)) in
    let waits : nat_lt n (length blocks) ≡ is_some c.block_behind-block.result =
    sym (ap (λ (o : Option BlockSpot). is_some o) c.block_behind-block.ensures ∙ some-behind c.args.spot.now n) in
    record {
      space = h.space;
      own = record {
        hart = h.own.hart;
        side = h.own.side;
        files_are = h.own.files_are;
        asked_is = h.own.asked_is;
        stalled_is = c.is_some-self.ensures;
        gathered_is = had;
      };
      shadow = h.shadow;
      sizes = h.sizes;
      cache = record {
        lists_are = ap (λ (g : Gathered). g.cache) on;
        most = c.need_rest-had.ensures.most ∙ h.cache.most;
        depth = c.need_rest-had.ensures.depth ∙ h.cache.depth;
        contents = c.need_rest-had.ensures.contents w.files h.cache.contents;
        gathers = inr (inl (record {
          in_stub = plan.in_stub;
          at_call = plan.at_call;
          descriptor = d;
          spot = c.args.spot.now;
          address = a;
          planned = plan.planned;
          some = subst (λ (k : ℕ). k ≤ length blocks) had c.need_rest-had.ensures.within;
          more = λ e. subst (λ (k : ℕ). k < length blocks) had (grind (arith, nat_tests, waits ∙ e));
          few = few_blocks c.args.spot.now c.requires.count;
          staged_are = ap (λ (k : List ℕ). take (4096 * (gathered_on r c.args.spot.now).had) k) is ∙ subst (λ (k : ℕ). take (4096 * k) c.need_rest-had.new.into ≡ joined w.files (take k blocks)) had (c.need_rest-had.ensures.staged w.files low h.cache.contents before);
          demanded = sym (ap (λ (g : Gathered). g.cache.demanded) on) ∙ c.need_rest-had.ensures.demanded ∙ (λ i. demand_if (waits i) (slice_get blocks (had i)));
        }));
      };
      counts = h.counts;
      ahead = h.ahead;
      whole = h.whole;
      end = h.end;
      notes = h.notes;
      text = silent-text c.args.self.now.text (with_items c.args.self.now.staging c.need_rest-had.new.into).items c.args.self.now.staging.items r.text c.requires.quiet h.text;
    }
