use Rattle.std.proofs.Common.{◌≡◌, ℕ, ◌+◌, ◌≤◌, List, true, false, length, not, Option, Some, None, MatchOption, sym, ap, ◌∙◌, arith}
use Rattle.std.specs.BTreeSet as sorted
use Rattle.std.specs.Ordering.{nat_cmp}
use Rattle.fetch_plan.specs.declared.held.Held.{Held}
use Rattle.fetch_plan.specs.Plans.{has, all_differ, leaving, after}
use Rattle.fetch_plan.specs.Kept.{GoesFirst, except}
use Rattle.fetch_plan.specs.Coming.{at_place}
use Rattle.fetch_plan.specs.Tables.{Keeps}
use Rattle.fetch_plan.proofs.Meeting.{someone, leaving-full, length-full, kept-full}
use Rattle.fetch_plan.proofs.occupied.Occupied.make_room.Goals as goal

pub returns-clause-ready : goal.returns-clause-ready
returns-clause-ready c = λ block needs held holds.
    let blocks = c.args.self.now.blocks in
    let place = c.args.place + 1 in
    let absent : has held block ≡ false = sym (c.take_needed.ensures.told block needs (has held) holds.kept) ∙ c.if-take_needed.false in
    let full : blocks ≤ length held = omega (arith, holds.count, c.if-self.false) in
    let kept = c.take_needed.ensures.taken block needs (has held) holds.kept in
    let first = c.take_first.ensures place needs (except (has held) block) kept in
    let went = go blocks block needs held absent full holds.some holds.differ c.take_first.new.self place c.take_first.result first in
    record {
      leaves = went.0;
      fetched = sym (ap not absent);
      kept = went.2;
      count = holds.count ∙ sym went.1;
    }
  where
    go : (blocks block : ℕ) (needs held : List ℕ) → has held block ≡ false → blocks ≤ length held → 1 ≤ blocks → all_differ held ≡ true → (h : Held) (place : ℕ) (o : Option ℕ) → MatchOption o ((b : ℕ) → except (has held) block b ≡ false) (λ f. GoesFirst needs (except (has held) block) f × Keeps h place needs (except (except (has held) block) f)) → (o ≡ leaving blocks held block needs) × (length (after held block (leaving blocks held block needs)) ≡ length held) × Keeps h place needs (except (has (after held block (leaving blocks held block needs))) block)
    go blocks block needs held absent full some differ h place None none = absurd (someone blocks block needs held absent full some none)
    go blocks block needs held absent full some differ h place (Some f) first = (
      sym (leaving-full blocks block needs held absent full f first.0),
      length-full blocks block needs held absent full f first.0 differ,
      record {
        kept = kept-full blocks block needs held absent full f first.0 (at_place h.coming.items) (sorted.contains nat_cmp h.never) place first.1.kept;
        lists = first.1.lists;
        whole = first.1.whole;
      },
    )
