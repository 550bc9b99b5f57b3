-- Lemmas on lists of a cache in which no block stands twice.
use Rattle.std.proofs.Common.{◌≡◌, ℕ, ◌-◌, Bool, true, false, ◌&&◌, ◌||◌, eqb, List, [], ◌∷◌, ◌++◌, take, Some, None, refl, sym, ◌∙◌, ap, subst, inl, inr}
use Rattle.std.specs.List.{list_any}
use Rattle.std.proofs.lemmas.List.{take-map}
use Rattle.std.proofs.lemmas.Bool.{or_cases, or_parts, or_from, or_right, false_from_ne_true}
use Rattle.spec_base.specs.declared.spot.BlockSpot.{BlockSpot}
use Rattle.std.specs.Str.{bytes_eq}
use Rattle.program_model.specs.Cache.{Cache, same_block, holds, without, is_demanded, is_idle_hint, used, awaited, kept}
use Rattle.cache_queue.specs.Orders.{AreApart, IsOrderly}
use Rattle.cache_queue.specs.State.{CacheState, lists, with_block}
use Rattle.cache_queue.proofs.Spots.{same_from_same_block, same_block-self, test_is, holds-at, holds-take, holds-append, without-other, without-self, AreApart-without, AreApart-append}

-- a scan by the blocks' own test says whether the list has the block
pub list_any-holds : (xs : List BlockSpot) (spot : BlockSpot) → list_any (λ x. bytes_eq spot.name x.name && eqb spot.block x.block) xs ≡ holds xs spot
list_any-holds [] spot = refl
list_any-holds (x ∷ xs) spot = λ i. test_is spot x i || list_any-holds xs spot i

still : (b c : Bool) → (b ≡ false → c ≡ false) → c ≡ true → b ≡ true
still true c h t = refl
still false c h t = cc (h refl)

clash : (b : Bool) → b ≡ true → b ≡ false → ⊥
clash b t f = cc

-- ---- a hint

pub IsOrderly-hinted : (c : Cache) (depth : ℕ) (spot : BlockSpot) → IsOrderly c → is_idle_hint depth c spot ≡ false → IsOrderly (record c { queue = c.queue ++ spot ∷ [] })
IsOrderly-hinted c depth spot o idle =
    let one = or_parts (holds c.cached spot) _ idle in
    let two = or_parts (holds c.queue spot) _ one.1 in
    let three = or_parts (is_demanded c.demanded spot) _ two.1 in
    record {
      queue = AreApart-append c.queue spot o.queue two.0;
      queued = λ s h. elim (or_cases (holds c.queue s) (same_block spot s) (sym (holds-append c.queue spot s) ∙ h)) [
        | inl before ↦ o.queued s before
        | inr same ↦ sym (holds-at c.cached spot s same) ∙ one.0
      ];
      demanded = o.demanded;
      apart = λ s h.
          holds-append c.queue spot s
          ∙ or_from (holds c.queue s) (same_block spot s) (o.apart s h)
          (false_from_ne_true (same_block spot s)
          (λ same. clash (is_demanded c.demanded spot) (subst (λ x. is_demanded c.demanded x ≡ true) (sym (same_from_same_block spot s same)) h) three.0));
    }

-- ---- a need

pub IsOrderly-awaited : (c : Cache) (spot : BlockSpot) → IsOrderly c → holds c.cached spot ≡ false → IsOrderly (awaited c spot)
IsOrderly-awaited c spot o absent =
    record {
      queue = AreApart-without c.queue spot o.queue;
      queued = λ s h. o.queued s (still (holds c.queue s) (holds (without c.queue spot) s) (without-other c.queue spot s) h);
      demanded = λ s h. sym (holds-at c.cached spot s h) ∙ absent;
      apart = λ s h. sym (holds-at (without c.queue spot) spot s h) ∙ without-self c.queue spot;
    }

front_misses : (xs : List BlockSpot) (spot s : BlockSpot) → holds xs spot ≡ true → holds xs s ≡ false → holds (spot ∷ without xs spot) s ≡ false
front_misses xs spot s found absent =
    or_from (same_block spot s) (holds (without xs spot) s)
    (false_from_ne_true (same_block spot s) (λ same. clash (holds xs s) (sym (holds-at xs spot s same) ∙ found) absent))
    (without-other xs spot s absent)

pub IsOrderly-used : (c : Cache) (spot : BlockSpot) → IsOrderly c → holds c.cached spot ≡ true → IsOrderly (used c spot)
IsOrderly-used c spot o found =
    record {
      queue = o.queue;
      queued = λ s h. front_misses c.cached spot s found (o.queued s h);
      demanded = λ s h. front_misses c.cached spot s found (o.demanded s h);
      apart = o.apart;
    }

-- ---- a finish

-- the block in flight is no longer in flight, and isn't cached
pub record IsLanded (c : Cache) (spot : BlockSpot) : Type 0 where
  pub order : IsOrderly c
  pub absent : holds c.cached spot ≡ false
  pub apart : holds c.queue spot ≡ false

pub IsLanded-demanded : (c : Cache) (spot : BlockSpot) → IsOrderly c → c.demanded ≡ Some spot → IsLanded (record c { demanded = None }) spot
IsLanded-demanded c spot o e =
    let h : is_demanded c.demanded spot ≡ true = ap (λ d. is_demanded d spot) e ∙ same_block-self spot in
    record {
      order = record { queue = o.queue; queued = o.queued; demanded = λ s no. cc; apart = λ s no. cc };
      absent = o.demanded spot h;
      apart = o.apart spot h;
    }

pub IsLanded-queued : (c : Cache) (spot : BlockSpot) (rest : List BlockSpot) → IsOrderly c → c.demanded ≡ None → c.queue ≡ spot ∷ rest → IsLanded (record c { queue = rest }) spot
IsLanded-queued c spot rest o idle e =
    let apart : AreApart (spot ∷ rest) = subst AreApart e o.queue in
    let none : (s : BlockSpot) → is_demanded c.demanded s ≡ true → ⊥ = λ s h. clash (is_demanded c.demanded s) h (ap (λ d. is_demanded d s) idle) in
    let queued : (s : BlockSpot) → holds (spot ∷ rest) s ≡ true → holds c.cached s ≡ false = λ s h. o.queued s (ap (λ q. holds q s) e ∙ h) in
    record {
      order = record {
        queue = apart.1;
        queued = λ s h. queued s (or_right (same_block spot s) (holds rest s) h);
        demanded = λ s h. absurd (none s h);
        apart = λ s h. absurd (none s h);
      };
      absent = queued spot (ap (λ b. b || holds rest spot) (same_block-self spot));
      apart = apart.0;
    }

pub IsOrderly-kept : (c : Cache) (n : ℕ) (spot : BlockSpot) → IsOrderly c → holds c.queue spot ≡ false → c.demanded ≡ None → IsOrderly (record c { cached = spot ∷ take n c.cached })
IsOrderly-kept c n spot o apart idle =
    record {
      queue = o.queue;
      queued = λ s h.
          or_from (same_block spot s) (holds (take n c.cached) s)
          (false_from_ne_true (same_block spot s) (λ same. clash (holds c.queue s) h (sym (holds-at c.queue spot s same) ∙ apart)))
          (holds-take n c.cached s (o.queued s h));
      demanded = λ s h. absurd (clash (is_demanded c.demanded s) h (ap (λ d. is_demanded d s) idle));
      apart = o.apart;
    }

pub IsOrderly-with_block : (c : CacheState) (spot : BlockSpot) (bytes : List ℕ) → IsOrderly (lists c) → holds c.queue spot ≡ false → c.demanded ≡ None → IsOrderly (lists (record c { blocks = with_block c.blocks spot bytes }))
IsOrderly-with_block c spot bytes o apart idle =
    let n = c.blocks.most - 1 in
    subst
    (λ ks. IsOrderly (record { cached = spot ∷ ks; queue = c.queue; demanded = c.demanded }))
    (take-map (λ (e : BlockSpot × List ℕ). e.0) n c.blocks.entries)
    (IsOrderly-kept (lists c) n spot o apart idle)

pub lists-with_block : (c : CacheState) (spot : BlockSpot) (bytes : List ℕ) → lists (record c { blocks = with_block c.blocks spot bytes }) ≡ kept c.blocks.most (lists c) spot
lists-with_block c spot bytes =
    let first = take-map (λ (e : BlockSpot × List ℕ). e.0) (c.blocks.most - 1) c.blocks.entries in
    λ i. record { cached = spot ∷ sym first i; queue = c.queue; demanded = c.demanded }
