-- The run after a fetch of a queued block.
use Rattle.std.proofs.Common.{◌≡◌, ℕ, ◌+◌, ◌*◌, ◌/◌, ◌<◌, Bool, true, false, List, [], ◌∷◌, ◌++◌, length, take, slice_get, Option, Some, None, inl, inr, refl, sym, ap, subst, ◌∙◌, arith}
use Rattle.std.specs.Prelude.{unwrap_or}
use Rattle.spec_base.specs.declared.note.Note.TheVariants as note
use Rattle.spec_base.specs.declared.spot.BlockSpot.{BlockSpot}
use Rattle.program_model.specs.Cache.{Cache, in_flight, flight_of, blocks_of}
use Rattle.run_model.specs.Run.{World, Run, RunEnd, StoreFailed, Usual, Failed, Lost}
use Rattle.run_model.specs.Moves.{fetch_step, fetch_of, fetch_failed, landed_with, cached_too}
use Rattle.cache_queue.specs.State.{CachedBlocks}
use Rattle.cache_queue.specs.Finishes.{IsOf, finished, with_finished}
use Rattle.cache_queue.specs.declared.finish.Finished.{Finished}
use Rattle.cache_queue.specs.declared.finish.Finished.TheVariants.{Nothing, Put, Lost as LostBlock, Dropped, Fault}
use Rattle.runner_parts.specs.Answers.{finish_answer, finish_notes, waits_after, had_after, demanded_after}
use Rattle.runner_parts.specs.Staged.{joined, StandsBehind}
use Rattle.runner_parts.proofs.Blocks.{one-of, take-snoc}
use Rattle.runner_parts.specs.Parts.{OwnSide, own_side, IsGathering, Gathers, demand_if}

-- the limit stays
pub most-stays : (c : CachedBlocks) (f : Finished) (bytes : List ℕ) → (with_finished c f bytes).most ≡ c.most
most-stays c Nothing bytes = refl
most-stays c (Put spot) bytes = refl
most-stays c (LostBlock spot) bytes = refl
most-stays c (Dropped spot) bytes = refl
most-stays c (Fault spot) bytes = refl

-- ---- the run

-- a finish of a queued block changes the lists, and tells
pub queued-finish :
    (w : World) (r : Run) (f : Finished) → r.cache.demanded ≡ None → IsOf r.cache f
    → fetch_step w (finish_answer f) r ≡ record r { cache = finished 256 r.cache f; notes = finish_notes r.notes f }
queued-finish w r Nothing none is = ap (λ (o : Option BlockSpot). fetch_of o w Usual r) is
queued-finish w r (Put spot) none is =
    ap (λ (o : Option BlockSpot). fetch_of o w Usual r) is ∙ ap (λ (d : Option BlockSpot). cached_too (landed_with d r (note.Fetch spot ∷ [])) spot) none
queued-finish w r (LostBlock spot) none is =
    ap (λ (o : Option BlockSpot). fetch_of o w Lost r) is ∙ ap (λ (d : Option BlockSpot). landed_with d r (note.Lost spot ∷ [])) none
queued-finish w r (Dropped spot) none is =
    ap (λ (o : Option BlockSpot). fetch_of o w Failed r) is.1 ∙ ap (λ (d : Option BlockSpot). fetch_failed d r spot) none
queued-finish w r (Fault spot) none is = absurd (let e : None ≡ Some spot = sym none ∙ is in cc)

-- ---- what the own hart has

-- the same over another cache that waits for the same block, and with another end that is as good
pub gathers-with :
    (w : World) (o : OwnSide) (end : Option RunEnd) (c d : Cache) (staged : List ℕ) → d.demanded ≡ c.demanded → (o.end ≡ Some StoreFailed → end ≡ Some StoreFailed) → Gathers w o c staged
    → Gathers w (record o { end = end }) d staged
gathers-with w o end c d staged e over (inl rest) = inl (record { none = rest.none; goes = rest.goes; undemanded = e ∙ rest.undemanded })
gathers-with w o end c d staged e over (inr (inl g)) =
    inr
    (inl (record {
      in_stub = g.in_stub;
      at_call = g.at_call;
      descriptor = g.descriptor;
      spot = g.spot;
      address = g.address;
      planned = g.planned;
      some = g.some;
      more = g.more;
      few = g.few;
      staged_are = g.staged_are;
      demanded = e ∙ g.demanded;
    }))
gathers-with w o end c d staged e over (inr (inr x)) = inr (inr (record { in_stub = x.in_stub; at_call = x.at_call; waits = x.waits; undemanded = e ∙ x.undemanded; over = over x.over }))

pub gathers-same : (w : World) (o : OwnSide) (c d : Cache) (staged : List ℕ) → d.demanded ≡ c.demanded → Gathers w o c staged → Gathers w o d staged
gathers-same w o c d staged e g = gathers-with w o o.end c d staged e (λ over. over) g

-- ---- the demanded block

-- a hart that waits in a run that goes on has gathered some blocks of a read
pub is-gathering : (w : World) (o : OwnSide) (cache : Cache) (staged : List ℕ) → o.stalled ≡ true → o.end ≡ None → Gathers w o cache staged → IsGathering w o cache staged
is-gathering w o cache staged waits goes (inl rest) = absurd (let e : false ≡ true = sym rest.goes ∙ waits in cc)
is-gathering w o cache staged waits goes (inr (inl g)) = g
is-gathering w o cache staged waits goes (inr (inr x)) = absurd (let e : None ≡ Some StoreFailed = sym goes ∙ x.over in cc)

module _ (w : World) (r : Run) (old : List ℕ) (waits : r.stalled ≡ true) (goes : r.end ≡ None) (g : IsGathering w (own_side r) r.cache old) where
  abbrev awaited : BlockSpot
  awaited = record { name = g.spot.name; block = g.spot.offset / 4096 + r.gathered }

  next-is : slice_get (blocks_of g.spot) r.gathered ≡ Some awaited
  next-is = one-of g.spot r.gathered (g.more waits)

  demanded-is : r.cache.demanded ≡ Some awaited
  demanded-is = g.demanded ∙ (λ i. demand_if (waits i) (slice_get (blocks_of g.spot) r.gathered)) ∙ next-is

  flight-is : in_flight r.cache ≡ Some awaited
  flight-is = ap (λ (d : Option BlockSpot). flight_of d r.cache.queue) demanded-is

  -- the run after its fetch
  pub demanded-finish : (f : Finished) → IsOf r.cache f → fetch_step w (finish_answer f) r ≡ demanded_after r f
  demanded-finish Nothing is = absurd (let e : None ≡ Some awaited = sym is ∙ flight-is in cc)
  demanded-finish (Put spot) is =
      ap (λ (o : Option BlockSpot). fetch_of o w Usual r) is ∙ ap (λ (d : Option BlockSpot). cached_too (landed_with d r (note.Fetch spot ∷ [])) spot) demanded-is
      ∙ (λ i. record (demanded_after r (Put spot)) { end = goes i })
  demanded-finish (LostBlock spot) is =
      ap (λ (o : Option BlockSpot). fetch_of o w Lost r) is ∙ ap (λ (d : Option BlockSpot). landed_with d r (note.Lost spot ∷ [])) demanded-is
      ∙ (λ i. record (demanded_after r (LostBlock spot)) { end = goes i })
  demanded-finish (Dropped spot) is = absurd (let e : None ≡ Some awaited = sym is.0 ∙ demanded-is in cc)
  demanded-finish (Fault spot) is =
      ap (λ (o : Option BlockSpot). fetch_of o w Failed r) flight-is ∙ ap (λ (d : Option BlockSpot). fetch_failed d r awaited) demanded-is
      ∙ (λ i. record (demanded_after r (Fault spot)) { stalled = waits i })

  -- the block that landed is the next of the read
  landed-behind : (spot : BlockSpot) (staged : List ℕ) → in_flight r.cache ≡ Some spot → take (4096 * (r.gathered + 1)) staged ≡ joined w.files (take r.gathered (blocks_of g.spot) ++ spot ∷ [])
      → take (4096 * (r.gathered + 1)) staged ≡ joined w.files (take (r.gathered + 1) (blocks_of g.spot))
  landed-behind spot staged is stands =
      (let same : awaited ≡ spot = (let e : Some awaited ≡ Some spot = sym flight-is ∙ is in ap (λ (o : Option BlockSpot). unwrap_or o awaited) e) in
      stands ∙ ap (λ (k : List BlockSpot). joined w.files k) (sym (take-snoc (blocks_of g.spot) r.gathered spot (next-is ∙ ap (λ (x : BlockSpot). Some x) same))))

  more-had : (f : Finished) (cache : Cache) (staged : List ℕ) → waits_after f ≡ false → had_after r.gathered f ≡ r.gathered + 1 → cache.demanded ≡ None
      → take (4096 * (r.gathered + 1)) staged ≡ joined w.files (take (r.gathered + 1) (blocks_of g.spot)) → IsGathering w (own_side (demanded_after r f)) cache staged
  more-had f cache staged still had none stands =
      record {
        in_stub = g.in_stub;
        at_call = g.at_call;
        descriptor = g.descriptor;
        spot = g.spot;
        address = g.address;
        planned = g.planned;
        some = (let low : r.gathered < length (blocks_of g.spot) = g.more waits in omega (arith, low, had));
        more = λ e. absurd (let no : false ≡ true = sym still ∙ e in cc);
        few = g.few;
        staged_are = subst (λ (k : ℕ). take (4096 * k) staged ≡ joined w.files (take k (blocks_of g.spot))) (sym had) stands;
        demanded = none ∙ ap (λ (b : Bool). demand_if b (slice_get (blocks_of g.spot) (had_after r.gathered f))) (sym still);
      }

  -- what the own hart has then
  pub gathers-after : (f : Finished) (cache : Cache) (staged : List ℕ) → IsOf r.cache f → cache.demanded ≡ None → StandsBehind w.files (take r.gathered (blocks_of g.spot)) r.gathered staged f
      → Gathers w (own_side (demanded_after r f)) cache staged
  gathers-after Nothing cache staged is none stands = absurd (let e : None ≡ Some awaited = sym is ∙ flight-is in cc)
  gathers-after (Put spot) cache staged is none stands = inr (inl (more-had (Put spot) cache staged refl refl none (landed-behind spot staged is stands)))
  gathers-after (LostBlock spot) cache staged is none stands = inr (inl (more-had (LostBlock spot) cache staged refl refl none (landed-behind spot staged is stands)))
  gathers-after (Dropped spot) cache staged is none stands = absurd (let e : None ≡ Some awaited = sym is.0 ∙ demanded-is in cc)
  gathers-after (Fault spot) cache staged is none stands = inr (inr (record { in_stub = g.in_stub; at_call = g.at_call; waits = refl; undemanded = none; over = refl }))
