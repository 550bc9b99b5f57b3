-- Needs, hints and fetches that finish, one after the other.
use Rattle.std.proofs.Common.{◌≡◌, ℕ, zero, suc, ◌+◌, ◌-◌, ◌≤◌, ◌<◌, true, false, List, [], ◌∷◌, Option, Some, None, is_some, refl, sym, ◌∙◌, ap, subst, inl, inr, arith}
use Rattle.std.proofs.lemmas.Bool.{cases_Bool}
use Rattle.spec_base.specs.declared.spot.BlockSpot.{BlockSpot}
use Rattle.spec_base.specs.declared.spot.ReadSpot.{ReadSpot}
use Rattle.program_model.specs.Cache.{Cache, in_flight, holds, hinted, all_hinted, blocks_up, blocks_of}
use Rattle.cache_queue.proofs.ReadBlocks.{blocks_up-next, blocks_up-end}
use Rattle.spec_base.specs.declared.note.Note.{Note}
use Rattle.spec_base.specs.declared.note.Note.TheVariants as notes
use Rattle.trace_text.specs.declared.trace_line.TraceBody.{TraceBody}
use Rattle.trace_text.specs.declared.trace_line.TraceBody.TheVariants as bodies
use Rattle.trace_replay.specs.Replays.{Settings, Replayed, fetched, finishes, needed, all_needed, read_again, noted_again, body_again}
use Rattle.trace_replay.specs.Lists.{after_finish}

pub none_from : (o : Option BlockSpot) → is_some o ≡ false → o ≡ None
none_from None h = refl
none_from (Some spot) h = cc

module _ (s : Settings) where
  -- ---- finishes

  pub finishes-zero : (r : Replayed) → finishes s 0 r ≡ r
  unfolding finishes
  finishes-zero r = refl

  pub finishes-none : (n : ℕ) (r : Replayed) → in_flight r.cache ≡ None → finishes s n r ≡ r
  unfolding finishes
  finishes-none zero r e = refl
  finishes-none (suc n) r e = ap (λ o. elim o [ None ↦ r | Some spot ↦ finishes s n (fetched s r spot) ]) e

  finishes-suc : (n : ℕ) (r : Replayed) (spot : BlockSpot) → in_flight r.cache ≡ Some spot → finishes s (suc n) r ≡ finishes s n (fetched s r spot)
  unfolding finishes
  finishes-suc n r spot e = ap (λ o. elim o [ None ↦ r | Some spot ↦ finishes s n (fetched s r spot) ]) e

  finishes-some : (n k : ℕ) (r : Replayed) (spot : BlockSpot) → n ≡ k + 1 → in_flight r.cache ≡ Some spot → finishes s n r ≡ finishes s k (fetched s r spot)
  finishes-some n k r spot e flies = let more : n ≡ suc k = omega arith in ap (λ m. finishes s m r) more ∙ finishes-suc k r spot flies

  finishes-le : (n : ℕ) (r : Replayed) → r.fetches ≤ (finishes s n r).fetches
  unfolding finishes
  finishes-le zero r = omega arith
  finishes-le (suc n) r = go (in_flight r.cache) (λ spot. finishes-le n (fetched s r spot))
    where
      go : (o : Option BlockSpot) → ((spot : BlockSpot) → r.fetches + 1 ≤ (finishes s n (fetched s r spot)).fetches) → r.fetches ≤ (elim o as (λ _. Replayed) [ None ↦ r | Some spot ↦ finishes s n (fetched s r spot) ]).fetches
      go None h = omega arith
      go (Some spot) h = let more = h spot in omega arith

  pub finishes-reads : (n : ℕ) (r : Replayed) → (finishes s n r).reads ≡ r.reads
  unfolding finishes
  finishes-reads zero r = refl
  finishes-reads (suc n) r = go (in_flight r.cache) (λ spot. finishes-reads n (fetched s r spot))
    where
      go : (o : Option BlockSpot) → ((spot : BlockSpot) → (finishes s n (fetched s r spot)).reads ≡ r.reads) → (elim o as (λ _. Replayed) [ None ↦ r | Some spot ↦ finishes s n (fetched s r spot) ]).reads ≡ r.reads
      go None h = refl
      go (Some spot) h = h spot

  -- the state once the block in flight is cached
  abbrev pub put : Replayed → Option BlockSpot → Replayed
  put r o = record r { cache = after_finish o s.blocks r.cache; fetches = r.fetches + 1 }

  pub put-goes_on : (n k : ℕ) (r : Replayed) (o : Option BlockSpot) → n ≡ k + 1 → in_flight r.cache ≡ o → is_some o ≡ true → finishes s k (put r o) ≡ finishes s n r
  put-goes_on n k r None e flies some = cc
  put-goes_on n k r (Some spot) e flies some = sym (finishes-some n k r spot e flies)

  pub put-fits : (n : ℕ) (r : Replayed) (o : Option BlockSpot) → 0 < n → in_flight r.cache ≡ o → is_some o ≡ true → r.fetches + 1 ≤ (finishes s n r).fetches
  put-fits n r None some flies is = cc
  put-fits n r (Some spot) some flies is =
      let first = finishes-some n (n - 1) r spot (omega (arith, some)) flies in
      omega (arith, finishes-le (n - 1) (fetched s r spot), ap (λ t. t.fetches) first)

  -- ---- totals

  -- no total falls
  pub record Grows (old new : Replayed) : Type 0 where
    pub needs : old.needs ≤ new.needs
    pub stalls : old.stalls ≤ new.stalls
    pub fetches : old.fetches ≤ new.fetches

  needed-grows : (r : Replayed) (spot : BlockSpot) → Grows r (needed s r spot)
  needed-grows r spot =
      elim (cases_Bool (holds r.cache.cached spot)) [
        | inl on ↦ rw on (record { needs = omega arith; stalls = omega arith; fetches = omega arith })
        | inr absent ↦ rw absent (record { needs = omega arith; stalls = omega arith; fetches = omega arith })
      ]

  all_needed-grows : (r : Replayed) (spots : List BlockSpot) → Grows r (all_needed s r spots)
  all_needed-grows r [] = record { needs = omega arith; stalls = omega arith; fetches = omega arith }
  all_needed-grows r (spot ∷ spots) =
      let first = needed-grows r spot in
      let rest = all_needed-grows (needed s r spot) spots in
      record {
        needs = omega (arith, first.needs, rest.needs);
        stalls = omega (arith, first.stalls, rest.stalls);
        fetches = omega (arith, first.fetches, rest.fetches);
      }

  same-grows : (r : Replayed) → Grows r r
  same-grows r = record { needs = omega arith; stalls = omega arith; fetches = omega arith }

  read-grows : (r : Replayed) (spot : ReadSpot) → Grows r (read_again s r spot)
  read-grows r spot =
      let g = all_needed-grows (record r { reads = r.reads + 1 }) (blocks_of spot) in
      record { needs = g.needs; stalls = g.stalls; fetches = g.fetches }

  note-grows : (r : Replayed) (note : Note) → Grows r (noted_again s r note)
  note-grows r (notes.Match spot) = read-grows r spot
  note-grows r (notes.Restart spot) = read-grows r spot
  note-grows r (notes.Hint spot) = record { needs = omega arith; stalls = omega arith; fetches = omega arith }
  note-grows r note = same-grows r

  pub body-grows : (r : Replayed) (body : TraceBody) → Grows r (body_again s r body)
  body-grows r (bodies.Note note) = note-grows r note
  body-grows r body = same-grows r

  -- ---- the blocks of a read, from one on

  -- needed from a state on, they come to the target
  pub record InRead (target now : Replayed) (spot : ReadSpot) (block end : ℕ) : Type 0 where
    pub rest : all_needed s now (blocks_up spot.name block (end - block)) ≡ target

  pub read_goes_on : (target now : Replayed) (spot : ReadSpot) (block end : ℕ) → block < end → InRead target now spot block end → InRead target (needed s now (record { name = spot.name; block = block })) spot (block + 1) end × Grows (needed s now (record { name = spot.name; block = block })) target
  read_goes_on target now spot block end lt p =
      let next = needed s now (record { name = spot.name; block = block }) in
      let more : all_needed s next (blocks_up spot.name (block + 1) (end - (block + 1))) ≡ target =
      sym (ap (all_needed s now) (blocks_up-next spot.name block end lt)) ∙ p.rest in (
        record { rest = more },
        subst (λ t. Grows next t) more (all_needed-grows next (blocks_up spot.name (block + 1) (end - (block + 1)))),
      )

  pub read_ends : (target now : Replayed) (spot : ReadSpot) (block end : ℕ) → end ≤ block → InRead target now spot block end → now ≡ target
  read_ends target now spot block end ge p = sym (ap (all_needed s now) (blocks_up-end spot.name block end ge)) ∙ p.rest

-- hinted from lists on, they come to the target
pub record InHint (depth : ℕ) (target now : Cache) (spot : ReadSpot) (block end : ℕ) : Type 0 where
  pub rest : all_hinted depth now (blocks_up spot.name block (end - block)) ≡ target

pub hint_goes_on : (depth : ℕ) (target now : Cache) (spot : ReadSpot) (block end : ℕ) → block < end → InHint depth target now spot block end → InHint depth target (hinted depth now (record { name = spot.name; block = block })) spot (block + 1) end
hint_goes_on depth target now spot block end lt p = record {
  rest = sym (ap (all_hinted depth now) (blocks_up-next spot.name block end lt)) ∙ p.rest;
}

pub hint_ends : (depth : ℕ) (target now : Cache) (spot : ReadSpot) (block end : ℕ) → end ≤ block → InHint depth target now spot block end → now ≡ target
hint_ends depth target now spot block end ge p = sym (ap (all_hinted depth now) (blocks_up-end spot.name block end ge)) ∙ p.rest
