-- How far the totals of so many lines come.
use Rattle.std.proofs.Common.{◌≡◌, ℕ, zero, suc, ◌+◌, ◌-◌, ◌*◌, ◌/◌, ◌^◌, ◌<◌, ◌≤◌, Bool, true, false, List, [], ◌∷◌, length, Option, Some, None, refl, sym, ◌∙◌, ap, inl, inr, arith, length-append}
use Rattle.std.proofs.lemmas.Bool.{cases_Bool}
use Rattle.spec_base.specs.declared.spot.BlockSpot.{BlockSpot}
use Rattle.spec_base.specs.declared.spot.ReadSpot.{ReadSpot}
use Rattle.spec_base.specs.declared.note.Note.{Note}
use Rattle.spec_base.specs.declared.note.Note.TheVariants as notes
use Rattle.trace_text.specs.declared.trace_line.TraceBody.{TraceBody}
use Rattle.trace_text.specs.declared.trace_line.TraceBody.TheVariants as bodies
use Rattle.trace_text.specs.declared.trace_line.TraceLine.{TraceLine}
use Rattle.trace_text.specs.Ranges.{IsReadInRange, IsNoteInRange, IsInRange}
use Rattle.program_model.specs.Cache.{holds, in_flight, first_of, rest_of, landed, landed_from, hinted, hint_if, is_idle_hint, all_hinted, blocks_of}
use Rattle.cache_queue.proofs.ReadBlocks.{length-blocks_of}
use Rattle.trace_replay.specs.Replays.{Settings, Replayed, fresh, fetched, finishes, caught_up, needed, all_needed, read_again, noted_again, body_again, line_again}
use Rattle.trace_replay.specs.Bounds.{IsBounded}
use Rattle.trace_replay.proofs.Fits.{length-without-le}

length-rest : (queue : List BlockSpot) (spot : BlockSpot) → first_of queue ≡ Some spot → length (rest_of queue) + 1 ≡ length queue
length-rest [] spot h = cc
length-rest (x ∷ xs) spot h = omega arith

module _ (s : Settings) where
  fetched-bounded : (n t : ℕ) (r : Replayed) (spot : BlockSpot) → in_flight r.cache ≡ Some spot → IsBounded n t r → IsBounded n t (fetched s r spot)
  fetched-bounded n t r spot flies b =
      let first : first_of r.cache.queue ≡ Some spot = sym (ap (λ o. in_flight (record r.cache { demanded = o })) b.idle) ∙ flies in
      let lands : landed r.cache ≡ record r.cache { queue = rest_of r.cache.queue } = ap (λ o. landed_from o r.cache) b.idle in
      let queue : length (landed r.cache).queue ≡ length (rest_of r.cache.queue) = ap (λ c. length c.queue) lands in
      record {
        needs = b.needs;
        stalls = b.stalls;
        fetches = omega (arith, b.fetches, queue, length-rest r.cache.queue spot first);
        idle = ap (λ c. c.demanded) lands ∙ b.idle;
        reads = b.reads;
      }

  finishes-bounded : (n t k : ℕ) (r : Replayed) → IsBounded n t r → IsBounded n t (finishes s k r)
  unfolding finishes
  finishes-bounded n t zero r b = b
  finishes-bounded n t (suc k) r b = go (in_flight r.cache) refl (λ spot next. finishes-bounded n t k (fetched s r spot) next)
    where
      go : (o : Option BlockSpot) → in_flight r.cache ≡ o → ((spot : BlockSpot) → IsBounded n t (fetched s r spot) → IsBounded n t (finishes s k (fetched s r spot))) → IsBounded n t (elim o as (λ _. Replayed) [ None ↦ r | Some spot ↦ finishes s k (fetched s r spot) ])
      go None e more = b
      go (Some spot) e more = more spot (fetched-bounded n t r spot e b)

  more-bounded : (n m t : ℕ) (r : Replayed) → n ≤ m → IsBounded n t r → IsBounded m t r
  more-bounded n m t r le b = record { needs = omega (arith, b.needs, le); stalls = b.stalls; fetches = omega (arith, b.fetches, le); idle = b.idle; reads = b.reads }

  needed-bounded : (n t : ℕ) (r : Replayed) (spot : BlockSpot) → IsBounded n t r → IsBounded (n + 1) t (needed s r spot)
  needed-bounded n t r spot b =
      elim (cases_Bool (holds r.cache.cached spot)) [
        | inl on ↦
            rw on (record { needs = omega (arith, b.needs); stalls = omega (arith, b.stalls); fetches = omega (arith, b.fetches); idle = b.idle; reads = b.reads })
        | inr absent ↦
            rw absent (record {
              needs = omega (arith, b.needs);
              stalls = omega (arith, b.stalls);
              fetches = omega (arith, b.fetches, length-without-le r.cache.queue spot);
              idle = refl;
              reads = b.reads;
            })
      ]

  all_needed-bounded : (n t : ℕ) (r : Replayed) (spots : List BlockSpot) → IsBounded n t r → IsBounded (n + length spots) t (all_needed s r spots)
  all_needed-bounded n t r [] b = more-bounded n (n + 0) t r (omega arith) b
  all_needed-bounded n t r (spot ∷ spots) b =
      let rest = all_needed-bounded (n + 1) t (needed s r spot) spots (needed-bounded n t r spot b) in
      more-bounded (n + 1 + length spots) (n + length (spot ∷ spots)) t (all_needed s r (spot ∷ spots)) (omega arith) rest

  hint_if-bounded : (n t : ℕ) (r : Replayed) (spot : BlockSpot) (b : Bool) → IsBounded n t r → IsBounded (n + 1) t (record r { cache = hint_if b r.cache spot })
  hint_if-bounded n t r spot true b = more-bounded n (n + 1) t r (omega arith) b
  hint_if-bounded n t r spot false b = record {
    needs = omega (arith, b.needs);
    stalls = b.stalls;
    fetches = omega (arith, b.fetches, length-append r.cache.queue (spot ∷ []));
    idle = b.idle;
    reads = b.reads;
  }

  all_hinted-bounded : (n t : ℕ) (r : Replayed) (spots : List BlockSpot) → IsBounded n t r → IsBounded (n + length spots) t (record r { cache = all_hinted s.depth r.cache spots })
  all_hinted-bounded n t r [] b = more-bounded n (n + 0) t r (omega arith) b
  all_hinted-bounded n t r (spot ∷ spots) b =
      let next : Replayed = record r { cache = hinted s.depth r.cache spot } in
      let rest = all_hinted-bounded (n + 1) t next spots (hint_if-bounded n t r spot (is_idle_hint s.depth r.cache spot) b) in
      more-bounded (n + 1 + length spots) (n + length (spot ∷ spots)) t (record r { cache = all_hinted s.depth r.cache (spot ∷ spots) }) (omega arith) rest

  read-bounded : (n t : ℕ) (r : Replayed) (spot : ReadSpot) → IsReadInRange spot → IsBounded n t r → IsBounded (n + 17) (t + 1) (read_again s r spot)
  read-bounded n t r spot range b =
      let begun : IsBounded n (t + 1) (record r { reads = r.reads + 1 }) = record { needs = b.needs; stalls = b.stalls; fetches = b.fetches; idle = b.idle; reads = omega (arith, b.reads) } in
      more-bounded (n + length (blocks_of spot)) (n + 17) (t + 1) (read_again s r spot) (omega (arith, length-blocks_of spot range.count))
      (all_needed-bounded n (t + 1) (record r { reads = r.reads + 1 }) (blocks_of spot) begun)

  later-bounded : (n t : ℕ) (r : Replayed) → IsBounded (n + 17) t r → IsBounded (n + 17) (t + 1) r
  later-bounded n t r b = record { needs = b.needs; stalls = b.stalls; fetches = b.fetches; idle = b.idle; reads = omega (arith, b.reads) }

  hint-bounded : (n t : ℕ) (r : Replayed) (spot : ReadSpot) → IsReadInRange spot → IsBounded n t r → IsBounded (n + 17) (t + 1) (noted_again s r (notes.Hint spot))
  hint-bounded n t r spot range b =
      later-bounded n t (noted_again s r (notes.Hint spot))
      (more-bounded (n + length (blocks_of spot)) (n + 17) t (noted_again s r (notes.Hint spot)) (omega (arith, length-blocks_of spot range.count))
      (all_hinted-bounded n t r (blocks_of spot) b))

  same-bounded : (n t : ℕ) (r : Replayed) → IsBounded n t r → IsBounded (n + 17) (t + 1) r
  same-bounded n t r b = later-bounded n t r (more-bounded n (n + 17) t r (omega arith) b)

  note-bounded : (n t : ℕ) (r : Replayed) (note : Note) → IsNoteInRange note → IsBounded n t r → IsBounded (n + 17) (t + 1) (noted_again s r note)
  note-bounded n t r (notes.Match spot) range b = read-bounded n t r spot range b
  note-bounded n t r (notes.Restart spot) range b = read-bounded n t r spot range b
  note-bounded n t r (notes.Hint spot) range b = hint-bounded n t r spot range b
  note-bounded n t r note range b = same-bounded n t r b

  body-bounded : (n t : ℕ) (r : Replayed) (body : TraceBody) → IsInRange body → IsBounded n t r → IsBounded (n + 17) (t + 1) (body_again s r body)
  body-bounded n t r (bodies.Note note) range b = note-bounded n t r note range b
  body-bounded n t r body range b = same-bounded n t r b

  -- a line adds at most 17 blocks and one read
  pub line-bounded : (n t : ℕ) (r : Replayed) (line : TraceLine) → IsInRange line.body → IsBounded n t r → IsBounded (n + 17) (t + 1) (line_again s r line)
  line-bounded n t r line range b =
      let on = finishes-bounded n t (line.own / s.every - r.clock) r b in
      body-bounded n t (caught_up s r line.own) line.body range (record { needs = on.needs; stalls = on.stalls; fetches = on.fetches; idle = on.idle; reads = on.reads })

  -- the same of so many lines
  pub lines-bounded : (n : ℕ) (r : Replayed) (line : TraceLine) → IsInRange line.body → IsBounded (17 * n) n r → IsBounded (17 * (n + 1)) (n + 1) (line_again s r line)
  lines-bounded n r line range b = more-bounded (17 * n + 17) (17 * (n + 1)) (n + 1) (line_again s r line) (omega arith) (line-bounded (17 * n) n r line range b)

  -- the totals of fewer than 2^59 lines and one more fit in 64 bits
  pub record Fit64 (r : Replayed) (line : TraceLine) : Type 0 where
    pub needs : (line_again s r line).needs < 2 ^ 64
    pub stalls : (line_again s r line).stalls < 2 ^ 64
    pub fetches : (line_again s r line).fetches < 2 ^ 64
    pub reads : r.reads + 1 < 2 ^ 64

  pub lines-fit : (n : ℕ) (r : Replayed) (line : TraceLine) → n < 2 ^ 59 → IsInRange line.body → IsBounded (17 * n) n r → Fit64 r line
  lines-fit n r line few range b =
      let on = lines-bounded n r line range b in
      record {
        needs = omega (arith, on.needs, few);
        stalls = omega (arith, on.needs, on.stalls, few);
        fetches = omega (arith, on.fetches, few);
        reads = omega (arith, b.reads, few);
      }

pub fresh-bounded : IsBounded 0 0 fresh
fresh-bounded = record { needs = omega arith; stalls = omega arith; fetches = omega arith; idle = refl; reads = omega arith }
