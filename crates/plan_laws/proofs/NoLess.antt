-- The cached blocks at each need are a plan that costs at most what was fetched.
use Rattle.std.proofs.Common.{◌≡◌, ℕ, ◌+◌, ◌≤◌, Bool, true, false, ◌&&◌, ◌||◌, List, [], ◌∷◌, ◌++◌, length, map, refl, sym, ◌∙◌, ap, subst, arith, leb, Result, Ok, Err}
use Rattle.std.proofs.lemmas.Bool.{and_from, le-leb, or_left, or_right}
use Rattle.spec_base.specs.declared.spot.BlockSpot.{BlockSpot}
use Rattle.spec_base.specs.declared.spot.ReadSpot.{ReadSpot}
use Rattle.spec_base.specs.declared.note.Note.{Note}
use Rattle.spec_base.specs.declared.note.Note.TheVariants as notes
use Rattle.trace_text.specs.declared.trace_line.TraceBody.{TraceBody}
use Rattle.trace_text.specs.declared.trace_line.TraceBody.TheVariants as bodies
use Rattle.trace_text.specs.declared.trace_line.TraceLine.{TraceLine}
use Rattle.program_model.specs.Cache.{same_block, holds, blocks_of, all_hinted}
use Rattle.cache_queue.proofs.Spots.{same_block-self}
use Rattle.fetch_plan.specs.Plans.{has, all_differ, new_count, is_plan, cost, cost_from}
use Rattle.fetch_plan.specs.Needs.{place_of, needed_blocks, numbered, read_in, read_noted, blocks_in}
use Rattle.fetch_plan.proofs.Bound.{least}
use Rattle.trace_replay.specs.Replays.{Settings, Replayed, fresh, needed, all_needed, caught_up, noted_again, body_again, line_again, lines_again, replayed}
use Rattle.fetch_plan.specs.Traces.{needs_by, HasLeast}
use Rattle.fetch_plan.specs.declared.traces.PlanTotals.{PlanTotals}
use Rattle.trace_replay.specs.Totals.{totals_of}
use Rattle.trace_replay.specs.Traces.{totals_by}
use Rattle.trace_replay.specs.declared.totals.Totals.{Totals}
use Rattle.trace_text.specs.Lines.{trace_in}
use Rattle.plan_laws.specs.Replays.{NoReplayFetchesLess, NoTraceFetchesLess}
use Rattle.plan_laws.proofs.Numbered.{table, numbered-is, table-holds}
use Rattle.plan_laws.proofs.Images.{new_spots, new_spots-part, image, image-has, image-differ, image-length, image-new}
use Rattle.trace_replay.proofs.Fits.{empty-fit, hinted-fit}
use Rattle.plan_laws.proofs.Steps.{Covers, caught_up-covers, needed-covers}

module _ (s : Settings) (some : 1 ≤ s.blocks) (T : List BlockSpot) where
  -- all blocks of a list are in the table
  abbrev pub InTable : List BlockSpot → Type 0
  InTable spots = (x : BlockSpot) → holds spots x ≡ true → holds T x ≡ true

  -- a plan for the needs, behind a list and what was paid for it, that costs at most so much in all
  abbrev pub PlanFor : List BlockSpot → List BlockSpot → ℕ → ℕ → Type 0
  PlanFor spots D paid most = (plan : List (List ℕ)) × (is_plan s.blocks (map (place_of T) spots) plan ≡ true) × (cost_from (image T D) plan + paid ≤ most)

  sampled : (r : Replayed) (spot : BlockSpot) (D more : List BlockSpot) (paid most : ℕ) → Covers s some r D paid → holds r.cache.cached spot ≡ true → holds T spot ≡ true → PlanFor more r.cache.cached (paid + new_count (image T D) (image T r.cache.cached)) most → PlanFor (spot ∷ more) D paid most
  sampled r spot D more paid most c on known rest =
      let now = image T r.cache.cached in
      let few : length now ≤ s.blocks = omega (arith, image-length T r.cache.cached, c.fit.few) in
      let cost_is = rest.2 in (
        now ∷ rest.0,
        and_from (has now (place_of T spot) && (all_differ now && leb (length now) s.blocks)) (is_plan s.blocks (map (place_of T) more) rest.0)
            (and_from (has now (place_of T spot)) (all_differ now && leb (length now) s.blocks) (image-has T r.cache.cached spot known on)
            (and_from (all_differ now) (leb (length now) s.blocks) (image-differ T r.cache.cached c.fit.apart) (le-leb (length now) s.blocks few)))
            rest.1,
        omega arith,
      )

  all_needed-plan : (spots : List BlockSpot) (r : Replayed) (D more : List BlockSpot) (paid most : ℕ) → InTable spots → Covers s some r D paid → ((E : List BlockSpot) (spent : ℕ) → Covers s some (all_needed s r spots) E spent → PlanFor more E spent most) → PlanFor (spots ++ more) D paid most
  all_needed-plan [] r D more paid most known c rest = rest D paid c
  all_needed-plan (spot ∷ spots) r D more paid most known c rest =
      let next = needed s r spot in
      let step = needed-covers s some r spot D paid c in
      let on = step.0 in
      let C = next.cache.cached in
      let spent = paid + new_count (image T D) (image T C) in
      let none : new_spots C C ≡ 0 = new_spots-part C C (λ x h. h) in
      let after : Covers s some next C spent = record { fit = on.fit; covers = omega (arith, on.covers, image-new T D C) } in
      sampled next spot D (spots ++ more) paid most on step.1 (known spot (or_left (same_block spot spot) (holds spots spot) (same_block-self spot)))
      (all_needed-plan spots next C more spent most (λ x h. known x (or_right (same_block spot x) (holds spots x) h)) after rest)

  -- reads that need blocks
  read-plan : (spot : ReadSpot) (r : Replayed) (D more : List BlockSpot) (paid most : ℕ) → InTable (blocks_of spot) → Covers s some r D paid → ((E : List BlockSpot) (spent : ℕ) → Covers s some (all_needed s (record r { reads = r.reads + 1 }) (blocks_of spot)) E spent → PlanFor more E spent most) → PlanFor (blocks_of spot ++ more) D paid most
  read-plan spot r D more paid most known c rest =
      all_needed-plan (blocks_of spot) (record r { reads = r.reads + 1 }) D more paid most known (record { fit = c.fit; covers = c.covers }) rest

  -- hints
  hint-covers : (spots : List BlockSpot) (r : Replayed) (D : List BlockSpot) (paid : ℕ) → Covers s some r D paid → Covers s some (record r { cache = all_hinted s.depth r.cache spots }) D paid
  hint-covers spots r D paid c =
      let on = hinted-fit s.blocks some s.depth r.cache spots c.fit in
      record { fit = on.0; covers = subst (λ l. new_spots D l + paid ≤ r.fetches) (sym on.1) c.covers }

  note-plan : (note : Note) (r : Replayed) (D more : List BlockSpot) (paid most : ℕ) → InTable (blocks_in (read_noted note)) → Covers s some r D paid → ((E : List BlockSpot) (spent : ℕ) → Covers s some (noted_again s r note) E spent → PlanFor more E spent most) → PlanFor (blocks_in (read_noted note) ++ more) D paid most
  note-plan (notes.Match spot) r D more paid most known c rest = read-plan spot r D more paid most known c rest
  note-plan (notes.Restart spot) r D more paid most known c rest = read-plan spot r D more paid most known c rest
  note-plan (notes.Hint spot) r D more paid most known c rest = rest D paid (hint-covers (blocks_of spot) r D paid c)
  note-plan note r D more paid most known c rest = rest D paid c

  body-plan : (body : TraceBody) (r : Replayed) (D more : List BlockSpot) (paid most : ℕ) → InTable (blocks_in (read_in body)) → Covers s some r D paid → ((E : List BlockSpot) (spent : ℕ) → Covers s some (body_again s r body) E spent → PlanFor more E spent most) → PlanFor (blocks_in (read_in body) ++ more) D paid most
  body-plan (bodies.Note note) r D more paid most known c rest = note-plan note r D more paid most known c rest
  body-plan body r D more paid most known c rest = rest D paid c

  holds-left : (xs ys : List BlockSpot) (x : BlockSpot) → holds xs x ≡ true → holds (xs ++ ys) x ≡ true
  holds-left [] ys x h = cc
  holds-left (y ∷ xs) ys x h = go (same_block y x) (holds xs x) (holds (xs ++ ys) x) h (holds-left xs ys x)
    where
      go : (a b d : Bool) → (a || b) ≡ true → (b ≡ true → d ≡ true) → (a || d) ≡ true
      go true b d h f = refl
      go false b d h f = f h

  holds-right : (xs ys : List BlockSpot) (x : BlockSpot) → holds ys x ≡ true → holds (xs ++ ys) x ≡ true
  holds-right [] ys x h = h
  holds-right (y ∷ xs) ys x h = or_right (same_block y x) (holds (xs ++ ys) x) (holds-right xs ys x h)

  pub lines-plan : (lines : List TraceLine) (r : Replayed) (D : List BlockSpot) (paid : ℕ) → InTable (needed_blocks lines) → Covers s some r D paid → PlanFor (needed_blocks lines) D paid (lines_again s r lines).fetches
  lines-plan [] r D paid known c = ([], refl, omega (arith, c.covers))
  lines-plan (line ∷ lines) r D paid known c =
      let blocks = blocks_in (read_in line.body) in
      let caught = caught_up s r line.own in
      body-plan line.body caught D (needed_blocks lines) paid (lines_again s (line_again s r line) lines).fetches
      (λ x h. known x (holds-left blocks (needed_blocks lines) x h)) (caught_up-covers s some r line.own D paid c)
      (λ E spent on. lines-plan lines (line_again s r line) E spent (λ x h. known x (holds-right blocks (needed_blocks lines) x h)) on)

-- the cached blocks at each need, as a plan
replay-plan : (s : Settings) (lines : List TraceLine) → 1 ≤ s.blocks
    → (plan : List (List ℕ)) × (is_plan s.blocks (numbered (needed_blocks lines)) plan ≡ true) × (cost plan ≤ (replayed s lines).fetches)
replay-plan s lines some =
    let spots = needed_blocks lines in
    let T = table spots in
    let starts : Covers s some fresh [] 0 = record { fit = empty-fit s.blocks; covers = omega arith } in
    let made = lines-plan s some T lines fresh [] 0 (table-holds spots) starts in
    (made.0, ap (λ ns. is_plan s.blocks ns made.0) (numbered-is spots) ∙ made.1, omega (arith, made.2))

pub no_replay_fetches_less : NoReplayFetchesLess
no_replay_fetches_less s lines some =
    let made = replay-plan s lines some in
    omega (arith, least s.blocks (numbered (needed_blocks lines)) made.0 some made.1, made.2)

-- an answer, with its type
abbrev needs_of : Result (List BlockSpot) ℕ → Result (List BlockSpot) ℕ
needs_of r = r

abbrev answer_of : Result Totals ℕ → Result Totals ℕ
answer_of r = r

needs_same : (a b : List BlockSpot) → needs_of (Ok a) ≡ Ok b → a ≡ b
needs_same a b e = cc

totals_same : (a b : Totals) → answer_of (Ok a) ≡ Ok b → a ≡ b
totals_same a b e = cc

by_lines : (s : Settings) (said : Result (List TraceLine) ℕ) (spots : List BlockSpot) (l : PlanTotals) (totals : Totals) → 1 ≤ s.blocks
    → needs_by [] said ≡ Ok spots → HasLeast s.blocks spots l → totals_by s fresh said ≡ Ok totals → l.fetches ≤ totals.fetches
by_lines s (Err bad) spots l totals some needs h same = cc
by_lines s (Ok lines) spots l totals some needs h same =
    let is : needed_blocks lines ≡ spots = needs_same (needed_blocks lines) spots needs in
    let made = replay-plan s lines some in
    let planned : is_plan s.blocks (numbered spots) made.0 ≡ true = ap (λ k. is_plan s.blocks (numbered k) made.0) (sym is) ∙ made.1 in
    let counted : totals_of (replayed s lines) ≡ totals = totals_same (totals_of (replayed s lines)) totals same in
    omega (arith, h.no_less made.0 planned, made.2, ap (λ t. t.fetches) counted)

pub no_trace_fetches_less : NoTraceFetchesLess
no_trace_fetches_less s bytes spots l totals some needs h same = by_lines s (trace_in bytes) spots l totals some needs h same
