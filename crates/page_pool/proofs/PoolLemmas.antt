-- Lemmas on a pool by its fields.
use Rattle.std.proofs.Common.{◌≡◌, ◌≢◌, ℕ, ◌+◌, ◌-◌, ◌<◌, ◌≤◌, Bool, true, false, if◌then◌else◌, List, [], ◌∷◌, ◌++◌, length, get_or, set, Option, Some, None, IsSome, unwrap_or, refl, ap, sym, subst, ◌∙◌, arith, inl, inr}
use Rattle.std.specs.Vec.{with_item}
use Rattle.std.proofs.lemmas.List.{get_or_past, length-append, get_or_append_left, get_or-set_same, get_or-set_other, get_or_default, ext_get_or}
use Rattle.std.proofs.Math.ListN.{length-set}
use Rattle.std.proofs.Math.Seq.{get_or-append_seam}
use Rattle.std.proofs.lemmas.Bool.{cases_lt, cases_eq, false≢true}
use Rattle.page_pool.specs.Pages.{blank_page, page_in, with_page, Written}
use Rattle.page_pool.specs.Frames.{Frames, frame_at, bytes_at, with_bytes, IsInUse, IsTaken, IsWritten, IsGiven}
use Rattle.page_pool.specs.Storage.{frames_from, used_count, IsSound}
use Rattle.page_pool.specs.declared.pool.Pool.TheInside.{Inside}
use Rattle.page_pool.specs.contracts.pool.Pool.{the_view}
use Rattle.std.proofs.lemmas.List.Sums.{count_by-le-length}
use Rattle.page_pool.proofs.StorageLemmas.{with_page-same, with_page-other, frames_from-at, frames_from-length, used_count-given}

-- the frame of a number, where it is in use
frame_if : List (List ℕ) → ℕ → Bool → Option (List ℕ)
frame_if pages k in_use = if in_use then Some (page_in pages k) else None

pub frame_of : (p : Inside) (k : ℕ) → frame_at (the_view p) k ≡ (if get_or p.used.items k false then Some (page_in p.pages.pages k) else None)
frame_of p k =
    let e : 0 + k ≡ k = omega arith in
    frames_from-at p.pages.pages 0 p.used.items k ∙ ap (λ n. if get_or p.used.items k false then Some (page_in p.pages.pages n) else None) e

some_used : (b : Bool) (page : List ℕ) → IsSome (if b then Some page else None) → b ≡ true
some_used true page some = refl
some_used false page some = absurd (none some)
  where
    none : IsSome (let o : Option (List ℕ) = None in o) → ⊥
    none h = cc

pub is_used : (p : Inside) (k : ℕ) → IsInUse (the_view p) k → get_or p.used.items k false ≡ true
is_used p k used = some_used (get_or p.used.items k false) (page_in p.pages.pages k) (subst IsSome (frame_of p k) used)

pub is_numbered : (p : Inside) (k : ℕ) → get_or p.used.items k false ≡ true → k < length p.used.items
is_numbered p k used =
    elim (cases_lt k (length p.used.items)) [
      | inl within ↦ within
      | inr past ↦ absurd (false≢true (sym (get_or_past p.used.items k false (omega (arith, past))) ∙ used))
    ]

pub is_placed : (p : Inside) → IsSound p → (k : ℕ) → get_or p.used.items k false ≡ true → k < p.pages.room
is_placed p sound k used = omega (arith, is_numbered p k used, sound.placed, sound.taken, p.used.ok.0)

pub frame_used : (p : Inside) (k : ℕ) → get_or p.used.items k false ≡ true → frame_at (the_view p) k ≡ Some (page_in p.pages.pages k)
frame_used p k used = frame_of p k ∙ ap (λ b. if b then Some (page_in p.pages.pages k) else None) used

pub bytes_used : (p : Inside) (k : ℕ) → get_or p.used.items k false ≡ true → bytes_at (the_view p) k ≡ page_in p.pages.pages k
bytes_used p k used = let none : List ℕ = [] in ap (λ o. unwrap_or o none) (frame_used p k used)

-- what a caller asks of a frame, said of the pool's fields
pub is_used_by : (p : Inside) (k : ℕ) (self : Frames) (frame : ℕ) → the_view p ≡ self → k ≡ frame → IsInUse self frame → get_or p.used.items k false ≡ true
is_used_by p k self frame view number used = is_used p k (subst (λ q. IsInUse q k) (sym view) (subst (λ n. IsInUse self n) (sym number) used))

-- its bytes are those in its page
pub looked_up : (p : Inside) (k : ℕ) (self : Frames) (frame : ℕ) → the_view p ≡ self → k ≡ frame → IsInUse self frame → frame_at self frame ≡ Some (page_in p.pages.pages k)
looked_up p k self frame view number in_use =
    ap (λ q. frame_at q frame) (sym view)
    ∙ ap (λ n. frame_at (the_view p) n) (sym number)
    ∙ frame_used p k (is_used_by p k self frame view number in_use)

pub bytes_looked_up : (self : Frames) (frame : ℕ) (page : List ℕ) → frame_at self frame ≡ Some page → bytes_at self frame ≡ page
bytes_looked_up self frame page e = let none : List ℕ = [] in ap (λ o. unwrap_or o none) e

pub moved : (old new : Frames) (k : ℕ) (page : List ℕ) (self : Frames) (frame : ℕ) (bytes : List ℕ) → old ≡ self → k ≡ frame → page ≡ bytes → IsWritten old new k page → IsWritten self new frame bytes
moved old new k page self frame bytes view number same written =
    subst (λ q. IsWritten q new frame bytes) view (subst (λ n. IsWritten old new n bytes) number (subst (λ b. IsWritten old new k b) same written))

-- ── Other bytes in a frame ──

-- the pool with other pages
abbrev pub with_pages : Inside → Written → Inside
with_pages p pages = record { most = p.most; used = p.used; in_use = p.in_use; total = p.total; next = p.next; pages = pages }

module _ (p : Inside) (sound : IsSound p) (k : ℕ) (used : get_or p.used.items k false ≡ true) (page : List ℕ) (new : Written) (is : new ≡ record p.pages { pages = with_page p.pages.pages k page }) where
  page-same : page_in new.pages k ≡ page
  page-same = ap (λ (w : Written). page_in w.pages k) is ∙ with_page-same p.pages.pages k page

  page-other : (i : ℕ) → i ≢ k → page_in new.pages i ≡ page_in p.pages.pages i
  page-other i apart = ap (λ (w : Written). page_in w.pages i) is ∙ with_page-other p.pages.pages k page i apart

  placed : p.total ≤ new.room
  placed = let room : new.room ≡ p.pages.room = ap (λ (w : Written). w.room) is in omega (arith, sound.placed, room)

  unused-apart : (i : ℕ) → get_or p.used.items i false ≡ false → i ≢ k
  unused-apart i free e = false≢true (sym free ∙ ap (λ n. get_or p.used.items n false) e ∙ used)

  pub with_pages-sound : IsSound (with_pages p new)
  with_pages-sound = record {
    counted = sound.counted;
    within = sound.within;
    taken = sound.taken;
    room = sound.room;
    placed = placed;
    blank = λ i free. page-other i (unused-apart i free) ∙ sound.blank i free;
  }

  pub with_pages-written : IsWritten (the_view p) (the_view (with_pages p new)) k page
  with_pages-written = record {
    holds = frame_used (with_pages p new) k used ∙ ap Some page-same;
    others = λ other apart. frame_of (with_pages p new) other ∙ ap (λ page. if get_or p.used.items other false then Some page else None) (page-other other apart) ∙ sym (frame_of p other);
    in_use = refl;
    spare = refl;
    most = refl;
  }

  frames-is : (i : ℕ) → get_or (frames_from new.pages 0 p.used.items) i None ≡ get_or (set (frames_from p.pages.pages 0 p.used.items) k (Some page)) i None
  frames-is i =
      let nothing : Option (List ℕ) = None in
      let frames = frames_from p.pages.pages 0 p.used.items in
      elim (cases_eq i k) [
        | inl same ↦ ap (λ n. frame_at (the_view (with_pages p new)) n) same ∙ with_pages-written.holds ∙ sym (get_or-set_same frames k (Some page) nothing (omega (arith, is_numbered p k used, frames_from-length p.pages.pages 0 p.used.items))) ∙ ap (λ n. get_or (set frames k (Some page)) n nothing) (sym same)
        | inr other ↦ with_pages-written.others i other ∙ sym (get_or-set_other frames k i (Some page) nothing other)
      ]

  pub with_pages-view : the_view (with_pages p new) ≡ with_bytes (the_view p) k page
  with_pages-view =
      let nothing : Option (List ℕ) = None in
      let now = frames_from new.pages 0 p.used.items in
      let old = frames_from p.pages.pages 0 p.used.items in
      let long : length now ≡ length (set old k (Some page)) = frames_from-length new.pages 0 p.used.items ∙ sym (frames_from-length p.pages.pages 0 p.used.items) ∙ sym (length-set old k (Some page)) in
      ap (λ frames. record { frames = frames; in_use = p.in_use; spare = p.total - p.in_use; most = p.most }) (ext_get_or nothing now (set old k (Some page)) long (λ i within. frames-is i))

  -- ── A frame given back ──

  -- the pool with the pages, and the number no longer in use
  abbrev pub without : Inside
  without = record { most = p.most; used = with_item p.used k false; in_use = p.in_use - 1; total = p.total; next = k; pages = new }

  given-count : used_count (set p.used.items k false) + 1 ≡ used_count p.used.items
  given-count = used_count-given p.used.items k (is_numbered p k used) used

  pub some_in_use : 1 ≤ p.in_use
  some_in_use = omega (arith, given-count, sound.counted)

  pub without-sound : page ≡ blank_page → IsSound without
  without-sound cleared = record {
    counted = omega (arith, given-count, sound.counted);
    within = sound.within;
    taken = sound.taken;
    room = sound.room;
    placed = placed;
    blank = λ i free. elim (cases_eq i k) [
      | inl same ↦ ap (λ n. page_in new.pages n) same ∙ page-same ∙ cleared
      | inr other ↦ let was_free : get_or p.used.items i false ≡ false = sym (get_or-set_other p.used.items k i false false other) ∙ free in page-other i other ∙ sound.blank i was_free
    ];
  }

  pub without-given : IsGiven (the_view p) (the_view without) k
  without-given = record {
    free = frame_of without k ∙ ap (λ b. if b then Some (page_in new.pages k) else None) (get_or-set_same p.used.items k false false (is_numbered p k used));
    others = λ other apart.
        frame_of without other
        ∙ ap (λ b. if b then Some (page_in new.pages other) else None) (get_or-set_other p.used.items k other false false apart)
        ∙ ap (λ page. if get_or p.used.items other false then Some page else None) (page-other other apart)
        ∙ sym (frame_of p other);
    in_use = omega (arith, some_in_use);
    spare = omega (arith, some_in_use, sound.counted, sound.taken, p.used.ok.0, count_by-le-length (λ (u : Bool). u) p.used.items);
    most = refl;
  }

-- the same, said of what a caller sees
pub given_by : (old new : Frames) (k : ℕ) (self : Frames) (frame : ℕ) → old ≡ self → k ≡ frame → IsGiven old new k → IsGiven self new frame
given_by old new k self frame view number given = subst (λ q. IsGiven q new frame) view (subst (λ n. IsGiven old new n) number given)

-- ── A frame taken ──

-- a number that isn't in use is one of those in the list
pub is_free : (used : List Bool) (k : ℕ) → get_or used k true ≡ false → k < length used × get_or used k false ≡ false
is_free used k free =
    elim (cases_lt k (length used)) [
      | inl within ↦ (within, get_or_default used k false true within ∙ free)
      | inr past ↦ absurd (false≢true (sym free ∙ get_or_past used k true (omega (arith, past))))
    ]

pub is_taken : (p q : Inside) (k : ℕ) → IsSound p → get_or p.used.items k false ≡ false → get_or q.used.items k false ≡ true → ((i : ℕ) → i ≢ k → get_or q.used.items i false ≡ get_or p.used.items i false) → q.pages.pages ≡ p.pages.pages → q.in_use ≡ p.in_use + 1 → q.total ≡ p.total → q.most ≡ p.most → p.in_use < p.total → IsTaken (the_view p) (the_view q) k
is_taken p q k sound free used others pages in_use total most spare = record {
  was_free = frame_of p k ∙ ap (λ b. if b then Some (page_in p.pages.pages k) else None) free;
  blank = frame_used q k used ∙ ap (λ cs. Some (page_in cs k)) pages ∙ ap Some (sound.blank k free);
  others = λ other apart.
      frame_of q other
      ∙ ap (λ b. if b then Some (page_in q.pages.pages other) else None) (others other apart)
      ∙ ap (λ cs. if get_or p.used.items other false then Some (page_in cs other) else None) pages
      ∙ sym (frame_of p other);
  in_use = in_use;
  spare = omega (arith, in_use, total, spare);
  most = most;
}

pub pushed-at : (used : List Bool) (k : ℕ) → k ≡ length used → get_or (used ++ true ∷ []) k false ≡ true
pushed-at used k last = ap (λ n. get_or (used ++ true ∷ []) n false) last ∙ get_or-append_seam used true [] false

pub pushed-other : (used : List Bool) (k i : ℕ) → k ≡ length used → i ≢ k → get_or (used ++ true ∷ []) i false ≡ get_or used i false
pushed-other used k i last apart =
    elim (cases_lt i (length used)) [
      | inl within ↦ get_or_append_left used (true ∷ []) false i within
      | inr past ↦ elim (cases_lt (length used) i) [
        | inl behind ↦ get_or_past (used ++ true ∷ []) i false (omega (arith, behind, length-append used (true ∷ []))) ∙ sym (get_or_past used i false (omega (arith, past)))
        | inr up ↦ absurd (apart (omega (arith, past, up, last)))
      ]
    ]

pub few_in_use : (p : Inside) → IsSound p → p.in_use ≢ p.total → p.in_use < p.total
few_in_use p sound apart =
    let most : p.in_use ≤ p.total = omega (arith, sound.counted, sound.taken, p.used.ok.0, count_by-le-length (λ (u : Bool). u) p.used.items) in
    elim (cases_lt p.in_use p.total) [
      | inl less ↦ less
      | inr past ↦ absurd (apart (omega (arith, most, past)))
    ]
