-- Bytes are set in copies, piece by piece.
use Rattle.std.proofs.Common.{◌≡◌, ℕ, suc, ◌+◌, ◌-◌, ◌*◌, ◌/◌, ◌%◌, ◌<◌, ◌≤◌, List, [], ◌∷◌, ◌++◌, length, get_or, drop, slice_range, refl, ap, sym, ◌∙◌, arith}
use Rattle.std.proofs.lemmas.List.{get_or-drop, length-take-le, length-drop}
use Rattle.std.proofs.lemmas.List.Folds.{drop_split}
use Rattle.spec_base.specs.Layout.{copies_start}
use Rattle.spec_base.specs.declared.layout.Layout.{Layout}
use Rattle.rv_model.specs.Memory.{Memory, patched, written}
use Rattle.rv_model.specs.Space.{Space}
use Rattle.code_model.specs.Regions.{entry_of, slot_address, copy_place, set_in_copies}
use Rattle.code_model.specs.Tables.{AreConsistent, all_regions}
use Rattle.cow_regions.specs.Fills.{SharesAlone, IsSet}
use Rattle.cow_regions.proofs.Copies.{consistent-above, entry-above}
use Rattle.cow_regions.proofs.RangeBytes.{patched-none, patched-alike, patched-more}

-- ---- bytes are put one behind another

-- so many of them are put
abbrev pub put_part : Space → ℕ → ℕ → List ℕ → Space
put_part s base n bytes = record s { shared = patched s.shared base n (λ i. get_or bytes i 0) }

pub put_part-none : (s : Space) (base : ℕ) (bytes : List ℕ) → s ≡ put_part s base 0 bytes
put_part-none s base bytes = ap (λ (m : Memory). record s { shared = m }) (patched-none s.shared base (λ i. get_or bytes i 0))

pub put_part-more : (s t u : Space) (base i k : ℕ) (bytes : List ℕ) → t ≡ put_part s base i bytes → u ≡ put_part t (base + i) k (drop i bytes) → u ≡ put_part s base (i + k) bytes
put_part-more s t u base i k bytes e after =
    after ∙ ap (λ (w : Space). put_part w (base + i) k (drop i bytes)) e
    ∙ ap (λ (m : Memory). record s { shared = m }) (patched-more s.shared base i k (λ j. get_or bytes j 0) (λ j. get_or (drop i bytes) j 0) (λ j h. get_or-drop i bytes j 0))

-- ---- one byte, and those behind it

-- a byte that is set
abbrev byte_set : Memory → ℕ → ℕ → Memory
byte_set shared a byte = patched shared (copy_place (entry_of shared (a / 256)) a) 1 (λ i. byte)

set-first : (shared : Memory) (a byte : ℕ) (bytes : List ℕ) → set_in_copies shared a (byte ∷ bytes) ≡ set_in_copies (byte_set shared a byte) (a + 1) bytes
unfolding set_in_copies
set-first shared a byte bytes = refl

set-none : (shared : Memory) (a : ℕ) (bytes : List ℕ) → bytes ≡ [] → set_in_copies shared a bytes ≡ shared
unfolding set_in_copies
set-none shared a bytes e = rw e refl

written-first : (m : Memory) (p q byte : ℕ) (bytes : List ℕ) → q ≡ p + 1 → written (patched m p 1 (λ i. byte)) q bytes ≡ written m p (byte ∷ bytes)
written-first m p q byte bytes e =
    let f : Memory = λ i. get_or (byte ∷ bytes) i 0 in
    let count : 1 + length bytes ≡ length (byte ∷ bytes) = omega arith in
    ap (λ (k : Memory). written k q bytes) (patched-alike m p 1 (λ i. byte) f (λ i h. first i (omega arith))) ∙ ap (λ (x : ℕ). written (patched m p 1 f) x bytes) e
    ∙ patched-more m p 1 (length bytes) f (λ i. get_or bytes i 0) (λ j h. next j) ∙ ap (λ (n : ℕ). patched m p n f) count
  where
    first : (i : ℕ) → i ≡ 0 → byte ≡ get_or (byte ∷ bytes) i 0
    first i e = rw e refl

    next : (j : ℕ) → get_or bytes j 0 ≡ get_or (byte ∷ bytes) (1 + j) 0
    next j = (let n : suc j ≡ 1 + j = omega arith in ap (λ (x : ℕ). get_or (byte ∷ bytes) x 0) n)

-- ---- bytes of one region

module _ (l : Layout) (few : l.regions ≤ 65536) (region e : ℕ) (inside : region < all_regions l) where
  pub set-piece : (piece rest : List ℕ) (shared : Memory) (o : ℕ) → entry_of shared region ≡ e → o + length piece ≤ 256
      → set_in_copies shared (256 * region + o) (piece ++ rest) ≡ set_in_copies (written shared (slot_address (e - 1) + o) piece) (256 * region + (o + length piece)) rest
  set-piece [] rest shared o is fits =
      let at : 256 * region + o ≡ 256 * region + (o + 0) = omega arith in
      ap (λ (x : ℕ). set_in_copies shared x rest) at ∙ ap (λ (m : Memory). set_in_copies m (256 * region + (o + 0)) rest) (patched-none shared (slot_address (e - 1) + o) (λ i. get_or [] i 0))
  set-piece (byte ∷ piece) rest shared o is fits =
      let a : ℕ = 256 * region + o in
      let place : ℕ = slot_address (e - 1) + o in
      let here : a / 256 ≡ region = omega arith in
      let off : a % 256 ≡ o = omega arith in
      let entry : entry_of shared (a / 256) ≡ e = ap (entry_of shared) here ∙ is in
      let at : copy_place (entry_of shared (a / 256)) a ≡ place = ap (λ (n : ℕ). copy_place n a) entry ∙ ap (λ (x : ℕ). slot_address (e - 1) + x) off in
      let next : Memory = patched shared place 1 (λ i. byte) in
      let kept : entry_of next region ≡ e = entry-above l few shared place 1 (λ i. byte) (omega arith) region inside ∙ is in
      let more : a + 1 ≡ 256 * region + (o + 1) = omega arith in
      let end : 256 * region + (o + 1 + length piece) ≡ 256 * region + (o + length (byte ∷ piece)) = omega arith in
      set-first shared a byte (piece ++ rest)
      ∙ ap (λ (p : ℕ). set_in_copies (patched shared p 1 (λ i. byte)) (a + 1) (piece ++ rest)) at
      ∙ ap (λ (x : ℕ). set_in_copies next x (piece ++ rest)) more
      ∙ set-piece piece rest next (o + 1) kept (omega arith)
      ∙ ap (λ (m : Memory). set_in_copies m (256 * region + (o + 1 + length piece)) rest) (written-first shared place (slot_address (e - 1) + (o + 1)) byte piece (omega arith))
      ∙ ap (λ (x : ℕ). set_in_copies (written shared place (byte ∷ piece)) x rest) end

-- ---- so many of the bytes are set, and those that are left come to the same

pub record AreSet (s t : Space) (a : ℕ) (bytes : List ℕ) (i : ℕ) : Type 0 where
  pub frame : t ≡ record s { shared = t.shared }
  pub rest : set_in_copies t.shared (a + i) (drop i bytes) ≡ set_in_copies s.shared a bytes
  pub consistent : AreConsistent s.layout t.shared
  pub entries : (region : ℕ) → region < all_regions s.layout → entry_of t.shared region ≡ entry_of s.shared region

pub AreSet-start : (s : Space) (a : ℕ) (bytes : List ℕ) → AreConsistent s.layout s.shared → AreSet s s a bytes 0
AreSet-start s a bytes ok = record { frame = refl; rest = (let e : a + 0 ≡ a = omega arith in ap (λ (x : ℕ). set_in_copies s.shared x bytes) e); consistent = ok; entries = λ region h. refl }

pub AreSet-more : (s t u : Space) (a : ℕ) (bytes : List ℕ) (i end : ℕ) → s.layout.regions ≤ 65536 → AreSet s t a bytes i → i ≤ end → end ≤ length bytes
    → (a + i) / 256 < all_regions s.layout → (a + i) % 256 + (end - i) ≤ 256
    → u ≡ record t { shared = written t.shared (copy_place (entry_of t.shared ((a + i) / 256)) (a + i)) (slice_range bytes i end) } → AreSet s u a bytes end
AreSet-more s t u a bytes i end few before order last inside fits e =
    let piece : List ℕ = slice_range bytes i end in
    let region : ℕ = (a + i) / 256 in
    let o : ℕ = (a + i) % 256 in
    let entry : ℕ = entry_of t.shared region in
    let place : ℕ = copy_place entry (a + i) in
    let count : length piece ≡ end - i = length-take-le (end - i) (drop i bytes) (omega (arith, length-drop i bytes)) in
    let next : Memory = written t.shared place piece in
    let of_old : u ≡ record s { shared = next } = e ∙ ap (λ (w : Space). record w { shared = next }) before.frame in
    let after : u.shared ≡ next = ap (λ (w : Space). w.shared) of_old in
    let at : 256 * region + o ≡ a + i = omega arith in
    let behind : a + end ≡ 256 * region + (o + length piece) = omega (arith, count, at) in
    let above : copies_start ≤ place = omega arith in
    record {
      frame = of_old ∙ ap (λ (m : Memory). record s { shared = m }) (sym after);
      rest =
          ap (λ (m : Memory). set_in_copies m (a + end) (drop end bytes)) after ∙ ap (λ (x : ℕ). set_in_copies next x (drop end bytes)) behind
          ∙ sym (set-piece s.layout few region entry inside piece (drop end bytes) t.shared o refl (omega (arith, count, fits)))
          ∙ ap (λ (x : ℕ). set_in_copies t.shared x (piece ++ drop end bytes)) at ∙ ap (set_in_copies t.shared (a + i)) (sym (drop_split bytes i end order)) ∙ before.rest;
      consistent = rw after (consistent-above s.layout few t.shared place (length piece) (λ j. get_or piece j 0) above before.consistent);
      entries = λ x h. ap (λ (m : Memory). entry_of m x) after ∙ entry-above s.layout few t.shared place (length piece) (λ j. get_or piece j 0) above x h ∙ before.entries x h;
    }

-- the next byte's region has the slot that it had, which the layout has
pub AreSet-slot : (s t : Space) (a : ℕ) (bytes : List ℕ) (i x : ℕ) → AreSet s t a bytes i → AreConsistent s.layout s.shared → 0 < entry_of s.shared (x / 256) → x / 256 < all_regions s.layout
    → (0 < entry_of t.shared (x / 256)) × (entry_of t.shared (x / 256) ≤ t.layout.regions)
AreSet-slot s t a bytes i x before ok some inside =
    let same : entry_of t.shared (x / 256) ≡ entry_of s.shared (x / 256) = before.entries (x / 256) inside in
    (omega (arith, same, some), omega (arith, same, ok.count, (ok.entry (x / 256) inside some).0, ap (λ (w : Space). w.layout.regions) before.frame))

pub AreSet-end : (s t : Space) (a : ℕ) (bytes : List ℕ) (i : ℕ) → drop i bytes ≡ [] → AreSet s t a bytes i → t ≡ record s { shared = set_in_copies s.shared a bytes }
AreSet-end s t a bytes i e before = before.frame ∙ ap (λ (m : Memory). record s { shared = m }) (sym (set-none t.shared (a + i) (drop i bytes) e) ∙ before.rest)

pub IsSet-from : (s t : Space) (a : ℕ) (bytes : List ℕ) (i : ℕ) → drop i bytes ≡ [] → AreSet s t a bytes i → IsSet s a bytes t
IsSet-from s t a bytes i e before = record { space = AreSet-end s t a bytes i e before; consistent = before.consistent; kept = λ region h some. before.entries region h }

-- ---- only what is shared changes

pub shares-more : (s t u : Space) → SharesAlone s t → SharesAlone t u → SharesAlone s u
shares-more s t u e f = f ∙ ap (λ (w : Space). record w { shared = u.shared }) e
