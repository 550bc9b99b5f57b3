-- The blocks of a read, and its bytes among theirs.
use Rattle.std.proofs.Common.{◌≡◌, ◌≢◌, ℕ, zero, suc, ◌+◌, ◌-◌, ◌*◌, ◌/◌, ◌%◌, ◌≤◌, ◌∙◌, false, List, [], ◌∷◌, ◌++◌, length, take, drop, ap, sym, refl, subst, arith, Some, None, Option, IfSome, add-one}
use Rattle.std.specs.Prelude.{unwrap_or}
use Rattle.std.proofs.Math.ListN.{replicate}
use Rattle.std.proofs.Math.Seq.{take-add, take-nil, drop-nil, take-append-add}
use Rattle.std.proofs.lemmas.List.{drop-drop, drop-take, take-take, take-append-le, length-take-le, length-drop}
use Rattle.spec_base.specs.Files.{Name, Files}
use Rattle.spec_base.specs.declared.spot.ReadSpot.{ReadSpot}
use Rattle.program_model.specs.Cache.{blocks_up, blocks_touched, blocks_of}
use Rattle.program_model.specs.Calls.{bytes_read}
use Rattle.world_io.specs.Outside.{StoreState, KeepsFiles, Counts}
use Rattle.world_io.specs.Logs.{StoreLog}
use Rattle.world_io.specs.Fetches.{FetchSays, block_of}
use Rattle.world_io.specs.declared.store.Fetch.TheVariants.{Got}
use Rattle.world_io.proofs.Stores.{call-StoreLog}
use Rattle.plain_runner.specs.Outcomes.{FetchesTo}

-- ---- how many blocks

-- n blocks are n
pub blocks_up-length : (name : Name) (first n : ℕ) → length (blocks_up name first n) ≡ n
blocks_up-length name first zero = refl
blocks_up-length name first (suc n) = ap suc (blocks_up-length name (first + 1) n)

less_one : (n : ℕ) → suc n - 1 ≡ n
less_one n = omega arith

-- how many blocks hold a byte of a read of some bytes
pub block_count-is : (spot : ReadSpot) → spot.count ≢ 0 → (spot.offset + (spot.count - 1)) / 4096 - spot.offset / 4096 + 1 ≡ length (blocks_of spot)
block_count-is spot some = by spot.count some
  where
    by : (n : ℕ) → n ≢ 0 → (spot.offset + (n - 1)) / 4096 - spot.offset / 4096 + 1 ≡ length (blocks_touched spot n)
    by zero h = absurd (h refl)
    by (suc n) h = rw (less_one n) (sym (blocks_up-length spot.name (spot.offset / 4096) ((spot.offset + n) / 4096 - spot.offset / 4096 + 1)))

-- a read of no bytes has no block
pub no_blocks : (spot : ReadSpot) → spot.count ≡ 0 → length (blocks_of spot) ≡ 0
no_blocks spot none = ap (λ n. length (blocks_touched spot n)) none

-- the bytes of a read end within its blocks
blocks_cover : (spot : ReadSpot) → spot.count ≢ 0 → spot.offset % 4096 + spot.count ≤ 4096 * length (blocks_of spot)
blocks_cover spot some = let count = block_count-is spot some in omega arith

-- ---- the bytes of a read

-- n bytes past some others, of the first m from a start on
inner : (xs : List ℕ) (start skip n m : ℕ) → skip + n ≤ m → take n (drop skip (take m (drop start xs))) ≡ take n (drop (start + skip) xs)
inner xs start skip n m h =
    let long : m ≡ skip + (n + (m - (skip + n))) = omega arith in
    ap (λ k. take n (drop skip (take k (drop start xs)))) long
    ∙ (ap (take n) (drop-take skip (n + (m - (skip + n))) (drop start xs))
    ∙ (first_of (drop skip (drop start xs)) (m - (skip + n))
    ∙ ap (take n) (drop-drop skip start xs)))
  where
    first_of : (ys : List ℕ) (r : ℕ) → take n (take (n + r) ys) ≡ take n ys
    first_of ys r = take-take n (n + r) ys (omega arith)

-- the bytes of a file, which are none where it is absent
abbrev pub content : Files → Name → List ℕ
content files name = unwrap_or (files name) []

-- the bytes of a read, of those of its blocks
pub read-is : (files : Files) (spot : ReadSpot) → bytes_read files spot ≡ take spot.count (drop (spot.offset % 4096) (take (4096 * length (blocks_of spot)) (drop (4096 * (spot.offset / 4096)) (content files spot.name))))
read-is files spot = by spot.count refl
  where
    place : 4096 * (spot.offset / 4096) + spot.offset % 4096 ≡ spot.offset
    place = omega arith

    by : (n : ℕ) → spot.count ≡ n → bytes_read files spot ≡ take spot.count (drop (spot.offset % 4096) (take (4096 * length (blocks_of spot)) (drop (4096 * (spot.offset / 4096)) (content files spot.name))))
    by zero e = rw e refl
    by (suc n) e =
        let some : spot.count ≢ 0 = (λ z. (let f : suc n ≡ 0 = sym e ∙ z in omega arith)) in
        ap (λ a. take spot.count (drop a (content files spot.name))) (sym place)
        ∙ sym (inner (content files spot.name) (4096 * (spot.offset / 4096)) (spot.offset % 4096) spot.count (4096 * length (blocks_of spot)) (blocks_cover spot some))

-- ---- how far the blocks have been fetched

pub record FetchLog (old : StoreState) (spot : ReadSpot) (index had : ℕ) (into : List ℕ) (now : StoreState) : Type 0 where
  pub went : StoreLog old (replicate index false) now
  pub most : had ≤ 4096 * index
  pub told : (files : Files) → old.files ≡ Some files → take had into ≡ take (4096 * index) (drop (4096 * (spot.offset / 4096)) (content files spot.name))

-- a block is a part of the bytes of its file
block-is : (o : Option (List ℕ)) (block : ℕ) → block_of o block ≡ take 4096 (drop (4096 * block) (unwrap_or o []))
block-is None block = sym (ap (take 4096) (drop-nil (4096 * block)) ∙ take-nil 4096)
block-is (Some bytes) block = refl

-- a part of a buffer has as many bytes as its bounds say
pub mid-length : (had n : ℕ) (into : List ℕ) → had + n ≤ length into → length (take (had + n - had) (drop had into)) ≡ n
mid-length had n into room =
    let long : had + n - had ≡ n = omega arith in
    let rest : length (drop had into) ≡ length into - had = length-drop had into in
    ap (λ k. length (take k (drop had into))) long ∙ length-take-le n (drop had into) (omega (arith, rest, room))

-- so many bytes from the front, with some of a part behind the first
grown : (had count : ℕ) (into part rest : List ℕ) → had ≤ length into → count ≤ length part → take (had + count) (take had into ++ (part ++ rest)) ≡ take had into ++ take count part
grown had count into part rest low few =
    let long : length (take had into) ≡ had = length-take-le had into low in
    ap (λ n. take (n + count) (take had into ++ (part ++ rest))) (sym long)
    ∙ (take-append-add (take had into) (part ++ rest) count ∙ ap (λ w. take had into ++ w) (take-append-le count part rest few))

-- a block more
pub got-FetchLog : (a b c : StoreState) (spot : ReadSpot) (index had count : ℕ) (into part rest : List ℕ) → FetchLog a spot index had into b
    → had ≤ length into → count ≤ length part → count ≤ 4096 → KeepsFiles b c → Counts b false c
    → IfSome b.files (λ files. FetchSays (files spot.name) (spot.offset / 4096 + index) (Got count) part)
    → FetchLog a spot (index + 1) (had + count) (take had into ++ (part ++ rest)) c
got-FetchLog a b c spot index had count into part rest log low few small keeps counts told = record {
  went = subst (λ n. StoreLog a (replicate n false) c) (sym (add-one index)) (call-StoreLog a b c (replicate index false) false log.went keeps (λ e. cc) counts);
  most = omega (arith, log.most);
  told = λ files e. by files e (subst (λ o. IfSome o (λ fs. FetchSays (fs spot.name) (spot.offset / 4096 + index) (Got count) part)) (log.went.keeps.files ∙ e) told);
}
  where
    place : 4096 * (index + 1) ≡ 4096 * index + 4096
    place = omega arith

    start : 4096 * (spot.offset / 4096 + index) ≡ 4096 * (spot.offset / 4096) + 4096 * index
    start = omega arith

    by : (files : Files) → a.files ≡ Some files → FetchSays (files spot.name) (spot.offset / 4096 + index) (Got count) part
        → take (had + count) (take had into ++ (part ++ rest)) ≡ take (4096 * (index + 1)) (drop (4096 * (spot.offset / 4096)) (content files spot.name))
    by files e says =
        let block : take count part ≡ take 4096 (drop (4096 * index) (drop (4096 * (spot.offset / 4096)) (content files spot.name))) =
        says.1 ∙ (block-is (files spot.name) (spot.offset / 4096 + index)
        ∙ ap (take 4096) (ap (λ n. drop n (content files spot.name)) start ∙ sym (drop-drop (4096 * index) (4096 * (spot.offset / 4096)) (content files spot.name)))) in
        grown had count into part rest low few
        ∙ (ap (λ w. w ++ take count part) (log.told files e)
        ∙ (ap (λ w. take (4096 * index) (drop (4096 * (spot.offset / 4096)) (content files spot.name)) ++ w) block
        ∙ (sym (take-add (4096 * index) 4096 (drop (4096 * (spot.offset / 4096)) (content files spot.name)))
        ∙ ap (λ n. take n (drop (4096 * (spot.offset / 4096)) (content files spot.name))) (sym place))))

-- all blocks
pub whole-FetchesTo : (a b : StoreState) (spot : ReadSpot) (index had : ℕ) (into : List ℕ) → FetchLog a spot index had into b → index ≡ length (blocks_of spot) → had ≤ length into
    → FetchesTo spot a (Some had) into b
whole-FetchesTo a b spot index had into log all low = (
  low,
  subst (λ n. StoreLog a (replicate n false) b) all log.went,
  (λ files e.
      read-is files spot
      ∙ (ap (λ n. take spot.count (drop (spot.offset % 4096) (take (4096 * n) (drop (4096 * (spot.offset / 4096)) (content files spot.name))))) (sym all)
      ∙ ap (λ w. take spot.count (drop (spot.offset % 4096) w)) (sym (log.told files e)))),
)
