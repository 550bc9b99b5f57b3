-- The bytes of a read stand in its blocks.
use Rattle.std.proofs.Common.{◌≡◌, ℕ, zero, suc, ◌+◌, ◌-◌, ◌*◌, ◌/◌, ◌%◌, ◌<◌, ◌≤◌, List, [], ◌∷◌, ◌++◌, length, get_or, take, drop, replicate, Option, Some, None, inl, inr, ◌⊎◌, refl, sym, ap, subst, ◌∙◌, arith, length-append, IfSome}
use Rattle.std.specs.Prelude.{unwrap_or}
use Rattle.std.specs.List.{flat_map}
use Rattle.std.proofs.lemmas.Bool.{cases_lt}
use Rattle.std.proofs.lemmas.List.{get_or-take, get_or-drop, get_or_append_left, get_or-append_right, ext_get_or, length-take-le, length-take, length-drop, length-replicate, take-append-le, take_all, append_assoc, append-nil}
use Rattle.std.proofs.Math.Seq.{take-append-add}
use Rattle.spec_base.specs.Files.{Name, Files}
use Rattle.spec_base.specs.declared.spot.ReadSpot.{ReadSpot}
use Rattle.program_model.specs.Cache.{blocks_up, blocks_touched}
use Rattle.world_io.specs.Fetches.{block_of}
use Rattle.cache_queue.specs.Finishes.{padded_block, TrueTo, FinishTells}
use Rattle.spec_base.specs.declared.spot.BlockSpot.{BlockSpot}
use Rattle.cache_queue.specs.State.{CachedBlocks, SameBytes, bytes_of}
use Rattle.runner_parts.specs.Staged.{BytesAreStaged, joined as joined_of, joined_up, StandsBehind}
use Rattle.cache_queue.specs.declared.finish.Finished.{Finished}
use Rattle.cache_queue.specs.declared.finish.Finished.TheVariants.{Nothing, Put, Lost, Dropped, Fault}

abbrev content : Files → Name → List ℕ
content files name = unwrap_or (files name) []

-- ---- one block

zeros-at : (n i : ℕ) → let zeros : List ℕ = replicate n 0 in get_or zeros i 0 ≡ 0
zeros-at zero i = refl
zeros-at (suc n) zero = refl
zeros-at (suc n) (suc i) = zeros-at n i

-- zeros behind a list are what is past its end
padded-at : (xs : List ℕ) (n i : ℕ) → get_or (xs ++ replicate n 0) i 0 ≡ get_or xs i 0
padded-at [] n i = zeros-at n i
padded-at (x ∷ xs) n zero = refl
padded-at (x ∷ xs) n (suc i) = padded-at xs n i

block-at : (o : Option (List ℕ)) (b i : ℕ) → i < 4096 → get_or (padded_block o b) i 0 ≡ get_or (unwrap_or o []) (4096 * b + i) 0
block-at None b i l = padded-at [] (4096 - length (block_of None b)) i
block-at (Some bytes) b i l =
    padded-at (block_of (Some bytes) b) (4096 - length (block_of (Some bytes) b)) i ∙ get_or-take 4096 (drop (4096 * b) bytes) i 0 l ∙ get_or-drop (4096 * b) bytes i 0

few : (o : Option (List ℕ)) (b : ℕ) → length (block_of o b) ≤ 4096
few None b = omega arith
few (Some bytes) b = omega (arith, length-take 4096 (drop (4096 * b) bytes))

block-length : (o : Option (List ℕ)) (b : ℕ) → length (padded_block o b) ≡ 4096
block-length o b =
    let zeros : List ℕ = replicate (4096 - length (block_of o b)) 0 in
    let fill : length zeros ≡ 4096 - length (block_of o b) = length-replicate (4096 - length (block_of o b)) 0 in
    let all : length (block_of o b ++ zeros) ≡ length (block_of o b) + length zeros = length-append (block_of o b) zeros in
    all ∙ omega (arith, fill, few o b)

-- ---- blocks, one after the other

module _ (files : Files) (name : Name) where
  abbrev joined : ℕ → ℕ → List ℕ
  joined first n = flat_map (λ b. padded_block (files b.name) b.block) (blocks_up name first n)

  joined-length : (n first : ℕ) → length (joined first n) ≡ 4096 * n
  joined-length zero first = refl
  joined-length (suc n) first =
      let more = length-append (padded_block (files name) first) (joined (first + 1) n) in
      omega (arith, more, block-length (files name) first, joined-length n (first + 1))

  joined-at : (n first j : ℕ) → j < 4096 * n → get_or (joined first n) j 0 ≡ get_or (content files name) (4096 * first + j) 0
  joined-at zero first j l = absurd (omega (arith, l))
  joined-at (suc n) first j l = by_place (λ low. joined-at n (first + 1) (j - 4096) (omega (arith, l, low))) (cases_lt j 4096)
    where
      by_place : (4096 ≤ j → get_or (joined (first + 1) n) (j - 4096) 0 ≡ get_or (content files name) (4096 * (first + 1) + (j - 4096)) 0) → (j < 4096) ⊎ (4096 ≤ j)
          → get_or (padded_block (files name) first ++ joined (first + 1) n) j 0 ≡ get_or (content files name) (4096 * first + j) 0
      by_place later (inl low) = get_or_append_left (padded_block (files name) first) (joined (first + 1) n) 0 j (omega (arith, low, block-length (files name) first)) ∙ block-at (files name) first j low
      by_place later (inr high) =
          (let place : 4096 * (first + 1) + (j - 4096) ≡ 4096 * first + j = omega (arith, high) in
          get_or-append_right (padded_block (files name) first) (joined (first + 1) n) 4096 j 0 (block-length (files name) first) high
          ∙ later high ∙ ap (λ (k : ℕ). get_or (content files name) k 0) place)

-- ---- the bytes of a read

some-bytes :
    (files : Files) (spot : ReadSpot) (rest : List ℕ) (n blocks : ℕ) (all : List ℕ) → all ≡ joined files spot.name (spot.offset / 4096) blocks → spot.offset % 4096 + n ≤ 4096 * blocks
    → length (take n (drop spot.offset (content files spot.name))) ≡ n
    → take n (drop (spot.offset % 4096) (all ++ rest)) ≡ take n (drop spot.offset (content files spot.name))
some-bytes files spot rest n blocks all is room long =
    let size : length all ≡ 4096 * blocks = ap length is ∙ joined-length files spot.name blocks (spot.offset / 4096) in
    let skipped : length (drop (spot.offset % 4096) (all ++ rest)) ≡ length (all ++ rest) - spot.offset % 4096 = length-drop (spot.offset % 4096) (all ++ rest) in
    let front : length (take n (drop (spot.offset % 4096) (all ++ rest))) ≡ n = length-take-le n (drop (spot.offset % 4096) (all ++ rest)) (omega (arith, size, skipped, length-append all rest, room)) in
    ext_get_or 0 (take n (drop (spot.offset % 4096) (all ++ rest))) (take n (drop spot.offset (content files spot.name))) (front ∙ sym long)
    (λ i low.
    let l : i < n = omega (arith, low, front) in
    let place : 4096 * (spot.offset / 4096) + (spot.offset % 4096 + i) ≡ spot.offset + i = omega arith in
    get_or-take n (drop (spot.offset % 4096) (all ++ rest)) i 0 l ∙ get_or-drop (spot.offset % 4096) (all ++ rest) i 0
    ∙ get_or_append_left all rest 0 (spot.offset % 4096 + i) (omega (arith, size, room, l)) ∙ ap (λ (k : List ℕ). get_or k (spot.offset % 4096 + i) 0) is
    ∙ joined-at files spot.name blocks (spot.offset / 4096) (spot.offset % 4096 + i) (omega (arith, room, l)) ∙ ap (λ (k : ℕ). get_or (content files spot.name) k 0) place
    ∙ sym (get_or-drop spot.offset (content files spot.name) i 0) ∙ sym (get_or-take n (drop spot.offset (content files spot.name)) i 0 l))

pub bytes_are_staged : BytesAreStaged
bytes_are_staged files spot rest long = by spot.count long
  where
    by : (n : ℕ) → length (take n (drop spot.offset (content files spot.name))) ≡ n
        → take n (drop (spot.offset % 4096) (flat_map (λ b. padded_block (files b.name) b.block) (blocks_touched spot n) ++ rest)) ≡ take n (drop spot.offset (content files spot.name))
    by zero h = refl
    by (suc n) h = some-bytes files spot rest (suc n) ((spot.offset + n) / 4096 - spot.offset / 4096 + 1) (joined files spot.name (spot.offset / 4096) ((spot.offset + n) / 4096 - spot.offset / 4096 + 1)) refl (omega arith) h

-- ---- a block more

-- blocks up to one, and that one
joined-snoc : (files : Files) (name : Name) (i first : ℕ) → joined_up files name first (suc i) ≡ joined_up files name first i ++ padded_block (files name) (first + i)
joined-snoc files name zero first = append-nil (padded_block (files name) first) ∙ (let place : first ≡ first + 0 = omega arith in ap (λ (k : ℕ). padded_block (files name) k) place)
joined-snoc files name (suc i) first =
    let place : first + 1 + i ≡ first + suc i = omega arith in
    ap (λ (k : List ℕ). padded_block (files name) first ++ k) (joined-snoc files name i (first + 1) ∙ ap (λ (k : ℕ). joined_up files name (first + 1) i ++ padded_block (files name) k) place)
    ∙ sym (append_assoc (padded_block (files name) first) (joined_up files name (first + 1) i) (padded_block (files name) (first + suc i)))

-- the blocks so far, in front of a block that was put behind them
pub one-more :
    (files : Files) (name : Name) (first i : ℕ) (into part rest : List ℕ) → 4096 * i ≤ length into → part ≡ padded_block (files name) (first + i) → take (4096 * i) into ≡ joined_up files name first i
    → take (4096 * (i + 1)) (take (4096 * i) into ++ (part ++ rest)) ≡ joined_up files name first (i + 1)
one-more files name first i into part rest room is front =
    let long : length (take (4096 * i) into) ≡ 4096 * i = length-take-le (4096 * i) into room in
    let block : length part ≡ 4096 = ap length is ∙ block-length (files name) (first + i) in
    let next : 4096 * (i + 1) ≡ length (take (4096 * i) into) + 4096 = omega (arith, long) in
    let whole : 4096 ≤ length part = omega (arith, block) in
    let all : take 4096 part ≡ part = take_all 4096 part (omega (arith, block)) in
    ap (λ (k : ℕ). take k (take (4096 * i) into ++ (part ++ rest))) next
    ∙ take-append-add (take (4096 * i) into) (part ++ rest) 4096
    ∙ ap (λ (k : List ℕ). take (4096 * i) into ++ k) (take-append-le 4096 part rest whole ∙ all ∙ is)
    ∙ ap (λ (k : List ℕ). k ++ padded_block (files name) (first + i)) front
    ∙ sym (joined-snoc files name i first) ∙ (let next : suc i ≡ i + 1 = omega arith in ap (λ (k : ℕ). joined_up files name first k) next)

-- of a cached block
pub known : (files : Files) (old now : CachedBlocks) (spot : BlockSpot) (bytes : List ℕ) → TrueTo files old → SameBytes old now → bytes_of now spot ≡ Some bytes → bytes ≡ padded_block (files spot.name) spot.block
known files old now spot bytes true_to same is = subst (λ (o : Option (List ℕ)). IfSome o (λ bytes. bytes ≡ padded_block (files spot.name) spot.block)) (sym (same spot) ∙ is) (true_to spot)

-- ---- behind blocks of any kind

joined-append : (files : Files) (xs : List BlockSpot) (spot : BlockSpot) → joined_of files (xs ++ spot ∷ []) ≡ joined_of files xs ++ padded_block (files spot.name) spot.block
joined-append files [] spot = append-nil (padded_block (files spot.name) spot.block)
joined-append files (x ∷ xs) spot =
    ap (λ (k : List ℕ). padded_block (files x.name) x.block ++ k) (joined-append files xs spot)
    ∙ sym (append_assoc (padded_block (files x.name) x.block) (joined_of files xs) (padded_block (files spot.name) spot.block))

-- a block that was put behind some others
block-behind :
    (files : Files) (blocks : List BlockSpot) (spot : BlockSpot) (i : ℕ) (into part rest : List ℕ) → 4096 * i ≤ length into → take (4096 * i) into ≡ joined_of files blocks
    → part ≡ padded_block (files spot.name) spot.block → take (4096 * (i + 1)) (take (4096 * i) into ++ (part ++ rest)) ≡ joined_of files (blocks ++ spot ∷ [])
block-behind files blocks spot i into part rest room front is =
    let long : length (take (4096 * i) into) ≡ 4096 * i = length-take-le (4096 * i) into room in
    let block : length part ≡ 4096 = ap length is ∙ block-length (files spot.name) spot.block in
    let next : 4096 * (i + 1) ≡ length (take (4096 * i) into) + 4096 = omega (arith, long) in
    let whole : 4096 ≤ length part = omega (arith, block) in
    let all : take 4096 part ≡ part = take_all 4096 part (omega (arith, block)) in
    ap (λ (k : ℕ). take k (take (4096 * i) into ++ (part ++ rest))) next
    ∙ take-append-add (take (4096 * i) into) (part ++ rest) 4096
    ∙ ap (λ (k : List ℕ). take (4096 * i) into ++ k) (take-append-le 4096 part rest whole ∙ all ∙ is)
    ∙ ap (λ (k : List ℕ). k ++ padded_block (files spot.name) spot.block) front
    ∙ sym (joined-append files blocks spot)

pub stands-behind :
    (files : Files) (blocks : List BlockSpot) (i : ℕ) (into part rest : List ℕ) (f : Finished) → 4096 * i ≤ length into → take (4096 * i) into ≡ joined_of files blocks
    → FinishTells files f part → StandsBehind files blocks i (take (4096 * i) into ++ (part ++ rest)) f
stands-behind files blocks i into part rest (Put spot) room front tells = block-behind files blocks spot i into part rest room front tells
stands-behind files blocks i into part rest (Lost spot) room front tells = block-behind files blocks spot i into part rest room front tells
stands-behind files blocks i into part rest Nothing room front tells = tt
stands-behind files blocks i into part rest (Dropped spot) room front tells = tt
stands-behind files blocks i into part rest (Fault spot) room front tells = tt

-- a part of a buffer has as many bytes as its bounds say
pub mid-length : (had n : ℕ) (into : List ℕ) → had + n ≤ length into → length (take (had + n - had) (drop had into)) ≡ n
mid-length had n into room =
    let long : had + n - had ≡ n = omega arith in
    let rest : length (drop had into) ≡ length into - had = length-drop had into in
    ap (λ (k : ℕ). length (take k (drop had into))) long ∙ length-take-le n (drop had into) (omega (arith, rest, room))
