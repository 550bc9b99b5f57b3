-- Lemmas on what a pool keeps: its pages, and which frames are in use.
use Rattle.std.proofs.Common.{◌≡◌, ◌≢◌, ℕ, zero, suc, ◌+◌, ◌-◌, ◌<◌, ◌≤◌, Bool, true, false, if◌then◌else◌, cond, List, [], ◌∷◌, length, get_or, set, take, replicate, Option, Some, None, is_some, refl, ap, sym, ◌∙◌, arith, inl, inr}
use Rattle.std.specs.List.{count_by}
use Rattle.std.proofs.lemmas.List.{length-replicate, length-append, take_all, get_or-replicate, get_or_past, get_or_append_left, get_or-set_same, get_or-set_other}
use Rattle.std.proofs.lemmas.List.Sums.{sum_by-cons, sum_by-set, count_by_more_yes}
use Rattle.std.proofs.Math.Seq.{get_or-append_right}
use Rattle.std.proofs.lemmas.Bool.{cases_lt}
use Rattle.page_pool.specs.Pages.{blank_page, page_in, reached, with_page}
use Rattle.page_pool.specs.Storage.{frames_from, used_count}

-- ── A page ──

get_or-blanks : (n i : ℕ) → get_or (replicate n blank_page) i blank_page ≡ blank_page
get_or-blanks n i =
    elim (cases_lt i n) [
      | inl within ↦ get_or-replicate n i blank_page blank_page within
      | inr past ↦ get_or_past (replicate n blank_page) i blank_page (omega (arith, length-replicate n blank_page))
    ]

-- blank pages behind the last change none
reached-same : (pages : List (List ℕ)) (at i : ℕ) → page_in (reached pages at) i ≡ page_in pages i
reached-same pages at i =
    let blanks = replicate (at + 1 - length pages) blank_page in
    elim (cases_lt i (length pages)) [
      | inl within ↦ get_or_append_left pages blanks blank_page i within
      | inr past ↦ get_or-append_right pages blanks i blank_page (omega (arith, past)) ∙ get_or-blanks (at + 1 - length pages) (i - length pages) ∙ sym (get_or_past pages i blank_page (omega (arith, past)))
    ]

reached-length : (pages : List (List ℕ)) (at : ℕ) → at < length (reached pages at)
reached-length pages at =
    let blanks = replicate (at + 1 - length pages) blank_page in
    omega (arith, length-append pages blanks, length-replicate (at + 1 - length pages) blank_page)

pub with_page-same : (pages : List (List ℕ)) (at : ℕ) (page : List ℕ) → page_in (with_page pages at page) at ≡ page
with_page-same pages at page = get_or-set_same (reached pages at) at page blank_page (reached-length pages at)

pub with_page-other : (pages : List (List ℕ)) (at : ℕ) (page : List ℕ) (i : ℕ) → i ≢ at → page_in (with_page pages at page) i ≡ page_in pages i
with_page-other pages at page i apart = get_or-set_other (reached pages at) at i page blank_page apart ∙ reached-same pages at i

-- ── Frames ──

-- the frame at a place of the list
pub frames_from-at : (pages : List (List ℕ)) (k : ℕ) (used : List Bool) (i : ℕ) → get_or (frames_from pages k used) i None ≡ (if get_or used i false then Some (page_in pages (k + i)) else None)
frames_from-at pages k [] i =
    let none : Option (List ℕ) = None in
    get_or_past [] i none (omega arith) ∙ ap (λ b. if b then Some (page_in pages (k + i)) else None) (sym (get_or_past [] i false (omega arith)))
frames_from-at pages k (in_use ∷ rest) zero =
    let e : k ≡ k + zero = omega arith in ap (λ n. if in_use then Some (page_in pages n) else None) e
frames_from-at pages k (in_use ∷ rest) (suc i) =
    let e : k + 1 + i ≡ k + suc i = omega arith in
    frames_from-at pages (k + 1) rest i ∙ ap (λ n. if get_or rest i false then Some (page_in pages n) else None) e

count_cons : {X : Type 0} (f : X → Bool) (x : X) (xs : List X) → count_by f (x ∷ xs) ≡ cond (f x) 1 0 + count_by f xs
count_cons f x xs = sum_by-cons (λ y. cond (f y) 1 0) x xs

pub frames_from-count : (pages : List (List ℕ)) (k : ℕ) (used : List Bool) → count_by is_some (frames_from pages k used) ≡ used_count used
frames_from-count pages k [] = refl
frames_from-count pages k (true ∷ rest) =
    rw (count_cons is_some (Some (page_in pages k)) (frames_from pages (k + 1) rest), count_cons (λ (u : Bool). u) true rest) (ap (λ n. 1 + n) (frames_from-count pages (k + 1) rest))
frames_from-count pages k (false ∷ rest) =
    let none : Option (List ℕ) = None in
    rw (count_cons is_some none (frames_from pages (k + 1) rest), count_cons (λ (u : Bool). u) false rest) (ap (λ n. 0 + n) (frames_from-count pages (k + 1) rest))

pub frames_from-length : (pages : List (List ℕ)) (k : ℕ) (used : List Bool) → length (frames_from pages k used) ≡ length used
frames_from-length pages k [] = refl
frames_from-length pages k (in_use ∷ rest) = ap suc (frames_from-length pages (k + 1) rest)

-- the frames rest on the pages alone
pub frames_from-same : (old new : List (List ℕ)) → ((i : ℕ) → page_in new i ≡ page_in old i) → (k : ℕ) (used : List Bool) → frames_from new k used ≡ frames_from old k used
frames_from-same old new same k [] = refl
frames_from-same old new same k (in_use ∷ rest) =
    rw (same k, frames_from-same old new same (k + 1) rest) refl

-- ── How many are in use ──

abbrev one_if_used : Bool → ℕ
one_if_used used = cond used 1 0

pub used_count-taken : (used : List Bool) (k : ℕ) → k < length used → get_or used k false ≡ false → used_count (set used k true) ≡ used_count used + 1
used_count-taken used k inside free =
    let before : one_if_used (get_or used k false) ≡ 0 = ap one_if_used free in
    omega (arith, sum_by-set one_if_used used k true false inside, before)

pub used_count-given : (used : List Bool) (k : ℕ) → k < length used → get_or used k false ≡ true → used_count (set used k false) + 1 ≡ used_count used
used_count-given used k inside in_use =
    let before : one_if_used (get_or used k false) ≡ 1 = ap one_if_used in_use in
    omega (arith, sum_by-set one_if_used used k false false inside, before)

-- one number more of the first ones, which are all in use
pub used_count_next : (used : List Bool) (k : ℕ) → k < length used → get_or used k true ≡ true → used_count (take k used) ≡ k → used_count (take (k + 1) used) ≡ k + 1
used_count_next used k inside in_use all = count_by_more_yes (λ (u : Bool). u) used k true inside in_use ∙ ap (λ n. n + 1) all

pub used_count_all : (used : List Bool) (k : ℕ) → length used ≤ k → used_count (take k used) ≡ k → k ≤ length used → used_count used ≡ length used
used_count_all used k past all within =
    ap used_count (sym (take_all k used past)) ∙ all ∙ omega (arith, past, within)
