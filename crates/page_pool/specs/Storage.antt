-- What holds of a pool's fields.
use Rattle.std.specs.Prelude.{◌≡◌, ℕ, ◌+◌, ◌≤◌, Bool, false, if◌then◌else◌, List, [], ◌∷◌, Option, Some, None, vec_len, vec_capacity, count_by, slice_index_or}
use Rattle.page_pool.specs.Pages.{blank_page, page_in}
use Rattle.page_pool.specs.declared.pool.Pool.TheInside.{Inside}

-- the frames from a number on: the page of each that is in use
abbrev pub frames_from : List (List ℕ) → ℕ → List Bool → List (Option (List ℕ))
frames_from pages k [] = []
frames_from pages k (in_use ∷ rest) = (if in_use then Some (page_in pages k) else None) ∷ frames_from pages (k + 1) rest

-- how many frames are in use
abbrev pub used_count : List Bool → ℕ
used_count = count_by (λ in_use. in_use)

-- the frames in use are counted; there are never more frames than the pool may hold; there is room to
-- take each, and for its page; the page of a number that isn't in use is blank
pub record IsSound (p : Inside) : Type 0 where
  pub counted : p.in_use ≡ used_count p.used.items
  pub within : p.total ≤ p.most
  pub taken : vec_len p.used ≤ p.total
  pub room : p.total ≤ vec_capacity p.used
  pub placed : p.total ≤ p.pages.room
  pub blank : (k : ℕ) → slice_index_or p.used.items k false ≡ false → page_in p.pages.pages k ≡ blank_page
