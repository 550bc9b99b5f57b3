-- Pages of 4,096 bytes, side by side (this project's own).
use Rattle.std.specs.Prelude.{ℕ, ◌+◌, ◌-◌, List, ◌++◌, length, take, drop, replicate, slice_index_or, slice_set}

-- the bytes of a page that nothing was written to
unfoldable pub blank_page : List ℕ
blank_page = replicate 4096 0

-- bytes, with others written over them from a place on
abbrev pub overwritten : List ℕ → ℕ → List ℕ → List ℕ
overwritten page at bytes = take at page ++ bytes ++ drop (at + length bytes) page

-- the page at a place: those behind the last read as zeros
abbrev pub page_in : List (List ℕ) → ℕ → List ℕ
page_in pages at = slice_index_or pages at blank_page

-- pages with blank ones behind the last, up to this place
abbrev pub reached : List (List ℕ) → ℕ → List (List ℕ)
reached pages at = pages ++ replicate (at + 1 - length pages) blank_page

-- pages with another at a place
abbrev pub with_page : List (List ℕ) → ℕ → List ℕ → List (List ℕ)
with_page pages at page = slice_set (reached pages at) at page

-- the pages up to the last that was written to, and how many there is room for
pub record Written : Type 0 where
  pub pages : List (List ℕ)
  pub room : ℕ
