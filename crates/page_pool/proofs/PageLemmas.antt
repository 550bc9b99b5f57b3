-- Lemmas on pages.
use Rattle.std.proofs.Common.{◌≡◌, ℕ, length, get_or, replicate, arith, inl, inr}
use Rattle.std.proofs.lemmas.List.{length-replicate, get_or-replicate, get_or_past}
use Rattle.std.proofs.lemmas.Bool.{cases_lt}
use Rattle.page_pool.specs.Pages.{blank_page}

pub length-blank_page : length blank_page ≡ 4096
unfolding blank_page
length-blank_page = length-replicate {A = ℕ} 4096 0

get_or-zeros : (n i : ℕ) → get_or (replicate {A = ℕ} n 0) i 0 ≡ 0
get_or-zeros n i =
    elim (cases_lt i n) [
      | inl within ↦ get_or-replicate n i 0 0 within
      | inr past ↦ get_or_past (replicate n 0) i 0 (omega (arith, length-replicate {A = ℕ} n 0))
    ]

-- each byte of a blank page is zero
pub get_or-blank_page : (i : ℕ) → get_or blank_page i 0 ≡ 0
unfolding blank_page
get_or-blank_page i = get_or-zeros 4096 i
