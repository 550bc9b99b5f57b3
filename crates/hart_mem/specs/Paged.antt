-- A memory in pages of 4,096 bytes: each page has a frame of a pool, or none and reads as zero (this project's own).
use Rattle.std.specs.Prelude.{◌≡◌, ℕ, ◌+◌, ◌-◌, ◌/◌, ◌%◌, ◌<◌, ◌≤◌, ◌&&◌, ◌||◌, nat_le, nat_lt, max, List, [], length, count_by, Bool, IsTrue, Option, Some, None, is_some, is_none, slice_index, slice_index_or, slice_range}
use Rattle.rv_model.specs.Memory.{Memory}
use Rattle.page_pool.specs.Frames.{Frames, frame_at, bytes_at, no_frames}

-- the number of each page's frame, and the pool
pub record Paged : Type 0 where
  pub table : List (Option ℕ)
  pub pool : Frames

-- the byte at a place of a list, and 0 past its end
unfoldable pub byte_in : List ℕ → Memory
byte_in bytes i = slice_index bytes i

-- the bytes of a page
abbrev pub page_bytes : Frames → Option ℕ → List ℕ
page_bytes pool None = []
page_bytes pool (Some frame) = bytes_at pool frame

-- the frame of a page
abbrev pub frame_of : Paged → ℕ → Option ℕ
frame_of p page = slice_index_or p.table page None

-- whether a page has a frame
abbrev pub is_held : Paged → ℕ → Bool
is_held p page = is_some (frame_of p page)

-- the pages, one after another
unfoldable pub flat : Paged → Memory
flat p a = byte_in (page_bytes p.pool (frame_of p (a / 4096))) (a % 4096)

-- each page from one up to another has a frame
abbrev pub AreHeld : Paged → ℕ → ℕ → Type 0
AreHeld p first end = (page : ℕ) → first ≤ page → page < end → IsTrue (is_held p page)

-- how many pages have a frame
abbrev pub held_count : Paged → ℕ
held_count p = count_by is_some p.table

-- how many of the pages from one up to another have none
abbrev pub lacking : Paged → ℕ → ℕ → ℕ
lacking p first end = count_by is_none (slice_range p.table first end)

-- a page is one of those from one up to another
abbrev pub is_between : ℕ → ℕ → ℕ → Bool
is_between first end page = nat_le first page && nat_lt page end

-- the first page after n bytes from a place on, and how many pages these bytes touch
abbrev pub end_page : ℕ → ℕ → ℕ
end_page place n = (place + n + 4095) / 4096

-- no page has a frame
pub record IsEmpty (p : Paged) (pages most : ℕ) : Type 0 where
  pub length : length p.table ≡ pages
  pub pool : p.pool ≡ no_frames most
  pub none : (page : ℕ) → frame_of p page ≡ None

-- the pages from one up to another have frames, the other pages as before. Each that had none took one that was spare, as far as there were any
pub record TakesPages (old new : Paged) (first end : ℕ) : Type 0 where
  pub length : length new.table ≡ length old.table
  pub held : (page : ℕ) → is_held new page ≡ (is_held old page || is_between first end page)
  pub spare : new.pool.spare ≡ old.pool.spare - lacking old first end
  pub frames : new.pool.spare + held_count new ≡ max old.pool.spare (lacking old first end) + held_count old

-- a frame has the bytes of a page
abbrev pub IsPage : Option (List ℕ) → Type 0
IsPage None = ⊥
IsPage (Some bytes) = length bytes ≡ 4096

-- no two pages share a frame, each has one that is in use, and the pool's bound leaves room for a frame for each page and for 17 more
pub record IsSound (p : Paged) : Type 0 where
  pub own : (i j frame : ℕ) → frame_of p i ≡ Some frame → frame_of p j ≡ Some frame → i ≡ j
  pub pages : (page frame : ℕ) → frame_of p page ≡ Some frame → IsPage (frame_at p.pool frame)
  pub counted : p.pool.in_use ≤ count_by is_some p.table
  pub room : length p.table + 17 ≤ p.pool.most
