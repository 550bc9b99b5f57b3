-- A memory in pages: what a byte is, and what a write and a new frame make of it.
use Rattle.std.proofs.Common.{◌≡◌, ℕ, suc, Bool, true, not, ◌||◌, ◌∷◌, slice_range, ◌+◌, ◌-◌, ◌/◌, ◌%◌, ◌<◌, ◌≤◌, List, [], length, get_or, take, drop, replicate, set, length-take, max, false, IsTrue, nat_lt, Option, Some, None, is_some, is_none, unwrap_or, cond, refl, ap, sym, subst, ◌∙◌, arith, inl, inr}
use Rattle.std.specs.List.{count_by, sum_by}
use Rattle.std.proofs.lemmas.List.{get_or_past, get_or-set_same, get_or-set_other}
use Rattle.std.proofs.lemmas.List.Sums.{count_by-le-length, sum_by-cons, sum_by-set, sum_by-take-drop, sum_by-take-le}
use Rattle.std.proofs.Math.ListN.{length-set}
use Rattle.std.proofs.Math.Seq.{drop-cons}
use Rattle.std.proofs.lemmas.Bool.{cases_eq, cases_lt, false≢true}
use Rattle.std.proofs.lemmas.Bool.Decides.{nat_tests}
use Rattle.std.proofs.Math.Path.{fun_ext}
use Rattle.rv_model.specs.Memory.{Memory, loaded, patched, written, bytes_at as stretch}
use Rattle.rv_model.proofs.DataLemmas.{bytes_at-of_list, bytes_at-zeros}
use Rattle.page_pool.specs.Pages.{overwritten}
use Rattle.page_pool.specs.Frames.{Frames, reserved, frame_at, bytes_at, IsTaken, IsWritten}
use Rattle.page_pool.proofs.PageLemmas.{length-blank_page, get_or-blank_page}
use Rattle.hart_mem.specs.Paged.{Paged, IsPage, IsSound, TakesPages, AreHeld, held_count, is_between, lacking, byte_in, flat, frame_of, is_held, page_bytes}
use Rattle.hart_mem.proofs.Numbers.{loaded_same, loaded_zero}
use Rattle.hart_mem.proofs.Pieces.{byte_in-overwritten, length-overwritten}

-- ---- bytes

bytes_of_page : (o : Option (List ℕ)) → IsPage o → length (unwrap_or o []) ≡ 4096
bytes_of_page None h = absurd h
bytes_of_page (Some bytes) h = h

-- a byte of the page of a place, which has a frame
flat_held : (p : Paged) (a k : ℕ) → frame_of p (a / 4096) ≡ Some k → flat p a ≡ byte_in (bytes_at p.pool k) (a % 4096)
unfolding flat
flat_held p a k e = rw e refl

-- a page with no frame reads as zero
pub flat_none : (p : Paged) (a : ℕ) → frame_of p (a / 4096) ≡ None → flat p a ≡ 0
unfolding flat byte_in
flat_none p a e = rw e refl

-- a number in a page with a frame
pub loaded_held : (p : Paged) (a n k : ℕ) → a % 4096 + n ≤ 4096 → frame_of p (a / 4096) ≡ Some k → loaded (byte_in (bytes_at p.pool k)) (a % 4096) n ≡ loaded (flat p) a n
loaded_held p a n k fits e =
    loaded_same _ _ n (a % 4096) a (λ i l.
    let page : (a + i) / 4096 ≡ a / 4096 = omega arith in
    let place : (a + i) % 4096 ≡ a % 4096 + i = omega arith in
    sym (flat_held p (a + i) k (rw page e) ∙ ap (byte_in (bytes_at p.pool k)) place))

-- a number in a page with none
pub loaded_not_held : (p : Paged) (a n : ℕ) → a % 4096 + n ≤ 4096 → frame_of p (a / 4096) ≡ None → 0 ≡ loaded (flat p) a n
loaded_not_held p a n fits e =
    loaded_zero _ n a (λ i l.
    let page : (a + i) / 4096 ≡ a / 4096 = omega arith in
    flat_none p (a + i) (rw page e))

-- the bytes of a stretch in a page with a frame
pub bytes_held : (p : Paged) → IsSound p → (a n k : ℕ) → a % 4096 + n ≤ 4096 → frame_of p (a / 4096) ≡ Some k → take n (drop (a % 4096) (bytes_at p.pool k)) ≡ stretch (flat p) a n
unfolding byte_in
bytes_held p sound a n k fits e =
    bytes_at-of_list (flat p) a n (a % 4096) (bytes_at p.pool k) (omega (arith, bytes_of_page (frame_at p.pool k) (sound.pages (a / 4096) k e))) (λ i l.
    let page : (a + i) / 4096 ≡ a / 4096 = omega arith in
    let place : (a + i) % 4096 ≡ a % 4096 + i = omega arith in
    sym (flat_held p (a + i) k (rw page e) ∙ ap (byte_in (bytes_at p.pool k)) place))

-- and of one in a page with none
pub bytes_not_held : (p : Paged) (a n : ℕ) → a % 4096 + n ≤ 4096 → frame_of p (a / 4096) ≡ None → replicate n 0 ≡ stretch (flat p) a n
bytes_not_held p a n fits e =
    bytes_at-zeros (flat p) a n (λ i l.
    let page : (a + i) / 4096 ≡ a / 4096 = omega arith in
    flat_none p (a + i) (rw page e))

-- the bytes there are as small as those of the frame
pub small_held : (p : Paged) (a n k : ℕ) → a % 4096 + n ≤ 4096 → frame_of p (a / 4096) ≡ Some k → ((i : ℕ) → i < n → byte_in (bytes_at p.pool k) (a % 4096 + i) < 256) → (i : ℕ) → i < n → flat p (a + i) < 256
small_held p a n k fits e small i l =
    let page : (a + i) / 4096 ≡ a / 4096 = omega arith in
    let place : (a + i) % 4096 ≡ a % 4096 + i = omega arith in
    rw (flat_held p (a + i) k (rw page e), place) (small i l)

pub small_not_held : (p : Paged) (a n : ℕ) → a % 4096 + n ≤ 4096 → frame_of p (a / 4096) ≡ None → (i : ℕ) → i < n → flat p (a + i) < 256
small_not_held p a n fits e i l =
    let page : (a + i) / 4096 ≡ a / 4096 = omega arith in
    omega (arith, flat_none p (a + i) (rw page e))

-- a page with a frame is one of the table
pub is_held-inside : (p : Paged) (page : ℕ) → IsTrue (is_held p page) → page < length p.table
is_held-inside p page held =
    elim (cases_lt page (length p.table)) [
      | inl within ↦ within
      | inr past ↦ absurd (let none : frame_of p page ≡ None = get_or_past p.table page None past in false≢true (sym (ap is_some none) ∙ held))
    ]

-- ---- a write in one page

patch_apart : (m : Memory) (base n : ℕ) (f : Memory) (b : ℕ) → (base ≤ b → b < base + n → ⊥) → m b ≡ patched m base n f b
unfolding patched
patch_apart m base n f b h = grind (arith, nat_tests, h)

-- a patch of two memories, at places that are as far from its start
patch_moved : (m s : Memory) (a c n : ℕ) (f : Memory) (b d : ℕ) → b + c ≡ d + a → m b ≡ s d → patched m a n f b ≡ patched s c n f d
unfolding patched
patch_moved m s a c n f b d e h =
    let less : a ≤ b → b - a ≡ d - c = λ q. omega arith in
    grind (arith, nat_tests, less)

module _ (p : Paged) (sound : IsSound p) (new : Frames) (a k : ℕ) (bytes : List ℕ) (fits : a % 4096 + length bytes ≤ 4096) (here : frame_of p (a / 4096) ≡ Some k) (done : IsWritten p.pool new k (overwritten (bytes_at p.pool k) (a % 4096) bytes)) where
  after : Paged
  after = record { table = p.table; pool = new }

  whole : a % 4096 + length bytes ≤ length (bytes_at p.pool k)
  whole = omega (arith, bytes_of_page (frame_at p.pool k) (sound.pages (a / 4096) k here))

  now_in : bytes_at new k ≡ overwritten (bytes_at p.pool k) (a % 4096) bytes
  now_in = ap (λ o. unwrap_or o []) done.holds

  -- a place in another page is no place of the write
  off_page : (b : ℕ) → (b / 4096 ≡ a / 4096 → ⊥) → a ≤ b → b < a + length bytes → ⊥
  off_page b other q r = other (omega arith)

  written_byte : (b : ℕ) (o : Option ℕ) → frame_of p (b / 4096) ≡ o → byte_in (page_bytes new o) (b % 4096) ≡ written (flat p) a bytes b
  unfolding byte_in
  written_byte b None e =
      let other : b / 4096 ≡ a / 4096 → ⊥ = λ q. (let same : frame_of p (b / 4096) ≡ frame_of p (a / 4096) = ap (λ (i : ℕ). frame_of p i) q in cc) in
      sym (flat_none p b e) ∙ patch_apart (flat p) a (length bytes) _ b (off_page b other)
  written_byte b (Some f) e =
      elim (cases_eq f k) [
        | inl same ↦
            (let page : b / 4096 ≡ a / 4096 = sound.own (b / 4096) (a / 4096) k (e ∙ ap (λ (x : ℕ). Some x) same) here in
            let old : byte_in (bytes_at p.pool k) (b % 4096) ≡ flat p b = sym (flat_held p b k (e ∙ ap (λ (x : ℕ). Some x) same)) in
            ap (λ (x : ℕ). byte_in (bytes_at new x) (b % 4096)) same ∙ ap (λ xs. byte_in xs (b % 4096)) now_in ∙ ap (λ (m : Memory). m (b % 4096)) (byte_in-overwritten (bytes_at p.pool k) bytes (a % 4096) whole) ∙ patch_moved (byte_in (bytes_at p.pool k)) (flat p) (a % 4096) a (length bytes) _ (b % 4096) b (omega arith) old)
        | inr apart ↦
            (let other : b / 4096 ≡ a / 4096 → ⊥ = λ q. (let same : frame_of p (b / 4096) ≡ frame_of p (a / 4096) = ap (λ (i : ℕ). frame_of p i) q in apart (cc)) in
            let kept : bytes_at new f ≡ bytes_at p.pool f = ap (λ o. unwrap_or o []) (done.others f apart) in
            ap (λ xs. byte_in xs (b % 4096)) kept ∙ sym (flat_held p b f e) ∙ patch_apart (flat p) a (length bytes) _ b (off_page b other))
      ]

  pub flat-written : flat (record { table = p.table; pool = new }) ≡ written (flat p) a bytes
  unfolding flat
  flat-written = fun_ext (λ b. written_byte b (frame_of p (b / 4096)) refl)

  page_after : (f : ℕ) → IsPage (frame_at p.pool f) → IsPage (frame_at new f)
  page_after f h =
      elim (cases_eq f k) [
        | inl same ↦ subst IsPage (sym (ap (frame_at new) same ∙ done.holds)) (length-overwritten (bytes_at p.pool k) bytes (a % 4096) whole ∙ bytes_of_page (frame_at p.pool k) (sound.pages (a / 4096) k here))
        | inr apart ↦ subst IsPage (sym (done.others f apart)) h
      ]

  pub IsSound-written : IsSound (record { table = p.table; pool = new })
  IsSound-written =
      record {
        own = sound.own;
        pages = λ page f e. page_after f (sound.pages page f e);
        counted = omega (arith, sound.counted, done.in_use);
        room = omega (arith, sound.room, done.most);
      }

-- ---- pages that have no frame

-- one item more
count_cons : (f : Option ℕ → Bool) (x : Option ℕ) (xs : List (Option ℕ)) → count_by f (x ∷ xs) ≡ cond (f x) 1 0 + count_by f xs
count_cons f x xs = sum_by-cons (λ y. cond (f y) 1 0) x xs

-- the first of some pages
pub lacking-next : (p : Paged) (first end : ℕ) → first < end → end ≤ length p.table → lacking p first end ≡ cond (is_none (frame_of p first)) 1 0 + lacking p (first + 1) end
lacking-next p first end order inside =
    let count : end - first ≡ suc (end - (first + 1)) = omega arith in
    let none : Option ℕ = None in
    let one : suc first ≡ first + 1 = omega arith in
    let e : slice_range p.table first end ≡ frame_of p first ∷ slice_range p.table (first + 1) end = rw (count, drop-cons p.table first none (omega arith), one) refl in
    ap (count_by is_none) e ∙ count_cons is_none (frame_of p first) (slice_range p.table (first + 1) end)

pub lacking-end : (p : Paged) (page : ℕ) → lacking p page page ≡ 0
lacking-end p page = let none : page - page ≡ 0 = omega arith in rw none refl

none_not : (o : Option ℕ) → is_none o ≡ not (is_some o)
none_not None = refl
none_not (Some k) = refl

lacking_one : (p : Paged) (page : ℕ) (held : Bool) → page < length p.table → is_held p page ≡ held → lacking p page (page + 1) ≡ cond held 0 1
lacking_one p page held inside e =
    lacking-next p page (page + 1) (omega arith) (omega arith) ∙ rw (none_not (frame_of p page), e, lacking-end p (page + 1)) (by held)
  where
    by : (held : Bool) → cond (not held) 1 0 + 0 ≡ cond held 0 1
    by true = refl
    by false = refl

pub lacking-free : (p : Paged) (page : ℕ) → page < length p.table → is_held p page ≡ false → lacking p page (page + 1) ≡ 1
lacking-free p page inside e = lacking_one p page false inside e

-- a page has a frame or none
both_counts : (xs : List (Option ℕ)) → count_by is_none xs + count_by is_some xs ≡ length xs
both_counts [] = refl
both_counts (None ∷ xs) = rw (count_cons is_none None xs, count_cons is_some None xs) (omega (arith, both_counts xs))
both_counts (Some k ∷ xs) = rw (count_cons is_none (Some k) xs, count_cons is_some (Some k) xs) (omega (arith, both_counts xs))

pub lacking-room : (p : Paged) (first end : ℕ) → lacking p first end + held_count p ≤ length p.table
lacking-room p first end =
    let one = λ (o : Option ℕ). cond {A = ℕ} (is_none o) 1 0 in
    omega (arith, both_counts p.table, sum_by-take-le one (drop first p.table) (end - first), sum_by-take-drop one p.table first)

-- there are at most as many as there are pages
pub lacking-few : (p : Paged) (first end : ℕ) → lacking p first end ≤ end - first
lacking-few p first end = omega (arith, count_by-le-length is_none (slice_range p.table first end), length-take (end - first) (drop first p.table))

or_true : (b : Bool) → (b || true) ≡ true
or_true true = refl
or_true false = refl

-- ---- a frame for a page that has none

some_is : (o : Option ℕ) → is_some o ≡ false → o ≡ None
some_is None e = refl
some_is (Some k) e = cc

is_page_some : (o : Option (List ℕ)) → IsPage o → o ≡ None → ⊥
is_page_some None h e = h
is_page_some (Some bytes) h e = cc

abbrev one_if_held : Option ℕ → ℕ
one_if_held o = cond (is_some o) 1 0

count_by-set : (table : List (Option ℕ)) (page k : ℕ) → page < length table → is_some (let none : Option ℕ = None in get_or table page none) ≡ false → count_by is_some (set table page (Some k)) ≡ count_by is_some table + 1
count_by-set table page k inside free =
    let none : Option ℕ = None in
    let step : sum_by one_if_held (set table page (Some k)) + one_if_held (get_or table page none) ≡ sum_by one_if_held table + 1 = sum_by-set one_if_held table page (Some k) none inside in
    let nothing : one_if_held (get_or table page none) ≡ 0 = ap (λ b. cond b 1 0) free in
    omega arith

module _ (p : Paged) (sound : IsSound p) (new : Frames) (page k : ℕ) (inside : page < length p.table) (free : is_held p page ≡ false) (taken : IsTaken p.pool new k) where
  table : List (Option ℕ)
  table = set p.table page (Some k)

  abbrev entry : ℕ → Option ℕ
  entry i = (let nothing : Option ℕ = None in get_or (set p.table page (Some k)) i nothing)

  entry_here : (i : ℕ) → i ≡ page → entry i ≡ Some k
  entry_here i e = rw e (get_or-set_same p.table page (Some k) None inside)

  entry_else : (i : ℕ) → (i ≡ page → ⊥) → entry i ≡ frame_of p i
  entry_else i apart = get_or-set_other p.table page i (Some k) None apart

  was_none : frame_of p page ≡ None
  was_none = some_is (frame_of p page) free

  -- a frame that a page has isn't the new one
  apart_from : (i f : ℕ) → frame_of p i ≡ Some f → f ≡ k → ⊥
  apart_from i f e same = is_page_some (frame_at p.pool f) (sound.pages i f e) (ap (frame_at p.pool) same ∙ taken.was_free)

  same_bytes : (i : ℕ) (o : Option ℕ) → frame_of p i ≡ o → page_bytes new o ≡ page_bytes p.pool o
  same_bytes i None e = refl
  same_bytes i (Some f) e = ap (λ o. unwrap_or o []) (taken.others f (apart_from i f e))

  blank_byte : (i : ℕ) → byte_in (bytes_at new k) i ≡ 0
  unfolding byte_in
  blank_byte i = ap (λ (o : Option (List ℕ)). get_or (unwrap_or o []) i 0) taken.blank ∙ get_or-blank_page i

  held_byte : (b : ℕ) → byte_in (page_bytes new (entry (b / 4096))) (b % 4096) ≡ flat p b
  unfolding flat
  held_byte b =
      elim (cases_eq (b / 4096) page) [
        | inl same ↦
            (let old : flat p b ≡ 0 = flat_none p b (ap (frame_of p) same ∙ was_none) in
            ap (λ o. byte_in (page_bytes new o) (b % 4096)) (entry_here (b / 4096) same) ∙ blank_byte (b % 4096) ∙ sym old)
        | inr apart ↦
            ap (λ o. byte_in (page_bytes new o) (b % 4096)) (entry_else (b / 4096) apart) ∙ ap (λ xs. byte_in xs (b % 4096)) (same_bytes (b / 4096) (frame_of p (b / 4096)) refl)
      ]

  pub flat-held : flat (record { table = set p.table page (Some k); pool = new }) ≡ flat p
  unfolding flat
  flat-held = fun_ext held_byte

  own_after : (i j f : ℕ) → entry i ≡ Some f → entry j ≡ Some f → i ≡ j
  own_after i j f e g =
      elim (cases_eq i page) [
        | inl here ↦ elim (cases_eq j page) [
          | inl there ↦ here ∙ sym there
          | inr other ↦ absurd (apart_from j f (sym (entry_else j other) ∙ g) (let h : entry i ≡ Some k = entry_here i here in cc))
        ]
        | inr apart ↦ elim (cases_eq j page) [
          | inl there ↦ absurd (apart_from i f (sym (entry_else i apart) ∙ e) (let h : entry j ≡ Some k = entry_here j there in cc))
          | inr other ↦ sound.own i j f (sym (entry_else i apart) ∙ e) (sym (entry_else j other) ∙ g)
        ]
      ]

  pages_after : (i f : ℕ) → entry i ≡ Some f → IsPage (frame_at new f)
  pages_after i f e =
      elim (cases_eq i page) [
        | inl here ↦ (let same : f ≡ k = (let h : entry i ≡ Some k = entry_here i here in cc) in
            subst IsPage (sym (ap (frame_at new) same ∙ taken.blank)) length-blank_page)
        | inr apart ↦ (let was : frame_of p i ≡ Some f = sym (entry_else i apart) ∙ e in
            subst IsPage (sym (taken.others f (apart_from i f was))) (sound.pages i f was))
      ]

  one_more : count_by is_some (set p.table page (Some k)) ≡ count_by is_some p.table + 1
  one_more = count_by-set p.table page k inside free

  pub IsSound-held : IsSound (record { table = set p.table page (Some k); pool = new })
  IsSound-held =
      record {
        own = own_after;
        pages = pages_after;
        counted = omega (arith, one_more, sound.counted, taken.in_use);
        room = omega (arith, sound.room, taken.most, length-set p.table page (Some k));
      }

  held_after : (i : ℕ) → is_some (entry i) ≡ (is_held p i || is_between page (page + 1) i)
  held_after i =
      elim (cases_eq i page) [
        | inl here ↦ (let now : is_some (entry i) ≡ true = ap is_some (entry_here i here) in rw now (grind (arith, nat_tests)))
        | inr apart ↦ (let now : is_some (entry i) ≡ is_held p i = ap is_some (entry_else i apart) in rw now (grind (arith, nat_tests)))
      ]

  pub TakesPages-held : TakesPages p (record { table = set p.table page (Some k); pool = new }) page (page + 1)
  TakesPages-held =
      record {
        length = length-set p.table page (Some k);
        held = held_after;
        spare = omega (arith, taken.spare, lacking-free p page inside free);
        frames = omega (arith, taken.spare, lacking-free p page inside free, one_more);
      }

-- ---- pages that take frames

-- nor where no page is named
pub TakesPages-none : (p : Paged) (page : ℕ) → TakesPages p p page page
TakesPages-none p page =
    record {
      length = refl;
      held = λ i. grind (arith, nat_tests);
      spare = omega (arith, lacking-end p page);
      frames = omega (arith, lacking-end p page);
    }

-- the frames count alone
pub TakesPages-same : (p q r : Paged) (first end : ℕ) → r.table ≡ q.table → r.pool.spare ≡ q.pool.spare → TakesPages p q first end → TakesPages p r first end
TakesPages-same p q r first end e f takes =
    record {
      length = ap length e ∙ takes.length;
      held = λ i. ap (λ (t : List (Option ℕ)). is_some (let none : Option ℕ = None in get_or t i none)) e ∙ takes.held i;
      spare = f ∙ takes.spare;
      frames = rw (f, e) takes.frames;
    }

-- the pages that a memory held are still held
pub TakesPages-keeps : (p q : Paged) (first end page : ℕ) → TakesPages p q first end → IsTrue (is_held p page) → IsTrue (is_held q page)
TakesPages-keeps p q first end page takes held = rw (takes.held page, held) refl

-- and so are those that are named
pub TakesPages-holds : (p q : Paged) (first end : ℕ) → TakesPages p q first end → AreHeld q first end
TakesPages-holds p q first end takes page low high =
    let named : is_between first end page ≡ true = grind (arith, nat_tests) in
    takes.held page ∙ rw named (or_true (is_held p page))

-- ---- pages that take frames, one after the other

-- the pages up to one have frames, and enough are spare for those up to the end
pub record TakesUpTo (p q : Paged) (first page end : ℕ) : Type 0 where
  pub length : length q.table ≡ length p.table
  pub held : (i : ℕ) → is_held q i ≡ (is_held p i || is_between first page i)
  pub bytes : flat q ≡ flat p
  pub spare : q.pool.spare ≡ lacking p page end + (p.pool.spare - lacking p first end)
  pub frames : q.pool.spare + held_count q ≡ max p.pool.spare (lacking p first end) + held_count p

-- none has taken one yet, and enough were reserved
pub TakesUpTo-reserved : (p q : Paged) (first end : ℕ) → q ≡ record p { pool = reserved p.pool (lacking p first end) } → TakesUpTo p q first first end
unfolding flat
TakesUpTo-reserved p q first end e =
    rw e
    (record {
      length = refl;
      held = λ i. grind (arith, nat_tests);
      bytes = refl;
      spare = omega arith;
      frames = refl;
    })

-- or were there
pub TakesUpTo-enough : (p q : Paged) (first end : ℕ) → q ≡ p → lacking p first end ≤ p.pool.spare → TakesUpTo p q first first end
TakesUpTo-enough p q first end e enough =
    rw e
    (record {
      length = refl;
      held = λ i. grind (arith, nat_tests);
      bytes = refl;
      spare = omega arith;
      frames = omega arith;
    })

module _ (p q : Paged) (first page end : ℕ) (order : first ≤ page) (below : page < end) (inside : end ≤ length p.table) (taken : TakesUpTo p q first page end) where
  or_false : (b : Bool) → (b || false) ≡ b
  or_false true = refl
  or_false false = refl

  -- a page that isn't named yet is as it was
  page_same : is_held q page ≡ is_held p page
  page_same =
      let later : is_between first page page ≡ false = grind (arith, nat_tests) in
      taken.held page ∙ rw later (or_false (is_held p page))

  flipped : (held : Bool) → ◌≡◌ {A = ℕ} (cond (not held) 1 0) (cond held 0 1)
  flipped true = refl
  flipped false = refl

  rest : lacking p page end ≡ lacking p page (page + 1) + lacking p (page + 1) end
  rest =
      let here : lacking p page (page + 1) ≡ cond (is_held p page) 0 1 = lacking_one p page (is_held p page) (omega arith) refl in
      let next = lacking-next p page end below inside in
      omega (arith, next, here, ap {B = ℕ} (λ (b : Bool). cond b 1 0) (none_not (frame_of p page)), flipped (is_held p page))

  both_lack : lacking q page (page + 1) ≡ lacking p page (page + 1)
  both_lack =
      lacking_one q page (is_held p page) (omega (arith, taken.length)) page_same ∙ sym (lacking_one p page (is_held p page) (omega arith) refl)

  enough_here : lacking q page (page + 1) ≤ q.pool.spare
  enough_here = omega (arith, both_lack, rest, taken.spare)

  pub TakesUpTo-can : (is_held q page || nat_lt 0 q.pool.spare) ≡ true
  TakesUpTo-can = by (is_held q page) refl
    where
      by : (held : Bool) → is_held q page ≡ held → (held || nat_lt 0 q.pool.spare) ≡ true
      by true e = refl
      by false e = (let one : lacking q page (page + 1) ≡ 1 = lacking_one q page false (omega (arith, taken.length)) e in grind (arith, nat_tests, enough_here))

  pub TakesUpTo-next : (r : Paged) → flat r ≡ flat q → TakesPages q r page (page + 1) → TakesUpTo p r first (page + 1) end
  TakesUpTo-next r bytes takes =
      record {
        length = takes.length ∙ taken.length;
        held = λ i. takes.held i ∙ (let before = taken.held i in rw before (grind (arith, nat_tests)));
        bytes = bytes ∙ taken.bytes;
        spare = omega (arith, takes.spare, both_lack, rest, taken.spare);
        frames = omega (arith, takes.frames, enough_here, taken.frames);
      }

-- all have taken theirs
pub TakesUpTo-all : (p q : Paged) (first page end : ℕ) → page ≡ end → TakesUpTo p q first page end → TakesPages p q first end
TakesUpTo-all p q first page end e taken =
    let held : (i : ℕ) → is_held q i ≡ (is_held p i || is_between first end i) = λ i. taken.held i ∙ ap (λ (n : ℕ). is_held p i || is_between first n i) e in
    let none : lacking p page end ≡ 0 = ap (λ (n : ℕ). lacking p n end) e ∙ lacking-end p end in
    record { length = taken.length; held = held; spare = omega (arith, none, taken.spare); frames = taken.frames }
