-- A whole memory: where its bytes stand, and what a change of its pages makes of it.
use Rattle.std.proofs.Common.{◌≡◌, ℕ, zero, suc, take, ◌+◌, ◌-◌, ◌*◌, ◌/◌, ◌%◌, ◌<◌, ◌≤◌, Bool, true, false, not, ◌&&◌, ◌||◌, ◌==◌, IsTrue, nat_lt, List, [], length, get_or, Option, Some, None, Result, Ok, Err, OnOk, OnErr, IsOk, eq-eqb, refl, ap, sym, subst, ◌∙◌, arith}
use Rattle.std.proofs.lemmas.Bool.{false≢true}
use Rattle.std.proofs.lemmas.Bool.Decides.{nat_tests}
use Rattle.std.proofs.Math.Path.{fun_ext}
use Rattle.std.specs.Int.{to_le_bytes, w64}
use Rattle.std.proofs.lemmas.List.{get_or-take, length-take-le}
use Rattle.spec_base.specs.declared.memory_fault.NoMemory.{NoMemory}
use Rattle.spec_base.specs.Word.{byte_of}
use Rattle.spec_base.specs.Layout.{range_end, helper_words, stub_words}
use Rattle.spec_base.specs.declared.machine.View.{View}
use Rattle.spec_base.specs.declared.machine.View.TheVariants.{Plain, Program, Stub, Shadow}
use Rattle.rv_model.specs.Memory.{Memory, loaded, patched, stored, written, all_from, zeros}
use Rattle.rv_model.specs.Rights.{in_private, in_range, in_shared, in_text, is_data, rights_of}
use Rattle.rv_model.specs.Space.{Space, sees, stored_in, text_byte}
use Rattle.program_model.specs.Loading.{data_of}
use Rattle.hart_mem.specs.Access.{IsWidth}
use Rattle.hart_mem.specs.Paged.{Paged, IsEmpty, TakesPages, end_page, flat, is_held, lacking}
use Rattle.hart_mem.specs.Places.{place_of, shared_place, stub_place, shadow_place}
use Rattle.hart_mem.specs.Held.{Held, IsOffText, IsWhole, UsesSpare, pages_held, pages_stored, spare_of, code_or_zeros, data_byte, empty_space, lacks_frame, load_answer, load_answer_if, shadow_words, part, space_of}
use Rattle.hart_mem.specs.declared.access.Access.{Access}
use Rattle.hart_mem.specs.declared.access.Access.TheVariants as access
use Rattle.hart_mem.proofs.CodeLemmas.{code_given}
use Rattle.hart_mem.proofs.Grains.{IsLawful, lawful_is, range_end-below}
use Rattle.hart_mem.proofs.PageLemmas.{TakesPages-keeps, TakesPages-none, TakesPages-same, flat_none, lacking-few}
use Rattle.rv_model.proofs.DataLemmas.{all_from-inside, all_from-at}
use Rattle.hart_mem.proofs.PartLemmas.{part_in, part_out}
use Rattle.hart_mem.proofs.PlaceLemmas.{in_eight, width_some, width_few}
use Rattle.hart_mem.proofs.SpaceLemmas.{spaced, data_low, program_patched}
use Rattle.hart_mem.proofs.ViewLemmas.{loaded_view, loaded_spaced, place_inside, place_mod, range_low, seen_view, sees_data, sees_text, shadow_low, shadow_page_past, store_loads, stored_view, stub_page_past}

-- ---- changes of the pages

module _ (h : Held) (pages : Paged) where
  abbrev changed : Held
  changed = record h { pages = pages }

  pub same_space : flat pages ≡ flat h.pages → space_of (record h { pages = pages }) ≡ space_of h
  unfolding space_of
  same_space e = ap (λ (m : Memory). spaced h m) e

  pub stored_space : IsWhole h → (v : View) (a n x : ℕ) → IsWidth n → a % n ≡ 0 → IsTrue (all_from (rights_of v h.layout).store a n) → flat pages ≡ stored (flat h.pages) (place_of v h.layout a) n x → space_of (record h { pages = pages }) ≡ stored_in v (space_of h) a n x
  unfolding space_of
  stored_space whole v a n x width aligned ok e =
      ap (λ (m : Memory). spaced h m) e ∙ stored_view h (lawful_is h.layout whole.lawful) (flat h.pages) a n x (in_eight a n width aligned) (width_some n width) v ok

  pub filled_space : IsWhole h → (a : ℕ) (bytes : List ℕ) → IsTrue (all_from (is_data h.layout) a (length bytes)) → flat pages ≡ written (flat h.pages) a bytes → space_of (record h { pages = pages }) ≡ record (space_of h) { program = written (space_of h).program a bytes }
  unfolding space_of
  filled_space whole a bytes ok e =
      ap (λ (m : Memory). spaced h m) e ∙ program_patched h (lawful_is h.layout whole.lawful) (flat h.pages) a (length bytes) _ (all_from-inside (is_data h.layout) (length bytes) a ok)

-- ---- spare frames that pages take

pub UsesSpare-same : (h k : Held) → k ≡ h → UsesSpare h k
UsesSpare-same h k e = rw e (record { kept = λ page held. held; fewer = omega arith; spare = refl })

pub UsesSpare-then : (h k l : Held) → UsesSpare h k → UsesSpare k l → UsesSpare h l
UsesSpare-then h k l first second =
    record {
      kept = λ page held. second.kept page (first.kept page held);
      fewer = omega (arith, first.fewer, second.fewer);
      spare = second.spare ∙ first.spare;
    }

pub UsesSpare-takes : (h : Held) (q : Paged) (first end : ℕ) → TakesPages h.pages q first end → lacking h.pages first end ≤ h.pages.pool.spare → UsesSpare h (record h { pages = q })
unfolding spare_of pages_held
UsesSpare-takes h q first end takes enough =
    record {
      kept = λ page held. TakesPages-keeps h.pages q first end page takes held;
      fewer = omega (arith, takes.spare);
      spare = omega (arith, takes.frames, enough);
    }

-- a fill where enough frames are spare
pub fill_uses : (h : Held) (q : Paged) (a n : ℕ) (r : Result Unit NoMemory) → OnOk r (TakesPages h.pages q (a / 4096) (end_page a n)) → OnErr r (q ≡ h.pages) → lacking h.pages (a / 4096) (end_page a n) ≤ h.pages.pool.spare → UsesSpare h (record h { pages = q })
fill_uses h q a n (Ok u) takes same enough = UsesSpare-takes h q (a / 4096) (end_page a n) takes enough
fill_uses h q a n (Err e) takes same enough = UsesSpare-same h (record h { pages = q }) (ap (λ (pages : Paged). let k : Held = record h { pages = pages } in k) same)

-- ---- a memory whose pages have taken frames

-- ---- emitted code

pub coded_space : (h : Held) (s k b : List ℕ) → 1 ≤ length s → 1 ≤ length k → 1 ≤ length b → space_of (record h { shadow = s; helpers = k; stub = b }) ≡ record (space_of h) { shadow = s; helpers = k; stub = b }
unfolding space_of
coded_space h s k b e f g =
    let one : code_or_zeros s (shadow_words h.layout) ≡ s = sym (code_given s (shadow_words h.layout) e) in
    let two : code_or_zeros k helper_words ≡ k = sym (code_given k helper_words f) in
    let three : code_or_zeros b stub_words ≡ b = sym (code_given b stub_words g) in
    rw (one, two, three) refl

-- ---- no bytes

pub nothing_written : (s : Space) (a : ℕ) (bytes : List ℕ) → length bytes ≡ 0 → s ≡ record s { program = written s.program a bytes }
unfolding patched
nothing_written s a bytes e =
    let none : written s.program a bytes ≡ s.program = fun_ext (λ b. grind (arith, nat_tests)) in
    rw none refl

pub no_bytes_written : (m : Memory) (a : ℕ) (bytes : List ℕ) → length bytes ≡ 0 → m ≡ written m a bytes
unfolding patched
no_bytes_written m a bytes e = fun_ext (λ b. grind (arith, nat_tests))

-- and no part
pub nothing_loaded : (h : Held) (a : ℕ) (bytes : List ℕ) → length bytes ≡ 0 → space_of h ≡ record (space_of h) { program = data_of (space_of h).layout (written (space_of h).program a bytes) }
unfolding space_of part
nothing_loaded h a bytes e =
    let none : written (space_of h).program a bytes ≡ (space_of h).program = sym (no_bytes_written (space_of h).program a bytes e) in
    let same : data_of h.layout (space_of h).program ≡ (space_of h).program = fun_ext (λ b. off_text (in_text h.layout b) (in_range h.layout b) (flat h.pages b)) in
    rw (none, same) refl
  where
    off_text : (t inside : Bool) (x : ℕ) → ◌≡◌ {A = ℕ} (elim t as (λ _. ℕ) [ true ↦ 0 | false ↦ elim (inside && not t) [ true ↦ x | false ↦ 0 ] ]) (elim (inside && not t) [ true ↦ x | false ↦ 0 ])
    off_text true true x = refl
    off_text true false x = refl
    off_text false inside x = refl

-- ---- loads

module _ (h : Held) (whole : IsWhole h) where
  lawful : IsLawful h.layout
  lawful = lawful_is h.layout whole.lawful

  pub number_seen : (v : View) (a n : ℕ) → IsWidth n → a % n ≡ 0 → IsTrue (all_from (rights_of v h.layout).load a n) → (v ≡ Shadow → IsOffText h.layout a n) → loaded (flat h.pages) (place_of v h.layout a) n ≡ loaded (sees v (space_of h)) a n
  unfolding space_of
  number_seen v a n width aligned ok off = loaded_view h lawful (flat h.pages) v a n (in_eight a n width aligned) ok (width_some n width) off

  pub byte_seen : (v : View) (a n : ℕ) → IsWidth n → a % n ≡ 0 → IsTrue (all_from (rights_of v h.layout).load a n) → (v ≡ Shadow → IsOffText h.layout a n) → (i : ℕ) → i < n → sees v (space_of h) (a + i) ≡ flat h.pages (place_of v h.layout a + i)
  unfolding space_of
  byte_seen v a n width aligned ok off = seen_view h lawful (flat h.pages) v a n (in_eight a n width aligned) ok (width_some n width) off

  pub text_seen : (b : ℕ) → IsTrue (in_range h.layout b) → in_text h.layout b ≡ true → text_byte h.layout h.text b ≡ sees Shadow (space_of h) b
  unfolding space_of
  text_seen b inside e = sym (sees_text h (flat h.pages) b inside e)

  pub data_seen : (b : ℕ) → IsTrue (in_range h.layout b) → in_text h.layout b ≡ false → flat h.pages b ≡ sees Shadow (space_of h) b
  unfolding space_of
  data_seen b inside e = sym (sees_data h (flat h.pages) b inside e)

  -- the bytes of an aligned number that the shadow loads, the first of them below the text's end, are of the program range
  pub text_inside : (a n : ℕ) → IsWidth n → IsTrue (all_from (rights_of Shadow h.layout).load a n) → a < h.layout.text_end → (i : ℕ) → i < n → IsTrue (in_range h.layout (a + i))
  text_inside a n width ok low i l =
      let few : n ≤ 8 = width_few n width in
      let under : h.layout.text_end ≤ range_end h.layout.version = lawful.below in
      shadow_low h.layout (a + i) (all_from-at (rights_of Shadow h.layout).load n a i ok l) (omega (arith, range_end-below h.layout.version))

  -- ---- places

  pub first_right : (test : ℕ → Bool) (a n : ℕ) → IsWidth n → IsTrue (all_from test a n) → IsTrue (test a)
  first_right test a n width ok = (let some : 1 ≤ n = width_some n width in all_from-inside test n a ok a (omega arith) (omega arith))

  -- a byte of the program range stands in a page
  pub range_inside : (b : ℕ) → IsTrue (in_range h.layout b) → b / 4096 < length h.pages.table
  range_inside b inside = omega (arith, whole.count, range_low h.layout b inside)

  -- data end with the range, whose bytes all stand in pages
  pub data_ends : (a n : ℕ) → 1 ≤ n → IsTrue (all_from (is_data h.layout) a n) → a + n ≤ range_end h.layout.version
  data_ends a n some ok =
      let last : a + (n - 1) < range_end h.layout.version = data_low h.layout (a + (n - 1)) (all_from-at (is_data h.layout) n a (n - 1) ok (omega arith)) in
      omega arith

  pub range_pages : (p : ℕ) → p ≤ range_end h.layout.version → p ≤ 4096 * length h.pages.table
  range_pages p low = omega (arith, whole.count)

  -- a byte of the text is of one of its words
  pub text_word : (b : ℕ) → in_text h.layout b ≡ true → (b - h.layout.text_start) / 4 < length h.text
  text_word b inside =
      let low : h.layout.text_start ≤ b = grind (arith, nat_tests) in
      let high : b < h.layout.text_end = grind (arith, nat_tests) in
      omega (arith, whole.words, lawful.start, lawful.end)

  module _ (v : View) (a : ℕ) (ok : IsTrue ((rights_of v h.layout).load a)) where
    pub inside_pages : place_of v h.layout a / 4096 < length h.pages.table
    inside_pages = omega (arith, whole.count, place_inside h.layout lawful a v ok)

    pub in_page : (n : ℕ) → IsWidth n → a % n ≡ 0 → place_of v h.layout a % 4096 + n ≤ 4096
    in_page n width aligned = omega (arith, place_mod h.layout lawful a v ok, in_eight a n width aligned)

  -- whether a store at an address finds a frame
  or_not_and : (p : Bool) (s : ℕ) → (p || nat_lt 0 s) ≡ not (not p && (s == 0))
  or_not_and true s = refl
  or_not_and false s = grind (arith, nat_tests)

  -- each page that the shadow stores to has a frame
  shadow_held : (a : ℕ) → IsTrue ((rights_of Shadow h.layout).store a) → IsTrue (is_held h.pages (place_of Shadow h.layout a / 4096))
  shadow_held a ok = whole.held (place_of Shadow h.layout a / 4096) (shadow_page_past h.layout lawful a ok) (place_inside h.layout lawful a Shadow (store_loads Shadow h.layout a ok))

  -- and each that the stub stores to
  stub_held : (a : ℕ) → IsTrue ((rights_of Stub h.layout).store a) → IsTrue (is_held h.pages (place_of Stub h.layout a / 4096))
  stub_held a ok = whole.held (place_of Stub h.layout a / 4096) (stub_page_past h.layout lawful a ok) (place_inside h.layout lawful a Stub ok)

  pub frame_found : (v : View) (a : ℕ) → IsTrue ((rights_of v h.layout).store a) → (is_held h.pages (place_of v h.layout a / 4096) || nat_lt 0 h.pages.pool.spare) ≡ not (lacks_frame v h a)
  unfolding lacks_frame
  frame_found Plain a ok = or_not_and (is_held h.pages (a / 4096)) h.pages.pool.spare
  frame_found Program a ok = or_not_and (is_held h.pages (a / 4096)) h.pages.pool.spare
  frame_found Stub a ok = ap (λ p. p || nat_lt 0 h.pages.pool.spare) (stub_held a ok)
  frame_found Shadow a ok = ap (λ p. p || nat_lt 0 h.pages.pool.spare) (shadow_held a ok)

  -- a store of n bytes that the view stores
  module _ (v : View) (a n : ℕ) (width : IsWidth n) (all : IsTrue (all_from (rights_of v h.layout).store a n)) where
    pub put_loads : IsTrue ((rights_of v h.layout).load a)
    put_loads = store_loads v h.layout a (first_right (rights_of v h.layout).store a n width all)

    pub put_found : (is_held h.pages (place_of v h.layout a / 4096) || nat_lt 0 h.pages.pool.spare) ≡ not (lacks_frame v h a)
    put_found = frame_found v a (first_right (rights_of v h.layout).store a n width all)

    -- the page of a store of the stub or of the shadow has a frame
    put_had : pages_stored v ≡ 0 → is_held h.pages (place_of v h.layout a / 4096) ≡ true
    put_had e = by v refl
      where
        by : (w : View) → w ≡ v → is_held h.pages (place_of v h.layout a / 4096) ≡ true
        by Plain f = absurd (let g : 1 ≡ 0 = ap pages_stored f ∙ e in omega (arith, g))
        by Program f = absurd (let g : 1 ≡ 0 = ap pages_stored f ∙ e in omega (arith, g))
        by Stub f = subst (λ w. is_held h.pages (place_of w h.layout a / 4096) ≡ true) f (stub_held a (subst (λ w. IsTrue ((rights_of w h.layout).store a)) (sym f) (first_right (rights_of v h.layout).store a n width all)))
        by Shadow f = subst (λ w. is_held h.pages (place_of w h.layout a / 4096) ≡ true) f (shadow_held a (subst (λ w. IsTrue ((rights_of w h.layout).store a)) (sym f) (first_right (rights_of v h.layout).store a n width all)))

    -- the pages after a store, which held its page and then wrote to it
    module _ (q r : Paged) (had : is_held h.pages (place_of v h.layout a / 4096) ≡ true → q ≡ h.pages) (takes : TakesPages h.pages q (place_of v h.layout a / 4096) (place_of v h.layout a / 4096 + 1)) (enough : lacking h.pages (place_of v h.layout a / 4096) (place_of v h.layout a / 4096 + 1) ≤ h.pages.pool.spare) (table : r.table ≡ q.table) (spare : r.pool.spare ≡ q.pool.spare) where
      -- nothing is taken where the page had a frame
      none_taken : is_held h.pages (place_of v h.layout a / 4096) ≡ true → (page : ℕ) → TakesPages h.pages r page page
      none_taken e page = TakesPages-same h.pages h.pages r page page (table ∙ ap (λ (p : Paged). p.table) (had e)) (spare ∙ ap (λ (p : Paged). p.pool.spare) (had e)) (TakesPages-none h.pages page)

      none_there : pages_stored v ≡ 0 → TakesPages h.pages r (a / 4096) (a / 4096 + pages_stored v)
      none_there e =
          let here : a / 4096 + pages_stored v ≡ a / 4096 = omega (arith, e) in
          rw here (none_taken (put_had e) (a / 4096))

      pub put_takes : TakesPages h.pages r (a / 4096) (a / 4096 + pages_stored v)
      put_takes = by v refl
        where
          by : (w : View) → w ≡ v → TakesPages h.pages r (a / 4096) (a / 4096 + pages_stored v)
          by Plain f = subst (λ w. TakesPages h.pages r (a / 4096) (a / 4096 + pages_stored w)) f (TakesPages-same h.pages q r (a / 4096) (a / 4096 + 1) table spare (subst (λ w. TakesPages h.pages q (place_of w h.layout a / 4096) (place_of w h.layout a / 4096 + 1)) (sym f) takes))
          by Program f = subst (λ w. TakesPages h.pages r (a / 4096) (a / 4096 + pages_stored w)) f (TakesPages-same h.pages q r (a / 4096) (a / 4096 + 1) table spare (subst (λ w. TakesPages h.pages q (place_of w h.layout a / 4096) (place_of w h.layout a / 4096 + 1)) (sym f) takes))
          by Stub f = none_there (ap pages_stored (sym f))
          by Shadow f = none_there (ap pages_stored (sym f))

      pub put_uses : UsesSpare h (record h { pages = r })
      put_uses =
          UsesSpare-takes h r (place_of v h.layout a / 4096) (place_of v h.layout a / 4096 + 1) (TakesPages-same h.pages q r _ _ table spare takes) enough

      pub put_kept : pages_stored v ≡ 0 → r.pool.spare ≡ h.pages.pool.spare
      put_kept e = spare ∙ ap (λ (p : Paged). p.pool.spare) (had (put_had e))

    pub put_inside : place_of v h.layout a / 4096 < length h.pages.table
    put_inside = inside_pages v a put_loads

    pub put_fits : a % n ≡ 0 → place_of v h.layout a % 4096 + n ≤ 4096
    put_fits aligned = in_page v a put_loads n width aligned

  -- ---- loading

  pub loaded_space : (pages : Paged) (a : ℕ) (bytes : List ℕ) → 0x1000 ≤ a → a + length bytes ≤ range_end h.layout.version → flat pages ≡ written (flat h.pages) a bytes → space_of (record h { pages = pages }) ≡ record (space_of h) { program = data_of h.layout (written (space_of h).program a bytes) }
  unfolding space_of
  loaded_space pages a bytes above below e = ap (λ (m : Memory). spaced h m) e ∙ loaded_spaced h lawful (flat h.pages) a bytes above below

-- ---- at the start

flat_empty : (p : Paged) (pages most : ℕ) → IsEmpty p pages most → flat p ≡ zeros
flat_empty p pages most empty = fun_ext (λ b. flat_none p b (empty.none (b / 4096)))

part_zeros : (test : ℕ → Bool) (place : ℕ → ℕ) → part test place zeros ≡ zeros
part_zeros test place = fun_ext (λ b. zero_byte b (test b) refl)
  where
    zero_byte : (b : ℕ) (t : Bool) → test b ≡ t → part test place zeros b ≡ zeros b
    zero_byte b true e = part_in test place zeros b e
    zero_byte b false e = part_out test place zeros b e

-- a memory with no bytes yet
pub empty_spaced : (h : Held) → h.shadow ≡ [] → h.helpers ≡ [] → h.stub ≡ [] → flat h.pages ≡ zeros → space_of h ≡ empty_space h.layout h.text
unfolding space_of
empty_spaced h e f g z =
    let one = part_zeros (is_data h.layout) (λ a. a) in
    let two = part_zeros (in_shared h.layout) (shared_place h.layout) in
    let three = part_zeros in_private (stub_place h.layout) in
    let four = part_zeros in_private (shadow_place h.layout) in
    rw (e, f, g, z, one, two, three, four) refl

-- a memory whose pages are as an empty one's
pub flat_new : (old new : Paged) (pages most : ℕ) → IsEmpty old pages most → flat new ≡ flat old → flat new ≡ zeros
flat_new old new pages most empty e = e ∙ flat_empty old pages most empty

-- ---- the bytes of a number

patch_same : (m : Memory) (base n : ℕ) (f g : Memory) → ((i : ℕ) → i < n → f i ≡ g i) → patched m base n f ≡ patched m base n g
unfolding patched
patch_same m base n f g h = fun_ext (λ b. let same : base ≤ b → b < base + n → f (b - base) ≡ g (b - base) = λ low high. h (b - base) (omega arith) in grind (arith, nat_tests, same))

le_byte : (x i : ℕ) → i < 8 → get_or (to_le_bytes w64 x) i 0 ≡ byte_of x i
le_byte x zero h = omega arith
le_byte x (suc zero) h = refl
le_byte x (suc (suc zero)) h = refl
le_byte x (suc (suc (suc zero))) h = refl
le_byte x (suc (suc (suc (suc zero)))) h = refl
le_byte x (suc (suc (suc (suc (suc zero))))) h = refl
le_byte x (suc (suc (suc (suc (suc (suc zero)))))) h = refl
le_byte x (suc (suc (suc (suc (suc (suc (suc zero))))))) h = refl
le_byte x (suc (suc (suc (suc (suc (suc (suc (suc i)))))))) h = absurd (omega arith)

pub piece_stored : (m : Memory) (p n x : ℕ) (bytes : List ℕ) → n ≤ 8 → bytes ≡ to_le_bytes w64 x → written m p (take n bytes) ≡ stored m p n x
piece_stored m p n x bytes h e =
    let len : length (take n bytes) ≡ n = length-take-le n bytes (rw e h) in
    rw len (patch_same m p n (λ i. get_or (take n bytes) i 0) (byte_of x) (λ i l. get_or-take n bytes i 0 l ∙ ap (λ (s : List ℕ). get_or s i 0) e ∙ le_byte x i (omega arith)))

pub loaded_one : (m : Memory) (a : ℕ) → loaded m a 1 ≡ m a
unfolding loaded
loaded_one m a = omega arith

-- ---- answers

out_if : (t inside : Bool) (n : ℕ) → t ≡ true → inside ≡ false → (let out : Result ℕ Access = Err access.Out in out) ≡ load_answer_if t inside n
out_if t inside n e f = rw (e, f) refl

ok_if : (t inside : Bool) (n : ℕ) → t ≡ true → inside ≡ true → (let ok : Result ℕ Access = Ok n in ok) ≡ load_answer_if t inside n
ok_if t inside n e f = rw (e, f) refl

module _ (h : Held) (v : View) (a n : ℕ) (aligned : a % n ≡ 0) where
  pub load_out : all_from (rights_of v h.layout).load a n ≡ false → (let out : Result ℕ Access = Err access.Out in out) ≡ load_answer v (space_of h) a n
  unfolding space_of
  load_out e = out_if (a % n == 0) (all_from (rights_of v h.layout).load a n) (loaded (sees v (space_of h)) a n) (eq-eqb (a % n) 0 aligned) e

  pub load_ok : (number : ℕ) → number ≡ loaded (sees v (space_of h)) a n → all_from (rights_of v h.layout).load a n ≡ true → (let ok : Result ℕ Access = Ok number in ok) ≡ load_answer v (space_of h) a n
  unfolding space_of
  load_ok number is e = ap (λ (x : ℕ). let ok : Result ℕ Access = Ok x in ok) is ∙ ok_if (a % n == 0) (all_from (rights_of v h.layout).load a n) (loaded (sees v (space_of h)) a n) (eq-eqb (a % n) 0 aligned) e

-- ---- bytes for calls

module _ (h : Held) (b : ℕ) where
  pub byte_none : is_data h.layout b ≡ false → None ≡ data_byte (space_of h) b
  unfolding space_of
  byte_none e = none_if (is_data h.layout b) (part (is_data h.layout) (λ a. a) (flat h.pages) b) e
    where
      none_if : (t : Bool) (n : ℕ) → t ≡ false → (let none : Option ℕ = None in none) ≡ elim t [ true ↦ Some n | false ↦ None ]
      none_if t n e = rw e refl

  pub byte_some : is_data h.layout b ≡ true → Some (flat h.pages b) ≡ data_byte (space_of h) b
  unfolding space_of
  byte_some e = ap (λ (n : ℕ). Some n) (sym (part_in (is_data h.layout) (λ a. a) (flat h.pages) b e)) ∙ some_if (is_data h.layout b) (part (is_data h.layout) (λ a. a) (flat h.pages) b) e
    where
      some_if : (t : Bool) (n : ℕ) → t ≡ true → Some n ≡ elim t [ true ↦ Some n | false ↦ None ]
      some_if t n e = rw e refl

-- ---- spare frames

pub no_spare : (held : Bool) (s : ℕ) → (held || nat_lt 0 s) ≡ false → s ≡ 0
no_spare true s e = absurd (false≢true (sym e))
no_spare false s e = grind (arith, nat_tests)

pub spare_enough : (p : Paged) (a n s : ℕ) → n ≤ 65536 → 17 ≤ s → s < lacking p (a / 4096) (end_page a n) → ⊥
spare_enough p a n s few enough short = absurd (omega (arith, lacking-few p (a / 4096) (end_page a n)))

-- ---- what holds of a result

pub on_ok : {A B : Type 0} → (r : Result Unit NoMemory) → (A → B) → OnOk r A → OnOk r B
on_ok (Ok u) f h = f h
on_ok (Err e) f h = h

pub on_err : {A B : Type 0} → (r : Result Unit NoMemory) → (A → B) → OnErr r A → OnErr r B
on_err (Ok u) f h = h
on_err (Err e) f h = f h

pub ok_unless : {A : Type 0} → (r : Result Unit NoMemory) → OnErr r A → (A → ⊥) → IsOk r
ok_unless (Ok u) h f = refl
ok_unless (Err e) h f = absurd (f h)
