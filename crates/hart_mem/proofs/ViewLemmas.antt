-- What each view sees and stores stands at its places in the pages.
use Rattle.std.proofs.Common.{◌≡◌, ℕ, ◌+◌, ◌*◌, ◌/◌, ◌%◌, ◌<◌, ◌≤◌, Bool, true, false, not, ◌&&◌, ◌||◌, IsTrue, List, length, get_or, refl, ap, sym, ◌∙◌, arith}
use Rattle.std.proofs.lemmas.Bool.{false≢true}
use Rattle.std.proofs.lemmas.Bool.Decides.{nat_tests}
use Rattle.std.proofs.Math.Path.{fun_ext}
use Rattle.spec_base.specs.Word.{byte_of}
use Rattle.spec_base.specs.Layout.{range_end}
use Rattle.spec_base.specs.declared.layout.Layout.{Layout}
use Rattle.spec_base.specs.declared.machine.View.{View}
use Rattle.spec_base.specs.declared.machine.View.TheVariants.{Plain, Program, Stub, Shadow}
use Rattle.rv_model.specs.Memory.{Memory, loaded, stored, written, all_from}
use Rattle.rv_model.specs.Rights.{in_range, in_text, is_data, in_private, in_link, in_shared, rights_of}
use Rattle.rv_model.specs.Space.{program_byte, text_byte, sees, stored_in, stub_stored, shadow_stored}
use Rattle.program_model.specs.Loading.{data_of}
use Rattle.hart_mem.specs.Places.{stub_place, shadow_place, shared_place, copies_place, stub_spot, shadow_spot, place_of, page_count}
use Rattle.hart_mem.specs.Held.{Held, IsOffText, part}
use Rattle.hart_mem.proofs.Numbers.{loaded_same}
use Rattle.hart_mem.proofs.Grains.{range_end-pages, range_end-below, IsLawful}
use Rattle.rv_model.proofs.DataLemmas.{all_from-at, all_from-inside}
use Rattle.hart_mem.proofs.PartLemmas.{patch_outside, patch_over, part_in, part_miss, part_out}
use Rattle.hart_mem.proofs.PlaceLemmas.{shared_above, shared_below, shared_mod, shared_step}
use Rattle.hart_mem.proofs.SpaceLemmas.{spaced, data_low, private_high, private_end, program_patched, stub_page_patched, shadow_page_patched, shared_patched}

-- ---- tests

or_else : (p q : Bool) → IsTrue (p || q) → p ≡ false → IsTrue q
or_else true q h e = absurd (false≢true (sym e))
or_else false q h e = h

or_left : (p q : Bool) → IsTrue p → IsTrue (p || q)
or_left p q h = ap (λ b. b || q) h

or_deeper : (p q r : Bool) → IsTrue (p || q) → IsTrue (p || (q || r))
or_deeper true q r h = refl
or_deeper false q r h = or_left q r h

or_false : (p : Bool) → IsTrue (p || false) → IsTrue p
or_false true h = refl
or_false false h = h

not_true : (p : Bool) → p ≡ false → IsTrue (not p)
not_true p e = ap not e

and_both : (p q : Bool) → IsTrue p → IsTrue q → IsTrue (p && q)
and_both p q h g = ap (λ b. b && q) h ∙ g

shared_from_link : (l : Layout) (b : ℕ) → IsTrue (in_link b) → IsTrue (in_shared l b)
shared_from_link l b h = or_left _ _ h

-- the private pages and the program range begin and end at multiples of 8
private_eight : (a b : ℕ) → a / 8 ≡ b / 8 → in_private a ≡ in_private b
private_eight a b e = grind (arith, nat_tests)

range_eight : (l : Layout) (a b : ℕ) → a / 8 ≡ b / 8 → in_range l a ≡ in_range l b
range_eight l a b e = grind (arith, nat_tests, range_end-pages l.version)

-- what a view stores it loads
pub store_loads : (v : View) (l : Layout) (b : ℕ) → IsTrue ((rights_of v l).store b) → IsTrue ((rights_of v l).load b)
store_loads Plain l b h = h
store_loads Program l b h = h
store_loads Stub l b h = h
store_loads Shadow l b h = or_deeper (in_private b) (in_shared l b) (in_range l b) h

-- an address of the program range is in it, and isn't shared
pub range_low : (l : Layout) (b : ℕ) → IsTrue (in_range l b) → b < range_end l.version
range_low l b h = grind (arith, nat_tests)

range_unshared : (l : Layout) (b : ℕ) → IsTrue (in_range l b) → IsTrue (in_shared l b) → ⊥
range_unshared l b h s =
    let low : b < range_end l.version = range_low l b h in
    grind (arith, nat_tests, range_end-below l.version)

abbrev stub_right : ℕ → Bool
stub_right b = in_private b || in_link b

-- ---- places

module _ (l : Layout) (lawful : IsLawful l) (a : ℕ) where
  -- the places of addresses one after another
  stub_step : (i : ℕ) → a % 8 + i < 8 → (t : Bool) → in_private a ≡ t → IsTrue (t || in_link a) → stub_spot t l (a + i) ≡ stub_spot t l a + i
  stub_step i h true e ok = omega (arith, private_high a e)
  stub_step i h false e ok = shared_step l lawful a i h (shared_from_link l a ok)

  shadow_step : (i : ℕ) → a % 8 + i < 8 → (t r : Bool) → in_private a ≡ t → IsTrue (t || (in_shared l a || r)) → in_range l a ≡ r → shadow_spot t r l (a + i) ≡ shadow_spot t r l a + i
  shadow_step i h true r e ok f = omega (arith, private_high a e)
  shadow_step i h false true e ok f = refl
  shadow_step i h false false e ok f = shared_step l lawful a i h (or_false (in_shared l a) ok)

  pub place_step : (v : View) (i : ℕ) → a % 8 + i < 8 → IsTrue ((rights_of v l).load a) → place_of v l (a + i) ≡ place_of v l a + i
  place_step Plain i h ok = refl
  place_step Program i h ok = refl
  place_step Stub i h ok =
      ap (λ t. stub_spot t l (a + i)) (private_eight (a + i) a (omega arith)) ∙ stub_step i h (in_private a) refl ok
  place_step Shadow i h ok =
      ap (λ t. shadow_spot t (in_range l (a + i)) l (a + i)) (private_eight (a + i) a (omega arith)) ∙ ap (λ t. shadow_spot (in_private a) t l (a + i)) (range_eight l (a + i) a (omega arith)) ∙ shadow_step i h (in_private a) (in_range l a) refl ok refl

  -- a place is as far from a multiple of 8 as its address
  stub_mod : (t : Bool) → in_private a ≡ t → IsTrue (t || in_link a) → stub_spot t l a % 8 ≡ a % 8
  stub_mod true e ok = omega (arith, private_high a e, range_end-pages l.version)
  stub_mod false e ok = shared_mod l lawful a (shared_from_link l a ok)

  shadow_mod : (t r : Bool) → in_private a ≡ t → IsTrue (t || (in_shared l a || r)) → shadow_spot t r l a % 8 ≡ a % 8
  shadow_mod true r e ok = omega (arith, private_high a e, range_end-pages l.version)
  shadow_mod false true e ok = refl
  shadow_mod false false e ok = shared_mod l lawful a (or_false (in_shared l a) ok)

  pub place_mod : (v : View) → IsTrue ((rights_of v l).load a) → place_of v l a % 8 ≡ a % 8
  place_mod Plain ok = refl
  place_mod Program ok = refl
  place_mod Stub ok = stub_mod (in_private a) refl ok
  place_mod Shadow ok = shadow_mod (in_private a) (in_range l a) refl ok

  -- a place stands in a page of the memory, and where it isn't the program range's, past its pages
  stub_past : (t : Bool) → in_private a ≡ t → IsTrue (t || in_link a) → range_end l.version ≤ stub_spot t l a
  stub_past true e ok = omega arith
  stub_past false e ok = omega (arith, shared_above l lawful a (shared_from_link l a ok))

  stub_below : (t : Bool) → in_private a ≡ t → IsTrue (t || in_link a) → stub_spot t l a < copies_place l + 256 * l.regions
  stub_below true e ok = omega (arith, private_high a e, private_end a e)
  stub_below false e ok = shared_below l lawful a (shared_from_link l a ok)

  shadow_below : (t r : Bool) → in_private a ≡ t → in_range l a ≡ r → IsTrue (t || (in_shared l a || r)) → shadow_spot t r l a < copies_place l + 256 * l.regions
  shadow_below true r e f ok = omega (arith, private_high a e, private_end a e)
  shadow_below false true e f ok = (let low : a < range_end l.version = range_low l a f in omega arith)
  shadow_below false false e f ok = shared_below l lawful a (or_false (in_shared l a) ok)

  place_below : (v : View) → IsTrue ((rights_of v l).load a) → place_of v l a < copies_place l + 256 * l.regions
  place_below Plain ok = (let low : a < range_end l.version = data_low l a ok in omega arith)
  place_below Program ok = (let low : a < range_end l.version = data_low l a ok in omega arith)
  place_below Stub ok = stub_below (in_private a) refl ok
  place_below Shadow ok = shadow_below (in_private a) (in_range l a) refl refl ok

  pub place_inside : (v : View) → IsTrue ((rights_of v l).load a) → place_of v l a / 4096 < page_count l
  place_inside v ok = (let low : place_of v l a < copies_place l + 256 * l.regions = place_below v ok in omega arith)

  pub stub_page_past : IsTrue (in_private a || in_link a) → range_end l.version / 4096 ≤ stub_spot (in_private a) l a / 4096
  stub_page_past ok = (let past : range_end l.version ≤ stub_spot (in_private a) l a = stub_past (in_private a) refl ok in omega arith)

  -- the shadow stores nothing in the program range
  shadow_past : (t r : Bool) → in_private a ≡ t → in_range l a ≡ r → IsTrue (t || in_shared l a) → range_end l.version ≤ shadow_spot t r l a
  shadow_past true r e f ok = omega arith
  shadow_past false true e f ok = absurd (range_unshared l a f ok)
  shadow_past false false e f ok = omega (arith, shared_above l lawful a ok)

  pub shadow_page_past : IsTrue (in_private a || in_shared l a) → range_end l.version / 4096 ≤ shadow_spot (in_private a) (in_range l a) l a / 4096
  shadow_page_past ok = (let past : range_end l.version ≤ shadow_spot (in_private a) (in_range l a) l a = shadow_past (in_private a) (in_range l a) refl refl ok in omega arith)

-- ---- loads

module _ (h : Held) (lawful : IsLawful h.layout) (m : Memory) where
  -- a byte that a view loads is that of its place, but for the text
  stub_seen : (b : ℕ) → (t : Bool) → in_private b ≡ t → IsTrue (t || in_link b) → elim t [ true ↦ part in_private (stub_place h.layout) m b | false ↦ part (in_shared h.layout) (shared_place h.layout) m b ] ≡ m (stub_spot t h.layout b)
  stub_seen b true e ok = part_in in_private (stub_place h.layout) m b e
  stub_seen b false e ok = part_in (in_shared h.layout) (shared_place h.layout) m b (shared_from_link h.layout b ok)

  shadow_seen : (b : ℕ) (t r : Bool) → in_private b ≡ t → in_range h.layout b ≡ r → in_text h.layout b ≡ false → IsTrue (t || (in_shared h.layout b || r))
      → elim t [
        | true ↦ part in_private (shadow_place h.layout) m b
        | false ↦ elim r [ true ↦ program_byte h.layout h.text (part (is_data h.layout) (λ a. a) m) b | false ↦ part (in_shared h.layout) (shared_place h.layout) m b ]
      ] ≡ m (shadow_spot t r h.layout b)
  shadow_seen b true r e f off ok = part_in in_private (shadow_place h.layout) m b e
  shadow_seen b false true e f off ok =
      let is : IsTrue (is_data h.layout b) = and_both (in_range h.layout b) (not (in_text h.layout b)) f (not_true (in_text h.layout b) off) in
      rw (off, program_byte) (part_in (is_data h.layout) (λ a. a) m b is)
  shadow_seen b false false e f off ok = part_in (in_shared h.layout) (shared_place h.layout) m b (or_false (in_shared h.layout b) ok)

  pub sees_place : (v : View) (b : ℕ) → IsTrue ((rights_of v h.layout).load b) → (v ≡ Shadow → in_text h.layout b ≡ false) → sees v (spaced h m) b ≡ m (place_of v h.layout b)
  sees_place Plain b ok off = part_in (is_data h.layout) (λ a. a) m b ok
  sees_place Program b ok off = part_in (is_data h.layout) (λ a. a) m b ok
  sees_place Stub b ok off = stub_seen b (in_private b) refl ok
  sees_place Shadow b ok off = shadow_seen b (in_private b) (in_range h.layout b) refl refl (off refl) ok

  -- a byte of an aligned number stands at its place
  pub seen_view : (v : View) (a n : ℕ) → a % 8 + n ≤ 8 → IsTrue (all_from (rights_of v h.layout).load a n) → 1 ≤ n → (v ≡ Shadow → IsOffText h.layout a n) → (i : ℕ) → i < n → sees v (spaced h m) (a + i) ≡ m (place_of v h.layout a + i)
  seen_view v a n eight ok some off i l =
      let first : IsTrue ((rights_of v h.layout).load a) = all_from-inside (rights_of v h.layout).load n a ok a (omega arith) (omega arith) in
      sees_place v (a + i) (all_from-at (rights_of v h.layout).load n a i ok l) (λ e. off e i l) ∙ ap m (place_step h.layout lawful a v i (omega arith) first)

  pub loaded_view : (v : View) (a n : ℕ) → a % 8 + n ≤ 8 → IsTrue (all_from (rights_of v h.layout).load a n) → 1 ≤ n → (v ≡ Shadow → IsOffText h.layout a n) → loaded m (place_of v h.layout a) n ≡ loaded (sees v (spaced h m)) a n
  loaded_view v a n eight ok some off =
      loaded_same m (sees v (spaced h m)) n (place_of v h.layout a) a (λ i l. sym (seen_view v a n eight ok some off i l))

-- what the shadow sees of the program range
not_private : (l : Layout) (b : ℕ) → IsTrue (in_range l b) → in_private b ≡ false
not_private l b h =
    let low : b < range_end l.version = range_low l b h in
    grind (arith, nat_tests, range_end-below l.version)

-- the choice of a byte that the shadow sees
abbrev chosen : Bool → Bool → Bool → ℕ → ℕ → ℕ → ℕ → ℕ
chosen private in_program of_text page word byte other = elim private [ true ↦ page | false ↦ elim in_program [ true ↦ elim of_text [ true ↦ word | false ↦ byte ] | false ↦ other ] ]

chosen_word : (t r x : Bool) (page word byte other : ℕ) → t ≡ false → r ≡ true → x ≡ true → chosen t r x page word byte other ≡ word
chosen_word t r x page word byte other e f g = rw (e, f, g) refl

chosen_data : (t r x : Bool) (page word byte other : ℕ) → t ≡ false → r ≡ true → x ≡ false → chosen t r x page word byte other ≡ byte
chosen_data t r x page word byte other e f g = rw (e, f, g) refl

module _ (h : Held) (m : Memory) (b : ℕ) (inside : IsTrue (in_range h.layout b)) where
  pub sees_text : in_text h.layout b ≡ true → sees Shadow (spaced h m) b ≡ text_byte h.layout h.text b
  sees_text e =
      chosen_word (in_private b) (in_range h.layout b) (in_text h.layout b) (part in_private (shadow_place h.layout) m b) (text_byte h.layout h.text b) (part (is_data h.layout) (λ a. a) m b) (part (in_shared h.layout) (shared_place h.layout) m b) (not_private h.layout b inside) inside e

  pub sees_data : in_text h.layout b ≡ false → sees Shadow (spaced h m) b ≡ m b
  sees_data e =
      let is : IsTrue (is_data h.layout b) = and_both (in_range h.layout b) (not (in_text h.layout b)) inside (not_true (in_text h.layout b) e) in
      chosen_data (in_private b) (in_range h.layout b) (in_text h.layout b) (part in_private (shadow_place h.layout) m b) (text_byte h.layout h.text b) (part (is_data h.layout) (λ a. a) m b) (part (in_shared h.layout) (shared_place h.layout) m b) (not_private h.layout b inside) inside e ∙ part_in (is_data h.layout) (λ a. a) m b is

-- a byte that the shadow loads below the link is of the program range
pub shadow_low : (l : Layout) (b : ℕ) → IsTrue ((rights_of Shadow l).load b) → b < 0x4200_0000 → IsTrue (in_range l b)
shadow_low l b ok low = grind (arith, nat_tests)

-- ---- accesses past the text or before it

-- ---- stores

module _ (h : Held) (lawful : IsLawful h.layout) (m : Memory) (a n x : ℕ) (eight : a % 8 + n ≤ 8) (some : 1 ≤ n) where
  stub_stored-is : (t : Bool) → in_private a ≡ t → IsTrue (all_from stub_right a n) → spaced h (stored m (stub_spot t h.layout a) n x) ≡ stub_stored t (spaced h m) a n x
  stub_stored-is true e ok = stub_page_patched h lawful m a n (byte_of x) (λ b low high. private_eight b a (omega arith) ∙ e) some
  stub_stored-is false e ok =
      shared_patched h lawful m a n (byte_of x) eight (λ b low high. shared_from_link h.layout b (or_else (in_private b) (in_link b) (all_from-inside stub_right n a ok b low high) (private_eight b a (omega arith) ∙ e))) some

  shadow_stored-is : (t r : Bool) → in_private a ≡ t → in_range h.layout a ≡ r → IsTrue (all_from (rights_of Shadow h.layout).store a n) → spaced h (stored m (shadow_spot t r h.layout a) n x) ≡ shadow_stored t (spaced h m) a n x
  shadow_stored-is true r e f ok = shadow_page_patched h lawful m a n (byte_of x) (λ b low high. private_eight b a (omega arith) ∙ e) some
  shadow_stored-is false true e f ok = absurd (range_unshared h.layout a f (or_else (in_private a) (in_shared h.layout a) (all_from-inside (rights_of Shadow h.layout).store n a ok a (omega arith) (omega arith)) e))
  shadow_stored-is false false e f ok =
      shared_patched h lawful m a n (byte_of x) eight (λ b low high. or_else (in_private b) (in_shared h.layout b) (all_from-inside (rights_of Shadow h.layout).store n a ok b low high) (private_eight b a (omega arith) ∙ e)) some

  pub stored_view : (v : View) → IsTrue (all_from (rights_of v h.layout).store a n) → spaced h (stored m (place_of v h.layout a) n x) ≡ stored_in v (spaced h m) a n x
  stored_view Plain ok = program_patched h lawful m a n (byte_of x) (all_from-inside (is_data h.layout) n a ok)
  stored_view Program ok = program_patched h lawful m a n (byte_of x) (all_from-inside (is_data h.layout) n a ok)
  stored_view Stub ok = stub_stored-is (in_private a) refl ok
  stored_view Shadow ok = shadow_stored-is (in_private a) (in_range h.layout a) refl refl ok

-- ---- loading

module _ (l : Layout) (m : Memory) (a : ℕ) (bytes : List ℕ) (above : 0x1000 ≤ a) (below : a + length bytes ≤ range_end l.version) where
  -- a byte of the bytes is in the range
  within_range : (b : ℕ) → a ≤ b → b < a + length bytes → IsTrue (in_range l b)
  within_range b low high = grind (arith, nat_tests)

  part_byte : (b : ℕ) (r t : Bool) → in_range l b ≡ r → in_text l b ≡ t → part (is_data l) (λ a. a) (written m a bytes) b ≡ elim t [ true ↦ 0 | false ↦ written (part (is_data l) (λ a. a) m) a bytes b ]
  part_byte b true true f e = part_out (is_data l) (λ a. a) (written m a bytes) b (rw (f, e) refl)
  part_byte b false true f e = part_out (is_data l) (λ a. a) (written m a bytes) b (rw f refl)
  part_byte b true false f e =
      let is : IsTrue (is_data l b) = and_both (in_range l b) (not (in_text l b)) f (not_true (in_text l b) e) in
      part_in (is_data l) (λ a. a) (written m a bytes) b is ∙ patch_over m (part (is_data l) (λ a. a) m) a (length bytes) _ b (sym (part_in (is_data l) (λ a. a) m b is))
  part_byte b false false f e =
      let none : is_data l b ≡ false = rw f refl in
      part_out (is_data l) (λ a. a) (written m a bytes) b none ∙ sym (part_out (is_data l) (λ a. a) m b none) ∙ sym (patch_outside (part (is_data l) (λ a. a) m) a (length bytes) _ b (λ low high. false≢true (sym f ∙ within_range b low high)))

  pub part_loaded : part (is_data l) (λ a. a) (written m a bytes) ≡ data_of l (written (part (is_data l) (λ a. a) m) a bytes)
  part_loaded = fun_ext (λ b. part_byte b (in_range l b) (in_text l b) refl refl)

-- a part of the program range is loaded
module _ (h : Held) (lawful : IsLawful h.layout) (m : Memory) (a : ℕ) (bytes : List ℕ) (above : 0x1000 ≤ a) (below : a + length bytes ≤ range_end h.layout.version) where
  -- only the program part sees it
  loaded_ends : (p : ℕ) → range_end h.layout.version ≤ p → a ≤ p → p < a + length bytes → ⊥
  loaded_ends p past low high = absurd (omega arith)

  pub loaded_spaced : spaced h (written m a bytes) ≡ record (spaced h m) { program = data_of h.layout (written (part (is_data h.layout) (λ a. a) m) a bytes) }
  loaded_spaced =
      let one = part_loaded h.layout m a bytes above below in
      let two = part_miss (in_shared h.layout) (shared_place h.layout) m a (length bytes) (λ i. get_or bytes i 0) (λ b e low high. loaded_ends (shared_place h.layout b) (omega (arith, shared_above h.layout lawful b e)) low high) in
      let three = part_miss in_private (stub_place h.layout) m a (length bytes) (λ i. get_or bytes i 0) (λ b e low high. loaded_ends (stub_place h.layout b) (omega arith) low high) in
      let four = part_miss in_private (shadow_place h.layout) m a (length bytes) (λ i. get_or bytes i 0) (λ b e low high. loaded_ends (shadow_place h.layout b) (omega arith) low high) in
      rw (one, two, three, four) refl
