-- Stretches of data of a memory: whether all of one is data, and its bytes.
use Rattle.std.proofs.Common.{◌≡◌, ℕ, ◌+◌, ◌-◌, ◌*◌, ◌^◌, ◌≤◌, ◌<◌, Bool, true, false, not, ◌&&◌, ◌||◌, nat_le, nat_lt, IsTrue, List, [], ◌∷◌, length, take, drop, Some, None, refl, ap, sym, arith, subst, inl, inr, ◌⊎◌, lit≤, ◌∙◌, length-drop}
use Rattle.std.specs.Prelude.{is_some, unwrap_or}
use Rattle.std.proofs.lemmas.Bool.{cases_lt}
use Rattle.std.proofs.lemmas.Bool.Decides.{nat_tests}
use Rattle.std.proofs.Math.Path.{fun_ext}
use Rattle.std.proofs.lemmas.List.{length-take-le}
use Rattle.std.proofs.lemmas.Slice.{take-put_mid}
use borrow.Rule.Slice.PartMut.{put_mid, same_len_mid}
use Rattle.spec_base.specs.Layout.{range_end, is_lawful}
use Rattle.spec_base.specs.declared.layout.Layout.{Layout}
use Rattle.spec_base.specs.declared.layout.Version.{Version}
use Rattle.spec_base.specs.declared.layout.Version.TheVariants.{One, Two}
use Rattle.rv_model.specs.Memory.{Memory, all_from, bytes_at}
use Rattle.rv_model.specs.Rights.{is_data, in_range, in_text}
use Rattle.rv_model.specs.Space.{Space}
use Rattle.rv_model.specs.Data.{byte_if, data_in, memory_in}
use Rattle.rv_model.proofs.DataLemmas.{all_from-at, all_from-fails, all_from-holds, bytes_at-append, bytes_at-length, bytes_at-same}
use Rattle.hart_mem.specs.Paged.{flat}
use Rattle.hart_mem.specs.Held.{Held, IsWhole, data_byte, part, space_of}
use Rattle.hart_mem.proofs.Grains.{IsLawful, lawful_is, range_end-below}
use Rattle.hart_mem.proofs.PartLemmas.{part_in}
use Rattle.hart_mem.proofs.MemLemmas.{data_ends, range_pages}

-- ---- the data of a memory

both : (a b : Bool) → (a && b) ≡ true → (a ≡ true) × (b ≡ true)
both true b e = (refl, e)
both false b e = (e, absurd (let f : false ≡ true = e in cc))

range_below : (v : Version) → range_end v ≤ 2 ^ 64
range_below One = lit≤ tt
range_below Two = lit≤ tt

-- data has addresses below 2^64
data_below : (l : Layout) (a : ℕ) → is_data l a ≡ true → a < 2 ^ 64
data_below l a h =
    let parts = both (in_range l a) (not (in_text l a)) h in
    let ends = both (nat_le 0x1000 a) (nat_lt a (range_end l.version)) parts.0 in
    let test : nat_lt a (range_end l.version) ≡ true = ends.1 in
    let most = range_below l.version in
    grind (arith, nat_tests)

data_past : (l : Layout) (a : ℕ) → nat_lt a (2 ^ 64) ≡ false → is_data l a ≡ false
data_past l a e = by (is_data l a) refl
  where
    by : (d : Bool) → is_data l a ≡ d → d ≡ false
    by false f = refl
    by true f = absurd (let low = data_below l a f in grind (arith, nat_tests))

some_byte : (b d : Bool) (x : ℕ) → (b ≡ false → d ≡ false) → is_some (byte_if b (elim d [ true ↦ Some x | false ↦ None ])) ≡ d
some_byte true true x h = refl
some_byte true false x h = refl
some_byte false true x h = absurd (let g : true ≡ false = h refl in cc)
some_byte false false x h = refl

the_byte : (b d : Bool) (x : ℕ) → (b ≡ false → d ≡ false) → (d ≡ false → x ≡ 0) → unwrap_or (byte_if b (elim d [ true ↦ Some x | false ↦ None ])) 0 ≡ x
the_byte true true x h z = refl
the_byte true false x h z = sym (z refl)
the_byte false true x h z = absurd (let g : true ≡ false = h refl in cc)
the_byte false false x h z = sym (z refl)

-- the data of a memory of all parts, by its bytes
pub data-is : (sp : Space) → data_in (data_byte sp) ≡ is_data sp.layout
data-is sp = fun_ext (λ a. some_byte (nat_lt a (2 ^ 64)) (is_data sp.layout a) (sp.program a) (data_past sp.layout a))

pub memory-is : (sp : Space) → ((a : ℕ) → is_data sp.layout a ≡ false → sp.program a ≡ 0) → memory_in (data_byte sp) ≡ sp.program
memory-is sp zero_off = fun_ext (λ a. the_byte (nat_lt a (2 ^ 64)) (is_data sp.layout a) (sp.program a) (data_past sp.layout a) (zero_off a))

off : (b : Bool) (x : ℕ) → b ≡ false → ◌≡◌ {A = ℕ} (elim b [ true ↦ x | false ↦ 0 ]) 0
off true x e = absurd (let g : true ≡ false = e in cc)
off false x e = refl

-- the program's bytes are 0 where they aren't data
pub zero_off_data : (h : Held) (a : ℕ) → is_data (space_of h).layout a ≡ false → (space_of h).program a ≡ 0
unfolding space_of part
zero_off_data h a e = off (is_data h.layout a) _ e

-- ---- whether all of a stretch is data

module _ (l : Layout) (lawful : IsTrue (is_lawful l)) (a n : ℕ) (some : 1 ≤ n) where
  law : IsLawful l
  law = lawful_is l lawful

  -- its first byte isn't in the range
  pub all_data-outside : in_range l a ≡ false → false ≡ all_from (is_data l) a n
  all_data-outside e = sym (all_from-fails (is_data l) a n a (omega arith) (omega arith) (grind (arith, nat_tests)))

  -- its last byte isn't
  pub all_data-past : range_end l.version - a < n → a ≤ range_end l.version → false ≡ all_from (is_data l) a n
  all_data-past h low = sym (all_from-fails (is_data l) a n (a + n - 1) (omega arith) (omega arith) (grind (arith, nat_tests)))

  -- it begins in the text
  in_it : l.text_start ≤ a → a < l.text_end → all_from (is_data l) a n ≡ false
  in_it p q = all_from-fails (is_data l) a n a (omega arith) (omega arith) (grind (arith, nat_tests))

  -- it goes on into the text
  into_it : a < l.text_start → l.text_start < a + n → all_from (is_data l) a n ≡ false
  into_it p q = all_from-fails (is_data l) a n l.text_start (omega arith) (omega arith) (let some_text = law.some in grind (arith, nat_tests))

  -- it is clear of it
  clear : in_range l a ≡ true → a + n ≤ range_end l.version → (a + n ≤ l.text_start) ⊎ (l.text_end ≤ a) → all_from (is_data l) a n ≡ true
  clear e h (inl before) = all_from-holds (is_data l) a n (λ b low high. grind (arith, nat_tests))
  clear e h (inr behind) = all_from-holds (is_data l) a n (λ b low high. grind (arith, nat_tests))

  pub all_data-inside : in_range l a ≡ true → n ≤ range_end l.version - a → (nat_le (a + n) l.text_start || nat_le l.text_end a) ≡ all_from (is_data l) a n
  all_data-inside e h = by (nat_le (a + n) l.text_start) (nat_le l.text_end a) refl refl
    where
      by : (p q : Bool) → nat_le (a + n) l.text_start ≡ p → nat_le l.text_end a ≡ q → (p || q) ≡ all_from (is_data l) a n
      by true q f g = sym (clear e (omega arith) (inl (grind (arith, nat_tests))))
      by false true f g = sym (clear e (omega arith) (inr (grind (arith, nat_tests))))
      by false false f g =
          elim (cases_lt a l.text_start) [
            | inl before ↦ sym (into_it before (grind (arith, nat_tests)))
            | inr behind ↦ sym (in_it behind (grind (arith, nat_tests)))
          ]

-- ---- the bytes of a stretch of data

-- bytes of the pages, where they are data
pub data_bytes : (h : Held) (a n : ℕ) → IsTrue (all_from (data_in (data_byte (space_of h))) a n) → bytes_at (flat h.pages) a n ≡ bytes_at (memory_in (data_byte (space_of h))) a n
unfolding space_of
data_bytes h a n inside =
    let tests : IsTrue (all_from (is_data h.layout) a n) = subst (λ (t : ℕ → Bool). IsTrue (all_from t a n)) (data-is (space_of h)) inside in
    bytes_at-same (flat h.pages) (space_of h).program a n (λ i l. sym (part_in (is_data h.layout) (λ b. b) (flat h.pages) (a + i) (all_from-at (is_data h.layout) n a i tests l)))
    ∙ ap (λ (m : Memory). bytes_at m a n) (sym (memory-is (space_of h) (zero_off_data h)))

-- bytes copied up to `end`, after those up to `done`
module _ (m : Memory) (a done end : ℕ) (xs ys : List ℕ) (order : done ≤ end) (ends : end ≤ length xs) (is : ys ≡ bytes_at m (a + done) (length (take (end - done) (drop done xs)))) where
  piece : length (take (end - done) (drop done xs)) ≡ end - done
  piece = length-take-le (end - done) (drop done xs) (omega (arith, length-drop done xs))

  as_long : length ys ≡ end - done
  as_long = ap length is ∙ bytes_at-length m (a + done) (length (take (end - done) (drop done xs))) ∙ piece

  pub copied_more : take done xs ≡ bytes_at m a done → take end (put_mid done (end - done) xs ys) ≡ bytes_at m a end
  copied_more before =
      let sum : done + (end - done) ≡ end = omega arith in
      let now : ys ≡ bytes_at m (a + done) (end - done) = is ∙ ap (bytes_at m (a + done)) piece in
      take-put_mid done (end - done) xs ys end (omega (arith, as_long)) (omega arith) ∙ rw (before, now) (sym (bytes_at-append m a done (end - done)) ∙ ap (bytes_at m a) sum)

  pub copied_length : length (put_mid done (end - done) xs ys) ≡ length xs
  copied_length = same_len_mid done (end - done) xs ys (as_long ∙ sym piece)

-- no bytes
pub no_bytes : (m : Memory) (a : ℕ) (xs : List ℕ) → length xs ≡ 0 → xs ≡ bytes_at m a (length xs)
unfolding bytes_at
no_bytes m a [] e = refl
no_bytes m a (x ∷ xs) e = absurd (omega arith)

module _ (h : Held) (whole : IsWhole h) (a n : ℕ) (some : 1 ≤ n) (inside : IsTrue (all_from (data_in (data_byte (space_of h))) a n)) where
  tests : IsTrue (all_from (is_data h.layout) a n)
  unfolding space_of
  tests = subst (λ (t : ℕ → Bool). IsTrue (all_from t a n)) (data-is (space_of h)) inside

  ends : a + n ≤ range_end h.layout.version
  ends = data_ends h whole a n some tests

  pub data_inside : a + n ≤ 4096 * length h.pages.table
  data_inside = range_pages h whole (a + n) ends

  pub data_fits : a + n < 2 ^ 62
  data_fits = omega (arith, ends, range_end-below h.layout.version)
