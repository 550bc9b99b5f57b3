-- What the shadow loads and stores where: its rights, and the part of its memory that has the bytes.
use Rattle.std.proofs.Common.{◌≡◌, ℕ, zero, suc, ◌+◌, ◌*◌, ◌/◌, ◌%◌, ◌^◌, ◌<◌, ◌≤◌, Bool, true, false, ◌||◌, List, refl, ◌∙◌, ap, ap₂, arith, eq-eqb}
use Rattle.std.proofs.lemmas.Bool.Decides.{nat_tests}
use Rattle.spec_base.specs.Layout.{range_start, range_end, link_start, link_bytes, table_start, list_start, copies_start, private_start}
use Rattle.spec_base.specs.declared.layout.Version.{Version}
use Rattle.spec_base.specs.declared.layout.Version.TheVariants.{One, Two}
use Rattle.spec_base.specs.declared.layout.Layout.{Layout}
use Rattle.rv_decode.specs.declared.instr.LoadOp.{LoadOp}
use Rattle.rv_model.specs.Memory.{Memory, loaded}
use Rattle.rv_model.specs.Registers.{Registers, with_reg}
use Rattle.rv_model.specs.Rights.{in_private, in_range, in_shared, in_link, in_table, in_list, in_copies, list_bytes, shadow_rights}
use Rattle.rv_model.specs.Arithmetic.{load_width, extended}
use Rattle.rv_model.specs.Effect.{Stored, load_effect, load_if, store_effect, store_if, steps_on}
use Rattle.rv_model.specs.Space.{program_byte, shadow_sees}
use Rattle.rv_model.proofs.DataLemmas.{all_from-holds}
use Rattle.code_model.specs.Regions.{entry_address, listed_address}
use Rattle.code_model.specs.Tables.{all_regions}

-- the program range ends at or below the emitted code
pub range-most : (v : Version) → range_end v ≤ 0x4000_0000
range-most One = omega arith
range-most Two = omega arith

-- ---- parts, byte by byte

module _ (l : Layout) where
  -- the private page
  pub private_byte : (x : ℕ) → private_start ≤ x → x < 2 ^ 64 → in_private x ≡ true
  private_byte x h k = grind (arith, nat_tests)

  -- below it there is none
  pub no_private_byte : (x : ℕ) → x < private_start → in_private x ≡ false
  no_private_byte x h = grind (arith, nat_tests)

  -- the program range
  range_byte : (x : ℕ) → range_start ≤ x → x < range_end l.version → in_range l x ≡ true
  range_byte x h k = grind (arith, nat_tests)

  -- above it there is none
  no_range_byte : (x : ℕ) → 0x4000_0000 ≤ x → in_range l x ≡ false
  no_range_byte x h = let e : range_end l.version ≤ 0x4000_0000 = range-most l.version in grind (arith, nat_tests)

  pub link_byte : (x : ℕ) → link_start ≤ x → x < link_start + link_bytes → in_shared l x ≡ true
  link_byte x h k = let e : in_link x ≡ true = grind (arith, nat_tests) in rw e refl

  table_byte : (x : ℕ) → table_start ≤ x → x < table_start + range_end l.version / 64 → in_shared l x ≡ true
  table_byte x h k = let e : in_table l x ≡ true = grind (arith, nat_tests) in by_test (in_link x)
    where
      by_test : (b : Bool) → (b || (in_table l x || (in_list l x || in_copies l x))) ≡ true
      by_test true = refl
      by_test false = let e : in_table l x ≡ true = grind (arith, nat_tests) in rw e refl

  list_byte : (x : ℕ) → list_start ≤ x → x < list_start + list_bytes l → in_shared l x ≡ true
  list_byte x h k = by_tests (in_link x) (in_table l x)
    where
      by_tests : (b c : Bool) → (b || (c || (in_list l x || in_copies l x))) ≡ true
      by_tests true c = refl
      by_tests false true = refl
      by_tests false false = let e : in_list l x ≡ true = grind (arith, nat_tests) in rw e refl

  pub copy_byte : (x : ℕ) → copies_start ≤ x → x < copies_start + 256 * l.regions → in_shared l x ≡ true
  copy_byte x h k = by_tests (in_link x) (in_table l x) (in_list l x)
    where
      by_tests : (b c d : Bool) → (b || (c || (d || in_copies l x))) ≡ true
      by_tests true c d = refl
      by_tests false true d = refl
      by_tests false false true = refl
      by_tests false false false = grind (arith, nat_tests)

  -- ---- rights, byte by byte

  -- what it shares is loaded
  load_shared : (x : ℕ) → in_shared l x ≡ true → (shadow_rights l).load x ≡ true
  load_shared x e = by_test (in_private x)
    where
      by_test : (b : Bool) → (b || (in_shared l x || in_range l x)) ≡ true
      by_test true = refl
      by_test false = rw e refl

  -- and stored
  store_shared : (x : ℕ) → in_shared l x ≡ true → (shadow_rights l).store x ≡ true
  store_shared x e = by_test (in_private x)
    where
      by_test : (b : Bool) → (b || in_shared l x) ≡ true
      by_test true = refl
      by_test false = e

  -- the private page is loaded and stored
  load_private : (x : ℕ) → private_start ≤ x → x < 2 ^ 64 → (shadow_rights l).load x ≡ true
  load_private x h k = rw (private_byte x h k) refl

  store_private : (x : ℕ) → private_start ≤ x → x < 2 ^ 64 → (shadow_rights l).store x ≡ true
  store_private x h k = rw (private_byte x h k) refl

  -- the program range is loaded
  load_range : (x : ℕ) → range_start ≤ x → x < range_end l.version → (shadow_rights l).load x ≡ true
  load_range x h k = by_tests (in_private x) (in_shared l x)
    where
      by_tests : (b c : Bool) → (b || (c || in_range l x)) ≡ true
      by_tests true c = refl
      by_tests false true = refl
      by_tests false false = range_byte x h k

  -- ---- the bytes that are seen

  module _ (words : List ℕ) (program shared page : Memory) where
    -- the shadow's memory
    abbrev view : Memory
    view = shadow_sees l words program shared page

    -- a number of the private page
    pub loaded-private : (a n : ℕ) → private_start ≤ a → a + n ≤ 2 ^ 64 → loaded view a n ≡ loaded page a n
    unfolding loaded
    loaded-private a zero h k = refl
    loaded-private a (suc n) h k =
        ap₂ (λ (x y : ℕ). x + 256 * y) (ap (λ b. elim b [ true ↦ page a | false ↦ elim (in_range l a) [ true ↦ program_byte l words program a | false ↦ shared a ] ]) (private_byte a h (omega arith)))
        (loaded-private (a + 1) n (omega arith) (omega arith))

    -- a number of what is shared
    pub loaded-shared : (a n : ℕ) → 0x4000_0000 ≤ a → a + n ≤ private_start → loaded view a n ≡ loaded shared a n
    unfolding loaded
    loaded-shared a zero h k = refl
    loaded-shared a (suc n) h k =
        ap₂ (λ (x y : ℕ). x + 256 * y)
        (ap₂ (λ b c. elim b [ true ↦ page a | false ↦ elim c [ true ↦ program_byte l words program a | false ↦ shared a ] ]) (no_private_byte a (omega arith)) (no_range_byte a h))
        (loaded-shared (a + 1) n (omega arith) (omega arith))

    -- a number of the program range
    pub loaded-program : (a n : ℕ) → range_start ≤ a → a + n ≤ range_end l.version → loaded view a n ≡ loaded (program_byte l words program) a n
    unfolding loaded
    loaded-program a zero h k = refl
    loaded-program a (suc n) h k =
        let most : range_end l.version ≤ 0x4000_0000 = range-most l.version in
        ap₂ (λ (x y : ℕ). x + 256 * y)
        (ap₂ (λ b c. elim b [ true ↦ page a | false ↦ elim c [ true ↦ program_byte l words program a | false ↦ shared a ] ]) (no_private_byte a (omega arith)) (range_byte a h (omega arith)))
        (loaded-program (a + 1) n (omega arith) (omega arith))

    -- ---- effects

    module _ (rs : Registers) (pc : ℕ) where
      -- a load of a number that may be loaded
      loads : (op : LoadOp) (rd a v : ℕ) → a % load_width op ≡ 0 → ((x : ℕ) → a ≤ x → x < a + load_width op → (shadow_rights l).load x ≡ true) → loaded view a (load_width op) ≡ v
          → load_effect (shadow_rights l) view op rs pc rd a ≡ steps_on (with_reg rs rd (extended op v)) pc
      loads op rd a v even h e =
          ap₂ (λ (b c : Bool). load_if b c view op rs pc rd a) (eq-eqb (a % load_width op) 0 even) (all_from-holds (shadow_rights l).load a (load_width op) h)
          ∙ ap (λ (x : ℕ). steps_on (with_reg rs rd (extended op x)) pc) e

      -- of the private page
      pub loads-private : (op : LoadOp) (rd a : ℕ) → a % load_width op ≡ 0 → private_start ≤ a → a + load_width op ≤ 2 ^ 64
          → load_effect (shadow_rights l) view op rs pc rd a ≡ steps_on (with_reg rs rd (extended op (loaded page a (load_width op)))) pc
      loads-private op rd a even h k = loads op rd a _ even (λ x i j. load_private x (omega arith) (omega arith)) (loaded-private a (load_width op) h k)

      -- of the program range
      pub loads-program : (op : LoadOp) (rd a : ℕ) → a % load_width op ≡ 0 → range_start ≤ a → a + load_width op ≤ range_end l.version
          → load_effect (shadow_rights l) view op rs pc rd a ≡ steps_on (with_reg rs rd (extended op (loaded (program_byte l words program) a (load_width op)))) pc
      loads-program op rd a even h k = loads op rd a _ even (λ x i j. load_range x (omega arith) (omega arith)) (loaded-program a (load_width op) h k)

      -- of what is shared
      pub loads-shared : (op : LoadOp) (rd a : ℕ) → a % load_width op ≡ 0 → 0x4000_0000 ≤ a → a + load_width op ≤ private_start → ((x : ℕ) → a ≤ x → x < a + load_width op → in_shared l x ≡ true)
          → load_effect (shadow_rights l) view op rs pc rd a ≡ steps_on (with_reg rs rd (extended op (loaded shared a (load_width op)))) pc
      loads-shared op rd a even h k each = loads op rd a _ even (λ x i j. load_shared x (each x i j)) (loaded-shared a (load_width op) h k)

  -- ---- stores

  -- a store of a number that may be stored
  stores : (a width v : ℕ) → a % width ≡ 0 → ((x : ℕ) → a ≤ x → x < a + width → (shadow_rights l).store x ≡ true) → store_effect (shadow_rights l) a width v ≡ Stored a width v
  stores a width v even h = ap₂ (λ (b c : Bool). store_if b c a width v) (eq-eqb (a % width) 0 even) (all_from-holds (shadow_rights l).store a width h)

  -- to the private page
  pub stores-private : (a width v : ℕ) → a % width ≡ 0 → private_start ≤ a → a + width ≤ 2 ^ 64 → store_effect (shadow_rights l) a width v ≡ Stored a width v
  stores-private a width v even h k = stores a width v even (λ x i j. store_private x (omega arith) (omega arith))

  -- to what is shared
  pub stores-shared : (a width v : ℕ) → a % width ≡ 0 → ((x : ℕ) → a ≤ x → x < a + width → in_shared l x ≡ true) → store_effect (shadow_rights l) a width v ≡ Stored a width v
  stores-shared a width v even h = stores a width v even (λ x i j. store_shared x (h x i j))

  -- ---- places of what is shared

  -- an entry of the table
  pub entry_bytes : (region x : ℕ) → region < all_regions l → entry_address region ≤ x → x < entry_address region + 4 → in_shared l x ≡ true
  entry_bytes region x h i j = table_byte x (omega arith) (omega arith)

  -- the count
  pub count_bytes : (x : ℕ) → list_start ≤ x → x < list_start + 8 → in_shared l x ≡ true
  count_bytes x i j = list_byte x i (omega arith)

  -- a word of the list
  pub listed_bytes : (slot x : ℕ) → slot < l.regions → listed_address slot ≤ x → x < listed_address slot + 4 → in_shared l x ≡ true
  listed_bytes slot x h i j = list_byte x (omega arith) (omega arith)
