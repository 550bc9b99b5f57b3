-- How the shadow's words are proved, one row for each word (this project's own).
--
-- A family of rows belongs to a block shape or a helper. It is a data type with a constructor for each word:
--
--     pub data Row : Place → Regs → Priv → Tabs → ℕ → Type 0 where
--       w2 : {p : Priv} {t : Tabs} → Row (InBlock 2) q (spilled p) t 226
--
-- Its indices are all that is known before that word: the place, the registers, the private places, the table and the
-- list, and how many words are left at most up to the next arrival. What a word may find is an argument of its
-- constructor: any number, the branches that were passed, bounds. The parameters of the family are the layout, the
-- instruction at hand with its address, and the program's registers at the last arrival.
--
-- One clause for each word then says that it is led on, `Led`: `exec` computes what it does, so that the next row's
-- indices are those that it finds, and the clause names that row. A clause is one of these, or a case of a branch:
--
--     keeps ok w2 = on w3 ok refl refl                                    the next word's row; fewer words are left; it is no arrival
--     keeps ok w5 = leaps (InHelper Jumping 0) place (on ..)              a jump, whose target is the address of a place
--     keeps ok w6 = forks (λ e. ..) (λ e. ..)                             a branch: where it is taken, and where it isn't
--     keeps ok w7 = takes_entry region address below (on ..)              a load of the table; takes_count, takes_listed, ..
--     keeps ok w9 = arrives (p + 4) place block next ok                   word 1 of a block
--     keeps ok f1 = parks reason ok
--
-- The private places that a row says nothing of are an explicit argument of its constructor, since they aren't found from
-- the indices. A block that goes on in a helper with rows of its own, as JUMP, is led in the sum of both families.
--
-- Where a number isn't computed to the row's, `rw` with an equation of numbers goes before. `TableOk` goes from word to
-- word as `ok`; only the words that change the table or the list prove it anew.
use Rattle.std.specs.Prelude.{ℕ, ◌+◌, ◌*◌, ◌%◌, ◌^◌, ◌≡◌, ◌≤◌, ◌<◌, Bool, true, nat_lt}
use Rattle.spec_base.specs.Layout.{range_start, range_end, link_start, link_bytes, list_start, copies_start}
use Rattle.spec_base.specs.declared.layout.Layout.{Layout}
use Rattle.spec_base.specs.declared.park.Park.{Park}
use Rattle.rv_decode.specs.declared.instr.LoadOp.{LoadOp}
use Rattle.rv_decode.specs.declared.instr.LoadOp.TheVariants.{Lwu, Ld}
use Rattle.rv_decode.specs.declared.instr.StoreOp.{StoreOp}
use Rattle.rv_decode.specs.declared.instr.StoreOp.TheVariants.{Sw, Sd}
use Rattle.rv_model.specs.Memory.{Memory, loaded, stored}
use Rattle.rv_model.specs.Arithmetic.{load_width, store_width, extended}
use Rattle.code_model.specs.Places.{block_at}
use Rattle.code_model.specs.Regions.{entry_address, listed_address}
use Rattle.side_model.specs.Hart.{Regs, Priv}
use Rattle.code_model.specs.Tables.{Tabs, TableOk, all_regions}
use Rattle.side_model.specs.Tables.{with_value}
use Rattle.side_model.specs.Places.{Place, address, is_inner, HasBlock}
use Rattle.side_model.specs.Words.{Point, Out, Goes, Loads, Stores, Keys, Calls, Parks, wrote}

-- a word with n words left at most, in the block at base, over the bytes of the program range: what it leads to. Row says where the shadow may be, with how many words left; Arrives what is so at an arrival at the block of an address; Why why it may park
module _ (l : Layout) (program : Memory) (base : ℕ) (Row : Place → Regs → Priv → Tabs → Memory → ℕ → Type 0)
    (Arrives : ℕ → Regs → Tabs → Memory → Type 0) (Why : Park → Tabs → Memory → Type 0) (n : ℕ) where
  pub data Led : Out → Type 0 where
    -- a row, at which fewer words are left
    on : {k : ℕ} {s : Point} {m : Memory} → Row s.place s.regs s.priv s.tabs m k → TableOk l s.tabs → nat_lt k n ≡ true → is_inner s.place ≡ true
        → Led (Goes s m)
    -- a jump, to a place that has the target's address
    leaps : {s : Point} {m : Memory} (place : Place) → address base s.place ≡ address base place → Led (Goes (record s { place = place }) m)
        → Led (Goes s m)
    -- word 1 of a block
    arrives : {s : Point} {m : Memory} (p : ℕ) → address base s.place ≡ block_at l p + 4 → HasBlock l p → Arrives p s.regs s.tabs m → TableOk l s.tabs
        → Led (Goes s m)
    -- loads of an entry of the table, of the count, of a word of the list
    takes_entry : {rd a : ℕ} {s : Point} {m : Memory} (region : ℕ) → a ≡ entry_address region → region < all_regions l
        → Led (Goes (wrote rd (s.tabs.entry region) s) m)
        → Led (Loads Lwu rd a s m)
    takes_count : {rd a : ℕ} {s : Point} {m : Memory} → a ≡ list_start
        → Led (Goes (wrote rd s.tabs.count s) m)
        → Led (Loads Ld rd a s m)
    takes_listed : {rd a : ℕ} {s : Point} {m : Memory} (slot : ℕ) → a ≡ listed_address slot → slot < l.regions
        → Led (Goes (wrote rd (s.tabs.listed slot) s) m)
        → Led (Loads Lwu rd a s m)
    -- loads of the link, of the program range, of the copies
    takes_link : {rd a : ℕ} {s : Point} {m : Memory} → a % 8 ≡ 0 → link_start ≤ a → a + 8 ≤ link_start + link_bytes
        → Led (Goes (wrote rd (loaded m a 8) s) m)
        → Led (Loads Ld rd a s m)
    takes_program : {op : LoadOp} {rd a : ℕ} {s : Point} {m : Memory} → a % load_width op ≡ 0 → range_start ≤ a → a + load_width op ≤ range_end l.version
        → Led (Goes (wrote rd (extended op (loaded program a (load_width op))) s) m)
        → Led (Loads op rd a s m)
    takes_copy : {op : LoadOp} {rd a : ℕ} {s : Point} {m : Memory} → a % load_width op ≡ 0 → copies_start ≤ a → a + load_width op ≤ copies_start + 256 * l.regions
        → Led (Goes (wrote rd (extended op (loaded m a (load_width op))) s) m)
        → Led (Loads op rd a s m)
    -- stores of an entry, of the count, of a word of the list
    puts_entry : {a v : ℕ} {s : Point} {m : Memory} (region : ℕ) → a ≡ entry_address region → region < all_regions l → v < 2 ^ 32
        → Led (Goes (record s { tabs = record s.tabs { entry = with_value region v s.tabs.entry } }) (stored m a 4 v))
        → Led (Stores Sw a v s m)
    puts_count : {a v : ℕ} {s : Point} {m : Memory} → a ≡ list_start → v < 2 ^ 64
        → Led (Goes (record s { tabs = record s.tabs { count = v } }) (stored m a 8 v))
        → Led (Stores Sd a v s m)
    puts_listed : {a v : ℕ} {s : Point} {m : Memory} (slot : ℕ) → a ≡ listed_address slot → slot < l.regions → v < 2 ^ 32
        → Led (Goes (record s { tabs = record s.tabs { listed = with_value slot v s.tabs.listed } }) (stored m a 4 v))
        → Led (Stores Sw a v s m)
    -- stores to the link, to the copies
    puts_link : {a v : ℕ} {s : Point} {m : Memory} → a % 8 ≡ 0 → link_start ≤ a → a + 8 ≤ link_start + link_bytes
        → Led (Goes s (stored m a 8 v))
        → Led (Stores Sd a v s m)
    puts_copy : {op : StoreOp} {a v : ℕ} {s : Point} {m : Memory} → a % store_width op ≡ 0 → copies_start ≤ a → a + store_width op ≤ copies_start + 256 * l.regions
        → Led (Goes s (stored m a (store_width op) v))
        → Led (Stores op a v s m)
    -- the key of a call
    keys : {rd : ℕ} {s : Point} {m : Memory} → ((key : ℕ) → key < 2 ^ 64 → Led (Goes (wrote rd key s) m))
        → Led (Keys rd s m)
    -- a call: x10 has some answer, and regions may have got copies
    calls : {unhinted : Bool} {s : Point} {m : Memory}
        → ((answer : ℕ) (t : Tabs) (shared : Memory) → answer < 2 ^ 64 → TableOk l t → Led (Goes (record (wrote 10 answer s) { tabs = t }) shared))
        → TableOk l s.tabs → Led (Calls unhinted s m)
    -- a park
    parks : {cause : Park} {s : Point} {m : Memory} → Why cause s.tabs m → TableOk l s.tabs → Led (Parks cause s m)
