-- What each view may load and store (this project's own).
use Rattle.std.specs.Prelude.{ℕ, ◌+◌, ◌*◌, ◌/◌, Bool, not, ◌&&◌, ◌||◌, nat_lt, nat_le}
use Rattle.spec_base.specs.Layout.{range_start, range_end, link_start, link_bytes, table_start, list_start, copies_start, private_start, private_bytes}
use Rattle.spec_base.specs.declared.layout.Layout.{Layout}
use Rattle.spec_base.specs.declared.machine.View.{View}
use Rattle.spec_base.specs.declared.machine.View.TheVariants.{Plain, Program, Stub, Shadow}
use Rattle.rv_model.specs.Memory.{is_within}

-- ---- the program range

-- the addresses that a program can have
abbrev pub in_range : Layout → ℕ → Bool
in_range l a = nat_le range_start a && nat_lt a (range_end l.version)

-- the text of the program
abbrev pub in_text : Layout → ℕ → Bool
in_text l a = nat_le l.text_start a && nat_lt a l.text_end

-- data is the program range without the text
abbrev pub is_data : Layout → ℕ → Bool
is_data l a = in_range l a && not (in_text l a)

-- ---- the parts that a rewritten program adds

-- the private page, which ends the address space
abbrev pub in_private : ℕ → Bool
in_private = is_within private_start private_bytes

-- the hint log and the restart box
abbrev pub in_link : ℕ → Bool
in_link = is_within link_start link_bytes

-- an entry of 4 bytes for each region of 256 bytes of the program range
abbrev pub in_table : Layout → ℕ → Bool
in_table l = is_within table_start (range_end l.version / 64)

-- the bytes of the region list: the count in 8, then 4 for each slot, and 4 more where the slots are odd
abbrev pub list_bytes : Layout → ℕ
list_bytes l = 8 + (4 * l.regions + 4) / 8 * 8

-- the region list
abbrev pub in_list : Layout → ℕ → Bool
in_list l = is_within list_start (list_bytes l)

-- a slot of 256 bytes for each region that may be in use
abbrev pub in_copies : Layout → ℕ → Bool
in_copies l = is_within copies_start (256 * l.regions)

-- what the shadow and the stub share, apart from the program: link, table, list and copies
abbrev pub in_shared : Layout → ℕ → Bool
in_shared l a = in_link a || (in_table l a || (in_list l a || in_copies l a))

-- ---- rights

-- which addresses a view loads from, and which it stores to
pub record Rights : Type 0 where
  pub load : ℕ → Bool
  pub store : ℕ → Bool

-- a program loads and stores its data
abbrev pub data_rights : Layout → Rights
data_rights l = record { load = is_data l; store = is_data l }

-- the stub loads and stores the link and its private page
abbrev pub stub_rights : Rights
stub_rights = record { load = λ a. in_private a || in_link a; store = λ a. in_private a || in_link a }

-- the shadow also loads the whole program range, its text included, and stores nothing there
abbrev pub shadow_rights : Layout → Rights
shadow_rights l = record { load = λ a. in_private a || (in_shared l a || in_range l a); store = λ a. in_private a || in_shared l a }

-- the rights of each view
abbrev pub rights_of : View → Layout → Rights
rights_of Plain l = data_rights l
rights_of Program l = data_rights l
rights_of Stub l = stub_rights
rights_of Shadow l = shadow_rights l
