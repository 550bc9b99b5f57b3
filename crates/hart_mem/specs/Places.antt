-- Where each part of a memory stands in its pages: the program range at its own addresses, after it the two private pages, the link, the region table, the region list and the copies (this project's own).
use Rattle.std.specs.Prelude.{Option, Some, None, ℕ, ◌+◌, ◌-◌, ◌*◌, ◌/◌, Bool, true, false, nat_lt}
use Rattle.spec_base.specs.Layout.{range_end, link_start, table_start, list_start, copies_start, private_start, private_bytes}
use Rattle.spec_base.specs.declared.layout.Layout.{Layout}
use Rattle.spec_base.specs.declared.machine.View.{View}
use Rattle.spec_base.specs.declared.machine.View.TheVariants.{Plain, Program, Stub, Shadow}
use Rattle.rv_model.specs.Rights.{in_private, in_range, list_bytes}

-- the stub's private page, and that of the shadow
abbrev pub stub_place : Layout → ℕ → ℕ
stub_place l a = range_end l.version + (a - private_start)

abbrev pub shadow_place : Layout → ℕ → ℕ
shadow_place l a = range_end l.version + private_bytes + (a - private_start)

-- where the list begins, and where the copies do
abbrev pub list_place : Layout → ℕ
list_place l = range_end l.version + 0x3000 + range_end l.version / 64

abbrev pub copies_place : Layout → ℕ
copies_place l = list_place l + list_bytes l

-- the parts that the stub and the shadow share
unfoldable pub shared_place : Layout → ℕ → ℕ
shared_place l a =
    elim (nat_lt a table_start) [
      | true ↦ range_end l.version + 0x1000 + (a - link_start)
      | false ↦
          elim (nat_lt a list_start) [
            | true ↦ range_end l.version + 0x3000 + (a - table_start)
            | false ↦ elim (nat_lt a copies_start) [ true ↦ list_place l + (a - list_start) | false ↦ copies_place l + (a - copies_start) ]
          ]
    ]

-- the place of an address in a view
abbrev pub stub_spot : Bool → Layout → ℕ → ℕ
stub_spot true l a = stub_place l a
stub_spot false l a = shared_place l a

abbrev pub shadow_spot : Bool → Bool → Layout → ℕ → ℕ
shadow_spot true in_program l a = shadow_place l a
shadow_spot false true l a = a
shadow_spot false false l a = shared_place l a

abbrev pub place_of : View → Layout → ℕ → ℕ
place_of Plain l a = a
place_of Program l a = a
place_of Stub l a = stub_spot (in_private a) l a
place_of Shadow l a = shadow_spot (in_private a) (in_range l a) l a

-- how many pages all of them take
abbrev pub page_count : Layout → ℕ
page_count l = (copies_place l + 256 * l.regions) / 4096 + 1

-- a place, where a test holds
abbrev pub found : Bool → ℕ → Option ℕ
found true place = Some place
found false place = None
