-- What a hart's memory holds, and the memory of all parts that it stands for (this project's own).
use Rattle.std.specs.Prelude.{◌≡◌, ℕ, ◌+◌, ◌-◌, ◌*◌, ◌/◌, ◌%◌, ◌<◌, ◌≤◌, Bool, true, false, ◌==◌, not, ◌&&◌, List, [], ◌∷◌, length, replicate, IsTrue, Result, Ok, Err, Option, Some, None}
use Rattle.spec_base.specs.Layout.{range_end, is_lawful, helper_words, stub_words}
use Rattle.spec_base.specs.declared.layout.Version.{Version}
use Rattle.spec_base.specs.declared.layout.Version.TheVariants.{One, Two}
use Rattle.spec_base.specs.declared.layout.Layout.{Layout}
use Rattle.spec_base.specs.declared.machine.View.{View}
use Rattle.spec_base.specs.declared.machine.View.TheVariants.{Plain, Program, Stub, Shadow}
use Rattle.rv_model.specs.Memory.{Memory, loaded, all_from, zeros}
use Rattle.rv_model.specs.Rights.{in_private, in_shared, in_text, is_data, rights_of}
use Rattle.rv_model.specs.Space.{Space, sees}
use Rattle.hart_mem.specs.Paged.{Paged, flat, is_held, held_count, lacking, end_page, AreHeld}
use Rattle.hart_mem.specs.Places.{shared_place, stub_place, shadow_place, page_count}
use Rattle.hart_mem.specs.declared.access.Access.{Access}
use Rattle.hart_mem.specs.declared.access.Access.TheVariants as access
use Rattle.hart_mem.specs.declared.access.StoreFault.{StoreFault}
use Rattle.hart_mem.specs.declared.access.StoreFault.TheVariants as fault

-- the layout, the words of the text and of the emitted code, and the pages of all else
pub record Held : Type 0 where
  pub layout : Layout
  pub text : List ℕ
  pub shadow : List ℕ
  pub helpers : List ℕ
  pub stub : List ℕ
  pub pages : Paged

-- a part of the pages: at each address that passes a test the byte at its place, and 0 elsewhere
unfoldable pub part : (ℕ → Bool) → (ℕ → ℕ) → Memory → Memory
part test place m a = elim (test a) [ true ↦ m (place a) | false ↦ 0 ]

-- code that isn't given yet is as many zero words
unfoldable pub code_or_zeros : List ℕ → ℕ → List ℕ
code_or_zeros [] count = replicate count 0
code_or_zeros (word ∷ words) count = word ∷ words

-- how many words the text has, and how many its shadow: 16 for each, and 16 for the guard block
abbrev pub text_words : Layout → ℕ
text_words l = (l.text_end - l.text_start) / 4

abbrev pub shadow_words : Layout → ℕ
shadow_words l = 16 * (text_words l + 1)

unfoldable pub space_of : Held → Space
space_of h =
    record {
      layout = h.layout;
      text = h.text;
      shadow = code_or_zeros h.shadow (shadow_words h.layout);
      helpers = code_or_zeros h.helpers helper_words;
      stub = code_or_zeros h.stub stub_words;
      program = part (is_data h.layout) (λ a. a) (flat h.pages);
      shared = part (in_shared h.layout) (shared_place h.layout) (flat h.pages);
      stub_page = part in_private (stub_place h.layout) (flat h.pages);
      shadow_page = part in_private (shadow_place h.layout) (flat h.pages);
    }

-- the frames that are spare
unfoldable pub spare_of : Held → ℕ
spare_of h = h.pages.pool.spare

-- how many pages have one
unfoldable pub pages_held : Held → ℕ
pages_held h = held_count h.pages

-- spare frames became frames of pages, and no memory was taken: no page lost its frame, and as many fewer are spare as pages got one
pub record UsesSpare (old new : Held) : Type 0 where
  pub kept : (page : ℕ) → IsTrue (is_held old.pages page) → IsTrue (is_held new.pages page)
  pub fewer : spare_of new ≤ spare_of old
  pub spare : spare_of new + pages_held new ≡ spare_of old + pages_held old

-- how many of the pages that some bytes touch have no frame
abbrev pub pages_wanted : Held → ℕ → ℕ → ℕ
pages_wanted h a n = lacking h.pages (a / 4096) (end_page a n)

-- a lawful layout with its text, and a frame for each page that isn't the program range's
pub record IsWhole (h : Held) : Type 0 where
  pub lawful : IsTrue (is_lawful h.layout)
  pub words : length h.text ≡ text_words h.layout
  pub count : length h.pages.table ≡ page_count h.layout
  pub held : AreHeld h.pages (range_end h.layout.version / 4096) (page_count h.layout)

-- ---- answers

-- a load is refused first where the address is no multiple of the width, then where a byte isn't one that the view loads
abbrev pub load_answer_if : Bool → Bool → ℕ → Result ℕ Access
load_answer_if false inside n = Err access.Unaligned
load_answer_if true false n = Err access.Out
load_answer_if true true n = Ok n

abbrev pub load_answer : View → Space → ℕ → ℕ → Result ℕ Access
load_answer view s a width = load_answer_if (a % width == 0) (all_from (rights_of view s.layout).load a width) (loaded (sees view s) a width)

-- a store is also refused where a page of the program range has no frame and none is spare
abbrev pub store_answer_if : Bool → Bool → Bool → Result Unit StoreFault
store_answer_if false inside lacks = Err fault.Unaligned
store_answer_if true false lacks = Err fault.Out
store_answer_if true true true = Err fault.NoMemory
store_answer_if true true false = Ok tt

-- whether a store at an address would need a frame, and none is spare
abbrev pub lacks_frame_at : Held → ℕ → Bool
lacks_frame_at h a = not (is_held h.pages (a / 4096)) && (h.pages.pool.spare == 0)

unfoldable pub lacks_frame : View → Held → ℕ → Bool
lacks_frame Plain h a = lacks_frame_at h a
lacks_frame Program h a = lacks_frame_at h a
lacks_frame Stub h a = false
lacks_frame Shadow h a = false

-- how many pages a store in a view can give a frame: the one page of the program range that it touches, and none elsewhere
abbrev pub pages_stored : View → ℕ
pages_stored Plain = 1
pages_stored Program = 1
pages_stored Stub = 0
pages_stored Shadow = 0

abbrev pub store_answer : View → Space → Bool → ℕ → ℕ → Result Unit StoreFault
store_answer view s lacks a width = store_answer_if (a % width == 0) (all_from (rights_of view s.layout).store a width) lacks

-- the byte at an address that is data
abbrev pub data_byte : Space → ℕ → Option ℕ
data_byte s a = elim (is_data s.layout a) [ true ↦ Some (s.program a) | false ↦ None ]

-- none of n bytes is of the text
abbrev pub IsOffText : Layout → ℕ → ℕ → Type 0
IsOffText l a n = (i : ℕ) → i < n → in_text l (a + i) ≡ false

-- ---- at the start

-- a memory of a text, whose emitted code and whose bytes are zero
abbrev pub empty_space : Layout → List ℕ → Space
empty_space l text =
    record {
      layout = l;
      text = text;
      shadow = code_or_zeros [] (shadow_words l);
      helpers = code_or_zeros [] helper_words;
      stub = code_or_zeros [] stub_words;
      program = zeros;
      shared = zeros;
      stub_page = zeros;
      shadow_page = zeros;
    }

-- the frames that a memory's pool may have at most: more than all its pages and 17 together
abbrev pub most_frames : Version → ℕ
most_frames One = 71_680
most_frames Two = 274_432
