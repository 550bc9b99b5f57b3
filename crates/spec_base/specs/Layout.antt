-- Where the parts of a rewritten program stand (this project's own).
use Rattle.std.specs.Prelude.{ℕ, ◌-◌, ◌%◌, ◌==◌, Bool, ◌&&◌, nat_le, nat_lt}
use Rattle.spec_base.specs.declared.layout.Version.{Version}
use Rattle.spec_base.specs.declared.layout.Version.TheVariants.{One, Two}
use Rattle.spec_base.specs.declared.layout.Layout.{Layout}

-- the first address after the program range
abbrev pub range_end : Version → ℕ
range_end One = 0x1000_0000
range_end Two = 0x4000_0000

-- segments end at or below it, and a break is at most it
abbrev pub image_limit : Version → ℕ
image_limit One = 0x0FF0_0000
image_limit Two = 0x3FF0_0000

-- ---- where the parts stand

-- the first address of the program range
abbrev pub range_start : ℕ
range_start = 0x1000

-- a block of 16 words for each word of the text, and a guard block
abbrev pub shadow_start : ℕ
shadow_start = 0x4000_0000

-- the helpers that blocks jump to
abbrev pub helpers_start : ℕ
helpers_start = 0x4110_0000

-- the stub, which performs calls
abbrev pub stub_start : ℕ
stub_start = 0x4180_0000

-- hint log and restart box
abbrev pub link_start : ℕ
link_start = 0x4200_0000

-- how many bytes the link has
abbrev pub link_bytes : ℕ
link_bytes = 0x2000

-- region table, region list and copies
abbrev pub table_start : ℕ
table_start = 0x4300_0000

-- the list of the regions in use
abbrev pub list_start : ℕ
list_start = 0x4400_0000

-- the copies of regions
abbrev pub copies_start : ℕ
copies_start = 0x4500_0000

-- the private page of the stub, and that of the shadow: the top of the address space
abbrev pub private_start : ℕ
private_start = 0xFFFF_FFFF_FFFF_F800

-- how many bytes a private page has
abbrev pub private_bytes : ℕ
private_bytes = 2048

-- ---- sizes

-- the most bytes of a file that is read
abbrev pub file_limit : ℕ
file_limit = 67_108_864

-- the most bytes of a text
abbrev pub text_limit : ℕ
text_limit = 1_048_576

-- how many words the helpers have
abbrev pub helper_words : ℕ
helper_words = 282

-- how many words the stub has
abbrev pub stub_words : ℕ
stub_words = 71

-- ---- layouts

-- whether a program can have this layout: a text of words of 4 bytes inside the range of segments, neither empty nor over 1 MiB, and 1 to 65,536 regions
abbrev pub is_lawful : Layout → Bool
is_lawful l =
    (l.text_start % 4 == 0) && (l.text_end % 4 == 0)
    && nat_le range_start l.text_start && nat_lt l.text_start l.text_end && nat_le l.text_end (image_limit l.version)
    && nat_le (l.text_end - l.text_start) text_limit
    && nat_le 1 l.regions && nat_le l.regions 65_536
