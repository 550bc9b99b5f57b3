-- The helpers that find the places of accesses, and their parts (this project's own).
use Rattle.std.specs.Prelude.{ℕ, ◌+◌, ◌-◌, List, ◌++◌}
use Rattle.spec_base.specs.declared.layout.Layout.{Layout}
use Rattle.rv_decode.specs.declared.instr.Instr.{Instr}
use Rattle.code_model.specs.Helpers.{access_helper, access_helpers, jump_words, load_tail, store_tail}

-- the helpers for accesses of 1, 2, 4 and 8 bytes, from an offset on, which end in one tail
abbrev pub four_helpers : Layout → ℕ → ℕ → List Instr
four_helpers l first tail =
    access_helper l 1 l.text_start first tail ++ access_helper l 2 l.text_start (first + 0x40) tail
    ++ access_helper l 4 l.text_start (first + 0x80) tail ++ access_helper l 8 (l.text_start - 4) (first + 0xC0) tail

-- the code from LOAD1 to STAIL
abbrev pub access_code : Layout → List Instr
access_code l = access_helpers l ++ jump_words l ++ load_tail ++ store_tail l
