-- The reasons to refuse a file (this project's own): their order and their names.
use Rattle.std.specs.Prelude.{ℕ, List, codes}
use Rattle.elf_image.specs.declared.refusal.Refusal.{Refusal}
use Rattle.elf_image.specs.declared.refusal.Refusal.TheVariants.{TooLong, Short, Magic, Class, ByteOrder, Version, Kind, Machine, Flags, HeaderTable, Dynamic, Already, Segment, NoText, Sections, Text, Entry}

-- the place of a reason in the order
abbrev pub refusal_number : Refusal → ℕ
refusal_number TooLong = 1
refusal_number Short = 2
refusal_number Magic = 3
refusal_number Class = 4
refusal_number ByteOrder = 5
refusal_number Version = 6
refusal_number Kind = 7
refusal_number Machine = 8
refusal_number Flags = 9
refusal_number HeaderTable = 10
refusal_number Dynamic = 11
refusal_number Already = 12
refusal_number Segment = 13
refusal_number NoText = 14
refusal_number Sections = 15
refusal_number Text = 16
refusal_number Entry = 17

-- the text of its name
abbrev pub refusal_name : Refusal → List ℕ
refusal_name TooLong = codes "TooLong"
refusal_name Short = codes "Short"
refusal_name Magic = codes "Magic"
refusal_name Class = codes "Class"
refusal_name ByteOrder = codes "ByteOrder"
refusal_name Version = codes "Version"
refusal_name Kind = codes "Kind"
refusal_name Machine = codes "Machine"
refusal_name Flags = codes "Flags"
refusal_name HeaderTable = codes "HeaderTable"
refusal_name Dynamic = codes "Dynamic"
refusal_name Already = codes "Already"
refusal_name Segment = codes "Segment"
refusal_name NoText = codes "NoText"
refusal_name Sections = codes "Sections"
refusal_name Text = codes "Text"
refusal_name Entry = codes "Entry"
