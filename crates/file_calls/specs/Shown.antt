-- What the descriptors of the code stand for (this project's own).
use Rattle.std.specs.Prelude.{◌≡◌, Bool, true, false, List, [], ◌∷◌, map, refl}
use Rattle.program_model.specs.Descriptors.{Descriptor, Free, Null, Out, Err, File}
use Rattle.file_calls.specs.declared.descriptor.Descriptor.{Descriptor as Slot}
use Rattle.file_calls.specs.declared.descriptor.Descriptor.TheVariants.{Free as FreeSlot, Null as NullSlot, Out as OutSlot, Err as ErrSlot, File as FileSlot}

-- a descriptor of the code as the definition's
abbrev pub shown : Slot → Descriptor
shown FreeSlot = Free
shown NullSlot = Null
shown OutSlot = Out
shown ErrSlot = Err
shown (FileSlot f) = File f.name f.size f.offset

-- and back
abbrev pub slot_of : Descriptor → Slot
slot_of Free = FreeSlot
slot_of Null = NullSlot
slot_of Out = OutSlot
slot_of Err = ErrSlot
slot_of (File name size offset) = FileSlot (record { name = name; size = size; offset = offset })

slot_of-shown : (s : Slot) → slot_of (shown s) ≡ s
slot_of-shown FreeSlot = refl
slot_of-shown NullSlot = refl
slot_of-shown OutSlot = refl
slot_of-shown ErrSlot = refl
slot_of-shown (FileSlot f) = refl

pub slots_of-shown : (slots : List Slot) → map slot_of (map shown slots) ≡ slots
slots_of-shown [] = refl
slots_of-shown (s ∷ slots) = λ i. slot_of-shown s i ∷ slots_of-shown slots i

-- whether a descriptor of the code is free
abbrev pub is_free : Slot → Bool
is_free FreeSlot = true
is_free other = false
