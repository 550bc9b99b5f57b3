-- The part of the rewritten file that a byte belongs to (this project's own). Zero bytes before a part belong to it.
use Rattle.std.specs.Prelude.{ℕ, nat_lt, if◌then◌else◌, map}
use Rattle.spec_base.specs.declared.layout.Layout.{Layout}
use Rattle.elf_image.specs.declared.image.Image.{Image}
use Rattle.elf_image.specs.declared.recovery.Part.{Part}
use Rattle.elf_image.specs.declared.recovery.Part.TheVariants.{Record, Header, Loaded, Shadow, Helpers, Stub}
use Rattle.elf_writer.specs.FileParts.{record_start, body_start, segment_part, shadow_part, helpers_part, end_of_part, end_of_parts}

-- behind the segments, the shadow text and the helpers
abbrev pub loaded_end : Image → ℕ
loaded_end image = end_of_parts (body_start image) (map segment_part image.segments)

abbrev pub shadow_end : Image → Layout → ℕ
shadow_end image l = end_of_part (loaded_end image) (shadow_part l)

abbrev pub helpers_end : Image → Layout → ℕ
helpers_end image l = end_of_part (shadow_end image l) helpers_part

-- header and table count as one part
abbrev pub part_at : Image → Layout → ℕ → Part
part_at image l offset =
    if nat_lt offset (record_start image) then Header
    else if nat_lt offset (body_start image) then Record
    else if nat_lt offset (loaded_end image) then Loaded
    else if nat_lt offset (shadow_end image l) then Shadow
    else if nat_lt offset (helpers_end image l) then Helpers
    else Stub
