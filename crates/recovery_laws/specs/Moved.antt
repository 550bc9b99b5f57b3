-- The image of a rewritten file, whose segments stand there at other offsets (this project's own).
use Rattle.std.specs.Prelude.{ℕ, List, [], ◌∷◌}
use Rattle.elf_image.specs.declared.segments.Segment.{Segment}
use Rattle.elf_image.specs.declared.image.Image.{Image}
use Rattle.elf_writer.specs.FileParts.{body_start, file_offset, end_of_part, segment_part}

-- segments that are put behind a cursor
abbrev pub moved_segments : ℕ → List Segment → List Segment
moved_segments cursor [] = []
moved_segments cursor (s ∷ ss) =
    record { address = s.address; size = s.size; flags = s.flags; offset = file_offset cursor s.address; length = s.length }
    ∷ moved_segments (end_of_part cursor (segment_part s)) ss

-- the image in its rewritten file
abbrev pub moved_image : Image → Image
moved_image image =
    record {
      entry = image.entry;
      flags = image.flags;
      segments = moved_segments (body_start image) image.segments;
      text_start = image.text_start;
      text_end = image.text_end;
      break_start = image.break_start;
    }
