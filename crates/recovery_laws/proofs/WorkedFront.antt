-- The front of a worked file, read back: header, table and record of a text of three words at 0x10078, computed.
use Rattle.std.proofs.Common.{◌≡◌, ℕ, true, List, [], ◌∷◌, ◌++◌, Some, refl}
use Rattle.spec_base.specs.declared.layout.Layout.{Layout}
use Rattle.spec_base.specs.declared.layout.Version.{Version}
use Rattle.spec_base.specs.declared.layout.Version.TheVariants.{One, Two}
use Rattle.elf_image.specs.declared.image.Image.{Image}
use Rattle.elf_image.specs.declared.recovery.Part.TheVariants as part
use Rattle.elf_image.specs.Recovery.{holds_front, recorded_layout, carried_segments, holds_image, front_damage}
use Rattle.elf_writer.specs.Headers.{header_bytes}
use Rattle.elf_writer.specs.FileParts.{file_header, table_bytes, record_bytes}

abbrev image : Image
image = record { entry = 0x10078; flags = 0; segments = record { address = 0x10078; size = 12; flags = 5; offset = 120; length = 12 } ∷ []; text_start = 0x10078; text_end = 0x10084; break_start = 0x10090 }

abbrev layout : Version → Layout
layout version = record { text_start = 0x10078; text_end = 0x10084; regions = 4096; version = version }

abbrev front : Version → List ℕ
front version = header_bytes (file_header image) ++ table_bytes image (layout version) ++ record_bytes (layout version)

front-holds : (version : Version) → holds_front (front version) ≡ true
front-holds One = refl
front-holds Two = refl

layout-comes_back : (version : Version) → recorded_layout (front version) ≡ layout version
layout-comes_back One = refl
layout-comes_back Two = refl

segment-comes_back : carried_segments (front Two) ≡ record { address = 0x10078; size = 12; flags = 5; offset = 4216; length = 12 } ∷ []
segment-comes_back = refl

-- its segment's file part isn't in the file
front-damaged : front_damage (front Two) ≡ Some part.Image
unfolding front_damage holds_image
front-damaged = refl
