-- The first damage of a rewritten file (this project's own).
use Rattle.std.specs.Prelude.{◌≡◌, ℕ, suc, ◌==◌, Bool, true, false, List, [], ◌∷◌, length, Option, Some, None, Result, Ok, Err}
use Rattle.std.specs.Option.{option_map}
use Rattle.spec_base.specs.declared.layout.Layout.{Layout}
use Rattle.elf_image.specs.declared.image.Image.{Image}
use Rattle.elf_image.specs.declared.recovery.Part.{Part}
use Rattle.elf_image.specs.declared.recovery.Part.TheVariants.{Length}
use Rattle.elf_image.specs.declared.recovery.Recovered.{Recovered}
use Rattle.elf_image.specs.declared.recovery.RecoverFault.{RecoverFault}
use Rattle.elf_image.specs.declared.recovery.RecoverFault.TheVariants.{Damaged, NoMemory}
use Rattle.elf_image.specs.Recovery.{front_damage, carried}
use Rattle.elf_writer.specs.PartPlaces.{part_at}
use Rattle.elf_writer.specs.ProgramCode.{rewritten_again}

-- ---- where two files differ

abbrev pub behind_same : Bool → Option ℕ → Option ℕ
behind_same true later = option_map suc later
behind_same false later = Some 0

-- the first place at which both have a byte, and not the same
abbrev pub first_difference : List ℕ → List ℕ → Option ℕ
first_difference [] ys = None
first_difference (x ∷ xs) [] = None
first_difference (x ∷ xs) (y ∷ ys) = behind_same (x == y) (first_difference xs ys)

-- ---- damage

-- the part of the first difference; or the length, where one file is a prefix of the other
abbrev pub by_difference : Image → Layout → Option ℕ → Bool → Option Part
by_difference image l (Some at) same_length = Some (part_at image l at)
by_difference image l None true = None
by_difference image l None false = Some Length

-- the rewriting of what a file carries is compared with the file
abbrev pub body_damage : List ℕ → Recovered → Option Part
body_damage bytes r =
    let again = rewritten_again bytes r.image r.layout in
    by_difference r.image r.layout (first_difference again bytes) (length again == length bytes)

abbrev pub earlier : Option Part → Option Part → Option Part
earlier (Some p) later = Some p
earlier None later = later

-- the first damaged part, in the order Record, Image, Header, Record, Loaded, Shadow, Helpers, Stub, Length
unfoldable pub first_damage : List ℕ → Option Part
first_damage bytes = earlier (front_damage bytes) (body_damage bytes (carried bytes))

abbrev pub recovered_unless : Option Part → Recovered → Result Recovered Part
recovered_unless None r = Ok r
recovered_unless (Some p) r = Err p

-- what a file was made from, or its first damaged part
abbrev pub recovered : List ℕ → Result Recovered Part
recovered bytes = recovered_unless (first_damage bytes) (carried bytes)

-- what a call may answer
abbrev pub ReadsBackAs : List ℕ → Result Recovered RecoverFault → Type 0
ReadsBackAs bytes (Ok r) = recovered bytes ≡ Ok r
ReadsBackAs bytes (Err (Damaged p)) = recovered bytes ≡ Err p
ReadsBackAs bytes (Err NoMemory) = front_damage bytes ≡ None
