-- The code's descriptors and the definition's.
use Rattle.std.proofs.Common.{◌≡◌, ℕ, ◌+◌, List, [], ◌∷◌, refl}
use Rattle.std.specs.Prelude.{map}
use Rattle.std.specs.List.{position_from}
use Rattle.program_model.specs.Descriptors.{lowest_free}
use Rattle.file_calls.specs.Shown.{shown, is_free}
use Rattle.file_calls.specs.declared.descriptor.Descriptor.{Descriptor}
use Rattle.file_calls.specs.declared.descriptor.Descriptor.TheVariants.{Free, Null, Out, Err, File}

-- the first free descriptor is the lowest one
pub position_from-is_free : (slots : List Descriptor) (d : ℕ) → position_from is_free d slots ≡ lowest_free (map shown slots) d
position_from-is_free [] d = refl
position_from-is_free (Free ∷ slots) d = refl
position_from-is_free (Null ∷ slots) d = position_from-is_free slots (d + 1)
position_from-is_free (Out ∷ slots) d = position_from-is_free slots (d + 1)
position_from-is_free (Err ∷ slots) d = position_from-is_free slots (d + 1)
position_from-is_free (File f ∷ slots) d = position_from-is_free slots (d + 1)
