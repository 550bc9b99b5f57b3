-- What a look-up in the map of frames says of the blocks and their bytes.
use Rattle.std.proofs.Common.{◌≡◌, ℕ, Bool, List, Option, Some, is_some, option_map, sym, ◌∙◌, ap}
use Rattle.std.proofs.Math.Path.{fun_ext}
use Rattle.std.specs.Map.{lookup, lookup_entry}
use Rattle.page_pool.specs.Frames.{Frames, bytes_at, IsInUse}
use Rattle.spec_base.specs.declared.spot.BlockSpot.{BlockSpot}
use Rattle.spec_base.specs.contracts.spot.BlockSpotPartialEq.TheImpl.{eq-value}
use Rattle.program_model.specs.Cache.{holds}
use Rattle.cache_queue.specs.Frames.{shown, HaveFrames}
use Rattle.cache_queue.proofs.Spots.{test_is}
use Rattle.cache_queue.proofs.Entries.{is_of, keys, holds-keys, keys-map, lookup-map, found_entry}
use Rattle.cache_queue.proofs.FrameTables.{HaveFrames-found}

-- the map's own test of a block
abbrev pub is_equal_to : BlockSpot → BlockSpot → Bool
is_equal_to spot = (eq-value).it spot

pub is_equal_to-is : (spot : BlockSpot) → is_equal_to spot ≡ is_of spot
is_equal_to-is spot = fun_ext (λ x. test_is spot x)

-- the map has the block exactly where it is shown
pub holds-shown : (p : Frames) (es : List (BlockSpot × ℕ)) (spot : BlockSpot) → is_some (lookup (is_equal_to spot) es) ≡ holds (keys (shown p es)) spot
holds-shown p es spot =
    ap (λ test. is_some (lookup test es)) (is_equal_to-is spot)
    ∙ sym (ap (λ ks. holds ks spot) (keys-map (bytes_at p) es) ∙ holds-keys spot es)

-- an entry that a look-up finds has a frame in use, and its bytes are shown
pub found_entry-frame : (es : List (BlockSpot × ℕ)) (spot : BlockSpot) (k : ℕ) → lookup (is_equal_to spot) es ≡ Some k → lookup_entry (is_of spot) es ≡ Some (spot, k)
found_entry-frame es spot k found = found_entry spot es k (sym (ap (λ test. lookup test es) (is_equal_to-is spot)) ∙ found)

pub IsInUse-found : (p : Frames) (es : List (BlockSpot × ℕ)) (spot : BlockSpot) (k : ℕ) → HaveFrames p es → lookup (is_equal_to spot) es ≡ Some k → IsInUse p k
IsInUse-found p es spot k h found = (HaveFrames-found (is_of spot) p es (spot, k) h (found_entry-frame es spot k found)).0

pub lookup-shown : (p : Frames) (es : List (BlockSpot × ℕ)) (spot : BlockSpot) (o : Option ℕ) → lookup (is_equal_to spot) es ≡ o → lookup (is_of spot) (shown p es) ≡ option_map (bytes_at p) o
lookup-shown p es spot o found =
    lookup-map (bytes_at p) spot es ∙ ap (option_map (bytes_at p)) (sym (ap (λ test. lookup test es) (is_equal_to-is spot)) ∙ found)
