-- A read of the shadow that is filled into copies, or isn't (this project's own).
use Rattle.std.specs.Prelude.{ℕ, Bool, true, false, ◌&&◌, List, [], ◌∷◌, ◌++◌}
use Rattle.spec_base.specs.declared.note.Note.{Note}
use Rattle.spec_base.specs.declared.note.Note.TheVariants as note
use Rattle.spec_base.specs.declared.spot.ReadSpot.{ReadSpot}
use Rattle.rv_model.specs.Space.{Space}
use Rattle.program_model.specs.Cache.{Cache, blocks_of}
use Rattle.run_model.specs.ShadowMoves.{all_held}
use Rattle.cow_regions.specs.Fills.{filled_space, regions_fit}

-- a read of n + 1 bytes can be filled: all its blocks are cached, and its new regions fit beside those in use
abbrev pub can_fill : Cache → Space → ReadSpot → ℕ → ℕ → Bool
can_fill c s spot a n = all_held c.cached (blocks_of spot) && regions_fit s a n

-- the memory then
abbrev pub filled_if : Bool → Space → ℕ → List ℕ → Space
filled_if true s a bytes = filled_space s a bytes
filled_if false s a bytes = s

-- and what is told
abbrev pub fill_notes : Bool → ReadSpot → List Note → List Note
fill_notes true spot notes = notes ++ note.Fill spot ∷ []
fill_notes false spot notes = notes
