-- What reading a rewritten file back says of its first damage.
use Rattle.std.proofs.Common.{◌≡◌, ℕ, List, Option, Some, None, Ok, Err, All, refl, ◌∙◌}
use Rattle.elf_image.specs.declared.recovery.Part.{Part}
use Rattle.elf_image.specs.declared.recovery.Recovered.{Recovered}
use Rattle.elf_image.specs.Recovery.{IsRecovered, front_damage, carried}
use Rattle.elf_image.proofs.RecoveryLemmas.{IsRecovered-from}
use Rattle.run_laws.specs.OwnLaws.{AllBytes}
use Rattle.file_world.proofs.Loaded.{recovered_are_accepted}
use Rattle.run_loader.specs.Opening.{LawsHold}
use Rattle.rewritten_reader.specs.Damage.{earlier, body_damage, first_damage, recovered, recovered_unless}

-- a file that is recovered has no damage, and carries what was recovered
pub undamaged : (bytes : List ℕ) (r : Recovered) → recovered bytes ≡ Ok r → (first_damage bytes ≡ None) × (r ≡ carried bytes)
undamaged bytes r e = by_damage (first_damage bytes) refl e
  where
    by_damage : (d : Option Part) → first_damage bytes ≡ d → recovered_unless d (carried bytes) ≡ Ok r → (first_damage bytes ≡ None) × (r ≡ carried bytes)
    by_damage None is same = (is, cc)
    by_damage (Some p) is same = absurd cc

-- and of one that isn't the first damaged part is told
pub damaged : (bytes : List ℕ) (p : Part) → recovered bytes ≡ Err p → first_damage bytes ≡ Some p
damaged bytes p e = by_damage (first_damage bytes) refl e
  where
    by_damage : (d : Option Part) → first_damage bytes ≡ d → recovered_unless d (carried bytes) ≡ Err p → first_damage bytes ≡ Some p
    by_damage None is same = absurd cc
    by_damage (Some q) is same = is ∙ cc

-- an undamaged file has an undamaged front
pub undamaged-front : (bytes : List ℕ) → first_damage bytes ≡ None → front_damage bytes ≡ None
unfolding first_damage
undamaged-front bytes e = by_front (front_damage bytes) e
  where
    by_front : (d : Option Part) → earlier d (body_damage bytes (carried bytes)) ≡ None → d ≡ None
    by_front None none = refl
    by_front (Some p) none = absurd cc

pub recovered-is : (bytes : List ℕ) (r : Recovered) → recovered bytes ≡ Ok r → IsRecovered bytes r
recovered-is bytes r e =
    let there = undamaged bytes r e in
    IsRecovered-from bytes r (undamaged-front bytes there.0, there.1)

-- the laws of runs speak of what an undamaged file carries
pub laws-hold : (bytes : List ℕ) (arguments : List (List ℕ)) → AllBytes bytes → All AllBytes arguments → first_damage bytes ≡ None
    → LawsHold bytes (carried bytes) arguments
laws-hold bytes arguments all words none files are =
    recovered_are_accepted bytes (carried bytes) arguments files all (undamaged-front bytes none, refl) words are
