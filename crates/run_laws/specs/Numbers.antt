-- The numbers of a run: registers of 64 bits, memories of bytes, and files of fewer than 2^56 bytes (this project's own).
use Rattle.std.specs.Prelude.{ℕ, ◌^◌, ◌≡◌, ◌<◌, ⊤, List, [], ◌∷◌, length}
use Rattle.program_model.specs.Descriptors.{Descriptor, Free, Null, Out, Err, File, Descriptors}
use Rattle.run_model.specs.Run.{Run}

-- the size and the offset of a file are below 2^56
abbrev pub FitsIn : Descriptor → Type 0
FitsIn (File name size offset) = (size < 2 ^ 56) × (offset < 2 ^ 56)
FitsIn Free = ⊤
FitsIn Null = ⊤
FitsIn Out = ⊤
FitsIn Err = ⊤

-- so it is of this descriptor
pub record Fits (x : Descriptor) : Type 0 where
  pub by : FitsIn x

-- each of these descriptors fits
abbrev pub AllFit : List Descriptor → Type 0
AllFit [] = ⊤
AllFit (x ∷ xs) = Fits x × AllFit xs

-- there are 32 descriptors, and each fits
pub record Lawful (f : Descriptors) : Type 0 where
  pub count : length f.slots ≡ 32
  pub each : AllFit f.slots

-- the shadow's registers are numbers of 64 bits, all that it loads from has bytes, and the descriptors are lawful
pub record IsSized (r : Run) : Type 0 where
  pub registers : (i : ℕ) → r.shadow.registers i < 2 ^ 64
  pub own_memory : (a : ℕ) → r.own.memory a < 256
  pub shared : (a : ℕ) → r.shared a < 256
  pub page : (a : ℕ) → r.shadow_page a < 256
  pub files : Lawful r.shadow.files
  pub own_files : Lawful r.own.files
