-- Code whose jumps go to labels, and the words that it becomes (this project's own; the reach of jumps by RISC-V Unprivileged ISA 20191213, section 2.5).
use Rattle.std.specs.Prelude.{ℕ, ◌+◌, ◌*◌, ℤ, pos, ◌-ℤ◌, Bool, ◌&&◌, nat_lt, nat_le, if◌then◌else◌, Option, Some, None, Result, Ok, Err, is_some, unwrap_or, List, [], ◌∷◌, slice_index_or, slice_set}
use Rattle.rv_decode.specs.declared.instr.Instr.{Instr}
use Rattle.rv_decode.specs.declared.instr.Instr.TheVariants.{Branch, Jal}
use Rattle.rv_decode.specs.Encoding.{word_of}
use Rattle.rv_encode.specs.declared.closing.Use.{Use}
use Rattle.rv_encode.specs.declared.closing.CloseFault.{CloseFault}
use Rattle.rv_encode.specs.declared.closing.CloseFault.TheVariants.{Unbound, Far}

-- the words so far, the jumps whose words are to come, and the place of each label, which is the index of a word
pub record Code : Type 0 where
  pub words : List ℕ
  pub uses : List Use
  pub places : List (Option ℕ)

-- a branch or a JAL
abbrev pub IsJump : Instr → Type 0
IsJump (Branch op rs1 rs2 imm) = Unit {0}
IsJump (Jal rd imm) = Unit {0}
IsJump _ = ⊥

-- the jump over so many bytes
abbrev pub with_distance : Instr → ℤ → Instr
with_distance (Branch op rs1 rs2 imm) d = Branch op rs1 rs2 d
with_distance (Jal rd imm) d = Jal rd d
with_distance i d = i

-- how many words a jump reaches back, 4 KiB or 1 MiB; ahead it is one less
abbrev pub reach_of : Instr → ℕ
reach_of (Branch op rs1 rs2 imm) = 1024
reach_of (Jal rd imm) = 262144
reach_of _ = 0

-- whether the jump at word `from` reaches word `to`
abbrev pub reaches : Instr → ℕ → ℕ → Bool
reaches i from to = nat_lt to (from + reach_of i) && nat_le from (to + reach_of i)

-- the distance in bytes between two words
abbrev pub distance : ℕ → ℕ → ℤ
distance from to = pos (4 * to) -ℤ pos (4 * from)

-- the place of a label, if it has one
abbrev pub place_of : List (Option ℕ) → ℕ → Option ℕ
place_of places label = slice_index_or places label None

-- the place that a jump goes to, where its label has one
abbrev pub target_of : List (Option ℕ) → Use → ℕ
target_of places u = unwrap_or (place_of places u.to) 0

-- the label of the first jump whose label has no place
abbrev pub first_unbound : List (Option ℕ) → List Use → Option ℕ
first_unbound places [] = None
first_unbound places (u ∷ us) = if is_some (place_of places u.to) then first_unbound places us else Some u.to

-- the label of the first jump that doesn't reach its label
abbrev pub first_far : List (Option ℕ) → List Use → Option ℕ
first_far places [] = None
first_far places (u ∷ us) = if reaches u.instr u.at (target_of places u) then first_far places us else Some u.to

-- the words, with each jump's word put in its place
abbrev pub resolved : List (Option ℕ) → List Use → List ℕ → List ℕ
resolved places [] words = words
resolved places (u ∷ us) words = resolved places us (slice_set words u.at (word_of (with_distance u.instr (distance u.at (target_of places u)))))

-- a label without a place comes first, then a label out of reach
abbrev pub closing : Option ℕ → Option ℕ → List ℕ → Result (List ℕ) CloseFault
closing (Some label) far words = Err (Unbound label)
closing None (Some label) words = Err (Far label)
closing None None words = Ok words

-- what code becomes
abbrev pub closed_of : Code → Result (List ℕ) CloseFault
closed_of code = closing (first_unbound code.places code.uses) (first_far code.places code.uses) (resolved code.places code.uses code.words)
