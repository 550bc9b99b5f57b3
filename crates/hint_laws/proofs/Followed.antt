-- What is so of a run whose shadow follows the run from its restart, before the first use: on an instruction, behind a call that it has made, or at rest.
use Rattle.std.proofs.Common.{◌≡◌, ℕ, suc, ◌+◌, ◌/◌, ◌<◌, ◌≤◌, ◌⊎◌, Bool, true, false, not, ◌&&◌, Option, Some, None}
use Rattle.std.specs.Prelude.{◌≢◌, IsTrue}
use Rattle.spec_base.specs.Listed.{is_listed}
use Rattle.spec_base.specs.declared.layout.Layout.{Layout}
use Rattle.spec_base.specs.declared.note.ShadowState.TheVariants.{Running}
use Rattle.rv_decode.specs.Encoding.{HasRegisters}
use Rattle.rv_decode.specs.declared.instr.Instr.{Instr}
use Rattle.rv_decode.specs.declared.instr.Instr.TheVariants.{Store, Ecall}
use Rattle.rv_model.specs.Memory.{Memory}
use Rattle.rv_model.specs.Registers.{Registers}
use Rattle.rv_model.specs.Rights.{is_data}
use Rattle.rv_model.specs.Space.{program_byte}
use Rattle.program_model.specs.PlainRun.{State}
use Rattle.code_model.specs.Places.{block_at}
use Rattle.code_model.specs.Regions.{entry_of, shadowed}
use Rattle.run_model.specs.Run.{World, Run, rewritten_words}
use Rattle.run_model.specs.ShadowMoves.{is_arrival}
use Rattle.run_model.specs.Restarts.{from_restart, instr_at, reads, before_horizon}
use Rattle.run_model.specs.Marks.{Marks, marks, before_use}
use Rattle.run_laws.specs.HintLaws.{is_behind_call, hinted_up_to}
use Rattle.side_model.specs.Hart.{Regs, get}
use Rattle.side_model.specs.Sees.{shade_of, HasRegs}
use Rattle.code_model.specs.Tables.{all_regions}
use Rattle.mark_laws.specs.Agreement.{Agrees, SeesAlike}
use Rattle.mark_laws.specs.Settled.{settled_with}
use Rattle.hint_laws.proofs.Within.{Doing, does, ends, restarts, goes_to, Within}
use Rattle.hint_laws.proofs.WithinSteps.{Inner}

-- ---- what is known

-- a number that is known, or none
abbrev pub known_if : Bool → ℕ → Option ℕ
known_if true v = Some v
known_if false v = None

-- the bytes of a state that are known: its data, outside marks
abbrev pub known : Layout → Marks → State → ℕ → Option ℕ
known l m q a = known_if (is_data l a && not (m.bytes a)) (q.memory a)

-- the registers of a row by number
abbrev pub registers : Regs → Registers
registers g n = get n g

-- the registers that belong to what a shadow is doing
abbrev pub regs_of : Doing → Regs
regs_of (does p i g) = g
regs_of (ends g) = g
regs_of (restarts site g) = g
regs_of (goes_to to g) = g

-- what the program range has in a run
abbrev pub program_in : World → Run → Memory
program_in w r = program_byte w.image.layout (rewritten_words w) r.own.memory

-- what the shadow has in place of the program's memory
abbrev pub view_in : Run → Memory
view_in r = shadowed r.shared r.own.memory

-- ---- what is so at any moment

-- each byte that one of the first i instructions settled lies in a region that has a copy
abbrev pub AreCopied : World → Run → ℕ → Type 0
AreCopied w r i = (x : ℕ) → settled_with r.since.filled w r i x ≡ true → (x / 256 < all_regions w.image.layout) × (0 < entry_of r.shared (x / 256))

-- no read is filled whose number is above i
abbrev pub FilledUpTo : Run → ℕ → Type 0
FilledUpTo r i = (k : ℕ) → i < k → is_listed r.since.filled k ≡ false

-- ---- on an instruction

-- what the shadow is doing is the instruction of a state
pub data DoesOf (w : World) (q : State) : Doing → Type 0 where
  instruction : (i : Instr) (g : Regs) → instr_at w.image q ≡ Some i → HasRegisters i → DoesOf w q (does q.pc i g)
  text_end : (g : Regs) → q.pc ≡ w.image.layout.text_end → DoesOf w q (ends g)
  restart : (g : Regs) → instr_at w.image q ≡ Some Ecall → DoesOf w q (restarts q.pc g)

-- a store, whose row alone says what the shadow sees
abbrev pub is_storing : Doing → Bool
is_storing (does p (Store op rs1 rs2 imm) g) = true
is_storing _ = false

-- a restart up to its HCALL, in which the copies are of no matter
abbrev pub is_restart : Doing → Bool
is_restart (restarts site g) = true
is_restart _ = false

-- the shadow is at word 1 of the state's block with these registers, or at another word
pub data Spot (w : World) (r : Run) (q : State) (d : Doing) : Type 0 where
  first : r.shadow.pc ≡ block_at w.image.layout q.pc + 4 → HasRegs r.shadow.registers (regs_of d) → is_restart d ≡ false → Spot w r q d
  inner : Inner w.image.layout r.shadow.pc d → Spot w r q d

-- the shadow works on the instruction of the state q after its s arrivals, with the marks m then. It has n words left at most
pub record Works (w : World) (r : Run) (s : ℕ) (m : Marks) (q : State) (program : Memory) (d : Doing) (n : ℕ) : Type 0 where
  pub count : r.since.shadow ≡ s
  pub marked : marks w r s ≡ m
  pub program_is : program_in w r ≡ program
  pub state : from_restart w r s ≡ Some q
  pub goes_on : q.exited ≡ None
  pub inside : w.image.layout.text_start ≤ q.pc
  pub doing : DoesOf w q d
  pub within : Within w (known w.image.layout m q) program d (shade_of r) n
  pub spot : Spot w r q d
  pub agrees : Agrees m (registers (regs_of d)) q
  pub files : r.shadow.files ≡ q.files
  pub sees : is_restart d ≡ false → (is_storing d ≡ false) ⊎ (is_arrival w.image.layout r.shadow.pc ≡ true) → SeesAlike w.image.layout m (view_in r) q
  pub later : is_restart d ≡ false → 0 < s
  pub anew : is_restart d ≡ true → (s ≡ 0) × (r.own.memory ≡ q.memory)
  pub copied : AreCopied w r s
  pub filled : FilledUpTo r s
  pub hints : r.since.hints ≡ reads w r s

-- ---- behind a call

-- the shadow has made the call of instruction s + 1, which is no use: q is the state behind it, m are the marks then. In a call's block the shadow is at the word behind the HCALL; else it goes on from RESTART's, as its first instruction
pub record Behind (w : World) (r : Run) (s : ℕ) (m : Marks) (q : State) (to : ℕ) (g : Regs) (program : Memory) (n : ℕ) : Type 0 where
  pub count : r.since.shadow ≡ s
  pub marked : marks w r (suc s) ≡ m
  pub program_is : program_in w r ≡ program
  pub state : from_restart w r (suc s) ≡ Some q
  pub goes_on : q.exited ≡ None
  pub target : q.pc ≡ to
  pub within : Within w (known w.image.layout m q) program (goes_to to g) (shade_of r) n
  pub place : Inner w.image.layout r.shadow.pc (goes_to to g)
  pub turn : (is_behind_call w r.shadow.pc ≡ true) ⊎ ((is_behind_call w r.shadow.pc ≡ false) × (s ≡ 0))
  pub agrees : Agrees m (registers g) q
  pub files : r.shadow.files ≡ q.files
  pub sees : SeesAlike w.image.layout m (view_in r) q
  pub copied : AreCopied w r (suc s)
  pub filled : FilledUpTo r (suc s)
  pub hints : r.since.hints ≡ reads w r (suc s)
  pub unused : IsTrue (before_use w r (suc s))

-- ---- behind a call that is a use

-- the call of instruction s + 1 is a use: nothing is known any more but, before the horizon, that it gave no wrong hint
pub record Strays (w : World) (r : Run) (s : ℕ) (bytes : ℕ → Option ℕ) (program : Memory) (to : ℕ) (g : Regs) (n : ℕ) : Type 0 where
  pub count : r.since.shadow ≡ s
  pub used : before_use w r (suc s) ≡ false
  pub program_is : program_in w r ≡ program
  pub within : Within w bytes program (goes_to to g) (shade_of r) n
  pub place : Inner w.image.layout r.shadow.pc (goes_to to g)
  pub behind : is_behind_call w r.shadow.pc ≡ true
  pub hints : IsTrue (before_horizon w r s) → r.since.hints ≡ reads w r (suc s)

-- ---- at rest

-- at word 1 of a block the shadow stands for the state after its arrivals
pub record Stands (w : World) (r : Run) (q : State) : Type 0 where
  pub state : from_restart w r r.since.shadow ≡ Some q
  pub inside : w.image.layout.text_start ≤ q.pc
  pub place : r.shadow.pc ≡ block_at w.image.layout q.pc + 4
  pub agrees : Agrees (marks w r r.since.shadow) r.shadow.registers q
  pub files : r.shadow.files ≡ q.files
  pub sees : SeesAlike w.image.layout (marks w r r.since.shadow) (view_in r) q
  pub copied : AreCopied w r r.since.shadow

-- the shadow doesn't run: its hints are the next reads, and where it is at word 1 of a block it stands for a state
pub record Rests (w : World) (r : Run) : Type 0 where
  pub still : r.shadow.state ≢ Running
  pub hints : IsTrue (before_use w r (hinted_up_to w r)) → r.since.hints ≡ reads w r (hinted_up_to w r)
  pub horizon : IsTrue (before_horizon w r r.since.shadow) → r.since.hints ≡ reads w r (hinted_up_to w r)
  pub stands : is_arrival w.image.layout r.shadow.pc ≡ true → (q : State) × Stands w r q

-- ---- in one of these ways

pub data Followed (w : World) (r : Run) : Type 0 where
  works : (s : ℕ) (m : Marks) (q : State) (program : Memory) (d : Doing) (n : ℕ) → Works w r s m q program d n → Followed w r
  behind : (s : ℕ) (m : Marks) (q : State) (to : ℕ) (g : Regs) (program : Memory) (n : ℕ) → Behind w r s m q to g program n → Followed w r
  strays : (s : ℕ) (bytes : ℕ → Option ℕ) (program : Memory) (to : ℕ) (g : Regs) (n : ℕ) → Strays w r s bytes program to g n → Followed w r
  rests : Rests w r → Followed w r
