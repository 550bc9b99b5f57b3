-- The lines of uses in a trace, and what is kept along a run to tell them (this project's own).
use Rattle.std.specs.Prelude.{◌≡◌, ◌⊎◌, ℕ, suc, ◌<◌, Bool, true, false, ◌&&◌, nat_lt, List, [], ◌∷◌, ◌++◌, Option, Some, None, IsTrue}
use Rattle.std.specs.BTreeSet.{contains}
use Rattle.std.specs.Ordering.{nat_cmp}
use Rattle.spec_base.specs.Listed.{is_listed}
use Rattle.spec_base.specs.declared.note.Move.{Move}
use Rattle.spec_base.specs.declared.note.Note.{Note}
use Rattle.spec_base.specs.declared.note.Note.TheVariants.{Fill}
use Rattle.trace_text.specs.Line.{use_line_of}
use Rattle.run_model.specs.Run.{World, Run, Answer}
use Rattle.run_model.specs.Moves.{Moves, step, run}
use Rattle.program_model.specs.PlainRun.{State}
use Rattle.run_model.specs.Marks.{Marks, marks_after, is_use, IsFirstUse}
use Rattle.use_marks.specs.Along.{numbers_of, completes_first_use, has_completed, own_instr, AreMarksOf, Completes}
use Rattle.use_marks.specs.Marked.{marks_of}
use Rattle.use_marks.specs.Passing.{changed, ChangeFits}
use Rattle.use_marks.specs.declared.passage.Passage.{Passage}
use Rattle.program_driver.specs.Lines.{Line}
use Rattle.program_driver.specs.declared.uses.UseTrace.{UseTrace}
use Rattle.program_driver.specs.declared.uses.Ahead.{Ahead}

-- ---- the lines

-- the line of the use that a move completed, if it did
abbrev pub use_line_if : Bool → Run → List Line
use_line_if true next = use_line_of next.own_done next.since.shadow next.since.own ∷ []
use_line_if false next = []

-- the line of a move, from one run to the next, that completed the first use of the run from the restart
abbrev pub use_lines : Bool → World → List ℕ → Run → Run → List Line
use_lines asked w numbers r next = use_line_if (asked && completes_first_use w numbers r next) next

-- what such a line says: in the move the own hart completed an instruction of the run from a restart, each put was whole, and instruction i + 1 is the first whose arguments are marked, by the reads that were filled when the own hart completed them. While the own hart isn't past the shadow, it is the first use that the hints rest on
pub record SaysFirstUse (w : World) (numbers : List ℕ) (r next : Run) : Type 0 where
  pub completed : has_completed r next ≡ true
  pub restarted : 0 < r.restarts
  pub whole : IsTrue r.since.whole
  pub first : IsFirstUse numbers w r r.since.own
  pub number : next.since.own ≡ suc r.since.own
  pub of_hints : IsTrue next.since.ahead → IsFirstUse next.since.filled w next r.since.own

-- where a line of a use stands for a move, and what it says: it stands where the own hart completed the first use of the run from the restart in the move, while each put was whole, and nowhere else
pub record IsUseMove (w : World) (numbers : List ℕ) (r next : Run) : Type 0 where
  pub says : completes_first_use w numbers r next ≡ true → SaysFirstUse w numbers r next
  pub stands : has_completed r next ≡ true → 0 < r.restarts → IsTrue r.since.whole → IsFirstUse numbers w r r.since.own → completes_first_use w numbers r next ≡ true

-- so it is of each of these moves
abbrev pub UsesAreFirst : World → Moves → Type 0
UsesAreFirst w ms = (front rest : Moves) (m : Move × Answer) → ms ≡ front ++ m ∷ rest → IsUseMove w (numbers_of w front) (run w front) (step w (run w front) m)

-- ---- what is kept

-- the marks, and of each read that the shadow filled how many instructions come before it
pub record KeepsUses (w : World) (ms : Moves) (u : UseTrace) : Type 0 where
  pub marks : AreMarksOf w (run w ms) (numbers_of w ms) (marks_of u.marks) u.unused
  pub filled : (n : ℕ) → contains nat_cmp u.filled n ≡ is_listed (run w ms).since.filled (suc n)

-- where uses are told
abbrev pub HasUses : World → Moves → UseTrace → Type 0
HasUses w ms u = IsTrue u.on → KeepsUses w ms u

-- ---- before a move

-- an instruction of the own hart does this to the marks
pub record Does (w : World) (r : Run) (marks : Marks) (p : Passage) (s : State) : Type 0 where
  pub used : p.used ≡ is_use w.image.layout s (own_instr w r) marks
  pub change : changed p.change marks ≡ marks_after w.image.layout (is_listed r.since.filled (suc r.since.own)) s (own_instr w r) marks
  pub fits : ChangeFits p.change

-- whichever it completes as the next one from the restart
abbrev pub Stands : World → Run → Marks → Passage → Type 0
Stands w r marks p = (s : State) → Completes w r s → Does w r marks p s

-- it is known before each move that may complete an instruction of the run from a restart
abbrev pub StandsIf : World → Run → Move → Marks → Option Passage → Type 0
StandsIf w r m marks None = (x : Answer) → ((nat_lt 0 r.restarts && r.since.whole) ≡ false) ⊎ (has_completed r (step w r (m, x)) ≡ false)
StandsIf w r m marks (Some p) = (0 < r.restarts) × IsTrue r.since.whole × Stands w r marks p

-- before a move: the counts, and what the own hart's next instruction does
pub record IsAhead (w : World) (r : Run) (m : Move) (marks : Marks) (a : Ahead) : Type 0 where
  pub own : a.own ≡ r.own_done
  pub shadow : a.shadow ≡ r.since.shadow
  pub restarts : a.restarts ≡ r.restarts
  pub next : StandsIf w r m marks a.next

-- ---- notes

abbrev pub is_fill : Note → Bool
is_fill (Fill spot) = true
is_fill _ = false
