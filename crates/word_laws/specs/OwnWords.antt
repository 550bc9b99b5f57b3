-- The run after a word of the own hart, as hart and memory show it after the word (this project's own).
use Rattle.std.specs.Prelude.{ℕ, ◌≡◌, ◌+◌, IsTrue, true, false, Some, [], ◌∷◌}
use Rattle.spec_base.specs.Layout.{helpers_start, stub_start}
use Rattle.spec_base.specs.declared.machine.Trap.{Trap}
use Rattle.spec_base.specs.declared.machine.View.TheVariants.{Program, Stub}
use Rattle.spec_base.specs.declared.note.Note.TheVariants as note
use Rattle.spec_base.specs.declared.note.ShadowState.TheVariants.{Running, Stopped}
use Rattle.rv_decode.specs.declared.instr.Instr.{Instr}
use Rattle.rv_decode.specs.declared.instr.Instr.TheVariants.{Hkey, Hcall}
use Rattle.rv_model.specs.Effect.{fetched}
use Rattle.rv_model.specs.Space.{Space}
use Rattle.program_model.specs.PlainRun.{plan_of}
use Rattle.code_model.specs.Places.{RESTART}
use Rattle.code_model.specs.Stub.{stub}
use Rattle.run_model.specs.Run.{World, Run, Answer, Traps}
use Rattle.run_model.specs.OwnMoves.{own_in, done_one, ended, gate_step, since_restart, restart_notes}
use Rattle.run_laws.specs.OwnLaws.{Accepted}
use Rattle.machine_laws.specs.OneMachine.{space_of_run}
use Rattle.hart_mem.specs.Held.{Held}
use Rattle.hart_step.specs.Core.{Core}
use Rattle.hart_step.specs.declared.event.Event.{Event}
use Rattle.hart_step.specs.declared.event.Event.TheVariants as event
use Rattle.word_laws.specs.Shown.{IsStep, tells_call, ShowsOwn, with_own, is_own_view, is_performed}

-- ---- changes of a run

-- an instruction of the program is completed, as hart and memory show it
abbrev pub completed : Run → Core → Space → Run
completed r c s = done_one (with_own r c s) (with_own r c s).own

-- HGATE
abbrev pub gate_met : Run → Core → Space → Run
gate_met r c s = record (with_own r c s) { at_gate = r.own; asked = false }

-- the own hart's word traps
abbrev pub trapped : Run → Trap → ℕ → Run
trapped r cause pc = ended r (Traps cause pc) (note.Trap cause pc ∷ [])

-- HSTOP, with the hart behind it
abbrev pub shadow_stopped : Run → Run
shadow_stopped r = record r { shadow = record r.shadow { state = Stopped } }

-- HRESTART, with the hart behind it
abbrev pub restarted_from : World → Run → Run
restarted_from w r =
    record r {
      shadow = record r.shadow { state = Running; pc = helpers_start + RESTART; files = r.own.files };
      asked = true;
      restarts = r.restarts + 1;
      since = since_restart r;
      notes = restart_notes (plan_of w.image.layout r.own);
    }

-- ---- a word of the program

-- the run after it, by the event of the step. In these c and s are hart and memory after it. Where a page is wanting they are as they were
abbrev pub ProgramLeads : Event → World → Run → Core → Space → Type 0
ProgramLeads event.Done w r c s = (x : Answer) → own_in Program w x r ≡ completed r c s
ProgramLeads event.Gate w r c s = (x : Answer) → own_in Program w x r ≡ gate_met r c s
ProgramLeads (event.Trap cause) w r c s = (x : Answer) → own_in Program w x r ≡ trapped (with_own r c s) cause c.pc
ProgramLeads event.NoMemory w r c s = with_own r c s ≡ r
ProgramLeads _ w r c s = ⊥

-- and the rest of what a step tells: hart and memory show the run with what they have
pub record ProgramGoes (e : Event) (w : World) (r : Run) (c : Core) (s : Space) : Type 0 where
  pub leads : ProgramLeads e w r c s
  pub side : IsTrue (is_own_view c.view)
  pub space : s ≡ space_of_run w (with_own r c s)

-- in every run of an accepted program whose own hart is in the program
abbrev pub ProgramWordsLead : Type 0
ProgramWordsLead =
    (w : World) (r : Run) → Accepted w → (h : Held) (e : Event) (c : Core) (s : Space) (d : Core) (t : Space) → ShowsOwn Program w r c s → IsStep h e c s d t → ProgramGoes e w r d t

-- ---- a word of the stub

-- the own hart stands at an HKEY or at HCALL 0, and hart and memory are as they were. The move is made once it is answered
pub record MeetsGate (gate : Instr) (w : World) (r : Run) (c : Core) (s : Space) : Type 0 where
  pub word : fetched stub stub_start r.own.pc ≡ Some gate
  pub same : with_own r c s ≡ r
  pub moves : (x : Answer) → own_in Stub w x r ≡ gate_step w x r gate

-- the run after it, by the event of the step. In these c and s are hart and memory after it
abbrev pub StubLeads : Event → World → Run → Core → Space → Type 0
StubLeads event.Done w r c s = (x : Answer) → own_in Stub w x r ≡ with_own r c s
StubLeads event.Leave w r c s = (x : Answer) → own_in Stub w x r ≡ with_own r c s
StubLeads event.Stop w r c s = (x : Answer) → own_in Stub w x r ≡ shadow_stopped (with_own r c s)
StubLeads event.Restart w r c s = (x : Answer) → own_in Stub w x r ≡ restarted_from w (with_own r c s)
StubLeads (event.Key rd) w r c s = MeetsGate (Hkey rd) w r c s
StubLeads (event.Call false) w r c s = MeetsGate (Hcall false) w r c s
StubLeads (event.Trap cause) w r c s = (x : Answer) → own_in Stub w x r ≡ trapped (with_own r c s) cause c.pc
StubLeads _ w r c s = ⊥

-- and the rest of what a step tells: hart and memory show the run with what they have, and whether HCALL 0 stood there
pub record StubGoes (e : Event) (w : World) (r : Run) (c : Core) (s : Space) : Type 0 where
  pub leads : StubLeads e w r c s
  pub side : IsTrue (is_own_view c.view)
  pub space : s ≡ space_of_run w (with_own r c s)
  pub calls : is_performed (fetched stub stub_start r.own.pc) ≡ tells_call e

-- in every run of an accepted program whose own hart is in the stub
abbrev pub StubWordsLead : Type 0
StubWordsLead = (w : World) (r : Run) → Accepted w → (h : Held) (e : Event) (c : Core) (s : Space) (d : Core) (t : Space) → ShowsOwn Stub w r c s → IsStep h e c s d t → StubGoes e w r d t
