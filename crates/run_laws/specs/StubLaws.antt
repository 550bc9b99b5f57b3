-- A passage through the stub: one call is performed, and the hint log is left, loses its oldest pair, or is emptied before a restart (this project's own).
use Rattle.std.specs.Prelude.{ℕ, ◌+◌, ◌*◌, ◌^◌, ◌≡◌, ◌≢◌, ◌≤◌, ◌<◌, ⊤, Bool, true, false, [], ◌∷◌, ◌++◌, Some, None}
use Rattle.spec_base.specs.Layout.{stub_start, link_start}
use Rattle.spec_base.specs.declared.machine.View.TheVariants.{Program, Stub}
use Rattle.spec_base.specs.declared.note.Move.TheVariants.{O}
use Rattle.spec_base.specs.declared.note.ShadowState.TheVariants.{Stopped}
use Rattle.rv_model.specs.Memory.{Memory, stored}
use Rattle.rv_model.specs.Registers.{reg}
use Rattle.program_model.specs.Calls.{key_of}
use Rattle.program_model.specs.PlainRun.{State, plan_of, performed}
use Rattle.code_model.specs.Log.{log_head, log_tail, logged, boxed_site, boxed}
use Rattle.run_model.specs.Run.{World, Run, RunEnd, Exits, Traps, StoreFailed, SinkFailed, Answer}
use Rattle.run_model.specs.Moves.{Moves, step, run, run_from}
use Rattle.run_laws.specs.Completes.{StubWordCompletes}
use Rattle.run_laws.specs.OwnLaws.{Accepted, IsShadowMove}

-- ---- one call

-- the stub's word 27, HLEAVE
abbrev pub leave_word : ℕ
leave_word = stub_start + 4 * 26

-- the own hart is about to leave the stub
pub record IsLeaving (r : Run) : Type 0 where
  pub view : r.view ≡ Stub
  pub word : r.own.pc ≡ leave_word
  pub goes_on : r.end ≡ None

-- the own hart has done the call that it met at its gate, and nothing else: all registers but x10 are those at the gate
pub record IsOneCall (w : World) (r : Run) : Type 0 where
  pub taken : ℕ
  pub own : r.own ≡ record (performed w.files taken (plan_of w.image.layout r.at_gate) r.at_gate) { pc = leave_word }
  pub registers : (i : ℕ) → i ≢ 10 → r.own.registers i ≡ r.at_gate.registers i

abbrev pub StubIsOneCall : Type 0
StubIsOneCall = (w : World) → Accepted w → (ms : Moves) → IsLeaving (run w ms) → IsOneCall w (run w ms)

-- ---- no word of the stub traps

-- while the own hart is in the stub, its word completes
abbrev pub StubWordsComplete : Type 0
StubWordsComplete = (w : World) → Accepted w → (ms : Moves) → let r = run w ms in r.view ≡ Stub → r.end ≡ None → StubWordCompletes r

-- the stub's word 26, HCALL 0
abbrev pub call_word : ℕ
call_word = stub_start + 4 * 25

-- a run ends by an exit, or by a fault of the store or of a sink
abbrev pub IsExitOrFault : RunEnd → Type 0
IsExitOrFault (Exits code) = ⊤
IsExitOrFault StoreFailed = ⊤
IsExitOrFault SinkFailed = ⊤
IsExitOrFault (Traps cause pc) = ⊥

-- a run that ends in the stub ends so, at the call, and the stub isn't left
pub record EndsAtCall (r : Run) (e : RunEnd) : Type 0 where
  pub word : r.own.pc ≡ call_word
  pub cause : IsExitOrFault e

abbrev pub StubEndsAtCall : Type 0
StubEndsAtCall = (w : World) → Accepted w → (ms : Moves) (e : RunEnd) → let r = run w ms in r.view ≡ Stub → r.end ≡ Some e → EndsAtCall r e

-- ---- the log

-- a log has only got pairs behind its tail
pub record Appends (old new : Memory) : Type 0 where
  pub head : log_head new ≡ log_head old
  pub tail : log_tail old ≤ log_tail new
  pub below : log_tail new < 2 ^ 64
  pub pairs : (i : ℕ) → log_head old ≤ i → i < log_tail old → logged new i ≡ logged old i

-- a log's head isn't after its tail, and both are numbers of 64 bits
pub record IsLog (log : Memory) : Type 0 where
  pub order : log_head log ≤ log_tail log
  pub below : log_tail log < 2 ^ 64

-- the oldest pair of a log is this one
pub record IsOldest (log : Memory) (key count : ℕ) : Type 0 where
  pub some : log_head log < log_tail log
  pub pair : logged log (log_head log) ≡ (key, count)

-- the log without its oldest pair
abbrev pub without_oldest : Memory → Memory
without_oldest log = stored log link_start 8 (log_head log + 1)

pub record IsEmpty (log : Memory) : Type 0 where
  pub head : log_head log ≡ 0
  pub tail : log_tail log ≡ 0

-- the box holds a state's pc and its registers
pub record IsBoxed (link : Memory) (s : State) : Type 0 where
  pub site : boxed_site link ≡ s.pc
  pub registers : (i : ℕ) → i ≤ 31 → boxed link i ≡ reg s.registers i

-- the stub's word 9, which loads the log's tail, and word 70, HRESTART
abbrev pub judging_word : ℕ
judging_word = stub_start + 4 * 8

abbrev pub restart_word : ℕ
restart_word = stub_start + 4 * 69

-- in these moves behind a gate the call is judged by this log: the own hart made a move at word 9, and the log was this before it
pub record IsJudged (w : World) (gate : Run) (on : Moves) (log : Memory) : Type 0 where
  pub before : Moves
  pub answer : Answer
  pub behind : Moves
  pub moves : on ≡ before ++ (O, answer) ∷ behind
  pub word : (run_from w gate before).own.pc ≡ judging_word
  pub found : (run_from w gate before).shared ≡ log

-- the shadow is restarted: the own hart made a move at word 70, and the call wasn't performed before it
pub record IsRestarted (w : World) (gate : Run) (on : Moves) : Type 0 where
  pub before : Moves
  pub answer : Answer
  pub behind : Moves
  pub moves : on ≡ before ++ (O, answer) ∷ behind
  pub word : (run_from w gate before).own.pc ≡ restart_word
  pub undone : (run_from w gate before).own_done ≡ gate.own_done

-- what becomes of the log in a call with this key and count, and whether the shadow is restarted for it. A keyed call is judged at one moment, by the log as it is then
pub data Outcome (Judges : Memory → Type 0) (Restarts : Type 0) (q : State) (key count : ℕ) (before : Memory) : Bool → Memory → Type 0 where
  keyless : {after : Memory} → key ≡ 0 → Appends before after → Outcome Judges Restarts q key count before false after
  takes : {after : Memory} (judged : Memory) → Judges judged → 0 < key → Appends before judged → IsOldest judged key count
      → Appends (without_oldest judged) after → Outcome Judges Restarts q key count before false after
  empties : {after : Memory} (judged emptied : Memory) → Judges judged → Restarts → 0 < key → Appends before judged → (IsOldest judged key count → ⊥)
      → IsEmpty emptied → IsBoxed emptied q → Appends emptied after → Outcome Judges Restarts q key count before true after

-- ---- a passage

-- in these moves the own hart stays in the stub, and a move of the shadow only appends to the log
abbrev pub Passing : World → Run → Moves → Type 0
Passing w r [] = (r.view ≡ Stub)
Passing w r (m ∷ ms) = (r.view ≡ Stub) × (IsShadowMove m.0 → Appends r.shared (step w r m).shared) × Passing w (step w r m) ms

-- one restart comes before the call, or none
abbrev pub restarts_after : Bool → ℕ → ℕ
restarts_after true n = n + 1
restarts_after false n = n

-- from the gate, which the own hart met in the state q, by these moves to the word that leaves the stub
pub record IsPassage (w : World) (gate : Run) (on : Moves) (leave : Run) : Type 0 where
  pub same_call : leave.at_gate ≡ gate.at_gate
  pub one_done : leave.own_done ≡ gate.own_done + 1
  pub restarts : leave.restarts ≡ restarts_after leave.asked gate.restarts
  pub log : Outcome (IsJudged w gate on) (IsRestarted w gate on) gate.at_gate (key_of (plan_of w.image.layout gate.at_gate)) (reg gate.at_gate.registers 12) gate.shared leave.asked leave.shared

-- an own move meets a gate of the program, and in the moves behind it the own hart comes to leave the stub.
abbrev pub StubKeepsLog : Type 0
StubKeepsLog =
    (w : World) → Accepted w → (ms : Moves) (x : Answer) (on : Moves) →
    let program = run w ms in let gate = step w program (O, x) in let leave = run_from w gate on in
    program.view ≡ Program → IsLog program.shared → Passing w gate on → IsLeaving leave → IsPassage w gate on leave

-- an own move leaves what is shared, takes the oldest pair of a log that has one, or finds the shadow stopped
pub data TakesOldest (r next : Run) : Type 0 where
  leaves : next.shared ≡ r.shared → TakesOldest r next
  takes_pair : log_head r.shared < log_tail r.shared → next.shared ≡ without_oldest r.shared → TakesOldest r next
  is_halted : r.shadow.state ≡ Stopped → TakesOldest r next

-- so does each own move behind a gate, while the own hart stays in the stub
abbrev pub StubTakesOldest : Type 0
StubTakesOldest =
    (w : World) → Accepted w → (ms : Moves) (x : Answer) (on : Moves) (y : Answer) →
    let program = run w ms in let gate = step w program (O, x) in let r = run_from w gate on in
    program.view ≡ Program → IsLog program.shared → Passing w gate on → TakesOldest r (step w r (O, y))

-- ---- the link and the restart, whatever moves come between

-- while the shadow isn't stopped, an own move changes no more of what they share than the log's head
pub data LeavesLink (r next : Run) : Type 0 where
  left : next.shared ≡ r.shared → LeavesLink r next
  takes_head : (head : ℕ) → next.shared ≡ stored r.shared link_start 8 head → LeavesLink r next
  is_stopped : r.shadow.state ≡ Stopped → LeavesLink r next

abbrev pub StubStopsFirst : Type 0
StubStopsFirst = (w : World) → Accepted w → (ms : Moves) (x : Answer) → LeavesLink (run w ms) (step w (run w ms) (O, x))

-- a restart finds the shadow stopped, the log empty, and site and registers at the gate in the box
pub record RestartsFromBox (r next : Run) : Type 0 where
  pub stopped : r.shadow.state ≡ Stopped
  pub left : next.shared ≡ r.shared
  pub empty : IsEmpty next.shared
  pub boxed : IsBoxed next.shared r.at_gate

abbrev pub RestartHasBox : Type 0
RestartHasBox =
    (w : World) → Accepted w → (ms : Moves) (x : Answer) → let r = run w ms in let next = step w r (O, x) in
    next.restarts ≢ r.restarts → RestartsFromBox r next
