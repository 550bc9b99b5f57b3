-- What is promised of the hint log and of the restart box in every run that is short enough for the log's tail not to wrap (this project's own).
use Rattle.std.specs.Prelude.{ℕ, ◌≡◌, ◌+◌, ◌-◌, ◌*◌, ◌^◌, ◌≤◌, ◌<◌, ◌⊎◌, [], ◌∷◌, length, Some}
use Rattle.spec_base.specs.Layout.{stub_start}
use Rattle.spec_base.specs.declared.machine.View.TheVariants.{Program, Stub}
use Rattle.spec_base.specs.declared.note.Move.{Move}
use Rattle.spec_base.specs.declared.note.Move.TheVariants.{O}
use Rattle.spec_base.specs.declared.note.ShadowState.TheVariants.{Running, Stopped}
use Rattle.rv_decode.specs.declared.instr.Instr.TheVariants.{Ecall}
use Rattle.rv_model.specs.Effect.{fetched}
use Rattle.rv_model.specs.Memory.{Memory}
use Rattle.rv_model.specs.Registers.{reg}
use Rattle.program_model.specs.Calls.{key_of}
use Rattle.program_model.specs.PlainRun.{State, text_of}
use Rattle.code_model.specs.Log.{log_head, log_tail, logged, IsQueue}
use Rattle.code_model.specs.Places.{block_at}
use Rattle.run_model.specs.Run.{World, Run, Answer}
use Rattle.run_model.specs.Moves.{Moves, step, run, run_from}
use Rattle.run_model.specs.ShadowMoves.{shadow_plan}
use Rattle.run_laws.specs.OwnLaws.{Accepted, IsShadowMove}
use Rattle.run_laws.specs.StubLaws.{Appends, IsBoxed, IsLeaving, IsPassage}

-- the own hart is before a word of the stub, which are counted from 1
abbrev pub IsBeforeWord : ℕ → Run → Type 0
IsBeforeWord word r = (r.view ≡ Stub) × (r.own.pc + 4 ≡ stub_start + 4 * word)

-- ---- the log

-- the own hart is between words 30 and 31 of the stub: the shadow is stopped, the log's head is 0, and its tail isn't yet
pub record IsEmptying (r : Run) : Type 0 where
  pub between : IsBeforeWord 31 r
  pub stopped : r.shadow.state ≡ Stopped
  pub head : log_head r.shared ≡ 0

-- at every other moment the log is a queue of at most 64 pairs
abbrev pub LogIsQueue : Type 0
LogIsQueue = (w : World) → Accepted w → (ms : Moves) → length ms < 2 ^ 64 - 1 → IsQueue (run w ms).shared ⊎ IsEmptying (run w ms)

-- at that one the tail is as it was before
abbrev pub EmptyingLeavesTail : Type 0
EmptyingLeavesTail =
    (w : World) → Accepted w → (ms : Moves) (m : Move) (x : Answer) → let r = run w ms in let next = step w r (m, x) in
    IsEmptying next → log_tail next.shared ≡ log_tail r.shared

-- a move of the shadow only appends to the log
abbrev pub ShadowAppends : Type 0
ShadowAppends =
    (w : World) → Accepted w → (ms : Moves) (m : Move) (x : Answer) → IsShadowMove m → length ms < 2 ^ 64 - 1 → Appends (run w ms).shared (step w (run w ms) (m, x)).shared

-- in these moves the own hart stays in the stub
abbrev pub StaysInStub : World → Run → Moves → Type 0
StaysInStub w r [] = r.view ≡ Stub
StaysInStub w r (m ∷ ms) = (r.view ≡ Stub) × StaysInStub w (step w r m) ms

-- an own move meets a gate of the program, and in the moves behind it the own hart comes to leave the stub: the log is left, loses its oldest pair, or is emptied before a restart
abbrev pub LogIsKept : Type 0
LogIsKept =
    (w : World) → Accepted w → (ms : Moves) (x : Answer) (on : Moves) → length ms + 1 + length on < 2 ^ 64 - 1 →
    let program = run w ms in let gate = step w program (O, x) in let leave = run_from w gate on in
    program.view ≡ Program → StaysInStub w gate on → IsLeaving leave → IsPassage w gate on leave

-- ---- a call's block

-- the shadow runs in the block of the call at an address, before this word, words being counted from 0
pub record IsInCallBlock (w : World) (p word : ℕ) (r : Run) : Type 0 where
  pub call : fetched (text_of w.image) w.image.layout.text_start p ≡ Some Ecall
  pub runs : r.shadow.state ≡ Running
  pub place : r.shadow.pc ≡ block_at w.image.layout p + 4 * word

-- the tail has risen by one, with this key and this count, or by nothing where there is no key
pub data AppendsCall (key count : ℕ) (old new : Memory) : Type 0 where
  keyless : key ≡ 0 → log_tail new ≡ log_tail old → AppendsCall key count old new
  keyed : 0 < key → log_tail new ≡ log_tail old + 1 → logged new (log_tail old) ≡ (key, count) → AppendsCall key count old new

-- from word 1 of a call's block to its HCALL, with no arrival and no restart between, the log gets the key of the planned call with x12
abbrev pub CallAppends : Type 0
CallAppends =
    (w : World) → Accepted w → (ms on : Moves) (p : ℕ) → length ms + length on < 2 ^ 64 - 1 → let first = run w ms in let last = run_from w first on in
    IsInCallBlock w p 1 first → IsInCallBlock w p 6 last → last.since.shadow ≡ first.since.shadow → last.restarts ≡ first.restarts →
    AppendsCall (key_of (shadow_plan w last)) (reg last.shadow.registers 12) first.shared last.shared

-- ---- the box

-- the own hart is behind word 34 of the stub and before the restart at word 70
pub record IsBoxing (r : Run) : Type 0 where
  pub word : ℕ
  pub first : 35 ≤ word
  pub last : word ≤ 70
  pub before : IsBeforeWord word r

-- from a restart until word 34 is executed again the box holds the registers and the site of the state at the restarting gate, whatever moves come
abbrev pub BoxIsKept : Type 0
BoxIsKept =
    (w : World) → Accepted w → (ms : Moves) (q : State) → length ms < 2 ^ 64 - 1 → (run w ms).since.origin ≡ Some q →
    IsBoxed (run w ms).shared q ⊎ IsBoxing (run w ms)
