-- What a walk of the shadow through one block comes to: the block's run is one instruction of the plain program (this project's own).
use Rattle.std.specs.Prelude.{ℕ, zero, suc, ℤ, ◌+◌, ◌-◌, ◌/◌, ◌^◌, ◌≡◌, ◌<◌, ◌≤◌, ◌⊎◌, Bool, true, false, Option, Some, None, IsTrue}
use Rattle.spec_base.specs.Word.{plus_int}
use Rattle.spec_base.specs.declared.layout.Layout.{Layout}
use Rattle.spec_base.specs.declared.note.ShadowState.TheVariants.{Parked}
use Rattle.spec_base.specs.declared.park.Park.{Park}
use Rattle.spec_base.specs.declared.park.Park.TheVariants as park
use Rattle.rv_decode.specs.declared.instr.Instr.{Instr}
use Rattle.rv_decode.specs.declared.instr.Instr.TheVariants.{Jal, Jalr, Branch, Store, Ecall, Hcall}
use Rattle.rv_decode.specs.declared.instr.StoreOp.{StoreOp}
use Rattle.rv_model.specs.Rights.{is_data, in_text}
use Rattle.rv_model.specs.Memory.{Memory}
use Rattle.rv_model.specs.Registers.{Registers, reg}
use Rattle.rv_model.specs.Arithmetic.{is_taken}
use Rattle.rv_model.specs.Space.{Space}
use Rattle.program_model.specs.Calls.{key_of}
use Rattle.program_model.specs.PlainRun.{State, all_taken, next_state, plan_of}
use Rattle.code_model.specs.Log.{IsQueue, log_head, log_tail, logged}
use Rattle.code_model.specs.Places.{block_at}
use Rattle.code_model.specs.Regions.{entry_of, slots_in_use, shadowed}
use Rattle.run_model.specs.Run.{World, Run, Answer}
use Rattle.run_model.specs.ShadowMoves.{fetch_shadow, is_arrival, shadow_step}
use Rattle.run_laws.specs.OwnLaws.{Accepted}
use Rattle.run_laws.specs.Numbers.{IsSized}
use Rattle.run_model.specs.Restarts.{instr_at}
use Rattle.side_model.specs.Places.{HasBlock}
use Rattle.code_model.specs.Tables.{Tabs, TableOk}
use Rattle.side_model.specs.Tables.{HasTabs}
use Rattle.hart_step.specs.Core.{Core}
use Rattle.word_laws.specs.Shown.{ShowsIn, ShowsShadow}
use Rattle.shadow_walk.specs.declared.walking.Walked.{Walked}
use Rattle.shadow_walk.specs.declared.walking.Walked.TheVariants as walked

-- ---- states

-- the shadow has the registers, the descriptors and, in its copies or else in the program, the bytes of a plain state, and its table and list are consistent
pub record HasState (w : World) (r : Run) (q : State) : Type 0 where
  pub registers : (i : ℕ) → 0 < i → i < 32 → r.shadow.registers i ≡ q.registers i
  pub files : r.shadow.files ≡ q.files
  pub bytes : (a : ℕ) → IsTrue (is_data w.image.layout a) → shadowed r.shared r.own.memory a ≡ q.memory a
  pub tables : Tabs
  pub has : HasTabs w.image.layout r.shared tables
  pub ok : TableOk w.image.layout tables
  pub sized : IsSized r

-- it stands at word 1 of the block of a plain state, which has not exited
pub record StandsAt (w : World) (r : Run) (q : State) : Type 0 where
  pub state : HasState w r q
  pub block : HasBlock w.image.layout q.pc
  pub place : r.shadow.pc ≡ block_at w.image.layout q.pc + 4
  pub goes_on : q.exited ≡ None

-- it stands at the HCALL of the call of a plain state, word 6 of its block
pub record StandsAtCall (w : World) (r : Run) (q : State) : Type 0 where
  pub state : HasState w r q
  pub call : instr_at w.image q ≡ Some Ecall
  pub place : r.shadow.pc ≡ block_at w.image.layout q.pc + 24
  pub word : fetch_shadow w r.shadow.pc ≡ Some (Hcall false)
  pub goes_on : q.exited ≡ None

-- ---- a walk

-- whether an instruction jumps, or branches and is taken
abbrev pub jumps : Registers → Option Instr → Bool
jumps rs (Some (Jal rd imm)) = true
jumps rs (Some (Jalr rd rs1 imm)) = true
jumps rs (Some (Branch op rs1 rs2 imm)) = is_taken op (reg rs rs1) (reg rs rs2)
jumps rs _ = false

-- the program jumps out of its text, by a jump or by a branch that is taken. One that runs on past its last word does not: the text's end has a block
pub record JumpsOut (w : World) (q : State) : Type 0 where
  pub next : State
  pub completes : next_state w.image w.files all_taken q ≡ Some next
  pub by_jump : jumps q.registers (instr_at w.image q) ≡ true
  pub outside : in_text w.image.layout next.pc ≡ false

-- where a walk parks by Fault: the program traps, or jumps out of its text
abbrev pub Faults : World → State → Type 0
Faults w q = (next_state w.image w.files all_taken q ≡ None) ⊎ JumpsOut w q

-- why a walk parks, with this shared memory: by Fault there; by Regions at a store alone that doesn't trap, whose region has no copy, with all slots in use; and by LogFull at a call alone. It parks by no other cause
pub data ParksBy (w : World) (q : State) (shared : Memory) : Park → Type 0 where
  faults : Faults w q → ParksBy w q shared park.Fault
  full_up : (op : StoreOp) (rs1 rs2 : ℕ) (imm : ℤ) → instr_at w.image q ≡ Some (Store op rs1 rs2 imm) → ¬ Faults w q → entry_of shared (plus_int (reg q.registers rs1) imm / 256) ≡ 0 → slots_in_use shared ≡ w.image.layout.regions
      → ParksBy w q shared park.Regions
  log_full : instr_at w.image q ≡ Some Ecall → ParksBy w q shared park.LogFull

-- ---- the log

-- pairs may join the log of a run: it is a queue, and its tail doesn't wrap
pub record HasLog (r : Run) : Type 0 where
  pub queue : IsQueue r.shared
  pub short : log_tail r.shared + 1 < 2 ^ 64 - 1

-- what a call of this key and this asked count does to the log's tail: without a key nothing; else it joins one pair, for which there was room
pub data Logs (key count : ℕ) (old new : Memory) : Type 0 where
  keyless : key ≡ 0 → log_tail new ≡ log_tail old → Logs key count old new
  joins : 0 < key → log_tail old < log_head old + 64 → log_tail new ≡ log_tail old + 1 → logged new (log_tail old) ≡ (key, count) → Logs key count old new

-- where a call of this key parks by LogFull: it has one, and 64 pairs wait
pub record IsFullLog (key : ℕ) (log : Memory) : Type 0 where
  pub keyed : 0 < key
  pub full : log_tail log ≡ log_head log + 64

-- ---- words

-- the run after so many words of its shadow, where the outside answers so at each
unfoldable pub words_on : World → (ℕ → Answer) → Run → ℕ → Run
words_on w x r zero = r
words_on w x r (suc n) = shadow_step w (x n) (words_on w x r n)

-- no word before the one of this number, counted from 1, has led to word 1 of a block
abbrev pub NoneArrives : World → (ℕ → Answer) → Run → ℕ → Type 0
NoneArrives w x r n = (k : ℕ) → k < n → 0 < k → is_arrival w.image.layout (words_on w x r k).shadow.pc ≡ false

-- from word 1 of the block of the state q to the first arrival, park or call: after so many words, 227 at most, the shadow stands at the block of the next state, is parked, or is at the HCALL of the state's call, with the state as it was. Hart and memory show the run then
pub data Walks (w : World) (x : ℕ → Answer) (r : Run) (q : State) (core : Core) (space : Space) : Option Walked → Type 0 where
  arrives : (n : ℕ) → 0 < n → n ≤ 227 → NoneArrives w x r n → ShowsShadow w (words_on w x r n) core space → ¬ Faults w q → (next : State) → next_state w.image w.files all_taken q ≡ Some next → StandsAt w (words_on w x r n) next
      → Walks w x r q core space (Some (walked.Arrived n))
  parks : (n : ℕ) → 0 < n → n ≤ 227 → NoneArrives w x r n → (cause : Park) → ShowsIn (Parked cause) w (words_on w x r n) core space → ParksBy w q (words_on w x r n).shared cause
      → (cause ≡ park.LogFull → HasLog r → IsFullLog (key_of (plan_of w.image.layout q)) r.shared) → Walks w x r q core space (Some (walked.Parked cause n))
  calls : (n : ℕ) → n ≤ 227 → NoneArrives w x r (n + 1) → ShowsShadow w (words_on w x r n) core space → StandsAtCall w (words_on w x r n) q
      → (HasLog r → Logs (key_of (plan_of w.image.layout q)) (r.shadow.registers 12) r.shared (words_on w x r n).shared) → Walks w x r q core space (Some (walked.Call false n))

-- a walk, with this key for an HKEY, in each run that hart and memory show at word 1 of a block, whatever the outside answers. The second hart and memory are those after it
abbrev pub BlockIsOneInstruction : Layout → ℕ → Option Walked → Core → Space → Core → Space → Type 0
BlockIsOneInstruction l key result c s d t =
    (w : World) (x : ℕ → Answer) (r : Run) (q : State) → Accepted w → l ≡ w.image.layout → ShowsShadow w r c s → StandsAt w r q → key ≡ key_of (plan_of l q) → Walks w x r q d t result
