-- A program that runs by itself: its state after n instructions, what it has put and called, and how it ends.
use Rattle.std.specs.Prelude.{ℕ, zero, suc, ◌+◌, ℤ, pos, Bool, true, false, List, [], ◌∷◌, ◌++◌, length, take, map, slice_get, Option, Some, None, unwrap_or}
use Rattle.std.specs.Option.{option_map, option_and_then}
use Rattle.spec_base.specs.Word.{word_of_int}
use Rattle.spec_base.specs.Files.{Name, Files}
use Rattle.spec_base.specs.declared.layout.Layout.{Layout}
use Rattle.spec_base.specs.declared.machine.Trap.{Trap}
use Rattle.spec_base.specs.declared.machine.Trap.TheVariants as trap
use Rattle.spec_base.specs.declared.machine.View.TheVariants.{Plain}
use Rattle.rv_decode.specs.Instruction.{instr_of}
use Rattle.rv_decode.specs.declared.instr.Instr.{Instr}
use Rattle.rv_model.specs.Memory.{Memory, stored, written, bytes_at}
use Rattle.rv_model.specs.Rights.{is_data, data_rights}
use Rattle.rv_model.specs.Registers.{Registers, reg, with_reg}
use Rattle.rv_model.specs.Effect.{Effect, Next, Stored, Trapped, Called, Gated, effect, fetched, after}
use Rattle.program_model.specs.Descriptors.{Descriptors}
use Rattle.program_model.specs.Calls.{CallPlan, Set, Look, Read, Write, Exit, call_plan, opened, after_read, bytes_read}

-- ---- states

-- a completed call
pub record Call : Type 0 where
  pub number : ℕ
  pub x10 : ℕ
  pub x11 : ℕ
  pub x12 : ℕ
  pub answer : ℤ

-- what went to a sink: the bytes, and of each put the length that was offered and the count that was taken
pub record Output : Type 0 where
  pub bytes : List ℕ
  pub puts : List (ℕ × ℕ)

-- the memory counts where it is data: the text is a list of words beside it
pub record State : Type 0 where
  pub registers : Registers
  pub pc : ℕ
  pub memory : Memory
  pub files : Descriptors
  pub out : Output
  pub err : Output
  pub calls : List Call
  pub exited : Option ℕ

-- a program: its layout, the words of its text, and the state in which it starts
pub record Image : Type 0 where
  pub layout : Layout
  pub words : List ℕ
  pub start : State

-- the instructions of the text
abbrev pub text_of : Image → List Instr
text_of p = map instr_of p.words

-- ---- calls

-- the plan of the call that the registers ask for
abbrev pub plan_of : Layout → State → CallPlan
plan_of l s = call_plan (is_data l) s.memory s.files (reg s.registers 17) (reg s.registers 10) (reg s.registers 11) (reg s.registers 12)

-- a call is completed: x10 has the answer
abbrev pub answered : State → ℤ → State
answered s answer =
    record s {
      registers = with_reg s.registers 10 (word_of_int answer);
      pc = after s.pc;
      calls = s.calls ++ record { number = reg s.registers 17; x10 = reg s.registers 10; x11 = reg s.registers 11; x12 = reg s.registers 12; answer = answer } ∷ [];
    }

-- one put, of which the sink took so many bytes
abbrev pub put : Output → List ℕ → ℕ → Output
put o offered taken = record { bytes = o.bytes ++ take taken offered; puts = o.puts ++ (length offered, taken) ∷ [] }

-- the size of a file
abbrev pub size_in : Files → Name → Option ℕ
size_in files name = option_map length (files name)

-- a look was answered
abbrev pub after_look : State → Descriptors × ℤ → State
after_look s r = answered (record s { files = r.0 }) r.1

-- the state after a planned call, whose put took so many bytes
abbrev pub performed : Files → ℕ → CallPlan → State → State
performed files taken (Set f answer) s = answered (record s { files = f }) answer
performed files taken (Look name) s = after_look s (opened s.files name (size_in files name))
performed files taken (Read d spot a) s = answered (record s { memory = written s.memory a (bytes_read files spot); files = after_read s.files d spot.count }) (pos spot.count)
performed files taken (Write true a n) s = answered (record s { out = put s.out (bytes_at s.memory a n) taken }) (pos taken)
performed files taken (Write false a n) s = answered (record s { err = put s.err (bytes_at s.memory a n) taken }) (pos taken)
performed files taken (Exit code) s = record s { exited = Some code }

-- how many bytes the puts of a program took, in order
pub record Taken : Type 0 where
  pub out : List ℕ
  pub err : List ℕ

-- how many bytes the next put takes; where the list has ended, all
abbrev pub taken_by : Taken → CallPlan → State → ℕ
taken_by t (Write true a n) s = unwrap_or (slice_get t.out (length s.out.puts)) n
taken_by t (Write false a n) s = unwrap_or (slice_get t.err (length s.err.puts)) n
taken_by t other s = 0

-- each put is taken whole
abbrev pub all_taken : Taken
all_taken = record { out = []; err = [] }

-- ---- steps

-- a step completes an instruction, or traps
pub data Step : Type 0 where
  Went : State → Step
  Traps : Trap → Step

-- a step that performs a call
abbrev pub call_step : Files → Taken → CallPlan → State → Step
call_step files t plan s = Went (performed files (taken_by t plan s) plan s)

-- a step by the effect of its instruction
abbrev pub after_effect : Image → Files → Taken → State → Effect → Step
after_effect p files t s (Next rs pc) = Went (record s { registers = rs; pc = pc })
after_effect p files t s (Stored a width v) = Went (record s { memory = stored s.memory a width v; pc = after s.pc })
after_effect p files t s (Trapped cause) = Traps cause
after_effect p files t s Called = call_step files t (plan_of p.layout s) s
after_effect p files t s (Gated _) = Traps trap.Illegal

-- a step at an instruction, or with none to fetch
abbrev pub at_word : Image → Files → Taken → State → Option Instr → Step
at_word p files t s None = Traps trap.FetchOut
at_word p files t s (Some i) = after_effect p files t s (effect Plain (data_rights p.layout) s.memory s.registers s.pc i)

-- a step from a state
abbrev pub next : Image → Files → Taken → State → Step
next p files t s = at_word p files t s (fetched (text_of p) p.layout.text_start s.pc)

-- the state of a step that completes
abbrev pub completed : Step → Option State
completed (Went s) = Some s
completed (Traps cause) = None

-- none where the program has exited
abbrev pub next_unless : Option ℕ → Image → Files → Taken → State → Option State
next_unless (Some code) p files t s = None
next_unless None p files t s = completed (next p files t s)

-- the next state; none where the program has exited, or traps
abbrev pub next_state : Image → Files → Taken → State → Option State
next_state p files t s = next_unless s.exited p files t s

-- the state after n completed instructions, where so many complete
unfoldable pub state_after : Image → Files → Taken → State → ℕ → Option State
state_after p files t s zero = Some s
state_after p files t s (suc n) = option_and_then (next_state p files t) (state_after p files t s n)

-- the plain run
abbrev pub plain_state : Image → Files → Taken → ℕ → Option State
plain_state p files t n = state_after p files t p.start n

-- ---- ends

-- how a program ends in a state: it has exited, it traps at this pc, or it goes on
pub data End : Type 0 where
  Exited : (code : ℕ) → End
  TrapsAt : Trap → (pc : ℕ) → End
  GoesOn : End

-- an end by a trap
abbrev pub end_of_step : Step → ℕ → End
end_of_step (Went s) pc = GoesOn
end_of_step (Traps cause) pc = TrapsAt cause pc

-- an end by exit or by a trap
abbrev pub end_unless : Option ℕ → Image → Files → Taken → State → End
end_unless (Some code) p files t s = Exited code
end_unless None p files t s = end_of_step (next p files t s) s.pc

-- how a program ends in a state
abbrev pub end_of : Image → Files → Taken → State → End
end_of p files t s = end_unless s.exited p files t s
