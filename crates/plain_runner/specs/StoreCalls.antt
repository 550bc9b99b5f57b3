-- How many calls on the store a program that runs by itself makes (this project's own).
use Rattle.std.specs.Prelude.{ℕ, zero, suc, ◌+◌, length, Option, Some, None}
use Rattle.spec_base.specs.Files.{Files}
use Rattle.spec_base.specs.declared.machine.View.TheVariants.{Plain}
use Rattle.rv_decode.specs.declared.instr.Instr.{Instr}
use Rattle.rv_model.specs.Rights.{data_rights}
use Rattle.rv_model.specs.Effect.{Effect, Called, effect, fetched}
use Rattle.program_model.specs.Cache.{blocks_of}
use Rattle.program_model.specs.Calls.{CallPlan, Look, Read}
use Rattle.program_model.specs.PlainRun.{State, Image as Program, Taken, text_of, plan_of, plain_state}

-- those of a planned call: one look for an open, and one fetch for each block that holds a byte of a read
abbrev pub calls_of : CallPlan → ℕ
calls_of (Look name) = 1
calls_of (Read d spot a) = length (blocks_of spot)
calls_of other = 0

-- those of an instruction with this effect
abbrev pub effect_calls : Program → State → Effect → ℕ
effect_calls p s Called = calls_of (plan_of p.layout s)
effect_calls p s other = 0

-- those of an instruction, or with none to fetch
abbrev pub word_calls : Program → State → Option Instr → ℕ
word_calls p s None = 0
word_calls p s (Some i) = effect_calls p s (effect Plain (data_rights p.layout) s.memory s.registers s.pc i)

-- those of the next instruction, where none fails
abbrev pub next_calls : Program → State → ℕ
next_calls p s = word_calls p s (fetched (text_of p) p.layout.text_start s.pc)

-- those of the next instruction from a state, if there is one
abbrev pub state_calls : Program → Option State → ℕ
state_calls p None = 0
state_calls p (Some s) = next_calls p s

-- those of the first n instructions of a plain run
unfoldable pub calls_until : Program → Files → Taken → ℕ → ℕ
calls_until p files t zero = 0
calls_until p files t (suc n) = calls_until p files t n + state_calls p (plain_state p files t n)
