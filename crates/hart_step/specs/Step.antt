-- One step of a hart: the effect of the word at its pc, and what the hart tells of it (RISC-V Unprivileged ISA 20191213, section 1.6; the gates are this project's own).
use Rattle.std.specs.Prelude.{ℕ, Bool, true, false}
use Rattle.spec_base.specs.Layout.{stub_start}
use Rattle.spec_base.specs.declared.machine.Trap.TheVariants as trap
use Rattle.spec_base.specs.declared.machine.View.TheVariants as view
use Rattle.rv_decode.specs.declared.instr.Instr.{Instr}
use Rattle.rv_decode.specs.declared.instr.Instr.TheVariants.{Hgate, Hleave, Hsite, Hkey, Hstop, Hrestart, Hcall, Hpark}
use Rattle.rv_model.specs.Registers.{with_reg}
use Rattle.rv_model.specs.Rights.{rights_of}
use Rattle.rv_model.specs.Effect.{Effect, Next, Stored, Trapped, Called, Gated, after, effect}
use Rattle.rv_model.specs.Space.{Space, sees, stored_in, effect_at}
use Rattle.hart_step.specs.Core.{Core}
use Rattle.hart_step.specs.declared.event.Event.{Event}
use Rattle.hart_step.specs.declared.event.Event.TheVariants as event

-- what a step tells, and the hart and the memory after it
pub record Outcome : Type 0 where
  pub event : Event
  pub core : Core
  pub space : Space

abbrev pub outcome : Event → Core → Space → Outcome
outcome e c s = record { event = e; core = c; space = s }

-- a hart at the following instruction
abbrev pub gone_on : Core → Core
gone_on c = record c { pc = after c.pc }

-- a store wants a frame that isn't there, and nothing changes; else it is made
abbrev pub store_outcome : Bool → Core → Space → ℕ → ℕ → ℕ → Outcome
store_outcome true c s a width v = outcome event.NoMemory c s
store_outcome false c s a width v = outcome event.Done (gone_on c) (stored_in c.view s a width v)

-- HGATE keeps the pc as the site and enters the stub, and HLEAVE goes back after the site. HKEY and HCALL are left to whoever steps the hart
abbrev pub gate_outcome : Instr → Core → Space → Outcome
gate_outcome Hgate c s = outcome event.Gate (record c { pc = stub_start; view = view.Stub; site = c.pc }) s
gate_outcome Hleave c s = outcome event.Leave (record c { pc = after c.site; view = view.Program }) s
gate_outcome (Hsite rd) c s = outcome event.Done (record (gone_on c) { registers = with_reg c.registers rd c.site }) s
gate_outcome (Hkey rd) c s = outcome (event.Key rd) c s
gate_outcome Hstop c s = outcome event.Stop (gone_on c) s
gate_outcome Hrestart c s = outcome event.Restart (gone_on c) s
gate_outcome (Hcall unhinted) c s = outcome (event.Call unhinted) c s
gate_outcome (Hpark cause) c s = outcome (event.Park cause) (gone_on c) s
gate_outcome other c s = outcome (event.Trap trap.Illegal) c s

-- the outcome of an effect; a test says which stores, by their addresses, want a frame that isn't there
abbrev pub stepped : (ℕ → Bool) → Effect → Core → Space → Outcome
stepped lacks (Next rs pc) c s = outcome event.Done (record c { registers = rs; pc = pc }) s
stepped lacks (Stored a width v) c s = store_outcome (lacks a) c s a width v
stepped lacks (Trapped t) c s = outcome (event.Trap t) c s
stepped lacks Called c s = outcome event.Ecall c s
stepped lacks (Gated gate) c s = gate_outcome gate c s

-- the effect of an instruction on a hart
abbrev pub effect_of : Core → Space → Instr → Effect
effect_of c s i = effect c.view (rights_of c.view s.layout) (sees c.view s) c.registers c.pc i

-- the effect of the word at the pc of a hart
abbrev pub effect_here : Core → Space → Effect
effect_here c s = effect_at c.view s c.registers c.pc
