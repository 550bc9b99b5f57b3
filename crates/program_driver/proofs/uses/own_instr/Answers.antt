use Rattle.std.proofs.Common.{◌∙◌, ap, sym}
use Rattle.spec_base.specs.declared.machine.View.TheVariants.{Program, Stub}
use Rattle.machine_laws.proofs.Fetches.{fetches_same}
use Rattle.machine_laws.specs.OneMachine.{instr_in, space_of_run}
use Rattle.use_marks.specs.Along.{call_at, own_instr_in}
use Rattle.program_driver.proofs.uses.own_instr.Goals as goal

pub returns-in-Program : goal.returns-in-Program
returns-in-Program c w r acc shows =
    let hart = c.own-own.ensures w r shows in
    let pc = c.pc.ensures ∙ ap (λ h. h.pc) hart in
    let view = sym (sym c.in-Program.is ∙ c.view.ensures ∙ ap (λ h. h.view) hart) in
    c.instr_at.ensures ∙ ap (λ s. instr_in Program s c.pc.result) (c.mem.ensures w r shows) ∙ ap (λ p. instr_in Program (space_of_run w r) p) pc ∙ sym (fetches_same w acc r r.own.pc).program
    ∙ ap (λ v. own_instr_in v w r) (sym view)

pub returns-in-Stub : goal.returns-in-Stub
returns-in-Stub c w r acc shows =
    let hart = c.own-own.ensures w r shows in
    let pc = c.pc-in-Stub.ensures ∙ ap (λ h. h.pc) hart in
    let view = sym (sym c.in-Stub.is ∙ c.view.ensures ∙ ap (λ h. h.view) hart) in
    c.call_at.ensures
    ∙ ap call_at (c.instr_at-in-Stub.ensures ∙ ap (λ s. instr_in Stub s c.pc-in-Stub.result) (c.mem-in-Stub.ensures w r shows) ∙ ap (λ p. instr_in Stub (space_of_run w r) p) pc ∙ sym (fetches_same w acc r r.own.pc).stub)
    ∙ ap (λ v. own_instr_in v w r) (sym view)
