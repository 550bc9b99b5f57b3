use Rattle.std.proofs.Common.{◌∙◌, ap, sym, Some, suc}
use Rattle.spec_base.specs.Listed.{is_listed}
use Rattle.run_model.specs.Restarts.{instr_action}
use Rattle.use_marks.specs.Passing.{read_mark}
use Rattle.program_driver.proofs.CallReads.{no-call}
use Rattle.program_driver.proofs.uses.UseTrace.instr_read.Goals as goal

pub returns-in-Ecall : goal.returns-in-Ecall
returns-in-Ecall c w r shows keeps =
    c.call_read.ensures w r shows keeps ∙ ap (λ i. read_mark (is_listed r.since.filled (suc r.since.own)) (instr_action w.image.layout r.own (Some i))) (sym c.in-Ecall.is)

pub returns-in_default : goal.returns-in_default
returns-in_default c w r shows keeps = no-call (is_listed r.since.filled (suc r.since.own)) w.image.layout r.own c.args.instr.now c.in_default.not-Ecall
