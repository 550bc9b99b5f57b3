use Rattle.std.proofs.Common.{Bool, suc}
use Rattle.spec_base.specs.Listed.{is_listed}
use Rattle.hart_step.specs.Core.{core_of}
use Rattle.use_marks.specs.Marked.{marks_of}
use Rattle.program_driver.proofs.Using.{sees, touches, reads, does-some}
use Rattle.program_driver.proofs.uses.UseTrace.passage.Goals as goal

pub returns : goal.returns
returns c w r shows keeps instr s done =
    let filled : Bool = is_listed r.since.filled (suc r.since.own) in
    let i = c.args.instr.now in
    let core = core_of c.own.result.now in
    let mem = c.mem.result.now in
    let hart = c.own.ensures w r shows in
    let space = c.mem.ensures w r shows in
    let read = reads w r s done core mem hart space i filled c.instr_read-read.result instr (c.instr_read-read.ensures w r shows keeps) in
    let there = sees w r s done core mem hart space i in
    does-some w r s done core mem hart space i (marks_of c.args.self.now.marks) c.look.result instr
    (c.look.ensures.used w.image.layout s there)
    (c.look.ensures.change w.image.layout filled s there read)
    (c.look.ensures.fits w.image.layout filled s (touches w r s done core mem hart space i instr) read)
