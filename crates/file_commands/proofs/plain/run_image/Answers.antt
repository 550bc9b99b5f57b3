use Rattle.std.proofs.Common.{inr, subst}
use Rattle.hart_mem.specs.Held.{space_of}
use Rattle.hart_step.specs.Core.{core_of}
use Rattle.program_loader.specs.Programs.{program_of}
use Rattle.plain_runner.specs.Turns.{IsStart}
use Rattle.file_commands.specs.Plain.{asked_program}
use Rattle.file_commands.proofs.plain.run_image.Goals as goal

pub returns : goal.returns
returns g c =
    let request = c.args.request.now in
    let process = c.in-Ok.process in
    let start = subst (λ arguments. IsStart (program_of request.options.layout c.args.bytes.now c.args.image.now arguments) (core_of process.hart) (space_of process.mem) process.files)
    c.as_slice-arguments.ensures c.in-Ok.ensures in
    inr (record {
      end = c.run-ending.result;
      gives = c.status_of.ensures;
      core = core_of c.run-ending.new.hart;
      space = space_of c.run-ending.new.mem;
      files = c.run-ending.new.files;
      runs = c.run-ending.ensures (asked_program request c.args.bytes.now c.args.image.now) start;
    })
