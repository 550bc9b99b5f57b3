use Rattle.std.proofs.Common.{map, string_bytes}
use Rattle.run_model.specs.Run.{World}
use Rattle.run_model.specs.Moves.{run_from}
use Rattle.elf_image.specs.Recovery.{carried}
use Rattle.file_world.specs.Promises.{world_again}
use Rattle.run_loader.proofs.Undamaged.{undamaged-front}
use Rattle.runner.proofs.runner.Runner.open.Goals as goal

pub returns-in-Ok-new-clause-answer : goal.returns-in-Ok-new-clause-answer
unfolding run_from
returns-in-Ok-new-clause-answer c = (
  c.in-Ok.ensures.answer.0,
  λ files are.
      let w : World = world_again c.args.file.now (carried c.args.file.now) (map string_bytes c.args.arguments.now) files in
      let first = c.in-Ok.ensures.answer.1 files in
      let accepted = c.in-Ok.ensures.laws files are in
      record {
        accepted = accepted;
        shows = c.in-Ok-new.ensures.shows w accepted (record { hart = first.own.hart; space_is = first.own.space; files_are = first.files });
      },
)

pub returns-in-Err-new-clause-answer : goal.returns-in-Err-new-clause-answer
returns-in-Err-new-clause-answer c = undamaged-front c.args.file.now c.in-Ok.ensures.answer.0
