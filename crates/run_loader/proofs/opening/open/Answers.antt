use Rattle.std.proofs.Common.{◌<◌, map, string_bytes, subst, arith}
use Rattle.std.proofs.lemmas.List.Elements.{All-from_get_or}
use Rattle.elf_image.specs.declared.recovery.Recovered.{Recovered}
use Rattle.run_loader.specs.Opening.{OpensRecovered}
use Rattle.run_loader.proofs.Undamaged.{undamaged, undamaged-front, recovered-is, laws-hold}
use Rattle.run_loader.proofs.Texts.{arguments-bytes}
use Rattle.run_loader.proofs.opening.open.Goals as goal

pub load_again-requires-clause-recovered : goal.load_again-requires-clause-recovered
load_again-requires-clause-recovered c = recovered-is c.args.file.now c.in-Ok.recovered c.in-Ok.ensures

pub returns-in-Ok-load_again-clause-answer : goal.returns-in-Ok-load_again-clause-answer
returns-in-Ok-load_again-clause-answer c =
    let there = undamaged c.args.file.now c.in-Ok.recovered c.in-Ok.ensures in (
      there.0,
      subst (λ (r : Recovered). OpensRecovered c.args.file.now r (map string_bytes c.args.arguments.now) c.in-Ok-load_again.opened) there.1 c.in-Ok-load_again.ensures,
    )

pub returns-in-Err-clause-answer : goal.returns-in-Err-clause-answer
returns-in-Err-clause-answer c = undamaged-front c.args.file.now (undamaged c.args.file.now c.in-Ok.recovered c.in-Ok.ensures).0

pub returns-in-Ok-load_again-clause-laws : goal.returns-in-Ok-load_again-clause-laws
returns-in-Ok-load_again-clause-laws c =
    laws-hold c.args.file.now (map string_bytes c.args.arguments.now)
    (All-from_get_or (λ b. b < 256) c.args.file.now 0 (λ i below. omega (arith, c.type_inv.file i)))
    (arguments-bytes c.args.arguments.now) (undamaged c.args.file.now c.in-Ok.recovered c.in-Ok.ensures).0
