use Rattle.std.proofs.Common.{map, string_bytes, sym, subst}
use Rattle.std.proofs.lemmas.Result.{IfOk-weaker}
use Rattle.elf_image.specs.declared.recovery.Recovered.{Recovered}
use Rattle.elf_image.specs.Recovery.{IsRecovered}
use Rattle.run_loader.specs.declared.opening.Opened.{Opened}
use Rattle.run_loader.specs.Loading.{Loads}
use Rattle.run_loader.proofs.FirstStates.{code-again, opens-recovered}
use Rattle.run_loader.proofs.opening.load_again.Goals as goal

pub load_parts-requires-clause-code : goal.load_parts-requires-clause-code
load_parts-requires-clause-code c =
    code-again c.args.bytes.now c.in_ok-parts.parts
    (subst (λ (r : Recovered). IsRecovered c.args.bytes.now r) (sym c.in_ok-parts.ensures.carries) c.requires.recovered) c.in_ok-parts.ensures.code

pub returns : goal.returns
returns c =
    let arguments = map string_bytes c.args.arguments.now in
    IfOk-weaker c.load_parts.result (λ (o : Opened). Loads c.args.bytes.now c.in_ok-parts.parts arguments o) _
    (λ (o : Opened) h. opens-recovered c.args.bytes.now c.in_ok-parts.parts c.args.recovered arguments o h c.in_ok-parts.ensures.carries c.in_ok-parts.ensures.code)
    c.load_parts.ensures
