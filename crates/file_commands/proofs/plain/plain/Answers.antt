use Rattle.std.proofs.Common.{◌≡◌, inl, inr, Result, Ok, Err, refl, subst}
use Rattle.elf_image.specs.Profile.{profile, Answers}
use Rattle.elf_image.specs.declared.image.Image.{Image}
use Rattle.elf_image.specs.declared.image.ReadFault.TheVariants.{NoMemory}
use Rattle.elf_image.specs.declared.refusal.Refusal.{Refusal}
use Rattle.plain_runner.specs.Runs.{Outside}
use Rattle.file_commands.specs.Plain.{RunsImage}
use Rattle.file_commands.proofs.Outcomes.{ran-PlainTo}
use Rattle.file_commands.proofs.plain.plain.Goals as goal

-- memory is wanted for an accepted file alone
accepted_image : (v : Result Image Refusal) → Answers v (Err NoMemory) → (image : Image) × (v ≡ Ok image)
accepted_image (Ok image) h = (image, refl)
accepted_image (Err why) h = absurd h

pub returns-in-Err-NoMemory : goal.returns-in-Err-NoMemory
returns-in-Err-NoMemory g c =
    let answer = subst (λ e. Answers (profile c.deref.result.now c.args.request.now.options.layout) (Err e)) c.in-Err-NoMemory.field-0-is c.in-Err-NoMemory.ensures.answer in
    let image = accepted_image (profile c.deref.result.now c.args.request.now.options.layout) answer in
    let accepted = subst (λ items. profile items c.args.request.now.options.layout ≡ Ok image.0) c.deref.ensures.value image.1 in
    inl (inr (c.in-Ok.bytes.items, image.0, c.in-Ok.ensures.read, accepted, (refl, refl)))

pub returns : goal.returns
returns g c =
    let r = c.args.request.now in
    let bytes = c.in-Ok.bytes.items in
    let store = g.D.Store.state c.args.store.now in
    let between = g.D.Store.state c.read_file.new.store in
    let outside : Outside = record { store = store; out = g.O.Sink.state c.args.out.now; err = g.E.Sink.state c.args.err.now } in
    let after : Outside = record { store = g.D.Store.state c.run_image.new.store; out = g.O.Sink.state c.run_image.new.out; err = g.E.Sink.state c.run_image.new.err } in
    let accepted = subst (λ items. profile items r.options.layout ≡ Ok c.in-Ok-read_as.image) c.deref.ensures.value c.in-Ok-read_as.ensures.answer in
    let ran = subst (λ items. RunsImage r items c.in-Ok-read_as.image c.run_image.result (record outside { store = between }) after) c.deref-2.ensures.value c.run_image.ensures in
    ran-PlainTo r bytes c.in-Ok-read_as.image c.run_image.result outside after between c.in-Ok.ensures.read accepted ran
