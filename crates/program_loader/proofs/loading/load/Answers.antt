use Rattle.std.proofs.Common.{length, map, string_bytes, IsTrue, ap, sym, ◌∙◌, subst, lit≤}
use Rattle.std.proofs.lemmas.Result.{IfOk-weaker}
use Rattle.spec_base.specs.Layout.{is_lawful}
use Rattle.spec_base.specs.declared.layout.Layout.{Layout}
use Rattle.spec_base.specs.declared.machine.View.TheVariants.{Plain}
use Rattle.program_model.specs.Loading.{Executable, loaded_image}
use Rattle.elf_image.specs.Image.{IsImage}
use Rattle.hart_mem.specs.Held.{space_of, text_words as words_of_text}
use Rattle.hart_step.specs.Core.{core_of}
use Rattle.plain_runner.specs.Turns.{IsStart}
use Rattle.program_loader.specs.declared.loading.Process.{Process}
use Rattle.program_loader.specs.Programs.{executable_in, IsLoaded}
use Rattle.program_loader.proofs.StartLemmas.{text-count, starts}
use Rattle.program_loader.proofs.loading.load.Goals as goal

pub load_in-requires-clause-image : goal.load_in-requires-clause-image
load_in-requires-clause-image c =
    subst (λ (l : Layout). IsImage c.args.bytes.now l.version c.args.image.now) (sym c.plain_layout-layout.ensures) c.requires.image

pub load_in-requires-clause-lawful : goal.load_in-requires-clause-lawful
load_in-requires-clause-lawful c =
    subst (λ (l : Layout). IsTrue (is_lawful l)) (sym c.plain_layout-layout.ensures) (c.requires.image.lawful 1 (lit≤ tt) (lit≤ tt))

pub load_in-requires-clause-words : goal.load_in-requires-clause-words
load_in-requires-clause-words c =
    let count = ap length c.in_ok-words.ensures ∙ text-count c.args.bytes.now c.args.image.now c.requires.image.text.code c.requires.image.text.code_is in
    c.in_ok-words.words.ok.0 ∙ (count ∙ ap words_of_text (sym c.plain_layout-layout.ensures))

pub returns : goal.returns
returns c =
    let bytes = c.args.bytes.now in
    let image = c.args.image.now in
    let arguments = map string_bytes c.args.arguments.now in
    let made : Executable = executable_in c.plain_layout-layout.result c.in_ok-words.words.items bytes image in
    IfOk-weaker c.load_in.result (λ (p : Process). IsLoaded made arguments Plain (core_of p.hart) (space_of p.mem) p.files) _
    (λ (p : Process) loaded.
    subst (λ (e : Executable). IsStart (loaded_image e arguments) (core_of p.hart) (space_of p.mem) p.files)
    (λ i. executable_in (c.plain_layout-layout.ensures i) (c.in_ok-words.ensures i) bytes image)
    (starts made arguments (core_of p.hart) (space_of p.mem) p.files loaded))
    c.load_in.ensures
