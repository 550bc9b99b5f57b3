-- The code in a run's memory is that of its program's text, and so what the rewritten file loads.
use Rattle.std.proofs.Common.{◌≡◌, ℕ, ◌+◌, ◌*◌, ◌<◌, ◌^◌, List, [], ◌∷◌, ◌++◌, length, map, refl, sym, ap, subst, ◌∙◌}
use Rattle.std.specs.Prelude.{All}
use Rattle.std.specs.List.{flat_map}
use Rattle.std.proofs.lemmas.List.{length-map, map-append}
use Rattle.spec_base.specs.Layout.{shadow_start}
use Rattle.spec_base.specs.declared.layout.Layout.{Layout}
use Rattle.rv_decode.specs.Encoding.{word_of}
use Rattle.rv_decode.specs.Instruction.{instr_of}
use Rattle.code_model.specs.Blocks.{blocks_from}
use Rattle.rv_decode.specs.declared.instr.Instr.{Instr}
use Rattle.elf_writer.specs.FileParts.{text_count}
use Rattle.elf_writer.specs.RewrittenFile.{Code}
use Rattle.elf_writer.specs.ProgramCode.{code_of_text, shadow_words}
use Rattle.run_model.specs.Run.{World, Run}
use Rattle.run_laws.specs.OwnLaws.{Accepted}
use Rattle.machine_laws.specs.OneMachine.{space_of_run, CodeIsWords, FetchesSame, HasCode}
use Rattle.machine_laws.proofs.Fetches.{code_is_words, fetches_same}
use Rattle.recovery_laws.specs.OnDisk.{loaded_words, LoadsCode}
use Rattle.recovery_laws.proofs.OnDisk.{HasBits}
use Rattle.file_world.specs.Promises.{RunsLoadedCode}

-- words of blocks, one after another
joined-words : (blocks : List (List Instr)) → flat_map (map word_of) blocks ≡ map word_of (flat_map (λ block. block) blocks)
joined-words [] = refl
joined-words (b ∷ blocks) = ap (λ w. map word_of b ++ w) (joined-words blocks) ∙ sym (map-append word_of b (flat_map (λ block. block) blocks))

-- the code of a program's text is what its run's memory has
pub record HoldsCode (w : World) (r : Run) (code : Code) : Type 0 where
  pub text : code.text ≡ (space_of_run w r).text
  pub shadow : code.shadow ≡ (space_of_run w r).shadow
  pub helpers : code.helpers ≡ (space_of_run w r).helpers
  pub stub : code.stub ≡ (space_of_run w r).stub

holds-code : (w : World) (r : Run) → HoldsCode w r (code_of_text w.image.layout w.image.words)
unfolding code_of_text shadow_words space_of_run
holds-code w r = record { text = refl; shadow = joined-words (blocks_from w.image.layout w.image.layout.text_start (map instr_of w.image.words)); helpers = refl; stub = refl }

pub holds-same : (w : World) (r : Run) (code : Code) → code_of_text w.image.layout w.image.words ≡ code → HoldsCode w r code
holds-same w r code e = subst (λ (c : Code). HoldsCode w r c) e (holds-code w r)

-- its words have 32 bits
pub has-bits : (w : World) (r : Run) (code : Code) → Accepted w → code_of_text w.image.layout w.image.words ≡ code → HasBits code
has-bits w r code h e =
    let there = holds-same w r code e in
    let bits = code_is_words w h r in
    record {
      shadow = subst (All (λ x. x < 2 ^ 32)) (sym there.shadow) bits.shadow.bits;
      helpers = subst (All (λ x. x < 2 ^ 32)) (sym there.helpers) bits.helpers.bits;
      stub = subst (All (λ x. x < 2 ^ 32)) (sym there.stub) bits.stub.bits;
    }

pub runs-loaded : (file : List ℕ) (w : World) (r : Run) (code : Code) → Accepted w → code_of_text w.image.layout w.image.words ≡ code
    → length w.image.words ≡ text_count w.image.layout → LoadsCode file w.image.layout code → RunsLoadedCode file w r
runs-loaded file w r code h e long loads =
    let there = holds-same w r code e in
    record {
      text = ap (loaded_words file w.image.layout.text_start) long ∙ loads.text ∙ there.text;
      shadow = ap (λ n. loaded_words file shadow_start (16 * (n + 1))) long ∙ loads.shadow ∙ there.shadow;
      helpers = loads.helpers ∙ there.helpers;
      stub = loads.stub ∙ there.stub;
      fetches = λ pc. fetches_same w h r pc;
    }
