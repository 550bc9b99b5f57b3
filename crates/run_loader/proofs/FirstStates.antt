-- The first state of a run, from the parts of its program that were loaded.
use Rattle.std.proofs.Common.{◌≡◌, ℕ, ◌-◌, ◌*◌, List, length, map, refl, sym, ap, subst, ◌∙◌}
use Rattle.std.proofs.lemmas.List.{length-map}
use Rattle.spec_base.specs.Files.{Files}
use Rattle.rv_model.specs.Memory.{zeros}
use Rattle.program_model.specs.Loading.{start_memory}
use Rattle.run_model.specs.Run.{World, opened_run}
use Rattle.machine_laws.specs.OneMachine.{space_of_run}
use Rattle.elf_image.specs.declared.recovery.Recovered.{Recovered}
use Rattle.elf_image.specs.Image.{text_words}
use Rattle.elf_image.specs.Recovery.{IsRecovered}
use Rattle.elf_writer.specs.declared.source.Parts.{Parts}
use Rattle.elf_writer.specs.ProgramCode.{code_of_text, ungated_word}
use Rattle.elf_writer.specs.RewrittenFile.{Code, IsCodeOf}
use Rattle.elf_writer.specs.Writing.{listed}
use Rattle.elf_writer.proofs.Rewritable.{code_of_text-IsCodeOf, text_words-length}
use Rattle.rewriter.proofs.TextLemmas.{text_words-whole}
use Rattle.file_world.specs.Promises.{world_again}
use Rattle.file_world.proofs.Disk.{HoldsCode, holds-same}
use Rattle.run_loader.specs.declared.opening.Opened.{Opened}
use Rattle.run_loader.specs.Loading.{carried_in, executable_from, loaded_space, Loads}
use Rattle.run_loader.specs.Opening.{ShowsFirst, OpensRecovered}

-- ---- parts that can be loaded

-- the code of parts is that of the text that their image has in a rewritten file
abbrev pub IsCodeAgain : List ℕ → Parts → Type 0
IsCodeAgain bytes parts = listed parts ≡ code_of_text parts.layout (map ungated_word (text_words bytes parts.image))

pub code-again : (bytes : List ℕ) (parts : Parts) → IsRecovered bytes (carried_in parts) → IsCodeAgain bytes parts → IsCodeOf parts.layout (listed parts)
code-again bytes parts h code =
    subst (λ (c : Code). IsCodeOf parts.layout c) (sym code)
    (code_of_text-IsCodeOf parts.layout (map ungated_word (text_words bytes parts.image))
    (length-map (text_words bytes parts.image) ungated_word ∙ text_words-length bytes parts.image parts.layout h.image h.text_start h.text_end))

-- the text is made of words
pub words-whole : (bytes : List ℕ) (r : Recovered) → IsRecovered bytes r
    → 4 * length (map ungated_word (text_words bytes r.image)) ≡ r.layout.text_end - r.layout.text_start
words-whole bytes r h =
    ap (λ n. 4 * n) (length-map (text_words bytes r.image) ungated_word) ∙ text_words-whole bytes r.layout.version r.image h.image
    ∙ (λ i. sym h.text_end i - sym h.text_start i)

-- ---- what was loaded

module _ (bytes : List ℕ) (parts : Parts) (arguments : List (List ℕ)) (files : Files) where
  abbrev w : World
  w = world_again bytes (carried_in parts) arguments files

  -- the memory of the run before its first move
  space-first : HoldsCode w (opened_run w) (listed parts) → loaded_space bytes parts arguments ≡ space_of_run w (opened_run w)
  unfolding space_of_run
  space-first code = λ i. record {
    layout = parts.layout;
    text = code.text i;
    shadow = code.shadow i;
    helpers = code.helpers i;
    stub = code.stub i;
    program = start_memory (executable_from bytes parts) arguments;
    shared = zeros;
    stub_page = zeros;
    shadow_page = zeros;
  }

  pub shows-first : (opened : Opened) → Loads bytes parts arguments opened → IsCodeAgain bytes parts → ShowsFirst w opened
  shows-first opened h code =
      record {
        own = record { view = refl; hart = h.hart; space = h.space ∙ space-first (holds-same w (opened_run w) (listed parts) (sym code)) };
        files = h.files;
        layout = h.layout;
      }

pub opens-recovered : (bytes : List ℕ) (parts : Parts) (r : Recovered) (arguments : List (List ℕ)) (opened : Opened) → Loads bytes parts arguments opened
    → carried_in parts ≡ r → IsCodeAgain bytes parts → OpensRecovered bytes r arguments opened
opens-recovered bytes parts r arguments opened h carries code files =
    subst (λ (q : Recovered). ShowsFirst (world_again bytes q arguments files) opened) carries (shows-first bytes parts arguments files opened h code)
