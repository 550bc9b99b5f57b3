-- The program that a rewritten file carries is the original with 0 for words of the gates' opcode, and its runs keep the promises of the original's.
use Rattle.std.proofs.Common.{◌≡◌, ℕ, ◌+◌, ◌*◌, ◌^◌, ◌<◌, ◌≤◌, false, List, [], ◌∷◌, length, map, Ok, None, refl, sym, ap, subst, ◌∙◌, arith}
use Rattle.std.specs.Prelude.{All, IsTrue}
use Rattle.std.proofs.lemmas.List.{length-map}
use Rattle.spec_base.specs.Files.{Files}
use Rattle.spec_base.specs.Layout.{image_limit}
use Rattle.spec_base.specs.declared.layout.Layout.{Layout}
use Rattle.spec_base.specs.declared.layout.Version.{Version}
use Rattle.rv_model.specs.Memory.{Memory, zeros, written}
use Rattle.rv_model.specs.Rights.{in_text}
use Rattle.rv_model.specs.Registers.{with_reg, all_zero}
use Rattle.program_model.specs.Descriptors.{start_of}
use Rattle.program_model.specs.PlainRun.{Image as Program, State, Taken}
use Rattle.program_model.specs.Loading.{data_of, with_parts, argument_bytes, bytes_of_words, arguments_start, stack_start, stack_words, nothing_put}
use Rattle.program_loader.specs.Programs.{part_of}
use Rattle.elf_image.specs.declared.image.Image.{Image}
use Rattle.elf_writer.specs.FileParts.{body_start}
use Rattle.rewriter.specs.Layouts.{layout_of, rewritten}
use Rattle.elf_image.specs.Image.{text_words}
use Rattle.elf_writer.specs.RewrittenFile.{Code}
use Rattle.elf_writer.specs.ProgramCode.{code_of_text}
use Rattle.run_model.specs.Run.{World, Run}
use Rattle.run_model.specs.Moves.{Moves, run}
use Rattle.run_laws.specs.OwnLaws.{Accepted}
use Rattle.recovery_laws.specs.Texts.{harmless_word}
use Rattle.recovery_laws.specs.Moved.{moved_segments, moved_image}
use Rattle.recovery_laws.specs.ReadBack.{carried_of}
use Rattle.recovery_laws.proofs.ReadBack.{is-read_back, IsPutBack, is-put_back, harmless-below, loads, as-many}
use Rattle.recovery_laws.proofs.TextLaws.{code-stays}
use Rattle.file_world.specs.Worlds.{opened, opened_again, program_in, world_of, plain_world}
use Rattle.file_world.specs.Promises.{IsRunnable, KeepsPromises, SamePlain, RunsLoadedCode, RunsAsPlain, RewrittenRunsAsPlain}
use Rattle.file_world.proofs.Loaded.{files_are_accepted}
use Rattle.file_world.proofs.Kept.{promises-kept}
use Rattle.file_world.proofs.Unseen.{after-unseen, end-unseen}
use Rattle.file_world.proofs.Disk.{has-bits, runs-loaded}
use Rattle.file_world.proofs.SamePlain.{harmless, after-harmless, end-harmless, parts-outside, data-same}

-- where the words of the gates' opcode are 0, the world is accepted too
harmless-accepted : (p : Program) (files : Files) → Accepted (record { image = p; files = files }) → Accepted (record { image = harmless p; files = files })
harmless-accepted p files h = record {
  lawful = h.lawful;
  text = h.text ∙ ap (λ n. p.layout.text_start + 4 * n) (sym (length-map p.words harmless_word));
  words = harmless-below p.words h.words;
  registers = h.registers;
  memory = h.memory;
  files = h.files;
  descriptors = h.descriptors;
  fresh = h.fresh;
  silent = h.silent;
}

module _ (bytes : List ℕ) (image : Image) (regions : ℕ) (version : Version) (arguments : List (List ℕ)) (files : Files)
    (h : IsRunnable bytes image regions version arguments files) where
  abbrev l : Layout
  l = layout_of image regions version

  abbrev file : List ℕ
  file = rewritten bytes image regions version

  abbrev program : Program
  program = program_in bytes (opened bytes image regions version) arguments

  back : IsPutBack bytes image regions version
  back = is-put_back bytes image regions version h.are_bytes h.accepted h.some_regions h.few_regions

  -- the state that a program starts in, by its memory of data
  abbrev start_over : Memory → State
  start_over m = record {
    registers = with_reg all_zero 2 (stack_start l arguments);
    pc = image.entry;
    memory = written (written m (arguments_start l arguments) (argument_bytes arguments)) (stack_start l arguments) (bytes_of_words (stack_words l arguments));
    files = start_of image.break_start (image_limit version);
    out = nothing_put;
    err = nothing_put;
    calls = [];
    exited = None;
  }

  same_data : data_of l (with_parts zeros (map (part_of (rewritten bytes image regions version)) (moved_image image).segments))
      ≡ data_of l (with_parts zeros (map (part_of bytes) image.segments))
  same_data =
      data-same l (with_parts zeros (map (part_of bytes) image.segments)) (with_parts zeros (map (part_of file) (moved_image image).segments))
      (parts-outside bytes image back.words file back.has_words image.segments (body_start image) zeros zeros back.placed back.segments (λ a out. refl))

  program-is : program_in file (opened_again file (carried_of image regions version)) arguments ≡ harmless program
  program-is = λ i. record {
    layout = l;
    words = (is-read_back bytes image regions version h.are_bytes h.accepted h.some_regions h.few_regions).words i;
    start = start_over (same_data i);
  }

  plain-same : SamePlain (plain_world bytes image version arguments files) (record { image = harmless program; files = files })
  plain-same =
      let plain : Program = (plain_world bytes image version arguments files).image in
      record {
        state = λ t n. after-harmless program files t program.start n ∙ after-unseen plain regions files t plain.start n;
        end = λ t s. end-harmless program files t s ∙ end-unseen plain regions files t s;
      }

  accepted : Accepted (record { image = harmless program; files = files })
  accepted = harmless-accepted program files (files_are_accepted bytes image regions version arguments files h)

  kept : (ms : Moves) → KeepsPromises (plain_world bytes image version arguments files) (record { image = harmless program; files = files }) ms
  kept ms =
      promises-kept (plain_world bytes image version arguments files) (record { image = harmless program; files = files }) ms
      accepted plain-same

  same-code : code_of_text l (map harmless_word (text_words bytes image)) ≡ code_of_text l (text_words bytes image)
  same-code = code-stays l (text_words bytes image)

  loaded : (r : Run) → RunsLoadedCode file (record { image = harmless program; files = files }) r
  loaded r =
      let w : World = record { image = harmless program; files = files } in
      let code : Code = code_of_text l (text_words bytes image) in
      runs-loaded file w r code accepted same-code
      (length-map (text_words bytes image) harmless_word ∙ as-many bytes image regions version h.are_bytes h.accepted h.some_regions h.few_regions)
      (loads bytes image regions version h.are_bytes h.accepted h.some_regions h.few_regions (has-bits w r code accepted same-code))

  pub runs-as_plain : RunsAsPlain bytes image regions version arguments files
  runs-as_plain = record {
    carries = carried_of image regions version;
    recovers = (is-read_back bytes image regions version h.are_bytes h.accepted h.some_regions h.few_regions).carries;
    accepted = subst (λ (p : Program). Accepted (record { image = p; files = files })) (sym program-is) accepted;
    plain = subst (λ (p : Program). SamePlain (plain_world bytes image version arguments files) (record { image = p; files = files })) (sym program-is) plain-same;
    code = λ r. subst (λ (p : Program). RunsLoadedCode file (record { image = p; files = files }) r) (sym program-is) (loaded r);
    promises = λ ms. subst (λ (p : Program). KeepsPromises (plain_world bytes image version arguments files) (record { image = p; files = files }) ms) (sym program-is) (kept ms);
  }

pub rewritten_runs_as_plain : RewrittenRunsAsPlain
rewritten_runs_as_plain bytes image regions version arguments files h = runs-as_plain bytes image regions version arguments files h
