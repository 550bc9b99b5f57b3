use Rattle.std.proofs.Common.{rules, is_ok, ap, ◌∙◌}
use Rattle.std.proofs.lemmas.List.Elements.{All-rest}
use Rattle.elf_writer.specs.Headers.{entry_bytes}
use Rattle.elf_writer.specs.RewrittenFile.{IsShort}
use Rattle.elf_writer.proofs.StreamLemmas.{start-Toward}
use Rattle.elf_writer.proofs.FileLemmas.{entry-Toward, stop_entry-Toward, end-near, short-first}
use Rattle.elf_writer.proofs.table.give_entries.Goals as goal

pub loop-index-init : goal.loop-index-init
loop-index-init g c = record { toward = start-Toward _ _ _ _; size = search rules; near = search rules; short = c.requires.short }

pub returns-in_err-give-clause-gives : goal.returns-in_err-give-clause-gives
returns-in_err-give-clause-gives g c =
    stop_entry-Toward _ _ _ _ _ _ _ _ _ _ _ _ _ _ c.loop-index.invariant.toward c.loop-index.invariant.size c.part_at-part.ensures
    (c.as_slice.ensures ∙ c.fields.ensures ∙ ap entry_bytes c.of_part-entry.ensures) c.in_err-give.ensures.gives (is_ok c.from_residual.result) (search rules)

pub end-cursor-requires-clause-short : goal.end-cursor-requires-clause-short
end-cursor-requires-clause-short g c = short-first _ _ _ c.loop-index.invariant.short c.part_at-part.ensures

pub loop-index-preserved : goal.loop-index-preserved
loop-index-preserved g c = record {
  toward = entry-Toward _ _ _ _ _ _ _ _ _ _ _ _ _ _ _ c.loop-index.invariant.toward c.loop-index.invariant.size c.part_at-part.ensures
      (c.as_slice.ensures ∙ c.fields.ensures ∙ ap entry_bytes c.of_part-entry.ensures) c.end-cursor.ensures c.in_ok-give.ensures.gives;
  size = search rules;
  near = rw c.end-cursor.ensures (end-near c.loop-index.cursor c.loop-index.index c.part_at-part.result (short-first _ _ _ c.loop-index.invariant.short c.part_at-part.ensures) c.loop-index.invariant.near);
  short = All-rest IsShort _ _ _ c.part_at-part.ensures c.loop-index.invariant.short;
}
