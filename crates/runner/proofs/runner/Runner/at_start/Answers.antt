use Rattle.std.proofs.Common.{[], inl, refl, sym, ap, subst}
use Rattle.run_model.specs.Moves.{run_from}
use Rattle.program_model.specs.Descriptors.{Descriptors}
use Rattle.cache_queue.specs.State.{CacheState, lists}
use Rattle.cache_queue.specs.Finishes.{TrueTo}
use Rattle.hart_step.specs.Core.{Core}
use Rattle.mark_laws.specs.Sizes.{TrueSizes}
use Rattle.mark_laws.proofs.Sizes.{sizes_are_true}
use Rattle.runner.proofs.runner.Runner.at_start.Goals as goal

pub returns-clause-shows : goal.returns-clause-shows
unfolding run_from
returns-clause-shows c = λ w a first. record {
  space = first.space_is;
  own = record { hart = first.hart; side = refl; files_are = first.files_are; asked_is = refl; stalled_is = refl; gathered_is = refl };
  shadow = record {
    view = ap (λ (k : Core). k.view) c.new-shadow.ensures;
    registers = ap (λ (k : Core). k.registers) c.new-shadow.ensures;
    pc = ap (λ (k : Core). k.pc) c.new-shadow.ensures;
    files_are = first.files_are;
    state_is = refl;
  };
  sizes = subst (λ (f : Descriptors). TrueSizes w.files f) (sym first.files_are) (sizes_are_true w a []).own;
  cache = record {
    lists_are = ap lists c.requires.empty;
    most = ap (λ (k : CacheState). k.blocks.most) c.requires.empty;
    depth = ap (λ (k : CacheState). k.depth) c.requires.empty;
    contents = subst (λ (k : CacheState). TrueTo w.files k.blocks) (sym c.requires.empty) (λ spot. tt);
    gathers = inl (record { none = refl; goes = refl; undemanded = refl });
  };
  counts = c.new-counts.ensures;
  ahead = refl;
  whole = refl;
  end = refl;
  notes = c.new-notes.ensures;
  text = refl;
}
