use Rattle.mark_laws.proofs.Sizes.{plans_find_all, states_find_all, calls_keep_sizes, performed_keep_sizes, next_keeps_sizes, states_keep_sizes, sizes_are_true}
use Rattle.mark_laws.proofs.sizes_are_true.Goals as goal

pub returns : goal.returns
returns c =
    record {
      plans = plans_find_all;
      states = states_find_all;
      calls = calls_keep_sizes;
      performed = performed_keep_sizes;
      next = next_keeps_sizes;
      later = states_keep_sizes;
      runs = sizes_are_true;
    }
