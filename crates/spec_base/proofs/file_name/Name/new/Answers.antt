use Rattle.std.proofs.Common.{arith, rules, ap, length}
use Rattle.spec_base.proofs.PaddedLemmas.{filled-IsPadded}
use Rattle.spec_base.proofs.file_name.Name.new.Goals as goal

pub invariant_of-result : goal.invariant_of-result
invariant_of-result c = filled-IsPadded c.copy_from_slice.new.self _ (ap length c.copy_from_slice.ensures.after) (search rules) (omega arith)
