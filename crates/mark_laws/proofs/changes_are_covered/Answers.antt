use Rattle.mark_laws.proofs.Numbers.{sets_rest_on_numbers, horizon_rests_on_filled, restart_rests_on_origin}
use Rattle.mark_laws.proofs.Changes.{others_are_left, changes_are_covered}
use Rattle.mark_laws.proofs.OwnChanges.{own_changes_are_covered}
use Rattle.mark_laws.proofs.changes_are_covered.Goals as goal

pub returns : goal.returns
returns c = record { numbers = sets_rest_on_numbers; horizon = horizon_rests_on_filled; restart = restart_rests_on_origin; others = others_are_left; covered = changes_are_covered; own = own_changes_are_covered }
