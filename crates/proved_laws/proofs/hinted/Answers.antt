use Rattle.run_laws.proofs.Premises.{hints_are_met}
use Rattle.shadow_laws.proofs.ShadowRuns.{words_bounded}
use Rattle.mark_laws.proofs.Horizons.{use_is_after_horizon}
use Rattle.hint_laws.proofs.EachRun.{hints_are_reads, shadow_follows, hints_until_use}
use Rattle.proved_laws.proofs.hinted.Goals as goal

pub returns : goal.returns
returns c = record { hints = hints_are_reads; words = words_bounded; follows = shadow_follows; until_use = hints_until_use; after_horizon = use_is_after_horizon; met = hints_are_met }
