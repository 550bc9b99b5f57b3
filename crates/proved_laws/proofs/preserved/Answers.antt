use Rattle.own_laws.proofs.HeldRuns.{stub_stops_first, restart_has_box}
use Rattle.own_laws.proofs.InvisibleShadow.{shadow_is_invisible}
use Rattle.own_laws.proofs.OneCall.{leaves_with_one_call}
use Rattle.own_laws.proofs.OwnLaws.{preserves, own_follows}
use Rattle.own_laws.proofs.Passage.{stub_keeps_log, stub_takes_oldest}
use Rattle.own_laws.proofs.Progress.{progresses}
use Rattle.own_laws.proofs.Rounds.{rounds_progress}
use Rattle.own_laws.proofs.StubEnds.{stub_words_complete, stub_ends_at_call}
use Rattle.shadow_laws.proofs.Boxes.{box_is_kept}
use Rattle.shadow_laws.proofs.CallLog.{call_appends}
use Rattle.shadow_laws.proofs.LogRuns.{shadow_appends, log_is_kept}
use Rattle.shadow_laws.proofs.Queues.{log_is_queue, emptying_leaves_tail}
use Rattle.shadow_laws.proofs.ShadowNumbers.{runs_are_sized}
use Rattle.shadow_laws.proofs.ShadowRuns.{regions_bounded, tables_consistent}
use Rattle.shadow_laws.proofs.SoundWords.{no_word_traps}
use Rattle.proved_laws.proofs.preserved.Goals as goal

pub returns : goal.returns
returns c =
    record {
      preservation = preserves;
      invisible = shadow_is_invisible;
      regions = regions_bounded;
      progress = progresses;
      rounds = rounds_progress;
      own_follows = own_follows;
      one_call = leaves_with_one_call;
      stub_completes = stub_words_complete;
      stub_ends = stub_ends_at_call;
      log = stub_keeps_log;
      takes = stub_takes_oldest;
      stops_first = stub_stops_first;
      restart = restart_has_box;
      sized = runs_are_sized;
      traps = no_word_traps;
      tables = tables_consistent;
      queue = log_is_queue;
      emptying = emptying_leaves_tail;
      appends = shadow_appends;
      passage = log_is_kept;
      call_appends = call_appends;
      box_kept = box_is_kept;
    }
