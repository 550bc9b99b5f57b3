-- The run after a put of the own hart.
use Rattle.std.proofs.Common.{◌≡◌, ℕ, pos, Bool, true, false, inl, refl}
use Rattle.run_model.specs.Run.{World, Run}
use Rattle.run_model.specs.OwnMoves.{write_done}
use Rattle.machine_laws.specs.OneMachine.{space_of_run}
use Rattle.runner_parts.specs.OwnCalls.{put_in, text_told, call_answered}
use Rattle.runner_parts.specs.Parts.{own_side, IsAtRest}
use Rattle.runner.specs.Shows.{Shows}
use Rattle.runner.specs.declared.runner.Runner.{Runner}

-- its output isn't shown
pub shows-put : (v : Runner) (w : World) (r : Run) (to_out : Bool) (k a n : ℕ) → IsAtRest (own_side r) r.cache → Shows v w r → Shows v w (record r { own = put_in to_out k a n r.own })
unfolding space_of_run
shows-put v w r true k a n rest h =
    record {
      space = h.space;
      own = record { hart = h.own.hart; side = h.own.side; files_are = h.own.files_are; asked_is = h.own.asked_is; stalled_is = h.own.stalled_is; gathered_is = h.own.gathered_is };
      shadow = h.shadow;
      sizes = h.sizes;
      cache = record { lists_are = h.cache.lists_are; most = h.cache.most; depth = h.cache.depth; contents = h.cache.contents; gathers = inl (record { none = rest.none; goes = rest.goes; undemanded = rest.undemanded }) };
      counts = h.counts;
      ahead = h.ahead;
      whole = h.whole;
      end = h.end;
      notes = h.notes;
      text = h.text;
    }
shows-put v w r false k a n rest h =
    record {
      space = h.space;
      own = record { hart = h.own.hart; side = h.own.side; files_are = h.own.files_are; asked_is = h.own.asked_is; stalled_is = h.own.stalled_is; gathered_is = h.own.gathered_is };
      shadow = h.shadow;
      sizes = h.sizes;
      cache = record { lists_are = h.cache.lists_are; most = h.cache.most; depth = h.cache.depth; contents = h.cache.contents; gathers = inl (record { none = rest.none; goes = rest.goes; undemanded = rest.undemanded }) };
      counts = h.counts;
      ahead = h.ahead;
      whole = h.whole;
      end = h.end;
      notes = h.notes;
      text = h.text;
    }

pub write-is :
    (w : World) (r : Run) (to_out : Bool) (k a n : ℕ) →
    write_done w k to_out a n r ≡ call_answered (put_in to_out k a n r.own).files (pos k) (record (text_told to_out k a n r) { own = put_in to_out k a n r.own })
write-is w r true k a n = refl
write-is w r false k a n = refl
