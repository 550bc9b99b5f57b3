-- What the outside answered in a move (this project's own).
use Rattle.std.specs.Prelude.{ℕ, ◌+◌, Bool, true, false, List, [], ◌∷◌, Option, Some, None}
use Rattle.spec_base.specs.declared.note.Note.{Note}
use Rattle.spec_base.specs.declared.note.Note.TheVariants as note
use Rattle.file_calls.specs.declared.plan.PlannedCall.{PlannedCall}
use Rattle.file_calls.specs.declared.plan.PlannedCall.TheVariants as plan
use Rattle.run_model.specs.Run.{Run, RunEnd, StoreFailed, Answer, Usual, Failed, Lost}
use Rattle.cache_queue.specs.Finishes.{finished}
use Rattle.cache_queue.specs.declared.finish.Finished.{Finished}
use Rattle.cache_queue.specs.declared.finish.Finished.TheVariants.{Nothing, Put, Lost as LostBlock, Dropped, Fault}

-- a failure, or what the files say
abbrev pub failed_if : Bool → Answer
failed_if true = Failed
failed_if false = Usual

-- what a finish of a fetch heard
abbrev pub finish_answer : Finished → Answer
finish_answer Nothing = Usual
finish_answer (Put spot) = Usual
finish_answer (LostBlock spot) = Lost
finish_answer (Dropped spot) = Failed
finish_answer (Fault spot) = Failed

-- what it tells
abbrev pub finish_notes : List Note → Finished → List Note
finish_notes notes Nothing = notes
finish_notes notes (Put spot) = note.Fetch spot ∷ []
finish_notes notes (LostBlock spot) = note.Lost spot ∷ []
finish_notes notes (Dropped spot) = note.Drop spot ∷ []
finish_notes notes (Fault spot) = note.Fault ∷ []

-- whether nothing was in flight
abbrev pub is_nothing : Finished → Bool
is_nothing Nothing = true
is_nothing (Put spot) = false
is_nothing (LostBlock spot) = false
is_nothing (Dropped spot) = false
is_nothing (Fault spot) = false

-- whether a plan of the code is a read
abbrev pub is_read : PlannedCall → Bool
is_read (plan.Read spot address) = true
is_read (plan.Set change answer) = false
is_read (plan.Open name) = false
is_read (plan.Write to_out address count) = false
is_read (plan.Exit code) = false

-- ---- the demanded block's fetch

-- whether the own hart still waits
abbrev pub waits_after : Finished → Bool
waits_after (Fault spot) = true
waits_after Nothing = false
waits_after (Put spot) = false
waits_after (LostBlock spot) = false
waits_after (Dropped spot) = false

-- how many blocks it has
abbrev pub had_after : ℕ → Finished → ℕ
had_after n (Fault spot) = n
had_after n Nothing = n + 1
had_after n (Put spot) = n + 1
had_after n (LostBlock spot) = n + 1
had_after n (Dropped spot) = n + 1

-- how the run has ended
abbrev pub end_after : Finished → Option RunEnd
end_after (Fault spot) = Some StoreFailed
end_after Nothing = None
end_after (Put spot) = None
end_after (LostBlock spot) = None
end_after (Dropped spot) = None

-- the run of which the own hart waited
abbrev pub demanded_after : Run → Finished → Run
demanded_after r f =
    record r {
      cache = finished 256 r.cache f;
      stalled = waits_after f;
      gathered = had_after r.gathered f;
      end = end_after f;
      notes = finish_notes r.notes f;
    }
