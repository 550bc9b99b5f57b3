-- What a move is answered with, by the run before it and the run after it (this project's own).
use Rattle.std.specs.Prelude.{Bool, true, false, Option, Some, None}
use Rattle.std.specs.Option.{option_map}
use Rattle.spec_base.specs.declared.note.Move.{Move}
use Rattle.run_model.specs.Run.{Run, RunEnd}
use Rattle.run_model.specs.Moves.{is_idle}
use Rattle.runner_parts.specs.Parts.{end_of_run}
use Rattle.runner_parts.specs.declared.turn.End.{End}
use Rattle.runner_parts.specs.declared.turn.End.TheVariants as ending
use Rattle.runner_parts.specs.declared.turn.Turn.{Turn}
use Rattle.runner_parts.specs.declared.turn.Turn.TheVariants.{Went, Idle, Ended, StoreFault, SinkFault}

-- after a move that isn't idle: how the run has ended in it, if it has
abbrev pub turn_after : Option End → Turn
turn_after None = Went
turn_after (Some (ending.Exit code)) = Ended (ending.Exit code)
turn_after (Some (ending.Trap cause pc)) = Ended (ending.Trap cause pc)
turn_after (Some ending.Store) = StoreFault
turn_after (Some ending.Sink) = SinkFault

abbrev pub turn_if : Bool → Turn → Turn
turn_if true turn = Idle
turn_if false turn = turn

abbrev pub turn_unless : Option RunEnd → Turn → Turn
turn_unless (Some end) turn = Ended (end_of_run end)
turn_unless None turn = turn

-- a move of a run that led to the next one
abbrev pub turn_of : Run → Move → Run → Turn
turn_of r m next = turn_unless r.end (turn_if (is_idle m r) (turn_after (option_map end_of_run next.end)))
