-- How far a trace has come with the moves of a pattern.
use Rattle.std.proofs.Common.{◌≡◌, ◌⊎◌, inl, inr, ℕ, Bool, true, false, List, [], ◌∷◌, ◌++◌, map, Option, Some, None, refl, ap, ap₂, sym, ◌∙◌, subst}
use Rattle.std.specs.Prelude.{Result, Ok, Err}
use Rattle.std.proofs.lemmas.List.{append_assoc, append-nil, map-append}
use Rattle.std.proofs.lemmas.List.Elements.{All-nil}
use Rattle.spec_base.specs.declared.note.Move.{Move}
use Rattle.spec_base.specs.declared.note.Note.{Note}
use Rattle.trace_text.specs.Line.{line_of, turns_line_of}
use Rattle.run_model.specs.Run.{World, Run, RunEnd, Exits, Traps, StoreFailed, SinkFailed, Answer, opened_run}
use Rattle.run_model.specs.Moves.{Moves, step, run, run_from}
use Rattle.run_model.specs.Patterns.{Pattern, pattern_moves}
use Rattle.run_model.specs.Trace.{told_by, trace_from}
use Rattle.use_marks.specs.Along.{numbers_of, numbers_from, numbers_then}
use Rattle.move_requests.proofs.Snoc.{moves_add_up}
use Rattle.run_laws.specs.OwnLaws.{Accepted}
use Rattle.command_words.specs.Limits.{IsPattern}
use Rattle.world_io.specs.Outside.{SinkState, StoreState}
use Rattle.plain_runner.specs.declared.ending.Ending.{Ending}
use Rattle.plain_runner.specs.declared.ending.Ending.TheVariants.{TurnsOver, NoMemory}
use Rattle.move_requests.specs.Hears.{AreHeard}
use Rattle.move_requests.proofs.Heard.{nothing_is_heard}
use Rattle.runner_parts.specs.Heard.{IsTrueOf, AreTrueOf}
use Rattle.runner.specs.Shows.{Shows}
use Rattle.runner.specs.declared.runner.Runner.{Runner}
use Rattle.run_promises.specs.Schedules.{StandsAs, MovesTo}
use Rattle.program_driver.specs.Advances.{Advances, HasEnding, ending_of, is_starved}
use Rattle.program_driver.specs.Lines.{ArePut, LinesTo, note_lines, fault_ending, ending_with}
use Rattle.program_driver.specs.declared.lines.LineFault.{LineFault}
use Rattle.program_driver.specs.Runs.{Drives}
use Rattle.program_driver.specs.declared.uses.UseTrace.{UseTrace}
use Rattle.program_driver.specs.Uses.{HasUses, KeepsUses}
use Rattle.program_driver.specs.Traces.{told_line, lines_from, move_lines, trace_lines, last_lines, turns_lines, all_lines, TellsTo, all, in_move, before_move, at_turns, over_bottomless, with_err, TracesTo, move_ending, TellsNothing, LacksMarks, TellsMove, TracesMove}
use Rattle.program_driver.specs.Progress.{TraceProgress}
use Rattle.program_driver.proofs.Bottomless.{no-sink-fault}
use Rattle.program_driver.proofs.Driven.{made-AreMade, made-all, OneMore, goes-OneMore, schedule-one, ended-stands, no-memory, both}
use Rattle.program_driver.proofs.Lining.{append-ArePut}

-- ---- lines of one move more

trace-snoc : (w : World) (m : Move × Answer) (r : Run) (ms : Moves)
    → trace_from w r (ms ++ m ∷ []) ≡ trace_from w r ms ++ told_by (run_from w r (ms ++ m ∷ [])) (run_from w r (ms ++ m ∷ [])).notes
unfolding run_from trace_from
trace-snoc w m r [] = append-nil (told_by (step w r m) (step w r m).notes)
trace-snoc w m r (n ∷ ms) =
    let next : Run = step w r n in
    let last : Run = run_from w next (ms ++ m ∷ []) in
    ap (λ l. told_by next next.notes ++ l) (trace-snoc w m next ms) ∙ sym (append_assoc (told_by next next.notes) (trace_from w next ms) (told_by last last.notes))

told-lines : (r : Run) (notes : List Note) → map told_line (told_by r notes) ≡ note_lines r.own_done r.since.shadow notes r.text
told-lines r [] = refl
told-lines r (n ∷ ns) = ap (λ l. line_of r.own_done r.since.shadow n r.text ∷ l) (told-lines r ns)

plain-snoc : (w : World) (ms : Moves) (m : Move × Answer) → trace_lines false w (ms ++ m ∷ []) ≡ trace_lines false w ms ++ last_lines (run w (ms ++ m ∷ []))
plain-snoc w ms m =
    let last : Run = run w (ms ++ m ∷ []) in
    ap (λ l. map told_line l) (trace-snoc w m (opened_run w) ms)
    ∙ map-append told_line (trace_from w (opened_run w) ms) (told_by last last.notes)
    ∙ ap (λ l. trace_lines false w ms ++ l) (told-lines last last.notes)

-- with uses, from a run on
from-snoc : (w : World) (m : Move × Answer) (numbers : List ℕ) (r : Run) (ms : Moves)
    → lines_from w numbers r (ms ++ m ∷ []) ≡ lines_from w numbers r ms ++ move_lines true w (numbers_from w numbers r ms) (run_from w r ms) (run_from w r (ms ++ m ∷ []))
unfolding lines_from run_from numbers_from
from-snoc w m numbers r [] = append-nil (move_lines true w numbers r (step w r m))
from-snoc w m numbers r (n ∷ ms) =
    let next : Run = step w r n in
    let then : List ℕ = numbers_then numbers r next in
    ap (λ l. move_lines true w numbers r next ++ l) (from-snoc w m then next ms)
    ∙ sym (append_assoc (move_lines true w numbers r next) (lines_from w then next ms) (move_lines true w (numbers_from w then next ms) (run_from w next ms) (run_from w next (ms ++ m ∷ []))))

pub lines-snoc : (uses : Bool) (w : World) (ms : Moves) (m : Move × Answer)
    → trace_lines uses w (ms ++ m ∷ []) ≡ trace_lines uses w ms ++ move_lines uses w (numbers_of w ms) (run w ms) (run w (ms ++ m ∷ []))
lines-snoc false w ms m = plain-snoc w ms m
lines-snoc true w ms m = from-snoc w m [] (opened_run w) ms

-- before the first move
pub no-lines : (uses : Bool) (w : World) → trace_lines uses w [] ≡ []
unfolding lines_from trace_from
no-lines false w = refl
no-lines true w = refl

-- by what a runner says of its last move
pub lines-last : (r : Run) (own shadow : ℕ) (notes : List Note) (text : List ℕ) → own ≡ r.own_done → shadow ≡ r.since.shadow → notes ≡ r.notes → text ≡ r.text
    → note_lines own shadow notes text ≡ last_lines r
lines-last r own shadow notes text a b c d = λ i. note_lines (a i) (b i) (c i) (d i)

-- ---- endings

-- a run that has ended, or would go on, wants no memory
not-starved : (r : Run) (ending : Option Ending) → HasEnding r ending → is_starved ending ≡ false
not-starved r None h = refl
not-starved r (Some ending) h = ap (λ e. is_starved (Some e)) h.2 ∙ by_end h.0
  where
    by_end : (e : RunEnd) → is_starved (Some (ending_of e)) ≡ false
    by_end (Exits code) = refl
    by_end (Traps cause pc) = refl
    by_end StoreFailed = refl
    by_end SinkFailed = refl

no-turns : (e : RunEnd) (r : Run) → turns_lines (ending_of e) r ≡ []
no-turns (Exits code) r = refl
no-turns (Traps cause pc) r = refl
no-turns StoreFailed r = refl
no-turns SinkFailed r = refl

-- how a run stands behind a move
abbrev stand_of : Option Ending → Ending
stand_of None = NoMemory
stand_of (Some ending) = ending

stands-so : (turns : ℕ) (ms : Moves) (r : Run) (ending : Option Ending) → HasEnding r ending → StandsAs turns ms r (stand_of ending)
stands-so turns ms r None h = h
stands-so turns ms r (Some ending) h = ended-stands turns ms r h.0 ending h.1 h.2

-- ---- the whole

as-TracesTo : (w : World) → Accepted w → (uses : Bool) (pattern : Pattern) (turns : ℕ) (reached ending : Ending) (ms : Moves) (store after : StoreState) (out out_after err : SinkState)
    → MovesTo pattern turns reached w ms (over_bottomless store) (over_bottomless after) → TellsTo uses w ms reached ending out out_after
    → TracesTo uses pattern turns ending w ms (with_err err store out) (with_err err after out_after)
as-TracesTo w acc uses pattern turns reached ending ms store after out out_after err moves tells =
    record { reached = reached; moves = moves; no_fault = no-sink-fault w acc pattern turns reached ms store after moves; out = tells; err = refl }

-- ---- the loop

pub first-TraceProgress : (uses : Bool) (pattern : Pattern) (turns : ℕ) (kept : UseTrace) (old : Runner) (store : StoreState) (out : SinkState)
    → kept.on ≡ uses → ((w : World) → KeepsUses w [] kept) → TraceProgress uses pattern turns (pattern_moves pattern turns) kept old old store out store out
unfolding run_from
first-TraceProgress uses pattern turns kept old store out asked keeps =
    record {
      drives = record {
        ms = [];
        schedule = refl;
        said = [];
        told = λ files e. All-nil (IsTrueOf files);
        files = refl;
        went = λ w acc shows holds. record { made = tt; goes = refl; shows = shows; heard = nothing_is_heard w (over_bottomless store) };
      };
      puts = λ w acc shows holds. subst (λ lines. ArePut out lines out) (sym (no-lines uses w)) refl;
      asked = asked;
      keeps = λ w acc shows holds on. keeps w;
    }

module _
    (uses : Bool) (pattern : Pattern) (turns : ℕ) (kept : UseTrace) (old now new : Runner) (store here after : StoreState) (out out_here out_after : SinkState) (m : Move) (left : List Move)
    (log : TraceProgress uses pattern turns (m ∷ left) kept old now store out here out_here) where
  abbrev One : Option Ending → Type 0
  One reached = OneMore pattern turns old now new (over_bottomless store) (over_bottomless here) (over_bottomless after) m left log.drives reached

  abbrev all_moves : Answer → Moves
  all_moves x = log.drives.ms ++ (m, x) ∷ []

  -- the lines of the move
  abbrev one_lines : World → Answer → List (List ℕ)
  one_lines w x = move_lines uses w (numbers_of w log.drives.ms) (run w log.drives.ms) (run w (all_moves x))

  -- the lines so far, with those of one move more
  puts-one : (w : World) (x : Answer) → ArePut out (trace_lines uses w log.drives.ms) out_here → ArePut out_here (one_lines w x) out_after → ArePut out (trace_lines uses w (all_moves x)) out_after
  puts-one w x sooner more =
      subst (λ lines. ArePut out lines out_after) (sym (lines-snoc uses w log.drives.ms (m, x)))
      (append-ArePut out out_here out_after (trace_lines uses w log.drives.ms) (one_lines w x) sooner more)

  -- what a move tells, of a run that the runner shows before it and behind it
  abbrev TellsLines : Result (Unit {0}) LineFault → Type 0
  TellsLines answer =
      (w : World) (ms : Moves) (x : Answer) → Accepted w → HasUses w ms kept → Shows now w (run w ms) → let next : Run = step w (run w ms) (m, x) in Shows new w next
      → LinesTo (move_lines kept.on w (numbers_of w ms) (run w ms) next) answer out_here out_after

  abbrev KeepsOn : UseTrace → Type 0
  KeepsOn then =
      (w : World) (ms : Moves) (x : Answer) → Accepted w → HasUses w ms kept → Shows now w (run w ms) → Shows new w (step w (run w ms) (m, x))
      → HasUses w (ms ++ (m, x) ∷ []) then

  module _ (w : World) (acc : Accepted w) (x : Answer) (shows : Shows old w (opened_run w)) (holds : AreTrueOf w.files log.drives.said) (then : Shows new w (run w (all_moves x))) where
    before : Shows now w (run w log.drives.ms)
    before = (log.drives.went w acc shows holds).shows

    behind : Shows new w (step w (run w log.drives.ms) (m, x))
    behind = subst (λ r. Shows new w r) (moves_add_up w log.drives.ms (m, x)).next then

    their-lines : (answer : Result (Unit {0}) LineFault) → TellsLines answer → LinesTo (one_lines w x) answer out_here out_after
    their-lines answer lines =
        subst (λ r. LinesTo (move_lines uses w (numbers_of w log.drives.ms) (run w log.drives.ms) r) answer out_here out_after) (sym (moves_add_up w log.drives.ms (m, x)).next)
        (subst (λ b. LinesTo (move_lines b w (numbers_of w log.drives.ms) (run w log.drives.ms) (step w (run w log.drives.ms) (m, x))) answer out_here out_after) log.asked
        (lines w log.drives.ms x acc (log.keeps w acc shows holds) before behind))

    kept-on : (next : UseTrace) → KeepsOn next → HasUses w (all_moves x) next
    kept-on next keeps = keeps w log.drives.ms x acc (log.keeps w acc shows holds) before behind

  -- a move that leaves the run going, and whose lines were put
  goes-on : (then : UseTrace) (reached : Option Ending) → reached ≡ None → Advances m reached now new (over_bottomless here) (over_bottomless after) → after.files ≡ here.files
      → TellsLines (Ok tt) → KeepsOn then → then.on ≡ kept.on → TraceProgress uses pattern turns left then old new store out after out_after
  goes-on then reached none (inl starves) same lines keeps on = both (is_starved reached) starves.starved (ap is_starved none)
  goes-on then reached none (inr goes) same lines keeps on =
      let one = goes-OneMore pattern turns old now new (over_bottomless store) (over_bottomless here) (over_bottomless after) m left log.drives reached goes in
      record {
        drives = record {
          ms = all_moves one.x;
          schedule = schedule-one pattern turns old now new (over_bottomless store) (over_bottomless here) (over_bottomless after) m left log.drives one.x;
          said = one.said;
          told = one.told;
          files = same ∙ log.drives.files;
          went = λ w acc shows holds. (
              let all = one.went w acc shows holds in
              record { made = all.made; goes = subst (HasEnding (run w (all_moves one.x))) none all.ends; shows = all.shows; heard = all.heard });
        };
        puts = λ w acc shows holds. (
            let all = one.went w acc shows holds in
            let earlier = one.sooner w.files holds in
            puts-one w one.x (log.puts w acc shows earlier) (their-lines w acc one.x shows earlier all.shows (Ok tt) lines));
        asked = on ∙ log.asked;
        keeps = λ w acc shows holds. kept-on w acc one.x shows (one.sooner w.files holds) (one.went w acc shows holds).shows then keeps;
      }

  pub next-TraceProgress : (then : UseTrace) → TracesMove m None kept then now new here out_here after out_after → after.files ≡ here.files → TraceProgress uses pattern turns left then old new store out after out_after
  next-TraceProgress then t same = by_tells t.tells
    where
      by_answer : (answer : Result (Unit {0}) LineFault) → TellsLines answer → KeepsOn then → then.on ≡ kept.on
          → None ≡ move_ending t.reached answer → TraceProgress uses pattern turns left then old new store out after out_after
      by_answer (Ok done) lines keeps on e = goes-on then t.reached (sym e) t.advances same lines keeps on
      by_answer (Err fault) lines keeps on e = absurd (let f : None ≡ Some (fault_ending fault) = e in cc)

      by_tells : TellsNothing t.reached None out_here out_after ⊎ (LacksMarks kept.on t.reached None out_here out_after ⊎ TellsMove m t.reached None kept then now new out_here out_after)
          → TraceProgress uses pattern turns left then old new store out after out_after
      by_tells (inl nothing) = both (is_starved t.reached) nothing.starved (ap is_starved (sym nothing.ends))
      by_tells (inr (inl lacks)) = absurd (let f : None ≡ Some NoMemory = lacks.ends in cc)
      by_tells (inr (inr tells)) = by_answer tells.answer tells.lines tells.uses tells.on tells.ends

  -- ---- the last move

  module _ (ending : Ending) (err : SinkState) where
    abbrev Outcome : Type 0
    Outcome = Drives (TracesTo uses pattern turns ending) old new (with_err err store out) (with_err err after out_after)

    -- there was no memory for it
    starved-Drives : (reached : Option Ending) → is_starved reached ≡ true → Some ending ≡ reached → out_after ≡ out_here
        → Advances m reached now new (over_bottomless here) (over_bottomless after) → Outcome
    starved-Drives reached starved ends untouched (inl starves) =
        let is = no-memory ending (subst (λ e. is_starved e ≡ true) (sym ends) starved) in
        let ms : Moves = log.drives.ms in
        record {
          moves = ms;
          said = log.drives.said;
          told = log.drives.told;
          went = λ w acc shows holds. (
              let has = log.drives.went w acc shows holds in (
                as-TracesTo w acc uses pattern turns NoMemory ending ms store after out out_after err
                    (record {
                      made = made-AreMade w pattern turns ms (m ∷ left) log.drives.schedule has.made;
                      stands = has.goes;
                      heard = subst (AreHeard w ms (over_bottomless store)) (sym starves.untouched) has.heard;
                    })
                    (all is (subst (λ s. ArePut out (all_lines uses w ms NoMemory) s) (sym untouched)
                    (subst (λ lines. ArePut out lines out_here) (sym (append-nil (trace_lines uses w ms))) (log.puts w acc shows holds)))),
                starves.shows w (run w ms) has.shows,
              ));
        }
    starved-Drives reached starved ends untouched (inr goes) =
        let one = goes-OneMore pattern turns old now new (over_bottomless store) (over_bottomless here) (over_bottomless after) m left log.drives reached goes in
        record {
          moves = [];
          said = one.said;
          told = one.told;
          went = λ w acc shows holds. (
              let all = one.went w acc shows holds in
              both (is_starved reached) starved (not-starved (run w (all_moves one.x)) reached all.ends));
        }

    -- it was made, and this became of its lines, whatever was said before
    abbrev BecameOf : Option Ending → Type 0
    BecameOf reached =
        (x : Answer) (w : World) → Accepted w → Shows old w (opened_run w) → AreTrueOf w.files log.drives.said → Shows new w (run w (all_moves x)) → HasEnding (run w (all_moves x)) reached
        → TellsTo uses w (all_moves x) (stand_of reached) ending out out_after

    -- what became of its lines makes the ending
    told-by : (reached : Option Ending) (x : Answer) (w : World) (answer : Result (Unit {0}) LineFault) → HasEnding (run w (all_moves x)) reached
        → Some ending ≡ move_ending reached answer → ArePut out (trace_lines uses w log.drives.ms) out_here → LinesTo (one_lines w x) answer out_here out_after
        → TellsTo uses w (all_moves x) (stand_of reached) ending out out_after
    told-by reached x w (Ok done) ends e sooner lines =
        let ms : Moves = all_moves x in
        let r : Run = run w ms in
        let h : HasEnding r (Some ending) = subst (HasEnding r) (sym e) ends in
        let none : turns_lines (stand_of reached) r ≡ [] = ap (λ o. turns_lines (stand_of o) r) (sym e) ∙ ap (λ x. turns_lines x r) h.2 ∙ no-turns h.0 r in
        let same : all_lines uses w ms (stand_of reached) ≡ trace_lines uses w ms = ap (λ l. trace_lines uses w ms ++ l) none ∙ append-nil (trace_lines uses w ms) in
        all (ap stand_of e) (subst (λ l. ArePut out l out_after) (sym same) (puts-one w x sooner lines))
    told-by reached x w (Err fault) ends e sooner lines = in_move fault log.drives.ms (m, x) out_here (injective e) refl sooner lines
      where
        injective : Some ending ≡ Some (fault_ending fault) → ending ≡ fault_ending fault
        injective f = cc

    -- or there was no memory to tell its uses
    lacking-by : (reached : Option Ending) → kept.on ≡ true → Some ending ≡ Some NoMemory → out_after ≡ out_here → BecameOf reached
    lacking-by reached on e untouched x w acc shows holds then ends =
        before_move log.drives.ms (m, x) (sym log.asked ∙ on) (injective e) refl (subst (λ s. ArePut out (trace_lines uses w log.drives.ms) s) (sym untouched) (log.puts w acc shows holds))
      where
        injective : Some ending ≡ Some NoMemory → ending ≡ NoMemory
        injective f = cc

    made-Drives : (reached : Option Ending) → is_starved reached ≡ false → BecameOf reached → Advances m reached now new (over_bottomless here) (over_bottomless after) → Outcome
    made-Drives reached made became (inl starves) =
        record {
          moves = [];
          said = [];
          told = λ files told. All-nil (IsTrueOf files);
          went = λ w acc shows holds. both (is_starved reached) starves.starved made;
        }
    made-Drives reached made became (inr goes) =
        let one = goes-OneMore pattern turns old now new (over_bottomless store) (over_bottomless here) (over_bottomless after) m left log.drives reached goes in
        let ms : Moves = all_moves one.x in
        record {
          moves = ms;
          said = one.said;
          told = one.told;
          went = λ w acc shows holds. (
              let last = one.went w acc shows holds in (
                as-TracesTo w acc uses pattern turns (stand_of reached) ending ms store after out out_after err
                    (record {
                      made = made-AreMade w pattern turns ms left (schedule-one pattern turns old now new (over_bottomless store) (over_bottomless here) (over_bottomless after) m left log.drives one.x) last.made;
                      stands = stands-so turns ms (run w ms) reached last.ends;
                      heard = last.heard;
                    })
                    (became one.x w acc shows (one.sooner w.files holds) last.shows last.ends),
                last.shows,
              ));
        }

    pub ended-Drives : (then : UseTrace) → TracesMove m (Some ending) kept then now new here out_here after out_after
        → Drives (TracesTo uses pattern turns ending) old new (with_err err store out) (with_err err after out_after)
    ended-Drives then t = by_tells t.tells
      where
        by_tells : TellsNothing t.reached (Some ending) out_here out_after ⊎ (LacksMarks kept.on t.reached (Some ending) out_here out_after ⊎ TellsMove m t.reached (Some ending) kept then now new out_here out_after) → Outcome
        by_tells (inl nothing) = starved-Drives t.reached nothing.starved nothing.ends nothing.untouched t.advances
        by_tells (inr (inl lacks)) = made-Drives t.reached lacks.made (lacking-by t.reached lacks.asked lacks.ends lacks.untouched) t.advances
        by_tells (inr (inr tells)) =
            made-Drives t.reached tells.made
            (λ x w acc shows holds last ends. told-by t.reached x w tells.answer ends tells.ends (log.puts w acc shows holds) (their-lines w acc x shows holds last tells.answer tells.lines)) t.advances

-- the moves so far, which come next
pub moves-TraceProgress : (uses : Bool) (pattern : Pattern) (turns : ℕ) (kept : UseTrace) (old now : Runner) (store : StoreState) (out : SinkState) (here : StoreState) (out_here : SinkState) (moves left : List Move) → moves ≡ left
    → TraceProgress uses pattern turns moves kept old now store out here out_here → TraceProgress uses pattern turns left kept old now store out here out_here
moves-TraceProgress uses pattern turns kept old now store out here out_here moves left is log = subst (λ l. TraceProgress uses pattern turns l kept old now store out here out_here) is log

-- ---- all moves are made

turns-told : (uses : Bool) (w : World) (ms : Moves) (own : ℕ) (out out_here out_after : SinkState) (answer : Result (Unit {0}) LineFault)
    → ArePut out (trace_lines uses w ms) out_here → LinesTo (turns_lines (TurnsOver own) (run w ms)) answer out_here out_after
    → TellsTo uses w ms (TurnsOver own) (ending_with (TurnsOver own) answer) out out_after
turns-told uses w ms own out out_here out_after (Ok done) puts line = all refl (append-ArePut out out_here out_after (trace_lines uses w ms) (turns_lines (TurnsOver own) (run w ms)) puts line)
turns-told uses w ms own out out_here out_after (Err fault) puts line = at_turns fault out_here refl puts line

pub over-Drives : (uses : Bool) (pattern : Pattern) (turns : ℕ) (kept : UseTrace) (old now : Runner) (store here : StoreState) (out out_here out_after err : SinkState) (own shadow : ℕ) (answer : Result (Unit {0}) LineFault)
    → IsPattern pattern → TraceProgress uses pattern turns [] kept old now store out here out_here
    → ((w : World) (r : Run) → Shows now w r → own ≡ r.own_done) → ((w : World) (r : Run) → Shows now w r → shadow ≡ r.since.shadow)
    → LinesTo (turns_line_of own shadow ∷ []) answer out_here out_after
    → Drives (TracesTo uses pattern turns (ending_with (TurnsOver own) answer)) old now (with_err err store out) (with_err err here out_after)
over-Drives uses pattern turns kept old now store here out out_here out_after err own shadow answer p log owns shadows lines =
    let ms : Moves = log.drives.ms in
    record {
      moves = ms;
      said = log.drives.said;
      told = log.drives.told;
      went = λ w acc shows holds. (
          let has = log.drives.went w acc shows holds in
          let r : Run = run w ms in
          let line : turns_line_of own shadow ≡ turns_line_of r.own_done r.since.shadow = ap₂ turns_line_of (owns w r has.shows) (shadows w r has.shows) in (
            as-TracesTo w acc uses pattern turns (TurnsOver own) (ending_with (TurnsOver own) answer) ms store here out out_after err
                (record {
                  made = made-AreMade w pattern turns ms [] log.drives.schedule has.made;
                  stands = (has.goes, made-all pattern turns ms p log.drives.schedule, owns w r has.shows);
                  heard = has.heard;
                })
                (turns-told uses w ms own out out_here out_after answer (log.puts w acc shows holds) (subst (λ l. LinesTo (l ∷ []) answer out_here out_after) line lines)),
            has.shows,
          ));
    }
