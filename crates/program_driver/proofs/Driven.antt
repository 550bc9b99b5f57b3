-- How far a runner has come with the moves of a pattern.
use Rattle.std.proofs.Common.{◌≡◌, inl, inr, ℕ, suc, Bool, true, false, List, [], ◌∷◌, ◌++◌, length, map, Option, Some, None, refl, ap, sym, ◌∙◌, subst, arith}
use Rattle.std.proofs.lemmas.List.{append_assoc, append-nil, map-append}
use Rattle.std.proofs.lemmas.List.Elements.{All-nil, All-cons, All-head, All-tail, All-append}
use Rattle.spec_base.specs.Files.{Files}
use Rattle.spec_base.specs.declared.note.Move.{Move}
use Rattle.run_model.specs.Run.{World, Run, RunEnd, Exits, Traps, StoreFailed, SinkFailed, Answer, opened_run}
use Rattle.run_model.specs.Moves.{Moves, step, run, run_from}
use Rattle.run_model.specs.Patterns.{Pattern, one_round, pattern_moves}
use Rattle.run_laws.specs.OwnLaws.{Accepted}
use Rattle.command_words.specs.Limits.{IsPattern}
use Rattle.plain_runner.specs.Runs.{Outside}
use Rattle.plain_runner.specs.declared.ending.Ending.{Ending}
use Rattle.plain_runner.specs.declared.ending.Ending.TheVariants.{Exited, Trapped, TurnsOver, StoreFault, SinkFault, NoMemory}
use Rattle.move_requests.specs.Hears.{AreHeard}
use Rattle.move_requests.proofs.Snoc.{moves_add_up}
use Rattle.move_requests.proofs.Heard.{nothing_is_heard, next_is_heard}
use Rattle.runner_parts.specs.Heard.{Said, IsTrueOf, AreTrueOf}
use Rattle.runner.specs.Shows.{Shows}
use Rattle.runner.specs.declared.runner.Runner.{Runner}
use Rattle.run_promises.specs.Schedules.{GoesOn, AreMade, StandsAs, MovesTo}
use Rattle.program_driver.specs.Advances.{Advances, Goes, Leads, HasEnding, ending_of, is_starved}
use Rattle.program_driver.specs.Runs.{Drives}
use Rattle.program_driver.specs.Progress.{HasMade, Progress}
use Rattle.program_driver.proofs.Rounding.{front, turns-length}

-- ---- what the store said

earlier : (files : Files) (xs ys : List Said) → AreTrueOf files (xs ++ ys) → AreTrueOf files xs
earlier files [] ys h = All-nil (IsTrueOf files)
earlier files (x ∷ xs) ys h = All-cons (IsTrueOf files) x xs (All-head (IsTrueOf files) x (xs ++ ys) h) (earlier files xs ys (All-tail (IsTrueOf files) x (xs ++ ys) h))

later : (files : Files) (xs ys : List Said) → AreTrueOf files (xs ++ ys) → AreTrueOf files ys
later files [] ys h = h
later files (x ∷ xs) ys h = later files xs ys (All-tail (IsTrueOf files) x (xs ++ ys) h)

-- ---- moves that were made

-- one move more of a run that goes on
pub goes-snoc : (w : World) (r : Run) (ms : Moves) (m : Move × Answer) → GoesOn w r ms → (run_from w r ms).end ≡ None → GoesOn w r (ms ++ m ∷ [])
unfolding run_from
goes-snoc w r [] m all one = (one, tt)
goes-snoc w r (n ∷ ms) m all one = (all.0, goes-snoc w (step w r n) ms m all.1 one)

abbrev pub firsts : Moves → List Move
firsts ms = map (λ m. m.0) ms

-- one move more, and one less that is still to come
pub firsts-snoc : (ms : Moves) (m : Move) (x : Answer) (left all : List Move) → firsts ms ++ m ∷ left ≡ all → firsts (ms ++ (m, x) ∷ []) ++ left ≡ all
firsts-snoc ms m x left all e =
    ap (λ l. l ++ left) (map-append (λ n. n.0) ms ((m, x) ∷ [])) ∙ append_assoc (firsts ms) (m ∷ []) left ∙ e

firsts-length : (ms : Moves) → length (firsts ms) ≡ length ms
firsts-length [] = refl
firsts-length (m ∷ ms) = ap suc (firsts-length ms)

-- moves of a schedule are made, whatever is still to come
pub made-AreMade : (w : World) (pattern : Pattern) (turns : ℕ) (ms : Moves) (left : List Move) → firsts ms ++ left ≡ pattern_moves pattern turns
    → GoesOn w (opened_run w) ms → AreMade w pattern turns ms
made-AreMade w pattern turns ms left e goes =
    let f = front (one_round pattern) [] turns (firsts ms) left e in
    record {
      schedule = subst (λ n. firsts ms ≡ pattern_moves pattern n) (firsts-length ms) f.are;
      few = omega (arith, f.few, firsts-length ms);
      goes_on = goes;
    }

-- nothing is still to come: all moves are made
pub made-all : (pattern : Pattern) (turns : ℕ) (ms : Moves) → IsPattern pattern → firsts ms ++ [] ≡ pattern_moves pattern turns → length ms ≡ turns
made-all pattern turns ms p e =
    sym (firsts-length ms) ∙ ap length (sym (append-nil (firsts ms)) ∙ e) ∙ turns-length pattern turns p

-- ---- moves of a world

-- these moves were made in a world, and the run goes on or has so ended
pub record MadeAll (w : World) (ms : Moves) (ending : Option Ending) (new : Runner) (before after : Outside) : Type 0 where
  pub made : GoesOn w (opened_run w) ms
  pub shows : Shows new w (run w ms)
  pub ends : HasEnding (run w ms) ending
  pub heard : AreHeard w ms before after

-- one move more
pub one-more : (w : World) (ms : Moves) (m : Move) (x : Answer) (ending : Option Ending) (now new : Runner) (before here after : Outside)
    → HasMade w ms now before here → Leads m x ending new w (run w ms) here after → MadeAll w (ms ++ (m, x) ∷ []) ending new before after
one-more w ms m x ending now new before here after has leads =
    let same = sym (moves_add_up w ms (m, x)).next in
    record {
      made = goes-snoc w (opened_run w) ms (m, x) has.made has.goes;
      shows = subst (λ r. Shows new w r) same leads.shows;
      ends = subst (λ r. HasEnding r ending) same leads.ends;
      heard = next_is_heard w ms m x before here after has.heard leads.hears;
    }

-- ---- endings

-- a run that has ended stands by its ending
pub ended-stands : (turns : ℕ) (ms : Moves) (r : Run) (e : RunEnd) (ending : Ending) → r.end ≡ Some e → ending ≡ ending_of e → StandsAs turns ms r ending
ended-stands turns ms r (Exits code) ending end is = subst (StandsAs turns ms r) (sym is) end
ended-stands turns ms r (Traps cause pc) ending end is = subst (StandsAs turns ms r) (sym is) end
ended-stands turns ms r StoreFailed ending end is = subst (StandsAs turns ms r) (sym is) end
ended-stands turns ms r SinkFailed ending end is = subst (StandsAs turns ms r) (sym is) end

pub no-memory : (ending : Ending) → is_starved (Some ending) ≡ true → ending ≡ NoMemory
no-memory NoMemory e = refl
no-memory (Exited code) e = absurd (let f : false ≡ true = e in cc)
no-memory (Trapped cause pc) e = absurd (let f : false ≡ true = e in cc)
no-memory (TurnsOver count) e = absurd (let f : false ≡ true = e in cc)
no-memory StoreFault e = absurd (let f : false ≡ true = e in cc)
no-memory SinkFault e = absurd (let f : false ≡ true = e in cc)

pub both : {A : Type 0} (b : Bool) → b ≡ true → b ≡ false → A
both b t f = absurd (let e : true ≡ false = sym t ∙ f in cc)

-- ---- the loop

pub first-Progress : (pattern : Pattern) (turns : ℕ) (old : Runner) (o : Outside) → Progress pattern turns (pattern_moves pattern turns) old old o o
unfolding run_from
first-Progress pattern turns old o =
    record {
      ms = [];
      schedule = refl;
      said = [];
      told = λ files e. All-nil (IsTrueOf files);
      files = refl;
      went = λ w acc shows holds. record { made = tt; goes = refl; shows = shows; heard = nothing_is_heard w o };
    }

module _
    (pattern : Pattern) (turns : ℕ) (old now new : Runner) (before here after : Outside) (m : Move) (left : List Move)
    (log : Progress pattern turns (m ∷ left) old now before here) where
  -- what a move more comes to
  pub record OneMore (ending : Option Ending) : Type 0 where
    pub x : Answer
    pub said : List Said
    pub told : (files : Files) → before.store.files ≡ Some files → AreTrueOf files said
    pub sooner : (files : Files) → AreTrueOf files said → AreTrueOf files log.said
    pub went : (w : World) → Accepted w → Shows old w (opened_run w) → AreTrueOf w.files said → MadeAll w (log.ms ++ (m, x) ∷ []) ending new before after

  pub goes-OneMore : (ending : Option Ending) → Goes m ending now new here after → OneMore ending
  goes-OneMore ending goes =
      record {
        x = goes.answer;
        said = log.said ++ goes.said;
        told = λ files e. All-append (IsTrueOf files) log.said goes.said (log.told files e) (goes.told files (log.files ∙ e));
        sooner = λ files. earlier files log.said goes.said;
        went = λ w acc shows holds. (
            let has = log.went w acc shows (earlier w.files log.said goes.said holds) in
            one-more w log.ms m goes.answer ending now new before here after has (goes.leads w log.ms acc has.shows (later w.files log.said goes.said holds) has.goes));
      }

  pub schedule-one : (x : Answer) → firsts (log.ms ++ (m, x) ∷ []) ++ left ≡ pattern_moves pattern turns
  schedule-one x = firsts-snoc log.ms m x left (pattern_moves pattern turns) log.schedule

  -- a move that leaves the run going
  pub next-Progress : Advances m None now new here after → after.store.files ≡ here.store.files → Progress pattern turns left old new before after
  next-Progress (inl starves) kept = both (is_starved None) starves.starved refl
  next-Progress (inr goes) kept =
      let one = goes-OneMore None goes in
      record {
        ms = log.ms ++ (m, one.x) ∷ [];
        schedule = schedule-one one.x;
        said = one.said;
        told = one.told;
        files = kept ∙ log.files;
        went = λ w acc shows holds. (
            let all = one.went w acc shows holds in
            record { made = all.made; goes = all.ends; shows = all.shows; heard = all.heard });
      }

  -- a move that ends the run, or that there was no memory for
  pub ended-Drives : (ending : Ending) → Advances m (Some ending) now new here after → Drives (MovesTo pattern turns ending) old new before after
  ended-Drives ending (inl starves) =
      record {
        moves = log.ms;
        said = log.said;
        told = log.told;
        went = λ w acc shows holds. (
            let has = log.went w acc shows holds in (
              record {
                made = made-AreMade w pattern turns log.ms (m ∷ left) log.schedule has.made;
                stands = subst (StandsAs turns log.ms (run w log.ms)) (sym (no-memory ending starves.starved)) has.goes;
                heard = subst (AreHeard w log.ms before) (sym starves.untouched) has.heard;
              },
              starves.shows w (run w log.ms) has.shows,
            ));
      }
  ended-Drives ending (inr goes) =
      let one = goes-OneMore (Some ending) goes in
      let ms : Moves = log.ms ++ (m, one.x) ∷ [] in
      record {
        moves = ms;
        said = one.said;
        told = one.told;
        went = λ w acc shows holds. (
            let all = one.went w acc shows holds in (
              record {
                made = made-AreMade w pattern turns ms left (schedule-one one.x) all.made;
                stands = ended-stands turns ms (run w ms) all.ends.0 ending all.ends.1 all.ends.2;
                heard = all.heard;
              },
              all.shows,
            ));
      }

-- the moves so far, which come next
pub moves-Progress : (pattern : Pattern) (turns : ℕ) (old now : Runner) (before here : Outside) (moves left : List Move) → moves ≡ left
    → Progress pattern turns moves old now before here → Progress pattern turns left old now before here
moves-Progress pattern turns old now before here moves left is log = subst (λ l. Progress pattern turns l old now before here) is log

-- all moves are made
pub over-Drives : (pattern : Pattern) (turns : ℕ) (old now : Runner) (before here : Outside) (count : ℕ) → IsPattern pattern
    → Progress pattern turns [] old now before here → ((w : World) (r : Run) → Shows now w r → count ≡ r.own_done)
    → Drives (MovesTo pattern turns (TurnsOver count)) old now before here
over-Drives pattern turns old now before here count p log counted =
    record {
      moves = log.ms;
      said = log.said;
      told = log.told;
      went = λ w acc shows holds. (
          let has = log.went w acc shows holds in (
            record {
              made = made-AreMade w pattern turns log.ms [] log.schedule has.made;
              stands = (has.goes, made-all pattern turns log.ms p log.schedule, counted w (run w log.ms) has.shows);
              heard = has.heard;
            },
            has.shows,
          ));
    }
