-- Moves that do nothing but count, in a run over the outside.
use Rattle.std.proofs.Common.{◌≡◌, ℕ, zero, suc, Bool, true, false, not, ◌&&◌, ◌||◌, List, [], ◌∷◌, ◌++◌, length, Option, Some, None, nat_lt, refl, ap, ap₂, sym, ◌∙◌, subst, arith}
use Rattle.std.proofs.lemmas.Bool.Decides.{nat_tests}
use Rattle.spec_base.specs.Listed.{is_listed}
use Rattle.std.specs.Prelude.{is_none, replicate}
use Rattle.std.proofs.lemmas.List.{append_assoc, append-nil, map-append}
use Rattle.spec_base.specs.declared.note.Move.{Move}
use Rattle.spec_base.specs.declared.note.Move.TheVariants.{O, S, T, D}
use Rattle.spec_base.specs.declared.spot.BlockSpot.{BlockSpot}
use Rattle.program_model.specs.Cache.{in_flight}
use Rattle.run_model.specs.Run.{World, Run, Usual, opened_run}
use Rattle.run_model.specs.ShadowMoves.{is_running}
use Rattle.run_model.specs.Moves.{Moves, step, run, run_from, is_idle, begun}
use Rattle.run_model.specs.Patterns.{Pattern}
use Rattle.use_marks.specs.Along.{AreMarksOf, numbers_of, numbers_then, numbers_by, is_first_use}
use Rattle.use_marks.specs.Told.{IsTold}
use Rattle.use_marks.specs.Marked.{marks_of}
use Rattle.use_marks.proofs.Told.{told_kept}
use Rattle.use_marks.proofs.Along.{numbers-snoc}
use Rattle.world_io.specs.Outside.{SinkState, StoreState}
use Rattle.world_io.specs.Logs.{StoreLog, AreOffered}
use Rattle.world_io.proofs.Stores.{none-StoreLog}
use Rattle.plain_runner.specs.Runs.{Outside}
use Rattle.move_requests.specs.Asked.{Asked, Nothing, asks, asks_if, asks_unless, move_asks, fetching_asks, MayAnswer}
use Rattle.move_requests.specs.Offers.{store_call, offers_in}
use Rattle.move_requests.specs.Hears.{Hears, AreHeard}
use Rattle.move_requests.proofs.Snoc.{moves_add_up}
use Rattle.move_requests.proofs.Heard.{next_is_heard}
use Rattle.run_promises.specs.Schedules.{GoesOn}
use Rattle.runner_parts.specs.Idle.{AreIdle}
use Rattle.runner_parts.proofs.Idle.{step-idle}
use Rattle.runner.specs.Shows.{Shows}
use Rattle.runner.specs.declared.runner.Runner.{Runner}
use Rattle.program_driver.specs.Progress.{HasMade, Progress, TraceProgress}
use Rattle.program_driver.specs.Lines.{ArePut}
use Rattle.program_driver.specs.declared.uses.UseTrace.{UseTrace}
use Rattle.program_driver.specs.Uses.{KeepsUses, use_line_if}
use Rattle.program_driver.specs.Traces.{trace_lines, move_lines, over_bottomless}
use Rattle.program_driver.proofs.Driven.{firsts, goes-snoc}
use Rattle.program_driver.proofs.Traced.{lines-snoc}

-- ---- an idle move asks nothing

waits-asks : (s b : Bool) (a : Asked) → s ≡ true → asks_if (not s && b) a ≡ Nothing
waits-asks true b a e = refl
waits-asks false b a e = absurd (let f : false ≡ true = e in cc)

rests-asks : (q b : Bool) (a : Asked) → not q ≡ true → asks_if (q && b) a ≡ Nothing
rests-asks false b a e = refl
rests-asks true b a e = absurd (let f : false ≡ true = e in cc)

either-asks : (s q b : Bool) (a : Asked) → (not s || not q) ≡ true → asks_if (s && (q && b)) a ≡ Nothing
either-asks false q b a e = refl
either-asks true q b a e = rests-asks q b a e

fetch-asks : (o : Option BlockSpot) → is_none o ≡ true → fetching_asks o ≡ Nothing
fetch-asks None e = refl
fetch-asks (Some spot) e = absurd (let f : false ≡ true = e in cc)

move-asks : (w : World) (r : Run) (m : Move) → is_idle m r ≡ true → move_asks w r m ≡ Nothing
move-asks w r O e = waits-asks r.stalled _ _ e
move-asks w r S e = rests-asks (is_running r.shadow.state) _ _ e
move-asks w r T e = either-asks r.stalled (is_running r.shadow.state) _ _ e
move-asks w r D e = fetch-asks (in_flight r.cache) e

idle-asks : (w : World) (r : Run) (m : Move) → r.end ≡ None → is_idle m r ≡ true → asks w r m ≡ Nothing
idle-asks w r m going e = subst (λ o. asks_unless o w r m ≡ Nothing) (sym going) (move-asks w r m e)

-- a move that asks nothing hears nothing
pub silent-hears : (w : World) (r : Run) (m : Move) (o : Outside) → asks w r m ≡ Nothing → Hears w r m Usual o o
silent-hears w r m o nothing =
    let none = sym nothing in
    record {
      may = subst (λ a. MayAnswer a Usual) none refl;
      store = subst (λ a. StoreLog o.store (store_call a Usual) o.store) none (none-StoreLog o.store);
      out = subst (λ a. AreOffered o.out (offers_in true a Usual) o.out) none refl;
      err = subst (λ a. AreOffered o.err (offers_in false a Usual) o.err) none refl;
    }

pub idle-hears : (w : World) (r : Run) (m : Move) (o : Outside) → r.end ≡ None → is_idle m r ≡ true → Hears w r m Usual o o
idle-hears w r m o going e = silent-hears w r m o (idle-asks w r m going e)

-- an idle move leaves each move as idle as it was
idle-again : (m : Move) (r : Run) → is_idle m (begun r) ≡ is_idle m r
idle-again O r = refl
idle-again S r = refl
idle-again T r = refl
idle-again D r = refl

-- ---- an idle move tells no use, and nothing becomes of what is kept

no-less : (n : ℕ) → nat_lt n n ≡ false
no-less n = grind (arith, nat_tests)

begun-lines : (uses : Bool) (w : World) (numbers : List ℕ) (r : Run) → move_lines uses w numbers r (begun r) ≡ []
begun-lines false w numbers r = refl
begun-lines true w numbers r =
    ap (λ b. use_line_if (b && (nat_lt 0 r.restarts && (r.since.whole && is_first_use numbers w r r.since.own))) (begun r) ++ []) (no-less r.own_done)

begun-numbers : (numbers : List ℕ) (r : Run) → numbers_then numbers r (begun r) ≡ numbers
begun-numbers numbers r = ap₂ (λ s c. numbers_by s c numbers r) (no-less r.restarts) (no-less r.own_done)

rest-kept : (w : World) (ms : Moves) (m : Move) (u : UseTrace) → run w (ms ++ (m, Usual) ∷ []) ≡ begun (run w ms) → KeepsUses w ms u → KeepsUses w (ms ++ (m, Usual) ∷ []) u
rest-kept w ms m u next k =
    let r : Run = run w ms in
    let all : Moves = ms ++ (m, Usual) ∷ [] in
    let then : step w r (m, Usual) ≡ begun r = sym (moves_add_up w ms (m, Usual)).next ∙ next in
    let numbers : numbers_of w all ≡ numbers_of w ms = numbers-snoc w ms (m, Usual) ∙ ap (λ q. numbers_then (numbers_of w ms) r q) then ∙ begun-numbers (numbers_of w ms) r in
    let here : AreMarksOf w (begun r) (numbers_of w ms) (marks_of u.marks) u.unused = record { told = λ some whole. kept-told r (numbers_of w ms) (k.marks.told some whole) } in
    record {
      marks =
          subst (λ l. AreMarksOf w (run w all) l (marks_of u.marks) u.unused) (sym numbers)
          (subst (λ q. AreMarksOf w q (numbers_of w ms) (marks_of u.marks) u.unused) (sym next) here);
      filled = λ n. (k.filled n ∙ ap (λ (q : Run). is_listed q.since.filled (suc n)) (sym next));
    }
  where
    kept-told : (r : Run) (numbers : List ℕ) → IsTold w r r.since.own numbers (marks_of u.marks) u.unused → IsTold w (begun r) r.since.own numbers (marks_of u.marks) u.unused
    kept-told r numbers t = told_kept w r (begun r) r.since.own numbers (marks_of u.marks) u.unused refl t

-- ---- idle moves of a run

-- some moves were made behind others, and told nothing
pub record Rested (w : World) (sooner ms : Moves) (before here : Outside) : Type 0 where
  pub made : GoesOn w (opened_run w) ms
  pub goes : (run w ms).end ≡ None
  pub heard : AreHeard w ms before here
  pub told : (uses : Bool) → trace_lines uses w ms ≡ trace_lines uses w sooner
  pub kept : (u : UseTrace) → KeepsUses w sooner u → KeepsUses w ms u

rest-one : (w : World) (sooner ms : Moves) (m : Move) (before here : Outside) → Rested w sooner ms before here → is_idle m (run w ms) ≡ true
    → Rested w sooner (ms ++ (m, Usual) ∷ []) before here × (is_idle m (run w (ms ++ (m, Usual) ∷ [])) ≡ true)
rest-one w sooner ms m before here was idle =
    let r : Run = run w ms in
    let next : run w (ms ++ (m, Usual) ∷ []) ≡ begun r = (moves_add_up w ms (m, Usual)).next ∙ step-idle w r (m, Usual) was.goes idle in (
      record {
        made = goes-snoc w (opened_run w) ms (m, Usual) was.made was.goes;
        goes = ap (λ q. q.end) next ∙ was.goes;
        heard = next_is_heard w ms m Usual before here here was.heard (idle-hears w r m here was.goes idle);
        told = λ uses. (
            lines-snoc uses w ms (m, Usual) ∙ ap (λ q. trace_lines uses w ms ++ move_lines uses w (numbers_of w ms) r q) next
            ∙ ap (λ l. trace_lines uses w ms ++ l) (begun-lines uses w (numbers_of w ms) r) ∙ append-nil (trace_lines uses w ms) ∙ was.told uses);
        kept = λ u k. rest-kept w ms m u next (was.kept u k);
      },
      ap (is_idle m) next ∙ idle-again m r ∙ idle,
    )

-- so many of a move
abbrev pub idles : ℕ → Move → Moves
idles k m = replicate k (m, Usual)

rest-many : (k : ℕ) (w : World) (sooner ms : Moves) (m : Move) (before here : Outside) → Rested w sooner ms before here → is_idle m (run w ms) ≡ true
    → Rested w sooner (ms ++ idles k m) before here
rest-many zero w sooner ms m before here was idle = subst (λ l. Rested w sooner l before here) (sym (append-nil ms)) was
rest-many (suc k) w sooner ms m before here was idle =
    let one = rest-one w sooner ms m before here was idle in
    subst (λ l. Rested w sooner l before here) (append_assoc ms ((m, Usual) ∷ []) (idles k m)) (rest-many k w sooner (ms ++ (m, Usual) ∷ []) m before here one.0 one.1)

-- ---- what a runner makes of them

pub run-append : (w : World) (r : Run) (ms more : Moves) → run_from w r (ms ++ more) ≡ run_from w (run_from w r ms) more
unfolding run_from
run-append w r [] more = refl
run-append w r (m ∷ ms) more = run-append w (step w r m) ms more

pub are-idle : (k : ℕ) (m : Move) (r : Run) → is_idle m r ≡ true → AreIdle r (idles k m)
are-idle zero m r e = tt
are-idle (suc k) m r e = (e, are-idle k m r e)

pub idles-length : (k : ℕ) (m : Move) → length (idles k m) ≡ k
idles-length zero m = refl
idles-length (suc k) m = ap suc (idles-length k m)

pub idles-firsts : (k : ℕ) (m : Move) → firsts (idles k m) ≡ replicate k m
idles-firsts zero m = refl
idles-firsts (suc k) m = ap (λ l. m ∷ l) (idles-firsts k m)

-- a runner shows the run behind so many moves that are idle
abbrev pub Rests : ℕ → Runner → Runner → Type 0
Rests k now new = (w : World) (r : Run) (ms : Moves) → Shows now w r → r.end ≡ None → AreIdle r ms → length ms ≡ k → Shows new w (run_from w r ms)

module _ (pattern : Pattern) (turns : ℕ) (old now new : Runner) (m : Move) (k : ℕ) (left : List Move) (rests : (w : World) (r : Run) → Shows now w r → true ≡ is_idle m r) (rest : Rests k now new) where
  rest-all : (before here : Outside) (log : Progress pattern turns (replicate k m ++ left) old now before here) (w : World) → HasMade w log.ms now before here
      → Rested w log.ms (log.ms ++ idles k m) before here
  rest-all before here log w has =
      rest-many k w log.ms log.ms m before here (record { made = has.made; goes = has.goes; heard = has.heard; told = λ uses. refl; kept = λ u k. k }) (sym (rests w (run w log.ms) has.shows))

  pub rest-Progress : (before here : Outside) → Progress pattern turns (replicate k m ++ left) old now before here → Progress pattern turns left old new before here
  rest-Progress before here log =
      record {
        ms = log.ms ++ idles k m;
        schedule =
            ap (λ l. l ++ left) (map-append (λ n. n.0) log.ms (idles k m) ∙ ap (λ l. firsts log.ms ++ l) (idles-firsts k m))
            ∙ append_assoc (firsts log.ms) (replicate k m) left ∙ log.schedule;
        said = log.said;
        told = log.told;
        files = log.files;
        went = λ w acc shows holds. (
            let has = log.went w acc shows holds in
            let all = rest-all before here log w has in
            record {
              made = all.made;
              goes = all.goes;
              shows =
                  subst (λ r. Shows new w r) (sym (run-append w (opened_run w) log.ms (idles k m)))
                  (rest w (run w log.ms) (idles k m) has.shows has.goes (are-idle k m (run w log.ms) (sym (rests w (run w log.ms) has.shows))) (idles-length k m));
              heard = all.heard;
            });
      }

  -- with what is kept to tell uses
  pub rest-TraceProgress : (uses : Bool) (kept : UseTrace) (store here : StoreState) (out out_here : SinkState) → TraceProgress uses pattern turns (replicate k m ++ left) kept old now store out here out_here
      → TraceProgress uses pattern turns left kept old new store out here out_here
  unfolding rest-Progress
  rest-TraceProgress uses kept store here out out_here log =
      record {
        drives = rest-Progress (over_bottomless store) (over_bottomless here) log.drives;
        puts = λ w acc shows holds. (
            let all = rest-all (over_bottomless store) (over_bottomless here) log.drives w (log.drives.went w acc shows holds) in
            subst (λ lines. ArePut out lines out_here) (sym (all.told uses)) (log.puts w acc shows holds));
        asked = log.asked;
        keeps = λ w acc shows holds on. (rest-all (over_bottomless store) (over_bottomless here) log.drives w (log.drives.went w acc shows holds)).kept kept (log.keeps w acc shows holds on);
      }
