-- Words of the program, and between them moves that do nothing but count.
use Rattle.std.proofs.Common.{◌≡◌, ℕ, zero, suc, ◌+◌, Bool, true, false, not, ◌||◌, ◌&&◌, List, [], ◌∷◌, ◌++◌, length, map, Option, Some, None, refl, ap, sym, ◌∙◌, subst, arith}
use Rattle.std.proofs.lemmas.List.{append_assoc, append-nil, map-append, length-append}
use Rattle.spec_base.specs.Layout.{stub_start}
use Rattle.spec_base.specs.declared.machine.View.{View}
use Rattle.spec_base.specs.declared.machine.View.TheVariants.{Program}
use Rattle.spec_base.specs.declared.note.Move.{Move}
use Rattle.spec_base.specs.declared.note.Move.TheVariants.{O, S, T, D}
use Rattle.rv_decode.specs.declared.instr.Instr.{Instr}
use Rattle.rv_model.specs.Effect.{Effect, Next, Stored, Trapped, Called, Gated, effect, fetched}
use Rattle.rv_model.specs.Rights.{data_rights}
use Rattle.program_model.specs.PlainRun.{plan_of}
use Rattle.code_model.specs.Stub.{stub}
use Rattle.run_model.specs.Run.{World, Run, Answer, Usual, rewritten_text, opened_run}
use Rattle.run_model.specs.OwnMoves.{own_in, program_after, program_at, program_step}
use Rattle.run_model.specs.Moves.{Moves, step, run, run_from, is_idle, begun}
use Rattle.run_model.specs.Patterns.{Pattern}
use Rattle.run_laws.specs.OwnLaws.{Accepted}
use Rattle.plain_runner.specs.Runs.{Outside}
use Rattle.word_laws.specs.Shown.{is_performed}
use Rattle.move_requests.specs.Asked.{asks_if, is_stub, performing_asks}
use Rattle.move_requests.specs.Hears.{Hears, AreHeard}
use Rattle.move_requests.proofs.Snoc.{moves_add_up}
use Rattle.move_requests.proofs.Heard.{next_is_heard}
use Rattle.run_promises.specs.Schedules.{GoesOn}
use Rattle.runner_parts.proofs.Idle.{step-idle}
use Rattle.runner.specs.Shows.{Shows}
use Rattle.runner.specs.Stretches.{IsInProgram, own_moves, AreOwnWords, MakesOwnWords}
use Rattle.runner.specs.declared.runner.Runner.{Runner}
use Rattle.runner.proofs.OwnMoves.{word-asks, word-step}
use Rattle.program_driver.specs.Rounds.{owns, Passes}
use Rattle.program_driver.specs.Progress.{Progress}
use Rattle.program_driver.proofs.Driven.{firsts, goes-snoc}
use Rattle.program_driver.proofs.Passing.{owns-length}
use Rattle.program_driver.proofs.Idling.{silent-hears, idle-hears, idles, run-append, are-idle, idles-length, Rests}

-- ---- a word of the program

program-step : (w : World) (r : Run) (x : Answer) → IsInProgram r → step w r (O, x) ≡ program_step w (begun r)
program-step w r x at = word-step w r at.on x at.goes ∙ ap (λ (v : View). own_in v w x (begun r)) at.view

-- it asks nothing
pub program-hears : (w : World) (r : Run) (o : Outside) → IsInProgram r → Hears w r O Usual o o
program-hears w r o at =
    silent-hears w r O o
    (word-asks w r at.on at.goes
    ∙ ap (λ (v : View). asks_if (is_stub v && is_performed (fetched stub stub_start r.own.pc)) (performing_asks r.own.memory (plan_of w.image.layout r.own))) at.view)

-- the shadow isn't running, and nothing is in flight
pub record IsQuiet (r : Run) : Type 0 where
  pub shadow : is_idle S r ≡ true
  pub fetches : is_idle D r ≡ true

-- it leaves the shadow and the cache
effect-quiet : (r : Run) (e : Effect) → IsQuiet r → IsQuiet (program_after r e)
effect-quiet r (Next rs pc) q = record { shadow = q.shadow; fetches = q.fetches }
effect-quiet r (Stored a width v) q = record { shadow = q.shadow; fetches = q.fetches }
effect-quiet r (Trapped cause) q = record { shadow = q.shadow; fetches = q.fetches }
effect-quiet r (Gated g) q = record { shadow = q.shadow; fetches = q.fetches }
effect-quiet r Called q = q

word-quiet : (w : World) (r : Run) (o : Option Instr) → IsQuiet r → IsQuiet (program_at w r o)
word-quiet w r None q = record { shadow = q.shadow; fetches = q.fetches }
word-quiet w r (Some i) q = effect-quiet r (effect Program (data_rights w.image.layout) r.own.memory r.own.registers r.own.pc i) q

begun-quiet : (r : Run) → IsQuiet r → IsQuiet (begun r)
begun-quiet r q = record { shadow = q.shadow; fetches = q.fetches }

program-quiet : (w : World) (r : Run) → IsInProgram r → IsQuiet r → IsQuiet (step w r (O, Usual))
program-quiet w r at q = subst IsQuiet (sym (program-step w r Usual at)) (word-quiet w (begun r) (fetched (rewritten_text w) w.image.layout.text_start r.own.pc) (begun-quiet r q))

-- ---- a word of the program behind an idle move is an idle move behind it

begun-effect : (r : Run) (e : Effect) → (program_after r e).end ≡ None → program_after (begun r) e ≡ begun (program_after r e)
begun-effect r (Next rs pc) on = refl
begun-effect r (Stored a width v) on = refl
begun-effect r (Trapped cause) on = absurd cc
begun-effect r (Gated g) on = refl
begun-effect r Called on = refl

begun-word : (w : World) (r : Run) (o : Option Instr) → (program_at w r o).end ≡ None → program_at w (begun r) o ≡ begun (program_at w r o)
begun-word w r None on = absurd cc
begun-word w r (Some i) on = begun-effect r (effect Program (data_rights w.image.layout) r.own.memory r.own.registers r.own.pc i) on

begun-at : (r : Run) → IsInProgram r → IsInProgram (begun r)
begun-at r at = record { on = at.on; goes = at.goes; view = at.view }

begun-step : (w : World) (r : Run) → IsInProgram r → (step w r (O, Usual)).end ≡ None → step w (begun r) (O, Usual) ≡ begun (step w r (O, Usual))
begun-step w r at on =
    let is : step w r (O, Usual) ≡ program_step w (begun r) = program-step w r Usual at in
    program-step w (begun r) Usual (begun-at r at)
    ∙ begun-word w (begun r) (fetched (rewritten_text w) w.image.layout.text_start r.own.pc) (sym (ap (λ (q : Run). q.end) is) ∙ on)
    ∙ sym (ap begun is)

begun-words : (n : ℕ) (w : World) (r : Run) → AreOwnWords w n r → AreOwnWords w n (begun r)
begun-words zero w r words = tt
begun-words (suc n) w r words =
    let is = begun-step w r words.0 words.1 in
    (begun-at r words.0, ap (λ (q : Run). q.end) is ∙ words.1, subst (AreOwnWords w n) (sym is) (begun-words n w (step w r (O, Usual)) words.2))

begun-own : (n : ℕ) (w : World) (r : Run) → AreOwnWords w n r → run_from w (begun r) (own_moves n) ≡ begun (run_from w r (own_moves n))
unfolding run_from
begun-own zero w r words = refl
begun-own (suc n) w r words = ap (λ (q : Run). run_from w q (own_moves n)) (begun-step w r words.0 words.1) ∙ begun-own n w (step w r (O, Usual)) words.2

own-end : (n : ℕ) (w : World) (r : Run) → r.end ≡ None → AreOwnWords w n r → (run_from w r (own_moves n)).end ≡ None
unfolding run_from
own-end zero w r on words = on
own-end (suc n) w r on words = own-end n w (step w r (O, Usual)) words.1 words.2

own-quiet : (n : ℕ) (w : World) (r : Run) → IsQuiet r → AreOwnWords w n r → IsQuiet (run_from w r (own_moves n))
unfolding run_from
own-quiet zero w r q words = q
own-quiet (suc n) w r q words = own-quiet n w (step w r (O, Usual)) (program-quiet w r words.0 q) words.2

-- ---- a front of moves, with so many of the own hart

-- each is answered as usual
abbrev pub usual : List Move → Moves
usual moves = map (λ m. (m, Usual)) moves

or-true : (a b : Bool) → b ≡ true → (a || b) ≡ true
or-true true b e = refl
or-true false b e = e

-- ---- the run behind it

-- a move that is idle comes first
rest-run : (w : World) (r : Run) (m : Move) (moves : List Move) (n k : ℕ) → r.end ≡ None → IsQuiet r → AreOwnWords w n r → is_idle m r ≡ true
    → run_from w (begun r) (usual moves) ≡ run_from w (run_from w (begun r) (own_moves n)) (idles k S)
    → run_from w r (usual (m ∷ moves)) ≡ run_from w (run_from w r (own_moves n)) (idles (suc k) S)
unfolding run_from
rest-run w r m moves n k on q words idle rest =
    let here : Run = run_from w r (own_moves n) in
    ap (λ (x : Run). run_from w x (usual moves)) (step-idle w r (m, Usual) on idle)
    ∙ rest
    ∙ ap (λ (x : Run). run_from w x (idles k S)) (begun-own n w r words ∙ sym (step-idle w here (S, Usual) (own-end n w r on words) (own-quiet n w r q words).shadow))

-- it is the run behind the words, and behind as many idle moves as are left
pub front-run : (moves : List Move) (n k : ℕ) (w : World) (r : Run) → r.end ≡ None → IsQuiet r → AreOwnWords w n r → owns moves ≡ n → length moves ≡ n + k
    → run_from w r (usual moves) ≡ run_from w (run_from w r (own_moves n)) (idles k S)
unfolding run_from
front-run [] zero zero w r on q words own count = refl
front-run [] zero (suc k) w r on q words own count = absurd (omega (arith, count))
front-run [] (suc n) k w r on q words own count = absurd (omega (arith, count))
front-run (O ∷ moves) zero k w r on q words own count = absurd (omega (arith, own))
front-run (O ∷ moves) (suc n) k w r on q words own count =
    front-run moves n k w (step w r (O, Usual)) words.1 (program-quiet w r words.0 q) words.2 (omega (arith, own)) (omega (arith, count))
front-run (S ∷ moves) n zero w r on q words own count = absurd (omega (arith, own, count, owns-length moves))
front-run (S ∷ moves) n (suc k) w r on q words own count =
    rest-run w r S moves n k on q words q.shadow (front-run moves n k w (begun r) on (begun-quiet r q) (begun-words n w r words) (omega (arith, own)) (omega (arith, count)))
front-run (T ∷ moves) n zero w r on q words own count = absurd (omega (arith, own, count, owns-length moves))
front-run (T ∷ moves) n (suc k) w r on q words own count =
    rest-run w r T moves n k on q words (or-true (not r.stalled) _ q.shadow)
    (front-run moves n k w (begun r) on (begun-quiet r q) (begun-words n w r words) (omega (arith, own)) (omega (arith, count)))
front-run (D ∷ moves) n zero w r on q words own count = absurd (omega (arith, own, count, owns-length moves))
front-run (D ∷ moves) n (suc k) w r on q words own count =
    rest-run w r D moves n k on q words q.fetches (front-run moves n k w (begun r) on (begun-quiet r q) (begun-words n w r words) (omega (arith, own)) (omega (arith, count)))

-- ---- its moves, one by one

-- moves were made, and the run goes on
pub record HasRun (w : World) (ms : Moves) (before here : Outside) : Type 0 where
  pub made : GoesOn w (opened_run w) ms
  pub goes : (run w ms).end ≡ None
  pub heard : AreHeard w ms before here

pub next-HasRun : (w : World) (ms : Moves) (m : Move) (before here : Outside) → HasRun w ms before here → Hears w (run w ms) m Usual here here → (step w (run w ms) (m, Usual)).end ≡ None
    → HasRun w (ms ++ (m, Usual) ∷ []) before here
next-HasRun w ms m before here has hears on =
    record {
      made = goes-snoc w (opened_run w) ms (m, Usual) has.made has.goes;
      goes = ap (λ (q : Run). q.end) (moves_add_up w ms (m, Usual)).next ∙ on;
      heard = next_is_heard w ms m Usual before here here has.heard hears;
    }

module _ (w : World) (before here : Outside) where
  -- these moves may be made
  abbrev CanRun : List Move → ℕ → Type 0
  CanRun moves n = (ms : Moves) → HasRun w ms before here → IsQuiet (run w ms) → AreOwnWords w n (run w ms) → HasRun w (ms ++ usual moves) before here

  -- one, and those behind it
  more-HasRun : (m : Move) (moves : List Move) (n : ℕ) (ms : Moves) (next : Run) → CanRun moves n → HasRun w ms before here → Hears w (run w ms) m Usual here here → step w (run w ms) (m, Usual) ≡ next
      → next.end ≡ None → IsQuiet next → AreOwnWords w n next → HasRun w (ms ++ usual (m ∷ moves)) before here
  more-HasRun m moves n ms next can has hears is on q words =
      let at : run w (ms ++ (m, Usual) ∷ []) ≡ next = (moves_add_up w ms (m, Usual)).next ∙ is in
      let one = next-HasRun w ms m before here has hears (ap (λ (x : Run). x.end) is ∙ on) in
      subst (λ l. HasRun w l before here) (append_assoc ms ((m, Usual) ∷ []) (usual moves)) (can (ms ++ (m, Usual) ∷ []) one (subst IsQuiet (sym at) q) (subst (AreOwnWords w n) (sym at) words))

  idle-HasRun : (m : Move) (moves : List Move) (n : ℕ) (ms : Moves) → CanRun moves n → HasRun w ms before here → is_idle m (run w ms) ≡ true → IsQuiet (run w ms) → AreOwnWords w n (run w ms)
      → HasRun w (ms ++ usual (m ∷ moves)) before here
  idle-HasRun m moves n ms can has idle q words =
      let r : Run = run w ms in
      more-HasRun m moves n ms (begun r) can has (idle-hears w r m here has.goes idle) (step-idle w r (m, Usual) has.goes idle) has.goes (begun-quiet r q) (begun-words n w r words)

  pub front-HasRun : (moves : List Move) (n : ℕ) → owns moves ≡ n → CanRun moves n
  front-HasRun [] n own ms has q words = subst (λ l. HasRun w l before here) (sym (append-nil ms)) has
  front-HasRun (O ∷ moves) zero own ms has q words = absurd (omega (arith, own))
  front-HasRun (O ∷ moves) (suc n) own ms has q words =
      more-HasRun O moves n ms (step w (run w ms) (O, Usual)) (front-HasRun moves n (omega (arith, own))) has (program-hears w (run w ms) here words.0) refl words.1 (program-quiet w (run w ms) words.0 q) words.2
  front-HasRun (S ∷ moves) n own ms has q words = idle-HasRun S moves n ms (front-HasRun moves n (omega (arith, own))) has q.shadow q words
  front-HasRun (T ∷ moves) n own ms has q words = idle-HasRun T moves n ms (front-HasRun moves n (omega (arith, own))) has (or-true (not (run w ms).stalled) _ q.shadow) q words
  front-HasRun (D ∷ moves) n own ms has q words = idle-HasRun D moves n ms (front-HasRun moves n (omega (arith, own))) has q.fetches q words

-- ---- what a runner makes of it

usual-firsts : (moves : List Move) → firsts (usual moves) ≡ moves
usual-firsts [] = refl
usual-firsts (m ∷ moves) = ap (λ l. m ∷ l) (usual-firsts moves)

module _
    (now mid new : Runner) (n k : ℕ) (coming left : List Move) (passes : Passes n coming left) (count : length coming ≡ n + k + length left)
    (shadow : (w : World) (r : Run) → Shows now w r → true ≡ is_idle S r) (fetches : (w : World) (r : Run) → Shows now w r → true ≡ is_idle D r)
    (makes : (w : World) (r : Run) → Accepted w → Shows now w r → MakesOwnWords n mid w r) (rest : Rests k mid new) where
  pub front-Progress : (pattern : Pattern) (turns : ℕ) (old : Runner) (before here : Outside) → Progress pattern turns coming old now before here → Progress pattern turns left old new before here
  front-Progress pattern turns old before here log =
      record {
        ms = log.ms ++ usual passes.front;
        schedule =
            ap (λ l. l ++ left) (map-append (λ m. m.0) log.ms (usual passes.front) ∙ ap (λ l. firsts log.ms ++ l) (usual-firsts passes.front))
            ∙ append_assoc (firsts log.ms) passes.front left ∙ ap (λ l. firsts log.ms ++ l) (sym passes.are) ∙ log.schedule;
        said = log.said;
        told = log.told;
        files = log.files;
        went = λ w acc shows holds. (
            let has = log.went w acc shows holds in
            let r : Run = run w log.ms in
            let own = makes w r acc has.shows in
            let quiet : IsQuiet r = record { shadow = sym (shadow w r has.shows); fetches = sym (fetches w r has.shows) } in
            let all = front-HasRun w before here passes.front n passes.own_is log.ms (record { made = has.made; goes = has.goes; heard = has.heard }) quiet own.words in
            let behind : Run = run_from w r (own_moves n) in
            let end = own-end n w r has.goes own.words in
            let many : length passes.front ≡ n + k = omega (arith, count, ap length passes.are, length-append passes.front left) in
            record {
              made = all.made;
              goes = all.goes;
              shows =
                  subst (λ q. Shows new w q)
                  (sym (run-append w (opened_run w) log.ms (usual passes.front) ∙ front-run passes.front n k w r has.goes quiet own.words passes.own_is many))
                  (rest w behind (idles k S) own.shows end (are-idle k S behind (own-quiet n w r quiet own.words).shadow) (idles-length k S));
              heard = all.heard;
            });
      }
