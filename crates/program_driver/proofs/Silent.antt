-- Moves of one hart, made at once, that ask nothing.
use Rattle.std.proofs.Common.{◌≡◌, ℕ, zero, suc, ◌+◌, ◌-◌, ◌≤◌, ◌<◌, ◌⊎◌, inl, inr, Bool, true, false, not, ◌||◌, List, [], ◌∷◌, ◌++◌, None, refl, ap, sym, ◌∙◌, subst, arith}
use Rattle.std.specs.Prelude.{replicate}
use Rattle.std.proofs.lemmas.List.{append_assoc, append-nil, map-append, replicate-append-replicate}
use Rattle.spec_base.specs.declared.note.Move.{Move}
use Rattle.spec_base.specs.declared.note.Move.TheVariants.{O, S, T, D}
use Rattle.spec_base.specs.declared.note.ShadowState.{ShadowState}
use Rattle.run_model.specs.Run.{World, Run, Usual, opened_run}
use Rattle.run_model.specs.ShadowMoves.{is_running, fetch_shadow, shadow_plan}
use Rattle.run_model.specs.Moves.{Moves, step, run, run_from, is_idle}
use Rattle.run_model.specs.Patterns.{Pattern}
use Rattle.run_laws.specs.OwnLaws.{Accepted, OwnPart}
use Rattle.own_laws.proofs.InvisibleShadow.{shadow_is_invisible}
use Rattle.plain_runner.specs.Runs.{Outside}
use Rattle.move_requests.specs.Asked.{Nothing, asks, asks_if, assuming_asks}
use Rattle.move_requests.specs.Hears.{Hears}
use Rattle.move_requests.proofs.Snoc.{moves_add_up}
use Rattle.runner.specs.Shows.{Shows}
use Rattle.runner.specs.Stretches.{AreOwnWords, MakesOwnWords, IsShadowWord, AreShadowWords, shadow_moves, MakesShadowWords, StopsShadow}
use Rattle.runner.specs.declared.runner.Runner.{Runner}
use Rattle.runner.proofs.ShadowSteps.{asks-running, asks-waiting, step-waiting, not-call}
use Rattle.program_driver.specs.Progress.{Progress, MakesSome, StopsAt, StopsOnly}
use Rattle.program_driver.proofs.Driven.{firsts, moves-Progress}
use Rattle.program_driver.proofs.Idling.{silent-hears, idles, idles-firsts, run-append}
use Rattle.program_driver.proofs.AtOnce.{HasRun, next-HasRun, program-hears}

-- ---- moves that ask nothing

-- each of so many moves asks nothing, and none ends the run
abbrev pub AreSilent : World → Move → ℕ → Run → Type 0
AreSilent w m zero r = Unit {0}
AreSilent w m (suc n) r = ((o : Outside) → Hears w r m Usual o o) × ((step w r (m, Usual)).end ≡ None) × AreSilent w m n (step w r (m, Usual))

silent-HasRun : (w : World) (m : Move) (before here : Outside) (n : ℕ) (ms : Moves) → HasRun w ms before here → AreSilent w m n (run w ms) → HasRun w (ms ++ idles n m) before here
silent-HasRun w m before here zero ms has silent = subst (λ l. HasRun w l before here) (sym (append-nil ms)) has
silent-HasRun w m before here (suc n) ms has silent =
    let one = next-HasRun w ms m before here has (silent.0 here) silent.1 in
    subst (λ l. HasRun w l before here) (append_assoc ms ((m, Usual) ∷ []) (idles n m))
    (silent-HasRun w m before here n (ms ++ (m, Usual) ∷ []) one (subst (AreSilent w m n) (sym (moves_add_up w ms (m, Usual)).next) silent.2))

-- a runner made so many of a move, and they asked nothing
pub record MakesSilent (m : Move) (n : ℕ) (u : Runner) (w : World) (r : Run) : Type 0 where
  pub silent : AreSilent w m n r
  pub shows : Shows u w (run_from w r (idles n m))

abbrev pub Makes : Move → ℕ → Runner → Runner → Type 0
Makes m n now new = (w : World) (r : Run) → Accepted w → Shows now w r → MakesSilent m n new w r

-- so the schedule has come so much further
module _ (now new : Runner) (m : Move) (n : ℕ) (left : List Move) (makes : Makes m n now new) (pattern : Pattern) (turns : ℕ) (old : Runner) (before here : Outside) where
  silent-Progress : Progress pattern turns (replicate n m ++ left) old now before here → Progress pattern turns left old new before here
  silent-Progress log =
      record {
        ms = log.ms ++ idles n m;
        schedule =
            ap (λ l. l ++ left) (map-append (λ k. k.0) log.ms (idles n m) ∙ ap (λ l. firsts log.ms ++ l) (idles-firsts n m))
            ∙ append_assoc (firsts log.ms) (replicate n m) left ∙ log.schedule;
        said = log.said;
        told = log.told;
        files = log.files;
        went = λ w acc shows holds. (
            let has = log.went w acc shows holds in
            let by = makes w (run w log.ms) acc has.shows in
            let all = silent-HasRun w m before here n log.ms (record { made = has.made; goes = has.goes; heard = has.heard }) by.silent in
            record {
              made = all.made;
              goes = all.goes;
              shows = subst (λ r. Shows new w r) (sym (run-append w (opened_run w) log.ms (idles n m))) by.shows;
              heard = all.heard;
            });
      }

-- of the moves of a stretch
stretch-split : (most n : ℕ) (m : Move) (left : List Move) → n ≤ most → replicate most m ++ left ≡ replicate n m ++ (replicate (most - n) m ++ left)
stretch-split most n m left few =
    let e : most ≡ n + (most - n) = omega (arith, few) in
    ap (λ k. replicate k m ++ left) e ∙ ap (λ l. l ++ left) (sym (replicate-append-replicate n (most - n) m)) ∙ append_assoc (replicate n m) (replicate (most - n) m) left

pub silent-front : (now new : Runner) (m : Move) (most n : ℕ) → n ≤ most → Makes m n now new → MakesSome m most n now new
silent-front now new m most n few makes here left pattern turns old before log =
    silent-Progress now new m n (replicate (most - n) m ++ left) makes pattern turns old before here
    (moves-Progress pattern turns old now before here (replicate most m ++ left) (replicate n m ++ (replicate (most - n) m ++ left)) (stretch-split most n m left few) log)

-- of an equal move
pub front-as : (now new : Runner) (m k : Move) (most n : ℕ) → m ≡ k → MakesSome k most n now new → MakesSome m most n now new
front-as now new m k most n is h = subst (λ m. MakesSome m most n now new) (sym is) h

-- ---- words of the program

own-silent : (n : ℕ) (w : World) (r : Run) → AreOwnWords w n r → AreSilent w O n r
own-silent zero w r words = tt
own-silent (suc n) w r words = ((λ o. program-hears w r o words.0), words.1, own-silent n w (step w r (O, Usual)) words.2)

pub own-Makes : (now new : Runner) (n : ℕ) → ((w : World) (r : Run) → Accepted w → Shows now w r → MakesOwnWords n new w r) → Makes O n now new
own-Makes now new n makes w r acc shows = let own = makes w r acc shows in record { silent = own-silent n w r own.words; shows = own.shows }

-- ---- words of the shadow

shadow-asks : (w : World) (r : Run) → IsShadowWord w r → asks w r S ≡ Nothing
shadow-asks w r word =
    asks-running w r word.on (ap (λ (s : ShadowState). is_running s) word.runs) ∙ ap (λ b. asks_if b (assuming_asks (shadow_plan w r))) (not-call (fetch_shadow w r.shadow.pc) word.no_call)

-- it leaves what is the program's
shadow-on : (w : World) (r : Run) → IsShadowWord w r → (step w r (S, Usual)).end ≡ None
shadow-on w r word = ap (λ (p : OwnPart). p.end) (shadow_is_invisible w r S Usual tt).leaves ∙ word.on

shadow-waits : (w : World) (r : Run) → (step w r (S, Usual)).stalled ≡ r.stalled
shadow-waits w r = ap (λ (p : OwnPart). p.stalled) (shadow_is_invisible w r S Usual tt).leaves

shadow-silent : (n : ℕ) (w : World) (r : Run) → AreShadowWords w n r → AreSilent w S n r
shadow-silent zero w r words = tt
shadow-silent (suc n) w r words = ((λ o. silent-hears w r S o (shadow-asks w r words.0)), shadow-on w r words.0, shadow-silent n w (step w r (S, Usual)) words.1)

-- a runner made so many words of the shadow
abbrev pub ShadowMakes : ℕ → Runner → Runner → Type 0
ShadowMakes n now new = (w : World) (r : Run) → Accepted w → Shows now w r → MakesShadowWords n new w r

pub shadow-Makes : (now new : Runner) (n : ℕ) → ShadowMakes n now new → Makes S n now new
shadow-Makes now new n makes w r acc shows = let by = makes w r acc shows in record { silent = shadow-silent n w r by.words; shows = by.shows }

-- ---- the same while the own hart waits

waiting-silent : (n : ℕ) (w : World) (r : Run) → r.stalled ≡ true → AreShadowWords w n r → AreSilent w T n r
waiting-silent zero w r waits words = tt
waiting-silent (suc n) w r waits words =
    let is = step-waiting w r words.0.on Usual waits in (
      (λ o. silent-hears w r T o (asks-waiting w r words.0.on waits ∙ shadow-asks w r words.0)),
      ap (λ (q : Run). q.end) is ∙ shadow-on w r words.0,
      subst (AreSilent w T n) (sym is) (waiting-silent n w (step w r (S, Usual)) (shadow-waits w r ∙ waits) words.1),
    )

pub waiting-run : (n : ℕ) (w : World) (r : Run) → r.stalled ≡ true → AreShadowWords w n r → run_from w r (idles n T) ≡ run_from w r (shadow_moves n)
unfolding run_from
waiting-run zero w r waits words = refl
waiting-run (suc n) w r waits words =
    ap (λ (q : Run). run_from w q (idles n T)) (step-waiting w r words.0.on Usual waits) ∙ waiting-run n w (step w r (S, Usual)) (shadow-waits w r ∙ waits) words.1

waits-of : (s q : Bool) → (not s || not q) ≡ false → s ≡ true
waits-of true q e = refl
waits-of false q e = absurd (let f : true ≡ false = e in cc)

pub waiting-Makes : (now new : Runner) (n : ℕ) → ((w : World) (r : Run) → Shows now w r → is_idle T r ≡ false) → ShadowMakes n now new → Makes T n now new
waiting-Makes now new n busy makes w r acc shows =
    let by = makes w r acc shows in
    let waits : r.stalled ≡ true = waits-of r.stalled (is_running r.shadow.state) (busy w r shows) in
    record { silent = waiting-silent n w r waits by.words; shows = subst (λ q. Shows new w q) (sym (waiting-run n w r waits by.words)) by.shows }

-- ---- where they end

-- an idle move isn't made at once
pub idle-stops : (m : Move) (u : Runner) (w : World) (r : Run) → is_idle m r ≡ true → StopsAt m u w (run_from w r (replicate 0 (m, Usual)))
unfolding run_from
idle-stops O u w r e = inl (λ at. let f : true ≡ false = sym e ∙ at.goes in cc)
idle-stops S u w r e = inr (inl (λ runs. let f : true ≡ false = sym e ∙ ap (λ (s : ShadowState). not (is_running s)) runs in cc))
idle-stops T u w r e = free-or r.stalled e
  where
    free-or : (s : Bool) → (not s || not (is_running r.shadow.state)) ≡ true → (s ≡ false) ⊎ StopsShadow w r
    free-or false f = inl refl
    free-or true f = inr (inr (inl (λ runs. let g : true ≡ false = sym f ∙ ap (λ (s : ShadowState). not (is_running s)) runs in cc)))
idle-stops D u w r e = tt

-- of an equal move
pub stops-as : (now new : Runner) (m k : Move) (most n : ℕ) → m ≡ k → StopsOnly k most n now new → StopsOnly m most n now new
stops-as now new m k most n is h = subst (λ m. StopsOnly m most n now new) (sym is) h

-- while the own hart waits
pub waiting-stops :
    (now new : Runner) (most n : ℕ) → ((w : World) (r : Run) → Shows now w r → is_idle T r ≡ false) → ShadowMakes n now new
    → (n < most → (w : World) (r : Run) → Accepted w → Shows now w r → StopsShadow w (run_from w r (shadow_moves n))) → StopsOnly T most n now new
waiting-stops now new most n busy makes stops few w r acc shows =
    inr
    (subst (λ q. StopsShadow w q) (sym (waiting-run n w r (waits-of r.stalled (is_running r.shadow.state) (busy w r shows)) (makes w r acc shows).words))
    (stops few w r acc shows))
