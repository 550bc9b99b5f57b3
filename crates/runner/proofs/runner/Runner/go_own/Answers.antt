use Rattle.std.proofs.Common.{◌≡◌, ℕ, suc, ◌+◌, Bool, true, false, inl, inr, sym, ap, subst, ◌∙◌, arith}
use Rattle.spec_base.specs.declared.machine.View.{View}
use Rattle.spec_base.specs.declared.machine.View.TheVariants.{Program, Stub}
use Rattle.rv_model.specs.Space.{Space}
use Rattle.program_model.specs.PlainRun.{State}
use Rattle.run_model.specs.Run.{Run}
use Rattle.run_model.specs.Moves.{begun, run_from}
use Rattle.machine_laws.specs.OneMachine.{space_of_run}
use Rattle.hart_mem.specs.Held.{lacks_frame, space_of}
use Rattle.hart_step.specs.Core.{Core, core_of}
use Rattle.hart_step.specs.Step.{stepped, effect_here}
use Rattle.hart_step.specs.declared.event.Event.TheVariants as event
use Rattle.word_laws.specs.Shown.{ShowsOwn, with_own}
use Rattle.runner.specs.Shows.{Shows}
use Rattle.runner.specs.Stretches.{IsInProgram, AreOwnWords, own_moves, words_done}
use Rattle.runner.specs.declared.runner.Runner.{Runner}
use Rattle.runner.proofs.Moved.{shows-as}
use Rattle.runner.proofs.Words.{program-rests, own-after, cache-after}
use Rattle.runner.proofs.Stretched.{stopped-Stands, stopped-EndsOrWants, stands-view, stands-space, stands-side, gate-Enters, gate-with, done-rests, wants-as}
use Rattle.runner.proofs.runner.Runner.go_own.Goals as goal

pub returns-then-not-is_in_program-clause-makes : goal.returns-then-not-is_in_program-clause-makes
unfolding run_from
returns-then-not-is_in_program-clause-makes c w r a h = record { words = tt; shows = h }

pub returns-then-not-is_in_program-clause-stops : goal.returns-then-not-is_in_program-clause-stops
unfolding run_from
returns-then-not-is_in_program-clause-stops c few w r a h =
    inl (λ at. let e : true ≡ false = sym (c.is_in_program.ensures.knows w r h at) ∙ c.if-not-is_in_program.true in cc)

pub returns-in-Gate-clause-stops : goal.returns-in-Gate-clause-stops
returns-in-Gate-clause-stops c few w r a h =
    let v : Runner = c.args.self.now in
    let d : Core = core_of c.steps-done.new.hart in
    let t : Space = space_of c.steps-done.new.mem in
    let n : ℕ = c.steps-done.result.0 in
    let at : IsInProgram r = c.is_in_program.ensures.is w r h c.if-not-is_in_program.false in
    let shows : ShowsOwn Program w r (core_of v.own) (space_of v.mem) = record { view = at.view; hart = h.own.hart; space = h.space } in
    let enters = gate-Enters w r a at v.mem (core_of v.own) (space_of v.mem) shows c.args.most n c.steps-done.result.1 (lacks_frame (core_of v.own).view c.steps-done.new.mem) d t c.steps-done.ensures.steps c.in-Gate.is in
    let one : suc n ≡ n + 1 = omega arith in
    let in_stub : (run_from w r (own_moves (n + 1))).view ≡ Stub = subst (λ (k : ℕ). (run_from w r (own_moves k)).view ≡ Stub) one (ap (λ (q : Run). q.view) enters.is ∙ enters.stub) in
    inl (λ there. let e : Program ≡ Stub = sym there.view ∙ in_stub in cc)

pub returns-in-Gate-clause-makes : goal.returns-in-Gate-clause-makes
unfolding space_of_run
returns-in-Gate-clause-makes c w r a h =
    let v : Runner = c.args.self.now in
    let d : Core = core_of c.steps-done.new.hart in
    let t : Space = space_of c.steps-done.new.mem in
    let n : ℕ = c.steps-done.result.0 in
    let at : IsInProgram r = c.is_in_program.ensures.is w r h c.if-not-is_in_program.false in
    let shows : ShowsOwn Program w r (core_of v.own) (space_of v.mem) = record { view = at.view; hart = h.own.hart; space = h.space } in
    let enters = gate-Enters w r a at v.mem (core_of v.own) (space_of v.mem) shows c.args.most n c.steps-done.result.1 (lacks_frame (core_of v.own).view c.steps-done.new.mem) d t c.steps-done.ensures.steps c.in-Gate.is in
    let rest = program-rests v w r a h (ap (λ (k : Core). k.view) h.own.hart ∙ at.view) in
    let mid : Run = with_own r d t in
    let old : Shows c.complete_words.new.self w (words_done n mid) = c.complete_words.ensures.shows w mid (record {
      space = enters.space;
      own = own-after v w r d t h enters.side;
      shadow = h.shadow;
      sizes = h.sizes;
      cache = cache-after v w r d t h rest;
      counts = h.counts;
      ahead = h.ahead;
      whole = h.whole;
      end = h.end;
      notes = h.notes;
      text = h.text;
    }) in
    let gate : State = (begun (words_done n (with_own r enters.at enters.here))).own in
    let new : Shows c.enter.new.self w (record (begun (words_done n mid)) { at_gate = gate; asked = false }) = c.enter.ensures.shows w (words_done n mid) gate old (done-rests n r d t rest) in
    let one : suc n ≡ n + 1 = omega arith in
    record {
      words = subst (λ (k : ℕ). AreOwnWords w k r) one enters.words;
      shows = subst (λ (k : ℕ). Shows c.enter.new.self w (run_from w r (own_moves k))) one (shows-as c.enter.new.self w _ _ (enters.is ∙ gate-with n r enters.at d enters.here t gate) new);
    }

pub returns-in_default : goal.returns-in_default
unfolding space_of_run
returns-in_default c =
    let v : Runner = c.args.self.now in
    let d : Core = core_of c.steps-done.new.hart in
    let t : Space = space_of c.steps-done.new.mem in
    let n : ℕ = c.steps-done.result.0 in
    record {
      most = c.steps-done.ensures.most;
      makes = λ w r a h. (
          let at : IsInProgram r = c.is_in_program.ensures.is w r h c.if-not-is_in_program.false in
          let shows : ShowsOwn Program w r (core_of v.own) (space_of v.mem) = record { view = at.view; hart = h.own.hart; space = h.space } in
          let stands = stopped-Stands w r a at v.mem (core_of v.own) (space_of v.mem) shows c.args.most n c.steps-done.result.1 (lacks_frame (core_of v.own).view c.steps-done.new.mem) d t c.steps-done.ensures.steps c.in_default.not-Gate in
          let rest = program-rests v w r a h (ap (λ (k : Core). k.view) h.own.hart ∙ at.view) in
          record {
            words = stands.words;
            shows = shows-as c.complete_words.new.self w _ (words_done n (with_own r d t)) stands.is (c.complete_words.ensures.shows w (with_own r d t) (record {
              space = stands-space w r a at v.mem n d t stands;
              own = own-after v w r d t h (stands-side w r a at v.mem n d t stands);
              shadow = h.shadow;
              sizes = h.sizes;
              cache = cache-after v w r d t h rest;
              counts = h.counts;
              ahead = h.ahead;
              whole = h.whole;
              end = h.end;
              notes = h.notes;
              text = h.text;
            }));
          });
      stops = λ few w r a h. (
          let at : IsInProgram r = c.is_in_program.ensures.is w r h c.if-not-is_in_program.false in
          let shows : ShowsOwn Program w r (core_of v.own) (space_of v.mem) = record { view = at.view; hart = h.own.hart; space = h.space } in
          let lacks : ℕ → Bool = lacks_frame (core_of v.own).view c.steps-done.new.mem in
          let stands = stopped-Stands w r a at v.mem (core_of v.own) (space_of v.mem) shows c.args.most n c.steps-done.result.1 lacks d t c.steps-done.ensures.steps c.in_default.not-Gate in
          let view : d.view ≡ (core_of v.own).view = stands-view w r a at v.mem n d t stands ∙ sym (ap (λ (k : Core). k.view) h.own.hart ∙ at.view) in
          elim (stopped-EndsOrWants w r a at v.mem (core_of v.own) (space_of v.mem) shows c.args.most n c.steps-done.result.1 lacks d t c.steps-done.ensures.steps c.in_default.not-Gate few) [
            | inl over ↦ inr (inl over)
            | inr wants ↦ inr
                (inr
                (wants-as c.steps-done.new.hart c.steps-done.new.mem c.complete_words.new.self.own c.complete_words.new.self.mem c.complete_words.ensures.own.0 c.complete_words.ensures.own.1
                (subst (λ (x : View). (stepped (lacks_frame x c.steps-done.new.mem) (effect_here d t) d t).event ≡ event.NoMemory) (sym view) wants)))
          ]);
      moves = c.complete_words.ensures.moves;
      end = c.complete_words.ensures.end;
    }
