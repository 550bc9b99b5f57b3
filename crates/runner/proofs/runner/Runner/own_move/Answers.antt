use Rattle.std.proofs.Common.{◌≡◌, Bool, Option, Some, None, [], refl, sym, ap, ◌∙◌, subst}
use Rattle.run_model.specs.Run.{Usual}
use Rattle.run_model.specs.Moves.{begun}
use Rattle.run_model.specs.OwnMoves.{own_in}
use Rattle.plain_runner.specs.Runs.{Outside}
use Rattle.move_requests.specs.Asked.{Nothing}
use Rattle.runner.specs.OwnGoes.{word_asks}
use Rattle.runner.proofs.Moved.{shows-as, still-none}
use Rattle.runner.proofs.Outside.{hears-nothing, said-nothing}
use Rattle.runner.proofs.OwnMoves.{stalled-asks, word-asks, stalled-step, word-step, answered-as}
use Rattle.runner.proofs.Causes.{still-caused, tells-after}
use Rattle.runner.specs.Causes.{TellsEnd}
use Rattle.runner_parts.specs.Turns.{turn_if, turn_after}
use Rattle.runner_parts.specs.declared.turn.End.{End}
use Rattle.runner_parts.specs.declared.turn.End.TheVariants as ending
use Rattle.runner_parts.specs.declared.turn.Turn.{Turn}
use Rattle.runner_parts.specs.declared.turn.Turn.TheVariants.{Idle, Went, Ended, StoreFault, SinkFault, NoMemory}
use Rattle.runner.proofs.runner.Runner.own_move.Goals as goal

-- a word that is made never wants pages
no-pages : (e : Option End) → turn_after e ≡ NoMemory → ⊥
no-pages None wants = absurd (let f : Went ≡ NoMemory = wants in cc)
no-pages (Some (ending.Exit code)) wants = absurd (let f : Ended (ending.Exit code) ≡ NoMemory = wants in cc)
no-pages (Some (ending.Trap cause pc)) wants = absurd (let f : Ended (ending.Trap cause pc) ≡ NoMemory = wants in cc)
no-pages (Some ending.Store) wants = absurd (let f : StoreFault ≡ NoMemory = wants in cc)
no-pages (Some ending.Sink) wants = absurd (let f : SinkFault ≡ NoMemory = wants in cc)

pub returns-then-self-clause-moves : goal.returns-then-self-clause-moves
returns-then-self-clause-moves g c made = c.begin.ensures.moves

pub returns-then-self-clause-wants : goal.returns-then-self-clause-wants
returns-then-self-clause-wants g c wants = absurd (let e : Idle ≡ NoMemory = wants in cc)

pub returns-then-self-clause-turn : goal.returns-then-self-clause-turn
returns-then-self-clause-turn g c made = ap (λ (b : Bool). turn_if b (turn_after c.begin.new.self.end)) (sym c.if-self.true)

pub returns-then-self-clause-tells : goal.returns-then-self-clause-tells
returns-then-self-clause-tells g c = c.begin.ensures.end ∙ c.requires.on

pub returns-then-spare-lt-PAGES-clause-moves : goal.returns-then-spare-lt-PAGES-clause-moves
returns-then-spare-lt-PAGES-clause-moves g c made = absurd (made refl)

pub returns-then-spare-lt-PAGES-clause-turn : goal.returns-then-spare-lt-PAGES-clause-turn
returns-then-spare-lt-PAGES-clause-turn g c made = absurd (made refl)

pub returns-then-spare-lt-PAGES-clause-makes : goal.returns-then-spare-lt-PAGES-clause-makes
returns-then-spare-lt-PAGES-clause-makes g c made = absurd (made refl)

pub returns-then-spare-lt-PAGES-clause-caused : goal.returns-then-spare-lt-PAGES-clause-caused
returns-then-spare-lt-PAGES-clause-caused g c = still-caused _ _ c.requires.on

pub returns-then-spare-lt-PAGES-clause-tells : goal.returns-then-spare-lt-PAGES-clause-tells
returns-then-spare-lt-PAGES-clause-tells g c = c.requires.on

pub returns-clause-moves : goal.returns-clause-moves
returns-clause-moves g c made = c.own_word.ensures.moves ∙ c.begin-2.ensures.moves

pub returns-clause-wants : goal.returns-clause-wants
returns-clause-wants g c wants = absurd (no-pages c.own_word.new.self.end (sym c.turn_after.ensures ∙ wants))

pub returns-clause-turn : goal.returns-clause-turn
returns-clause-turn g c made = c.turn_after.ensures ∙ ap (λ (b : Bool). turn_if b (turn_after c.own_word.new.self.end)) (sym c.if-self.false)

pub returns-clause-caused : goal.returns-clause-caused
returns-clause-caused g c = c.own_word.ensures.caused

pub returns-then-self-clause-makes : goal.returns-then-self-clause-makes
returns-then-self-clause-makes g c made =
    let o : Outside = record { store = g.D.Store.state c.args.store.now; out = g.O.Sink.state c.args.out.now; err = g.E.Sink.state c.args.err.now } in
    record {
      answer = Usual;
      said = [];
      told = λ files e. said-nothing files;
      files = refl;
      hears = λ w r a h. answered-as w r Usual o o Nothing (stalled-asks w r (still-none r.end (sym h.end ∙ c.requires.on)) (sym h.own.stalled_is ∙ c.if-self.true)) (hears-nothing o);
      shows = λ w r a h sizes said.
          shows-as c.begin.new.self w _ (begun r) (stalled-step w r (still-none r.end (sym h.end ∙ c.requires.on)) Usual (sym h.own.stalled_is ∙ c.if-self.true)) (c.begin.ensures.shows w r h);
    }

pub returns-clause-makes : goal.returns-clause-makes
returns-clause-makes g c made =
    let o : Outside = record { store = g.D.Store.state c.args.store.now; out = g.O.Sink.state c.args.out.now; err = g.E.Sink.state c.args.err.now } in
    let n : Outside = record { store = g.D.Store.state c.own_word.new.store; out = g.O.Sink.state c.own_word.new.out; err = g.E.Sink.state c.own_word.new.err } in
    let p = c.own_word.ensures.makes in
    record {
      answer = p.answer;
      said = p.said;
      told = p.told;
      files = p.files;
      hears = λ w r a h.
          answered-as w r p.answer o n (word_asks w (begun r)) (word-asks w r (still-none r.end (sym h.end ∙ c.requires.on)) (sym h.own.stalled_is ∙ c.if-self.false)) (p.hears w (begun r) a (c.begin-2.ensures.shows w r h));
      shows = λ w r a h sizes said.
          shows-as c.own_word.new.self w _ (own_in r.view w p.answer (begun r)) (word-step w r (still-none r.end (sym h.end ∙ c.requires.on)) p.answer (sym h.own.stalled_is ∙ c.if-self.false))
          (p.shows w (begun r) a (c.begin-2.ensures.shows w r h) sizes said);
    }

pub returns-then-self-clause-caused : goal.returns-then-self-clause-caused
returns-then-self-clause-caused g c = still-caused _ _ (c.begin.ensures.end ∙ c.requires.on)

pub returns-clause-tells : goal.returns-clause-tells
returns-clause-tells g c = subst (λ (t : Turn). TellsEnd t c.own_word.new.self.end) (sym c.turn_after.ensures) (tells-after c.own_word.new.self.end)
