use Rattle.std.proofs.Common.{◌≡◌, ◌+◌, Some, true, false, refl, ◌∙◌, ap, ap₂, sym, subst, arith}
use Rattle.hart_mem.specs.Held.{space_of}
use Rattle.hart_step.specs.Core.{HeldCore, Core, core_of}
use Rattle.run_model.specs.ShadowMoves.{is_arrival}
use Rattle.shadow_walk.proofs.Strides.{Turned, sets_out, done, keyed, parked, called, strayed, is-stray, comes_there, goes_between}
use Rattle.shadow_walk.proofs.Onward.{Anew, begins_anew, passes_on, onward, keyless, strays, never-parks, never-comes, calls-anew, anew-few, words-some, few-words}
use Rattle.shadow_walk.proofs.Behind.{Answered, Back, begins_onward, begins_back, never-calls, never-parked, parks-back, arrives-at-once, arrives-back, goes-back}
use Rattle.shadow_walk.specs.Restarts.{kept_x31, Returns, ReturnsAtOnce}
use Rattle.shadow_walk.specs.declared.walking.Walked.TheVariants as walked
use Rattle.rv_model.specs.Registers.{with_reg}
use Rattle.shadow_walk.proofs.walking.walk.Goals as goal
use Rattle.shadow_walk.proofs.walking.walk.Goals.{in-Done, in-Key}

pub loop-words-init : goal.loop-words-init
loop-words-init c =
    record {
      view = c.requires.shadow;
      spare = refl;
      way = sets_out c.args.layout.now c.args.key (core_of c.args.hart.now) (space_of c.args.mem.now);
      anew = begins_anew c.args.layout.now (core_of c.args.hart.now) (space_of c.args.mem.now);
      onward = begins_onward c.args.layout.now (core_of c.args.hart.now) (space_of c.args.mem.now);
      back = begins_back c.args.layout.now (core_of c.args.hart.now) (space_of c.args.mem.now);
    }

pub advance-requires : goal.advance-requires
advance-requires c = record { shadow = c.loop-words.invariant.view }

pub returns-in-Park-clause-block : goal.returns-in-Park-clause-block
returns-in-Park-clause-block c w x r q a same shows at key =
    parked w a (record { outcome = c.advance.ensures.outcome; moves = c.advance.ensures.moves }) (c.loop-words.invariant.way w x r q a same shows at key) c.in-Park.cause c.in-Park.is

pub returns-in-Call-clause-block : goal.returns-in-Call-clause-block
returns-in-Call-clause-block c w x r q a same shows at key =
    called w a (record { outcome = c.advance.ensures.outcome; moves = c.advance.ensures.moves }) (c.loop-words.invariant.way w x r q a same shows at key) c.in-Call.unhinted c.in-Call.is

pub returns-in-Park-clause-anew : goal.returns-in-Park-clause-anew
returns-in-Park-clause-anew c w x r a same shows at = absurd (never-parks w a (record { outcome = c.advance.ensures.outcome; moves = c.advance.ensures.moves }) (c.loop-words.invariant.anew w x r a same shows at) c.in-Park.cause c.in-Park.is)

pub returns-in-Call-clause-anew : goal.returns-in-Call-clause-anew
returns-in-Call-clause-anew c w x r a same shows at =
    calls-anew w a (record { outcome = c.advance.ensures.outcome; moves = c.advance.ensures.moves }) (c.loop-words.invariant.anew w x r a same shows at) c.in-Call.unhinted c.in-Call.is

pub returns-in-Park-clause-onward : goal.returns-in-Park-clause-onward
returns-in-Park-clause-onward c w x r q a same shows at = absurd (never-parked w a (record { outcome = c.advance.ensures.outcome; moves = c.advance.ensures.moves }) at (c.loop-words.invariant.onward w x r q a same shows at) c.in-Park.cause c.in-Park.is)

pub returns-in-Call-clause-onward : goal.returns-in-Call-clause-onward
returns-in-Call-clause-onward c w x r q a same shows at = absurd (never-calls w a (record { outcome = c.advance.ensures.outcome; moves = c.advance.ensures.moves }) (c.loop-words.invariant.onward w x r q a same shows at) c.in-Call.unhinted c.in-Call.is)

pub returns-in-Park-clause-back : goal.returns-in-Park-clause-back
returns-in-Park-clause-back c w x r site a same shows at = parks-back w a (record { outcome = c.advance.ensures.outcome; moves = c.advance.ensures.moves }) (c.loop-words.invariant.back w x r site a same shows at).passing c.in-Park.cause c.in-Park.is

pub returns-in-Call-clause-back : goal.returns-in-Call-clause-back
returns-in-Call-clause-back c w x r site a same shows at = absurd (never-calls w a (record { outcome = c.advance.ensures.outcome; moves = c.advance.ensures.moves }) (c.loop-words.invariant.back w x r site a same shows at).passing c.in-Call.unhinted c.in-Call.is)

pub returns-in_default : goal.returns-in_default
returns-in_default c =
    record {
      view = c.advance.ensures.view;
      spare = c.advance.ensures.spare ∙ c.loop-words.invariant.spare;
      block = λ w x r q a same shows at key.
          absurd
          (strayed w a (record { outcome = c.advance.ensures.outcome; moves = c.advance.ensures.moves }) (c.loop-words.invariant.way w x r q a same shows at key) c.advance.result refl
          (is-stray c.advance.result c.in_default.not-Done c.in_default.not-Key c.in_default.not-Park c.in_default.not-Call));
      anew = λ w x r a same shows at.
          absurd
          (strays w a (record { outcome = c.advance.ensures.outcome; moves = c.advance.ensures.moves }) (c.loop-words.invariant.anew w x r a same shows at) c.advance.result refl
          (is-stray c.advance.result c.in_default.not-Done c.in_default.not-Key c.in_default.not-Park c.in_default.not-Call));
      onward = λ w x r q a same shows at.
          absurd
          (strays w a (record { outcome = c.advance.ensures.outcome; moves = c.advance.ensures.moves }) (c.loop-words.invariant.onward w x r q a same shows at) c.advance.result refl
          (is-stray c.advance.result c.in_default.not-Done c.in_default.not-Key c.in_default.not-Park c.in_default.not-Call));
      back = λ w x r site a same shows at.
          absurd
          (strays w a (record { outcome = c.advance.ensures.outcome; moves = c.advance.ensures.moves }) (c.loop-words.invariant.back w x r site a same shows at).passing c.advance.result refl
          (is-stray c.advance.result c.in_default.not-Done c.in_default.not-Key c.in_default.not-Park c.in_default.not-Call));
    }

pub returns-then-is_arrival-clause-block : goal.returns-then-is_arrival-clause-block
returns-then-is_arrival-clause-block c w x r q a same shows at key =
    let at_pc : is_arrival w.image.layout (core_of c.match-advance.hart).pc ≡ true =
    ap₂ is_arrival (sym same) (sym c.pc.ensures) ∙ sym c.is_arrival.ensures ∙ c.if-is_arrival.true in
    let k = c.loop-words.invariant.way w x r q a same shows at key in
    elim c.match-advance.branch [
      | in-Done f ↦
          let turn : Turned w x r q c.loop-words.words (core_of c.match-advance.hart) (space_of c.advance.new.mem) =
          subst (λ (h : HeldCore). Turned w x r q c.loop-words.words (core_of h) (space_of c.advance.new.mem)) (sym f.hart-is) (done w a (record { outcome = c.advance.ensures.outcome; moves = c.advance.ensures.moves }) k f.in-Done.is) in
          comes_there turn at_pc
      | in-Key f ↦
          let turn : Turned w x r q c.loop-words.words (core_of c.match-advance.hart) (space_of c.advance.new.mem) =
          subst (λ (h : HeldCore). Turned w x r q c.loop-words.words (core_of h) (space_of c.advance.new.mem)) (sym f.hart-is)
          (subst (λ (d : Core). Turned w x r q c.loop-words.words d (space_of c.advance.new.mem)) (sym f.answer.ensures)
          (keyed w a (record { outcome = c.advance.ensures.outcome; moves = c.advance.ensures.moves }) k f.in-Key.rd c.args.key f.in-Key.is c.args.layout.now same key)) in
          comes_there turn at_pc
    ]

pub returns-then-is_arrival-clause-anew : goal.returns-then-is_arrival-clause-anew
returns-then-is_arrival-clause-anew c w x r a same shows at =
    let at_pc : is_arrival w.image.layout (core_of c.match-advance.hart).pc ≡ true =
    ap₂ is_arrival (sym same) (sym c.pc.ensures) ∙ sym c.is_arrival.ensures ∙ c.if-is_arrival.true in
    let k = c.loop-words.invariant.anew w x r a same shows at in
    elim c.match-advance.branch [
      | in-Done f ↦
          absurd
          (never-comes w a (record { outcome = c.advance.ensures.outcome; moves = c.advance.ensures.moves }) k (onward w a (record { outcome = c.advance.ensures.outcome; moves = c.advance.ensures.moves }) k f.in-Done.is)
          (subst (λ (h : HeldCore). is_arrival w.image.layout (core_of h).pc ≡ true) f.hart-is at_pc))
      | in-Key f ↦ absurd (keyless w a (record { outcome = c.advance.ensures.outcome; moves = c.advance.ensures.moves }) k f.in-Key.rd f.in-Key.is tt)
    ]

pub returns-then-is_arrival-clause-onward : goal.returns-then-is_arrival-clause-onward
returns-then-is_arrival-clause-onward c w x r q a same shows at =
    let at_pc : is_arrival w.image.layout (core_of c.match-advance.hart).pc ≡ true =
    ap₂ is_arrival (sym same) (sym c.pc.ensures) ∙ sym c.is_arrival.ensures ∙ c.if-is_arrival.true in
    let k = c.loop-words.invariant.onward w x r q a same shows at in
    elim c.match-advance.branch [
      | in-Done f ↦
          subst (λ (h : HeldCore). ReturnsAtOnce w x r (q.pc + 4) (core_of h) (space_of c.advance.new.mem) (Some (walked.Arrived c.loop-words.words))) (sym f.hart-is)
          (arrives-at-once (words-some k) (onward w a (record { outcome = c.advance.ensures.outcome; moves = c.advance.ensures.moves }) k f.in-Done.is)
          (subst (λ (h : HeldCore). is_arrival w.image.layout (core_of h).pc ≡ true) f.hart-is at_pc))
      | in-Key f ↦ absurd (keyless w a (record { outcome = c.advance.ensures.outcome; moves = c.advance.ensures.moves }) k f.in-Key.rd f.in-Key.is tt)
    ]

pub returns-then-is_arrival-clause-back : goal.returns-then-is_arrival-clause-back
returns-then-is_arrival-clause-back c w x r site a same shows at =
    let at_pc : is_arrival w.image.layout (core_of c.match-advance.hart).pc ≡ true =
    ap₂ is_arrival (sym same) (sym c.pc.ensures) ∙ sym c.is_arrival.ensures ∙ c.if-is_arrival.true in
    let k = c.loop-words.invariant.back w x r site a same shows at in
    elim c.match-advance.branch [
      | in-Done f ↦
          subst (λ (h : HeldCore). Returns w x r (site + 4) (with_reg r.shadow.registers 31 (kept_x31 r.shadow_page)) 19 (core_of h) (space_of c.advance.new.mem) (Some (walked.Arrived c.loop-words.words))) (sym f.hart-is)
          (arrives-back w a (record { outcome = c.advance.ensures.outcome; moves = c.advance.ensures.moves }) k f.in-Done.is
          (subst (λ (h : HeldCore). is_arrival w.image.layout (core_of h).pc ≡ true) f.hart-is at_pc))
      | in-Key f ↦ absurd (keyless w a (record { outcome = c.advance.ensures.outcome; moves = c.advance.ensures.moves }) k.passing f.in-Key.rd f.in-Key.is tt)
    ]

pub loop-words-preserved : goal.loop-words-preserved
loop-words-preserved c =
    record {
      view =
          elim c.match-advance.branch [
            | in-Done f ↦ ap (λ (h : HeldCore). (core_of h).view) f.hart-is ∙ c.advance.ensures.view
            | in-Key f ↦ ap (λ (h : HeldCore). (core_of h).view) f.hart-is ∙ ap (λ (d : Core). d.view) f.answer.ensures ∙ c.advance.ensures.view
          ];
      spare = c.advance.ensures.spare ∙ c.loop-words.invariant.spare;
      way = λ w x r q a same shows at key.
          let at_pc : is_arrival w.image.layout (core_of c.match-advance.hart).pc ≡ false =
          ap₂ is_arrival (sym same) (sym c.pc.ensures) ∙ sym c.is_arrival.ensures ∙ c.if-is_arrival.false in
          let k = c.loop-words.invariant.way w x r q a same shows at key in
          elim c.match-advance.branch [
            | in-Done f ↦
                let turn : Turned w x r q c.loop-words.words (core_of c.match-advance.hart) (space_of c.advance.new.mem) =
                subst (λ (h : HeldCore). Turned w x r q c.loop-words.words (core_of h) (space_of c.advance.new.mem)) (sym f.hart-is) (done w a (record { outcome = c.advance.ensures.outcome; moves = c.advance.ensures.moves }) k f.in-Done.is) in
                goes_between turn at_pc
            | in-Key f ↦
                let turn : Turned w x r q c.loop-words.words (core_of c.match-advance.hart) (space_of c.advance.new.mem) =
                subst (λ (h : HeldCore). Turned w x r q c.loop-words.words (core_of h) (space_of c.advance.new.mem)) (sym f.hart-is)
                (subst (λ (d : Core). Turned w x r q c.loop-words.words d (space_of c.advance.new.mem)) (sym f.answer.ensures)
                (keyed w a (record { outcome = c.advance.ensures.outcome; moves = c.advance.ensures.moves }) k f.in-Key.rd c.args.key f.in-Key.is c.args.layout.now same key)) in
                goes_between turn at_pc
          ];
      anew = λ w x r a same shows at.
          let at_pc : is_arrival w.image.layout (core_of c.match-advance.hart).pc ≡ false =
          ap₂ is_arrival (sym same) (sym c.pc.ensures) ∙ sym c.is_arrival.ensures ∙ c.if-is_arrival.false in
          let k = c.loop-words.invariant.anew w x r a same shows at in
          elim c.match-advance.branch [
            | in-Done f ↦
                subst (λ (h : HeldCore). Anew w x r (c.loop-words.words + 1) (core_of h) (space_of c.advance.new.mem)) (sym f.hart-is)
                (passes_on (onward w a (record { outcome = c.advance.ensures.outcome; moves = c.advance.ensures.moves }) k f.in-Done.is)
                (subst (λ (h : HeldCore). is_arrival w.image.layout (core_of h).pc ≡ false) f.hart-is at_pc))
            | in-Key f ↦ absurd (keyless w a (record { outcome = c.advance.ensures.outcome; moves = c.advance.ensures.moves }) k f.in-Key.rd f.in-Key.is tt)
          ];
      onward = λ w x r q a same shows at.
          let at_pc : is_arrival w.image.layout (core_of c.match-advance.hart).pc ≡ false =
          ap₂ is_arrival (sym same) (sym c.pc.ensures) ∙ sym c.is_arrival.ensures ∙ c.if-is_arrival.false in
          let k = c.loop-words.invariant.onward w x r q a same shows at in
          elim c.match-advance.branch [
            | in-Done f ↦
                subst (λ (h : HeldCore). Answered w x r q.pc (c.loop-words.words + 1) (core_of h) (space_of c.advance.new.mem)) (sym f.hart-is)
                (passes_on (onward w a (record { outcome = c.advance.ensures.outcome; moves = c.advance.ensures.moves }) k f.in-Done.is)
                (subst (λ (h : HeldCore). is_arrival w.image.layout (core_of h).pc ≡ false) f.hart-is at_pc))
            | in-Key f ↦ absurd (keyless w a (record { outcome = c.advance.ensures.outcome; moves = c.advance.ensures.moves }) k f.in-Key.rd f.in-Key.is tt)
          ];
      back = λ w x r site a same shows at.
          let at_pc : is_arrival w.image.layout (core_of c.match-advance.hart).pc ≡ false =
          ap₂ is_arrival (sym same) (sym c.pc.ensures) ∙ sym c.is_arrival.ensures ∙ c.if-is_arrival.false in
          let k = c.loop-words.invariant.back w x r site a same shows at in
          elim c.match-advance.branch [
            | in-Done f ↦
                subst (λ (h : HeldCore). Back w x r site (c.loop-words.words + 1) (core_of h) (space_of c.advance.new.mem)) (sym f.hart-is)
                (goes-back w a (record { outcome = c.advance.ensures.outcome; moves = c.advance.ensures.moves }) k f.in-Done.is
                (subst (λ (h : HeldCore). is_arrival w.image.layout (core_of h).pc ≡ false) f.hart-is at_pc))
            | in-Key f ↦ absurd (keyless w a (record { outcome = c.advance.ensures.outcome; moves = c.advance.ensures.moves }) k.passing f.in-Key.rd f.in-Key.is tt)
          ];
    }

pub returns-clause-block : goal.returns-clause-block
returns-clause-block c w x r q a same shows at key = let k = c.loop-words.invariant.way w x r q a same shows at key in absurd (omega (arith, k.few, c.loop-words-test.false))

pub returns-clause-anew : goal.returns-clause-anew
returns-clause-anew c w x r a same shows at = absurd (omega (arith, anew-few w a at (c.loop-words.invariant.anew w x r a same shows at), c.loop-words-test.false))

pub returns-clause-onward : goal.returns-clause-onward
returns-clause-onward c w x r q a same shows at = let k = c.loop-words.invariant.onward w x r q a same shows at in absurd (omega (arith, few-words k, c.loop-words-test.false))

pub returns-clause-back : goal.returns-clause-back
returns-clause-back c w x r site a same shows at = let k = c.loop-words.invariant.back w x r site a same shows at in absurd (omega (arith, few-words k.passing, c.loop-words-test.false))
