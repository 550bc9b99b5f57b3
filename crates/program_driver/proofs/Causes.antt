-- Why a run has ended by a fault.
use Rattle.std.proofs.Common.{◌≡◌, ◌≤◌, ℕ, true, false, List, [], ◌∷◌, Option, Some, None, IfSome, Result, Ok, Err, inl, inr, refl, ap, subst, arith}
use Rattle.world_io.specs.Outside.{StoreState, SinkState, Rose}
use Rattle.world_io.specs.Logs.{Offer, AreOffered}
use Rattle.world_io.specs.declared.sink.Put.TheVariants as put
use Rattle.plain_runner.specs.Runs.{Outside}
use Rattle.plain_runner.specs.declared.ending.Ending.{Ending}
use Rattle.plain_runner.specs.declared.ending.Ending.TheVariants.{Exited, Trapped, TurnsOver, StoreFault, SinkFault, NoMemory}
use Rattle.runner_parts.specs.declared.turn.End.{End}
use Rattle.runner_parts.specs.declared.turn.End.TheVariants as end
use Rattle.runner_parts.specs.declared.turn.Turn.{Turn}
use Rattle.runner_parts.specs.declared.turn.Turn.TheVariants as turn
use Rattle.runner.specs.Causes.{IsLater, SinkRose, EndHasCause, TellsEnd}
use Rattle.runner.proofs.Causes.{offered-later}
use Rattle.program_driver.specs.Advances.{ending_in, ending_after, is_starved}
use Rattle.program_driver.specs.Causes.{HasCause, CountsLines}
use Rattle.program_driver.specs.Lines.{Line, AreOfLine, ArePut, LinesTo, fault_ending, ending_with}
use Rattle.program_driver.specs.Traces.{over_bottomless, with_err}
use Rattle.program_driver.specs.declared.lines.LineFault.{LineFault}
use Rattle.program_driver.specs.declared.lines.LineFault.TheVariants as fault

-- ---- one stretch after another

pub later-IsLater : (a b c : Outside) → IsLater a b → IsLater b c → IsLater a c
later-IsLater a b c first then =
    record { store = omega (arith, first.store, then.store); out = omega (arith, first.out, then.out); err = omega (arith, first.err, then.err) }

earlier-Rose : (a b c : ℕ) → a ≤ b → Rose b c → Rose a c
earlier-Rose a b c l r = omega arith

later-Rose : (a b c : ℕ) → Rose a b → b ≤ c → Rose a c
later-Rose a b c r l = omega arith

earlier-SinkRose : (a b c : Outside) → IsLater a b → SinkRose b c → SinkRose a c
earlier-SinkRose a b c l (inl r) = inl (earlier-Rose a.out.faults b.out.faults c.out.faults l.out r)
earlier-SinkRose a b c l (inr r) = inr (earlier-Rose a.err.faults b.err.faults c.err.faults l.err r)

later-SinkRose : (a b c : Outside) → SinkRose a b → IsLater b c → SinkRose a c
later-SinkRose a b c (inl r) l = inl (later-Rose a.out.faults b.out.faults c.out.faults r l.out)
later-SinkRose a b c (inr r) l = inr (later-Rose a.err.faults b.err.faults c.err.faults r l.err)

-- what rose at the end rose over the whole
pub earlier-HasCause : (e : Ending) (a b c : Outside) → IsLater a b → HasCause e b c → HasCause e a c
earlier-HasCause StoreFault a b c l h = earlier-Rose a.store.faults b.store.faults c.store.faults l.store h
earlier-HasCause SinkFault a b c l h = earlier-SinkRose a b c l h
earlier-HasCause (Exited code) a b c l h = tt
earlier-HasCause (Trapped cause pc) a b c l h = tt
earlier-HasCause (TurnsOver count) a b c l h = tt
earlier-HasCause NoMemory a b c l h = tt

-- and what rose before
later-HasCause : (e : Ending) (a b c : Outside) → HasCause e a b → IsLater b c → HasCause e a c
later-HasCause StoreFault a b c h l = later-Rose a.store.faults b.store.faults c.store.faults h l.store
later-HasCause SinkFault a b c h l = later-SinkRose a b c h l
later-HasCause (Exited code) a b c h l = tt
later-HasCause (Trapped cause pc) a b c h l = tt
later-HasCause (TurnsOver count) a b c h l = tt
later-HasCause NoMemory a b c h l = tt

-- ---- one move

end-cause : (e : End) (k : Option End) (old new : Outside) → k ≡ Some e → EndHasCause k old new → EndHasCause (Some e) old new
end-cause e k old new is h = subst (λ (k : Option End). EndHasCause k old new) is h

-- the ending that a turn makes has the cause of the end that it tells
pub turn-HasCause : (t : Turn) (k : Option End) (old new : Outside) → TellsEnd t k → EndHasCause k old new → IfSome (ending_after t) (λ e. HasCause e old new)
turn-HasCause turn.Went k old new tells h = tt
turn-HasCause turn.Idle k old new tells h = tt
turn-HasCause (turn.Ended (end.Exit code)) k old new tells h = tt
turn-HasCause (turn.Ended (end.Trap cause pc)) k old new tells h = tt
turn-HasCause (turn.Ended end.Store) k old new tells h = end-cause end.Store k old new tells h
turn-HasCause (turn.Ended end.Sink) k old new tells h = end-cause end.Sink k old new tells h
turn-HasCause turn.StoreFault k old new tells h = end-cause end.Store k old new tells h
turn-HasCause turn.SinkFault k old new tells h = end-cause end.Sink k old new tells h
turn-HasCause turn.NoMemory k old new tells h = tt

-- where it makes none the run goes on
pub turn-goes_on : (t : Turn) (k : Option End) → TellsEnd t k → ending_after t ≡ None → k ≡ None
turn-goes_on turn.Went k tells none = tells
turn-goes_on turn.Idle k tells none = tells
turn-goes_on (turn.Ended e) k tells none = absurd (let f : Some (ending_in e) ≡ None = none in cc)
turn-goes_on turn.StoreFault k tells none = absurd (let f : Some StoreFault ≡ None = none in cc)
turn-goes_on turn.SinkFault k tells none = absurd (let f : Some SinkFault ≡ None = none in cc)
turn-goes_on turn.NoMemory k tells none = absurd (let f : Some NoMemory ≡ None = none in cc)

-- ---- the puts of lines

offers-later : (offers : List Offer) (a b : SinkState) → AreOffered a offers b → a.faults ≤ b.faults
offers-later [] a b h = (let same : b.faults ≡ a.faults = ap (λ (s : SinkState). s.faults) h in omega (arith, same))
offers-later (offer ∷ offers) a b h =
    (let first = offered-later offer.0 offer.1 a h.0 h.1 in let then = offers-later offers h.0 b h.2 in omega (arith, first, then))

-- where a line isn't whole the last put failed
offers-rose : (line : Line) (offers : List Offer) (a b : SinkState) → AreOfLine line offers false → AreOffered a offers b → Rose a.faults b.faults
offers-rose line [] a b of h = absurd (let e : false ≡ true = of.1 in cc)
offers-rose line ((bytes, put.Took k) ∷ offers) a b of h =
    earlier-Rose a.faults h.0.faults b.faults (offered-later bytes (put.Took k) a h.0 h.1) (offers-rose _ offers h.0 b of.1 h.2)
offers-rose line ((bytes, put.Failed) ∷ offers) a b of h = later-Rose a.faults h.0.faults b.faults h.1.says.1 (offers-later offers h.0 b h.2)

lines-later : (lines : List Line) (a b : SinkState) → ArePut a lines b → a.faults ≤ b.faults
lines-later [] a b h = (let same : b.faults ≡ a.faults = ap (λ (s : SinkState). s.faults) h in omega (arith, same))
lines-later (line ∷ lines) a b h =
    (let first = offers-later h.1.offers a h.0 h.1.puts in let then = lines-later lines h.0 b h.2 in omega (arith, first, then))

-- no count fell, and it rose where a put failed
pub counts-lines : (lines : List Line) (answer : Result (Unit {0}) LineFault) (a b : SinkState) → LinesTo lines answer a b → CountsLines answer a b
counts-lines lines (Ok done) a b h = record { later = lines-later lines a b h; rose = λ e. absurd cc }
counts-lines lines (Err fault.Sink) a b h =
    let first = lines-later h.whole a h.between h.puts in
    let then = offers-later h.stops.offers h.between b h.stops.puts in
    record {
      later = omega (arith, first, then);
      rose = λ e. earlier-Rose a.faults h.between.faults b.faults first (offers-rose h.next h.stops.offers h.between b h.stops.of_line h.stops.puts);
    }
counts-lines lines (Err fault.NoMemory) a b h =
    let first = lines-later h.whole a h.between h.puts in
    let same : b.faults ≡ h.between.faults = ap (λ (s : SinkState). s.faults) h.stops in
    record { later = omega (arith, first, same); rose = λ e. absurd cc }

-- lines behind others that were put, and lines that weren't
pub both-counts : (answer : Result (Unit {0}) LineFault) (one : Result (Unit {0}) LineFault) (a b c : SinkState) → CountsLines one a b → CountsLines answer b c → CountsLines answer a c
both-counts answer one a b c first then = record { later = omega (arith, first.later, then.later); rose = λ e. earlier-Rose a.faults b.faults c.faults first.later (then.rose e) }

pub no-lines-counted : (a : SinkState) → CountsLines (Ok tt) a a
no-lines-counted a = record { later = omega arith; rose = λ e. absurd cc }

-- ---- the report

-- behind it standard error is later
pub reported-later : (old between : Outside) (err : SinkState) (answer : Result (Unit {0}) LineFault) → IsLater old between → CountsLines answer between.err err → IsLater old (record between { err = err })
reported-later old between err answer l h =
    later-IsLater old between (record between { err = err }) l (record { store = omega arith; out = omega arith; err = h.later })

pub reported-HasCause :
    (e : Ending) (old between : Outside) (err : SinkState) (answer : Result (Unit {0}) LineFault) → IsLater old between → HasCause e old between → CountsLines answer between.err err
    → HasCause (ending_with e answer) old (record between { err = err })
reported-HasCause e old between err (Ok done) l cause h =
    later-HasCause e old between (record between { err = err }) cause (record { store = omega arith; out = omega arith; err = h.later })
reported-HasCause e old between err (Err fault.Sink) l cause h = inr (earlier-Rose old.err.faults between.err.faults err.faults l.err (h.rose refl))
reported-HasCause e old between err (Err fault.NoMemory) l cause h = tt

-- ---- a trace

-- sinks without end never fail
bottomless-HasCause : (e : Ending) (a b : StoreState) (out new err : SinkState) → HasCause e (over_bottomless a) (over_bottomless b) → HasCause e (with_err err a out) (with_err err b new)
bottomless-HasCause StoreFault a b out new err h = h
bottomless-HasCause SinkFault a b out new err (inl r) = absurd (let none : Rose 0 0 = r in omega (arith, none))
bottomless-HasCause SinkFault a b out new err (inr r) = absurd (let none : Rose 0 0 = r in omega (arith, none))
bottomless-HasCause (Exited code) a b out new err h = tt
bottomless-HasCause (Trapped cause pc) a b out new err h = tt
bottomless-HasCause (TurnsOver count) a b out new err h = tt
bottomless-HasCause NoMemory a b out new err h = tt

pub traced-HasCause :
    (o : Option Ending) (a b : StoreState) (out new err : SinkState) → IfSome o (λ e. HasCause e (over_bottomless a) (over_bottomless b))
    → IfSome o (λ e. HasCause e (with_err err a out) (with_err err b new))
traced-HasCause None a b out new err h = tt
traced-HasCause (Some e) a b out new err h = bottomless-HasCause e a b out new err h

-- beside any standard error
pub traced-later : (a b : StoreState) (out new err : SinkState) → a.faults ≤ b.faults → out.faults ≤ new.faults → IsLater (with_err err a out) (with_err err b new)
traced-later a b out new err l more = record { store = l; out = more; err = omega arith }

-- a line that wasn't put whole
pub line-HasCause :
    (f : LineFault) (answer : Result (Unit {0}) LineFault) (a b : StoreState) (out new err : SinkState) → answer ≡ Err f → CountsLines answer out new
    → HasCause (fault_ending f) (with_err err a out) (with_err err b new)
line-HasCause fault.Sink answer a b out new err is h = inl (h.rose is)
line-HasCause fault.NoMemory answer a b out new err is h = tt

-- without memory for a move nothing is told
pub starved-HasCause : (o : Option Ending) (old new : Outside) → is_starved o ≡ true → IfSome o (λ e. HasCause e old new)
starved-HasCause None old new starved = tt
starved-HasCause (Some NoMemory) old new starved = tt
starved-HasCause (Some (Exited code)) old new starved = tt
starved-HasCause (Some (Trapped cause pc)) old new starved = tt
starved-HasCause (Some (TurnsOver count)) old new starved = tt
starved-HasCause (Some StoreFault) old new starved = absurd (let f : false ≡ true = starved in cc)
starved-HasCause (Some SinkFault) old new starved = absurd (let f : false ≡ true = starved in cc)

-- the line of the turns
pub line-later :
    (answer : Result (Unit {0}) LineFault) (a b : StoreState) (out between new err : SinkState) → IsLater (with_err err a out) (with_err err b between) → CountsLines answer between new
    → IsLater (with_err err a out) (with_err err b new)
line-later answer a b out between new err l h = record { store = l.store; out = omega (arith, l.out, h.later); err = l.err }

pub turns-HasCause :
    (count : ℕ) (answer : Result (Unit {0}) LineFault) (a b : StoreState) (out between new err : SinkState) → IsLater (with_err err a out) (with_err err b between) → CountsLines answer between new
    → HasCause (ending_with (TurnsOver count) answer) (with_err err a out) (with_err err b new)
turns-HasCause count (Ok done) a b out between new err l h = tt
turns-HasCause count (Err fault.Sink) a b out between new err l h = inl (earlier-Rose out.faults between.faults new.faults l.out (h.rose refl))
turns-HasCause count (Err fault.NoMemory) a b out between new err l h = tt
