-- Why a run has ended by a fault.
use Rattle.std.proofs.Common.{◌≡◌, ◌≤◌, ℕ, Bool, true, false, List, Option, Some, None, inl, inr, refl, sym, ap, subst, ◌∙◌, arith}
use Rattle.std.specs.Option.{option_map}
use Rattle.spec_base.specs.declared.machine.Trap.{Trap}
use Rattle.world_io.specs.Outside.{StoreState, SinkState, Rose}
use Rattle.world_io.specs.Logs.{IsOffered}
use Rattle.world_io.specs.declared.sink.Put.{Put}
use Rattle.world_io.specs.declared.sink.Put.TheVariants as put
use Rattle.cache_queue.specs.Finishes.{FinishFails, IsOf}
use Rattle.cache_queue.specs.declared.finish.Finished.{Finished}
use Rattle.cache_queue.specs.declared.finish.Finished.TheVariants as finish
use Rattle.program_model.specs.Cache.{Cache}
use Rattle.plain_runner.specs.Runs.{Outside}
use Rattle.runner_parts.specs.Answers.{end_after, is_nothing}
use Rattle.runner_parts.specs.OwnCalls.{Offers}
use Rattle.runner_parts.specs.Parts.{end_of_run}
use Rattle.runner_parts.specs.Turns.{turn_if, turn_after}
use Rattle.runner_parts.specs.declared.turn.End.{End}
use Rattle.runner_parts.specs.declared.turn.End.TheVariants as ending
use Rattle.runner_parts.specs.declared.turn.Turn.{Turn}
use Rattle.runner_parts.specs.declared.turn.Turn.TheVariants.{Went, Idle, Ended, StoreFault, SinkFault, NoMemory}
use Rattle.runner.specs.Causes.{IsLater, SinkRose, EndHasCause, FaultHasCause, TellsEnd, IsCaused}
use Rattle.runner.specs.ShadowGoes.{beside}

-- ---- the outside stays, or a store alone is asked

pub same-later : (o : Outside) → IsLater o o
same-later o = record { store = omega arith; out = omega arith; err = omega arith }

pub beside-later : (a b : StoreState) (out err : SinkState) → a.faults ≤ b.faults → IsLater (beside a out err) (beside b out err)
beside-later a b out err l = record { store = l; out = omega arith; err = omega arith }

-- an equal end
caused-as : (e f : Option End) (old new : Outside) → e ≡ f → IsCaused f old new → IsCaused e old new
caused-as e f old new is h = subst (λ (k : Option End). IsCaused k old new) (sym is) h

-- a run that goes on
pub going-caused : (e : Option End) (old new : Outside) → e ≡ None → IsLater old new → IsCaused e old new
going-caused e old new on l = caused-as e None old new on (record { later = l; cause = tt })

pub still-caused : (e : Option End) (o : Outside) → e ≡ None → IsCaused e o o
still-caused e o on = going-caused e o o on (same-later o)

-- one that the program has ended
pub exit-caused : (e : Option End) (code : ℕ) (o : Outside) → e ≡ Some (ending.Exit code) → IsCaused e o o
exit-caused e code o is = caused-as e (Some (ending.Exit code)) o o is (record { later = same-later o; cause = tt })

pub trap-caused : (e : Option End) (cause : Trap) (pc : ℕ) (o : Outside) → e ≡ Some (ending.Trap cause pc) → IsCaused e o o
trap-caused e cause pc o is = caused-as e (Some (ending.Trap cause pc)) o o is (record { later = same-later o; cause = tt })

-- ---- a look

-- it failed
pub store-caused : (e : Option End) (a b : StoreState) (out err : SinkState) → e ≡ Some ending.Store → a.faults ≤ b.faults → Rose a.faults b.faults → IsCaused e (beside a out err) (beside b out err)
store-caused e a b out err is l rose = caused-as e (Some ending.Store) (beside a out err) (beside b out err) is (record { later = beside-later a b out err l; cause = rose })

-- ---- a put

pub offered-later : (bytes : List ℕ) (p : Put) (a b : SinkState) → IsOffered a (bytes, p) b → a.faults ≤ b.faults
offered-later bytes (put.Took k) a b h = (let same : b.faults ≡ a.faults = ap (λ (s : SinkState). s.faults) h.says.3 in omega (arith, same))
offered-later bytes put.Failed a b h = h.says.0

same-faults : (a b : SinkState) → b ≡ a → a.faults ≤ b.faults
same-faults a b e = (let same : b.faults ≡ a.faults = ap (λ (s : SinkState). s.faults) e in omega (arith, same))

store-stays : (o n : Outside) → o.store ≡ n.store → o.store.faults ≤ n.store.faults
store-stays o n e = (let same : o.store.faults ≡ n.store.faults = ap (λ (s : StoreState). s.faults) e in omega (arith, same))

puts-later : (to_out : Bool) (bytes : List ℕ) (p : Put) (o n : Outside) → o.store ≡ n.store → Offers to_out bytes o.out o.err p n.out n.err → IsLater o n
puts-later true bytes p o n e h = record { store = store-stays o n e; out = offered-later bytes p o.out n.out h.0; err = same-faults o.err n.err h.1 }
puts-later false bytes p o n e h = record { store = store-stays o n e; out = same-faults o.out n.out h.1; err = offered-later bytes p o.err n.err h.0 }

puts-rose : (to_out : Bool) (bytes : List ℕ) (o n : Outside) → Offers to_out bytes o.out o.err put.Failed n.out n.err → SinkRose o n
puts-rose true bytes o n h = inl h.0.says.1
puts-rose false bytes o n h = inr h.0.says.1

-- it took some bytes
pub took-caused : (to_out : Bool) (bytes : List ℕ) (p : Put) (e : Option End) (o n : Outside) → e ≡ None → o.store ≡ n.store → Offers to_out bytes o.out o.err p n.out n.err → IsCaused e o n
took-caused to_out bytes p e o n on same h = going-caused e o n on (puts-later to_out bytes p o n same h)

-- it failed
pub put-caused : (to_out : Bool) (bytes : List ℕ) (e : Option End) (o n : Outside) → e ≡ Some ending.Sink → o.store ≡ n.store → Offers to_out bytes o.out o.err put.Failed n.out n.err → IsCaused e o n
put-caused to_out bytes e o n is same h =
    caused-as e (Some ending.Sink) o n is (record { later = puts-later to_out bytes put.Failed o n same h; cause = puts-rose to_out bytes o n h })

-- ---- a finish of a fetch

-- how the run has ended then
abbrev pub ended_by : Finished → Option End
ended_by f = option_map end_of_run (end_after f)

finished-caused : (f : Finished) (a b : StoreState) (out err : SinkState) → a.faults ≤ b.faults → FinishFails a.faults f b.faults → IsCaused (ended_by f) (beside a out err) (beside b out err)
finished-caused finish.Nothing a b out err l fails = record { later = beside-later a b out err l; cause = tt }
finished-caused (finish.Put spot) a b out err l fails = record { later = beside-later a b out err l; cause = tt }
finished-caused (finish.Lost spot) a b out err l fails = record { later = beside-later a b out err l; cause = tt }
finished-caused (finish.Dropped spot) a b out err l fails = record { later = beside-later a b out err l; cause = tt }
finished-caused (finish.Fault spot) a b out err l fails = record { later = beside-later a b out err l; cause = fails }

pub finish-caused : (f : Finished) (e : Option End) (a b : StoreState) (out err : SinkState) → e ≡ ended_by f → a.faults ≤ b.faults → FinishFails a.faults f b.faults → IsCaused e (beside a out err) (beside b out err)
finish-caused f e a b out err is l fails = caused-as e (ended_by f) (beside a out err) (beside b out err) is (finished-caused f a b out err l fails)

-- a queued fetch ends no run
pub queued-end : (c : Cache) (f : Finished) → c.demanded ≡ None → IsOf c f → None ≡ ended_by f
queued-end c finish.Nothing none is = refl
queued-end c (finish.Put spot) none is = refl
queued-end c (finish.Lost spot) none is = refl
queued-end c (finish.Dropped spot) none is = refl
queued-end c (finish.Fault spot) none is = absurd cc

-- ---- turns

pub tells-after : (e : Option End) → TellsEnd (turn_after e) e
tells-after None = refl
tells-after (Some (ending.Exit code)) = refl
tells-after (Some (ending.Trap cause pc)) = refl
tells-after (Some ending.Store) = refl
tells-after (Some ending.Sink) = refl

-- where a move that is idle ends no run
tells-if : (b : Bool) (e : Option End) → (b ≡ true → e ≡ None) → TellsEnd (turn_if b (turn_after e)) e
tells-if true e none = none refl
tells-if false e none = tells-after e

pub tells-as : (t : Turn) (b : Bool) (e : Option End) → t ≡ turn_if b (turn_after e) → (b ≡ true → e ≡ None) → TellsEnd t e
tells-as t b e is none = subst (λ (t : Turn). TellsEnd t e) (sym is) (tells-if b e none)

idle-none : (f : Finished) → is_nothing f ≡ true → ended_by f ≡ None
idle-none finish.Nothing idle = refl
idle-none (finish.Put spot) idle = refl
idle-none (finish.Lost spot) idle = refl
idle-none (finish.Dropped spot) idle = refl
idle-none (finish.Fault spot) idle = absurd (let f : false ≡ true = idle in cc)

pub finish-tells : (f : Finished) (t : Turn) (e : Option End) → t ≡ turn_if (is_nothing f) (turn_after e) → e ≡ ended_by f → TellsEnd t e
finish-tells f t e told is = tells-as t (is_nothing f) e told (λ idle. is ∙ idle-none f idle)

-- ---- the cause of a turn

-- where the end has its cause, the fault that is told has it
told-cause : (t : Turn) (e : Option End) (old new : Outside) → TellsEnd t e → EndHasCause e old new → FaultHasCause t old new
told-cause Went e old new tells cause = tt
told-cause Idle e old new tells cause = tt
told-cause (Ended end) e old new tells cause = tt
told-cause StoreFault e old new tells cause = subst (λ (k : Option End). EndHasCause k old new) tells cause
told-cause SinkFault e old new tells cause = subst (λ (k : Option End). EndHasCause k old new) tells cause
told-cause NoMemory e old new tells cause = tt

pub fault-cause : (t : Turn) (e : Option End) (old new : Outside) → TellsEnd t e → IsCaused e old new → FaultHasCause t old new
fault-cause t e old new tells h = told-cause t e old new tells h.cause
