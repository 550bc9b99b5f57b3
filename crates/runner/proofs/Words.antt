-- What a runner shows after a step of the own hart.
use Rattle.std.proofs.Common.{◌≡◌, ℕ, ◌&&◌, Bool, true, false, Option, Some, IsTrue, inl, inr, refl, sym, ap, ◌∙◌}
use Rattle.spec_base.specs.Layout.{stub_start}
use Rattle.spec_base.specs.declared.machine.Trap.{Trap}
use Rattle.spec_base.specs.declared.machine.View.TheVariants.{Plain, Program, Stub, Shadow}
use Rattle.spec_base.specs.declared.machine.View.{View}
use Rattle.rv_decode.specs.declared.instr.Instr.{Instr}
use Rattle.rv_decode.specs.declared.instr.Instr.TheVariants.{Hcall}
use Rattle.rv_model.specs.Effect.{fetched}
use Rattle.rv_model.specs.Space.{Space}
use Rattle.code_model.specs.Stub.{stub}
use Rattle.run_model.specs.Run.{World, Run}
use Rattle.run_laws.specs.OwnLaws.{Accepted}
use Rattle.machine_laws.specs.OneMachine.{space_of_run}
use Rattle.hart_mem.specs.Held.{space_of}
use Rattle.hart_step.specs.Core.{Core, core_of}
use Rattle.hart_step.specs.declared.event.Event.{Event}
use Rattle.hart_step.specs.declared.event.Event.TheVariants as event
use Rattle.word_laws.specs.Shown.{IsStep, with_own, is_own_view, is_performed, own_core}
use Rattle.word_laws.specs.OwnWords.{ProgramLeads, ProgramGoes, StubLeads, StubGoes, MeetsGate}
use Rattle.word_laws.proofs.ProgramSteps.{program_words_lead}
use Rattle.word_laws.proofs.StubSteps.{stub_words_lead}
use Rattle.runner_parts.specs.Parts.{own_side, ShowsOwn, ShowsCache, IsAtRest, Gathers}
use Rattle.runner.specs.Shows.{Shows}
use Rattle.runner.specs.declared.runner.Runner.{Runner}
use Rattle.runner.proofs.Moved.{view-is, at-rest, cache-at_rest}

-- ---- a step

module _ (v : Runner) (w : World) (r : Run) (a : Accepted w) (h : Shows v w r) where
  -- in the program
  pub program-goes : (core_of v.own).view ≡ Program → (e : Event) (d : Core) (t : Space) → IsStep v.mem e (core_of v.own) (space_of v.mem) d t → ProgramGoes e w r d t
  program-goes view e d t q =
      program_words_lead w r a v.mem e (core_of v.own) (space_of v.mem) d t (record { view = view-is (core_of v.own) r Program h.own.hart view; hart = h.own.hart; space = h.space }) q

  -- in the stub
  pub stub-goes : (core_of v.own).view ≡ Stub → (e : Event) (d : Core) (t : Space) → IsStep v.mem e (core_of v.own) (space_of v.mem) d t → StubGoes e w r d t
  stub-goes view e d t q =
      stub_words_lead w r a v.mem e (core_of v.own) (space_of v.mem) d t (record { view = view-is (core_of v.own) r Stub h.own.hart view; hart = h.own.hart; space = h.space }) q

  -- in the program it has nothing and waits for nothing
  pub program-rests : (core_of v.own).view ≡ Program → IsAtRest (own_side r) r.cache
  program-rests view = at-rest w (own_side r) r.cache v.staging.items (view-is (core_of v.own) r Program h.own.hart view) h.cache.gathers

  -- so it is in the stub where no call stands
  pub stub-rests : is_performed (fetched stub stub_start r.own.pc) ≡ false → IsAtRest (own_side r) r.cache
  stub-rests other = by h.cache.gathers
    where
      no-call : fetched stub stub_start r.own.pc ≡ Some (Hcall false) → IsAtRest (own_side r) r.cache
      no-call at = absurd (let e : true ≡ false = sym (ap (λ (i : Option Instr). is_performed i) at) ∙ other in cc)

      by : Gathers w (own_side r) r.cache v.staging.items → IsAtRest (own_side r) r.cache
      by (inl rest) = rest
      by (inr (inl g)) = no-call g.at_call
      by (inr (inr x)) = no-call x.at_call

-- ---- the own hart as it is after a step

-- its part of what a runner shows
pub own-after :
    (v : Runner) (w : World) (r : Run) (d : Core) (t : Space) → Shows v w r → IsTrue (is_own_view d.view) → ShowsOwn (own_side (with_own r d t)) d v.own_files v.asked v.stalled v.gathered
own-after v w r d t h side =
    record { hart = refl; side = side; files_are = h.own.files_are; asked_is = h.own.asked_is; stalled_is = h.own.stalled_is; gathered_is = h.own.gathered_is }

-- and the cache's
pub cache-after :
    (v : Runner) (w : World) (r : Run) (d : Core) (t : Space) → Shows v w r → IsAtRest (own_side r) r.cache → ShowsCache w (own_side (with_own r d t)) r.cache v.cache v.staging.items
cache-after v w r d t h rest = cache-at_rest w (own_side r) (own_side (with_own r d t)) r.cache v.cache v.staging.items h.cache rest refl refl

-- and it still is at rest
pub rests-after : (r : Run) (d : Core) (t : Space) → IsAtRest (own_side r) r.cache → IsAtRest (own_side (with_own r d t)) r.cache
rests-after r d t rest = record { none = rest.none; goes = rest.goes; undemanded = rest.undemanded }

-- ---- at a gate, where nothing has changed

module _ (w : World) (r : Run) (d : Core) (t : Space) (same : with_own r d t ≡ r) where
  pub hart-stays : d ≡ own_core r
  hart-stays = ap (λ (x : Run). own_core x) same

  pub space-stays : t ≡ space_of_run w (with_own r d t) → t ≡ space_of_run w r
  space-stays e = e ∙ ap (λ (x : Run). space_of_run w x) same

-- the only call of the stub is HCALL 0
pub meets-call : (w : World) (r : Run) (d : Core) (t : Space) (unhinted : Bool) → StubLeads (event.Call unhinted) w r d t → MeetsGate (Hcall false) w r d t
meets-call w r d t false m = m
meets-call w r d t true bad = absurd bad

-- ---- no other event comes

pub no_other :
    (w : World) (r : Run) (d : Core) (t : Space) (e : Event) → (e ≡ event.Done → ⊥) → (e ≡ event.Gate → ⊥) → ((x : Trap) → e ≡ event.Trap x → ⊥) → (e ≡ event.NoMemory → ⊥)
    → ProgramLeads e w r d t → ⊥
no_other w r d t event.Done nd ng nt nm h = nd refl
no_other w r d t event.Gate nd ng nt nm h = ng refl
no_other w r d t (event.Trap x) nd ng nt nm h = nt x refl
no_other w r d t event.NoMemory nd ng nt nm h = nm refl
no_other w r d t event.Ecall nd ng nt nm h = h
no_other w r d t event.Leave nd ng nt nm h = h
no_other w r d t (event.Call u) nd ng nt nm h = h
no_other w r d t (event.Key rd) nd ng nt nm h = h
no_other w r d t event.Stop nd ng nt nm h = h
no_other w r d t event.Restart nd ng nt nm h = h
no_other w r d t (event.Park k) nd ng nt nm h = h

pub no_other_in_stub :
    (w : World) (r : Run) (d : Core) (t : Space) (e : Event) → (e ≡ event.Done → ⊥) → (e ≡ event.Leave → ⊥) → ((rd : ℕ) → e ≡ event.Key rd → ⊥) → (e ≡ event.Stop → ⊥)
    → (e ≡ event.Restart → ⊥) → ((x : Trap) → e ≡ event.Trap x → ⊥) → ((u : Bool) → e ≡ event.Call u → ⊥) → StubLeads e w r d t → ⊥
no_other_in_stub w r d t event.Done nd nl nk ns nr nt nc h = nd refl
no_other_in_stub w r d t event.Leave nd nl nk ns nr nt nc h = nl refl
no_other_in_stub w r d t (event.Key rd) nd nl nk ns nr nt nc h = nk rd refl
no_other_in_stub w r d t event.Stop nd nl nk ns nr nt nc h = ns refl
no_other_in_stub w r d t event.Restart nd nl nk ns nr nt nc h = nr refl
no_other_in_stub w r d t (event.Trap x) nd nl nk ns nr nt nc h = nt x refl
no_other_in_stub w r d t (event.Call u) nd nl nk ns nr nt nc h = nc u refl
no_other_in_stub w r d t event.Gate nd nl nk ns nr nt nc h = h
no_other_in_stub w r d t event.NoMemory nd nl nk ns nr nt nc h = h
no_other_in_stub w r d t event.Ecall nd nl nk ns nr nt nc h = h
no_other_in_stub w r d t (event.Park k) nd nl nk ns nr nt nc h = h

-- ---- what is asked

pub and-false : (a b : Bool) → b ≡ false → (a && b) ≡ false
and-false true b e = e
and-false false b e = refl

-- the own hart has no other view
pub no-view : (v : View) → IsTrue (is_own_view v) → (v ≡ Stub → ⊥) → (v ≡ Program → ⊥) → ⊥
no-view Program side ns np = np refl
no-view Stub side ns np = ns refl
no-view Plain side ns np = absurd (let e : false ≡ true = side in cc)
no-view Shadow side ns np = absurd (let e : false ≡ true = side in cc)
