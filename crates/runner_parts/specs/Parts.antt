-- What the parts of a runner show of a run (this project's own).
use Rattle.std.specs.Prelude.{ℕ, ◌≡◌, ◌≤◌, ◌<◌, ◌*◌, ◌⊎◌, IsTrue, Bool, true, false, List, take, length, slice_get, Option, Some, None}
use Rattle.std.specs.List.{flat_map}
use Rattle.spec_base.specs.Layout.{stub_start}
use Rattle.spec_base.specs.declared.machine.View.{View}
use Rattle.spec_base.specs.declared.machine.View.TheVariants.{Plain, Program, Stub, Shadow}
use Rattle.spec_base.specs.declared.note.ShadowState.{ShadowState}
use Rattle.spec_base.specs.declared.spot.BlockSpot.{BlockSpot}
use Rattle.spec_base.specs.declared.spot.ReadSpot.{ReadSpot}
use Rattle.rv_decode.specs.declared.instr.Instr.TheVariants.{Hcall}
use Rattle.rv_model.specs.Effect.{fetched}
use Rattle.program_model.specs.Descriptors.{Descriptors}
use Rattle.program_model.specs.Calls.{Read}
use Rattle.program_model.specs.PlainRun.{State, plan_of}
use Rattle.program_model.specs.Cache.{Cache, blocks_of}
use Rattle.code_model.specs.Stub.{stub}
use Rattle.run_model.specs.Run.{World, Run, ShadowHart, RunEnd, Exits, Traps, StoreFailed, SinkFailed}
use Rattle.hart_step.specs.Core.{Core}
use Rattle.word_laws.specs.Shown.{is_own_view}
use Rattle.cache_queue.specs.State.{CacheState, lists}
use Rattle.cache_queue.specs.Finishes.{TrueTo, padded_block}
use Rattle.runner_parts.specs.Counts.{Counted}
use Rattle.runner_parts.specs.declared.turn.End.{End}
use Rattle.runner_parts.specs.declared.turn.End.TheVariants as ending

-- ---- the own hart

-- the own hart's part of a run
pub record OwnSide : Type 0 where
  pub own : State
  pub site : ℕ
  pub view : View
  pub asked : Bool
  pub stalled : Bool
  pub gathered : ℕ
  pub end : Option RunEnd

abbrev pub own_side : Run → OwnSide
own_side r = record { own = r.own; site = r.site; view = r.view; asked = r.asked; stalled = r.stalled; gathered = r.gathered; end = r.end }

abbrev pub side_core : OwnSide → Core
side_core o = record { registers = o.own.registers; pc = o.own.pc; view = o.view; site = o.site }

-- hart, descriptors, and where its read stands
pub record ShowsOwn (o : OwnSide) (core : Core) (files : Descriptors) (asked stalled : Bool) (gathered : ℕ) : Type 0 where
  pub hart : core ≡ side_core o
  pub side : IsTrue (is_own_view o.view)
  pub files_are : files ≡ o.own.files
  pub asked_is : asked ≡ o.asked
  pub stalled_is : stalled ≡ o.stalled
  pub gathered_is : gathered ≡ o.gathered

-- ---- the shadow

-- hart and descriptors, and whether it runs
pub record ShowsHart (h : ShadowHart) (core : Core) (files : Descriptors) (state : ShadowState) : Type 0 where
  pub view : core.view ≡ Shadow
  pub registers : core.registers ≡ h.registers
  pub pc : core.pc ≡ h.pc
  pub files_are : files ≡ h.files
  pub state_is : state ≡ h.state

-- ---- the cache, and the blocks that the own hart's read has

abbrev pub demand_if : Bool → Option BlockSpot → Option BlockSpot
demand_if true spot = spot
demand_if false spot = None

-- the own hart stands at the call of a read, of which the first blocks stand in the buffer; it waits for the next, or no more
pub record IsGathering (w : World) (o : OwnSide) (cache : Cache) (staged : List ℕ) : Type 0 where
  pub in_stub : o.view ≡ Stub
  pub at_call : fetched stub stub_start o.own.pc ≡ Some (Hcall false)
  pub descriptor : ℕ
  pub spot : ReadSpot
  pub address : ℕ
  pub planned : plan_of w.image.layout o.own ≡ Read descriptor spot address
  pub some : o.gathered ≤ length (blocks_of spot)
  pub more : o.stalled ≡ true → o.gathered < length (blocks_of spot)
  pub few : length (blocks_of spot) ≤ 17
  pub staged_are : take (4096 * o.gathered) staged ≡ flat_map (λ b. padded_block (w.files b.name) b.block) (take o.gathered (blocks_of spot))
  pub demanded : cache.demanded ≡ demand_if o.stalled (slice_get (blocks_of spot) o.gathered)

-- it has nothing, and waits for nothing
pub record IsAtRest (o : OwnSide) (cache : Cache) : Type 0 where
  pub none : o.gathered ≡ 0
  pub goes : o.stalled ≡ false
  pub undemanded : cache.demanded ≡ None

-- the demanded block's fetch has failed, and the run is over
pub record IsCutOff (o : OwnSide) (cache : Cache) : Type 0 where
  pub in_stub : o.view ≡ Stub
  pub at_call : fetched stub stub_start o.own.pc ≡ Some (Hcall false)
  pub waits : o.stalled ≡ true
  pub undemanded : cache.demanded ≡ None
  pub over : o.end ≡ Some StoreFailed

-- one of these
abbrev pub Gathers : World → OwnSide → Cache → List ℕ → Type 0
Gathers w o cache staged = IsAtRest o cache ⊎ (IsGathering w o cache staged ⊎ IsCutOff o cache)

-- the lists, each block's bytes, and what the own hart has gathered
pub record ShowsCache (w : World) (o : OwnSide) (cache : Cache) (held : CacheState) (staged : List ℕ) : Type 0 where
  pub lists_are : lists held ≡ cache
  pub most : held.blocks.most ≡ 256
  pub depth : held.depth ≡ 64
  pub contents : TrueTo w.files held.blocks
  pub gathers : Gathers w o cache staged

-- ---- counts, and what is told

abbrev pub counts_of : Run → Counted
counts_of r =
    record {
      moves = r.moves;
      own_done = r.own_done;
      stalls = r.stalls;
      restarts = r.restarts;
      matched = r.matched;
      hints = r.hints;
      regions_most = r.regions_most;
      own_since = r.since.own;
      shadow_since = r.since.shadow;
    }

abbrev pub end_of_run : RunEnd → End
end_of_run (Exits code) = ending.Exit code
end_of_run (Traps cause pc) = ending.Trap cause pc
end_of_run StoreFailed = ending.Store
end_of_run SinkFailed = ending.Sink

-- and back
abbrev pub run_end : End → RunEnd
run_end (ending.Exit code) = Exits code
run_end (ending.Trap cause pc) = Traps cause pc
run_end ending.Store = StoreFailed
run_end ending.Sink = SinkFailed
