-- One word of the own hart: of the rewritten program, or of the stub (this project's own).
use Rattle.std.specs.Prelude.{ℕ, zero, suc, ◌+◌, min, max, Bool, true, false, ◌&&◌, ◌||◌, ℤ, pos, List, [], ◌∷◌, take, drop, length, nat_le, ◌==◌, Option, Some, None}
use Rattle.spec_base.specs.declared.machine.Trap.{Trap}
use Rattle.spec_base.specs.declared.machine.Trap.TheVariants as trap
use Rattle.spec_base.specs.declared.machine.View.{View}
use Rattle.spec_base.specs.declared.machine.View.TheVariants.{Plain, Program, Stub, Shadow}
use Rattle.spec_base.specs.declared.note.ShadowState.TheVariants.{Running, Stopped}
use Rattle.spec_base.specs.declared.note.Note.{Note}
use Rattle.spec_base.specs.declared.note.Note.TheVariants as note
use Rattle.spec_base.specs.declared.spot.ReadSpot.{ReadSpot}
use Rattle.spec_base.specs.declared.spot.BlockSpot.{BlockSpot}
use Rattle.rv_decode.specs.declared.instr.Instr.{Instr}
use Rattle.rv_decode.specs.declared.instr.Instr.TheVariants.{Hleave, Hsite, Hkey, Hstop, Hrestart}
use Rattle.rv_model.specs.Memory.{Memory, stored, bytes_at}
use Rattle.rv_model.specs.Rights.{in_private, data_rights, stub_rights}
use Rattle.rv_model.specs.Registers.{Registers, reg, with_reg}
use Rattle.rv_model.specs.Effect.{Effect, Next, Stored, Trapped, Called, Gated, effect, fetched, after}
use Rattle.rv_model.specs.Space.{stub_sees}
use Rattle.program_model.specs.Calls.{CallPlan, Set, Look, Read, Write, Exit, opened, key_of}
use Rattle.program_model.specs.PlainRun.{State, plan_of, performed, size_in}
use Rattle.program_model.specs.Cache.{Cache, Gathered, gather, blocks_of}
use Rattle.spec_base.specs.Layout.{stub_start, helpers_start}
use Rattle.code_model.specs.Places.{RESTART}
use Rattle.code_model.specs.Stub.{stub}
use Rattle.code_model.specs.Regions.{slots_in_use}
use Rattle.run_model.specs.Run.{World, Run, RunEnd, Exits, Traps, StoreFailed, SinkFailed, Answer, Usual, Took, Failed, Lost, Since, rewritten_text}

-- ---- an own instruction is completed

-- the own hart stays behind the shadow where it has completed no more instructions than the shadow
abbrev pub stays_behind : ℕ → ℕ → ℕ → Bool
stays_behind restarts own shadow = (restarts == 0) || nat_le own shadow

-- the count since the restart
abbrev pub counted : ℕ → Since → Since
counted restarts s = record s { own = s.own + 1; ahead = s.ahead && stays_behind restarts (s.own + 1) s.shadow }

-- one more instruction is completed, which leaves this state
abbrev pub done_one : Run → State → Run
done_one r own = record r { own = own; own_done = r.own_done + 1; since = counted r.restarts r.since }

-- the run ends so
abbrev pub ended : Run → RunEnd → List Note → Run
ended r e notes = record r { end = Some e; notes = notes }

-- ---- a word of the program

-- HGATE: the pc is kept as the site, and the stub begins
abbrev pub entered : Run → Run
entered r = record r { site = r.own.pc; at_gate = r.own; view = Stub; asked = false; own = record r.own { pc = stub_start } }

-- what the effect of a program's word does
abbrev pub program_after : Run → Effect → Run
program_after r (Next rs pc) = done_one r (record r.own { registers = rs; pc = pc })
program_after r (Stored a width v) = done_one r (record r.own { memory = stored r.own.memory a width v; pc = after r.own.pc })
program_after r (Trapped cause) = ended r (Traps cause r.own.pc) (note.Trap cause r.own.pc ∷ [])
program_after r (Gated _) = entered r
program_after r Called = r

-- a word of the program, or none to fetch
abbrev pub program_at : World → Run → Option Instr → Run
program_at w r None = ended r (Traps trap.FetchOut r.own.pc) (note.Trap trap.FetchOut r.own.pc ∷ [])
program_at w r (Some i) = program_after r (effect Program (data_rights w.image.layout) r.own.memory r.own.registers r.own.pc i)

-- the word at pc
abbrev pub program_step : World → Run → Run
program_step w r = program_at w r (fetched (rewritten_text w) w.image.layout.text_start r.own.pc)

-- ---- a call is performed: HCALL 0 of the stub

-- what is told of a completed call
abbrev pub call_note : State → ℤ → Note
call_note s answer = note.Call (reg s.registers 17) (reg s.registers 10) (reg s.registers 11) (reg s.registers 12) answer

-- a call is completed; its put took so many bytes
abbrev pub call_done : World → ℕ → CallPlan → List Note → Run → Run
call_done w taken plan notes r = done_one (record r { gathered = 0; notes = notes }) (performed w.files taken plan r.own)

-- how many bytes a put took: at least one, and at most all
abbrev pub taken_in : Answer → ℕ → ℕ
taken_in (Took k) n = max 1 (min k n)
taken_in Usual n = n
taken_in Failed n = n
taken_in Lost n = n

-- whether each put was taken whole
abbrev pub put_whole : Bool → Run → Run
put_whole all r = record r { since = record r.since { whole = r.since.whole && all } }

-- the bytes of a put that were taken
abbrev pub with_text : ℕ → ℕ → ℕ → Run → Run
with_text k a n r = record r { text = take k (bytes_at r.own.memory a n) }

-- how a trace names the sinks
abbrev pub sink_number : Bool → ℕ
sink_number true = 1
sink_number false = 2

-- a put was taken
abbrev pub write_done : World → ℕ → Bool → ℕ → ℕ → Run → Run
write_done w k to_out a n r =
    call_done w k (Write to_out a n) (note.Text (sink_number to_out) k ∷ call_note r.own (pos k) ∷ [])
    (with_text k a n (put_whole ((k == n) || (r.restarts == 0)) r))

-- a read is told as matched where it was performed without a restart
abbrev pub read_notes : Bool → State → ReadSpot → List Note
read_notes true s spot = call_note s (pos spot.count) ∷ []
read_notes false s spot = note.Match spot ∷ call_note s (pos spot.count) ∷ []

-- a read that asked for no restart is counted
abbrev pub match_count : Bool → ℕ → ℕ
match_count true n = n
match_count false n = n + 1

-- a stall tells the block
abbrev pub stall_notes : Option BlockSpot → List Note
stall_notes None = []
stall_notes (Some spot) = note.Stall spot ∷ []

-- a read goes on: it waits for the next block, or has them all
abbrev pub read_on : Bool → World → ℕ → ReadSpot → ℕ → Gathered → Run → Run
read_on true w d spot a g r = record r { cache = g.cache; gathered = g.had; stalled = true; stalls = r.stalls + 1; notes = stall_notes g.cache.demanded }
read_on false w d spot a g r =
    call_done w 0 (Read d spot a) (read_notes r.asked r.own spot) (record r { cache = g.cache; matched = match_count r.asked r.matched })

-- a read with what was gathered
abbrev pub read_step : World → ℕ → ReadSpot → ℕ → Gathered → Run → Run
read_step w d spot a g r = read_on g.waits w d spot a g r

-- a look was answered, or failed
abbrev pub look_done : World → Answer → Run → List ℕ → Run
look_done w Failed r name = ended r StoreFailed (note.Fault ∷ [])
look_done w _ r name =
    call_done w 0 (Look name) (call_note r.own (opened r.own.files name (size_in w.files name)).1 ∷ []) r

-- a put was answered, or failed
abbrev pub write_step : World → Answer → Run → Bool → ℕ → ℕ → Run
write_step w Failed r to_out a n = ended r SinkFailed []
write_step w x r to_out a n = write_done w (taken_in x n) to_out a n r

-- a planned call is performed, or waits
abbrev pub own_call_step : World → Answer → Run → CallPlan → Run
own_call_step w x r (Set f answer) = call_done w 0 (Set f answer) (call_note r.own answer ∷ []) r
own_call_step w x r (Look name) = look_done w x r name
own_call_step w x r (Read d spot a) = read_step w d spot a (gather r.cache r.gathered (drop r.gathered (blocks_of spot))) r
own_call_step w x r (Write to_out a n) = write_step w x r to_out a n
own_call_step w x r (Exit code) = ended (call_done w 0 (Exit code) [] r) (Exits code) (note.Exit code ∷ [])

-- ---- the other gate instructions of the stub

-- register rd of the own hart is written
abbrev pub own_wrote : Run → ℕ → ℕ → Run
own_wrote r rd v = record r { own = record r.own { registers = with_reg r.own.registers rd v; pc = after r.own.pc } }

-- a restart begins with the state at the gate
abbrev pub since_restart : Run → Since
since_restart r = record { own = 0; shadow = 0; ahead = true; whole = true; hints = []; filled = []; origin = Some r.at_gate; words = 0; regions = slots_in_use r.shared }

-- a restart tells the read that asked for it
abbrev pub restart_notes : CallPlan → List Note
restart_notes (Read d spot a) = note.Restart spot ∷ []
restart_notes _ = []

-- the shadow gets the own descriptors, and runs from the helper RESTART on
abbrev pub restarted : World → Run → Run
restarted w r =
    record r {
      shadow = record r.shadow { state = Running; pc = helpers_start + RESTART; files = r.own.files };
      own = record r.own { pc = after r.own.pc };
      asked = true;
      restarts = r.restarts + 1;
      since = since_restart r;
      notes = restart_notes (plan_of w.image.layout r.own);
    }

-- a gate instruction of the stub
abbrev pub gate_step : World → Answer → Run → Instr → Run
gate_step w x r Hleave = record r { view = Program; own = record r.own { pc = after r.site } }
gate_step w x r (Hsite rd) = own_wrote r rd r.site
gate_step w x r (Hkey rd) = own_wrote r rd (key_of (plan_of w.image.layout r.own))
gate_step w x r Hstop = record r { shadow = record r.shadow { state = Stopped }; own = record r.own { pc = after r.own.pc } }
gate_step w x r Hrestart = restarted w r
gate_step w x r _ = own_call_step w x r (plan_of w.image.layout r.own)

-- ---- a word of the stub

-- a store goes to the stub's page or to the link
abbrev pub stub_stores : Bool → Run → ℕ → ℕ → ℕ → Run
stub_stores true r a width v = record r { own_page = stored r.own_page a width v; own = record r.own { pc = after r.own.pc } }
stub_stores false r a width v = record r { shared = stored r.shared a width v; own = record r.own { pc = after r.own.pc } }

-- what the effect of a stub's word does
abbrev pub stub_after : World → Answer → Run → Effect → Run
stub_after w x r (Next rs pc) = record r { own = record r.own { registers = rs; pc = pc } }
stub_after w x r (Stored a width v) = stub_stores (in_private a) r a width v
stub_after w x r (Trapped cause) = ended r (Traps cause r.own.pc) (note.Trap cause r.own.pc ∷ [])
stub_after w x r (Gated i) = gate_step w x r i
stub_after w x r Called = r

-- a word of the stub, or none to fetch
abbrev pub stub_at : World → Answer → Run → Option Instr → Run
stub_at w x r None = ended r (Traps trap.FetchOut r.own.pc) (note.Trap trap.FetchOut r.own.pc ∷ [])
stub_at w x r (Some i) = stub_after w x r (effect Stub stub_rights (stub_sees r.shared r.own_page) r.own.registers r.own.pc i)

-- the word at pc
abbrev pub stub_step : World → Answer → Run → Run
stub_step w x r = stub_at w x r (fetched stub stub_start r.own.pc)

-- ---- one word, unless the hart is stalled

-- a word of the program or of the stub
abbrev pub own_in : View → World → Answer → Run → Run
own_in Program w x r = program_step w r
own_in Stub w x r = stub_step w x r
own_in Plain w x r = r
own_in Shadow w x r = r

-- a hart that waits does nothing
abbrev pub own_unless : Bool → World → Answer → Run → Run
own_unless true w x r = r
own_unless false w x r = own_in r.view w x r

-- a move of the own hart
abbrev pub own_step : World → Answer → Run → Run
own_step w x r = own_unless r.stalled w x r
