-- Parts of a call of the own hart (this project's own).
use Rattle.std.specs.Prelude.{ℕ, ◌+◌, ◌≤◌, ◌<◌, ◌==◌, ◌||◌, ◌≡◌, ℤ, pos, Bool, true, false, List, ◌∷◌, [], drop, Option, Some, is_some}
use Rattle.spec_base.specs.Layout.{stub_start}
use Rattle.spec_base.specs.declared.machine.View.TheVariants.{Stub}
use Rattle.spec_base.specs.declared.note.Note.{Note}
use Rattle.spec_base.specs.declared.note.Note.TheVariants as note
use Rattle.spec_base.specs.declared.spot.BlockSpot.{BlockSpot}
use Rattle.spec_base.specs.declared.spot.ReadSpot.{ReadSpot}
use Rattle.rv_decode.specs.declared.instr.Instr.TheVariants.{Hcall}
use Rattle.rv_model.specs.Effect.{fetched}
use Rattle.rv_model.specs.Memory.{written, bytes_at}
use Rattle.rv_model.specs.Registers.{reg}
use Rattle.program_model.specs.Descriptors.{Descriptors}
use Rattle.program_model.specs.Calls.{CallPlan, bytes_read, after_read}
use Rattle.program_model.specs.Cache.{Gathered, gather, blocks_of}
use Rattle.program_model.specs.PlainRun.{State, put, answered, plan_of}
use Rattle.code_model.specs.Stub.{stub}
use Rattle.run_model.specs.Run.{World, Run, Answer}
use Rattle.run_model.specs.Run as run
use Rattle.world_io.specs.Outside.{SinkState}
use Rattle.world_io.specs.Logs.{IsOffered}
use Rattle.world_io.specs.declared.sink.Put.{Put}
use Rattle.world_io.specs.declared.sink.Put.TheVariants.{Took, Failed}
use Rattle.run_model.specs.OwnMoves.{done_one, call_note, with_text, put_whole, sink_number, stall_notes, read_notes, match_count}

-- a call is completed with these descriptors and this answer
abbrev pub call_answered : Descriptors → ℤ → Run → Run
call_answered f answer r = done_one (record r { gathered = 0 }) (answered (record r.own { files = f }) answer)

-- the own hart stands at the call of the stub with this plan, and waits for nothing
pub record IsAtPlan (w : World) (r : Run) (plan : CallPlan) : Type 0 where
  pub in_stub : r.view ≡ Stub
  pub at_call : fetched stub stub_start r.own.pc ≡ Some (Hcall false)
  pub planned : plan_of w.image.layout r.own ≡ plan
  pub goes : r.stalled ≡ false

-- ---- a read

-- its blocks, as far as they are cached
abbrev pub gathered_on : Run → ReadSpot → Gathered
gathered_on r spot = gather r.cache r.gathered (drop r.gathered (blocks_of spot))

-- they are had, and it waits for this block, or for none
abbrev pub gone_on : Option BlockSpot → ReadSpot → Run → Run
gone_on block spot r = record r { cache = (gathered_on r spot).cache; gathered = (gathered_on r spot).had; stalled = is_some block }

-- a stall is counted and told
abbrev pub stall_told : Run → Run
stall_told r = record r { stalls = r.stalls + 1; notes = stall_notes r.cache.demanded }

-- its bytes are in memory
abbrev pub read_filled : World → ReadSpot → ℕ → Run → Run
read_filled w spot a r = record r { gathered = 0; own = record r.own { memory = written r.own.memory a (bytes_read w.files spot) } }

-- what is told of it, with the note of its call
abbrev pub told_read : Bool → ReadSpot → Note → List Note
told_read true spot call = call ∷ []
told_read false spot call = note.Match spot ∷ call ∷ []

-- it is counted and told
abbrev pub read_told : ReadSpot → Run → Run
read_told spot r = record r { matched = match_count r.asked r.matched; notes = read_notes r.asked r.own spot }

-- it is answered
abbrev pub read_answered : ReadSpot → Run → Run
read_answered spot r = call_answered (after_read r.own.files (reg r.own.registers 10) spot.count) (pos spot.count) r

-- ---- the other calls

-- its call is told with this answer
abbrev pub call_told : ℤ → Run → Run
call_told answer r = record r { notes = call_note r.own answer ∷ [] }

-- a put took so many bytes: the text, whether each was taken whole, and what is told
abbrev pub text_told : Bool → ℕ → ℕ → ℕ → Run → Run
text_told to_out k a n r =
    with_text k a n (put_whole ((k == n) || (r.restarts == 0)) (record r { notes = note.Text (sink_number to_out) k ∷ call_note r.own (pos k) ∷ [] }))

-- the state whose put it was
abbrev pub put_in : Bool → ℕ → ℕ → ℕ → State → State
put_in true k a n s = record s { out = put s.out (bytes_at s.memory a n) k }
put_in false k a n s = record s { err = put s.err (bytes_at s.memory a n) k }

-- how a put was answered
abbrev pub put_answer : Put → Answer
put_answer (Took k) = run.Took k
put_answer Failed = run.Failed

-- the first byte was taken, and at most all
abbrev pub TakesSome : ℕ → Put → Type 0
TakesSome n (Took k) = (0 < k) × (k ≤ n)
TakesSome n Failed = Unit {0}

-- one of two sinks was offered bytes
abbrev pub Offers : Bool → List ℕ → SinkState → SinkState → Put → SinkState → SinkState → Type 0
Offers true bytes out err put out_now err_now = IsOffered out (bytes, put) out_now × (err_now ≡ err)
Offers false bytes out err put out_now err_now = IsOffered err (bytes, put) err_now × (out_now ≡ out)
