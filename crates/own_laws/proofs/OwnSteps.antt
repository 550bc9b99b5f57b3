-- What an own move and a fetch lead to, by cases: a statement about each case is one about the next run.
use Rattle.std.proofs.Common.{◌≡◌, ℕ, Bool, true, false, List, drop, Option, Some, None, refl}
use Rattle.std.specs.Prelude.{IsTrue}
use Rattle.std.proofs.lemmas.Bool.{and_parts}
use Rattle.spec_base.specs.Layout.{stub_start}
use Rattle.spec_base.specs.declared.machine.View.{View}
use Rattle.spec_base.specs.declared.machine.View.TheVariants.{Plain, Program, Stub, Shadow}
use Rattle.spec_base.specs.declared.note.Note.{Note}
use Rattle.spec_base.specs.declared.note.ShadowState.TheVariants.{Stopped}
use Rattle.spec_base.specs.declared.spot.BlockSpot.{BlockSpot}
use Rattle.spec_base.specs.declared.spot.ReadSpot.{ReadSpot}
use Rattle.rv_decode.specs.declared.instr.Instr.{Instr}
use Rattle.rv_decode.specs.declared.instr.Instr.TheVariants.{Hleave, Hsite, Hkey, Hstop, Hrestart}
use Rattle.rv_model.specs.Memory.{Memory, stored}
use Rattle.rv_model.specs.Registers.{Registers}
use Rattle.rv_model.specs.Rights.{data_rights, stub_rights, in_private}
use Rattle.rv_model.specs.Effect.{Effect, Next, Stored, Trapped, Called, Gated, effect, fetched, after}
use Rattle.rv_model.specs.Space.{stub_sees}
use Rattle.program_model.specs.Calls.{CallPlan, Set, Look, Read, Write, Exit}
use Rattle.program_model.specs.Cache.{Cache, Gathered, gather, blocks_of}
use Rattle.program_model.specs.PlainRun.{plan_of, performed}
use Rattle.code_model.specs.Stub.{stub}
use Rattle.run_model.specs.Run.{World, Run, RunEnd, Answer, Usual, Took, Failed, Lost, rewritten_text}
use Rattle.run_model.specs.OwnMoves.{done_one, entered, restarted, program_after, program_at, stub_after, stub_at, stub_stores, gate_step, own_call_step, read_on, look_done, write_step, own_in, own_unless, own_step}
use Rattle.run_model.specs.Moves.{landed_with, fetch_failed, fetch_ends, fetch_of}

-- what a call or a fetch changes beside the own state
pub record Aside : Type 0 where
  pub cache : Cache
  pub gathered : ℕ
  pub stalled : Bool
  pub stalls : ℕ
  pub matched : ℕ
  pub end : Option RunEnd
  pub notes : List Note
  pub text : List ℕ

-- a run with these
abbrev pub aside : Run → Aside → Run
aside r b =
    record r { cache = b.cache; gathered = b.gathered; stalled = b.stalled; stalls = b.stalls; matched = b.matched; end = b.end; notes = b.notes; text = b.text }

-- those of a run
abbrev aside_of : Run → Aside
aside_of r = record { cache = r.cache; gathered = r.gathered; stalled = r.stalled; stalls = r.stalls; matched = r.matched; end = r.end; notes = r.notes; text = r.text }

-- a call is performed, its put took so many bytes, and each put up to it was taken whole or not
abbrev pub performs : World → CallPlan → Run → ℕ → Bool → Run
performs w c r taken whole = done_one (record r { since = record r.since { whole = whole } }) (performed w.files taken c r.own)

-- ---- calls

-- a statement about what a call leads to: it waits or ends the run, or is performed
module _ (w : World) (r : Run) (P : Run → Type 0) where
  -- what is to be shown of a performed call
  abbrev Performs : CallPlan → Type 0
  Performs c = (taken : ℕ) (whole : Bool) (b : Aside) → (IsTrue whole → IsTrue r.since.whole) → P (aside (performs w c r taken whole) b)

  -- a call is performed with all puts as before
  as_before : (c : CallPlan) → Performs c → (b : Aside) → P (aside (performs w c r 0 r.since.whole) b)
  as_before c does b = does 0 r.since.whole b (λ h. h)

  -- a look
  look_done-by : (x : Answer) (name : List ℕ) → ((b : Aside) → P (aside r b)) → Performs (Look name) → P (look_done w x r name)
  look_done-by Failed name stays does = stays (aside_of (look_done w Failed r name))
  look_done-by Usual name stays does = as_before (Look name) does (aside_of (look_done w Usual r name))
  look_done-by (Took k) name stays does = as_before (Look name) does (aside_of (look_done w (Took k) r name))
  look_done-by Lost name stays does = as_before (Look name) does (aside_of (look_done w Lost r name))

  -- a read
  read_on-by : (waits : Bool) (d : ℕ) (spot : ReadSpot) (a : ℕ) (g : Gathered) → ((b : Aside) → P (aside r b)) → Performs (Read d spot a) → P (read_on waits w d spot a g r)
  read_on-by true d spot a g stays does = stays (aside_of (read_on true w d spot a g r))
  read_on-by false d spot a g stays does = as_before (Read d spot a) does (aside_of (read_on false w d spot a g r))

  -- a put
  write_step-by : (x : Answer) (to_out : Bool) (a n : ℕ) → ((b : Aside) → P (aside r b)) → Performs (Write to_out a n) → P (write_step w x r to_out a n)
  write_step-by Failed to_out a n stays does = stays (aside_of (write_step w Failed r to_out a n))
  write_step-by Usual to_out a n stays does = does _ _ (aside_of (write_step w Usual r to_out a n)) (λ h. (and_parts r.since.whole _ h).0)
  write_step-by (Took k) to_out a n stays does = does _ _ (aside_of (write_step w (Took k) r to_out a n)) (λ h. (and_parts r.since.whole _ h).0)
  write_step-by Lost to_out a n stays does = does _ _ (aside_of (write_step w Lost r to_out a n)) (λ h. (and_parts r.since.whole _ h).0)

  -- a planned call
  pub own_call-by : (x : Answer) (c : CallPlan) → ((b : Aside) → P (aside r b)) → Performs c → P (own_call_step w x r c)
  own_call-by x (Set f answer) stays does = as_before (Set f answer) does (aside_of (own_call_step w x r (Set f answer)))
  own_call-by x (Look name) stays does = look_done-by x name stays does
  own_call-by x (Read d spot a) stays does =
      let g : Gathered = gather r.cache r.gathered (drop r.gathered (blocks_of spot)) in read_on-by g.waits d spot a g stays does
  own_call-by x (Write to_out a n) stays does = write_step-by x to_out a n stays does
  own_call-by x (Exit code) stays does = as_before (Exit code) does (aside_of (own_call_step w x r (Exit code)))

-- ---- words of the program

-- a statement about what a word of the program leads to: it traps, leads on, stores, or is the gate's
module _ (w : World) (r : Run) (P : Run → Type 0) (stays : (b : Aside) → P (aside r b)) (goes : (rs : Registers) (pc : ℕ) → P (done_one r (record r.own { registers = rs; pc = pc })))
    (stores : (a width v : ℕ) → P (done_one r (record r.own { memory = stored r.own.memory a width v; pc = after r.own.pc }))) (enters : P (entered r)) where
  -- a word of the program, by its effect
  program_after-by : (e : Effect) → P (program_after r e)
  program_after-by (Next rs pc) = goes rs pc
  program_after-by (Stored a width v) = stores a width v
  program_after-by (Trapped cause) = stays (aside_of (program_after r (Trapped cause)))
  program_after-by Called = stays (aside_of r)
  program_after-by (Gated i) = enters

  -- and by its instruction
  pub program_at-by : (o : Option Instr) → P (program_at w r o)
  program_at-by None = stays (aside_of (program_at w r None))
  program_at-by (Some i) = program_after-by (effect Program (data_rights w.image.layout) r.own.memory r.own.registers r.own.pc i)

-- ---- own moves

-- what is to be shown of a run for it to hold of what an own move leads to
pub record OwnCases (w : World) (r : Run) (P : Run → Type 0) : Type 0 where
  -- nothing is done, or the run waits or ends
  pub stays : (b : Aside) → P (aside r b)
  -- a word of the program leads on, or stores
  pub goes : (rs : Registers) (pc : ℕ) → P (done_one r (record r.own { registers = rs; pc = pc }))
  pub stores : (a width v : ℕ) → P (done_one r (record r.own { memory = stored r.own.memory a width v; pc = after r.own.pc }))
  -- it is the gate's
  pub enters : P (entered r)
  -- a word of the stub leads on, or stores to its page, or elsewhere
  pub computes : (rs : Registers) (pc : ℕ) (page : Memory) → P (record r { own_page = page; own = record r.own { registers = rs; pc = pc } })
  pub links : (i : Instr) (a width v : ℕ) → effect Stub stub_rights (stub_sees r.shared r.own_page) r.own.registers r.own.pc i ≡ Stored a width v → in_private a ≡ false
      → P (record r { shared = stored r.shared a width v; own = record r.own { pc = after r.own.pc } })
  -- it leaves the stub, or stops or restarts the shadow
  pub leaves : r.view ≡ Stub → P (record r { view = Program; own = record r.own { pc = after r.site } })
  pub stops : P (record r { shadow = record r.shadow { state = Stopped }; own = record r.own { pc = after r.own.pc } })
  pub restarts : r.view ≡ Stub → P (restarted w r)
  -- it performs a call
  pub performs_call : Performs w r P (plan_of w.image.layout r.own)

module _ (w : World) (x : Answer) (r : Run) (P : Run → Type 0) (by : OwnCases w r P) where
  -- a gate instruction of the stub
  gate_step-by : r.view ≡ Stub → (i : Instr) → P (gate_step w x r i)
  gate_step-by v Hleave = by.leaves v
  gate_step-by v (Hsite rd) = by.computes _ _ _
  gate_step-by v (Hkey rd) = by.computes _ _ _
  gate_step-by v Hstop = by.stops
  gate_step-by v Hrestart = by.restarts v
  gate_step-by v _ = own_call-by w r P x (plan_of w.image.layout r.own) by.stays by.performs_call

  -- a store of the stub
  stub_stores-by : (b : Bool) (i : Instr) (a width v : ℕ) → effect Stub stub_rights (stub_sees r.shared r.own_page) r.own.registers r.own.pc i ≡ Stored a width v → in_private a ≡ b
      → P (stub_stores b r a width v)
  stub_stores-by true i a width v e f = by.computes _ _ _
  stub_stores-by false i a width v e f = by.links i a width v e f

  -- a word of the stub, by its effect
  stub_after-by : r.view ≡ Stub → (i : Instr) (e : Effect) → effect Stub stub_rights (stub_sees r.shared r.own_page) r.own.registers r.own.pc i ≡ e → P (stub_after w x r e)
  stub_after-by v i (Next rs pc) e = by.computes rs pc r.own_page
  stub_after-by v i (Stored a width n) e = stub_stores-by (in_private a) i a width n e refl
  stub_after-by v i (Trapped cause) e = by.stays (aside_of (stub_after w x r (Trapped cause)))
  stub_after-by v i (Gated j) e = gate_step-by v j
  stub_after-by v i Called e = by.stays (aside_of r)

  -- and by its instruction
  stub_at-by : r.view ≡ Stub → (o : Option Instr) → P (stub_at w x r o)
  stub_at-by v None = by.stays (aside_of (stub_at w x r None))
  stub_at-by v (Some i) = stub_after-by v i _ refl

  -- a word of either
  own_in-by : (v : View) → r.view ≡ v → P (own_in v w x r)
  own_in-by Program v = program_at-by w r P by.stays by.goes by.stores by.enters (fetched (rewritten_text w) w.image.layout.text_start r.own.pc)
  own_in-by Stub v = stub_at-by v (fetched stub stub_start r.own.pc)
  own_in-by Plain v = by.stays (aside_of r)
  own_in-by Shadow v = by.stays (aside_of r)

  -- a hart that may wait
  own_unless-by : (b : Bool) → P (own_unless b w x r)
  own_unless-by true = by.stays (aside_of r)
  own_unless-by false = own_in-by r.view refl

  -- an own move
  pub own_step-by : P (own_step w x r)
  own_step-by = own_unless-by r.stalled

-- ---- fetches

module _ (w : World) (x : Answer) (r : Run) (P : Run → Type 0) (stays : (b : Aside) → P (aside r b)) where
  -- a block lands, and may be kept
  landed_with-by : (o : Option BlockSpot) (notes : List Note) (cache : Cache) → P (record (landed_with o r notes) { cache = cache })
  landed_with-by (Some demanded) notes cache = stays (record (aside_of (landed_with (Some demanded) r notes)) { cache = cache })
  landed_with-by None notes cache = stays (record (aside_of (landed_with None r notes)) { cache = cache })

  -- a fetch fails
  fetch_failed-by : (o : Option BlockSpot) (spot : BlockSpot) → P (fetch_failed o r spot)
  fetch_failed-by (Some demanded) spot = stays (aside_of (fetch_failed (Some demanded) r spot))
  fetch_failed-by None spot = stays (aside_of (fetch_failed None r spot))

  -- a fetch ends
  fetch_ends-by : (y : Answer) (spot : BlockSpot) → P (fetch_ends w y r spot)
  fetch_ends-by Failed spot = fetch_failed-by r.cache.demanded spot
  fetch_ends-by Lost spot = landed_with-by r.cache.demanded _ _
  fetch_ends-by Usual spot = landed_with-by r.cache.demanded _ _
  fetch_ends-by (Took k) spot = landed_with-by r.cache.demanded _ _

  -- a fetch, if one is under way
  pub fetch_of-by : (o : Option BlockSpot) → P (fetch_of o w x r)
  fetch_of-by None = stays (aside_of r)
  fetch_of-by (Some spot) = fetch_ends-by x spot
