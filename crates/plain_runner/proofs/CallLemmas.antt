-- A call is performed as the call table says.
use Rattle.std.proofs.Common.{◌≡◌, ℕ, ◌≤◌, ◌<◌, Bool, true, false, List, [], ◌∷◌, length, slice_get, Option, Some, None, ℤ, pos, refl, ap, sym, ◌∙◌, arith, subst, inl, inr}
use Rattle.std.specs.Prelude.{unwrap_or}
use Rattle.std.proofs.Math.ListN.{replicate}
use Rattle.std.proofs.lemmas.List.Elements.{All-nil, All-cons}
use Rattle.spec_base.specs.Word.{word_of_int}
use Rattle.spec_base.specs.Files.{Files, Name}
use Rattle.spec_base.specs.declared.spot.ReadSpot.{ReadSpot}
use Rattle.rv_model.specs.Memory.{Memory, bytes_at, written}
use Rattle.rv_model.specs.Registers.{reg, with_reg}
use Rattle.rv_model.specs.Rights.{is_data}
use Rattle.rv_model.specs.Effect.{after}
use Rattle.rv_model.specs.Space.{Space}
use Rattle.program_model.specs.Descriptors.{Descriptors}
use Rattle.program_model.specs.Cache.{blocks_of}
use Rattle.program_model.specs.Calls.{CallPlan, Set, Look, Read, Write, Exit, call_plan, opened, after_read, bytes_read}
use Rattle.program_model.specs.PlainRun.{State, Image as Program, Taken, Went, plan_of, performed, taken_by, put, size_in, answered, after_look, next_state, next_unless, completed, call_step}
use Rattle.world_io.specs.Outside.{StoreState, SinkState}
use Rattle.world_io.specs.Logs.{StoreLog, SinkLog}
use Rattle.world_io.proofs.Sinks.{none-SinkLog}
use Rattle.world_io.proofs.Stores.{none-StoreLog}
use Rattle.hart_mem.specs.Held.{Held, space_of, data_byte}
use Rattle.hart_step.specs.Core.{Core}
use Rattle.rv_model.specs.Data.{data_in, memory_in}
use Rattle.plain_runner.specs.declared.ending.Ending.{Ending}
use Rattle.plain_runner.specs.declared.ending.Ending.TheVariants.{Exited, Trapped, TurnsOver, StoreFault, SinkFault, NoMemory}
use Rattle.plain_runner.specs.StoreCalls.{calls_of, next_calls}
use Rattle.plain_runner.specs.Answers.{Answers, Sized, Gave}
use Rattle.plain_runner.specs.Runs.{Outside, Shows, IsCall, IsFileCall}
use Rattle.plain_runner.specs.Turns.{IsAtCall, GoesOn, Stops, alone, asks, puts_out, puts_err, piece, TurnsTo}
use Rattle.plain_runner.specs.Outcomes.{OpenComesTo, ReadComesTo, PutComesTo, OfferComesTo, answered_core}
use Rattle.plain_runner.proofs.Silent.{silent-GoesOn, silent-Stops}
use Rattle.rv_model.proofs.DataLemmas.{bytes_at-length}
use Rattle.hart_mem.proofs.DataBytes.{data-is, memory-is, zero_off_data}

-- ---- the plan of the call

-- the plan, from the code's plan over the memory's bytes
pub planned : (p : Program) (s : State) (c : Core) (h : Held) (f : Descriptors) → Shows p c (space_of h) f s → (plan : CallPlan)
    → plan ≡ call_plan (data_in (data_byte (space_of h))) (memory_in (data_byte (space_of h))) f (reg c.registers 17) (reg c.registers 10) (reg c.registers 11) (reg c.registers 12)
    → plan_of p.layout s ≡ plan
planned p s c h f shows plan given =
    let data_here : data_in (data_byte (space_of h)) ≡ is_data p.layout = data-is (space_of h) ∙ ap is_data shows.layout in
    let memory_here : memory_in (data_byte (space_of h)) ≡ s.memory = memory-is (space_of h) (zero_off_data h) ∙ sym shows.memory in
    rw (shows.registers, shows.files) (sym (given ∙ rw (data_here, memory_here) refl))

module _ (p : Program) (s : State) (c : Core) (h : Held) (f : Descriptors) (shows : Shows p c (space_of h) f s) (at : IsAtCall p s) where
  -- the next state, where the call's plan is known, and what its put takes
  went : (pl : CallPlan) → plan_of p.layout s ≡ pl → (files : Files) (t : Taken) (k : ℕ) → taken_by t pl s ≡ k → next_state p files t s ≡ Some (performed files k pl s)
  went pl plan files t k taken =
      ap (λ e. next_unless e p files t s) shows.exited
      ∙ ap completed (at.performs files t ∙ (ap (λ q. call_step files t q s) plan ∙ ap (λ m. Went (performed files m pl s)) taken))

  -- how many calls on the store a plan makes
  makes : (pl : CallPlan) → plan_of p.layout s ≡ pl → next_calls p s ≡ calls_of pl
  makes pl plan = at.calls ∙ ap calls_of plan

  calls : (pl : CallPlan) → plan_of p.layout s ≡ pl → IsCall p s pl
  calls pl plan = record { performs = at.performs; planned = plan }

  -- a call that asks the store nothing
  no_calls : (pl : CallPlan) → plan_of p.layout s ≡ pl → calls_of pl ≡ 0 → (st : StoreState) → StoreLog st (replicate (next_calls p s) false) st
  no_calls pl plan none st = subst (λ n. StoreLog st (replicate n false) st) (sym (makes pl plan ∙ none)) (none-StoreLog st)

  -- a state that is the last one answered
  answered-Shows : (n : State) (v : ℕ) (memory : Memory) (d : Descriptors) → n.registers ≡ with_reg c.registers 10 v → n.pc ≡ after s.pc → n.memory ≡ memory → n.files ≡ d → n.exited ≡ s.exited
      → Shows p (answered_core c v) (record (space_of h) { program = memory }) d n
  answered-Shows n v memory d rs pc is files exited =
      record { view = shows.view; registers = rs; pc = pc ∙ ap after shows.pc; memory = is; files = files; exited = exited ∙ shows.exited; layout = shows.layout; words = shows.words }

  -- ---- what is answered at once

  pub set-GoesOn : (f_new : Descriptors) (answer : ℤ) (o : Outside) → plan_of p.layout s ≡ Set f_new answer
      → GoesOn p s o (answered_core c (word_of_int answer)) (space_of h) f_new o
  set-GoesOn f_new answer o plan =
      let n : State = answered (record s { files = f_new }) answer in
      silent-GoesOn p s n [] o o.store (answered_core c (word_of_int answer)) (space_of h) f_new (alone (λ files t. went (Set f_new answer) plan files t 0 refl) refl refl)
      (λ files e. All-nil (Answers files))
      (answered-Shows n (word_of_int answer) (space_of h).program f_new (ap (λ rs. with_reg rs 10 (word_of_int answer)) shows.registers) refl shows.memory refl refl)
      (no_calls (Set f_new answer) plan refl o.store)

  pub exit-Stops : (code : ℕ) (o : Outside) → plan_of p.layout s ≡ Exit code → Stops p s (Exited code) o c (space_of h) f o
  exit-Stops code o plan =
      silent-Stops p s (Exited code) o o.store c (space_of h) f ((λ files t. went (Exit code) plan files t 0 refl), makes (Exit code) plan) shows (none-StoreLog o.store) (refl, refl)

  -- ---- opens

  open-GoesOn : (name : Name) (size : Option ℕ) (o : Outside) (st : StoreState) → plan_of p.layout s ≡ Look name → StoreLog o.store (false ∷ []) st
      → ((files : Files) → o.store.files ≡ Some files → size_in files name ≡ size)
      → GoesOn p s o (answered_core c (word_of_int (opened f name size).1)) (space_of h) (opened f name size).0 (record o { store = st })
  open-GoesOn name size o st plan log told =
      let n : State = after_look s (opened s.files name size) in
      silent-GoesOn p s n (Sized name size ∷ []) o st (answered_core c (word_of_int (opened f name size).1)) (space_of h) (opened f name size).0
      (asks (Sized name size) (λ files t is. went (Look name) plan files t 0 refl ∙ ap (λ k. Some (after_look s (opened s.files name k))) is) refl refl)
      (λ files e. All-cons (Answers files) (Sized name size) [] (told files e) (All-nil (Answers files)))
      (answered-Shows n (word_of_int (opened f name size).1) (space_of h).program (opened f name size).0
      (ap (λ rs. with_reg rs 10 (word_of_int (opened s.files name size).1)) shows.registers ∙ ap (λ d. with_reg c.registers 10 (word_of_int (opened d name size).1)) shows.files)
      refl shows.memory (ap (λ d. (opened d name size).0) shows.files) refl)
      (subst (λ k. StoreLog o.store (replicate k false) st) (sym (makes (Look name) plan)) log)

  -- a call on the store that failed
  fault-Stops : (pl : CallPlan) (o : Outside) (st : StoreState) (core : Core) (space : Space) (d : Descriptors) (more : ℕ) → plan_of p.layout s ≡ pl → IsFileCall p s → more < calls_of pl
      → StoreLog o.store (true ∷ replicate more false) st → core ≡ c → space ≡ space_of h → d ≡ f → Stops p s StoreFault o core space d (record o { store = st })
  fault-Stops pl o st core space d more plan is within log same_core same_space same_files =
      silent-Stops p s StoreFault o st core space d is
      (subst (λ k. Shows p k space d s) (sym same_core) (subst (λ m. Shows p c m d s) (sym same_space) (subst (λ q. Shows p c (space_of h) q s) (sym same_files) shows)))
      (more, subst (λ n. more < n) (sym (makes pl plan)) within, log) (refl, refl)

  pub open-TurnsTo : (name : Name) (o : Outside) (st : StoreState) (core : Core) (d : Descriptors) (r : Option Ending) → plan_of p.layout s ≡ Look name
      → OpenComesTo name o.store c f r st core d → TurnsTo p s o r core (space_of h) d (record o { store = st })
  open-TurnsTo name o st core d None plan came =
      subst (λ k. GoesOn p s o k (space_of h) d (record o { store = st })) (sym came.2)
      (subst (λ q. GoesOn p s o (answered_core c (word_of_int (opened f name came.0).1)) (space_of h) q (record o { store = st })) (sym came.1) (open-GoesOn name came.0 o st plan came.3 came.4))
  open-TurnsTo name o st core d (Some StoreFault) plan came =
      fault-Stops (Look name) o st core (space_of h) d 0 plan (inl (name, calls (Look name) plan)) (omega arith) came.0 came.1 refl came.2
  open-TurnsTo name o st core d (Some (Exited code)) plan came = absurd came
  open-TurnsTo name o st core d (Some (Trapped cause pc)) plan came = absurd came
  open-TurnsTo name o st core d (Some (TurnsOver count)) plan came = absurd came
  open-TurnsTo name o st core d (Some SinkFault) plan came = absurd came
  open-TurnsTo name o st core d (Some NoMemory) plan came = absurd came

  -- ---- reads

  small : (k n : ℕ) → k ≤ n → n ≤ 65536 → word_of_int (pos k) ≡ k
  small k n l m = omega arith

  read-GoesOn : (d a : ℕ) (spot : ReadSpot) (bytes : List ℕ) (o : Outside) (st : StoreState) → plan_of p.layout s ≡ Read d spot a → spot.count ≤ 65536
      → StoreLog o.store (replicate (length (blocks_of spot)) false) st → ((files : Files) → o.store.files ≡ Some files → bytes_read files spot ≡ bytes)
      → GoesOn p s o (answered_core c spot.count) (record (space_of h) { program = written (space_of h).program a bytes }) (after_read f d spot.count) (record o { store = st })
  read-GoesOn d a spot bytes o st plan few log told =
      let n : State = answered (record s { memory = written s.memory a bytes; files = after_read s.files d spot.count }) (pos spot.count) in
      silent-GoesOn p s n (Gave spot bytes ∷ []) o st (answered_core c spot.count) (record (space_of h) { program = written (space_of h).program a bytes }) (after_read f d spot.count)
      (asks (Gave spot bytes)
      (λ files t is.
      went (Read d spot a) plan files t 0 refl
      ∙ ap (λ bs. Some (answered (record s { memory = written s.memory a bs; files = after_read s.files d spot.count }) (pos spot.count))) is) refl refl)
      (λ files e. All-cons (Answers files) (Gave spot bytes) [] (told files e) (All-nil (Answers files)))
      (answered-Shows n spot.count (written (space_of h).program a bytes) (after_read f d spot.count)
      (rw (small spot.count spot.count (omega arith) few) (ap (λ rs. with_reg rs 10 spot.count) shows.registers)) refl
      (ap (λ m. written m a bytes) shows.memory) (ap (λ q. after_read q d spot.count) shows.files) refl)
      (subst (λ k. StoreLog o.store (replicate k false) st) (sym (makes (Read d spot a) plan)) log)

  pub read-TurnsTo : (d a : ℕ) (spot : ReadSpot) (o : Outside) (st : StoreState) (core : Core) (space : Space) (q : Descriptors) (r : Option Ending) → plan_of p.layout s ≡ Read d spot a → spot.count ≤ 65536
      → ReadComesTo d spot a o.store c (space_of h) f r st core space q → TurnsTo p s o r core space q (record o { store = st })
  read-TurnsTo d a spot o st core space q None plan few came =
      subst (λ k. GoesOn p s o k space q (record o { store = st })) (sym came.3)
      (subst (λ m. GoesOn p s o (answered_core c spot.count) m q (record o { store = st })) (sym came.1)
      (subst (λ w. GoesOn p s o (answered_core c spot.count) (record (space_of h) { program = written (space_of h).program a came.0 }) w (record o { store = st })) (sym came.2)
      (read-GoesOn d a spot came.0 o st plan few came.4 came.5)))
  read-TurnsTo d a spot o st core space q (Some StoreFault) plan few came =
      fault-Stops (Read d spot a) o st core space q came.0 plan (inr (d, spot, a, calls (Read d spot a) plan)) came.1 came.2 came.3 came.4 came.5
  read-TurnsTo d a spot o st core space q (Some (Exited code)) plan few came = absurd came
  read-TurnsTo d a spot o st core space q (Some (Trapped cause pc)) plan few came = absurd came
  read-TurnsTo d a spot o st core space q (Some (TurnsOver count)) plan few came = absurd came
  read-TurnsTo d a spot o st core space q (Some SinkFault) plan few came = absurd came
  read-TurnsTo d a spot o st core space q (Some NoMemory) plan few came = absurd came

  -- ---- writes

  -- the bytes that are put
  abbrev offered : ℕ → ℕ → List ℕ
  offered a n = bytes_at (memory_in (data_byte (space_of h))) a n

  offered-are : (a n : ℕ) → offered a n ≡ bytes_at s.memory a n
  offered-are a n = ap (λ m. bytes_at m a n) (memory-is (space_of h) (zero_off_data h) ∙ sym shows.memory)

  -- the hart after a put that took some bytes
  put-Shows : (next : State) (k n : ℕ) → k ≤ n → n ≤ 65536 → next.registers ≡ with_reg s.registers 10 (word_of_int (pos k)) → next.pc ≡ after s.pc → next.memory ≡ s.memory
      → next.files ≡ s.files → next.exited ≡ s.exited → Shows p (answered_core c k) (space_of h) f next
  put-Shows next k n most few rs pc memory files exited =
      answered-Shows next k (space_of h).program f (rs ∙ (ap (λ w. with_reg s.registers 10 w) (small k n most few) ∙ ap (λ r. with_reg r 10 k) shows.registers)) pc
      (memory ∙ shows.memory) (files ∙ shows.files) exited

  out-GoesOn : (a n k : ℕ) (o : Outside) (out : SinkState) → plan_of p.layout s ≡ Write true a n → n ≤ 65536
      → k ≤ length (bytes_at (memory_in (data_byte (space_of h))) a n) → SinkLog o.out (piece (bytes_at (memory_in (data_byte (space_of h))) a n) k ∷ []) None out
      → GoesOn p s o (answered_core c k) (space_of h) f (record o { out = out })
  out-GoesOn a n k o out plan few most log =
      let count : length (bytes_at (memory_in (data_byte (space_of h))) a n) ≡ n = bytes_at-length (memory_in (data_byte (space_of h))) a n in
      record {
        next = answered (record s { out = put s.out (bytes_at s.memory a n) k }) (pos k);
        answers = [];
        outs = piece (bytes_at (memory_in (data_byte (space_of h))) a n) k ∷ [];
        errs = [];
        completes = puts_out (bytes_at (memory_in (data_byte (space_of h))) a n) k
            (λ files t took. went (Write true a n) plan files t k (subst (λ m. unwrap_or (slice_get t.out (length s.out.puts)) m ≡ k) count took))
            (rw (offered-are a n) refl) refl;
        told = λ files e. All-nil (Answers files);
        shows = put-Shows (answered (record s { out = put s.out (bytes_at s.memory a n) k }) (pos k)) k n (subst (λ m. k ≤ m) count most) few refl refl refl refl refl;
        store_log = no_calls (Write true a n) plan refl o.store;
        out_log = log;
        err_log = none-SinkLog o.err;
      }

  err-GoesOn : (a n k : ℕ) (o : Outside) (err : SinkState) → plan_of p.layout s ≡ Write false a n → n ≤ 65536
      → k ≤ length (bytes_at (memory_in (data_byte (space_of h))) a n) → SinkLog o.err (piece (bytes_at (memory_in (data_byte (space_of h))) a n) k ∷ []) None err
      → GoesOn p s o (answered_core c k) (space_of h) f (record o { err = err })
  err-GoesOn a n k o err plan few most log =
      let count : length (bytes_at (memory_in (data_byte (space_of h))) a n) ≡ n = bytes_at-length (memory_in (data_byte (space_of h))) a n in
      record {
        next = answered (record s { err = put s.err (bytes_at s.memory a n) k }) (pos k);
        answers = [];
        outs = [];
        errs = piece (bytes_at (memory_in (data_byte (space_of h))) a n) k ∷ [];
        completes = puts_err (bytes_at (memory_in (data_byte (space_of h))) a n) k
            (λ files t took. went (Write false a n) plan files t k (subst (λ m. unwrap_or (slice_get t.err (length s.err.puts)) m ≡ k) count took))
            refl (rw (offered-are a n) refl);
        told = λ files e. All-nil (Answers files);
        shows = put-Shows (answered (record s { err = put s.err (bytes_at s.memory a n) k }) (pos k)) k n (subst (λ m. k ≤ m) count most) few refl refl refl refl refl;
        store_log = no_calls (Write false a n) plan refl o.store;
        out_log = none-SinkLog o.out;
        err_log = log;
      }

  -- what a put of the call came to, as a turn
  out-TurnsTo : (a n : ℕ) (o : Outside) (out : SinkState) (core : Core) (r : Option Ending) → plan_of p.layout s ≡ Write true a n → n ≤ 65536
      → PutComesTo (bytes_at (memory_in (data_byte (space_of h))) a n) o.out c r core out → TurnsTo p s o r core (space_of h) f (record o { out = out })
  out-TurnsTo a n o out core None plan few came =
      subst (λ k. GoesOn p s o k (space_of h) f (record o { out = out })) (sym came.2) (out-GoesOn a n came.0 o out plan few came.1 came.3)
  out-TurnsTo a n o out core (Some SinkFault) plan few came =
      record {
        ends = tt;
        shows = subst (λ k. Shows p k (space_of h) f s) (sym came.1) shows;
        called = none-StoreLog o.store;
        out_fault = Some (offered a n);
        err_fault = None;
        failed = (a, n, calls (Write true a n) plan, offered-are a n);
        out_log = came.0;
        err_log = none-SinkLog o.err;
      }
  out-TurnsTo a n o out core (Some (Exited code)) plan few came = absurd came
  out-TurnsTo a n o out core (Some (Trapped cause pc)) plan few came = absurd came
  out-TurnsTo a n o out core (Some (TurnsOver count)) plan few came = absurd came
  out-TurnsTo a n o out core (Some StoreFault) plan few came = absurd came
  out-TurnsTo a n o out core (Some NoMemory) plan few came = absurd came

  err-TurnsTo : (a n : ℕ) (o : Outside) (err : SinkState) (core : Core) (r : Option Ending) → plan_of p.layout s ≡ Write false a n → n ≤ 65536
      → PutComesTo (bytes_at (memory_in (data_byte (space_of h))) a n) o.err c r core err → TurnsTo p s o r core (space_of h) f (record o { err = err })
  err-TurnsTo a n o err core None plan few came =
      subst (λ k. GoesOn p s o k (space_of h) f (record o { err = err })) (sym came.2) (err-GoesOn a n came.0 o err plan few came.1 came.3)
  err-TurnsTo a n o err core (Some SinkFault) plan few came =
      record {
        ends = tt;
        shows = subst (λ k. Shows p k (space_of h) f s) (sym came.1) shows;
        called = none-StoreLog o.store;
        out_fault = None;
        err_fault = Some (offered a n);
        failed = (a, n, calls (Write false a n) plan, offered-are a n);
        out_log = none-SinkLog o.out;
        err_log = came.0;
      }
  err-TurnsTo a n o err core (Some (Exited code)) plan few came = absurd came
  err-TurnsTo a n o err core (Some (Trapped cause pc)) plan few came = absurd came
  err-TurnsTo a n o err core (Some (TurnsOver count)) plan few came = absurd came
  err-TurnsTo a n o err core (Some StoreFault) plan few came = absurd came
  err-TurnsTo a n o err core (Some NoMemory) plan few came = absurd came

  -- what an offer of the call came to, as a turn
  pub offer-TurnsTo : (b : Bool) (a n : ℕ) (o : Outside) (out err : SinkState) (core : Core) (r : Option Ending) → plan_of p.layout s ≡ Write b a n → n ≤ 65536
      → OfferComesTo b (bytes_at (memory_in (data_byte (space_of h))) a n) o.out o.err c r core out err → TurnsTo p s o r core (space_of h) f (record { store = o.store; out = out; err = err })
  offer-TurnsTo true a n o out err core r plan few came =
      subst (λ e. TurnsTo p s o r core (space_of h) f (record { store = o.store; out = out; err = e })) (sym came.1) (out-TurnsTo a n o out core r plan few came.0)
  offer-TurnsTo false a n o out err core r plan few came =
      subst (λ e. TurnsTo p s o r core (space_of h) f (record { store = o.store; out = e; err = err })) (sym came.1) (err-TurnsTo a n o err core r plan few came.0)
