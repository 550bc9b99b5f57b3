-- The words of a call's block and of APPEND, by the log: up to the HCALL a call with a key has joined it, where there was room for a pair; it parks at LogFull where 64 pairs wait.
use Rattle.std.proofs.Common.{◌≡◌, ℕ, ◌+◌, ◌-◌, ◌^◌, ◌<◌, ◌≤◌, ◌⊎◌, inl, inr, Bool, true, false, ◌&&◌, Option, Some, None, refl, ◌∙◌, ap, sym, subst, arith, not, ◌==◌}
use Rattle.std.proofs.lemmas.Bool.Decides.{nat_tests}
use Rattle.spec_base.specs.declared.layout.Layout.{Layout}
use Rattle.spec_base.specs.declared.note.ShadowState.{ShadowState}
use Rattle.spec_base.specs.declared.note.ShadowState.TheVariants.{Running, Parked}
use Rattle.spec_base.specs.declared.park.Park.{Park}
use Rattle.spec_base.specs.declared.park.Park.TheVariants as park
use Rattle.rv_decode.specs.declared.instr.Instr.{Instr}
use Rattle.rv_decode.specs.declared.instr.Instr.TheVariants.{Ecall, Hkey, Hcall}
use Rattle.rv_model.specs.Memory.{Memory}
use Rattle.rv_model.specs.Registers.{Registers, reg, with_reg}
use Rattle.rv_model.specs.Effect.{after}
use Rattle.rv_model.specs.Space.{program_byte}
use Rattle.program_model.specs.Calls.{CallPlan, key_of}
use Rattle.program_model.specs.PlainRun.{State, plan_of}
use Rattle.code_model.specs.Blocks.{block}
use Rattle.code_model.specs.Log.{log_head, log_tail, IsQueue}
use Rattle.code_model.specs.Places.{block_at}
use Rattle.run_model.specs.Run.{World, Run, Answer, rewritten_words}
use Rattle.run_model.specs.ShadowMoves.{arrived, arrived_if, fetch_shadow, is_arrival, is_call_word, is_running, shadow_at, shadow_at_word, shadow_in, shadow_plan, shadow_step, word_counted}
use Rattle.run_laws.specs.OwnLaws.{Accepted}
use Rattle.run_model.specs.Restarts.{instr_at}
use Rattle.own_laws.proofs.Reached.{false_true}
use Rattle.side_model.specs.Hart.{Regs, get, Priv}
use Rattle.side_model.specs.Places.{Place, InBlock, InHelper, Appending, address, code, IsInstruction}
use Rattle.side_model.specs.Words.{Point}
use Rattle.side_model.specs.Sees.{shade_of, HasRegs, Landed}
use Rattle.side_model.specs.Sees as landing
use Rattle.side_model.proofs.Fetching.{code-fetches}
use Rattle.side_model.proofs.Private.{priv_of, HasPriv-of}
use Rattle.side_model.proofs.Registers as low
use Rattle.side_model.proofs.Registers.{HasRegs-of}
use Rattle.side_model.specs.Tables.{HasTabs}
use Rattle.code_model.specs.Tables.{Tabs, TableOk}
use Rattle.rows_log.specs.Queue.{HasRoom}
use Rattle.rows_log.specs.CallRows as row
use Rattle.rows_log.specs.CallRows.{Stage, Before, Headed, Room, HasKey, HasPair, Appended, AtStage, Settled, keyless, keyed, CallRow, before_key, is_headed, KeyStep, keeps_key, finds_key, HeadStep, finds_head, keeps_head, no_head, CallNext, LogIsFull}
use Rattle.rows_log.proofs.CallWords.{call_leads, call_starts}
use Rattle.rows_log.proofs.QueueLaws.{steps-keep}
use Rattle.mark_laws.proofs.OneInstruction.{true_false}
use Rattle.shadow_laws.proofs.ShadowNumbers.{Sized, stock_of}
use Rattle.shadow_laws.proofs.Sound.{At, parked_running, instruction-is}
use Rattle.shadow_laws.proofs.LoggedSteps.{key-small}
use Rattle.shadow_laws.proofs.SoundSteps.{landed}
use Rattle.shadow_laws.proofs.TextBlocks.{InText, text, at-address}
use Rattle.hint_laws.proofs.Spots.{InstructionStands, instr-stands}
use Rattle.shadow_walk.specs.Walks.{HasLog, Logs, IsFullLog}
use Rattle.shadow_walk.specs.Walks as walk
use Rattle.shadow_walk.proofs.WalkRows.{is_other}

-- ---- the call of a state stands in the text

pub call-there : (w : World) (a : Accepted w) (q : State) → instr_at w.image q ≡ Some Ecall → InText w q.pc Ecall
call-there w a q e =
    let s : InstructionStands w q Ecall = instr-stands w a q Ecall e in
    let f : (i : Instr) × InText w q.pc i = at-address w a q.pc (record { above = s.above; below = omega (arith, s.below); whole = omega (arith, s.above, s.whole, (text w a).start) }) s.below in
    let same : f.0 ≡ Ecall = let g : Some f.0 ≡ Some Ecall = sym f.1.word ∙ s.word in cc in
    subst (λ (i : Instr). InText w q.pc i) same f.1

-- ---- stages

-- at each stage the log is a queue
stage-queue : (tail count : ℕ) (stage : Stage) (m : Memory) → AtStage tail count stage m → IsQueue m
stage-queue tail count Before m s = s.0
stage-queue tail count (Headed head) m s = s.0
stage-queue tail count Room m s = (let r : HasRoom m = s.0 in record { order = r.order; most = omega (arith, r.room) })
stage-queue tail count (HasKey key) m s = (let r : HasRoom m = s.0 in record { order = r.order; most = omega (arith, r.room) })
stage-queue tail count (HasPair key) m s = (let r : HasRoom m = s.0 in record { order = r.order; most = omega (arith, r.room) })
stage-queue tail count (Appended key) m s = s.0

-- and its tail has risen by one pair at most
stage-tail : (tail count : ℕ) (stage : Stage) (m : Memory) → AtStage tail count stage m → log_tail m ≤ tail + 1
stage-tail tail count Before m s = omega (arith, s.1)
stage-tail tail count (Headed head) m s = omega (arith, s.1)
stage-tail tail count Room m s = omega (arith, s.1)
stage-tail tail count (HasKey key) m s = omega (arith, s.1)
stage-tail tail count (HasPair key) m s = omega (arith, s.1)
stage-tail tail count (Appended key) m s = omega (arith, s.1)

-- a head that is at hand
head-found : {m : Memory} {from to : Stage} → HeadStep m from to → (head : ℕ) → to ≡ Headed head → (head ≡ log_head m) ⊎ (from ≡ Headed head)
head-found {m} finds_head head e = (let f : log_head m ≡ head = cc in inl (sym f))
head-found (keeps_head h) head e = inr e
head-found (no_head u) head e = false_true (sym u ∙ ap is_headed e)

-- ---- the key

-- behind HKEY it is in x31
abbrev is_fourth : Place → Bool
is_fourth (InHelper Appending n) = n == 3
is_fourth _ = false

key-there : {l : Layout} {p : ℕ} {g : Regs} {tail key : ℕ} {place : Place} {rs : Regs} {s : Priv} {stage : Stage} {n : ℕ} → CallRow l p g tail key place rs s stage n → is_fourth place ≡ true → get 31 rs ≡ key
key-there (row.a4 s) e = refl
key-there _ e = false_true e

-- once it is known it stays so
known : (b d : Bool) → (b && not d) ≡ false → d ≡ false → b ≡ false
known true true e f = f
known true false e f = e
known false d e f = refl

-- ---- a call under way

-- rows of the call of the state q, where the log's tail was this at word 1 and the call has this key and this stage
abbrev pub LoggingRow : Layout → ℕ → Regs → ℕ → ℕ → Stage → Place → Regs → Priv → Tabs → Memory → ℕ → Type 0
LoggingRow l p g tail key stage place rs s t m n = CallRow l p g tail key place rs s stage n × AtStage tail (get 12 g) stage m

-- the run y is on its way through the block of that call, which the run r was at word 1 of
pub record OnCall (w : World) (r : Run) (q : State) (y : Run) : Type 0 where
  pub g : Regs
  pub has : HasRegs r.shadow.registers g
  pub key : ℕ
  pub stage : Stage
  pub left : ℕ
  pub small : key < 2 ^ 64
  pub at : At w (block_at w.image.layout q.pc) (block w.image.layout q.pc Ecall) (LoggingRow w.image.layout q.pc g (log_tail r.shared) key stage) (shade_of y) left
  pub head : log_head y.shared ≡ log_head r.shared
  pub headed : (head : ℕ) → stage ≡ Headed head → head ≡ log_head r.shared
  pub keyed : before_key at.point.place ≡ false → key ≡ key_of (plan_of w.image.layout q)

-- at word 1 it is
pub log-starts : (w : World) (a : Accepted w) (r : Run) (q : State) → instr_at w.image q ≡ Some Ecall → r.shadow.pc ≡ block_at w.image.layout q.pc + 4 → r.shadow.state ≡ Running → (t : Tabs) → HasTabs w.image.layout r.shared t → TableOk w.image.layout t
    → IsQueue r.shared → OnCall w r q r
log-starts w a r q call place runs t has ok queue =
    let g : Regs = low.regs_of r.shadow.registers in
    let start = call_starts w.image.layout q.pc g 0 (priv_of r.shadow_page) r.shared queue in
    record {
      g = g;
      has = HasRegs-of r.shadow.registers;
      key = 0;
      stage = Before;
      left = 31;
      small = omega arith;
      at = record {
        code = (call-there w a q call).code;
        point = record { place = InBlock 1; regs = g; priv = priv_of r.shadow_page; tabs = t };
        shown = record { pc = place; regs = HasRegs-of r.shadow.registers; priv = HasPriv-of r.shadow_page; tabs = has; shared = refl; running = runs };
        ok = ok;
        row = start;
      };
      head = refl;
      headed = λ head e. absurd cc;
      keyed = λ e. true_false e;
    }

-- where a word of it asks for a key or makes a call: HKEY, and word 6 of the block, at which the call is done with the log
data CallSpot (place : Place) (key : ℕ) (stage : Stage) : Type 0 where
  at_key : place ≡ InHelper Appending 2 → CallSpot place key stage
  at_call : place ≡ InBlock 6 → Settled key stage → CallSpot place key stage

spot-is : {l : Layout} {p : ℕ} {g : Regs} {tail key : ℕ} {place : Place} {rs : Regs} {s : Priv} {stage : Stage} {n : ℕ} → CallRow l p g tail key place rs s stage n → is_other (code l (block l p Ecall) place) ≡ false → CallSpot place key stage
spot-is (row.a3 s) e = at_key refl
spot-is (row.b6 s z) e = at_call refl z
spot-is _ e = true_false e

module _ (w : World) (a : Accepted w) (x : Answer) (r : Run) (q : State) (call : instr_at w.image q ≡ Some Ecall) (short : log_tail r.shared + 1 < 2 ^ 64 - 1) (small_count : (i : ℕ) → r.shadow.registers i < 2 ^ 64)
    (y : Run) (z : Sized (stock_of y)) (on : OnCall w r q y) (plans : fetch_shadow w y.shadow.pc ≡ Some (Hkey 31) → shadow_plan w y ≡ plan_of w.image.layout q) where
  abbrev l : Layout
  l = w.image.layout

  abbrev next : Run
  next = shadow_step w x y

  abbrev tail : ℕ
  tail = log_tail r.shared

  abbrev point : Point
  point = on.at.point

  site : IsInstruction l q.pc
  site = instruction-is w a (call-there w a q call)

  -- the asked count
  count-is : get 12 on.g ≡ r.shadow.registers 12
  count-is = sym (on.has.at 12)

  count_small : get 12 on.g < 2 ^ 64
  count_small = omega (arith, count-is, small_count 12)

  small : log_tail y.shared < 2 ^ 64 - 1
  small = omega (arith, short, stage-tail tail (get 12 on.g) on.stage y.shared on.at.row.1)

  -- where its word leads
  lands : Landed l (block_at l q.pc) (CallNext l q.pc on.g tail on.key point.place on.stage point.tabs y.shared) (λ target rs t m. ⊥) (LogIsFull on.key point.place on.stage point.tabs y.shared) on.left (shade_of next)
  lands =
      landed w a x y z on.at
      (call_leads l q.pc on.g tail on.key (program_byte l (rewritten_words w) y.own.memory) site on.small count_small on.left point.place point.regs point.priv on.stage point.tabs y.shared on.at.ok small on.at.row.0 on.at.row.1)

  -- the word at hand
  fetched-at : (place : Place) (i : Instr) → place ≡ point.place → code l (block l q.pc Ecall) place ≡ Some i → fetch_shadow w y.shadow.pc ≡ Some i
  fetched-at place i e f =
      ap (fetch_shadow w) (on.at.shown.pc ∙ ap (address (block_at l q.pc)) (sym e)) ∙ (code-fetches w (block_at l q.pc) (block l q.pc Ecall) place i on.at.code f).word

  -- HKEY puts the key of the call into x31
  counted-registers : (b : Bool) (s : Run) → (word_counted (arrived_if b s)).shadow.registers ≡ s.shadow.registers
  counted-registers true s = refl
  counted-registers false s = refl

  key-put : fetch_shadow w y.shadow.pc ≡ Some (Hkey 31) → reg next.shadow.registers 31 ≡ key_of (plan_of l q)
  key-put f =
      let plan : CallPlan = shadow_plan w y in
      let put : Run = shadow_at y (with_reg y.shadow.registers 31 (key_of plan)) (after y.shadow.pc) in
      let made : next ≡ word_counted (arrived l put) = ap (λ (s : ShadowState). shadow_in s w x y) on.at.shown.running ∙ ap (λ o. word_counted (shadow_at_word w x y o)) f in
      ap (λ (s : Run). reg s.shadow.registers 31) made ∙ ap (λ (rs : Registers). reg rs 31) (counted-registers (is_running put.shadow.state && is_arrival l put.shadow.pc) put) ∙ ap key_of (plans f)

  -- ---- the next word

  key-next : (from to : Place) (rs : Regs) (s : Priv) (found : ℕ) (stage : Stage) (n : ℕ) → from ≡ point.place → HasRegs next.shadow.registers rs → CallRow l q.pc on.g tail found to rs s stage n → KeyStep on.key from to found
      → before_key to ≡ false → found ≡ key_of (plan_of l q)
  key-next from to rs s found stage n e has at (keeps_key same) late = on.keyed (ap before_key (sym e) ∙ known (before_key from) (before_key to) same late)
  key-next _ _ rs s found stage n e has at (finds_key k few) late = sym (key-there at refl) ∙ sym (has.at 31) ∙ key-put (fetched-at (InHelper Appending 2) (Hkey 31) e refl)

  pub log-next : is_call_word (fetch_shadow w y.shadow.pc) ≡ false → next.shadow.state ≡ Running → OnCall w r q next
  log-next quiet runs = by_landed lands
    where
      by_landed : Landed l (block_at l q.pc) (CallNext l q.pc on.g tail on.key point.place on.stage point.tabs y.shared) (λ target rs t m. ⊥) (LogIsFull on.key point.place on.stage point.tabs y.shared) on.left (shade_of next) → OnCall w r q next
      by_landed (landing.goes_on k s m (row.word found stage next_row at key_step head_step log_step) ok less inner v) =
          let left : log_head m ≡ log_head y.shared = (steps-keep (get 12 on.g) point.place y.shared m (stage-queue tail (get 12 on.g) on.stage y.shared on.at.row.1) small log_step).appends.head in
          record {
            g = on.g;
            has = on.has;
            key = found;
            stage = stage;
            left = k;
            small = key-small on.small key_step;
            at = record {
              code = on.at.code;
              point = s;
              shown = record { pc = v.pc; regs = v.regs; priv = v.priv; tabs = v.tabs; shared = refl; running = v.running };
              ok = ok;
              row = (next_row, subst (AtStage tail (get 12 on.g) stage) (sym v.shared) at);
            };
            head = ap log_head v.shared ∙ left ∙ on.head;
            headed = λ head e. by_head head (head-found head_step head e);
            keyed = key-next point.place s.place s.regs s.priv found stage k refl v.regs next_row key_step;
          }
        where
          by_head : (head : ℕ) → (head ≡ log_head y.shared) ⊎ (on.stage ≡ Headed head) → head ≡ log_head r.shared
          by_head head (inl e) = e ∙ on.head
          by_head head (inr e) = on.headed head e
      by_landed (landing.goes_on k s m (row.call answer sixth few) ok less inner v) = false_true (sym quiet ∙ ap is_call_word (fetched-at (InBlock 6) (Hcall false) (sym sixth) refl))
      by_landed (landing.arrived p s m never ok block place v) = absurd never
      by_landed (landing.parked cause t m why ok has state) = parked_running (sym state ∙ runs)

  -- ---- a park

  pub log-parks : next.shadow.state ≡ Parked park.LogFull → IsFullLog (key_of (plan_of l q)) r.shared
  log-parks parks = by_landed lands
    where
      exit-full : park.Exit ≡ park.LogFull → ⊥
      exit-full e = cc

      store-full : park.Store ≡ park.LogFull → ⊥
      store-full e = cc

      same : {cause : Park} → next.shadow.state ≡ Parked cause → cause ≡ park.LogFull
      same {cause} state = let f : Parked cause ≡ Parked park.LogFull = sym state ∙ parks in cc

      by_stage : (head : ℕ) (stage : Stage) → stage ≡ Headed head → AtStage tail (get 12 on.g) stage y.shared → log_tail y.shared ≡ tail
      by_stage head (Headed h) e s = s.1
      by_stage head Before e s = s.1
      by_stage head Room e s = s.1
      by_stage head (HasKey key) e s = s.1
      by_stage head (HasPair key) e s = s.1
      by_stage head (Appended key) e s = absurd cc

      by_landed : Landed l (block_at l q.pc) (CallNext l q.pc on.g tail on.key point.place on.stage point.tabs y.shared) (λ target rs t m. ⊥) (LogIsFull on.key point.place on.stage point.tabs y.shared) on.left (shade_of next)
          → IsFullLog (key_of (plan_of l q)) r.shared
      by_landed (landing.goes_on k s m next_row ok less inner v) = parked_running (sym parks ∙ v.running)
      by_landed (landing.arrived p s m never ok block place v) = absurd never
      by_landed (landing.parked cause t m (inl full) ok has state) =
          let key : on.key ≡ key_of (plan_of l q) = on.keyed full.late in
          let head : full.head ≡ log_head r.shared = on.headed full.head full.loaded in
          let end : log_tail y.shared ≡ tail = by_stage full.head on.stage full.loaded on.at.row.1 in
          record { keyed = grind (arith, nat_tests, full.keyed, key); full = omega (arith, full.full, ap log_tail full.memory, head, end) }
      by_landed (landing.parked cause t m (inr (inl e)) ok has state) = absurd (exit-full (sym e ∙ same state))
      by_landed (landing.parked cause t m (inr (inr e)) ok has state) = absurd (store-full (sym e ∙ same state))

  -- ---- the HCALL

  pub log-calls : fetch_shadow w y.shadow.pc ≡ Some (Hcall false) → Logs (key_of (plan_of l q)) (r.shadow.registers 12) r.shared y.shared
  log-calls f = by_test (is_other (code l (block l q.pc Ecall) point.place)) refl
    where
      settled : (stage : Stage) → Settled on.key stage → AtStage tail (get 12 on.g) stage y.shared → on.key ≡ key_of (plan_of l q) → Logs (key_of (plan_of l q)) (r.shadow.registers 12) r.shared y.shared
      settled _ (keyless e) s key = walk.keyless (grind (arith, nat_tests, e, key)) s.1
      settled _ (keyed e) s key =
          let queue : IsQueue y.shared = s.0 in
          walk.joins (grind (arith, nat_tests, e, key)) (omega (arith, s.1, queue.most, on.head)) s.1 (s.2 ∙ (λ i. (key i, count-is i)))

      at-spot : CallSpot point.place on.key on.stage → Logs (key_of (plan_of l q)) (r.shadow.registers 12) r.shared y.shared
      at-spot (at_call sixth done) = settled on.stage done on.at.row.1 (on.keyed (ap before_key sixth))
      at-spot (at_key third) = absurd (let g : Some (Hkey 31) ≡ Some (Hcall false) = sym (fetched-at (InHelper Appending 2) (Hkey 31) (sym third) refl) ∙ f in cc)

      other-word : (o : Option Instr) → code l (block l q.pc Ecall) point.place ≡ o → is_other o ≡ true → ⊥
      other-word None e h = false_true h
      other-word (Some i) e h = let same : Some i ≡ Some (Hcall false) = sym (fetched-at point.place i refl e) ∙ f in false_true (sym (ap is_other same) ∙ h)

      by_test : (b : Bool) → is_other (code l (block l q.pc Ecall) point.place) ≡ b → Logs (key_of (plan_of l q)) (r.shadow.registers 12) r.shared y.shared
      by_test true e = absurd (other-word (code l (block l q.pc Ecall) point.place) refl e)
      by_test false e = at-spot (spot-is on.at.row.0 e)
