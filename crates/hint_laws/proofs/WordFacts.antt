-- What one word of a running shadow does to a run: what each leaves, when an arrival is counted, which reads are filled, and what a park and an assumed call do.
use Rattle.std.proofs.Common.{◌≡◌, ℕ, pos, ◌+◌, ◌%◌, Bool, true, false, ◌&&◌, ◌==◌, List, [], ◌∷◌, ◌++◌, Option, Some, None, refl, ◌∙◌, ap, sym, subst}
use Rattle.std.specs.Prelude.{◌≢◌}
use Rattle.spec_base.specs.Word.{word_of_int, plus_int}
use Rattle.spec_base.specs.declared.machine.View.TheVariants.{Shadow}
use Rattle.spec_base.specs.declared.note.ShadowState.{ShadowState}
use Rattle.spec_base.specs.declared.note.ShadowState.TheVariants.{Never, Running, Stopped, Parked}
use Rattle.spec_base.specs.declared.park.Park.{Park}
use Rattle.spec_base.specs.declared.park.Park.TheVariants as park
use Rattle.spec_base.specs.declared.spot.ReadSpot.{ReadSpot}
use Rattle.rv_decode.specs.declared.instr.Instr.{Instr}
use Rattle.rv_decode.specs.declared.instr.Instr.TheVariants.{Lui, Auipc, Jal, Jalr, Branch, Load, Store, OpImm, OpImmW, Op, OpW, Fence, Ecall, Ebreak, Hgate, Hleave, Hsite, Hkey, Hstop, Hrestart, Hcall, Hpark, Illegal}
use Rattle.rv_decode.specs.declared.instr.LoadOp.{LoadOp}
use Rattle.rv_model.specs.Memory.{Memory, all_from}
use Rattle.rv_model.specs.Registers.{Registers, reg, with_reg}
use Rattle.rv_model.specs.Rights.{Rights, in_private}
use Rattle.rv_model.specs.Arithmetic.{is_taken, store_width}
use Rattle.rv_model.specs.Effect.{Effect, effect, after, jump_if, branch_if, load_if, store_if}
use Rattle.program_model.specs.Calls.{CallPlan, Set, Look, Read, Write, Exit}
use Rattle.program_model.specs.PlainRun.{State}
use Rattle.run_model.specs.Run.{World, Run, ShadowHart, Answer, Usual, Took, Failed, Lost}
use Rattle.run_model.specs.ShadowMoves.{fetch_shadow, is_running, is_arrival, is_call_word, shadow_at, parked, arrived_if, word_counted, shadow_plan, assumed, assumed_with, look_assumed, hint_given, fill, fill_if, is_filled, shadow_stores, shadow_after, shadow_at_word, shadow_in, shadow_step}
use Rattle.own_laws.proofs.Reached.{false_true}
use Rattle.own_laws.proofs.InvisibleShadow.{shadow_effect}
use Rattle.shadow_laws.proofs.Sound.{parked_running}
use Rattle.shadow_laws.proofs.LinkSteps.{stores-go_on}
use Rattle.mark_laws.specs.Agreement.{assumed_answer, is_exit, is_read}

-- ---- what a word is said to do

-- each word leaves the own hart, the restarts, and what is counted of the own hart since the last; an arrival is counted where the shadow goes on at word 1 of a block
pub record WordLeaves (w : World) (r next : Run) : Type 0 where
  pub own : next.own ≡ r.own
  pub restarts : next.restarts ≡ r.restarts
  pub since_own : next.since.own ≡ r.since.own
  pub ahead : next.since.ahead ≡ r.since.ahead
  pub whole : next.since.whole ≡ r.since.whole
  pub origin : next.since.origin ≡ r.since.origin
  pub arrives : next.shadow.state ≡ Running → is_arrival w.image.layout next.shadow.pc ≡ true → next.since.shadow ≡ r.since.shadow + 1
  pub between : next.shadow.state ≡ Running → is_arrival w.image.layout next.shadow.pc ≡ false → next.since.shadow ≡ r.since.shadow
  pub halts : next.shadow.state ≢ Running → next.since.shadow ≡ r.since.shadow

-- hints, filled reads and descriptors stay
pub record HintsStay (r next : Run) : Type 0 where
  pub hints : next.since.hints ≡ r.since.hints
  pub filled : next.since.filled ≡ r.since.filled
  pub files : next.shadow.files ≡ r.shadow.files

-- where a shadow stands that has parked: at the word that parked it, or behind an HPARK
pub data ParkedAt (w : World) (r next : Run) : Type 0 where
  here : next.shadow.pc ≡ r.shadow.pc → ParkedAt w r next
  behind : (cause : Park) → fetch_shadow w r.shadow.pc ≡ Some (Hpark cause) → next.shadow.pc ≡ after r.shadow.pc → ParkedAt w r next

-- a word that parks the shadow leaves its hints, filled reads, descriptors and registers, and what is shared
pub record Parks (w : World) (r next : Run) : Type 0 where
  pub hints : next.since.hints ≡ r.since.hints
  pub filled : next.since.filled ≡ r.since.filled
  pub files : next.shadow.files ≡ r.shadow.files
  pub shared : next.shared ≡ r.shared
  pub registers : next.shadow.registers ≡ r.shadow.registers
  pub place : ParkedAt w r next

-- the hints behind a read: HCALL 0 gives it, HCALL 1 doesn't
abbrev pub hints_behind : Bool → ReadSpot → Run → List ReadSpot
hints_behind true spot r = r.since.hints
hints_behind false spot r = r.since.hints ++ spot ∷ []

-- the numbers of filled reads behind a read that is filled (true), or left unfilled
abbrev pub filled_behind : Bool → Run → List ℕ
filled_behind true r = r.since.filled ++ (r.since.shadow + 1) ∷ []
filled_behind false r = r.since.filled

-- an assumed read may be given as a hint, and is filled where that can be
pub record ReadDoes (w : World) (u : Bool) (r next : Run) (spot : ReadSpot) (a : ℕ) : Type 0 where
  pub hints : next.since.hints ≡ hints_behind u spot r
  pub filled : next.since.filled ≡ filled_behind (is_filled w (hint_given u spot r) spot a spot.count) r
  pub shared : next.shared ≡ (fill w spot a (hint_given u spot r)).shared

-- each other assumed call leaves the hints, the filled reads and what is shared
pub record OtherLeaves (r next : Run) : Type 0 where
  pub hints : next.since.hints ≡ r.since.hints
  pub filled : next.since.filled ≡ r.since.filled
  pub shared : next.shared ≡ r.shared

-- a planned call is assumed, and is no exit: the shadow has its descriptors, its answer in x10, and the next word
pub record PlanDoes (w : World) (u : Bool) (r next : Run) (plan : CallPlan) : Type 0 where
  pub goes_on : is_exit plan ≡ false
  pub files : next.shadow.files ≡ (assumed_answer w.files r.shadow.files plan).0
  pub registers : next.shadow.registers ≡ with_reg r.shadow.registers 10 (word_of_int (assumed_answer w.files r.shadow.files plan).1)
  pub pc : next.shadow.pc ≡ after r.shadow.pc
  pub reads : (d : ℕ) (spot : ReadSpot) (a : ℕ) → plan ≡ Read d spot a → ReadDoes w u r next spot a
  pub others : is_read plan ≡ false → OtherLeaves r next

-- an HCALL behind which the shadow runs has assumed the call that its registers plan
abbrev pub CallDoes : World → Bool → Run → Run → Type 0
CallDoes w u r next = PlanDoes w u r next (shadow_plan w r)

-- ---- what can't be

-- a running shadow isn't parked
running_parked : {A : Type 0} {cause : Park} {s : ShadowState} → s ≡ Running → s ≡ Parked cause → A
running_parked e f = parked_running (sym f ∙ e)

-- ---- what an instruction of the shadow comes to

-- the shadow goes on, stores, faults, makes a call, or parks
data Outcome (w : World) (x : Answer) (r : Run) (i : Instr) : Run → Type 0 where
  goes : (rs : Registers) (pc : ℕ) → Outcome w x r i (shadow_at r rs pc)
  stores : (private : Bool) (a width v : ℕ) → Outcome w x r i (shadow_stores private r a width v)
  faults : Outcome w x r i (parked r park.Fault)
  calls : (u : Bool) → i ≡ Hcall u → Outcome w x r i (assumed w x r u (shadow_plan w r))
  parks : (cause : Park) → i ≡ Hpark cause → Outcome w x r i (parked (shadow_at r r.shadow.registers (after r.shadow.pc)) cause)

module _ (w : World) (x : Answer) (r : Run) where
  -- what an instruction comes to, by its effect
  abbrev Comes : Instr → Effect → Type 0
  Comes i e = Outcome w x r i (shadow_after w x r e)

  -- a jump goes on, or its target isn't a multiple of 4
  jump-comes : (i : Instr) (b : Bool) (rs : Registers) (target : ℕ) → Comes i (jump_if b rs target)
  jump-comes i true rs target = goes rs target
  jump-comes i false rs target = faults

  -- a branch jumps or goes on
  branch-comes : (i : Instr) (b : Bool) (rs : Registers) (pc target : ℕ) → Comes i (branch_if b rs pc target)
  branch-comes i true rs pc target = jump-comes i (target % 4 == 0) rs target
  branch-comes i false rs pc target = goes _ _

  -- a load goes on or faults
  load-comes : (i : Instr) (b c : Bool) (m : Memory) (op : LoadOp) (rs : Registers) (pc rd a : ℕ) → Comes i (load_if b c m op rs pc rd a)
  load-comes i false c m op rs pc rd a = faults
  load-comes i true false m op rs pc rd a = faults
  load-comes i true true m op rs pc rd a = goes _ _

  -- a store stores or faults
  store-comes : (i : Instr) (b c : Bool) (a width v : ℕ) → Comes i (store_if b c a width v)
  store-comes i false c a width v = faults
  store-comes i true false a width v = faults
  store-comes i true true a width v = stores (in_private a) a width v

  -- each instruction
  instr-comes : (rights : Rights) (m : Memory) (rs : Registers) (pc : ℕ) (i : Instr) → Comes i (effect Shadow rights m rs pc i)
  instr-comes rights m rs pc (Lui rd imm) = goes _ _
  instr-comes rights m rs pc (Auipc rd imm) = goes _ _
  instr-comes rights m rs pc (Jal rd imm) = jump-comes _ _ _ _
  instr-comes rights m rs pc (Jalr rd rs1 imm) = jump-comes _ _ _ _
  instr-comes rights m rs pc (Branch op rs1 rs2 imm) = branch-comes _ (is_taken op (reg rs rs1) (reg rs rs2)) rs pc (plus_int pc imm)
  instr-comes rights m rs pc (Load op rd rs1 imm) = load-comes _ _ _ _ _ _ _ _ _
  instr-comes rights m rs pc (Store op rs1 rs2 imm) = store-comes _ (plus_int (reg rs rs1) imm % store_width op == 0) (all_from rights.store (plus_int (reg rs rs1) imm) (store_width op)) (plus_int (reg rs rs1) imm) (store_width op) (reg rs rs2)
  instr-comes rights m rs pc (OpImm op rd rs1 imm) = goes _ _
  instr-comes rights m rs pc (OpImmW op rd rs1 imm) = goes _ _
  instr-comes rights m rs pc (Op op rd rs1 rs2) = goes _ _
  instr-comes rights m rs pc (OpW op rd rs1 rs2) = goes _ _
  instr-comes rights m rs pc (Fence word) = goes _ _
  instr-comes rights m rs pc Ecall = faults
  instr-comes rights m rs pc Ebreak = faults
  instr-comes rights m rs pc Hgate = faults
  instr-comes rights m rs pc Hleave = faults
  instr-comes rights m rs pc (Hsite rd) = faults
  instr-comes rights m rs pc (Hkey rd) = goes _ _
  instr-comes rights m rs pc Hstop = faults
  instr-comes rights m rs pc Hrestart = faults
  instr-comes rights m rs pc (Hcall unhinted) = calls unhinted refl
  instr-comes rights m rs pc (Hpark cause) = parks cause refl
  instr-comes rights m rs pc Illegal = faults

-- ---- what no word changes

-- the own hart, the restarts, and the counts since the last one
record Steady : Type 0 where
  own : State
  restarts : ℕ
  done : ℕ
  ahead : Bool
  whole : Bool
  origin : Option State
  arrivals : ℕ

-- those of a run
abbrev steady_of : Run → Steady
steady_of r = record { own = r.own; restarts = r.restarts; done = r.since.own; ahead = r.since.ahead; whole = r.since.whole; origin = r.since.origin; arrivals = r.since.shadow }

-- a hint leaves them
hint-steady : (u : Bool) (spot : ReadSpot) (r : Run) → steady_of (hint_given u spot r) ≡ steady_of r
hint-steady true spot r = refl
hint-steady false spot r = refl

-- so does a fill
fill_if-steady : (b : Bool) (w : World) (spot : ReadSpot) (a : ℕ) (r : Run) → steady_of (fill_if b w spot a r) ≡ steady_of r
fill_if-steady true w spot a r = refl
fill_if-steady false w spot a r = refl

-- so does an assumed look
look-steady : (w : World) (x : Answer) (r : Run) (name : List ℕ) → steady_of (look_assumed w x r name) ≡ steady_of r
look-steady w Failed r name = refl
look-steady w Usual r name = refl
look-steady w (Took k) r name = refl
look-steady w Lost r name = refl

-- so does each assumed call
assumed-steady : (w : World) (x : Answer) (r : Run) (u : Bool) (plan : CallPlan) → steady_of (assumed w x r u plan) ≡ steady_of r
assumed-steady w x r u (Set f answer) = refl
assumed-steady w x r u (Look name) = look-steady w x r name
assumed-steady w x r u (Read d spot a) = let hint : Run = hint_given u spot r in fill_if-steady (is_filled w hint spot a spot.count) w spot a hint ∙ hint-steady u spot r
assumed-steady w x r u (Write to_out a n) = refl
assumed-steady w x r u (Exit code) = refl

-- so does a store
stores-steady : (private : Bool) (r : Run) (a width v : ℕ) → steady_of (shadow_stores private r a width v) ≡ steady_of r
stores-steady true r a width v = refl
stores-steady false r a width v = refl

-- so does each outcome
outcome-steady : (w : World) (x : Answer) (r : Run) (i : Instr) (y : Run) → Outcome w x r i y → steady_of y ≡ steady_of r
outcome-steady w x r i y (goes rs pc) = refl
outcome-steady w x r i y (stores private a width v) = stores-steady private r a width v
outcome-steady w x r i y faults = refl
outcome-steady w x r i y (calls u e) = assumed-steady w x r u (shadow_plan w r)
outcome-steady w x r i y (parks cause e) = refl

-- what a word leaves, by all of these but the count of arrivals
leaves-as : (w : World) (r next : Run) → record (steady_of next) { arrivals = r.since.shadow } ≡ steady_of r
    → (next.shadow.state ≡ Running → is_arrival w.image.layout next.shadow.pc ≡ true → next.since.shadow ≡ r.since.shadow + 1)
    → (next.shadow.state ≡ Running → is_arrival w.image.layout next.shadow.pc ≡ false → next.since.shadow ≡ r.since.shadow)
    → (next.shadow.state ≢ Running → next.since.shadow ≡ r.since.shadow) → WordLeaves w r next
leaves-as w r next e arrives between halts =
    record {
      own = ap (λ (s : Steady). s.own) e;
      restarts = ap (λ (s : Steady). s.restarts) e;
      since_own = ap (λ (s : Steady). s.done) e;
      ahead = ap (λ (s : Steady). s.ahead) e;
      whole = ap (λ (s : Steady). s.whole) e;
      origin = ap (λ (s : Steady). s.origin) e;
      arrives = arrives;
      between = between;
      halts = halts;
    }

-- a test beside that of a running shadow
running-and : (s : ShadowState) (b c : Bool) → s ≡ Running → b ≡ c → (is_running s && b) ≡ c
running-and s b c h e = ap (λ (z : ShadowState). is_running z && b) h ∙ e

-- an arrival is counted, and so is a word
counted-leaves : (w : World) (r y : Run) (b : Bool) → steady_of y ≡ steady_of r → (is_running y.shadow.state && is_arrival w.image.layout y.shadow.pc) ≡ b → WordLeaves w r (word_counted (arrived_if b y))
counted-leaves w r y true e f =
    leaves-as w r (word_counted (arrived_if true y)) (ap (λ (s : Steady). record s { arrivals = r.since.shadow }) e)
    (λ s h. ap (λ (s : Steady). s.arrivals + 1) e)
    (λ s h. false_true (sym (running-and y.shadow.state _ false s h) ∙ f))
    (λ n. absurd (n (runs y.shadow.state (is_arrival w.image.layout y.shadow.pc) f)))
  where
    runs : (s : ShadowState) (b : Bool) → (is_running s && b) ≡ true → s ≡ Running
    runs Running b h = refl
    runs Never b h = false_true h
    runs Stopped b h = false_true h
    runs (Parked cause) b h = false_true h
counted-leaves w r y false e f =
    leaves-as w r (word_counted (arrived_if false y)) (ap (λ (s : Steady). record s { arrivals = r.since.shadow }) e)
    (λ s h. false_true (sym f ∙ running-and y.shadow.state _ true s h))
    (λ s h. ap (λ (s : Steady). s.arrivals) e)
    (λ n. ap (λ (s : Steady). s.arrivals) e)

-- ---- what a call does to the shadow

-- a hint leaves the shadow's hart
hint-hart : (u : Bool) (spot : ReadSpot) (r : Run) → (hint_given u spot r).shadow ≡ r.shadow
hint-hart true spot r = refl
hint-hart false spot r = refl

-- so does a fill
fill_if-hart : (b : Bool) (w : World) (spot : ReadSpot) (a : ℕ) (r : Run) → (fill_if b w spot a r).shadow ≡ r.shadow
fill_if-hart true w spot a r = refl
fill_if-hart false w spot a r = refl

-- so a read leaves it until it is answered
read-hart : (w : World) (u : Bool) (spot : ReadSpot) (a : ℕ) (r : Run) → (fill w spot a (hint_given u spot r)).shadow ≡ r.shadow
read-hart w u spot a r = let hint : Run = hint_given u spot r in fill_if-hart (is_filled w hint spot a spot.count) w spot a hint ∙ hint-hart u spot r

-- HCALL 0 appends the read to the hints
hint-hints : (u : Bool) (spot : ReadSpot) (r : Run) → (hint_given u spot r).since.hints ≡ hints_behind u spot r
hint-hints true spot r = refl
hint-hints false spot r = refl

-- a hint leaves the numbers of the filled reads
hint-filled : (u b : Bool) (spot : ReadSpot) (r : Run) → filled_behind b (hint_given u spot r) ≡ filled_behind b r
hint-filled true b spot r = refl
hint-filled false true spot r = refl
hint-filled false false spot r = refl

-- a fill leaves the hints
fill_if-hints : (b : Bool) (w : World) (spot : ReadSpot) (a : ℕ) (r : Run) → (fill_if b w spot a r).since.hints ≡ r.since.hints
fill_if-hints true w spot a r = refl
fill_if-hints false w spot a r = refl

-- a fill appends the read's number
fill_if-filled : (b : Bool) (w : World) (spot : ReadSpot) (a : ℕ) (r : Run) → (fill_if b w spot a r).since.filled ≡ filled_behind b r
fill_if-filled true w spot a r = refl
fill_if-filled false w spot a r = refl

-- a call that is no read is answered
answered-does : (w : World) (u : Bool) (r : Run) (plan : CallPlan) → is_exit plan ≡ false → is_read plan ≡ false
    → PlanDoes w u r (assumed_with r (assumed_answer w.files r.shadow.files plan)) plan
answered-does w u r plan e f =
    record {
      goes_on = e;
      files = refl;
      registers = refl;
      pc = refl;
      reads = λ d spot a g. false_true (sym f ∙ ap is_read g);
      others = λ g. record { hints = refl; filled = refl; shared = refl };
    }

-- a look is answered where the shadow runs behind it
look-does : (w : World) (x : Answer) (u : Bool) (r : Run) (name : List ℕ) → (look_assumed w x r name).shadow.state ≡ Running → PlanDoes w u r (look_assumed w x r name) (Look name)
look-does w Failed u r name s = parked_running s
look-does w Usual u r name s = answered-does w u r (Look name) refl refl
look-does w (Took k) u r name s = answered-does w u r (Look name) refl refl
look-does w Lost u r name s = answered-does w u r (Look name) refl refl

-- a read
read-does : (w : World) (x : Answer) (u : Bool) (r : Run) (d : ℕ) (spot : ReadSpot) (a : ℕ) → PlanDoes w u r (assumed w x r u (Read d spot a)) (Read d spot a)
read-does w x u r d spot a =
    let hint : Run = hint_given u spot r in
    let hart : (fill w spot a hint).shadow ≡ r.shadow = read-hart w u spot a r in
    record {
      goes_on = refl;
      files = refl;
      registers = ap (λ (h : ShadowHart). with_reg h.registers 10 (word_of_int (pos spot.count))) hart;
      pc = ap (λ (h : ShadowHart). after h.pc) hart;
      reads = λ d' spot' a' e. same_read d' spot' a' e;
      others = λ e. false_true (sym e);
    }
  where
    reads : ReadDoes w u r (assumed w x r u (Read d spot a)) spot a
    reads =
        let hint : Run = hint_given u spot r in
        record {
          hints = fill_if-hints (is_filled w hint spot a spot.count) w spot a hint ∙ hint-hints u spot r;
          filled = fill_if-filled (is_filled w hint spot a spot.count) w spot a hint ∙ hint-filled u (is_filled w hint spot a spot.count) spot r;
          shared = refl;
        }

    same_read : (d' : ℕ) (spot' : ReadSpot) (a' : ℕ) → Read d spot a ≡ Read d' spot' a' → ReadDoes w u r (assumed w x r u (Read d spot a)) spot' a'
    same_read d' spot' a' e =
        let same_spot : spot ≡ spot' = cc in
        let same_place : a ≡ a' = cc in
        subst (λ (s : ReadSpot). ReadDoes w u r (assumed w x r u (Read d spot a)) s a') same_spot (subst (λ (b : ℕ). ReadDoes w u r (assumed w x r u (Read d spot a)) spot b) same_place reads)

-- each plan
plan-does : (w : World) (x : Answer) (u : Bool) (r : Run) (plan : CallPlan) → (assumed w x r u plan).shadow.state ≡ Running → PlanDoes w u r (assumed w x r u plan) plan
plan-does w x u r (Set f answer) s = answered-does w u r (Set f answer) refl refl
plan-does w x u r (Look name) s = look-does w x u r name s
plan-does w x u r (Read d spot a) s = read-does w x u r d spot a
plan-does w x u r (Write to_out a n) s = answered-does w u r (Write to_out a n) refl refl
plan-does w x u r (Exit code) s = parked_running s

-- an arrival and a word are counted behind the call
counted-call : (w : World) (u : Bool) (r y : Run) (b : Bool) → CallDoes w u r y → CallDoes w u r (word_counted (arrived_if b y))
counted-call w u r y true p =
    record {
      goes_on = p.goes_on;
      files = p.files;
      registers = p.registers;
      pc = p.pc;
      reads = λ d spot a e. let q : ReadDoes w u r y spot a = p.reads d spot a e in record { hints = q.hints; filled = q.filled; shared = q.shared };
      others = λ e. let q : OtherLeaves r y = p.others e in record { hints = q.hints; filled = q.filled; shared = q.shared };
    }
counted-call w u r y false p =
    record {
      goes_on = p.goes_on;
      files = p.files;
      registers = p.registers;
      pc = p.pc;
      reads = λ d spot a e. let q : ReadDoes w u r y spot a = p.reads d spot a e in record { hints = q.hints; filled = q.filled; shared = q.shared };
      others = λ e. let q : OtherLeaves r y = p.others e in record { hints = q.hints; filled = q.filled; shared = q.shared };
    }

-- ---- what a word that is no call leaves

-- a store leaves the hints
stores-stay : (private : Bool) (r : Run) (a width v : ℕ) → HintsStay r (shadow_stores private r a width v)
stores-stay true r a width v = record { hints = refl; filled = refl; files = refl }
stores-stay false r a width v = record { hints = refl; filled = refl; files = refl }

-- each outcome of a word that is no call does
outcome-stays : (w : World) (x : Answer) (r : Run) (i : Instr) (y : Run) → is_call_word (Some i) ≡ false → Outcome w x r i y → HintsStay r y
outcome-stays w x r i y h (goes rs pc) = record { hints = refl; filled = refl; files = refl }
outcome-stays w x r i y h (stores private a width v) = stores-stay private r a width v
outcome-stays w x r i y h faults = record { hints = refl; filled = refl; files = refl }
outcome-stays w x r i y h (calls u e) = false_true (sym h ∙ ap (λ (j : Instr). is_call_word (Some j)) e)
outcome-stays w x r i y h (parks cause e) = record { hints = refl; filled = refl; files = refl }

-- the counts leave them
counted-stays : (r y : Run) (b : Bool) → HintsStay r y → HintsStay r (word_counted (arrived_if b y))
counted-stays r y true h = record { hints = h.hints; filled = h.filled; files = h.files }
counted-stays r y false h = record { hints = h.hints; filled = h.filled; files = h.files }

-- ---- the numbers of the filled reads

-- an assumed look fills nothing
look-fills : (w : World) (x : Answer) (r : Run) (name : List ℕ) → (look_assumed w x r name).since.filled ≡ r.since.filled
look-fills w Failed r name = refl
look-fills w Usual r name = refl
look-fills w (Took k) r name = refl
look-fills w Lost r name = refl

-- an assumed call leaves the numbers, or appends one
plan-fills : (w : World) (x : Answer) (u : Bool) (r : Run) (plan : CallPlan) → (b : Bool) × ((assumed w x r u plan).since.filled ≡ filled_behind b r)
plan-fills w x u r (Set f answer) = (false, refl)
plan-fills w x u r (Look name) = (false, look-fills w x r name)
plan-fills w x u r (Read d spot a) =
    let does : PlanDoes w u r (assumed w x r u (Read d spot a)) (Read d spot a) = read-does w x u r d spot a in (is_filled w (hint_given u spot r) spot a spot.count, (does.reads d spot a refl).filled)
plan-fills w x u r (Write to_out a n) = (false, refl)
plan-fills w x u r (Exit code) = (false, refl)

-- so does each outcome
outcome-fills : (w : World) (x : Answer) (r : Run) (i : Instr) (y : Run) → Outcome w x r i y → (b : Bool) × (y.since.filled ≡ filled_behind b r)
outcome-fills w x r i y (goes rs pc) = (false, refl)
outcome-fills w x r i y (stores private a width v) = (false, (stores-stay private r a width v).filled)
outcome-fills w x r i y faults = (false, refl)
outcome-fills w x r i y (calls u e) = plan-fills w x u r (shadow_plan w r)
outcome-fills w x r i y (parks cause e) = (false, refl)

-- the counts leave them
counted-fills : (r y : Run) (b c : Bool) → y.since.filled ≡ filled_behind c r → (word_counted (arrived_if b y)).since.filled ≡ filled_behind c r
counted-fills r y true c e = e
counted-fills r y false c e = e

-- ---- parks

-- a call that parks the shadow changes nothing else
record Halts (r y : Run) : Type 0 where
  hints : y.since.hints ≡ r.since.hints
  filled : y.since.filled ≡ r.since.filled
  files : y.shadow.files ≡ r.shadow.files
  shared : y.shared ≡ r.shared
  registers : y.shadow.registers ≡ r.shadow.registers
  pc : y.shadow.pc ≡ r.shadow.pc

-- a look that fails
look-halts : (w : World) (x : Answer) (r : Run) (name : List ℕ) (cause : Park) → r.shadow.state ≡ Running → (look_assumed w x r name).shadow.state ≡ Parked cause → Halts r (look_assumed w x r name)
look-halts w Failed r name cause e f = record { hints = refl; filled = refl; files = refl; shared = refl; registers = refl; pc = refl }
look-halts w Usual r name cause e f = running_parked e f
look-halts w (Took k) r name cause e f = running_parked e f
look-halts w Lost r name cause e f = running_parked e f

-- a call that parks the shadow: a look that fails, or an exit
call-halts : (w : World) (x : Answer) (r : Run) (u : Bool) (plan : CallPlan) (cause : Park) → r.shadow.state ≡ Running → (assumed w x r u plan).shadow.state ≡ Parked cause → Halts r (assumed w x r u plan)
call-halts w x r u (Set f answer) cause e g = running_parked e g
call-halts w x r u (Look name) cause e g = look-halts w x r name cause e g
call-halts w x r u (Read d spot a) cause e g = running_parked (ap (λ (h : ShadowHart). h.state) (read-hart w u spot a r) ∙ e) g
call-halts w x r u (Write to_out a n) cause e g = running_parked e g
call-halts w x r u (Exit code) cause e g = record { hints = refl; filled = refl; files = refl; shared = refl; registers = refl; pc = refl }

-- each outcome of the word that is fetched
outcome-parks : (w : World) (x : Answer) (r : Run) (i : Instr) (y : Run) (cause : Park) → r.shadow.state ≡ Running → fetch_shadow w r.shadow.pc ≡ Some i → Outcome w x r i y → y.shadow.state ≡ Parked cause → Parks w r y
outcome-parks w x r i y cause e f (goes rs pc) p = running_parked e p
outcome-parks w x r i y cause e f (stores private a width v) p = running_parked (stores-go_on private r a width v ∙ e) p
outcome-parks w x r i y cause e f faults p = record { hints = refl; filled = refl; files = refl; shared = refl; registers = refl; place = here refl }
outcome-parks w x r i y cause e f (calls u g) p =
    let h : Halts r (assumed w x r u (shadow_plan w r)) = call-halts w x r u (shadow_plan w r) cause e p in
    record { hints = h.hints; filled = h.filled; files = h.files; shared = h.shared; registers = h.registers; place = here h.pc }
outcome-parks w x r i y cause e f (parks c g) p =
    record { hints = refl; filled = refl; files = refl; shared = refl; registers = refl; place = behind c (f ∙ ap (λ (j : Instr). Some j) g) refl }

-- it stands there still
counted-place : (w : World) (r y : Run) (b : Bool) → ParkedAt w r y → ParkedAt w r (word_counted (arrived_if b y))
counted-place w r y true (here e) = here e
counted-place w r y true (behind c f e) = behind c f e
counted-place w r y false (here e) = here e
counted-place w r y false (behind c f e) = behind c f e

-- the counts leave what the park has left
counted-parks : (w : World) (r y : Run) (b : Bool) (cause : Park) → (y.shadow.state ≡ Parked cause → Parks w r y) → (word_counted (arrived_if b y)).shadow.state ≡ Parked cause → Parks w r (word_counted (arrived_if b y))
counted-parks w r y true cause f s =
    let h : Parks w r y = f s in
    record { hints = h.hints; filled = h.filled; files = h.files; shared = h.shared; registers = h.registers; place = counted-place w r y true h.place }
counted-parks w r y false cause f s =
    let h : Parks w r y = f s in
    record { hints = h.hints; filled = h.filled; files = h.files; shared = h.shared; registers = h.registers; place = counted-place w r y false h.place }

-- ---- a word

module _ (w : World) (x : Answer) (r : Run) where
  -- what the word comes to
  abbrev word_effect : Instr → Effect
  word_effect i = shadow_effect w r i

  -- the run behind it, before it is counted
  abbrev behind_word : Instr → Run
  behind_word i = shadow_after w x r (word_effect i)

  -- whether an arrival is counted
  abbrev counts : Instr → Bool
  counts i = is_running (behind_word i).shadow.state && is_arrival w.image.layout (behind_word i).shadow.pc

  -- what it does, as an outcome
  abbrev word_comes : (i : Instr) → Outcome w x r i (behind_word i)
  word_comes i = instr-comes w x r _ _ _ _ i

  -- with a word that is fetched, or none
  leaves-at : (o : Option Instr) → WordLeaves w r (word_counted (shadow_at_word w x r o))
  leaves-at None =
      record {
        own = refl;
        restarts = refl;
        since_own = refl;
        ahead = refl;
        whole = refl;
        origin = refl;
        arrives = λ s h. parked_running s;
        between = λ s h. refl;
        halts = λ n. refl;
      }
  leaves-at (Some i) = counted-leaves w r (behind_word i) (counts i) (outcome-steady w x r i (behind_word i) (word_comes i)) refl

  -- the same of a word that is no call
  stays-at : (o : Option Instr) → is_call_word o ≡ false → HintsStay r (word_counted (shadow_at_word w x r o))
  stays-at None h = record { hints = refl; filled = refl; files = refl }
  stays-at (Some i) h = counted-stays r (behind_word i) (counts i) (outcome-stays w x r i (behind_word i) h (word_comes i))

  -- the same of the numbers of the filled reads
  fills-at : (o : Option Instr) → (b : Bool) × ((word_counted (shadow_at_word w x r o)).since.filled ≡ filled_behind b r)
  fills-at None = (false, refl)
  fills-at (Some i) =
      let f : (b : Bool) × ((behind_word i).since.filled ≡ filled_behind b r) = outcome-fills w x r i (behind_word i) (word_comes i) in (f.0, counted-fills r (behind_word i) (counts i) f.0 f.1)

  -- the same of a word that parks the shadow
  parks-at : (o : Option Instr) (cause : Park) → r.shadow.state ≡ Running → fetch_shadow w r.shadow.pc ≡ o → (word_counted (shadow_at_word w x r o)).shadow.state ≡ Parked cause
      → Parks w r (word_counted (shadow_at_word w x r o))
  parks-at None cause e f s = record { hints = refl; filled = refl; files = refl; shared = refl; registers = refl; place = here refl }
  parks-at (Some i) cause e f s = counted-parks w r (behind_word i) (counts i) cause (λ p. outcome-parks w x r i (behind_word i) cause e f (word_comes i) p) s

  -- the same of an HCALL behind which the shadow runs
  does-at : (u : Bool) → (word_counted (shadow_at_word w x r (Some (Hcall u)))).shadow.state ≡ Running → CallDoes w u r (word_counted (shadow_at_word w x r (Some (Hcall u))))
  does-at u s = counted-call w u r (behind_word (Hcall u)) (counts (Hcall u)) (plan-does w x u r (shadow_plan w r) (uncounted (counts (Hcall u)) s))
    where
      uncounted : (b : Bool) → (word_counted (arrived_if b (behind_word (Hcall u)))).shadow.state ≡ Running → (behind_word (Hcall u)).shadow.state ≡ Running
      uncounted true s = s
      uncounted false s = s

  -- a running shadow executes the word that it fetches
  step-is : r.shadow.state ≡ Running → (o : Option Instr) → fetch_shadow w r.shadow.pc ≡ o → shadow_step w x r ≡ word_counted (shadow_at_word w x r o)
  step-is e o f = ap (λ (s : ShadowState). shadow_in s w x r) e ∙ ap (λ (p : Option Instr). word_counted (shadow_at_word w x r p)) f

  -- each word of a running shadow leaves the own hart, and counts its arrival
  pub word-leaves : r.shadow.state ≡ Running → WordLeaves w r (shadow_step w x r)
  word-leaves e = subst (λ (next : Run). WordLeaves w r next) (sym (step-is e (fetch_shadow w r.shadow.pc) refl)) (leaves-at (fetch_shadow w r.shadow.pc))

  -- a word that is no HCALL leaves the hints
  pub word-hints_stay : r.shadow.state ≡ Running → is_call_word (fetch_shadow w r.shadow.pc) ≡ false → HintsStay r (shadow_step w x r)
  word-hints_stay e h = subst (λ (next : Run). HintsStay r next) (sym (step-is e (fetch_shadow w r.shadow.pc) refl)) (stays-at (fetch_shadow w r.shadow.pc) h)

  -- each word leaves the numbers of the filled reads, or appends that of the instruction at hand
  pub word-fills : r.shadow.state ≡ Running → (b : Bool) × ((shadow_step w x r).since.filled ≡ filled_behind b r)
  word-fills e = subst (λ (next : Run). (b : Bool) × (next.since.filled ≡ filled_behind b r)) (sym (step-is e (fetch_shadow w r.shadow.pc) refl)) (fills-at (fetch_shadow w r.shadow.pc))

  -- a word that parks the shadow leaves the rest
  pub word-parks : (cause : Park) → r.shadow.state ≡ Running → (shadow_step w x r).shadow.state ≡ Parked cause → Parks w r (shadow_step w x r)
  word-parks cause e s =
      let is : shadow_step w x r ≡ word_counted (shadow_at_word w x r (fetch_shadow w r.shadow.pc)) = step-is e (fetch_shadow w r.shadow.pc) refl in
      subst (λ (next : Run). Parks w r next) (sym is) (parks-at (fetch_shadow w r.shadow.pc) cause e refl (sym (ap (λ (next : Run). next.shadow.state) is) ∙ s))

  -- an HCALL behind which the shadow runs has assumed the planned call
  pub word-calls : (u : Bool) → r.shadow.state ≡ Running → fetch_shadow w r.shadow.pc ≡ Some (Hcall u) → (shadow_step w x r).shadow.state ≡ Running → CallDoes w u r (shadow_step w x r)
  word-calls u e f s =
      let is : shadow_step w x r ≡ word_counted (shadow_at_word w x r (Some (Hcall u))) = step-is e (Some (Hcall u)) f in
      subst (λ (next : Run). CallDoes w u r next) (sym is) (does-at u (sym (ap (λ (next : Run). next.shadow.state) is) ∙ s))
