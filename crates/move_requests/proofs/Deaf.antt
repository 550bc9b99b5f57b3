-- A move that asks nothing does the same whatever is answered.
use Rattle.std.proofs.Common.{◌≡◌, ℕ, Bool, true, false, not, Option, Some, None, refl, ap, sym, ◌%◌, ◌==◌, ◌&&◌}
use Rattle.std.specs.Prelude.{⊤}
use Rattle.spec_base.specs.Layout.{stub_start}
use Rattle.spec_base.specs.declared.machine.View.{View}
use Rattle.spec_base.specs.declared.machine.View.TheVariants.{Plain, Program, Stub, Shadow}
use Rattle.spec_base.specs.declared.note.ShadowState.{ShadowState}
use Rattle.spec_base.specs.declared.note.ShadowState.TheVariants.{Never, Running, Stopped, Parked}
use Rattle.spec_base.specs.declared.note.Move.{Move}
use Rattle.spec_base.specs.declared.note.Move.TheVariants.{O, S, T, D}
use Rattle.spec_base.specs.declared.spot.BlockSpot.{BlockSpot}
use Rattle.rv_decode.specs.declared.instr.Instr.{Instr}
use Rattle.rv_decode.specs.declared.instr.Instr.TheVariants.{Hkey, Hcall, Hpark, Hleave, Hsite, Hstop, Hrestart, Jal, Jalr, Branch, Load, Store}
use Rattle.rv_decode.specs.declared.instr.LoadOp.{LoadOp}
use Rattle.rv_model.specs.Memory.{Memory}
use Rattle.rv_model.specs.Registers.{Registers, reg}
use Rattle.rv_model.specs.Arithmetic.{is_taken}
use Rattle.rv_model.specs.Rights.{Rights, stub_rights, shadow_rights}
use Rattle.rv_model.specs.Effect.{Effect, Next, Stored, Trapped, Called, Gated, effect, jump_if, branch_if, load_if, store_if, fetched}
use Rattle.rv_model.specs.Space.{stub_sees, shadow_sees}
use Rattle.program_model.specs.Calls.{CallPlan, Set, Look, Read, Write, Exit}
use Rattle.program_model.specs.PlainRun.{plan_of}
use Rattle.program_model.specs.Cache.{in_flight}
use Rattle.code_model.specs.Stub.{stub}
use Rattle.run_model.specs.Run.{World, Run, RunEnd, Answer, rewritten_words}
use Rattle.run_model.specs.OwnMoves.{own_unless, own_in, stub_at, stub_after, gate_step, own_call_step}
use Rattle.run_model.specs.ShadowMoves.{shadow_in, shadow_at_word, shadow_after, shadow_gate, assumed, arrived_if, word_counted, fetch_shadow, is_running, is_arrival, shadow_plan, is_call_word}
use Rattle.run_model.specs.Moves.{step_unless, moved, begun, shadow_while, fetch_of}
use Rattle.move_requests.specs.Asked.{Nothing, asks_if, asks_unless, move_asks, performing_asks, assuming_asks, fetching_asks, is_stub}
use Rattle.move_requests.specs.Laws.{HearsWhatItAsks}
use Rattle.word_laws.specs.Shown.{is_performed}

-- ---- which effects are no call, in the stub and in the shadow

abbrev pub QuietIn : Effect → Type 0
QuietIn (Gated Hleave) = ⊤
QuietIn (Gated (Hsite rd)) = ⊤
QuietIn (Gated (Hkey rd)) = ⊤
QuietIn (Gated Hstop) = ⊤
QuietIn (Gated Hrestart) = ⊤
QuietIn (Gated _) = ⊥
QuietIn _ = ⊤

pub record Quiet (e : Effect) : Type 0 where
  pub by : QuietIn e

jump_if-quiet : (b : Bool) (rs : Registers) (target : ℕ) → Quiet (jump_if b rs target)
jump_if-quiet true rs target = record { by = tt }
jump_if-quiet false rs target = record { by = tt }

branch_if-quiet : (b : Bool) (rs : Registers) (pc target : ℕ) → Quiet (branch_if b rs pc target)
branch_if-quiet true rs pc target = jump_if-quiet (target % 4 == 0) rs target
branch_if-quiet false rs pc target = record { by = tt }

load_if-quiet : (x y : Bool) (m : Memory) (op : LoadOp) (rs : Registers) (pc rd a : ℕ) → Quiet (load_if x y m op rs pc rd a)
load_if-quiet false y m op rs pc rd a = record { by = tt }
load_if-quiet true false m op rs pc rd a = record { by = tt }
load_if-quiet true true m op rs pc rd a = record { by = tt }

store_if-quiet : (x y : Bool) (a width v : ℕ) → Quiet (store_if x y a width v)
store_if-quiet false y a width v = record { by = tt }
store_if-quiet true false a width v = record { by = tt }
store_if-quiet true true a width v = record { by = tt }

no : true ≡ false → ⊥
no e = cc

pub stub-quiet : (r : Rights) (m : Memory) (rs : Registers) (pc : ℕ) (i : Instr) → is_performed (Some i) ≡ false → Quiet (effect Stub r m rs pc i)
stub-quiet r m rs pc (Jal rd imm) h = jump_if-quiet _ _ _
stub-quiet r m rs pc (Jalr rd rs1 imm) h = jump_if-quiet _ _ _
stub-quiet r m rs pc (Branch op rs1 rs2 imm) h = branch_if-quiet (is_taken op (reg rs rs1) (reg rs rs2)) rs pc _
stub-quiet r m rs pc (Load op rd rs1 imm) h = load_if-quiet _ _ m op rs pc rd _
stub-quiet r m rs pc (Store op rs1 rs2 imm) h = store_if-quiet _ _ _ _ _
stub-quiet r m rs pc (Hcall false) h = absurd (no h)
stub-quiet r m rs pc _ h = record { by = tt }

-- in the shadow
abbrev ShadowQuietIn : Effect → Type 0
ShadowQuietIn (Gated (Hcall unhinted)) = ⊥
ShadowQuietIn _ = ⊤

record ShadowQuiet (e : Effect) : Type 0 where
  by : ShadowQuietIn e

quiet-shadow : (e : Effect) → Quiet e → ShadowQuiet e
quiet-shadow (Gated (Hcall unhinted)) q = absurd q.by
quiet-shadow _ q = record { by = tt }

shadow-quiet : (r : Rights) (m : Memory) (rs : Registers) (pc : ℕ) (i : Instr) → is_call_word (Some i) ≡ false → ShadowQuiet (effect Shadow r m rs pc i)
shadow-quiet r m rs pc (Jal rd imm) h = quiet-shadow _ (jump_if-quiet _ _ _)
shadow-quiet r m rs pc (Jalr rd rs1 imm) h = quiet-shadow _ (jump_if-quiet _ _ _)
shadow-quiet r m rs pc (Branch op rs1 rs2 imm) h = quiet-shadow _ (branch_if-quiet (is_taken op (reg rs rs1) (reg rs rs2)) rs pc _)
shadow-quiet r m rs pc (Load op rd rs1 imm) h = quiet-shadow _ (load_if-quiet _ _ m op rs pc rd _)
shadow-quiet r m rs pc (Store op rs1 rs2 imm) h = quiet-shadow _ (store_if-quiet _ _ _ _ _)
shadow-quiet r m rs pc (Hcall unhinted) h = absurd (no h)
shadow-quiet r m rs pc _ h = record { by = tt }

-- ---- two answers of any kind

module _ (w : World) (x y : Answer) where
  -- a performed call that asks nothing
  performed-deaf : (r : Run) (plan : CallPlan) → performing_asks r.own.memory plan ≡ Nothing → own_call_step w x r plan ≡ own_call_step w y r plan
  performed-deaf r (Set f answer) h = refl
  performed-deaf r (Look name) h = cc
  performed-deaf r (Read d spot a) h = refl
  performed-deaf r (Write to_out a n) h = cc
  performed-deaf r (Exit code) h = refl

  gate-deaf : (r : Run) (i : Instr) → Quiet (Gated i) → gate_step w x r i ≡ gate_step w y r i
  gate-deaf r Hleave n = refl
  gate-deaf r (Hsite rd) n = refl
  gate-deaf r (Hkey rd) n = refl
  gate-deaf r Hstop n = refl
  gate-deaf r Hrestart n = refl
  gate-deaf r _ n = absurd n.by

  after-deaf : (r : Run) (e : Effect) → Quiet e → stub_after w x r e ≡ stub_after w y r e
  after-deaf r (Gated i) n = gate-deaf r i n
  after-deaf r (Next rs pc) n = refl
  after-deaf r (Stored a width v) n = refl
  after-deaf r (Trapped cause) n = refl
  after-deaf r Called n = refl

  instr-deaf :
      (r : Run) (i : Instr) (b : Bool) → is_performed (Some i) ≡ b → asks_if b (performing_asks r.own.memory (plan_of w.image.layout r.own)) ≡ Nothing
      → stub_at w x r (Some i) ≡ stub_at w y r (Some i)
  instr-deaf r i false e h = after-deaf r _ (stub-quiet stub_rights (stub_sees r.shared r.own_page) r.own.registers r.own.pc i e)
  instr-deaf r (Hcall false) true e h = performed-deaf r (plan_of w.image.layout r.own) h
  instr-deaf r _ true e h = absurd (no (sym e))

  stub-deaf :
      (r : Run) (o : Option Instr) → asks_if (is_performed o) (performing_asks r.own.memory (plan_of w.image.layout r.own)) ≡ Nothing
      → stub_at w x r o ≡ stub_at w y r o
  stub-deaf r None h = refl
  stub-deaf r (Some i) h = instr-deaf r i (is_performed (Some i)) refl h

  view-deaf :
      (r : Run) (v : View) → asks_if (is_stub v && is_performed (fetched stub stub_start r.own.pc)) (performing_asks r.own.memory (plan_of w.image.layout r.own)) ≡ Nothing
      → own_in v w x r ≡ own_in v w y r
  view-deaf r Stub h = stub-deaf r (fetched stub stub_start r.own.pc) h
  view-deaf r Program h = refl
  view-deaf r Plain h = refl
  view-deaf r Shadow h = refl

  own-deaf :
      (r : Run) (s : Bool) → asks_if (not s && (is_stub r.view && is_performed (fetched stub stub_start r.own.pc))) (performing_asks r.own.memory (plan_of w.image.layout r.own)) ≡ Nothing
      → own_unless s w x r ≡ own_unless s w y r
  own-deaf r true h = refl
  own-deaf r false h = view-deaf r r.view h

  -- ---- the shadow

  assumed-deaf : (r : Run) (unhinted : Bool) (plan : CallPlan) → assuming_asks plan ≡ Nothing → assumed w x r unhinted plan ≡ assumed w y r unhinted plan
  assumed-deaf r unhinted (Look name) h = cc
  assumed-deaf r unhinted (Set f answer) h = refl
  assumed-deaf r unhinted (Read d spot a) h = refl
  assumed-deaf r unhinted (Write to_out a n) h = refl
  assumed-deaf r unhinted (Exit code) h = refl

  shadow_gate-deaf : (r : Run) (i : Instr) → ShadowQuiet (Gated i) → shadow_gate w x r i ≡ shadow_gate w y r i
  shadow_gate-deaf r (Hcall unhinted) n = absurd n.by
  shadow_gate-deaf r (Hkey rd) n = refl
  shadow_gate-deaf r (Hpark cause) n = refl
  shadow_gate-deaf r _ n = refl

  shadow_after-deaf : (r : Run) (e : Effect) → ShadowQuiet e → shadow_after w x r e ≡ shadow_after w y r e
  shadow_after-deaf r (Gated i) n = shadow_gate-deaf r i n
  shadow_after-deaf r (Next rs pc) n = refl
  shadow_after-deaf r (Stored a width v) n = refl
  shadow_after-deaf r (Trapped cause) n = refl
  shadow_after-deaf r Called n = refl

  abbrev shadow_effect : Run → Instr → Effect
  shadow_effect r i =
      effect Shadow (shadow_rights w.image.layout) (shadow_sees w.image.layout (rewritten_words w) r.own.memory r.shared r.shadow_page) r.shadow.registers r.shadow.pc i

  shadow_instr-deaf :
      (r : Run) (i : Instr) (b : Bool) → is_call_word (Some i) ≡ b → asks_if b (assuming_asks (shadow_plan w r)) ≡ Nothing
      → shadow_after w x r (shadow_effect r i) ≡ shadow_after w y r (shadow_effect r i)
  shadow_instr-deaf r i false e h =
      shadow_after-deaf r (shadow_effect r i)
      (shadow-quiet (shadow_rights w.image.layout) (shadow_sees w.image.layout (rewritten_words w) r.own.memory r.shared r.shadow_page) r.shadow.registers r.shadow.pc i e)
  shadow_instr-deaf r (Hcall unhinted) true e h = assumed-deaf r unhinted (shadow_plan w r) h
  shadow_instr-deaf r _ true e h = absurd (no (sym e))

  word-deaf : (r : Run) (o : Option Instr) → asks_if (is_call_word o) (assuming_asks (shadow_plan w r)) ≡ Nothing → shadow_at_word w x r o ≡ shadow_at_word w y r o
  word-deaf r None h = refl
  word-deaf r (Some i) h =
      ap (λ (next : Run). arrived_if (is_running next.shadow.state && is_arrival w.image.layout next.shadow.pc) next) (shadow_instr-deaf r i (is_call_word (Some i)) refl h)

  in-deaf :
      (s : ShadowState) (r : Run) → asks_if (is_running s && is_call_word (fetch_shadow w r.shadow.pc)) (assuming_asks (shadow_plan w r)) ≡ Nothing
      → shadow_in s w x r ≡ shadow_in s w y r
  in-deaf Running r h = ap word_counted (word-deaf r (fetch_shadow w r.shadow.pc) h)
  in-deaf Never r h = refl
  in-deaf Stopped r h = refl
  in-deaf (Parked cause) r h = refl

  while-deaf :
      (b : Bool) (r : Run) → asks_if (b && (is_running r.shadow.state && is_call_word (fetch_shadow w r.shadow.pc))) (assuming_asks (shadow_plan w r)) ≡ Nothing
      → shadow_while b w x r ≡ shadow_while b w y r
  while-deaf true r h = in-deaf r.shadow.state r h
  while-deaf false r h = refl

  -- ---- fetches

  fetch-deaf : (r : Run) (o : Option BlockSpot) → fetching_asks o ≡ Nothing → fetch_of o w x r ≡ fetch_of o w y r
  fetch-deaf r None h = refl
  fetch-deaf r (Some spot) h = cc

  moved-deaf : (m : Move) (r : Run) → move_asks w r m ≡ Nothing → moved w x (begun r) m ≡ moved w y (begun r) m
  moved-deaf O r h = own-deaf (begun r) r.stalled h
  moved-deaf S r h = in-deaf r.shadow.state (begun r) h
  moved-deaf T r h = while-deaf r.stalled (begun r) h
  moved-deaf D r h = fetch-deaf (begun r) (in_flight r.cache) h

  step-deaf : (m : Move) (r : Run) (e : Option RunEnd) → asks_unless e w r m ≡ Nothing → step_unless e w r (m, x) ≡ step_unless e w r (m, y)
  step-deaf m r (Some e) h = refl
  step-deaf m r None h = moved-deaf m r h

pub hears_what_it_asks : HearsWhatItAsks
hears_what_it_asks w r m x y h = step-deaf w x y m r r.end h
