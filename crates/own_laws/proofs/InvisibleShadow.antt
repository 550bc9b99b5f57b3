-- A move of the shadow leaves the own side, puts nothing, and hears from the outside only that a look failed.
use Rattle.std.proofs.Common.{◌≡◌, ℕ, Bool, true, false, not, is_none, ◌||◌, List, [], ◌∷◌, Option, Some, None, refl, ap, sym, ◌∙◌, ◌%◌, ◌==◌, ◌&&◌}
use Rattle.spec_base.specs.declared.machine.View.TheVariants.{Shadow}
use Rattle.spec_base.specs.declared.note.ShadowState.{ShadowState}
use Rattle.spec_base.specs.declared.note.ShadowState.TheVariants.{Never, Running, Stopped, Parked}
use Rattle.spec_base.specs.declared.note.Move.{Move}
use Rattle.spec_base.specs.declared.note.Move.TheVariants.{O, S, T, D}
use Rattle.spec_base.specs.declared.park.Park.TheVariants as park
use Rattle.spec_base.specs.declared.spot.ReadSpot.{ReadSpot}
use Rattle.spec_base.specs.declared.spot.BlockSpot.{BlockSpot}
use Rattle.rv_decode.specs.declared.instr.Instr.{Instr}
use Rattle.rv_decode.specs.declared.instr.Instr.TheVariants.{Hkey, Hcall, Hpark, Jal, Jalr, Branch, Load, Store}
use Rattle.rv_model.specs.Rights.{in_private, shadow_rights, Rights}
use Rattle.rv_model.specs.Effect.{Effect, Next, Stored, Trapped, Called, Gated, effect, jump_if, branch_if, load_if, store_if}
use Rattle.rv_model.specs.Space.{shadow_sees}
use Rattle.program_model.specs.Calls.{CallPlan, Set, Look, Read, Write, Exit, opened}
use Rattle.program_model.specs.PlainRun.{size_in}
use Rattle.program_model.specs.Cache.{Cache, hinted, all_hinted, hint_if, is_idle_hint, blocks_of}
use Rattle.run_model.specs.Run.{World, Run, RunEnd, Answer, Usual, Took, Failed, Lost, rewritten_words}
use Rattle.run_model.specs.ShadowMoves.{shadow_in, shadow_at_word, shadow_after, shadow_gate, shadow_stores, assumed, look_assumed, assumed_with, hint_given, fill_if, is_filled, parked, arrived_if, word_counted, fetch_shadow, is_running, is_arrival, shadow_plan, is_call_word}
use Rattle.run_model.specs.Moves.{step, step_unless, moved, begun, is_idle, shadow_while}
use Rattle.run_laws.specs.OwnLaws.{IsShadowMove, has_failed, ShadowIsInvisible, is_look, next_looks, asks_for_look}
use Rattle.std.specs.Prelude.{⊤}
use Rattle.rv_decode.specs.declared.instr.LoadOp.{LoadOp}
use Rattle.rv_model.specs.Memory.{Memory}
use Rattle.rv_model.specs.Registers.{Registers, reg}
use Rattle.rv_model.specs.Arithmetic.{is_taken}
use Rattle.own_laws.proofs.Side.{part_of, Kept, kept_of}
use Rattle.std.proofs.Common.{◌&&◌}

-- the new run keeps what the old one has of the program
abbrev pub Keeps : Run → Run → Type 0
Keeps old new = kept_of new ≡ kept_of old

-- ---- hints leave the demanded block

-- a hint that joins the queue, or doesn't, leaves the demanded block
hint_if-demanded : (b : Bool) (c : Cache) (spot : BlockSpot) → (hint_if b c spot).demanded ≡ c.demanded
hint_if-demanded true c spot = refl
hint_if-demanded false c spot = refl

-- so do all hints of a read
all_hinted-demanded : (depth : ℕ) (c : Cache) (spots : List BlockSpot) → (all_hinted depth c spots).demanded ≡ c.demanded
all_hinted-demanded depth c [] = refl
all_hinted-demanded depth c (spot ∷ spots) =
    all_hinted-demanded depth (hinted depth c spot) spots ∙ hint_if-demanded (is_idle_hint depth c spot) c spot

-- a given hint keeps the own side
hint_given-keeps : (unhinted : Bool) (spot : ReadSpot) (r : Run) → Keeps r (hint_given unhinted spot r)
hint_given-keeps true spot r = refl
hint_given-keeps false spot r = ap (λ d. record (kept_of r) { demanded = d }) (all_hinted-demanded 64 r.cache (blocks_of spot))

-- ---- each part of a word of the shadow keeps the own side

-- a fill changes the shadow's parts alone
fill_if-keeps : (b : Bool) (w : World) (spot : ReadSpot) (a : ℕ) (r : Run) → Keeps r (fill_if b w spot a r)
fill_if-keeps true w spot a r = refl
fill_if-keeps false w spot a r = refl

-- an assumed look keeps the own side, whatever is answered
look_assumed-keeps : (w : World) (x : Answer) (r : Run) (name : List ℕ) → Keeps r (look_assumed w x r name)
look_assumed-keeps w Failed r name = refl
look_assumed-keeps w Usual r name = refl
look_assumed-keeps w (Took k) r name = refl
look_assumed-keeps w Lost r name = refl

-- so does each assumed call
assumed-keeps : (w : World) (x : Answer) (r : Run) (unhinted : Bool) (plan : CallPlan) → Keeps r (assumed w x r unhinted plan)
assumed-keeps w x r unhinted (Set f answer) = refl
assumed-keeps w x r unhinted (Look name) = look_assumed-keeps w x r name
assumed-keeps w x r unhinted (Read d spot a) =
    let hint : Run = hint_given unhinted spot r in
    fill_if-keeps (is_filled w hint spot a spot.count) w spot a hint ∙ hint_given-keeps unhinted spot r
assumed-keeps w x r unhinted (Write to_out a n) = refl
assumed-keeps w x r unhinted (Exit code) = refl

-- so does each gate instruction
gate-keeps : (w : World) (x : Answer) (r : Run) (i : Instr) → Keeps r (shadow_gate w x r i)
gate-keeps w x r (Hkey rd) = refl
gate-keeps w x r (Hcall unhinted) = assumed-keeps w x r unhinted (shadow_plan w r)
gate-keeps w x r (Hpark cause) = refl
gate-keeps w x r _ = refl

-- so does a store
stored-keeps : (b : Bool) (r : Run) (a width v : ℕ) → Keeps r (shadow_stores b r a width v)
stored-keeps true r a width v = refl
stored-keeps false r a width v = refl

-- so does each effect
after-keeps : (w : World) (x : Answer) (r : Run) (e : Effect) → Keeps r (shadow_after w x r e)
after-keeps w x r (Next rs pc) = refl
after-keeps w x r (Stored a width v) = stored-keeps (in_private a) r a width v
after-keeps w x r (Trapped cause) = refl
after-keeps w x r (Gated i) = gate-keeps w x r i
after-keeps w x r Called = refl

-- so does the count of an arrival
arrived_if-keeps : (b : Bool) (r : Run) → Keeps r (arrived_if b r)
arrived_if-keeps true r = refl
arrived_if-keeps false r = refl

-- what the shadow sees
abbrev pub shadow_view : World → Run → Memory
shadow_view w r = shadow_sees w.image.layout (rewritten_words w) r.own.memory r.shared r.shadow_page

-- what the word at the shadow's pc does
abbrev pub shadow_effect : World → Run → Instr → Effect
shadow_effect w r i = effect Shadow (shadow_rights w.image.layout) (shadow_view w r) r.shadow.registers r.shadow.pc i

-- so does each word
word-keeps : (w : World) (x : Answer) (r : Run) (o : Option Instr) → Keeps r (shadow_at_word w x r o)
word-keeps w x r None = refl
word-keeps w x r (Some i) =
    let next : Run = shadow_after w x r (shadow_effect w r i) in
    arrived_if-keeps (is_running next.shadow.state && is_arrival w.image.layout next.shadow.pc) next ∙ after-keeps w x r (shadow_effect w r i)

-- so does each word of a shadow that may run
in-keeps : (s : ShadowState) (w : World) (x : Answer) (r : Run) → Keeps r (shadow_in s w x r)
in-keeps Running w x r = word-keeps w x r (fetch_shadow w r.shadow.pc)
in-keeps Never w x r = refl
in-keeps Stopped w x r = refl
in-keeps (Parked cause) w x r = refl

-- and that may have to wait for a stall
while-keeps : (b : Bool) (w : World) (x : Answer) (r : Run) → Keeps r (shadow_while b w x r)
while-keeps true w x r = in-keeps r.shadow.state w x r
while-keeps false w x r = refl

-- so does each move of the shadow
moved-keeps : (w : World) (x : Answer) (r : Run) (m : Move) → IsShadowMove m → Keeps r (moved w x r m)
moved-keeps w x r S h = in-keeps r.shadow.state w x r
moved-keeps w x r T h = while-keeps r.stalled w x r
moved-keeps w x r O h = elim h [ ]
moved-keeps w x r D h = elim h [ ]

-- what a run has of the program once a move begins: nothing is put yet
abbrev pub kept_begun : Run → Kept
kept_begun r = record (kept_of r) { text = [] }

-- a move of the shadow keeps the own side and the demanded block, and puts nothing
pub shadow_move-keeps : (w : World) (r : Run) (m : Move) (x : Answer) → IsShadowMove m → kept_of (step w r (m, x)) ≡ kept_begun r
shadow_move-keeps w r m x h = by_end r.end
  where
    by_end : (e : Option RunEnd) → kept_of (step_unless e w r (m, x)) ≡ kept_begun r
    by_end (Some e) = refl
    by_end None = moved-keeps w x (begun r) m h

-- ---- what the shadow hears of the outside

-- a look of the shadow hears whether it failed
abbrev look_heard : Bool → World → Run → List ℕ → Run
look_heard true w r name = parked r park.Store
look_heard false w r name = assumed_with r (opened r.shadow.files name (size_in w.files name))

-- an assumed look hears no more
look_assumed-heard : (w : World) (x : Answer) (r : Run) (name : List ℕ) → look_assumed w x r name ≡ look_heard (has_failed x) w r name
look_assumed-heard w Failed r name = refl
look_assumed-heard w Usual r name = refl
look_assumed-heard w (Took k) r name = refl
look_assumed-heard w Lost r name = refl

-- two answers that agree in being a failure
module _ (w : World) (x y : Answer) (same : has_failed x ≡ has_failed y) where
  -- the same call is assumed
  assumed-alike : (r : Run) (unhinted : Bool) (plan : CallPlan) → assumed w x r unhinted plan ≡ assumed w y r unhinted plan
  assumed-alike r unhinted (Look name) = look_assumed-heard w x r name ∙ ap (λ b. look_heard b w r name) same ∙ sym (look_assumed-heard w y r name)
  assumed-alike r unhinted (Set f answer) = refl
  assumed-alike r unhinted (Read d spot a) = refl
  assumed-alike r unhinted (Write to_out a n) = refl
  assumed-alike r unhinted (Exit code) = refl

  -- a gate instruction does the same
  gate-alike : (r : Run) (i : Instr) → shadow_gate w x r i ≡ shadow_gate w y r i
  gate-alike r (Hcall unhinted) = assumed-alike r unhinted (shadow_plan w r)
  gate-alike r (Hkey rd) = refl
  gate-alike r (Hpark cause) = refl
  gate-alike r _ = refl

  -- an effect does the same
  after-alike : (r : Run) (e : Effect) → shadow_after w x r e ≡ shadow_after w y r e
  after-alike r (Gated i) = gate-alike r i
  after-alike r (Next rs pc) = refl
  after-alike r (Stored a width v) = refl
  after-alike r (Trapped cause) = refl
  after-alike r Called = refl

  -- a word does the same
  word-alike : (r : Run) (o : Option Instr) → shadow_at_word w x r o ≡ shadow_at_word w y r o
  word-alike r None = refl
  word-alike r (Some i) =
      ap (λ (next : Run). arrived_if (is_running next.shadow.state && is_arrival w.image.layout next.shadow.pc) next) (after-alike r (shadow_effect w r i))

  -- and a word of a shadow that may run
  in-alike : (s : ShadowState) (r : Run) → shadow_in s w x r ≡ shadow_in s w y r
  in-alike Running r = ap word_counted (word-alike r (fetch_shadow w r.shadow.pc))
  in-alike Never r = refl
  in-alike Stopped r = refl
  in-alike (Parked cause) r = refl

  -- and that may have to wait for a stall
  while-alike : (b : Bool) (r : Run) → shadow_while b w x r ≡ shadow_while b w y r
  while-alike true r = in-alike r.shadow.state r
  while-alike false r = refl

  -- a move of the shadow does the same
  moved-alike : (m : Move) (r : Run) → IsShadowMove m → moved w x r m ≡ moved w y r m
  moved-alike S r h = in-alike r.shadow.state r
  moved-alike T r h = while-alike r.stalled r
  moved-alike O r h = elim h [ ]
  moved-alike D r h = elim h [ ]

  -- so does a step
  step-alike : (r : Run) (m : Move) → IsShadowMove m → step w r (m, x) ≡ step w r (m, y)
  step-alike r m h = by_end r.end
    where
      by_end : (e : Option RunEnd) → step_unless e w r (m, x) ≡ step_unless e w r (m, y)
      by_end (Some e) = refl
      by_end None = moved-alike m (begun r) h

-- ---- what the shadow hears where it asks for no look

-- an effect that is no call
abbrev pub NoCallIn : Effect → Type 0
NoCallIn (Gated (Hcall unhinted)) = ⊥
NoCallIn _ = ⊤

pub record NoCall (e : Effect) : Type 0 where
  pub by : NoCallIn e

-- a jump is no call
jump_if-no_call : (b : Bool) (rs : Registers) (target : ℕ) → NoCall (jump_if b rs target)
jump_if-no_call true rs target = record { by = tt }
jump_if-no_call false rs target = record { by = tt }

-- nor is a branch
branch_if-no_call : (b : Bool) (rs : Registers) (pc target : ℕ) → NoCall (branch_if b rs pc target)
branch_if-no_call true rs pc target = jump_if-no_call (target % 4 == 0) rs target
branch_if-no_call false rs pc target = record { by = tt }

-- nor is a load
load_if-no_call : (x y : Bool) (m : Memory) (op : LoadOp) (rs : Registers) (pc rd a : ℕ) → NoCall (load_if x y m op rs pc rd a)
load_if-no_call false y m op rs pc rd a = record { by = tt }
load_if-no_call true false m op rs pc rd a = record { by = tt }
load_if-no_call true true m op rs pc rd a = record { by = tt }

-- nor is a store
store_if-no_call : (x y : Bool) (a width v : ℕ) → NoCall (store_if x y a width v)
store_if-no_call false y a width v = record { by = tt }
store_if-no_call true false a width v = record { by = tt }
store_if-no_call true true a width v = record { by = tt }

-- only a call's word is a call
pub effect-no_call : (r : Rights) (m : Memory) (rs : Registers) (pc : ℕ) (i : Instr) → is_call_word (Some i) ≡ false → NoCall (effect Shadow r m rs pc i)
effect-no_call r m rs pc (Jal rd imm) h = jump_if-no_call _ _ _
effect-no_call r m rs pc (Jalr rd rs1 imm) h = jump_if-no_call _ _ _
effect-no_call r m rs pc (Branch op rs1 rs2 imm) h = branch_if-no_call (is_taken op (reg rs rs1) (reg rs rs2)) rs pc _
effect-no_call r m rs pc (Load op rd rs1 imm) h = load_if-no_call _ _ m op rs pc rd _
effect-no_call r m rs pc (Store op rs1 rs2 imm) h = store_if-no_call _ _ _ _ _
effect-no_call r m rs pc (Hcall unhinted) h = absurd (no h)
  where
    no : true ≡ false → ⊥
    no e = cc
effect-no_call r m rs pc _ h = record { by = tt }

-- two answers of any kind
module _ (w : World) (x y : Answer) where
  -- a call that is no look is assumed alike
  assumed-deaf : (r : Run) (unhinted : Bool) (plan : CallPlan) → is_look plan ≡ false → assumed w x r unhinted plan ≡ assumed w y r unhinted plan
  assumed-deaf r unhinted (Look name) h = absurd (no h)
    where
      no : true ≡ false → ⊥
      no e = cc
  assumed-deaf r unhinted (Set f answer) h = refl
  assumed-deaf r unhinted (Read d spot a) h = refl
  assumed-deaf r unhinted (Write to_out a n) h = refl
  assumed-deaf r unhinted (Exit code) h = refl

  -- a gate that is no call does the same
  gate-deaf : (r : Run) (i : Instr) → NoCall (Gated i) → shadow_gate w x r i ≡ shadow_gate w y r i
  gate-deaf r (Hcall unhinted) n = absurd n.by
  gate-deaf r (Hkey rd) n = refl
  gate-deaf r (Hpark cause) n = refl
  gate-deaf r _ n = refl

  -- so does an effect that is no call
  after-deaf : (r : Run) (e : Effect) → NoCall e → shadow_after w x r e ≡ shadow_after w y r e
  after-deaf r (Gated i) n = gate-deaf r i n
  after-deaf r (Next rs pc) n = refl
  after-deaf r (Stored a width v) n = refl
  after-deaf r (Trapped cause) n = refl
  after-deaf r Called n = refl

  -- so does an instruction that asks for no look
  instr-deaf : (r : Run) (i : Instr) (b : Bool) → is_call_word (Some i) ≡ b → (b && is_look (shadow_plan w r)) ≡ false
      → shadow_after w x r (shadow_effect w r i) ≡ shadow_after w y r (shadow_effect w r i)
  instr-deaf r i false e h =
      after-deaf r (shadow_effect w r i)
      (effect-no_call (shadow_rights w.image.layout) (shadow_view w r) r.shadow.registers r.shadow.pc i e)
  instr-deaf r (Hcall unhinted) true e h = assumed-deaf r unhinted (shadow_plan w r) h
  instr-deaf r _ true e h = absurd (no e)
    where
      no : false ≡ true → ⊥
      no e = cc

  -- so does a word
  word-deaf : (r : Run) (o : Option Instr) → (is_call_word o && is_look (shadow_plan w r)) ≡ false → shadow_at_word w x r o ≡ shadow_at_word w y r o
  word-deaf r None h = refl
  word-deaf r (Some i) h =
      ap (λ (next : Run). arrived_if (is_running next.shadow.state && is_arrival w.image.layout next.shadow.pc) next) (instr-deaf r i (is_call_word (Some i)) refl h)

  -- and a word of a shadow that may run
  in-deaf : (s : ShadowState) (r : Run) → (not (not (is_running s)) && next_looks w r) ≡ false → shadow_in s w x r ≡ shadow_in s w y r
  in-deaf Running r h = ap word_counted (word-deaf r (fetch_shadow w r.shadow.pc) h)
  in-deaf Never r h = refl
  in-deaf Stopped r h = refl
  in-deaf (Parked cause) r h = refl

  -- and that may have to wait for a stall
  while-deaf : (b : Bool) (r : Run) → (not (not b || not (is_running r.shadow.state)) && next_looks w r) ≡ false → shadow_while b w x r ≡ shadow_while b w y r
  while-deaf true r h = in-deaf r.shadow.state r h
  while-deaf false r h = refl

  -- so does a step
  step-deaf : (r : Run) (m : Move) → IsShadowMove m → asks_for_look w r m ≡ false → step w r (m, x) ≡ step w r (m, y)
  step-deaf r S s h = by_end r.end h
    where
      by_end : (e : Option RunEnd) → (is_none e && (not (is_idle S r) && next_looks w r)) ≡ false → step_unless e w r (S, x) ≡ step_unless e w r (S, y)
      by_end (Some e) h = refl
      by_end None h = in-deaf r.shadow.state (begun r) h
  step-deaf r T s h = by_end r.end h
    where
      by_end : (e : Option RunEnd) → (is_none e && (not (is_idle T r) && next_looks w r)) ≡ false → step_unless e w r (T, x) ≡ step_unless e w r (T, y)
      by_end (Some e) h = refl
      by_end None h = while-deaf r.stalled (begun r) h
  step-deaf r O s h = elim s [ ]
  step-deaf r D s h = elim s [ ]

-- ---- the law

-- the shadow is invisible
pub shadow_is_invisible : ShadowIsInvisible
shadow_is_invisible w r m x h =
    let kept : kept_of (step w r (m, x)) ≡ kept_begun r = shadow_move-keeps w r m x h in
    record {
      leaves = ap (λ (k : Kept). part_of k.side) kept;
      puts_nothing = ap (λ (k : Kept). k.text) kept;
      hears_failure_alone = λ y same. step-alike w x y same r m h;
      hears_looks_alone = λ y deaf. step-deaf w x y r m h deaf;
    }
