-- A step of the hart is a step of the plain run.
use Rattle.std.proofs.Common.{◌≡◌, ◌≢◌, ℕ, ◌-◌, ◌/◌, ◌%◌, Bool, true, false, ◌&&◌, ◌==◌, nat_le, List, [], map, Option, Some, None, refl, ap, sym, ◌∙◌, subst}
use Rattle.std.proofs.lemmas.Option.{slice_get-map}
use Rattle.std.specs.Option.{option_map}
use Rattle.std.proofs.Math.ListN.{replicate}
use Rattle.std.proofs.lemmas.List.Elements.{All-nil}
use Rattle.spec_base.specs.Files.{Files}
use Rattle.spec_base.specs.declared.machine.Trap.{Trap}
use Rattle.spec_base.specs.declared.machine.Trap.TheVariants as trap
use Rattle.spec_base.specs.declared.machine.View.TheVariants.{Plain}
use Rattle.rv_decode.specs.Instruction.{instr_of}
use Rattle.rv_decode.specs.declared.instr.Instr.{Instr}
use Rattle.rv_decode.specs.declared.instr.Instr.TheVariants.{Lui, Auipc, Jal, Jalr, Branch, Load, Store, OpImm, OpImmW, Op, OpW, Fence, Ecall, Ebreak, Hgate, Hleave, Hsite, Hkey, Hstop, Hrestart, Hcall, Hpark, Illegal}
use Rattle.rv_decode.specs.declared.instr.LoadOp.{LoadOp}
use Rattle.rv_model.specs.Memory.{Memory, stored, all_from}
use Rattle.rv_model.specs.Registers.{Registers, reg, with_reg}
use Rattle.rv_model.specs.Rights.{Rights, data_rights}
use Rattle.rv_model.specs.Arithmetic.{is_taken, load_width, store_width}
use Rattle.rv_model.specs.Effect.{Effect, Next, Stored, Trapped, Called, Gated, effect, fetched, after, jump_if, branch_if, load_if, store_if, even}
use Rattle.rv_model.specs.Space.{Space, word_effect, effect_at}
use Rattle.spec_base.specs.Word.{plus_int}
use Rattle.program_model.specs.Descriptors.{Descriptors}
use Rattle.program_model.specs.PlainRun.{State, Image as Program, Taken, Went, Traps, text_of, next, next_state, next_unless, completed, at_word, after_effect, end_unless, end_of_step, TrapsAt}
use Rattle.hart_step.specs.Core.{Core}
use Rattle.hart_step.specs.Step.{outcome, stepped, store_outcome, effect_here}
use Rattle.hart_step.specs.declared.event.Event.{Event}
use Rattle.hart_step.specs.declared.event.Event.TheVariants as event
use Rattle.world_io.specs.Logs.{StoreLog}
use Rattle.world_io.proofs.Stores.{none-StoreLog}
use Rattle.plain_runner.specs.declared.ending.Ending.TheVariants.{Trapped as EndsTrapped, NoMemory}
use Rattle.plain_runner.specs.StoreCalls.{next_calls, word_calls, effect_calls}
use Rattle.plain_runner.specs.Answers.{Answers}
use Rattle.plain_runner.specs.Runs.{Outside, Shows}
use Rattle.plain_runner.specs.Turns.{IsAtCall, GoesOn, Stops, alone}
use Rattle.plain_runner.proofs.Silent.{silent-GoesOn, silent-Stops}

-- ---- the word at the pc

fetched-map : {A B : Type 0} (f : A → B) (code : List A) (start pc : ℕ) → fetched (map f code) start pc ≡ option_map f (fetched code start pc)
fetched-map f code start pc = by (nat_le start pc && (pc % 4 == 0)) refl
  where
    by : (b : Bool) → (nat_le start pc && (pc % 4 == 0)) ≡ b → fetched (map f code) start pc ≡ option_map f (fetched code start pc)
    by true e = rw (e, fetched) (slice_get-map f code ((pc - start) / 4))
    by false e = rw (e, fetched) refl

-- what is said of an instruction, or of none, by its effect: so for the word at the pc, as the plain run and as the memory of all parts has it
module _ {R : Type 0} (p : Program) (s : State) (c : Core) (sp : Space) (f : Descriptors) (shows : Shows p c sp f s) (of_instr : Option Instr → R) (of_effect : Effect → R)
    (none : of_instr None ≡ of_effect (Trapped trap.FetchOut))
    (some : (i : Instr) → of_instr (Some i) ≡ of_effect (effect Plain (data_rights p.layout) s.memory s.registers s.pc i)) where
  word-by : (o : Option ℕ) → of_instr (option_map instr_of o) ≡ of_effect (word_effect Plain sp s.registers s.pc o)
  word-by None = none
  word-by (Some word) =
      some (instr_of word)
      ∙ (ap (λ r. of_effect (effect Plain r s.memory s.registers s.pc (instr_of word))) (ap data_rights (sym shows.layout))
      ∙ ap (λ m. of_effect (effect Plain (data_rights sp.layout) m s.registers s.pc (instr_of word))) shows.memory)

  at-pc : of_instr (fetched (text_of p) p.layout.text_start s.pc) ≡ of_effect (effect_at Plain sp s.registers s.pc)
  unfolding effect_at
  at-pc =
      ap of_instr (fetched-map instr_of p.words p.layout.text_start s.pc)
      ∙ (word-by (fetched p.words p.layout.text_start s.pc)
      ∙ (ap (λ ws. of_effect (word_effect Plain sp s.registers s.pc (fetched ws p.layout.text_start s.pc))) (sym shows.words)
      ∙ ap (λ layout. of_effect (word_effect Plain sp s.registers s.pc (fetched sp.text layout.text_start s.pc))) (sym shows.layout)))

  here-by : of_instr (fetched (text_of p) p.layout.text_start s.pc) ≡ of_effect (effect_here c sp)
  here-by = rw (shows.view, ← shows.registers, ← shows.pc) at-pc

-- the next step is the effect of the word at the hart's pc
pub next-is : (p : Program) (s : State) (c : Core) (sp : Space) (f : Descriptors) → Shows p c sp f s → (files : Files) (t : Taken)
    → next p files t s ≡ after_effect p files t s (effect_here c sp)
next-is p s c sp f shows files t = here-by p s c sp f shows (at_word p files t s) (after_effect p files t s) refl (λ i. refl)

-- and so are the calls on the store
calls-are : (p : Program) (s : State) (c : Core) (sp : Space) (f : Descriptors) → Shows p c sp f s → next_calls p s ≡ effect_calls p s (effect_here c sp)
calls-are p s c sp f shows = here-by p s c sp f shows (word_calls p s) (effect_calls p s) refl (λ i. refl)

-- ---- no gate is legal in the Plain view

abbrev is_gated : Effect → Bool
is_gated (Gated _) = true
is_gated (Next rs pc) = false
is_gated (Stored a width v) = false
is_gated (Trapped cause) = false
is_gated Called = false

jump-gated : (b : Bool) (rs : Registers) (target : ℕ) → is_gated (jump_if b rs target) ≡ false
jump-gated true rs target = refl
jump-gated false rs target = refl

branch-gated : (b : Bool) (rs : Registers) (pc target : ℕ) → is_gated (branch_if b rs pc target) ≡ false
branch-gated true rs pc target = jump-gated (target % 4 == 0) rs target
branch-gated false rs pc target = refl

load-gated : (b d : Bool) (m : Memory) (op : LoadOp) (rs : Registers) (pc rd a : ℕ) → is_gated (load_if b d m op rs pc rd a) ≡ false
load-gated false d m op rs pc rd a = refl
load-gated true false m op rs pc rd a = refl
load-gated true true m op rs pc rd a = refl

store-gated : (b d : Bool) (a width v : ℕ) → is_gated (store_if b d a width v) ≡ false
store-gated false d a width v = refl
store-gated true false a width v = refl
store-gated true true a width v = refl

effect-gated : (r : Rights) (m : Memory) (rs : Registers) (pc : ℕ) (i : Instr) → is_gated (effect Plain r m rs pc i) ≡ false
effect-gated r m rs pc (Lui rd imm) = refl
effect-gated r m rs pc (Auipc rd imm) = refl
effect-gated r m rs pc (Jal rd imm) = jump-gated (plus_int pc imm % 4 == 0) (with_reg rs rd (after pc)) (plus_int pc imm)
effect-gated r m rs pc (Jalr rd rs1 imm) = jump-gated (even (plus_int (reg rs rs1) imm) % 4 == 0) (with_reg rs rd (after pc)) (even (plus_int (reg rs rs1) imm))
effect-gated r m rs pc (Branch op rs1 rs2 imm) = branch-gated (is_taken op (reg rs rs1) (reg rs rs2)) rs pc (plus_int pc imm)
effect-gated r m rs pc (Load op rd rs1 imm) = load-gated (plus_int (reg rs rs1) imm % load_width op == 0) (all_from r.load (plus_int (reg rs rs1) imm) (load_width op)) m op rs pc rd (plus_int (reg rs rs1) imm)
effect-gated r m rs pc (Store op rs1 rs2 imm) = store-gated (plus_int (reg rs rs1) imm % store_width op == 0) (all_from r.store (plus_int (reg rs rs1) imm) (store_width op)) (plus_int (reg rs rs1) imm) (store_width op) (reg rs rs2)
effect-gated r m rs pc (OpImm op rd rs1 imm) = refl
effect-gated r m rs pc (OpImmW op rd rs1 imm) = refl
effect-gated r m rs pc (Op op rd rs1 rs2) = refl
effect-gated r m rs pc (OpW op rd rs1 rs2) = refl
effect-gated r m rs pc (Fence word) = refl
effect-gated r m rs pc Ecall = refl
effect-gated r m rs pc Ebreak = refl
effect-gated r m rs pc Illegal = refl
effect-gated r m rs pc Hgate = refl
effect-gated r m rs pc Hleave = refl
effect-gated r m rs pc (Hsite rd) = refl
effect-gated r m rs pc (Hkey rd) = refl
effect-gated r m rs pc Hstop = refl
effect-gated r m rs pc Hrestart = refl
effect-gated r m rs pc (Hcall unhinted) = refl
effect-gated r m rs pc (Hpark cause) = refl

word-gated : (sp : Space) (rs : Registers) (pc : ℕ) (o : Option ℕ) → is_gated (word_effect Plain sp rs pc o) ≡ false
word-gated sp rs pc None = refl
word-gated sp rs pc (Some word) = effect-gated (data_rights sp.layout) sp.program rs pc (instr_of word)

here-gated : (p : Program) (s : State) (c : Core) (sp : Space) (f : Descriptors) → Shows p c sp f s → is_gated (effect_here c sp) ≡ false
unfolding effect_at
here-gated p s c sp f shows = rw shows.view (word-gated sp c.registers c.pc (fetched sp.text sp.layout.text_start c.pc))

-- ---- what a step came to, by its event

-- the next state, where the instruction is completed
pub record Moved (p : Program) (s : State) (core : Core) (space : Space) (f : Descriptors) : Type 0 where
  pub next : State
  pub steps : (files : Files) (t : Taken) → next_state p files t s ≡ Some next
  pub out : next.out ≡ s.out
  pub err : next.err ≡ s.err
  pub calls : next_calls p s ≡ 0
  pub shows : Shows p core space f next

-- what a step that told an event came to: a trap, a call, and want of a page leave hart and memory, and no other event comes in the Plain view
abbrev pub StepsTo : Program → State → Core → Space → Descriptors → Event → Core → Space → Type 0
StepsTo p s c sp f event.Done core space = Moved p s core space f
StepsTo p s c sp f (event.Trap cause) core space = ((files : Files) (t : Taken) → next p files t s ≡ Traps cause) × (core ≡ c) × (space ≡ sp)
StepsTo p s c sp f event.Ecall core space = IsAtCall p s × (core ≡ c) × (space ≡ sp)
StepsTo p s c sp f event.NoMemory core space = (core ≡ c) × (space ≡ sp)
StepsTo p s c sp f other core space = ⊥

module _ (p : Program) (s : State) (c : Core) (sp : Space) (f : Descriptors) (shows : Shows p c sp f s) (lacks : ℕ → Bool) where
  -- a step that completes
  moved : (rs : Registers) (m : Memory) (pc : ℕ) (core : Core) (space : Space) → next_calls p s ≡ 0
      → ((files : Files) (t : Taken) → next p files t s ≡ Went (record s { registers = rs; memory = m; pc = pc }))
      → core.view ≡ Plain → rs ≡ core.registers → pc ≡ core.pc → m ≡ space.program → space.layout ≡ p.layout → space.text ≡ p.words → Moved p s core space f
  moved rs m pc core space none went view rs_is pc_is m_is layout words =
      record {
        next = record s { registers = rs; memory = m; pc = pc };
        steps = λ files t. ap (λ e. next_unless e p files t s) shows.exited ∙ ap completed (went files t);
        out = refl;
        err = refl;
        calls = none;
        shows = record { view = view; registers = rs_is; pc = pc_is; memory = m_is; files = shows.files; exited = shows.exited; layout = layout; words = words };
      }

  stores : (b : Bool) (a width v : ℕ) → next_calls p s ≡ 0 → ((files : Files) (t : Taken) → next p files t s ≡ after_effect p files t s (Stored a width v))
      → StepsTo p s c sp f (store_outcome b c sp a width v).event (store_outcome b c sp a width v).core (store_outcome b c sp a width v).space
  stores true a width v none went = (refl, refl)
  stores false a width v none went =
      moved s.registers (stored s.memory a width v) (after s.pc) (store_outcome false c sp a width v).core (store_outcome false c sp a width v).space none went
      shows.view shows.registers (ap after shows.pc) (rw (shows.view, shows.memory) refl) (rw shows.view shows.layout) (rw shows.view shows.words)

  steps-by : (e : Effect) → is_gated e ≡ false → next_calls p s ≡ effect_calls p s e → ((files : Files) (t : Taken) → next p files t s ≡ after_effect p files t s e)
      → StepsTo p s c sp f (stepped lacks e c sp).event (stepped lacks e c sp).core (stepped lacks e c sp).space
  steps-by (Next rs pc) g none went =
      moved rs s.memory pc (record c { registers = rs; pc = pc }) sp none went shows.view refl refl shows.memory shows.layout shows.words
  steps-by (Stored a width v) g none went = stores (lacks a) a width v none went
  steps-by (Trapped cause) g none went = (went, refl, refl)
  steps-by Called g count went = (record { performs = went; calls = count }, refl, refl)
  steps-by (Gated i) g none went = absurd (let h : true ≡ false = g in cc)

  -- a step of the hart, by its event
  pub steps-to : (told : Event) (core : Core) (space : Space) → outcome told core space ≡ stepped lacks (effect_here c sp) c sp → StepsTo p s c sp f told core space
  steps-to told core space h =
      subst (λ o. StepsTo p s c sp f o.event o.core o.space) (sym h)
      (steps-by (effect_here c sp) (here-gated p s c sp f shows) (calls-are p s c sp f shows) (next-is p s c sp f shows))

-- ---- a turn, by its step

pub done-GoesOn : (p : Program) (s : State) (c : Core) (sp : Space) (f : Descriptors) (core : Core) (space : Space) (o : Outside)
    → StepsTo p s c sp f event.Done core space → GoesOn p s o core space f o
done-GoesOn p s c sp f core space o came =
    silent-GoesOn p s came.next [] o o.store core space f (alone came.steps came.out came.err) (λ files e. All-nil (Answers files)) came.shows
    (subst (λ n. StoreLog o.store (replicate n false) o.store) (sym came.calls) (none-StoreLog o.store))

-- hart and memory are as before
same-Shows : (p : Program) (s : State) (c : Core) (sp : Space) (f : Descriptors) → Shows p c sp f s → (core : Core) (space : Space) → core ≡ c → space ≡ sp → Shows p core space f s
same-Shows p s c sp f shows core space same_core same_space = subst (λ k. Shows p k space f s) (sym same_core) (subst (λ m. Shows p c m f s) (sym same_space) shows)

pub trap-Stops : (p : Program) (s : State) (c : Core) (sp : Space) (f : Descriptors) (shows : Shows p c sp f s) (cause : Trap) (pc : ℕ) (core : Core) (space : Space) (o : Outside)
    → StepsTo p s c sp f (event.Trap cause) core space → pc ≡ core.pc → Stops p s (EndsTrapped cause pc) o core space f o
trap-Stops p s c sp f shows cause pc core space o stepped_to at =
    silent-Stops p s (EndsTrapped cause pc) o o.store core space f
    (λ files t.
    ap (λ e. end_unless e p files t s) shows.exited
    ∙ (ap (λ st. end_of_step st s.pc) (stepped_to.0 files t) ∙ ap (λ a. TrapsAt cause a) (shows.pc ∙ (ap (λ k. k.pc) (sym stepped_to.1) ∙ sym at))))
    (same-Shows p s c sp f shows core space stepped_to.1 stepped_to.2) (none-StoreLog o.store) (refl, refl)

-- want of memory
pub starved-Stops : (p : Program) (s : State) (core : Core) (space : Space) (f : Descriptors) (o : Outside) → Shows p core space f s → Stops p s NoMemory o core space f o
starved-Stops p s core space f o shows = silent-Stops p s NoMemory o o.store core space f tt shows (none-StoreLog o.store) (refl, refl)

-- an event that isn't treated apart leaves hart and memory
pub other-Shows : (p : Program) (s : State) (c : Core) (sp : Space) (f : Descriptors) → Shows p c sp f s → (core : Core) (space : Space) (told : Event)
    → told ≢ event.Done → told ≢ event.Ecall → ((cause : Trap) → told ≢ event.Trap cause) → StepsTo p s c sp f told core space → Shows p core space f s
other-Shows p s c sp f shows core space event.Done nd ne nt came = absurd (nd refl)
other-Shows p s c sp f shows core space event.Ecall nd ne nt came = absurd (ne refl)
other-Shows p s c sp f shows core space (event.Trap cause) nd ne nt came = absurd (nt cause refl)
other-Shows p s c sp f shows core space event.NoMemory nd ne nt came = same-Shows p s c sp f shows core space came.0 came.1
other-Shows p s c sp f shows core space other nd ne nt came = absurd came

-- a call leaves hart and memory as they were
pub call-Shows : (p : Program) (s : State) (c : Core) (sp : Space) (f : Descriptors) → Shows p c sp f s → (core : Core) (space : Space)
    → StepsTo p s c sp f event.Ecall core space → Shows p core space f s
call-Shows p s c sp f shows core space stepped_to = same-Shows p s c sp f shows core space stepped_to.1 stepped_to.2

-- in the plain view an event that isn't the completion of an instruction leaves hart and memory
pub stopped-Shows : (p : Program) (s : State) (c : Core) (sp : Space) (f : Descriptors) → Shows p c sp f s → (core : Core) (space : Space) (told : Event)
    → told ≢ event.Done → StepsTo p s c sp f told core space → Shows p core space f s
stopped-Shows p s c sp f shows core space event.Done nd came = absurd (nd refl)
stopped-Shows p s c sp f shows core space event.Ecall nd came = same-Shows p s c sp f shows core space came.1 came.2
stopped-Shows p s c sp f shows core space (event.Trap cause) nd came = same-Shows p s c sp f shows core space came.1 came.2
stopped-Shows p s c sp f shows core space event.NoMemory nd came = same-Shows p s c sp f shows core space came.0 came.1
stopped-Shows p s c sp f shows core space other nd came = absurd came
