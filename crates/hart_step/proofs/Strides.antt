-- What a step of a shadow hart comes to, and many of them.
use Rattle.std.proofs.Common.{◌≡◌, ◌≢◌, ◌<◌, ℕ, suc, Bool, true, false, Option, Some, None, refl, sym, ap, subst, ◌∙◌, inl, inr, arith}
use Rattle.std.specs.Prelude.{◌%◌, ◌==◌, ℤ}
use Rattle.std.specs.Option.{option_map}
use Rattle.spec_base.specs.Word.{plus_int}
use Rattle.spec_base.specs.declared.machine.Trap.TheVariants as trap
use Rattle.spec_base.specs.declared.machine.View.{View}
use Rattle.spec_base.specs.declared.machine.View.TheVariants.{Shadow}
use Rattle.rv_decode.specs.Instruction.{instr_of}
use Rattle.rv_decode.specs.declared.instr.Instr.{Instr}
use Rattle.rv_decode.specs.declared.instr.Instr.TheVariants.{Jal, Jalr, Branch, Load, Store, Hgate, Hleave}
use Rattle.rv_decode.specs.declared.instr.LoadOp.{LoadOp}
use Rattle.rv_model.specs.Arithmetic.{is_taken, load_width, store_width}
use Rattle.rv_model.specs.Memory.{Memory, all_from}
use Rattle.rv_model.specs.Registers.{Registers, reg, with_reg}
use Rattle.rv_model.specs.Rights.{Rights, rights_of}
use Rattle.rv_model.specs.Effect.{Effect, Next, Stored, Trapped, Called, Gated, effect, jump_if, branch_if, load_if, store_if, even, after}
use Rattle.rv_model.specs.Space.{Space, sees, word_at, word_effect, effect_at}
use Rattle.hart_mem.specs.Held.{Held, lacks_frame, pages_stored}
use Rattle.hart_mem.specs.Operation.{instr_of_operation}
use Rattle.hart_mem.specs.declared.operation.Operation.{Operation}
use Rattle.hart_mem.specs.declared.operation.Operation.TheVariants as operation
use Rattle.hart_step.specs.Core.{Core}
use Rattle.hart_step.specs.Step.{Outcome, outcome, stepped, store_outcome, gate_outcome, effect_of, effect_here}
use Rattle.hart_step.specs.Flows.{core_at, flow_outcome}
use Rattle.hart_step.specs.ShadowSteps.{IsStepOf, is_look_due, Passes, more, ShadowStepsTo}
use Rattle.hart_step.specs.Strides.{is_store, stride_if, stride_of, Passed, Looked, Stopped, Comes}
use Rattle.hart_step.specs.declared.event.Event.{Event}
use Rattle.hart_step.specs.declared.event.Event.TheVariants as event
use Rattle.hart_step.specs.declared.flow.Flow.{Flow}
use Rattle.hart_step.specs.declared.flow.Flow.TheVariants as flow
use Rattle.hart_step.proofs.Starved.{never_starved}

-- ---- behind which instructions a look is due

module _ (next : Core) where
  jump-due : (b : Bool) (rs : Registers) (target : ℕ) → is_look_due (jump_if b rs target) next ≡ (next.pc % 64 == 4)
  jump-due true rs target = refl
  jump-due false rs target = refl

  branch-due : (b : Bool) (rs : Registers) (pc target : ℕ) → is_look_due (branch_if b rs pc target) next ≡ (next.pc % 64 == 4)
  branch-due true rs pc target = jump-due (target % 4 == 0) rs target
  branch-due false rs pc target = refl

  load-due : (b inside : Bool) (m : Memory) (op : LoadOp) (rs : Registers) (pc rd a : ℕ) → is_look_due (load_if b inside m op rs pc rd a) next ≡ (next.pc % 64 == 4)
  load-due false inside m op rs pc rd a = refl
  load-due true false m op rs pc rd a = refl
  load-due true true m op rs pc rd a = refl

  instr-due : (r : Rights) (m : Memory) (rs : Registers) (pc : ℕ) (i : Instr) → is_store i ≡ false → is_look_due (effect Shadow r m rs pc i) next ≡ (next.pc % 64 == 4)
  instr-due r m rs pc (Store op rs1 rs2 imm) e = absurd (let f : true ≡ false = e in cc)
  instr-due r m rs pc (Jal rd imm) e = jump-due (plus_int pc imm % 4 == 0) (with_reg rs rd (after pc)) (plus_int pc imm)
  instr-due r m rs pc (Jalr rd rs1 imm) e = jump-due (even (plus_int (reg rs rs1) imm) % 4 == 0) (with_reg rs rd (after pc)) (even (plus_int (reg rs rs1) imm))
  instr-due r m rs pc (Branch op rs1 rs2 imm) e = branch-due (is_taken op (reg rs rs1) (reg rs rs2)) rs pc (plus_int pc imm)
  instr-due r m rs pc (Load op rd rs1 imm) e = load-due (plus_int (reg rs rs1) imm % load_width op == 0) (all_from r.load (plus_int (reg rs rs1) imm) (load_width op)) m op rs pc rd (plus_int (reg rs rs1) imm)
  instr-due r m rs pc _ e = refl

  of-due : (c : Core) (s : Space) (i : Instr) → c.view ≡ Shadow → is_store i ≡ false → is_look_due (effect_of c s i) next ≡ (next.pc % 64 == 4)
  of-due c s i view e =
      subst (λ (v : View). is_look_due (effect v (rights_of v s.layout) (sees v s) c.registers c.pc i) next ≡ (next.pc % 64 == 4)) (sym view)
      (instr-due (rights_of Shadow s.layout) (sees Shadow s) c.registers c.pc i e)

module _ (c : Core) (s : Space) (next : Core) (there : Space) (lacks : ℕ → Bool) where
  -- a store that completes has stored
  store-due : (b inside : Bool) (a width v : ℕ) → outcome event.Done next there ≡ stepped lacks (store_if b inside a width v) c s → is_look_due (store_if b inside a width v) next ≡ true
  store-due false inside a width v h = absurd (let told : event.Done ≡ event.Trap trap.Misaligned = ap (λ (o : Outcome). o.event) h in cc)
  store-due true false a width v h = absurd (let told : event.Done ≡ event.Trap trap.StoreOut = ap (λ (o : Outcome). o.event) h in cc)
  store-due true true a width v h = refl

  stores-due : (i : Instr) → is_store i ≡ true → outcome event.Done next there ≡ stepped lacks (effect_of c s i) c s → is_look_due (effect_of c s i) next ≡ true
  stores-due (Store op rs1 rs2 imm) e h =
      store-due (plus_int (reg c.registers rs1) imm % store_width op == 0) (all_from (rights_of c.view s.layout).store (plus_int (reg c.registers rs1) imm) (store_width op))
      (plus_int (reg c.registers rs1) imm) (store_width op) (reg c.registers rs2) h
  stores-due other e h = absurd (let f : false ≡ true = e in cc)

  -- what needs no look leaves the memory
  gate-still : (told : Event) (i : Instr) → outcome told next there ≡ gate_outcome i c s → there ≡ s
  gate-still told Hgate h = ap (λ (o : Outcome). o.space) h
  gate-still told Hleave h = ap (λ (o : Outcome). o.space) h
  gate-still told other h = ap (λ (o : Outcome). o.space) h

  quiet-still : (e : Effect) → is_look_due e next ≡ false → outcome event.Done next there ≡ stepped lacks e c s → there ≡ s
  quiet-still (Next rs pc) q h = ap (λ (o : Outcome). o.space) h
  quiet-still (Stored a width v) q h = absurd (let f : true ≡ false = q in cc)
  quiet-still (Trapped t) q h = ap (λ (o : Outcome). o.space) h
  quiet-still Called q h = ap (λ (o : Outcome). o.space) h
  quiet-still (Gated gate) q h = gate-still event.Done gate h

  -- and so does what doesn't complete
  store-told : (b : Bool) (told : Event) (a width v : ℕ) → told ≢ event.Done → outcome told next there ≡ store_outcome b c s a width v → there ≡ s
  store-told true told a width v other h = ap (λ (o : Outcome). o.space) h
  store-told false told a width v other h = absurd (other (ap (λ (o : Outcome). o.event) h))

  told-still : (told : Event) (e : Effect) → told ≢ event.Done → outcome told next there ≡ stepped lacks e c s → there ≡ s
  told-still told (Next rs pc) other h = ap (λ (o : Outcome). o.space) h
  told-still told (Stored a width v) other h = store-told (lacks a) told a width v other h
  told-still told (Trapped t) other h = ap (λ (o : Outcome). o.space) h
  told-still told Called other h = ap (λ (o : Outcome). o.space) h
  told-still told (Gated gate) other h = gate-still told gate h

-- ---- the view

module _ (lacks : ℕ → Bool) (c : Core) (s : Space) where
  jump-view : (b : Bool) (rs : Registers) (target : ℕ) → (stepped lacks (jump_if b rs target) c s).core.view ≡ c.view
  jump-view true rs target = refl
  jump-view false rs target = refl

  branch-view : (b : Bool) (rs : Registers) (pc target : ℕ) → (stepped lacks (branch_if b rs pc target) c s).core.view ≡ c.view
  branch-view true rs pc target = jump-view (target % 4 == 0) rs target
  branch-view false rs pc target = refl

  load-view : (b inside : Bool) (m : Memory) (op : LoadOp) (rs : Registers) (pc rd a : ℕ) → (stepped lacks (load_if b inside m op rs pc rd a) c s).core.view ≡ c.view
  load-view false inside m op rs pc rd a = refl
  load-view true false m op rs pc rd a = refl
  load-view true true m op rs pc rd a = refl

  stored-view : (b : Bool) (a width v : ℕ) → (store_outcome b c s a width v).core.view ≡ c.view
  stored-view true a width v = refl
  stored-view false a width v = refl

  store-view : (b inside : Bool) (a width v : ℕ) → (stepped lacks (store_if b inside a width v) c s).core.view ≡ c.view
  store-view false inside a width v = refl
  store-view true false a width v = refl
  store-view true true a width v = stored-view (lacks a) a width v

  instr-view : (r : Rights) (m : Memory) (rs : Registers) (pc : ℕ) (i : Instr) → (stepped lacks (effect Shadow r m rs pc i) c s).core.view ≡ c.view
  instr-view r m rs pc (Store op rs1 rs2 imm) = store-view (plus_int (reg rs rs1) imm % store_width op == 0) (all_from r.store (plus_int (reg rs rs1) imm) (store_width op)) (plus_int (reg rs rs1) imm) (store_width op) (reg rs rs2)
  instr-view r m rs pc (Jal rd imm) = jump-view (plus_int pc imm % 4 == 0) (with_reg rs rd (after pc)) (plus_int pc imm)
  instr-view r m rs pc (Jalr rd rs1 imm) = jump-view (even (plus_int (reg rs rs1) imm) % 4 == 0) (with_reg rs rd (after pc)) (even (plus_int (reg rs rs1) imm))
  instr-view r m rs pc (Branch op rs1 rs2 imm) = branch-view (is_taken op (reg rs rs1) (reg rs rs2)) rs pc (plus_int pc imm)
  instr-view r m rs pc (Load op rd rs1 imm) = load-view (plus_int (reg rs rs1) imm % load_width op == 0) (all_from r.load (plus_int (reg rs rs1) imm) (load_width op)) m op rs pc rd (plus_int (reg rs rs1) imm)
  instr-view r m rs pc _ = refl

  of-view : (i : Instr) → c.view ≡ Shadow → (stepped lacks (effect_of c s i) c s).core.view ≡ c.view
  of-view i view =
      subst (λ (v : View). (stepped lacks (effect v (rights_of v s.layout) (sees v s) c.registers c.pc i) c s).core.view ≡ c.view) (sym view)
      (instr-view (rights_of Shadow s.layout) (sees Shadow s) c.registers c.pc i)

-- ---- which operations store

pub other-store : (o : Operation) → ((rs1 rs2 : ℕ) (imm : ℤ) → o ≢ operation.Sb rs1 rs2 imm) → ((rs1 rs2 : ℕ) (imm : ℤ) → o ≢ operation.Sh rs1 rs2 imm)
    → ((rs1 rs2 : ℕ) (imm : ℤ) → o ≢ operation.Sw rs1 rs2 imm) → ((rs1 rs2 : ℕ) (imm : ℤ) → o ≢ operation.Sd rs1 rs2 imm) → false ≡ is_store (instr_of_operation o)
other-store (operation.Sb rs1 rs2 imm) b h w d = absurd (b rs1 rs2 imm refl)
other-store (operation.Sh rs1 rs2 imm) b h w d = absurd (h rs1 rs2 imm refl)
other-store (operation.Sw rs1 rs2 imm) b h w d = absurd (w rs1 rs2 imm refl)
other-store (operation.Sd rs1 rs2 imm) b h w d = absurd (d rs1 rs2 imm refl)
other-store _ b h w d = refl

-- ---- what an instruction comes to

module _ (h : Held) (c : Core) (s : Space) (i : Instr) (view : c.view ≡ Shadow) (next : Core) (there : Space) where
  by-pc : (pc : ℕ) (b : Bool) → (pc % 64 == 4) ≡ b → is_store i ≡ false → outcome event.Done (core_at next pc) there ≡ stepped (lacks_frame c.view h) (effect_of c s i) c s
      → Comes (stride_if b pc) h (effect_of c s i) c s next there
  by-pc pc true test none step = record { step = step; due = of-due (core_at next pc) c s i view none ∙ test }
  by-pc pc false test none step =
      let quiet : is_look_due (effect_of c s i) (core_at next pc) ≡ false = of-due (core_at next pc) c s i view none ∙ test in
      record { still = quiet-still c s (core_at next pc) there (lacks_frame c.view h) (effect_of c s i) quiet step; step = step; quiet = quiet }

  by-store : (pc : ℕ) (stores : Bool) → stores ≡ is_store i → outcome event.Done (core_at next pc) there ≡ stepped (lacks_frame c.view h) (effect_of c s i) c s
      → Comes (stride_of (flow.Next pc) stores) h (effect_of c s i) c s next there
  by-store pc true is step = record { step = step; due = stores-due c s (core_at next pc) there (lacks_frame c.view h) i (sym is) step }
  by-store pc false is step = by-pc pc (pc % 64 == 4) refl (sym is) step

  pub comes : (f : Flow) (stores : Bool) → stores ≡ is_store i → f ≢ flow.Stop event.Done → flow_outcome f next there ≡ stepped (lacks_frame c.view h) (effect_of c s i) c s
      → Comes (stride_of f stores) h (effect_of c s i) c s next there
  comes (flow.Next pc) stores is told step = by-store pc stores is step
  comes (flow.Stop e) stores is told step =
      let other : e ≢ event.Done = λ q. told (ap (λ (x : Event). flow.Stop x) q) in
      record {
        other = other;
        never = λ q. never_starved c s c.view h (effect_of c s i) (ap pages_stored view) (sym q ∙ ap (λ (o : Outcome). o.event) step);
        still = told-still c s next there (lacks_frame c.view h) e (effect_of c s i) other step;
        step = step;
      }

  pub same-view : (f : Flow) → flow_outcome f next there ≡ stepped (lacks_frame c.view h) (effect_of c s i) c s → next.view ≡ Shadow
  same-view (flow.Next pc) step = ap (λ (o : Outcome). o.core.view) step ∙ of-view (lacks_frame c.view h) c s i view ∙ view
  same-view (flow.Stop e) step = ap (λ (o : Outcome). o.core.view) step ∙ of-view (lacks_frame c.view h) c s i view ∙ view

-- ---- no word at the pc

module _ (c : Core) (s : Space) where
  no-word : (o : Option ℕ) → None ≡ option_map instr_of o → Trapped trap.FetchOut ≡ word_effect c.view s c.registers c.pc o
  no-word None q = refl
  no-word (Some word) q = absurd (cc)

  none-here : c.view ≡ Shadow → None ≡ option_map instr_of (word_at Shadow s c.pc) → Trapped trap.FetchOut ≡ effect_here c s
  unfolding effect_at
  none-here view q = subst (λ (v : View). Trapped trap.FetchOut ≡ word_effect c.view s c.registers c.pc (word_at v s c.pc)) (sym view) (no-word (word_at Shadow s c.pc) q)

  at-trap : (h : Held) → Stopped (event.Trap trap.FetchOut) h (Trapped trap.FetchOut) c s c s
  at-trap h = record { other = λ q. cc; never = λ q. cc; still = refl; step = refl }

  pub none-comes : (h : Held) (next : Core) → c.view ≡ Shadow → None ≡ option_map instr_of (word_at Shadow s c.pc) → next ≡ c
      → Stopped (event.Trap trap.FetchOut) h (effect_here c s) c s next s
  none-comes h next view q same =
      subst (λ (d : Core). Stopped (event.Trap trap.FetchOut) h (effect_here c s) c s d s) (sym same)
      (subst (λ (e : Effect). Stopped (event.Trap trap.FetchOut) h e c s c s) (none-here view q) (at-trap h))

-- ---- many of them

module _ (c : Core) (s : Space) (n : ℕ) (at : Core) (here : Space) (still : here ≡ s) (passes : Passes c s n at) (h : Held) (next : Core) (there : Space) where
  pub passed-still : Passed h (effect_here at here) at here next there → there ≡ s
  passed-still p = p.still ∙ still

  pub next-Passes : (m : ℕ) → suc n ≡ m → Passed h (effect_here at here) at here next there → Passes c s m next
  next-Passes m is p =
      let q = subst (λ (x : Space). Passed h (effect_here at x) at x next there) still p in
      subst (λ (k : ℕ). Passes c s k next) is (more n at next h passes (subst (λ (x : Space). IsStepOf h event.Done at s next x) q.still q.step) q.quiet)

  pub looked-StepsTo : (most m : ℕ) → suc n ≡ m → n < most → Looked h (effect_here at here) at here next there → ShadowStepsTo most m event.Done c s next there
  looked-StepsTo most m is below p =
      let q = subst (λ (x : Space). Looked h (effect_here at x) at x next there) still p in
      record { passed = n; at = at; passes = passes; ends = inr (inl (omega arith, sym is, refl, record { spare = h; step = q.step; due = q.due })) }

  pub stopped-StepsTo : (most : ℕ) (told : Event) → n < most → Stopped told h (effect_here at here) at here next there → ShadowStepsTo most n told c s next there
  stopped-StepsTo most told below p =
      let q = subst (λ (x : Space). Stopped told h (effect_here at x) at x next there) still p in
      record { passed = n; at = at; passes = passes; ends = inr (inr (below, refl, record { other = q.other; spare = h; step = q.step })) }

pub all-StepsTo : (c : Core) (s : Space) (n most : ℕ) (at next : Core) (there : Space) → n ≡ most → there ≡ s → next ≡ at → Passes c s n at → ShadowStepsTo most most event.Done c s next there
all-StepsTo c s n most at next there over still same passes =
    record { passed = n; at = at; passes = passes; ends = inl (refl, sym over, refl, same, still) }
