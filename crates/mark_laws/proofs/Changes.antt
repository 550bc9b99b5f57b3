-- What the instructions of the run from the restart change: each leaves the other bytes, and what one has changed is marked or settled.
use Rattle.std.proofs.Common.{◌≡◌, ℕ, zero, suc, ◌-◌, ◌%◌, ◌≤◌, ◌<◌, ◌⊎◌, inl, inr, Bool, true, false, not, ◌&&◌, ◌||◌, List, [], length, drop, Option, Some, None, refl, ◌∙◌, ap, sym, subst, arith, ◌==◌}
use Rattle.std.specs.Prelude.{⊤, unwrap_or}
use Rattle.std.specs.Option.{option_and_then}
use Rattle.std.proofs.lemmas.Bool.{cases_lt}
use Rattle.std.proofs.lemmas.Bool.Decides.{nat_tests}
use Rattle.std.proofs.lemmas.List.{length-take}
use Rattle.spec_base.specs.Listed.{is_listed}
use Rattle.spec_base.specs.Word.{plus_int}
use Rattle.spec_base.specs.Files.{Name, Files}
use Rattle.spec_base.specs.declared.layout.Layout.{Layout}
use Rattle.spec_base.specs.declared.machine.View.TheVariants.{Plain}
use Rattle.rv_decode.specs.declared.instr.Instr.{Instr}
use Rattle.rv_decode.specs.declared.instr.Instr.TheVariants.{Jal, Jalr, Branch, Load, Store, Ecall}
use Rattle.rv_decode.specs.declared.instr.LoadOp.{LoadOp}
use Rattle.rv_model.specs.Memory.{Memory, patched, is_within}
use Rattle.rv_model.specs.Registers.{Registers, reg}
use Rattle.rv_model.specs.Rights.{data_rights, is_data}
use Rattle.rv_model.specs.Arithmetic.{is_taken, store_width}
use Rattle.rv_model.specs.Effect.{Effect, Next, Stored, Trapped, Called, Gated, effect, jump_if, branch_if, load_if, store_if}
use Rattle.program_model.specs.Descriptors.{Descriptors}
use Rattle.program_model.specs.Calls.{CallPlan, Set, Look, Read, Write, Exit, CallKind, Open, OpenAt, kind_of, Named, Refused, Whole, name_at, look_if_free, open_named, plan_by, bytes_read}
use Rattle.program_model.specs.Descriptors.{lowest_free, EINVAL}
use Rattle.program_model.specs.PlainRun.{State, Image, Taken, Step, Went, Traps, plan_of, performed, taken_by, after_effect, at_word, next, completed, next_unless, next_state, state_after, all_taken}
use Rattle.run_model.specs.Run.{World, Run}
use Rattle.run_model.specs.Restarts.{Action, Loads, Stores, Reads, TakesName, Other, action_by, call_action, instr_action, instr_at, state_action, some_action, action, from_restart}
use Rattle.run_model.specs.Marks.{Marks, marks_after_call, marks_after, marks_after_some, marks_with}
use Rattle.mark_laws.specs.Settled.{changes, settles, settled_with, OthersAreLeft, ChangesAreCovered}

-- ---- calls

-- what opens a file is no read
abbrev Suits : CallKind → CallPlan → Type 0
Suits Open (Read d spot a) = ⊥
Suits OpenAt (Read d spot a) = ⊥
Suits _ _ = ⊤

-- the same as a record, from which k and c are found
record Suiting (k : CallKind) (c : CallPlan) : Type 0 where
  by : Suits k c

-- a look, or a refusal
look_suits : (f : Descriptors) (name : Name) (o : Option ℕ) → Suits Open (look_if_free f name o) × Suits OpenAt (look_if_free f name o)
look_suits f name None = (tt, tt)
look_suits f name (Some d) = (tt, tt)

-- by what reading the name gave
named_suits : (f : Descriptors) (n : Named) → Suits Open (open_named f n) × Suits OpenAt (open_named f n)
named_suits f (Refused answer) = (tt, tt)
named_suits f (Whole name) = look_suits f name (lowest_free f.slots 0)

-- by the flags
open_suits :
    (b : Bool) (f : Descriptors) (n : Named) →
    Suits Open (elim b [ true ↦ open_named f n | false ↦ Set f EINVAL ]) × Suits OpenAt (elim b [ true ↦ open_named f n | false ↦ Set f EINVAL ])
open_suits true f n = named_suits f n
open_suits false f n = (tt, tt)

-- each plan suits its call
plan_suits : (data_at : ℕ → Bool) (m : Memory) (f : Descriptors) (k : CallKind) (x10 x11 x12 : ℕ) → Suiting k (plan_by data_at m f k x10 x11 x12)
plan_suits data_at m f Open x10 x11 x12 = record { by = (open_suits (x11 % 4 == 0) f (name_at data_at m x10)).0 }
plan_suits data_at m f OpenAt x10 x11 x12 = record { by = (open_suits (x12 % 4 == 0) f (name_at data_at m x11)).1 }
plan_suits data_at m f _ x10 x11 x12 = record { by = tt }

-- bytes that are written leave those outside of as many and more
written_leaves : (m : Memory) (a n count : ℕ) (f : Memory) (x : ℕ) → n ≤ count → is_within a count x ≡ false → patched m a n f x ≡ m x
unfolding patched
written_leaves m a n count f x few out = by_test (is_within a n x) (grind (arith, nat_tests))
  where
    by_test : (b : Bool) → b ≡ false → elim b [ true ↦ f (x - a) | false ↦ m x ] ≡ m x
    by_test true e = cc
    by_test false e = refl

module _ (files : Files) (l : Layout) (s : State) (x : ℕ) where
  -- a call leaves the bytes outside of what it reads
  performed_leaves :
      (taken : ℕ) (k : CallKind) (c : CallPlan) → Suiting k c → changes (action_by k l s c) x ≡ false → (performed files taken c s).memory x ≡ s.memory x
  performed_leaves taken k (Set f answer) z h = refl
  performed_leaves taken k (Look name) z h = refl
  performed_leaves taken k (Write true a n) z h = refl
  performed_leaves taken k (Write false a n) z h = refl
  performed_leaves taken k (Exit code) z h = refl
  performed_leaves taken k (Read d spot a) z h =
      written_leaves s.memory a (length (bytes_read files spot)) spot.count _ x (omega (arith, length-take spot.count (drop spot.offset (unwrap_or (files spot.name) [])))) (outside k z h)
    where
      outside : (k : CallKind) → Suiting k (Read d spot a) → changes (action_by k l s (Read d spot a)) x ≡ false → is_within a spot.count x ≡ false
      outside Open z h = absurd z.by
      outside OpenAt z h = absurd z.by
      outside _ z h = h

  -- ---- one instruction

  -- an effect leaves the byte
  abbrev LeftIn : Effect → Type 0
  LeftIn (Stored a width v) = is_within a width x ≡ false
  LeftIn Called = changes (call_action l s) x ≡ false
  LeftIn (Next rs pc) = ⊤
  LeftIn (Trapped cause) = ⊤
  LeftIn (Gated i) = ⊤

  -- the same as a record, from which the effect is found
  record Left (e : Effect) : Type 0 where
    by : LeftIn e

  -- a jump does
  jump_if-left : (b : Bool) (rs : Registers) (target : ℕ) → Left (jump_if b rs target)
  jump_if-left true rs target = record { by = tt }
  jump_if-left false rs target = record { by = tt }

  -- a branch does
  branch_if-left : (b : Bool) (rs : Registers) (pc target : ℕ) → Left (branch_if b rs pc target)
  branch_if-left true rs pc target = jump_if-left (target % 4 == 0) rs target
  branch_if-left false rs pc target = record { by = tt }

  -- a load does
  load_if-left : (y z : Bool) (m : Memory) (op : LoadOp) (rs : Registers) (pc rd a : ℕ) → Left (load_if y z m op rs pc rd a)
  load_if-left false z m op rs pc rd a = record { by = tt }
  load_if-left true false m op rs pc rd a = record { by = tt }
  load_if-left true true m op rs pc rd a = record { by = tt }

  -- a store to other bytes does
  store_if-left : (y z : Bool) (a width v : ℕ) → is_within a width x ≡ false → Left (store_if y z a width v)
  store_if-left false z a width v h = record { by = tt }
  store_if-left true false a width v h = record { by = tt }
  store_if-left true true a width v h = record { by = h }

  -- what an instruction doesn't change its effect leaves
  effect-left : (i : Instr) → changes (instr_action l s (Some i)) x ≡ false → Left (effect Plain (data_rights l) s.memory s.registers s.pc i)
  effect-left (Jal rd imm) h = jump_if-left _ _ _
  effect-left (Jalr rd rs1 imm) h = jump_if-left _ _ _
  effect-left (Branch op rs1 rs2 imm) h = branch_if-left (is_taken op (reg s.registers rs1) (reg s.registers rs2)) s.registers s.pc _
  effect-left (Load op rd rs1 imm) h = load_if-left _ _ s.memory op s.registers s.pc rd _
  effect-left (Store op rs1 rs2 imm) h = store_if-left _ _ _ _ _ h
  effect-left Ecall h = record { by = h }
  effect-left _ h = record { by = tt }

  -- ---- one step

  -- a step leaves the byte, if it leads to a state
  abbrev SameByte : Step → Type 0
  SameByte (Went t) = t.memory x ≡ s.memory x
  SameByte (Traps cause) = ⊤

  -- and so does a state, if there is one
  abbrev SameByteIn : Option State → Type 0
  SameByteIn (Some t) = t.memory x ≡ s.memory x
  SameByteIn None = ⊤

  -- the completed step does where the step does
  completed-same : (step : Step) → SameByte step → SameByteIn (completed step)
  completed-same (Went t) h = h
  completed-same (Traps cause) h = tt

module _ (p : Image) (files : Files) (t : Taken) (s : State) (x : ℕ) where
  -- by the effect
  after_effect-same : (e : Effect) → Left files p.layout s x e → SameByte files p.layout s x (after_effect p files t s e)
  after_effect-same (Next rs pc) h = refl
  after_effect-same (Stored a width v) h = written_leaves s.memory a width width _ x (omega arith) h.by
  after_effect-same (Trapped cause) h = tt
  after_effect-same Called h =
      performed_leaves files p.layout s x (taken_by t (plan_of p.layout s) s) (kind_of (reg s.registers 17)) (plan_of p.layout s)
      (plan_suits (is_data p.layout) s.memory s.files (kind_of (reg s.registers 17)) _ _ _) h.by
  after_effect-same (Gated i) h = tt

  -- by the instruction
  at_word-same : (o : Option Instr) → changes (instr_action p.layout s o) x ≡ false → SameByte files p.layout s x (at_word p files t s o)
  at_word-same None h = tt
  at_word-same (Some i) h = after_effect-same _ (effect-left files p.layout s x i h)

  -- a step leaves what its instruction doesn't change
  next-same : (exited : Option ℕ) → changes (state_action p s) x ≡ false → SameByteIn files p.layout s x (next_unless exited p files t s)
  next-same (Some code) h = tt
  next-same None h = completed-same files p.layout s x (next p files t s) (at_word-same (instr_at p s) h)

-- the next state of the run from the restart
pub from_restart-next : (w : World) (r : Run) (j : ℕ) → from_restart w r (suc j) ≡ option_and_then (next_state w.image w.files all_taken) (from_restart w r j)
unfolding state_after
from_restart-next w r j = by_origin r.since.origin
  where
    by_origin :
        (o : Option State) →
        option_and_then (λ (s : State). state_after w.image w.files all_taken s (suc j)) o
        ≡ option_and_then (next_state w.image w.files all_taken) (option_and_then (λ (s : State). state_after w.image w.files all_taken s j) o)
    by_origin None = refl
    by_origin (Some s) = refl

-- an instruction leaves each byte that it doesn't change
pub others_are_left : OthersAreLeft
others_are_left w r j x q next at_q at_next h =
    subst (λ (o : Option State). SameByteIn w.files w.image.layout q x o)
    (ap (option_and_then (next_state w.image w.files all_taken)) (sym at_q) ∙ (sym (from_restart-next w r j) ∙ at_next))
    (next-same w.image w.files all_taken q x q.exited (subst (λ (o : Option State). changes (some_action w.image o) x ≡ false) at_q h))

-- ---- what was changed is marked or settled

-- bits that stay, or are put
stays : (b marked before : Bool) → (before || b) ≡ true → (elim b [ true ↦ marked | false ↦ before ] || b) ≡ true
stays true true before h = refl
stays true false before h = refl
stays false marked before h = h

-- and those of a read, filled or not
read_stays : (b filled before : Bool) → (before || b) ≡ true → (elim b [ true ↦ not filled | false ↦ before ] || (b && filled)) ≡ true
read_stays true true before h = refl
read_stays true false before h = refl
read_stays false filled before h = h

module _ (l : Layout) (s : State) (x : ℕ) (filled : Bool) (m : Marks) where
  -- what a call changes it marks or settles, and what was marked stays so or is settled
  call_covers : (act : Action) → (m.bytes x || changes act x) ≡ true → ((marks_after_call filled m act).bytes x || settles act filled x) ≡ true
  call_covers (Reads spot a) h = read_stays (is_within a spot.count x) filled (m.bytes x) h
  call_covers (Stores a width) h = h
  call_covers (Loads a width) h = h
  call_covers (TakesName a n) h = h
  call_covers Other h = h

  -- so does each instruction
  instr_covers :
      (o : Option Instr) → (m.bytes x || changes (instr_action l s o) x) ≡ true →
      ((marks_after l filled s o m).bytes x || settles (instr_action l s o) filled x) ≡ true
  instr_covers (Some (Store op rs1 rs2 imm)) h =
      stays (is_within (plus_int (reg s.registers rs1) imm) (store_width op) x) (m.registers rs2) (m.bytes x) h
  instr_covers (Some Ecall) h = call_covers (call_action l s) h
  instr_covers _ h = h

-- and the instruction of a state, if there is one
some_covers :
    (p : Image) (x : ℕ) (filled : Bool) (m : Marks) (o : Option State) → (m.bytes x || changes (some_action p o) x) ≡ true →
    ((marks_after_some p filled o m).bytes x || settles (some_action p o) filled x) ≡ true
some_covers p x filled m None h = h
some_covers p x filled m (Some s) h = instr_covers p.layout s x filled m (instr_at p s) h

-- with what was settled before
with_settled :
    (settled marked now change settle : Bool) → ((marked || change) ≡ true → (now || settle) ≡ true) → (marked || (settled || change)) ≡ true →
    (now || (settled || settle)) ≡ true
with_settled true marked true change settle f h = refl
with_settled true marked false change settle f h = refl
with_settled false marked now change settle f h = f h

-- the last of three holds
at_last : (a b c : Bool) → c ≡ true → (a || (b || c)) ≡ true
at_last true b c h = refl
at_last false true c h = refl
at_last false false c h = h

-- one of two holds already
already : (a b c : Bool) → (a || b) ≡ true → (a || (b || c)) ≡ true
already true b c h = refl
already false true c h = refl
already false false true h = refl
already false false false h = h

-- one of two that hold
one_of : (a b : Bool) → (a || b) ≡ true → (a ≡ true) ⊎ (b ≡ true)
one_of true b h = inl refl
one_of false b h = inr h

module _ (w : World) (r : Run) (numbers : List ℕ) (x : ℕ) where
  -- the byte is marked or settled after i instructions
  covers : ℕ → Bool
  covers i = (marks_with numbers w r i).bytes x || settled_with numbers w r i x

  -- what was so before instruction i + 1, or is changed by it, is so behind it
  covers-more : (i : ℕ) → ((marks_with numbers w r i).bytes x || (settled_with numbers w r i x || changes (action w r (suc i)) x)) ≡ true → covers (suc i) ≡ true
  unfolding covers marks_with settled_with
  covers-more i h =
      let filled : Bool = is_listed numbers (suc i) in
      let before : Marks = marks_with numbers w r i in
      with_settled (settled_with numbers w r i x) (before.bytes x) _ _ _ (some_covers w.image x filled before (from_restart w r i)) h

  -- what has been changed is
  covers-changed : (i j : ℕ) → j < i → changes (action w r (suc j)) x ≡ true → covers i ≡ true
  unfolding covers
  covers-changed zero j l h = absurd (omega arith)
  covers-changed (suc i) j l h = by_case (cases_lt j i) (λ below. covers-changed i j below h)
    where
      by_case : (j < i) ⊎ (i ≤ j) → (j < i → covers i ≡ true) → covers (suc i) ≡ true
      by_case (inl below) earlier = covers-more i (already ((marks_with numbers w r i).bytes x) (settled_with numbers w r i x) _ (earlier below))
      by_case (inr above) earlier =
          let same : j ≡ i = omega arith in
          covers-more i (at_last ((marks_with numbers w r i).bytes x) (settled_with numbers w r i x) _ (subst (λ n. changes (action w r (suc n)) x ≡ true) same h))

-- as marked, or as settled
pub changes_are_covered : ChangesAreCovered
unfolding covers
changes_are_covered w r numbers i j x l h = one_of _ _ (covers-changed w r numbers x i j l h)
