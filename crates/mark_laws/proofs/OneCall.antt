-- A call that is no use has the plain run's plan, and leaves a second hart in agreement with it outside the marks.
use Rattle.std.proofs.Common.{◌≡◌, ℕ, zero, suc, ◌+◌, ◌%◌, ◌≤◌, Bool, true, false, not, ◌||◌, ◌==◌, List, [], ◌∷◌, ◌++◌, length, drop, get_or, Option, Some, None, refl, ◌∙◌, ap, sym, subst, arith, IsTrue}
use Rattle.std.specs.Prelude.{unwrap_or}
use Rattle.std.proofs.lemmas.Bool.{or_parts}
use Rattle.std.proofs.lemmas.Bool.Decides.{nat_tests}
use Rattle.std.proofs.lemmas.List.{length-take}
use Rattle.spec_base.specs.Files.{Files}
use Rattle.spec_base.specs.Word.{word_of_int}
use Rattle.spec_base.specs.declared.layout.Layout.{Layout}
use Rattle.spec_base.specs.declared.spot.ReadSpot.{ReadSpot}
use Rattle.rv_decode.specs.declared.instr.Instr.TheVariants.{Ecall}
use Rattle.rv_model.specs.Memory.{Memory, is_within, written, any_from}
use Rattle.rv_model.specs.Rights.{is_data}
use Rattle.rv_model.specs.Registers.{Registers, reg, with_reg}
use Rattle.rv_model.specs.Effect.{after}
use Rattle.rv_model.proofs.Laws.{patched_outside}
use Rattle.program_model.specs.Descriptors.{Descriptors, lowest_free, EFAULT, EINVAL}
use Rattle.program_model.specs.Calls.{CallPlan, Set, Look, Read, Write, Exit, CallKind, Open, OpenAt, Close, Seek, ReadFile, WriteFile, ExitProgram, Break, Unknown, kind_of, Named, Refused, Whole, name_from, name_at, not_empty, look_if_free, open_named, open_plan, plan_by, call_plan, bytes_read}
use Rattle.program_model.specs.PlainRun.{State, plan_of, performed, taken_by, all_taken}
use Rattle.run_model.specs.Restarts.{TakesName, Reads, Other, name_length, name_action, action_by, call_action}
use Rattle.run_model.specs.Marks.{Marks, with_mark, mark_register, mark_bytes, marks_after_call, name_is_marked}
use Rattle.mark_laws.proofs.OneInstruction.{true_false, unmarked-register, Alike, written-alike, completes-as, patched-alike}
use Rattle.mark_laws.specs.Agreement.{SeesAlike, planned, PlanAgrees, is_exit, assumed_answer, assumed_memory, HasAll, CallAgrees, is_read, NameIsNoRead}

-- ---- names

-- where no byte of a stretch passes a test, its first doesn't
any_from-first : (test : ℕ → Bool) (a n : ℕ) → any_from test a (suc n) ≡ false → test a ≡ false
unfolding any_from
any_from-first test a n h = (or_parts (test a) (any_from test (a + 1) n) h).0

-- nor does one of the others
any_from-others : (test : ℕ → Bool) (a n : ℕ) → any_from test a (suc n) ≡ false → any_from test (a + 1) n ≡ false
unfolding any_from
any_from-others test a n h = (or_parts (test a) (any_from test (a + 1) n) h).1

-- what reading a name goes on with at a byte: by whether that is data, and whether it ends the name
abbrev at_byte {ℓ} : {A : Type ℓ} → Bool → Bool → A → A → A → A
at_byte inside ends whole more out = elim inside [ true ↦ elim ends [ true ↦ whole | false ↦ more ] | false ↦ out ]

-- two memories that are alike in a state's data, outside the marks
module _ (data_at marked : ℕ → Bool) (v w : Memory) (alike : (a : ℕ) → IsTrue (data_at a) → marked a ≡ false → v a ≡ w a) where
  -- one byte of a name, where the rest is alike
  byte-alike : (a left : ℕ) (bytes : List ℕ) (inside : Bool) → data_at a ≡ inside
      → (any_from marked (a + 1) (name_length data_at w (a + 1) left) ≡ false → name_from data_at v (a + 1) left (bytes ++ w a ∷ []) ≡ name_from data_at w (a + 1) left (bytes ++ w a ∷ []))
      → any_from marked a (at_byte inside (w a == 0) 1 (suc (name_length data_at w (a + 1) left)) 0) ≡ false
      → at_byte inside (v a == 0) (Whole bytes) (name_from data_at v (a + 1) left (bytes ++ v a ∷ [])) (Refused EFAULT)
      ≡ at_byte inside (w a == 0) (Whole bytes) (name_from data_at w (a + 1) left (bytes ++ w a ∷ [])) (Refused EFAULT)
  byte-alike a left bytes false e more h = refl
  byte-alike a left bytes true e more h =
      let same : v a ≡ w a = alike a e (first (w a == 0) h) in
      subst
      (λ (x : ℕ). at_byte true (x == 0) (Whole bytes) (name_from data_at v (a + 1) left (bytes ++ x ∷ [])) (Refused EFAULT)
      ≡ at_byte true (w a == 0) (Whole bytes) (name_from data_at w (a + 1) left (bytes ++ w a ∷ [])) (Refused EFAULT))
      (sym same) (by_end (w a == 0) h)
    where
      first : (ends : Bool) → any_from marked a (at_byte true ends 1 (suc (name_length data_at w (a + 1) left)) 0) ≡ false → marked a ≡ false
      first true h = any_from-first marked a 0 h
      first false h = any_from-first marked a (name_length data_at w (a + 1) left) h

      by_end : (ends : Bool) → any_from marked a (at_byte true ends 1 (suc (name_length data_at w (a + 1) left)) 0) ≡ false
          → at_byte true ends (Whole bytes) (name_from data_at v (a + 1) left (bytes ++ w a ∷ [])) (Refused EFAULT)
          ≡ at_byte true ends (Whole bytes) (name_from data_at w (a + 1) left (bytes ++ w a ∷ [])) (Refused EFAULT)
      by_end true h = refl
      by_end false h = more (any_from-others marked a (name_length data_at w (a + 1) left) h)

  -- a name of which no byte is marked
  name_from-alike : (a left : ℕ) (bytes : List ℕ) → any_from marked a (name_length data_at w a left) ≡ false → name_from data_at v a left bytes ≡ name_from data_at w a left bytes
  unfolding name_from
  name_from-alike a zero bytes h = refl
  name_from-alike a (suc left) bytes h = byte-alike a left bytes (data_at a) refl (name_from-alike (a + 1) left (bytes ++ w a ∷ [])) h

-- ---- plans

-- the plan of an open, by whether its flags are those of reading
abbrev plan_open : Bool → Descriptors → Named → CallPlan
plan_open reads f name = elim reads [ true ↦ open_named f name | false ↦ Set f EINVAL ]

module _ (l : Layout) (m : Marks) (v : Memory) (q : State) (alike : SeesAlike l m v q) where
  -- a file is opened by the same name
  open-alike : (a flags : ℕ) → name_is_marked m (name_action (flags % 4 == 0) l q a) ≡ false → open_plan (is_data l) v q.files a flags ≡ open_plan (is_data l) q.memory q.files a flags
  open-alike a flags = by_flags (flags % 4 == 0)
    where
      by_flags : (reads : Bool) → name_is_marked m (name_action reads l q a) ≡ false
          → plan_open reads q.files (name_at (is_data l) v a) ≡ plan_open reads q.files (name_at (is_data l) q.memory a)
      by_flags true h = ap (λ (n : Named). open_named q.files (not_empty n)) (name_from-alike (is_data l) m.bytes v q.memory alike.bytes a 256 [] h)
      by_flags false h = refl

  -- each call has the same plan
  plan_by-alike : (kind : CallKind) → let x10 = reg q.registers 10 in let x11 = reg q.registers 11 in let x12 = reg q.registers 12 in
      name_is_marked m (action_by kind l q (plan_by (is_data l) q.memory q.files kind x10 x11 x12)) ≡ false
      → plan_by (is_data l) v q.files kind x10 x11 x12 ≡ plan_by (is_data l) q.memory q.files kind x10 x11 x12
  plan_by-alike Open h = open-alike (reg q.registers 10) (reg q.registers 11) h
  plan_by-alike OpenAt h = open-alike (reg q.registers 11) (reg q.registers 12) h
  plan_by-alike Close h = refl
  plan_by-alike Seek h = refl
  plan_by-alike ReadFile h = refl
  plan_by-alike WriteFile h = refl
  plan_by-alike ExitProgram h = refl
  plan_by-alike Break h = refl
  plan_by-alike Unknown h = refl

-- a call that is no use is planned as the state's
pub plan_agrees : PlanAgrees
plan_agrees l m v f rs q alike h files no_use =
    let uses = or_parts (m.registers 10 || (m.registers 11 || (m.registers 12 || m.registers 17))) (name_is_marked m (call_action l q)) no_use in
    let rest = or_parts (m.registers 10) (m.registers 11 || (m.registers 12 || m.registers 17)) uses.0 in
    let other = or_parts (m.registers 11) (m.registers 12 || m.registers 17) rest.1 in
    let last = or_parts (m.registers 12) (m.registers 17) other.1 in
    let e10 = unmarked-register m rs q h 10 (omega arith) rest.0 in
    let e11 = unmarked-register m rs q h 11 (omega arith) other.0 in
    let e12 = unmarked-register m rs q h 12 (omega arith) last.0 in
    let e17 = unmarked-register m rs q h 17 (omega arith) last.1 in
    let same : planned l v f rs ≡ planned l v q.files q.registers = (λ i. call_plan (is_data l) v (files i) (e17 i) (e10 i) (e11 i) (e12 i)) in
    same ∙ plan_by-alike l m v q alike (kind_of (reg q.registers 17)) uses.1

-- ---- which calls read

-- whether a call opens a file
abbrev pub is_open : CallKind → Bool
is_open Open = true
is_open OpenAt = true
is_open _ = false

-- what an open does by its name is no read
open_named-is_read : (f : Descriptors) (name : Named) → is_read (open_named f name) ≡ false
open_named-is_read f (Refused answer) = refl
open_named-is_read f (Whole name) = by_free (lowest_free f.slots 0)
  where
    by_free : (free : Option ℕ) → is_read (look_if_free f name free) ≡ false
    by_free None = refl
    by_free (Some d) = refl

-- nor is an open
open_plan-is_read : (data_at : ℕ → Bool) (w : Memory) (f : Descriptors) (a flags : ℕ) → is_read (open_plan data_at w f a flags) ≡ false
open_plan-is_read data_at w f a flags = by_flags (flags % 4 == 0)
  where
    by_flags : (reads : Bool) → is_read (plan_open reads f (name_at data_at w a)) ≡ false
    by_flags true = open_named-is_read f (name_at data_at w a)
    by_flags false = refl

-- so a call that opens has no read
pub plan_by-is_read : (kind : CallKind) → is_open kind ≡ true → (data_at : ℕ → Bool) (w : Memory) (f : Descriptors) (x10 x11 x12 : ℕ) → is_read (plan_by data_at w f kind x10 x11 x12) ≡ false
plan_by-is_read Open o data_at w f x10 x11 x12 = open_plan-is_read data_at w f x10 x11
plan_by-is_read OpenAt o data_at w f x10 x11 x12 = open_plan-is_read data_at w f x11 x12
plan_by-is_read kind o data_at w f x10 x11 x12 = true_false (sym o)

-- and only such a call takes a name
name-opens : (l : Layout) (q : State) (kind : CallKind) (plan : CallPlan) (a n : ℕ) → action_by kind l q plan ≡ TakesName a n → is_open kind ≡ true
name-opens l q Open plan a n e = refl
name-opens l q OpenAt plan a n e = refl
name-opens l q kind (Read d spot b) a n e = absurd (no e)
  where
    no : Reads spot b ≡ TakesName a n → ⊥
    no e = cc
name-opens l q kind plan a n e = absurd (no e)
  where
    no : Other ≡ TakesName a n → ⊥
    no e = cc

-- so the plans of a call that takes a name are no reads, neither the state's nor the hart's
pub name_is_no_read : NameIsNoRead
name_is_no_read l m v f rs q a n h unmarked e =
    let opens : is_open (kind_of (reg q.registers 17)) ≡ true = name-opens l q (kind_of (reg q.registers 17)) (plan_of l q) a n e in
    let same : kind_of (reg q.registers 17) ≡ kind_of (reg rs 17) = ap kind_of (sym (unmarked-register m rs q h 17 (omega arith) unmarked)) in (
      plan_by-is_read (kind_of (reg q.registers 17)) opens (is_data l) q.memory q.files (reg q.registers 10) (reg q.registers 11) (reg q.registers 12),
      plan_by-is_read (kind_of (reg rs 17)) (subst (λ (kind : CallKind). is_open kind ≡ true) same opens) (is_data l) v f (reg rs 10) (reg rs 11) (reg rs 12),
    )

-- ---- the marks behind a call

-- by its plan
abbrev marks_of_plan : Bool → Marks → CallPlan → Marks
marks_of_plan filled m (Read d spot a) = mark_register (mark_bytes m a spot.count (not filled)) 10 false
marks_of_plan filled m _ = mark_register m 10 false

-- where it is no read
marks-no_read : (filled : Bool) (m : Marks) (plan : CallPlan) → is_read plan ≡ false → marks_of_plan filled m plan ≡ mark_register m 10 false
marks-no_read filled m (Read d spot a) e = true_false e
marks-no_read filled m plan e = refl

-- of registers it clears x10 alone
marks-registers : (filled : Bool) (m : Marks) (plan : CallPlan) → (marks_of_plan filled m plan).registers ≡ with_mark m.registers 10 false
marks-registers filled m (Read d spot a) = refl
marks-registers filled m plan = refl

module _ (filled : Bool) (m : Marks) (l : Layout) (q : State) where
  -- a name marks nothing
  name_action-marks : (reads : Bool) (a : ℕ) → marks_after_call filled m (name_action reads l q a) ≡ mark_register m 10 false
  name_action-marks true a = refl
  name_action-marks false a = refl

  -- a call that opens nothing
  other-marks : (kind : CallKind) → is_open kind ≡ false → (plan : CallPlan) → marks_after_call filled m (action_by kind l q plan) ≡ marks_of_plan filled m plan
  other-marks Open o plan = true_false o
  other-marks OpenAt o plan = true_false o
  other-marks kind o (Read d spot a) = refl
  other-marks kind o plan = refl

  -- each call
  kind-marks : (kind : CallKind) → let plan = plan_by (is_data l) q.memory q.files kind (reg q.registers 10) (reg q.registers 11) (reg q.registers 12) in
      marks_after_call filled m (action_by kind l q plan) ≡ marks_of_plan filled m plan
  kind-marks Open =
      name_action-marks (reg q.registers 11 % 4 == 0) (reg q.registers 10)
      ∙ sym (marks-no_read filled m _ (open_plan-is_read (is_data l) q.memory q.files (reg q.registers 10) (reg q.registers 11)))
  kind-marks OpenAt =
      name_action-marks (reg q.registers 12 % 4 == 0) (reg q.registers 11)
      ∙ sym (marks-no_read filled m _ (open_plan-is_read (is_data l) q.memory q.files (reg q.registers 11) (reg q.registers 12)))
  kind-marks Close = other-marks Close refl _
  kind-marks Seek = other-marks Seek refl _
  kind-marks ReadFile = other-marks ReadFile refl _
  kind-marks WriteFile = other-marks WriteFile refl _
  kind-marks ExitProgram = refl
  kind-marks Break = other-marks Break refl _
  kind-marks Unknown = refl

  -- the call that a state makes
  plan-marks : marks_after_call filled m (call_action l q) ≡ marks_of_plan filled m (plan_of l q)
  plan-marks = kind-marks (kind_of (reg q.registers 17))

-- ---- performed calls

-- a call is performed as its answer says
record IsAnswered (files : Files) (plan : CallPlan) (q s : State) : Type 0 where
  pc : s.pc ≡ after q.pc
  memory : s.memory ≡ assumed_memory true files q.memory plan
  descriptors : s.files ≡ (assumed_answer files q.files plan).0
  registers : s.registers ≡ with_reg q.registers 10 (word_of_int (assumed_answer files q.files plan).1)
  exited : s.exited ≡ q.exited

-- each that doesn't end the program
performed-answered : (files : Files) (plan : CallPlan) (q : State) → is_exit plan ≡ false → IsAnswered files plan q (performed files (taken_by all_taken plan q) plan q)
performed-answered files (Set f answer) q e = record { pc = refl; memory = refl; descriptors = refl; registers = refl; exited = refl }
performed-answered files (Look name) q e = record { pc = refl; memory = refl; descriptors = refl; registers = refl; exited = refl }
performed-answered files (Read d spot a) q e = record { pc = refl; memory = refl; descriptors = refl; registers = refl; exited = refl }
performed-answered files (Write true a n) q e = record { pc = refl; memory = refl; descriptors = refl; registers = refl; exited = refl }
performed-answered files (Write false a n) q e = record { pc = refl; memory = refl; descriptors = refl; registers = refl; exited = refl }
performed-answered files (Exit code) q e = true_false e

-- a file gives no more than is asked for
length-bytes_read : (files : Files) (spot : ReadSpot) → length (bytes_read files spot) ≤ spot.count
length-bytes_read files spot = omega (arith, length-take spot.count (drop spot.offset (unwrap_or (files spot.name) [])))

-- what isn't among the bytes that a read may write stays
written-beyond : (files : Files) (spot : ReadSpot) (w : Memory) (a x : ℕ) → is_within a spot.count x ≡ false → written w a (bytes_read files spot) x ≡ w x
written-beyond files spot w a x e =
    let most : length (bytes_read files spot) ≤ spot.count = length-bytes_read files spot in
    patched_outside w a (length (bytes_read files spot)) (λ i. get_or (bytes_read files spot) i 0) x (λ above below. grind (arith, nat_tests))

-- what is seen of a byte that isn't marked
view-alike : (filled : Bool) (files : Files) (plan : CallPlan) (m : Marks) (v w : Memory) (x : ℕ) → (filled ≡ true → HasAll files plan) → (m.bytes x ≡ false → v x ≡ w x)
    → (marks_of_plan filled m plan).bytes x ≡ false → assumed_memory filled files v plan x ≡ assumed_memory true files w plan x
view-alike true files (Read d spot a) m v w x all alike u =
    let bytes : List ℕ = bytes_read files spot in
    patched-alike v w a (length bytes) (λ i. get_or bytes i 0) (λ i. get_or bytes i 0) false m.bytes x (λ unmarked. refl) alike
    (subst (λ (n : ℕ). elim (is_within a n x) [ true ↦ false | false ↦ m.bytes x ] ≡ false) (sym (all refl d spot a refl)) u)
view-alike false files (Read d spot a) m v w x all alike u = by_test (is_within a spot.count x) refl u
  where
    by_test : (b : Bool) → is_within a spot.count x ≡ b → elim b [ true ↦ true | false ↦ m.bytes x ] ≡ false → v x ≡ written w a (bytes_read files spot) x
    by_test true e u = true_false u
    by_test false e u = alike u ∙ sym (written-beyond files spot w a x e)
view-alike true files plan m v w x all alike u = alike u
view-alike false files plan m v w x all alike u = alike u

-- a call keeps agreement
pub call_agrees : CallAgrees
call_agrees p files filled m q rs v new at goes_on h alike all sees =
    let plan : CallPlan = plan_of p.layout q in
    let behind : State = performed files (taken_by all_taken plan q) plan q in
    let is : IsAnswered files plan q behind = performed-answered files plan q goes_on in
    let answer : ℕ = word_of_int (assumed_answer files q.files plan).1 in
    let marks : marks_after_call filled m (call_action p.layout q) ≡ marks_of_plan filled m plan = plan-marks filled m p.layout q in
    let cleared : (marks_after_call filled m (call_action p.layout q)).registers ≡ with_mark m.registers 10 false = ap (λ (n : Marks). n.registers) marks ∙ marks-registers filled m plan in
    let registers : Alike (with_mark m.registers 10 false) (with_reg rs 10 answer) (with_reg q.registers 10 answer) = written-alike m rs q h 10 false answer answer (λ unmarked. refl) in
    record {
      leads =
          record {
            state = behind;
            completes = completes-as p files q Ecall at;
            pc = is.pc;
            memory = is.memory;
            descriptors = is.descriptors;
            goes_on = is.exited ∙ at.goes_on;
            agrees =
                record {
                  registers = λ i above below u. registers.at i above below (sym (ap (λ (marked : ℕ → Bool). marked i) cleared) ∙ u) ∙ ap (λ (qs : Registers). qs i) (sym is.registers);
                };
          };
      performs = refl;
      sees =
          record {
            bytes = λ x inside u.
                sees x inside
                ∙ (view-alike filled files plan m v q.memory x all (alike.bytes x inside) (sym (ap (λ (n : Marks). n.bytes x) marks) ∙ u) ∙ ap (λ (w : Memory). w x) (sym is.memory));
          };
    }
