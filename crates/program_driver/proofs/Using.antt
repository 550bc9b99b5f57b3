-- What is kept along a trace to tell uses is kept by each move.
use Rattle.std.proofs.Common.{◌≡◌, ◌⊎◌, inl, inr, ℕ, suc, ◌+◌, ◌<◌, ◌≤◌, Bool, true, false, not, ◌&&◌, ◌||◌, ◌==◌, List, [], ◌∷◌, ◌++◌, Option, Some, length, drop, get_or, refl, ap, sym, ◌∙◌, subst, arith, nat_lt}
use Rattle.std.specs.Prelude.{◌≢◌, IsTrue, IfSome, Result, cond}
use Rattle.std.specs.BTreeSet.{BTreeSet, contains, Updates}
use Rattle.std.specs.Ordering.{nat_cmp, is_eq}
use Rattle.std.specs.declared.cmp.Ordering.TheVariants.{Less, Equal, Greater}
use Rattle.mark_laws.proofs.Numbers.{is_listed-append}
use Rattle.std.proofs.lemmas.Bool.Decides.{nat_tests}
use Rattle.std.proofs.lemmas.List.{drop_all}
use Rattle.spec_base.specs.Listed.{is_listed}
use Rattle.spec_base.specs.declared.note.Move.{Move}
use Rattle.spec_base.specs.declared.note.Move.TheVariants.{O}
use Rattle.spec_base.specs.declared.note.Note.{Note}
use Rattle.spec_base.specs.declared.note.Note.TheVariants.{Fill}
use Rattle.rv_decode.specs.declared.instr.Instr.{Instr}
use Rattle.rv_model.specs.Registers.{reg}
use Rattle.rv_model.specs.Rights.{is_data}
use Rattle.rv_model.specs.Data.{data_in}
use Rattle.program_model.specs.PlainRun.{State}
use Rattle.run_model.specs.Run.{World, Run, Answer}
use Rattle.run_model.specs.Moves.{Moves, step, run, run_from}
use Rattle.run_model.specs.Restarts.{instr_action}
use Rattle.run_model.specs.Marks.{Marks, no_marks, marks_after, is_use}
use Rattle.run_laws.specs.OwnLaws.{Accepted}
use Rattle.machine_laws.specs.OneMachine.{space_of_run}
use Rattle.word_laws.specs.Shown.{own_core}
use Rattle.hart_mem.specs.Held.{Held, space_of, data_byte}
use Rattle.hart_mem.proofs.DataBytes.{data-is, memory-is, zero_off_data}
use Rattle.hart_step.specs.Core.{Core}
use Rattle.use_marks.specs.Along.{AreMarksOf, Completes, numbers_of, numbers_from, numbers_then, numbers_by, completes_first_use, is_first_use, has_completed, has_restarted, own_instr, filled_by, tells_fill}
use Rattle.use_marks.specs.Passing.{Sees, read_mark, touches_data, changed, ChangeFits}
use Rattle.use_marks.specs.declared.passage.Passage.{Passage}
use Rattle.use_marks.specs.declared.read_mark.ReadMark.{ReadMark}
use Rattle.use_marks.proofs.Completing.{completes-next}
use Rattle.use_marks.proofs.Moved.{others-complete-nothing, same-count}
use Rattle.use_marks.proofs.Along.{PassesMarks, start-marks, quiet-marks, restart-marks, completed-marks, others-complete-none, notes-tell-fills, numbers-snoc}
use Rattle.move_requests.proofs.Snoc.{moves_add_up}
use Rattle.use_marks.specs.Marked.{marks_of}
use Rattle.program_driver.specs.declared.uses.UseTrace.{UseTrace}
use Rattle.program_driver.specs.declared.uses.Ahead.{Ahead}
use Rattle.program_driver.specs.Uses.{KeepsUses, HasUses, IsAhead, Does, Stands, use_line_if, is_fill}
use Rattle.program_driver.specs.Lines.{LinesTo}
use Rattle.program_driver.specs.Traces.{move_lines, last_lines}
use Rattle.program_driver.specs.declared.lines.LineFault.{LineFault}
use Rattle.world_io.specs.Outside.{SinkState}
use Rattle.runner.specs.Shows.{Shows}
use Rattle.runner.specs.declared.runner.Runner.{Runner}
use Rattle.program_driver.proofs.Lining.{note-at}

-- ---- tests

both-true : (a b : Bool) → a ≡ true → b ≡ true → (a && b) ≡ true
both-true true true e f = refl
both-true false b e f = absurd (let g : false ≡ true = e in cc)
both-true true false e f = absurd (let g : false ≡ true = f in cc)

none-true : (a b c d : Bool) → (b && c) ≡ false → (a && (b && (c && d))) ≡ false
none-true false b c d e = refl
none-true true false c d e = refl
none-true true true false d e = refl
none-true true true true d e = absurd (let g : true ≡ false = e in cc)

-- ---- notes

pub fill-or : (n : Note) (ns : List Note) → tells_fill (n ∷ ns) ≡ (is_fill n || tells_fill ns)
fill-or (Fill spot) ns = refl
fill-or _ ns = refl

-- the note at a place, and those behind it
pub fill-at : (notes : List Note) (i : ℕ) (note : Note) → i < length notes → note ≡ get_or notes i note → tells_fill (drop i notes) ≡ (is_fill note || tells_fill (drop (i + 1) notes))
fill-at notes i note in_list is = ap tells_fill (note-at notes i note in_list is) ∙ fill-or note (drop (i + 1) notes)

pub no-fill : (notes : List Note) (i : ℕ) → length notes ≤ i → tells_fill (drop i notes) ≡ false
no-fill notes i all = ap tells_fill (drop_all i notes all)

-- ---- counts

pub not-more : (a b c d : ℕ) → a ≤ b → b ≡ c → a ≡ d → nat_lt c d ≡ false
not-more a b c d h e f = grind (arith, nat_tests, h, e, f)

pub more : (a b c d : ℕ) → b < a → b ≡ c → a ≡ d → nat_lt c d ≡ true
more a b c d h e f = grind (arith, nat_tests, h, e, f)

-- ---- where the run from a restart isn't followed

pub no-restart : (n a : ℕ) (b : Bool) → a ≡ 0 → a ≡ n → (nat_lt 0 n && b) ≡ false
no-restart n a b none is = ap (λ t. t && b) (let e : nat_lt 0 n ≡ false = grind (arith, nat_tests, none, is) in e)

pub cut-short : (n : ℕ) (a b : Bool) → a ≡ false → a ≡ b → (nat_lt 0 n && b) ≡ false
cut-short n a b none is = by (nat_lt 0 n) b (sym is ∙ none)
  where
    by : (t b : Bool) → b ≡ false → (t && b) ≡ false
    by true b e = e
    by false b e = refl

-- ---- the set of fills

one-more : (a e f b : Bool) → (a ≡ true → e ≡ false) → e ≡ f → cond (is_eq (cond a Less (cond e Equal Greater))) true b ≡ (b || f)
one-more true true f b h is = absurd (let g : true ≡ false = h refl in cc)
one-more true false f b h is = last b f is
  where
    last : (b f : Bool) → false ≡ f → b ≡ (b || f)
    last true f e = refl
    last false f e = e
one-more false true f b h is = last b f is
  where
    last : (b f : Bool) → true ≡ f → true ≡ (b || f)
    last true f e = refl
    last false f e = e
one-more false false f b h is = last b f is
  where
    last : (b f : Bool) → false ≡ f → b ≡ (b || f)
    last true f e = refl
    last false f e = e

same-test : (k n : ℕ) → (k == n) ≡ (k + 1 == suc n)
same-test k n = grind (arith, nat_tests)

less-test : (k n : ℕ) → nat_lt k n ≡ true → (k == n) ≡ false
less-test k n h = grind (arith, nat_tests, h)

pub fill-more : (old new : BTreeSet ℕ) (filled : List ℕ) (k shadow : ℕ) → k ≡ shadow → Updates nat_cmp old new k true
    → ((n : ℕ) → contains nat_cmp old n ≡ is_listed filled (suc n)) → (n : ℕ) → contains nat_cmp new n ≡ is_listed (filled ++ (shadow + 1) ∷ []) (suc n)
fill-more old new filled k shadow is updates keeps n =
    updates.0 n ∙ one-more (nat_lt k n) (k == n) (k + 1 == suc n) (contains nat_cmp old n) (less-test k n) (same-test k n)
    ∙ ap (λ b. b || (k + 1 == suc n)) (keeps n) ∙ sym (is_listed-append filled (k + 1) (suc n)) ∙ ap (λ j. is_listed (filled ++ (j + 1) ∷ []) (suc n)) is

-- ---- a move

module _ (w : World) (ms : Moves) (m : Move) (x : Answer) (marks : Marks) (unused : Bool) (are : AreMarksOf w (run w ms) (numbers_of w ms) marks unused) where
  abbrev r : Run
  r = run w ms

  abbrev next : Run
  next = step w (run w ms) (m, x)

  abbrev numbers : List ℕ
  numbers = numbers_of w ms

  -- nothing is completed
  pub quiet-first : has_completed r next ≡ false → false ≡ completes_first_use w numbers r next
  quiet-first e = sym (ap (λ b. b && (nat_lt 0 r.restarts && (r.since.whole && is_first_use numbers w r r.since.own))) e)

  pub quiet-kept : has_completed r next ≡ false → has_restarted r next ≡ false → AreMarksOf w next (numbers_then numbers r next) marks unused
  quiet-kept c s =
      let same : numbers_then numbers r next ≡ numbers = ap (λ b. numbers_by b (has_completed r next) numbers r) s ∙ ap (λ b. numbers_by false b numbers r) c in
      subst (λ l. AreMarksOf w next l marks unused) (sym same) (quiet-marks w r (m, x) numbers marks unused are c s)

  -- the run from a restart isn't followed
  pub others-first : (nat_lt 0 r.restarts && r.since.whole) ≡ false → false ≡ completes_first_use w numbers r next
  others-first e = sym (none-true (has_completed r next) (nat_lt 0 r.restarts) r.since.whole (is_first_use numbers w r r.since.own) e)

  pub others-kept : (nat_lt 0 r.restarts && r.since.whole) ≡ false → has_restarted r next ≡ false → AreMarksOf w next (numbers_then numbers r next) marks unused
  others-kept e s = (others-complete-none w r (m, x) numbers marks unused s e).1

  -- where nothing is known of it before the move
  pub unknown-first : ((nat_lt 0 r.restarts && r.since.whole) ≡ false) ⊎ (has_completed r next ≡ false) → false ≡ completes_first_use w numbers r next
  unknown-first (inl e) = others-first e
  unknown-first (inr e) = quiet-first e

  pub unknown-kept : ((nat_lt 0 r.restarts && r.since.whole) ≡ false) ⊎ (has_completed r next ≡ false) → has_restarted r next ≡ false → AreMarksOf w next (numbers_then numbers r next) marks unused
  unknown-kept (inl e) s = others-kept e s
  unknown-kept (inr e) s = quiet-kept e s

  -- an instruction of it is completed, of which it is known what it does
  module _ (acc : Accepted w) (completed : has_completed r next ≡ true) (some : 0 < r.restarts) (whole : IsTrue r.since.whole) (p : Passage) (stands : Stands w r marks p) where
    completes : (s : State) × Completes w r s
    completes = completes-next w acc ms (m, x) completed some whole

    does : Does w r marks p completes.0
    does = stands completes.0 completes.1

    passes : PassesMarks w r next numbers marks unused completes.0
    passes = completed-marks w r (m, x) numbers marks unused completes.0 are completed some whole completes.1

    pub passed-first : (unused && p.used) ≡ completes_first_use w numbers r next
    passed-first = ap (λ b. unused && b) does.used ∙ sym passes.first

    pub passed-kept : (after : Marks) → (ChangeFits p.change → after ≡ changed p.change marks) → AreMarksOf w next (numbers_then numbers r next) after (unused && not p.used)
    passed-kept after then =
        subst (λ a. AreMarksOf w next (numbers_then numbers r next) a (unused && not p.used)) (sym (then does.fits ∙ does.change))
        (subst (λ b. AreMarksOf w next (numbers_then numbers r next) (marks_after w.image.layout (is_listed r.since.filled (suc r.since.own)) completes.0 (own_instr w r) marks) (unused && not b)) (sym does.used) passes.marks)

-- ---- before a move

-- hart and memory show the instruction that would be completed
module _ (w : World) (r : Run) (s : State) (completes : Completes w r s) (core : Core) (mem : Held) (hart : core ≡ own_core r) (space : space_of mem ≡ space_of_run w r) where
  same-registers : core.registers ≡ r.own.registers
  same-registers = ap (λ c. c.registers) hart

  same-layout : (space_of mem).layout ≡ w.image.layout
  unfolding space_of_run
  same-layout = ap (λ p. p.layout) space

  same-program : (space_of mem).program ≡ r.own.memory
  unfolding space_of_run
  same-program = ap (λ p. p.program) space

  data-here : data_in (data_byte (space_of mem)) ≡ is_data w.image.layout
  data-here = data-is (space_of mem) ∙ ap is_data same-layout

  pub sees : (i : Instr) → Sees (data_byte (space_of mem)) core.registers i w.image.layout s
  sees i = record {
    same_register = λ k. completes.registers k ∙ ap (λ rs. reg rs k) (sym same-registers);
    same_memory = λ l. record {
      same_data = λ a. ap (λ t. t a) (sym data-here);
      same_byte = λ a h. ap (λ t. t a) (completes.memory ∙ sym same-program ∙ sym (memory-is (space_of mem) (zero_off_data mem)));
    };
  }

  -- what it touches is data
  pub touches : (i : Instr) → own_instr w r ≡ Some i → IsTrue (touches_data (is_data w.image.layout) core.registers i)
  touches i instr = subst (λ rs. IsTrue (touches_data (is_data w.image.layout) rs i)) (sym same-registers) (completes.touches i instr)

  -- it reads the same by its state
  pub reads : (i : Instr) (filled : Bool) (read : ReadMark) → own_instr w r ≡ Some i → read ≡ read_mark filled (instr_action w.image.layout r.own (Some i)) → read ≡ read_mark filled (instr_action w.image.layout s (Some i))
  reads i filled read instr is =
      is ∙ ap (λ o. read_mark filled (instr_action w.image.layout r.own o)) (sym instr)
      ∙ ap (λ a. read_mark filled a) (sym completes.action) ∙ ap (λ o. read_mark filled (instr_action w.image.layout s o)) instr

  pub does-some : (i : Instr) (marks : Marks) (p : Passage) → own_instr w r ≡ Some i → p.used ≡ is_use w.image.layout s (Some i) marks
      → changed p.change marks ≡ marks_after w.image.layout (is_listed r.since.filled (suc r.since.own)) s (Some i) marks → ChangeFits p.change → Does w r marks p s
  does-some i marks p instr used change fits = record {
    used = used ∙ ap (λ o. is_use w.image.layout s o marks) (sym instr);
    change = change ∙ ap (λ o. marks_after w.image.layout (is_listed r.since.filled (suc r.since.own)) s o marks) (sym instr);
    fits = fits;
  }

-- no move but one of the own hart completes any
pub other-completes-none : (w : World) (r : Run) (m : Move) (x : Answer) → m ≢ O → has_completed r (step w r (m, x)) ≡ false
other-completes-none w r m x other = by (others-complete-nothing w r m x)
  where
    by : (m ≡ O) ⊎ ((step w r (m, x)).own_done ≡ r.own_done) → has_completed r (step w r (m, x)) ≡ false
    by (inl own) = absurd (other own)
    by (inr same) = same-count r.own_done (step w r (m, x)).own_done same

-- ---- what is kept behind a move

pub restarted-keeps : (w : World) (ms : Moves) (m : Move) (x : Answer) (u : UseTrace) → has_restarted (run w ms) (step w (run w ms) (m, x)) ≡ true
    → marks_of u.marks ≡ no_marks → u.unused ≡ true → ((n : ℕ) → contains nat_cmp u.filled n ≡ false) → KeepsUses w (ms ++ (m, x) ∷ []) u
restarted-keeps w ms m x u restarted none unused empty =
    let r : Run = run w ms in
    let next : Run = step w r (m, x) in
    let then : run w (ms ++ (m, x) ∷ []) ≡ next = (moves_add_up w ms (m, x)).next in
    let numbers : numbers_of w (ms ++ (m, x) ∷ []) ≡ [] = numbers-snoc w ms (m, x) ∙ ap (λ b. numbers_by b (has_completed r next) (numbers_of w ms) r) restarted in
    let filled : next.since.filled ≡ [] = notes-tell-fills w r (m, x) ∙ ap (λ b. filled_by b (tells_fill next.notes) r) restarted in
    let here : AreMarksOf w next [] (marks_of u.marks) u.unused = subst (λ k. AreMarksOf w next [] k u.unused) (sym none) (subst (λ b. AreMarksOf w next [] no_marks b) (sym unused) (restart-marks w r (m, x) restarted)) in
    record {
      marks =
          subst (λ l. AreMarksOf w (run w (ms ++ (m, x) ∷ [])) l (marks_of u.marks) u.unused) (sym numbers)
          (subst (λ q. AreMarksOf w q [] (marks_of u.marks) u.unused) (sym then) here);
      filled = λ n. (empty n ∙ ap (λ l. is_listed l (suc n)) (sym filled) ∙ ap (λ (q : Run). is_listed q.since.filled (suc n)) (sym then));
    }

pub going-keeps : (w : World) (ms : Moves) (m : Move) (x : Answer) (u : UseTrace) → let r = run w ms in let next : Run = step w r (m, x) in has_restarted r next ≡ false
    → AreMarksOf w next (numbers_then (numbers_of w ms) r next) (marks_of u.marks) u.unused
    → ((n : ℕ) → contains nat_cmp u.filled n ≡ is_listed (filled_by false (tells_fill next.notes) r) (suc n)) → KeepsUses w (ms ++ (m, x) ∷ []) u
going-keeps w ms m x u going marks filled =
    let r : Run = run w ms in
    let next : Run = step w r (m, x) in
    let then : run w (ms ++ (m, x) ∷ []) ≡ next = (moves_add_up w ms (m, x)).next in
    let fills : next.since.filled ≡ filled_by false (tells_fill next.notes) r = notes-tell-fills w r (m, x) ∙ ap (λ b. filled_by b (tells_fill next.notes) r) going in
    record {
      marks =
          subst (λ l. AreMarksOf w (run w (ms ++ (m, x) ∷ [])) l (marks_of u.marks) u.unused) (sym (numbers-snoc w ms (m, x)))
          (subst (λ q. AreMarksOf w q (numbers_then (numbers_of w ms) r next) (marks_of u.marks) u.unused) (sym then) marks);
      filled = λ n. (filled n ∙ ap (λ l. is_listed l (suc n)) (sym fills) ∙ ap (λ (q : Run). is_listed q.since.filled (suc n)) (sym then));
    }

-- at the start
pub start-keeps : (w : World) (u : UseTrace) → ((n : ℕ) → contains nat_cmp u.filled n ≡ false) → KeepsUses w [] u
unfolding run_from numbers_from
start-keeps w u empty = record { marks = start-marks w (marks_of u.marks) u.unused; filled = λ n. empty n }

-- ---- the lines of a move

-- what is put, by what is told of the first use, is the lines of the move
pub put-as-move :
    (kept : UseTrace) (look : Option Ahead) (used : Bool) (answer : Result (Unit {0}) LineFault) (m : Move) (now new : Runner) (out out_after : SinkState)
    → ((w : World) (ms : Moves) → Accepted w → Shows now w (run w ms) → HasUses w ms kept → IfSome look (λ a. IsAhead w (run w ms) m (marks_of kept.marks) a))
    → ((w : World) (ms : Moves) (m : Move) (x : Answer) → Accepted w → IfSome look (λ a. IsAhead w (run w ms) m (marks_of kept.marks) a) → Shows new w (step w (run w ms) (m, x)) → HasUses w ms kept
    → used ≡ (kept.on && completes_first_use w (numbers_of w ms) (run w ms) (step w (run w ms) (m, x))))
    → ((w : World) (r : Run) → Shows new w r → LinesTo (use_line_if used r ++ last_lines r) answer out out_after)
    → (w : World) (ms : Moves) (x : Answer) → Accepted w → HasUses w ms kept → Shows now w (run w ms) → let next : Run = step w (run w ms) (m, x) in Shows new w next
    → LinesTo (move_lines kept.on w (numbers_of w ms) (run w ms) next) answer out out_after
put-as-move kept look used answer m now new out out_after looks first put w ms x acc has before behind =
    let next : Run = step w (run w ms) (m, x) in
    subst (λ b. LinesTo (use_line_if b next ++ last_lines next) answer out out_after) (first w ms m x acc (looks w ms acc before has) behind has) (put w next behind)
