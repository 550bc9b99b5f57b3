-- The size that an open file's descriptor has is the size of the file, in every run.
use Rattle.std.proofs.Common.{◌≡◌, ℕ, zero, suc, ◌%◌, ◌^◌, Bool, true, false, ◌&&◌, ℤ, pos, negsuc, List, [], ◌∷◌, length, take, drop, replicate, nat_le, nat_lt, ◌==◌, Option, Some, None, refl, ap, sym, subst, arith, min}
use Rattle.std.specs.Prelude.{⊤, slice_get, slice_set, unwrap_or, ◌+ℤ◌}
use Rattle.std.specs.Option.{option_map, option_and_then}
use Rattle.std.proofs.lemmas.List.{length-take, length-drop}
use Rattle.spec_base.specs.Files.{Name, Files}
use Rattle.spec_base.specs.Layout.{image_limit}
use Rattle.spec_base.specs.declared.layout.Layout.{Layout}
use Rattle.spec_base.specs.declared.machine.View.TheVariants.{Plain}
use Rattle.spec_base.specs.declared.note.Move.{Move}
use Rattle.spec_base.specs.declared.note.Move.TheVariants.{O, S, T, D}
use Rattle.spec_base.specs.declared.spot.ReadSpot.{ReadSpot}
use Rattle.rv_decode.specs.declared.instr.Instr.{Instr}
use Rattle.rv_model.specs.Memory.{Memory, all_from}
use Rattle.rv_model.specs.Registers.{reg}
use Rattle.rv_model.specs.Rights.{is_data, data_rights}
use Rattle.rv_model.specs.Arithmetic.{signed}
use Rattle.rv_model.specs.Effect.{Effect, Next, Stored, Trapped, Called, Gated, effect, fetched}
use Rattle.program_model.specs.Cache.{in_flight}
use Rattle.program_model.specs.Descriptors.{Descriptor, Free, Null, Out, Err, File, Descriptors, slot, with_slot, start_of, lowest_free, EINVAL}
use Rattle.program_model.specs.Calls.{CallPlan, Set, Look, Read, Write, Exit, CallKind, Open, OpenAt, Close, Seek, ReadFile, WriteFile, ExitProgram, Break, Unknown, kind_of, call_plan, Named, Refused, Whole, name_at, look_if_free, open_named, open_plan, close_plan, seek_base, moved_to, seek_from, seek_plan, read_count, read_if, read_plan, put_if, write_plan, break_plan, plan_by, opened, opened_at, advanced, after_read, bytes_read}
use Rattle.program_model.specs.PlainRun.{State, Image, Taken, Step, Went, Traps, size_in, plan_of, performed, taken_by, all_taken, after_effect, at_word, next, completed, next_unless, next_state, state_after, text_of}
use Rattle.run_model.specs.Run.{World, Run, RunEnd, Answer, opened_run}
use Rattle.run_model.specs.OwnMoves.{own_step}
use Rattle.run_model.specs.Moves.{Moves, step, step_unless, begun, run, run_from}
use Rattle.run_laws.specs.OwnLaws.{Accepted}
use Rattle.own_laws.proofs.InvisibleShadow.{shadow_move-keeps}
use Rattle.own_laws.proofs.Reached.{none_some}
use Rattle.own_laws.proofs.Side.{Side, side_of, Kept}
use Rattle.own_laws.proofs.OwnSteps.{own_step-by, fetch_of-by}
use Rattle.mark_laws.specs.Agreement.{assumed_answer, HasAll}
use Rattle.mark_laws.specs.Sizes.{TrueSizes, PlansFindAll, StatesFindAll, CallsKeepSizes, PerformedKeepSizes, NextKeepsSizes, StatesKeepSizes, SizesAreTrue}

-- ---- descriptors

-- what the size in a descriptor has to be
abbrev TrueIn : Files → Descriptor → Type 0
TrueIn files (File name size offset) = size_in files name ≡ Some size
TrueIn files Free = ⊤
TrueIn files Null = ⊤
TrueIn files Out = ⊤
TrueIn files Err = ⊤

-- the size in a descriptor is the file's
record TrueSize (files : Files) (x : Descriptor) : Type 0 where
  by : TrueIn files x

-- a descriptor that takes another's place
slot-set : (files : Files) (xs : List Descriptor) (i : ℕ) (x : Descriptor) → TrueSize files x → ((d : ℕ) → TrueSize files (unwrap_or (slice_get xs d) Free)) → (d : ℕ)
    → TrueSize files (unwrap_or (slice_get (slice_set xs i x) d) Free)
slot-set files [] i x h each d = each d
slot-set files (y ∷ xs) zero x h each zero = h
slot-set files (y ∷ xs) zero x h each (suc d) = each (suc d)
slot-set files (y ∷ xs) (suc i) x h each zero = each zero
slot-set files (y ∷ xs) (suc i) x h each (suc d) = slot-set files xs i x h (λ d. each (suc d)) d

-- where all descriptors are free
free-slot : (files : Files) (n d : ℕ) → TrueSize files (unwrap_or (slice_get (replicate n Free) d) Free)
free-slot files zero d = record { by = tt }
free-slot files (suc n) zero = record { by = tt }
free-slot files (suc n) (suc d) = free-slot files n d

-- at a start no descriptor is a file's
start-slot : (files : Files) (break_start break_most d : ℕ) → TrueSize files (slot (start_of break_start break_most) d)
start-slot files break_start break_most zero = record { by = tt }
start-slot files break_start break_most (suc zero) = record { by = tt }
start-slot files break_start break_most (suc (suc zero)) = record { by = tt }
start-slot files break_start break_most (suc (suc (suc d))) = free-slot files 29 d

-- where each slot's size is true
of-slots : (files : Files) (f : Descriptors) → ((d : ℕ) → TrueSize files (slot f d)) → TrueSizes files f
of-slots files f each = record { at = λ d name size offset e. (subst (λ (x : Descriptor). TrueSize files x) e (each d)).by }

-- a slot's size is true
true-slot : (files : Files) (f : Descriptors) → TrueSizes files f → (d : ℕ) → TrueSize files (slot f d)
true-slot files f h d = by_slot (slot f d) (h.at d)
  where
    by_slot : (x : Descriptor) → ((name : Name) (size offset : ℕ) → x ≡ File name size offset → size_in files name ≡ Some size) → TrueSize files x
    by_slot (File name size offset) e = record { by = e name size offset refl }
    by_slot Free e = record { by = tt }
    by_slot Null e = record { by = tt }
    by_slot Out e = record { by = tt }
    by_slot Err e = record { by = tt }

-- a file has the bytes that are left of its size
read-whole : (files : Files) (name : Name) (size offset asked : ℕ) → size_in files name ≡ Some size
    → length (bytes_read files (record { name = name; offset = offset; count = read_count asked size offset })) ≡ read_count asked size offset
read-whole files name size offset asked e = by_content (files name) e
  where
    by_content : (o : Option (List ℕ)) → option_map length o ≡ Some size → length (take (read_count asked size offset) (drop offset (unwrap_or o []))) ≡ read_count asked size offset
    by_content None e = none_some e
    by_content (Some bytes) e =
        let whole : length bytes ≡ size = ap (λ (o : Option ℕ). unwrap_or o 0) e in
        omega (arith, length-take (read_count asked size offset) (drop offset bytes), length-drop offset bytes, whole)

-- ---- plans

-- what a plan has to be
abbrev PlanTrueIn : Files → CallPlan → Type 0
PlanTrueIn files (Set g answer) = TrueSizes files g
PlanTrueIn files (Read d spot a) = length (bytes_read files spot) ≡ spot.count
PlanTrueIn files (Look name) = ⊤
PlanTrueIn files (Write to_out a n) = ⊤
PlanTrueIn files (Exit code) = ⊤

-- a plan sets descriptors whose sizes are true, or reads bytes that the file has
record PlanTrue (files : Files) (c : CallPlan) : Type 0 where
  by : PlanTrueIn files c

-- so its read finds all its bytes
plan-has_all : (files : Files) (c : CallPlan) → PlanTrue files c → HasAll files c
plan-has_all files c h d spot a e = (subst (λ (c : CallPlan). PlanTrue files c) e h).by

module _ (files : Files) (f : Descriptors) (h : TrueSizes files f) where
  -- a descriptor whose size is true takes another's place
  with_slot-true : (d : ℕ) (x : Descriptor) → TrueSize files x → TrueSizes files (with_slot f d x)
  with_slot-true d x l = of-slots files (with_slot f d x) (slot-set files f.slots d x l (true-slot files f h))

  -- descriptors that are left
  leaves : (answer : ℤ) → PlanTrue files (Set f answer)
  leaves answer = record { by = h }

  -- an open by a name leaves them
  open_named-true : (n : Named) → PlanTrue files (open_named f n)
  open_named-true (Refused answer) = leaves answer
  open_named-true (Whole name) = by_free (lowest_free f.slots 0)
    where
      by_free : (o : Option ℕ) → PlanTrue files (look_if_free f name o)
      by_free None = leaves _
      by_free (Some d) = record { by = tt }

  -- so does one by an address
  open_plan-true : (data_at : ℕ → Bool) (m : Memory) (name flags : ℕ) → PlanTrue files (open_plan data_at m f name flags)
  open_plan-true data_at m name flags = by_test (flags % 4 == 0)
    where
      by_test : (b : Bool) → PlanTrue files (elim b [ true ↦ open_named f (name_at data_at m name) | false ↦ Set f EINVAL ])
      by_test true = open_named-true (name_at data_at m name)
      by_test false = leaves _

  -- a closed descriptor is free
  closes : (d : ℕ) (answer : ℤ) → PlanTrue files (Set (with_slot f d Free) answer)
  closes d answer = record { by = with_slot-true d Free (record { by = tt }) }

  -- a close frees one, or none
  close_plan-true : (d : ℕ) (x : Descriptor) → PlanTrue files (close_plan f d x)
  close_plan-true d Free = leaves _
  close_plan-true d Null = closes d _
  close_plan-true d Out = closes d _
  close_plan-true d Err = closes d _
  close_plan-true d (File name size offset) = closes d _

  -- a move of an offset keeps name and size
  moved_to-true : (d : ℕ) (name : Name) (size : ℕ) (z : ℤ) → size_in files name ≡ Some size → PlanTrue files (moved_to f d name size z)
  moved_to-true d name size (negsuc n) l = leaves _
  moved_to-true d name size (pos n) l = by_test (nat_lt n (2 ^ 56))
    where
      by_test : (b : Bool) → PlanTrue files (elim b [ true ↦ Set (with_slot f d (File name size n)) (pos n) | false ↦ Set f EINVAL ])
      by_test true = record { by = with_slot-true d (File name size n) (record { by = l }) }
      by_test false = leaves _

  -- so it is from a base
  seek_from-true : (d : ℕ) (name : Name) (size distance : ℕ) (o : Option ℕ) → size_in files name ≡ Some size → PlanTrue files (seek_from f d name size distance o)
  seek_from-true d name size distance None l = leaves _
  seek_from-true d name size distance (Some base) l = moved_to-true d name size (pos base +ℤ signed distance) l

  -- so it is by a call
  seek_plan-true : (d : ℕ) (x : Descriptor) (distance whence : ℕ) → TrueSize files x → PlanTrue files (seek_plan f d x distance whence)
  seek_plan-true d (File name size offset) distance whence l = seek_from-true d name size distance (seek_base offset size whence) l.by
  seek_plan-true d Free distance whence l = leaves _
  seek_plan-true d Null distance whence l = leaves _
  seek_plan-true d Out distance whence l = leaves _
  seek_plan-true d Err distance whence l = leaves _

  -- a read may be refused
  read_if-true : (b : Bool) (d : ℕ) (spot : ReadSpot) (a : ℕ) → PlanTrue files (Read d spot a) → PlanTrue files (read_if b f d spot a)
  read_if-true true d spot a l = l
  read_if-true false d spot a l = leaves _

  -- a read asks for no more than is left of its file
  read_plan-true : (data_at : ℕ → Bool) (d : ℕ) (x : Descriptor) (a asked : ℕ) → TrueSize files x → PlanTrue files (read_plan data_at f d x a asked)
  read_plan-true data_at d (File name size offset) a asked l =
      read_if-true (all_from data_at a (read_count asked size offset)) d (record { name = name; offset = offset; count = read_count asked size offset }) a
      (record { by = read-whole files name size offset asked l.by })
  read_plan-true data_at d Free a asked l = leaves _
  read_plan-true data_at d Null a asked l = leaves _
  read_plan-true data_at d Out a asked l = leaves _
  read_plan-true data_at d Err a asked l = leaves _

  -- a put leaves them
  put_if-true : (b to_out : Bool) (a n : ℕ) → PlanTrue files (put_if b f to_out a n)
  put_if-true false to_out a n = leaves _
  put_if-true true to_out a zero = leaves _
  put_if-true true to_out a (suc n) = record { by = tt }

  -- so does a write
  write_plan-true : (data_at : ℕ → Bool) (x : Descriptor) (a asked : ℕ) → PlanTrue files (write_plan data_at f x a asked)
  write_plan-true data_at Out a asked = put_if-true (all_from data_at a (min asked 65536)) true a (min asked 65536)
  write_plan-true data_at Err a asked = put_if-true (all_from data_at a (min asked 65536)) false a (min asked 65536)
  write_plan-true data_at Free a asked = leaves _
  write_plan-true data_at Null a asked = leaves _
  write_plan-true data_at (File name size offset) a asked = leaves _

  -- so does a move of the break
  break_plan-true : (to : ℕ) → PlanTrue files (break_plan f to)
  break_plan-true to = by_test (nat_le f.break_start to && nat_le to f.break_most)
    where
      by_test : (b : Bool) → PlanTrue files (elim b [ true ↦ Set (record f { break_at = to }) (pos to) | false ↦ Set f (pos f.break_at) ])
      by_test true = record { by = record { at = h.at } }
      by_test false = leaves _

  -- each call's plan is such
  plan_by-true : (data_at : ℕ → Bool) (m : Memory) (kind : CallKind) (x10 x11 x12 : ℕ) → PlanTrue files (plan_by data_at m f kind x10 x11 x12)
  plan_by-true data_at m Open x10 x11 x12 = open_plan-true data_at m x10 x11
  plan_by-true data_at m OpenAt x10 x11 x12 = open_plan-true data_at m x11 x12
  plan_by-true data_at m Close x10 x11 x12 = close_plan-true x10 (slot f x10)
  plan_by-true data_at m Seek x10 x11 x12 = seek_plan-true x10 (slot f x10) x11 x12 (true-slot files f h x10)
  plan_by-true data_at m ReadFile x10 x11 x12 = read_plan-true data_at x10 (slot f x10) x11 x12 (true-slot files f h x10)
  plan_by-true data_at m WriteFile x10 x11 x12 = write_plan-true data_at (slot f x10) x11 x12
  plan_by-true data_at m ExitProgram x10 x11 x12 = record { by = tt }
  plan_by-true data_at m Break x10 x11 x12 = break_plan-true x10
  plan_by-true data_at m Unknown x10 x11 x12 = leaves _

  -- an opened file has its size
  opened-true : (name : Name) (o : Option ℕ) → size_in files name ≡ o → TrueSizes files (opened f name o).0
  opened-true name None e = h
  opened-true name (Some size) e = by_free (lowest_free f.slots 0)
    where
      by_free : (o : Option ℕ) → TrueSizes files (opened_at f name size o).0
      by_free None = h
      by_free (Some d) = with_slot-true d (File name size 0) (record { by = e })

  -- an offset that moves on leaves the size
  advanced-true : (x : Descriptor) (n : ℕ) → TrueSize files x → TrueSize files (advanced x n)
  advanced-true (File name size offset) n l = record { by = l.by }
  advanced-true Free n l = l
  advanced-true Null n l = l
  advanced-true Out n l = l
  advanced-true Err n l = l

  -- so a read leaves the sizes
  after_read-true : (d n : ℕ) → TrueSizes files (after_read f d n)
  after_read-true d n = with_slot-true d (advanced (slot f d) n) (advanced-true (slot f d) n (true-slot files f h d))

  -- the answer of a call leaves them
  answer-true : (c : CallPlan) → PlanTrue files c → TrueSizes files (assumed_answer files f c).0
  answer-true (Set g answer) l = l.by
  answer-true (Look name) l = opened-true name (size_in files name) refl
  answer-true (Read d spot a) l = after_read-true d spot.count
  answer-true (Write to_out a n) l = h
  answer-true (Exit code) l = h

-- a planned read finds all its bytes
pub plans_find_all : PlansFindAll
plans_find_all files f h data_at m number x10 x11 x12 = plan-has_all files (call_plan data_at m f number x10 x11 x12) (plan_by-true files f h data_at m (kind_of number) x10 x11 x12)

-- so does a state's
pub states_find_all : StatesFindAll
states_find_all files l s h = plans_find_all files s.files h (is_data l) s.memory (reg s.registers 17) (reg s.registers 10) (reg s.registers 11) (reg s.registers 12)

-- a planned call keeps the sizes
pub calls_keep_sizes : CallsKeepSizes
calls_keep_sizes files f h data_at m number x10 x11 x12 = answer-true files f h (call_plan data_at m f number x10 x11 x12) (plan_by-true files f h data_at m (kind_of number) x10 x11 x12)

-- ---- states

-- a state's plan is such
plan_of-true : (files : Files) (l : Layout) (s : State) → TrueSizes files s.files → PlanTrue files (plan_of l s)
plan_of-true files l s h = plan_by-true files s.files h (is_data l) s.memory (kind_of (reg s.registers 17)) (reg s.registers 10) (reg s.registers 11) (reg s.registers 12)

-- a performed call sets the descriptors of its answer
performed-true : (files : Files) (taken : ℕ) (c : CallPlan) (s : State) → TrueSizes files s.files → PlanTrue files c → TrueSizes files (performed files taken c s).files
performed-true files taken (Set g answer) s h l = answer-true files s.files h (Set g answer) l
performed-true files taken (Look name) s h l = answer-true files s.files h (Look name) l
performed-true files taken (Read d spot a) s h l = answer-true files s.files h (Read d spot a) l
performed-true files taken (Write true a n) s h l = h
performed-true files taken (Write false a n) s h l = h
performed-true files taken (Exit code) s h l = h

-- a performed call keeps the sizes
pub performed_keep_sizes : PerformedKeepSizes
performed_keep_sizes files l taken s h = performed-true files taken (plan_of l s) s h (plan_of-true files l s h)

-- the sizes are true in a state, if there is one
abbrev TrueOption : Files → Option State → Type 0
TrueOption files None = ⊤
TrueOption files (Some s) = TrueSizes files s.files

-- in the state of a step that completes
abbrev TrueStep : Files → Step → Type 0
TrueStep files (Went s) = TrueSizes files s.files
TrueStep files (Traps cause) = ⊤

module _ (p : Image) (files : Files) (t : Taken) where
  -- each effect keeps them
  after_effect-true : (s : State) (e : Effect) → TrueSizes files s.files → TrueStep files (after_effect p files t s e)
  after_effect-true s (Next rs pc) h = h
  after_effect-true s (Stored a width v) h = h
  after_effect-true s (Trapped cause) h = tt
  after_effect-true s Called h = performed_keep_sizes files p.layout (taken_by t (plan_of p.layout s) s) s h
  after_effect-true s (Gated i) h = tt

  -- so does each instruction
  at_word-true : (s : State) (o : Option Instr) → TrueSizes files s.files → TrueStep files (at_word p files t s o)
  at_word-true s None h = tt
  at_word-true s (Some i) h = after_effect-true s (effect Plain (data_rights p.layout) s.memory s.registers s.pc i) h

  -- so does the completed step
  completed-true : (step : Step) → TrueStep files step → TrueOption files (completed step)
  completed-true (Went s) h = h
  completed-true (Traps cause) h = tt

  -- so does the next state
  next_unless-true : (exited : Option ℕ) (s : State) → TrueSizes files s.files → TrueOption files (next_unless exited p files t s)
  next_unless-true (Some code) s h = tt
  next_unless-true None s h = completed-true (next p files t s) (at_word-true s (fetched (text_of p) p.layout.text_start s.pc) h)

  -- and the one after a state that may be there
  next-true : (o : Option State) → TrueOption files o → TrueOption files (option_and_then (next_state p files t) o)
  next-true None h = tt
  next-true (Some s) h = next_unless-true s.exited s h

  -- so does each state of the run
  state_after-true : (start : State) (n : ℕ) → TrueSizes files start.files → TrueOption files (state_after p files t start n)
  unfolding state_after
  state_after-true start zero h = h
  state_after-true start (suc n) h = next-true (state_after p files t start n) (state_after-true start n h)

-- a state that is there
there-true : (files : Files) (o : Option State) (s : State) → TrueOption files o → o ≡ Some s → TrueSizes files s.files
there-true files o s h e = subst (λ (o : Option State). TrueOption files o) e h

-- an instruction keeps the sizes
pub next_keeps_sizes : NextKeepsSizes
next_keeps_sizes p files t s next h e = there-true files (next_state p files t s) next (next_unless-true p files t s.exited s h) e

-- so does any number of them
pub states_keep_sizes : StatesKeepSizes
states_keep_sizes p files t start s n h e = there-true files (state_after p files t start n) s (state_after-true p files t start n h) e

-- ---- runs

-- the descriptors now and at the last gate, and the state of the last restart
record Stock : Type 0 where
  own : Descriptors
  gate : Descriptors
  origin : Option State

-- those of an own side
abbrev stock_of : Side → Stock
stock_of p = record { own = p.own.files; gate = p.gate.files; origin = p.tally.origin }

-- their sizes are true
record TrueStock (files : Files) (k : Stock) : Type 0 where
  own : TrueSizes files k.own
  gate : TrueSizes files k.gate
  origin : TrueOption files k.origin

module _ (w : World) where
  -- they are in this run
  abbrev Keeps : Run → Type 0
  Keeps r = TrueStock w.files (stock_of (side_of r))

  -- a completed call
  performed-keeps : (taken : ℕ) (c : CallPlan) (r : Run) → PlanTrue w.files c → Keeps r → TrueStock w.files (record (stock_of (side_of r)) { own = (performed w.files taken c r.own).files })
  performed-keeps taken c r l z = record { own = performed-true w.files taken c r.own z.own l; gate = z.gate; origin = z.origin }

  -- an own move
  own_step-keeps : (x : Answer) (r : Run) → Keeps r → Keeps (own_step w x r)
  own_step-keeps x r z =
      own_step-by w x r Keeps
      (record {
        stays = λ b. z;
        goes = λ rs pc. z;
        stores = λ a width v. z;
        enters = record { own = z.own; gate = z.own; origin = z.origin };
        computes = λ rs pc page. z;
        links = λ i a width v e f. z;
        leaves = λ v. z;
        stops = z;
        restarts = λ v. record { own = z.own; gate = z.gate; origin = z.gate };
        performs_call = λ taken whole b h. performed-keeps taken (plan_of w.image.layout r.own) r (plan_of-true w.files w.image.layout r.own z.own) z;
      })

  -- each move keeps the sizes
  step-keeps : (m : Move) (x : Answer) (r : Run) → Keeps r → Keeps (step w r (m, x))
  step-keeps S x r z = subst (λ (k : Kept). TrueStock w.files (stock_of k.side)) (sym (shadow_move-keeps w r S x tt)) z
  step-keeps T x r z = subst (λ (k : Kept). TrueStock w.files (stock_of k.side)) (sym (shadow_move-keeps w r T x tt)) z
  step-keeps O x r z = by_end r.end
    where
      by_end : (e : Option RunEnd) → Keeps (step_unless e w r (O, x))
      by_end (Some e) = z
      by_end None = own_step-keeps x (begun r) z
  step-keeps D x r z = by_end r.end
    where
      by_end : (e : Option RunEnd) → Keeps (step_unless e w r (D, x))
      by_end (Some e) = z
      by_end None = fetch_of-by w x (begun r) Keeps (λ b. z) (in_flight r.cache)

  -- so does a list of moves
  run_from-keeps : (ms : Moves) (r : Run) → Keeps r → Keeps (run_from w r ms)
  unfolding run_from
  run_from-keeps [] r z = z
  run_from-keeps (m ∷ ms) r z = run_from-keeps ms (step w r m) (step-keeps m.0 m.1 r z)

  -- the sizes of a start are true
  start-true : Accepted w → TrueSizes w.files w.image.start.files
  start-true a =
      subst (λ (f : Descriptors). TrueSizes w.files f) (sym a.descriptors.1)
      (of-slots w.files (start_of a.descriptors.0 (image_limit w.image.layout.version)) (start-slot w.files a.descriptors.0 (image_limit w.image.layout.version)))

  -- they are in every run
  run-true : Accepted w → (ms : Moves) → Keeps (run w ms)
  run-true a ms = run_from-keeps ms (opened_run w) (record { own = start-true a; gate = start-true a; origin = tt })

  -- in the run from the restart too
  restarted-true : (origin : Option State) (i : ℕ) (q : State) → TrueOption w.files origin → option_and_then (λ s. state_after w.image w.files all_taken s i) origin ≡ Some q
      → TrueSizes w.files q.files
  restarted-true None i q h e = none_some e
  restarted-true (Some s) i q h e = states_keep_sizes w.image w.files all_taken s q i h e

-- in every run the sizes are true
pub sizes_are_true : SizesAreTrue
sizes_are_true w a ms =
    let z : TrueStock w.files (stock_of (side_of (run w ms))) = run-true w a ms in
    record {
      own = z.own;
      at_gate = z.gate;
      origin = λ q e. there-true w.files (run w ms).since.origin q z.origin e;
      restarted = λ i q e. restarted-true w (run w ms).since.origin i q z.origin e;
    }
