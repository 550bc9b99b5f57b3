-- What a store or a read touches is data, so its bytes end below 2^64.
use Rattle.std.proofs.Common.{◌≡◌, ℕ, ◌+◌, ◌-◌, ◌%◌, ◌^◌, ◌<◌, Bool, true, false, ◌&&◌, ◌==◌, zero, suc, Option, Some, None, nat_le, nat_lt, refl, sym, subst, arith}
use Rattle.std.specs.Prelude.{⊤, IsTrue, ℤ, pos, negsuc, ◌+ℤ◌, min}
use Rattle.std.proofs.lemmas.Bool.Decides.{nat_tests}
use Rattle.spec_base.specs.Layout.{range_end}
use Rattle.spec_base.specs.Files.{Name}
use Rattle.spec_base.specs.declared.layout.Layout.{Layout}
use Rattle.spec_base.specs.declared.spot.ReadSpot.{ReadSpot}
use Rattle.rv_decode.specs.declared.instr.Instr.{Instr}
use Rattle.rv_decode.specs.declared.instr.Instr.TheVariants.{Store, Ecall}
use Rattle.rv_model.specs.Memory.{all_from}
use Rattle.rv_model.specs.Arithmetic.{signed}
use Rattle.rv_model.specs.Registers.{Registers, reg}
use Rattle.rv_model.specs.Rights.{is_data}
use Rattle.rv_model.proofs.DataLemmas.{all_from-inside}
use Rattle.program_model.specs.Descriptors.{Descriptor, Free, File, Out, Err, Descriptors, slot, with_slot, EINVAL}
use Rattle.program_model.specs.Calls.{CallKind, Open, OpenAt, Close, Seek, ReadFile, WriteFile, ExitProgram, Break, Unknown, kind_of, CallPlan, Set, Read, close_plan, seek_base, seek_from, moved_to, seek_plan, read_if, read_plan, put_if, write_plan, break_plan, plan_by}
use Rattle.program_model.specs.PlainRun.{State}
use Rattle.run_model.specs.Restarts.{Action, Reads, name_action, action_by, call_action, instr_action}
use Rattle.run_model.specs.Marks.{Marks}
use Rattle.hart_mem.proofs.Grains.{range_end-below}
use Rattle.use_marks.specs.Ranges.{Fits}
use Rattle.use_marks.specs.Passing.{touches_data, read_mark, ReadFits, ChangeFits, change}
use Rattle.use_marks.specs.declared.read_mark.ReadMark.{ReadMark}

-- data ends below 2^64
data-below : (l : Layout) (a : ℕ) → IsTrue (is_data l a) → a < 2 ^ 64
data-below l a h = let low : a < range_end l.version = grind (arith, nat_tests) in omega (arith, low, range_end-below l.version)

data-fits : (l : Layout) (a n : ℕ) → IsTrue (all_from (is_data l) a n) → Fits a n
data-fits l a n h some = let last : a + (n - 1) < 2 ^ 64 = data-below l (a + (n - 1)) (all_from-inside (is_data l) n a h (a + (n - 1)) (omega arith) (omega arith)) in omega (arith, last)

-- ---- a read that is planned

-- the bytes of a read
abbrev PlanFits : CallPlan → Type 0
PlanFits (Read d spot a) = Fits a spot.count
PlanFits _ = ⊤

-- by whether all its bytes are data
read_if-fits : (b : Bool) (f : Descriptors) (d : ℕ) (spot : ReadSpot) (a : ℕ) → (b ≡ true → Fits a spot.count) → PlanFits (read_if b f d spot a)
read_if-fits true f d spot a h = h refl
read_if-fits false f d spot a h = tt

read_plan-fits : (l : Layout) (f : Descriptors) (d : ℕ) (at : Descriptor) (a asked : ℕ) → PlanFits (read_plan (is_data l) f d at a asked)
read_plan-fits l f d (File name size offset) a asked = read_if-fits (all_from (is_data l) a _) f d _ a (λ h. data-fits l a _ h)
read_plan-fits l f d _ a asked = tt

-- no other call reads
close_plan-fits : (f : Descriptors) (d : ℕ) (at : Descriptor) → PlanFits (close_plan f d at)
close_plan-fits f d Free = tt
close_plan-fits f d _ = tt

moved_to-fits : (f : Descriptors) (d : ℕ) (name : Name) (size : ℕ) (to : ℤ) → PlanFits (moved_to f d name size to)
moved_to-fits f d name size (pos n) = by_test (nat_lt n (2 ^ 56))
  where
    by_test : (b : Bool) → PlanFits (elim b [ true ↦ Set (with_slot f d (File name size n)) (pos n) | false ↦ Set f EINVAL ])
    by_test true = tt
    by_test false = tt
moved_to-fits f d name size (negsuc n) = tt

seek_from-fits : (f : Descriptors) (d : ℕ) (name : Name) (size distance : ℕ) (base : Option ℕ) → PlanFits (seek_from f d name size distance base)
seek_from-fits f d name size distance None = tt
seek_from-fits f d name size distance (Some base) = moved_to-fits f d name size (pos base +ℤ signed distance)

seek_plan-fits : (f : Descriptors) (d : ℕ) (at : Descriptor) (distance whence : ℕ) → PlanFits (seek_plan f d at distance whence)
seek_plan-fits f d Free distance whence = tt
seek_plan-fits f d (File name size offset) distance whence = seek_from-fits f d name size distance (seek_base offset size whence)
seek_plan-fits f d _ distance whence = tt

put_if-fits : (b : Bool) (f : Descriptors) (to_out : Bool) (a n : ℕ) → PlanFits (put_if b f to_out a n)
put_if-fits false f to_out a n = tt
put_if-fits true f to_out a zero = tt
put_if-fits true f to_out a (suc n) = tt

write_plan-fits : (l : Layout) (f : Descriptors) (at : Descriptor) (a asked : ℕ) → PlanFits (write_plan (is_data l) f at a asked)
write_plan-fits l f Out a asked = put_if-fits (all_from (is_data l) a (min asked 65536)) f true a (min asked 65536)
write_plan-fits l f Err a asked = put_if-fits (all_from (is_data l) a (min asked 65536)) f false a (min asked 65536)
write_plan-fits l f _ a asked = tt

break_plan-fits : (f : Descriptors) (to : ℕ) → PlanFits (break_plan f to)
break_plan-fits f to = by_test (nat_le f.break_start to && nat_le to f.break_most)
  where
    by_test : (b : Bool) → PlanFits (elim b [ true ↦ Set (record f { break_at = to }) (pos to) | false ↦ Set f (pos f.break_at) ])
    by_test true = tt
    by_test false = tt

-- ---- what an instruction marks or clears

abbrev ActionFits : Action → Type 0
ActionFits (Reads spot a) = Fits a spot.count
ActionFits _ = ⊤

module _ (l : Layout) (s : State) where
  name-fits : (b : Bool) (a : ℕ) → ActionFits (name_action b l s a)
  name-fits true a = tt
  name-fits false a = tt

  -- a call that does what is planned
  planned-fits : (k : CallKind) (c : CallPlan) → PlanFits c → ActionFits (action_by k l s c)
  planned-fits Open c h = name-fits (reg s.registers 11 % 4 == 0) (reg s.registers 10)
  planned-fits OpenAt c h = name-fits (reg s.registers 12 % 4 == 0) (reg s.registers 11)
  planned-fits _ (Read d spot a) h = h
  planned-fits _ _ h = tt

  kind-fits : (k : CallKind) (x10 x11 x12 : ℕ) → ActionFits (action_by k l s (plan_by (is_data l) s.memory s.files k x10 x11 x12))
  kind-fits Open x10 x11 x12 = name-fits (reg s.registers 11 % 4 == 0) (reg s.registers 10)
  kind-fits OpenAt x10 x11 x12 = name-fits (reg s.registers 12 % 4 == 0) (reg s.registers 11)
  kind-fits Close x10 x11 x12 = planned-fits Close _ (close_plan-fits s.files x10 (slot s.files x10))
  kind-fits Seek x10 x11 x12 = planned-fits Seek _ (seek_plan-fits s.files x10 (slot s.files x10) x11 x12)
  kind-fits ReadFile x10 x11 x12 = planned-fits ReadFile _ (read_plan-fits l s.files x10 (slot s.files x10) x11 x12)
  kind-fits WriteFile x10 x11 x12 = planned-fits WriteFile _ (write_plan-fits l s.files (slot s.files x10) x11 x12)
  kind-fits ExitProgram x10 x11 x12 = tt
  kind-fits Break x10 x11 x12 = planned-fits Break _ (break_plan-fits s.files x10)
  kind-fits Unknown x10 x11 x12 = tt

  call-fits : ActionFits (call_action l s)
  call-fits = kind-fits (kind_of (reg s.registers 17)) (reg s.registers 10) (reg s.registers 11) (reg s.registers 12)

  mark-fits : (filled : Bool) (a : Action) → ActionFits a → ReadFits (read_mark filled a)
  mark-fits true (Reads spot a) h = h
  mark-fits false (Reads spot a) h = h
  mark-fits true _ h = tt
  mark-fits false _ h = tt

  pub change-fits : (rs : Registers) (filled : Bool) (i : Instr) (read : ReadMark) (m : Marks) → IsTrue (touches_data (is_data l) rs i) → read ≡ read_mark filled (instr_action l s (Some i)) → ChangeFits (change rs i read m)
  change-fits rs filled (Store op rs1 rs2 imm) read m touches told = data-fits l _ _ touches
  change-fits rs filled Ecall read m touches told = subst (λ (m : ReadMark). ReadFits m) (sym told) (mark-fits filled (call_action l s) call-fits)
  change-fits rs filled _ read m touches told = tt
