-- The plans of the code as the call table's (this project's own).
use Rattle.std.specs.Prelude.{ℕ, ◌-◌, ◌^◌, ◌<◌, ◌≤◌, Bool, true, false, IsTrue, ℤ, pos, negsuc, nat_lt, Option, Some, None, Result, Ok, Err}
use Rattle.spec_base.specs.Files.{Name}
use Rattle.spec_base.specs.declared.spot.ReadSpot.{ReadSpot}
use Rattle.rv_model.specs.Memory.{all_from}
use Rattle.program_model.specs.Descriptors.{Descriptor, File, Descriptors, slot, with_slot}
use Rattle.program_model.specs.Calls as calls
use Rattle.program_model.specs.Calls.{CallKind, OpenAt, Seek, ReadFile, WriteFile, ExitProgram, Break, Unknown, Look, Set}
use Rattle.file_calls.specs.declared.call.Call.{Call}
use Rattle.file_calls.specs.declared.call.Call.TheVariants as call
use Rattle.file_calls.specs.declared.plan.CallPlan.{CallPlan}
use Rattle.file_calls.specs.declared.plan.CallPlan.TheVariants as plan
use Rattle.file_calls.specs.declared.change.Change.{Change}
use Rattle.file_calls.specs.declared.change.Change.TheVariants.{Nothing, Slot, MoveBreak}
use Rattle.file_calls.specs.declared.plan.PlannedCall.{PlannedCall}
use Rattle.file_calls.specs.declared.plan.PlannedCall.TheVariants as planned
use Rattle.file_calls.specs.Shown.{shown}

-- the calls that have a number
abbrev pub call_shown : Call → CallKind
call_shown call.Open = calls.Open
call_shown call.OpenAt = OpenAt
call_shown call.Close = calls.Close
call_shown call.Seek = Seek
call_shown call.Read = ReadFile
call_shown call.Write = WriteFile
call_shown call.Exit = ExitProgram
call_shown call.Break = Break
call_shown call.Unknown = Unknown

-- what a change makes of the descriptors and the break
abbrev pub changed : Descriptors → Change → Descriptors
changed f Nothing = f
changed f (Slot number slot) = with_slot f number (shown slot)
changed f (MoveBreak to) = record f { break_at = to }

-- the break stays within its bound
abbrev pub KeepsBreak : Descriptors → Change → Type 0
KeepsBreak f (MoveBreak to) = to ≤ f.break_most
KeepsBreak f other = Unit {0}

-- a plan whose change is made
abbrev pub made : Descriptors → PlannedCall → CallPlan
made f (planned.Set change answer) = plan.Set (changed f change) answer
made f (planned.Open name) = plan.Open name
made f (planned.Read spot address) = plan.Read spot address
made f (planned.Write to_out address count) = plan.Write to_out address count
made f (planned.Exit code) = plan.Exit code

-- the change of a plan keeps the break within its bound
abbrev pub PlanKeepsBreak : Descriptors → PlannedCall → Type 0
PlanKeepsBreak f (planned.Set change answer) = KeepsBreak f change
PlanKeepsBreak f other = Unit {0}

-- a plan of the code, for a call whose first argument is d
abbrev pub plan_shown : ℕ → CallPlan → calls.CallPlan
plan_shown d (plan.Set files answer) = Set files answer
plan_shown d (plan.Open name) = Look name
plan_shown d (plan.Read spot address) = calls.Read d spot address
plan_shown d (plan.Write to_out address count) = calls.Write to_out address count
plan_shown d (plan.Exit code) = calls.Exit code

-- a name to look for, or the answer of an open that is refused
abbrev pub opening_shown : Descriptors → Result Name ℤ → calls.CallPlan
opening_shown f (Ok name) = Look name
opening_shown f (Err answer) = Set f answer

-- a read, or the answer of one that is refused
abbrev pub reading_shown : Descriptors → ℕ → ℕ → Result ReadSpot ℤ → calls.CallPlan
reading_shown f d address (Ok spot) = calls.Read d spot address
reading_shown f d address (Err answer) = Set f answer

-- an offset that is one only if the test holds
abbrev pub offset_if : Bool → ℕ → Option ℕ
offset_if true n = Some n
offset_if false n = None

-- the offset that a whole number is, if it is one: at least 0, and below 2^56
abbrev pub offset_at : ℤ → Option ℕ
offset_at (pos n) = offset_if (nat_lt n (2 ^ 56)) n
offset_at (negsuc n) = None

-- how many bytes of a file are left from its offset on
abbrev pub left : Descriptor → ℕ
left (File name size offset) = size - offset
left other = 0

-- a read of descriptor d is of few bytes, of which the file has as many left
pub record ReadBounds (f : Descriptors) (d : ℕ) (spot : ReadSpot) : Type 0 where
  pub descriptor : d < 32
  pub offset : spot.offset < 2 ^ 56
  pub count : spot.count ≤ 65536
  pub left : spot.count ≤ left (slot f d)

-- the numbers of a plan are small
abbrev pub PlanBounds : Descriptors → ℕ → CallPlan → Type 0
PlanBounds f d (plan.Read spot address) = ReadBounds f d spot
PlanBounds f d (plan.Write to_out address count) = (0 < count) × (count ≤ 65536)
PlanBounds f d other = Unit {0}

-- what a plan reads to, or puts, is data
abbrev pub IsOnData : (ℕ → Bool) → CallPlan → Type 0
IsOnData data_at (plan.Read spot address) = IsTrue (all_from data_at address spot.count)
IsOnData data_at (plan.Write to_out address count) = IsTrue (all_from data_at address count)
IsOnData data_at other = Unit {0}
