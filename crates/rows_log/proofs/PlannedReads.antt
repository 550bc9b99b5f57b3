-- The bytes of a read that the shadow plans are data.
use Rattle.std.proofs.Common.{◌≡◌, ℕ, zero, suc, ◌+◌, ◌/◌, ◌%◌, ◌^◌, ◌<◌, Bool, true, false, ◌&&◌, ◌==◌, ℤ, pos, negsuc, Option, Some, None, refl, subst, arith, nat_le, nat_lt, min}
use Rattle.std.specs.Prelude.{⊤, ◌+ℤ◌}
use Rattle.std.proofs.lemmas.Bool.Decides.{nat_tests}
use Rattle.spec_base.specs.Files.{Name}
use Rattle.spec_base.specs.Layout.{range_end}
use Rattle.spec_base.specs.declared.layout.Version.{Version}
use Rattle.spec_base.specs.declared.layout.Version.TheVariants.{One, Two}
use Rattle.spec_base.specs.declared.layout.Layout.{Layout}
use Rattle.spec_base.specs.declared.spot.ReadSpot.{ReadSpot}
use Rattle.rv_model.specs.Memory.{Memory, all_from}
use Rattle.rv_model.specs.Registers.{reg}
use Rattle.rv_model.specs.Arithmetic.{signed}
use Rattle.rv_model.specs.Rights.{is_data}
use Rattle.rv_model.proofs.DataLemmas.{all_from-at}
use Rattle.program_model.specs.Descriptors.{Descriptor, Free, Null, Out, Err, File, Descriptors, slot, with_slot, lowest_free, EINVAL}
use Rattle.program_model.specs.Calls.{CallPlan, Set, Look, Read, Write, Exit, CallKind, Open, OpenAt, Close, Seek, ReadFile, WriteFile, ExitProgram, Break, Unknown, kind_of, Named, Refused, Whole, name_at, look_if_free, open_named, open_plan, close_plan, seek_base, moved_to, seek_from, seek_plan, read_count, read_if, read_plan, put_if, write_plan, break_plan, plan_by}
use Rattle.code_model.specs.Regions.{shadowed}
use Rattle.run_model.specs.Run.{World, Run}
use Rattle.run_model.specs.ShadowMoves.{shadow_plan}
use Rattle.code_model.specs.Tables.{all_regions}

-- ---- a read's bytes are data

abbrev AreData : (ℕ → Bool) → CallPlan → Type 0
AreData data_at (Read d spot a) = all_from data_at a spot.count ≡ true
AreData data_at (Set f answer) = ⊤
AreData data_at (Look name) = ⊤
AreData data_at (Write to_out a n) = ⊤
AreData data_at (Exit code) = ⊤

-- the bytes of a read that is planned are data
record InData (data_at : ℕ → Bool) (c : CallPlan) : Type 0 where
  by : AreData data_at c

module _ (data_at : ℕ → Bool) (m : Memory) (f : Descriptors) where
  -- an answer that is known
  known : (g : Descriptors) (answer : ℤ) → InData data_at (Set g answer)
  known g answer = record { by = tt }

  named-data : (n : Named) → InData data_at (open_named f n)
  named-data (Refused answer) = known f answer
  named-data (Whole name) = by_free (lowest_free f.slots 0)
    where
      by_free : (o : Option ℕ) → InData data_at (look_if_free f name o)
      by_free None = known _ _
      by_free (Some d) = record { by = tt }

  open-data : (name flags : ℕ) → InData data_at (open_plan data_at m f name flags)
  open-data name flags = by_test (flags % 4 == 0)
    where
      by_test : (b : Bool) → InData data_at (elim b [ true ↦ open_named f (name_at data_at m name) | false ↦ Set f EINVAL ])
      by_test true = named-data (name_at data_at m name)
      by_test false = known _ _

  close-data : (d : ℕ) (x : Descriptor) → InData data_at (close_plan f d x)
  close-data d Free = known _ _
  close-data d Null = known _ _
  close-data d Out = known _ _
  close-data d Err = known _ _
  close-data d (File name size offset) = known _ _

  moved-data : (d : ℕ) (name : Name) (size : ℕ) (z : ℤ) → InData data_at (moved_to f d name size z)
  moved-data d name size (negsuc n) = known _ _
  moved-data d name size (pos n) = by_test (nat_lt n (2 ^ 56))
    where
      by_test : (b : Bool) → InData data_at (elim b [ true ↦ Set (with_slot f d (File name size n)) (pos n) | false ↦ Set f EINVAL ])
      by_test true = known _ _
      by_test false = known _ _

  seek_from-data : (d : ℕ) (name : Name) (size distance : ℕ) (o : Option ℕ) → InData data_at (seek_from f d name size distance o)
  seek_from-data d name size distance None = known _ _
  seek_from-data d name size distance (Some base) = moved-data d name size (pos base +ℤ signed distance)

  seek-data : (d : ℕ) (x : Descriptor) (distance whence : ℕ) → InData data_at (seek_plan f d x distance whence)
  seek-data d (File name size offset) distance whence = seek_from-data d name size distance (seek_base offset size whence)
  seek-data d Free distance whence = known _ _
  seek-data d Null distance whence = known _ _
  seek-data d Out distance whence = known _ _
  seek-data d Err distance whence = known _ _

  read_if-data : (b : Bool) (d : ℕ) (spot : ReadSpot) (a : ℕ) → all_from data_at a spot.count ≡ b → InData data_at (read_if b f d spot a)
  read_if-data true d spot a e = record { by = e }
  read_if-data false d spot a e = known _ _

  read-data : (d : ℕ) (x : Descriptor) (a asked : ℕ) → InData data_at (read_plan data_at f d x a asked)
  read-data d (File name size offset) a asked =
      let spot : ReadSpot = record { name = name; offset = offset; count = read_count asked size offset } in read_if-data (all_from data_at a spot.count) d spot a refl
  read-data d Free a asked = known _ _
  read-data d Null a asked = known _ _
  read-data d Out a asked = known _ _
  read-data d Err a asked = known _ _

  put-data : (b to_out : Bool) (a n : ℕ) → InData data_at (put_if b f to_out a n)
  put-data false to_out a n = known _ _
  put-data true to_out a zero = known _ _
  put-data true to_out a (suc n) = record { by = tt }

  write-data : (x : Descriptor) (a asked : ℕ) → InData data_at (write_plan data_at f x a asked)
  write-data Out a asked = put-data (all_from data_at a (min asked 65536)) true a (min asked 65536)
  write-data Err a asked = put-data (all_from data_at a (min asked 65536)) false a (min asked 65536)
  write-data Free a asked = known _ _
  write-data Null a asked = known _ _
  write-data (File name size offset) a asked = known _ _

  break-data : (to : ℕ) → InData data_at (break_plan f to)
  break-data to = by_test (nat_le f.break_start to && nat_le to f.break_most)
    where
      by_test : (b : Bool) → InData data_at (elim b [ true ↦ Set (record f { break_at = to }) (pos to) | false ↦ Set f (pos f.break_at) ])
      by_test true = known _ _
      by_test false = known _ _

  -- each call's
  plan-data : (kind : CallKind) (x10 x11 x12 : ℕ) → InData data_at (plan_by data_at m f kind x10 x11 x12)
  plan-data Open x10 x11 x12 = open-data x10 x11
  plan-data OpenAt x10 x11 x12 = open-data x11 x12
  plan-data Close x10 x11 x12 = close-data x10 (slot f x10)
  plan-data Seek x10 x11 x12 = seek-data x10 (slot f x10) x11 x12
  plan-data ReadFile x10 x11 x12 = read-data x10 (slot f x10) x11 x12
  plan-data WriteFile x10 x11 x12 = write-data (slot f x10) x11 x12
  plan-data ExitProgram x10 x11 x12 = record { by = tt }
  plan-data Break x10 x11 x12 = break-data x10
  plan-data Unknown x10 x11 x12 = known _ _

-- a read that the shadow plans
pub read-planned : (w : World) (r : Run) (d : ℕ) (spot : ReadSpot) (a : ℕ) → shadow_plan w r ≡ Read d spot a → all_from (is_data w.image.layout) a spot.count ≡ true
read-planned w r d spot a e =
    let planned : InData (is_data w.image.layout) (shadow_plan w r) =
    plan-data (is_data w.image.layout) (shadowed r.shared r.own.memory) r.shadow.files (kind_of (reg r.shadow.registers 17)) (reg r.shadow.registers 10) (reg r.shadow.registers 11) (reg r.shadow.registers 12) in
    let is : InData (is_data w.image.layout) (Read d spot a) = subst (InData (is_data w.image.layout)) e planned in is.by

-- the last byte of a stretch passes its test
pub all_from-last : (test : ℕ → Bool) (a n : ℕ) → all_from test a (suc n) ≡ true → test (a + n) ≡ true
all_from-last test a n h = all_from-at test (suc n) a n h (omega arith)

-- data is below the end of the range, which is a multiple of 256
pub data-region : (l : Layout) (a : ℕ) → is_data l a ≡ true → a / 256 < all_regions l
data-region l a h = let below : a < range_end l.version = grind (arith, nat_tests) in by_version l.version below
  where
    by_version : (v : Version) → a < range_end v → a / 256 < range_end v / 256
    by_version One h = omega arith
    by_version Two h = omega arith
