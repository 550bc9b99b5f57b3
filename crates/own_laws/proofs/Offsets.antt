-- In every plain state there are 32 descriptors, whose sizes and offsets are below 2^56: so a call's key is a number of 64 bits.
use Rattle.std.proofs.Common.{◌≡◌, ℕ, zero, suc, ◌%◌, ◌^◌, ◌<◌, Bool, true, false, ◌&&◌, ℤ, pos, negsuc, List, [], ◌∷◌, length, replicate, nat_le, nat_lt, ◌==◌, Option, Some, None, refl, ◌∙◌, ap, sym, subst, arith, lit<, min}
use Rattle.std.specs.Prelude.{⊤, slice_get, slice_set, unwrap_or, ◌+ℤ◌}
use Rattle.std.proofs.lemmas.Option.{slice_get_within}
use Rattle.std.proofs.lemmas.Bool.Decides.{nat_tests}
use Rattle.spec_base.specs.Files.{Name}
use Rattle.spec_base.specs.declared.spot.ReadSpot.{ReadSpot}
use Rattle.rv_model.specs.Memory.{Memory, all_from}
use Rattle.rv_model.specs.Arithmetic.{signed}
use Rattle.program_model.specs.Descriptors.{Descriptor, Free, Null, Out, Err, File, Descriptors, slot, with_slot, start_of, lowest_free, EINVAL}
use Rattle.program_model.specs.Calls.{CallPlan, Set, Look, Read, Write, Exit, CallKind, Open, OpenAt, Close, Seek, ReadFile, WriteFile, ExitProgram, Break, Unknown, Named, Refused, Whole, name_at, look_if_free, open_named, open_plan, close_plan, seek_base, moved_to, seek_from, seek_plan, read_count, read_if, read_plan, put_if, write_plan, break_plan, plan_by, opened, opened_at, advanced, after_read, key_of}
use Rattle.run_laws.specs.Numbers.{Fits, AllFit, Lawful}

-- ---- descriptors

-- a descriptor that takes another's place leaves their number
length-slice_set : (xs : List Descriptor) (i : ℕ) (x : Descriptor) → length (slice_set xs i x) ≡ length xs
length-slice_set [] i x = refl
length-slice_set (y ∷ xs) zero x = refl
length-slice_set (y ∷ xs) (suc i) x = ap suc (length-slice_set xs i x)

-- and, where it fits, leaves them fitting
AllFit-slice_set : (xs : List Descriptor) (i : ℕ) (x : Descriptor) → AllFit xs → Fits x → AllFit (slice_set xs i x)
AllFit-slice_set [] i x h l = tt
AllFit-slice_set (y ∷ xs) zero x h l = (l, h.1)
AllFit-slice_set (y ∷ xs) (suc i) x h l = (h.0, AllFit-slice_set xs i x h.1 l)

-- what stands at a number fits
Fits-slot : (xs : List Descriptor) (i : ℕ) → AllFit xs → Fits (unwrap_or (slice_get xs i) Free)
Fits-slot [] i h = record { by = tt }
Fits-slot (x ∷ xs) zero h = h.0
Fits-slot (x ∷ xs) (suc i) h = Fits-slot xs i h.1

-- free descriptors fit
AllFit-replicate : (n : ℕ) → AllFit (replicate n Free)
AllFit-replicate zero = tt
AllFit-replicate (suc n) = (record { by = tt }, AllFit-replicate n)

-- a start has such descriptors
pub start-lawful : (break_start break_most : ℕ) → Lawful (start_of break_start break_most)
start-lawful break_start break_most = record { count = refl; each = (record { by = tt }, (record { by = tt }, (record { by = tt }, AllFit-replicate 29))) }

-- a descriptor that fits takes another's place
with_slot-lawful : (f : Descriptors) (d : ℕ) (x : Descriptor) → Lawful f → Fits x → Lawful (with_slot f d x)
with_slot-lawful f d x h l = record { count = length-slice_set f.slots d x ∙ h.count; each = AllFit-slice_set f.slots d x h.each l }

-- a file's number is below 32
file-below : (xs : List Descriptor) (d : ℕ) (name : Name) (size offset : ℕ) → unwrap_or (slice_get xs d) Free ≡ File name size offset → d < length xs
file-below xs d name size offset e = by_item (slice_get xs d) refl e
  where
    by_item : (o : Option Descriptor) → slice_get xs d ≡ o → unwrap_or o Free ≡ File name size offset → d < length xs
    by_item (Some x) g e = slice_get_within xs d x g
    by_item None g e = absurd (no e)
      where
        no : Free ≡ File name size offset → ⊥
        no e = cc

-- ---- plans

-- what a plan has to be
abbrev PlanFitsIn : Descriptors → CallPlan → Type 0
PlanFitsIn f (Set g answer) = Lawful g
PlanFitsIn f (Read d spot a) = (spot.offset < 2 ^ 56) × (d < 32) × Fits (advanced (slot f d) spot.count)
PlanFitsIn f (Look name) = ⊤
PlanFitsIn f (Write to_out a n) = ⊤
PlanFitsIn f (Exit code) = ⊤

-- a plan sets lawful descriptors, or reads at an offset below 2^56 so that the next one is
pub record PlanFits (f : Descriptors) (c : CallPlan) : Type 0 where
  pub by : PlanFitsIn f c

module _ (f : Descriptors) (h : Lawful f) where
  -- descriptors that are left
  leaves : (answer : ℤ) → PlanFits f (Set f answer)
  leaves answer = record { by = h }

  -- an open by a name leaves them
  open_named-fits : (n : Named) → PlanFits f (open_named f n)
  open_named-fits (Refused answer) = leaves answer
  open_named-fits (Whole name) = by_free (lowest_free f.slots 0)
    where
      by_free : (o : Option ℕ) → PlanFits f (look_if_free f name o)
      by_free None = leaves _
      by_free (Some d) = record { by = tt }

  -- so does one by an address
  open_plan-fits : (data_at : ℕ → Bool) (m : Memory) (name flags : ℕ) → PlanFits f (open_plan data_at m f name flags)
  open_plan-fits data_at m name flags = by_test (flags % 4 == 0)
    where
      by_test : (b : Bool) → PlanFits f (elim b [ true ↦ open_named f (name_at data_at m name) | false ↦ Set f EINVAL ])
      by_test true = open_named-fits (name_at data_at m name)
      by_test false = leaves _

  -- a closed descriptor is free
  closes : (d : ℕ) (answer : ℤ) → PlanFits f (Set (with_slot f d Free) answer)
  closes d answer = record { by = with_slot-lawful f d Free h (record { by = tt }) }

  -- a close frees one, or none
  close_plan-fits : (d : ℕ) (x : Descriptor) → PlanFits f (close_plan f d x)
  close_plan-fits d Free = leaves _
  close_plan-fits d Null = closes d _
  close_plan-fits d Out = closes d _
  close_plan-fits d Err = closes d _
  close_plan-fits d (File name size offset) = closes d _

  -- a move of an offset is to one below 2^56, or refused
  moved_to-fits : (d : ℕ) (name : Name) (size : ℕ) (z : ℤ) → size < 2 ^ 56 → PlanFits f (moved_to f d name size z)
  moved_to-fits d name size (negsuc n) l = leaves _
  moved_to-fits d name size (pos n) l = by_test (nat_lt n (2 ^ 56)) refl
    where
      by_test : (b : Bool) → nat_lt n (2 ^ 56) ≡ b → PlanFits f (elim b [ true ↦ Set (with_slot f d (File name size n)) (pos n) | false ↦ Set f EINVAL ])
      by_test true e = record { by = with_slot-lawful f d (File name size n) h (record { by = (l, grind (arith, nat_tests, e)) }) }
      by_test false e = leaves _

  -- so it is from a base
  seek_from-fits : (d : ℕ) (name : Name) (size distance : ℕ) (o : Option ℕ) → size < 2 ^ 56 → PlanFits f (seek_from f d name size distance o)
  seek_from-fits d name size distance None l = leaves _
  seek_from-fits d name size distance (Some base) l = moved_to-fits d name size (pos base +ℤ signed distance) l

  -- so it is by a call
  seek_plan-fits : (d : ℕ) (x : Descriptor) (distance whence : ℕ) → Fits x → PlanFits f (seek_plan f d x distance whence)
  seek_plan-fits d (File name size offset) distance whence l = seek_from-fits d name size distance (seek_base offset size whence) (l.by).0
  seek_plan-fits d Free distance whence l = leaves _
  seek_plan-fits d Null distance whence l = leaves _
  seek_plan-fits d Out distance whence l = leaves _
  seek_plan-fits d Err distance whence l = leaves _

  -- a read may be refused
  read_if-fits : (b : Bool) (d : ℕ) (spot : ReadSpot) (a : ℕ) → PlanFits f (Read d spot a) → PlanFits f (read_if b f d spot a)
  read_if-fits true d spot a l = l
  read_if-fits false d spot a l = leaves _

  -- a read ends in its file, or reads nothing
  read_plan-fits : (data_at : ℕ → Bool) (d : ℕ) (x : Descriptor) (a asked : ℕ) → slot f d ≡ x → Fits x → PlanFits f (read_plan data_at f d x a asked)
  read_plan-fits data_at d (File name size offset) a asked e l =
      let n : ℕ = read_count asked size offset in
      let small : size < 2 ^ 56 = (l.by).0 in
      let low : offset < 2 ^ 56 = (l.by).1 in
      let next : Fits (advanced (File name size offset) n) = record { by = (small, omega arith) } in
      read_if-fits (all_from data_at a n) d (record { name = name; offset = offset; count = n }) a
      (record { by = (low, omega (arith, file-below f.slots d name size offset e, h.count), subst (λ x. Fits (advanced x n)) (sym e) next) })
  read_plan-fits data_at d Free a asked e l = leaves _
  read_plan-fits data_at d Null a asked e l = leaves _
  read_plan-fits data_at d Out a asked e l = leaves _
  read_plan-fits data_at d Err a asked e l = leaves _

  -- a put leaves them
  put_if-fits : (b to_out : Bool) (a n : ℕ) → PlanFits f (put_if b f to_out a n)
  put_if-fits false to_out a n = leaves _
  put_if-fits true to_out a zero = leaves _
  put_if-fits true to_out a (suc n) = record { by = tt }

  -- so does a write
  write_plan-fits : (data_at : ℕ → Bool) (x : Descriptor) (a asked : ℕ) → PlanFits f (write_plan data_at f x a asked)
  write_plan-fits data_at Out a asked = put_if-fits (all_from data_at a (min asked 65536)) true a (min asked 65536)
  write_plan-fits data_at Err a asked = put_if-fits (all_from data_at a (min asked 65536)) false a (min asked 65536)
  write_plan-fits data_at Free a asked = leaves _
  write_plan-fits data_at Null a asked = leaves _
  write_plan-fits data_at (File name size offset) a asked = leaves _

  -- so does a move of the break
  break_plan-fits : (to : ℕ) → PlanFits f (break_plan f to)
  break_plan-fits to = by_test (nat_le f.break_start to && nat_le to f.break_most)
    where
      by_test : (b : Bool) → PlanFits f (elim b [ true ↦ Set (record f { break_at = to }) (pos to) | false ↦ Set f (pos f.break_at) ])
      by_test true = record { by = record { count = h.count; each = h.each } }
      by_test false = leaves _

  -- each call's plan fits
  pub plan_by-fits : (data_at : ℕ → Bool) (m : Memory) (kind : CallKind) (x10 x11 x12 : ℕ) → PlanFits f (plan_by data_at m f kind x10 x11 x12)
  plan_by-fits data_at m Open x10 x11 x12 = open_plan-fits data_at m x10 x11
  plan_by-fits data_at m OpenAt x10 x11 x12 = open_plan-fits data_at m x11 x12
  plan_by-fits data_at m Close x10 x11 x12 = close_plan-fits x10 (slot f x10)
  plan_by-fits data_at m Seek x10 x11 x12 = seek_plan-fits x10 (slot f x10) x11 x12 (Fits-slot f.slots x10 h.each)
  plan_by-fits data_at m ReadFile x10 x11 x12 = read_plan-fits data_at x10 (slot f x10) x11 x12 refl (Fits-slot f.slots x10 h.each)
  plan_by-fits data_at m WriteFile x10 x11 x12 = write_plan-fits data_at (slot f x10) x11 x12
  plan_by-fits data_at m ExitProgram x10 x11 x12 = record { by = tt }
  plan_by-fits data_at m Break x10 x11 x12 = break_plan-fits x10
  plan_by-fits data_at m Unknown x10 x11 x12 = leaves _

  -- an opened file has its size, and offset 0
  pub opened-lawful : (name : Name) (o : Option ℕ) → ((size : ℕ) → o ≡ Some size → size < 2 ^ 56) → Lawful ((opened f name o).0)
  opened-lawful name None l = h
  opened-lawful name (Some size) l = by_free (lowest_free f.slots 0)
    where
      by_free : (o : Option ℕ) → Lawful ((opened_at f name size o).0)
      by_free None = h
      by_free (Some d) = with_slot-lawful f d (File name size 0) h (record { by = (l size refl, lit< tt) })

  -- a read file has its next offset
  pub after_read-lawful : (d n : ℕ) → Fits (advanced (slot f d) n) → Lawful (after_read f d n)
  after_read-lawful d n l = with_slot-lawful f d (advanced (slot f d) n) h l

  -- a key is a number of 64 bits
  pub key-small : (c : CallPlan) → PlanFits f c → key_of c < 2 ^ 64
  key-small (Read d spot a) l = omega (arith, (l.by).0, (l.by).1)
  key-small (Set g answer) l = lit< tt
  key-small (Look name) l = lit< tt
  key-small (Write to_out a n) l = lit< tt
  key-small (Exit code) l = lit< tt
