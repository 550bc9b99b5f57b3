-- The file descriptors of a program, and its break (this project's own; the answers are those of Linux's errno.h, negated).
use Rattle.std.specs.Prelude.{ℕ, zero, suc, ◌+◌, ◌<◌, ℤ, negsuc, List, [], ◌∷◌, replicate, slice_get, slice_set, Option, Some, None, unwrap_or}
use Rattle.spec_base.specs.Files.{Name}

-- what a descriptor stands for
pub data Descriptor : Type 0 where
  Free : Descriptor
  Null : Descriptor
  Out : Descriptor
  Err : Descriptor
  File : (name : Name) (size offset : ℕ) → Descriptor

-- 32 descriptors, the break, the lowest break and the highest
pub record Descriptors : Type 0 where
  pub slots : List Descriptor
  pub break_at : ℕ
  pub break_start : ℕ
  pub break_most : ℕ

-- descriptor d; 32 and more count as Free
abbrev pub slot : Descriptors → ℕ → Descriptor
slot f d = unwrap_or (slice_get f.slots d) Free

-- the descriptors after one was set
abbrev pub with_slot : Descriptors → ℕ → Descriptor → Descriptors
with_slot f d x = record f { slots = slice_set f.slots d x }

-- at the start 0 is Null, 1 is Out, 2 is Err, and the others are Free
abbrev pub start_of : ℕ → ℕ → Descriptors
start_of break_start break_most =
    record { slots = Null ∷ Out ∷ Err ∷ replicate 29 Free; break_at = break_start; break_start = break_start; break_most = break_most }

-- the number of the lowest Free descriptor, counting from d on
abbrev pub lowest_free : List Descriptor → ℕ → Option ℕ
lowest_free [] d = None
lowest_free (Free ∷ slots) d = Some d
lowest_free (Null ∷ slots) d = lowest_free slots (d + 1)
lowest_free (Out ∷ slots) d = lowest_free slots (d + 1)
lowest_free (Err ∷ slots) d = lowest_free slots (d + 1)
lowest_free (File name size offset ∷ slots) d = lowest_free slots (d + 1)

-- ---- answers that refuse a call

-- no such file
abbrev pub ENOENT : ℤ
ENOENT = negsuc 1

-- no such descriptor
abbrev pub EBADF : ℤ
EBADF = negsuc 8

-- an address that isn't data
abbrev pub EFAULT : ℤ
EFAULT = negsuc 13

-- an argument that the call doesn't know
abbrev pub EINVAL : ℤ
EINVAL = negsuc 21

-- no free descriptor
abbrev pub EMFILE : ℤ
EMFILE = negsuc 23

-- a descriptor that can't be moved
abbrev pub ESPIPE : ℤ
ESPIPE = negsuc 28

-- a name that is too long
abbrev pub ENAMETOOLONG : ℤ
ENAMETOOLONG = negsuc 35

-- no such call
abbrev pub ENOSYS : ℤ
ENOSYS = negsuc 37
