-- The call table: what each call does before the outside is asked, and what its answer makes of the descriptors (this project's own; the numbers are those of RISC-V Linux, and 1024 for open as newlib has it).
use Rattle.std.specs.Prelude.{ℕ, zero, suc, ◌+◌, ◌-◌, ◌*◌, ◌%◌, ◌^◌, min, Bool, true, false, ◌&&◌, ◌||◌, ℤ, pos, negsuc, ◌+ℤ◌, List, [], ◌∷◌, ◌++◌, take, drop, nat_lt, nat_le, ◌==◌, Option, Some, None, unwrap_or}
use Rattle.spec_base.specs.Files.{Name, Files}
use Rattle.spec_base.specs.declared.spot.ReadSpot.{ReadSpot}
use Rattle.rv_model.specs.Memory.{Memory, all_from}
use Rattle.rv_model.specs.Arithmetic.{signed}
use Rattle.program_model.specs.Descriptors.{Descriptor, Free, Null, Out, Err, File, Descriptors, slot, with_slot, lowest_free, ENOENT, EBADF, EFAULT, EINVAL, EMFILE, ESPIPE, ENAMETOOLONG, ENOSYS}

-- what a call does before the outside is asked: an answer that is known, a look in the store, a read of a file, a put, or the end
pub data CallPlan : Type 0 where
  Set : (files : Descriptors) (answer : ℤ) → CallPlan
  Look : (name : Name) → CallPlan
  Read : (descriptor : ℕ) (spot : ReadSpot) (address : ℕ) → CallPlan
  Write : (to_out : Bool) (address count : ℕ) → CallPlan
  Exit : (code : ℕ) → CallPlan

-- ---- the calls by number

-- the calls of the table, and all others
pub data CallKind : Type 0 where
  Open : CallKind
  OpenAt : CallKind
  Close : CallKind
  Seek : CallKind
  ReadFile : CallKind
  WriteFile : CallKind
  ExitProgram : CallKind
  Break : CallKind
  Unknown : CallKind

-- which call a number asks for
abbrev pub kind_of : ℕ → CallKind
kind_of number =
    elim (number == 1024) [
      | true ↦ Open
      | false ↦
          elim (number == 56) [
            | true ↦ OpenAt
            | false ↦
                elim (number == 57) [
                  | true ↦ Close
                  | false ↦
                      elim (number == 62) [
                        | true ↦ Seek
                        | false ↦
                            elim (number == 63) [
                              | true ↦ ReadFile
                              | false ↦
                                  elim (number == 64) [
                                    | true ↦ WriteFile
                                    | false ↦
                                        elim ((number == 93) || (number == 94)) [
                                          | true ↦ ExitProgram
                                          | false ↦
                                              elim (number == 214) [ true ↦ Break | false ↦ Unknown ]
                                        ]
                                  ]
                            ]
                      ]
                ]
          ]
    ]

-- ---- names

-- what reading a name gives: an answer that refuses it, or its bytes
pub data Named : Type 0 where
  Refused : (answer : ℤ) → Named
  Whole : (name : Name) → Named

-- a name is read byte by byte, at most `left` bytes more, after those in `bytes`: a zero byte ends it
unfoldable pub name_from : (ℕ → Bool) → Memory → ℕ → ℕ → Name → Named
name_from data_at m a zero bytes = Refused ENAMETOOLONG
name_from data_at m a (suc left) bytes =
    elim (data_at a) [
      | true ↦ elim (m a == 0) [ true ↦ Whole bytes | false ↦ name_from data_at m (a + 1) left (bytes ++ m a ∷ []) ]
      | false ↦ Refused EFAULT
    ]

-- an empty name names no file
abbrev pub not_empty : Named → Named
not_empty (Refused answer) = Refused answer
not_empty (Whole []) = Refused ENOENT
not_empty (Whole (b ∷ bytes)) = Whole (b ∷ bytes)

-- the name at an address: 256 bytes without a zero are too long
abbrev pub name_at : (ℕ → Bool) → Memory → ℕ → Named
name_at data_at m a = not_empty (name_from data_at m a 256 [])

-- ---- open, openat

-- a file is looked for where a descriptor is free
abbrev pub look_if_free : Descriptors → Name → Option ℕ → CallPlan
look_if_free f name None = Set f EMFILE
look_if_free f name (Some d) = Look name

-- by what reading the name gave
abbrev pub open_named : Descriptors → Named → CallPlan
open_named f (Refused answer) = Set f answer
open_named f (Whole name) = look_if_free f name (lowest_free f.slots 0)

-- files are opened for reading: the lowest two bits of the flags are 0
abbrev pub open_plan : (ℕ → Bool) → Memory → Descriptors → ℕ → ℕ → CallPlan
open_plan data_at m f name flags = elim (flags % 4 == 0) [ true ↦ open_named f (name_at data_at m name) | false ↦ Set f EINVAL ]

-- ---- close

-- a descriptor is freed
abbrev pub close_plan : Descriptors → ℕ → Descriptor → CallPlan
close_plan f d Free = Set f EBADF
close_plan f d other = Set (with_slot f d Free) (pos 0)

-- ---- lseek

-- where a distance counts from
abbrev pub seek_base : ℕ → ℕ → ℕ → Option ℕ
seek_base offset size whence =
    elim (whence == 0) [
      | true ↦ Some 0
      | false ↦
          elim (whence == 1) [
            | true ↦ Some offset
            | false ↦
                elim (whence == 2) [ true ↦ Some size | false ↦ None ]
          ]
    ]

-- an offset is at least 0 and below 2^56
abbrev pub moved_to : Descriptors → ℕ → Name → ℕ → ℤ → CallPlan
moved_to f d name size (pos n) = elim (nat_lt n (2 ^ 56)) [ true ↦ Set (with_slot f d (File name size n)) (pos n) | false ↦ Set f EINVAL ]
moved_to f d name size (negsuc n) = Set f EINVAL

-- by where the distance counts from
abbrev pub seek_from : Descriptors → ℕ → Name → ℕ → ℕ → Option ℕ → CallPlan
seek_from f d name size distance None = Set f EINVAL
seek_from f d name size distance (Some base) = moved_to f d name size (pos base +ℤ signed distance)

-- an offset is moved
abbrev pub seek_plan : Descriptors → ℕ → Descriptor → ℕ → ℕ → CallPlan
seek_plan f d Free distance whence = Set f EBADF
seek_plan f d (File name size offset) distance whence = seek_from f d name size distance (seek_base offset size whence)
seek_plan f d other distance whence = Set f ESPIPE

-- ---- read

-- at most 65,536 bytes, and at most what is left of the file
abbrev pub read_count : ℕ → ℕ → ℕ → ℕ
read_count asked size offset = min asked (min 65536 (size - offset))

-- a read whose bytes are data (true), or one that is refused
abbrev pub read_if : Bool → Descriptors → ℕ → ReadSpot → ℕ → CallPlan
read_if true f d spot a = Read d spot a
read_if false f d spot a = Set f EFAULT

-- a read into the bytes from an address on
abbrev pub read_spot : (ℕ → Bool) → Descriptors → ℕ → ℕ → ReadSpot → CallPlan
read_spot data_at f d a spot = read_if (all_from data_at a spot.count) f d spot a

-- a read of a descriptor
abbrev pub read_plan : (ℕ → Bool) → Descriptors → ℕ → Descriptor → ℕ → ℕ → CallPlan
read_plan data_at f d (File name size offset) a asked = read_spot data_at f d a (record { name = name; offset = offset; count = read_count asked size offset })
read_plan data_at f d other a asked = Set f EBADF

-- ---- write

-- a write of no bytes answers 0 without a put
abbrev pub put_if : Bool → Descriptors → Bool → ℕ → ℕ → CallPlan
put_if false f to_out a n = Set f EFAULT
put_if true f to_out a zero = Set f (pos 0)
put_if true f to_out a (suc n) = Write to_out a (suc n)

-- a write of bytes that must be data
abbrev pub put_plan : (ℕ → Bool) → Descriptors → Bool → ℕ → ℕ → CallPlan
put_plan data_at f to_out a n = put_if (all_from data_at a n) f to_out a n

-- a write to a descriptor
abbrev pub write_plan : (ℕ → Bool) → Descriptors → Descriptor → ℕ → ℕ → CallPlan
write_plan data_at f Out a asked = put_plan data_at f true a (min asked 65536)
write_plan data_at f Err a asked = put_plan data_at f false a (min asked 65536)
write_plan data_at f other a asked = Set f EBADF

-- ---- brk

-- the break is moved within its bounds, and else stays
abbrev pub break_plan : Descriptors → ℕ → CallPlan
break_plan f to =
    elim (nat_le f.break_start to && nat_le to f.break_most) [ true ↦ Set (record f { break_at = to }) (pos to) | false ↦ Set f (pos f.break_at) ]

-- ---- the table

-- the plan of each call
abbrev pub plan_by : (ℕ → Bool) → Memory → Descriptors → CallKind → ℕ → ℕ → ℕ → CallPlan
plan_by data_at m f Open x10 x11 x12 = open_plan data_at m f x10 x11
plan_by data_at m f OpenAt x10 x11 x12 = open_plan data_at m f x11 x12
plan_by data_at m f Close x10 x11 x12 = close_plan f x10 (slot f x10)
plan_by data_at m f Seek x10 x11 x12 = seek_plan f x10 (slot f x10) x11 x12
plan_by data_at m f ReadFile x10 x11 x12 = read_plan data_at f x10 (slot f x10) x11 x12
plan_by data_at m f WriteFile x10 x11 x12 = write_plan data_at f (slot f x10) x11 x12
plan_by data_at m f ExitProgram x10 x11 x12 = Exit (x10 % 256)
plan_by data_at m f Break x10 x11 x12 = break_plan f x10
plan_by data_at m f Unknown x10 x11 x12 = Set f ENOSYS

-- the plan of a call, by which addresses are data, the memory, the descriptors, the number and three arguments
abbrev pub call_plan : (ℕ → Bool) → Memory → Descriptors → ℕ → ℕ → ℕ → ℕ → CallPlan
call_plan data_at m f number x10 x11 x12 = plan_by data_at m f (kind_of number) x10 x11 x12

-- ---- what the outside's answer makes of the descriptors

-- by the lowest free descriptor
abbrev pub opened_at : Descriptors → Name → ℕ → Option ℕ → Descriptors × ℤ
opened_at f name size None = (f, EMFILE)
opened_at f name size (Some d) = (with_slot f d (File name size 0), pos d)

-- after a look: the file's size, or none where it is absent
abbrev pub opened : Descriptors → Name → Option ℕ → Descriptors × ℤ
opened f name None = (f, ENOENT)
opened f name (Some size) = opened_at f name size (lowest_free f.slots 0)

-- a descriptor whose offset has moved on by so many bytes
abbrev pub advanced : Descriptor → ℕ → Descriptor
advanced (File name size offset) n = File name size (offset + n)
advanced other n = other

-- after a read of n bytes
abbrev pub after_read : Descriptors → ℕ → ℕ → Descriptors
after_read f d n = with_slot f d (advanced (slot f d) n)

-- the key of a call: 64 * offset + descriptor + 1 for a read of a file that isn't refused, and 0 for every other call
abbrev pub key_of : CallPlan → ℕ
key_of (Read d spot a) = 64 * spot.offset + d + 1
key_of other = 0

-- the bytes that a read gives
abbrev pub bytes_read : Files → ReadSpot → List ℕ
bytes_read files spot = take spot.count (drop spot.offset (unwrap_or (files spot.name) []))
