-- The demanded block, and how many own moves are left up to the next completed instruction.
use Rattle.std.proofs.Common.{◌≡◌, ℕ, zero, suc, ◌+◌, ◌-◌, ◌*◌, ◌/◌, ◌≤◌, ◌<◌, Bool, true, false, ◌&&◌, List, [], ◌∷◌, length, Option, Some, None, refl, ◌∙◌, ap, sym, ◌==◌, arith, is_some, nat_le, nat_lt, ◌%◌, ◌^◌, ℤ, pos, negsuc}
use Rattle.std.specs.Prelude.{⊤, min, ◌+ℤ◌}
use Rattle.std.proofs.lemmas.Bool.Decides.{nat_tests}
use Rattle.spec_base.specs.Files.{Name}
use Rattle.spec_base.specs.declared.machine.View.{View}
use Rattle.spec_base.specs.declared.machine.View.TheVariants.{Plain, Program, Stub, Shadow}
use Rattle.spec_base.specs.declared.spot.BlockSpot.{BlockSpot}
use Rattle.spec_base.specs.declared.spot.ReadSpot.{ReadSpot}
use Rattle.rv_model.specs.Memory.{Memory, all_from}
use Rattle.rv_model.specs.Registers.{Registers, reg}
use Rattle.rv_model.specs.Arithmetic.{signed}
use Rattle.program_model.specs.Descriptors.{Descriptor, Free, Out, Err, File, Descriptors, slot, with_slot, lowest_free, EINVAL}
use Rattle.program_model.specs.Calls.{CallPlan, Set, Look, Read, Write, Exit, CallKind, Open, OpenAt, Close, Seek, ReadFile, WriteFile, ExitProgram, Break, Unknown, kind_of, Named, Refused, Whole, name_at, look_if_free, open_named, open_plan, close_plan, seek_base, moved_to, seek_from, seek_plan, read_count, read_if, read_plan, put_if, write_plan, break_plan, plan_by}
use Rattle.program_model.specs.Cache.{Cache, Gathered, gather, blocks_up, blocks_of, blocks_touched, holds, need_if, needed}
use Rattle.program_model.specs.PlainRun.{State}
use Rattle.run_model.specs.Run.{World, Run}
use Rattle.own_laws.proofs.OwnSide.{plan}
use Rattle.own_laws.proofs.Reached.{false_true}
use Rattle.own_laws.proofs.Side.{Side, Tally}
use Rattle.own_laws.proofs.StubRows.{left}
use Rattle.own_laws.proofs.StubWords.{stub_side}

-- ---- how many own moves are left

-- at the call each block may take two: it is demanded, and it is there
abbrev pub call_rank : Bool → ℕ → ℕ
call_rank true gathered = 2 * (17 - gathered)
call_rank false gathered = 2 * (17 - gathered) + 1

-- by the view, the blocks that are gathered, and the word of the stub
abbrev view_rank : View → Bool → ℕ → ℕ → ℕ
view_rank Stub stalled gathered k = left k + call_rank stalled gathered
view_rank Program stalled gathered k = 101
view_rank Plain stalled gathered k = 101
view_rank Shadow stalled gathered k = 101

-- the number of own moves up to the next completed instruction, at most; a stall counts as one
pub rank : Side → ℕ
rank p = view_rank p.view p.stalled p.tally.gathered ((p.own.pc - 0x417F_FFFC) / 4)

-- at word k of the stub
pub rank-stub : (q s : State) (t : Tally) (stalled : Bool) (k : ℕ) (rs : Registers) (page : Memory)
    → rank (record (stub_side q t k rs page) { own = record s { registers = rs; pc = 0x417F_FFFC + 4 * k }; stalled = stalled }) ≡ left k + call_rank stalled t.gathered
unfolding rank
rank-stub q s t stalled k rs page = ap (λ n. left n + call_rank stalled t.gathered) (place k)
  where
    place : (k : ℕ) → (0x417F_FFFC + 4 * k - 0x417F_FFFC) / 4 ≡ k
    place k = omega arith

-- in the program
pub rank-program : (p : Side) → p.view ≡ Program → rank p ≡ 101
unfolding rank
rank-program p e = ap (λ v. view_rank v p.stalled p.tally.gathered ((p.own.pc - 0x417F_FFFC) / 4)) e

-- the call takes at most 35 of them
pub call_rank-most : (stalled : Bool) (gathered : ℕ) → call_rank stalled gathered ≤ 35
call_rank-most true gathered = omega arith
call_rank-most false gathered = omega arith

-- the words at most 102
left-most : (k : ℕ) → left k ≤ 102
left-most k = grind (arith, nat_tests)

-- at most 137 own moves are left
pub rank-most : (p : Side) → rank p ≤ 137
unfolding rank
rank-most p = by_view p.view
  where
    k : ℕ
    k = (p.own.pc - 0x417F_FFFC) / 4

    by_view : (v : View) → view_rank v p.stalled p.tally.gathered k ≤ 137
    by_view Stub = omega (arith, left-most k, call_rank-most p.stalled p.tally.gathered)
    by_view Program = omega arith
    by_view Plain = omega arith
    by_view Shadow = omega arith

-- ---- the demanded block

-- the own hart is stalled exactly where a block is demanded, and then it has fewer than 17
pub record Demand (r : Run) : Type 0 where
  pub same : r.stalled ≡ is_some r.cache.demanded
  pub room : r.stalled ≡ true → r.gathered < 17

-- a run whose own hart isn't stalled demands nothing
pub calm : (r : Run) → r.stalled ≡ false → is_some r.cache.demanded ≡ false → Demand r
calm r e f = record { same = e ∙ sym f; room = λ t. false_true (sym e ∙ t) }

-- blocks that are there leave what is demanded; else one is, and fewer than all were had
pub record GatherOf (c : Cache) (had n : ℕ) (g : Gathered) : Type 0 where
  pub more : had ≤ g.had
  pub here : g.waits ≡ false → g.cache.demanded ≡ c.demanded
  pub waiting : g.waits ≡ true → (is_some g.cache.demanded ≡ true) × (g.had < had + n)

-- gathering does so
pub gather-of : (c : Cache) (had : ℕ) (spots : List BlockSpot) → GatherOf c had (length spots) (gather c had spots)
unfolding gather
gather-of c had [] = record { more = omega arith; here = λ e. refl; waiting = λ e. false_true e }
gather-of c had (spot ∷ spots) = by_test (holds c.cached spot) (needed c spot) refl (gather-of (needed c spot) (had + 1) spots)
  where
    by_test : (b : Bool) (after : Cache) → after ≡ need_if b c spot → GatherOf after (had + 1) (length spots) (gather after (had + 1) spots)
        → GatherOf c had (suc (length spots)) (elim b [ true ↦ gather after (had + 1) spots | false ↦ record { cache = after; had = had; waits = true } ])
    by_test true after is h =
        record { more = omega (arith, h.more); here = λ e. h.here e ∙ ap (λ x. x.demanded) is; waiting = λ e. ((h.waiting e).0, omega (arith, (h.waiting e).1)) }
    by_test false after is h = record { more = omega arith; here = λ e. false_true (sym e); waiting = λ e. (ap (λ x. is_some x.demanded) is, omega arith) }

-- ---- a read has at most 17 blocks

-- n blocks are n
pub length-blocks_up : (name : Name) (first n : ℕ) → length (blocks_up name first n) ≡ n
length-blocks_up name first zero = refl
length-blocks_up name first (suc n) = ap suc (length-blocks_up name (first + 1) n)

-- 17 blocks hold 65,536 bytes at any offset
pub few_blocks : (spot : ReadSpot) → spot.count ≤ 65536 → length (blocks_of spot) ≤ 17
few_blocks spot h = by_count spot.count h
  where
    by_count : (n : ℕ) → n ≤ 65536 → length (blocks_touched spot n) ≤ 17
    by_count zero h = omega arith
    by_count (suc n) h = omega (arith, length-blocks_up spot.name (spot.offset / 4096) ((spot.offset + n) / 4096 - spot.offset / 4096 + 1))

-- a planned read has at most 65,536 bytes
abbrev SmallIn : CallPlan → Type 0
SmallIn (Read d spot a) = spot.count ≤ 65536
SmallIn (Set f answer) = ⊤
SmallIn (Look name) = ⊤
SmallIn (Write to_out a n) = ⊤
SmallIn (Exit code) = ⊤

pub record Small (c : CallPlan) : Type 0 where
  pub by : SmallIn c

-- a look in the store is no read
look_if_free-small : (f : Descriptors) (name : Name) (o : Option ℕ) → Small (look_if_free f name o)
look_if_free-small f name None = record { by = tt }
look_if_free-small f name (Some d) = record { by = tt }

-- nor is an open by a name
open_named-small : (f : Descriptors) (n : Named) → Small (open_named f n)
open_named-small f (Refused answer) = record { by = tt }
open_named-small f (Whole name) = look_if_free-small f name (lowest_free f.slots 0)

-- nor by an address
open_plan-small : (data_at : ℕ → Bool) (m : Memory) (f : Descriptors) (name flags : ℕ) → Small (open_plan data_at m f name flags)
open_plan-small data_at m f name flags = by_test (flags % 4 == 0)
  where
    by_test : (b : Bool) → Small (elim b [ true ↦ open_named f (name_at data_at m name) | false ↦ Set f EINVAL ])
    by_test true = open_named-small f (name_at data_at m name)
    by_test false = record { by = tt }

-- nor a close
close_plan-small : (f : Descriptors) (d : ℕ) (x : Descriptor) → Small (close_plan f d x)
close_plan-small f d Free = record { by = tt }
close_plan-small f d _ = record { by = tt }

-- nor a move of an offset
moved_to-small : (f : Descriptors) (d : ℕ) (name : Name) (size : ℕ) (z : ℤ) → Small (moved_to f d name size z)
moved_to-small f d name size (negsuc n) = record { by = tt }
moved_to-small f d name size (pos n) = by_test (nat_lt n (2 ^ 56))
  where
    by_test : (b : Bool) → Small (elim b [ true ↦ Set (with_slot f d (File name size n)) (pos n) | false ↦ Set f EINVAL ])
    by_test true = record { by = tt }
    by_test false = record { by = tt }

-- from a base
seek_from-small : (f : Descriptors) (d : ℕ) (name : Name) (size distance : ℕ) (o : Option ℕ) → Small (seek_from f d name size distance o)
seek_from-small f d name size distance None = record { by = tt }
seek_from-small f d name size distance (Some base) = moved_to-small f d name size (pos base +ℤ signed distance)

-- by a call
seek_plan-small : (f : Descriptors) (d : ℕ) (x : Descriptor) (distance whence : ℕ) → Small (seek_plan f d x distance whence)
seek_plan-small f d (File name size offset) distance whence = seek_from-small f d name size distance (seek_base offset size whence)
seek_plan-small f d Free distance whence = record { by = tt }
seek_plan-small f d _ distance whence = record { by = tt }

-- a small read that may be refused is small
read_if-small : (b : Bool) (f : Descriptors) (d : ℕ) (spot : ReadSpot) (a : ℕ) → spot.count ≤ 65536 → Small (read_if b f d spot a)
read_if-small true f d spot a h = record { by = h }
read_if-small false f d spot a h = record { by = tt }

-- a read asks for at most 65,536 bytes
read_plan-small : (data_at : ℕ → Bool) (f : Descriptors) (d : ℕ) (x : Descriptor) (a asked : ℕ) → Small (read_plan data_at f d x a asked)
read_plan-small data_at f d (File name size offset) a asked =
    read_if-small (all_from data_at a (read_count asked size offset)) f d (record { name = name; offset = offset; count = read_count asked size offset }) a (omega arith)
read_plan-small data_at f d _ a asked = record { by = tt }

-- a put is no read
put_if-small : (b : Bool) (f : Descriptors) (to_out : Bool) (a n : ℕ) → Small (put_if b f to_out a n)
put_if-small false f to_out a n = record { by = tt }
put_if-small true f to_out a zero = record { by = tt }
put_if-small true f to_out a (suc n) = record { by = tt }

-- nor is a write
write_plan-small : (data_at : ℕ → Bool) (f : Descriptors) (x : Descriptor) (a asked : ℕ) → Small (write_plan data_at f x a asked)
write_plan-small data_at f Out a asked = put_if-small (all_from data_at a (min asked 65536)) f true a (min asked 65536)
write_plan-small data_at f Err a asked = put_if-small (all_from data_at a (min asked 65536)) f false a (min asked 65536)
write_plan-small data_at f _ a asked = record { by = tt }

-- nor is a move of the break
break_plan-small : (f : Descriptors) (to : ℕ) → Small (break_plan f to)
break_plan-small f to = by_test (nat_le f.break_start to && nat_le to f.break_most)
  where
    by_test : (b : Bool) → Small (elim b [ true ↦ Set (record f { break_at = to }) (pos to) | false ↦ Set f (pos f.break_at) ])
    by_test true = record { by = tt }
    by_test false = record { by = tt }

-- each kind of call plans a small read, if any
plan_by-small : (data_at : ℕ → Bool) (m : Memory) (f : Descriptors) (kind : CallKind) (x10 x11 x12 : ℕ) → Small (plan_by data_at m f kind x10 x11 x12)
plan_by-small data_at m f Open x10 x11 x12 = open_plan-small data_at m f x10 x11
plan_by-small data_at m f OpenAt x10 x11 x12 = open_plan-small data_at m f x11 x12
plan_by-small data_at m f Close x10 x11 x12 = close_plan-small f x10 (slot f x10)
plan_by-small data_at m f Seek x10 x11 x12 = seek_plan-small f x10 (slot f x10) x11 x12
plan_by-small data_at m f ReadFile x10 x11 x12 = read_plan-small data_at f x10 (slot f x10) x11 x12
plan_by-small data_at m f WriteFile x10 x11 x12 = write_plan-small data_at f (slot f x10) x11 x12
plan_by-small data_at m f ExitProgram x10 x11 x12 = record { by = tt }
plan_by-small data_at m f Break x10 x11 x12 = break_plan-small f x10
plan_by-small data_at m f Unknown x10 x11 x12 = record { by = tt }

-- each call plans a small read, if any
pub plan-small : (w : World) (q : State) → Small (plan w q)
plan-small w q = plan_by-small _ q.memory q.files (kind_of (reg q.registers 17)) (reg q.registers 10) (reg q.registers 11) (reg q.registers 12)
