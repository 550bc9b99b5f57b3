-- A plan asks memory only for data.
use Rattle.std.proofs.Common.{◌≡◌, ℕ, zero, suc, ◌+◌, ◌^◌, Bool, true, false, nat_lt, ◌==◌, ◌%◌, [], ◌∷◌, ◌++◌, Some, None, refl, ap, ◌∙◌}
use Rattle.std.specs.Prelude.{is_some, unwrap_or}
use Rattle.spec_base.specs.Files.{Name}
use Rattle.rv_model.specs.Memory.{Memory}
use Rattle.rv_model.specs.Rights.{is_data}
use Rattle.rv_model.specs.Space.{Space}
use Rattle.program_model.specs.Descriptors.{Descriptors}
use Rattle.program_model.specs.Calls.{CallPlan, CallKind, Open, OpenAt, Close, Seek, ReadFile, WriteFile, ExitProgram, Break, Unknown, kind_of, plan_by, call_plan, Named, Refused, Whole, name_from, not_empty, open_named, open_plan, Set}
use Rattle.program_model.specs.Descriptors.{EINVAL, EFAULT}
use Rattle.code_model.specs.Regions.{shadowed}
use Rattle.hart_mem.specs.Held.{data_byte}
use Rattle.cow_regions.specs.Views.{shadowed_byte}
use Rattle.rv_model.specs.Data.{byte_if, data_in, memory_in}
use Rattle.hart_mem.proofs.DataBytes.{data-is}

abbrev AgreeOn : (ℕ → Bool) → Memory → Memory → Type 0
AgreeOn data_at m n = (a : ℕ) → data_at a ≡ true → m a ≡ n a

-- a byte of a name, and what follows it
abbrev read_byte : Bool → ℕ → (ℕ → Named) → Name → Named
read_byte t x rest bytes = elim t [ true ↦ elim (x == 0) [ true ↦ Whole bytes | false ↦ rest x ] | false ↦ Refused EFAULT ]

read-same : (t : Bool) (x y : ℕ) (f g : ℕ → Named) (bytes : Name) → (t ≡ true → x ≡ y) → ((z : ℕ) → f z ≡ g z) → read_byte t x f bytes ≡ read_byte t y g bytes
read-same true x y f g bytes e h = λ i. read_byte true (e refl i) (λ z. h z i) bytes
read-same false x y f g bytes e h = refl

name_from-same : (data_at : ℕ → Bool) (m n : Memory) → AgreeOn data_at m n → (left a : ℕ) (bytes : Name) → name_from data_at m a left bytes ≡ name_from data_at n a left bytes
unfolding name_from
name_from-same data_at m n same zero a bytes = refl
name_from-same data_at m n same (suc left) a bytes =
    read-same (data_at a) (m a) (n a) (λ z. name_from data_at m (a + 1) left (bytes ++ z ∷ [])) (λ z. name_from data_at n (a + 1) left (bytes ++ z ∷ [])) bytes (same a)
    (λ z. name_from-same data_at m n same left (a + 1) (bytes ++ z ∷ []))

-- by the flags
abbrev open_if : Descriptors → Bool → Named → CallPlan
open_if f t x = elim t [ true ↦ open_named f (not_empty x) | false ↦ Set f EINVAL ]

module _ (data_at : ℕ → Bool) (m n : Memory) (same : AgreeOn data_at m n) (f : Descriptors) where
  open-same : (name flags : ℕ) → open_plan data_at m f name flags ≡ open_plan data_at n f name flags
  open-same name flags = ap (λ (x : Named). open_if f (flags % 4 == 0) x) (name_from-same data_at m n same 256 name [])

  plan_by-same : (k : CallKind) (x10 x11 x12 : ℕ) → plan_by data_at m f k x10 x11 x12 ≡ plan_by data_at n f k x10 x11 x12
  plan_by-same Open x10 x11 x12 = open-same x10 x11
  plan_by-same OpenAt x10 x11 x12 = open-same x11 x12
  plan_by-same Close x10 x11 x12 = refl
  plan_by-same Seek x10 x11 x12 = refl
  plan_by-same ReadFile x10 x11 x12 = refl
  plan_by-same WriteFile x10 x11 x12 = refl
  plan_by-same ExitProgram x10 x11 x12 = refl
  plan_by-same Break x10 x11 x12 = refl
  plan_by-same Unknown x10 x11 x12 = refl

  -- plans over memories that agree on the data are the same
  pub call_plan-same : (number x10 x11 x12 : ℕ) → call_plan data_at m f number x10 x11 x12 ≡ call_plan data_at n f number x10 x11 x12
  call_plan-same number x10 x11 x12 = plan_by-same (kind_of number) x10 x11 x12

-- ---- what the code asks

the_byte : (b d : Bool) (x : ℕ) → d ≡ true → is_some (byte_if b (elim d [ true ↦ Some x | false ↦ None ])) ≡ d → unwrap_or (byte_if b (elim d [ true ↦ Some x | false ↦ None ])) 0 ≡ x
the_byte true true x e h = refl
the_byte false true x e h = absurd (let g : false ≡ true = h in cc)
the_byte b false x e h = absurd (let g : false ≡ true = e in cc)

-- the memory with the copies in place of the program
abbrev as_copied : Space → Space
as_copied s = record s { program = shadowed s.shared s.program }

pub data-in_copies : (s : Space) → data_in (shadowed_byte s) ≡ is_data s.layout
data-in_copies s = data-is (as_copied s)

bytes-in_copies : (s : Space) → AgreeOn (is_data s.layout) (memory_in (shadowed_byte s)) (shadowed s.shared s.program)
bytes-in_copies s a h = the_byte (nat_lt a (2 ^ 64)) (is_data s.layout a) (shadowed s.shared s.program a) h (ap (λ (t : ℕ → Bool). t a) (data-in_copies s))

-- the plan that the code makes is that of the run
pub plan-in_copies :
    (s : Space) (f : Descriptors) (number x10 x11 x12 : ℕ) →
    call_plan (data_in (shadowed_byte s)) (memory_in (shadowed_byte s)) f number x10 x11 x12 ≡ call_plan (is_data s.layout) (shadowed s.shared s.program) f number x10 x11 x12
plan-in_copies s f number x10 x11 x12 =
    ap (λ (t : ℕ → Bool). call_plan t (memory_in (shadowed_byte s)) f number x10 x11 x12) (data-in_copies s)
    ∙ call_plan-same (is_data s.layout) (memory_in (shadowed_byte s)) (shadowed s.shared s.program) (bytes-in_copies s) f number x10 x11 x12

-- ---- the same of the program's own data

pub data-in_own : (s : Space) → data_in (data_byte s) ≡ is_data s.layout
data-in_own s = data-is s

bytes-in_own : (s : Space) → AgreeOn (is_data s.layout) (memory_in (data_byte s)) s.program
bytes-in_own s a h = the_byte (nat_lt a (2 ^ 64)) (is_data s.layout a) (s.program a) h (ap (λ (t : ℕ → Bool). t a) (data-in_own s))

pub plan-in_own :
    (s : Space) (f : Descriptors) (number x10 x11 x12 : ℕ) →
    call_plan (data_in (data_byte s)) (memory_in (data_byte s)) f number x10 x11 x12 ≡ call_plan (is_data s.layout) s.program f number x10 x11 x12
plan-in_own s f number x10 x11 x12 =
    ap (λ (t : ℕ → Bool). call_plan t (memory_in (data_byte s)) f number x10 x11 x12) (data-in_own s)
    ∙ call_plan-same (is_data s.layout) (memory_in (data_byte s)) s.program (bytes-in_own s) f number x10 x11 x12
