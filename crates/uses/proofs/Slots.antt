-- Descriptors after one was set.
use Rattle.std.proofs.Common.{◌≡◌, ◌⊎◌, ◌∙◌, inl, inr, ℕ, zero, suc, ◌+◌, Bool, true, false, ℤ, pos, List, [], ◌∷◌, Option, Some, None, refl, sym, ap, subst, arith}
use Rattle.std.specs.Prelude.{slice_get, slice_set, unwrap_or}
use Rattle.spec_base.specs.Files.{Name}
use Rattle.spec_base.specs.declared.spot.ReadSpot.{ReadSpot}
use Rattle.rv_model.specs.Memory.{all_from}
use Rattle.program_model.specs.Descriptors.{Descriptor, Free, Null, Out, Err, File, Descriptors, slot, with_slot, lowest_free, EBADF, EMFILE}
use Rattle.program_model.specs.Calls.{CallPlan, Set, Look, Read, Write, Exit, read_count, read_if, read_plan, close_plan, opened, opened_at, advanced, after_read}

-- a descriptor that was set is what it was set to, and there is none past the last
set_or_free : (slots : List Descriptor) (d : ℕ) (x : Descriptor) → (unwrap_or (slice_get (slice_set slots d x) d) Free ≡ x) ⊎ (unwrap_or (slice_get (slice_set slots d x) d) Free ≡ Free)
set_or_free [] d x = inr refl
set_or_free (y ∷ slots) zero x = inl refl
set_or_free (y ∷ slots) (suc d) x = set_or_free slots d x

pub slot-set : (f : Descriptors) (d : ℕ) (x : Descriptor) → (slot (with_slot f d x) d ≡ x) ⊎ (slot (with_slot f d x) d ≡ Free)
slot-set f d x = set_or_free f.slots d x

-- a descriptor that was freed is free
freed : (slots : List Descriptor) (d : ℕ) → unwrap_or (slice_get (slice_set slots d Free) d) Free ≡ Free
freed [] d = refl
freed (y ∷ slots) zero = refl
freed (y ∷ slots) (suc d) = freed slots d

pub slot-freed : (f : Descriptors) (d : ℕ) → slot (with_slot f d Free) d ≡ Free
slot-freed f d = freed f.slots d

-- an offset that moves on by nothing stays
stays : (x : Descriptor) → advanced x 0 ≡ x
stays (File name size offset) = let same : offset + 0 ≡ offset = omega arith in ap (λ (n : ℕ). File name size n) same
stays Free = refl
stays Null = refl
stays Out = refl
stays Err = refl

all_stay : (slots : List Descriptor) (d : ℕ) → slice_set slots d (advanced (unwrap_or (slice_get slots d) Free) 0) ≡ slots
all_stay [] d = refl
all_stay (y ∷ slots) zero = ap (λ (x : Descriptor). x ∷ slots) (stays y)
all_stay (y ∷ slots) (suc d) = ap (λ (rest : List Descriptor). y ∷ rest) (all_stay slots d)

-- after a read of no bytes all descriptors are as they were
pub nothing_read : (f : Descriptors) (d : ℕ) → after_read f d 0 ≡ f
nothing_read f d = ap (λ (slots : List Descriptor). record f { slots = slots }) (all_stay f.slots d)

-- ---- a file that was opened

-- what a read of a descriptor reads, where that is this file at its start
reads_start : (data_at : ℕ → Bool) (g : Descriptors) (name : Name) (size d a asked e b : ℕ) (spot : ReadSpot) (x : Descriptor) → (x ≡ File name size 0) ⊎ (x ≡ Free)
    → Read e spot b ≡ read_plan data_at g d x a asked → (spot.name ≡ name) × (spot.offset ≡ 0)
reads_start data_at g name size d a asked e b spot x (inl file) is =
    by_data (all_from data_at a (read_count asked size 0)) (is ∙ ap (λ (x : Descriptor). read_plan data_at g d x a asked) file)
  where
    opens : ReadSpot
    opens = record { name = name; offset = 0; count = read_count asked size 0 }

    by_data : (whole : Bool) → Read e spot b ≡ read_if whole g d opens a → (spot.name ≡ name) × (spot.offset ≡ 0)
    by_data true same = (ap (λ (c : CallPlan). (spot_of c).name) same, ap (λ (c : CallPlan). (spot_of c).offset) same)
      where
        spot_of : CallPlan → ReadSpot
        spot_of (Read e spot b) = spot
        spot_of (Set f answer) = opens
        spot_of (Look n) = opens
        spot_of (Write o p q) = opens
        spot_of (Exit q) = opens
    by_data false same = absurd cc
reads_start data_at g name size d a asked e b spot x (inr free) is =
    absurd (let refused : Read e spot b ≡ Set g EBADF = is ∙ ap (λ (x : Descriptor). read_plan data_at g d x a asked) free in cc)

-- a file that was opened as this descriptor
pub opened-read : (data_at : ℕ → Bool) (f g : Descriptors) (answer : ℤ) (name : Name) (size d a asked e b : ℕ) (spot : ReadSpot)
    → (g, answer) ≡ opened f name (Some size) → answer ≡ pos d → Read e spot b ≡ read_plan data_at g d (slot g d) a asked → (spot.name ≡ name) × (spot.offset ≡ 0)
opened-read data_at f g answer name size d a asked e b spot is given reads = by_free (lowest_free f.slots 0) is
  where
    by_free : (o : Option ℕ) → (g, answer) ≡ opened_at f name size o → (spot.name ≡ name) × (spot.offset ≡ 0)
    by_free None full = absurd (let no : pos d ≡ EMFILE = sym given ∙ ap (λ (p : Descriptors × ℤ). p.1) full in cc)
    by_free (Some n) taken =
        let same : pos n ≡ pos d = sym (ap (λ (p : Descriptors × ℤ). p.1) taken) ∙ given in
        let number : n ≡ d = cc in
        let after : g ≡ with_slot f d (File name size 0) = ap (λ (p : Descriptors × ℤ). p.0) taken ∙ ap (λ (n : ℕ). with_slot f n (File name size 0)) number in
        reads_start data_at g name size d a asked e b spot (slot g d) (subst (λ (g : Descriptors). (slot g d ≡ File name size 0) ⊎ (slot g d ≡ Free)) (sym after) (slot-set f d (File name size 0))) reads

-- ---- a descriptor that was closed

-- behind a close a descriptor is free
pub closed-free : (f g : Descriptors) (d : ℕ) (answer : ℤ) → Set g answer ≡ close_plan f d (slot f d) → slot g d ≡ Free
closed-free f g d answer is = by_slot (slot f d) refl is
  where
    frees : Set g answer ≡ Set (with_slot f d Free) (pos 0) → slot g d ≡ Free
    frees is = let same : g ≡ with_slot f d Free = cc in ap (λ (g : Descriptors). slot g d) same ∙ slot-freed f d

    by_slot : (x : Descriptor) → slot f d ≡ x → Set g answer ≡ close_plan f d x → slot g d ≡ Free
    by_slot Free e is = let same : g ≡ f = cc in ap (λ (g : Descriptors). slot g d) same ∙ e
    by_slot Null e is = frees is
    by_slot Out e is = frees is
    by_slot Err e is = frees is
    by_slot (File name size offset) e is = frees is

pub closed-read : (data_at : ℕ → Bool) (f g : Descriptors) (d a asked : ℕ) (answer : ℤ) → Set g answer ≡ close_plan f d (slot f d) → read_plan data_at g d (slot g d) a asked ≡ Set g EBADF
closed-read data_at f g d a asked answer is = ap (λ (x : Descriptor). read_plan data_at g d x a asked) (closed-free f g d answer is)
