-- What the stub holds of the link, whatever else comes between: from word 29 up to the restart the shadow is stopped, so that what was stored stays there; elsewhere the stub stores the log's head alone.
use Rattle.std.proofs.Common.{◌≡◌, ℕ, ◌+◌, ◌-◌, ◌≤◌, ◌<◌, ◌⊎◌, inl, inr, Bool, true, false, refl, arith, nat_le, subst, sym}
use Rattle.std.specs.Prelude.{⊤}
use Rattle.std.proofs.lemmas.Bool.Decides.{nat_tests}
use Rattle.spec_base.specs.declared.note.ShadowState.{ShadowState}
use Rattle.spec_base.specs.declared.note.ShadowState.TheVariants.{Stopped}
use Rattle.spec_base.specs.Word.{byte_of}
use Rattle.rv_model.specs.Memory.{Memory, stored}
use Rattle.rv_model.proofs.Laws.{patched_outside}
use Rattle.program_model.specs.PlainRun.{State}
use Rattle.code_model.specs.Log.{log_head, log_tail}
use Rattle.run_laws.specs.StubLaws.{IsEmpty}
use Rattle.own_laws.proofs.LogChanges.{BoxedTo}

-- ---- what is held before each word

-- nothing; the shadow is stopped; the log's head is 0 too; its tail too; the box has the site and registers up to j too
pub data Level : Type 0 where
  free : Level
  halted : Level
  headless : Level
  emptied : Level
  boxing : (j : ℕ) → Level

-- how many registers have gone into the box before a word
abbrev pub boxed_before : ℕ → ℕ
boxed_before k = elim (nat_le k 36) [ true ↦ 0 | false ↦ elim (nat_le k 66) [ true ↦ k - 37 | false ↦ elim (nat_le k 68) [ true ↦ 30 | false ↦ 31 ] ] ]

abbrev pub level : ℕ → Level
level k =
    elim (nat_le k 28) [
      | true ↦ free
      | false ↦
          elim (nat_le k 30) [
            | true ↦ halted
            | false ↦ elim (nat_le k 31) [ true ↦ headless | false ↦ elim (nat_le k 34) [ true ↦ emptied | false ↦ elim (nat_le k 70) [ true ↦ boxing (boxed_before k) | false ↦ free ] ] ]
          ]
    ]

-- what is held of the link and of the shadow's state
abbrev pub Held : State → Level → Memory → ShadowState → Type 0
Held q free m s = ⊤
Held q halted m s = (s ≡ Stopped)
Held q headless m s = (s ≡ Stopped) × (log_head m ≡ 0)
Held q emptied m s = (s ≡ Stopped) × IsEmpty m
Held q (boxing j) m s = (s ≡ Stopped) × IsEmpty m × BoxedTo m q.pc q.registers j

-- the link is left, or its head alone is stored, or the shadow is stopped
pub data LinkChange (m m' : Memory) (s : ShadowState) : Type 0 where
  same : m' ≡ m → LinkChange m m' s
  head : (v : ℕ) → m' ≡ stored m 0x4200_0000 8 v → LinkChange m m' s
  stopped_first : s ≡ Stopped → LinkChange m m' s

-- before word 37 + j registers up to j are in the box
pub level-register : (j : ℕ) → j < 30 → level (37 + j) ≡ boxing j
level-register j h = grind (arith, nat_tests)

-- ---- levels

-- nothing is held
abbrev pub IsFree : Level → Type 0
IsFree free = ⊤
IsFree halted = ⊥
IsFree headless = ⊥
IsFree emptied = ⊥
IsFree (boxing j) = ⊥

-- the shadow is stopped, and the link is as it was
abbrev pub IsHalted : Level → Type 0
IsHalted free = ⊥
IsHalted halted = ⊤
IsHalted headless = ⊥
IsHalted emptied = ⊥
IsHalted (boxing j) = ⊥

-- the log's head is 0, and its tail isn't yet
abbrev pub IsHeadless : Level → Type 0
IsHeadless free = ⊥
IsHeadless halted = ⊥
IsHeadless headless = ⊤
IsHeadless emptied = ⊥
IsHeadless (boxing j) = ⊥

-- the box is being written
abbrev pub IsBoxing : Level → Type 0
IsBoxing free = ⊥
IsBoxing halted = ⊥
IsBoxing headless = ⊥
IsBoxing emptied = ⊥
IsBoxing (boxing j) = ⊤

-- or it isn't
boxes : (v : Level) → IsBoxing v ⊎ (IsBoxing v → ⊥)
boxes free = inr (λ b. b)
boxes halted = inr (λ b. b)
boxes headless = inr (λ b. b)
boxes emptied = inr (λ b. b)
boxes (boxing j) = inl tt

halted-headless : (v : Level) → IsHalted v → IsHeadless v → ⊥
halted-headless halted h e = e
halted-headless free h e = h
halted-headless headless h e = h
halted-headless emptied h e = h
halted-headless (boxing j) h e = h

-- where nothing is held, anything may be
pub free-held : (q : State) (v : Level) (m : Memory) (s : ShadowState) → IsFree v → Held q v m s
free-held q free m s f = tt
free-held q halted m s f = absurd f
free-held q headless m s f = absurd f
free-held q emptied m s f = absurd f
free-held q (boxing j) m s f = absurd f

-- the box and all behind it are left
abbrev pub LeavesBox : Memory → Memory → Type 0
LeavesBox m m' = (a : ℕ) → 0x4200_1000 ≤ a → m' a ≡ m a

-- so it is by a store below
pub store-leaves_box : (m : Memory) (place v : ℕ) → place + 8 ≤ 0x4200_1000 → LeavesBox m (stored m place 8 v)
store-leaves_box m place v h a l = patched_outside m place 8 (byte_of v) a (λ e f. omega (arith, e, f, l, h))

-- the box is left by each word but those that write it
abbrev pub BoxChange : Level → Level → Memory → Memory → Type 0
BoxChange before behind m m' = IsBoxing behind ⊎ ((IsBoxing before → ⊥) × LeavesBox m m')

-- ---- which words

abbrev levels : Bool → Bool → Bool → Bool → Bool → ℕ → Level
levels a b c d e j =
    elim a [
      | true ↦ free
      | false ↦ elim b [ true ↦ halted | false ↦ elim c [ true ↦ headless | false ↦ elim d [ true ↦ emptied | false ↦ elim e [ true ↦ boxing j | false ↦ free ] ] ] ]
    ]

-- the log has no head before word 31 alone
pub level-headless : (k : ℕ) → IsHeadless (level k) → k ≡ 31
level-headless k h = by_tests (nat_le k 28) (nat_le k 30) (nat_le k 31) (nat_le k 34) (nat_le k 70) refl refl refl h
  where
    by_tests : (a b c d e : Bool) → nat_le k 28 ≡ a → nat_le k 30 ≡ b → nat_le k 31 ≡ c → IsHeadless (levels a b c d e (boxed_before k)) → k ≡ 31
    by_tests true b c d e ea eb ec h = absurd h
    by_tests false true c d e ea eb ec h = absurd h
    by_tests false false true d e ea eb ec h = grind (arith, nat_tests, eb, ec)
    by_tests false false false true e ea eb ec h = absurd h
    by_tests false false false false true ea eb ec h = absurd h
    by_tests false false false false false ea eb ec h = absurd h

-- the box is written before words 35 to 70
pub level-boxing : (k : ℕ) → 35 ≤ k → k ≤ 70 → IsBoxing (level k)
level-boxing k f l = by_tests (nat_le k 28) (nat_le k 30) (nat_le k 31) (nat_le k 34) (nat_le k 70) refl refl refl refl refl
  where
    by_tests : (a b c d e : Bool) → nat_le k 28 ≡ a → nat_le k 30 ≡ b → nat_le k 31 ≡ c → nat_le k 34 ≡ d → nat_le k 70 ≡ e → IsBoxing (levels a b c d e (boxed_before k))
    by_tests true b c d e ea eb ec ed ee = absurd (grind (arith, nat_tests, ea, f))
    by_tests false true c d e ea eb ec ed ee = absurd (grind (arith, nat_tests, eb, f))
    by_tests false false true d e ea eb ec ed ee = absurd (grind (arith, nat_tests, ec, f))
    by_tests false false false true e ea eb ec ed ee = absurd (grind (arith, nat_tests, ed, f))
    by_tests false false false false true ea eb ec ed ee = tt
    by_tests false false false false false ea eb ec ed ee = absurd (grind (arith, nat_tests, ee, l))

pub boxing-level : (k : ℕ) → IsBoxing (level k) → (35 ≤ k) × (k ≤ 70)
boxing-level k h = by_tests (nat_le k 28) (nat_le k 30) (nat_le k 31) (nat_le k 34) (nat_le k 70) refl refl h
  where
    by_tests : (a b c d e : Bool) → nat_le k 34 ≡ d → nat_le k 70 ≡ e → IsBoxing (levels a b c d e (boxed_before k)) → (35 ≤ k) × (k ≤ 70)
    by_tests true b c d e ed ee h = absurd h
    by_tests false true c d e ed ee h = absurd h
    by_tests false false true d e ed ee h = absurd h
    by_tests false false false true e ed ee h = absurd h
    by_tests false false false false true ed ee h = (grind (arith, nat_tests, ed), grind (arith, nat_tests, ee))
    by_tests false false false false false ed ee h = absurd h

-- where nothing is held, the box isn't being written
pub free-boxing : (v : Level) → IsFree v → IsBoxing v → ⊥
free-boxing free f b = b
free-boxing halted f b = f
free-boxing headless f b = f
free-boxing emptied f b = f
free-boxing (boxing j) f b = f

-- ---- from word to word

-- from word k to word l: what is held before the one leads to what is held before the other, and how the link changes. Where nothing is held, nothing was, and the shadow is as before; the log is left up to the word that stores its head, and its tail by that
pub record HeldOn (q : State) (k l : ℕ) (m m' : Memory) (s s' : ShadowState) : Type 0 where
  pub held : Held q (level k) m s → Held q (level l) m' s'
  pub change : Held q (level k) m s → LinkChange m m' s
  pub lets_go : IsFree (level l) → IsFree (level k) × (s' ≡ s)
  pub quiet : IsHalted (level l) → (IsHeadless (level k) → ⊥) × (m' ≡ m)
  pub tail : IsHeadless (level l) → log_tail m' ≡ log_tail m
  pub box : BoxChange (level k) (level l) m m'

-- where nothing is to be held, and the link is left
pub frees : {q : State} {k l : ℕ} {m : Memory} {s : ShadowState} → level l ≡ free → level k ≡ free → HeldOn q k l m m s s
frees {q} {k} {l} {m} {s} f g =
    record {
      held = λ h. subst (λ v. Held q v m s) (sym f) tt;
      change = λ h. same refl;
      lets_go = λ h. (subst (λ v. IsFree v) (sym g) tt, refl);
      quiet = λ h. absurd (subst (λ v. IsHalted v) f h);
      tail = λ h. refl;
      box = inr (λ b. subst (λ v. IsBoxing v) g b, λ a l. refl);
    }

-- where the same is to be held, and the link is left
pub stays : {q : State} {k l : ℕ} {m : Memory} {s : ShadowState} → level l ≡ level k → HeldOn q k l m m s s
stays {q} {k} {l} {m} {s} f =
    record {
      held = λ h. subst (λ v. Held q v m s) (sym f) h;
      change = λ h. same refl;
      lets_go = λ h. (subst (λ v. IsFree v) f h, refl);
      quiet = λ h. (halted-headless (level k) (subst (λ v. IsHalted v) f h), refl);
      tail = λ h. refl;
      box = by_box (boxes (level l));
    }
  where
    by_box : IsBoxing (level l) ⊎ (IsBoxing (level l) → ⊥) → BoxChange (level k) (level l) m m
    by_box (inl b) = inl b
    by_box (inr n) = inr (λ b. n (subst (λ v. IsBoxing v) (sym f) b), λ a l. refl)
