-- What a shadow's row says by itself: that the answer of a call stands in x10 behind it, and where RESTART's rows are.
use Rattle.std.proofs.Common.{◌≡◌, ℕ, ◌+◌, ◌*◌, ◌<◌, ◌≤◌, ◌⊎◌, inl, inr, Bool, true, false, nat_lt, refl, ◌∙◌, ap, sym, subst, arith, Option}
use Rattle.std.specs.Prelude.{⊤}
use Rattle.std.proofs.lemmas.Bool.Decides.{nat_tests}
use Rattle.spec_base.specs.Layout.{helpers_start}
use Rattle.spec_base.specs.declared.layout.Layout.{Layout}
use Rattle.rv_model.specs.Memory.{Memory}
use Rattle.rv_model.specs.Registers.{reg}
use Rattle.code_model.specs.Places.{RESTART, FAULT}
use Rattle.run_model.specs.Run.{World}
use Rattle.own_laws.proofs.Reached.{false_true}
use Rattle.side_model.specs.Hart.{Regs, get, Priv}
use Rattle.code_model.specs.Tables.{Tabs}
use Rattle.side_model.specs.Places.{Restarting, Place, InHelper, Faulting, address}
use Rattle.side_model.specs.Sees.{Shade}
use Rattle.side_model.specs.JumpRows.{JumpRow, faults}
use Rattle.rows_log.specs.RestartRows.{RestartRow, r18-47, RestartedRow, UnboxedRow, r49, r50}
use Rattle.hint_laws.proofs.Within.{Doing, does, ends, restarts, goes_to, BehindRow, behind, Within, answered, restarting, unboxing}

-- ---- behind a call

-- the same row with other bytes known, behind a call
abbrev Recast : World → (ℕ → Option ℕ) → Memory → Doing → Shade → ℕ → Type 0
Recast w bytes program (goes_to to q) h n = Within w bytes program (goes_to to q) h n
Recast w bytes program (does p i q) h n = ⊤
Recast w bytes program (ends q) h n = ⊤
Recast w bytes program (restarts site q) h n = ⊤

-- what is known of the bytes is of no matter there
pub recast : (w : World) (bytes others : ℕ → Option ℕ) (program : Memory) {d : Doing} {h : Shade} {n : ℕ} → Within w bytes program d h n → Recast w others program d h n
recast w bytes others program (answered p answer q is at) = answered p answer q is at
recast w bytes others program (unboxing site q base words is fits at) = unboxing site q base words is fits at
recast w bytes others program _ = tt

-- the row behind the HCALL has the registers there
behind-regs : {q : Regs} {place : Place} {rs : Regs} {s : Priv} {t : Tabs} {n : ℕ} → BehindRow q place rs s t n → rs ≡ q
behind-regs (behind s) = refl

-- a row of JUMP has the answer in x10, but where it parks
jump-answer : {l : Layout} {to : ℕ} {q : Regs} {place : Place} {rs : Regs} {s : Priv} {t : Tabs} {n : ℕ} → JumpRow l to q place rs s t n → (get 10 rs ≡ get 10 q) ⊎ (place ≡ InHelper Faulting 0)
jump-answer (faults p e) = inr refl
jump-answer _ = inl refl

-- so has each row behind RESTART's HCALL
restarted-answer : {l : Layout} {site : ℕ} {q : Regs} {place : Place} {rs : Regs} {s : Priv} {t : Tabs} {n : ℕ} → RestartedRow l site q place rs s t n → (get 10 rs ≡ get 10 q) ⊎ (place ≡ InHelper Faulting 0)
restarted-answer (inl row) = inl (unboxed row)
  where
    unboxed : {l : Layout} {site : ℕ} {q : Regs} {place : Place} {rs : Regs} {s : Priv} {t : Tabs} {n : ℕ} → UnboxedRow l site q place rs s t n → get 10 rs ≡ get 10 q
    unboxed (r49 s) = refl
    unboxed (r50 s) = refl
restarted-answer (inr row) = jump-answer row

-- the hart has the answer in x10
abbrev HasAnswer : Doing → Shade → Type 0
HasAnswer (goes_to to q) h = get 10 q ≡ reg h.hart.registers 10
HasAnswer (does p i q) h = ⊤
HasAnswer (ends q) h = ⊤
HasAnswer (restarts site q) h = ⊤

-- behind a call it has, but where it parks
pub within-answer : (w : World) (bytes : ℕ → Option ℕ) (program : Memory) {d : Doing} {h : Shade} {n : ℕ} → (h.hart.pc ≡ helpers_start + FAULT → ⊥) → Within w bytes program d h n → HasAnswer d h
within-answer w bytes program away (answered p answer q is at) = sym (at.shown.regs.at 10 ∙ ap (get 10) (behind-regs at.row))
within-answer w bytes program {h = h} away (unboxing site q base words is fits at) = by_place (restarted-answer at.row)
  where
    by_place : (get 10 at.point.regs ≡ get 10 q) ⊎ (at.point.place ≡ InHelper Faulting 0) → get 10 q ≡ reg h.hart.registers 10
    by_place (inl e) = sym (at.shown.regs.at 10 ∙ e)
    by_place (inr e) = absurd (away (at.shown.pc ∙ (ap (address base) e ∙ omega arith)))
within-answer w bytes program away _ = tt

-- ---- RESTART

-- a word up to its HCALL
abbrev is_early : Place → Bool
is_early (InHelper Restarting n) = nat_lt n 48
is_early _ = false

-- each of RESTART's rows up to its HCALL is there
restart-early : {l : Layout} {site : ℕ} {q : Regs} {place : Place} {rs : Regs} {s : Priv} {t : Tabs} {n : ℕ} → RestartRow l site q place rs s t n → is_early place ≡ true
restart-early (r18-47 k s less fresh x31 loaded) = grind (arith, nat_tests, less)
restart-early _ = refl

-- the pc there
pub record IsEarly (pc : ℕ) : Type 0 where
  pub above : helpers_start + RESTART ≤ pc
  pub below : pc < helpers_start + RESTART + 4 * 48

-- so it is
early-pc : (base : ℕ) (place : Place) → is_early place ≡ true → IsEarly (address base place)
early-pc base (InHelper Restarting n) e = let few : n < 48 = grind (arith, nat_tests, e) in record { above = omega arith; below = omega (arith, few) }
early-pc base _ e = false_true e

-- the pc of a restart up to its HCALL
abbrev RestartsEarly : Doing → Shade → Type 0
RestartsEarly (restarts site q) h = IsEarly h.hart.pc
RestartsEarly (does p i q) h = ⊤
RestartsEarly (ends q) h = ⊤
RestartsEarly (goes_to to q) h = ⊤

-- so it is in its rows
pub within-early : (w : World) (bytes : ℕ → Option ℕ) (program : Memory) {d : Doing} {h : Shade} {n : ℕ} → Within w bytes program d h n → RestartsEarly d h
within-early w bytes program (restarting site q base words is fits at) = subst IsEarly (sym at.shown.pc) (early-pc base at.point.place (restart-early at.row.0))
within-early w bytes program _ = tt
