-- What an own move leaves of the shadow: all but what it stores to the link, unless it stops or restarts it.
use Rattle.std.proofs.Common.{◌≡◌, ℕ, suc, ◌+◌, ◌%◌, ◌≤◌, ◌<◌, Bool, true, false, ◌||◌, ◌==◌, Option, refl, arith, subst}
use Rattle.std.specs.Prelude.{⊤}
use Rattle.std.proofs.lemmas.Bool.Decides.{nat_tests}
use Rattle.spec_base.specs.Layout.{table_start, helpers_start}
use Rattle.spec_base.specs.Word.{plus_int}
use Rattle.spec_base.specs.declared.machine.View.TheVariants.{Stub}
use Rattle.spec_base.specs.declared.note.ShadowState.TheVariants.{Running, Stopped}
use Rattle.spec_base.specs.declared.spot.BlockSpot.{BlockSpot}
use Rattle.rv_decode.specs.declared.instr.Instr.{Instr}
use Rattle.rv_decode.specs.declared.instr.Instr.TheVariants.{Jal, Jalr, Branch, Load, Store, Hcall}
use Rattle.rv_decode.specs.declared.instr.LoadOp.{LoadOp}
use Rattle.rv_decode.specs.declared.instr.StoreOp.{StoreOp}
use Rattle.rv_decode.specs.declared.instr.StoreOp.TheVariants.{Sb, Sh, Sw, Sd}
use Rattle.rv_model.specs.Memory.{Memory, stored, all_from}
use Rattle.rv_model.specs.Registers.{Registers, reg}
use Rattle.rv_model.specs.Rights.{stub_rights, in_private, in_link}
use Rattle.rv_model.specs.Arithmetic.{is_taken, store_width}
use Rattle.rv_model.specs.Effect.{Effect, Next, Stored, Trapped, Called, Gated, effect, jump_if, branch_if, load_if, store_if}
use Rattle.rv_model.specs.Space.{stub_sees}
use Rattle.rv_model.proofs.DataLemmas.{all_from-inside}
use Rattle.code_model.specs.Places.{RESTART}
use Rattle.code_model.specs.Regions.{slots_in_use}
use Rattle.run_model.specs.Run.{World, Run, Answer}
use Rattle.run_model.specs.OwnMoves.{program_at, own_step}
use Rattle.run_model.specs.Moves.{fetch_of}
use Rattle.own_laws.proofs.OwnSteps.{program_at-by, own_step-by, fetch_of-by}
use Rattle.side_model.specs.Sees.{Shade, shade_of}

-- the shadow's part of a run, with what is counted of it since the restart
pub record Watched : Type 0 where
  pub shade : Shade
  pub words : ℕ
  pub regions : ℕ
  pub arrivals : ℕ
  pub restarts : ℕ

abbrev pub watched_of : Run → Watched
watched_of r = record { shade = shade_of r; words = r.since.words; regions = r.since.regions; arrivals = r.since.shadow; restarts = r.restarts }

-- with other shared memory, stopped, or restarted
abbrev pub with_shared : Run → Memory → Watched
with_shared r m = record (watched_of r) { shade = record (shade_of r) { shared = m } }

abbrev pub halted : Run → Watched
halted r = record (watched_of r) { shade = record (shade_of r) { hart = record r.shadow { state = Stopped } } }

abbrev pub begun_anew : Run → Watched
begun_anew r =
    record {
      shade = record (shade_of r) { hart = record r.shadow { state = Running; pc = helpers_start + RESTART; files = r.own.files } };
      words = 0;
      regions = slots_in_use r.shared;
      arrivals = 0;
      restarts = r.restarts + 1;
    }

-- what an own move leaves of the shadow
pub data OwnShade (r next : Run) : Type 0 where
  same : watched_of next ≡ watched_of r → OwnShade r next
  links : (a width v : ℕ) → a + width ≤ table_start → watched_of next ≡ with_shared r (stored r.shared a width v) → OwnShade r next
  halts : watched_of next ≡ halted r → OwnShade r next
  begins : r.view ≡ Stub → watched_of next ≡ begun_anew r → OwnShade r next

-- ---- the stub stores below the table

-- a store to no private place is below the table
abbrev LowIn : Effect → Type 0
LowIn (Stored a width v) = in_private a ≡ false → a + width ≤ table_start
LowIn (Next rs pc) = ⊤
LowIn (Trapped cause) = ⊤
LowIn Called = ⊤
LowIn (Gated i) = ⊤

record Low (e : Effect) : Type 0 where
  by : LowIn e

jump_if-low : (b : Bool) (rs : Registers) (target : ℕ) → Low (jump_if b rs target)
jump_if-low true rs target = record { by = tt }
jump_if-low false rs target = record { by = tt }

branch_if-low : (b : Bool) (rs : Registers) (pc target : ℕ) → Low (branch_if b rs pc target)
branch_if-low true rs pc target = jump_if-low (target % 4 == 0) rs target
branch_if-low false rs pc target = record { by = tt }

load_if-low : (x y : Bool) (m : Memory) (op : LoadOp) (rs : Registers) (pc rd a : ℕ) → Low (load_if x y m op rs pc rd a)
load_if-low false y m op rs pc rd a = record { by = tt }
load_if-low true false m op rs pc rd a = record { by = tt }
load_if-low true true m op rs pc rd a = record { by = tt }

-- a byte of the link is below the table
link-low : (a width : ℕ) → width ≤ 8 → (in_private a || in_link a) ≡ true → in_private a ≡ false → a + width ≤ table_start
link-low a width few h e = let below : a < 0x4200_2000 = grind (arith, nat_tests) in omega arith

store_if-low : (x y : Bool) (a k v : ℕ) → suc k ≤ 8 → all_from stub_rights.store a (suc k) ≡ y → Low (store_if x y a (suc k) v)
store_if-low false y a k v few e = record { by = tt }
store_if-low true false a k v few e = record { by = tt }
store_if-low true true a k v few e = record { by = λ h. link-low a (suc k) few (all_from-inside stub_rights.store (suc k) a e a (omega arith) (omega arith)) h }

store-low : (op : StoreOp) (a v : ℕ) → Low (store_if (a % store_width op == 0) (all_from stub_rights.store a (store_width op)) a (store_width op) v)
store-low Sb a v = store_if-low (a % 1 == 0) (all_from stub_rights.store a 1) a 0 v (omega arith) refl
store-low Sh a v = store_if-low (a % 2 == 0) (all_from stub_rights.store a 2) a 1 v (omega arith) refl
store-low Sw a v = store_if-low (a % 4 == 0) (all_from stub_rights.store a 4) a 3 v (omega arith) refl
store-low Sd a v = store_if-low (a % 8 == 0) (all_from stub_rights.store a 8) a 7 v (omega arith) refl

effect-low : (m : Memory) (rs : Registers) (pc : ℕ) (i : Instr) → Low (effect Stub stub_rights m rs pc i)
effect-low m rs pc (Jal rd imm) = jump_if-low _ _ _
effect-low m rs pc (Jalr rd rs1 imm) = jump_if-low _ _ _
effect-low m rs pc (Branch op rs1 rs2 imm) = branch_if-low (is_taken op (reg rs rs1) (reg rs rs2)) rs pc _
effect-low m rs pc (Load op rd rs1 imm) = load_if-low _ _ m op rs pc rd _
effect-low m rs pc (Store op rs1 rs2 imm) = store-low op (plus_int (reg rs rs1) imm) (reg rs rs2)
effect-low m rs pc (Hcall true) = record { by = tt }
effect-low m rs pc (Hcall false) = record { by = tt }
effect-low m rs pc _ = record { by = tt }

-- ---- own moves

module _ (w : World) where
  pub program_at-shade : (r : Run) (o : Option Instr) → watched_of (program_at w r o) ≡ watched_of r
  program_at-shade r o = program_at-by w r (λ next. watched_of next ≡ watched_of r) (λ b. refl) (λ rs pc. refl) (λ a width v. refl) refl o

  -- an own move
  pub own-shade : (x : Answer) (r : Run) → OwnShade r (own_step w x r)
  own-shade x r =
      own_step-by w x r (OwnShade r)
      (record {
        stays = λ b. same refl;
        goes = λ rs pc. same refl;
        stores = λ a width v. same refl;
        enters = same refl;
        computes = λ rs pc page. same refl;
        links = λ i a width v e f. links a width v ((subst Low e (effect-low (stub_sees r.shared r.own_page) r.own.registers r.own.pc i)).by f) refl;
        leaves = λ v. same refl;
        stops = halts refl;
        restarts = λ v. begins v refl;
        performs_call = λ taken whole b h. same refl;
      })

  -- ---- a fetch

  -- a fetch leaves it all
  pub fetch-shade : (o : Option BlockSpot) (x : Answer) (r : Run) → watched_of (fetch_of o w x r) ≡ watched_of r
  fetch-shade o x r = fetch_of-by w x r (λ next. watched_of next ≡ watched_of r) (λ b. refl) o
