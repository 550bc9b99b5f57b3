-- A shadow that walks through the block of a plain state, in which no value is marked: what is so of it, that it is so at word 1, and what it leads to.
use Rattle.std.proofs.Common.{◌≡◌, ℕ, zero, suc, ◌+◌, ◌≤◌, Bool, true, false, ◌==◌, Some, None, refl, sym, subst}
use Rattle.spec_base.specs.declared.layout.Layout.{Layout}
use Rattle.spec_base.specs.declared.note.ShadowState.TheVariants.{Running}
use Rattle.rv_decode.specs.declared.instr.Instr.{Instr}
use Rattle.rv_decode.specs.declared.instr.Instr.TheVariants.{Lui, Auipc, Jal, Jalr, Load, Ecall, Op, OpW, OpImm, OpImmW}
use Rattle.rv_model.specs.Memory.{any_from, is_within}
use Rattle.rv_model.specs.Arithmetic.{load_width}
use Rattle.program_model.specs.PlainRun.{State}
use Rattle.code_model.specs.Places.{block_at}
use Rattle.run_model.specs.Run.{World, Run, rewritten_words}
use Rattle.run_laws.specs.OwnLaws.{Accepted}
use Rattle.run_model.specs.Restarts.{Action, Loads, Stores, Reads, TakesName, Other, call_action, nothing}
use Rattle.run_model.specs.Marks.{no_marks, with_mark, marks_after, marks_after_call, mark_bytes, is_use, name_is_marked}
use Rattle.side_model.specs.Hart.{Regs}
use Rattle.side_model.specs.Places.{InBlock}
use Rattle.side_model.specs.Words.{Point}
use Rattle.side_model.specs.Sees.{shade_of, Sees}
use Rattle.side_model.proofs.Private.{priv_of, HasPriv-of}
use Rattle.side_model.proofs.Registers as low
use Rattle.side_model.proofs.Registers.{HasRegs-of}
use Rattle.mark_laws.specs.Agreement.{Agrees, SeesAlike}
use Rattle.shadow_laws.proofs.ShadowNumbers.{Sized, stock_of, sized-of}
use Rattle.hint_laws.proofs.Within.{Doing, does, ends, AreSeen, Within, Begun, begun, at_end, begins}
use Rattle.hint_laws.proofs.Followed.{known, registers, regs_of, program_in, view_in, DoesOf, instruction, text_end, is_storing, is_restart}
use Rattle.hint_laws.proofs.Views.{are-seen, agrees-as}
use Rattle.hint_laws.proofs.Arriving.{instr-there}
use Rattle.shadow_walk.specs.Walks.{StandsAt}

-- ---- no marks

-- none of these bytes is marked
none-from : (a n : ℕ) → any_from nothing a n ≡ false
unfolding any_from
none-from a zero = refl
none-from a (suc n) = none-from (a + 1) n

-- no register is marked behind one that isn't
unmarked : (rd k : ℕ) (marked : Bool) → marked ≡ false → with_mark nothing rd marked k ≡ false
unmarked zero k marked e = refl
unmarked (suc n) k marked e = by_test (k == suc n)
  where
    by_test : (b : Bool) → elim b [ true ↦ marked | false ↦ false ] ≡ false
    by_test true = e
    by_test false = refl

-- a call marks no register
pub call-unmarked : (filled : Bool) (act : Action) (k : ℕ) → (marks_after_call filled no_marks act).registers k ≡ false
call-unmarked filled (Reads spot a) k = unmarked 10 k false refl
call-unmarked filled (Loads a width) k = unmarked 10 k false refl
call-unmarked filled (Stores a width) k = unmarked 10 k false refl
call-unmarked filled (TakesName a n) k = unmarked 10 k false refl
call-unmarked filled Other k = unmarked 10 k false refl

-- no instruction marks a register where nothing is marked
pub marks-none : (l : Layout) (q : State) (i : Instr) (k : ℕ) → (marks_after l false q (Some i) no_marks).registers k ≡ false
marks-none l q (Load op rd rs1 imm) k = unmarked rd k _ (none-from _ (load_width op))
marks-none l q (Op op rd rs1 rs2) k = unmarked rd k false refl
marks-none l q (OpW op rd rs1 rs2) k = unmarked rd k false refl
marks-none l q (OpImm op rd rs1 imm) k = unmarked rd k false refl
marks-none l q (OpImmW op rd rs1 imm) k = unmarked rd k false refl
marks-none l q (Lui rd imm) k = unmarked rd k false refl
marks-none l q (Auipc rd imm) k = unmarked rd k false refl
marks-none l q (Jal rd imm) k = unmarked rd k false refl
marks-none l q (Jalr rd rs1 imm) k = unmarked rd k false refl
marks-none l q Ecall k = call-unmarked false (call_action l q) k
marks-none l q _ k = refl

-- nor does a store mark bytes
pub store-none : (a width x : ℕ) → (mark_bytes no_marks a width false).bytes x ≡ false
store-none a width x = by_test (is_within a width x)
  where
    by_test : (b : Bool) → elim b [ true ↦ false | false ↦ false ] ≡ false
    by_test true = refl
    by_test false = refl

-- and none is a use
name-none : (act : Action) → name_is_marked no_marks act ≡ false
name-none (TakesName a n) = none-from a n
name-none (Loads a width) = refl
name-none (Stores a width) = refl
name-none (Reads spot a) = refl
name-none Other = refl

pub use-none : (l : Layout) (q : State) (i : Instr) → is_use l q (Some i) no_marks ≡ false
use-none l q Ecall = name-none (call_action l q)
use-none l q _ = refl

-- ---- on the way

-- the shadow runs through the block of a plain state, with n words left at most
pub record Walking (w : World) (q : State) (y : Run) (d : Doing) (n : ℕ) : Type 0 where
  pub doing : DoesOf w q d
  pub plain : is_restart d ≡ false
  pub within : Within w (known w.image.layout no_marks q) (program_in w y) d (shade_of y) n
  pub agrees : Agrees no_marks (registers (regs_of d)) q
  pub files : y.shadow.files ≡ q.files
  pub sees : is_storing d ≡ false → SeesAlike w.image.layout no_marks (view_in y) q
  pub sized : Sized (stock_of y)
  pub goes_on : q.exited ≡ None

-- where a load is under way, the known bytes are seen
pub walking-sees : {w : World} {q : State} {y : Run} {d : Doing} {n : ℕ} → Walking w q y d n → is_storing d ≡ false → AreSeen w.image.layout (known w.image.layout no_marks q) (program_in w y) y.shared
walking-sees {w} {q} {y} k other = are-seen w.image.layout no_marks (rewritten_words w) y.own.memory y.shared q (k.sees other)

-- at word 1 of the block
pub record Started (w : World) (q : State) (y : Run) : Type 0 where
  pub d : Doing
  pub n : ℕ
  pub few : n ≤ 227
  pub walking : Walking w q y d n

pub starts : (w : World) → Accepted w → (y : Run) (q : State) → y.shadow.state ≡ Running → StandsAt w y q → Started w q y
starts w a y q runs at = by_begun (begins w a (known l no_marks q) (program_in w y) q.pc (block_at l q.pc) (shade_of y) pt y.shared at.block refl at.state.ok shown seen)
  where
    l : Layout
    l = w.image.layout

    g : Regs
    g = low.regs_of y.shadow.registers

    pt : Point
    pt = record { place = InBlock 1; regs = g; priv = priv_of y.shadow_page; tabs = at.state.tables }

    shown : Sees l (block_at l q.pc) (shade_of y) pt y.shared
    shown = record { pc = at.place; regs = HasRegs-of y.shadow.registers; priv = HasPriv-of y.shadow_page; tabs = at.state.has; shared = refl; running = runs }

    alike : SeesAlike l no_marks (view_in y) q
    alike = record { bytes = λ a d u. at.state.bytes a d }

    seen : AreSeen l (known l no_marks q) (program_in w y) y.shared
    seen = are-seen l no_marks (rewritten_words w) y.own.memory y.shared q alike

    agrees : Agrees no_marks (registers g) q
    agrees = agrees-as no_marks y.shadow.registers g q (HasRegs-of y.shadow.registers) (record { registers = λ i above below u. at.state.registers i above below })

    walking : (d : Doing) (n : ℕ) → n ≤ 227 → regs_of d ≡ g → is_restart d ≡ false → DoesOf w q d → Within w (known l no_marks q) (program_in w y) d (shade_of y) n → Started w q y
    walking d n few regs plain is within =
        record {
          d = d;
          n = n;
          few = few;
          walking =
              record {
                doing = is;
                plain = plain;
                within = within;
                agrees = subst (λ (h : Regs). Agrees no_marks (registers h) q) (sym regs) agrees;
                files = at.state.files;
                sees = λ e. alike;
                sized = sized-of y at.state.sized;
                goes_on = at.goes_on;
              };
        }

    by_begun : Begun w (known l no_marks q) (program_in w y) q.pc g (shade_of y) → Started w q y
    by_begun (begun i is n few within) = walking (does q.pc i g) n few refl refl (instruction i g (instr-there w q i is) is.registers) within
    by_begun (at_end end n few within) = walking (ends g) n few refl refl (text_end g end) within
