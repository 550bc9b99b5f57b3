-- Own moves in the program leave what the shadow and the stub share.
use Rattle.std.proofs.Common.{◌≡◌, Bool, true, false, Option, Some, None, refl, sym, subst}
use Rattle.spec_base.specs.declared.machine.View.{View}
use Rattle.spec_base.specs.declared.note.Move.TheVariants.{O}
use Rattle.rv_decode.specs.declared.instr.Instr.{Instr}
use Rattle.rv_model.specs.Effect.{fetched}
use Rattle.run_model.specs.Run.{World, Run, RunEnd, rewritten_text}
use Rattle.run_model.specs.OwnMoves.{program_at, own_in, own_unless}
use Rattle.run_model.specs.Moves.{step_unless, begun}
use Rattle.own_laws.proofs.OwnSteps.{program_at-by}
use Rattle.rows_log.specs.OtherMoves.{ProgramLeavesShared}

-- ---- the program

word-leaves : (w : World) (r : Run) (o : Option Instr) → (program_at w r o).shared ≡ r.shared
word-leaves w r o = program_at-by w r (λ next. next.shared ≡ r.shared) (λ b. refl) (λ rs pc. refl) (λ a width v. refl) refl o

pub program-leaves : ProgramLeavesShared
program-leaves w r x h = by_end r.end
  where
    own : (own_in r.view w x (begun r)).shared ≡ r.shared
    own = subst (λ (v : View). (own_in v w x (begun r)).shared ≡ r.shared) (sym h) (word-leaves w (begun r) (fetched (rewritten_text w) w.image.layout.text_start r.own.pc))

    by_stall : (b : Bool) → (own_unless b w x (begun r)).shared ≡ r.shared
    by_stall true = refl
    by_stall false = own

    by_end : (e : Option RunEnd) → (step_unless e w r (O, x)).shared ≡ r.shared
    by_end (Some e) = refl
    by_end None = by_stall r.stalled

-- ---- fetches
