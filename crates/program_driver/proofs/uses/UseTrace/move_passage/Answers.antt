use Rattle.std.proofs.Common.{◌≡◌, ◌∙◌, inr, sym}
use Rattle.spec_base.specs.declared.note.Move.TheVariants.{O, S, T, D}
use Rattle.run_model.specs.Moves.{run}
use Rattle.program_driver.proofs.Using.{other-completes-none}
use Rattle.program_driver.proofs.uses.UseTrace.move_passage.Goals as goal

pub returns-in-O : goal.returns-in-O
returns-in-O c w ms acc shows keeps = c.next_passage.ensures w ms c.args.step acc shows keeps

pub returns-in-S : goal.returns-in-S
returns-in-S c w ms acc shows keeps x = inr (other-completes-none w (run w ms) c.args.step x (λ own. let e : S ≡ O = sym c.in-S.is ∙ own in cc))

pub returns-in-T : goal.returns-in-T
returns-in-T c w ms acc shows keeps x = inr (other-completes-none w (run w ms) c.args.step x (λ own. let e : T ≡ O = sym c.in-T.is ∙ own in cc))

pub returns-in-D : goal.returns-in-D
returns-in-D c w ms acc shows keeps x = inr (other-completes-none w (run w ms) c.args.step x (λ own. let e : D ≡ O = sym c.in-D.is ∙ own in cc))
