-- A worked run in which the shadow fills its reads from the cache.
use Rattle.std.proofs.Common.{◌≡◌, ℕ, List, [], ◌∷◌, ◌++◌, refl}
use Rattle.spec_base.specs.declared.note.ShadowState.TheVariants.{Parked}
use Rattle.spec_base.specs.declared.note.Move.TheVariants.{O, S, D}
use Rattle.spec_base.specs.declared.park.Park.TheVariants as park
use Rattle.rv_decode.specs.Instruction.{instr_of}
use Rattle.rv_model.specs.Memory.{patched, loaded, bytes_at, all_from}
use Rattle.program_model.specs.Calls.{name_from}
use Rattle.program_model.specs.Cache.{gather}
use Rattle.code_model.specs.Regions.{shadowed, with_copies, set_in_copies, uncopied}
use Rattle.run_model.specs.Run.{Run}
use Rattle.run_model.specs.Moves.{Moves, run, run_from}
use Rattle.run_model.proofs.Samples.{rereads, of, report, spots}

-- 72 own moves, a fetch, 71 own moves, 1,000 of the shadow, and own moves to the end
abbrev schedule : Moves
schedule = of O 72 ++ of D 1 ++ of O 71 ++ of S 1000 ++ of O 1000

abbrev filled_end : ℕ → Run
filled_end regions = run (rereads regions) schedule

rereads-report : report (filled_end 4096) ≡ 25 ∷ 1 ∷ 2 ∷ 1 ∷ 1 ∷ 1 ∷ 5 ∷ 7 ∷ []
unfolding run_from instr_of patched loaded bytes_at all_from name_from gather shadowed with_copies set_in_copies uncopied
rereads-report = refl

-- both reads that are filled lie in one region
rereads-one_region : report (filled_end 1) ≡ 25 ∷ 1 ∷ 2 ∷ 1 ∷ 1 ∷ 1 ∷ 5 ∷ 7 ∷ []
unfolding run_from instr_of patched loaded bytes_at all_from name_from gather shadowed with_copies set_in_copies uncopied
rereads-one_region = refl

rereads-hints : spots (filled_end 4096).since.hints ≡ (64, 7) ∷ []
unfolding run_from instr_of patched loaded bytes_at all_from name_from gather shadowed with_copies set_in_copies uncopied
rereads-hints = refl

-- the reads of instructions 1 and 4 since the restart
rereads-filled : (filled_end 4096).since.filled ≡ 1 ∷ 4 ∷ []
unfolding run_from instr_of patched loaded bytes_at all_from name_from gather shadowed with_copies set_in_copies uncopied
rereads-filled = refl
