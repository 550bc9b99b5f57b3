-- Worked runs: their reports, hints and horizons, computed from the definitions.
use Rattle.std.proofs.Common.{◌≡◌, ℕ, List, [], ◌∷◌, true, false, refl}
use Rattle.spec_base.specs.declared.note.ShadowState.TheVariants.{Parked}
use Rattle.spec_base.specs.declared.park.Park.TheVariants as park
use Rattle.rv_decode.specs.Instruction.{instr_of}
use Rattle.rv_model.specs.Memory.{patched, loaded, bytes_at, all_from, any_from}
use Rattle.program_model.specs.Calls.{name_from}
use Rattle.program_model.specs.PlainRun.{state_after}
use Rattle.program_model.specs.Cache.{gather}
use Rattle.code_model.specs.Regions.{shadowed, with_copies, set_in_copies, uncopied}
use Rattle.run_model.specs.Run.{Run}
use Rattle.run_model.specs.Moves.{run, run_from}
use Rattle.run_model.specs.Restarts.{unfilled_with, before_horizon, reads}
use Rattle.run_model.specs.Marks.{marks_with, before_use, before_use_with}
use Rattle.run_model.proofs.Samples.{exits_7, reads_thrice, stores_twice, loads_early, records, rounds, report, spots}

-- no shadow: the stub's words are executed by the own hart alone
exits_7-report : report (run exits_7 (rounds 8 0)) ≡ 3 ∷ 0 ∷ 0 ∷ 0 ∷ 0 ∷ 0 ∷ 0 ∷ 7 ∷ []
unfolding run_from instr_of patched loaded bytes_at all_from name_from gather
exits_7-report = refl

-- ---- three reads, of which the first restarts

three_end : Run
three_end = run reads_thrice (rounds 200 600)

reads_thrice-report : report three_end ≡ 17 ∷ 1 ∷ 1 ∷ 2 ∷ 2 ∷ 0 ∷ 6 ∷ 0 ∷ []
unfolding three_end run_from instr_of patched loaded bytes_at all_from name_from gather shadowed with_copies set_in_copies uncopied
reads_thrice-report = refl

reads_thrice-parked : three_end.shadow.state ≡ Parked park.Exit
unfolding three_end run_from instr_of patched loaded bytes_at all_from name_from gather shadowed with_copies set_in_copies uncopied
reads_thrice-parked = refl

reads_thrice-hints : spots three_end.since.hints ≡ (4096, 904) ∷ (5000, 0) ∷ []
unfolding three_end run_from instr_of patched loaded bytes_at all_from name_from gather shadowed with_copies set_in_copies uncopied
reads_thrice-hints = refl

reads_thrice-reads : spots (reads reads_thrice three_end three_end.since.shadow) ≡ (4096, 904) ∷ (5000, 0) ∷ []
unfolding three_end run_from instr_of patched loaded bytes_at all_from name_from gather shadowed with_copies set_in_copies uncopied reads state_after
reads_thrice-reads = refl

reads_thrice-horizon : before_horizon reads_thrice three_end three_end.since.shadow ≡ true
unfolding three_end run_from instr_of patched loaded bytes_at all_from name_from gather shadowed with_copies set_in_copies uncopied before_horizon unfilled_with any_from state_after
reads_thrice-horizon = refl

-- the shadow never moves: each read restarts
reads_thrice-alone : report (run reads_thrice (rounds 300 0)) ≡ 17 ∷ 2 ∷ 3 ∷ 0 ∷ 0 ∷ 0 ∷ 0 ∷ 0 ∷ []
unfolding run_from instr_of patched loaded bytes_at all_from name_from gather
reads_thrice-alone = refl

-- ---- one region: the second store parks

stores_end : Run
stores_end = run stores_twice (rounds 200 600)

stores_twice-report : report stores_end ≡ 15 ∷ 1 ∷ 1 ∷ 0 ∷ 0 ∷ 1 ∷ 2 ∷ 0 ∷ []
unfolding stores_end run_from instr_of patched loaded bytes_at all_from name_from gather shadowed with_copies set_in_copies uncopied
stores_twice-report = refl

stores_twice-parked : stores_end.shadow.state ≡ Parked park.Regions
unfolding stores_end run_from instr_of patched loaded bytes_at all_from name_from gather shadowed with_copies set_in_copies uncopied
stores_twice-parked = refl

-- ---- the instruction after the restarting read loads an unfilled byte: the horizon is 2, and there is no use of the byte

early_end : Run
early_end = run loads_early (rounds 200 600)

loads_early-before_1 : before_horizon loads_early early_end 1 ≡ true
unfolding early_end run_from instr_of patched loaded bytes_at all_from name_from gather shadowed with_copies set_in_copies uncopied before_horizon unfilled_with any_from state_after
loads_early-before_1 = refl

loads_early-horizon_2 : before_horizon loads_early early_end 2 ≡ false
unfolding early_end run_from instr_of patched loaded bytes_at all_from name_from gather shadowed with_copies set_in_copies uncopied before_horizon unfilled_with any_from state_after
loads_early-horizon_2 = refl

loads_early-no_use : before_use loads_early early_end 3 ≡ true
unfolding early_end run_from instr_of patched loaded bytes_at all_from name_from gather shadowed with_copies set_in_copies uncopied before_use_with marks_with any_from state_after
loads_early-no_use = refl

-- ---- two records: a copied region, a log, six calls

records-report : report (run (records 2) (rounds 300 600)) ≡ 45 ∷ 1 ∷ 1 ∷ 1 ∷ 1 ∷ 1 ∷ 26 ∷ 0 ∷ []
unfolding run_from instr_of patched loaded bytes_at all_from name_from gather shadowed with_copies set_in_copies uncopied
records-report = refl
