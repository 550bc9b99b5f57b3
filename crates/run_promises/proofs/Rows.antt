-- Worked runs: what their moves ask, their calls on the store and their puts, computed from the definitions.
use Rattle.spec_base.specs.Listed.{is_listed}
use Rattle.std.proofs.Common.{◌≡◌, ℕ, suc, List, [], ◌∷◌, ◌++◌, length, map, replicate, Some, None, true, false, refl, pos}
use Rattle.std.specs.Prelude.{codes, if◌then◌else◌}
use Rattle.spec_base.specs.declared.note.Move.{Move}
use Rattle.spec_base.specs.declared.note.Move.TheVariants.{O, S, D}
use Rattle.rv_decode.specs.Instruction.{instr_of}
use Rattle.rv_decode.specs.declared.instr.Instr.TheVariants.{Lui, Ecall}
use Rattle.rv_model.specs.Memory.{patched, loaded, bytes_at, all_from}
use Rattle.program_model.specs.Calls.{name_from}
use Rattle.program_model.specs.Cache.{gather}
use Rattle.code_model.specs.Regions.{shadowed, with_copies, set_in_copies, uncopied}
use Rattle.run_model.specs.Run.{World, Run, Exits, StoreFailed, SinkFailed, Answer, Usual, Took, Failed, opened_run}
use Rattle.run_model.specs.Moves.{Moves, step, run, run_from}
use Rattle.run_model.specs.Patterns.{Pattern, pattern_moves}
use Rattle.run_model.proofs.Samples.{world, two_segments, addi, exits, reads_thrice, records, of}
use Rattle.world_io.specs.declared.sink.Put.TheVariants as put
use Rattle.move_requests.specs.Asked.{Asked, Nothing, Looks, Fetches, Puts, asks}
use Rattle.move_requests.specs.Offers.{store_calls, store_calls_from, offers, offers_from}

-- ---- moves over a store whose failing calls are listed, and sinks that take all

-- the number of calls on the store behind a move
abbrev calls_after : Asked → ℕ → ℕ
calls_after (Looks name) n = suc n
calls_after (Fetches spot) n = suc n
calls_after (Puts to_out bytes) n = n
calls_after Nothing n = n

-- the answer: a failure exactly at the calls whose numbers are listed
abbrev answer_at : List ℕ → ℕ → Asked → Answer
answer_at fails n (Looks name) = if is_listed fails (suc n) then Failed else Usual
answer_at fails n (Fetches spot) = if is_listed fails (suc n) then Failed else Usual
answer_at fails n (Puts to_out bytes) = Took (length bytes)
answer_at fails n Nothing = Usual

-- these moves, up to one that ends the run, behind n calls on the store
unfoldable pub driven_from : World → List ℕ → ℕ → Run → List Move → Moves
driven_from w fails n r [] = []
driven_from w fails n r (m ∷ ms) =
    elim r.end [
      | Some end ↦ []
      | None ↦
          let asked : Asked = asks w r m in
          let x : Answer = answer_at fails n asked in
          (m, x) ∷ driven_from w fails (calls_after asked n) (step w r (m, x)) ms
    ]

-- the first so many moves of a pattern, up to the first that ends the run
abbrev driven : World → List ℕ → Pattern → ℕ → Moves
driven w fails pattern turns = driven_from w fails 0 (opened_run w) (pattern_moves pattern turns)

-- ---- puts: whole, in part, and failing

abbrev puts : World
puts = world (two_segments 4096 (Lui 8 (pos 0x200000) ∷ addi 10 0 (pos 1) ∷ addi 11 8 (pos 8) ∷ addi 12 0 (pos 5) ∷ addi 17 0 (pos 64) ∷ Ecall ∷ exits)) []

-- five instructions, the gate, and four words of the stub: the eleventh own word performs the call, and hears this
abbrev with_answer : Answer → Moves
with_answer x = of O 10 ++ (O, x) ∷ of O 40

puts-asks : asks puts (run puts (of O 10)) O ≡ Puts true (codes "done\n")
unfolding run_from instr_of patched loaded bytes_at all_from name_from gather
puts-asks = refl

whole : offers true puts (with_answer (Took 5)) ≡ (codes "done\n", put.Took 5) ∷ []
unfolding offers_from instr_of patched loaded bytes_at all_from name_from gather
whole = refl

whole-err : offers false puts (with_answer (Took 5)) ≡ []
unfolding offers_from instr_of patched loaded bytes_at all_from name_from gather
whole-err = refl

part-end : (run puts (with_answer (Took 3))).end ≡ Some (Exits 3)
unfolding run_from instr_of patched loaded bytes_at all_from name_from gather
part-end = refl

failing : offers true puts (with_answer Failed) ≡ (codes "done\n", put.Failed) ∷ []
unfolding offers_from instr_of patched loaded bytes_at all_from name_from gather
failing = refl

failing-end : (run puts (with_answer Failed)).end ≡ Some SinkFailed
unfolding run_from instr_of patched loaded bytes_at all_from name_from gather
failing-end = refl

-- ---- calls on the store, newest first: a look and two fetches, with no shadow

abbrev O1D1 : Pattern
O1D1 = (O, 1) ∷ (D, 1) ∷ []

thrice : Moves
unfolding driven_from instr_of patched loaded bytes_at all_from name_from gather
thrice = driven reads_thrice [] O1D1 3000

thrice-end : (run reads_thrice thrice).end ≡ Some (Exits 0)
unfolding thrice driven_from run_from instr_of patched loaded bytes_at all_from name_from gather
thrice-end = refl

thrice-calls : store_calls reads_thrice thrice ≡ false ∷ false ∷ false ∷ []
unfolding thrice driven_from store_calls_from instr_of patched loaded bytes_at all_from name_from gather
thrice-calls = refl

thrice-schedule : map (λ (m : Move × Answer). m.0) thrice ≡ pattern_moves O1D1 (length thrice)
unfolding thrice driven_from instr_of patched loaded bytes_at all_from name_from gather
thrice-schedule = refl

-- ---- the third call fails: alone it is a demanded fetch, which ends the run; beside the shadow a queued one, which is dropped

alone : Moves
unfolding driven_from instr_of patched loaded bytes_at all_from name_from gather
alone = driven (records 5) (3 ∷ []) O1D1 3000

alone-end : (run (records 5) alone).end ≡ Some StoreFailed
unfolding alone driven_from run_from instr_of patched loaded bytes_at all_from name_from gather
alone-end = refl

alone-calls : store_calls (records 5) alone ≡ true ∷ false ∷ false ∷ []
unfolding alone driven_from store_calls_from instr_of patched loaded bytes_at all_from name_from gather
alone-calls = refl

beside : Moves
unfolding driven_from instr_of patched loaded bytes_at all_from name_from gather shadowed with_copies set_in_copies uncopied
beside = driven (records 5) (3 ∷ []) ((O, 1) ∷ (S, 200) ∷ (D, 1) ∷ []) 70000

beside-end : (run (records 5) beside).end ≡ Some (Exits 0)
unfolding beside driven_from run_from instr_of patched loaded bytes_at all_from name_from gather shadowed with_copies set_in_copies uncopied
beside-end = refl

beside-calls : store_calls (records 5) beside ≡ false ∷ false ∷ false ∷ false ∷ true ∷ false ∷ false ∷ []
unfolding beside driven_from store_calls_from instr_of patched loaded bytes_at all_from name_from gather shadowed with_copies set_in_copies uncopied
beside-calls = refl
