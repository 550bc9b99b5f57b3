-- Worked first uses, of programs that load a byte of their first read behind its restart: the lines of the trace, the horizon and the first use.
use Rattle.std.proofs.Common.{◌≡◌, ℕ, zero, suc, ◌+◌, ◌*◌, Bool, true, false, List, [], ◌∷◌, ◌++◌, length, map, replicate, Option, Some, None, pos, refl}
use Rattle.std.specs.Prelude.{bytes_eq, codes}
use Rattle.std.specs.Fmt.{digits}
use Rattle.spec_base.specs.Files.{Files}
use Rattle.spec_base.specs.declared.layout.Version.TheVariants.{Two}
use Rattle.spec_base.specs.declared.note.Move.{Move}
use Rattle.spec_base.specs.declared.note.Move.TheVariants.{O, S, D}
use Rattle.rv_decode.specs.Encoding.{word_of}
use Rattle.rv_decode.specs.declared.instr.Instr.{Instr}
use Rattle.rv_decode.specs.declared.instr.Instr.TheVariants.{Ecall, Load}
use Rattle.rv_decode.specs.declared.instr.LoadOp.TheVariants.{Lbu}
use Rattle.rv_decode.specs.Instruction.{instr_of}
use Rattle.rv_model.specs.Memory.{patched, loaded, bytes_at, all_from, any_from}
use Rattle.program_model.specs.Loading.{Executable, loaded_image, bytes_of_words}
use Rattle.program_model.specs.Calls.{name_from}
use Rattle.program_model.specs.Cache.{gather}
use Rattle.program_model.specs.PlainRun.{state_after}
use Rattle.code_model.specs.Assembly.{addi, lui}
use Rattle.run_model.specs.Run.{World, Run, Usual}
use Rattle.run_model.specs.Moves.{Moves, run, run_from}
use Rattle.run_model.specs.Restarts.{before_horizon, unfilled_with}
use Rattle.run_model.specs.Marks.{before_use, before_use_with, marks_with}
use Rattle.program_driver.specs.Lines.{Line}
use Rattle.program_driver.specs.Traces.{trace_lines, lines_from}

-- opens `data`, reads its first block to 0x201000, loads a byte of it, and exits with x10
abbrev reads_and : Instr → List Instr
reads_and load =
    lui 8 0x200 ∷ addi 11 8 (pos 0) ∷ addi 12 0 (pos 0) ∷ addi 17 0 (pos 56) ∷ Ecall
    ∷ addi 9 10 (pos 0) ∷ addi 10 9 (pos 0) ∷ lui 11 0x201 ∷ lui 12 1 ∷ addi 17 0 (pos 63)
    ∷ Ecall ∷ load ∷ addi 17 0 (pos 93) ∷ Ecall ∷ []

abbrev data_name : List ℕ
data_name = codes "data"

-- its words at 0x100B0, and the name at 0x200000
abbrev executable : List Instr → Executable
executable instrs =
    record {
      layout = record { text_start = 0x100B0; text_end = 0x100B0 + 4 * length instrs; regions = 4096; version = Two };
      words = map word_of instrs;
      parts = (0x100B0, bytes_of_words (map word_of instrs)) ∷ (0x200000, data_name ++ replicate 12 0) ∷ [];
      entry = 0x100B0;
      break_start = 0x20_3000;
    }

-- `data` has 5,000 bytes, each 7, and there is no other file
abbrev files_if : Bool → Option (List ℕ)
files_if true = Some (replicate 5000 7)
files_if false = None

abbrev data_alone : Files
data_alone name = files_if (bytes_eq name data_name)

abbrev world : Instr → World
world load = record { image = loaded_image (executable (reads_and load)) (codes "w1" ∷ []); files = data_alone }

-- so many rounds of the default pattern
abbrev of : Move → ℕ → Moves
of m n = replicate n (m, Usual)

abbrev rounds : ℕ → Moves
rounds zero = []
rounds (suc n) = of O 1 ++ of S 600 ++ of D 1 ++ rounds n

-- lbu x10,0(x11), whose byte is the exit's code, and lbu x5,0(x11), whose byte nothing uses: there the code is the lowest byte of 4096
abbrev exits_with_byte : World
exits_with_byte = world (Load Lbu 10 11 (pos 0))

abbrev ignores_byte : World
ignores_byte = world (Load Lbu 5 11 (pos 0))

-- the moves up to the end, of which the own hart makes 83
abbrev all_moves : Moves
all_moves = rounds 82 ++ of O 1

-- ---- the lines of a trace with uses: the exit uses the byte in its code, or nothing does

abbrev front_lines : List Line
front_lines =
    codes "5 0 call 56 0 2097152 0 3\n" ∷ codes "10 0 restart 64617461 0 4096\n" ∷ codes "10 3 park Exit\n"
    ∷ codes "10 3 stall 64617461 0\n" ∷ codes "10 3 fetch 64617461 0\n" ∷ codes "11 3 call 63 3 2101248 4096 4096\n" ∷ []

use-line : trace_lines true exits_with_byte all_moves ≡ front_lines ++ codes "14 3 use 4\n" ∷ codes "14 3 exit 7\n" ∷ []
unfolding lines_from marks_with before_use_with state_after run_from instr_of patched loaded bytes_at all_from any_from name_from gather digits
use-line = refl

no_use-line : trace_lines true ignores_byte all_moves ≡ front_lines ++ codes "14 3 exit 0\n" ∷ []
unfolding lines_from marks_with before_use_with state_after run_from instr_of patched loaded bytes_at all_from any_from name_from gather digits
no_use-line = refl

-- ---- the run from the restart: how many instructions it has, whether 1 and 2 are before the horizon, and whether 3 and 4 are before the first use

abbrev marked : Run → World → ℕ × (Bool × Bool) × (Bool × Bool)
marked r w = (r.since.own, (before_horizon w r 1, before_horizon w r 2), (before_use w r 3, before_use w r 4))

-- the load is behind the horizon in both, and the exit is the first use, or there is none
exit-is_use : marked (run exits_with_byte all_moves) exits_with_byte ≡ (4, (true, false), (true, false))
unfolding before_horizon unfilled_with marks_with before_use_with state_after run_from instr_of patched loaded bytes_at all_from any_from name_from gather
exit-is_use = refl

nothing-is_use : marked (run ignores_byte all_moves) ignores_byte ≡ (4, (true, false), (true, true))
unfolding before_horizon unfilled_with marks_with before_use_with state_after run_from instr_of patched loaded bytes_at all_from any_from name_from gather
nothing-is_use = refl
