-- Programs of the worked rows, and what is seen of their runs.
use Rattle.std.proofs.Common.{◌≡◌, ℕ, zero, suc, ◌+◌, ◌*◌, ◌/◌, ◌%◌, List, [], ◌∷◌, ◌++◌, length, map, replicate, Option, Some, None, pos, negsuc, ℤ, true, false, take, drop}
use Rattle.std.specs.Prelude.{bytes_eq}
use Rattle.spec_base.specs.Word.{bytes_of}
use Rattle.spec_base.specs.Files.{Files, Name}
use Rattle.spec_base.specs.declared.layout.Version.{Version}
use Rattle.spec_base.specs.declared.layout.Version.TheVariants.{One, Two}
use Rattle.spec_base.specs.declared.note.Move.{Move}
use Rattle.spec_base.specs.declared.note.Move.TheVariants.{O, S, T, D}
use Rattle.spec_base.specs.declared.note.Note.{Note}
use Rattle.spec_base.specs.declared.spot.ReadSpot.{ReadSpot}
use Rattle.rv_decode.specs.Encoding.{word_of}
use Rattle.rv_decode.specs.declared.instr.Instr.{Instr}
use Rattle.rv_decode.specs.declared.instr.Instr.TheVariants.{Lui, Branch, Load, Store, OpImm, Op, Ecall}
use Rattle.rv_decode.specs.declared.instr.ImmOp.TheVariants.{Addi}
use Rattle.rv_decode.specs.declared.instr.BranchOp.TheVariants.{Bne}
use Rattle.rv_decode.specs.declared.instr.StoreOp.TheVariants.{Sw, Sd}
use Rattle.rv_decode.specs.declared.instr.LoadOp.TheVariants.{Lbu}
use Rattle.rv_decode.specs.declared.instr.RegOp.TheVariants.{Add}
use Rattle.program_model.specs.Loading.{Executable, loaded_image, bytes_of_words}
use Rattle.code_model.specs.Regions.{slots_in_use}
use Rattle.run_model.specs.Run.{World, Run, RunEnd, Exits, Traps, StoreFailed, SinkFailed, Answer, Usual, opened_run}
use Rattle.run_model.specs.Moves.{Moves, step, run}

-- ---- programs

abbrev pub addi : ℕ → ℕ → ℤ → Instr
addi rd rs1 imm = OpImm Addi rd rs1 imm

abbrev pub words_of : List Instr → List ℕ
words_of instrs = map word_of instrs

-- the words alone at 0x10078
abbrev pub one_segment : ℕ → List Instr → Executable
one_segment regions instrs =
    record {
      layout = record { text_start = 0x10078; text_end = 0x10078 + 4 * length instrs; regions = regions; version = Two };
      words = words_of instrs;
      parts = (0x10078, bytes_of_words (words_of instrs)) ∷ [];
      entry = 0x10078;
      break_start = 0x10090;
    }

-- the words at 0x100B0, and `data` and `done` at 0x200000
abbrev pub two_segments : ℕ → List Instr → Executable
two_segments regions instrs =
    record {
      layout = record { text_start = 0x100B0; text_end = 0x100B0 + 4 * length instrs; regions = regions; version = Two };
      words = words_of instrs;
      parts =
          (0x100B0, bytes_of_words (words_of instrs))
          ∷ (0x200000, 100 ∷ 97 ∷ 116 ∷ 97 ∷ 0 ∷ 0 ∷ 0 ∷ 0 ∷ 100 ∷ 111 ∷ 110 ∷ 101 ∷ 10 ∷ 0 ∷ 0 ∷ 0 ∷ []) ∷ [];
      entry = 0x100B0;
      break_start = 0x203000;
    }

abbrev pub name : Name
name = 100 ∷ 97 ∷ 116 ∷ 97 ∷ []

-- one file, `data`
abbrev pub file : List ℕ → Files
file bytes asked = elim (bytes_eq asked name) [ true ↦ Some bytes | false ↦ None ]

abbrev pub world : Executable → List ℕ → World
world e bytes = record { image = loaded_image e ((109 ∷ 49 ∷ []) ∷ []); files = file bytes }

-- exits with 7
abbrev pub exits_7 : World
exits_7 = world (one_segment 4096 (addi 10 0 (pos 7) ∷ addi 17 0 (pos 93) ∷ Ecall ∷ [])) []

-- opens `data`; x9 is its descriptor, x8 is 0x200000
abbrev pub opens : List Instr
opens = Lui 8 (pos 0x200000) ∷ addi 11 8 (pos 0) ∷ addi 12 0 (pos 0) ∷ addi 17 0 (pos 56) ∷ Ecall ∷ addi 9 10 (pos 0) ∷ []

-- reads 4,096 bytes to 0x201000
abbrev pub reads_page : List Instr
reads_page = addi 10 9 (pos 0) ∷ Lui 11 (pos 0x201000) ∷ Lui 12 (pos 0x1000) ∷ addi 17 0 (pos 63) ∷ Ecall ∷ []

abbrev pub exits : List Instr
exits = addi 17 0 (pos 93) ∷ Ecall ∷ []

-- reads three times, and exits with the last answer
abbrev pub reads_thrice : World
reads_thrice = world (two_segments 4096 (opens ++ reads_page ++ addi 10 9 (pos 0) ∷ Ecall ∷ addi 10 9 (pos 0) ∷ Ecall ∷ exits)) (replicate 5000 7)

-- after the first read, two stores to different regions, of which one may be copied
abbrev pub stores_twice : World
stores_twice = world (two_segments 1 (opens ++ reads_page ++ Store Sd 8 0 (pos 0) ∷ Store Sd 8 0 (pos 256) ∷ exits)) (replicate 5000 7)

-- after the first read, a load of a byte that it filled
abbrev pub loads_early : World
loads_early = world (two_segments 4096 (opens ++ reads_page ++ Load Lbu 5 11 (pos 0) ∷ exits)) (replicate 5000 7)

-- r records of 4,096 bytes, of each of which 64 bytes are read
abbrev pub records : ℕ → World
records r =
    world (two_segments 4096 (
    opens ++ addi 18 0 (pos 0) ∷ addi 19 0 (pos r) ∷ Lui 20 (pos 0x1000)
    ∷ addi 10 9 (pos 0) ∷ addi 11 18 (pos 0) ∷ addi 12 0 (pos 0) ∷ addi 17 0 (pos 62) ∷ Ecall
    ∷ addi 10 9 (pos 0) ∷ Lui 11 (pos 0x201000) ∷ addi 12 0 (pos 64) ∷ addi 17 0 (pos 63) ∷ Ecall
    ∷ Store Sw 8 19 (pos 256) ∷ Op Add 18 18 20 ∷ addi 19 19 (negsuc 0) ∷ Branch Bne 19 0 (negsuc 51)
    ∷ addi 10 0 (pos 1) ∷ addi 11 8 (pos 8) ∷ addi 12 0 (pos 5) ∷ addi 17 0 (pos 64) ∷ Ecall
    ∷ addi 10 0 (pos 0) ∷ exits))
    (replicate (4096 * r) 7)

-- reads 64 bytes, seeks back, reads them again, and reads as many as the first of them says; the second read finds its block cached
abbrev pub rereads : ℕ → World
rereads regions =
    world (two_segments regions (
    Lui 8 (pos 0x200000) ∷ addi 11 8 (pos 0) ∷ addi 12 0 (pos 0) ∷ addi 17 0 (pos 56) ∷ Ecall
    ∷ addi 9 10 (pos 0) ∷ Lui 11 (pos 0x201000) ∷ addi 12 0 (pos 64) ∷ addi 17 0 (pos 63) ∷ Ecall
    ∷ addi 10 9 (pos 0) ∷ addi 11 0 (pos 0) ∷ addi 12 0 (pos 0) ∷ addi 17 0 (pos 62) ∷ Ecall
    ∷ addi 10 9 (pos 0) ∷ Lui 11 (pos 0x201000) ∷ addi 12 0 (pos 64) ∷ addi 17 0 (pos 63) ∷ Ecall
    ∷ Load Lbu 12 11 (pos 0) ∷ addi 10 9 (pos 0) ∷ Ecall ∷ exits))
    (replicate 5000 7)

-- ---- moves

abbrev pub times : ℕ → Moves → Moves → Moves
times zero ms rest = rest
times (suc n) ms rest = let later = times n ms rest in ms ++ later

abbrev pub of : Move → ℕ → Moves
of m n = replicate n (m, Usual)

-- one own move, n of the shadow, one fetch
abbrev pub round : ℕ → Moves
round n = of O 1 ++ of S n ++ of D 1

abbrev pub rounds : ℕ → ℕ → Moves
rounds n shadow = times n (round shadow) []

-- ---- what is seen

-- the exit code, and 1000 where the run goes on
abbrev pub code_of : Option RunEnd → ℕ
code_of None = 1000
code_of (Some (Exits code)) = code
code_of (Some (Traps cause pc)) = 2000
code_of (Some StoreFailed) = 3000
code_of (Some SinkFailed) = 4000

-- instructions, stalls, restarts, matched, hints, most regions, the shadow's arrivals, code
abbrev pub report : Run → List ℕ
report r = r.own_done ∷ r.stalls ∷ r.restarts ∷ r.matched ∷ r.hints ∷ r.regions_most ∷ r.since.shadow ∷ code_of r.end ∷ []

-- the offset and the count of each read
abbrev pub spots : List ReadSpot → List (ℕ × ℕ)
spots [] = []
spots (spot ∷ rest) = (spot.offset, spot.count) ∷ spots rest
