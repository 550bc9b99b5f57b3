-- Three worked programs: they compute from the definitions.
use Rattle.std.proofs.Common.{◌≡◌, ℕ, ◌+◌, ◌*◌, List, [], ◌∷◌, length, Option, Some, None, refl}
use Rattle.spec_base.specs.Word.{bytes_of}
use Rattle.spec_base.specs.Files.{Files}
use Rattle.spec_base.specs.declared.machine.Trap.TheVariants as trap
use Rattle.spec_base.specs.declared.layout.Version.TheVariants.{One, Two}
use Rattle.rv_decode.specs.Instruction.{instr_of}
use Rattle.rv_model.specs.Memory.{patched, loaded, bytes_at, all_from}
use Rattle.program_model.specs.Calls.{name_from}
use Rattle.program_model.specs.PlainRun.{State, Image, plain_state, state_after, end_of, End, Exited, TrapsAt, GoesOn, all_taken, Output}
use Rattle.program_model.specs.Loading.{Executable, loaded_image, bytes_of_words}

-- the words stand alone at 0x10078, where the entry is
abbrev one_segment : List ℕ → Executable
one_segment words =
    record {
      layout = record { text_start = 0x10078; text_end = 0x10078 + 4 * length words; regions = 1; version = Two };
      words = words;
      parts = (0x10078, bytes_of_words words) ∷ [];
      entry = 0x10078;
      break_start = 0x10090;
    }

abbrev no_files : Files
no_files name = None

-- what is seen of a state: the pc, x2, the bytes and puts on standard output, and the exit code
abbrev seen : Option State → Option (ℕ × ℕ × Output × Option ℕ)
seen None = None
seen (Some s) = Some (s.pc, s.registers 2, s.out, s.exited)

abbrev end_in : Image → Option State → Option End
end_in p None = None
end_in p (Some s) = Some (end_of p no_files all_taken s)

-- addi x10,x0,7; addi x17,x0,93; ecall
abbrev exits_7 : Image
exits_7 = loaded_image (one_segment (0x00700513 ∷ 0x05D00893 ∷ 0x00000073 ∷ [])) ((109 ∷ 49 ∷ []) ∷ [])

exits_after_three : end_in exits_7 (plain_state exits_7 no_files all_taken 3) ≡ Some (Exited 7)
unfolding state_after instr_of patched loaded bytes_at all_from name_from
exits_after_three = refl

goes_on_after_two : end_in exits_7 (plain_state exits_7 no_files all_taken 2) ≡ Some GoesOn
unfolding state_after instr_of patched loaded bytes_at all_from name_from
goes_on_after_two = refl

no_fourth_step : seen (plain_state exits_7 no_files all_taken 4) ≡ None
unfolding state_after instr_of patched loaded bytes_at all_from name_from
no_fourth_step = refl

-- addi x10,x0,1; addi x11,x2,61; addi x12,x0,2; addi x17,x0,64; ecall; addi x10,x0,0; addi x17,x0,93; ecall
abbrev puts_its_name : Image
puts_its_name =
    loaded_image (one_segment (0x00100513 ∷ 0x03D10593 ∷ 0x00200613 ∷ 0x04000893 ∷ 0x00000073 ∷ 0x00000513 ∷ 0x05D00893 ∷ 0x00000073 ∷ [])) ((119 ∷ 49 ∷ []) ∷ [])

puts_w1 : seen (plain_state puts_its_name no_files all_taken 8) ≡ Some (0x10094, 0x3FFF_FFC0, record { bytes = 119 ∷ 49 ∷ []; puts = (2, 2) ∷ [] }, Some 0)
unfolding state_after instr_of patched loaded bytes_at all_from name_from
puts_w1 = refl

-- addi x10,x0,7, and nothing behind it
abbrev falls_off : Image
falls_off = loaded_image (one_segment (0x00700513 ∷ [])) ((109 ∷ 49 ∷ []) ∷ [])

falls_off_the_text : end_in falls_off (plain_state falls_off no_files all_taken 1) ≡ Some (TrapsAt trap.FetchOut 0x1007C)
unfolding state_after instr_of patched loaded bytes_at all_from name_from
falls_off_the_text = refl
