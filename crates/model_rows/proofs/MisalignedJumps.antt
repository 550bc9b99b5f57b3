-- Worked jumps to a target that is 2 modulo 4.
use Rattle.std.proofs.Common.{◌≡◌, ℕ, [], ◌∷◌, Option, Some, None, pos, negsuc, refl}
use Rattle.spec_base.specs.declared.machine.Trap.TheVariants as trap
use Rattle.spec_base.specs.declared.machine.View.{View}
use Rattle.spec_base.specs.declared.note.Move.TheVariants.{O}
use Rattle.rv_decode.specs.declared.instr.Instr.TheVariants.{Jal, Jalr, Branch}
use Rattle.rv_decode.specs.declared.instr.BranchOp.TheVariants.{Beq, Bne, Bltu}
use Rattle.rv_decode.specs.Instruction.{instr_of}
use Rattle.rv_model.specs.Memory.{Memory, patched, loaded, bytes_at, all_from}
use Rattle.rv_model.specs.Registers.{Registers, with_reg, all_zero}
use Rattle.rv_model.specs.Rights.{Rights}
use Rattle.rv_model.specs.Effect.{effect, Next, Trapped}
use Rattle.program_model.specs.Calls.{name_from}
use Rattle.program_model.specs.Cache.{gather}
use Rattle.run_model.specs.Run.{Run, RunEnd, Traps}
use Rattle.run_model.specs.Moves.{run, run_from}
use Rattle.code_model.specs.Assembly.{addi}
use Rattle.model_rows.proofs.Programs.{program, of}

-- ---- what the instruction does, in each view and on each memory: it traps, so that no register is written

jal-forward : (v : View) (r : Rights) (m : Memory) (rs : Registers) → effect v r m rs 0x10078 (Jal 1 (pos 6)) ≡ Trapped trap.Misaligned
jal-forward v r m rs = refl

jal-back : (v : View) (r : Rights) (m : Memory) (rs : Registers) → effect v r m rs 0x10078 (Jal 1 (negsuc 1)) ≡ Trapped trap.Misaligned
jal-back v r m rs = refl

-- x5 is a number, and each other register is 0
abbrev x5_is : ℕ → Registers
x5_is n = with_reg all_zero 5 n

jalr-by_register : (v : View) (r : Rights) (m : Memory) → effect v r m (x5_is 0x10082) 0x10078 (Jalr 1 5 (pos 0)) ≡ Trapped trap.Misaligned
jalr-by_register v r m = refl

-- the lowest bit is cleared, and bit 1 is left
jalr-by_offset : (v : View) (r : Rights) (m : Memory) → effect v r m (x5_is 0x10080) 0x10078 (Jalr 1 5 (pos 3)) ≡ Trapped trap.Misaligned
jalr-by_offset v r m = refl

-- a target that is 1 modulo 4 is no such target: the lowest bit is cleared
jalr-odd : (v : View) (r : Rights) (m : Memory) → effect v r m (x5_is 0x10081) 0x10078 (Jalr 1 5 (pos 0)) ≡ Next (with_reg (x5_is 0x10081) 1 0x1007C) 0x10080
jalr-odd v r m = refl

-- ---- a branch traps where it is taken, and goes on where it isn't

beq-taken : (v : View) (r : Rights) (m : Memory) → effect v r m (x5_is 0) 0x10078 (Branch Beq 5 0 (pos 6)) ≡ Trapped trap.Misaligned
beq-taken v r m = refl

beq-not_taken : (v : View) (r : Rights) (m : Memory) → effect v r m (x5_is 1) 0x10078 (Branch Beq 5 0 (pos 6)) ≡ Next (x5_is 1) 0x1007C
beq-not_taken v r m = refl

bne-taken : (v : View) (r : Rights) (m : Memory) → effect v r m (x5_is 1) 0x10078 (Branch Bne 5 0 (negsuc 1)) ≡ Trapped trap.Misaligned
bne-taken v r m = refl

bne-not_taken : (v : View) (r : Rights) (m : Memory) → effect v r m (x5_is 0) 0x10078 (Branch Bne 5 0 (negsuc 1)) ≡ Next (x5_is 0) 0x1007C
bne-not_taken v r m = refl

bltu-not_taken : (v : View) (r : Rights) (m : Memory) → effect v r m (x5_is 1) 0x10078 (Branch Bltu 5 0 (pos 6)) ≡ Next (x5_is 1) 0x1007C
bltu-not_taken v r m = refl

-- ---- the run of a rewritten program ends there: the end, the pc, x1, and the completed instructions

abbrev seen : Run → Option RunEnd × ℕ × ℕ × ℕ
seen r = (r.end, r.own.pc, r.own.registers 1, r.own_done)

jal-run : seen (run (program (addi 1 0 (pos 9) ∷ Jal 1 (pos 6) ∷ addi 1 0 (pos 11) ∷ [])) (of O 3)) ≡ (Some (Traps trap.Misaligned 0x1007C), 0x1007C, 9, 1)
unfolding run_from instr_of patched loaded bytes_at all_from name_from gather
jal-run = refl

jalr-run : seen (run (program (addi 1 0 (pos 10) ∷ Jalr 1 1 (pos 0) ∷ addi 1 0 (pos 11) ∷ [])) (of O 3)) ≡ (Some (Traps trap.Misaligned 0x1007C), 0x1007C, 10, 1)
unfolding run_from instr_of patched loaded bytes_at all_from name_from gather
jalr-run = refl

branch-run : seen (run (program (addi 1 0 (pos 9) ∷ Branch Beq 1 0 (pos 6) ∷ addi 1 0 (pos 11) ∷ [])) (of O 2)) ≡ (None, 0x10080, 9, 2)
unfolding run_from instr_of patched loaded bytes_at all_from name_from gather
branch-run = refl
