-- The table of rows says what the definition by opcode says.
use Rattle.std.proofs.Common.{◌≡◌, ℕ, ◌^◌, ◌<◌, refl, arith}
use Rattle.std.proofs.lemmas.Bool.Decides.{nat_tests}
use Rattle.rv_decode.specs.Instruction.{instr_of}
use Rattle.rv_decode.specs.Table.{table_of}
use Rattle.rv_decode.proofs.Selected.{Major, at_lui, at_auipc, at_jal, at_jalr, at_branch, at_load, at_store, at_op_imm, at_op_imm_w, at_op, at_op_w, at_fence, at_system, at_gate, at_none, major_of}

same : (w : ℕ) → w < 2 ^ 32 → Major w → instr_of w ≡ table_of w
unfolding instr_of table_of
same w pw (at_lui o) = rw o refl
same w pw (at_auipc o) = rw o refl
same w pw (at_jal o) = rw o refl
same w pw (at_jalr o) = rw o (grind (arith, nat_tests))
same w pw (at_branch o) = rw o (grind (arith, nat_tests))
same w pw (at_load o) = rw o (grind (arith, nat_tests))
same w pw (at_store o) = rw o (grind (arith, nat_tests))
same w pw (at_op_imm o) = rw o (grind (arith, nat_tests))
same w pw (at_op_imm_w o) = rw o (grind (arith, nat_tests))
same w pw (at_op o) = rw o (grind (arith, nat_tests))
same w pw (at_op_w o) = rw o (grind (arith, nat_tests))
same w pw (at_fence o) = rw o (grind (arith, nat_tests))
same w pw (at_system o) = rw o (grind (arith, nat_tests))
same w pw (at_gate o) = rw o (grind (arith, nat_tests))
same w pw (at_none n1 n2 n3 n4 n5 n6 n7 n8 n9 n10 n11 n12 n13 n14) = rw (n1, n2, n3, n4, n5, n6, n7, n8, n9, n10, n11, n12, n13, n14) (grind (arith, nat_tests))

pub instr_of-table : (w : ℕ) → w < 2 ^ 32 → instr_of w ≡ table_of w
instr_of-table w pw = same w pw (major_of w)
