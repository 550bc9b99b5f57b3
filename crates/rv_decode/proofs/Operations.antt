-- An operation and the fields that select it.
use Rattle.std.proofs.lemmas.Bool.Decides.{nat_tests}
use Rattle.std.proofs.Common.{◌≡◌, ℕ, ◌<◌, Some, arith}
use Rattle.rv_decode.specs.Instruction.{branch_op, load_op, store_op, reg_op, reg_w_op}
use Rattle.rv_decode.specs.Encoding.{branch_funct3, load_funct3, store_funct3, imm_funct3, imm_w_funct3, reg_funct7, reg_funct3, reg_w_funct7, reg_w_funct3}
use Rattle.rv_decode.specs.declared.instr.BranchOp.{BranchOp}
use Rattle.rv_decode.specs.declared.instr.LoadOp.{LoadOp}
use Rattle.rv_decode.specs.declared.instr.StoreOp.{StoreOp}
use Rattle.rv_decode.specs.declared.instr.ImmOp.{ImmOp}
use Rattle.rv_decode.specs.declared.instr.ImmWOp.{ImmWOp}
use Rattle.rv_decode.specs.declared.instr.RegOp.{RegOp}
use Rattle.rv_decode.specs.declared.instr.RegWOp.{RegWOp}

-- ---- the fields of an operation select it
pub branch_op-again : (op : BranchOp) → branch_op (branch_funct3 op) ≡ Some op
branch_op-again op = grind (arith, nat_tests)

pub load_op-again : (op : LoadOp) → load_op (load_funct3 op) ≡ Some op
load_op-again op = grind (arith, nat_tests)

pub store_op-again : (op : StoreOp) → store_op (store_funct3 op) ≡ Some op
store_op-again op = grind (arith, nat_tests)

pub reg_op-again : (op : RegOp) → reg_op (reg_funct7 op) (reg_funct3 op) ≡ Some op
reg_op-again op = grind (arith, nat_tests)

pub reg_w_op-again : (op : RegWOp) → reg_w_op (reg_w_funct7 op) (reg_w_funct3 op) ≡ Some op
reg_w_op-again op = grind (arith, nat_tests)

-- ---- the fields have their widths
pub branch_funct3-below : (op : BranchOp) → branch_funct3 op < 8
branch_funct3-below op = grind arith

pub load_funct3-below : (op : LoadOp) → load_funct3 op < 8
load_funct3-below op = grind arith

pub store_funct3-below : (op : StoreOp) → store_funct3 op < 8
store_funct3-below op = grind arith

pub imm_funct3-below : (op : ImmOp) → imm_funct3 op < 8
imm_funct3-below op = grind arith

pub imm_w_funct3-below : (op : ImmWOp) → imm_w_funct3 op < 8
imm_w_funct3-below op = grind arith

pub reg_funct7-below : (op : RegOp) → reg_funct7 op < 128
reg_funct7-below op = grind arith

pub reg_funct3-below : (op : RegOp) → reg_funct3 op < 8
reg_funct3-below op = grind arith

pub reg_w_funct7-below : (op : RegWOp) → reg_w_funct7 op < 128
reg_w_funct7-below op = grind arith

pub reg_w_funct3-below : (op : RegWOp) → reg_w_funct3 op < 8
reg_w_funct3-below op = grind arith

-- ---- an operation that was selected has the fields that selected it
pub branch_funct3-is : (f3 : ℕ) (op : BranchOp) → branch_op f3 ≡ Some op → branch_funct3 op ≡ f3
branch_funct3-is f3 op h = grind (arith, nat_tests)

pub load_funct3-is : (f3 : ℕ) (op : LoadOp) → load_op f3 ≡ Some op → load_funct3 op ≡ f3
load_funct3-is f3 op h = grind (arith, nat_tests)

pub store_funct3-is : (f3 : ℕ) (op : StoreOp) → store_op f3 ≡ Some op → store_funct3 op ≡ f3
store_funct3-is f3 op h = grind (arith, nat_tests)

pub reg_fields-are : (f7 f3 : ℕ) (op : RegOp) → reg_op f7 f3 ≡ Some op → (reg_funct7 op ≡ f7) × (reg_funct3 op ≡ f3)
reg_fields-are f7 f3 op h = grind (arith, nat_tests)

pub reg_w_fields-are : (f7 f3 : ℕ) (op : RegWOp) → reg_w_op f7 f3 ≡ Some op → (reg_w_funct7 op ≡ f7) × (reg_w_funct3 op ≡ f3)
reg_w_fields-are f7 f3 op h = grind (arith, nat_tests)
