-- The instruction that an operation stands for, and the operations of words (this project's own).
use Rattle.rv_decode.specs.declared.instr.Instr.{Instr}
use Rattle.rv_decode.specs.declared.instr.Instr.TheVariants.{Lui, Auipc, Jal, Jalr, Branch, Load, Store, OpImm, OpImmW, Op, OpW, Fence, Ecall, Ebreak, Hgate, Hleave, Hsite, Hkey, Hstop, Hrestart, Hcall, Hpark, Illegal}
use Rattle.rv_decode.specs.declared.instr.BranchOp.TheVariants as branch
use Rattle.rv_decode.specs.declared.instr.LoadOp.TheVariants as load
use Rattle.rv_decode.specs.declared.instr.StoreOp.TheVariants as store
use Rattle.rv_decode.specs.declared.instr.ImmOp.TheVariants as imm_op
use Rattle.rv_decode.specs.declared.instr.ImmWOp.TheVariants as imm_w_op
use Rattle.rv_decode.specs.declared.instr.RegOp.TheVariants as reg_op
use Rattle.rv_decode.specs.declared.instr.RegWOp.TheVariants as reg_w_op
use Rattle.hart_mem.specs.declared.operation.Operation.{Operation}
use Rattle.hart_mem.specs.declared.operation.Operation.TheVariants as operation

-- each form of an operation has a case of its own, which the instruction has as a field
abbrev pub instr_of_operation : Operation → Instr
instr_of_operation (operation.Lui rd imm) = Lui rd imm
instr_of_operation (operation.Auipc rd imm) = Auipc rd imm
instr_of_operation (operation.Jal rd imm) = Jal rd imm
instr_of_operation (operation.Jalr rd rs1 imm) = Jalr rd rs1 imm
instr_of_operation (operation.Beq rs1 rs2 imm) = Branch branch.Beq rs1 rs2 imm
instr_of_operation (operation.Bne rs1 rs2 imm) = Branch branch.Bne rs1 rs2 imm
instr_of_operation (operation.Blt rs1 rs2 imm) = Branch branch.Blt rs1 rs2 imm
instr_of_operation (operation.Bge rs1 rs2 imm) = Branch branch.Bge rs1 rs2 imm
instr_of_operation (operation.Bltu rs1 rs2 imm) = Branch branch.Bltu rs1 rs2 imm
instr_of_operation (operation.Bgeu rs1 rs2 imm) = Branch branch.Bgeu rs1 rs2 imm
instr_of_operation (operation.Lb rd rs1 imm) = Load load.Lb rd rs1 imm
instr_of_operation (operation.Lh rd rs1 imm) = Load load.Lh rd rs1 imm
instr_of_operation (operation.Lw rd rs1 imm) = Load load.Lw rd rs1 imm
instr_of_operation (operation.Ld rd rs1 imm) = Load load.Ld rd rs1 imm
instr_of_operation (operation.Lbu rd rs1 imm) = Load load.Lbu rd rs1 imm
instr_of_operation (operation.Lhu rd rs1 imm) = Load load.Lhu rd rs1 imm
instr_of_operation (operation.Lwu rd rs1 imm) = Load load.Lwu rd rs1 imm
instr_of_operation (operation.Sb rs1 rs2 imm) = Store store.Sb rs1 rs2 imm
instr_of_operation (operation.Sh rs1 rs2 imm) = Store store.Sh rs1 rs2 imm
instr_of_operation (operation.Sw rs1 rs2 imm) = Store store.Sw rs1 rs2 imm
instr_of_operation (operation.Sd rs1 rs2 imm) = Store store.Sd rs1 rs2 imm
instr_of_operation (operation.Addi rd rs1 imm) = OpImm imm_op.Addi rd rs1 imm
instr_of_operation (operation.Slti rd rs1 imm) = OpImm imm_op.Slti rd rs1 imm
instr_of_operation (operation.Sltiu rd rs1 imm) = OpImm imm_op.Sltiu rd rs1 imm
instr_of_operation (operation.Xori rd rs1 imm) = OpImm imm_op.Xori rd rs1 imm
instr_of_operation (operation.Ori rd rs1 imm) = OpImm imm_op.Ori rd rs1 imm
instr_of_operation (operation.Andi rd rs1 imm) = OpImm imm_op.Andi rd rs1 imm
instr_of_operation (operation.Slli rd rs1 imm) = OpImm imm_op.Slli rd rs1 imm
instr_of_operation (operation.Srli rd rs1 imm) = OpImm imm_op.Srli rd rs1 imm
instr_of_operation (operation.Srai rd rs1 imm) = OpImm imm_op.Srai rd rs1 imm
instr_of_operation (operation.Addiw rd rs1 imm) = OpImmW imm_w_op.Addiw rd rs1 imm
instr_of_operation (operation.Slliw rd rs1 imm) = OpImmW imm_w_op.Slliw rd rs1 imm
instr_of_operation (operation.Srliw rd rs1 imm) = OpImmW imm_w_op.Srliw rd rs1 imm
instr_of_operation (operation.Sraiw rd rs1 imm) = OpImmW imm_w_op.Sraiw rd rs1 imm
instr_of_operation (operation.Add rd rs1 rs2) = Op reg_op.Add rd rs1 rs2
instr_of_operation (operation.Sll rd rs1 rs2) = Op reg_op.Sll rd rs1 rs2
instr_of_operation (operation.Slt rd rs1 rs2) = Op reg_op.Slt rd rs1 rs2
instr_of_operation (operation.Sltu rd rs1 rs2) = Op reg_op.Sltu rd rs1 rs2
instr_of_operation (operation.Xor rd rs1 rs2) = Op reg_op.Xor rd rs1 rs2
instr_of_operation (operation.Srl rd rs1 rs2) = Op reg_op.Srl rd rs1 rs2
instr_of_operation (operation.Or rd rs1 rs2) = Op reg_op.Or rd rs1 rs2
instr_of_operation (operation.And rd rs1 rs2) = Op reg_op.And rd rs1 rs2
instr_of_operation (operation.Sub rd rs1 rs2) = Op reg_op.Sub rd rs1 rs2
instr_of_operation (operation.Sra rd rs1 rs2) = Op reg_op.Sra rd rs1 rs2
instr_of_operation (operation.Mul rd rs1 rs2) = Op reg_op.Mul rd rs1 rs2
instr_of_operation (operation.Mulh rd rs1 rs2) = Op reg_op.Mulh rd rs1 rs2
instr_of_operation (operation.Mulhsu rd rs1 rs2) = Op reg_op.Mulhsu rd rs1 rs2
instr_of_operation (operation.Mulhu rd rs1 rs2) = Op reg_op.Mulhu rd rs1 rs2
instr_of_operation (operation.Div rd rs1 rs2) = Op reg_op.Div rd rs1 rs2
instr_of_operation (operation.Divu rd rs1 rs2) = Op reg_op.Divu rd rs1 rs2
instr_of_operation (operation.Rem rd rs1 rs2) = Op reg_op.Rem rd rs1 rs2
instr_of_operation (operation.Remu rd rs1 rs2) = Op reg_op.Remu rd rs1 rs2
instr_of_operation (operation.Addw rd rs1 rs2) = OpW reg_w_op.Addw rd rs1 rs2
instr_of_operation (operation.Sllw rd rs1 rs2) = OpW reg_w_op.Sllw rd rs1 rs2
instr_of_operation (operation.Srlw rd rs1 rs2) = OpW reg_w_op.Srlw rd rs1 rs2
instr_of_operation (operation.Subw rd rs1 rs2) = OpW reg_w_op.Subw rd rs1 rs2
instr_of_operation (operation.Sraw rd rs1 rs2) = OpW reg_w_op.Sraw rd rs1 rs2
instr_of_operation (operation.Mulw rd rs1 rs2) = OpW reg_w_op.Mulw rd rs1 rs2
instr_of_operation (operation.Divw rd rs1 rs2) = OpW reg_w_op.Divw rd rs1 rs2
instr_of_operation (operation.Divuw rd rs1 rs2) = OpW reg_w_op.Divuw rd rs1 rs2
instr_of_operation (operation.Remw rd rs1 rs2) = OpW reg_w_op.Remw rd rs1 rs2
instr_of_operation (operation.Remuw rd rs1 rs2) = OpW reg_w_op.Remuw rd rs1 rs2
instr_of_operation (operation.Fence word) = Fence word
instr_of_operation operation.Ecall = Ecall
instr_of_operation operation.Ebreak = Ebreak
instr_of_operation operation.Hgate = Hgate
instr_of_operation operation.Hleave = Hleave
instr_of_operation (operation.Hsite rd) = Hsite rd
instr_of_operation (operation.Hkey rd) = Hkey rd
instr_of_operation operation.Hstop = Hstop
instr_of_operation operation.Hrestart = Hrestart
instr_of_operation (operation.Hcall unhinted) = Hcall unhinted
instr_of_operation (operation.Hpark cause) = Hpark cause
instr_of_operation operation.Illegal = Illegal
