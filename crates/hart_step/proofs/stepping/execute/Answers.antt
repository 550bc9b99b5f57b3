use Rattle.std.proofs.Common.{rules}
use Rattle.hart_step.proofs.stepping.execute.Goals as goal

pub returns-in-Lui : goal.returns-in-Lui
returns-in-Lui g c = let e = c.lui.ensures c.args.mem.now in search rules

pub returns-in-Auipc : goal.returns-in-Auipc
returns-in-Auipc g c = let e = c.auipc.ensures c.args.mem.now in search rules

pub returns-in-Jal : goal.returns-in-Jal
returns-in-Jal g c = let e = c.jal.ensures c.args.mem.now in search rules

pub returns-in-Jalr : goal.returns-in-Jalr
returns-in-Jalr g c = let e = c.jalr.ensures c.args.mem.now in search rules

pub returns-in-Beq : goal.returns-in-Beq
returns-in-Beq g c = let e = c.compare.ensures c.args.mem.now in search rules

pub returns-in-Bne : goal.returns-in-Bne
returns-in-Bne g c = let e = c.compare-in-Bne.ensures c.args.mem.now in search rules

pub returns-in-Blt : goal.returns-in-Blt
returns-in-Blt g c = let e = c.compare-in-Blt.ensures c.args.mem.now in search rules

pub returns-in-Bge : goal.returns-in-Bge
returns-in-Bge g c = let e = c.compare-in-Bge.ensures c.args.mem.now in search rules

pub returns-in-Bltu : goal.returns-in-Bltu
returns-in-Bltu g c = let e = c.compare-in-Bltu.ensures c.args.mem.now in search rules

pub returns-in-Bgeu : goal.returns-in-Bgeu
returns-in-Bgeu g c = let e = c.compare-in-Bgeu.ensures c.args.mem.now in search rules

pub returns-in-Addi : goal.returns-in-Addi
returns-in-Addi g c = let e = c.compute_imm.ensures c.args.mem.now in search rules

pub returns-in-Slti : goal.returns-in-Slti
returns-in-Slti g c = let e = c.compute_imm-in-Slti.ensures c.args.mem.now in search rules

pub returns-in-Sltiu : goal.returns-in-Sltiu
returns-in-Sltiu g c = let e = c.compute_imm-in-Sltiu.ensures c.args.mem.now in search rules

pub returns-in-Xori : goal.returns-in-Xori
returns-in-Xori g c = let e = c.compute_imm-in-Xori.ensures c.args.mem.now in search rules

pub returns-in-Ori : goal.returns-in-Ori
returns-in-Ori g c = let e = c.compute_imm-in-Ori.ensures c.args.mem.now in search rules

pub returns-in-Andi : goal.returns-in-Andi
returns-in-Andi g c = let e = c.compute_imm-in-Andi.ensures c.args.mem.now in search rules

pub returns-in-Slli : goal.returns-in-Slli
returns-in-Slli g c = let e = c.compute_imm-in-Slli.ensures c.args.mem.now in search rules

pub returns-in-Srli : goal.returns-in-Srli
returns-in-Srli g c = let e = c.compute_imm-in-Srli.ensures c.args.mem.now in search rules

pub returns-in-Srai : goal.returns-in-Srai
returns-in-Srai g c = let e = c.compute_imm-in-Srai.ensures c.args.mem.now in search rules

pub returns-in-Addiw : goal.returns-in-Addiw
returns-in-Addiw g c = let e = c.compute_imm_w.ensures c.args.mem.now in search rules

pub returns-in-Slliw : goal.returns-in-Slliw
returns-in-Slliw g c = let e = c.compute_imm_w-in-Slliw.ensures c.args.mem.now in search rules

pub returns-in-Srliw : goal.returns-in-Srliw
returns-in-Srliw g c = let e = c.compute_imm_w-in-Srliw.ensures c.args.mem.now in search rules

pub returns-in-Sraiw : goal.returns-in-Sraiw
returns-in-Sraiw g c = let e = c.compute_imm_w-in-Sraiw.ensures c.args.mem.now in search rules

pub returns-in-Add : goal.returns-in-Add
returns-in-Add g c = let e = c.compute.ensures c.args.mem.now in search rules

pub returns-in-Sll : goal.returns-in-Sll
returns-in-Sll g c = let e = c.compute-in-Sll.ensures c.args.mem.now in search rules

pub returns-in-Slt : goal.returns-in-Slt
returns-in-Slt g c = let e = c.compute-in-Slt.ensures c.args.mem.now in search rules

pub returns-in-Sltu : goal.returns-in-Sltu
returns-in-Sltu g c = let e = c.compute-in-Sltu.ensures c.args.mem.now in search rules

pub returns-in-Xor : goal.returns-in-Xor
returns-in-Xor g c = let e = c.compute-in-Xor.ensures c.args.mem.now in search rules

pub returns-in-Srl : goal.returns-in-Srl
returns-in-Srl g c = let e = c.compute-in-Srl.ensures c.args.mem.now in search rules

pub returns-in-Or : goal.returns-in-Or
returns-in-Or g c = let e = c.compute-in-Or.ensures c.args.mem.now in search rules

pub returns-in-And : goal.returns-in-And
returns-in-And g c = let e = c.compute-in-And.ensures c.args.mem.now in search rules

pub returns-in-Sub : goal.returns-in-Sub
returns-in-Sub g c = let e = c.compute-in-Sub.ensures c.args.mem.now in search rules

pub returns-in-Sra : goal.returns-in-Sra
returns-in-Sra g c = let e = c.compute-in-Sra.ensures c.args.mem.now in search rules

pub returns-in-Mul : goal.returns-in-Mul
returns-in-Mul g c = let e = c.compute-in-Mul.ensures c.args.mem.now in search rules

pub returns-in-Mulh : goal.returns-in-Mulh
returns-in-Mulh g c = let e = c.compute-in-Mulh.ensures c.args.mem.now in search rules

pub returns-in-Mulhsu : goal.returns-in-Mulhsu
returns-in-Mulhsu g c = let e = c.compute-in-Mulhsu.ensures c.args.mem.now in search rules

pub returns-in-Mulhu : goal.returns-in-Mulhu
returns-in-Mulhu g c = let e = c.compute-in-Mulhu.ensures c.args.mem.now in search rules

pub returns-in-Div : goal.returns-in-Div
returns-in-Div g c = let e = c.compute-in-Div.ensures c.args.mem.now in search rules

pub returns-in-Divu : goal.returns-in-Divu
returns-in-Divu g c = let e = c.compute-in-Divu.ensures c.args.mem.now in search rules

pub returns-in-Rem : goal.returns-in-Rem
returns-in-Rem g c = let e = c.compute-in-Rem.ensures c.args.mem.now in search rules

pub returns-in-Remu : goal.returns-in-Remu
returns-in-Remu g c = let e = c.compute-in-Remu.ensures c.args.mem.now in search rules

pub returns-in-Addw : goal.returns-in-Addw
returns-in-Addw g c = let e = c.compute_w.ensures c.args.mem.now in search rules

pub returns-in-Sllw : goal.returns-in-Sllw
returns-in-Sllw g c = let e = c.compute_w-in-Sllw.ensures c.args.mem.now in search rules

pub returns-in-Srlw : goal.returns-in-Srlw
returns-in-Srlw g c = let e = c.compute_w-in-Srlw.ensures c.args.mem.now in search rules

pub returns-in-Subw : goal.returns-in-Subw
returns-in-Subw g c = let e = c.compute_w-in-Subw.ensures c.args.mem.now in search rules

pub returns-in-Sraw : goal.returns-in-Sraw
returns-in-Sraw g c = let e = c.compute_w-in-Sraw.ensures c.args.mem.now in search rules

pub returns-in-Mulw : goal.returns-in-Mulw
returns-in-Mulw g c = let e = c.compute_w-in-Mulw.ensures c.args.mem.now in search rules

pub returns-in-Divw : goal.returns-in-Divw
returns-in-Divw g c = let e = c.compute_w-in-Divw.ensures c.args.mem.now in search rules

pub returns-in-Divuw : goal.returns-in-Divuw
returns-in-Divuw g c = let e = c.compute_w-in-Divuw.ensures c.args.mem.now in search rules

pub returns-in-Remw : goal.returns-in-Remw
returns-in-Remw g c = let e = c.compute_w-in-Remw.ensures c.args.mem.now in search rules

pub returns-in-Remuw : goal.returns-in-Remuw
returns-in-Remuw g c = let e = c.compute_w-in-Remuw.ensures c.args.mem.now in search rules

pub returns-in-Fence : goal.returns-in-Fence
returns-in-Fence g c = let e = c.fence.ensures c.args.mem.now in search rules

pub returns-in-Ecall : goal.returns-in-Ecall
returns-in-Ecall g c = let e = c.ecall.ensures c.args.mem.now in search rules

pub returns-in-Ebreak : goal.returns-in-Ebreak
returns-in-Ebreak g c = let e = c.ebreak.ensures c.args.mem.now in search rules

pub returns-in-Illegal : goal.returns-in-Illegal
returns-in-Illegal g c = let e = c.illegal.ensures c.args.mem.now in search rules

pub returns-in-Hgate : goal.returns-in-Hgate
returns-in-Hgate g c = let e = c.meet.ensures c.args.mem.now in search rules

pub returns-in-Hleave : goal.returns-in-Hleave
returns-in-Hleave g c = let e = c.meet-in-Hleave.ensures c.args.mem.now in search rules

pub returns-in-Hsite : goal.returns-in-Hsite
returns-in-Hsite g c = let e = c.meet-in-Hsite.ensures c.args.mem.now in search rules

pub returns-in-Hkey : goal.returns-in-Hkey
returns-in-Hkey g c = let e = c.meet-in-Hkey.ensures c.args.mem.now in search rules

pub returns-in-Hstop : goal.returns-in-Hstop
returns-in-Hstop g c = let e = c.meet-in-Hstop.ensures c.args.mem.now in search rules

pub returns-in-Hrestart : goal.returns-in-Hrestart
returns-in-Hrestart g c = let e = c.meet-in-Hrestart.ensures c.args.mem.now in search rules

pub returns-in-Hcall : goal.returns-in-Hcall
returns-in-Hcall g c = let e = c.meet-in-Hcall.ensures c.args.mem.now in search rules

pub returns-in-Hpark : goal.returns-in-Hpark
returns-in-Hpark g c = let e = c.meet-in-Hpark.ensures c.args.mem.now in search rules
