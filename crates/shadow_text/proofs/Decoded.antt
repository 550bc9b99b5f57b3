-- The immediates of decoded instructions fit their formats.
use Rattle.std.proofs.Common.{◌≡◌, ◌≢◌, ℕ, ◌^◌, ◌<◌, ℤ, sym, ◌∙◌, subst, arith, w64, to_z, of_z}
use Rattle.std.proofs.lemmas.Int.{ints}
use Rattle.rv_decode.specs.Formats.{FitsIn}
use Rattle.rv_decode.specs.Encoding.{IsEncodable}
use Rattle.rv_decode.specs.Instruction.{instr_of}
use Rattle.rv_decode.specs.declared.instr.Instr.{Instr}
use Rattle.rv_decode.specs.declared.instr.Instr.TheVariants.{Jalr, Branch, Load, Store, Illegal}
use Rattle.rv_decode.specs.declared.instr.BranchOp.{BranchOp}
use Rattle.rv_decode.specs.declared.instr.LoadOp.{LoadOp}
use Rattle.rv_decode.specs.declared.instr.StoreOp.{StoreOp}
use Rattle.rv_decode.proofs.Encodable.{decoded_is_encodable}

-- what a word decodes to can be encoded
encodable-as : (w : ℕ) (i j : Instr) → w < 2 ^ 32 → i ≡ instr_of w → i ≡ j → j ≢ Illegal → IsEncodable j
encodable-as w i j below decoded same legal =
    let found : instr_of w ≡ j = sym decoded ∙ same in
    subst IsEncodable found (decoded_is_encodable w below (λ illegal. legal (sym found ∙ illegal)))

-- such an immediate is the same as an i64
as_i64-12 : (imm : ℤ) → FitsIn 12 imm → FitsIn 12 (to_z w64 (of_z w64 imm))
as_i64-12 imm fits = grind (arith, ints)

as_i64-13 : (imm : ℤ) → FitsIn 13 imm → FitsIn 13 (to_z w64 (of_z w64 imm))
as_i64-13 imm fits = grind (arith, ints)

module _ (w : ℕ) (i : Instr) (below : w < 2 ^ 32) (decoded : i ≡ instr_of w) where
  pub jalr-fits : (rd rs1 : ℕ) (imm : ℤ) → i ≡ Jalr rd rs1 imm → FitsIn 12 (to_z w64 (of_z w64 imm))
  jalr-fits rd rs1 imm same = as_i64-12 imm (encodable-as w i (Jalr rd rs1 imm) below decoded same (λ e. cc))

  pub branch-fits : (op : BranchOp) (rs1 rs2 : ℕ) (imm : ℤ) → i ≡ Branch op rs1 rs2 imm → FitsIn 13 (to_z w64 (of_z w64 imm))
  branch-fits op rs1 rs2 imm same = as_i64-13 imm (encodable-as w i (Branch op rs1 rs2 imm) below decoded same (λ e. cc)).0

  pub load-fits : (op : LoadOp) (rd rs1 : ℕ) (imm : ℤ) → i ≡ Load op rd rs1 imm → FitsIn 12 (to_z w64 (of_z w64 imm))
  load-fits op rd rs1 imm same = as_i64-12 imm (encodable-as w i (Load op rd rs1 imm) below decoded same (λ e. cc))

  pub store-fits : (op : StoreOp) (rs1 rs2 : ℕ) (imm : ℤ) → i ≡ Store op rs1 rs2 imm → FitsIn 12 (to_z w64 (of_z w64 imm))
  store-fits op rs1 rs2 imm same = as_i64-12 imm (encodable-as w i (Store op rs1 rs2 imm) below decoded same (λ e. cc))
