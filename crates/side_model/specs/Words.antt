-- What one word does to the shadow hart: all but loads and stores of what it shares, keys and calls, of which is said only what is asked (this project's own; the computing instructions by the RISC-V Unprivileged ISA 20191213, chapters 2 and 7).
use Rattle.std.specs.Prelude.{ℕ, zero, suc, Bool, cond, Option, Some, None}
use Rattle.spec_base.specs.Word.{word_of_int, plus_int}
use Rattle.spec_base.specs.declared.park.Park.{Park}
use Rattle.rv_decode.specs.declared.instr.Instr.{Instr}
use Rattle.rv_decode.specs.declared.instr.Instr.TheVariants.{Lui, Jal, Jalr, Branch, Load, Store, OpImm, OpImmW, Op, OpW, Fence, Hkey, Hcall, Hpark}
use Rattle.rv_decode.specs.declared.instr.LoadOp.{LoadOp}
use Rattle.rv_decode.specs.declared.instr.LoadOp.TheVariants.{Ld}
use Rattle.rv_decode.specs.declared.instr.StoreOp.{StoreOp}
use Rattle.rv_decode.specs.declared.instr.StoreOp.TheVariants.{Sd}
use Rattle.rv_model.specs.Memory.{Memory}
use Rattle.rv_model.specs.Arithmetic.{imm_result, imm_w_result, reg_result, reg_w_result, is_taken}
use Rattle.rv_model.specs.Effect.{even}
use Rattle.side_model.specs.Hart.{Regs, get, put, Priv, get_private, put_private, is_place}
use Rattle.code_model.specs.Tables.{Tabs}
use Rattle.side_model.specs.Places.{Place, Away, address, next}

-- where the shadow is: its place, registers and private places, and the table and the list
pub record Point : Type 0 where
  pub place : Place
  pub regs : Regs
  pub priv : Priv
  pub tabs : Tabs

-- a word leads to a point, loads a number into a register or stores one, asks for the key of a call or for a call, or parks. The point of a load, a store, a key or a call is the next word's, but for what is loaded, stored or answered. Each comes with the shared memory
pub data Out : Type 0 where
  Goes : Point → Memory → Out
  Loads : (op : LoadOp) (rd a : ℕ) → Point → Memory → Out
  Stores : (op : StoreOp) (a v : ℕ) → Point → Memory → Out
  Keys : (rd : ℕ) → Point → Memory → Out
  Calls : (unhinted : Bool) → Point → Memory → Out
  Parks : Park → Point → Memory → Out
  Fails : Out

-- ---- points

-- at the next word
abbrev pub onward : Point → Point
onward s = record s { place = next s.place }

-- with a register written
abbrev pub wrote : ℕ → ℕ → Point → Point
wrote rd v s = record s { regs = put rd v s.regs }

-- at an address, with the link in a register
abbrev pub jumped : ℕ → ℕ → ℕ → Point → Point
jumped base rd target s = record s { place = Away target; regs = put rd (address base (next s.place)) s.regs }

-- at an address, or at the next word
abbrev pub branched : Bool → ℕ → Point → Point
branched taken target s = record s { place = cond taken (Away target) (next s.place) }

-- ---- the private page, which x0 alone leads to

abbrev pub private_load : LoadOp → ℕ → Option ℕ → Point → Memory → Out
private_load Ld rd (Some v) s m = Goes (wrote rd v s) m
private_load _ rd _ s m = Fails

abbrev pub private_store : StoreOp → ℕ → ℕ → Point → Memory → Out
private_store Sd a v s m = cond (is_place a) (Goes (record s { priv = put_private a v s.priv }) m) Fails
private_store _ a v s m = Fails

-- ---- one word

-- an instruction in the block at base, or in a helper
abbrev pub exec : ℕ → Instr → Point → Memory → Out
exec base (Lui rd imm) s m = Goes (wrote rd (word_of_int imm) (onward s)) m
exec base (Jal rd imm) s m = Goes (jumped base rd (plus_int (address base s.place) imm) s) m
exec base (Jalr rd rs1 imm) s m = Goes (jumped base rd (even (plus_int (get rs1 s.regs) imm)) s) m
exec base (Branch op rs1 rs2 imm) s m = Goes (branched (is_taken op (get rs1 s.regs) (get rs2 s.regs)) (plus_int (address base s.place) imm) s) m
exec base (Load op rd zero imm) s m = private_load op rd (get_private (plus_int 0 imm) s.priv) (onward s) m
exec base (Load op rd (suc n) imm) s m = Loads op rd (plus_int (get (suc n) s.regs) imm) (onward s) m
exec base (Store op zero rs2 imm) s m = private_store op (plus_int 0 imm) (get rs2 s.regs) (onward s) m
exec base (Store op (suc n) rs2 imm) s m = Stores op (plus_int (get (suc n) s.regs) imm) (get rs2 s.regs) (onward s) m
exec base (OpImm op rd rs1 imm) s m = Goes (wrote rd (imm_result op (get rs1 s.regs) imm) (onward s)) m
exec base (OpImmW op rd rs1 imm) s m = Goes (wrote rd (imm_w_result op (get rs1 s.regs) imm) (onward s)) m
exec base (Op op rd rs1 rs2) s m = Goes (wrote rd (reg_result op (get rs1 s.regs) (get rs2 s.regs)) (onward s)) m
exec base (OpW op rd rs1 rs2) s m = Goes (wrote rd (reg_w_result op (get rs1 s.regs) (get rs2 s.regs)) (onward s)) m
exec base (Fence word) s m = Goes (onward s) m
exec base (Hkey rd) s m = Keys rd (onward s) m
exec base (Hcall unhinted) s m = Calls unhinted (onward s) m
exec base (Hpark cause) s m = Parks cause s m
exec base _ s m = Fails

-- the word at a place, if there is one
abbrev pub exec_some : ℕ → Option Instr → Point → Memory → Out
exec_some base None s m = Fails
exec_some base (Some i) s m = exec base i s m
