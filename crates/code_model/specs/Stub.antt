-- The stub, which performs the calls of a rewritten program (this project's own). Words are counted from 1.
use Rattle.std.specs.Prelude.{ℕ, zero, suc, ◌+◌, ◌*◌, false, ℤ, pos, List, [], ◌∷◌, ◌++◌}
use Rattle.rv_decode.specs.declared.instr.Instr.{Instr}
use Rattle.rv_decode.specs.declared.instr.Instr.TheVariants.{Hleave, Hsite, Hkey, Hstop, Hrestart, Hcall}
use Rattle.rv_decode.specs.declared.instr.BranchOp.TheVariants.{Beq, Bne}
use Rattle.spec_base.specs.Layout.{link_start}
use Rattle.code_model.specs.Log.{box_start}
use Rattle.code_model.specs.Assembly.{hi, lui, addi, andi, slli, add, ld, sd, branch_to, jump_to, X31, X30, X29, VAL}

-- words 1 to 27: a call without key, or one whose key and count are the oldest pair of the log, is performed at word 26
abbrev pub check_words : List Instr
check_words =
    sd 31 X31 0 ∷ Hkey 31 ∷ branch_to Beq 31 0 3 25
    ∷ sd 30 X30 0 ∷ sd 29 X29 0 ∷ sd 31 VAL 0
    ∷ lui 30 (hi link_start) ∷ ld 29 (pos 0) 30 ∷ ld 31 (pos 8) 30
    ∷ branch_to Beq 29 31 10 28 ∷ andi 31 29 (pos 63) ∷ slli 31 31 4
    ∷ add 31 31 30 ∷ ld 29 (pos 256) 31 ∷ ld 30 VAL 0
    ∷ branch_to Bne 29 30 16 28 ∷ ld 29 (pos 264) 31 ∷ branch_to Bne 29 12 18 28
    ∷ lui 30 (hi link_start) ∷ ld 29 (pos 0) 30 ∷ addi 29 29 (pos 1)
    ∷ sd 29 (pos 0) 30 ∷ ld 29 X29 0 ∷ ld 30 X30 0
    ∷ ld 31 X31 0 ∷ Hcall false ∷ Hleave ∷ []

-- words 28 to 31: the shadow is stopped, and the log emptied
abbrev pub empty_words : List Instr
empty_words = Hstop ∷ lui 30 (hi link_start) ∷ sd 0 (pos 0) 30 ∷ sd 0 (pos 8) 30 ∷ []

-- xi is stored to its place in the box, for n registers from i on
abbrev pub box_stores : ℕ → ℕ → List Instr
box_stores i zero = []
box_stores i (suc n) = sd i (pos (8 * i)) 31 ∷ box_stores (i + 1) n

-- words 32 to 71: site and registers go into the box, the shadow is restarted, and the call is performed
abbrev pub box_words : List Instr
box_words =
    lui 31 (hi box_start) ∷ Hsite 30
    ∷ sd 30 (pos 0) 31 ∷ ld 30 X30 0 ∷ ld 29 X29 0
    ∷ (box_stores 1 30
    ++ ld 30 X31 0 ∷ sd 30 (pos 248) 31 ∷ ld 30 X30 0
    ∷ Hrestart ∷ jump_to 71 25 ∷ [])

-- the 71 words
abbrev pub stub : List Instr
stub = check_words ++ empty_words ++ box_words
