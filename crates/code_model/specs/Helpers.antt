-- The helpers that blocks jump to (this project's own). Words are counted from 1.
use Rattle.std.specs.Prelude.{ℕ, zero, suc, ◌+◌, ◌-◌, ◌*◌, true, pos, negsuc, List, [], ◌∷◌, ◌++◌}
use Rattle.spec_base.specs.declared.layout.Layout.{Layout}
use Rattle.spec_base.specs.declared.park.Park.TheVariants as park
use Rattle.rv_decode.specs.declared.instr.Instr.{Instr}
use Rattle.rv_decode.specs.declared.instr.Instr.TheVariants.{Jal, Branch, Hkey, Hcall, Hpark}
use Rattle.rv_decode.specs.declared.instr.BranchOp.{BranchOp}
use Rattle.rv_decode.specs.declared.instr.BranchOp.TheVariants.{Beq, Bne, Bltu, Bgeu}
use Rattle.code_model.specs.Assembly.{diff, hi, lo, lui, addi, andi, slli, srli, add, sub, ld, lwu, sd, sw, jalr, branch_to, jump_to, X31, X30, X29, X28, ADR, RET, ENT, VAL}
use Rattle.spec_base.specs.Layout.{range_start, range_end, shadow_start, helpers_start, link_start, table_start, list_start, copies_start}
use Rattle.code_model.specs.Log.{box_start}
use Rattle.code_model.specs.Places.{LOAD1, LOAD2, LOAD4, LOAD8, STORE1, STORE2, STORE4, STORE8, JUMP, LTAIL, STAIL, APPEND, FAULT, FULL, LOGFULL}

-- word k of the helper at an offset branches to another helper
abbrev pub branch_out : BranchOp → ℕ → ℕ → ℕ → ℕ → ℕ → Instr
branch_out op rs1 rs2 helper k to = Branch op rs1 rs2 (diff to (helper + 4 * (k - 1)))

-- ---- LOADw and STOREw: the address in ADR is checked, and the tail finds its place

-- for an access of so many bytes: `reaching` is the least address from which it may reach into the text
abbrev pub access_helper : Layout → ℕ → ℕ → ℕ → ℕ → List Instr
access_helper l width reaching helper tail =
    sd 31 RET 0 ∷ sd 30 X30 0 ∷ ld 31 ADR 0
    ∷ andi 30 31 (pos (width - 1)) ∷ branch_out Bne 30 0 helper 5 FAULT ∷ lui 30 (hi range_start)
    ∷ branch_out Bltu 31 30 helper 7 FAULT ∷ lui 30 (hi (range_end l.version)) ∷ branch_out Bgeu 31 30 helper 9 FAULT
    ∷ lui 30 (hi reaching) ∷ addi 30 30 (lo reaching) ∷ branch_to Bltu 31 30 12 16
    ∷ lui 30 (hi l.text_end) ∷ addi 30 30 (lo l.text_end) ∷ branch_out Bltu 31 30 helper 15 FAULT
    ∷ Jal 0 (diff tail (helper + 60)) ∷ []

-- the eight of them. An access of 8 bytes can begin 4 bytes before the text, where that starts off a multiple of 8
abbrev pub access_helpers : Layout → List Instr
access_helpers l =
    access_helper l 1 l.text_start LOAD1 LTAIL ++ access_helper l 2 l.text_start LOAD2 LTAIL
    ++ access_helper l 4 l.text_start LOAD4 LTAIL ++ access_helper l 8 (l.text_start - 4) LOAD8 LTAIL
    ++ access_helper l 1 l.text_start STORE1 STAIL ++ access_helper l 2 l.text_start STORE2 STAIL
    ++ access_helper l 4 l.text_start STORE4 STAIL ++ access_helper l 8 (l.text_start - 4) STORE8 STAIL

-- ---- JUMP: to the block of the address in ADR

-- the 16 words of JUMP
abbrev pub jump_words : Layout → List Instr
jump_words l =
    sd 30 X30 0 ∷ ld 31 ADR 0 ∷ andi 31 31 (negsuc 1)
    ∷ andi 30 31 (pos 2) ∷ branch_out Bne 30 0 JUMP 5 FAULT ∷ lui 30 (hi l.text_start)
    ∷ addi 30 30 (lo l.text_start) ∷ sub 31 31 30 ∷ lui 30 (hi (l.text_end - l.text_start))
    ∷ addi 30 30 (lo (l.text_end - l.text_start)) ∷ branch_out Bgeu 31 30 JUMP 11 FAULT ∷ slli 31 31 4
    ∷ lui 30 (hi shadow_start) ∷ add 31 31 30 ∷ ld 30 X30 0
    ∷ jalr 0 (pos 0) 31 ∷ []

-- ---- LTAIL: x31 becomes the place to load from

-- the 15 words of LTAIL
abbrev pub load_tail : List Instr
load_tail =
    srli 30 31 8 ∷ slli 30 30 2 ∷ lui 31 (hi table_start)
    ∷ add 30 30 31 ∷ lwu 30 (pos 0) 30 ∷ ld 31 ADR 0
    ∷ branch_to Beq 30 0 7 14 ∷ slli 30 30 8 ∷ andi 31 31 (pos 255)
    ∷ add 31 31 30 ∷ lui 30 (hi copies_start) ∷ add 31 31 30
    ∷ addi 31 31 (negsuc 255) ∷ ld 30 RET 0 ∷ jalr 0 (pos 0) 30 ∷ []

-- ---- STAIL: x31 becomes the place to store to. Words 7 to 37 make a new copy: its bytes, its word of the list, the count, and last its entry in the table

-- the 46 words of STAIL
abbrev pub store_tail : Layout → List Instr
store_tail l =
    srli 30 31 8 ∷ slli 30 30 2 ∷ lui 31 (hi table_start)
    ∷ add 30 30 31 ∷ lwu 31 (pos 0) 30 ∷ branch_to Bne 31 0 6 38
    ∷ sd 30 ENT 0 ∷ sd 29 X29 0 ∷ sd 28 X28 0
    ∷ lui 28 (hi list_start) ∷ ld 29 (pos 0) 28 ∷ lui 31 (hi l.regions)
    ∷ addi 31 31 (lo l.regions) ∷ branch_out Bgeu 29 31 STAIL 14 FULL ∷ slli 31 29 8
    ∷ lui 30 (hi copies_start) ∷ add 31 31 30 ∷ ld 30 ADR 0
    ∷ andi 30 30 (negsuc 255) ∷ addi 29 31 (pos 256) ∷ ld 28 (pos 0) 30
    ∷ sd 28 (pos 0) 31 ∷ addi 30 30 (pos 8) ∷ addi 31 31 (pos 8)
    ∷ branch_to Bltu 31 29 25 21 ∷ lui 28 (hi list_start) ∷ ld 29 (pos 0) 28
    ∷ slli 30 29 2 ∷ add 30 30 28 ∷ ld 31 ENT 0
    ∷ sw 31 (pos 8) 30 ∷ addi 29 29 (pos 1) ∷ sd 29 (pos 0) 28
    ∷ sw 29 (pos 0) 31 ∷ addi 31 29 (pos 0) ∷ ld 29 X29 0
    ∷ ld 28 X28 0 ∷ slli 30 31 8 ∷ lui 31 (hi copies_start)
    ∷ add 30 30 31 ∷ ld 31 ADR 0 ∷ andi 31 31 (pos 255)
    ∷ add 31 31 30 ∷ addi 31 31 (negsuc 255) ∷ ld 30 RET 0
    ∷ jalr 0 (pos 0) 30 ∷ []

-- ---- APPEND: a keyed read joins the hint log as its key and its asked count

-- the 24 words of APPEND
abbrev pub append_words : List Instr
append_words =
    sd 31 RET 0 ∷ sd 30 X30 0 ∷ Hkey 31
    ∷ branch_to Beq 31 0 4 23 ∷ sd 31 VAL 0 ∷ sd 29 X29 0
    ∷ lui 30 (hi link_start) ∷ ld 31 (pos 8) 30 ∷ ld 29 (pos 0) 30
    ∷ sub 29 31 29 ∷ addi 29 29 (negsuc 63) ∷ branch_out Beq 29 0 APPEND 12 LOGFULL
    ∷ andi 29 31 (pos 63) ∷ slli 29 29 4 ∷ add 29 29 30
    ∷ ld 31 VAL 0 ∷ sd 31 (pos 256) 29 ∷ sd 12 (pos 264) 29
    ∷ ld 31 (pos 8) 30 ∷ addi 31 31 (pos 1) ∷ sd 31 (pos 8) 30
    ∷ ld 29 X29 0 ∷ ld 30 RET 0 ∷ jalr 0 (pos 0) 30 ∷ []

-- ---- RESTART: words 1 to 11 clear the regions, and the rest goes on from the box

-- xi is loaded from its place in the box, for n registers from i on
abbrev pub box_loads : ℕ → ℕ → List Instr
box_loads i zero = []
box_loads i (suc n) = ld i (pos (8 * i)) 31 ∷ box_loads (i + 1) n

-- words 1 to 11 of RESTART: each listed entry of the table becomes 0, and then the count
abbrev pub clear_words : List Instr
clear_words =
    lui 28 (hi list_start) ∷ ld 29 (pos 0) 28 ∷ addi 30 28 (pos 8)
    ∷ slli 29 29 2 ∷ add 29 29 30 ∷ branch_to Bgeu 30 29 6 11
    ∷ lwu 31 (pos 0) 30 ∷ sw 0 (pos 0) 31 ∷ addi 30 30 (pos 4)
    ∷ jump_to 10 6 ∷ sd 0 (pos 0) 28 ∷ []

-- words 12 to 50 of RESTART: the registers come from the box, the restarting read is assumed, and JUMP goes on behind the site
abbrev pub unbox_words : List Instr
unbox_words =
    lui 31 (hi box_start)
    ∷ ld 30 (pos 0) 31 ∷ addi 30 30 (pos 4) ∷ sd 30 ADR 0
    ∷ ld 30 (pos 248) 31 ∷ sd 30 X31 0
    ∷ (box_loads 1 30
    ++ Hcall true ∷ lui 31 (hi (helpers_start + JUMP)) ∷ jalr 0 (lo (helpers_start + JUMP)) 31 ∷ [])

-- ---- the 282 words

-- all helpers, in the order of their offsets
abbrev pub helpers : Layout → List Instr
helpers l =
    access_helpers l ++ jump_words l ++ load_tail ++ store_tail l ++ append_words ++ clear_words ++ unbox_words
    ++ Hpark park.Fault ∷ Hpark park.Regions ∷ Hpark park.LogFull ∷ []
